-- What a session file is read as.
use Rattle.std.specs.Prelude.{◌≡◌, ℕ, List, Ok, Err, Result, MatchResult}
use Rattle.calls.specs.declared.failure.Failure.{Failure}
use Rattle.calls.specs.declared.failure.Failure.TheVariants.{NoMemory}
use Rattle.session_lines.specs.declared.fault.Cause.{Cause}
use Rattle.session_lines.specs.declared.fault.SessionFault.{SessionFault}
use Rattle.session_lines.specs.declared.sizes.Sizes.{Sizes}
use Rattle.session_lines.specs.declared.timescale.Timescale.{Timescale}
use Rattle.session_file.specs.Files.{Reading, Derives, BeginsWith, BeginsAmiss, HasTimescale}
use Rattle.session_file.specs.declared.session.LineCall.{LineCall}
use Rattle.session_file.specs.declared.session.Session.{Session}
use denote.Ref.{Bor}

abbrev pub DerivesSession : List ℕ → Session → Type 0
DerivesSession file session = Derives file session.timescale session.sizes session.calls.items

-- a session has these parts
abbrev pub IsOf : Timescale → Sizes → List LineCall → Session → Type 0
IsOf timescale sizes calls session =
    (session.timescale ≡ timescale) × (session.sizes ≡ sizes) × (session.calls.items ≡ calls)

-- no other session is read from a file that derives this one, and no fault is found
abbrev pub ReadsOnly : List ℕ → Result Session (Failure SessionFault) → Type 0
ReadsOnly file result =
    (timescale : Timescale) (sizes : Sizes) (calls : List LineCall)
    → Derives file timescale sizes calls
    → MatchResult result (IsOf timescale sizes calls) (λ failure. failure ≡ NoMemory)

-- what was read is what it was, and what is amiss is amiss on this line
abbrev pub IsOnLine : {T : Type 0} → ℕ → Result T Cause → Result T SessionFault → Type 0
IsOnLine line read result =
    MatchResult result
    (λ found. read ≡ Ok found)
    (λ fault. (fault.line ≡ line) × (read ≡ Err fault.cause))

-- what a text begins with was read, and what follows it is left
abbrev pub HasPart : {A : Type 0} → Reading A → List ℕ → A × Bor (List ℕ) → Type 0
HasPart Derives text found = BeginsWith Derives found.0 found.1.now text

abbrev pub HasFirstPart : List ℕ → Timescale × Bor (List ℕ) → Type 0
HasFirstPart file found = HasTimescale file found.0 found.1.now

abbrev pub MatchPart : {A : Type 0} → Result (A × Bor (List ℕ)) Cause → Reading A → List ℕ → Type 0
MatchPart result Derives text = MatchResult result (HasPart Derives text) (BeginsAmiss Derives text)
