-- Calls so far and a call more.
use Rattle.std.proofs.Common.{◌≡◌, ℕ, suc, ◌+◌, ◌<◌, List, [], ◌∷◌, ◌++◌, length, refl, ap, arith, append_assoc, length-append}
use Rattle.calls.specs.declared.call.Call.{Call}
use Rattle.session_lines.specs.Grammar.{Strictness}
use Rattle.session_lines.specs.Calls.{CallLine}
use Rattle.session_lines.specs.declared.fault.SessionFault.{SessionFault}
use Rattle.session_lines.specs.declared.timescale.Timescale.{Timescale}
use Rattle.session_file.specs.Files.{BeginsWith, CallLines, FaultOfCalls}
use Rattle.session_file.specs.declared.session.LineCall.{LineCall}

pub one_more : (t : Timescale) (first line : ℕ) (calls : List LineCall) (call : Call) (after rest text : List ℕ) → BeginsWith (CallLine t) call after rest
    → ((more : List LineCall) → CallLines t line more rest → CallLines t first (calls ++ more) text)
    → (more : List LineCall) → CallLines t (line + 1) more after → CallLines t first ((calls ++ record { line = line; call = call } ∷ []) ++ more) text
one_more t first line calls call after rest text begins so_far more h =
    rw append_assoc (so_far (record { line = line; call = call } ∷ more) (after, begins, refl, h))

pub one_later : (t : Timescale) (line : ℕ) (call : Call) (after rest : List ℕ) (fault : SessionFault) → BeginsWith (CallLine t) call after rest
    → FaultOfCalls t (line + 1) after fault → FaultOfCalls t line rest fault
one_later t line call after rest fault begins h = (suc h.0, (call, after, begins, h.1))

pub one_shorter : {A : Type 0} (D : List ℕ → Strictness → A → Type 0) (a : A) (rest text : List ℕ) → BeginsWith D a rest text → length rest < length text
one_shorter D a rest text h = omega (arith, ap length h.1.ended, length-append h.0 (10 ∷ rest))

pub empty : (xs : List ℕ) → length xs ≡ 0 → xs ≡ []
empty [] h = refl
empty (x ∷ xs) h = absurd (omega (arith, h))
