-- A file derives one session, and a file that derives one has no fault.
use Rattle.std.proofs.Common.{inl, inr, ◌≡◌, ℕ, ◌+◌, zero, suc, List, [], ◌∷◌, Ok, Err, Result, MatchResult, length, refl, sym, ap, ◌∙◌, arith, length-append}
use Rattle.calls.specs.Failures.{IfRefused}
use Rattle.calls.specs.declared.failure.Failure.{Failure}
use Rattle.calls.specs.declared.failure.Failure.TheVariants.{Refused, NoMemory}
use Rattle.calls.specs.declared.call.Call.{Call}
use Rattle.words.specs.Lines.{Begins}
use Rattle.words.proofs.Cuts.{one_cut}
use Rattle.session_lines.specs.Grammar.{Strictness, InReach, FaultOf}
use Rattle.session_lines.specs.Calls.{CallLine}
use Rattle.session_lines.specs.Sizes.{SizesLine}
use Rattle.session_lines.specs.Timescales.{TimescaleLine}
use Rattle.session_lines.specs.declared.fault.Cause.{Cause}
use Rattle.session_lines.specs.declared.fault.SessionFault.{SessionFault}
use Rattle.session_lines.specs.declared.sizes.Sizes.{Sizes}
use Rattle.session_lines.specs.declared.timescale.Timescale.{Timescale}
use Rattle.session_file.specs.Files.{BeginsWith, BeginsAmiss, CallLines, Derives, CallsFault, FirstFault, first_call_line}
use Rattle.session_file.specs.Sessions.{DerivesSession, ReadsOnly}
use Rattle.session_file.specs.declared.session.LineCall.{LineCall}
use Rattle.session_file.specs.declared.session.Session.{Session}
use Rattle.session_file.proofs.Lines.{timescale_one, sizes_one, call_one, timescale_sound, sizes_sound, call_sound}

begins_one : (a b x y text : List ℕ) → Begins a x text → Begins b y text → (a ≡ b) × (x ≡ y)
begins_one a b x y text h k = one_cut 10 a b x y h.is_line.whole k.is_line.whole (sym h.ended ∙ k.ended)

-- a text that begins with a line is not empty
some_line : {A : Type 0} (D : List ℕ → Strictness → A → Type 0) (a : A) (rest text : List ℕ) → BeginsWith D a rest text → text ≡ [] → ⊥
some_line D a rest text h e = omega (arith, ap length h.1.ended, ap length e, length-append h.0 (10 ∷ rest))

-- both first lines are one line
same_line : {A B : Type 0} (D : List ℕ → Strictness → A → Type 0) (E : List ℕ → Strictness → B → Type 0) (a : A) (b : B) (x y text : List ℕ)
    → BeginsWith D a x text → BeginsWith E b y text → (x ≡ y) × ((line : List ℕ) × D line InReach a × E line InReach b)
same_line D E a b x y text h k =
    let same = begins_one h.0 k.0 x y text h.1 k.1 in (same.1, (h.0, h.2, rw same.0 k.2))

not_amiss : {A : Type 0} (D : List ℕ → Strictness → A → Type 0) (a : A) (rest text : List ℕ) (cause : Cause) → BeginsWith D a rest text
    → ((line : List ℕ) → D line InReach a → FaultOf (D line) cause → ⊥) → BeginsAmiss D text cause → ⊥
not_amiss D a rest text cause h apart (inl none) = none.1 h.0 rest h.1
not_amiss D a rest text cause h apart (inr (other, line, begins, amiss)) =
    let same = begins_one h.0 line rest other text h.1 begins in apart h.0 h.2 (rw same.0 amiss)

abbrev line_call : ℕ → Call → LineCall
line_call line call = record { line = line; call = call }

calls_one : (t : Timescale) (line : ℕ) (cs ds : List LineCall) (text : List ℕ) → CallLines t line cs text → CallLines t line ds text → cs ≡ ds
calls_one t line [] [] text h k = refl
calls_one t line [] (d ∷ ds) text h k = absurd (some_line (CallLine t) d.call k.0 text k.1 h)
calls_one t line (c ∷ cs) [] text h k = absurd (some_line (CallLine t) c.call h.0 text h.1 k)
calls_one t line (c ∷ cs) (d ∷ ds) text h k =
    let same = same_line (CallLine t) (CallLine t) c.call d.call h.0 k.0 text h.1 k.1 in
    let call : c.call ≡ d.call = call_one t same.1.0 c.call d.call same.1.1 same.1.2 in
    let number : c.line ≡ d.line = h.2 ∙ sym k.2 in
    let this : c ≡ d = ap (λ n. line_call n c.call) number ∙ ap (line_call d.line) call in
    let others : cs ≡ ds = calls_one t (line + 1) cs ds k.0 (rw (← same.0) h.3) k.3 in cc (this, others)

no_calls_fault : (t : Timescale) (line good : ℕ) (cs : List LineCall) (text : List ℕ) (fault : SessionFault) → CallLines t line cs text → CallsFault t line good text fault → ⊥
no_calls_fault t line zero [] text fault h k = omega (arith, ap length h, k.1)
no_calls_fault t line zero (c ∷ cs) text fault h k =
    not_amiss (CallLine t) c.call h.0 text fault.cause h.1 (λ l d amiss. call_sound t l c.call fault.cause d amiss) k.2
no_calls_fault t line (suc good) [] text fault h k = some_line (CallLine t) k.0 k.1 text k.2 h
no_calls_fault t line (suc good) (c ∷ cs) text fault h k =
    let same = same_line (CallLine t) (CallLine t) c.call k.0 h.0 k.1 text h.1 k.2 in
    no_calls_fault t (line + 1) good cs k.1 fault (rw (← same.0) h.3) k.3

derives_one : (file : List ℕ) (t s : Timescale) (a b : Sizes) (cs ds : List LineCall) → Derives file t a cs → Derives file s b ds → (t ≡ s) × (a ≡ b) × (cs ≡ ds)
derives_one file t s a b cs ds h k =
    let firsts = same_line TimescaleLine TimescaleLine t s h.1.0 k.1.0 file h.1.1.1 k.1.1.1 in
    let scales : t ≡ s = timescale_one firsts.1.0 t s firsts.1.1 firsts.1.2 in
    let seconds = same_line SizesLine SizesLine a b h.0 k.0 k.1.0 (rw (← firsts.0) h.1.2) k.1.2 in
    let sizes : a ≡ b = sizes_one seconds.1.0 a b seconds.1.1 seconds.1.2 in
    (scales, sizes, calls_one s first_call_line cs ds k.0 (rw (← scales, ← seconds.0) h.2) k.2)

no_fault : (file : List ℕ) (t : Timescale) (sizes : Sizes) (calls : List LineCall) (fault : SessionFault) → Derives file t sizes calls → FirstFault file fault → ⊥
no_fault file t sizes calls fault h (inl (is, inl (long, why))) = omega (arith, long, h.1.1.0)
no_fault file t sizes calls fault h (inl (is, inr (short, amiss))) =
    not_amiss TimescaleLine t h.1.0 file fault.cause h.1.1.1 (λ line d k. timescale_sound line t fault.cause d k) amiss
no_fault file t sizes calls fault h (inr (inl (is, (s, rest, first, inl (none, why))))) =
    let firsts = same_line TimescaleLine TimescaleLine t s h.1.0 rest file h.1.1.1 first.1 in
    some_line SizesLine sizes h.0 rest (rw (← firsts.0) h.1.2) none
no_fault file t sizes calls fault h (inr (inl (is, (s, rest, first, inr (some, amiss))))) =
    let firsts = same_line TimescaleLine TimescaleLine t s h.1.0 rest file h.1.1.1 first.1 in
    not_amiss SizesLine sizes h.0 rest fault.cause (rw (← firsts.0) h.1.2) (λ line d k. sizes_sound line sizes fault.cause d k) amiss
no_fault file t sizes calls fault h (inr (inr (s, b, y, (x, first, second), (good, amiss)))) =
    let firsts = same_line TimescaleLine TimescaleLine t s h.1.0 x file h.1.1.1 first.1 in
    let scales : t ≡ s = timescale_one firsts.1.0 t s firsts.1.1 firsts.1.2 in
    let seconds = same_line SizesLine SizesLine sizes b h.0 y x (rw (← firsts.0) h.1.2) second in
    no_calls_fault s first_call_line good calls y fault (rw (← scales, ← seconds.0) h.2) amiss

pub whole_only : (r : Result Session (Failure SessionFault)) (file : List ℕ) → MatchResult r (DerivesSession file) (IfRefused (FirstFault file)) → ReadsOnly file r
whole_only (Ok session) file h t sizes calls d = derives_one file session.timescale t session.sizes sizes session.calls.items calls h d
whole_only (Err (Refused fault)) file h t sizes calls d = absurd (no_fault file t sizes calls fault d h)
whole_only (Err NoMemory) file h t sizes calls d = refl
