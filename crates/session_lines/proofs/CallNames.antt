-- A call is known by its name.
use Rattle.std.proofs.Common.{◌≡◌, ℕ, ℤ, eqb, if◌then◌else◌, List, get_or, Ok, Err, Result, refl, sym, ap, ◌∙◌}
use Rattle.std.specs.Prelude.{IsErrAnd}
use Rattle.calls.specs.Names.{name_text, name_of}
use Rattle.calls.specs.declared.call.Call.{Call}
use Rattle.calls.specs.declared.call.Call.TheVariants as C
use Rattle.calls.specs.declared.call.CallName.{CallName}
use Rattle.calls.specs.declared.call.CallName.TheVariants.{Begin, Read, Write, Prepare, Vote, Decide, Abort, Finish, Close}
use Rattle.words.specs.Words.{Leads}
use Rattle.session_lines.specs.Grammar.{Argument, ArgumentsOf, FaultOf, Derivable, MatchReading}
use Rattle.session_lines.specs.Calls.{only_seat, seat_and_entry, write_arguments, arguments_of, CallLine}
use Rattle.session_lines.specs.declared.timescale.Timescale.{Timescale}
use Rattle.session_lines.specs.declared.fault.Cause.{Cause}
use Rattle.session_lines.proofs.Derivings.{spelled, fault_carries}

-- the names differ in their first letter
abbrev by_letter : ℕ → CallName
by_letter c =
    if eqb c 98 then Begin else if eqb c 114 then Read else if eqb c 119 then Write else if eqb c 112 then Prepare
    else if eqb c 118 then Vote else if eqb c 100 then Decide else if eqb c 97 then Abort else if eqb c 102 then Finish else Close

known : (n : CallName) → by_letter (get_or (name_text n) 0 0) ≡ n
known Begin = refl
known Read = refl
known Write = refl
known Prepare = refl
known Vote = refl
known Decide = refl
known Abort = refl
known Finish = refl
known Close = refl

pub same_name : (m n : CallName) → name_text m ≡ name_text n → m ≡ n
same_name m n e = sym (known m) ∙ ap (λ t. by_letter (get_or t 0 0)) e ∙ known n

-- the numbers of a call of this name, what they are as arguments, and the call that has them
abbrev Numbers : CallName → Type 0
Numbers Begin = ℕ
Numbers Read = ℕ × ℕ
Numbers Write = ℕ × ℕ × ℤ
Numbers Prepare = ℕ
Numbers Vote = ℕ × ℕ
Numbers Decide = ℕ
Numbers Abort = ℕ
Numbers Finish = ℕ × ℕ
Numbers Close = ℕ

abbrev listed : Timescale → (n : CallName) → Numbers n → List Argument
listed _ Begin = only_seat
listed _ Read = seat_and_entry
listed t Write = write_arguments t
listed _ Prepare = only_seat
listed _ Vote = seat_and_entry
listed _ Decide = only_seat
listed _ Abort = only_seat
listed _ Finish = seat_and_entry
listed _ Close = only_seat

numbered : (t : Timescale) (n : CallName) (x : Numbers n) → (call : Call) × (name_of call ≡ n) × (arguments_of t call ≡ listed t n x)
numbered t Begin x = (C.Begin x, refl, refl)
numbered t Read x = (C.Read x.0 x.1, refl, refl)
numbered t Write x = (C.Write x.0 x.1 x.2, refl, refl)
numbered t Prepare x = (C.Prepare x, refl, refl)
numbered t Vote x = (C.Vote x.0 x.1, refl, refl)
numbered t Decide x = (C.Decide x, refl, refl)
numbered t Abort x = (C.Abort x, refl, refl)
numbered t Finish x = (C.Finish x.0 x.1, refl, refl)
numbered t Close x = (C.Close x, refl, refl)

numbers_of : (t : Timescale) (call : Call) → (x : Numbers (name_of call)) × (arguments_of t call ≡ listed t (name_of call) x)
numbers_of t (C.Begin seat) = (seat, refl)
numbers_of t (C.Read seat entry) = ((seat, entry), refl)
numbers_of t (C.Write seat entry value) = ((seat, entry, value), refl)
numbers_of t (C.Prepare seat) = (seat, refl)
numbers_of t (C.Vote seat entry) = ((seat, entry), refl)
numbers_of t (C.Decide seat) = (seat, refl)
numbers_of t (C.Abort seat) = (seat, refl)
numbers_of t (C.Finish seat entry) = ((seat, entry), refl)
numbers_of t (C.Close seat) = (seat, refl)

numbers_under : (t : Timescale) (n : CallName) (call : Call) → name_of call ≡ n → (x : Numbers n) × (arguments_of t call ≡ listed t n x)
numbers_under t n call e = rw e at (numbers_of t call)

-- where a reader stops behind a name, at numbers that are amiss
pub stops_behind : (t : Timescale) (n : CallName) (line rest word : List ℕ) (r : Result Call Cause) (cause : Cause) → Leads word rest line → name_text n ≡ word
    → FaultOf (ArgumentsOf (listed t n) rest) cause → IsErrAnd r (λ e. e ≡ cause) → MatchReading r (CallLine t line)
stops_behind t n line rest word (Ok call) cause leads is h was = absurd was
stops_behind t n line rest word (Err e) cause leads is h was =
    rw was (fault_carries (Derivable (ArgumentsOf (listed t n) rest)) (Derivable (CallLine t line)) cause
    (λ how d.
    let made = numbered t n d.0 in
    (made.0, (rest, rw (made.1, is) leads, rw made.2 d.1)))
    (λ how d.
    let found = spelled how (name_text (name_of d.0)) word (arguments_of t d.0) rest line leads d.1 in
    let x = numbers_under t n d.0 (same_name (name_of d.0) n (sym found.0 ∙ sym is)) in
    (x.0, rw (← x.1) found.1))
    h)
