-- Every other line of a session: a call.
use Rattle.std.specs.Prelude.{ℕ, List, [], ◌∷◌, ℤ}
use Rattle.calls.specs.Names.{name_text, name_of}
use Rattle.calls.specs.declared.call.Call.{Call}
use Rattle.calls.specs.declared.call.Call.TheVariants.{Begin, Read, Write, Prepare, Vote, Decide, Abort, Finish, Close}
use Rattle.session_lines.specs.Grammar.{Strictness, Argument, Plain, Scaled, Spells}
use Rattle.session_lines.specs.declared.timescale.Timescale.{Timescale}

abbrev pub only_seat : ℕ → List Argument
only_seat seat = Plain seat ∷ []

abbrev pub seat_and_entry : ℕ × ℕ → List Argument
seat_and_entry numbers = Plain numbers.0 ∷ Plain numbers.1 ∷ []

abbrev pub write_arguments : Timescale → ℕ × ℕ × ℤ → List Argument
write_arguments timescale numbers =
    Plain numbers.0 ∷ Plain numbers.1 ∷ Scaled timescale numbers.2 ∷ []

-- the numbers of a call, in their order
abbrev pub arguments_of : Timescale → Call → List Argument
arguments_of _ (Begin seat) = only_seat seat
arguments_of _ (Read seat entry) = seat_and_entry (seat, entry)
arguments_of timescale (Write seat entry value) = write_arguments timescale (seat, entry, value)
arguments_of _ (Prepare seat) = only_seat seat
arguments_of _ (Vote seat entry) = seat_and_entry (seat, entry)
arguments_of _ (Decide seat) = only_seat seat
arguments_of _ (Abort seat) = only_seat seat
arguments_of _ (Finish seat entry) = seat_and_entry (seat, entry)
arguments_of _ (Close seat) = only_seat seat

-- a line derives a call: its words are the name of the call and its numbers
abbrev pub CallLine : Timescale → List ℕ → Strictness → Call → Type 0
CallLine timescale line how call =
    Spells how (name_text (name_of call)) (arguments_of timescale call) line
