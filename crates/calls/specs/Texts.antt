-- How calls, replies and refusals are printed.
use Rattle.std.specs.Prelude.{ℕ, true, false, List, [], ◌++◌, codes}
use Rattle.std.specs.Fmt.{decimal, signed_decimal}
use Rattle.calls.specs.declared.answer.Decision.{Decision}
use Rattle.calls.specs.declared.answer.Decision.TheVariants as D
use Rattle.calls.specs.declared.answer.Reply.{Reply}
use Rattle.calls.specs.declared.answer.Reply.TheVariants as R
use Rattle.calls.specs.declared.call.Call.{Call}
use Rattle.calls.specs.declared.call.Call.TheVariants as C
use Rattle.calls.specs.declared.fault.Fault.{Fault}
use Rattle.calls.specs.Names.{name_text, name_of, seat_of}
use Rattle.calls.specs.Faults.{fault_number}

abbrev pub decision_text : Decision → List ℕ
decision_text D.Commit = codes "commit"
decision_text D.Abort = codes "abort"

abbrev pub reply_text : Reply → List ℕ
reply_text (R.Serial serial) = codes "serial " ++ decimal serial
reply_text (R.Value value) = codes "value " ++ signed_decimal value
reply_text (R.Voted true) = codes "vote yes"
reply_text (R.Voted false) = codes "vote no"
reply_text (R.Decided decision) = codes "decided " ++ decision_text decision
reply_text R.Done = codes "ok"

-- what a call asks for beside its seat: an entry, and a value too, or nothing
abbrev pub rest_text : Call → List ℕ
rest_text (C.Begin _) = []
rest_text (C.Read _ entry) = codes " " ++ decimal entry
rest_text (C.Write _ entry value) = codes " " ++ decimal entry ++ codes " " ++ signed_decimal value
rest_text (C.Prepare _) = []
rest_text (C.Vote _ entry) = codes " " ++ decimal entry
rest_text (C.Decide _) = []
rest_text (C.Abort _) = []
rest_text (C.Finish _ entry) = codes " " ++ decimal entry
rest_text (C.Close _) = []

-- a call by its name and its numbers
abbrev pub call_text : Call → List ℕ
call_text call = name_text (name_of call) ++ codes " " ++ decimal (seat_of call) ++ rest_text call

abbrev pub fault_text : Fault → List ℕ
fault_text fault = codes "refused " ++ decimal (fault_number fault)
