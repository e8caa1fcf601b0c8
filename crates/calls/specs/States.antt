-- The step table: the state that a call leads to from each state of its seat, or none where it is refused.
use Rattle.std.specs.Prelude.{Some, None, Option}
use Rattle.calls.specs.declared.state.State.{State}
use Rattle.calls.specs.declared.state.State.TheVariants.{Idle, Editing, Voting, Commit, Abort}
use Rattle.calls.specs.declared.call.CallName.{CallName}
use Rattle.calls.specs.declared.call.CallName.TheVariants as N

-- a decide leads to commit here, and to abort instead where a vote is no
abbrev pub next_state : CallName → State → Option State
next_state N.Begin Idle = Some Editing
next_state N.Read Editing = Some Editing
next_state N.Write Editing = Some Editing
next_state N.Prepare Editing = Some Voting
next_state N.Vote Voting = Some Voting
next_state N.Decide Voting = Some Commit
next_state N.Abort Editing = Some Abort
next_state N.Abort Voting = Some Abort
next_state N.Finish Commit = Some Commit
next_state N.Finish Abort = Some Abort
next_state N.Close Commit = Some Idle
next_state N.Close Abort = Some Idle
next_state _ _ = None
