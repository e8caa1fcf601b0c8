-- The calls that are left of an edit, what becomes of it, and what they leave.
use Rattle.std.specs.Prelude.{◌≡◌, ◌≢◌, ℕ, ◌≤◌, Bool, false, ◌&&◌, not, if◌then◌else◌, ◌==◌, nat_lt, List, [], ◌∷◌, ◌++◌, All, IsOk, IsTrue}
use Rattle.calls.specs.declared.answer.Decision.{Decision}
use Rattle.calls.specs.declared.answer.Decision.TheVariants as D
use Rattle.calls.specs.declared.call.Call.{Call}
use Rattle.calls.specs.declared.call.Call.TheVariants as C
use Rattle.calls.specs.declared.state.State.{State}
use Rattle.calls.specs.declared.state.State.TheVariants.{Idle, Editing, Voting, Commit, Abort}
use Rattle.calls.specs.Answers.{Answer}
use Rattle.calls.specs.Names.{seat_of}
use Rattle.store.specs.declared.reading.ReadingStore as reading_store
use Rattle.store.specs.declared.writing.WritingStore as writing_store
use Rattle.store.specs.Numbers.{most_seats, most_entries}
use Rattle.rules.specs.declared.house.HouseRule as house_rule
use Rattle.pool.specs.declared.pool.Pool.{Pool}
use Rattle.pool.specs.Masks.{has_member}
use Rattle.pool.specs.Locks.{holds}
use Rattle.pool.specs.Tables.{seat_status, row_at, has_seat}
use Rattle.pool.specs.Calls.{Rule, PoolState, answer_of, state_after, perform}
use Rattle.pool.specs.Pools.{state_of, rule_of}
use Rattle.promise.specs.Histories.{Operation, history, decision_said}
use Rattle.runner.specs.Runs.{Reached, PerformsEach, IsAloneBetween, holders}
use Rattle.tickets.specs.declared.outcome.Outcome.{Outcome}
use Rattle.tickets.specs.declared.outcome.Outcome.TheVariants as O
use Rattle.tickets.specs.declared.ticket.Ticket.{Ticket}
use Rattle.tickets.specs.Lists.{state_after_calls, answers_to, calls_for_each}

-- the state of the edit of a seat and serial; idle where the pool has no such seat, or the seat is at another serial
abbrev pub edit_state : PoolState → ℕ → ℕ → State
edit_state state seat serial =
    let status = seat_status state.table seat in
    if has_seat state.table seat && status.serial == serial then status.state else Idle

-- ------------------------------------------------------------ the calls that are left

-- the seat holds the lock of the entry
abbrev pub holds_lock : PoolState → ℕ → ℕ → Bool
holds_lock state seat entry = nat_lt seat most_seats && nat_lt entry most_entries && holds (row_at state.table entry) seat

-- it holds it, and has not voted on the entry
abbrev pub owes_vote : PoolState → ℕ → ℕ → Bool
owes_vote state seat entry = holds_lock state seat entry && not (has_member (seat_status state.table seat).voted entry)

-- a vote for each entry that the seat holds and has not voted on
abbrev pub votes_left : PoolState → ℕ → List Call
votes_left state seat = calls_for_each (owes_vote state seat) (C.Vote seat) state.store.reading.entries

-- a finish for each entry that it holds
abbrev pub finishes_left : PoolState → ℕ → List Call
finishes_left state seat = calls_for_each (holds_lock state seat) (C.Finish seat) state.store.reading.entries

-- of a decided edit
abbrev pub finish_and_close : PoolState → ℕ → List Call
finish_and_close state seat = finishes_left state seat ++ C.Close seat ∷ []

-- of an edit that votes
abbrev pub vote_and_decide : PoolState → ℕ → List Call
vote_and_decide state seat = votes_left state seat ++ C.Decide seat ∷ finish_and_close state seat

-- of an edit in each state, to settle it
abbrev pub settling_calls : PoolState → ℕ → State → List Call
settling_calls state seat Idle = []
settling_calls state seat Editing = C.Prepare seat ∷ vote_and_decide state seat
settling_calls state seat Voting = vote_and_decide state seat
settling_calls state seat _ = finish_and_close state seat

-- and to give it up: an abort where it is undecided, a finish for each entry that the seat holds, and a close
abbrev pub giving_up_calls : PoolState → ℕ → State → List Call
giving_up_calls state seat Idle = []
giving_up_calls state seat Editing = C.Abort seat ∷ finish_and_close state seat
giving_up_calls state seat Voting = C.Abort seat ∷ finish_and_close state seat
giving_up_calls state seat _ = finish_and_close state seat

-- of the edit that the seat has now
abbrev pub calls_to_settle : PoolState → ℕ → List Call
calls_to_settle state seat = settling_calls state seat (seat_status state.table seat).state

abbrev pub calls_to_give_up : PoolState → ℕ → List Call
calls_to_give_up state seat = giving_up_calls state seat (seat_status state.table seat).state

-- ------------------------------------------------------------ what becomes of the edit

abbrev pub outcome_by : Decision → Outcome
outcome_by D.Commit = O.Commit
outcome_by D.Abort = O.Abort

-- what the decide says that comes after these calls
abbrev pub outcome_after : Rule → List Call → PoolState → ℕ → Outcome
outcome_after allows calls state seat =
    outcome_by (decision_said (answer_of (perform allows (C.Decide seat) (state_after_calls allows calls state))))

abbrev pub giving_up_outcome : State → Outcome
giving_up_outcome Idle = O.Gone
giving_up_outcome Commit = O.Commit
giving_up_outcome _ = O.Abort

-- ------------------------------------------------------------ what is left

-- the seat is idle and holds no lock
pub record IsFree (state : PoolState) (seat : ℕ) : Type 0 where
  pub idle : (seat_status state.table seat).state ≡ Idle
  pub unlocked : (entry : ℕ) → holders state entry seat ≡ false

-- The edit of a seat can be ended by these calls, whatever the other seats have done and hold, and whatever they do before them.
pub record CanBeEnded (allows : Rule) (calls : PoolState → ℕ → List Call) (state : PoolState) (seat : ℕ) : Type 0 where
  pub its_own_seat_makes_each_call : All (λ call. seat_of call ≡ seat) (calls state seat)
  pub each_call_is_accepted : All IsOk (answers_to allows (calls state seat) state)
  pub then_the_seat_is_idle_and_holds_nothing : IsFree (state_after_calls allows (calls state seat) state) seat
  pub no_call_of_another_seat_changes_them : (call : Call) → seat ≢ seat_of call
      → calls (state_after (perform allows call state) state) seat ≡ calls state seat

-- The seat has an edit under way, in a pool that was opened and then had the operations of the past and no others.
pub record IsUnderWay (allows : Rule) (state : PoolState) (seat : ℕ) : Type 0 where
  pub initial : PoolState
  pub seats : ℕ
  pub past : List Operation
  pub reached : Reached allows initial seats past state
  pub few : state.store.reading.entries ≤ most_entries
  pub there : IsTrue (has_seat state.table seat)
  pub begun : (seat_status state.table seat).state ≢ Idle

-- Whatever led to a pool, each edit that is under way there can be ended: by giving it up, and by settling it.
pub record AlwaysEnded : Type 0 where
  pub by_giving_up : (allows : Rule) (state : PoolState) (seat : ℕ) → IsUnderWay allows state seat → CanBeEnded allows calls_to_give_up state seat
  pub by_settling : (allows : Rule) (state : PoolState) (seat : ℕ) → IsUnderWay allows state seat → CanBeEnded allows calls_to_settle state seat

module _ {S R : Type 0} {w : writing_store.Ghosts S} {s : reading_store.Ghosts S} {r : house_rule.Ghosts R} where
  -- ------------------------------------------------------------ the edit of a ticket

  -- the state of the edit that the ticket stands for; idle where the edit is gone
  abbrev pub state_of_edit : Pool S R w s r → Ticket → State
  state_of_edit pool ticket = edit_state (state_of pool) ticket.seat ticket.serial

  abbrev pub settle_calls : Pool S R w s r → Ticket → List Call
  settle_calls pool ticket = settling_calls (state_of pool) ticket.seat (state_of_edit pool ticket)

  abbrev pub give_up_calls : Pool S R w s r → Ticket → List Call
  give_up_calls pool ticket = giving_up_calls (state_of pool) ticket.seat (state_of_edit pool ticket)

  -- what becomes of an edit that votes: what its decide says once the votes that are left are in
  abbrev pub voting_outcome : Pool S R w s r → ℕ → Outcome
  voting_outcome pool seat = outcome_after (rule_of pool) (votes_left (state_of pool) seat) (state_of pool) seat

  abbrev pub settling_outcome : Pool S R w s r → ℕ → State → Outcome
  settling_outcome pool seat Idle = O.Gone
  settling_outcome pool seat Editing = outcome_after (rule_of pool) (C.Prepare seat ∷ votes_left (state_of pool) seat) (state_of pool) seat
  settling_outcome pool seat Voting = voting_outcome pool seat
  settling_outcome pool seat Commit = O.Commit
  settling_outcome pool seat Abort = O.Abort

  abbrev pub settle_outcome : Pool S R w s r → Ticket → Outcome
  settle_outcome pool ticket = settling_outcome pool ticket.seat (state_of_edit pool ticket)

  abbrev pub give_up_outcome : Pool S R w s r → Ticket → Outcome
  give_up_outcome pool ticket = giving_up_outcome (state_of_edit pool ticket)

  -- ------------------------------------------------------------ how an edit ends

  -- of whatever opening and operations led to this pool
  abbrev pub OfEachPast : Pool S R w s r → (PoolState → ℕ → List Operation → Type 0) → Type 0
  OfEachPast pool Says =
      (initial : PoolState) (seats : ℕ) (past : List Operation) → Reached (rule_of pool) initial seats past (state_of pool)
      → Says initial seats past

  -- The calls were made, and no others, and this became of the edit; gone means that there were none.
  -- The state is the one that these calls lead to, made in their order on the pool that was there;
  -- they answered what they answer there, one after another; and the house rule is as it was.
  -- Where the pool was opened and then called, each call is accepted, they count as made, with the
  -- promise, and the seat of an edit that is not gone is free.
  pub record EndsBy (old : Pool S R w s r) (ticket : Ticket) (calls : List Call) (outcome : Outcome) (new : Pool S R w s r) : Type 0 where
    pub answers : List Answer
    pub performs : PerformsEach old calls answers new
    pub leaves : state_of new ≡ state_after_calls (rule_of old) calls (state_of old)
    pub answered : answers ≡ answers_to (rule_of old) calls (state_of old)
    pub rule : new.rule ≡ old.rule
    pub gone : outcome ≡ O.Gone → new ≡ old
    pub accepted : OfEachPast old (λ _ _ _. All IsOk answers)
    pub reached : OfEachPast old (λ initial seats past. Reached (rule_of old) initial seats (history past calls answers) (state_of new))
    pub alone : OfEachPast old (λ initial seats past. IsAloneBetween (rule_of old) initial (history past calls answers) (state_of new))
    pub free : OfEachPast old (λ _ _ _. outcome ≢ O.Gone → IsFree (state_of new) ticket.seat)
