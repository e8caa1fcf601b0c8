-- Pools that break the promise, each by one part of it.
use Rattle.std.specs.Prelude.{true, false, List, [], ◌∷◌, ℤ, pos, negsuc, Ok, Err, nat_lt, if◌then◌else◌}
use Rattle.calls.specs.declared.call.Call.{Call}
use Rattle.calls.specs.declared.call.Call.TheVariants.{Begin, Read, Write, Prepare, Vote, Decide, Finish, Close}
use Rattle.calls.specs.declared.answer.Reply.TheVariants.{Serial, Value, Voted, Decided, Done}
use Rattle.calls.specs.Answers.{Answer}
use Rattle.calls.specs.declared.answer.Decision.TheVariants as D
use Rattle.calls.specs.declared.fault.Fault.TheVariants.{LockInTheWay}
use Rattle.store.specs.Meaning.{opening}
use Rattle.promise.specs.Histories.{Operation, Edit, events_of, history}
use Rattle.promise.specs.OneByOne.{Chains, edits_by_decision}
use Rattle.promise.specs.Promise.{ReadsAgree, ChainsAgree, RuleIsKept, LocksAddUp, KeepsRealTime}

-- two entries, each with the opening version alone
abbrev pub two_entries : Chains
two_entries entry = if nat_lt entry 2 then opening ∷ [] else []

-- seat 0 reads entry 1, writes -3,000,000 fs there and commits; seat 1 meets the lock, and reads once it is gone
abbrev pub eleven_calls : List Call
eleven_calls =
    Begin 0 ∷ (Read 0 1 ∷ (Write 0 1 (negsuc 2999999) ∷ (Begin 1 ∷ (Read 1 1 ∷ (Prepare 0 ∷ (Vote 0 1
    ∷ (Decide 0 ∷ (Finish 0 1 ∷ (Read 1 1 ∷ (Close 0 ∷ []))))))))))

-- what they answer, where the last read answers this value
abbrev pub eleven_answers : ℤ → List Answer
eleven_answers value =
    Ok (Serial 1) ∷ (Ok (Value (pos 0)) ∷ (Ok Done ∷ (Ok (Serial 1) ∷ (Err LockInTheWay ∷ (Ok Done ∷ (Ok (Voted true)
    ∷ (Ok (Decided D.Commit) ∷ (Ok Done ∷ (Ok (Value value) ∷ (Ok Done ∷ []))))))))))

-- the calls as a pool has to answer them, and as one answers that reads the opening value for ever
abbrev pub right_operations : List Operation
right_operations = history [] eleven_calls (eleven_answers (negsuc 2999999))

abbrev pub stale_operations : List Operation
stale_operations = history [] eleven_calls (eleven_answers (pos 0))

-- seat 0 closes an edit that is not decided, seat 1 begins and commits one, and only then seat 0's is decided
abbrev pub late_operations : List Operation
late_operations =
    history []
    (Begin 0 ∷ (Close 0 ∷ (Begin 1 ∷ (Prepare 1 ∷ (Decide 1 ∷ (Decide 0 ∷ []))))))
    (Ok (Serial 1) ∷ (Ok Done ∷ (Ok (Serial 1) ∷ (Ok Done ∷ (Ok (Decided D.Commit) ∷ (Ok (Decided D.Abort) ∷ []))))))

abbrev pub by_decision : List Operation → List Edit
by_decision operations = edits_by_decision (events_of operations)

-- Each of these pools fails the part of the promise that its line names, and so the promise: `AsIfAlone` has every part.
pub record WrongPoolsFail : Type 0 where
  -- (a): one that answers the opening value for ever
  pub stale : ¬ ReadsAgree two_entries stale_operations (by_decision stale_operations)
  -- (b): one that never uses its store, or whose finish only releases
  pub unstored : ¬ ChainsAgree two_entries two_entries right_operations (by_decision right_operations)
  -- (b): one that commits what the house rule does not allow
  pub unruled : ¬ RuleIsKept (λ _ _ _. false) two_entries right_operations (by_decision right_operations)
  -- (c): one whose locks are gone, or held by every seat, while one seat still reads
  pub unlocked : ¬ LocksAddUp (λ _ _. false) right_operations
  pub overlocked : ¬ LocksAddUp (λ _ _. true) right_operations
  -- (d): one that decides an edit after it was closed, and after another began
  pub late : ¬ KeepsRealTime late_operations (by_decision late_operations)
