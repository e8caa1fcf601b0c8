-- Calls with the answers that they are to get.
use Rattle.std.specs.Prelude.{◌≡◌, ℕ, List, [], ◌∷◌, map, Ok, Err, Result}
use Rattle.calls.specs.declared.answer.Reply.{Reply}
use Rattle.calls.specs.declared.call.Call.{Call}
use Rattle.calls.specs.Answers.{Answer}
use Rattle.calls.specs.Faults.{fault_number}
use Rattle.pool.specs.Calls.{Rule, PoolState, answer_of, state_after, perform}

-- an answer in which a refusal is told by its number
abbrev pub by_number : {T F : Type 0} → (F → ℕ) → Result T F → Result T ℕ
by_number number_of (Ok answer) = Ok answer
by_number number_of (Err refusal) = Err (number_of refusal)

-- a call, and what it is to answer
pub record Trial : Type 0 where
  pub call : Call
  pub answer : Result Reply ℕ

infixr 90 ◌⇒◌
abbrev pub ◌⇒◌ : Call → Result Reply ℕ → Trial
call ⇒ answer = record { call = call; answer = answer }

abbrev pub calls_of : List Trial → List Call
calls_of = map (λ trial. trial.call)

-- what the calls answered is what they were to answer
abbrev pub AreAnswersOf : List Trial → List Answer → Type 0
AreAnswersOf trials answers = map (by_number fault_number) answers ≡ map (λ trial. trial.answer) trials

-- made in their order on a pool, under a house rule, the calls get the answers beside them
abbrev pub PassesTrials : Rule → PoolState → List Trial → Type 0
PassesTrials allows state [] = Unit {0}
PassesTrials allows state (trial ∷ trials) =
    (by_number fault_number (answer_of (perform allows trial.call state)) ≡ trial.answer)
    × PassesTrials allows (state_after (perform allows trial.call state) state) trials
