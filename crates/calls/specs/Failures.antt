-- What is said of a failure: of a refusal a fact about its fault; of memory nothing.
use Rattle.std.specs.Prelude.{ℕ, List, Option, Some, codes}
use Rattle.calls.specs.declared.failure.Failure.{Failure}
use Rattle.calls.specs.declared.failure.Failure.TheVariants.{Refused, NoMemory}

abbrev pub IfRefused : {F : Type 0} → (F → Type 0) → Failure F → Type 0
IfRefused Says (Refused fault) = Says fault
IfRefused _ NoMemory = Unit {0}

-- the same failure, with its fault told as another
abbrev pub IsToldAs : {E F : Type 0} → (E → F → Type 0) → Failure E → Failure F → Type 0
IsToldAs gives (Refused old) (Refused new) = gives old new
IsToldAs _ NoMemory NoMemory = Unit {0}
IsToldAs _ _ _ = ⊥

-- how a failure is printed, where it is known how its fault is
abbrev pub failure_text : {F : Type 0} → (F → Option (List ℕ)) → Failure F → Option (List ℕ)
failure_text fault_text (Refused fault) = fault_text fault
failure_text _ NoMemory = Some (codes "no memory")
