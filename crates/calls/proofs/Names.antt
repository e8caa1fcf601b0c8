-- The list of the names of calls has each of them.
use Rattle.std.proofs.Common.{◌≡◌, ℕ, ◌<◌, List, [], ◌∷◌, Option, Some, None, MatchOption, length, arith}
use Rattle.std.specs.List.{AllWithin, HoldsAt}
use Rattle.calls.specs.Names.{name_text, MatchName}
use Rattle.calls.specs.declared.call.CallName.{CallName}
use Rattle.calls.specs.declared.call.CallName.TheVariants.{Begin, Read, Write, Prepare, Vote, Decide, Abort, Finish, Close}

abbrev pub names : List CallName
names = Begin ∷ Read ∷ Write ∷ Prepare ∷ Vote ∷ Decide ∷ Abort ∷ Finish ∷ Close ∷ []

each : (P : CallName → Type 0) → AllWithin P names 0 (length names) → (n : CallName) → P n
each P h Begin = h 0 Begin (omega arith) (omega arith)
each P h Read = h 1 Begin (omega arith) (omega arith)
each P h Write = h 2 Begin (omega arith) (omega arith)
each P h Prepare = h 3 Begin (omega arith) (omega arith)
each P h Vote = h 4 Begin (omega arith) (omega arith)
each P h Decide = h 5 Begin (omega arith) (omega arith)
each P h Abort = h 6 Begin (omega arith) (omega arith)
each P h Finish = h 7 Begin (omega arith) (omega arith)
each P h Close = h 8 Begin (omega arith) (omega arith)

pub named : (word : List ℕ) (found : Option CallName)
    → MatchOption found (AllWithin (λ n. name_text n ≡ word → ⊥) names 0 (length names))
    (λ x. (name_text x ≡ word) × (i : ℕ) × (i < length names) × HoldsAt (λ y. y ≡ x) names i × AllWithin (λ n. name_text n ≡ word → ⊥) names 0 i)
    → MatchName name_text word found
named word None h = each (λ n. name_text n ≡ word → ⊥) h
named word (Some x) h = h.0
