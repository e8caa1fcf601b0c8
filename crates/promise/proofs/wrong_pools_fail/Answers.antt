use Rattle.std.proofs.Common.{◌≡◌, ℕ, true, false, List, length, pos, negsuc, Ok, refl, ap, arith}
use Rattle.calls.specs.declared.answer.Reply.TheVariants.{Value}
use Rattle.calls.specs.Answers.{Answer}
use Rattle.store.specs.declared.version.Version.{Version}
use Rattle.promise.specs.Histories.{same}
use Rattle.promise.proofs.wrong_pools_fail.Goals as goal

pub returns : goal.returns
unfolding same
returns c =
    record {
      stale = λ reads.
          let q : ◌≡◌ {A = Answer} (Ok (Value (pos 0))) (Ok (Value (negsuc 2999999))) = reads.1.0 1 1 refl refl in
          let z : ◌≡◌ {A = ℕ} 0 1 = cc in omega arith;
      unstored = λ chains. let q : ◌≡◌ {A = ℕ} 1 2 = ap (λ (l : List Version). length l) (chains 1) in omega arith;
      unruled = λ kept.
          let q : false ≡ true = (kept 1).0 (record { value = negsuc 2999999; seat = 0; serial = 1 }) refl in
          let z : ◌≡◌ {A = ℕ} 0 1 = cc in omega arith;
      unlocked = λ sums. let q : ◌≡◌ {A = ℕ} 2 1 = sums 1 in omega arith;
      overlocked = λ sums. let q : ◌≡◌ {A = ℕ} 2 17 = sums 1 in omega arith;
      late = λ kept.
          let q : false ≡ true = kept (record { seat = 0; serial = 1 }) (record { seat = 1; serial = 1 }) refl refl refl in
          let z : ◌≡◌ {A = ℕ} 0 1 = cc in omega arith;
    }
