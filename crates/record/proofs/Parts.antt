-- The bytes of a list from a place on, spelled out.
use Rattle.std.proofs.Common.{◌≡◌, ℕ, suc, ◌+◌, ◌<◌, List, [], ◌∷◌, length, get_or, take, drop, ap, ◌∙◌, arith}
use Rattle.std.proofs.lemmas.List.{drop_more}
use Rattle.record.specs.Numbers.{record_size}

more : (xs : List ℕ) (i n : ℕ) → i < length xs → take (suc n) (drop i xs) ≡ get_or xs i 0 ∷ take n (drop (i + 1) xs)
more xs i n h = ap (take (suc n)) (drop_more xs i 0 h)

-- four bytes at 2, six at 6 and four at 12, of sixteen
module _ (xs : List ℕ) (long : length xs ≡ record_size) where
  pub at_2 : take 4 (drop 2 xs) ≡ get_or xs 2 0 ∷ get_or xs 3 0 ∷ get_or xs 4 0 ∷ get_or xs 5 0 ∷ []
  at_2 =
      more xs 2 3 (omega arith)
      ∙ ap (λ ys. get_or xs 2 0 ∷ ys) (more xs 3 2 (omega arith)
      ∙ ap (λ ys. get_or xs 3 0 ∷ ys) (more xs 4 1 (omega arith)
      ∙ ap (λ ys. get_or xs 4 0 ∷ ys) (more xs 5 0 (omega arith))))

  pub at_6 : take 6 (drop 6 xs) ≡ get_or xs 6 0 ∷ get_or xs 7 0 ∷ get_or xs 8 0 ∷ get_or xs 9 0 ∷ get_or xs 10 0 ∷ get_or xs 11 0 ∷ []
  at_6 =
      more xs 6 5 (omega arith)
      ∙ ap (λ ys. get_or xs 6 0 ∷ ys) (more xs 7 4 (omega arith)
      ∙ ap (λ ys. get_or xs 7 0 ∷ ys) (more xs 8 3 (omega arith)
      ∙ ap (λ ys. get_or xs 8 0 ∷ ys) (more xs 9 2 (omega arith)
      ∙ ap (λ ys. get_or xs 9 0 ∷ ys) (more xs 10 1 (omega arith)
      ∙ ap (λ ys. get_or xs 10 0 ∷ ys) (more xs 11 0 (omega arith))))))

  pub at_12 : take 4 (drop 12 xs) ≡ get_or xs 12 0 ∷ get_or xs 13 0 ∷ get_or xs 14 0 ∷ get_or xs 15 0 ∷ []
  at_12 =
      more xs 12 3 (omega arith)
      ∙ ap (λ ys. get_or xs 12 0 ∷ ys) (more xs 13 2 (omega arith)
      ∙ ap (λ ys. get_or xs 13 0 ∷ ys) (more xs 14 1 (omega arith)
      ∙ ap (λ ys. get_or xs 14 0 ∷ ys) (more xs 15 0 (omega arith))))
