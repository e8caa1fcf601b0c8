-- A line derives what it derives in one way, and its fault is what the reader answers where it stops.
use Rattle.std.proofs.Common.{◌≡◌, ℕ, List, [], ◌∷◌, Ok, Err, Result, Some, None, Option, MatchOption, MatchResult, sym, ◌∙◌}
use Rattle.std.specs.Prelude.{IsErrAnd, ok_or}
use Rattle.words.specs.Words.{Leads, Words}
use Rattle.words.specs.Numbers.{PlainNumber}
use Rattle.words.specs.declared.fault.WordFault.{WordFault}
use Rattle.words.specs.declared.fault.WordFault.TheVariants.{NumberForm, LineForm}
use Rattle.words.proofs.Splits.{same_word, same_rest, no_more}
use Rattle.session_lines.specs.Grammar.{Argument, Strictness, AnyWord, InForm, InReach, DerivesNumber, DeriveArguments, Arguments, Spells, HasFault}
use Rattle.session_lines.specs.declared.fault.LineFault.{LineFault}
use Rattle.session_lines.specs.declared.fault.LineFault.TheVariants.{WrongWords, TooFar}
use Rattle.session_lines.specs.declared.fault.Cause.{Cause}
use Rattle.session_lines.specs.declared.fault.Cause.TheVariants.{Word, Line, Pool}

-- a line has its words in one way
pub words_only : (ws vs : List (List ℕ)) (text : List ℕ) → Words ws text → Words vs text → ws ≡ vs
words_only [] vs text h k = absurd h
words_only (a ∷ ws) [] text h k = absurd k
words_only (a ∷ []) (b ∷ []) text h k = let same : a ≡ b = sym h.1 ∙ k.1 in cc
words_only (a ∷ []) (b ∷ d ∷ vs) text h k = absurd (no_more b k.0 a h.0 (rw (← h.1) k.1))
words_only (a ∷ c ∷ ws) (b ∷ []) text h k = absurd (no_more a h.0 b k.0 (rw (← k.1) h.1))
words_only (a ∷ c ∷ ws) (b ∷ d ∷ vs) text h k =
    let first : a ≡ b = same_word a b h.0 k.0 text h.1 k.1 in
    let rest : h.0 ≡ k.0 = same_rest a b h.0 k.0 text h.1 k.1 in
    let others : c ∷ ws ≡ d ∷ vs = words_only (c ∷ ws) (d ∷ vs) k.0 (rw (← rest) h.2) k.2 in cc

-- the words of a text read as the numbers that it derives
pub read_so : (how : Strictness) (arguments : List Argument) (ws : List (List ℕ)) (text : List ℕ) → Words ws text → Arguments how arguments text → DeriveArguments how ws arguments
read_so how arguments ws text h d = rw (words_only ws d.0 text h d.1) d.2

pub not_one : (how : Strictness) (a : Argument) (text : List ℕ) → ((w : List ℕ) → Words (w ∷ []) text → ⊥) → Arguments how (a ∷ []) text → ⊥
not_one how a text none (([]), h, e) = e
not_one how a text none ((w ∷ []), h, e) = none w h
not_one how a text none ((w ∷ v ∷ ws), h, e) = e.1

pub not_two : (how : Strictness) (a b : Argument) (text : List ℕ) → ((v w : List ℕ) → Words (v ∷ w ∷ []) text → ⊥) → Arguments how (a ∷ b ∷ []) text → ⊥
not_two how a b text none (([]), h, e) = e
not_two how a b text none ((v ∷ []), h, e) = e.1
not_two how a b text none ((v ∷ w ∷ []), h, e) = none v w h
not_two how a b text none ((u ∷ v ∷ w ∷ ws), h, e) = e.1.1

pub not_three : (how : Strictness) (a b c : Argument) (text : List ℕ) → ((u v w : List ℕ) → Words (u ∷ v ∷ w ∷ []) text → ⊥) → Arguments how (a ∷ b ∷ c ∷ []) text → ⊥
not_three how a b c text none (([]), h, e) = e
not_three how a b c text none ((u ∷ []), h, e) = e.1
not_three how a b c text none ((u ∷ v ∷ []), h, e) = e.1.1
not_three how a b c text none ((u ∷ v ∷ w ∷ []), h, e) = none u v w h
not_three how a b c text none ((t ∷ u ∷ v ∷ w ∷ ws), h, e) = e.1.1.1

-- what stands behind the first word of a line derives the numbers that the line derives
pub spelled : (how : Strictness) (name word : List ℕ) (arguments : List Argument) (rest line : List ℕ) → Leads word rest line → Spells how name arguments line → (word ≡ name) × Arguments how arguments rest
spelled how name word arguments rest line h d = (same_word word name rest d.0 line h d.1, rw (same_rest word name rest d.0 line h d.1) d.2)

-- two readings that derive alike have the same fault
pub fault_carries : (D E : Strictness → Type 0) (cause : Cause) → ((how : Strictness) → D how → E how) → ((how : Strictness) → E how → D how) → HasFault D cause → HasFault E cause
fault_carries D E (Line WrongWords) there back h = λ e. h (back AnyWord e)
fault_carries D E (Line TooFar) there back h = (there InForm h.0, λ e. h.1 (back InReach e))
fault_carries D E (Word NumberForm) there back h = (there AnyWord h.0, λ e. h.1 (back InForm e))
fault_carries D E (Word LineForm) there back h = h
fault_carries D E (Pool fault) there back h = h

-- where a reader stops at an option that is empty
pub stops_at_none : {T A : Type 0} (P : T → Type 0) {N : Type 0} (S : A → Type 0) (D : Strictness → Type 0) (r : Result T Cause) (o : Option A) (e d : LineFault) → IsErrAnd r (λ cause. cause ≡ Line e) → Err e ≡ ok_or o d → MatchOption o N S → (N → HasFault D (Line d)) → MatchResult r P (HasFault D)
stops_at_none P S D (Ok x) o e d h was m f = absurd h
stops_at_none P S D (Err y) (Some x) e d h was m f = cc
stops_at_none P S D (Err y) None e d h was m f = let is : y ≡ Line d = cc in rw is (f m)

-- where it stops at a word that is no number
pub stops_at_word : {T : Type 0} (P : T → Type 0) {N : Type 0} (D : Strictness → Type 0) (r : Result T Cause) (e : WordFault) → IsErrAnd r (λ cause. cause ≡ Word e) → (e ≡ NumberForm) × N → (N → HasFault D (Word NumberForm)) → MatchResult r P (HasFault D)
stops_at_word P D (Ok x) e h was f = absurd h
stops_at_word P D (Err y) e h was f = let is : y ≡ Word NumberForm = cc (h, was.0) in rw is (f was.1)

-- where it stops at what another reader stopped at
pub stops_at_fault : {T : Type 0} (P : T → Type 0) (D E : Strictness → Type 0) (r : Result T Cause) (e : Cause) → IsErrAnd r (λ cause. cause ≡ e) → HasFault D e
    → ((how : Strictness) → D how → E how) → ((how : Strictness) → E how → D how) → MatchResult r P (HasFault E)
stops_at_fault P D E (Ok x) e h was there back = absurd h
stops_at_fault P D E (Err y) e h was there back = rw h (fault_carries D E e there back was)

-- a plain number is one however strictly it is read
pub number_reads : (how : Strictness) (word : List ℕ) (n : ℕ) → PlainNumber word n → DerivesNumber word how n
number_reads AnyWord word n h = tt
number_reads InForm word n h = h
number_reads InReach word n h = h

pub same_three : (a b c x y z line : List ℕ) → Words (a ∷ b ∷ c ∷ []) line → Words (x ∷ y ∷ z ∷ []) line → (x ≡ a) × (y ≡ b) × (z ≡ c)
same_three a b c x y z line h k = let e : a ∷ b ∷ c ∷ [] ≡ x ∷ y ∷ z ∷ [] = words_only (a ∷ b ∷ c ∷ []) (x ∷ y ∷ z ∷ []) line h k in (cc, cc, cc)
