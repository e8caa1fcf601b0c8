-- A line has its words in one way only.
use Rattle.std.proofs.Common.{inl, inr, ◌≡◌, ◌≢◌, ℕ, ◌+◌, ◌<◌, ◌⊎◌, List, [], ◌∷◌, ◌++◌, length, drop, Some, slice_get, drop-drop, get_or, slice_range, sym, ap, arith, ◌∙◌}
use Rattle.std.proofs.Math.Seq.{drop-append-add}
use Rattle.words.specs.Words.{Without, IsWord, Leads, Words}
use Rattle.words.specs.Lines.{Begins}
use Rattle.words.specs.Tokens.{IsToken}
use Rattle.words.specs.declared.token.Token.{Token}
use Rattle.words.specs.declared.token.Token.TheVariants.{Word, Last, Empty}
use denote.Ref.{Bor}
use Rattle.std.proofs.lemmas.List.{take_rest}
use Rattle.words.proofs.Cuts.{one_cut, no_cut}

pub same_word : (a b x y text : List ℕ) → Leads a x text → Leads b y text → a ≡ b
same_word a b x y text h k = (one_cut 32 a b x y h.is_word.whole k.is_word.whole (sym h.joined ∙ k.joined)).0

pub same_rest : (a b x y text : List ℕ) → Leads a x text → Leads b y text → x ≡ y
same_rest a b x y text h k = (one_cut 32 a b x y h.is_word.whole k.is_word.whole (sym h.joined ∙ k.joined)).1

pub no_more : (a x text : List ℕ) → IsWord text → Leads a x text → ⊥
no_more a x text h k = no_cut 32 a x text h.whole k.joined

-- where nothing stands, or a blank, there is no word
pub word_begins : (word : List ℕ) → IsWord word → ((word ≡ []) ⊎ (slice_get word 0 ≡ Some 32)) → ⊥
word_begins [] h e = absurd (omega (arith, h.some))
word_begins (c ∷ cs) h e = elim e [ inl none ↦ cc | inr blank ↦ h.whole.0 cc ]

pub lead_begins : (word rest text : List ℕ) → Leads word rest text → ((text ≡ []) ⊎ (slice_get text 0 ≡ Some 32)) → ⊥
lead_begins [] rest text h e = absurd (omega (arith, h.is_word.some))
lead_begins (c ∷ cs) rest text h e =
    elim e [
      | inl none ↦ (let clash : [] ≡ c ∷ (cs ++ 32 ∷ rest) = sym none ∙ h.joined in cc)
      | inr blank ↦ h.is_word.whole.0 (let first : slice_get (c ∷ (cs ++ 32 ∷ rest)) 0 ≡ Some 32 = sym (ap (λ t. slice_get t 0) h.joined) ∙ blank in cc)
    ]

pub same_line : (a b x y text : List ℕ) → Without 10 a → text ≡ a ++ 10 ∷ x → Begins b y text → a ≡ b
same_line a b x y text whole ended k = (one_cut 10 a b x y whole k.is_line.whole (sym ended ∙ k.ended)).0

pub no_line : (b y text : List ℕ) → Without 10 text → Begins b y text → ⊥
no_line b y text whole k = no_cut 10 b y text whole k.ended

pub line_too_long : (a b x y text : List ℕ) → Without 10 a → text ≡ a ++ 10 ∷ x → 80 < length a → Begins b y text → ⊥
line_too_long a b x y text whole ended long k = omega (arith, ap length (same_line a b x y text whole ended k), k.is_line.short)

pub drop_past : (at : ℕ) (line a x : List ℕ) → drop at line ≡ a ++ 32 ∷ x → drop (at + length a + 1) line ≡ x
drop_past at line a x e =
    let place : at + length a + 1 ≡ at + (length a + 1) = omega arith in
    rw place (sym (drop-drop (length a + 1) at line) ∙ ap (drop (length a + 1)) e ∙ drop-append-add a (32 ∷ x) 1)

pub last_only : (a x word text : List ℕ) → IsWord word → text ≡ word → Leads a x text → ⊥
last_only a x word text h e k = no_more a x word h (rw (← e) k)

pub not_two : (a x text : List ℕ) → Leads a x text → ((w : List ℕ) → Words (w ∷ []) x → ⊥) → (b c : List ℕ) → Words (b ∷ c ∷ []) text → ⊥
not_two a x text h none b c k = none c (rw (same_rest a b x k.0 text h k.1) k.2)

pub not_three : (a x text : List ℕ) → Leads a x text → ((v w : List ℕ) → Words (v ∷ w ∷ []) x → ⊥) → (b c d : List ℕ) → Words (b ∷ c ∷ d ∷ []) text → ⊥
not_three a x text h none b c d k = none c d (rw (same_rest a b x k.0 text h k.1) k.2)

-- what stands before a blank that is not the first byte is a word
pub word_before : (a x text : List ℕ) → Without 32 a → text ≡ a ++ 32 ∷ x → get_or text 0 0 ≢ 32 → IsWord a
word_before [] x text whole e ne = absurd (ne (ap (λ t. get_or t 0 0) e))
word_before (c ∷ cs) x text whole e ne = record { some = omega arith; whole = whole }

-- a token that is no word with a blank behind it
pub not_leading : (line : List ℕ) (at : ℕ) (token : Token) (word rest : List ℕ) → IsToken line at token
    → ((text : Bor (List ℕ)) × (here : ℕ) × (token ≡ Last text here)) ⊎ ((here : ℕ) × (token ≡ Empty here))
    → Leads word rest (drop at line) → ⊥
not_leading line at (Word text here) word rest h kind k = elim kind [ inl last ↦ cc (last.2) | inr empty ↦ cc (empty.1) ]
not_leading line at (Last text here) word rest h kind k = last_only word rest text.now (drop at line) h.1 h.2 k
not_leading line at (Empty here) word rest h kind k = lead_begins word rest (drop at line) k h.1

pub word_at : (at : ℕ) (line rest text more : List ℕ) → rest ≡ slice_range line at (length line) → Without 32 text
    → rest ≡ text ++ 32 ∷ more → get_or rest 0 0 ≢ 32 → Leads text (drop (at + length text + 1) line) (drop at line)
word_at at line rest text more lies whole joined not_blank =
    let from_there : drop at line ≡ rest = sym (take_rest line at) ∙ sym lies in
    let tail : drop (at + length text + 1) line ≡ more = drop_past at line text more (from_there ∙ joined) in
    rw (tail, from_there) (record { is_word = word_before text more rest whole joined not_blank; joined = joined })
