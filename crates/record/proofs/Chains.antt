-- Chains and last places of lists of records, one record more at a time.
use Rattle.std.proofs.Common.{◌≡◌, ℕ, zero, suc, ◌+◌, ◌*◌, ◌<◌, ◌≤◌, cond, true, false, Bool, List, [], ◌∷◌, ◌++◌, length, map, refl, sym, ap, ◌∙◌, ⊎_elim, arith, Some, None, Option}
use Rattle.std.specs.List.{filter}
use Rattle.std.proofs.lemmas.List.{append-nil, map-append, length_push}
use Rattle.std.proofs.lemmas.List.Elements.{filter-append}
use Rattle.std.proofs.lemmas.Bool.{cases_eq, eq-eqb, ne_eqb, cond-true, cond-false}
use Rattle.store.specs.declared.version.Version.{Version}
use Rattle.store.specs.Meaning.{opening}
use Rattle.record.specs.Numbers.{record_size}
use Rattle.record.specs.declared.record.Record.{Record}
use Rattle.record.specs.Journals.{entry_record, opening_records, is_of_entry, chain_in, last_from, last_place}

one_of : (r : Record) (vs : List Version) (b : Bool) → vs ++ map (λ (q : Record). q.version) (cond b (r ∷ []) []) ≡ cond b (vs ++ r.version ∷ []) vs
one_of r vs true = refl
one_of r vs false = append-nil vs

pub chain_push : (rs : List Record) (r : Record) (e : ℕ) → chain_in (rs ++ r ∷ []) e ≡ cond (is_of_entry e r) (chain_in rs e ++ r.version ∷ []) (chain_in rs e)
chain_push rs r e =
    ap (map (λ (q : Record). q.version)) (filter-append (is_of_entry e) rs (r ∷ []))
    ∙ map-append (λ (q : Record). q.version) (filter (is_of_entry e) rs) (filter (is_of_entry e) (r ∷ []))
    ∙ one_of r (chain_in rs e) (is_of_entry e r)

pub chain_push_same : (rs : List Record) (r : Record) (e : ℕ) → r.entry ≡ e → chain_in (rs ++ r ∷ []) e ≡ chain_in rs e ++ r.version ∷ []
chain_push_same rs r e is = chain_push rs r e ∙ cond-true _ _ _ (eq-eqb r.entry e is)

pub chain_push_other : (rs : List Record) (r : Record) (e : ℕ) → (r.entry ≡ e → ⊥) → chain_in (rs ++ r ∷ []) e ≡ chain_in rs e
chain_push_other rs r e apart = chain_push rs r e ∙ cond-false _ _ _ (ne_eqb r.entry e apart)

last_from_push : (place : ℕ) (rs : List Record) (r : Record) (e : ℕ) (found : Option ℕ) → last_from place (rs ++ r ∷ []) e found ≡ cond (is_of_entry e r) (Some (place + record_size * length rs)) (last_from place rs e found)
last_from_push place [] r e found = ap (λ n. cond (is_of_entry e r) (Some n) found) (omega arith)
last_from_push place (q ∷ rs) r e found =
    last_from_push (place + record_size) rs r e (cond (is_of_entry e q) (Some place) found)
    ∙ ap (λ n. cond (is_of_entry e r) (Some n) (last_from (place + record_size) rs e (cond (is_of_entry e q) (Some place) found))) (omega arith)

pub last_push : (rs : List Record) (r : Record) (e : ℕ) → last_place (rs ++ r ∷ []) e ≡ cond (is_of_entry e r) (Some (record_size * length rs)) (last_place rs e)
last_push rs r e = last_from_push 0 rs r e None ∙ ap (λ n. cond (is_of_entry e r) (Some n) (last_place rs e)) (omega arith)

pub last_push_same : (rs : List Record) (r : Record) (e : ℕ) → r.entry ≡ e → last_place (rs ++ r ∷ []) e ≡ Some (record_size * length rs)
last_push_same rs r e is = last_push rs r e ∙ cond-true _ _ _ (eq-eqb r.entry e is)

pub last_push_other : (rs : List Record) (r : Record) (e : ℕ) → (r.entry ≡ e → ⊥) → last_place (rs ++ r ∷ []) e ≡ last_place rs e
last_push_other rs r e apart = last_push rs r e ∙ cond-false _ _ _ (ne_eqb r.entry e apart)

-- the opening records: each entry below their number has one
pub length_openings : (n : ℕ) → length (opening_records n) ≡ n
length_openings zero = refl
length_openings (suc n) = omega (arith, length_push (opening_records n) (entry_record n opening None), length_openings n)

pub chain_openings_past : (n e : ℕ) → n ≤ e → chain_in (opening_records n) e ≡ []
chain_openings_past zero e past = refl
chain_openings_past (suc n) e past = chain_push_other (opening_records n) (entry_record n opening None) e (λ is. omega (arith, is)) ∙ chain_openings_past n e (omega arith)

pub chain_openings : (n e : ℕ) → e < n → chain_in (opening_records n) e ≡ opening ∷ []
chain_openings zero e below = absurd (omega arith)
chain_openings (suc n) e below =
    ⊎_elim
    (λ (is : e ≡ n). chain_push_same (opening_records n) (entry_record n opening None) e (sym is) ∙ ap (λ vs. vs ++ opening ∷ []) (chain_openings_past n e (omega (arith, is))))
    (λ apart. chain_push_other (opening_records n) (entry_record n opening None) e (λ is. apart (sym is)) ∙ chain_openings n e (omega (arith, apart)))
    (cases_eq e n)

pub last_openings : (n e : ℕ) → e < n → last_place (opening_records n) e ≡ Some (record_size * e)
last_openings zero e below = absurd (omega arith)
last_openings (suc n) e below =
    ⊎_elim
    (λ (is : e ≡ n). last_push_same (opening_records n) (entry_record n opening None) e (sym is) ∙ ap (λ k. Some (record_size * k)) (length_openings n ∙ sym is))
    (λ apart. last_push_other (opening_records n) (entry_record n opening None) e (λ is. apart (sym is)) ∙ last_openings n e (omega (arith, apart)))
    (cases_eq e n)
