-- What holds of every list of records that a journal may hold.
use Rattle.std.proofs.Common.{◌≡◌, ℕ, zero, suc, ◌+◌, ◌*◌, ◌<◌, ◌≤◌, cond, nat_lt, nat_eq, true, false, Bool, List, [], ◌∷◌, ◌++◌, length, get_or, refl, sym, ap, ◌∙◌, ⊎_elim, arith, Some, None, Option, map, add_comm}
use Rattle.std.specs.List.{filter}
use Rattle.std.specs.Prelude.{IfSome}
use Rattle.std.proofs.lemmas.Nat.{mul-le}
use Rattle.std.proofs.lemmas.List.{length_push, get_or_append_left}
use Rattle.std.proofs.lemmas.Bool.{cases_lt, cases_eq, lt-ltb, le-ltb, ne_eqb, cond-true, cond-false}
use Rattle.std.proofs.lemmas.Bool.Decides.{nat_tests}
use Rattle.store.specs.declared.version.Version.{Version}
use Rattle.store.specs.Meaning.{opening}
use Rattle.store.specs.Laying.{sizes_fit, widest_sizes}
use Rattle.store.specs.Steps.{has_author, is_within}
use Rattle.record.specs.Numbers.{record_size, no_place, journal_reach}
use Rattle.record.specs.declared.record.Record.{Record}
use Rattle.record.specs.Bytes.{Fits, previous_number, previous_from}
use Rattle.record.specs.Journals.{entry_record, opening_records, is_of_entry, chain_in, last_from, last_place, Journaled, laid_out, published}
use Rattle.record.proofs.Chains.{chain_push_same, chain_push_other, chain_openings, chain_openings_past, length_openings}

pub sizes : {m d : ℕ} {rs : List Record} → Journaled m d rs → sizes_fit widest_sizes m d ≡ true
sizes (laid_out fit) = fit
sizes (published rs x v j inside author near room) = sizes j

pub least : {m d : ℕ} {rs : List Record} → Journaled m d rs → (e : ℕ) → e < m → 1 ≤ length (chain_in rs e)
least {m} (laid_out fit) e below = omega (arith, ap length (chain_openings m e below))
least {m} (published rs x v j inside author near room) e below =
    let r = entry_record x v (last_place rs x) in
    ⊎_elim
    (λ (is : x ≡ e). omega (arith, ap length (chain_push_same rs r e is), length_push (chain_in rs e) v))
    (λ apart. omega (arith, ap length (chain_push_other rs r e apart), least j e below))
    (cases_eq x e)

pub deep : (m d : ℕ) → sizes_fit widest_sizes m d ≡ true → 2 ≤ d
deep m d fit = grind (arith, nat_tests)

pub shallow : (m d : ℕ) → sizes_fit widest_sizes m d ≡ true → d ≤ 200
shallow m d fit = grind (arith, nat_tests)

pub few : (m d : ℕ) → sizes_fit widest_sizes m d ≡ true → m ≤ 64
few m d fit = grind (arith, nat_tests)

pub some_entry : (m d : ℕ) → sizes_fit widest_sizes m d ≡ true → 1 ≤ m
some_entry m d fit = grind (arith, nat_tests)

pub most : {m d : ℕ} {rs : List Record} → Journaled m d rs → (e : ℕ) → length (chain_in rs e) ≤ d
most {m} {d} (laid_out fit) e =
    ⊎_elim
    (λ below. omega (arith, ap length (chain_openings m e below), deep m d fit))
    (λ past. omega (arith, ap length (chain_openings_past m e past)))
    (cases_lt e m)
most {m} (published rs x v j inside author near room) e =
    let r = entry_record x v (last_place rs x) in
    ⊎_elim
    (λ (is : x ≡ e). omega (arith, ap length (chain_push_same rs r e is), length_push (chain_in rs e) v, room, ap (λ k. length (chain_in rs k)) is))
    (λ apart. omega (arith, ap length (chain_push_other rs r e apart), most j e))
    (cases_eq x e)

pub first : {m d : ℕ} {rs : List Record} → Journaled m d rs → (e : ℕ) → e < m → get_or (chain_in rs e) 0 opening ≡ opening
first {m} (laid_out fit) e below = ap (λ vs. get_or vs 0 opening) (chain_openings m e below)
first {m} (published rs x v j inside author near room) e below =
    let r = entry_record x v (last_place rs x) in
    ⊎_elim
    (λ (is : x ≡ e). ap (λ vs. get_or vs 0 opening) (chain_push_same rs r e is) ∙ get_or_append_left (chain_in rs e) (v ∷ []) opening 0 (least j e below) ∙ first j e below)
    (λ apart. ap (λ vs. get_or vs 0 opening) (chain_push_other rs r e apart) ∙ first j e below)
    (cases_eq x e)

pub none : {m d : ℕ} {rs : List Record} → Journaled m d rs → (e : ℕ) → m ≤ e → length (chain_in rs e) ≡ 0
none {m} (laid_out fit) e past = ap length (chain_openings_past m e past)
none {m} (published rs x v j inside author near room) e past =
    ap length (chain_push_other rs (entry_record x v (last_place rs x)) e (λ is. omega (arith, is))) ∙ none j e past

-- how many records are of an entry below m
abbrev count_below : ℕ → List Record → ℕ
count_below m [] = 0
count_below m (r ∷ rs) = cond (nat_lt r.entry m) 1 0 + count_below m rs

count_push : (m : ℕ) (rs : List Record) (r : Record) → count_below m (rs ++ r ∷ []) ≡ count_below m rs + cond (nat_lt r.entry m) 1 0
count_push m [] r = omega (arith, add_comm (cond (nat_lt r.entry m) 1 0) 0)
count_push m (q ∷ rs) r = omega (arith, count_push m rs r)

count_zero : (rs : List Record) → count_below 0 rs ≡ 0
count_zero [] = refl
count_zero (r ∷ rs) = omega (arith, cond-false {A = ℕ} (nat_lt r.entry 0) 1 0 (le-ltb r.entry 0 (omega arith)), count_zero rs)

length_cond : (r : Record) (rs : List Record) (b : Bool) → length (map (λ (q : Record). q.version) (cond b (r ∷ rs) rs)) ≡ cond b 1 0 + length (map (λ (q : Record). q.version) rs)
length_cond r rs true = omega arith
length_cond r rs false = omega arith

length_chain : (r : Record) (rs : List Record) (e : ℕ) → length (chain_in (r ∷ rs) e) ≡ cond (is_of_entry e r) 1 0 + length (chain_in rs e)
length_chain r rs e = length_cond r (filter (is_of_entry e) rs) (is_of_entry e r)

-- of two tests of a number, below m or m itself, one says whether it is below m + 1
one_more : (k m : ℕ) → cond (nat_lt k (suc m)) 1 0 ≡ cond (nat_lt k m) 1 0 + cond (nat_eq k m) 1 0
one_more k m = grind (arith, nat_tests)

count_suc : (m : ℕ) (rs : List Record) → count_below (suc m) rs ≡ count_below m rs + length (chain_in rs m)
count_suc m [] = omega arith
count_suc m (r ∷ rs) = omega (arith, count_suc m rs, length_chain r rs m, one_more r.entry m)

count_most : (m d : ℕ) (rs : List Record) → ((e : ℕ) → length (chain_in rs e) ≤ d) → count_below m rs ≤ m * d
count_most zero d rs most = omega (arith, count_zero rs)
count_most (suc m) d rs most = omega (arith, count_suc m rs, count_most m d rs most, most m)

count_openings : (m n : ℕ) → n ≤ m → count_below m (opening_records n) ≡ n
count_openings m zero below = refl
count_openings m (suc n) below = omega (arith, count_push m (opening_records n) (entry_record n opening None), count_openings m n (omega arith), cond-true {A = ℕ} (nat_lt n m) 1 0 (lt-ltb n m (omega arith)))

count_all : {m d : ℕ} {rs : List Record} → Journaled m d rs → count_below m rs ≡ length rs
count_all {m} (laid_out fit) = count_openings m m (omega arith) ∙ sym (length_openings m)
count_all {m} (published rs x v j inside author near room) =
    let r = entry_record x v (last_place rs x) in
    omega (arith, count_push m rs r, count_all j, cond-true {A = ℕ} (nat_lt x m) 1 0 (lt-ltb x m inside), length_push rs r)

-- the chains together have no more versions than the entries may have
pub room : {m d : ℕ} {rs : List Record} → Journaled m d rs → length rs ≤ m * d
room {m} {d} {rs} j = omega (arith, count_all j, count_most m d rs (most j))

-- a place found lies before the records' end
abbrev Before : ℕ → Option ℕ → Type 0
Before n found = IfSome found (λ p. p < n)

before_later : (m n : ℕ) (found : Option ℕ) → m ≤ n → Before m found → Before n found
before_later m n None later h = h
before_later m n (Some p) later h = omega (arith, h)

chosen_before : (n p : ℕ) (b : Bool) (found : Option ℕ) → p < n → Before n found → Before n (cond b (Some p) found)
chosen_before n p true found h k = h
chosen_before n p false found h k = k

last_before : (place : ℕ) (rs : List Record) (e : ℕ) (found : Option ℕ) → Before place found → Before (place + record_size * length rs) (last_from place rs e found)
last_before place [] e found h = before_later place _ found (omega arith) h
last_before place (r ∷ rs) e found h =
    let next = chosen_before (place + record_size) place (is_of_entry e r) found (omega arith) (before_later place (place + record_size) found (omega arith) h) in
    before_later _ _ (last_from place (r ∷ rs) e found) (omega arith) (last_before (place + record_size) rs e (cond (is_of_entry e r) (Some place) found) next)

read_again : (found : Option ℕ) → Before 204800 found → (previous_number found < 4294967296) × (previous_from (previous_number found) ≡ found)
read_again None h = (omega arith, refl)
read_again (Some p) h = (omega (arith, h), cond-false _ _ _ (ne_eqb p no_place (λ is. omega (arith, h, is))))

-- the place of the last record of an entry has its four bytes, and is not taken for none
pub previous_fits : (rs : List Record) (e : ℕ) → length rs ≤ 12800 → (previous_number (last_place rs e) < 4294967296) × (previous_from (previous_number (last_place rs e)) ≡ last_place rs e)
previous_fits rs e few = read_again (last_place rs e) (before_later (0 + record_size * length rs) 204800 (last_place rs e) (omega arith) (last_before 0 rs e None tt))

-- what a publish adds has its sixteen bytes
pub published_fits : (m : ℕ) (rs : List Record) → m ≤ 64 → length rs ≤ 12800 → (e : ℕ) (v : Version) → e < m → has_author v ≡ true → is_within journal_reach v.value ≡ true → Fits (entry_record e v (last_place rs e))
published_fits m rs few short e v inside author near =
    let previous = previous_fits rs e short in
    record {
      entry = omega arith;
      seat = grind (arith, nat_tests);
      serial = grind (arith, nat_tests);
      value = near;
      previous = previous.0;
      none = previous.1;
    }

-- there are never more records than so many chains may have
pub short : {m d : ℕ} {rs : List Record} → Journaled m d rs → length rs ≤ 12800
short {m} {d} j =
    let fit = sizes j in
    omega (arith, room j, mul-le m d 64 200 (few m d fit) (shallow m d fit))

-- and so has an opening record
pub opening_fits : (e : ℕ) → e < 64 → Fits (entry_record e opening None)
opening_fits e below = record { entry = omega arith; seat = omega arith; serial = omega arith; value = refl; previous = omega arith; none = refl }
