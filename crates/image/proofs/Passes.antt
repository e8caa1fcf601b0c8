-- What the pass over the records of an image knows.
use Rattle.std.proofs.Common.{◌≡◌, ℕ, zero, suc, ◌+◌, ◌*◌, ◌<◌, ◌≤◌, true, false, Bool, List, [], ◌∷◌, ◌++◌, length, get_or, Some, None, Option, sym, refl, ap, subst, ◌∙◌, ⊎_elim, arith, add-one, set, replicate, nat_lt, ◌&&◌, get_or-set_same, get_or-set_other}
use Rattle.std.specs.List.{slice_index}
use Rattle.std.proofs.lemmas.List.{get_or-replicate, length_push, same_from_push}
use Rattle.std.proofs.lemmas.Bool.{cases_eq, cond-true, le-leb, lt-ltb, eq-eqb, both_ways}
use borrow.Author.Tests.{ltb-true, eqb-true}
use Rattle.store.specs.Meaning.{opening}
use Rattle.store.specs.Steps.{has_author, is_within}
use Rattle.record.specs.Numbers.{record_size, journal_reach}
use Rattle.record.specs.declared.record.Record.{Record}
use Rattle.record.specs.Bytes.{record_read}
use Rattle.record.specs.Journals.{chain_in, last_place, records, record_at, entry_record, opening_records, Journaled, laid_out, published}
use Rattle.record.proofs.Chains.{length_openings, chain_openings, last_openings, chain_push_same, chain_push_other, last_push_same, last_push_other}
use Rattle.record.proofs.Written.{length_records}
use Rattle.image.specs.Heads.{HeadsAre, may_follow, is_place}

-- a record that a publish may have added: of one of m entries, by an author, within reach, behind the entry's last record,
-- beside a chain with room
pub record MayCome (m d : ℕ) (rs : List Record) (r : Record) : Type 0 where
  pub inside : r.entry < m
  pub author : has_author r.version ≡ true
  pub near : is_within journal_reach r.version.value ≡ true
  pub behind : r.previous ≡ last_place rs r.entry
  pub room : length (chain_in rs r.entry) < d

-- a record more that may come, and the records are still a journal's
pub more : (m d : ℕ) (rs : List Record) (r : Record) → Journaled m d rs → MayCome m d rs r → Journaled m d (rs ++ r ∷ [])
more m d rs r j may =
    subst (λ (o : Option ℕ). Journaled m d (rs ++ entry_record r.entry r.version o ∷ [])) (sym may.behind) (published rs r.entry r.version j may.inside may.author may.near may.room)

-- of the records of a journal the first are the opening ones, and each other may come where it stands
first_records : {m d : ℕ} {rs : List Record} → Journaled m d rs → (bytes : List ℕ) (n : ℕ) → rs ≡ records bytes n → (m ≤ n) × (records bytes m ≡ opening_records m)
first_records {m} (laid_out fit) bytes n is =
    let long : m ≡ n = sym (length_openings m) ∙ ap length is ∙ length_records bytes n in
    (omega arith, ap (records bytes) long ∙ sym is)
first_records (published rs e v j inside author near room) bytes zero is = absurd (omega (arith, ap length is, length_push rs (entry_record e v (last_place rs e))))
first_records (published rs e v j inside author near room) bytes (suc n) is =
    let before = first_records j bytes n (same_from_push rs (records bytes n) _ _ is).0 in
    (omega (arith, before.0), before.1)

each_may : {m d : ℕ} {rs : List Record} → Journaled m d rs → (bytes : List ℕ) (n k : ℕ) → rs ≡ records bytes n → m ≤ k → k < n → MayCome m d (records bytes k) (record_at bytes k)
each_may {m} (laid_out fit) bytes n k is past below = absurd (omega (arith, ap length is, length_openings m, length_records bytes n))
each_may (published rs e v j inside author near room) bytes zero k is past below = absurd (omega arith)
each_may {m} {d} (published rs e v j inside author near room) bytes (suc n) k is past below =
    let same = same_from_push rs (records bytes n) _ _ is in
    ⊎_elim
    (λ (last : k ≡ n).
    let come : MayCome m d rs (entry_record e v (last_place rs e)) = record { inside = inside; author = author; near = near; behind = refl; room = room } in
    subst (λ (i : ℕ). MayCome m d (records bytes i) (record_at bytes i)) (sym last)
    (subst (λ (xs : List Record). MayCome m d xs (record_at bytes n)) same.0 (subst (MayCome m d rs) same.1 come)))
    (λ apart. each_may j bytes n k same.0 past (omega (arith, apart)))
    (cases_eq k n)

pub no_fewer : (m d : ℕ) (bytes : List ℕ) (n : ℕ) → Journaled m d (records bytes n) → m ≤ n
no_fewer m d bytes n j = (first_records j bytes n refl).0

pub opens : (m d : ℕ) (bytes : List ℕ) (n : ℕ) → Journaled m d (records bytes n) → records bytes m ≡ opening_records m
opens m d bytes n j = (first_records j bytes n refl).1

pub comes : (m d : ℕ) (bytes : List ℕ) (n k : ℕ) → Journaled m d (records bytes n) → m ≤ k → k < n → MayCome m d (records bytes k) (record_at bytes k)
comes m d bytes n k j past below = each_may j bytes n k refl past below

-- where the first records are the opening ones, each of them is
pub opens_each : (bytes : List ℕ) (m e : ℕ) → records bytes m ≡ opening_records m → e < m → record_at bytes e ≡ entry_record e opening None
opens_each bytes zero e is below = absurd (omega arith)
opens_each bytes (suc m) e is below =
    let same = same_from_push (records bytes m) (opening_records m) _ _ is in
    ⊎_elim
    (λ (last : e ≡ m). ap (record_at bytes) last ∙ same.1 ∙ ap (λ i. entry_record i opening None) (sym last))
    (λ apart. opens_each bytes m e same.0 (omega (arith, apart)))
    (cases_eq e m)

-- a record that is read is the one at its place
pub read_is : (bytes : List ℕ) (k : ℕ) → record_size * k + record_size ≤ length bytes → record_read bytes (record_size * k) ≡ Some (record_at bytes k)
read_is bytes k is_within = cond-true _ _ _ (le-leb (record_size * k + record_size) (length bytes) is_within)

pub read_one : (bytes : List ℕ) (k : ℕ) (r : Record) → record_size * k + record_size ≤ length bytes → Some r ≡ record_read bytes (record_size * k) → r ≡ record_at bytes k
read_one bytes k r is_within is =
    let there = read_is bytes k is_within in
    cc

-- one opening record more
pub opening_more : (bytes : List ℕ) (e : ℕ) (r : Record) → record_size * e + record_size ≤ length bytes → Some r ≡ record_read bytes (record_size * e) → r ≡ entry_record e opening None → records bytes e ≡ opening_records e → records bytes (e + 1) ≡ opening_records (e + 1)
opening_more bytes e r is_within is first before =
    ap (records bytes) (add-one e)
    ∙ (λ i. before i ++ (sym (read_one bytes e r is_within is) ∙ first) i ∷ [])
    ∙ ap opening_records (sym (add-one e))

pub not_opening : (bytes : List ℕ) (m e : ℕ) (r : Record) → record_size * e + record_size ≤ length bytes → e < m → Some r ≡ record_read bytes (record_size * e) → (r ≡ entry_record e opening None → ⊥) → records bytes m ≡ opening_records m → ⊥
not_opening bytes m e r is_within below is not open_all = not (read_one bytes e r is_within is ∙ opens_each bytes m e open_all below)

pub place_more : (lasts : List ℕ) (e : ℕ) → e < length lasts → ((i : ℕ) → i < e → get_or lasts i 0 ≡ record_size * i) → (i : ℕ) → i < e + 1 → get_or (set lasts e (record_size * e)) i 0 ≡ record_size * i
place_more lasts e is_within before i below =
    ⊎_elim
    (λ (same : i ≡ e). ap (λ k. get_or (set lasts e (record_size * e)) k 0) same ∙ get_or-set_same lasts e (record_size * e) 0 is_within ∙ ap (λ k. record_size * k) (sym same))
    (λ apart. get_or-set_other lasts e i (record_size * e) 0 apart ∙ before i (omega (arith, apart)))
    (cases_eq i e)

-- the heads of opening records
pub opening_heads : (m : ℕ) (lasts : List ℕ) → m ≤ 64 → ((i : ℕ) → i < m → get_or lasts i 0 ≡ record_size * i) → HeadsAre (opening_records m) (replicate 64 1) lasts m
opening_heads m lasts few places e inside = record {
  counted = ap length (chain_openings m e inside) ∙ sym (get_or-replicate 64 e 1 0 (omega arith));
  found = last_openings m e inside ∙ ap (λ n. Some n) (sym (places e inside));
}

and_both : (a b : Bool) → a && b ≡ true → (a ≡ true) × (b ≡ true)
and_both true true is = (refl, refl)
and_both true false is = absurd (cc)
and_both false b is = absurd (cc)

all_five : (a b c d e : Bool) → a ≡ true → b ≡ true → c ≡ true → d ≡ true → e ≡ true → a && (b && (c && (d && e))) ≡ true
all_five a b c d e pa pb pc pd pe = λ i. pa i && (pb i && (pc i && (pd i && pe i)))

is_it : (o : Option ℕ) (n : ℕ) → o ≡ Some n → is_place o n ≡ true
is_it None n is = absurd (cc)
is_it (Some p) n is =
    let same : p ≡ n = cc in
    eq-eqb p n same

option_is : (o : Option ℕ) (n : ℕ) → is_place o n ≡ true → o ≡ Some n
option_is None n is = absurd (cc)
option_is (Some p) n is = ap (λ k. Some k) (eqb-true p n is)

-- the test of a record by the heads
module _ (m d : ℕ) (rs : List Record) (lens lasts : List ℕ) (heads : HeadsAre rs lens lasts m) (r : Record) where
  pub may : may_follow m d lens lasts r ≡ true → MayCome m d rs r
  may fine =
      let a = and_both (nat_lt r.entry m) _ fine in
      let b = and_both (has_author r.version) _ a.1 in
      let e = and_both (is_within journal_reach r.version.value) _ b.1 in
      let f = and_both (is_place r.previous (slice_index lasts r.entry)) _ e.1 in
      let inside = ltb-true r.entry m a.0 in
      let h = heads r.entry inside in
      record {
        inside = inside;
        author = b.0;
        near = e.0;
        behind = option_is r.previous (slice_index lasts r.entry) f.0 ∙ sym h.found;
        room = omega (arith, h.counted, ltb-true (slice_index lens r.entry) d f.1);
      }

  pub may_not : may_follow m d lens lasts r ≡ false → MayCome m d rs r → ⊥
  may_not refused come =
      let h = heads r.entry come.inside in
      both_ways _ refused (all_five _ _ _ _ _ (lt-ltb r.entry m come.inside) come.author come.near (is_it r.previous (slice_index lasts r.entry) (come.behind ∙ h.found)) (lt-ltb (slice_index lens r.entry) d (omega (arith, h.counted, come.room))))

-- one record more, and the heads after it
module _ (m d : ℕ) (bytes : List ℕ) (k : ℕ) (lens lasts : List ℕ) (lens_long : m ≤ length lens) (lasts_long : m ≤ length lasts) (r : Record) (is_within : record_size * k + record_size ≤ length bytes) (is : Some r ≡ record_read bytes (record_size * k)) (heads : HeadsAre (records bytes k) lens lasts m) where
  at : r ≡ record_at bytes k
  at = read_one bytes k r is_within is

  pub kept_more : may_follow m d lens lasts r ≡ true → Journaled m d (records bytes k) → Journaled m d (records bytes (k + 1))
  kept_more fine j =
      subst (λ (n : ℕ). Journaled m d (records bytes n)) (sym (add-one k))
      (subst (λ (q : Record). Journaled m d (records bytes k ++ q ∷ [])) at (more m d (records bytes k) r j (may m d (records bytes k) lens lasts heads r fine)))

  records_now : records bytes (k + 1) ≡ records bytes k ++ r ∷ []
  records_now = ap (records bytes) (add-one k) ∙ ap (λ q. records bytes k ++ q ∷ []) (sym at)

  pub heads_more : r.entry < m → HeadsAre (records bytes (k + 1)) (set lens r.entry (get_or lens r.entry 0 + 1)) (set lasts r.entry (record_size * k)) m
  heads_more there e inside =
      ⊎_elim
      (λ (same : r.entry ≡ e).
      let h = heads e inside in
      record {
        counted = omega (
          arith,
          ap (λ xs. length (chain_in xs e)) records_now,
          ap length (chain_push_same (records bytes k) r e same),
          length_push (chain_in (records bytes k) e) r.version,
          h.counted,
          get_or-set_same lens r.entry (get_or lens r.entry 0 + 1) 0 (omega arith),
          ap (λ i. get_or (set lens r.entry (get_or lens r.entry 0 + 1)) i 0) same,
          ap (λ i. get_or lens i 0) same,
        );
        found = ap (λ xs. last_place xs e) records_now ∙ last_push_same (records bytes k) r e same
            ∙ ap (λ n. Some (record_size * n)) (length_records bytes k)
            ∙ ap (λ n. Some n) (sym (ap (λ i. get_or (set lasts r.entry (record_size * k)) i 0) (sym same) ∙ get_or-set_same lasts r.entry (record_size * k) 0 (omega arith)));
      })
      (λ apart.
      let h = heads e inside in
      record {
        counted = ap (λ xs. length (chain_in xs e)) records_now ∙ ap length (chain_push_other (records bytes k) r e apart) ∙ h.counted ∙ sym (get_or-set_other lens r.entry e _ 0 (λ same. apart (sym same)));
        found = ap (λ xs. last_place xs e) records_now ∙ last_push_other (records bytes k) r e apart ∙ h.found ∙ ap (λ n. Some n) (sym (get_or-set_other lasts r.entry e _ 0 (λ same. apart (sym same))));
      })
      (cases_eq r.entry e)

  pub none_more : (n : ℕ) → may_follow m d lens lasts r ≡ false → m ≤ k → k < n → Journaled m d (records bytes n) → ⊥
  none_more n refused past below j =
      may_not m d (records bytes k) lens lasts heads r refused (subst (MayCome m d (records bytes k)) (sym at) (comes m d bytes n k j past below))
