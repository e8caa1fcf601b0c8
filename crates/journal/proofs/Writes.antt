-- What publishing does to a journal.
use Rattle.std.proofs.Common.{◌≡◌, ℕ, ◌+◌, ◌*◌, ◌<◌, ◌≤◌, cond, eqb, true, List, [], ◌∷◌, ◌++◌, length, get_or, set, vec_items, Some, None, Ok, Option, sym, ap, subst, ◌∙◌, ⊎_elim, arith, add-one, get_or-set_same, get_or-set_other}
use Rattle.std.proofs.Math.Logic.{∥∥₁_elim, ∥∥₁_map}
use Rattle.std.specs.Coded.{le_prop}
use Rattle.std.specs.Vec.{with_items}
use Rattle.std.proofs.lemmas.List.{length_push, with_items_is}
use Rattle.std.proofs.lemmas.Bool.{cases_eq, cases_lt, eq-eqb, ne_eqb, cond-true, cond-false}
use Rattle.store.specs.declared.version.Version.{Version}
use Rattle.store.specs.declared.slots.Slots.{Slots}
use Rattle.store.specs.Steps.{is_within, PublishMeans}
use Rattle.store.specs.Slot.{MayFollow}
use Rattle.store.specs.Slots.{len_at, ready_answer, PutsSlot, writing_by, CountsChains}
use Rattle.store.proofs.SlotMeans.{ready_inside, ready_staged, ready_may, publish_means}
use Rattle.record.specs.declared.record.Record.{Record}
use Rattle.record.specs.Numbers.{record_size, journal_reach}
use Rattle.record.specs.Bytes.{record_bytes, Fits}
use Rattle.record.specs.Journals.{chain_in, last_place, records, entry_record, bytes_with, Journaled, published}
use Rattle.record.proofs.Kept as kept
use Rattle.record.proofs.Chains.{chain_push_same, chain_push_other, last_push_same, last_push_other}
use Rattle.record.proofs.Written.{records_more, length_records, length_written, length_record_bytes}
use Rattle.journal.specs.declared.JournalStore.{JournalStore}
use Rattle.journal.specs.Stores.{bytes_of, records_of, chain_at, journal_staged, journal_writing, bytes_with_version, records_with_version}

-- there are never more records than so many chains may have
pub count_short : (s : JournalStore) → s.count ≤ 12800
count_short s =
    ⊎_elim
    (λ none. omega (arith, s.blank (omega arith)))
    (λ (some : 1 ≤ s.slots.entries). ∥∥₁_elim (s.kept some) le_prop (λ h. omega (arith, kept.short h, length_records (bytes_of s) s.count)))
    (cases_lt s.slots.entries 1)

-- and its records lie within the memory
pub count_room : (s : JournalStore) → record_size * s.count ≤ length (bytes_of s)
count_room s =
    ⊎_elim
    (λ none. omega (arith, s.blank (omega arith)))
    (λ (some : 1 ≤ s.slots.entries). omega (arith, s.room, ∥∥₁_elim (s.kept some) le_prop (λ h. kept.room h), length_records (bytes_of s) s.count))
    (cases_lt s.slots.entries 1)

module _ (s : JournalStore) (e : ℕ) (v : Version) (ready : Ok v ≡ ready_answer s.slots e) where
  abbrev rs : List Record
  rs = records_of s

  abbrev place : ℕ
  place = record_size * s.count

  abbrev added : Record
  added = entry_record e v (Some (get_or s.lasts e 0))

  -- the bytes with the new record, and their records
  abbrev grown : List ℕ
  grown = bytes_with (bytes_of s) place (record_bytes added)

  abbrev records_now : List Record
  records_now = records grown (s.count + 1)

  pub inside : e < s.slots.entries
  inside = ready_inside s.slots e v ready

  may : MayFollow s.slots.depth s.slots.reach (len_at s.slots e) v
  may = ready_may s.slots e v ready

  near : is_within journal_reach v.value ≡ true
  near = subst (λ (reach : ℕ). is_within reach v.value ≡ true) s.reach may.near

  found : last_place rs e ≡ Some (get_or s.lasts e 0)
  found = s.found e inside

  -- with the new record they are still a journal's
  kept_more : ∥ Journaled s.slots.entries s.slots.depth (rs ++ added ∷ []) ∥₁
  kept_more = ∥∥₁_map
      (s.kept (omega (arith, inside)))
      (λ (h : Journaled s.slots.entries s.slots.depth rs). subst (λ (o : Option ℕ). Journaled s.slots.entries s.slots.depth (rs ++ entry_record e v o ∷ [])) found (published rs e v h inside may.author near (omega (arith, s.counts e, may.room))))

  pub place_room : place + record_size ≤ length (bytes_of s)
  place_room = omega (arith, s.room, ∥∥₁_elim kept_more le_prop (λ h. kept.room h), length_push rs added, length_records (bytes_of s) s.count)

  fits : Fits added
  fits = subst (λ (o : Option ℕ). Fits (entry_record e v o)) found (kept.published_fits s.slots.entries rs s.slots.few (omega (arith, length_records (bytes_of s) s.count, count_short s)) e v inside may.author near)

  records_grown : records_now ≡ rs ++ added ∷ []
  records_grown = ap (records grown) (add-one s.count) ∙ records_more (bytes_of s) s.count added fits place_room

  bytes_long : length grown ≡ length (bytes_of s)
  bytes_long = length_written (bytes_of s) place (record_bytes added) (omega (arith, length_record_bytes added, place_room))

  chains_grown : (k : ℕ) → chain_in records_now k ≡ cond (eqb k e) (chain_in rs e ++ v ∷ []) (chain_in rs k)
  chains_grown k =
      ap (λ xs. chain_in xs k) records_grown
      ∙ ⊎_elim
      (λ (same : k ≡ e). chain_push_same rs added k (sym same) ∙ ap (λ i. chain_in rs i ++ v ∷ []) same ∙ sym (cond-true _ _ _ (eq-eqb k e same)))
      (λ apart. chain_push_other rs added k (λ same. apart (sym same)) ∙ sym (cond-false _ _ _ (ne_eqb k e apart)))
      (cases_eq k e)

  found_grown : s.slots.entries ≤ length s.lasts → (k : ℕ) → k < s.slots.entries → last_place records_now k ≡ Some (get_or (set s.lasts e place) k 0)
  found_grown long k there =
      ap (λ xs. last_place xs k) records_grown
      ∙ ⊎_elim
      (λ (same : k ≡ e).
      last_push_same rs added k (sym same)
      ∙ ap (λ n. Some (record_size * n)) (length_records (bytes_of s) s.count)
      ∙ ap (λ n. Some n) (sym (ap (λ i. get_or (set s.lasts e place) i 0) same ∙ get_or-set_same s.lasts e place 0 (omega (arith, inside)))))
      (λ apart.
      last_push_other rs added k (λ same. apart (sym same)) ∙ s.found k there
      ∙ ap (λ n. Some n) (sym (get_or-set_other s.lasts e k place 0 apart)))
      (cases_eq k e)

  -- what is written is the record that a publish adds
  bytes_are : grown ≡ bytes_with_version s e (journal_staged s e)
  bytes_are =
      ap (λ o. bytes_with (bytes_of s) place (record_bytes (entry_record e v o))) (sym found)
      ∙ ap (bytes_with_version s e) (sym (ready_staged s.slots e v ready))

  -- the store after the record has been written: ws is what is written over its bytes
  module _ (new : Slots) (puts : PutsSlot s.slots e (len_at s.slots e + 1) None new) (ws : List ℕ) (written_is : ws ≡ grown) where
    abbrev now : List ℕ
    now = vec_items (with_items s.bytes ws)

    now_is : now ≡ grown
    now_is = with_items_is s.bytes ws (omega (arith, ap length written_is, bytes_long, s.bytes.ok.0)) ∙ written_is

    now_records : records now (s.count + 1) ≡ rs ++ added ∷ []
    now_records = ap (λ bytes. records bytes (s.count + 1)) now_is ∙ records_grown

    pub after_room : record_size * (new.entries * new.depth) ≤ length now
    after_room =
        let same : new.entries * new.depth ≡ s.slots.entries * s.slots.depth = λ i. puts.same_entries i * puts.same_depth i in
        omega (arith, same, ap length now_is, bytes_long, s.room)

    pub after_blank : new.entries ≡ 0 → s.count + 1 ≡ 0
    after_blank none = absurd (omega (arith, none, puts.same_entries, inside))

    pub after_kept : ∥ Journaled new.entries new.depth (records now (s.count + 1)) ∥₁
    after_kept =
        subst (λ (xs : List Record). ∥ Journaled new.entries new.depth xs ∥₁) (sym now_records)
        (subst (λ (m : ℕ). ∥ Journaled m new.depth (rs ++ added ∷ []) ∥₁) (sym puts.same_entries)
        (subst (λ (d : ℕ). ∥ Journaled s.slots.entries d (rs ++ added ∷ []) ∥₁) (sym puts.same_depth) kept_more))

    pub after_chains : (k : ℕ) → chain_in (records now (s.count + 1)) k ≡ cond (eqb k e) (chain_in rs e ++ v ∷ []) (chain_in rs k)
    after_chains k = ap (λ bytes. chain_in (records bytes (s.count + 1)) k) now_is ∙ chains_grown k

    pub after_counts : CountsChains new (chain_in (records now (s.count + 1)))
    after_counts k =
        ap length (after_chains k)
        ∙ ⊎_elim
        (λ (same : k ≡ e).
        let yes = eq-eqb k e same in
        omega (arith, ap length (cond-true _ (chain_in rs e ++ v ∷ []) (chain_in rs k) yes), length_push (chain_in rs e) v, s.counts e, puts.lens k, cond-true _ (len_at s.slots e + 1) (len_at s.slots k) yes))
        (λ apart.
        let no = ne_eqb k e apart in
        omega (arith, ap length (cond-false _ (chain_in rs e ++ v ∷ []) (chain_in rs k) no), s.counts k, puts.lens k, cond-false _ (len_at s.slots e + 1) (len_at s.slots k) no))
        (cases_eq k e)

    pub after_found : s.slots.entries ≤ length s.lasts → (k : ℕ) → k < new.entries → last_place (records now (s.count + 1)) k ≡ Some (get_or (set s.lasts e place) k 0)
    after_found long k there =
        ap (λ bytes. last_place (records bytes (s.count + 1)) k) now_is ∙ found_grown long k (omega (arith, there, puts.same_entries))

    pub after_publishes : PublishMeans (journal_writing s) e (Ok tt) (writing_by new (chain_in (records now (s.count + 1))))
    after_publishes = publish_means s.slots new e (chain_at s) (chain_in (records now (s.count + 1))) v ready puts after_chains

    pub after_bytes : now ≡ bytes_with_version s e (journal_staged s e)
    after_bytes = now_is ∙ bytes_are

    pub after_records : records now (s.count + 1) ≡ records_with_version s e (journal_staged s e)
    after_records =
        now_records
        ∙ ap (λ o. rs ++ entry_record e v o ∷ []) (sym found)
        ∙ ap (records_with_version s e) (sym (ready_staged s.slots e v ready))
