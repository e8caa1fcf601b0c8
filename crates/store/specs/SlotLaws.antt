-- What a store with slots and chains owes, where the slots count the chains.
-- All here is proved, and no contract rests on its wording: an implementation can name a lemma of specs/ alone.
use Rattle.std.specs.Prelude.{◌≡◌, ℕ, ◌<◌, ◌≤◌, true, List, is_some, Some, None, Option, false, slice_index_or}
use Rattle.std.proofs.Common.{ap, sym, ◌∙◌, arith, ⊎_elim, refl}
use Rattle.std.proofs.lemmas.List.{nil_from_length}
use Rattle.std.proofs.lemmas.Bool.{lt-ltb, le-ltb, cond-true, cond-false, cases_lt, both_ways}
use Rattle.store.specs.declared.version.Version.{Version}
use Rattle.store.specs.declared.slots.Slot.{Slot}
use Rattle.store.specs.declared.slots.Slots.{Slots}
use Rattle.store.specs.Numbers.{farthest}
use Rattle.store.specs.Meaning.{opening, IsSoundReading, IsSoundWriting}
use Rattle.store.specs.Slot.{blank_slot, MayFollow}
use Rattle.store.specs.Slots.{slot_at, len_at, staged_at, reading_by, writing_by, CountsChains}

staged_room : (depth reach len : ℕ) (staged : Option Version) → is_some staged ≡ true
    → ((version : Version) → staged ≡ Some version → MayFollow depth reach len version) → len < depth
staged_room depth reach len None some ready = absurd (both_ways false refl some)
staged_room depth reach len (Some version) some ready = (ready version refl).room

module _ (slots : Slots) where
  pub slot_inside : (entry : ℕ) → entry < slots.entries → slot_at slots entry ≡ slice_index_or slots.slots entry blank_slot
  slot_inside entry inside = cond-true _ _ _ (lt-ltb entry slots.entries inside)

  pub slot_past : (entry : ℕ) → slots.entries ≤ entry → slot_at slots entry ≡ blank_slot
  slot_past entry past = cond-false _ _ _ (le-ltb entry slots.entries past)

  pub len_least : (entry : ℕ) → entry < slots.entries → 1 ≤ len_at slots entry
  len_least entry inside = omega (arith, ap (λ (slot : Slot). slot.len) (slot_inside entry inside), (slots.sound entry inside).least)

  pub len_most : (entry : ℕ) → len_at slots entry ≤ slots.depth
  len_most entry =
      ⊎_elim
      (λ inside. omega (arith, ap (λ (slot : Slot). slot.len) (slot_inside entry inside), (slots.sound entry inside).most))
      (λ past. omega (arith, ap (λ (slot : Slot). slot.len) (slot_past entry past)))
      (cases_lt entry slots.entries)

  pub len_room : (entry : ℕ) → is_some (staged_at slots entry) ≡ true → len_at slots entry < slots.depth
  len_room entry found =
      ⊎_elim
      (λ inside.
      let is = slot_inside entry inside in
      let slot = slice_index_or slots.slots entry blank_slot in
      omega (arith, ap (λ (s : Slot). s.len) is, staged_room slots.depth slots.reach slot.len slot.staged (ap (λ (s : Slot). is_some s.staged) (sym is) ∙ found) (slots.sound entry inside).ready))
      (λ past. absurd (both_ways _ (ap (λ (s : Slot). is_some s.staged) (slot_past entry past)) found))
      (cases_lt entry slots.entries)

  module _ (chains : ℕ → List Version) (counts : CountsChains slots chains) where
    pub slots_readable : 1 ≤ slots.reach → slots.reach ≤ farthest → ((entry : ℕ) → entry < slots.entries → slice_index_or (chains entry) 0 opening ≡ opening)
        → IsSoundReading (reading_by slots chains)
    slots_readable least most first = record {
      entries_most = slots.few;
      depth_least = slots.deep;
      reach_least = least;
      reach_most = most;
      chain_least = λ entry inside. omega (arith, counts entry, len_least entry inside);
      chain_most = λ entry. omega (arith, counts entry, len_most entry);
      chain_first = first;
      chain_none = λ entry past. nil_from_length (chains entry) (omega (arith, counts entry, ap (λ (slot : Slot). slot.len) (slot_past entry past)));
    }

    pub slots_writable : IsSoundWriting (writing_by slots chains)
    slots_writable = record {
      staged_room = λ entry found. omega (arith, counts entry, len_room entry found);
      staged_inside = λ entry past. ap (λ (slot : Slot). slot.staged) (slot_past entry past);
    }
