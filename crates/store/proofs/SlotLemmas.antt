-- What holds of slots still holds when one of them changes.
use Rattle.std.proofs.Common.{◌≡◌, ℕ, ◌+◌, ◌<◌, ◌≤◌, true, List, length, set, get_or, is_some, Some, None, refl, sym, ap, subst, ◌∙◌, ⊎_elim, cond, ltb, arith, get_or-set_same, get_or-set_other, replicate}
use Rattle.std.proofs.lemmas.List.{get_or-replicate}
use Rattle.std.proofs.lemmas.Bool.{cases_eq, cases_lt, cond-true, cond-false, lt-ltb, le-ltb}
use Rattle.store.specs.declared.version.Version.{Version}
use Rattle.store.specs.declared.slots.Slot.{Slot}
use Rattle.store.specs.declared.slots.Slots.{Slots}
use Rattle.store.specs.Slot.{blank_slot, MayFollow, IsSoundSlot}
use Rattle.store.specs.SlotLaws.{slot_inside, len_room}
use Rattle.store.specs.Slots.{slot_at, len_at, staged_at, AreLaidOut}

-- one slot changes to another that is sound
pub set_sound : (depth reach entries : ℕ) (slots : List Slot) (entry : ℕ) (slot : Slot) → entries ≤ length slots → entry < entries
    → ((k : ℕ) → k < entries → IsSoundSlot depth reach (get_or slots k blank_slot)) → IsSoundSlot depth reach slot
    → (k : ℕ) → k < entries → IsSoundSlot depth reach (get_or (set slots entry slot) k blank_slot)
set_sound depth reach entries slots entry slot long inside sound new k there =
    ⊎_elim
    (λ (same : k ≡ entry).
    subst (IsSoundSlot depth reach) (sym (ap (λ i. get_or (set slots entry slot) i blank_slot) same ∙ get_or-set_same slots entry slot blank_slot (omega arith))) new)
    (λ apart. subst (IsSoundSlot depth reach) (sym (get_or-set_other slots entry k slot blank_slot apart)) (sound k there))
    (cases_eq k entry)

module _ (s : Slots) (entry : ℕ) (inside : entry < s.entries) where
  abbrev slot : Slot
  slot = get_or s.slots entry blank_slot

  pub staged_sound : (version : Version) → MayFollow s.depth s.reach slot.len version → IsSoundSlot s.depth s.reach (record { len = slot.len; staged = Some version })
  staged_sound version may = record {
    least = (s.sound entry inside).least;
    most = (s.sound entry inside).most;
    ready = λ other is.
        let same : version ≡ other = cc in
        subst (MayFollow s.depth s.reach slot.len) same may;
  }

  pub emptied_sound : IsSoundSlot s.depth s.reach (record { len = slot.len; staged = None })
  emptied_sound = record { least = (s.sound entry inside).least; most = (s.sound entry inside).most; ready = λ other is. absurd (cc) }

  pub grown_sound : is_some (staged_at s entry) ≡ true → IsSoundSlot s.depth s.reach (record { len = slot.len + 1; staged = None })
  grown_sound some = record { least = omega arith; most = omega (arith, ap (λ (x : Slot). x.len) (slot_inside s entry inside), len_room s entry some); ready = λ other is. absurd (cc) }

pub opened_sound : (depth reach entries : ℕ) → entries ≤ 64 → 2 ≤ depth → (k : ℕ) → k < entries → IsSoundSlot depth reach (get_or (replicate 64 (record { len = 1; staged = None })) k blank_slot)
opened_sound depth reach entries few deep k there =
    subst (IsSoundSlot depth reach) (sym (get_or-replicate 64 k _ _ (omega arith))) (record { least = omega arith; most = omega arith; ready = λ other is. absurd (cc) })

-- slots that are all just laid out
module _ (s : Slots) (all : s.slots ≡ replicate 64 (record { len = 1; staged = None })) where
  opened_slot : (k : ℕ) → slot_at s k ≡ cond (ltb k s.entries) (record { len = 1; staged = None }) blank_slot
  opened_slot k =
      ⊎_elim
      (λ there.
      let each : get_or s.slots k blank_slot ≡ record { len = 1; staged = None } = ap (λ (slots : List Slot). get_or slots k blank_slot) all ∙ get_or-replicate 64 k _ _ (omega (arith, s.few)) in
      cond-true _ _ _ (lt-ltb k s.entries there) ∙ each ∙ sym (cond-true _ _ _ (lt-ltb k s.entries there)))
      (λ past. cond-false _ _ _ (le-ltb k s.entries past) ∙ sym (cond-false _ _ _ (le-ltb k s.entries past)))
      (cases_lt k s.entries)

  opened_staged : (k : ℕ) → staged_at s k ≡ None
  opened_staged k =
      ⊎_elim
      (λ there. ap (λ (x : Slot). x.staged) (opened_slot k) ∙ ap (λ b. (cond b (record { len = 1; staged = None }) blank_slot).staged) (lt-ltb k s.entries there))
      (λ past. ap (λ (x : Slot). x.staged) (cond-false _ _ _ (le-ltb k s.entries past)))
      (cases_lt k s.entries)

  opened_len : (k : ℕ) → len_at s k ≡ cond (ltb k s.entries) 1 0
  opened_len k =
      ⊎_elim
      (λ there. ap (λ (x : Slot). x.len) (opened_slot k) ∙ ap (λ b. (cond b (record { len = 1; staged = None }) blank_slot).len) (lt-ltb k s.entries there) ∙ sym (cond-true _ _ _ (lt-ltb k s.entries there)))
      (λ past. ap (λ (x : Slot). x.len) (cond-false _ _ _ (le-ltb k s.entries past)) ∙ sym (cond-false _ _ _ (le-ltb k s.entries past)))
      (cases_lt k s.entries)

  pub are_laid_out : AreLaidOut s.reach s.entries s.depth s
  are_laid_out = record { entries_are = refl; depth_is = refl; reach_is = refl; lens = opened_len; stageds = opened_staged }
