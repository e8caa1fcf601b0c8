-- What a change of one slot is to a store's meaning.
use Rattle.std.proofs.Common.{◌≡◌, ℕ, ◌+◌, ◌<◌, cond, eqb, ltb, Bool, true, false, List, [], ◌∷◌, ◌++◌, is_some, Some, None, Ok, Err, Option, Result, OnOk, OnErr, refl, sym, ap, subst, ◌∙◌, ⊎_elim}
use mathlib.Core.Path.{fun_ext}
use Rattle.std.proofs.lemmas.Bool.{cases_eq, cases_lt, cond-true, cond-false, eq-eqb, ne_eqb, le-ltb}
use Rattle.store.specs.declared.version.Version.{Version}
use Rattle.store.specs.declared.refusal.Refusal.{Refusal}
use Rattle.store.specs.declared.refusal.Refusal.TheVariants.{NoSuchEntry, ValueBeyondReach, ChainFull, NothingStaged, NoSuchAuthor}
use Rattle.store.specs.declared.slots.Slot.{Slot}
use Rattle.store.specs.declared.slots.Slots.{Slots}
use Rattle.store.specs.Steps.{StoreAnswer, has_author, is_within, unless_refused, with_staged, with_published, stage_answer, publish_answer, withdraw_answer, StageMeans, PublishMeans, WithdrawMeans}
use Rattle.store.specs.Slot.{MayFollow}
use Rattle.store.specs.SlotLaws.{slot_inside, len_room}
use Rattle.store.specs.Laying.{opening_chains, laid_out_meaning}
use Rattle.store.specs.Slots.{len_at, staged_at, staged_answer, ready_answer, without_version, stage_slots_answer, PutsSlot, CountsStaged, AreLaidOut, writing_by, CountsChains}

-- what is staged, and what publish and withdraw answer
answer_ready : (b : Bool) (o : Option Version) → without_version (cond b (staged_answer o) (Err NoSuchEntry)) ≡ cond b (cond (is_some o) (Ok tt) (Err NothingStaged)) (Err NoSuchEntry)
answer_ready true None = refl
answer_ready true (Some version) = refl
answer_ready false o = refl

found_ready : (b : Bool) (o : Option Version) (version : Version) → Ok version ≡ cond b (staged_answer o) (Err NoSuchEntry) → o ≡ Some version
found_ready true None version is = absurd (cc)
found_ready true (Some other) version is = cc
found_ready false o version is = absurd (cc)

-- an entry with something to publish: it is one of the store's, and its chain has room
module _ (slots : Slots) (entry : ℕ) (version : Version) (ready : Ok version ≡ ready_answer slots entry) where
  pub ready_inside : entry < slots.entries
  ready_inside =
      ⊎_elim
      (λ inside. inside)
      (λ past.
      let none : ready_answer slots entry ≡ Err NoSuchEntry = cond-false _ _ _ (le-ltb entry slots.entries past) in
      absurd (cc))
      (cases_lt entry slots.entries)

  pub ready_staged : staged_at slots entry ≡ Some version
  ready_staged = found_ready (ltb entry slots.entries) (staged_at slots entry) version ready

  pub ready_may : MayFollow slots.depth slots.reach (len_at slots entry) version
  ready_may =
      let is = slot_inside slots entry ready_inside in
      subst (λ (slot : Slot). MayFollow slots.depth slots.reach slot.len version) (sym is)
      ((slots.sound entry ready_inside).ready version (ap (λ (slot : Slot). slot.staged) (sym is) ∙ ready_staged))

  pub ready_room : len_at slots entry < slots.depth
  ready_room = len_room slots entry (ap is_some ready_staged)

  -- what publishing leaves there
  pub ready_counted : (new : Slots) → OnOk (ready_answer slots entry) (CountsStaged slots entry new) → CountsStaged slots entry new
  ready_counted new counted = subst (λ (answer : Result Version Refusal). OnOk answer (CountsStaged slots entry new)) (sym ready) counted

-- lengths where one entry keeps its own, and where it grows
pub lens_kept : (old new : Slots) (entry : ℕ) (staged : Option Version) → PutsSlot old entry (len_at old entry) staged new → (k : ℕ) → len_at new k ≡ len_at old k
lens_kept old new entry staged puts k =
    ⊎_elim
    (λ (same : k ≡ entry). puts.lens k ∙ cond-true _ _ _ (eq-eqb k entry same) ∙ ap (len_at old) (sym same))
    (λ apart. puts.lens k ∙ cond-false _ _ _ (ne_eqb k entry apart))
    (cases_eq k entry)

module _ (old new : Slots) (entry : ℕ) where
  restaged_means : (chains after : ℕ → List Version) (staged : Option Version) → after ≡ chains → PutsSlot old entry (len_at old entry) staged new
      → writing_by new after ≡ with_staged (writing_by old chains) entry staged
  restaged_means chains after staged same puts =
      let stageds = fun_ext puts.stageds in
      λ i. record { reading = record { entries = puts.same_entries i; depth = puts.same_depth i; reach = puts.same_reach i; chains = same i }; staged = stageds i }

  -- a call that stages, or drops what is staged, by its answer
  leaves : (chains after : ℕ → List Version) (staged : Option Version) → after ≡ chains → (result answer : StoreAnswer) → result ≡ answer
      → OnOk result (PutsSlot old entry (len_at old entry) staged new) → OnErr result (new ≡ old)
      → writing_by new after ≡ unless_refused answer (with_staged (writing_by old chains) entry staged) (writing_by old chains)
  leaves chains after staged same (Ok done) answer is puts kept =
      restaged_means chains after staged same puts
      ∙ ap (λ a. unless_refused a (with_staged (writing_by old chains) entry staged) (writing_by old chains)) is
  leaves chains after staged same (Err refusal) answer is puts kept =
      (λ i. writing_by (kept i) (same i))
      ∙ ap (λ a. unless_refused a (with_staged (writing_by old chains) entry staged) (writing_by old chains)) is

  module _ (chains after : ℕ → List Version) (counts : CountsChains old chains) (same : after ≡ chains) (result : StoreAnswer) where
    pub stage_means : (version : Version) → result ≡ stage_slots_answer old entry version
        → OnOk result (PutsSlot old entry (len_at old entry) (Some version) new) → OnErr result (new ≡ old)
        → StageMeans (writing_by old chains) entry version result (writing_by new after)
    stage_means version is puts kept =
        let answer : result ≡ stage_answer (writing_by old chains) entry version =
        is ∙ ap (λ n. cond (ltb entry old.entries) (cond (has_author version) (cond (is_within old.reach version.value) (cond (ltb n old.depth) (Ok tt) (Err ChainFull)) (Err ValueBeyondReach)) (Err NoSuchAuthor)) (Err NoSuchEntry)) (sym (counts entry)) in
        record { answer = answer; leaves = leaves chains after (Some version) same result (stage_answer (writing_by old chains) entry version) answer puts kept }

    pub withdraw_means : result ≡ without_version (ready_answer old entry)
        → OnOk result (PutsSlot old entry (len_at old entry) None new) → OnErr result (new ≡ old)
        → WithdrawMeans (writing_by old chains) entry result (writing_by new after)
    withdraw_means is puts kept =
        let answer : result ≡ withdraw_answer (writing_by old chains) entry = is ∙ answer_ready (ltb entry old.entries) (staged_at old entry) in
        record { answer = answer; leaves = leaves chains after None same result (withdraw_answer (writing_by old chains) entry) answer puts kept }

  -- what is staged is counted to its chain, and the chain has it at its end
  pub publish_means : (chains after : ℕ → List Version) (version : Version) → Ok version ≡ ready_answer old entry
      → PutsSlot old entry (len_at old entry + 1) None new → ((k : ℕ) → after k ≡ cond (eqb k entry) (chains entry ++ version ∷ []) (chains k))
      → PublishMeans (writing_by old chains) entry (Ok tt) (writing_by new after)
  publish_means chains after version ready puts grown =
      let staged = found_ready (ltb entry old.entries) (staged_at old entry) version ready in
      let answer : Ok tt ≡ publish_answer (writing_by old chains) entry = ap without_version ready ∙ answer_ready (ltb entry old.entries) (staged_at old entry) in
      let longer = fun_ext grown in
      let stageds = fun_ext puts.stageds in
      let means : writing_by new after ≡ with_published (writing_by old chains) entry (Some version) =
      λ i. record { reading = record { entries = puts.same_entries i; depth = puts.same_depth i; reach = puts.same_reach i; chains = longer i }; staged = stageds i } in
      record {
        answer = answer;
        leaves = means ∙ ap (with_published (writing_by old chains) entry) (sym staged)
            ∙ ap (λ a. unless_refused a (with_published (writing_by old chains) entry (staged_at old entry)) (writing_by old chains)) answer;
      }

-- a publish that is refused
pub publish_refused : (old : Slots) (entry : ℕ) (chains : ℕ → List Version) (refusal : Refusal) → Err refusal ≡ ready_answer old entry
    → PublishMeans (writing_by old chains) entry (Err refusal) (writing_by old chains)
publish_refused old entry chains refusal ready =
    let answer : Err refusal ≡ publish_answer (writing_by old chains) entry = ap without_version ready ∙ answer_ready (ltb entry old.entries) (staged_at old entry) in
    record {
      answer = answer;
      leaves = ap (λ a. unless_refused a (with_published (writing_by old chains) entry (staged_at old entry)) (writing_by old chains)) answer;
    }

-- slots just laid out, and chains of the opening version alone
pub laid_out_means : (reach entries depth : ℕ) (new : Slots) (chains : ℕ → List Version) → AreLaidOut reach entries depth new → ((k : ℕ) → chains k ≡ opening_chains entries k)
    → writing_by new chains ≡ laid_out_meaning reach entries depth
laid_out_means reach entries depth new chains laid each =
    let all = fun_ext each in
    let none = fun_ext laid.stageds in
    λ i. record { reading = record { entries = laid.entries_are i; depth = laid.depth_is i; reach = laid.reach_is i; chains = all i }; staged = none i }
