-- A house rule with a setting for each entry, and what a house is answered when it sets one.
use Rattle.std.specs.Prelude.{◌≡◌, ℕ, Bool, List, Ok, Err, nat_lt, slice_set, if◌then◌else◌, OnOk, OnErr}
use Rattle.store.specs.declared.refusal.Refusal.TheVariants.{NoSuchEntry, SizeOrSetting}
use Rattle.store.specs.Steps.{StoreAnswer}
use Rattle.rules.specs.declared.entry_rule.EntryRule.{EntryRule}
use Rattle.rules.specs.declared.setting.Setting as setting
use Rattle.rules.specs.Settings.{settings_count}

-- refused for an entry that has no setting, then for a setting that may not stand
abbrev pub set_answer : ℕ → Bool → StoreAnswer
set_answer entry may_stand =
    if nat_lt entry settings_count then (if may_stand then Ok tt else Err SizeOrSetting) else Err NoSuchEntry

module _ {T : Type 0} {s : setting.Ghosts T} where
  abbrev pub settings_of : EntryRule T s → List T
  settings_of rule = rule.settings

  -- the setting is set at one entry; where it is refused, the very rule that was there is left
  pub record SetsEntry (old : EntryRule T s) (entry : ℕ) (new_setting : T) (answer : StoreAnswer)
      (new : EntryRule T s) : Type 0 where
    pub answers : answer ≡ set_answer entry (s.stands new_setting)
    pub leaves : OnOk answer (settings_of new ≡ slice_set (settings_of old) entry new_setting)
    pub refused : OnErr answer (new ≡ old)
