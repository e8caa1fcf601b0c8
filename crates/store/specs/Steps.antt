-- What stage, publish and withdraw answer, and what the store means after them. A refused call changes nothing.
use Rattle.std.specs.Prelude.{◌≡◌, ℕ, Bool, if◌then◌else◌, ◌&&◌, [], ◌∷◌, ◌++◌, length, ℤ, pos, neg_ℤ}
use Rattle.std.specs.Prelude.{Some, None, Ok, Err, Option, Result, is_some, ◌==◌, int_le, nat_le, nat_lt}
use Rattle.store.specs.declared.version.Version.{Version}
use Rattle.store.specs.declared.refusal.Refusal.{Refusal}
use Rattle.store.specs.declared.refusal.Refusal.TheVariants.{NoSuchEntry, ValueBeyondReach, ChainFull, NothingStaged, NoSuchAuthor}
use Rattle.store.specs.Numbers.{most_seats, last_serial}
use Rattle.store.specs.Meaning.{ReadingMeaning, WritingMeaning, meaning_of}

abbrev pub StoreAnswer : Type 0
StoreAnswer = Result (Unit {0}) Refusal

-- the second where the answer is a refusal, else the first
abbrev pub unless_refused : {T : Type 0} → StoreAnswer → T → T → T
unless_refused (Ok _) next same = next
unless_refused (Err _) next same = same

-- an author is a seat and the serial of one of its edits
abbrev pub has_author : Version → Bool
has_author version = nat_lt version.seat most_seats && nat_le 1 version.serial && nat_le version.serial last_serial

-- no farther from 0 than this, on either side
abbrev pub is_within : ℕ → ℤ → Bool
is_within reach value = int_le (neg_ℤ (pos reach)) value && int_le value (pos reach)

-- the meaning with another staged version, or none, at one entry
abbrev pub with_staged : WritingMeaning → ℕ → Option Version → WritingMeaning
with_staged store entry version = record {
  reading = store.reading;
  staged = λ other. if other == entry then version else store.staged other;
}

-- the meaning with one more version at the end of one chain
abbrev pub with_added : ReadingMeaning → ℕ → Version → ReadingMeaning
with_added store entry version = record {
  entries = store.entries;
  depth = store.depth;
  reach = store.reach;
  chains = λ other. if other == entry then store.chains entry ++ version ∷ [] else store.chains other;
}

-- the meaning with what was staged at one entry moved to the end of its chain
abbrev pub with_published : WritingMeaning → ℕ → Option Version → WritingMeaning
with_published store entry None = store
with_published store entry (Some version) = record {
  reading = with_added store.reading entry version;
  staged = λ other. if other == entry then None else store.staged other;
}

abbrev pub stage_answer : WritingMeaning → ℕ → Version → StoreAnswer
stage_answer store entry version =
    if nat_lt entry store.reading.entries then
    if has_author version then
    if is_within store.reading.reach version.value then
    if nat_lt (length (store.reading.chains entry)) store.reading.depth then Ok tt
    else Err ChainFull
    else Err ValueBeyondReach
    else Err NoSuchAuthor
    else Err NoSuchEntry

abbrev pub stage_after : WritingMeaning → ℕ → Version → WritingMeaning
stage_after store entry version = unless_refused (stage_answer store entry version) (with_staged store entry (Some version)) store

abbrev pub publish_answer : WritingMeaning → ℕ → StoreAnswer
publish_answer store entry =
    if nat_lt entry store.reading.entries then
    if is_some (store.staged entry) then Ok tt
    else Err NothingStaged
    else Err NoSuchEntry

abbrev pub publish_after : WritingMeaning → ℕ → WritingMeaning
publish_after store entry = unless_refused (publish_answer store entry) (with_published store entry (store.staged entry)) store

abbrev pub withdraw_answer : WritingMeaning → ℕ → StoreAnswer
withdraw_answer store entry =
    if nat_lt entry store.reading.entries then
    if is_some (store.staged entry) then Ok tt
    else Err NothingStaged
    else Err NoSuchEntry

abbrev pub withdraw_after : WritingMeaning → ℕ → WritingMeaning
withdraw_after store entry = unless_refused (withdraw_answer store entry) (with_staged store entry None) store

-- the three calls by the meaning before and after
pub record StageMeans (before : WritingMeaning) (entry : ℕ) (version : Version) (result : StoreAnswer) (after : WritingMeaning) : Type 0 where
  pub answer : result ≡ stage_answer before entry version
  pub leaves : after ≡ stage_after before entry version

pub record PublishMeans (before : WritingMeaning) (entry : ℕ) (result : StoreAnswer) (after : WritingMeaning) : Type 0 where
  pub answer : result ≡ publish_answer before entry
  pub leaves : after ≡ publish_after before entry

pub record WithdrawMeans (before : WritingMeaning) (entry : ℕ) (result : StoreAnswer) (after : WritingMeaning) : Type 0 where
  pub answer : result ≡ withdraw_answer before entry
  pub leaves : after ≡ withdraw_after before entry

-- and of a store that means something by two members, as their contracts say them
module _ {Store : Type 0} (reading : Store → ReadingMeaning) (staged : Store → ℕ → Option Version) where
  abbrev pub Stages : Store → ℕ → Version → StoreAnswer → Store → Type 0
  Stages old entry version result new =
      StageMeans (meaning_of reading staged old) entry version result (meaning_of reading staged new)

  abbrev pub Publishes : Store → ℕ → StoreAnswer → Store → Type 0
  Publishes old entry result new = PublishMeans (meaning_of reading staged old) entry result (meaning_of reading staged new)

  abbrev pub Withdraws : Store → ℕ → StoreAnswer → Store → Type 0
  Withdraws old entry result new = WithdrawMeans (meaning_of reading staged old) entry result (meaning_of reading staged new)
