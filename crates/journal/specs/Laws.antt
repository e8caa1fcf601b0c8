-- The two laws of a journal store.
-- All here is proved, and no contract rests on its wording: an implementation can name a lemma of specs/ alone.
use Rattle.std.specs.Prelude.{◌≡◌, ℕ, ◌<◌, slice_index_or}
use Rattle.std.proofs.Common.{arith}
use Rattle.std.proofs.Math.Logic.{∥∥₁_elim}
use Rattle.std.proofs.Props.{props}
use Rattle.store.specs.declared.version.Version.{Version}
use Rattle.store.specs.Meaning.{opening, IsSoundReading, IsSoundWriting}
use Rattle.store.specs.SlotLaws.{slots_readable, slots_writable}
use Rattle.record.proofs.Kept as kept
use Rattle.journal.specs.declared.JournalStore.{JournalStore}
use Rattle.journal.specs.Stores.{journal_reading, journal_writing, chain_at}

-- two versions are the same in at most one way
version_set : {v w : Version} → IsProp (v ≡ w)
version_set {v} {w} = hlevel props

chain_first : (s : JournalStore) (e : ℕ) → e < s.slots.entries → slice_index_or (chain_at s e) 0 opening ≡ opening
chain_first s e inside = ∥∥₁_elim (s.kept (omega arith)) version_set (λ h. kept.first h e inside)

pub journal_readable : (s : JournalStore) → IsSoundReading (journal_reading s)
journal_readable s = slots_readable s.slots (chain_at s) s.counts (omega (arith, s.reach)) (omega (arith, s.reach)) (chain_first s)

pub journal_writable : (s : JournalStore) → IsSoundWriting (journal_writing s)
journal_writable s = slots_writable s.slots (chain_at s) s.counts
