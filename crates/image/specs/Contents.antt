-- Reading what was found in the bytes of an image.
use Rattle.std.specs.Prelude.{ℕ, List}
use Rattle.store.specs.Steps.{StoreAnswer}
use Rattle.record.specs.Journals.{records}
use Rattle.journal.specs.declared.JournalStore.{JournalStore}
use Rattle.image.specs.declared.image.Contents.{Contents}
use Rattle.image.specs.Images.{IsImageOf}
use Rattle.image.specs.Copies.{ReadsRecords}

-- the bytes are an image, and this is what it has
abbrev pub HasContents : List ℕ → Contents → Type 0
HasContents image contents = IsImageOf image contents.entries contents.depth (records image contents.count)

-- the records that were found are read into a store
abbrev pub ReadsContents : List ℕ → Contents → JournalStore → StoreAnswer → JournalStore → Type 0
ReadsContents image contents old result new =
    ReadsRecords old contents.entries contents.depth (records image contents.count) result new
