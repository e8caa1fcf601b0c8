-- The opening records as laying out writes them, one after another.
use Rattle.std.specs.Prelude.{ℕ, zero, suc, ◌*◌, List, None, replicate, slice_set}
use Rattle.store.specs.Numbers.{most_entries}
use Rattle.store.specs.Meaning.{opening}
use Rattle.record.specs.Numbers.{record_size}
use Rattle.record.specs.Bytes.{record_bytes}
use Rattle.record.specs.Journals.{entry_record, bytes_with}

-- the opening records of so many entries, written from the start on
abbrev pub bytes_laid_out : List ℕ → ℕ → List ℕ
bytes_laid_out bytes zero = bytes
bytes_laid_out bytes (suc entry) =
    bytes_with (bytes_laid_out bytes entry) (record_size * entry) (record_bytes (entry_record entry opening None))

-- the place of the last record of each, which is its first
abbrev pub lasts_laid_out : ℕ → List ℕ
lasts_laid_out zero = replicate most_entries 0
lasts_laid_out (suc entry) = slice_set (lasts_laid_out entry) entry (record_size * entry)
