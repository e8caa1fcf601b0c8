-- What stands behind the records of an image, as it is written.
use Rattle.std.specs.Prelude.{ℕ, ◌+◌, ◌*◌, List, ◌++◌}
use Rattle.record.specs.Numbers.{place_size}
use Rattle.image.specs.declared.trailer.Trailer.{Trailer}
use Rattle.image.specs.Numbers.{trailer_size}
use Rattle.image.specs.Images.{trailer_bytes}
use Rattle.image.specs.Heads.{numbers_bytes}

-- a place for each entry, and a trailer
abbrev pub written_tail : List ℕ → Trailer → List ℕ
written_tail lasts trailer = numbers_bytes lasts trailer.entries ++ trailer_bytes trailer

-- how many bytes that takes
abbrev pub tail_size : Trailer → ℕ
tail_size trailer = place_size * trailer.entries + trailer_size
