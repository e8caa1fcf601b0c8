-- How a version is printed: its value, and its author; and a chain, line by line.
use Rattle.std.specs.Prelude.{ℕ, List, ◌++◌, codes}
use Rattle.std.specs.Fmt.{decimal, signed_decimal}
use Rattle.std.specs.List.{flat_map}
use Rattle.store.specs.declared.version.Version.{Version}
use Rattle.store.specs.Meaning.{ReadingMeaning}

abbrev pub version_text : Version → List ℕ
version_text version =
    signed_decimal version.value ++ codes " by seat " ++ decimal version.seat ++ codes " serial " ++ decimal version.serial

-- a line of its own, after two blanks
abbrev pub version_line : Version → List ℕ
version_line version = codes "  " ++ version_text version ++ codes "\n"

abbrev pub chain_text : List Version → List ℕ
chain_text chain = flat_map version_line chain

-- the text of the chain of an entry
abbrev pub text_at : ReadingMeaning → ℕ → List ℕ
text_at store entry = chain_text (store.chains entry)
