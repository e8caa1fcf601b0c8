-- The numbers of a record, by name.
use Rattle.std.specs.Prelude.{ℕ}

-- how many bytes a record has, how many of them its value, and how many a place
abbrev pub record_size : ℕ
record_size = 16

abbrev pub value_size : ℕ
value_size = 6

abbrev pub place_size : ℕ
place_size = 4

-- a journal never has more records than so many chains may have
abbrev pub most_records : ℕ
most_records = 12800

-- what stands for the place of a record where there is none
abbrev pub no_place : ℕ
no_place = 4294967295

-- no value is larger, above zero or below: six bytes hold it
abbrev pub journal_reach : ℕ
journal_reach = 140737488355327
