-- The numbers of a store, by name: so many entries, such depths, authors and values it may have.
use Rattle.std.specs.Prelude.{ℕ}

-- entries of a store, numbered from 0
abbrev pub most_entries : ℕ
most_entries = 64

-- versions in a chain
abbrev pub least_depth : ℕ
least_depth = 2

abbrev pub most_depth : ℕ
most_depth = 200

-- seats of a pool, numbered from 0
abbrev pub most_seats : ℕ
most_seats = 16

-- the seat of a version that nobody wrote
abbrev pub no_seat : ℕ
no_seat = 255

-- the serial of a seat's last edit; its first has serial 1
abbrev pub last_serial : ℕ
last_serial = 1000000

-- how far from 0 a value may lie in any store, in femtoseconds
abbrev pub farthest : ℕ
farthest = 100000000000000000
