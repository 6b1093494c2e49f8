-- The limits within which tables are made. Lengths are by unit of flow, in the unit that the legs come in.
use Rattle.std.specs.Prelude.{ℕ, ◌*◌, ◌^◌}

-- of one leg of a route
abbrev pub most_leg : ℕ
most_leg = 10 ^ 16

-- of a whole route
abbrev pub most_length : ℕ
most_length = 3 * 10 ^ 16

-- of the destinations and of the stops, each: a destination is kept as a byte
abbrev pub most_room : ℕ
most_room = 256
