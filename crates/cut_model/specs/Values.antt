-- Values as they are held.
use Rattle.std.specs.Prelude.{ℕ, ◌+◌, ◌*◌, List, map}
use Rattle.cut_model.specs.declared.values.StatedValue.{StatedValue}

-- the node, and its value: 64 bits, 32 bits that count 2^64 each, and 16 bits that count 2^96 each
abbrev pub listed_value : StatedValue → ℕ × ℕ
listed_value v = (v.node, v.low + 18446744073709551616 * (v.middle + 4294967296 * v.high))

-- the nodes with their values
abbrev pub listed_values : List StatedValue → List (ℕ × ℕ)
listed_values vs = map listed_value vs
