use Rattle.std.proofs.Common.{◌≡◌, ◌*◌, length, take}
use Rattle.cut_pool.specs.Packed.{all_unpacked}
use Rattle.cut_pool.proofs.packed.packed_origins.Given as goal

abbrev pub invariant-loop-i : goal.invariant-loop-i
invariant-loop-i l = record {
  count : length l.origins.items ≡ l.i;
  numbers : all_unpacked l.cells l.origins.items ≡ take (l.i * l.cells) l.numbers;
}
