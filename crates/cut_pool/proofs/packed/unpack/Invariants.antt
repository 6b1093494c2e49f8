use Rattle.std.proofs.Common.{◌≡◌, length, drop}
use Rattle.cut_pool.specs.Packed.{written, unpacked}
use Rattle.cut_pool.proofs.packed.unpack.Given as goal

abbrev pub invariant-loop-item : goal.invariant-loop-item
invariant-loop-item l = written l.numbers (drop l.item-index l.items) ≡ unpacked (length l.fn.numbers) l.items
