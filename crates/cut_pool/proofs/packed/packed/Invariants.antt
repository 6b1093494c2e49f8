use Rattle.std.proofs.Common.{◌≡◌, length}
use Rattle.cut_pool.specs.Packed.{unpacked}
use Rattle.cut_pool.proofs.Packing.{front}
use Rattle.cut_pool.proofs.packed.packed.Given as goal

abbrev pub invariant-loop-at : goal.invariant-loop-at
invariant-loop-at l = unpacked (length l.numbers) l.items.items ≡ front l.numbers l.at
