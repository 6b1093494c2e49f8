use Rattle.std.proofs.Common.{◌≡◌, take}
use Rattle.std.specs.Prelude.{filter_map}
use Rattle.leaf_bound.specs.Numbers.{weighting_of}
use Rattle.leaf_bound.proofs.SideLists.{with_side}
use Rattle.p_hub.specs.Fixing.{counted_side}
use Rattle.p_hub.proofs.fixing.fix_p.Given as goal

abbrev pub invariant-loop-k : goal.invariant-loop-k
invariant-loop-k l =
    l.sides.items ≡ filter_map (with_side (counted_side l.p (weighting_of l.weighting) l.target l.branch)) (take l.k-index l.free)
