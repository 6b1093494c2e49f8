use Rattle.std.proofs.Common.{◌≡◌, ℕ, take}
use Rattle.std.specs.Prelude.{filter_map}
use Rattle.std.specs.Option.{option_map}
use Rattle.leaf_bound.specs.Numbers.{weighting_of}
use Rattle.leaf_bound.specs.declared.sides.Side.{Side}
use Rattle.hub_fixing.specs.Fixing.{side_of}
use Rattle.hub_fixing.proofs.fixing.fix.Given as goal

abbrev pub invariant-loop-k : goal.invariant-loop-k
invariant-loop-k l =
    l.sides.items ≡ filter_map (λ (k : ℕ). option_map (λ (side : Side). (k, side)) (side_of (weighting_of l.weighting) l.target l.branch k))
    (take l.k-index l.k-items)
