use Rattle.std.proofs.Common.{◌≡◌, map, All, slice_index}
use Rattle.std.specs.List.{range_with_len}
use Rattle.file_spec.specs.Files.{divided_distance}
use Rattle.hub_model.specs.Amounts.{natural, IsListedNumber}
use Rattle.instance_cab.proofs.distances.divided_list.Given as goal

abbrev pub invariant-loop-place : goal.invariant-loop-place
invariant-loop-place l = record {
  values : map natural l.distances.items ≡ map (λ s. divided_distance l.divide l.n s (slice_index (map natural l.read) s)) (range_with_len 0 l.place);
  limits : All IsListedNumber l.distances.items;
}
