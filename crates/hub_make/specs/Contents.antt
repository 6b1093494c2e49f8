-- What a made-up text holds, in the units in which a file is read.
use Rattle.std.specs.Prelude.{ℕ, ◌+◌, ◌*◌, ◌/◌, ◌%◌, ◌^◌, map, Some, None, false, ℤ, pos}
use Rattle.std.specs.List.{range_with_len}
use Rattle.hub_spec.specs.Problem.{Problem}
use Rattle.file_spec.specs.Options.{Options, flow_first, tail_costs}
use Rattle.file_spec.specs.Contents.{Contents}
use Rattle.file_spec.specs.Distances.{planar_distance, gap}
use Rattle.file_spec.specs.Instances.{made}
use Rattle.hub_make.specs.Numbers.{made_x, made_y, made_flow, made_cost}

-- the fixed costs stand at the end of the file, and there is no other option
abbrev pub tail_alone : Options
tail_alone = record {
  order = flow_first;
  tail = tail_costs;
  divide = 1;
  collect = None;
  trunk = None;
  deliver = None;
  fixed = None;
  candidates = None;
  no_self = false;
  longest = None;
  hubs = None;
}

-- a whole coordinate in 10^-6
abbrev pub in_millionths : ℕ → ℤ
in_millionths x = pos (x * 10 ^ 6)

-- the distance from node i to node j, in 10^-3: the largest whole one that is not longer than the line between them
abbrev pub made_distance : ℕ → ℕ → ℕ → ℕ
made_distance seed i j =
    planar_distance 1
    (gap (in_millionths (made_x seed i)) (in_millionths (made_x seed j)))
    (gap (in_millionths (made_y seed i)) (in_millionths (made_y seed j)))

-- the contents: flows and fixed costs in 10^-6, distances and factors in 10^-3; nodes count from 0 there
unfoldable pub made_contents : ℕ → ℕ → Contents
made_contents seed size = record {
  size = size;
  flows = map (λ t. made_flow seed (t / size + 1) (t % size + 1) * 10 ^ 6) (range_with_len 0 (size * size));
  distances = map (λ t. made_distance seed (t / size + 1) (t % size + 1)) (range_with_len 0 (size * size));
  collect = 3000;
  trunk = 750;
  deliver = 2000;
  listed_p = Some 1;
  costs = Some (map (λ k. made_cost seed size (k + 1) * 10 ^ 6) (range_with_len 0 size));
}

-- the instance that they give
abbrev pub made_problem : ℕ → ℕ → Problem
made_problem seed size = made tail_alone (made_contents seed size) None
