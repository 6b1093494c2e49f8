-- What a line of a proof holds.
use Rattle.std.specs.Prelude.{◌≡◌, ◌*◌, ◌^◌, ℕ, ◌<◌, ◌≤◌, List, length, All, Contains}
use Rattle.hub_spec.specs.Problem.{Problem, flow, route_cost}
use Rattle.core_spec.specs.MarkRanges.{most_turns, most_scale, most_taken}
use Rattle.core_lines.specs.Tallies.{ProofTally, most_ways}
use Rattle.core_lines.specs.declared.lines.ProofLine.TheInside.{Inside}

-- of what a route costs by unit of flow, in 10^-6: three legs at the greatest distance and factor
abbrev pub most_unit : ℕ
most_unit = 3 * 10 ^ 16

-- by unit of flow it is the least cost of the commodity's routes that go by way of k first and one of these last
pub record IsLeastFrom (p : Problem) (c : ℕ × ℕ) (k : ℕ) (nodes : List ℕ) (unit : ℕ) : Type 0 where
  pub reached : (m : ℕ) × Contains nodes m × (flow p c.0 c.1 * unit ≡ route_cost p c.0 c.1 k m)
  pub least : All (λ m. flow p c.0 c.1 * unit ≤ route_cost p c.0 c.1 k m) nodes

abbrev pub tally_held : Inside → ProofTally
tally_held s = record {
  problem = s.instance.now;
  commodity = (s.from, s.to);
  turns = s.turns;
  scale = s.scale;
  count = s.count;
  taken = s.taken;
  through = s.through.items;
  lengths = s.lengths;
  by_candidates = s.are_candidates;
}

-- the numbers are within their limits, and each way adds at most so much to each sum
pub record IsHeld (s : Inside) : Type 0 where
  pub from : s.from < s.instance.now.size
  pub to : s.to < s.instance.now.size
  pub turns_limit : s.turns ≤ most_turns
  pub some_scale : 1 ≤ s.scale
  pub scale_limit : s.scale ≤ most_scale
  pub few : s.count ≤ most_ways
  pub taken_limit : s.taken ≤ s.count * most_taken
  pub long : length s.through.items ≡ s.instance.now.size
  pub through_limit : All (λ (x : ℕ). x ≤ s.count * most_taken) s.through.items
  pub lengths_limit : s.lengths ≤ s.count * (most_taken * most_unit)
