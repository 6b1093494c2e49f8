-- The problem that a worked case is.
use Rattle.std.specs.Prelude.{ℕ, ◌*◌, ◌^◌, ◌≤◌, map, Option, None, Some}
use Rattle.std.specs.Option.{option_map}
use Rattle.hub_spec.specs.Limits.{most_nodes, most_length}
use Rattle.hub_spec.specs.Problem.{Problem}
use Rattle.file_spec.specs.Contents.{Contents}
use Rattle.file_spec.specs.Options.{Options, said_number}
use Rattle.hub_model.specs.Amounts.{natural}
use Rattle.hub_model.specs.Defaults.{plain_options}
use Rattle.test_lines.specs.declared.cases.Case.{Case}

-- what a file of the case gives: flows in 10^-6, distances and factors in 10^-3, no tail
abbrev pub contents_of : Case → Contents
contents_of case = record {
  size = case.size;
  flows = map (λ x. x * 10 ^ 6) case.flows.now;
  distances = map (λ x. x * 10 ^ 3) case.distances.now;
  collect = natural case.factors.collect;
  trunk = natural case.factors.trunk;
  deliver = natural case.factors.deliver;
  listed_p = None;
  costs = None;
}

-- the longest route in 10^-3
abbrev pub longest_of : Case → Option ℕ
longest_of case = option_map (λ x. x * 10 ^ 3) case.longest

-- a longest route, in 10^-3, or a number of hubs that may be asked for, not both
abbrev pub MayBeAsked : Option ℕ → Option ℕ → Type 0
MayBeAsked None None = Unit {0}
MayBeAsked (Some most) None = most ≤ most_length
MayBeAsked None (Some n) = (1 ≤ n) × (n ≤ most_nodes)
MayBeAsked (Some most) (Some n) = ⊥

-- the options of the case: its candidates, and its longest route or its number of hubs, if it has one
abbrev pub terms_of : Case → Options
terms_of case = record plain_options {
  candidates = Some case.candidates.now;
  longest = longest_of case;
  hubs = option_map said_number case.wanted;
}

-- the case's instance: flows in 10^-6, distances and factors in 10^-3, fixed costs in 10^-12
abbrev pub problem_of : Case → Problem
problem_of case = record {
  size = case.size;
  candidates = case.candidates.now;
  flows = map (λ x. x * 10 ^ 6) case.flows.now;
  distances = map (λ x. x * 10 ^ 3) case.distances.now;
  fixed_costs = map (λ x. x * 10 ^ 12) case.fixed_costs.now;
  collect = natural case.factors.collect;
  trunk = natural case.factors.trunk;
  deliver = natural case.factors.deliver;
  listed_p = None;
  longest = longest_of case;
  wanted = case.wanted;
}
