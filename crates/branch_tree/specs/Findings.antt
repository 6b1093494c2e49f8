-- What the rule finds, and that it is proved by its certificate.
use Rattle.std.specs.Prelude.{◌≡◌, ℕ, All, Option}
use Rattle.hub_spec.specs.Problem.{Problem, IsProblem}
use Rattle.hub_spec.specs.Plans.{IsHubSet}
use Rattle.hub_spec.specs.Ranges.{IsFirstLine}
use Rattle.hub_spec.specs.Trees.{preorder}
use Rattle.search_spec.specs.States.{Grown}
use Rattle.search_spec.specs.Choices.{rule, begun_for}
use Rattle.search_spec.specs.Again.{Start, IsStartOf, rule_again, begun_again}
use Rattle.search_spec.specs.Steps.{searched}
use Rattle.search_steps.specs.Advising.{master_advising}
use Rattle.search_steps.specs.Kinds.{CutKind, minimal, parts_for}
use Rattle.cut_pool.specs.Findings.{IsUnlimited, IsProved}
use Rattle.cut_pool.specs.declared.found.Found.{Found}
use Rattle.search_steps.specs.Findings.{IsFound}

-- what the rule finds with the master's weights and point and these cuts, where this is the most nodes
abbrev pub found_by : CutKind → Problem → Option ℕ → Grown
found_by kind p n = searched p (parts_for kind p) n (begun_for p (parts_for kind p) p.wanted)

-- what it finds that begins again, from this start
abbrev pub found_again : CutKind → Problem → Option ℕ → Start → Grown
found_again kind p n start = searched p (parts_for kind p) n (begun_again p (parts_for kind p) start)

-- without Pareto-optimal cuts these are what the search's definition has as the rule
abbrev pub WithoutCoreCuts : Type 0
WithoutCoreCuts = (p : Problem) (n : Option ℕ) (start : Start)
    → (found_by minimal p n ≡ rule p (master_advising p) n) × (found_again minimal p n start ≡ rule_again p (master_advising p) n start)

-- what the rule finds is proved by its certificate, where all candidates together are feasible for each commodity
abbrev pub SearchIsProved : Type 0
SearchIsProved = (kind : CutKind) (p : Problem) (n : Option ℕ) (found : Found) → IsProblem p → IsHubSet p p.candidates
    → IsFound p (found_by kind p n) found
    → IsProved p found

-- and so is what it finds that begins again
abbrev pub AgainIsProved : Type 0
AgainIsProved = (kind : CutKind) (p : Problem) (n : Option ℕ) (start : Start) (found : Found) → IsProblem p → IsHubSet p p.candidates
    → IsStartOf p start → IsFound p (found_again kind p n start) found → IsProved p found

-- the tree of what the rule finds has only lines that the first version spells, where the problem is unlimited
abbrev pub UnlimitedIsFirst : Type 0
UnlimitedIsFirst = (kind : CutKind) (p : Problem) (n : Option ℕ) → IsProblem p → IsUnlimited p
    → All IsFirstLine (preorder (found_by kind p n).tree)
