-- Branches that end: those in which no wanted hub set is left, and those in which just one is.
use Rattle.std.specs.Prelude.{◌≡◌, ℕ, List, Some, None}
use Rattle.hub_spec.specs.Problem.{Problem, IsProblem}
use Rattle.hub_spec.specs.Plans.{IsHubSet}
use Rattle.hub_spec.specs.Cuts.{Cut}
use Rattle.hub_spec.specs.Ranges.{IsFirstLine, IsLineInRange}
use Rattle.hub_spec.specs.Trees.{Branching, HasRoom, TreeLine}
use Rattle.search_spec.specs.Choices.{barren_end, blocked_end, only_set}
use Rattle.search_spec.specs.Laws.{IsWantedSet}
use Rattle.search_spec.specs.Walks.{IsSoundLine, filled}
use Rattle.cut_pool.specs.Findings.{IsUnlimited}

-- a line after which nothing more is to be filled
abbrev pub IsEndLine : TreeLine → Type 0
IsEndLine line = (b : Branching) (pending : List Branching) → filled b line pending ≡ pending

-- the line ends the branch, whatever the cuts and the cutoff are: no wanted hub set is left in it
pub record IsBarren (p : Problem) (b : Branching) (line : TreeLine) : Type 0 where
  pub sound : (cuts : List Cut) (target : ℕ) → IsSoundLine p cuts target b line
  pub end : IsEndLine line
  pub in_range : IsLineInRange p.size line
  pub first : IsUnlimited p → IsFirstLine line

-- The branch has no end. It has room for the wanted hubs, and its hubs with all its free nodes are feasible for each
-- commodity.
pub record IsOpen (p : Problem) (b : Branching) : Type 0 where
  pub room : HasRoom p.wanted b
  pub barren : barren_end p.wanted b ≡ None
  pub blocked : blocked_end p b ≡ None

-- the one hub set that is left in the branch, which is a wanted one
pub record IsLastSet (p : Problem) (b : Branching) (set : List ℕ) : Type 0 where
  pub only : only_set p.wanted b ≡ Some set
  pub wanted_set : IsWantedSet p set
  pub open wanted_set use *

-- what the set of all candidates is, where no length of routes is limited
abbrev pub AllCandidatesServe : Type 0
AllCandidatesServe = (p : Problem) → IsProblem p → p.longest ≡ None → IsHubSet p p.candidates
