-- What a search costs at most, by what it begins with; each statement is the contract of the public function of its
-- name.
use Rattle.std.specs.Prelude.{ℕ, ◌≤◌, List, take, Option, Some, None}
use Rattle.hub_spec.specs.Problem.{Problem, IsProblem}
use Rattle.hub_spec.specs.Plans.{IsHubSet, IsSetCost}
use Rattle.search_spec.specs.States.{State, Parts}
use Rattle.search_spec.specs.Steps.{searched}
use Rattle.search_spec.specs.Laws.{IsWantedSet, IsStart, AreSound}
use Rattle.search_spec.specs.Choices.{begun_for}
use Rattle.search_spec.specs.Again.{Start, IsStartOf, begun_again}

-- where these hubs are a hub set of the problem, of the wanted number, they cost at least this
abbrev pub IsAtMostOf : Problem → List ℕ → ℕ → Type 0
IsAtMostOf p hubs c = IsWantedSet p hubs → (cost : ℕ) → IsSetCost p hubs cost → c ≤ cost

-- the least of these candidates, up to the wanted number; all, if no number is wanted
abbrev pub least_of : Option ℕ → List ℕ → List ℕ
least_of None candidates = candidates
least_of (Some n) candidates = take n candidates

-- the hubs of the first incumbent of a search that is given none
abbrev pub first_hubs : Problem → List ℕ
first_hubs p = least_of p.wanted p.candidates

-- the cost of a search never rises
abbrev pub CostNeverRises : Type 0
CostNeverRises = (p : Problem) (parts : Parts) (n : Option ℕ) (s : State) → IsProblem p → AreSound p parts → IsStart p s
    → (searched p parts n s).state.cost ≤ s.cost

-- a search by rule begins with what its first incumbent costs
abbrev pub BegunIsAtMost : Type 0
BegunIsAtMost = (p : Problem) (parts : Parts) → IsHubSet p p.candidates → AreSound p parts
    → IsAtMostOf p (first_hubs p) (begun_for p parts p.wanted).cost

-- one that begins again with at most this, and with at most what the hubs cost that are tried
pub record IsAtMostBoth (p : Problem) (start : Start) (c : ℕ) : Type 0 where
  pub own : IsAtMostOf p (first_hubs p) c
  pub given : IsAtMostOf p start.hubs c

abbrev pub AgainIsAtMost : Type 0
AgainIsAtMost = (p : Problem) (parts : Parts) (start : Start) → IsProblem p → IsHubSet p p.candidates → AreSound p parts
    → IsStartOf p start → IsAtMostBoth p start (begun_again p parts start).cost
