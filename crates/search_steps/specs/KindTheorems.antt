-- What is proved of the rule by each kind of cuts; each statement is the contract of the public function of its name.
use Rattle.std.specs.Prelude.{◌≡◌, ℕ, List, Some}
use Rattle.hub_spec.specs.Problem.{Problem, IsProblem}
use Rattle.hub_spec.specs.Plans.{IsHubSet}
use Rattle.search_spec.specs.Laws.{AreSound}
use Rattle.search_steps.specs.Advising.{parts_of}
use Rattle.cut_pool.specs.Kept.{kept_cut, kept_mark, kept_set}
use Rattle.search_steps.specs.Kinds.{CutKind, minimal, cut_by, mark_by, kept_by, parts_for}

-- the parts are sound
abbrev pub PartsAreSound : Type 0
PartsAreSound = (kind : CutKind) (p : Problem) → IsProblem p → AreSound p (parts_for kind p)

-- with minimal duals the rule is as it is without Pareto-optimal cuts
abbrev pub MinimalIsRule : Type 0
MinimalIsRule = (p : Problem) → parts_for minimal p ≡ parts_of p

-- the stored cut from a hub set is of that set, and has the cut and its mark
pub record IsKeptOf (kind : CutKind) (p : Problem) (set order : List ℕ) : Type 0 where
  pub of_set : kept_set (kept_by kind p set order) ≡ Some set
  pub cut : kept_cut p (kept_by kind p set order) ≡ cut_by kind p set order
  pub mark : kept_mark (kept_by kind p set order) ≡ mark_by kind p set

abbrev pub KeptIsOfSet : Type 0
KeptIsOfSet = (kind : CutKind) (p : Problem) (set order : List ℕ) → IsProblem p → IsHubSet p set → IsKeptOf kind p set order
