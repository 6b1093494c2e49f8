-- When all candidates together are feasible, and when there is a plan.
use Rattle.std.proofs.Common.{◌≡◌, ℕ, List, All, Contains, Option, Some, None, refl, ap, sym, ◌∙◌}
use Rattle.std.proofs.lemmas.Option.{none-some}
use Rattle.std.proofs.lemmas.List.Elements.{All-contains, All-contains_itself, All-weaker}
use Rattle.hub_spec.specs.Problem.{Problem, IsProblem, commodities}
use Rattle.hub_spec.specs.Plans.{HasRoute, IsCandidateSet, IsHubSet, Plan, IsPlan}
use Rattle.hub_spec.specs.Lacking.{lacking}
use Rattle.hub_spec.proofs.Lacking.{tells}
use Rattle.search_spec.proofs.RuleParts.{some_serves}
use Rattle.file_spec.specs.Instances.{made}
use Rattle.hub_make.specs.Contents.{made_problem}

pub all_are_candidates : (p : Problem) → IsProblem p → IsCandidateSet p p.candidates
all_are_candidates p ok = record {
  some_hub = ok.some_candidate;
  ascend = ok.candidates_ascend;
  are_candidates = All-contains_itself p.candidates;
}

-- what `lacking` returns for a set of all candidates, it returns for the candidates
pub told_of_all : (p : Problem) (set : List ℕ) (told : Option (ℕ × ℕ)) → set ≡ p.candidates → told ≡ lacking p set
    → lacking p p.candidates ≡ told
told_of_all p set told all is = ap (lacking p) (sym all) ∙ sym is

-- all candidates are a hub set where they are infeasible for no commodity
pub network_when : (p : Problem) → IsProblem p → lacking p p.candidates ≡ None → IsHubSet p p.candidates
network_when p ok none = record { set = all_are_candidates p ok; lacks_none = (tells p p.candidates).none.0 none }

-- so it is in a made instance, in which no length is limited
pub made_network : (seed size : ℕ) → IsProblem (made_problem seed size) → IsHubSet (made_problem seed size) (made_problem seed size).candidates
unfolding made
made_network seed size ok =
    let p = made_problem seed size in
    record { set = all_are_candidates p ok; lacks_none = some_serves p p.candidates refl ok.some_candidate }

-- candidates have a route where some of them have one
more_hubs : (p : Problem) (hubs : List ℕ) (c : ℕ × ℕ) → All (Contains p.candidates) hubs → HasRoute p hubs c → HasRoute p p.candidates c
more_hubs p hubs c all has = (
  has.0,
  record {
    first = All-contains (Contains p.candidates) hubs has.0.0 all has.1.first;
    last = All-contains (Contains p.candidates) hubs has.0.1 all has.1.last;
    allowed = has.1.allowed;
  },
)

-- where there is a plan, all candidates together are feasible
pub plan_serves : (p : Problem) (plan : Plan) → IsPlan p plan → lacking p p.candidates ≡ None
plan_serves p plan is =
    (tells p p.candidates).none.1 (All-weaker (HasRoute p plan.hubs) (HasRoute p p.candidates)
    (λ c has. more_hubs p plan.hubs c is.hubs.are_candidates has) (commodities p.size) is.hubs.lacks_none)

-- and so there is none where they are infeasible for a commodity
pub no_plan_when : (p : Problem) (c : ℕ × ℕ) → lacking p p.candidates ≡ Some c → (plan : Plan) → IsPlan p plan → ⊥
no_plan_when p c lacks plan is = none-some c (sym (plan_serves p plan is) ∙ lacks)
