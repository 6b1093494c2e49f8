-- What the rule finds, and what it finds that begins again.
use Rattle.std.proofs.Common.{◌≡◌, ℕ, List, All, Option, IsSome, IsNone, refl, sym, subst}
use Rattle.hub_spec.specs.Problem.{Problem, IsProblem}
use Rattle.search_spec.specs.States.{State}
use Rattle.search_spec.specs.Steps.{searched}
use Rattle.search_spec.specs.Laws.{IsStart}
use Rattle.search_spec.specs.Choices.{rule_parts, begun_for}
use Rattle.search_spec.specs.Again.{Start, IsStartOf, begun_again}
use Rattle.search_spec.specs.Costs.{IsAtMostOf, first_hubs, IsAtMostBoth}
use Rattle.search_spec.proofs.FallingCosts.{cost_falls, least_to, begun_most, again_most}
use Rattle.search_spec.proofs.WholeSearches.{begun_by, search_proof, search_counted, search_stopped, enough_nodes}
use Rattle.search_spec.proofs.Beginnings.{again_start, rule_of_sets}
use Rattle.search_steps.specs.Kinds.{CutKind, minimal, parts_for}
use Rattle.search_steps.proofs.KindCuts.{kind_is_sound}
use Rattle.cut_pool.specs.Findings.{AreRemade}
use Rattle.cut_pool.specs.declared.found.Found.{Found}
use Rattle.branch_tree.specs.Findings.{found_by, found_again}
use Rattle.search_steps.specs.Findings.{IsFound}
use Rattle.branch_tree.proofs.FirstLines.{first_from}
use Rattle.branch_tree.proofs.Unmarked.{HasNoMark, found_unmarked}
use Rattle.search_steps.proofs.KeptPools.{own_by_sets}
use Rattle.search_steps.proofs.FoundCertificates.{IsSearchable, IsSearched}

-- so it is from any start
searched_from : (kind : CutKind) (p : Problem) (n : Option ℕ) (s : State) → IsProblem p → IsStart p s → IsSearched p n (searched p (parts_for kind p) n s)
searched_from kind p n s ok start =
    let sound = kind_is_sound kind p ok in
    record {
      problem = ok;
      proof = search_proof p (parts_for kind p) n s ok sound start;
      counted = search_counted p (parts_for kind p) n s ok sound start;
      spent = (search_stopped p (parts_for kind p) n s ok sound start).spent;
      whole = (search_stopped p (parts_for kind p) n s ok sound start).whole;
      enough = enough_nodes p (parts_for kind p) n s ok sound start;
      first = first_from kind p n s ok;
    }

pub rule_searched : (kind : CutKind) (p : Problem) (n : Option ℕ) → IsSearchable p → IsSearched p n (found_by kind p n)
rule_searched kind p n ok =
    searched_from kind p n (begun_for p (parts_for kind p) p.wanted) ok.problem
    (begun_by p (parts_for kind p) p.wanted ok.problem ok.lacks_none (kind_is_sound kind p ok.problem) refl)

pub again_searched : (kind : CutKind) (p : Problem) (n : Option ℕ) (start : Start) → IsSearchable p → IsStartOf p start → IsSearched p n (found_again kind p n start)
again_searched kind p n start ok is =
    searched_from kind p n (begun_again p (parts_for kind p) start) ok.problem
    (again_start p (parts_for kind p) start ok.problem ok.lacks_none (kind_is_sound kind p ok.problem) is)

-- what they cost at most
pub rule_at_most : (kind : CutKind) (p : Problem) (n : Option ℕ) → IsSearchable p → IsAtMostOf p (first_hubs p) (found_by kind p n).state.cost
rule_at_most kind p n ok =
    let parts = parts_for kind p in
    let sound = kind_is_sound kind p ok.problem in
    least_to p (first_hubs p) (found_by kind p n).state.cost (begun_for p parts p.wanted).cost
    (cost_falls p parts n (begun_for p parts p.wanted) ok.problem sound (begun_by p parts p.wanted ok.problem ok.lacks_none sound refl))
    (begun_most p parts ok.lacks_none sound)

pub again_at_most : (kind : CutKind) (p : Problem) (n : Option ℕ) (start : Start) → IsSearchable p → IsStartOf p start
    → IsAtMostBoth p start (found_again kind p n start).state.cost
again_at_most kind p n start ok is =
    let parts = parts_for kind p in
    let sound = kind_is_sound kind p ok.problem in
    let begun = begun_again p parts start in
    let falls = cost_falls p parts n begun ok.problem sound (again_start p parts start ok.problem ok.lacks_none sound is) in
    let most = again_most p parts start ok.problem ok.lacks_none sound is in
    record {
      own = least_to p (first_hubs p) (found_again kind p n start).state.cost begun.cost falls most.own;
      given = least_to p start.hubs (found_again kind p n start).state.cost begun.cost falls most.given;
    }

-- a cut of minimal duals is not marked
minimal_no_mark : (p : Problem) → HasNoMark (parts_for minimal p)
unfolding rule_parts
minimal_no_mark p set = refl

-- each cut that the rule finds without Pareto-optimal cuts is made from scratch: it is from a hub set, and not marked
minimal_remade : (p : Problem) (n : Option ℕ) (found : Found) → IsSearchable p → IsFound p (found_by minimal p n) found → AreRemade found
minimal_remade p n found ok is =
    let parts = parts_for minimal p in
    own_by_sets found.cuts.cuts
    (subst (All (λ (set : Option (List ℕ)). IsSome set)) (sym is.sets)
    (rule_of_sets p parts n ok.problem ok.lacks_none (kind_is_sound minimal p ok.problem)))
    (subst (All (λ mark. IsNone mark)) (sym is.marks) (found_unmarked p parts n (minimal_no_mark p)))

pub found_remade : (kind : CutKind) (p : Problem) (n : Option ℕ) (found : Found) → IsSearchable p → kind ≡ minimal → IsFound p (found_by kind p n) found → AreRemade found
found_remade kind p n found ok is_minimal is =
    minimal_remade p n found ok (subst (λ (k : CutKind). IsFound p (found_by k p n) found) is_minimal is)
