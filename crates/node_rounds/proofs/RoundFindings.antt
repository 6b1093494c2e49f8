-- What the rule by rounds finds.
use Rattle.std.proofs.Common.{◌≡◌, ℕ, List, All, Option, IsSome, IsNone, ap, sym, subst}
use Rattle.hub_spec.specs.Problem.{Problem, IsProblem}
use Rattle.search_spec.specs.States.{State}
use Rattle.search_spec.specs.Laws.{IsStart}
use Rattle.search_spec.specs.Choices.{begun_for}
use Rattle.search_spec.specs.Costs.{IsAtMostOf, first_hubs}
use Rattle.search_spec.proofs.FallingCosts.{least_to, begun_most}
use Rattle.search_steps.specs.Advising.{parts_of}
use Rattle.search_steps.specs.Kinds.{CutKind, minimal, parts_for}
use Rattle.search_steps.proofs.RuleChoices.{parts_sound}
use Rattle.cut_pool.specs.Findings.{AreRemade}
use Rattle.cut_pool.specs.declared.found.Found.{Found}
use Rattle.search_steps.specs.Findings.{IsFound}
use Rattle.search_steps.proofs.KeptPools.{own_by_sets}
use Rattle.search_steps.proofs.FoundCertificates.{start_of, IsSearchable, start_is, IsSearched}
use Rattle.search_spec.specs.Lasting.{searched_by_rounds, rule_by_rounds}
use Rattle.search_spec.proofs.WholeRounds.{search_proof, search_counted, search_stopped, enough_nodes}
use Rattle.search_spec.proofs.RoundCosts.{cost_falls}
use Rattle.node_rounds.specs.Findings.{found_by_rounds}
use Rattle.node_rounds.proofs.OfSets.{rule_rounds_own}
use Rattle.node_rounds.proofs.FirstPlaces.{rounds_first}

-- so it is from any start
rounds_from : (p : Problem) (n : Option ℕ) (s : State) → IsProblem p → IsStart p s → IsSearched p n (searched_by_rounds p (parts_of p) n s)
rounds_from p n s ok start =
    let sound = parts_sound p ok in
    let stopped = search_stopped p (parts_of p) n s ok sound start in
    record {
      problem = ok;
      proof = search_proof p (parts_of p) n s ok sound start;
      counted = search_counted p (parts_of p) n s ok sound start;
      spent = stopped.spent;
      whole = stopped.whole;
      enough = enough_nodes p (parts_of p) n s ok sound start;
      first = rounds_first p n s ok start;
    }

pub rounds_searched : (p : Problem) (n : Option ℕ) → IsSearchable p → IsSearched p n (found_by_rounds p n)
unfolding rule_by_rounds
rounds_searched p n ok = rounds_from p n (start_of p) ok.problem (start_is p ok)

-- what is found costs at most what all candidates do
pub rounds_at_most : (p : Problem) (n : Option ℕ) → IsSearchable p → IsAtMostOf p (first_hubs p) (found_by_rounds p n).state.cost
unfolding rule_by_rounds
rounds_at_most p n ok =
    least_to p (first_hubs p) (found_by_rounds p n).state.cost (start_of p).cost (cost_falls p (parts_of p) n (start_of p))
    (begun_most p (parts_of p) ok.lacks_none (parts_sound p ok.problem))

-- each cut that is found is made from scratch: it is from a hub set, and not marked
pub rounds_remade : (p : Problem) (n : Option ℕ) (found : Found) → IsSearchable p → IsFound p (found_by_rounds p n) found → AreRemade found
rounds_remade p n found ok is =
    let own = rule_rounds_own p n in
    own_by_sets found.cuts.cuts (subst (All (λ (set : Option (List ℕ)). IsSome set)) (sym is.sets) own.0)
    (subst (All (λ mark. IsNone mark)) (sym is.marks) own.1)

-- the rule begins so without Pareto-optimal cuts
pub begun_minimal : (p : Problem) (s : State) (kind : CutKind) → kind ≡ minimal → s ≡ begun_for p (parts_for kind p) p.wanted
    → s ≡ begun_for p (parts_of p) p.wanted
begun_minimal p s kind is begun = subst (λ (k : CutKind). s ≡ begun_for p (parts_for k p) p.wanted) is begun

-- what is found from the state with which the rule begins
pub found_from : (p : Problem) (n : Option ℕ) (s : State) → s ≡ begun_for p (parts_of p) p.wanted → searched_by_rounds p (parts_of p) n s ≡ found_by_rounds p n
unfolding rule_by_rounds
found_from p n s begun = ap (searched_by_rounds p (parts_of p) n) begun
