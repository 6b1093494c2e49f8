-- What a search finds, by the state that it begins with.
use Rattle.std.proofs.Common.{◌≡◌, ℕ, Option, refl, ap}
use Rattle.hub_spec.specs.Problem.{Problem}
use Rattle.search_spec.specs.States.{State}
use Rattle.search_spec.specs.Steps.{searched}
use Rattle.search_spec.specs.Choices.{begun_for, rule}
use Rattle.search_spec.specs.Again.{Start, begun_again, rule_again}
use Rattle.search_steps.specs.Advising.{master_advising}
use Rattle.search_steps.specs.Kinds.{CutKind, minimal, parts_for}
use Rattle.branch_tree.specs.Findings.{found_by, found_again}

-- what the search finds from the state with which the rule begins, and from that with which it begins again
pub found_from : (kind : CutKind) (p : Problem) (n : Option ℕ) (s : State) → s ≡ begun_for p (parts_for kind p) p.wanted
    → searched p (parts_for kind p) n s ≡ found_by kind p n
found_from kind p n s begun = ap (searched p (parts_for kind p) n) begun

pub again_from : (kind : CutKind) (p : Problem) (n : Option ℕ) (start : Start) (s : State) → s ≡ begun_again p (parts_for kind p) start
    → searched p (parts_for kind p) n s ≡ found_again kind p n start
again_from kind p n start s begun = ap (searched p (parts_for kind p) n) begun

-- without Pareto-optimal cuts
pub found_is_rule : (p : Problem) (n : Option ℕ) → found_by minimal p n ≡ rule p (master_advising p) n
unfolding rule
found_is_rule p n = refl

pub again_is_rule : (p : Problem) (n : Option ℕ) (start : Start) → found_again minimal p n start ≡ rule_again p (master_advising p) n start
unfolding rule_again
again_is_rule p n start = refl
