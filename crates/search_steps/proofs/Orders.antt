-- The order that the set of a branch is separated over.
use Rattle.std.proofs.Common.{◌≡◌, ℕ, not, refl, List, Contains, ⊎_elim, ap, sym, ◌∙◌, true≢false}
use Rattle.std.specs.List.Sorted.{IsStrictlyIncreasing}
use Rattle.std.proofs.lemmas.List.Elements.{All-contains}
use Rattle.hub_spec.specs.Problem.{Problem, IsProblem}
use Rattle.hub_spec.specs.Separation.{IsOrder}
use Rattle.hub_spec.proofs.SumLemmas.{by_test}
use Rattle.hub_spec.proofs.Sets.{is_in, is_in-yes, is_in-no, filter_same, part_is_filter}
use Rattle.search_spec.specs.Choices.{rule_parts, others, has_node}
use Rattle.search_spec.proofs.RuleParts.{has_when, in_when}
use Rattle.search_steps.specs.Advising.{parts_of}

-- ---- the ascending order

pub parts_ascending : (p : Problem) (set : List ℕ) → (parts_of p).ascending set ≡ others p set
unfolding rule_parts
parts_ascending p set = refl

in_order : (p : Problem) (set order : List ℕ) (k : ℕ) → IsOrder p set order → Contains p.candidates k → is_in order k ≡ not (has_node set k)
in_order p set order k is candidate =
    by_test (has_node set k)
    (λ inside. is_in-no order k (λ found. All-contains (λ m. Contains set m → ⊥) order k is.outside found (in_when set k inside)) ∙ sym (ap not inside))
    (λ outside. ⊎_elim (λ there. absurd (true≢false (sym (has_when set k there) ∙ outside))) (λ there. is_in-yes order k there) (is.all k candidate)
    ∙ sym (ap not outside))

pub outside_is : (p : Problem) (set order : List ℕ) → IsProblem p → IsOrder p set order → IsStrictlyIncreasing order → order ≡ others p set
unfolding others
outside_is p set order ok is up =
    sym (part_is_filter p.candidates order ok.candidates_ascend up is.are_candidates)
    ∙ filter_same (is_in order) (λ k. not (has_node set k)) p.candidates (λ k c. in_order p set order k is c)
