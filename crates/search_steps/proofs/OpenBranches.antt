-- The commodity for which the open nodes of a branch are infeasible, and the set that is picked for any number of hubs.
use Rattle.std.proofs.Common.{◌≡◌, ℕ, ◌+◌, ◌≤◌, true, false, List, length, Option, None, is_some, refl, ap, sym, ◌∙◌}
use Rattle.std.specs.Prelude.{option_map}
use Rattle.hub_spec.specs.Problem.{Problem}
use Rattle.hub_spec.specs.Lacking.{lacking}
use Rattle.hub_spec.specs.Trees.{Branching, preorder}
use Rattle.search_spec.specs.States.{Advice}
use Rattle.search_spec.specs.Choices.{picked, all_open, pick_for, rule_parts}
use Rattle.p_hub.proofs.OpenBranches as open_nodes
use Rattle.search_steps.specs.Advising.{parts_of}

-- they are feasible for each commodity where no length is limited
pub never_blocked : (p : Problem) (b : Branching) → p.longest ≡ None → 1 ≤ length b.inside + length b.free
    → None ≡ option_map preorder ((parts_of p).blocked b)
unfolding rule_parts
never_blocked p b any some = sym (ap (option_map preorder) (open_nodes.never_blocked p b any some))

pub picked_serves : (p : Problem) (a : Advice) (b : Branching) (set : List ℕ) (told : Option (ℕ × ℕ)) → set ≡ picked p a b
    → told ≡ lacking p set → is_some told ≡ false → set ≡ pick_for p None a b
unfolding pick_for
picked_serves p a b set told is tells none =
    let e = ap (λ (hs : List ℕ). is_some (lacking p hs)) (sym is) ∙ ap (λ (o : Option (ℕ × ℕ)). is_some o) (sym tells) ∙ none in
    rw e is

pub picked_lacks : (p : Problem) (a : Advice) (b : Branching) (set : List ℕ) (told : Option (ℕ × ℕ)) → set ≡ picked p a b
    → told ≡ lacking p set → is_some told ≡ true → all_open b ≡ pick_for p None a b
unfolding pick_for
picked_lacks p a b set told is tells some =
    let e = ap (λ (hs : List ℕ). is_some (lacking p hs)) (sym is) ∙ ap (λ (o : Option (ℕ × ℕ)). is_some o) (sym tells) ∙ some in
    rw e refl
