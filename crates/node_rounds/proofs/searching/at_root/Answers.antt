use Rattle.std.proofs.Common.{ℕ, ◌≤◌, List, [], ◌∷◌, ◌++◌, All, sym, subst, ap, ◌∙◌, rules, arith}
use Rattle.std.proofs.lemmas.List.Elements.{All-nil, All-cons}
use Rattle.hub_spec.specs.Trees.{IsBranch}
use Rattle.hub_spec.proofs.ChildLists.{root_branch}
use Rattle.search_spec.specs.States.{denominator}
use Rattle.search_steps.specs.Weights.{AreNodeWeights}
use Rattle.node_rounds.specs.declared.outcomes.Pending.{Pending}
use Rattle.node_rounds.specs.Outcomes.{IsPendingOf}
use Rattle.node_rounds.proofs.searching.at_root.Goals as goal

-- no weights, on no cut
no_weights : AreNodeWeights [] []
no_weights = record { few = omega arith; each = All-nil (λ (w : ℕ). w ≤ denominator); multiples = search (rules, arith); most = omega arith }

pub returns-clause-nodes : goal.returns-clause-nodes
returns-clause-nodes c =
    let p = c.args.instance.now in
    let node : Pending = record { branch = c.in_ok-root.field-0; weights = c.new.result; waits = 0 } in
    let is : IsPendingOf p [] node = record {
      branch = subst (IsBranch p) (sym c.in_ok-root.ensures) (root_branch p c.requires.problem);
      weights = subst (AreNodeWeights []) (sym c.new.ensures.items) no_weights;
    } in
    subst (All (IsPendingOf p [])) (sym (c.in_ok-push-2.ensures.items ∙ ap (λ (xs : List Pending). xs ++ node ∷ []) c.new-nodes.ensures.items))
    (All-cons (IsPendingOf p []) node [] is (All-nil (IsPendingOf p [])))
