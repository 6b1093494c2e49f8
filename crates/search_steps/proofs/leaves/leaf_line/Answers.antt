use Rattle.std.proofs.Common.{◌≡◌, ℕ, ℤ, List, Vec, Global, ap, ◌∙◌, rules, arith}
use Rattle.std.proofs.lemmas.List.{take_all}
use Rattle.hub_spec.specs.Trees.{leaf_of}
use Rattle.hub_model.specs.Mixtures.{Mixture, signed_weights}
use Rattle.search_steps.specs.Weights.{pairs_of}
use Rattle.search_steps.proofs.LeafPairs.{pair_passed, pair_pushed, signed_mixture, mixture_weights}
use Rattle.search_steps.proofs.leaves.leaf_line.Goals as goal
use Rattle.search_steps.proofs.leaves.leaf_line.Goals.{After-loop-place, then-weight-gt0+in_ok-push, else-weight-gt0}

-- at the end all weights are listed
listed : (c : After-loop-place) → c.loop-place.pairs.items ≡ signed_weights (pairs_of c.args.weights.now)
listed c =
    c.loop-place.invariant ∙ ap (λ (ws : List ℕ). signed_weights (pairs_of ws)) (take_all c.loop-place.place c.args.weights.now c.loop-place-test.false)

pub loop-place-preserved : goal.loop-place-preserved
loop-place-preserved c =
    let items = λ (v : Vec (ℤ × ℤ) Global). v.items in
    let weights = c.args.weights.now in
    let i = c.loop-place.place in
    elim c.if-weight-gt0.branch [
      | then-weight-gt0+in_ok-push w ↦ ap items w.pairs-is ∙ w.in_ok-push.ensures.items
          ∙ pair_pushed weights i c.loop-place.pairs.items _ _ c.loop-place-test.true (search rules) (search rules) (search rules) c.loop-place.invariant
      | else-weight-gt0 w ↦ ap items w.pairs-is ∙ pair_passed weights i c.loop-place.pairs.items c.loop-place-test.true (omega arith) c.loop-place.invariant
    ]

pub new-requires : goal.new-requires
new-requires c = signed_mixture c.args.weights.now c.loop-place.pairs.items (listed c)

pub returns : goal.returns
returns c =
    ap (λ (m : Mixture). leaf_of m.denom m.weights) c.new.ensures
    ∙ ap (leaf_of 1000000) (mixture_weights c.args.weights.now c.loop-place.pairs.items (listed (goal.at.returns c).After-loop-place))
