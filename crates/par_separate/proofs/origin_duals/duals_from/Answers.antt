use Rattle.std.proofs.Common.{◌≡◌, ℕ, ◌+◌, List, ◌∷◌, ◌++◌, [], map, sym, ap, ap₂, ◌∙◌, arith}
use Rattle.std.specs.List.{range_with_len}
use Rattle.std.proofs.lemmas.List.FromFn.{map-range_with_len_more}
use Rattle.hub_spec.specs.Problem.{Problem}
use Rattle.hub_spec.specs.Cuts.{Prices}
use Rattle.hub_spec.specs.Separation.{minimal_dual}
use Rattle.par_separate.proofs.origin_duals.duals_from.Goals as goal

pub loop-j-preserved : goal.loop-j-preserved
loop-j-preserved c =
    let s = c.args.separation.now in
    let dual_to : ℕ → Prices = λ j. minimal_dual s.problem s.hubs s.order (c.args.i, j) in
    let node : s.start + c.loop-j.j ≡ c.loop-j.j = omega (arith, c.requires.whole.first) in
    record {
      duals = c.in_ok-push.ensures.items
          ∙ ap₂ (λ (ds : List Prices) (d : Prices). ds ++ d ∷ []) c.loop-j.invariant.duals
          (c.in_ok-lent_dual.ensures ∙ c.make.ensures.dual ∙ ap dual_to node)
          ∙ sym (map-range_with_len_more dual_to 0 c.loop-j.j c.loop-j.j (omega arith));
      room = c.make.ensures.room ∙ c.loop-j.invariant.room;
    }

pub returns-clause-duals : goal.returns-clause-duals
returns-clause-duals c =
    let s = c.args.separation.now in
    c.loop-j.invariant.duals
    ∙ ap (λ (n : ℕ). map (λ j. minimal_dual s.problem s.hubs s.order (c.args.i, j)) (range_with_len 0 n))
    (omega (arith, ap (λ (p : Problem). p.size) c.instance.ensures.value))
