use Rattle.std.proofs.Common.{◌≡◌, ℕ, true, Some, true≢false, refl, sym, ap, subst, ◌∙◌, FitsSigned, rules, arith}
use Rattle.std.specs.Int.{w128}
use Rattle.std.proofs.lemmas.Int.{to_z-of_z}
use Rattle.std.proofs.lemmas.List.{length-map}
use Rattle.hub_model.specs.Lines.{tree_line_of}
use Rattle.search_spec.specs.States.{lesser, rounded_up}
use Rattle.cut_pool.specs.Kept.{kept_cut}
use Rattle.hub_spec.specs.Trees.{Closes, leaf_bound}
use Rattle.search_spec.specs.States.{denominator}
use Rattle.ascent_search.specs.SingleCuts.{weights_on}
use Rattle.ascent_search.specs.Progressing.{cuts_of, IsDone, IsLastLine}
use Rattle.ascent_search.proofs.BestBounds.{on_ok_both}
use Rattle.ascent_search.proofs.Choices.{leaf_sound, leaf_in_range, leaf_is_first, leaf_says, choice_closes, number_in}
use Rattle.ascent_search.proofs.Steps.{LeafSays, leaving, left_going, stop_done}
use Rattle.ascent_search.proofs.walk.Walk.stopped_leaf.Goals as goal

pub end_with-requires-clause-going : goal.end_with-requires-clause-going
end_with-requires-clause-going c =
    left_going c.args.self.now.task.now c.args.self.now.progress true c.lesser.result c.requires.going (λ stop. c.requires.spent)
    (λ goes. absurd (true≢false goes))

pub end_with-requires-clause-end : goal.end_with-requires-clause-end
end_with-requires-clause-end c b pending = rw c.in_ok-line.ensures refl

pub end_with-requires-clause-sound : goal.end_with-requires-clause-sound
end_with-requires-clause-sound c =
    let p = c.args.self.now.task.now.instance.now in
    let s = c.args.self.now.progress in
    let choice = c.best_choice-choice.result in
    let is = c.best_choice-choice.ensures.choice in
    let cuts = cuts_of p s in
    let b = c.args.branch.now in
    let fits : FitsSigned w128 choice.bound = search rules in
    let up : c.rounded_up.result ≡ rounded_up choice.bound = c.rounded_up.ensures ∙ ap rounded_up (to_z-of_z w128 choice.bound fits) in
    let closes = subst (λ (low : ℕ). Closes denominator (lesser s.cost (Some low)) (leaf_bound p cuts denominator (weights_on choice.number) b))
    (sym c.lesser.ensures) (choice_closes p cuts b choice s.cost c.rounded_up.result s.left is up) in
    leaf_sound p s.cuts.cuts (lesser s.cost (Some c.lesser.result)) b choice.number (tree_line_of c.in_ok-line.line)
    c.requires.room c.requires.going.own (number_in p cuts b choice is) c.in_ok-line.ensures closes

pub end_with-requires-clause-in_range : goal.end_with-requires-clause-in_range
end_with-requires-clause-in_range c =
    let p = c.args.self.now.task.now.instance.now in
    let s = c.args.self.now.progress in
    let choice = c.best_choice-choice.result in
    leaf_in_range p.size (cuts_of p s) choice.number (tree_line_of c.in_ok-line.line)
    (omega (arith, length-map s.cuts.cuts (kept_cut p), c.requires.going.few_cuts))
    (number_in p (cuts_of p s) c.args.branch.now choice c.best_choice-choice.ensures.choice) c.in_ok-line.ensures

pub end_with-requires-clause-first : goal.end_with-requires-clause-first
end_with-requires-clause-first c any =
    leaf_is_first c.best_choice-choice.result.number (tree_line_of c.in_ok-line.line) c.in_ok-line.ensures

pub returns-clause-done : goal.returns-clause-done
returns-clause-done c =
    let t = c.args.self.now.task.now in
    let b = c.args.branch.now in
    let s = c.args.self.now.progress in
    let after = c.end_with.new.progress in
    let choice = c.best_choice-choice.result in
    let line = tree_line_of c.in_ok-line.line in
    let fits : FitsSigned w128 choice.bound = search rules in
    let up = c.rounded_up.ensures ∙ ap rounded_up (to_z-of_z w128 choice.bound fits ∙ c.best_choice-choice.ensures.choice.bound) in
    let leaf : LeafSays t b s line c.rounded_up.result =
    λ target sound. leaf_says t.instance.now (cuts_of t.instance.now s) target b choice.number line c.rounded_up.result c.in_ok-line.ensures up sound in
    on_ok_both c.end_with.result
    (λ done last. stop_done t b s after c.rounded_up.result line c.requires.spent c.requires.due leaf
    (subst (λ (low : ℕ). IsDone t b (leaving s true low) after) c.lesser.ensures done)
    (subst (λ (low : ℕ). IsLastLine t b line (leaving s true low) after) c.lesser.ensures last))
    c.end_with.ensures.done c.end_with.ensures.last
