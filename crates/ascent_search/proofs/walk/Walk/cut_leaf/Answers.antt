use Rattle.std.proofs.Common.{◌≡◌, ◌≤◌, ℕ, Some, inr, refl, sym, ap, subst, ◌∙◌, FitsSigned, rules, arith}
use Rattle.std.specs.Int.{w128}
use Rattle.std.proofs.lemmas.Int.{to_z-of_z}
use Rattle.std.proofs.lemmas.List.{length-map}
use Rattle.hub_spec.specs.Trees.{Closes, cut_at}
use Rattle.hub_model.specs.Lines.{tree_line_of}
use Rattle.search_spec.specs.States.{denominator, lesser, rounded_up}
use Rattle.cut_pool.specs.Kept.{kept_cut}
use Rattle.ascent_search.specs.Gaps.{IsWithinGap, goal_of}
use Rattle.ascent_search.specs.Progressing.{cuts_of, IsDone, IsLastLine}
use Rattle.ascent_search.specs.SingleCuts.{cut_bound}
use Rattle.ascent_search.proofs.BestBounds.{on_ok_both}
use Rattle.ascent_search.proofs.Choices.{number_of, leaf_sound, leaf_in_range, leaf_is_first, leaf_says, said_least, left_closes}
use Rattle.ascent_search.proofs.Gaps.{left_within}
use Rattle.ascent_search.proofs.Steps.{LeafSays, leaving, left_going, left_done}
use Rattle.ascent_search.proofs.walk.Walk.cut_leaf.Goals as goal
use Rattle.ascent_search.proofs.walk.Walk.cut_leaf.Goals.{After-lesser}

-- the bound of the cut is taken rounded up
rounded : (c : After-lesser) → let p = c.args.self.now.task.now.instance.now in let s = c.args.self.now.progress in
    c.rounded_up.result ≡ rounded_up (cut_bound p (cut_at (cuts_of p s) c.args.number) c.args.branch.now)
rounded c =
    let fits : FitsSigned w128 c.kept_bound-bound.result = search rules in
    c.rounded_up.ensures ∙ ap rounded_up (to_z-of_z w128 c.kept_bound-bound.result fits ∙ c.kept_bound-bound.ensures.bound)

pub end_with-requires-clause-going : goal.end_with-requires-clause-going
end_with-requires-clause-going c =
    let t = c.args.self.now.task.now in
    let p = t.instance.now in
    let s = c.args.self.now.progress in
    let bound = cut_bound p (cut_at (cuts_of p s) c.args.number) c.args.branch.now in
    let is = rounded (goal.at.end_with-requires-clause-going c).After-lesser in
    let wanted = goal_of t.gap s.cost in
    let least : wanted ≤ c.rounded_up.result = subst (λ (n : ℕ). wanted ≤ n) (sym is) (said_least bound wanted c.requires.closes) in
    left_going t s s.stopped c.lesser.result c.requires.going c.requires.going.spent
    (λ goes. subst (λ (low : ℕ). IsWithinGap t.gap (lesser s.cost (Some low)) s.cost) (sym c.lesser.ensures)
    (left_within t.gap s.cost c.rounded_up.result s.left least (c.requires.going.near goes)))

pub end_with-requires-clause-end : goal.end_with-requires-clause-end
end_with-requires-clause-end c b pending = rw c.in_ok-line.ensures refl

pub end_with-requires-clause-sound : goal.end_with-requires-clause-sound
end_with-requires-clause-sound c =
    let t = c.args.self.now.task.now in
    let p = t.instance.now in
    let s = c.args.self.now.progress in
    let bound = cut_bound p (cut_at (cuts_of p s) c.args.number) c.args.branch.now in
    let is = rounded (goal.at.end_with-requires-clause-sound c).After-lesser in
    let closes = subst (λ (low : ℕ). Closes denominator (lesser s.cost (Some low)) bound) (sym c.lesser.ensures)
    (left_closes bound (goal_of t.gap s.cost) s.cost c.rounded_up.result s.left (inr c.requires.closes) is) in
    leaf_sound p s.cuts.cuts (lesser s.cost (Some c.lesser.result)) c.args.branch.now (Some c.args.number) (tree_line_of c.in_ok-line.line)
    c.requires.room c.requires.going.own (number_of p s.cuts.cuts c.args.number c.requires.least c.requires.most)
    c.in_ok-line.ensures closes

pub end_with-requires-clause-in_range : goal.end_with-requires-clause-in_range
end_with-requires-clause-in_range c =
    let p = c.args.self.now.task.now.instance.now in
    let s = c.args.self.now.progress in
    leaf_in_range p.size (cuts_of p s) (Some c.args.number) (tree_line_of c.in_ok-line.line)
    (omega (arith, length-map s.cuts.cuts (kept_cut p), c.requires.going.few_cuts))
    (number_of p s.cuts.cuts c.args.number c.requires.least c.requires.most) c.in_ok-line.ensures

pub end_with-requires-clause-first : goal.end_with-requires-clause-first
end_with-requires-clause-first c any =
    leaf_is_first (Some c.args.number) (tree_line_of c.in_ok-line.line) c.in_ok-line.ensures

pub returns-clause-done : goal.returns-clause-done
returns-clause-done c =
    let t = c.args.self.now.task.now in
    let b = c.args.branch.now in
    let s = c.args.self.now.progress in
    let after = c.end_with.new.progress in
    let line = tree_line_of c.in_ok-line.line in
    let fits : FitsSigned w128 c.kept_bound-bound.result = search rules in
    let up = c.rounded_up.ensures ∙ ap rounded_up (to_z-of_z w128 c.kept_bound-bound.result fits ∙ c.kept_bound-bound.ensures.bound) in
    let leaf : LeafSays t b s line c.rounded_up.result =
    λ target sound. leaf_says t.instance.now (cuts_of t.instance.now s) target b (Some c.args.number) line c.rounded_up.result c.in_ok-line.ensures up sound in
    on_ok_both c.end_with.result
    (λ done last. let now = subst (λ (low : ℕ). IsDone t b (leaving s s.stopped low) after) c.lesser.ensures done in
    left_done t b s after s.stopped c.rounded_up.result line now.enough leaf now
    (subst (λ (low : ℕ). IsLastLine t b line (leaving s s.stopped low) after) c.lesser.ensures last))
    c.end_with.ensures.done c.end_with.ensures.last
