use Rattle.std.proofs.Common.{◌≡◌, ℕ, ◌+◌, ◌*◌, ℤ, pos, ◌+ℤ◌, ◌-ℤ◌, to_z, of_z, List, slice_index, sum_by, ap, subst, sym, ◌∙◌, arith}
use Rattle.std.specs.Int.{w128}
use Rattle.hub_spec.specs.Problem.{fixed_cost}
use Rattle.hub_spec.specs.Trees.{Branching}
use Rattle.cert_lines.specs.Marks.{marked}
use Rattle.cert_lines.specs.Paths.{next}
use Rattle.cert_lines.specs.Tallies.{Tally, tally_gain, tally_bound, free_sum}
use Rattle.cert_lines.proofs.TallyBounds.{bound_of_parts, parts_passed}
use Rattle.cert_lines.proofs.sums.LeafSums.bound.Goals as goal

pub returns-clause-value : goal.returns-clause-value
returns-clause-value c =
    let p = c.args.instance.now in
    let s = c.self.inside in
    let tally : Tally = record { denom = s.denom; weight = s.weight; base = s.base; loads = s.loads.items } in
    let b : Branching = next c.args.path.now.pending in
    let costs : c.weighted_costs-costs.result ≡ sum_by (λ k. s.denom * fixed_cost p k) b.inside =
    c.weighted_costs-costs.ensures.value ∙ ap (sum_by (λ k. s.denom * fixed_cost p k)) c.inside-inside.ensures.nodes in
    let gone : c.loads_of-gone.result ≡ sum_by (slice_index s.loads.items) b.inside =
    c.loads_of-gone.ensures.value ∙ ap (λ (ls : List ℕ). sum_by (slice_index ls) (marked c.inside-inside.result.now)) c.deref.ensures.value
    ∙ ap (sum_by (slice_index s.loads.items)) c.inside-inside.ensures.nodes in
    let free : c.free_sum.result ≡ free_sum p.wanted (tally_gain p tally) b =
    c.free_sum.ensures.value ∙ ap (λ (t : Tally). free_sum p.wanted (tally_gain p t) b) (sym c.self.view_is) in
    let some = s.base + c.weighted_costs-costs.result in
    let passed = parts_passed c.difference.result c.free_sum.result some c.loads_of-gone.result c.difference.ensures
    c.free_sum.ensures.limit
    (omega (arith, c.weighted_costs-costs.ensures.limit, c.self.invariant.base_limit, c.self.invariant.weight_limit, c.self.invariant.denom_limit))
    c.loads_of-gone.ensures.limit in
    subst (λ (t : Tally). to_z w128 (of_z w128 (to_z w128 (of_z w128 c.difference.result) +ℤ to_z w128 (of_z w128 c.free_sum.result))) ≡ tally_bound p t b) c.self.view_is
    (passed ∙ ap (λ (z : ℤ). (pos some -ℤ pos c.loads_of-gone.result) +ℤ z) free
    ∙ bound_of_parts p tally b c.weighted_costs-costs.result c.loads_of-gone.result costs gone)
