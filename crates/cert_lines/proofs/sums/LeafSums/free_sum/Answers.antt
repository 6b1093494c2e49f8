use Rattle.std.proofs.Common.{◌≡◌, ℕ, ◌-◌, ◌*◌, pos, ◌-ℤ◌, to_z, of_z, List, None, slice_index, sum_by, ap, subst, sym, ◌∙◌}
use Rattle.std.specs.Int.{w128}
use Rattle.hub_spec.specs.Problem.{fixed_cost}
use Rattle.hub_spec.specs.Trees.{Branching}
use Rattle.cert_lines.specs.Marks.{marked}
use Rattle.cert_lines.specs.Paths.{next}
use Rattle.cert_lines.specs.Tallies.{Tally, tally_gain, free_sum}
use Rattle.cert_lines.proofs.TallyBounds.{free_losses, lost_passed}
use Rattle.cert_lines.proofs.sums.LeafSums.free_sum.Goals as goal

pub returns-in-None-clause-value : goal.returns-in-None-clause-value
returns-in-None-clause-value c =
    let p = c.args.instance.now in
    let s = c.self.inside in
    let tally : Tally = record { denom = s.denom; weight = s.weight; base = s.base; loads = s.loads.items } in
    let b : Branching = next c.args.path.now.pending in
    let any : p.wanted ≡ None = sym c.in-None.ensures.value in
    let losses : c.losses.result ≡ sum_by (λ k. slice_index s.loads.items k - s.denom * fixed_cost p k) b.free =
    c.losses.ensures.value
    ∙ ap (λ (ls : List ℕ). sum_by (λ k. slice_index ls k - s.denom * fixed_cost p k) (marked c.free-free.result.now)) c.deref-in-None.ensures.value
    ∙ ap (sum_by (λ k. slice_index s.loads.items k - s.denom * fixed_cost p k)) c.free-free.ensures.nodes in
    subst (λ (t : Tally). to_z w128 (of_z w128 (pos 0 -ℤ to_z w128 (of_z w128 c.signed.result))) ≡ free_sum p.wanted (tally_gain p t) b) c.self.view_is
    (lost_passed c.signed.result c.losses.result c.signed.ensures c.losses.ensures.limit ∙ free_losses p tally b c.losses.result any losses)
