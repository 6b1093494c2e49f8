use Rattle.std.proofs.Common.{ℕ, ◌+◌, ◌*◌, ◌<◌, ◌≤◌, List, length, All, sym, subst, arith}
use Rattle.unit_duals.proofs.TableCells.{row_within}
use Rattle.leg_duals.proofs.CandidateTables.{collect_row}
use Rattle.leg_duals.proofs.candidate_filling.set_collect.Goals as goal

pub set_row-requires-clause-hubs : goal.set_row-requires-clause-hubs
set_row-requires-clause-hubs c =
    subst (All (λ k. k < c.args.instance.now.size)) (sym c.candidates-candidates.ensures.value) c.candidates-candidates.ensures.problem.candidates_are_nodes

pub set_row-requires-clause-row : goal.set_row-requires-clause-row
set_row-requires-clause-row c =
    let p = c.args.instance.now in
    let origin : c.loop-i.i < p.size = omega (arith, c.loop-i-test.true, c.size-i-end.ensures.value) in
    subst (λ (ks : List ℕ). c.loop-i.i * (0 + length ks) + (0 + length ks) ≤ length c.loop-i.table) (sym c.candidates-candidates.ensures.value)
    (omega (arith, row_within c.loop-i.i (length p.candidates) p.size origin, c.requires, c.loop-i.auto.table))

pub loop-i-preserved : goal.loop-i-preserved
loop-i-preserved c =
    let ks = c.candidates-candidates.result.now in
    collect_row c.args.instance.now c.loop-i.i c.collect-factor.result (0 + length ks) ks c.loop-i.table c.set_row.new.table (omega arith)
    c.candidates-candidates.ensures.value c.collect-factor.ensures.value c.set_row.ensures.row c.loop-i.invariant
