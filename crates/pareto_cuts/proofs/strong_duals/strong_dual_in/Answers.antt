use Rattle.std.proofs.Common.{subst, sym, ℕ}
use Rattle.hub_spec.specs.Cuts.{IsDual}
use Rattle.hub_spec.specs.Separation.{IsMinimalDual}
use Rattle.hub_spec.proofs.MinimalDuals.{minimal_is_dual}
use Rattle.leg_duals.proofs.MinimalDuals.{minimal_dual_of}
use Rattle.pareto_cuts.proofs.strong_duals.strong_dual_in.Goals as goal

pub returns-clause-minimal : goal.returns-clause-minimal
returns-clause-minimal c =
    let p = c.args.instance.now in
    subst (IsMinimalDual p c.args.set.now c.args.order.now (c.args.i, c.args.j)) (sym c.make_single.ensures.dual)
    (minimal_dual_of p c.args.set.now c.args.order.now c.args.i c.args.j c.make_single.ensures.problem c.requires.set c.requires.order c.requires.from
    c.requires.to)

pub returns-clause-dual : goal.returns-clause-dual
returns-clause-dual c =
    let p = c.args.instance.now in
    let commodity : ℕ × ℕ = (c.args.i, c.args.j) in
    subst (IsDual p 1 commodity) (sym c.make_single.ensures.dual)
    (minimal_is_dual p c.args.set.now c.args.order.now commodity _ c.requires.order
    (minimal_dual_of p c.args.set.now c.args.order.now c.args.i c.args.j c.make_single.ensures.problem c.requires.set c.requires.order c.requires.from
    c.requires.to))
