use Rattle.std.proofs.Common.{ℕ, List, ◌+◌, ◌*◌, ◌≡◌, take, refl, subst, sym, ap, ◌∙◌, arith}
use Rattle.std.specs.List.{AllZip}
use Rattle.std.proofs.lemmas.List.{take_all}
use Rattle.hub_spec.specs.Problem.{commodities}
use Rattle.hub_spec.specs.Cuts.{cut_by}
use Rattle.hub_spec.specs.Separation.{IsMinimalDual, IsSetCut}
use Rattle.hub_spec.proofs.Commodities.{next_route, length_commodities}
use Rattle.hub_spec.proofs.SetCuts.{set_cut_is_cut}
use Rattle.hub_spec.proofs.SetCutFunction.{set_cut_is_one_lem}
use Rattle.leg_duals.proofs.MinimalDuals.{minimal_dual_of}
use Rattle.pareto_cuts.proofs.set_cuts.set_duals.Goals as goal
use Rattle.pareto_cuts.proofs.set_cuts.set_duals.Goals.{After-loop-i}

pub loop-j-preserved : goal.loop-j-preserved
loop-j-preserved c =
    let p = c.args.instance.now in
    let hubs = c.args.set.now in
    let order = c.args.order.now in
    let minimal = subst (IsMinimalDual p hubs order (c.loop-i.i, c.loop-j.j)) (sym (c.in_ok-lent_dual.ensures ∙ c.make_dual.ensures.dual))
    (minimal_dual_of p hubs order c.loop-i.i c.loop-j.j c.size-n.ensures.problem c.requires.set c.requires.order (omega arith) (omega arith)) in
    record {
      rows = rw c.in_ok-push.ensures.items
          (next_route (IsMinimalDual p hubs order) p.size c.loop-i.i c.loop-j.j c.loop-j.rows.items c.in_ok-lent_dual.field-0
          (omega arith) (omega arith) c.loop-j.invariant.rows minimal);
      duals = c.make_dual.ensures.duals;
      room = omega (arith, c.make_dual.ensures.room, c.loop-j.invariant.room);
    }

pub loop-i-preserved : goal.loop-i-preserved
loop-i-preserved c =
    let p = c.args.instance.now in
    let row : c.loop-i.i * p.size + c.loop-j.j ≡ (c.loop-i.i + 1) * p.size =
    (let all : c.loop-j.j ≡ p.size = omega arith in omega (arith, all)) in
    record {
      rows = subst (λ (m : ℕ). AllZip (IsMinimalDual p c.args.set.now c.args.order.now) (take m (commodities p.size)) c.loop-j.rows.items) row
          c.loop-j.invariant.rows;
      ready = c.loop-j.invariant.duals.ready;
      room = c.loop-j.invariant.room;
    }

whole : (c : After-loop-i) → IsSetCut c.args.instance.now c.args.set.now c.args.order.now (cut_by c.loop-i.rows.items)
whole c =
    let p = c.args.instance.now in
    let square : c.loop-i.i * p.size ≡ p.size * p.size = ap (λ (m : ℕ). m * p.size) (omega arith) in
    record {
      whole = refl;
      duals = subst (λ (cs : List (ℕ × ℕ)). AllZip (IsMinimalDual p c.args.set.now c.args.order.now) cs c.loop-i.rows.items)
          (take_all (c.loop-i.i * p.size) (commodities p.size) (omega (arith, square, length_commodities p.size))) c.loop-i.invariant.rows;
    }

pub returns-clause-set_cut : goal.returns-clause-set_cut
returns-clause-set_cut c = whole (goal.at.returns-clause-set_cut c).After-loop-i

pub returns-clause-is : goal.returns-clause-is
returns-clause-is c =
    (set_cut_is_one_lem c.args.instance.now c.args.set.now c.args.order.now (cut_by c.loop-i.rows.items) c.size-n.ensures.problem c.requires.set
    c.requires.order).0 (whole (goal.at.returns-clause-is c).After-loop-i)

pub returns-clause-cut : goal.returns-clause-cut
returns-clause-cut c =
    set_cut_is_cut c.args.instance.now c.args.set.now c.args.order.now (cut_by c.loop-i.rows.items) c.size-n.ensures.problem c.requires.set
    c.requires.order (whole (goal.at.returns-clause-cut c).After-loop-i)
