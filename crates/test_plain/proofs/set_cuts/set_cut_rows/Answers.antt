use Rattle.std.proofs.Common.{ℕ, List, ◌*◌, ◌≡◌, subst, ap, refl, arith}
use Rattle.std.specs.List.{AllZip}
use Rattle.std.proofs.lemmas.List.{take_all}
use Rattle.hub_spec.specs.Problem.{commodities}
use Rattle.hub_spec.specs.Cuts.{cut_by}
use Rattle.hub_spec.specs.Separation.{IsMinimalDual, IsSetCut}
use Rattle.hub_spec.proofs.Commodities.{next_route, length_commodities}
use Rattle.hub_spec.proofs.SetCuts.{set_cut_is_cut}
use Rattle.hub_spec.proofs.SetCutFunction.{set_cut_is_one_lem}
use Rattle.test_plain.proofs.set_cuts.set_cut_rows.Goals as goal
use Rattle.test_plain.proofs.set_cuts.set_cut_rows.Goals.{After-loop-i}

pub loop-j-preserved : goal.loop-j-preserved
loop-j-preserved c =
    let p = c.args.instance.now in
    rw c.in_ok-push.ensures.items
    (next_route (IsMinimalDual p c.args.set.now c.args.order.now) p.size c.loop-i.i c.loop-j.j c.loop-j.rows.items c.in_ok-minimal_dual.field-0
    (omega arith) (omega arith) c.loop-j.invariant c.in_ok-minimal_dual.ensures.minimal)

whole : (c : After-loop-i) → IsSetCut c.args.instance.now c.args.set.now c.args.order.now (cut_by c.loop-i.rows.items)
whole c =
    let p = c.args.instance.now in
    let square : c.loop-i.i * p.size ≡ p.size * p.size = ap (λ (m : ℕ). m * p.size) (omega arith) in
    record {
      whole = refl;
      duals = subst (λ (cs : List (ℕ × ℕ)). AllZip (IsMinimalDual p c.args.set.now c.args.order.now) cs c.loop-i.rows.items)
          (take_all (c.loop-i.i * p.size) (commodities p.size) (omega (arith, square, length_commodities p.size))) c.loop-i.invariant;
    }

pub returns-clause-set_cut : goal.returns-clause-set_cut
returns-clause-set_cut c = whole (goal.at.returns-clause-set_cut c).After-loop-i

pub returns-clause-is : goal.returns-clause-is
returns-clause-is c =
    (set_cut_is_one_lem c.args.instance.now c.args.set.now c.args.order.now (cut_by c.loop-i.rows.items) c.size-n.ensures.problem c.requires.set
    c.requires.order).0 (whole (goal.at.returns-clause-is c).After-loop-i)

pub returns-clause-cut : goal.returns-clause-cut
returns-clause-cut c =
    set_cut_is_cut c.args.instance.now c.args.set.now c.args.order.now (cut_by c.loop-i.rows.items) c.size-n.ensures.problem c.requires.set
    c.requires.order (whole (goal.at.returns-clause-cut c).After-loop-i)
