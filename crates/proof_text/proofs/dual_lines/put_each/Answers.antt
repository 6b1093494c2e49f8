use Rattle.std.proofs.Common.{◌+◌, ap, is_ok, is_err, ◌∙◌, rules, arith}
use Rattle.hub_model.specs.Amounts.{natural}
use Rattle.cert_format.proofs.Amounts.{same_amount}
use Rattle.cert_format.proofs.Written.{values_natural}
use Rattle.cert_format.proofs.Following.{front_more, front_stop, front_end}
use Rattle.cut_pool.specs.Kept.{kept_of}
use Rattle.dual_lender.specs.Lenders.{kept_dual, made_dual}
use Rattle.proof_text.proofs.RowLines.{text_from, each_text, each_end}
use Rattle.proof_text.proofs.dual_lines.put_each.Goals as goal

pub put_dual-requires-clause-values : goal.put_dual-requires-clause-values
put_dual-requires-clause-values g c =
    values_natural (made_dual (kept_of c.args.kept.now) c.make.new.self).u c.dual-a.result.1.now c.dual-a.ensures.values

pub returns-in_err-put_dual-clause-lines : goal.returns-in_err-put_dual-clause-lines
returns-in_err-put_dual-clause-lines g c =
    let p = c.args.instance.now in
    let kept = kept_of c.args.kept.now in
    front_stop (text_from 1 p.size (kept_dual p kept) c.args.i (c.loop-j.j + 1))
    c.loop-j.invariant.put c.put_dual.ensures (ap is_err c.in_err-put_dual.was) c.from_residual.ensures.0
    (each_text p.size (kept_dual p kept) c.args.i c.loop-j.j (made_dual kept c.make.new.self) c.dual-a.result.1.now (omega arith) c.make.ensures.made
    (same_amount c.dual-a.result.0 (search rules) ∙ ap natural c.dual-a.ensures.price) c.dual-a.ensures.values)

pub loop-j-preserved : goal.loop-j-preserved
loop-j-preserved g c =
    let p = c.args.instance.now in
    let kept = kept_of c.args.kept.now in
    let d = kept_dual p kept in
    record {
      duals = c.make.ensures.duals;
      put = front_more (text_from 1 p.size d c.args.i (c.loop-j.j + 1))
          c.loop-j.invariant.put c.put_dual.ensures (ap is_ok c.in_ok-put_dual.was)
          (each_text p.size d c.args.i c.loop-j.j (made_dual kept c.make.new.self) c.dual-a.result.1.now (omega arith) c.make.ensures.made
          (same_amount c.dual-a.result.0 (search rules) ∙ ap natural c.dual-a.ensures.price) c.dual-a.ensures.values);
    }

pub returns-clause-lines : goal.returns-clause-lines
returns-clause-lines g c =
    let p = c.args.instance.now in
    front_end c.loop-j.invariant.put (each_end 1 p.size (kept_dual p (kept_of c.args.kept.now)) c.args.i c.loop-j.j (omega arith))
