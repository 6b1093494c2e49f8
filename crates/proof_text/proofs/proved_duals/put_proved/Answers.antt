use Rattle.std.proofs.Common.{ap, is_ok, is_err, arith}
use Rattle.std.specs.List.{range_with_len}
use Rattle.std.proofs.lemmas.List.FromFn.{length-range_with_len}
use Rattle.cert_format.proofs.Following.{as_text, list_more, list_stop, list_end}
use Rattle.cert_format.proofs.Joined.{texts_joined}
use Rattle.cut_pool.specs.Kept.{kept_of}
use Rattle.dual_lender.specs.Lenders.{kept_dual, made_dual}
use Rattle.proof_text.specs.Texts.{proved_pair}
use Rattle.proof_text.proofs.ProvedLines.{pair_is}
use Rattle.proof_text.proofs.proved_duals.put_proved.Goals as goal

pub returns-in_err-put_proved_dual-clause-lines : goal.returns-in_err-put_proved_dual-clause-lines
returns-in_err-put_proved_dual-clause-lines g c =
    let p = c.args.cut.now.instance.now in
    let kept = kept_of c.args.cut.now.kept.now in
    let proofs = c.args.proofs.now in
    as_text (texts_joined (proved_pair p.size (kept_dual p kept) proofs c.args.i) (range_with_len 0 p.size))
    (list_stop 0 c.loop-j.invariant.put c.put_proved_dual.ensures (ap is_err c.in_err-put_proved_dual.was) c.from_residual.ensures.0
    (omega (arith, length-range_with_len 0 p.size, c.loop-j-test.true, c.size-n.ensures.value))
    (pair_is p.size c.size-n.result (kept_dual p kept) proofs c.args.i c.loop-j.j (made_dual kept c.make.new.self) c.index-proofs-i.result
    c.size-n.ensures.value c.requires.origin c.loop-j-test.true c.requires.proved c.make.ensures.made c.index-proofs-i.is))

pub loop-j-preserved : goal.loop-j-preserved
loop-j-preserved g c =
    let p = c.args.cut.now.instance.now in
    let kept = kept_of c.args.cut.now.kept.now in
    record {
      duals = c.make.ensures.duals;
      put = list_more 0 c.loop-j.invariant.put c.put_proved_dual.ensures (ap is_ok c.in_ok-put_proved_dual.was)
          (omega (arith, length-range_with_len 0 p.size, c.loop-j-test.true, c.size-n.ensures.value))
          (pair_is p.size c.size-n.result (kept_dual p kept) c.args.proofs.now c.args.i c.loop-j.j (made_dual kept c.make.new.self)
          c.index-proofs-i.result c.size-n.ensures.value c.requires.origin c.loop-j-test.true c.requires.proved c.make.ensures.made
          c.index-proofs-i.is);
    }

pub returns-clause-lines : goal.returns-clause-lines
returns-clause-lines g c =
    let p = c.args.cut.now.instance.now in
    as_text (texts_joined (proved_pair p.size (kept_dual p (kept_of c.args.cut.now.kept.now)) c.args.proofs.now c.args.i) (range_with_len 0 p.size))
    (list_end c.loop-j.invariant.put (omega (arith, length-range_with_len 0 p.size, c.size-n.ensures.value)))
