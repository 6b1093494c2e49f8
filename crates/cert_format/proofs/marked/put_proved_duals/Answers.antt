use Rattle.std.proofs.Common.{◌+◌, ◌++◌, refl, ap, is_ok, is_err, arith}
use Rattle.cert_spec.specs.Lines.{says_proof}
use Rattle.cert_spec.specs.Text.{line_bytes}
use Rattle.cert_format.proofs.MarkedLines.{lines_from, next_dual, next_proved, none_proved}
use Rattle.cert_format.proofs.Following.{front_more, front_stop, front_end}
use Rattle.cert_format.proofs.marked.put_proved_duals.Goals as goal

pub returns-in_err-put_stated_dual : goal.returns-in_err-put_stated_dual
returns-in_err-put_stated_dual g c =
    front_stop _ c.loop-t.invariant c.put_stated_dual.ensures (ap is_err c.in_err-put_stated_dual.was) c.from_residual.ensures.0
    (next_dual c.args.n c.loop-t.t c.args.cut.now.duals c.args.proofs.now c.dual-dual.result (omega arith) c.requires.proved c.dual-dual.ensures)

pub returns-in_err-put_proof : goal.returns-in_err-put_proof
returns-in_err-put_proof g c =
    let later = lines_from c.args.n (c.loop-t.t + 1) c.args.cut.now.duals c.args.proofs.now in
    front_stop later
    (front_more (line_bytes (says_proof c.index-proofs-t.result) ++ later) c.loop-t.invariant c.put_stated_dual.ensures (ap is_ok c.in_ok-put_stated_dual.was)
    (next_proved c.args.n c.loop-t.t c.args.cut.now.duals c.args.proofs.now c.dual-dual.result c.index-proofs-t.result (omega arith) c.requires.proved
    c.dual-dual.ensures c.index-proofs-t.is))
    c.put_proof.ensures (ap is_err c.in_err-put_proof.was) c.from_residual-in_err-put_proof.ensures.0 refl

pub loop-t-preserved : goal.loop-t-preserved
loop-t-preserved g c =
    let later = lines_from c.args.n (c.loop-t.t + 1) c.args.cut.now.duals c.args.proofs.now in
    front_more later
    (front_more (line_bytes (says_proof c.index-proofs-t.result) ++ later) c.loop-t.invariant c.put_stated_dual.ensures (ap is_ok c.in_ok-put_stated_dual.was)
    (next_proved c.args.n c.loop-t.t c.args.cut.now.duals c.args.proofs.now c.dual-dual.result c.index-proofs-t.result (omega arith) c.requires.proved
    c.dual-dual.ensures c.index-proofs-t.is))
    c.put_proof.ensures (ap is_ok c.in_ok-put_proof.was) refl

pub returns : goal.returns
returns g c = front_end c.loop-t.invariant (none_proved c.args.n c.loop-t.t c.args.cut.now.duals c.args.proofs.now (omega arith))
