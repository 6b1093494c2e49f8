use Rattle.std.proofs.Common.{flat_map}
use Rattle.std.specs.List.{range_with_len}
use Rattle.cert_spec.specs.Text.{line_bytes}
use Rattle.cert_format.proofs.Following.{HasPut}
use Rattle.cut_pool.specs.Kept.{kept_of}
use Rattle.dual_lender.specs.Lenders.{kept_dual, HasDuals}
use Rattle.proof_text.specs.Texts.{proved_pair}
use Rattle.proof_text.proofs.proved_duals.put_proved.Given as goal

abbrev pub invariant-loop-j : goal.invariant-loop-j
invariant-loop-j g l =
    let s = g.K.Sink in
    let n = l.cut.instance.now.size in
    record {
      duals : HasDuals l.cut.instance.now (kept_of l.cut.kept.now) l.i l.lender;
      put : HasPut s.taken s.faults l.initial.sink l.sink l.initial.buffer l.buffer
          (λ j. flat_map line_bytes (proved_pair n (kept_dual l.cut.instance.now (kept_of l.cut.kept.now)) l.proofs l.i j)) (range_with_len 0 n) l.j;
    }
