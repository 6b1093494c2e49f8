use Rattle.std.proofs.Common.{flat_map}
use Rattle.cert_spec.specs.Text.{line_bytes}
use Rattle.cert_format.proofs.Following.{HasPutFront}
use Rattle.cert_format.specs.DualItems.{dual_items_from}
use Rattle.cut_pool.specs.Kept.{kept_of}
use Rattle.dual_lender.specs.Lenders.{kept_dual, HasDuals}
use Rattle.proof_text.proofs.RowLines.{text_from, IsRunOf}
use Rattle.proof_text.proofs.dual_runs.put_runs.Given as goal

abbrev pub invariant-loop-j : goal.invariant-loop-j
invariant-loop-j g l =
    let s = g.K.Sink in
    let d = kept_dual l.instance (kept_of l.kept) in
    record {
      duals : HasDuals l.instance (kept_of l.kept) l.i l.lender;
      run : IsRunOf l.instance.size d l.i l.first l.j l.lender.held;
      put : HasPutFront s.taken s.faults l.initial.sink l.sink l.initial.buffer l.buffer
          (text_from 2 l.instance.size d l.i l.first) (flat_map line_bytes (dual_items_from 2 l.instance.size d l.i));
    }
