use Rattle.std.proofs.Common.{flat_map}
use Rattle.std.specs.List.{range_with_len}
use Rattle.cert_spec.specs.Text.{line_bytes}
use Rattle.cert_format.proofs.Following.{HasPut}
use Rattle.dual_lender.specs.Lenders.{IsLenderFor}
use Rattle.proof_text.specs.Places.{items_of}
use Rattle.proof_text.proofs.together.put_places.Given as goal

abbrev pub invariant-loop-block : goal.invariant-loop-block
invariant-loop-block g l =
    let s = g.K.Sink in
    record {
      lender : IsLenderFor l.stretch.lines.now.tables.now l.lender;
      put : HasPut s.taken s.faults l.initial.sink l.sink l.initial.buffer l.buffer (λ t. flat_map line_bytes (items_of l.stretch.lines.now t))
          (range_with_len l.stretch.first l.stretch.count) l.block;
    }
