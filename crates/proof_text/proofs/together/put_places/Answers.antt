use Rattle.std.proofs.Common.{ap, is_ok, is_err, arith}
use Rattle.std.specs.List.{range_with_len}
use Rattle.std.proofs.lemmas.List.FromFn.{length-range_with_len}
use Rattle.cert_format.proofs.Following.{as_text, list_more, list_stop, list_end}
use Rattle.cert_format.proofs.Joined.{texts_joined}
use Rattle.proof_text.specs.Places.{items_of}
use Rattle.proof_text.proofs.PlaceLines.{block_at}
use Rattle.proof_text.proofs.together.put_places.Goals as goal

pub returns-in_err-put_place-clause-lines : goal.returns-in_err-put_place-clause-lines
returns-in_err-put_place-clause-lines g c =
    let s = c.args.stretch.now in
    let items = items_of s.lines.now in
    as_text (texts_joined items (range_with_len s.first s.count))
    (list_stop 0 c.loop-block.invariant.put c.put_place.ensures.lines (ap is_err c.in_err-put_place.was) c.from_residual.ensures.0
    (omega (arith, length-range_with_len s.first s.count))
    (block_at items s.first s.count c.loop-block.block (omega arith)))

pub loop-block-preserved : goal.loop-block-preserved
loop-block-preserved g c =
    let s = c.args.stretch.now in
    record {
      lender = c.put_place.ensures.ready.lender;
      put = list_more 0 c.loop-block.invariant.put c.put_place.ensures.lines (ap is_ok c.in_ok-put_place.was)
          (omega (arith, length-range_with_len s.first s.count))
          (block_at (items_of s.lines.now) s.first s.count c.loop-block.block (omega arith));
    }

pub returns-clause-lines : goal.returns-clause-lines
returns-clause-lines g c =
    let s = c.args.stretch.now in
    as_text (texts_joined (items_of s.lines.now) (range_with_len s.first s.count))
    (list_end c.loop-block.invariant.put (omega (arith, length-range_with_len s.first s.count)))
