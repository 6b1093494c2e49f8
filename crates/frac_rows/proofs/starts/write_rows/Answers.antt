use Rattle.std.proofs.Common.{◌+◌, ◌*◌, ◌≤◌, ◌∙◌, length, arith}
use Rattle.frac_rows.proofs.WholeRows.{piece_within}
use Rattle.frac_rows.proofs.FirstRows.{first_more}
use Rattle.frac_rows.proofs.starts.write_rows.Goals as goal

pub loop-i-preserved : goal.loop-i-preserved
loop-i-preserved c =
    let n = length c.args.rights.now in
    let within : c.loop-i.i * (n + 2) + (n + 2) ≤ length c.loop-i.numbers =
    piece_within (n + 2) (n + 1) c.loop-i.i c.loop-i.numbers (c.loop-i.auto.numbers ∙ c.requires.long) (omega (arith, c.loop-i-test.true)) in
    first_more c.args.rights.now c.loop-i.i _ c.loop-i.numbers c.write_row.new.out (omega (arith, within)) c.loop-i.invariant c.write_row.ensures
