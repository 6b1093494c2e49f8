use Rattle.std.proofs.Common.{◌∙◌, length, refl, arith}
use Rattle.std.specs.Int.{w64}
use Rattle.std.proofs.lemmas.Int.{to_z-of_z}
use Rattle.plain_rows.proofs.FirstRows.{written_is}
use Rattle.plain_rows.proofs.starts.write_row.Goals as goal

pub returns : goal.returns
returns c =
    rw (to_z-of_z w64 c.args.right c.ranges.right)
    (written_is c.args.row.now c.loop-k.out c.args.right (length c.args.row.now) refl (c.loop-k.auto.out ∙ c.requires.room)
    (λ j low. c.loop-k.invariant j (omega (arith, low, c.loop-k-test.false))))
