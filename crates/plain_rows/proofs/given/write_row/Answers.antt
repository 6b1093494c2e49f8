use Rattle.std.proofs.Common.{◌∙◌, ◌≤◌, pos, unsigned_abs, arith}
use Rattle.std.proofs.lemmas.List.Elements.{All-from_get_or}
use Rattle.frac_rows.specs.Rows.{widest}
use Rattle.plain_rows.proofs.given.write_row.Goals as goal

pub returns : goal.returns
returns c = record {
  long = c.loop-k.auto.out ∙ c.requires.room;
  narrow =
      All-from_get_or (λ x. unsigned_abs x ≤ widest) c.loop-k.out (pos 0)
      (λ j low. c.loop-k.invariant.size j (omega (arith, low, c.loop-k-test.false)));
  each = λ j low. c.loop-k.invariant.each j (omega (arith, low, c.loop-k-test.false, c.loop-k.auto.out, c.requires.room));
}
