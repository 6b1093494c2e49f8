use Rattle.std.proofs.Common.{◌+◌, length, FitsSigned, refl, arith, rules}
use Rattle.std.specs.Int.{w64}
use Rattle.std.proofs.lemmas.Int.{to_z-of_z}
use Rattle.frac_rows.specs.Rows.{number}
use Rattle.plain_rows.proofs.SpreadWrites.{AreSpread, spread_written}
use Rattle.plain_rows.proofs.entries.write_spread.Goals as goal

pub returns : goal.returns
returns c =
    let n = length c.args.outside.now in
    let own : FitsSigned w64 (number c.args.kept.now (n + 1)) = search rules in
    let right : FitsSigned w64 (number c.args.kept.now n) = search rules in
    let written : AreSpread c.args.outside.now c.args.kept.now n c.loop-c.out = record {
      placed = λ a l. c.loop-c.invariant.placed a (omega (arith, l, c.loop-c-test.false));
      others = λ k none. c.loop-c.invariant.others k (λ a l. none a (omega (arith, l, c.loop-c.auto.c-end)));
    } in
    rw (to_z-of_z w64 (number c.args.kept.now (n + 1)) own, to_z-of_z w64 (number c.args.kept.now n) right)
    (spread_written c.args.outside.now c.args.owner c.args.v n c.args.kept.now c.loop-c.out refl c.requires.columns c.requires.long
    (omega (arith, c.loop-c.auto.out, c.requires.room)) written)
