use Rattle.std.proofs.Common.{◌∙◌, pos, sym, arith}
use Rattle.std.proofs.lemmas.List.{ext_get_or}
use Rattle.frac_rows.specs.Starts.{own_numbers}
use Rattle.frac_rows.proofs.FirstRows.{length-own_numbers}
use Rattle.frac_rows.proofs.starts.write_row.Goals as goal

pub returns : goal.returns
returns c =
    ext_get_or (pos 0) c.loop-k.out (own_numbers c.args.rights.now c.args.i)
    (c.loop-k.auto.out ∙ c.requires ∙ sym (length-own_numbers c.args.rights.now c.args.i))
    (λ j low. c.loop-k.invariant j (omega (arith, c.loop-k.auto.out)))
