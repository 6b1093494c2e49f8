use Rattle.std.proofs.Common.{ap, ◌∙◌, is_ok, nat_abs, SFits, to_z-of_z, rules}
use mir.Syntax.{w128}
use Rattle.text_spec.specs.Fixed.{fixed_text}
use Rattle.dec_text.proofs.PutPieces.{finish_text}
use Rattle.dec_text.proofs.numbers.put_fixed.Goals as goal

pub returns : goal.returns
returns g c =
    let fits : SFits w128 c.args.value = search rules in
    finish_text _ _ _ _ _ _ _ _ _ _ (ap (fixed_text c.args.places) (c.unsigned_abs.ensures.value ∙ ap nat_abs (to_z-of_z fits)))
    (ap is_ok c.in_ok-put_with_point.was) c.new-buffer.ensures c.finish.ensures.none_waits c.put_with_point.ensures c.finish.ensures.through
