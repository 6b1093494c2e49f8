use Rattle.std.proofs.Common.{ap, is_ok, is_err, ◌∙◌, rules, pos, ◌∷◌, [], ◌+◌, get_or, flat_map, arith}
use Rattle.cert_format.specs.Spaced.{spaced}
use Rattle.cert_format.proofs.Amounts.{same_amount}
use Rattle.cert_format.proofs.Following.{list_more, list_stop, list_end}
use Rattle.cert_format.proofs.lines.put_values.Goals as goal

pub returns-in_err-put_pair : goal.returns-in_err-put_pair
returns-in_err-put_pair g c =
    list_stop (0, pos 0) c.loop-value.invariant c.put_pair.ensures (ap is_err c.in_err-put_pair.was) c.from_residual.ensures.0 (omega arith)
    (ap (λ x. flat_map spaced (((get_or c.args.values.now c.loop-value.value-index (0, pos 0)).0 + 1) ∷ x ∷ []))
    (c.unsigned-number.ensures.value ∙ same_amount (get_or c.args.values.now c.loop-value.value-index (0, pos 0)).1 (search rules)))

pub loop-value-preserved : goal.loop-value-preserved
loop-value-preserved g c =
    list_more (0, pos 0) c.loop-value.invariant c.put_pair.ensures (ap is_ok c.in_ok-put_pair.was) (omega arith)
    (ap (λ x. flat_map spaced (((get_or c.args.values.now c.loop-value.value-index (0, pos 0)).0 + 1) ∷ x ∷ []))
    (c.unsigned-number.ensures.value ∙ same_amount (get_or c.args.values.now c.loop-value.value-index (0, pos 0)).1 (search rules)))

pub returns : goal.returns
returns g c = list_end c.loop-value.invariant (omega arith)
