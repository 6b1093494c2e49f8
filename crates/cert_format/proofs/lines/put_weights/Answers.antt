use Rattle.std.proofs.Common.{ℕ, ap, is_ok, is_err, ◌∷◌, [], flat_map, arith}
use Rattle.cert_format.specs.Spaced.{spaced}
use Rattle.cert_format.proofs.Following.{list_more, list_stop, list_end}
use Rattle.cert_format.proofs.lines.put_weights.Goals as goal

pub returns-in_err-put_pair : goal.returns-in_err-put_pair
returns-in_err-put_pair g c =
    list_stop (0, 0) c.loop-at.invariant c.put_pair.ensures (ap is_err c.in_err-put_pair.was) c.from_residual.ensures.0 (omega arith)
    (ap (λ (e : ℕ × ℕ). flat_map spaced (e.0 ∷ e.1 ∷ [])) c.weight-cut.ensures)

pub loop-at-preserved : goal.loop-at-preserved
loop-at-preserved g c =
    list_more (0, 0) c.loop-at.invariant c.put_pair.ensures (ap is_ok c.in_ok-put_pair.was) (omega arith)
    (ap (λ (e : ℕ × ℕ). flat_map spaced (e.0 ∷ e.1 ∷ [])) c.weight-cut.ensures)

pub returns : goal.returns
returns g c = list_end c.loop-at.invariant (omega arith)
