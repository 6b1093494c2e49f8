use Rattle.std.proofs.Common.{◌≡◌, ℕ, drop, ap, ◌∙◌, arith}
use Rattle.hub_spec.specs.Cuts.{value_at}
use Rattle.dual_lines.proofs.stated.set_amounts.Goals as goal

pub returns : goal.returns
returns c =
    let none : c.loop-left.left ≡ 0 = omega arith in
    record { amounts = λ k. c.loop-left.invariant.are k ∙ ap (λ m. value_at (drop m c.args.dual.now.u) k) none }
