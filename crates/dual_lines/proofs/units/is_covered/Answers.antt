use Rattle.std.proofs.Common.{◌↔◌, IsTrue, All, subst}
use Rattle.hub_spec.specs.Problem.{Problem}
use Rattle.dual_lines.specs.Covers.{IsCoveredFirst}
use Rattle.dual_lines.proofs.units.is_covered.Goals as goal

pub returns-in-None : goal.returns-in-None
returns-in-None c =
    subst (λ (p : Problem). IsTrue c.is_covered_by_amounts.result
    ↔ All (IsCoveredFirst p c.args.line.part (c.args.line.from, c.args.line.to) c.args.line.price c.args.amounts.now) p.candidates) c.instance.ensures.value
    c.is_covered_by_amounts.ensures
