use Rattle.std.proofs.Common.{ℤ, Vec, Global}
use Rattle.std.proofs.lemmas.List.Elements.{All-map}
use Rattle.plain_rows.specs.Plain.{IsConstraint}
use Rattle.test_cuts.proofs.masters.programs.are_constraints.Goals as goal

pub returns : goal.returns
returns c = λ is.
    All-map (IsConstraint c.args.variables) (λ (v : Vec ℤ Global). v.items) c.args.constraints.now (c.each_is_constraint.ensures is)
