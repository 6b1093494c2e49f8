use Rattle.std.proofs.Common.{ℕ, [], ◌∷◌, sym, subst}
use Rattle.std.specs.Prelude.{IfOk}
use Rattle.hub_spec.specs.Trees.{leaf_of}
use Rattle.cert_spec.specs.Lines.{says_tree}
use Rattle.cert_conditions.specs.ListLines.{MayTakeLines, TakesLines}
use Rattle.cert_checker.proofs.walks.take_leaf.Goals as goal

pub take_line-requires-clause-may : goal.take_line-requires-clause-may
take_line-requires-clause-may c =
    let mix = c.args.mix.now in
    subst (λ (denom : ℕ). MayTakeLines c.args.checks.now (says_tree (leaf_of denom mix.weights) ∷ [])) (sym c.denominator-denom.ensures) c.requires.may

pub returns-clause-taken : goal.returns-clause-taken
returns-clause-taken c =
    let mix = c.args.mix.now in
    subst (λ (denom : ℕ). IfOk c.take_line.result (λ _. TakesLines c.args.checks.now (says_tree (leaf_of denom mix.weights) ∷ []) c.take_line.new.self))
    c.denominator-denom.ensures c.take_line.ensures.taken
