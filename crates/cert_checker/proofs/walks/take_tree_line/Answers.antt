use Rattle.std.proofs.Common.{[], ◌∷◌, refl, sym, subst}
use Rattle.std.specs.Prelude.{IfOk}
use Rattle.hub_model.specs.Lines.{tree_line_of}
use Rattle.hub_model.specs.declared.tree_lines.TreeLine.{TreeLine}
use Rattle.hub_model.specs.declared.tree_lines.TreeLine.TheVariants.{BranchOn, Empty, Block, Count}
use Rattle.cert_spec.specs.Lines.{Item, says_tree}
use Rattle.cert_conditions.specs.ListLines.{MayTakeLines, TakesLines}
use Rattle.cert_checker.specs.Walks.{HasSmallDenominator}
use Rattle.cert_checker.proofs.walks.take_tree_line.Goals as goal

-- the line that it says
abbrev says : TreeLine → Item
says line = says_tree (tree_line_of line)

pub take_alone-requires : goal.take_alone-requires
take_alone-requires c =
    (says (BranchOn c.in-BranchOn.k), refl, subst (λ (l : TreeLine). MayTakeLines c.args.checks.now (says l ∷ [])) c.in-BranchOn.is c.requires.may)

pub returns-in-BranchOn-clause-taken : goal.returns-in-BranchOn-clause-taken
returns-in-BranchOn-clause-taken c =
    subst (λ (l : TreeLine). IfOk c.take_alone.result (λ _. TakesLines c.args.checks.now (says l ∷ []) c.take_alone.new.self)) (sym c.in-BranchOn.is)
    (c.take_alone.ensures.taken (says (BranchOn c.in-BranchOn.k)) refl)

pub take_leaf-requires-clause-denom : goal.take_leaf-requires-clause-denom
take_leaf-requires-clause-denom c = subst (λ (l : TreeLine). HasSmallDenominator (tree_line_of l)) c.in-Leaf.is c.requires.line

pub take_leaf-requires-clause-may : goal.take_leaf-requires-clause-may
take_leaf-requires-clause-may c = subst (λ (l : TreeLine). MayTakeLines c.args.checks.now (says l ∷ [])) c.in-Leaf.is c.requires.may

pub returns-in-Leaf-clause-taken : goal.returns-in-Leaf-clause-taken
returns-in-Leaf-clause-taken c =
    subst (λ (l : TreeLine). IfOk c.take_leaf.result (λ _. TakesLines c.args.checks.now (says l ∷ []) c.take_leaf.new.checks)) (sym c.in-Leaf.is)
    c.take_leaf.ensures.taken

pub take_alone-requires-in-Empty : goal.take_alone-requires-in-Empty
take_alone-requires-in-Empty c =
    (says Empty, refl, subst (λ (l : TreeLine). MayTakeLines c.args.checks.now (says l ∷ [])) c.in-Empty.is c.requires.may)

pub returns-in-Empty-clause-taken : goal.returns-in-Empty-clause-taken
returns-in-Empty-clause-taken c =
    subst (λ (l : TreeLine). IfOk c.take_alone-in-Empty.result (λ _. TakesLines c.args.checks.now (says l ∷ []) c.take_alone-in-Empty.new.self)) (sym c.in-Empty.is)
    (c.take_alone-in-Empty.ensures.taken (says Empty) refl)

pub take_alone-requires-in-Block : goal.take_alone-requires-in-Block
take_alone-requires-in-Block c =
    (says (Block c.in-Block.i c.in-Block.j), refl, subst (λ (l : TreeLine). MayTakeLines c.args.checks.now (says l ∷ [])) c.in-Block.is c.requires.may)

pub returns-in-Block-clause-taken : goal.returns-in-Block-clause-taken
returns-in-Block-clause-taken c =
    subst (λ (l : TreeLine). IfOk c.take_alone-in-Block.result (λ _. TakesLines c.args.checks.now (says l ∷ []) c.take_alone-in-Block.new.self)) (sym c.in-Block.is)
    (c.take_alone-in-Block.ensures.taken (says (Block c.in-Block.i c.in-Block.j)) refl)

pub take_alone-requires-in-Count : goal.take_alone-requires-in-Count
take_alone-requires-in-Count c =
    (says Count, refl, subst (λ (l : TreeLine). MayTakeLines c.args.checks.now (says l ∷ [])) c.in-Count.is c.requires.may)

pub returns-in-Count-clause-taken : goal.returns-in-Count-clause-taken
returns-in-Count-clause-taken c =
    subst (λ (l : TreeLine). IfOk c.take_alone-in-Count.result (λ _. TakesLines c.args.checks.now (says l ∷ []) c.take_alone-in-Count.new.self)) (sym c.in-Count.is)
    (c.take_alone-in-Count.ensures.taken (says Count) refl)
