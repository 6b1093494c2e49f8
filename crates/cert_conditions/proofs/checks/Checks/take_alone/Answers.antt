use Rattle.std.proofs.Common.{[], ◌∷◌, ◌++◌, flat_map, subst}
use Rattle.std.proofs.lemmas.Result.{IfOk-weaker}
use Rattle.cert_scan.specs.Parts.{parts_of}
use Rattle.cert_conditions.specs.Steps.{Steps}
use Rattle.cert_conditions.specs.Taken.{HasTaken}
use Rattle.cert_conditions.specs.ListLines.{TakesLines}
use Rattle.cert_conditions.proofs.Whole.{may_take_parted, has_taken}
use Rattle.cert_conditions.proofs.ListLines.{given_alone, parted_whole}
use Rattle.cert_conditions.proofs.checks.Checks.take_alone.Goals as goal

pub take_item-requires-clause-may : goal.take_item-requires-clause-may
take_item-requires-clause-may c =
    let line = c.requires.0 in
    let may = c.requires.2 in
    let lines = may.0 in
    let i = c.args.item in
    may_take_parted (flat_map parts_of lines) i c.args.self.now may.1
    (parted_whole (lines ++ line ∷ []) may.2.0 (flat_map parts_of lines ++ i ∷ []) may.2.1 (given_alone lines line i c.requires.1))

pub returns-clause-taken : goal.returns-clause-taken
returns-clause-taken c = λ line alone.
    let old = c.args.self.now in
    let new = c.take_item.new.self in
    let i = c.args.item in
    IfOk-weaker c.take_item.result (λ _. Steps old i new) (λ _. TakesLines old (line ∷ []) new)
    (λ _ h lines has can. subst (λ given. HasTaken given new) (given_alone lines line i alone) (has_taken (flat_map parts_of lines) i old new has h))
    c.take_item.ensures.steps
