use Rattle.std.proofs.Common.{ℕ, Option, subst, sym, ◌∙◌}
use Rattle.std.specs.Prelude.{IfSome, IfOk}
use Rattle.core_spec.specs.CoreCuts.{Mark}
use Rattle.hub_spec.specs.Ranges.{IsCutInRange}
use Rattle.cert_spec.specs.Text.{cut_items_as}
use Rattle.cert_scan.specs.Versions.{version_number}
use Rattle.cert_format.specs.Parts.{HasProofs}
use Rattle.cert_conditions.specs.ListLines.{MayTakeLines, TakesLines}
use Rattle.cert_checker.specs.Walks.{IsKnownCut}
use Rattle.cert_checker.proofs.walks.take_cut.Goals as goal

pub known_part-known-requires-clause-cut : goal.known_part-known-requires-clause-cut
known_part-known-requires-clause-cut g c κs within = subst (λ (n : ℕ). IsCutInRange n c.args.cut.now) c.requires.size c.requires.cut

pub take_unmarked-requires-clause-known : goal.take_unmarked-requires-clause-known
take_unmarked-requires-clause-known g c =
    subst (λ (n : ℕ). IfSome c.known_part-known.result (IsKnownCut n c.args.checks.now.instance.now c.args.cut.now)) (sym c.requires.size) c.known_part-known.ensures

pub take_unmarked-requires-clause-may : goal.take_unmarked-requires-clause-may
take_unmarked-requires-clause-may g c =
    let v = version_number c.args.version in
    subst (λ (mark : Option Mark). MayTakeLines c.args.checks.now (cut_items_as v c.args.n c.args.x c.args.cut.now mark)) c.in-None.is c.requires.may

pub returns-in-None-clause-taken : goal.returns-in-None-clause-taken
returns-in-None-clause-taken g c =
    let v = version_number c.args.version in
    subst (λ (mark : Option Mark). IfOk c.take_unmarked.result (λ _. TakesLines c.args.checks.now (cut_items_as v c.args.n c.args.x c.args.cut.now mark) c.take_unmarked.new.checks))
    (sym c.in-None.is) c.take_unmarked.ensures.taken

pub take_marked-requires-clause-proved : goal.take_marked-requires-clause-proved
take_marked-requires-clause-proved g c =
    subst (λ (mark : Option Mark). HasProofs c.args.n mark) c.in-Some.is c.requires.proved ∙ sym c.requires.cut.one_for_each

pub take_marked-requires-clause-known : goal.take_marked-requires-clause-known
take_marked-requires-clause-known g c =
    subst (λ (n : ℕ). IfSome c.known_part-known.result (IsKnownCut n c.args.checks.now.instance.now c.args.cut.now)) (sym c.requires.size) c.known_part-known.ensures

pub take_marked-requires-clause-may : goal.take_marked-requires-clause-may
take_marked-requires-clause-may g c =
    let v = version_number c.args.version in
    subst (λ (mark : Option Mark). MayTakeLines c.args.checks.now (cut_items_as v c.args.n c.args.x c.args.cut.now mark)) c.in-Some.is c.requires.may

pub returns-in-Some-clause-taken : goal.returns-in-Some-clause-taken
returns-in-Some-clause-taken g c =
    let v = version_number c.args.version in
    subst (λ (mark : Option Mark). IfOk c.take_marked.result (λ _. TakesLines c.args.checks.now (cut_items_as v c.args.n c.args.x c.args.cut.now mark) c.take_marked.new.checks))
    (sym c.in-Some.is) c.take_marked.ensures.taken
