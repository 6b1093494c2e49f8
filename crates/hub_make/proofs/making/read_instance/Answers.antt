use Rattle.std.proofs.Common.{None}
use Rattle.std.proofs.lemmas.Result.{IfErr-weaker}
use Rattle.file_spec.specs.Instances.{build_fault}
use Rattle.hub_model.specs.Building.{IsRefusedFor}
use Rattle.file_spec.proofs.ListedHubs.{post_lists}
use Rattle.hub_make.specs.Refusals.{IsRefusedAlone}
use Rattle.hub_make.proofs.Made.{refused_whole}
use Rattle.hub_make.proofs.making.read_instance.Goals as goal

pub returns-clause-refused : goal.returns-clause-refused
returns-clause-refused c =
    let o = c.args.terms.now in
    let bytes = c.args.bytes.now in
    let contents = c.in_ok-parts.parts in
    IfErr-weaker c.build.result (IsRefusedFor (build_fault o contents None)) (IsRefusedAlone o bytes)
    (λ refusal is. refused_whole o bytes contents refusal c.requires.not_too_long c.in_ok-parts.ensures.contents is) c.build.ensures.refused

pub build-requires-clause-listed : goal.build-requires-clause-listed
build-requires-clause-listed c = λ listed. post_lists c.args.terms.now c.args.bytes.now c.in_ok-parts.parts c.in_ok-parts.ensures.contents
