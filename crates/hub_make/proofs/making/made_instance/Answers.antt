use Rattle.std.proofs.Common.{◌∙◌}
use Rattle.hub_make.proofs.Made.{made_short, one_made, never_refused}
use Rattle.hub_make.proofs.making.made_instance.Goals as goal

pub read_instance-requires-clause-not_too_long : goal.read_instance-requires-clause-not_too_long
read_instance-requires-clause-not_too_long c =
    made_short c.args.seed c.args.size c.requires.size_least c.requires.size_most c.as_slice.result.now (c.as_slice.ensures.value ∙ c.in_ok-text.ensures.text)

pub returns-in-Ok : goal.returns-in-Ok
returns-in-Ok c =
    one_made c.args.seed c.args.size c.requires.size_least c.requires.size_most c.fixed_tail.result c.as_slice.result.now c.in-Ok.instance c.fixed_tail.ensures
    (c.as_slice.ensures.value ∙ c.in_ok-text.ensures.text) c.in-Ok.ensures.given

pub unreachable-requires : goal.unreachable-requires
unreachable-requires c =
    never_refused c.args.seed c.args.size c.requires.size_least c.requires.size_most c.fixed_tail.result c.as_slice.result.now c.in-Err-Fault.field-0
    c.in-Err-Fault.field-0-0 c.fixed_tail.ensures (c.as_slice.ensures.value ∙ c.in_ok-text.ensures.text) c.in-Err-Fault.field-0-is
    c.in-Err-Fault.ensures.refused
