use Rattle.std.proofs.Common.{◌∙◌, length}
use Rattle.plain_rows.proofs.Choices.{last_but_one, leaves_is}
use Rattle.plain_rows.proofs.choosing.leaves_before.Goals as goal

pub returns : goal.returns
returns c =
    let one = c.candidate_of-one.ensures in
    let other = c.candidate_of-other.ensures in
    let last = last_but_one c.part.result.now (length c.args.outside.now) c.part.ensures.long in
    let last_other = last_but_one c.part-2.result.now (length c.args.outside.now) c.part-2.ensures.long in
    rw (one.right ∙ last, one.number, one.basic, other.right ∙ last_other, other.number, other.basic) at c.is_sooner.ensures
    ∙ leaves_is c.args.outside.now c.args.numbers.now c.args.basis.now c.args.place c.args.i c.args.j c.part.result.now c.part-2.result.now
    c.requires.stored c.requires.place c.requires.row c.requires.other_row c.part.ensures.value c.part-2.ensures.value
