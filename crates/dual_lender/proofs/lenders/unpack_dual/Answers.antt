use Rattle.std.proofs.Common.{arith}
use Rattle.std.proofs.lemmas.List.Elements.{All-get_or}
use Rattle.hub_spec.specs.Ranges.{IsDualInRange}
use Rattle.hub_spec.proofs.Commodities.{commodity_index}
use Rattle.dual_lender.specs.Lenders.{no_dual}
use Rattle.dual_lender.proofs.Lending.{few_listed}
use Rattle.dual_lender.proofs.lenders.unpack_dual.Goals as goal

pub unpack-requires : goal.unpack-requires
unpack-requires c =
    let n = c.args.instance.now.size in
    let t = c.commodity_number-number.result in
    let below = commodity_index n c.args.i c.args.j c.requires.origin c.requires.destination in
    let is = All-get_or (IsDualInRange n) c.args.cut.now.duals t no_dual
    (omega (arith, c.requires.cut.one_for_each, c.commodity_number-number.ensures.value, below)) c.requires.cut.each in
    let few = few_listed n c.dual.result (rw c.dual.ensures is) in
    omega (arith, few, c.requires.room)
