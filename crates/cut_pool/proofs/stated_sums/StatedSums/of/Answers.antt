use Rattle.cut_pool.proofs.NodeLoads.{loads_are}
use Rattle.cut_pool.proofs.stated_sums.StatedSums.of.Goals as goal

pub returns : goal.returns
returns c =
    let sums = c.in_ok-loads.ensures in
    let loads = loads_are c.args.size c.args.cut.now c.in_ok-loads.loads.items sums.long (λ k _. sums.are k) in
    λ i. record { part = c.part-part.ensures i; total = c.total-total.ensures i; loads = loads i }
