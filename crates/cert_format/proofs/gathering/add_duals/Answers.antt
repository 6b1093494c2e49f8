use Rattle.std.proofs.Common.{replicate, rules}
use Rattle.std.proofs.lemmas.Result.{IfOk-weaker}
use Rattle.cert_format.proofs.LastCut.{duals_added}
use Rattle.cert_format.proofs.gathering.add_duals.Goals as goal

pub returns : goal.returns
returns c =
    IfOk-weaker c.add_listed.result _ _
    (λ x is. duals_added c.args.cuts.now.items c.len-last.result _ c.index_mut.result.now c.add_listed.new.self (replicate c.args.run (record { a = c.args.price; u = c.args.values.now }))
    (search rules) (search rules) c.index_mut.ensures.value is)
    c.add_listed.ensures
