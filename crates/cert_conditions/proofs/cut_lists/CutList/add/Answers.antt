use Rattle.std.proofs.Common.{◌∙◌, arith}
use Rattle.cert_conditions.proofs.Loads.{last_written}
use Rattle.cert_conditions.proofs.cut_lists.CutList.add.Goals as goal

pub returns : goal.returns
returns c = λ front last e.
    last_written c.self.inside.sums.items front last _ c.index_mut.result.now c.add.new.self c.len-at.result c.args.run (record { a = c.args.price; u = c.args.values.now })
    (omega (arith, c.len-at.ensures, c.self.inside.sums.ok.0)) (c.self.view_is ∙ e) c.index_mut.ensures.value c.add.ensures
