use Rattle.std.proofs.Common.{length, ap, sym, ◌∙◌}
use Rattle.cut_pool.specs.Entries.{PoolState}
use Rattle.cut_pool.proofs.Entered.{length-entries}
use Rattle.cut_pool.proofs.pool.Pool.len.Goals as goal

pub returns : goal.returns
returns c =
    c.len.ensures ∙ sym (length-entries c.self.inside c.self.invariant) ∙ ap (λ (p : PoolState). length p.entries) c.self.view_is
