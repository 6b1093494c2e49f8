use Rattle.std.proofs.Common.{map, sym, ap, ◌∙◌}
use Rattle.cut_pool.specs.Entries.{PoolState}
use Rattle.cut_pool.proofs.Entered.{pool_columns}
use Rattle.cut_pool.proofs.pool.Pool.totals.Goals as goal

pub returns : goal.returns
returns c =
    c.totals.ensures.value ∙ sym (pool_columns c.self.inside c.self.invariant).totals
    ∙ ap (λ (p : PoolState). map (λ e. e.total) p.entries) c.self.view_is
