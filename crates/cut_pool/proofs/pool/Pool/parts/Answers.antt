use Rattle.std.proofs.Common.{map, ap, sym, ◌∙◌}
use Rattle.cut_pool.specs.Kept.{kept_part}
use Rattle.cut_pool.specs.Entries.{PoolState, entry_part}
use Rattle.cut_pool.proofs.Columns.{map-map}
use Rattle.cut_pool.proofs.Entered.{pool_columns}
use Rattle.cut_pool.proofs.pool.Pool.parts.Goals as goal

pub returns : goal.returns
returns c =
    c.parts.ensures.value ∙ ap (map kept_part) (sym (pool_columns c.self.inside c.self.invariant).cuts) ∙ map-map kept_part (λ e. e.cut) _
    ∙ ap (λ (p : PoolState). map entry_part p.entries) c.self.view_is
