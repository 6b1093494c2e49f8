use Rattle.std.proofs.Common.{map, sym, ap, ◌∙◌}
use Rattle.cut_pool.specs.Kept.{KeptList}
use Rattle.cut_pool.specs.Entries.{PoolState}
use Rattle.cut_pool.proofs.Entered.{pool_columns}
use Rattle.cut_pool.proofs.pool.Pool.into_cuts.Goals as goal

pub returns-clause-cuts : goal.returns-clause-cuts
returns-clause-cuts c =
    ap (λ (k : KeptList). k.cuts) c.of.ensures ∙ sym (pool_columns c.self.inside c.self.invariant).cuts
    ∙ ap (λ (p : PoolState). map (λ e. e.cut) p.entries) c.self.view_is

pub returns-clause-totals : goal.returns-clause-totals
returns-clause-totals c =
    ap (λ (k : KeptList). k.totals) c.of.ensures ∙ sym (pool_columns c.self.inside c.self.invariant).totals
    ∙ ap (λ (p : PoolState). map (λ e. e.total) p.entries) c.self.view_is

pub returns-clause-loads : goal.returns-clause-loads
returns-clause-loads c =
    ap (λ (k : KeptList). k.loads) c.of.ensures ∙ sym (pool_columns c.self.inside c.self.invariant).loads
    ∙ ap (λ (p : PoolState). map (λ e. e.loads) p.entries) c.self.view_is
