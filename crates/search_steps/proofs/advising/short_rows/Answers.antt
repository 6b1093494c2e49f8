use Rattle.std.proofs.Common.{ℕ, Vec, Global, map}
use Rattle.search_steps.proofs.PoolNumbers.{short_lent}
use Rattle.search_steps.proofs.advising.short_rows.Goals as goal

pub returns : goal.returns
returns c =
    short_lent c.args.pool.now.entries c.in_ok-short.short.now c.halvings.result (map (λ (v : Vec ℕ Global). v.items) c.rows.result.now)
    c.in_ok-short.ensures c.rows.ensures c.halvings.ensures.value
