use Rattle.std.proofs.Common.{sym, ap, subst, ◌∙◌, arith}
use Rattle.cut_pool.specs.Entries.{PoolState, entry_at, IsNumber}
use Rattle.cut_pool.proofs.Columns.{column_at}
use Rattle.cut_pool.proofs.Entered.{pool_columns, place_within}
use Rattle.cut_pool.proofs.pool.Pool.total.Goals as goal

pub offset_bounds-totals-c : goal.offset_bounds-totals-c
offset_bounds-totals-c c =
    let number = subst (λ (p : PoolState). IsNumber p.entries c.args.c) (sym c.self.view_is) c.requires in
    omega (arith, place_within c.self.inside c.self.invariant c.args.c number, c.self.invariant.most)

pub bounds-totals-c : goal.bounds-totals-c
bounds-totals-c c =
    let number = subst (λ (p : PoolState). IsNumber p.entries c.args.c) (sym c.self.view_is) c.requires in
    omega (arith, place_within c.self.inside c.self.invariant c.args.c number, c.totals.ensures.long)

pub returns : goal.returns
returns c =
    let number = subst (λ (p : PoolState). IsNumber p.entries c.args.c) (sym c.self.view_is) c.requires in
    column_at (λ e. e.total) _ c.totals.result.now c.args.c 0 ((pool_columns c.self.inside c.self.invariant).totals ∙ sym c.totals.ensures.value) number
    ∙ ap (λ (p : PoolState). (entry_at p.entries c.args.c).total) c.self.view_is
