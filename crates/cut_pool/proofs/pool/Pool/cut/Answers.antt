use Rattle.std.proofs.Common.{ap, sym, subst, ◌∙◌, arith}
use Rattle.cut_pool.specs.Entries.{PoolState, entry_at, IsNumber}
use Rattle.cut_pool.proofs.Entered.{place_within, cut_read}
use Rattle.cut_pool.proofs.pool.Pool.cut.Goals as goal

pub offset_bounds-cuts-c : goal.offset_bounds-cuts-c
offset_bounds-cuts-c c =
    let number = subst (λ (p : PoolState). IsNumber p.entries c.args.c) (sym c.self.view_is) c.requires in
    omega (arith, place_within c.self.inside c.self.invariant c.args.c number, c.self.invariant.most)

pub bounds-cuts-c : goal.bounds-cuts-c
bounds-cuts-c c =
    let number = subst (λ (p : PoolState). IsNumber p.entries c.args.c) (sym c.self.view_is) c.requires in
    omega (arith, place_within c.self.inside c.self.invariant c.args.c number, c.cuts.ensures.long)

pub returns : goal.returns
returns c =
    let number = subst (λ (p : PoolState). IsNumber p.entries c.args.c) (sym c.self.view_is) c.requires in
    cut_read c.self.inside c.self.invariant c.args.c number c.cuts.result.now c.index-cuts-c.result c.cuts.ensures.value c.index-cuts-c.is
    ∙ ap (λ (p : PoolState). (entry_at p.entries c.args.c).cut) c.self.view_is
