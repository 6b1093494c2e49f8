use Rattle.std.proofs.Common.{◌<◌, length, get_or, slice_index, sym, ap, subst, ◌∙◌, arith}
use Rattle.std.proofs.lemmas.Grind.{get_or_default_zero}
use Rattle.cut_pool.specs.Entries.{PoolState, entry_at, IsNumber}
use Rattle.cut_pool.proofs.Entered.{place_within, loads_read}
use Rattle.cut_pool.proofs.pool.Pool.load.Goals as goal

pub offset_bounds-loads-c : goal.offset_bounds-loads-c
offset_bounds-loads-c c =
    let number = subst (λ (p : PoolState). IsNumber p.entries c.args.c) (sym c.self.view_is) c.requires.number in
    omega (arith, place_within c.self.inside c.self.invariant c.args.c number, c.self.invariant.most)

pub bounds-loads-c : goal.bounds-loads-c
bounds-loads-c c =
    let number = subst (λ (p : PoolState). IsNumber p.entries c.args.c) (sym c.self.view_is) c.requires.number in
    omega (arith, place_within c.self.inside c.self.invariant c.args.c number, c.loads.ensures.long)

pub index-requires : goal.index-requires
index-requires c =
    let number = subst (λ (p : PoolState). IsNumber p.entries c.args.c) (sym c.self.view_is) c.requires.number in
    let node = subst (λ (p : PoolState). c.args.k < length (entry_at p.entries c.args.c).loads) (sym c.self.view_is) c.requires.node in
    let read =
    loads_read c.self.inside c.self.invariant c.args.c number c.loads.result.now c.index-loads-c.result c.loads.ensures.value c.index-loads-c.is in
    omega (arith, node, ap length read, c.index-loads-c.result.ok.0)

pub returns : goal.returns
returns c =
    let number = subst (λ (p : PoolState). IsNumber p.entries c.args.c) (sym c.self.view_is) c.requires.number in
    let node = subst (λ (p : PoolState). c.args.k < length (entry_at p.entries c.args.c).loads) (sym c.self.view_is) c.requires.node in
    let read =
    loads_read c.self.inside c.self.invariant c.args.c number c.loads.result.now c.index-loads-c.result c.loads.ensures.value c.index-loads-c.is in
    c.index.ensures ∙ ap (λ us. get_or us c.args.k c.index.result.now) read ∙ get_or_default_zero _ c.args.k c.index.result.now node
    ∙ ap (λ (p : PoolState). slice_index (entry_at p.entries c.args.c).loads c.args.k) c.self.view_is
