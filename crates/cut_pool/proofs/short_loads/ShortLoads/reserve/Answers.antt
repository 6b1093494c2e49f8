use Rattle.std.proofs.Common.{◌≡◌, ℕ, List, map, set, ap, ap₂, ◌∙◌, Vec, Global}
use Rattle.std.proofs.Math.Seq.{map-set_same}
use Rattle.cut_pool.specs.Shorts.{Shorts}
use Rattle.cut_pool.proofs.short_loads.ShortLoads.reserve.Goals as goal
use Rattle.cut_pool.proofs.short_loads.ShortLoads.reserve.Goals.{After-reserve}

rows_kept : (c : After-reserve)
    → map (λ (v : Vec ℕ Global). v.items) (set c.loop-k.self-inside.rows.items c.loop-k.k c.reserve.new.self) ≡ c.args.self.now.rows
rows_kept c =
    let items = λ (v : Vec ℕ Global). v.items in
    map-set_same items c.loop-k.self-inside.rows.items c.loop-k.k c.reserve.new.self c.index_mut.result.now
    (c.reserve.ensures.items ∙ ap items c.index_mut.ensures.value)
    ∙ c.loop-k.invariant.rows

pub returns-in_err-reserve : goal.returns-in_err-reserve
returns-in_err-reserve c =
    let shorts = λ (h : ℕ) (rows : List (List ℕ)). let s : Shorts = record { halvings = h; rows = rows } in s in
    ap₂ shorts c.loop-k.invariant.halvings (rows_kept (goal.at.returns-in_err-reserve c).After-reserve)

pub loop-k-preserved : goal.loop-k-preserved
loop-k-preserved c = record {
  halvings = c.loop-k.invariant.halvings;
  rows = rows_kept (goal.at.loop-k-preserved c).After-reserve;
  few = c.loop-k.invariant.few;
}
