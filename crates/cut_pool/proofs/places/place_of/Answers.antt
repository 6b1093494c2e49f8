use Rattle.std.proofs.Common.{◌≡◌, ◌+◌, ◌-◌, ◌/◌, ◌<◌, length, map, get_or, refl, sym, ap, ◌∙◌, arith}
use Rattle.std.specs.Ordering.{nat_cmp, is_lt}
use Rattle.std.specs.Cmp.Lexicographic.{slice_cmp}
use Rattle.std.proofs.lemmas.List.{get_or_default}
use Rattle.cut_pool.specs.Kept.{kept_of}
use Rattle.cut_pool.specs.PoolCuts.{sets_of}
use Rattle.cut_pool.specs.Ordered.{set_at}
use Rattle.cut_pool.proofs.IndexedCuts.{of_set_indexed, set_indexed}
use Rattle.cut_pool.proofs.Indexes.{search_above, search_below, tested}
use Rattle.cut_pool.proofs.places.place_of.Goals as goal
use Rattle.cut_pool.proofs.places.place_of.Goals.{After-is_lt}

pub hubs_of-members-requires : goal.hubs_of-members-requires
hubs_of-members-requires c =
    let index = c.args.by_set.now in
    let middle = c.loop-low.low + (c.loop-low.high - c.loop-low.low) / 2 in
    let within : middle < length index = omega (arith, c.loop-low.invariant.most) in
    of_set_indexed c.args.cuts.now (map kept_of c.args.cuts.now) index middle (get_or index middle 0) c.index-cuts-by_set.result refl
    c.requires within (get_or_default index middle 0 (get_or index middle 0) within) c.index-cuts-by_set.is

-- what the comparison says of the set that the index has in the middle
told : (c : After-is_lt)
    → c.is_lt.result
    ≡ is_lt
    (slice_cmp nat_cmp
    (set_at (sets_of (map kept_of c.args.cuts.now)) c.args.by_set.now (c.loop-low.low + (c.loop-low.high - c.loop-low.low) / 2))
    c.args.hubs.now)
told c =
    let index = c.args.by_set.now in
    let ks = map kept_of c.args.cuts.now in
    let x = c.index-cuts-by_set.result in
    let middle = c.loop-low.low + (c.loop-low.high - c.loop-low.low) / 2 in
    let within : middle < length index = omega (arith, c.loop-low.invariant.most) in
    let there =
    set_indexed c.args.cuts.now ks index middle (get_or index middle 0) x refl c.requires within
    (get_or_default index middle 0 (get_or index middle 0) within) c.index-cuts-by_set.is _ c.hubs_of-members.ensures in
    c.is_lt.ensures ∙ ap is_lt c.cmp.ensures
    ∙ tested (sets_of ks) index c.args.hubs.now middle _ _ there refl

pub loop-low-preserved-then-is_lt : goal.loop-low-preserved-then-is_lt
loop-low-preserved-then-is_lt c =
    let middle = c.loop-low.low + (c.loop-low.high - c.loop-low.low) / 2 in
    search_above _ _ _ _ _ middle c.requires c.loop-low.invariant (omega arith)
    (sym (told (goal.at.loop-low-preserved-then-is_lt c).After-is_lt) ∙ c.if-is_lt.true)

pub loop-low-preserved : goal.loop-low-preserved
loop-low-preserved c =
    let middle = c.loop-low.low + (c.loop-low.high - c.loop-low.low) / 2 in
    search_below _ _ _ _ _ middle c.requires c.loop-low.invariant (omega arith) (omega arith)
    (sym (told (goal.at.loop-low-preserved c).After-is_lt) ∙ c.if-is_lt.false)
