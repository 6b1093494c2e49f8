use Rattle.std.proofs.Common.{◌≡◌, ◌+◌, ◌/◌, ◌≤◌, ◌==◌, ◌++◌, ◌∷◌, [], max, List, length, map, ap, ap₂, subst, sym, ◌∙◌, arith}
use Rattle.cut_pool.specs.Kept.{Kept, kept_of, kept_set, kept_part}
use Rattle.cut_pool.specs.Entries.{PoolState, Entry, most_unit, kept_most}
use Rattle.cut_pool.specs.PoolCuts.{sets_of}
use Rattle.cut_pool.specs.Ordered.{IsIndex}
use Rattle.cut_pool.specs.PoolParts.{spare_of, state_of}
use Rattle.cut_pool.specs.Shorts.{unit_row}
use Rattle.cut_pool.specs.Stated.{PartSums}
use Rattle.cut_pool.specs.Units.{kept_row}
use Rattle.cut_pool.proofs.Grown.{HasGrown, spare_number, pool_more, entries_more, spare_more, none_of_these, on_ok_at}
use Rattle.cut_pool.proofs.Entered.{length-entries}
use Rattle.cut_pool.proofs.ShortRows.{short_more}
use Rattle.cut_pool.proofs.UnitSums.{units_more, most_more, stated_most}
use Rattle.cut_pool.proofs.pool.Pool.add_stated.Goals as goal
use Rattle.cut_pool.proofs.pool.Pool.add_stated.Goals.{After-put-2}

pub index_next-requires-clause-first_time : goal.index_next-requires-clause-first_time
index_next-requires-clause-first_time c = λ hubs of.
    let entries : (state_of c.self.inside).entries ≡ c.args.self.now.entries =
    ap (λ (p : PoolState). p.entries) c.self.view_is ∙ c.reserve.ensures.entries in
    none_of_these c.self.inside c.self.invariant c.cuts.result.now c.cuts.ensures.value hubs (rw entries (c.requires.first_time hubs of))

-- what the cut becomes
abbrev entry : After-put-2 → Entry
entry c = record { cut = kept_of c.args.cut; total = c.args.sums.total; loads = c.args.sums.loads }

part_is : (c : After-put-2) → c.sums.inside.part ≡ kept_part (kept_of c.args.cut)
part_is c = ap (λ (s : PartSums). s.part) c.sums.view_is ∙ c.requires.part

total_is : (c : After-put-2) → c.sums.inside.total ≡ c.args.sums.total
total_is c = ap (λ (s : PartSums). s.total) c.sums.view_is

loads_are : (c : After-put-2) → c.sums.inside.loads.items ≡ c.args.sums.loads
loads_are c = ap (λ (s : PartSums). s.loads) c.sums.view_is

units_are : (c : After-put-2) → c.unit_loads.result.now ≡ unit_row (entry c)
units_are c = c.unit_loads.ensures ∙ ap (λ part. map (λ u. u / part) c.args.sums.loads) c.requires.part

grown : (c : After-put-2)
    → HasGrown c.self.inside
    (record {
      cuts = c.put-2.new.self;
      by_set = c.index_next.new.by_set;
      short = c.with_cut.result;
      units = c.put.new.self;
      most_load = c.max-self-inside.result;
    })
    (entry c)
grown c =
    let s = c.self.inside in
    let es = (state_of s).entries in
    let e = entry c in
    let total = total_is c in
    let loads = loads_are c in
    let unit_total = c.sums.invariant.total ∙ ap₂ (λ t part. t / part) total (part_is c) in
    let most : c.sums.inside.most ≡ kept_most e.cut e.loads =
    c.sums.invariant.most ∙ (λ i. most_unit (part_is c i) (loads i)) ∙ sym (stated_most e.cut e.loads c.requires.stated) in
    record {
      kept = c.put-2.ensures.kept
          ∙ (λ i. record {
            cuts = s.cuts.kept.cuts ++ e.cut ∷ [];
            totals = s.cuts.kept.totals ++ total i ∷ [];
            loads = s.cuts.kept.loads ++ loads i ∷ [];
          });
      short = short_more es e s.short c.take.result c.with_cut.result (c.len-place.result == 0) c.unit_loads.result.now c.self.invariant.short
          c.take.ensures.value c.with_cut.ensures (ap (λ n. n == 0) (c.len-place.ensures ∙ sym (length-entries s c.self.invariant)))
          (units_are c);
      units = units_more es e s.units _ _ _ c.self.invariant.units c.put.ensures.totals c.put.ensures.rows unit_total
          (c.sums.invariant.row ∙ ap₂ kept_row (part_is c) loads);
      greatest = c.max-self-inside.ensures ∙ ap₂ max c.self.invariant.greatest most ∙ sym (most_more es e);
    }

entries_before : (c : After-put-2) → (state_of c.self.inside).entries ≡ c.args.self.now.entries
entries_before c = ap (λ (p : PoolState). p.entries) c.self.view_is ∙ c.reserve.ensures.entries

pub invariant_of-self : goal.invariant_of-self
invariant_of-self c =
    let s = c.self.inside in
    let k = kept_of c.args.cut in
    let after = (goal.at.invariant_of-self c).After-put-2 in
    let room : 1 ≤ spare_of s = subst (λ (p : PoolState). 1 ≤ p.spare) (sym c.self.view_is) c.in-Ok.ensures.spare in
    let index : IsIndex (sets_of s.cuts.kept.cuts ++ kept_set k ∷ []) c.index_next.new.by_set.items =
    subst (λ (ks : List Kept). IsIndex (sets_of ks ++ kept_set k ∷ []) c.index_next.new.by_set.items) c.cuts.ensures.value
    c.index_next.ensures.index in
    pool_more _ _ (entry after) c.self.invariant (grown after) index
    (λ hubs of. rw (entries_before after) (c.requires.first_time hubs of)) (spare_number s room)

pub returns-clause-number : goal.returns-clause-number
returns-clause-number c =
    ap (λ n. n + 1)
    (c.len-place.ensures ∙ sym (length-entries c.self.inside c.self.invariant)
    ∙ ap length (entries_before (goal.at.returns-clause-number c).After-put-2))

pub returns-clause-added : goal.returns-clause-added
returns-clause-added c =
    let after = (goal.at.returns-clause-added c).After-put-2 in
    entries_more _ _ (entry after) c.self.invariant (grown after) ∙ ap (λ es. es ++ entry after ∷ []) (entries_before after)

pub returns-clause-spare : goal.returns-clause-spare
returns-clause-spare c =
    let after = (goal.at.returns-clause-spare c).After-put-2 in
    let more = spare_more _ _ (entry after) c.self.invariant (grown after) c.put-2.ensures.spare c.index_next.ensures.room c.put.ensures.spare in
    let before : spare_of c.self.inside ≡ c.reserve.new.self.spare = ap (λ (p : PoolState). p.spare) c.self.view_is in
    omega (arith, c.reserve.ensures.kept, before, more)
