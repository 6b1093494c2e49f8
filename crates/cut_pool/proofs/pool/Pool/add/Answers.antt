use Rattle.std.proofs.Common.{◌≡◌, ◌+◌, ◌≤◌, ◌==◌, ◌++◌, ◌∷◌, [], ℕ, List, length, Some, refl, ap, subst, sym, ◌∙◌, arith}
use Rattle.std.proofs.Math.Nat.{div-one}
use Rattle.cut_pool.specs.Kept.{Kept, by_set}
use Rattle.cut_pool.specs.Entries.{PoolState, entry_of, Lacks}
use Rattle.cut_pool.specs.PoolCuts.{sets_of}
use Rattle.cut_pool.specs.Ordered.{IsIndex}
use Rattle.cut_pool.specs.PoolParts.{spare_of, state_of}
use Rattle.cut_pool.proofs.Grown.{HasGrown, spare_number, pool_more, entries_more, spare_more, none_of_these, on_ok_at}
use Rattle.cut_pool.proofs.Entered.{length-entries}
use Rattle.cut_pool.proofs.ShortRows.{short_more}
use Rattle.cut_pool.proofs.UnitSums.{whole_row, units_more, most_more}
use Rattle.cut_pool.proofs.pool.Pool.add.Goals as goal
use Rattle.cut_pool.proofs.pool.Pool.add.Goals.{After-put-2}

some_same : (xs ys : List ℕ) → Some xs ≡ Some ys → xs ≡ ys
some_same xs ys h = cc

pub index_next-requires-clause-first_time : goal.index_next-requires-clause-first_time
index_next-requires-clause-first_time c = λ hubs of.
    let entries : (state_of c.self.inside).entries ≡ c.args.self.now.entries =
    ap (λ (p : PoolState). p.entries) c.self.view_is ∙ c.reserve.ensures.entries in
    none_of_these c.self.inside c.self.invariant c.cuts.result.now c.cuts.ensures.value hubs
    (subst (Lacks (state_of c.self.inside).entries) (sym c.into_parts-set.ensures.set ∙ some_same c.into_parts-set.result.0 hubs of)
    (rw entries c.requires))

grown : (c : After-put-2)
    → HasGrown c.self.inside
    (record {
      cuts = c.put-2.new.self;
      by_set = c.index_next.new.by_set;
      short = c.with_cut.result;
      units = c.put.new.self;
      most_load = c.self.inside.most_load;
    })
    (entry_of c.args.cut c.args.order.items)
grown c =
    let s = c.self.inside in
    let es = (state_of s).entries in
    let e = entry_of c.args.cut c.args.order.items in
    let sums = c.into_parts-set.ensures in
    let row = sym (whole_row c.args.cut.loads) in
    record {
      kept = c.put-2.ensures.kept
          ∙ (λ i. record {
            cuts = s.cuts.kept.cuts ++ by_set (sums.set i) c.args.order.items ∷ [];
            totals = s.cuts.kept.totals ++ sums.total i ∷ [];
            loads = s.cuts.kept.loads ++ sums.loads i ∷ [];
          });
      short = short_more es e s.short c.take.result c.with_cut.result (c.len-place.result == 0) c.deref.result.now c.self.invariant.short
          c.take.ensures.value c.with_cut.ensures (ap (λ n. n == 0) (c.len-place.ensures ∙ sym (length-entries s c.self.invariant)))
          (c.deref.ensures.value ∙ sums.loads ∙ row);
      units = units_more es e s.units _ _ _ c.self.invariant.units c.put.ensures.totals c.put.ensures.rows
          (sums.total ∙ sym (div-one c.args.cut.total)) c.new-row.ensures.items;
      greatest = let more = most_more es e in omega (arith, more, c.self.invariant.greatest);
    }

entries_before : (c : After-put-2) → (state_of c.self.inside).entries ≡ c.args.self.now.entries
entries_before c = ap (λ (p : PoolState). p.entries) c.self.view_is ∙ c.reserve.ensures.entries

pub invariant_of-self : goal.invariant_of-self
invariant_of-self c =
    let s = c.self.inside in
    let hubs = c.args.cut.hubs in
    let after = (goal.at.invariant_of-self c).After-put-2 in
    let lacks : Lacks (state_of s).entries hubs = rw (entries_before after) c.requires in
    let more : 1 ≤ c.reserve.new.self.spare =
    on_ok_at c.reserve.result (sym c.is_err.ensures.value ∙ c.if-is_err.false) c.reserve.ensures.spare in
    let room : 1 ≤ spare_of s = subst (λ (p : PoolState). 1 ≤ p.spare) (sym c.self.view_is) more in
    let index : IsIndex (sets_of s.cuts.kept.cuts ++ Some hubs ∷ []) c.index_next.new.by_set.items =
    subst (λ (xs : List ℕ). IsIndex (sets_of s.cuts.kept.cuts ++ Some xs ∷ []) c.index_next.new.by_set.items) c.into_parts-set.ensures.set
    (subst (λ (ks : List Kept). IsIndex (sets_of ks ++ Some c.into_parts-set.result.0 ∷ []) c.index_next.new.by_set.items)
    c.cuts.ensures.value c.index_next.ensures.index) in
    pool_more _ _ (entry_of c.args.cut c.args.order.items) c.self.invariant (grown after) index
    (λ other of. subst (Lacks (state_of s).entries) (some_same hubs other of) lacks) (spare_number s room)

pub returns-clause-number : goal.returns-clause-number
returns-clause-number c =
    ap (λ n. n + 1)
    (c.len-place.ensures ∙ sym (length-entries c.self.inside c.self.invariant)
    ∙ ap length (entries_before (goal.at.returns-clause-number c).After-put-2))

pub returns-clause-added : goal.returns-clause-added
returns-clause-added c =
    let after = (goal.at.returns-clause-added c).After-put-2 in
    entries_more _ _ (entry_of c.args.cut c.args.order.items) c.self.invariant (grown after)
    ∙ ap (λ es. es ++ entry_of c.args.cut c.args.order.items ∷ []) (entries_before after)

pub returns-clause-spare : goal.returns-clause-spare
returns-clause-spare c =
    let after = (goal.at.returns-clause-spare c).After-put-2 in
    let more = spare_more _ _ (entry_of c.args.cut c.args.order.items) c.self.invariant (grown after) c.put-2.ensures.spare c.index_next.ensures.room c.put.ensures.spare in
    let before : spare_of c.self.inside ≡ c.reserve.new.self.spare = ap (λ (p : PoolState). p.spare) c.self.view_is in
    omega (arith, c.reserve.ensures.kept, before, more)
