use Rattle.std.proofs.Common.{◌≡◌, ◌≢◌, ◌+◌, ◌<◌, ℕ, Some, None, length, get_or, sym, ap, subst, ◌∙◌, arith}
use Rattle.cut_pool.specs.Entries.{PoolState, IsNumberOf, Lacks}
use Rattle.cut_pool.specs.PoolCuts.{sets_of}
use Rattle.cut_pool.specs.PoolParts.{state_of}
use Rattle.cut_pool.specs.Ordered.{set_at}
use Rattle.cut_pool.proofs.Columns.{same_members, other_members}
use Rattle.cut_pool.proofs.IndexedCuts.{place_inside, of_set_indexed, set_indexed}
use Rattle.cut_pool.proofs.Indexes.{read_at}
use Rattle.cut_pool.proofs.Entered.{lacks_entries, number_of, set_of_number, only_number}
use Rattle.cut_pool.proofs.pool.Pool.find.Goals as goal
use Rattle.cut_pool.proofs.pool.Pool.find.Goals.{After-ne, After-from}

pub place_of-at-requires : goal.place_of-at-requires
place_of-at-requires c = rw (c.cuts.ensures.value, c.deref.ensures.value) c.self.invariant.index

pub returns-then-at-len-clause-none : goal.returns-then-at-len-clause-none
returns-then-at-len-clause-none c =
    let s = c.self.inside in
    let sets = sets_of s.cuts.kept.cuts in
    let split = rw (c.cuts.ensures.value, c.deref.ensures.value, c.members-hubs.ensures.value) at c.place_of-at.ensures in
    let none : c.place_of-at.result < length s.by_set.items → set_at sets s.by_set.items c.place_of-at.result ≢ c.args.set.now =
    λ below. absurd (omega (arith, below, c.if-at-len.true, c.len.ensures, s.by_set.ok.0)) in
    subst (λ (p : PoolState). Lacks p.entries c.args.set.now) c.self.view_is
    (lacks_entries s c.self.invariant c.args.set.now c.place_of-at.result split none)

pub hubs_of-requires : goal.hubs_of-requires
hubs_of-requires c =
    let s = c.self.inside in
    let below : c.place_of-at.result < length s.by_set.items =
    omega (arith, c.place_of-at.ensures.within, c.if-at-len.false, c.len.ensures, c.deref.ensures.len, s.by_set.ok.0) in
    of_set_indexed c.cuts-2.result.now s.cuts.kept.cuts s.by_set.items c.place_of-at.result c.index-place.result.now c.index-cuts-place.result
    c.cuts-2.ensures.value c.self.invariant.index below c.index-place.ensures c.index-cuts-place.is

-- the place is one of the index
at_below : (c : After-ne) → c.place_of-at.result < length c.self.inside.by_set.items
at_below c = omega (arith, c.place_of-at.ensures.within, c.if-at-len.false, c.len.ensures, c.deref.ensures.len, c.self.inside.by_set.ok.0)

-- the hub set that was compared stands in the pool at the place that the index has
there : (c : After-ne) → get_or (sets_of c.self.inside.cuts.kept.cuts) c.index-place.result.now None ≡ Some c.hubs_of.result.now
there c =
    let s = c.self.inside in
    set_indexed c.cuts-2.result.now s.cuts.kept.cuts s.by_set.items c.place_of-at.result c.index-place.result.now c.index-cuts-place.result
    c.cuts-2.ensures.value c.self.invariant.index (at_below c) c.index-place.ensures c.index-cuts-place.is c.hubs_of.result.now
    c.hubs_of.ensures

pub returns-then-ne-clause-none : goal.returns-then-ne-clause-none
returns-then-ne-clause-none c =
    let s = c.self.inside in
    let sets = sets_of s.cuts.kept.cuts in
    let split = rw (c.cuts.ensures.value, c.deref.ensures.value, c.members-hubs.ensures.value) at c.place_of-at.ensures in
    let none : c.place_of-at.result < length s.by_set.items → set_at sets s.by_set.items c.place_of-at.result ≢ c.args.set.now =
    λ below same.
    other_members c.hubs_of.result.now c.members-hubs.result.now c.ne.result c.ne.ensures c.if-ne.true
    (sym
    (read_at sets s.by_set.items c.place_of-at.result c.index-place.result.now c.hubs_of.result.now below c.index-place.ensures
    (there (goal.at.returns-then-ne-clause-none c).After-ne))
    ∙ same ∙ sym c.members-hubs.ensures.value) in
    subst (λ (p : PoolState). Lacks p.entries c.args.set.now) c.self.view_is
    (lacks_entries s c.self.invariant c.args.set.now c.place_of-at.result split none)

found : (c : After-from) → get_or (sets_of c.self.inside.cuts.kept.cuts) c.index-place.result.now None ≡ Some c.hubs_of.result.now
    → IsNumberOf (state_of c.self.inside).entries c.args.set.now (c.from.result + 1)
found c stands =
    let s = c.self.inside in
    let sets = sets_of s.cuts.kept.cuts in
    let at : c.place_of-at.result < length s.by_set.items =
    omega (arith, c.place_of-at.ensures.within, c.if-at-len.false, c.len.ensures, c.deref.ensures.len, s.by_set.ok.0) in
    let below : c.from.result < length s.cuts.kept.cuts =
    rw c.from.ensures
    (place_inside c.cuts-2.result.now s.cuts.kept.cuts s.by_set.items c.place_of-at.result c.index-place.result.now c.index-cuts-place.result
    c.cuts-2.ensures.value c.self.invariant.index at c.index-place.ensures c.index-cuts-place.is) in
    record {
      number = number_of s c.self.invariant c.from.result below;
      has_hubs = set_of_number s c.self.invariant c.from.result below
          ∙ ap (λ (place : ℕ). get_or sets place None) c.from.ensures ∙ stands
          ∙ ap Some (same_members c.hubs_of.result.now c.members-hubs.result.now c.ne.result c.ne.ensures c.if-ne.false ∙ c.members-hubs.ensures.value);
    }

pub returns-clause-some : goal.returns-clause-some
returns-clause-some c =
    subst (λ (p : PoolState). IsNumberOf p.entries c.args.set.now (c.from.result + 1)) c.self.view_is
    (found (goal.at.returns-clause-some c).After-from (there (goal.at.returns-clause-some c).After-ne))

pub returns-clause-only : goal.returns-clause-only
returns-clause-only c = λ x other.
    only_number c.self.inside c.self.invariant c.args.set.now x (c.from.result + 1)
    (subst (λ (p : PoolState). IsNumberOf p.entries c.args.set.now x) (sym c.self.view_is) other)
    (found (goal.at.returns-clause-only c).After-from (there (goal.at.returns-clause-only c).After-ne))
