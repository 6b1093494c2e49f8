use Rattle.std.proofs.Common.{◌≡◌, ◌++◌, ◌∷◌, [], ℕ, List, Option, Some, length, map, cond, sym, ap, subst, ◌∙◌, arith}
use Rattle.std.specs.List.{insert}
use Rattle.std.proofs.lemmas.List.{length-map}
use Rattle.cut_pool.specs.Kept.{kept_of, kept_set}
use Rattle.cut_pool.specs.PoolCuts.{sets_of}
use Rattle.cut_pool.specs.Ordered.{IsIndex, IsSplitAt}
use Rattle.cut_pool.proofs.Indexes.{index_more, index_unset}
use Rattle.cut_pool.proofs.places.index_next.Goals as goal

pub returns-in_default-clause-index : goal.returns-in_default-clause-index
returns-in_default-clause-index c =
    let sets = sets_of (map kept_of c.args.cuts.now) in
    subst (λ (o : Option (List ℕ)). IsIndex (sets ++ o ∷ []) c.args.by_set.now.items) c.in_default.ensures
    (index_unset sets c.args.by_set.now.items c.requires.index)

pub returns-clause-index : goal.returns-clause-index
returns-clause-index c =
    let ks = map kept_of c.args.cuts.now in
    let index = c.args.by_set.now.items in
    let hubs = c.in-Some.hubs.now in
    let at = c.place_of-at.result in
    let of : Some hubs ≡ kept_set (kept_of c.args.next.now) = c.in-Some.ensures in
    let split : IsSplitAt (sets_of ks) index hubs at = rw (← c.deref.ensures.value) c.place_of-at.ensures in
    let long : length c.args.cuts.now ≡ length (sets_of ks) = sym (length-map ks kept_set ∙ length-map c.args.cuts.now kept_of) in
    let placed : c.insert.new.self.items ≡ insert index at (length (sets_of ks)) =
    c.insert.ensures.items
    ∙ ap (λ b. cond b (insert index at (length c.args.cuts.now)) index) (c.insert.ensures.succeeds (omega (arith, c.requires.room)))
    ∙ ap (insert index at) long in
    subst (λ (o : Option (List ℕ)). IsIndex (sets_of ks ++ o ∷ []) c.insert.new.self.items) of
    (subst (IsIndex (sets_of ks ++ Some hubs ∷ [])) (sym placed)
    (index_more (sets_of ks) index hubs at c.requires.index split (c.requires.first_time hubs (sym of))))
