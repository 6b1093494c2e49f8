use Rattle.std.proofs.Common.{◌≡◌, ◌+◌, ◌*◌, length, get_or, All, ◌≤◌, ℕ, ap, sym, subst, ◌∙◌, arith}
use Rattle.std.proofs.lemmas.List.{with_items_is}
use Rattle.std.specs.Vec.{with_items}
use Rattle.hub_spec.specs.Cuts.{Prices, value_at}
use Rattle.cert_conditions.specs.Sums.{CutTally, IsRunAdded, AreWithinRange, most_duals, most_load}
use Rattle.cert_conditions.proofs.Loads.{load_limits, loads_below, added_of, without_price}
use Rattle.cert_conditions.proofs.sums.RunningSums.add.Goals as goal

pub add_values-requires : goal.add_values-requires
add_values-requires c =
    let old : CutTally = record { part = c.self.inside.part; count = c.self.inside.count; total = c.self.inside.total; loads = c.self.inside.loads.items } in
    record {
      few = omega (arith, c.requires.few);
      dual = without_price (length c.args.self.now.loads) (length c.deref_mut.result.now) (record { a = c.args.price; u = c.args.values.now })
          (ap length c.deref_mut.ensures.value ∙ ap (λ (t : CutTally). length t.loads) c.self.view_is) c.requires.dual;
      most = subst (All (λ (x : ℕ). x ≤ most_load)) (sym c.deref_mut.ensures.value) (loads_below old c.self.invariant);
    }

pub invariant_of-self : goal.invariant_of-self
invariant_of-self c =
    let old : CutTally = record { part = c.self.inside.part; count = c.self.inside.count; total = c.self.inside.total; loads = c.self.inside.loads.items } in
    let run = c.args.run in
    let dual : Prices = record { a = c.args.price; u = c.args.values.now } in
    let same = with_items_is c.self.inside.loads c.add_values.new.loads (omega (arith, c.add_values.auto.loads, c.deref_mut.ensures.len)) in
    let few : old.count + run ≤ most_duals = subst (λ (t : CutTally). t.count + run ≤ most_duals) (sym c.self.view_is) c.requires.few in
    let long : length c.add_values.new.loads ≡ length old.loads = c.add_values.auto.loads ∙ ap length c.deref_mut.ensures.value in
    let added = added_of old run dual c.add_values.new.loads long (subst (λ loads. (k : ℕ) → get_or c.add_values.new.loads k 0 ≡ get_or loads k 0 + run * value_at dual.u k) c.deref_mut.ensures.value c.add_values.ensures) in
    subst (λ loads. AreWithinRange (record { part = c.self.inside.part; count = c.self.inside.count + run; total = c.self.inside.total + run * c.args.price; loads = loads })) (sym same)
    (load_limits (length c.args.self.now.loads) run old (record { part = old.part; count = old.count + run; total = old.total + run * dual.a; loads = c.add_values.new.loads }) dual c.requires.dual c.self.invariant few added)

pub returns : goal.returns
returns c =
    let old : CutTally = record { part = c.self.inside.part; count = c.self.inside.count; total = c.self.inside.total; loads = c.self.inside.loads.items } in
    let run = c.args.run in
    let dual : Prices = record { a = c.args.price; u = c.args.values.now } in
    let same = with_items_is c.self.inside.loads c.add_values.new.loads (omega (arith, c.add_values.auto.loads, c.deref_mut.ensures.len)) in
    let long : length c.add_values.new.loads ≡ length old.loads = c.add_values.auto.loads ∙ ap length c.deref_mut.ensures.value in
    let added = added_of old run dual c.add_values.new.loads long (subst (λ loads. (k : ℕ) → get_or c.add_values.new.loads k 0 ≡ get_or loads k 0 + run * value_at dual.u k) c.deref_mut.ensures.value c.add_values.ensures) in
    subst (λ t. IsRunAdded t run dual (record { part = c.self.inside.part; count = c.self.inside.count + run; total = c.self.inside.total + run * c.args.price; loads = (with_items c.self.inside.loads c.add_values.new.loads).items })) c.self.view_is
    (subst (λ loads. IsRunAdded old run dual (record { part = c.self.inside.part; count = c.self.inside.count + run; total = c.self.inside.total + run * c.args.price; loads = loads })) (sym same) added)
