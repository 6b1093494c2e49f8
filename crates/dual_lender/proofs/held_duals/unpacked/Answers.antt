use Rattle.std.proofs.Common.{◌≡◌, ℕ, ◌<◌, ◌≤◌, pos, SFits, to_z, of_z, to_z-of_z, ap, ◌∙◌, arith, rules}
use mir.Syntax.{w128}
use Rattle.std.proofs.lemmas.List.{take_all}
use Rattle.std.proofs.lemmas.List.Elements.{All-get_or, All-weaker}
use Rattle.hub_spec.specs.Limits.{most_nodes}
use Rattle.hub_spec.specs.Ranges.{IsAmount}
use Rattle.hub_model.specs.Prices.{signed_values}
use Rattle.hub_model.proofs.ListedValues.{signed_listed}
use Rattle.dual_lender.proofs.Unpacked.{entry_more}
use Rattle.dual_lender.proofs.held_duals.unpacked.Goals as goal

abbrev IsEntry : ℕ × ℕ → Type 0
IsEntry e = (e.0 < most_nodes) × (1 ≤ e.1) × IsAmount e.1

pub list_value-requires-clause-limit : goal.list_value-requires-clause-limit
list_value-requires-clause-limit c =
    let entry = All-get_or IsEntry c.args.dual.now.u c.loop-at.at (0, 0) (omega arith) c.count-at-end.ensures.in_range.each in
    omega (arith, entry.2, c.value-node.ensures.value)

pub loop-at-preserved : goal.loop-at-preserved
loop-at-preserved c =
    let entry = All-get_or IsEntry c.args.dual.now.u c.loop-at.at (0, 0) (omega arith) c.count-at-end.ensures.in_range.each in
    record {
      are = entry_more c.args.dual.now.u c.loop-at.at c.value-node.result.0 c.value-node.result.1 c.loop-at.list.items c.list_value.new.list.items
          (omega arith) c.value-node.ensures.node c.value-node.ensures.value entry.1 c.list_value.ensures.are c.loop-at.invariant.are;
      few = omega (arith, c.list_value.ensures.few, c.loop-at.invariant.few);
      room = omega (arith, c.list_value.ensures.room, c.loop-at.invariant.room);
    }

pub returns-clause-values : goal.returns-clause-values
returns-clause-values c = c.loop-at.invariant.are ∙ ap signed_values (take_all c.loop-at.at c.args.dual.now.u (omega arith))

pub returns-clause-signed : goal.returns-clause-signed
returns-clause-signed c =
    let d = c.args.dual.now in
    let are : c.loop-at.list.items ≡ signed_values d.u = c.loop-at.invariant.are ∙ ap signed_values (take_all c.loop-at.at d.u (omega arith)) in
    let fits : SFits w128 c.signed.result = search (rules, arith) in
    let price : to_z w128 (of_z w128 c.signed.result) ≡ pos d.a = to_z-of_z fits ∙ c.signed.ensures ∙ ap pos c.price.ensures.value in
    let range = c.price.ensures.in_range in
    rw (price, are) (signed_listed d.a d.u (record {
      values = All-weaker IsEntry (λ (e : ℕ × ℕ). 1 ≤ e.1) (λ e h. h.1) d.u range.each;
      ascend = range.ascend;
    }))
