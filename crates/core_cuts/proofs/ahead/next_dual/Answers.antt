use Rattle.std.proofs.Common.{◌<◌, ℕ, ◌+◌, ◌*◌, Option, None, IfSome, length, get_or, ap, sym, ◌∙◌, subst, arith}
use Rattle.std.proofs.lemmas.List.{get_or_default}
use Rattle.hub_spec.proofs.Commodities.{commodity_index}
use Rattle.core_cuts.specs.Readings.{FoundDual, IsFound}
use Rattle.core_cuts.proofs.AheadDuals.{one_ahead}
use Rattle.core_cuts.proofs.ahead.next_dual.Goals as goal

pub returns-in-Some-clause-found : goal.returns-in-Some-clause-found
returns-in-Some-clause-found c =
    let p = c.args.instance.now in
    let ahead = c.args.ahead.now.items in
    let x = c.index_mut.result.now in
    let place = c.args.i * p.size + c.args.j in
    let inside : place < length ahead = omega (arith, c.requires.ahead.places, commodity_index p.size c.args.i c.args.j c.requires.from c.requires.to) in
    let there = c.index_mut.ensures.value ∙ ap (λ (n : ℕ). get_or ahead (c.args.i * n + c.args.j) x) c.size-n.ensures.value in
    subst (λ (o : Option FoundDual). IfSome o (λ d. IsFound p c.args.hubs.now (c.args.i, c.args.j) d))
    (get_or_default ahead place None x inside ∙ sym there ∙ sym c.take.ensures.value ∙ c.in-Some.is)
    (one_ahead p c.args.hubs.now c.args.i c.args.j ahead c.requires.from c.requires.to c.requires.ahead)
