use Rattle.std.proofs.Common.{◌≡◌, ◌+◌, ◌++◌, ◌∷◌, [], map, length, All, sym, subst, arith, rules, ap, ◌∙◌}
use Rattle.std.specs.List.{range_with_len}
use Rattle.std.proofs.lemmas.List.Elements.{All-push}
use Rattle.hub_model.specs.Amounts.{natural, IsListedNumber}
use Rattle.instance_ap.specs.Points.{coordinates_of, distance_of, distances_front}
use Rattle.token_reader.proofs.Formulas.{formula_none, formula_push, listed_none}
use Rattle.instance_ap.proofs.distances.distances.Goals as goal

pub loop-items-init : goal.loop-items-init
unfolding distances_front
loop-items-init c =
    let none : c.in_ok-items.items.items ≡ [] = search rules in
    let f = distance_of c.args.divide (length c.args.points.now) (map coordinates_of c.args.points.now) in
    let empty : 0 ≡ length c.in_ok-items.items.items = sym (ap length none) in
    record {
      few = omega (arith, empty);
      values = formula_none natural f _ none ∙ ap (λ m. map f (range_with_len 0 m)) empty;
      limits = listed_none _ none;
    }

pub loop-items-preserved : goal.loop-items-preserved
unfolding distances_front
loop-items-preserved c =
    let before = c.loop-items.items.items in
    let next = c.next_distance-next.result in
    let f = distance_of c.args.divide (length c.args.points.now) (map coordinates_of c.args.points.now) in
    let pushed : c.push.new.self.items ≡ before ++ next ∷ [] = search rules in
    let longer : length before + 1 ≡ length c.push.new.self.items = search rules in
    record {
      few = search rules;
      values = formula_push natural f (length before) next before _ pushed (c.next_distance-next.ensures.value ∙ ap f (ap length c.deref.ensures.value)) c.loop-items.invariant.values
          ∙ ap (λ m. map f (range_with_len 0 m)) longer;
      limits = subst (All IsListedNumber) (sym pushed) (All-push IsListedNumber before next c.loop-items.invariant.limits c.next_distance-next.ensures.listed);
    }
