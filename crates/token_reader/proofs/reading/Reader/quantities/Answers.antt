use Rattle.std.proofs.Common.{◌≡◌, ℕ, ◌≤◌, List, All, subst, ◌++◌, ◌∷◌, [], pos, Ok, ap, sym, ◌∙◌, arith, rules}
use Rattle.hub_model.specs.Amounts.{natural}
use Rattle.file_spec.specs.Places.{a_quantity}
use Rattle.token_reader.specs.Unread.{later, value_here, values_here, AreLegal}
use Rattle.token_reader.proofs.Ahead.{later-none}
use Rattle.token_reader.proofs.Stretches.{legal_none}
use Rattle.token_reader.proofs.Values.{values_within}
use Rattle.token_reader.proofs.Steps.{moved_token, legal_token}
use Rattle.token_reader.proofs.Formulas.{formula_none, amount_push, listed_none, listed_push}
use Rattle.token_reader.proofs.reading.Reader.quantities.Goals as goal

pub loop-place-init : goal.loop-place-init
unfolding values_here
loop-place-init c =
    let none : c.in_ok-items.items.items ≡ [] = search rules in
    record {
      moved = sym (later-none c.args.self.now);
      legal = legal_none _ _;
      values = formula_none natural (λ s. value_here c.args.places (later s c.args.self.now)) _ none;
      limits = listed_none _ none;
    }

pub loop-place-preserved : goal.loop-place-preserved
unfolding values_here
loop-place-preserved c =
    let r = c.args.self.now in
    let here = c.loop-place.invariant.moved in
    let read : c.quantity.result ≡ Ok c.in_ok-value.value = search rules in
    let moved : c.quantity.new.self ≡ later 1 c.loop-place.self = search rules in
    let value : c.in_ok-value.value ≡ value_here c.args.places c.loop-place.self = search rules in
    let pushed : c.push.new.self.items ≡ c.loop-place.items.items ++ pos c.in_ok-value.value ∷ [] = search rules in
    record {
      moved = moved_token c.loop-place._place r _ _ here moved;
      legal = legal_token (a_quantity c.args.places c.args.limit) c.loop-place._place r _ c.quantity.result c.in_ok-value.value
          here read c.quantity.ensures.fault c.loop-place.invariant.legal;
      values = amount_push (λ s. value_here c.args.places (later s r)) c.loop-place._place c.in_ok-value.value _ _ pushed
          (value ∙ ap (value_here c.args.places) here) c.loop-place.invariant.values;
      limits = listed_push c.in_ok-value.value _ _ pushed (omega arith) c.loop-place.invariant.limits;
    }

pub returns-clause-limits : goal.returns-clause-limits
returns-clause-limits c =
    let P : List ℕ → Type 0 = λ vs. All (λ v. v ≤ c.args.limit) vs in
    let legal : AreLegal (a_quantity c.args.places c.args.limit) c.args.m c.args.self.now = search rules in
    let values : c.from_vec.result ≡ values_here c.args.places c.args.m c.args.self.now = search rules in
    subst P (sym values) (values_within c.args.places c.args.limit c.args.m c.args.self.now legal)
