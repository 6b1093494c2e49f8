-- Legs as they are once they are filled.
use Rattle.std.proofs.Common.{◌≡◌, ℕ, ◌+◌, ◌*◌, ◌<◌, ◌≤◌, List, length, slice_index, All, sym, subst, ap, ◌∙◌, arith}
use Rattle.std.proofs.lemmas.List.Elements.{All-from_get_or}
use Rattle.hub_spec.specs.Problem.{Problem, distance}
use Rattle.unit_duals.specs.Limits.{most_leg, most_room}
use Rattle.unit_duals.specs.Cells.{IsTable}
use Rattle.unit_duals.specs.Raised.{IsRowSet}
use Rattle.unit_duals.proofs.TableCells.{cell_within}
use Rattle.leg_duals.specs.StopLegs.{stop_node, AreLegsOf, AreFirstLegsOf}

-- what a factor makes of a distance in a row
pub leg_value : (p : Problem) (factor from k node : ℕ) (row : List ℕ) → k ≡ node → slice_index row k ≡ distance p from k
    → factor * slice_index row k ≡ factor * distance p from node
leg_value p factor from k node row same is = ap (λ (d : ℕ). factor * d) (is ∙ ap (distance p from) same)

-- the tables are the legs of the hubs and the order
pub legs_of_tables : (p : Problem) (hubs order : List ℕ) (start size : ℕ) (trunk last held_trunk held_last : List ℕ)
    → held_trunk ≡ trunk → held_last ≡ last → start + size ≤ p.size → size ≤ most_room → length order + length hubs ≤ most_room
    → length trunk ≡ (length order + length hubs) * (length order + length hubs) → length last ≡ (length order + length hubs) * size
    → IsTable (length order + length hubs) (λ k m v. v ≡ p.trunk * distance p (stop_node hubs order k) (stop_node hubs order m)) trunk (length trunk)
    → IsTable size (λ k j v. v ≡ p.deliver * distance p (stop_node hubs order k) (start + j)) last (length last)
    → All (λ d. d ≤ most_leg) trunk → All (λ d. d ≤ most_leg) last
    → AreLegsOf p hubs order start (record { size = size; count = length order; hubs = length hubs; trunk = held_trunk; last = held_last })
legs_of_tables p hubs order start size trunk last held_trunk held_last same_trunk same_last within few_columns few_stops trunk_long last_long trunk_is last_is trunk_limit last_limit =
    subst (λ (ts : List ℕ). Are ts held_last) (sym same_trunk) (subst (λ (ls : List ℕ). Are trunk ls) (sym same_last) (record {
      legs = record {
        size_limit = few_columns;
        stop_limit = few_stops;
        trunk_long = trunk_long;
        last_long = last_long;
        trunk_limit = trunk_limit;
        last_limit = last_limit;
      };
      places = omega arith;
      hubs_too = omega arith;
      destinations = within;
      trunk = λ k m stop other. trunk_is.each k m other (omega (arith, cell_within k m (length order + length hubs) (length order + length hubs) stop other, trunk_long));
      last = λ k j stop column. last_is.each k j column (omega (arith, cell_within k j size (length order + length hubs) stop column, last_long));
    }))
  where
    Are : List ℕ → List ℕ → Type 0
    Are ts ls = AreLegsOf p hubs order start (record { size = size; count = length order; hubs = length hubs; trunk = ts; last = ls })

-- the only row of a table of one
pub first_legs_of_row : (p : Problem) (hubs order : List ℕ) (i factor : ℕ) (old first : List ℕ) → factor ≡ p.collect
    → length first ≡ length order + length hubs
    → IsRowSet (length order + length hubs) 0 (length order + length hubs) (λ m. factor * distance p i (stop_node hubs order m)) old first
    → ((m : ℕ) → m < length order + length hubs → factor * distance p i (stop_node hubs order m) ≤ most_leg)
    → AreFirstLegsOf p hubs order i first
first_legs_of_row p hubs order i factor old first is_factor long row limit = record {
  long = long;
  limit = All-from_get_or (λ d. d ≤ most_leg) first 0
      (λ k below. let e = item k (omega (arith, below, long)) in let b = limit k (omega (arith, below, long)) in omega (arith, e, b));
  each = λ k below. item k (omega (arith, below, long)) ∙ ap (λ (f : ℕ). f * distance p i (stop_node hubs order k)) is_factor;
}
  where
    item : (k : ℕ) → k < length order + length hubs → slice_index first k ≡ factor * distance p i (stop_node hubs order k)
    item k below = (let same : 0 * (length order + length hubs) + k ≡ k = omega arith in
        subst (λ (x : ℕ). slice_index first x ≡ factor * distance p i (stop_node hubs order k)) same (row.here k below))
