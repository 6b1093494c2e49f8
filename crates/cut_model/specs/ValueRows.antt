-- Duals of any values that are listed for the candidates: the price is lowered to what the values allow on allowed routes.
use Rattle.std.specs.Prelude.{◌≡◌, ℕ, ◌+◌, ◌*◌, min, List, length, map, zip, slice_range, nat_eq, if◌then◌else◌}
use Rattle.hub_spec.specs.Problem.{Problem, flow, distance, is_allowed, opening_cost, commodities}
use Rattle.hub_spec.specs.Cuts.{Prices, value_at, Cut, cut_by}
use Rattle.hub_spec.specs.Separation.{values_listed}
use Rattle.unit_duals.specs.Leasts.{least_of}
use Rattle.hub_model.specs.CandidateLengths.{candidate_at, length_ceiling}

-- what a unit of flow costs from i to j by way of k first and m last, in 10^-6
unfoldable pub route_length : Problem → ℕ → ℕ → ℕ → ℕ → ℕ
route_length p i j k m = p.collect * distance p i k + p.trunk * distance p k m + p.deliver * distance p m j

-- the value of a node by unit of flow, of a row that lists the candidates' values by place in this unit: at most the
-- ceiling, and 0 for a node that is no candidate
unfoldable pub node_value : Problem → ℕ → List ℕ → ℕ → ℕ
node_value p unit row k = min (length_ceiling p) (unit * value_at (zip p.candidates row) k)

-- the length of the commodity's route by the candidates at these two places, with their values added, once where the
-- places are one
unfoldable pub valued_length : Problem → ℕ × ℕ → (ℕ → ℕ) → ℕ → ℕ → ℕ
valued_length p c values x y =
    route_length p c.0 c.1 (candidate_at p x) (candidate_at p y) + values (candidate_at p x)
    + (if nat_eq x y then 0 else values (candidate_at p y))

-- the number, where the commodity may go by way of the candidates at these two places, and else the other
abbrev pub if_allowed : Problem → ℕ × ℕ → ℕ → ℕ → ℕ → ℕ → ℕ
if_allowed p c x y number other = if is_allowed p c (candidate_at p x) (candidate_at p y) then number else other

-- the price by unit of flow that these values allow: the least of the ceiling and of the valued lengths of all allowed
-- routes
unfoldable pub allowed_price : Problem → ℕ × ℕ → (ℕ → ℕ) → ℕ
allowed_price p c values =
    let ceiling = length_ceiling p in
    let places = length p.candidates in
    least_of ceiling (λ x. least_of ceiling (λ y. if_allowed p c x y (valued_length p c values x y) ceiling) places) places

-- The dual of the commodity by the row and an offset: the flow times the price, and the flow times each value, with the
-- offset added to the price and to the value of each candidate. Values above 0 are listed. It is feasible for any offset,
-- since each route has a hub.
unfoldable pub value_dual : Problem → ℕ → ℕ → List ℕ → ℕ × ℕ → Prices
value_dual p unit offset row c = record {
  a = offset + flow p c.0 c.1 * allowed_price p c (node_value p unit row);
  u = values_listed (λ k. offset + flow p c.0 c.1 * node_value p unit row k) p.candidates;
}

-- The offset of a commodity: for the first one this number, at most the fixed costs of all candidates, else 0.
abbrev pub offset_of : Problem → ℕ → ℕ × ℕ → ℕ
offset_of p offset c = if nat_eq (c.0 + c.1) 0 then min offset (opening_cost p p.candidates) else 0

-- Values in this unit for all commodities of so many nodes: a row for each commodity in order, a value for each place.
-- The offset is of the first commodity, in 10^-12.
pub record ValueRows : Type 0 where
  pub size : ℕ
  pub places : ℕ
  pub unit : ℕ
  pub offset : ℕ
  pub items : List ℕ

-- they are for the problem's commodities and candidates
pub record AreValuesFor (p : Problem) (w : ValueRows) : Type 0 where
  pub size : w.size ≡ p.size
  pub places : w.places ≡ length p.candidates

-- the number of the commodity, counted from 0
abbrev pub commodity_number : ℕ → ℕ × ℕ → ℕ
commodity_number n c = c.0 * n + c.1

-- the row of the commodity
abbrev pub row_for : ValueRows → ℕ × ℕ → List ℕ
row_for w c =
    slice_range w.items (commodity_number w.size c * w.places) (commodity_number w.size c * w.places + w.places)

-- the dual of the commodity by its row
abbrev pub commodity_dual : Problem → ValueRows → ℕ × ℕ → Prices
commodity_dual p w c = value_dual p w.unit (offset_of p w.offset c) (row_for w c) c

-- the cut of these values
unfoldable pub value_cut : Problem → ValueRows → Cut
value_cut p w = cut_by (map (commodity_dual p w) (commodities p.size))
