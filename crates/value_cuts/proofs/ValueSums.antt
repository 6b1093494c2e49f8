-- The sums of the Benders cut from any dual values, commodity by commodity: they are within the limit.
use Rattle.std.proofs.Common.{◌≡◌, ℕ, ◌+◌, ◌*◌, ◌/◌, ◌%◌, ◌<◌, ◌≤◌, List, take, sum, sum_by, slice_index, slice_range, ap, ap₂, sym, ◌∙◌, div-add-mod', arith}
use Rattle.std.proofs.lemmas.List.Sums.{sum_by-take-le, sum_by_push}
use Rattle.hub_spec.specs.Limits.{most_cost}
use Rattle.hub_spec.specs.Problem.{Problem, IsProblem, flow, commodities, commodity_at}
use Rattle.hub_spec.specs.Cuts.{value_at}
use Rattle.hub_spec.specs.Separation.{values_listed}
use Rattle.hub_spec.proofs.Commodities.{take_commodities_more, take_commodities_all, commodity_nodes}
use Rattle.hub_spec.proofs.Limits.{flow_of}
use Rattle.cut_model.specs.ValueRows.{node_value, value_dual, ValueRows, AreValuesFor, commodity_number, row_for, offset_of}
use Rattle.cut_model.proofs.ValueCuts.{price_of, value_of, amount_limit, all_within}
use Rattle.value_cuts.specs.Prices.{row_price, AreRowPrices}
use Rattle.cut_model.proofs.ValueDuals.{dual_price}

-- ---- one commodity more

-- what is summed up of the first commodities is within the limit
pub front_within : (p : Problem) (t offset : ℕ) (f : ℕ × ℕ → ℕ) → IsProblem p → ((c : ℕ × ℕ) → f c ≤ amount_limit p offset c)
    → sum_by f (take t (commodities p.size)) ≤ most_cost
front_within p t offset f ok low = omega (arith, sum_by-take-le f (commodities p.size) t, all_within p offset f ok low)

pub sum_more : (n t v sum : ℕ) (f : ℕ × ℕ → ℕ) → t < n * n → v ≡ f (commodity_at n t) → sum ≡ sum_by f (take t (commodities n))
    → sum + v ≡ sum_by f (take (t + 1) (commodities n))
sum_more n t v sum f below is so_far =
    ap₂ (λ (a b : ℕ). a + b) so_far is ∙ sym (sum_by_push f (take t (commodities n)) (commodity_at n t))
    ∙ ap (sum_by f) (sym (take_commodities_more n t below))

pub sum_all : (n t : ℕ) (f : ℕ × ℕ → ℕ) → t ≡ n * n → sum_by f (take t (commodities n)) ≡ sum_by f (commodities n)
sum_all n t f all = ap (λ m. sum_by f (take m (commodities n))) all ∙ ap (sum_by f) (take_commodities_all n)

-- the commodity of number t: its flow, its price and its row
pub flow_at : (p : Problem) (t : ℕ) → slice_index p.flows t ≡ flow_of p (commodity_at p.size t)
unfolding flow
flow_at p t = ap (slice_index p.flows) (sym (div-add-mod' t p.size))

pub price_at : (p : Problem) (w : ValueRows) (prices : List ℕ) (t : ℕ) → AreRowPrices p w prices → t < p.size * p.size
    → slice_index prices t ≡ row_price p w (commodity_at p.size t)
price_at p w prices t are below =
    let n = p.size in
    let nodes = commodity_nodes n t below in
    let place = div-add-mod' t n in
    ap (slice_index prices) (sym place)
    ∙ are.each.each (t / n) (t % n) nodes.1 (omega (arith, place, below, are.long))

pub row_number : (p : Problem) (w : ValueRows) (t : ℕ) → AreValuesFor p w
    → slice_range w.items (t * w.places) (t * w.places + w.places) ≡ row_for w (commodity_at p.size t)
row_number p w t fit =
    let place : t ≡ commodity_number w.size (commodity_at p.size t) =
    sym (div-add-mod' t p.size) ∙ ap (λ n. t / p.size * n + t % p.size) (sym fit.size) in
    ap (λ s. slice_range w.items (s * w.places) (s * w.places + w.places)) place

pub price_more : (p : Problem) (w : ValueRows) (flows prices : List ℕ) (t offset : ℕ) → flows ≡ p.flows → AreRowPrices p w prices
    → t < p.size * p.size → offset ≡ offset_of p w.offset (commodity_at p.size t)
    → offset + slice_index flows t * slice_index prices t ≡ price_of p w (commodity_at p.size t)
price_more p w flows prices t offset same are below first =
    let c = commodity_at p.size t in
    let flow = ap (λ fs. slice_index fs t) same ∙ flow_at p t in
    ap₂ (λ (a b : ℕ). a + b) first (ap₂ (λ (a b : ℕ). a * b) flow (price_at p w prices t are below))
    ∙ sym (dual_price p w.unit (offset_of p w.offset c) (row_for w c) c)

-- what is listed for the commodity's row is the values of its dual
pub value_more : (p : Problem) (w : ValueRows) (flows row : List ℕ) (unit offset t k : ℕ) → flows ≡ p.flows → unit ≡ w.unit
    → row ≡ row_for w (commodity_at p.size t) → offset ≡ offset_of p w.offset (commodity_at p.size t)
    → value_at (values_listed (λ m. offset + slice_index flows t * node_value p unit row m) p.candidates) k
    ≡ value_of p w k (commodity_at p.size t)
unfolding value_dual
value_more p w flows row unit offset t k same in_unit is first =
    let c = commodity_at p.size t in
    let flow = ap (λ fs. slice_index fs t) same ∙ flow_at p t in
    let value : ℕ → ℕ → ℕ → List ℕ → ℕ = λ o f u r. value_at (values_listed (λ m. o + f * node_value p u r m) p.candidates) k in
    ap₂ (λ (o f : ℕ). value o f unit row) first flow
    ∙ ap₂ (λ (u : ℕ) (r : List ℕ). value (offset_of p w.offset c) (flow_of p c) u r) in_unit is
