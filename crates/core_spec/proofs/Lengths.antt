-- Costs are lengths times the flow.
use Rattle.std.proofs.Common.{◌≡◌, ℕ, ◌+◌, ◌*◌, ◌<◌, ◌≤◌, min, None, ⊎_elim, refl, sym, ◌∙◌, mul-le-mul_left, arith}
use Rattle.std.proofs.lemmas.Bool.{cases_lt}
use Rattle.hub_spec.specs.Problem.{Problem, flow, distance, route_cost}
use Rattle.core_spec.specs.CoreCuts.{pair_cost}
use Rattle.core_spec.proofs.EdgeCosts.{pair_cost_is}

-- the length of the route from i to j by way of k first and m last: collection, trunk and delivery
unfoldable pub unit_length : Problem → ℕ → ℕ → ℕ → ℕ → ℕ
unit_length p i j k m = p.collect * distance p i k + p.trunk * distance p k m + p.deliver * distance p m j

pub length_costs : (p : Problem) (i j k m : ℕ) → flow p i j * unit_length p i j k m ≡ route_cost p i j k m
unfolding unit_length route_cost
length_costs p i j k m = refl

-- the length of the commodity's way through both nodes: the lesser of its two directions
abbrev pub pair_length : Problem → ℕ × ℕ → ℕ → ℕ → ℕ
pair_length p c k m = min (unit_length p c.0 c.1 k m) (unit_length p c.0 c.1 m k)

pub times_min : (w x y : ℕ) → w * min x y ≡ min (w * x) (w * y)
times_min w x y =
    ⊎_elim (λ less. (let m : min x y ≡ x = omega arith in let l = mul-le-mul_left w (lesser x y less) in rw m (omega (arith, l))))
    (λ (not_less : y ≤ x). (let m : min x y ≡ y = omega arith in let l = mul-le-mul_left w not_less in rw m (omega (arith, l))))
    (cases_lt x y)
  where
    lesser : (a b : ℕ) → a < b → a ≤ b
    lesser a b h = omega arith

pub pair_length_costs : (p : Problem) (c : ℕ × ℕ) (k m : ℕ) → p.longest ≡ None → flow p c.0 c.1 * pair_length p c k m ≡ pair_cost p c k m
pair_length_costs p c k m any =
    times_min (flow p c.0 c.1) (unit_length p c.0 c.1 k m) (unit_length p c.0 c.1 m k)
    ∙ rw (length_costs p c.0 c.1 k m, length_costs p c.0 c.1 m k) (sym (pair_cost_is p c k m any))
