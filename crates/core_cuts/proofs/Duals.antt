-- What is found is a Pareto-optimal dual.
use Rattle.std.proofs.Common.{◌≡◌, ℕ, zero, suc, ◌*◌, ◌/◌, ◌<◌, ◌≤◌, None, List, length, get_or, unsigned_abs, Contains, inl, refl, sym, ap, ◌∙◌, subst, arith}
use Rattle.std.proofs.Math.Nat.{mul-div_cancel_left}
use Rattle.std.proofs.lemmas.List.Elements.{All-weaker, All-contains, Contains-get_or}
use Rattle.hub_spec.specs.Problem.{Problem, IsProblem, flow}
use Rattle.hub_spec.specs.Edges.{least_cost, IsLeastCost}
use Rattle.hub_spec.specs.Plans.{IsHubSet}
use Rattle.hub_spec.specs.Cuts.{IsDual}
use Rattle.hub_spec.proofs.Limits.{hubs_are_nodes}
use Rattle.hub_spec.proofs.PlanCosts.{any_allowed}
use Rattle.hub_spec.proofs.SetCutFunction.{least_cost_is, value_at_listed, all_listed, IsListed}
use Rattle.hub_spec.proofs.Sets.{All-from_contains}
use Rattle.core_spec.specs.CoreCuts.{IsCoreDual}
use Rattle.core_spec.proofs.Lengths.{unit_length, length_costs}
use Rattle.core_cuts.specs.RunTheorems.{IsMadeOf}
use Rattle.core_cuts.proofs.Found.{found_is_core, length_limit, quotient_limit}
use Rattle.core_cuts.specs.Bodies.{most_unit}
use Rattle.core_cuts.specs.Readings.{Reading, value_of, core_run, dual_of, ways_at, proof_of, most_units, IsReading, IsFit, FoundDual, found_of}
use Rattle.core_cuts.specs.Theorems.{IsAsked, FoundIsCore}
use Rattle.core_cuts.proofs.Zipped.{value_at_limit}

-- the least cost is that of a route through the hubs
pub least_is : (p : Problem) (hubs : List ℕ) (c : ℕ × ℕ) → p.longest ≡ None → IsHubSet p hubs → IsLeastCost p hubs c (least_cost p hubs c)
least_is p hubs c any set =
    let h = get_or hubs 0 0 in
    let here = Contains-get_or hubs 0 0 (omega (arith, set.some_hub)) in
    least_cost_is p hubs c ((h, h), record { first = here; last = here; allowed = any_allowed p c h h any })

-- it is a whole number times the flow
pub least_by_flow : (p : Problem) (hubs : List ℕ) (c : ℕ × ℕ) → p.longest ≡ None → IsHubSet p hubs
    → flow p c.0 c.1 * (least_cost p hubs c / flow p c.0 c.1) ≡ least_cost p hubs c
least_by_flow p hubs c any set =
    let least = (least_is p hubs c any set).reached in
    by_length (flow p c.0 c.1) (unit_length p c.0 c.1 least.0 least.1) (least_cost p hubs c)
    (length_costs p c.0 c.1 least.0 least.1 ∙ least.4)
  where
    by_length : (w long cost : ℕ) → w * long ≡ cost → w * (cost / w) ≡ cost
    by_length zero long cost is = omega (arith, is)
    by_length (suc w) long cost is =
        let quotient : cost / suc w ≡ long = ap (λ n. n / suc w) (sym is) ∙ mul-div_cancel_left long (omega arith) in
        ap (λ n. suc w * n) quotient ∙ is

-- by unit of flow it is within the limit of a route
pub least_limit : (p : Problem) (hubs : List ℕ) (c : ℕ × ℕ) → IsProblem p → p.longest ≡ None → IsHubSet p hubs → c.0 < p.size → c.1 < p.size
    → least_cost p hubs c / flow p c.0 c.1 ≤ most_unit
least_limit p hubs c ok any set from to =
    let least = (least_is p hubs c any set).reached in
    let nodes = hubs_are_nodes p hubs ok.limits set in
    quotient_limit (flow p c.0 c.1) (unit_length p c.0 c.1 least.0 least.1) (least_cost p hubs c)
    (length_costs p c.0 c.1 least.0 least.1 ∙ least.4)
    (length_limit p c.0 c.1 least.0 least.1 ok from to
    (All-contains (λ m. m < p.size) hubs least.0 nodes least.2) (All-contains (λ m. m < p.size) hubs least.1 nodes least.3))

-- the dual of a fit reading is made of it
made_of : (p : Problem) (hubs : List ℕ) (c : ℕ × ℕ) (r : Reading) → p.longest ≡ None → IsHubSet p hubs → IsFit p hubs c r
    → IsMadeOf p hubs c r.part r.price (least_cost p hubs c / flow p c.0 c.1) (value_of p r) (dual_of p c r)
unfolding dual_of
made_of p hubs c r any set fit =
    let v = λ (k : ℕ). flow p c.0 c.1 * value_of p r k in
    record {
      least = least_by_flow p hubs c any set;
      tight = fit.is_tight.tight;
      price_limit = fit.price;
      value_limit = All-from_contains (λ k. value_of p r k ≤ most_units) p.candidates (λ k here. value_at_limit most_units p.candidates r.values k fit.values);
      price_is = refl;
      values_are = λ k here. value_at_listed v p.candidates k (inl here);
      are_candidates = All-weaker (IsListed v p.candidates) (λ e. Contains p.candidates e.0) (λ e is. is.node) (dual_of p c r).u (all_listed v p.candidates);
    }

core_of : (p : Problem) (hubs : List ℕ) (c : ℕ × ℕ) (r : Reading) → IsAsked p hubs c → IsReading p hubs c r → IsFit p hubs c r
    → IsDual p r.part c (dual_of p c r) × IsCoreDual p hubs r.part c (dual_of p c r) (proof_of p hubs c)
unfolding core_run ways_at proof_of
core_of p hubs c r asked reading fit =
    let any = asked.may.any_length in
    let core = found_is_core p hubs c r.part r.price (least_cost p hubs c / flow p c.0 c.1) (value_of p r) (dual_of p c r) asked.problem any asked.set
    asked.from asked.to reading.best reading.whole.read (made_of p hubs c r any asked.set fit) in (
      core.2,
      subst (λ (n : ℕ). IsCoreDual p hubs r.part c (dual_of p c r)
          (record { turns = length p.candidates; scale = n; ways = ways_at p c (core_run p hubs c).table })) (sym (ap unsigned_abs core.1)) core.3,
    )

pub found_core : FoundIsCore
unfolding found_of
found_core p hubs c found asked (r, reading, fit, is) =
    subst (λ (d : FoundDual). IsDual p d.part c d.dual × IsCoreDual p hubs d.part c d.dual d.proof) (sym is) (core_of p hubs c r asked reading fit)
