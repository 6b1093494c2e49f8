-- A Pareto-optimal dual scaled to a greater part.
use Rattle.std.proofs.Common.{◌≡◌, ℕ, ◌+◌, ◌*◌, List, [], ◌∷◌, All, Contains, ap, mul-le-mul_left, arith}
use Rattle.std.proofs.lemmas.List.Elements.{All-contains}
use Rattle.std.proofs.lemmas.List.Sums.{sum_by-cons}
use Rattle.hub_spec.specs.Problem.{Problem, flow}
use Rattle.hub_spec.specs.Edges.{least_cost}
use Rattle.hub_spec.specs.Plans.{IsHubSet}
use Rattle.hub_spec.specs.Cuts.{Prices, value_at, IsDual}
use Rattle.hub_spec.proofs.Sets.{Contains-head, Contains-later}
use Rattle.core_spec.specs.CoreCuts.{CoreProof, ways_cost, values_on, IsByFlow, IsCoreDual}
use Rattle.core_spec.specs.Theorems.{IsTimes}

values_times : (n : ℕ) (dual more : Prices) (ks : List ℕ) → ((k : ℕ) → Contains ks k → value_at more.u k ≡ n * value_at dual.u k)
    → values_on more ks ≡ n * values_on dual ks
values_times n dual more [] are = omega arith
values_times n dual more (k ∷ ks) are =
    let whole = ap (λ x. n * x) (sum_by-cons (value_at dual.u) k ks) in
    omega (
      arith,
      whole,
      sum_by-cons (value_at more.u) k ks,
      are k (Contains-head k ks),
      values_times n dual more ks (λ m c. are m (Contains-later k ks m c)),
    )

scaled_dual : (p : Problem) (part n : ℕ) (c : ℕ × ℕ) (dual more : Prices) → IsDual p part c dual → IsTimes p n dual more
    → IsDual p (n * part) c more
scaled_dual p part n c dual more is times = record {
  are_candidates = times.are_candidates;
  one_hub = λ k here allowed.
      (let m = mul-le-mul_left n (is.one_hub k here allowed) in omega (arith, m, times.price_is, times.values_are k here));
  two_hubs = λ k m in_k in_m apart allowed.
      (let e = mul-le-mul_left n (is.two_hubs k m in_k in_m apart allowed) in
      omega (arith, e, times.price_is, times.values_are k in_k, times.values_are m in_m));
}

equal_times : (n g a t e v cost sum more total : ℕ) → g * (2 * a + 2 * t * (e * v)) ≡ e * cost + g * sum → more ≡ n * a → total ≡ n * sum
    → g * (2 * more + 2 * t * (n * e * v)) ≡ n * e * cost + g * total
equal_times n g a t e v cost sum more total equal is sums =
    let m = ap (λ x. n * x) equal in
    let b = ap (λ x. g * x) is in
    let s = ap (λ x. g * x) sums in
    omega (arith, m, b, s)

tight_times : (n a e v sum more total : ℕ) → a ≡ e * v + sum → more ≡ n * a → total ≡ n * sum → more ≡ n * e * v + total
tight_times n a e v sum more total tight is sums = let m = ap (λ x. n * x) tight in omega (arith, m, is, sums)

pub core_is_scaled : (p : Problem) (hubs : List ℕ) (part n : ℕ) (c : ℕ × ℕ) (dual more : Prices) (proof : CoreProof)
    → IsHubSet p hubs → IsDual p part c dual → IsCoreDual p hubs part c dual proof → IsTimes p n dual more
    → IsByFlow (flow p c.0 c.1) more.a → All (λ k. IsByFlow (flow p c.0 c.1) (value_at more.u k)) p.candidates
    → IsDual p (n * part) c more × IsCoreDual p hubs (n * part) c more proof
core_is_scaled p hubs part n c dual more proof set is core times price values =
    let at_hubs = values_times n dual more hubs (λ k hub. times.values_are k (All-contains (Contains p.candidates) hubs k set.are_candidates hub)) in
    let at_all = values_times n dual more p.candidates times.values_are in (
      scaled_dual p part n c dual more is times,
      record {
        price_by_flow = price;
        values_by_flow = values;
        tight = tight_times n dual.a part (least_cost p hubs c) (values_on dual hubs) more.a (values_on more hubs) core.tight times.price_is at_hubs;
        cover = core.cover;
        equal = equal_times n proof.scale dual.a proof.turns part (least_cost p hubs c) (ways_cost p c proof.ways) (values_on dual p.candidates) more.a
            (values_on more p.candidates) core.equal times.price_is at_all;
      },
    )
