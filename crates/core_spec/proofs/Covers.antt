-- What a cover of ways says of every feasible dual of its commodity.
use Rattle.std.proofs.Common.{◌≡◌, ℕ, ◌+◌, ◌*◌, ◌≤◌, cond, List, [], ◌∷◌, min, None, sum_by, nat_eq, All, Contains, ⊎_elim, refl, ap, sym, ◌∙◌, eq-eqb, add-mul, mul-le-mul_left, mul-le-mul_right, arith}
use Rattle.std.proofs.Math.Nat.{le_of_mul-le-mul_left}
use Rattle.std.proofs.lemmas.Bool.{cases_lt, cases_eq, false≢true}
use Rattle.std.proofs.lemmas.List.Elements.{All-head, All-tail, All-contains}
use Rattle.std.proofs.lemmas.List.Sums.{sum_by-cons}
use Rattle.hub_spec.specs.Problem.{Problem, IsProblem, route_cost}
use Rattle.hub_spec.specs.Edges.{least_cost}
use Rattle.hub_spec.specs.Plans.{IsHubSet}
use Rattle.hub_spec.specs.Cuts.{Prices, value_at, IsDual}
use Rattle.hub_spec.proofs.SumLemmas.{by_test, sum_by-plus, sum_by-times, sum_by-same, within_sum, two_within_sum}
use Rattle.hub_spec.proofs.Sets.{is_in, is_in-yes, Contains-from_is_in, part_is_filter}
use Rattle.core_spec.specs.CoreCuts.{Way, CoreProof, taken_at, taken, taken_through, ways_cost, pair_cost, values_on, IsCover, IsCoreDual}
use Rattle.core_spec.proofs.EdgeCosts.{pair_cost_is}
use Rattle.hub_spec.proofs.PlanCosts.{any_allowed}
use Rattle.core_spec.proofs.SetSums.{sum_by-below, sum_by-passing}

-- ---- one way

below_cheaper : (a e r s v : ℕ) → a ≤ e * r + v → a ≤ e * s + v → a ≤ e * min r s + v
below_cheaper a e r s v forth back =
    ⊎_elim (λ less. (let m : min r s ≡ r = omega arith in rw m forth)) (λ not_less. (let m : min r s ≡ s = omega arith in rw m back)) (cases_lt r s)

way_step : (y a e cost v sum : ℕ) → a ≤ e * cost + v → y * v ≤ sum → y * a ≤ e * (y * cost) + sum
way_step y a e cost v sum below within = let m = mul-le-mul_left y below in omega (arith, m)

taken_at-first : (way : Way) → taken_at way.0 way ≡ way.2
taken_at-first way = rw (eq-eqb way.0 way.0 refl) refl

taken_at-last : (way : Way) → taken_at way.1 way ≡ way.2
taken_at-last way = by_test (nat_eq way.0 way.1) (λ e. rw e refl) (λ e. rw (e, eq-eqb way.1 way.1 refl) refl)

single_bound : (p : Problem) (part : ℕ) (c : ℕ × ℕ) (d : Prices) (k m : ℕ) → p.longest ≡ None → IsDual p part c d → Contains p.candidates k → k ≡ m
    → d.a ≤ part * pair_cost p c k m + value_at d.u k
single_bound p part c d k m any dual in_k same =
    let here = dual.one_hub k in_k (any_allowed p c k k any) in
    let e : pair_cost p c k m ≡ route_cost p c.0 c.1 k k =
    ap (pair_cost p c k) (sym same) ∙ pair_cost_is p c k k any ∙ omega arith in
    rw e here

edge_bound : (p : Problem) (part : ℕ) (c : ℕ × ℕ) (d : Prices) (k m : ℕ) → p.longest ≡ None → IsDual p part c d → Contains p.candidates k
    → Contains p.candidates m → (k ≡ m → ⊥) → d.a ≤ part * pair_cost p c k m + (value_at d.u k + value_at d.u m)
edge_bound p part c d k m any dual in_k in_m apart =
    let forth = dual.two_hubs k m in_k in_m apart (any_allowed p c k m any) in
    let back = dual.two_hubs m k in_m in_k (λ e. apart (sym e)) (any_allowed p c m k any) in
    rw (pair_cost_is p c k m any) (below_cheaper d.a part (route_cost p c.0 c.1 k m) (route_cost p c.0 c.1 m k) (value_at d.u k + value_at d.u m)
    (omega (arith, forth)) (omega (arith, back)))

-- the price, as often as a way is taken, is within what the way costs and the values of its nodes
way_bound : (p : Problem) (part : ℕ) (c : ℕ × ℕ) (d : Prices) (way : Way) → p.longest ≡ None → IsDual p part c d → Contains p.candidates way.0
    → Contains p.candidates way.1
    → way.2 * d.a ≤ part * (way.2 * pair_cost p c way.0 way.1) + sum_by (λ k. taken_at k way * value_at d.u k) p.candidates
way_bound p part c d way any dual in_first in_last =
    let f = λ (k : ℕ). taken_at k way * value_at d.u k in
    let first : f way.0 ≡ way.2 * value_at d.u way.0 = ap (λ n. n * value_at d.u way.0) (taken_at-first way) in
    let last : f way.1 ≡ way.2 * value_at d.u way.1 = ap (λ n. n * value_at d.u way.1) (taken_at-last way) in
    ⊎_elim
    (λ same. way_step way.2 d.a part (pair_cost p c way.0 way.1) (value_at d.u way.0) (sum_by f p.candidates)
    (single_bound p part c d way.0 way.1 any dual in_first same)
    (omega (arith, first, within_sum f p.candidates way.0 in_first)))
    (λ apart. way_step way.2 d.a part (pair_cost p c way.0 way.1) (value_at d.u way.0 + value_at d.u way.1) (sum_by f p.candidates)
    (edge_bound p part c d way.0 way.1 any dual in_first in_last apart)
    (omega (arith, first, last, two_within_sum f p.candidates way.0 way.1 in_first in_last apart)))
    (cases_eq way.0 way.1)

-- ---- all ways

ways_step : (y ys a cost costs whole_cost e sum sums : ℕ) → y * a ≤ e * (y * cost) + sum → ys * a ≤ e * costs + sums
    → whole_cost ≡ y * cost + costs → (y + ys) * a ≤ e * whole_cost + (sum + sums)
ways_step y ys a cost costs whole_cost e sum sums one rest whole =
    let m = ap (λ n. e * n) whole in omega (arith, m)

pub ways_bound : (p : Problem) (part : ℕ) (c : ℕ × ℕ) (d : Prices) (ways : List Way) → p.longest ≡ None → IsDual p part c d
    → All (λ (way : Way). Contains p.candidates way.0 × Contains p.candidates way.1) ways
    → taken ways * d.a ≤ part * ways_cost p c ways + sum_by (λ k. taken_through ways k * value_at d.u k) p.candidates
ways_bound p part c d [] any dual each = omega arith
ways_bound p part c d (way ∷ ways) any dual each =
    let here = All-head (λ (w : Way). Contains p.candidates w.0 × Contains p.candidates w.1) way ways each in
    let one = way_bound p part c d way any dual here.0 here.1 in
    let rest = ways_bound p part c d ways any dual
    (All-tail (λ (w : Way). Contains p.candidates w.0 × Contains p.candidates w.1) way ways each) in
    let number = sum_by-cons (λ (w : Way). w.2) way ways in
    let costs = sum_by-cons (λ (w : Way). w.2 * pair_cost p c w.0 w.1) way ways in
    let spread = sum_by-same (λ k. taken_through (way ∷ ways) k * value_at d.u k)
    (λ k. taken_at k way * value_at d.u k + taken_through ways k * value_at d.u k) p.candidates
    (λ k. rw (sum_by-cons (taken_at k) way ways) (add-mul (taken_at k way) (taken_through ways k) (value_at d.u k))) in
    let split = sum_by-plus (λ k. taken_at k way * value_at d.u k) (λ k. taken_through ways k * value_at d.u k) p.candidates in
    rw (number, spread, split)
    (ways_step way.2 (taken ways) d.a (pair_cost p c way.0 way.1) (ways_cost p c ways) (ways_cost p c (way ∷ ways)) part
    (sum_by (λ k. taken_at k way * value_at d.u k) p.candidates)
    (sum_by (λ k. taken_through ways k * value_at d.u k) p.candidates) one rest costs)

-- ---- the values that a cover counts

counted_at : (p : Problem) (hubs : List ℕ) (proof : CoreProof) (v : ℕ → ℕ) (k : ℕ) → IsCover p hubs proof → Contains p.candidates k
    → taken_through proof.ways k * v k
    ≤ proof.scale * v k + cond (is_in hubs k) (proof.scale * (2 * proof.turns) * v k) 0
counted_at p hubs proof v k cover in_k =
    by_test (is_in hubs k)
    (λ e. rw e (let m = mul-le-mul_right (v k) (All-contains (λ x. taken_through proof.ways x ≤ proof.scale * (1 + 2 * proof.turns)) hubs k cover.at_hubs (Contains-from_is_in hubs k e)) in
    omega (arith, m)))
    (λ e. rw e (let m = mul-le-mul_right (v k) (All-contains (λ x. (Contains hubs x → ⊥) → taken_through proof.ways x ≤ proof.scale) p.candidates k cover.elsewhere in_k
    (λ hub. false≢true (sym e ∙ is_in-yes hubs k hub))) in
    omega (arith, m)))

pub counted : (p : Problem) (hubs : List ℕ) (proof : CoreProof) (v : ℕ → ℕ) → IsProblem p → IsHubSet p hubs → IsCover p hubs proof
    → sum_by (λ k. taken_through proof.ways k * v k) p.candidates
    ≤ proof.scale * sum_by v p.candidates + proof.scale * (2 * proof.turns) * sum_by v hubs
counted p hubs proof v ok set cover =
    let extra = λ (k : ℕ). proof.scale * (2 * proof.turns) * v k in
    let below = sum_by-below (λ k. taken_through proof.ways k * v k)
    (λ k. proof.scale * v k + cond (is_in hubs k) (extra k) 0) p.candidates
    (λ k in_k. counted_at p hubs proof v k cover in_k) in
    let split = sum_by-plus (λ k. proof.scale * v k) (λ k. cond (is_in hubs k) (extra k) 0) p.candidates in
    let all = sum_by-times proof.scale v p.candidates in
    let at_hubs : sum_by (λ k. cond (is_in hubs k) (extra k) 0) p.candidates ≡ sum_by extra hubs =
    sum_by-passing extra (is_in hubs) p.candidates
    ∙ ap (sum_by extra) (part_is_filter p.candidates hubs ok.candidates_ascend set.ascend set.are_candidates) in
    let times = sum_by-times (proof.scale * (2 * proof.turns)) v hubs in
    omega (arith, below, split, all, at_hubs, times)

-- ---- a commodity

-- the price and the values of a Pareto-optimal dual, of part e, against those of a tight dual of part f
outweighs : (e f g t v b w wh taken cost sum a u : ℕ) → 1 ≤ g → g * (2 + 2 * t) ≤ taken → taken * b ≤ f * cost + sum
    → sum ≤ g * w + g * (2 * t) * wh → b ≡ f * v + wh → g * (2 * a + 2 * t * (e * v)) ≡ e * cost + g * u
    → e * (2 * b) + f * u ≤ f * (2 * a) + e * w
outweighs e f g t v b w wh taken cost sum a u some enough bound within tight equal =
    let m1 = mul-le-mul_right b enough in
    let m2 = ap (λ n. g * (2 * t) * n) tight in
    let k1 : g * (2 * b) + g * (2 * t) * (f * v) ≤ f * cost + g * w = omega (arith, m1, m2) in
    let k2 = mul-le-mul_left e k1 in
    let k3 = ap (λ n. f * n) equal in
    let k4 : g * (e * (2 * b) + f * u) ≤ g * (f * (2 * a) + e * w) = omega (arith, k2, k3) in
    le_of_mul-le-mul_left k4 some

-- twice the price less all values, over the part: a Pareto-optimal dual has at least that of any dual tight at the hubs
pub core_outweighs : (p : Problem) (hubs : List ℕ) (e f : ℕ) (c : ℕ × ℕ) (d tight : Prices) (proof : CoreProof)
    → IsProblem p → p.longest ≡ None → IsHubSet p hubs → IsCoreDual p hubs e c d proof → IsDual p f c tight
    → tight.a ≡ f * least_cost p hubs c + values_on tight hubs
    → e * (2 * tight.a) + f * values_on d p.candidates ≤ f * (2 * d.a) + e * values_on tight p.candidates
core_outweighs p hubs e f c d tight proof ok any set core dual is_tight =
    outweighs e f proof.scale proof.turns (least_cost p hubs c) tight.a (values_on tight p.candidates) (values_on tight hubs)
    (taken proof.ways) (ways_cost p c proof.ways) (sum_by (λ k. taken_through proof.ways k * value_at tight.u k) p.candidates)
    d.a (values_on d p.candidates) core.cover.some_scale core.cover.enough
    (ways_bound p f c tight proof.ways any dual core.cover.by_candidates)
    (counted p hubs proof (value_at tight.u) ok set core.cover) is_tight core.equal
