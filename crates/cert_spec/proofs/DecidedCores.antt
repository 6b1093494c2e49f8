-- Whether a cut may be marked, and whether a dual is Pareto-optimal by a proof, is decided.
use Rattle.std.proofs.Common.{◌≡◌, ℕ, ◌+◌, ◌*◌, ◌^◌, ◌%◌, ◌≤◌, Option, Some, None, List, length, All, Contains, inl, inr, refl, sym}
use Rattle.std.proofs.lemmas.Option.{none-some}
use Rattle.std.proofs.lemmas.Nat.Gcd.{dvd_of_mod-eq-zero, mod-eq-zero_of_dvd}
use Rattle.hub_spec.specs.Problem.{Problem, flow}
use Rattle.hub_spec.specs.Edges.{least_cost}
use Rattle.hub_spec.specs.Cuts.{Prices, value_at}
use Rattle.hub_spec.proofs.Decisions.{Decided, decided_by, decided_and, decided_le, decided_eq, decided_all, decided_contains}
use Rattle.core_spec.specs.CoreCuts.{Way, CoreProof, taken, taken_through, ways_cost, values_on, IsByFlow, IsCover, IsCoreDual, MayBeMarked}

decided_not : {P : Type 0} → Decided P → Decided (P → ⊥)
decided_not (inl p) = inr (λ np. np p)
decided_not (inr np) = inl np

decided_if : {P Q : Type 0} → Decided P → Decided Q → Decided (P → Q)
decided_if d (inl q) = inl (λ p. q)
decided_if (inl p) (inr nq) = inr (λ h. nq (h p))
decided_if (inr np) (inr nq) = inl (λ p. absurd (np p))

decided_none : (o : Option ℕ) → Decided (o ≡ None)
decided_none None = inl refl
decided_none (Some n) = inr (λ e. none-some n (sym e))

pub decided_may : (p : Problem) → Decided (MayBeMarked p)
decided_may p = decided_by
    {P = (p.longest ≡ None) × ((p.wanted ≡ None) × ((3 ≤ length p.candidates) × (length p.candidates ≤ 20)))}
    (λ h. record { any_length = h.0; any_number = h.1.0; some_candidates = h.1.1.0; few_candidates = h.1.1.1 })
    (λ h. (h.any_length, (h.any_number, (h.some_candidates, h.few_candidates))))
    (decided_and (decided_none p.longest)
    (decided_and (decided_none p.wanted) (decided_and (decided_le 3 (length p.candidates)) (decided_le (length p.candidates) 20))))

decided_by_flow : (carried x : ℕ) → Decided (IsByFlow carried x)
decided_by_flow carried x = decided_by {P = (x % carried ≡ 0) × (x ≤ 10 ^ 20 * carried)}
    (λ h. record { divides = dvd_of_mod-eq-zero carried h.0; limit = h.1 }) (λ h. (mod-eq-zero_of_dvd carried h.divides, h.limit))
    (decided_and (decided_eq (x % carried) 0) (decided_le x (10 ^ 20 * carried)))

-- the way is between candidates
abbrev IsByCandidates : Problem → Way → Type 0
IsByCandidates p way = Contains p.candidates way.0 × Contains p.candidates way.1

-- a node that is no hub is taken at most as often as it counts
abbrev IsTakenElsewhere : List ℕ → CoreProof → ℕ → Type 0
IsTakenElsewhere hubs proof k = (Contains hubs k → ⊥) → taken_through proof.ways k ≤ proof.scale

-- and a hub too
abbrev IsTakenAt : CoreProof → ℕ → Type 0
IsTakenAt proof k = taken_through proof.ways k ≤ proof.scale * (1 + 2 * proof.turns)

decided_cover : (p : Problem) (hubs : List ℕ) (proof : CoreProof) → Decided (IsCover p hubs proof)
decided_cover p hubs proof = decided_by
    {P = (1 ≤ proof.scale) × (All (IsByCandidates p) proof.ways × ((proof.scale * (2 + 2 * proof.turns) ≤ taken proof.ways)
    × (All (IsTakenAt proof) hubs × All (IsTakenElsewhere hubs proof) p.candidates)))}
    (λ h. record { some_scale = h.0; by_candidates = h.1.0; enough = h.1.1.0; at_hubs = h.1.1.1.0; elsewhere = h.1.1.1.1 })
    (λ h. (h.some_scale, (h.by_candidates, (h.enough, (h.at_hubs, h.elsewhere)))))
    (decided_and (decided_le 1 proof.scale)
    (decided_and (decided_all (IsByCandidates p) (λ way. decided_and (decided_contains p.candidates way.0) (decided_contains p.candidates way.1)) proof.ways)
    (decided_and (decided_le (proof.scale * (2 + 2 * proof.turns)) (taken proof.ways))
    (decided_and (decided_all (IsTakenAt proof) (λ k. decided_le (taken_through proof.ways k) (proof.scale * (1 + 2 * proof.turns))) hubs)
    (decided_all (IsTakenElsewhere hubs proof)
    (λ k. decided_if (decided_not (decided_contains hubs k)) (decided_le (taken_through proof.ways k) proof.scale)) p.candidates)))))

-- the value of the node is by flow
abbrev IsValueByFlow : Problem → ℕ × ℕ → Prices → ℕ → Type 0
IsValueByFlow p c dual k = IsByFlow (flow p c.0 c.1) (value_at dual.u k)

pub decided_core_dual : (p : Problem) (hubs : List ℕ) (part : ℕ) (c : ℕ × ℕ) (dual : Prices) (proof : CoreProof)
    → Decided (IsCoreDual p hubs part c dual proof)
decided_core_dual p hubs part c dual proof =
    let least = part * least_cost p hubs c in
    let twice = proof.scale * (2 * dual.a + 2 * proof.turns * least) in
    let ways = part * ways_cost p c proof.ways + proof.scale * values_on dual p.candidates in
    decided_by
    {P = IsByFlow (flow p c.0 c.1) dual.a × (All (IsValueByFlow p c dual) p.candidates × ((dual.a ≡ least + values_on dual hubs)
    × (IsCover p hubs proof × (twice ≡ ways))))}
    (λ h. record { price_by_flow = h.0; values_by_flow = h.1.0; tight = h.1.1.0; cover = h.1.1.1.0; equal = h.1.1.1.1 })
    (λ h. (h.price_by_flow, (h.values_by_flow, (h.tight, (h.cover, h.equal)))))
    (decided_and (decided_by_flow (flow p c.0 c.1) dual.a)
    (decided_and (decided_all (IsValueByFlow p c dual) (λ k. decided_by_flow (flow p c.0 c.1) (value_at dual.u k)) p.candidates)
    (decided_and (decided_eq dual.a (least + values_on dual hubs)) (decided_and (decided_cover p hubs proof) (decided_eq twice ways)))))
