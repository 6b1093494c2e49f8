-- Limits of what routes cost by unit of flow, and the least over a list with one more at its end.
use Rattle.std.proofs.Common.{ℕ, ◌+◌, ◌*◌, ◌^◌, ◌<◌, ◌≤◌, List, length, get_or, All, Contains, arith}
use Rattle.std.proofs.Math.Nat.{mul-le-mul}
use Rattle.std.proofs.lemmas.List.Elements.{All-get_or, All-contains, All-weaker}
use Rattle.hub_spec.specs.Limits.{most_nodes, most_distance, most_factor}
use Rattle.hub_spec.specs.Problem.{Problem, IsProblem}
use Rattle.hub_spec.specs.Plans.{IsCandidateSet}
use Rattle.hub_spec.proofs.Limits.{few_candidates}

pub leg_limit : (factor d : ℕ) → factor ≤ most_factor → d ≤ most_distance → factor * d ≤ 10000000000000000
leg_limit factor d few near = omega (arith, mul-le-mul few near)

pub hub_is_node : (p : Problem) (hubs : List ℕ) (x : ℕ) → IsProblem p → IsCandidateSet p hubs → x < length hubs → get_or hubs x 0 < p.size
hub_is_node p hubs x ok set within =
    All-contains (λ k. k < p.size) p.candidates (get_or hubs x 0) ok.candidates_are_nodes
    (All-get_or (Contains p.candidates) hubs x 0 within set.are_candidates)

pub few_are_candidates : (p : Problem) → IsProblem p → length p.candidates ≤ most_nodes
few_are_candidates p ok = omega (arith, few_candidates p.candidates p.size ok.candidates_ascend ok.candidates_are_nodes, ok.size_limit)

pub hubs_are_nodes : (p : Problem) (hubs : List ℕ) → IsProblem p → IsCandidateSet p hubs → All (λ k. k < p.size) hubs
hubs_are_nodes p hubs ok set =
    All-weaker (Contains p.candidates) (λ k. k < p.size) (λ k here. All-contains (λ m. m < p.size) p.candidates k ok.candidates_are_nodes here) hubs set.are_candidates

pub few_are_hubs : (p : Problem) (hubs : List ℕ) → IsProblem p → IsCandidateSet p hubs → length hubs ≤ most_nodes
few_are_hubs p hubs ok set = omega (arith, few_candidates hubs p.size set.ascend (hubs_are_nodes p hubs ok set), ok.size_limit)

pub level_limit : (scale price turns part long : ℕ) → scale ≤ 10 ^ 9 → price ≤ 10 ^ 20 → turns ≤ 1000 → part ≤ 1000 → long ≤ 3 * 10 ^ 16
    → scale * (2 * price + 2 * turns * (part * long)) ≤ 10 ^ 33
level_limit scale price turns part long few low turned parted near =
    let l = mul-le-mul parted near in
    let t : 2 * turns ≤ 2000 = omega arith in
    let m = mul-le-mul t l in
    let said : 2 * price + 2 * turns * (part * long) ≤ 10 ^ 24 = omega (arith, m) in
    omega (arith, mul-le-mul few said)
