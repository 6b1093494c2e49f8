-- What an item of a mark or of a proof may be, by the lines and the part that stand.
use Rattle.std.proofs.Common.{◌≡◌, ℕ, suc, ◌+◌, ◌*◌, ◌<◌, ◌≤◌, List, [], ◌∷◌, ◌++◌, length, map, get_or, All, ⊎_elim, sym, ap, subst, ◌∙◌, length-append, mul-le-mul, mul-le-mul_right, suc-mul, arith}
use Rattle.std.specs.List.{AllPairs}
use Rattle.std.specs.List.Sorted.{IsStrictlyIncreasing}
use Rattle.std.proofs.lemmas.List.{get_or-map, length-map}
use Rattle.std.proofs.lemmas.List.Elements.{All-map, All-weaker}
use Rattle.hub_spec.specs.Problem.{Problem}
use Rattle.hub_spec.specs.Plans.{IsCandidateSet}
use Rattle.hub_spec.proofs.Limits.{few_candidates}
use Rattle.core_spec.specs.CoreCuts.{Way, CoreProof}
use Rattle.core_spec.specs.MarkRanges.{IsWayBefore, IsWayInRange, IsProofInRange}
use Rattle.cert_spec.specs.Grammar.{Shape, want_cut, want_proof}
use Rattle.cert_spec.specs.Progress.{Progress}
use Rattle.cert_conditions.specs.Sums.{last_of}
use Rattle.cert_conditions.specs.Steps.{MayMarkHub, MayEndProof, MayProof, MayWay}
use Rattle.cert_conditions.specs.Taken.{Part, some_mark, some_ways, StandsFirm, Keeps}
use Rattle.cert_conditions.specs.declared.checks.Checks.{Checks}
use Rattle.cert_conditions.proofs.Lists.{all_last, ascend_last, not_nil}
use Rattle.cert_conditions.proofs.Parting.{by_ways}
use Rattle.cert_conditions.proofs.MarkSteps.{last_sums}

-- ---- the ways of a proof are no more than the pairs of nodes

-- the number of a way's pair of nodes
abbrev pair_number : ℕ → Way → ℕ
pair_number n w = w.0 * n + w.1

number_below : (n : ℕ) (w : Way) → IsWayInRange n w → pair_number n w < n * n
number_below n w h =
    let row : suc w.0 * n ≤ n * n = mul-le-mul_right n (let x : suc w.0 ≤ n = omega (arith, h.nodes, h.last) in x) in
    omega (arith, row, suc-mul w.0 n, h.last)

numbers_ascend : (n : ℕ) (v w : Way) → IsWayInRange n v → IsWayBefore v w → pair_number n v < pair_number n w
numbers_ascend n v w h before =
    ⊎_elim
    (λ (less : v.0 < w.0). let row : suc v.0 * n ≤ w.0 * n = mul-le-mul_right n less in omega (arith, row, suc-mul v.0 n, h.last))
    (λ (same : (v.0 ≡ w.0) × (v.1 < w.1)). let row : v.0 * n ≡ w.0 * n = ap (λ x. x * n) same.0 in omega (arith, row, same.1))
    before

few_ways : (n : ℕ) (ways : List Way) → AllPairs IsWayBefore ways → All (IsWayInRange n) ways → length ways ≤ n * n
few_ways n ways ascend each =
    let long = length-map ways (pair_number n) in
    let none : Way = (0, 0, 0) in
    let up : IsStrictlyIncreasing (map (pair_number n) ways) =
    λ k below. (let here = get_or-map (pair_number n) ways k none 0 (omega arith) in
    let there = get_or-map (pair_number n) ways (k + 1) none 0 (omega arith) in
    omega (
      arith,
      here,
      there,
      numbers_ascend n (get_or ways k none) (get_or ways (k + 1) none) (each k none (omega arith))
          (ascend k (k + 1) none (omega arith) (omega arith)),
    )) in
    let within = few_candidates (map (pair_number n) ways) (n * n) up
    (All-map (λ m. m < n * n) (pair_number n) ways (All-weaker (IsWayInRange n) (λ w. pair_number n w < n * n) (number_below n) ways each)) in
    omega (arith, within, long)

-- ---- the items

pub may_mark_hub : (c : Checks) (s : Progress) (sh : Shape) (all x number part : ℕ) (front : List ℕ) (k : ℕ) → StandsFirm c s
    → Keeps c s (want_cut sh all x) (some_mark number part front) → IsStrictlyIncreasing (front ++ k ∷ [])
    → All (λ (m : ℕ). m < sh.size) (front ++ k ∷ []) → MayMarkHub c k
may_mark_hub c s sh all x number part front k st keeps up nodes =
    let below : k < sh.size = all_last (λ (m : ℕ). m < sh.size) front k nodes in
    record {
      node = omega (arith, below, keeps.0.wanted_is, ap (λ (q : Problem). q.size) st.proof_is);
      above = subst (All (λ (m : ℕ). m < k)) (sym keeps.2.1) (ascend_last front k up);
    }

may_end_proof : (c : Checks) (s : Progress) (sh : Shape) (all x t : ℕ) (part : Part) → StandsFirm c s
    → Keeps c s (want_proof sh all x t) part → MayEndProof c
may_end_proof c s sh all x t part st keeps =
    let d = keeps.1 in
    record {
      stands = λ e. not_nil d.front d.last (sym d.split ∙ e);
      any_length = ap (λ (q : Problem). q.longest) st.proof_is ∙ keeps.3.may.any_length;
      set = subst (λ (q : Problem). IsCandidateSet q c.mark.hubs) (sym st.proof_is) keeps.3.set;
      nodes = ap (λ (q : Problem). q.size) (st.dual_is ∙ sym st.proof_is);
    }

pub may_proof : (c : Checks) (s : Progress) (sh : Shape) (all x t turns scale : ℕ) (ways : List Way) (part : Part) → StandsFirm c s
    → Keeps c s (want_proof sh all x t) part → IsProofInRange sh.size (record { turns = turns; scale = scale; ways = ways })
    → MayProof c turns scale
may_proof c s sh all x t turns scale ways part st keeps range =
    let count : (last_of c.cuts).count ≡ t + 1 = (last_sums c.instance.now c s (t + 1) keeps.1).count_is ∙ keeps.1.count in
    record {
      some_dual = omega (arith, count);
      few_duals = omega (arith, count, keeps.2.more);
      nodes = ap (λ (q : Problem). q.size) st.proof_is;
      turns_limit = range.turns;
      some_scale = range.some_scale;
      scale_limit = range.scale;
      may_end = may_end_proof c s sh all x t part st keeps;
    }

pub may_way : (c : Checks) (s : Progress) (sh : Shape) (all x t : ℕ) (proof : CoreProof) (front : List Way) (w : Way) → StandsFirm c s
    → Keeps c s (want_proof sh all x t) (some_ways (by_ways proof front)) → IsProofInRange sh.size (by_ways proof (front ++ w ∷ []))
    → MayWay c w
may_way c s sh all x t proof front w st keeps range =
    let p = c.instance.now in
    let one = all_last (IsWayInRange sh.size) front w range.each in
    let size : c.mark.proof.problem.size ≡ p.size = ap (λ (q : Problem). q.size) st.proof_is in
    let few = few_ways sh.size (front ++ w ∷ []) range.ascend range.each in
    let square : p.size * p.size ≤ 200 * 200 = mul-le-mul st.problem.size_limit st.problem.size_limit in
    let wanted : sh.size * sh.size ≡ p.size * p.size = ap (λ n. n * n) keeps.0.wanted_is in
    record {
      first = omega (arith, one.nodes, one.last, size, keeps.0.wanted_is);
      last = omega (arith, one.last, size, keeps.0.wanted_is);
      often = one.most;
      few = omega (arith, keeps.4.count, few, length-append front (w ∷ []), square, wanted);
      may_end = may_end_proof c s sh all x t (some_ways (by_ways proof front)) st keeps;
    }
