-- Steps of a search through all sets of candidates, one candidate after another.
use Rattle.std.proofs.Common.{◌≡◌, ℕ, ◌+◌, ◌<◌, ◌≤◌, Bool, true, false, cond, List, [], ◌∷◌, ◌++◌, length, get_or, take, filter, Option, Some, None, nat_eq, Contains, refl, ap, ap₂, sym, ◌∙◌, eq-eqb, ne_eqb, arith}
use Rattle.std.specs.Prelude.{IfSome}
use Rattle.std.specs.List.Sorted.{IsStrictlyIncreasing}
use Rattle.std.proofs.lemmas.List.{take_all, length-take-le, get_or-take, get_or_default, append-nil}
use Rattle.std.proofs.lemmas.List.Elements.{filter_more}
use Rattle.std.proofs.lemmas.List.Kept.{AllPairs-from_increasing}
use Rattle.hub_spec.specs.Problem.{Problem, IsProblem}
use Rattle.hub_spec.specs.Plans.{Plan, plan_cost}
use Rattle.test_plain.specs.AllSets.{AreFirstHubs, IsWantedPlan, IsBest, CostsUpTo, IsNotDearer, NoneCheaper}
use Rattle.hub_spec.proofs.SumLemmas.{by_test}
use Rattle.hub_spec.proofs.Sets.{filter_same, is_in, part_is_filter}

-- ---- hubs chosen so far

pub first_hubs_none : (cs : List ℕ) → AreFirstHubs cs 0 []
first_hubs_none cs = (λ k. false, refl)

-- among the first candidates there is none from the next on
earlier_below : (cs : List ℕ) (at k : ℕ) → IsStrictlyIncreasing cs → at < length cs → Contains (take at cs) k → k < get_or cs at 0
earlier_below cs at k up within (n, l, e) =
    let short : n < at = omega (arith, length-take-le at cs (omega arith)) in
    let found : get_or cs n 0 ≡ k = get_or_default cs n 0 k (omega arith) ∙ sym (get_or-take at cs n k short) ∙ e in
    omega (arith, found, AllPairs-from_increasing cs up n at 0 short within)

-- a test with its answer changed at the next candidate keeps the same earlier candidates
chosen_same : (cs : List ℕ) (at : ℕ) (h : ℕ → Bool) (b : Bool) → IsStrictlyIncreasing cs → at < length cs
    → filter (λ k. cond (nat_eq k (get_or cs at 0)) b (h k)) (take at cs) ≡ filter h (take at cs)
chosen_same cs at h b up within = filter_same (λ k. cond (nat_eq k (get_or cs at 0)) b (h k)) h (take at cs) (λ k c.
    rw (ne_eqb k (get_or cs at 0) (λ e. absurd (omega (arith, earlier_below cs at k up within c, e)))) refl)

-- one more candidate, by the answer of the test
kept_more : (h : ℕ → Bool) (cs : List ℕ) (at : ℕ) (inside : List ℕ) (b : Bool) → at < length cs
    → filter h (take at cs) ≡ inside → h (get_or cs at 0) ≡ b
    → filter h (take (at + 1) cs) ≡ inside ++ cond b (get_or cs at 0 ∷ []) []
kept_more h cs at inside b within same answer =
    filter_more h cs at 0 within ∙ ap₂ (λ ks t. ks ++ cond t (get_or cs at 0 ∷ []) []) same answer

pub first_hubs_next : (cs : List ℕ) (at : ℕ) (inside : List ℕ) (b : Bool) → IsStrictlyIncreasing cs → at < length cs
    → AreFirstHubs cs at inside → AreFirstHubs cs (at + 1) (inside ++ cond b (get_or cs at 0 ∷ []) [])
first_hubs_next cs at inside b up within first =
    let h = λ (k : ℕ). cond (nat_eq k (get_or cs at 0)) b (first.0 k) in
    let answer : h (get_or cs at 0) ≡ b = rw (eq-eqb (get_or cs at 0) (get_or cs at 0) refl) refl in
    (h, kept_more h cs at inside b within (chosen_same cs at first.0 b up within ∙ first.1) answer)

-- ---- what no plan costs less than

-- what costs no more than another plan that was found
still_up_to : (p : Problem) (found next : Option Plan) (c : ℕ) → IsNotDearer p found next → CostsUpTo p found c
    → CostsUpTo p next c
still_up_to p None next c not_dearer up = absurd up
still_up_to p (Some b) None c not_dearer up = absurd not_dearer
still_up_to p (Some b) (Some n) c not_dearer up = omega (arith, not_dearer, up)

pub none_cheaper_next : (p : Problem) (at : ℕ) (inside : List ℕ) (opened closed : Option Plan) → at < length p.candidates
    → NoneCheaper p (at + 1) (inside ++ get_or p.candidates at 0 ∷ []) opened → NoneCheaper p (at + 1) inside closed
    → IsNotDearer p opened closed → NoneCheaper p at inside closed
none_cheaper_next p at inside opened closed within none_opened none_closed not_dearer = record {
  least = λ h plan wanted hubs same.
      let more = λ (b : Bool). kept_more h p.candidates at inside b within same in
      by_test (h (get_or p.candidates at 0))
      (λ e. still_up_to p opened closed (plan_cost p plan) not_dearer (none_opened.least h plan wanted hubs (more true e)))
      (λ e. none_closed.least h plan wanted hubs (more false e ∙ append-nil inside));
}

-- where all candidates are decided the hubs are known
decided : (p : Problem) (h : ℕ → Bool) (plan : Plan) (inside : List ℕ) → plan.hubs ≡ filter h p.candidates
    → filter h (take (length p.candidates) p.candidates) ≡ inside → plan.hubs ≡ inside
decided p h plan inside hubs same =
    hubs ∙ ap (filter h) (sym (take_all (length p.candidates) p.candidates (omega arith))) ∙ same

-- every plan has a set of candidates as its hubs
each_plan : (p : Problem) (found : Option Plan) (plan : Plan) → IsProblem p → NoneCheaper p 0 [] found → IsWantedPlan p plan
    → CostsUpTo p found (plan_cost p plan)
each_plan p found plan ok none wanted =
    let set = wanted.is_plan.hubs in
    let hubs = part_is_filter p.candidates plan.hubs ok.candidates_ascend set.ascend set.are_candidates in
    none.least (is_in plan.hubs) plan wanted (sym hubs) refl

pub found_is_best : (p : Problem) (found : Option Plan) → IsProblem p → IfSome found (IsWantedPlan p) → NoneCheaper p 0 [] found
    → IsBest p found
found_is_best p None ok known none = λ plan wanted. each_plan p None plan ok none wanted
found_is_best p (Some plan) ok known none = record {
  is_plan = known.is_plan;
  wanted = known.wanted;
  least = λ other is_plan wanted. each_plan p (Some plan) other ok none (record { is_plan = is_plan; wanted = wanted });
}
