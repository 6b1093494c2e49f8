-- The tests of a tally pass exactly where a dual is Pareto-optimal by the proof.
use Rattle.std.proofs.Common.{◌≡◌, ◌↔◌, ℕ, ◌+◌, ◌*◌, ◌≤◌, List, [], ◌∷◌, ◌++◌, Some, All, Contains, IsTrue, None, refl, ap, sym, ◌∙◌, subst, slice_index, arith}
use Rattle.std.proofs.lemmas.List.Elements.{All-contains, All-nil, All-push, All-pop, All-weaker}
use Rattle.std.proofs.lemmas.List.Sums.{sum_by_push}
use Rattle.hub_spec.specs.Problem.{Problem}
use Rattle.hub_spec.specs.Plans.{IsCandidateSet}
use Rattle.hub_spec.specs.Cuts.{Prices, value_at}
use Rattle.hub_spec.proofs.SumLemmas.{sum_by-same}
use Rattle.hub_spec.proofs.Sets.{All-from_contains}
use Rattle.core_spec.specs.CoreCuts.{Way, CoreProof, taken_at, taken_through, pair_cost, values_on, IsByFlow, IsCoreDual}
use Rattle.core_lines.specs.Tallies.{ProofTally, carried, IsNoWay, IsWayAdded, IsTallyOf}
use Rattle.core_lines.specs.Tests.{IsListed, Proves, IsWithinCover, values_of}

abbrev OnCandidates : Problem → Way → Type 0
OnCandidates p way = Contains p.candidates way.0 × Contains p.candidates way.1

values_same : (dual : Prices) (values nodes : List ℕ) (price : ℕ) → IsListed dual price values → values_of values nodes ≡ values_on dual nodes
values_same dual values nodes price listed = sum_by-same (λ k. slice_index values k) (value_at dual.u) nodes listed.values_are

pub begins : (p : Problem) (c : ℕ × ℕ) (turns scale : ℕ) (t : ProofTally) → IsNoWay p c turns scale t
    → IsTallyOf (record { turns = turns; scale = scale; ways = [] }) t
begins p c turns scale t none = record {
  turns_is = none.turns_is;
  scale_is = none.scale_is;
  taken_is = none.taken_is;
  through_are = none.through_are;
  lengths_are = λ any. (let e = ap (λ n. carried t * n) none.lengths_is in omega (arith, e));
  known = (λ _. All-nil (OnCandidates t.problem), λ _. none.known);
}

pub has_way : (proof : CoreProof) (t later : ProofTally) (way : Way) → IsTallyOf proof t → IsWayAdded t way later
    → IsTallyOf (record { turns = proof.turns; scale = proof.scale; ways = proof.ways ++ way ∷ [] }) later
has_way proof t later way tally added =
    let costs = sum_by_push (λ (x : Way). x.2 * pair_cost t.problem t.commodity x.0 x.1) proof.ways way in
    record {
      turns_is = added.turns_is ∙ tally.turns_is;
      scale_is = added.scale_is ∙ tally.scale_is;
      taken_is = omega (arith, added.taken_is, tally.taken_is, sum_by_push (λ (x : Way). x.2) proof.ways way);
      through_are = λ k. omega (arith, added.through_are k, tally.through_are k, sum_by_push (taken_at k) proof.ways way);
      lengths_are = λ any.
          (let before : t.problem.longest ≡ None = ap (λ (p : Problem). p.longest) (sym added.problem_is) ∙ any in
          rw (added.problem_is, added.commodity_is) (omega (arith, added.lengths_are before, tally.lengths_are before, costs)));
      known = subst (λ (p : Problem). IsTrue later.by_candidates ↔ All (OnCandidates p) (proof.ways ++ way ∷ [])) (sym added.problem_is) (
        λ h. (let parts = added.known.0 h in All-push (OnCandidates t.problem) proof.ways way (tally.known.0 parts.0) (parts.1, parts.2)),
        λ all. (let parts = All-pop (OnCandidates t.problem) (proof.ways ++ way ∷ []) proof.ways (Some way) refl all in
            added.known.1 (tally.known.1 parts.0, parts.1.0, parts.1.1)),
      );
    }

-- ---- the test

shows : (hubs : List ℕ) (part price : ℕ) (values : List ℕ) (dual : Prices) (proof : CoreProof) (t : ProofTally)
    → t.problem.longest ≡ None → IsCandidateSet t.problem hubs → 1 ≤ proof.scale → IsTallyOf proof t → IsListed dual price values
    → Proves hubs part price values t → IsCoreDual t.problem hubs part t.commodity dual proof
shows hubs part price values dual proof t any set some tally listed proves =
    let w = carried t in
    let at = λ (k : ℕ) (c : Contains t.problem.candidates k). All-contains (IsWithinCover hubs t) t.problem.candidates k proves.covers.1 c in
    record {
      price_by_flow = subst (IsByFlow w) listed.price_is proves.price_by_flow;
      values_by_flow = All-weaker (λ k. IsByFlow w (slice_index values k)) (λ k. IsByFlow w (value_at dual.u k))
          (λ k h. subst (IsByFlow w) (listed.values_are k) h) t.problem.candidates proves.values_by_flow;
      tight = omega (arith, proves.tight, listed.price_is, values_same dual values hubs price listed);
      cover = record {
        some_scale = some;
        by_candidates = tally.known.0 proves.known;
        enough = rw (tally.scale_is, tally.turns_is, tally.taken_is) at proves.covers.0;
        at_hubs = All-from_contains (λ k. taken_through proof.ways k ≤ proof.scale * (1 + 2 * proof.turns)) hubs
            (λ k hub. (let h = (at k (All-contains (Contains t.problem.candidates) hubs k set.are_candidates hub)).0 hub in
            rw (tally.scale_is, tally.turns_is, tally.through_are k) at h));
        elsewhere = All-from_contains (λ k. (Contains hubs k → ⊥) → taken_through proof.ways k ≤ proof.scale) t.problem.candidates
            (λ k c none. (let h = (at k c).1 none in rw (tally.scale_is, tally.through_are k) at h));
      };
      equal = rw (tally.scale_is, tally.turns_is, listed.price_is, tally.lengths_are any, values_same dual values t.problem.candidates price listed) at proves.balanced;
    }

is_shown : (hubs : List ℕ) (part price : ℕ) (values : List ℕ) (dual : Prices) (proof : CoreProof) (t : ProofTally)
    → t.problem.longest ≡ None → IsTallyOf proof t → IsListed dual price values
    → IsCoreDual t.problem hubs part t.commodity dual proof → Proves hubs part price values t
is_shown hubs part price values dual proof t any tally listed core =
    let w = carried t in
    record {
      known = tally.known.1 core.cover.by_candidates;
      covers = (
        rw (tally.scale_is, tally.turns_is, tally.taken_is) core.cover.enough,
        All-from_contains (IsWithinCover hubs t) t.problem.candidates (λ k c. (
          λ hub. rw (tally.scale_is, tally.turns_is, tally.through_are k)
              (All-contains (λ m. taken_through proof.ways m ≤ proof.scale * (1 + 2 * proof.turns)) hubs k core.cover.at_hubs hub),
          λ none. rw (tally.scale_is, tally.through_are k)
              (All-contains (λ m. (Contains hubs m → ⊥) → taken_through proof.ways m ≤ proof.scale) t.problem.candidates k core.cover.elsewhere c none),
        )),
      );
      tight = omega (arith, core.tight, listed.price_is, values_same dual values hubs price listed);
      price_by_flow = subst (IsByFlow w) (sym listed.price_is) core.price_by_flow;
      values_by_flow = All-weaker (λ k. IsByFlow w (value_at dual.u k)) (λ k. IsByFlow w (slice_index values k))
          (λ k h. subst (IsByFlow w) (sym (listed.values_are k)) h) t.problem.candidates core.values_by_flow;
      balanced = rw (tally.scale_is, tally.turns_is, listed.price_is, tally.lengths_are any, values_same dual values t.problem.candidates price listed) core.equal;
    }

pub decides : (hubs : List ℕ) (part price : ℕ) (values : List ℕ) (dual : Prices) (proof : CoreProof) (t : ProofTally)
    → t.problem.longest ≡ None → IsCandidateSet t.problem hubs → 1 ≤ proof.scale → IsTallyOf proof t → IsListed dual price values
    → Proves hubs part price values t ↔ IsCoreDual t.problem hubs part t.commodity dual proof
decides hubs part price values dual proof t any set some tally listed =
    (shows hubs part price values dual proof t any set some tally listed, is_shown hubs part price values dual proof t any tally listed)
