-- Loads by node, to which something is added for each candidate in turn.
use Rattle.std.proofs.Common.{◌≡◌, ◌≢◌, ℕ, ◌+◌, ◌<◌, List, length, set, slice_index, Contains, ⊎_elim, ap, sym, subst, ◌∙◌, arith}
use Rattle.std.proofs.lemmas.Bool.{cases_lt, false≢true}
use Rattle.std.proofs.lemmas.List.{get_or_default, get_or-set_same, get_or-set_other}
use Rattle.std.proofs.lemmas.List.Elements.{Contains-get_or}
use Rattle.std.proofs.lemmas.List.Kept.{AllPairs-from_increasing}
use Rattle.hub_spec.specs.Problem.{Problem, IsProblem}
use Rattle.hub_spec.proofs.Sets.{is_in, is_in-yes, Contains-from_is_in}
use Rattle.hub_spec.proofs.SumLemmas.{by_test}
use Rattle.hub_model.specs.CandidateLengths.{candidate_at}

-- the candidates at the first x places have these numbers added to their own, and the others have their own
pub record AreAdded (p : Problem) (x : ℕ) (added : ℕ → ℕ) (old new : List ℕ) : Type 0 where
  pub here : (s : ℕ) → s < x → slice_index new (candidate_at p s) ≡ slice_index old (candidate_at p s) + added (candidate_at p s)
  pub others : (k : ℕ) → ((s : ℕ) → s < x → candidate_at p s ≢ k) → slice_index new k ≡ slice_index old k

apart : (p : Problem) (s x : ℕ) → IsProblem p → s < x → x < length p.candidates → candidate_at p s ≢ candidate_at p x
apart p s x ok less within same =
    absurd (omega (arith, AllPairs-from_increasing p.candidates ok.candidates_ascend s x 0 less within, same))

-- the next candidate has nothing added yet
pub next_fresh : (p : Problem) (x : ℕ) (added : ℕ → ℕ) (old new : List ℕ) → IsProblem p → x < length p.candidates → AreAdded p x added old new
    → slice_index new (candidate_at p x) ≡ slice_index old (candidate_at p x)
next_fresh p x added old new ok within so_far = so_far.others (candidate_at p x) (λ s less. apart p s x ok less within)

pub added_more : (p : Problem) (x k sum : ℕ) (added : ℕ → ℕ) (old new : List ℕ) → IsProblem p → x < length p.candidates
    → k ≡ candidate_at p x → k < length new → sum ≡ slice_index new k + added k → AreAdded p x added old new
    → AreAdded p (x + 1) added old (set new k sum)
added_more p x k sum added old new ok place node within more so_far = record {
  here = λ s below. ⊎_elim
      (λ early. get_or-set_other new k (candidate_at p s) sum 0 (λ same. apart p s x ok early place (same ∙ node)) ∙ so_far.here s early)
      (λ late. (let same : x ≡ s = omega (arith, below, late) in
      subst (λ m. slice_index (set new k sum) m ≡ slice_index old m + added m) (node ∙ ap (candidate_at p) same)
      (get_or-set_same new k sum 0 within ∙ more ∙ ap (λ v. v + added k) fresh)))
      (cases_lt s x);
  others = λ m none. get_or-set_other new k m sum 0 (λ same. none x (omega arith) (sym (same ∙ node)))
      ∙ so_far.others m (λ s less. none s (omega (arith, less)));
}
  where
    fresh : slice_index new k ≡ slice_index old k
    fresh = subst (λ m. slice_index new m ≡ slice_index old m) (sym node) (next_fresh p x added old new ok place so_far)

-- once all candidates have had their turn, each node has what is added, where nothing is for one that is no candidate
pub added_all : (p : Problem) (x k : ℕ) (added : ℕ → ℕ) (old new : List ℕ) → x ≡ length p.candidates
    → ((m : ℕ) → (Contains p.candidates m → ⊥) → added m ≡ 0) → AreAdded p x added old new
    → slice_index new k ≡ slice_index old k + added k
added_all p x k added old new all none so_far = by_test (is_in p.candidates k)
    (λ yes. listed (Contains-from_is_in p.candidates k yes))
    (λ no. unlisted (λ there. false≢true (sym no ∙ is_in-yes p.candidates k there)))
  where
    listed : Contains p.candidates k → slice_index new k ≡ slice_index old k + added k
    listed (s, l, e) =
        let at : candidate_at p s ≡ k = get_or_default p.candidates s 0 k l ∙ e in
        subst (λ m. slice_index new m ≡ slice_index old m + added m) at (so_far.here s (omega (arith, l, all)))

    unlisted : (Contains p.candidates k → ⊥) → slice_index new k ≡ slice_index old k + added k
    unlisted away = omega (arith, none k away, so_far.others k (λ s below same. away (found s below same)))
      where
        found : (s : ℕ) → s < x → candidate_at p s ≡ k → Contains p.candidates k
        found s below same = subst (Contains p.candidates) same (Contains-get_or p.candidates s 0 (omega (arith, below, all)))
