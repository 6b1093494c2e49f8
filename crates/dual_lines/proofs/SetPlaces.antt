-- The places of candidates, set one by one.
use Rattle.std.proofs.Common.{◌≡◌, ◌≢◌, ℕ, ◌+◌, ◌<◌, ◌≤◌, List, length, set, slice_index, ⊎_elim, ap, sym, subst, ◌∙◌, arith}
use Rattle.std.proofs.lemmas.Bool.{cases_lt, cases_eq}
use Rattle.std.proofs.lemmas.List.{get_or-set_same, get_or-set_other}
use Rattle.std.proofs.lemmas.List.Kept.{AllPairs-from_increasing}
use Rattle.hub_spec.specs.Problem.{Problem, IsProblem}
use Rattle.hub_model.specs.CandidateLengths.{candidate_at}
use Rattle.leg_duals.proofs.CandidateTables.{candidate_node}

-- the places of the first candidates stand, and no other
pub record ArePlacesUpTo (p : Problem) (upto : ℕ) (places : List ℕ) : Type 0 where
  pub long : length places ≡ p.size
  pub place : (x : ℕ) → x < upto → slice_index places (candidate_at p x) ≡ x
  pub candidate : (k : ℕ) → k < p.size → slice_index places k < length p.candidates → candidate_at p (slice_index places k) ≡ k

pub places_more : (p : Problem) (x k : ℕ) (places : List ℕ) → IsProblem p → x < length p.candidates → k ≡ candidate_at p x
    → ArePlacesUpTo p x places → length (set places k x) ≡ length places → ArePlacesUpTo p (x + 1) (set places k x)
places_more p x k places ok within node so_far kept = record {
  long = kept ∙ so_far.long;
  place = λ y below. ⊎_elim
      (λ early. (let risen = AllPairs-from_increasing p.candidates ok.candidates_ascend y x 0 early within in
      let apart : candidate_at p y ≢ k = λ e. omega (arith, risen, e, node) in
      get_or-set_other places k (candidate_at p y) x 0 apart ∙ so_far.place y early))
      (λ late. (let same : x ≡ y = omega (arith, below, late) in
      subst (λ z. slice_index (set places k x) (candidate_at p z) ≡ z) same
      (ap (λ z. slice_index (set places k x) z) (sym node) ∙ here)))
      (cases_lt y x);
  candidate = λ m in_nodes below. ⊎_elim
      (λ same. subst (λ z. candidate_at p (slice_index (set places k x) z) ≡ z) same (ap (candidate_at p) here ∙ sym node))
      (λ apart. (let as_it_was = get_or-set_other places k m x 0 (λ e. apart (sym e)) in
      ap (candidate_at p) as_it_was ∙ so_far.candidate m in_nodes (omega (arith, below, as_it_was))))
      (cases_eq k m);
}
  where
    here : slice_index (set places k x) k ≡ x
    here = get_or-set_same places k x 0 (omega (arith, node, candidate_node p x ok within, so_far.long))
