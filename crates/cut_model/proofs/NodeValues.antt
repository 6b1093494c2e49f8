-- The values of nodes that a row lists by place.
use Rattle.std.proofs.Common.{◌≡◌, ℕ, zero, suc, ◌*◌, ◌<◌, ◌≤◌, min, List, [], ◌∷◌, length, get_or, zip, slice_index, Contains, refl, ap, sym, subst, ◌∙◌, eq-eqb, ne_eqb, arith}
use Rattle.std.specs.List.Sorted.{IsStrictlyIncreasing}
use Rattle.std.proofs.lemmas.List.Elements.{Contains-get_or}
use Rattle.hub_spec.specs.Problem.{Problem, IsProblem}
use Rattle.hub_spec.specs.Cuts.{value_at}
use Rattle.hub_spec.proofs.Sets.{Contains-head, Contains-later, ascend_head, ascend_tail}
use Rattle.hub_model.specs.CandidateLengths.{candidate_at, length_ceiling}
use Rattle.cut_model.specs.ValueRows.{node_value}

-- no value is above the ceiling
pub node_value_within : (p : Problem) (unit : ℕ) (row : List ℕ) (k : ℕ) → node_value p unit row k ≤ length_ceiling p
unfolding node_value
node_value_within p unit row k = omega arith

-- what is listed beside the entry of a place
value_beside : (ks row : List ℕ) (x : ℕ) → IsStrictlyIncreasing ks → length row ≡ length ks → x < length ks
    → value_at (zip ks row) (get_or ks x 0) ≡ get_or row x 0
value_beside [] row x up long within = absurd (omega (arith, within))
value_beside (k ∷ ks) [] x up long within = absurd (omega (arith, long))
value_beside (k ∷ ks) (v ∷ row) zero up long within = rw (eq-eqb k k refl) refl
value_beside (k ∷ ks) (v ∷ row) (suc x) up long within =
    let above = ascend_head k ks (get_or ks x 0) up (Contains-get_or ks x 0 (omega (arith, within))) in
    rw (ne_eqb k (get_or ks x 0) (λ same. absurd (omega (arith, same, above))))
    (value_beside ks row x (ascend_tail k ks up) (omega (arith, long)) (omega (arith, within)))

pub place_value : (p : Problem) (unit : ℕ) (row : List ℕ) (x : ℕ) → IsProblem p → length row ≡ length p.candidates
    → x < length p.candidates → node_value p unit row (candidate_at p x) ≡ min (length_ceiling p) (unit * slice_index row x)
unfolding node_value
place_value p unit row x ok long within =
    ap (λ v. min (length_ceiling p) (unit * v)) (value_beside p.candidates row x ok.candidates_ascend long within)

-- .. as it is worked out
pub worked_value : (p : Problem) (unit : ℕ) (row : List ℕ) (x ceiling v : ℕ) → IsProblem p → length row ≡ length p.candidates
    → x < length p.candidates → ceiling ≡ length_ceiling p → v ≡ min ceiling (unit * slice_index row x)
    → v ≡ node_value p unit row (candidate_at p x)
worked_value p unit row x ceiling v ok long within same is =
    is ∙ ap (λ (a : ℕ). min a (unit * slice_index row x)) same ∙ sym (place_value p unit row x ok long within)

-- nothing is listed beside a node that is not there
beside_none : (ks row : List ℕ) (k : ℕ) → (Contains ks k → ⊥) → value_at (zip ks row) k ≡ 0
beside_none [] row k none = refl
beside_none (m ∷ ks) [] k none = refl
beside_none (m ∷ ks) (v ∷ row) k none =
    rw (ne_eqb m k (λ same. none (subst (Contains (m ∷ ks)) same (Contains-head m ks))))
    (beside_none ks row k (λ later. none (Contains-later m ks k later)))

pub unlisted_none : (p : Problem) (unit : ℕ) (row : List ℕ) (k : ℕ) → (Contains p.candidates k → ⊥) → node_value p unit row k ≡ 0
unfolding node_value
unlisted_none p unit row k none =
    let nothing = ap (λ v. unit * v) (beside_none p.candidates row k none) in
    omega (arith, nothing)
