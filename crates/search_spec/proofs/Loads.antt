-- A cut has no load of a node that is no candidate.
use Rattle.std.proofs.Common.{◌≡◌, ℕ, ◌+◌, List, [], ◌∷◌, sum_by, All, Contains, nat_eq, refl, ap₂, subst, ◌∙◌, eqb-true}
use Rattle.std.specs.List.{AllZip}
use Rattle.std.proofs.lemmas.List.Elements.{All-head, All-tail}
use Rattle.std.proofs.lemmas.List.Sums.{sum_by-cons}
use Rattle.hub_spec.specs.Problem.{Problem, commodities}
use Rattle.hub_spec.specs.Cuts.{Prices, Cut, value_at, load, IsDual, IsCut}
use Rattle.hub_spec.proofs.SumLemmas.{by_test}

no_value : (ks : List ℕ) (u : List (ℕ × ℕ)) (k : ℕ) → All (λ (entry : ℕ × ℕ). Contains ks entry.0) u → (Contains ks k → ⊥) → value_at u k ≡ 0
no_value ks [] k are off = refl
no_value ks (e ∷ es) k are off =
    by_test (nat_eq e.0 k)
    (λ same. absurd (off (subst (Contains ks) (eqb-true e.0 k same) (All-head (λ (entry : ℕ × ℕ). Contains ks entry.0) e es are))))
    (λ apart. rw apart (no_value ks es k (All-tail (λ (entry : ℕ × ℕ). Contains ks entry.0) e es are) off))

no_values : (p : Problem) (part : ℕ) (cs : List (ℕ × ℕ)) (ds : List Prices) (k : ℕ) → AllZip (IsDual p part) cs ds → (Contains p.candidates k → ⊥)
    → sum_by (λ (d : Prices). value_at d.u k) ds ≡ 0
no_values p part [] [] k are off = refl
no_values p part [] (d ∷ ds) k are off = absurd are
no_values p part (c ∷ cs) [] k are off = absurd are
no_values p part (c ∷ cs) (d ∷ ds) k are off =
    sum_by-cons (λ (x : Prices). value_at x.u k) d ds
    ∙ ap₂ (λ (m n : ℕ). m + n) (no_value p.candidates d.u k are.0.are_candidates off) (no_values p part cs ds k are.1 off)

pub no_load_off : (p : Problem) (cut : Cut) (k : ℕ) → IsCut p cut → (Contains p.candidates k → ⊥) → load cut k ≡ 0
no_load_off p cut k is off = no_values p cut.part (commodities p.size) cut.duals k is.duals off
