-- The conditions on the duals of a marked cut, whose proofs are passed over.
use Rattle.std.proofs.Common.{◌≡◌, ℕ, zero, suc, ◌+◌, ◌-◌, ◌*◌, ◌<◌, ◌≤◌, nat_eq, false, List, [], ◌∷◌, length, get_or, inl, inr, refl, sym, ap, subst, eq-eqb, ne_eqb, arith}
use Rattle.hub_spec.specs.Problem.{Problem, commodity_at}
use Rattle.hub_spec.specs.Cuts.{Prices, IsDual, Cut, IsWithinSums}
use Rattle.core_spec.specs.CoreCuts.{CoreProof}
use Rattle.cert_spec.specs.Conditions.{claim, FailsFirst, if_time, IsDualOfRun, Dual, Sum}
use Rattle.cert_spec.proofs.PartConditions.{proved_claims}
use Rattle.cert_checker.specs.Runs.{no_dual}

module _ (p : Problem) (cut : Cut) (hubs : List ℕ) where
  -- of duals from this number on, each is feasible
  abbrev AreFeasible : ℕ → List Prices → ℕ → Type 0
  AreFeasible t duals end = (s : ℕ) → s < end → IsDual p cut.part (commodity_at p.size (t + s)) (get_or duals s no_dual)

  first_run : (t : ℕ) (d : Prices) → IsDual p cut.part (commodity_at p.size (t + 0)) d → IsDualOfRun p cut.part t (1, d)
  first_run t d here = record {
    each = λ s less. (let same : t + 0 ≡ t + s = omega (arith, less) in subst (λ (m : ℕ). IsDual p cut.part (commodity_at p.size m) d) same here);
  }

  others : (t : ℕ) (d : Prices) (duals : List Prices) (end : ℕ) → AreFeasible t (d ∷ duals) (suc end) → AreFeasible (t + 1) duals end
  others t d duals end each s less =
      let next : t + suc s ≡ t + 1 + s = omega arith in
      subst (λ (m : ℕ). IsDual p cut.part (commodity_at p.size m) (get_or duals s no_dual)) next (each (suc s) (omega (arith, less)))

  -- before the last dual the sums are not tried
  not_last : (t line : ℕ) (duals : List Prices) → 1 ≤ length duals → t + 1 + length duals ≡ p.size * p.size
      → if_time (nat_eq (t + 1) (p.size * p.size)) (claim Sum line (IsWithinSums p cut)) ≡ []
  not_last t line duals some all =
      ap (λ b. if_time b (claim Sum line (IsWithinSums p cut))) (ne_eqb (t + 1) (p.size * p.size) (λ e. omega (arith, e, some, all)))

  -- the dual of this number is the first that is not feasible
  pub dual_fails_at : (f line t : ℕ) (duals : List Prices) (proofs : List CoreProof) → length proofs ≡ length duals → t + length duals ≡ p.size * p.size
      → f < length duals → AreFeasible t duals f → (IsDual p cut.part (commodity_at p.size (t + f)) (get_or duals f no_dual) → ⊥)
      → FailsFirst (proved_claims p false cut hubs line t duals proofs) Dual (line + 2 * f)
  dual_fails_at f line t [] proofs long all within before here = absurd (omega (arith, within))
  dual_fails_at f line t (d ∷ duals) [] long all within before here = absurd (omega (arith, long))
  dual_fails_at zero line t (d ∷ duals) (proof ∷ proofs) long all within before here =
      inl ((λ run. here (run.each 0 (omega arith))), refl, omega arith)
  dual_fails_at (suc f) line t (d ∷ duals) (proof ∷ proofs) long all within before here =
      let none = not_last t line duals (omega (arith, within)) (omega (arith, all)) in
      let next : t + suc f ≡ t + 1 + f = omega arith in
      let later = dual_fails_at f (line + 2) (t + 1) duals proofs (omega (arith, long)) (omega (arith, all)) (omega (arith, within))
      (others t d duals f before) (λ dual. here (subst (λ (m : ℕ). IsDual p cut.part (commodity_at p.size m) (get_or duals f no_dual)) (sym next) dual)) in
      let at : line + 2 + 2 * f ≡ line + 2 * suc f = omega arith in
      inr (
        first_run t d (before 0 (omega arith)),
        rw none (subst (λ (l : ℕ). FailsFirst (proved_claims p false cut hubs (line + 2) (t + 1) duals proofs) Dual l) at later),
      )

  -- all are feasible, and the sums of the cut pass their limit
  pub sums_fail_at : (line t : ℕ) (duals : List Prices) (proofs : List CoreProof) → length proofs ≡ length duals → t + length duals ≡ p.size * p.size
      → 1 ≤ length duals → AreFeasible t duals (length duals) → (IsWithinSums p cut → ⊥)
      → FailsFirst (proved_claims p false cut hubs line t duals proofs) Sum (line + 2 * (length duals - 1))
  sums_fail_at line t [] proofs long all some each past = absurd (omega (arith, some))
  sums_fail_at line t (d ∷ duals) [] long all some each past = absurd (omega (arith, long))
  sums_fail_at line t (d ∷ []) (proof ∷ proofs) long all some each past =
      let last = eq-eqb (t + 1) (p.size * p.size) (omega (arith, all)) in
      inr (first_run t d (each 0 (omega arith)), rw last (inl (past, refl, omega arith)))
  sums_fail_at line t (d ∷ e ∷ duals) (proof ∷ proofs) long all some each past =
      let rest : List Prices = e ∷ duals in
      let none = not_last t line rest (omega arith) (omega (arith, all)) in
      let later = sums_fail_at (line + 2) (t + 1) rest proofs (omega (arith, long)) (omega (arith, all)) (omega arith) (others t d rest (length rest) each) past in
      let at : line + 2 + 2 * (length rest - 1) ≡ line + 2 * (length (d ∷ rest) - 1) = omega arith in
      inr (
        first_run t d (each 0 (omega arith)),
        rw none (subst (λ (l : ℕ). FailsFirst (proved_claims p false cut hubs (line + 2) (t + 1) rest proofs) Sum l) at later),
      )
