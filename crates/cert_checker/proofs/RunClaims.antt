-- The conditions of a cut's duals, run by run, where each dual is tried by itself.
use Rattle.std.proofs.Common.{◌≡◌, ℕ, suc, ◌+◌, ◌-◌, ◌*◌, ◌<◌, List, [], ◌∷◌, ◌++◌, length, drop, get_or, replicate, inl, inr, ⊎_elim, refl, sym, ap, subst, ◌∙◌, arith}
use Rattle.std.specs.List.{AllZip}
use Rattle.std.proofs.Math.Seq.{drop-append_seam}
use Rattle.std.proofs.lemmas.Bool.{cases_lt}
use Rattle.std.proofs.lemmas.List.{get_or-drop, get_or_append_left, get_or-replicate, length-replicate, drop-drop}
use Rattle.hub_spec.specs.Problem.{Problem, commodities, commodity_at}
use Rattle.hub_spec.specs.Cuts.{Prices, IsDual}
use Rattle.hub_spec.proofs.CommodityIndex.{commodities_from, commodities_by_number}
use Rattle.cert_spec.specs.Runs.{spread}
use Rattle.cert_spec.specs.Text.{dual_runs}
use Rattle.cert_spec.specs.Conditions.{Dual, AllHold, FailsFirst, IsDualOfRun}
use Rattle.cert_spec.proofs.PartConditions.{dual_claims}
use Rattle.cert_spec.proofs.Claims.{spread_dual_runs}
use Rattle.cert_spec.proofs.Leads.{length-spread}
use Rattle.cert_checker.specs.Runs.{place_of, no_dual}
use Rattle.cert_checker.specs.Duals.{IsDualAt, FailsAt}
use Rattle.cert_checker.proofs.RunPlaces.{place_within, place_behind}

-- a dual of a run that stands at some place
in_run : (duals ys : List Prices) (t r s : ℕ) (x : Prices) → drop t duals ≡ replicate r x ++ ys → s < r → get_or duals (t + s) no_dual ≡ x
in_run duals ys t r s x is less =
    sym (get_or-drop t duals s no_dual)
    ∙ ap (λ (ds : List Prices). get_or ds s no_dual) is
    ∙ get_or_append_left (replicate r x) ys no_dual s (omega (arith, less, length-replicate r x))
    ∙ get_or-replicate r s x no_dual less

-- what is behind it
behind_run : (duals ys : List Prices) (t r : ℕ) (x : Prices) → drop t duals ≡ replicate r x ++ ys → drop (t + r) duals ≡ ys
behind_run duals ys t r x is =
    sym (drop-drop r t duals)
    ∙ ap (drop r) is
    ∙ ap (λ (m : ℕ). drop m (replicate r x ++ ys)) (sym (length-replicate r x))
    ∙ drop-append_seam (replicate r x) ys

module _ (p : Problem) (part : ℕ) (duals : List Prices) where
  -- where the duals of a run's commodities are feasible
  run_feasible : (t : ℕ) (r : ℕ × Prices) (ys : List Prices) → drop t duals ≡ replicate r.0 r.1 ++ ys
      → ((s : ℕ) → s < r.0 → IsDualAt p part duals (t + s)) → IsDualOfRun p part t r
  run_feasible t r ys is each = record {
    each = λ s less. subst (λ (d : Prices). IsDual p part (commodity_at p.size (t + s)) d) (in_run duals ys t r.0 s r.1 is less) (each s less);
  }

  runs_hold : (line t : ℕ) (rs : List (ℕ × Prices)) → drop t duals ≡ spread rs
      → ((s : ℕ) → s < t + length (spread rs) → IsDualAt p part duals s) → AllHold (dual_claims p part line t rs)
  runs_hold line t [] is each = tt
  runs_hold line t (r ∷ rest) is each =
      let long = length-spread r.0 r.1 rest in (
        run_feasible t r (spread rest) is (λ s less. each (t + s) (omega (arith, long, less))),
        runs_hold (line + 1) (t + r.0) rest (behind_run duals (spread rest) t r.0 r.1 is) (λ s less. each s (omega (arith, long, less))),
      )

  runs_fail : (line t f : ℕ) (rs : List (ℕ × Prices)) → drop t duals ≡ spread rs → f < length (spread rs)
      → ((s : ℕ) → s < t + f → IsDualAt p part duals s) → (IsDualAt p part duals (t + f) → ⊥)
      → FailsFirst (dual_claims p part line t rs) Dual (line + place_of rs f)
  runs_fail line t f [] is within before here = absurd (omega (arith, within))
  runs_fail line t f (r ∷ rest) is within before here =
      ⊎_elim
      (λ less. inl (
        (λ of. here (subst (λ (d : Prices). IsDual p part (commodity_at p.size (t + f)) d) (sym (in_run duals (spread rest) t r.0 f r.1 is less)) (of.each f less))),
        refl,
        (let place = place_within r rest f less in omega (arith, place)),
      ))
      (λ more. (let left : r.0 + (f - r.0) ≡ f = omega (arith, more) in
      let place = place_behind r rest f (f - r.0) (sym left) in
      let at : t + r.0 + (f - r.0) ≡ t + f = omega (arith, more) in
      let later = runs_fail (line + 1) (t + r.0) (f - r.0) rest (behind_run duals (spread rest) t r.0 r.1 is)
      (omega (arith, within, length-spread r.0 r.1 rest, more)) (λ s less. before s (omega (arith, less, more)))
      (λ dual. here (subst (IsDualAt p part duals) at dual)) in
      let line_at : line + 1 + place_of rest (f - r.0) ≡ line + place_of (r ∷ rest) f = omega (arith, place) in
      inr (
        run_feasible t r (spread rest) is (λ s less. before (t + s) (omega (arith, less, more))),
        subst (λ (l : ℕ). FailsFirst (dual_claims p part (line + 1) (t + r.0) rest) Dual l) line_at later,
      )))
      (cases_lt f r.0)

-- where all duals are feasible
pub duals_hold : (p : Problem) (v part line : ℕ) (duals : List Prices) → ((s : ℕ) → s < length duals → IsDualAt p part duals s)
    → AllHold (dual_claims p part line 0 (dual_runs v p.size duals))
duals_hold p v part line duals each =
    let of = spread_dual_runs v p.size duals in
    runs_hold p part duals line 0 (dual_runs v p.size duals) (sym of) (λ s less. each s (omega (arith, less, ap length of)))

-- where this one is the first that is not
pub dual_fails : (p : Problem) (v part line f : ℕ) (duals : List Prices) → FailsAt p part duals f
    → FailsFirst (dual_claims p part line 0 (dual_runs v p.size duals)) Dual (line + place_of (dual_runs v p.size duals) f)
dual_fails p v part line f duals h =
    let of = spread_dual_runs v p.size duals in
    let at : 0 + f ≡ f = omega arith in
    runs_fail p part duals line 0 f (dual_runs v p.size duals) (sym of) (omega (arith, h.within, ap length of))
    (λ s less. h.before s (omega (arith, less))) (λ dual. h.here (subst (IsDualAt p part duals) at dual))

-- one for each commodity
zipped : (p : Problem) (part t : ℕ) (duals : List Prices) → ((s : ℕ) → s < length duals → IsDual p part (commodity_at p.size (t + s)) (get_or duals s no_dual))
    → AllZip (IsDual p part) (commodities_from p.size t (length duals)) duals
zipped p part t [] each = tt
zipped p part t (d ∷ duals) each =
    let here : t + 0 ≡ t = omega arith in (
      subst (λ (m : ℕ). IsDual p part (commodity_at p.size m) d) here (each 0 (omega arith)),
      zipped p part (t + 1) duals (λ s less. (let next : t + suc s ≡ t + 1 + s = omega arith in
          subst (λ (m : ℕ). IsDual p part (commodity_at p.size m) (get_or duals s no_dual)) next (each (suc s) (omega (arith, less))))),
    )

pub duals_zipped : (p : Problem) (part : ℕ) (duals : List Prices) → length duals ≡ p.size * p.size → ((s : ℕ) → s < length duals → IsDualAt p part duals s)
    → AllZip (IsDual p part) (commodities p.size) duals
duals_zipped p part duals long each =
    let all = zipped p part 0 duals (λ s less. (let at : s ≡ 0 + s = omega arith in
    subst (λ (m : ℕ). IsDual p part (commodity_at p.size m) (get_or duals s no_dual)) at (each s less))) in
    rw (commodities_by_number p.size) (subst (λ (m : ℕ). AllZip (IsDual p part) (commodities_from p.size 0 m) duals) long all)
