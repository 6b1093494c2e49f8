-- What lines of duals say of a cut.
use Rattle.std.proofs.Common.{◌≡◌, ℕ, ◌+◌, ◌/◌, ◌%◌, ◌<◌, IsTrue, ◌↔◌, Bool, true, false, List, inl, inr, sym, subst, ◌∙◌, arith}
use Rattle.std.proofs.lemmas.Bool.{cases_eq, false≢true}
use Rattle.hub_spec.specs.Problem.{Problem, commodity_at}
use Rattle.hub_spec.specs.Cuts.{Prices, IsDual}
use Rattle.dual_lines.specs.Lines.{ListedDual}
use Rattle.cert_checker.specs.Duals.{IsDualAt}

-- a line of the problem that holds is of a feasible dual
pub line_holds : (p : Problem) (part n t : ℕ) (d : Prices) (holds : Bool) (l : ListedDual) → n ≡ p.size
    → l ≡ record { problem = p; commodity = (t / n, t % n); part = part; run = 1; dual = d }
    → (IsTrue holds ↔ ((s : ℕ) → s < l.run → IsDual l.problem l.part (l.commodity.0, l.commodity.1 + s) l.dual)) → holds ≡ true
    → IsDual p part (commodity_at p.size t) d
line_holds p part n t d holds l size is says held =
    let moved = subst (λ (l : ListedDual). IsTrue holds ↔ ((s : ℕ) → s < l.run → IsDual l.problem l.part (l.commodity.0, l.commodity.1 + s) l.dual)) is says in
    let same : t % n + 0 ≡ t % n = omega arith in
    subst (λ (m : ℕ). IsDual p part (t / m, t % m) d) size
    (subst (λ (j : ℕ). IsDual p part (t / n, j) d) same (moved.0 held 0 (omega arith)))

-- and one that does not hold is of none
pub line_fails : (p : Problem) (part n t : ℕ) (d : Prices) (holds : Bool) (l : ListedDual) → n ≡ p.size
    → l ≡ record { problem = p; commodity = (t / n, t % n); part = part; run = 1; dual = d }
    → (IsTrue holds ↔ ((s : ℕ) → s < l.run → IsDual l.problem l.part (l.commodity.0, l.commodity.1 + s) l.dual)) → holds ≡ false
    → IsDual p part (commodity_at p.size t) d → ⊥
line_fails p part n t d holds l size is says fails dual =
    let moved = subst (λ (l : ListedDual). IsTrue holds ↔ ((s : ℕ) → s < l.run → IsDual l.problem l.part (l.commodity.0, l.commodity.1 + s) l.dual)) is says in
    let here = subst (λ (m : ℕ). IsDual p part (t / m, t % m) d) (sym size) dual in
    let told = moved.1 (λ s below. (let same : t % n ≡ t % n + s = omega (arith, below) in subst (λ (j : ℕ). IsDual p part (t / n, j) d) same here)) in
    false≢true (sym fails ∙ told)

-- with the dual of one more commodity
pub one_more : (p : Problem) (part : ℕ) (duals : List Prices) (i : ℕ) → ((t : ℕ) → t < i → IsDualAt p part duals t) → IsDualAt p part duals i
    → (t : ℕ) → t < i + 1 → IsDualAt p part duals t
one_more p part duals i so_far here t below = elim (cases_eq t i) [
  | inl same ↦ rw same here
  | inr apart ↦ so_far t (omega (arith, below, apart))
]
