-- What fails first of a cut of an older certificate, by the place of its line among those of the cut.
use Rattle.std.specs.Prelude.{◌≡◌, ℕ, ◌+◌, ◌-◌, ◌*◌, ◌<◌, List, length, Option, Some, None}
use Rattle.hub_spec.specs.Problem.{Problem}
use Rattle.hub_spec.specs.Cuts.{Prices, Cut, IsWithinSums}
use Rattle.core_spec.specs.CoreCuts.{Mark}
use Rattle.cert_spec.specs.Text.{dual_runs}
use Rattle.cert_conditions.specs.declared.kinds.Kind as code
use Rattle.cert_checker.specs.Runs.{place_of}
use Rattle.cert_checker.specs.Duals.{IsDualAt, FailsAt}

-- the place of the dual of this number among the lines of its cut, the first of which has the place 0; in a marked cut a
-- proof follows each dual
abbrev pub dual_place : ℕ → ℕ → List Prices → Option Mark → ℕ → ℕ
dual_place v n duals None t = 1 + place_of (dual_runs v n duals) t
dual_place v n duals (Some mark) t = 1 + 2 * t

-- how many lines the cut takes
abbrev pub cut_lines : ℕ → ℕ → Cut → Option Mark → ℕ
cut_lines v n cut None = length (dual_runs v n cut.duals) + 1
cut_lines v n cut (Some mark) = 2 * length cut.duals + 1

-- a dual is the first that is not feasible, at its line, or all are, and the sums pass their limit, at the line of the last
abbrev pub CutFails : ℕ → Problem → Cut → Option Mark → code.Kind × ℕ → Type 0
CutFails v p cut mark (code.TheVariants.Dual, place) =
    (t : ℕ) × FailsAt p cut.part cut.duals t × (place ≡ dual_place v p.size cut.duals mark t)
CutFails v p cut mark (code.TheVariants.Sum, place) =
    ((t : ℕ) → t < length cut.duals → IsDualAt p cut.part cut.duals t) × (IsWithinSums p cut → ⊥)
    × (place ≡ dual_place v p.size cut.duals mark (p.size * p.size - 1))
CutFails v p cut mark (kind, place) = ⊥
