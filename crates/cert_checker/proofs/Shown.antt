-- What a certificate shows that holds.
use Rattle.std.proofs.Common.{◌≡◌, ℕ, ◌≤◌, List, [], ◌∷◌, zip, Option, Some, Contains, inl, inr, ⊎_elim, subst, ◌∙◌, arith}
use Rattle.std.proofs.lemmas.Bool.{cases_eq}
use Rattle.std.specs.List.{AllZip}
use Rattle.hub_spec.specs.Problem.{Problem, IsProblem}
use Rattle.hub_spec.specs.Plans.{NoPlanBelow, IsOptimal}
use Rattle.cert_spec.specs.Stated.{Stated, IsStatedInRange, IsAsMarked, IsStatedOf}
use Rattle.cert_spec.specs.Conditions.{AllHold, conditions}
use Rattle.cert_spec.proofs.VerdictLemmas.{holds_by_lines}
use Rattle.hub_spec.proofs.WeakDuality.{no_plan_below_bound}
use Rattle.hub_spec.specs.Cuts.{Cut}
use Rattle.hub_spec.proofs.Decisions.{Contains-cases, Contains-none}
use Rattle.core_spec.specs.CoreCuts.{Mark}
use Rattle.core_spec.proofs.Undominated.{core_is_undominated}
use Rattle.cert_checker.specs.declared.verdicts.Verdict as answer
use Rattle.cert_checker.specs.Answers.{AreUndominated, IsByCost, IsVerdict, ShowsBound, ShowsOptimal, ShowsMarks}

pub shown_bound : (p : Problem) (k : Stated) → IsProblem p → IsStatedInRange k → AllHold (conditions p k) → IsStatedOf p k × NoPlanBelow p k.proof.bound
shown_bound p k ok range h =
    let holds = (holds_by_lines p k range).0 h in (holds, no_plan_below_bound p k.proof ok holds.holds)

pub shown_optimal : (p : Problem) (k : Stated) → IsProblem p → IsStatedInRange k → AllHold (conditions p k) → k.proof.bound ≡ k.proof.cost
    → IsOptimal p k.proof.plan
shown_optimal p k ok range h same =
    let shown = shown_bound p k ok range h in
    record { is_plan = shown.0.holds.plan; wanted = shown.0.holds.wanted; least = subst (NoPlanBelow p) (same ∙ shown.0.holds.cost) shown.1 }

-- what holds of each cut and its mark holds of these
as_marked : (p : Problem) (cuts : List Cut) (marks : List (Option Mark)) (x : Cut) (mark : Option Mark) → AllZip (IsAsMarked p) cuts marks
    → Contains (zip cuts marks) (x, mark) → IsAsMarked p x mark
as_marked p [] marks x mark all among = absurd (Contains-none (x, mark) among)
as_marked p (cut ∷ cuts) [] x mark all among = absurd (Contains-none (x, mark) among)
as_marked p (cut ∷ cuts) (m ∷ marks) x mark all among = elim (Contains-cases (cut, m) (zip cuts marks) (x, mark) among) [
  | inl same ↦ subst (λ (t : Cut × Option Mark). IsAsMarked p t.0 t.1) same all.0
  | inr later ↦ as_marked p cuts marks x mark all.1 later
]

pub shown_marks : (p : Problem) (k : Stated) → IsProblem p → IsStatedOf p k → AreUndominated p k
shown_marks p k ok holds x y mark among is_cut tight =
    core_is_undominated p x y mark ok (as_marked p k.proof.cuts k.marks x (Some mark) holds.marks among) is_cut tight

-- what the verdict says of a certificate whose conditions hold
pub record IsShown (p : Problem) (k : Stated) (v : answer.Verdict) : Type 0 where
  pub verdict : IsVerdict p k v
  pub bound : ShowsBound p k v
  pub optimal : ShowsOptimal p k v
  pub marks : ShowsMarks p k v

pub all_shown : (p : Problem) (k : Stated) (v : answer.Verdict) → IsProblem p → IsStatedInRange k → AllHold (conditions p k) → IsByCost k v → IsShown p k v
all_shown p k answer.TheVariants.Optimal ok range h same =
    let bound = shown_bound p k ok range h in
    record { verdict = (h, same); bound = bound; optimal = shown_optimal p k ok range h same; marks = shown_marks p k ok bound.0 }
all_shown p k answer.TheVariants.Bounds ok range h apart =
    let bound = shown_bound p k ok range h in
    let most : k.proof.bound ≤ k.proof.cost = bound.0.holds.bound in
    record {
      verdict = (h, ⊎_elim (λ (same : k.proof.bound ≡ k.proof.cost). absurd (apart same)) (λ other. omega (arith, most, other)) (cases_eq k.proof.bound k.proof.cost));
      bound = bound;
      optimal = tt;
      marks = shown_marks p k ok bound.0;
    }
all_shown p k (answer.TheVariants.No kind line) ok range h by = absurd by
