-- What a verdict on bytes shows of the plan that they name.
use Rattle.std.proofs.Common.{ℕ, ◌≤◌, List, length, sym, subst, ◌∙◌}
use Rattle.hub_spec.specs.Problem.{Problem, IsProblem}
use Rattle.hub_spec.specs.Plans.{NoPlanBelow}
use Rattle.hub_spec.proofs.WeakDuality.{no_plan_below_bound}
use Rattle.cert_spec.specs.Stated.{Stated}
use Rattle.cert_spec.specs.Text.{Spells}
use Rattle.cert_spec.specs.Verdicts.{Verdict, optimal, bounds, fails, misread, too_long, Why, Certifies, certificate_limit}
use Rattle.cert_checker.specs.Shows.{verdict_of, Proves, ProvesMarks, ProvesOptimal, ProvesBound}
use Rattle.cert_checker.specs.declared.verdicts.Ending.{Ending}
use Rattle.cert_checker.specs.declared.verdicts.Ending.TheVariants.{Optimal, Bounds, No, BadLine, Ended, TooLong}
use Rattle.cert_scan.specs.Parts.{items_of}
use Rattle.cert_conditions.specs.Taken.{HasTaken}
use Rattle.cert_conditions.specs.declared.checks.Checks.{Checks}
use Rattle.cert_conditions.proofs.Whole.{problem_by}
use Rattle.cert_checker.specs.Fed.{EndsAs}
use Rattle.cert_checker.proofs.Ends.{why_ends, marks_shown}

certifies_bound : (p : Problem) (bytes : List ℕ) (bound cost : ℕ) → IsProblem p → Certifies p bytes bound cost → ProvesBound p bytes bound cost
certifies_bound p bytes bound cost ok c =
    let k = c.certificate.0 in
    let holds = c.certificate.2.holds in
    record {
      certificate = k;
      spelled = c.certificate.1;
      plan = holds.plan;
      stated = c.certificate.4;
      paid = sym holds.cost ∙ c.certificate.4;
      below = subst (NoPlanBelow p) c.certificate.3 (no_plan_below_bound p k.proof ok holds);
    }

certifies_optimal : (p : Problem) (bytes : List ℕ) (cost : ℕ) → IsProblem p → Certifies p bytes cost cost → ProvesOptimal p bytes cost
certifies_optimal p bytes cost ok c =
    let k = c.certificate.0 in
    let holds = c.certificate.2.holds in
    record {
      certificate = k;
      spelled = c.certificate.1;
      stated = c.certificate.4;
      paid = sym holds.cost ∙ c.certificate.4;
      optimal = record {
        is_plan = holds.plan;
        wanted = holds.wanted;
        least = subst (NoPlanBelow p) (c.certificate.3 ∙ sym c.certificate.4 ∙ holds.cost) (no_plan_below_bound p k.proof ok holds);
      };
    }

pub shown : (p : Problem) (bytes : List ℕ) (verdict : Verdict) → IsProblem p → Why p bytes verdict → Proves p bytes verdict
shown p bytes (optimal cost) ok why = certifies_optimal p bytes cost ok why
shown p bytes (bounds bound cost) ok why = certifies_bound p bytes bound cost ok why.1
shown p bytes (fails kind line) ok why = tt
shown p bytes (misread fault) ok why = tt
shown p bytes too_long ok why = tt

-- what the ending of a check shows
pub ending_shown : (c : Checks) (bytes : List ℕ) (k : Stated) (e : Ending) → length bytes ≤ certificate_limit → Spells bytes k
    → HasTaken (items_of k) c → EndsAs c.instance.now k e → Proves c.instance.now bytes (verdict_of e) × ProvesMarks c.instance.now bytes (verdict_of e)
ending_shown c bytes k (Optimal cost) short spells taken h =
    let ok = problem_by c k spells.in_range taken h.0 in
    let why = why_ends c.instance.now bytes k (Optimal cost) short spells h in
    (shown c.instance.now bytes (optimal cost) ok why, marks_shown c.instance.now bytes (optimal cost) ok why)
ending_shown c bytes k (Bounds bound cost) short spells taken h =
    let ok = problem_by c k spells.in_range taken h.0 in
    let why = why_ends c.instance.now bytes k (Bounds bound cost) short spells h in
    (shown c.instance.now bytes (bounds bound cost) ok why, marks_shown c.instance.now bytes (bounds bound cost) ok why)
ending_shown c bytes k (No kind line) short spells taken h = (tt, tt)
ending_shown c bytes k (BadLine line) short spells taken h = (tt, tt)
ending_shown c bytes k (Ended line) short spells taken h = (tt, tt)
ending_shown c bytes k TooLong short spells taken h = (tt, tt)
