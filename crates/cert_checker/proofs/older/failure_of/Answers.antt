use Rattle.std.proofs.Common.{ℕ, ◌-◌, ◌*◌, Option, sym, ap, subst, ◌∙◌, mul-pos, arith}
use Rattle.std.proofs.lemmas.Bool.{false≢true}
use Rattle.hub_spec.specs.Problem.{Problem}
use Rattle.hub_spec.specs.Ranges.{IsCutInRange}
use Rattle.cert_scan.specs.Versions.{version_number}
use Rattle.cert_checker.specs.Duals.{IsFirstFailing}
use Rattle.cert_checker.specs.Older.{dual_place}
use Rattle.cert_checker.proofs.RunClaims.{duals_zipped}
use Rattle.cert_checker.proofs.older.failure_of.Goals as goal

pub first_failing_on-requires-clause-size : goal.first_failing_on-requires-clause-size
first_failing_on-requires-clause-size c = c.size-n.ensures.value ∙ ap (λ (p : Problem). p.size) (sym c.requires.same)

pub first_failing_on-requires-clause-few : goal.first_failing_on-requires-clause-few
first_failing_on-requires-clause-few c = omega (arith, c.size-n.ensures.value, c.size-n.ensures.problem.size_limit)

pub first_failing_on-requires-clause-cut : goal.first_failing_on-requires-clause-cut
first_failing_on-requires-clause-cut c = subst (λ (n : ℕ). IsCutInRange n c.args.cut.now) (sym c.size-n.ensures.value) c.requires.cut

pub returns-in-Some-clause-same : goal.returns-in-Some-clause-same
returns-in-Some-clause-same c = c.first_failing_on.ensures.same ∙ c.requires.same

pub returns-in-Some-clause-fails : goal.returns-in-Some-clause-fails
returns-in-Some-clause-fails c =
    let p = c.args.instance.now in
    let cut = c.args.cut.now in
    let told = subst (λ (q : Problem). IsFirstFailing q cut.part cut.duals c.first_failing_on.result) c.requires.same c.first_failing_on.ensures.first in (
      c.in-Some.t,
      subst (λ (f : Option ℕ). IsFirstFailing p cut.part cut.duals f) c.in-Some.is told,
      c.place_of_dual.ensures.value ∙ ap (λ (n : ℕ). dual_place (version_number c.args.version) n cut.duals c.args.mark.now c.in-Some.t) c.size-n.ensures.value,
    )

pub returns-in-Some-clause-limit : goal.returns-in-Some-clause-limit
returns-in-Some-clause-limit c =
    let p = c.args.instance.now in
    let cut = c.args.cut.now in
    let told = subst (λ (q : Problem). IsFirstFailing q cut.part cut.duals c.first_failing_on.result) c.requires.same c.first_failing_on.ensures.first in
    let within = (subst (λ (f : Option ℕ). IsFirstFailing p cut.part cut.duals f) c.in-Some.is told).within in
    omega (arith, within, c.requires.cut.one_for_each, c.place_of_dual.ensures.limit)

pub place_of_dual-requires-clause-within : goal.place_of_dual-requires-clause-within
place_of_dual-requires-clause-within c =
    (subst (λ (f : Option ℕ). IsFirstFailing c.args.duals.now.problem c.args.cut.now.part c.args.cut.now.duals f) c.in-Some.is c.first_failing_on.ensures.first).within

pub returns-then-not-branch-clause-fails : goal.returns-then-not-branch-clause-fails
returns-then-not-branch-clause-fails c =
    let p = c.args.instance.now in
    let cut = c.args.cut.now in
    let n = c.size-n.result in
    let told = subst (λ (q : Problem). IsFirstFailing q cut.part cut.duals c.first_failing_on.result) c.requires.same c.first_failing_on.ensures.first in (
      subst (λ (f : Option ℕ). IsFirstFailing p cut.part cut.duals f) c.in_default.is told,
      (λ h. false≢true (sym c.if-not-branch.true ∙ c.in_ok-is_within_sums.ensures.1 h)),
      c.place_of_dual-then-not-branch.ensures.value
          ∙ ap (λ (m : ℕ). dual_place (version_number c.args.version) m cut.duals c.args.mark.now (m * m - 1)) c.size-n.ensures.value,
    )

pub returns-clause-holds : goal.returns-clause-holds
returns-clause-holds c =
    let p = c.args.instance.now in
    let cut = c.args.cut.now in
    let told = subst (λ (q : Problem). IsFirstFailing q cut.part cut.duals c.first_failing_on.result) c.requires.same c.first_failing_on.ensures.first in
    let each = subst (λ (f : Option ℕ). IsFirstFailing p cut.part cut.duals f) c.in_default.is told in
    record {
      part_least = c.requires.cut.part_least;
      part_most = c.requires.cut.part_most;
      duals = duals_zipped p cut.part cut.duals c.requires.cut.one_for_each each;
      sums = c.in_ok-is_within_sums.ensures.0 c.if-not-branch.false;
    }

pub returns-then-not-branch-clause-limit : goal.returns-then-not-branch-clause-limit
returns-then-not-branch-clause-limit c =
    let some = c.size-n.ensures.problem.some_node in
    omega (arith, c.place_of_dual-then-not-branch.ensures.limit, ap (λ (n : ℕ). n * n) c.size-n.ensures.value, mul-pos some some)

pub place_of_dual-requires-clause-some : goal.place_of_dual-requires-clause-some
place_of_dual-requires-clause-some c = omega (arith, c.size-n.ensures.value, c.size-n.ensures.problem.some_node)

pub place_of_dual-requires-clause-few : goal.place_of_dual-requires-clause-few
place_of_dual-requires-clause-few c = omega (arith, c.size-n.ensures.value, c.size-n.ensures.problem.size_limit)

pub place_of_dual-requires-then-not-branch-clause-some : goal.place_of_dual-requires-then-not-branch-clause-some
place_of_dual-requires-then-not-branch-clause-some c = omega (arith, c.size-n.ensures.value, c.size-n.ensures.problem.some_node)

pub place_of_dual-requires-then-not-branch-clause-few : goal.place_of_dual-requires-then-not-branch-clause-few
place_of_dual-requires-then-not-branch-clause-few c = omega (arith, c.size-n.ensures.value, c.size-n.ensures.problem.size_limit)

pub place_of_dual-requires-then-not-branch-clause-within : goal.place_of_dual-requires-then-not-branch-clause-within
place_of_dual-requires-then-not-branch-clause-within c =
    let some = c.size-n.ensures.problem.some_node in
    omega (arith, c.requires.cut.one_for_each, ap (λ (n : ℕ). n * n) c.size-n.ensures.value, mul-pos some some)
