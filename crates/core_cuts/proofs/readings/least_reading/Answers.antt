use Rattle.std.proofs.Common.{◌≡◌, ℕ, ◌+◌, List, length, All, sym, ap, ◌∙◌, subst, refl, arith}
use Rattle.core_cuts.specs.declared.ratios.Ratio.{Ratio}
use Rattle.core_cuts.specs.Readings.{Reading}
use Rattle.core_cuts.specs.BasicRatios.{AreRatios, IsWholeAt, IsLeastPart, reading_at, IsLeastReading}
use Rattle.core_cuts.proofs.LeastReadings.{over_all, part_is, least_reading, has_least}
use Rattle.core_cuts.proofs.readings.least_reading.Goals as goal
use Rattle.core_cuts.proofs.readings.least_reading.Goals.{In_ok-ratios, In_ok-of-in-Some}

are_ratios : (c : In_ok-ratios) → AreRatios c.args.rows.now (length c.args.instance.now.candidates + 1) c.in_ok-ratios.ratios.items
are_ratios c =
    subst (λ (ks : List ℕ). AreRatios c.args.rows.now (length ks + 1) c.in_ok-ratios.ratios.items) c.candidates.ensures.value c.in_ok-ratios.ensures

is_reading : (c : In_ok-of-in-Some) → c.in_ok-of-in-Some.field-0 ≡ reading_at c.in-Some.part c.in_ok-ratios.ratios.items
is_reading c = c.in_ok-of-in-Some.ensures ∙ ap (reading_at c.in-Some.part) c.deref-in-Some.ensures.value

pub returns-in-Some-clause-some : goal.returns-in-Some-clause-some
returns-in-Some-clause-some c =
    let p = c.args.instance.now in
    let rs = c.in_ok-ratios.ratios.items in
    let least = subst (λ (xs : List Ratio). IsLeastPart xs c.in-Some.part) c.deref.ensures.value c.in-Some.ensures.some in
    subst (IsLeastReading p c.args.rows.now) (sym (is_reading (goal.at.returns-in-Some-clause-some c).In_ok-of-in-Some))
    (least_reading p c.args.rows.now rs c.in-Some.part c.candidates.ensures.problem (are_ratios (goal.at.returns-in-Some-clause-some c).In_ok-ratios) least)

pub returns-in-Some-clause-limit : goal.returns-in-Some-clause-limit
returns-in-Some-clause-limit c =
    omega (
      arith,
      ap (λ (r : Reading). r.part) (is_reading (goal.at.returns-in-Some-clause-limit c).In_ok-of-in-Some),
      part_is c.in_ok-ratios.ratios.items c.in-Some.part,
      c.in-Some.ensures.limit,
    )

pub returns-clause-none : goal.returns-clause-none
returns-clause-none c _ =
    let p = c.args.instance.now in
    let t = c.args.rows.now in
    let rs = c.in_ok-ratios.ratios.items in
    let are = are_ratios (goal.at.returns-clause-none c).In_ok-ratios in
    let has = has_least rs (over_all t (length p.candidates + 1) rs are) in
    let there = subst (λ (xs : List Ratio). All (IsWholeAt has.0) xs) (sym c.deref.ensures.value) has.1.whole in (
      reading_at has.0 rs,
      least_reading p t rs has.0 c.candidates.ensures.problem are has.1,
      omega (arith, part_is rs has.0, c.in-None.ensures.none refl has.0 has.1.some there),
    )
