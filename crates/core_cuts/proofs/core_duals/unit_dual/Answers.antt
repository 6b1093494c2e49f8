use Rattle.std.proofs.Common.{◌≡◌, length, inl, inr, sym, ap, ◌∙◌, subst, arith}
use Rattle.frac_rows.specs.Rows.{Table, objective}
use Rattle.frac_rows.specs.Runs.{Outcome, run}
use Rattle.frac_rows.specs.Theorems.{IsBasic, AreRightsLow}
use Rattle.core_cuts.specs.Readings.{core_run}
use Rattle.core_cuts.specs.Theorems.{IsAsked}
use Rattle.core_cuts.proofs.LastTables.{asked_of, rights_last, width_last}
use Rattle.core_cuts.proofs.OneReading.{basic_last}
use Rattle.core_cuts.proofs.SameRuns.{all_read, none_read}
use Rattle.core_cuts.proofs.core_duals.unit_dual.Goals as goal
use Rattle.core_cuts.proofs.core_duals.unit_dual.Goals.{After-run-ended}

asked : (c : After-run-ended) → IsAsked c.args.instance.now c.args.hubs.now (c.args.i, c.args.j)
asked c =
    asked_of c.args.instance.now c.args.hubs.now c.args.i c.args.j c.size.ensures.problem c.requires.may c.requires.set c.requires.from c.requires.to

outcome : (c : After-run-ended) → core_run c.args.instance.now c.args.hubs.now (c.args.i, c.args.j) ≡ record { table = c.run-ended.new.self; ended = c.run-ended.result.0; pivots = c.run-ended.result.1 }
unfolding core_run
outcome c = ap run (sym c.in_ok-rows.ensures) ∙ c.run-ended.ensures

last : (c : After-run-ended) → c.run-ended.new.self ≡ (core_run c.args.instance.now c.args.hubs.now (c.args.i, c.args.j)).table
last c = sym (ap (λ (o : Outcome). o.table) (outcome c))

ended : (c : After-run-ended) → (core_run c.args.instance.now c.args.hubs.now (c.args.i, c.args.j)).ended ≡ c.run-ended.result.0
ended c = ap (λ (o : Outcome). o.ended) (outcome c)

pub read_in-requires-clause-basic : goal.read_in-requires-clause-basic
read_in-requires-clause-basic c =
    let here = (goal.at.read_in-requires-clause-basic c).After-run-ended in
    subst IsBasic (sym (last here)) (basic_last c.args.instance.now c.args.hubs.now (c.args.i, c.args.j) (asked here))

pub read_in-requires-clause-rights : goal.read_in-requires-clause-rights
read_in-requires-clause-rights c =
    let here = (goal.at.read_in-requires-clause-rights c).After-run-ended in
    subst AreRightsLow (sym (last here)) (rights_last c.args.instance.now c.args.hubs.now (c.args.i, c.args.j) (asked here))

pub read_in-requires-clause-wide : goal.read_in-requires-clause-wide
read_in-requires-clause-wide c =
    let here = (goal.at.read_in-requires-clause-wide c).After-run-ended in
    omega (
      arith,
      ap length c.deref-in-Best.ensures.value,
      ap length c.requires.ways.ways,
      ap (λ (t : Table). length (objective t)) (last here),
      width_last c.args.instance.now c.args.hubs.now (c.args.i, c.args.j) (asked here),
    )

pub returns-in-Best-clause-some : goal.returns-in-Best-clause-some
returns-in-Best-clause-some c =
    let here = (goal.at.returns-in-Best-clause-some c).After-run-ended in
    all_read c.args.instance.now c.args.hubs.now (c.args.i, c.args.j) c.run-ended.new.self c.deref-in-Best.result.now c.read_in.result (last here)
    (c.deref-in-Best.ensures.value ∙ c.requires.ways.ways) (ended here ∙ c.in-Best.is) c.read_in.ensures.some

pub returns-in-Best-clause-none : goal.returns-in-Best-clause-none
returns-in-Best-clause-none c =
    let here = (goal.at.returns-in-Best-clause-none c).After-run-ended in
    none_read c.args.instance.now c.args.hubs.now (c.args.i, c.args.j) c.run-ended.new.self c.read_in.result (last here)
    (ended here ∙ c.in-Best.is) c.read_in.ensures.none

pub returns-in-Turns-clause-none : goal.returns-in-Turns-clause-none
returns-in-Turns-clause-none c _ = inl (inr (ended (goal.at.returns-in-Turns-clause-none c).After-run-ended ∙ c.in-Turns.is))

pub returns-clause-none : goal.returns-clause-none
returns-clause-none c _ = inl (inl (ended (goal.at.returns-clause-none c).After-run-ended ∙ c.in-Wide.is))
