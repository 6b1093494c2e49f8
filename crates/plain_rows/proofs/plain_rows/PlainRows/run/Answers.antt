use Rattle.std.proofs.Common.{◌≡◌, ◌+◌, ◌-◌, ◌∙◌, refl, sym, ap, ap₂, arith}
use Rattle.frac_rows.specs.Rows.{Table}
use Rattle.frac_rows.specs.Runs.{most_pivots, Outcome, run}
use Rattle.frac_rows.proofs.RunSteps.{run_ends, run_goes, run_stops}
use Rattle.plain_rows.proofs.plain_rows.PlainRows.run.Goals as goal

pub loop-made-init : goal.loop-made-init
unfolding run
loop-made-init c = refl

pub returns-in-Some : goal.returns-in-Some
returns-in-Some c =
    sym c.loop-made.invariant
    ∙ run_ends (most_pivots - c.loop-made.made) c.loop-made.made c.loop-made.self c.in-Some.ended (omega (arith, c.loop-made-test.true)) c.in-Some.ensures.ends
    ∙ ap (λ (t : Table). let o : Outcome = record { table = t; ended = c.in-Some.ended; pivots = c.loop-made.made } in o) (sym c.in-Some.ensures.same)

pub loop-made-preserved : goal.loop-made-preserved
loop-made-preserved c =
    sym (run_goes (most_pivots - c.loop-made.made) (most_pivots - (c.loop-made.made + 1)) c.loop-made.made c.loop-made.self c.step.new.self
    (omega (arith, c.loop-made-test.true)) (c.in_default.ensures.goes refl))
    ∙ c.loop-made.invariant

pub returns : goal.returns
returns c =
    let all : c.loop-made.made ≡ most_pivots = omega (arith, c.loop-made-test.false, c.loop-made.auto.made-end) in
    sym c.loop-made.invariant
    ∙ run_stops (most_pivots - c.loop-made.made) c.loop-made.made c.loop-made.self (omega (arith, all))
    ∙ ap₂ (λ e n. let o : Outcome = record { table = c.loop-made.self; ended = e; pivots = n } in o) (sym c.ending.ensures) all
