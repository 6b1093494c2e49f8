use Rattle.unit_duals.specs.Values.{held_origin}
use Rattle.unit_duals.proofs.PriceLimits.{value_within}
use Rattle.unit_duals.proofs.RowTurns.{slacks_more}
use Rattle.unit_duals.proofs.turns.pull_values.Goals as goal

pub set_slack_row-requires-clause-within : goal.set_slack_row-requires-clause-within
set_slack_row-requires-clause-within c = λ j column. (let s = c.args.lengths.now in
    value_within (held_origin s) s.tables.now.legs.size c.loop-t.t j c.pull_row.new.values c.pull_row.ensures.done column)

pub loop-t-preserved : goal.loop-t-preserved
loop-t-preserved c =
    let s = c.args.lengths.now in
    record {
      done = c.pull_row.ensures.done;
      slacks = slacks_more (held_origin s) s.tables.now.legs.size c.loop-t.t c.pull_row.new.values c.loop-t.slack c.loop-t.rest
          c.set_slack_row.new.slack c.set_slack_row.new.rest c.set_slack_row.ensures.slack c.set_slack_row.ensures.rest c.pull_row.ensures.noted;
    }
