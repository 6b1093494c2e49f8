use Rattle.std.proofs.Common.{◌-◌, length, min, take, drop, sym, subst, arith}
use Rattle.std.proofs.lemmas.List.{take-append-drop, length-drop}
use Rattle.std.proofs.lemmas.Slice.Zip.{AllZip-long}
use Rattle.search_spec.specs.Turns.{most_turns}
use Rattle.node_rounds.specs.Outcomes.{IsTurnOf}
use Rattle.node_rounds.specs.Left.{turned_of}
use Rattle.node_rounds.specs.Searchers.{IsTurnerAt}
use Rattle.node_rounds.proofs.searching.one_round.Goals as goal

pub take_round-requires-clause-turns : goal.take_round-requires-clause-turns
take_round-requires-clause-turns g c =
    let xs = c.args.left.now.nodes.items in
    let first = length xs - min (length xs) most_turns in
    record {
      others = take first xs;
      turned = drop first xs;
      all = sym (take-append-drop first xs);
      turns = c.in_ok-outcomes.ensures.turns;
      sound = c.in_ok-outcomes.ensures.sound;
    }

pub take_round-requires-clause-first : goal.take_round-requires-clause-first
take_round-requires-clause-first g c =
    let p = c.args.task.now.instance.now in
    let s = c.args.front.now.progress in
    let xs = c.args.left.now.nodes.items in
    let first = length xs - min (length xs) most_turns in
    let long = AllZip-long (IsTurnOf p s.pool.entries s.cost) (turned_of xs) c.in_ok-outcomes.outcomes.items c.in_ok-outcomes.ensures.turns in
    omega (arith, long, length-drop first xs)

pub returns-clause-turner : goal.returns-clause-turner
returns-clause-turner g c =
    subst (IsTurnerAt c.turns.new.self c.args.task.now) (sym c.in_ok-take_round.ensures.round) c.in_ok-outcomes.ensures.ready
