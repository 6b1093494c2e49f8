use Rattle.std.proofs.Common.{◌-◌, length, min, arith}
use Rattle.std.proofs.lemmas.List.{length-drop}
use Rattle.search_spec.specs.Turns.{most_turns}
use Rattle.node_rounds.proofs.turners.turned.Goals as goal

pub returns-clause-few : goal.returns-clause-few
returns-clause-few c =
    let xs = c.args.left.now.nodes.items in
    omega (arith, length-drop (length xs - min (length xs) most_turns) xs)
