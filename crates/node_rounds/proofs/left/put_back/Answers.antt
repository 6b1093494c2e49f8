use Rattle.std.proofs.Common.{List, ◌++◌, ap, sym, ◌∙◌, arith}
use Rattle.node_rounds.specs.declared.fronts.Place.{Place}
use Rattle.node_rounds.specs.Fronts.{places_of}
use Rattle.node_rounds.specs.Left.{left_of}
use Rattle.node_rounds.proofs.Lefts.{no_items}
use Rattle.node_rounds.proofs.Settling.{back_first, back_line, back_node}
use Rattle.node_rounds.proofs.left.put_back.Goals as goal

pub loop-place-init : goal.loop-place-init
loop-place-init c = back_first c.args.left.now c.args.places.now.items c.requires.matched

pub loop-place-preserved-in-Continue-1 : goal.loop-place-preserved-in-Continue-1
loop-place-preserved-in-Continue-1 c =
    back_line c.args.left.now c.args.places.now.items c.loop-place.left c.push.new.self c.pop.new.self.items c.loop-place.places.items c.in-Some.place
    c.in-Line.line c.loop-place.invariant c.in-Some.ensures.items c.in-Line.is c.in_ok-push-in-Line.ensures.items

pub loop-place-preserved : goal.loop-place-preserved
loop-place-preserved c =
    back_node c.args.left.now c.args.places.now.items c.loop-place.left c.push-in-Open.new.self c.push-in-Open-2.new.self c.pop.new.self.items
    c.loop-place.places.items c.in-Some.place c.in-Open.node c.loop-place.invariant c.in-Some.ensures.items c.in-Open.is
    c.in_ok-push-in-Open.ensures.items c.in_ok-push-in-Open-2.ensures.items

pub returns-clause-left : goal.returns-clause-left
returns-clause-left c =
    let none = no_items c.loop-place.places.items (omega (arith, c.in_default.ensures.cases.0)) in
    sym (ap (λ (ps : List Place). places_of ps ++ left_of c.loop-place.left) none) ∙ c.loop-place.invariant.same

pub returns-clause-nodes : goal.returns-clause-nodes
returns-clause-nodes c = λ p entries are nodes. (c.loop-place.invariant.each p entries are nodes).1
