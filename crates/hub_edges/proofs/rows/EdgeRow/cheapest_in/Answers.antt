use Rattle.hub_edges.specs.Rows.{IsFirstInside}
use Rattle.hub_edges.proofs.InsideEntries.{some_inside, least_limit, least_inside, none_before, entry_listed, row_cost}
use Rattle.hub_edges.proofs.rows.EdgeRow.cheapest_in.Goals as goal
use Rattle.hub_edges.proofs.rows.EdgeRow.cheapest_in.Goals.{After-members, After-first_inside}

pub first_inside-requires : goal.first_inside-requires
first_inside-requires c =
    let hubs = rw (← c.self.view_is) at c.requires in
    rw (c.deref.ensures.value, c.members.ensures.value)
    (some_inside c.self.inside.instance.now (c.self.inside.from, c.self.inside.to) c.args.set.now c.self.inside.entries.items hubs c.self.invariant.from
    c.self.invariant.to c.self.invariant.row)

first : (c : After-first_inside) → IsFirstInside c.args.set.now c.self.inside.entries.items c.first_inside.result
first c = rw (← c.deref.ensures.value, ← c.members.ensures.value) c.first_inside.ensures

pub returns-clause-least : goal.returns-clause-least
returns-clause-least c =
    let hubs = rw (← c.self.view_is) at c.requires in
    rw (← c.self.view_is)
    (least_inside c.self.inside.instance.now (c.self.inside.from, c.self.inside.to) c.args.set.now c.self.inside.entries.items c.first_inside.result
    hubs c.self.invariant.row (first c))

pub returns-clause-first : goal.returns-clause-first
returns-clause-first c =
    rw (← c.self.view_is)
    (none_before c.self.inside.instance.now (c.self.inside.from, c.self.inside.to) c.args.set.now c.self.inside.entries.items c.first_inside.result
    c.self.invariant.row (first c))

pub returns-clause-cost : goal.returns-clause-cost
returns-clause-cost c =
    row_cost c.self.inside.instance.now (c.self.inside.from, c.self.inside.to) c.self.inside.entries.items c.first_inside.result
    c.self.invariant.row (entry_listed c.args.set.now c.self.inside.entries.items c.first_inside.result (first (goal.at.returns-clause-cost c).After-first_inside))

pub returns-clause-entry : goal.returns-clause-entry
returns-clause-entry c =
    rw (← c.self.view_is)
    (entry_listed c.args.set.now c.self.inside.entries.items c.first_inside.result (first (goal.at.returns-clause-entry c).After-first_inside))

pub returns-clause-inside : goal.returns-clause-inside
returns-clause-inside c = (first (goal.at.returns-clause-inside c).After-first_inside).inside

pub returns-clause-limit : goal.returns-clause-limit
returns-clause-limit c =
    let hubs = rw (← c.self.view_is) at c.requires in
    let inside = c.self.inside in
    least_limit inside.instance.now (inside.from, inside.to) c.args.set.now _ c.self.invariant.problem c.self.invariant.from c.self.invariant.to hubs
    (least_inside inside.instance.now (inside.from, inside.to) c.args.set.now inside.entries.items c.first_inside.result
    hubs c.self.invariant.row (first (goal.at.returns-clause-limit c).After-first_inside))
