use Rattle.std.proofs.Common.{get_or, pos, refl, rules, arith}
use Rattle.std.proofs.lemmas.Bool.{false≢true}
use Rattle.std.proofs.lemmas.List.{get_or_default}
use Rattle.hub_edges.specs.Rows.{Entry}
use Rattle.hub_edges.proofs.InsideEntries.{inside_later, none_more}
use Rattle.hub_edges.proofs.picking.first_inside.Goals as goal

pub offset_bounds-entries-at : goal.offset_bounds-entries-at
offset_bounds-entries-at c =
    let below = inside_later c.args.hubs.now c.args.entries.now c.loop-at.at c.requires c.loop-at.invariant in search rules

pub bounds-entries-at : goal.bounds-entries-at
bounds-entries-at c = inside_later c.args.hubs.now c.args.entries.now c.loop-at.at c.requires c.loop-at.invariant

pub overflow_add-at : goal.overflow_add-at
overflow_add-at c =
    let below = inside_later c.args.hubs.now c.args.entries.now c.loop-at.at c.requires c.loop-at.invariant in search rules

pub loop-at-smaller : goal.loop-at-smaller
loop-at-smaller c =
    let below = inside_later c.args.hubs.now c.args.entries.now c.loop-at.at c.requires c.loop-at.invariant in omega arith

pub loop-at-preserved : goal.loop-at-preserved
loop-at-preserved c =
    let below = inside_later c.args.hubs.now c.args.entries.now c.loop-at.at c.requires c.loop-at.invariant in
    let e : Entry = get_or c.args.entries.now c.loop-at.at (0, 0, pos 0) in
    none_more c.args.hubs.now c.args.entries.now c.loop-at.at e below (get_or_default c.args.entries.now c.loop-at.at (0, 0, pos 0) e below)
    (λ inside. false≢true (c.loop-at-test.ensures.1 inside)) c.loop-at.invariant

pub offset_bounds-entries-at-2 : goal.offset_bounds-entries-at-2
offset_bounds-entries-at-2 c =
    let below = inside_later c.args.hubs.now c.args.entries.now c.loop-at.at c.requires c.loop-at.invariant in search rules

pub bounds-entries-at-2 : goal.bounds-entries-at-2
bounds-entries-at-2 c = inside_later c.args.hubs.now c.args.entries.now c.loop-at.at c.requires c.loop-at.invariant

pub returns : goal.returns
returns c =
    let below = inside_later c.args.hubs.now c.args.entries.now c.loop-at.at c.requires c.loop-at.invariant in
    let e : Entry = get_or c.args.entries.now c.loop-at.at (0, 0, pos 0) in
    record {
      at = c.loop-at.at;
      within = below;
      is = get_or_default c.args.entries.now c.loop-at.at (0, 0, pos 0) e below;
      inside = c.loop-at-test.ensures.0 refl;
      earlier = c.loop-at.invariant;
    }
