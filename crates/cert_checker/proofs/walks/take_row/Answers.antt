use Rattle.std.proofs.Common.{◌+◌, [], ◌∷◌, drop, refl, sym, ap, ◌∙◌, arith}
use Rattle.hub_spec.specs.Cuts.{Prices}
use Rattle.cert_spec.specs.Lines.{says_dual}
use Rattle.cert_scan.specs.Versions.{version_number}
use Rattle.cert_format.specs.DualItems.{row_items_from, row_items}
use Rattle.cert_format.proofs.DualRows.{next_line, no_lines}
use Rattle.cert_checker.proofs.Walking.{front_start, front_more, front_may, front_end}
use Rattle.cert_checker.proofs.Holding.{run_known}
use Rattle.cert_checker.proofs.walks.take_row.Goals as goal

pub loop-j-init : goal.loop-j-init
loop-j-init c = record {
  within = omega arith;
  front = front_start c.args.checks.now (row_items (version_number c.args.version) c.args.n c.args.i c.args.row.now);
  instance = refl;
}

pub take_line-requires-clause-may : goal.take_line-requires-clause-may
take_line-requires-clause-may c =
    let v = version_number c.args.version in
    let row = c.args.row.now in
    let j = c.loop-j.j in
    let run = c.run_at-run.result in
    let after = row_items_from v c.args.n c.args.i (j + run) (drop (j + run) row) in
    let line = says_dual (c.args.i, j) run c.dual-dual.result in
    let e = next_line v c.args.n c.args.i j run row c.requires.whole c.run_at-run.ensures
    ∙ ap (λ (d : Prices). says_dual (c.args.i, j) run d ∷ after) (sym c.dual-dual.ensures) in
    front_may (line ∷ []) after c.requires.may c.loop-j.invariant.front e

pub take_line-requires-clause-known : goal.take_line-requires-clause-known
take_line-requires-clause-known c =
    run_known c.args.i c.loop-j.j c.run_at-run.result c.args.row.now c.dual-dual.result c.args.known (ap (λ i. i.now) c.loop-j.invariant.instance)
    c.run_at-run.ensures.equal c.dual-dual.ensures c.requires.known

pub loop-j-preserved : goal.loop-j-preserved
loop-j-preserved c =
    let v = version_number c.args.version in
    let row = c.args.row.now in
    let j = c.loop-j.j in
    let run = c.run_at-run.result in
    let after = row_items_from v c.args.n c.args.i (j + run) (drop (j + run) row) in
    let line = says_dual (c.args.i, j) run c.dual-dual.result in
    let e = next_line v c.args.n c.args.i j run row c.requires.whole c.run_at-run.ensures
    ∙ ap (λ (d : Prices). says_dual (c.args.i, j) run d ∷ after) (sym c.dual-dual.ensures) in
    record {
      within = c.run_at-run.ensures.equal.within;
      front = front_more (line ∷ []) after c.loop-j.invariant.front e c.in_ok-take_line.ensures.taken;
      instance = c.in_ok-take_line.ensures.instance ∙ c.loop-j.invariant.instance;
    }

pub returns-clause-taken : goal.returns-clause-taken
returns-clause-taken c =
    front_end c.loop-j.invariant.front (no_lines (version_number c.args.version) c.args.n c.args.i c.loop-j.j c.args.row.now (omega arith))
