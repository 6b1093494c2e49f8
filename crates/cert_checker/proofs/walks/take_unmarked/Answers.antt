use Rattle.std.proofs.Common.{◌+◌, true, [], ◌∷◌, drop, flat_map, sym, ap, ◌∙◌, arith}
use Rattle.std.specs.List.{range_with_len}
use Rattle.std.proofs.lemmas.List.{drop_all}
use Rattle.std.proofs.lemmas.List.FromFn.{length-range_with_len}
use Rattle.cert_spec.specs.Lines.{says_cut}
use Rattle.cert_spec.specs.Text.{part_said, dual_items}
use Rattle.cert_scan.specs.Versions.{version_number}
use Rattle.cert_scan.specs.declared.items.Item.TheVariants.{Cut}
use Rattle.cert_format.specs.DualItems.{row_items}
use Rattle.cert_format.proofs.DualRows.{dual_items_by_rows}
use Rattle.cert_checker.proofs.Walking.{may_first, front_start, front_more, front_may, front_end, next_by}
use Rattle.cert_checker.proofs.Holding.{row_lines, row_here, row_known}
use Rattle.cert_checker.proofs.walks.take_unmarked.Goals as goal

pub take_alone-requires : goal.take_alone-requires
take_alone-requires c =
    let v = version_number c.args.version in
    let cut = c.args.cut.now in
    let line = says_cut c.args.x (part_said v cut.part) in
    (line, ap (λ p. Cut c.args.x p true ∷ []) (c.requires.part ∙ sym c.part-part.ensures), may_first (line ∷ []) (dual_items v c.args.n cut.duals) c.requires.may)

pub loop-i-init : goal.loop-i-init
loop-i-init c =
    let v = version_number c.args.version in
    let n = c.args.n in
    let cut = c.args.cut.now in
    let line = says_cut c.args.x (part_said v cut.part) in
    let rows = flat_map (row_lines v n cut.duals) (range_with_len 0 n) in
    let e = ap (λ p. Cut c.args.x p true ∷ []) (c.requires.part ∙ sym c.part-part.ensures) in
    record {
      front = front_more (line ∷ []) rows (front_start c.args.checks.now (line ∷ dual_items v n cut.duals))
          (ap (λ ls. line ∷ ls) (sym (dual_items_by_rows v n cut.duals c.requires.some c.requires.whole))) (c.in_ok-take_alone.ensures.taken line e);
      instance = c.in_ok-take_alone.ensures.instance;
    }

pub take_row-requires-clause-known : goal.take_row-requires-clause-known
take_row-requires-clause-known c =
    row_known c.args.n c.args.cut.now c.loop-i.i c.of-row.result c.args.known (ap (λ i. i.now) c.loop-i.invariant.instance) c.of-row.ensures.row
    c.of-row.ensures.long (omega arith) c.requires.whole c.requires.known

pub take_row-requires-clause-may : goal.take_row-requires-clause-may
take_row-requires-clause-may c =
    let v = version_number c.args.version in
    let n = c.args.n in
    let duals = c.args.cut.now.duals in
    let i = c.loop-i.i in
    let rows = range_with_len 0 n in
    let lines = row_items v n i c.of-row.result in
    let e = next_by (row_lines v n duals) rows i 0 lines (omega (arith, length-range_with_len 0 n)) (row_here v n duals i c.of-row.result c.of-row.ensures.row (omega arith)) in
    front_may lines (flat_map (row_lines v n duals) (drop (i + 1) rows)) c.requires.may c.loop-i.invariant.front e

pub loop-i-preserved : goal.loop-i-preserved
loop-i-preserved c =
    let v = version_number c.args.version in
    let n = c.args.n in
    let duals = c.args.cut.now.duals in
    let i = c.loop-i.i in
    let rows = range_with_len 0 n in
    let lines = row_items v n i c.of-row.result in
    let e = next_by (row_lines v n duals) rows i 0 lines (omega (arith, length-range_with_len 0 n)) (row_here v n duals i c.of-row.result c.of-row.ensures.row (omega arith)) in
    record {
      front = front_more lines (flat_map (row_lines v n duals) (drop (i + 1) rows)) c.loop-i.invariant.front e c.in_ok-take_row.ensures.taken;
      instance = c.in_ok-take_row.ensures.instance ∙ c.loop-i.invariant.instance;
    }

pub returns-clause-taken : goal.returns-clause-taken
returns-clause-taken c =
    let n = c.args.n in
    front_end c.loop-i.invariant.front
    (ap (flat_map (row_lines (version_number c.args.version) n c.args.cut.now.duals)) (drop_all c.loop-i.i (range_with_len 0 n) (omega (arith, length-range_with_len 0 n))))
