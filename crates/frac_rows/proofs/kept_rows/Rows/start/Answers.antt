use Rattle.std.proofs.Common.{◌∙◌, ap₂, arith}
use Rattle.frac_rows.specs.Stored.{table_of}
use Rattle.frac_rows.proofs.FirstRows.{start_is, stored_first}
use Rattle.frac_rows.proofs.kept_rows.Rows.start.Goals as goal

pub invariant_of-result : goal.invariant_of-result
invariant_of-result c = record {
  stored =
      rw (c.new.ensures, c.in_ok-basis.ensures)
      (stored_first c.args.rights.now c.args.numbers.items c.in_ok-kept.kept.items c.args.variables c.in_ok-tops.tops.items
      (rw c.deref.ensures.value at c.in_ok-tops.ensures.tops) c.in_ok-tops.ensures.limit
      c.requires.rights_limit c.in_ok-kept.ensures.long c.in_ok-kept.ensures.rows);
  room = omega (arith, c.in_ok-spare.ensures.len, c.in_ok-spare.spare.ok.0, c.deref-2.ensures.len, c.in_ok-kept.kept.ok.0);
  one_each = rw c.new.ensures (omega (arith, c.in_ok-entering.ensures.len, c.in_ok-entering.entering.ok.0));
}

pub returns : goal.returns
returns c =
    ap₂ (λ m b. table_of m c.in_ok-kept.kept.items b) c.new.ensures c.in_ok-basis.ensures
    ∙ start_is c.args.rights.now c.args.numbers.items c.in_ok-kept.kept.items c.args.variables c.in_ok-kept.ensures.rows
