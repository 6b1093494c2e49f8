use Rattle.std.proofs.Common.{◌∙◌, length, ap₂, arith}
use Rattle.std.specs.List.{range_with_len}
use Rattle.std.proofs.lemmas.List.FromFn.{length-range_with_len}
use Rattle.plain_rows.specs.Flat.{table_of, IsStored}
use Rattle.plain_rows.proofs.FirstRows.{first_is, first_stored}
use Rattle.plain_rows.proofs.plain_rows.PlainRows.start.Goals as goal

pub invariant_of-result : goal.invariant_of-result
invariant_of-result c =
    let numbers = c.in_ok-numbers.numbers.items in
    let rights = c.args.rights.now in
    let stored : IsStored (range_with_len 0 c.args.variables) numbers (range_with_len c.args.variables (length rights)) =
    first_stored c.args.variables c.args.given.now rights numbers c.requires.long c.in_ok-numbers.ensures.rows
    c.requires.given_limit c.requires.rights_limit c.requires.few c.in_ok-numbers.ensures.long in
    rw (c.in_ok-outside.ensures, c.in_ok-basis.ensures)
    (record {
      stored = stored;
      room = omega (arith, c.in_ok-spare.ensures.len, c.in_ok-spare.spare.ok.0, c.deref.ensures.len, c.in_ok-numbers.numbers.ok.0);
      one_row = omega (arith, c.in_ok-base.ensures.len, c.in_ok-base.base.ok.0, length-range_with_len 0 c.args.variables);
    })

pub returns : goal.returns
returns c =
    ap₂ (λ os basis. table_of os c.in_ok-numbers.numbers.items basis) c.in_ok-outside.ensures c.in_ok-basis.ensures
    ∙ first_is c.args.variables c.args.given.now c.args.rights.now c.in_ok-numbers.numbers.items c.requires.long c.in_ok-numbers.ensures.rows
