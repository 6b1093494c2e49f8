use Rattle.std.proofs.Common.{◌≡◌, ◌∙◌, ◌+◌, ℤ, Vec, Global, length, set, get_or, sym, ap, subst, arith}
use Rattle.std.specs.Option.{option_map}
use Rattle.std.proofs.lemmas.List.{length-set, with_items_is}
use Rattle.frac_rows.specs.Rows.{Table, entering, leaving, is_wide}
use Rattle.frac_rows.specs.Runs.{goes}
use Rattle.frac_rows.proofs.RunSteps.{step_best, step_stuck, step_wide, step_goes}
use Rattle.plain_rows.specs.Flat.{table_of, AreAfter, IsStored, IsWideAfter}
use Rattle.plain_rows.proofs.FlatTables.{after_is, stored_after, wide_after, not_wide_table}
use Rattle.plain_rows.proofs.pivots.advance.Goals as goal
use Rattle.plain_rows.proofs.pivots.advance.Goals.{After-entering, In-Some, After-leaving, After-swap, After-swap-2}

-- the table that the step begins with
abbrev table : After-entering → Table
table c = table_of c.args.outside.now c.args.numbers.now.items c.args.basis.now

-- the column that was found
found : (c : After-entering) → entering (table c) ≡ option_map (λ x. get_or c.args.outside.now x 0) c.entering.result
found c = ap (λ n. entering (table_of c.args.outside.now n c.args.basis.now)) (sym c.deref.ensures.value) ∙ sym c.entering.ensures.value

-- the row that was found
leaves : (c : After-leaving) → leaving (table_of c.args.outside.now c.args.numbers.now.items c.args.basis.now) (get_or c.args.outside.now c.in-Some.place 0)
    ≡ c.leaving.result
leaves c =
    ap (λ n. leaving (table_of c.args.outside.now n c.args.basis.now) (get_or c.args.outside.now c.in-Some.place 0)) (sym c.deref-2.ensures.value)
    ∙ sym c.leaving.ensures.value

pub returns-in_default-clause-ends : goal.returns-in_default-clause-ends
returns-in_default-clause-ends c =
    let here = (goal.at.returns-in_default-clause-ends c).After-entering in
    step_best (table here) (found here ∙ ap (option_map (λ x. get_or c.args.outside.now x 0)) c.in_default.is)

pub returns-in_default-leaving-clause-ends : goal.returns-in_default-leaving-clause-ends
returns-in_default-leaving-clause-ends c =
    let at = goal.at.returns-in_default-leaving-clause-ends c in
    let here = at.After-entering in
    step_stuck (table here) (get_or c.args.outside.now c.in-Some.place 0)
    (found here ∙ ap (option_map (λ x. get_or c.args.outside.now x 0)) c.in-Some.is) (leaves at.After-leaving ∙ c.in_default-leaving.is)

pub returns-in-Err-clause-ends : goal.returns-in-Err-clause-ends
returns-in-Err-clause-ends c =
    let at = goal.at.returns-in-Err-clause-ends c in
    let here = at.After-entering in
    step_wide (table here) (get_or c.args.outside.now c.in-Some.place 0) c.in-Some-leaving.row
    (found here ∙ ap (option_map (λ x. get_or c.args.outside.now x 0)) c.in-Some.is) (leaves at.After-leaving ∙ c.in-Some-leaving.is)
    (wide_after c.args.outside.now c.args.numbers.now.items c.args.basis.now c.in-Some-leaving.row c.in-Some.place c.requires.roomy.stored
    c.in-Some-leaving.ensures.row c.in-Some.ensures.place
    (subst (λ n. IsWideAfter (length c.args.outside.now) (length c.args.basis.now + 1) n c.in-Some-leaving.row c.in-Some.place) c.deref-4.ensures.value
    c.in-Err.ensures.err))

-- the rows that were written stand where those before them stood
swapped : (c : After-swap) → c.swap.new.x.items ≡ c.next_rows.new.spare
swapped c =
    ap (λ (v : Vec ℤ Global). v.items) c.swap.ensures.x_after
    ∙ with_items_is c.args.spare.now c.next_rows.new.spare (omega (arith, c.next_rows.auto.spare, c.deref_mut.ensures.len))

long : (c : After-swap) → length c.swap.new.x.items ≡ length c.args.numbers.now.items
long c = ap length (swapped c) ∙ c.next_rows.ensures.room ∙ ap length c.deref-4.ensures.value

after : (c : After-swap)
    → AreAfter (length c.args.outside.now) c.args.numbers.now.items c.in-Some-leaving.row c.in-Some.place (length c.args.basis.now + 1) c.swap.new.x.items
after c =
    let w = length c.args.outside.now in
    let h = length c.args.basis.now + 1 in
    subst (λ n. AreAfter w c.args.numbers.now.items c.in-Some-leaving.row c.in-Some.place h n) (sym (swapped c))
    (subst (λ n. AreAfter w n c.in-Some-leaving.row c.in-Some.place h c.next_rows.new.spare) c.deref-4.ensures.value
    c.in_default-next_rows.ensures.ok)

-- the two columns that changed places
entered : (c : After-swap-2) → set c.args.outside.now c.in-Some.place c.swap-2.new.x ≡ set c.args.outside.now c.in-Some.place (get_or c.args.basis.now c.in-Some-leaving.row 0)
entered c = ap (set c.args.outside.now c.in-Some.place) c.swap-2.ensures.x_after

left : (c : After-swap-2) → set c.args.basis.now c.in-Some-leaving.row c.swap-2.new.y ≡ set c.args.basis.now c.in-Some-leaving.row (get_or c.args.outside.now c.in-Some.place 0)
left c = ap (set c.args.basis.now c.in-Some-leaving.row) c.swap-2.ensures.y_after

stored : (c : After-swap)
    → IsStored (set c.args.outside.now c.in-Some.place (get_or c.args.basis.now c.in-Some-leaving.row 0)) c.swap.new.x.items
    (set c.args.basis.now c.in-Some-leaving.row (get_or c.args.outside.now c.in-Some.place 0))
stored c =
    stored_after c.args.outside.now c.args.numbers.now.items c.args.basis.now c.in-Some-leaving.row c.in-Some.place c.requires.roomy.stored
    c.in-Some-leaving.ensures.row c.in-Some.ensures.place c.swap.new.x.items (long c) (after c)

pub returns-clause-roomy : goal.returns-clause-roomy
returns-clause-roomy c =
    let at = goal.at.returns-clause-roomy c in
    rw (entered at.After-swap-2, left at.After-swap-2)
    (record {
      stored = stored at.After-swap;
      room = ap (λ (v : Vec ℤ Global). length v.items) c.swap.ensures.y_after ∙ sym (long at.After-swap);
      one_row =
          omega (
            arith,
            c.write_base.auto.base,
            c.requires.roomy.one_row,
            length-set c.args.outside.now c.in-Some.place (get_or c.args.basis.now c.in-Some-leaving.row 0),
          );
    })

pub returns-clause-goes : goal.returns-clause-goes
returns-clause-goes c = λ _.
    let at = goal.at.returns-clause-goes c in
    let here = at.After-entering in
    let new = c.swap.new.x.items in
    let r = c.in-Some-leaving.row in
    let k = get_or c.args.outside.now c.in-Some.place 0 in
    let is =
    after_is c.args.outside.now c.args.numbers.now.items c.args.basis.now r c.in-Some.place c.requires.roomy.stored
    c.in-Some-leaving.ensures.row c.in-Some.ensures.place new (after at.After-swap) in
    rw (entered at.After-swap-2, left at.After-swap-2)
    (step_goes (table here) k r (found here ∙ ap (option_map (λ x. get_or c.args.outside.now x 0)) c.in-Some.is) (leaves at.After-leaving ∙ c.in-Some-leaving.is)
    (ap is_wide (sym is)
    ∙ not_wide_table (set c.args.outside.now c.in-Some.place (get_or c.args.basis.now r 0)) new (set c.args.basis.now r k) (stored at.After-swap).rows)
    ∙ ap goes (sym is))
