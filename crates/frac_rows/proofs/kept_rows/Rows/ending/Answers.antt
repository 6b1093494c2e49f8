use Rattle.std.proofs.Common.{◌∙◌, sym, ap}
use Rattle.frac_rows.specs.Runs.{ended_by}
use Rattle.frac_rows.proofs.Ratios.{objective-table_of}
use Rattle.frac_rows.proofs.kept_rows.Rows.ending.Goals as goal

pub returns : goal.returns
returns c =
    let s = c.self.inside in
    let ending = rw c.deref.ensures.value at c.ending.ensures in
    rw (← c.self.view_is) (ending ∙ ap ended_by (sym (objective-table_of s.columns s.numbers.items s.basis.items c.self.invariant.stored.one_each)))
