use Rattle.std.proofs.Common.{◌≡◌, ◌++◌, length, take}
use Rattle.cut_model.specs.Values.{listed_values}
use Rattle.cut_model.proofs.runs.push_values.Given as goal

abbrev pub invariant-loop-at : goal.invariant-loop-at
invariant-loop-at l = record {
  kept : take (length l.fn.values.items) l.values.items ≡ l.fn.values.items;
  pushed : listed_values l.values.items ≡ listed_values l.fn.values.items ++ take l.at l.dual.u;
}
