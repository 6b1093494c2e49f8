use Rattle.std.proofs.Common.{◌≡◌, ◌++◌, length, take}
use Rattle.cut_model.specs.Values.{listed_values}
use Rattle.cut_model.proofs.runs.push_listed.Given as goal

abbrev pub invariant-loop-entry : goal.invariant-loop-entry
invariant-loop-entry l = record {
  kept : take (length l.fn.values.items) l.values.items ≡ l.fn.values.items;
  pushed : listed_values l.values.items ≡ listed_values l.fn.values.items ++ take l.entry-index l.listed;
}
