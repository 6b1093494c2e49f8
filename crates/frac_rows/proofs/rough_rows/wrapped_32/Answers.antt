use Rattle.std.proofs.Common.{rules}
use Rattle.std.specs.Int.{w32}
use Rattle.std.proofs.lemmas.Int.{wraps, wrapping_add-bits}
use Rattle.frac_rows.proofs.rough_rows.wrapped_32.Goals as goal

pub returns : goal.returns
returns c = search (rules, wraps, wrapping_add-bits w32)
