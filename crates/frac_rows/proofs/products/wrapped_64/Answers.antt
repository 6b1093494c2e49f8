use Rattle.std.proofs.Common.{rules}
use Rattle.std.specs.Int.{w64}
use Rattle.std.proofs.lemmas.Int.{wraps, wrapping_add-bits}
use Rattle.frac_rows.proofs.products.wrapped_64.Goals as goal

pub returns : goal.returns
returns c = search (rules, wraps, wrapping_add-bits w64)
