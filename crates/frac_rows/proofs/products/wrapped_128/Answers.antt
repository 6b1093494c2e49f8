use Rattle.std.proofs.Common.{rules}
use Rattle.std.specs.Int.{w128}
use Rattle.std.proofs.lemmas.Int.{wraps, wrapping_add-bits}
use Rattle.frac_rows.proofs.products.wrapped_128.Goals as goal

pub returns : goal.returns
returns c = search (rules, wraps, wrapping_add-bits w128)
