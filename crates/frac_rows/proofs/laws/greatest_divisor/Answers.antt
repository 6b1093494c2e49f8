use Rattle.frac_rows.proofs.Gcds.{divisor_divides, divides_divisor}
use Rattle.frac_rows.proofs.laws.greatest_divisor.Goals as goal

pub returns : goal.returns
returns c = λ row. (divisor_divides row, λ d h. divides_divisor d row h)
