use Rattle.std.proofs.Common.{◌≤◌, ℕ, Option, IfSome, List, length, ap, ◌∙◌, subst, arith}
use Rattle.hub_spec.specs.Limits.{most_part}
use Rattle.core_cuts.specs.BasicRatios.{IsLeastReading}
use Rattle.core_cuts.specs.Bodies.{table_proof}
use Rattle.core_cuts.specs.Readings.{Reading}
use Rattle.core_cuts.proofs.core_duals.read_in.Goals as goal

pub of-requires-clause-wide : goal.of-requires-clause-wide
of-requires-clause-wide c = omega (arith, ap length c.candidates-candidates.ensures.value, c.requires.wide)

pub returns-in_ok-proof-in-Some-clause-some : goal.returns-in_ok-proof-in-Some-clause-some
returns-in_ok-proof-in-Some-clause-some c = record {
  least = subst (λ (o : Option Reading). IfSome o (λ r. IsLeastReading c.args.instance.now c.args.rows.now r)) c.in-Some.is c.in_ok-prices.ensures.some;
  part = subst (λ (o : Option Reading). IfSome o (λ r. r.part ≤ most_part)) c.in-Some.is c.in_ok-prices.ensures.limit;
  by_table = c.in_ok-proof-in-Some.ensures ∙ ap (λ (ks : List ℕ). table_proof ks c.args.edges.now c.args.rows.now) c.candidates-candidates.ensures.value;
}
