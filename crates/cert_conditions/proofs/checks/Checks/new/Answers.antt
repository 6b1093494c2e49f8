use Rattle.std.proofs.Common.{[], ap, refl, sym, subst, arith}
use Rattle.dual_lines.specs.Lines.{ListedDual}
use Rattle.cert_lines.specs.Paths.{Pending}
use Rattle.cert_conditions.specs.Taken.{AreCutSums}
use Rattle.cert_conditions.proofs.Whole.{new_taken}
use Rattle.cert_conditions.proofs.checks.Checks.new.Goals as goal

pub returns : goal.returns
returns c = record {
  begun = new_taken _ (record {
    line_is = refl;
    failure_is = refl;
    firm = record {
      problem = c.size-nodes.ensures.problem;
      dual_is = ap (λ (d : ListedDual). d.problem) c.in_ok-new-2.ensures;
      proof_is = c.in_ok-new-3.ensures;
      size_is = ap (λ (d : Pending). d.size) c.in_ok-new-4.ensures;
      candidates_are = ap (λ (d : Pending). d.candidates) c.in_ok-new-4.ensures;
      long = c.in_ok-new-5.ensures.count;
      cost_is = refl;
      bound_is = refl;
      short = omega arith;
    };
    keeps = (
      record { no_hub = refl; no_route = refl; tally = c.in_ok-new.ensures; known = refl },
      record { sums_are = subst (AreCutSums c.args.instance.now []) (sym c.new-2.ensures) tt; no_mark = refl; no_dual = refl },
    );
  });
  instance = refl;
}
