use Rattle.std.proofs.Common.{ℕ, subst, ◌∙◌}
use Rattle.cert_conditions.specs.Sums.{IsNoDual}
use Rattle.cert_conditions.specs.Marks.{MarkTally}
use Rattle.cert_conditions.specs.Steps.{Tried, ended, mark_tests}
use Rattle.cert_conditions.proofs.checks.Checks.take_mark.Goals as goal

pub returns-clause-taken : goal.returns-clause-taken
returns-clause-taken c =
    let s = c.args.self.now in
    let found = c.failed_mark-found.result in
    let begun = c.in_ok-begin.ensures.begun in
    record {
      sums = begun.0;
      none = subst (λ (n : ℕ). IsNoDual n s.mark.part begun.0) c.size.ensures.value
          (subst (λ (part : ℕ). IsNoDual c.size.result part begun.0) c.part.ensures.part begun.1);
      ends = record {
        found = found;
        tried = subst (λ (mark : MarkTally). Tried (mark_tests (record s { mark = mark })) found s.line) c.add_hub.ensures c.failed_mark-found.ensures;
        is = c.end_line.ensures ∙ (λ i. ended (record s { cuts = begun.2 i; mark = c.add_hub.ensures i }) found);
      };
    }
