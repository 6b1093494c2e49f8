use Rattle.std.proofs.Common.{sym, ◌∙◌}
use Rattle.test_lines.proofs.fields.built.Goals as goal

pub build-requires-clause-listed : goal.build-requires-clause-listed
build-requires-clause-listed c = λ asked. (let e = sym c.with_candidates-terms.ensures.hubs ∙ asked in absurd (cc))
