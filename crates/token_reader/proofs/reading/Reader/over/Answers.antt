use Rattle.std.proofs.Common.{length, arith, ap, ◌∙◌}
use Rattle.token_reader.proofs.Ahead.{ahead_is}
use Rattle.token_reader.proofs.Counts.{tokens_of_count}
use Rattle.token_reader.proofs.reading.Reader.over.Goals as goal

pub invariant_of-result : goal.invariant_of-result
invariant_of-result c =
    let all = ahead_is (λ t. (t.0, t.1.now)) c.next-ahead.result _ _ c.next-ahead.ensures.steps ∙ c.over-tokens.ensures in
    omega (arith, ap length all, tokens_of_count c.args.bytes.now)
