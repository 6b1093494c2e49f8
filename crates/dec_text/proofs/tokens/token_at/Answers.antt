use Rattle.std.proofs.Common.{◌+◌, ap, ◌∙◌}
use Rattle.std.specs.List.{prefix_len, position_or_len}
use Rattle.text_spec.specs.Tokens.{is_separator}
use Rattle.dec_text.proofs.Turns.{no_token, next_token}
use Rattle.dec_text.proofs.tokens.token_at.Goals as goal

pub returns-clause-none : goal.returns-clause-none
returns-clause-none c =
    no_token c.args.bytes.now c.args.place (c.args.place + c.separators.result) (c.args.place + c.separators.result + c.token_len.result)
    (ap (λ n. c.args.place + n) (c.separators.ensures.value ∙ ap (prefix_len is_separator) c.split_at.ensures.back))
    (ap (λ n. c.args.place + c.separators.result + n) (c.token_len.ensures.value ∙ ap (position_or_len is_separator) c.split_at-2.ensures.back))

pub returns-clause-some : goal.returns-clause-some
returns-clause-some c =
    next_token c.args.bytes.now c.args.place (c.args.place + c.separators.result) (c.args.place + c.separators.result + c.token_len.result)
    (ap (λ n. c.args.place + n) (c.separators.ensures.value ∙ ap (prefix_len is_separator) c.split_at.ensures.back))
    (ap (λ n. c.args.place + c.separators.result + n) (c.token_len.ensures.value ∙ ap (position_or_len is_separator) c.split_at-2.ensures.back))
