use Rattle.text_spec.proofs.Runs.{all_tokens_are_runs}
use Rattle.text_spec.proofs.laws.tokens_are_runs.Goals as goal

pub returns : goal.returns
returns c = all_tokens_are_runs
