use Rattle.std.proofs.Common.{◌∙◌}
use Rattle.clap.specs.Words.{found_of}
use Rattle.clap.proofs.WalkLemmas.{first_value-rows}
use Rattle.hub_words.specs.Words.{given}
use Rattle.hub_words.proofs.settings.given.Goals as goal

pub returns : goal.returns
unfolding given
returns c = c.get_str.ensures ∙ first_value-rows (found_of c.args.found.now) c.args.name.now
