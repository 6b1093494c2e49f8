use Rattle.ascent_search.proofs.BranchEnds.{all_candidates}
use Rattle.ascent_search.proofs.laws.all_candidates_serve.Goals as goal

pub returns : goal.returns
returns c = all_candidates
