use Rattle.hub_edges.proofs.OneRow.{row_is_one}
use Rattle.hub_edges.proofs.rows.row_is_one.Goals as goal

pub returns : goal.returns
returns c = row_is_one
