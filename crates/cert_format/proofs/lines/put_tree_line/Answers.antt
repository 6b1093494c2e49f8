use Rattle.std.proofs.Common.{refl, sym, ap, ◌∙◌}
use Rattle.hub_spec.specs.Trees.{branch_on, no_hub, no_route, no_count}
use Rattle.cert_spec.specs.Lines.{says_tree}
use Rattle.cert_format.proofs.Written.{line_of}
use Rattle.cert_format.proofs.Putting.{tree_line_bytes}
use Rattle.cert_format.proofs.Following.{as_text}
use Rattle.cert_format.proofs.lines.put_tree_line.Goals as goal

pub returns-in-BranchOn : goal.returns-in-BranchOn
returns-in-BranchOn g c = as_text (line_of (says_tree (branch_on c.in-BranchOn.k)) refl ∙ ap tree_line_bytes (sym c.in-BranchOn.is)) c.put_line.ensures

pub returns-in-Empty : goal.returns-in-Empty
returns-in-Empty g c = as_text (line_of (says_tree no_hub) refl ∙ ap tree_line_bytes (sym c.in-Empty.is)) c.put_line-in-Empty.ensures

pub returns-in-Block : goal.returns-in-Block
returns-in-Block g c =
    as_text (line_of (says_tree (no_route (c.in-Block.i, c.in-Block.j))) refl ∙ ap tree_line_bytes (sym c.in-Block.is)) c.put_line-in-Block.ensures

pub returns-in-Count : goal.returns-in-Count
returns-in-Count g c = as_text (line_of (says_tree no_count) refl ∙ ap tree_line_bytes (sym c.in-Count.is)) c.put_line-in-Count.ensures
