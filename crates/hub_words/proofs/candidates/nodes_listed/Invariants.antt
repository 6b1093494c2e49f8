use Rattle.std.proofs.Common.{length}
use denote.Shadow.{shadow}
use denote.Text.{Utf8}
use Rattle.hub_words.proofs.ListedNodes.{IsRead}
use Rattle.hub_words.proofs.candidates.nodes_listed.Given as goal

abbrev pub invariant-loop-part : goal.invariant-loop-part
invariant-loop-part l = record { read : IsRead l.word l.nodes.items l.least l.rest; text : shadow (Utf8 l.rest) }

abbrev pub decreases-loop-part : goal.decreases-loop-part
decreases-loop-part l = length l.rest
