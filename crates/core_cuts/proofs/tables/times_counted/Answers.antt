use Rattle.std.proofs.Common.{refl}
use Rattle.std.proofs.lemmas.Bool.{false≢true}
use Rattle.hub_spec.proofs.Sets.{is_in-yes, is_in-no}
use Rattle.core_cuts.proofs.tables.times_counted.Goals as goal

pub returns-then-is_among-clause-value : goal.returns-then-is_among-clause-value
returns-then-is_among-clause-value c = rw (is_in-yes c.args.hubs.now c.args.node (c.if-is_among.ensures.0 refl)) refl

pub returns-else-is_among-clause-value : goal.returns-else-is_among-clause-value
returns-else-is_among-clause-value c = rw (is_in-no c.args.hubs.now c.args.node (λ here. false≢true (c.if-is_among.ensures.1 here))) refl
