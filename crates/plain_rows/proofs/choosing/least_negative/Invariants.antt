use Rattle.plain_rows.specs.Choices.{IsLeastBelow}
use Rattle.plain_rows.proofs.choosing.least_negative.Given as goal

abbrev pub invariant-loop-c : goal.invariant-loop-c
invariant-loop-c l = IsLeastBelow l.outside l.row l.c l.best
