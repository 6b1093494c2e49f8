use denote.Text.{Utf8}
use denote.Shadow.{shadow}
use Rattle.test_certificates.proofs.certificates.names.instance_in.Given as goal

abbrev pub invariant-loop-line : goal.invariant-loop-line
invariant-loop-line l = shadow (Utf8 l.last)
