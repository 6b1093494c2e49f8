use Rattle.std.proofs.Common.{◌-◌, ◌≤◌, length, take}
use Rattle.cert_format.specs.Readings.{HasRead}
use Rattle.cert_format.proofs.reader.read_cert.Given as goal

abbrev pub invariant-loop-at : goal.invariant-loop-at
invariant-loop-at l = record {
  within : l.at ≤ length l.bytes;
  read : HasRead (take l.at l.bytes) l.scan l.gathering;
}

abbrev pub decreases-loop-at : goal.decreases-loop-at
decreases-loop-at l = length l.bytes - l.at
