use Rattle.std.proofs.Common.{◌≡◌, take, map}
use Rattle.cert_scan.specs.Versions.{version_number}
use Rattle.proof_text.specs.Certificates.{mark_said}
use Rattle.proof_text.proofs.marks.said_marks.Given as goal

abbrev pub invariant-loop-place : goal.invariant-loop-place
invariant-loop-place l = l.marks.items ≡ take l.place (map (mark_said (version_number l.version)) l.cuts.cuts)
