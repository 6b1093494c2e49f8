use Rattle.std.specs.Prelude.{zip}
use Rattle.cert_scan.specs.Versions.{version_number}
use Rattle.cert_format.proofs.CutLines.{cut_text, numbered}
use Rattle.cert_format.proofs.Following.{HasPut}
use Rattle.cert_format.proofs.writer.put_cuts.Given as goal

abbrev pub invariant-loop-x : goal.invariant-loop-x
invariant-loop-x g l = (let s = g.K.Sink in HasPut s.taken s.faults l.initial.sink l.sink l.initial.buffer l.buffer
    (cut_text (version_number l.version) l.n) (numbered (zip l.cuts l.marks)) l.x)
