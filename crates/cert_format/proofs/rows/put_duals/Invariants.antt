use Rattle.std.specs.List.{range_with_len}
use Rattle.cert_scan.specs.Versions.{version_number}
use Rattle.cert_format.proofs.DualRows.{row_bytes}
use Rattle.cert_format.proofs.Following.{HasPut}
use Rattle.cert_format.proofs.rows.put_duals.Given as goal

abbrev pub invariant-loop-i : goal.invariant-loop-i
invariant-loop-i g l = (let s = g.K.Sink in HasPut s.taken s.faults l.initial.sink l.sink l.initial.buffer l.buffer
    (row_bytes (version_number l.version) l.n l.cut.duals) (range_with_len 0 l.n) l.i)
