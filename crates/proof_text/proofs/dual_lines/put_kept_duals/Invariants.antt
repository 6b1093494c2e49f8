use Rattle.std.proofs.Common.{flat_map}
use Rattle.std.specs.List.{range_with_len}
use Rattle.cert_scan.specs.Versions.{version_number}
use Rattle.cert_spec.specs.Text.{line_bytes}
use Rattle.cert_format.proofs.Following.{HasPut}
use Rattle.cut_pool.specs.Kept.{kept_of}
use Rattle.dual_lender.specs.Lenders.{IsReady}
use Rattle.proof_text.specs.Certificates.{mark_said}
use Rattle.proof_text.specs.Texts.{duals_with}
use Rattle.proof_text.proofs.dual_lines.put_kept_duals.Given as goal

abbrev pub invariant-loop-i : goal.invariant-loop-i
invariant-loop-i g l = record {
  ready : IsReady l.cut.instance.now (kept_of l.cut.kept.now) l.lender;
  put : (let s = g.K.Sink in HasPut s.taken s.faults l.initial.sink l.sink l.initial.buffer l.buffer (λ i. flat_map line_bytes (duals_with (version_number l.cut.version) l.cut.instance.now (kept_of l.cut.kept.now) (mark_said (version_number l.cut.version) (kept_of l.cut.kept.now)) i)) (range_with_len 0 l.cut.instance.now.size) l.i);
}
