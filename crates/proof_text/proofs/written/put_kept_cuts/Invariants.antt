use Rattle.cert_scan.specs.Versions.{version_number}
use Rattle.cert_format.proofs.Following.{HasPut}
use Rattle.cert_format.proofs.CutLines.{cut_text}
use Rattle.dual_lender.specs.Lenders.{IsLenderFor}
use Rattle.proof_text.proofs.FoundLines.{numbered}
use Rattle.proof_text.proofs.written.put_kept_cuts.Given as goal

abbrev pub invariant-loop-place : goal.invariant-loop-place
invariant-loop-place g l = record {
  lender : IsLenderFor l.instance l.lender;
  put : (let s = g.K.Sink in HasPut s.taken s.faults l.initial.sink l.sink l.initial.buffer l.buffer (cut_text (version_number l.version) l.instance.size) (numbered (version_number l.version) l.instance l.cuts.cuts) l.place);
}
