use Rattle.std.proofs.Common.{◌≡◌, take}
use Rattle.cut_pool.specs.Kept.{kept_cuts}
use Rattle.dual_lender.specs.Lenders.{IsLenderFor}
use Rattle.proof_text.proofs.certificates.lent_cuts.Given as goal

abbrev pub invariant-loop-place : goal.invariant-loop-place
invariant-loop-place l = record {
  lender : IsLenderFor l.instance l.lender;
  stated : l.all.items ≡ take l.place (kept_cuts l.instance l.cuts.cuts);
}
