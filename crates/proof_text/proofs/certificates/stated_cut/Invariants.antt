use Rattle.std.proofs.Common.{◌≡◌, ◌+◌, ◌*◌, take}
use Rattle.hub_spec.specs.Problem.{commodities}
use Rattle.cut_pool.specs.Kept.{kept_of, kept_part}
use Rattle.dual_lender.specs.Lenders.{kept_dual, IsReady, HasDuals}
use Rattle.proof_text.proofs.CutRows.{AreDualsOf}
use Rattle.proof_text.proofs.certificates.stated_cut.Given as goal

abbrev pub invariant-loop-j : goal.invariant-loop-j
invariant-loop-j l = record {
  duals : AreDualsOf (kept_dual l.instance (kept_of l.kept)) (take (l.i * l.instance.size + l.j) (commodities l.instance.size)) l.cut.duals;
  part : l.cut.part ≡ kept_part (kept_of l.kept);
  has : HasDuals l.instance (kept_of l.kept) l.i l.lender;
}

abbrev pub invariant-loop-i : goal.invariant-loop-i
invariant-loop-i l = record {
  duals : AreDualsOf (kept_dual l.instance (kept_of l.kept)) (take (l.i * l.instance.size) (commodities l.instance.size)) l.cut.duals;
  part : l.cut.part ≡ kept_part (kept_of l.kept);
  ready : IsReady l.instance (kept_of l.kept) l.lender;
}
