use Rattle.std.proofs.Common.{◌≡◌, drop, flat_map, zip}
use Rattle.cert_spec.specs.Text.{cut_items}
use Rattle.cert_scan.specs.Versions.{version_number}
use Rattle.cert_format.proofs.CutLines.{numbered}
use Rattle.cert_checker.proofs.Walking.{HasFront}
use Rattle.cert_checker.proofs.walks.take_cuts.Given as goal

abbrev pub invariant-loop-x : goal.invariant-loop-x
invariant-loop-x g l = (let f = cut_items (version_number l.version) l.n in
    let cuts = numbered (zip l.cuts l.marks) in
    record {
      front : HasFront l.fn.checks l.checks (flat_map f (drop l.x cuts)) (flat_map f cuts);
      instance : l.checks.instance ≡ l.fn.checks.instance;
    })
