use Rattle.std.proofs.Common.{◌+◌, ◌-◌, ◌*◌, ap, ◌∙◌, mul-pos, arith}
use Rattle.cert_scan.specs.Versions.{version_number}
use Rattle.cert_checker.proofs.RunPlaces.{runs_counted}
use Rattle.cert_checker.proofs.runs.run_count.Goals as goal

pub returns-clause-value : goal.returns-clause-value
returns-clause-value c =
    let some = mul-pos c.requires.some c.requires.some in
    ap (λ m. m + 1) c.run_place.ensures.value
    ∙ runs_counted (version_number c.args.version) c.args.n c.args.cut.now.duals (c.args.n * c.args.n - 1) c.requires.some
    (omega (arith, some, c.requires.one_for_each))
