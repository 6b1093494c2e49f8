use Rattle.std.proofs.Common.{ℕ, ◌+◌, Option, sym, ap, ◌∙◌}
use Rattle.core_spec.specs.CoreCuts.{Mark}
use Rattle.cert_scan.specs.Versions.{version_number}
use Rattle.cert_checker.specs.Older.{dual_place}
use Rattle.cert_checker.proofs.older.place_of_dual.Goals as goal

pub returns-in-None-clause-value : goal.returns-in-None-clause-value
returns-in-None-clause-value c =
    ap (λ (place : ℕ). 1 + place) c.run_place.ensures.value
    ∙ ap (λ (mark : Option Mark). dual_place (version_number c.args.version) c.args.n c.args.cut.now.duals mark c.args.t) (sym c.in-None.is)

pub returns-in-Some-clause-value : goal.returns-in-Some-clause-value
returns-in-Some-clause-value c =
    ap (λ (mark : Option Mark). dual_place (version_number c.args.version) c.args.n c.args.cut.now.duals mark c.args.t) (sym c.in-Some.is)
