use Rattle.std.proofs.Common.{ℕ, ◌+◌, ◌*◌, Option, sym, ap, ◌∙◌, arith}
use Rattle.core_spec.specs.CoreCuts.{Mark}
use Rattle.cert_scan.specs.Versions.{version_number}
use Rattle.cert_checker.specs.Older.{cut_lines}
use Rattle.cert_checker.proofs.older.lines_of.Goals as goal

pub returns-in-None-clause-value : goal.returns-in-None-clause-value
returns-in-None-clause-value c =
    ap (λ (count : ℕ). count + 1) c.run_count.ensures.value
    ∙ ap (λ (mark : Option Mark). cut_lines (version_number c.args.version) c.args.n c.args.cut.now mark) (sym c.in-None.is)

pub returns-in-Some-clause-value : goal.returns-in-Some-clause-value
returns-in-Some-clause-value c =
    ap (λ (count : ℕ). 2 * count + 1) c.count.ensures
    ∙ ap (λ (mark : Option Mark). cut_lines (version_number c.args.version) c.args.n c.args.cut.now mark) (sym c.in-Some.is)

pub returns-in-Some-clause-limit : goal.returns-in-Some-clause-limit
returns-in-Some-clause-limit c = omega (arith, c.count.ensures, c.requires.one_for_each)
