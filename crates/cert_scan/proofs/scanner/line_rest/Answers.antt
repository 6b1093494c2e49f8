use Rattle.std.proofs.Common.{take, sym, subst}
use Rattle.cert_scan.specs.Runs.{HasNoLineEnd}
use Rattle.cert_scan.proofs.Stepping.{no_end_found}
use Rattle.cert_scan.proofs.scanner.line_rest.Goals as goal

pub returns-clause-none : goal.returns-clause-none
returns-clause-none c =
    subst (λ taken. HasNoLineEnd (take taken c.args.bytes.now)) (sym c.unwrap_or.ensures) (no_end_found c.args.bytes.now c.memchr.result c.memchr.ensures)
