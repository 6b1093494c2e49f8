use Rattle.std.proofs.Common.{◌++◌, [], ◌∷◌}
use Rattle.std.specs.Prelude.{option_to_list}
use Rattle.cert_scan.proofs.Stepping.{scanned_step, step_given}
use Rattle.cert_scan.proofs.OnTime.{scanned_on_time}
use Rattle.cert_scan.proofs.scanner.Scan.step.Goals as goal

pub returns-clause-scanned : goal.returns-clause-scanned
returns-clause-scanned c = scanned_step c.args.self.now c.advance.new.self c.args.byte c.advance.result c.advance.ensures.given c.advance.ensures.after

pub returns-clause-in_order : goal.returns-clause-in_order
returns-clause-in_order c = step_given c.args.self.now c.advance.new.self c.args.byte c.advance.result c.advance.ensures.given c.advance.ensures.after

pub returns-clause-on_time : goal.returns-clause-on_time
returns-clause-on_time c bytes given h =
    scanned_on_time (bytes ++ c.args.byte ∷ []) (given ++ option_to_list c.advance.result) c.advance.new.self
    (scanned_step c.args.self.now c.advance.new.self c.args.byte c.advance.result c.advance.ensures.given c.advance.ensures.after bytes given h)
