use Rattle.std.proofs.Common.{◌-◌, ◌++◌, take}
use Rattle.std.specs.Prelude.{option_to_list}
use Rattle.cert_scan.specs.Scans.{scanned}
use Rattle.cert_scan.proofs.Stepping.{run_scanned, run_before, run_given}
use Rattle.cert_scan.proofs.OnTime.{scanned_on_time}
use Rattle.cert_scan.proofs.scanner.Scan.run.Goals as goal

pub returns-clause-scanned : goal.returns-clause-scanned
returns-clause-scanned c = run_scanned c.args.self.now c.take_run.new.self c.args.bytes.now c.take_run.result.0 c.take_run.result.1 c.take_run.ensures

pub returns-clause-in_order : goal.returns-clause-in_order
returns-clause-in_order c = run_given c.args.self.now c.take_run.new.self c.args.bytes.now c.take_run.result.0 c.take_run.result.1 c.take_run.ensures

pub returns-clause-on_time : goal.returns-clause-on_time
returns-clause-on_time c front given h =
    let count = c.take_run.result.0 in
    scanned_on_time (front ++ take count c.args.bytes.now) (given ++ option_to_list c.take_run.result.1) c.take_run.new.self
    (run_scanned c.args.self.now c.take_run.new.self c.args.bytes.now count c.take_run.result.1 c.take_run.ensures front given h)

pub returns-clause-not_sooner : goal.returns-clause-not_sooner
returns-clause-not_sooner c front given h =
    let old = c.args.self.now in
    let before = take (c.take_run.result.0 - 1) c.args.bytes.now in
    scanned_on_time (front ++ before) given (scanned old before)
    (run_before old c.take_run.new.self c.args.bytes.now c.take_run.result.0 c.take_run.result.1 c.take_run.ensures front given h)
