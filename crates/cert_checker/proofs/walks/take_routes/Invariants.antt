use Rattle.std.proofs.Common.{◌≡◌, drop, zip}
use Rattle.hub_spec.specs.Problem.{commodities}
use Rattle.cert_spec.specs.Text.{route_items}
use Rattle.cert_checker.proofs.Walking.{HasFront}
use Rattle.cert_checker.proofs.walks.take_routes.Given as goal

abbrev pub invariant-loop-t : goal.invariant-loop-t
invariant-loop-t l = (let lines = route_items (zip (commodities l.n) l.routes) in record {
  front : HasFront l.fn.checks l.checks (drop l.t lines) lines;
  instance : l.checks.instance ≡ l.fn.checks.instance;
})
