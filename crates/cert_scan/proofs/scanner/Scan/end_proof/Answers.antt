use Rattle.std.proofs.Common.{None, ap, ◌∙◌, subst}
use Rattle.cert_scan.specs.Ahead.{IsWayAhead}
use Rattle.cert_scan.specs.declared.bytes.Position.TheVariants.{Number}
use Rattle.cert_scan.specs.declared.places.Place.TheVariants.{WayFrom}
use Rattle.cert_scan.proofs.AtOnce.{same_way, way_ends}
use Rattle.cert_scan.proofs.scanner.Scan.end_proof.Goals as goal

pub returns : goal.returns
returns c =
    let ahead = c.in-Some.ensures in
    let found = c.in-WayFrom in
    let old = c.args.self.now in
    let same = same_way c.args.self.now.position ahead.0 found.before c.in-Number.place c.in-Number.field-1 ahead.1 c.in-Number.is found.is in
    way_ends c.args.self.now c.go-item.new.self found.before c.args.bytes.now c.in-Some.way c.go-item.result c.take_taken-next.result
    (ahead.1 ∙ ap (λ a. Number (WayFrom a) None) same) (subst (λ a. IsWayAhead old.shape.n a c.args.bytes.now c.in-Some.way) same ahead.2)
    c.take_taken-next.ensures c.go-item.ensures.given c.go-item.ensures.after
