use Rattle.std.proofs.Common.{◌≡◌, ◌*◌, List, length, map, ap, ◌∙◌, arith, rules}
use Rattle.file_spec.proofs.ContentLimits.{contents_within}
use Rattle.file_spec.specs.Options.{australia_post, Options}
use Rattle.hub_model.specs.Asked.{tail_of}
use Rattle.instance_ap.specs.declared.points.Point.{Point}
use Rattle.instance_ap.specs.Points.{coordinates_of, distances_front}
use Rattle.instance_ap.specs.Fronts.{tail_here, IsLegalTail}
use Rattle.instance_ap.specs.Files.{IsFront}
use Rattle.instance_ap.proofs.PostFiles.{front_count, tail_refused, has_contents}
use Rattle.instance_ap.proofs.layout.read_ap.Goals as goal

pub returns-in_err-n-clause-fault : goal.returns-in_err-n-clause-fault
returns-in_err-n-clause-fault c =
    let refused = c.read_front.ensures.fault c.args.terms.now in search rules

pub returns-in_err-tail_costs-clause-fault : goal.returns-in_err-tail_costs-clause-fault
returns-in_err-tail_costs-clause-fault c =
    let front : IsFront c.args.bytes.now c.in_ok-n.field-0 = search rules in
    let refused = tail_refused c.args.terms.now c.args.bytes.now c.in_ok-n.field-0 (tail_of c.terms.inside.tail) c.read_tail.result front
    (ap (λ (o : Options). o.tail) c.terms.view_is) c.read_tail.ensures.fault in
    search rules

pub distances-requires-clause-nodes : goal.distances-requires-clause-nodes
distances-requires-clause-nodes c =
    let front : IsFront c.args.bytes.now c.in_ok-n.field-0 = search rules in
    let count = front_count c.args.bytes.now c.in_ok-n.field-0 front in
    let limit = front.size_limit in
    omega (arith, count, limit, ap length c.deref.ensures.value)

pub parts-requires : goal.parts-requires
parts-requires c =
    let o = c.args.terms.now in
    let bytes = c.args.bytes.now in
    let read = c.in_ok-n.field-0 in
    let tail = tail_of c.terms.inside.tail in
    let divide = c.divisor.result in
    let points = c.deref.result.now in
    let front : IsFront bytes read = search rules in
    let legal : IsLegalTail tail read.n read.rest = search rules in
    let fixed : c.in_ok-tail_costs.tail_costs ≡ tail_here tail read.n read.rest = search rules in
    let between : c.in_ok-distances.distances ≡ distances_front divide (length points) (map coordinates_of points) (length points * length points) = search rules in
    let far = between ∙ ap (λ (ps : List Point). distances_front divide (length ps) (map coordinates_of ps) (length ps * length ps)) c.deref.ensures.value in
    let has = has_contents o bytes read tail divide (length read.points.items) c.in_ok-distances.distances c.in_ok-tail_costs.tail_costs front
    (ap (λ (o : Options). o.tail) c.terms.view_is) c.divisor.ensures.value (front_count bytes read front) legal fixed far in
    contents_within australia_post o bytes _ c.divisor.ensures.options has

pub returns-clause-contents : goal.returns-clause-contents
returns-clause-contents c =
    let o = c.args.terms.now in
    let bytes = c.args.bytes.now in
    let read = c.in_ok-n.field-0 in
    let tail = tail_of c.terms.inside.tail in
    let divide = c.divisor.result in
    let points = c.deref.result.now in
    let front : IsFront bytes read = search rules in
    let legal : IsLegalTail tail read.n read.rest = search rules in
    let fixed : c.in_ok-tail_costs.tail_costs ≡ tail_here tail read.n read.rest = search rules in
    let between : c.in_ok-distances.distances ≡ distances_front divide (length points) (map coordinates_of points) (length points * length points) = search rules in
    let far = between ∙ ap (λ (ps : List Point). distances_front divide (length ps) (map coordinates_of ps) (length ps * length ps)) c.deref.ensures.value in
    let has = has_contents o bytes read tail divide (length read.points.items) c.in_ok-distances.distances c.in_ok-tail_costs.tail_costs front
    (ap (λ (o : Options). o.tail) c.terms.view_is) c.divisor.ensures.value (front_count bytes read front) legal fixed far in
    rw c.parts.ensures has
