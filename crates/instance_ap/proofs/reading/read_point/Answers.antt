use Rattle.std.proofs.Common.{◌≡◌, ◌^◌, ◌≤◌, nat_abs, Ok, ap, ap₂, sym, ◌∙◌, arith, rules}
use Rattle.file_spec.specs.Places.{a_coordinate}
use Rattle.token_reader.specs.Unread.{later, coordinate_here}
use Rattle.token_reader.proofs.Ahead.{later-none}
use Rattle.token_reader.proofs.Stretches.{legal_none}
use Rattle.instance_ap.specs.Fronts.{point_here}
use Rattle.instance_ap.proofs.Gaps.{coordinate_same}
use Rattle.token_reader.proofs.Steps.{moved_token, legal_token, fault_token}
use Rattle.instance_ap.proofs.reading.read_point.Goals as goal

pub returns-in_err-x-clause-fault : goal.returns-in_err-x-clause-fault
returns-in_err-x-clause-fault c =
    let start = sym (later-none c.args.reader.now) in
    let none = legal_none a_coordinate c.args.reader.now in
    let refused = fault_token a_coordinate 0 2 c.args.reader.now _ c.coordinate.result (omega arith) start c.coordinate.ensures.fault none in
    search rules

pub returns-in_err-y-clause-fault : goal.returns-in_err-y-clause-fault
returns-in_err-y-clause-fault c =
    let r = c.args.reader.now in
    let start = sym (later-none r) in
    let none = legal_none a_coordinate r in
    let read : c.coordinate.result ≡ Ok c.in_ok-x.x = search rules in
    let past : c.coordinate.new.self ≡ later 1 r = search rules in
    let one = legal_token a_coordinate 0 r _ c.coordinate.result c.in_ok-x.x start read c.coordinate.ensures.fault none in
    let refused = fault_token a_coordinate 1 2 r _ c.coordinate-2.result (omega arith) past c.coordinate-2.ensures.fault one in
    search rules

pub returns-clause-legal : goal.returns-clause-legal
returns-clause-legal c =
    let r = c.args.reader.now in
    let start = sym (later-none r) in
    let none = legal_none a_coordinate r in
    let read : c.coordinate.result ≡ Ok c.in_ok-x.x = search rules in
    let past : c.coordinate.new.self ≡ later 1 r = search rules in
    let one = legal_token a_coordinate 0 r _ c.coordinate.result c.in_ok-x.x start read c.coordinate.ensures.fault none in
    let second : c.coordinate-2.result ≡ Ok c.in_ok-y.y = search rules in
    legal_token a_coordinate 1 r _ c.coordinate-2.result c.in_ok-y.y past second c.coordinate-2.ensures.fault one

pub returns-clause-value : goal.returns-clause-value
unfolding point_here
returns-clause-value c =
    let r = c.args.reader.now in
    let past : c.coordinate.new.self ≡ later 1 r = search rules in
    let x : c.in_ok-x.x ≡ coordinate_here r = search rules in
    let y : c.in_ok-y.y ≡ coordinate_here c.coordinate.new.self = search rules in
    let near_x : nat_abs c.in_ok-x.x ≤ 10 ^ 12 = search rules in
    let near_y : nat_abs c.in_ok-y.y ≤ 10 ^ 12 = search rules in
    ap₂ (λ a b. (a, b)) (coordinate_same c.in_ok-x.x near_x ∙ x) (coordinate_same c.in_ok-y.y near_y ∙ (y ∙ ap coordinate_here past))

pub returns-clause-moved : goal.returns-clause-moved
returns-clause-moved c =
    let r = c.args.reader.now in
    let past : c.coordinate.new.self ≡ later 1 r = search rules in
    let further : c.coordinate-2.new.self ≡ later 1 c.coordinate.new.self = search rules in
    moved_token 1 r _ _ past further
