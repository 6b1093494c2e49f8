use Rattle.std.proofs.Common.{◌≡◌, ◌++◌, ◌∷◌, [], ◌*◌, ap, sym, ◌∙◌, arith, rules}
use Rattle.file_spec.specs.Places.{a_coordinate}
use Rattle.token_reader.specs.Unread.{later, AreLegal}
use Rattle.token_reader.proofs.Ahead.{later-none}
use Rattle.token_reader.proofs.Stretches.{legal_none}
use Rattle.instance_ap.specs.Points.{coordinates_of}
use Rattle.instance_ap.specs.Fronts.{point_here, points_front}
use Rattle.token_reader.proofs.Formulas.{formula_none, formula_push}
use Rattle.instance_ap.proofs.Legal.{moved_pair, legal_pair, fault_pair}
use Rattle.instance_ap.proofs.reading.read_points.Goals as goal

pub loop-node-init : goal.loop-node-init
unfolding points_front
loop-node-init c =
    let none : c.in_ok-points.points.items ≡ [] = search rules in
    record {
      moved = sym (later-none c.args.reader.now);
      legal = legal_none _ _;
      values = formula_none coordinates_of (λ k. point_here (later (2 * k) c.args.reader.now)) _ none;
    }

pub loop-node-preserved : goal.loop-node-preserved
unfolding points_front
loop-node-preserved c =
    let r = c.args.reader.now in
    let here = c.loop-node.invariant.moved in
    let moved : c.read_point.new.reader ≡ later 2 c.loop-node.reader = search rules in
    let legal : AreLegal a_coordinate 2 c.loop-node.reader = search rules in
    let value : coordinates_of c.in_ok-point.point ≡ point_here c.loop-node.reader = search rules in
    let pushed : c.push.new.self.items ≡ c.loop-node.points.items ++ c.in_ok-point.point ∷ [] = search rules in
    record {
      moved = moved_pair c.loop-node._node r _ _ here moved;
      legal = legal_pair a_coordinate c.loop-node._node r _ here c.loop-node.invariant.legal legal;
      values = formula_push coordinates_of (λ k. point_here (later (2 * k) r)) c.loop-node._node c.in_ok-point.point _ _ pushed
          (value ∙ ap point_here here) c.loop-node.invariant.values;
    }

pub returns-in_err-point-clause-fault : goal.returns-in_err-point-clause-fault
returns-in_err-point-clause-fault c =
    let refused = fault_pair a_coordinate c.loop-node._node c.args.n c.args.reader.now _ c.read_point.result (omega arith)
    c.loop-node.invariant.moved c.loop-node.invariant.legal c.read_point.ensures.fault in
    search rules
