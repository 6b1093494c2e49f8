use Rattle.std.proofs.Common.{ℕ, List, length, refl, ap, arith}
use Rattle.cert_lines.specs.Marks.{marked}
use Rattle.cert_lines.proofs.Marking.{length-without}
use Rattle.cert_lines.proofs.Walking.{has_last, kept_leave, not_free_now, is_inside_now}
use Rattle.cert_lines.proofs.trails.Trail.leave.Goals as goal

pub add-requires-clause-room : goal.add-requires-clause-room
add-requires-clause-room c =
    let s = c.self.inside in
    let last = has_last s.size s.candidates.items c.pop.new.self.items s.steps.items c.in_ok-step.step s.inside s.free c.in_ok-step.ensures.items c.self.invariant.0 in
    omega (arith, last.is_node, c.self.invariant.0.free_size)

pub add-requires-clause-new : goal.add-requires-clause-new
add-requires-clause-new c =
    let s = c.self.inside in
    let last = has_last s.size s.candidates.items c.pop.new.self.items s.steps.items c.in_ok-step.step s.inside s.free c.in_ok-step.ensures.items c.self.invariant.0 in
    not_free_now s.candidates.items c.pop.new.self.items c.in_ok-step.step s.size s.inside s.free last

pub remove-requires : goal.remove-requires
remove-requires c =
    let s = c.self.inside in
    let last = has_last s.size s.candidates.items c.pop.new.self.items s.steps.items c.in_ok-step.step s.inside s.free c.in_ok-step.ensures.items c.self.invariant.0 in
    is_inside_now s.candidates.items c.pop.new.self.items c.in_ok-step.step s.size s.inside s.free last c.if-step.true

pub invariant_of-self-then-step : goal.invariant_of-self-then-step
invariant_of-self-then-step c =
    let s = c.self.inside in
    let last = has_last s.size s.candidates.items c.pop.new.self.items s.steps.items c.in_ok-step.step s.inside s.free c.in_ok-step.ensures.items c.self.invariant.0 in (
      kept_leave s.size s.candidates.items c.pop.new.self.items c.in_ok-step.step s.inside s.free c.remove.new.self c.add.new.self last
          c.add.ensures.size c.add.ensures.nodes c.remove.ensures.size (rw c.if-step.true c.remove.ensures.nodes),
      omega (arith, c.pop.ensures.capacity, c.self.invariant.1),
      omega (
        arith,
        ap (λ (ks : List ℕ). length ks) c.remove.ensures.nodes,
        length-without c.in_ok-step.step.node (marked s.inside)
            (is_inside_now s.candidates.items c.pop.new.self.items c.in_ok-step.step s.size s.inside s.free last c.if-step.true),
        c.self.invariant.2,
      ),
    )

pub invariant_of-self-else-step : goal.invariant_of-self-else-step
invariant_of-self-else-step c =
    let s = c.self.inside in
    let last = has_last s.size s.candidates.items c.pop.new.self.items s.steps.items c.in_ok-step.step s.inside s.free c.in_ok-step.ensures.items c.self.invariant.0 in (
      kept_leave s.size s.candidates.items c.pop.new.self.items c.in_ok-step.step s.inside s.free s.inside c.add.new.self last
          c.add.ensures.size c.add.ensures.nodes refl (rw c.if-step.false refl),
      omega (arith, c.pop.ensures.capacity, c.self.invariant.1),
      c.self.invariant.2,
    )

pub overflow_sub-self : goal.overflow_sub-self
overflow_sub-self c =
    let s = c.self.inside in
    let last = has_last s.size s.candidates.items c.pop.new.self.items s.steps.items c.in_ok-step.step s.inside s.free c.in_ok-step.ensures.items c.self.invariant.0 in
    let there = is_inside_now s.candidates.items c.pop.new.self.items c.in_ok-step.step s.size s.inside s.free last c.if-step.true in
    omega (arith, length-without c.in_ok-step.step.node (marked s.inside) there, c.self.invariant.2)
