use Rattle.std.proofs.Common.{ℕ, ◌+◌, ◌<◌, Fits, Contains, subst, sym, rules, arith}
use mir.Syntax.{w64}
use Rattle.cert_lines.specs.Trails.{Trail, trail_of, trail_end}
use Rattle.cert_lines.proofs.Marking.{few_marked}
use Rattle.cert_lines.proofs.Walking.{room_for_step, step_is_node, none_inside_twice, kept_enter, one_more}
use Rattle.cert_lines.proofs.trails.Trail.enter.Goals as goal

fits : (n : ℕ) → n < 4294967296 → Fits w64 n
fits n low = search (rules, arith)

pub push_reserved-requires : goal.push_reserved-requires
push_reserved-requires c =
    let s = c.self.inside in
    let free : Contains (trail_end (trail_of s.size s.candidates.items s.steps.items)).free c.args.step.node = subst (λ (t : Trail). Contains (trail_end t).free c.args.step.node) (sym c.self.view_is) c.requires in
    omega (arith, room_for_step s.size s.candidates.items s.steps.items c.args.step.node s.inside s.free c.self.invariant.0 free, c.self.invariant.1)

pub add-requires-clause-room : goal.add-requires-clause-room
add-requires-clause-room c =
    let s = c.self.inside in
    let free : Contains (trail_end (trail_of s.size s.candidates.items s.steps.items)).free c.args.step.node = subst (λ (t : Trail). Contains (trail_end t).free c.args.step.node) (sym c.self.view_is) c.requires in
    omega (arith, step_is_node s.size s.candidates.items s.steps.items c.args.step.node s.inside s.free c.self.invariant.0 free, c.self.invariant.0.inside_size)

pub add-requires-clause-new : goal.add-requires-clause-new
add-requires-clause-new c =
    let s = c.self.inside in
    none_inside_twice s.size s.candidates.items s.steps.items c.args.step.node s.inside s.free c.self.invariant.0 (subst (λ (t : Trail). Contains (trail_end t).free c.args.step.node) (sym c.self.view_is) c.requires)

pub overflow_add-self : goal.overflow_add-self
overflow_add-self c =
    let grown = one_more c.args.step.node c.self.inside.inside c.add.new.self c.add.ensures.nodes in
    let few = few_marked 0 c.add.new.self in
    fits (c.self.inside.hub_count + 1) (omega (arith, grown, few, c.add.ensures.size, c.self.invariant.0.inside_size, c.self.invariant.2, c.self.ranges.0))

pub invariant_of-self : goal.invariant_of-self
invariant_of-self c =
    let s = c.self.inside in
    let free : Contains (trail_end (trail_of s.size s.candidates.items s.steps.items)).free c.args.step.node = subst (λ (t : Trail). Contains (trail_end t).free c.args.step.node) (sym c.self.view_is) c.requires in (
      kept_enter s.size s.candidates.items s.steps.items c.push_reserved.new.self.items c.args.step s.inside s.free c.add.new.self c.remove.new.self
          c.push_reserved.ensures.items c.self.invariant.0 free c.remove.ensures.size c.remove.ensures.nodes c.add.ensures.size
          (rw c.if-step.true c.add.ensures.nodes),
      omega (arith, c.push_reserved.ensures.capacity, c.self.invariant.1),
      omega (arith, one_more c.args.step.node s.inside c.add.new.self c.add.ensures.nodes, c.self.invariant.2),
    )
