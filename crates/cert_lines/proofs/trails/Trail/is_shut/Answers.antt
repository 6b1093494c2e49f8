use Rattle.std.proofs.Common.{IsTrue, Contains, ◌↔◌, not, subst, sym}
use Rattle.cert_lines.specs.Trails.{Trail, trail_of, trail_end}
use Rattle.cert_lines.proofs.Walking.{shut_without, hub_not_shut}
use Rattle.cert_lines.proofs.trails.Trail.is_shut.Goals as goal

pub returns-then-not-has : goal.returns-then-not-has
returns-then-not-has c =
    let s = c.self.inside in
    let trail = trail_of s.size s.candidates.items s.steps.items in
    let here : Contains trail.candidates c.args.k = subst (λ (t : Trail). Contains t.candidates c.args.k) (sym c.self.view_is) c.requires in
    subst (λ (t : Trail). IsTrue (not c.has-then-not-has.result) ↔ Contains (trail_end t).outside c.args.k) c.self.view_is
    (shut_without trail s.inside s.free c.args.k c.has.result c.has-then-not-has.result c.self.invariant.0 here c.has.ensures c.has-then-not-has.ensures c.if-not-has.true)

pub returns-else-not-has : goal.returns-else-not-has
returns-else-not-has c =
    let s = c.self.inside in
    let trail = trail_of s.size s.candidates.items s.steps.items in
    subst (λ (t : Trail). IsTrue (not c.has.result) ↔ Contains (trail_end t).outside c.args.k) c.self.view_is
    (hub_not_shut trail s.inside s.free c.args.k c.has.result c.self.invariant.0 c.has.ensures c.if-not-has.false)
