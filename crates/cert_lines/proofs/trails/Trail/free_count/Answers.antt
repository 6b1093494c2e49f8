use Rattle.std.proofs.Common.{◌≡◌, ◌-◌, length, subst, arith}
use Rattle.cert_lines.specs.Trails.{Trail, trail_end}
use Rattle.cert_lines.proofs.Walking.{free_left}
use Rattle.cert_lines.proofs.trails.Trail.free_count.Goals as goal

pub overflow_sub-result : goal.overflow_sub-result
overflow_sub-result c =
    let s = c.self.inside in
    omega (arith, free_left s.size s.candidates.items s.steps.items s.inside s.free c.self.invariant.0, c.len.ensures, c.len-2.ensures)

pub returns : goal.returns
returns c =
    let s = c.self.inside in
    subst (λ (t : Trail). c.len.result - c.len-2.result ≡ length (trail_end t).free) c.self.view_is
    (omega (arith, free_left s.size s.candidates.items s.steps.items s.inside s.free c.self.invariant.0, c.len.ensures, c.len-2.ensures))
