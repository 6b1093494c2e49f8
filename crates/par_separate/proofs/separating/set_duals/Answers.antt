use Rattle.std.proofs.Common.{◌≡◌, ℕ, ap, sym, subst, ◌∙◌}
use Rattle.std.specs.List.{AllZip, range_with_len}
use Rattle.pareto_cuts.specs.Separations.{SetSeparation}
use Rattle.par_separate.specs.Origins.{AreMinimalDualsFrom}
use Rattle.par_separate.proofs.separating.set_duals.Goals as goal

pub joined-requires : goal.joined-requires
joined-requires g c =
    let s = c.new-separation.result in
    let nodes : c.size.result ≡ s.problem.size = c.size.ensures.value ∙ sym (ap (λ (x : SetSeparation). x.problem.size) c.new-separation.ensures) in
    record { each = subst (λ (n : ℕ). AllZip (λ i duals. AreMinimalDualsFrom s i duals.items) (range_with_len 0 n) c.in_ok-rows.rows.items) nodes c.in_ok-rows.ensures }
