use Rattle.std.proofs.Common.{length, sym, ap, ◌∙◌}
use Rattle.hub_spec.specs.Cuts.{Cut}
use Rattle.cut_model.proofs.RunLists.{duals_counted}
use Rattle.cut_model.proofs.cuts.StatedCut.count.Goals as goal

pub returns : goal.returns
returns c =
    sym (duals_counted c.self.inside.values.items c.self.inside.runs.items c.self.inside.count c.self.invariant.ends)
    ∙ ap (λ (cut : Cut). length cut.duals) c.self.view_is
