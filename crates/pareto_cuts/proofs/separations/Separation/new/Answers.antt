use Rattle.pareto_cuts.proofs.separations.Separation.new.Goals as goal

pub invariant_of-result : goal.invariant_of-result
invariant_of-result c = record {
  separation = record { problem = c.candidates.ensures.problem; set = c.requires.set; order = c.requires.order; legs = c.requires.tables };
  candidates = c.candidates.ensures.value;
}
