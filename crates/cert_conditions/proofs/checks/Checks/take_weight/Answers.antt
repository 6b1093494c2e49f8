use Rattle.std.proofs.Common.{Bool, sym, subst, refl}
use Rattle.cert_conditions.specs.Steps.{LeafGoesOn}
use Rattle.cert_conditions.proofs.checks.Checks.take_weight.Goals as goal

pub returns-then-not-last : goal.returns-then-not-last
returns-then-not-last c = record {
  kept = c.add_weight.new.self;
  weighed = c.add_weight.ensures;
  goes = subst (λ (last : Bool). LeafGoesOn last c.add_weight.new.self c.add_weight.new.self) (sym c.if-not-last.true) refl;
}

pub returns : goal.returns
returns c = record {
  kept = c.add_weight.new.self;
  weighed = c.add_weight.ensures;
  goes = subst (λ (last : Bool). LeafGoesOn last c.add_weight.new.self c.end_leaf.new.self) (sym c.if-not-last.false) c.end_leaf.ensures;
}
