use Rattle.std.proofs.Common.{◌≡◌, ℕ, ◌+◌, ◌≤◌, All, true≢false, ⊎_elim, sym, subst, ◌∙◌, arith}
use Rattle.std.specs.Int.{◌∣◌}
use Rattle.std.proofs.lemmas.Bool.Decides.{eqb_tells}
use Rattle.core_cuts.specs.Readings.{FoundDual}
use Rattle.core_cuts.proofs.CommonParts.{common_of, each_divides}
use Rattle.core_cuts.proofs.common_parts.common_part.Goals as goal

pub returns-then-divide-clause-some : goal.returns-then-divide-clause-some
returns-then-divide-clause-some c = record {
  common = common_of c.args.founds.now c.loop-part.part (omega arith) (c.divide.ensures.0 c.if-divide.true);
  least = c.loop-part.invariant;
}

pub loop-part-preserved : goal.loop-part-preserved
loop-part-preserved c e common =
    let reached = c.loop-part.invariant e common in
    let next : (c.loop-part.part ≡ e → ⊥) → c.loop-part.part + 1 ≤ e = λ apart. ⊎_elim (λ same. absurd (apart same.1)) (λ other. (let o = other.1 in omega (arith, reached, o))) (eqb_tells c.loop-part.part e) in
    next (λ same. true≢false (sym (c.divide.ensures.1 (subst (λ (n : ℕ). All (λ (f : FoundDual). f.part ∣ n) c.args.founds.now) (sym same)
    (each_divides c.args.founds.now e common))) ∙ c.if-divide.false))

pub returns-clause-none : goal.returns-clause-none
returns-clause-none c _ e common = omega (arith, c.loop-part.invariant e common)
