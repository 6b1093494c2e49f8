use Rattle.std.proofs.Common.{◌≡◌, ℕ, ◌+◌, ◌*◌, ◌≤◌, ◌&&◌, ◌++◌, List, length, take, drop, All, Contains, slice_index, refl, ap, sym, ◌∙◌, subst, mul-add, arith}
use Rattle.hub_spec.specs.Problem.{flow}
use Rattle.core_spec.specs.CoreCuts.{Way, taken_at}
use Rattle.core_spec.specs.MarkRanges.{most_taken}
use Rattle.core_lines.specs.Tallies.{ProofTally, IsWayAdded}
use Rattle.core_lines.proofs.AddedWays.{through_more, all_written, both_known}
use Rattle.core_lines.proofs.lines.ProofLine.take.Goals as goal

-- the list of how often nodes were passed is written back whole
whole : (c : goal.After-self-5-1)
    → take c.self.inside.through.len (c.pass.new.through ++ drop (length c.pass.new.through) c.self.inside.through.items) ≡ c.pass.new.through
whole c =
    all_written c.self.inside.through.len c.pass.new.through c.self.inside.through.items
    (omega (arith, c.deref_mut.ensures.len, ap length c.deref_mut.ensures.value)) (c.pass.ensures.long ∙ ap length c.deref_mut.ensures.value)

pub invariant_of-self : goal.invariant_of-self
invariant_of-self c =
    let now = c.self.invariant in
    let count = ap (λ (t : ProofTally). t.count) c.self.view_is in
    let same = ap length c.deref_mut.ensures.value in
    record {
      from = now.from;
      to = now.to;
      turns_limit = now.turns_limit;
      some_scale = now.some_scale;
      scale_limit = now.scale_limit;
      few = omega (arith, c.requires.few, count);
      taken_limit = omega (arith, now.taken_limit, c.requires.often);
      long = ap length (whole c) ∙ c.pass.ensures.long ∙ same ∙ now.long;
      through_limit =
          subst (λ (ks : List ℕ). All (λ x. x ≤ (c.self.inside.count + 1) * most_taken) ks) (sym (whole c))
          (through_more c.self.inside.through.items c.pass.new.through (c.args.k, c.args.m, c.args.often) c.self.inside.count most_taken
          (c.pass.ensures.long ∙ same)
          (λ x. c.pass.ensures.passed x ∙ ap (λ (ks : List ℕ). slice_index ks x + taken_at x (c.args.k, c.args.m, c.args.often)) c.deref_mut.ensures.value)
          c.requires.often now.through_limit);
      lengths_limit = omega (arith, now.lengths_limit, c.way_units-units.ensures.limit);
    }

pub returns : goal.returns
returns c =
    let s = c.self.inside in
    let way : Way = (c.args.k, c.args.m, c.args.often) in
    let w = flow s.instance.now s.from s.to in
    let later : ProofTally = record {
      problem = s.instance.now;
      commodity = (s.from, s.to);
      turns = s.turns;
      scale = s.scale;
      count = s.count + 1;
      taken = s.taken + c.args.often;
      through = take s.through.len (c.pass.new.through ++ drop (length c.pass.new.through) s.through.items);
      lengths = s.lengths + c.way_units-units.result;
      by_candidates = s.are_candidates && c.are_candidates-by_candidates.result;
    } in
    let known = both_known (Contains s.instance.now.candidates c.args.k × Contains s.instance.now.candidates c.args.m) s.are_candidates
    c.are_candidates-by_candidates.result c.are_candidates-by_candidates.ensures in
    subst (λ (t : ProofTally). IsWayAdded t way later) c.self.view_is (record {
      problem_is = refl;
      commodity_is = refl;
      turns_is = refl;
      scale_is = refl;
      count_is = refl;
      taken_is = refl;
      through_are = λ k.
          ap (λ (ks : List ℕ). slice_index ks k) (whole c) ∙ c.pass.ensures.passed k
          ∙ ap (λ (ks : List ℕ). slice_index ks k + taken_at k way) c.deref_mut.ensures.value;
      lengths_are = λ any. mul-add w s.lengths c.way_units-units.result ∙ ap (λ n. w * s.lengths + n) (c.way_units-units.ensures.cost any);
      known = (λ all. (let parts = known.0 all in (parts.0, parts.1.0, parts.1.1)), λ all. known.1 (all.0, (all.1, all.2)));
    })
