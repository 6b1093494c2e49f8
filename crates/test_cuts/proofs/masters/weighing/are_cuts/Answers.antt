use Rattle.std.proofs.Common.{◌≡◌, ℕ, ◌+◌, ◌≤◌, List, [], ◌∷◌, ◌++◌, length, get_or, take, All, Vec, Global, subst, sym, rules}
use Rattle.std.specs.List.{AllZip}
use Rattle.std.proofs.lemmas.List.{take_more, take_all}
use Rattle.std.proofs.lemmas.List.Elements.{All-more, All-map}
use Rattle.std.proofs.lemmas.Slice.Zip.{all_zipped_more}
use Rattle.hub_spec.specs.Limits.{most_part}
use Rattle.leaf_bound.specs.Numbers.{IsSumOf}
use Rattle.test_cuts.proofs.masters.weighing.are_cuts.Goals as goal

pub loop-c-preserved : goal.loop-c-preserved
loop-c-preserved c =
    let parts = c.args.weighting.now.parts.now in
    let totals = c.args.weighting.now.totals.now in
    let loads = c.args.weighting.now.loads.now in
    let i = c.loop-c.c in
    let part = get_or parts i 0 in
    let z = get_or totals i 0 in
    let v = c.index-weighting-c.result in
    let sum : IsSumOf part z = c.is_sum_of.ensures c.if-not-is_sum_of.false in
    let next : take (i + 1) parts ≡ take i parts ++ part ∷ [] = take_more parts i 0 (search rules) in
    record {
      parts = All-more (λ (part : ℕ). (1 ≤ part) × (part ≤ most_part)) parts i 0 (search rules) c.loop-c.invariant.parts
          (c.is_part.ensures c.if-not-is_part.false);
      totals = subst (λ (es : List ℕ). AllZip IsSumOf es (take (i + 1) totals)) (sym next)
          (subst (λ (xs : List ℕ). AllZip IsSumOf (take i parts ++ part ∷ []) xs) (sym (take_more totals i 0 (search rules)))
          (all_zipped_more IsSumOf (take i parts) (take i totals) part z c.loop-c.invariant.totals sum));
      wide = All-more (λ (w : Vec ℕ Global). length w.items ≡ length c.args.weighting.now.fixed.now) loads i v (search rules)
          c.loop-c.invariant.wide (search rules);
    }

pub returns-clause-wide : goal.returns-clause-wide
returns-clause-wide c t =
    let n = length c.args.weighting.now.fixed.now in
    let loads = c.args.weighting.now.loads.now in
    let whole : take c.loop-c.c loads ≡ loads = take_all c.loop-c.c loads (search rules) in
    All-map (λ (row : List ℕ). length row ≡ n) (λ (v : Vec ℕ Global). v.items) loads
    (subst (All (λ (v : Vec ℕ Global). length v.items ≡ n)) whole c.loop-c.invariant.wide)
