use Rattle.std.proofs.Common.{◌≡◌, ℕ, List, ◌<◌, length, get_or, Vec, Global, ap, sym, ◌∙◌, arith}
use Rattle.std.proofs.lemmas.List.{length-map}
use Rattle.leaf_bound.specs.declared.weightings.Weighting as lent
use Rattle.leaf_bound.specs.Bounds.{loads_of}
use Rattle.leaf_bound.specs.Numbers.{rows_of, AreWeightingNumbers}
use Rattle.leaf_bound.proofs.WeightedSums.{product_limit}
use Rattle.leaf_bound.proofs.LentNumbers.{weighed_totals, load_at, row_long, loads_kept, loads_added}
use Rattle.leaf_bound.proofs.weighing.add_cut.Goals as goal
use Rattle.leaf_bound.proofs.weighing.add_cut.Goals.{After-deref}

pub returns-then-weighting-c-eq0-clause-loads : goal.returns-then-weighting-c-eq0-clause-loads
returns-then-weighting-c-eq0-clause-loads c =
    loads_kept c.args.weighting.now.weights.now c.args.weighting.now.parts.now (rows_of c.args.weighting.now) c.args.c c.args.sums.now
    c.requires.within c.if-weighting-c-eq0.true c.requires.before

-- there is a row of loads for each weight
is_cut : (m : lent.Weighting) (c : ℕ) → AreWeightingNumbers m → c < length m.weights.now → c < length m.loads.now
is_cut m c are low =
    omega (arith, low, (weighed_totals m are).few_parts, are.as_many_rows, length-map m.loads.now (λ (v : Vec ℕ Global). v.items))

pub bounds-weighting-c-4 : goal.bounds-weighting-c-4
bounds-weighting-c-4 c = is_cut c.args.weighting.now c.args.c c.requires.numbers c.requires.within

row : (c : After-deref) → c.deref.result.now ≡ c.index-weighting-c.result.items
row c = c.deref.ensures.value ∙ ap (λ (v : Vec ℕ Global). v.items) (sym c.index-weighting-c.is)

-- the cut's load of the node
at : (c : After-deref) (k : ℕ) → get_or (loads_of (rows_of c.args.weighting.now) k) c.args.c 0 ≡ get_or c.deref.result.now k 0
at c k =
    load_at (λ (v : Vec ℕ Global). v.items) c.args.weighting.now.loads.now c.args.c k c.index-weighting-c.result (is_cut c.args.weighting.now c.args.c c.requires.numbers c.requires.within) c.index-weighting-c.is
    ∙ ap (λ (loads : List ℕ). get_or loads k 0) (sym (row c))

pub add_products-requires : goal.add_products-requires
add_products-requires c =
    let here = (goal.at.add_products-requires c).After-deref in
    omega (
      arith,
      row_long (λ (v : Vec ℕ Global). v.items) c.args.weighting.now.loads.now c.args.c (length c.args.weighting.now.fixed.now)
          c.index-weighting-c.result (is_cut c.args.weighting.now c.args.c c.requires.numbers c.requires.within) c.index-weighting-c.is
          c.requires.numbers.are_wide,
      ap length (row here),
    )

pub overflow_mul-result : goal.overflow_mul-result
overflow_mul-result c =
    let m = c.args.weighting.now in
    omega (
      arith,
      product_limit m.weights.now m.parts.now m.totals.now c.args.c c.share_of-share.result c.requires.within
          (weighed_totals m c.requires.numbers) c.share_of-share.ensures,
    )

pub returns-clause-loads : goal.returns-clause-loads
returns-clause-loads c =
    let here = (goal.at.returns-clause-loads c).After-deref in
    loads_added c.args.weighting.now.weights.now c.args.weighting.now.parts.now (rows_of c.args.weighting.now) c.args.c c.args.sums.now
    c.add_products.new.sums c.share_of-share.result c.deref.result.now
    c.requires.within c.share_of-share.ensures (at here) c.requires.before c.add_products.auto.sums c.add_products.ensures
