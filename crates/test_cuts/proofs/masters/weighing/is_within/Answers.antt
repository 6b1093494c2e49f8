use Rattle.std.proofs.Common.{◌≡◌, ℕ, ◌+◌, ◌<◌, List, [], ◌∷◌, ◌++◌, length, get_or, take, Vec, Global, subst, sym, ap, ◌∙◌, rules, arith}
use Rattle.std.specs.Prelude.{slice_index}
use Rattle.std.specs.List.{AllZip}
use Rattle.std.proofs.lemmas.List.{take_more, get_or-map, get_or_default, length-map}
use Rattle.std.proofs.lemmas.Slice.Zip.{all_zipped_more}
use Rattle.leaf_bound.specs.Bounds.{loads_of}
use Rattle.leaf_bound.specs.Numbers.{rows_of, IsSumOf}
use Rattle.test_cuts.proofs.masters.weighing.is_within.Goals as goal

pub index-requires : goal.index-requires
index-requires c =
    let loads = c.args.weighting.now.loads.now in
    let i = c.loop-c.c in
    let v = c.index-weighting-c.result in
    let many = length-map loads (λ (w : Vec ℕ Global). w.items) in
    let there : i < length loads = omega (arith, many, c.requires.numbers.as_many_rows, c.loop-c-test.true) in
    let row = get_or-map (λ (w : Vec ℕ Global). w.items) loads i v [] there in
    let wide = c.requires.numbers.are_wide i [] (omega (arith, many, there)) in
    omega (arith, c.requires.node, wide, ap length row, (get_or loads i v).ok)

pub loop-c-preserved : goal.loop-c-preserved
loop-c-preserved c =
    let w = c.args.weighting.now in
    let k = c.args.k in
    let parts = w.parts.now in
    let loads = w.loads.now in
    let rows = rows_of w in
    let ls = loads_of rows k in
    let i = c.loop-c.c in
    let v = c.index-weighting-c.result in
    let many = length-map loads (λ (w : Vec ℕ Global). w.items) in
    let long = length-map rows (λ (row : List ℕ). slice_index row k) in
    let few : i < length parts = c.loop-c-test.true in
    let there : i < length loads = omega (arith, many, c.requires.numbers.as_many_rows, few) in
    let row = get_or-map (λ (w : Vec ℕ Global). w.items) loads i v [] there in
    let wide = c.requires.numbers.are_wide i [] (omega (arith, many, there)) in
    let inside : k < length (get_or loads i v).items = omega (arith, c.requires.node, wide, ap length row) in
    let load_is : get_or ls i 0 ≡ slice_index (get_or loads i v).items k =
    get_or-map (λ (row : List ℕ). slice_index row k) rows i [] 0 (omega (arith, many, there))
    ∙ ap (λ (row : List ℕ). slice_index row k) row in
    let sum : IsSumOf (get_or parts i 0) (get_or ls i 0) = subst (IsSumOf (get_or parts i 0)) (c.index.ensures ∙ get_or_default (get_or loads i v).items k c.index.result.now 0 inside ∙ sym load_is) (c.is_sum_of.ensures c.if-not-is_sum_of.false) in
    subst (λ (es : List ℕ). AllZip IsSumOf es (take (i + 1) ls)) (sym (take_more parts i 0 few))
    (subst (λ (xs : List ℕ). AllZip IsSumOf (take i parts ++ get_or parts i 0 ∷ []) xs) (sym (take_more ls i 0 (omega (arith, long, many, there))))
    (all_zipped_more IsSumOf (take i parts) (take i ls) (get_or parts i 0) (get_or ls i 0) c.loop-c.invariant sum))
