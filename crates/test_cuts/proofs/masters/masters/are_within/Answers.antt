use Rattle.std.proofs.Common.{◌≤◌, ◌+◌, [], ◌∷◌, ◌++◌, List, ℕ, Vec, Global, map, take, get_or, max, All, subst, sym, ◌∙◌, ap, arith, rules}
use Rattle.std.specs.List.{AllZip}
use Rattle.std.proofs.lemmas.List.{take_all, take_more, map-append}
use Rattle.std.proofs.lemmas.Slice.Zip.{all_zipped_more}
use Rattle.test_cuts.proofs.masters.masters.are_within.Goals as goal

abbrev R : ℕ → List ℕ → Type 0
R total row = All (λ x. x ≤ max total 0) row

abbrev items : Vec ℕ Global → List ℕ
items v = v.items

pub loop-i-preserved : goal.loop-i-preserved
loop-i-preserved c =
    let totals = c.args.totals.now in
    let loads = c.args.loads.now in
    let i = c.loop-i.i in
    let v = c.index-loads-i.result in
    let z = get_or totals i 0 in
    let within : R z v.items = subst (R z) c.deref.ensures.value (c.are_up_to.ensures c.if-not-are_up_to.false) in
    let more = all_zipped_more R (take i totals) (map items (take i loads)) z v.items c.loop-i.invariant within in
    subst (λ (rows : List (List ℕ)). AllZip R (take (i + 1) totals) rows)
    (sym (ap (map items) (take_more loads i v (search rules) ∙ ap (λ (w : Vec ℕ Global). take i loads ++ w ∷ []) (sym c.index-loads-i.is)) ∙ map-append items (take i loads) (v ∷ [])))
    (subst (λ (xs : List ℕ). AllZip R xs (map items (take i loads) ++ v.items ∷ [])) (sym (take_more totals i 0 (search rules))) more)

pub returns : goal.returns
returns c = λ _.
    let all_totals = take_all c.loop-i.i c.args.totals.now c.loop-i-test.false in
    let all_loads = take_all c.loop-i.i c.args.loads.now (omega (arith, c.loop-i-test.false, c.if-totals-loads.false)) in
    subst (λ (xs : List ℕ). AllZip R xs (map items c.args.loads.now)) all_totals
    (subst (λ (rows : List (Vec ℕ Global)). AllZip R (take c.loop-i.i c.args.totals.now) (map items rows)) all_loads c.loop-i.invariant)
