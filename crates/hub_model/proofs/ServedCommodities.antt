-- The first commodity for which hubs are infeasible, in a loop over all commodities by i and j.
use Rattle.std.proofs.Common.{◌≡◌, ℕ, suc, ◌+◌, ◌*◌, ◌<◌, ◌≤◌, Bool, true, false, true≢false, not, Option, List, [], ◌∷◌, ◌++◌, length, take, drop, None, Some, refl, sym, ap, ◌∙◌, arith}
use Rattle.std.specs.Option.{is_some}
use Rattle.std.proofs.lemmas.List.{take-append-drop}
use Rattle.std.proofs.lemmas.Option.{none-some}
use Rattle.std.proofs.Math.Seq.{drop-cons}
use Rattle.hub_spec.specs.Problem.{Problem, commodities}
use Rattle.hub_spec.specs.Lacking.{serves, first_lacked, lacking}
use Rattle.hub_spec.proofs.Commodities.{length_commodities, commodity_index, commodity_at_index, take_commodities_next, take_commodities_all}
use Rattle.hub_spec.proofs.SumLemmas.{by_test}

first_lacked_append : (p : Problem) (hubs : List ℕ) (cs rest : List (ℕ × ℕ)) → first_lacked p hubs cs ≡ None
    → first_lacked p hubs (cs ++ rest) ≡ first_lacked p hubs rest
first_lacked_append p hubs [] rest none = refl
first_lacked_append p hubs (c ∷ cs) rest none =
    by_test (serves p hubs c) (λ yes. rw yes (first_lacked_append p hubs cs rest (rw yes at none)))
    (λ no. absurd (none-some c (sym (rw no at none))))

pub lacked_next : (p : Problem) (hubs : List ℕ) (i j : ℕ) → i < p.size → j < p.size
    → first_lacked p hubs (take (i * p.size + j) (commodities p.size)) ≡ None → serves p hubs (i, j) ≡ true
    → first_lacked p hubs (take (i * p.size + (j + 1)) (commodities p.size)) ≡ None
lacked_next p hubs i j row column before served =
    ap (first_lacked p hubs) (take_commodities_next p.size i j row column)
    ∙ first_lacked_append p hubs (take (i * p.size + j) (commodities p.size)) ((i, j) ∷ []) before ∙ rw served refl

pub lacked_here : (p : Problem) (hubs : List ℕ) (i j : ℕ) → i < p.size → j < p.size
    → first_lacked p hubs (take (i * p.size + j) (commodities p.size)) ≡ None → serves p hubs (i, j) ≡ false
    → Some (i, j) ≡ lacking p hubs
unfolding lacking
lacked_here p hubs i j row column before not_served =
    let t = i * p.size + j in
    let cs = commodities p.size in
    let within : t < length cs = omega (arith, length_commodities p.size, commodity_index p.size i j row column) in
    let next : drop t cs ≡ (i, j) ∷ drop (suc t) cs =
    drop-cons cs t (0, 0) within ∙ ap (λ c. c ∷ drop (suc t) cs) (commodity_at_index p.size i j (0, 0) row column) in
    let found : first_lacked p hubs ((i, j) ∷ drop (suc t) cs) ≡ Some (i, j) = rw not_served refl in
    sym (ap (first_lacked p hubs) (sym (take-append-drop t cs)) ∙ first_lacked_append p hubs (take t cs) (drop t cs) before
    ∙ ap (first_lacked p hubs) next ∙ found)

pub none_is_lacked : (p : Problem) (hubs : List ℕ) (i : ℕ) → p.size ≤ i → i ≤ p.size
    → first_lacked p hubs (take (i * p.size) (commodities p.size)) ≡ None → None ≡ lacking p hubs
unfolding lacking
none_is_lacked p hubs i all within before =
    let last : i ≡ p.size = omega arith in
    sym before ∙ ap (λ (x : ℕ). first_lacked p hubs (take (x * p.size) (commodities p.size))) last
    ∙ ap (first_lacked p hubs) (take_commodities_all p.size)

-- ---- the test that none is lacked

pub none_when : (o : Option (ℕ × ℕ)) (b : Bool) → is_some o ≡ not b → b ≡ true → o ≡ None
none_when None b tells holds = refl
none_when (Some c) b tells holds = absurd (true≢false (tells ∙ ap not holds))

pub when_none : (o : Option (ℕ × ℕ)) (b : Bool) → is_some o ≡ not b → o ≡ None → b ≡ true
when_none o b tells none = by_test b (λ e. e) (λ e. absurd (true≢false (sym (sym (ap is_some none) ∙ tells ∙ ap not e))))
