-- What the tests of a cut tell.
use Rattle.std.proofs.Common.{◌≡◌, ℕ, ◌*◌, ◌%◌, ◌≤◌, ◌&&◌, is_none, nat_eq, nat_le, Decides, Option, None, Some, List, [], ◌∷◌, length, All, refl, sym}
use Rattle.std.specs.Int.{◌∣◌}
use Rattle.std.specs.List.{AllZip, list_all}
use Rattle.std.proofs.lemmas.Bool.{false≢true}
use Rattle.std.proofs.lemmas.Bool.Decides.{Decides-and}
use Rattle.std.proofs.lemmas.Nat.Gcd.{dvd_of_mod-eq-zero, mod-eq-zero_of_dvd}
use Rattle.std.proofs.lemmas.Option.{none-some}
use Rattle.hub_spec.specs.Cuts.{Prices, Cut, total, load, IsWithinSums}
use Rattle.hub_spec.specs.Limits.{most_part, most_cost, most_denominator}
use Rattle.hub_spec.specs.Problem.{Problem, flow, commodities}
use Rattle.core_spec.specs.CoreCuts.{MayBeMarked}
use Rattle.core_cuts.specs.Finding.{may_be_marked, is_common_part, is_fit_dual, are_fit_duals, is_within_sums, is_fit_cut}
use Rattle.core_cuts.specs.FoundCuts.{IsFitDual, IsFitCut}
use Rattle.core_cuts.specs.Readings.{most_units}
use Rattle.core_cuts.proofs.FoundTests.{le_decides, eq_decides, all_decides}

none_decides : (o : Option ℕ) → Decides (is_none o) (o ≡ None)
none_decides None = (λ _. refl, λ _. refl)
none_decides (Some n) = (λ t. absurd (false≢true t), λ none. absurd (none-some n (sym none)))

pub may_decides : (p : Problem) → Decides (may_be_marked p) (MayBeMarked p)
unfolding may_be_marked
may_decides p =
    let length_free = is_none p.longest in
    let number_free = is_none p.wanted in
    let some = nat_le 3 (length p.candidates) in
    let few = nat_le (length p.candidates) 20 in
    let all = Decides-and length_free (number_free && (some && few)) (none_decides p.longest)
    (Decides-and number_free (some && few) (none_decides p.wanted)
    (Decides-and some few (le_decides 3 (length p.candidates)) (le_decides (length p.candidates) 20))) in (
      λ t. (let h = all.0 t in record { any_length = h.0; any_number = h.1.0; some_candidates = h.1.1.0; few_candidates = h.1.1.1 }),
      λ may. all.1 (may.any_length, (may.any_number, (may.some_candidates, may.few_candidates))),
    )

divides_decides : (x e : ℕ) → Decides (nat_eq (e % x) 0) (x ∣ e)
divides_decides x e =
    let both = eq_decides (e % x) 0 in (λ t. dvd_of_mod-eq-zero x (both.0 t), λ divides. both.1 (mod-eq-zero_of_dvd x divides))

pub common_decides : (parts : List ℕ) (e : ℕ) → Decides (is_common_part parts e) (All (λ x. x ∣ e) parts)
common_decides parts e = all_decides (λ x. nat_eq (e % x) 0) (λ x. x ∣ e) (λ x. divides_decides x e) parts

dual_decides : (p : Problem) (c : ℕ × ℕ) (d : Prices) → Decides (is_fit_dual p c d) (IsFitDual p c d)
dual_decides p c d =
    let most = most_units * flow p c.0 c.1 in
    let price = nat_le d.a most in
    let values = list_all (λ (e : ℕ × ℕ). nat_le e.1 most) d.u in
    let both = Decides-and price values (le_decides d.a most)
    (all_decides (λ (e : ℕ × ℕ). nat_le e.1 most) (λ (e : ℕ × ℕ). e.1 ≤ most) (λ e. le_decides e.1 most) d.u) in
    (λ t. (let h = both.0 t in record { price = h.0; values = h.1 }), λ fit. both.1 (fit.price, fit.values))

duals_decide : (p : Problem) (cs : List (ℕ × ℕ)) (ds : List Prices) → Decides (are_fit_duals p cs ds) (AllZip (IsFitDual p) cs ds)
duals_decide p [] [] = (λ _. tt, λ _. refl)
duals_decide p [] (d ∷ ds) = (λ t. absurd (false≢true t), λ none. absurd none)
duals_decide p (c ∷ cs) [] = (λ t. absurd (false≢true t), λ none. absurd none)
duals_decide p (c ∷ cs) (d ∷ ds) = Decides-and (is_fit_dual p c d) (are_fit_duals p cs ds) (dual_decides p c d) (duals_decide p cs ds)

sums_decide : (p : Problem) (cut : Cut) → Decides (is_within_sums p cut) (IsWithinSums p cut)
sums_decide p cut =
    let most = cut.part * most_cost in
    let whole = nat_le (total cut) most in
    let loads = list_all (λ k. nat_le (load cut k) most) p.candidates in
    let both = Decides-and whole loads (le_decides (total cut) most)
    (all_decides (λ k. nat_le (load cut k) most) (λ k. load cut k ≤ most) (λ k. le_decides (load cut k) most) p.candidates) in
    (λ t. (let h = both.0 t in record { total_limit = h.0; load_limit = h.1 }), λ within. both.1 (within.total_limit, within.load_limit))

pub cut_decides : (p : Problem) (cut : Cut) → Decides (is_fit_cut p cut) (IsFitCut p cut)
unfolding is_fit_cut
cut_decides p cut =
    let part = nat_le cut.part most_part in
    let divides = nat_eq (most_denominator % cut.part) 0 in
    let duals = are_fit_duals p (commodities p.size) cut.duals in
    let sums = is_within_sums p cut in
    let all = Decides-and part (divides && (duals && sums)) (le_decides cut.part most_part)
    (Decides-and divides (duals && sums) (divides_decides cut.part most_denominator)
    (Decides-and duals sums (duals_decide p (commodities p.size) cut.duals) (sums_decide p cut))) in (
      λ t. (let h = all.0 t in record { part_most = h.0; part_divides = h.1.0; duals = h.1.1.0; sums = h.1.1.1 }),
      λ fit. all.1 (fit.part_most, (fit.part_divides, (fit.duals, fit.sums))),
    )
