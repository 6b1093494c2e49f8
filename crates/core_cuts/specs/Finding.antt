-- What is found for a commodity and a hub set, and for a hub set, as functions that tests decide.
use Rattle.std.specs.Prelude.{ℕ, ◌+◌, ◌*◌, ◌/◌, ◌%◌, Bool, true, false, ◌&&◌, if◌then◌else◌, nat_eq, nat_le, Option, None, Some, is_none, List, [], ◌∷◌, length, map, sum_by, unsigned_abs}
use Rattle.std.specs.Option.{option_map, option_and_then}
use Rattle.std.specs.List.{find, list_all, position, range_with_len}
use Rattle.hub_spec.specs.Limits.{most_part, most_cost, most_denominator}
use Rattle.hub_spec.specs.Problem.{Problem, flow, commodities}
use Rattle.hub_spec.specs.Edges.{least_cost}
use Rattle.hub_spec.specs.Cuts.{Prices, Cut, total, load}
use Rattle.core_spec.specs.CoreCuts.{Way, CoreProof}
use Rattle.core_spec.specs.MarkRanges.{most_scale, most_taken}
use Rattle.frac_rows.specs.Rows.{Table, number, row_at, right_side}
use Rattle.frac_rows.specs.declared.ended.Ended.{Ended}
use Rattle.frac_rows.specs.declared.ended.Ended.TheVariants.{Best, Turns, Wide}
use Rattle.cut_model.specs.MarkedCuts.{MarkedCut}
use Rattle.core_cuts.specs.declared.ratios.Ratio.{Ratio}
use Rattle.core_cuts.specs.BasicRatios.{nothing, reading_at}
use Rattle.core_cuts.specs.FoundCuts.{parts_of, proofs_of, brought_cut}
use Rattle.core_cuts.specs.Readings.{Reading, value_of, core_run, most_units, proof_of, FoundDual, found_of}

-- the least of n numbers from a on that passes the test
unfoldable pub first_from : (ℕ → Bool) → ℕ → ℕ → Option ℕ
first_from test a n = find test (range_with_len a n)

-- ---- the reading of a table

-- the ratio of the variable j that is basic in this row: the right side over its number there; 0 over 1 where it is
-- in none
abbrev pub ratio_by : Table → ℕ → Option ℕ → Ratio
ratio_by t j None = nothing
ratio_by t j (Some i) = record { right = unsigned_abs (right_side (row_at t i)); over = unsigned_abs (number (row_at t i) j) }

-- the ratio of the variable
unfoldable pub ratio_of : Table → ℕ → Ratio
ratio_of t j = ratio_by t j (position (nat_eq j) t.basis)

-- the ratios of the first n variables: of the price, and of the candidates' values
unfoldable pub ratios_of : Table → ℕ → List Ratio
ratios_of t n = map (ratio_of t) (range_with_len 0 n)

-- the part makes all of them whole
abbrev pub are_whole : List Ratio → ℕ → Bool
are_whole rs e = list_all (λ (r : Ratio). nat_eq (e * r.right % r.over) 0) rs

-- ---- the dual of a commodity

-- by unit of flow the price is what the least route through the hubs costs, times the part, and their values
abbrev pub is_tight_reading : Problem → List ℕ → ℕ × ℕ → Reading → Bool
is_tight_reading p hubs c r = nat_eq r.price (r.part * (least_cost p hubs c / flow p c.0 c.1) + sum_by (value_of p r) hubs)

-- the proof can stand in a line
abbrev pub is_short_proof : CoreProof → Bool
is_short_proof proof = nat_le proof.scale most_scale && list_all (λ (w : Way). nat_le w.2 most_taken) proof.ways

-- the reading is tight at the hubs, and part, price, values and proof are within their limits
unfoldable pub is_fit : Problem → List ℕ → ℕ × ℕ → Reading → Bool
is_fit p hubs c r =
    is_tight_reading p hubs c r
    && (nat_le r.part most_part
    && (nat_le r.price most_units && (list_all (λ v. nat_le v most_units) r.values && is_short_proof (proof_of p hubs c))))

-- what is found by the least part that makes the ratios whole, if there is one and the reading is fit
abbrev pub found_by_part : Problem → List ℕ → ℕ × ℕ → List Ratio → Option ℕ → Option FoundDual
found_by_part p hubs c rs None = None
found_by_part p hubs c rs (Some e) = if is_fit p hubs c (reading_at e rs) then Some (found_of p hubs c (reading_at e rs)) else None

-- what is found by the ratios of a best table
unfoldable pub found_by_ratios : Problem → List ℕ → ℕ × ℕ → List Ratio → Option FoundDual
found_by_ratios p hubs c rs = found_by_part p hubs c rs (first_from (are_whole rs) 1 most_part)

-- what is found in the last table of a run that ends so
abbrev pub found_by_end : Problem → List ℕ → ℕ × ℕ → Table → Ended → Option FoundDual
found_by_end p hubs c t Best = found_by_ratios p hubs c (ratios_of t (length p.candidates + 1))
found_by_end p hubs c t Turns = None
found_by_end p hubs c t Wide = None

-- the Pareto-optimal dual of the commodity at the hubs
unfoldable pub core_found : Problem → List ℕ → ℕ × ℕ → Option FoundDual
core_found p hubs c = found_by_end p hubs c (core_run p hubs c).table (core_run p hubs c).ended

-- ---- the cut of a hub set

-- cuts may be marked: the length of routes is not limited, any number of hubs will do, and there are 3 to 20 candidates
unfoldable pub may_be_marked : Problem → Bool
may_be_marked p = is_none p.longest && (is_none p.wanted && (nat_le 3 (length p.candidates) && nat_le (length p.candidates) 20))

-- what is found for each of these commodities, if there is one for each
abbrev pub core_founds : Problem → List ℕ → List (ℕ × ℕ) → Option (List FoundDual)
core_founds p hubs [] = Some []
core_founds p hubs (c ∷ cs) = option_and_then (λ found. option_map (λ founds. found ∷ founds) (core_founds p hubs cs)) (core_found p hubs c)

-- all parts divide the number
abbrev pub is_common_part : List ℕ → ℕ → Bool
is_common_part parts e = list_all (λ x. nat_eq (e % x) 0) parts

-- price and values of the commodity are at most 10^20 times its flow
abbrev pub is_fit_dual : Problem → ℕ × ℕ → Prices → Bool
is_fit_dual p c dual =
    nat_le dual.a (most_units * flow p c.0 c.1) && list_all (λ (e : ℕ × ℕ). nat_le e.1 (most_units * flow p c.0 c.1)) dual.u

-- those of all of these are, each dual with its commodity
abbrev pub are_fit_duals : Problem → List (ℕ × ℕ) → List Prices → Bool
are_fit_duals p [] [] = true
are_fit_duals p [] (d ∷ ds) = false
are_fit_duals p (c ∷ cs) [] = false
are_fit_duals p (c ∷ cs) (d ∷ ds) = is_fit_dual p c d && are_fit_duals p cs ds

-- total and loads of the candidates are within their limit
abbrev pub is_within_sums : Problem → Cut → Bool
is_within_sums p cut =
    nat_le (total cut) (cut.part * most_cost) && list_all (λ k. nat_le (load cut k) (cut.part * most_cost)) p.candidates

-- the cut is within the limits of a certificate, where its part divides the denominator 1,000,000
unfoldable pub is_fit_cut : Problem → Cut → Bool
is_fit_cut p cut =
    nat_le cut.part most_part
    && (nat_eq (most_denominator % cut.part) 0 && (are_fit_duals p (commodities p.size) cut.duals && is_within_sums p cut))

-- the cut of what is found, brought to the part, with the hubs and what proves each dual as its mark
abbrev pub marked_at : List ℕ → List FoundDual → ℕ → MarkedCut
marked_at hubs founds e = record { cut = brought_cut e founds; mark = record { hubs = hubs; proofs = proofs_of founds } }

-- the cut by the least part that what is found has in common, if there is one and the cut is fit
abbrev pub marked_by_part : Problem → List ℕ → List FoundDual → Option ℕ → Option MarkedCut
marked_by_part p hubs founds None = None
marked_by_part p hubs founds (Some e) = if is_fit_cut p (brought_cut e founds) then Some (marked_at hubs founds e) else None

-- the cut by what is found for the commodities, if there is one for each
abbrev pub marked_by : Problem → List ℕ → Option (List FoundDual) → Option MarkedCut
marked_by p hubs None = None
marked_by p hubs (Some founds) = marked_by_part p hubs founds (first_from (is_common_part (parts_of founds)) 1 most_part)

-- the Pareto-optimal cut from the hub set
unfoldable pub core_marked : Problem → List ℕ → Option MarkedCut
core_marked p hubs = if may_be_marked p then marked_by p hubs (core_founds p hubs (commodities p.size)) else None
