-- A certificate within the ranges of the grammar holds exactly where each condition of the check holds.
use Rattle.std.proofs.Common.{◌≡◌, ◌↔◌, ℕ, ◌+◌, ◌*◌, ◌<◌, ◌≤◌, zero, suc, nat_eq, Bool, true, false, List, [], ◌∷◌, ◌++◌, length, replicate, zip, All, Contains, Option, Some, None, refl, sym, subst, ap, ◌∙◌, ⊎_elim, eq-eqb, mul-pos, arith}
use Rattle.std.specs.Prelude.{IfSome}
use Rattle.std.specs.List.{AllZip}
use Rattle.std.proofs.lemmas.Bool.{cases_lt, false≢true}
use Rattle.std.proofs.lemmas.List.Elements.{All-head, All-tail, All-cons, All-nil, All-weaker}
use Rattle.hub_spec.specs.Problem.{Problem, commodities, commodity_at}
use Rattle.hub_spec.specs.Plans.{IsRoute, HasRoute, IsHubSet}
use Rattle.hub_spec.specs.Cuts.{Prices, IsDual, Cut, IsCut, IsWithinSums}
use Rattle.hub_spec.specs.Trees.{Branching, root, open_child, closed_child, Tree, branch, leaf, empty, block, count, TreeLine, branch_on, leaf_of, preorder, line_count, IsSound}
use Rattle.hub_spec.specs.Certificates.{HasCutsOf}
use Rattle.hub_spec.specs.Ranges.{IsShort, IsLineInRange, IsCutInRange}
use Rattle.hub_spec.proofs.Commodities.{length_commodities}
use Rattle.hub_spec.proofs.CommodityIndex.{commodities_from, commodities_by_number}
use Rattle.hub_spec.proofs.Decisions.{Contains-head}
use Rattle.hub_spec.proofs.PlanCosts.{any_allowed}
use Rattle.hub_spec.proofs.SumLemmas.{by_test}
use Rattle.std.proofs.lemmas.Slice.Zip.{AllZip-long}
use Rattle.core_spec.specs.CoreCuts.{CoreProof, Mark, IsCoreDual}
use Rattle.core_spec.specs.MarkRanges.{AreMarkHubs, IsMarkInRange}
use Rattle.cert_spec.specs.Stated.{Stated, cuts_of, IsStatedInRange, IsAsMarked, IsStatedOf}
use Rattle.cert_spec.specs.Runs.{spread}
use Rattle.cert_spec.proofs.RunLaws.{spread_runs}
use Rattle.cert_spec.proofs.SamePrices.{prices_told}
use Rattle.cert_spec.proofs.Leads.{length-spread, spread_singles}
use Rattle.cert_spec.specs.Text.{is_first, same_prices, dual_runs}
use Rattle.cert_spec.proofs.PartConditions.{first_route_line, cut_lines, first_cut_line, first_dual_line, first_tree_line, route_claims, dual_claims, proved_claims, one_cut_claims, cut_claims, tree_claims, plan_claims, all_cut_claims, all_tree_claims, claims, older_claims}
use Rattle.cert_spec.specs.Conditions.{Claim, claim, AllHold, if_time, MayMark, Sum, Core}

pub AllHold-append : (xs ys : List Claim) → AllHold xs → AllHold ys → AllHold (xs ++ ys)
AllHold-append [] ys h g = g
AllHold-append (x ∷ xs) ys h g = (h.0, AllHold-append xs ys h.1 g)

pub AllHold-split : (xs ys : List Claim) → AllHold (xs ++ ys) → AllHold xs × AllHold ys
AllHold-split [] ys h = (tt, h)
AllHold-split (x ∷ xs) ys h = (let rest = AllHold-split xs ys h.1 in ((h.0, rest.0), rest.1))

routes_hold : (p : Problem) (hubs : List ℕ) (line : ℕ) (cs rs : List (ℕ × ℕ)) → length rs ≡ length cs
    → AllHold (route_claims p hubs line cs rs) → AllZip (IsRoute p hubs) cs rs
routes_hold p hubs line [] [] e h = tt
routes_hold p hubs line [] (r ∷ rs) e h = absurd (omega (arith, e))
routes_hold p hubs line (c ∷ cs) [] e h = absurd (omega (arith, e))
routes_hold p hubs line (c ∷ cs) (r ∷ rs) e h =
    let route : IsRoute p hubs c r = record { first = h.0.0; last = h.0.1; allowed = h.1.0 } in
    (route, routes_hold p hubs (line + 1) cs rs (omega (arith, e)) h.1.1)

routes_claimed : (p : Problem) (hubs : List ℕ) (line : ℕ) (cs rs : List (ℕ × ℕ)) → AllZip (IsRoute p hubs) cs rs
    → AllHold (route_claims p hubs line cs rs)
routes_claimed p hubs line [] [] h = tt
routes_claimed p hubs line [] (r ∷ rs) h = absurd h
routes_claimed p hubs line (c ∷ cs) [] h = absurd h
routes_claimed p hubs line (c ∷ cs) (r ∷ rs) h =
    ((h.0.first, h.0.last), (h.0.allowed, routes_claimed p hubs (line + 1) cs rs h.1))

-- hubs with a route for each commodity lack none
routes_serve : (p : Problem) (hubs : List ℕ) (cs rs : List (ℕ × ℕ)) → AllZip (IsRoute p hubs) cs rs
    → All (HasRoute p hubs) cs
routes_serve p hubs [] rs h = All-nil (HasRoute p hubs)
routes_serve p hubs (c ∷ cs) [] h = absurd h
routes_serve p hubs (c ∷ cs) (r ∷ rs) h = All-cons (HasRoute p hubs) c cs (r, h.0) (routes_serve p hubs cs rs h.1)

-- ---- duals, run by run

pub spread_dual_runs : (v n : ℕ) (duals : List Prices) → spread (dual_runs v n duals) ≡ duals
spread_dual_runs v n duals =
    by_test (is_first v) (λ e. rw e (spread_singles duals)) (λ e. rw e (spread_runs same_prices n 0 duals prices_told))

run_holds : (p : Problem) (part t r m : ℕ) (x : Prices) (rest : List Prices) → ((s : ℕ) → s < r → IsDual p part (commodity_at p.size (t + s)) x)
    → AllZip (IsDual p part) (commodities_from p.size (t + r) m) rest → AllZip (IsDual p part) (commodities_from p.size t (r + m)) (replicate r x ++ rest)
run_holds p part t zero m x rest each h =
    let place : t + 0 ≡ t = omega arith in
    let many : m ≡ 0 + m = omega arith in
    subst (λ (k : ℕ). AllZip (IsDual p part) (commodities_from p.size t k) rest) many
    (subst (λ (k : ℕ). AllZip (IsDual p part) (commodities_from p.size k m) rest) place h)
run_holds p part t (suc r) m x rest each h =
    let first : t + 0 ≡ t = omega arith in
    let place : t + suc r ≡ t + 1 + r = omega arith in
    let many : suc (r + m) ≡ suc r + m = omega arith in
    subst (λ (k : ℕ). AllZip (IsDual p part) (commodities_from p.size t k) (x ∷ (replicate r x ++ rest))) many (
      subst (λ (k : ℕ). IsDual p part (commodity_at p.size k) x) first (each 0 (omega arith)),
      run_holds p part (t + 1) r m x rest
          (λ s less. (let next : t + suc s ≡ t + 1 + s = omega arith in
          subst (λ (k : ℕ). IsDual p part (commodity_at p.size k) x) next (each (suc s) (omega (arith, less)))))
          (subst (λ (k : ℕ). AllZip (IsDual p part) (commodities_from p.size k m) rest) place h),
    )

runs_hold : (p : Problem) (part line t : ℕ) (rs : List (ℕ × Prices)) → AllHold (dual_claims p part line t rs)
    → AllZip (IsDual p part) (commodities_from p.size t (length (spread rs))) (spread rs)
runs_hold p part line t [] h = tt
runs_hold p part line t (r ∷ rest) h =
    let later = runs_hold p part (line + 1) (t + r.0) rest h.1 in
    subst (λ (m : ℕ). AllZip (IsDual p part) (commodities_from p.size t m) (replicate r.0 r.1 ++ spread rest)) (sym (length-spread r.0 r.1 rest))
    (run_holds p part t r.0 (length (spread rest)) r.1 (spread rest) h.0.each later)

-- what holds of a run's commodities, and of those after them
record IsRunFrom (p : Problem) (part t r m : ℕ) (x : Prices) (rest : List Prices) : Type 0 where
  each : (s : ℕ) → s < r → IsDual p part (commodity_at p.size (t + s)) x
  later : AllZip (IsDual p part) (commodities_from p.size (t + r) m) rest

run_claimed : (p : Problem) (part t r m : ℕ) (x : Prices) (rest : List Prices)
    → AllZip (IsDual p part) (commodities_from p.size t (r + m)) (replicate r x ++ rest) → IsRunFrom p part t r m x rest
run_claimed p part t zero m x rest h =
    let place : t ≡ t + 0 = omega arith in
    let many : 0 + m ≡ m = omega arith in
    record {
      each = λ s less. absurd (omega (arith, less));
      later = subst (λ (k : ℕ). AllZip (IsDual p part) (commodities_from p.size k m) rest) place
          (subst (λ (k : ℕ). AllZip (IsDual p part) (commodities_from p.size t k) rest) many h);
    }
run_claimed p part t (suc r) m x rest h =
    let many : suc r + m ≡ suc (r + m) = omega arith in
    let both = subst (λ (k : ℕ). AllZip (IsDual p part) (commodities_from p.size t k) (x ∷ (replicate r x ++ rest))) many h in
    let more = run_claimed p part (t + 1) r m x rest both.1 in
    let place : t + 1 + r ≡ t + suc r = omega arith in
    record {
      each = each both.0 more.each;
      later = subst (λ (k : ℕ). AllZip (IsDual p part) (commodities_from p.size k m) rest) place more.later;
    }
  where
    each : IsDual p part (commodity_at p.size t) x → ((s : ℕ) → s < r → IsDual p part (commodity_at p.size (t + 1 + s)) x)
        → (s : ℕ) → s < suc r → IsDual p part (commodity_at p.size (t + s)) x
    each here later zero less = let place : t ≡ t + 0 = omega arith in subst (λ (k : ℕ). IsDual p part (commodity_at p.size k) x) place here
    each here later (suc s) less =
        let place : t + 1 + s ≡ t + suc s = omega arith in
        subst (λ (k : ℕ). IsDual p part (commodity_at p.size k) x) place (later s (omega (arith, less)))

runs_claimed : (p : Problem) (part line t : ℕ) (rs : List (ℕ × Prices))
    → AllZip (IsDual p part) (commodities_from p.size t (length (spread rs))) (spread rs) → AllHold (dual_claims p part line t rs)
runs_claimed p part line t [] h = tt
runs_claimed p part line t (r ∷ rest) h =
    let front = run_claimed p part t r.0 (length (spread rest)) r.1 (spread rest)
    (subst (λ (m : ℕ). AllZip (IsDual p part) (commodities_from p.size t m) (replicate r.0 r.1 ++ spread rest)) (length-spread r.0 r.1 rest) h) in
    (record { each = front.each }, runs_claimed p part (line + 1) (t + r.0) rest front.later)

duals_hold : (p : Problem) (v part line : ℕ) (duals : List Prices) → length duals ≡ p.size * p.size
    → AllHold (dual_claims p part line 0 (dual_runs v p.size duals)) → AllZip (IsDual p part) (commodities p.size) duals
duals_hold p v part line duals long h =
    let of = spread_dual_runs v p.size duals in
    let zipped = runs_hold p part line 0 (dual_runs v p.size duals) h in
    let same = subst (λ (ds : List Prices). AllZip (IsDual p part) (commodities_from p.size 0 (length ds)) ds) of zipped in
    rw (commodities_by_number p.size) (subst (λ (m : ℕ). AllZip (IsDual p part) (commodities_from p.size 0 m) duals) long same)

duals_claimed : (p : Problem) (v part line : ℕ) (duals : List Prices) → AllZip (IsDual p part) (commodities p.size) duals
    → AllHold (dual_claims p part line 0 (dual_runs v p.size duals))
duals_claimed p v part line duals h =
    let of = spread_dual_runs v p.size duals in
    let long : p.size * p.size ≡ length duals = sym (length_commodities p.size) ∙ sym (AllZip-long (IsDual p part) (commodities p.size) duals h) in
    let by_number = rw (commodities_by_number p.size) at h in
    let same = subst (λ (m : ℕ). AllZip (IsDual p part) (commodities_from p.size 0 m) duals) long by_number in
    runs_claimed p part line 0 (dual_runs v p.size duals)
    (subst (λ (ds : List Prices). AllZip (IsDual p part) (commodities_from p.size 0 (length ds)) ds) (sym of) same)

-- ---- the cuts, each with its mark

-- the dual is Pareto-optimal by the proof beside it
abbrev IsProvedBy : Problem → List ℕ → ℕ → ℕ × ℕ → Prices × CoreProof → Type 0
IsProvedBy p hubs part c t = IsCoreDual p hubs part c t.0 t.1

-- a condition that it is time for
if_time_holds : (b : Bool) (c : Claim) → b ≡ true → AllHold (if_time b c) → c.holds
if_time_holds true c e h = h.0
if_time_holds false c e h = absurd (false≢true e)

if_time_claimed : (b : Bool) (c : Claim) → (b ≡ true → c.holds) → AllHold (if_time b c)
if_time_claimed true c h = (h refl, tt)
if_time_claimed false c h = tt

-- what the conditions say on duals of a marked cut, the first of which has number t;
-- and on their proofs, if these are checked
record AreProved (p : Problem) (asked : Bool) (cut : Cut) (hubs : List ℕ) (t : ℕ) (duals : List Prices) (proofs : List CoreProof) : Type 0 where
  are_duals : AllZip (IsDual p cut.part) (commodities_from p.size t (length duals)) duals
  are_within : 1 ≤ length duals → IsWithinSums p cut
  are_core : asked ≡ true → AllZip (IsProvedBy p hubs cut.part) (commodities_from p.size t (length duals)) (zip duals proofs)

proved_hold : (p : Problem) (asked : Bool) (cut : Cut) (hubs : List ℕ) (line t : ℕ) (duals : List Prices) (proofs : List CoreProof)
    → length proofs ≡ length duals → t + length duals ≡ p.size * p.size
    → AllHold (proved_claims p asked cut hubs line t duals proofs) → AreProved p asked cut hubs t duals proofs
proved_hold p asked cut hubs line t [] proofs long all h = record {
  are_duals = tt;
  are_within = λ some. absurd (omega (arith, some));
  are_core = λ yes. tt;
}
proved_hold p asked cut hubs line t (dual ∷ duals) [] long all h = absurd (omega (arith, long))
proved_hold p asked cut hubs line t (dual ∷ duals) (proof ∷ proofs) long all h =
    let last = nat_eq (t + 1) (p.size * p.size) in
    let sum = claim Sum line (IsWithinSums p cut) in
    let core = claim Core (line + 1) (IsCoreDual p hubs cut.part (commodity_at p.size t) dual proof) in
    let after = proved_claims p asked cut hubs (line + 2) (t + 1) duals proofs in
    let sums = AllHold-split (if_time last sum) (if_time asked core ++ after) h.1 in
    let cores = AllHold-split (if_time asked core) after sums.1 in
    let later = proved_hold p asked cut hubs (line + 2) (t + 1) duals proofs (omega (arith, long)) (omega (arith, all)) cores.1 in
    let place : t + 0 ≡ t = omega arith in
    record {
      are_duals = (subst (λ (m : ℕ). IsDual p cut.part (commodity_at p.size m) dual) place (h.0.each 0 (omega arith)), later.are_duals);
      are_within = λ some. ⊎_elim (λ less. later.are_within less)
          (λ none. if_time_holds last sum (eq-eqb (t + 1) (p.size * p.size) (omega (arith, all, none))) sums.0)
          (cases_lt 0 (length duals));
      are_core = λ yes. (if_time_holds asked core yes cores.0, later.are_core yes);
    }

proved_claimed : (p : Problem) (asked : Bool) (cut : Cut) (hubs : List ℕ) (line t : ℕ) (duals : List Prices) (proofs : List CoreProof) → IsWithinSums p cut
    → AllZip (IsDual p cut.part) (commodities_from p.size t (length duals)) duals
    → (asked ≡ true → AllZip (IsProvedBy p hubs cut.part) (commodities_from p.size t (length duals)) (zip duals proofs))
    → AllHold (proved_claims p asked cut hubs line t duals proofs)
proved_claimed p asked cut hubs line t [] proofs within are core = tt
proved_claimed p asked cut hubs line t (dual ∷ duals) [] within are core = tt
proved_claimed p asked cut hubs line t (dual ∷ duals) (proof ∷ proofs) within are core =
    let last = nat_eq (t + 1) (p.size * p.size) in
    let sum = claim Sum line (IsWithinSums p cut) in
    let proved = claim Core (line + 1) (IsCoreDual p hubs cut.part (commodity_at p.size t) dual proof) in
    let after = proved_claims p asked cut hubs (line + 2) (t + 1) duals proofs in (
      record {
        each = λ s less. (let place : t ≡ t + s = omega (arith, less) in
            subst (λ (m : ℕ). IsDual p cut.part (commodity_at p.size m) dual) place are.0);
      },
      AllHold-append (if_time last sum) (if_time asked proved ++ after) (if_time_claimed last sum (λ yes. within))
          (AllHold-append (if_time asked proved) after (if_time_claimed asked proved (λ yes. (core yes).0))
          (proved_claimed p asked cut hubs (line + 2) (t + 1) duals proofs within are.1 (λ yes. (core yes).1))),
    )

-- any candidates serve where the length of routes is not limited
any_hubs_serve : (p : Problem) (hubs : List ℕ) (cs : List (ℕ × ℕ)) → p.longest ≡ None → 1 ≤ length hubs → All (HasRoute p hubs) cs
any_hubs_serve p [] cs any some = absurd (omega (arith, some))
any_hubs_serve p (hub ∷ hubs) [] any some = All-nil (HasRoute p (hub ∷ hubs))
any_hubs_serve p (hub ∷ hubs) (c ∷ cs) any some =
    let here = Contains-head hub hubs in
    All-cons (HasRoute p (hub ∷ hubs)) c cs
    ((hub, hub), record { first = here; last = here; allowed = any_allowed p c hub hub any })
    (any_hubs_serve p (hub ∷ hubs) cs any some)

marked_hub_set : (p : Problem) (n : ℕ) (hubs : List ℕ) → p.longest ≡ None → AreMarkHubs n hubs → All (Contains p.candidates) hubs → IsHubSet p hubs
marked_hub_set p n hubs any are within = record {
  set = record { some_hub = are.some; ascend = are.ascend; are_candidates = within };
  lacks_none = any_hubs_serve p hubs (commodities p.size) any are.some;
}

-- the mark, if there is one, is in range
abbrev pub IsMarkWithin : ℕ → Option Mark → Type 0
IsMarkWithin n mark = IfSome mark (IsMarkInRange n)

cut_holds : (p : Problem) (asked : Bool) (v line : ℕ) (cut : Cut) (mark : Option Mark) → 1 ≤ p.size → IsCutInRange p.size cut
    → IsMarkWithin p.size mark → AllHold (one_cut_claims p asked v line (cut, mark)) → IsCut p cut × (asked ≡ true → IsAsMarked p cut mark)
cut_holds p asked v line cut None some range marked h =
    let both = AllHold-split (dual_claims p cut.part (first_dual_line line) 0 (dual_runs v p.size cut.duals)) _ h in (
      record {
        part_least = range.part_least;
        part_most = range.part_most;
        duals = duals_hold p v cut.part (first_dual_line line) cut.duals range.one_for_each both.0;
        sums = both.1.0;
      },
      λ yes. tt,
    )
cut_holds p asked v line cut (Some mark) some range marked h =
    let n = p.size in
    let may = claim Core line (MayMark p mark.hubs) in
    let both = AllHold-split (if_time asked may) _ h in
    let long : length mark.proofs ≡ length cut.duals = marked.one_for_each ∙ sym range.one_for_each in
    let proved = proved_hold p asked cut mark.hubs (first_dual_line line) 0 cut.duals mark.proofs long (omega (arith, range.one_for_each)) both.1 in
    let all : commodities_from n 0 (length cut.duals) ≡ commodities n =
    ap (commodities_from n 0) range.one_for_each ∙ sym (commodities_by_number n) in
    let is_cut : IsCut p cut = record {
      part_least = range.part_least;
      part_most = range.part_most;
      duals = subst (λ (cs : List (ℕ × ℕ)). AllZip (IsDual p cut.part) cs cut.duals) all proved.are_duals;
      sums = proved.are_within (omega (arith, range.one_for_each, mul-pos some some));
    } in (
      is_cut,
      λ yes. (let allowed : MayMark p mark.hubs = if_time_holds asked may yes both.0 in
          record {
            may = allowed.0;
            is_cut = is_cut;
            hubs = marked_hub_set p n mark.hubs allowed.0.any_length marked.hubs allowed.1;
            one_proof_each = long;
            proofs = subst (λ (cs : List (ℕ × ℕ)). AllZip (IsProvedBy p mark.hubs cut.part) cs (zip cut.duals mark.proofs)) all (proved.are_core yes);
          }),
    )

pub cut_claimed : (p : Problem) (asked : Bool) (v line : ℕ) (cut : Cut) (mark : Option Mark) → IsCut p cut → (asked ≡ true → IsAsMarked p cut mark)
    → AllHold (one_cut_claims p asked v line (cut, mark))
cut_claimed p asked v line cut None is marked =
    AllHold-append (dual_claims p cut.part (first_dual_line line) 0 (dual_runs v p.size cut.duals)) _
    (duals_claimed p v cut.part (first_dual_line line) cut.duals is.duals) (is.sums, tt)
cut_claimed p asked v line cut (Some mark) is marked =
    let n = p.size in
    let may = claim Core line (MayMark p mark.hubs) in
    let long : length cut.duals ≡ n * n = AllZip-long (IsDual p cut.part) (commodities n) cut.duals is.duals ∙ length_commodities n in
    let all : commodities n ≡ commodities_from n 0 (length cut.duals) = commodities_by_number n ∙ ap (commodities_from n 0) (sym long) in
    AllHold-append (if_time asked may) (proved_claims p asked cut mark.hubs (first_dual_line line) 0 cut.duals mark.proofs)
    (if_time_claimed asked may (λ yes. ((marked yes).may, (marked yes).hubs.set.are_candidates)))
    (proved_claimed p asked cut mark.hubs (first_dual_line line) 0 cut.duals mark.proofs is.sums
    (subst (λ (cs : List (ℕ × ℕ)). AllZip (IsDual p cut.part) cs cut.duals) all is.duals)
    (λ yes. subst (λ (cs : List (ℕ × ℕ)). AllZip (IsProvedBy p mark.hubs cut.part) cs (zip cut.duals mark.proofs)) all (marked yes).proofs))

-- what the conditions say on cuts, and on their marks if these are checked
record AreAsMarked (p : Problem) (asked : Bool) (cuts : List Cut) (marks : List (Option Mark)) : Type 0 where
  are_cuts : All (IsCut p) cuts
  are_marked : asked ≡ true → AllZip (IsAsMarked p) cuts marks

cuts_hold : (p : Problem) (asked : Bool) (v line : ℕ) (cuts : List Cut) (marks : List (Option Mark)) → 1 ≤ p.size → length marks ≡ length cuts
    → All (IsCutInRange p.size) cuts → All (IsMarkWithin p.size) marks → AllHold (cut_claims p asked v line (zip cuts marks)) → AreAsMarked p asked cuts marks
cuts_hold p asked v line [] [] some long ranges within h = record { are_cuts = All-nil (IsCut p); are_marked = λ yes. tt }
cuts_hold p asked v line [] (mark ∷ marks) some long ranges within h = absurd (omega (arith, long))
cuts_hold p asked v line (cut ∷ cuts) [] some long ranges within h = absurd (omega (arith, long))
cuts_hold p asked v line (cut ∷ cuts) (mark ∷ marks) some long ranges within h =
    let next = line + cut_lines v p.size (cut, mark) in
    let both = AllHold-split (one_cut_claims p asked v line (cut, mark)) (cut_claims p asked v next (zip cuts marks)) h in
    let here = cut_holds p asked v line cut mark some (All-head (IsCutInRange p.size) cut cuts ranges)
    (All-head (IsMarkWithin p.size) mark marks within) both.0 in
    let later = cuts_hold p asked v next cuts marks some (omega (arith, long)) (All-tail (IsCutInRange p.size) cut cuts ranges)
    (All-tail (IsMarkWithin p.size) mark marks within) both.1 in
    record {
      are_cuts = All-cons (IsCut p) cut cuts here.0 later.are_cuts;
      are_marked = λ yes. (here.1 yes, later.are_marked yes);
    }

cuts_claimed : (p : Problem) (asked : Bool) (v line : ℕ) (cuts : List Cut) (marks : List (Option Mark)) → AreAsMarked p asked cuts marks
    → AllHold (cut_claims p asked v line (zip cuts marks))
cuts_claimed p asked v line [] marks h = tt
cuts_claimed p asked v line (cut ∷ cuts) [] h = tt
cuts_claimed p asked v line (cut ∷ cuts) (mark ∷ marks) h =
    let next = line + cut_lines v p.size (cut, mark) in
    AllHold-append (one_cut_claims p asked v line (cut, mark)) (cut_claims p asked v next (zip cuts marks))
    (cut_claimed p asked v line cut mark (All-head (IsCut p) cut cuts h.are_cuts) (λ yes. (h.are_marked yes).0))
    (cuts_claimed p asked v next cuts marks
    (record { are_cuts = All-tail (IsCut p) cut cuts h.are_cuts; are_marked = λ yes. (h.are_marked yes).1 }))

-- ---- the tree

-- what holds of each line of two subtrees holds of each line of either
All-left : (n : ℕ) (xs ys : List TreeLine) → All (IsLineInRange n) (xs ++ ys) → All (IsLineInRange n) xs
All-left n [] ys h = All-nil (IsLineInRange n)
All-left n (x ∷ xs) ys h =
    All-cons (IsLineInRange n) x xs (All-head (IsLineInRange n) x (xs ++ ys) h) (All-left n xs ys (All-tail (IsLineInRange n) x (xs ++ ys) h))

All-right : (n : ℕ) (xs ys : List TreeLine) → All (IsLineInRange n) (xs ++ ys) → All (IsLineInRange n) ys
All-right n [] ys h = h
All-right n (x ∷ xs) ys h = All-right n xs ys (All-tail (IsLineInRange n) x (xs ++ ys) h)

-- two facts that hold of each element
All-both : {X : Type 0} (P Q : X → Type 0) (xs : List X) → All P xs → All Q xs → All (λ x. P x × Q x) xs
All-both P Q [] h g = All-nil (λ x. P x × Q x)
All-both P Q (x ∷ xs) h g =
    All-cons (λ x. P x × Q x) x xs (All-head P x xs h, All-head Q x xs g) (All-both P Q xs (All-tail P x xs h) (All-tail Q x xs g))

tree_holds : (p : Problem) (cuts : List Cut) (target n line : ℕ) (b : Branching) (t : Tree) → All (IsLineInRange n) (preorder t)
    → AllHold (tree_claims p cuts target line b t) → IsSound p cuts target b t
tree_holds p cuts target n line b (branch k opened closed) r h =
    let rest : All (IsLineInRange n) (preorder opened ++ preorder closed) =
    All-tail (IsLineInRange n) (branch_on k) (preorder opened ++ preorder closed) r in
    let both = AllHold-split (tree_claims p cuts target (line + 1) (open_child b k) opened) _ h.1 in (
      h.0,
      tree_holds p cuts target n (line + 1) (open_child b k) opened (All-left n (preorder opened) (preorder closed) rest) both.0,
      tree_holds p cuts target n (line + 1 + line_count opened) (closed_child b k) closed (All-right n (preorder opened) (preorder closed) rest) both.1,
    )
tree_holds p cuts target n line b (leaf denom weights) r h =
    let one = All-head (IsLineInRange n) (leaf_of denom weights) [] r in (
      h.0,
      record {
        denom_least = one.0;
        denom_most = one.1;
        numbers = All-both (λ (e : ℕ × ℕ). 1 ≤ e.0) (λ (e : ℕ × ℕ). e.0 ≤ length cuts) weights
            (All-weaker (λ (e : ℕ × ℕ). (1 ≤ e.0) × IsShort e.0 × (1 ≤ e.1) × IsShort e.1) (λ (e : ℕ × ℕ). 1 ≤ e.0) (λ e g. g.0) weights one.2.each)
            h.1.0;
        multiples = h.1.1.0;
        most = h.1.1.1.0;
      },
      h.1.1.1.1.0,
    )
tree_holds p cuts target n line b empty r h = h.0
tree_holds p cuts target n line b (block commodity) r h = h.0
tree_holds p cuts target n line b count r h = h.0

tree_claimed : (p : Problem) (cuts : List Cut) (target line : ℕ) (b : Branching) (t : Tree) → IsSound p cuts target b t
    → AllHold (tree_claims p cuts target line b t)
tree_claimed p cuts target line b (branch k opened closed) h = (
  h.0,
  AllHold-append (tree_claims p cuts target (line + 1) (open_child b k) opened) _
      (tree_claimed p cuts target (line + 1) (open_child b k) opened h.1)
      (tree_claimed p cuts target (line + 1 + line_count opened) (closed_child b k) closed h.2),
)
tree_claimed p cuts target line b (leaf denom weights) h = (
  h.0,
  (
    All-weaker (λ (e : ℕ × ℕ). (1 ≤ e.0) × (e.0 ≤ length cuts)) (λ (e : ℕ × ℕ). e.0 ≤ length cuts) (λ e g. g.1) weights h.1.numbers,
    (h.1.multiples, (h.1.most, (h.2, tt))),
  ),
)
tree_claimed p cuts target line b empty h = (h, tt)
tree_claimed p cuts target line b (block commodity) h = (h, tt)
tree_claimed p cuts target line b count h = (h, tt)

-- ---- the whole

cuts_by_claims : (p : Problem) (asked : Bool) (k : Stated) → IsStatedInRange k → k.proof.size ≡ p.size → AllHold (all_cut_claims p asked k)
    → AreAsMarked p asked k.proof.cuts k.marks
cuts_by_claims p asked k r size h =
    cuts_hold p asked k.proof.version (first_cut_line k.proof.size) k.proof.cuts k.marks (subst (λ (n : ℕ). 1 ≤ n) size r.proof.some_node) r.one_for_each
    (subst (λ (n : ℕ). All (IsCutInRange n) k.proof.cuts) size r.proof.cuts)
    (subst (λ (n : ℕ). All (IsMarkWithin n) k.marks) size r.marks) h

holds_from_claims : (p : Problem) (s : Stated) → IsStatedInRange s → AllHold (claims p s) → IsStatedOf p s
holds_from_claims p s r h =
    let k = s.proof in
    let parts = AllHold-split (plan_claims p k) (all_cut_claims p true s ++ all_tree_claims p s) h in
    let later = AllHold-split (all_cut_claims p true s) (all_tree_claims p s) parts.1 in
    let head = parts.0 in
    let size : k.size ≡ p.size = head.0.0 in
    let routes =
    AllHold-split (route_claims p k.plan.hubs first_route_line (commodities k.size) k.plan.routes) _ head.1.1.1.1 in
    let taken = subst (λ (n : ℕ). AllZip (IsRoute p k.plan.hubs) (commodities n) k.plan.routes) size
    (routes_hold p k.plan.hubs first_route_line (commodities k.size) k.plan.routes (r.proof.one_route_each ∙ sym (length_commodities k.size)) routes.0) in
    let cuts = cuts_by_claims p true s r size later.0 in
    record {
      holds = record {
        size = size;
        candidates = head.0.1;
        bound = head.1.0;
        plan = record {
          hubs = record {
            set = record { some_hub = r.proof.some_hub; ascend = r.proof.hubs_ascend; are_candidates = head.1.1.0 };
            lacks_none = routes_serve p k.plan.hubs (commodities p.size) k.plan.routes taken;
          };
          routes = taken;
        };
        wanted = head.1.1.1.0;
        cost = routes.1.0;
        cuts = cuts.are_cuts;
        tree = tree_holds p k.cuts k.bound k.size (first_tree_line k.version k.size (cuts_of s)) (root p) k.tree r.proof.tree later.1;
      };
      marks = cuts.are_marked refl;
    }

claims_from_holds : (p : Problem) (s : Stated) → IsStatedOf p s → AllHold (claims p s)
claims_from_holds p s h =
    let k = s.proof in
    let routes = AllHold-append (route_claims p k.plan.hubs first_route_line (commodities k.size) k.plan.routes) _
    (routes_claimed p k.plan.hubs first_route_line (commodities k.size) k.plan.routes
    (subst (λ (n : ℕ). AllZip (IsRoute p k.plan.hubs) (commodities n) k.plan.routes) (sym h.holds.size) h.holds.plan.routes)) (h.holds.cost, tt) in
    let cuts = cuts_claimed p true k.version (first_cut_line k.size) k.cuts s.marks (record { are_cuts = h.holds.cuts; are_marked = λ yes. h.marks }) in
    let tree = tree_claimed p k.cuts k.bound (first_tree_line k.version k.size (cuts_of s)) (root p) k.tree h.holds.tree in
    AllHold-append (plan_claims p k) (all_cut_claims p true s ++ all_tree_claims p s)
    ((h.holds.size, h.holds.candidates), (h.holds.bound, (h.holds.plan.hubs.are_candidates, (h.holds.wanted, routes))))
    (AllHold-append (all_cut_claims p true s) (all_tree_claims p s) cuts tree)

pub holds_exactly_by_claims : (p : Problem) (k : Stated) → IsStatedInRange k → AllHold (claims p k) ↔ IsStatedOf p k
holds_exactly_by_claims p k r = (holds_from_claims p k r, claims_from_holds p k)

-- ---- of an older certificate

has_from_claims : (p : Problem) (k : Stated) → IsStatedInRange k → AllHold (older_claims p k) → HasCutsOf p k.proof
has_from_claims p k r h = record {
  size = h.0.0;
  candidates = h.0.1;
  cuts = (cuts_by_claims p false k r h.0.0 h.1).are_cuts;
}

claims_from_has : (p : Problem) (k : Stated) → HasCutsOf p k.proof → AllHold (older_claims p k)
claims_from_has p k h = (
  (h.size, h.candidates),
  cuts_claimed p false k.proof.version (first_cut_line k.proof.size) k.proof.cuts k.marks
      (record { are_cuts = h.cuts; are_marked = λ yes. absurd (false≢true yes) }),
)

pub has_cuts_by_claims : (p : Problem) (k : Stated) → IsStatedInRange k → AllHold (older_claims p k) ↔ HasCutsOf p k.proof
has_cuts_by_claims p k r = (has_from_claims p k r, claims_from_has p k)
