-- The items of the cuts.
use Rattle.std.proofs.Common.{◌≡◌, ◌≢◌, ℕ, ◌+◌, ◌*◌, ◌/◌, ◌%◌, ◌<◌, ◌≤◌, List, [], ◌∷◌, ◌++◌, length, replicate, get_or, nat_eq, is_none, ◌&&◌, Option, None, All, Contains, sum_by, refl, sym, ap, ap₂, subst, ◌∙◌, mul-pos, div-add-mod', length-append, arith, ⊎_elim, eq-eqb, ne_eqb}
use Rattle.std.proofs.lemmas.Bool.{eqb-true, cases_eq, cases_lt, cond-true, cond-false, cond_both}
use Rattle.std.proofs.lemmas.List.{length-replicate, get_or_past}
use Rattle.std.proofs.lemmas.List.Folds.{sum_by-replicate}
use Rattle.std.proofs.lemmas.List.Sums.{sum_by-cons, sum_by-append}
use Rattle.std.proofs.lemmas.List.Elements.{All-append, All-replicate, All-nil, All-head, All-tail, All-get_or, All-from_get_or, All-contains}
use Rattle.std.proofs.lemmas.Nat.{div-mul-add, mod-mul-add}
use Rattle.std.proofs.lemmas.Slice.Zip.{all_zipped_more}
use Rattle.hub_spec.specs.Limits.{most_cost}
use Rattle.hub_spec.specs.Problem.{Problem, commodity_at}
use Rattle.hub_spec.specs.Cuts.{Prices, Cut, value_at, IsDual, load, IsWithinSums}
use Rattle.hub_spec.proofs.Decisions.{decided_contains}
use Rattle.cert_spec.specs.Lines.{part_of, says_cuts, says_cut, says_dual}
use Rattle.cert_spec.specs.Grammar.{Shape, Stage, want_cuts, want_cut, want_dual, IsRun, kept_dual, after_dual}
use Rattle.cert_spec.specs.Conditions.{claim, AllHold, Dual, Sum, IsDualOfRun, if_time, line_conditions}
use Rattle.cert_spec.specs.Progress.{Progress, is_whole, with_cut, with_duals}
use Rattle.cert_spec.proofs.Leads.{after_dual-all, after_dual-more}
use Rattle.cert_spec.proofs.Stages.{run_within}
use Rattle.cert_conditions.specs.declared.kinds.Kind as code
use Rattle.dual_lines.specs.Lines.{ListedDual}
use Rattle.cert_conditions.specs.Sums.{CutTally, IsNoDual, IsRunAdded, AreSumsOf, AreWithin, last_of}
use Rattle.cert_conditions.specs.Steps.{Tried, ended, CutTaken, cut_with, IsDualOfEach, DualEnds, dual_with}
use Rattle.cert_conditions.specs.Taken.{Part, nothing, some_values, StandsFirm, AreSumsOfCut, AreCutSums, Lists, Cutted, DualsKept, Keeps}
use Rattle.cert_conditions.specs.declared.checks.Checks.{Checks}
use Rattle.cert_conditions.proofs.Loads.{last_of-last}
use Rattle.cert_conditions.proofs.Counting.{cut_cases}
use Rattle.cert_conditions.proofs.Trying.{tried_cons, tried_time}
use Rattle.cert_conditions.proofs.Kept.{Closed, Grown}

pub close_cuts : (c : Checks) (s : Progress) (sh : Shape) (all : ℕ) (new : Checks) → StandsFirm c s → Keeps c s (want_cuts sh) nothing
    → new ≡ ended c None → Closed c s (want_cuts sh) (says_cuts all) new
close_cuts c s sh all new st k h = record {
  kept = c;
  found = None;
  is = h;
  same = refl;
  line_is = refl;
  tried = tt;
  keeps = λ held. (st, cut_cases (λ g. Keeps c (record s { line = s.line + 1 }) g nothing) sh all 0 (λ e. k) (λ n. (k.0, k.1, tt)));
}

-- a cut with this part and these duals
abbrev pub cut_of : ℕ → List Prices → Cut
cut_of part duals = record { part = part; duals = duals }

pub no_sums_yet : (n part : ℕ) (sums : CutTally) → IsNoDual n part sums → AreSumsOf n (cut_of part []) sums
no_sums_yet n part sums h =
    record { part_is = h.part_is; count_is = h.count_is; total_is = h.total_is; long = h.long; loads_are = h.loads_are }

pub close_cut : (c : Checks) (s : Progress) (sh : Shape) (all x number : ℕ) (part : Option ℕ) (new : Checks) → StandsFirm c s
    → Keeps c s (want_cut sh all x) nothing → CutTaken c (part_of part) new → Closed c s (want_cut sh all x) (says_cut number part) new
close_cut c s sh all x number part new st k h =
    let p = c.instance.now in
    record {
      kept = cut_with c (c.cuts ++ h.sums ∷ []);
      found = None;
      is = h.is;
      same = refl;
      line_is = refl;
      tried = tt;
      keeps = λ held. (
        st,
        (
          (
            k.0,
            record {
              front = c.cuts;
              last = h.sums;
              split = refl;
              front_are = k.1.sums_are;
              last_is = subst (λ (ds : List Prices). AreSumsOf p.size (cut_of (part_of part) ds) h.sums) (sym k.1.no_dual)
                  (no_sums_yet p.size (part_of part) h.sums h.none);
              candidates = subst (All (λ (d : Prices). All (λ (e : ℕ × ℕ). Contains p.candidates e.0) d.u)) (sym k.1.no_dual)
                  (All-nil (λ (d : Prices). All (λ (e : ℕ × ℕ). Contains p.candidates e.0) d.u));
              count = ap length k.1.no_dual;
            },
            tt,
            mul-pos st.problem.some_node st.problem.some_node,
          ),
          k.1.no_mark,
        ),
      );
    }

-- ---- a dual that is listed

-- with another dual of the same instance listed
pub dual_firm : (c : Checks) (s : Progress) (listed : ListedDual) → StandsFirm c s → listed.problem ≡ c.dual.problem
    → StandsFirm (dual_with c listed) s
dual_firm c s listed st same = record {
  problem = st.problem;
  dual_is = same ∙ st.dual_is;
  proof_is = st.proof_is;
  size_is = st.size_is;
  candidates_are = st.candidates_are;
  long = st.long;
  cost_is = st.cost_is;
  bound_is = st.bound_is;
  short = st.short;
}

-- at a stage of duals
pub grow_dual : (c : Checks) (s : Progress) (sh : Shape) (at : Stage) (t : ℕ) (commodity : ℕ × ℕ) (run : ℕ) (dual : Prices) (listed : ListedDual)
    (new : Checks) (part : Part) → StandsFirm c s → DualsKept c s sh t part
    → (DualsKept (dual_with c listed) s sh t (some_values commodity run dual) → Keeps (dual_with c listed) s at (some_values commodity run dual))
    → listed.problem ≡ c.dual.problem → Lists listed s.part commodity run dual → new ≡ dual_with c listed
    → Grown c s at (some_values commodity run dual) new
grow_dual c s sh at t commodity run dual listed new part st k into same lists h =
    subst (λ (n : Checks). Grown c s at (some_values commodity run dual) n) (sym h)
    (record {
      same = refl;
      line_is = refl;
      failure_is = refl;
      firm = dual_firm c s listed st same;
      keeps = into (k.0, k.1, lists, k.3);
    })

-- ---- the sums of a cut

load_more : (duals : List Prices) (run : ℕ) (dual : Prices) (f : Prices → ℕ) → sum_by f (duals ++ replicate run dual) ≡ sum_by f duals + run * f dual
load_more duals run dual f = sum_by-append f duals (replicate run dual) ∙ ap (λ x. sum_by f duals + x) (sum_by-replicate f run dual)

sums_more : (n part : ℕ) (duals : List Prices) (run : ℕ) (dual : Prices) (sums later : CutTally) → AreSumsOf n (cut_of part duals) sums
    → IsRunAdded sums run dual later → AreSumsOf n (cut_of part (duals ++ replicate run dual)) later
sums_more n part duals run dual sums later h a = record {
  part_is = a.part_is ∙ h.part_is;
  count_is = omega (arith, h.count_is, a.count_is, length-append duals (replicate run dual), length-replicate run dual);
  total_is = a.total_is ∙ ap (λ x. x + run * dual.a) h.total_is ∙ sym (load_more duals run dual (λ (d : Prices). d.a));
  long = a.long ∙ h.long;
  loads_are = λ k. a.loads_are k ∙ ap (λ x. x + run * value_at dual.u k) (h.loads_are k)
      ∙ sym (load_more duals run dual (λ (d : Prices). value_at d.u k));
}

-- each node that a dual lists is a candidate
abbrev pub ListsCandidates : Problem → Prices → Type 0
ListsCandidates p d = All (λ (e : ℕ × ℕ). Contains p.candidates e.0) d.u

no_value : (p : Problem) (u : List (ℕ × ℕ)) (k : ℕ) → (Contains p.candidates k → ⊥) → All (λ (e : ℕ × ℕ). Contains p.candidates e.0) u → value_at u k ≡ 0
no_value p [] k none h = refl
no_value p (e ∷ u) k none h =
    cond_both (nat_eq e.0 k) e.1 (value_at u k) (λ v. v ≡ 0)
    (λ is. absurd (none (subst (Contains p.candidates) (eqb-true e.0 k is) (All-head (λ (e : ℕ × ℕ). Contains p.candidates e.0) e u h))))
    (λ is. no_value p u k none (All-tail (λ (e : ℕ × ℕ). Contains p.candidates e.0) e u h))

no_load : (p : Problem) (part : ℕ) (duals : List Prices) (k : ℕ) → (Contains p.candidates k → ⊥) → All (ListsCandidates p) duals
    → load (cut_of part duals) k ≡ 0
no_load p part [] k none h = refl
no_load p part (d ∷ duals) k none h =
    omega (
      arith,
      sum_by-cons (λ (d : Prices). value_at d.u k) d duals,
      no_value p d.u k none (All-head (ListsCandidates p) d duals h),
      no_load p part duals k none (All-tail (ListsCandidates p) d duals h),
    )

within_cut : (p : Problem) (n : ℕ) (cut : Cut) (sums : CutTally) → AreSumsOf n cut sums → AreWithin sums → IsWithinSums p cut
within_cut p n cut sums h w =
    let limit : sums.part * most_cost ≡ cut.part * most_cost = ap (λ e. e * most_cost) h.part_is in
    record {
      total_limit = omega (arith, h.total_is, w.0, limit);
      load_limit = All-from_get_or (λ k. load cut k ≤ cut.part * most_cost) p.candidates 0 (λ i below.
          let k = get_or p.candidates i 0 in
          ⊎_elim (λ (inside : k < length sums.loads).
          omega (arith, limit, h.loads_are k, All-get_or (λ (x : ℕ). x ≤ sums.part * most_cost) sums.loads k 0 inside w.1))
          (λ (outside : length sums.loads ≤ k). omega (arith, h.loads_are k, get_or_past sums.loads k 0 outside))
          (cases_lt k (length sums.loads)));
    }

within_sums : (p : Problem) (n part : ℕ) (duals : List Prices) (sums : CutTally) → AreSumsOf n (cut_of part duals) sums
    → All (ListsCandidates p) duals → IsWithinSums p (cut_of part duals) → AreWithin sums
within_sums p n part duals sums h are w =
    let limit : sums.part * most_cost ≡ part * most_cost = ap (λ e. e * most_cost) h.part_is in (
      omega (arith, h.total_is, w.total_limit, limit),
      All-from_get_or (λ (x : ℕ). x ≤ sums.part * most_cost) sums.loads 0 (λ k below.
          ⊎_elim
          (λ inside. omega (
            arith,
            limit,
            h.loads_are k,
            All-contains (λ k. load (cut_of part duals) k ≤ part * most_cost) p.candidates k w.load_limit inside,
          ))
          (λ none. omega (arith, h.loads_are k, no_load p part duals k none are)) (decided_contains p.candidates k)),
    )

-- ---- the commodities of a run

commodity_on : (n t s : ℕ) → t % n + s < n → commodity_at n (t + s) ≡ (t / n, t % n + s)
commodity_on n t s less =
    let place : t + s ≡ t / n * n + (t % n + s) = omega (arith, div-add-mod' t n) in
    ap (commodity_at n) place ∙ ap₂ (λ i j. (i, j)) (div-mul-add (t / n) n (t % n + s) less) (mod-mul-add (t / n) n (t % n + s) less)

-- the dual of a run of an instance, of which the first commodity has number t
abbrev listed_at : Problem → ℕ → ℕ → ℕ → Prices → ListedDual
listed_at p part t run dual = record { problem = p; commodity = commodity_at p.size t; part = part; run = run; dual = dual }

each_of_run : (p : Problem) (part t run : ℕ) (dual : Prices) → t % p.size + run ≤ p.size → IsDualOfRun p part t (run, dual)
    → IsDualOfEach (listed_at p part t run dual)
each_of_run p part t run dual fits h s less =
    subst (λ (c : ℕ × ℕ). IsDual p part c dual) (commodity_on p.size t s (omega arith)) (h.each s less)

run_of_each : (p : Problem) (part t run : ℕ) (dual : Prices) → t % p.size + run ≤ p.size → IsDualOfEach (listed_at p part t run dual)
    → IsDualOfRun p part t (run, dual)
run_of_each p part t run dual fits h = record {
  each = λ s less. subst (λ (c : ℕ × ℕ). IsDual p part c dual) (sym (commodity_on p.size t s (omega arith))) (h s less);
}

listed_is : (d : ListedDual) (p : Problem) (part t run : ℕ) (dual : Prices) → d.problem ≡ p → Lists d part (commodity_at p.size t) run dual
    → d ≡ listed_at p part t run dual
listed_is d p part t run dual same h =
    λ i. record { problem = same i; commodity = h.commodity_is i; part = h.part_is i; run = h.run_is i; dual = h.dual_is i }

-- ---- the end of a dual

whole_duals : (s : Progress) (duals : List Prices) → s.mark ≡ None → length duals ≡ s.size * s.size → with_duals s duals ≡ with_cut s duals
whole_duals s duals none e =
    cond-true (is_none s.mark && is_whole s duals) (with_cut s duals) (record s { line = s.line + 1; duals = duals })
    (ap (λ (m : Option (List ℕ)). is_none m && is_whole s duals) none ∙ eq-eqb (length duals) (s.size * s.size) e)

more_duals : (s : Progress) (duals : List Prices) → s.mark ≡ None → length duals ≢ s.size * s.size
    → with_duals s duals ≡ record s { line = s.line + 1; duals = duals }
more_duals s duals none n =
    cond-false (is_none s.mark && is_whole s duals) (with_cut s duals) (record s { line = s.line + 1; duals = duals })
    (ap (λ (m : Option (List ℕ)). is_none m && is_whole s duals) none ∙ ne_eqb (length duals) (s.size * s.size) n)

-- what the end of a run's dual leaves, whether its cut is marked or not: the sums of the cut with it, and what was found of
-- its line
pub record EndedDual (c : Checks) (s : Progress) (t run : ℕ) (commodity : ℕ × ℕ) (dual : Prices) (cuts : List CutTally)
    (found : Option code.Kind) : Type 0 where
  pub front : List CutTally
  pub later : CutTally
  pub split : cuts ≡ front ++ later ∷ []
  pub front_are : AreCutSums c.instance.now s.cuts front
  pub sums : AreSumsOf c.instance.now.size (cut_of s.part (s.duals ++ replicate run dual)) later
  pub count : length (s.duals ++ replicate run dual) ≡ t + run
  pub most : t + run ≤ c.instance.now.size * c.instance.now.size
  pub tried : Tried (line_conditions c.instance.now s (says_dual commodity run dual)) found c.line
  pub candidates : AllHold (line_conditions c.instance.now s (says_dual commodity run dual))
      → All (ListsCandidates c.instance.now) (s.duals ++ replicate run dual)
  pub within : AllHold (line_conditions c.instance.now s (says_dual commodity run dual))
      → length (s.duals ++ replicate run dual) ≡ s.size * s.size → AreWithin later

pub ended_dual : (c : Checks) (s : Progress) (sh : Shape) (t : ℕ) (commodity : ℕ × ℕ) (run : ℕ) (dual : Prices) (new : Checks) → c.line ≡ s.line
    → commodity ≡ commodity_at sh.size t → IsRun sh t run → StandsFirm c s → DualsKept c s sh t (some_values commodity run dual)
    → (h : DualEnds c new) → EndedDual c s t run commodity dual h.cuts h.ends.found
ended_dual c s sh t commodity run dual new e at is_run st k h =
    let p = c.instance.now in
    let d = k.1 in
    let w = h.added d.front d.last d.split in
    let later = w.0 in
    let part = s.part in
    let place = length s.duals in
    let duals = s.duals ++ replicate run dual in
    let cut = cut_of part duals in
    let sums : AreSumsOf p.size cut later =
    sums_more p.size part s.duals run dual d.last later d.last_is
    (subst (λ (y : Prices). IsRunAdded d.last run y later) k.2.dual_is (subst (λ r. IsRunAdded d.last r c.dual.dual later) k.2.run_is w.1)) in
    let last_is : last_of h.cuts ≡ later = ap last_of w.2 ∙ last_of-last d.front later in
    let sizes : p.size * p.size ≡ s.size * s.size = ap (λ n. n * n) (sym k.0.said_is) in
    let square : sh.size * sh.size ≡ p.size * p.size = ap (λ n. n * n) k.0.wanted_is in
    let fits : place % p.size + run ≤ p.size =
    subst (λ n. place % n + run ≤ n) k.0.wanted_is (subst (λ y. y % sh.size + run ≤ sh.size) (sym d.count) is_run.1) in
    let within_run : t + run ≤ sh.size * sh.size = run_within sh.size t run (omega (arith, k.3, square)) is_run.1 in
    let first : commodity ≡ commodity_at p.size place = at ∙ ap₂ commodity_at k.0.wanted_is (sym d.count) in
    let listed : c.dual ≡ listed_at p part place run dual =
    listed_is c.dual p part place run dual st.dual_is (subst (λ y. Lists c.dual part y run dual) first k.2) in
    let to_run : IsDualOfEach c.dual → IsDualOfRun p part place (run, dual) = λ y. run_of_each p part place run dual fits (subst IsDualOfEach listed y) in
    let to_each : IsDualOfRun p part place (run, dual) → IsDualOfEach c.dual =
    λ y. subst IsDualOfEach (sym listed) (each_of_run p part place run dual fits y) in
    let are : IsDualOfRun p part place (run, dual) → All (ListsCandidates p) duals =
    λ is. All-append (ListsCandidates p) s.duals (replicate run dual) d.candidates
    (All-replicate (ListsCandidates p) run dual (is.each 0 is_run.0).are_candidates) in
    let within : IsDualOfRun p part place (run, dual) → IsWithinSums p cut → AreWithin later =
    λ is y. within_sums p p.size part duals later sums (are is) y in
    record {
      front = d.front;
      later = later;
      split = w.2;
      front_are = d.front_are;
      sums = sums;
      count = omega (arith, length-append s.duals (replicate run dual), length-replicate run dual, d.count);
      most = omega (arith, within_run, square);
      tried = tried_cons Dual c.line s.line c.line (IsDualOfEach c.dual) (IsDualOfRun p part place (run, dual))
          (if_time (nat_eq (last_of h.cuts).count (p.size * p.size)) (claim Sum c.line (AreWithin (last_of h.cuts))))
          (if_time (nat_eq (length duals) (s.size * s.size)) (claim Sum s.line (IsWithinSums p cut)))
          h.ends.found e to_run to_each
          (λ is. tried_time (nat_eq (last_of h.cuts).count (p.size * p.size)) (nat_eq (length duals) (s.size * s.size)) Sum c.line s.line c.line
          (AreWithin (last_of h.cuts)) (IsWithinSums p cut) h.ends.found
          (ap₂ nat_eq (ap (λ (y : CutTally). y.count) last_is ∙ sums.count_is) sizes) e
          (λ whole y. within_cut p p.size cut later sums (subst AreWithin last_is y))
          (λ whole y. subst AreWithin (sym last_is) (within is y)))
          h.ends.tried;
      candidates = λ held. are held.0;
      within = λ held whole. within held.0
          (subst (λ b. AllHold (if_time b (claim Sum s.line (IsWithinSums p cut)))) (eq-eqb (length duals) (s.size * s.size) whole) held.1).0;
    }

pub close_dual : (c : Checks) (s : Progress) (sh : Shape) (all x t : ℕ) (before : Option Prices) (commodity : ℕ × ℕ) (run : ℕ) (dual : Prices)
    (new : Checks) → c.line ≡ s.line → commodity ≡ commodity_at sh.size t → IsRun sh t run → StandsFirm c s
    → Keeps c s (want_dual sh all x t before) (some_values commodity run dual) → DualEnds c new
    → Closed c s (want_dual sh all x t before) (says_dual commodity run dual) new
close_dual c s sh all x t before commodity run dual new e at is_run st k h =
    let p = c.instance.now in
    let sized = k.0.0 in
    let r = ended_dual c s sh t commodity run dual new e at is_run st k.0 h in
    let kept = cut_with c h.cuts in
    let duals = s.duals ++ replicate run dual in
    let cut = cut_of s.part duals in
    let sizes : p.size * p.size ≡ s.size * s.size = ap (λ n. n * n) (sym sized.said_is) in
    let square : sh.size * sh.size ≡ p.size * p.size = ap (λ n. n * n) sized.wanted_is in
    let Q : Progress → Stage → Type 0 = λ after_it g. StandsFirm kept after_it × Keeps kept after_it g nothing in
    let last = kept_dual sh (t + run) dual in
    record {
      kept = kept;
      found = h.ends.found;
      is = h.ends.is;
      same = refl;
      line_is = refl;
      tried = r.tried;
      keeps = λ held. ⊎_elim
          (λ (whole : length duals ≡ s.size * s.size).
          let all_are : t + run ≡ sh.size * sh.size = sym r.count ∙ whole ∙ sym sizes ∙ sym square in
          let cuts : AreCutSums p (s.cuts ++ cut ∷ []) h.cuts =
          subst (AreCutSums p (s.cuts ++ cut ∷ [])) (sym r.split)
          (all_zipped_more (AreSumsOfCut p) s.cuts r.front cut r.later r.front_are (record { are = r.sums; within = r.within held whole })) in
          let stand : Cutted kept (with_cut s duals) = record { sums_are = cuts; no_mark = refl; no_dual = refl } in
          subst (λ y. Q y (after_dual sh all x (t + run) last)) (sym (whole_duals s duals k.1 whole))
          (subst (Q (with_cut s duals)) (sym (after_dual-all sh all x (t + run) last all_are))
          (cut_cases (Q (with_cut s duals)) sh all (x + 1) (λ y. (st, (sized, stand))) (λ y. (st, (sized, stand, tt))))))
          (λ (some : length duals ≢ s.size * s.size).
          let not_all : t + run ≢ sh.size * sh.size = λ y. some (r.count ∙ y ∙ square ∙ sizes) in
          let after_it : Progress = record s { line = s.line + 1; duals = duals } in
          subst (λ y. Q y (after_dual sh all x (t + run) last)) (sym (more_duals s duals k.1 some))
          (subst (Q after_it) (sym (after_dual-more sh all x (t + run) last not_all)) (
            st,
            (
              (
                sized,
                record {
                  front = r.front;
                  last = r.later;
                  split = r.split;
                  front_are = r.front_are;
                  last_is = r.sums;
                  candidates = r.candidates held;
                  count = r.count;
                },
                tt,
                omega (arith, r.most, not_all, square),
              ),
              k.1,
            ),
          )))
          (cases_eq (length duals) (s.size * s.size));
    }
