-- The items of marked cuts: of the mark, of the duals, and of their proofs.
use Rattle.std.proofs.Common.{◌≡◌, ◌≢◌, ℕ, ◌+◌, ◌-◌, ◌*◌, ◌≤◌, ◌↔◌, List, [], ◌∷◌, ◌++◌, length, replicate, get_or, is_none, ◌&&◌, Option, Some, None, All, refl, sym, ap, subst, ◌∙◌, mul-pos, length-append, arith, ⊎_elim, eq-eqb, ne_eqb}
use Rattle.std.proofs.Math.Seq.{get_or-append_seam}
use Rattle.std.proofs.lemmas.Bool.{cases_eq, cond-true, cond-false}
use Rattle.std.proofs.lemmas.List.Elements.{All-nil}
use Rattle.std.proofs.lemmas.Slice.Zip.{all_zipped_more}
use Rattle.hub_spec.specs.Problem.{Problem, commodity_at}
use Rattle.hub_spec.specs.Plans.{IsCandidateSet}
use Rattle.hub_spec.specs.Cuts.{Prices}
use Rattle.core_spec.specs.CoreCuts.{Way, CoreProof, IsCoreDual}
use Rattle.cert_spec.specs.Lines.{says_marked, says_dual, says_proof}
use Rattle.cert_spec.specs.Grammar.{Shape, Stage, want_cut, want_proved, want_proof, Wants, IsRun, after_proof}
use Rattle.cert_spec.specs.Conditions.{Core, MayMark, marked_hubs, LastIsCore}
use Rattle.cert_spec.specs.Progress.{Progress, is_whole, with_cut, with_duals, with_proof, next_line}
use Rattle.cert_spec.proofs.Leads.{after_proof-all, after_proof-more}
use Rattle.core_lines.specs.Tallies.{ProofTally, IsNoWay, IsWayAdded}
use Rattle.core_lines.specs.Tests.{IsListed, Proves}
use Rattle.core_lines.proofs.Deciding.{begins, has_way, decides}
use Rattle.cert_conditions.specs.Sums.{IsNoDual, AreSumsOf, AreWithin, last_of}
use Rattle.cert_conditions.specs.Steps.{mark_begun, mark_with, MarkTaken, cut_with, DualEnds, proof_with, ProofEnds, proved_commodity}
use Rattle.cert_conditions.specs.Taken.{nothing, some_mark, some_values, some_ways, StandsFirm, AreSumsOfCut, AreCutSums, DualsStand, Cutted, Keeps}
use Rattle.cert_conditions.specs.declared.checks.Checks.{Checks}
use Rattle.cert_conditions.proofs.Loads.{last_of-last}
use Rattle.cert_conditions.proofs.Counting.{cut_cases}
use Rattle.cert_conditions.proofs.Trying.{tried_one}
use Rattle.cert_conditions.proofs.Parting.{by_ways}
use Rattle.cert_conditions.proofs.CutSteps.{cut_of, no_sums_yet, ListsCandidates, ended_dual}
use Rattle.cert_conditions.proofs.Kept.{Closed, Grown}

-- ---- the mark

pub grow_cut : (c : Checks) (s : Progress) (sh : Shape) (all x number part : ℕ) (new : Checks) → StandsFirm c s
    → Keeps c s (want_cut sh all x) nothing → new ≡ mark_begun c part → Grown c s (want_cut sh all x) (some_mark number part []) new
grow_cut c s sh all x number part new st k h =
    subst (λ (n : Checks). Grown c s (want_cut sh all x) (some_mark number part []) n) (sym h)
    (record { same = refl; line_is = refl; failure_is = refl; firm = st; keeps = (k.0, k.1, (refl, refl)) })

pub grow_mark : (c : Checks) (s : Progress) (sh : Shape) (all x number part : ℕ) (front : List ℕ) (k : ℕ) (new : Checks) → StandsFirm c s
    → Keeps c s (want_cut sh all x) (some_mark number part front) → new ≡ mark_with c k
    → Grown c s (want_cut sh all x) (some_mark number part (front ++ k ∷ [])) new
grow_mark c s sh all x number part front k new st keeps h =
    subst (λ (n : Checks). Grown c s (want_cut sh all x) (some_mark number part (front ++ k ∷ [])) n) (sym h)
    (record {
      same = refl;
      line_is = refl;
      failure_is = refl;
      firm = st;
      keeps = (keeps.0, keeps.1, (keeps.2.0, ap (λ l. l ++ k ∷ []) keeps.2.1));
    })

pub close_mark : (c : Checks) (s : Progress) (sh : Shape) (all x number part : ℕ) (front : List ℕ) (k : ℕ) (new : Checks) → c.line ≡ s.line
    → Wants (want_cut sh all x) (says_marked number part (front ++ k ∷ [])) → StandsFirm c s
    → Keeps c s (want_cut sh all x) (some_mark number part front) → MarkTaken c k new
    → Closed c s (want_cut sh all x) (says_marked number part (front ++ k ∷ [])) new
close_mark c s sh all x number part front k new e wants st keeps h =
    let p = c.instance.now in
    let hubs = front ++ k ∷ [] in
    let same : c.mark.hubs ++ k ∷ [] ≡ hubs = ap (λ l. l ++ k ∷ []) keeps.2.1 in
    record {
      kept = cut_with (mark_with c k) (c.cuts ++ h.sums ∷ []);
      found = h.ends.found;
      is = h.ends.is;
      same = refl;
      line_is = refl;
      tried = tried_one Core c.line s.line c.line (MayMark p (c.mark.hubs ++ k ∷ [])) (MayMark p hubs) h.ends.found e
          (subst (MayMark p) same) (subst (MayMark p) (sym same)) h.ends.tried;
      keeps = λ held. (
        st,
        (
          (
            keeps.0,
            record {
              front = c.cuts;
              last = h.sums;
              split = refl;
              front_are = keeps.1.sums_are;
              last_is = subst (λ (ds : List Prices). AreSumsOf p.size (cut_of part ds) h.sums) (sym keeps.1.no_dual)
                  (no_sums_yet p.size part h.sums (subst (λ y. IsNoDual p.size y h.sums) keeps.2.0 h.none));
              candidates = subst (All (ListsCandidates p)) (sym keeps.1.no_dual) (All-nil (ListsCandidates p));
              count = ap length keeps.1.no_dual;
            },
            tt,
            mul-pos st.problem.some_node st.problem.some_node,
          ),
          record {
            mark_is = ap (λ l. Some l) (sym same);
            may = held.0.0;
            set = subst (IsCandidateSet p) (sym same)
                (record { some_hub = wants.1.3.some; ascend = wants.1.3.ascend; are_candidates = held.0.1 });
          },
        ),
      );
    }

-- ---- a dual

-- a marked cut is not whole with a dual
marked_duals : (s : Progress) (hubs : List ℕ) (duals : List Prices) → s.mark ≡ Some hubs
    → with_duals s duals ≡ record s { line = s.line + 1; duals = duals }
marked_duals s hubs duals marked =
    cond-false (is_none s.mark && is_whole s duals) (with_cut s duals) (record s { line = s.line + 1; duals = duals })
    (ap (λ (m : Option (List ℕ)). is_none m && is_whole s duals) marked)

last_dual : (duals : List Prices) (t run : ℕ) (dual d : Prices) → length duals ≡ t → run ≡ 1 → get_or (duals ++ replicate run dual) t d ≡ dual
last_dual duals t run dual d count one =
    ap (λ n. get_or (duals ++ replicate n dual) t d) one ∙ ap (λ i. get_or (duals ++ dual ∷ []) i d) (sym count) ∙ get_or-append_seam duals dual [] d

pub close_proved : (c : Checks) (s : Progress) (sh : Shape) (all x t : ℕ) (commodity : ℕ × ℕ) (run : ℕ) (dual : Prices) (new : Checks)
    → c.line ≡ s.line → commodity ≡ commodity_at sh.size t → IsRun sh t run → run ≡ 1 → StandsFirm c s
    → Keeps c s (want_proved sh all x t) (some_values commodity run dual) → DualEnds c new
    → Closed c s (want_proved sh all x t) (says_dual commodity run dual) new
close_proved c s sh all x t commodity run dual new e at is_run one st k h =
    let p = c.instance.now in
    let r = ended_dual c s sh t commodity run dual new e at is_run st k.0 h in
    let kept = cut_with c h.cuts in
    let duals = s.duals ++ replicate run dual in
    let sizes : p.size * p.size ≡ s.size * s.size = ap (λ n. n * n) (sym k.0.0.said_is) in
    let count : length duals ≡ t + 1 = omega (arith, r.count, one) in
    let last_is : last_of h.cuts ≡ r.later = ap last_of r.split ∙ last_of-last r.front r.later in
    let Q : Progress → Type 0 = λ after_it. StandsFirm kept after_it × Keeps kept after_it (want_proof sh all x t) nothing in
    record {
      kept = kept;
      found = h.ends.found;
      is = h.ends.is;
      same = refl;
      line_is = refl;
      tried = r.tried;
      keeps = λ held. subst Q (sym (marked_duals s c.mark.hubs duals k.1.mark_is)) (
        st,
        (
          k.0.0,
          record {
            front = r.front;
            last = r.later;
            split = r.split;
            front_are = r.front_are;
            last_is = r.sums;
            candidates = r.candidates held;
            count = count;
          },
          record {
            more = k.0.3;
            last_is = last_dual s.duals t run dual (record { a = 0; u = [] }) k.0.1.count one ∙ sym k.0.2.dual_is;
            within = λ whole. subst AreWithin (sym last_is) (r.within held (count ∙ whole ∙ sizes));
          },
          k.1,
          tt,
        ),
      );
    }

-- ---- a proof

-- with another proof of the same instance
proof_firm : (c : Checks) (s : Progress) (proof : ProofTally) → StandsFirm c s → proof.problem ≡ c.mark.proof.problem → StandsFirm (proof_with c proof) s
proof_firm c s proof st same = record {
  problem = st.problem;
  dual_is = st.dual_is;
  proof_is = same ∙ st.proof_is;
  size_is = st.size_is;
  candidates_are = st.candidates_are;
  long = st.long;
  cost_is = st.cost_is;
  bound_is = st.bound_is;
  short = st.short;
}

-- the sums of the last cut are those of its duals
pub last_sums : (p : Problem) (c : Checks) (s : Progress) (t : ℕ) → DualsStand p s.cuts s.part s.duals c.cuts t
    → AreSumsOf p.size (cut_of s.part s.duals) (last_of c.cuts)
last_sums p c s t d =
    subst (AreSumsOf p.size (cut_of s.part s.duals)) (sym (ap last_of d.split ∙ last_of-last d.front d.last)) d.last_is

-- a proof of the last dual begins, and then a way more comes, at the stage of a proof
pub begun_proof : (c : Checks) (s : Progress) (sh : Shape) (all x t turns scale : ℕ) (proof : ProofTally) → StandsFirm c s
    → Keeps c s (want_proof sh all x t) nothing → IsNoWay c.mark.proof.problem (proved_commodity c) turns scale proof
    → StandsFirm (proof_with c proof) s
    × Keeps (proof_with c proof) s (want_proof sh all x t) (some_ways (record { turns = turns; scale = scale; ways = [] }))
begun_proof c s sh all x t turns scale proof st k h =
    let p = c.instance.now in
    let count : (last_of c.cuts).count - 1 ≡ t = omega (arith, (last_sums p c s (t + 1) k.1).count_is, k.1.count) in (
      proof_firm c s proof st h.problem_is,
      (
        k.0,
        k.1,
        k.2,
        k.3,
        record {
          commodity_is = h.commodity_is ∙ ap (commodity_at p.size) count;
          tally_is = begins c.mark.proof.problem (proved_commodity c) turns scale proof h;
          count = h.count_is;
        },
      ),
    )

pub more_ways : (c : Checks) (s : Progress) (sh : Shape) (all x t : ℕ) (proof : CoreProof) (front : List Way) (w : Way) (tally : ProofTally)
    → StandsFirm c s → Keeps c s (want_proof sh all x t) (some_ways (by_ways proof front)) → IsWayAdded c.mark.proof w tally
    → StandsFirm (proof_with c tally) s × Keeps (proof_with c tally) s (want_proof sh all x t) (some_ways (by_ways proof (front ++ w ∷ [])))
more_ways c s sh all x t proof front w tally st k h = (
  proof_firm c s tally st h.problem_is,
  (
    k.0,
    k.1,
    k.2,
    k.3,
    record {
      commodity_is = h.commodity_is ∙ k.4.commodity_is;
      tally_is = has_way (by_ways proof front) c.mark.proof tally w k.4.tally_is h;
      count = omega (arith, h.count_is, k.4.count, length-append front (w ∷ []));
    },
  ),
)

-- what is tested of the proof is what the line asks
core_by : (c : Checks) (s : Progress) (sh : Shape) (all x t : ℕ) (proof : CoreProof) (row : List ℕ) → StandsFirm c s
    → Keeps c s (want_proof sh all x t) (some_ways proof) → 1 ≤ proof.scale → IsListed c.dual.dual c.dual.dual.a row
    → Proves c.mark.hubs (last_of c.cuts).part c.dual.dual.a row c.mark.proof ↔ LastIsCore c.instance.now s proof
core_by c s sh all x t proof row st k some listed =
    let p = c.instance.now in
    let tally = c.mark.proof in
    let marked = k.3 in
    let sums = last_sums p c s (t + 1) k.1 in
    let at : t ≡ length s.duals - 1 = omega (arith, k.1.count) in
    let any : tally.problem.longest ≡ None = ap (λ (q : Problem). q.longest) st.proof_is ∙ marked.may.any_length in
    let set : IsCandidateSet tally.problem c.mark.hubs = subst (λ (q : Problem). IsCandidateSet q c.mark.hubs) (sym st.proof_is) marked.set in
    let by_tally = decides c.mark.hubs (last_of c.cuts).part c.dual.dual.a row c.dual.dual proof tally any set some k.4.tally_is listed in
    let hubs_are : c.mark.hubs ≡ marked_hubs s.mark = sym (ap marked_hubs marked.mark_is) in
    let commodity_is : tally.commodity ≡ commodity_at p.size (length s.duals - 1) = k.4.commodity_is ∙ ap (commodity_at p.size) at in
    let none : Prices = record { a = 0; u = [] } in
    let dual_is : c.dual.dual ≡ get_or s.duals (length s.duals - 1) none = sym k.2.last_is ∙ ap (λ i. get_or s.duals i none) at in
    let same : IsCoreDual tally.problem c.mark.hubs (last_of c.cuts).part tally.commodity c.dual.dual proof ≡ LastIsCore p s proof =
    λ i. IsCoreDual (st.proof_is i) (hubs_are i) (sums.part_is i) (commodity_is i) (dual_is i) proof in
    (λ y. subst (λ (a : Type 0). a) same (by_tally.0 y), λ y. by_tally.1 (subst (λ (a : Type 0). a) (sym same) y))

whole_proof : (s : Progress) → length s.duals ≡ s.size * s.size → with_proof s ≡ with_cut s s.duals
whole_proof s e = cond-true (is_whole s s.duals) (with_cut s s.duals) (next_line s) (eq-eqb (length s.duals) (s.size * s.size) e)

more_proof : (s : Progress) → length s.duals ≢ s.size * s.size → with_proof s ≡ next_line s
more_proof s n = cond-false (is_whole s s.duals) (with_cut s s.duals) (next_line s) (ne_eqb (length s.duals) (s.size * s.size) n)

-- what is kept behind a proof
behind_proof : (c : Checks) (s : Progress) (sh : Shape) (all x t : ℕ) (proof : CoreProof) → StandsFirm c s
    → Keeps c s (want_proof sh all x t) (some_ways proof)
    → StandsFirm c (with_proof s) × Keeps c (with_proof s) (after_proof sh all x (t + 1)) nothing
behind_proof c s sh all x t proof st k =
    let p = c.instance.now in
    let sized = k.0 in
    let d = k.1 in
    let sizes : p.size * p.size ≡ s.size * s.size = ap (λ n. n * n) (sym sized.said_is) in
    let square : sh.size * sh.size ≡ p.size * p.size = ap (λ n. n * n) sized.wanted_is in
    let Q : Progress → Stage → Type 0 = λ after_it g. StandsFirm c after_it × Keeps c after_it g nothing in
    ⊎_elim
    (λ (whole : length s.duals ≡ s.size * s.size).
    let all_are : t + 1 ≡ p.size * p.size = sym d.count ∙ whole ∙ sym sizes in
    let last_is : last_of c.cuts ≡ d.last = ap last_of d.split ∙ last_of-last d.front d.last in
    let cuts : AreCutSums p (s.cuts ++ cut_of s.part s.duals ∷ []) c.cuts =
    subst (AreCutSums p (s.cuts ++ cut_of s.part s.duals ∷ [])) (sym d.split)
    (all_zipped_more (AreSumsOfCut p) s.cuts d.front (cut_of s.part s.duals) d.last d.front_are
    (record { are = d.last_is; within = subst AreWithin last_is (k.2.within all_are) })) in
    let stand : Cutted c (with_cut s s.duals) = record { sums_are = cuts; no_mark = refl; no_dual = refl } in
    subst (λ y. Q y (after_proof sh all x (t + 1))) (sym (whole_proof s whole))
    (subst (Q (with_cut s s.duals)) (sym (after_proof-all sh all x (t + 1) (all_are ∙ sym square)))
    (cut_cases (Q (with_cut s s.duals)) sh all (x + 1) (λ y. (st, (sized, stand))) (λ y. (st, (sized, stand, tt))))))
    (λ (some : length s.duals ≢ s.size * s.size).
    let not_all : t + 1 ≢ sh.size * sh.size = λ y. some (d.count ∙ y ∙ square ∙ sizes) in
    subst (λ y. Q y (after_proof sh all x (t + 1))) (sym (more_proof s some))
    (subst (Q (next_line s)) (sym (after_proof-more sh all x (t + 1) not_all))
    (st, ((sized, d, tt, omega (arith, k.2.more, not_all, square)), k.3))))
    (cases_eq (length s.duals) (s.size * s.size))

pub close_proof : (c : Checks) (s : Progress) (sh : Shape) (all x t : ℕ) (proof : CoreProof) (new : Checks) → c.line ≡ s.line → 1 ≤ proof.scale
    → StandsFirm c s → Keeps c s (want_proof sh all x t) (some_ways proof) → ProofEnds c new
    → Closed c s (want_proof sh all x t) (says_proof proof) new
close_proof c s sh all x t proof new e some st k h =
    let core = core_by c s sh all x t proof h.row st k some h.listed in
    record {
      kept = c;
      found = h.ends.found;
      is = h.ends.is;
      same = refl;
      line_is = refl;
      tried = tried_one Core c.line s.line c.line (Proves c.mark.hubs (last_of c.cuts).part c.dual.dual.a h.row c.mark.proof)
          (LastIsCore c.instance.now s proof) h.ends.found e core.0 core.1 h.ends.tried;
      keeps = λ held. behind_proof c s sh all x t proof st k;
    }
