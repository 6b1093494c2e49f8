-- One item of any line.
use Rattle.std.proofs.Common.{◌≡◌, ℕ, ◌-◌, ◌%◌, ◌<◌, ◌≤◌, All, arith, true, false, List, [], ◌∷◌, ◌++◌, None, inl, inr, refl, sym, ap, subst, ◌∙◌}
use Rattle.std.specs.List.Sorted.{IsStrictlyIncreasing}
use Rattle.std.proofs.Math.Nat.{mod-lt}
use Rattle.hub_spec.specs.Cuts.{Prices}
use Rattle.core_spec.specs.CoreCuts.{Way, CoreProof}
use Rattle.core_spec.specs.MarkRanges.{IsProofInRange}
use Rattle.hub_spec.specs.Trees.{branch_on, leaf_of, no_hub, no_route, no_count}
use Rattle.hub_spec.specs.Problem.{commodity_at}
use Rattle.hub_spec.specs.Ranges.{IsDualInRange, IsLineInRange}
use Rattle.cert_spec.specs.Lines.{part_of, Item as Line, says_version, says_size, says_cost, says_bound, says_hubs, says_route, says_cuts, says_cut, says_marked, says_dual, says_proof, says_nodes, says_tree, says_end}
use Rattle.cert_spec.specs.Grammar.{Shape, Stage, want_version, want_size, want_end, want_cost, want_bound, want_hubs, want_cuts, want_nodes, want_route, want_cut, want_dual, want_proved, want_proof, want_tree, IsRun, IsOpen, Wants}
use Rattle.cert_spec.specs.Progress.{Progress}
use Rattle.dual_lines.specs.Lines.{ListedDual}
use Rattle.cert_scan.specs.Versions.{version_of}
use Rattle.cert_scan.specs.declared.items.Item.{Item}
use Rattle.cert_scan.specs.declared.items.Item.TheVariants.{Version, Size, Cost, Bound, Hub, Route, Cuts, Cut, CoreHub, Dual, DualPair, Proof, ProofPair, Nodes, Branch, Leaf, LeafPair, Empty, Block, Count, End}
use Rattle.cert_conditions.specs.Steps.{IsTaken, MayCome, begun_dual, with_value, dual_with, DualEnds, proof_with, leaf_with, LeafEnds}
use Rattle.cert_conditions.specs.Taken.{Part, nothing, some_hubs, some_mark, some_values, some_ways, some_weights, IsPart, StandsFirm, Lists, Marked, DualsKept, Keeps}
use Rattle.cert_conditions.specs.declared.checks.Checks.{Checks}
use Rattle.cert_conditions.specs.Sums.{CutTally, last_of}
use Rattle.cert_conditions.proofs.Loads.{last_of-last}
use Rattle.cert_conditions.proofs.Parting.{by_ways, Growing, Closing}
use Rattle.cert_conditions.proofs.Kept.{Closed, Grown}
use Rattle.cert_conditions.proofs.PlanSteps.{close_version, close_size, close_cost, close_bound, grow_hub, close_hubs, close_route}
use Rattle.cert_conditions.proofs.CutSteps.{close_cuts, close_cut, dual_firm, grow_dual, close_dual}
use Rattle.cert_conditions.proofs.MarkSteps.{grow_cut, grow_mark, close_mark, close_proved, begun_proof, more_ways, close_proof}
use Rattle.cert_conditions.proofs.TreeSteps.{close_nodes, close_end, close_branch, close_empty, close_block, close_count, begun_leaf, weighed_as, weighed_leaf, close_leaf}
use Rattle.cert_conditions.proofs.MayCome.{may_hub, may_route, may_cut, may_dual, may_value, may_fill, may_block, may_end_leaf, may_weight}
use Rattle.cert_conditions.proofs.MayProve.{may_mark_hub, may_proof, may_way}

-- what an item is for a check that keeps what it should: it may come, and so it leaves the check
pub record IsSafe (c : Checks) (i : Item) (After : Checks → Type 0) : Type 0 where
  pub may : MayCome c i
  pub leaves : (new : Checks) → IsTaken c i new → After new

-- the safety of an item that is this one
by_item : (c : Checks) (i j : Item) (After : Checks → Type 0) → i ≡ j → IsSafe c j After → IsSafe c i After
by_item c i j After e h = subst (λ x. IsSafe c x After) (sym e) h

-- what is kept where the part is this one
keeps_at : (c : Checks) (s : Progress) (at : Stage) (before part : Part) → before ≡ part → Keeps c s at before → Keeps c s at part
keeps_at c s at before part e h = subst (Keeps c s at) e h

-- ---- lists that grow

grows_hubs : (c : Checks) (s : Progress) (sh : Shape) (hubs : List ℕ) (before : Part) (i : Item) → IsPart (want_hubs sh) (some_hubs hubs)
    → Growing (some_hubs hubs) before i → StandsFirm c s → Keeps c s (want_hubs sh) before
    → IsSafe c i (Grown c s (want_hubs sh) (some_hubs hubs))
grows_hubs c s sh hubs before i may g st keeps =
    let front = g.0 in
    let k = g.1 in
    let kept = keeps_at c s (want_hubs sh) before (some_hubs front) g.3 keeps in
    by_item c i (Hub k false) (Grown c s (want_hubs sh) (some_hubs hubs)) g.4
    (subst (λ hs. IsPart (want_hubs sh) (some_hubs hs) → IsSafe c (Hub k false) (Grown c s (want_hubs sh) (some_hubs hs))) (sym g.2)
    (λ in_range. record {
      may = may_hub c s sh front k kept in_range.0 in_range.1;
      leaves = λ new h. grow_hub c s sh front k new st kept h;
    }) may)

-- the dual of a run that stands, with a value more
more_listed : (d : ListedDual) (part : ℕ) (commodity : ℕ × ℕ) (run a : ℕ) (front : List (ℕ × ℕ)) (e : ℕ × ℕ)
    → Lists d part commodity run (record { a = a; u = front }) → Lists (with_value d e) part commodity run (record { a = a; u = front ++ e ∷ [] })
more_listed d part commodity run a front e h = record {
  commodity_is = h.commodity_is;
  part_is = h.part_is;
  run_is = h.run_is;
  dual_is = ap (λ (d : Prices). let y : Prices = record { a = d.a; u = d.u ++ e ∷ [] } in y) h.dual_is;
}

-- the dual of a run that begins
begun_listed : (c : Checks) (s : Progress) (sh : Shape) (t : ℕ) (part : Part) (commodity : ℕ × ℕ) (run a : ℕ) → DualsKept c s sh t part
    → Lists (begun_dual c commodity run a) s.part commodity run (record { a = a; u = [] })
begun_listed c s sh t part commodity run a keeps =
    let d = keeps.1 in
    record {
      commodity_is = refl;
      part_is = ap (λ (l : List CutTally). (last_of l).part) d.split ∙ ap (λ (y : CutTally). y.part) (last_of-last d.front d.last) ∙ d.last_is.part_is;
      run_is = refl;
      dual_is = refl;
    }

grows_mark : (c : Checks) (s : Progress) (sh : Shape) (all x number part : ℕ) (hubs : List ℕ) (before : Part) (i : Item)
    → IsPart (want_cut sh all x) (some_mark number part hubs) → Growing (some_mark number part hubs) before i → StandsFirm c s
    → Keeps c s (want_cut sh all x) before → IsSafe c i (Grown c s (want_cut sh all x) (some_mark number part hubs))
grows_mark c s sh all x number part hubs before i may (inl g) st keeps =
    let at = want_cut sh all x in
    by_item c i (Cut number part false) (Grown c s at (some_mark number part hubs)) g.2
    (record {
      may = record { least = may.1; most = may.2 };
      leaves = λ new h. subst (λ l. Grown c s at (some_mark number part l) new) (sym g.0)
          (grow_cut c s sh all x number part new st (keeps_at c s at before nothing g.1 keeps) h);
    })
grows_mark c s sh all x number part hubs before i may (inr g) st keeps =
    let at = want_cut sh all x in
    let front = g.0 in
    let k = g.1 in
    let kept = keeps_at c s at before (some_mark number part front) g.3 keeps in
    by_item c i (CoreHub k false) (Grown c s at (some_mark number part hubs)) g.4
    (record {
      may = may_mark_hub c s sh all x number part front k st kept (subst IsStrictlyIncreasing g.2 may.3) (subst (All (λ (m : ℕ). m < sh.size)) g.2 may.4);
      leaves = λ new h. subst (λ l. Grown c s at (some_mark number part l) new) (sym g.2) (grow_mark c s sh all x number part front k new st kept h);
    })

-- a dual that grows at a stage of duals, whether the cut is marked or not; what is known of the mark is M
grows_dual : (c : Checks) (s : Progress) (sh : Shape) (at : Stage) (t : ℕ) (commodity : ℕ × ℕ) (run a : ℕ) (u : List (ℕ × ℕ)) (before : Part) (i : Item)
    (M : Type 0) → ((listed : ListedDual) (part : Part) → DualsKept (dual_with c listed) s sh t part × M → Keeps (dual_with c listed) s at part)
    → ((part : Part) → Keeps c s at part → DualsKept c s sh t part × M) → commodity ≡ commodity_at sh.size t → IsRun sh t run
    → IsDualInRange sh.size (record { a = a; u = u }) → Growing (some_values commodity run (record { a = a; u = u })) before i → StandsFirm c s
    → Keeps c s at before → IsSafe c i (Grown c s at (some_values commodity run (record { a = a; u = u })))
grows_dual c s sh at t commodity run a u before i M into from place is_run range (inl g) st keeps =
    let D : List (ℕ × ℕ) → Prices = λ l. record { a = a; u = l } in
    let k = from before keeps in
    let listed = begun_dual c commodity run a in
    by_item c i (Dual commodity.0 commodity.1 run a false) (Grown c s at (some_values commodity run (D u))) g.2
    (record {
      may = may_dual c s sh t commodity run a before st k.0 place is_run range.a;
      leaves = λ new h. subst (λ l. Grown c s at (some_values commodity run (D l)) new) (sym g.0)
          (grow_dual c s sh at t commodity run (D []) listed new before st k.0 (λ d. into listed (some_values commodity run (D [])) (d, k.1)) refl
          (begun_listed c s sh t before commodity run a k.0) h);
    })
grows_dual c s sh at t commodity run a u before i M into from place is_run range (inr g) st keeps =
    let D : List (ℕ × ℕ) → Prices = λ l. record { a = a; u = l } in
    let front = g.0 in
    let e = g.1 in
    let part = some_values commodity run (D front) in
    let more = some_values commodity run (D (front ++ e ∷ [])) in
    let listed = with_value c.dual e in
    let k = from part (keeps_at c s at before part g.3 keeps) in
    by_item c i (DualPair e.0 e.1 false) (Grown c s at (some_values commodity run (D u))) g.4
    (record {
      may = may_value c s sh t commodity run a front e st k.0 is_run (subst (λ l. IsDualInRange sh.size (D l)) g.2 range);
      leaves = λ new h. subst (λ l. Grown c s at (some_values commodity run (D l)) new) (sym g.2)
          (grow_dual c s sh at t commodity run (D (front ++ e ∷ [])) listed new part st k.0 (λ d. into listed more (d, k.1)) refl
          (more_listed c.dual s.part commodity run a front e k.0.2) h);
    })

grows_ways : (c : Checks) (s : Progress) (sh : Shape) (all x t : ℕ) (proof : CoreProof) (before : Part) (i : Item) → IsProofInRange sh.size proof
    → Growing (some_ways proof) before i → StandsFirm c s → Keeps c s (want_proof sh all x t) before
    → IsSafe c i (Grown c s (want_proof sh all x t) (some_ways proof))
grows_ways c s sh all x t proof before i range (inl g) st keeps =
    let at = want_proof sh all x t in
    by_item c i (Proof proof.turns proof.scale false) (Grown c s at (some_ways proof)) g.2
    (record {
      may = may_proof c s sh all x t proof.turns proof.scale proof.ways before st keeps range;
      leaves = λ new h.
          let r = begun_proof c s sh all x t proof.turns proof.scale h.proof st (keeps_at c s at before nothing g.1 keeps) h.begun in
          subst (λ (l : List Way). Grown c s at (some_ways (by_ways proof l)) new) (sym g.0)
          (subst (λ n. Grown c s at (some_ways (by_ways proof [])) n) (sym h.goes)
          (record { same = refl; line_is = refl; failure_is = refl; firm = r.0; keeps = r.1 }));
    })
grows_ways c s sh all x t proof before i range (inr g) st keeps =
    let at = want_proof sh all x t in
    let front = g.0 in
    let w = g.1 in
    let kept = keeps_at c s at before (some_ways (by_ways proof front)) g.3 keeps in
    by_item c i (ProofPair w.0 w.1 w.2 false) (Grown c s at (some_ways proof)) g.4
    (record {
      may = may_way c s sh all x t proof front w st kept (subst (λ (l : List Way). IsProofInRange sh.size (by_ways proof l)) g.2 range);
      leaves = λ new h.
          let r = more_ways c s sh all x t proof front w h.proof st kept h.added in
          subst (λ (l : List Way). Grown c s at (some_ways (by_ways proof l)) new) (sym g.2)
          (subst (λ n. Grown c s at (some_ways (by_ways proof (front ++ w ∷ []))) n) (sym h.goes)
          (record { same = refl; line_is = refl; failure_is = refl; firm = r.0; keeps = r.1 }));
    })

grows_leaf : (c : Checks) (s : Progress) (sh : Shape) (places left denom : ℕ) (weights : List (ℕ × ℕ)) (before : Part) (i : Item)
    → IsLineInRange sh.size (leaf_of denom weights) → Growing (some_weights denom weights) before i → StandsFirm c s
    → Keeps c s (want_tree sh places left) before → IsSafe c i (Grown c s (want_tree sh places left) (some_weights denom weights))
grows_leaf c s sh places left denom weights before i range (inl g) st keeps =
    let at = want_tree sh places left in
    by_item c i (Leaf denom false) (Grown c s at (some_weights denom weights)) g.2
    (record {
      may = (range.1, may_end_leaf c s sh places left before st keeps);
      leaves = λ new h.
          let r = begun_leaf c s sh places left denom h.sums st (keeps_at c s at before nothing g.1 keeps) h.begun in
          subst (λ l. Grown c s at (some_weights denom l) new) (sym g.0)
          (subst (λ n. Grown c s at (some_weights denom []) n) (sym h.goes)
          (record { same = refl; line_is = refl; failure_is = refl; firm = r.0; keeps = r.1 }));
    })
grows_leaf c s sh places left denom weights before i range (inr g) st keeps =
    let at = want_tree sh places left in
    let front = g.0 in
    let e = g.1 in
    let kept = keeps_at c s at before (some_weights denom front) g.3 keeps in
    let in_range = subst (λ l. IsLineInRange sh.size (leaf_of denom l)) g.2 range in
    let may = may_weight c s sh places left denom front e (some_weights denom front) st kept in_range in
    by_item c i (LeafPair e.0 e.1 false) (Grown c s at (some_weights denom weights)) g.4
    (record {
      may = may;
      leaves = λ new h.
          let w = weighed_as c h.kept s.cuts denom front e kept.1.sums_are may.least kept.3 h.weighed in
          let r = weighed_leaf c h.kept s sh places left denom front e st kept w in
          subst (λ l. Grown c s at (some_weights denom l) new) (sym g.2)
          (subst (λ n. Grown c s at (some_weights denom (front ++ e ∷ [])) n) (sym (h.goes ∙ w.is))
          (record { same = refl; line_is = refl; failure_is = refl; firm = r.0; keeps = r.1 }));
    })

-- a dual of a marked cut is a run of one
proved_run : (c : Checks) (s : Progress) (sh : Shape) (all x t : ℕ) (part : Part) (run : ℕ) → StandsFirm c s → Keeps c s (want_proved sh all x t) part
    → run ≡ 1 → IsRun sh t run
proved_run c s sh all x t part run st keeps one =
    let some : 1 ≤ sh.size = omega (arith, st.problem.some_node, keeps.0.0.wanted_is) in
    let column : t % sh.size < sh.size = mod-lt t some in
    (omega (arith, one), omega (arith, one, column), λ first. one)

pub grows : (at : Stage) (part before : Part) (i : Item) (c : Checks) (s : Progress) → IsPart at part → Growing part before i → StandsFirm c s
    → Keeps c s at before → IsSafe c i (Grown c s at part)
grows (want_hubs sh) (some_hubs hubs) before i c s may g st keeps = grows_hubs c s sh hubs before i may g st keeps
grows (want_cut sh all x) (some_mark number part hubs) before i c s may g st keeps = grows_mark c s sh all x number part hubs before i may g st keeps
grows (want_dual sh all x t prior) (some_values commodity run dual) before i c s may g st keeps =
    grows_dual c s sh (want_dual sh all x t prior) t commodity run dual.a dual.u before i (s.mark ≡ None) (λ listed part k. k) (λ part k. k)
    may.0 may.1 may.2 g st keeps
grows (want_proved sh all x t) (some_values commodity run dual) before i c s may g st keeps =
    grows_dual c s sh (want_proved sh all x t) t commodity run dual.a dual.u before i (Marked c s) (λ listed part k. k) (λ part k. k)
    may.0 (proved_run c s sh all x t before run st keeps may.1) may.2 g st keeps
grows (want_proof sh all x t) (some_ways proof) before i c s may g st keeps = grows_ways c s sh all x t proof before i may g st keeps
grows (want_tree sh places left) (some_weights denom weights) before i c s may g st keeps =
    grows_leaf c s sh places left denom weights before i may g st keeps
grows at nothing before i c s may g st keeps = absurd g
grows at part before i c s may g st keeps = absurd may

-- ---- lines that end

closes_hubs : (c : Checks) (s : Progress) (sh : Shape) (hubs : List ℕ) (before : Part) (i : Item) → c.line ≡ s.line
    → Wants (want_hubs sh) (says_hubs hubs) → Closing (says_hubs hubs) before i → StandsFirm c s → Keeps c s (want_hubs sh) before
    → IsSafe c i (Closed c s (want_hubs sh) (says_hubs hubs))
closes_hubs c s sh hubs before i e wants g st keeps =
    let front = g.0 in
    let k = g.1 in
    let kept = keeps_at c s (want_hubs sh) before (some_hubs front) g.3 keeps in
    by_item c i (Hub k true) (Closed c s (want_hubs sh) (says_hubs hubs)) g.4
    (subst (λ hs. Wants (want_hubs sh) (says_hubs hs) → IsSafe c (Hub k true) (Closed c s (want_hubs sh) (says_hubs hs))) (sym g.2)
    (λ w. record {
      may = may_hub c s sh front k kept w.1 w.2;
      leaves = λ new h. close_hubs c s sh front k new e st kept h;
    }) wants)

closes_mark : (c : Checks) (s : Progress) (sh : Shape) (all x number part : ℕ) (hubs : List ℕ) (before : Part) (i : Item) → c.line ≡ s.line
    → Wants (want_cut sh all x) (says_marked number part hubs) → Closing (says_marked number part hubs) before i → StandsFirm c s
    → Keeps c s (want_cut sh all x) before → IsSafe c i (Closed c s (want_cut sh all x) (says_marked number part hubs))
closes_mark c s sh all x number part hubs before i e wants g st keeps =
    let at = want_cut sh all x in
    let front = g.0 in
    let k = g.1 in
    let kept = keeps_at c s at before (some_mark number part front) g.3 keeps in
    by_item c i (CoreHub k true) (Closed c s at (says_marked number part hubs)) g.4
    (subst (λ hs. Wants at (says_marked number part hs) → IsSafe c (CoreHub k true) (Closed c s at (says_marked number part hs))) (sym g.2)
    (λ w. record {
      may = may_mark_hub c s sh all x number part front k st kept w.1.3.ascend w.1.3.nodes;
      leaves = λ new h. close_mark c s sh all x number part front k new e w st kept h;
    }) wants)

-- a dual that ends at a stage of duals, whether the cut is marked or not; what is known of the mark is M
closes_dual : (c : Checks) (s : Progress) (sh : Shape) (at : Stage) (t : ℕ) (commodity : ℕ × ℕ) (run a : ℕ) (u : List (ℕ × ℕ)) (before : Part)
    (i : Item) (M : Type 0) → ((part : Part) → Keeps c s at part → DualsKept c s sh t part × M)
    → ((listed : ListedDual) (dual : Prices) (new : Checks) → StandsFirm (dual_with c listed) s
    → DualsKept (dual_with c listed) s sh t (some_values commodity run dual) × M → DualEnds (dual_with c listed) new
    → Closed c s at (says_dual commodity run dual) new) → commodity ≡ commodity_at sh.size t → IsRun sh t run
    → IsDualInRange sh.size (record { a = a; u = u }) → Closing (says_dual commodity run (record { a = a; u = u })) before i → StandsFirm c s
    → Keeps c s at before → IsSafe c i (Closed c s at (says_dual commodity run (record { a = a; u = u })))
closes_dual c s sh at t commodity run a u before i M from close place is_run range (inl g) st keeps =
    let D : List (ℕ × ℕ) → Prices = λ l. record { a = a; u = l } in
    let listed = begun_dual c commodity run a in
    let k = from before keeps in
    by_item c i (Dual commodity.0 commodity.1 run a true) (Closed c s at (says_dual commodity run (D u))) g.2
    (record {
      may = may_dual c s sh t commodity run a before st k.0 place is_run range.a;
      leaves = λ new h. subst (λ l. Closed c s at (says_dual commodity run (D l)) new) (sym g.0)
          (close listed (D []) new (dual_firm c s listed st refl) ((k.0.0, k.0.1, begun_listed c s sh t before commodity run a k.0, k.0.3), k.1) h);
    })
closes_dual c s sh at t commodity run a u before i M from close place is_run range (inr g) st keeps =
    let D : List (ℕ × ℕ) → Prices = λ l. record { a = a; u = l } in
    let front = g.0 in
    let e = g.1 in
    let part = some_values commodity run (D front) in
    let listed = with_value c.dual e in
    let k = from part (keeps_at c s at before part g.3 keeps) in
    by_item c i (DualPair e.0 e.1 true) (Closed c s at (says_dual commodity run (D u))) g.4
    (record {
      may = may_value c s sh t commodity run a front e st k.0 is_run (subst (λ l. IsDualInRange sh.size (D l)) g.2 range);
      leaves = λ new h. subst (λ l. Closed c s at (says_dual commodity run (D l)) new) (sym g.2)
          (close listed (D (front ++ e ∷ [])) new (dual_firm c s listed st refl)
          ((k.0.0, k.0.1, more_listed c.dual s.part commodity run a front e k.0.2, k.0.3), k.1) h);
    })

closes_proof : (c : Checks) (s : Progress) (sh : Shape) (all x t : ℕ) (proof : CoreProof) (before : Part) (i : Item) → c.line ≡ s.line
    → IsProofInRange sh.size proof → Closing (says_proof proof) before i → StandsFirm c s → Keeps c s (want_proof sh all x t) before
    → IsSafe c i (Closed c s (want_proof sh all x t) (says_proof proof))
closes_proof c s sh all x t proof before i line range (inl g) st keeps =
    let at = want_proof sh all x t in
    by_item c i (Proof proof.turns proof.scale true) (Closed c s at (says_proof proof)) g.2
    (record {
      may = may_proof c s sh all x t proof.turns proof.scale proof.ways before st keeps range;
      leaves = λ new h.
          let r = begun_proof c s sh all x t proof.turns proof.scale h.proof st (keeps_at c s at before nothing g.1 keeps) h.begun in
          subst (λ (l : List Way). Closed c s at (says_proof (by_ways proof l)) new) (sym g.0)
          (close_proof (proof_with c h.proof) s sh all x t (by_ways proof []) new line range.some_scale r.0 r.1 h.goes);
    })
closes_proof c s sh all x t proof before i line range (inr g) st keeps =
    let at = want_proof sh all x t in
    let front = g.0 in
    let w = g.1 in
    let kept = keeps_at c s at before (some_ways (by_ways proof front)) g.3 keeps in
    by_item c i (ProofPair w.0 w.1 w.2 true) (Closed c s at (says_proof proof)) g.4
    (record {
      may = may_way c s sh all x t proof front w st kept (subst (λ (l : List Way). IsProofInRange sh.size (by_ways proof l)) g.2 range);
      leaves = λ new h.
          let r = more_ways c s sh all x t proof front w h.proof st kept h.added in
          subst (λ (l : List Way). Closed c s at (says_proof (by_ways proof l)) new) (sym g.2)
          (close_proof (proof_with c h.proof) s sh all x t (by_ways proof (front ++ w ∷ [])) new line range.some_scale r.0 r.1 h.goes);
    })

closes_leaf : (c : Checks) (s : Progress) (sh : Shape) (places left denom : ℕ) (weights : List (ℕ × ℕ)) (before : Part) (i : Item) → c.line ≡ s.line
    → IsLineInRange sh.size (leaf_of denom weights) → IsOpen (places - 1) (left - 1) → Closing (says_tree (leaf_of denom weights)) before i
    → StandsFirm c s → Keeps c s (want_tree sh places left) before
    → IsSafe c i (Closed c s (want_tree sh places left) (says_tree (leaf_of denom weights)))
closes_leaf c s sh places left denom weights before i line range opens (inl g) st keeps =
    let at = want_tree sh places left in
    by_item c i (Leaf denom true) (Closed c s at (says_tree (leaf_of denom weights))) g.2
    (record {
      may = (range.1, may_end_leaf c s sh places left before st keeps);
      leaves = λ new h.
          let r = begun_leaf c s sh places left denom h.sums st (keeps_at c s at before nothing g.1 keeps) h.begun in
          subst (λ l. Closed c s at (says_tree (leaf_of denom l)) new) (sym g.0)
          (close_leaf (leaf_with c h.sums None) s sh places left denom [] new line opens r.0 r.1 h.goes);
    })
closes_leaf c s sh places left denom weights before i line range opens (inr g) st keeps =
    let at = want_tree sh places left in
    let front = g.0 in
    let e = g.1 in
    let kept = keeps_at c s at before (some_weights denom front) g.3 keeps in
    let in_range = subst (λ l. IsLineInRange sh.size (leaf_of denom l)) g.2 range in
    let may = may_weight c s sh places left denom front e (some_weights denom front) st kept in_range in
    by_item c i (LeafPair e.0 e.1 true) (Closed c s at (says_tree (leaf_of denom weights))) g.4
    (record {
      may = may;
      leaves = λ new h.
          let w = weighed_as c h.kept s.cuts denom front e kept.1.sums_are may.least kept.3 h.weighed in
          let r = weighed_leaf c h.kept s sh places left denom front e st kept w in
          subst (λ l. Closed c s at (says_tree (leaf_of denom l)) new) (sym g.2)
          (close_leaf (leaf_with c w.sums w.failure) s sh places left denom (front ++ e ∷ []) new line opens r.0 r.1
          (subst (λ k. LeafEnds k new) w.is h.goes));
    })

pub closes : (at : Stage) (l : Line) (before : Part) (i : Item) (c : Checks) (s : Progress) → c.line ≡ s.line → Wants at l → Closing l before i
    → StandsFirm c s → Keeps c s at before → IsSafe c i (Closed c s at l)
closes want_version (says_version v) before i c s e w g st keeps =
    by_item c i (Version (version_of v)) (Closed c s want_version (says_version v)) g.1
    (record { may = tt; leaves = λ new h. close_version c s v new st (keeps_at c s want_version before nothing g.0 keeps) h })
closes (want_size v) (says_size n q) before i c s e w g st keeps =
    by_item c i (Size n q) (Closed c s (want_size v) (says_size n q)) g.1
    (record { may = tt; leaves = λ new h. close_size c s v n q new e st (keeps_at c s (want_size v) before nothing g.0 keeps) h })
closes (want_cost sh) (says_cost v) before i c s e w g st keeps =
    by_item c i (Cost v) (Closed c s (want_cost sh) (says_cost v)) g.1
    (record { may = tt; leaves = λ new h. close_cost c s sh v new st (keeps_at c s (want_cost sh) before nothing g.0 keeps) h })
closes (want_bound sh) (says_bound v) before i c s e w g st keeps =
    by_item c i (Bound v) (Closed c s (want_bound sh) (says_bound v)) g.1
    (record { may = tt; leaves = λ new h. close_bound c s sh v new e w st (keeps_at c s (want_bound sh) before nothing g.0 keeps) h })
closes (want_hubs sh) (says_hubs hubs) before i c s e w g st keeps = closes_hubs c s sh hubs before i e w g st keeps
closes (want_route sh t) (says_route commodity route) before i c s e w g st keeps =
    let at = want_route sh t in
    let kept = keeps_at c s at before nothing g.0 keeps in
    by_item c i (Route commodity.0 commodity.1 route.0 route.1) (Closed c s at (says_route commodity route)) g.1
    (record {
      may = may_route c s sh t commodity route kept w.0 w.1 w.2;
      leaves = λ new h. close_route c s sh t commodity route new e w.0 st kept h;
    })
closes (want_cuts sh) (says_cuts all) before i c s e w g st keeps =
    by_item c i (Cuts all) (Closed c s (want_cuts sh) (says_cuts all)) g.1
    (record { may = tt; leaves = λ new h. close_cuts c s sh all new st (keeps_at c s (want_cuts sh) before nothing g.0 keeps) h })
closes (want_cut sh all x) (says_cut number part) before i c s e w g st keeps =
    by_item c i (Cut number (part_of part) true) (Closed c s (want_cut sh all x) (says_cut number part)) g.1
    (record {
      may = may_cut sh.version part w.1;
      leaves = λ new h. close_cut c s sh all x number part new st (keeps_at c s (want_cut sh all x) before nothing g.0 keeps) h;
    })
closes (want_cut sh all x) (says_marked number part hubs) before i c s e w g st keeps =
    closes_mark c s sh all x number part hubs before i e w g st keeps
closes (want_dual sh all x t prior) (says_dual commodity run dual) before i c s e w g st keeps =
    closes_dual c s sh (want_dual sh all x t prior) t commodity run dual.a dual.u before i (s.mark ≡ None) (λ part k. k)
    (λ listed d new firm k h. close_dual (dual_with c listed) s sh all x t prior commodity run d new e w.0 w.1 firm k h) w.0 w.1 w.2 g st keeps
closes (want_proved sh all x t) (says_dual commodity run dual) before i c s e w g st keeps =
    let is_run = proved_run c s sh all x t before run st keeps w.1 in
    closes_dual c s sh (want_proved sh all x t) t commodity run dual.a dual.u before i (Marked c s) (λ part k. k)
    (λ listed d new firm k h. close_proved (dual_with c listed) s sh all x t commodity run d new e w.0 is_run w.1 firm k h) w.0 is_run w.2 g st keeps
closes (want_proof sh all x t) (says_proof proof) before i c s e w g st keeps = closes_proof c s sh all x t proof before i e w g st keeps
closes (want_nodes sh) (says_nodes all) before i c s e w g st keeps =
    by_item c i (Nodes all) (Closed c s (want_nodes sh) (says_nodes all)) g.1
    (record { may = tt; leaves = λ new h. close_nodes c s sh all new st (keeps_at c s (want_nodes sh) before nothing g.0 keeps) h })
closes (want_tree sh places left) (says_tree (branch_on k)) before i c s e w g st keeps =
    let at = want_tree sh places left in
    by_item c i (Branch k) (Closed c s at (says_tree (branch_on k))) g.1
    (record {
      may = may_fill c s sh places left before keeps;
      leaves = λ new h. close_branch c s sh places left k new e w.2 st (keeps_at c s at before nothing g.0 keeps) h;
    })
closes (want_tree sh places left) (says_tree (leaf_of denom weights)) before i c s e w g st keeps =
    closes_leaf c s sh places left denom weights before i e w.0 w.2 g st keeps
closes (want_tree sh places left) (says_tree no_hub) before i c s e w g st keeps =
    let at = want_tree sh places left in
    by_item c i Empty (Closed c s at (says_tree no_hub)) g.1
    (record {
      may = may_fill c s sh places left before keeps;
      leaves = λ new h. close_empty c s sh places left new e w.2 st (keeps_at c s at before nothing g.0 keeps) h;
    })
closes (want_tree sh places left) (says_tree (no_route commodity)) before i c s e w g st keeps =
    let at = want_tree sh places left in
    by_item c i (Block commodity.0 commodity.1) (Closed c s at (says_tree (no_route commodity))) g.1
    (record {
      may = may_block c s sh places left commodity before st keeps w.0.0 w.0.1;
      leaves = λ new h. close_block c s sh places left commodity new e w.2 st (keeps_at c s at before nothing g.0 keeps) h;
    })
closes (want_tree sh places left) (says_tree no_count) before i c s e w g st keeps =
    let at = want_tree sh places left in
    by_item c i Count (Closed c s at (says_tree no_count)) g.1
    (record {
      may = may_fill c s sh places left before keeps;
      leaves = λ new h. close_count c s sh places left new e w.2 st (keeps_at c s at before nothing g.0 keeps) h;
    })
closes want_end says_end before i c s e w g st keeps =
    by_item c i End (Closed c s want_end says_end) g.1 (record { may = tt; leaves = λ new h. close_end c s new st h })
closes at l before i c s e w g st keeps = absurd w
