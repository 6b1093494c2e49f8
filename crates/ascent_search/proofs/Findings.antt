-- What a search found, as a certificate that holds.
use Rattle.std.proofs.Common.{◌≡◌, ℕ, ◌+◌, ◌^◌, ◌<◌, ◌≤◌, List, [], ◌∷◌, length, All, false, Option, None, Some, IfSome, ◌⊎◌, inl, inr, true≢false, refl, sym, ap, subst, ◌∙◌, arith}
use Rattle.std.specs.List.{AllZip}
use Rattle.std.proofs.lemmas.List.{length-map}
use Rattle.std.proofs.lemmas.List.Elements.{All-nil, All-cons, All-weaker, All-map}
use Rattle.std.proofs.lemmas.Slice.Zip.{AllZip-long}
use Rattle.hub_spec.specs.Limits.{most_cost}
use Rattle.hub_spec.specs.Problem.{Problem, IsProblem, commodities}
use Rattle.hub_spec.specs.Plans.{Plan, IsHubSet, HasWanted, IsSetCost, IsLeastRoute, IsPlan, plan_cost, NoPlanBelow}
use Rattle.hub_spec.specs.Cuts.{IsCut}
use Rattle.hub_spec.specs.Trees.{root, Tree, TreeLine, preorder, IsSound}
use Rattle.hub_spec.specs.Certificates.{Holds}
use Rattle.hub_spec.specs.Ranges.{IsCutInRange, IsFirstLine, IsLineInRange, IsInRange}
use Rattle.hub_spec.proofs.Commodities.{length_commodities}
use Rattle.hub_spec.proofs.Limits.{AreNodes, few_candidates, hubs_are_nodes, least_route_nodes, plan_cost_limit}
use Rattle.hub_spec.proofs.Preorders.{length-preorder}
use Rattle.hub_spec.proofs.SumLemmas.{by_test}
use Rattle.hub_spec.proofs.SetCosts.{plan_of_least, set_cost_is, one_set_cost}
use Rattle.hub_spec.proofs.Sets.{is_in, part_is_filter}
use Rattle.hub_spec.proofs.WeakDuality.{Agrees-root, tree_weak, no_plan_below_bound}
use Rattle.hub_model.specs.Lines.{tree_line_of}
use Rattle.search_spec.specs.States.{lesser}
use Rattle.search_spec.specs.Laws.{IsWantedSet}
use Rattle.search_spec.specs.Costs.{IsAtMostOf, first_hubs}
use Rattle.search_spec.specs.Findings.{AreWithin, IsSpent, IsEnough}
use Rattle.search_spec.proofs.FallingCosts.{least_to}
use Rattle.search_spec.proofs.Invariants.{lesser_least}
use Rattle.search_spec.specs.Walks.{Walks}
use Rattle.search_spec.proofs.Walking.{is_tree}
use Rattle.cut_pool.specs.Kept.{Kept, KeptList, kept_cut, kept_cuts, IsRemade, IsKeptFor}
use Rattle.cut_pool.specs.declared.found.Found.{Found}
use Rattle.cut_pool.specs.Findings.{lines_of, proof_of, IsUnlimited, AreRemade, IsVersionFor, IsProved}
use Rattle.cut_pool.proofs.KeptCutLaws.{kept_is_cut, kept_in_range}
use Rattle.cut_pool.proofs.Versions.{has_text}
use Rattle.ascent_search.specs.declared.task.SearchTask.{SearchTask}
use Rattle.ascent_search.specs.declared.progress.TreeProgress.{TreeProgress}
use Rattle.ascent_search.specs.Gaps.{most_gap, IsWithinGap}
use Rattle.ascent_search.specs.Progressing.{cuts_of, target_of, Says, AreFirstHubs, IsFirst, IsWantedAs, IsGoing, IsOver, IsBestBound}
use Rattle.ascent_search.proofs.Gaps.{all_within}
use Rattle.ascent_search.proofs.BestBounds.{tree_walks, walk_by}

-- the finding is what the search has at its end, with the least routes of the incumbent
pub record IsFoundOf (t : SearchTask) (s : TreeProgress) (found : Found) : Type 0 where
  pub cost : found.cost ≡ s.cost
  pub bound : found.bound ≡ target_of s
  pub hubs : found.plan.hubs ≡ s.hubs
  pub routes : AllZip (IsLeastRoute t.instance.now found.plan.hubs) (commodities t.instance.now.size) found.plan.routes
  pub cuts : found.cuts ≡ s.cuts
  pub lines : found.tree.items ≡ s.lines.items

-- its tree
record HasTree (p : Problem) (found : Found) : Type 0 where
  tree : Tree
  lines : preorder tree ≡ lines_of found.tree.items
  sound : IsSound p (kept_cuts p found.cuts.cuts) found.bound (root p) tree

found_tree : (t : SearchTask) (s : TreeProgress) (found : Found) → IsOver t s → IsFoundOf t s found → HasTree t.instance.now found
found_tree t s found over is =
    let p = t.instance.now in
    let walk : Walks p (kept_cuts p found.cuts.cuts) found.bound (root p ∷ []) (lines_of found.tree.items) [] =
    rw (is.cuts, is.bound, is.lines) over.walks in
    let tree = is_tree p (kept_cuts p found.cuts.cuts) found.bound (root p) (lines_of found.tree.items) walk in
    record { tree = tree.0; lines = tree.1; sound = tree.2 }

both_say : (target cost : ℕ) (left : Option ℕ) → target ≤ cost → Says target left → target ≤ lesser cost left
both_say target cost None less says = less
both_say target cost (Some low) less says = omega (arith, less, says)

module _ (t : SearchTask) (s : TreeProgress) (found : Found) (over : IsOver t s) (is : IsFoundOf t s found) where
  found_set : IsHubSet t.instance.now found.plan.hubs
  found_set = subst (IsHubSet t.instance.now) (sym is.hubs) over.going.hubs

  found_plan : IsPlan t.instance.now found.plan
  found_plan = plan_of_least t.instance.now found.plan.hubs found.plan.routes found_set is.routes

  found_cost : found.cost ≡ plan_cost t.instance.now found.plan
  found_cost =
      let p = t.instance.now in
      let is_cost : IsSetCost p found.plan.hubs s.cost = subst (λ (hs : List ℕ). IsSetCost p hs s.cost) (sym is.hubs) over.going.cost in
      is.cost ∙ one_set_cost p found.plan.hubs s.cost (plan_cost p found.plan) is_cost
      (set_cost_is p found.plan.hubs found.plan.routes found_set is.routes)

  found_kept : All (IsKeptFor t.instance.now) found.cuts.cuts
  found_kept = rw is.cuts over.going.kept.fit

  pub found_own : AreRemade found
  found_own = rw is.cuts over.going.own

  pub found_within : found.bound ≤ found.cost
  found_within = omega (arith, is.bound, is.cost, lesser_least s.cost s.left)

  found_are_cuts : All (IsCut t.instance.now) (kept_cuts t.instance.now found.cuts.cuts)
  found_are_cuts =
      let p = t.instance.now in
      All-map (IsCut p) (kept_cut p) found.cuts.cuts
      (All-weaker (IsKeptFor p) (λ (k : Kept). IsCut p (kept_cut p k)) (λ k fits. kept_is_cut p k over.going.problem fits)
      found.cuts.cuts found_kept)

  found_holds : (h : HasTree t.instance.now found) (version : ℕ)
      → Holds t.instance.now (proof_of version t.instance.now found h.tree)
  found_holds h version =
      let p = t.instance.now in
      record {
        size = refl;
        candidates = refl;
        bound = found_within;
        plan = found_plan;
        wanted = subst (HasWanted p) (sym is.hubs) over.going.wanted;
        cost = found_cost;
        cuts = found_are_cuts;
        tree = h.sound;
      }

  found_in_range : (h : HasTree t.instance.now found) (version : ℕ) → IsVersionFor t.instance.now found.cuts.cuts version
      → IsInRange (proof_of version t.instance.now found h.tree)
  found_in_range h version there =
      let p = t.instance.now in
      let ok = over.going.problem in
      let cost = plan_cost_limit p found.plan ok found_plan in
      let nodes = least_route_nodes p found.plan.hubs (commodities p.size) found.plan.routes ok.limits found_set is.routes in
      let lines : All (IsLineInRange p.size) (lines_of found.tree.items) = rw is.lines over.going.in_range in
      let first : IsUnlimited p → All IsFirstLine (lines_of found.tree.items) = λ any. rw is.lines (over.going.first_lines any) in
      record {
        version = has_text p found h.tree version ok found_kept
            (λ any. subst (All IsFirstLine) (sym h.lines) (first any)) there;
        some_node = ok.some_node;
        size = ok.size_limit;
        some_candidate = ok.some_candidate;
        candidates = few_candidates p.candidates p.size ok.candidates_ascend ok.candidates_are_nodes;
        cost = omega (arith, cost, found_cost);
        bound = omega (arith, cost, found_cost, found_within);
        some_hub = found_set.some_hub;
        hubs_ascend = found_set.ascend;
        hubs = hubs_are_nodes p found.plan.hubs ok.limits found_set;
        one_route_each = AllZip-long (IsLeastRoute p found.plan.hubs) (commodities p.size) found.plan.routes is.routes ∙ length_commodities p.size;
        routes = routes_are_nodes p.size (commodities p.size) found.plan.routes nodes;
        cut_count = omega (arith, length-map found.cuts.cuts (kept_cut p), ap (λ k. length k.cuts) is.cuts, over.going.few_cuts);
        cuts = All-map (IsCutInRange p.size) (kept_cut p) found.cuts.cuts
            (All-weaker (IsKeptFor p) (λ (k : Kept). IsCutInRange p.size (kept_cut p k)) (λ k fits. kept_in_range p k ok fits)
            found.cuts.cuts found_kept);
        line_count = omega (arith, length-preorder h.tree, ap length h.lines, length-map found.tree.items tree_line_of, ap length is.lines, over.going.few_lines);
        tree = subst (All (IsLineInRange p.size)) (sym h.lines) lines;
      }
    where
      routes_are_nodes : (n : ℕ) (cs rs : List (ℕ × ℕ)) → AllZip (AreNodes n) cs rs → All (λ (r : ℕ × ℕ). (r.0 < n) × (r.1 < n)) rs
      routes_are_nodes n [] [] are = All-nil (λ (r : ℕ × ℕ). (r.0 < n) × (r.1 < n))
      routes_are_nodes n [] (r ∷ rs) are = absurd are
      routes_are_nodes n (c ∷ cs) [] are = absurd are
      routes_are_nodes n (c ∷ cs) (r ∷ rs) are =
          All-cons (λ (x : ℕ × ℕ). (x.0 < n) × (x.1 < n)) r rs (are.0.first, are.0.last) (routes_are_nodes n cs rs are.1)

  pub found_proved : IsProved t.instance.now found
  found_proved =
      let h = found_tree t s found over is in
      record { fit = found_kept; tree = h.tree; lines = sym h.lines; in_range = found_in_range h; holds = found_holds h }

  pub found_below : NoPlanBelow t.instance.now found.bound
  found_below =
      let h = found_tree t s found over is in
      let p = t.instance.now in
      no_plan_below_bound p (proof_of 1 p found h.tree) over.going.problem (found_holds h 1)

  found_made : length found.tree.items ≡ s.made
  found_made = ap length is.lines ∙ over.lines

  pub found_allowed : AreWithin t.nodes (length found.tree.items)
  found_allowed = subst (AreWithin t.nodes) (sym found_made) over.going.allowed

  found_near : s.stopped ≡ false → IsWithinGap t.gap found.bound found.cost
  found_near goes = rw (is.bound, is.cost) (over.going.near goes)

  pub found_spent : found.bound < found.cost → IsSpent t.nodes (length found.tree.items) ⊎ IsWithinGap t.gap found.bound found.cost
  found_spent less =
      by_test s.stopped (λ stopped. inl (subst (IsSpent t.nodes) (sym found_made) (over.going.spent stopped)))
      (λ goes. inr (found_near goes))

  pub found_most : length found.tree.items + 1 ≤ 2 ^ (length t.instance.now.candidates + 1)
  found_most = omega (arith, found_made, over.most)

  pub found_enough : IsEnough (2 ^ (length t.instance.now.candidates + 1)) t.nodes → IsWithinGap t.gap found.bound found.cost
  found_enough enough = found_near (over.enough enough)

  pub found_whole : t.nodes ≡ None → IsWithinGap t.gap found.bound found.cost
  found_whole none = found_enough (subst (IsEnough (2 ^ (length t.instance.now.candidates + 1))) (sym none) tt)

  pub found_at_most : IsAtMostOf t.instance.now (first_hubs t.instance.now) found.cost
  found_at_most = rw is.cost over.going.at_most

  pub found_given : IsAtMostOf t.instance.now t.first.now found.cost
  found_given = rw is.cost over.going.given

  -- what the tree proves is at most what the plan costs, and what leaves say
  pub found_best : IsBestBound t.instance.now found
  found_best = λ target tree lines sound.
      (let p = t.instance.now in
      let cuts = kept_cuts p found.cuts.cuts in
      let walk : Walks p cuts target (root p ∷ []) (lines_of found.tree.items) [] =
      subst (λ (ls : List TreeLine). Walks p cuts target (root p ∷ []) ls []) (sym lines) (tree_walks p cuts target (root p) tree sound) in
      let proves : Walks p (cuts_of p s) target (root p ∷ []) (lines_of s.lines.items) [] =
      walk_by p target (root p ∷ []) [] cuts (cuts_of p s) (lines_of found.tree.items) (lines_of s.lines.items)
      (ap (λ (cs : KeptList). kept_cuts p cs.cuts) is.cuts) (ap lines_of is.lines) walk in
      let most : target ≤ plan_cost p found.plan =
      tree_weak p cuts target (root p) tree found.plan (is_in found.plan.hubs) found_plan (subst (HasWanted p) (sym is.hubs) over.going.wanted)
      found_are_cuts
      (part_is_filter p.candidates found.plan.hubs over.going.problem.candidates_ascend found_set.ascend found_set.are_candidates)
      (Agrees-root p (is_in found.plan.hubs)) sound in
      subst (λ (n : ℕ). target ≤ n) (sym is.bound)
      (both_say target s.cost s.left (omega (arith, most, found_cost, is.cost)) (over.best target ([], proves))))

-- the cost of a hub set is within the limit of costs
pub set_cost_within : (p : Problem) (hubs : List ℕ) (cost : ℕ) → IsProblem p → IsSetCost p hubs cost → cost ≤ most_cost
set_cost_within p hubs cost ok is =
    let plan = is.reached in omega (arith, plan.3, plan_cost_limit p plan.0 ok plan.1)

-- ---- the start

within_one : (n : Option ℕ) → AreWithin n 1
within_one None = tt
within_one (Some m) = λ some. some

pub begun_going : (t : SearchTask) (s : TreeProgress) → IsProblem t.instance.now → t.gap ≤ most_gap
    → s.cuts ≡ record { cuts = []; totals = []; loads = [] } → s.lines.items ≡ [] → IsFirst t s.hubs s.cost
    → s.made ≡ 1 → s.stopped ≡ false → s.left ≡ None → IsGoing t s
begun_going t s ok gap cuts lines first made stopped left =
    let p = t.instance.now in
    record {
      problem = ok;
      kept = rw cuts (record { fit = All-nil (IsKeptFor p); are_totals = refl; are_loads = refl });
      own = rw cuts (All-nil IsRemade);
      few_cuts = rw cuts (omega arith);
      few_lines = rw lines (omega arith);
      in_range = rw lines (All-nil (IsLineInRange p.size));
      first_lines = λ any. rw lines (All-nil IsFirstLine);
      hubs = first.set.is_set;
      wanted = first.set.wanted;
      cost = first.is_cost;
      at_most = first.at_most;
      given = first.given;
      cost_limit = set_cost_within p s.hubs s.cost ok first.is_cost;
      made = omega (arith, made);
      allowed = rw made (within_one t.nodes);
      spent = λ stop. absurd (true≢false (sym stop ∙ stopped));
      gap_limit = gap;
      near = λ goes. rw left (all_within t.gap s.cost s.cost (omega arith));
    }

-- the hubs with which each search begins, which cost so much
own_most : (p : Problem) (hubs : List ℕ) (cost : ℕ) → AreFirstHubs p hubs → IsSetCost p hubs cost → IsAtMostOf p (first_hubs p) cost
own_most p hubs cost first is_cost = λ set other is_other.
    omega (arith, one_set_cost p hubs cost other is_cost (subst (λ (hs : List ℕ). IsSetCost p hs other) (sym first.are) is_other))

-- what holds of the set that there may be holds of the set that there is
pub as_wanted : (p : Problem) (nodes : List ℕ) (told : Option (List ℕ)) (set : List ℕ) → told ≡ Some set → IfSome told (IsWantedAs p nodes)
    → IsWantedAs p nodes set
as_wanted p nodes told set is said = subst (λ (o : Option (List ℕ)). IfSome o (IsWantedAs p nodes)) is said

-- they are the first incumbent where the task's nodes are no hub set that is wanted
pub first_alone : (t : SearchTask) (hubs : List ℕ) (cost : ℕ) → AreFirstHubs t.instance.now hubs → IsSetCost t.instance.now hubs cost
    → (IsWantedSet t.instance.now t.first.now → ⊥) → IsFirst t hubs cost
first_alone t hubs cost first is_cost none = record {
  set = first.set;
  is_cost = is_cost;
  at_most = own_most t.instance.now hubs cost first is_cost;
  given = λ set other is_other. absurd (none set);
}

-- else these two are, whichever costs less
pub first_kept : (t : SearchTask) (hubs : List ℕ) (cost given : ℕ) → AreFirstHubs t.instance.now hubs → IsSetCost t.instance.now hubs cost
    → IsSetCost t.instance.now t.first.now given → cost ≤ given → IsFirst t hubs cost
first_kept t hubs cost given first is_cost is_given low = record {
  set = first.set;
  is_cost = is_cost;
  at_most = own_most t.instance.now hubs cost first is_cost;
  given = λ set other is_other. omega (arith, low, one_set_cost t.instance.now t.first.now given other is_given is_other);
}

pub given_first : (t : SearchTask) (hubs given : List ℕ) (cost less : ℕ) → AreFirstHubs t.instance.now hubs → IsSetCost t.instance.now hubs cost
    → given ≡ t.first.now → IsWantedSet t.instance.now given → IsSetCost t.instance.now given less → less ≤ cost → IsFirst t given less
given_first t hubs given cost less first is_cost same set is_less low =
    let p = t.instance.now in
    record {
      set = set;
      is_cost = is_less;
      at_most = least_to p (first_hubs p) less cost low (own_most p hubs cost first is_cost);
      given = λ other_set other is_other.
          omega (arith, one_set_cost p given less other is_less (subst (λ (hs : List ℕ). IsSetCost p hs other) (sym same) is_other));
    }

-- ---- the end

pub found_of : (t : SearchTask) (s : TreeProgress) (found : Found) (routes : List (ℕ × ℕ)) → found.cost ≡ s.cost → found.bound ≡ target_of s
    → found.plan ≡ record { hubs = s.hubs; routes = routes } → AllZip (IsLeastRoute t.instance.now s.hubs) (commodities t.instance.now.size) routes
    → found.cuts ≡ s.cuts → found.tree.items ≡ s.lines.items → IsFoundOf t s found
found_of t s found routes cost bound plan least cuts lines =
    let p = t.instance.now in
    record {
      cost = cost;
      bound = bound;
      hubs = ap (λ (x : Plan). x.hubs) plan;
      routes = subst (λ (x : Plan). AllZip (IsLeastRoute p x.hubs) (commodities p.size) x.routes) (sym plan) least;
      cuts = cuts;
      lines = lines;
    }
