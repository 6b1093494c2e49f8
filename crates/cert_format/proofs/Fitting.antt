-- What items in order give is in range.
use Rattle.std.proofs.Common.{◌≡◌, ℕ, ◌+◌, ◌-◌, ◌*◌, ◌<◌, ◌≤◌, false, nat_eq, Option, arith, List, [], ◌∷◌, ◌++◌, flat_map, inl, inr, append_assoc, append-nil, sym, ap, ◌∙◌, subst}
use Rattle.std.specs.List.{AllByRecursion}
use Rattle.std.proofs.lemmas.List.Elements.{All-weaker, recursion_from_All}
use Rattle.hub_spec.specs.Limits.{most_nodes}
use Rattle.core_spec.specs.CoreCuts.{Way}
use Rattle.hub_spec.specs.Cuts.{Prices}
use Rattle.hub_spec.proofs.SumLemmas.{by_test}
use Rattle.hub_spec.specs.Trees.{branch_on, leaf_of, no_hub, no_route, no_count}
use Rattle.hub_spec.specs.Ranges.{IsShort, IsAmount, IsDualInRange}
use Rattle.cert_spec.specs.Lines.{Item as Line, says_version, says_size, says_cost, says_bound, says_hubs, says_route, says_cuts, says_cut, says_marked, says_dual, says_proof, says_nodes, says_tree, says_end}
use Rattle.cert_spec.specs.Grammar.{Shape, Stage, want_version, want_size, want_end, want_cost, want_bound, want_hubs, want_cuts, want_nodes, want_route, want_cut, want_dual, want_proved, want_proof, want_tree, Wants, kept_dual, after_cut, after_dual, after_proof, after, Leads}
use Rattle.cert_scan.specs.Parts.{none_left, hub_parts, mark_parts, value_parts, way_parts, weight_parts, parts_of, open_hubs, open_mark, open_values, open_ways, open_weights}
use Rattle.cert_scan.specs.Given.{IsBegun, IsGiven}
use Rattle.cert_scan.specs.declared.items.Item.{Item}
use Rattle.cert_scan.specs.declared.items.Item.TheVariants.{Hub, Cut, CoreHub}
use Rattle.cert_format.specs.Gathered.{Gathered, Standing, at_start, settled, taken, taken_all, IsFit, IsShortItem, MayTake}
use Rattle.cert_format.proofs.Collecting.{taken_all-append, dual_at, proof_at, leaf_at, values_taken, ways_taken, weights_taken}

-- what was begun behind these parts is in range
abbrev Fits : Standing → Type 0
Fits s = IsFit s.begun

-- the text is of at most so many nodes, once it says how many
abbrev IsSmall : Stage → Type 0
IsSmall (want_cost sh) = sh.size ≤ most_nodes
IsSmall (want_bound sh) = sh.size ≤ most_nodes
IsSmall (want_hubs sh) = sh.size ≤ most_nodes
IsSmall (want_cuts sh) = sh.size ≤ most_nodes
IsSmall (want_nodes sh) = sh.size ≤ most_nodes
IsSmall (want_route sh t) = sh.size ≤ most_nodes
IsSmall (want_cut sh all x) = sh.size ≤ most_nodes
IsSmall (want_dual sh all x t before) = sh.size ≤ most_nodes
IsSmall (want_proved sh all x t) = sh.size ≤ most_nodes
IsSmall (want_proof sh all x t) = sh.size ≤ most_nodes
IsSmall (want_tree sh places left) = sh.size ≤ most_nodes
IsSmall stage = Unit {0}

small_cut : (sh : Shape) (all x : ℕ) → sh.size ≤ most_nodes → IsSmall (after_cut sh all x)
small_cut sh all x few = by_test (nat_eq x all) (λ e. rw e few) (λ e. rw e few)

small_dual : (sh : Shape) (all x t : ℕ) (before : Option Prices) → sh.size ≤ most_nodes → IsSmall (after_dual sh all x t before)
small_dual sh all x t before few = by_test (nat_eq t (sh.size * sh.size)) (λ e. rw e (small_cut sh all (x + 1) few)) (λ e. rw e few)

small_proof : (sh : Shape) (all x t : ℕ) → sh.size ≤ most_nodes → IsSmall (after_proof sh all x t)
small_proof sh all x t few = by_test (nat_eq t (sh.size * sh.size)) (λ e. rw e (small_cut sh all (x + 1) few)) (λ e. rw e few)

small_after : (stage : Stage) (l : Line) → Wants stage l → IsSmall stage → IsSmall (after stage l)
small_after want_version (says_version v) w few = tt
small_after (want_size v) (says_size n q) w few = w.1
small_after (want_cost sh) l w few = few
small_after (want_bound sh) l w few = few
small_after (want_hubs sh) l w few = few
small_after (want_route sh t) l w few = by_test (nat_eq (t + 1) (sh.size * sh.size)) (λ e. rw e few) (λ e. rw e few)
small_after (want_cuts sh) (says_cuts all) w few = small_cut sh all 0 few
small_after (want_cut sh all x) (says_cut number part) w few = few
small_after (want_cut sh all x) (says_marked number part hubs) w few = few
small_after (want_proved sh all x t) l w few = few
small_after (want_proof sh all x t) l w few = small_proof sh all x (t + 1) few
small_after (want_dual sh all x t before) (says_dual c run dual) w few = small_dual sh all x (t + run) (kept_dual sh (t + run) dual) few
small_after (want_nodes sh) (says_nodes all) w few = few
small_after (want_tree sh places left) (says_tree line) w few = by_test (nat_eq (left - 1) 0) (λ e. rw e tt) (λ e. rw e few)
small_after want_end says_end w few = tt
small_after stage l w few = absurd w

-- a dual between these nodes is one between so many
wider : (sh : Shape) (dual : Prices) → sh.size ≤ most_nodes → IsDualInRange sh.size dual → IsDualInRange most_nodes dual
wider sh dual few h = record {
  a = h.a;
  ascend = h.ascend;
  each = All-weaker (λ (e : ℕ × ℕ). (e.0 < sh.size) × (1 ≤ e.1) × IsAmount e.1) (λ (e : ℕ × ℕ). (e.0 < most_nodes) × (1 ≤ e.1) × IsAmount e.1)
      (λ e h. (let below : e.0 < most_nodes = omega (arith, few, h.0) in (below, h.1, h.2))) dual.u h.each;
}

-- ---- whole lines

fits_hubs : (s : Standing) (hubs : List ℕ) → Fits s → Fits (taken_all s (hub_parts hubs))
fits_hubs s [] h = h
fits_hubs s (k ∷ hubs) h = fits_hubs (taken s (Hub k (none_left hubs))) hubs tt

fits_mark : (s : Standing) (hubs : List ℕ) → Fits s → Fits (taken_all s (mark_parts hubs))
fits_mark s [] h = h
fits_mark s (k ∷ hubs) h = fits_mark (taken s (CoreHub k (none_left hubs))) hubs tt

fits_line : (stage : Stage) (l : Line) (s : Standing) → Wants stage l → IsSmall stage → Fits s → Fits (taken_all s (parts_of l))
fits_line want_version (says_version v) s w few h = tt
fits_line (want_size v) (says_size n q) s w few h = tt
fits_line (want_cost sh) (says_cost c) s w few h = tt
fits_line (want_bound sh) (says_bound b) s w few h = tt
fits_line (want_hubs sh) (says_hubs hubs) s w few h = fits_hubs s hubs h
fits_line (want_route sh t) (says_route c r) s w few h = tt
fits_line (want_cuts sh) (says_cuts all) s w few h = tt
fits_line (want_cut sh all x) (says_cut number part) s w few h = tt
fits_line (want_dual sh all x t before) (says_dual c run dual) s w few h =
    subst Fits (sym (values_taken (settled s) run dual.a [] dual.u)) (w.1.0, wider sh dual few w.2)
fits_line (want_cut sh all x) (says_marked number part hubs) s w few h = fits_mark (taken s (Cut number part false)) hubs tt
fits_line (want_proved sh all x t) (says_dual c run dual) s w few h =
    subst Fits (sym (values_taken (settled s) run dual.a [] dual.u)) (omega (arith, w.1), wider sh dual few w.2)
fits_line (want_proof sh all x t) (says_proof proof) s w few h =
    subst Fits (sym (ways_taken (settled s) proof.turns proof.scale [] proof.ways)) tt
fits_line (want_nodes sh) (says_nodes all) s w few h = tt
fits_line (want_tree sh places left) (says_tree (branch_on k)) s w few h = tt
fits_line (want_tree sh places left) (says_tree (leaf_of denom weights)) s w few h = subst Fits (sym (weights_taken (settled s) denom [] weights)) w.0
fits_line (want_tree sh places left) (says_tree no_hub) s w few h = tt
fits_line (want_tree sh places left) (says_tree (no_route commodity)) s w few h = tt
fits_line (want_tree sh places left) (says_tree no_count) s w few h = tt
fits_line want_end says_end s w few h = tt
fits_line stage l s w few h = absurd w

fits_lines : (stage : Stage) (ls : List Line) (last : Stage) (s : Standing) → Leads stage ls last → IsSmall stage → Fits s → Fits (taken_all s (flat_map parts_of ls))
fits_lines stage [] last s lead few h = h
fits_lines stage (l ∷ ls) last s lead few h =
    subst Fits (sym (taken_all-append s (parts_of l) (flat_map parts_of ls)))
    (fits_lines (after stage l) ls last (taken_all s (parts_of l)) lead.1 (small_after stage l lead.0 few) (fits_line stage l s lead.0 few h))

small_last : (stage : Stage) (ls : List Line) (last : Stage) → Leads stage ls last → IsSmall stage → IsSmall last
small_last stage [] last lead few = subst IsSmall lead few
small_last stage (l ∷ ls) last lead few = small_last (after stage l) ls last lead.1 (small_after stage l lead.0 few)

-- ---- a line that was begun

open_values_taken : (g : Gathered) (run a : ℕ) (u more : List (ℕ × ℕ)) → taken_all (dual_at g run a u) (open_values more) ≡ dual_at g run a (u ++ more)
open_values_taken g run a u [] = ap (dual_at g run a) (sym (append-nil u))
open_values_taken g run a u (e ∷ more) = open_values_taken g run a (u ++ e ∷ []) more ∙ ap (dual_at g run a) (append_assoc u (e ∷ []) more)

open_ways_taken : (g : Gathered) (turns scale : ℕ) (ws more : List Way)
    → taken_all (proof_at g turns scale ws) (open_ways more) ≡ proof_at g turns scale (ws ++ more)
open_ways_taken g turns scale ws [] = ap (proof_at g turns scale) (sym (append-nil ws))
open_ways_taken g turns scale ws (w ∷ more) =
    open_ways_taken g turns scale (ws ++ w ∷ []) more ∙ ap (proof_at g turns scale) (append_assoc ws (w ∷ []) more)

open_weights_taken : (g : Gathered) (denom : ℕ) (w more : List (ℕ × ℕ)) → taken_all (leaf_at g denom w) (open_weights more) ≡ leaf_at g denom (w ++ more)
open_weights_taken g denom w [] = ap (leaf_at g denom) (sym (append-nil w))
open_weights_taken g denom w (e ∷ more) = open_weights_taken g denom (w ++ e ∷ []) more ∙ ap (leaf_at g denom) (append_assoc w (e ∷ []) more)

fits_open_hubs : (s : Standing) (hubs : List ℕ) → Fits s → Fits (taken_all s (open_hubs hubs))
fits_open_hubs s [] h = h
fits_open_hubs s (k ∷ hubs) h = fits_open_hubs (taken s (Hub k false)) hubs tt

fits_open_mark : (s : Standing) (hubs : List ℕ) → Fits s → Fits (taken_all s (open_mark hubs))
fits_open_mark s [] h = h
fits_open_mark s (k ∷ hubs) h = fits_open_mark (taken s (CoreHub k false)) hubs tt

fits_begun : (stage : Stage) (more : List Item) (s : Standing) → IsBegun stage more → IsSmall stage → Fits s → Fits (taken_all s more)
fits_begun (want_hubs sh) more s b few h = subst (λ l. Fits (taken_all s l)) (sym b.are) (fits_open_hubs s b.hubs h)
fits_begun (want_cut sh all x) more s (inl none) few h = subst (λ l. Fits (taken_all s l)) (sym none) h
fits_begun (want_cut sh all x) more s (inr b) few h =
    subst (λ l. Fits (taken_all s l)) (sym b.are) (fits_open_mark (taken s (Cut (x + 1) b.part false)) b.hubs tt)
fits_begun (want_proved sh all x t) more s (inl none) few h = subst (λ l. Fits (taken_all s l)) (sym none) h
fits_begun (want_proved sh all x t) more s (inr b) few h =
    subst (λ l. Fits (taken_all s l)) (sym b.are)
    (subst Fits (sym (open_values_taken (settled s) 1 b.dual.a [] b.dual.u)) (omega arith, wider sh b.dual few b.in_range))
fits_begun (want_proof sh all x t) more s (inl none) few h = subst (λ l. Fits (taken_all s l)) (sym none) h
fits_begun (want_proof sh all x t) more s (inr b) few h =
    subst (λ l. Fits (taken_all s l)) (sym b.are) (subst Fits (sym (open_ways_taken (settled s) b.proof.turns b.proof.scale [] b.proof.ways)) tt)
fits_begun (want_dual sh all x t before) more s (inl none) few h = subst (λ l. Fits (taken_all s l)) (sym none) h
fits_begun (want_dual sh all x t before) more s (inr b) few h =
    subst (λ l. Fits (taken_all s l)) (sym b.are) (subst Fits (sym (open_values_taken (settled s) b.run b.dual.a [] b.dual.u)) (b.is_run.0, wider sh b.dual few b.in_range))
fits_begun (want_tree sh places left) more s (inl none) few h = subst (λ l. Fits (taken_all s l)) (sym none) h
fits_begun (want_tree sh places left) more s (inr b) few h =
    subst (λ l. Fits (taken_all s l)) (sym b.are) (subst Fits (sym (open_weights_taken (settled s) b.denom [] b.weights)) b.in_range)
fits_begun stage more s none few h = subst (λ l. Fits (taken_all s l)) (sym none) h

fits_given : (given : List Item) → IsGiven given → Fits (taken_all at_start given)
fits_given given g =
    let lines = flat_map parts_of g.lines in
    subst (λ l. Fits (taken_all at_start l)) (sym g.are)
    (subst Fits (sym (taken_all-append at_start lines g.more))
    (fits_begun g.stage g.more (taken_all at_start lines) g.begun (small_last want_version g.lines g.stage g.lead tt)
    (fits_lines want_version g.lines g.stage at_start g.lead tt tt)))

-- ---- the amounts of items

abbrev AreShort : List Item → Type 0
AreShort items = AllByRecursion IsShortItem items

short_append : (xs ys : List Item) → AreShort xs → AreShort ys → AreShort (xs ++ ys)
short_append [] ys h k = k
short_append (x ∷ xs) ys h k = (h.0, short_append xs ys h.1 k)

short_last : (xs : List Item) (x : Item) → AreShort (xs ++ x ∷ []) → IsShortItem x
short_last [] x h = h.0
short_last (y ∷ xs) x h = short_last xs x h.1

short_hubs : (hubs : List ℕ) → AreShort (hub_parts hubs)
short_hubs [] = tt
short_hubs (k ∷ hubs) = (tt, short_hubs hubs)

short_mark : (hubs : List ℕ) → AreShort (mark_parts hubs)
short_mark [] = tt
short_mark (k ∷ hubs) = (tt, short_mark hubs)

short_ways : (ways : List Way) → AreShort (way_parts ways)
short_ways [] = tt
short_ways (w ∷ ways) = (tt, short_ways ways)

-- a value of a dual, and a weight of a leaf
abbrev IsValue : ℕ → ℕ × ℕ → Type 0
IsValue n e = (e.0 < n) × (1 ≤ e.1) × IsAmount e.1

abbrev IsWeight : ℕ × ℕ → Type 0
IsWeight e = (1 ≤ e.0) × IsShort e.0 × (1 ≤ e.1) × IsShort e.1

short_values : (n : ℕ) (u : List (ℕ × ℕ)) → AllByRecursion (IsValue n) u → AreShort (value_parts u)
short_values n [] h = tt
short_values n (e ∷ u) h = (h.0.2, short_values n u h.1)

short_weights : (w : List (ℕ × ℕ)) → AllByRecursion IsWeight w → AreShort (weight_parts w)
short_weights [] h = tt
short_weights (e ∷ w) h = ((h.0.1, h.0.3), short_weights w h.1)

short_line : (stage : Stage) (l : Line) → Wants stage l → AreShort (parts_of l)
short_line want_version (says_version v) w = (tt, tt)
short_line (want_size v) (says_size n q) w = (tt, tt)
short_line (want_cost sh) (says_cost c) w = (tt, tt)
short_line (want_bound sh) (says_bound b) w = (tt, tt)
short_line (want_hubs sh) (says_hubs hubs) w = short_hubs hubs
short_line (want_route sh t) (says_route c r) w = (tt, tt)
short_line (want_cuts sh) (says_cuts all) w = (tt, tt)
short_line (want_cut sh all x) (says_cut number part) w = (tt, tt)
short_line (want_dual sh all x t before) (says_dual c run dual) w =
    (tt, short_values sh.size dual.u (recursion_from_All (IsValue sh.size) dual.u w.2.each))
short_line (want_cut sh all x) (says_marked number part hubs) w = (tt, short_mark hubs)
short_line (want_proved sh all x t) (says_dual c run dual) w =
    (tt, short_values sh.size dual.u (recursion_from_All (IsValue sh.size) dual.u w.2.each))
short_line (want_proof sh all x t) (says_proof proof) w = (tt, short_ways proof.ways)
short_line (want_nodes sh) (says_nodes all) w = (tt, tt)
short_line (want_tree sh places left) (says_tree (branch_on k)) w = (tt, tt)
short_line (want_tree sh places left) (says_tree (leaf_of denom weights)) w = (tt, short_weights weights (recursion_from_All IsWeight weights w.0.2.each))
short_line (want_tree sh places left) (says_tree no_hub) w = (tt, tt)
short_line (want_tree sh places left) (says_tree (no_route commodity)) w = (tt, tt)
short_line (want_tree sh places left) (says_tree no_count) w = (tt, tt)
short_line want_end says_end w = (tt, tt)
short_line stage l w = absurd w

short_lines : (stage : Stage) (ls : List Line) (last : Stage) → Leads stage ls last → AreShort (flat_map parts_of ls)
short_lines stage [] last lead = tt
short_lines stage (l ∷ ls) last lead =
    short_append (parts_of l) (flat_map parts_of ls) (short_line stage l lead.0) (short_lines (after stage l) ls last lead.1)

short_open_hubs : (hubs : List ℕ) → AreShort (open_hubs hubs)
short_open_hubs [] = tt
short_open_hubs (k ∷ hubs) = (tt, short_open_hubs hubs)

short_open_values : (n : ℕ) (u : List (ℕ × ℕ)) → AllByRecursion (IsValue n) u → AreShort (open_values u)
short_open_values n [] h = tt
short_open_values n (e ∷ u) h = (h.0.2, short_open_values n u h.1)

short_open_weights : (w : List (ℕ × ℕ)) → AllByRecursion IsWeight w → AreShort (open_weights w)
short_open_weights [] h = tt
short_open_weights (e ∷ w) h = ((h.0.1, h.0.3), short_open_weights w h.1)

short_open_mark : (hubs : List ℕ) → AreShort (open_mark hubs)
short_open_mark [] = tt
short_open_mark (k ∷ hubs) = (tt, short_open_mark hubs)

short_open_ways : (ways : List Way) → AreShort (open_ways ways)
short_open_ways [] = tt
short_open_ways (w ∷ ways) = (tt, short_open_ways ways)

short_begun : (stage : Stage) (more : List Item) → IsBegun stage more → AreShort more
short_begun (want_hubs sh) more b = subst AreShort (sym b.are) (short_open_hubs b.hubs)
short_begun (want_cut sh all x) more (inl none) = subst AreShort (sym none) tt
short_begun (want_cut sh all x) more (inr b) = subst AreShort (sym b.are) (tt, short_open_mark b.hubs)
short_begun (want_proved sh all x t) more (inl none) = subst AreShort (sym none) tt
short_begun (want_proved sh all x t) more (inr b) =
    subst AreShort (sym b.are) (tt, short_open_values sh.size b.dual.u (recursion_from_All (IsValue sh.size) b.dual.u b.in_range.each))
short_begun (want_proof sh all x t) more (inl none) = subst AreShort (sym none) tt
short_begun (want_proof sh all x t) more (inr b) = subst AreShort (sym b.are) (tt, short_open_ways b.proof.ways)
short_begun (want_dual sh all x t before) more (inl none) = subst AreShort (sym none) tt
short_begun (want_dual sh all x t before) more (inr b) =
    subst AreShort (sym b.are) (tt, short_open_values sh.size b.dual.u (recursion_from_All (IsValue sh.size) b.dual.u b.in_range.each))
short_begun (want_tree sh places left) more (inl none) = subst AreShort (sym none) tt
short_begun (want_tree sh places left) more (inr b) =
    subst AreShort (sym b.are) (tt, short_open_weights b.weights (recursion_from_All IsWeight b.weights b.in_range.2.each))
short_begun stage more none = subst AreShort (sym none) tt

short_given : (given : List Item) → IsGiven given → AreShort given
short_given given g =
    subst AreShort (sym g.are)
    (short_append (flat_map parts_of g.lines) g.more (short_lines want_version g.lines g.stage g.lead) (short_begun g.stage g.more g.begun))

-- ---- the next item

pub may_take : (given : List Item) (item : Item) (s : Standing) → s ≡ taken_all at_start given → IsGiven given → IsGiven (given ++ item ∷ []) → MayTake s item
may_take given item s e before after = record {
  fits = subst Fits (sym e) (fits_given given before);
  short = short_last given item (short_given (given ++ item ∷ []) after);
}
