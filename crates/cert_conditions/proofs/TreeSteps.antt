-- The items of the tree.
use Rattle.std.proofs.Common.{◌≡◌, ◌≢◌, ℕ, zero, suc, ◌+◌, ◌-◌, ◌*◌, ◌/◌, ◌<◌, ◌≤◌, List, [], ◌∷◌, ◌++◌, length, get_or, Option, Some, None, MatchOption, All, Contains, inl, inr, refl, sym, ap, ap₂, subst, ◌∙◌, arith, ⊎_elim}
use Rattle.std.specs.List.{AllZip}
use Rattle.std.proofs.lemmas.List.Sums.{sum_by_push}
use Rattle.std.proofs.lemmas.List.Elements.{All-push, All-nil, All-cons, All-head, All-tail}
use Rattle.std.proofs.lemmas.Slice.Zip.{AllZip-long}
use Rattle.hub_spec.specs.Problem.{Problem, IsProblem}
use Rattle.hub_spec.specs.Cuts.{Cut, cut_by, total, load}
use Rattle.hub_spec.specs.Trees.{Branching, root, open_child, closed_child, IsBranch, IsClosed, IsBlocked, cut_at, share, IsMultiple, weight_sum, HasRoom, LacksRoom, leaf_bound, Closes, TreeLine, branch_on, leaf_of, no_hub, no_route, no_count}
use Rattle.hub_spec.proofs.ChildLists.{root_branch, open_branch, closed_branch}
use Rattle.cert_spec.specs.Lines.{says_nodes, says_tree, says_end}
use Rattle.cert_spec.specs.Grammar.{Shape, want_nodes, want_tree, want_end, IsOpen, places_after, after_tree}
use Rattle.cert_spec.specs.Conditions.{Kind, Claim, claim, AllHold, Empty, Block, Count, CutNumber, Multiple, Weight, Leaf, tree_conditions}
use Rattle.cert_spec.specs.Progress.{Progress, filled}
use Rattle.cert_conditions.specs.declared.kinds.Kind as code
use Rattle.cert_lines.specs.Trails.{undecided}
use Rattle.cert_lines.specs.Paths.{next, behind_next}
use Rattle.cert_lines.specs.Tallies.{Tally, IsMultipleOf, IsBegun, IsAdded, tally_bound, AreSumsOf}
use Rattle.cert_lines.proofs.TallyBounds.{bounds_leaf}
use Rattle.cert_conditions.specs.Sums.{CutTally, no_sums, numbered}
use Rattle.cert_conditions.specs.Steps.{Tried, ended, Ends, rooted, branched, path_filled, BranchTaken, empty_tests, block_tests, count_tests, leaf_with, LeafFound, LeafEnds, no_multiple, IsWeighed, no_cut, not_multiple, failed, too_much, added}
use Rattle.cert_conditions.specs.Taken.{nothing, some_weights, StandsFirm, AreSumsOfCut, AreCutSums, TreeStands, AreNumbers, WeightsStand, Sized, Cutted, Keeps}
use Rattle.cert_conditions.specs.declared.checks.Checks.{Checks}
use Rattle.cert_conditions.proofs.Lists.{all_front, all_last}
use Rattle.cert_conditions.proofs.Counting.{tree_cases}
use Rattle.cert_conditions.proofs.Trying.{tried_behind, tried_one}
use Rattle.cert_conditions.proofs.Kept.{Closed}

pub close_nodes : (c : Checks) (s : Progress) (sh : Shape) (all : ℕ) (new : Checks) → StandsFirm c s → Keeps c s (want_nodes sh) nothing
    → new ≡ ended (rooted c) None → Closed c s (want_nodes sh) (says_nodes all) new
close_nodes c s sh all new st k h =
    let p = c.instance.now in
    record {
      kept = rooted c;
      found = None;
      is = h;
      same = refl;
      line_is = refl;
      tried = tt;
      keeps = λ held. (
        st,
        (
          k.0,
          k.1,
          record {
            are = ap (λ (l : List ℕ). undecided l ∷ []) st.candidates_are;
            count = refl;
            some = omega arith;
            branches = All-cons (IsBranch p) (root p) [] (root_branch p st.problem) (All-nil (IsBranch p));
          },
          tt,
        ),
      );
    }

pub close_end : (c : Checks) (s : Progress) (new : Checks) → StandsFirm c s → new ≡ ended c None → Closed c s want_end says_end new
close_end c s new st h = record { kept = c; found = None; is = h; same = refl; line_is = refl; tried = tt; keeps = λ held. (st, tt) }

-- ---- the next branch

pub some_next : (b : List Branching) → 1 ≤ length b → (x : Branching) × (rest : List Branching) × (b ≡ x ∷ rest)
some_next [] h = absurd (omega arith)
some_next (x ∷ rest) h = (x, rest, refl)

open_some : (places left : ℕ) → IsOpen places left → 0 < left → 1 ≤ places
open_some zero left opens some = absurd (let e : left ≡ 0 = opens.1 refl in omega arith)
open_some (suc places) left opens some = omega arith

count_behind : (l : List Branching) (x : Branching) (rest : List Branching) (places : ℕ) → l ≡ x ∷ rest → length l ≡ places → length rest + 1 ≡ places
count_behind l x rest places e h = omega (arith, ap length e)

-- where these are to be filled after a line, and the path has them
tree_kept : (kept : Checks) (s : Progress) (sh : Shape) (places left : ℕ) (pending : List Branching) → StandsFirm kept s → Sized kept s sh
    → Cutted kept s → s.pending ≡ pending → kept.path.pending ≡ pending → length pending ≡ places → All (IsBranch kept.instance.now) pending
    → IsOpen places left → StandsFirm kept s × Keeps kept s (after_tree sh places left) nothing
tree_kept kept s sh places left pending st sized cuts said path count branches opens = (
  st,
  tree_cases (λ g. Keeps kept s g nothing) sh places left tt (λ some. (
    sized,
    cuts,
    record {
      are = path ∙ sym said;
      count = ap length said ∙ count;
      some = open_some places left opens some;
      branches = subst (All (IsBranch kept.instance.now)) (sym said) branches;
    },
    tt,
  )),
)

pub close_branch : (c : Checks) (s : Progress) (sh : Shape) (places left k : ℕ) (new : Checks) → c.line ≡ s.line
    → IsOpen (places_after places (branch_on k)) (left - 1) → StandsFirm c s → Keeps c s (want_tree sh places left) nothing → BranchTaken c k new
    → Closed c s (want_tree sh places left) (says_tree (branch_on k)) new
close_branch c s sh places left k new e opens st keeps h =
    let p = c.instance.now in
    let tree = keeps.2 in
    let n = some_next s.pending (omega (arith, tree.count, tree.some)) in
    let b = n.0 in
    let rest = n.1 in
    let path : c.path.pending ≡ b ∷ rest = tree.are ∙ n.2 in
    let branches : All (IsBranch p) (b ∷ rest) = subst (All (IsBranch p)) n.2 tree.branches in
    let here : IsBranch p b = All-head (IsBranch p) b rest branches in
    let count : length rest + 1 ≡ places = count_behind s.pending b rest places n.2 tree.count in
    let as_next : Contains (next c.path.pending).free k → Contains b.free k = subst (λ l. Contains (next l).free k) path in
    let to_next : Contains b.free k → Contains (next c.path.pending).free k = subst (λ l. Contains (next l).free k) (sym path) in
    let after_it : Progress = record s { line = s.line + 1; pending = filled s.pending (branch_on k) } in
    ⊎_elim (λ free. record {
      kept = branched c k;
      found = None;
      is = free.1;
      same = refl;
      line_is = refl;
      tried = subst (λ l. AllHold (tree_conditions p s l (branch_on k))) (sym n.2) (as_next free.0, tt);
      keeps = λ held. tree_kept (branched c k) after_it sh (places + 1) (left - 1) (open_child b k ∷ closed_child b k ∷ rest) st keeps.0 keeps.1
          (ap (λ l. filled l (branch_on k)) n.2)
          (ap (λ l. open_child (next l) k ∷ closed_child (next l) k ∷ behind_next l) path)
          (omega (arith, count))
          (All-cons (IsBranch p) (open_child b k) (closed_child b k ∷ rest) (open_branch p b k here (as_next free.0))
          (All-cons (IsBranch p) (closed_child b k) rest (closed_branch p b k here (as_next free.0)) (All-tail (IsBranch p) b rest branches)))
          opens;
    })
    (λ taken. record {
      kept = c;
      found = Some code.TheVariants.Branch;
      is = taken.1;
      same = refl;
      line_is = refl;
      tried = subst (λ l. Tried (tree_conditions p s l (branch_on k)) (Some code.TheVariants.Branch) c.line) (sym n.2)
          (inl ((λ free. taken.0 (to_next free)), refl, sym e));
      keeps = λ held. absurd (taken.0 (to_next (subst (λ l. AllHold (tree_conditions p s l (branch_on k))) n.2 held).0));
    })
    h

-- the path behind its next branch
filled_kept : (c : Checks) (s : Progress) (sh : Shape) (places left : ℕ) (l : TreeLine) (b : Branching) (rest : List Branching)
    → StandsFirm c s → Sized c s sh → Cutted c s → TreeStands c.instance.now s.pending c.path.pending places → s.pending ≡ b ∷ rest
    → filled (b ∷ rest) l ≡ rest → IsOpen (places - 1) (left - 1)
    → StandsFirm (path_filled c) (record s { line = s.line + 1; pending = filled s.pending l })
    × Keeps (path_filled c) (record s { line = s.line + 1; pending = filled s.pending l }) (after_tree sh (places - 1) (left - 1)) nothing
filled_kept c s sh places left l b rest st sized cuts tree e fills opens =
    let p = c.instance.now in
    tree_kept (path_filled c) (record s { line = s.line + 1; pending = filled s.pending l }) sh (places - 1) (left - 1) rest st sized cuts
    (ap (λ x. filled x l) e ∙ fills) (ap behind_next (tree.are ∙ e))
    (let count : length rest + 1 ≡ places = count_behind s.pending b rest places e tree.count in omega arith)
    (All-tail (IsBranch p) b rest (subst (All (IsBranch p)) e tree.branches)) opens

-- a line that fills the next branch, with one condition on it
close_filled : (c : Checks) (s : Progress) (sh : Shape) (places left : ℕ) (l : TreeLine) (kind : Kind) (P : Branching → Type 0) (new : Checks)
    → c.line ≡ s.line → IsOpen (places - 1) (left - 1) → StandsFirm c s → Keeps c s (want_tree sh places left) nothing
    → ((b : Branching) (rest : List Branching) → tree_conditions c.instance.now s (b ∷ rest) l ≡ claim kind s.line (P b) ∷ [])
    → ((b : Branching) (rest : List Branching) → filled (b ∷ rest) l ≡ rest) → places_after places l ≡ places - 1
    → Ends (claim kind c.line (P (next c.path.pending)) ∷ []) (path_filled c) new → Closed c s (want_tree sh places left) (says_tree l) new
close_filled c s sh places left l kind P new e opens st keeps conditions fills places_are h =
    let tree = keeps.2 in
    let n = some_next s.pending (omega (arith, tree.count, tree.some)) in
    let path : c.path.pending ≡ n.0 ∷ n.1 = tree.are ∙ n.2 in
    let after_it : Progress = record s { line = s.line + 1; pending = filled s.pending l } in
    record {
      kept = path_filled c;
      found = h.found;
      is = h.is;
      same = refl;
      line_is = refl;
      tried = subst (λ (cs : List Claim). Tried cs h.found c.line) (sym (ap (λ x. tree_conditions c.instance.now s x l) n.2 ∙ conditions n.0 n.1))
          (tried_one kind c.line s.line c.line (P (next c.path.pending)) (P n.0) h.found e
          (subst (λ x. P (next x)) path) (subst (λ x. P (next x)) (sym path)) h.tried);
      keeps = λ held. subst (λ m. StandsFirm (path_filled c) after_it × Keeps (path_filled c) after_it (after_tree sh m (left - 1)) nothing) (sym places_are)
          (filled_kept c s sh places left l n.0 n.1 st keeps.0 keeps.1 tree n.2 (fills n.0 n.1) opens);
    }

pub close_empty : (c : Checks) (s : Progress) (sh : Shape) (places left : ℕ) (new : Checks) → c.line ≡ s.line
    → IsOpen (places - 1) (left - 1) → StandsFirm c s → Keeps c s (want_tree sh places left) nothing → Ends (empty_tests c) (path_filled c) new
    → Closed c s (want_tree sh places left) (says_tree no_hub) new
close_empty c s sh places left new e opens st keeps h =
    close_filled c s sh places left no_hub Empty IsClosed new e opens st keeps (λ b rest. refl) (λ b rest. refl) refl h

pub close_block : (c : Checks) (s : Progress) (sh : Shape) (places left : ℕ) (commodity : ℕ × ℕ) (new : Checks) → c.line ≡ s.line
    → IsOpen (places - 1) (left - 1) → StandsFirm c s → Keeps c s (want_tree sh places left) nothing → Ends (block_tests c commodity) (path_filled c) new
    → Closed c s (want_tree sh places left) (says_tree (no_route commodity)) new
close_block c s sh places left commodity new e opens st keeps h =
    close_filled c s sh places left (no_route commodity) Block (λ b. IsBlocked c.instance.now b commodity) new e opens st keeps (λ b rest. refl)
    (λ b rest. refl) refl h

pub close_count : (c : Checks) (s : Progress) (sh : Shape) (places left : ℕ) (new : Checks) → c.line ≡ s.line
    → IsOpen (places - 1) (left - 1) → StandsFirm c s → Keeps c s (want_tree sh places left) nothing → Ends (count_tests c) (path_filled c) new
    → Closed c s (want_tree sh places left) (says_tree no_count) new
close_count c s sh places left new e opens st keeps h =
    close_filled c s sh places left no_count Count (LacksRoom c.instance.now.wanted) new e opens st keeps (λ b rest. refl) (λ b rest. refl) refl h

-- ---- the weights of a leaf

no_weights : (n : ℕ) (cuts : List Cut) (denom : ℕ) (sums : Tally) → IsBegun denom n sums → AreSumsOf n cuts denom [] sums
no_weights n cuts denom sums h = record {
  denom_is = h.denom_is;
  weight_is = h.weight_is;
  base_is = h.base_is;
  count = h.count;
  loads_are = h.loads_are;
}

weight_more : (n : ℕ) (cuts : List Cut) (denom : ℕ) (weights : List (ℕ × ℕ)) (e : ℕ × ℕ) (loads : List ℕ) (part sum : ℕ) (sums later : Tally)
    → AreSumsOf n cuts denom weights sums → part ≡ (cut_at cuts e.0).part → sum ≡ total (cut_at cuts e.0)
    → ((k : ℕ) → get_or loads k 0 ≡ load (cut_at cuts e.0) k) → IsAdded sums e.1 part sum loads later
    → AreSumsOf n cuts denom (weights ++ e ∷ []) later
weight_more n cuts denom weights e loads part sum sums later h parts totals each a =
    let times : e.1 / part ≡ share cuts e = ap (λ x. e.1 / x) parts in
    record {
      denom_is = a.denom_is ∙ h.denom_is;
      weight_is = omega (arith, a.weight_is, h.weight_is, sum_by_push (λ (e : ℕ × ℕ). e.1) weights e);
      base_is = a.base_is ∙ ap₂ (λ x y. x + y) h.base_is (ap₂ (λ x y. x * y) times totals)
          ∙ sym (sum_by_push (λ (e : ℕ × ℕ). share cuts e * total (cut_at cuts e.0)) weights e);
      count = a.count ∙ h.count;
      loads_are = λ k below. a.loads_are k (omega (arith, h.count)) ∙ ap₂ (λ x y. x + y) (h.loads_are k below) (ap₂ (λ x y. x * y) times (each k))
          ∙ sym (sum_by_push (λ (e : ℕ × ℕ). share cuts e * load (cut_at cuts e.0) k) weights e);
    }

-- what the leaf's sums are after a weight, and what failed
pub record IsWeighedAs (c : Checks) (cuts : List Cut) (denom : ℕ) (weights : List (ℕ × ℕ)) (kept : Checks) : Type 0 where
  pub sums : Tally
  pub failure : Option code.Kind
  pub is : kept ≡ leaf_with c sums failure
  pub long : length sums.loads ≡ length c.leaf.loads
  pub stands : WeightsStand c.instance.now cuts sums denom weights failure

-- the weight of one more pair
pushed_weight : (weights : List (ℕ × ℕ)) (e : ℕ × ℕ) → weight_sum (weights ++ e ∷ []) ≡ weight_sum weights + e.1
pushed_weight weights e = sum_by_push (λ (e : ℕ × ℕ). e.1) weights e

-- the numbers with one more
numbers_more : (cuts : List Cut) (weights : List (ℕ × ℕ)) (e : ℕ × ℕ) → AreNumbers cuts weights → e.0 ≤ length cuts → AreNumbers cuts (weights ++ e ∷ [])
numbers_more cuts weights e h within = All-push (λ (e : ℕ × ℕ). e.0 ≤ length cuts) weights e h within

still_failed : (p : Problem) (cuts : List Cut) (sums : Tally) (denom : ℕ) (weights : List (ℕ × ℕ)) (e : ℕ × ℕ) (f : Option code.Kind) → f ≢ None
    → e.0 ≤ length cuts → IsMultiple cuts e → WeightsStand p cuts sums denom weights f → WeightsStand p cuts sums denom (weights ++ e ∷ []) f
still_failed p cuts sums denom weights e None some within is h = absurd (some refl)
still_failed p cuts sums denom weights e (Some code.TheVariants.Weight) some within is h = (
  numbers_more cuts weights e h.0 within,
  All-push (IsMultiple cuts) weights e h.1 is,
  omega (arith, h.2, pushed_weight weights e),
)
still_failed p cuts sums denom weights e (Some code.TheVariants.Multiple) some within is h =
    (numbers_more cuts weights e h.0 within, λ all. h.1 (all_front (IsMultiple cuts) weights e all))
still_failed p cuts sums denom weights e (Some code.TheVariants.CutNumber) some within is h =
    λ all. h (all_front (λ (e : ℕ × ℕ). e.0 ≤ length cuts) weights e all)
still_failed p cuts sums denom weights e (Some other) some within is h = absurd h

-- with a weight that is no multiple
none_multiple : (p : Problem) (cuts : List Cut) (sums : Tally) (denom : ℕ) (weights : List (ℕ × ℕ)) (e : ℕ × ℕ) (f : Option code.Kind)
    → e.0 ≤ length cuts → (IsMultiple cuts e → ⊥) → WeightsStand p cuts sums denom weights f
    → WeightsStand p cuts sums denom (weights ++ e ∷ []) (no_multiple f)
none_multiple p cuts sums denom weights e None within not h =
    (numbers_more cuts weights e h.0 within, λ all. not (all_last (IsMultiple cuts) weights e all))
none_multiple p cuts sums denom weights e (Some code.TheVariants.Weight) within not h =
    (numbers_more cuts weights e h.0 within, λ all. not (all_last (IsMultiple cuts) weights e all))
none_multiple p cuts sums denom weights e (Some code.TheVariants.Multiple) within not h =
    (numbers_more cuts weights e h.0 within, λ all. not (all_last (IsMultiple cuts) weights e all))
none_multiple p cuts sums denom weights e (Some code.TheVariants.CutNumber) within not h =
    λ all. h (all_front (λ (e : ℕ × ℕ). e.0 ≤ length cuts) weights e all)
none_multiple p cuts sums denom weights e (Some other) within not h = absurd h

zip_at : {A B : Type 0} (R : A → B → Type 0) (xs : List A) (ys : List B) (i : ℕ) (d : A) (e : B) → AllZip R xs ys → i < length xs
    → R (get_or xs i d) (get_or ys i e)
zip_at R [] [] i d e h below = absurd (omega arith)
zip_at R [] (y ∷ ys) i d e h below = absurd h
zip_at R (x ∷ xs) [] i d e h below = absurd h
zip_at R (x ∷ xs) (y ∷ ys) zero d e h below = h.0
zip_at R (x ∷ xs) (y ∷ ys) (suc i) d e h below = zip_at R xs ys i d e h.1 (omega arith)

pub cut_numbered : (p : Problem) (cuts : List Cut) (sums : List CutTally) (number : ℕ) → AreCutSums p cuts sums → 1 ≤ number → number ≤ length sums
    → AreSumsOfCut p (cut_at cuts number) (numbered sums number)
cut_numbered p cuts sums number h least most =
    zip_at (AreSumsOfCut p) cuts sums (number - 1) (cut_by []) no_sums h
    (omega (arith, AllZip-long (AreSumsOfCut p) cuts sums h))

pub weighed_as : (c kept : Checks) (cuts : List Cut) (denom : ℕ) (weights : List (ℕ × ℕ)) (e : ℕ × ℕ) → AreCutSums c.instance.now cuts c.cuts
    → 1 ≤ e.0 → WeightsStand c.instance.now cuts c.leaf denom weights c.leaf_failure → IsWeighed c e.0 e.1 kept
    → IsWeighedAs c cuts denom (weights ++ e ∷ []) kept
weighed_as c kept cuts denom weights e are least h (no_cut above is) = record {
  sums = c.leaf;
  failure = Some code.TheVariants.CutNumber;
  is = is;
  long = refl;
  stands = λ all. let x : e.0 ≤ length cuts = all_last (λ (e : ℕ × ℕ). e.0 ≤ length cuts) weights e all in
      absurd (omega (arith, AllZip-long (AreSumsOfCut c.instance.now) cuts c.cuts are));
}
weighed_as c kept cuts denom weights e are least h (not_multiple within not is) =
    let p = c.instance.now in
    let cut = cut_numbered p cuts c.cuts e.0 are least within in
    record {
      sums = c.leaf;
      failure = no_multiple c.leaf_failure;
      is = is;
      long = refl;
      stands = none_multiple p cuts c.leaf denom weights e c.leaf_failure (omega (arith, AllZip-long (AreSumsOfCut p) cuts c.cuts are))
          (λ m. not (subst (λ x. IsMultipleOf x e.1) (sym cut.are.part_is) m)) h;
    }
weighed_as c kept cuts denom weights e are least h (failed within multiple some is) =
    let p = c.instance.now in
    let cut = cut_numbered p cuts c.cuts e.0 are least within in
    record {
      sums = c.leaf;
      failure = c.leaf_failure;
      is = is;
      long = refl;
      stands = still_failed p cuts c.leaf denom weights e c.leaf_failure some (omega (arith, AllZip-long (AreSumsOfCut p) cuts c.cuts are))
          (subst (λ x. IsMultipleOf x e.1) cut.are.part_is multiple) h;
    }
weighed_as c kept cuts denom weights e are least h (too_much within multiple none above is) =
    let p = c.instance.now in
    let so_far = subst (WeightsStand p cuts c.leaf denom weights) none h in
    let cut = cut_numbered p cuts c.cuts e.0 are least within in
    record {
      sums = c.leaf;
      failure = Some code.TheVariants.Weight;
      is = is;
      long = refl;
      stands = (
        numbers_more cuts weights e so_far.0 (omega (arith, AllZip-long (AreSumsOfCut p) cuts c.cuts are)),
        All-push (IsMultiple cuts) weights e so_far.1 (subst (λ x. IsMultipleOf x e.1) cut.are.part_is multiple),
        omega (arith, so_far.3.denom_is, so_far.3.weight_is, pushed_weight weights e),
      );
    }
weighed_as c kept cuts denom weights e are least h (added sums within multiple none fits adds is) =
    let p = c.instance.now in
    let so_far = subst (WeightsStand p cuts c.leaf denom weights) none h in
    let cut = cut_numbered p cuts c.cuts e.0 are least within in
    record {
      sums = sums;
      failure = None;
      is = is ∙ ap (λ f. leaf_with c sums f) none;
      long = adds.count;
      stands = (
        numbers_more cuts weights e so_far.0 (omega (arith, AllZip-long (AreSumsOfCut p) cuts c.cuts are)),
        All-push (IsMultiple cuts) weights e so_far.1 (subst (λ x. IsMultipleOf x e.1) cut.are.part_is multiple),
        omega (arith, fits, so_far.3.denom_is, so_far.3.weight_is, pushed_weight weights e),
        weight_more p.size cuts denom weights e (numbered c.cuts e.0).loads (numbered c.cuts e.0).part (numbered c.cuts e.0).total c.leaf sums
            so_far.3 cut.are.part_is cut.are.total_is cut.are.loads_are adds,
      );
    }

-- ---- a leaf

-- with other sums of a leaf, as long
leaf_firm : (c : Checks) (s : Progress) (sums : Tally) (failure : Option code.Kind) → StandsFirm c s → length sums.loads ≡ length c.leaf.loads
    → StandsFirm (leaf_with c sums failure) s
leaf_firm c s sums failure st long = record {
  problem = st.problem;
  dual_is = st.dual_is;
  proof_is = st.proof_is;
  size_is = st.size_is;
  candidates_are = st.candidates_are;
  long = long ∙ st.long;
  cost_is = st.cost_is;
  bound_is = st.bound_is;
  short = st.short;
}

-- a leaf has begun
pub begun_leaf : (c : Checks) (s : Progress) (sh : Shape) (places left denom : ℕ) (sums : Tally) → StandsFirm c s
    → Keeps c s (want_tree sh places left) nothing → IsBegun denom (length c.leaf.loads) sums
    → StandsFirm (leaf_with c sums None) s × Keeps (leaf_with c sums None) s (want_tree sh places left) (some_weights denom [])
begun_leaf c s sh places left denom sums st k h = (
  leaf_firm c s sums None st h.count,
  (
    k.0,
    k.1,
    k.2,
    (
      All-nil (λ (e : ℕ × ℕ). e.0 ≤ length s.cuts),
      All-nil (IsMultiple s.cuts),
      omega arith,
      subst (λ n. AreSumsOf n s.cuts denom [] sums) st.long (no_weights (length c.leaf.loads) s.cuts denom sums h),
    ),
  ),
)

-- a weight more has come
pub weighed_leaf : (c kept : Checks) (s : Progress) (sh : Shape) (places left denom : ℕ) (weights : List (ℕ × ℕ)) (e : ℕ × ℕ) → StandsFirm c s
    → Keeps c s (want_tree sh places left) (some_weights denom weights) → (w : IsWeighedAs c s.cuts denom (weights ++ e ∷ []) kept)
    → StandsFirm (leaf_with c w.sums w.failure) s
    × Keeps (leaf_with c w.sums w.failure) s (want_tree sh places left) (some_weights denom (weights ++ e ∷ []))
weighed_leaf c kept s sh places left denom weights e st k w =
    (leaf_firm c s w.sums w.failure st w.long, (k.0, k.1, k.2, w.stands))

closes_same : (p : Problem) (cuts : List Cut) (denom : ℕ) (weights : List (ℕ × ℕ)) (b : Branching) (sums : Tally) (bound said : ℕ) (l : List Branching)
    → IsProblem p → IsBranch p b → AreSumsOf p.size cuts denom weights sums → bound ≡ said → next l ≡ b
    → Closes sums.denom bound (tally_bound p sums (next l)) ≡ Closes denom said (leaf_bound p cuts denom weights b)
closes_same p cuts denom weights b sums bound said l ok branch h e n =
    ap (λ x. Closes sums.denom bound (tally_bound p sums x)) n
    ∙ ap (λ x. Closes sums.denom bound x) (bounds_leaf p cuts denom weights b sums ok branch h)
    ∙ ap₂ (λ x y. Closes x y (leaf_bound p cuts denom weights b)) h.denom_is e

-- the conditions of a leaf from that of its weights' sum on, from that of their multiples on, and from that of their cuts
abbrev sum_claims : Problem → Progress → ℕ → List (ℕ × ℕ) → Branching → List Claim
sum_claims p s denom weights b =
    claim Weight s.line (weight_sum weights ≤ denom) ∷ claim Leaf s.line (Closes denom s.bound (leaf_bound p s.cuts denom weights b)) ∷ []

abbrev multiple_claims : Problem → Progress → ℕ → List (ℕ × ℕ) → Branching → List Claim
multiple_claims p s denom weights b = claim Multiple s.line (All (IsMultiple s.cuts) weights) ∷ sum_claims p s denom weights b

abbrev weight_claims : Problem → Progress → ℕ → List (ℕ × ℕ) → Branching → List Claim
weight_claims p s denom weights b = claim CutNumber s.line (AreNumbers s.cuts weights) ∷ multiple_claims p s denom weights b

weights_tried : (c : Checks) (s : Progress) (denom : ℕ) (weights : List (ℕ × ℕ)) (b : Branching) (rest : List Branching) (f found : Option code.Kind)
    → c.line ≡ s.line → StandsFirm c s → IsBranch c.instance.now b → c.path.pending ≡ b ∷ rest
    → WeightsStand c.instance.now s.cuts c.leaf denom weights f
    → MatchOption f
    (Tried (claim Leaf c.line (Closes c.leaf.denom c.bound (tally_bound c.instance.now c.leaf (next c.path.pending))) ∷ []) found c.line)
    (λ kind. found ≡ Some kind)
    → Tried (weight_claims c.instance.now s denom weights b) found c.line
weights_tried c s denom weights b rest None found e st branch path h t =
    let p = c.instance.now in
    let same = closes_same p s.cuts denom weights b c.leaf c.bound s.bound c.path.pending st.problem branch h.3 st.bound_is (ap next path) in
    tried_behind CutNumber s.line c.line (AreNumbers s.cuts weights) (multiple_claims p s denom weights b) found h.0
    (tried_behind Multiple s.line c.line (All (IsMultiple s.cuts) weights) (sum_claims p s denom weights b) found h.1
    (tried_behind Weight s.line c.line (weight_sum weights ≤ denom)
    (claim Leaf s.line (Closes denom s.bound (leaf_bound p s.cuts denom weights b)) ∷ []) found h.2
    (tried_one Leaf c.line s.line c.line (Closes c.leaf.denom c.bound (tally_bound p c.leaf (next c.path.pending)))
    (Closes denom s.bound (leaf_bound p s.cuts denom weights b)) found e (subst (λ (x : Type 0). x) same) (subst (λ (x : Type 0). x) (sym same)) t)))
weights_tried c s denom weights b rest (Some code.TheVariants.Weight) found e st branch path h t =
    subst (λ x. Tried (weight_claims c.instance.now s denom weights b) x c.line) (sym t)
    (inr (h.0, inr (h.1, inl ((λ (x : weight_sum weights ≤ denom). omega (arith, h.2)), refl, sym e))))
weights_tried c s denom weights b rest (Some code.TheVariants.Multiple) found e st branch path h t =
    subst (λ x. Tried (weight_claims c.instance.now s denom weights b) x c.line) (sym t) (inr (h.0, inl (h.1, refl, sym e)))
weights_tried c s denom weights b rest (Some code.TheVariants.CutNumber) found e st branch path h t =
    subst (λ x. Tried (weight_claims c.instance.now s denom weights b) x c.line) (sym t) (inl (h, refl, sym e))
weights_tried c s denom weights b rest (Some other) found e st branch path h t = absurd h

leaf_tried : (c : Checks) (s : Progress) (denom : ℕ) (weights : List (ℕ × ℕ)) (b : Branching) (rest : List Branching) (found : Option code.Kind)
    → c.line ≡ s.line → StandsFirm c s → IsBranch c.instance.now b → c.path.pending ≡ b ∷ rest
    → WeightsStand c.instance.now s.cuts c.leaf denom weights c.leaf_failure → LeafFound c found
    → Tried (tree_conditions c.instance.now s (b ∷ rest) (leaf_of denom weights)) found c.line
leaf_tried c s denom weights b rest found e st branch path h t =
    let p = c.instance.now in
    let room : HasRoom p.wanted (next c.path.pending) → HasRoom p.wanted b = subst (λ l. HasRoom p.wanted (next l)) path in
    let room_back : HasRoom p.wanted b → HasRoom p.wanted (next c.path.pending) = subst (λ l. HasRoom p.wanted (next l)) (sym path) in
    ⊎_elim
    (λ none. subst (λ x. Tried (tree_conditions p s (b ∷ rest) (leaf_of denom weights)) x c.line) (sym none.1)
    (inl ((λ has. none.0 (room_back has)), refl, sym e)))
    (λ some. tried_behind Count s.line c.line (HasRoom p.wanted b) (weight_claims p s denom weights b) found (room some.0)
    (weights_tried c s denom weights b rest c.leaf_failure found e st branch path h some.1))
    t

pub close_leaf : (c : Checks) (s : Progress) (sh : Shape) (places left denom : ℕ) (weights : List (ℕ × ℕ)) (new : Checks) → c.line ≡ s.line
    → IsOpen (places - 1) (left - 1) → StandsFirm c s → Keeps c s (want_tree sh places left) (some_weights denom weights) → LeafEnds c new
    → Closed c s (want_tree sh places left) (says_tree (leaf_of denom weights)) new
close_leaf c s sh places left denom weights new e opens st keeps h =
    let p = c.instance.now in
    let tree = keeps.2 in
    let n = some_next s.pending (omega (arith, tree.count, tree.some)) in
    let path : c.path.pending ≡ n.0 ∷ n.1 = tree.are ∙ n.2 in
    let branches : All (IsBranch p) (n.0 ∷ n.1) = subst (All (IsBranch p)) n.2 tree.branches in
    record {
      kept = path_filled c;
      found = h.found;
      is = h.is;
      same = refl;
      line_is = refl;
      tried = subst (λ l. Tried (tree_conditions p s l (leaf_of denom weights)) h.found c.line) (sym n.2)
          (leaf_tried c s denom weights n.0 n.1 h.found e st (All-head (IsBranch p) n.0 n.1 branches) path keeps.3 h.tried);
      keeps = λ held. filled_kept c s sh places left (leaf_of denom weights) n.0 n.1 st keeps.0 keeps.1 tree n.2 refl opens;
    }
