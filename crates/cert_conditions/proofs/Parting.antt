-- Where the last item of some stands: in a line that goes on, or at the end of one.
use Rattle.std.proofs.Common.{◌≡◌, ℕ, ◌<◌, ◌≤◌, ◌^◌, true, false, List, [], ◌∷◌, ◌++◌, length, get_or, map, flat_map, All, ◌⊎◌, inl, inr, refl, sym, ap, subst, ◌∙◌, length-append, append_assoc, append-nil, arith}
use Rattle.std.specs.List.{AllPairs}
use Rattle.std.specs.List.Sorted.{IsStrictlyIncreasing}
use Rattle.std.proofs.Math.ListN.{get_or-append}
use Rattle.std.proofs.lemmas.List.{same_from_push, map-append}
use Rattle.std.proofs.lemmas.List.Concat.{flat_map-append}
use Rattle.hub_spec.specs.Trees.{branch_on, leaf_of, no_hub, no_route, no_count}
use Rattle.hub_spec.specs.Ranges.{IsDualInRange, IsLineInRange}
use Rattle.core_spec.specs.CoreCuts.{Way, CoreProof}
use Rattle.core_spec.specs.MarkRanges.{IsWayBefore, IsWayInRange, IsProofInRange}
use Rattle.cert_spec.specs.Lines.{part_of, Item as Line, says_version, says_size, says_cost, says_bound, says_hubs, says_route, says_cuts, says_cut, says_marked, says_dual, says_proof, says_nodes, says_tree, says_end}
use Rattle.cert_spec.specs.Grammar.{Shape, Stage, want_version, want_size, want_end, want_cost, want_bound, want_hubs, want_cuts, want_nodes, want_route, want_cut, want_dual, want_proved, want_proof, want_tree, Wants, after, Leads}
use Rattle.cert_scan.specs.Versions.{version_of}
use Rattle.cert_scan.specs.Parts.{parts_of, none_left, hub_parts, mark_parts, value_parts, way_parts, weight_parts, open_hubs, open_mark, open_values, open_ways, open_weights}
use Rattle.cert_scan.specs.declared.items.Item.{Item}
use Rattle.cert_scan.specs.declared.items.Item.TheVariants.{Version, Size, Cost, Bound, Hub, Route, Cuts, Cut, CoreHub, Dual, DualPair, Proof, ProofPair, Nodes, Branch, Leaf, LeafPair, Empty, Block, Count, End}
use Rattle.cert_conditions.specs.Taken.{Part, nothing, some_hubs, some_mark, some_values, some_ways, some_weights, part_items, IsPart}
use Rattle.cert_conditions.proofs.Lists.{by_last, ascend_front, not_nil, all_front}

-- the proof with these ways in place of its own
abbrev pub by_ways : CoreProof → List Way → CoreProof
by_ways proof ways = record { turns = proof.turns; scale = proof.scale; ways = ways }

-- the item makes this part of what was before it
abbrev pub Growing : Part → Part → Item → Type 0
Growing nothing before i = ⊥
Growing (some_hubs hubs) before i = (front : List ℕ) × (k : ℕ) × (hubs ≡ front ++ k ∷ []) × (before ≡ some_hubs front) × (i ≡ Hub k false)
Growing (some_mark number part hubs) before i =
    ((hubs ≡ []) × (before ≡ nothing) × (i ≡ Cut number part false))
    ⊎ ((front : List ℕ) × (k : ℕ) × (hubs ≡ front ++ k ∷ []) × (before ≡ some_mark number part front) × (i ≡ CoreHub k false))
Growing (some_values c run dual) before i =
    ((dual.u ≡ []) × (before ≡ nothing) × (i ≡ Dual c.0 c.1 run dual.a false))
    ⊎ ((front : List (ℕ × ℕ)) × (e : ℕ × ℕ) × (dual.u ≡ front ++ e ∷ []) × (before ≡ some_values c run (record { a = dual.a; u = front })) × (i ≡ DualPair e.0 e.1 false))
Growing (some_ways proof) before i =
    ((proof.ways ≡ []) × (before ≡ nothing) × (i ≡ Proof proof.turns proof.scale false))
    ⊎ ((front : List Way) × (w : Way) × (proof.ways ≡ front ++ w ∷ []) × (before ≡ some_ways (by_ways proof front)) × (i ≡ ProofPair w.0 w.1 w.2 false))
Growing (some_weights denom weights) before i =
    ((weights ≡ []) × (before ≡ nothing) × (i ≡ Leaf denom false))
    ⊎ ((front : List (ℕ × ℕ)) × (e : ℕ × ℕ) × (weights ≡ front ++ e ∷ []) × (before ≡ some_weights denom front) × (i ≡ LeafPair e.0 e.1 false))

-- the item ends this line, of which this was before it
abbrev pub Closing : Line → Part → Item → Type 0
Closing (says_version v) before i = (before ≡ nothing) × (i ≡ Version (version_of v))
Closing (says_size n q) before i = (before ≡ nothing) × (i ≡ Size n q)
Closing (says_cost c) before i = (before ≡ nothing) × (i ≡ Cost c)
Closing (says_bound b) before i = (before ≡ nothing) × (i ≡ Bound b)
Closing (says_hubs hubs) before i = (front : List ℕ) × (k : ℕ) × (hubs ≡ front ++ k ∷ []) × (before ≡ some_hubs front) × (i ≡ Hub k true)
Closing (says_route c r) before i = (before ≡ nothing) × (i ≡ Route c.0 c.1 r.0 r.1)
Closing (says_cuts all) before i = (before ≡ nothing) × (i ≡ Cuts all)
Closing (says_cut number part) before i = (before ≡ nothing) × (i ≡ Cut number (part_of part) true)
Closing (says_marked number part hubs) before i =
    (front : List ℕ) × (k : ℕ) × (hubs ≡ front ++ k ∷ []) × (before ≡ some_mark number part front) × (i ≡ CoreHub k true)
Closing (says_dual c run dual) before i =
    ((dual.u ≡ []) × (before ≡ nothing) × (i ≡ Dual c.0 c.1 run dual.a true))
    ⊎ ((front : List (ℕ × ℕ)) × (e : ℕ × ℕ) × (dual.u ≡ front ++ e ∷ []) × (before ≡ some_values c run (record { a = dual.a; u = front })) × (i ≡ DualPair e.0 e.1 true))
Closing (says_proof proof) before i =
    ((proof.ways ≡ []) × (before ≡ nothing) × (i ≡ Proof proof.turns proof.scale true))
    ⊎ ((front : List Way) × (w : Way) × (proof.ways ≡ front ++ w ∷ []) × (before ≡ some_ways (by_ways proof front)) × (i ≡ ProofPair w.0 w.1 w.2 true))
Closing (says_nodes all) before i = (before ≡ nothing) × (i ≡ Nodes all)
Closing (says_tree (branch_on k)) before i = (before ≡ nothing) × (i ≡ Branch k)
Closing (says_tree (leaf_of denom weights)) before i =
    ((weights ≡ []) × (before ≡ nothing) × (i ≡ Leaf denom true))
    ⊎ ((front : List (ℕ × ℕ)) × (e : ℕ × ℕ) × (weights ≡ front ++ e ∷ []) × (before ≡ some_weights denom front) × (i ≡ LeafPair e.0 e.1 true))
Closing (says_tree no_hub) before i = (before ≡ nothing) × (i ≡ Empty)
Closing (says_tree (no_route commodity)) before i = (before ≡ nothing) × (i ≡ Block commodity.0 commodity.1)
Closing (says_tree no_count) before i = (before ≡ nothing) × (i ≡ Count)
Closing says_end before i = (before ≡ nothing) × (i ≡ End)

-- an item that grows a part at a stage
pub record Grows (stage : Stage) (part : Part) (i : Item) : Type 0 where
  pub before : Part
  pub may : IsPart stage before
  pub items : part_items part ≡ part_items before ++ i ∷ []
  pub growing : Growing part before i

-- an item that ends a line at a stage
pub record Closes (stage : Stage) (l : Line) (i : Item) : Type 0 where
  pub before : Part
  pub may : IsPart stage before
  pub items : parts_of l ≡ part_items before ++ i ∷ []
  pub closing : Closing l before i

-- ---- the last of a list

pub hub_parts-last : (front : List ℕ) (k : ℕ) → hub_parts (front ++ k ∷ []) ≡ open_hubs front ++ Hub k true ∷ []
hub_parts-last [] k = refl
hub_parts-last (m ∷ []) k = refl
hub_parts-last (m ∷ n ∷ front) k = ap (λ l. Hub m false ∷ l) (hub_parts-last (n ∷ front) k)

pub mark_parts-last : (front : List ℕ) (k : ℕ) → mark_parts (front ++ k ∷ []) ≡ open_mark front ++ CoreHub k true ∷ []
mark_parts-last [] k = refl
mark_parts-last (m ∷ []) k = refl
mark_parts-last (m ∷ n ∷ front) k = ap (λ l. CoreHub m false ∷ l) (mark_parts-last (n ∷ front) k)

pub value_parts-last : (front : List (ℕ × ℕ)) (e : ℕ × ℕ) → value_parts (front ++ e ∷ []) ≡ open_values front ++ DualPair e.0 e.1 true ∷ []
value_parts-last [] e = refl
value_parts-last (m ∷ []) e = refl
value_parts-last (m ∷ n ∷ front) e = ap (λ l. DualPair m.0 m.1 false ∷ l) (value_parts-last (n ∷ front) e)

pub way_parts-last : (front : List Way) (w : Way) → way_parts (front ++ w ∷ []) ≡ open_ways front ++ ProofPair w.0 w.1 w.2 true ∷ []
way_parts-last [] w = refl
way_parts-last (m ∷ []) w = refl
way_parts-last (m ∷ n ∷ front) w = ap (λ l. ProofPair m.0 m.1 m.2 false ∷ l) (way_parts-last (n ∷ front) w)

pub weight_parts-last : (front : List (ℕ × ℕ)) (e : ℕ × ℕ) → weight_parts (front ++ e ∷ []) ≡ open_weights front ++ LeafPair e.0 e.1 true ∷ []
weight_parts-last [] e = refl
weight_parts-last (m ∷ []) e = refl
weight_parts-last (m ∷ n ∷ front) e = ap (λ l. LeafPair m.0 m.1 false ∷ l) (weight_parts-last (n ∷ front) e)

none_left-push : {X : Type 0} (front : List X) (x : X) → none_left (front ++ x ∷ []) ≡ false
none_left-push [] x = refl
none_left-push (y ∷ front) x = refl

-- ---- prefixes of what is in range

pub hubs_front : (n : ℕ) (front : List ℕ) (k : ℕ) → IsStrictlyIncreasing (front ++ k ∷ []) × All (λ (m : ℕ). m < n) (front ++ k ∷ [])
    → IsStrictlyIncreasing front × All (λ (m : ℕ). m < n) front
hubs_front n front k h = (ascend_front front k h.0, all_front (λ (m : ℕ). m < n) front k h.1)

ascend_keys : (front : List (ℕ × ℕ)) (e : ℕ × ℕ) → IsStrictlyIncreasing (map (λ (x : ℕ × ℕ). x.0) (front ++ e ∷ []))
    → IsStrictlyIncreasing (map (λ (x : ℕ × ℕ). x.0) front)
ascend_keys front e up =
    ascend_front (map (λ (x : ℕ × ℕ). x.0) front) e.0 (subst IsStrictlyIncreasing (map-append (λ (x : ℕ × ℕ). x.0) front (e ∷ [])) up)

pub dual_front : (n a : ℕ) (front : List (ℕ × ℕ)) (e : ℕ × ℕ) → IsDualInRange n (record { a = a; u = front ++ e ∷ [] }) → IsDualInRange n (record { a = a; u = front })
dual_front n a front e h = record {
  a = h.a;
  ascend = ascend_keys front e h.ascend;
  each = all_front (λ (x : ℕ × ℕ). (x.0 < n) × (1 ≤ x.1) × (x.1 < 10 ^ 33)) front e h.each;
}

pub leaf_front : (n denom : ℕ) (front : List (ℕ × ℕ)) (e : ℕ × ℕ) → IsLineInRange n (leaf_of denom (front ++ e ∷ [])) → IsLineInRange n (leaf_of denom front)
leaf_front n denom front e h = (
  h.0,
  h.1,
  record {
    ascend = ascend_keys front e h.2.ascend;
    each = all_front (λ (x : ℕ × ℕ). (1 ≤ x.0) × (x.0 < 10 ^ 30) × (1 ≤ x.1) × (x.1 < 10 ^ 30)) front e h.2.each;
  },
)

pairs_front : {X : Type 0} (R : X → X → Type 0) (front : List X) (x : X) → AllPairs R (front ++ x ∷ []) → AllPairs R front
pairs_front R front x each i j d less within =
    let long = length-append front (x ∷ []) in
    subst (λ a. R a (get_or front j d)) (get_or-append front (x ∷ []) d i (omega arith))
    (subst (R (get_or (front ++ x ∷ []) i d)) (get_or-append front (x ∷ []) d j within) (each i j d less (omega arith)))

pub proof_front : (n : ℕ) (proof : CoreProof) (front : List Way) (w : Way) → IsProofInRange n (by_ways proof (front ++ w ∷ []))
    → IsProofInRange n (by_ways proof front)
proof_front n proof front w h = record {
  turns = h.turns;
  some_scale = h.some_scale;
  scale = h.scale;
  ascend = pairs_front IsWayBefore front w h.ascend;
  each = all_front (IsWayInRange n) front w h.each;
}

-- ---- the last item of a line

whole : (stage : Stage) (l : Line) (i : Item) → IsPart stage nothing → parts_of l ≡ i ∷ [] → Closing l nothing i → Closes stage l i
whole stage l i may items closing = record { before = nothing; may = may; items = items; closing = closing }

-- an item that ends the line, whatever it is
abbrev Ending : Stage → Line → Type 0
Ending stage l = (i : Item) × Closes stage l i

ends_hubs : (s : Shape) (hubs : List ℕ) → 1 ≤ length hubs → IsStrictlyIncreasing hubs → All (λ (k : ℕ). k < s.size) hubs → Ending (want_hubs s) (says_hubs hubs)
ends_hubs s hubs some up nodes =
    elim (by_last hubs) as (λ v. Ending (want_hubs s) (says_hubs hubs)) [
      | inl none ↦ absurd (let e = ap length none in omega (arith, e, some))
      | inr h ↦
          let front = h.0 in
          let k = h.1 in
          let r = hubs_front s.size front k (subst IsStrictlyIncreasing h.2 up, subst (All (λ (m : ℕ). m < s.size)) h.2 nodes) in (
            Hub k true,
            record {
              before = some_hubs front;
              may = r;
              items = ap hub_parts h.2 ∙ hub_parts-last front k;
              closing = (front, k, h.2, refl, refl);
            },
          )
    ]

ends_mark : (s : Shape) (all x number part : ℕ) (hubs : List ℕ) → Wants (want_cut s all x) (says_marked number part hubs)
    → Ending (want_cut s all x) (says_marked number part hubs)
ends_mark s all x number part hubs h =
    let range = h.1.3 in
    elim (by_last hubs) as (λ v. Ending (want_cut s all x) (says_marked number part hubs)) [
      | inl none ↦ absurd (let e = ap length none in omega (arith, e, range.some))
      | inr g ↦
          let front = g.0 in
          let k = g.1 in
          let r = hubs_front s.size front k (subst IsStrictlyIncreasing g.2 range.ascend, subst (All (λ (m : ℕ). m < s.size)) g.2 range.nodes) in (
            CoreHub k true,
            record {
              before = some_mark number part front;
              may = (h.0, h.1.1, h.1.2, r.0, r.1);
              items = ap (λ l. Cut number part false ∷ l) (ap mark_parts g.2 ∙ mark_parts-last front k);
              closing = (front, k, g.2, refl, refl);
            },
          )
    ]

-- a dual at a stage at which what comes of it may stand
ends_dual : (stage : Stage) (n : ℕ) (c : ℕ × ℕ) (run a : ℕ) (u : List (ℕ × ℕ)) → IsPart stage nothing
    → ((v : List (ℕ × ℕ)) → IsDualInRange n (record { a = a; u = v }) → IsPart stage (some_values c run (record { a = a; u = v })))
    → IsDualInRange n (record { a = a; u = u }) → Ending stage (says_dual c run (record { a = a; u = u }))
ends_dual stage n c run a u none_may may range =
    elim (by_last u) as (λ v. Ending stage (says_dual c run (record { a = a; u = u }))) [
      | inl none ↦ (
        Dual c.0 c.1 run a true,
        record {
          before = nothing;
          may = none_may;
          items = ap (λ (l : List (ℕ × ℕ)). Dual c.0 c.1 run a (none_left l) ∷ value_parts l) none;
          closing = inl (none, refl, refl);
        },
      )
      | inr h ↦
          let front = h.0 in
          let e = h.1 in (
            DualPair e.0 e.1 true,
            record {
              before = some_values c run (record { a = a; u = front });
              may = may front (dual_front n a front e (subst (λ (l : List (ℕ × ℕ)). IsDualInRange n (record { a = a; u = l })) h.2 range));
              items = ap (λ (l : List (ℕ × ℕ)). Dual c.0 c.1 run a (none_left l) ∷ value_parts l) h.2
                  ∙ ap (λ b. Dual c.0 c.1 run a b ∷ value_parts (front ++ e ∷ [])) (none_left-push front e)
                  ∙ ap (λ l. Dual c.0 c.1 run a false ∷ l) (value_parts-last front e);
              closing = inr (front, e, h.2, refl, refl);
            },
          )
    ]

ends_proof : (s : Shape) (all x t turns scale : ℕ) (ways : List Way) → IsProofInRange s.size (record { turns = turns; scale = scale; ways = ways })
    → Ending (want_proof s all x t) (says_proof (record { turns = turns; scale = scale; ways = ways }))
ends_proof s all x t turns scale ways range =
    let proof : CoreProof = record { turns = turns; scale = scale; ways = ways } in
    elim (by_last ways) as (λ v. Ending (want_proof s all x t) (says_proof proof)) [
      | inl none ↦ (
        Proof turns scale true,
        record {
          before = nothing;
          may = tt;
          items = ap (λ (l : List Way). Proof turns scale (none_left l) ∷ way_parts l) none;
          closing = inl (none, refl, refl);
        },
      )
      | inr h ↦
          let front = h.0 in
          let w = h.1 in (
            ProofPair w.0 w.1 w.2 true,
            record {
              before = some_ways (by_ways proof front);
              may = proof_front s.size proof front w (subst (λ (l : List Way). IsProofInRange s.size (by_ways proof l)) h.2 range);
              items = ap (λ (l : List Way). Proof turns scale (none_left l) ∷ way_parts l) h.2
                  ∙ ap (λ b. Proof turns scale b ∷ way_parts (front ++ w ∷ [])) (none_left-push front w)
                  ∙ ap (λ l. Proof turns scale false ∷ l) (way_parts-last front w);
              closing = inr (front, w, h.2, refl, refl);
            },
          )
    ]

ends_leaf : (s : Shape) (places left denom : ℕ) (weights : List (ℕ × ℕ)) → IsLineInRange s.size (leaf_of denom weights)
    → Ending (want_tree s places left) (says_tree (leaf_of denom weights))
ends_leaf s places left denom weights range =
    elim (by_last weights) as (λ v. Ending (want_tree s places left) (says_tree (leaf_of denom weights))) [
      | inl none ↦ (
        Leaf denom true,
        record {
          before = nothing;
          may = tt;
          items = ap (λ (l : List (ℕ × ℕ)). Leaf denom (none_left l) ∷ weight_parts l) none;
          closing = inl (none, refl, refl);
        },
      )
      | inr h ↦
          let front = h.0 in
          let e = h.1 in (
            LeafPair e.0 e.1 true,
            record {
              before = some_weights denom front;
              may = leaf_front s.size denom front e (subst (λ (l : List (ℕ × ℕ)). IsLineInRange s.size (leaf_of denom l)) h.2 range);
              items = ap (λ (l : List (ℕ × ℕ)). Leaf denom (none_left l) ∷ weight_parts l) h.2
                  ∙ ap (λ b. Leaf denom b ∷ weight_parts (front ++ e ∷ [])) (none_left-push front e)
                  ∙ ap (λ l. Leaf denom false ∷ l) (weight_parts-last front e);
              closing = inr (front, e, h.2, refl, refl);
            },
          )
    ]

-- a line ends with an item
pub each_ends : (stage : Stage) (l : Line) → Wants stage l → Ending stage l
each_ends want_version (says_version v) h =
    (Version (version_of v), whole want_version (says_version v) (Version (version_of v)) tt refl (refl, refl))
each_ends (want_size v) (says_size n q) h = (Size n q, whole (want_size v) (says_size n q) (Size n q) tt refl (refl, refl))
each_ends (want_cost s) (says_cost c) h = (Cost c, whole (want_cost s) (says_cost c) (Cost c) tt refl (refl, refl))
each_ends (want_bound s) (says_bound b) h = (Bound b, whole (want_bound s) (says_bound b) (Bound b) tt refl (refl, refl))
each_ends (want_hubs s) (says_hubs hubs) h = ends_hubs s hubs h.0 h.1 h.2
each_ends (want_route s t) (says_route c r) h =
    (Route c.0 c.1 r.0 r.1, whole (want_route s t) (says_route c r) (Route c.0 c.1 r.0 r.1) tt refl (refl, refl))
each_ends (want_cuts s) (says_cuts all) h = (Cuts all, whole (want_cuts s) (says_cuts all) (Cuts all) tt refl (refl, refl))
each_ends (want_cut s all x) (says_cut number part) h =
    (Cut number (part_of part) true, whole (want_cut s all x) (says_cut number part) (Cut number (part_of part) true) tt refl (refl, refl))
each_ends (want_cut s all x) (says_marked number part hubs) h = ends_mark s all x number part hubs h
each_ends (want_dual s all x t prior) (says_dual c run dual) h =
    ends_dual (want_dual s all x t prior) s.size c run dual.a dual.u tt (λ v range. (h.0, h.1, range)) h.2
each_ends (want_proved s all x t) (says_dual c run dual) h =
    ends_dual (want_proved s all x t) s.size c run dual.a dual.u tt (λ v range. (h.0, h.1, range)) h.2
each_ends (want_proof s all x t) (says_proof proof) h = ends_proof s all x t proof.turns proof.scale proof.ways h
each_ends (want_nodes s) (says_nodes all) h = (Nodes all, whole (want_nodes s) (says_nodes all) (Nodes all) tt refl (refl, refl))
each_ends (want_tree s places left) (says_tree (branch_on k)) h =
    (Branch k, whole (want_tree s places left) (says_tree (branch_on k)) (Branch k) tt refl (refl, refl))
each_ends (want_tree s places left) (says_tree (leaf_of denom weights)) h = ends_leaf s places left denom weights h.0
each_ends (want_tree s places left) (says_tree no_hub) h = (Empty, whole (want_tree s places left) (says_tree no_hub) Empty tt refl (refl, refl))
each_ends (want_tree s places left) (says_tree (no_route c)) h =
    (Block c.0 c.1, whole (want_tree s places left) (says_tree (no_route c)) (Block c.0 c.1) tt refl (refl, refl))
each_ends (want_tree s places left) (says_tree no_count) h = (Count, whole (want_tree s places left) (says_tree no_count) Count tt refl (refl, refl))
each_ends want_end says_end h = (End, whole want_end says_end End tt refl (refl, refl))
each_ends stage l h = absurd h

-- ---- the last item of a part

-- the part is empty, or an item grew it
abbrev Grown : Stage → Part → Type 0
Grown stage part = (part_items part ≡ []) ⊎ ((i : Item) × Grows stage part i)

grown_hubs : (s : Shape) (hubs : List ℕ) → IsPart (want_hubs s) (some_hubs hubs) → Grown (want_hubs s) (some_hubs hubs)
grown_hubs s hubs may =
    elim (by_last hubs) as (λ v. Grown (want_hubs s) (some_hubs hubs)) [
      | inl none ↦ inl (ap open_hubs none)
      | inr h ↦
          let front = h.0 in
          let k = h.1 in
          inr (
            Hub k false,
            record {
              before = some_hubs front;
              may = hubs_front s.size front k (subst IsStrictlyIncreasing h.2 may.0, subst (All (λ (m : ℕ). m < s.size)) h.2 may.1);
              items = ap open_hubs h.2 ∙ map-append (λ k. Hub k false) front (k ∷ []);
              growing = (front, k, h.2, refl, refl);
            },
          )
    ]

grown_mark : (s : Shape) (all x number part : ℕ) (hubs : List ℕ) → IsPart (want_cut s all x) (some_mark number part hubs)
    → Grown (want_cut s all x) (some_mark number part hubs)
grown_mark s all x number part hubs may =
    elim (by_last hubs) as (λ v. Grown (want_cut s all x) (some_mark number part hubs)) [
      | inl none ↦ inr (
        Cut number part false,
        record {
          before = nothing;
          may = tt;
          items = ap (λ (l : List ℕ). Cut number part false ∷ open_mark l) none;
          growing = inl (none, refl, refl);
        },
      )
      | inr h ↦
          let front = h.0 in
          let k = h.1 in
          let r = hubs_front s.size front k (subst IsStrictlyIncreasing h.2 may.3, subst (All (λ (m : ℕ). m < s.size)) h.2 may.4) in
          inr (
            CoreHub k false,
            record {
              before = some_mark number part front;
              may = (may.0, may.1, may.2, r.0, r.1);
              items = ap (λ (l : List ℕ). Cut number part false ∷ open_mark l) h.2
                  ∙ ap (λ l. Cut number part false ∷ l) (map-append (λ (k : ℕ). CoreHub k false) front (k ∷ []));
              growing = inr (front, k, h.2, refl, refl);
            },
          )
    ]

-- a dual at a stage at which what comes of it may stand
grown_values : (stage : Stage) (n : ℕ) (c : ℕ × ℕ) (run a : ℕ) (u : List (ℕ × ℕ)) → IsPart stage nothing
    → ((v : List (ℕ × ℕ)) → IsDualInRange n (record { a = a; u = v }) → IsPart stage (some_values c run (record { a = a; u = v })))
    → IsDualInRange n (record { a = a; u = u }) → Grown stage (some_values c run (record { a = a; u = u }))
grown_values stage n c run a u none_may may range =
    elim (by_last u) as (λ v. Grown stage (some_values c run (record { a = a; u = u }))) [
      | inl none ↦ inr (
        Dual c.0 c.1 run a false,
        record {
          before = nothing;
          may = none_may;
          items = ap (λ (l : List (ℕ × ℕ)). Dual c.0 c.1 run a false ∷ open_values l) none;
          growing = inl (none, refl, refl);
        },
      )
      | inr h ↦
          let front = h.0 in
          let e = h.1 in
          inr (
            DualPair e.0 e.1 false,
            record {
              before = some_values c run (record { a = a; u = front });
              may = may front (dual_front n a front e (subst (λ (l : List (ℕ × ℕ)). IsDualInRange n (record { a = a; u = l })) h.2 range));
              items = ap (λ (l : List (ℕ × ℕ)). Dual c.0 c.1 run a false ∷ open_values l) h.2
                  ∙ ap (λ l. Dual c.0 c.1 run a false ∷ l) (map-append (λ (e : ℕ × ℕ). DualPair e.0 e.1 false) front (e ∷ []));
              growing = inr (front, e, h.2, refl, refl);
            },
          )
    ]

grown_ways : (s : Shape) (all x t turns scale : ℕ) (ways : List Way)
    → IsPart (want_proof s all x t) (some_ways (record { turns = turns; scale = scale; ways = ways }))
    → Grown (want_proof s all x t) (some_ways (record { turns = turns; scale = scale; ways = ways }))
grown_ways s all x t turns scale ways may =
    let proof : CoreProof = record { turns = turns; scale = scale; ways = ways } in
    elim (by_last ways) as (λ v. Grown (want_proof s all x t) (some_ways proof)) [
      | inl none ↦ inr (
        Proof turns scale false,
        record {
          before = nothing;
          may = tt;
          items = ap (λ (l : List Way). Proof turns scale false ∷ open_ways l) none;
          growing = inl (none, refl, refl);
        },
      )
      | inr h ↦
          let front = h.0 in
          let w = h.1 in
          inr (
            ProofPair w.0 w.1 w.2 false,
            record {
              before = some_ways (by_ways proof front);
              may = proof_front s.size proof front w (subst (λ (l : List Way). IsProofInRange s.size (by_ways proof l)) h.2 may);
              items = ap (λ (l : List Way). Proof turns scale false ∷ open_ways l) h.2
                  ∙ ap (λ l. Proof turns scale false ∷ l) (map-append (λ (w : Way). ProofPair w.0 w.1 w.2 false) front (w ∷ []));
              growing = inr (front, w, h.2, refl, refl);
            },
          )
    ]

grown_weights : (s : Shape) (places left denom : ℕ) (weights : List (ℕ × ℕ)) → IsPart (want_tree s places left) (some_weights denom weights)
    → Grown (want_tree s places left) (some_weights denom weights)
grown_weights s places left denom weights may =
    elim (by_last weights) as (λ v. Grown (want_tree s places left) (some_weights denom weights)) [
      | inl none ↦ inr (
        Leaf denom false,
        record {
          before = nothing;
          may = tt;
          items = ap (λ (l : List (ℕ × ℕ)). Leaf denom false ∷ open_weights l) none;
          growing = inl (none, refl, refl);
        },
      )
      | inr h ↦
          let front = h.0 in
          let e = h.1 in
          inr (
            LeafPair e.0 e.1 false,
            record {
              before = some_weights denom front;
              may = leaf_front s.size denom front e (subst (λ (l : List (ℕ × ℕ)). IsLineInRange s.size (leaf_of denom l)) h.2 may);
              items = ap (λ (l : List (ℕ × ℕ)). Leaf denom false ∷ open_weights l) h.2
                  ∙ ap (λ l. Leaf denom false ∷ l) (map-append (λ (e : ℕ × ℕ). LeafPair e.0 e.1 false) front (e ∷ []));
              growing = inr (front, e, h.2, refl, refl);
            },
          )
    ]

pub each_grown : (stage : Stage) (part : Part) → IsPart stage part → Grown stage part
each_grown (want_hubs s) (some_hubs hubs) may = grown_hubs s hubs may
each_grown (want_cut s all x) (some_mark number part hubs) may = grown_mark s all x number part hubs may
each_grown (want_dual s all x t prior) (some_values c run dual) may =
    grown_values (want_dual s all x t prior) s.size c run dual.a dual.u tt (λ v range. (may.0, may.1, range)) may.2
each_grown (want_proved s all x t) (some_values c run dual) may =
    grown_values (want_proved s all x t) s.size c run dual.a dual.u tt (λ v range. (may.0, may.1, range)) may.2
each_grown (want_proof s all x t) (some_ways proof) may = grown_ways s all x t proof.turns proof.scale proof.ways may
each_grown (want_tree s places left) (some_weights denom weights) may = grown_weights s places left denom weights may
each_grown stage nothing may = inl refl
each_grown stage part may = absurd may

-- ---- the last item of all

-- lines up to the last, and the last
pub leads_last : (first : Stage) (front : List Line) (l : Line) (last : Stage) → Leads first (front ++ l ∷ []) last
    → (at : Stage) × Leads first front at × Wants at l × (after at l ≡ last)
leads_last first [] l last h = (first, refl, h.0, h.1)
leads_last first (x ∷ front) l last h = let r = leads_last (after first x) front l last h.1 in (r.0, (h.0, r.1), r.2, r.3)

-- what an item that is the last of some is of their lines
pub data Coming (given : List Item) (i : Item) (lines : List Line) (stage : Stage) (part : Part) : Type 0 where
  goes_on : (before : Part) → IsPart stage before → given ≡ flat_map parts_of lines ++ part_items before → Growing part before i
      → Coming given i lines stage part
  ends : (front : List Line) (l : Line) (at : Stage) (before : Part) → lines ≡ front ++ l ∷ [] → Leads want_version front at → Wants at l
      → stage ≡ after at l → part_items part ≡ [] → IsPart at before → given ≡ flat_map parts_of front ++ part_items before
      → Closing l before i → Coming given i lines stage part

coming_end : (given : List Item) (i : Item) (lines : List Line) (stage : Stage) (part : Part) → Leads want_version lines stage
    → part_items part ≡ [] → given ++ i ∷ [] ≡ flat_map parts_of lines → Coming given i lines stage part
coming_end given i lines stage part lead none are =
    elim (by_last lines) as (λ v. Coming given i lines stage part) [
      | inl empty ↦ absurd (not_nil given i (are ∙ ap (flat_map parts_of) empty))
      | inr h ↦
          let front = h.0 in
          let l = h.1 in
          let r = leads_last want_version front l stage (subst (λ ls. Leads want_version ls stage) h.2 lead) in
          let e = each_ends r.0 l r.2 in
          let same = same_from_push given (flat_map parts_of front ++ part_items e.1.before) i e.0
          (are ∙ ap (flat_map parts_of) h.2 ∙ flat_map-append parts_of front (l ∷ []) ∙ ap (λ x. flat_map parts_of front ++ x) (append-nil (parts_of l) ∙ e.1.items)
          ∙ sym (append_assoc (flat_map parts_of front) (part_items e.1.before) (e.0 ∷ []))) in
          ends front l r.0 e.1.before h.2 r.1 r.2 (sym r.3) none e.1.may same.0 (subst (Closing l e.1.before) (sym same.1) e.1.closing)
    ]

pub coming : (given : List Item) (i : Item) (lines : List Line) (stage : Stage) (part : Part) → Leads want_version lines stage
    → IsPart stage part → given ++ i ∷ [] ≡ flat_map parts_of lines ++ part_items part → Coming given i lines stage part
coming given i lines stage part lead may are =
    elim (each_grown stage part may) as (λ v. Coming given i lines stage part) [
      | inl none ↦ coming_end given i lines stage part lead none
          (are ∙ ap (λ x. flat_map parts_of lines ++ x) none ∙ append-nil (flat_map parts_of lines))
      | inr g ↦
          let same = same_from_push given (flat_map parts_of lines ++ part_items g.1.before) i g.0
          (are ∙ ap (λ x. flat_map parts_of lines ++ x) g.1.items ∙ sym (append_assoc (flat_map parts_of lines) (part_items g.1.before) (g.0 ∷ []))) in
          goes_on g.1.before g.1.may same.0 (subst (Growing part g.1.before) (sym same.1) g.1.growing)
    ]
