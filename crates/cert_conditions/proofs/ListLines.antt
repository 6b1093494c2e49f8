-- The items of a whole line, one after another.
use Rattle.std.proofs.Common.{◌≡◌, ℕ, zero, suc, ◌+◌, ◌-◌, ◌<◌, true, false, List, [], ◌∷◌, ◌++◌, length, take, drop, get_or, flat_map, All, Option, Some, None, refl, sym, ap, subst, ◌∙◌, append_assoc, append-nil, arith}
use Rattle.std.specs.Prelude.{IfSome}
use Rattle.std.specs.List.Sorted.{IsStrictlyIncreasing}
use Rattle.std.proofs.Math.Seq.{take-suc}
use Rattle.std.proofs.lemmas.List.{take_more, take_all, take-append-drop, map_push}
use Rattle.std.proofs.lemmas.List.Concat.{flat_map-append}
use Rattle.hub_spec.specs.Problem.{Problem}
use Rattle.hub_spec.specs.Cuts.{Prices, IsDual}
use Rattle.hub_spec.specs.Trees.{leaf_of}
use Rattle.hub_spec.specs.Ranges.{IsDualInRange, IsLineInRange}
use Rattle.core_spec.specs.CoreCuts.{Way}
use Rattle.core_spec.specs.MarkRanges.{IsProofInRange}
use Rattle.cert_spec.specs.Lines.{Item as Line, says_hubs, says_marked, says_dual, says_proof, says_tree}
use Rattle.cert_spec.specs.Grammar.{Shape, Stage, want_version, want_hubs, want_cut, want_dual, want_proved, want_proof, want_tree, Wants, Leads}
use Rattle.cert_spec.specs.Progress.{Progress, at_start, after_lines}
use Rattle.dual_lines.specs.Lines.{ListedDual}
use Rattle.cert_scan.specs.Parts.{parts_of, hub_parts, mark_parts, value_parts, way_parts, weight_parts, open_hubs, open_mark, open_values, open_ways, open_weights}
use Rattle.cert_scan.specs.declared.items.Item.{Item}
use Rattle.cert_scan.specs.declared.items.Item.TheVariants.{Hub, Cut, CoreHub, Dual, DualPair, Proof, ProofPair, Leaf, LeafPair}
use Rattle.cert_conditions.specs.Steps.{IsKnownWith, listed_with, IsKnown}
use Rattle.cert_conditions.specs.Taken.{Part, nothing, some_hubs, some_mark, some_values, some_ways, some_weights, part_items, IsPart, StandsFirm, DualsKept, Keeps, HasTaken}
use Rattle.cert_conditions.specs.ListLines.{line_of, HasItem, open_items, line_item, CanLead, HasLines, IsKnownLine}
use Rattle.cert_conditions.specs.declared.checks.Checks.{Checks}
use Rattle.cert_conditions.specs.declared.list_lines.ListLine as code
use Rattle.cert_conditions.proofs.Parting.{by_ways, hub_parts-last, mark_parts-last, value_parts-last, way_parts-last, weight_parts-last, hubs_front, dual_front, leaf_front, proof_front, leads_last}
use Rattle.cert_conditions.proofs.Whole.{AreParted, empty_part}

-- what so many items of a line make
abbrev pub part_at : Line → ℕ → Part
part_at (says_hubs hubs) at = some_hubs (take at hubs)
part_at (says_marked number part hubs) zero = nothing
part_at (says_marked number part hubs) (suc t) = some_mark number part (take t hubs)
part_at (says_dual commodity run dual) zero = nothing
part_at (says_dual commodity run dual) (suc t) = some_values commodity run (record { a = dual.a; u = take t dual.u })
part_at (says_proof proof) zero = nothing
part_at (says_proof proof) (suc t) = some_ways (by_ways proof (take t proof.ways))
part_at (says_tree (leaf_of denom weights)) zero = nothing
part_at (says_tree (leaf_of denom weights)) (suc t) = some_weights denom (take t weights)
part_at l at = nothing

-- ---- one item more

more_items : (l : Line) (at : ℕ) → at < open_items l → part_items (part_at l (suc at)) ≡ part_items (part_at l at) ++ line_item l at false ∷ []
more_items (says_hubs hubs) at less =
    ap open_hubs (take-suc hubs at 0 (omega (arith, less))) ∙ map_push (λ k. Hub k false) (take at hubs) (get_or hubs at 0)
more_items (says_marked number part hubs) zero less = refl
more_items (says_marked number part hubs) (suc t) less =
    ap (λ items. Cut number part false ∷ items)
    (ap open_mark (take-suc hubs t 0 (omega (arith, less))) ∙ map_push (λ k. CoreHub k false) (take t hubs) (get_or hubs t 0))
more_items (says_dual c run dual) zero less = refl
more_items (says_dual c run dual) (suc t) less =
    ap (λ items. Dual c.0 c.1 run dual.a false ∷ items)
    (ap open_values (take-suc dual.u t (0, 0) (omega (arith, less)))
    ∙ map_push (λ (e : ℕ × ℕ). DualPair e.0 e.1 false) (take t dual.u) (get_or dual.u t (0, 0)))
more_items (says_proof proof) zero less = refl
more_items (says_proof proof) (suc t) less =
    ap (λ items. Proof proof.turns proof.scale false ∷ items)
    (ap open_ways (take-suc proof.ways t (0, 0, 0) (omega (arith, less)))
    ∙ map_push (λ (w : Way). ProofPair w.0 w.1 w.2 false) (take t proof.ways) (get_or proof.ways t (0, 0, 0)))
more_items (says_tree (leaf_of denom weights)) zero less = refl
more_items (says_tree (leaf_of denom weights)) (suc t) less =
    ap (λ items. Leaf denom false ∷ items)
    (ap open_weights (take-suc weights t (0, 0) (omega (arith, less)))
    ∙ map_push (λ (e : ℕ × ℕ). LeafPair e.0 e.1 false) (take t weights) (get_or weights t (0, 0)))
more_items l at less = absurd (omega (arith, less))

-- a list by its last element
split_last : {X : Type 0} (xs : List X) (m : ℕ) (d : X) → length xs ≡ m + 1 → xs ≡ take m xs ++ get_or xs m d ∷ []
split_last xs m d e = sym (take_all (m + 1) xs (omega (arith, e))) ∙ take_more xs m d (omega (arith, e))

-- all items of a dual's line
dual_items : (c : ℕ × ℕ) (run a : ℕ) (u : List (ℕ × ℕ))
    → part_items (part_at (says_dual c run (record { a = a; u = u })) (length u)) ++ line_item (says_dual c run (record { a = a; u = u })) (length u) true ∷ []
    ≡ parts_of (says_dual c run (record { a = a; u = u }))
dual_items c run a [] = refl
dual_items c run a (e ∷ u) =
    let m = length u in
    let long : length (e ∷ u) ≡ m + 1 = omega arith in
    ap (λ items. Dual c.0 c.1 run a false ∷ items)
    (sym (ap value_parts (split_last (e ∷ u) m (0, 0) long) ∙ value_parts-last (take m (e ∷ u)) (get_or (e ∷ u) m (0, 0))))

-- and of a proof's
proof_items : (turns scale : ℕ) (ways : List Way)
    → part_items (part_at (says_proof (record { turns = turns; scale = scale; ways = ways })) (length ways))
    ++ line_item (says_proof (record { turns = turns; scale = scale; ways = ways })) (length ways) true ∷ []
    ≡ parts_of (says_proof (record { turns = turns; scale = scale; ways = ways }))
proof_items turns scale [] = refl
proof_items turns scale (w ∷ ways) =
    let m = length ways in
    let long : length (w ∷ ways) ≡ m + 1 = omega arith in
    ap (λ items. Proof turns scale false ∷ items)
    (sym (ap way_parts (split_last (w ∷ ways) m (0, 0, 0) long) ∙ way_parts-last (take m (w ∷ ways)) (get_or (w ∷ ways) m (0, 0, 0))))

-- all items of the line
all_items : (l : Line) → HasItem l → part_items (part_at l (open_items l)) ++ line_item l (open_items l) true ∷ [] ≡ parts_of l
all_items (says_hubs hubs) some =
    let m = length hubs - 1 in
    let e : length hubs ≡ m + 1 = omega (arith, some) in
    sym (ap hub_parts (split_last hubs m 0 e) ∙ hub_parts-last (take m hubs) (get_or hubs m 0))
all_items (says_marked number part []) some = absurd (omega (arith, some))
all_items (says_marked number part (k ∷ hubs)) some =
    let m = length hubs in
    let e : length (k ∷ hubs) ≡ m + 1 = omega arith in
    ap (λ items. Cut number part false ∷ items)
    (sym (ap mark_parts (split_last (k ∷ hubs) m 0 e) ∙ mark_parts-last (take m (k ∷ hubs)) (get_or (k ∷ hubs) m 0)))
all_items (says_dual c run dual) some = dual_items c run dual.a dual.u
all_items (says_proof proof) some = proof_items proof.turns proof.scale proof.ways
all_items (says_tree (leaf_of denom [])) some = refl
all_items (says_tree (leaf_of denom (e ∷ weights))) some =
    let m = length weights in
    let long : length (e ∷ weights) ≡ m + 1 = omega arith in
    ap (λ items. Leaf denom false ∷ items)
    (sym (ap weight_parts (split_last (e ∷ weights) m (0, 0) long) ∙ weight_parts-last (take m (e ∷ weights)) (get_or (e ∷ weights) m (0, 0))))
all_items l some = absurd some

-- ---- what stands so far may stand there

-- what holds of a list, and of each list without its last element, holds of its prefixes
front_closed : {X : Type 0} (P : List X → Type 0) → ((front : List X) (x : X) → P (front ++ x ∷ []) → P front) → (front rest : List X)
    → P (front ++ rest) → P front
front_closed P pop front [] h = subst P (append-nil front) h
front_closed P pop front (x ∷ rest) h =
    pop front x (front_closed P pop (front ++ x ∷ []) rest (subst P (sym (append_assoc front (x ∷ []) rest)) h))

front_of : {X : Type 0} (P : List X → Type 0) → ((front : List X) (x : X) → P (front ++ x ∷ []) → P front) → (n : ℕ) (xs : List X) → P xs → P (take n xs)
front_of P pop n xs h = front_closed P pop (take n xs) (drop n xs) (subst P (sym (take-append-drop n xs)) h)

front_hubs : (n t : ℕ) (hubs : List ℕ) → IsStrictlyIncreasing hubs → All (λ (k : ℕ). k < n) hubs
    → IsStrictlyIncreasing (take t hubs) × All (λ (k : ℕ). k < n) (take t hubs)
front_hubs n t hubs up nodes =
    front_of (λ (hs : List ℕ). IsStrictlyIncreasing hs × All (λ (k : ℕ). k < n) hs) (λ front k h. hubs_front n front k h) t hubs (up, nodes)

front_dual : (n t : ℕ) (dual : Prices) → IsDualInRange n dual → IsDualInRange n (record { a = dual.a; u = take t dual.u })
front_dual n t dual h =
    front_of (λ (u : List (ℕ × ℕ)). IsDualInRange n (record { a = dual.a; u = u })) (λ front e k. dual_front n dual.a front e k) t dual.u h

may_stand : (l : Line) (stage : Stage) (at : ℕ) → Wants stage l → HasItem l → IsPart stage (part_at l at)
may_stand (says_hubs hubs) (want_hubs s) at w some = front_hubs s.size at hubs w.1 w.2
may_stand (says_hubs hubs) stage at w some = absurd w
may_stand (says_marked number part hubs) (want_cut s all x) zero w some = tt
may_stand (says_marked number part hubs) (want_cut s all x) (suc t) w some =
    let r = front_hubs s.size t hubs w.1.3.ascend w.1.3.nodes in (w.0, w.1.1, w.1.2, r.0, r.1)
may_stand (says_marked number part hubs) stage at w some = absurd w
may_stand (says_dual c run dual) (want_dual s all x t before) zero w some = tt
may_stand (says_dual c run dual) (want_dual s all x t before) (suc m) w some = (w.0, w.1, front_dual s.size m dual w.2)
may_stand (says_dual c run dual) (want_proved s all x t) zero w some = tt
may_stand (says_dual c run dual) (want_proved s all x t) (suc m) w some = (w.0, w.1, front_dual s.size m dual w.2)
may_stand (says_dual c run dual) stage at w some = absurd w
may_stand (says_proof proof) (want_proof s all x t) zero w some = tt
may_stand (says_proof proof) (want_proof s all x t) (suc m) w some =
    front_of (λ (ways : List Way). IsProofInRange s.size (by_ways proof ways)) (λ front e k. proof_front s.size proof front e k) m proof.ways w
may_stand (says_proof proof) stage at w some = absurd w
may_stand (says_tree (leaf_of denom weights)) (want_tree s places left) zero w some = tt
may_stand (says_tree (leaf_of denom weights)) (want_tree s places left) (suc m) w some =
    front_of (λ (ws : List (ℕ × ℕ)). IsLineInRange s.size (leaf_of denom ws)) (λ front e k. leaf_front s.size denom front e k) m weights w.0
may_stand (says_tree (leaf_of denom weights)) stage at w some = absurd w
may_stand l stage at w some = absurd some

pub has_item : (stage : Stage) (line : code.ListLine) → Wants stage (line_of line) → HasItem (line_of line)
has_item (want_hubs s) (code.TheVariants.Hubs hubs) w = w.0
has_item (want_cut s all x) (code.TheVariants.Mark number part hubs) w = w.1.3.some
has_item stage (code.TheVariants.Dual i j run dual) w = tt
has_item stage (code.TheVariants.Proof proof) w = tt
has_item stage (code.TheVariants.Leaf denom mix) w = tt
has_item stage line w = absurd w

-- ---- what has come of a line

-- the items of lines, and so many of one more
abbrev pub given_at : List Line → Line → ℕ → List Item
given_at lines l at = flat_map parts_of lines ++ part_items (part_at l at)

-- these lines may stand first, and then this one
pub record MayFollow (lines : List Line) (l : Line) : Type 0 where
  pub stage : Stage
  pub lead : Leads want_version lines stage
  pub wants : Wants stage l
  pub last : Stage
  pub whole : Leads want_version (lines ++ l ∷ []) last

pub may_follow : (lines : List Line) (l : Line) → CanLead (lines ++ l ∷ []) → MayFollow lines l
may_follow lines l can =
    let r = leads_last want_version lines l can.0 can.1 in
    record { stage = r.0; lead = r.1; wants = r.2; last = can.0; whole = can.1 }

none_given : (l : Line) → HasItem l → part_items (part_at l 0) ≡ []
none_given (says_hubs hubs) some = refl
none_given (says_marked number part hubs) some = refl
none_given (says_dual c run dual) some = refl
none_given (says_proof proof) some = refl
none_given (says_tree (leaf_of denom weights)) some = refl
none_given l some = absurd some

pub at_first : (lines : List Line) (l : Line) (c : Checks) → HasItem l → HasLines lines c → HasTaken (given_at lines l 0) c
at_first lines l c some h =
    subst (λ given. HasTaken given c) (sym (ap (λ items. flat_map parts_of lines ++ items) (none_given l some) ∙ append-nil (flat_map parts_of lines))) h

pub given_more : (lines : List Line) (l : Line) (at : ℕ) → at < open_items l → given_at lines l at ++ line_item l at false ∷ [] ≡ given_at lines l (at + 1)
given_more lines l at less =
    let next : suc at ≡ at + 1 = omega arith in
    append_assoc (flat_map parts_of lines) (part_items (part_at l at)) (line_item l at false ∷ [])
    ∙ ap (λ items. flat_map parts_of lines ++ items) (sym (more_items l at less))
    ∙ ap (given_at lines l) next

pub given_last : (lines : List Line) (l : Line) → HasItem l
    → given_at lines l (open_items l) ++ line_item l (open_items l) true ∷ [] ≡ flat_map parts_of (lines ++ l ∷ [])
given_last lines l some =
    append_assoc (flat_map parts_of lines) (part_items (part_at l (open_items l))) (line_item l (open_items l) true ∷ [])
    ∙ ap (λ items. flat_map parts_of lines ++ items) (all_items l some ∙ sym (append-nil (parts_of l)))
    ∙ sym (flat_map-append parts_of lines (l ∷ []))

pub parted_more : (lines : List Line) (l : Line) (at : ℕ) → MayFollow lines l → HasItem l → at < open_items l
    → AreParted (given_at lines l at ++ line_item l at false ∷ [])
parted_more lines l at f some less = record {
  lines = lines;
  stage = f.stage;
  part = part_at l (at + 1);
  lead = f.lead;
  are = given_more lines l at less;
  may = may_stand l f.stage (at + 1) f.wants some;
}

-- whole lines, and nothing of another
pub parted_whole : (lines : List Line) (last : Stage) (given : List Item) → Leads want_version lines last → given ≡ flat_map parts_of lines → AreParted given
parted_whole lines last given lead are =
    let e = empty_part last in
    record {
      lines = lines;
      stage = last;
      part = e.0;
      lead = lead;
      are = are ∙ sym (ap (λ items. flat_map parts_of lines ++ items) e.2 ∙ append-nil (flat_map parts_of lines));
      may = e.1;
    }

-- the items of a line that one item makes
pub given_alone : (lines : List Line) (l : Line) (i : Item) → parts_of l ≡ i ∷ [] → flat_map parts_of lines ++ i ∷ [] ≡ flat_map parts_of (lines ++ l ∷ [])
given_alone lines l i e =
    ap (λ items. flat_map parts_of lines ++ items) (sym e ∙ sym (append-nil (parts_of l))) ∙ sym (flat_map-append parts_of lines (l ∷ []))

-- ---- a dual that is known to be feasible

-- this dual of a run is listed
record IsListedAs (p : Problem) (d : ListedDual) (commodity : ℕ × ℕ) (run : ℕ) (dual : Prices) : Type 0 where
  problem_is : d.problem ≡ p
  commodity_is : d.commodity ≡ commodity
  run_is : d.run ≡ run
  dual_is : d.dual ≡ dual

listed_last : (c : Checks) (s : Progress) (sh : Shape) (t : ℕ) (commodity : ℕ × ℕ) (run a : ℕ) (u : List (ℕ × ℕ)) → StandsFirm c s
    → DualsKept c s sh t (part_at (says_dual commodity run (record { a = a; u = u })) (length u))
    → IsListedAs c.instance.now (listed_with c (line_item (says_dual commodity run (record { a = a; u = u })) (length u) true)) commodity run (record { a = a; u = u })
listed_last c s sh t commodity run a [] st k = record { problem_is = st.dual_is; commodity_is = refl; run_is = refl; dual_is = refl }
listed_last c s sh t commodity run a (e ∷ u) st k =
    let m = length u in
    let x = get_or (e ∷ u) m (0, 0) in
    let long : length (e ∷ u) ≡ m + 1 = omega arith in
    record {
      problem_is = st.dual_is;
      commodity_is = k.2.commodity_is;
      run_is = k.2.run_is;
      dual_is = ap (λ (d : Prices). let y : Prices = record { a = d.a; u = d.u ++ x ∷ [] } in y) k.2.dual_is
          ∙ ap (λ (l : List (ℕ × ℕ)). let y : Prices = record { a = a; u = l } in y) (sym (split_last (e ∷ u) m (0, 0) long));
    }

known_as : (p : Problem) (d : ListedDual) (commodity : ℕ × ℕ) (run : ℕ) (dual : Prices) (part : ℕ) → IsListedAs p d commodity run dual
    → IsKnownLine p (says_dual commodity run dual) part → IsKnownWith d part
known_as p d commodity run dual part is h same s below =
    let D : Problem → ℕ → ℕ × ℕ → Prices → Type 0 = λ q e k y. IsDual q e (k.0, k.1 + s) y in
    subst (λ q. D q d.part d.commodity d.dual) (sym is.problem_is)
    (subst (λ e. D p e d.commodity d.dual) same
    (subst (λ k. D p part k d.dual) (sym is.commodity_is)
    (subst (λ y. D p part commodity y) (sym is.dual_is) (h s (omega (arith, below, is.run_is))))))

listed_at : (c : Checks) (s : Progress) (stage : Stage) (commodity : ℕ × ℕ) (run : ℕ) (dual : Prices) → Wants stage (says_dual commodity run dual)
    → StandsFirm c s → Keeps c s stage (part_at (says_dual commodity run dual) (length dual.u))
    → IsListedAs c.instance.now (listed_with c (line_item (says_dual commodity run dual) (length dual.u) true)) commodity run dual
listed_at c s (want_dual sh all x t before) commodity run dual w st k = listed_last c s sh t commodity run dual.a dual.u st k.0
listed_at c s (want_proved sh all x t) commodity run dual w st k = listed_last c s sh t commodity run dual.a dual.u st k.0
listed_at c s stage commodity run dual w st k = absurd w

known_part : (c : Checks) (lines : List Line) (l : Line) (part : ℕ) → MayFollow lines l → HasItem l → HasTaken (given_at lines l (open_items l)) c
    → IsKnownLine c.instance.now l part → c.failure ≡ None → IsKnownWith (listed_with c (line_item l (open_items l) true)) part
known_part c lines (says_dual commodity run dual) part f some has h none =
    let l = says_dual commodity run dual in
    let st = has lines f.stage (part_at l (length dual.u)) f.lead refl (may_stand l f.stage (length dual.u) f.wants some) in
    known_as c.instance.now (listed_with c (line_item l (length dual.u) true)) commodity run dual part
    (listed_at c (after_lines c.instance.now at_start lines) f.stage commodity run dual f.wants (st.standing none) (st.keeps none)) h
known_part c lines l part f some has h none = absurd h

pub is_known : (c : Checks) (lines : List Line) (l : Line) (known : Option ℕ) → MayFollow lines l → HasItem l → HasTaken (given_at lines l (open_items l)) c
    → IfSome known (IsKnownLine c.instance.now l) → IsKnown c (line_item l (open_items l) true) known
is_known c lines l None f some has h none = tt
is_known c lines l (Some part) f some has h none = known_part c lines l part f some has h none
