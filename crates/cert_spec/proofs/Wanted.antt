-- The reading of a line at a stage: it gives an item exactly where the line may stand there and says it.
use Rattle.std.proofs.Common.{◌≡◌, ℕ, ◌+◌, ◌-◌, ◌*◌, ◌/◌, ◌%◌, ◌^◌, ◌<◌, ◌≤◌, Bool, true, false, not, ◌&&◌, ◌||◌, List, [], ◌∷◌, length, map, get_or, decimal, All, Decides, ◌++◌, ◌≢◌, ◌⊎◌, codes, Option, Some, None, nat_eq, nat_lt, nat_le, inl, inr, refl, sym, ap, ◌∙◌, subst, arith, add-one, zero, suc}
use Rattle.std.specs.Prelude.{option_and_then}
use Rattle.std.specs.List.{AllByRecursion, AllPairs, join_with_byte, slice_split, list_all}
use Rattle.std.specs.List.Sorted.{IsStrictlyIncreasing}
use Rattle.std.proofs.lemmas.Bool.{and_from, and_parts, or_cases, or_left, or_right, cases_Bool, cond-true, ltb-true, lt-ltb, leb-true, le-leb, eqb-true, eq-eqb, not-true, not_from_false, false≢true, both_ways}
use Rattle.std.proofs.lemmas.Bool.Decides.{Decides-by_and}
use Rattle.std.proofs.lemmas.Option.{cond_some, none-some, same_Some}
use Rattle.std.proofs.lemmas.List.Splits.{join_with_byte-slice_split}
use Rattle.std.proofs.lemmas.List.Elements.{recursion_from_All}
use Rattle.std.proofs.lemmas.List.Kept.{AllPairs-cons}
use Rattle.std.proofs.lemmas.Nat.{div_below, mod_below}
use Rattle.hub_spec.specs.Limits.{most_nodes, most_part, most_denominator, most_cuts, most_tree_lines}
use Rattle.hub_spec.specs.Problem.{commodity_at}
use Rattle.hub_spec.specs.Cuts.{Prices}
use Rattle.core_spec.specs.CoreCuts.{Way, CoreProof}
use Rattle.core_spec.specs.MarkRanges.{most_turns, most_scale, most_taken, IsWayBefore, IsWayInRange, IsProofInRange, AreMarkHubs}
use Rattle.hub_spec.specs.Trees.{TreeLine, branch_on, leaf_of, no_hub, no_route, no_count}
use Rattle.cert_spec.specs.Text.{same_prices}
use Rattle.cert_spec.proofs.RunLaws.{apart}
use Rattle.cert_spec.proofs.SamePrices.{prices_told}
use Rattle.hub_spec.proofs.SumLemmas.{by_test}
use Rattle.cert_spec.specs.Lines.{Item, says_version, says_size, says_cost, says_bound, says_hubs, says_route, says_cuts, says_cut, says_marked, says_dual, says_proof, says_nodes, says_tree, says_end, keyword, numbers, value_numbers, way_numbers, weight_numbers, part_numbers, run_numbers, node_numbers, words_behind, line_text}
use Rattle.hub_spec.specs.Ranges.{IsShort, IsAmount, IsDualInRange, AreWeightsInRange, IsLineInRange, IsFirstDual, IsFirstLine}
use Rattle.cert_spec.specs.Grammar.{Stage, want_version, want_size, want_end, want_cost, want_bound, want_hubs, want_cuts, want_nodes, want_route, want_cut, want_dual, want_proved, want_proof, want_tree, Shape, places_after, IsOpen, IsPart, IsMarking, IsRun, IsVersion, Wants, IsLine}
use Rattle.cert_spec.specs.Reading.{is_short, is_amount, ascends, same_pair, is_dual_text, is_weights_text, is_tree_line_text, is_later, is_third, is_version, is_part, are_mark_hubs, is_marking, way_before, ways_ascend, is_way_text, is_proof_text, is_first_dual, is_first_line, is_run, is_other, is_open, wants, if_wanted, item_of_words, wanted_item, IsSize, IsStage, LinesReadBack}
use Rattle.cert_spec.proofs.Versions.{later_most, later_decides, third_decides}
use Rattle.cert_spec.proofs.Numbers.{IsWord, IsWord-decimal, IsWord-tested, slice_split-joined, no_line_feed}
use Rattle.cert_spec.proofs.Decoding.{and_then_some, words_of, numbers_behind, words_say, words_back}

Decides-leb : (a b : ℕ) → Decides (nat_le a b) (a ≤ b)
Decides-leb a b = (leb-true a b, le-leb a b)

Decides-ltb : (a b : ℕ) → Decides (nat_lt a b) (a < b)
Decides-ltb a b = (ltb-true a b, lt-ltb a b)

Decides-eqb : (a b : ℕ) → Decides (nat_eq a b) (a ≡ b)
Decides-eqb a b = (eqb-true a b, eq-eqb a b)

short_decides : (n : ℕ) → Decides (is_short n) (IsShort n)
short_decides n = Decides-ltb n (10 ^ 30)

amount_decides : (n : ℕ) → Decides (is_amount n) (IsAmount n)
amount_decides n = Decides-ltb n (10 ^ 33)

both : {P Q : Type 0} (x y : Bool) → Decides x P → Decides y Q → Decides (x && y) (P × Q)
both x y p q = (λ e. (let k = and_parts x y e in (p.0 k.0, q.0 k.1)), λ h. and_from x y (p.1 h.0) (q.1 h.1))

all_three : {P Q R : Type 0} (x y z : Bool) → Decides x P → Decides y Q → Decides z R → Decides (x && (y && z)) (P × Q × R)
all_three x y z p q r = (
  λ e. (let k = and_parts x (y && z) e in let m = and_parts y z k.1 in (p.0 k.0, q.0 m.0, r.0 m.1)),
  λ h. and_from x (y && z) (p.1 h.0) (and_from y z (q.1 h.1) (r.1 h.2)),
)

all_four : {P Q R S : Type 0} (x y z w : Bool) → Decides x P → Decides y Q → Decides z R → Decides w S
    → Decides (x && (y && (z && w))) (P × Q × R × S)
all_four x y z w p q r s = (
  λ e. (let k = and_parts x (y && (z && w)) e in let m = and_parts y (z && w) k.1 in let n = and_parts z w m.1 in (p.0 k.0, q.0 m.0, r.0 n.0, s.0 n.1)),
  λ h. and_from x (y && (z && w)) (p.1 h.0) (and_from y (z && w) (q.1 h.1) (and_from z w (r.1 h.2) (s.1 h.3))),
)

all_five : {P Q R S T : Type 0} (x y z w v : Bool) → Decides x P → Decides y Q → Decides z R → Decides w S → Decides v T
    → Decides (x && (y && (z && (w && v)))) (P × Q × R × S × T)
all_five x y z w v p q r s t =
    let rest = all_four y z w v q r s t in
    let all = both x (y && (z && (w && v))) p rest in (
      λ e. (let k = all.0 e in (k.0, k.1.0, k.1.1, k.1.2, k.1.3)),
      λ h. all.1 (h.0, (h.1, h.2, h.3, h.4)),
    )

either : {P Q : Type 0} (x y : Bool) → Decides x P → Decides y Q → Decides (x || y) (P ⊎ Q)
either x y p q = (
  λ e. elim (or_cases x y e) [ inl one ↦ inl (p.0 one) | inr two ↦ inr (q.0 two) ],
  λ h. elim h [ inl one ↦ or_left x y (p.1 one) | inr two ↦ or_right x y (q.1 two) ],
)

implies : {P Q : Type 0} (x y : Bool) → Decides x P → Decides y Q → Decides (not x || y) (P → Q)
implies x y p q = (
  λ e h. elim (or_cases (not x) y e) [ inl off ↦ absurd (both_ways x (not-true x off) (p.1 h)) | inr on ↦ q.0 on ],
  λ f. elim (cases_Bool x) [ inl on ↦ or_right (not x) y (q.1 (f (p.0 on))) | inr off ↦ or_left (not x) y (not_from_false x off) ],
)

-- the test of ascending ways
way_before_decides : (v w : Way) → Decides (way_before v w) (IsWayBefore v w)
way_before_decides v w =
    either (nat_lt v.0 w.0) (nat_eq v.0 w.0 && nat_lt v.1 w.1) (Decides-ltb v.0 w.0)
    (both (nat_eq v.0 w.0) (nat_lt v.1 w.1) (Decides-eqb v.0 w.0) (Decides-ltb v.1 w.1))

way_before_all : (u v w : Way) → IsWayBefore u v → IsWayBefore v w → IsWayBefore u w
way_before_all u v w h k = elim h [
  | inl less ↦ elim k [ inl more ↦ inl (omega (arith, less, more)) | inr same ↦ inl (omega (arith, less, same.0)) ]
  | inr first ↦ elim k [
    | inl more ↦ inl (omega (arith, first.0, more))
    | inr same ↦ inr (first.0 ∙ same.0, omega (arith, first.1, same.1))
  ]
]

-- the first of ways comes before all others, and these are in order
ways_more : (v w : Way) (rest : List Way) → IsWayBefore v w → AllPairs IsWayBefore (w ∷ rest) → AllPairs IsWayBefore (v ∷ w ∷ rest)
ways_more v w rest before more = AllPairs-cons IsWayBefore v (w ∷ rest) all_later more
  where
    all_later : All (IsWayBefore v) (w ∷ rest)
    all_later zero d h = before
    all_later (suc i) d h = way_before_all v w (get_or rest i d) before (more 0 (suc i) d (omega arith) h)

ways_decide : (ways : List Way) → Decides (ways_ascend ways) (AllPairs IsWayBefore ways)
ways_decide [] = (λ e i j d less within. absurd (omega (arith, within)), λ h. refl)
ways_decide (v ∷ []) = (λ e i j d less within. absurd (omega (arith, less, within)), λ h. refl)
ways_decide (v ∷ w ∷ rest) = (
  λ e. (let k = and_parts (way_before v w) (ways_ascend (w ∷ rest)) e in
      ways_more v w rest ((way_before_decides v w).0 k.0) ((ways_decide (w ∷ rest)).0 k.1)),
  λ h. and_from (way_before v w) (ways_ascend (w ∷ rest)) ((way_before_decides v w).1 (h 0 1 v (omega arith) (omega arith)))
      ((ways_decide (w ∷ rest)).1 (λ i j d less within. h (suc i) (suc j) d (omega (arith, less)) (omega (arith, within)))),
)

-- the test of an ascending list
Rises : List ℕ → Type 0
Rises xs = (k : ℕ) → suc k < length xs → get_or xs k 0 < get_or xs (suc k) 0

rises_more : (x y : ℕ) (rest : List ℕ) → (ascends (y ∷ rest) ≡ true → Rises (y ∷ rest)) → (nat_lt x y && ascends (y ∷ rest)) ≡ true → Rises (x ∷ y ∷ rest)
unfolding Rises
rises_more x y rest more e zero h = ltb-true x y (and_parts (nat_lt x y) (ascends (y ∷ rest)) e).0
rises_more x y rest more e (suc k) h = more (and_parts (nat_lt x y) (ascends (y ∷ rest)) e).1 k (omega (arith, h))

rises_decides : (xs : List ℕ) → Decides (ascends xs) (Rises xs)
unfolding Rises
rises_decides [] = (λ e k h. absurd (omega (arith, h)), λ h. refl)
rises_decides (x ∷ []) = (λ e k h. absurd (omega (arith, h)), λ h. refl)
rises_decides (x ∷ y ∷ rest) = (
  rises_more x y rest (rises_decides (y ∷ rest)).0,
  λ h. and_from (nat_lt x y) (ascends (y ∷ rest)) (lt-ltb x y (h 0 (omega arith))) ((rises_decides (y ∷ rest)).1 (λ k m. h (suc k) (omega (arith, m)))),
)

ascends_decides : (xs : List ℕ) → Decides (ascends xs) (IsStrictlyIncreasing xs)
unfolding Rises
ascends_decides xs = (
  λ e k. subst (λ m. m < length xs → get_or xs k 0 < get_or xs m 0) (sym (add-one k)) ((rises_decides xs).0 e k),
  λ h. (rises_decides xs).1 (λ k. subst (λ m. m < length xs → get_or xs k 0 < get_or xs m 0) (add-one k) (h k)),
)

all_decides : {X : Type 0} (p : X → Bool) (P : X → Type 0) → ((x : X) → Decides (p x) (P x)) → (xs : List X) → Decides (list_all p xs) (All P xs)
all_decides p P each xs = Decides-by_and p P (list_all p) each refl (λ _ _. refl) xs

same_pair_decides : (a b : ℕ × ℕ) → Decides (same_pair a b) (a ≡ b)
same_pair_decides a b = (
  λ e. (let k = and_parts (nat_eq a.0 b.0) (nat_eq a.1 b.1) e in let first = eqb-true a.0 b.0 k.0 in let last = eqb-true a.1 b.1 k.1 in λ i. (first i, last i)),
  λ e. and_from (nat_eq a.0 b.0) (nat_eq a.1 b.1) (eq-eqb a.0 b.0 (ap (λ p. p.0) e)) (eq-eqb a.1 b.1 (ap (λ p. p.1) e)),
)

pub dual_decides : (n : ℕ) (dual : Prices) → Decides (is_dual_text n dual) (IsDualInRange n dual)
dual_decides n dual =
    let k = all_three (is_amount dual.a) (ascends (map (λ (e : ℕ × ℕ). e.0) dual.u)) (list_all (λ (e : ℕ × ℕ). nat_lt e.0 n && (nat_le 1 e.1 && is_amount e.1)) dual.u)
    (amount_decides dual.a) (ascends_decides (map (λ (e : ℕ × ℕ). e.0) dual.u))
    (all_decides (λ (e : ℕ × ℕ). nat_lt e.0 n && (nat_le 1 e.1 && is_amount e.1)) (λ (e : ℕ × ℕ). (e.0 < n) × (1 ≤ e.1) × IsAmount e.1)
    (λ e. all_three (nat_lt e.0 n) (nat_le 1 e.1) (is_amount e.1) (Decides-ltb e.0 n) (Decides-leb 1 e.1) (amount_decides e.1)) dual.u) in
    (λ e. record { a = (k.0 e).0; ascend = (k.0 e).1; each = (k.0 e).2 }, λ h. k.1 (h.a, h.ascend, h.each))

way_decides : (n : ℕ) (w : Way) → Decides (is_way_text n w) (IsWayInRange n w)
way_decides n w =
    let k = all_four (nat_le w.0 w.1) (nat_lt w.1 n) (nat_le 1 w.2) (nat_le w.2 most_taken) (Decides-leb w.0 w.1) (Decides-ltb w.1 n) (Decides-leb 1 w.2)
    (Decides-leb w.2 most_taken) in
    (λ e. record { nodes = (k.0 e).0; last = (k.0 e).1; some = (k.0 e).2; most = (k.0 e).3 }, λ h. k.1 (h.nodes, h.last, h.some, h.most))

proof_decides : (n : ℕ) (proof : CoreProof) → Decides (is_proof_text n proof) (IsProofInRange n proof)
proof_decides n proof =
    let k = all_five (nat_le proof.turns most_turns) (nat_le 1 proof.scale) (nat_le proof.scale most_scale) (ways_ascend proof.ways)
    (list_all (is_way_text n) proof.ways) (Decides-leb proof.turns most_turns) (Decides-leb 1 proof.scale) (Decides-leb proof.scale most_scale)
    (ways_decide proof.ways) (all_decides (is_way_text n) (IsWayInRange n) (way_decides n) proof.ways) in (
      λ e. record { turns = (k.0 e).0; some_scale = (k.0 e).1; scale = (k.0 e).2; ascend = (k.0 e).3; each = (k.0 e).4 },
      λ h. k.1 (h.turns, h.some_scale, h.scale, h.ascend, h.each),
    )

weights_decides : (weights : List (ℕ × ℕ)) → Decides (is_weights_text weights) (AreWeightsInRange weights)
weights_decides weights =
    let k = both (ascends (map (λ (e : ℕ × ℕ). e.0) weights)) (list_all (λ (e : ℕ × ℕ). nat_le 1 e.0 && (is_short e.0 && (nat_le 1 e.1 && is_short e.1))) weights)
    (ascends_decides (map (λ (e : ℕ × ℕ). e.0) weights))
    (all_decides (λ (e : ℕ × ℕ). nat_le 1 e.0 && (is_short e.0 && (nat_le 1 e.1 && is_short e.1))) (λ (e : ℕ × ℕ). (1 ≤ e.0) × IsShort e.0 × (1 ≤ e.1) × IsShort e.1)
    (λ e. all_four (nat_le 1 e.0) (is_short e.0) (nat_le 1 e.1) (is_short e.1) (Decides-leb 1 e.0) (short_decides e.0) (Decides-leb 1 e.1) (short_decides e.1)) weights) in
    (λ e. record { ascend = (k.0 e).0; each = (k.0 e).1 }, λ h. k.1 (h.ascend, h.each))

tree_line_decides : (n : ℕ) (line : TreeLine) → Decides (is_tree_line_text n line) (IsLineInRange n line)
tree_line_decides n (branch_on k) = Decides-ltb k n
tree_line_decides n (leaf_of denom weights) =
    all_three (nat_le 1 denom) (nat_le denom most_denominator) (is_weights_text weights) (Decides-leb 1 denom) (Decides-leb denom most_denominator) (weights_decides weights)
tree_line_decides n no_hub = (λ e. tt, λ h. refl)
tree_line_decides n (no_route commodity) = both (nat_lt commodity.0 n) (nat_lt commodity.1 n) (Decides-ltb commodity.0 n) (Decides-ltb commodity.1 n)
tree_line_decides n no_count = (λ e. tt, λ h. refl)

-- what the version may say
version_decides : (v : ℕ) → Decides (is_version v) (IsVersion v)
version_decides v = either (nat_eq v 1) (is_later v) (Decides-eqb v 1) (later_decides v)

part_decides : (v : ℕ) (part : Option ℕ) → Decides (is_part v part) (IsPart v part)
part_decides v None = Decides-eqb v 1
part_decides v (Some e) = all_three (is_later v) (nat_le 1 e) (nat_le e most_part) (later_decides v) (Decides-leb 1 e) (Decides-leb e most_part)

-- what a marked cut may say
mark_hubs_decide : (n : ℕ) (hubs : List ℕ) → Decides (are_mark_hubs n hubs) (AreMarkHubs n hubs)
mark_hubs_decide n hubs =
    let k = all_three (nat_le 1 (length hubs)) (ascends hubs) (list_all (λ k. nat_lt k n) hubs) (Decides-leb 1 (length hubs)) (ascends_decides hubs)
    (all_decides (λ k. nat_lt k n) (λ k. k < n) (λ k. Decides-ltb k n) hubs) in
    (λ e. record { some = (k.0 e).0; ascend = (k.0 e).1; nodes = (k.0 e).2 }, λ h. k.1 (h.some, h.ascend, h.nodes))

marking_decides : (s : Shape) (part : ℕ) (hubs : List ℕ) → Decides (is_marking s part hubs) (IsMarking s part hubs)
marking_decides s part hubs =
    all_four (is_third s.version) (nat_le 1 part) (nat_le part most_part) (are_mark_hubs s.size hubs) (third_decides s.version) (Decides-leb 1 part)
    (Decides-leb part most_part) (mark_hubs_decide s.size hubs)

pub first_dual_decides : (dual : Prices) → Decides (is_first_dual dual) (IsFirstDual dual)
first_dual_decides dual =
    both (is_short dual.a) (list_all (λ (e : ℕ × ℕ). is_short e.1) dual.u) (short_decides dual.a)
    (all_decides (λ (e : ℕ × ℕ). is_short e.1) (λ (e : ℕ × ℕ). IsShort e.1) (λ e. short_decides e.1) dual.u)

first_line_decides : (line : TreeLine) → Decides (is_first_line line) (IsFirstLine line)
first_line_decides (branch_on k) = (λ e. tt, λ h. refl)
first_line_decides (leaf_of denom weights) = (λ e. tt, λ h. refl)
first_line_decides no_hub = (λ e. tt, λ h. refl)
first_line_decides (no_route commodity) = (λ e. absurd (false≢true e), λ h. absurd h)
first_line_decides no_count = (λ e. absurd (false≢true e), λ h. absurd h)

run_decides : (s : Shape) (t run : ℕ) → Decides (is_run s t run) (IsRun s t run)
run_decides s t run =
    all_three (nat_le 1 run) (nat_le (t % s.size + run) s.size) (not (nat_eq s.version 1) || nat_eq run 1) (Decides-leb 1 run)
    (Decides-leb (t % s.size + run) s.size) (implies (nat_eq s.version 1) (nat_eq run 1) (Decides-eqb s.version 1) (Decides-eqb run 1))

other_decides : (before : Option Prices) (dual : Prices) → Decides (is_other before dual) (before ≢ Some dual)
other_decides None dual = (λ e h. none-some dual h, λ h. refl)
other_decides (Some before) dual = (
  λ e h. apart same_prices prices_told before dual (not-true (same_prices before dual) e) (same_Some before dual h),
  λ h. by_test (same_prices before dual) (λ same. absurd (h (ap Some (prices_told.sound before dual same)))) (λ differ. not_from_false (same_prices before dual) differ),
)

open_decides : (places left : ℕ) → Decides (is_open places left) (IsOpen places left)
open_decides places left = both (nat_le places left) (not (nat_eq places 0) || nat_eq left 0) (Decides-leb places left)
    (implies (nat_eq places 0) (nat_eq left 0) (Decides-eqb places 0) (Decides-eqb left 0))

pub wants_decides : (stage : Stage) (item : Item) → Decides (wants stage item) (Wants stage item)
wants_decides want_version (says_version v) = version_decides v
wants_decides (want_size v) (says_size n q) = all_four (nat_le 1 n) (nat_le n most_nodes) (nat_le 1 q) (nat_le q n) (Decides-leb 1 n) (Decides-leb n most_nodes) (Decides-leb 1 q) (Decides-leb q n)
wants_decides (want_cost s) (says_cost c) = short_decides c
wants_decides (want_bound s) (says_bound b) = short_decides b
wants_decides (want_hubs s) (says_hubs hubs) = all_three (nat_le 1 (length hubs)) (ascends hubs) (list_all (λ k. nat_lt k s.size) hubs)
    (Decides-leb 1 (length hubs)) (ascends_decides hubs) (all_decides (λ k. nat_lt k s.size) (λ k. k < s.size) (λ k. Decides-ltb k s.size) hubs)
wants_decides (want_route s t) (says_route commodity route) =
    all_three (same_pair commodity (commodity_at s.size t)) (nat_lt route.0 s.size) (nat_lt route.1 s.size) (same_pair_decides commodity (commodity_at s.size t)) (Decides-ltb route.0 s.size) (Decides-ltb route.1 s.size)
wants_decides (want_cuts s) (says_cuts all) = Decides-leb all most_cuts
wants_decides (want_cut s all x) (says_cut number part) = both (nat_eq number (x + 1)) (is_part s.version part) (Decides-eqb number (x + 1)) (part_decides s.version part)
wants_decides (want_cut s all x) (says_marked number part hubs) =
    both (nat_eq number (x + 1)) (is_marking s part hubs) (Decides-eqb number (x + 1)) (marking_decides s part hubs)
wants_decides (want_proved s all x t) (says_dual commodity run dual) =
    all_three (same_pair commodity (commodity_at s.size t)) (nat_eq run 1) (is_dual_text s.size dual) (same_pair_decides commodity (commodity_at s.size t))
    (Decides-eqb run 1) (dual_decides s.size dual)
wants_decides (want_proof s all x t) (says_proof proof) = proof_decides s.size proof
wants_decides (want_dual s all x t before) (says_dual commodity run dual) =
    all_five (same_pair commodity (commodity_at s.size t)) (is_run s t run) (is_dual_text s.size dual) (not (nat_eq s.version 1) || is_first_dual dual)
    (is_other before dual) (same_pair_decides commodity (commodity_at s.size t)) (run_decides s t run) (dual_decides s.size dual)
    (implies (nat_eq s.version 1) (is_first_dual dual) (Decides-eqb s.version 1) (first_dual_decides dual)) (other_decides before dual)
wants_decides (want_nodes s) (says_nodes all) = both (nat_le 1 all) (nat_le all most_tree_lines) (Decides-leb 1 all) (Decides-leb all most_tree_lines)
wants_decides (want_tree s places left) (says_tree line) =
    all_three (is_tree_line_text s.size line) (not (nat_eq s.version 1) || is_first_line line)
    (is_open (places_after places line) (left - 1)) (tree_line_decides s.size line)
    (implies (nat_eq s.version 1) (is_first_line line) (Decides-eqb s.version 1) (first_line_decides line))
    (open_decides (places_after places line) (left - 1))
wants_decides want_end says_end = (λ e. tt, λ h. refl)
wants_decides stage item = (λ e. absurd (false≢true e), λ h. absurd h)

-- the numbers of a line that may stand at a stage are short
AreShort : List ℕ → Type 0
AreShort ns = AllByRecursion IsAmount ns

short_nodes : (n : ℕ) (ks : List ℕ) → n ≤ most_nodes → AllByRecursion (λ k. k < n) ks → AreShort (map (λ k. k + 1) ks)
unfolding AreShort
short_nodes n [] few h = tt
short_nodes n (k ∷ ks) few h = (omega (arith, h.0), short_nodes n ks few h.1)

short_values : (n : ℕ) (u : List (ℕ × ℕ)) → n ≤ most_nodes → AllByRecursion (λ (e : ℕ × ℕ). (e.0 < n) × (1 ≤ e.1) × IsAmount e.1) u → AreShort (value_numbers u)
unfolding AreShort
short_values n [] few h = tt
short_values n (e ∷ u) few h = (omega (arith, h.0.0), (omega (arith, h.0.2), short_values n u few h.1))

short_weights : (weights : List (ℕ × ℕ)) → AllByRecursion (λ (e : ℕ × ℕ). (1 ≤ e.0) × IsShort e.0 × (1 ≤ e.1) × IsShort e.1) weights → AreShort (weight_numbers weights)
unfolding AreShort
short_weights [] h = tt
short_weights (e ∷ weights) h = (omega (arith, h.0.1), (omega (arith, h.0.3), short_weights weights h.1))

short_ways : (n : ℕ) (ways : List Way) → n ≤ most_nodes → AllByRecursion (IsWayInRange n) ways → AreShort (way_numbers ways)
unfolding AreShort
short_ways n [] few h = tt
short_ways n (w ∷ ways) few h =
    (omega (arith, h.0.nodes, h.0.last), (omega (arith, h.0.last), (omega (arith, h.0.most), short_ways n ways few h.1)))

-- the nodes of a commodity
pub commodity_nodes : (n t : ℕ) (c : ℕ × ℕ) → 1 ≤ n → t < n * n → c ≡ commodity_at n t → (c.0 < n) × (c.1 < n)
commodity_nodes n t c some below e =
    let first : c.0 ≡ t / n = ap (λ p. p.0) e in
    let last : c.1 ≡ t % n = ap (λ p. p.1) e in
    let row : t / n < n = div_below t n n some below in
    let column : t % n < n = mod_below t n some in
    (omega arith, omega arith)

short_tree_line : (n : ℕ) (line : TreeLine) → n ≤ most_nodes → IsLineInRange n line → AreShort (numbers (says_tree line))
unfolding AreShort
short_tree_line n (branch_on k) few h = (omega (arith, h), tt)
short_tree_line n (leaf_of denom weights) few h = (omega (arith, h.1), short_weights weights (recursion_from_All (λ (e : ℕ × ℕ). (1 ≤ e.0) × IsShort e.0 × (1 ≤ e.1) × IsShort e.1) weights h.2.each))
short_tree_line n no_hub few h = tt
short_tree_line n (no_route commodity) few h = (omega (arith, h.0), (omega (arith, h.1), tt))
short_tree_line n no_count few h = tt

short_part : (v : ℕ) (part : Option ℕ) → IsPart v part → AreShort (part_numbers part)
unfolding AreShort
short_part v None h = tt
short_part v (Some e) h = (omega (arith, h.2), tt)

short_run : (run : ℕ) (rest : List ℕ) → run ≤ most_nodes → AreShort rest → AreShort (run_numbers run ++ rest)
unfolding AreShort
short_run run rest few h = by_test (nat_eq run 1) (λ e. rw e h) (λ e. rw e (omega (arith, few), h))

short_dual : (n t : ℕ) (commodity : ℕ × ℕ) (run : ℕ) (dual : Prices) → IsSize n → t < n * n → commodity ≡ commodity_at n t → run ≤ most_nodes
    → IsDualInRange n dual → AreShort (numbers (says_dual commodity run dual))
unfolding AreShort
short_dual n t commodity run dual size below at few dual_is =
    let c = commodity_nodes n t commodity size.0 below at in (
      omega (arith, c.0, size.1),
      (
        omega (arith, c.1, size.1),
        short_run run (dual.a ∷ value_numbers dual.u) few (
          dual_is.a,
          short_values n dual.u size.1 (recursion_from_All (λ (e : ℕ × ℕ). (e.0 < n) × (1 ≤ e.1) × IsAmount e.1) dual.u dual_is.each),
        ),
      ),
    )

short_numbers : (stage : Stage) (item : Item) → IsStage stage → Wants stage item → AreShort (numbers item)
unfolding AreShort
short_numbers want_version (says_version v) ok h = (elim h [ inl one ↦ omega (arith, one) | inr more ↦ omega (arith, later_most v more) ], tt)
short_numbers (want_size v) (says_size n q) ok h = (omega (arith, h.1), (omega (arith, h.1, h.3), tt))
short_numbers (want_cost s) (says_cost c) ok h = (omega (arith, h), tt)
short_numbers (want_bound s) (says_bound b) ok h = (omega (arith, h), tt)
short_numbers (want_hubs s) (says_hubs hubs) ok h = short_nodes s.size hubs ok.0.1 (recursion_from_All (λ k. k < s.size) hubs h.2)
short_numbers (want_route s t) (says_route commodity route) ok h =
    let c = commodity_nodes s.size t commodity ok.0.0.0 ok.1 h.0 in
    let few : s.size ≤ most_nodes = ok.0.0.1 in
    (omega (arith, c.0, few), (omega (arith, c.1, few), (omega (arith, h.1, few), (omega (arith, h.2, few), tt))))
short_numbers (want_cuts s) (says_cuts all) ok h = (omega (arith, h), tt)
short_numbers (want_cut s all x) (says_cut number part) ok h = (omega (arith, h.0, ok.1.0, ok.1.1), short_part s.version part h.1)
short_numbers (want_cut s all x) (says_marked number part hubs) ok h =
    (omega (arith, h.0, ok.1.0, ok.1.1), (omega (arith, h.1.2), tt))
short_numbers (want_proved s all x t) (says_dual commodity run dual) ok h =
    short_dual s.size t commodity run dual ok.0.0 ok.3 h.0 (omega (arith, h.1)) h.2
short_numbers (want_proof s all x t) (says_proof proof) ok h =
    (omega (arith, h.turns), (omega (arith, h.scale), short_ways s.size proof.ways ok.0.0.1 (recursion_from_All (IsWayInRange s.size) proof.ways h.each)))
short_numbers (want_dual s all x t before) (says_dual commodity run dual) ok h =
    short_dual s.size t commodity run dual ok.0.0 ok.2 h.0 (omega (arith, h.1.1, ok.0.0.1)) h.2
short_numbers (want_nodes s) (says_nodes all) ok h = (omega (arith, h.1), tt)
short_numbers (want_tree s places left) (says_tree line) ok h = short_tree_line s.size line ok.0.1 h.0
short_numbers want_end says_end ok h = tt
short_numbers stage item ok h = absurd h

-- and so are those behind them
short_behind : (stage : Stage) (item : Item) → IsStage stage → Wants stage item → AreShort (numbers_behind item)
unfolding AreShort
short_behind (want_cut s all x) (says_marked number part hubs) ok h =
    short_nodes s.size hubs ok.0.0.1 (recursion_from_All (λ k. k < s.size) hubs h.1.3.nodes)
short_behind stage (says_marked number part hubs) ok h = absurd h
short_behind stage item ok h = tt

-- keywords and decimals are words
keyword_is_word : (item : Item) → IsWord (keyword item)
keyword_is_word (says_version v) = IsWord-tested _ refl
keyword_is_word (says_size n q) = IsWord-tested _ refl
keyword_is_word (says_cost c) = IsWord-tested _ refl
keyword_is_word (says_bound b) = IsWord-tested _ refl
keyword_is_word (says_hubs hubs) = IsWord-tested _ refl
keyword_is_word (says_route commodity route) = IsWord-tested _ refl
keyword_is_word (says_cuts all) = IsWord-tested _ refl
keyword_is_word (says_cut number part) = IsWord-tested _ refl
keyword_is_word (says_marked number part hubs) = IsWord-tested _ refl
keyword_is_word (says_proof proof) = IsWord-tested _ refl
keyword_is_word (says_dual commodity run dual) =
    by_test (nat_eq run 1) (λ e. rw e (IsWord-tested (codes "dual") refl)) (λ e. rw e (IsWord-tested (codes "duals") refl))
keyword_is_word (says_nodes all) = IsWord-tested _ refl
keyword_is_word (says_tree (branch_on k)) = IsWord-tested _ refl
keyword_is_word (says_tree (leaf_of denom weights)) = IsWord-tested _ refl
keyword_is_word (says_tree no_hub) = IsWord-tested _ refl
keyword_is_word (says_tree (no_route commodity)) = IsWord-tested _ refl
keyword_is_word (says_tree no_count) = IsWord-tested _ refl
keyword_is_word says_end = IsWord-tested _ refl

decimals_are_words : (ns : List ℕ) → AreShort ns → AllByRecursion IsWord (map decimal ns)
unfolding AreShort
decimals_are_words [] h = tt
decimals_are_words (n ∷ ns) h = (IsWord-decimal n (omega (arith, h.0)), decimals_are_words ns h.1)

append_words : (xs ys : List (List ℕ)) → AllByRecursion IsWord xs → AllByRecursion IsWord ys → AllByRecursion IsWord (xs ++ ys)
append_words [] ys h k = k
append_words (x ∷ xs) ys h k = (h.0, append_words xs ys h.1 k)

behind_are_words : (item : Item) → AreShort (numbers_behind item) → AllByRecursion IsWord (words_behind item)
behind_are_words (says_marked number part hubs) h = (IsWord-tested (codes "core") refl, decimals_are_words (node_numbers hubs) h)
behind_are_words item h = tt

-- the words of a line
record AreWords (item : Item) : Type 0 where
  short : AreShort (numbers item)
  behind : AreShort (numbers_behind item)
  first : IsWord (keyword item)
  rest : AllByRecursion IsWord (map decimal (numbers item) ++ words_behind item)

are_words : (stage : Stage) (item : Item) → IsStage stage → Wants stage item → AreWords item
are_words stage item s h =
    let short = short_numbers stage item s h in
    let behind = short_behind stage item s h in
    record {
      short = short;
      behind = behind;
      first = keyword_is_word item;
      rest = append_words (map decimal (numbers item)) (words_behind item) (decimals_are_words (numbers item) short) (behind_are_words item behind);
    }

words_of_line : (item : Item) → AreWords item → slice_split (λ b. nat_eq b 32) (line_text item) ≡ words_of item
unfolding line_text
words_of_line item are = slice_split-joined (keyword item) (map decimal (numbers item) ++ words_behind item) are.first are.rest

-- a line has no line feed
pub line_has_no_feed : (stage : Stage) (item : Item) → IsStage stage → Wants stage item → All (λ b. nat_eq b 10 ≡ false) (line_text item)
unfolding line_text
line_has_no_feed stage item s h = let are = are_words stage item s h in no_line_feed (words_of item) (are.first, are.rest)

wanted_item-line : (stage : Stage) (item : Item) → IsStage stage → Wants stage item → wanted_item stage (line_text item) ≡ Some item
unfolding wanted_item AreShort
wanted_item-line stage item s h =
    let are = are_words stage item s h in
    ap (λ words. option_and_then (if_wanted stage) (item_of_words words)) (words_of_line item are)
    ∙ ap (option_and_then (if_wanted stage)) (words_say item are.short are.behind)
    ∙ cond-true (wants stage item) (Some item) None ((wants_decides stage item).1 h)

-- the words that say an item are its line
line_of_words : (words : List (List ℕ)) (item : Item) → item_of_words words ≡ Some item → join_with_byte 32 words ≡ line_text item
unfolding line_text
line_of_words words item e = ap (join_with_byte 32) (sym (words_back words item e))

wanted_item-back : (stage : Stage) (line : List ℕ) (item : Item) → wanted_item stage line ≡ Some item → IsLine stage line item
unfolding wanted_item
wanted_item-back stage line item e =
    let k = and_then_some (if_wanted stage) (item_of_words (slice_split (λ b. nat_eq b 32) line)) item e in
    let m = cond_some (wants stage k.0) k.0 item k.2 in
    let wanted : Wants stage item = subst (Wants stage) m.1 ((wants_decides stage k.0).0 m.0) in
    let text : line ≡ line_text k.0 = sym (join_with_byte-slice_split 32 line) ∙ line_of_words (slice_split (λ b. nat_eq b 32) line) k.0 k.1 in
    record { wanted = wanted; text = text ∙ ap line_text m.1 }

pub lines_read_back_lem : LinesReadBack
lines_read_back_lem stage line item s = (
  wanted_item-back stage line item,
  λ h. ap (wanted_item stage) h.text ∙ wanted_item-line stage item s h.wanted,
)

-- so a line says one item at most
pub one_item : (stage : Stage) (line : List ℕ) (a b : Item) → IsStage stage → IsLine stage line a → IsLine stage line b → a ≡ b
one_item stage line a b s h k =
    same_Some a b (sym ((lines_read_back_lem stage line a s).1 h) ∙ (lines_read_back_lem stage line b s).1 k)
