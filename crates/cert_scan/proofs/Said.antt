-- Numbers that a scan takes to the end of a line make a line that may stand there.
use Rattle.std.proofs.Common.{◌≡◌, ℕ, ◌+◌, ◌-◌, ◌^◌, ◌<◌, ◌≤◌, Bool, true, false, not, ◌&&◌, ◌||◌, List, [], ◌∷◌, length, map, nat_lt, nat_le, nat_eq, refl, sym, ap, ◌∙◌, arith, map-id, ◌++◌, codes, decimal, Option, Some, None, ◌⊎◌, inl, inr, subst}
use Rattle.std.specs.List.{list_all, join_with_byte}
use Rattle.std.proofs.lemmas.Bool.{and_from, and_parts, or_right, leb-true, ltb-true, le-leb, lt-ltb, false≢true, eqb-true, ne_eqb}
use Rattle.std.proofs.lemmas.Option.{none-some}
use Rattle.hub_spec.specs.Limits.{most_denominator, most_nodes, most_part, most_cuts}
use Rattle.core_spec.specs.CoreCuts.{Way, CoreProof}
use Rattle.core_spec.specs.MarkRanges.{most_turns, most_scale, most_taken}
use Rattle.hub_spec.specs.Cuts.{Prices}
use Rattle.hub_spec.specs.Trees.{TreeLine, leaf_of, no_hub, branch_on, no_route}
use Rattle.hub_spec.specs.Ranges.{IsDualInRange, IsFirstDual}
use Rattle.cert_spec.specs.Lines.{says_hubs, says_dual, says_proof, says_tree, Item as Line, says_version, says_size, says_cost, says_bound, says_route, says_cuts, says_cut, says_marked, says_nodes, keyword, numbers, node_numbers, value_numbers, way_numbers, weight_numbers, words_behind, line_text}
use Rattle.cert_spec.specs.Grammar.{Wants, IsOpen, want_hubs}
use Rattle.cert_spec.specs.Reading.{IsStage, ascends, is_amount, is_short, is_dual_text, is_first_dual, is_weights_text, is_tree_line_text, is_first_line, ways_ascend, is_way_text, wants}
use Rattle.cert_spec.proofs.Wanted.{wants_decides, dual_decides, first_dual_decides}
use Rattle.cert_scan.specs.Versions.{version_number, version_of}
use Rattle.cert_scan.specs.Moves.{may_fill, amount_limit, subject_run, taken_by, allowed, more_by, whole_by, open_by, cut_by, part_by, within, follows, alone, way_behind, is_later_way, commodity_by, first_place_of, keyword_of, stage_after_cuts, stage_after_route, first_proved_of, stage_after_subject, stage_after_proof, stage_after_tree, stage_after_filled}
use Rattle.cert_scan.proofs.Climbs.{Climbs, climbs_ascend, climbs_pass, all_pass, WaysClimb, ways_up, ways_pass, Behind, behind_is, way_fits}
use Rattle.cert_scan.proofs.StagesAt.{stage_at, stage_of_subject, text_shape, IsRunOf, run_of, IsCommodity, NamesNodes, commodity_named, alone_run}
use Rattle.cert_scan.proofs.ReadLines.{limit_most, is_hub, is_value, is_listed, is_short_value, is_weight, node_of}
use Rattle.cert_scan.specs.declared.items.Version.{Version as TextVersion}
use Rattle.cert_scan.specs.declared.items.Version.TheVariants.{First, Second, Third}
use Rattle.cert_scan.specs.declared.stages.DualAt.{DualAt}
use Rattle.cert_scan.specs.declared.stages.TreeAt.{TreeAt}
use Rattle.cert_scan.specs.declared.stages.Subject.{Subject}
use Rattle.cert_scan.specs.declared.stages.Subject.TheVariants.{Plain, Proved}
use Rattle.cert_scan.specs.declared.stages.Shape.{Shape}
use Rattle.cert_scan.specs.declared.stages.Stage.TheVariants.{Tree, Proof, Version, Size, Cost, Bound, Hubs, Route, Cuts, Cut, Dual, ProvedDual, Nodes}
use Rattle.std.proofs.lemmas.List.{length-map}
use Rattle.cert_spec.proofs.Versions.{later_not_first}
use Rattle.cert_scan.proofs.Passing.{plain_text, mark_word, mark_text}
use Rattle.cert_scan.proofs.Takes.{OfLater, IsMark, stage_of_head, HasHead, front_of_head, is_in, is_next, place_in, takes, more_takes, end_takes, open_takes}
use Rattle.cert_scan.specs.declared.items.Item.{Item}
use Rattle.cert_scan.specs.declared.items.Item.TheVariants.{Version as version_item, Size as size_item, Cost as cost_item, Bound as bound_item, Hub as hub_item, Route as route_item, Cuts as cuts_item, CoreHub as core_item, Dual as dual_item, DualPair as pair_item, Proof as proof_item, ProofPair as way_item, Nodes as nodes_item, Branch as branch_item, Leaf as leaf_item, LeafPair as weight_item, Block as block_item}
use Rattle.cert_scan.specs.declared.heads.Head.{Head}
use Rattle.cert_scan.specs.declared.heads.Head.TheVariants.{VersionLine, SizeLine, CostLine, BoundLine, HubsLine, RouteLine, CutsLine, CutLine, MarkWord, DualLine, DualsLine, ProvedLine, ProofLine, NodesLine, BranchLine, LeafLine, BlockLine}
use Rattle.cert_scan.specs.declared.places.Place.{Place}
use Rattle.cert_scan.specs.declared.places.Place.TheVariants.{VersionNumber, NodeCount, CandidateCount, CostAmount, BoundAmount, HubNode, RouteFrom, RouteTo, RouteFirst, RouteLast, CutCount, CutNumber, CutPart, MarkHub, DualFrom, DualTo, RunFrom, RunTo, RunLength, ProvedFrom, ProvedTo, DualPrice, ValueNode, ValueAmount, ProofTurns, ProofScale, WayFrom, WayTo, WayTaken, LineCount, BranchNode, BlockFrom, BlockTo, Denominator, WeightCut, WeightAmount}
use Rattle.cert_scan.specs.declared.stages.Commodity.{Commodity}
use Rattle.cert_scan.specs.declared.stages.MarkAt.{MarkAt}
use Rattle.cert_scan.specs.declared.stages.WaysAt.{WaysAt}
use Rattle.cert_scan.specs.declared.stages.LineRun.{LineRun}
use Rattle.cert_scan.specs.declared.stages.Stage.{Stage}

pub hubs_wanted : (sh : Shape) (hubs : List ℕ) (high : ℕ) → 1 ≤ length hubs → Climbs (is_hub sh.n) (λ k. k) 0 hubs high
    → Wants (want_hubs (text_shape sh)) (says_hubs hubs)
hubs_wanted sh hubs high some h =
    let up : ascends hubs ≡ true = ap ascends (sym (map-id hubs)) ∙ climbs_ascend (is_hub sh.n) (λ k. k) 0 hubs high h in
    (wants_decides (want_hubs (text_shape sh)) (says_hubs hubs)).0
    (and_from (nat_le 1 (length hubs)) _ (le-leb 1 (length hubs) some)
    (and_from (ascends hubs) (list_all (is_hub sh.n) hubs) up (climbs_pass (is_hub sh.n) (λ k. k) 0 hubs high h)))

-- a price and values that climb are a dual that a line can list
pub record Listed (sh : Shape) (dual : Prices) : Type 0 where
  pub in_range : IsDualInRange sh.n dual
  pub first : version_number sh.version ≡ 1 → IsFirstDual dual

-- an amount of the first version is short
limit_first : (v : TextVersion) → version_number v ≡ 1 → amount_limit v ≡ 10 ^ 30
limit_first First e = refl
limit_first Second e = absurd (omega (arith, e))
limit_first Third e = absurd (omega (arith, e))

value_listed : (sh : Shape) (e : ℕ × ℕ) → is_value sh e ≡ true → is_listed sh.n e ≡ true
value_listed sh e h =
    let k = and_parts (nat_lt e.0 sh.n) (nat_le 1 e.1 && nat_lt e.1 (amount_limit sh.version)) h in
    let m = and_parts (nat_le 1 e.1) (nat_lt e.1 (amount_limit sh.version)) k.1 in
    let short = ltb-true e.1 (amount_limit sh.version) m.1 in
    and_from (nat_lt e.0 sh.n) (nat_le 1 e.1 && is_amount e.1) k.0
    (and_from (nat_le 1 e.1) (is_amount e.1) m.0 (lt-ltb e.1 (10 ^ 33) (omega (arith, short, limit_most sh.version))))

value_short : (sh : Shape) (first : version_number sh.version ≡ 1) (e : ℕ × ℕ) → is_value sh e ≡ true → is_short_value e ≡ true
value_short sh first e h =
    let k = and_parts (nat_lt e.0 sh.n) (nat_le 1 e.1 && nat_lt e.1 (amount_limit sh.version)) h in
    let short = ltb-true e.1 (amount_limit sh.version) (and_parts (nat_le 1 e.1) (nat_lt e.1 (amount_limit sh.version)) k.1).1 in
    lt-ltb e.1 (10 ^ 30) (omega (arith, short, limit_first sh.version first))

pub climbs_dual : (sh : Shape) (a : ℕ) (u : List (ℕ × ℕ)) (high : ℕ) → a < amount_limit sh.version → Climbs (is_value sh) node_of 0 u high
    → Listed sh (record { a = a; u = u })
climbs_dual sh a u high short h =
    let dual : Prices = record { a = a; u = u } in
    let pass = climbs_pass (is_value sh) node_of 0 u high h in
    let up = climbs_ascend (is_value sh) node_of 0 u high h in
    let amounts : is_dual_text sh.n (record { a = a; u = u }) ≡ true =
    and_from (is_amount a) (ascends (map node_of u) && list_all (is_listed sh.n) u) (lt-ltb a (10 ^ 33) (omega (arith, short, limit_most sh.version)))
    (and_from (ascends (map node_of u)) (list_all (is_listed sh.n) u) up (all_pass (is_value sh) (is_listed sh.n) u (value_listed sh) pass)) in
    let few : version_number sh.version ≡ 1 → is_first_dual (record { a = a; u = u }) ≡ true =
    λ first. and_from (is_short a) (list_all is_short_value u) (lt-ltb a (10 ^ 30) (omega (arith, short, limit_first sh.version first)))
    (all_pass (is_value sh) is_short_value u (value_short sh first) pass) in
    record { in_range = (dual_decides sh.n dual).0 amounts; first = λ first. (first_dual_decides dual).0 (few first) }

pub dual_wanted : (sh : Shape) (subject : Subject) (a : ℕ) (u : List (ℕ × ℕ)) (high : ℕ) → IsCommodity sh.n (subject_run subject).first.commodity
    → IsRunOf sh (subject_run subject) → a < amount_limit sh.version → Climbs (is_value sh) node_of 0 u high
    → Wants (stage_at sh (stage_of_subject subject)) (says_dual ((subject_run subject).first.commodity.from, (subject_run subject).first.commodity.to)
    (subject_run subject).length (record { a = a; u = u }))
dual_wanted sh (Plain run) a u high c is short h =
    let dual : Prices = record { a = a; u = u } in
    let listed = climbs_dual sh a u high short h in (
      sym (commodity_named sh.n run.first.commodity c),
      run_of sh run c is,
      listed.in_range,
      listed.first,
      (λ e. none-some dual e),
    )
dual_wanted sh (Proved d) a u high c is short h = (sym (commodity_named sh.n d.commodity c), refl, (climbs_dual sh a u high short h).in_range)

-- at the stage of a dual not all cuts stand already, and its commodity is named
pub subject_place : (sh : Shape) (subject : Subject) → IsStage (stage_at sh (stage_of_subject subject))
    → (subject_run subject).first.before < (subject_run subject).first.all
subject_place sh (Plain run) s = s.1.0
subject_place sh (Proved d) s = s.2.0

pub subject_nodes : (sh : Shape) (subject : Subject) → NamesNodes sh (stage_of_subject subject) → IsCommodity sh.n (subject_run subject).first.commodity
subject_nodes sh (Plain run) names = names
subject_nodes sh (Proved d) names = names

-- the tests of a tree line that either version has
either_version : (sh : Shape) (line : TreeLine) (fits : Bool) → is_first_line line ≡ true → fits ≡ true
    → ((not (nat_eq (version_number sh.version) 1) || is_first_line line) && fits) ≡ true
either_version sh line fits first room =
    let other = not (nat_eq (version_number sh.version) 1) in
    and_from (other || is_first_line line) fits (or_right other (is_first_line line) first) room

pub empty_wanted : (sh : Shape) (t : TreeAt) → may_fill t ≡ true → Wants (stage_at sh (Tree t)) (says_tree no_hub)
empty_wanted sh t room = (wants_decides (stage_at sh (Tree t)) (says_tree no_hub)).0 (either_version sh no_hub (may_fill t) refl room)

-- where a place may be filled, the tree stays open behind it
pub open_behind : (sh : Shape) (t : TreeAt) → may_fill t ≡ true → IsOpen (t.places - 1) (t.left - 1)
open_behind sh t room = (empty_wanted sh t room).2

pub leaf_wanted : (sh : Shape) (t : TreeAt) (denom : ℕ) (w : List (ℕ × ℕ)) (high : ℕ) → 1 ≤ denom → denom ≤ most_denominator → may_fill t ≡ true → Climbs is_weight node_of 1 w high
    → Wants (stage_at sh (Tree t)) (says_tree (leaf_of denom w))
leaf_wanted sh t denom w high some few room h =
    (wants_decides (stage_at sh (Tree t)) (says_tree (leaf_of denom w))).0
    (and_from (is_tree_line_text sh.n (leaf_of denom w)) _
    (and_from (nat_le 1 denom) _ (le-leb 1 denom some) (and_from (nat_le denom most_denominator) (is_weights_text w) (le-leb denom most_denominator few)
    (and_from (ascends (map node_of w)) (list_all is_weight w) (climbs_ascend is_weight node_of 1 w high h) (climbs_pass is_weight node_of 1 w high h))))
    (either_version sh (leaf_of denom w) (may_fill t) refl room))

-- a proof by its parts
abbrev proof_of : ℕ → ℕ → List Way → CoreProof
proof_of turns scale ways = record { turns = turns; scale = scale; ways = ways }

pub proof_wanted : (sh : Shape) (d : DualAt) (turns scale : ℕ) (ways : List Way) (from to : ℕ) → turns ≤ most_turns → 1 ≤ scale → scale ≤ most_scale
    → WaysClimb sh.n 0 0 ways from to → Wants (stage_at sh (Proof d)) (says_proof (record { turns = turns; scale = scale; ways = ways }))
proof_wanted sh d turns scale ways from to few some most climb =
    let up = ways_ascend ways in
    let pass = list_all (is_way_text sh.n) ways in
    (wants_decides (stage_at sh (Proof d)) (says_proof (proof_of turns scale ways))).0
    (and_from (nat_le turns most_turns) (nat_le 1 scale && (nat_le scale most_scale && (up && pass))) (le-leb turns most_turns few)
    (and_from (nat_le 1 scale) (nat_le scale most_scale && (up && pass)) (le-leb 1 scale some)
    (and_from (nat_le scale most_scale) (up && pass) (le-leb scale most_scale most)
    (and_from up pass (ways_up sh.n 0 0 ways from to climb) (ways_pass sh.n 0 0 ways from to climb)))))

-- the word and the numbers are a line that may stand at this stage
pub record Says (sh : Shape) (stage : Stage) (word ns : List ℕ) : Type 0 where
  pub line : Line
  pub wanted : Wants (stage_at sh stage) line
  pub text : line_text line ≡ join_with_byte 32 (word ∷ map decimal ns)

says : (sh : Shape) (stage : Stage) (word ns : List ℕ) (line : Line) → Wants (stage_at sh stage) line → keyword line ≡ word → numbers line ≡ ns
    → words_behind line ≡ [] → Says sh stage word ns
says sh stage word ns line w k e none = record { line = line; wanted = w; text = plain_text line word ns k e none }

-- ---- lists

record HubsSaid (n before : ℕ) (ns : List ℕ) : Type 0 where
  hubs : List ℕ
  numbers : ns ≡ node_numbers hubs
  high : ℕ
  climbs : Climbs (is_hub n) (λ k. k) before hubs high

hubs_said : (sh : Shape) (place : ℕ → Place) (item : ℕ → Bool → Item) (stage : Stage)
    → ((before v : ℕ) (last : Bool) → taken_by sh (place before) v last ≡ allowed (follows sh.n before v) last (open_by last (item v last) (place v) stage))
    → (before : ℕ) (ns : List ℕ) → (ns ≡ []) ⊎ (takes sh (Some (place before)) ns ≡ true) → HubsSaid sh.n before ns
hubs_said sh place item stage is before [] h = record { hubs = []; numbers = refl; high = before; climbs = refl }
hubs_said sh place item stage is before (v ∷ ns) (inl none) = absurd (cc)
hubs_said sh place item stage is before (v ∷ ns) (inr h) =
    let o = open_takes sh (place before) (place v) v ns (follows sh.n before v) (item v) stage (is before v) h in
    let f = is_next sh.n before v o.0 in
    let low = f.low in
    let high = f.high in
    let node : v - 1 + 1 ≡ v = omega arith in
    let r = hubs_said sh place item stage is v ns o.1 in
    record {
      hubs = (v - 1) ∷ r.hubs;
      numbers = (λ i. sym node i ∷ r.numbers i);
      high = r.high;
      climbs = (omega arith, lt-ltb (v - 1) sh.n (omega arith), subst (λ x. Climbs (is_hub sh.n) (λ k. k) x r.hubs r.high) (sym node) r.climbs);
    }

takes_some : (sh : Shape) (place : Place) (ns : List ℕ) → takes sh (Some place) ns ≡ true → 1 ≤ length ns
takes_some sh place [] h = absurd (false≢true h)
takes_some sh place (v ∷ ns) h = omega arith

some_hubs : {n before : ℕ} {ns : List ℕ} (h : HubsSaid n before ns) → 1 ≤ length ns → 1 ≤ length h.hubs
some_hubs h some = omega (arith, ap length h.numbers, length-map h.hubs (λ k. k + 1))

record ValuesSaid (sh : Shape) (before : ℕ) (ns : List ℕ) : Type 0 where
  u : List (ℕ × ℕ)
  numbers : ns ≡ value_numbers u
  high : ℕ
  climbs : Climbs (is_value sh) node_of before u high

values_said : (sh : Shape) (subject : Subject) (before : ℕ) (ns : List ℕ) → (ns ≡ []) ⊎ (takes sh (Some (ValueNode subject before)) ns ≡ true)
    → ValuesSaid sh before ns
values_said sh subject before [] h = record { u = []; numbers = refl; high = before; climbs = refl }
values_said sh subject before (k ∷ ns) (inl none) = absurd (cc)
values_said sh subject before (k ∷ []) (inr h) =
    absurd (false≢true (more_takes sh (ValueNode subject before) (ValueAmount subject k) k [] (follows sh.n before k) (λ last. refl) h).1)
values_said sh subject before (k ∷ v ∷ ns) (inr h) =
    let a = more_takes sh (ValueNode subject before) (ValueAmount subject k) k (v ∷ ns) (follows sh.n before k) (λ last. refl) h in
    let few = nat_le 1 v && nat_lt v (amount_limit sh.version) in
    let o = open_takes sh (ValueAmount subject k) (ValueNode subject k) v ns few (pair_item (k - 1) v) (stage_after_subject sh.n subject) (λ last. refl) a.1 in
    let f = is_next sh.n before k a.0 in
    let low = f.low in
    let high = f.high in
    let node : k - 1 + 1 ≡ k = omega arith in
    let r = values_said sh subject k ns o.1 in
    record {
      u = (k - 1, v) ∷ r.u;
      numbers = (λ i. sym node i ∷ v ∷ r.numbers i);
      high = r.high;
      climbs = (omega arith, and_from (nat_lt (k - 1) sh.n) few (lt-ltb (k - 1) sh.n (omega arith)) o.0, subst (λ x. Climbs (is_value sh) node_of x r.u r.high) (sym node) r.climbs);
    }

record WeightsSaid (before : ℕ) (ns : List ℕ) : Type 0 where
  weights : List (ℕ × ℕ)
  numbers : ns ≡ weight_numbers weights
  high : ℕ
  climbs : Climbs is_weight node_of (before + 1) weights high

weights_said : (sh : Shape) (t : TreeAt) (before : ℕ) (ns : List ℕ) → (ns ≡ []) ⊎ (takes sh (Some (WeightCut t before)) ns ≡ true) → WeightsSaid before ns
weights_said sh t before [] h = record { weights = []; numbers = refl; high = before + 1; climbs = refl }
weights_said sh t before (c ∷ ns) (inl none) = absurd (cc)
weights_said sh t before (c ∷ []) (inr h) =
    absurd (false≢true (more_takes sh (WeightCut t before) (WeightAmount t c) c [] (nat_lt before c && is_short c) (λ last. refl) h).1)
weights_said sh t before (c ∷ v ∷ ns) (inr h) =
    let a = more_takes sh (WeightCut t before) (WeightAmount t c) c (v ∷ ns) (nat_lt before c && is_short c) (λ last. refl) h in
    let few = nat_le 1 v && is_short v in
    let o = open_takes sh (WeightAmount t c) (WeightCut t c) v ns few (weight_item c v) (stage_after_filled t) (λ last. refl) a.1 in
    let k = and_parts (nat_lt before c) (is_short c) a.0 in
    let low = ltb-true before c k.0 in
    let r = weights_said sh t c ns o.1 in
    record {
      weights = (c, v) ∷ r.weights;
      numbers = ap (λ l. c ∷ v ∷ l) r.numbers;
      high = r.high;
      climbs = (omega arith, and_from (nat_le 1 c) (is_short c && few) (le-leb 1 c (omega arith)) (and_from (is_short c) few k.1 o.0), r.climbs);
    }

-- the first node of a way, and the second
way_begun : (sh : Shape) (d : DualAt) (from to k : ℕ) (ns : List ℕ) → takes sh (Some (WayFrom (way_behind d from to))) (k ∷ ns) ≡ true
    → (within k sh.n ≡ true) × (takes sh (Some (WayTo (way_behind d from to) k)) ns ≡ true)
way_begun sh d from to k ns h = more_takes sh (WayFrom (way_behind d from to)) (WayTo (way_behind d from to) k) k ns (within k sh.n) (λ last. refl) h

way_goes_on : (sh : Shape) (at : WaysAt) (k m : ℕ) (ns : List ℕ) → takes sh (Some (WayTo at k)) (m ∷ ns) ≡ true
    → ((nat_le k m && (nat_le m sh.n && is_later_way at k m)) ≡ true) × (takes sh (Some (WayTaken (way_behind at.dual k m))) ns ≡ true)
way_goes_on sh at k m ns h = more_takes sh (WayTo at k) (WayTaken (way_behind at.dual k m)) m ns (nat_le k m && (nat_le m sh.n && is_later_way at k m)) (λ last. refl) h

record WaysSaid (n from to : ℕ) (ns : List ℕ) : Type 0 where
  ways : List Way
  numbers : ns ≡ way_numbers ways
  first : ℕ
  last : ℕ
  climb : WaysClimb n from to ways first last

ways_said : (sh : Shape) (d : DualAt) (from to : ℕ) (ns : List ℕ) → (ns ≡ []) ⊎ (takes sh (Some (WayFrom (way_behind d from to))) ns ≡ true)
    → WaysSaid sh.n from to ns
ways_said sh d from to [] h = record { ways = []; numbers = refl; first = from; last = to; climb = (refl, refl) }
ways_said sh d from to (k ∷ ns) (inl none) = absurd (cc)
ways_said sh d from to (k ∷ []) (inr h) = absurd (false≢true (way_begun sh d from to k [] h).1)
ways_said sh d from to (k ∷ m ∷ []) (inr h) = absurd (false≢true (way_goes_on sh (way_behind d from to) k m [] (way_begun sh d from to k (m ∷ []) h).1).1)
ways_said sh d from to (k ∷ m ∷ y ∷ ns) (inr h) =
    let at = way_behind d from to in
    let later = is_later_way at k m in
    let a = way_begun sh d from to k (m ∷ y ∷ ns) h in
    let b = way_goes_on sh at k m (y ∷ ns) a.1 in
    let o = open_takes sh (WayTaken (way_behind d k m)) (WayFrom (way_behind d k m)) y ns (within y most_taken) (way_item (k - 1) (m - 1) y)
    (stage_after_proof sh.n d) (λ last. refl) b.1 in
    let p = and_parts (nat_le k m) (nat_le m sh.n && later) b.0 in
    let q = and_parts (nat_le m sh.n) later p.1 in
    let i = is_in y most_taken o.0 in
    let some = (is_in k sh.n a.0).low in
    let order = leb-true k m p.0 in
    let high = leb-true m sh.n q.0 in
    let first : k - 1 + 1 ≡ k = omega arith in
    let second : m - 1 + 1 ≡ m = omega arith in
    let r = ways_said sh d k m ns o.1 in
    record {
      ways = (k - 1, m - 1, y) ∷ r.ways;
      numbers = (λ j. sym first j ∷ sym second j ∷ y ∷ r.numbers j);
      first = r.first;
      last = r.last;
      climb = (
        subst (λ x. Behind from to x (m - 1 + 1)) (sym first) (subst (Behind from to k) (sym second) (behind_is from to k m q.1)),
        way_fits sh.n (k - 1, m - 1, y) (record { order = omega arith; node = omega arith; some = i.low; few = i.high }),
        subst (λ x. WaysClimb sh.n x (m - 1 + 1) r.ways r.first r.last) (sym first)
            (subst (λ x. WaysClimb sh.n k x r.ways r.first r.last) (sym second) r.climb),
      );
    }

-- ---- lines

-- a line of one number
one_said : (sh : Shape) (stage : Stage) (word : List ℕ) (place : Place) (line : ℕ → Line) (item : ℕ → Option Item) (after : ℕ → Stage)
    → ((v : ℕ) (last : Bool) → taken_by sh place v last ≡ allowed (wants (stage_at sh stage) (line v)) last (whole_by last (item v) (after v)))
    → ((v : ℕ) → (keyword (line v) ≡ word) × (numbers (line v) ≡ v ∷ []) × (words_behind (line v) ≡ []))
    → (ns : List ℕ) → takes sh (Some place) ns ≡ true → Says sh stage word ns
one_said sh stage word place line item after is spelled [] h = absurd (false≢true h)
one_said sh stage word place line item after is spelled (v ∷ ns) h =
    let e = end_takes sh place v ns (wants (stage_at sh stage) (line v)) (λ last. whole_by last (item v) (after v)) (is v) refl h in
    says sh stage word (v ∷ ns) (line v) ((wants_decides (stage_at sh stage) (line v)).0 e.0) (spelled v).0 ((spelled v).1 ∙ ap (λ l. v ∷ l) (sym e.1)) (spelled v).2

size_said : (sh : Shape) (ns : List ℕ) → takes sh (Some NodeCount) ns ≡ true → Says sh Size (codes "size") ns
size_said sh [] h = absurd (false≢true h)
size_said sh (n ∷ []) h = absurd (false≢true (more_takes sh NodeCount (CandidateCount n) n [] (within n most_nodes) (λ last. refl) h).1)
size_said sh (n ∷ q ∷ ns) h =
    let a = more_takes sh NodeCount (CandidateCount n) n (q ∷ ns) (within n most_nodes) (λ last. refl) h in
    let e = end_takes sh (CandidateCount n) q ns (within q n) (λ last. whole_by last (Some (size_item n q)) Cost) (λ last. refl) refl a.1 in
    let i = is_in n most_nodes a.0 in
    let k = is_in q n e.0 in
    says sh Size (codes "size") (n ∷ q ∷ ns) (says_size n q) (i.low, i.high, k.low, k.high) refl (ap (λ l. n ∷ q ∷ l) (sym e.1)) refl

hubs_line : (sh : Shape) (ns : List ℕ) → takes sh (Some (HubNode 0)) ns ≡ true → Says sh Hubs (codes "hubs") ns
hubs_line sh ns h =
    let r = hubs_said sh HubNode (λ v last. hub_item (v - 1) last) (Route (commodity_by 0 0)) (λ before v last. refl) 0 ns (inr h) in
    says sh Hubs (codes "hubs") ns (says_hubs r.hubs) (hubs_wanted sh r.hubs r.high (some_hubs r (takes_some sh (HubNode 0) ns h)) r.climbs) refl (sym r.numbers) refl

mark_line : (sh : Shape) (at : MarkAt) (ns : List ℕ) → IsMark sh at → takes sh (Some (MarkHub at 0)) ns ≡ true
    → Says sh (Cut at.all (at.number - 1)) (mark_word at) ns
mark_line sh at ns mark h =
    let r = hubs_said sh (MarkHub at) (λ v last. core_item (v - 1) last) (first_proved_of at.all (at.number - 1)) (λ before v last. refl) 0 ns (inr h) in
    let w = hubs_wanted sh r.hubs r.high (some_hubs r (takes_some sh (MarkHub at 0) ns h)) r.climbs in
    let some = mark.number in
    record {
      line = says_marked at.number at.part r.hubs;
      wanted = (omega arith, (ap version_number mark.third, mark.some, mark.most, record { some = w.0; ascend = w.1; nodes = w.2 }));
      text = mark_text at r.hubs ∙ ap (λ l. join_with_byte 32 (mark_word at ∷ map decimal l)) (sym r.numbers);
    }

-- the nodes of a commodity stand before the other numbers
record NodesSaid (sh : Shape) (c : Commodity) (next : Place) (ns : List ℕ) : Type 0 where
  rest : List ℕ
  numbers : ns ≡ (c.from + 1) ∷ (c.to + 1) ∷ rest
  takes_rest : takes sh (Some next) rest ≡ true

nodes_said : (sh : Shape) (c : Commodity) (from to next : Place) → ((v : ℕ) (last : Bool) → taken_by sh from v last ≡ allowed (nat_eq v (c.from + 1)) last (more_by last to))
    → ((v : ℕ) (last : Bool) → taken_by sh to v last ≡ allowed (nat_eq v (c.to + 1)) last (more_by last next))
    → (ns : List ℕ) → takes sh (Some from) ns ≡ true → NodesSaid sh c next ns
nodes_said sh c from to next is then [] h = absurd (false≢true h)
nodes_said sh c from to next is then (i ∷ []) h = absurd (false≢true (more_takes sh from to i [] (nat_eq i (c.from + 1)) (is i) h).1)
nodes_said sh c from to next is then (i ∷ j ∷ ns) h =
    let a = more_takes sh from to i (j ∷ ns) (nat_eq i (c.from + 1)) (is i) h in
    let b = more_takes sh to next j ns (nat_eq j (c.to + 1)) (then j) a.1 in
    let first = eqb-true i (c.from + 1) a.0 in
    let second = eqb-true j (c.to + 1) b.0 in
    record { rest = ns; numbers = (λ t. first t ∷ second t ∷ ns); takes_rest = b.1 }

route_behind : (sh : Shape) (c : Commodity) (ns : List ℕ) → takes sh (Some (RouteFirst c)) ns ≡ true
    → (k m : ℕ) × (k < sh.n) × (m < sh.n) × (ns ≡ (k + 1) ∷ (m + 1) ∷ [])
route_behind sh c [] h = absurd (false≢true h)
route_behind sh c (k ∷ []) h = absurd (false≢true (more_takes sh (RouteFirst c) (RouteLast c (k - 1)) k [] (within k sh.n) (λ last. refl) h).1)
route_behind sh c (k ∷ m ∷ ns) h =
    let a = more_takes sh (RouteFirst c) (RouteLast c (k - 1)) k (m ∷ ns) (within k sh.n) (λ last. refl) h in
    let route = λ (last : Bool). whole_by last (Some (route_item c.from c.to (k - 1) (m - 1))) (stage_after_route sh.n c) in
    let e = end_takes sh (RouteLast c (k - 1)) m ns (within m sh.n) route (λ last. refl) refl a.1 in
    let i = is_in k sh.n a.0 in
    let o = is_in m sh.n e.0 in
    let first_low = i.low in
    let first_high = i.high in
    let last_low = o.low in
    let last_high = o.high in
    let first : k - 1 + 1 ≡ k = omega arith in
    let second : m - 1 + 1 ≡ m = omega arith in
    (k - 1, m - 1, omega arith, omega arith, (λ t. sym first t ∷ sym second t ∷ e.1 t))

route_said : (sh : Shape) (c : Commodity) (ns : List ℕ) → IsCommodity sh.n c → takes sh (Some (RouteFrom c)) ns ≡ true → Says sh (Route c) (codes "route") ns
route_said sh c ns names h =
    let a = nodes_said sh c (RouteFrom c) (RouteTo c) (RouteFirst c) (λ v last. refl) (λ v last. refl) ns h in
    let r = route_behind sh c a.rest a.takes_rest in
    says sh (Route c) (codes "route") ns (says_route (c.from, c.to) (r.0, r.1)) (sym (commodity_named sh.n c names), r.2, r.3) refl
    (ap (λ l. (c.from + 1) ∷ (c.to + 1) ∷ l) (sym r.4) ∙ sym a.numbers) refl

-- no number stands behind a part
no_number : (version : TextVersion) (at : MarkAt) → place_in (part_by version at false).position ≡ None
no_number First at = refl
no_number v at = refl

-- the part of a cut ends its line, or a word stands behind it
part_takes : (sh : Shape) (version : TextVersion) (all number v : ℕ) (ns : List ℕ) → sh.version ≡ version → takes sh (Some (CutPart all number)) (v ∷ ns) ≡ true
    → (within v most_part ≡ true) × (ns ≡ [])
part_takes sh version all number v ns is h =
    let part = λ (version : TextVersion) (last : Bool). part_by version (record { all = all; number = number; part = v }) last in
    end_takes sh (CutPart all number) v ns (within v most_part) (part version) (λ last. ap (λ x. allowed (within v most_part) last (part x last)) is) (no_number version _) h

parted_said : (sh : Shape) (version : TextVersion) (all before x : ℕ) (ns : List ℕ) → sh.version ≡ version → OfLater sh
    → ((last : Bool) → cut_by sh.version all x last ≡ more_by last (CutPart all x)) → takes sh (Some (CutNumber all before)) (x ∷ ns) ≡ true
    → Says sh (Cut all before) (codes "cut") (x ∷ ns)
parted_said sh version all before x [] is later cut h =
    let test = nat_eq x (before + 1) && nat_le x most_cuts in
    absurd (false≢true (more_takes sh (CutNumber all before) (CutPart all x) x [] test (λ last. ap (allowed test last) (cut last)) h).1)
parted_said sh version all before x (v ∷ ns) is later cut h =
    let test = nat_eq x (before + 1) && nat_le x most_cuts in
    let a = more_takes sh (CutNumber all before) (CutPart all x) x (v ∷ ns) test (λ last. ap (allowed test last) (cut last)) h in
    let e = part_takes sh version all x v ns is a.1 in
    let i = is_in v most_part e.0 in
    says sh (Cut all before) (codes "cut") (x ∷ v ∷ ns) (says_cut x (Some v))
    (eqb-true x (before + 1) (and_parts (nat_eq x (before + 1)) (nat_le x most_cuts) a.0).0, (later, i.low, i.high)) refl (ap (λ l. x ∷ v ∷ l) (sym e.1)) refl

cut_said : (sh : Shape) (version : TextVersion) (all before : ℕ) (ns : List ℕ) → sh.version ≡ version → takes sh (Some (CutNumber all before)) ns ≡ true
    → Says sh (Cut all before) (codes "cut") ns
cut_said sh version all before [] is h = absurd (false≢true h)
cut_said sh First all before (x ∷ ns) is h =
    let test = nat_eq x (before + 1) && nat_le x most_cuts in
    let cut = λ (version : TextVersion) (last : Bool). cut_by version all x last in
    let e = end_takes sh (CutNumber all before) x ns test (cut First) (λ last. ap (λ v. allowed test last (cut v last)) is) refl h in
    says sh (Cut all before) (codes "cut") (x ∷ ns) (says_cut x None)
    (eqb-true x (before + 1) (and_parts (nat_eq x (before + 1)) (nat_le x most_cuts) e.0).0, ap version_number is) refl (ap (λ l. x ∷ l) (sym e.1)) refl
cut_said sh Second all before (x ∷ ns) is h = parted_said sh Second all before x ns is (inl (ap version_number is)) (λ last. ap (λ v. cut_by v all x last) is) h
cut_said sh Third all before (x ∷ ns) is h = parted_said sh Third all before x ns is (inr (ap version_number is)) (λ last. ap (λ v. cut_by v all x last) is) h

-- the price and the values of a dual
record PriceSaid (sh : Shape) (subject : Subject) (ns : List ℕ) : Type 0 where
  dual : Prices
  numbers : ns ≡ dual.a ∷ value_numbers dual.u
  wanted : Wants (stage_at sh (stage_of_subject subject)) (says_dual ((subject_run subject).first.commodity.from, (subject_run subject).first.commodity.to) (subject_run subject).length dual)

price_said : (sh : Shape) (subject : Subject) (ns : List ℕ) → IsCommodity sh.n (subject_run subject).first.commodity → IsRunOf sh (subject_run subject)
    → takes sh (Some (DualPrice subject)) ns ≡ true → PriceSaid sh subject ns
price_said sh subject [] c is h = absurd (false≢true h)
price_said sh subject (a ∷ ns) c is h =
    let run = subject_run subject in
    let o = open_takes sh (DualPrice subject) (ValueNode subject 0) a ns (nat_lt a (amount_limit sh.version))
    (dual_item run.first.commodity.from run.first.commodity.to run.length a) (stage_after_subject sh.n subject) (λ last. refl) h in
    let r = values_said sh subject 0 ns o.1 in
    record {
      dual = record { a = a; u = r.u };
      numbers = ap (λ l. a ∷ l) r.numbers;
      wanted = dual_wanted sh subject a r.u r.high c is (ltb-true a (amount_limit sh.version) o.0) r.climbs;
    }

dual_said : (sh : Shape) (d : DualAt) (ns : List ℕ) → IsCommodity sh.n d.commodity → takes sh (Some (DualFrom d)) ns ≡ true → Says sh (Dual d) (codes "dual") ns
dual_said sh d ns c h =
    let a = nodes_said sh d.commodity (DualFrom d) (DualTo d) (DualPrice (Plain (alone d))) (λ v last. refl) (λ v last. refl) ns h in
    let p = price_said sh (Plain (alone d)) a.rest c (alone_run sh d c) a.takes_rest in
    says sh (Dual d) (codes "dual") ns (says_dual (d.commodity.from, d.commodity.to) 1 p.dual) p.wanted refl
    (ap (λ l. (d.commodity.from + 1) ∷ (d.commodity.to + 1) ∷ l) (sym p.numbers) ∙ sym a.numbers) refl

proved_said : (sh : Shape) (d : DualAt) (ns : List ℕ) → IsCommodity sh.n d.commodity → takes sh (Some (ProvedFrom d)) ns ≡ true
    → Says sh (ProvedDual d) (codes "dual") ns
proved_said sh d ns c h =
    let a = nodes_said sh d.commodity (ProvedFrom d) (ProvedTo d) (DualPrice (Proved d)) (λ v last. refl) (λ v last. refl) ns h in
    let p = price_said sh (Proved d) a.rest c (alone_run sh d c) a.takes_rest in
    says sh (ProvedDual d) (codes "dual") ns (says_dual (d.commodity.from, d.commodity.to) 1 p.dual) p.wanted refl
    (ap (λ l. (d.commodity.from + 1) ∷ (d.commodity.to + 1) ∷ l) (sym p.numbers) ∙ sym a.numbers) refl

run_behind : (sh : Shape) (d : DualAt) (ns : List ℕ) → OfLater sh → IsCommodity sh.n d.commodity → takes sh (Some (RunLength d)) ns ≡ true
    → (length : ℕ) × (2 ≤ length) × (rest : List ℕ) × (ns ≡ length ∷ rest) × PriceSaid sh (Plain (record { first = d; length = length })) rest
run_behind sh d [] later c h = absurd (false≢true h)
run_behind sh d (v ∷ ns) later c h =
    let test = nat_le 2 v && nat_le (d.commodity.to + v) sh.n in
    let run : LineRun = record { first = d; length = v } in
    let a = more_takes sh (RunLength d) (DualPrice (Plain run)) v ns test (λ last. refl) h in
    let k = and_parts (nat_le 2 v) (nat_le (d.commodity.to + v) sh.n) a.0 in
    let several = leb-true 2 v k.0 in
    let is : IsRunOf sh run = record {
      some = omega arith;
      within = leb-true (d.commodity.to + v) sh.n k.1;
      first = λ one. absurd (later_not_first (version_number sh.version) later one);
    } in
    (v, several, ns, refl, price_said sh (Plain run) ns c is a.1)

run_said : (sh : Shape) (d : DualAt) (ns : List ℕ) → OfLater sh → IsCommodity sh.n d.commodity → takes sh (Some (RunFrom d)) ns ≡ true
    → Says sh (Dual d) (codes "duals") ns
run_said sh d ns later c h =
    let a = nodes_said sh d.commodity (RunFrom d) (RunTo d) (RunLength d) (λ v last. refl) (λ v last. refl) ns h in
    let r = run_behind sh d a.rest later c a.takes_rest in
    let several = r.1 in
    let other : nat_eq r.0 1 ≡ false = ne_eqb r.0 1 (λ one. omega (arith, one, several)) in
    let p = r.4 in
    says sh (Dual d) (codes "duals") ns (says_dual (d.commodity.from, d.commodity.to) r.0 p.dual) p.wanted (rw other refl)
    (rw other (ap (λ l. (d.commodity.from + 1) ∷ (d.commodity.to + 1) ∷ r.0 ∷ l) (sym p.numbers) ∙ ap (λ l. (d.commodity.from + 1) ∷ (d.commodity.to + 1) ∷ l) (sym r.3) ∙ sym a.numbers)) refl

proof_said : (sh : Shape) (d : DualAt) (ns : List ℕ) → takes sh (Some (ProofTurns d)) ns ≡ true → Says sh (Proof d) (codes "proof") ns
proof_said sh d [] h = absurd (false≢true h)
proof_said sh d (t ∷ []) h = absurd (false≢true (more_takes sh (ProofTurns d) (ProofScale d t) t [] (nat_le t most_turns) (λ last. refl) h).1)
proof_said sh d (t ∷ g ∷ ns) h =
    let a = more_takes sh (ProofTurns d) (ProofScale d t) t (g ∷ ns) (nat_le t most_turns) (λ last. refl) h in
    let o = open_takes sh (ProofScale d t) (WayFrom (way_behind d 0 0)) g ns (within g most_scale) (proof_item t g) (stage_after_proof sh.n d) (λ last. refl) a.1 in
    let i = is_in g most_scale o.0 in
    let r = ways_said sh d 0 0 ns o.1 in
    says sh (Proof d) (codes "proof") (t ∷ g ∷ ns) (says_proof (record { turns = t; scale = g; ways = r.ways }))
    (proof_wanted sh d t g r.ways r.first r.last (leb-true t most_turns a.0) i.low i.high r.climb) refl (ap (λ l. t ∷ g ∷ l) (sym r.numbers)) refl

branch_said : (sh : Shape) (t : TreeAt) (ns : List ℕ) → takes sh (Some (BranchNode t)) ns ≡ true → Says sh (Tree t) (codes "branch") ns
branch_said sh t [] h = absurd (false≢true h)
branch_said sh t (v ∷ ns) h =
    let branch = λ (last : Bool). whole_by last (Some (branch_item (v - 1))) (stage_after_tree (t.places + 1) (t.left - 1)) in
    let e = end_takes sh (BranchNode t) v ns (within v sh.n && nat_lt t.places (t.left - 1)) branch (λ last. refl) refl h in
    let k = and_parts (within v sh.n) (nat_lt t.places (t.left - 1)) e.0 in
    let i = is_in v sh.n k.0 in
    let low = i.low in
    let high = i.high in
    let room = ltb-true t.places (t.left - 1) k.1 in
    let node : v - 1 + 1 ≡ v = omega arith in
    says sh (Tree t) (codes "branch") (v ∷ ns) (says_tree (branch_on (v - 1)))
    (omega arith, (λ first. tt), (omega arith, λ none. absurd (omega arith))) refl (λ j. node j ∷ sym e.1 j) refl

block_said : (sh : Shape) (t : TreeAt) (ns : List ℕ) → OfLater sh → takes sh (Some (BlockFrom t)) ns ≡ true → Says sh (Tree t) (codes "block") ns
block_said sh t [] later h = absurd (false≢true h)
block_said sh t (k ∷ []) later h = absurd (false≢true (more_takes sh (BlockFrom t) (BlockTo t (k - 1)) k [] (within k sh.n) (λ last. refl) h).1)
block_said sh t (k ∷ m ∷ ns) later h =
    let a = more_takes sh (BlockFrom t) (BlockTo t (k - 1)) k (m ∷ ns) (within k sh.n) (λ last. refl) h in
    let block = λ (last : Bool). whole_by last (Some (block_item (k - 1) (m - 1))) (stage_after_filled t) in
    let e = end_takes sh (BlockTo t (k - 1)) m ns (within m sh.n && may_fill t) block (λ last. refl) refl a.1 in
    let p = and_parts (within m sh.n) (may_fill t) e.0 in
    let i = is_in k sh.n a.0 in
    let o = is_in m sh.n p.0 in
    let first_low = i.low in
    let first_high = i.high in
    let last_low = o.low in
    let last_high = o.high in
    let first : k - 1 + 1 ≡ k = omega arith in
    let second : m - 1 + 1 ≡ m = omega arith in
    says sh (Tree t) (codes "block") (k ∷ m ∷ ns) (says_tree (no_route (k - 1, m - 1)))
    ((omega arith, omega arith), later_not_first (version_number sh.version) later, open_behind sh t p.1) refl (λ j. first j ∷ second j ∷ sym e.1 j) refl

leaf_said : (sh : Shape) (t : TreeAt) (ns : List ℕ) → takes sh (Some (Denominator t)) ns ≡ true → Says sh (Tree t) (codes "leaf") ns
leaf_said sh t [] h = absurd (false≢true h)
leaf_said sh t (v ∷ ns) h =
    let o = open_takes sh (Denominator t) (WeightCut t 0) v ns (within v most_denominator && may_fill t) (leaf_item v) (stage_after_filled t) (λ last. refl) h in
    let k = and_parts (within v most_denominator) (may_fill t) o.0 in
    let i = is_in v most_denominator k.0 in
    let r = weights_said sh t 0 ns o.1 in
    says sh (Tree t) (codes "leaf") (v ∷ ns) (says_tree (leaf_of v r.weights)) (leaf_wanted sh t v r.weights r.high i.low i.high k.1 r.climbs) refl
    (ap (λ l. v ∷ l) (sym r.numbers)) refl

-- the numbers behind the first word of a line
pub said : (sh : Shape) (head : Head) (ns : List ℕ) → HasHead sh head → NamesNodes sh (stage_of_head head) → takes sh (first_place_of head) ns ≡ true
    → Says sh (stage_of_head head) (front_of_head head ++ keyword_of head) ns
said sh VersionLine ns known names h =
    one_said sh Version (codes "HUBCERT") VersionNumber says_version (λ v. Some (version_item (version_of v))) (λ v. Size) (λ v last. refl) (λ v. (refl, refl, refl)) ns h
said sh SizeLine ns known names h = size_said sh ns h
said sh CostLine ns known names h =
    one_said sh Cost (codes "cost") CostAmount says_cost (λ v. Some (cost_item v)) (λ v. Bound) (λ v last. refl) (λ v. (refl, refl, refl)) ns h
said sh BoundLine ns known names h =
    one_said sh Bound (codes "bound") BoundAmount says_bound (λ v. Some (bound_item v)) (λ v. Hubs) (λ v last. refl) (λ v. (refl, refl, refl)) ns h
said sh HubsLine ns known names h = hubs_line sh ns h
said sh (RouteLine c) ns known names h = route_said sh c ns names h
said sh CutsLine ns known names h =
    one_said sh Cuts (codes "cuts") CutCount says_cuts (λ v. Some (cuts_item v)) stage_after_cuts (λ v last. refl) (λ v. (refl, refl, refl)) ns h
said sh (CutLine all before) ns known names h = cut_said sh sh.version all before ns refl h
said sh (MarkWord at) ns known names h = mark_line sh at ns known h
said sh (DualLine d) ns known names h = dual_said sh d ns names h
said sh (DualsLine d) ns known names h = run_said sh d ns known names h
said sh (ProvedLine d) ns known names h = proved_said sh d ns names h
said sh (ProofLine d) ns known names h = proof_said sh d ns h
said sh NodesLine ns known names h =
    one_said sh Nodes (codes "nodes") LineCount says_nodes (λ v. Some (nodes_item v)) (λ v. Tree (record { places = 1; left = v })) (λ v last. refl)
    (λ v. (refl, refl, refl)) ns h
said sh (BranchLine t) ns known names h = branch_said sh t ns h
said sh (LeafLine t) ns known names h = leaf_said sh t ns h
said sh (BlockLine t) ns known names h = block_said sh t ns known h
said sh head ns known names h = absurd (false≢true h)
