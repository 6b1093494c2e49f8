-- The stage of the grammar at which a line stands: after the dual that is held, another dual of its origin must not repeat it.
use Rattle.std.proofs.Common.{◌≡◌, ◌≢◌, ℕ, ◌+◌, ◌-◌, ◌*◌, ◌%◌, ◌<◌, ◌≤◌, true, false, if◌then◌else◌, not, ◌&&◌, List, length, map, All, Option, Some, None, nat_eq, ◌⊎◌, inl, inr, refl, sym, ap, ◌∙◌, subst, arith}
use Rattle.std.proofs.lemmas.Bool.{cond_both, and_parts, and_from, not-true, not_from_false, eq-eqb, false≢true}
use Rattle.std.proofs.lemmas.Option.{same_Some, none-some}
use Rattle.std.proofs.lemmas.List.{length-map}
use Rattle.hub_spec.specs.Cuts.{Prices}
use Rattle.hub_spec.specs.Ranges.{IsDualInRange, IsAmount}
use Rattle.hub_spec.specs.Limits.{most_nodes}
use Rattle.hub_spec.proofs.SumLemmas.{by_test}
use Rattle.hub_spec.proofs.Limits.{few_candidates}
use Rattle.std.proofs.lemmas.List.Elements.{All-map, All-weaker}
use Rattle.cert_spec.specs.Lines.{Item as Line, says_version, says_size, says_cost, says_bound, says_hubs, says_route, says_cuts, says_cut, says_marked, says_dual, says_proof, says_nodes, says_tree, says_end, part_of}
use Rattle.cert_spec.specs.Text.{is_first, same_prices}
use Rattle.cert_spec.specs.Runs.{before_at}
use Rattle.cert_spec.specs.Grammar as grammar
use Rattle.cert_spec.specs.Grammar.{want_dual, want_proved, want_proof, Wants, after, kept_dual}
use Rattle.cert_spec.specs.Reading.{IsStage}
use Rattle.cert_spec.proofs.SamePrices.{prices_told}
use Rattle.cert_scan.specs.Versions.{version_number}
use Rattle.cert_scan.specs.Given.{IsBegun}
use Rattle.cert_scan.specs.Parts.{parts_of}
use Rattle.cert_scan.specs.Repeats.{DualSoFar}
use Rattle.cert_scan.proofs.StagesAt.{number_of, text_shape, stage_at, loose, IsAt}
use Rattle.cert_scan.proofs.Repeated.{noted_all, is_repeat, dual_repeats, dual_held, dual_stays, proof_stays, plain_held, mark_held}
use Rattle.cert_scan.specs.declared.items.Version.{Version as TextVersion}
use Rattle.cert_scan.specs.declared.items.Version.TheVariants.{First, Second, Third}
use Rattle.cert_scan.specs.declared.items.Item.{Item}
use Rattle.cert_scan.specs.declared.stages.DualAt.{DualAt}
use Rattle.cert_scan.specs.declared.stages.Shape.{Shape}
use Rattle.cert_scan.specs.declared.stages.Stage.{Stage}
use Rattle.cert_scan.specs.declared.stages.Stage.TheVariants.{Version, Size, Cost, Bound, Hubs, Route, Cuts, Cut, Dual, ProvedDual, Proof, Nodes, Tree, End}

-- after the dual that is held
abbrev pub tight : DualSoFar → grammar.Stage → grammar.Stage
tight so_far (want_dual s all x t before) = want_dual s all x t (kept_dual s t so_far.dual)
tight so_far stage = stage

-- the stage of the grammar
abbrev pub wanted_at : Shape → DualSoFar → Stage → grammar.Stage
wanted_at sh so_far stage = tight so_far (stage_at sh stage)

-- at a dual of a plain cut the cut that is held is not marked, in a later version, and in a marked cut it is
abbrev pub Agrees : grammar.Stage → DualSoFar → Type 0
Agrees (want_dual s all x t before) so_far = (s.version ≡ 1 → ⊥) → so_far.marked ≡ false
Agrees (want_proved s all x t) so_far = so_far.marked ≡ true
Agrees (want_proof s all x t) so_far = so_far.marked ≡ true
Agrees stage so_far = Unit {0}

-- a stage of a dual, or one at which nothing that is held counts
abbrev Kind : Stage → Type 0
Kind stage = ((sh : Shape) (so_far : DualSoFar) → wanted_at sh so_far stage ≡ stage_at sh stage) ⊎ ((d : DualAt) × (Dual d ≡ stage))

kind_of : (stage : Stage) → Kind stage
kind_of (Dual d) = inr (d, refl)
kind_of stage = inl (λ sh so_far. refl)

-- ---- what may stand at it

dual_untight : (s : grammar.Shape) (all x t : ℕ) (before : Option Prices) (line : Line) → Wants (want_dual s all x t before) line → Wants (want_dual s all x t None) line
dual_untight s all x t before (says_dual c run dual) w = (w.0, w.1, w.2, w.3, λ e. none-some dual e)
dual_untight s all x t before line w = absurd w

pub untight : (sh : Shape) (so_far : DualSoFar) (stage : Stage) (line : Line) → Wants (wanted_at sh so_far stage) line → Wants (stage_at sh stage) line
untight sh so_far stage line w = elim (kind_of stage) [
  | inl e ↦ subst (λ g. Wants g line) (e sh so_far) w
  | inr d ↦ subst (λ x. Wants (stage_at sh x) line) d.1
      (dual_untight (text_shape sh) d.0.all d.0.before (number_of sh.n d.0.commodity) (kept_dual (text_shape sh) (number_of sh.n d.0.commodity) so_far.dual) line
      (subst (λ x. Wants (wanted_at sh so_far x) line) (sym d.1) w))
]

-- the dual that another one of its origin must not repeat is the one that is held
not_before : (n t : ℕ) (held dual : Prices) → (nat_eq (t % n) 0 ≡ false → same_prices held dual ≡ true → ⊥) → before_at n t held ≢ Some dual
not_before n t held dual h e =
    by_test (nat_eq (t % n) 0) (λ first. none-some dual (ap (λ b. if b then None else Some held) (sym first) ∙ e))
    (λ later. (let same : held ≡ dual = same_Some held dual (ap (λ b. if b then None else Some held) (sym later) ∙ e) in
    h later (subst (λ d. same_prices held d ≡ true) same (prices_told.complete held))))

not_kept : (v : TextVersion) (n t : ℕ) (held dual : Prices) → ((version_number v ≡ 1 → ⊥) → nat_eq (t % n) 0 ≡ false → same_prices held dual ≡ true → ⊥)
    → kept_dual (record { version = version_number v; size = n }) t held ≢ Some dual
not_kept First n t held dual h e = none-some dual e
not_kept Second n t held dual h e = not_before n t held dual (h (λ first. omega (arith, first))) e
not_kept Third n t held dual h e = not_before n t held dual (h (λ first. omega (arith, first))) e

is_kept : (v : TextVersion) (n t : ℕ) (held dual : Prices) → (version_number v ≡ 1 → ⊥) → nat_eq (t % n) 0 ≡ false → same_prices held dual ≡ true
    → kept_dual (record { version = version_number v; size = n }) t held ≡ Some dual
is_kept First n t held dual is_later later same = absurd (is_later refl)
is_kept Second n t held dual is_later later same = ap (λ b. if b then None else Some held) later ∙ ap Some (prices_told.sound held dual same)
is_kept Third n t held dual is_later later same = ap (λ b. if b then None else Some held) later ∙ ap Some (prices_told.sound held dual same)

-- a dual of a plain cut that is the one held repeats it, behind the first of an origin
repeats_is : (so_far : DualSoFar) (to : ℕ) (dual : Prices) → so_far.marked ≡ false → nat_eq to 0 ≡ false → same_prices so_far.dual dual ≡ true
    → (not so_far.marked && (not (nat_eq to 0) && same_prices so_far.dual dual)) ≡ true
repeats_is so_far to dual plain later same =
    and_from (not so_far.marked) (not (nat_eq to 0) && same_prices so_far.dual dual) (not_from_false so_far.marked plain)
    (and_from (not (nat_eq to 0)) (same_prices so_far.dual dual) (not_from_false (nat_eq to 0) later) same)

repeat_no : (v : TextVersion) (so_far : DualSoFar) (to : ℕ) (dual : Prices) → is_repeat v so_far to dual ≡ false
    → ((version_number v ≡ 1 → ⊥) → so_far.marked ≡ false)
    → (version_number v ≡ 1 → ⊥) → nat_eq to 0 ≡ false → same_prices so_far.dual dual ≡ true → ⊥
repeat_no First so_far to dual e plain is_later later same = is_later refl
repeat_no Second so_far to dual e plain is_later later same = false≢true (sym e ∙ repeats_is so_far to dual (plain is_later) later same)
repeat_no Third so_far to dual e plain is_later later same = false≢true (sym e ∙ repeats_is so_far to dual (plain is_later) later same)

-- a repeat is of a later version, behind the first of an origin
record Repeated (v : TextVersion) (held : Prices) (to : ℕ) (dual : Prices) : Type 0 where
  is_later : version_number v ≡ 1 → ⊥
  later : nat_eq to 0 ≡ false
  same : same_prices held dual ≡ true

repeat_parts : (v : TextVersion) (so_far : DualSoFar) (to : ℕ) (dual : Prices) → (version_number v ≡ 1 → ⊥)
    → (not so_far.marked && (not (nat_eq to 0) && same_prices so_far.dual dual)) ≡ true → Repeated v so_far.dual to dual
repeat_parts v so_far to dual is_later e =
    let k = and_parts (not so_far.marked) (not (nat_eq to 0) && same_prices so_far.dual dual) e in
    let m = and_parts (not (nat_eq to 0)) (same_prices so_far.dual dual) k.1 in
    record { is_later = is_later; later = not-true (nat_eq to 0) m.0; same = m.1 }

repeat_yes : (v : TextVersion) (so_far : DualSoFar) (to : ℕ) (dual : Prices) → is_repeat v so_far to dual ≡ true → Repeated v so_far.dual to dual
repeat_yes First so_far to dual e = absurd (false≢true e)
repeat_yes Second so_far to dual e = repeat_parts Second so_far to dual (λ first. omega (arith, first)) e
repeat_yes Third so_far to dual e = repeat_parts Third so_far to dual (λ first. omega (arith, first)) e

dual_tight : (sh : Shape) (so_far : DualSoFar) (d : DualAt) (line : Line) → Wants (stage_at sh (Dual d)) line → dual_repeats sh.version so_far line ≡ false
    → Agrees (stage_at sh (Dual d)) so_far → Wants (wanted_at sh so_far (Dual d)) line
dual_tight sh so_far d (says_dual c run dual) w e agrees =
    let column : c.1 ≡ number_of sh.n d.commodity % sh.n = ap (λ (p : ℕ × ℕ). p.1) w.0 in
    let other : is_repeat sh.version so_far (number_of sh.n d.commodity % sh.n) dual ≡ false = ap (λ to. is_repeat sh.version so_far to dual) (sym column) ∙ e in (
      w.0,
      w.1,
      w.2,
      w.3,
      not_kept sh.version sh.n (number_of sh.n d.commodity) so_far.dual dual
          (repeat_no sh.version so_far (number_of sh.n d.commodity % sh.n) dual other agrees),
    )
dual_tight sh so_far d line w e agrees = absurd w

pub tight_wants : (sh : Shape) (so_far : DualSoFar) (stage : Stage) (line : Line) → Wants (stage_at sh stage) line → dual_repeats sh.version so_far line ≡ false
    → Agrees (stage_at sh stage) so_far → Wants (wanted_at sh so_far stage) line
tight_wants sh so_far (Dual d) line w e agrees = dual_tight sh so_far d line w e agrees
tight_wants sh so_far stage line w e agrees = w

dual_repeated : (sh : Shape) (so_far : DualSoFar) (d : DualAt) (line : Line) → Wants (wanted_at sh so_far (Dual d)) line → dual_repeats sh.version so_far line ≡ false
dual_repeated sh so_far d (says_dual c run dual) w =
    let column : c.1 ≡ number_of sh.n d.commodity % sh.n = ap (λ (p : ℕ × ℕ). p.1) w.0 in
    by_test (is_repeat sh.version so_far c.1 dual)
    (λ e. (let r = repeat_yes sh.version so_far c.1 dual e in
    let later : nat_eq (number_of sh.n d.commodity % sh.n) 0 ≡ false = ap (λ to. nat_eq to 0) (sym column) ∙ r.later in
    absurd (w.4 (is_kept sh.version sh.n (number_of sh.n d.commodity) so_far.dual dual r.is_later later r.same))))
    (λ e. e)
dual_repeated sh so_far d line w = absurd w

-- no dual of a marked cut repeats another
marked_repeats : (v : TextVersion) (so_far : DualSoFar) (line : Line) → so_far.marked ≡ true → dual_repeats v so_far line ≡ false
marked_repeats First so_far (says_dual c run dual) marked = refl
marked_repeats Second so_far (says_dual c run dual) marked = ap (λ b. not b && (not (nat_eq c.1 0) && same_prices so_far.dual dual)) marked
marked_repeats Third so_far (says_dual c run dual) marked = ap (λ b. not b && (not (nat_eq c.1 0) && same_prices so_far.dual dual)) marked
marked_repeats v so_far line marked = refl

-- a line that may stand there repeats nothing
pub wanted_repeats : (sh : Shape) (so_far : DualSoFar) (stage : Stage) (line : Line) → Wants (wanted_at sh so_far stage) line
    → Agrees (stage_at sh stage) so_far
    → dual_repeats sh.version so_far line ≡ false
wanted_repeats sh so_far (Dual d) line w agrees = dual_repeated sh so_far d line w
wanted_repeats sh so_far (ProvedDual d) line w agrees = marked_repeats sh.version so_far line agrees
wanted_repeats sh so_far stage (says_dual c run dual) w agrees = absurd w
wanted_repeats sh so_far stage line w agrees = refl

-- ---- what else is so of it as of the one at which any dual may come

dual_after : (s : grammar.Shape) (all x t : ℕ) (before other : Option Prices) (line : Line) → after (want_dual s all x t before) line ≡ after (want_dual s all x t other) line
dual_after s all x t before other (says_dual c run dual) = refl
dual_after s all x t before other line = refl

pub wanted_after : (sh : Shape) (so_far : DualSoFar) (stage : Stage) (line : Line) → after (wanted_at sh so_far stage) line ≡ after (stage_at sh stage) line
wanted_after sh so_far (Dual d) line =
    let t = number_of sh.n d.commodity in
    dual_after (text_shape sh) d.all d.before (number_of sh.n d.commodity) (kept_dual (text_shape sh) t so_far.dual) None line
wanted_after sh so_far stage line = refl

pub wanted_stage : (sh : Shape) (so_far : DualSoFar) (stage : Stage) → IsStage (wanted_at sh so_far stage) → IsStage (stage_at sh stage)
wanted_stage sh so_far (Dual d) h = h
wanted_stage sh so_far stage h = h

pub wanted_begun : (sh : Shape) (so_far : DualSoFar) (stage : Stage) (given : List Item) → IsBegun (stage_at sh stage) given → IsBegun (wanted_at sh so_far stage) given
wanted_begun sh so_far (Dual d) given h = h
wanted_begun sh so_far stage given h = h

-- ---- from line to line

-- it is the stage at which any dual may come, after the dual that is held
abbrev Keeps : DualSoFar → grammar.Stage → Type 0
Keeps so_far g = tight so_far (loose g) ≡ g

keeps_cut : (so_far : DualSoFar) (s : grammar.Shape) (all x : ℕ) → Keeps so_far (grammar.after_cut s all x)
keeps_cut so_far s all x = cond_both (nat_eq x all) _ _ (Keeps so_far) (λ e. refl) (λ e. refl)

keeps_route : (so_far : DualSoFar) (s : grammar.Shape) (t : ℕ) → Keeps so_far (grammar.after_route s t)
keeps_route so_far s t = cond_both (nat_eq t (s.size * s.size)) _ _ (Keeps so_far) (λ e. refl) (λ e. refl)

keeps_proof : (so_far : DualSoFar) (s : grammar.Shape) (all x t : ℕ) → Keeps so_far (grammar.after_proof s all x t)
keeps_proof so_far s all x t =
    cond_both (nat_eq t (s.size * s.size)) _ _ (Keeps so_far) (λ e. keeps_cut so_far s all (x + 1)) (λ e. refl)

keeps_tree : (so_far : DualSoFar) (s : grammar.Shape) (places left : ℕ) → Keeps so_far (grammar.after_tree s places left)
keeps_tree so_far s places left = cond_both (nat_eq left 0) _ _ (Keeps so_far) (λ e. refl) (λ e. refl)

keeps_dual : (so_far : DualSoFar) (s : grammar.Shape) (all x t : ℕ) (before : Option Prices) → kept_dual s t so_far.dual ≡ before → Keeps so_far (grammar.after_dual s all x t before)
keeps_dual so_far s all x t before h =
    cond_both (nat_eq t (s.size * s.size)) _ _ (Keeps so_far) (λ e. keeps_cut so_far s all (x + 1)) (λ e. ap (want_dual s all x t) h)

-- a dual is held, if its version holds any
held_by : (v : TextVersion) (n t : ℕ) (so_far : DualSoFar) (c : ℕ × ℕ) (run : ℕ) (dual : Prices) → length dual.u ≤ most_nodes
    → kept_dual (record { version = version_number v; size = n }) t (noted_all (record { version = v; n = n }) so_far (parts_of (says_dual c run dual))).dual
    ≡ kept_dual (record { version = version_number v; size = n }) t dual
held_by First n t so_far c run dual few = refl
held_by Second n t so_far c run dual few = ap (before_at n t) (dual_held Second n so_far c run dual (λ first. omega (arith, first)) few)
held_by Third n t so_far c run dual few = ap (before_at n t) (dual_held Third n so_far c run dual (λ first. omega (arith, first)) few)

-- no dual of an origin stands before the first one of a cut
none_first : (s : grammar.Shape) (held : Prices) → kept_dual s 0 held ≡ None
none_first s held =
    let first : 0 % s.size ≡ 0 = omega arith in
    cond_both (is_first s.version) _ _ (λ o. o ≡ None) (λ e. refl) (λ e. ap (λ b. if b then None else Some held) (eq-eqb (0 % s.size) 0 first))

-- a dual in range lists no more values than nodes
few_values : (n : ℕ) (dual : Prices) → n ≤ most_nodes → IsDualInRange n dual → length dual.u ≤ most_nodes
few_values n dual few h =
    let nodes = map (λ (e : ℕ × ℕ). e.0) dual.u in
    let below : All (λ (e : ℕ × ℕ). e.0 < n) dual.u =
    All-weaker (λ (e : ℕ × ℕ). (e.0 < n) × (1 ≤ e.1) × IsAmount e.1) (λ (e : ℕ × ℕ). e.0 < n) (λ e h. h.0) dual.u h.each in
    omega (arith, few, few_candidates nodes n h.ascend (All-map (λ k. k < n) (λ (e : ℕ × ℕ). e.0) dual.u below), length-map dual.u (λ (e : ℕ × ℕ). e.0))

keeps_after : (sh : Shape) (so_far : DualSoFar) (stage : Stage) (line : Line) → IsStage (stage_at sh stage) → Wants (stage_at sh stage) line
    → Keeps (noted_all sh so_far (parts_of line)) (after (stage_at sh stage) line)
keeps_after sh so_far Version (says_version v) s w = refl
keeps_after sh so_far Size (says_size n q) s w = refl
keeps_after sh so_far Cost (says_cost c) s w = refl
keeps_after sh so_far Bound (says_bound b) s w = refl
keeps_after sh so_far Hubs (says_hubs hubs) s w = refl
keeps_after sh so_far (Route c) (says_route commodity route) s w =
    keeps_route (noted_all sh so_far (parts_of (says_route commodity route))) (text_shape sh) (number_of sh.n c + 1)
keeps_after sh so_far Cuts (says_cuts all) s w = keeps_cut (noted_all sh so_far (parts_of (says_cuts all))) (text_shape sh) all 0
keeps_after sh so_far (Cut all before) (says_cut number part) s w =
    ap (want_dual (text_shape sh) all before 0) (none_first (text_shape sh) (noted_all sh so_far (parts_of (says_cut number part))).dual)
keeps_after sh so_far (Cut all before) (says_marked number part hubs) s w = refl
keeps_after sh so_far (ProvedDual d) (says_dual c run dual) s w = refl
keeps_after sh so_far (Proof d) (says_proof proof) s w =
    keeps_proof (noted_all sh so_far (parts_of (says_proof proof))) (text_shape sh) d.all d.before (number_of sh.n d.commodity + 1)
keeps_after sh so_far (Dual d) (says_dual c run dual) s w =
    let t = number_of sh.n d.commodity + run in
    keeps_dual (noted_all sh so_far (parts_of (says_dual c run dual))) (text_shape sh) d.all d.before (number_of sh.n d.commodity + run) (kept_dual (text_shape sh) t dual)
    (held_by sh.version sh.n t so_far c run dual (few_values sh.n dual s.0.0.1 w.2))
keeps_after sh so_far Nodes (says_nodes all) s w = refl
keeps_after sh so_far (Tree at) (says_tree line) s w =
    keeps_tree (noted_all sh so_far (parts_of (says_tree line))) (text_shape sh) (grammar.places_after at.places line) (at.left - 1)
keeps_after sh so_far End says_end s w = refl
keeps_after sh so_far stage line s w = absurd w

-- behind a line that may stand there the grammar is where the scan is
pub wanted_next : (sh next : Shape) (so_far : DualSoFar) (stage behind : Stage) (line : Line) → IsStage (stage_at sh stage) → Wants (stage_at sh stage) line
    → IsAt next behind (after (stage_at sh stage) line)
    → after (wanted_at sh so_far stage) line ≡ wanted_at next (noted_all sh so_far (parts_of line)) behind
wanted_next sh next so_far stage behind line s w at =
    wanted_after sh so_far stage line ∙ sym (keeps_after sh so_far stage line s w) ∙ ap (tight (noted_all sh so_far (parts_of line))) (sym at.is)

-- ---- whether the cut is marked, from line to line

agrees_cut : (so_far : DualSoFar) (s : grammar.Shape) (all x : ℕ) → Agrees (grammar.after_cut s all x) so_far
agrees_cut so_far s all x = cond_both (nat_eq x all) _ _ (λ g. Agrees g so_far) (λ e. tt) (λ e. tt)

agrees_route : (so_far : DualSoFar) (s : grammar.Shape) (t : ℕ) → Agrees (grammar.after_route s t) so_far
agrees_route so_far s t = cond_both (nat_eq t (s.size * s.size)) _ _ (λ g. Agrees g so_far) (λ e. tt) (λ e. tt)

agrees_tree : (so_far : DualSoFar) (s : grammar.Shape) (places left : ℕ) → Agrees (grammar.after_tree s places left) so_far
agrees_tree so_far s places left = cond_both (nat_eq left 0) _ _ (λ g. Agrees g so_far) (λ e. tt) (λ e. tt)

agrees_dual : (so_far : DualSoFar) (s : grammar.Shape) (all x t : ℕ) (before : Option Prices) → ((s.version ≡ 1 → ⊥) → so_far.marked ≡ false)
    → Agrees (grammar.after_dual s all x t before) so_far
agrees_dual so_far s all x t before h =
    cond_both (nat_eq t (s.size * s.size)) _ _ (λ g. Agrees g so_far) (λ e. agrees_cut so_far s all (x + 1)) (λ e. h)

agrees_proof : (so_far : DualSoFar) (s : grammar.Shape) (all x t : ℕ) → so_far.marked ≡ true → Agrees (grammar.after_proof s all x t) so_far
agrees_proof so_far s all x t h =
    cond_both (nat_eq t (s.size * s.size)) _ _ (λ g. Agrees g so_far) (λ e. agrees_cut so_far s all (x + 1)) (λ e. h)

agrees_after : (sh : Shape) (so_far : DualSoFar) (stage : Stage) (line : Line) → Wants (stage_at sh stage) line → Agrees (stage_at sh stage) so_far
    → Agrees (after (stage_at sh stage) line) (noted_all sh so_far (parts_of line))
agrees_after sh so_far Version (says_version v) w h = tt
agrees_after sh so_far Size (says_size n q) w h = tt
agrees_after sh so_far Cost (says_cost c) w h = tt
agrees_after sh so_far Bound (says_bound b) w h = tt
agrees_after sh so_far Hubs (says_hubs hubs) w h = tt
agrees_after sh so_far (Route c) (says_route commodity route) w h =
    agrees_route (noted_all sh so_far (parts_of (says_route commodity route))) (text_shape sh) (number_of sh.n c + 1)
agrees_after sh so_far Cuts (says_cuts all) w h = agrees_cut (noted_all sh so_far (parts_of (says_cuts all))) (text_shape sh) all 0
agrees_after sh so_far (Cut all before) (says_cut number part) w h = λ later. plain_held sh.version sh.n so_far number (part_of part) later
agrees_after sh so_far (Cut all before) (says_marked number part hubs) w h = mark_held sh.version sh.n so_far number part hubs w.1.0
agrees_after sh so_far (Dual d) (says_dual c run dual) w h =
    let t = number_of sh.n d.commodity + run in
    agrees_dual (noted_all sh so_far (parts_of (says_dual c run dual))) (text_shape sh) d.all d.before (number_of sh.n d.commodity + run)
    (kept_dual (text_shape sh) t dual) (λ later. dual_stays sh.version sh.n so_far c run dual ∙ h later)
agrees_after sh so_far (ProvedDual d) (says_dual c run dual) w h = dual_stays sh.version sh.n so_far c run dual ∙ h
agrees_after sh so_far (Proof d) (says_proof proof) w h =
    agrees_proof (noted_all sh so_far (parts_of (says_proof proof))) (text_shape sh) d.all d.before (number_of sh.n d.commodity + 1)
    (ap (λ (s : DualSoFar). s.marked) (proof_stays sh so_far proof) ∙ h)
agrees_after sh so_far Nodes (says_nodes all) w h = tt
agrees_after sh so_far (Tree at) (says_tree line) w h =
    agrees_tree (noted_all sh so_far (parts_of (says_tree line))) (text_shape sh) (grammar.places_after at.places line) (at.left - 1)
agrees_after sh so_far End says_end w h = tt
agrees_after sh so_far stage line w h = absurd w

agrees_loose : (g : grammar.Stage) (so_far : DualSoFar) → Agrees g so_far → Agrees (loose g) so_far
agrees_loose (want_dual s all x t before) so_far h = h
agrees_loose g so_far h = h

pub agrees_next : (sh next : Shape) (so_far : DualSoFar) (stage behind : Stage) (line : Line) → Wants (stage_at sh stage) line
    → Agrees (stage_at sh stage) so_far
    → IsAt next behind (after (stage_at sh stage) line) → Agrees (stage_at next behind) (noted_all sh so_far (parts_of line))
agrees_next sh next so_far stage behind line w h at =
    subst (λ g. Agrees g (noted_all sh so_far (parts_of line))) (sym at.is)
    (agrees_loose (after (stage_at sh stage) line) (noted_all sh so_far (parts_of line)) (agrees_after sh so_far stage line w h))
