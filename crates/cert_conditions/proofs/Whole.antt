-- A check as the items that have come make it, with one more.
use Rattle.std.proofs.Common.{◌≡◌, ◌≢◌, ℕ, ◌+◌, ◌-◌, ◌*◌, ◌^◌, ◌<◌, Bool, true, false, ◌&&◌, is_none, cond, nat_eq, List, [], ◌∷◌, ◌++◌, length, replicate, flat_map, Option, Some, None, ◌⊎◌, inl, inr, refl, sym, ap, subst, ◌∙◌, append-nil, arith, ⊎_elim}
use Rattle.hub_spec.specs.Problem.{Problem, IsProblem, commodity_at}
use Rattle.hub_spec.specs.Cuts.{Prices}
use Rattle.cert_spec.specs.Stated.{Stated, IsStatedInRange}
use Rattle.cert_spec.specs.Lines.{Item as Line, says_version, says_size, says_cost, says_bound, says_hubs, says_route, says_cuts, says_cut, says_marked, says_dual, says_proof, says_nodes, says_tree, says_end}
use Rattle.hub_spec.specs.Trees.{branch_on, leaf_of, no_hub, no_route, no_count}
use Rattle.cert_spec.specs.Grammar.{Shape, Stage, want_version, want_size, want_end, want_nothing, want_cost, want_bound, want_hubs, want_cuts, want_nodes, want_route, want_cut, want_dual, want_proved, want_proof, want_tree, Wants, places_after, kept_dual, after_cut, after, shape, Leads}
use Rattle.cert_spec.specs.Conditions.{Claim, Kind, AllHold, FailsFirst, line_conditions, conditions_from, conditions}
use Rattle.cert_spec.specs.Text.{certificate_items}
use Rattle.cert_spec.specs.Progress.{Progress, is_whole, with_cut, with_duals, next_line, at_start, after_line, after_lines}
use Rattle.cert_spec.proofs.Leads.{each_text_leads_lem}
use Rattle.std.proofs.lemmas.List.Elements.{All-nil}
use Rattle.cert_conditions.specs.Kinds.{kind_of}
use Rattle.cert_conditions.specs.declared.kinds.Kind as code
use Rattle.cert_spec.proofs.ByParts.{conditions-append}
use Rattle.cert_scan.specs.Parts.{parts_of, items_of}
use Rattle.cert_scan.specs.Given.{IsGiven, IsBegun}
use Rattle.cert_scan.specs.declared.items.Item.{Item}
use Rattle.cert_conditions.specs.Steps.{Tried, ended, ends, failed_at, Steps, MayTake}
use Rattle.cert_conditions.specs.Taken.{Part, nothing, some_hubs, some_mark, some_values, some_ways, some_weights, part_items, IsPart, StandsFirm, Keeps, Stands, HasTaken, TellsFirst}
use Rattle.cert_conditions.specs.declared.checks.Checks.{Checks}
use Rattle.cert_conditions.proofs.Parting.{Growing, Closing, Coming, goes_on, ends as ends_line, coming}
use Rattle.cert_conditions.proofs.Counting.{few_lines, line-after, line-after_lines, after_lines-append}
use Rattle.cert_conditions.proofs.Trying.{tells_more, fails_before}
use Rattle.cert_conditions.proofs.Taking.{grows, closes}

-- what the lines leave
abbrev behind : Problem → List Line → Progress
behind p lines = after_lines p at_start lines

-- ---- nothing, or a value

none_or : {X : Type 0} (o : Option X) → (o ≡ None) ⊎ ((x : X) × (o ≡ Some x))
none_or None = inl refl
none_or (Some x) = inr (x, refl)

some_not_none : {X : Type 0} (o : Option X) (x : X) → o ≡ Some x → o ≢ None
some_not_none o x e n = cc

-- ---- the number of the line

pub line_now : (p : Problem) (lines : List Line) → (behind p lines).line ≡ 1 + length lines
line_now p lines = line-after_lines p at_start lines

line_fits : (c : Checks) (lines : List Line) (stage : Stage) (part : Part) → Leads want_version lines stage → Stands c lines stage part → c.line < 2 ^ 64 - 1
line_fits c lines stage part lead st = omega (arith, st.line, line_now c.instance.now lines, few_lines lines stage lead)

line_more : (p : Problem) (front : List Line) (l : Line) → (behind p (front ++ l ∷ [])).line ≡ (behind p front).line + 1
line_more p front l = ap (λ (s : Progress). s.line) (after_lines-append p at_start front l) ∙ line-after p (behind p front) l

-- ---- a part that is empty

empty_keeps : (c : Checks) (s : Progress) (stage : Stage) (part : Part) → IsPart stage part → part_items part ≡ [] → Keeps c s stage nothing → Keeps c s stage part
empty_keeps c s (want_hubs sh) (some_hubs []) may none k = k
empty_keeps c s (want_hubs sh) (some_hubs (x ∷ hubs)) may none k = cc
empty_keeps c s (want_hubs sh) nothing may none k = absurd may
empty_keeps c s (want_hubs sh) (some_mark number part hubs) may none k = absurd may
empty_keeps c s (want_hubs sh) (some_values commodity run dual) may none k = absurd may
empty_keeps c s (want_hubs sh) (some_ways proof) may none k = absurd may
empty_keeps c s (want_hubs sh) (some_weights denom weights) may none k = absurd may
empty_keeps c s (want_cut sh all x) (some_mark number part hubs) may none k = cc
empty_keeps c s (want_dual sh all x t before) (some_values commodity run dual) may none k = cc
empty_keeps c s (want_proved sh all x t) (some_values commodity run dual) may none k = cc
empty_keeps c s (want_proof sh all x t) (some_ways proof) may none k = cc
empty_keeps c s (want_tree sh places left) (some_weights denom weights) may none k = cc
empty_keeps c s stage nothing may none k = k
empty_keeps c s stage part may none k = absurd may

-- ---- which items end a line

grown_goes : (part before : Part) (i : Item) → Growing part before i → ends i ≡ false
grown_goes nothing before i g = absurd g
grown_goes (some_hubs hubs) before i g = ap ends g.4
grown_goes (some_mark number part hubs) before i (inl g) = ap ends g.2
grown_goes (some_mark number part hubs) before i (inr g) = ap ends g.4
grown_goes (some_values c run dual) before i (inl g) = ap ends g.2
grown_goes (some_values c run dual) before i (inr g) = ap ends g.4
grown_goes (some_ways proof) before i (inl g) = ap ends g.2
grown_goes (some_ways proof) before i (inr g) = ap ends g.4
grown_goes (some_weights denom weights) before i (inl g) = ap ends g.2
grown_goes (some_weights denom weights) before i (inr g) = ap ends g.4

closed_ends : (l : Line) (before : Part) (i : Item) → Closing l before i → ends i ≡ true
closed_ends (says_version v) before i g = ap ends g.1
closed_ends (says_size n q) before i g = ap ends g.1
closed_ends (says_cost v) before i g = ap ends g.1
closed_ends (says_bound v) before i g = ap ends g.1
closed_ends (says_hubs hubs) before i g = ap ends g.4
closed_ends (says_route c r) before i g = ap ends g.1
closed_ends (says_cuts all) before i g = ap ends g.1
closed_ends (says_cut number part) before i g = ap ends g.1
closed_ends (says_marked number part hubs) before i g = ap ends g.4
closed_ends (says_dual c run dual) before i (inl g) = ap ends g.2
closed_ends (says_dual c run dual) before i (inr g) = ap ends g.4
closed_ends (says_proof proof) before i (inl g) = ap ends g.2
closed_ends (says_proof proof) before i (inr g) = ap ends g.4
closed_ends (says_nodes all) before i g = ap ends g.1
closed_ends (says_tree (branch_on k)) before i g = ap ends g.1
closed_ends (says_tree (leaf_of denom weights)) before i (inl g) = ap ends g.2
closed_ends (says_tree (leaf_of denom weights)) before i (inr g) = ap ends g.4
closed_ends (says_tree no_hub) before i g = ap ends g.1
closed_ends (says_tree (no_route commodity)) before i g = ap ends g.1
closed_ends (says_tree no_count) before i g = ap ends g.1
closed_ends says_end before i g = ap ends g.1

-- ---- the items are those of lines

-- items of lines, and of a part of another
pub record AreParted (given : List Item) : Type 0 where
  pub lines : List Line
  pub stage : Stage
  pub part : Part
  pub lead : Leads want_version lines stage
  pub are : given ≡ flat_map parts_of lines ++ part_items part
  pub may : IsPart stage part

begun_part : (stage : Stage) (more : List Item) → IsBegun stage more → (part : Part) × IsPart stage part × (more ≡ part_items part)
begun_part (want_hubs s) more h = (some_hubs h.hubs, (h.ascend, h.nodes), h.are)
begun_part (want_cut s all x) more (inl e) = (nothing, tt, e)
begun_part (want_cut s all x) more (inr h) = (some_mark (x + 1) h.part h.hubs, (refl, h.some, h.most, h.ascend, h.nodes), h.are)
begun_part (want_proved s all x t) more (inl e) = (nothing, tt, e)
begun_part (want_proved s all x t) more (inr h) = (some_values (commodity_at s.size t) 1 h.dual, (refl, refl, h.in_range), h.are)
begun_part (want_proof s all x t) more (inl e) = (nothing, tt, e)
begun_part (want_proof s all x t) more (inr h) = (some_ways h.proof, h.in_range, h.are)
begun_part (want_dual s all x t before) more (inl e) = (nothing, tt, e)
begun_part (want_dual s all x t before) more (inr h) =
    (some_values (commodity_at s.size t) h.run h.dual, (refl, h.is_run, h.in_range), h.are)
begun_part (want_tree s places left) more (inl e) = (nothing, tt, e)
begun_part (want_tree s places left) more (inr h) = (some_weights h.denom h.weights, h.in_range, h.are)
begun_part want_version more h = (nothing, tt, h)
begun_part (want_size v) more h = (nothing, tt, h)
begun_part (want_cost s) more h = (nothing, tt, h)
begun_part (want_bound s) more h = (nothing, tt, h)
begun_part (want_route s t) more h = (nothing, tt, h)
begun_part (want_cuts s) more h = (nothing, tt, h)
begun_part (want_nodes s) more h = (nothing, tt, h)
begun_part want_end more h = (nothing, tt, h)
begun_part want_nothing more h = (nothing, tt, h)

pub parted : (given : List Item) (i : Item) → IsGiven (given ++ i ∷ []) → AreParted (given ++ i ∷ [])
parted given i g =
    let b = begun_part g.stage g.more g.begun in
    record { lines = g.lines; stage = g.stage; part = b.0; lead = g.lead; are = g.are ∙ ap (λ x. flat_map parts_of g.lines ++ x) b.2; may = b.1 }

-- ---- an item may come

came : (given : List Item) (i : Item) (c : Checks) (lines : List Line) (stage : Stage) (part : Part) → HasTaken given c
    → Coming given i lines stage part → Leads want_version lines stage → IsPart stage part → MayTake c i
came given i c lines stage part has (goes_on before may are growing) lead may_part =
    let st = has lines stage before lead are may in
    record {
      room = line_fits c lines stage before lead st;
      may_come = λ none. (grows stage part before i c (behind c.instance.now lines) may_part growing (st.standing none) (st.keeps none)).may;
    }
came given i c lines stage part has (ends_line front l at before split leads wants stage_is none may are closing) lead may_part =
    let st = has front at before leads are may in
    record {
      room = line_fits c front at before leads st;
      may_come = λ n. (closes at l before i c (behind c.instance.now front) st.line wants closing (st.standing n) (st.keeps n)).may;
    }

pub may_take_parted : (given : List Item) (i : Item) (c : Checks) → HasTaken given c → AreParted (given ++ i ∷ []) → MayTake c i
may_take_parted given i c has p =
    came given i c p.lines p.stage p.part has (coming given i p.lines p.stage p.part p.lead p.may p.are) p.lead p.may

pub may_take : (given : List Item) (i : Item) (c : Checks) → HasTaken given c → IsGiven (given ++ i ∷ []) → MayTake c i
may_take given i c has g = may_take_parted given i c has (parted given i g)

-- ---- what an item leaves

-- where the check is of this instance
abbrev StandsFor : Problem → Checks → List Line → Stage → Part → Type 0
StandsFor p c lines stage part =
    (c.line ≡ (behind p lines).line)
    × TellsFirst (conditions_from p at_start lines) c.failure
    × (c.failure ≡ None → StandsFirm c (behind p lines))
    × (c.failure ≡ None → Keeps c (behind p lines) stage part)

stands_for : (p : Problem) (c : Checks) (lines : List Line) (stage : Stage) (part : Part) → c.instance.now ≡ p → StandsFor p c lines stage part
    → Stands c lines stage part
stands_for p c lines stage part e h =
    let r = subst (λ q. StandsFor q c lines stage part) (sym e) h in
    record { line = r.0; tells = r.1; standing = r.2; keeps = r.3 }

-- the line goes on
grown_stands : (c new : Checks) (lines : List Line) (stage : Stage) (part before : Part) (i : Item) → IsPart stage part → Growing part before i
    → Stands c lines stage before → Steps c i new → Stands new lines stage part
grown_stands c new lines stage part before i may growing st h =
    let p = c.instance.now in
    ⊎_elim (λ (none : c.failure ≡ None).
    let g = (grows stage part before i c (behind p lines) may growing (st.standing none) (st.keeps none)).leaves new (h.first none) in
    stands_for p new lines stage part g.same
    (g.line_is ∙ st.line, subst (TellsFirst (conditions_from p at_start lines)) (sym g.failure_is) st.tells, (λ n. g.firm), (λ n. g.keeps)))
    (λ (some : (x : code.Kind × ℕ) × (c.failure ≡ Some x)).
    let not_none = some_not_none c.failure some.0 some.1 in
    subst (λ (n : Checks). Stands n lines stage part) (sym (h.later not_none))
    (record {
      line = ap (λ b. cond b (c.line + 1) c.line) (grown_goes part before i growing) ∙ st.line;
      tells = st.tells;
      standing = λ n. absurd (not_none n);
      keeps = λ n. absurd (not_none n);
    }))
    (none_or c.failure)

fails_on : (p : Problem) (front : List Line) (l : Line) (o : Option (code.Kind × ℕ)) (f : code.Kind × ℕ) → o ≡ Some f
    → TellsFirst (conditions_from p at_start front) o → TellsFirst (conditions_from p at_start (front ++ l ∷ [])) o
fails_on p front l None f e h = cc
fails_on p front l (Some x) f e h =
    subst (λ cs. TellsFirst cs (Some x)) (sym (conditions-append p at_start front (l ∷ [])))
    (fails_before (conditions_from p at_start front) (conditions_from p (behind p front) (l ∷ [])) (kind_of x.0) x.1 h)

-- the result with one line more
told_more : (p : Problem) (front : List Line) (l : Line) (found : Option code.Kind) (line : ℕ) → AllHold (conditions_from p at_start front)
    → Tried (line_conditions p (behind p front) l) found line → TellsFirst (conditions_from p at_start (front ++ l ∷ [])) (failed_at line found)
told_more p front l found line held tried =
    subst (λ cs. TellsFirst cs (failed_at line found)) (sym (conditions-append p at_start front (l ∷ [])))
    (tells_more (conditions_from p at_start front) (conditions_from p (behind p front) (l ∷ [])) found line held
    (subst (λ cs. Tried cs found line) (sym (append-nil (line_conditions p (behind p front) l))) tried))

none_found : (line : ℕ) (found : Option code.Kind) → failed_at line found ≡ None → found ≡ None
none_found line None e = refl
none_found line (Some k) e = cc

-- the line ends
closed_stands : (c new : Checks) (front : List Line) (l : Line) (at : Stage) (before part : Part) (i : Item) → Wants at l → Closing l before i
    → IsPart (after at l) part → part_items part ≡ [] → Stands c front at before → Steps c i new → Stands new (front ++ l ∷ []) (after at l) part
closed_stands c new front l at before part i wants closing may empty st h =
    let p = c.instance.now in
    let s = behind p front in
    let next : behind p (front ++ l ∷ []) ≡ after_line p s l = after_lines-append p at_start front l in
    ⊎_elim (λ (none : c.failure ≡ None).
    let g = (closes at l before i c s st.line wants closing (st.standing none) (st.keeps none)).leaves new (h.first none) in
    let held : AllHold (conditions_from p at_start front) = subst (TellsFirst (conditions_from p at_start front)) none st.tells in
    let told : TellsFirst (conditions_from p at_start (front ++ l ∷ [])) (failed_at c.line g.found) = told_more p front l g.found c.line held g.tried in
    let kept : g.found ≡ None → StandsFirm g.kept (after_line p s l) × Keeps g.kept (after_line p s l) (after at l) nothing =
    λ n. g.keeps (subst (λ f. Tried (line_conditions p s l) f c.line) n g.tried) in
    subst (λ (n : Checks). Stands n (front ++ l ∷ []) (after at l) part) (sym g.is)
    (stands_for p (ended g.kept g.found) (front ++ l ∷ []) (after at l) part g.same (
      ap (λ x. x + 1) (g.line_is ∙ st.line) ∙ sym (line_more p front l),
      subst (λ n. TellsFirst (conditions_from p at_start (front ++ l ∷ [])) (failed_at n g.found)) (sym g.line_is) told,
      (λ n. subst (StandsFirm g.kept) (sym next) (kept (none_found g.kept.line g.found n)).0),
      (λ n. empty_keeps g.kept (behind p (front ++ l ∷ [])) (after at l) part may empty
          (subst (λ x. Keeps g.kept x (after at l) nothing) (sym next) (kept (none_found g.kept.line g.found n)).1)),
    )))
    (λ (some : (x : code.Kind × ℕ) × (c.failure ≡ Some x)).
    let not_none = some_not_none c.failure some.0 some.1 in
    subst (λ (n : Checks). Stands n (front ++ l ∷ []) (after at l) part) (sym (h.later not_none))
    (record {
      line = ap (λ b. cond b (c.line + 1) c.line) (closed_ends l before i closing) ∙ ap (λ x. x + 1) st.line ∙ sym (line_more p front l);
      tells = fails_on p front l c.failure some.0 some.1 st.tells;
      standing = λ n. absurd (not_none n);
      keeps = λ n. absurd (not_none n);
    }))
    (none_or c.failure)

taken_stands : (given : List Item) (i : Item) (c new : Checks) (lines : List Line) (stage : Stage) (part : Part) → HasTaken given c → Steps c i new
    → Coming given i lines stage part → Leads want_version lines stage → IsPart stage part → Stands new lines stage part
taken_stands given i c new lines stage part has h (goes_on before may are growing) lead may_part =
    grown_stands c new lines stage part before i may_part growing (has lines stage before lead are may) h
taken_stands given i c new lines stage part has h (ends_line front l at before split leads wants stage_is none may are closing) lead may_part =
    let st = has front at before leads are may in
    subst (λ ls. Stands new ls stage part) (sym split)
    (subst (λ g. Stands new (front ++ l ∷ []) g part) (sym stage_is)
    (closed_stands c new front l at before part i wants closing (subst (λ g. IsPart g part) stage_is may_part) none st h))

pub has_taken : (given : List Item) (i : Item) (c new : Checks) → HasTaken given c → Steps c i new → HasTaken (given ++ i ∷ []) new
has_taken given i c new has h = λ lines stage part lead are may.
    taken_stands given i c new lines stage part has h (coming given i lines stage part lead may are) lead may

-- ---- the lines from the first on

not_both : (cs : List Claim) (kind : Kind) (line : ℕ) → AllHold cs → FailsFirst cs kind line → ⊥
not_both [] kind line h f = f
not_both (x ∷ cs) kind line h (inl f) = f.0 h.0
not_both (x ∷ cs) kind line h (inr f) = not_both cs kind line h.1 f.1

pub none_failed : (cs : List Claim) (o : Option (code.Kind × ℕ)) → TellsFirst cs o → AllHold cs → o ≡ None
none_failed cs None h all = refl
none_failed cs (Some f) h all = absurd (not_both cs (kind_of f.0) f.1 all h)

pub empty_part : (stage : Stage) → (part : Part) × IsPart stage part × (part_items part ≡ [])
empty_part (want_hubs s) = (some_hubs [], ((λ k h. absurd (omega (arith, h))), All-nil (λ k. k < s.size)), refl)
empty_part want_version = (nothing, tt, refl)
empty_part (want_size v) = (nothing, tt, refl)
empty_part (want_cost s) = (nothing, tt, refl)
empty_part (want_bound s) = (nothing, tt, refl)
empty_part (want_route s t) = (nothing, tt, refl)
empty_part (want_cuts s) = (nothing, tt, refl)
empty_part (want_cut s all x) = (nothing, tt, refl)
empty_part (want_dual s all x t before) = (nothing, tt, refl)
empty_part (want_proved s all x t) = (nothing, tt, refl)
empty_part (want_proof s all x t) = (nothing, tt, refl)
empty_part (want_nodes s) = (nothing, tt, refl)
empty_part (want_tree s places left) = (nothing, tt, refl)
empty_part want_end = (nothing, tt, refl)
empty_part want_nothing = (nothing, tt, refl)

-- what a check tells of whole lines, from the first on
pub record TellsWhole (c : Checks) (lines : List Line) : Type 0 where
  pub tells : TellsFirst (conditions_from c.instance.now at_start lines) c.failure
  pub cost_is : c.failure ≡ None → c.cost ≡ (after_lines c.instance.now at_start lines).cost
  pub bound_is : c.failure ≡ None → c.bound ≡ (after_lines c.instance.now at_start lines).bound
  pub problem : c.failure ≡ None → IsProblem c.instance.now

pub tells_whole : (c : Checks) (lines : List Line) (stage : Stage) → Leads want_version lines stage → HasTaken (flat_map parts_of lines) c → TellsWhole c lines
tells_whole c lines stage lead has =
    let e = empty_part stage in
    let st = has lines stage e.0 lead (sym (ap (λ x. flat_map parts_of lines ++ x) e.2 ∙ append-nil (flat_map parts_of lines))) e.1 in
    record { tells = st.tells; cost_is = λ n. (st.standing n).cost_is; bound_is = λ n. (st.standing n).bound_is; problem = λ n. (st.standing n).problem }

-- ---- the check of which no item has come

pub record IsNew (c : Checks) : Type 0 where
  pub line_is : c.line ≡ 1
  pub failure_is : c.failure ≡ None
  pub firm : StandsFirm c at_start
  pub keeps : Keeps c at_start want_version nothing

begun_stands : (c : Checks) (part : Part) → IsNew c → IsPart want_version part → Stands c [] want_version part
begun_stands c nothing h may = record {
  line = h.line_is;
  tells = subst (TellsFirst []) (sym h.failure_is) tt;
  standing = λ n. h.firm;
  keeps = λ n. h.keeps;
}
begun_stands c part h may = absurd may

pub new_taken : (c : Checks) → IsNew c → HasTaken [] c
new_taken c h [] stage part lead are may =
    subst (λ g. Stands c [] g part) lead (begun_stands c part h (subst (λ g. IsPart g part) (sym lead) may))
new_taken c h (says_version v ∷ lines) stage part lead are may = cc
new_taken c h (l ∷ lines) stage part lead are may = absurd lead.0

-- ---- a certificate

pub tells_certificate : (c : Checks) (k : Stated) → IsStatedInRange k → HasTaken (items_of k) c → TellsFirst (conditions c.instance.now k) c.failure
tells_certificate c k range has = (tells_whole c (certificate_items k) want_nothing (each_text_leads_lem k range) has).tells

-- ---- what a certificate says of its cost and its bound

-- the stage is behind the line of the bound
abbrev IsPastBound : Stage → Type 0
IsPastBound want_version = ⊥
IsPastBound (want_size v) = ⊥
IsPastBound (want_cost s) = ⊥
IsPastBound (want_bound s) = ⊥
IsPastBound stage = Unit {0}

past_both : (b : Bool) (x y : Stage) → IsPastBound x → IsPastBound y → IsPastBound (cond b x y)
past_both true x y h k = h
past_both false x y h k = k

past_cut : (s : Shape) (all x : ℕ) → IsPastBound (after_cut s all x)
past_cut s all x = past_both (nat_eq x all) (want_nodes s) (want_cut s all x) tt tt

past_after : (stage : Stage) (l : Line) → IsPastBound stage → Wants stage l → IsPastBound (after stage l)
past_after (want_hubs s) (says_hubs hubs) h w = tt
past_after (want_route s t) (says_route c r) h w = past_both (nat_eq (t + 1) (s.size * s.size)) (want_cuts s) (want_route s (t + 1)) tt tt
past_after (want_cuts s) (says_cuts all) h w = past_cut s all 0
past_after (want_cut s all x) (says_cut number part) h w = tt
past_after (want_dual s all x t before) (says_dual c run dual) h w =
    past_both (nat_eq (t + run) (s.size * s.size)) (after_cut s all (x + 1)) (want_dual s all x (t + run) (kept_dual s (t + run) dual))
    (past_cut s all (x + 1)) tt
past_after (want_cut s all x) (says_marked number part hubs) h w = tt
past_after (want_proved s all x t) (says_dual c run dual) h w = tt
past_after (want_proof s all x t) (says_proof proof) h w =
    past_both (nat_eq (t + 1) (s.size * s.size)) (after_cut s all (x + 1)) (want_proved s all x (t + 1)) (past_cut s all (x + 1)) tt
past_after (want_nodes s) (says_nodes all) h w = tt
past_after (want_tree s places left) (says_tree line) h w =
    past_both (nat_eq (left - 1) 0) want_end (want_tree s (places_after places line) (left - 1)) tt tt
past_after want_end says_end h w = tt
past_after want_version (says_version v) h w = absurd h
past_after (want_size v) (says_size n q) h w = absurd h
past_after (want_cost s) (says_cost v) h w = absurd h
past_after (want_bound s) (says_bound v) h w = absurd h
past_after stage l h w = absurd w

-- the cost and the bound that were said
abbrev said : Progress → ℕ × ℕ
said s = (s.cost, s.bound)

said_both : (b : Bool) (x y s : Progress) → said x ≡ said s → said y ≡ said s → said (cond b x y) ≡ said s
said_both true x y s h k = h
said_both false x y s h k = k

said_duals : (s : Progress) (duals : List Prices) → said (with_duals s duals) ≡ said s
said_duals s duals =
    said_both (is_none s.mark && is_whole s duals) (with_cut s duals) (record s { line = s.line + 1; duals = duals }) s refl refl

said_after : (p : Problem) (s : Progress) (stage : Stage) (l : Line) → IsPastBound stage → Wants stage l → said (after_line p s l) ≡ said s
said_after p s (want_hubs sh) (says_hubs hubs) h w = refl
said_after p s (want_route sh t) (says_route c r) h w = refl
said_after p s (want_cuts sh) (says_cuts all) h w = refl
said_after p s (want_cut sh all x) (says_cut number part) h w = refl
said_after p s (want_cut sh all x) (says_marked number part hubs) h w = refl
said_after p s (want_dual sh all x t before) (says_dual c run dual) h w = said_duals s (s.duals ++ replicate run dual)
said_after p s (want_proved sh all x t) (says_dual c run dual) h w = said_duals s (s.duals ++ replicate run dual)
said_after p s (want_proof sh all x t) (says_proof proof) h w =
    said_both (is_whole s s.duals) (with_cut s s.duals) (next_line s) s refl refl
said_after p s (want_nodes sh) (says_nodes all) h w = refl
said_after p s (want_tree sh places left) (says_tree line) h w = refl
said_after p s want_end says_end h w = refl
said_after p s want_version (says_version v) h w = absurd h
said_after p s (want_size v) (says_size n q) h w = absurd h
said_after p s (want_cost sh) (says_cost v) h w = absurd h
said_after p s (want_bound sh) (says_bound v) h w = absurd h
said_after p s stage l h w = absurd w

said_later : (p : Problem) (s : Progress) (stage : Stage) (lines : List Line) (last : Stage) → IsPastBound stage → Leads stage lines last
    → said (after_lines p s lines) ≡ said s
said_later p s stage [] last h lead = refl
said_later p s stage (l ∷ lines) last h lead =
    said_later p (after_line p s l) (after stage l) lines last (past_after stage l h lead.0) lead.1 ∙ said_after p s stage l h lead.0

said_lines : (p : Problem) (version n q v b : ℕ) (rest : List Line) (last : Stage)
    → Leads want_version (says_version version ∷ says_size n q ∷ says_cost v ∷ says_bound b ∷ rest) last
    → said (after_lines p at_start (says_version version ∷ says_size n q ∷ says_cost v ∷ says_bound b ∷ rest)) ≡ (v, b)
said_lines p version n q v b rest last lead =
    said_later p (record at_start { line = 5; size = n; cost = v; bound = b }) (want_hubs (shape version n)) rest last tt lead.1.1.1.1

-- all but the first line
abbrev others : List Line → List Line
others [] = []
others (l ∷ lines) = lines

said_certificate : (p : Problem) (k : Stated) → IsStatedInRange k → said (after_lines p at_start (certificate_items k)) ≡ (k.proof.cost, k.proof.bound)
said_certificate p k range =
    said_lines p k.proof.version k.proof.size k.proof.candidates k.proof.cost k.proof.bound (others (others (others (others (certificate_items k)))))
    want_nothing (each_text_leads_lem k range)

pub said_by : (c : Checks) (k : Stated) → IsStatedInRange k → HasTaken (items_of k) c → AllHold (conditions c.instance.now k)
    → (c.cost ≡ k.proof.cost) × (c.bound ≡ k.proof.bound)
said_by c k range has all =
    let p = c.instance.now in
    let t = tells_whole c (certificate_items k) want_nothing (each_text_leads_lem k range) has in
    let told = tells_certificate c k range has in
    let none = none_failed (conditions p k) c.failure told all in
    let s = said_certificate p k range in
    (t.cost_is none ∙ ap (λ (x : ℕ × ℕ). x.0) s, t.bound_is none ∙ ap (λ (x : ℕ × ℕ). x.1) s)

-- the instance of a check that took a certificate whose conditions hold is a problem
pub problem_by : (c : Checks) (k : Stated) → IsStatedInRange k → HasTaken (items_of k) c → AllHold (conditions c.instance.now k) → IsProblem c.instance.now
problem_by c k range has all =
    (tells_whole c (certificate_items k) want_nothing (each_text_leads_lem k range) has).problem
    (none_failed (conditions c.instance.now k) c.failure (tells_certificate c k range has) all)
