-- One more cut: the definition's state once the set is separated.
use Rattle.std.proofs.Common.{◌≡◌, ℕ, ◌+◌, ◌<◌, ◌≤◌, List, [], ◌∷◌, ◌++◌, length, Option, Some, Result, Ok, Err, IsOk, OnOk, true≢false, Vec, Global, refl, ap, ap₂, sym, subst, ◌∙◌, arith}
use Rattle.std.proofs.lemmas.List.{map-append, length_push}
use Rattle.std.proofs.lemmas.List.Elements.{All-push}
use Rattle.hub_spec.specs.Limits.{most_cost, most_cuts}
use Rattle.hub_spec.specs.Problem.{Problem, IsProblem, opening_cost}
use Rattle.hub_spec.specs.Plans.{IsHubSet, IsSetCost}
use Rattle.hub_spec.specs.Cuts.{Cut}
use Rattle.hub_spec.proofs.SetCosts.{one_set_cost}
use Rattle.core_spec.specs.CoreCuts.{Mark}
use Rattle.hub_model.specs.declared.tree_lines.TreeLine.{TreeLine}
use Rattle.cut_model.specs.MarkedCuts.{MarkedCut}
use Rattle.cut_pool.specs.Kept.{Kept, kept_set, kept_cut, kept_mark}
use Rattle.cut_pool.specs.Entries.{Sums, Entry, entry_of}
use Rattle.cut_pool.specs.declared.pool.Refused.{Refused}
use Rattle.search_spec.specs.Steps.{separated}
use Rattle.search_spec.specs.Choices.{set_cost, rule_parts}
use Rattle.search_spec.proofs.SetCosts.{set_cost_by_sums}
use Rattle.search_spec.proofs.StepCases.{separated_cheaper, separated_dearer}
use Rattle.search_steps.specs.Pools.{entry_cut, IsSumsOf, IsPoolOf, pool_sets, pool_cuts, pool_marks, state_by}
use Rattle.search_core.specs.declared.tasks.Task.{Task}
use Rattle.search_steps.specs.declared.progress.Progress.{Progress}
use Rattle.cut_pool.specs.Findings.{lines_of}
use Rattle.search_steps.specs.Advising.{parts_of}
use Rattle.search_steps.proofs.RuleChoices.{parts_sound}
use Rattle.search_steps.specs.Kinds.{CutKind, parts_for}
use Rattle.search_steps.specs.Entered.{IsEntryOf}
use Rattle.search_steps.proofs.KindCuts.{kept_of_set}
use Rattle.search_steps.specs.Progressing.{state_of, IsGoing, IsAt}
use Rattle.search_steps.specs.Separating.{HasCut, IsAdded}

parts_cost : (p : Problem) (set : List ℕ) → (parts_of p).cost set ≡ set_cost p set
unfolding rule_parts
parts_cost p set = refl

-- what the set costs, by the sums of its cut
sums_cost : (p : Problem) (sums : Sums) (order : List ℕ) (total_cost opening : ℕ) → IsProblem p → IsSumsOf p (entry_of sums order)
    → total_cost ≡ sums.total → opening ≡ opening_cost p sums.hubs → total_cost + opening ≡ (parts_of p).cost sums.hubs
sums_cost p sums order total_cost opening ok is same opens =
    let by_sums = (set_cost_by_sums p sums.hubs order ok is.fits.0 is.fits.1).by_sums in
    let cost : total_cost + opening ≡ set_cost p sums.hubs = omega (arith, same, opens, is.is_total, by_sums) in
    cost ∙ sym (parts_cost p sums.hubs)

-- the entries with the new one
pub more_sets : (kind : CutKind) (p : Problem) (kept more : List Entry) (set order : List ℕ) (price : ℕ) → IsProblem p → IsHubSet p set
    → HasCut kind p kept more set order price → pool_sets more ≡ pool_sets kept ++ Some set ∷ []
more_sets kind p kept more set order price ok is_set cut =
    ap pool_sets cut.entries ∙ map-append (λ (e : Entry). kept_set e.cut) kept (cut.entry ∷ [])
    ∙ ap (λ (k : Kept). pool_sets kept ++ kept_set k ∷ []) cut.is.kept
    ∙ ap (λ (o : Option (List ℕ)). pool_sets kept ++ o ∷ []) (kept_of_set kind p set order ok is_set).of_set

pub more_cuts : (kind : CutKind) (p : Problem) (kept more : List Entry) (set order : List ℕ) (price : ℕ) → IsProblem p → IsHubSet p set
    → HasCut kind p kept more set order price → pool_cuts p more ≡ pool_cuts p kept ++ (parts_for kind p).cut set order ∷ []
more_cuts kind p kept more set order price ok is_set cut =
    ap (pool_cuts p) cut.entries ∙ map-append (entry_cut p) kept (cut.entry ∷ [])
    ∙ ap (λ (k : Kept). pool_cuts p kept ++ kept_cut p k ∷ []) cut.is.kept
    ∙ ap (λ (c : Cut). pool_cuts p kept ++ c ∷ []) (kept_of_set kind p set order ok is_set).cut

pub more_marks : (kind : CutKind) (p : Problem) (kept more : List Entry) (set order : List ℕ) (price : ℕ) → IsProblem p → IsHubSet p set
    → HasCut kind p kept more set order price → pool_marks more ≡ pool_marks kept ++ (parts_for kind p).mark set ∷ []
more_marks kind p kept more set order price ok is_set cut =
    ap pool_marks cut.entries ∙ map-append (λ (e : Entry). kept_mark e.cut) kept (cut.entry ∷ [])
    ∙ ap (λ (k : Kept). pool_marks kept ++ kept_mark k ∷ []) cut.is.kept
    ∙ ap (λ (o : Option Mark). pool_marks kept ++ o ∷ []) (kept_of_set kind p set order ok is_set).mark

cheaper_added : (kind : CutKind) (p : Problem) (kept more : List Entry) (set order old best : List ℕ) (cost least made : ℕ) (stop : Option ℕ)
    → IsProblem p → IsHubSet p set → HasCut kind p kept more set order cost → cost < least → best ≡ set
    → state_by p more best cost made stop ≡ separated (parts_for kind p) set order (state_by p kept old least made stop)
cheaper_added kind p kept more set order old best cost least made stop ok is_set cut less same =
    let parts = parts_for kind p in
    let sets = more_sets kind p kept more set order cost ok is_set cut in
    let cuts = more_cuts kind p kept more set order cost ok is_set cut in
    let marks = more_marks kind p kept more set order cost ok is_set cut in
    let costs = cut.cost in
    let both : state_by p more best cost made stop ≡ record (state_by p kept old least made stop) {
      sets = pool_sets kept ++ Some set ∷ [];
      cuts = pool_cuts p kept ++ parts.cut set order ∷ [];
      marks = pool_marks kept ++ parts.mark set ∷ [];
      hubs = set;
      cost = parts.cost set;
    } = λ i. record { sets = sets i; cuts = cuts i; marks = marks i; hubs = same i; cost = costs i; made = made; stop = stop } in
    both ∙ sym (separated_cheaper parts set order (state_by p kept old least made stop) (omega (arith, costs, less)))

dearer_added : (kind : CutKind) (p : Problem) (kept more : List Entry) (set order old : List ℕ) (cost least made : ℕ) (stop : Option ℕ)
    → IsProblem p → IsHubSet p set → HasCut kind p kept more set order cost → least ≤ cost
    → state_by p more old least made stop ≡ separated (parts_for kind p) set order (state_by p kept old least made stop)
dearer_added kind p kept more set order old cost least made stop ok is_set cut above =
    let parts = parts_for kind p in
    let sets = more_sets kind p kept more set order cost ok is_set cut in
    let cuts = more_cuts kind p kept more set order cost ok is_set cut in
    let marks = more_marks kind p kept more set order cost ok is_set cut in
    let both : state_by p more old least made stop ≡ record (state_by p kept old least made stop) {
      sets = pool_sets kept ++ Some set ∷ [];
      cuts = pool_cuts p kept ++ parts.cut set order ∷ [];
      marks = pool_marks kept ++ parts.mark set ∷ [];
    } = λ i. record { sets = sets i; cuts = cuts i; marks = marks i; hubs = old; cost = least; made = made; stop = stop } in
    both ∙ sym (separated_dearer parts set order (state_by p kept old least made stop) (omega (arith, cut.cost, above)))

-- the pool with the new entry
pub more_pool : (kind : CutKind) (p : Problem) (kept more : List Entry) (set order : List ℕ) (price : ℕ) → HasCut kind p kept more set order price
    → IsPoolOf p kept → IsPoolOf p more
more_pool kind p kept more set order price cut all = subst (IsPoolOf p) (sym cut.entries) (All-push (IsSumsOf p) kept cut.entry all cut.is.sums)

pub more_long : (kind : CutKind) (p : Problem) (kept more : List Entry) (set order : List ℕ) (price : ℕ) → HasCut kind p kept more set order price
    → length more ≡ length kept + 1
more_long kind p kept more set order price cut = ap length cut.entries ∙ length_push kept cut.entry

-- ---- what the code has then

-- what holds of a success
ok_gives : {X Y P : Type 0} (r : Result X Y) → IsOk r → OnOk r P → P
ok_gives (Ok x) ok told = told
ok_gives (Err e) ok told = absurd (true≢false (sym ok))

-- the entry that was added, with the sums that were returned for its cut
pub sums_added : (p : Problem) (kept more : List Entry) (r : Result ℕ Refused) (sums : Sums) (order : List ℕ) (least opening : ℕ)
    → IsProblem p → IsOk r → OnOk r (more ≡ kept ++ entry_of sums order ∷ []) → IsSumsOf p (entry_of sums order)
    → least ≡ sums.total → opening ≡ opening_cost p sums.hubs
    → IsAdded p kept more (entry_of sums order) sums.hubs (least + opening)
sums_added p kept more r sums order least opening ok succeeds added is total_is opening_is = record {
  entries = ok_gives r succeeds added;
  cost = sums_cost p sums order least opening ok is total_is opening_is;
}

-- the entry of a Pareto-optimal cut, whose set has this cost
pub core_added : (p : Problem) (kept more : List Entry) (r : Result ℕ MarkedCut) (e : Entry) (set : List ℕ) (price : ℕ) → IsProblem p → IsHubSet p set
    → IsOk r → OnOk r (more ≡ kept ++ e ∷ []) → IsSetCost p set price → IsAdded p kept more e set price
core_added p kept more r e set price ok is_set succeeds added cost = record {
  entries = ok_gives r succeeds added;
  cost = one_set_cost p set price ((parts_of p).cost set) cost ((parts_sound p ok).cost set is_set);
}

-- the Benders cut from the hub set over the order, where its entry was added
pub cut_added : (kind : CutKind) (p : Problem) (kept more : List Entry) (entry : Entry) (set order : List ℕ) (price : ℕ)
    → IsEntryOf kind p set order entry → IsAdded p kept more entry set price → HasCut kind p kept more set order price
cut_added kind p kept more entry set order price is added = record { entry = entry; entries = added.entries; is = is; cost = added.cost }

-- the tree and its counts are the same
pub record HasSameTree (before after : Progress) : Type 0 where
  pub lines : after.lines ≡ before.lines
  pub made : after.made ≡ before.made
  pub stop : after.stop ≡ before.stop

pub cut_going : (kind : CutKind) (t : Task) (before after : Progress) (set order : List ℕ) (price : ℕ) → IsGoing t before
    → length before.pool.entries < most_cuts → HasCut kind t.instance.now before.pool.entries after.pool.entries set order price
    → HasSameTree before after → IsHubSet t.instance.now after.hubs → after.cost ≤ most_cost → IsGoing t after
cut_going kind t before after set order price going few cut same hubs limit = record {
  problem = going.problem;
  pool = more_pool kind t.instance.now before.pool.entries after.pool.entries set order price cut going.pool;
  few_cuts = omega (arith, few, more_long kind t.instance.now before.pool.entries after.pool.entries set order price cut);
  few_lines = omega (arith, going.few_lines, ap (λ (v : Vec TreeLine Global). length v.items) same.lines);
  hubs = hubs;
  cost = limit;
  made = omega (arith, going.made, same.made, ap (λ (v : Vec TreeLine Global). length v.items) same.lines);
}

pub cheaper_at : (kind : CutKind) (t : Task) (before after : Progress) (set order : List ℕ) → IsGoing t before → length before.pool.entries < most_cuts
    → HasCut kind t.instance.now before.pool.entries after.pool.entries set order after.cost → HasSameTree before after → IsHubSet t.instance.now set
    → after.hubs ≡ set → after.cost < before.cost
    → IsAt t before after (separated (parts_for kind t.instance.now) set order (state_of t.instance.now before))
cheaper_at kind t before after set order going few cut same is_set best less =
    let p = t.instance.now in
    let as_now : state_of p after ≡ state_by p after.pool.entries after.hubs after.cost before.made before.stop =
    ap₂ (λ (m : ℕ) (o : Option ℕ). state_by p after.pool.entries after.hubs after.cost m o) same.made same.stop in
    record {
      state = as_now ∙ cheaper_added kind p before.pool.entries after.pool.entries set order before.hubs after.hubs after.cost before.cost before.made
          before.stop going.problem is_set cut less best;
      lines = ap (λ (v : Vec TreeLine Global). lines_of v.items) same.lines;
      going = cut_going kind t before after set order after.cost going few cut same (subst (IsHubSet p) (sym best) is_set) (omega (arith, less, going.cost));
      kept = record { more = cut.entry ∷ []; is = cut.entries };
    }

pub dearer_at : (kind : CutKind) (t : Task) (before after : Progress) (set order : List ℕ) (price : ℕ) → IsGoing t before
    → length before.pool.entries < most_cuts → HasCut kind t.instance.now before.pool.entries after.pool.entries set order price
    → HasSameTree before after → IsHubSet t.instance.now set → after.hubs ≡ before.hubs → after.cost ≡ before.cost → before.cost ≤ price
    → IsAt t before after (separated (parts_for kind t.instance.now) set order (state_of t.instance.now before))
dearer_at kind t before after set order price going few cut same is_set hubs cost above =
    let p = t.instance.now in
    let as_now : state_of p after ≡ state_by p after.pool.entries before.hubs before.cost before.made before.stop =
    ap₂ (λ (hs : List ℕ) (c : ℕ). state_by p after.pool.entries hs c after.made after.stop) hubs cost
    ∙ ap₂ (λ (m : ℕ) (o : Option ℕ). state_by p after.pool.entries before.hubs before.cost m o) same.made same.stop in
    record {
      state = as_now ∙ dearer_added kind p before.pool.entries after.pool.entries set order before.hubs price before.cost before.made before.stop
          going.problem is_set cut above;
      lines = ap (λ (v : Vec TreeLine Global). lines_of v.items) same.lines;
      going = cut_going kind t before after set order price going few cut same (subst (IsHubSet p) (sym hubs) going.hubs) (omega (arith, cost, going.cost));
      kept = record { more = cut.entry ∷ []; is = cut.entries };
    }
