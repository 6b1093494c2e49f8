-- What an item may be, by the lines and the part that stand.
use Rattle.std.proofs.Common.{◌≡◌, ◌≢◌, ℕ, ◌+◌, ◌*◌, ◌^◌, ◌%◌, ◌<◌, ◌≤◌, List, [], ◌∷◌, ◌++◌, length, map, Option, Some, None, All, sym, ap, subst, ◌∙◌, arith}
use Rattle.std.specs.List.{AllZip}
use Rattle.std.specs.List.Sorted.{IsStrictlyIncreasing}
use Rattle.std.proofs.Math.Nat.{mul-le-mul}
use Rattle.std.proofs.lemmas.List.{map-append}
use Rattle.std.proofs.lemmas.List.Elements.{All-nil, All-cons, All-head, All-tail}
use Rattle.hub_spec.specs.Problem.{Problem, commodity_at}
use Rattle.hub_spec.specs.Cuts.{Prices}
use Rattle.hub_spec.specs.Trees.{leaf_of}
use Rattle.hub_spec.specs.Ranges.{IsShort, IsDualInRange, IsLineInRange}
use Rattle.cert_spec.specs.Lines.{part_of}
use Rattle.cert_spec.specs.Grammar.{Shape, want_hubs, want_route, want_tree, IsPart, IsRun}
use Rattle.cert_spec.proofs.Stages.{run_within}
use Rattle.cert_spec.specs.Progress.{Progress}
use Rattle.cert_conditions.specs.Sums.{CutTally, most_duals, last_of}
use Rattle.cert_conditions.specs.Steps.{MayHub, MayRoute, MayCut, MayEndDual, MayDual, MayValue, MayBlock, MayEndLeaf, MayAdd, MayWeight}
use Rattle.cert_conditions.specs.Taken.{Part, nothing, some_hubs, some_values, StandsFirm, AreSumsOfCut, DualsStand, DualsKept, Keeps}
use Rattle.cert_conditions.specs.declared.checks.Checks.{Checks}
use Rattle.cert_conditions.proofs.Lists.{all_last, ascend_last, not_nil}
use Rattle.cert_conditions.proofs.Loads.{last_of-last}
use Rattle.cert_conditions.proofs.PlanSteps.{next_commodity}

pub may_hub : (c : Checks) (s : Progress) (sh : Shape) (front : List ℕ) (k : ℕ) → Keeps c s (want_hubs sh) (some_hubs front)
    → IsStrictlyIncreasing (front ++ k ∷ []) → All (λ (m : ℕ). m < sh.size) (front ++ k ∷ []) → MayHub c k
may_hub c s sh front k keeps up nodes =
    let below : k < sh.size = all_last (λ (m : ℕ). m < sh.size) front k nodes in
    let tally = keeps.1.tally in
    record {
      nodes = tally.size_is;
      node = omega (arith, below, keeps.0.wanted_is, tally.size_is);
      above = subst (All (λ (m : ℕ). m < k)) (sym tally.hubs_are) (ascend_last front k up);
    }

pub may_route : (c : Checks) (s : Progress) (sh : Shape) (t : ℕ) (commodity route : ℕ × ℕ) → Keeps c s (want_route sh t) nothing
    → commodity ≡ commodity_at sh.size t → route.0 < sh.size → route.1 < sh.size → MayRoute c commodity route
may_route c s sh t commodity route keeps at first last =
    let n = c.instance.now.size in
    let tally = keeps.1.tally in
    let next = next_commodity n sh.size t commodity keeps.0.wanted_is keeps.1.more at in
    record {
      nodes = tally.size_is;
      from = omega (arith, next.from, tally.size_is);
      to = omega (arith, next.to, tally.size_is);
      next = ap (λ x. commodity.0 * x + commodity.1) tally.size_is ∙ next.place ∙ sym (tally.routed_is ∙ keeps.1.count);
      first = omega (arith, first, tally.size_is, keeps.0.wanted_is);
      last = omega (arith, last, tally.size_is, keeps.0.wanted_is);
    }

may_end_dual : (c : Checks) (s : Progress) (sh : Shape) (t run : ℕ) → StandsFirm c s → sh.size ≡ c.instance.now.size → IsRun sh t run
    → DualsStand c.instance.now s.cuts s.part s.duals c.cuts t → t < c.instance.now.size * c.instance.now.size → MayEndDual c run
may_end_dual c s sh t run st size is_run d more =
    let p = c.instance.now in
    let is : last_of c.cuts ≡ d.last = ap last_of d.split ∙ last_of-last d.front d.last in
    let square : p.size * p.size ≤ 200 * 200 = mul-le-mul st.problem.size_limit st.problem.size_limit in
    let wanted : sh.size * sh.size ≡ p.size * p.size = ap (λ n. n * n) size in
    let within : t + run ≤ sh.size * sh.size = run_within sh.size t run (omega (arith, more, wanted)) is_run.1 in
    record {
      stands = λ e. not_nil d.front d.last (sym d.split ∙ e);
      few = subst (λ (x : CutTally). x.count + run ≤ most_duals) (sym is) (omega (arith, d.last_is.count_is, d.count, within, square, wanted));
      long = ap (λ (x : CutTally). length x.loads) is ∙ d.last_is.long ∙ sym (ap (λ (q : Problem). q.size) st.dual_is);
    }

pub may_dual : (c : Checks) (s : Progress) (sh : Shape) (t : ℕ) (commodity : ℕ × ℕ) (run a : ℕ) (part : Part) → StandsFirm c s
    → DualsKept c s sh t part → commodity ≡ commodity_at sh.size t → IsRun sh t run → a < 10 ^ 33 → MayDual c commodity run a
may_dual c s sh t commodity run a part st keeps at is_run short =
    let n = c.instance.now.size in
    let next = next_commodity n sh.size t commodity keeps.0.wanted_is keeps.3 at in
    let size : c.dual.problem.size ≡ n = ap (λ (q : Problem). q.size) st.dual_is in
    let column : commodity.1 ≡ t % sh.size = ap (λ (k : ℕ × ℕ). k.1) at in
    record {
      from = omega (arith, next.from);
      to = omega (arith, column, is_run.1, size, keeps.0.wanted_is);
      some = is_run.0;
      short = short;
      may_end = may_end_dual c s sh t run st keeps.0.wanted_is is_run keeps.1 keeps.3;
    }

-- the part of a cut's line, which the version says or not
pub may_cut : (v : ℕ) (part : Option ℕ) → IsPart v part → MayCut (part_of part)
may_cut v None h = record { least = omega arith; most = omega arith }
may_cut v (Some e) h = record { least = h.1; most = h.2 }

keys_below : (u : List (ℕ × ℕ)) (k : ℕ) → All (λ (m : ℕ). m < k) (map (λ (e : ℕ × ℕ). e.0) u) → All (λ (e : ℕ × ℕ). e.0 < k) u
keys_below [] k h = All-nil (λ (e : ℕ × ℕ). e.0 < k)
keys_below (e ∷ u) k h =
    All-cons (λ (e : ℕ × ℕ). e.0 < k) e u (All-head (λ (m : ℕ). m < k) e.0 (map (λ (e : ℕ × ℕ). e.0) u) h)
    (keys_below u k (All-tail (λ (m : ℕ). m < k) e.0 (map (λ (e : ℕ × ℕ). e.0) u) h))

pub may_value : (c : Checks) (s : Progress) (sh : Shape) (t : ℕ) (commodity : ℕ × ℕ) (run a : ℕ) (front : List (ℕ × ℕ)) (e : ℕ × ℕ)
    → StandsFirm c s → DualsKept c s sh t (some_values commodity run (record { a = a; u = front })) → IsRun sh t run
    → IsDualInRange sh.size (record { a = a; u = front ++ e ∷ [] }) → MayValue c e.0 e.1
may_value c s sh t commodity run a front e st keeps is_run range =
    let one = all_last (λ (e : ℕ × ℕ). (e.0 < sh.size) × (1 ≤ e.1) × (e.1 < 10 ^ 33)) front e range.each in
    let size : c.dual.problem.size ≡ c.instance.now.size = ap (λ (q : Problem). q.size) st.dual_is in
    let node : e.0 < sh.size = one.0 in
    record {
      node = omega (arith, keeps.0.wanted_is);
      above = subst (λ (d : Prices). All (λ (x : ℕ × ℕ). x.0 < e.0) d.u) (sym keeps.2.dual_is)
          (keys_below front e.0 (ascend_last (map (λ (x : ℕ × ℕ). x.0) front) e.0
          (subst IsStrictlyIncreasing (map-append (λ (x : ℕ × ℕ). x.0) front (e ∷ [])) range.ascend)));
      least = one.1;
      short = one.2;
      may_end = subst (MayEndDual c) (sym keeps.2.run_is) (may_end_dual c s sh t run st keeps.0.wanted_is is_run keeps.1 keeps.3);
    }

pub may_fill : (c : Checks) (s : Progress) (sh : Shape) (places left : ℕ) (part : Part) → Keeps c s (want_tree sh places left) part → c.path.pending ≢ []
may_fill c s sh places left part keeps e =
    let tree = keeps.2 in
    let none : s.pending ≡ [] = sym tree.are ∙ e in
    omega (arith, ap length none, tree.count, tree.some)

pub may_block : (c : Checks) (s : Progress) (sh : Shape) (places left : ℕ) (commodity : ℕ × ℕ) (part : Part) → StandsFirm c s
    → Keeps c s (want_tree sh places left) part → commodity.0 < sh.size → commodity.1 < sh.size → MayBlock c commodity
may_block c s sh places left commodity part st keeps from to = record {
  some = may_fill c s sh places left part keeps;
  candidates = st.candidates_are;
  from = omega (arith, from, keeps.0.wanted_is);
  to = omega (arith, to, keeps.0.wanted_is);
}

pub may_end_leaf : (c : Checks) (s : Progress) (sh : Shape) (places left : ℕ) (part : Part) → StandsFirm c s
    → Keeps c s (want_tree sh places left) part → MayEndLeaf c
may_end_leaf c s sh places left part st keeps = record {
  some = may_fill c s sh places left part keeps;
  nodes = st.size_is;
  long = st.long;
  short = subst IsShort (sym st.bound_is) st.short;
}

zip_all : {A B : Type 0} (R : A → B → Type 0) (P : B → Type 0) (xs : List A) (ys : List B) → ((x : A) (y : B) → R x y → P y) → AllZip R xs ys → All P ys
zip_all R P [] [] f h = All-nil P
zip_all R P [] (y ∷ ys) f h = absurd h
zip_all R P (x ∷ xs) [] f h = absurd h
zip_all R P (x ∷ xs) (y ∷ ys) f h = All-cons P y ys (f x y h.0) (zip_all R P xs ys f h.1)

pub may_weight : (c : Checks) (s : Progress) (sh : Shape) (places left denom : ℕ) (front : List (ℕ × ℕ)) (e : ℕ × ℕ) (part : Part) → StandsFirm c s
    → Keeps c s (want_tree sh places left) part → IsLineInRange sh.size (leaf_of denom (front ++ e ∷ [])) → MayWeight c e.0
may_weight c s sh places left denom front e part st keeps range =
    let p = c.instance.now in
    record {
      least = (all_last (λ (e : ℕ × ℕ). (1 ≤ e.0) × (e.0 < 10 ^ 30) × (1 ≤ e.1) × (e.1 < 10 ^ 30)) front e range.2.each).0;
      may_add = zip_all (AreSumsOfCut p) (MayAdd p.size) s.cuts c.cuts
          (λ cut sums h. record { long = h.are.long; within = h.within }) keeps.1.sums_are;
      may_end = may_end_leaf c s sh places left part st keeps;
    }
