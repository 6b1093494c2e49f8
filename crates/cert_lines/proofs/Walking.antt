-- Steps down a tree: the branches that they lead to, and a step taken and taken back.
use Rattle.std.proofs.Common.{◌≡◌, ℕ, ◌+◌, ◌<◌, Bool, true, false, cond, List, [], ◌∷◌, ◌++◌, length, reverse, Contains, IsTrue, ◌↔◌, not, nat_eq, nat_lt, refl, sym, ap, subst, ◌∙◌, ◌⊎◌, ⊎_elim, inl, inr, eqb-true, arith}
use Rattle.std.specs.List.Sorted.{IsStrictlyIncreasing}
use Rattle.std.proofs.lemmas.Bool.{eqb-false, cases_eq}
use Rattle.hub_spec.specs.Sums.{with_node, without}
use Rattle.hub_spec.specs.Trees.{Branching, IsSplit, IsBranch}
use Rattle.hub_spec.proofs.SumLemmas.{by_test, Contains-cons_cases, nil_contains_none}
use Rattle.hub_spec.proofs.Sets.{Contains-head, Contains-later, ascend_tail, ascend_head}
use Rattle.hub_spec.proofs.Ascending.{ascend_nil, in_without, with_node_has, with_node_keeps, without_keeps, without_lacks}
use Rattle.hub_spec.proofs.ChildLists.{open_split, closed_split, open_branch, closed_branch}
use Rattle.hub_spec.specs.Problem.{Problem}
use Rattle.cert_lines.specs.declared.trails.Step.{Step}
use Rattle.std.proofs.lemmas.List.{reverse-append, length-reverse}
use Rattle.std.proofs.lemmas.List.Elements.{All-contains, All-contains_itself, All-nil}
use Rattle.cert_lines.specs.Marks.{marked}
use Rattle.cert_lines.specs.Trails.{Trail, undecided, child, branch_at, AreSteps, trail_of, trail_end, IsKept, IsReached}
use Rattle.cert_lines.proofs.Marking.{with_node-front, with_node-behind, without-head, without-behind, length-with_node, length-without}

-- ---- a node put in again, and taken out again

pub with_node-without : (k : ℕ) (ms : List ℕ) → IsStrictlyIncreasing ms → Contains ms k → with_node k (without k ms) ≡ ms
with_node-without k [] up c = nil_contains_none k c
with_node-without k (m ∷ ms) up c =
    by_test (nat_eq k m)
    (λ e. let same : k ≡ m = eqb-true k m e in
    rw (e, same) (with_node-front m ms (λ x d. ascend_head m ms x up d)))
    (λ e. rw e (⊎_elim (λ here. absurd (eqb-false k m e (sym here)))
    (λ later. with_node-behind k m (without k ms) (omega (arith, ascend_head m ms k up later))
    ∙ ap (λ ks. m ∷ ks) (with_node-without k ms (ascend_tail m ms up) later)) (Contains-cons_cases m ms k c)))

pub without-with_node : (k : ℕ) (ms : List ℕ) → (Contains ms k → ⊥) → without k (with_node k ms) ≡ ms
without-with_node k [] new = without-head k []
without-with_node k (m ∷ ms) new =
    by_test (nat_lt k m) (λ e. rw e (without-head k (m ∷ ms)))
    (λ e. rw e (without-behind k m (with_node k ms) (λ same. new (subst (Contains (m ∷ ms)) (sym same) (Contains-head m ms)))
    ∙ ap (λ ks. m ∷ ks) (without-with_node k ms (λ c. new (Contains-later m ms k c)))))

-- ---- the branches of a way

pub child_split : (b : Branching) (node : ℕ) (opened : Bool) → IsSplit b → Contains b.free node → IsSplit (child b (record { node = node; opened = opened }))
child_split b node true ok free = open_split b node ok free
child_split b node false ok free = closed_split b node ok free

pub child-free : (b : Branching) (node : ℕ) (opened : Bool) → (child b (record { node = node; opened = opened })).free ≡ without node b.free
child-free b node true = refl
child-free b node false = refl

pub child-inside : (b : Branching) (node : ℕ) (opened : Bool)
    → (child b (record { node = node; opened = opened })).inside ≡ cond opened (with_node node b.inside) b.inside
child-inside b node true = refl
child-inside b node false = refl

pub undecided_split : (candidates : List ℕ) → IsStrictlyIncreasing candidates → IsSplit (undecided candidates)
undecided_split candidates up = record {
  inside_ascends = ascend_nil;
  outside_ascends = ascend_nil;
  free_ascends = up;
  not_both = λ k inside outside. nil_contains_none k inside;
  inside_apart = λ k free inside. nil_contains_none k inside;
  outside_apart = λ k free outside. nil_contains_none k outside;
}

pub branch_split : (candidates : List ℕ) (steps : List Step) → IsStrictlyIncreasing candidates → AreSteps candidates steps
    → IsSplit (branch_at candidates steps)
branch_split candidates [] up are = undecided_split candidates up
branch_split candidates (step ∷ before) up are =
    child_split (branch_at candidates before) step.node step.opened (branch_split candidates before up are.1) are.0

-- each step takes one free node
pub free_count : (candidates : List ℕ) (steps : List Step) → AreSteps candidates steps
    → length steps + length (branch_at candidates steps).free ≡ length candidates
free_count candidates [] are = omega arith
free_count candidates (step ∷ before) are =
    let b = branch_at candidates before in
    let fewer = ap (λ (ks : List ℕ). length ks) (child-free b step.node step.opened) in
    omega (arith, fewer, length-without step.node b.free are.0, free_count candidates before are.1)

pub free_are_candidates : (candidates : List ℕ) (steps : List Step) (k : ℕ) → Contains (branch_at candidates steps).free k → Contains candidates k
free_are_candidates candidates [] k c = c
free_are_candidates candidates (step ∷ before) k c =
    let b = branch_at candidates before in
    free_are_candidates candidates before k
    (in_without step.node b.free k (subst (λ (ks : List ℕ). Contains ks k) (child-free b step.node step.opened) c))

-- ---- the marks along a way

pub kept_enter : (size : ℕ) (candidates : List ℕ) (before after : List Step) (step : Step) (inside free inside-new free-new : List Bool)
    → after ≡ before ++ step ∷ [] → IsKept (trail_of size candidates before) inside free
    → Contains (trail_end (trail_of size candidates before)).free step.node
    → length free-new ≡ length free → marked free-new ≡ without step.node (marked free)
    → length inside-new ≡ length inside → marked inside-new ≡ cond step.opened (with_node step.node (marked inside)) (marked inside)
    → IsKept (trail_of size candidates after) inside-new free-new
kept_enter size candidates before after step inside free inside-new free-new longer kept is_free free_size free_marks inside_size inside_marks =
    let b = branch_at candidates (reverse before) in
    let steps : reverse after ≡ step ∷ reverse before = ap (λ (ss : List Step). reverse ss) longer ∙ reverse-append before (step ∷ []) in
    subst (λ (ss : List Step). IsKept (record { size = size; candidates = candidates; steps = ss }) inside-new free-new) (sym steps) (record {
      inside_size = inside_size ∙ kept.inside_size;
      free_size = free_size ∙ kept.free_size;
      ascend = kept.ascend;
      nodes = kept.nodes;
      are_steps = (is_free, kept.are_steps);
      inside_marks = inside_marks ∙ ap (λ (ks : List ℕ). cond step.opened (with_node step.node ks) ks) kept.inside_marks
          ∙ sym (child-inside b step.node step.opened);
      free_marks = free_marks ∙ ap (λ (ks : List ℕ). without step.node ks) kept.free_marks ∙ sym (child-free b step.node step.opened);
    })

-- what is known of a way with a last step
pub record HasLast (candidates : List ℕ) (before : List Step) (step : Step) (size : ℕ) (inside free : List Bool) : Type 0 where
  pub kept : IsKept (record { size = size; candidates = candidates; steps = step ∷ reverse before }) inside free
  pub split : IsSplit (branch_at candidates (reverse before))
  pub is_free : Contains (branch_at candidates (reverse before)).free step.node
  pub is_node : step.node < size
  pub free_marks : marked free ≡ without step.node (branch_at candidates (reverse before)).free
  pub inside_marks : marked inside ≡ cond step.opened (with_node step.node (branch_at candidates (reverse before)).inside) (branch_at candidates (reverse before)).inside

pub has_last : (size : ℕ) (candidates : List ℕ) (before after : List Step) (step : Step) (inside free : List Bool)
    → after ≡ before ++ step ∷ [] → IsKept (trail_of size candidates after) inside free → HasLast candidates before step size inside free
has_last size candidates before after step inside free longer kept =
    let b = branch_at candidates (reverse before) in
    let steps : reverse after ≡ step ∷ reverse before = ap (λ (ss : List Step). reverse ss) longer ∙ reverse-append before (step ∷ []) in
    let known = subst (λ (ss : List Step). IsKept (record { size = size; candidates = candidates; steps = ss }) inside free) steps kept in
    record {
      kept = known;
      split = branch_split candidates (reverse before) known.ascend known.are_steps.1;
      is_free = known.are_steps.0;
      is_node = All-contains (λ (k : ℕ). k < size) candidates step.node known.nodes
          (free_are_candidates candidates (reverse before) step.node known.are_steps.0);
      free_marks = known.free_marks ∙ child-free b step.node step.opened;
      inside_marks = known.inside_marks ∙ child-inside b step.node step.opened;
    }

pub kept_leave : (size : ℕ) (candidates : List ℕ) (before : List Step) (step : Step) (inside free inside-new free-new : List Bool)
    → HasLast candidates before step size inside free
    → length free-new ≡ length free → marked free-new ≡ with_node step.node (marked free)
    → length inside-new ≡ length inside → marked inside-new ≡ cond step.opened (without step.node (marked inside)) (marked inside)
    → IsKept (trail_of size candidates before) inside-new free-new
kept_leave size candidates before step inside free inside-new free-new last free_size free_marks inside_size inside_marks =
    let b = branch_at candidates (reverse before) in
    record {
      inside_size = inside_size ∙ last.kept.inside_size;
      free_size = free_size ∙ last.kept.free_size;
      ascend = last.kept.ascend;
      nodes = last.kept.nodes;
      are_steps = last.kept.are_steps.1;
      inside_marks = inside_marks ∙ ap (λ (ks : List ℕ). cond step.opened (without step.node ks) ks) last.inside_marks
          ∙ in_again step.node step.opened b.inside (last.split.inside_apart step.node last.is_free);
      free_marks = free_marks ∙ ap (λ (ks : List ℕ). with_node step.node ks) last.free_marks
          ∙ with_node-without step.node b.free last.split.free_ascends last.is_free;
    }
  where
    in_again : (k : ℕ) (opened : Bool) (ks : List ℕ) → (Contains ks k → ⊥)
        → cond opened (without k (cond opened (with_node k ks) ks)) (cond opened (with_node k ks) ks) ≡ ks
    in_again k true ks new = without-with_node k ks new
    in_again k false ks new = refl

-- there is room for a step on a free node
pub room_for_step : (size : ℕ) (candidates : List ℕ) (before : List Step) (k : ℕ) (inside free : List Bool)
    → IsKept (trail_of size candidates before) inside free → Contains (trail_end (trail_of size candidates before)).free k
    → length before < length candidates
room_for_step size candidates before k inside free kept is_free =
    let steps = reverse before in
    omega (arith, free_count candidates steps kept.are_steps, length-without k (branch_at candidates steps).free is_free, length-reverse before)

pub step_is_node : (size : ℕ) (candidates : List ℕ) (before : List Step) (k : ℕ) (inside free : List Bool)
    → IsKept (trail_of size candidates before) inside free → Contains (trail_end (trail_of size candidates before)).free k
    → k < size
step_is_node size candidates before k inside free kept is_free =
    All-contains (λ (k : ℕ). k < size) candidates k kept.nodes (free_are_candidates candidates (reverse before) k is_free)

pub none_inside_twice : (size : ℕ) (candidates : List ℕ) (before : List Step) (k : ℕ) (inside free : List Bool)
    → IsKept (trail_of size candidates before) inside free → Contains (trail_end (trail_of size candidates before)).free k
    → Contains (marked inside) k → ⊥
none_inside_twice size candidates before k inside free kept is_free there =
    (branch_split candidates (reverse before) kept.ascend kept.are_steps).inside_apart k is_free
    (subst (λ (ks : List ℕ). Contains ks k) kept.inside_marks there)

-- the node of the last step is not free, and a hub if the step goes into the open child
pub not_free_now : (candidates : List ℕ) (before : List Step) (step : Step) (size : ℕ) (inside free : List Bool)
    → HasLast candidates before step size inside free → Contains (marked free) step.node → ⊥
not_free_now candidates before step size inside free last there =
    without_lacks step.node (branch_at candidates (reverse before)).free last.split.free_ascends
    (subst (λ (ks : List ℕ). Contains ks step.node) last.free_marks there)

pub is_inside_now : (candidates : List ℕ) (before : List Step) (step : Step) (size : ℕ) (inside free : List Bool)
    → HasLast candidates before step size inside free → step.opened ≡ true → Contains (marked inside) step.node
is_inside_now candidates before step size inside free last opened =
    let ks = (branch_at candidates (reverse before)).inside in
    let here : marked inside ≡ with_node step.node ks = last.inside_marks ∙ ap (λ (b : Bool). cond b (with_node step.node ks) ks) opened in
    subst (λ (ms : List ℕ). Contains ms step.node) (sym here) (with_node_has step.node ks)

-- ---- the branches of a problem

undecided_branch : (p : Problem) → IsStrictlyIncreasing p.candidates → IsBranch p (undecided p.candidates)
undecided_branch p up = record {
  split = undecided_split p.candidates up;
  all = λ k c. inr (inr c);
  inside_are = All-nil (Contains p.candidates);
  outside_are = All-nil (Contains p.candidates);
  free_are = All-contains_itself p.candidates;
}

child_branch : (p : Problem) (b : Branching) (node : ℕ) (opened : Bool) → IsBranch p b → Contains b.free node
    → IsBranch p (child b (record { node = node; opened = opened }))
child_branch p b node true ok free = open_branch p b node ok free
child_branch p b node false ok free = closed_branch p b node ok free

way_branch : (p : Problem) (steps : List Step) → IsStrictlyIncreasing p.candidates → AreSteps p.candidates steps
    → IsBranch p (branch_at p.candidates steps)
way_branch p [] up are = undecided_branch p up
way_branch p (step ∷ before) up are =
    child_branch p (branch_at p.candidates before) step.node step.opened (way_branch p before up are.1) are.0

pub reached_branch : (p : Problem) (b : Branching) → IsReached p.candidates b → IsBranch p b
reached_branch p b reached = subst (IsBranch p) (sym reached.is) (way_branch p reached.steps reached.ascend reached.are_steps)

-- ---- how many nodes

-- the steps leave so many free
pub free_left : (size : ℕ) (candidates : List ℕ) (steps : List Step) (inside free : List Bool) → IsKept (trail_of size candidates steps) inside free
    → length steps + length (trail_end (trail_of size candidates steps)).free ≡ length candidates
free_left size candidates steps inside free kept =
    omega (arith, free_count candidates (reverse steps) kept.are_steps, length-reverse steps)

pub one_more : (k : ℕ) (before after : List Bool) → marked after ≡ with_node k (marked before)
    → length (marked after) ≡ length (marked before) + 1
one_more k before after nodes = ap (λ (ks : List ℕ). length ks) nodes ∙ length-with_node k (marked before)

-- ---- each candidate is a hub, closed or free

-- what the step leaves of it
decided_below : (b : Branching) (node : ℕ) (opened : Bool) (k : ℕ) → Contains b.inside k ⊎ Contains b.outside k ⊎ Contains b.free k
    → Contains (child b (record { node = node; opened = opened })).inside k
    ⊎ Contains (child b (record { node = node; opened = opened })).outside k
    ⊎ Contains (child b (record { node = node; opened = opened })).free k
decided_below b node true k where_is =
    ⊎_elim (λ inside. inl (with_node_keeps node b.inside k inside))
    (⊎_elim (λ outside. inr (inl outside))
    (λ left. ⊎_elim (λ same. inl (subst (Contains (with_node node b.inside)) same (with_node_has node b.inside)))
    (λ apart. inr (inr (without_keeps node b.free k left apart))) (cases_eq node k))) where_is
decided_below b node false k where_is =
    ⊎_elim (λ inside. inl inside)
    (⊎_elim (λ outside. inr (inl (with_node_keeps node b.outside k outside)))
    (λ left. ⊎_elim (λ same. inr (inl (subst (Contains (with_node node b.outside)) same (with_node_has node b.outside))))
    (λ apart. inr (inr (without_keeps node b.free k left apart))) (cases_eq node k))) where_is

decided : (candidates : List ℕ) (steps : List Step) (k : ℕ) → Contains candidates k
    → Contains (branch_at candidates steps).inside k ⊎ Contains (branch_at candidates steps).outside k
    ⊎ Contains (branch_at candidates steps).free k
decided candidates [] k c = inr (inr c)
decided candidates (step ∷ before) k c =
    decided_below (branch_at candidates before) step.node step.opened k (decided candidates before k c)

-- a candidate without marks is closed, and one that is closed has none
shut_by_marks : (trail : Trail) (inside free : List Bool) (k : ℕ) → IsKept trail inside free → Contains trail.candidates k
    → (Contains (marked inside) k → ⊥) → (Contains (marked free) k → ⊥) → Contains (trail_end trail).outside k
shut_by_marks trail inside free k kept here no_hub not_free =
    ⊎_elim (λ i. absurd (no_hub (subst (λ (ks : List ℕ). Contains ks k) (sym kept.inside_marks) i)))
    (⊎_elim (λ o. o) (λ f. absurd (not_free (subst (λ (ks : List ℕ). Contains ks k) (sym kept.free_marks) f))))
    (decided trail.candidates trail.steps k here)

shut_is_no_hub : (trail : Trail) (inside free : List Bool) (k : ℕ) → IsKept trail inside free → Contains (trail_end trail).outside k
    → Contains (marked inside) k → ⊥
shut_is_no_hub trail inside free k kept out there =
    (branch_split trail.candidates trail.steps kept.ascend kept.are_steps).not_both k
    (subst (λ (ks : List ℕ). Contains ks k) kept.inside_marks there) out

shut_is_not_free : (trail : Trail) (inside free : List Bool) (k : ℕ) → IsKept trail inside free → Contains (trail_end trail).outside k
    → Contains (marked free) k → ⊥
shut_is_not_free trail inside free k kept out there =
    (branch_split trail.candidates trail.steps kept.ascend kept.are_steps).outside_apart k
    (subst (λ (ks : List ℕ). Contains ks k) kept.free_marks there) out

-- by tests of its marks
pub shut_without : (trail : Trail) (inside free : List Bool) (k : ℕ) (is_hub is_free : Bool) → IsKept trail inside free → Contains trail.candidates k
    → (IsTrue is_hub ↔ Contains (marked inside) k) → (IsTrue is_free ↔ Contains (marked free) k) → is_hub ≡ false
    → IsTrue (not is_free) ↔ Contains (trail_end trail).outside k
shut_without trail inside free k is_hub true kept here hub_says free_says none = (
  λ h. (let e : false ≡ true = h in cc),
  λ out. absurd (shut_is_not_free trail inside free k kept out (free_says.0 refl)),
)
shut_without trail inside free k is_hub false kept here hub_says free_says none = (
  λ h. shut_by_marks trail inside free k kept here (λ c. (let e : false ≡ true = sym none ∙ hub_says.1 c in cc))
      (λ c. (let e : false ≡ true = free_says.1 c in cc)),
  λ out. refl,
)

pub hub_not_shut : (trail : Trail) (inside free : List Bool) (k : ℕ) (is_hub : Bool) → IsKept trail inside free
    → (IsTrue is_hub ↔ Contains (marked inside) k) → is_hub ≡ true → IsTrue (not is_hub) ↔ Contains (trail_end trail).outside k
hub_not_shut trail inside free k is_hub kept says holds = (
  λ h. (let e : false ≡ true = sym (ap not holds) ∙ h in cc),
  λ out. absurd (shut_is_no_hub trail inside free k kept out (says.0 holds)),
)
