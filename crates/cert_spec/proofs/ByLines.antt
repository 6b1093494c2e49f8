-- The conditions of a whole certificate, by its lines.
use Rattle.std.proofs.Common.{◌≡◌, ◌↔◌, ℕ, ◌+◌, ◌-◌, ◌*◌, ◌≤◌, sum_by, Bool, true, false, nat_eq, eq-eqb, List, [], ◌∷◌, ◌++◌, length, map, All, Contains, Option, Some, None, inl, inr, refl, sym, subst, ap, ap₂, ◌∙◌, append_assoc, append-nil, mul-pos, ⊎_elim, arith}
use Rattle.std.specs.List.{AllZip}
use Rattle.std.proofs.lemmas.Bool.{cases_eq}
use Rattle.std.proofs.lemmas.List.Elements.{All-head, All-tail, All-weaker}
use Rattle.hub_spec.specs.Problem.{Problem, commodities, commodity_at}
use Rattle.hub_spec.specs.Plans.{plan_cost, HasWanted}
use Rattle.hub_spec.specs.Cuts.{Prices, Cut, IsWithinSums}
use Rattle.hub_spec.specs.Trees.{Branching, root, open_child, closed_child, Tree, branch, leaf, empty, block, count, preorder, line_count}
use Rattle.hub_spec.specs.Certificates.{HasCutsOf}
use Rattle.hub_spec.specs.Ranges.{IsFirstCut, IsFirst, IsCutInRange}
use Rattle.hub_spec.proofs.Commodities.{length_commodities}
use Rattle.core_spec.specs.CoreCuts.{CoreProof, Mark, IsCoreDual}
use Rattle.cert_spec.specs.Stated.{Stated, IsLater, cuts_of, IsStatedInRange}
use Rattle.cert_spec.specs.Lines.{Item, part_of, says_cuts, says_nodes, says_tree, says_end}
use Rattle.cert_spec.proofs.PartConditions.{size_line, hubs_line, first_route_line, last_route_line, cut_lines, first_cut_line, last_dual_line, first_tree_line, route_claims, dual_claims, proved_claims, one_cut_claims, cut_claims, tree_claims, size_claim, size_claims, all_cut_claims, all_tree_claims, claims, older_claims}
use Rattle.cert_spec.specs.Text.{part_said, dual_runs, cuts_items, certificate_items}
use Rattle.cert_spec.specs.Conditions.{conditions, Claim, claim, Kind, Size, Hubs, Number, Cost, Dual, Sum, Core, AllHold, FailsFirst, if_time, IsDualOfRun, conditions_from, is_of_cuts, asked, older_conditions, ComesToTheSame}
use Rattle.cert_spec.specs.Progress.{Progress, at_start, after_lines}
use Rattle.cert_spec.proofs.Claims.{IsMarkWithin, has_cuts_by_claims}
use Rattle.cert_spec.proofs.Versions.{first_is_no_later, version_said}
use Rattle.cert_spec.proofs.ByParts.{IsSaidCut, conditions-append, routes_by_lines, cuts_by_lines, tree_by_lines}

same-refl : (xs : List Claim) → ComesToTheSame xs xs
same-refl xs = record { hold = (λ h. h, λ h. h); fail = λ kind line. (λ h. h, λ h. h) }

same-path : (xs ys : List Claim) → xs ≡ ys → ComesToTheSame xs ys
same-path xs ys e = subst (λ zs. ComesToTheSame xs zs) e (same-refl xs)

pub lines-append : (p : Problem) (s : Progress) (first rest : List Item)
    → ComesToTheSame (conditions_from p s (first ++ rest)) (conditions_from p s first ++ conditions_from p (after_lines p s first) rest)
lines-append p s first rest =
    same-path (conditions_from p s (first ++ rest)) (conditions_from p s first ++ conditions_from p (after_lines p s first) rest)
    (conditions-append p s first rest)

none-fails : (c : Claim) (cs : List Claim) (kind : Kind) (line : ℕ) → (¬ c.holds) → FailsFirst (c ∷ cs) kind line → (c.kind ≡ kind) × (c.line ≡ line)
none-fails c cs kind line fails_it (inl h) = (h.1, h.2)
none-fails c cs kind line fails_it (inr h) = absurd (fails_it h.0)

-- two lists with one first condition, which does not hold
same-head : (c : Claim) (xs ys : List Claim) → (¬ c.holds) → ComesToTheSame (c ∷ xs) (c ∷ ys)
same-head c xs ys failed = record {
  hold = (λ h. absurd (failed h.0), λ h. absurd (failed h.0));
  fail = λ kind line. (
    λ h. let is = none-fails c xs kind line failed h in inl (failed, is.0, is.1),
    λ h. let is = none-fails c ys kind line failed h in inl (failed, is.0, is.1),
  );
}

-- the certificate with this number of nodes
abbrev sized : Stated → ℕ → Stated
sized k n = record k { proof = record k.proof { size = n } }

-- ---- the cuts are said in the certificate's version

-- the part as this version says it is the cut's
abbrev pub IsPartSaid : ℕ → Cut → Type 0
IsPartSaid v cut = part_of (part_said v cut.part) ≡ cut.part

first_said : (v : ℕ) (cut : Cut) → v ≡ 1 → IsFirstCut cut → IsPartSaid v cut
first_said v cut first is = rw (eq-eqb v 1 first) (sym is.whole)

later_said : (v : ℕ) (cut : Cut) → IsLater v → IsPartSaid v cut
later_said v cut later = rw (first_is_no_later v later) refl

-- what is said of one cut in range
one_said : (n v : ℕ) (cut : Cut) (mark : Option Mark) → IsCutInRange n cut → IsMarkWithin n mark → IsPartSaid v cut → IsSaidCut n v cut mark
one_said n v cut None range marked part = record { long = range.one_for_each; is_said = part }
one_said n v cut (Some mark) range marked part = record {
  long = range.one_for_each;
  is_said = marked.one_for_each ∙ sym range.one_for_each;
}

all_said : (n v : ℕ) (cuts : List Cut) (marks : List (Option Mark)) → length marks ≡ length cuts → All (IsCutInRange n) cuts
    → All (IsMarkWithin n) marks → All (IsPartSaid v) cuts → AllZip (IsSaidCut n v) cuts marks
all_said n v [] [] long ranges within parts = tt
all_said n v [] (mark ∷ marks) long ranges within parts = absurd (omega (arith, long))
all_said n v (cut ∷ cuts) [] long ranges within parts = absurd (omega (arith, long))
all_said n v (cut ∷ cuts) (mark ∷ marks) long ranges within parts = (
  one_said n v cut mark (All-head (IsCutInRange n) cut cuts ranges) (All-head (IsMarkWithin n) mark marks within)
      (All-head (IsPartSaid v) cut cuts parts),
  all_said n v cuts marks (omega (arith, long)) (All-tail (IsCutInRange n) cut cuts ranges) (All-tail (IsMarkWithin n) mark marks within)
      (All-tail (IsPartSaid v) cut cuts parts),
)

pub parts_said : (k : Stated) → IsStatedInRange k → All (IsPartSaid k.proof.version) k.proof.cuts
parts_said k r =
    let v = k.proof.version in
    let cuts = k.proof.cuts in
    ⊎_elim
    (λ (first : (v ≡ 1) × IsFirst k.proof). All-weaker IsFirstCut (IsPartSaid v) (λ cut is. first_said v cut first.0 is) cuts first.1.cuts)
    (λ (later : IsLater v). All-weaker (IsCutInRange k.proof.size) (IsPartSaid v) (λ cut range. later_said v cut later) cuts r.proof.cuts)
    (version_said k.proof r.proof.version)

cuts_said : (k : Stated) → IsStatedInRange k → AllZip (IsSaidCut k.proof.size k.proof.version) k.proof.cuts k.marks
cuts_said k r = all_said k.proof.size k.proof.version k.proof.cuts k.marks r.one_for_each r.proof.cuts r.marks (parts_said k r)

-- where the number of nodes is the instance's, the lines try just the conditions of the check
by_lines : (p : Problem) (s : Stated) → IsStatedInRange (sized s p.size)
    → conditions_from p at_start (certificate_items (sized s p.size)) ≡ claims p (sized s p.size)
by_lines p s r =
    let k = s.proof in
    let n = p.size in
    let routes = k.plan.routes in
    let long : length routes ≡ n * n = r.proof.one_route_each in
    let pos : 1 ≤ n * n = mul-pos r.proof.some_node r.proof.some_node in
    let cost : ℕ → Claim = λ line. claim Cost line (k.cost ≡ plan_cost p (record { hubs = k.plan.hubs; routes = routes })) in
    let tree_lines = map says_tree (preorder k.tree) ++ says_end ∷ [] in
    let v = k.version in
    let marked = cuts_of s in
    let cut_lines_on = cuts_items v n 1 marked ++ says_nodes (line_count k.tree) ∷ tree_lines in
    let planned = record at_start { line = 6; size = n; cost = k.cost; bound = k.bound; hubs = k.plan.hubs } in
    let at_cuts = record planned { line = 6 + length routes + 1; routes = routes } in
    let at_tree : ℕ → Progress = λ line. record at_cuts { line = line; cuts = k.cuts; pending = root p ∷ [] } in
    let hubs = claim Hubs hubs_line (All (Contains p.candidates) k.plan.hubs) in
    let number = claim Number hubs_line (HasWanted p k.plan.hubs) in
    let head : List Claim → List Claim = λ cs. size_claims p (record k { size = n }) ++ (hubs ∷ (number ∷ cs)) in
    let going = route_claims p k.plan.hubs first_route_line (commodities n) routes in
    let tried = cut_claims p true v (first_cut_line n) marked in
    let whole = tree_claims p k.cuts k.bound (first_tree_line v n marked) (root p) k.tree in
    let lines : ℕ = sum_by (cut_lines v n) marked in
    let line_of_tree : ℕ = 6 + length routes + 1 + lines + 1 in
    ap head (
    routes_by_lines p planned (commodities n) routes (says_cuts (length k.cuts) ∷ cut_lines_on) (long ∙ sym (length_commodities n))
    (omega (arith, long, pos)) (omega (arith, long))
    ∙ ap (λ line. going ++ (cost line ∷ conditions_from p at_cuts cut_lines_on)) (let e : 6 + length routes - 1 ≡ 5 + n * n = omega (arith, long) in e)
    ∙ ap (λ cs. going ++ (cost (last_route_line n) ∷ cs)) (
    cuts_by_lines p at_cuts v 1 k.cuts s.marks (says_nodes (line_count k.tree) ∷ tree_lines) refl refl refl refl r.proof.some_node (cuts_said (sized s n) r)
    ∙ ap₂ (λ first line. cut_claims p true v first marked ++ conditions_from p (at_tree line) tree_lines)
    (let e : 6 + length routes + 1 ≡ 7 + n * n = omega (arith, long) in e)
    (let e : line_of_tree ≡ 8 + n * n + lines = omega (arith, long) in e)
    ∙ ap (λ cs. tried ++ cs) (
    tree_by_lines p (at_tree (first_tree_line v n marked)) (root p) [] k.tree (says_end ∷ [])
    ∙ append-nil whole))
    ∙ sym (append_assoc going (cost (last_route_line n) ∷ []) (tried ++ whole)))

-- where it is not, the first condition of both fails
pub conditions_of_lines : (p : Problem) (k : Stated) → IsStatedInRange k
    → ComesToTheSame (claims p k) (conditions p k)
conditions_of_lines p k r =
    ⊎_elim
    (λ (same : k.proof.size ≡ p.size).
    let P : ℕ → Type 0 = λ n. IsStatedInRange (sized k n) → ComesToTheSame (claims p (sized k n)) (conditions p (sized k n)) in
    subst P (sym same) (λ s. same-path (claims p (sized k p.size)) (conditions p (sized k p.size)) (sym (by_lines p k s))) r)
    (λ other. same-head (claim Size size_line ((k.proof.size ≡ p.size) × (k.proof.candidates ≡ length p.candidates))) _ _ (λ h. other h.0))
    (cases_eq k.proof.size p.size)

-- ---- of an older certificate

asked-append : (xs ys : List Claim) → asked is_of_cuts (xs ++ ys) ≡ asked is_of_cuts xs ++ asked is_of_cuts ys
asked-append [] ys = refl
asked-append (c ∷ xs) ys =
    ap (λ cs. if_time (is_of_cuts c.kind) c ++ cs) (asked-append xs ys)
    ∙ sym (append_assoc (if_time (is_of_cuts c.kind) c) (asked is_of_cuts xs) (asked is_of_cuts ys))

no_routes : (p : Problem) (hubs : List ℕ) (line : ℕ) (cs rs : List (ℕ × ℕ)) → asked is_of_cuts (route_claims p hubs line cs rs) ≡ []
no_routes p hubs line [] rs = refl
no_routes p hubs line (c ∷ cs) [] = refl
no_routes p hubs line (c ∷ cs) (r ∷ rs) = no_routes p hubs (line + 1) cs rs

all_duals : (p : Problem) (part line t : ℕ) (rs : List (ℕ × Prices)) → asked is_of_cuts (dual_claims p part line t rs) ≡ dual_claims p part line t rs
all_duals p part line t [] = refl
all_duals p part line t (r ∷ rest) = ap (λ cs. claim Dual line (IsDualOfRun p part t r) ∷ cs) (all_duals p part (line + 1) (t + r.0) rest)

sum_asked : (b : Bool) (line : ℕ) (holds : Type 0) → asked is_of_cuts (if_time b (claim Sum line holds)) ≡ if_time b (claim Sum line holds)
sum_asked true line holds = refl
sum_asked false line holds = refl

proved_asked : (p : Problem) (cut : Cut) (hubs : List ℕ) (line t : ℕ) (duals : List Prices) (proofs : List CoreProof)
    → asked is_of_cuts (proved_claims p true cut hubs line t duals proofs) ≡ proved_claims p false cut hubs line t duals proofs
proved_asked p cut hubs line t [] proofs = refl
proved_asked p cut hubs line t (dual ∷ duals) [] = refl
proved_asked p cut hubs line t (dual ∷ duals) (proof ∷ proofs) =
    let last = nat_eq (t + 1) (p.size * p.size) in
    let sum = if_time last (claim Sum line (IsWithinSums p cut)) in
    let core = claim Core (line + 1) (IsCoreDual p hubs cut.part (commodity_at p.size t) dual proof) in
    ap (λ cs. claim Dual line (IsDualOfRun p cut.part t (1, dual)) ∷ cs)
    (asked-append sum (core ∷ proved_claims p true cut hubs (line + 2) (t + 1) duals proofs)
    ∙ ap₂ (λ (xs ys : List Claim). xs ++ ys) (sum_asked last line (IsWithinSums p cut)) (proved_asked p cut hubs (line + 2) (t + 1) duals proofs))

cut_asked : (p : Problem) (v line : ℕ) (cut : Cut) (mark : Option Mark)
    → asked is_of_cuts (one_cut_claims p true v line (cut, mark)) ≡ one_cut_claims p false v line (cut, mark)
cut_asked p v line cut None =
    let duals = dual_claims p cut.part (line + 1) 0 (dual_runs v p.size cut.duals) in
    let sum = claim Sum (last_dual_line v p.size cut line) (IsWithinSums p cut) in
    asked-append duals (sum ∷ []) ∙ ap (λ cs. cs ++ sum ∷ []) (all_duals p cut.part (line + 1) 0 (dual_runs v p.size cut.duals))
cut_asked p v line cut (Some mark) = proved_asked p cut mark.hubs (line + 1) 0 cut.duals mark.proofs

cuts_asked : (p : Problem) (v line : ℕ) (cuts : List (Cut × Option Mark))
    → asked is_of_cuts (cut_claims p true v line cuts) ≡ cut_claims p false v line cuts
cuts_asked p v line [] = refl
cuts_asked p v line ((cut, mark) ∷ cuts) =
    let next = line + cut_lines v p.size (cut, mark) in
    asked-append (one_cut_claims p true v line (cut, mark)) (cut_claims p true v next cuts)
    ∙ ap₂ (λ (xs ys : List Claim). xs ++ ys) (cut_asked p v line cut mark) (cuts_asked p v next cuts)

no_tree : (p : Problem) (cuts : List Cut) (target line : ℕ) (b : Branching) (t : Tree) → asked is_of_cuts (tree_claims p cuts target line b t) ≡ []
no_tree p cuts target line b (branch k opened closed) =
    asked-append (tree_claims p cuts target (line + 1) (open_child b k) opened)
    (tree_claims p cuts target (line + 1 + line_count opened) (closed_child b k) closed)
    ∙ ap₂ (λ (xs ys : List Claim). xs ++ ys) (no_tree p cuts target (line + 1) (open_child b k) opened)
    (no_tree p cuts target (line + 1 + line_count opened) (closed_child b k) closed)
no_tree p cuts target line b (leaf denom weights) = refl
no_tree p cuts target line b empty = refl
no_tree p cuts target line b (block commodity) = refl
no_tree p cuts target line b count = refl

claims_asked : (p : Problem) (k : Stated) → asked is_of_cuts (claims p k) ≡ older_claims p k
claims_asked p k =
    let m = k.proof in
    let routes = route_claims p m.plan.hubs first_route_line (commodities m.size) m.plan.routes in
    let cost = claim Cost (last_route_line m.size) (m.cost ≡ plan_cost p m.plan) in
    let cuts = all_cut_claims p true k in
    let tree = all_tree_claims p k in
    ap (λ cs. size_claim p m ∷ cs)
    (asked-append (routes ++ cost ∷ []) (cuts ++ tree)
    ∙ ap₂ (λ (xs ys : List Claim). xs ++ ys)
    (asked-append routes (cost ∷ []) ∙ ap (λ (xs : List Claim). xs ++ []) (no_routes p m.plan.hubs first_route_line (commodities m.size) m.plan.routes))
    (asked-append cuts tree
    ∙ ap₂ (λ (xs ys : List Claim). xs ++ ys) (cuts_asked p m.version (first_cut_line m.size) (cuts_of k))
    (no_tree p m.cuts m.bound (first_tree_line m.version m.size (cuts_of k)) (root p) m.tree)
    ∙ append-nil (all_cut_claims p false k)))

pub older_by_lines : (p : Problem) (k : Stated) → IsStatedInRange k → ComesToTheSame (older_claims p k) (older_conditions p k)
older_by_lines p k r =
    ⊎_elim
    (λ (same : k.proof.size ≡ p.size).
    let P : ℕ → Type 0 = λ n. IsStatedInRange (sized k n) → ComesToTheSame (older_claims p (sized k n)) (older_conditions p (sized k n)) in
    subst P (sym same)
    (λ s. same-path (older_claims p (sized k p.size)) (older_conditions p (sized k p.size))
    (sym (ap (asked is_of_cuts) (by_lines p k s) ∙ claims_asked p (sized k p.size)))) r)
    (λ other. same-head (claim Size size_line ((k.proof.size ≡ p.size) × (k.proof.candidates ≡ length p.candidates))) _ _ (λ h. other h.0))
    (cases_eq k.proof.size p.size)

-- a certificate has cuts of the problem exactly where the conditions on an older certificate hold
pub has_cuts_by_lines : (p : Problem) (k : Stated) → IsStatedInRange k → AllHold (older_conditions p k) ↔ HasCutsOf p k.proof
has_cuts_by_lines p k r =
    let same = (older_by_lines p k r).hold in
    let parts = has_cuts_by_claims p k r in
    (λ h. parts.0 (same.1 h), λ h. same.0 (parts.1 h))
