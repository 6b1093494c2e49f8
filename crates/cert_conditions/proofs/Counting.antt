-- How many lines there are at a stage, and the number of the next.
use Rattle.std.proofs.Common.{◌≡◌, ℕ, ◌+◌, ◌-◌, ◌*◌, ◌^◌, ◌<◌, ◌≤◌, Bool, true, false, ◌&&◌, is_none, cond, List, [], ◌∷◌, ◌++◌, length, replicate, Option, refl, sym, subst, mul-pos, arith, ⊎_elim}
use Rattle.std.proofs.lemmas.Bool.{cases_eq}
use Rattle.std.proofs.Math.Nat.{mul-le-mul}
use Rattle.hub_spec.specs.Limits.{most_cuts, most_tree_lines}
use Rattle.hub_spec.specs.Problem.{Problem}
use Rattle.hub_spec.specs.Cuts.{Prices}
use Rattle.cert_spec.specs.Lines.{Item as Line, says_version, says_size, says_cost, says_bound, says_hubs, says_route, says_cuts, says_cut, says_marked, says_dual, says_proof, says_nodes, says_tree, says_end}
use Rattle.cert_spec.specs.Grammar.{Shape, Stage, want_version, want_size, want_end, want_nothing, want_cost, want_bound, want_hubs, want_cuts, want_nodes, want_route, want_cut, want_dual, want_proved, want_proof, want_tree, Wants, places_after, after_route, after_cut, kept_dual, after_dual, after_proof, after_tree, after, Leads}
use Rattle.cert_spec.proofs.Leads.{after_route-all, after_route-more, after_cut-all, after_cut-more, after_dual-all, after_dual-more, after_proof-all, after_proof-more, after_tree-all, after_tree-more}
use Rattle.cert_spec.proofs.Stages.{run_within}
use Rattle.cert_spec.specs.Progress.{Progress, is_whole, after_line, after_lines}

-- ---- a stage by its cases

pub route_cases : (P : Stage → Type 0) (s : Shape) (t : ℕ) → (t ≡ s.size * s.size → P (want_cuts s)) → ((t ≡ s.size * s.size → ⊥) → P (want_route s t))
    → P (after_route s t)
route_cases P s t all more =
    ⊎_elim (λ e. subst P (sym (after_route-all s t e)) (all e)) (λ n. subst P (sym (after_route-more s t n)) (more n)) (cases_eq t (s.size * s.size))

pub cut_cases : (P : Stage → Type 0) (s : Shape) (all x : ℕ) → (x ≡ all → P (want_nodes s)) → ((x ≡ all → ⊥) → P (want_cut s all x)) → P (after_cut s all x)
cut_cases P s all x whole more =
    ⊎_elim (λ e. subst P (sym (after_cut-all s all x e)) (whole e)) (λ n. subst P (sym (after_cut-more s all x n)) (more n)) (cases_eq x all)

pub dual_cases : (P : Stage → Type 0) (s : Shape) (all x t : ℕ) (before : Option Prices) → (t ≡ s.size * s.size → P (after_cut s all (x + 1)))
    → ((t ≡ s.size * s.size → ⊥) → P (want_dual s all x t before)) → P (after_dual s all x t before)
dual_cases P s all x t before whole more =
    ⊎_elim (λ e. subst P (sym (after_dual-all s all x t before e)) (whole e))
    (λ n. subst P (sym (after_dual-more s all x t before n)) (more n)) (cases_eq t (s.size * s.size))

pub proof_cases : (P : Stage → Type 0) (s : Shape) (all x t : ℕ) → (t ≡ s.size * s.size → P (after_cut s all (x + 1)))
    → ((t ≡ s.size * s.size → ⊥) → P (want_proved s all x t)) → P (after_proof s all x t)
proof_cases P s all x t whole more =
    ⊎_elim (λ e. subst P (sym (after_proof-all s all x t e)) (whole e)) (λ n. subst P (sym (after_proof-more s all x t n)) (more n))
    (cases_eq t (s.size * s.size))

pub tree_cases : (P : Stage → Type 0) (s : Shape) (places left : ℕ) → P want_end → (0 < left → P (want_tree s places left)) → P (after_tree s places left)
tree_cases P s places left all more =
    ⊎_elim (λ e. subst P (sym (after_tree-all s places left e)) all) (λ n. let some : 0 < left = omega arith in subst P (sym (after_tree-more s places left some)) (more some)) (cases_eq left 0)

-- ---- how many lines

-- of a text up to its cuts
abbrev most_first : ℕ
most_first = 5 + 40000

-- of a cut, which has two for each dual where it is marked
abbrev most_cut_lines : ℕ
most_cut_lines = 1 + 2 * 40000

-- there are no more lines than this stage allows
abbrev pub IsAt : Stage → ℕ → Type 0
IsAt want_version c = c ≡ 0
IsAt (want_size v) c = c ≤ 1
IsAt (want_cost s) c = (1 ≤ s.size) × (s.size * s.size ≤ 40000) × (c ≤ 2)
IsAt (want_bound s) c = (1 ≤ s.size) × (s.size * s.size ≤ 40000) × (c ≤ 3)
IsAt (want_hubs s) c = (1 ≤ s.size) × (s.size * s.size ≤ 40000) × (c ≤ 4)
IsAt (want_route s t) c = (1 ≤ s.size) × (s.size * s.size ≤ 40000) × (t < s.size * s.size) × (c ≤ 5 + t)
IsAt (want_cuts s) c = (1 ≤ s.size) × (s.size * s.size ≤ 40000) × (c ≤ most_first)
IsAt (want_cut s all x) c = (1 ≤ s.size) × (s.size * s.size ≤ 40000) × (x < all) × (all ≤ most_cuts) × (c ≤ most_first + 1 + x * most_cut_lines)
IsAt (want_dual s all x t before) c =
    (1 ≤ s.size) × (s.size * s.size ≤ 40000) × (x < all) × (all ≤ most_cuts) × (t < s.size * s.size) × (c ≤ most_first + 2 + x * most_cut_lines + t)
IsAt (want_proved s all x t) c =
    (1 ≤ s.size) × (s.size * s.size ≤ 40000) × (x < all) × (all ≤ most_cuts) × (t < s.size * s.size) × (c ≤ most_first + 2 + x * most_cut_lines + 2 * t)
IsAt (want_proof s all x t) c =
    (1 ≤ s.size) × (s.size * s.size ≤ 40000) × (x < all) × (all ≤ most_cuts) × (t < s.size * s.size) × (c ≤ most_first + 3 + x * most_cut_lines + 2 * t)
IsAt (want_nodes s) c = c ≤ most_first + 1 + most_cuts * most_cut_lines
IsAt (want_tree s places left) c = (1 ≤ left) × (c + left ≤ most_first + 2 + most_cuts * most_cut_lines + most_tree_lines)
IsAt want_end c = c ≤ most_first + 2 + most_cuts * most_cut_lines + most_tree_lines
IsAt want_nothing c = c ≤ most_first + 3 + most_cuts * most_cut_lines + most_tree_lines

at_cut : (s : Shape) (all x c : ℕ) → 1 ≤ s.size → s.size * s.size ≤ 40000 → x ≤ all → all ≤ most_cuts → c ≤ most_first + 1 + x * most_cut_lines
    → IsAt (after_cut s all x) c
at_cut s all x c some few within most count =
    cut_cases (λ g. IsAt g c) s all x (λ e. omega arith) (λ n. (some, few, omega arith, most, count))

at_after : (stage : Stage) (l : Line) (c : ℕ) → Wants stage l → IsAt stage c → IsAt (after stage l) (c + 1)
at_after want_version (says_version v) c h at = omega arith
at_after (want_size v) (says_size n q) c h at =
    let square : n * n ≤ 200 * 200 = mul-le-mul h.1 h.1 in (h.0, omega arith, omega arith)
at_after (want_cost s) (says_cost b) c h at = (at.0, at.1, omega arith)
at_after (want_bound s) (says_bound b) c h at = (at.0, at.1, omega arith)
at_after (want_hubs s) (says_hubs hubs) c h at = let some : 1 ≤ s.size * s.size = mul-pos at.0 at.0 in (at.0, at.1, omega arith, omega arith)
at_after (want_route s t) (says_route k r) c h at =
    route_cases (λ g. IsAt g (c + 1)) s (t + 1) (λ e. (at.0, at.1, omega arith)) (λ n. (at.0, at.1, omega arith, omega arith))
at_after (want_cuts s) (says_cuts all) c h at = at_cut s all 0 (c + 1) at.0 at.1 (omega arith) h (omega arith)
at_after (want_cut s all x) (says_cut number part) c h at = let some : 1 ≤ s.size * s.size = mul-pos at.0 at.0 in (at.0, at.1, at.2, at.3, omega arith, omega arith)
at_after (want_cut s all x) (says_marked number part hubs) c h at =
    let some : 1 ≤ s.size * s.size = mul-pos at.0 at.0 in (at.0, at.1, at.2, at.3, omega arith, omega arith)
at_after (want_proved s all x t) (says_dual k run dual) c h at = (at.0, at.1, at.2, at.3, at.4, omega arith)
at_after (want_proof s all x t) (says_proof proof) c h at =
    proof_cases (λ g. IsAt g (c + 1)) s all x (t + 1) (λ e. at_cut s all (x + 1) (c + 1) at.0 at.1 (omega arith) at.3 (omega arith))
    (λ n. (at.0, at.1, at.2, at.3, omega arith, omega arith))
at_after (want_dual s all x t before) (says_dual k run dual) c h at =
    let most = run_within s.size t run at.4 h.1.1 in
    dual_cases (λ g. IsAt g (c + 1)) s all x (t + run) (kept_dual s (t + run) dual)
    (λ e. at_cut s all (x + 1) (c + 1) at.0 at.1 (omega arith) at.3 (omega (arith, h.1.0)))
    (λ n. (at.0, at.1, at.2, at.3, omega arith, omega (arith, h.1.0)))
at_after (want_nodes s) (says_nodes all) c h at = (h.0, omega (arith, h.1))
at_after (want_tree s places left) (says_tree line) c h at =
    tree_cases (λ g. IsAt g (c + 1)) s (places_after places line) (left - 1) (omega arith) (λ some. (some, omega arith))
at_after want_end says_end c h at = omega arith
at_after stage l c h at = absurd h

at_leads : (first : Stage) (lines : List Line) (last : Stage) (c : ℕ) → IsAt first c → Leads first lines last → IsAt last (c + length lines)
at_leads first [] last c at h = subst (IsAt last) (let e : c ≡ c + 0 = omega arith in e) (subst (λ g. IsAt g c) h at)
at_leads first (l ∷ lines) last c at h =
    subst (IsAt last) (let e : c + 1 + length lines ≡ c + length (l ∷ lines) = omega arith in e)
    (at_leads (after first l) lines last (c + 1) (at_after first l c h.0 at) h.1)

pub at_stage : (lines : List Line) (stage : Stage) → Leads want_version lines stage → IsAt stage (length lines)
at_stage lines stage h = subst (IsAt stage) (let e : 0 + length lines ≡ length lines = omega arith in e) (at_leads want_version lines stage 0 refl h)

few_at : (stage : Stage) (c : ℕ) → IsAt stage c → c < 2 ^ 62
few_at want_version c at = omega arith
few_at (want_size v) c at = omega arith
few_at (want_cost s) c at = omega arith
few_at (want_bound s) c at = omega arith
few_at (want_hubs s) c at = omega arith
few_at (want_route s t) c at = omega arith
few_at (want_cuts s) c at = omega arith
few_at (want_cut s all x) c at = omega arith
few_at (want_dual s all x t before) c at = omega arith
few_at (want_proved s all x t) c at = omega arith
few_at (want_proof s all x t) c at = omega arith
few_at (want_nodes s) c at = omega arith
few_at (want_tree s places left) c at = omega arith
few_at want_end c at = omega arith
few_at want_nothing c at = omega arith

-- lines are fewer than numbers of 64 bits
pub few_lines : (lines : List Line) (stage : Stage) → Leads want_version lines stage → length lines < 2 ^ 62
few_lines lines stage h = few_at stage (length lines) (at_stage lines stage h)

-- ---- the number of the next line

line_both : (b : Bool) (x y : Progress) (n : ℕ) → x.line ≡ n → y.line ≡ n → (cond b x y).line ≡ n
line_both true x y n h k = h
line_both false x y n h k = k

pub line-after : (p : Problem) (s : Progress) (l : Line) → (after_line p s l).line ≡ s.line + 1
line-after p s (says_version v) = refl
line-after p s (says_size n q) = refl
line-after p s (says_cost c) = refl
line-after p s (says_bound b) = refl
line-after p s (says_hubs hubs) = refl
line-after p s (says_route c r) = refl
line-after p s (says_cuts all) = refl
line-after p s (says_cut number part) = refl
line-after p s (says_marked number part hubs) = refl
line-after p s (says_dual c run dual) = line_both (is_none s.mark && is_whole s (s.duals ++ replicate run dual)) _ _ (s.line + 1) refl refl
line-after p s (says_proof proof) = line_both (is_whole s s.duals) _ _ (s.line + 1) refl refl
line-after p s (says_nodes all) = refl
line-after p s (says_tree l) = refl
line-after p s says_end = refl

pub line-after_lines : (p : Problem) (s : Progress) (lines : List Line) → (after_lines p s lines).line ≡ s.line + length lines
line-after_lines p s [] = omega arith
line-after_lines p s (l ∷ lines) = omega (arith, line-after p s l, line-after_lines p (after_line p s l) lines)

pub after_lines-append : (p : Problem) (s : Progress) (front : List Line) (l : Line)
    → after_lines p s (front ++ l ∷ []) ≡ after_line p (after_lines p s front) l
after_lines-append p s [] l = refl
after_lines-append p s (x ∷ front) l = after_lines-append p (after_line p s x) front l
