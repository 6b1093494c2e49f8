-- What is known of the lines of a cut that is held.
use Rattle.std.proofs.Common.{◌≡◌, ℕ, ◌+◌, ◌-◌, ◌*◌, ◌/◌, ◌%◌, ◌<◌, List, [], ◌∷◌, ◌++◌, length, drop, get_or, map, replicate, All, Option, Some, None, refl, sym, ap, subst, ◌∙◌, arith}
use Rattle.std.specs.Prelude.{IfSome}
use Rattle.std.specs.List.{range_with_len}
use Rattle.std.proofs.Math.ListN.{get_or-append}
use Rattle.std.proofs.Math.Nat.{mul-le-mul_right}
use Rattle.std.proofs.lemmas.List.Elements.{All-weaker}
use Rattle.std.proofs.lemmas.List.{at_drop_more, get_or-take, get_or-drop, get_or-replicate, length-replicate}
use Rattle.std.proofs.lemmas.List.FromFn.{get_or-range_with_len}
use Rattle.std.proofs.lemmas.Nat.{mod-mul-add, div-mul-add}
use Rattle.hub_spec.specs.Problem.{Problem, commodity_at}
use Rattle.hub_spec.specs.Cuts.{Prices, Cut, IsDual}
use Rattle.hub_spec.specs.Trees as Tree
use Rattle.hub_spec.specs.Ranges.{IsLineInRange}
use Rattle.hub_model.specs.Lines.{tree_line_of}
use Rattle.hub_model.specs.declared.tree_lines.TreeLine.{TreeLine}
use Rattle.cert_spec.specs.Lines.{Item, says_dual, says_tree, says_end}
use Rattle.cert_scan.specs.Versions.{version_number, version_of}
use Rattle.cert_scan.specs.declared.items.Version.{Version}
use Rattle.cert_scan.specs.declared.items.Version.TheVariants.{First, Second, Third}
use Rattle.cert_format.specs.DualItems.{row_items, dual_row, no_dual, AreEqual}
use Rattle.cert_conditions.specs.ListLines.{IsKnownLine}
use Rattle.cert_checker.specs.Duals.{IsDualAt}
use Rattle.cert_checker.specs.Walks.{HasSmallDenominator, IsKnownCut, IsKnownRow}

pub version_back : (v : Version) → version_of (version_number v) ≡ v
version_back First = refl
version_back Second = refl
version_back Third = refl

-- the lines of the duals of the commodities from i
abbrev pub row_lines : (v n : ℕ) → List Prices → ℕ → List Item
row_lines v n duals i = row_items v n i (dual_row n duals i)

pub row_here : (v n : ℕ) (duals : List Prices) (i : ℕ) (row : List Prices) → row ≡ dual_row n duals i → i < n
    → row_items v n i row ≡ row_lines v n duals (get_or (range_with_len 0 n) i 0)
row_here v n duals i row is less =
    let at : get_or (range_with_len 0 n) i 0 ≡ i = get_or-range_with_len 0 n i 0 less ∙ omega arith in
    ap (row_items v n i) is ∙ ap (row_lines v n duals) (sym at)

-- the dual of a row, and its commodity, by their number
row_dual : (p : Problem) (n : ℕ) (cut : Cut) (i j : ℕ) (row : List Prices) (part : ℕ) → row ≡ dual_row n cut.duals i → i < n → j < n
    → length cut.duals ≡ n * n → IsKnownCut n p cut part → IsDual p part (i, j) (get_or row j no_dual)
row_dual p n cut i j row part is less below whole h =
    let t = i * n + j in
    let rows = mul-le-mul_right n less in
    let here = h.each t (omega (arith, rows, below, whole)) in
    let read : get_or row j no_dual ≡ get_or cut.duals t no_dual =
    ap (λ (r : List Prices). get_or r j no_dual) is ∙ get_or-take n (drop (i * n) cut.duals) j no_dual below ∙ get_or-drop (i * n) cut.duals j no_dual in
    subst (λ (d : Prices). IsDual p part (i, j) d) (sym read)
    (subst (λ (a : ℕ). IsDual p part (a, j) (get_or cut.duals t no_dual)) (div-mul-add i n j below)
    (subst (λ (b : ℕ). IsDual p part (t / n, b) (get_or cut.duals t no_dual)) (mod-mul-add i n j below) here))

pub row_known : {p q : Problem} (n : ℕ) (cut : Cut) (i : ℕ) (row : List Prices) (known : Option ℕ) → q ≡ p → row ≡ dual_row n cut.duals i → length row ≡ n
    → i < n → length cut.duals ≡ n * n → IfSome known (IsKnownCut n p cut) → IfSome known (IsKnownRow q i row)
row_known n cut i row None same is long less whole h = tt
row_known {p} {q} n cut i row (Some part) same is long less whole h = λ j below.
    subst (λ (r : Problem). IsDual r part (i, j) (get_or row j no_dual)) (sym same)
    (row_dual p n cut i j row part is less (omega (arith, below, long)) whole h)

-- equal duals of a row
run_read : (row : List Prices) (j run s : ℕ) → AreEqual row j run → s < run → get_or row (j + s) no_dual ≡ get_or row j no_dual
run_read row j run s is below =
    let x = get_or row j no_dual in
    sym (get_or-drop j row s no_dual)
    ∙ ap (λ (r : List Prices). get_or r s no_dual) is.same
    ∙ get_or-append (replicate run x) (drop (j + run) row) no_dual s (omega (arith, below, length-replicate run x))
    ∙ get_or-replicate run s x no_dual below

pub run_known : {p q : Problem} (i j run : ℕ) (row : List Prices) (dual : Prices) (known : Option ℕ) → q ≡ p → AreEqual row j run
    → dual ≡ get_or row j no_dual → IfSome known (IsKnownRow p i row) → IfSome known (IsKnownLine q (says_dual (i, j) run dual))
run_known i j run row dual None same is at h = tt
run_known {p} {q} i j run row dual (Some part) same is at h = λ s below.
    subst (λ (r : Problem). IsDual r part (i, j + s) dual) (sym same)
    (subst (λ (d : Prices). IsDual p part (i, j + s) d) (run_read row j run s is below ∙ sym at) (h (j + s) (omega (arith, below, is.within))))

-- a dual of a marked cut stands alone
pub dual_known : {p q : Problem} (n t : ℕ) (cut : Cut) (dual : Prices) (known : Option ℕ) → q ≡ p → t < length cut.duals
    → dual ≡ get_or cut.duals t no_dual → IfSome known (IsKnownCut n p cut) → IfSome known (IsKnownLine q (says_dual (commodity_at n t) 1 dual))
dual_known n t cut dual None same within at h = tt
dual_known {p} {q} n t cut dual (Some part) same within at h = λ s below.
    let none : t % n ≡ t % n + s = omega (arith, below) in
    subst (λ (r : Problem). IsDual r part (t / n, t % n + s) dual) (sym same)
    (subst (λ (b : ℕ). IsDual p part (t / n, b) dual) none
    (subst (λ (d : Prices). IsDual p part (commodity_at n t) d) (sym at) (h.each t within)))

-- all duals of a cut between n nodes are feasible
pub cut_known : (p : Problem) (cut : Cut) → ((t : ℕ) → t < length cut.duals → IsDualAt p cut.part cut.duals t) → IsKnownCut p.size p cut cut.part
cut_known p cut h = record { each = h }

-- ---- the tree

-- the lines of the tree that are left, and the last line
abbrev pub tree_left : List TreeLine → List Item
tree_left lines = map says_tree (map tree_line_of lines) ++ says_end ∷ []

pub next_tree_line : (lines : List TreeLine) (t : ℕ) (line : TreeLine) → t < length lines → line ≡ get_or lines t line
    → tree_left (drop t lines) ≡ (says_tree (tree_line_of line) ∷ []) ++ tree_left (drop (t + 1) lines)
next_tree_line lines t line less is =
    at_drop_more tree_left lines t line less ∙ ap (λ (l : TreeLine). says_tree (tree_line_of l) ∷ tree_left (drop (t + 1) lines)) (sym is)

-- what is in range of the lines of a tree
pub small_denominators : (n : ℕ) (lines : List Tree.TreeLine) → All (IsLineInRange n) lines → All HasSmallDenominator lines
small_denominators n lines h = All-weaker (IsLineInRange n) HasSmallDenominator (small n) lines h
  where
    small : (n : ℕ) (l : Tree.TreeLine) → IsLineInRange n l → HasSmallDenominator l
    small n (Tree.leaf_of denom weights) h = h.1
    small n (Tree.branch_on k) h = tt
    small n Tree.no_hub h = tt
    small n (Tree.no_route commodity) h = tt
    small n Tree.no_count h = tt
