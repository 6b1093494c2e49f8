-- The lines of a certificate within the ranges are as wanted, from the first to the last.
use Rattle.std.proofs.Common.{◌≡◌, ℕ, ◌+◌, ◌-◌, ◌*◌, ◌<◌, ◌≤◌, List, [], ◌∷◌, ◌++◌, length, map, replicate, get_or, true, false, Option, Some, None, ◌≢◌, ◌%◌, inl, inr, nat_eq, mul-pos, refl, sym, ap, ◌∙◌, subst, arith, zero, suc, eq-eqb, ne_eqb}
use Rattle.std.specs.Prelude.{zip, IfSome, ◌⊎◌}
use Rattle.std.specs.List.{AllByRecursion}
use Rattle.std.proofs.lemmas.List.{map-append, length-map}
use Rattle.std.proofs.lemmas.Slice.Zip.{firsts-zip}
use Rattle.std.proofs.lemmas.Bool.{cond-true, cond-false, eqb-false}
use Rattle.std.proofs.lemmas.List.Elements.{recursion_from_All}
use Rattle.hub_spec.specs.Problem.{commodities}
use Rattle.hub_spec.specs.Cuts.{Prices, Cut}
use Rattle.hub_spec.specs.Trees.{Tree, branch, leaf, empty, block, count, TreeLine, preorder, line_count}
use Rattle.hub_spec.specs.Certificates.{Proof}
use Rattle.core_spec.specs.CoreCuts.{CoreProof, Mark}
use Rattle.core_spec.specs.MarkRanges.{IsProofInRange, IsMarkInRange}
use Rattle.cert_spec.specs.Stated.{in_second, Stated, cuts_of, IsThird, IsStatedInRange}
use Rattle.cert_spec.specs.Lines.{Item, says_cuts, says_nodes, says_tree, says_end}
use Rattle.cert_spec.specs.Text.{route_items, is_first, same_prices, singles, dual_runs, run_items, dual_items, part_said, proved_items, cut_items, cuts_items}
use Rattle.cert_spec.specs.Theorems.{EachTextLeads}
use Rattle.cert_spec.specs.Runs.{runs, spread, before_at, AreRuns}
use Rattle.cert_spec.proofs.Versions.{version_said, later_not_first, first_is_no_later}
use Rattle.cert_spec.proofs.RunLaws.{runs_are, spread_runs}
use Rattle.cert_spec.proofs.SamePrices.{prices_told}
use Rattle.hub_spec.specs.Limits.{most_part}
use Rattle.std.proofs.lemmas.Option.{none-some}
use Rattle.std.proofs.lemmas.List.{length-append, length-replicate}
use Rattle.hub_spec.specs.Ranges.{IsDualInRange, IsCutInRange, IsLineInRange, IsFirstDual, IsFirstCut, IsFirstLine, IsInRange}
use Rattle.cert_spec.specs.Grammar.{Stage, want_end, want_nothing, want_cuts, want_nodes, want_route, want_cut, want_dual, want_proved, want_tree, Shape, shape, after_route, after_cut, after_dual, after_proof, after_tree, kept_dual, IsRun, IsPart, IsVersion, after, Leads}
use Rattle.hub_spec.proofs.CommodityIndex.{commodities_from, commodities_by_number}

pub Leads-append : (first mid last : Stage) (items rest : List Item) → Leads first items mid → Leads mid rest last → Leads first (items ++ rest) last
Leads-append first mid last [] rest h k = subst (λ stage. Leads stage rest last) (sym h) k
Leads-append first mid last (item ∷ items) rest h k = (h.0, Leads-append (after first item) mid last items rest h.1 k)

-- from here on by way of a stage that is the same
Leads-from : (a b last : Stage) (items : List Item) → a ≡ b → Leads b items last → Leads a items last
Leads-from a b last items e h = subst (λ stage. Leads stage items last) (sym e) h

-- the stages where something is left, and where nothing is
pub after_route-all : (s : Shape) (t : ℕ) → t ≡ s.size * s.size → after_route s t ≡ want_cuts s
after_route-all s t e = cond-true (nat_eq t (s.size * s.size)) (want_cuts s) (want_route s t) (eq-eqb t (s.size * s.size) e)

pub after_route-more : (s : Shape) (t : ℕ) → (t ≡ s.size * s.size → ⊥) → after_route s t ≡ want_route s t
after_route-more s t e = cond-false (nat_eq t (s.size * s.size)) (want_cuts s) (want_route s t) (ne_eqb t (s.size * s.size) e)

pub after_cut-all : (s : Shape) (all x : ℕ) → x ≡ all → after_cut s all x ≡ want_nodes s
after_cut-all s all x e = cond-true (nat_eq x all) (want_nodes s) (want_cut s all x) (eq-eqb x all e)

pub after_cut-more : (s : Shape) (all x : ℕ) → (x ≡ all → ⊥) → after_cut s all x ≡ want_cut s all x
after_cut-more s all x e = cond-false (nat_eq x all) (want_nodes s) (want_cut s all x) (ne_eqb x all e)

pub after_dual-all : (s : Shape) (all x t : ℕ) (before : Option Prices) → t ≡ s.size * s.size → after_dual s all x t before ≡ after_cut s all (x + 1)
after_dual-all s all x t before e =
    cond-true (nat_eq t (s.size * s.size)) (after_cut s all (x + 1)) (want_dual s all x t before) (eq-eqb t (s.size * s.size) e)

pub after_dual-more : (s : Shape) (all x t : ℕ) (before : Option Prices) → (t ≡ s.size * s.size → ⊥)
    → after_dual s all x t before ≡ want_dual s all x t before
after_dual-more s all x t before e =
    cond-false (nat_eq t (s.size * s.size)) (after_cut s all (x + 1)) (want_dual s all x t before) (ne_eqb t (s.size * s.size) e)

pub after_proof-all : (s : Shape) (all x t : ℕ) → t ≡ s.size * s.size → after_proof s all x t ≡ after_cut s all (x + 1)
after_proof-all s all x t e =
    cond-true (nat_eq t (s.size * s.size)) (after_cut s all (x + 1)) (want_proved s all x t) (eq-eqb t (s.size * s.size) e)

pub after_proof-more : (s : Shape) (all x t : ℕ) → (t ≡ s.size * s.size → ⊥) → after_proof s all x t ≡ want_proved s all x t
after_proof-more s all x t e =
    cond-false (nat_eq t (s.size * s.size)) (after_cut s all (x + 1)) (want_proved s all x t) (ne_eqb t (s.size * s.size) e)

pub after_tree-all : (s : Shape) (places left : ℕ) → left ≡ 0 → after_tree s places left ≡ want_end
after_tree-all s places left e = cond-true (nat_eq left 0) want_end (want_tree s places left) (eq-eqb left 0 e)

pub after_tree-more : (s : Shape) (places left : ℕ) → 0 < left → after_tree s places left ≡ want_tree s places left
after_tree-more s places left some = cond-false (nat_eq left 0) want_end (want_tree s places left) (ne_eqb left 0 (λ e. omega arith))

routes_lead : (s : Shape) (t m : ℕ) (routes : List (ℕ × ℕ)) → t + m ≡ s.size * s.size → length routes ≡ m
    → AllByRecursion (λ (r : ℕ × ℕ). (r.0 < s.size) × (r.1 < s.size)) routes
    → Leads (after_route s t) (route_items (zip (commodities_from s.size t m) routes)) (want_cuts s)
routes_lead s t zero routes whole long h = after_route-all s t (omega arith)
routes_lead s t (suc m) [] whole long h = absurd (omega arith)
routes_lead s t (suc m) (r ∷ routes) whole long h =
    Leads-from (after_route s t) (want_route s t) (want_cuts s) (route_items (zip (commodities_from s.size t (suc m)) (r ∷ routes)))
    (after_route-more s t (λ e. omega arith))
    ((refl, h.0.0, h.0.1), routes_lead s (t + 1) m routes (omega arith) (omega arith) h.1)

pub recursion_split : {X : Type 0} (P : X → Type 0) (xs ys : List X) → AllByRecursion P (xs ++ ys) → AllByRecursion P xs × AllByRecursion P ys
recursion_split P [] ys h = (tt, h)
recursion_split P (x ∷ xs) ys h = let k = recursion_split P xs ys h.1 in ((h.0, k.0), k.1)

-- ---- duals

-- a dual that the version can say
pub record IsDualOf (s : Shape) (dual : Prices) : Type 0 where
  pub in_range : IsDualInRange s.size dual
  pub first : s.version ≡ 1 → IsFirstDual dual

-- runs that may stand from here on, one after another
abbrev pub AreSaid : Shape → ℕ → Option Prices → List (ℕ × Prices) → Type 0
AreSaid s t before [] = Unit {0}
AreSaid s t before (r ∷ rest) =
    IsRun s t r.0 × IsDualOf s r.1 × (before ≢ Some r.1) × AreSaid s (t + r.0) (kept_dual s (t + r.0) r.1) rest

pub length-spread : (r : ℕ) (x : Prices) (rest : List (ℕ × Prices)) → length (spread ((r, x) ∷ rest)) ≡ r + length (spread rest)
length-spread r x rest = omega (arith, length-append (replicate r x) (spread rest), length-replicate r x)

runs_lead : (s : Shape) (all x t : ℕ) (before : Option Prices) (rs : List (ℕ × Prices)) → t + length (spread rs) ≡ s.size * s.size
    → AreSaid s t before rs → Leads (after_dual s all x t before) (run_items s.size t rs) (after_cut s all (x + 1))
runs_lead s all x t before [] whole said = after_dual-all s all x t before (omega arith)
runs_lead s all x t before (r ∷ rest) whole said =
    let long = length-spread r.0 r.1 rest in
    Leads-from (after_dual s all x t before) (want_dual s all x t before) (after_cut s all (x + 1)) (run_items s.size t (r ∷ rest))
    (after_dual-more s all x t before (λ e. omega (arith, e, whole, long, said.0.0))) (
      (refl, said.0, said.1.in_range, said.1.first, said.2),
      runs_lead s all x (t + r.0) (kept_dual s (t + r.0) r.1) rest (omega (arith, whole, long)) said.3,
    )

-- each alone, in the first version
singles_said : (s : Shape) (t : ℕ) (duals : List Prices) → s.version ≡ 1 → 1 ≤ s.size → AllByRecursion (IsDualOf s) duals
    → AreSaid s t None (singles duals)
singles_said s t [] first some each = tt
singles_said s t (d ∷ duals) first some each =
    let test : is_first s.version ≡ true = eq-eqb s.version 1 first in (
      (omega arith, column_next s.size t some, λ e. refl),
      each.0,
      (λ e. none-some d e),
      rw test (singles_said s (t + 1) duals first some each.1),
    )
  where
    column_next : (n t : ℕ) → 1 ≤ n → t % n + 1 ≤ n
    column_next n t some = omega arith

pub spread_singles : (duals : List Prices) → spread (singles duals) ≡ duals
spread_singles [] = refl
spread_singles (d ∷ duals) = ap (λ ds. d ∷ ds) (spread_singles duals)

-- runs, in a later one
runs_said : (s : Shape) (t : ℕ) (before : Option Prices) (rs : List (ℕ × Prices)) → is_first s.version ≡ false → AreRuns s.size t before rs
    → AllByRecursion (IsDualOf s) (spread rs) → AreSaid s t before rs
runs_said s t before [] later are each = tt
runs_said s t before ((zero, x) ∷ rest) later are each = absurd (omega (arith, are.0))
runs_said s t before ((suc q, x) ∷ rest) later are each =
    let ahead = (recursion_split (IsDualOf s) (replicate (suc q) x) (spread rest) each).1 in (
      (are.0, are.1, λ e. absurd (eqb-false s.version 1 later e)),
      each.0,
      are.2,
      rw later (runs_said s (t + suc q) (before_at s.size (t + suc q) x) rest later are.3 ahead),
    )

-- what the lines of a cut's duals say may stand there, and is of the duals
pub record IsSaid (s : Shape) (duals : List Prices) : Type 0 where
  pub said : AreSaid s 0 None (dual_runs s.version s.size duals)
  pub of : spread (dual_runs s.version s.size duals) ≡ duals

pub duals_said : (s : Shape) (duals : List Prices) → IsVersion s.version → 1 ≤ s.size → AllByRecursion (IsDualOf s) duals → IsSaid s duals
duals_said s duals (inl first) some each =
    let test : is_first s.version ≡ true = eq-eqb s.version 1 first in
    record { said = rw test (singles_said s 0 duals first some each); of = rw test (spread_singles duals) }
duals_said s duals (inr later) some each =
    let test : is_first s.version ≡ false = first_is_no_later s.version later in
    let of : spread (runs same_prices s.size 0 duals) ≡ duals = spread_runs same_prices s.size 0 duals prices_told in
    record {
      said = rw test (runs_said s 0 None (runs same_prices s.size 0 duals) test (runs_are same_prices s.size 0 duals prices_told some)
          (subst (AllByRecursion (IsDualOf s)) (sym of) each));
      of = rw test of;
    }

-- a cut that the version can say
pub record IsCutOf (s : Shape) (cut : Cut) : Type 0 where
  pub in_range : IsCutInRange s.size cut
  pub first : s.version ≡ 1 → IsFirstCut cut

-- a mark that the version can say, if there is one
abbrev pub IsMarkOf : Shape → Option Mark → Type 0
IsMarkOf s None = Unit {0}
IsMarkOf s (Some mark) = IsThird s.version × IsMarkInRange s.size mark

-- a cut with its mark
pub record IsMarkedCutOf (s : Shape) (c : Cut × Option Mark) : Type 0 where
  pub cut : IsCutOf s c.0
  pub mark : IsMarkOf s c.1

pub duals_of_cut : (s : Shape) (cut : Cut) → IsCutOf s cut → AllByRecursion (IsDualOf s) cut.duals
duals_of_cut s cut h = recursion_from_All (IsDualOf s) cut.duals
    (λ i d l. record { in_range = h.in_range.each i d l; first = λ e. (h.first e).each i d l })

part_is : (v : ℕ) (cut : Cut) → IsVersion v → 1 ≤ cut.part → cut.part ≤ most_part → IsPart v (part_said v cut.part)
part_is v cut (inl first) least most = let test : is_first v ≡ true = eq-eqb v 1 first in rw test first
part_is v cut (inr later) least most =
    let test : is_first v ≡ false = first_is_no_later v later in rw test (later, least, most)

-- the duals of a marked cut, each with its proof
proved_lead : (s : Shape) (all x t : ℕ) (duals : List Prices) (proofs : List CoreProof) → t + length duals ≡ s.size * s.size
    → length proofs ≡ length duals → AllByRecursion (IsDualOf s) duals → AllByRecursion (IsProofInRange s.size) proofs
    → Leads (after_proof s all x t) (proved_items s.size t duals proofs) (after_cut s all (x + 1))
proved_lead s all x t [] proofs whole long h k = after_proof-all s all x t (omega arith)
proved_lead s all x t (dual ∷ duals) [] whole long h k = absurd (omega arith)
proved_lead s all x t (dual ∷ duals) (proof ∷ proofs) whole long h k =
    Leads-from (after_proof s all x t) (want_proved s all x t) (after_cut s all (x + 1)) (proved_items s.size t (dual ∷ duals) (proof ∷ proofs))
    (after_proof-more s all x t (λ e. omega (arith, e, whole))) (
      (refl, refl, h.0.in_range),
      (k.0, proved_lead s all x (t + 1) duals proofs (omega (arith, whole)) (omega (arith, long)) h.1 k.1),
    )

marked_leads : (s : Shape) (all x : ℕ) (cut : Cut) (mark : Mark) → 1 ≤ s.size → IsCutOf s cut → IsMarkOf s (Some mark) → x < all
    → Leads (after_cut s all x) (cut_items s.version s.size (x + 1, (cut, Some mark))) (after_cut s all (x + 1))
marked_leads s all x cut mark some h k more =
    let pos : 1 ≤ s.size * s.size = mul-pos some some in
    let one = h.in_range.one_for_each in
    let proofs = recursion_from_All (IsProofInRange s.size) mark.proofs k.1.each in
    let duals = proved_lead s all x 0 cut.duals mark.proofs (omega (arith, one)) (k.1.one_for_each ∙ sym one) (duals_of_cut s cut h) proofs in
    Leads-from (after_cut s all x) (want_cut s all x) (after_cut s all (x + 1)) (cut_items s.version s.size (x + 1, (cut, Some mark)))
    (after_cut-more s all x (λ e. omega arith)) (
      (refl, (k.0, h.in_range.part_least, h.in_range.part_most, k.1.hubs)),
      Leads-from (want_proved s all x 0) (after_proof s all x 0) (after_cut s all (x + 1)) (proved_items s.size 0 cut.duals mark.proofs)
          (sym (after_proof-more s all x 0 (λ e. omega (arith, e, pos)))) duals,
    )

plain_leads : (s : Shape) (all x : ℕ) (cut : Cut) → IsVersion s.version → 1 ≤ s.size → IsCutOf s cut → x < all
    → Leads (after_cut s all x) (cut_items s.version s.size (x + 1, (cut, None))) (after_cut s all (x + 1))
plain_leads s all x cut version some h more =
    let pos : 1 ≤ s.size * s.size = mul-pos some some in
    let said = duals_said s cut.duals version some (duals_of_cut s cut h) in
    let long = ap length said.of in
    let duals = runs_lead s all x 0 None (dual_runs s.version s.size cut.duals) (omega (arith, long, h.in_range.one_for_each)) said.said in
    Leads-from (after_cut s all x) (want_cut s all x) (after_cut s all (x + 1)) (cut_items s.version s.size (x + 1, (cut, None)))
    (after_cut-more s all x (λ e. omega arith)) (
      (refl, part_is s.version cut version h.in_range.part_least h.in_range.part_most),
      Leads-from (want_dual s all x 0 None) (after_dual s all x 0 None) (after_cut s all (x + 1)) (dual_items s.version s.size cut.duals)
          (sym (after_dual-more s all x 0 None (λ e. omega (arith, e, pos)))) duals,
    )

cut_leads : (s : Shape) (all x : ℕ) (c : Cut × Option Mark) → IsVersion s.version → 1 ≤ s.size → IsMarkedCutOf s c → x < all
    → Leads (after_cut s all x) (cut_items s.version s.size (x + 1, c)) (after_cut s all (x + 1))
cut_leads s all x (cut, None) version some h more = plain_leads s all x cut version some h.cut more
cut_leads s all x (cut, Some mark) version some h more = marked_leads s all x cut mark some h.cut h.mark more

cuts_lead : (s : Shape) (all x : ℕ) (cuts : List (Cut × Option Mark)) → IsVersion s.version → 1 ≤ s.size → x + length cuts ≡ all
    → AllByRecursion (IsMarkedCutOf s) cuts
    → Leads (after_cut s all x) (cuts_items s.version s.size (x + 1) cuts) (want_nodes s)
cuts_lead s all x [] version some whole h = after_cut-all s all x (omega arith)
cuts_lead s all x (c ∷ cuts) version some whole h =
    Leads-append (after_cut s all x) (after_cut s all (x + 1)) (want_nodes s) (cut_items s.version s.size (x + 1, c))
    (cuts_items s.version s.size (x + 1 + 1) cuts)
    (cut_leads s all x c version some h.0 (omega arith)) (cuts_lead s all (x + 1) cuts version some (omega arith) h.1)

-- the tree
pub line_count-least : (t : Tree) → 1 ≤ line_count t
line_count-least (branch k opened closed) = omega arith
line_count-least (leaf denom weights) = omega arith
line_count-least empty = omega arith
line_count-least (block commodity) = omega arith
line_count-least count = omega arith

-- a tree line that the version can say
pub record IsLineOf (s : Shape) (line : TreeLine) : Type 0 where
  pub in_range : IsLineInRange s.size line
  pub first : s.version ≡ 1 → IsFirstLine line

-- the tree fills one of the places, with as many lines
tree_leads : (s : Shape) (places left : ℕ) (t : Tree) → 1 ≤ places → line_count t + (places - 1) ≤ left → (places ≡ 1 → line_count t ≡ left)
    → AllByRecursion (IsLineOf s) (preorder t)
    → Leads (want_tree s places left) (map says_tree (preorder t)) (after_tree s (places - 1) (left - line_count t))
tree_leads s places left (leaf denom weights) some room all h = ((h.0.in_range, h.0.first, (omega arith, λ e. omega (arith, all (omega arith)))), refl)
tree_leads s places left empty some room all h = ((h.0.in_range, h.0.first, (omega arith, λ e. omega (arith, all (omega arith)))), refl)
tree_leads s places left (block commodity) some room all h = ((h.0.in_range, h.0.first, (omega arith, λ e. omega (arith, all (omega arith)))), refl)
tree_leads s places left count some room all h = ((h.0.in_range, h.0.first, (omega arith, λ e. omega (arith, all (omega arith)))), refl)
tree_leads s places left (branch k a b) some room all h =
    let parts = recursion_split (IsLineOf s) (preorder a) (preorder b) h.1 in
    let la = line_count-least a in
    let lb = line_count-least b in
    let first = tree_leads s (places + 1) (left - 1) a (omega arith) (omega arith) (λ e. omega arith) parts.0 in
    let second = tree_leads s places (left - 1 - line_count a) b some (omega arith) (λ e. omega (arith, all e)) parts.1 in
    let between : after_tree s (places + 1 - 1) (left - 1 - line_count a) ≡ want_tree s places (left - 1 - line_count a) =
    ap (λ p. after_tree s p (left - 1 - line_count a)) (omega arith) ∙ after_tree-more s places (left - 1 - line_count a) (omega arith) in
    let end : left - 1 - line_count a - line_count b ≡ left - (1 + line_count a + line_count b) = omega arith in
    let joined : Leads (want_tree s (places + 1) (left - 1)) (map says_tree (preorder a) ++ map says_tree (preorder b)) (after_tree s (places - 1) (left - 1 - line_count a - line_count b)) =
    Leads-append (want_tree s (places + 1) (left - 1)) (want_tree s places (left - 1 - line_count a)) (after_tree s (places - 1) (left - 1 - line_count a - line_count b))
    (map says_tree (preorder a)) (map says_tree (preorder b))
    (subst (Leads (want_tree s (places + 1) (left - 1)) (map says_tree (preorder a))) between first) second in (
      (h.0.in_range, h.0.first, (omega arith, λ e. omega arith)),
      Leads-from (after_tree s (places + 1) (left - 1)) (want_tree s (places + 1) (left - 1)) (after_tree s (places - 1) (left - (1 + line_count a + line_count b)))
          (map says_tree (preorder a ++ preorder b))
          (after_tree-more s (places + 1) (left - 1) (omega arith))
          (subst (λ l. Leads (want_tree s (places + 1) (left - 1)) l (after_tree s (places - 1) (left - (1 + line_count a + line_count b)))) (sym (map-append says_tree (preorder a) (preorder b)))
          (subst (λ m. Leads (want_tree s (places + 1) (left - 1)) (map says_tree (preorder a) ++ map says_tree (preorder b)) (after_tree s (places - 1) m)) end joined)),
    )

whole_tree_leads : (s : Shape) (t : Tree) → AllByRecursion (IsLineOf s) (preorder t)
    → Leads (want_tree s 1 (line_count t)) (map says_tree (preorder t) ++ says_end ∷ []) want_nothing
whole_tree_leads s t h =
    Leads-append (want_tree s 1 (line_count t)) want_end want_nothing (map says_tree (preorder t)) (says_end ∷ [])
    (subst (Leads (want_tree s 1 (line_count t)) (map says_tree (preorder t))) (after_tree-all s 0 (line_count t - line_count t) (omega arith))
    (tree_leads s 1 (line_count t) t (omega arith) (omega arith) (λ e. refl) h))
    (tt, refl)

-- ---- the parts of a certificate's lines from the tree back

abbrev shape_of : Proof → Shape
shape_of k = shape k.version k.size

pub version_is : (k : Proof) → IsInRange (in_second k) → IsVersion k.version
version_is k h = elim (version_said k h.version) [ inl first ↦ inl first.0 | inr later ↦ inr later ]

cuts_alone : (k : Proof) → IsInRange (in_second k) → AllByRecursion (IsCutOf (shape k.version k.size)) k.cuts
cuts_alone k h = recursion_from_All (IsCutOf (shape k.version k.size)) k.cuts (λ i d l. record { in_range = h.cuts i d l; first = first i d l })
  where
    first : (i : ℕ) (d : Cut) → i < length k.cuts → k.version ≡ 1 → IsFirstCut (get_or k.cuts i d)
    first i d l one =
        elim (version_said k h.version) [ inl plain ↦ plain.1.cuts i d l | inr later ↦ absurd (later_not_first k.version later one) ]

mark_said : (s : Shape) (mark : Option Mark) → IfSome mark (IsMarkInRange s.size) → IsThird s.version ⊎ (mark ≡ None) → IsMarkOf s mark
mark_said s None range version = tt
mark_said s (Some mark) range (inl third) = (third, range)
mark_said s (Some mark) range (inr none) = absurd (let e = none in cc)

marks_said : (k : Stated) → IsStatedInRange k → AllByRecursion (IsMarkOf (shape k.proof.version k.proof.size)) k.marks
marks_said k h =
    recursion_from_All (IsMarkOf (shape k.proof.version k.proof.size)) k.marks
    (λ i d l. mark_said (shape k.proof.version k.proof.size) (get_or k.marks i d) (h.marks i d l) (version i d l))
  where
    version : (i : ℕ) (d : Option Mark) → i < length k.marks → IsThird k.proof.version ⊎ (get_or k.marks i d ≡ None)
    version i d l = elim h.version [ inl third ↦ inl third | inr none ↦ inr (none i d l) ]

both_said : (s : Shape) (cuts : List Cut) (marks : List (Option Mark)) → AllByRecursion (IsCutOf s) cuts → AllByRecursion (IsMarkOf s) marks
    → AllByRecursion (IsMarkedCutOf s) (zip cuts marks)
both_said s [] marks h k = tt
both_said s (cut ∷ cuts) [] h k = tt
both_said s (cut ∷ cuts) (mark ∷ marks) h k = (record { cut = h.0; mark = k.0 }, both_said s cuts marks h.1 k.1)

-- the cuts of what is stated, each with its mark
pub cuts_said : (k : Stated) → IsStatedInRange k → AllByRecursion (IsMarkedCutOf (shape k.proof.version k.proof.size)) (cuts_of k)
cuts_said k h = both_said (shape k.proof.version k.proof.size) k.proof.cuts k.marks (cuts_alone k.proof h.proof) (marks_said k h)

-- they are as many as the cuts
pub length-cuts_of : (k : Stated) → IsStatedInRange k → length (cuts_of k) ≡ length k.proof.cuts
length-cuts_of k h =
    sym (length-map (cuts_of k) (λ (c : Cut × Option Mark). c.0)) ∙ ap length (firsts-zip k.proof.cuts k.marks h.one_for_each)

pub lines_said : (k : Proof) → IsInRange (in_second k) → AllByRecursion (IsLineOf (shape k.version k.size)) (preorder k.tree)
lines_said k h = recursion_from_All (IsLineOf (shape k.version k.size)) (preorder k.tree) (λ i d l. record { in_range = h.tree i d l; first = first i d l })
  where
    first : (i : ℕ) (d : TreeLine) → i < length (preorder k.tree) → k.version ≡ 1
        → IsFirstLine (get_or (preorder k.tree) i d)
    first i d l one =
        elim (version_said k h.version) [ inl plain ↦ plain.1.tree i d l | inr later ↦ absurd (later_not_first k.version later one) ]

tree_part : (k : Proof) → IsInRange (in_second k) → Leads (want_nodes (shape_of k)) (says_nodes (line_count k.tree) ∷ (map says_tree (preorder k.tree) ++ says_end ∷ [])) want_nothing
tree_part k h = ((line_count-least k.tree, h.line_count), whole_tree_leads (shape_of k) k.tree (lines_said k h))

cuts_part : (k : Stated) (rest : List Item) → IsStatedInRange k → Leads (want_nodes (shape_of k.proof)) rest want_nothing
    → Leads (want_cuts (shape_of k.proof)) (says_cuts (length k.proof.cuts) ∷ (cuts_items k.proof.version k.proof.size 1 (cuts_of k) ++ rest)) want_nothing
cuts_part k rest h more =
    let s : Shape = shape_of k.proof in
    let all : ℕ = length k.proof.cuts in (
      h.proof.cut_count,
      Leads-append (after_cut s all 0) (want_nodes s) want_nothing (cuts_items s.version s.size 1 (cuts_of k)) rest
          (cuts_lead s all 0 (cuts_of k) (version_is k.proof h.proof) h.proof.some_node (omega (arith, length-cuts_of k h)) (cuts_said k h)) more,
    )

routes_part : (k : Proof) (rest : List Item) → IsInRange (in_second k) → Leads (want_cuts (shape_of k)) rest want_nothing
    → Leads (want_route (shape_of k) 0) (route_items (zip (commodities k.size) k.plan.routes) ++ rest) want_nothing
routes_part k rest h more =
    let pos : 1 ≤ k.size * k.size = mul-pos h.some_node h.some_node in
    let routes = routes_lead (shape_of k) 0 (k.size * k.size) k.plan.routes (omega arith) h.one_route_each
    (recursion_from_All (λ (r : ℕ × ℕ). (r.0 < k.size) × (r.1 < k.size)) k.plan.routes h.routes) in
    Leads-from (want_route (shape_of k) 0) (after_route (shape_of k) 0) want_nothing (route_items (zip (commodities k.size) k.plan.routes) ++ rest)
    (sym (after_route-more (shape_of k) 0 (λ e. omega arith)))
    (Leads-append (after_route (shape_of k) 0) (want_cuts (shape_of k)) want_nothing (route_items (zip (commodities k.size) k.plan.routes)) rest
    (subst (λ cs. Leads (after_route (shape_of k) 0) (route_items (zip cs k.plan.routes)) (want_cuts (shape_of k))) (sym (commodities_by_number k.size)) routes) more)

pub each_text_leads_lem : EachTextLeads
each_text_leads_lem k h = let r = h.proof in (
  version_is k.proof r,
  (
    (r.some_node, r.size, r.some_candidate, r.candidates),
    (
      r.cost,
      (
        r.bound,
        (
          (r.some_hub, r.hubs_ascend, r.hubs),
          routes_part k.proof _ r (cuts_part k _ h (tree_part k.proof r)),
        ),
      ),
    ),
  ),
)
