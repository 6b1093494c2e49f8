-- Lines that are as wanted from the first to the last are those of a certificate within the ranges.
use Rattle.std.proofs.Common.{get_or, ◌≡◌, ℕ, ◌+◌, ◌*◌, ◌<◌, ◌≤◌, List, [], ◌∷◌, ◌++◌, length, map, All, Option, Some, None, ◌⊎◌, inl, inr, refl, sym, ap, ap₂, ◌∙◌, subst, arith, zero, suc, mul-pos}
use Rattle.std.specs.Prelude.{zip, IfSome}
use Rattle.std.specs.List.{AllByRecursion}
use Rattle.std.specs.List.Sorted.{IsStrictlyIncreasing}
use Rattle.std.proofs.lemmas.List.Elements.{All-from_recursion}
use Rattle.hub_spec.specs.Limits.{most_nodes, most_cuts, most_tree_lines}
use Rattle.hub_spec.specs.Problem.{commodities, commodity_at}
use Rattle.hub_spec.specs.Cuts.{Cut}
use Rattle.hub_spec.specs.Trees.{Tree, preorder, line_count}
use Rattle.hub_spec.specs.Certificates.{Proof}
use Rattle.cert_spec.specs.Lines.{Item, says_version, says_size, says_cost, says_bound, says_hubs, says_route, says_cuts, says_nodes, says_tree, says_end}
use Rattle.cert_spec.specs.Text.{route_items, cuts_items, certificate_items}
use Rattle.cert_spec.specs.Theorems.{EachLeadIsText}
use Rattle.hub_spec.specs.Ranges.{IsShort, IsInRange}
use Rattle.cert_spec.specs.Grammar.{want_version, want_size, want_cost, want_bound, want_hubs, want_cuts, want_nodes, want_route, Shape, shape, after_route, IsVersion, after}
use Rattle.hub_spec.proofs.CommodityIndex.{commodities_from, commodities_by_number}
use Rattle.cert_spec.proofs.Leads.{after_route-all, after_route-more, IsCutOf, IsMarkOf, IsMarkedCutOf, IsLineOf}
use Rattle.core_spec.specs.CoreCuts.{Mark}
use Rattle.core_spec.specs.MarkRanges.{IsMarkInRange}
use Rattle.cert_spec.specs.Stated.{Stated, in_second, IsThird, IsStatedInRange}
use Rattle.cert_spec.proofs.Versions.{version_in_second}
use Rattle.cert_spec.proofs.FirstLines.{Ends, First, first_line, version_wanted, size_wanted, cost_wanted, bound_wanted, hubs_wanted, route_wanted, count_wanted}
use Rattle.cert_spec.proofs.CutsBack.{ReadCuts, read_cuts}
use Rattle.cert_spec.proofs.TreesBack.{ReadEnd, read_end}
use Rattle.std.proofs.lemmas.List.{length-map}

-- the routes that are still to come, and the lines after them
record ReadRoutes (s : Shape) (t m : ℕ) (items : List Item) : Type 0 where
  routes : List (ℕ × ℕ)
  rest : List Item
  are : items ≡ route_items (zip (commodities_from s.size t m) routes) ++ rest
  long : length routes ≡ m
  nodes : AllByRecursion (λ (r : ℕ × ℕ). (r.0 < s.size) × (r.1 < s.size)) routes
  ends : Ends (want_cuts s) rest

no_routes : (s : Shape) (t : ℕ) (items : List Item) → Ends (want_cuts s) items → ReadRoutes s t 0 items
no_routes s t items h = record { routes = []; rest = items; are = refl; long = refl; nodes = tt; ends = h }

with_route : (s : Shape) (t m : ℕ) (items : List Item) (line : First (want_route s t) items) → ReadRoutes s (t + 1) m line.rest → ReadRoutes s t (suc m) items
with_route s t m items line more =
    let route = route_wanted s t line.item line.wanted in
    let head : items ≡ says_route (commodity_at s.size t) route.0 ∷ line.rest = line.are ∙ ap (λ i. i ∷ line.rest) route.1 in
    record {
      routes = route.0 ∷ more.routes;
      rest = more.rest;
      are = head ∙ ap (λ l. says_route (commodity_at s.size t) route.0 ∷ l) more.are;
      long = ap suc more.long;
      nodes = (route.2, more.nodes);
      ends = more.ends;
    }

first_route : (s : Shape) (t : ℕ) (items : List Item) → (t ≡ s.size * s.size → ⊥) → Ends (after_route s t) items → First (want_route s t) items
first_route s t items left h = first_line (want_route s t) items (λ e. cc) (subst (λ stage. Ends stage items) (after_route-more s t left) h)

read_routes : (s : Shape) (t m : ℕ) (items : List Item) → t + m ≡ s.size * s.size → Ends (after_route s t) items → ReadRoutes s t m items
read_routes s t zero items whole h = no_routes s t items (subst (λ stage. Ends stage items) (after_route-all s t (omega arith)) h)
read_routes s t (suc m) items whole h =
    let line = first_route s t items (λ e. omega arith) h in
    with_route s t m items line (read_routes s (t + 1) m line.rest (omega arith) line.ends)

-- the cuts, with what is after them
record ReadAllCuts (s : Shape) (items : List Item) : Type 0 where
  cuts : List (Cut × Option Mark)
  rest : List Item
  are : items ≡ says_cuts (length cuts) ∷ (cuts_items s.version s.size 1 cuts ++ rest)
  few : length cuts ≤ most_cuts
  each : AllByRecursion (IsMarkedCutOf s) cuts
  ends : Ends (want_nodes s) rest

all_cuts : (s : Shape) (all : ℕ) (items rest : List Item) → items ≡ says_cuts all ∷ rest → all ≤ most_cuts → ReadCuts s 0 all rest → ReadAllCuts s items
all_cuts s all items rest are few more = record {
  cuts = more.cuts;
  rest = more.rest;
  are = are ∙ ap (λ m. says_cuts m ∷ rest) (sym more.long) ∙ ap (λ l. says_cuts (length more.cuts) ∷ l) more.are;
  few = omega (arith, more.long);
  each = more.each;
  ends = more.ends;
}

cuts_after : (s : Shape) (items : List Item) → IsVersion s.version → 1 ≤ s.size → First (want_cuts s) items → ReadAllCuts s items
cuts_after s items version some line =
    let all = count_wanted s line.item line.wanted in
    all_cuts s all.0 items line.rest (line.are ∙ ap (λ i. i ∷ line.rest) all.1) all.2
    (read_cuts s all.0 0 all.0 line.rest version some (omega arith) (subst (λ i. Ends (after (want_cuts s) i) line.rest) all.1 line.ends))

read_all_cuts : (s : Shape) (items : List Item) → IsVersion s.version → 1 ≤ s.size → Ends (want_cuts s) items → ReadAllCuts s items
read_all_cuts s items version some h = cuts_after s items version some (first_line (want_cuts s) items (λ e. cc) h)

-- the routes, with what is after them
record ReadAllRoutes (s : Shape) (items : List Item) : Type 0 where
  routes : List (ℕ × ℕ)
  rest : List Item
  are : items ≡ route_items (zip (commodities s.size) routes) ++ rest
  long : length routes ≡ s.size * s.size
  nodes : AllByRecursion (λ (r : ℕ × ℕ). (r.0 < s.size) × (r.1 < s.size)) routes
  ends : Ends (want_cuts s) rest

all_routes : (s : Shape) (items : List Item) → ReadRoutes s 0 (s.size * s.size) items → ReadAllRoutes s items
all_routes s items more = record {
  routes = more.routes;
  rest = more.rest;
  are = more.are ∙ ap (λ cs. route_items (zip cs more.routes) ++ more.rest) (sym (commodities_by_number s.size));
  long = more.long;
  nodes = more.nodes;
  ends = more.ends;
}

read_all_routes : (s : Shape) (items : List Item) → 1 ≤ s.size → Ends (want_route s 0) items → ReadAllRoutes s items
read_all_routes s items some h =
    let some_commodity : 1 ≤ s.size * s.size = mul-pos some some in
    all_routes s items (read_routes s 0 (s.size * s.size) items (omega arith) (subst (λ stage. Ends stage items) (sym (after_route-more s 0 (λ e. omega arith))) h))

-- all from the cuts on
record FromCuts (s : Shape) (items : List Item) : Type 0 where
  cuts : List (Cut × Option Mark)
  tree : Tree
  are : items ≡ says_cuts (length cuts) ∷ (cuts_items s.version s.size 1 cuts
      ++ says_nodes (line_count tree) ∷ (map says_tree (preorder tree) ++ says_end ∷ []))
  few_cuts : length cuts ≤ most_cuts
  each_cut : AllByRecursion (IsMarkedCutOf s) cuts
  few_lines : line_count tree ≤ most_tree_lines
  each_line : AllByRecursion (IsLineOf s) (preorder tree)

from_cuts : (s : Shape) (items : List Item) (c : ReadAllCuts s items) → ReadEnd s c.rest → FromCuts s items
from_cuts s items c e = record {
  cuts = c.cuts;
  tree = e.tree;
  are = c.are ∙ ap (λ l. says_cuts (length c.cuts) ∷ (cuts_items s.version s.size 1 c.cuts ++ l)) e.are;
  few_cuts = c.few;
  each_cut = c.each;
  few_lines = e.few;
  each_line = e.each;
}

read_from_cuts : (s : Shape) (items : List Item) → ReadAllCuts s items → FromCuts s items
read_from_cuts s items c = from_cuts s items c (read_end s c.rest c.ends)

-- all from the hubs on
record FromHubs (s : Shape) (items : List Item) : Type 0 where
  hubs : List ℕ
  routes : List (ℕ × ℕ)
  rest : List Item
  are : items ≡ says_hubs hubs ∷ (route_items (zip (commodities s.size) routes) ++ rest)
  some : 1 ≤ length hubs
  ascend : IsStrictlyIncreasing hubs
  within : All (λ k. k < s.size) hubs
  long : length routes ≡ s.size * s.size
  nodes : AllByRecursion (λ (r : ℕ × ℕ). (r.0 < s.size) × (r.1 < s.size)) routes
  later : FromCuts s rest

from_hubs : (s : Shape) (items : List Item) (line : First (want_hubs s) items)
    → (hubs : List ℕ) × (line.item ≡ says_hubs hubs) × (1 ≤ length hubs) × IsStrictlyIncreasing hubs × All (λ k. k < s.size) hubs
    → (r : ReadAllRoutes s line.rest) → FromCuts s r.rest → FromHubs s items
from_hubs s items line h r c = record {
  hubs = h.0;
  routes = r.routes;
  rest = r.rest;
  are = line.are ∙ ap (λ i. i ∷ line.rest) h.1 ∙ ap (λ l. says_hubs h.0 ∷ l) r.are;
  some = h.2;
  ascend = h.3;
  within = h.4;
  long = r.long;
  nodes = r.nodes;
  later = c;
}

read_after_routes : (s : Shape) (items : List Item) (line : First (want_hubs s) items) → IsVersion s.version → 1 ≤ s.size → ReadAllRoutes s line.rest → FromHubs s items
read_after_routes s items line version some r =
    from_hubs s items line (hubs_wanted s line.item line.wanted) r (read_from_cuts s r.rest (read_all_cuts s r.rest version some r.ends))

read_from_hubs : (s : Shape) (items : List Item) → IsVersion s.version → 1 ≤ s.size → First (want_hubs s) items → FromHubs s items
read_from_hubs s items version some line = read_after_routes s items line version some (read_all_routes s line.rest some line.ends)

-- what the lines state
IsRead : List Item → Type 0
IsRead items = (k : Stated) × IsStatedInRange k × (items ≡ certificate_items k)

-- the cuts and the marks of cuts with marks
abbrev cuts_alone : List (Cut × Option Mark) → List Cut
cuts_alone cuts = map (λ (c : Cut × Option Mark). c.0) cuts

abbrev marks_alone : List (Cut × Option Mark) → List (Option Mark)
marks_alone cuts = map (λ (c : Cut × Option Mark). c.1) cuts

zip_alone : (cuts : List (Cut × Option Mark)) → zip (cuts_alone cuts) (marks_alone cuts) ≡ cuts
zip_alone [] = refl
zip_alone (c ∷ cuts) = ap (λ cs. c ∷ cs) (zip_alone cuts)

said_cuts : (s : Shape) (cuts : List (Cut × Option Mark)) → AllByRecursion (IsMarkedCutOf s) cuts → AllByRecursion (IsCutOf s) (cuts_alone cuts)
said_cuts s [] h = tt
said_cuts s (c ∷ cuts) h = (h.0.cut, said_cuts s cuts h.1)

said_marks : (s : Shape) (cuts : List (Cut × Option Mark)) → AllByRecursion (IsMarkedCutOf s) cuts → AllByRecursion (IsMarkOf s) (marks_alone cuts)
said_marks s [] h = tt
said_marks s (c ∷ cuts) h = (h.0.mark, said_marks s cuts h.1)

mark_in_range : (s : Shape) (mark : Option Mark) → IsMarkOf s mark → IfSome mark (IsMarkInRange s.size)
mark_in_range s None h = tt
mark_in_range s (Some mark) h = h.1

mark_version : (s : Shape) (mark : Option Mark) → IsMarkOf s mark → IsThird s.version ⊎ (mark ≡ None)
mark_version s None h = inr refl
mark_version s (Some mark) h = inl h.0

-- the version is the third, or there is no mark
version_or_none : (s : Shape) (marks : List (Option Mark)) → AllByRecursion (IsMarkOf s) marks
    → IsThird s.version ⊎ AllByRecursion (λ (mark : Option Mark). mark ≡ None) marks
version_or_none s [] h = inr tt
version_or_none s (mark ∷ marks) h = elim (mark_version s mark h.0) [
  | inl third ↦ inl third
  | inr none ↦ elim (version_or_none s marks h.1) [ inl third ↦ inl third | inr more ↦ inr (none, more) ]
]

-- the proof, by its parts
proof_of : (v n q c b : ℕ) (items : List Item) → FromHubs (shape v n) items → Proof
proof_of v n q c b items h = record {
  version = v;
  size = n;
  candidates = q;
  cost = c;
  bound = b;
  plan = record { hubs = h.hubs; routes = h.routes };
  cuts = cuts_alone h.later.cuts;
  tree = h.later.tree;
}

stated_of : (v n q c b : ℕ) (items : List Item) → FromHubs (shape v n) items → Stated
stated_of v n q c b items h = record { proof = proof_of v n q c b items h; marks = marks_alone h.later.cuts }

proof_in_range : (v n q c b : ℕ) (items : List Item) → IsVersion v → (1 ≤ n) × (n ≤ most_nodes) × (1 ≤ q) × (q ≤ n) → IsShort c → IsShort b
    → (h : FromHubs (shape v n) items) → IsInRange (in_second (proof_of v n q c b items h))
unfolding proof_of
proof_in_range v n q c b items version sizes cost bound h =
    let s : Shape = shape v n in
    let cuts = All-from_recursion (IsCutOf s) (cuts_alone h.later.cuts) (said_cuts s h.later.cuts h.later.each_cut) in
    let lines = All-from_recursion (IsLineOf s) (preorder h.later.tree) h.later.each_line in
    record {
      version = version_in_second (proof_of v n q c b items h) (elim version [
        | inl one ↦
            inl (one, record { cuts = λ i d l. (cuts i d l).first one; tree = λ i d l. (lines i d l).first one })
        | inr later ↦ inr later
      ]);
      some_node = sizes.0;
      size = sizes.1;
      some_candidate = sizes.2;
      candidates = sizes.3;
      cost = cost;
      bound = bound;
      some_hub = h.some;
      hubs_ascend = h.ascend;
      hubs = h.within;
      one_route_each = h.long;
      routes = All-from_recursion (λ (r : ℕ × ℕ). (r.0 < n) × (r.1 < n)) h.routes h.nodes;
      cut_count = omega (arith, h.later.few_cuts, length-map h.later.cuts (λ (c : Cut × Option Mark). c.0));
      cuts = λ i d l. (cuts i d l).in_range;
      line_count = h.later.few_lines;
      tree = λ i d l. (lines i d l).in_range;
    }

stated_in_range : (v n q c b : ℕ) (items : List Item) → IsVersion v → (1 ≤ n) × (n ≤ most_nodes) × (1 ≤ q) × (q ≤ n) → IsShort c → IsShort b
    → (h : FromHubs (shape v n) items) → IsStatedInRange (stated_of v n q c b items h)
unfolding stated_of proof_of
stated_in_range v n q c b items version sizes cost bound h =
    let s : Shape = shape v n in
    let each = said_marks s h.later.cuts h.later.each_cut in
    let marks = All-from_recursion (IsMarkOf s) (marks_alone h.later.cuts) each in
    record {
      proof = proof_in_range v n q c b items version sizes cost bound h;
      one_for_each = length-map h.later.cuts (λ (c : Cut × Option Mark). c.1) ∙ sym (length-map h.later.cuts (λ (c : Cut × Option Mark). c.0));
      marks = λ i d l. mark_in_range s (get_or (marks_alone h.later.cuts) i d) (marks i d l);
      version = elim (version_or_none s (marks_alone h.later.cuts) each) [
        | inl third ↦ inl third
        | inr none ↦ inr (All-from_recursion (λ (mark : Option Mark). mark ≡ None) (marks_alone h.later.cuts) none)
      ];
    }

-- the lines are its lines
items_are : (v n q c b : ℕ) (items : List Item) (h : FromHubs (shape v n) items)
    → says_version v ∷ says_size n q ∷ says_cost c ∷ says_bound b ∷ items ≡ certificate_items (stated_of v n q c b items h)
unfolding stated_of proof_of
items_are v n q c b items h =
    let cuts : List (Cut × Option Mark) = h.later.cuts in
    let front : List Item → List Item = λ l. says_version v ∷ says_size n q ∷ says_cost c ∷ says_bound b ∷ l in
    let tree : List Item = says_nodes (line_count h.later.tree) ∷ (map says_tree (preorder h.later.tree) ++ says_end ∷ []) in
    let routes : List Item → List Item = λ l. says_hubs h.hubs ∷ (route_items (zip (commodities n) h.routes) ++ l) in
    ap front (h.are ∙ ap routes h.later.are
    ∙ ap₂ (λ (m : ℕ) (cs : List (Cut × Option Mark)). routes (says_cuts m ∷ (cuts_items v n 1 cs ++ tree)))
    (sym (length-map cuts (λ (c : Cut × Option Mark). c.0))) (sym (zip_alone cuts)))

certificate : (v n q c b : ℕ) (items : List Item) → IsVersion v → (1 ≤ n) × (n ≤ most_nodes) × (1 ≤ q) × (q ≤ n) → IsShort c → IsShort b
    → FromHubs (shape v n) items → IsRead (says_version v ∷ says_size n q ∷ says_cost c ∷ says_bound b ∷ items)
unfolding IsRead
certificate v n q c b items version sizes cost bound h =
    (stated_of v n q c b items h, stated_in_range v n q c b items version sizes cost bound h, items_are v n q c b items h)

-- the lines in front, from the last of them back
read_bound : (v n q c : ℕ) (items : List Item) → IsVersion v → (1 ≤ n) × (n ≤ most_nodes) × (1 ≤ q) × (q ≤ n) → IsShort c
    → First (want_bound (shape v n)) items → IsRead (says_version v ∷ says_size n q ∷ says_cost c ∷ items)
read_bound v n q c items version sizes cost line =
    let b = bound_wanted (shape v n) line.item line.wanted in
    subst (λ l. IsRead (says_version v ∷ says_size n q ∷ says_cost c ∷ l)) (sym (line.are ∙ ap (λ i. i ∷ line.rest) b.1))
    (certificate v n q c b.0 line.rest version sizes cost b.2
    (read_from_hubs (shape v n) line.rest version sizes.0 (first_line (want_hubs (shape v n)) line.rest (λ e. cc) line.ends)))

read_cost : (v n q : ℕ) (items : List Item) → IsVersion v → (1 ≤ n) × (n ≤ most_nodes) × (1 ≤ q) × (q ≤ n) → First (want_cost (shape v n)) items
    → IsRead (says_version v ∷ says_size n q ∷ items)
read_cost v n q items version sizes line =
    let c = cost_wanted (shape v n) line.item line.wanted in
    subst (λ l. IsRead (says_version v ∷ says_size n q ∷ l)) (sym (line.are ∙ ap (λ i. i ∷ line.rest) c.1))
    (read_bound v n q c.0 line.rest version sizes c.2 (first_line (want_bound (shape v n)) line.rest (λ e. cc) line.ends))

read_size : (v : ℕ) (items : List Item) → IsVersion v → First (want_size v) items → IsRead (says_version v ∷ items)
read_size v items version line =
    let sizes = size_wanted v line.item line.wanted in
    subst (λ l. IsRead (says_version v ∷ l)) (sym (line.are ∙ ap (λ i. i ∷ line.rest) sizes.2))
    (read_cost v sizes.0 sizes.1 line.rest version (sizes.3, sizes.4, sizes.5, sizes.6)
    (first_line (want_cost (shape v sizes.0)) line.rest (λ e. cc) (subst (λ i. Ends (after (want_size v) i) line.rest) sizes.2 line.ends)))

read_version : (items : List Item) → First want_version items → IsRead items
read_version items line =
    let v = version_wanted line.item line.wanted in
    subst IsRead (sym (line.are ∙ ap (λ i. i ∷ line.rest) v.1))
    (read_size v.0 line.rest v.2 (first_line (want_size v.0) line.rest (λ e. cc) (subst (λ i. Ends (after want_version i) line.rest) v.1 line.ends)))

pub each_lead_is_text_lem : EachLeadIsText
unfolding IsRead
each_lead_is_text_lem items h = read_version items (first_line want_version items (λ e. cc) h)
