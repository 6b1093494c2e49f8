-- The first of lines that lead on: what each stage wants.
use Rattle.std.proofs.Common.{◌≡◌, ℕ, ◌+◌, ◌-◌, ◌<◌, ◌≤◌, List, [], ◌∷◌, length, All, Option, Some, ◌≢◌, ◌⊎◌, inl, inr, refl, ap, ap₂}
use Rattle.std.specs.List.Sorted.{IsStrictlyIncreasing}
use Rattle.hub_spec.specs.Limits.{most_nodes, most_cuts, most_tree_lines}
use Rattle.hub_spec.specs.Problem.{commodity_at}
use Rattle.hub_spec.specs.Cuts.{Prices}
use Rattle.hub_spec.specs.Trees.{TreeLine}
use Rattle.cert_spec.specs.Lines.{Item, says_version, says_size, says_cost, says_bound, says_hubs, says_route, says_cuts, says_cut, says_marked, says_dual, says_proof, says_nodes, says_tree, says_end}
use Rattle.hub_spec.specs.Ranges.{IsShort, IsDualInRange}
use Rattle.cert_spec.specs.Grammar.{Stage, want_version, want_size, want_end, want_nothing, want_cost, want_bound, want_hubs, want_cuts, want_nodes, want_route, want_cut, want_dual, want_proved, want_proof, want_tree, Shape, places_after, IsOpen, Wants, IsPart, IsMarking, IsRun, IsVersion, after, Leads}
use Rattle.cert_spec.proofs.Leads.{IsDualOf, IsLineOf}
use Rattle.core_spec.specs.CoreCuts.{CoreProof}
use Rattle.core_spec.specs.MarkRanges.{IsProofInRange}

-- lines that lead on from a stage to the last
abbrev pub Ends : Stage → List Item → Type 0
Ends stage items = Leads stage items want_nothing

-- the first of them
pub record First (stage : Stage) (items : List Item) : Type 0 where
  pub item : Item
  pub rest : List Item
  pub are : items ≡ item ∷ rest
  pub wanted : Wants stage item
  pub ends : Ends (after stage item) rest

pub first_line : (stage : Stage) (items : List Item) → (stage ≡ want_nothing → ⊥) → Ends stage items → First stage items
first_line stage [] more h = absurd (more h)
first_line stage (item ∷ rest) more h = record { item = item; rest = rest; are = refl; wanted = h.0; ends = h.1 }

-- what each stage wants
pub version_wanted : (item : Item) → Wants want_version item → (v : ℕ) × (item ≡ says_version v) × IsVersion v
version_wanted (says_version v) h = (v, refl, h)
version_wanted item h = absurd h

pub size_wanted : (v : ℕ) (item : Item) → Wants (want_size v) item → (n q : ℕ) × (item ≡ says_size n q) × (1 ≤ n) × (n ≤ most_nodes) × (1 ≤ q) × (q ≤ n)
size_wanted v (says_size n q) h = (n, q, refl, h.0, h.1, h.2, h.3)
size_wanted v item h = absurd h

pub cost_wanted : (s : Shape) (item : Item) → Wants (want_cost s) item → (c : ℕ) × (item ≡ says_cost c) × IsShort c
cost_wanted s (says_cost c) h = (c, refl, h)
cost_wanted s item h = absurd h

pub bound_wanted : (s : Shape) (item : Item) → Wants (want_bound s) item → (b : ℕ) × (item ≡ says_bound b) × IsShort b
bound_wanted s (says_bound b) h = (b, refl, h)
bound_wanted s item h = absurd h

pub hubs_wanted : (s : Shape) (item : Item) → Wants (want_hubs s) item
    → (hubs : List ℕ) × (item ≡ says_hubs hubs) × (1 ≤ length hubs) × IsStrictlyIncreasing hubs × All (λ k. k < s.size) hubs
hubs_wanted s (says_hubs hubs) h = (hubs, refl, h.0, h.1, h.2)
hubs_wanted s item h = absurd h

pub route_wanted : (s : Shape) (t : ℕ) (item : Item) → Wants (want_route s t) item
    → (r : ℕ × ℕ) × (item ≡ says_route (commodity_at s.size t) r) × ((r.0 < s.size) × (r.1 < s.size))
route_wanted s t (says_route commodity route) h = (route, ap (λ c. says_route c route) h.0, (h.1, h.2))
route_wanted s t item h = absurd h

pub count_wanted : (s : Shape) (item : Item) → Wants (want_cuts s) item → (all : ℕ) × (item ≡ says_cuts all) × (all ≤ most_cuts)
count_wanted s (says_cuts all) h = (all, refl, h)
count_wanted s item h = absurd h

-- the line of a cut, with no mark or with one
pub record IsPlainLine (s : Shape) (x : ℕ) (item : Item) : Type 0 where
  pub part : Option ℕ
  pub is : item ≡ says_cut (x + 1) part
  pub is_part : IsPart s.version part

pub record IsMarkedLine (s : Shape) (x : ℕ) (item : Item) : Type 0 where
  pub part : ℕ
  pub hubs : List ℕ
  pub is : item ≡ says_marked (x + 1) part hubs
  pub marking : IsMarking s part hubs

pub cut_wanted : (s : Shape) (all x : ℕ) (item : Item) → Wants (want_cut s all x) item → IsPlainLine s x item ⊎ IsMarkedLine s x item
cut_wanted s all x (says_cut number part) h = inl (record { part = part; is = ap (λ m. says_cut m part) h.0; is_part = h.1 })
cut_wanted s all x (says_marked number part hubs) h =
    inr (record { part = part; hubs = hubs; is = ap (λ m. says_marked m part hubs) h.0; marking = h.1 })
cut_wanted s all x item h = absurd h

-- the dual of a marked cut, and its proof
pub proved_wanted : (s : Shape) (all x t : ℕ) (item : Item) → Wants (want_proved s all x t) item
    → (dual : Prices) × (item ≡ says_dual (commodity_at s.size t) 1 dual) × IsDualInRange s.size dual
proved_wanted s all x t (says_dual commodity run dual) h = (dual, ap₂ (λ (c : ℕ × ℕ) (m : ℕ). says_dual c m dual) h.0 h.1, h.2)
proved_wanted s all x t item h = absurd h

pub proof_wanted : (s : Shape) (all x t : ℕ) (item : Item) → Wants (want_proof s all x t) item
    → (proof : CoreProof) × (item ≡ says_proof proof) × IsProofInRange s.size proof
proof_wanted s all x t (says_proof proof) h = (proof, refl, h)
proof_wanted s all x t item h = absurd h

-- the run that a line of duals says
pub record IsRunLine (s : Shape) (t : ℕ) (before : Option Prices) (item : Item) : Type 0 where
  pub run : ℕ
  pub dual : Prices
  pub is : item ≡ says_dual (commodity_at s.size t) run dual
  pub is_run : IsRun s t run
  pub of : IsDualOf s dual
  pub other : before ≢ Some dual

pub dual_wanted : (s : Shape) (all x t : ℕ) (before : Option Prices) (item : Item) → Wants (want_dual s all x t before) item → IsRunLine s t before item
dual_wanted s all x t before (says_dual commodity run dual) h = record {
  run = run;
  dual = dual;
  is = ap (λ c. says_dual c run dual) h.0;
  is_run = h.1;
  of = record { in_range = h.2; first = h.3 };
  other = h.4;
}
dual_wanted s all x t before item h = absurd h

pub nodes_wanted : (s : Shape) (item : Item) → Wants (want_nodes s) item → (all : ℕ) × (item ≡ says_nodes all) × (1 ≤ all) × (all ≤ most_tree_lines)
nodes_wanted s (says_nodes all) h = (all, refl, h.0, h.1)
nodes_wanted s item h = absurd h

pub tree_wanted : (s : Shape) (places left : ℕ) (item : Item) → Wants (want_tree s places left) item
    → (line : TreeLine) × (item ≡ says_tree line) × IsLineOf s line × IsOpen (places_after places line) (left - 1)
tree_wanted s places left (says_tree line) h = (line, refl, record { in_range = h.0; first = h.1 }, h.2)
tree_wanted s places left item h = absurd h

pub end_wanted : (item : Item) → Wants want_end item → item ≡ says_end
end_wanted says_end h = refl
end_wanted item h = absurd h
