-- What the answer of a search states of an instance: of a search by a rule, and of `optimize`.
use Rattle.std.specs.Prelude.{◌≡◌, ℕ, ◌+◌, ◌^◌, ◌<◌, ◌≤◌, List, length, Option, ◌⊎◌}
use Rattle.std.specs.List.{AllZip}
use Rattle.hub_spec.specs.Problem.{Problem, commodities}
use Rattle.hub_spec.specs.Plans.{IsOptimal, IsLeastRoute, NoPlanBelow, plan_cost}
use Rattle.hub_spec.specs.Trees.{line_count}
use Rattle.hub_spec.specs.Certificates.{Proof, Holds}
use Rattle.search_spec.specs.States.{Grown}
use Rattle.search_spec.specs.Findings.{AreWithin, IsSpent, IsEnough, certificate_of}
use Rattle.search_spec.specs.Costs.{IsAtMostOf, first_hubs, IsAtMostBoth}
use Rattle.core_spec.specs.CoreCuts.{Mark}
use Rattle.cert_spec.specs.Stated.{IsAsMarked}
use Rattle.cert_spec.specs.Text.{Spells, SpellsUnmarked}
use Rattle.search_steps.specs.Kinds.{minimal, core}
use Rattle.branch_tree.specs.Findings.{found_by, found_again}
use Rattle.node_rounds.specs.Findings.{found_by_rounds}
use Rattle.ascent_search.specs.Gaps.{IsWithinGap}
use Rattle.hub_words.specs.Requests.{node_by_node, by_core_cuts, by_rounds}
use Rattle.hub_commands.specs.Methods.{Method, Course, cold, warm}

-- The answer states a certificate of the version that holds for the instance. Its hubs and routes are a plan of
-- exactly its cost. Where p hubs are wanted, the plan has exactly p. Each route is allowed, and a least one through
-- its hubs. No nonempty set of candidates of the wanted number costs less than its bound, with any routing over
-- allowed routes. Its tree has at most the allowed nodes, and at most those of a whole tree.
pub record Finds (p : Problem) (m : Method) (tells : Proof → Type 0) (k : Proof) : Type 0 where
  pub told : tells k
  pub version : k.version ≡ m.version
  pub holds : Holds p k
  pub paid : plan_cost p k.plan ≡ k.cost
  pub routes : AllZip (IsLeastRoute p k.plan.hubs) (commodities p.size) k.plan.routes
  pub below : NoPlanBelow p k.bound
  pub allowed : AreWithin m.nodes (line_count k.tree)
  pub most : line_count k.tree + 1 ≤ 2 ^ (length p.candidates + 1)

-- what the search rule of this course finds
abbrev pub found_from : Problem → Option ℕ → Course → Grown
found_from p nodes (cold node_by_node) = found_by minimal p nodes
found_from p nodes (cold by_core_cuts) = found_by core p nodes
found_from p nodes (cold by_rounds) = found_by_rounds p nodes
found_from p nodes (warm start) = found_again minimal p nodes start

-- The certificate that the search rule defines for the instance, the node limit and the course, in the version. It
-- does not depend on the number of workers.
abbrev pub rule_certificate : Problem → Method → Proof
rule_certificate p m = certificate_of p m.version (found_from p m.nodes m.course)

-- it is the rule's
abbrev pub IsByRule : Problem → Method → Proof → Type 0
IsByRule p m k = k ≡ rule_certificate p m

-- the bytes are the text of this proof with these marks, and each marked cut is Pareto-optimal by its mark
pub record SpellsMarked (p : Problem) (marks : List (Option Mark)) (text : List ℕ) (k : Proof) : Type 0 where
  pub spelled : Spells text (record { proof = k; marks = marks })
  pub as_marked : AllZip (IsAsMarked p) k.cuts marks

-- The bytes are the text of this proof, as a search on this course writes it. A search for Pareto-optimal cuts writes
-- the marks that it finds, any other none.
abbrev pub SpellsFound : Problem → Option ℕ → Course → List ℕ → Proof → Type 0
SpellsFound p nodes (cold by_core_cuts) text k = SpellsMarked p (found_by core p nodes).state.marks text k
SpellsFound p nodes course text k = SpellsUnmarked text k

abbrev pub SpellsBy : Problem → Method → List ℕ → Proof → Type 0
SpellsBy p m text k = SpellsFound p m.nodes m.course text k

-- as many nodes are allowed as a whole tree over the instance's candidates has
abbrev pub IsEnoughFor : Problem → Option ℕ → Type 0
IsEnoughFor p nodes = IsEnough (2 ^ (length p.candidates + 1)) nodes

-- its bound is its cost: no nonempty set of candidates of the wanted number costs less, with any routing over allowed
-- routes
pub record Solves (p : Problem) (m : Method) (tells : Proof → Type 0) : Type 0 where
  pub certificate : Proof
  pub by_rule : IsByRule p m certificate
  pub finds : Finds p m tells certificate
  pub no_gap : certificate.bound ≡ certificate.cost
  pub optimal : IsOptimal p certificate.plan

-- The cost is at most that of the hub sets that a search on this course begins with. One has all candidates or, where
-- p hubs are wanted, the p least. A warm start adds the hubs of the older certificate, where these are a hub set of
-- the wanted number.
abbrev pub IsAtMostBegun : Problem → Course → ℕ → Type 0
IsAtMostBegun p (cold rule) cost = IsAtMostOf p (first_hubs p) cost
IsAtMostBegun p (warm start) cost = IsAtMostBoth p start cost

-- The bound is below the cost, since the node limit does not allow two nodes more, and allows fewer than a whole tree
-- has. The cost is at most that of the hub sets that the search began with.
pub record Stops (p : Problem) (m : Method) (tells : Proof → Type 0) : Type 0 where
  pub certificate : Proof
  pub by_rule : IsByRule p m certificate
  pub finds : Finds p m tells certificate
  pub gap : certificate.bound < certificate.cost
  pub spent : IsSpent m.nodes (line_count certificate.tree)
  pub not_enough : IsEnoughFor p m.nodes → ⊥
  pub at_most : IsAtMostBegun p m.course certificate.cost

-- the text is of a certificate whose bound is its cost: no nonempty set of candidates of the wanted number costs less,
-- with any routing over allowed routes
pub record Optimizes (p : Problem) (m : Method) (text : List ℕ) : Type 0 where
  pub certificate : Proof
  pub finds : Finds p m (SpellsUnmarked text) certificate
  pub no_gap : certificate.bound ≡ certificate.cost
  pub optimal : IsOptimal p certificate.plan

-- The bound is below the cost. Either the node limit does not allow two nodes more, and allows fewer than a whole tree
-- has. Or the difference is within the allowed gap, in thousandths of a per cent of the cost. The cuts and the tree
-- prove no greater bound. The cost is at most that of all candidates as hubs or, where p hubs are wanted, of the p
-- least.
pub record Bounds (p : Problem) (m : Method) (allowed : ℕ) (text : List ℕ) : Type 0 where
  pub certificate : Proof
  pub finds : Finds p m (SpellsUnmarked text) certificate
  pub gap : certificate.bound < certificate.cost
  pub reason : (IsSpent m.nodes (line_count certificate.tree) × (IsEnoughFor p m.nodes → ⊥))
      ⊎ IsWithinGap allowed certificate.bound certificate.cost
  pub best : (more : ℕ) → Holds p (record certificate { bound = more }) → more ≤ certificate.bound
  pub at_most : IsAtMostOf p (first_hubs p) certificate.cost
