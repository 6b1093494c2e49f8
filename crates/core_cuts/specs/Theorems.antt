-- What is proved of Pareto-optimal duals that are found; each statement is the contract of the public function of its
-- name.
use Rattle.std.specs.Prelude.{◌≡◌, ◌↔◌, ℕ, ◌*◌, ◌/◌, ◌<◌, ◌≤◌, None, Some, List, All}
use Rattle.std.specs.List.{AllPairs}
use Rattle.hub_spec.specs.Limits.{most_denominator}
use Rattle.hub_spec.specs.Problem.{Problem, IsProblem}
use Rattle.hub_spec.specs.Cuts.{IsDual, IsTight}
use Rattle.hub_spec.specs.Plans.{IsHubSet}
use Rattle.hub_spec.specs.Ranges.{IsCutInRange}
use Rattle.core_spec.specs.CoreCuts.{Way, IsCoreDual, MayBeMarked, IsCoreCut}
use Rattle.core_spec.specs.MarkRanges.{IsWayBefore, IsMarkInRange}
use Rattle.core_cuts.specs.Readings.{FoundDual, IsFound, IsNotFound}
use Rattle.cut_model.specs.MarkedCuts.{MarkedCut}
use Rattle.core_cuts.specs.FoundCuts.{IsCored, IsPlain}
use Rattle.core_cuts.specs.Finding.{core_found, core_marked}

-- a commodity of an instance where cuts may be marked, and a hub set
pub record IsAsked (p : Problem) (hubs : List ℕ) (c : ℕ × ℕ) : Type 0 where
  pub problem : IsProblem p
  pub may : MayBeMarked p
  pub set : IsHubSet p hubs
  pub from : c.0 < p.size
  pub to : c.1 < p.size

-- what is found is feasible, and Pareto-optimal by its proof
abbrev pub FoundIsCore : Type 0
FoundIsCore = (p : Problem) (hubs : List ℕ) (c : ℕ × ℕ) (found : FoundDual) → IsAsked p hubs c → IsFound p hubs c found
    → IsDual p found.part c found.dual × IsCoreDual p hubs found.part c found.dual found.proof

-- no other is found
abbrev pub FoundIsOne : Type 0
FoundIsOne = (p : Problem) (hubs : List ℕ) (c : ℕ × ℕ) (found other : FoundDual) → IsAsked p hubs c
    → IsFound p hubs c found → IsFound p hubs c other → found ≡ other

-- where one is found it does not hold that nothing is
abbrev pub FoundOrNot : Type 0
FoundOrNot = (p : Problem) (hubs : List ℕ) (c : ℕ × ℕ) (found : FoundDual) → IsAsked p hubs c
    → IsFound p hubs c found → IsNotFound p hubs c → ⊥

-- what is found is what the function gives, and nothing is found exactly where it gives nothing
abbrev pub FoundIsFunction : Type 0
FoundIsFunction = (p : Problem) (hubs : List ℕ) (c : ℕ × ℕ) → IsAsked p hubs c
    → ((found : FoundDual) → IsFound p hubs c found ↔ (core_found p hubs c ≡ Some found)) × (IsNotFound p hubs c ↔ (core_found p hubs c ≡ None))

-- a way as a proof line says it: the lesser node first, and taken at least once
pub record IsLineWay (w : Way) : Type 0 where
  pub nodes : w.0 ≤ w.1
  pub some : 1 ≤ w.2

-- the ways of what is found are as a proof line says them, in its order
abbrev pub FoundInOrder : Type 0
FoundInOrder = (p : Problem) (hubs : List ℕ) (c : ℕ × ℕ) (found : FoundDual) → IsAsked p hubs c → IsFound p hubs c found
    → AllPairs IsWayBefore found.proof.ways × All IsLineWay found.proof.ways

-- an instance, and a hub set
pub record IsAskedSet (p : Problem) (hubs : List ℕ) : Type 0 where
  pub problem : IsProblem p
  pub set : IsHubSet p hubs

-- the cut that is found for a hub set is Pareto-optimal by its mark
abbrev pub CoredIsCore : Type 0
CoredIsCore = (p : Problem) (hubs : List ℕ) (x : MarkedCut) → IsAskedSet p hubs → IsCored p hubs x → IsCoreCut p x.cut x.mark

-- the cut of the hub set is what the function gives, and there is none exactly where it gives none
abbrev pub CoredIsFunction : Type 0
CoredIsFunction = (p : Problem) (hubs : List ℕ) → IsAskedSet p hubs
    → ((x : MarkedCut) → IsCored p hubs x ↔ (core_marked p hubs ≡ Some x)) × (IsPlain p hubs ↔ (core_marked p hubs ≡ None))

-- The marked cut is Pareto-optimal, and tight at the hub set. Cut and mark are within the ranges of a certificate,
-- and the part divides the denominator 1,000,000.
pub record IsServing (p : Problem) (set : List ℕ) (x : MarkedCut) : Type 0 where
  pub core : IsCoreCut p x.cut x.mark
  pub hubs : x.mark.hubs ≡ set
  pub cut_in_range : IsCutInRange p.size x.cut
  pub mark_in_range : IsMarkInRange p.size x.mark
  pub tight : IsTight p set x.cut
  pub whole : most_denominator / x.cut.part * x.cut.part ≡ most_denominator

-- so is the cut that is found for a hub set
abbrev pub CoredServes : Type 0
CoredServes = (p : Problem) (hubs : List ℕ) (x : MarkedCut) → IsAskedSet p hubs → IsCored p hubs x → IsServing p hubs x
