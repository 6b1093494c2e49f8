-- The cut of a hub set by the duals that are found for the commodities, brought to one part.
use Rattle.std.specs.Prelude.{◌≡◌, ℕ, ◌*◌, ◌/◌, ◌≤◌, ◌⊎◌, List, map, All, Contains}
use Rattle.std.specs.List.{AllZip}
use Rattle.std.specs.Int.{◌∣◌}
use Rattle.hub_spec.specs.Limits.{most_part, most_denominator}
use Rattle.hub_spec.specs.Problem.{Problem, flow, commodities}
use Rattle.hub_spec.specs.Cuts.{Prices, Cut, IsWithinSums}
use Rattle.core_spec.specs.CoreCuts.{CoreProof, Mark, MayBeMarked}
use Rattle.cut_model.specs.MarkedCuts.{MarkedCut}
use Rattle.core_cuts.specs.Readings.{most_units, FoundDual, IsFound, IsNotFound}

-- every part divides the number; and it is the least that they all divide
pub record IsCommonPart (parts : List ℕ) (e : ℕ) : Type 0 where
  pub some : 1 ≤ e
  pub divides : All (λ x. x ∣ e) parts

pub record IsLeastCommonPart (parts : List ℕ) (e : ℕ) : Type 0 where
  pub common : IsCommonPart parts e
  pub least : (other : ℕ) → IsCommonPart parts other → e ≤ other

abbrev pub parts_of : List FoundDual → List ℕ
parts_of founds = map (λ f. f.part) founds

abbrev pub proofs_of : List FoundDual → List CoreProof
proofs_of founds = map (λ f. f.proof) founds

-- price and values so many times as great
abbrev pub times_values : ℕ → List (ℕ × ℕ) → List (ℕ × ℕ)
times_values n u = map (λ x. (x.0, n * x.1)) u

abbrev pub times_dual : ℕ → Prices → Prices
times_dual n d = record { a = n * d.a; u = times_values n d.u }

-- the dual that is found, brought to the part
abbrev pub brought : ℕ → FoundDual → Prices
brought e found = times_dual (e / found.part) found.dual

-- all of them, as a cut
abbrev pub brought_cut : ℕ → List FoundDual → Cut
brought_cut e founds = record { part = e; duals = map (brought e) founds }

-- the duals that are found for the commodities in order, brought to the least part that they have in common; the mark has the
-- hubs, and their proofs
pub record IsCutOf (p : Problem) (hubs : List ℕ) (cut : Cut) (mark : Mark) : Type 0 where
  pub founds : List FoundDual
  pub each : AllZip (IsFound p hubs) (commodities p.size) founds
  pub part : IsLeastCommonPart (parts_of founds) cut.part
  pub duals : cut.duals ≡ map (brought cut.part) founds
  pub of_hubs : mark.hubs ≡ hubs
  pub proofs : mark.proofs ≡ proofs_of founds

-- price and values of the commodity are at most 10^20 times its flow
pub record IsFitDual (p : Problem) (c : ℕ × ℕ) (dual : Prices) : Type 0 where
  pub price : dual.a ≤ most_units * flow p c.0 c.1
  pub values : All (λ (e : ℕ × ℕ). e.1 ≤ most_units * flow p c.0 c.1) dual.u

-- the cut is within the limits of a certificate, where its part divides the denominator 1,000,000
pub record IsFitCut (p : Problem) (cut : Cut) : Type 0 where
  pub part_most : cut.part ≤ most_part
  pub part_divides : cut.part ∣ most_denominator
  pub duals : AllZip (IsFitDual p) (commodities p.size) cut.duals
  pub sums : IsWithinSums p cut

-- the cut of the hub set, where cuts may be marked and it is fit
pub record IsCored (p : Problem) (hubs : List ℕ) (x : MarkedCut) : Type 0 where
  pub may : MayBeMarked p
  pub is_cut_of : IsCutOf p hubs x.cut x.mark
  pub fit : IsFitCut p x.cut

-- there is no such cut: cuts may not be marked, or for some commodity no dual is found, or the cut of the hub set is not fit
abbrev pub IsPlain : Problem → List ℕ → Type 0
IsPlain p hubs =
    (MayBeMarked p → ⊥)
    ⊎ (((c : ℕ × ℕ) × Contains (commodities p.size) c × IsNotFound p hubs c)
    ⊎ ((cut : Cut) × (mark : Mark) × IsCutOf p hubs cut mark × (IsFitCut p cut → ⊥)))
