-- The prefix of the line of a dual or of a proof, up to its list, where the bytes at hand have all of this prefix.
use Rattle.std.specs.Prelude.{◌≡◌, ℕ, ◌+◌, ◌^◌, ◌<◌, ◌≤◌, ◌⊎◌, false, List, codes, take, slice_index}
use Rattle.core_spec.specs.MarkRanges.{most_turns, most_scale}
use Rattle.cert_scan.specs.Runs.{GoesOn}
use Rattle.cert_scan.specs.Ahead.{IsNumberAt}
use Rattle.cert_scan.specs.declared.items.Version.TheVariants.{First}
use Rattle.cert_scan.specs.declared.stages.Commodity.{Commodity}
use Rattle.cert_scan.specs.declared.stages.Shape.{Shape}
use Rattle.cert_scan.specs.declared.fronts.DualFront.{DualFront}
use Rattle.cert_scan.specs.declared.fronts.ProofFront.{ProofFront}

-- the nodes of a commodity at this place, counted from 1, with a space behind each
pub record AreNodesAt (bytes : List ℕ) (at : ℕ) (c : Commodity) (behind : ℕ) : Type 0 where
  pub between : ℕ
  pub from : IsNumberAt bytes at (c.from + 1) false between
  pub to : IsNumberAt bytes between (c.to + 1) false behind

-- a dual of this commodity, up to the space behind its price
pub record IsDualAhead (c : Commodity) (bytes : List ℕ) (front : DualFront) : Type 0 where
  pub word : GoesOn (codes "dual") 0 (take 4 bytes)
  pub space : slice_index bytes 4 ≡ 32
  pub at : ℕ
  pub nodes : AreNodesAt bytes 5 c at
  pub alone : front.length ≡ 1
  pub price : IsNumberAt bytes at front.price false front.count
  pub low : front.price < 2 ^ 64

-- a run of duals between n nodes, of which the first is of this commodity, up to the space behind their price
pub record AreDualsAhead (n : ℕ) (c : Commodity) (bytes : List ℕ) (front : DualFront) : Type 0 where
  pub word : GoesOn (codes "dual") 0 (take 4 bytes)
  pub letter : slice_index bytes 4 ≡ 115
  pub space : slice_index bytes 5 ≡ 32
  pub at : ℕ
  pub nodes : AreNodesAt bytes 6 c at
  pub behind : ℕ
  pub run : IsNumberAt bytes at front.length false behind
  pub several : 2 ≤ front.length
  pub within : c.to + front.length ≤ n
  pub price : IsNumberAt bytes behind front.price false front.count
  pub low : front.price < 2 ^ 64

-- a dual of a plain cut, or a run of them, which the later versions have
abbrev pub IsPlainAhead : Shape → Commodity → List ℕ → DualFront → Type 0
IsPlainAhead s c bytes front = IsDualAhead c bytes front ⊎ ((s.version ≡ First → ⊥) × AreDualsAhead s.n c bytes front)

-- a proof, up to the space behind its scale
pub record IsProofAhead (bytes : List ℕ) (front : ProofFront) : Type 0 where
  pub word : GoesOn (codes "proof") 0 (take 5 bytes)
  pub space : slice_index bytes 5 ≡ 32
  pub at : ℕ
  pub turns : IsNumberAt bytes 6 front.turns false at
  pub few : front.turns ≤ most_turns
  pub scale : IsNumberAt bytes at front.scale false front.count
  pub some : 1 ≤ front.scale
  pub most : front.scale ≤ most_scale
