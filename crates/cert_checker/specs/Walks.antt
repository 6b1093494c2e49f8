-- A certificate that is held, line by line, with what is known of its duals.
use Rattle.std.specs.Prelude.{◌≡◌, ℕ, ◌+◌, ◌*◌, ◌<◌, ◌≤◌, List, ◌∷◌, [], length, slice_index_or}
use Rattle.hub_spec.specs.Limits.{most_denominator}
use Rattle.hub_spec.specs.Trees.{TreeLine, leaf_of}
use Rattle.hub_spec.specs.Problem.{Problem, commodity_at}
use Rattle.hub_spec.specs.Cuts.{Prices, Cut, IsDual}
use Rattle.cert_spec.specs.Lines.{Item, part_of, says_version, says_size, says_cost, says_bound}
use Rattle.cert_spec.specs.Text.{part_said}
use Rattle.cert_checker.specs.Runs.{no_dual}

-- the first lines
abbrev pub head_items : (version size candidates cost bound : ℕ) → List Item
head_items version size candidates cost bound =
    says_version version ∷ says_size size candidates ∷ says_cost cost ∷ says_bound bound ∷ []

-- the line of the cut says its part
abbrev pub SaysPart : ℕ → Cut → Type 0
SaysPart version cut = part_of (part_said version cut.part) ≡ cut.part

-- the denominator of a leaf is small
abbrev pub HasSmallDenominator : TreeLine → Type 0
HasSmallDenominator (leaf_of denom weights) = denom ≤ most_denominator
HasSmallDenominator other = Unit {0}

-- each of the cut's duals of commodities between n nodes is feasible with this part
pub record IsKnownCut (n : ℕ) (p : Problem) (cut : Cut) (part : ℕ) : Type 0 where
  pub each : (t : ℕ) → t < length cut.duals → IsDual p part (commodity_at n t) (slice_index_or cut.duals t no_dual)

-- each of these duals of the commodities from i is feasible with this part
abbrev pub IsKnownRow : Problem → ℕ → List Prices → ℕ → Type 0
IsKnownRow p i row part = (j : ℕ) → j < length row → IsDual p part (i, j) (slice_index_or row j no_dual)
