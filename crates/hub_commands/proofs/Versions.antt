-- The versions that words can ask for have a text for what is found.
use Rattle.std.proofs.Common.{◌≡◌, ℕ, false, List, All, ◌⊎◌, inl, inr, ⊎_elim, ◌∙◌, arith}
use Rattle.std.specs.Prelude.{is_some}
use Rattle.std.proofs.lemmas.Bool.{cases_lt, or_parts}
use Rattle.hub_spec.specs.Problem.{Problem}
use Rattle.hub_spec.proofs.SumLemmas.{by_test}
use Rattle.search_spec.proofs.Nodes.{none_there}
use Rattle.file_spec.specs.Options.{Options}
use Rattle.cut_pool.specs.Kept.{Kept, IsRemade}
use Rattle.cut_pool.specs.Findings.{IsUnlimited, AreRemade, IsVersionFor}
use Rattle.cut_pool.specs.declared.found.Found.{Found}
use Rattle.hub_words.specs.Requests as words
use Rattle.hub_words.specs.Requests.{node_by_node, by_core_cuts, by_rounds, SearchRule, follow, IsAllowed, SaysLimits}
use Rattle.hub_commands.specs.Methods.{Course, cold}
use Rattle.hub_sources.specs.Building.{KeepsLimits}
use Rattle.hub_commands.specs.Solving.{IsRemadeCourse}

unlimited_when : (o : Options) (p : Problem) → KeepsLimits o p → words.is_limited o ≡ false → IsUnlimited p
unlimited_when o p keeps e =
    let none = or_parts (is_some o.longest) (is_some o.hubs) e in
    record { any_length = keeps.longest ∙ none_there o.longest none.0; any_number = keeps.wanted (none_there o.hubs none.1) }

first_or_second : (v : ℕ) → words.IsVersion v → (v ≡ 1) ⊎ (v ≡ 2)
first_or_second v asked = elim (cases_lt v 2) [
  | inl below ↦ inl (omega (arith, below, asked.0))
  | inr above ↦ inr (omega (arith, above, asked.1))
]

-- each, where the instance is unlimited and no cut was given
either_version : (p : Problem) (cuts : List Kept) (v : ℕ) → IsUnlimited p → All IsRemade cuts → words.IsVersion v → IsVersionFor p cuts v
either_version p cuts v unlimited own asked = ⊎_elim (λ one. inl (one, unlimited, own)) (λ two. inr two) (first_or_second v asked)

-- and any that a request may have, since only the second states limits
pub said_version : (o : Options) (v : ℕ) (p : Problem) (cuts : List Kept) → KeepsLimits o p → All IsRemade cuts → words.IsVersion v
    → SaysLimits o v → IsVersionFor p cuts v
said_version o v p cuts keeps own asked says =
    by_test (words.is_limited o) (λ limited. inr (says limited)) (λ not. either_version p cuts v (unlimited_when o p keeps not) own asked)

-- the version of a search on this course: the third with Pareto-optimal cuts, else one that has a text for each
-- finding with these cuts
abbrev pub IsVersionBy : Problem → List Kept → Course → ℕ → Type 0
IsVersionBy p cuts (cold by_core_cuts) version = version ≡ 3
IsVersionBy p cuts course version = IsVersionFor p cuts version

-- so is the version in which words ask to solve by a rule
pub rule_version : (o : Options) (v : ℕ) (rule : SearchRule) (p : Problem) (found : Found) → KeepsLimits o p
    → (IsRemadeCourse (cold rule) → AreRemade found) → IsAllowed (follow rule) o v → SaysLimits o v
    → IsVersionBy p found.cuts.cuts (cold rule) v
rule_version o v node_by_node p found keeps remade asked says = said_version o v p found.cuts.cuts keeps (remade tt) asked says
rule_version o v by_core_cuts p found keeps remade asked says = asked.third
rule_version o v by_rounds p found keeps remade asked says = said_version o v p found.cuts.cuts keeps (remade tt) asked.1 says
