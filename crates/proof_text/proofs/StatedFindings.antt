-- What the certificate of a finding states: it holds with its marks, and is in range.
use Rattle.std.proofs.Common.{◌≡◌, ◌≢◌, ℕ, List, map, Option, None, inl, inr, refl, sym, subst, ap, ◌∙◌}
use Rattle.std.specs.Prelude.{◌⊎◌}
use Rattle.std.specs.List.{All}
use Rattle.std.proofs.lemmas.Bool.{cases_eq}
use Rattle.std.proofs.lemmas.List.{length-map}
use Rattle.std.proofs.lemmas.List.Elements.{All-map}
use Rattle.hub_spec.specs.Problem.{Problem}
use Rattle.hub_spec.specs.Trees.{Tree, preorder}
use Rattle.hub_spec.specs.Certificates.{Holds}
use Rattle.hub_spec.specs.Ranges.{IsVersionOf, IsInRange}
use Rattle.core_spec.specs.CoreCuts.{Mark}
use Rattle.cert_spec.specs.Stated.{unmarked, as_second, IsThird, IsStatedInRange, IsStatedOf}
use Rattle.cert_format.specs.Growing.{tree_of}
use Rattle.cert_format.specs.Codes.{tree_of-preorder}
use Rattle.cut_pool.specs.Kept.{Kept, kept_cut, kept_mark}
use Rattle.cut_pool.specs.Findings.{lines_of, proof_of, IsVersionFor, IsProved}
use Rattle.cut_pool.specs.declared.found.Found.{Found}
use Rattle.proof_text.specs.Certificates.{mark_said, stated_by, CanBeStated, HasVersion}
use Rattle.proof_text.proofs.SaidMarks.{all_in_range, all_as_marked, other_says_none, none_says_none, none_said}

-- two trees of the found lines are one
same_tree : (found : Found) (t u : Tree) → lines_of found.tree.items ≡ preorder t → lines_of found.tree.items ≡ preorder u → t ≡ u
same_tree found t u of_t of_u = sym (tree_of-preorder t) ∙ ap tree_of (sym of_t ∙ of_u) ∙ tree_of-preorder u

-- what is proved can be stated
pub proved_stated : (p : Problem) (found : Found) → IsProved p found → CanBeStated p found
proved_stated p found h = record { fit = h.fit; tree = h.tree; lines = h.lines; in_range = h.in_range 2 (inr refl) }

pub proved_version : (v : ℕ) (p : Problem) (found : Found) → IsProved p found → IsVersionFor p found.cuts.cuts (as_second v) → HasVersion v p found
proved_version v p found h there = λ tree is.
    subst (λ (t : Tree). IsVersionOf (proof_of (as_second v) p found t)) (same_tree found h.tree tree h.lines is) (h.in_range (as_second v) there).version

-- ---- it is in range

-- only the third version says marks
third_or_none : (v : ℕ) (kept : List Kept) → IsThird v ⊎ All (λ (mark : Option Mark). mark ≡ None) (map (mark_said v) kept)
third_or_none v kept = elim (cases_eq v 3) [
  | inl third ↦ inl third
  | inr other ↦ inr (All-map (λ (mark : Option Mark). mark ≡ None) (mark_said v) kept (other_says_none v kept other))
]

-- the ranges of the second version, in a version that has a text for the certificate
in_version : (v : ℕ) (p : Problem) (found : Found) (tree : Tree) → IsInRange (proof_of 2 p found tree) → IsVersionOf (proof_of v p found tree)
    → IsInRange (proof_of v p found tree)
in_version v p found tree r version = record {
  version = version;
  some_node = r.some_node;
  size = r.size;
  some_candidate = r.some_candidate;
  candidates = r.candidates;
  cost = r.cost;
  bound = r.bound;
  some_hub = r.some_hub;
  hubs_ascend = r.hubs_ascend;
  hubs = r.hubs;
  one_route_each = r.one_route_each;
  routes = r.routes;
  cut_count = r.cut_count;
  cuts = r.cuts;
  line_count = r.line_count;
  tree = r.tree;
}

pub stated_in_range : (v : ℕ) (p : Problem) (found : Found) (tree : Tree) → CanBeStated p found → lines_of found.tree.items ≡ preorder tree
    → IsVersionOf (proof_of (as_second v) p found tree) → IsStatedInRange (stated_by v p found tree)
stated_in_range v p found tree h is version = record {
  proof = in_version (as_second v) p found tree
      (subst (λ (t : Tree). IsInRange (proof_of 2 p found t)) (same_tree found h.tree tree h.lines is) h.in_range) version;
  one_for_each = length-map found.cuts.cuts (mark_said v) ∙ sym (length-map found.cuts.cuts (kept_cut p));
  marks = all_in_range p v found.cuts.cuts h.fit;
  version = third_or_none v found.cuts.cuts;
}

pub proved_in_range : (v : ℕ) (p : Problem) (found : Found) (tree : Tree) → IsProved p found → lines_of found.tree.items ≡ preorder tree
    → IsVersionFor p found.cuts.cuts (as_second v) → IsStatedInRange (stated_by v p found tree)
proved_in_range v p found tree h is there =
    stated_in_range v p found tree (proved_stated p found h) is (proved_version v p found h there tree is)

-- ---- it holds

pub stated_is_of : (v : ℕ) (p : Problem) (found : Found) (tree : Tree) → IsProved p found → lines_of found.tree.items ≡ preorder tree
    → IsStatedOf p (stated_by v p found tree)
stated_is_of v p found tree h is = record {
  holds = subst (λ (t : Tree). Holds p (proof_of v p found t)) (same_tree found h.tree tree h.lines is) (h.holds v);
  marks = all_as_marked p v found.cuts.cuts h.fit;
}

-- ---- without marks

pub stated_unmarked : (v : ℕ) (p : Problem) (found : Found) (tree : Tree) → (v ≢ 3) ⊎ All (λ kept. kept_mark kept ≡ None) found.cuts.cuts
    → stated_by v p found tree ≡ unmarked (proof_of v p found tree)
stated_unmarked v p found tree none =
    let kept = found.cuts.cuts in
    let silent : All (λ k. mark_said v k ≡ None) kept = elim none [
      | inl other ↦ other_says_none v kept other
      | inr bare ↦ none_says_none v kept bare
    ] in
    ap (λ (marks : List (Option Mark)). record { proof = proof_of v p found tree; marks = marks }) (none_said p v kept silent)
