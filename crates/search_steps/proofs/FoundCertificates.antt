-- What is found shows its answer, with its certificate.
use Rattle.std.proofs.Common.{◌≡◌, ℕ, ◌+◌, ◌^◌, ◌<◌, ◌≤◌, List, length, All, Option, IsSome, IsNone, refl, ap, sym, subst, ◌∙◌, length-append, arith}
use Rattle.std.proofs.lemmas.List.{length-map}
use Rattle.hub_spec.specs.Limits.{most_cuts}
use Rattle.hub_spec.specs.Problem.{Problem, IsProblem}
use Rattle.hub_spec.specs.Plans.{IsHubSet, plan_cost, NoPlanBelow}
use Rattle.hub_spec.specs.Cuts.{Cut}
use Rattle.hub_spec.specs.Trees.{Tree, branch, leaf, empty, block, count, TreeLine, preorder, line_count}
use Rattle.hub_spec.specs.Ranges.{IsFirstLine}
use Rattle.hub_spec.proofs.SumLemmas.{by_test}
use Rattle.hub_model.specs.Lines.{tree_line_of}
use Rattle.search_spec.specs.States.{State, Grown, is_stopped, answer}
use Rattle.search_spec.specs.Laws.{IsStart}
use Rattle.search_spec.specs.Choices.{begun_for}
use Rattle.search_spec.specs.Findings.{IsProof, AreWithin, IsSpent, IsEnough, IsCounted, IsCertificateOf, certificate_of}
use Rattle.search_spec.proofs.WholeSearches.{begun_by}
use Rattle.search_spec.proofs.FoundProofs.{certificate_holds_lem, certificate_in_range_lem, answer_bounds_lem}
use Rattle.search_spec.proofs.LeastRoutes.{certificate_is_one_lem}
use Rattle.search_steps.specs.Advising.{parts_of}
use Rattle.search_steps.proofs.RuleChoices.{parts_sound}
use Rattle.search_steps.specs.Kinds.{CutKind, parts_for}
use Rattle.search_steps.proofs.KindCuts.{kind_is_sound}
use Rattle.cut_pool.specs.Findings.{proof_of, IsUnlimited, IsProved}
use Rattle.cut_pool.specs.declared.found.Found.{Found}
use Rattle.cut_pool.proofs.Versions.{has_text}
use Rattle.search_steps.specs.Findings.{IsFound}

-- the state that a search begins with
abbrev pub start_of : Problem → State
start_of p = begun_for p (parts_of p) p.wanted

-- the problem can be searched: all candidates together are feasible for each commodity
pub record IsSearchable (p : Problem) : Type 0 where
  pub problem : IsProblem p
  pub lacks_none : IsHubSet p p.candidates

pub start_is : (p : Problem) → IsSearchable p → IsStart p (start_of p)
start_is p ok = begun_by p (parts_of p) p.wanted ok.problem ok.lacks_none (parts_sound p ok.problem) refl

-- the state that a search by cuts of this kind begins with
abbrev pub start_for : CutKind → Problem → State
start_for kind p = begun_for p (parts_for kind p) p.wanted

pub start_for_is : (kind : CutKind) (p : Problem) → IsSearchable p → IsStart p (start_for kind p)
start_for_is kind p ok = begun_by p (parts_for kind p) p.wanted ok.problem ok.lacks_none (kind_is_sound kind p ok.problem) refl

-- ---- the result of a search

-- what is known of it: it proves its answer, its nodes are counted, and it stops only for want of nodes. Where the
-- problem is unlimited, its tree has only lines that the first version spells
pub record IsSearched (p : Problem) (n : Option ℕ) (g : Grown) : Type 0 where
  pub problem : IsProblem p
  pub proof : IsProof p g
  pub counted : IsCounted p n g
  pub spent : IsSome g.state.stop → IsSpent n g.state.made
  pub whole : IsNone g.state.stop → answer g.state ≡ g.state.cost
  pub enough : IsEnough (2 ^ (length p.candidates + 1)) n → IsNone g.state.stop
  pub first : IsUnlimited p → All IsFirstLine (preorder g.tree)

-- with its tree the finding is a certificate of what was found, in each version
pub found_certificate : (p : Problem) (v : ℕ) (g : Grown) (found : Found) → IsFound p g found → IsCertificateOf p v g (proof_of v p found g.tree)
found_certificate p v g found is = record {
  version = λ i. v;
  size = λ i. p.size;
  candidates = λ i. length p.candidates;
  cost = is.cost;
  bound = is.bound;
  hubs = is.hubs;
  routes = is.routes;
  cuts = is.cuts;
  tree = λ i. g.tree;
}

-- ---- what follows for the finding

found_is_proved : (p : Problem) (n : Option ℕ) (g : Grown) (found : Found) → IsSearched p n g → IsFound p g found → IsProved p found
found_is_proved p n g found s is = record {
  fit = is.kept.fit;
  tree = g.tree;
  lines = is.lines;
  in_range = λ v there. certificate_in_range_lem p v g (proof_of v p found g.tree) s.problem s.proof (found_certificate p v g found is)
      (has_text p found g.tree v s.problem is.kept.fit s.first there)
      (subst (λ (cs : List Cut). length cs ≤ most_cuts) (sym is.cuts) is.few_cuts) is.few_lines;
  holds = λ v. certificate_holds_lem p v g (proof_of v p found g.tree) s.problem s.proof (found_certificate p v g found is);
}

found_certificate_is : (p : Problem) (n : Option ℕ) (g : Grown) (found : Found) → IsSearched p n g → IsFound p g found
    → (v : ℕ) → proof_of v p found g.tree ≡ certificate_of p v g
found_certificate_is p n g found s is v =
    (certificate_is_one_lem p v g (proof_of v p found g.tree) s.proof).0 (found_certificate p v g found is)

found_paid : (p : Problem) (n : Option ℕ) (g : Grown) (found : Found) → IsSearched p n g → IsFound p g found → found.cost ≡ plan_cost p found.plan
found_paid p n g found s is =
    let holds = certificate_holds_lem p 1 g (proof_of 1 p found g.tree) s.problem s.proof (found_certificate p 1 g found is) in
    holds.cost

found_below : (p : Problem) (n : Option ℕ) (g : Grown) (found : Found) → IsSearched p n g → IsFound p g found → NoPlanBelow p found.bound
found_below p n g found s is = subst (NoPlanBelow p) (sym is.bound) (answer_bounds_lem p g s.problem s.proof)

found_within : (p : Problem) (n : Option ℕ) (g : Grown) (found : Found) → IsSearched p n g → IsFound p g found → found.bound ≤ found.cost
found_within p n g found s is = let low = s.proof.within_cost in omega (arith, is.bound, is.cost, low)

length-preorder : (t : Tree) → length (preorder t) ≡ line_count t
length-preorder (branch k a b) = omega (arith, length-append (preorder a) (preorder b), length-preorder a, length-preorder b)
length-preorder (leaf denom weights) = refl
length-preorder empty = refl
length-preorder (block commodity) = refl
length-preorder count = refl

-- as many lines as nodes were made
lines_made : (p : Problem) (n : Option ℕ) (g : Grown) (found : Found) → IsSearched p n g → IsFound p g found → g.state.made ≡ length found.tree.items
lines_made p n g found s is =
    sym (sym (length-map found.tree.items tree_line_of) ∙ ap (λ (ls : List TreeLine). length ls) is.lines ∙ length-preorder g.tree
    ∙ s.counted.lines)

pub few_lines_of : (tree : Tree) (lines : List TreeLine) (most : ℕ) → lines ≡ preorder tree → length lines ≤ most → line_count tree ≤ most
few_lines_of tree lines most are few = omega (arith, sym (ap (λ (ls : List TreeLine). length ls) are ∙ length-preorder tree), few)

found_most : (p : Problem) (n : Option ℕ) (g : Grown) (found : Found) → IsSearched p n g → IsFound p g found
    → length found.tree.items + 1 ≤ 2 ^ (length p.candidates + 1)
found_most p n g found s is = omega (arith, lines_made p n g found s is, s.counted.most)

found_allowed : (p : Problem) (n : Option ℕ) (g : Grown) (found : Found) → IsSearched p n g → IsFound p g found
    → AreWithin n (length found.tree.items)
found_allowed p n g found s is = subst (AreWithin n) (lines_made p n g found s is) s.counted.allowed

found_spent : (p : Problem) (n : Option ℕ) (g : Grown) (found : Found) → IsSearched p n g → IsFound p g found
    → found.bound < found.cost → IsSpent n (length found.tree.items)
found_spent p n g found s is less =
    let below : answer g.state < g.state.cost = omega (arith, less, is.bound, is.cost) in
    subst (IsSpent n) (lines_made p n g found s is)
    (by_test (is_stopped g.state) (λ stopped. s.spent stopped) (λ going. absurd (omega (arith, below, s.whole going))))

found_enough_is : (p : Problem) (n : Option ℕ) (g : Grown) (found : Found) → IsSearched p n g → IsFound p g found
    → IsEnough (2 ^ (length p.candidates + 1)) n → found.bound ≡ found.cost
found_enough_is p n g found s is enough = is.bound ∙ s.whole (s.enough enough) ∙ sym is.cost

-- all that is known of a finding
pub record IsToldOf (p : Problem) (n : Option ℕ) (g : Grown) (found : Found) : Type 0 where
  pub certificate : (v : ℕ) → proof_of v p found g.tree ≡ certificate_of p v g
  pub proved : IsProved p found
  pub paid : found.cost ≡ plan_cost p found.plan
  pub below : NoPlanBelow p found.bound
  pub within : found.bound ≤ found.cost
  pub most : length found.tree.items + 1 ≤ 2 ^ (length p.candidates + 1)
  pub allowed : AreWithin n (length found.tree.items)
  pub spent : found.bound < found.cost → IsSpent n (length found.tree.items)
  pub enough : IsEnough (2 ^ (length p.candidates + 1)) n → found.bound ≡ found.cost

pub told_of : (p : Problem) (n : Option ℕ) (g : Grown) (found : Found) → IsSearched p n g → IsFound p g found → IsToldOf p n g found
told_of p n g found s is = record {
  certificate = found_certificate_is p n g found s is;
  proved = found_is_proved p n g found s is;
  paid = found_paid p n g found s is;
  below = found_below p n g found s is;
  within = found_within p n g found s is;
  most = found_most p n g found s is;
  allowed = found_allowed p n g found s is;
  spent = found_spent p n g found s is;
  enough = found_enough_is p n g found s is;
}
