-- The verdict on a text that a search made, and that it has one.
use Rattle.std.proofs.Common.{◌≡◌, ℕ, ◌<◌, ◌≤◌, List, length, Option, sym, ap, ◌∙◌, inl, inr, refl}
use Rattle.hub_spec.specs.Problem.{Problem, IsProblem}
use Rattle.hub_spec.specs.Certificates.{Proof, Holds}
use Rattle.hub_spec.proofs.SameNetworks.{one_closed_cost}
use Rattle.cert_spec.specs.Stated.{Stated, unmarked, IsStatedOf}
use Rattle.cert_spec.specs.Text.{Spells, SpellsUnmarked, certificate_text}
use Rattle.cert_spec.specs.Verdicts.{Verdict, optimal, bounds, Why, certificate_limit}
use Rattle.cert_spec.proofs.OneText.{one_certificate_lem}
use Rattle.cert_spec.proofs.TextOrFault.{each_is_text_or_fault_lem}
use Rattle.cert_spec.proofs.Unmarked.{unmarked_holds}
use Rattle.cert_spec.proofs.VerdictLemmas.{one_verdict_from}
use Rattle.search_steps.specs.Kinds.{core}
use Rattle.branch_tree.specs.Findings.{found_by}
use Rattle.hub_words.specs.Requests.{How, follow, again, freely, node_by_node, by_core_cuts, by_rounds, Search}
use Rattle.hub_io.specs.Outside.{Files}
use Rattle.hub_commands.specs.Methods.{Course, cold, warm, Method, method_of, free_method}
use Rattle.hub_commands.specs.Searches.{SpellsFound, SpellsBy, rule_certificate}
use Rattle.hub_commands.specs.Searches.{Finds, Solves, Stops, Optimizes, Bounds}
use Rattle.hub_commands.specs.Instances.{SolvesBy, StopsBy}
use Rattle.search_spec.specs.Again.{start_of}
use Rattle.hub_top.specs.Theorems.{IsOneVerdict, Ends, solved_cost}

-- the verdict on any bytes is the only one
pub only_verdict : (p : Problem) (bytes : List ℕ) (v w : Verdict) → Why p bytes v → Why p bytes w → w ≡ v
only_verdict p bytes v w why also =
    let one = one_verdict_from one_certificate_lem each_is_text_or_fault_lem p bytes in
    one.2 w also ∙ sym (one.2 v why)

-- ---- what a text states

-- what the text of a search on this course states of the proof: with Pareto-optimal cuts the marks of what is found,
-- else none
abbrev pub stated_so : Problem → Option ℕ → Course → Proof → Stated
stated_so p nodes (cold by_core_cuts) k = record { proof = k; marks = (found_by core p nodes).state.marks }
stated_so p nodes course k = unmarked k

-- the text states this, which holds, with the proof's bound and cost
pub record IsText (p : Problem) (text : List ℕ) (k : Proof) (s : Stated) : Type 0 where
  pub spelled : Spells text s
  pub holds : IsStatedOf p s
  pub bound : s.proof.bound ≡ k.bound
  pub cost : s.proof.cost ≡ k.cost

unmarked_text : (p : Problem) (text : List ℕ) (k : Proof) → Holds p k → SpellsUnmarked text k → IsText p text k (unmarked k)
unmarked_text p text k holds told = record { spelled = told; holds = unmarked_holds p k holds; bound = refl; cost = refl }

found_is_text : (p : Problem) (nodes : Option ℕ) (course : Course) (text : List ℕ) (k : Proof) → Holds p k
    → SpellsFound p nodes course text k → IsText p text k (stated_so p nodes course k)
found_is_text p nodes (cold node_by_node) text k holds told = unmarked_text p text k holds told
found_is_text p nodes (cold by_core_cuts) text k holds told =
    record { spelled = told.spelled; holds = record { holds = holds; marks = told.as_marked }; bound = refl; cost = refl }
found_is_text p nodes (warm start) text k holds told = unmarked_text p text k holds told
found_is_text p nodes (cold by_rounds) text k holds told = unmarked_text p text k holds told

rule_is_text : (p : Problem) (m : Method) (text : List ℕ) (k : Proof) → Finds p m (SpellsBy p m text) k
    → IsText p text k (stated_so p m.nodes m.course k)
rule_is_text p m text k finds = found_is_text p m.nodes m.course text k finds.holds finds.told

-- ---- the verdict on it

-- where the bound is the cost
closed_verdict : (p : Problem) (text : List ℕ) (k : Proof) (s : Stated) → IsText p text k s → k.bound ≡ k.cost
    → length text ≤ certificate_limit → IsOneVerdict p text (optimal k.cost)
closed_verdict p text k s is no_gap short =
    let why : Why p text (optimal k.cost) = record {
      not_too_long = short;
      certificate = (s, is.spelled, is.holds, is.bound ∙ no_gap, is.cost);
    } in (why, λ other also. only_verdict p text (optimal k.cost) other why also)

pub solved_verdict : (p : Problem) (m : Method) (text : List ℕ) (h : Solves p m (SpellsBy p m text)) → length text ≤ certificate_limit
    → IsOneVerdict p text (optimal h.certificate.cost)
solved_verdict p m text h short =
    let k = h.certificate in closed_verdict p text k (stated_so p m.nodes m.course k) (rule_is_text p m text k h.finds) h.no_gap short

pub optimized_verdict : (p : Problem) (m : Method) (text : List ℕ) (h : Optimizes p m text) → length text ≤ certificate_limit
    → IsOneVerdict p text (optimal h.certificate.cost)
optimized_verdict p m text h short =
    let k = h.certificate in closed_verdict p text k (unmarked k) (unmarked_text p text k h.finds.holds h.finds.told) h.no_gap short

-- so of a text that solves an instance, by any kind of search
pub solving_why : (held : Option Files) (p : Problem) (how : How) (q : Search) (text : List ℕ) → SolvesBy held p how q text
    → length text ≤ certificate_limit → (cost : ℕ) × Why p text (optimal cost)
solving_why held p (follow rule) q text h short = (h.certificate.cost, (solved_verdict p (method_of q (cold rule)) text h short).0)
solving_why held p (again older) q text h short =
    (h.is.certificate.cost, (solved_verdict p (method_of q (warm (start_of h.older.proof))) text h.is short).0)
solving_why held p (freely gap from) q text h short = (h.0.certificate.cost, (optimized_verdict p (free_method q) text h.0 short).0)

-- where the bound is below the cost
gap_verdict : (p : Problem) (text : List ℕ) (k : Proof) (s : Stated) → IsText p text k s → k.bound < k.cost
    → length text ≤ certificate_limit → IsOneVerdict p text (bounds k.bound k.cost)
gap_verdict p text k s is gap short =
    let v = bounds k.bound k.cost in
    let why : Why p text v = (gap, record { not_too_long = short; certificate = (s, is.spelled, is.holds, is.bound, is.cost) }) in
    (why, λ other also. only_verdict p text v other why also)

pub stopped_verdict : (p : Problem) (m : Method) (text : List ℕ) (h : Stops p m (SpellsBy p m text)) → length text ≤ certificate_limit
    → IsOneVerdict p text (bounds h.certificate.bound h.certificate.cost)
stopped_verdict p m text h short =
    let k = h.certificate in gap_verdict p text k (stated_so p m.nodes m.course k) (rule_is_text p m text k h.finds) h.gap short

pub bounded_verdict : (p : Problem) (m : Method) (gap : ℕ) (text : List ℕ) (h : Bounds p m gap text) → length text ≤ certificate_limit
    → IsOneVerdict p text (bounds h.certificate.bound h.certificate.cost)
bounded_verdict p m gap text h short =
    let k = h.certificate in gap_verdict p text k (unmarked k) (unmarked_text p text k h.finds.holds h.finds.told) h.gap short

-- so of a text of a search that stopped, of any kind
pub stopping_why : (held : Option Files) (p : Problem) (how : How) (q : Search) (text : List ℕ) → StopsBy held p how q text
    → length text ≤ certificate_limit → (bound : ℕ) × (cost : ℕ) × Why p text (bounds bound cost)
stopping_why held p (follow rule) q text h short =
    (h.certificate.bound, h.certificate.cost, (stopped_verdict p (method_of q (cold rule)) text h short).0)
stopping_why held p (again older) q text h short =
    (h.is.certificate.bound, h.is.certificate.cost, (stopped_verdict p (method_of q (warm (start_of h.older.proof))) text h.is short).0)
stopping_why held p (freely gap from) q text h short =
    (h.0.certificate.bound, h.0.certificate.cost, (bounded_verdict p (free_method q) gap text h.0 short).0)

-- ---- one text, and one cost

-- the text is that of what is stated of the rule's certificate
found_text_is : (p : Problem) (m : Method) (text : List ℕ) (k : Proof) → Finds p m (SpellsBy p m text) k → k ≡ rule_certificate p m
    → text ≡ certificate_text (stated_so p m.nodes m.course (rule_certificate p m))
found_text_is p m text k finds by_rule =
    (rule_is_text p m text k finds).spelled.text ∙ ap (λ x. certificate_text (stated_so p m.nodes m.course x)) by_rule

rule_text : (p : Problem) (m : Method) (text : List ℕ) → Ends p m text → text ≡ certificate_text (stated_so p m.nodes m.course (rule_certificate p m))
rule_text p m text (inl h) = found_text_is p m text h.certificate h.finds h.by_rule
rule_text p m text (inr h) = found_text_is p m text h.certificate h.finds h.by_rule

pub one_text_of : (p : Problem) (m : Method) (text other : List ℕ) → Ends p m text → Ends p m other → other ≡ text
one_text_of p m text other h k = rule_text p m other k ∙ sym (rule_text p m text h)

-- a certificate that holds, whose bound is its cost
record IsClosedAt (p : Problem) (cost : ℕ) : Type 0 where
  pub certificate : Proof
  pub holds : Holds p certificate
  pub closed : certificate.bound ≡ certificate.cost
  pub same : certificate.cost ≡ cost

closed_at : (held : Option Files) (p : Problem) (how : How) (q : Search) (text : List ℕ) (h : SolvesBy held p how q text)
    → IsClosedAt p (solved_cost held p how q text h)
closed_at held p (follow rule) q text h =
    record { certificate = h.certificate; holds = h.finds.holds; closed = h.no_gap; same = refl }
closed_at held p (again older) q text h =
    record { certificate = h.is.certificate; holds = h.is.finds.holds; closed = h.is.no_gap; same = refl }
closed_at held p (freely gap from) q text h =
    record { certificate = h.0.certificate; holds = h.0.finds.holds; closed = h.0.no_gap; same = refl }

-- two texts that solve one instance have one cost
pub one_cost_of : (held other : Option Files) (p : Problem) (how later : How) (q r : Search) (text too : List ℕ) (solved : SolvesBy held p how q text)
    (solved_again : SolvesBy other p later r too) → IsProblem p → solved_cost other p later r too solved_again ≡ solved_cost held p how q text solved
one_cost_of held other p how later q r text too solved solved_again ok =
    let k = closed_at held p how q text solved in
    let l = closed_at other p later r too solved_again in
    sym l.same ∙ one_closed_cost p l.certificate k.certificate ok l.holds k.holds l.closed k.closed ∙ k.same
