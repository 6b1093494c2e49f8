-- The text or the five lines state what the code of a search by a rule found.
use Rattle.std.proofs.Common.{◌≡◌, ℕ, ◌<◌, ◌≤◌, length, Option, Result, Ok, Err, inr, refl, sym, subst, ap, ◌∙◌, arith, nat_eq, cond}
use Rattle.std.specs.Prelude.{IfOk, IfSome, map}
use Rattle.std.proofs.lemmas.List.{length-map}
use Rattle.std.proofs.lemmas.Bool.{cond_both, eqb-true, eqb-false}
use Rattle.hub_io.specs.Outside.{Files}
use Rattle.hub_spec.specs.Problem.{Problem, IsProblem}
use Rattle.hub_spec.specs.Plans.{IsHubSet}
use Rattle.hub_spec.specs.Trees.{line_count}
use Rattle.hub_spec.proofs.Preorders.{length-preorder}
use Rattle.hub_model.specs.Lines.{tree_line_of}
use Rattle.search_spec.specs.States.{Grown}
use Rattle.search_spec.specs.Findings.{certificate_of}
use Rattle.cert_spec.specs.Stated.{as_second, IsStatedOf}
use Rattle.cert_spec.specs.Text.{Spells, SpellsUnmarked}
use Rattle.cut_pool.specs.declared.found.Found.{Found}
use Rattle.cut_pool.specs.Findings.{IsVersionFor, IsProved, AreRemade, proof_of}
use Rattle.search_steps.specs.Findings.{IsFound}
use Rattle.proof_text.specs.Texts.{found_text}
use Rattle.proof_text.specs.Certificates.{mark_said, stated_by}
use Rattle.proof_text.proofs.StatedFindings.{stated_is_of}
use Rattle.search_steps.specs.Kinds.{core}
use Rattle.branch_tree.specs.Findings.{found_by}
use Rattle.file_spec.specs.Options.{Options}
use Rattle.file_spec.specs.Instances.{made}
use Rattle.hub_make.specs.Contents.{made_contents, made_problem}
use Rattle.hub_words.specs.Requests.{node_by_node, by_core_cuts, by_rounds, How, follow, again, freely, IsAllowed, Making, Search, demo}
use Rattle.hub_make.specs.DemoTexts as lines
use Rattle.hub_commands.specs.declared.status.Status.{Status}
use Rattle.hub_commands.specs.declared.status.Status.TheVariants.{Done, Stopped}
use Rattle.hub_commands.specs.Methods.{Course, cold, warm, Method, demo_method}
use Rattle.hub_commands.specs.Searches.{found_from, rule_certificate, SpellsMarked, SpellsFound, SpellsBy, Solves, Stops}
use Rattle.hub_commands.specs.Statuses.{found_status, demo_text, Demonstrates}
use Rattle.hub_commands.specs.Statuses.{finding_status}
use Rattle.hub_sources.specs.Building.{KeepsLimits}
use Rattle.hub_commands.specs.Solving.{MayGo, IsRemadeCourse, IsSearched, GoesBy}
use Rattle.hub_commands.proofs.FoundFrom.{IsSearchable, found_searched}
use Rattle.hub_commands.proofs.Spelled.{spells_stated, spells_unmarked}
use Rattle.hub_commands.proofs.Versions.{IsVersionBy}
use Rattle.hub_commands.proofs.RuleCertificates.{rule_is_certificate, rule_solves, rule_stops}

-- what was returned is this finding, with its certificate in each version
abbrev pub IsFoundWith : {E : Type 0} → Problem → Result Found E → Grown → Type 0
IsFoundWith p result g =
    IfOk result (IsFound p g) × IfOk result (λ found. (v : ℕ) → proof_of v p found g.tree ≡ certificate_of p v g)

-- what a search by the rule returned is as `IsSearched` says
pub searched_by : {E : Type 0} (p : Problem) (n : Option ℕ) (course : Course) (result : Result Found E) → IsProblem p → IsHubSet p p.candidates
    → MayGo p course → IsFoundWith p result (found_from p n course) → IfOk result (IsProved p) → (IsRemadeCourse course → IfOk result AreRemade)
    → IfOk result (IsSearched p n course)
searched_by p n course (Ok found) ok lacks_none may finding proved remade = record {
  problem = ok;
  lacks_none = lacks_none;
  may_go = may;
  finding = finding.0;
  proved = proved;
  remade = remade;
  certificate = finding.1;
}
searched_by p n course (Err e) ok lacks_none may finding proved remade = tt

pub searchable : {p : Problem} {n : Option ℕ} {course : Course} {found : Found} → IsSearched p n course found → IsSearchable p course
searchable h = record { problem = h.problem; lacks_none = h.lacks_none; may_go = h.may_go }

-- the status is that of the rule's certificate
status_is : (p : Problem) (m : Method) (found : Found) → IsSearched p m.nodes m.course found → finding_status found ≡ found_status (rule_certificate p m)
status_is p m found h =
    let is = rule_is_certificate p m (searchable h) in
    ap (λ (b : ℕ). cond (nat_eq b found.cost) Done Stopped) (h.finding.bound ∙ sym is.bound)
    ∙ ap (λ (c : ℕ). cond (nat_eq (rule_certificate p m).bound c) Done Stopped) (h.finding.cost ∙ sym is.cost)

-- what holds with the status of the rule's certificate, by whether its bound is its cost
pub by_status : (p : Problem) (m : Method) (found : Found) (P : Status → Type 0) → IsSearched p m.nodes m.course found
    → ((rule_certificate p m).bound ≡ (rule_certificate p m).cost → P Done)
    → ((rule_certificate p m).bound < (rule_certificate p m).cost → P Stopped)
    → P (finding_status found)
by_status p m found P h closed gap =
    let k = rule_certificate p m in
    let is = rule_is_certificate p m (searchable h) in
    let within : k.bound ≤ k.cost = omega (arith, is.bound, is.cost, (found_searched p m.nodes m.course (searchable h)).proof.within_cost) in
    subst P (sym (status_is p m found h))
    (cond_both (nat_eq k.bound k.cost) Done Stopped P (λ e. closed (eqb-true k.bound k.cost e))
    (λ e. gap (let apart = eqb-false k.bound k.cost e in omega (arith, within, apart))))

-- its text is that of the rule's certificate, with no mark in a version that has a text for its cuts
spells_rule : (p : Problem) (version : ℕ) (nodes : Option ℕ) (course : Course) (found : Found) → IsSearched p nodes course found
    → IsVersionFor p found.cuts.cuts version
    → SpellsUnmarked (found_text version p found) (certificate_of p version (found_from p nodes course))
spells_rule p version nodes course found h there =
    subst (SpellsUnmarked (found_text version p found)) (h.certificate version)
    (spells_unmarked version p found (found_from p nodes course).tree h.proved h.finding.lines there)

-- with Pareto-optimal cuts, the third version states the rule's certificate with the marks that are found
marked_stated : (p : Problem) (version : ℕ) (nodes : Option ℕ) (found : Found) (h : IsSearched p nodes (cold by_core_cuts) found) → version ≡ 3
    → stated_by version p found (found_by core p nodes).tree
    ≡ record { proof = certificate_of p version (found_by core p nodes); marks = (found_by core p nodes).state.marks }
marked_stated p version nodes found h third =
    let g = found_by core p nodes in
    let marks : map (mark_said version) found.cuts.cuts ≡ g.state.marks =
    ap (λ (v : ℕ). map (mark_said v) found.cuts.cuts) third ∙ h.finding.marks in
    λ t. record { proof = h.certificate version t; marks = marks t }

spells_marks : (p : Problem) (version : ℕ) (nodes : Option ℕ) (found : Found) → IsSearched p nodes (cold by_core_cuts) found → version ≡ 3
    → SpellsMarked p (found_by core p nodes).state.marks (found_text version p found) (certificate_of p version (found_by core p nodes))
spells_marks p version nodes found h third =
    let g = found_by core p nodes in
    let same = marked_stated p version nodes found h third in
    let holds = stated_is_of version p found g.tree h.proved h.finding.lines in
    record {
      spelled = subst (Spells (found_text version p found)) same
          (spells_stated version p found g.tree h.proved h.finding.lines (inr (ap as_second third)));
      as_marked = (subst (IsStatedOf p) same holds).marks;
    }

-- and as a search on this course writes it, in its version
pub spells_found : (p : Problem) (version : ℕ) (nodes : Option ℕ) (course : Course) (found : Found) → IsSearched p nodes course found
    → IsVersionBy p found.cuts.cuts course version
    → SpellsFound p nodes course (found_text version p found) (certificate_of p version (found_from p nodes course))
spells_found p version nodes (cold node_by_node) found h there = spells_rule p version nodes (cold node_by_node) found h there
spells_found p version nodes (cold by_core_cuts) found h there = spells_marks p version nodes found h there
spells_found p version nodes (cold by_rounds) found h there = spells_rule p version nodes (cold by_rounds) found h there
spells_found p version nodes (warm start) found h there = spells_rule p version nodes (warm start) found h there

-- so its text solves the instance or stops, in the version of the rule
pub ruled_status : (p : Problem) (m : Method) (found : Found) (P : Status → Type 0) → IsVersionBy p found.cuts.cuts m.course m.version
    → IsSearched p m.nodes m.course found
    → (Solves p m (SpellsBy p m (found_text m.version p found)) → P Done)
    → (Stops p m (SpellsBy p m (found_text m.version p found)) → P Stopped) → P (finding_status found)
ruled_status p m found P version h done stopped =
    let tells = SpellsBy p m (found_text m.version p found) in
    let spelled = spells_found p m.version m.nodes m.course found h version in
    by_status p m found P h (λ closed. done (rule_solves p m tells (searchable h) spelled closed))
    (λ gap. stopped (rule_stops p m tells (searchable h) spelled gap))

-- a line of what was found for each of the rule's tree
lines_long : (p : Problem) (n : Option ℕ) (course : Course) (found : Found) → IsSearched p n course found
    → length found.tree.items ≡ line_count (found_from p n course).tree
lines_long p n course found h =
    sym (length-map found.tree.items tree_line_of) ∙ ap length h.finding.lines ∙ length-preorder (found_from p n course).tree

-- the five lines of what was found are those of the rule's certificate
pub five_lines : (p : Problem) (m : Method) (found : Found) → IsSearched p m.nodes m.course found
    → lines.demo_text p.size found.cost found.bound found.plan.hubs (length found.tree.items) ≡ demo_text (rule_certificate p m)
five_lines p m found h =
    let k = rule_certificate p m in
    let is = rule_is_certificate p m (searchable h) in
    let tree = lines_long p m.nodes m.course found h in
    rw (h.finding.cost, h.finding.bound, h.finding.hubs, tree, is.size, is.cost, is.bound, is.hubs, is.tree) refl

-- a search goes as it may, where its rule is allowed
pub may_go_by : (held : Option Files) (p : Problem) (how : How) (course : Course) (o : Options) (version : ℕ) → KeepsLimits o p
    → IsAllowed how o version → GoesBy held p how course → MayGo p course
may_go_by held p (follow node_by_node) course o version keeps allowed goes = subst (MayGo p) (sym goes) tt
may_go_by held p (follow by_core_cuts) course o version keeps allowed goes = subst (MayGo p) (sym goes) tt
may_go_by held p (follow by_rounds) course o version keeps allowed goes = subst (MayGo p) (sym goes) (keeps.wanted allowed.0)
may_go_by held p (again older) course o version keeps allowed goes = goes.3
may_go_by held p (freely gap from) course o version keeps allowed goes = absurd goes

-- a made instance has the requested size
pub made_size : (m : Making) → m.size ≡ (made_problem m.seed m.size).size
unfolding made made_contents
made_size m = refl
