-- The answer of a command states what its search found.
use Rattle.std.proofs.Common.{◌≡◌, ℕ, length, List, Option, ap, ◌∙◌}
use Rattle.hub_io.specs.Outside.{Files}
use Rattle.hub_spec.specs.Problem.{Problem}
use Rattle.cut_pool.specs.declared.found.Found.{Found}
use Rattle.proof_text.specs.Texts.{found_text}
use Rattle.hub_make.specs.Contents.{made_problem}
use Rattle.hub_make.specs.DemoTexts as lines
use Rattle.hub_words.specs.Requests.{node_by_node, Making, Search, Solving, IsSolving, solve, demo}
use Rattle.hub_commands.specs.declared.status.Status.{Status}
use Rattle.hub_commands.specs.Methods.{cold, demo_method}
use Rattle.hub_commands.specs.Searches.{rule_certificate}
use Rattle.hub_commands.specs.Statuses.{Demonstrates, finding_status}
use Rattle.hub_commands.specs.Solving.{IsSearched, IsSolution}
use Rattle.hub_commands.proofs.RuleCertificates.{rule_solves, rule_stops}
use Rattle.hub_commands.proofs.Searched.{by_status, five_lines, searchable}
use Rattle.hub_commands.proofs.Solutions.{by_how}
use Rattle.hub_top.specs.Answers.{Answers}

-- the text of what was found solves the instance, or stops
pub solve_answers : (held : Option Files) (s : Solving) (p : Problem) (found : Found) → IsSolving s → IsSolution held s p found
    → Answers (solve s) (finding_status found) held (found_text s.search.version p found)
solve_answers held s p found asked h =
    by_how held p s.how s.search s.source.options found (λ (x : Status). Answers (solve s) x held (found_text s.search.version p found)) h.limits
    asked.allowed asked.sayable h.found_by
    (λ solves. record { problem = p; instance = h.instance; solves = solves })
    (λ stops. record { problem = p; instance = h.instance; stops = stops })

-- `demo` answers so
pub demo_answers : (held : Option Files) (m : Making) (search : Search) (size : ℕ) (found : Found) → size ≡ (made_problem m.seed m.size).size
    → IsSearched (made_problem m.seed m.size) search.nodes (cold node_by_node) found
    → Answers (demo m search) (finding_status found) held (lines.demo_text size found.cost found.bound found.plan.hubs (length found.tree.items))
demo_answers held m search size found sized h =
    let p = made_problem m.seed m.size in
    let by = demo_method search in
    let text = lines.demo_text size found.cost found.bound found.plan.hubs (length found.tree.items) in
    let told : Demonstrates text (rule_certificate p by) =
    ap (λ (x : ℕ). lines.demo_text x found.cost found.bound found.plan.hubs (length found.tree.items)) sized ∙ five_lines p by found h in
    by_status p by found (λ x. Answers (demo m search) x held text) h
    (λ closed. rule_solves p by (Demonstrates text) (searchable h) told closed)
    (λ gap. rule_stops p by (Demonstrates text) (searchable h) told gap)
