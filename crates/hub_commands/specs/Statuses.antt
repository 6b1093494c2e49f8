-- The status of what a search found, and the lines of a demonstration.
use Rattle.std.specs.Prelude.{◌≡◌, ℕ, List, is_some, nat_eq, if◌then◌else◌}
use Rattle.hub_spec.specs.Problem.{Problem}
use Rattle.hub_spec.specs.Lacking.{lacking}
use Rattle.hub_spec.specs.Trees.{line_count}
use Rattle.hub_spec.specs.Certificates.{Proof}
use Rattle.cert_spec.specs.Verdicts.{Older, serves}
use Rattle.search_spec.specs.Again.{start_of}
use Rattle.hub_words.specs.Requests.{Search, solve}
use Rattle.hub_commands.specs.declared.status.Status.{Status}
use Rattle.hub_commands.specs.declared.status.Status.TheVariants.{Done, Stopped, No, Lacking}
use Rattle.hub_commands.specs.Methods.{warm, Method, method_of}
use Rattle.hub_commands.specs.Searches.{rule_certificate}
use Rattle.cut_pool.specs.declared.found.Found.{Found as Finding}
use Rattle.hub_make.specs.DemoTexts as lines

-- of a certificate that a search made
abbrev pub found_status : Proof → Status
found_status k = if nat_eq k.bound k.cost then Done else Stopped

-- of the search of an instance by the rule
unfoldable pub rule_status : Problem → Method → Status
rule_status p m = found_status (rule_certificate p m)

-- of `solve`: 8 where all candidates together are infeasible for a commodity
unfoldable pub solve_status : Problem → Method → Status
solve_status p m = if is_some (lacking p p.candidates) then Lacking else rule_status p m

-- of `resolve`, where all candidates together are feasible: 2 where the older certificate does not serve
unfoldable pub older_status : Problem → Search → Older → Status
older_status p search (serves older) = rule_status p (method_of search (warm (start_of older.proof)))
older_status p search said = No

-- the five lines that describe a certificate: its nodes, cost, bound, hubs, and the nodes of its tree
abbrev pub demo_text : Proof → List ℕ
demo_text k = lines.demo_text k.size k.cost k.bound k.plan.hubs (line_count k.tree)

-- the text is these lines of the certificate
abbrev pub Demonstrates : List ℕ → Proof → Type 0
Demonstrates text k = text ≡ demo_text k

-- the status of what a search found
abbrev pub finding_status : Finding → Status
finding_status found = if nat_eq found.bound found.cost then Done else Stopped
