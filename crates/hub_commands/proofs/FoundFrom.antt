-- What the search rule finds, by how it goes.
use Rattle.std.proofs.Common.{ℕ, Option}
use Rattle.hub_spec.specs.Problem.{Problem, IsProblem}
use Rattle.hub_spec.specs.Plans.{IsHubSet}
use Rattle.search_steps.proofs.FoundCertificates as findings
use Rattle.search_steps.specs.Kinds.{minimal, core}
use Rattle.branch_tree.proofs.RuleFindings.{rule_searched, again_searched, rule_at_most, again_at_most}
use Rattle.node_rounds.proofs.RoundFindings.{rounds_searched, rounds_at_most}
use Rattle.hub_words.specs.Requests.{node_by_node, by_core_cuts, by_rounds}
use Rattle.hub_commands.specs.Methods.{Course, cold, warm}
use Rattle.hub_commands.specs.Searches.{found_from, IsAtMostBegun}
use Rattle.hub_commands.specs.Solving.{MayGo}

-- the problem can be searched on this course: all candidates together are feasible
pub record IsSearchable (p : Problem) (course : Course) : Type 0 where
  pub problem : IsProblem p
  pub lacks_none : IsHubSet p p.candidates
  pub may_go : MayGo p course

-- what is known of what is found, on any course
pub found_searched : (p : Problem) (n : Option ℕ) (course : Course) → IsSearchable p course → findings.IsSearched p n (found_from p n course)
found_searched p n (cold node_by_node) ok = rule_searched minimal p n (record { problem = ok.problem; lacks_none = ok.lacks_none })
found_searched p n (cold by_core_cuts) ok = rule_searched core p n (record { problem = ok.problem; lacks_none = ok.lacks_none })
found_searched p n (warm start) ok = again_searched minimal p n start (record { problem = ok.problem; lacks_none = ok.lacks_none }) ok.may_go
found_searched p n (cold by_rounds) ok = rounds_searched p n (record { problem = ok.problem; lacks_none = ok.lacks_none })

-- it costs at most what it began with
pub found_at_most : (p : Problem) (n : Option ℕ) (course : Course) → IsSearchable p course → IsAtMostBegun p course (found_from p n course).state.cost
found_at_most p n (cold node_by_node) ok = rule_at_most minimal p n (record { problem = ok.problem; lacks_none = ok.lacks_none })
found_at_most p n (cold by_core_cuts) ok = rule_at_most core p n (record { problem = ok.problem; lacks_none = ok.lacks_none })
found_at_most p n (warm start) ok = again_at_most minimal p n start (record { problem = ok.problem; lacks_none = ok.lacks_none }) ok.may_go
found_at_most p n (cold by_rounds) ok = rounds_at_most p n (record { problem = ok.problem; lacks_none = ok.lacks_none })
