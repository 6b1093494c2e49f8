use Rattle.branch_tree.specs.Findings.{found_by}
use Rattle.search_steps.proofs.FoundCertificates.{told_of}
use Rattle.branch_tree.proofs.RuleFindings.{rule_searched}
use Rattle.branch_tree.proofs.laws.search_is_proved.Goals as goal

pub returns : goal.returns
returns c = λ kind p n found ok all is. (told_of p n (found_by kind p n) found (rule_searched kind p n (record { problem = ok; lacks_none = all })) is).proved
