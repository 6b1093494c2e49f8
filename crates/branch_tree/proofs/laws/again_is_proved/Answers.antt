use Rattle.branch_tree.specs.Findings.{found_again}
use Rattle.search_steps.proofs.FoundCertificates.{told_of}
use Rattle.branch_tree.proofs.RuleFindings.{again_searched}
use Rattle.branch_tree.proofs.laws.again_is_proved.Goals as goal

pub returns : goal.returns
returns c = λ kind p n start found ok all may is.
    (told_of p n (found_again kind p n start) found (again_searched kind p n start (record { problem = ok; lacks_none = all }) may) is).proved
