use Rattle.std.proofs.Common.{List, ℕ, Some, refl, sym, ap}
use Rattle.hub_io.proofs.Names.{begins_none, begins_more}
use Rattle.hub_sources.proofs.costs.costs_of_file.Goals as goal

pub returns-in_default-clause-begins : goal.returns-in_default-clause-begins
returns-in_default-clause-begins g c = begins_none refl

pub returns-in_err-bytes-clause-begins : goal.returns-in_err-bytes-clause-begins
returns-in_err-bytes-clause-begins g c =
    begins_more (λ other same. rw c.in-Some.is (ap (λ (n : List ℕ). Some n) (sym same))) c.in_err-bytes.ensures.begins

pub returns-in_err-costs-clause-begins : goal.returns-in_err-costs-clause-begins
returns-in_err-costs-clause-begins g c =
    begins_more (λ other same. rw c.in-Some.is (ap (λ (n : List ℕ). Some n) (sym same))) c.in_ok-bytes.ensures.begins

pub returns-clause-begins : goal.returns-clause-begins
returns-clause-begins g c =
    begins_more (λ other same. rw c.in-Some.is (ap (λ (n : List ℕ). Some n) (sym same))) c.in_ok-bytes.ensures.begins
