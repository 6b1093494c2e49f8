use Rattle.std.proofs.Common.{◌≤◌, length, refl, ap, arith, rules}
use Rattle.proof_text.proofs.headings.heading_of.Goals as goal

pub overflow_cast-result : goal.overflow_cast-result
overflow_cast-result c =
    let range = c.requires.in_range in
    let same = ap length c.candidates.ensures.value in
    let few : length c.candidates.result.now ≤ 200 = omega (arith, same, range.candidates, range.size) in
    search (rules, arith)

pub returns-clause-heading : goal.returns-clause-heading
returns-clause-heading c = λ tree. record {
  version = refl;
  size = c.size.ensures.value;
  candidates = ap length c.candidates.ensures.value;
  cost = refl;
  bound = refl;
}
