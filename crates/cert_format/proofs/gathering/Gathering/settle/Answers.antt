use Rattle.std.proofs.Common.{◌≡◌, ℤ, List, subst, rules}
use Rattle.hub_spec.specs.Trees.{leaf_of}
use Rattle.hub_spec.specs.Ranges.{IsLineInRange}
use Rattle.hub_model.specs.Mixtures.{natural_weights}
use Rattle.cert_format.specs.Gathered.{IsFit}
use Rattle.cert_format.specs.Gatherings.{begun_by}
use Rattle.cert_format.proofs.Amounts.{passed_on}
use Rattle.cert_format.proofs.Signed.{signed_mixture}
use Rattle.cert_format.proofs.gathering.Gathering.settle.Goals as goal

pub new-mix-requires : goal.new-mix-requires
new-mix-requires c =
    let begun = c.args.self.now.begun in
    let denom = c.in-Leaf.denominator in
    let copied : begun.weights.items ≡ c.in_ok-weights-in-Leaf.weights.items = search rules in
    let fit = subst (λ h. IsFit (begun_by h begun.values.items begun.ways.items begun.weights.items)) c.in-Leaf.is c.requires in
    signed_mixture denom _ _ (passed_on c.signed.result (search rules) c.signed.ensures)
    (subst (λ (w : List (ℤ × ℤ)). IsLineInRange 0 (leaf_of denom (natural_weights w))) copied fit)
