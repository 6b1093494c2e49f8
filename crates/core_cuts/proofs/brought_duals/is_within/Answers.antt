use Rattle.std.proofs.Common.{ℕ, ◌*◌, ◌≤◌, ap, arith}
use Rattle.std.proofs.lemmas.List.Elements.{All-map}
use Rattle.core_cuts.proofs.CommonParts.{mapped_all}
use Rattle.core_cuts.proofs.brought_duals.is_within.Goals as goal

pub returns-then-times-price : goal.returns-then-times-price
returns-then-times-price c =
    let n = c.args.times in
    let u = c.args.dual.now.u in (
      λ yes. record {
        price = omega (arith, ap (λ x. n * x) c.price.ensures);
        values = All-map (λ (e : ℕ × ℕ). e.1 ≤ c.args.most) (λ (x : ℕ × ℕ). (x.0, n * x.1)) u (c.are_within.ensures.0 yes);
      },
      λ within. c.are_within.ensures.1 (mapped_all (λ (e : ℕ × ℕ). e.1 ≤ c.args.most) (λ (x : ℕ × ℕ). (x.0, n * x.1)) u within.values),
    )
