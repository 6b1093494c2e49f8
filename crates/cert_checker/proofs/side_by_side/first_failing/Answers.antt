use Rattle.std.proofs.Common.{◌≡◌, ℕ, ◌-◌, ◌*◌, ◌<◌, List, sym, ap, subst, ◌∙◌, rules, arith}
use Rattle.std.specs.List.{AllZip, range_with_len, slice_get}
use Rattle.rayon.specs.Lists.{filter_by_mask}
use Rattle.rayon.specs.Numbers.{nat_range}
use Rattle.rayon.proofs.ListFacts.{AllZip-weaken}
use Rattle.rayon.proofs.ToStd.{nat_range-All}
use Rattle.cert_checker.specs.Duals.{IsFirstFailing}
use Rattle.cert_checker.proofs.FirstFailing.{IsAnswer, first_of_all}
use Rattle.cert_checker.proofs.side_by_side.first_failing.Goals as goal

pub find_first-requires-clause-items : goal.find_first-requires-clause-items
find_first-requires-clause-items g c κs within = λ k d inside p is.
    let n = c.args.instance.now.size in
    let end : c.with_min_len.result.base.end ≡ n * n = search rules in
    record {
      part_most = c.requires.part;
      below = subst (λ (t : ℕ). t < n * n) (sym is) (nat_range-All (λ x. x < n * n) _ _ (λ i low high. omega (arith, end, high)) k d inside);
      one_for_each = c.requires.one_for_each;
      in_range = c.requires.duals;
    }

pub returns : goal.returns
returns g c =
    let p = c.args.instance.now in
    let duals = c.args.cut.now.duals in
    let n = p.size * p.size in
    let e = c.find_first.ensures in
    let start : c.with_min_len.result.base.start ≡ 0 = search rules in
    let end : c.with_min_len.result.base.end ≡ n = search rules in
    let whole : n - 0 ≡ n = omega arith in
    let places : e.0 ≡ range_with_len 0 n = e.2 ∙ (λ i. nat_range (start i) (end i)) ∙ ap (range_with_len 0) whole in
    let answers = AllZip-weaken _ (IsAnswer p c.args.cut.now.part duals) (λ t b h. subst (λ (x : ℕ). IsAnswer p c.args.cut.now.part duals x b) h.1 h.2) e.0 e.1 e.3 in
    subst (IsFirstFailing p c.args.cut.now.part duals) (sym (e.4 ∙ ap (λ (xs : List ℕ). slice_get (filter_by_mask xs e.1) 0) places))
    (first_of_all p c.args.cut.now.part duals e.1 n (sym c.requires.one_for_each) (subst (λ (xs : List ℕ). AllZip (IsAnswer p c.args.cut.now.part duals) xs e.1) places answers))
