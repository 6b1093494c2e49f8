use Rattle.std.proofs.Common.{◌+◌, ◌*◌, ap, arith}
use Rattle.std.proofs.lemmas.List.{with_items_is}
use Rattle.cert_lines.specs.Tallies.{Tally}
use Rattle.cert_lines.proofs.Shares.{share_within, sum_fits}
use Rattle.cert_lines.proofs.sums.LeafSums.add.Goals as goal

pub overflow_mul-self : goal.overflow_mul-self
overflow_mul-self c =
    let more = share_within c.times_of.result c.args.part c.args.weight c.args.total c.times_of.ensures.limit c.requires.total in
    let weight = ap (λ (t : Tally). t.weight) c.self.view_is in
    let denom = ap (λ (t : Tally). t.denom) c.self.view_is in
    sum_fits (c.times_of.result * c.args.total) (omega (arith, more, weight, denom, c.requires.fits, c.self.invariant.denom_limit))

pub overflow_add-self : goal.overflow_add-self
overflow_add-self c =
    let more = share_within c.times_of.result c.args.part c.args.weight c.args.total c.times_of.ensures.limit c.requires.total in
    let weight = ap (λ (t : Tally). t.weight) c.self.view_is in
    let denom = ap (λ (t : Tally). t.denom) c.self.view_is in
    sum_fits (c.self.inside.base + c.times_of.result * c.args.total)
    (omega (arith, more, weight, denom, c.requires.fits, c.self.invariant.denom_limit, c.self.invariant.base_limit))

pub invariant_of-self : goal.invariant_of-self
invariant_of-self c =
    let more = share_within c.times_of.result c.args.part c.args.weight c.args.total c.times_of.ensures.limit c.requires.total in
    let weight = ap (λ (t : Tally). t.weight) c.self.view_is in
    let denom = ap (λ (t : Tally). t.denom) c.self.view_is in
    let loads_are = with_items_is c.self.inside.loads c.add_loads.new.sums (omega (arith, c.add_loads.auto.sums, c.deref_mut.ensures.len)) in
    record {
      denom_limit = c.self.invariant.denom_limit;
      weight_limit = omega (arith, weight, denom, c.requires.fits);
      base_limit = omega (arith, more, c.self.invariant.base_limit);
      load_limit = rw loads_are c.add_loads.ensures.limit;
    }
