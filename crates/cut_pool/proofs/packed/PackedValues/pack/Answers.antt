use Rattle.std.proofs.Common.{length, ap, arith}
use Rattle.hub_spec.proofs.Limits.{few_candidates}
use Rattle.cut_pool.proofs.packed.PackedValues.pack.Goals as goal

pub invariant_of-result : goal.invariant_of-result
invariant_of-result c =
    let p = c.args.instance.now in
    let ok = c.size-size.ensures.problem in
    let few = few_candidates p.candidates p.size ok.candidates_ascend ok.candidates_are_nodes in
    record {
      size_limit = omega (arith, c.size-size.ensures.value, ok.size_limit);
      places_limit = omega (arith, few, ap length c.candidates-places.ensures.value, ok.size_limit);
      origins = c.in_ok-origins.ensures.count_is;
    }
