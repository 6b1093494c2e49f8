use Rattle.std.proofs.Common.{◌+◌, ◌*◌, length, refl, ap, ◌∙◌, arith}
use Rattle.std.specs.Prelude.{slice_range}
use Rattle.std.proofs.Math.Nat.{mul-le-mul_right}
use Rattle.std.proofs.lemmas.List.{length_push, take_all}
use Rattle.cut_pool.specs.Packed.{all_unpacked}
use Rattle.cut_pool.proofs.Packing.{list_within, lists_start, lists_more}
use Rattle.cut_pool.proofs.packed.packed_origins.Goals as goal

pub loop-i-init : goal.loop-i-init
loop-i-init c = record {
  count = ap length c.in_ok-origins.ensures.items;
  numbers = lists_start c.args.numbers.now c.args.cells c.in_ok-origins.origins.items c.in_ok-origins.ensures.items;
}

pub loop-i-preserved : goal.loop-i-preserved
loop-i-preserved c =
    let ns = c.args.numbers.now in
    let i = c.loop-i.i in
    let cells = c.args.cells in
    let within = list_within i c.args.count cells c.loop-i-test.true in
    record {
      count = ap length c.in_ok-push.ensures.items ∙ length_push c.loop-i.origins.items c.in_ok-items.items
          ∙ ap (λ n. n + 1) c.loop-i.invariant.count;
      numbers = ap (all_unpacked cells) c.in_ok-push.ensures.items
          ∙ lists_more ns (slice_range ns (i * cells) (i * cells + cells)) cells i (i * cells) c.loop-i.origins.items c.in_ok-items.items
          refl (omega (arith, within, c.requires.long)) refl c.loop-i.invariant.numbers c.in_ok-items.ensures;
    }

pub returns : goal.returns
returns c = record {
  count_is = omega (arith, c.loop-i.invariant.count, c.loop-i-test.false, c.loop-i.auto.i-end);
  numbers_are = c.loop-i.invariant.numbers
      ∙ take_all (c.loop-i.i * c.args.cells) c.args.numbers.now
      (omega (arith, c.requires.long, mul-le-mul_right c.args.cells c.loop-i-test.false));
}
