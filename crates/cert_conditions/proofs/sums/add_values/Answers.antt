use Rattle.std.proofs.Common.{length, refl, rules, arith}
use Rattle.cert_conditions.specs.Sums.{most_load}
use Rattle.cert_conditions.proofs.Loads.{entry_times, load_limit, loaded_more}
use Rattle.cert_conditions.proofs.sums.add_values.Goals as goal

pub overflow_mul-loads : goal.overflow_mul-loads
overflow_mul-loads c =
    omega (arith, entry_times (length c.args.loads.now) c.args.run _ c.loop-e.e c.requires.dual c.requires.few c.loop-e-test.true)

pub overflow_add-loads : goal.overflow_add-loads
overflow_add-loads c =
    omega (
      arith,
      entry_times (length c.args.loads.now) c.args.run _ c.loop-e.e c.requires.dual c.requires.few c.loop-e-test.true,
      load_limit most_load c.args.run c.args.values.now c.args.loads.now c.loop-e.loads c.loop-e.e _ c.requires.dual.ascend (omega arith)
          refl (search rules) c.requires.most c.loop-e.invariant.each,
    )

pub loop-e-preserved : goal.loop-e-preserved
loop-e-preserved c =
    record {
      long = search rules;
      each = loaded_more c.args.run c.args.values.now c.args.loads.now c.loop-e.loads c.loop-e.e _ _ c.requires.dual.ascend (omega arith)
          refl (search rules) refl c.loop-e.invariant.each;
    }
