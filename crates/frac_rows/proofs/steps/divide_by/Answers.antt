use Rattle.std.proofs.Common.{◌≡◌, ◌<◌, ◌≤◌, length, max, pos, unsigned_abs, FitsSigned, ap, ◌∙◌, arith, rules}
use Rattle.std.specs.Int.{w64}
use Rattle.std.proofs.lemmas.Int.{to_z-of_z}
use Rattle.std.proofs.lemmas.List.Elements.{All-from_get_or}
use Rattle.frac_rows.specs.Rows.{number}
use Rattle.frac_rows.proofs.Divided.{divides_more, sizes_more, divided_all}
use Rattle.frac_rows.proofs.steps.divide_by.Goals as goal

pub loop-k-preserved : goal.loop-k-preserved
loop-k-preserved c =
    let q = c.in_ok-quotient.quotient in
    let fits : FitsSigned w64 q = search rules in
    let x : FitsSigned w64 (number c.args.row.now c.loop-k.k) = search rules in
    let y : FitsSigned w64 (number c.args.base.now c.loop-k.k) = search rules in
    let room : c.loop-k.k < length c.loop-k.out = omega (arith, c.loop-k.auto.out) in
    let size : c.unsigned_abs.result ≡ unsigned_abs q = simp to_z-of_z at c.unsigned_abs.ensures.value in
    rw (to_z-of_z w64 q fits)
    (record {
      divided =
          divides_more c.args.by.now.number c.args.turn.own c.args.row.now c.args.turn.base c.args.base.now c.loop-k.out c.loop-k.k q
          room c.loop-k.invariant.divided (simp to_z-of_z at c.in_ok-quotient.ensures.value) c.in_ok-quotient.ensures.size;
      sizes =
          rw (c.max-most.ensures ∙ ap (max c.loop-k.most) size)
          (sizes_more c.loop-k.out c.loop-k.k q c.loop-k.most room c.loop-k.invariant.sizes);
    })

pub returns-clause-divided : goal.returns-clause-divided
returns-clause-divided c =
    divided_all c.args.by.now.number c.args.turn.own c.args.row.now c.args.turn.base c.args.base.now c.loop-k.out c.requires.as_long
    (omega (arith, c.loop-k.auto.out)) (λ k low. c.loop-k.invariant.divided k (omega arith))

pub returns-clause-size : goal.returns-clause-size
returns-clause-size c =
    All-from_get_or (λ x. unsigned_abs x ≤ c.loop-k.most) c.loop-k.out (pos 0)
    (λ k low. c.loop-k.invariant.sizes k (omega (arith, low, c.loop-k.auto.out, c.loop-k-test.false, c.requires.room)))
