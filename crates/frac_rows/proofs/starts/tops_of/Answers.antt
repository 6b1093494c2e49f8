use Rattle.std.proofs.Common.{◌≡◌, ◌+◌, ◌^◌, ◌≤◌, ◌∙◌, ap, arith}
use Rattle.std.proofs.lemmas.List.{length_push}
use Rattle.std.proofs.lemmas.List.Elements.{All-push}
use Rattle.frac_rows.proofs.WholeRows.{piece_within}
use Rattle.frac_rows.proofs.FirstRows.{tops_more, tops_are}
use Rattle.frac_rows.proofs.starts.tops_of.Goals as goal

pub row_at-requires : goal.row_at-requires
row_at-requires c = piece_within c.args.variables c.args.height c.loop-k.k c.args.numbers.now c.requires.long c.loop-k-test.true

pub loop-k-preserved : goal.loop-k-preserved
loop-k-preserved c =
    let k = c.loop-k.k in
    let variables = c.args.variables in
    let numbers = c.args.numbers.now in
    rw c.in_ok-push.ensures.items
    (record {
      long = length_push c.loop-k.tops.items c.top_of.result ∙ ap (λ n. n + 1) c.loop-k.invariant.long;
      under = tops_more variables numbers c.loop-k.tops.items k c.top_of.result c.loop-k.invariant.long c.loop-k.invariant.under
          (rw c.row_at.ensures.value at c.top_of.ensures.above);
      limit = All-push (λ t. t ≤ 2 ^ 32) c.loop-k.tops.items c.top_of.result c.loop-k.invariant.limit c.top_of.ensures.limit;
    })

pub returns-clause-tops : goal.returns-clause-tops
returns-clause-tops c =
    let all : c.loop-k.k ≡ c.args.height = omega (arith, c.loop-k-test.false, c.loop-k.auto.k-end) in
    tops_are c.args.height c.args.variables c.args.numbers.now c.loop-k.tops.items c.requires.few c.requires.long (c.loop-k.invariant.long ∙ all)
    (λ k low. c.loop-k.invariant.under k (omega (arith, low, all))) c.loop-k.invariant.limit

pub returns-clause-limit : goal.returns-clause-limit
returns-clause-limit c = c.loop-k.invariant.limit
