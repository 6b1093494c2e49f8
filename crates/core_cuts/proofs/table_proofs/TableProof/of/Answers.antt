use Rattle.std.proofs.Common.{◌+◌, ◌∙◌, List, length, drop, ap, ap₂}
use Rattle.core_spec.specs.CoreCuts.{Way, CoreProof}
use Rattle.frac_rows.specs.Rows.{objective}
use Rattle.core_cuts.specs.CoreTables.{ways_of, ordered_ways}
use Rattle.core_cuts.proofs.TakenWays.{ordered_taken}
use Rattle.core_cuts.proofs.table_proofs.TableProof.of.Goals as goal

pub returns : goal.returns
returns c =
    let candidates = c.args.candidates.now in
    let ways = ways_of c.args.edges.now (drop (length candidates + 1) (objective c.args.rows.now)) in
    ap₂ (λ scale (list : List Way). let proof : CoreProof = record { turns = length candidates; scale = scale; ways = list } in proof) c.scale_of.ensures
    (c.in_ok-ways.ensures ∙ ap (ordered_ways candidates) (c.deref.ensures.value ∙ c.in_ok-taken.ensures) ∙ ordered_taken candidates ways)
