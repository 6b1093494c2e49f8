use Rattle.std.proofs.Common.{◌≡◌, ◌-◌, ◌≤◌, length, arith}
use Rattle.cut_model.proofs.RunLists.{begun_least, low_begins, high_begins, some_run}
use Rattle.cut_model.proofs.runs.place_of.Goals as goal

pub loop-high-init : goal.loop-high-init
loop-high-init c =
    let runs = c.args.runs.now in
    let ends = c.requires.runs in
    let least = begun_least runs c.args.count (length runs) ends (omega arith) in
    let few : length runs ≤ c.args.count = omega (arith, least, ends.all) in
    let some = some_run runs c.args.count c.args.number ends c.requires.below in
    let low : c.saturating_sub-low.result ≡ length runs - (c.args.count - c.args.number) = omega (arith, c.saturating_sub-low.ensures) in
    record {
      order = omega (arith, low, c.min-high.ensures, few, some, c.requires.below);
      within = omega (arith, c.min-high.ensures);
      from = low_begins runs c.args.count c.args.number c.saturating_sub-low.result ends c.requires.below low;
      to = high_begins runs c.args.count c.args.number c.min-high.result ends c.requires.below (omega (arith, c.min-high.ensures))
          (omega (arith, c.min-high.ensures)) (λ l. omega (arith, l, c.min-high.ensures));
    }
