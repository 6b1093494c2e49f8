use Rattle.hub_top.specs.Views.{came_to}
use Rattle.hub_top.proofs.Runs.{ran}
use Rattle.hub_top.proofs.top.run.Goals as goal

pub returns : goal.returns
returns g c =
    let told = ran g.S.Shelf.held g.S.Shelf.faults g.S.Shelf.sound c.args.shelf.now c.settle-settled.new.shelf _ _ _ _ _ _ _ _ _ _
    (came_to c.settle-settled.result) c.settle-settled.ensures.may c.write.ensures in
    record {
      ends = told.ends;
      means = told.means;
      complete = told.complete;
      headline = told.headline;
      same = c.settle-settled.ensures.same;
      begins = c.settle-settled.ensures.begins;
      untouched = c.settle-settled.ensures.untouched;
    }
