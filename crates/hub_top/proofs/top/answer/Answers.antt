use Rattle.std.proofs.Common.{refl, subst}
use Rattle.std.specs.Prelude.{IfSome}
use Rattle.hub_words.specs.Requests.{IsSearch, IsSolving, solve, demo, search_of, solved}
use Rattle.hub_words.specs.Views.{making_seen, request_of, search_seen, solving_of}
use Rattle.hub_words.specs.declared.requests.Command.{Command}
use Rattle.hub_searches.specs.Solving.{ComesTo, IsSolution}
use Rattle.hub_searches.proofs.Searched.{made_size}
use Rattle.hub_top.proofs.Solved.{demo_answers, solve_answers}
use Rattle.hub_searches.proofs.Solutions.{found_proved}
use Rattle.hub_top.proofs.top.answer.Goals as goal

pub returns-in-Found-clause-may : goal.returns-in-Found-clause-may
returns-in-Found-clause-may g c =
    let s = solving_of c.in-Solve.solving in
    let p = c.in-Found.instance in
    let held = g.S.Shelf.held c.args.shelf.now in
    let solution : IsSolution held s p c.in-Found.found = subst (ComesTo held s) c.in-Found.is c.in_ok-instance-in-Solve.ensures.solved in
    let asked : IsSolving s = subst (λ (x : Command). IfSome (solved (request_of x)) IsSolving) c.in-Solve.is c.requires.solvings in
    (solve s, rw c.in-Solve.is refl, solve_answers held s p c.in-Found.found asked solution)

pub returns-in-Found-clause-writable : goal.returns-in-Found-clause-writable
returns-in-Found-clause-writable g c =
    let s = solving_of c.in-Solve.solving in
    let held = g.S.Shelf.held c.args.shelf.now in
    let solution : IsSolution held s c.in-Found.instance c.in-Found.found = subst (ComesTo held s) c.in-Found.is c.in_ok-instance-in-Solve.ensures.solved in (
      found_proved held c.in-Found.instance s.how s.search c.in-Found.found solution.found_by,
      subst (λ (x : Command). IfSome (search_of (request_of x)) IsSearch) c.in-Solve.is c.requires.searches,
    )

pub returns-in_ok-found-in-Demo-clause-may : goal.returns-in_ok-found-in-Demo-clause-may
returns-in_ok-found-in-Demo-clause-may g c =
    let m = making_seen c.in-Demo.making in
    let asked = search_seen c.in-Demo.search in (
      demo m asked,
      rw c.in-Demo.is refl,
      demo_answers (g.S.Shelf.held c.args.shelf.now) m asked m.size c.in_ok-found-in-Demo.found (made_size m) c.in_ok-found-in-Demo.ensures,
    )
