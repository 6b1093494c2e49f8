use Rattle.std.proofs.Common.{◌≡◌, take}
use Rattle.cert_checker.proofs.older.list_dual.Given as goal

abbrev pub invariant-loop-at : goal.invariant-loop-at
invariant-loop-at l =
    l.line ≡ record {
      problem = l.fn.line.problem;
      commodity = l.fn.commodity;
      part = l.part;
      run = 1;
      dual = record { a = l.dual.a; u = take l.at l.dual.u };
    }
