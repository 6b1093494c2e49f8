-- A proof with no mark is in range, and holds, as the proof does.
use Rattle.std.proofs.Common.{◌≡◌, List, [], ◌∷◌, length, None}
use Rattle.std.specs.Prelude.{replicate}
use Rattle.std.specs.List.{AllZip}
use Rattle.hub_spec.specs.Problem.{Problem}
use Rattle.hub_spec.specs.Cuts.{Cut}
use Rattle.hub_spec.specs.Certificates.{Proof, Holds}
use Rattle.cert_spec.specs.Stated.{unmarked, IsAsMarked, IsStatedOf}

-- no mark asks nothing
none_ask : (p : Problem) (cuts : List Cut) → AllZip (IsAsMarked p) cuts (replicate (length cuts) None)
none_ask p [] = tt
none_ask p (cut ∷ cuts) = (tt, none_ask p cuts)

pub unmarked_holds : (p : Problem) (k : Proof) → Holds p k → IsStatedOf p (unmarked k)
unmarked_holds p k h = record { holds = h; marks = none_ask p k.cuts }
