-- How the check of all bytes ends.
use Rattle.std.proofs.Common.{◌≡◌, ℕ, ◌<◌, ◌≤◌, false, List, length, Option, None, sym, subst, ◌∙◌, arith}
use Rattle.hub_spec.specs.Problem.{Problem, IsProblem}
use Rattle.core_spec.proofs.Undominated.{core_is_undominated}
use Rattle.cert_spec.specs.Stated.{Stated}
use Rattle.cert_spec.specs.Text.{Spells}
use Rattle.cert_spec.specs.Verdicts.{Verdict, optimal, bounds, fails, misread, too_long, Why, certificate_limit}
use Rattle.cert_spec.proofs.VerdictLemmas.{holds_by_lines}
use Rattle.cert_spec.proofs.OneText.{one_certificate_lem}
use Rattle.cert_spec.proofs.MarkedCuts.{undominated_from}
use Rattle.cert_checker.specs.Shows.{verdict_of, ProvesMarks}
use Rattle.cert_checker.specs.declared.verdicts.Ending.{Ending}
use Rattle.cert_checker.specs.declared.verdicts.Ending.TheVariants.{Optimal, Bounds, No, BadLine, Ended, TooLong}
use Rattle.cert_scan.specs.Parts.{items_of}
use Rattle.cert_scan.specs.Scanned.{AreCountable, Tells}
use Rattle.cert_scan.specs.declared.items.Item.{Item}
use Rattle.cert_scan.specs.declared.items.Fault.{Fault}
use Rattle.cert_conditions.specs.Taken.{HasTaken}
use Rattle.cert_checker.specs.Fed.{HasCome, HasFedUnless, HasFed, EndsAs}
use Rattle.cert_checker.specs.declared.streams.Stream.{Stream}

-- the bytes are not too many, and a scan of them gave what the check took
pub record AreCome (bytes : List ℕ) (s : Stream) : Type 0 where
  pub short : length bytes ≤ certificate_limit
  pub few : AreCountable bytes
  pub given : List Item
  pub come : HasCome bytes given s

pub are_come : (bytes : List ℕ) (s : Stream) → s.is_too_long ≡ false → HasFed bytes s → AreCome bytes s
are_come bytes s e h =
    let f = subst (λ b. HasFedUnless b bytes s) e h in
    record { short = omega (arith, f.0); few = omega (arith, f.0); given = f.1.0; come = f.1.1 }

-- the bytes spell a certificate, and the check took its items
pub record IsRead (bytes : List ℕ) (s : Stream) : Type 0 where
  pub certificate : Stated
  pub spelled : Spells bytes certificate
  pub taken : HasTaken (items_of certificate) s.checks

pub is_read : (bytes : List ℕ) (s : Stream) (fault : Option Fault) (a : AreCome bytes s) → fault ≡ None → Tells bytes fault
    → ((k : Stated) → Spells bytes k → a.given ≡ items_of k) → IsRead bytes s
is_read bytes s fault a none tells items =
    let k = tells.whole.0 none in
    record { certificate = k.0; spelled = k.1; taken = subst (λ g. HasTaken g s.checks) (items k.0 k.1) a.come.taken }

pub why_ends : (p : Problem) (bytes : List ℕ) (k : Stated) (e : Ending) → length bytes ≤ certificate_limit → Spells bytes k → EndsAs p k e
    → Why p bytes (verdict_of e)
why_ends p bytes k (Optimal cost) short spells h = record {
  not_too_long = short;
  certificate = (k, spells, (holds_by_lines p k spells.in_range).0 h.0, h.1 ∙ sym h.2, sym h.2);
}
why_ends p bytes k (Bounds bound cost) short spells h = (
  omega (arith, h.1, h.2, h.3),
  record {
    not_too_long = short;
    certificate = (k, spells, (holds_by_lines p k spells.in_range).0 h.0, sym h.2, sym h.3);
  },
)
why_ends p bytes k (No kind line) short spells h =
    (short, (k, spells, h))
why_ends p bytes k (BadLine line) short spells h = absurd h
why_ends p bytes k (Ended line) short spells h = absurd h
why_ends p bytes k TooLong short spells h = absurd h

-- what the marked cuts are
pub marks_shown : (p : Problem) (bytes : List ℕ) (verdict : Verdict) → IsProblem p → Why p bytes verdict → ProvesMarks p bytes verdict
marks_shown p bytes (optimal cost) ok why =
    λ k x y mark spells marked. undominated_from one_certificate_lem core_is_undominated p bytes cost cost k x y mark ok why spells marked
marks_shown p bytes (bounds bound cost) ok why =
    λ k x y mark spells marked. undominated_from one_certificate_lem core_is_undominated p bytes bound cost k x y mark ok why.1 spells marked
marks_shown p bytes (fails kind line) ok why = tt
marks_shown p bytes (misread fault) ok why = tt
marks_shown p bytes too_long ok why = tt
