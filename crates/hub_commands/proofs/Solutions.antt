-- The text states what the requested search found for an instance.
use Rattle.std.proofs.Common.{◌≡◌, ℕ, List, Option, inr, sym, subst}
use Rattle.hub_io.specs.Outside.{Files}
use Rattle.hub_spec.specs.Problem.{Problem}
use Rattle.search_spec.specs.Again.{start_of}
use Rattle.file_spec.specs.Options.{Options}
use Rattle.cut_pool.specs.declared.found.Found.{Found}
use Rattle.cut_pool.specs.Findings.{IsProved}
use Rattle.proof_text.specs.Texts.{found_text}
use Rattle.hub_words.specs.Requests.{How, follow, again, freely, gap_of, IsGap, Search, IsAllowed, SaysLimits, Solving, IsSolving, solve}
use Rattle.hub_commands.specs.declared.status.Status.{Status}
use Rattle.hub_commands.specs.declared.status.Status.TheVariants.{Done, Stopped}
use Rattle.hub_commands.specs.Methods.{Course, cold, warm, method_of}
use Rattle.hub_commands.specs.Instances.{SolvesBy, StopsBy}
use Rattle.hub_commands.specs.Older.{BegunAt}
use Rattle.hub_commands.specs.Statuses.{finding_status}
use Rattle.hub_sources.specs.Building.{KeepsLimits}
use Rattle.hub_commands.specs.Solving.{IsSearched, IsClosed, IsFoundBy, IsSolution, GoesBy}
use Rattle.hub_commands.proofs.Versions.{said_version, rule_version}
use Rattle.hub_commands.proofs.Searched.{ruled_status}
use Rattle.hub_commands.proofs.OlderCertificates.{begun_may}
use Rattle.hub_commands.proofs.Optimized.{free_status}

-- what a search on this course found is what was requested
pub ruled_found : (held : Option Files) (p : Problem) (how : How) (q : Search) (course : Course) (found : Found) → GoesBy held p how course
    → IsSearched p q.nodes course found → IsFoundBy held p how q found
ruled_found held p (follow rule) q course found goes h = subst (λ (x : Course). IsSearched p q.nodes x found) goes h
ruled_found held p (again older) q course found goes h = (goes.0, goes.1, subst (λ (x : Course). IsSearched p q.nodes x found) goes.2 h)
ruled_found held p (freely gap from) q course found goes h = absurd goes

-- and what one that follows no rule found
pub free_found : (held : Option Files) (p : Problem) (how : How) (q : Search) (gap : ℕ) (from : Option (List ℕ)) (found : Found)
    → how ≡ freely gap from → BegunAt held p how found.cost → IsClosed p q.nodes gap found → IsFoundBy held p how q found
free_found held p how q gap from found is begun h =
    subst (λ (x : How). BegunAt held p x found.cost → IsFoundBy held p x q found) (sym is) (λ at. (h, at)) begun

-- it is proved of the problem
pub found_proved : (held : Option Files) (p : Problem) (how : How) (q : Search) (found : Found) → IsFoundBy held p how q found → IsProved p found
found_proved held p (follow rule) q found h = h.proved
found_proved held p (again older) q found h = h.2.proved
found_proved held p (freely gap from) q found h = h.0.proved

-- its gap is within the limit
pub free_gap : (how : How) (gap : ℕ) (from : Option (List ℕ)) → how ≡ freely gap from → IsGap (gap_of how) → IsGap gap
free_gap how gap from is within = subst (λ (x : How). IsGap (gap_of x)) is within

-- its text solves the instance or stops
pub by_how : (held : Option Files) (p : Problem) (how : How) (q : Search) (o : Options) (found : Found) (P : Status → Type 0) → KeepsLimits o p
    → IsAllowed how o q.version → SaysLimits o q.version → IsFoundBy held p how q found
    → (SolvesBy held p how q (found_text q.version p found) → P Done)
    → (StopsBy held p how q (found_text q.version p found) → P Stopped) → P (finding_status found)
by_how held p (follow rule) q o found P keeps allowed says h done stopped =
    ruled_status p (method_of q (cold rule)) found P (rule_version o q.version rule p found keeps h.remade allowed says) h done stopped
by_how held p (again older) q o found P keeps allowed says h done stopped =
    ruled_status p (method_of q (warm (start_of h.0.proof))) found P (inr allowed) h.2
    (λ solves. done (record { older = h.0; older_held = h.1; second = allowed; is = solves }))
    (λ stops. stopped (record { older = h.0; older_held = h.1; second = allowed; is = stops }))
by_how held p (freely gap from) q o found P keeps allowed says h done stopped =
    free_status p q gap found P (said_version o q.version p found.cuts.cuts keeps h.0.own allowed says) h.0
    (λ optimizes. done (optimizes, begun_may held p (freely gap from) found.cost h.1))
    (λ leaves. stopped (leaves.0, subst (BegunAt held p (freely gap from)) (sym leaves.1) h.1))
