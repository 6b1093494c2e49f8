-- What is read of a run; and where a commodity and the way back have the same ways at the same costs, what is read is the same.
use Rattle.std.proofs.Common.{◌≡◌, ℕ, ◌<◌, Option, None, Some, IfSome, Result, Ok, Err, IfOk, List, ℤ, inr, refl, sym, ap, ap₂, ◌∙◌, subst, arith}
use Rattle.hub_spec.specs.Limits.{most_part}
use Rattle.hub_spec.specs.Problem.{Problem}
use Rattle.core_spec.specs.CoreCuts.{CoreProof}
use Rattle.frac_rows.specs.Rows.{Table}
use Rattle.frac_rows.specs.Runs.{Outcome, run}
use Rattle.frac_rows.specs.Starts.{start}
use Rattle.frac_rows.specs.declared.ended.Ended.TheVariants.{Best}
use Rattle.core_cuts.specs.CoreTables.{core_edges, core_rights, core_table}
use Rattle.core_cuts.specs.Ahead.{AreWays, IsReadOff, IsRead}
use Rattle.core_cuts.specs.BasicRatios.{IsLeastReading}
use Rattle.core_cuts.specs.Bodies.{table_proof}
use Rattle.core_cuts.specs.Readings.{Reading, core_run, IsReading, ways_at, proof_of, IsNotFound}
use Rattle.core_cuts.specs.declared.core_duals.UnitDual.{UnitDual}
use Rattle.core_cuts.proofs.LaidRows.{laid_columns}

-- ---- what is read of the last table of a run

proof_is : (p : Problem) (hubs : List ℕ) (c : ℕ × ℕ) → proof_of p hubs c ≡ table_proof p.candidates (core_edges p c) (core_run p hubs c).table
unfolding proof_of ways_at
proof_is p hubs c = refl

read_of : (p : Problem) (hubs : List ℕ) (c : ℕ × ℕ) (r : Reading) (proof : CoreProof) → (core_run p hubs c).ended ≡ Best
    → IsReadOff p (core_run p hubs c).table (core_edges p c) r proof → IsRead p hubs c r proof
read_of p hubs c r proof best off = record {
  reading = record { best = best; whole = off.least.whole; least = off.least.least };
  part = off.part;
  by_run = off.by_table ∙ sym (proof_is p hubs c);
}

pub all_read : {E : Type 0} (p : Problem) (hubs : List ℕ) (c : ℕ × ℕ) (t : Table) (edges : List (ℕ × ℕ)) (o : Result (Option UnitDual) E)
    → t ≡ (core_run p hubs c).table → edges ≡ core_edges p c → (core_run p hubs c).ended ≡ Best
    → IfOk o (λ found. IfSome found (λ u. IsReadOff p t edges u.prices u.proof)) → IfOk o (λ found. IfSome found (λ u. IsRead p hubs c u.prices u.proof))
all_read p hubs c t edges (Ok None) last ways best off = tt
all_read p hubs c t edges (Ok (Some u)) last ways best off =
    read_of p hubs c u.prices u.proof best
    (subst (λ (x : Table). IsReadOff p x (core_edges p c) u.prices u.proof) last
    (subst (λ (es : List (ℕ × ℕ)). IsReadOff p t es u.prices u.proof) ways off))
all_read p hubs c t edges (Err e) last ways best off = tt

-- a table whose least reading has too great a part
abbrev pub IsTooGreat : Problem → Table → Type 0
IsTooGreat p t = (r : Reading) × IsLeastReading p t r × (most_part < r.part)

not_read : (p : Problem) (hubs : List ℕ) (c : ℕ × ℕ) → (core_run p hubs c).ended ≡ Best → IsTooGreat p (core_run p hubs c).table → IsNotFound p hubs c
not_read p hubs c best (r, least, high) =
    inr (r, record { best = best; whole = least.whole; least = least.least }, λ fit. absurd (omega (arith, fit.part, high)))

pub none_read : {E : Type 0} (p : Problem) (hubs : List ℕ) (c : ℕ × ℕ) (t : Table) (o : Result (Option UnitDual) E)
    → t ≡ (core_run p hubs c).table → (core_run p hubs c).ended ≡ Best
    → IfOk o (λ found. found ≡ None → IsTooGreat p t) → IfOk o (λ found. found ≡ None → IsNotFound p hubs c)
none_read p hubs c t (Ok found) last best none = λ is. not_read p hubs c best (subst (IsTooGreat p) last (none is))
none_read p hubs c t (Err e) last best none = tt

-- ---- the way back

same_table : (p : Problem) (hubs : List ℕ) (c back : ℕ × ℕ) → core_edges p c ≡ core_edges p back → core_rights p c ≡ core_rights p back
    → core_table p hubs c ≡ core_table p hubs back
unfolding core_table
same_table p hubs c back ways costs =
    ap₂ (λ (es : List (ℕ × ℕ)) (rs : List ℤ). start (laid_columns p.candidates hubs es) rs) ways costs

same_run : (p : Problem) (hubs : List ℕ) (c back : ℕ × ℕ) → core_table p hubs c ≡ core_table p hubs back → core_run p hubs c ≡ core_run p hubs back
unfolding core_run
same_run p hubs c back tables = ap run tables

same_proof : (p : Problem) (hubs : List ℕ) (c back : ℕ × ℕ) → core_edges p c ≡ core_edges p back → core_run p hubs c ≡ core_run p hubs back
    → proof_of p hubs c ≡ proof_of p hubs back
same_proof p hubs c back ways runs =
    proof_is p hubs c ∙ ap₂ (λ (es : List (ℕ × ℕ)) (o : Outcome). table_proof p.candidates es o.table) ways runs ∙ sym (proof_is p hubs back)

-- what is said of a reading by the run alone
IsOf : Problem → Reading → Outcome → Type 0
IsOf p r o = (o.ended ≡ Best) × IsLeastReading p o.table r

same_reading : (p : Problem) (hubs : List ℕ) (c back : ℕ × ℕ) (r : Reading) → core_run p hubs c ≡ core_run p hubs back → IsReading p hubs c r
    → IsReading p hubs back r
unfolding IsOf
same_reading p hubs c back r runs reading =
    let of : IsOf p r (core_run p hubs c) = (reading.best, record { whole = reading.whole; least = reading.least }) in
    let also = subst (IsOf p r) runs of in
    record { best = also.0; whole = also.1.whole; least = also.1.least }

-- the same ways at the same costs are read the same
pub read_back : (p : Problem) (hubs : List ℕ) (c back : ℕ × ℕ) (edges others : List (ℕ × ℕ)) (rights costs : List ℤ) (r : Reading) (proof : CoreProof)
    → AreWays p c edges rights → AreWays p back others costs → edges ≡ others → rights ≡ costs → IsRead p hubs c r proof → IsRead p hubs back r proof
read_back p hubs c back edges others rights costs r proof ways ways_back same_ways same_costs read =
    let ways_are = sym ways.ways ∙ same_ways ∙ ways_back.ways in
    let costs_are = sym ways.costs ∙ same_costs ∙ ways_back.costs in
    let runs = same_run p hubs c back (same_table p hubs c back ways_are costs_are) in
    record {
      reading = same_reading p hubs c back r runs read.reading;
      part = read.part;
      by_run = read.by_run ∙ same_proof p hubs c back ways_are runs;
    }
