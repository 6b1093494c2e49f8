-- The cut that is found for a hub set is within the ranges of a certificate, and tight at the hubs.
use Rattle.std.proofs.Common.{◌≡◌, ℕ, ◌*◌, ◌<◌, ◌≤◌, List, length, get_or, map, All, inr, refl, sym, ap, ◌∙◌, subst, mul-le-mul_right, arith}
use Rattle.std.specs.Int.{◌∣◌}
use Rattle.std.specs.List.{AllZip}
use Rattle.std.proofs.Math.Nat.{div-mul_cancel}
use Rattle.std.proofs.lemmas.List.{length-map}
use Rattle.std.proofs.lemmas.List.Elements.{All-map, All-contains}
use Rattle.hub_spec.specs.Cuts.{Prices, IsTight}
use Rattle.hub_spec.specs.Limits.{most_cost}
use Rattle.hub_spec.specs.Problem.{Problem, commodities}
use Rattle.hub_spec.specs.Ranges.{IsDualInRange}
use Rattle.hub_spec.proofs.Limits.{hubs_are_nodes}
use Rattle.core_spec.specs.CoreCuts.{Way, CoreProof, MayBeMarked}
use Rattle.core_spec.specs.MarkRanges.{most_taken, IsProofInRange, AreMarkHubs}
use Rattle.core_spec.proofs.Undominated.{core_is_tight}
use Rattle.core_cuts.specs.FoundCuts.{brought, brought_cut, IsFitCut}
use Rattle.core_cuts.specs.Readings.{proof_of, FoundDual, found_of, IsFound}
use Rattle.core_cuts.specs.Theorems.{IsAsked, IsAskedSet, CoredServes}
use Rattle.core_cuts.proofs.CommonParts.{each_divides}
use Rattle.core_cuts.proofs.CoredCuts.{cored_core}
use Rattle.core_cuts.proofs.Duals.{found_core}
use Rattle.core_cuts.proofs.FoundSounds.{zipped_all, all_asked, all_sound, founds_long}
use Rattle.core_cuts.proofs.TimesDuals.{brought_range, fit_within}
use Rattle.core_cuts.proofs.WayOrder.{found_ordered}

-- ---- the proof of a dual

turns_are : (p : Problem) (hubs : List ℕ) (c : ℕ × ℕ) (f : FoundDual) → IsFound p hubs c f → f.proof.turns ≡ length p.candidates
unfolding found_of proof_of
turns_are p hubs c f (r, reading, fit, is) = ap (λ (d : FoundDual). d.proof.turns) is

proof_range : (p : Problem) (hubs : List ℕ) (c : ℕ × ℕ) (f : FoundDual) → IsAsked p hubs c → IsFound p hubs c f → IsProofInRange p.size f.proof
unfolding found_of
proof_range p hubs c f asked (r, reading, fit, is) =
    let found : IsFound p hubs c f = (r, reading, fit, is) in
    let cover = (found_core p hubs c f asked found).1.cover in
    let order = found_ordered p hubs c f asked found in
    let same = ap (λ (d : FoundDual). d.proof) is in
    let ways = subst (λ (ws : List Way). All (λ (w : Way). w.2 ≤ most_taken) ws) (sym (ap (λ (m : CoreProof). m.ways) same)) fit.short.taken in
    record {
      turns = omega (arith, turns_are p hubs c f found, asked.may.few_candidates);
      some_scale = cover.some_scale;
      scale = omega (arith, ap (λ (m : CoreProof). m.scale) same, fit.short.scale);
      ascend = order.0;
      each = λ k d l. record {
        nodes = (order.1 k d l).nodes;
        last = All-contains (λ (m : ℕ). m < p.size) p.candidates (get_or f.proof.ways k d).1 asked.problem.candidates_are_nodes (cover.by_candidates k d l).1;
        some = (order.1 k d l).some;
        most = ways k d l;
      };
    }

-- ---- the duals of the cut

duals_range : (p : Problem) (hubs : List ℕ) (e : ℕ) (fs : List FoundDual) → IsAskedSet p hubs → MayBeMarked p → AllZip (IsFound p hubs) (commodities p.size) fs
    → 1 ≤ e → All (λ (f : FoundDual). f.part ∣ e) fs → IsFitCut p (brought_cut e fs) → All (IsDualInRange p.size) (map (brought e) fs)
duals_range p hubs e fs asked may are some divide fit =
    let sound = all_sound p hubs (commodities p.size) fs (all_asked p hubs asked.problem may asked.set) are in
    All-map (IsDualInRange p.size) (brought e) fs (λ t d l.
    brought_range p e (e * most_cost) (get_or fs t d) asked.problem (sound t d l) (divide t d l) some (mul-le-mul_right most_cost fit.part_most)
    (fit_within p e t (e * most_cost) fs d l (founds_long p hubs fs are) (sound t d l) (inr refl) fit))

pub cored_serves : CoredServes
cored_serves p hubs x asked cored =
    let is = cored.is_cut_of in
    let fs = is.founds in
    let e = x.cut.part in
    let core = cored_core p hubs x asked cored in
    let long = founds_long p hubs fs is.each in
    let fit = subst (λ (ds : List Prices). IsFitCut p (record { part = e; duals = ds })) is.duals cored.fit in
    let proofs = zipped_all (IsAsked p hubs) (IsFound p hubs) (λ (f : FoundDual). IsProofInRange p.size f.proof) (λ c f. proof_range p hubs c f)
    (commodities p.size) fs (all_asked p hubs asked.problem cored.may asked.set) is.each in
    record {
      core = core;
      hubs = is.of_hubs;
      cut_in_range = record {
        part_least = is.part.common.some;
        part_most = cored.fit.part_most;
        one_for_each = ap length is.duals ∙ length-map fs (brought e) ∙ long;
        each = subst (All (IsDualInRange p.size)) (sym is.duals)
            (duals_range p hubs e fs asked cored.may is.each is.part.common.some (each_divides fs e is.part.common) fit);
      };
      mark_in_range = record {
        hubs = subst (AreMarkHubs p.size) (sym is.of_hubs)
            (record { some = asked.set.some_hub; ascend = asked.set.ascend; nodes = hubs_are_nodes p hubs asked.problem.limits asked.set });
        one_for_each = ap length is.proofs ∙ length-map fs (λ (f : FoundDual). f.proof) ∙ long;
        each = subst (All (IsProofInRange p.size)) (sym is.proofs) (All-map (IsProofInRange p.size) (λ (f : FoundDual). f.proof) fs proofs);
      };
      tight = subst (λ (hs : List ℕ). IsTight p hs x.cut) is.of_hubs (core_is_tight p x.cut x.mark core);
      whole = div-mul_cancel e cored.fit.part_divides;
    }
