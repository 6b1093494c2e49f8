-- The cut that is found for a hub set is Pareto-optimal.
use Rattle.std.proofs.Common.{◌≡◌, ℕ, ◌*◌, ◌/◌, ◌≤◌, List, [], ◌∷◌, length, map, zip, nat_eq, All, Contains, refl, sym, ap, ◌∙◌, subst, arith}
use Rattle.std.specs.List.{AllZip}
use Rattle.std.specs.Int.{◌∣◌}
use Rattle.std.proofs.Math.Nat.{div-mul_cancel, dvd-mul_left_of_dvd}
use Rattle.std.proofs.lemmas.List.{length-map}
use Rattle.std.proofs.lemmas.List.Elements.{All-head, All-tail, All-map, All-weaker}
use Rattle.hub_spec.specs.Problem.{Problem, flow, commodities}
use Rattle.hub_spec.specs.Cuts.{Prices, value_at, IsDual}
use Rattle.hub_spec.specs.Plans.{IsHubSet}
use Rattle.hub_spec.proofs.SumLemmas.{by_test}
use Rattle.core_spec.specs.CoreCuts.{CoreProof, IsByFlow, IsCoreDual}
use Rattle.core_spec.specs.Theorems.{IsTimes}
use Rattle.core_spec.proofs.Scaled.{core_is_scaled}
use Rattle.core_cuts.specs.FoundCuts.{times_values, brought, proofs_of, IsFitDual}
use Rattle.core_cuts.specs.Readings.{most_units, FoundDual, IsFound}
use Rattle.core_cuts.specs.Theorems.{IsAsked, CoredIsCore}
use Rattle.core_cuts.proofs.CommonParts.{each_divides}
use Rattle.core_cuts.proofs.Duals.{found_core}
use Rattle.core_cuts.proofs.FoundSounds.{all_asked}

pub value_times : (n : ℕ) (u : List (ℕ × ℕ)) (k : ℕ) → value_at (times_values n u) k ≡ n * value_at u k
value_times n [] k = omega arith
value_times n (e ∷ u) k = by_test (nat_eq e.0 k) (λ t. rw t refl) (λ t. rw t (value_times n u k))

value_most : (most : ℕ) (u : List (ℕ × ℕ)) (k : ℕ) → All (λ (e : ℕ × ℕ). e.1 ≤ most) u → value_at u k ≤ most
value_most most [] k few = omega arith
value_most most (e ∷ u) k few =
    by_test (nat_eq e.0 k) (λ t. rw t (All-head (λ (x : ℕ × ℕ). x.1 ≤ most) e u few))
    (λ t. rw t (value_most most u k (All-tail (λ (x : ℕ × ℕ). x.1 ≤ most) e u few)))

core_brought : (p : Problem) (hubs : List ℕ) (e : ℕ) (c : ℕ × ℕ) (f : FoundDual) → IsAsked p hubs c → IsFound p hubs c f → f.part ∣ e
    → IsFitDual p c (brought e f) → IsDual p e c (brought e f) × IsCoreDual p hubs e c (brought e f) f.proof
core_brought p hubs e c f asked found divides fit =
    let n = e / f.part in
    let w = flow p c.0 c.1 in
    let u = times_values n f.dual.u in
    let core = found_core p hubs c f asked found in
    let times : IsTimes p n f.dual (brought e f) = record {
      price_is = refl;
      values_are = λ k here. value_times n f.dual.u k;
      are_candidates = All-map (λ (x : ℕ × ℕ). Contains p.candidates x.0) (λ (x : ℕ × ℕ). (x.0, n * x.1)) f.dual.u core.0.are_candidates;
    } in
    let price : IsByFlow w (n * f.dual.a) = record { divides = dvd-mul_left_of_dvd w core.1.price_by_flow.divides n; limit = fit.price } in
    let values = All-weaker (λ k. IsByFlow w (value_at f.dual.u k)) (λ k. IsByFlow w (value_at u k)) (λ k by. record {
      divides = subst (λ (x : ℕ). w ∣ x) (sym (value_times n f.dual.u k)) (dvd-mul_left_of_dvd w by.divides n);
      limit = value_most (most_units * w) u k fit.values;
    }) p.candidates core.1.values_by_flow in
    subst (λ (m : ℕ). IsDual p m c (brought e f) × IsCoreDual p hubs m c (brought e f) f.proof) (div-mul_cancel f.part divides)
    (core_is_scaled p hubs f.part n c f.dual (brought e f) f.proof asked.set core.0 core.1 times price values)

-- ---- of all commodities

abbrev proves : Problem → List ℕ → ℕ → ℕ × ℕ → Prices × CoreProof → Type 0
proves p hubs e c t = IsCoreDual p hubs e c t.0 t.1

all_core : (p : Problem) (hubs : List ℕ) (e : ℕ) (cs : List (ℕ × ℕ)) (fs : List FoundDual) → All (IsAsked p hubs) cs → AllZip (IsFound p hubs) cs fs
    → All (λ (f : FoundDual). f.part ∣ e) fs → AllZip (IsFitDual p) cs (map (brought e) fs)
    → AllZip (IsDual p e) cs (map (brought e) fs) × AllZip (proves p hubs e) cs (zip (map (brought e) fs) (proofs_of fs))
all_core p hubs e [] [] asked are divide fit = (tt, tt)
all_core p hubs e [] (f ∷ fs) asked are divide fit = absurd are
all_core p hubs e (c ∷ cs) [] asked are divide fit = absurd are
all_core p hubs e (c ∷ cs) (f ∷ fs) asked are divide fit =
    let here = core_brought p hubs e c f (All-head (IsAsked p hubs) c cs asked) are.0 (All-head (λ (x : FoundDual). x.part ∣ e) f fs divide) fit.0 in
    let rest = all_core p hubs e cs fs (All-tail (IsAsked p hubs) c cs asked) are.1 (All-tail (λ (x : FoundDual). x.part ∣ e) f fs divide) fit.1 in
    ((here.0, rest.0), (here.1, rest.1))

pub cored_core : CoredIsCore
cored_core p hubs x asked cored =
    let is = cored.is_cut_of in
    let e = x.cut.part in
    let cs = commodities p.size in
    let fs = is.founds in
    let fit = subst (λ (ds : List Prices). AllZip (IsFitDual p) cs ds) is.duals cored.fit.duals in
    let both = all_core p hubs e cs fs (all_asked p hubs asked.problem cored.may asked.set) is.each (each_divides fs e is.part.common) fit in
    let with_duals = subst (λ (ds : List Prices). AllZip (proves p hubs e) cs (zip ds (proofs_of fs))) (sym is.duals) both.1 in
    let with_proofs = subst (λ (ps : List CoreProof). AllZip (proves p hubs e) cs (zip x.cut.duals ps)) (sym is.proofs) with_duals in
    record {
      may = cored.may;
      is_cut = record {
        part_least = is.part.common.some;
        part_most = cored.fit.part_most;
        duals = subst (λ (ds : List Prices). AllZip (IsDual p e) cs ds) (sym is.duals) both.0;
        sums = cored.fit.sums;
      };
      hubs = subst (IsHubSet p) (sym is.of_hubs) asked.set;
      one_proof_each = ap length is.proofs ∙ length-map fs (λ (f : FoundDual). f.proof) ∙ sym (length-map fs (brought e)) ∙ sym (ap length is.duals);
      proofs = subst (λ (hs : List ℕ). AllZip (proves p hs e) cs (zip x.cut.duals x.mark.proofs)) (sym is.of_hubs) with_proofs;
    }
