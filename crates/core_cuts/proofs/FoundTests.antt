-- What the tests of a reading tell.
use Rattle.std.proofs.Common.{◌≡◌, ℕ, ◌+◌, ◌*◌, ◌/◌, ◌%◌, ◌≤◌, Bool, true, false, cond, ◌&&◌, nat_eq, nat_le, Decides, None, Some, List, sum_by, All, refl, sym}
use Rattle.std.specs.List.{list_all}
use Rattle.std.proofs.lemmas.Bool.{eqb-true, eq-eqb, leb-true, le-leb}
use Rattle.std.proofs.lemmas.Bool.Decides.{Decides-and, Decides-by_and}
use Rattle.std.proofs.lemmas.Option.{none-some}
use Rattle.hub_spec.specs.Edges.{least_cost}
use Rattle.hub_spec.specs.Limits.{most_part}
use Rattle.hub_spec.specs.Problem.{Problem, flow}
use Rattle.core_spec.specs.CoreCuts.{Way, CoreProof}
use Rattle.core_spec.specs.MarkRanges.{most_scale, most_taken}
use Rattle.core_cuts.specs.declared.ratios.Ratio.{Ratio}
use Rattle.core_cuts.specs.BasicRatios.{IsWholeAt}
use Rattle.core_cuts.specs.Finding.{are_whole, is_tight_reading, is_short_proof, is_fit}
use Rattle.core_cuts.specs.Readings.{Reading, value_of, most_units, proof_of, IsShortProof, IsFit}

pub le_decides : (a b : ℕ) → Decides (nat_le a b) (a ≤ b)
le_decides a b = (leb-true a b, le-leb a b)

pub eq_decides : (a b : ℕ) → Decides (nat_eq a b) (a ≡ b)
eq_decides a b = (eqb-true a b, eq-eqb a b)

pub all_decides : {X : Type 0} (test : X → Bool) (P : X → Type 0) → ((x : X) → Decides (test x) (P x)) → (xs : List X) → Decides (list_all test xs) (All P xs)
all_decides test P each xs = Decides-by_and test P (list_all test) each refl (λ _ _. refl) xs

-- nothing is given where the test fails
pub cond_none : {X : Type 0} (b : Bool) (x : X) → cond b (Some x) None ≡ None → b ≡ false
cond_none true x none = absurd (none-some x (sym none))
cond_none false x none = refl

-- ---- ratios, proofs and readings

pub whole_decides : (rs : List Ratio) (e : ℕ) → Decides (are_whole rs e) (All (IsWholeAt e) rs)
whole_decides rs e =
    all_decides (λ (r : Ratio). nat_eq (e * r.right % r.over) 0) (IsWholeAt e) (λ r. eq_decides (e * r.right % r.over) 0) rs

short_decides : (proof : CoreProof) → Decides (is_short_proof proof) (IsShortProof proof)
short_decides proof =
    let scale = nat_le proof.scale most_scale in
    let taken = list_all (λ (w : Way). nat_le w.2 most_taken) proof.ways in
    let both = Decides-and scale taken (le_decides proof.scale most_scale)
    (all_decides (λ (w : Way). nat_le w.2 most_taken) (λ (w : Way). w.2 ≤ most_taken) (λ w. le_decides w.2 most_taken) proof.ways) in
    (λ t. (let h = both.0 t in record { scale = h.0; taken = h.1 }), λ short. both.1 (short.scale, short.taken))

pub fit_decides : (p : Problem) (hubs : List ℕ) (c : ℕ × ℕ) (r : Reading) → Decides (is_fit p hubs c r) (IsFit p hubs c r)
unfolding is_fit
fit_decides p hubs c r =
    let tight = is_tight_reading p hubs c r in
    let part = nat_le r.part most_part in
    let price = nat_le r.price most_units in
    let values = list_all (λ v. nat_le v most_units) r.values in
    let short = is_short_proof (proof_of p hubs c) in
    let all = Decides-and tight (part && (price && (values && short)))
    (eq_decides r.price (r.part * (least_cost p hubs c / flow p c.0 c.1) + sum_by (value_of p r) hubs))
    (Decides-and part (price && (values && short)) (le_decides r.part most_part)
    (Decides-and price (values && short) (le_decides r.price most_units)
    (Decides-and values short (all_decides (λ v. nat_le v most_units) (λ v. v ≤ most_units) (λ v. le_decides v most_units) r.values)
    (short_decides (proof_of p hubs c))))) in (
      λ t. (let h = all.0 t in record { is_tight = record { tight = h.0 }; part = h.1.0; price = h.1.1.0; values = h.1.1.1.0; short = h.1.1.1.1 }),
      λ fit. all.1 (fit.is_tight.tight, (fit.part, (fit.price, (fit.values, fit.short)))),
    )
