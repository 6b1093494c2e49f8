-- Duals that the workspace makes: they are those of the stored cut.
use Rattle.std.proofs.Common.{◌≡◌, ℕ, ◌+◌, ◌*◌, ◌<◌, ◌≤◌, List, length, map, All, refl, sym, ap, subst, ◌∙◌, div-add-mod', arith}
use Rattle.std.proofs.lemmas.List.{length-map, get_or-map, ext_get_or}
use Rattle.std.proofs.lemmas.List.Elements.{All-get_or, All-weaker, All-map}
use Rattle.hub_spec.specs.Problem.{Problem, IsProblem, commodities}
use Rattle.hub_spec.specs.Cuts.{Prices, Cut}
use Rattle.hub_spec.specs.Limits.{most_nodes}
use Rattle.hub_spec.specs.Ranges.{IsAmount, IsDualInRange}
use Rattle.hub_spec.specs.Separation.{set_cut}
use Rattle.hub_spec.proofs.Commodities.{commodity_index, commodity_at, commodity_at_index, length_commodities}
use Rattle.hub_spec.proofs.Limits.{few_candidates}
use Rattle.cut_model.specs.ValueRows.{value_cut}
use Rattle.cut_pool.specs.Kept.{Kept, by_values, by_set, cored, given, kept_cut, kept_part, IsKeptFor}
use Rattle.cut_pool.proofs.KeptCutLaws.{kept_in_range}
use Rattle.dual_lender.specs.Lenders.{no_dual, stated_dual, kept_dual, LenderState, HasLegsOf, HasRowOf, IsReady, HasDuals, made_dual}
use Rattle.dual_lender.specs.LenderParts.{lender_with}

-- the duals of a cut that has one for each commodity, by the commodities
stated_duals : (n : ℕ) (cut : Cut) → length cut.duals ≡ n * n → cut.duals ≡ map (λ (c : ℕ × ℕ). stated_dual cut (c.0 * n + c.1)) (commodities n)
stated_duals n cut long =
    let at : ℕ × ℕ → Prices = λ c. stated_dual cut (c.0 * n + c.1) in
    ext_get_or no_dual cut.duals (map at (commodities n)) (long ∙ sym (length-map (commodities n) at ∙ length_commodities n)) (λ t within.
    let below : t < n * n = omega (arith, long, within) in
    sym (get_or-map at (commodities n) t (0, 0) no_dual (omega (arith, below, length_commodities n))
    ∙ ap at (commodity_at n t (0, 0) below)
    ∙ ap (stated_dual cut) (div-add-mod' t n)))

stated_cut_is : (n : ℕ) (cut : Cut) → length cut.duals ≡ n * n
    → cut ≡ record { part = cut.part; duals = map (λ (c : ℕ × ℕ). stated_dual cut (c.0 * n + c.1)) (commodities n) }
stated_cut_is n cut long = ap (λ (duals : List Prices). record { part = cut.part; duals = duals }) (stated_duals n cut long)

-- a stored cut is that of its part and its duals
pub kept_cut_is : (p : Problem) (kept : Kept) → IsKeptFor p kept
    → kept_cut p kept ≡ record { part = kept_part kept; duals = map (kept_dual p kept) (commodities p.size) }
unfolding value_cut set_cut
kept_cut_is p (by_values rows) fits = refl
kept_cut_is p (by_set hubs order) fits = refl
kept_cut_is p (cored x) fits = stated_cut_is p.size x.cut fits.1.one_for_each
kept_cut_is p (given cut) fits = stated_cut_is p.size cut fits.1.one_for_each

-- where the duals of an origin can be made, the workspace is still ready for the cut
legs_stay : (p : Problem) (kept : Kept) (i : ℕ) (s : LenderState) → HasRowOf p kept i s → HasLegsOf p kept s
legs_stay p (by_values rows) i s row = tt
legs_stay p (by_set hubs order) i s row = row.ready
legs_stay p (cored x) i s row = tt
legs_stay p (given cut) i s row = tt

pub still_ready : (p : Problem) (kept : Kept) (i : ℕ) (s : LenderState) → HasDuals p kept i s → IsReady p kept s
still_ready p kept i s has = record { lender = has.lender; legs = legs_stay p kept i s has.row }

-- a dual that is held does not matter for those that can be made
pub still_has : (p : Problem) (kept : Kept) (i : ℕ) (s t : LenderState) (d : Prices) → t ≡ record s { held = d } → HasDuals p kept i s
    → HasDuals p kept i t
still_has p (by_values rows) i s t d is has =
    subst (HasDuals p (by_values rows) i) (sym is) (record { lender = has.lender; row = has.row })
still_has p (by_set hubs order) i s t d is has =
    subst (HasDuals p (by_set hubs order) i) (sym is) (record { lender = has.lender; row = has.row })
still_has p (cored x) i s t d is has =
    subst (HasDuals p (cored x) i) (sym is) (record { lender = has.lender; row = has.row })
still_has p (given cut) i s t d is has =
    subst (HasDuals p (given cut) i) (sym is) (record { lender = has.lender; row = has.row })

-- .. nor for the dual that was made last
pub made_without : (kept : Kept) (s : LenderState) → made_dual kept (lender_with s.values s.sets s.stated) ≡ made_dual kept s
made_without (by_values rows) s = refl
made_without (by_set hubs order) s = refl
made_without (cored x) s = refl
made_without (given cut) s = refl

-- ---- how many values a dual has

pub dual_in_range : (p : Problem) (kept : Kept) (i j : ℕ) → IsProblem p → IsKeptFor p kept → i < p.size → j < p.size
    → IsDualInRange p.size (kept_dual p kept (i, j))
dual_in_range p kept i j ok fits from to =
    let d = kept_dual p kept in
    let at = i * p.size + j in
    let below = commodity_index p.size i j from to in
    let duals = subst (λ (cut : Cut). All (IsDualInRange p.size) cut.duals) (kept_cut_is p kept fits) (kept_in_range p kept ok fits).each in
    subst (IsDualInRange p.size)
    (get_or-map d (commodities p.size) at (0, 0) (d (0, 0)) (omega (arith, below, length_commodities p.size))
    ∙ ap d (commodity_at_index p.size i j (0, 0) from to))
    (All-get_or (IsDualInRange p.size) (map d (commodities p.size)) at (d (0, 0))
    (omega (arith, below, length_commodities p.size, length-map (commodities p.size) d)) duals)

-- a dual between these nodes is one between as many as there may be
pub few_nodes : (n : ℕ) (d : Prices) → n ≤ most_nodes → IsDualInRange n d → IsDualInRange most_nodes d
few_nodes n d few h = record {
  a = h.a;
  ascend = h.ascend;
  each = All-weaker (λ (e : ℕ × ℕ). (e.0 < n) × (1 ≤ e.1) × IsAmount e.1) (λ (e : ℕ × ℕ). (e.0 < most_nodes) × (1 ≤ e.1) × IsAmount e.1)
      (λ e h. (let below : e.0 < most_nodes = omega (arith, few, h.0) in (below, h.1, h.2))) d.u h.each;
}

-- a dual between n nodes lists as many values at most
pub few_listed : (n : ℕ) (d : Prices) → IsDualInRange n d → length d.u ≤ n
few_listed n d is =
    let nodes : List ℕ = map (λ (e : ℕ × ℕ). e.0) d.u in
    omega (
      arith,
      length-map d.u (λ (e : ℕ × ℕ). e.0),
      few_candidates nodes n is.ascend
          (All-map (λ (k : ℕ). k < n) (λ (e : ℕ × ℕ). e.0) d.u
          (All-weaker (λ (e : ℕ × ℕ). (e.0 < n) × (1 ≤ e.1) × IsAmount e.1) (λ (e : ℕ × ℕ). e.0 < n) (λ e h. h.0) d.u is.each)),
    )

pub few_values : (p : Problem) (kept : Kept) (i j : ℕ) → IsProblem p → IsKeptFor p kept → i < p.size → j < p.size
    → length (kept_dual p kept (i, j)).u ≤ p.size
few_values p kept i j ok fits from to = few_listed p.size (kept_dual p kept (i, j)) (dual_in_range p kept i j ok fits from to)
