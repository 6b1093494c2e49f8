-- The first entry inside a hub set, and what it says of the set.
use Rattle.std.proofs.Common.{◌≡◌, ◌≢◌, ℕ, ◌+◌, ◌<◌, ◌≤◌, ℤ, pos, ◌<ℤ◌, List, length, get_or, Contains, Some, ◌⊎◌, inl, inr, ⊎_elim, refl, ap, sym, subst, ◌∙◌, arith}
use Rattle.std.proofs.lemmas.Int.{ints}
use Rattle.std.proofs.lemmas.Bool.{cases_lt, cases_eq}
use Rattle.std.proofs.lemmas.List.{get_or_default}
use Rattle.std.proofs.lemmas.List.Elements.{All-contains, Contains-get_or}
use Rattle.hub_spec.specs.Limits.{most_cost}
use Rattle.hub_spec.proofs.Limits.{hubs_are_nodes, route_cost_limit}
use Rattle.hub_spec.specs.Problem.{Problem, IsProblem, way_cost}
use Rattle.hub_spec.specs.Edges.{single_cost, edge_cost, least_cost, IsNeededEdge, IsLeastCost}
use Rattle.hub_spec.specs.Plans.{IsHubSet}
use Rattle.hub_spec.proofs.NeededEdges.{needed_is_least}
use Rattle.hub_spec.proofs.SetCutFunction.{least_cost_is}
use Rattle.hub_spec.proofs.Ways.{edge_turned, if_some}
use Rattle.hub_model.proofs.AllowedRoutes.{set_has_route}
use Rattle.hub_model.specs.Amounts.{natural}
use Rattle.hub_edges.specs.Rows.{Entry, IsBefore, IsDirection, IsSingleEntry, IsEdgeEntry, IsEdgeRow, IsInside, IsFirstInside}
use Rattle.hub_edges.proofs.CheaperCosts.{one_is_first}
use Rattle.hub_edges.proofs.EntryOrder.{before_itself, before_back}

-- ---- looking for it

-- none of the first entries is inside, so the one that is stands later
pub inside_later : (set : List ℕ) (entries : List Entry) (at : ℕ) → ((e : Entry) × Contains entries e × IsInside set e)
    → ((t : ℕ) (d : Entry) → t < at → IsInside set (get_or entries t d) → ⊥) → at < length entries
inside_later set entries at (e, (n, l, i), inside) none =
    ⊎_elim (λ less. less) (λ all. absurd (none n e (omega (arith, l, all)) (subst (IsInside set) (sym i) inside))) (cases_lt at (length entries))

pub none_more : (set : List ℕ) (entries : List Entry) (at : ℕ) (e : Entry) → at < length entries → e ≡ get_or entries at e → (IsInside set e → ⊥)
    → ((t : ℕ) (d : Entry) → t < at → IsInside set (get_or entries t d) → ⊥)
    → (t : ℕ) (d : Entry) → t < at + 1 → IsInside set (get_or entries t d) → ⊥
none_more set entries at e within is outside none t d less inside =
    ⊎_elim (λ earlier. none t d earlier inside)
    (λ above. let here : t ≡ at = omega (arith, less, above) in
    outside (subst (IsInside set) (ap (λ (i : ℕ). get_or entries i d) here ∙ get_or_default entries at d e within ∙ sym is) inside)) (cases_lt t at)

-- ---- an edge in its direction

-- a needed edge the other way round
pub turned_edge : (p : Problem) (c : ℕ × ℕ) (k m : ℕ) → IsNeededEdge p c k m → IsNeededEdge p c m k
turned_edge p c k m needed = record {
  apart = λ same. needed.apart (sym same);
  below_first = rw (edge_turned p c m k) needed.below_last;
  below_last = rw (edge_turned p c m k) needed.below_first;
}

-- an edge in its direction, one of its two
pub either_way : (p : Problem) (c : ℕ × ℕ) (k m : ℕ) → k ≢ m → IsDirection p c k m ⊎ IsDirection p c m k
either_way p c k m apart = one_is_first (way_cost p c k m) (way_cost p c m k) k m apart

-- ---- a hub set has one

pub some_inside : (p : Problem) (c : ℕ × ℕ) (set : List ℕ) (entries : List Entry) → IsHubSet p set → c.0 < p.size → c.1 < p.size
    → IsEdgeRow p c entries → (e : Entry) × Contains entries e × IsInside set e
some_inside p c set entries hubs from to row =
    let v = least_cost p set c in
    let least = (needed_is_least p set c v).1 (least_cost_is p set c (set_has_route p set c.0 c.1 hubs from to)) in
    ⊎_elim
    (λ single. let k = single.0 in (
      (k, k, pos v),
      row.singles k v (candidate k single.1) single.2,
      record { first = single.1; last = single.1 },
    ))
    (λ edge. either_inside edge.0 edge.1 v edge.2 edge.3 edge.4 edge.5) least.reached
  where
    candidate : (k : ℕ) → Contains set k → Contains p.candidates k
    candidate k hub = All-contains (Contains p.candidates) set k hubs.are_candidates hub

    either_inside : (k m f : ℕ) → Contains set k → Contains set m → IsNeededEdge p c k m → edge_cost p c k m ≡ Some f
        → (e : Entry) × Contains entries e × IsInside set e
    either_inside k m f first last needed cost =
        ⊎_elim
        (λ forth. (
          (k, m, pos f),
          row.edges k m f (candidate k first) (candidate m last) needed forth cost,
          record { first = first; last = last },
        ))
        (λ back. (
          (m, k, pos f),
          row.edges m k f (candidate m last) (candidate k first) (turned_edge p c k m needed) back (edge_turned p c m k ∙ cost),
          record { first = last; last = first },
        )) (either_way p c k m needed.apart)

-- ---- what it says

pub entry_listed : (set : List ℕ) (entries : List Entry) (e : Entry) → IsFirstInside set entries e → Contains entries e
entry_listed set entries e first = subst (Contains entries) (sym first.is) (Contains-get_or entries first.at e first.within)

pub none_before : (p : Problem) (c : ℕ × ℕ) (set : List ℕ) (entries : List Entry) (e : Entry) → IsEdgeRow p c entries → IsFirstInside set entries e
    → (f : Entry) → Contains entries f → IsInside set f → IsBefore f e → ⊥
none_before p c set entries e row first f (n, l, i) inside before =
    let here : get_or entries n e ≡ f = get_or_default entries n e f l ∙ i in
    ⊎_elim (λ earlier. first.earlier n e earlier (subst (IsInside set) (sym here) inside))
    (λ above. ⊎_elim (λ same. before_itself e (subst (λ (x : Entry). IsBefore x e) (sym (first.is ∙ ap (λ (x : ℕ). get_or entries x e) same ∙ here)) before))
    (λ apart. let later : first.at < n = omega (arith, above, apart) in
    before_back f e before (subst (λ (x : Entry). IsBefore e x) here
    (subst (λ (x : Entry). IsBefore x (get_or entries n e)) (sym first.is) (row.ascending first.at n e later l))))
    (cases_eq first.at n)) (cases_lt n first.at)

-- an entry of a row costs what a natural number is
pub row_cost : (p : Problem) (c : ℕ × ℕ) (entries : List Entry) (e : Entry) → IsEdgeRow p c entries → Contains entries e → e.2 ≡ pos (natural e.2)
row_cost p c entries e row listed =
    ⊎_elim (λ single. of e.2 single.cost.0 single.cost.2) (λ edge. of e.2 edge.cost.0 edge.cost.2)
    (All-contains (λ (f : Entry). IsSingleEntry p c f ⊎ IsEdgeEntry p c f) entries e row.each listed)
  where
    of : (z : ℤ) (n : ℕ) → z ≡ pos n → z ≡ pos (natural z)
    of z n e = rw e refl

-- no entry inside the set costs less
cost_within : (p : Problem) (c : ℕ × ℕ) (set : List ℕ) (entries : List Entry) (e : Entry) (k m n : ℕ) → IsEdgeRow p c entries
    → IsFirstInside set entries e → Contains set k → Contains set m → Contains entries (k, m, pos n) → natural e.2 ≤ n
cost_within p c set entries e k m n row first hub other listed =
    let cost = row_cost p c entries e row (entry_listed set entries e first) in
    ⊎_elim (λ less. let below : pos n <ℤ e.2 = rw cost (omega (arith, ints, less)) in
    absurd (none_before p c set entries e row first (k, m, pos n) listed (record { first = hub; last = other }) (inl below)))
    (λ above. above) (cases_lt n (natural e.2))

edge_within : (p : Problem) (c : ℕ × ℕ) (set : List ℕ) (entries : List Entry) (e : Entry) (k m f : ℕ) → IsHubSet p set → IsEdgeRow p c entries
    → IsFirstInside set entries e → Contains set k → Contains set m → IsNeededEdge p c k m → edge_cost p c k m ≡ Some f → natural e.2 ≤ f
edge_within p c set entries e k m f hubs row first hub other needed cost =
    let one = All-contains (Contains p.candidates) set k hubs.are_candidates hub in
    let two = All-contains (Contains p.candidates) set m hubs.are_candidates other in
    ⊎_elim (λ forth. cost_within p c set entries e k m f row first hub other (row.edges k m f one two needed forth cost))
    (λ back. cost_within p c set entries e m k f row first other hub
    (row.edges m k f two one (turned_edge p c k m needed) back (edge_turned p c m k ∙ cost)))
    (either_way p c k m needed.apart)

-- it is the least cost over the single hubs and the needed edges of the set, and so over all its pairs
pub least_inside : (p : Problem) (c : ℕ × ℕ) (set : List ℕ) (entries : List Entry) (e : Entry) → IsHubSet p set → IsEdgeRow p c entries
    → IsFirstInside set entries e → IsLeastCost p set c (natural e.2)
least_inside p c set entries e hubs row first = (needed_is_least p set c (natural e.2)).0 (record {
  reached = ⊎_elim (λ single. inl (e.0, first.inside.first, single.cost.1 ∙ ap Some (sym (ap natural single.cost.2))))
      (λ edge. inr (e.0, e.1, first.inside.first, first.inside.last, edge.needed, edge.cost.1 ∙ ap Some (sym (ap natural edge.cost.2))))
      (All-contains (λ (f : Entry). IsSingleEntry p c f ⊎ IsEdgeEntry p c f) entries e row.each (entry_listed set entries e first));
  below_singles = λ k hub. if_some (λ f. natural e.2 ≤ f) (single_cost p c k)
      (λ f there. cost_within p c set entries e k k f row first hub hub
      (row.singles k f (All-contains (Contains p.candidates) set k hubs.are_candidates hub) there));
  below_needed = λ k m hub other needed. if_some (λ f. natural e.2 ≤ f) (edge_cost p c k m)
      (λ f there. edge_within p c set entries e k m f hubs row first hub other needed there);
})

-- what a commodity costs at least is within the limit of costs
pub least_limit : (p : Problem) (c : ℕ × ℕ) (set : List ℕ) (v : ℕ) → IsProblem p → c.0 < p.size → c.1 < p.size → IsHubSet p set
    → IsLeastCost p set c v → v ≤ most_cost
least_limit p c set v ok from to hubs least =
    let nodes = hubs_are_nodes p set ok.limits hubs in
    let (k, m, first, last, is, allowed) = least.reached in
    omega (
      arith,
      is,
      route_cost_limit p c.0 c.1 k m ok from to (All-contains (λ x. x < p.size) set k nodes first) (All-contains (λ x. x < p.size) set m nodes last),
    )
