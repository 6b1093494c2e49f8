-- A commodity has one row: two that have the same entries, each before the next, are the same list.
use Rattle.std.proofs.Common.{◌≡◌, ℕ, suc, pos, List, [], ◌∷◌, Contains, ◌⊎◌, ⊎_elim, refl, ap₂, sym, subst, arith}
use Rattle.std.specs.List.{AllPairs}
use Rattle.std.proofs.lemmas.List.Elements.{All-contains}
use Rattle.hub_spec.specs.Problem.{Problem}
use Rattle.hub_spec.proofs.SumLemmas.{Contains-cons_cases, nil_contains_none}
use Rattle.hub_spec.proofs.Sets.{Contains-head, Contains-later}
use Rattle.hub_edges.specs.Rows.{Entry, IsBefore, IsSingleEntry, IsEdgeEntry, IsEdgeRow}
use Rattle.hub_edges.proofs.EntryOrder.{same_entry, before_itself, before_back}

head_before : (e : Entry) (es : List Entry) (f : Entry) → AllPairs IsBefore (e ∷ es) → Contains es f → IsBefore e f
head_before e es f pairs (n, l, i) = subst (IsBefore e) i (pairs 0 (suc n) f (omega arith) (omega (arith, l)))

tail_pairs : (e : Entry) (es : List Entry) → AllPairs IsBefore (e ∷ es) → AllPairs IsBefore es
tail_pairs e es pairs = λ i j d less within. pairs (suc i) (suc j) d (omega (arith, less)) (omega (arith, within))

-- what is in the one and no head of the other is in its tail
in_tail : (e : Entry) (es : List Entry) (f : Entry) (fs : List Entry) → e ≡ f → AllPairs IsBefore (e ∷ es)
    → ((x : Entry) → Contains (e ∷ es) x → Contains (f ∷ fs) x) → (x : Entry) → Contains es x → Contains fs x
in_tail e es f fs same pairs part x listed =
    ⊎_elim (λ here. absurd (before_itself x (subst (λ (y : Entry). IsBefore y x) here (subst (λ (y : Entry). IsBefore y x) same (head_before e es x pairs listed)))))
    (λ later. later) (Contains-cons_cases f fs x (part x (Contains-later e es x listed)))

same_head : (e : Entry) (es : List Entry) (f : Entry) (fs : List Entry) → AllPairs IsBefore (e ∷ es) → AllPairs IsBefore (f ∷ fs)
    → Contains (f ∷ fs) e → Contains (e ∷ es) f → e ≡ f
same_head e es f fs left right one two =
    ⊎_elim (λ here. sym here) (λ later. ⊎_elim (λ here. here)
    (λ other. absurd (before_back f e (head_before f fs e right later) (head_before e es f left other)))
    (Contains-cons_cases e es f two)) (Contains-cons_cases f fs e one)

same_rows : (es fs : List Entry) → AllPairs IsBefore es → AllPairs IsBefore fs → ((x : Entry) → Contains es x → Contains fs x)
    → ((x : Entry) → Contains fs x → Contains es x) → es ≡ fs
same_rows [] [] left right part back = refl
same_rows [] (f ∷ fs) left right part back = nil_contains_none f (back f (Contains-head f fs))
same_rows (e ∷ es) [] left right part back = nil_contains_none e (part e (Contains-head e es))
same_rows (e ∷ es) (f ∷ fs) left right part back =
    let same = same_head e es f fs left right (part e (Contains-head e es)) (back f (Contains-head f fs)) in
    ap₂ (λ (x : Entry) (xs : List Entry). x ∷ xs) same
    (same_rows es fs (tail_pairs e es left) (tail_pairs f fs right) (in_tail e es f fs same left part) (in_tail f fs e es (sym same) right back))

-- an entry of one row is one of the other
entry_of_both : (p : Problem) (c : ℕ × ℕ) (es fs : List Entry) (e : Entry) → IsEdgeRow p c es → IsEdgeRow p c fs → Contains es e → Contains fs e
entry_of_both p c es fs e one two listed =
    ⊎_elim
    (λ single. let s : Entry = (e.0, e.0, pos single.cost.0) in
    subst (Contains fs) (sym (same_entry e s refl single.alone single.cost.2)) (two.singles e.0 single.cost.0 single.candidate single.cost.1))
    (λ edge. let s : Entry = (e.0, e.1, pos edge.cost.0) in
    subst (Contains fs) (sym (same_entry e s refl refl edge.cost.2))
    (two.edges e.0 e.1 edge.cost.0 edge.first edge.last edge.needed edge.direction edge.cost.1))
    (All-contains (λ (f : Entry). IsSingleEntry p c f ⊎ IsEdgeEntry p c f) es e one.each listed)

pub row_is_one : (p : Problem) (c : ℕ × ℕ) (es fs : List Entry) → IsEdgeRow p c es → IsEdgeRow p c fs → es ≡ fs
row_is_one p c es fs one two =
    same_rows es fs one.ascending two.ascending (λ e listed. entry_of_both p c es fs e one two listed)
    (λ e listed. entry_of_both p c fs es e two one listed)
