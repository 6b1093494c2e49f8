-- The columns outside the basis and those that rows have to themselves, before and after a pivot.
use Rattle.std.proofs.Common.{◌≡◌, ◌≢◌, ℕ, ◌+◌, ◌<◌, ◌≤◌, List, [], ◌∷◌, length, set, get_or, refl, sym, ap, subst, ◌∙◌, ⊎_elim, arith}
use Rattle.std.proofs.lemmas.Bool.{cases_eq}
use Rattle.std.proofs.lemmas.List.{length-append, length-set, set-append_left, get_or_append_left, get_or_push}
use Rattle.plain_rows.specs.Flat.{IsSpread, owners, v_of, AreApart}
use Rattle.plain_rows.proofs.Swapped.{IsSwap, at_same, at_other, once_after}

-- ---- the own columns

pub length-owners : (n : ℕ) (basis : List ℕ) → length (owners n basis) ≡ length basis + 1
length-owners n basis = length-append basis (n ∷ []) ∙ omega arith

pub owner_basic : (n : ℕ) (basis : List ℕ) (i : ℕ) → i < length basis → get_or (owners n basis) i 0 ≡ get_or basis i 0
owner_basic n basis i low = get_or_append_left basis (n ∷ []) 0 i low

pub owner_last : (n : ℕ) (basis : List ℕ) (i : ℕ) → i ≡ length basis → get_or (owners n basis) i 0 ≡ n
owner_last n basis i e = get_or_push basis n 0 i (sym e)

-- a constraint row has no column of v's
pub owner_low : (n : ℕ) (os basis : List ℕ) (r : ℕ) → AreApart n os (owners n basis) → r < length basis → get_or basis r 0 < n
owner_low n os basis r apart low =
    let long = length-owners n basis in
    let most : get_or (owners n basis) r 0 ≤ n = apart.own_low r (omega (arith, low, long)) in
    let same = owner_basic n basis r low in
    ⊎_elim
    (λ (e : get_or basis r 0 ≡ n).
    let at : r ≡ length basis =
    apart.own_once r (length basis) (omega (arith, low, long)) (omega (arith, long)) (same ∙ e ∙ sym (owner_last n basis (length basis) refl)) in
    absurd (omega (arith, at, low)))
    (λ (other : get_or basis r 0 ≢ n). omega (arith, most, same, other))
    (cases_eq (get_or basis r 0) n)

-- ---- what a row and a pivot need of them

pub spread_of : (n : ℕ) (os own : List ℕ) (i : ℕ) → AreApart n os own → i < length own → IsSpread os (get_or own i 0) n
spread_of n os own i apart low = record {
  low = apart.outside_low;
  own_low = apart.own_low i low;
  once = apart.once;
  apart = λ a l. apart.apart a i l low;
}

pub swap_of : (n : ℕ) (os own : List ℕ) (r c : ℕ) → AreApart n os own → r < length own → c < length os → IsSwap os (get_or own r 0) c
swap_of n os own r c apart low place = record { low = place; once = apart.once; none = λ a l. apart.apart a r l low }

-- one of the list and one outside it change places
pub apart_after : (n : ℕ) (os own : List ℕ) (r c : ℕ) → AreApart n os own → r < length own → c < length os → get_or own r 0 < n
    → AreApart n (set os c (get_or own r 0)) (set own r (get_or os c 0))
apart_after n os own r c apart low place below =
    let b = get_or own r 0 in
    let x = get_or os c 0 in
    let new = set os c b in
    let mine = set own r x in
    let long : length new ≡ length os = length-set os c b in
    let as_many : length mine ≡ length own = length-set own r x in
    let swap = swap_of n os own r c apart low place in
    let back : IsSwap own x r =
    record { low = low; once = apart.own_once; none = λ i l e. apart.apart c i place l (sym e) } in
    record {
      outside_low =
          λ a l.
          ⊎_elim
          (λ (here : a ≡ c). subst (λ z. get_or new z 0 < n) (sym here) (subst (λ z. z < n) (sym (at_same os b c place)) below))
          (λ (other : a ≢ c). subst (λ z. z < n) (sym (at_other os b c a other)) (apart.outside_low a (omega (arith, l, long))))
          (cases_eq a c);
      own_low =
          λ i l.
          ⊎_elim
          (λ (here : i ≡ r).
          let low_x = apart.outside_low c place in
          subst (λ z. get_or mine z 0 ≤ n) (sym here) (subst (λ z. z ≤ n) (sym (at_same own x r low)) (omega (arith, low_x))))
          (λ (other : i ≢ r). subst (λ z. z ≤ n) (sym (at_other own x r i other)) (apart.own_low i (omega (arith, l, as_many))))
          (cases_eq i r);
      once = once_after os b c swap;
      own_once = once_after own x r back;
      apart =
          λ a i l m e.
          ⊎_elim
          (λ (here : a ≡ c).
          let left : get_or new a 0 ≡ b = ap (λ z. get_or new z 0) here ∙ at_same os b c place in
          ⊎_elim
          (λ (there : i ≡ r).
          let right : get_or mine i 0 ≡ x = ap (λ z. get_or mine z 0) there ∙ at_same own x r low in
          apart.apart c r place low (sym right ∙ sym e ∙ left))
          (λ (other : i ≢ r).
          other (apart.own_once i r (omega (arith, m, as_many)) low (sym (at_other own x r i other) ∙ sym e ∙ left)))
          (cases_eq i r))
          (λ (away : a ≢ c).
          let left = at_other os b c a away in
          ⊎_elim
          (λ (there : i ≡ r).
          let right : get_or mine i 0 ≡ x = ap (λ z. get_or mine z 0) there ∙ at_same own x r low in
          away (apart.once a c (omega (arith, l, long)) place (sym left ∙ e ∙ right)))
          (λ (other : i ≢ r).
          apart.apart a i (omega (arith, l, long)) (omega (arith, m, as_many)) (sym left ∙ e ∙ at_other own x r i other))
          (cases_eq i r))
          (cases_eq a c);
    }

-- ---- the lists after a pivot

pub v_after : (os basis : List ℕ) (r c x y : ℕ) → v_of (set os c x) (set basis r y) ≡ v_of os basis
v_after os basis r c x y = omega (arith, length-set os c x, length-set basis r y)

pub owners_after : (n : ℕ) (basis : List ℕ) (r y : ℕ) → r < length basis → owners n (set basis r y) ≡ set (owners n basis) r y
owners_after n basis r y low = sym (set-append_left basis (n ∷ []) r y low)
