-- One value as one more earlier place asks: where that is spared, hubs ask as much already.
use Rattle.std.proofs.Common.{◌≡◌, ℕ, ◌+◌, ◌-◌, ◌<◌, ◌≤◌, ◌⊎◌, sym, subst, ⊎_elim, arith}
use Rattle.std.proofs.lemmas.Bool.{cases_lt}
use Rattle.unit_duals.specs.Values.{Origin, length_by, IsTight, at_nothing, at_back, at_reach, at_forth, at_home, IsValue}

-- a value stays the least where those of the places before stay
tight_kept : (o : Origin) (old new : ℕ → ℕ → ℕ) (t j e v : ℕ) → ((m : ℕ) → m < e → new m j ≡ old m j)
    → IsTight o old t j e v → IsTight o new t j e v
tight_kept o old new t j e v same (at_nothing h) = at_nothing h
tight_kept o old new t j e v same (at_back h) = at_back h
tight_kept o old new t j e v same (at_reach h) = at_reach h
tight_kept o old new t j e v same (at_forth m below h) = at_forth m below (omega (arith, same m below, h))
tight_kept o old new t j e v same (at_home m below h) = at_home m below (omega (arith, same m below, h))

pub value_kept : (o : Origin) (old new : ℕ → ℕ → ℕ) (t j e v : ℕ) → ((m : ℕ) → m < e → new m j ≡ old m j)
    → IsValue o old t j e v → IsValue o new t j e v
value_kept o old new t j e v same is = record {
  by_last = is.by_last;
  by_first = is.by_first;
  forth = λ m below. (let s = same m below in let h = is.forth m below in omega (arith, s, h));
  home = λ m below. (let s = same m below in let h = is.home m below in omega (arith, s, h));
  tight = tight_kept o old new t j e v same is.tight;
}

-- what hubs ask, with no place before
pub first_value : (o : Origin) (values : ℕ → ℕ → ℕ) (t j v a b : ℕ) → a ≡ o.price j - (o.first t + o.back t j)
    → b ≡ o.price j - (o.reach t + o.last t j) → (a ≤ v) × (b ≤ v) → (v ≡ a) ⊎ (v ≡ b) → IsValue o values t j 0 v
first_value o values t j v a b is_a is_b above one = record {
  by_last = omega (arith, above.0, is_a);
  by_first = omega (arith, above.1, is_b);
  forth = λ m below. absurd (omega (arith, below));
  home = λ m below. absurd (omega (arith, below));
  tight = ⊎_elim by_a by_b one;
}
  where
    by_a : v ≡ a → IsTight o values t j 0 v
    by_a same = ⊎_elim (λ (none : v < 1). at_nothing (omega arith)) (λ (some : 1 ≤ v). at_back (omega (arith, same, is_a))) (cases_lt v 1)

    by_b : v ≡ b → IsTight o values t j 0 v
    by_b same = ⊎_elim (λ (none : v < 1). at_nothing (omega arith)) (λ (some : 1 ≤ v). at_reach (omega (arith, same, is_b))) (cases_lt v 1)

-- one more place before, where the value stays
tight_more : (o : Origin) (values : ℕ → ℕ → ℕ) (t j e v : ℕ) → IsTight o values t j e v → IsTight o values t j (e + 1) v
tight_more o values t j e v (at_nothing h) = at_nothing h
tight_more o values t j e v (at_back h) = at_back h
tight_more o values t j e v (at_reach h) = at_reach h
tight_more o values t j e v (at_forth m below h) = at_forth m (omega (arith, below)) h
tight_more o values t j e v (at_home m below h) = at_home m (omega (arith, below)) h

-- the way by t and then e asks nothing, or no more than hubs do
abbrev pub IsSparedForth : Origin → ℕ → ℕ → ℕ → Type 0
IsSparedForth o t e j = (o.reach e ≤ o.first t + o.trunk t e) ⊎ (o.back t j ≤ o.trunk t e + o.last e j)

-- the same of the way by e and then t
abbrev pub IsSparedHome : Origin → ℕ → ℕ → ℕ → Type 0
IsSparedHome o t e j = (o.reach t ≤ o.first e + o.trunk e t) ⊎ (o.back e j ≤ o.trunk e t + o.last t j)

-- the value of t is v so far, w once the way forth has asked, and x once the way home has
pub record IsRaisedBy (o : Origin) (values : ℕ → ℕ → ℕ) (t j e v w x forth home : ℕ) : Type 0 where
  pub forth_is : forth ≡ o.price j - (o.last e j + values e j) - (o.first t + o.trunk t e)
  pub home_is : home ≡ o.price j - values e j - (o.first e + o.trunk e t + o.last t j)
  pub first_grown : v ≤ w
  pub then_grown : w ≤ x
  pub first_met : (forth ≤ w) ⊎ IsSparedForth o t e j
  pub then_met : (home ≤ x) ⊎ IsSparedHome o t e j
  pub first_tight : (w ≡ v) ⊎ (w ≡ forth)
  pub then_tight : (x ≡ w) ⊎ (x ≡ home)

pub later_value : (o : Origin) (values : ℕ → ℕ → ℕ) (t j e v w x forth home : ℕ) → IsValue o values e j e (values e j)
    → IsValue o values t j e v → IsRaisedBy o values t j e v w x forth home → IsValue o values t j (e + 1) x
later_value o values t j e v w x forth home before is raised = record {
  by_last = omega (arith, is.by_last, raised.first_grown, raised.then_grown);
  by_first = omega (arith, is.by_first, raised.first_grown, raised.then_grown);
  forth = λ m below. ⊎_elim
      (λ (early : m < e). let h = is.forth m early in omega (arith, h, raised.first_grown, raised.then_grown))
      (λ (late : e ≤ m). let same : e ≡ m = omega (arith, below, late) in subst (λ (k : ℕ). o.price j ≤ x + (length_by o t k j + values k j)) same this_forth)
      (cases_lt m e);
  home = λ m below. ⊎_elim
      (λ (early : m < e). let h = is.home m early in omega (arith, h, raised.first_grown, raised.then_grown))
      (λ (late : e ≤ m). let same : e ≡ m = omega (arith, below, late) in subst (λ (k : ℕ). o.price j ≤ x + (length_by o k t j + values k j)) same this_home)
      (cases_lt m e);
  tight = ⊎_elim (λ (same : x ≡ w). ⊎_elim (by_old same) (by_forth same) raised.first_tight) by_home raised.then_tight;
}
  where
    this_forth : o.price j ≤ x + (length_by o t e j + values e j)
    this_forth = ⊎_elim
        (λ (met : forth ≤ w). omega (arith, met, raised.forth_is, raised.then_grown))
        (⊎_elim
        (λ (far : o.reach e ≤ o.first t + o.trunk t e). omega (arith, far, before.by_first))
        (λ (far : o.back t j ≤ o.trunk t e + o.last e j). omega (arith, far, is.by_last, raised.first_grown, raised.then_grown)))
        raised.first_met

    this_home : o.price j ≤ x + (length_by o e t j + values e j)
    this_home = ⊎_elim
        (λ (met : home ≤ x). omega (arith, met, raised.home_is))
        (⊎_elim
        (λ (far : o.reach t ≤ o.first e + o.trunk e t). omega (arith, far, is.by_first, raised.first_grown, raised.then_grown))
        (λ (far : o.back e j ≤ o.trunk e t + o.last t j). omega (arith, far, before.by_last)))
        raised.then_met

    by_old : x ≡ w → w ≡ v → IsTight o values t j (e + 1) x
    by_old same old = subst (IsTight o values t j (e + 1)) (sym old_is) (tight_more o values t j e v is.tight)
      where
        old_is : x ≡ v
        old_is = omega (arith, same, old)

    by_forth : x ≡ w → w ≡ forth → IsTight o values t j (e + 1) x
    by_forth same up = ⊎_elim (λ (none : x < 1). at_nothing (omega arith))
        (λ (some : 1 ≤ x). at_forth e (omega arith) (omega (arith, same, up, raised.forth_is))) (cases_lt x 1)

    by_home : x ≡ home → IsTight o values t j (e + 1) x
    by_home up = ⊎_elim (λ (none : x < 1). at_nothing (omega arith))
        (λ (some : 1 ≤ x). at_home e (omega arith) (omega (arith, up, raised.home_is))) (cases_lt x 1)
