-- The least of some numbers that passes a test.
use Rattle.std.proofs.Common.{◌≡◌, ℕ, zero, suc, ◌+◌, ◌<◌, ◌≤◌, Bool, true, false, Decides, None, Some, cond, ⊎_elim, sym, ap, ◌∙◌, subst, arith}
use Rattle.std.specs.List.{find, range_with_len}
use Rattle.std.proofs.lemmas.Bool.{false≢true, cases_eq, cases_lt}
use Rattle.std.proofs.lemmas.Option.{none-some, same_Some}
use Rattle.hub_spec.proofs.SumLemmas.{by_test}
use Rattle.core_cuts.specs.Finding.{first_from}

-- the number is one of n from a on, passes, and none of them before it does
pub record IsFirst (test : ℕ → Bool) (a n e : ℕ) : Type 0 where
  pub from : a ≤ e
  pub below : e < a + n
  pub passes : test e ≡ true
  pub least : (f : ℕ) → a ≤ f → f < e → test f ≡ false

-- with one number more in front, which fails
later : (test : ℕ → Bool) (a n e : ℕ) → test a ≡ false → IsFirst test (a + 1) n e → IsFirst test a (suc n) e
later test a n e fails first = record {
  from = omega (arith, first.from);
  below = omega (arith, first.below);
  passes = first.passes;
  least = λ f reached less. ⊎_elim (λ (same : a ≡ f). subst (λ (k : ℕ). test k ≡ false) same fails) (λ apart. first.least f (above f reached apart) less) (cases_eq a f);
}
  where
    above : (f : ℕ) → a ≤ f → (a ≡ f → ⊥) → a + 1 ≤ f
    above f reached apart = omega (arith, reached, apart)

pub first_is : (test : ℕ → Bool) (a n e : ℕ) → first_from test a n ≡ Some e → IsFirst test a n e
unfolding first_from
first_is test a zero e found = absurd (none-some e found)
first_is test a (suc n) e found =
    by_test (test a)
    (λ passes.
    let here = ap (λ (b : Bool). cond b (Some a) (find test (range_with_len (a + 1) n))) (sym passes) ∙ found in
    let same = same_Some a e here in
    subst (IsFirst test a (suc n)) same
    (record { from = omega arith; below = omega arith; passes = passes; least = λ f reached less. absurd (omega (arith, reached, less)) }))
    (λ fails. later test a n e fails (first_is test (a + 1) n e
    (ap (λ (b : Bool). cond b (Some a) (find test (range_with_len (a + 1) n))) (sym fails) ∙ found)))

none_passes : (test : ℕ → Bool) (a n : ℕ) → first_from test a n ≡ None → (f : ℕ) → a ≤ f → f < a + n → test f ≡ false
unfolding first_from
none_passes test a zero none f reached less = absurd (omega (arith, reached, less))
none_passes test a (suc n) none f reached less =
    by_test (test a)
    (λ passes. absurd (none-some a (sym (ap (λ (b : Bool). cond b (Some a) (find test (range_with_len (a + 1) n))) (sym passes) ∙ none))))
    (λ fails.
    let rest = ap (λ (b : Bool). cond b (Some a) (find test (range_with_len (a + 1) n))) (sym fails) ∙ none in
    ⊎_elim (λ (same : a ≡ f). subst (λ (k : ℕ). test k ≡ false) same fails)
    (λ apart. none_passes test (a + 1) n rest f (omega (arith, reached, apart)) (omega (arith, less))) (cases_eq a f))

-- ---- where the test tells what holds

-- the number that is found is the least for which it holds
pub least_that : (test : ℕ → Bool) (P : ℕ → Type 0) (a n e f : ℕ) → Decides (test f) (P f) → IsFirst test a n e → a ≤ f → P f → e ≤ f
least_that test P a n e f tells first reached holds =
    ⊎_elim (λ (less : f < e). absurd (false≢true (sym (first.least f reached less) ∙ tells.1 holds))) (λ at. at) (cases_lt f e)

-- where none is found it holds for none of them
pub past_all : (test : ℕ → Bool) (P : ℕ → Type 0) (a n f : ℕ) → Decides (test f) (P f) → first_from test a n ≡ None → a ≤ f → P f → a + n ≤ f
past_all test P a n f tells none reached holds =
    ⊎_elim (λ (less : f < a + n). absurd (false≢true (sym (none_passes test a n none f reached less) ∙ tells.1 holds))) (λ past. past) (cases_lt f (a + n))
