-- The first of some numbers in a row that passes a test.
use Rattle.std.proofs.Common.{◌≡◌, ℕ, zero, suc, ◌+◌, ◌-◌, ◌<◌, List, [], ◌∷◌, ◌++◌, find, cond, Bool, true, false, Option, Some, None, is_some, refl, ap, ◌∙◌, arith, ◌||◌}
use Rattle.std.specs.List.{range_with_len, list_any}
use Rattle.std.specs.Option.{option_or}
use Rattle.std.proofs.lemmas.List.Folds.{find-append}

range_split : (a m j : ℕ) → range_with_len a (m + j) ≡ range_with_len a m ++ range_with_len (a + m) j
range_split a zero j =
    let e : 0 + j ≡ j = omega arith in
    let f : a ≡ a + 0 = omega arith in
    ap (range_with_len a) e ∙ ap (λ b. range_with_len b j) f
range_split a (suc m) j =
    let e : suc m + j ≡ suc (m + j) = omega arith in
    let f : a + 1 + m ≡ a + suc m = omega arith in
    ap (range_with_len a) e ∙ ap (λ xs. a ∷ xs) (range_split (a + 1) m j ∙ ap (λ b. range_with_len (a + 1) m ++ range_with_len b j) f)

-- where one more number is tried
pub find_more : (p : ℕ → Bool) (m : ℕ) → find p (range_with_len 0 (m + 1)) ≡ option_or (find p (range_with_len 0 m)) (cond (p m) (Some m) None)
find_more p m =
    let e : 0 + m ≡ m = omega arith in
    ap (find p) (range_split 0 m 1) ∙ (find-append p (range_with_len 0 m) (range_with_len (0 + m) 1)
    ∙ ap (λ k. option_or (find p (range_with_len 0 m)) (cond (p k) (Some k) None)) e)

pub none_more : (p : ℕ → Bool) (m : ℕ) → find p (range_with_len 0 m) ≡ None → p m ≡ false → find p (range_with_len 0 (m + 1)) ≡ None
none_more p m none here = find_more p m ∙ (λ i. option_or (none i) (cond (here i) (Some m) None))

-- where the first that passes is found before the end
first_here : (p : ℕ → Bool) (m j : ℕ) → p m ≡ true → find p (range_with_len m (suc j)) ≡ Some m
first_here p m j here = ap (λ b. cond b (Some m) (find p (range_with_len (m + 1) j))) here

pub found_here : (p : ℕ → Bool) (m all : ℕ) → find p (range_with_len 0 m) ≡ None → p m ≡ true → m < all → find p (range_with_len 0 all) ≡ Some m
found_here p m all none here below =
    let e : all ≡ m + suc (all - (m + 1)) = omega arith in
    let f : 0 + m ≡ m = omega arith in
    let j = all - (m + 1) in
    ap (λ k. find p (range_with_len 0 k)) e ∙ (ap (find p) (range_split 0 m (suc j)) ∙ (find-append p (range_with_len 0 m) (range_with_len (0 + m) (suc j))
    ∙ ((λ i. option_or (none i) (find p (range_with_len (f i) (suc j)))) ∙ first_here p m j here)))

-- some element passes where one is found
pub any-find : {A : Type 0} (p : A → Bool) (xs : List A) → list_any p xs ≡ is_some (find p xs)
any-find p [] = refl
any-find p (x ∷ xs) = any_by (p x) x (list_any p xs) (find p xs) (any-find p xs)
  where
    any_by : {A : Type 0} (b : Bool) (x : A) (any : Bool) (found : Option A) → any ≡ is_some found → (b || any) ≡ is_some (cond b (Some x) found)
    any_by true x any found e = refl
    any_by false x any found e = e
