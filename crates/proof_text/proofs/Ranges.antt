-- Texts of numbers in turn.
use Rattle.std.proofs.Common.{◌≡◌, ℕ, zero, suc, ◌+◌, ◌*◌, ◌<◌, ◌≤◌, List, [], ◌∷◌, ◌++◌, flat_map, get_or, refl, sym, ap, ap₂, ◌∙◌, suc-mul, add-mul, one-mul, arith}
use Rattle.std.specs.List.{AllZip, range_with_len}
use Rattle.std.proofs.lemmas.List.Concat.{flat_map-append}
use Rattle.std.proofs.lemmas.List.FromFn.{get_or-range_with_len}

pub range_joined : (a b c : ℕ) → range_with_len a b ++ range_with_len (a + b) c ≡ range_with_len a (b + c)
range_joined a zero c =
    let none : a + 0 ≡ a = omega arith in
    let all : c ≡ 0 + c = omega arith in
    ap (λ (m : ℕ). range_with_len m c) none ∙ ap (range_with_len a) all
range_joined a (suc b) c =
    let behind : a + suc b ≡ a + 1 + b = omega arith in
    let more : suc (b + c) ≡ suc b + c = omega arith in
    ap (λ (m : ℕ). a ∷ (range_with_len (a + 1) b ++ range_with_len m c)) behind
    ∙ ap (λ xs. a ∷ xs) (range_joined (a + 1) b c)
    ∙ ap (range_with_len a) more

-- what stands for a number below n, as an element of the numbers
pub at_number : {X : Type 0} (f : ℕ → X) (n i : ℕ) → i < n → f i ≡ f (get_or (range_with_len 0 n) i 0)
at_number f n i less =
    let at : get_or (range_with_len 0 n) i 0 ≡ i = get_or-range_with_len 0 n i 0 less ∙ omega arith in
    ap f (sym at)

module _ {X : Type 0} where
  -- what stands for some numbers, and then for those behind them
  pub joined : (f : ℕ → List X) (a b c : ℕ) → flat_map f (range_with_len a b) ++ flat_map f (range_with_len (a + b) c) ≡ flat_map f (range_with_len a (b + c))
  joined f a b c = sym (flat_map-append f (range_with_len a b) (range_with_len (a + b) c)) ∙ ap (flat_map f) (range_joined a b c)

  pub same_each : (f g : ℕ → List X) (a n : ℕ) → ((i : ℕ) → a ≤ i → i < a + n → f i ≡ g i) → flat_map f (range_with_len a n) ≡ flat_map g (range_with_len a n)
  same_each f g a zero same = refl
  same_each f g a (suc n) same =
      ap₂ (λ (xs ys : List X). xs ++ ys) (same a (omega arith) (omega arith))
      (same_each f g (a + 1) n (λ i low high. same i (omega (arith, low)) (omega (arith, high))))

  pub shifted : (f : ℕ → List X) (m a n : ℕ) → flat_map f (range_with_len (m + a) n) ≡ flat_map (λ i. f (m + i)) (range_with_len a n)
  shifted f m a zero = refl
  shifted f m a (suc n) =
      let next : m + a + 1 ≡ m + (a + 1) = omega arith in
      ap (λ (b : ℕ). f (m + a) ++ flat_map f (range_with_len b n)) next
      ∙ ap (λ (xs : List X). f (m + a) ++ xs) (shifted f m (a + 1) n)

  -- the numbers of some rows of n, row by row
  pub rows_joined : (f : ℕ → List X) (n a m : ℕ) → flat_map (λ i. flat_map f (range_with_len (i * n) n)) (range_with_len a m)
      ≡ flat_map f (range_with_len (a * n) (m * n))
  rows_joined f n a zero =
      let none : 0 ≡ 0 * n = omega arith in
      ap (λ (m : ℕ). flat_map f (range_with_len (a * n) m)) none
  rows_joined f n a (suc m) =
      let next : (a + 1) * n ≡ a * n + n = omega (arith, add-mul a 1 n, one-mul n) in
      let more : n + m * n ≡ suc m * n = omega (arith, suc-mul m n) in
      ap (λ (xs : List X). flat_map f (range_with_len (a * n) n) ++ xs)
      (rows_joined f n (a + 1) m ∙ ap (λ (b : ℕ). flat_map f (range_with_len b (m * n))) next)
      ∙ joined f (a * n) n (m * n)
      ∙ ap (λ (k : ℕ). flat_map f (range_with_len (a * n) k)) more

  pub in_turn : {V : Type 0} (row : V → List X) (f : ℕ → List X) (xs : List ℕ) (vs : List V) → AllZip (λ x v. row v ≡ f x) xs vs → flat_map row vs ≡ flat_map f xs
  in_turn row f [] [] h = refl
  in_turn row f [] (v ∷ vs) h = absurd h
  in_turn row f (x ∷ xs) [] h = absurd h
  in_turn row f (x ∷ xs) (v ∷ vs) h = ap₂ (λ (xs ys : List X). xs ++ ys) h.0 (in_turn row f xs vs h.1)

  -- answers of the blocks of a stretch
  pub stretch_of : {V : Type 0} (row : V → List X) (f : ℕ → List X) (first n : ℕ) (vs : List V) → AllZip (λ b v. row v ≡ f (first + b)) (range_with_len 0 n) vs
      → flat_map row vs ≡ flat_map f (range_with_len first n)
  stretch_of row f first n vs h =
      let none : first + 0 ≡ first = omega arith in
      in_turn row (λ b. f (first + b)) (range_with_len 0 n) vs h ∙ sym (shifted f first 0 n) ∙ ap (λ (m : ℕ). flat_map f (range_with_len m n)) none
