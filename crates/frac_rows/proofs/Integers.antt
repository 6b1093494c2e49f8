-- Sums and products of integers, their sizes and their order.
use Rattle.std.proofs.Common.{◌≡◌, ℕ, zero, suc, ◌+◌, ◌*◌, ◌<◌, ◌≤◌, ℤ, pos, negsuc, ◌+ℤ◌, ◌-ℤ◌, ◌*ℤ◌, neg_ℤ, ◌≤ℤ◌, ◌<ℤ◌, true, false, unsigned_abs, int_lt, sym, ap, ◌∙◌, arith}
use Rattle.std.proofs.Math.Nat.{mul-pos}
use Rattle.std.proofs.Math.IntN.{suc_ℤ-*ℤ, pred_ℤ-*ℤ, zero-*ℤ, *ℤ_comm, +ℤ_invr}
use Rattle.std.proofs.lemmas.Int.{ints, by_lt_z}

-- ---- a product distributes over a sum and a difference, in either factor

pub *ℤ-+ℤ : (a b c : ℤ) → a *ℤ (b +ℤ c) ≡ a *ℤ b +ℤ a *ℤ c
*ℤ-+ℤ (pos zero) b c = omega (arith, ints, zero-*ℤ (b +ℤ c), zero-*ℤ b, zero-*ℤ c)
*ℤ-+ℤ (pos (suc n)) b c =
    omega (arith, ints, suc_ℤ-*ℤ (pos n) (b +ℤ c), suc_ℤ-*ℤ (pos n) b, suc_ℤ-*ℤ (pos n) c, *ℤ-+ℤ (pos n) b c)
*ℤ-+ℤ (negsuc zero) b c =
    omega (arith, ints, pred_ℤ-*ℤ (pos zero) (b +ℤ c), pred_ℤ-*ℤ (pos zero) b, pred_ℤ-*ℤ (pos zero) c, zero-*ℤ (b +ℤ c), zero-*ℤ b, zero-*ℤ c)
*ℤ-+ℤ (negsuc (suc n)) b c =
    omega (arith, ints, pred_ℤ-*ℤ (negsuc n) (b +ℤ c), pred_ℤ-*ℤ (negsuc n) b, pred_ℤ-*ℤ (negsuc n) c, *ℤ-+ℤ (negsuc n) b c)

pub +ℤ-*ℤ : (a b c : ℤ) → (a +ℤ b) *ℤ c ≡ a *ℤ c +ℤ b *ℤ c
+ℤ-*ℤ a b c = omega (arith, ints, *ℤ_comm (a +ℤ b) c, *ℤ-+ℤ c a b, *ℤ_comm a c, *ℤ_comm b c)

pub neg_ℤ-*ℤ : (a b : ℤ) → neg_ℤ a *ℤ b ≡ neg_ℤ (a *ℤ b)
neg_ℤ-*ℤ a b =
    let none : (a +ℤ neg_ℤ a) *ℤ b ≡ pos 0 = ap (λ (x : ℤ). x *ℤ b) (+ℤ_invr a) ∙ zero-*ℤ b in
    omega (arith, ints, +ℤ-*ℤ a (neg_ℤ a) b, none)

pub *ℤ-neg_ℤ : (a b : ℤ) → a *ℤ neg_ℤ b ≡ neg_ℤ (a *ℤ b)
*ℤ-neg_ℤ a b = *ℤ_comm a (neg_ℤ b) ∙ neg_ℤ-*ℤ b a ∙ ap neg_ℤ (*ℤ_comm b a)

pub *ℤ--ℤ : (a b c : ℤ) → a *ℤ (b -ℤ c) ≡ a *ℤ b -ℤ a *ℤ c
*ℤ--ℤ a b c = omega (arith, ints, *ℤ-+ℤ a b (neg_ℤ c), *ℤ-neg_ℤ a c)

pub -ℤ-*ℤ : (a b c : ℤ) → (a -ℤ b) *ℤ c ≡ a *ℤ c -ℤ b *ℤ c
-ℤ-*ℤ a b c = omega (arith, ints, +ℤ-*ℤ a (neg_ℤ b) c, neg_ℤ-*ℤ b c)

-- ---- the order of the factors is free

pub *ℤ_assoc : (a b c : ℤ) → a *ℤ b *ℤ c ≡ a *ℤ (b *ℤ c)
*ℤ_assoc (pos zero) b c = ap (λ (x : ℤ). x *ℤ c) (zero-*ℤ b) ∙ zero-*ℤ c ∙ sym (zero-*ℤ (b *ℤ c))
*ℤ_assoc (pos (suc n)) b c =
    ap (λ (x : ℤ). x *ℤ c) (suc_ℤ-*ℤ (pos n) b) ∙ omega (arith, ints, +ℤ-*ℤ (pos n *ℤ b) b c, *ℤ_assoc (pos n) b c, suc_ℤ-*ℤ (pos n) (b *ℤ c))
*ℤ_assoc (negsuc zero) b c =
    ap (λ (x : ℤ). x *ℤ c) (pred_ℤ-*ℤ (pos zero) b ∙ ap (λ (x : ℤ). x -ℤ b) (zero-*ℤ b))
    ∙ omega (arith, ints, -ℤ-*ℤ (pos 0) b c, zero-*ℤ c, zero-*ℤ (b *ℤ c), pred_ℤ-*ℤ (pos zero) (b *ℤ c))
*ℤ_assoc (negsuc (suc n)) b c =
    ap (λ (x : ℤ). x *ℤ c) (pred_ℤ-*ℤ (negsuc n) b)
    ∙ omega (arith, ints, -ℤ-*ℤ (negsuc n *ℤ b) b c, *ℤ_assoc (negsuc n) b c, pred_ℤ-*ℤ (negsuc n) (b *ℤ c))

pub *ℤ_left_comm : (a b c : ℤ) → a *ℤ (b *ℤ c) ≡ b *ℤ (a *ℤ c)
*ℤ_left_comm a b c = sym (*ℤ_assoc a b c) ∙ ap (λ (x : ℤ). x *ℤ c) (*ℤ_comm a b) ∙ *ℤ_assoc b a c

-- (g * p) * (h * x) is (g * h) * (p * x)
pub *ℤ_pairs : (g p h x : ℤ) → (g *ℤ p) *ℤ (h *ℤ x) ≡ (g *ℤ h) *ℤ (p *ℤ x)
*ℤ_pairs g p h x = *ℤ_assoc g p (h *ℤ x) ∙ ap (λ (y : ℤ). g *ℤ y) (*ℤ_left_comm p h x) ∙ sym (*ℤ_assoc g h (p *ℤ x))

-- ---- sizes

pub unsigned_abs-+ℤ-le : (a b : ℤ) → unsigned_abs (a +ℤ b) ≤ unsigned_abs a + unsigned_abs b
unsigned_abs-+ℤ-le a b = omega (arith, ints)

-- ---- a factor above 0 keeps the order

-- the number that is y - x, where x is not above y
pub risen : (x y : ℤ) → x ≤ℤ y → (d : ℕ) × (y ≡ x +ℤ pos d)
risen x y h = (unsigned_abs (y -ℤ x), omega (arith, ints))

pub times-le : (g : ℕ) (x y : ℤ) → x ≤ℤ y → (pos g *ℤ x) ≤ℤ (pos g *ℤ y)
times-le g x y h =
    let by : (d : ℕ) × (y ≡ x +ℤ pos d) = risen x y h in
    let whole : pos g *ℤ y ≡ pos g *ℤ x +ℤ pos (g * by.0) = ap (λ (z : ℤ). pos g *ℤ z) by.1 ∙ *ℤ-+ℤ (pos g) x (pos by.0) in
    omega (arith, ints, whole)

pub times-lt : (g : ℕ) (x y : ℤ) → 1 ≤ g → x <ℤ y → (pos g *ℤ x) <ℤ (pos g *ℤ y)
times-lt g x y low h =
    let by : (d : ℕ) × (y ≡ x +ℤ pos d) = risen x y (omega (arith, ints)) in
    let whole : pos g *ℤ y ≡ pos g *ℤ x +ℤ pos (g * by.0) = ap (λ (z : ℤ). pos g *ℤ z) by.1 ∙ *ℤ-+ℤ (pos g) x (pos by.0) in
    let some : 0 < by.0 = omega (arith, ints, by.1) in
    omega (arith, ints, whole, mul-pos {m = g} {n = by.0} (omega arith) some)

pub int_lt-times : (g : ℕ) (x y : ℤ) → 1 ≤ g → int_lt (pos g *ℤ x) (pos g *ℤ y) ≡ int_lt x y
int_lt-times g x y low =
    by_lt_z {P = int_lt (pos g *ℤ x) (pos g *ℤ y) ≡ int_lt x y} x y
    (λ h.
    let more = times-lt g x y low h in
    let here : true ≡ int_lt x y = omega (arith, ints) in
    let there : true ≡ int_lt (pos g *ℤ x) (pos g *ℤ y) = omega (arith, ints) in
    sym there ∙ here)
    (λ h.
    let more = times-le g y x h in
    let here : false ≡ int_lt x y = omega (arith, ints) in
    let there : false ≡ int_lt (pos g *ℤ x) (pos g *ℤ y) = omega (arith, ints) in
    sym there ∙ here)
