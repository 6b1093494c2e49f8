-- The numbers of the variables follow from those that are kept, and so they do through each step of a pivot.
use Rattle.std.proofs.Common.{◌≡◌, ℕ, zero, suc, ◌+◌, List, [], ◌∷◌, ◌++◌, map, length, ℤ, ◌+ℤ◌, ◌-ℤ◌, ◌*ℤ◌, refl, sym, ap, ap₂, ◌∙◌, arith}
use Rattle.std.proofs.Math.IntN.{*ℤ-zero, *ℤ_comm}
use Rattle.std.proofs.lemmas.Int.{ints}
use Rattle.std.proofs.lemmas.List.{map-append, length-append, length-map}
use Rattle.frac_rows.specs.Rows.{number, eliminated}
use Rattle.frac_rows.specs.Stored.{dot, times, extended}
use Rattle.frac_rows.proofs.Integers.{*ℤ-+ℤ, *ℤ--ℤ, -ℤ-*ℤ, *ℤ_assoc, *ℤ_pairs}

-- ---- by a factor

pub number-times : (m : ℤ) (row : List ℤ) (c : ℕ) → number (times m row) c ≡ m *ℤ number row c
number-times m [] c = sym (*ℤ-zero m)
number-times m (x ∷ row) zero = refl
number-times m (x ∷ row) (suc c) = number-times m row c

pub dot-times : (m : ℤ) (row column : List ℤ) → dot (times m row) column ≡ m *ℤ dot row column
dot-times m [] column = sym (*ℤ-zero m)
dot-times m (x ∷ row) [] = sym (*ℤ-zero m)
dot-times m (x ∷ row) (y ∷ column) =
    ap₂ ◌+ℤ◌ (*ℤ_assoc m x y) (dot-times m row column) ∙ sym (*ℤ-+ℤ m (x *ℤ y) (dot row column))

map-dot-times : (m : ℤ) (row : List ℤ) (columns : List (List ℤ)) → map (dot (times m row)) columns ≡ map (λ x. m *ℤ x) (map (dot row) columns)
map-dot-times m row [] = refl
map-dot-times m row (column ∷ columns) = ap₂ (λ x xs. x ∷ xs) (dot-times m row column) (map-dot-times m row columns)

pub extended-times : (columns : List (List ℤ)) (m : ℤ) (row : List ℤ) → extended columns (times m row) ≡ times m (extended columns row)
unfolding extended
extended-times columns m row =
    ap (λ xs. xs ++ times m row) (map-dot-times m row columns) ∙ sym (map-append (λ x. m *ℤ x) (map (dot row) columns) row)

pub length-extended : (columns : List (List ℤ)) (row : List ℤ) → length (extended columns row) ≡ length columns + length row
unfolding extended
length-extended columns row = length-append (map (dot row) columns) row ∙ ap (λ n. n + length row) (length-map columns (dot row))

-- the factors of two rows come out of what is eliminated
eliminated_pairs : (g h p e : ℤ) (row base : List ℤ)
    → eliminated (h *ℤ p) (times g row) (g *ℤ e) (times h base) ≡ times (g *ℤ h) (eliminated p row e base)
eliminated_pairs g h p e [] base = refl
eliminated_pairs g h p e (x ∷ row) [] = refl
eliminated_pairs g h p e (x ∷ row) (y ∷ base) =
    let first : (h *ℤ p) *ℤ (g *ℤ x) ≡ (g *ℤ h) *ℤ (p *ℤ x) = *ℤ_pairs h p g x ∙ ap (λ z. z *ℤ (p *ℤ x)) (*ℤ_comm h g) in
    let second : (g *ℤ e) *ℤ (h *ℤ y) ≡ (g *ℤ h) *ℤ (e *ℤ y) = *ℤ_pairs g e h y in
    ap₂ (λ z zs. z ∷ zs) (ap₂ ◌-ℤ◌ first second ∙ sym (*ℤ--ℤ (g *ℤ h) (p *ℤ x) (e *ℤ y))) (eliminated_pairs g h p e row base)

pub eliminated-times : (g h : ℤ) (c : ℕ) (row base : List ℤ)
    → eliminated (number (times h base) c) (times g row) (number (times g row) c) (times h base)
    ≡ times (g *ℤ h) (eliminated (number base c) row (number row c) base)
eliminated-times g h c row base =
    ap₂ (λ p e. eliminated p (times g row) e (times h base)) (number-times h base c) (number-times g row c)
    ∙ eliminated_pairs g h (number base c) (number row c) row base

-- ---- what is eliminated

pub length-eliminated : (p : ℤ) (row : List ℤ) (e : ℤ) (base : List ℤ) → length row ≡ length base → length (eliminated p row e base) ≡ length row
length-eliminated p [] e base long = refl
length-eliminated p (x ∷ row) e [] long = absurd (omega arith)
length-eliminated p (x ∷ row) e (y ∷ base) long = ap suc (length-eliminated p row e base (omega arith))

pub number-eliminated : (p : ℤ) (row : List ℤ) (e : ℤ) (base : List ℤ) (c : ℕ) → length row ≡ length base
    → number (eliminated p row e base) c ≡ p *ℤ number row c -ℤ e *ℤ number base c
number-eliminated p [] e [] c long = omega (arith, ints, *ℤ-zero p, *ℤ-zero e)
number-eliminated p [] e (y ∷ base) c long = absurd (omega arith)
number-eliminated p (x ∷ row) e [] c long = absurd (omega arith)
number-eliminated p (x ∷ row) e (y ∷ base) zero long = refl
number-eliminated p (x ∷ row) e (y ∷ base) (suc c) long = number-eliminated p row e base c (omega arith)

combined : (p x e y a b z : ℤ) → (p *ℤ x -ℤ e *ℤ y) *ℤ z +ℤ (p *ℤ a -ℤ e *ℤ b) ≡ p *ℤ (x *ℤ z +ℤ a) -ℤ e *ℤ (y *ℤ z +ℤ b)
combined p x e y a b z =
    omega (
      arith,
      ints,
      -ℤ-*ℤ (p *ℤ x) (e *ℤ y) z,
      *ℤ_assoc p x z,
      *ℤ_assoc e y z,
      *ℤ-+ℤ p (x *ℤ z) a,
      *ℤ-+ℤ e (y *ℤ z) b,
    )

pub dot-eliminated : (p : ℤ) (row : List ℤ) (e : ℤ) (base column : List ℤ) → length row ≡ length base
    → dot (eliminated p row e base) column ≡ p *ℤ dot row column -ℤ e *ℤ dot base column
dot-eliminated p [] e [] column long = omega (arith, ints, *ℤ-zero p, *ℤ-zero e)
dot-eliminated p [] e (y ∷ base) column long = absurd (omega arith)
dot-eliminated p (x ∷ row) e [] column long = absurd (omega arith)
dot-eliminated p (x ∷ row) e (y ∷ base) [] long = omega (arith, ints, *ℤ-zero p, *ℤ-zero e)
dot-eliminated p (x ∷ row) e (y ∷ base) (z ∷ column) long =
    ap (λ n. (p *ℤ x -ℤ e *ℤ y) *ℤ z +ℤ n) (dot-eliminated p row e base column (omega arith))
    ∙ combined p x e y (dot row column) (dot base column) z

eliminated-append : (p : ℤ) (row : List ℤ) (e : ℤ) (base : List ℤ) (columns : List (List ℤ)) → length row ≡ length base
    → eliminated p (map (dot row) columns ++ row) e (map (dot base) columns ++ base)
    ≡ map (dot (eliminated p row e base)) columns ++ eliminated p row e base
eliminated-append p row e base columns long = before columns
  where
    before : (ahead : List (List ℤ))
        → eliminated p (map (dot row) ahead ++ row) e (map (dot base) ahead ++ base)
        ≡ map (dot (eliminated p row e base)) ahead ++ eliminated p row e base
    before [] = refl
    before (column ∷ ahead) = ap₂ (λ z zs. z ∷ zs) (sym (dot-eliminated p row e base column long)) (before ahead)

pub extended-eliminated : (columns : List (List ℤ)) (p : ℤ) (row : List ℤ) (e : ℤ) (base : List ℤ) → length row ≡ length base
    → eliminated p (extended columns row) e (extended columns base) ≡ extended columns (eliminated p row e base)
unfolding extended
extended-eliminated columns p row e base long = eliminated-append p row e base columns long
