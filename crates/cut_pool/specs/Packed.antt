-- Numbers of which those above 0 are listed.
use Rattle.std.specs.Prelude.{◌≡◌, ℕ, ◌+◌, ◌*◌, ◌<◌, List, [], ◌∷◌, length, replicate, slice_range, slice_set, flat_map}
use Rattle.std.specs.declared.vec.Vec.{Vec}
use Rattle.std.specs.declared.alloc.Global.{Global}
use Rattle.cut_model.specs.ValueRows.{ValueRows, row_for}
use Rattle.cut_pool.specs.Items.{PackedItem}

-- a list with the items' numbers written into it, one after another
abbrev pub written : List ℕ → List PackedItem → List ℕ
written numbers [] = numbers
written numbers (x ∷ xs) = written (slice_set numbers x.at x.number) xs

-- so many numbers: those of the items, and else 0
abbrev pub unpacked : ℕ → List PackedItem → List ℕ
unpacked n items = written (replicate n 0) items

-- all numbers of some lists of items, so many of each
abbrev pub all_unpacked : ℕ → List (Vec PackedItem Global) → List ℕ
all_unpacked cells lists = flat_map (λ v. unpacked cells v.items) lists

-- the numbers are those of so many lists, with so many of each
pub record ArePacked (numbers : List ℕ) (count cells : ℕ) (lists : Vec (Vec PackedItem Global) Global) : Type 0 where
  pub count_is : length lists.items ≡ count
  pub numbers_are : all_unpacked cells lists.items ≡ numbers

-- the row of the destination j, among an origin's rows of so many places each
abbrev pub row_of : ℕ → List ℕ → ℕ → List ℕ
row_of places rows j = slice_range rows (j * places) (j * places + places)

-- the rows are those of the commodities from i, one after another
pub record AreRowsFrom (w : ValueRows) (i : ℕ) (rows : List ℕ) : Type 0 where
  pub long : length rows ≡ w.size * w.places
  pub each : (j : ℕ) → j < w.size → row_of w.places rows j ≡ row_for w (i, j)
