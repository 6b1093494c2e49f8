-- Near lists, added one after another: earlier ones stay.
use Rattle.std.proofs.Common.{◌≡◌, ℕ, ◌+◌, ◌*◌, ◌<◌, ◌≤◌, List, length, set, slice_index, sym, subst, ◌∙◌, ⊎_elim, arith}
use Rattle.std.specs.List.{SameBelow}
use Rattle.std.proofs.lemmas.Bool.{cases_lt}
use Rattle.std.proofs.lemmas.List.{get_or-set_same, get_or-set_other}
use Rattle.std.proofs.lemmas.Nat.{mul-le, mul-add-lt}
use Rattle.unit_duals.specs.Nearness.{IsNearPart, AreNearLists, AreNearUpTo}

-- a list of what is near in one sense is one of what is near in another, where what is far in the first is in the other
pub near_part_by : (n : ℕ) (far also : ℕ → Type 0) (start end : ℕ) (nodes : List ℕ) → ((j : ℕ) → j < n → far j → also j)
    → IsNearPart n far start end nodes → IsNearPart n also start end nodes
near_part_by n far also start end nodes then part = record {
  ordered = part.ordered;
  within = part.within;
  are_nodes = part.are_nodes;
  left_out = λ j below none. then j below (part.left_out j below none);
}

-- a list stays where its nodes stay
near_part_kept : (n : ℕ) (far : ℕ → Type 0) (start end z : ℕ) (old new : List ℕ) → end ≤ z → SameBelow old new z
    → length new ≡ length old → IsNearPart n far start end old → IsNearPart n far start end new
near_part_kept n far start end z old new most same long part = record {
  ordered = part.ordered;
  within = omega (arith, part.within, long);
  are_nodes = λ y low high. (let s = same y 0 (omega (arith, high, most)) in let b = part.are_nodes y low high in omega (arith, s, b));
  left_out = λ j below none. part.left_out j below (λ y low high e. none y low high (same y 0 (omega (arith, high, most)) ∙ e));
}

-- .. and where the starts are written otherwise
near_part_at : (n : ℕ) (far : ℕ → Type 0) (start end first last : ℕ) (nodes : List ℕ) → first ≡ start → last ≡ end
    → IsNearPart n far start end nodes → IsNearPart n far first last nodes
near_part_at n far start end first last nodes e f part =
    subst (λ (x : ℕ). IsNearPart n far x last nodes) (sym e) (subst (λ (x : ℕ). IsNearPart n far start x nodes) (sym f) part)

-- the lists before the row t stand, and those of its first e places; the next one begins at `end`
pub record IsNearRowAt (n c : ℕ) (far : ℕ → ℕ → ℕ → Type 0) (t e end : ℕ) (starts nodes : List ℕ) : Type 0 where
  pub before : AreNearLists n c far t starts nodes
  pub before_ends : (s d : ℕ) → d < s → s < t → slice_index starts (s * c + d + 1) ≤ end
  pub here : (d : ℕ) → d < e → IsNearPart n (far t d) (slice_index starts (t * c + d)) (slice_index starts (t * c + d + 1)) nodes
  pub here_ends : (d : ℕ) → d < e → slice_index starts (t * c + d + 1) ≤ end
  pub next : slice_index starts (t * c + e) ≡ end
  pub small : 2 * end ≤ (t * t + 2 * e) * n

-- an earlier row's starts are before those of the row t
earlier_start : (c s d t : ℕ) → s < t → d < c → s * c + d < t * c
earlier_start c s d t row column = omega (arith, mul-add-lt s c d t row column)

pub near_row_start : (n c : ℕ) (far : ℕ → ℕ → ℕ → Type 0) (t start : ℕ) (starts nodes : List ℕ) → t < c → t * c < length starts
    → AreNearUpTo n c far t start starts nodes → IsNearRowAt n c far t 0 start (set starts (t * c) start) nodes
near_row_start n c far t start starts nodes place within so_far = record {
  before = record {
    each = λ s d earlier row. near_part_at n (far s d) (slice_index starts (s * c + d)) (slice_index starts (s * c + d + 1))
        (slice_index new (s * c + d)) (slice_index new (s * c + d + 1)) nodes (kept s d earlier row) (kept_next s d earlier row)
        (so_far.lists.each s d earlier row);
  };
  before_ends = λ s d earlier row. (let k = kept_next s d earlier row in let h = so_far.ends s d earlier row in omega (arith, k, h));
  here = λ d below. absurd (omega (arith, below));
  here_ends = λ d below. absurd (omega (arith, below));
  next = (let same : t * c + 0 ≡ t * c = omega arith in subst (λ (x : ℕ). slice_index new x ≡ start) (sym same) (get_or-set_same starts (t * c) start 0 within));
  small = omega (arith, so_far.small);
}
  where
    new : List ℕ
    new = set starts (t * c) start

    kept : (s d : ℕ) → d < s → s < t → slice_index new (s * c + d) ≡ slice_index starts (s * c + d)
    kept s d earlier row =
        get_or-set_other starts (t * c) (s * c + d) start 0
        (λ e. (let h = earlier_start c s d t row (omega (arith, earlier, row, place)) in omega (arith, e, h)))

    kept_next : (s d : ℕ) → d < s → s < t → slice_index new (s * c + d + 1) ≡ slice_index starts (s * c + d + 1)
    kept_next s d earlier row =
        get_or-set_other starts (t * c) (s * c + d + 1) start 0
        (λ e. (let h = earlier_start c s (d + 1) t row (omega (arith, earlier, row, place)) in omega (arith, e, h)))

pub near_row_more : (n c : ℕ) (far : ℕ → ℕ → ℕ → Type 0) (t e end to : ℕ) (starts old new : List ℕ) → e < t → t < c
    → t * c + e + 1 < length starts → SameBelow old new end → length new ≡ length old → to ≤ end + n
    → IsNearPart n (far t e) end to new
    → IsNearRowAt n c far t e end starts old → IsNearRowAt n c far t (e + 1) to (set starts (t * c + e + 1) to) new
near_row_more n c far t e end to starts old new earlier place within same long short part so_far = record {
  before = record {
    each = λ s d less row. near_part_at n (far s d) (slice_index starts (s * c + d)) (slice_index starts (s * c + d + 1))
        (slice_index next (s * c + d)) (slice_index next (s * c + d + 1)) new (before_kept s d less row) (before_next s d less row)
        (near_part_kept n (far s d) (slice_index starts (s * c + d)) (slice_index starts (s * c + d + 1)) end old new (so_far.before_ends s d less row)
        same long (so_far.before.each s d less row));
  };
  before_ends = λ s d less row. (let k = before_next s d less row in let h = so_far.before_ends s d less row in omega (arith, k, h, part.ordered));
  here = λ d below. ⊎_elim (here_early d) (λ (late : e ≤ d). let is : e ≡ d = omega (arith, below, late) in subst Part is here_now) (cases_lt d e);
  here_ends = λ d below. ⊎_elim
      (λ (early : d < e). let k = kept_after d early in let h = so_far.here_ends d early in omega (arith, k, h, part.ordered))
      (λ (late : e ≤ d). let is : e ≡ d = omega (arith, below, late) in subst (λ (x : ℕ). slice_index next (t * c + x + 1) ≤ to) is (omega (arith, at_next)))
      (cases_lt d e);
  next = (let same : t * c + (e + 1) ≡ t * c + e + 1 = omega arith in subst (λ (x : ℕ). slice_index next x ≡ to) (sym same) at_next);
  small = omega (arith, so_far.small, short);
}
  where
    next : List ℕ
    next = set starts (t * c + e + 1) to

    Part : ℕ → Type 0
    Part d = IsNearPart n (far t d) (slice_index next (t * c + d)) (slice_index next (t * c + d + 1)) new

    at_next : slice_index next (t * c + e + 1) ≡ to
    at_next = get_or-set_same starts (t * c + e + 1) to 0 within

    before_kept : (s d : ℕ) → d < s → s < t → slice_index next (s * c + d) ≡ slice_index starts (s * c + d)
    before_kept s d less row =
        get_or-set_other starts (t * c + e + 1) (s * c + d) to 0
        (λ x. (let h = earlier_start c s d t row (omega (arith, less, row, place)) in omega (arith, x, h)))

    before_next : (s d : ℕ) → d < s → s < t → slice_index next (s * c + d + 1) ≡ slice_index starts (s * c + d + 1)
    before_next s d less row =
        get_or-set_other starts (t * c + e + 1) (s * c + d + 1) to 0
        (λ x. (let h = earlier_start c s (d + 1) t row (omega (arith, less, row, place)) in omega (arith, x, h)))

    kept_within : (d : ℕ) → d ≤ e → slice_index next (t * c + d) ≡ slice_index starts (t * c + d)
    kept_within d below = get_or-set_other starts (t * c + e + 1) (t * c + d) to 0 (λ x. omega (arith, x, below))

    kept_after : (d : ℕ) → d < e → slice_index next (t * c + d + 1) ≡ slice_index starts (t * c + d + 1)
    kept_after d below = get_or-set_other starts (t * c + e + 1) (t * c + d + 1) to 0 (λ x. omega (arith, x, below))

    here_early : (d : ℕ) → d < e → Part d
    here_early d early =
        near_part_at n (far t d) (slice_index starts (t * c + d)) (slice_index starts (t * c + d + 1))
        (slice_index next (t * c + d)) (slice_index next (t * c + d + 1)) new (kept_within d (omega (arith, early)))
        (kept_after d early)
        (near_part_kept n (far t d) (slice_index starts (t * c + d)) (slice_index starts (t * c + d + 1)) end old new (so_far.here_ends d early)
        same long (so_far.here d early))

    here_now : Part e
    here_now = near_part_at n (far t e) end to (slice_index next (t * c + e)) (slice_index next (t * c + e + 1)) new
        (kept_within e (omega arith) ∙ so_far.next) at_next part

pub near_row_end : (n c : ℕ) (far : ℕ → ℕ → ℕ → Type 0) (t end : ℕ) (starts nodes : List ℕ)
    → IsNearRowAt n c far t t end starts nodes → AreNearUpTo n c far (t + 1) end starts nodes
near_row_end n c far t end starts nodes whole = record {
  lists = record {
    each = λ s d earlier row. ⊎_elim (whole.before.each s d earlier)
        (λ (late : t ≤ s). let same : t ≡ s = omega (arith, row, late) in
        subst (λ (x : ℕ). IsNearPart n (far x d) (slice_index starts (x * c + d)) (slice_index starts (x * c + d + 1)) nodes) same
        (whole.here d (omega (arith, earlier, same))))
        (cases_lt s t);
  };
  ends = λ s d earlier row. ⊎_elim (whole.before_ends s d earlier)
      (λ (late : t ≤ s). let same : t ≡ s = omega (arith, row, late) in
      subst (λ (x : ℕ). slice_index starts (x * c + d + 1) ≤ end) same (whole.here_ends d (omega (arith, earlier, same))))
      (cases_lt s t);
  small = omega (arith, whole.small);
}

-- there is room for one more list
pub near_room : (n c t e end room : ℕ) → e < t → t < c → 2 * end ≤ (t * t + 2 * e) * n → c * c * n ≤ 2 * room → end + n ≤ room
near_room n c t e end room earlier place small enough =
    let square = mul-le (t + 1) (t + 1) c c (omega (arith, place)) (omega (arith, place)) in
    let all = mul-le ((t + 1) * (t + 1)) n (c * c) n square (omega arith) in
    let more = mul-le (e + 1) n t n (omega (arith, earlier)) (omega arith) in
    omega (arith, small, enough, all, more)
