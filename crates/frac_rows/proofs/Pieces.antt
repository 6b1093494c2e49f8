-- A part of a list that is written, and the others.
use Rattle.std.proofs.Common.{◌≡◌, ℕ, ◌+◌, ◌-◌, ◌*◌, ◌<◌, ◌≤◌, List, ◌++◌, length, take, drop, ℤ, sym, ap, ◌∙◌, arith, le_refl}
use borrow.Rule.Slice.PartMut.{put_mid, post_of}
use Rattle.std.proofs.lemmas.Nat.{row_fits}
use Rattle.std.proofs.lemmas.List.{length-take-le, length-drop, take_at, take-take, take-append-le, drop_at, drop-append-le, drop-take}
use Rattle.frac_rows.specs.Stored.{piece}

-- the part that is written is what was written
pub piece_put : (w i s : ℕ) (flat part : List ℤ) → i * w ≤ length flat → length part ≡ w → piece w (put_mid (i * w) s flat part) i ≡ part
piece_put w i s flat part within size =
    ap (take w) (drop_at (take (i * w) flat) (part ++ post_of (i * w) s flat) (i * w) (length-take-le (i * w) flat within))
    ∙ take_at part (post_of (i * w) s flat) w size

-- an earlier part is as it was
pub piece_kept : (w i k s : ℕ) (flat part : List ℤ) → i * w ≤ length flat → k < i → piece w (put_mid (i * w) s flat part) k ≡ piece w flat k
piece_kept w i k s flat part within less =
    let before : k * w + w ≤ i * w = row_fits k w i w less (le_refl w) in
    let front = take (i * w) flat in
    let long : length front ≡ i * w = length-take-le (i * w) flat within in
    let rest = part ++ post_of (i * w) s flat in
    let m = i * w - k * w in
    let whole : k * w + m ≡ i * w = omega arith in
    let enough : w ≤ m = omega arith in
    ap (take w) (drop-append-le (k * w) front rest (omega arith))
    ∙ take-append-le w (drop (k * w) front) rest (omega (arith, length-drop (k * w) front))
    ∙ ap (λ n. take w (drop (k * w) (take n flat))) (sym whole)
    ∙ ap (take w) (drop-take (k * w) m flat)
    ∙ take-take w m (drop (k * w) flat) enough
