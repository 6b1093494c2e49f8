-- Each event keeps the draw machine sound.
use Rattle.std.proofs.Common.{◌≡◌, ◌≢◌, ℕ, zero, suc, ◌+◌, ◌-◌, ◌/◌, ◌<◌, ◌≤◌, min, Bool, true, false, true≢false, ◌||◌, cond, [], ◌∷◌, ◌++◌, length, length-append, set, sym, ap, ◌∙◌, refl, ⊎_elim, arith}
use Rattle.std.specs.Prelude.{nat_lt, ◌==◌}
use Rattle.std.proofs.lemmas.Bool.{cond_both}
use Rattle.std.proofs.lemmas.Bool.Decides.{nat_tests}
use Rattle.std.proofs.lemmas.List.Sums.{sum_by_push, sum_by-append}
use mathlib.Core.Option.{some, some-injective, some-ne-none}
use lib.ListN.{get_elem?}
use Rattle.atomic_table.proofs.Lists.{at_set, at_snoc, set_else}
use Rattle.claim_board.specs.declared.hands.Hand.{Hand}
use Rattle.claim_board.specs.Hands.{hand, times, drew, kept_half, new_half, both, spent}
use Rattle.claim_board.specs.Draws.{Machine, start, once_below, ended_share, Sound}
use Rattle.claim_board.proofs.Sums.{put}

pub sound_start : (blocks seats : ℕ) → Sound blocks seats (start seats)
sound_start blocks seats = record {
  once = λ x. grind (arith, nat_tests);
  count = omega arith;
  shares = omega arith;
  spent_empty = λ k v at none. one_seat k v at;
  ended_past = λ k v at ended. absurd (true≢false (sym ended ∙ (one_seat k v at).1));
  bounded = omega arith;
}
  where
    one_seat : (k : ℕ) (v : Hand) → get_elem? (hand [] seats false ∷ []) k ≡ some v → (v.drawn ≡ []) × (v.ended ≡ false)
    one_seat zero v at = let same = some-injective (hand [] seats false) v at in (sym (ap (λ (u : Hand). u.drawn) same), sym (ap (λ (u : Hand). u.ended) same))
    one_seat (suc k) v at = absurd (some-ne-none v (sym at))

module _ (blocks seats : ℕ) (m : Machine) (s : Sound blocks seats m) where
  -- ---- a draw

  pub drawn_below : (k : ℕ) (v : Hand) → get_elem? m.seats k ≡ some v → 0 < v.share → v.ended ≡ false → m.next < blocks
      → Sound blocks seats record { next = m.next + 1; seats = set m.seats k (hand (v.drawn ++ m.next ∷ []) v.share v.ended) }
  drawn_below k v at share going below =
      let w = hand (v.drawn ++ m.next ∷ []) v.share v.ended in record {
        once = λ x.
            let p = put (λ (u : Hand). times x u.drawn) m.seats k v w at in
            let o = s.once x in
            let t = sum_by_push (λ y. cond (y == x) 1 0) v.drawn m.next in
            grind (arith, nat_tests, p, o, t, below);
        count =
            let p = put (λ (u : Hand). length u.drawn) m.seats k v w at in
            let o = s.count in
            let t : length (v.drawn ++ m.next ∷ []) ≡ length v.drawn + 1 = length-append v.drawn (m.next ∷ []) in
            omega (arith, p, o, t, below);
        shares = let p = put (λ (u : Hand). u.share) m.seats k v w at in let o = s.shares in omega (arith, p, o);
        spent_empty = λ j u there none.
            ⊎_elim
            (λ (t : (j ≡ k) × (w ≡ u)). let e : v.share ≡ u.share = ap (λ (h : Hand). h.share) t.1 in absurd (omega (arith, e, none, share)))
            (λ (t : (j ≢ k) × (get_elem? m.seats j ≡ some u)). s.spent_empty j u t.1 none)
            (at_set m.seats k j w u there);
        ended_past = λ j u there ended.
            ⊎_elim
            (λ (t : (j ≡ k) × (w ≡ u)). absurd (true≢false (sym ended ∙ sym (ap (λ (h : Hand). h.ended) t.1) ∙ going)))
            (λ (t : (j ≢ k) × (get_elem? m.seats j ≡ some u)). let p = s.ended_past j u t.1 ended in omega (arith, p))
            (at_set m.seats k j w u there);
        bounded = omega (arith, below);
      }

  pub drawn_past : (k : ℕ) (v : Hand) → get_elem? m.seats k ≡ some v → 0 < v.share → v.ended ≡ false → blocks ≤ m.next
      → Sound blocks seats record { next = m.next + 1; seats = set m.seats k (hand v.drawn v.share true) }
  drawn_past k v at share going past =
      let w = hand v.drawn v.share true in record {
        once = λ x.
            let p = put (λ (u : Hand). times x u.drawn) m.seats k v w at in
            let o = s.once x in
            let less : min m.next blocks ≡ min (m.next + 1) blocks = omega (arith, past) in
            let same = ap (once_below x) less in
            omega (arith, p, o, same);
        count =
            let p = put (λ (u : Hand). length u.drawn) m.seats k v w at in
            let o = s.count in
            omega (arith, p, o, past);
        shares = let p = put (λ (u : Hand). u.share) m.seats k v w at in let o = s.shares in omega (arith, p, o);
        spent_empty = λ j u there none.
            ⊎_elim
            (λ (t : (j ≡ k) × (w ≡ u)). let e : v.share ≡ u.share = ap (λ (h : Hand). h.share) t.1 in absurd (omega (arith, e, none, share)))
            (λ (t : (j ≢ k) × (get_elem? m.seats j ≡ some u)). s.spent_empty j u t.1 none)
            (at_set m.seats k j w u there);
        ended_past = λ j u there ended. omega (arith, past);
        bounded =
            let p = put ended_share m.seats k v w at in
            let o = s.bounded in
            let mine : ended_share v ≡ 0 = ap (λ b. cond b v.share 0) going in
            omega (arith, p, o, mine, share);
      }

  pub drawn : (k : ℕ) (v : Hand) → get_elem? m.seats k ≡ some v → 0 < v.share → v.ended ≡ false
      → Sound blocks seats record { next = m.next + 1; seats = set m.seats k (drew blocks m.next v) }
  drawn k v at share going =
      cond_both (nat_lt m.next blocks) (hand (v.drawn ++ m.next ∷ []) v.share v.ended) (hand v.drawn v.share true)
      (λ (w : Hand). Sound blocks seats record { next = m.next + 1; seats = set m.seats k w })
      (λ below. drawn_below k v at share going (grind (arith, nat_tests, below)))
      (λ past. drawn_past k v at share going (grind (arith, nat_tests, past)))

  -- ---- a split

  pub halved : (k : ℕ) (v : Hand) → get_elem? m.seats k ≡ some v → 2 ≤ v.share
      → Sound blocks seats record { next = m.next; seats = set m.seats k (kept_half v) ++ new_half v ∷ [] }
  halved k v at two =
      let w = kept_half v in
      let n = new_half v in
      let l = set m.seats k w in record {
        once = λ x.
            let f : Hand → ℕ = λ u. times x u.drawn in
            let p = put f m.seats k v w at in
            let o = s.once x in
            let t = sum_by_push f l n in
            omega (arith, p, o, t);
        count =
            let f : Hand → ℕ = λ u. length u.drawn in
            let p = put f m.seats k v w at in
            let o = s.count in
            let t = sum_by_push f l n in
            omega (arith, p, o, t);
        shares =
            let f : Hand → ℕ = λ u. u.share in
            let p = put f m.seats k v w at in
            let o = s.shares in
            let t = sum_by_push f l n in
            omega (arith, p, o, t);
        spent_empty = λ j u there none.
            ⊎_elim
            (λ (old : get_elem? l j ≡ some u).
            ⊎_elim
            (λ (t : (j ≡ k) × (w ≡ u)). let e : v.share - v.share / 2 ≡ u.share = ap (λ (h : Hand). h.share) t.1 in absurd (omega (arith, e, none, two)))
            (λ (t : (j ≢ k) × (get_elem? m.seats j ≡ some u)). s.spent_empty j u t.1 none)
            (at_set m.seats k j w u old))
            (λ (new : n ≡ u). let e : v.share / 2 ≡ u.share = ap (λ (h : Hand). h.share) new in absurd (omega (arith, e, none, two)))
            (at_snoc l n u j there);
        ended_past = λ j u there ended.
            ⊎_elim
            (λ (old : get_elem? l j ≡ some u).
            ⊎_elim
            (λ (t : (j ≡ k) × (w ≡ u)). s.ended_past k v at (ap (λ (h : Hand). h.ended) t.1 ∙ ended))
            (λ (t : (j ≢ k) × (get_elem? m.seats j ≡ some u)). s.ended_past j u t.1 ended)
            (at_set m.seats k j w u old))
            (λ (new : n ≡ u). s.ended_past k v at (ap (λ (h : Hand). h.ended) new ∙ ended))
            (at_snoc l n u j there);
        bounded =
            let p = put ended_share m.seats k v w at in
            let o = s.bounded in
            let t = sum_by_push ended_share l n in
            let c : ended_share w + ended_share n ≡ ended_share v = halves v.ended v.share in
            omega (arith, p, o, t, c);
      }
    where
      halves : (b : Bool) (n : ℕ) → cond b (n - n / 2) 0 + cond b (n / 2) 0 ≡ cond b n 0
      halves true n = omega arith
      halves false n = omega arith

  -- ---- a join

  pub joined : (i j : ℕ) (v w : Hand) → get_elem? m.seats i ≡ some v → get_elem? m.seats j ≡ some w → i ≢ j → 0 < v.share → 0 < w.share
      → Sound blocks seats record { next = m.next; seats = set (set m.seats i (both v w)) j spent }
  joined i j v w here there apart one two =
      let b = both v w in
      let l = set m.seats i b in
      let still : get_elem? l j ≡ some w = set_else m.seats i j b (λ e. apart (sym e)) ∙ there in record {
        once = λ x.
            let f : Hand → ℕ = λ u. times x u.drawn in
            let p = put f m.seats i v b here in
            let q = put f l j w spent still in
            let o = s.once x in
            let t = sum_by-append (λ y. cond (y == x) 1 0) v.drawn w.drawn in
            omega (arith, p, q, o, t);
        count =
            let f : Hand → ℕ = λ u. length u.drawn in
            let p = put f m.seats i v b here in
            let q = put f l j w spent still in
            let o = s.count in
            let t = length-append v.drawn w.drawn in
            omega (arith, p, q, o, t);
        shares =
            let f : Hand → ℕ = λ u. u.share in
            let p = put f m.seats i v b here in
            let q = put f l j w spent still in
            let o = s.shares in
            omega (arith, p, q, o);
        spent_empty = λ k u at none.
            ⊎_elim
            (λ (t : (k ≡ j) × (spent ≡ u)). (sym (ap (λ (h : Hand). h.drawn) t.1), sym (ap (λ (h : Hand). h.ended) t.1)))
            (λ (t : (k ≢ j) × (get_elem? l k ≡ some u)).
            ⊎_elim
            (λ (t : (k ≡ i) × (b ≡ u)). let e : v.share + w.share ≡ u.share = ap (λ (h : Hand). h.share) t.1 in absurd (omega (arith, e, none, one)))
            (λ (t : (k ≢ i) × (get_elem? m.seats k ≡ some u)). s.spent_empty k u t.1 none)
            (at_set m.seats i k b u t.1))
            (at_set l j k spent u at);
        ended_past = λ k u at ended.
            ⊎_elim
            (λ (t : (k ≡ j) × (spent ≡ u)). absurd (true≢false (sym ended ∙ sym (ap (λ (h : Hand). h.ended) t.1))))
            (λ (t : (k ≢ j) × (get_elem? l k ≡ some u)).
            ⊎_elim
            (λ (t : (k ≡ i) × (b ≡ u)). one_ended v.ended w.ended (s.ended_past i v here) (s.ended_past j w there) (ap (λ (h : Hand). h.ended) t.1 ∙ ended))
            (λ (t : (k ≢ i) × (get_elem? m.seats k ≡ some u)). s.ended_past k u t.1 ended)
            (at_set m.seats i k b u t.1))
            (at_set l j k spent u at);
        bounded =
            let p = put ended_share m.seats i v b here in
            let q = put ended_share l j w spent still in
            let o = s.bounded in
            let c = more v.ended w.ended v.share w.share in
            omega (arith, p, q, o, c);
      }
    where
      one_ended : (p q : Bool) → (p ≡ true → blocks ≤ m.next) → (q ≡ true → blocks ≤ m.next) → (p || q) ≡ true → blocks ≤ m.next
      one_ended true q f g e = f refl
      one_ended false q f g e = g e

      more : (p q : Bool) (x y : ℕ) → cond p x 0 + cond q y 0 ≤ cond (p || q) (x + y) 0
      more true true x y = omega arith
      more true false x y = omega arith
      more false true x y = omega arith
      more false false x y = omega arith
