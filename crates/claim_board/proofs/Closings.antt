-- What a seat with the whole share knows when the board is closed.
use Rattle.std.proofs.Common.{◌≡◌, ℕ, min, true, List, length, sym, ap, ◌∙◌, subst, arith}
use Rattle.std.specs.Prelude.{sum_by}
use mathlib.Core.Option.{some, some-injective}
use lib.ListN.{get_elem?}
use Rattle.atomic_table.specs.Table.{Final, Seen}
use Rattle.atomic_table.proofs.Lists.{at_map}
use Rattle.claim_board.specs.declared.hands.Hand.{Hand}
use Rattle.claim_board.specs.declared.hands.Told.{Told}
use Rattle.claim_board.specs.declared.hands.Size.{Size}
use Rattle.claim_board.specs.Hands.{times}
use Rattle.claim_board.specs.Draws.{Event, run, once_below}
use Rattle.claim_board.specs.Rules.{IsRun}
use Rattle.claim_board.proofs.Sums.{whole}
use Rattle.claim_board.proofs.Runs.{sound_run}

-- the seat stands in the draw machine after some events, when so many numbers were taken
abbrev pub HasRun : ℕ → ℕ → Hand → ℕ → Type 0
HasRun blocks seats v taken =
    (events : List Event)
    × (place : ℕ)
    × (get_elem? (run blocks seats events).seats place ≡ some v)
    × (taken ≡ min (run blocks seats events).next blocks)

pub closed_run : (size : Size) (blocks : ℕ) (id : ℕ) (v : Told) (ws : List ℕ) (xs : List (Unit {0})) (next taken : ℕ)
    → size.blocks ≡ blocks → Final (Seen (IsRun size) id v) ws xs → get_elem? ws 0 ≡ some next → taken ≡ min next blocks
    → HasRun blocks size.seats v.hand taken
closed_run size blocks id v ws xs next taken same last word is =
    let r = last.1.0 in
    let s = last.0 in
    let at : get_elem? (run size.blocks size.seats r.events).seats id ≡ some v.hand =
    ap (λ l. get_elem? l id) (sym r.views) ∙ at_map (λ (u : Told). u.hand) s.views id v last.1.1 in
    let found : next ≡ (run size.blocks size.seats r.events).next =
    sym (some-injective (run size.blocks size.seats r.events).next next (ap (λ l. get_elem? l 0) (sym r.word ∙ last.2) ∙ word)) in
    subst (λ (b : ℕ). HasRun b size.seats v.hand taken) same
    (r.events, id, at, is ∙ ap (λ b. min next b) (sym same) ∙ ap (λ n. min n size.blocks) found)

module _ (blocks seats : ℕ) (v : Hand) (taken : ℕ) (r : HasRun blocks seats v taken) (all : v.share ≡ seats) where
  alone : (f : Hand → ℕ) → ((k : ℕ) (u : Hand) → get_elem? (run blocks seats r.0).seats k ≡ some u → u.share ≡ 0 → f u ≡ 0)
      → sum_by f (run blocks seats r.0).seats ≡ f v
  alone f nil = whole (λ (u : Hand). u.share) f (run blocks seats r.0).seats r.1 v nil r.2 ((sound_run blocks seats r.0).shares ∙ sym all)

  pub each_once : (x : ℕ) → times x v.drawn ≡ once_below x taken
  each_once x =
      let s = sound_run blocks seats r.0 in
      sym (alone (λ u. times x u.drawn) (λ k u at none. ap (times x) (s.spent_empty k u at none).0)) ∙ s.once x ∙ ap (once_below x) (sym r.3)

  pub all_counted : taken ≡ length v.drawn
  all_counted =
      let s = sound_run blocks seats r.0 in
      r.3 ∙ sym s.count ∙ alone (λ u. length u.drawn) (λ k u at none. ap (λ (l : List ℕ). length l) (s.spent_empty k u at none).0)

  pub all_taken : v.ended ≡ true → taken ≡ blocks
  all_taken ended =
      let p = (sound_run blocks seats r.0).ended_past r.1 v r.2 ended in
      let t = r.3 in
      omega (arith, p, t)
