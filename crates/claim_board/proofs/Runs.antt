-- The draw machine is sound after every list of events, and one more event is one more step.
use Rattle.std.proofs.Common.{◌≡◌, ◌≢◌, ℕ, ◌+◌, ◌<◌, ◌≤◌, Bool, true, false, not, ◌&&◌, List, [], ◌∷◌, ◌++◌, set, sym, ap, ◌∙◌, refl, arith}
use Rattle.std.specs.Prelude.{nat_lt, nat_le, ◌==◌}
use Rattle.std.proofs.lemmas.Bool.{cond_both, cond-true}
use Rattle.std.proofs.lemmas.Bool.Decides.{nat_tests}
use mathlib.Core.Option.{Option, none, some}
use lib.ListN.{get_elem?}
use Rattle.claim_board.specs.declared.hands.Hand.{Hand}
use Rattle.claim_board.specs.Hands.{drew, kept_half, new_half, both, spent}
use Rattle.claim_board.specs.Draws.{Machine, Event, draws, splits, joins, draw_at, split_at, join_at, after, start, run_from, run, Sound, DrawsAreSound}
use Rattle.claim_board.proofs.Sounds.{sound_start, drawn, halved, joined}

and_left : (p q : Bool) → (p && q) ≡ true → p ≡ true
and_left true q e = refl
and_left false q e = e

and_right : (p q : Bool) → (p && q) ≡ true → q ≡ true
and_right true q e = e
and_right false q e = absurd (cc)

is_off : (p : Bool) → not p ≡ true → p ≡ false
is_off true e = sym e
is_off false e = refl

-- ---- every event

sound_after : (blocks seats : ℕ) (m : Machine) (e : Event) → Sound blocks seats m → Sound blocks seats (after blocks m e)
sound_after blocks seats m (draws k) s = by (get_elem? m.seats k) refl
  where
    by : (o : Option Hand) → get_elem? m.seats k ≡ o → Sound blocks seats (draw_at blocks m k o)
    by none at = s
    by (some v) at =
        cond_both (not v.ended && nat_lt 0 v.share) record { next = m.next + 1; seats = set m.seats k (drew blocks m.next v) } m
        (Sound blocks seats)
        (λ t. let share = and_right (not v.ended) (nat_lt 0 v.share) t in drawn blocks seats m s k v at (grind (arith, nat_tests, share)) (is_off v.ended (and_left (not v.ended) (nat_lt 0 v.share) t)))
        (λ _. s)
sound_after blocks seats m (splits k) s = by (get_elem? m.seats k) refl
  where
    by : (o : Option Hand) → get_elem? m.seats k ≡ o → Sound blocks seats (split_at m k o)
    by none at = s
    by (some v) at =
        cond_both (nat_le 2 v.share) record { next = m.next; seats = set m.seats k (kept_half v) ++ new_half v ∷ [] } m
        (Sound blocks seats)
        (λ t. halved blocks seats m s k v at (grind (arith, nat_tests, t)))
        (λ _. s)
sound_after blocks seats m (joins i j) s = by (get_elem? m.seats i) (get_elem? m.seats j) refl refl
  where
    by : (o p : Option Hand) → get_elem? m.seats i ≡ o → get_elem? m.seats j ≡ p → Sound blocks seats (join_at m i j o p)
    by none p here there = s
    by (some v) none here there = s
    by (some v) (some w) here there =
        let apart = not (i == j) in
        let mine = nat_lt 0 v.share in
        let others = nat_lt 0 w.share in
        cond_both (apart && (mine && others)) record { next = m.next; seats = set (set m.seats i (both v w)) j spent } m
        (Sound blocks seats)
        (λ t.
        let a = is_off (i == j) (and_left apart (mine && others) t) in
        let r = and_right apart (mine && others) t in
        let one = and_left mine others r in
        let two = and_right mine others r in
        joined blocks seats m s i j v w here there (λ e. grind (arith, nat_tests, a, e)) (grind (arith, nat_tests, one)) (grind (arith, nat_tests, two)))
        (λ _. s)

sound_from : (blocks seats : ℕ) (m : Machine) (events : List Event) → Sound blocks seats m → Sound blocks seats (run_from blocks m events)
sound_from blocks seats m [] s = s
sound_from blocks seats m (e ∷ events) s = sound_from blocks seats (after blocks m e) events (sound_after blocks seats m e s)

pub sound_run : DrawsAreSound
sound_run blocks seats events = sound_from blocks seats (start seats) events (sound_start blocks seats)

-- ---- one event more

further_from : (blocks : ℕ) (m : Machine) (events : List Event) (e : Event) → run_from blocks m (events ++ e ∷ []) ≡ after blocks (run_from blocks m events) e
further_from blocks m [] e = refl
further_from blocks m (x ∷ events) e = further_from blocks (after blocks m x) events e

pub one_further : (blocks seats : ℕ) (events : List Event) (e : Event) → run blocks seats (events ++ e ∷ []) ≡ after blocks (run blocks seats events) e
one_further blocks seats events e = further_from blocks (start seats) events e

-- ---- an event that is possible

pub draw_is : (blocks : ℕ) (m : Machine) (k : ℕ) (v : Hand) → get_elem? m.seats k ≡ some v → v.ended ≡ false → 0 < v.share
    → after blocks m (draws k) ≡ record { next = m.next + 1; seats = set m.seats k (drew blocks m.next v) }
draw_is blocks m k v at going share =
    ap (draw_at blocks m k) at
    ∙ cond-true (not v.ended && nat_lt 0 v.share) record { next = m.next + 1; seats = set m.seats k (drew blocks m.next v) } m
    (ap (λ b. not b && nat_lt 0 v.share) going ∙ grind (arith, nat_tests, share))

pub split_is : (blocks : ℕ) (m : Machine) (k : ℕ) (v : Hand) → get_elem? m.seats k ≡ some v → 2 ≤ v.share
    → after blocks m (splits k) ≡ record { next = m.next; seats = set m.seats k (kept_half v) ++ new_half v ∷ [] }
split_is blocks m k v at share =
    ap (split_at m k) at
    ∙ cond-true (nat_le 2 v.share) record { next = m.next; seats = set m.seats k (kept_half v) ++ new_half v ∷ [] } m
    (grind (arith, nat_tests, share))

pub join_is : (blocks : ℕ) (m : Machine) (i j : ℕ) (v w : Hand) → get_elem? m.seats i ≡ some v → get_elem? m.seats j ≡ some w → i ≢ j → 0 < v.share → 0 < w.share
    → after blocks m (joins i j) ≡ record { next = m.next; seats = set (set m.seats i (both v w)) j spent }
join_is blocks m i j v w here there apart one two =
    ap (λ o. join_at m i j o (get_elem? m.seats j)) here
    ∙ ap (join_at m i j (some v)) there
    ∙ cond-true (not (i == j) && (nat_lt 0 v.share && nat_lt 0 w.share)) record { next = m.next; seats = set (set m.seats i (both v w)) j spent } m
    (grind (arith, nat_tests, apart, one, two))
