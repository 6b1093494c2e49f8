-- Each step of a board is one more event of the draw machine.
use Rattle.std.proofs.Common.{◌≡◌, ◌≢◌, ℕ, zero, suc, ◌+◌, ◌%◌, ◌^◌, ◌<◌, ◌≤◌, min, Bool, true, false, cond, List, [], ◌∷◌, ◌++◌, map, length, set, sym, ap, ◌∙◌, refl, ⊎_elim, arith, mod-eq_of_lt}
use Rattle.std.specs.Prelude.{slice_index}
use Rattle.std.proofs.lemmas.Bool.Decides.{nat_tests}
use Rattle.std.proofs.lemmas.List.{map-set, map-append}
use mathlib.Core.Option.{none, some, some-injective, some-ne-none}
use lib.ListN.{get_elem?}
use Rattle.atomic_table.specs.Table.{State, Me, Allows, Splits, Joins, keeps, step}
use Rattle.atomic_table.proofs.Lists.{at_map, at_set, at_snoc, set_else}
use Rattle.claim_board.specs.declared.hands.Hand.{Hand}
use Rattle.claim_board.specs.declared.hands.Told.{Told}
use Rattle.claim_board.specs.declared.hands.Size.{Size}
use Rattle.claim_board.specs.Hands.{hand, times, drew, kept_half, new_half, both, spent}
use Rattle.claim_board.specs.Draws.{Machine, Event, draws, splits, joins, run, once_below, ended_share, Sound}
use Rattle.claim_board.specs.Rules.{told, IsRun, Draws}
use Rattle.claim_board.proofs.Sums.{part, more_of}
use Rattle.claim_board.proofs.Runs.{sound_run, one_further, draw_is, split_is, join_is}

-- the element that was put in its place
put_at : {A : Type 0} (l : List A) (i : ℕ) (v w : A) → get_elem? l i ≡ some v → get_elem? (set l i w) i ≡ some w
put_at [] i v w e = absurd (some-ne-none v (sym e))
put_at (x ∷ xs) zero v w e = refl
put_at (x ∷ xs) (suc i) v w e = put_at xs i v w e

-- the next number stays far below 2 ^ 64
next_fits : (blocks seats : ℕ) (m : Machine) → Sound blocks seats m → seats ≤ 64 → blocks < 2 ^ 32 → (m.next + 1) % 2 ^ 64 ≡ m.next + 1
next_fits blocks seats m s few narrow =
    let b = s.bounded in
    let t = s.shares in
    let l = more_of ended_share (λ (v : Hand). v.share) (λ v. at_most v.ended v.share) m.seats in
    mod-eq_of_lt (omega (arith, b, t, l, few, narrow))
  where
    at_most : (b : Bool) (n : ℕ) → cond b n 0 ≤ n
    at_most true n = omega arith
    at_most false n = omega arith

-- a number that is drawn stands in no list yet
new_number : (blocks seats : ℕ) (m : Machine) → Sound blocks seats m → (k : ℕ) (v : Hand) → get_elem? m.seats k ≡ some v → m.next < blocks → times m.next v.drawn ≡ 0
new_number blocks seats m s k v at below =
    let o = s.once m.next in
    let p = part (λ (u : Hand). times m.next u.drawn) m.seats k v at in
    let none : once_below m.next (min m.next blocks) ≡ 0 = grind (arith, nat_tests) in
    omega (arith, o, p, none)

-- no list is longer than there are numbers
short_list : (blocks seats : ℕ) (m : Machine) → Sound blocks seats m → (k : ℕ) (v : Hand) → get_elem? m.seats k ≡ some v → length v.drawn ≤ blocks
short_list blocks seats m s k v at =
    let c = s.count in
    let p = part (λ (u : Hand). length u.drawn) m.seats k v at in
    omega (arith, c, p)

module _ (size : Size) where
  pub begins : 1 ≤ size.seats → size.seats ≤ 64 → size.blocks < 2 ^ 32 → IsRun size record { words = 0 ∷ []; homes = []; views = told size.blocks (hand [] size.seats false) ∷ [] }
  begins one few narrow = record { events = []; word = refl; views = refl; knows = knows; few = few; narrow = narrow }
    where
      knows : (k : ℕ) (v : Told) → get_elem? (told size.blocks (hand [] size.seats false) ∷ []) k ≡ some v → 0 < v.hand.share → v.blocks ≡ size.blocks
      knows zero v at share = sym (ap (λ (u : Told). u.blocks) (some-injective (told size.blocks (hand [] size.seats false)) v at))
      knows (suc k) v at share = absurd (some-ne-none v (sym at))

  at_seat : (s : State (Unit {0}) Told) (r : IsRun size s) (k : ℕ) (v : Told) → get_elem? s.views k ≡ some v
      → get_elem? (run size.blocks size.seats r.events).seats k ≡ some v.hand
  at_seat s r k v at = ap (λ l. get_elem? l k) (sym r.views) ∙ at_map (λ (u : Told). u.hand) s.views k v at

  pub draw_keeps : (slots id : ℕ) (me : Me (Unit {0}) Told) → me.0.hand.ended ≡ false → 0 < me.0.hand.share
      → Allows (IsRun size) slots id me 0 (λ n. (n + 1) % 2 ^ 64) (Draws (step slots 0 1 0 none) me)
  draw_keeps slots id me going share s r homes at fits =
      let v : Hand = me.0.hand in
      let events : List Event = r.events ++ draws id ∷ [] in
      let m : Machine = run size.blocks size.seats r.events in
      let sound = sound_run size.blocks size.seats r.events in
      let seat = at_seat s r id me.0 at in
      let known : me.0.blocks ≡ size.blocks = r.knows id me.0 at share in
      let n : ℕ = slice_index s.words 0 in
      let found : n ≡ m.next = ap (λ w. slice_index w 0) r.word in
      let w : Told = told me.0.blocks (drew me.0.blocks n v) in
      let is : run size.blocks size.seats events ≡ record { next = m.next + 1; seats = set m.seats id (drew size.blocks m.next v) } =
      one_further size.blocks size.seats r.events (draws id) ∙ draw_is size.blocks m id v seat going share in
      let views : map (λ (u : Told). u.hand) (set s.views id w) ≡ (run size.blocks size.seats events).seats =
      map-set (λ (u : Told). u.hand) s.views id w
      ∙ ap (λ l. set l id (drew me.0.blocks n v)) r.views
      ∙ ap (λ b. set m.seats id (drew b n v)) known
      ∙ ap (λ x. set m.seats id (drew size.blocks x v)) found
      ∙ sym (ap (λ (x : Machine). x.seats) is) in
      let here : get_elem? (run size.blocks size.seats events).seats id ≡ some w.hand =
      ap (λ l. get_elem? l id) (sym views) ∙ at_map (λ (u : Told). u.hand) (set s.views id w) id w (put_at s.views id me.0 w at) in
      let short = short_list size.blocks size.seats (run size.blocks size.seats events) (sound_run size.blocks size.seats events) id w.hand here in (
        w,
        keeps,
        tt,
        record {
          events = events;
          word =
              ap (λ ws. set ws 0 ((slice_index ws 0 + 1) % 2 ^ 64)) r.word
              ∙ ap (λ x. x ∷ []) (next_fits size.blocks size.seats m sound r.few r.narrow ∙ sym (ap (λ (x : Machine). x.next) is));
          views = views;
          knows = λ k u there shared.
              ⊎_elim
              (λ (t : (k ≡ id) × (w ≡ u)). ap (λ (x : Told). x.blocks) (sym t.1) ∙ known)
              (λ (t : (k ≢ id) × (get_elem? s.views k ≡ some u)). r.knows k u t.1 shared)
              (at_set s.views id k w u there);
          few = r.few;
          narrow = r.narrow;
        },
        (
          refl,
          refl,
          (λ below. ap (λ x. times x v.drawn) found ∙ new_number size.blocks size.seats m sound id v seat (omega (arith, below, known, found))),
          omega (arith, short, known),
        ),
      )

  pub split_keeps : (id : ℕ) (v : Told) → 2 ≤ v.hand.share → Splits (IsRun size) id v (told v.blocks (kept_half v.hand)) (told v.blocks (new_half v.hand))
  split_keeps id v two s r at =
      let events : List Event = r.events ++ splits id ∷ [] in
      let m : Machine = run size.blocks size.seats r.events in
      let seat = at_seat s r id v at in
      let kept : Told = told v.blocks (kept_half v.hand) in
      let new : Told = told v.blocks (new_half v.hand) in
      let known : v.blocks ≡ size.blocks = r.knows id v at (omega (arith, two)) in
      let is : run size.blocks size.seats events ≡ record { next = m.next; seats = set m.seats id (kept_half v.hand) ++ new_half v.hand ∷ [] } =
      one_further size.blocks size.seats r.events (splits id) ∙ split_is size.blocks m id v.hand seat two in
      record {
        events = events;
        word = r.word ∙ ap (λ x. x ∷ []) (sym (ap (λ (x : Machine). x.next) is));
        views =
            map-append (λ (u : Told). u.hand) (set s.views id kept) (new ∷ [])
            ∙ ap (λ l. l ++ new.hand ∷ []) (map-set (λ (u : Told). u.hand) s.views id kept ∙ ap (λ l. set l id kept.hand) r.views)
            ∙ sym (ap (λ (x : Machine). x.seats) is);
        knows = λ k u there shared.
            ⊎_elim
            (λ (old : get_elem? (set s.views id kept) k ≡ some u).
            ⊎_elim
            (λ (t : (k ≡ id) × (kept ≡ u)). ap (λ (x : Told). x.blocks) (sym t.1) ∙ known)
            (λ (t : (k ≢ id) × (get_elem? s.views k ≡ some u)). r.knows k u t.1 shared)
            (at_set s.views id k kept u old))
            (λ (same : new ≡ u). ap (λ (x : Told). x.blocks) (sym same) ∙ known)
            (at_snoc (set s.views id kept) new u k there);
        few = r.few;
        narrow = r.narrow;
      }

  pub join_keeps : (id : ℕ) (v : Told) (other : ℕ) (u : Told) → 0 < v.hand.share → 0 < u.hand.share
      → Joins (IsRun size) id v other u (told v.blocks (both v.hand u.hand)) (told 0 spent)
  join_keeps id v other u one two s r at apart there =
      let events : List Event = r.events ++ joins id other ∷ [] in
      let m : Machine = run size.blocks size.seats r.events in
      let b : Told = told v.blocks (both v.hand u.hand) in
      let left : Told = told 0 spent in
      let was : get_elem? s.views other ≡ some u = sym (set_else s.views id other b apart) ∙ there in
      let seat = at_seat s r id v at in
      let theirs = at_seat s r other u was in
      let known : v.blocks ≡ size.blocks = r.knows id v at one in
      let is : run size.blocks size.seats events ≡ record { next = m.next; seats = set (set m.seats id (both v.hand u.hand)) other spent } =
      one_further size.blocks size.seats r.events (joins id other) ∙ join_is size.blocks m id other v.hand u.hand seat theirs (λ e. apart (sym e)) one two in
      record {
        events = events;
        word = r.word ∙ ap (λ x. x ∷ []) (sym (ap (λ (x : Machine). x.next) is));
        views =
            map-set (λ (x : Told). x.hand) (set s.views id b) other left
            ∙ ap (λ l. set l other spent) (map-set (λ (x : Told). x.hand) s.views id b ∙ ap (λ l. set l id b.hand) r.views)
            ∙ sym (ap (λ (x : Machine). x.seats) is);
        knows = λ k x found shared.
            ⊎_elim
            (λ (t : (k ≡ other) × (left ≡ x)). let e : 0 ≡ x.hand.share = ap (λ (y : Told). y.hand.share) t.1 in absurd (omega (arith, e, shared)))
            (λ (t : (k ≢ other) × (get_elem? (set s.views id b) k ≡ some x)).
            ⊎_elim
            (λ (t : (k ≡ id) × (b ≡ x)). ap (λ (y : Told). y.blocks) (sym t.1) ∙ known)
            (λ (t : (k ≢ id) × (get_elem? s.views k ≡ some x)). r.knows k x t.1 shared)
            (at_set s.views id k b x t.1))
            (at_set (set s.views id b) other k left x found);
        few = r.few;
        narrow = r.narrow;
      }
