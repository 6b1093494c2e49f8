-- The choices of a search by the wanted number of hubs.
use Rattle.std.proofs.Common.{◌≡◌, ℕ, ◌+◌, ◌≤◌, true, false, ◌||◌, nat_eq, nat_lt, length, Option, Some, None, refl, sym, subst, ◌∙◌, true≢false, eq-eqb, ne_eqb, eqb-true, arith}
use Rattle.std.proofs.lemmas.Bool.{eqb-false, ltb-false}
use Rattle.std.proofs.lemmas.Option.{none-some}
use Rattle.std.specs.Prelude.{IfSome}
use Rattle.hub_spec.specs.Problem.{Problem, IsProblem}
use Rattle.hub_spec.specs.Trees.{Branching, HasRoom, empty, count}
use Rattle.hub_spec.proofs.SumLemmas.{by_test}
use Rattle.search_spec.specs.Choices.{all_closed, all_decided, all_open, barren_end, only_set}
use Rattle.p_hub.specs.Fixing.{IsBetween}

-- ---- ends

-- where any number of hubs will do, a branch ends that has no open node
pub empty_ends : (b : Branching) → length b.inside + length b.free ≡ 0 → barren_end None b ≡ Some empty
unfolding barren_end all_closed
empty_ends b none =
    let inside = eq-eqb (length b.inside) 0 (omega (arith, none)) in
    let free = eq-eqb (length b.free) 0 (omega (arith, none)) in
    rw (inside, free) refl

pub open_goes_on : (b : Branching) → (length b.inside + length b.free ≡ 0 → ⊥) → barren_end None b ≡ None
unfolding barren_end all_closed
open_goes_on b some =
    by_test (nat_eq (length b.inside) 0)
    (λ e. (let free = ne_eqb (length b.free) 0 (λ z. some (omega (arith, z, eqb-true (length b.inside) 0 e))) in rw (e, free) refl))
    (λ e. rw e refl)

-- where exactly n are wanted, a branch ends that cannot have n
pub count_ends : (n : ℕ) (b : Branching) → (nat_lt n (length b.inside) || nat_lt (length b.inside + length b.free) n) ≡ true
    → barren_end (Some n) b ≡ Some count
unfolding barren_end
count_ends n b e = rw e refl

pub count_goes_on : (n : ℕ) (b : Branching) → (nat_lt n (length b.inside) || nat_lt (length b.inside + length b.free) n) ≡ false
    → barren_end (Some n) b ≡ None
unfolding barren_end
count_goes_on n b e = rw e refl

-- a branch with no end has room
pub room_when : (wanted : Option ℕ) (b : Branching) → barren_end wanted b ≡ None → HasRoom wanted b
room_when None b none = tt
room_when (Some n) b none =
    by_test (nat_lt n (length b.inside) || nat_lt (length b.inside + length b.free) n)
    (λ t. absurd (none-some count (sym none ∙ count_ends n b t))) (both n (length b.inside) (length b.inside + length b.free))
  where
    both : (n x y : ℕ) → (nat_lt n x || nat_lt y n) ≡ false → (x ≤ n) × (n ≤ y)
    both n x y t =
        by_test (nat_lt n x) (λ e. absurd (true≢false (rw e at t))) (λ e. (ltb-false n x e, ltb-false y n (rw e at t)))

-- and an open node
pub some_open : (p : Problem) (b : Branching) → IsProblem p → barren_end p.wanted b ≡ None → 1 ≤ length b.inside + length b.free
some_open p b ok none = by p.wanted refl none
  where
    by : (wanted : Option ℕ) → p.wanted ≡ wanted → barren_end wanted b ≡ None → 1 ≤ length b.inside + length b.free
    by None e none =
        by_test (nat_eq (length b.inside + length b.free) 0)
        (λ z. absurd (none-some empty (sym none ∙ empty_ends b (eqb-true (length b.inside + length b.free) 0 z))))
        (λ z. omega (arith, eqb-false (length b.inside + length b.free) 0 z))
    by (Some n) e none =
        let limit = subst (λ (o : Option ℕ). IfSome o (λ n. (1 ≤ n) × (n ≤ length p.candidates))) e ok.wanted_limit in
        let room : HasRoom (Some n) b = room_when (Some n) b none in
        omega (arith, limit.0, room.1)

-- ---- the one set that is left

-- where any number of hubs will do, its hubs where no node is free
pub decided_only : (b : Branching) → nat_eq (length b.free) 0 ≡ true → only_set None b ≡ Some b.inside
unfolding only_set all_decided
decided_only b e = rw e refl

pub free_left : (b : Branching) → nat_eq (length b.free) 0 ≡ false → only_set None b ≡ None
unfolding only_set all_decided
free_left b e = rw e refl

pub free_when : (b : Branching) → only_set None b ≡ None → 1 ≤ length b.free
free_when b none =
    by_test (nat_eq (length b.free) 0) (λ e. absurd (none-some b.inside (sym none ∙ decided_only b e)))
    (λ e. omega (arith, eqb-false (length b.free) 0 e))

-- where exactly n are wanted, its hubs where they are n, and all its open nodes where those are n
pub full_only : (n : ℕ) (b : Branching) → nat_eq (length b.inside) n ≡ true → only_set (Some n) b ≡ Some b.inside
unfolding only_set
full_only n b e = rw e refl

pub open_only : (n : ℕ) (b : Branching) → nat_eq (length b.inside) n ≡ false → nat_eq (length b.inside + length b.free) n ≡ true
    → only_set (Some n) b ≡ Some (all_open b)
unfolding only_set
open_only n b e f = rw (e, f) refl

pub some_missing : (n : ℕ) (b : Branching) → nat_eq (length b.inside) n ≡ false → nat_eq (length b.inside + length b.free) n ≡ false
    → only_set (Some n) b ≡ None
unfolding only_set
some_missing n b e f = rw (e, f) refl

-- where a branch has no end and no only set, hubs are missing, but fewer than there are free nodes
pub between : (n : ℕ) (b : Branching) → barren_end (Some n) b ≡ None → only_set (Some n) b ≡ None → IsBetween n b
between n b barren none =
    let has : HasRoom (Some n) b = room_when (Some n) b barren in
    by_test (nat_eq (length b.inside) n)
    (λ e. absurd (none-some b.inside (sym none ∙ full_only n b e)))
    (λ e. by_test (nat_eq (length b.inside + length b.free) n)
    (λ f. absurd (none-some (all_open b) (sym none ∙ open_only n b e f)))
    (λ f. record {
      missing = omega (arith, has.0, eqb-false (length b.inside) n e);
      spare = omega (arith, has.1, eqb-false (length b.inside + length b.free) n f);
    }))
