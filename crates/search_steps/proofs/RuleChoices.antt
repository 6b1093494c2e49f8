-- The choices of the rule, by the wanted number of hubs.
use Rattle.std.proofs.Common.{◌≡◌, ℕ, ◌+◌, ◌≤◌, true, false, nat_eq, List, length, Option, Some, None, ap, sym, subst, ◌∙◌}
use Rattle.hub_spec.specs.Problem.{Problem, IsProblem}
use Rattle.hub_spec.specs.Plans.{IsHubSet}
use Rattle.hub_spec.specs.Trees.{Branching, IsBranch, HasRoom}
use Rattle.search_spec.specs.States.{Advice}
use Rattle.search_spec.specs.Laws.{GoesOn, AreSound}
use Rattle.search_spec.specs.Choices.{rule_parts, barren_end, only_set, pick_for}
use Rattle.search_spec.proofs.RuleParts.{rule_sound}
use Rattle.p_hub.specs.Fixing.{IsBetween}
use Rattle.p_hub.proofs.NumberChoices as number
use Rattle.search_steps.specs.Advising.{master_advising, parts_of}
use Rattle.search_steps.proofs.MasterNumbers.{advising_sound}

pub parts_sound : (p : Problem) → IsProblem p → AreSound p (parts_of p)
parts_sound p ok = rule_sound p (master_advising p) ok (advising_sound p ok)

-- ---- the parts of the rule

pub barren_is : (p : Problem) (wanted : Option ℕ) (b : Branching) → p.wanted ≡ wanted → barren_end wanted b ≡ (parts_of p).barren b
unfolding rule_parts
barren_is p wanted b e = ap (λ (o : Option ℕ). barren_end o b) (sym e)

pub only_is : (p : Problem) (wanted : Option ℕ) (b : Branching) → p.wanted ≡ wanted → only_set wanted b ≡ (parts_of p).only b
unfolding rule_parts
only_is p wanted b e = ap (λ (o : Option ℕ). only_set o b) (sym e)

pub pick_is : (p : Problem) (wanted : Option ℕ) (a : Advice) (b : Branching) → p.wanted ≡ wanted → pick_for p wanted a b ≡ (parts_of p).pick a b
unfolding rule_parts
pick_is p wanted a b e = ap (λ (o : Option ℕ). pick_for p o a b) (sym e)

-- ---- any number of hubs

-- its hubs are left alone where no node is free
pub decided_alone : (p : Problem) (b : Branching) → p.wanted ≡ None → nat_eq (length b.free) 0 ≡ true → Some b.inside ≡ (parts_of p).only b
decided_alone p b any e = sym (number.decided_only b e) ∙ only_is p None b any

pub none_alone : (p : Problem) (b : Branching) → p.wanted ≡ None → nat_eq (length b.free) 0 ≡ false → None ≡ (parts_of p).only b
none_alone p b any e = sym (number.free_left b e) ∙ only_is p None b any

-- and a node is free where no set is left alone
pub free_without : (p : Problem) (b : Branching) → p.wanted ≡ None → (parts_of p).only b ≡ None → 1 ≤ length b.free
free_without p b any none = number.free_when b (only_is p None b any ∙ none)

-- ---- a branch that goes on

-- it has room where it has no end
pub room_when : (p : Problem) (b : Branching) → (parts_of p).barren b ≡ None → HasRoom p.wanted b
unfolding rule_parts
room_when p b none = number.room_when p.wanted b none

-- where exactly n are wanted, a branch that goes on misses hubs, but fewer than it has free nodes
pub between : (n : ℕ) (p : Problem) (b : Branching) → p.wanted ≡ Some n → GoesOn (parts_of p) b → IsBetween n b
between n p b wanted on =
    number.between n b (barren_is p (Some n) b wanted ∙ on.barren) (only_is p (Some n) b wanted ∙ on.only)

-- the set that is picked is a hub set
pub pick_is_set : (p : Problem) (a : Advice) (b : Branching) (set : List ℕ) → IsProblem p → IsBranch p b → GoesOn (parts_of p) b
    → set ≡ (parts_of p).pick a b → IsHubSet p set
pick_is_set p a b set ok is on picked =
    subst (IsHubSet p) (sym picked) ((parts_sound p ok).pick a b is (room_when p b on.barren) on).is_set

-- a node of the branch is open where it has no end by its numbers
pub some_open : (p : Problem) (b : Branching) → IsProblem p → (parts_of p).barren b ≡ None → 1 ≤ length b.inside + length b.free
unfolding rule_parts
some_open p b ok none = number.some_open p b ok none
