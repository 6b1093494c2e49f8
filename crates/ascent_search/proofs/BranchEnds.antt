-- Branches that end: what is left in them, by the parts of the rule of `solve`.
use Rattle.std.proofs.Common.{◌≡◌, ℕ, ◌+◌, ◌≤◌, ◌||◌, nat_eq, nat_lt, eqb-true, List, [], ◌∷◌, length, get_or, Option, None, Some, IfSome, refl, sym, ap, subst, ◌∙◌, pos, arith}
use Rattle.std.specs.Prelude.{option_map}
use Rattle.std.proofs.lemmas.Bool.{eqb-false}
use Rattle.std.proofs.lemmas.List.{take_all}
use Rattle.std.proofs.lemmas.Option.{none-some, same_Some}
use Rattle.std.proofs.lemmas.List.Elements.{All-nil, All-contains_itself}
use Rattle.hub_spec.specs.Problem.{Problem, IsProblem}
use Rattle.hub_spec.specs.Plans.{IsHubSet}
use Rattle.hub_spec.specs.Cuts.{Cut}
use Rattle.hub_spec.specs.Lacking.{lacking}
use Rattle.hub_spec.specs.Trees.{Branching, IsBranch, HasRoom, IsBlocked, IsMultiple, leaf_bound, Closes, Tree, empty, block, count, IsSound, TreeLine, no_hub, no_route, no_count, preorder}
use Rattle.hub_spec.proofs.Ascending.{ascend_nil}
use Rattle.hub_spec.proofs.SumLemmas.{by_test}
use Rattle.hub_model.specs.declared.tree_lines.TreeLine as model
use Rattle.hub_model.specs.Lines.{tree_line_of}
use Rattle.search_spec.specs.States.{Parts, denominator, whole_on}
use Rattle.search_spec.specs.Choices.{Advising, IsSoundAdvising, rule_parts, all_open, barren_end, blocked_end, only_set, begun_for}
use Rattle.search_spec.specs.Steps.{begun}
use Rattle.search_spec.specs.Laws.{NumberReaches, AreSound, IsWantedSet}
use Rattle.search_spec.specs.Costs.{least_of, first_hubs}
use Rattle.search_spec.proofs.RuleParts.{some_serves, rule_sound}
use Rattle.search_spec.proofs.WholeSearches.{begun_by}
use Rattle.p_hub.proofs.NumberChoices.{empty_ends, open_goes_on, count_ends, count_goes_on, some_open, room_when}
use Rattle.p_hub.proofs.OpenBranches.{never_blocked}
use Rattle.ascent_search.specs.Ends.{IsBarren, IsOpen, IsLastSet}
use Rattle.ascent_search.specs.Progressing.{AreFirstHubs}

-- ---- the parts of the rule, with no weights and point of the master

abbrev no_advice : Advising
no_advice s b = record { weights = []; point = λ k. pos 0; scale = pos 1 }

no_advice_sound : (p : Problem) → IsSoundAdvising p no_advice
no_advice_sound p s b is_state is_branch some = record {
  mix = record {
    denom_least = omega arith;
    denom_most = omega arith;
    numbers = All-nil (λ (e : ℕ × ℕ). (1 ≤ e.0) × (e.0 ≤ length s.cuts));
    multiples = All-nil (IsMultiple s.cuts);
    most = omega arith;
  };
  listed = record { values = All-nil (λ (e : ℕ × ℕ). 1 ≤ e.1); ascend = ascend_nil };
}

parts_sound : (p : Problem) → IsProblem p → AreSound p (rule_parts p no_advice)
parts_sound p ok = rule_sound p no_advice ok (no_advice_sound p)

-- the cut from the one set that is left fathoms the branch at what the cut says of the set
pub last_closes : (p : Problem) (b : Branching) (set : List ℕ) (cuts : List Cut) (x target : ℕ) → IsProblem p → IsBranch p b
    → HasRoom p.wanted b → only_set p.wanted b ≡ Some set → NumberReaches p cuts x set target
    → Closes denominator target (leaf_bound p cuts denominator (whole_on x) b)
unfolding rule_parts
last_closes p b set cuts x target ok is room only reaches = (parts_sound p ok).closes b set cuts x target is room only reaches

-- ---- lines of branches in which no set is left

-- the line, if there is one, as a list
abbrev pub lines_told : Option model.TreeLine → Option (List TreeLine)
lines_told told = option_map (λ (l : model.TreeLine). tree_line_of l ∷ []) told

one_line : (x y : TreeLine) → Some (x ∷ []) ≡ Some (y ∷ []) → x ≡ y
one_line x y e = ap (λ (ls : List TreeLine). get_or ls 0 y) (same_Some (x ∷ []) (y ∷ []) e)

pub none_told : (end : Option Tree) (told : Option model.TreeLine) → lines_told told ≡ option_map preorder end → told ≡ None → end ≡ None
none_told None told is none = refl
none_told (Some t) told is none = absurd (none-some (preorder t) (sym (ap lines_told none) ∙ is))

-- the tree with which a branch ends is sound there
ended : (p : Problem) (b : Branching) (t : Tree) → IsProblem p → IsBranch p b → barren_end p.wanted b ≡ Some t → IsSound p [] 0 b t
unfolding rule_parts
ended p b t ok is end = ((parts_sound p ok).barren b t is end).sound [] 0

blocked : (p : Problem) (b : Branching) (c : ℕ × ℕ) → IsProblem p → IsBranch p b → lacking p (all_open b) ≡ Some c → IsBlocked p b c
unfolding rule_parts blocked_end
blocked p b c ok is lacks = ((parts_sound p ok).blocked b (block c) is (rw lacks refl)).sound [] 0

block_end : (p : Problem) (b : Branching) (o : Option (ℕ × ℕ)) → lacking p (all_open b) ≡ o → blocked_end p b ≡ option_map (λ (c : ℕ × ℕ). block c) o
unfolding blocked_end
block_end p b o e = ap (λ (x : Option (ℕ × ℕ)). option_map (λ (c : ℕ × ℕ). block c) x) e

-- the line that ends a branch by its numbers: no wanted hub set is left there
number_line : (p : Problem) (b : Branching) (line : TreeLine) → IsProblem p → IsBranch p b
    → Some (line ∷ []) ≡ option_map preorder (barren_end p.wanted b) → IsBarren p b line
number_line p b line ok is told = by p.wanted refl told
  where
    by : (wanted : Option ℕ) → p.wanted ≡ wanted → Some (line ∷ []) ≡ option_map preorder (barren_end wanted b) → IsBarren p b line
    by None e told =
        by_test (nat_eq (length b.inside + length b.free) 0)
        (λ z. (let end = empty_ends b (eqb-true (length b.inside + length b.free) 0 z) in
        let closed = ended p b empty ok is (ap (λ (o : Option ℕ). barren_end o b) e ∙ end) in
        subst (IsBarren p b) (sym (one_line line no_hub (told ∙ ap (option_map preorder) end))) (record {
          sound = λ cuts target. closed;
          end = λ b pending. refl;
          in_range = tt;
          first = λ any. tt;
        })))
        (λ z. absurd (none-some (line ∷ [])
        (sym (told ∙ ap (option_map preorder) (open_goes_on b (eqb-false (length b.inside + length b.free) 0 z))))))
    by (Some n) e told =
        by_test (nat_lt n (length b.inside) || nat_lt (length b.inside + length b.free) n)
        (λ t. (let end = count_ends n b t in
        let lacks = ended p b count ok is (ap (λ (o : Option ℕ). barren_end o b) e ∙ end) in
        subst (IsBarren p b) (sym (one_line line no_count (told ∙ ap (option_map preorder) end))) (record {
          sound = λ cuts target. lacks;
          end = λ b pending. refl;
          in_range = tt;
          first = λ any. absurd (none-some n (sym any.any_number ∙ e));
        })))
        (λ t. absurd (none-some (line ∷ []) (sym (told ∙ ap (option_map preorder) (count_goes_on n b t)))))

pub number_barren : (p : Problem) (b : Branching) (told : Option model.TreeLine) (line : model.TreeLine) → IsProblem p → IsBranch p b
    → lines_told told ≡ option_map preorder (barren_end p.wanted b) → told ≡ Some line → IsBarren p b (tree_line_of line)
number_barren p b told line ok is end known = number_line p b (tree_line_of line) ok is (sym (ap lines_told known) ∙ end)

-- the line that ends a branch whose open nodes are infeasible for a commodity: no wanted hub set is left there
pub block_barren : (p : Problem) (b : Branching) (told : Option model.TreeLine) → IsProblem p → IsBranch p b → barren_end p.wanted b ≡ None
    → lines_told told ≡ option_map preorder (blocked_end p b) → IfSome told (λ l. IsBarren p b (tree_line_of l))
block_barren p b None ok is goes told = tt
block_barren p b (Some l) ok is goes told = by (lacking p (all_open b)) refl told
  where
    line : TreeLine
    line = tree_line_of l

    by : (o : Option (ℕ × ℕ)) → lacking p (all_open b) ≡ o → Some (line ∷ []) ≡ option_map preorder (blocked_end p b) → IsBarren p b line
    by None e same = absurd (none-some (line ∷ []) (sym (same ∙ ap (option_map preorder) (block_end p b None e))))
    by (Some c) e same =
        let at = blocked p b c ok is e in
        subst (IsBarren p b) (sym (one_line line (no_route c) (same ∙ ap (option_map preorder) (block_end p b (Some c) e)))) (record {
          sound = λ cuts target. at;
          end = λ b pending. refl;
          in_range = (at.from, at.to);
          first = λ any. absurd (none-some (line ∷ [])
              (sym (same ∙ ap (option_map preorder) (never_blocked p b any.any_length (some_open p b ok goes)))));
        })

-- ---- branches that go on

-- with neither an end by its numbers nor one by a commodity for which its open nodes are infeasible
pub is_open : (p : Problem) (b : Branching) (told : Option model.TreeLine) → barren_end p.wanted b ≡ None
    → lines_told told ≡ option_map preorder (blocked_end p b) → told ≡ None → IsOpen p b
is_open p b told goes is none = record {
  room = room_when p.wanted b goes;
  barren = goes;
  blocked = none_told (blocked_end p b) told is none;
}

-- the one set that is left, and else a free node
pub only_last : (p : Problem) (b : Branching) (set : List ℕ) → IsProblem p → IsBranch p b → IsOpen p b → only_set p.wanted b ≡ Some set
    → IsLastSet p b set
unfolding rule_parts
only_last p b set ok is goes only = record {
  only = only;
  wanted_set = (parts_sound p ok).only b set is goes.room goes.barren goes.blocked only;
}

pub free_left : (p : Problem) (b : Branching) → IsProblem p → IsBranch p b → IsOpen p b → only_set p.wanted b ≡ None → 1 ≤ length b.free
unfolding rule_parts
free_left p b ok is goes none = (parts_sound p ok).some_free b is goes.room none

-- ---- the set of all candidates, and the first incumbent

pub all_candidates : (p : Problem) → IsProblem p → p.longest ≡ None → IsHubSet p p.candidates
all_candidates p ok any = record {
  set = record {
    some_hub = ok.some_candidate;
    ascend = ok.candidates_ascend;
    are_candidates = All-contains_itself p.candidates;
  };
  lacks_none = some_serves p p.candidates any ok.some_candidate;
}

-- the set with which a search begins that gets none is that of the rule
begun_hubs : (p : Problem) (parts : Parts) (wanted : Option ℕ) → (begun_for p parts wanted).hubs ≡ least_of wanted p.candidates
unfolding begun_for begun
begun_hubs p parts None = refl
begun_hubs p parts (Some n) =
    by_test (nat_eq n (length p.candidates))
    (λ e. rw e (sym (take_all n p.candidates (omega (arith, eqb-true n (length p.candidates) e))))) (λ e. rw e refl)

pub first_are : (p : Problem) (hubs : List ℕ) → IsProblem p → IsHubSet p p.candidates → hubs ≡ first_hubs p → AreFirstHubs p hubs
first_are p hubs ok all same =
    let parts = rule_parts p no_advice in
    let start = begun_by p parts p.wanted ok all (parts_sound p ok) refl in
    record { set = subst (IsWantedSet p) (begun_hubs p parts p.wanted ∙ sym same) start.state.hubs; are = same }
