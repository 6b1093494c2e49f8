-- How walks go on, stay, and end.
use Rattle.std.proofs.Common.{◌≡◌, ℕ, zero, suc, ◌-◌, ◌≤◌, List, [], ◌∷◌, ◌++◌, length, All, refl, sym, ap, ◌∙◌, subst, append-nil, append_assoc, arith}
use Rattle.std.proofs.lemmas.List.{length-append, get_or_append_left}
use Rattle.std.proofs.lemmas.List.Elements.{All-cons, All-head, All-tail}
use Rattle.hub_spec.specs.Problem.{Problem}
use Rattle.hub_spec.specs.Cuts.{Cut, cut_by}
use Rattle.hub_spec.specs.Trees.{Branching, IsBranch, open_child, closed_child, leaf_bound, Closes, Tree, branch, leaf, empty, block, count, TreeLine, branch_on, leaf_of, no_hub, no_route, no_count, preorder, IsSound}
use Rattle.hub_spec.proofs.ChildLists.{open_branch, closed_branch}
use Rattle.search_spec.proofs.Keeping.{IsKept, leaf_bound-kept, closes_less, mix_kept}
use Rattle.search_spec.specs.Walks.{IsSoundLine, filled, Walks}

pub goes_on : (p : Problem) (cuts : List Cut) (target : ℕ) (first : List Branching) (lines : List TreeLine) (b : Branching)
    (pending : List Branching) (l : TreeLine) → Walks p cuts target first lines (b ∷ pending) → IsSoundLine p cuts target b l
    → Walks p cuts target first (lines ++ l ∷ []) (filled b l pending)
goes_on p cuts target first [] b pending l walks sound =
    subst (λ (bs : List Branching). Walks p cuts target bs (l ∷ []) (filled b l pending)) (sym walks) (sound, refl)
goes_on p cuts target [] (m ∷ lines) b pending l walks sound = absurd walks
goes_on p cuts target (c ∷ rest) (m ∷ lines) b pending l walks sound =
    (walks.0, goes_on p cuts target (filled c m rest) lines b pending l walks.1 sound)

kept_append : (cuts more : List Cut) → IsKept cuts (cuts ++ more)
kept_append cuts more = record {
  long = omega (arith, length-append cuts more);
  same = λ x least most. get_or_append_left cuts more (cut_by []) (x - 1) (omega (arith, least, most));
}

line_stays : (p : Problem) (cuts more : List Cut) (target lower : ℕ) (b : Branching) (l : TreeLine) → lower ≤ target
    → IsSoundLine p cuts target b l → IsSoundLine p (cuts ++ more) lower b l
line_stays p cuts more target lower b (branch_on k) less sound = sound
line_stays p cuts more target lower b (leaf_of denom weights) less sound =
    let kept = kept_append cuts more in
    let same = leaf_bound-kept p cuts (cuts ++ more) denom weights b kept sound.1 in (
      sound.0,
      mix_kept cuts (cuts ++ more) denom weights kept sound.1,
      subst (λ z. Closes denom lower z) (sym same) (closes_less denom target lower (leaf_bound p cuts denom weights b) less sound.2),
    )
line_stays p cuts more target lower b no_hub less sound = sound
line_stays p cuts more target lower b (no_route commodity) less sound = sound
line_stays p cuts more target lower b no_count less sound = sound

pub stays : (p : Problem) (cuts more : List Cut) (target lower : ℕ) (first : List Branching) (lines : List TreeLine) (last : List Branching)
    → lower ≤ target → Walks p cuts target first lines last → Walks p (cuts ++ more) lower first lines last
stays p cuts more target lower first [] last less walks = walks
stays p cuts more target lower [] (l ∷ lines) last less walks = absurd walks
stays p cuts more target lower (b ∷ pending) (l ∷ lines) last less walks = (
  line_stays p cuts more target lower b l less walks.0,
  stays p cuts more target lower (filled b l pending) lines last less walks.1,
)

pub line_leaves_branches : (p : Problem) (cuts : List Cut) (target : ℕ) (b : Branching) (pending : List Branching) (l : TreeLine)
    → IsBranch p b → All (IsBranch p) pending → IsSoundLine p cuts target b l → All (IsBranch p) (filled b l pending)
line_leaves_branches p cuts target b pending (branch_on k) here others sound =
    All-cons (IsBranch p) (open_child b k) (closed_child b k ∷ pending) (open_branch p b k here sound)
    (All-cons (IsBranch p) (closed_child b k) pending (closed_branch p b k here sound) others)
line_leaves_branches p cuts target b pending (leaf_of denom weights) here others sound = others
line_leaves_branches p cuts target b pending no_hub here others sound = others
line_leaves_branches p cuts target b pending (no_route commodity) here others sound = others
line_leaves_branches p cuts target b pending no_count here others sound = others

pub leaves_branches : (p : Problem) (cuts : List Cut) (target : ℕ) (first : List Branching) (lines : List TreeLine) (last : List Branching)
    → All (IsBranch p) first → Walks p cuts target first lines last → All (IsBranch p) last
leaves_branches p cuts target first [] last are walks = subst (All (IsBranch p)) walks are
leaves_branches p cuts target [] (l ∷ lines) last are walks = absurd walks
leaves_branches p cuts target (b ∷ pending) (l ∷ lines) last are walks =
    leaves_branches p cuts target (filled b l pending) lines last
    (line_leaves_branches p cuts target b pending l (All-head (IsBranch p) b pending are) (All-tail (IsBranch p) b pending are) walks.0)
    walks.1

-- ---- trees

-- lines that begin with those of a sound tree of this branch, and go on with the others
record Fills (p : Problem) (cuts : List Cut) (target : ℕ) (b : Branching) (pending : List Branching) (lines : List TreeLine) : Type 0 where
  tree : Tree
  rest : List TreeLine
  whole : lines ≡ preorder tree ++ rest
  sound : IsSound p cuts target b tree
  onward : Walks p cuts target pending rest []

fill : (n : ℕ) (p : Problem) (cuts : List Cut) (target : ℕ) (b : Branching) (pending : List Branching) (lines : List TreeLine)
    → length lines ≤ n → Walks p cuts target (b ∷ pending) lines [] → Fills p cuts target b pending lines
fill n p cuts target b pending [] few walks = absurd (let e : length (b ∷ pending) ≡ 0 = ap length walks in omega (arith, e))
fill zero p cuts target b pending (l ∷ lines) few walks = absurd (omega (arith, few))
fill (suc n) p cuts target b pending (branch_on k ∷ lines) few walks =
    let down = fill n p cuts target (open_child b k) (closed_child b k ∷ pending) lines (omega (arith, few)) walks.1 in
    let shorter : length down.rest ≤ n = omega (arith, few, ap length down.whole, length-append (preorder down.tree) down.rest) in
    let away = fill n p cuts target (closed_child b k) pending down.rest shorter down.onward in
    record {
      tree = branch k down.tree away.tree;
      rest = away.rest;
      whole = ap (λ ls. branch_on k ∷ ls)
          (down.whole ∙ ap (λ ls. preorder down.tree ++ ls) away.whole ∙ sym (append_assoc (preorder down.tree) (preorder away.tree) away.rest));
      sound = (walks.0, down.sound, away.sound);
      onward = away.onward;
    }
fill (suc n) p cuts target b pending (leaf_of denom weights ∷ lines) few walks =
    record { tree = leaf denom weights; rest = lines; whole = refl; sound = walks.0; onward = walks.1 }
fill (suc n) p cuts target b pending (no_hub ∷ lines) few walks =
    record { tree = empty; rest = lines; whole = refl; sound = walks.0; onward = walks.1 }
fill (suc n) p cuts target b pending (no_route commodity ∷ lines) few walks =
    record { tree = block commodity; rest = lines; whole = refl; sound = walks.0; onward = walks.1 }
fill (suc n) p cuts target b pending (no_count ∷ lines) few walks =
    record { tree = count; rest = lines; whole = refl; sound = walks.0; onward = walks.1 }

nothing_left : (p : Problem) (cuts : List Cut) (target : ℕ) (rest : List TreeLine) → Walks p cuts target [] rest [] → rest ≡ []
nothing_left p cuts target [] walks = refl
nothing_left p cuts target (l ∷ rest) walks = absurd walks

pub is_tree : (p : Problem) (cuts : List Cut) (target : ℕ) (b : Branching) (lines : List TreeLine) → Walks p cuts target (b ∷ []) lines []
    → (tree : Tree) × (preorder tree ≡ lines) × IsSound p cuts target b tree
is_tree p cuts target b lines walks =
    let all = fill (length lines) p cuts target b [] lines (omega arith) walks in
    let end = nothing_left p cuts target all.rest all.onward in (
      all.tree,
      sym (all.whole ∙ ap (λ ls. preorder all.tree ++ ls) end ∙ append-nil (preorder all.tree)),
      all.sound,
    )
