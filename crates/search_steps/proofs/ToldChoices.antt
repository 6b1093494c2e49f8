-- What a rule's code returns for a branch is what the rule's definition has.
use Rattle.std.proofs.Common.{◌≡◌, ℕ, List, [], ◌∷◌, Option, Some, None, Vec, Global, refl, ap, sym, ◌∙◌}
use Rattle.std.specs.Prelude.{option_map}
use Rattle.std.proofs.lemmas.Option.{same_Some, none-some}
use Rattle.hub_spec.specs.Problem.{Problem, IsProblem}
use Rattle.hub_spec.specs.Plans.{IsHubSet}
use Rattle.hub_spec.specs.Trees.{Branching, IsBranch, Tree, TreeLine, preorder}
use Rattle.hub_model.specs.declared.tree_lines.TreeLine as model
use Rattle.hub_model.specs.Lines.{tree_line_of}
use Rattle.search_spec.specs.Laws.{GoesOn}
use Rattle.search_steps.specs.Advising.{parts_of}
use Rattle.search_steps.proofs.RuleChoices.{parts_sound, room_when}

-- the tree with which a branch ends has this line alone
pub record HasEnd (end : Option Tree) (line : TreeLine) : Type 0 where
  pub tree : Tree
  pub is : end ≡ Some tree
  pub one : preorder tree ≡ line ∷ []

-- so it is where this line is returned for the end
pub told_end : (end : Option Tree) (told : Option model.TreeLine) (line : model.TreeLine)
    → option_map (λ (l : model.TreeLine). tree_line_of l ∷ []) told ≡ option_map preorder end → told ≡ Some line → HasEnd end (tree_line_of line)
told_end None told line is known =
    absurd (none-some (tree_line_of line ∷ []) (sym is ∙ ap (option_map (λ (l : model.TreeLine). tree_line_of l ∷ [])) known))
told_end (Some tree) told line is known = record {
  tree = tree;
  is = refl;
  one = same_Some (preorder tree) (tree_line_of line ∷ []) (sym is ∙ ap (option_map (λ (l : model.TreeLine). tree_line_of l ∷ [])) known);
}

-- and there is no end where no line is returned
pub told_no_end : (end : Option Tree) (told : Option model.TreeLine)
    → option_map (λ (l : model.TreeLine). tree_line_of l ∷ []) told ≡ option_map preorder end → told ≡ None → end ≡ None
told_no_end None told is known = refl
told_no_end (Some tree) told is known =
    absurd (none-some (preorder tree) (sym (ap (option_map (λ (l : model.TreeLine). tree_line_of l ∷ [])) known) ∙ is))

-- the only set is the one that is returned, and there is none where none is returned
pub told_alone : (only : Option (List ℕ)) (told : Option (Vec ℕ Global)) (set : Vec ℕ Global)
    → option_map (λ (v : Vec ℕ Global). v.items) told ≡ only → told ≡ Some set → only ≡ Some set.items
told_alone only told set is known = sym is ∙ ap (option_map (λ (v : Vec ℕ Global). v.items)) known

pub told_none_alone : (only : Option (List ℕ)) (told : Option (Vec ℕ Global))
    → option_map (λ (v : Vec ℕ Global). v.items) told ≡ only → told ≡ None → only ≡ None
told_none_alone only told is known = sym is ∙ ap (option_map (λ (v : Vec ℕ Global). v.items)) known

-- a branch with neither an end nor one set goes on
pub goes_on : (p : Problem) (b : Branching) → (parts_of p).barren b ≡ None → (parts_of p).blocked b ≡ None → (parts_of p).only b ≡ None
    → GoesOn (parts_of p) b
goes_on p b barren blocked only = record { barren = barren; blocked = blocked; only = only }

-- the only set, in a branch with no end
pub alone_is_set : (p : Problem) (b : Branching) (set : List ℕ) → IsProblem p → IsBranch p b → (parts_of p).barren b ≡ None → (parts_of p).blocked b ≡ None
    → (parts_of p).only b ≡ Some set → IsHubSet p set
alone_is_set p b set ok is_branch barren blocked only =
    ((parts_sound p ok).only b set is_branch (room_when p b barren) barren blocked only).is_set
