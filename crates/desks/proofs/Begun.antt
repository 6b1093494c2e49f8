-- A way that begins with a key goes on so.
use Rattle.std.proofs.Common.{◌≡◌, List, [], ◌∷◌, ◌++◌, ap, sym, ◌∙◌}
use Rattle.desks.specs.declared.posts.Post.{Post}
use Rattle.desks.specs.declared.posts.Post.TheVariants.{Key}
use Rattle.desks.specs.Posts.{BeginsWith}

module _ {K T : Type 0} where
  pub begun_more : (key : K) (posts more : List (Post K T)) (x : Post K T) → BeginsWith key posts → more ≡ posts ++ x ∷ [] → BeginsWith key more
  begun_more key posts more x begun is = record { later = begun.later ++ x ∷ []; is = is ∙ ap (λ (ps : List (Post K T)). ps ++ x ∷ []) begun.is }

  abbrev first_or : Post K T → List (Post K T) → Post K T
  first_or x [] = x
  first_or x (y ∷ ys) = y

  -- what is known first of a way on which the key alone has gone is the key
  pub known_first : (key : K) (past known more posts : List (Post K T)) (x : Post K T) → past ≡ [] → known ≡ x ∷ more → past ++ known ≡ posts
      → posts ≡ Key key ∷ [] → x ≡ Key key
  known_first key past known more posts x none first all posted =
      ap (first_or x) (sym first ∙ sym (ap (λ (ps : List (Post K T)). ps ++ known) none) ∙ all ∙ posted)
