-- The number of hubs that a file lists.
use Rattle.std.proofs.Common.{◌≡◌, ℕ, List, Some, sym, subst}
use Rattle.std.specs.Prelude.{IsSome, refl}
use Rattle.file_spec.specs.Options.{Layout, australia_post, listed_number, Options}
use Rattle.file_spec.specs.Contents.{Contents}
use Rattle.file_spec.specs.Files.{file_contents, HasContents}
use Rattle.file_spec.specs.Instances.{HasAsked}

-- a file of Australia Post lists one
pub post_lists : (o : Options) (bytes : List ℕ) (c : Contents) → HasContents australia_post o bytes c → IsSome c.listed_p
unfolding file_contents
post_lists o bytes c has = subst (λ (x : Contents). IsSome x.listed_p) (sym has.is) refl

-- so the file lists a number of hubs where the options want it, as they may in this layout alone
pub has_asked : (layout : Layout) (o : Options) (bytes : List ℕ) (c : Contents) → (o.hubs ≡ Some listed_number → layout ≡ australia_post)
    → HasContents layout o bytes c → HasAsked o c
has_asked layout o bytes c allowed has listed =
    post_lists o bytes c (subst (λ l. HasContents l o bytes c) (allowed listed) has)
