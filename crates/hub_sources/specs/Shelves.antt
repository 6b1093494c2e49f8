-- What a call does to a shelf.
use Rattle.std.specs.Prelude.{◌≡◌, ℕ, ◌≤◌, Option}
use Rattle.hub_io.specs.Outside.{Files, Rose}
use Rattle.hub_sources.specs.Sources.{WhereTold}

-- the shelf failed in this call; if it is sound and its files are known, `lacks` holds of them
pub record FailsFor {S : Type 0} (held : S → Option Files) (faults : S → ℕ) (sound : S → Type 0) (old new : S) (lacks : Files → Type 0) : Type 0 where
  pub rose : Rose (faults old) (faults new)
  pub lacking : sound old → WhereTold (held old) lacks

-- after a call the shelf holds the same, its faults never fell, and it is sound where it was
pub record StaysShelf {S : Type 0} (held : S → Option Files) (faults : S → ℕ) (sound : S → Type 0) (old new : S) : Type 0 where
  pub same : held new ≡ held old
  pub later : faults old ≤ faults new
  pub sound_still : sound old → sound new
