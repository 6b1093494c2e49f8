-- The files that the words name.
use Rattle.std.specs.Prelude.{◌≡◌, ℕ, List, Option, Some, None, ◌⊎◌}
use Rattle.hub_words.specs.Requests.{Request, solve, check, report, make, demo, instance}
use Rattle.hub_sources.specs.Named.{IsFileOf}
use Rattle.hub_searches.specs.Older.{IsNamedBy}

-- the request names the file
abbrev pub Names : Request → List ℕ → Type 0
Names (solve s) name = IsNamedBy s name
Names (check s certificate) name = IsFileOf s name ⊎ (name ≡ certificate)
Names (report s certificate) name = IsFileOf s name ⊎ (name ≡ certificate)
Names (make making) name = ⊥
Names (demo making search) name = ⊥

-- the words name it
abbrev pub AreNaming : Option Request → List ℕ → Type 0
AreNaming None name = ⊥
AreNaming (Some request) name = Names request name

-- the words are no command, or one that names no instance
abbrev pub NameNone : Option Request → Type 0
NameNone None = Unit {0}
NameNone (Some request) = instance request ≡ None
