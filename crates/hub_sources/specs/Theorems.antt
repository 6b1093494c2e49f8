-- That files have one fault.
use Rattle.std.specs.Prelude.{◌≡◌}
use Rattle.file_spec.specs.Faults.{Fault}
use Rattle.hub_io.specs.Outside.{Files}
use Rattle.hub_words.specs.Requests.{Source}
use Rattle.hub_sources.specs.Sources.{Blame, HasBlame}

-- two faults that the same files have are one, attributed to one file
abbrev pub OneBlame : Type 0
OneBlame = (files : Files) (s : Source) (blame other : Blame) (fault second : Fault)
    → HasBlame files s blame fault → HasBlame files s other second → (other ≡ blame) × (second ≡ fault)
