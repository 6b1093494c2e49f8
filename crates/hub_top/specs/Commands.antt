-- What each command does with the files that it names.
use Rattle.std.specs.Prelude.{◌⊎◌}
use Rattle.hub_io.specs.Outside.{Files}
use Rattle.hub_words.specs.Requests.{Request, solve, check, report, make, demo}
use Rattle.hub_commands.specs.Checks.{LacksCertificate}
use Rattle.hub_commands.specs.Instances.{LacksOlder}
use Rattle.hub_sources.specs.Sources.{LacksSource}

-- the run reads a file that the request names and that is not held
abbrev pub Lacks : Files → Request → Type 0
Lacks files (solve s) = LacksSource files s.source ⊎ LacksOlder files s
Lacks files (check s certificate) = LacksSource files s ⊎ LacksCertificate files s certificate
Lacks files (report s certificate) = LacksSource files s ⊎ LacksCertificate files s certificate
Lacks files (make making) = ⊥
Lacks files (demo making search) = ⊥
