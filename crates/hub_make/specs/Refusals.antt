-- Why a file that stands alone gives no instance.
use Rattle.std.specs.Prelude.{ℕ, List, None}
use Rattle.file_spec.specs.Options.{australia_post, Options}
use Rattle.file_spec.specs.Instances.{GivesFault}
use Rattle.hub_model.specs.Faults.{fault_of}
use Rattle.hub_model.specs.declared.faults.Refusal.{Refusal}
use Rattle.hub_model.specs.declared.faults.Refusal.TheVariants.{Fault as of_fault, OutOfMemory}

-- a file in the layout of Australia Post with no costs file was refused for its fault; want of memory says nothing
abbrev pub IsRefusedAlone : Options → List ℕ → Refusal → Type 0
IsRefusedAlone o bytes (of_fault f) = GivesFault australia_post o bytes None (fault_of f)
IsRefusedAlone o bytes OutOfMemory = Unit {0}
