-- Why a file is refused: for its first fault. Want of memory says nothing.
use Rattle.std.specs.Prelude.{List, ℕ}
use Rattle.file_spec.specs.Options.{Layout, Options}
use Rattle.file_spec.specs.Files.{HasFault, HasCostFault}
use Rattle.hub_model.specs.Faults.{fault_of}
use Rattle.hub_model.specs.declared.faults.Refusal.{Refusal}
use Rattle.hub_model.specs.declared.faults.Refusal.TheVariants.{Fault as of_fault, OutOfMemory}

-- an instance file was refused for its first fault
abbrev pub IsRefused : Layout → Options → List ℕ → Refusal → Type 0
IsRefused layout o bytes (of_fault f) = HasFault layout o bytes (fault_of f)
IsRefused layout o bytes OutOfMemory = Unit {0}

-- a costs file for n nodes was refused for its first fault
abbrev pub IsRefusedCosts : ℕ → List ℕ → Refusal → Type 0
IsRefusedCosts n bytes (of_fault f) = HasCostFault n bytes (fault_of f)
IsRefusedCosts n bytes OutOfMemory = Unit {0}
