-- Why a command has no instance or no certificate.
use Rattle.std.specs.Prelude.{◌≡◌, ℕ, List, Option, Some, None}
use Rattle.hub_io.specs.Outside.{Files, HoldsMore}
use Rattle.file_spec.specs.Limits.{file_limit}
use Rattle.file_spec.specs.Options.{Layout, Options}
use Rattle.file_spec.specs.Faults.{Fault, too_long}
use Rattle.file_spec.specs.Contents.{Contents}
use Rattle.file_spec.specs.Files.{HasFault, HasCostFault}
use Rattle.file_spec.specs.Instances.{build_fault, GivesCostFault}
use Rattle.hub_model.specs.Faults.{fault_of}
use Rattle.hub_sources.specs.declared.halts.Halt.{Halt}
use Rattle.hub_io.specs.declared.whole.ReadEnd.{ReadEnd}
use Rattle.hub_model.specs.declared.faults.Refusal.{Refusal}
use Rattle.hub_sources.specs.declared.halts.Blamed.{Blamed}
use Rattle.hub_words.specs.Requests.{Source}
use Rattle.hub_sources.specs.Sources.{WhereTold, Blame, on_instance, on_costs, HasBlame}
use Rattle.hub_sources.specs.Blames.{blame_of}
use Rattle.hub_sources.specs.declared.halts.Halt.TheVariants as halts
use Rattle.hub_io.specs.declared.whole.ReadEnd.TheVariants as ends
use Rattle.hub_model.specs.declared.faults.InstanceFault.TheVariants as faults
use Rattle.hub_model.specs.declared.faults.Refusal.TheVariants as refusals

-- a fault that is so, or a read that failed so; want of memory says nothing
abbrev pub Halts : (Blame → Fault → Type 0) → Type 0 → Halt → Type 0
Halts faulty unread (halts.Fault blamed f) = faulty (blame_of blamed) (fault_of f)
Halts faulty unread halts.Memory = Unit {0}
Halts faulty unread halts.Read = unread

-- the blamed file holds too many bytes
abbrev pub IsTooLong : Option Files → List ℕ → Blame → Blame → Fault → Type 0
IsTooLong held file wanted blame fault = (blame ≡ wanted) × (fault ≡ too_long) × HoldsMore held file file_limit

-- a token of the instance file has the fault
abbrev pub IsOfToken : Layout → Options → List ℕ → Blame → Fault → Type 0
IsOfToken layout o bytes blame fault = (blame ≡ on_instance) × HasFault layout o bytes fault

-- the contents, options and costs have the fault together
abbrev pub IsOfWhole : Options → Contents → Option (List ℕ) → Blame → Fault → Type 0
IsOfWhole o contents costs blame fault = (blame ≡ on_instance) × (build_fault o contents costs ≡ Some fault)

-- the costs file for n nodes has the fault
abbrev pub HasCostsFault : Files → Option (List ℕ) → ℕ → Fault → Type 0
HasCostsFault files None n fault = ⊥
HasCostsFault files (Some name) n fault = (bytes : List ℕ) × (files name ≡ Some bytes) × GivesCostFault n bytes fault

abbrev pub IsOfCosts : Option Files → Option (List ℕ) → ℕ → Blame → Fault → Type 0
IsOfCosts held costs n blame fault = (blame ≡ on_costs) × WhereTold held (λ files. HasCostsFault files costs n fault)

-- a token of the costs file for n nodes has the fault
abbrev pub IsOfCostTokens : ℕ → List ℕ → Blame → Fault → Type 0
IsOfCostTokens n bytes blame fault = (blame ≡ on_costs) × HasCostFault n bytes fault

-- a costs file is named and not held
abbrev pub LacksCosts : Option (List ℕ) → Files → Type 0
LacksCosts None files = ⊥
LacksCosts (Some name) files = files name ≡ None

-- a file of the instance has the fault
abbrev pub IsOfSource : Option Files → Source → Blame → Fault → Type 0
IsOfSource held s blame fault = WhereTold held (λ files. HasBlame files s blame fault)

-- why there is no instance, where what that file gives was refused
abbrev pub halted_by : Blamed → Refusal → Halt
halted_by blamed (refusals.Fault f) = halts.Fault blamed f
halted_by blamed refusals.OutOfMemory = halts.Memory

-- why there is no instance, where the reading of that file ended so
abbrev pub unread_by : Blamed → ReadEnd → Halt
unread_by blamed ends.TooLong = halts.Fault blamed faults.TooLong
unread_by blamed ends.ReadFault = halts.Read
unread_by blamed ends.OutOfMemory = halts.Memory
