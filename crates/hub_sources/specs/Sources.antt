-- What the files that a source names give: an instance, or a fault of one of them.
use Rattle.std.specs.Prelude.{◌≡◌, ℕ, ◌≤◌, List, length, Option, Some, None}
use Rattle.hub_io.specs.Outside.{Files}
use Rattle.hub_spec.specs.Problem.{Problem}
use Rattle.file_spec.specs.Limits.{file_limit}
use Rattle.file_spec.specs.Faults.{Fault}
use Rattle.file_spec.specs.Contents.{Contents}
use Rattle.file_spec.specs.Files.{HasContents}
use Rattle.file_spec.specs.Instances.{build_fault, GivesInstance, GivesFileFault, GivesCosts, GivesCostFault}
use Rattle.hub_words.specs.Requests.{Source, again}

-- a fact about the files, where their contents are known
abbrev pub WhereTold : Option Files → (Files → Type 0) → Type 0
WhereTold None fact = Unit {0}
WhereTold (Some files) fact = fact files

-- the fixed costs of n nodes in the costs file, where one is named
abbrev pub HoldsCosts : Files → Option (List ℕ) → ℕ → Option (List ℕ) → Type 0
HoldsCosts files None n costs = costs ≡ None
HoldsCosts files (Some name) n None = ⊥
HoldsCosts files (Some name) n (Some costs) = (bytes : List ℕ) × (files name ≡ Some bytes) × GivesCosts n bytes costs

-- the files and the options give this instance
pub record HoldsInstance (files : Files) (s : Source) (p : Problem) : Type 0 where
  pub bytes : List ℕ
  pub held : files s.file ≡ Some bytes
  pub costs : Option (List ℕ)
  pub costs_held : HoldsCosts files s.costs p.size costs
  pub gives : GivesInstance s.layout s.options bytes costs p

-- the instance file has these contents, whatever the fixed costs
pub record HoldsContents (files : Files) (s : Source) (contents : Contents) : Type 0 where
  pub bytes : List ℕ
  pub held : files s.file ≡ Some bytes
  pub not_too_long : length bytes ≤ file_limit
  pub has : HasContents s.layout s.options bytes contents

-- the file to which a fault of an instance is attributed
pub data Blame : Type 0 where
  on_instance on_costs : Blame

-- the instance file has this fault, or the files and options have it together
pub data HoldsFault (files : Files) (s : Source) (fault : Fault) : Type 0 where
  -- the instance file alone has it, whatever the fixed costs: it is too long, or else a token has the fault
  alone : (bytes : List ℕ) → files s.file ≡ Some bytes → GivesFileFault s.layout s.options bytes fault → HoldsFault files s fault
  -- no file has a fault of its own
  together : (contents : Contents) → HoldsContents files s contents
      → (costs : Option (List ℕ)) → HoldsCosts files s.costs contents.size costs
      → build_fault s.options contents costs ≡ Some fault
      → HoldsFault files s fault

-- the instance file has no fault of its own, and the costs file has this one
pub record HoldsCostFault (files : Files) (s : Source) (fault : Fault) : Type 0 where
  pub contents : Contents
  pub instance : HoldsContents files s contents
  pub name : List ℕ
  pub named : s.costs ≡ Some name
  pub bytes : List ℕ
  pub held : files name ≡ Some bytes
  pub gives : GivesCostFault contents.size bytes fault

-- the files have this fault
abbrev pub HasBlame : Files → Source → Blame → Fault → Type 0
HasBlame files s on_instance fault = HoldsFault files s fault
HasBlame files s on_costs fault = HoldsCostFault files s fault

-- a file of the instance is not held, when it is to be read
pub data LacksSource (files : Files) (s : Source) : Type 0 where
  -- the instance file
  no_file : files s.file ≡ None → LacksSource files s
  -- the costs file, where the instance file has contents
  no_costs : (contents : Contents) → HoldsContents files s contents
      → (name : List ℕ) → s.costs ≡ Some name → files name ≡ None → LacksSource files s

-- the costs files named hold the same bytes, or none is named
abbrev pub SameCosts : Files → Option (List ℕ) → Files → Option (List ℕ) → Type 0
SameCosts before None now None = Unit {0}
SameCosts before None now (Some name) = ⊥
SameCosts before (Some name) now None = ⊥
SameCosts before (Some old) now (Some new) = now new ≡ before old

-- the same instance is named again: the same layout, options and bytes, whatever the names
pub record IsSameInstance (before : Files) (s : Source) (now : Files) (t : Source) : Type 0 where
  pub layout : t.layout ≡ s.layout
  pub options : t.options ≡ s.options
  pub file : now t.file ≡ before s.file
  pub costs : SameCosts before s.costs now t.costs
