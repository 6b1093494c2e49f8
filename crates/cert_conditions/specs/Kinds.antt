-- What the conditions are about: the kinds of the definitions, and their names.
use Rattle.std.specs.Prelude.{ℕ, List, codes}
use Rattle.cert_spec.specs.Conditions.{Kind, Size, BoundOverCost, Hubs, Number, Route, Length, Cost, Dual, Sum, Core, Branch, Empty, Block, Count, CutNumber, Multiple, Weight, Leaf}
use Rattle.cert_conditions.specs.declared.kinds.Kind as code

-- the kind of the definitions that it stands for
abbrev pub kind_of : code.Kind → Kind
kind_of code.TheVariants.Size = Size
kind_of code.TheVariants.BoundOverCost = BoundOverCost
kind_of code.TheVariants.Hubs = Hubs
kind_of code.TheVariants.Number = Number
kind_of code.TheVariants.Route = Route
kind_of code.TheVariants.Length = Length
kind_of code.TheVariants.Cost = Cost
kind_of code.TheVariants.Dual = Dual
kind_of code.TheVariants.Sum = Sum
kind_of code.TheVariants.Core = Core
kind_of code.TheVariants.Branch = Branch
kind_of code.TheVariants.Empty = Empty
kind_of code.TheVariants.Block = Block
kind_of code.TheVariants.Count = Count
kind_of code.TheVariants.CutNumber = CutNumber
kind_of code.TheVariants.Multiple = Multiple
kind_of code.TheVariants.Weight = Weight
kind_of code.TheVariants.Leaf = Leaf

-- the name of a kind
abbrev pub kind_name : Kind → List ℕ
kind_name Size = codes "Size"
kind_name BoundOverCost = codes "BoundOverCost"
kind_name Hubs = codes "Hubs"
kind_name Number = codes "Number"
kind_name Route = codes "Route"
kind_name Length = codes "Length"
kind_name Cost = codes "Cost"
kind_name Dual = codes "Dual"
kind_name Sum = codes "Sum"
kind_name Core = codes "Core"
kind_name Branch = codes "Branch"
kind_name Empty = codes "Empty"
kind_name Block = codes "Block"
kind_name Count = codes "Count"
kind_name CutNumber = codes "CutNumber"
kind_name Multiple = codes "Multiple"
kind_name Weight = codes "Weight"
kind_name Leaf = codes "Leaf"
