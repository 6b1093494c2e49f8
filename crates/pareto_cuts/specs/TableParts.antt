-- What the tables of a hub set and an order hold.
use Rattle.std.specs.Prelude.{◌≡◌, true}
use Rattle.pareto_cuts.specs.declared.set_tables.SetTables.TheInside.{Inside}

-- there is as much room in both, and the tables are of the legs where they are filled
pub record AreSetTables (s : Inside) : Type 0 where
  pub room : s.legs.room ≡ s.tables.room
  pub tables : s.is_filled ≡ true → s.tables.legs ≡ s.legs.legs
