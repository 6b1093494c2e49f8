-- Tables and route ends as they are once they are filled.
use Rattle.std.proofs.Common.{◌≡◌, ℕ, ◌*◌, ◌<◌, ◌≤◌, List, length, refl, sym, subst, arith}
use Rattle.unit_duals.specs.Cells.{cell, IsTable}
use Rattle.unit_duals.specs.Lengths.{UnitLegs, AreLegs, stops, trunk_leg}
use Rattle.unit_duals.specs.Values.{back_leg}
use Rattle.unit_duals.specs.Nearness.{AreNearLists, IsFarForth, IsFarHome, IsNoShorterForth, IsNoShorterHome}
use Rattle.unit_duals.specs.TableParts.{HasRoom, AreMadeOf, AreTableParts}
use Rattle.unit_duals.specs.Hops.{AreBestHops, AreHopLengths}
use Rattle.unit_duals.specs.HopParts.{HasHopRoom, AreHopsOf, AreHopParts}
use Rattle.unit_duals.specs.declared.tables.Tables.TheInside.{Inside}
use Rattle.unit_duals.specs.declared.hops.Hops.TheInside.{Inside as HopsInside}
use Rattle.unit_duals.proofs.TableCells.{cell_within}
use Rattle.unit_duals.proofs.LegRows.{near_lists_by}

-- legs that are held part by part
pub same_legs : (l : UnitLegs) (size count hubs : ℕ) (trunk last : List ℕ) → size ≡ l.size → count ≡ l.count → hubs ≡ l.hubs
    → trunk ≡ l.trunk → last ≡ l.last → l ≡ record { size = size; count = count; hubs = hubs; trunk = trunk; last = last }
same_legs l size count hubs trunk last a b c d e = rw (a, b, c, d, e) refl

-- the parts of the tables, worked out of the legs, are what the tables are to hold
pub tables_made : (s : Inside) (l : UnitLegs) (turned back : List ℕ) → HasRoom s → s.size ≡ l.size → s.count ≡ l.count → s.hubs ≡ l.hubs
    → s.trunk.items ≡ l.trunk → s.last.items ≡ l.last → s.turned.items ≡ turned → s.back.items ≡ back
    → l.size ≤ s.room → stops l ≤ s.room → AreLegs l → length turned ≡ stops l * stops l → length back ≡ stops l * l.size
    → IsTable (stops l) (λ k m v. v ≡ trunk_leg l m k) turned (length turned)
    → IsTable l.size (λ k j v. v ≡ back_leg l k j) back (length back)
    → AreNearLists l.size l.count (IsFarForth l back) l.count s.forth.starts.items s.forth.nodes.items
    → AreNearLists l.size l.count (IsFarHome l back) l.count s.home.starts.items s.home.nodes.items
    → AreTableParts s
tables_made s l turned back room size count hubs trunk last is_turned is_back few_columns few_stops legs turned_long back_long turned_is back_is forth home = record {
  room = room;
  made = subst (λ (x : UnitLegs). AreMadeOf x s) (same_legs l s.size s.count s.hubs s.trunk.items s.last.items size count hubs trunk last) made;
}
  where
    back_cell : (k j : ℕ) → k < stops l → j < l.size → cell l.size back k j ≡ back_leg l k j
    back_cell k j row column = back_is.each k j column (omega (arith, cell_within k j l.size (stops l) row column, back_long))

    made : AreMadeOf l s
    made = record {
      size_within = few_columns;
      stops_within = few_stops;
      legs = legs;
      turned_long = subst (λ (xs : List ℕ). length xs ≡ stops l * stops l) (sym is_turned) turned_long;
      turned = subst (λ (xs : List ℕ). IsTable (stops l) (λ k m v. v ≡ trunk_leg l m k) xs (length xs)) (sym is_turned) turned_is;
      back_long = subst (λ (xs : List ℕ). length xs ≡ stops l * l.size) (sym is_back) back_long;
      back = subst (λ (xs : List ℕ). IsTable l.size (λ k j v. v ≡ back_leg l k j) xs (length xs)) (sym is_back) back_is;
      forth = near_lists_by l.size l.count l.count (IsFarForth l back) (IsNoShorterForth l) s.forth.starts.items s.forth.nodes.items
          (λ t e j earlier place below far. (let b = back_cell t j (omega (arith, place)) below in omega (arith, far, b))) forth;
      home = near_lists_by l.size l.count l.count (IsFarHome l back) (IsNoShorterHome l) s.home.starts.items s.home.nodes.items
          (λ t e j earlier place below far. (let b = back_cell e j (omega (arith, place, earlier)) below in omega (arith, far, b))) home;
    }

-- the route ends, found in the legs, are what the workspace is to hold
pub hops_found : (s : HopsInside) (l : UnitLegs) (lasts lengths : List ℕ) → HasHopRoom s → s.size ≡ l.size → s.count ≡ l.count → s.hubs ≡ l.hubs
    → s.trunk.items ≡ l.trunk → s.last.items ≡ l.last → s.lasts.items ≡ lasts → s.lengths.items ≡ lengths → AreLegs l
    → length lasts ≡ l.hubs * l.size → length lengths ≡ l.hubs * l.size
    → AreBestHops l lasts
    → AreHopLengths l lengths
    → AreHopParts s
hops_found s l lasts lengths room size count hubs trunk last is_lasts is_lengths legs lasts_long lengths_long lasts_are lengths_are = record {
  room = room;
  found = subst (λ (x : UnitLegs). AreHopsOf x s) (same_legs l s.size s.count s.hubs s.trunk.items s.last.items size count hubs trunk last) found;
}
  where
    found : AreHopsOf l s
    found = record {
      legs = legs;
      lasts_long = subst (λ (xs : List ℕ). length xs ≡ l.hubs * l.size) (sym is_lasts) lasts_long;
      lasts = subst (AreBestHops l) (sym is_lasts) lasts_are;
      lengths_long = subst (λ (xs : List ℕ). length xs ≡ l.hubs * l.size) (sym is_lengths) lengths_long;
      lengths = subst (AreHopLengths l) (sym is_lengths) lengths_are;
    }
