-- Whether a dual of a plain cut repeats the one before it in its origin, by the items that are given. A dual of a marked
-- cut repeats none.
use Rattle.std.specs.Prelude.{ℕ, Bool, true, false, not, ◌&&◌, List, [], ◌∷◌, ◌++◌, length, Option, Some, None, nat_eq, nat_lt, if◌then◌else◌}
use Rattle.hub_spec.specs.Limits.{most_nodes}
use Rattle.hub_spec.specs.Cuts.{Prices}
use Rattle.cert_spec.specs.Reading.{same_pair}
use Rattle.cert_scan.specs.declared.items.Item.{Item}
use Rattle.cert_scan.specs.declared.items.Item.TheVariants.{Cut, Dual, DualPair}
use Rattle.cert_scan.specs.declared.items.Version.{Version}
use Rattle.cert_scan.specs.declared.items.Version.TheVariants.{First}

-- what has come of a dual, and what is left of the one before it, where it has repeated that one so far
pub record DualSoFar : Type 0 where
  pub dual : Prices
  pub left : Option (List (ℕ × ℕ))
  -- its cut is marked
  pub marked : Bool

-- no dual has come
abbrev pub no_dual : DualSoFar
no_dual = record { dual = record { a = 0; u = [] }; left = None; marked = false }

-- a cut begins, which is marked or not
abbrev pub with_mark : DualSoFar → Bool → DualSoFar
with_mark so_far marked = record { dual = so_far.dual; left = so_far.left; marked = marked }

-- a price comes, of a dual of which this is the first destination; it repeats none where it is the first of its origin,
-- or of a marked cut
abbrev pub with_price : DualSoFar → ℕ → ℕ → DualSoFar
with_price so_far to a = record {
  dual = record { a = a; u = [] };
  left = if not so_far.marked && (not (nat_eq to 0) && nat_eq so_far.dual.a a) then Some so_far.dual.u else None;
  marked = so_far.marked;
}

-- what is left behind a value
abbrev pub left_behind : Option (List (ℕ × ℕ)) → ℕ × ℕ → Option (List (ℕ × ℕ))
left_behind (Some (f ∷ rest)) e = if same_pair f e then Some rest else None
left_behind left e = None

-- a value is listed; there are no more than nodes
abbrev pub with_value : DualSoFar → ℕ × ℕ → DualSoFar
with_value so_far e = record {
  dual = record {
    a = so_far.dual.a;
    u = if nat_lt (length so_far.dual.u) most_nodes then so_far.dual.u ++ e ∷ [] else so_far.dual.u;
  };
  left = left_behind so_far.left e;
  marked = so_far.marked;
}

-- with an item
abbrev pub noted : DualSoFar → Item → DualSoFar
noted so_far (Cut x part last) = with_mark so_far (not last)
noted so_far (Dual i j run a last) = with_price so_far j a
noted so_far (DualPair k u last) = with_value so_far (k, u)
noted so_far item = so_far

-- nothing is left
abbrev pub is_repeated : Option (List (ℕ × ℕ)) → Bool
is_repeated (Some []) = true
is_repeated left = false

-- the item ends a dual
abbrev pub ends_dual : Item → Bool
ends_dual (Dual i j run a last) = last
ends_dual (DualPair k u last) = last
ends_dual item = false

-- it ends one that repeats the one before it
abbrev pub ends_repeat : DualSoFar → Item → Bool
ends_repeat so_far item = ends_dual item && is_repeated (noted so_far item).left

-- with what was given, in a text of this version: in the first, each dual has a line of its own
abbrev pub noted_by : Version → DualSoFar → Option Item → DualSoFar
noted_by First so_far item = so_far
noted_by version so_far None = so_far
noted_by version so_far (Some item) = noted so_far item

abbrev pub repeats_by : Version → DualSoFar → Option Item → Bool
repeats_by First so_far item = false
repeats_by version so_far None = false
repeats_by version so_far (Some item) = ends_repeat so_far item
