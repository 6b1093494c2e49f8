-- How far a file in the row layout is read, and what is known then.
use Rattle.std.proofs.Common.{◌≡◌, ℕ, ◌+◌, ◌-◌, ◌*◌, ◌/◌, ◌%◌, ◌<◌, ◌≤◌, Bool, true, false, not, cond, nat_eq, List, length, find, Option, Some, None, option_map, is_some, Result, Ok, Err, IfOk, OnOk, IfErr, inl, inr, refl, sym, subst, ap, ◌∙◌, arith, [], ◌∷◌, get_or, drop, length-drop}
use Rattle.std.specs.List.{range_with_len, slice_get}
use Rattle.std.specs.Ordering.{nat_cmp}
use Rattle.std.specs.Map.{lookup}
use Rattle.std.specs.BTreeMap.{is_at}
use Rattle.std.specs.Option.{option_or}
use Rattle.std.proofs.lemmas.Bool.{cases_lt, le-leb, ne_eqb, eqb-true}
use Rattle.std.proofs.lemmas.Result.{IfOk-at_ok}
use Rattle.std.proofs.lemmas.Option.{slice_get_past, slice_get-get_or}
use Rattle.text_spec.specs.Tokens.{Token, tokens_of}
use Rattle.file_spec.specs.Options.{cab_rows, Options}
use Rattle.file_spec.specs.Faults.{Fault, repeated}
use Rattle.file_spec.specs.Places.{Wanted, a_size, a_distance, field_wanted, token_fault, token_at, value_at}
use Rattle.file_spec.specs.RowLayout.{row_start, row_count, row_commodity, has_row, repeated_fault, or_else, field_fault, end_fault, row_fault}
use Rattle.file_spec.specs.Files.{file_size}
use Rattle.file_spec.proofs.Firsts.{NoneUpTo}
use Rattle.file_spec.proofs.RowLimits.{row_fault_is}
use Rattle.hub_model.specs.Faults.{fault_of}
use Rattle.hub_model.specs.declared.faults.InstanceFault.{InstanceFault}
use Rattle.hub_model.specs.declared.faults.Refusal.{Refusal}
use Rattle.hub_model.specs.declared.faults.Refusal.TheVariants.{Fault as of_fault, OutOfMemory}
use Rattle.token_reader.specs.Unread.{Unread, whole, later, fault_here, value_here, has_ended, told}
use Rattle.token_reader.specs.Refusals.{IsRefused}
use Rattle.token_reader.proofs.Ahead.{later-none, later-later}
use Rattle.token_reader.proofs.Stretches.{AreWanted, IsFirstOf, fault_later, value_later, ended_later}
use Rattle.token_reader.proofs.Stages.{IsReadTo, StoppedFirst, read_nothing, read_one, one_refused, is_refused, size_is}
use Rattle.instance_cab.specs.declared.rows.Listed.{Listed}
use Rattle.instance_cab.specs.ListedRows.{commodity_here, listed_here, IsRowLegal, IsRowFault, Taken, taken_at, TakesIn, IsRepeat, IsRowRefused, listed_at, IsListing}
use Rattle.instance_cab.proofs.Ranges.{find_more, any-find}

-- what the first m rows say of commodity s
abbrev pub said : ℕ → List Token → ℕ → ℕ → Option Listed
said n tokens m s = option_map (listed_at tokens) (find (λ r. nat_eq (row_commodity n tokens r) s) (range_with_len 0 m))

-- the size and so many rows are read without a fault, each of a commodity of its own
pub record AreRowsRead (bytes : List ℕ) (n : ℕ) (r : Unread) (taken : Taken) : Type 0 where
  pub rows : ℕ
  pub size : n ≡ file_size (tokens_of bytes)
  pub there : 1 + 4 * rows ≤ length (tokens_of bytes)
  pub read : IsReadTo (row_fault n (tokens_of bytes)) bytes (1 + 4 * rows) r
  pub holds : (s : ℕ) → taken_at taken s ≡ said n (tokens_of bytes) rows s

-- a token that is wanted and has no fault is there
size_there : (t : ℕ) (token : Option Token) → token_fault a_size t token ≡ None → is_some token ≡ true
size_there t None e = cc
size_there t (Some token) e = refl

distance_there : (t : ℕ) (token : Option Token) → token_fault a_distance t token ≡ None → is_some token ≡ true
distance_there t None e = cc
distance_there t (Some token) e = refl

there_by : (tokens : List Token) (t : ℕ) → 1 ≤ t → is_some (token_at tokens t) ≡ true → t ≤ length tokens
there_by tokens t one some = elim (cases_lt (t - 1) (length tokens)) [
  | inl below ↦ omega arith
  | inr past ↦
      (let gone : token_at tokens t ≡ None = slice_get_past tokens (t - 1) past in
      let none : is_some (token_at tokens t) ≡ false = ap is_some gone in
      cc)
]

gone_by : (tokens : List Token) (t : ℕ) → 1 ≤ t → is_some (token_at tokens t) ≡ false → length tokens < t
gone_by tokens t one none = elim (cases_lt (t - 1) (length tokens)) [
  | inl below ↦
      (let found : token_at tokens t ≡ Some (get_or tokens (t - 1) (0, [])) = slice_get-get_or tokens (t - 1) (0, []) below in
      let some : is_some (token_at tokens t) ≡ true = ap is_some found in
      cc)
  | inr past ↦ omega arith
]

true_by : (b : Bool) → not b ≡ false → b ≡ true
true_by true e = refl
true_by false e = cc

false_by : (b : Bool) → not b ≡ true → b ≡ false
false_by true e = cc
false_by false e = refl

-- whether row `rows` begins
ended_is : (bytes : List ℕ) (rows : ℕ) (u : Unread) → u ≡ later (1 + 4 * rows) (whole bytes)
    → has_ended u ≡ not (is_some (token_at (tokens_of bytes) (row_start rows)))
ended_is bytes rows u at =
    let e : 1 + (1 + 4 * rows) ≡ row_start rows = omega arith in
    ap has_ended at ∙ (ended_later (1 + 4 * rows) bytes ∙ ap (λ t. not (is_some (token_at (tokens_of bytes) t))) e)

-- the tokens of row `rows`
here_is : (w : Wanted) (bytes : List ℕ) (rows field : ℕ) (u : Unread) → u ≡ later (1 + 4 * rows) (whole bytes)
    → fault_here w (later field u) ≡ token_fault w (row_start rows + field) (token_at (tokens_of bytes) (row_start rows + field))
here_is w bytes rows field u at =
    let e : 1 + (1 + 4 * rows + field) ≡ row_start rows + field = omega arith in
    ap (λ v. fault_here w (later field v)) at ∙ (ap (fault_here w) (later-later field (1 + 4 * rows) (whole bytes))
    ∙ (fault_later w (1 + 4 * rows + field) bytes ∙ ap (λ t. token_fault w t (token_at (tokens_of bytes) t)) e))

value_is : (places : ℕ) (bytes : List ℕ) (rows field : ℕ) (u : Unread) → u ≡ later (1 + 4 * rows) (whole bytes)
    → value_here places (later field u) ≡ value_at (tokens_of bytes) places (row_start rows + field)
value_is places bytes rows field u at =
    let e : 1 + (1 + 4 * rows + field) ≡ row_start rows + field = omega arith in
    ap (λ v. value_here places (later field v)) at ∙ (ap (value_here places) (later-later field (1 + 4 * rows) (whole bytes))
    ∙ (value_later places (1 + 4 * rows + field) bytes ∙ ap (value_at (tokens_of bytes) places) e))

field_is : (n : ℕ) (bytes : List ℕ) (rows field : ℕ) (u : Unread) → field < 4 → u ≡ later (1 + 4 * rows) (whole bytes) → has_ended u ≡ false
    → row_fault n (tokens_of bytes) (row_start rows + field)
    ≡ or_else (fault_here (field_wanted n field) (later field u)) (cond (nat_eq field 3) (repeated_fault n (tokens_of bytes) rows) None)
field_is n bytes rows field u h at more =
    let tokens = tokens_of bytes in
    let t = row_start rows + field in
    let begins : is_some (token_at tokens (row_start rows)) ≡ true = true_by (is_some (token_at tokens (row_start rows))) (sym (ended_is bytes rows u at) ∙ more) in
    row_fault_is n tokens rows field t h refl
    ∙ (ap (λ b. cond b (field_fault n tokens rows field t) (end_fault n tokens field)) begins
    ∙ ap (λ f. or_else f (cond (nat_eq field 3) (repeated_fault n tokens rows) None)) (sym (here_is (field_wanted n field) bytes rows field u at)))

commodity_is : (n : ℕ) (bytes : List ℕ) (rows : ℕ) (u : Unread) → u ≡ later (1 + 4 * rows) (whole bytes)
    → commodity_here n u ≡ row_commodity n (tokens_of bytes) rows
unfolding commodity_here row_commodity
commodity_is n bytes rows u at =
    let e : row_start rows + 0 ≡ row_start rows = omega arith in
    let from : value_here 0 u ≡ value_at (tokens_of bytes) 0 (row_start rows) =
    sym (ap (value_here 0) (later-none u)) ∙ (value_is 0 bytes rows 0 u at ∙ ap (value_at (tokens_of bytes) 0) e) in
    let to = value_is 0 bytes rows 1 u at in
    λ i. (from i - 1) * n + (to i - 1)

listed_is : (bytes : List ℕ) (rows : ℕ) (u : Unread) → u ≡ later (1 + 4 * rows) (whole bytes) → listed_here u ≡ listed_at (tokens_of bytes) rows
unfolding listed_here listed_at
listed_is bytes rows u at =
    let flow = value_is 6 bytes rows 2 u at in
    let distance = value_is 3 bytes rows 3 u at in
    λ i. record { flow = flow i; distance = distance i }

-- what stands already, and what does not
is_some-map : {A B : Type 0} (f : A → B) (x : Option A) → is_some (option_map f x) ≡ is_some x
is_some-map f None = refl
is_some-map f (Some x) = refl

pub stands_is : (n : ℕ) (tokens : List Token) (m s : ℕ) (listed : Option Listed) → listed ≡ said n tokens m s → is_some listed ≡ has_row n tokens m s
stands_is n tokens m s listed e =
    let test = λ (r : ℕ). nat_eq (row_commodity n tokens r) s in
    ap is_some e ∙ (is_some-map (listed_at tokens) (find test (range_with_len 0 m)) ∙ sym (any-find test (range_with_len 0 m)))

repeated_is : (n : ℕ) (tokens : List Token) (rows : ℕ) (b : Bool) → has_row n tokens rows (row_commodity n tokens rows) ≡ b
    → repeated_fault n tokens rows ≡ cond b (Some (repeated (row_commodity n tokens rows / n) (row_commodity n tokens rows % n))) None
unfolding repeated_fault
repeated_is n tokens rows b has =
    ap (λ b. cond b (Some (repeated (row_commodity n tokens rows / n) (row_commodity n tokens rows % n))) None) has

-- one more row says
none_by : {A B : Type 0} (f : A → B) (x : Option A) → option_map f x ≡ None → x ≡ None
none_by f None e = refl
none_by f (Some x) e = cc

more_by : {A : Type 0} (f : ℕ → A) (m : ℕ) (b : Bool) (x : Option ℕ) → (b ≡ true → x ≡ None)
    → cond b (Some (f m)) (option_map f x) ≡ option_map f (option_or x (cond b (Some m) None))
more_by f m true None none = refl
more_by f m true (Some r) none = (let e : Some r ≡ None = none refl in cc)
more_by f m false None none = refl
more_by f m false (Some r) none = refl

said_more : (n : ℕ) (tokens : List Token) (m s : ℕ) → said n tokens m (row_commodity n tokens m) ≡ None
    → cond (nat_eq (row_commodity n tokens m) s) (Some (listed_at tokens m)) (said n tokens m s) ≡ said n tokens (m + 1) s
said_more n tokens m s fresh =
    let test = λ (r : ℕ). nat_eq (row_commodity n tokens r) s in
    more_by (listed_at tokens) m (nat_eq (row_commodity n tokens m) s) (find test (range_with_len 0 m))
    (λ same. none_by (listed_at tokens) (find test (range_with_len 0 m)) (ap (said n tokens m) (sym (eqb-true (row_commodity n tokens m) s same)) ∙ fresh))
    ∙ ap (option_map (listed_at tokens)) (sym (find_more test m))

-- the number of nodes
size_stretch : (n : ℕ) (bytes : List ℕ) → AreWanted (row_fault n (tokens_of bytes)) bytes a_size 0 1
unfolding row_fault
size_stretch n bytes = record { each = λ t past up. rw (le-leb t 1 (omega arith)) refl }

pub rows_begin : (bytes : List ℕ) (n : ℕ) (start r : Unread) (outcome : Result ℕ InstanceFault) (taken : Taken) → outcome ≡ Ok n → start ≡ whole bytes
    → told outcome ≡ fault_here a_size start → IfOk outcome (λ n. n ≡ value_here 0 start) → OnOk outcome (r ≡ later 1 start)
    → ((s : ℕ) → taken_at taken s ≡ None) → AreRowsRead bytes n r taken
rows_begin bytes n start r outcome taken ok at fault value moved empty =
    let tokens = tokens_of bytes in
    let none : fault_here a_size (later 0 (whole bytes)) ≡ None =
    ap (fault_here a_size) (later-none (whole bytes) ∙ sym at) ∙ (sym fault ∙ ap told ok) in
    let some : is_some (token_at tokens 1) ≡ true = size_there 1 (token_at tokens 1) (sym (fault_later a_size 0 bytes) ∙ none) in
    record {
      rows = 0;
      size = IfOk-at_ok (λ n. n ≡ value_here 0 start) ok value ∙ (ap (value_here 0) at ∙ size_is bytes);
      there = there_by tokens 1 (omega arith) some;
      read = read_one (row_fault n tokens) bytes a_size 0 start r outcome n (size_stretch n bytes) (read_nothing (row_fault n tokens) bytes start at) ok fault moved;
      holds = empty;
    }

pub size_refused : (o : Options) (bytes : List ℕ) (start : Unread) (outcome : Result ℕ InstanceFault) → start ≡ whole bytes
    → told outcome ≡ fault_here a_size start → IfErr outcome (λ f. IsRefused cab_rows o bytes (of_fault f))
size_refused o bytes start outcome at fault =
    let f = row_fault (file_size (tokens_of bytes)) (tokens_of bytes) in
    one_refused cab_rows o bytes a_size 0 start outcome (size_stretch (file_size (tokens_of bytes)) bytes) (read_nothing f bytes start at) fault

-- no token of a legal row has a fault
or_none : (a b : Option Fault) (c : Bool) → a ≡ None → b ≡ None → or_else a (cond c b None) ≡ None
or_none a b true e f = (λ i. or_else (e i) (f i))
or_none a b false e f = ap (λ a. or_else a None) e

row_none : (bytes : List ℕ) (n rows : ℕ) (u : Unread) → NoneUpTo (row_fault n (tokens_of bytes)) (1 + 4 * rows) → u ≡ later (1 + 4 * rows) (whole bytes)
    → has_ended u ≡ false → IsRowLegal n u → repeated_fault n (tokens_of bytes) rows ≡ None → NoneUpTo (row_fault n (tokens_of bytes)) (1 + 4 * (rows + 1))
row_none bytes n rows u none at more legal fresh t one up = elim (cases_lt (1 + 4 * rows) t) [
  | inl past ↦
      (let field = t - row_start rows in
      let within : field < 4 = omega arith in
      let e : row_start rows + field ≡ t = omega arith in
      let P : ℕ → Type 0 = λ t. row_fault n (tokens_of bytes) t ≡ None in
      subst P e (field_is n bytes rows field u within at more
      ∙ or_none _ (repeated_fault n (tokens_of bytes) rows) (nat_eq field 3) (legal.each field within) fresh))
  | inr before ↦ none t one before
]

pub row_more : (bytes : List ℕ) (n : ℕ) (u r : Unread) (old new : Taken) → AreRowsRead bytes n u old → has_ended u ≡ false → IsRowLegal n u
    → taken_at old (commodity_here n u) ≡ None → TakesIn old new (commodity_here n u) (listed_here u) → r ≡ later 4 u → AreRowsRead bytes n r new
row_more bytes n u r old new so_far more legal fresh takes moved =
    let tokens = tokens_of bytes in
    let rows = so_far.rows in
    let commodity = commodity_is n bytes rows u so_far.read.at in
    let listed = listed_is bytes rows u so_far.read.at in
    let first : taken_at old (row_commodity n tokens rows) ≡ None = ap (taken_at old) (sym commodity) ∙ fresh in
    let new_row : has_row n tokens rows (row_commodity n tokens rows) ≡ false =
    sym (stands_is n tokens rows (row_commodity n tokens rows) _ (so_far.holds (row_commodity n tokens rows))) ∙ ap is_some first in
    let some : is_some (token_at tokens (row_start rows + 3)) ≡ true =
    distance_there (row_start rows + 3) (token_at tokens (row_start rows + 3)) (sym (here_is a_distance bytes rows 3 u so_far.read.at) ∙ legal.each 3 (omega arith)) in
    let last : row_start rows + 3 ≤ length tokens = there_by tokens (row_start rows + 3) (omega arith) some in
    let e : 1 + 4 * rows + 4 ≡ 1 + 4 * (rows + 1) = omega arith in
    record {
      rows = rows + 1;
      size = so_far.size;
      there = omega arith;
      read = record {
        at = moved ∙ (ap (later 4) so_far.read.at ∙ (later-later 4 (1 + 4 * rows) (whole bytes) ∙ ap (λ k. later k (whole bytes)) e));
        none = row_none bytes n rows u so_far.read.none so_far.read.at more legal (repeated_is n tokens rows false new_row);
      };
      holds = λ s. takes s ∙ ((λ i. cond (nat_eq (commodity i) s) (Some (listed i)) (so_far.holds s i))
          ∙ said_more n tokens rows s (sym (so_far.holds (row_commodity n tokens rows)) ∙ first));
    }

-- the first fault, within a row
early_none : (bytes : List ℕ) (n rows : ℕ) (u : Unread) (field : ℕ) → NoneUpTo (row_fault n (tokens_of bytes)) (1 + 4 * rows)
    → u ≡ later (1 + 4 * rows) (whole bytes) → has_ended u ≡ false → field < 4
    → ((earlier : ℕ) → earlier < field → fault_here (field_wanted n earlier) (later earlier u) ≡ None)
    → (t : ℕ) → 1 ≤ t → t < row_start rows + field → row_fault n (tokens_of bytes) t ≡ None
early_none bytes n rows u field none at more within before t one below = elim (cases_lt (1 + 4 * rows) t) [
  | inl past ↦
      (let earlier = t - row_start rows in
      let less : earlier < field = omega arith in
      let e : row_start rows + earlier ≡ t = omega arith in
      let apart : nat_eq earlier 3 ≡ false = ne_eqb earlier 3 (omega arith) in
      let P : ℕ → Type 0 = λ t. row_fault n (tokens_of bytes) t ≡ None in
      subst P e (field_is n bytes rows earlier u (omega arith) at more
      ∙ (λ i. or_else (before earlier less i) (cond (apart i) (repeated_fault n (tokens_of bytes) rows) None))))
  | inr up ↦ none t one up
]

fault_first : (bytes : List ℕ) (n : ℕ) (u : Unread) (taken : Taken) (fault : Fault) → AreRowsRead bytes n u taken → has_ended u ≡ false
    → IsRowFault n u fault → IsFirstOf (row_fault n (tokens_of bytes)) fault
fault_first bytes n u taken fault so_far more stopped =
    let rows = so_far.rows in
    let field = stopped.field in
    let within : field < 4 = stopped.within in (
      row_start rows + field,
      record {
        counted = omega arith;
        here = field_is n bytes rows field u within so_far.read.at more
            ∙ ap (λ f. or_else f (cond (nat_eq field 3) (repeated_fault n (tokens_of bytes) rows) None)) stopped.here;
        before = early_none bytes n rows u field so_far.read.none so_far.read.at more within stopped.before;
      },
    )

repeat_first : (bytes : List ℕ) (n : ℕ) (u : Unread) (taken : Taken) (fault : Fault) → AreRowsRead bytes n u taken → has_ended u ≡ false
    → IsRepeat n u taken fault → IsFirstOf (row_fault n (tokens_of bytes)) fault
repeat_first bytes n u taken fault so_far more repeat =
    let tokens = tokens_of bytes in
    let rows = so_far.rows in
    let commodity = commodity_is n bytes rows u so_far.read.at in
    let stands : has_row n tokens rows (row_commodity n tokens rows) ≡ true =
    sym (stands_is n tokens rows (row_commodity n tokens rows) _ (so_far.holds (row_commodity n tokens rows)))
    ∙ ((λ i. is_some (taken_at taken (sym commodity i))) ∙ repeat.stands) in
    let told : repeated_fault n tokens rows ≡ Some fault =
    repeated_is n tokens rows true stands ∙ ((λ i. Some (repeated (sym commodity i / n) (sym commodity i % n))) ∙ ap (λ f. Some f) (sym repeat.is)) in (
      row_start rows + 3,
      record {
        counted = omega arith;
        here = field_is n bytes rows 3 u (omega arith) so_far.read.at more ∙ (λ i. or_else (repeat.legal.each 3 (omega arith) i) (told i));
        before = early_none bytes n rows u 3 so_far.read.none so_far.read.at more (omega arith) (λ earlier h. repeat.legal.each earlier (omega arith));
      },
    )

pub stopped_refused : (o : Options) (bytes : List ℕ) (n : ℕ) (refusal : Refusal) → n ≡ file_size (tokens_of bytes)
    → StoppedFirst (row_fault n (tokens_of bytes)) refusal → IsRefused cab_rows o bytes refusal
stopped_refused o bytes n refusal e stopped =
    let P : ℕ → Type 0 = λ m. StoppedFirst (row_fault m (tokens_of bytes)) refusal in is_refused cab_rows o bytes refusal (subst P e stopped)

pub row_refused : {A : Type 0} (o : Options) (bytes : List ℕ) (n : ℕ) (u : Unread) (taken : Taken) (outcome : Result A Refusal)
    → AreRowsRead bytes n u taken → has_ended u ≡ false → IfErr outcome (IsRowRefused n u taken) → IfErr outcome (IsRefused cab_rows o bytes)
row_refused o bytes n u taken (Ok value) so_far more stopped = tt
row_refused o bytes n u taken (Err OutOfMemory) so_far more stopped = tt
row_refused o bytes n u taken (Err (of_fault f)) so_far more (inl fault) =
    stopped_refused o bytes n (of_fault f) so_far.size (fault_first bytes n u taken (fault_of f) so_far more fault)
row_refused o bytes n u taken (Err (of_fault f)) so_far more (inr repeat) =
    stopped_refused o bytes n (of_fault f) so_far.size (repeat_first bytes n u taken (fault_of f) so_far more repeat)

-- the file ends behind a whole row
pub listing : (bytes : List ℕ) (n : ℕ) (u : Unread) (taken : Taken) → AreRowsRead bytes n u taken → has_ended u ≡ true → IsListing bytes n taken
listing bytes n u taken so_far ended =
    let tokens = tokens_of bytes in
    let rows = so_far.rows in
    let there = so_far.there in
    let gone : is_some (token_at tokens (row_start rows)) ≡ false = false_by (is_some (token_at tokens (row_start rows))) (sym (ended_is bytes rows u so_far.read.at) ∙ ended) in
    let short : length tokens < row_start rows = gone_by tokens (row_start rows) (omega arith) gone in
    let count : rows ≡ row_count tokens = omega arith in
    record {
      size = so_far.size;
      whole_rows = omega arith;
      legal = λ t one up. so_far.read.none t one (omega arith);
      holds = λ s. so_far.holds s ∙ ap (λ m. said n tokens m s) count;
    }

-- each row leaves fewer tokens
some_left : (tokens : List Token) → not (is_some (slice_get tokens 0)) ≡ false → 0 < length tokens
some_left [] e = cc
some_left (t ∷ tokens) e = omega arith

pub fewer_left : (u r : Unread) → has_ended u ≡ false → r ≡ later 4 u → length r.tokens < length u.tokens
unfolding has_ended later
fewer_left u r more moved =
    let some : 0 < length u.tokens = some_left u.tokens more in
    let left : length r.tokens ≡ length (drop 4 u.tokens) = (λ i. length ((moved i).tokens)) in
    omega (arith, length-drop 4 u.tokens)

-- no rows are taken yet
pub none_taken : (taken : Taken) → taken.entries ≡ [] → (s : ℕ) → taken_at taken s ≡ None
none_taken taken empty s = ap (lookup (is_at (nat_cmp s))) empty
