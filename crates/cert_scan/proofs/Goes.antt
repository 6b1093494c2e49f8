-- A scan without what it holds of the last dual: it takes each dual that may stand alone, also one that repeats the one before it. How
-- bytes lead it from one state to another.
use Rattle.std.specs.Prelude.{ℕ, List, [], ◌∷◌, ◌++◌, Option, option_to_list}
use Rattle.cert_scan.specs.Moves.{moved_by, move, with_digit_of, spelled_by, nearly_longest, taken_by}
use Rattle.cert_scan.specs.Scans.{new_shape, shape_by, line_by}
use Rattle.cert_scan.specs.declared.items.Item.{Item}
use Rattle.cert_scan.specs.declared.bytes.Position.{Position}
use Rattle.cert_scan.specs.declared.bytes.Position.TheVariants.{Start, Number}
use Rattle.cert_scan.specs.declared.stages.Shape.{Shape}
use Rattle.cert_scan.specs.declared.stages.Stage.TheVariants.{Version}
use Rattle.cert_scan.specs.declared.scanner.Scan.{Scan}
use Rattle.std.proofs.Common.{◌≡◌, ℕ, ◌+◌, ◌*◌, ◌/◌, ◌%◌, ◌^◌, ◌<◌, ◌≤◌, true, false, ◌&&◌, List, [], ◌∷◌, ◌++◌, decimal, Option, Some, None, nat_lt, nat_le, refl, sym, ap, ◌∙◌, append_assoc, append-nil, arith}
use Rattle.std.proofs.lemmas.Fmt.{decimal_by_steps_wide}
use Rattle.std.proofs.lemmas.Bool.{and_from, cond-true, le-leb, lt-ltb}
use Rattle.cert_scan.specs.declared.bytes.ScanMove.{ScanMove}
use Rattle.cert_scan.specs.declared.places.Place.{Place}

pub record Walk : Type 0 where
  pub shape : Shape
  pub line : ℕ
  pub position : Position

-- of a scan
abbrev pub walk_of : Scan → Walk
walk_of scan = record { shape = scan.shape; line = scan.line; position = scan.position }

-- of no bytes
abbrev pub new_walk : Walk
new_walk = record { shape = new_shape; line = 1; position = Start Version }

-- the item that a byte gives, if any
abbrev pub given_by : Walk → ℕ → Option Item
given_by walk byte = (moved_by walk.shape walk.position byte).item

-- the walk with one byte more
abbrev pub stepped : Walk → ℕ → Walk
stepped walk byte =
    let next = moved_by walk.shape walk.position byte in
    record { shape = shape_by walk.shape next.item; line = line_by walk.line next.position; position = next.position }

-- the walk after these bytes
abbrev pub scanned : Walk → List ℕ → Walk
scanned walk [] = walk
scanned walk (byte ∷ bytes) = scanned (stepped walk byte) bytes

-- the items that they give
abbrev pub given_all : Walk → List ℕ → List Item
given_all walk [] = []
given_all walk (byte ∷ bytes) = option_to_list (given_by walk byte) ++ given_all (stepped walk byte) bytes

-- the bytes lead from a to b, and give these items
pub record Goes (a : Walk) (bytes : List ℕ) (given : List Item) (b : Walk) : Type 0 where
  pub scan : scanned a bytes ≡ b
  pub items : given_all a bytes ≡ given

pub scanned-append : (a : Walk) (xs ys : List ℕ) → scanned a (xs ++ ys) ≡ scanned (scanned a xs) ys
scanned-append a [] ys = refl
scanned-append a (x ∷ xs) ys = scanned-append (stepped a x) xs ys

pub given_all-append : (a : Walk) (xs ys : List ℕ) → given_all a (xs ++ ys) ≡ given_all a xs ++ given_all (scanned a xs) ys
given_all-append a [] ys = refl
given_all-append a (x ∷ xs) ys =
    ap (λ l. option_to_list (given_by a x) ++ l) (given_all-append (stepped a x) xs ys)
    ∙ sym (append_assoc (option_to_list (given_by a x)) (given_all (stepped a x) xs) (given_all (scanned a (x ∷ xs)) ys))

pub goes_append : (a b c : Walk) (xs ys : List ℕ) (g h : List Item) → Goes a xs g b → Goes b ys h c → Goes a (xs ++ ys) (g ++ h) c
goes_append a b c xs ys g h first next = record {
  scan = scanned-append a xs ys ∙ ap (λ s. scanned s ys) first.scan ∙ next.scan;
  items = given_all-append a xs ys ∙ (λ i. first.items i ++ given_all (first.scan i) ys) ∙ ap (λ l. g ++ l) next.items;
}

pub nil_front : (xs ys : List Item) → xs ++ ys ≡ [] → xs ≡ []
nil_front [] ys e = refl
nil_front (x ∷ xs) ys e = cc

-- a walk at a position
abbrev pub state : Shape → ℕ → Position → Walk
state sh line position = record { shape = sh; line = line; position = position }

-- the walk after a move
abbrev pub moved : Shape → ℕ → ScanMove → Walk
moved sh line next = state (shape_by sh next.item) (line_by line next.position) next.position

pub goes_byte : (sh : Shape) (line : ℕ) (position : Position) (byte : ℕ) (next : ScanMove) → moved_by sh position byte ≡ next
    → Goes (state sh line position) (byte ∷ []) (option_to_list next.item) (moved sh line next)
goes_byte sh line position byte next e = record { scan = ap (moved sh line) e; items = append-nil _ ∙ ap (λ (m : ScanMove). option_to_list m.item) e }

-- a digit goes on with a number
number_digit : (sh : Shape) (place : Place) (value : Option ℕ) (digit : ℕ) → digit < 10
    → moved_by sh (Number place value) (48 + digit) ≡ spelled_by place (with_digit_of value digit)
number_digit sh place value digit low =
    cond-true (nat_le 48 (48 + digit) && nat_le (48 + digit) 57) _ _
    (and_from (nat_le 48 (48 + digit)) (nat_le (48 + digit) 57) (le-leb 48 (48 + digit) (omega arith)) (le-leb (48 + digit) 57 (omega arith)))
    ∙ ap (λ d. spelled_by place (with_digit_of value d)) (omega arith)

more_digits : (value digit limit : ℕ) → 1 ≤ value → value < limit
    → (nat_le 1 value && nat_lt value limit) ≡ true
more_digits value digit limit some few = and_from (nat_le 1 value) (nat_lt value limit) (le-leb 1 value some) (lt-ltb value limit few)

pub with_digit-more : (value digit : ℕ) → 1 ≤ value → value < nearly_longest → with_digit_of (Some value) digit ≡ Some (value * 10 + digit)
with_digit-more value digit some few = cond-true _ _ _ (more_digits value digit nearly_longest some few)

-- the digits of a number lead from none to all
GoesNumber : Shape → ℕ → Place → ℕ → List ℕ → Type 0
GoesNumber sh line place m digits = m < 10 ^ 33 → Goes (state sh line (Number place None)) digits [] (state sh line (Number place (Some m)))

one_digit : (sh : Shape) (line : ℕ) (place : Place) (m : ℕ) → m < 10 → GoesNumber sh line place m ((48 + m) ∷ [])
unfolding GoesNumber
one_digit sh line place m low short =
    goes_byte sh line (Number place None) (48 + m) (move (Number place (Some m)) None) (number_digit sh place None m low)

next_digit : (sh : Shape) (line : ℕ) (place : Place) (m : ℕ) (digits : List ℕ) → 10 ≤ m → GoesNumber sh line place (m / 10) digits
    → GoesNumber sh line place m (digits ++ ((48 + m % 10) ∷ []))
unfolding GoesNumber
next_digit sh line place m digits high front short =
    let tail = goes_byte sh line (Number place (Some (m / 10))) (48 + m % 10) (move (Number place (Some m)) None)
    (number_digit sh place (Some (m / 10)) (m % 10) (omega arith)
    ∙ ap (spelled_by place) (with_digit-more (m / 10) (m % 10) (omega arith) (omega arith))
    ∙ ap (λ v. move (Number place (Some v)) None) (omega arith)) in
    goes_append (state sh line (Number place None)) (state sh line (Number place (Some (m / 10)))) (state sh line (Number place (Some m))) digits ((48 + m % 10) ∷ []) [] [] (front (omega arith)) tail

pub goes_number : (sh : Shape) (line : ℕ) (place : Place) (m : ℕ) → m < 10 ^ 33 → Goes (state sh line (Number place None)) (decimal m) [] (state sh line (Number place (Some m)))
unfolding GoesNumber
goes_number sh line place m short = decimal_by_steps_wide (GoesNumber sh line place) (one_digit sh line place) (next_digit sh line place) m (omega arith) short

-- and the byte behind it takes the number
pub goes_taken : (sh : Shape) (line : ℕ) (place : Place) (m : ℕ) (next : ScanMove) → m < 10 ^ 33 → taken_by sh place m false ≡ next
    → Goes (state sh line (Number place None)) (decimal m ++ 32 ∷ []) (option_to_list next.item) (moved sh line next)
goes_taken sh line place m next short e =
    goes_append (state sh line (Number place None)) (state sh line (Number place (Some m))) (moved sh line next) (decimal m) (32 ∷ []) [] (option_to_list next.item)
    (goes_number sh line place m short) (goes_byte sh line (Number place (Some m)) 32 next e)

pub goes_last : (sh : Shape) (line : ℕ) (place : Place) (m : ℕ) (next : ScanMove) → m < 10 ^ 33 → taken_by sh place m true ≡ next
    → Goes (state sh line (Number place None)) (decimal m ++ 10 ∷ []) (option_to_list next.item) (moved sh line next)
goes_last sh line place m next short e =
    goes_append (state sh line (Number place None)) (state sh line (Number place (Some m))) (moved sh line next) (decimal m) (10 ∷ []) [] (option_to_list next.item)
    (goes_number sh line place m short) (goes_byte sh line (Number place (Some m)) 10 next e)
