-- What number a token writes: a decimal cut to so many places, and a count.
use Rattle.std.specs.Prelude.{ℕ, ◌+◌, ◌*◌, ◌/◌, ◌^◌, min, Bool, true, false, not, ◌&&◌, ◌||◌, if◌then◌else◌, ◌==◌, nat_le, nat_lt, List, [], ◌∷◌, ◌++◌, length, slice_index, ℤ, pos, neg_ℤ, Option, Some, None}
use Rattle.std.specs.List.{list_any, list_all, before_first, after_first}
use Rattle.std.specs.Char.{is_ascii_digit}
use Rattle.std.specs.Str.Parse.{digits_value}

-- `+` or `-`
abbrev pub is_sign : ℕ → Bool
is_sign byte = (byte == 43) || (byte == 45)

-- `.`
abbrev pub is_point : ℕ → Bool
is_point byte = byte == 46

-- `e` or `E`
abbrev pub is_exponent_mark : ℕ → Bool
is_exponent_mark byte = (byte == 101) || (byte == 69)

-- the bytes begin with `-`
abbrev pub is_negative : List ℕ → Bool
is_negative [] = false
is_negative (b ∷ bytes) = b == 45

-- the bytes without a leading sign
abbrev pub unsigned : List ℕ → List ℕ
unsigned [] = []
unsigned (b ∷ bytes) = if is_sign b then bytes else b ∷ bytes

-- the part before the exponent's mark, as `12.5` of `-12.5e+3`
abbrev pub mantissa : List ℕ → List ℕ
mantissa token = before_first is_exponent_mark (unsigned token)

-- what stands before the point, as `12` of `-12.5e+3`
abbrev pub whole_part : List ℕ → List ℕ
whole_part token = before_first is_point (mantissa token)

-- what stands behind the point, as `5` of `-12.5e+3`
abbrev pub fraction : List ℕ → List ℕ
fraction token = after_first is_point (mantissa token)

-- what stands behind the exponent's mark, as `+3` of `-12.5e+3`
abbrev pub exponent : List ℕ → List ℕ
exponent token = after_first is_exponent_mark (unsigned token)

-- the digits of the whole part and of the fraction, in a row
abbrev pub digits_of_both : List ℕ → List ℕ
digits_of_both token = whole_part token ++ fraction token

-- one digit or more, and nothing else
abbrev pub are_digits : List ℕ → Bool
are_digits bytes = nat_lt 0 (length bytes) && list_all is_ascii_digit bytes

-- an exponent is an optional sign and one to three digits
abbrev pub is_exponent : List ℕ → Bool
is_exponent bytes = are_digits (unsigned bytes) && nat_le (length (unsigned bytes)) 3

-- the token has an exponent that is one, or has none
abbrev pub has_good_exponent : List ℕ → Bool
has_good_exponent token = if list_any is_exponent_mark (unsigned token) then is_exponent (exponent token) else true

-- the token is a decimal number of at most 40 bytes
abbrev pub is_decimal : List ℕ → Bool
is_decimal token = nat_le (length token) 40 && (are_digits (digits_of_both token) && has_good_exponent token)

-- by how many tens the exponent multiplies: its value, or 0 where it is negative
abbrev pub exponent_up : List ℕ → ℕ
exponent_up token = if is_negative (exponent token) then 0 else digits_value 10 (unsigned (exponent token))

-- by how many tens the exponent divides: its magnitude where it is negative, or else 0
abbrev pub exponent_down : List ℕ → ℕ
exponent_down token = if is_negative (exponent token) then digits_value 10 (unsigned (exponent token)) else 0

-- no magnitude is above this one
abbrev pub largest_magnitude : ℕ
largest_magnitude = 10 ^ 30

-- the token's number without its sign, in units of 10^-places, cut to a whole one
abbrev pub magnitude : ℕ → List ℕ → ℕ
magnitude places token = min largest_magnitude
    (digits_value 10 (digits_of_both token) * 10 ^ (places + exponent_up token) / 10 ^ (length (fraction token) + exponent_down token))

-- the token's number in units of 10^-places, cut toward zero, or none where it is no number
unfoldable pub decimal_value : ℕ → List ℕ → Option ℤ
decimal_value places token =
    if is_decimal token
    then Some (if is_negative token then neg_ℤ (pos (magnitude places token)) else pos (magnitude places token))
    else None

-- digits, of which the first is no zero unless it is the only one
abbrev pub is_count : List ℕ → Bool
is_count bytes = are_digits bytes && not (slice_index bytes 0 == 48 && nat_lt 1 (length bytes))

-- the count that the bytes write, where it is one from least to most
unfoldable pub count_value : ℕ → ℕ → List ℕ → Option ℕ
count_value least most bytes =
    if is_count bytes && (nat_le least (digits_value 10 bytes) && nat_le (digits_value 10 bytes) most)
    then Some (digits_value 10 bytes)
    else None
