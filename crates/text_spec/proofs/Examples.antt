-- Worked values of the definitions: of decimals at 6 places, of other places, of counts, and of prints.
use Rattle.std.proofs.Common.{◌≡◌, ◌^◌, refl, Some, None, pos, neg_ℤ}
use Rattle.std.specs.Prelude.{codes}
use Rattle.std.specs.Fmt.{digits}
use Rattle.text_spec.specs.Fixed.{fixed_text}
use Rattle.text_spec.specs.Numbers.{decimal_value, count_value}

exponent_up : decimal_value 6 (codes "1.5e2") ≡ Some (pos 150000000)
unfolding decimal_value
exponent_up = refl

no_whole_part : decimal_value 6 (codes ".5") ≡ Some (pos 500000)
unfolding decimal_value
no_whole_part = refl

no_fraction : decimal_value 6 (codes "5.") ≡ Some (pos 5000000)
unfolding decimal_value
no_fraction = refl

cut_to_one : decimal_value 6 (codes "0.0000019") ≡ Some (pos 1)
unfolding decimal_value
cut_to_one = refl

below_the_places : decimal_value 6 (codes "1e-7") ≡ Some (pos 0)
unfolding decimal_value
below_the_places = refl

minus_zero : decimal_value 6 (codes "-0") ≡ Some (pos 0)
unfolding decimal_value
minus_zero = refl

minus_nearly_zero : decimal_value 6 (codes "-0.0000001") ≡ Some (pos 0)
unfolding decimal_value
minus_nearly_zero = refl

capped : decimal_value 6 (codes "1e999") ≡ Some (pos (10 ^ 30))
unfolding decimal_value
capped = refl

far_below : decimal_value 6 (codes "1e-999") ≡ Some (pos 0)
unfolding decimal_value
far_below = refl

negative : decimal_value 6 (codes "-2.5") ≡ Some (neg_ℤ (pos 2500000))
unfolding decimal_value
negative = refl

plus : decimal_value 6 (codes "+12.25E+1") ≡ Some (pos 122500000)
unfolding decimal_value
plus = refl

zero_up : decimal_value 6 (codes "0e999") ≡ Some (pos 0)
unfolding decimal_value
zero_up = refl

just_under_the_cap : decimal_value 6 (codes "999999999999999999999999.999999") ≡ Some (pos 999999999999999999999999999999)
unfolding decimal_value
just_under_the_cap = refl

forty_digits : decimal_value 6 (codes "0000000000000000000000000000000000000007") ≡ Some (pos 7000000)
unfolding decimal_value
forty_digits = refl

point_alone : decimal_value 6 (codes ".") ≡ None
unfolding decimal_value
point_alone = refl

no_exponent_digits : decimal_value 6 (codes "1e") ≡ None
unfolding decimal_value
no_exponent_digits = refl

other_letter : decimal_value 6 (codes "1x") ≡ None
unfolding decimal_value
other_letter = refl

empty : decimal_value 6 (codes "") ≡ None
unfolding decimal_value
empty = refl

too_long : decimal_value 6 (codes "11111111111111111111111111111111111111111") ≡ None
unfolding decimal_value
too_long = refl

long_exponent : decimal_value 6 (codes "1e1000") ≡ None
unfolding decimal_value
long_exponent = refl

sign_alone : decimal_value 6 (codes "+") ≡ None
unfolding decimal_value
sign_alone = refl

two_signs : decimal_value 6 (codes "--1") ≡ None
unfolding decimal_value
two_signs = refl

two_points : decimal_value 6 (codes "1.2.3") ≡ None
unfolding decimal_value
two_points = refl

point_in_exponent : decimal_value 6 (codes "1e2.0") ≡ None
unfolding decimal_value
point_in_exponent = refl

two_exponents : decimal_value 6 (codes "1e2e3") ≡ None
unfolding decimal_value
two_exponents = refl

no_mantissa : decimal_value 6 (codes "e5") ≡ None
unfolding decimal_value
no_mantissa = refl

no_places : decimal_value 0 (codes "-12.9e0") ≡ Some (neg_ℤ (pos 12))
unfolding decimal_value
no_places = refl

two_places : decimal_value 2 (codes "12.999") ≡ Some (pos 1299)
unfolding decimal_value
two_places = refl

capped_at_no_places : decimal_value 0 (codes "-1e31") ≡ Some (neg_ℤ (pos (10 ^ 30)))
unfolding decimal_value
capped_at_no_places = refl

count : count_value 1 99 (codes "42") ≡ Some 42
unfolding count_value
count = refl

count_zero : count_value 0 9 (codes "0") ≡ Some 0
unfolding count_value
count_zero = refl

count_least : count_value 5 9 (codes "5") ≡ Some 5
unfolding count_value
count_least = refl

count_below : count_value 5 9 (codes "4") ≡ None
unfolding count_value
count_below = refl

count_above : count_value 5 9 (codes "10") ≡ None
unfolding count_value
count_above = refl

count_leading_zero : count_value 0 9 (codes "01") ≡ None
unfolding count_value
count_leading_zero = refl

count_signed : count_value 0 9 (codes "+1") ≡ None
unfolding count_value
count_signed = refl

count_empty : count_value 0 9 (codes "") ≡ None
unfolding count_value
count_empty = refl

fixed_zero : fixed_text 6 0 ≡ codes "0.000000"
unfolding fixed_text digits
fixed_zero = refl

fixed_one : fixed_text 6 1 ≡ codes "0.000001"
unfolding fixed_text digits
fixed_one = refl

fixed_wide : fixed_text 12 123000000000045 ≡ codes "123.000000000045"
unfolding fixed_text digits
fixed_wide = refl
