-- Within which limits a count is.
use Rattle.std.proofs.Common.{◌≡◌, ℕ, ◌≤◌, ◌&&◌, Bool, true, false, List, Some, None, if◌then◌else◌, nat_le, refl, arith}
use Rattle.std.specs.Prelude.{IfSome}
use Rattle.std.specs.Str.Parse.{digits_value}
use Rattle.std.proofs.lemmas.Grind.{common_steps}
use Rattle.text_spec.specs.Numbers.{count_value, is_count}

where_true : (b : Bool) (v least most : ℕ) → (b ≡ true → (least ≤ v) × (v ≤ most)) → IfSome (if b then Some v else None) (λ n. (least ≤ n) × (n ≤ most))
where_true true v least most h = h refl
where_true false v least most h = tt

between : (b : Bool) (v least most : ℕ) → (b && (nat_le least v && nat_le v most)) ≡ true → (least ≤ v) × (v ≤ most)
between b v least most e = (grind (arith, common_steps), grind (arith, common_steps))

pub count_limits : (least most : ℕ) (word : List ℕ) → IfSome (count_value least most word) (λ n. (least ≤ n) × (n ≤ most))
unfolding count_value
count_limits least most word =
    where_true (is_count word && (nat_le least (digits_value 10 word) && nat_le (digits_value 10 word) most)) (digits_value 10 word) least most
    (between (is_count word) (digits_value 10 word) least most)
