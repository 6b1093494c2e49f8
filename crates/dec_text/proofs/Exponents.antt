-- When bytes are an exponent, and by how many tens a token's exponent goes.
use Rattle.std.proofs.Common.{◌≡◌, ℕ, ◌<◌, ◌≤◌, true, ◌&&◌, List, length, nat_lt, nat_le, ap, sym, ◌∙◌, lt-ltb, le-leb}
use Rattle.std.specs.List.{list_all}
use Rattle.std.specs.Char.{is_ascii_digit}
use Rattle.std.proofs.lemmas.Bool.{and_from}
use Rattle.text_spec.specs.Numbers.{unsigned, is_exponent}

pub exponent_is : (bytes digits : List ℕ) → digits ≡ unsigned bytes → 0 < length digits → length digits ≤ 3 → list_all is_ascii_digit digits ≡ true → is_exponent bytes ≡ true
exponent_is bytes digits e some short all =
    ap (λ ds. nat_lt 0 (length ds) && list_all is_ascii_digit ds && nat_le (length ds) 3) (sym e)
    ∙ and_from (nat_lt 0 (length digits) && list_all is_ascii_digit digits) (nat_le (length digits) 3) (and_from (nat_lt 0 (length digits)) (list_all is_ascii_digit digits) (lt-ltb 0 (length digits) some) all) (le-leb (length digits) 3 short)
