-- What is left of a dual.
use Rattle.std.proofs.Common.{◌≡◌, ℕ, ◌<◌, ◌≤◌, true, false, List, length, drop, Some, ap}
use Rattle.std.proofs.lemmas.List.{drop_all, drop_more}
use Rattle.cert_scan.specs.Repeats.{is_repeated}

-- nothing is left behind all pairs
pub none_behind : (xs : List (ℕ × ℕ)) (k : ℕ) → length xs ≤ k → is_repeated (Some (drop k xs)) ≡ true
none_behind xs k all = ap (λ l. is_repeated (Some l)) (drop_all k xs all)

-- and something is behind fewer
pub some_behind : (xs : List (ℕ × ℕ)) (k : ℕ) → k < length xs → is_repeated (Some (drop k xs)) ≡ false
some_behind xs k few = ap (λ l. is_repeated (Some l)) (drop_more xs k (0, 0) few)
