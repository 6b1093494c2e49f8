-- Files in memory: the first of a name, and what is read of one.
use Rattle.std.proofs.Common.{◌≡◌, ◌<◌, ℕ, ◌+◌, ◌-◌, min, List, ◌++◌, length, take, drop, Bool, true, false, cond, Option, None, Some, IsSome, inl, inr, nat_lt, refl, sym, subst, ap, ◌∙◌, arith, length-take, length-drop, take-append-drop}
use Rattle.std.specs.Prelude.{option_map, find, position, slice_get}
use Rattle.std.proofs.lemmas.List.{drop-drop, drop_all}
use Rattle.std.proofs.lemmas.List.Folds.{find_at}
use Rattle.std.proofs.lemmas.Option.{slice_get_cases, slice_get_past}
use Rattle.std.proofs.lemmas.Grind.{common_steps}
use Rattle.std.proofs.Math.Seq.{take-append_seam}
use Rattle.std.specs.List.{position_or_len}
use Rattle.hub_io.specs.MemShelf.{has_name, Finds}
use Rattle.hub_io.specs.declared.mem_shelf.MemFile.{MemFile}
use borrow.Author.Tests.{ltb-true, ltb-false}

-- an index within the list has an element
some_within : {A B : Type 0} (f : A → B) (xs : List A) (k : ℕ) → k < length xs → IsSome (option_map f (slice_get xs k))
some_within f xs k h = elim (slice_get_cases xs k).1 as (λ _. IsSome (option_map f (slice_get xs k))) [
  | inl w ↦ rw (w.2) refl
  | inr w ↦ absurd (omega (arith, w.0))
]

module _ (files : List MemFile) (name : List ℕ) where
  -- by whether the index of the first file of that name is within the list
  named_by : (k : ℕ) → find (has_name name) files ≡ slice_get files k → (b : Bool) → nat_lt k (length files) ≡ b → Finds files name (cond b (Some k) None)
  named_by k at true e = (some_within (λ (f : MemFile). drop 0 f.bytes.items) files k (ltb-true k (length files) e), ap (option_map (λ f. f.bytes.items)) at)
  named_by k at false e = ap (option_map (λ f. f.bytes.items)) (at ∙ slice_get_past files k (ltb-false k (length files) e))

  -- what `position` finds is what `held_bytes` finds
  pub first_named : (found : Option ℕ) → found ≡ position (has_name name) files → Finds files name found
  first_named found e = let p = has_name name in subst (Finds files name) (sym e) (named_by (position_or_len p files) (find_at p files) (nat_lt (position_or_len p files) (length files)) refl)

-- nothing follows the end
drop-min : (bytes : List ℕ) (byte : ℕ) → drop byte bytes ≡ drop (min byte (length bytes)) bytes
drop-min bytes byte = grind (arith, common_steps, drop_all)

-- the prefix that was copied, and what follows it
pub copied : (bytes into front : List ℕ) (byte start count : ℕ) → start ≡ min byte (length bytes) → count ≡ min (length into) (length bytes - start)
    → front ≡ take ((start + count) - start) (drop start bytes) → drop byte bytes ≡ take count (front ++ drop count into) ++ drop (start + count) bytes
copied bytes into front byte start count s c f =
    let same : front ≡ take count (drop start bytes) = f ∙ ap (λ n. take n (drop start bytes)) (omega arith) in
    let size : length front ≡ count = ap length same ∙ length-take count (drop start bytes) ∙ omega (arith, length-drop start bytes) in
    drop-min bytes byte ∙ ap (λ n. drop n bytes) (sym s) ∙ sym (take-append-drop count (drop start bytes)) ∙ ap (λ l. l ++ drop count (drop start bytes)) (sym same)
    ∙ ap (λ l. front ++ l) (drop-drop count start bytes)
    ∙ ap (λ l. l ++ drop (start + count) bytes) (sym (ap (λ n. take n (front ++ drop count into)) (sym size) ∙ take-append_seam front (drop count into)))
