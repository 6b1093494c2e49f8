-- How puts through a buffer follow each other.
use Rattle.std.proofs.Common.{◌≡◌, ℕ, List, [], ◌++◌, Option, Result, Ok, Err, IsOk, IsErr, OnOk, sym, ap, subst, ◌∙◌, append_assoc, append-nil, arith, rules}
use Rattle.std.specs.Io.KnownBytes.{Appends}
use Rattle.std.proofs.KnownBytes.{Appends-trans, Appends-nil}
use Rattle.hub_io.specs.Outside.{Puts, PutsThrough, AppendsFront}

-- a prefix of a text is one of a longer text
front_of_more : (old new : Option (List ℕ)) (a b : List ℕ) → AppendsFront old new a → AppendsFront old new (a ++ b)
front_of_more old new a b f = (f.0, f.1 ++ b, sym (append_assoc f.0 f.1 b) ∙ ap (λ l. l ++ b) f.2, f.3)

-- an empty text is put by doing nothing
pub through_none : {K E : Type 0} {taken : K → Option (List ℕ)} {faults : K → ℕ} (at : K) (waiting : List ℕ) → PutsThrough {E = E} taken faults at at waiting waiting (Ok tt) []
through_none {taken = taken} at waiting = record { whole = ([], sym (append-nil waiting), Appends-nil (taken at)); front = tt; later = omega arith; failed = tt }

-- what was taken is joined to what is taken of the rest and the next text
module _ (front rest waiting a : List ℕ) (split : front ++ rest ≡ waiting ++ a) where
  split_more : (more end b : List ℕ) → more ++ end ≡ rest ++ b → (front ++ more) ++ end ≡ waiting ++ (a ++ b)
  split_more more end b e =
      append_assoc front more end ∙ ap (λ l. front ++ l) e ∙ sym (append_assoc front rest b) ∙ ap (λ l. l ++ b) split ∙ append_assoc waiting a b

module _ {K E : Type 0} {taken : K → Option (List ℕ)} {faults : K → ℕ} where
  -- a text was put whole, and then a second one was put
  pub through_on : (first mid last : K) (waiting between rest a b : List ℕ) (r s : Result (Unit {0}) E) → IsOk r → PutsThrough taken faults first mid waiting between r a
      → PutsThrough taken faults mid last between rest s b → PutsThrough taken faults first last waiting rest s (a ++ b)
  through_on first mid last waiting between rest a b (Ok x) (Ok y) ok p q =
      let f = p.whole in
      let g = q.whole in
      record {
        whole = (f.0 ++ g.0, split_more f.0 between waiting a f.1 g.0 rest b g.1, Appends-trans (taken first) (taken mid) (taken last) f.0 g.0 f.2 g.2);
        front = tt;
        later = omega arith;
        failed = tt;
      }
  through_on first mid last waiting between rest a b (Ok x) (Err e) ok p q =
      let f = p.whole in
      let g = q.front in
      record {
        whole = tt;
        front = (f.0 ++ g.0, g.1, split_more f.0 between waiting a f.1 g.0 g.1 b g.2, Appends-trans (taken first) (taken mid) (taken last) f.0 g.0 f.2 g.3);
        later = omega arith;
        failed = omega (arith, p.later, q.failed);
      }
  through_on first mid last waiting between rest a b (Err e) s ok p q = absurd (search (rules, ok))

  -- a text was not put whole, so no more was put
  pub through_stop : (first last : K) (waiting between rest a b : List ℕ) (r s : Result (Unit {0}) E) → IsErr r → IsErr s → PutsThrough taken faults first last waiting between r a
      → PutsThrough taken faults first last waiting rest s (a ++ b)
  through_stop first last waiting between rest a b (Err e) (Err d) no_r no_s p =
      record { whole = tt; front = subst (AppendsFront (taken first) (taken last)) (append_assoc waiting a b) (front_of_more (taken first) (taken last) (waiting ++ a) b p.front); later = p.later; failed = p.failed }
  through_stop first last waiting between rest a b (Ok x) s no_r no_s p = absurd (search (rules, no_r))
  through_stop first last waiting between rest a b (Err e) (Ok y) no_r no_s p = absurd (search (rules, no_s))

  -- where nothing waited and nothing waits, a text that was put on the sink was put through the buffer
  pub through_straight : (first last : K) (waiting text : List ℕ) (r : Result (Unit {0}) E) → waiting ≡ [] → Puts taken faults first last r text
      → PutsThrough taken faults first last waiting waiting r text
  through_straight first last waiting text (Ok x) none p = record { whole = (text, rw none (append-nil text), p.whole); front = tt; later = p.later; failed = tt }
  through_straight first last waiting text (Err e) none p = record { whole = tt; front = rw none p.front; later = p.later; failed = p.failed }

  -- and the other way round
  pub through_done : (first last : K) (waiting rest text : List ℕ) (r : Result (Unit {0}) E) → waiting ≡ [] → OnOk r (rest ≡ [])
      → PutsThrough taken faults first last waiting rest r text → Puts taken faults first last r text
  through_done first last waiting rest text (Ok x) none all p =
      let f = p.whole in
      let same : f.0 ≡ text = sym (append-nil f.0) ∙ ap (λ l. f.0 ++ l) (sym all) ∙ f.1 ∙ ap (λ l. l ++ text) none in
      record { whole = subst (Appends (taken first) (taken last)) same f.2; front = tt; later = p.later; failed = tt }
  through_done first last waiting rest text (Err e) none all p =
      record { whole = tt; front = subst (AppendsFront (taken first) (taken last)) (ap (λ l. l ++ text) none) p.front; later = p.later; failed = p.failed }

  -- a text was put whole through a buffer in which nothing waited, and then what waits was put
  pub through_finish : (first mid last : K) (waiting between rest text : List ℕ) (r s : Result (Unit {0}) E) → IsOk r → waiting ≡ [] → OnOk s (rest ≡ [])
      → PutsThrough taken faults first mid waiting between r text → PutsThrough taken faults mid last between rest s [] → Puts taken faults first last s text
  through_finish first mid last waiting between rest text r s ok none all p q =
      through_done first last waiting rest text s none all
      (subst (PutsThrough taken faults first last waiting rest s) (append-nil text) (through_on first mid last waiting between rest text [] r s ok p q))
