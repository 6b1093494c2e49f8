-- Texts that are put one behind the other through a buffer.
use Rattle.std.proofs.Common.{◌≡◌, ℕ, ◌+◌, ◌<◌, ◌≤◌, List, [], ◌++◌, Option, Result, Ok, Err, IsOk, IsErr, OnOk, length, drop, flat_map, get_or, sym, ap, ◌∙◌, subst, rules}
use Rattle.std.proofs.lemmas.List.{at_drop_more, at_drop_all}
use Rattle.hub_io.specs.Outside.{Puts, PutsThrough, AppendsFront}
use Rattle.hub_io.specs.declared.shelf.Failed.{Failed}
use Rattle.hub_io.proofs.Through.{through_none, through_on, through_stop, through_finish}

text_at : {X : Type 0} (f : X → List ℕ) (xs : List X) (i : ℕ) (d : X) (text : List ℕ) → i < length xs → text ≡ f (get_or xs i d)
    → text ++ flat_map f (drop (i + 1) xs) ≡ flat_map f (drop i xs)
text_at f xs i d text l e = ap (λ t. t ++ flat_map f (drop (i + 1) xs)) e ∙ sym (at_drop_more (flat_map f) xs i d l)

module _ {K E : Type 0} {taken : K → Option (List ℕ)} {faults : K → ℕ} where
  pub as_text : {a b : List ℕ} {first last : K} {waiting rest : List ℕ} {r : Result (Unit {0}) E} → a ≡ b
      → PutsThrough taken faults first last waiting rest r a → PutsThrough taken faults first last waiting rest r b
  as_text {first = first} {last = last} {waiting = waiting} {rest = rest} {r = r} e p = subst (PutsThrough taken faults first last waiting rest r) e p

  -- a text was put whole, and then what follows it
  pub then_put : {first mid last : K} {waiting between rest a b : List ℕ} {r s : Result (Unit {0}) E} → PutsThrough taken faults first mid waiting between r a
      → IsOk r → PutsThrough taken faults mid last between rest s b → PutsThrough taken faults first last waiting rest s (a ++ b)
  then_put {first = first} {mid = mid} {last = last} {waiting = waiting} {between = between} {rest = rest} {a = a} {b = b} {r = r} {s = s} p ok q =
      through_on first mid last waiting between rest a b r s ok p q

  -- a text was not put whole, and nothing follows it
  pub then_none : {first last : K} {waiting between rest a : List ℕ} {r s : Result (Unit {0}) E} (b : List ℕ) → PutsThrough taken faults first last waiting between r a
      → IsErr r → IsErr s → PutsThrough taken faults first last waiting rest s (a ++ b)
  then_none {first = first} {last = last} {waiting = waiting} {between = between} {rest = rest} {a = a} {r = r} {s = s} b p no_r no_s =
      through_stop first last waiting between rest a b r s no_r no_s p

  -- a text was put whole through a buffer in which nothing waited, and then what waits was put
  pub put_whole : {first mid last : K} {waiting between rest text : List ℕ} {r s : Result (Unit {0}) E} → PutsThrough taken faults first mid waiting between r text
      → IsOk r → waiting ≡ [] → PutsThrough taken faults mid last between rest s [] → OnOk s (rest ≡ []) → Puts taken faults first last s text
  put_whole {first = first} {mid = mid} {last = last} {waiting = waiting} {between = between} {rest = rest} {text = text} {r = r} {s = s} p ok none q all =
      through_finish first mid last waiting between rest text r s ok none all p q

  -- or not whole
  pub put_front : {first last : K} {waiting rest text : List ℕ} {r s : Result (Unit {0}) E} → PutsThrough taken faults first last waiting rest r text
      → IsErr r → IsErr s → waiting ≡ [] → Puts taken faults first last s text
  put_front {first = first} {last = last} {text = text} {r = Err e} {s = Err d} p no_r no_s none = record {
    whole = tt;
    front = subst (AppendsFront (taken first) (taken last)) (ap (λ l. l ++ text) none) p.front;
    later = p.later;
    failed = p.failed;
  }
  put_front {r = Ok x} p no_r no_s none = absurd (search (rules, no_r))
  put_front {r = Err e} {s = Ok y} p no_r no_s none = absurd (search (rules, no_s))

-- the first texts of a list were put, as far as this place
pub record HasPut {K X : Type 0} (taken : K → Option (List ℕ)) (faults : K → ℕ) (first now : K) (waiting between : List ℕ) (f : X → List ℕ) (xs : List X) (i : ℕ) : Type 0 where
  pub follow : (last : K) (rest : List ℕ) (s : Result (Unit {0}) Failed) → PutsThrough taken faults now last between rest s (flat_map f (drop i xs))
      → PutsThrough taken faults first last waiting rest s (flat_map f xs)

module _ {K X : Type 0} {taken : K → Option (List ℕ)} {faults : K → ℕ} where
  pub list_start : (at : K) (waiting : List ℕ) (f : X → List ℕ) (xs : List X) → HasPut taken faults at at waiting waiting f xs 0
  list_start at waiting f xs = record { follow = λ last rest s p. p }

  -- the text of the next element
  pub list_more : {first now next : K} {waiting between behind text : List ℕ} {f : X → List ℕ} {xs : List X} {i : ℕ} {r : Result (Unit {0}) Failed} (d : X)
      → HasPut taken faults first now waiting between f xs i → PutsThrough taken faults now next between behind r text → IsOk r → i < length xs → text ≡ f (get_or xs i d)
      → HasPut taken faults first next waiting behind f xs (i + 1)
  list_more {text = text} {f = f} {xs = xs} {i = i} d h p ok l e = record {
    follow = λ last rest s q. h.follow last rest s (as_text (text_at f xs i d text l e) (then_put p ok q));
  }

  -- which was not put whole
  pub list_stop : {first now last : K} {waiting between behind rest text : List ℕ} {f : X → List ℕ} {xs : List X} {i : ℕ} {r s : Result (Unit {0}) Failed} (d : X)
      → HasPut taken faults first now waiting between f xs i → PutsThrough taken faults now last between behind r text → IsErr r → IsErr s → i < length xs → text ≡ f (get_or xs i d)
      → PutsThrough taken faults first last waiting rest s (flat_map f xs)
  list_stop {last = last} {rest = rest} {text = text} {f = f} {xs = xs} {i = i} {s = s} d h p no_r no_s l e =
      h.follow last rest s (as_text (text_at f xs i d text l e) (then_none (flat_map f (drop (i + 1) xs)) p no_r no_s))

  pub list_end : {first now : K} {waiting between : List ℕ} {f : X → List ℕ} {xs : List X} {i : ℕ} → HasPut taken faults first now waiting between f xs i → length xs ≤ i
      → PutsThrough {E = Failed} taken faults first now waiting between (Ok tt) (flat_map f xs)
  list_end {now = now} {between = between} {f = f} {xs = xs} {i = i} h l =
      h.follow now between (Ok tt) (as_text (sym (at_drop_all (flat_map f) xs i l)) (through_none now between))

-- a prefix of a text was put whole, and this is left of it
pub record HasPutFront {K : Type 0} (taken : K → Option (List ℕ)) (faults : K → ℕ) (first now : K) (waiting between left whole : List ℕ) : Type 0 where
  pub follow : (last : K) (rest : List ℕ) (s : Result (Unit {0}) Failed) → PutsThrough taken faults now last between rest s left
      → PutsThrough taken faults first last waiting rest s whole

module _ {K : Type 0} {taken : K → Option (List ℕ)} {faults : K → ℕ} where
  pub front_start : (at : K) (waiting : List ℕ) {left whole : List ℕ} → left ≡ whole → HasPutFront taken faults at at waiting waiting left whole
  front_start at waiting e = record { follow = λ last rest s p. as_text e p }

  -- the next part of it
  pub front_more : {first now next : K} {waiting between behind text left whole : List ℕ} {r : Result (Unit {0}) Failed} (later : List ℕ)
      → HasPutFront taken faults first now waiting between left whole → PutsThrough taken faults now next between behind r text → IsOk r → text ++ later ≡ left
      → HasPutFront taken faults first next waiting behind later whole
  front_more later h p ok e = record { follow = λ last rest s q. h.follow last rest s (as_text e (then_put p ok q)) }

  -- which was not put whole
  pub front_stop : {first now last : K} {waiting between behind rest text left whole : List ℕ} {r s : Result (Unit {0}) Failed} (later : List ℕ)
      → HasPutFront taken faults first now waiting between left whole → PutsThrough taken faults now last between behind r text → IsErr r → IsErr s → text ++ later ≡ left
      → PutsThrough taken faults first last waiting rest s whole
  front_stop {last = last} {rest = rest} {s = s} later h p no_r no_s e = h.follow last rest s (as_text e (then_none later p no_r no_s))

  pub front_end : {first now : K} {waiting between left whole : List ℕ} → HasPutFront taken faults first now waiting between left whole → [] ≡ left
      → PutsThrough {E = Failed} taken faults first now waiting between (Ok tt) whole
  front_end {now = now} {between = between} h e = h.follow now between (Ok tt) (as_text e (through_none now between))
