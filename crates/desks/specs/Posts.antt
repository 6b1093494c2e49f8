-- The messages in a ring between two endpoints.
use Rattle.std.specs.Prelude.{◌≡◌, List, [], ◌∷◌}
use Rattle.std.specs.Arc.{arc_value}
use Rattle.rtrb.specs.declared.producer.Producer.{Producer}
use Rattle.rtrb.specs.declared.consumer.Consumer.{Consumer}
use Rattle.rtrb.specs.Ring.{sent, received}
use Rattle.desks.specs.declared.posts.Post.{Post}
use Rattle.desks.specs.declared.posts.Post.TheVariants.{Key, Item}

module _ {K T : Type 0} where
  -- what may go under this key
  abbrev pub IsUnder : (K → T → Type 0) → K → Post K T → Type 0
  IsUnder holds key (Key k) = Unit {0}
  IsUnder holds key (Item a) = holds key (arc_value a)

  -- what may go after these: what may go under the key that went first
  abbrev pub Follows : (K → T → Type 0) → List (Post K T) → Post K T → Type 0
  Follows holds [] x = Unit {0}
  Follows holds (Key key ∷ before) x = IsUnder holds key x
  Follows holds (Item a ∷ before) x = Unit {0}

  -- this key went first
  pub record BeginsWith (key : K) (posts : List (Post K T)) : Type 0 where
    pub later : List (Post K T)
    pub is : posts ≡ Key key ∷ later

  abbrev pub IsToldUnder : {A P : Type 0} → K → Producer (Post K T) A P → Type 0
  IsToldUnder key p = BeginsWith key (sent p)

  abbrev pub IsHeardUnder : {A P : Type 0} → K → Consumer (Post K T) A P → Type 0
  IsHeardUnder key c = BeginsWith key (received c)
