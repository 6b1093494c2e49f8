-- What is taken of an outcome: places that lead on from the node's branch, as many as nodes were made.
use Rattle.std.proofs.Common.{◌≡◌, ℕ, zero, suc, ◌+◌, ◌^◌, ◌≤◌, ℤ, Bool, true, false, List, [], ◌∷◌, length, Contains, Option, None, is_some, if◌then◌else◌, refl, ap, sym, subst, ◌∙◌, true≢false, pow_pos, arith}
use Rattle.std.proofs.lemmas.List.{length-append, length-map}
use Rattle.std.proofs.lemmas.Bool.{cond_both}
use Rattle.hub_spec.specs.Problem.{Problem}
use Rattle.hub_spec.specs.Separation.{IsOrder}
use Rattle.hub_spec.specs.Trees.{Branching, HasRoom, open_child, closed_child, Closes, Tree, leaf, branch_on, leaf_of, preorder, line_count, IsSound}
use Rattle.hub_spec.proofs.Preorders.{length-preorder}
use Rattle.search_spec.specs.States.{denominator, State, Advice, Parts, number_in_pool, is_stopped, answer, rounded_up}
use Rattle.search_spec.specs.Steps.{bound_at, separated, may_split, two_more, stopped_leaf, Side, stays_open, stays_closed, child_on, child_off}
use Rattle.search_spec.specs.Laws.{IsWantedSet, IsState, AreListedWeights, IsAdvised, AreSound}
use Rattle.search_spec.specs.Findings.{IsSpent}
use Rattle.search_spec.proofs.Keeping.{leaf_bound-kept, closes_less, sound_kept}
use Rattle.search_spec.proofs.Bounds.{ClosesOn, HasRoomOn, HasRoomOff, bound_on}
use Rattle.search_spec.proofs.Fixings.{AreFixings, fixings_kept}
use Rattle.search_spec.proofs.Invariants.{IsReady, IsNext, StaysWithin, next_same}
use Rattle.search_spec.proofs.Separated.{separated_next, separated_made, separated_stop}
use Rattle.search_spec.proofs.Leaves.{double, stays_within, stop_next, stop_sound, spent_when}
use Rattle.search_spec.proofs.Parting.{some_of, child_power, more_going, more_made, more_next, child_ready, allowed_once, off_sound}
use Rattle.search_spec.proofs.Rounds.{ready_next}
use Rattle.search_spec.proofs.Nodes.{none_there}
use Rattle.search_spec.specs.Places.{Pending, Place, line, open_at, Outcome, ends, asks, splits, Standing, lines_of}
use Rattle.search_spec.specs.Turns.{with_set, waited, fresh, stops_at, halved, after_fixings, child_of, beside_leaf, split_up, taken}
use Rattle.search_spec.proofs.Leading.{Leads, leads_both, tree_leads}
use Rattle.search_spec.proofs.Turning.{on_some_both, IsSoundEnd, IsSoundAsk, IsFor}

-- ---- an outcome by a state before

closes_next : (p : Problem) (s t : State) (w : List (ℕ × ℕ)) (c : Branching) → IsNext p s t → IsAdvised s w → ClosesOn p s.cuts s.cost w c
    → ClosesOn p t.cuts t.cost w c
closes_next p s t w c next advised closes =
    let same = leaf_bound-kept p s.cuts t.cuts denominator w c next.kept advised.mix in
    subst (λ (z : ℤ). Closes denominator t.cost z) (sym same) (closes_less denominator s.cost t.cost (bound_on p s.cuts w c) next.cost closes)

fixings_next : (p : Problem) (s t : State) (w : List (ℕ × ℕ)) (b : Branching) (fs : List (ℕ × Side)) → IsNext p s t → IsAdvised s w
    → AreFixings p s.cuts s.cost w b fs → AreFixings p t.cuts t.cost w b fs
fixings_next p s t w b [] next advised are = tt
fixings_next p s t w b (f ∷ rest) next advised are = (
  are.0,
  λ has_room. closes_next p s t w (child_off f.1 b f.0) next advised (are.1 has_room),
  are.2,
  fixings_next p s t w b rest next advised are.3,
)

-- what is known of it is so of each state after
pub for_next : (p : Problem) (s t : State) (b : Branching) (o : Outcome) → IsNext p s t → IsFor p s b o → IsFor p t b o
for_next p s t b (ends tree) next is = record {
  one_line = is.one_line;
  listed = is.listed;
  sound = sound_kept p s.cuts t.cuts (answer s) (answer t) b tree next.kept next.answer is.sound;
}
for_next p s t b (asks set order w more) next is =
    record { is_set = is.is_set; is_order = is.is_order; ready = ready_next p b w s t next is.ready }
for_next p s t b (splits w fs advice) next is =
    record { ready = ready_next p b w s t next is.ready; are = fixings_next p s t w b fs next is.ready.advised is.are }

-- ---- what comes in the place of a node

pub record HasTaken (p : Problem) (n : Option ℕ) (b : Branching) (s : State) (t : Standing) : Type 0 where
  pub next : IsNext p s t.state
  pub leads : (rest : List Branching) → Leads p t.state (b ∷ rest) t.places rest
  pub made : length t.places + s.made ≡ t.state.made + 1
  pub allowed : StaysWithin n s.made t.state.made
  pub spent : is_stopped t.state ≡ true → IsSpent n t.state.made
  pub room : is_stopped t.state ≡ true → length t.places + 3 ≤ 2 ^ (length b.free + 1)

not_now : {G : Type 0} (s t : State) → t.stop ≡ s.stop → is_stopped s ≡ false → is_stopped t ≡ true → G
not_now s t same going stopped = absurd (true≢false (sym stopped ∙ ap (λ (o : Option ℕ). is_some o) same ∙ going))

length-lines_of : (t : Tree) → line_count t ≡ 1 → length (lines_of t) ≡ 1
length-lines_of t one = length-map (preorder t) line ∙ length-preorder t ∙ one

end_taken : (p : Problem) (n : Option ℕ) (b : Branching) (s : State) (t : Tree) → IsState p s → is_stopped s ≡ false → IsSoundEnd p s b t
    → HasTaken p n b s (record { state = s; places = lines_of t })
end_taken p n b s t ok going is = record {
  next = next_same p s ok;
  leads = λ rest. tree_leads p s b t rest is.sound is.listed;
  made = omega (arith, length-lines_of t is.one_line);
  allowed = stays_within n s.made s.made refl;
  spent = not_now s s refl going;
  room = not_now s s refl going;
}

-- ---- a set that a node asks for

pub record IsWithSet (p : Problem) (s t : State) : Type 0 where
  pub next : IsNext p s t
  pub made : t.made ≡ s.made
  pub stop : t.stop ≡ s.stop

pub with_set_is : (p : Problem) (parts : Parts) (set order : List ℕ) (s : State) → AreSound p parts → IsState p s → IsWantedSet p set → IsOrder p set order
    → IsWithSet p s (with_set parts set order s)
unfolding with_set
with_set_is p parts set order s sound ok is_set is_order =
    cond_both (is_some (number_in_pool s set)) s (separated parts set order s) (IsWithSet p s)
    (λ e. record { next = next_same p s ok; made = refl; stop = refl })
    (λ e. record {
      next = separated_next p parts set order s sound ok is_set is_order;
      made = separated_made parts set order s;
      stop = separated_stop parts set order s;
    })

asked_taken : (p : Problem) (parts : Parts) (n : Option ℕ) (x : Pending) (set order : List ℕ) (w : List (ℕ × ℕ)) (more : Bool) (s : State)
    → AreSound p parts → is_stopped s ≡ false → IsSoundAsk p s x.branch set order w
    → HasTaken p n x.branch s (record { state = with_set parts set order s; places = open_at (waited x w more) ∷ [] })
asked_taken p parts n x set order w more s sound going is =
    let t = with_set parts set order s in
    let added = with_set_is p parts set order s sound is.ready.state is.is_set is.is_order in
    record {
      next = added.next;
      leads = λ rest. (refl, ready_next p x.branch w s t added.next is.ready, refl);
      made = omega (arith, added.made);
      allowed = stays_within n s.made t.made added.made;
      spent = not_now s t added.stop going;
      room = not_now s t added.stop going;
    }

-- ---- a stop

stop_taken : (p : Problem) (n : Option ℕ) (b : Branching) (w : List (ℕ × ℕ)) (s : State) → IsReady p b w s → 1 ≤ length b.free
    → may_split n s ≡ false → HasTaken p n b s (stops_at p b w s)
unfolding bound_at stopped_leaf
stop_taken p n b w s ready some full = record {
  next = stop_next p s (rounded_up (bound_on p s.cuts w b)) ready.state;
  leads = λ rest. (stop_sound p b w s ready, ready.advised.listed, refl);
  made = omega arith;
  allowed = stays_within n s.made s.made refl;
  spent = λ h. spent_when n s full;
  room = λ h. omega (arith, two_free (length b.free) some);
}
  where
    two_free : (f : ℕ) → 1 ≤ f → 4 ≤ 2 ^ (f + 1)
    two_free zero some = absurd (omega arith)
    two_free (suc f) some = let one : suc f ≡ f + 1 = omega arith in omega (arith, double (suc f), ap (λ (m : ℕ). 2 ^ m) one, double f, pow_pos f)

-- ---- a split

within_itself : (n : Option ℕ) (made : ℕ) → StaysWithin n made made
within_itself n made = stays_within n made made refl

two_taken : (p : Problem) (n : Option ℕ) (x : Pending) (k : ℕ) (s : State) → Contains x.branch.free k
    → HasRoomOn p stays_open x.branch k → HasRoomOn p stays_closed x.branch k → IsReady p x.branch x.weights s
    → is_stopped s ≡ false → may_split n s ≡ true
    → HasTaken p n x.branch s (record {
      state = two_more s;
      places = line (branch_on k) ∷ open_at (fresh (open_child x.branch k) x.weights) ∷ open_at (fresh (closed_child x.branch k) x.weights) ∷ [];
    })
two_taken p n x k s free up down ready going room =
    let opened = child_ready p stays_open x.branch k x.weights s free up ready in
    let closed = child_ready p stays_closed x.branch k x.weights s free down ready in
    let t = two_more s in
    record {
      next = more_next p s t (next_same p t opened.state);
      leads = λ rest. (free, tt, (refl, opened, (refl, closed, refl)));
      made = omega (arith, more_made s);
      allowed = allowed_once n s t.made room (within_itself n t.made);
      spent = not_stopped s going;
      room = not_stopped s going;
    }
  where
    not_stopped : {G : Type 0} (s : State) → is_stopped s ≡ false → is_stopped (two_more s) ≡ true → G
    not_stopped s going stopped = absurd (true≢false (sym stopped ∙ more_going s going))

halved_taken : (p : Problem) (parts : Parts) (n : Option ℕ) (advice : Advice) (x : Pending) (s : State) → AreSound p parts
    → IsReady p x.branch x.weights s → is_stopped s ≡ false → parts.only x.branch ≡ None → HasTaken p n x.branch s (halved p parts n advice x s)
unfolding halved
halved_taken p parts n advice x s sound ready going none =
    let k = parts.nearest advice x.branch in
    let some = sound.some_free x.branch ready.is_branch ready.has_room none in
    let near = sound.nearest advice x.branch some in
    let rooms = sound.rooms x.branch k ready.is_branch ready.has_room none near in
    cond_both (may_split n s) (record {
      state = two_more s;
      places = line (branch_on k) ∷ open_at (fresh (open_child x.branch k) x.weights) ∷ open_at (fresh (closed_child x.branch k) x.weights) ∷ [];
    }) (stops_at p x.branch x.weights s) (HasTaken p n x.branch s)
    (λ room. two_taken p n x k s near rooms.0 rooms.1 ready going room)
    (λ full. stop_taken p n x.branch x.weights s ready some full)

still_taken : (p : Problem) (n : Option ℕ) (x : Pending) (s : State) → IsReady p x.branch x.weights s → is_stopped s ≡ false
    → HasTaken p n x.branch s (record { state = s; places = open_at x ∷ [] })
still_taken p n x s ready going = record {
  next = next_same p s ready.state;
  leads = λ rest. (refl, ready, refl);
  made = omega arith;
  allowed = within_itself n s.made;
  spent = not_now s s refl going;
  room = not_now s s refl going;
}

after_taken : (p : Problem) (parts : Parts) (n : Option ℕ) (advice : Advice) (x : Pending) (s : State) → AreSound p parts
    → IsReady p x.branch x.weights s → is_stopped s ≡ false → HasTaken p n x.branch s (after_fixings p parts n advice x s)
unfolding after_fixings
after_taken p parts n advice x s sound ready going =
    let b = x.branch in
    let still : Standing = record { state = s; places = open_at x ∷ [] } in
    let two = halved p parts n advice x s in
    on_some_both (parts.barren b) (λ t. record { state = s; places = lines_of t }) (if is_some (parts.only b) then still else two) (HasTaken p n b s)
    (λ t e. let end = sound.barren b t ready.is_branch e in
    end_taken p n b s t ready.state going (record { one_line = end.one_line; listed = end.listed; sound = end.sound s.cuts (answer s) }))
    (λ none. cond_both (is_some (parts.only b)) still two (HasTaken p n b s) (λ e. still_taken p n x s ready going)
    (λ e. halved_taken p parts n advice x s sound ready going (none_there (parts.only b) e)))

beside_leads : (p : Problem) (side : Side) (b : Branching) (k : ℕ) (w : List (ℕ × ℕ)) (s : State) (places : List Place) → Contains b.free k
    → AreListedWeights w → IsSound p s.cuts (answer s) (child_off side b k) (leaf denominator w)
    → ((rest : List Branching) → Leads p s (child_on side b k ∷ rest) places rest)
    → (rest : List Branching) → Leads p s (b ∷ rest) (beside_leaf side k w places) rest
beside_leads p stays_open b k w s places free listed off leads = λ rest. (
  free,
  tt,
  leads_both p s (open_child b k ∷ closed_child b k ∷ rest) places (closed_child b k ∷ rest) (line (leaf_of denominator w) ∷ []) rest
      (leads (closed_child b k ∷ rest)) (off, listed, refl),
)
beside_leads p stays_closed b k w s places free listed off leads = λ rest. (free, tt, (off, listed, leads rest))

length-beside : (side : Side) (k : ℕ) (w : List (ℕ × ℕ)) (places : List Place) → length (beside_leaf side k w places) ≡ length places + 2
length-beside stays_open k w places = omega (arith, length-append places (line (leaf_of denominator w) ∷ []))
length-beside stays_closed k w places = omega arith

beside_taken : (p : Problem) (n : Option ℕ) (side : Side) (b : Branching) (k : ℕ) (w : List (ℕ × ℕ)) (s : State) (kept : Standing) → Contains b.free k
    → is_stopped s ≡ false → may_split n s ≡ true → IsAdvised s w → HasRoomOff p side b k → ClosesOn p s.cuts s.cost w (child_off side b k)
    → HasTaken p n (child_on side b k) (two_more s) kept
    → HasTaken p n b s (record { state = kept.state; places = beside_leaf side k w kept.places })
beside_taken p n side b k w s kept free going room advised has_room closes is =
    let next = more_next p s kept.state is.next in
    let long = length-beside side k w kept.places in
    let power = child_power side b k free in
    record {
      next = next;
      leads = beside_leads p side b k w kept.state kept.places free advised.listed
          (off_sound p w (child_off side b k) s kept.state next has_room advised closes) is.leads;
      made = omega (arith, is.made, long, more_made s);
      allowed = allowed_once n s kept.state.made room is.allowed;
      spent = is.spent;
      room = λ h. omega (arith, is.room h, long, power, double (length b.free));
    }

-- both children have room where more sets than one are left
pub side_rooms : (p : Problem) (side : Side) (b : Branching) (k : ℕ) → HasRoom p.wanted (open_child b k) × HasRoom p.wanted (closed_child b k)
    → HasRoomOn p side b k × HasRoomOff p side b k
side_rooms p stays_open b k rooms = rooms
side_rooms p stays_closed b k rooms = (rooms.1, rooms.0)

more_fixings : (p : Problem) (s : State) (w : List (ℕ × ℕ)) (c : Branching) (fs : List (ℕ × Side)) → AreFixings p s.cuts s.cost w c fs
    → AreFixings p (two_more s).cuts (two_more s).cost w c fs
unfolding two_more
more_fixings p s w c fs are = are

pub split_taken : (p : Problem) (parts : Parts) (n : Option ℕ) (advice : Advice) (fs : List (ℕ × Side)) (x : Pending) (s : State) → AreSound p parts
    → IsReady p x.branch x.weights s → is_stopped s ≡ false → AreFixings p s.cuts s.cost x.weights x.branch fs
    → HasTaken p n x.branch s (split_up p parts n advice fs x s)
unfolding split_up
split_taken p parts n advice [] x s sound ready going are = after_taken p parts n advice x s sound ready going
split_taken p parts n advice (f ∷ rest) x s sound ready going are =
    let b = x.branch in
    let w = x.weights in
    let child = child_of x f in
    let kept = split_up p parts n advice rest child (two_more s) in
    let one : Standing = record { state = kept.state; places = beside_leaf f.1 f.0 w kept.places } in
    cond_both (is_some (parts.only b)) (after_fixings p parts n advice x s) (if may_split n s then one else stops_at p b w s) (HasTaken p n b s)
    (λ e. after_taken p parts n advice x s sound ready going)
    (λ e. cond_both (may_split n s) one (stops_at p b w s) (HasTaken p n b s)
    (λ room. let rooms = side_rooms p f.1 b f.0 (sound.rooms b f.0 ready.is_branch ready.has_room (none_there (parts.only b) e) are.0) in
    beside_taken p n f.1 b f.0 w s kept are.0 going room ready.advised rooms.1 (are.1 rooms.1)
    (split_taken p parts n advice rest child (two_more s) sound (child_ready p f.1 b f.0 w s are.0 rooms.0 ready) (more_going s going)
    (more_fixings p s w child.branch rest (fixings_kept p s.cuts s.cost w b f.0 f.1 rest are.0 are.2 are.3))))
    (λ full. stop_taken p n b w s ready (some_of b.free f.0 are.0) full))

-- ---- an outcome

pub taken_is : (p : Problem) (parts : Parts) (n : Option ℕ) (x : Pending) (o : Outcome) (s : State) → AreSound p parts → IsState p s
    → is_stopped s ≡ false → IsFor p s x.branch o → HasTaken p n x.branch s (taken p parts n x o s)
unfolding taken
taken_is p parts n x (ends t) s sound ok going is = end_taken p n x.branch s t ok going is
taken_is p parts n x (asks set order w more) s sound ok going is = asked_taken p parts n x set order w more s sound going is
taken_is p parts n x (splits w fs advice) s sound ok going is = split_taken p parts n advice fs (waited x w false) s sound is.ready going is.are
