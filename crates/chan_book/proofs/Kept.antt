-- What is always true of a book, as a talk comes to wait and goes.
use Rattle.std.proofs.Common.{◌≡◌, ◌≢◌, ℕ, zero, suc, ◌+◌, ◌-◌, ◌*◌, ◌^◌, ◌<◌, Bool, true, false, ◌==◌, ◌||◌, not, List, [], ◌∷◌, ◌++◌, length, filter, get_or, set, eqb, refl, sym, ap, ap₂, ◌∙◌, subst, subst₂, inl, inr, arith, eq-eqb, ne_eqb, length-append, length-set, append_assoc, append-nil, Option, Some, None, is_some, slice_get, get_or-set_same, get_or-set_other, ◌⊎◌}
use Rattle.std.specs.List.{AllByRecursion, list_any}
use Rattle.std.proofs.lemmas.Option.{same_Some}
use Rattle.std.proofs.lemmas.Bool.Decides.{eqb_tells}
use Rattle.std.proofs.lemmas.List.{get_or_default}
use Rattle.al_event.specs.declared.act.Branch.{Branch}
use Rattle.al_world.specs.Channels.{Channel, Offer}
use Rattle.al_world.specs.Talks.{offers_from, blocks, withdraws}
use Rattle.al_world.specs.Transfers.{IsIn}
use Rattle.chan_book.specs.Links.{Ring, IsRing, has, inserted, without}
use Rattle.chan_book.specs.Book.{bounded, branches_in, branches_at, waiting_of, queue_of, node_of, rows, IsOnMade, IsTalk, IsKept, CanEnter, CanLeave, entered, left}
use Rattle.chan_book.proofs.Paths.{has-without, has_not_head, has_not_tail, has_either, inserted_last}
use Rattle.chan_book.proofs.Rows.{filter-append, has-append, rows_has_not, rows_mark, rows_two}
use Rattle.chan_book.proofs.Waiting.{IsOther, Talks, SplitAt, split_at, others_nodes, all_append, entered_rows, left_rows, all_there, waiting-append, waiting_set, held_set, queues_made, waiting_others, waiting_below, waiting_queues}

true_false : true ≡ false → ⊥
true_false h = cc

both_false : (a b : Bool) → (a || (b || false)) ≡ false → (a ≡ false) × (b ≡ false)
both_false false false e = (refl, refl)
both_false true b e = absurd (cc)
both_false false true e = absurd (cc)

below_root : (n : ℕ) (xs : List ℕ) → AllByRecursion (λ x. x < n + 1) xs → has n xs ≡ false → AllByRecursion (λ x. x < n) xs
below_root n [] all h = tt
below_root n (x ∷ xs) all h = let off : x ≢ n = has_not_head n x xs h in (omega (arith, all.0), below_root n xs all.1 (has_not_tail n x xs h))

all_at : (P : ℕ → Type 0) (x : ℕ) (xs : List ℕ) → AllByRecursion P xs → has x xs ≡ true → P x
all_at P x [] all h = absurd (cc)
all_at P x (y ∷ ys) all h = elim (has_either x y ys h) [ inl e ↦ subst P e all.0 | inr k ↦ all_at P x ys all.1 k ]

all_front : {X : Type 0} (P : X → Type 0) (xs ys : List X) → AllByRecursion P (xs ++ ys) → AllByRecursion P xs
all_front P [] ys all = tt
all_front P (x ∷ xs) ys all = (all.0, all_front P xs ys all.1)

all_back : {X : Type 0} (P : X → Type 0) (xs ys : List X) → AllByRecursion P (xs ++ ys) → AllByRecursion P ys
all_back P [] ys all = all
all_back P (x ∷ xs) ys all = all_back P xs ys all.1

-- a fact on all elements holds of each
all_in : {X : Type 0} (P : X → Type 0) (xs : List X) (i : ℕ) (x : X) → AllByRecursion P xs → slice_get xs i ≡ Some x → P x
all_in P [] i x all e = absurd (cc)
all_in P (y ∷ ys) zero x all e = subst P (same_Some y x e) all.0
all_in P (y ∷ ys) (suc i) x all e = all_in P ys i x all.1 e

-- branches of other tasks are not this one's
none_by : (t : ℕ) (w : List (Offer ℕ)) → AllByRecursion (IsOther t) w → list_any (λ (o : Offer ℕ). o.by == t) w ≡ false
none_by t [] all = refl
none_by t (o ∷ w) all = let h = all.0 in rw (ne_eqb o.by t h.by) (none_by t w all.1)

others_stay : (t : ℕ) (w : List (Offer ℕ)) → AllByRecursion (IsOther t) w → filter (λ (o : Offer ℕ). not (o.by == t)) w ≡ w
others_stay t [] all = refl
others_stay t (o ∷ w) all = let h = all.0 in rw (ne_eqb o.by t h.by) (ap (λ l. o ∷ l) (others_stay t w all.1))

own_go : (t i : ℕ) (bs : List Branch) → filter (λ (o : Offer ℕ). not (o.by == t)) (offers_from t i bs) ≡ []
own_go t i [] = refl
own_go t i (b ∷ bs) = rw (eq-eqb t t refl) (own_go t (i + 1) bs)

-- a branch among those of its talk
get_past : {X : Type 0} (xs : List X) (y : X) (ys : List X) → slice_get (xs ++ y ∷ ys) (length xs) ≡ Some y
get_past [] y ys = refl
get_past (x ∷ xs) y ys = get_past xs y ys

own_branch : (t i : ℕ) (done bs own : List Branch) → own ≡ done ++ bs → i ≡ length done → AllByRecursion (λ (o : Offer ℕ). o.by ≡ t → slice_get own o.number ≡ Some o.branch) (offers_from t i bs)
own_branch t i done [] own e f = tt
own_branch t i done (b ∷ bs) own e f = (
  (λ _. subst₂ (λ l n. slice_get l n ≡ Some b) (sym e) (sym f) (get_past done b bs)),
  own_branch t (i + 1) (done ++ b ∷ []) bs own (e ∙ sym (append_assoc done (b ∷ []) bs)) (ap (λ n. n + 1) f ∙ sym (length-append done (b ∷ []))),
)

other_branch : (t : ℕ) (own : List Branch) (w : List (Offer ℕ)) → AllByRecursion (IsOther t) w → AllByRecursion (λ (o : Offer ℕ). o.by ≡ t → slice_get own o.number ≡ Some o.branch) w
other_branch t own [] all = tt
other_branch t own (o ∷ w) all = (λ e. absurd (let h = all.0 in h.by e), other_branch t own w all.1)

some_by : (t i : ℕ) (bs : List Branch) (w : List (Offer ℕ)) → 0 < length bs → list_any (λ (o : Offer ℕ). o.by == t) (offers_from t i bs ++ w) ≡ true
some_by t i [] w lt = absurd (omega arith)
some_by t i (b ∷ bs) w lt = rw (eq-eqb t t refl) refl

any-append : {X : Type 0} (test : X → Bool) (xs ys : List X) → list_any test (xs ++ ys) ≡ (list_any test xs || list_any test ys)
any-append test [] ys = refl
any-append test (x ∷ xs) ys = elim (test x) as (λ b. (b || list_any test (xs ++ ys)) ≡ ((b || list_any test xs) || list_any test ys)) [ true ↦ refl | false ↦ any-append test xs ys ]

or_true : (a : Bool) → (a || true) ≡ true
or_true true = refl
or_true false = refl

module _ (room : ℕ) (channels : List Channel) (talks : Talks) (order queues : Ring) (k : IsKept room channels talks order queues) where
  abbrev waiting : List (Offer ℕ)
  waiting = waiting_of talks order.items

  pub order_within : AllByRecursion (λ u. u < room) order.items
  order_within = below_root room order.items (subst (λ n. AllByRecursion (λ u. u < n) order.items) k.order_size k.order_ring.within) (subst (λ n. has n order.items ≡ false) k.order_root k.order_ring.unrooted)

  below : AllByRecursion (λ o. node_of o < 64 * room) waiting
  below = waiting_below channels talks order.items k.talks_held room order_within

  module _ (t : ℕ) where
    held : has t order.items ≡ true → IsTalk channels (branches_at talks t)
    held h = all_at (λ u. IsTalk channels (branches_at talks u)) t order.items k.talks_held h

    -- the waiting list at the branches of this task
    waiting_split : (s : SplitAt t order.items) → waiting ≡ waiting_of talks s.front ++ (offers_from t 0 (branches_at talks t) ++ waiting_of talks s.back)
    waiting_split s = ap (waiting_of talks) s.is ∙ waiting-append talks s.front (t ∷ s.back)

    -- who does not wait is not in the order, and who waits is
    pub not_in_order : list_any (λ (o : Offer ℕ). o.by == t) waiting ≡ false → has t order.items ≡ false
    not_in_order free = on (has t order.items) refl
      where
        blocked : has t order.items ≡ true → list_any (λ (o : Offer ℕ). o.by == t) waiting ≡ true
        blocked h =
            let s : SplitAt t order.items = split_at t order.items k.order_ring.different h in
            let talk : IsTalk channels (branches_at talks t) = held h in
            ap (list_any (λ (o : Offer ℕ). o.by == t)) (waiting_split s) ∙ any-append (λ (o : Offer ℕ). o.by == t) (waiting_of talks s.front) (offers_from t 0 (branches_at talks t) ++ waiting_of talks s.back) ∙ rw (some_by t 0 (branches_at talks t) (waiting_of talks s.back) talk.some) (or_true (list_any (λ (o : Offer ℕ). o.by == t) (waiting_of talks s.front)))

        on : (b : Bool) → has t order.items ≡ b → has t order.items ≡ false
        on false e = e
        on true e = absurd (let f = blocked e in cc)

    pub in_order : list_any (λ (o : Offer ℕ). o.by == t) waiting ≡ true → has t order.items ≡ true
    in_order blocked = on (has t order.items) refl
      where
        on : (b : Bool) → has t order.items ≡ b → has t order.items ≡ true
        on true e = e
        on false e = absurd (let f = none_by t waiting (waiting_others channels talks order.items k.talks_held t e) in cc)

    -- ---- a talk comes to wait

    module _ (bs : List Branch) (lt : t < room) (out : has t order.items ≡ false) (talk : IsTalk channels bs) where
      others : AllByRecursion (IsOther t) waiting
      others = waiting_others channels talks order.items k.talks_held t out

      pub can_enter : CanEnter queues (64 * t) bs
      can_enter = record {
        below = omega (arith, k.queues_root, talk.most);
        new = λ n lo hi. let split : 64 * t + (n - 64 * t) ≡ n = omega arith in ap (has n) k.queues_held ∙ rows_has_not n waiting (64 * room) 0 (2 * length channels) (subst (λ x. AllByRecursion (λ o. node_of o ≢ x) waiting) split (others_nodes t (n - 64 * t) waiting others (omega (arith, talk.most)))) (omega (arith, talk.most));
        marks = marked bs (queues_made channels bs talk.made);
      }
        where
          marked : (bs : List Branch) → AllByRecursion (λ b. queue_of b < 2 * length channels) bs → AllByRecursion (λ b. has (suc (queues.root + queue_of b)) queues.items ≡ true) bs
          marked [] all = tt
          marked (b ∷ bs) all = (subst₂ (λ r l. has (suc (r + queue_of b)) l ≡ true) (sym k.queues_root) (sym k.queues_held) (rows_mark (queue_of b) waiting (64 * room) 0 (2 * length channels) (omega arith) (omega (arith, all.0))), marked bs all.1)

      pub waiting_wait : waiting_of (set talks t (Some bs)) (order.items ++ t ∷ []) ≡ waiting ++ offers_from t 0 bs
      waiting_wait =
          waiting-append (set talks t (Some bs)) order.items (t ∷ []) ∙ ap₂ ◌++◌ (waiting_set talks t (Some bs) order.items out) (append-nil (offers_from t 0 (branches_at (set talks t (Some bs)) t)) ∙ ap (offers_from t 0) (ap branches_in (get_or-set_same talks t (Some bs) None (rw k.talks_size lt))))

      order_last : inserted t order.root order.items ≡ order.items ++ t ∷ []
      order_last = inserted_last t order.root order.items k.order_ring.unrooted

      pub kept_wait : (os qs : Ring) → os ≡ record order { items = inserted t order.root order.items } → IsRing os → qs ≡ record queues { items = entered queues.root (64 * t) bs queues.items } → IsRing qs → IsKept room channels (set talks t (Some bs)) os qs
      kept_wait os qs is ring qis qring = record {
        room_bound = k.room_bound;
        channels_bound = k.channels_bound;
        talks_size = length-set talks t (Some bs) ∙ k.talks_size;
        order_ring = ring;
        order_root = ap (λ (r : Ring). r.root) is ∙ k.order_root;
        order_size = ap (λ (r : Ring). r.size) is ∙ k.order_size;
        talks_none = λ u none. none_set u (subst (λ l. has u l ≡ false) items none);
        talks_held = subst (AllByRecursion (λ u. IsTalk channels (branches_at (set talks t (Some bs)) u))) (sym items) (all_append (λ u. IsTalk channels (branches_at (set talks t (Some bs)) u)) order.items (t ∷ []) (held_set channels talks t (Some bs) order.items out k.talks_held) (subst (IsTalk channels) (sym (ap branches_in (get_or-set_same talks t (Some bs) None (rw k.talks_size lt)))) talk, tt));
        queues_ring = qring;
        queues_root = ap (λ (r : Ring). r.root) qis ∙ k.queues_root;
        queues_size = ap (λ (r : Ring). r.size) qis ∙ k.queues_size;
        queues_held = ap (λ (r : Ring). r.items) qis ∙ all_in ∙ ap (λ l. rows l (64 * room) 0 (2 * length channels)) (sym waiting_wait ∙ ap (waiting_of (set talks t (Some bs))) (sym items));
      }
        where
          none_set : (u : ℕ) → has u (order.items ++ t ∷ []) ≡ false → get_or (set talks t (Some bs)) u None ≡ None
          none_set u none =
              let both : (has u order.items || ((t == u) || false)) ≡ false = sym (has-append u order.items (t ∷ [])) ∙ none in
              let apart = both_false (has u order.items) (t == u) both in
              get_or-set_other talks t u (Some bs) None (λ e. true_false (sym (eq-eqb t u (sym e)) ∙ apart.1)) ∙ k.talks_none u apart.0

          items : os.items ≡ order.items ++ t ∷ []
          items = ap (λ (r : Ring). r.items) is ∙ order_last

          all_in : entered queues.root (64 * t) bs queues.items ≡ rows (waiting ++ offers_from t 0 bs) (64 * room) 0 (2 * length channels)
          all_in =
              let from : 64 * t ≡ 64 * t + 0 = omega arith in
              subst (λ n. entered queues.root (64 * t) bs queues.items ≡ entered (64 * room) n bs (rows waiting (64 * room) 0 (2 * length channels))) from (ap₂ (λ r l. entered r (64 * t) bs l) k.queues_root k.queues_held) ∙ entered_rows t 0 (64 * room) (2 * length channels) bs waiting below (omega (arith, talk.most)) (queues_made channels bs talk.made)

      -- the book with it
      pub wait_view : (os : Ring) → os ≡ record order { items = inserted t order.root order.items } → bounded channels (set talks t (Some bs)) os ≡ record (bounded channels talks order) { book = blocks (record { channels = channels; waiting = waiting }) t bs }
      wait_view os is =
          let items : os.items ≡ order.items ++ t ∷ [] = ap (λ (r : Ring). r.items) is ∙ order_last in
          let room_same : length (set talks t (Some bs)) ≡ length talks = length-set talks t (Some bs) in
          let waits : waiting_of (set talks t (Some bs)) os.items ≡ waiting ++ offers_from t 0 bs = ap (waiting_of (set talks t (Some bs))) items ∙ waiting_wait in
          λ i. record { room = room_same i; book = record { channels = channels; waiting = waits i } }

    -- ---- a talk goes

    module _ (is_in : has t order.items ≡ true) where
      abbrev pub own : List Branch
      own = branches_at talks t

      pub own_talk : IsTalk channels own
      own_talk = held is_in

      abbrev parts : SplitAt t order.items
      parts = split_at t order.items k.order_ring.different is_in

      abbrev front : List (Offer ℕ)
      front = waiting_of talks parts.front

      abbrev back : List (Offer ℕ)
      back = waiting_of talks parts.back

      front_held : AllByRecursion (λ u. IsTalk channels (branches_at talks u)) parts.front
      front_held = all_front (λ u. IsTalk channels (branches_at talks u)) parts.front (t ∷ parts.back) (subst (AllByRecursion (λ u. IsTalk channels (branches_at talks u))) parts.is k.talks_held)

      back_held : AllByRecursion (λ u. IsTalk channels (branches_at talks u)) parts.back
      back_held = let all = all_back (λ u. IsTalk channels (branches_at talks u)) parts.front (t ∷ parts.back) (subst (AllByRecursion (λ u. IsTalk channels (branches_at talks u))) parts.is k.talks_held) in all.1

      front_all : AllByRecursion (IsOther t) front
      front_all = waiting_others channels talks parts.front front_held t parts.not_front

      back_all : AllByRecursion (IsOther t) back
      back_all = waiting_others channels talks parts.back back_held t parts.not_back

      whole : waiting ≡ front ++ (offers_from t 0 own ++ back)
      whole = waiting_split parts

      pub in_room : t < room
      in_room = all_at (λ u. u < room) t order.items order_within is_in

      pub can_leave : CanLeave queues (64 * t) (length own)
      can_leave = record {
        there = λ n lo hi. let from : 64 * t ≡ 64 * t + 0 = omega arith in ap (has n) (k.queues_held ∙ ap (λ w. rows w (64 * room) 0 (2 * length channels)) whole) ∙ all_there t 0 (64 * room) (2 * length channels) n own front back (queues_made channels own own_talk.made) (omega arith) (omega arith);
      }

      waiting_rest : waiting_of (set talks t None) (without t order.items) ≡ front ++ back
      waiting_rest =
          ap (waiting_of (set talks t None)) parts.others ∙ waiting-append (set talks t None) parts.front parts.back ∙ ap₂ ◌++◌ (waiting_set talks t None parts.front parts.not_front) (waiting_set talks t None parts.back parts.not_back)

      filter_rest : filter (λ (o : Offer ℕ). not (o.by == t)) waiting ≡ front ++ back
      filter_rest =
          ap (filter (λ (o : Offer ℕ). not (o.by == t))) whole ∙ filter-append (λ (o : Offer ℕ). not (o.by == t)) front (offers_from t 0 own ++ back) ∙ ap₂ ◌++◌ (others_stay t front front_all) (filter-append (λ (o : Offer ℕ). not (o.by == t)) (offers_from t 0 own) back ∙ ap₂ ◌++◌ (own_go t 0 own) (others_stay t back back_all))

      pub waiting_withdraw : waiting_of (set talks t None) (without t order.items) ≡ filter (λ (o : Offer ℕ). not (o.by == t)) waiting
      waiting_withdraw = waiting_rest ∙ sym filter_rest

      -- each of its waiting branches is one of its talk
      pub withdrawn_branch : (o : Offer ℕ) → IsIn waiting o → o.by ≡ t → slice_get own o.number ≡ Some o.branch
      withdrawn_branch o i by =
          all_in (λ (o : Offer ℕ). o.by ≡ t → slice_get own o.number ≡ Some o.branch) (front ++ (offers_from t 0 own ++ back)) i.at o (all_append (λ (o : Offer ℕ). o.by ≡ t → slice_get own o.number ≡ Some o.branch) front (offers_from t 0 own ++ back) (other_branch t own front front_all) (all_append (λ (o : Offer ℕ). o.by ≡ t → slice_get own o.number ≡ Some o.branch) (offers_from t 0 own) back (own_branch t 0 [] own own refl refl) (other_branch t own back back_all))) (subst (λ w. slice_get w i.at ≡ Some o) whole i.is) by

      pub kept_withdraw : (os qs : Ring) → os ≡ record order { items = without t order.items } → IsRing os → qs ≡ record queues { items = left (64 * t) (length own) queues.items } → IsRing qs → IsKept room channels (set talks t None) os qs
      kept_withdraw os qs is ring qis qring = record {
        room_bound = k.room_bound;
        channels_bound = k.channels_bound;
        talks_size = length-set talks t None ∙ k.talks_size;
        order_ring = ring;
        order_root = ap (λ (r : Ring). r.root) is ∙ k.order_root;
        order_size = ap (λ (r : Ring). r.size) is ∙ k.order_size;
        talks_none = λ u none. none_set u (eqb_tells t u) (subst (λ l. has u l ≡ false) (ap (λ (r : Ring). r.items) is) none);
        talks_held = subst (AllByRecursion (λ u. IsTalk channels (branches_at (set talks t None) u))) (sym (ap (λ (r : Ring). r.items) is ∙ parts.others)) (all_append (λ u. IsTalk channels (branches_at (set talks t None) u)) parts.front parts.back (held_set channels talks t None parts.front parts.not_front front_held) (held_set channels talks t None parts.back parts.not_back back_held));
        queues_ring = qring;
        queues_root = ap (λ (r : Ring). r.root) qis ∙ k.queues_root;
        queues_size = ap (λ (r : Ring). r.size) qis ∙ k.queues_size;
        queues_held = ap (λ (r : Ring). r.items) qis ∙ all_out ∙ ap (λ l. rows l (64 * room) 0 (2 * length channels)) (sym waiting_rest ∙ ap (waiting_of (set talks t None)) (sym (ap (λ (r : Ring). r.items) is)));
      }
        where
          none_set : (u : ℕ) → ((t == u ≡ true) × (t ≡ u)) ⊎ ((t == u ≡ false) × (t ≢ u)) → has u (without t order.items) ≡ false → get_or (set talks t None) u None ≡ None
          none_set u (inl e) none = ap (λ v. get_or (set talks t None) v None) (sym e.1) ∙ get_or-set_same talks t None None (rw k.talks_size in_room)
          none_set u (inr e) none = get_or-set_other talks t u None None (λ g. e.1 (sym g)) ∙ k.talks_none u (sym (has-without u t order.items ∙ rw e.0 refl) ∙ none)

          all_out : left (64 * t) (length own) queues.items ≡ rows (front ++ back) (64 * room) 0 (2 * length channels)
          all_out =
              let from : 64 * t ≡ 64 * t + 0 = omega arith in
              subst (λ n. left (64 * t) (length own) queues.items ≡ left n (length own) (rows (front ++ (offers_from t 0 own ++ back)) (64 * room) 0 (2 * length channels))) from (ap (left (64 * t) (length own)) (k.queues_held ∙ ap (λ w. rows w (64 * room) 0 (2 * length channels)) whole)) ∙ left_rows t 0 (64 * room) (2 * length channels) own front back front_all back_all (omega (arith, own_talk.most)) (omega (arith, in_room))

      -- the book without it
      pub withdraw_view : (os : Ring) → os ≡ record order { items = without t order.items } → bounded channels (set talks t None) os ≡ record (bounded channels talks order) { book = withdraws eqb t (record { channels = channels; waiting = waiting }) }
      withdraw_view os is =
          let room_same : length (set talks t None) ≡ length talks = length-set talks t None in
          let waits : waiting_of (set talks t None) os.items ≡ filter (λ (o : Offer ℕ). not (o.by == t)) waiting = ap (λ (r : Ring). waiting_of (set talks t None) r.items) is ∙ waiting_withdraw in
          λ i. record { room = room_same i; book = record { channels = channels; waiting = waits i } }

-- the room is that of the talks
pub kept_room : (n m : ℕ) (channels : List Channel) (talks : Talks) (order queues : Ring) → m ≡ n → IsKept n channels talks order queues → IsKept m channels talks order queues
kept_room n m channels talks order queues e k = subst (λ r. IsKept r channels talks order queues) (sym e) k

pub on_channels : (channels : List Channel) (bs : List Branch) → AllByRecursion (IsOnMade channels) bs → AllByRecursion (λ (b : Branch). 0 < b.chan) bs
on_channels channels [] all = tt
on_channels channels (b ∷ bs) all = (let h = all.0 in h.some, on_channels channels bs all.1)

-- what a read of a talk gives
pub get_or_read : (talks : Talks) (t : ℕ) (x : Option (List Branch)) → t < length talks → x ≡ get_or talks t x → x ≡ get_or talks t None
get_or_read talks t x lt e = e ∙ get_or_default talks t x None lt

-- ---- a new book, and one with a channel more

pub kept_new : (room : ℕ) (talks : Talks) (order queues : Ring) → ((t : ℕ) → get_or talks t None ≡ None) → length talks ≡ room → room < 2 ^ 32 → order ≡ record { root = room; size = room + 1; items = [] } → IsRing order → queues ≡ record { root = 64 * room; size = 64 * room + 1; items = [] } → IsRing queues → IsKept room [] talks order queues
kept_new room talks order queues none e lt is ring qis qring = record {
  room_bound = lt;
  channels_bound = omega arith;
  talks_size = e;
  order_ring = ring;
  order_root = ap (λ (r : Ring). r.root) is;
  order_size = ap (λ (r : Ring). r.size) is;
  talks_none = λ t out. none t;
  talks_held = subst (AllByRecursion (λ u. IsTalk [] (branches_at talks u))) (sym (ap (λ (r : Ring). r.items) is)) tt;
  queues_ring = qring;
  queues_root = ap (λ (r : Ring). r.root) qis;
  queues_size = ap (λ (r : Ring). r.size) qis ∙ (let none : 64 * room + 1 ≡ 64 * room + 1 + 2 * length {A = Channel} [] = omega arith in none);
  queues_held = ap (λ (r : Ring). r.items) qis;
}

more_made : (channels : List Channel) (ch : Channel) (bs : List Branch) → AllByRecursion (IsOnMade channels) bs → AllByRecursion (IsOnMade (channels ++ ch ∷ [])) bs
more_made channels ch [] all = tt
more_made channels ch (b ∷ bs) all = (let h = all.0 in record { some = h.some; made = omega (arith, h.made, length-append channels (ch ∷ [])) }, more_made channels ch bs all.1)

more_talks : (channels : List Channel) (ch : Channel) (talks : Talks) (xs : List ℕ) → AllByRecursion (λ u. IsTalk channels (branches_at talks u)) xs → AllByRecursion (λ u. IsTalk (channels ++ ch ∷ []) (branches_at talks u)) xs
more_talks channels ch talks [] all = tt
more_talks channels ch talks (u ∷ xs) all = (let h = all.0 in record { some = h.some; most = h.most; made = more_made channels ch (branches_at talks u) h.made }, more_talks channels ch talks xs all.1)

pub kept_make : (room : ℕ) (channels : List Channel) (talks : Talks) (order queues qs : Ring) (ch : Channel) → length channels < 2 ^ 32 - 1 → IsKept room channels talks order queues → qs ≡ record queues { size = queues.size + 2; items = queues.items ++ queues.size ∷ (queues.size + 1) ∷ [] } → IsRing qs → IsKept room (channels ++ ch ∷ []) talks order qs
kept_make room channels talks order queues qs ch few k qis qring = record {
  room_bound = k.room_bound;
  channels_bound = omega (arith, few, length-append channels (ch ∷ []));
  talks_size = k.talks_size;
  order_ring = k.order_ring;
  order_root = k.order_root;
  order_size = k.order_size;
  talks_none = k.talks_none;
  talks_held = more_talks channels ch talks order.items k.talks_held;
  queues_ring = qring;
  queues_root = ap (λ (r : Ring). r.root) qis ∙ k.queues_root;
  queues_size = ap (λ (r : Ring). r.size) qis ∙ (let more = length-append channels (ch ∷ []) in let old = k.queues_size in omega (arith, more, old));
  queues_held = ap (λ (r : Ring). r.items) qis ∙ marks ∙ ap (λ m. rows (waiting_of talks order.items) (64 * room) 0 m) count;
}
  where
    m : ℕ
    m = 2 * length channels

    count : 2 * length channels + 2 ≡ 2 * length (channels ++ ch ∷ [])
    count = omega (arith, length-append channels (ch ∷ []))

    marks : queues.items ++ queues.size ∷ (queues.size + 1) ∷ [] ≡ rows (waiting_of talks order.items) (64 * room) 0 (2 * length channels + 2)
    marks =
        let one : queues.size ≡ suc (64 * room + 2 * length channels) = omega (arith, k.queues_size) in
        let two : queues.size + 1 ≡ suc (64 * room + suc (2 * length channels)) = omega (arith, k.queues_size) in
        let all : List ℕ = rows (waiting_of talks order.items) (64 * room) 0 (2 * length channels) in
        ap₂ (λ l x. l ++ x ∷ (queues.size + 1) ∷ []) k.queues_held one ∙ ap (λ y. rows (waiting_of talks order.items) (64 * room) 0 (2 * length channels) ++ suc (64 * room + 2 * length channels) ∷ y ∷ []) two ∙ sym (rows_two (waiting_of talks order.items) (64 * room) (2 * length channels) (waiting_queues channels talks order.items k.talks_held))

-- a change of what channels hold leaves how they are kept
same_made : (channels after : List Channel) → length after ≡ length channels → (bs : List Branch) → AllByRecursion (IsOnMade channels) bs → AllByRecursion (IsOnMade after) bs
same_made channels after e [] all = tt
same_made channels after e (b ∷ bs) all = (let h = all.0 in record { some = h.some; made = omega (arith, e, h.made) }, same_made channels after e bs all.1)

same_talks : (channels after : List Channel) → length after ≡ length channels → (talks : Talks) (xs : List ℕ) → AllByRecursion (λ u. IsTalk channels (branches_at talks u)) xs → AllByRecursion (λ u. IsTalk after (branches_at talks u)) xs
same_talks channels after e talks [] all = tt
same_talks channels after e talks (u ∷ xs) all = (let h = all.0 in record { some = h.some; most = h.most; made = same_made channels after e (branches_at talks u) h.made }, same_talks channels after e talks xs all.1)

pub kept_channels : (room : ℕ) (channels after : List Channel) (talks : Talks) (order queues : Ring) → length after ≡ length channels → IsKept room channels talks order queues → IsKept room after talks order queues
kept_channels room channels after talks order queues e k = record {
  room_bound = k.room_bound;
  channels_bound = omega (arith, e, k.channels_bound);
  talks_size = k.talks_size;
  order_ring = k.order_ring;
  order_root = k.order_root;
  order_size = k.order_size;
  talks_none = k.talks_none;
  talks_held = same_talks channels after e talks order.items k.talks_held;
  queues_ring = k.queues_ring;
  queues_root = k.queues_root;
  queues_size = omega (arith, e, k.queues_size);
  queues_held = k.queues_held ∙ ap (λ n. rows (waiting_of talks order.items) (64 * room) 0 (2 * n)) (sym e);
}

-- ---- who is blocked

pub blocked_is : (room : ℕ) (channels : List Channel) (talks : Talks) (order queues : Ring) → IsKept room channels talks order queues → (t : ℕ) → is_some (get_or talks t None) ≡ list_any (λ (o : Offer ℕ). o.by == t) (waiting_of talks order.items)
blocked_is room channels talks order queues k t = on (list_any (λ (o : Offer ℕ). o.by == t) (waiting_of talks order.items)) refl (get_or talks t None) refl
  where
    on : (b : Bool) → list_any (λ (o : Offer ℕ). o.by == t) (waiting_of talks order.items) ≡ b → (x : Option (List Branch)) → get_or talks t None ≡ x → is_some x ≡ b
    on true e (Some bs) f = refl
    on true e None f = absurd (let talk = own_talk room channels talks order queues k t (in_order room channels talks order queues k t e) in let some : 0 < length (branches_in None) = subst (λ (x : Option (List Branch)). 0 < length (branches_in x)) f talk.some in omega (arith, some))
    on false e (Some bs) f = absurd (let none = k.talks_none t (not_in_order room channels talks order queues k t e) in let both : Some bs ≡ None = sym f ∙ none in cc)
    on false e None f = refl

-- ---- talks that were made without any

pub none_more : (xs : Talks) → ((t : ℕ) → get_or xs t None ≡ None) → (t : ℕ) → get_or (xs ++ None ∷ []) t None ≡ None
none_more [] h zero = refl
none_more [] h (suc t) = refl
none_more (x ∷ xs) h zero = h zero
none_more (x ∷ xs) h (suc t) = none_more xs (λ u. h (suc u)) t
