-- What a branch can go with, by the queues.
use Rattle.std.proofs.Common.{◌≡◌, ◌≢◌, ℕ, zero, suc, ◌+◌, ◌-◌, ◌*◌, ◌/◌, ◌%◌, ◌<◌, ◌≤◌, Bool, true, false, cond, ◌==◌, ◌&&◌, ◌||◌, ltb, if◌then◌else◌, List, [], ◌∷◌, ◌++◌, length, map, filter, min, refl, sym, ap, ap₂, ◌∙◌, subst, subst₂, ◌⊎◌, inl, inr, arith, eq-eqb, ne_eqb, Option, Some, None, option_map, slice_get, is_some, is_none}
use Rattle.std.specs.List.{AllByRecursion, list_any}
use Rattle.std.proofs.lemmas.List.{length-map}
use Rattle.std.proofs.lemmas.Option.{same_Some}
use Rattle.chan_book.specs.Named.{waiter_of}
use Rattle.std.proofs.lemmas.Bool.Decides.{eqb_tells, nat_tests}
use Rattle.al_event.specs.declared.act.Branch.{Branch}
use Rattle.al_world.specs.Channels.{Channel, Offer, is_opposite, opposites, pair, pairs_at, is_open}
use Rattle.chan_book.specs.Links.{Ring, has, behind, until}
use Rattle.chan_book.specs.Book.{queue_of, node_of, side, other_side, opposite_queue, in_queue, nodes, rows, waiting_of, IsOnMade, IsKept, IsStart, queue_in}
use Rattle.chan_book.proofs.Paths.{has_not_head, has_not_tail}
use Rattle.chan_book.proofs.Rows.{absent_above, rows_mark}
use Rattle.chan_book.proofs.Waiting.{Talks, waiting_below, waiting_offers, waiting_numbers}
use Rattle.chan_book.proofs.Kept.{order_within}

behind-append : (x : ℕ) (xs ys : List ℕ) → has x xs ≡ false → behind x (xs ++ ys) ≡ behind x ys
behind-append x [] ys h = refl
behind-append x (z ∷ xs) ys h = rw (ne_eqb z x (has_not_head x z xs h)) (behind-append x xs ys (has_not_tail x z xs h))

-- behind the mark of a queue stand the queues that follow it
rows_behind : (k : ℕ) (w : List (Offer ℕ)) (root q m : ℕ) → AllByRecursion (λ o. node_of o < root) w → q ≤ k → k < q + m → behind (suc (root + k)) (rows w root q m) ≡ rows w root (suc k) (q + m - suc k)
rows_behind k w root q zero all le lt = absurd (omega arith)
rows_behind k w root q (suc m) all le lt =
    behind-append (suc (root + k)) (nodes (in_queue q w)) (suc (root + q) ∷ rows w root (suc q) m) (absent_above (suc (root + k)) root q w all (omega arith)) ∙ on (eqb_tells k q) (λ lo. rows_behind k w root (suc q) m all lo (omega arith))
  where
    on : ((k == q ≡ true) × (k ≡ q)) ⊎ ((k == q ≡ false) × (k ≢ q)) → (suc q ≤ k → behind (suc (root + k)) (rows w root (suc q) m) ≡ rows w root (suc k) (suc q + m - suc k)) → behind (suc (root + k)) (suc (root + q) ∷ rows w root (suc q) m) ≡ rows w root (suc k) (q + suc m - suc k)
    on (inl e) rest =
        let same : suc (root + q) ≡ suc (root + k) = ap (λ z. suc (root + z)) (sym e.1) in
        let many : m ≡ q + suc m - suc k = omega (arith, e.1) in
        rw (eq-eqb (suc (root + q)) (suc (root + k)) same) (ap₂ (λ a b. rows w root (suc a) b) (sym e.1) many)
    on (inr e) rest =
        let off : suc (root + q) ≢ suc (root + k) = omega (arith, e.1) in
        let many : suc q + m - suc k ≡ q + suc m - suc k = omega arith in
        rw (ne_eqb (suc (root + q)) (suc (root + k)) off) (rest (omega (arith, e.1)) ∙ ap (rows w root (suc k)) many)

until_nodes : (root : ℕ) (w : List (Offer ℕ)) (x : ℕ) (rest : List ℕ) → AllByRecursion (λ o. node_of o < root) w → root ≤ x → until root (nodes w ++ x ∷ rest) ≡ nodes w
until_nodes root [] x rest all le = let past : ltb x root ≡ false = grind (arith, nat_tests) in rw past refl
until_nodes root (o ∷ w) x rest all le = let here : ltb (node_of o) root ≡ true = grind (arith, nat_tests, all.0) in rw here (ap (λ l. node_of o ∷ l) (until_nodes root w x rest all.1 le))

all_filter : {X : Type 0} (P : X → Type 0) (test : X → Bool) (xs : List X) → AllByRecursion P xs → AllByRecursion P (filter test xs)
all_filter P test [] all = tt
all_filter P test (x ∷ xs) all = elim (test x) as (λ b. AllByRecursion P (cond b (x ∷ filter test xs) (filter test xs))) [ true ↦ (all.0, all_filter P test xs all.1) | false ↦ all_filter P test xs all.1 ]

-- the first of the queues that follow
first_row : (w : List (Offer ℕ)) (root q m : ℕ) → AllByRecursion (λ o. node_of o < root) w → 0 < m → until root (rows w root q m) ≡ nodes (in_queue q w)
first_row w root q zero all lt = absurd (omega arith)
first_row w root q (suc m) all lt = until_nodes root (in_queue q w) (suc (root + q)) (rows w root (suc q) m) (all_filter (λ o. node_of o < root) (λ o. queue_of o.branch == q) w all) (omega arith)

any_either : {X : Type 0} (P : X → Type 0) (f g h : X → Bool) (xs : List X) → ((x : X) → P x → f x ≡ (g x || h x)) → AllByRecursion P xs → list_any f xs ≡ (list_any g xs || list_any h xs)
any_either P f g h [] e all = refl
any_either P f g h (x ∷ xs) e all = ap₂ ◌||◌ (e x all.0) (any_either P f g h xs e all.1) ∙ regroup (g x) (h x) (list_any g xs) (list_any h xs)
  where
    regroup : (a b c d : Bool) → ((a || b) || (c || d)) ≡ ((a || c) || (b || d))
    regroup true b c d = refl
    regroup false true true d = refl
    regroup false true false d = refl
    regroup false false c d = refl

-- a filter has an element where some element passes
filtered : (test : Offer ℕ → Bool) (w : List (Offer ℕ)) → ltb 0 (min 1 (length (nodes (filter test w)))) ≡ list_any test w
filtered test [] = refl
filtered test (o ∷ w) = on (test o) (filtered test w)
  where
    on : (b : Bool) → ltb 0 (min 1 (length (nodes (filter test w)))) ≡ list_any test w → ltb 0 (min 1 (length (nodes (cond b (o ∷ filter test w) (filter test w))))) ≡ (b || list_any test w)
    on true rest = let one : 0 < min 1 (suc (length (nodes (filter test w)))) = omega arith in grind (arith, nat_tests, one)
    on false rest = rest

-- the waiting branch whose number is found at a place
found : (w : List (Offer ℕ)) (room place n node : ℕ) → AllByRecursion (λ (o : Offer ℕ). (node_of o / 64 ≡ o.by) × (node_of o % 64 ≡ o.number) × (o.by < room)) w → n ≡ min place (length (nodes w)) → slice_get (nodes w) n ≡ Some node → option_map waiter_of (slice_get w place) ≡ Some (record { task = node / 64; number = node % 64 })
found [] room place n node all e g = absurd (cc)
found (o ∷ w) room zero n node all e g =
    let first : n ≡ 0 = omega arith in
    let is : node_of o ≡ node = same_Some _ _ (subst (λ i. slice_get (nodes (o ∷ w)) i ≡ Some node) first g) in
    let h = all.0 in
    ap₂ (λ t i. Some (record { task = t; number = i })) (sym h.0 ∙ ap (λ x. x / 64) is) (sym h.1 ∙ ap (λ x. x % 64) is)
found (o ∷ w) room (suc place) n node all e g = on n e g (found w room place)
  where
    on : (n : ℕ) → n ≡ min (suc place) (length (nodes (o ∷ w))) → slice_get (nodes (o ∷ w)) n ≡ Some node → ((n node : ℕ) → AllByRecursion (λ (o : Offer ℕ). (node_of o / 64 ≡ o.by) × (node_of o % 64 ≡ o.number) × (o.by < room)) w → n ≡ min place (length (nodes w)) → slice_get (nodes w) n ≡ Some node → option_map waiter_of (slice_get w place) ≡ Some (record { task = node / 64; number = node % 64 })) → option_map waiter_of (slice_get w place) ≡ Some (record { task = node / 64; number = node % 64 })
    on zero e g rest = absurd (omega arith)
    on (suc m) e g rest = let less : m ≡ min place (length (nodes w)) = omega arith in rest m node all.1 less g

missing : (w : List (Offer ℕ)) (place n : ℕ) → n ≡ min place (length (nodes w)) → slice_get (nodes w) n ≡ None → option_map waiter_of (slice_get w place) ≡ None
missing [] place n e g = refl
missing (o ∷ w) zero n e g = let first : n ≡ 0 = omega arith in absurd (let h = subst (λ i. slice_get (nodes (o ∷ w)) i ≡ None) first g in cc)
missing (o ∷ w) (suc place) n e g = on n e g (missing w place)
  where
    on : (n : ℕ) → n ≡ min (suc place) (length (nodes (o ∷ w))) → slice_get (nodes (o ∷ w)) n ≡ None → ((n : ℕ) → n ≡ min place (length (nodes w)) → slice_get (nodes w) n ≡ None → option_map waiter_of (slice_get w place) ≡ None) → option_map waiter_of (slice_get w place) ≡ None
    on zero e g rest = absurd (omega arith)
    on (suc m) e g rest = let less : m ≡ min place (length (nodes w)) = omega arith in rest m less g

module _ (room : ℕ) (channels : List Channel) (talks : Talks) (order queues : Ring) (k : IsKept room channels talks order queues) where
  abbrev waiting : List (Offer ℕ)
  waiting = waiting_of talks order.items

  abbrev root : ℕ
  root = 64 * room

  below : AllByRecursion (λ o. node_of o < 64 * room) waiting
  below = waiting_below channels talks order.items k.talks_held room (order_within room channels talks order queues k)

  module _ (q : ℕ) (lt : q < 2 * length channels) where
    pub starts : IsStart queues q
    starts = record { is = on q lt }
      where
        on : (q : ℕ) → q < 2 * length channels → (q ≡ 0) ⊎ (has (queues.root + q) queues.items ≡ true)
        on zero lt = inl refl
        on (suc j) lt =
            let place : suc (64 * room + j) ≡ 64 * room + suc j = omega arith in
            inr (subst₂ (λ r l. has (r + suc j) l ≡ true) (sym k.queues_root) (sym k.queues_held) (subst (λ x. has x (rows waiting (64 * room) 0 (2 * length channels)) ≡ true) place (rows_mark j waiting (64 * room) 0 (2 * length channels) (omega arith) (omega arith))))

    -- the numbers of a queue are those of the branches that wait in it
    pub queue_kept : queue_in queues q ≡ nodes (in_queue q waiting)
    queue_kept = subst₂ (λ r l. until r (behind (r + q) (r ∷ l)) ≡ nodes (in_queue q waiting)) (sym k.queues_root) (sym k.queues_held) (on q lt)
      where
        on : (q : ℕ) → q < 2 * length channels → until (64 * room) (behind (64 * room + q) (64 * room ∷ rows waiting (64 * room) 0 (2 * length channels))) ≡ nodes (in_queue q waiting)
        on zero lt = rw (eq-eqb (64 * room) (64 * room + 0) (omega arith)) (first_row waiting (64 * room) 0 (2 * length channels) below (omega arith))
        on (suc j) lt =
            let off : 64 * room ≢ 64 * room + suc j = omega arith in
            let place : 64 * room + suc j ≡ suc (64 * room + j) = omega arith in
            rw (ne_eqb (64 * room) (64 * room + suc j) off) (ap (λ x. until (64 * room) (behind x (rows waiting (64 * room) 0 (2 * length channels)))) place ∙ ap (until (64 * room)) (rows_behind j waiting (64 * room) 0 (2 * length channels) below (omega arith) (omega arith)) ∙ first_row waiting (64 * room) (suc j) (0 + 2 * length channels - suc j) below (omega arith))

  -- ---- opposite branches

  opposite_test : (b : Branch) (o : Offer ℕ) → 0 < b.chan → 0 < o.branch.chan → is_opposite b o.branch ≡ (queue_of o.branch == opposite_queue b)
  opposite_test b o some other = on b.send o.branch.send
    where
      on : (s t : Option (List ℕ)) → ((b.chan == o.branch.chan) && cond (is_some s) (is_none t) (is_some t)) ≡ (2 * (o.branch.chan - 1) + side t == 2 * (b.chan - 1) + other_side s)
      on None None = grind (arith, nat_tests)
      on None (Some y) = grind (arith, nat_tests)
      on (Some x) None = grind (arith, nat_tests)
      on (Some x) (Some y) = grind (arith, nat_tests)

  same_filter : {X : Type 0} (P : X → Type 0) (f g : X → Bool) (xs : List X) → ((x : X) → P x → f x ≡ g x) → AllByRecursion P xs → filter f xs ≡ filter g xs
  same_filter P f g [] h all = refl
  same_filter P f g (x ∷ xs) h all = ap₂ (λ b l. cond b (x ∷ l) l) (h x all.0) (same_filter P f g xs h all.1)

  pub opposites_kept : (b : Branch) → 0 < b.chan → opposites waiting b ≡ in_queue (opposite_queue b) waiting
  opposites_kept b some = same_filter (λ (o : Offer ℕ). 0 < o.branch.chan) _ _ waiting (λ o h. opposite_test b o some h) (waiting_offers channels talks order.items k.talks_held)

  other_most : (send : Option (List ℕ)) → other_side send ≤ 1
  other_most None = omega arith
  other_most (Some words) = omega arith

  pub opposite_below : (b : Branch) → IsOnMade channels b → opposite_queue b < 2 * length channels
  opposite_below b h = omega (arith, h.some, h.made, other_most b.send)

  -- the waiting branch of a number
  pub number_of_node : AllByRecursion (λ (o : Offer ℕ). (node_of o / 64 ≡ o.by) × (node_of o % 64 ≡ o.number) × (o.by < room)) waiting
  number_of_node = waiting_numbers channels talks order.items k.talks_held room (order_within room channels talks order queues k)

  -- ---- who waits for a channel

  either_test : (c : ℕ) (o : Offer ℕ) → 0 < c → 0 < o.branch.chan → (o.branch.chan == c) ≡ ((queue_of o.branch == 2 * (c - 1)) || (queue_of o.branch == 2 * (c - 1) + 1))
  either_test c o some other = on o.branch.send
    where
      on : (t : Option (List ℕ)) → (o.branch.chan == c) ≡ ((2 * (o.branch.chan - 1) + side t == 2 * (c - 1)) || (2 * (o.branch.chan - 1) + side t == 2 * (c - 1) + 1))
      on None = grind (arith, nat_tests)
      on (Some y) = grind (arith, nat_tests)

  pub waited : (c : ℕ) → 0 < c → list_any (λ (o : Offer ℕ). o.branch.chan == c) waiting ≡ (list_any (λ (o : Offer ℕ). queue_of o.branch == 2 * (c - 1)) waiting || list_any (λ (o : Offer ℕ). queue_of o.branch == 2 * (c - 1) + 1) waiting)
  waited c some = any_either (λ (o : Offer ℕ). 0 < o.branch.chan) (λ o. o.branch.chan == c) (λ o. queue_of o.branch == 2 * (c - 1)) (λ o. queue_of o.branch == 2 * (c - 1) + 1) waiting (λ o h. either_test c o some h) (waiting_offers channels talks order.items k.talks_held)

  -- a first step along a queue shows whether a branch waits in it
  pub any_queue : (q n : ℕ) → q < 2 * length channels → n ≡ min 1 (length (queue_in queues q)) → ltb 0 n ≡ list_any (λ (o : Offer ℕ). queue_of o.branch == q) waiting
  any_queue q n lt e = ap (ltb 0) (e ∙ ap (λ l. min 1 (length l)) (queue_kept q lt)) ∙ filtered (λ o. queue_of o.branch == q) waiting

  -- ---- pairs

  pub pairs_unbuffered : (b : Branch) (ch : Channel) (n most : ℕ) → IsOnMade channels b → ch.capacity ≡ 0 → n ≡ min most (length (queue_in queues (opposite_queue b))) → n ≡ min most (length (pairs_at waiting 0 b (Some ch)))
  pairs_unbuffered b ch n most made none e =
      e ∙ ap (λ l. min most (length l)) (queue_kept (opposite_queue b) (opposite_below b made) ∙ ap nodes (sym (opposites_kept b made.some))) ∙ ap (min most) (length-map (opposites waiting b) node_of ∙ sym (length-map (opposites waiting b) (λ (o : Offer ℕ). pair 0 b (Some o))) ∙ ap length (sym (unbuffered ch.capacity none)))
    where
      unbuffered : (n : ℕ) → n ≡ 0 → (if n == 0 then map (λ (o : Offer ℕ). pair 0 b (Some o)) (opposites waiting b) else (if is_open ch b.send then pair 0 b None ∷ [] else [])) ≡ map (λ (o : Offer ℕ). pair 0 b (Some o)) (opposites waiting b)
      unbuffered n none = rw (eq-eqb n 0 none) refl

  -- ---- a branch at a place

  numbers : (b : Branch) → AllByRecursion (λ (o : Offer ℕ). (node_of o / 64 ≡ o.by) × (node_of o % 64 ≡ o.number) × (o.by < room)) (opposites waiting b)
  numbers b = all_filter _ (λ (o : Offer ℕ). is_opposite b o.branch) waiting number_of_node

  pub opposite_some : (b : Branch) (place n node : ℕ) → IsOnMade channels b → n ≡ min place (length (queue_in queues (opposite_queue b))) → slice_get (queue_in queues (opposite_queue b)) n ≡ Some node → option_map waiter_of (slice_get (opposites waiting b) place) ≡ Some (record { task = node / 64; number = node % 64 })
  opposite_some b place n node made e g =
      let queue : queue_in queues (opposite_queue b) ≡ nodes (opposites waiting b) = queue_kept (opposite_queue b) (opposite_below b made) ∙ ap nodes (sym (opposites_kept b made.some)) in
      found (opposites waiting b) room place n node (numbers b) (e ∙ ap (λ l. min place (length l)) queue) (subst (λ l. slice_get l n ≡ Some node) queue g)

  pub opposite_none : (b : Branch) (place n : ℕ) → IsOnMade channels b → n ≡ min place (length (queue_in queues (opposite_queue b))) → slice_get (queue_in queues (opposite_queue b)) n ≡ None → option_map waiter_of (slice_get (opposites waiting b) place) ≡ None
  opposite_none b place n made e g =
      let queue : queue_in queues (opposite_queue b) ≡ nodes (opposites waiting b) = queue_kept (opposite_queue b) (opposite_below b made) ∙ ap nodes (sym (opposites_kept b made.some)) in
      missing (opposites waiting b) place n (e ∙ ap (λ l. min place (length l)) queue) (subst (λ l. slice_get l n ≡ None) queue g)
