-- The waiting list of tasks that blocked in an order, and its queues as a talk comes to wait or goes.
use Rattle.std.proofs.Common.{◌≡◌, ◌≢◌, ℕ, suc, ◌+◌, ◌*◌, ◌/◌, ◌%◌, ◌<◌, ◌≤◌, Bool, true, false, ◌==◌, ◌||◌, List, [], ◌∷◌, ◌++◌, length, set, refl, sym, ap, ap₂, ◌∙◌, subst, ◌⊎◌, inl, inr, arith, append_assoc, append-nil, Option, Some, None, get_or-set_other}
use Rattle.std.specs.List.{AllByRecursion}
use Rattle.std.proofs.lemmas.Bool.Decides.{eqb_tells, nat_tests}
use Rattle.al_event.specs.declared.act.Branch.{Branch}
use Rattle.al_world.specs.Channels.{Channel, Offer}
use Rattle.al_world.specs.Talks.{offers_from}
use Rattle.chan_book.specs.Links.{has, are_different, inserted, without}
use Rattle.chan_book.specs.Book.{branches_in, branches_at, waiting_of, queue_of, node_of, rows, side, IsOnMade, IsTalk, entered, left}
use Rattle.chan_book.proofs.Paths.{has_not_head, has_not_tail, without_none}
use Rattle.chan_book.proofs.Rows.{rows_with, rows_without, rows_has}

abbrev pub Talks : Type 0
Talks = List (Option (List Branch))

-- ---- branches of one talk

-- a waiting branch of another task
pub record IsOther (t : ℕ) (o : Offer ℕ) : Type 0 where
  pub by : o.by ≢ t
  pub number : o.number < 64

other_node : (t j : ℕ) (o : Offer ℕ) → IsOther t o → j < 64 → node_of o ≢ 64 * t + j
other_node t j o h lt = omega (arith, h.by, h.number)

pub others_nodes : (t j : ℕ) (w : List (Offer ℕ)) → AllByRecursion (IsOther t) w → j < 64 → AllByRecursion (λ o. node_of o ≢ 64 * t + j) w
others_nodes t j [] all lt = tt
others_nodes t j (o ∷ w) all lt = (other_node t j o all.0 lt, others_nodes t j w all.1 lt)

-- later branches of the same talk
later_nodes : (t i j : ℕ) (bs : List Branch) (w : List (Offer ℕ)) → AllByRecursion (IsOther t) w → i < j → i < 64 → AllByRecursion (λ o. node_of o ≢ 64 * t + i) (offers_from t j bs ++ w)
later_nodes t i j [] w all lt few = others_nodes t i w all few
later_nodes t i j (b ∷ bs) w all lt few = (omega arith, later_nodes t i (j + 1) bs w all (omega arith) few)

pub all_append : {X : Type 0} (P : X → Type 0) (xs ys : List X) → AllByRecursion P xs → AllByRecursion P ys → AllByRecursion P (xs ++ ys)
all_append P [] ys h k = k
all_append P (x ∷ xs) ys h k = (h.0, all_append P xs ys h.1 k)

-- ---- a talk comes to wait

pub entered_rows : (t i root m : ℕ) (bs : List Branch) (w : List (Offer ℕ)) → AllByRecursion (λ o. node_of o < root) w → 64 * t + i + length bs ≤ root → AllByRecursion (λ b. queue_of b < m) bs → entered root (64 * t + i) bs (rows w root 0 m) ≡ rows (w ++ offers_from t i bs) root 0 m
entered_rows t i root m [] w all le made = ap (λ l. rows l root 0 m) (sym (append-nil w))
entered_rows t i root m (b ∷ bs) w all le made =
    let o : Offer ℕ = record { by = t; number = i; branch = b } in
    let next : suc (64 * t + i) ≡ 64 * t + (i + 1) = omega arith in
    let here : inserted (64 * t + i) (suc (root + queue_of b)) (rows w root 0 m) ≡ rows (w ++ o ∷ []) root 0 m = rows_with w o root 0 m all (omega arith) (omega (arith, made.0)) in
    let more : AllByRecursion (λ (x : Offer ℕ). node_of x < root) (w ++ o ∷ []) = all_append (λ x. node_of x < root) w (o ∷ []) all (omega arith, tt) in
    ap₂ (λ n l. entered root n bs l) next here ∙ entered_rows t (i + 1) root m bs (w ++ o ∷ []) more (omega arith) made.1 ∙ ap (λ l. rows l root 0 m) (append_assoc w (o ∷ []) (offers_from t (i + 1) bs))

-- ---- a talk goes

pub left_rows : (t i root m : ℕ) (bs : List Branch) (v w : List (Offer ℕ)) → AllByRecursion (IsOther t) v → AllByRecursion (IsOther t) w → i + length bs ≤ 64 → 64 * t + 64 ≤ root → left (64 * t + i) (length bs) (rows (v ++ (offers_from t i bs ++ w)) root 0 m) ≡ rows (v ++ w) root 0 m
left_rows t i root m [] v w hv hw few le = refl
left_rows t i root m (b ∷ bs) v w hv hw few le =
    let o : Offer ℕ = record { by = t; number = i; branch = b } in
    let next : suc (64 * t + i) ≡ 64 * t + (i + 1) = omega arith in
    let here : without (64 * t + i) (rows (v ++ o ∷ (offers_from t (i + 1) bs ++ w)) root 0 m) ≡ rows (v ++ (offers_from t (i + 1) bs ++ w)) root 0 m = rows_without v (offers_from t (i + 1) bs ++ w) o root 0 m (others_nodes t i v hv (omega arith)) (later_nodes t i (i + 1) bs w hw (omega arith) (omega arith)) (omega arith) in
    ap₂ (λ n l. left n (length bs) l) next here ∙ left_rows t (i + 1) root m bs v w hv hw (omega arith) le

-- all of its branches are there
pub all_there : (t i root m n : ℕ) (bs : List Branch) (v w : List (Offer ℕ)) → AllByRecursion (λ b. queue_of b < m) bs → 64 * t + i ≤ n → n < 64 * t + i + length bs → has n (rows (v ++ (offers_from t i bs ++ w)) root 0 m) ≡ true
all_there t i root m n [] v w made lo hi = absurd (omega arith)
all_there t i root m n (b ∷ bs) v w made lo hi = on (eqb_tells n (64 * t + i)) (λ past. all_there t (i + 1) root m n bs (v ++ record { by = t; number = i; branch = b } ∷ []) w made.1 past (omega arith))
  where
    o : Offer ℕ
    o = record { by = t; number = i; branch = b }

    on : ((n == 64 * t + i ≡ true) × (n ≡ 64 * t + i)) ⊎ ((n == 64 * t + i ≡ false) × (n ≢ 64 * t + i)) → (64 * t + (i + 1) ≤ n → has n (rows ((v ++ o ∷ []) ++ (offers_from t (i + 1) bs ++ w)) root 0 m) ≡ true) → has n (rows (v ++ o ∷ (offers_from t (i + 1) bs ++ w)) root 0 m) ≡ true
    on (inl e) rest = subst (λ x. has x (rows (v ++ o ∷ (offers_from t (i + 1) bs ++ w)) root 0 m) ≡ true) (sym e.1) (rows_has v (offers_from t (i + 1) bs ++ w) o root 0 m (omega arith) (omega (arith, made.0)))
    on (inr e) rest = subst (λ l. has n (rows l root 0 m) ≡ true) (append_assoc v (o ∷ []) (offers_from t (i + 1) bs ++ w)) (rest (omega (arith, e.1)))

-- ---- the waiting list

pub waiting-append : (talks : Talks) (xs ys : List ℕ) → waiting_of talks (xs ++ ys) ≡ waiting_of talks xs ++ waiting_of talks ys
waiting-append talks [] ys = refl
waiting-append talks (t ∷ xs) ys = ap (λ l. offers_from t 0 (branches_at talks t) ++ l) (waiting-append talks xs ys) ∙ sym (append_assoc (offers_from t 0 (branches_at talks t)) (waiting_of talks xs) (waiting_of talks ys))

-- a change of the talk of a task that does not wait
pub waiting_set : (talks : Talks) (t : ℕ) (x : Option (List Branch)) (xs : List ℕ) → has t xs ≡ false → waiting_of (set talks t x) xs ≡ waiting_of talks xs
waiting_set talks t x [] h = refl
waiting_set talks t x (u ∷ xs) h = ap₂ (λ b l. offers_from u 0 (branches_in b) ++ l) (get_or-set_other talks t u x None (has_not_head t u xs h)) (waiting_set talks t x xs (has_not_tail t u xs h))

pub held_set : (channels : List Channel) (talks : Talks) (t : ℕ) (x : Option (List Branch)) (xs : List ℕ) → has t xs ≡ false → AllByRecursion (λ u. IsTalk channels (branches_at talks u)) xs → AllByRecursion (λ u. IsTalk channels (branches_at (set talks t x) u)) xs
held_set channels talks t x [] h all = tt
held_set channels talks t x (u ∷ xs) h all = (subst (λ b. IsTalk channels (branches_in b)) (sym (get_or-set_other talks t u x None (has_not_head t u xs h))) all.0, held_set channels talks t x xs (has_not_tail t u xs h) all.1)

-- the branches of one talk, as waiting branches
offers_all : (P : Offer ℕ → Type 0) (Q : Branch → Type 0) (t i : ℕ) (bs : List Branch) → ((j : ℕ) (b : Branch) → i ≤ j → j < i + length bs → Q b → P (record { by = t; number = j; branch = b })) → AllByRecursion Q bs → AllByRecursion P (offers_from t i bs)
offers_all P Q t i [] f all = tt
offers_all P Q t i (b ∷ bs) f all = (f i b (omega arith) (omega arith) all.0, offers_all P Q t (i + 1) bs (λ j c lo hi q. f j c (omega arith) (omega arith) q) all.1)

-- a branch on a channel that was made has its queue
side_most : (send : Option (List ℕ)) → side send ≤ 1
side_most None = omega arith
side_most (Some words) = omega arith

pub queue_made : (channels : List Channel) (b : Branch) → IsOnMade channels b → queue_of b < 2 * length channels
queue_made channels b h = omega (arith, h.some, h.made, side_most b.send)

pub queues_made : (channels : List Channel) (bs : List Branch) → AllByRecursion (IsOnMade channels) bs → AllByRecursion (λ b. queue_of b < 2 * length channels) bs
queues_made channels [] all = tt
queues_made channels (b ∷ bs) all = (queue_made channels b all.0, queues_made channels bs all.1)

module _ (channels : List Channel) (talks : Talks) where
  waiting_all : (P : Offer ℕ → Type 0) (Q : ℕ → Type 0) (xs : List ℕ) → ((t j : ℕ) (b : Branch) → Q t → j < 64 → IsOnMade channels b → P (record { by = t; number = j; branch = b })) → AllByRecursion (λ u. IsTalk channels (branches_at talks u)) xs → AllByRecursion Q xs → AllByRecursion P (waiting_of talks xs)
  waiting_all P Q [] f all qs = tt
  waiting_all P Q (t ∷ xs) f all qs =
      let talk = all.0 in
      all_append P (offers_from t 0 (branches_at talks t)) (waiting_of talks xs) (offers_all P (IsOnMade channels) t 0 (branches_at talks t) (λ j b lo hi q. f t j b qs.0 (omega (arith, talk.most)) q) talk.made) (waiting_all P Q xs f all.1 qs.1)

  away : (t : ℕ) (xs : List ℕ) → has t xs ≡ false → AllByRecursion (λ u. u ≢ t) xs
  away t [] h = tt
  away t (u ∷ xs) h = (has_not_head t u xs h, away t xs (has_not_tail t u xs h))

  module _ (xs : List ℕ) (all : AllByRecursion (λ u. IsTalk channels (branches_at talks u)) xs) where
    pub waiting_others : (t : ℕ) → has t xs ≡ false → AllByRecursion (IsOther t) (waiting_of talks xs)
    waiting_others t h = waiting_all (IsOther t) (λ u. u ≢ t) xs (λ u j b q lt on. record { by = q; number = lt }) all (away t xs h)

    pub waiting_below : (room : ℕ) → AllByRecursion (λ u. u < room) xs → AllByRecursion (λ o. node_of o < 64 * room) (waiting_of talks xs)
    waiting_below room within = waiting_all (λ o. node_of o < 64 * room) (λ u. u < room) xs (λ u j b q lt on. omega arith) all within

    units : (xs : List ℕ) → AllByRecursion (λ u. Unit {0}) xs
    units [] = tt
    units (x ∷ xs) = (tt, units xs)

    pub waiting_queues : AllByRecursion (λ o. queue_of o.branch < 2 * length channels) (waiting_of talks xs)
    waiting_queues = waiting_all (λ o. queue_of o.branch < 2 * length channels) (λ u. Unit {0}) xs (λ u j b q lt on. queue_made channels b on) all (units xs)

    -- each is on some channel
    pub waiting_offers : AllByRecursion (λ (o : Offer ℕ). 0 < o.branch.chan) (waiting_of talks xs)
    waiting_offers = waiting_all (λ o. 0 < o.branch.chan) (λ u. Unit {0}) xs (λ u j b q lt on. on.some) all (units xs)

    -- the number of a waiting branch has its task and its number in it
    pub waiting_numbers : (room : ℕ) → AllByRecursion (λ u. u < room) xs → AllByRecursion (λ (o : Offer ℕ). (node_of o / 64 ≡ o.by) × (node_of o % 64 ≡ o.number) × (o.by < room)) (waiting_of talks xs)
    waiting_numbers room within = waiting_all (λ o. (node_of o / 64 ≡ o.by) × (node_of o % 64 ≡ o.number) × (o.by < room)) (λ u. u < room) xs (λ u j b q lt on. (omega arith, omega arith, q)) all within

-- ---- order

-- a list at one of its numbers
pub record SplitAt (x : ℕ) (xs : List ℕ) : Type 0 where
  pub front : List ℕ
  pub back : List ℕ
  pub is : xs ≡ front ++ x ∷ back
  pub not_front : has x front ≡ false
  pub not_back : has x back ≡ false
  pub others : without x xs ≡ front ++ back

pub split_at : (x : ℕ) (xs : List ℕ) → are_different xs ≡ true → has x xs ≡ true → SplitAt x xs
split_at x [] d h = absurd (cc)
split_at x (y ∷ ys) d h = on (eqb_tells y x) (split_at x ys (grind (arith, nat_tests)))
  where
    on : ((y == x ≡ true) × (y ≡ x)) ⊎ ((y == x ≡ false) × (y ≢ x)) → (has x ys ≡ true → SplitAt x ys) → SplitAt x (y ∷ ys)
    on (inl e) rest =
        let none : has x ys ≡ false = grind (arith, nat_tests) in
        record { front = []; back = ys; is = ap (λ z. z ∷ ys) e.1; not_front = refl; not_back = none; others = rw e.0 (without_none x ys none) }
    on (inr e) rest =
        let s = rest (grind (arith, nat_tests)) in
        record { front = y ∷ s.front; back = s.back; is = ap (λ l. y ∷ l) s.is; not_front = ap₂ ◌||◌ e.0 s.not_front; not_back = s.not_back; others = rw e.0 (ap (λ l. y ∷ l) s.others) }

-- ---- who waits

pub is_by : ℕ → Offer ℕ → Bool
is_by t o = o.by == t
