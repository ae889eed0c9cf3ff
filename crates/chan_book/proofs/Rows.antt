-- Queues with their marks in one list, as branches come to wait and go.
use Rattle.std.proofs.Common.{◌≡◌, ◌≢◌, ℕ, zero, suc, ◌+◌, ◌<◌, ◌≤◌, Bool, true, false, cond, ◌==◌, ◌||◌, List, [], ◌∷◌, ◌++◌, filter, refl, sym, ap, ap₂, ◌∙◌, ◌⊎◌, inl, inr, arith, eq-eqb, ne_eqb, append_assoc, append-nil, zero-add, add-zero}
use Rattle.std.specs.List.{AllByRecursion}
use Rattle.std.proofs.lemmas.List.{map-append}
use Rattle.std.proofs.lemmas.Bool.Decides.{eqb_tells}
use Rattle.al_world.specs.Channels.{Offer}
use Rattle.chan_book.specs.Links.{has, inserted, without}
use Rattle.chan_book.specs.Book.{queue_of, node_of, in_queue, nodes, rows}
use Rattle.chan_book.proofs.Paths.{has_not_head, has_not_tail, without_none}

-- ---- lists

pub filter-append : {X : Type 0} (test : X → Bool) (xs ys : List X) → filter test (xs ++ ys) ≡ filter test xs ++ filter test ys
filter-append test [] ys = refl
filter-append test (x ∷ xs) ys = elim (test x) as (λ b. cond b (x ∷ filter test (xs ++ ys)) (filter test (xs ++ ys)) ≡ cond b (x ∷ filter test xs) (filter test xs) ++ filter test ys) [ true ↦ ap (λ l. x ∷ l) (filter-append test xs ys) | false ↦ filter-append test xs ys ]

pub has-append : (x : ℕ) (xs ys : List ℕ) → has x (xs ++ ys) ≡ (has x xs || has x ys)
has-append x [] ys = refl
has-append x (z ∷ xs) ys = elim (z == x) as (λ b. (b || has x (xs ++ ys)) ≡ ((b || has x xs) || has x ys)) [ true ↦ refl | false ↦ has-append x xs ys ]

pub inserted-append : (x at : ℕ) (xs ys : List ℕ) → has at xs ≡ false → inserted x at (xs ++ ys) ≡ xs ++ inserted x at ys
inserted-append x at [] ys h = refl
inserted-append x at (z ∷ xs) ys h = rw (ne_eqb z at (has_not_head at z xs h)) (ap (λ l. z ∷ l) (inserted-append x at xs ys (has_not_tail at z xs h)))

pub without-append : (x : ℕ) (xs ys : List ℕ) → without x (xs ++ ys) ≡ without x xs ++ without x ys
without-append x [] ys = refl
without-append x (z ∷ xs) ys = elim (z == x) as (λ b. cond b (without x (xs ++ ys)) (z ∷ without x (xs ++ ys)) ≡ cond b (without x xs) (z ∷ without x xs) ++ without x ys) [ true ↦ without-append x xs ys | false ↦ ap (λ l. z ∷ l) (without-append x xs ys) ]

-- ---- one queue

-- a number that is no waiting branch's is in no queue
pub absent : (x q : ℕ) (w : List (Offer ℕ)) → AllByRecursion (λ o. node_of o ≢ x) w → has x (nodes (in_queue q w)) ≡ false
absent x q [] all = refl
absent x q (o ∷ w) all = elim (queue_of o.branch == q) as (λ b. has x (nodes (cond b (o ∷ in_queue q w) (in_queue q w))) ≡ false) [ true ↦ rw (ne_eqb (node_of o) x all.0) (absent x q w all.1) | false ↦ absent x q w all.1 ]

-- nor is one that is above all
pub absent_above : (x root q : ℕ) (w : List (Offer ℕ)) → AllByRecursion (λ o. node_of o < root) w → root ≤ x → has x (nodes (in_queue q w)) ≡ false
absent_above x root q w all le = absent x q w (away w all)
  where
    away : (w : List (Offer ℕ)) → AllByRecursion (λ o. node_of o < root) w → AllByRecursion (λ o. node_of o ≢ x) w
    away [] all = tt
    away (o ∷ w) all = (omega (arith, all.0), away w all.1)

pub queue-append : (q : ℕ) (v w : List (Offer ℕ)) → nodes (in_queue q (v ++ w)) ≡ nodes (in_queue q v) ++ nodes (in_queue q w)
queue-append q v w = ap nodes (filter-append _ v w) ∙ map-append node_of (in_queue q v) (in_queue q w)

-- ---- a branch more

-- in the queues before its own and behind it nothing changes
queue-other : (q : ℕ) (w : List (Offer ℕ)) (o : Offer ℕ) → queue_of o.branch ≢ q → nodes (in_queue q (w ++ o ∷ [])) ≡ nodes (in_queue q w)
queue-other q w o ne = queue-append q w (o ∷ []) ∙ rw (ne_eqb (queue_of o.branch) q ne) (append-nil (nodes (in_queue q w)))

queue-own : (q : ℕ) (w : List (Offer ℕ)) (o : Offer ℕ) → queue_of o.branch ≡ q → nodes (in_queue q (w ++ o ∷ [])) ≡ nodes (in_queue q w) ++ node_of o ∷ []
queue-own q w o e = queue-append q w (o ∷ []) ∙ rw (eq-eqb (queue_of o.branch) q e) refl

rows-past : (w : List (Offer ℕ)) (o : Offer ℕ) (root q m : ℕ) → queue_of o.branch < q → rows (w ++ o ∷ []) root q m ≡ rows w root q m
rows-past w o root q zero lt = refl
rows-past w o root q (suc m) lt = ap₂ (λ l k. l ++ suc (root + q) ∷ k) (queue-other q w o (omega arith)) (rows-past w o root (suc q) m (omega arith))

pub rows_with : (w : List (Offer ℕ)) (o : Offer ℕ) (root q m : ℕ) → AllByRecursion (λ o. node_of o < root) w → q ≤ queue_of o.branch → queue_of o.branch < q + m → inserted (node_of o) (suc (root + queue_of o.branch)) (rows w root q m) ≡ rows (w ++ o ∷ []) root q m
rows_with w o root q zero all le lt = absurd (omega arith)
rows_with w o root q (suc m) all le lt =
    inserted-append (node_of o) (suc (root + queue_of o.branch)) (nodes (in_queue q w)) (suc (root + q) ∷ rows w root (suc q) m) (absent_above (suc (root + queue_of o.branch)) root q w all (omega arith)) ∙ on (eqb_tells (queue_of o.branch) q) (λ lo. rows_with w o root (suc q) m all lo (omega arith))
  where
    mark : ℕ
    mark = suc (root + queue_of o.branch)

    on : ((queue_of o.branch == q ≡ true) × (queue_of o.branch ≡ q)) ⊎ ((queue_of o.branch == q ≡ false) × (queue_of o.branch ≢ q)) → (suc q ≤ queue_of o.branch → inserted (node_of o) mark (rows w root (suc q) m) ≡ rows (w ++ o ∷ []) root (suc q) m) → nodes (in_queue q w) ++ inserted (node_of o) mark (suc (root + q) ∷ rows w root (suc q) m) ≡ nodes (in_queue q (w ++ o ∷ [])) ++ suc (root + q) ∷ rows (w ++ o ∷ []) root (suc q) m
    on (inl e) rest =
        let same : suc (root + q) ≡ mark = ap (λ k. suc (root + k)) (sym e.1) in
        rw (eq-eqb (suc (root + q)) mark same) (sym (ap₂ (λ l k. l ++ suc (root + q) ∷ k) (queue-own q w o e.1) (rows-past w o root (suc q) m (omega arith)) ∙ append_assoc (nodes (in_queue q w)) (node_of o ∷ []) (suc (root + q) ∷ rows w root (suc q) m)))
    on (inr e) rest =
        let off : suc (root + q) ≢ mark = omega (arith, e.1) in
        rw (ne_eqb (suc (root + q)) mark off) (ap₂ (λ l k. l ++ suc (root + q) ∷ k) (sym (queue-other q w o e.1)) (rest (omega (arith, e.1))))

-- ---- a branch less

queue_without : (v w : List (Offer ℕ)) (o : Offer ℕ) (q : ℕ) → AllByRecursion (λ x. node_of x ≢ node_of o) v → AllByRecursion (λ x. node_of x ≢ node_of o) w → without (node_of o) (nodes (in_queue q (v ++ o ∷ w))) ≡ nodes (in_queue q (v ++ w))
queue_without v w o q hv hw =
    ap (without (node_of o)) (queue-append q v (o ∷ w)) ∙ without-append (node_of o) (nodes (in_queue q v)) (nodes (in_queue q (o ∷ w))) ∙ ap₂ ◌++◌ (without_none (node_of o) (nodes (in_queue q v)) (absent (node_of o) q v hv)) (here (queue_of o.branch == q)) ∙ sym (queue-append q v w)
  where
    rest : without (node_of o) (nodes (in_queue q w)) ≡ nodes (in_queue q w)
    rest = without_none (node_of o) (nodes (in_queue q w)) (absent (node_of o) q w hw)

    here : (b : Bool) → without (node_of o) (nodes (cond b (o ∷ in_queue q w) (in_queue q w))) ≡ nodes (in_queue q w)
    here true = rw (eq-eqb (node_of o) (node_of o) refl) rest
    here false = rest

pub rows_without : (v w : List (Offer ℕ)) (o : Offer ℕ) (root q m : ℕ) → AllByRecursion (λ x. node_of x ≢ node_of o) v → AllByRecursion (λ x. node_of x ≢ node_of o) w → node_of o < root → without (node_of o) (rows (v ++ o ∷ w) root q m) ≡ rows (v ++ w) root q m
rows_without v w o root q zero hv hw lt = refl
rows_without v w o root q (suc m) hv hw lt =
    let off : suc (root + q) ≢ node_of o = omega arith in
    without-append (node_of o) (nodes (in_queue q (v ++ o ∷ w))) (suc (root + q) ∷ rows (v ++ o ∷ w) root (suc q) m) ∙ ap₂ ◌++◌ (queue_without v w o q hv hw) (rw (ne_eqb (suc (root + q)) (node_of o) off) (ap (λ l. suc (root + q) ∷ l) (rows_without v w o root (suc q) m hv hw lt)))

-- ---- what stands there

or_right : (a b : Bool) → b ≡ true → (a || b) ≡ true
or_right true b h = refl
or_right false b h = h

or_left : (a b : Bool) → a ≡ true → (a || b) ≡ true
or_left true b h = refl
or_left false b h = absurd (cc)

or_none : (a b : Bool) → a ≡ false → b ≡ false → (a || b) ≡ false
or_none a b h k = ap₂ ◌||◌ h k

-- a waiting branch
pub rows_has : (v w : List (Offer ℕ)) (o : Offer ℕ) (root q m : ℕ) → q ≤ queue_of o.branch → queue_of o.branch < q + m → has (node_of o) (rows (v ++ o ∷ w) root q m) ≡ true
rows_has v w o root q zero le lt = absurd (omega arith)
rows_has v w o root q (suc m) le lt =
    has-append (node_of o) (nodes (in_queue q (v ++ o ∷ w))) (suc (root + q) ∷ rows (v ++ o ∷ w) root (suc q) m) ∙ on (eqb_tells (queue_of o.branch) q) (λ lo. rows_has v w o root (suc q) m lo (omega arith))
  where
    own : queue_of o.branch == q ≡ true → has (node_of o) (nodes (in_queue q (v ++ o ∷ w))) ≡ true
    own e = ap (has (node_of o)) (queue-append q v (o ∷ w)) ∙ has-append (node_of o) (nodes (in_queue q v)) (nodes (in_queue q (o ∷ w))) ∙ or_right (has (node_of o) (nodes (in_queue q v))) (has (node_of o) (nodes (in_queue q (o ∷ w)))) (rw e (or_left (node_of o == node_of o) (has (node_of o) (nodes (in_queue q w))) (eq-eqb (node_of o) (node_of o) refl)))

    on : ((queue_of o.branch == q ≡ true) × (queue_of o.branch ≡ q)) ⊎ ((queue_of o.branch == q ≡ false) × (queue_of o.branch ≢ q)) → (suc q ≤ queue_of o.branch → has (node_of o) (rows (v ++ o ∷ w) root (suc q) m) ≡ true) → (has (node_of o) (nodes (in_queue q (v ++ o ∷ w))) || ((suc (root + q) == node_of o) || has (node_of o) (rows (v ++ o ∷ w) root (suc q) m))) ≡ true
    on (inl e) rest = or_left (has (node_of o) (nodes (in_queue q (v ++ o ∷ w)))) ((suc (root + q) == node_of o) || has (node_of o) (rows (v ++ o ∷ w) root (suc q) m)) (own e.0)
    on (inr e) rest = or_right (has (node_of o) (nodes (in_queue q (v ++ o ∷ w)))) ((suc (root + q) == node_of o) || has (node_of o) (rows (v ++ o ∷ w) root (suc q) m)) (or_right (suc (root + q) == node_of o) (has (node_of o) (rows (v ++ o ∷ w) root (suc q) m)) (rest (omega (arith, e.1))))

-- no other number up to the root
pub rows_has_not : (x : ℕ) (w : List (Offer ℕ)) (root q m : ℕ) → AllByRecursion (λ o. node_of o ≢ x) w → x ≤ root → has x (rows w root q m) ≡ false
rows_has_not x w root q zero all le = refl
rows_has_not x w root q (suc m) all le =
    let off : suc (root + q) ≢ x = omega arith in
    has-append x (nodes (in_queue q w)) (suc (root + q) ∷ rows w root (suc q) m) ∙ or_none (has x (nodes (in_queue q w))) (has x (suc (root + q) ∷ rows w root (suc q) m)) (absent x q w all) (rw (ne_eqb (suc (root + q)) x off) (rows_has_not x w root (suc q) m all le))

-- the mark of each queue
pub rows_mark : (k : ℕ) (w : List (Offer ℕ)) (root q m : ℕ) → q ≤ k → k < q + m → has (suc (root + k)) (rows w root q m) ≡ true
rows_mark k w root q zero le lt = absurd (omega arith)
rows_mark k w root q (suc m) le lt =
    has-append (suc (root + k)) (nodes (in_queue q w)) (suc (root + q) ∷ rows w root (suc q) m) ∙ or_right (has (suc (root + k)) (nodes (in_queue q w))) (has (suc (root + k)) (suc (root + q) ∷ rows w root (suc q) m)) (on (eqb_tells k q) (λ lo. rows_mark k w root (suc q) m lo (omega arith)))
  where
    on : ((k == q ≡ true) × (k ≡ q)) ⊎ ((k == q ≡ false) × (k ≢ q)) → (suc q ≤ k → has (suc (root + k)) (rows w root (suc q) m) ≡ true) → ((suc (root + q) == suc (root + k)) || has (suc (root + k)) (rows w root (suc q) m)) ≡ true
    on (inl e) rest = or_left (suc (root + q) == suc (root + k)) (has (suc (root + k)) (rows w root (suc q) m)) (eq-eqb (suc (root + q)) (suc (root + k)) (ap (λ z. suc (root + z)) (sym e.1)))
    on (inr e) rest = or_right (suc (root + q) == suc (root + k)) (has (suc (root + k)) (rows w root (suc q) m)) (rest (omega (arith, e.1)))

-- ---- a channel more

-- a queue that no branch waits in
empty_queue : (q : ℕ) (w : List (Offer ℕ)) → AllByRecursion (λ o. queue_of o.branch < q) w → in_queue q w ≡ []
empty_queue q [] all = refl
empty_queue q (o ∷ w) all = let off : queue_of o.branch ≢ q = omega (arith, all.0) in rw (ne_eqb (queue_of o.branch) q off) (empty_queue q w all.1)

one_row : (w : List (Offer ℕ)) (root q : ℕ) → AllByRecursion (λ o. queue_of o.branch < q) w → rows w root q 1 ≡ suc (root + q) ∷ []
one_row w root q all = rw (empty_queue q w all) refl

rows-add : (w : List (Offer ℕ)) (root q m n : ℕ) → rows w root q (m + n) ≡ rows w root q m ++ rows w root (q + m) n
rows-add w root q zero n = rw (zero-add n, add-zero) refl
rows-add w root q (suc m) n =
    let step : suc m + n ≡ suc (m + n) = omega arith in
    let place : q + suc m ≡ suc q + m = omega arith in
    rw (step, place) (ap (λ l. nodes (in_queue q w) ++ suc (root + q) ∷ l) (rows-add w root (suc q) m n) ∙ sym (append_assoc (nodes (in_queue q w)) (suc (root + q) ∷ rows w root (suc q) m) (rows w root (suc q + m) n)))

above : (w : List (Offer ℕ)) (q : ℕ) → AllByRecursion (λ o. queue_of o.branch < q) w → AllByRecursion (λ o. queue_of o.branch < suc q) w
above [] q all = tt
above (o ∷ w) q all = (omega (arith, all.0), above w q all.1)

pub rows_two : (w : List (Offer ℕ)) (root m : ℕ) → AllByRecursion (λ o. queue_of o.branch < m) w → rows w root 0 (m + 2) ≡ rows w root 0 m ++ suc (root + m) ∷ suc (root + suc m) ∷ []
rows_two w root m all =
    rows-add w root 0 m 2 ∙ ap (λ l. rows w root 0 m ++ l) (rw (zero-add m, empty_queue m w all, empty_queue (suc m) w (above w m all)) refl)
