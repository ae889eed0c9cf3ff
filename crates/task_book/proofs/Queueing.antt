-- Queues: a push adds a slot at the end of its queue, and leaves each queue that has not its last slot.
use Rattle.std.proofs.Common.{◌≡◌, ◌≢◌, ℕ, zero, suc, ◌+◌, ◌-◌, ◌<◌, Bool, true, false, ◌||◌, not, ◌==◌, List, [], ◌∷◌, ◌++◌, length, set, get_or, refl, sym, ap, ◌∙◌, subst, arith, get_or-set_other, get_or-set_same, add-one, ◌⊎◌, inl, inr, cond}
use Rattle.std.proofs.Math.ListN.{length-set}
use Rattle.std.specs.Prelude.{drop}
use Rattle.std.specs.List.{AllByRecursion}
use Rattle.std.proofs.lemmas.Bool.Decides.{eqb_tells}
use Rattle.al_world.proofs.Lists.{or_false, and_true, all_append}
use Rattle.task_book.specs.declared.queue.Queue.{Queue}
use Rattle.task_book.specs.Queues.{chain, slots_of, has, are_different, EndsIn, IsQueue, pushed, pushed_links, popped}

pub not_true : (b : Bool) → not b ≡ true → b ≡ false
not_true false h = refl
not_true true h = absurd (cc)

pub eqb_false : (x y : ℕ) → (x == y) ≡ false → x ≢ y
eqb_false x y h e = on (eqb_tells x y)
  where
    on : (((x == y) ≡ true) × (x ≡ y)) ⊎ (((x == y) ≡ false) × (x ≢ y)) → ⊥
    on (inl k) = let a = k.0 in absurd (cc)
    on (inr k) = k.1 e

pub eqb_not : (x y : ℕ) → x ≢ y → (x == y) ≡ false
eqb_not x y ne = on (eqb_tells x y)
  where
    on : (((x == y) ≡ true) × (x ≡ y)) ⊎ (((x == y) ≡ false) × (x ≢ y)) → (x == y) ≡ false
    on (inl k) = absurd (ne k.1)
    on (inr k) = k.0

pub eqb_same : (x : ℕ) → (x == x) ≡ true
eqb_same x = on (eqb_tells x x)
  where
    on : (((x == x) ≡ true) × (x ≡ x)) ⊎ (((x == x) ≡ false) × (x ≢ x)) → (x == x) ≡ true
    on (inl k) = k.0
    on (inr k) = absurd (k.1 refl)

pub chain_other : (links : List ℕ) (tail slot : ℕ) (n at : ℕ) → has tail (chain links n at) ≡ false → chain (set links tail slot) n at ≡ chain links n at
chain_other links tail slot zero at h = refl
chain_other links tail slot (suc n) at h =
    let parts = or_false (at == tail) (has tail (chain links n (get_or links at 0))) h in
    let ne : at ≢ tail = eqb_false at tail parts.0 in
    let link : get_or (set links tail slot) at 0 ≡ get_or links at 0 = get_or-set_other links tail at slot 0 ne in
    ap (λ xs. at ∷ xs) (ap (chain (set links tail slot) n) link ∙ chain_other links tail slot n (get_or links at 0) parts.1)

pub ends_has : (tail x : ℕ) (xs : List ℕ) → EndsIn tail (x ∷ xs) → has tail (x ∷ xs) ≡ true
ends_has tail x [] h = rw (h, eqb_same) refl
ends_has tail x (y ∷ ys) h = rw (ends_has tail y ys h) (or_right (x == tail))
  where
    or_right : (b : Bool) → (b || true) ≡ true
    or_right true = refl
    or_right false = refl

pub chain_push : (links : List ℕ) (tail slot : ℕ) (n at : ℕ) → are_different (chain links (suc n) at) ≡ true → EndsIn tail (chain links (suc n) at) → tail < length links → chain (set links tail slot) (suc (suc n)) at ≡ chain links (suc n) at ++ slot ∷ []
chain_push links tail slot zero at different ends within =
    rw ends (ap (λ s. tail ∷ s ∷ []) (get_or-set_same links tail slot 0 within))
chain_push links tail slot (suc n) at different ends within =
    let next : ℕ = get_or links at 0 in
    let parts = and_true (not (has at (chain links (suc n) next))) (are_different (chain links (suc n) next)) different in
    let tail_has : has tail (chain links (suc n) next) ≡ true = ends_has tail next (chain links n (get_or links next 0)) ends in
    let ne : at ≢ tail = (λ e. absurd (let a = not_true _ parts.0 in let b = subst (λ t. has t (chain links (suc n) next) ≡ true) (sym e) tail_has in cc)) in
    let link : get_or (set links tail slot) at 0 ≡ next = get_or-set_other links tail at slot 0 ne in
    ap (λ xs. at ∷ xs) (ap (chain (set links tail slot) (suc (suc n))) link ∙ chain_push links tail slot n next parts.1 ends within)

-- ---- a push

suc_not : (n : ℕ) → (suc n == 0) ≡ false
suc_not n = eqb_not (suc n) 0 (λ e. absurd (omega arith))

pushed_at : (links : List ℕ) (n head tail slot : ℕ) → are_different (chain links n head) ≡ true → EndsIn tail (chain links n head) → (0 < n → tail < length links) → chain (cond (n == 0) links (set links tail slot)) (n + 1) (cond (n == 0) slot head) ≡ chain links n head ++ slot ∷ []
pushed_at links zero head tail slot different ends within = refl
pushed_at links (suc n) head tail slot different ends within =
    rw (suc_not n) (ap (λ k. chain (set links tail slot) k head) (add-one (suc n)) ∙ chain_push links tail slot n head different ends (within (omega arith)))

tail_at : (links : List ℕ) (n head tail : ℕ) → EndsIn tail (chain links n head) → 0 < n → has tail (chain links n head) ≡ true
tail_at links zero head tail ends some = absurd (omega arith)
tail_at links (suc n) head tail ends some = ends_has tail head (chain links n (get_or links head 0)) ends

pub tail_in : (links : List ℕ) (q : Queue) → IsQueue links q → 0 < q.len → has q.tail (slots_of links q) ≡ true
tail_in links q h some = tail_at links q.len q.head q.tail h.last some

pub all_has : (P : ℕ → Type 0) (xs : List ℕ) (x : ℕ) → AllByRecursion P xs → has x xs ≡ true → P x
all_has P [] x h k = absurd (cc)
all_has P (y ∷ ys) x h k = on (eqb_tells y x) (all_has P ys x h.1)
  where
    on : (((y == x) ≡ true) × (y ≡ x)) ⊎ (((y == x) ≡ false) × (y ≢ x)) → (has x ys ≡ true → P x) → P x
    on (inl e) later = subst P e.1 h.0
    on (inr e) later = later (sym (ap (λ b. b || has x ys) e.0) ∙ k)

pub tail_within : (links : List ℕ) (q : Queue) → IsQueue links q → 0 < q.len → q.tail < length links
tail_within links q h some = all_has (λ x. x < length links) (slots_of links q) q.tail h.within (tail_in links q h some)

pub pushed_slots : (links : List ℕ) (q : Queue) (slot : ℕ) → IsQueue links q → slots_of (pushed_links q links slot) (pushed q slot) ≡ slots_of links q ++ slot ∷ []
pushed_slots links q slot h = pushed_at links q.len q.head q.tail slot h.different h.last (tail_within links q h)

-- a queue without the last slot of the one that is pushed to stays
pub pushed_other : (links : List ℕ) (q o : Queue) (slot : ℕ) → (0 < q.len → has q.tail (slots_of links o) ≡ false) → slots_of (pushed_links q links slot) o ≡ slots_of links o
pushed_other links q o slot out = on q.len out
  where
    on : (n : ℕ) → (0 < n → has q.tail (slots_of links o) ≡ false) → slots_of (cond (n == 0) links (set links q.tail slot)) o ≡ slots_of links o
    on zero out = refl
    on (suc n) out = rw (suc_not n) (chain_other links q.tail slot o.len o.head (out (omega arith)))

pub length-pushed : (links : List ℕ) (q : Queue) (slot : ℕ) → length (pushed_links q links slot) ≡ length links
length-pushed links q slot = on (q.len == 0)
  where
    on : (b : Bool) → length (cond b links (set links q.tail slot)) ≡ length links
    on true = refl
    on false = length-set links q.tail slot

has_push : (x slot : ℕ) (xs : List ℕ) → has x xs ≡ false → (slot == x) ≡ false → has x (xs ++ slot ∷ []) ≡ false
has_push x slot [] h e = rw e refl
has_push x slot (y ∷ ys) h e =
    let parts = or_false (y == x) (has x ys) h in rw (parts.0, has_push x slot ys parts.1 e) refl

pub different_push : (xs : List ℕ) (slot : ℕ) → are_different xs ≡ true → has slot xs ≡ false → are_different (xs ++ slot ∷ []) ≡ true
different_push [] slot d h = refl
different_push (x ∷ xs) slot d h =
    let parts = and_true (not (has x xs)) (are_different xs) d in
    let out = or_false (x == slot) (has slot xs) h in
    let other : (slot == x) ≡ false = eqb_not slot x (λ e. eqb_false x slot out.0 (sym e)) in
    rw (has_push x slot xs (not_true _ parts.0) other, different_push xs slot parts.1 out.1) refl

ends_push : (slot : ℕ) (xs : List ℕ) → EndsIn slot (xs ++ slot ∷ [])
ends_push slot [] = refl
ends_push slot (x ∷ []) = refl
ends_push slot (x ∷ (y ∷ ys)) = ends_push slot (y ∷ ys)

pub pushed_queue : (links : List ℕ) (q : Queue) (slot : ℕ) → IsQueue links q → has slot (slots_of links q) ≡ false → slot < length links → IsQueue (pushed_links q links slot) (pushed q slot)
pushed_queue links q slot h out within =
    let slots = pushed_slots links q slot h in
    record {
      different = ap are_different slots ∙ different_push (slots_of links q) slot h.different out;
      within = subst (λ n. AllByRecursion (λ x. x < n) (slots_of (pushed_links q links slot) (pushed q slot))) (sym (length-pushed links q slot)) (subst (AllByRecursion (λ x. x < length links)) (sym slots) (all_append _ (slots_of links q) (slot ∷ []) h.within (within, tt)));
      last = subst (EndsIn slot) (sym slots) (ends_push slot (slots_of links q));
    }

-- ---- a pop

popped_at : (links : List ℕ) (n head : ℕ) → chain links (n - 1) (get_or links head 0) ≡ drop 1 (chain links n head) ⊎ (n ≡ 0)
popped_at links zero head = inr refl
popped_at links (suc n) head = (let e : suc n - 1 ≡ n = omega arith in inl (ap (λ k. chain links k (get_or links head 0)) e))

pub popped_slots : (links : List ℕ) (q : Queue) → 0 < q.len → slots_of links (popped links q) ≡ drop 1 (slots_of links q)
popped_slots links q some = elim (popped_at links q.len q.head) [ inl e ↦ e | inr e ↦ absurd (omega arith) ]

drop_different : (xs : List ℕ) → are_different xs ≡ true → are_different (drop 1 xs) ≡ true
drop_different [] h = h
drop_different (x ∷ xs) h = (and_true (not (has x xs)) (are_different xs) h).1

pub all_drop : (P : ℕ → Type 0) (xs : List ℕ) → AllByRecursion P xs → AllByRecursion P (drop 1 xs)
all_drop P [] h = tt
all_drop P (x ∷ xs) h = h.1

drop_ends : (tail : ℕ) (xs : List ℕ) → EndsIn tail xs → EndsIn tail (drop 1 xs)
drop_ends tail [] h = tt
drop_ends tail (x ∷ []) h = tt
drop_ends tail (x ∷ (y ∷ ys)) h = h

pub popped_queue : (links : List ℕ) (q : Queue) → 0 < q.len → IsQueue links q → IsQueue links (popped links q)
popped_queue links q some h =
    let slots = popped_slots links q some in
    record {
      different = ap are_different slots ∙ drop_different (slots_of links q) h.different;
      within = subst (AllByRecursion (λ x. x < length links)) (sym slots) (all_drop _ (slots_of links q) h.within);
      last = subst (EndsIn q.tail) (sym slots) (drop_ends q.tail (slots_of links q) h.last);
    }

length-chain : (links : List ℕ) (n head : ℕ) → length (chain links n head) ≡ n
length-chain links zero head = refl
length-chain links (suc n) head = ap suc (length-chain links n (get_or links head 0))

pub length-slots : (links : List ℕ) (q : Queue) → length (slots_of links q) ≡ q.len
length-slots links q = length-chain links q.len q.head
