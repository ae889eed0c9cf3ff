-- Going along a queue.
use Rattle.std.proofs.Common.{◌≡◌, ◌≢◌, ℕ, zero, suc, ◌+◌, ◌<◌, ◌≤◌, Bool, true, false, cond, ◌==◌, ltb, if◌then◌else◌, List, [], ◌∷◌, length, drop, refl, sym, ap, ◌∙◌, subst, ◌⊎◌, inl, inr, arith, eq-eqb, ne_eqb, add-one, Some, None, slice_get}
use Rattle.std.proofs.lemmas.Bool.Decides.{eqb_tells, leb_tells, nat_tests}
use Rattle.chan_book.specs.Links.{Ring, IsRing, has, are_different, first_or, after, next_in, behind, until}
use Rattle.chan_book.specs.Book.{IsStart, queue_in}
use Rattle.chan_book.proofs.Paths.{apart, below_within}

-- ---- what comes behind

pub after_behind : (root x : ℕ) (xs : List ℕ) → after root x xs ≡ first_or root (behind x xs)
after_behind root x [] = refl
after_behind root x (y ∷ ys) = elim (y == x) as (λ b. cond b (first_or root ys) (after root x ys) ≡ first_or root (cond b ys (behind x ys))) [ true ↦ refl | false ↦ after_behind root x ys ]

has_behind : (z x : ℕ) (xs : List ℕ) → has z (behind x xs) ≡ true → has z xs ≡ true
has_behind z x [] h = h
has_behind z x (y ∷ ys) h = grind (arith, nat_tests, has_behind z x ys)

behind_step : (x z : ℕ) (zs xs : List ℕ) → are_different xs ≡ true → behind x xs ≡ z ∷ zs → behind z xs ≡ zs
behind_step x z zs [] d e = absurd (cc)
behind_step x z zs (y ∷ ys) d e = on (eqb_tells y x) (behind_step x z zs ys)
  where
    fresh : has y ys ≡ false
    fresh = grind (arith, nat_tests)

    rest_different : are_different ys ≡ true
    rest_different = grind (arith, nat_tests)

    on : ((y == x ≡ true) × (y ≡ x)) ⊎ ((y == x ≡ false) × (y ≢ x)) → (are_different ys ≡ true → behind x ys ≡ z ∷ zs → behind z ys ≡ zs) → cond (y == z) ys (behind z ys) ≡ zs
    on (inl h) rest =
        let here : ys ≡ z ∷ zs = sym (rw h.0 refl) ∙ e in
        let member : has z ys ≡ true = ap (has z) here ∙ rw (eq-eqb z z refl) refl in
        let off : y ≢ z = λ g. apart y z ys fresh member (sym g) in
        rw (ne_eqb y z off) (ap (behind z) here ∙ rw (eq-eqb z z refl) refl)
    on (inr h) rest =
        let later : behind x ys ≡ z ∷ zs = sym (rw h.0 refl) ∙ e in
        let member : has z ys ≡ true = has_behind z x ys (ap (has z) later ∙ rw (eq-eqb z z refl) refl) in
        let off : y ≢ z = λ g. apart y z ys fresh member (sym g) in
        rw (ne_eqb y z off) (rest rest_different later)

-- the list from a number of the ring on; empty from the root
abbrev pub from : Ring → ℕ → List ℕ
from r x = if x == r.root then [] else x ∷ behind x (r.root ∷ r.items)

has_behind_tail : (z x y : ℕ) (ys : List ℕ) → has z (behind x (y ∷ ys)) ≡ true → has z ys ≡ true
has_behind_tail z x y ys h = on (y == x) refl
  where
    on : (b : Bool) → y == x ≡ b → has z ys ≡ true
    on true e = sym (ap (has z) (rw e refl)) ∙ h
    on false e = has_behind z x ys (sym (ap (has z) (rw e refl)) ∙ h)

from_first : (r : Ring) (x : ℕ) (l : List ℕ) → IsRing r → behind x (r.root ∷ r.items) ≡ l → from r (first_or r.root l) ≡ l
from_first r x [] h e = rw (eq-eqb r.root r.root refl) refl
from_first r x (z ∷ zs) h e =
    let different : are_different (r.root ∷ r.items) ≡ true = rw (h.unrooted, h.different) refl in
    let last : behind z (r.root ∷ r.items) ≡ zs = behind_step x z zs (r.root ∷ r.items) different e in
    let member : has z r.items ≡ true = has_behind_tail z x r.root r.items (ap (has z) e ∙ rw (eq-eqb z z refl) refl) in
    let off : z ≢ r.root = apart r.root z r.items h.unrooted member in
    rw (ne_eqb z r.root off) (ap (λ l. z ∷ l) last)

-- from the next number on stands what comes behind this one
pub from_next : (r : Ring) (x : ℕ) → IsRing r → from r (next_in r x) ≡ behind x (r.root ∷ r.items)
from_next r x h = ap (from r) (after_behind r.root x (r.root ∷ r.items)) ∙ from_first r x (behind x (r.root ∷ r.items)) h refl

-- the next number is the root or one of the ring
pub next_place : (r : Ring) (x : ℕ) → (next_in r x ≡ r.root) ⊎ (has (next_in r x) r.items ≡ true)
next_place r x = subst (λ y. (y ≡ r.root) ⊎ (has y r.items ≡ true)) (sym (after_behind r.root x (r.root ∷ r.items))) (on (behind x (r.root ∷ r.items)) refl)
  where
    on : (l : List ℕ) → behind x (r.root ∷ r.items) ≡ l → (first_or r.root l ≡ r.root) ⊎ (has (first_or r.root l) r.items ≡ true)
    on [] e = inl refl
    on (z ∷ zs) e = inr (has_behind_tail z x r.root r.items (ap (has z) e ∙ rw (eq-eqb z z refl) refl))

-- ---- going

-- a number below the root goes on the queue
pub until_here : (r : Ring) (x : ℕ) → x < r.root → until r.root (from r x) ≡ x ∷ until r.root (behind x (r.root ∷ r.items))
until_here r x lt = let off : x ≢ r.root = omega arith in rw (ne_eqb x r.root off) (rw (below_true x r.root lt) refl)
  where
    below_true : (a b : ℕ) → a < b → ltb a b ≡ true
    below_true a b lt = grind (arith, nat_tests)

-- the queue ends at a number from the root on
pub until_end : (r : Ring) (x : ℕ) → r.root ≤ x → until r.root (from r x) ≡ []
until_end r x le = on (x == r.root)
  where
    past : ltb x r.root ≡ false
    past = grind (arith, nat_tests)

    on : (b : Bool) → until r.root (cond b [] (x ∷ behind x (r.root ∷ r.items))) ≡ []
    on true = refl
    on false = rw past refl

-- what is left of a list after so many of it
drop_none : (n : ℕ) → drop {A = ℕ} n [] ≡ []
drop_none zero = refl
drop_none (suc n) = refl

drop_rest : (n : ℕ) (q : List ℕ) (y : ℕ) (ys : List ℕ) → drop n q ≡ y ∷ ys → (ys ≡ drop (suc n) q) × (suc n ≤ length q) × (slice_get q n ≡ Some y)
drop_rest n [] y ys e = absurd (let f = sym (drop_none n) ∙ e in cc)
drop_rest zero (z ∷ zs) y ys e = (cc, omega arith, cc)
drop_rest (suc n) (z ∷ zs) y ys e = let h = drop_rest n zs y ys e in (h.0, omega (arith, h.1), h.2)

drop_end : (n : ℕ) (q : List ℕ) → drop n q ≡ [] → (length q ≤ n) × (slice_get q n ≡ None)
drop_end n [] e = (omega arith, refl)
drop_end zero (z ∷ zs) e = absurd (cc)
drop_end (suc n) (z ∷ zs) e = let h = drop_end n zs e in (omega (arith, h.0), h.1)

-- a step along what is left
pub step_along : (r : Ring) (x count : ℕ) (queue : List ℕ) → IsRing r → x < r.root → until r.root (from r x) ≡ drop count queue → (until r.root (from r (next_in r x)) ≡ drop (count + 1) queue) × (count + 1 ≤ length queue)
step_along r x count queue h lt e =
    let rest = drop_rest count queue x (until r.root (behind x (r.root ∷ r.items))) (sym e ∙ until_here r x lt) in
    (ap (until r.root) (from_next r x h) ∙ rest.0 ∙ ap (λ n. drop n queue) (sym (add-one count)), omega (arith, rest.1))

-- where one came to
pub come_to : (r : Ring) (x count : ℕ) (queue : List ℕ) → until r.root (from r x) ≡ drop count queue → slice_get queue count ≡ (if ltb x r.root then Some x else None)
come_to r x count queue e = on (leb_tells (suc x) r.root)
  where
    on : ((ltb x r.root ≡ true) × (suc x ≤ r.root)) ⊎ ((ltb x r.root ≡ false) × (r.root < suc x)) → slice_get queue count ≡ (if ltb x r.root then Some x else None)
    on (inl h) = rw h.0 ((drop_rest count queue x (until r.root (behind x (r.root ∷ r.items))) (sym e ∙ until_here r x (omega (arith, h.1)))).2)
    on (inr h) = rw h.0 ((drop_end count queue (sym e ∙ until_end r x (omega (arith, h.1)))).1)

pub come_to_end : (r : Ring) (x count : ℕ) (queue : List ℕ) → until r.root (from r x) ≡ drop count queue → r.root ≤ x → length queue ≤ count
come_to_end r x count queue e le = (drop_end count queue (sym e ∙ until_end r x le)).0

-- where a queue starts
pub start_place : (r : Ring) (queue : ℕ) → IsStart r queue → (r.root + queue ≡ r.root) ⊎ (has (r.root + queue) r.items ≡ true)
start_place r queue h = on h.is
  where
    on : (queue ≡ 0) ⊎ (has (r.root + queue) r.items ≡ true) → (r.root + queue ≡ r.root) ⊎ (has (r.root + queue) r.items ≡ true)
    on (inl e) = inl (omega arith)
    on (inr k) = inr k

pub start_below : (r : Ring) (queue : ℕ) → IsRing r → IsStart r queue → r.root + queue < r.size
start_below r queue ring h = on (start_place r queue h)
  where
    on : (r.root + queue ≡ r.root) ⊎ (has (r.root + queue) r.items ≡ true) → r.root + queue < r.size
    on (inl e) = omega (arith, ring.root_within)
    on (inr k) = below_within (r.root + queue) r.size r.items ring.within k

-- at first all is left
pub start_along : (r : Ring) (queue : ℕ) → IsRing r → until r.root (from r (next_in r (r.root + queue))) ≡ queue_in r queue
start_along r queue h = ap (until r.root) (from_next r (r.root + queue) h)
