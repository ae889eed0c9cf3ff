-- Which tasks wait for a channel.
use Rattle.std.proofs.Common.{◌≡◌, ◌≢◌, ℕ, suc, ◌+◌, ◌≤◌, Bool, true, false, cond, ◌==◌, ◌&&◌, ◌||◌, not, if◌then◌else◌, List, [], ◌∷◌, ◌++◌, length, refl, sym, ap, ◌∙◌, arith, eq-eqb, ne_eqb, ◌⊎◌, inl, inr}
use Rattle.std.specs.List.{AllByRecursion}
use Rattle.std.proofs.lemmas.Bool.Decides.{nat_tests}
use Rattle.al_event.specs.declared.act.Branch.{Branch}
use Rattle.al_world.specs.Channels.{Channel, Offer}
use Rattle.al_world.specs.Talks.{offers_from}
use Rattle.chan_book.specs.Links.{Ring, IsRing, has, are_different, next_in}
use Rattle.chan_book.specs.Book.{branches_at, waiting_of, IsTalk, IsKept, tasks_on, is_on, count_on}
use Rattle.chan_book.proofs.Paths.{few}
use Rattle.chan_book.proofs.Waiting.{Talks, IsOther, waiting_others}
use Rattle.chan_book.proofs.Along.{from, from_next}
use Rattle.chan_book.proofs.Kept.{order_within}

-- a task that has no branch waiting is not among them
not_on : (c t : ℕ) (w : List (Offer ℕ)) → AllByRecursion (IsOther t) w → has t (tasks_on c w) ≡ false
not_on c t [] all = refl
not_on c t (o ∷ w) all = on ((o.branch.chan == c) && not (has o.by (tasks_on c w))) (not_on c t w all.1)
  where
    on : (b : Bool) → has t (tasks_on c w) ≡ false → has t (cond b (o.by ∷ tasks_on c w) (tasks_on c w)) ≡ false
    on true rest = let h = all.0 in rw (ne_eqb o.by t h.by) rest
    on false rest = rest

-- a talk counts once, where it has a branch on the channel
one_talk : (c t i : ℕ) (bs : List Branch) (w : List (Offer ℕ)) → has t (tasks_on c w) ≡ false → tasks_on c (offers_from t i bs ++ w) ≡ (if is_on c bs then t ∷ tasks_on c w else tasks_on c w)
one_talk c t i [] w none = refl
one_talk c t i (b ∷ bs) w none = ap (λ l. cond ((b.chan == c) && not (has t l)) (t ∷ l) l) (one_talk c t (i + 1) bs w none) ∙ on (b.chan == c) (is_on c bs)
  where
    here : has t (t ∷ tasks_on c w) ≡ true
    here = rw (eq-eqb t t refl) refl

    on : (x y : Bool) → cond (x && not (has t (cond y (t ∷ tasks_on c w) (tasks_on c w)))) (t ∷ cond y (t ∷ tasks_on c w) (tasks_on c w)) (cond y (t ∷ tasks_on c w) (tasks_on c w)) ≡ cond (x || y) (t ∷ tasks_on c w) (tasks_on c w)
    on true true = rw here refl
    on true false = rw none refl
    on false true = refl
    on false false = refl

pub tasks_counted : (channels : List Channel) (talks : Talks) (c : ℕ) (xs : List ℕ) → are_different xs ≡ true → AllByRecursion (λ u. IsTalk channels (branches_at talks u)) xs → length (tasks_on c (waiting_of talks xs)) ≡ count_on c talks xs
tasks_counted channels talks c [] d all = refl
tasks_counted channels talks c (t ∷ xs) d all =
    ap length (one_talk c t 0 (branches_at talks t) (waiting_of talks xs) (not_on c t (waiting_of talks xs) (waiting_others channels talks xs all.1 t fresh))) ∙ on (is_on c (branches_at talks t)) (tasks_counted channels talks c xs rest all.1)
  where
    fresh : has t xs ≡ false
    fresh = grind (arith, nat_tests)

    rest : are_different xs ≡ true
    rest = grind (arith, nat_tests)

    on : (b : Bool) → length (tasks_on c (waiting_of talks xs)) ≡ count_on c talks xs → length (cond b (t ∷ tasks_on c (waiting_of talks xs)) (tasks_on c (waiting_of talks xs))) ≡ cond b (suc (count_on c talks xs)) (count_on c talks xs)
    on true e = ap suc e
    on false e = e

pub count_most : (c : ℕ) (talks : Talks) (xs : List ℕ) → count_on c talks xs ≤ length xs
count_most c talks [] = omega arith
count_most c talks (t ∷ xs) = on (is_on c (branches_at talks t)) (count_most c talks xs)
  where
    on : (b : Bool) → count_on c talks xs ≤ length xs → cond b (suc (count_on c talks xs)) (count_on c talks xs) ≤ suc (length xs)
    on true le = omega arith
    on false le = omega arith

-- from a task on: itself, and those from the next on
pub from_here : (r : Ring) (x : ℕ) → IsRing r → x ≢ r.root → from r x ≡ x ∷ from r (next_in r x)
from_here r x h off = rw (ne_eqb x r.root off) (ap (λ l. x ∷ l) (sym (from_next r x h)))

-- from the root on there is none, and behind it stand all
pub from_root : (r : Ring) (x : ℕ) → x ≡ r.root → from r x ≡ []
from_root r x e = rw (eq-eqb x r.root e) refl

pub from_start : (r : Ring) → IsRing r → from r (next_in r r.root) ≡ r.items
from_start r h = from_next r r.root h ∙ rw (eq-eqb r.root r.root refl) refl

-- one task counted
pub counted : (c : ℕ) (talks : Talks) (r : Ring) (x count whole : ℕ) → IsRing r → x ≢ r.root → count + count_on c talks (from r x) ≡ whole → (is_on c (branches_at talks x) ≡ true → count + 1 + count_on c talks (from r (next_in r x)) ≡ whole) × (is_on c (branches_at talks x) ≡ false → count + count_on c talks (from r (next_in r x)) ≡ whole)
counted c talks r x count whole h off e =
    let here : count + (if is_on c (branches_at talks x) then suc (count_on c talks (from r (next_in r x))) else count_on c talks (from r (next_in r x))) ≡ whole = sym (ap (λ l. count + count_on c talks l) (from_here r x h off)) ∙ e in
    (λ on. sum_suc count (count_on c talks (from r (next_in r x))) ∙ sym (ap (λ b. count + cond b (suc (count_on c talks (from r (next_in r x)))) (count_on c talks (from r (next_in r x)))) on) ∙ here, λ not_on. sym (ap (λ b. count + cond b (suc (count_on c talks (from r (next_in r x)))) (count_on c talks (from r (next_in r x)))) not_on) ∙ here)
  where
    sum_suc : (a b : ℕ) → a + 1 + b ≡ a + suc b
    sum_suc a b = omega arith

-- it never counts more than all
pub count_few : (c : ℕ) (talks : Talks) (r : Ring) → IsRing r → count_on c talks r.items ≤ r.size
count_few c talks r h = let most = count_most c talks r.items in let all = few r.size r.items h.different h.within in omega (arith, most, all)

-- a place that is not the root is a number of the ring
pub place_in : (r : Ring) (x : ℕ) → (x ≡ r.root) ⊎ (has x r.items ≡ true) → x ≢ r.root → has x r.items ≡ true
place_in r x (inl e) off = absurd (off e)
place_in r x (inr h) off = h

-- how many tasks wait for a channel of a book
pub waiting_count : (room : ℕ) (channels : List Channel) (talks : Talks) (order queues : Ring) (c : ℕ) → IsKept room channels talks order queues → count_on c talks order.items ≡ length (tasks_on c (waiting_of talks order.items))
waiting_count room channels talks order queues c k = sym (tasks_counted channels talks c order.items k.order_ring.different k.talks_held)

pub order_few : (room : ℕ) (channels : List Channel) (talks : Talks) (order queues : Ring) → IsKept room channels talks order queues → length order.items ≤ room
order_few room channels talks order queues k = few room order.items k.order_ring.different (order_within room channels talks order queues k)
