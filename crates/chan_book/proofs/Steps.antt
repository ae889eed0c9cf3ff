-- A talk put into the queues branch by branch, and taken out number by number.
use Rattle.std.proofs.Common.{◌≡◌, ◌≢◌, ℕ, suc, ◌+◌, ◌<◌, Bool, true, false, ◌==◌, ◌||◌, List, [], ◌∷◌, length, drop, get_or, refl, sym, ap, ap₂, ◌∙◌, subst, subst₂, arith, ne_eqb, add-one}
use Rattle.std.proofs.Math.Seq.{drop-cons}
use Rattle.std.specs.List.{AllByRecursion}
use Rattle.al_event.specs.declared.act.Branch.{Branch}
use Rattle.chan_book.specs.Links.{Ring, IsRing, has, inserted, without}
use Rattle.chan_book.specs.Book.{queue_of, CanEnter, CanLeave, entered, left}
use Rattle.chan_book.proofs.Paths.{has-inserted, has-without, below_within}

abbrev pub with_all : Ring → ℕ → List Branch → Ring
with_all r node bs = record r { items = entered r.root node bs r.items }

abbrev pub without_all : Ring → ℕ → ℕ → Ring
without_all r node count = record r { items = left node count r.items }

abbrev pub with_branch : Ring → ℕ → Branch → Ring
with_branch r node b = record r { items = inserted node (suc (r.root + queue_of b)) r.items }

or_true : (a : Bool) → (a || true) ≡ true
or_true true = refl
or_true false = refl

-- one more number leaves the others and the marks
pub can_enter_rest : (r : Ring) (node : ℕ) (b : Branch) (bs : List Branch) → CanEnter r node (b ∷ bs) → CanEnter (with_branch r node b) (suc node) bs
can_enter_rest r node b bs h = record {
  below = omega (arith, h.below);
  new = λ n lo hi. let off : node ≢ n = omega arith in has-inserted n node (suc (r.root + queue_of b)) r.items ∙ ap₂ ◌||◌ (ne_eqb node n off) (h.new n (omega arith) (omega arith));
  marks = marked bs h.marks.1;
}
  where
    marked : (bs : List Branch) → AllByRecursion (λ b. has (suc (r.root + queue_of b)) r.items ≡ true) bs → AllByRecursion (λ x. has (suc (r.root + queue_of x)) (inserted node (suc (r.root + queue_of b)) r.items) ≡ true) bs
    marked [] all = tt
    marked (x ∷ bs) all = (has-inserted (suc (r.root + queue_of x)) node (suc (r.root + queue_of b)) r.items ∙ ap (λ v. (node == suc (r.root + queue_of x)) || v) all.0 ∙ or_true (node == suc (r.root + queue_of x)), marked bs all.1)

-- one less leaves the others
pub can_leave_rest : (r : Ring) (node count : ℕ) → CanLeave r node (suc count) → CanLeave (record r { items = without node r.items }) (suc node) count
can_leave_rest r node count h = record {
  there = λ n lo hi. let off : node ≢ n = omega arith in has-without n node r.items ∙ rw (ne_eqb node n off) (h.there n (omega arith) (omega arith));
}

-- the element at a place, and those behind it
pub drop_at : {X : Type 0} (i : ℕ) (xs : List X) (x : X) → i < length xs → x ≡ get_or xs i x → drop i xs ≡ x ∷ drop (i + 1) xs
drop_at i xs x lt e = drop-cons xs i x lt ∙ ap₂ (λ y k. y ∷ drop k xs) (sym e) (sym (add-one i))

-- after one more branch the rest may be put in, and it comes to the same
pub enter_more : (r s to : Ring) (node i : ℕ) (b : Branch) (bs rest : List Branch) → s ≡ with_branch r (node + i) b → bs ≡ b ∷ rest → CanEnter r (node + i) bs → with_all r (node + i) bs ≡ to → CanEnter s (node + (i + 1)) rest × (with_all s (node + (i + 1)) rest ≡ to)
enter_more r s to node i b bs rest is parts free whole =
    let next : suc (node + i) ≡ node + (i + 1) = omega arith in
    let free_all : CanEnter r (node + i) (b ∷ rest) = subst (CanEnter r (node + i)) parts free in
    let whole_all : with_all r (node + i) (b ∷ rest) ≡ to = subst (λ l. with_all r (node + i) l ≡ to) parts whole in
    (subst₂ (λ x n. CanEnter x n rest) (sym is) next (can_enter_rest r (node + i) b rest free_all), subst₂ (λ x n. with_all x n rest ≡ to) (sym is) next whole_all)

pub leave_more : (r s to : Ring) (node count : ℕ) → s ≡ record r { items = without node r.items } → CanLeave r node (suc count) → without_all r node (suc count) ≡ to → CanLeave s (suc node) count × (without_all s (suc node) count ≡ to)
leave_more r s to node count is there whole =
    (subst (λ x. CanLeave x (suc node) count) (sym is) (can_leave_rest r node count there), subst (λ x. without_all x (suc node) count ≡ to) (sym is) whole)

-- the mark of the next branch is a number of the ring
pub mark_below : (r : Ring) (node i root queue : ℕ) (b : Branch) (bs rest : List Branch) → IsRing r → CanEnter r (node + i) bs → bs ≡ b ∷ rest → root ≡ r.root → queue ≡ queue_of b → root + queue + 1 < r.size
mark_below r node i root queue b bs rest ring free parts e f =
    let all : CanEnter r (node + i) (b ∷ rest) = subst (CanEnter r (node + i)) parts free in
    let lt : suc (r.root + queue_of b) < r.size = below_within (suc (r.root + queue_of b)) r.size r.items ring.within all.marks.0 in
    rw (e, f) (omega (arith, lt))
