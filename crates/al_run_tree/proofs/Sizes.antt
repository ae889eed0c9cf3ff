-- How many blocks a tree has with one more or less.
use Rattle.std.proofs.Common.{◌≡◌, ℕ, suc, ◌+◌, Bool, true, false, cond, ltb, ◌∷◌, ◌++◌, length, length-append, Some, refl, ap, ◌∙◌, arith}
use Rattle.al_event.specs.Store.{Span}
use Rattle.al_run_tree.specs.Tree.{Tree, Leaf, Branch, blocks}
use Rattle.al_run_tree.specs.Balance.{balanced, inserted, Taken, first_out, merged, taken_out}
use Rattle.al_run_tree.specs.Order.{found}
use Rattle.al_run_tree.proofs.Turns.{blocks-balanced}
use Rattle.al_run_tree.proofs.Changes.{blocks-first_out}

length-balanced : (l : Tree) (j : ℕ) (b : Span) (r : Tree) → length (blocks (balanced l j b r)) ≡ length (blocks l) + suc (length (blocks r))
length-balanced l j b r = ap length (blocks-balanced l j b r) ∙ length-append (blocks l) (b ∷ blocks r)

pub length-inserted : (t : Tree) (new : ℕ) (e : Span) → length (blocks (inserted new e t)) ≡ suc (length (blocks t))
unfolding inserted
length-inserted Leaf new e = refl
length-inserted (Branch l j b r) new e = on (ltb e.at b.at) (length-inserted l new e) (length-inserted r new e) (length-append (blocks l) (b ∷ blocks r))
  where
    on : (t : Bool) → length (blocks (inserted new e l)) ≡ suc (length (blocks l)) → length (blocks (inserted new e r)) ≡ suc (length (blocks r)) → length (blocks l ++ b ∷ blocks r) ≡ length (blocks l) + suc (length (blocks r)) → length (blocks (cond t (balanced (inserted new e l) j b r) (balanced l j b (inserted new e r)))) ≡ suc (length (blocks l ++ b ∷ blocks r))
    on true left right whole = omega (arith, left, right, whole, length-balanced (inserted new e l) j b r)
    on false left right whole = omega (arith, left, right, whole, length-balanced l j b (inserted new e r))

length-merged : (l r : Tree) → length (blocks (merged l r)) ≡ length (blocks l) + length (blocks r)
unfolding merged
length-merged l Leaf = omega arith
length-merged l (Branch x k d y) =
    let out = first_out (Branch x k d y) in
    let first : suc (length (blocks out.rest)) ≡ length (blocks (Branch x k d y)) = ap length (blocks-first_out (Branch x k d y) refl) in
    omega (arith, length-balanced l out.index out.block out.rest, first)

pub length-taken_out : (t : Tree) (at : ℕ) (b : Span) → found at t ≡ Some b → length (blocks t) ≡ suc (length (blocks (taken_out at t).rest))
unfolding taken_out found
length-taken_out Leaf at b is = absurd (cc)
length-taken_out (Branch l j d r) at b is = on (ltb at d.at) (ltb d.at at) is (length-taken_out l at b) (length-taken_out r at b) (length-append (blocks l) (d ∷ blocks r))
  where
    on : (s t : Bool) → cond s (found at l) (cond t (found at r) (Some d)) ≡ Some b → (found at l ≡ Some b → length (blocks l) ≡ suc (length (blocks (taken_out at l).rest))) → (found at r ≡ Some b → length (blocks r) ≡ suc (length (blocks (taken_out at r).rest))) → length (blocks l ++ d ∷ blocks r) ≡ length (blocks l) + suc (length (blocks r)) → length (blocks l ++ d ∷ blocks r) ≡ suc (length (blocks (cond {A = Taken} s (record { index = (taken_out at l).index; block = (taken_out at l).block; rest = balanced (taken_out at l).rest j d r }) (cond {A = Taken} t (record { index = (taken_out at r).index; block = (taken_out at r).block; rest = balanced l j d (taken_out at r).rest }) (record { index = j; block = d; rest = merged l r }))).rest))
    on true t is left right whole = omega (arith, left is, whole, length-balanced (taken_out at l).rest j d r)
    on false true is left right whole = omega (arith, right is, whole, length-balanced l j d (taken_out at r).rest)
    on false false is left right whole = omega (arith, whole, length-merged l r)
