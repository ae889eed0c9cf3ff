use Rattle.std.proofs.Common.{◌≡◌, subst, subst₂, sym, ap, set, get_or, List, ℕ, arith, inr}
use Rattle.chan_book.specs.Links.{Ring, IsLinked, without}
use Rattle.chan_book.proofs.Paths.{in_prev, in_next, read_prev, read_next, read_prev_in_next, read_next_in_prev, linked_without, left_linked, left_ring, next_without, prev_without}
use Rattle.chan_book.proofs.links.Links.remove.Goals as goal

pub index-before-requires : goal.index-before-requires
index-before-requires c =
    let h : IsLinked c.self.inside.next.items c.self.inside.prev.items c.args.self.now = subst (IsLinked _ _) c.self.view_is c.self.invariant in
    omega (arith, in_prev _ _ _ h _ (inr c.requires))

pub index-after-requires : goal.index-after-requires
index-after-requires c =
    let h : IsLinked c.self.inside.next.items c.self.inside.prev.items c.args.self.now = subst (IsLinked _ _) c.self.view_is c.self.invariant in
    omega (arith, in_next _ _ _ h _ (inr c.requires))

pub index_mut-requires : goal.index_mut-requires
index_mut-requires c =
    let h : IsLinked c.self.inside.next.items c.self.inside.prev.items c.args.self.now = subst (IsLinked _ _) c.self.view_is c.self.invariant in
    omega (arith, read_prev_in_next _ _ _ h _ (inr c.requires) _ c.index-before.ensures)

pub index_mut-requires-2 : goal.index_mut-requires-2
index_mut-requires-2 c =
    let h : IsLinked c.self.inside.next.items c.self.inside.prev.items c.args.self.now = subst (IsLinked _ _) c.self.view_is c.self.invariant in
    omega (arith, read_next_in_prev _ _ _ h _ (inr c.requires) _ c.index-after.ensures)

-- both lists as they are left
made : (n p : List ℕ) (r : Ring) (node before after : ℕ) → before ≡ get_or p node 0 → after ≡ get_or n node 0 → IsLinked (next_without n p node) (prev_without n p node) (record r { items = without node r.items }) → IsLinked (set n before after) (set p after before) (record r { items = without node r.items })
made n p r node before after e f linked = subst₂ (λ b a. IsLinked (set n b a) (set p a b) (record r { items = without node r.items })) (sym e) (sym f) linked

pub invariant_of-self : goal.invariant_of-self
invariant_of-self c =
    let h : IsLinked c.self.inside.next.items c.self.inside.prev.items c.args.self.now = subst (IsLinked _ _) c.self.view_is c.self.invariant in
    let linked = made _ _ _ _ _ _ (read_prev _ _ _ h _ (inr c.requires) _ c.index-before.ensures) (read_next _ _ _ h _ (inr c.requires) _ c.index-after.ensures) (linked_without _ _ _ h _ c.requires) in
    left_linked _ _ _ _ (ap (λ (r : Ring). r.root) c.self.view_is) linked

pub returns-clause-without : goal.returns-clause-without
returns-clause-without c =
    let h : IsLinked c.self.inside.next.items c.self.inside.prev.items c.args.self.now = subst (IsLinked _ _) c.self.view_is c.self.invariant in
    let linked = made _ _ _ _ _ _ (read_prev _ _ _ h _ (inr c.requires) _ c.index-before.ensures) (read_next _ _ _ h _ (inr c.requires) _ c.index-after.ensures) (linked_without _ _ _ h _ c.requires) in
    left_ring _ _ _ _ (ap (λ (r : Ring). r.root) c.self.view_is) linked

pub returns-clause-ring : goal.returns-clause-ring
returns-clause-ring c =
    let h : IsLinked c.self.inside.next.items c.self.inside.prev.items c.args.self.now = subst (IsLinked _ _) c.self.view_is c.self.invariant in
    let linked = made _ _ _ _ _ _ (read_prev _ _ _ h _ (inr c.requires) _ c.index-before.ensures) (read_next _ _ _ h _ (inr c.requires) _ c.index-after.ensures) (linked_without _ _ _ h _ c.requires) in
    (left_linked _ _ _ _ (ap (λ (r : Ring). r.root) c.self.view_is) linked).ring
