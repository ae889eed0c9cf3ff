use Rattle.std.proofs.Common.{◌≡◌, subst, sym, ap, set, get_or, List, ℕ, arith}
use Rattle.chan_book.specs.Links.{Ring, IsLinked, inserted}
use Rattle.chan_book.proofs.Paths.{in_prev, read_prev, read_prev_in_next, linked_with, left_linked, left_ring, next_with, prev_with}
use Rattle.chan_book.proofs.links.Links.insert.Goals as goal

pub index-before-requires : goal.index-before-requires
index-before-requires c =
    let h : IsLinked c.self.inside.next.items c.self.inside.prev.items c.args.self.now = subst (IsLinked _ _) c.self.view_is c.self.invariant in
    omega (arith, in_prev _ _ _ h _ c.requires.place)

pub index_mut-requires : goal.index_mut-requires
index_mut-requires c =
    let h : IsLinked c.self.inside.next.items c.self.inside.prev.items c.args.self.now = subst (IsLinked _ _) c.self.view_is c.self.invariant in
    omega (arith, read_prev_in_next _ _ _ h _ c.requires.place _ c.index-before.ensures)

pub index_mut-requires-2 : goal.index_mut-requires-2
index_mut-requires-2 c =
    let h : IsLinked c.self.inside.next.items c.self.inside.prev.items c.args.self.now = subst (IsLinked _ _) c.self.view_is c.self.invariant in
    omega (arith, h.prev_size, c.requires.within)

pub index_mut-requires-3 : goal.index_mut-requires-3
index_mut-requires-3 c =
    let h : IsLinked c.self.inside.next.items c.self.inside.prev.items c.args.self.now = subst (IsLinked _ _) c.self.view_is c.self.invariant in
    omega (arith, h.next_size, c.requires.within)

pub index_mut-requires-4 : goal.index_mut-requires-4
index_mut-requires-4 c =
    let h : IsLinked c.self.inside.next.items c.self.inside.prev.items c.args.self.now = subst (IsLinked _ _) c.self.view_is c.self.invariant in
    omega (arith, in_prev _ _ _ h _ c.requires.place)

-- both lists as they are left
made : (n p : List ℕ) (r : Ring) (node at before : ℕ) → before ≡ get_or p at 0 → IsLinked (next_with n p node at) (prev_with n p node at) (record r { items = inserted node at r.items }) → IsLinked (set (set n before node) node at) (set (set p node before) at node) (record r { items = inserted node at r.items })
made n p r node at before e linked = subst (λ b. IsLinked (set (set n b node) node at) (set (set p node b) at node) (record r { items = inserted node at r.items })) (sym e) linked

pub invariant_of-self : goal.invariant_of-self
invariant_of-self c =
    let h : IsLinked c.self.inside.next.items c.self.inside.prev.items c.args.self.now = subst (IsLinked _ _) c.self.view_is c.self.invariant in
    let linked = made _ _ _ _ _ _ (read_prev _ _ _ h _ c.requires.place _ c.index-before.ensures) (linked_with _ _ _ h _ _ c.requires.within c.requires.new c.requires.unrooted c.requires.place) in
    left_linked _ _ _ _ (ap (λ (r : Ring). r.root) c.self.view_is) linked

pub returns-clause-inserted : goal.returns-clause-inserted
returns-clause-inserted c =
    let h : IsLinked c.self.inside.next.items c.self.inside.prev.items c.args.self.now = subst (IsLinked _ _) c.self.view_is c.self.invariant in
    let linked = made _ _ _ _ _ _ (read_prev _ _ _ h _ c.requires.place _ c.index-before.ensures) (linked_with _ _ _ h _ _ c.requires.within c.requires.new c.requires.unrooted c.requires.place) in
    left_ring _ _ _ _ (ap (λ (r : Ring). r.root) c.self.view_is) linked

pub returns-clause-ring : goal.returns-clause-ring
returns-clause-ring c =
    let h : IsLinked c.self.inside.next.items c.self.inside.prev.items c.args.self.now = subst (IsLinked _ _) c.self.view_is c.self.invariant in
    let linked = made _ _ _ _ _ _ (read_prev _ _ _ h _ c.requires.place _ c.index-before.ensures) (linked_with _ _ _ h _ _ c.requires.within c.requires.new c.requires.unrooted c.requires.place) in
    (left_linked _ _ _ _ (ap (λ (r : Ring). r.root) c.self.view_is) linked).ring
