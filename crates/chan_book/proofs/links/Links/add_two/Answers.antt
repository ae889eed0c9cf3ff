use Rattle.std.proofs.Common.{◌≡◌, ◌+◌, ◌++◌, ◌∷◌, [], ℕ, subst, subst₂, sym, ◌∙◌, ap, arith, false}
use Rattle.chan_book.specs.Links.{Ring, IsLinked, ring_of, has, inserted}
use Rattle.chan_book.proofs.Paths.{linked_two, left_linked, left_ring, one_new, two_new, with_two}
use Rattle.chan_book.proofs.links.Links.add_two.Goals as goal

pub invariant_of-self-2 : goal.invariant_of-self-2
invariant_of-self-2 c =
    let r : Ring = c.args.self.now in
    let h : IsLinked c.self.inside.next.items c.self.inside.prev.items r = subst (IsLinked _ _) c.self.view_is c.self.invariant in
    let root : c.self.inside.root ≡ r.root = ap (λ (r : Ring). r.root) c.self.view_is in
    let grown : IsLinked c.extend_from_slice.new.self.items c.extend_from_slice-2.new.self.items (record r { size = r.size + 2 }) = linked_two _ _ _ _ r h c.in_ok-extend_from_slice.ensures.items (c.in_default.ensures.items ∙ ap (λ l. l ++ 0 ∷ 0 ∷ []) c.reserve.ensures.items) in
    left_linked _ _ _ _ root grown

pub insert-requires-clause-new : goal.insert-requires-clause-new
insert-requires-clause-new c =
    let r : Ring = c.args.self.now in
    let h : IsLinked c.self.inside.next.items c.self.inside.prev.items r = subst (IsLinked _ _) c.self.view_is c.self.invariant in
    let root : c.self.inside.root ≡ r.root = ap (λ (r : Ring). r.root) c.self.view_is in
    let grown : IsLinked c.extend_from_slice.new.self.items c.extend_from_slice-2.new.self.items (record r { size = r.size + 2 }) = linked_two _ _ _ _ r h c.in_ok-extend_from_slice.ensures.items (c.in_default.ensures.items ∙ ap (λ l. l ++ 0 ∷ 0 ∷ []) c.reserve.ensures.items) in
    let first : c.len-first.result ≡ r.size = omega (arith, c.len-first.ensures, h.next_size) in
    let more : ring_of c.self.inside.root c.extend_from_slice.new.self.items ≡ record r { size = r.size + 2 } = left_ring _ _ _ _ root grown in
    subst₂ (λ x (g : Ring). has x g.items ≡ false) (sym first) (sym more) (one_new r c.requires)

-- a number was put in before another
put : (s g k : Ring) (x y at to : ℕ) → s ≡ record g { items = inserted x at g.items } → g ≡ k → x ≡ y → at ≡ to → s ≡ record k { items = inserted y to k.items }
put s g k x y at to e eg ex ea = e ∙ (λ i. record (eg i) { items = inserted (ex i) (ea i) ((eg i).items) })

pub insert-requires-2-clause-new : goal.insert-requires-2-clause-new
insert-requires-2-clause-new c =
    let r : Ring = c.args.self.now in
    let h : IsLinked c.self.inside.next.items c.self.inside.prev.items r = subst (IsLinked _ _) c.self.view_is c.self.invariant in
    let root : c.self.inside.root ≡ r.root = ap (λ (r : Ring). r.root) c.self.view_is in
    let grown : IsLinked c.extend_from_slice.new.self.items c.extend_from_slice-2.new.self.items (record r { size = r.size + 2 }) = linked_two _ _ _ _ r h c.in_ok-extend_from_slice.ensures.items (c.in_default.ensures.items ∙ ap (λ l. l ++ 0 ∷ 0 ∷ []) c.reserve.ensures.items) in
    let first : c.len-first.result ≡ r.size = omega (arith, c.len-first.ensures, h.next_size) in
    let more : ring_of c.self.inside.root c.extend_from_slice.new.self.items ≡ record r { size = r.size + 2 } = left_ring _ _ _ _ root grown in
    let one : c.insert.new.self ≡ record r { size = r.size + 2; items = inserted r.size r.root r.items } = put _ _ (record r { size = r.size + 2 }) _ _ _ _ c.insert.ensures.inserted more first root in
    subst₂ (λ x (g : Ring). has x g.items ≡ false) (sym (ap (λ x. x + 1) first)) (sym one) (two_new r c.requires)

pub returns-clause-ok : goal.returns-clause-ok
returns-clause-ok c =
    let r : Ring = c.args.self.now in
    let h : IsLinked c.self.inside.next.items c.self.inside.prev.items r = subst (IsLinked _ _) c.self.view_is c.self.invariant in
    let root : c.self.inside.root ≡ r.root = ap (λ (r : Ring). r.root) c.self.view_is in
    let grown : IsLinked c.extend_from_slice.new.self.items c.extend_from_slice-2.new.self.items (record r { size = r.size + 2 }) = linked_two _ _ _ _ r h c.in_ok-extend_from_slice.ensures.items (c.in_default.ensures.items ∙ ap (λ l. l ++ 0 ∷ 0 ∷ []) c.reserve.ensures.items) in
    let first : c.len-first.result ≡ r.size = omega (arith, c.len-first.ensures, h.next_size) in
    let more : ring_of c.self.inside.root c.extend_from_slice.new.self.items ≡ record r { size = r.size + 2 } = left_ring _ _ _ _ root grown in
    let one : c.insert.new.self ≡ record r { size = r.size + 2; items = inserted r.size r.root r.items } = put _ _ (record r { size = r.size + 2 }) _ _ _ _ c.insert.ensures.inserted more first root in
    let two = put _ _ (record r { size = r.size + 2; items = inserted r.size r.root r.items }) _ (r.size + 1) _ _ c.insert-2.ensures.inserted one (ap (λ x. x + 1) first) root in
    two ∙ ap (λ l. record r { size = r.size + 2; items = l }) (with_two r c.requires)
