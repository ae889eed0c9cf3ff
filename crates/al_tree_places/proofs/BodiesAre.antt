-- The jumps and the branches of bodies stand at tokens of the text, each at one of its own.
use Rattle.std.proofs.Common.{◌≡◌, ℕ, zero, suc, ◌+◌, ◌≤◌, List, [], ◌∷◌, ◌++◌, map, flat_map, slice_get, Some, None, refl, sym, ap, subst, arith}
use Rattle.al_base.specs.declared.place.Place.{Place}
use Rattle.al_lex.specs.declared.token.Token.{Token}
use Rattle.al_rules.specs.Outcome.{same_place}
use Rattle.al_tree.specs.Types.{Leaves}
use Rattle.al_tree.specs.Items as g
use Rattle.al_tree.specs.Items.{Declared, body_types, IsItem, IsItems}
use Rattle.al_tree.specs.declared.statement.Stmt.{Stmt, roll-Stmt, map-Stmt, fold-roll-Stmt}
use Rattle.al_tree.specs.declared.statement.Stmt.TheOpen.{Stmt-F}
use Rattle.al_tree.specs.declared.item.Item.{Item}
use Rattle.al_tree.specs.declared.item.Item.TheVariants as item
use Rattle.al_tree.specs.declared.item.Tree.{Tree}
use Rattle.al_branches.specs.Statements.{Part, inside, as_branch, in_par, part, step}
use Rattle.al_tree_places.specs.Jumps.{jump_step, jump_places}
use Rattle.al_tree_places.specs.Apart.{HasBody}
use Rattle.al_tree_places.specs.Few.{body_places}
use Rattle.al_tree_places.proofs.Times.{one_if, times, places, times_append, Within, within_is, nothing, both, after, joined_map, flat_one_more}
use Rattle.al_tree_places.proofs.MarksAre.{IsModest, own_place, inner, block_marks}

-- ---- jumps

less : (at p : Place) (ps : List Place) → times at ps ≤ times at (p ∷ ps)
less at p ps = let q : times at ps ≤ one_if (same_place at p) + times at ps = omega arith in q

abbrev J : Stmt → List Place
J = jump_places

-- what a statement has by its parts is no more than it has
jumped : (z : Stmt-F Stmt) (at : Place) → times at (jump_step (map-Stmt Stmt (List Place) J z)) ≤ times at (own_place z ∷ inner J z)
jumped (Stmt-F.Empty p) at = less at p []
jumped (Stmt-F.Block p body) at = subst (λ (l : List Place). times at l ≤ times at (p ∷ flat_map J body)) (sym (joined_map J body)) (less at p (flat_map J body))
jumped (Stmt-F.Declare p base variables) at = less at p []
jumped (Stmt-F.Value p e) at = less at p []
jumped (Stmt-F.Label p name body) at = omega arith
jumped (Stmt-F.If p e met None) at = less at p (J met ++ [])
jumped (Stmt-F.If p e met (Some other)) at = less at p (J met ++ J other)
jumped (Stmt-F.While p e body) at = less at p (J body)
jumped (Stmt-F.Do p body e) at = less at p (J body)
jumped (Stmt-F.For p start e next body) at = less at p (J body)
jumped (Stmt-F.Switch p e body) at = subst (λ (l : List Place). times at l ≤ times at (p ∷ flat_map J body)) (sym (joined_map J body)) (less at p (flat_map J body))
jumped (Stmt-F.Alt p body) at = subst (λ (l : List Place). times at l ≤ times at (p ∷ flat_map J body)) (sym (joined_map J body)) (less at p (flat_map J body))
jumped (Stmt-F.Case p e) at = less at p []
jumped (Stmt-F.Default p) at = less at p []
jumped (Stmt-F.Par p body) at = subst (λ (l : List Place). times at l ≤ times at (p ∷ flat_map J body)) (sym (joined_map J body)) (less at p (flat_map J body))
jumped (Stmt-F.Rescue p name body) at = omega arith
jumped (Stmt-F.Raise p name) at = omega arith
jumped (Stmt-F.Return p e) at = less at p []
jumped (Stmt-F.Become p e) at = less at p []
jumped (Stmt-F.Break p count) at = omega arith
jumped (Stmt-F.Continue p count) at = omega arith
jumped (Stmt-F.Goto p name) at = omega arith
jumped (Stmt-F.Alloc p es) at = less at p []
jumped (Stmt-F.Unalloc p es) at = less at p []
jumped (Stmt-F.Check p e text) at = less at p []
jumped (Stmt-F.Proc p es) at = less at p []
jumped (Stmt-F.Task p es) at = less at p []

jumps_is : (z : Stmt-F Stmt) → jump_places (roll-Stmt z) ≡ jump_step (map-Stmt Stmt (List Place) jump_places z)
unfolding jump_places
jumps_is z = fold-roll-Stmt (List Place) jump_step z

pub jumps_modest : IsModest jump_places
jumps_modest z at = subst (λ (l : List Place). times at l ≤ times at (own_place z ∷ inner jump_places z)) (sym (jumps_is z)) (jumped z at)

-- ---- branches

-- those of statements, without their own places
insides : (at : Place) (xs : List Stmt) → times at (flat_map inside (map part xs)) ≤ times at (flat_map in_par xs)
insides at [] = omega arith
insides at (x ∷ xs) =
    let p : times at (flat_map inside (map part xs)) ≤ times at (flat_map in_par xs) = insides at xs in
    omega (arith, p, times_append at (part x).branches (flat_map inside (map part xs)), times_append at (part x).branches (flat_map in_par xs))

with_own : (at : Place) (xs : List Stmt) → flat_map as_branch (map part xs) ≡ flat_map in_par xs
with_own at [] = refl
with_own at (x ∷ xs) = ap (λ ats. in_par x ++ ats) (with_own at xs)

abbrev P : Stmt → List Place
P = in_par

-- a part's places: its own, and those inside
abbrev all_of : Part → List Place
all_of p = p.at ∷ p.branches

under : (at p : Place) (ps qs : List Place) → times at ps ≤ times at qs → times at (p ∷ ps) ≤ times at (p ∷ qs)
under at p ps qs h = omega (arith, h)

tail_of : (at : Place) (x : Stmt) → times at (part x).branches ≤ times at (P x)
tail_of at x = less at (part x).at (part x).branches

branched : (z : Stmt-F Stmt) (at : Place) → times at (all_of (step (map-Stmt Stmt Part part z))) ≤ times at (own_place z ∷ inner P z)
branched (Stmt-F.Empty p) at = omega arith
branched (Stmt-F.Block p body) at = under at p (flat_map inside (map part body)) (flat_map P body) (insides at body)
branched (Stmt-F.Declare p base variables) at = omega arith
branched (Stmt-F.Value p e) at = omega arith
branched (Stmt-F.Label p name body) at = under at p ((part body).branches) (P body) (tail_of at body)
branched (Stmt-F.If p e met None) at =
    let h : times at ((part met).branches ++ []) ≤ times at (P met ++ []) = omega (arith, tail_of at met, times_append at (part met).branches [], times_append at (P met) []) in
    under at p ((part met).branches ++ []) (P met ++ []) h
branched (Stmt-F.If p e met (Some other)) at =
    let h : times at ((part met).branches ++ (part other).branches) ≤ times at (P met ++ P other) =
    omega (arith, tail_of at met, tail_of at other, times_append at (part met).branches (part other).branches, times_append at (P met) (P other)) in
    under at p ((part met).branches ++ (part other).branches) (P met ++ P other) h
branched (Stmt-F.While p e body) at = under at p ((part body).branches) (P body) (tail_of at body)
branched (Stmt-F.Do p body e) at = under at p ((part body).branches) (P body) (tail_of at body)
branched (Stmt-F.For p start e next body) at = under at p ((part body).branches) (P body) (tail_of at body)
branched (Stmt-F.Switch p e body) at = under at p (flat_map inside (map part body)) (flat_map P body) (insides at body)
branched (Stmt-F.Alt p body) at = under at p (flat_map inside (map part body)) (flat_map P body) (insides at body)
branched (Stmt-F.Case p e) at = omega arith
branched (Stmt-F.Default p) at = omega arith
branched (Stmt-F.Par p body) at = subst (λ (l : List Place). times at (p ∷ l) ≤ times at (p ∷ flat_map P body)) (sym (with_own at body)) (omega arith)
branched (Stmt-F.Rescue p name body) at = under at p ((part body).branches) (P body) (tail_of at body)
branched (Stmt-F.Raise p name) at = omega arith
branched (Stmt-F.Return p e) at = omega arith
branched (Stmt-F.Become p e) at = omega arith
branched (Stmt-F.Break p count) at = omega arith
branched (Stmt-F.Continue p count) at = omega arith
branched (Stmt-F.Goto p name) at = omega arith
branched (Stmt-F.Alloc p es) at = omega arith
branched (Stmt-F.Unalloc p es) at = omega arith
branched (Stmt-F.Check p e text) at = omega arith
branched (Stmt-F.Proc p es) at = omega arith
branched (Stmt-F.Task p es) at = omega arith

part_is : (z : Stmt-F Stmt) → part (roll-Stmt z) ≡ step (map-Stmt Stmt Part part z)
unfolding part
part_is z = fold-roll-Stmt Part step z

pub branches_modest : IsModest in_par
branches_modest z at = subst (λ (p : Part). times at (all_of p) ≤ times at (own_place z ∷ inner in_par z)) (sym (part_is z)) (branched z at)

-- ---- bodies

one_of : (f : Item → List Place) (at : Place) (xs : List Item) (k : ℕ) (x : Item) → slice_get xs k ≡ Some x → times at (f x) ≤ times at (flat_map f xs)
one_of f at [] k x e = absurd (let f : ⊥ = cc in f)
one_of f at (y ∷ xs) zero x e =
    let same : y ≡ x = cc in
    subst (λ z. times at (f z) ≤ times at (flat_map f (y ∷ xs))) same (omega (arith, times_append at (f y) (flat_map f xs)))
one_of f at (y ∷ xs) (suc k) x e = omega (arith, one_of f at xs k x e, times_append at (f y) (flat_map f xs))

module _ (G : Stmt → List Place) (modest : IsModest G) (leaves : Leaves) where
  item_marks : {d after_item : Declared} {u : List Token} {x : Item} {h : ℕ} → IsItem leaves d u x after_item h → Within u (body_places G x)
  item_marks {u = u} (g.typedef w t wc b a tc) = nothing u
  item_marks {u = u} (g.function_type w m o c t wc b a mc oc p ec tc) = nothing u
  item_marks {u = u} (g.forward w m t a mc tc) = nothing u
  item_marks {u = u} (g.plain_members w m o c a mc oc l ec s) = nothing u
  item_marks {u = u} (g.adt w m o c wc mc oc l ec s) = nothing u
  item_marks {u = u} (g.parametrised w m l r o c wc mc lc a rc oc b ec s) = nothing u
  item_marks {u = u} (g.enum w wc a s) = nothing u
  item_marks {u = u} (g.named_enum w m wc mc a s) = nothing u
  item_marks {u = u} (g.declare t a b l tc) = nothing u
  item_marks (g.function {d = d} {s = s} {u = u} {v = v} {b = b} {head = head} a e f k) = after (s ++ u ++ v) b (block_marks G modest leaves (body_types leaves d head.owner) k)

  pub items_marks : {d : Declared} {u : List Token} {xs : List Item} {h : ℕ} → IsItems leaves u xs d h → Within u (flat_map (body_places G) xs)
  items_marks g.none = nothing []
  items_marks (g.more {u = u} {v = v} {xs = xs} {x = x} l i) =
      within_is (flat_one_more (body_places G) xs x) (both u v (flat_map (body_places G) xs) (body_places G x) (items_marks l) (item_marks i))

  pub body_within : {d : Declared} {u : List Token} {h : ℕ} (tree : Tree) → IsItems leaves u tree.items d h → (k : ℕ) (body : Stmt) → HasBody tree k body → Within u (G body)
  body_within {u = u} tree l k body b = record {
    few = λ at.
        let p : times at (G body) ≤ times at (flat_map (body_places G) tree.items) = one_of (body_places G) at tree.items k (item.Function b.at b.scope b.base b.head body) b.is in
        let q : times at (flat_map (body_places G) tree.items) ≤ times at (places u) = (items_marks l).few at in
        omega (arith, p, q);
  }
