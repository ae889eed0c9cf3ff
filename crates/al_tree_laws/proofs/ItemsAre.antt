-- The string constants and the globals of items are no more than their tokens.
use Rattle.std.proofs.Common.{◌≡◌, ℕ, ◌≤◌, Bool, true, List, [], ◌∷◌, ◌++◌, length, flat_map, sum_by, sym, ap, ◌∙◌, append-nil, length-append, arith}
use Rattle.std.proofs.lemmas.List.Sums.{sum_by_push}
use Rattle.al_lex.specs.declared.token.Token.{Token}
use Rattle.al_tree.specs.Types.{Leaves, dcl}
use Rattle.al_tree.specs.Items as g
use Rattle.al_tree.specs.Items.{Declared, body_types, IsInitializer, IsInitializers, IsDeclarator, IsDeclarators, IsItem, IsItems}
use Rattle.al_tree.specs.declared.item.Initializer.{Initializer, roll-Initializer, map-Initializer, fold-roll-Initializer}
use Rattle.al_tree.specs.declared.item.Initializer.TheVariants as ini
use Rattle.al_tree.specs.declared.item.Initializer.TheOpen.{Initializer-F}
use Rattle.al_tree.specs.declared.item.Declarator.{Declarator}
use Rattle.al_tree.specs.declared.item.Item.{Item}
use Rattle.al_tree_laws.specs.Texts.{Texts, initializer_step, initializer_texts, declarator_texts, item_texts, declared_globals, item_globals}
use Rattle.al_tree_laws.proofs.Few.{Few, few_is, nothing, behind, both, before, after, joined_map, flat_one_more}
use Rattle.al_tree_laws.proofs.ExpressionsAre.{asg_few}
use Rattle.al_tree_laws.proofs.StatementsAre.{block_few}

abbrev step_of : Initializer-F Initializer → Texts
step_of z = initializer_step (map-Initializer Initializer Texts initializer_texts z)

pub initializer_is : (z : Initializer-F Initializer) {x : Initializer} → roll-Initializer z ≡ x → initializer_texts x ≡ step_of z
unfolding initializer_texts
initializer_is z q = ap initializer_texts (sym q) ∙ fold-roll-Initializer Texts initializer_step z

module _ (leaves : Leaves) (Q : List ℕ → Bool) (holds : (t : Token) → Q (leaves.bytes t) ≡ true) where
  few_by : {u : List Token} (z : Initializer-F Initializer) {x : Initializer} → roll-Initializer z ≡ x → Few Q u (step_of z) → Few Q u (initializer_texts x)
  few_by z q f = few_is (initializer_is z q) f

  abbrev T : Initializer → Texts
  T = initializer_texts

  module _ (types : List ℕ) where
    mutual
      pub initializer_few : {u : List Token} {x : Initializer} {h : ℕ} → IsInitializer leaves types u x h → Few Q u (initializer_texts x)
      initializer_few (g.value {x = x} d) = few_by _ (ini.rolls-Value x) (asg_few leaves types Q holds d)
      initializer_few (g.braces o c {u = u} {xs = xs} oc l ec) = few_by _ (ini.rolls-Braces o.place xs) (few_is (joined_map T xs) (behind o (before u (c ∷ []) (initializers_few l))))
      initializer_few (g.braces_comma o t c {u = u} {xs = xs} oc l tc ec) =
          few_by _ (ini.rolls-Braces o.place xs) (few_is (joined_map T xs) (behind o (before u (t ∷ c ∷ []) (initializers_few l))))

      pub initializers_few : {u : List Token} {xs : List Initializer} {h : ℕ} → IsInitializers leaves types u xs h → Few Q u (flat_map initializer_texts xs)
      initializers_few (g.one {x = x} d) = few_is (append-nil (T x)) (initializer_few d)
      initializers_few (g.more t {u = u} {v = v} {xs = xs} {x = x} l c d) =
          few_is (flat_one_more T xs x) (both u (t ∷ v) (flat_map T xs) (T x) (initializers_few l) (behind t (initializer_few d)))

  pub declarator_few : {d : Declared} {inside : List ℕ} {u : List Token} {x : Declarator} {h : ℕ} → IsDeclarator leaves d inside u x h → Few Q u (declarator_texts x)
  declarator_few (g.global {u = u} a) = nothing u
  declarator_few (g.set {d = d} t {u = u} {v = v} a c i) = after u (t ∷ v) (behind t (initializer_few d.types i))
  declarator_few (g.function {u = u} a) = nothing u

  pub declarators_few : {d : Declared} {inside : List ℕ} {u : List Token} {xs : List Declarator} {h : ℕ} → IsDeclarators leaves d inside u xs h → Few Q u (flat_map declarator_texts xs)
  declarators_few (g.one {x = x} a) = few_is (append-nil (declarator_texts x)) (declarator_few a)
  declarators_few (g.more t {u = u} {v = v} {xs = xs} {x = x} l c a) =
      few_is (flat_one_more declarator_texts xs x) (both u (t ∷ v) (flat_map declarator_texts xs) (declarator_texts x) (declarators_few l) (behind t (declarator_few a)))

  pub item_few : {d after_item : Declared} {u : List Token} {x : Item} {h : ℕ} → IsItem leaves d u x after_item h → Few Q u (item_texts x)
  item_few (g.typedef w t {u = u} {v = v} wc b a tc) = nothing (w ∷ (u ++ v ++ t ∷ []))
  item_few (g.function_type w m o c t {u = u} {v = v} {r = r} wc b a mc oc p ec tc) = nothing (w ∷ (u ++ v ++ m ∷ o ∷ (r ++ c ∷ t ∷ [])))
  item_few (g.forward w m t a mc tc) = nothing (w ∷ m ∷ t ∷ [])
  item_few (g.plain_members w m o c {u = u} {q = q} a mc oc l ec s) = nothing (w ∷ m ∷ o ∷ (u ++ c ∷ q))
  item_few (g.adt w m o c {u = u} {q = q} wc mc oc l ec s) = nothing (w ∷ m ∷ o ∷ (u ++ c ∷ q))
  item_few (g.parametrised w m l r o c {p = p} {u = u} {q = q} wc mc lc a rc oc b ec s) = nothing (w ∷ m ∷ l ∷ (p ++ r ∷ o ∷ (u ++ c ∷ q)))
  item_few (g.enum w {u = u} {q = q} wc a s) = nothing (w ∷ (u ++ q))
  item_few (g.named_enum w m {u = u} {q = q} wc mc a s) = nothing (w ∷ m ∷ (u ++ q))
  item_few (g.declare t {s = s} {u = u} {v = v} {ys = ys} a b l tc) =
      few_is (append-nil (flat_map declarator_texts ys)) (before (s ++ u ++ v) (t ∷ []) (after (s ++ u) v (declarators_few l)))
  item_few (g.function {d = d} {s = s} {u = u} {v = v} {b = b} {head = head} a e f k) = after (s ++ u ++ v) b (block_few leaves (body_types leaves d head.owner) Q holds k)

  pub items_few : {d : Declared} {u : List Token} {xs : List Item} {h : ℕ} → IsItems leaves u xs d h → Few Q u (flat_map item_texts xs)
  items_few g.none = nothing []
  items_few (g.more {u = u} {v = v} {xs = xs} {x = x} l i) = few_is (flat_one_more item_texts xs x) (both u v (flat_map item_texts xs) (item_texts x) (items_few l) (item_few i))

-- ---- globals

module _ (leaves : Leaves) where
  abbrev G : List Declarator → ℕ
  G = sum_by declared_globals

  declarator_counts : {d : Declared} {inside : List ℕ} {u : List Token} {x : Declarator} {h : ℕ} → IsDeclarator leaves d inside u x h → declared_globals x ≤ length u
  declarator_counts (g.global (dcl t {u = u} {v = v} a b c)) = omega (arith, length-append u (t ∷ v))
  declarator_counts (g.set t {u = u} {v = v} a c i) = omega (arith, length-append u (t ∷ v))
  declarator_counts (g.function a) = omega arith

  declarators_count : {d : Declared} {inside : List ℕ} {u : List Token} {xs : List Declarator} {h : ℕ} → IsDeclarators leaves d inside u xs h → sum_by declared_globals xs ≤ length u
  declarators_count (g.one {u = u} {x = x} a) = let c : declared_globals x ≤ length u = declarator_counts a in omega (arith, c)
  declarators_count (g.more t {u = u} {v = v} {xs = xs} {x = x} l c a) =
      let p : G xs ≤ length u = declarators_count l in
      let q : declared_globals x ≤ length v = declarator_counts a in
      omega (arith, p, q, sum_by_push declared_globals xs x, length-append u (t ∷ v))

  item_counts : {d after_item : Declared} {u : List Token} {x : Item} {h : ℕ} → IsItem leaves d u x after_item h → item_globals x ≤ length u
  item_counts (g.typedef w t wc b a tc) = omega arith
  item_counts (g.function_type w m o c t wc b a mc oc p ec tc) = omega arith
  item_counts (g.forward w m t a mc tc) = omega arith
  item_counts (g.plain_members w m o c a mc oc l ec s) = omega arith
  item_counts (g.adt w m o c wc mc oc l ec s) = omega arith
  item_counts (g.parametrised w m l r o c wc mc lc a rc oc b ec s) = omega arith
  item_counts (g.enum w wc a s) = omega arith
  item_counts (g.named_enum w m wc mc a s) = omega arith
  item_counts (g.declare t {s = s} {u = u} {v = v} {ys = ys} a b l tc) =
      let p : G ys ≤ length v = declarators_count l in
      omega (arith, p, length-append (s ++ u ++ v) (t ∷ []), length-append (s ++ u) v)
  item_counts (g.function a e f k) = omega arith

  pub items_count : {d : Declared} {u : List Token} {xs : List Item} {h : ℕ} → IsItems leaves u xs d h → sum_by item_globals xs ≤ length u
  items_count g.none = omega arith
  items_count (g.more {u = u} {v = v} {xs = xs} {x = x} l i) =
      let p : sum_by item_globals xs ≤ length u = items_count l in
      let q : item_globals x ≤ length v = item_counts i in
      omega (arith, p, q, sum_by_push item_globals xs x, length-append u v)
