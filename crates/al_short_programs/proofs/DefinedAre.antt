-- The functions of a text and of at most 256 instances have at most 256 times what its definitions have: a function belongs to
-- the text, which is one, or to instances of one adt.
use Rattle.std.proofs.Common.{◌≡◌, ℕ, suc, ◌+◌, ◌-◌, ◌*◌, ◌≤◌, ◌==◌, Bool, true, false, ◌&&◌, List, [], ◌∷◌, ◌++◌, length, flat_map, slice_get, Option, Some, None, refl, sym, ap, ◌∙◌, subst, arith, length-append, append_assoc, mul-le-mul_right}
use Rattle.al_tree.specs.declared.item.Item.{Item}
use Rattle.al_poly.specs.declared.instance.Instance.{Instance}
use Rattle.al_poly.specs.declared.names.Names.{Names}
use Rattle.al_poly.specs.Types.{names_of}
use Rattle.al_poly.specs.Instances.{owner_of}
use Rattle.al_declare.specs.declared.function.Defined.{Defined}
use Rattle.al_declare.specs.Functions.{belongs, defined, defined_if, definitions, functions, is_definition, of_instances, same_owner}

-- what an item has, if there is one
abbrev pub at_item : {A : Type 0} → (Item → List A) → Option Item → List A
at_item has None = []
at_item has (Some i) = has i

-- what the item has that defines a function
abbrev pub of_defined : {A : Type 0} → (Item → List A) → List Item → Defined → List A
of_defined has items d = at_item has (slice_get items d.item)

abbrev if_true : Bool → ℕ → ℕ
if_true true n = n
if_true false n = 0

-- an item does not belong to the text and to an adt
one_owner : (d : Bool) (o : Option ℕ) (a n : ℕ) → if_true (d && same_owner o None) n + if_true (d && same_owner o (Some a)) n ≤ n
one_owner true None a n = omega arith
one_owner true (Some b) a n = on (b == a)
  where
    on : (e : Bool) → 0 + if_true e n ≤ n
    on true = omega arith
    on false = omega arith
one_owner false o a n = omega arith

item_at : (front : List Item) (i : Item) (is : List Item) → slice_get (front ++ i ∷ is) (length front) ≡ Some i
item_at [] i is = refl
item_at (j ∷ front) i is = item_at front i is

module _ {A : Type 0} (has : Item → List A) where
  -- how much the items have that belong to that
  owned : Names → Option ℕ → List Item → ℕ
  owned names owner [] = 0
  owned names owner (i ∷ is) = if_true (belongs names owner i) (length (has i)) + owned names owner is

  two_owners : (names : Names) (a : ℕ) (items : List Item) → owned names None items + owned names (Some a) items ≤ length (flat_map has items)
  unfolding owned
  two_owners names a [] = omega arith
  two_owners names a (i ∷ is) =
      let p : owned names None is + owned names (Some a) is ≤ length (flat_map has is) = two_owners names a is in
      let q = one_owner (is_definition i) (owner_of names i) a (length (has i)) in
      omega (arith, p, q, length-append (has i) (flat_map has is))

  module _ (names : Names) (items : List Item) where
    T : Defined → List A
    T = of_defined has items

    one_definition : (b : Bool) (front : List Item) (i : Item) (is : List Item) (instance : Option ℕ) → items ≡ front ++ i ∷ is
        → length (flat_map T (defined_if b (defined (length front) instance))) ≡ if_true b (length (has i))
    unfolding T
    one_definition true front i is instance e =
        let o : slice_get items (length front) ≡ Some i = ap (λ xs. slice_get xs (length front)) e ∙ item_at front i is in
        omega (arith, ap (λ x. length (at_item has x)) o, length-append (at_item has (slice_get items (length front))) [])
    one_definition false front i is instance e = refl

    flat_both : (xs ys : List Defined) → length (flat_map T (xs ++ ys)) ≡ length (flat_map T xs) + length (flat_map T ys)
    flat_both [] ys = omega arith
    flat_both (x ∷ xs) ys =
        let p : length (flat_map T (xs ++ ys)) ≡ length (flat_map T xs) + length (flat_map T ys) = flat_both xs ys in
        omega (arith, p, length-append (T x) (flat_map T (xs ++ ys)), length-append (T x) (flat_map T xs))

    definitions_count : (owner instance : Option ℕ) (front is : List Item) → items ≡ front ++ is → length (flat_map T (definitions names owner instance (length front) is)) ≡ owned names owner is
    unfolding definitions owned
    definitions_count owner instance front [] e = refl
    definitions_count owner instance front (i ∷ is) e =
        let more = front ++ i ∷ [] in
        let k : length more ≡ length front + 1 = length-append front (i ∷ []) in
        let p : length (flat_map T (definitions names owner instance (length more) is)) ≡ owned names owner is = definitions_count owner instance more is (e ∙ sym (append_assoc front (i ∷ []) is)) in
        let q : length (flat_map T (definitions names owner instance (length front + 1) is)) ≡ owned names owner is = subst (λ m. length (flat_map T (definitions names owner instance m is)) ≡ owned names owner is) k p in
        let b = belongs names owner i in
        flat_both (defined_if b (defined (length front) instance)) (definitions names owner instance (length front + 1) is)
        ∙ ap (λ m. m + length (flat_map T (definitions names owner instance (length front + 1) is))) (one_definition b front i is instance e)
        ∙ ap (λ m. if_true b (length (has i)) + m) q

    instances_count : (most : ℕ) → ((a : ℕ) → owned names (Some a) items ≤ most) → (from : ℕ) (is : List Instance) → length (flat_map T (of_instances names items from is)) ≤ length is * most
    unfolding of_instances
    instances_count most h from [] = omega arith
    instances_count most h from (i ∷ is) =
        let p : length (flat_map T (of_instances names items (from + 1) is)) ≤ length is * most = instances_count most h (from + 1) is in
        let q : length (flat_map T (definitions names (Some i.adt) (Some from) 0 items)) ≡ owned names (Some i.adt) items = definitions_count (Some i.adt) (Some from) [] items refl in
        let s : suc (length is) * most ≡ most + length is * most = omega arith in
        omega (arith, p, q, s, h i.adt, flat_both (definitions names (Some i.adt) (Some from) 0 items) (of_instances names items (from + 1) is))

  pub functions_count : (items : List Item) (is : List Instance) → length is ≤ 256 → length (flat_map (of_defined has items) (functions items is)) ≤ 256 * length (flat_map has items)
  unfolding functions T
  functions_count items is few =
      let names = names_of items in
      let whole = length (flat_map has items) in
      let own = owned names None items in
      let rest : ℕ = whole - own in
      let h : (a : ℕ) → owned names (Some a) items ≤ rest = λ a. omega (arith, two_owners names a items) in
      let p : length (flat_map (of_defined has items) (definitions names None None 0 items)) ≡ own = definitions_count names items None None [] items refl in
      let q : length (flat_map (of_defined has items) (of_instances names items 0 is)) ≤ length is * rest = instances_count names items rest h 0 is in
      let r : length is * rest ≤ 256 * rest = mul-le-mul_right rest few in
      let o : own ≤ whole = omega (arith, two_owners names 0 items) in
      omega (arith, p, q, r, o, flat_both names items (definitions names None None 0 items) (of_instances names items 0 is))
