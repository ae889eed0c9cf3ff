-- The number of a name is that of a definition of it.
use Rattle.std.proofs.Common.{◌≡◌, ℕ, zero, suc, ◌+◌, Bool, true, false, List, [], ◌∷◌, map, Option, Some, None, ◌⊎◌, inl, inr, arith, refl, sym, ap, ◌∙◌}
use Rattle.std.specs.Prelude.{if◌then◌else◌, nat_le, slice_get}
use Rattle.al_base.specs.declared.place.Place.{Place}
use Rattle.al_tree.specs.declared.type_tree.TypeTree.{TypeTree}
use Rattle.al_tree.specs.declared.statement.Stmt.{Stmt}
use Rattle.al_tree.specs.declared.item.Scope.{Scope}
use Rattle.al_tree.specs.declared.item.Head.{Head}
use Rattle.al_tree.specs.declared.item.Owner.{Owner}
use Rattle.al_tree.specs.declared.item.Item.{Item}
use Rattle.al_tree.specs.declared.item.Item.TheVariants as item
use Rattle.al_declare.specs.declared.function.Defined.{Defined}
use Rattle.al_layout.specs.Types.{within}
use Rattle.al_globals.specs.Numbers.{defined_name, name_at, name_if, no_number, number_of, numbers, there, with_definitions, with_name}
use Rattle.al_sound_calls.proofs.Lists.{set_get, some_is}

pub within_is : (m n : ℕ) → within m ≡ Some n → m ≡ n
within_is m n h = go (nat_le m 4294967295) h
  where
    go : (b : Bool) → (if b then Some m else None) ≡ Some n → m ≡ n
    go true h = some_is h
    go false h = absurd (cc)

-- a definition that has that name and that number, from a number on
record IsThere (items : List Item) (from : ℕ) (ds : List Defined) (name number : ℕ) : Type 0 where
  behind : ℕ
  defined : Defined
  at : slice_get ds behind ≡ Some defined
  is : from + behind ≡ number
  named : name_at (slice_get items defined.item) ≡ Some name

there_is : (o : Option (Option ℕ)) (k : ℕ) → there o ≡ Some k → o ≡ Some (Some k)
there_is None k h = absurd (cc)
there_is (Some x) k h = ap Some h

module _ (items : List Item) where
  -- one definition more
  one_more : (from : ℕ) (d : Defined) (ds : List Defined) (ns : List (Option ℕ)) (name k : ℕ) (o : Option ℕ) → name_at (slice_get items d.item) ≡ o
      → number_of (with_name ns o from) name ≡ Some k → (number_of ns name ≡ Some k) ⊎ IsThere items from (d ∷ ds) name k
  one_more from d ds ns name k None is h = inl h
  one_more from d ds ns name k (Some other) is h = go (set_get ns other name (within from) (Some k) (there_is _ k h))
    where
      go : ((other ≡ name) × (within from ≡ Some k)) ⊎ (slice_get ns name ≡ Some (Some k)) → (number_of ns name ≡ Some k) ⊎ IsThere items from (d ∷ ds) name k
      go (inl e) = let p = within_is from k e.1 in inr (record { behind = 0; defined = d; at = refl; is = omega (arith, p); named = is ∙ ap Some e.0 })
      go (inr e) = inl (ap there e)

  further : (from : ℕ) (d : Defined) (ds : List Defined) (name k : ℕ) → IsThere items (from + 1) ds name k → IsThere items from (d ∷ ds) name k
  further from d ds name k t = record { behind = suc t.behind; defined = t.defined; at = t.at; is = let p = t.is in omega (arith, p); named = t.named }

  definitions_are : (from : ℕ) (ds : List Defined) (ns : List (Option ℕ)) (name k : ℕ) → number_of (with_definitions items from ds ns) name ≡ Some k
      → (number_of ns name ≡ Some k) ⊎ IsThere items from ds name k
  unfolding with_definitions
  definitions_are from [] ns name k h = inl h
  definitions_are from (d ∷ ds) ns name k h = go (definitions_are (from + 1) ds (with_name ns (name_at (slice_get items d.item)) from) name k h)
    where
      go : (number_of (with_name ns (name_at (slice_get items d.item)) from) name ≡ Some k) ⊎ IsThere items (from + 1) ds name k
          → (number_of ns name ≡ Some k) ⊎ IsThere items from (d ∷ ds) name k
      go (inl e) = one_more from d ds ns name k (name_at (slice_get items d.item)) refl e
      go (inr t) = inr (further from d ds name k t)

  none_first : (names : List (List ℕ)) (name k : ℕ) → number_of (map no_number names) name ≡ Some k → ⊥
  none_first [] name k h = absurd (cc)
  none_first (n ∷ names) zero k h = absurd (cc)
  none_first (n ∷ names) (suc name) k h = none_first names name k h

-- a definition outside of adts of that name
pub record IsNamed (items : List Item) (ds : List Defined) (name number : ℕ) : Type 0 where
  pub defined : Defined
  pub numbered : slice_get ds number ≡ Some defined
  pub at : Place
  pub scope : Option Scope
  pub base : TypeTree
  pub head : Head
  pub body : Stmt
  pub stands : slice_get items defined.item ≡ Some (item.Function at scope base head body)
  pub outside : head.owner ≡ None
  pub named : head.name.name ≡ name

name_here : (o : Option Owner) (name other : ℕ) → name_if o name ≡ Some other → (o ≡ None) × (name ≡ other)
name_here None name other h = (refl, some_is h)
name_here (Some owner) name other h = absurd (cc)

module _ (items : List Item) (ds : List Defined) (name number : ℕ) (d : Defined) (at_number : slice_get ds number ≡ Some d) where
  named_item : (o : Option Item) → slice_get items d.item ≡ o → name_at o ≡ Some name → IsNamed items ds name number
  unfolding defined_name
  named_item None is h = absurd (cc)
  named_item (Some (item.Function at scope base head body)) is h =
      let n = name_here head.owner head.name.name name h in
      record { defined = d; numbered = at_number; at = at; scope = scope; base = base; head = head; body = body; stands = is; outside = n.0; named = n.1 }
  named_item (Some (item.Typedef at base dcl)) is h = absurd (cc)
  named_item (Some (item.FunctionType at base stars n ps)) is h = absurd (cc)
  named_item (Some (item.Forward at kind n)) is h = absurd (cc)
  named_item (Some (item.Aggregate at kind n members)) is h = absurd (cc)
  named_item (Some (item.Adt at n ps members)) is h = absurd (cc)
  named_item (Some (item.Enum at n list)) is h = absurd (cc)
  named_item (Some (item.Declare at scope base list)) is h = absurd (cc)

pub numbers_are : (names : List (List ℕ)) (items : List Item) (ds : List Defined) (name number : ℕ) → number_of (numbers names items ds) name ≡ Some number → IsNamed items ds name number
unfolding numbers
numbers_are names items ds name number h = go (definitions_are items 0 ds (map no_number names) name number h)
  where
    go : (number_of (map no_number names) name ≡ Some number) ⊎ IsThere items 0 ds name number → IsNamed items ds name number
    go (inl e) = absurd (none_first items names name number e)
    go (inr t) =
        let k : t.behind ≡ number = let p = t.is in omega (arith, p) in
        named_item items ds name number t.defined (ap (slice_get ds) (sym k) ∙ t.at) (slice_get items t.defined.item) refl t.named
