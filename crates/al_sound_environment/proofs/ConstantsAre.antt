-- The values of enum constants have no more bits than their kinds.
use Rattle.std.proofs.Common.{◌≡◌, ℕ, zero, suc, ◌<◌, ◌^◌, List, [], ◌∷◌, ◌++◌, fold, Option, Some, None, option_map, arith, ap, subst, ◌∙◌, lit<, ℤ, pos, negsuc}
use Rattle.std.specs.Prelude.{unsigned_abs}
use Rattle.std.specs.Int.{int_rem_euclid}
use Rattle.al_base.specs.Arith.{width_of, wrapped, applied, exact_of}
use Rattle.al_base.specs.declared.arith.Kind.{Kind}
use Rattle.al_base.specs.declared.arith.Kind.TheVariants as kind
use Rattle.al_base.specs.declared.arith.Op.TheVariants as op
use Rattle.al_tree.specs.Integers.{arithmetic, common, in_kind, int, integer}
use Rattle.al_tree.specs.Constants.{enum_constant, given, nothing_known, numbered, one_more, value, values, with_enum_name, with_item}
use Rattle.al_tree.specs.declared.constants.EnumConstant.{EnumConstant}
use Rattle.al_tree.specs.declared.expression.Name.{Name}
use Rattle.al_tree.specs.declared.expression.Expr.{Expr}
use Rattle.al_tree.specs.declared.integer.Integer.{Integer}
use Rattle.al_tree.specs.declared.item.Constant.{Constant}
use Rattle.al_tree.specs.declared.item.Item.{Item}
use Rattle.al_tree.specs.declared.item.Item.TheVariants as item
use Rattle.al_tree.specs.declared.item.Tree.{Tree}
use Rattle.al_rules.specs.Outcome.{Good}
use Rattle.al_scope.specs.declared.declaration.Scopes.{Scopes}
use Rattle.al_scope.specs.Items.{item_way, resolved, scopes_of}
use Rattle.al_scope.specs.Names.{begun}
use Rattle.al_scope.specs.Types.{each}
use Rattle.al_sound_environment.specs.Constants.{AreWithin, ConstantsAreWithin}
use Rattle.al_sound_environment.proofs.Lists.{judged_good, some_is}

abbrev TypeOf : (A : Type 0) → A → Type 0
TypeOf A x = A

-- what is known behind items
abbrev Known : Type 0
Known = TypeOf _ nothing_known

rem_below : (z : ℤ) (n : ℕ) → 0 < n → unsigned_abs (int_rem_euclid z (pos n)) < n
rem_below (pos a) n some = omega arith
rem_below (negsuc a) n some = omega arith

wrapped_within : (k : Kind) (z : ℤ) → wrapped (width_of k) z < 2 ^ width_of k
wrapped_within kind.Byte z = rem_below z (2 ^ 8) (lit< tt)
wrapped_within kind.Sint z = rem_below z (2 ^ 16) (lit< tt)
wrapped_within kind.Usint z = rem_below z (2 ^ 16) (lit< tt)
wrapped_within kind.Int z = rem_below z (2 ^ 32) (lit< tt)
wrapped_within kind.Uint z = rem_below z (2 ^ 32) (lit< tt)
wrapped_within kind.Lint z = rem_below z (2 ^ 64) (lit< tt)
wrapped_within kind.Ulint z = rem_below z (2 ^ 64) (lit< tt)

abbrev IsWithin : Integer → Type 0
IsWithin i = i.bits < 2 ^ width_of i.kind

abbrev IsValue : Option Integer → Type 0
IsValue o = (i : Integer) → o ≡ Some i → IsWithin i

in_kind_within : (k : Kind) (i : Integer) → IsWithin (in_kind k i)
unfolding in_kind
in_kind_within k i = wrapped_within k _

mapped_within : (k : Kind) (o : Option Integer) → IsValue (option_map (in_kind k) o)
mapped_within k None i h = absurd (cc)
mapped_within k (Some j) i h = subst IsWithin (some_is h) (in_kind_within k j)

sum_within : (k : Kind) (a b : ℕ) → IsValue (option_map (integer k) (applied op.Add k a b))
sum_within k a b i h = subst IsWithin (some_is h) (wrapped_within k (exact_of op.Add k a b))

more_within : (o : Option Integer) → IsValue (one_more o)
unfolding one_more arithmetic
more_within None i h = absurd (cc)
more_within (Some j) i h = sum_within (common j.kind kind.Int) _ _ i h

given_within : (known : Known) (next : Option Integer) (e : Option Expr) → IsValue next → IsValue (given known next e)
unfolding given
given_within known next None h = h
given_within known next (Some e) h = mapped_within kind.Int (value e known)

all_more : (cs : List EnumConstant) (c : EnumConstant) → AreWithin cs → IsValue c.value → AreWithin (cs ++ c ∷ [])
all_more [] c all h zero d i e v = h i (ap (λ (x : EnumConstant). x.value) (some_is e) ∙ v)
all_more [] c all h (suc n) d i e v = absurd (cc)
all_more (x ∷ cs) c all h zero d i e v = all zero d i e v
all_more (x ∷ cs) c all h (suc n) d i e v = all_more cs c (λ m. all (suc m)) h n d i e v

numbered_within : (next : Option Integer) (known : Known) (cs : List Constant) → IsValue next → AreWithin known.constants → AreWithin (numbered next known cs).constants
unfolding numbered
numbered_within next known [] h all = all
numbered_within next known (c ∷ cs) h all =
    let v = given known next c.value in
    numbered_within (one_more v) (record { types = known.types; constants = known.constants ++ enum_constant c.name v ∷ [] }) cs (more_within v)
    (all_more known.constants (enum_constant c.name v) all (given_within known next c.value h))

zero_below : 0 < 2 ^ 32
zero_below = lit< tt

none_within : IsValue (Some (int 0))
none_within i h = subst IsWithin (some_is h) zero_below

item_within : (known : Known) (i : Item) → AreWithin known.constants → AreWithin (with_item known i).constants
unfolding with_item
item_within known (item.Enum at name cs) all = numbered_within (Some (int 0)) (with_enum_name known name) cs none_within (go name)
  where
    go : (o : Option Name) → AreWithin (with_enum_name known o).constants
    go None = all
    go (Some n) = all
item_within known _ all = all

items_within : (known : Known) (is : List Item) → AreWithin known.constants → AreWithin (fold with_item known is).constants
items_within known [] all = all
items_within known (i ∷ is) all = items_within (with_item known i) is (item_within known i all)

values_within : (items : List Item) → AreWithin (values items)
unfolding values
values_within items = items_within nothing_known items (λ n c i e v. absurd (cc))

scopes_within : (tree : Tree) (scopes : Scopes) → resolved tree ≡ Good scopes → AreWithin scopes.constants.list
unfolding resolved scopes_of
scopes_within tree scopes h =
    let w = each item_way tree.items (values tree.items) (begun tree.names) in
    subst (λ (s : Scopes). AreWithin s.constants.list) (judged_good w.faults (scopes_of (values tree.items) w) scopes h).1 (values_within tree.items)

pub constants_are_within : ConstantsAreWithin
constants_are_within = record { values_are = values_within; scopes_are = scopes_within }
