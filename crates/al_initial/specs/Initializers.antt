-- What initializers start globals with.
use Rattle.std.specs.Prelude.{ℕ, ◌+◌, ◌*◌, Bool, false, if◌then◌else◌, List, [], ◌∷◌, ◌++◌, map, length, slice_get, Option, Some, None, option_map, unwrap_or}
use Rattle.std.specs.List.{range_with_len}
use Rattle.al_base.specs.declared.place.Place.{Place}
use Rattle.al_rules.specs.Outcome.{Outcome, Good, Bad, ask, judge, and_then, both}
use Rattle.al_tree.specs.declared.expression.Expr.{Expr}
use Rattle.al_tree.specs.declared.item.Initializer.{Initializer, fold-Initializer}
use Rattle.al_tree.specs.declared.item.Initializer.TheOpen.{Initializer-F}
use Rattle.al_scope.specs.Expressions.{place}
use Rattle.al_typed.specs.declared.program.Aggregate.{Aggregate}
use Rattle.al_typed.specs.declared.program.StartValue.{StartValue}
use Rattle.al_typed.specs.declared.ty.Ty.{Ty, out-Ty}
use Rattle.al_typed.specs.declared.ty.Ty.TheOpen.{Ty-F}
use Rattle.al_typed.specs.Capped.{capped}
use Rattle.al_typed.specs.Layout.{Member, layout, size_of, offsets_from}
use Rattle.al_environment.specs.declared.environment.Environment.{Environment}
use Rattle.al_environment.specs.declared.environment.Here.{Here}
use Rattle.al_type_expr.specs.Nodes.{value_of}
use Rattle.al_initial.specs.Rules.{rule_21_has_parts}
use Rattle.al_initial.specs.Start.{started, placed}

-- What an initializer gives a part of that type that stands so many bytes from the front of the global. What is more than
-- 2^64 - 1 counts as that.
abbrev pub Way : Type 0
Way = Ty → (offset : ℕ) → Outcome (List StartValue)

-- ---- the parts that braces may give values to

abbrev pub part : Ty → ℕ → Member
part t at = record { ty = t; at = at }

-- the elements of an array, of which each has that size
unfoldable pub elements : (size : ℕ) → Ty → (count : ℕ) → List Member
elements size t count = map (λ i. part t (i * size)) (range_with_len 0 count)

-- parts of these types at these places
abbrev pub standing : List Ty → List ℕ → List Member
standing [] ats = []
standing (t ∷ ts) [] = []
standing (t ∷ ts) (at ∷ ats) = part t at ∷ standing ts ats

-- the members of an aggr, those without a name too
unfoldable pub members : List Aggregate → List Ty → List Member
members rows ts = standing ts (offsets_from 0 (map (layout rows) ts))

-- whether the aggregate of that number is an adt
abbrev pub is_adt : (adts : List Bool) → ℕ → Bool
is_adt adts n = unwrap_or (slice_get adts n) false

abbrev pub unless_union : Option Aggregate → Option (List Ty)
unless_union None = None
unless_union (Some a) = if a.is_union then None else a.members

-- the types of the members of an aggr, which is no union and no adt
unfoldable pub aggr_members : List Aggregate → (adts : List Bool) → ℕ → Option (List Ty)
aggr_members rows adts n = if is_adt adts n then None else unless_union (slice_get rows n)

abbrev pub parts_at : List Aggregate → List Bool → Ty-F Ty → Option (List Member)
parts_at rows adts (Ty-F.Array t count) = Some (elements (size_of rows t) t count)
parts_at rows adts (Ty-F.Aggregate n) = option_map (members rows) (aggr_members rows adts n)
parts_at rows adts _ = None

-- the parts of an array or an aggr
unfoldable pub parts_of : List Aggregate → (adts : List Bool) → Ty → Option (List Member)
parts_of rows adts t = parts_at rows adts (out-Ty t)

-- ---- braces

-- the first parts get the values that are given; the others start with 0
unfoldable pub all_started : List Way → List Member → (offset : ℕ) → Outcome (List StartValue)
all_started [] ms offset = Good []
all_started (w ∷ ws) [] offset = Good []
all_started (w ∷ ws) (m ∷ ms) offset = both (w m.ty (capped (offset + m.at))) (all_started ws ms offset) (λ vs rest. Good (vs ++ rest))

abbrev pub in_parts : Place → List Way → (offset : ℕ) → List Member → Outcome (List StartValue)
in_parts at ws offset ms = and_then (judge (ask 21 at (rule_21_has_parts (length ws) (length ms))) ms) (λ ns. all_started ws ns offset)

-- 21. In braces, for an array or aggr, there are no more than there are parts.
abbrev pub in_parts_if : Place → List Way → (offset : ℕ) → Option (List Member) → Outcome (List StartValue)
in_parts_if at ws offset None = Bad (ask 21 at false)
in_parts_if at ws offset (Some ms) = in_parts at ws offset ms

unfoldable pub braces : List Aggregate → (adts : List Bool) → Place → List Way → Way
braces rows adts at ws t offset = in_parts_if at ws offset (parts_of rows adts t)

-- ---- every initializer

module _ (env : Environment) (here : Here) where
  -- a value alone
  unfoldable pub value_started : Expr → Way
  value_started e t offset = and_then (and_then (value_of env here e) (started env.aggregates (place e) t)) (placed (place e) offset)

  abbrev pub step : (adts : List Bool) → Initializer-F Way → Way
  step adts (Initializer-F.Value e) = value_started e
  step adts (Initializer-F.Braces at ws) = braces env.aggregates adts at ws

  unfoldable pub initializer : (adts : List Bool) → Initializer → Way
  initializer adts = fold-Initializer Way (step adts)
