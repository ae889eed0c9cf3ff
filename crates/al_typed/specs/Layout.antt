-- Where the values of a type lie: sizes, alignments, offsets of members, and units. All are in bytes.
use Rattle.std.specs.Prelude.{◌≡◌, ℕ, ◌+◌, ◌*◌, ◌/◌, max, ◌==◌, Bool, true, false, if◌then◌else◌, List, [], ◌∷◌, ◌++◌, map, fold, length, take, All, Option, Some, None, slice_get, unwrap_or}
use Rattle.std.specs.List.{flat_map, range_with_len}
use Rattle.std.specs.Int.{div_ceil}
use Rattle.al_typed.specs.declared.layout.Unit.{Unit}
use Rattle.al_typed.specs.declared.layout.Room.{Room}
use Rattle.al_typed.specs.declared.layout.PlacedSoFar.{PlacedSoFar}
use Rattle.al_typed.specs.declared.program.Aggregate.{Aggregate}
use Rattle.al_typed.specs.declared.ty.Ty.{Ty, out-Ty}
use Rattle.al_typed.specs.declared.ty.Ty.TheOpen.{Ty-F}
use Rattle.al_typed.specs.Capped.{capped}
use Rattle.al_typed.specs.TyFold.{fold_ty}
use Rattle.al_typed.specs.Types.{bytes_of, is_complete, is_array}

-- The units are the accesses that make a whole value, in their order.
pub record Layout : Type 0 where
  pub size : ℕ
  pub align : ℕ
  pub units : List Unit

-- of what has no values
abbrev pub nothing : Layout
nothing = record { size = 0; align = 1; units = [] }

abbrev pub unit_at : ℕ → ℕ → Unit
unit_at at size = record { at = at; size = size }

-- the units of a value that stands so many bytes further on
abbrev pub moved : ℕ → List Unit → List Unit
moved by units = map (λ (u : Unit). unit_at (by + u.at) u.size) units

-- the next multiple
unfoldable pub rounded : ℕ → ℕ → ℕ
rounded at align = div_ceil at align * align

-- one unit: an integer of at most 4 bytes, a pointer, a channel
abbrev pub single : ℕ → Layout
single size = record { size = size; align = size; units = unit_at 0 size ∷ [] }

-- two units, the low word first: an integer of 8 bytes
abbrev pub double : Layout
double = record { size = 8; align = 4; units = unit_at 0 4 ∷ unit_at 4 4 ∷ [] }

abbrev pub of_bytes : ℕ → Layout
of_bytes size = if size == 8 then double else single size

-- an array is its elements in order
unfoldable pub repeated : ℕ → Layout → Layout
repeated count l = record {
  size = count * l.size;
  align = l.align;
  units = flat_map (λ i. moved (i * l.size) l.units) (range_with_len 0 count);
}

-- Members in order, each at the next offset that its alignment divides: where the last one ends, the greatest of their
-- alignments, and their units.
pub record Run : Type 0 where
  pub at : ℕ
  pub align : ℕ
  pub units : List Unit

abbrev pub begun : Run
begun = record { at = 0; align = 1; units = [] }

unfoldable pub followed : Run → Layout → Run
followed run l = record {
  at = rounded run.at l.align + l.size;
  align = max run.align l.align;
  units = run.units ++ moved (rounded run.at l.align) l.units;
}

-- without members it has size and alignment 1 and no units
abbrev pub closed : List Layout → Run → Layout
closed [] run = record { size = 1; align = 1; units = [] }
closed (l ∷ ls) run = record { size = rounded run.at run.align; align = run.align; units = run.units }

-- a tuple, an aggr or an adt
unfoldable pub in_order : List Layout → Layout
in_order ls = closed ls (fold followed begun ls)

-- the offsets of members in order, the first of which may stand at `at`
abbrev pub offsets_from : ℕ → List Layout → List ℕ
offsets_from at [] = []
offsets_from at (l ∷ ls) = rounded at l.align ∷ offsets_from (rounded at l.align + l.size) ls

-- members over each other: the greatest of their sizes and of their alignments
pub record Extent : Type 0 where
  pub size : ℕ
  pub align : ℕ

abbrev pub widened : Extent → Layout → Extent
widened e l = record { size = max e.size l.size; align = max e.align l.align }

abbrev pub piled : Extent → Layout
piled e = let size = rounded e.size e.align in record {
  size = size;
  align = e.align;
  units = map (λ i. unit_at (i * e.align) e.align) (range_with_len 0 (size / e.align));
}

-- a union of size s and alignment a has s/a units of a bytes
unfoldable pub over_each_other : List Layout → Layout
over_each_other ls = piled (fold widened (record { size = 0; align = 1 }) ls)

-- The layout of a type, where the aggregates have these.
abbrev pub layout_step : List Layout → Ty-F Layout → Layout
layout_step known Ty-F.Void = nothing
layout_step known (Ty-F.Integer kind) = of_bytes (bytes_of kind)
layout_step known (Ty-F.Pointer _) = single 4
layout_step known (Ty-F.Array element count) = repeated count element
layout_step known (Ty-F.Chan _ _) = single 4
layout_step known (Ty-F.Tuple parts) = in_order parts
layout_step known (Ty-F.Aggregate number) = unwrap_or (slice_get known number) nothing
layout_step known (Ty-F.Function _ _) = nothing

unfoldable pub layout_of : List Layout → Ty → Layout
layout_of known = fold_ty (layout_step known)

-- the layout of an aggregate, where the ones before it have these
abbrev pub members_layout : Bool → List Layout → Layout
members_layout is_union ls = if is_union then over_each_other ls else in_order ls

abbrev pub body_layout : List Layout → Bool → Option (List Ty) → Layout
body_layout known is_union None = nothing
body_layout known is_union (Some members) = members_layout is_union (map (layout_of known) members)

unfoldable pub aggregate_layout : List Layout → Aggregate → Layout
aggregate_layout known a = body_layout known a.is_union a.members

-- the layouts of all aggregates, each found from the ones before it
unfoldable pub layouts_after : List Layout → List Aggregate → List Layout
layouts_after known [] = known
layouts_after known (a ∷ rest) = layouts_after (known ++ aggregate_layout known a ∷ []) rest

unfoldable pub layout : List Aggregate → Ty → Layout
layout rows t = layout_of (layouts_after [] rows) t

abbrev pub size_of : List Aggregate → Ty → ℕ
size_of rows t = (layout rows t).size

abbrev pub units_of : List Aggregate → Ty → List Unit
units_of rows t = (layout rows t).units

-- The words that a value takes privately: one for each unit, and one for an array, whose value is its address.
unfoldable pub words_of : List Aggregate → Ty → ℕ
words_of rows t = if is_array t then 1 else length (units_of rows t)

-- ---- members

abbrev pub members_of : Option Aggregate → List Ty
members_of (Some a) = unwrap_or a.members []
members_of None = []

abbrev pub is_union_of : Option Aggregate → Bool
is_union_of (Some a) = a.is_union
is_union_of None = false

-- the number of an aggregate
abbrev pub number_at : Ty-F Ty → Option ℕ
number_at (Ty-F.Aggregate number) = Some number
number_at _ = None

abbrev pub row_at : List Aggregate → Option ℕ → Option Aggregate
row_at rows (Some number) = slice_get rows number
row_at rows None = None

-- the aggregate that a type is
unfoldable pub row_of : List Aggregate → Ty → Option Aggregate
row_of rows t = row_at rows (number_at (out-Ty t))

-- where the members of an aggregate stand: those of a union at 0
abbrev pub member_offsets : List Aggregate → Option Aggregate → List ℕ
member_offsets rows a =
    if is_union_of a then map (λ _. 0) (members_of a) else offsets_from 0 (map (layout rows) (members_of a))

-- where a path of members leads: the type, and the offset, which adds up along the path
pub record Member : Type 0 where
  pub ty : Ty
  pub at : ℕ

abbrev pub further : ℕ → Option Member → Option Member
further at (Some m) = Some (record { ty = m.ty; at = at + m.at })
further at None = None

abbrev pub beyond : Option Ty → Option ℕ → (Ty → Option Member) → Option Member
beyond (Some t) (Some at) next = further at (next t)
beyond _ _ next = None

unfoldable pub member : List Aggregate → List ℕ → Ty → Option Member
member rows [] t = Some (record { ty = t; at = 0 })
member rows (i ∷ path) t =
    let a = row_of rows t in
    beyond (slice_get (members_of a) i) (slice_get (member_offsets rows a) i) (member rows path)

-- ---- the list of aggregates

-- An aggregate keeps its size, its alignment and how many units it has.
pub record Keeps (a : Aggregate) (l : Layout) : Type 0 where
  pub size : a.size ≡ l.size
  pub align : a.align ≡ l.align
  pub units : a.units ≡ length l.units

-- The aggregates stand in an order in which each is found from the ones before it: a member is of a type that is complete
-- without the later ones. So none contains itself.
pub record IsLaidOut (rows : List Aggregate) : Type 0 where
  pub keeps : (k : ℕ) (a : Aggregate) → slice_get rows k ≡ Some a → Keeps a (aggregate_layout (layouts_after [] (take k rows)) a)
  pub ordered : (k : ℕ) (a : Aggregate) → slice_get rows k ≡ Some a → All (λ t. is_complete (take k rows) t ≡ true) (members_of (Some a))

-- ---- what the code keeps of layouts

-- the room that a layout takes
pub record Measured (room : Room) (l : Layout) : Type 0 where
  pub size : room.size ≡ capped l.size
  pub align : room.align ≡ l.align
  pub units : room.units ≡ capped (length l.units)

-- members that were placed so far
pub record RunsTo (code : PlacedSoFar) (run : Run) : Type 0 where
  pub at : code.at ≡ capped run.at
  pub align : code.align ≡ run.align
  pub units : code.units ≡ capped (length run.units)
