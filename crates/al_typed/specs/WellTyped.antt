-- Well-typed programs: what the typing rules leave of types, names, functions and expressions. Every number names what is
-- there, every value has the type that is asked for, and every jump has a target.
use Rattle.std.specs.Prelude.{◌≡◌, ℕ, ◌+◌, ◌*◌, ◌<◌, ◌≤◌, ◌^◌, nat_lt, nat_le, nat_eq, Bool, true, false, ◌&&◌, ◌||◌, List, [], ◌∷◌, ◌++◌, map, filter, length, All, AllPairs, Contains, Option, Some, None, slice_get, ◌⊎◌, ⊤}
use Rattle.al_base.specs.Arith.{width_of}
use Rattle.al_base.specs.declared.arith.Kind.{Kind}
use Rattle.al_base.specs.declared.arith.Kind.TheVariants as kind
use Rattle.al_typed.specs.declared.ty.Ty.{Ty, out-Ty, Void, Integer, Pointer', Array', Chan', Tuple', Aggregate, Function', Row_of-Ty, end_of-Ty, more_of-Ty}
use Rattle.al_typed.specs.declared.ty.Ty.TheOpen.{Ty-F}
use Rattle.al_typed.specs.declared.ty.Ty.TheVariants as ty
use Rattle.al_typed.specs.declared.program.Aggregate.{Aggregate as AggregateRow}
use Rattle.al_typed.specs.declared.program.Function.{Function as FunctionRow}
use Rattle.al_typed.specs.declared.program.Local.{Local as LocalRow}
use Rattle.al_typed.specs.declared.program.Global.{Global as GlobalRow}
use Rattle.al_typed.specs.declared.program.StartValue.{StartValue}
use Rattle.al_typed.specs.declared.program.StartWord.{StartWord}
use Rattle.al_typed.specs.declared.program.StartWord.TheVariants as start
use Rattle.al_typed.specs.declared.program.Program.{Program}
use Rattle.al_typed.specs.declared.expression.BinaryOp.{BinaryOp}
use Rattle.al_typed.specs.declared.expression.BinaryOp.TheVariants as op
use Rattle.al_typed.specs.declared.expression.Change.{Change}
use Rattle.al_typed.specs.declared.expression.Change.TheVariants as change
use Rattle.al_typed.specs.declared.expression.Passed.{Passed}
use Rattle.al_typed.specs.declared.expression.Passed.TheVariants as passed
use Rattle.al_typed.specs.declared.expression.PrintPiece.{PrintPiece}
use Rattle.al_typed.specs.declared.expression.PrintPiece.TheVariants as print
use Rattle.al_typed.specs.declared.expression.TExpr.{TExpr, Constant, Text, Nil, Function as FunctionValue, SizeofType, Tuple' as TupleOf', Call', CallPointer', Print', Sequence', Iterator, Held-TExpr-Call-2, None', Some', Row_of-TExpr, end_of-TExpr, more_of-TExpr, Row_of-TTarget, end_of-TTarget, more_of-TTarget, end_of-TReceiver, more_of-TReceiver}
use Rattle.al_typed.specs.declared.expression.TPlace.{TPlace, Local, Outer, Global}
use Rattle.al_typed.specs.declared.expression.TTarget.{TTarget, Dropped, Parts'}
use Rattle.al_typed.specs.declared.expression.TReceiver.{TReceiver}
use Rattle.al_typed.specs.declared.statement.TBounds.{TBounds}
use Rattle.al_typed.specs.declared.statement.TInitializer.{TInitializer}
use Rattle.al_typed.specs.declared.statement.TCommunication.{TCommunication}
use Rattle.al_typed.specs.declared.statement.TCommunication.TheVariants as talk
use Rattle.al_typed.specs.declared.statement.TStmt.{TStmt, Empty, Block', Declare, Value, If', Switch', Case, Default, Alt', AltCase, Par, Raise, Goto, Return, Become, Break, Continue, Alloc, Unalloc, Check, Proc, Task, Held-TStmt-If-3, Row_of-TStmt, end_of-TStmt, more_of-TStmt}
use Rattle.al_typed.specs.declared.statement.TStmt as stmt
use Rattle.al_typed.specs.ExpressionForms as form
use Rattle.al_typed.specs.StatementForms as part
use Rattle.al_typed.specs.Alike.{are_alike}
use Rattle.al_typed.specs.Types.{IsAggregate, int, byte_pointer, void_pointer, promoted, is_array, is_void, is_scalar, may_be_private, is_complete, is_whole, points_to_complete}
use Rattle.al_typed.specs.Layout.{Member, IsLaidOut, layout, size_of, units_of, in_order, member, members_of}
use Rattle.al_typed.specs.Typed.{type_of, place_type, target_type, row_types, target_types, callee_of, local_types, parameter_types, function_type}

-- ---- types

-- what no type is larger than
abbrev pub is_small : List AggregateRow → Ty → Bool
is_small rows t = nat_le (size_of rows t) (2 ^ 28)

-- A type that the rules leave, also behind pointers: an array has 1 to 2^28 elements of a complete type, a channel has a
-- capacity of at most 4,096, each aggregate stands in the list, and none is larger than 2^28 bytes.
abbrev mutual
  pub is_sound : List AggregateRow → Ty → Bool
  is_sound rows Void = true
  is_sound rows (Integer _) = true
  is_sound rows (Pointer' _ (more_of-Ty to end_of-Ty)) = is_sound rows to
  is_sound rows (Array' _ (more_of-Ty element end_of-Ty) count) =
      is_sound rows element && is_complete rows element && nat_le 1 count && is_small rows (ty.Array element count)
  is_sound rows (Chan' _ (more_of-Ty element end_of-Ty) capacity) =
      is_sound rows element && is_whole rows element && nat_le capacity 4096
  is_sound rows (Tuple' shape parts) = are_sound rows parts && is_small rows (Tuple' shape parts)
  is_sound rows (Aggregate number) = nat_lt number (length rows) && is_small rows (ty.Aggregate number)
  is_sound rows (Function' _ (more_of-Ty returns end_of-Ty) _ parameters) =
      is_sound rows returns && (is_void returns || is_whole rows returns) && are_sound rows parameters

  -- the types of parts and of parameters
  pub are_sound : List AggregateRow → {m : _} → Row_of-Ty m → Bool
  are_sound rows end_of-Ty = true
  are_sound rows (more_of-Ty t rest) = is_sound rows t && is_whole rows t && are_sound rows rest

-- a type of a value in storage
abbrev pub is_stored : List AggregateRow → Ty → Bool
is_stored rows t = is_sound rows t && is_complete rows t

-- one word: a pointer, a channel, an int or a uint. Such values are converted without change.
abbrev pub is_word_at : Ty-F Ty → Bool
is_word_at (Ty-F.Integer kind.Int) = true
is_word_at (Ty-F.Integer kind.Uint) = true
is_word_at (Ty-F.Pointer _) = true
is_word_at (Ty-F.Chan _ _) = true
is_word_at _ = false

unfoldable pub is_word : Ty → Bool
is_word t = is_word_at (out-Ty t)

-- Values of one type that are made into values of another: integers of any kind, single words, aggregates of the same
-- number, and tuples part by part.
abbrev mutual
  pub converts : Ty → Ty → Bool
  converts (Integer _) (Integer _) = true
  converts (Aggregate a) (Aggregate b) = nat_eq a b
  converts (Tuple' _ a) (Tuple' _ b) = convert_all a b
  converts a b = is_word a && is_word b

  pub convert_all : {m n : _} → Row_of-Ty m → Row_of-Ty n → Bool
  convert_all end_of-Ty end_of-Ty = true
  convert_all (more_of-Ty a rest) (more_of-Ty b more) = converts a b && convert_all rest more
  convert_all _ _ = false

-- ---- facts on types

-- an integer that arithmetic gives
abbrev pub IsPromoted : Ty → Type 0
IsPromoted t = (k : Kind) × ((t ≡ ty.Integer k) × (promoted k ≡ k))

abbrev pub IsInteger : Ty → Type 0
IsInteger t = (k : Kind) × (t ≡ ty.Integer k)

abbrev pub IsArrayOf : Ty → Ty → Type 0
IsArrayOf t element = (count : ℕ) × (t ≡ ty.Array element count)

abbrev pub IsChannelOf : Ty → Ty → Type 0
IsChannelOf t element = (capacity : ℕ) × (t ≡ ty.Chan element capacity)

abbrev pub IsChannel : Ty → Type 0
IsChannel t = (element : Ty) × IsChannelOf t element

-- bits of an integer type
abbrev pub AreBitsOf : Ty → ℕ → Type 0
AreBitsOf t bits = (k : Kind) × ((t ≡ ty.Integer k) × (bits < 2 ^ width_of k))

-- a path of members leads from one type to another
abbrev pub LeadsTo : List AggregateRow → List ℕ → Ty → Ty → Type 0
LeadsTo rows path from to = (m : Member) × ((member rows path from ≡ Some m) × (m.ty ≡ to))

-- the kind of what an operator gives
abbrev pub result_kind : BinaryOp → Kind → Kind
result_kind op.Less k = kind.Int
result_kind op.Greater k = kind.Int
result_kind op.LessEqual k = kind.Int
result_kind op.GreaterEqual k = kind.Int
result_kind op.Equal k = kind.Int
result_kind op.NotEqual k = kind.Int
result_kind _ k = k

-- an operator that may stand in `op=`
abbrev pub is_arithmetic : BinaryOp → Bool
is_arithmetic op.Less = false
is_arithmetic op.Greater = false
is_arithmetic op.LessEqual = false
is_arithmetic op.GreaterEqual = false
is_arithmetic op.Equal = false
is_arithmetic op.NotEqual = false
is_arithmetic _ = true

-- `op=` on a place of a type, by a value of a type
abbrev pub Changes : List AggregateRow → Change → Ty → Ty → Type 0
Changes rows (change.Apply how k) t by =
    IsInteger t × ((by ≡ ty.Integer k) × ((promoted k ≡ k) × (is_arithmetic how ≡ true)))
Changes rows (change.Move back) t by = (points_to_complete rows t ≡ true) × (by ≡ int)

abbrev pub is_integer_at : Ty-F Ty → Bool
is_integer_at (Ty-F.Integer _) = true
is_integer_at _ = false

-- what `++` and `--` step through
unfoldable pub is_stepped : List AggregateRow → Ty → Bool
is_stepped rows t = is_integer_at (out-Ty t) || points_to_complete rows t

-- A format takes these types: one for each verb but `%%`.
abbrev pub Prints : List PrintPiece → List Ty → Type 0
Prints [] [] = ⊤
Prints [] (t ∷ ts) = ⊥
Prints (print.Byte _ ∷ rest) ts = Prints rest ts
Prints (print.Percent ∷ rest) ts = Prints rest ts
Prints (print.Text ∷ rest) (t ∷ ts) = (t ≡ byte_pointer) × Prints rest ts
Prints (print.Text ∷ rest) [] = ⊥
Prints (_ ∷ rest) (t ∷ ts) = IsPromoted t × Prints rest ts
Prints (_ ∷ rest) [] = ⊥

-- ---- names

-- What names stand for where an expression stands: in a function of a program each number leads to a row there. Where only the
-- types of terms count, a number may stand for any place or function of sound types, and it is known which types have members,
-- and how many strings and functions there are.
pub data Names : Type 0 where
  names_in : Program → FunctionRow → Names
  any_names : List AggregateRow → ℕ → ℕ → Names

-- where an expression stands: among which names, and in a statement with how many iterators
pub record Scope : Type 0 where
  pub names : Names
  pub iterators : ℕ

abbrev pub rows_of : Names → List AggregateRow
rows_of (names_in p f) = p.aggregates
rows_of (any_names rows strings functions) = rows

abbrev pub rows : Scope → List AggregateRow
rows s = rows_of s.names

-- how many strings there are
abbrev pub strings_of : Names → ℕ
strings_of (names_in p f) = length p.strings
strings_of (any_names rows strings functions) = strings

-- the local of that number
abbrev pub IsLocal : FunctionRow → ℕ → LocalRow → Type 0
IsLocal f number l = slice_get f.locals number ≡ Some l

-- a function of the text or an instance, no branch of a par
abbrev pub IsCallable : Program → ℕ → FunctionRow → Type 0
IsCallable p number g = (slice_get p.functions number ≡ Some g) × (g.around ≡ [])

-- the local of a function round a branch
pub record IsOuter (p : Program) (f : FunctionRow) (around number : ℕ) (t : Ty) : Type 0 where
  pub outer : ℕ
  pub is_round : slice_get f.around around ≡ Some outer
  pub function : FunctionRow
  pub is_there : slice_get p.functions outer ≡ Some function
  pub var : LocalRow
  pub is_local : IsLocal function number var
  pub is_shared : var.is_shared ≡ true
  pub is : var.ty ≡ t

-- a local, a local of a function round a branch, and a global of a type
abbrev pub IsLocalOfType : Names → ℕ → Ty → Type 0
IsLocalOfType (names_in p f) number t = (l : LocalRow) × (IsLocal f number l × (l.ty ≡ t))
IsLocalOfType (any_names rows strings functions) number t = is_stored rows t ≡ true

abbrev pub IsOuterOfType : Names → ℕ → ℕ → Ty → Type 0
IsOuterOfType (names_in p f) around number t = IsOuter p f around number t
IsOuterOfType (any_names rows strings functions) around number t = is_stored rows t ≡ true

abbrev pub IsGlobalOfType : Names → ℕ → Ty → Type 0
IsGlobalOfType (names_in p f) number t = (g : GlobalRow) × ((slice_get p.globals number ≡ Some g) × (g.ty ≡ t))
IsGlobalOfType (any_names rows strings functions) number t = is_stored rows t ≡ true

-- A function's name as a value of a type. It may be declared with other capacities of channels than its body has.
abbrev pub IsFunctionOfType : Names → ℕ → Ty → Type 0
IsFunctionOfType (names_in p f) number t = (g : FunctionRow) × (IsCallable p number g × (are_alike t (ty.Pointer (function_type g)) ≡ true))
IsFunctionOfType (any_names rows strings functions) number t = (is_sound rows t ≡ true) × (number < functions)

-- the function of that number takes values of these types, and returns one of that type, but for capacities of channels
abbrev pub Takes : Names → ℕ → List Ty → Ty → Type 0
Takes (names_in p f) number taken returned = (g : FunctionRow) × (IsCallable p number g × (are_alike (ty.Function returned taken) (function_type g) ≡ true))
Takes (any_names rows strings functions) number taken returned = is_sound rows returned ≡ true

-- What has an address: all places but private variables.
abbrev pub IsSharedLocal : Names → ℕ → Type 0
IsSharedLocal (names_in p f) number = (l : LocalRow) × (IsLocal f number l × (l.is_shared ≡ true))
IsSharedLocal (any_names rows strings functions) number = ⊤

abbrev pub IsSharedGlobal : Names → ℕ → Type 0
IsSharedGlobal (names_in p f) number = (g : GlobalRow) × ((slice_get p.globals number ≡ Some g) × (g.is_private ≡ false))
IsSharedGlobal (any_names rows strings functions) number = ⊤

abbrev pub HasAddress : Scope → TPlace → Type 0
HasAddress s (Local t number) = IsSharedLocal s.names number
HasAddress s (Global t number) = IsSharedGlobal s.names number
HasAddress s _ = ⊤

-- what a function of an adt gets of its object
abbrev pub passes : Passed → Ty → List Ty
passes passed.Address t = ty.Pointer t ∷ []
passes passed.Value t = t ∷ []
passes passed.Nothing t = []

-- ---- expressions

unfoldable mutual
  pub IsValue : Scope → TExpr → Type 0
  IsValue s (Constant t bits) = AreBitsOf t bits
  IsValue s (Text t number) = (t ≡ byte_pointer) × (number < strings_of s.names)
  IsValue s (Nil t) = t ≡ void_pointer
  IsValue s (FunctionValue t number) = IsFunctionOfType s.names number t
  IsValue s (form.load t place) = IsPlace s place × ((place_type place ≡ t) × (is_whole (rows s) t ≡ true))
  IsValue s (form.decay t place) = IsPlace s place × ((element : Ty) × (IsArrayOf (place_type place) element × (t ≡ ty.Pointer element)))
  IsValue s (form.address t place) = IsPlace s place × (HasAddress s place × (t ≡ ty.Pointer (place_type place)))
  IsValue s (SizeofType t of) = (t ≡ int) × (is_stored (rows s) of ≡ true)
  IsValue s (form.sizeof_place t place) = (t ≡ int) × (IsPlace s place × (is_stored (rows s) (place_type place) ≡ true))
  IsValue s (form.sizeof_value t value) = (t ≡ int) × (IsValue s value × (is_stored (rows s) (type_of value) ≡ true))
  IsValue s (form.unary t how of) = IsPromoted t × (IsValue s of × (type_of of ≡ t))
  IsValue s (form.negation t of) = (t ≡ int) × (IsValue s of × (is_scalar (type_of of) ≡ true))
  IsValue s (form.binary t how k left right) =
      (t ≡ ty.Integer (result_kind how k)) × ((promoted k ≡ k)
      × (IsValue s left × ((type_of left ≡ ty.Integer k) × (IsValue s right × (type_of right ≡ ty.Integer k)))))
  IsValue s (form.logical t how left right) =
      (t ≡ int) × (IsValue s left × ((is_scalar (type_of left) ≡ true) × (IsValue s right × (is_scalar (type_of right) ≡ true))))
  IsValue s (form.movement t how pointer count) =
      (points_to_complete (rows s) t ≡ true)
      × (IsValue s pointer × ((type_of pointer ≡ t) × (IsValue s count × (type_of count ≡ int))))
  IsValue s (form.difference t left right) =
      (t ≡ int) × ((points_to_complete (rows s) (type_of left) ≡ true)
      × (IsValue s left × (IsValue s right × (type_of right ≡ type_of left))))
  IsValue s (form.assign t target value) =
      (is_whole (rows s) t ≡ true) × (IsTarget s target × ((target_type target ≡ t) × (IsValue s value × (type_of value ≡ t))))
  IsValue s (form.update t place how value) =
      IsPlace s place × ((place_type place ≡ t) × (IsValue s value × Changes (rows s) how t (type_of value)))
  IsValue s (form.stepped t how place) = IsPlace s place × ((place_type place ≡ t) × (is_stepped (rows s) t ≡ true))
  IsValue s (form.zerox t place) = IsPlace s place × ((place_type place ≡ t) × (is_whole (rows s) t ≡ true))
  IsValue s (TupleOf' t _ parts) = (is_sound (rows s) t ≡ true) × (AreValues s parts × (t ≡ ty.Tuple (row_types parts)))
  IsValue s (Call' t number receiver _ arguments) =
      (given : List Ty) × (IsGiven s receiver given × (AreValues s arguments × Takes s.names number (given ++ row_types arguments) t))
  IsValue s (CallPointer' t _ (more_of-TExpr pointer end_of-TExpr) _ arguments) =
      IsValue s pointer × (AreValues s arguments × (type_of pointer ≡ ty.Pointer (ty.Function t (row_types arguments))))
  IsValue s (Print' t format _ arguments) = (t ≡ ty.Void) × (AreValues s arguments × Prints format (row_types arguments))
  IsValue s (form.terminate t status) = (t ≡ ty.Void) × (IsValue s status × (type_of status ≡ int))
  IsValue s (form.receive t chan) = IsValue s chan × IsChannelOf (type_of chan) t
  IsValue s (form.send t chan value) = (t ≡ ty.Void) × (IsValue s chan × (IsValue s value × IsChannelOf (type_of chan) (type_of value)))
  IsValue s (form.can_receive t chan) = (t ≡ int) × (IsValue s chan × IsChannel (type_of chan))
  IsValue s (form.can_send t chan) = (t ≡ int) × (IsValue s chan × IsChannel (type_of chan))
  IsValue s (form.member_of t value path) = IsValue s value × (LeadsTo (rows s) path (type_of value) t × (is_whole (rows s) t ≡ true))
  IsValue s (form.cast t of) = (is_sound (rows s) t ≡ true) × (IsValue s of × (converts (type_of of) t ≡ true))
  IsValue s (form.convert t of) = (is_sound (rows s) t ≡ true) × (IsValue s of × (converts (type_of of) t ≡ true))
  IsValue s (Sequence' t _ first _ (more_of-TExpr last end_of-TExpr)) = AreValues s first × (IsValue s last × (type_of last ≡ t))
  IsValue s (Iterator t number) = (t ≡ int) × (number < s.iterators)

  pub AreValues : Scope → {m : _} → Row_of-TExpr m → Type 0
  AreValues s end_of-TExpr = ⊤
  AreValues s (more_of-TExpr e rest) = IsValue s e × AreValues s rest

  pub IsPlace : Scope → TPlace → Type 0
  IsPlace s (Local t number) = IsLocalOfType s.names number t
  IsPlace s (Outer t around number) = IsOuterOfType s.names around number t
  IsPlace s (Global t number) = IsGlobalOfType s.names number t
  IsPlace s (form.pointed t pointer) = IsValue s pointer × (type_of pointer ≡ ty.Pointer t)
  IsPlace s (form.element t base index) =
      (is_complete (rows s) t ≡ true) × (IsValue s base × ((type_of base ≡ ty.Pointer t) × (IsValue s index × (type_of index ≡ int))))
  IsPlace s (form.member_in t of path) = IsPlace s of × (IsAggregate (place_type of) × LeadsTo (rows s) path (place_type of) t)
  IsPlace s (form.pointed_member t pointer path) =
      (u : Ty) × (IsValue s pointer × ((type_of pointer ≡ ty.Pointer u) × LeadsTo (rows s) path u t))

  pub IsTarget : Scope → TTarget → Type 0
  IsTarget s (form.into place) = IsPlace s place
  IsTarget s (Dropped t) = (is_stored (rows s) t ≡ true) × (is_array t ≡ false)
  IsTarget s (Parts' t _ parts) = (is_sound (rows s) t ≡ true) × (AreTargets s parts × (t ≡ ty.Tuple (target_types parts)))

  pub AreTargets : Scope → {m : _} → Row_of-TTarget m → Type 0
  AreTargets s end_of-TTarget = ⊤
  AreTargets s (more_of-TTarget target rest) = IsTarget s target × AreTargets s rest

  -- the types that an object before a function's name gives to it
  pub IsGiven : Scope → Held-TExpr-Call-2 → List Ty → Type 0
  IsGiven s None' given = given ≡ []
  IsGiven s (Some' _ (more_of-TReceiver receiver end_of-TReceiver)) given = Gives s receiver given

  pub Gives : Scope → TReceiver → List Ty → Type 0
  Gives s (form.place_before place path how) given =
      (t : Ty) × (IsPlace s place × (IsAggregate (place_type place) × (LeadsTo (rows s) path (place_type place) t × (given ≡ passes how t))))
  Gives s (form.value_before value path passed.Address) given = ⊥
  Gives s (form.value_before value path how) given =
      (t : Ty) × (IsValue s value × (IsAggregate (type_of value) × (LeadsTo (rows s) path (type_of value) t × (given ≡ passes how t))))
  Gives s (form.pointer_before pointer path how) given =
      (u : Ty) × ((t : Ty) × (IsValue s pointer × ((type_of pointer ≡ ty.Pointer u) × (LeadsTo (rows s) path u t × (given ≡ passes how t)))))

-- ---- statements

-- Where a statement stands: how many loops, switches and alts are round it and how many of them are loops, and which labels
-- of cases may stand here.
pub data CaseLabels : Type 0 where
  no_labels : CaseLabels
  switch_labels : Kind → CaseLabels
  alt_labels : CaseLabels

pub record Nest : Type 0 where
  pub number : ℕ
  pub breaks : ℕ
  pub loops : ℕ
  pub labels : CaseLabels

-- the bodies of a loop, of a switch and of an alt, and a part of a statement
abbrev pub in_loop : Nest → Nest
in_loop n = record { number = n.number; breaks = n.breaks + 1; loops = n.loops + 1; labels = no_labels }

abbrev pub in_cases : CaseLabels → Nest → Nest
in_cases labels n = record { number = n.number; breaks = n.breaks + 1; loops = n.loops; labels = labels }

abbrev pub inside : Nest → Nest
inside n = record { number = n.number; breaks = n.breaks; loops = n.loops; labels = no_labels }

abbrev pub IsCondition : Scope → TExpr → Type 0
IsCondition s e = IsValue s e × (is_scalar (type_of e) ≡ true)

abbrev pub IsOptionalCondition : Scope → Option TExpr → Type 0
IsOptionalCondition s None = ⊤
IsOptionalCondition s (Some e) = IsCondition s e

abbrev pub IsOptionalValue : Scope → Option TExpr → Type 0
IsOptionalValue s None = ⊤
IsOptionalValue s (Some e) = IsValue s e

-- the call of a function by its name
abbrev pub IsCall : Scope → TExpr → Type 0
IsCall s e = IsValue s e × ((number : ℕ) × (callee_of e ≡ Some number))

abbrev pub AreBounds : Scope → TBounds → Type 0
AreBounds s b = IsValue s b.from × ((type_of b.from ≡ int) × (IsValue s b.to × (type_of b.to ≡ int)))

abbrev pub IsInitializer : Scope → TInitializer → Type 0
IsInitializer s i =
    IsValue s i.value × (IsLocalOfType s.names i.local (type_of i.value) × (is_array (type_of i.value) ≡ false))

-- a pointer to a complete type, or a channel
abbrev pub Allocates : Scope → TPlace → Type 0
Allocates s place = IsPlace s place × ((points_to_complete (rows s) (place_type place) ≡ true) ⊎ IsChannel (place_type place))

abbrev pub GivesBack : Scope → TExpr → Type 0
GivesBack s e = IsValue s e × (((to : Ty) × (type_of e ≡ ty.Pointer to)) ⊎ IsChannel (type_of e))

abbrev pub Communicates : Scope → TCommunication → Type 0
Communicates s (talk.Receive t chan) = IsValue s chan × IsChannelOf (type_of chan) t
Communicates s (talk.ReceiveInto t target chan) =
    IsTarget s target × (IsValue s chan × (IsChannelOf (type_of chan) t × (converts t (target_type target) ≡ true)))
Communicates s (talk.Send chan value) = IsValue s chan × (IsValue s value × IsChannelOf (type_of chan) (type_of value))

-- a type of what the function at hand returns
abbrev pub IsReturned : Names → Ty → Type 0
IsReturned (names_in p f) t = t ≡ f.returns
IsReturned (any_names rows strings functions) t = ⊤

-- of what a function returns that goes on in place of the one at hand
abbrev pub IsHandedOn : Names → Ty → Type 0
IsHandedOn (names_in p f) t = are_alike t f.returns ≡ true
IsHandedOn (any_names rows strings functions) t = ⊤

abbrev pub Returns : Scope → Option TExpr → Type 0
Returns s None = IsReturned s.names ty.Void
Returns s (Some e) = IsValue s e × ((is_void (type_of e) ≡ false) × IsReturned s.names (type_of e))

-- a branch of a par of the function of that number
abbrev pub IsBranch : Program → FunctionRow → ℕ → ℕ → Type 0
IsBranch p f number branch =
    (b : FunctionRow) × ((slice_get p.functions branch ≡ Some b) × (b.around ≡ f.around ++ number ∷ []))

abbrev pub AreBranches : Names → ℕ → List ℕ → Type 0
AreBranches (names_in p f) number branches = (1 ≤ length branches) × ((length branches ≤ 64) × All (IsBranch p f number) branches)
AreBranches (any_names rows strings functions) number branches = ⊤

-- a label of a case of a switch over that kind
abbrev pub IsCase : CaseLabels → Scope → TExpr → ℕ → Type 0
IsCase (switch_labels k) s label bits = IsValue s label × (IsInteger (type_of label) × (bits < 2 ^ width_of k))
IsCase _ s label bits = ⊥

abbrev pub IsDefault : CaseLabels → Type 0
IsDefault (switch_labels k) = ⊤
IsDefault _ = ⊥

abbrev pub IsAltCase : CaseLabels → Scope → TCommunication → Type 0
IsAltCase alt_labels s c = Communicates s c
IsAltCase _ s c = ⊥

-- the numbers of the labels, and of the rescues, in a statement
abbrev mutual
  pub labels_in : TStmt → List ℕ
  labels_in (Block' _ _ body) = labels_in_row body
  labels_in (part.label _ number body) = number ∷ labels_in body
  labels_in (If' _ _ _ (more_of-TStmt body end_of-TStmt) other) = labels_in body ++ labels_in_other other
  labels_in (part.while_loop _ _ body) = labels_in body
  labels_in (part.do_loop _ body _) = labels_in body
  labels_in (part.for_loop _ _ _ _ body) = labels_in body
  labels_in (Switch' _ _ _ body) = labels_in_row body
  labels_in (Alt' _ _ body) = labels_in_row body
  labels_in (part.rescue _ _ body) = labels_in body
  labels_in _ = []

  pub labels_in_other : Held-TStmt-If-3 → List ℕ
  labels_in_other stmt.None' = []
  labels_in_other (stmt.Some' _ (more_of-TStmt other end_of-TStmt)) = labels_in other

  pub labels_in_row : {m : _} → Row_of-TStmt m → List ℕ
  labels_in_row end_of-TStmt = []
  labels_in_row (more_of-TStmt a rest) = labels_in a ++ labels_in_row rest

abbrev mutual
  pub rescues_in : TStmt → List ℕ
  rescues_in (Block' _ _ body) = rescues_in_row body
  rescues_in (part.label _ _ body) = rescues_in body
  rescues_in (If' _ _ _ (more_of-TStmt body end_of-TStmt) other) = rescues_in body ++ rescues_in_other other
  rescues_in (part.while_loop _ _ body) = rescues_in body
  rescues_in (part.do_loop _ body _) = rescues_in body
  rescues_in (part.for_loop _ _ _ _ body) = rescues_in body
  rescues_in (Switch' _ _ _ body) = rescues_in_row body
  rescues_in (Alt' _ _ body) = rescues_in_row body
  rescues_in (part.rescue _ number body) = number ∷ rescues_in body
  rescues_in _ = []

  pub rescues_in_other : Held-TStmt-If-3 → List ℕ
  rescues_in_other stmt.None' = []
  rescues_in_other (stmt.Some' _ (more_of-TStmt other end_of-TStmt)) = rescues_in other

  pub rescues_in_row : {m : _} → Row_of-TStmt m → List ℕ
  rescues_in_row end_of-TStmt = []
  rescues_in_row (more_of-TStmt a rest) = rescues_in a ++ rescues_in_row rest

-- the targets of a raise, of a goto, and of a break or continue of so many levels where so many are round it
abbrev pub IsRescue : Names → ℕ → Type 0
IsRescue (names_in p f) rescue = Contains (rescues_in f.body) rescue
IsRescue (any_names rows strings functions) rescue = ⊤

abbrev pub IsLabel : Names → ℕ → Type 0
IsLabel (names_in p f) label = Contains (labels_in f.body) label
IsLabel (any_names rows strings functions) label = ⊤

abbrev pub AreRound : Names → ℕ → ℕ → Type 0
AreRound (names_in p f) levels most = (1 ≤ levels) × (levels ≤ most)
AreRound (any_names rows strings functions) levels most = ⊤

-- how many cases the body of an alt has
abbrev pub alt_cases : {m : _} → Row_of-TStmt m → ℕ
alt_cases end_of-TStmt = 0
alt_cases (more_of-TStmt (AltCase _) rest) = 1 + alt_cases rest
alt_cases (more_of-TStmt _ rest) = alt_cases rest

unfoldable mutual
  pub IsStatement : Scope → Nest → TStmt → Type 0
  IsStatement s n (Empty _) = ⊤
  IsStatement s n (Block' _ _ body) = AreStatements s (inside n) body
  IsStatement s n (Declare _ initializers) = All (IsInitializer s) initializers
  IsStatement s n (Value _ iterators value) =
      All (AreBounds s) iterators × IsValue (record s { iterators = length iterators }) value
  IsStatement s n (part.label _ _ body) = IsStatement s (inside n) body
  IsStatement s n (If' _ condition _ (more_of-TStmt body end_of-TStmt) other) =
      IsCondition s condition × (IsStatement s (inside n) body × IsOther s n other)
  IsStatement s n (part.while_loop _ condition body) = IsCondition s condition × IsStatement s (in_loop n) body
  IsStatement s n (part.do_loop _ body condition) = IsStatement s (in_loop n) body × IsCondition s condition
  IsStatement s n (part.for_loop _ start condition step body) =
      IsOptionalValue s start × (IsOptionalCondition s condition × (IsOptionalValue s step × IsStatement s (in_loop n) body))
  IsStatement s n (Switch' _ value _ body) =
      IsValue s value × ((k : Kind) × ((type_of value ≡ ty.Integer k) × ((promoted k ≡ k) × AreStatements s (in_cases (switch_labels k) n) body)))
  IsStatement s n (Case label bits) = IsCase n.labels s label bits
  IsStatement s n Default = IsDefault n.labels
  IsStatement s n (Alt' _ _ body) = (1 ≤ alt_cases body) × ((alt_cases body ≤ 64) × AreStatements s (in_cases alt_labels n) body)
  IsStatement s n (AltCase communication) = IsAltCase n.labels s communication
  IsStatement s n (Par _ branches) = AreBranches s.names n.number branches
  IsStatement s n (part.rescue _ _ body) = IsStatement s (inside n) body
  IsStatement s n (Raise _ rescue) = IsRescue s.names rescue
  IsStatement s n (Goto _ label) = IsLabel s.names label
  IsStatement s n (Return _ value) = Returns s value
  IsStatement s n (Become _ call) = IsCall s call × IsHandedOn s.names (type_of call)
  IsStatement s n (Break _ levels) = AreRound s.names levels n.breaks
  IsStatement s n (Continue _ levels) = AreRound s.names levels n.loops
  IsStatement s n (Alloc _ places) = All (Allocates s) places
  IsStatement s n (Unalloc _ values) = All (GivesBack s) values
  IsStatement s n (Check _ value) = IsCondition s value
  IsStatement s n (Proc _ calls) = All (IsCall s) calls
  IsStatement s n (Task _ calls) = All (IsCall s) calls

  pub IsOther : Scope → Nest → Held-TStmt-If-3 → Type 0
  IsOther s n stmt.None' = ⊤
  IsOther s n (stmt.Some' _ (more_of-TStmt other end_of-TStmt)) = IsStatement s (inside n) other

  pub AreStatements : Scope → Nest → {m : _} → Row_of-TStmt m → Type 0
  AreStatements s n end_of-TStmt = ⊤
  AreStatements s n (more_of-TStmt a rest) = IsStatement s n a × AreStatements s n rest

-- ---- functions, globals, programs

-- a local lies in the shared block, or is an integer, a pointer, a channel or a tuple
abbrev pub IsLocalOf : Program → LocalRow → Type 0
IsLocalOf p l = (is_stored p.aggregates l.ty ≡ true) × (l.is_shared ≡ false → may_be_private l.ty ≡ true)

abbrev pub shared_types : List LocalRow → List Ty
shared_types locals = local_types (filter (λ (l : LocalRow). l.is_shared) locals)

-- The functions round a branch of a par are those round the function that has the par, and that function, which stands
-- earlier. Any other function has none round it.
abbrev pub StandsIn : Program → ℕ → FunctionRow → Type 0
StandsIn p number f =
    (f.around ≡ []) ⊎ ((outer : ℕ) × ((outer < number) × ((g : FunctionRow) × ((slice_get p.functions outer ≡ Some g)
    × ((f.around ≡ g.around ++ outer ∷ []) × ((f.parameters ≡ 0) × (f.returns ≡ ty.Void)))))))

pub record IsFunction (p : Program) (number : ℕ) (f : FunctionRow) : Type 0 where
  pub locals : All (IsLocalOf p) f.locals
  pub parameters : f.parameters ≤ length f.locals
  pub no_arrays : All (λ t. is_array t ≡ false) (parameter_types f)
  pub returns : (f.returns ≡ ty.Void) ⊎ ((is_stored p.aggregates f.returns ≡ true) × (is_array f.returns ≡ false))
  pub shared : nat_le (in_order (map (layout p.aggregates) (shared_types f.locals))).size (2 ^ 28) ≡ true
  pub stands : StandsIn p number f
  pub labels : All (λ n. n < f.labels) (labels_in f.body ++ rescues_in f.body)
  pub distinct : AllPairs (λ a b. a ≡ b → ⊥) (labels_in f.body ++ rescues_in f.body)
  pub body : IsStatement (record { names = names_in p f; iterators = 0 }) (record { number = number; breaks = 0; loops = 0; labels = no_labels }) f.body

-- a word that a unit of so many bytes may start with; the address of a string takes 4
abbrev pub FitsIn : Program → ℕ → StartWord → Type 0
FitsIn p size (start.Number n) = n < 2 ^ (8 * size)
FitsIn p size (start.Text number) = (size ≡ 4) × (number < length p.strings)

-- a start value stands at a unit of its global
abbrev pub Starts : Program → GlobalRow → StartValue → Type 0
Starts p g v = Contains (units_of p.aggregates g.ty) (record { at = v.at; size = v.size }) × FitsIn p v.size v.word

pub record IsGlobal (p : Program) (g : GlobalRow) : Type 0 where
  pub stored : is_stored p.aggregates g.ty ≡ true
  pub is_private : g.is_private ≡ true → (may_be_private g.ty ≡ true) × (g.start ≡ [])
  pub starts : All (Starts p g) g.start
  pub ascending : AllPairs (λ (a b : StartValue). a.at < b.at) g.start

-- main has no parameters, or an int and a byte**, and no result
pub record IsMain (p : Program) (f : FunctionRow) : Type 0 where
  pub is_there : IsCallable p p.main f
  pub returns : f.returns ≡ ty.Void
  pub parameters : (parameter_types f ≡ []) ⊎ (parameter_types f ≡ int ∷ ty.Pointer byte_pointer ∷ [])

pub record IsWellTyped (p : Program) : Type 0 where
  pub laid_out : IsLaidOut p.aggregates
  pub members : (k : ℕ) (a : AggregateRow) → slice_get p.aggregates k ≡ Some a → All (λ t. is_stored p.aggregates t ≡ true) (members_of (Some a))
  pub small : (k : ℕ) (a : AggregateRow) → slice_get p.aggregates k ≡ Some a → a.size ≤ 2 ^ 28
  pub globals : All (IsGlobal p) p.globals
  pub elements : All (λ t. is_stored p.aggregates t ≡ true) p.elements
  pub functions : (number : ℕ) (f : FunctionRow) → slice_get p.functions number ≡ Some f → IsFunction p number f
  pub main_function : FunctionRow
  pub main : IsMain p main_function
