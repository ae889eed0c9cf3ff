-- The types of values and places are such that the rules leave, but for capacities.
use Rattle.std.proofs.Common.{◌≡◌, List, ◌++◌, refl, sym, ◌∙◌, subst}
use Rattle.std.specs.Prelude.{true}
use Rattle.al_base.specs.declared.arith.Kind.TheVariants as kind
use Rattle.al_typed.specs.declared.program.Aggregate.{Aggregate}
use Rattle.al_typed.specs.declared.ty.Ty.{Ty}
use Rattle.al_typed.specs.declared.ty.Ty.TheVariants as ty
use Rattle.al_typed.specs.declared.expression.TExpr.{TExpr, Constant, Text, Nil, Function, SizeofType, Tuple', Call', CallPointer', Print', Sequence', Iterator, end_of-TExpr, more_of-TExpr}
use Rattle.al_typed.specs.declared.expression.TPlace.{TPlace, Local, Outer, Global}
use Rattle.al_typed.specs.ExpressionForms as form
use Rattle.al_typed.specs.Types.{int, byte_pointer, void_pointer}
use Rattle.al_typed.specs.Typed.{type_of, place_type, row_types, parameter_types, function_type}
use Rattle.al_typed.specs.WellTyped.{IsValue, IsPlace, IsLocalOf, is_sound, is_stored, result_kind}
use Rattle.al_lower_claims.proofs.Claims.{Setting}
use Rattle.al_lower_pointers.proofs.Alike.{alike_returns}
use Rattle.al_lower_expressions.proofs.Types.{both_hold, sound_pointer}
use Rattle.al_lower_expressions.proofs.Like.{IsLike, sound_like, pointer_like, pointed_like, element_like, carried, function_like, leads_like}
use Rattle.al_lower_expressions.proofs.Premises.{Premises, scope_of, own, global_is, one_of_all}
use Rattle.al_lower_expressions.proofs.Signatures.{signature_sound, returned_sound}

module _ (k : Setting) (h : Premises k) where
  abbrev rows : List Aggregate
  rows = k.ways.program.aggregates

  abbrev Like : Ty → Type 0
  Like t = IsLike rows t

  of_sound : (t : Ty) → is_sound rows t ≡ true → Like t
  of_sound t e = sound_like rows t e

  of_stored : (t : Ty) → is_stored rows t ≡ true → Like t
  of_stored t e = of_sound t (both_hold _ _ e).0

  -- a type that names say, and those that stand alone
  is_type : (t u : Ty) → t ≡ u → is_sound rows u ≡ true → Like t
  is_type t u e s = subst Like (sym e) (of_sound u s)

  as_pointer : (t u : Ty) → u ≡ ty.Pointer t → Like u → Like t
  as_pointer t u e s = pointed_like rows t (subst Like e s)

  to_pointer : (t u : Ty) → u ≡ ty.Pointer t → Like t → Like u
  to_pointer t u e s = subst Like (sym e) (pointer_like rows t s)

  mutual
    unfolding IsValue IsPlace

    pub value_like : (e : TExpr) → IsValue (scope_of k h) e → Like (type_of e)
    value_like (Constant t n) v = is_type t (ty.Integer v.0) v.1.0 refl
    value_like (Text t n) v = is_type t byte_pointer v.0 (sound_pointer rows (ty.Integer kind.Byte))
    value_like (Nil t) v = is_type t void_pointer v (sound_pointer rows ty.Void)
    value_like (Function t n) v = record { other = ty.Pointer (function_type v.0); alike = v.1.1; sound = sound_pointer rows (function_type v.0) ∙ signature_sound k h n v.0 v.1.0.0 }
    value_like (form.load t place) v = subst Like v.1.0 (place_like place v.0)
    value_like (form.decay t place) v = to_pointer v.1.0 t v.1.1.1 (element_like rows v.1.0 v.1.1.0.0 (subst Like v.1.1.0.1 (place_like place v.0)))
    value_like (form.address t place) v = to_pointer (place_type place) t v.1.1 (place_like place v.0)
    value_like (SizeofType t of) v = is_type t int v.0 refl
    value_like (form.sizeof_place t place) v = is_type t int v.0 refl
    value_like (form.sizeof_value t of) v = is_type t int v.0 refl
    value_like (form.unary t op of) v = is_type t (ty.Integer v.0.0) v.0.1.0 refl
    value_like (form.negation t of) v = is_type t int v.0 refl
    value_like (form.binary t op j left right) v = is_type t (ty.Integer (result_kind op j)) v.0 refl
    value_like (form.logical t op left right) v = is_type t int v.0 refl
    value_like (form.movement t how pointer count) v = subst Like v.1.1.0 (value_like pointer v.1.0)
    value_like (form.difference t left right) v = is_type t int v.0 refl
    value_like (form.assign t target value) v = subst Like v.1.1.1.1 (value_like value v.1.1.1.0)
    value_like (form.update t place how value) v = subst Like v.1.0 (place_like place v.0)
    value_like (form.stepped t op place) v = subst Like v.1.0 (place_like place v.0)
    value_like (form.zerox t place) v = subst Like v.1.0 (place_like place v.0)
    value_like (Tuple' t _ parts) v = of_sound t v.0
    value_like (Call' t n receiver _ arguments) v = let g = v.1.1.1 in record { other = g.0.returns; alike = alike_returns t g.0.returns (v.0 ++ row_types arguments) (parameter_types g.0) g.1.1; sound = returned_sound k h n g.0 g.1.0.0 }
    value_like (CallPointer' t _ (more_of-TExpr pointer end_of-TExpr) _ arguments) v = (function_like rows t (row_types arguments) (as_pointer (ty.Function t (row_types arguments)) (type_of pointer) v.1.1 (value_like pointer v.0))).like
    value_like (Print' t format _ arguments) v = is_type t ty.Void v.0 refl
    value_like (form.terminate t status) v = is_type t ty.Void v.0 refl
    value_like (form.receive t chan) v = (carried rows t v.1.0 (subst Like v.1.1 (value_like chan v.0))).like
    value_like (form.send t chan value) v = is_type t ty.Void v.0 refl
    value_like (form.can_receive t chan) v = is_type t int v.0 refl
    value_like (form.can_send t chan) v = is_type t int v.0 refl
    value_like (form.member_of t value path) v = leads_like rows h.well_typed.members path (type_of value) t v.1.0 (value_like value v.0)
    value_like (form.cast t of) v = of_sound t v.0
    value_like (form.convert t of) v = of_sound t v.0
    value_like (Sequence' t _ first _ (more_of-TExpr last end_of-TExpr)) v = subst Like v.1.1 (value_like last v.1.0)
    value_like (Iterator t n) v = is_type t int v.0 refl

    pub place_like : (pl : TPlace) → IsPlace (scope_of k h) pl → Like (place_type pl)
    place_like (Local t n) v = subst Like v.1.1 (of_stored v.0.ty (one_of_all (IsLocalOf k.ways.program) h.function.locals n v.0 (own k h).locals v.1.0).0)
    place_like (Outer t around n) v = subst Like v.is (of_stored v.var.ty (one_of_all (IsLocalOf k.ways.program) v.function.locals n v.var (h.well_typed.functions v.outer v.function v.is_there).locals v.is_local).0)
    place_like (Global t n) v = subst Like v.1.1 (of_stored v.0.ty (global_is k h n v.0 v.1.0).stored)
    place_like (form.pointed t pointer) v = as_pointer t (type_of pointer) v.1 (value_like pointer v.0)
    place_like (form.element t base index) v = as_pointer t (type_of base) v.1.1.0 (value_like base v.1.0)
    place_like (form.member_in t of path) v = leads_like rows h.well_typed.members path (place_type of) t v.1.1 (place_like of v.0)
    place_like (form.pointed_member t pointer path) v = leads_like rows h.well_typed.members path v.0 t v.1.1.1 (as_pointer v.0 (type_of pointer) v.1.1.0 (value_like pointer v.1.0))
