-- The types of well-typed terms are sound, among any names of sound types.
use Rattle.std.proofs.Common.{◌≡◌, ℕ, List, Some, refl, ap, sym, ◌∙◌}
use Rattle.std.specs.Prelude.{true, slice_get}
use Rattle.std.proofs.lemmas.Bool.{and_parts}
use Rattle.al_typed.specs.declared.ty.Ty.{Ty}
use Rattle.al_typed.specs.declared.ty.Ty.TheBlock.{hidden-the_row-Ty-0}
use denote.Hole.Carrier.{hidden}
use Rattle.al_typed.specs.declared.ty.Ty.TheVariants as ty
use Rattle.al_typed.specs.declared.program.Aggregate.{Aggregate as AggregateRow}
use Rattle.al_typed.specs.declared.program.Local.{Local as LocalRow}
use Rattle.al_typed.specs.declared.program.Function.{Function as FunctionRow}
use Rattle.al_typed.specs.declared.program.Program.{Program}
use Rattle.al_typed.specs.declared.expression.TExpr.{TExpr, Constant, Text, Nil, Function, SizeofType, Tuple', Call', CallPointer', Print', Sequence', Iterator, end_of-TExpr, more_of-TExpr}
use Rattle.al_typed.specs.declared.expression.TPlace.{TPlace, Local, Outer, Global}
use Rattle.al_typed.specs.ExpressionForms as form
use Rattle.al_typed.specs.Typed.{type_of, place_type}
use Rattle.al_typed.specs.WellTyped.{IsPlace, IsValue, LeadsTo, is_sound, is_stored}
use Rattle.al_typed.specs.Sound.{HasSoundTypes, scope_of}
use Rattle.al_meaning.specs.Places.{function_at}
use Rattle.al_control_values.specs.Fits.{IsSmall}
use Rattle.al_fits.proofs.Sizes.{sound_small, sound_pointer, sound_element, sound_sent}
use Rattle.al_fits.proofs.Members.{all_at, function_is, path_lies}

-- what a function returns
sound_returned : (rows : List AggregateRow) (t : Ty) (ts : List Ty) → is_sound rows (ty.Function t ts) ≡ true → is_sound rows t ≡ true
unfolding hidden-the_row-Ty-0 hidden
sound_returned rows t ts h = (and_parts _ _ (and_parts _ _ h).0).0

module _ (p : Program) (W : HasSoundTypes p) where
  same : (t u : Ty) → t ≡ u → is_sound p.aggregates u ≡ true → is_sound p.aggregates t ≡ true
  same t u e h = ap (is_sound p.aggregates) e ∙ h

  stored : (t : Ty) → is_stored p.aggregates t ≡ true → is_sound p.aggregates t ≡ true
  stored t h = (and_parts _ _ h).0

  pub local_sound : (n : ℕ) (f : FunctionRow) (k : ℕ) (l : LocalRow) → function_at p n ≡ Some f → slice_get f.locals k ≡ Some l → is_sound p.aggregates l.ty ≡ true
  local_sound n f k l e is = stored l.ty (all_at (λ (l : LocalRow). is_stored p.aggregates l.ty ≡ true) f.locals k l (function_is p W n f e).locals is)

  leads_sound : (path : List ℕ) (t u : Ty) → LeadsTo p.aggregates path t u → is_sound p.aggregates t ≡ true → is_sound p.aggregates u ≡ true
  leads_sound path t u h s = same u h.0.ty (sym h.1.1) ((path_lies p W path t h.0 h.1.0).1 s)

  -- what a pointer leads to, and what a channel takes
  pub target_is : (t u : Ty) → t ≡ ty.Pointer u → is_sound p.aggregates t ≡ true → is_sound p.aggregates u ≡ true
  target_is t u e h = sym (sound_pointer p.aggregates u) ∙ sym (ap (is_sound p.aggregates) e) ∙ h

  pointer_is : (t u : Ty) → t ≡ ty.Pointer u → is_sound p.aggregates u ≡ true → is_sound p.aggregates t ≡ true
  pointer_is t u e h = same t (ty.Pointer u) e (sound_pointer p.aggregates u ∙ h)

  -- ---- terms

  module _ (i : ℕ) where
    mutual
      unfolding IsValue IsPlace

      pub value_sound : (e : TExpr) → IsValue (scope_of p i) e → is_sound p.aggregates (type_of e) ≡ true
      value_sound (Constant t bits) h = same t (ty.Integer h.0) h.1.0 refl
      value_sound (Text t number) h = pointer_is t _ h.0 refl
      value_sound (Nil t) h = pointer_is t ty.Void h refl
      value_sound (Function t number) h = h.0
      value_sound (form.load t place) h = same t _ (sym h.1.0) (place_sound place h.0)
      value_sound (form.decay t place) h =
          pointer_is t h.1.0 h.1.1.1 (sound_element p.aggregates h.1.0 h.1.1.0.0 (sym (ap (is_sound p.aggregates) h.1.1.0.1) ∙ place_sound place h.0))
      value_sound (form.address t place) h = pointer_is t _ h.1.1 (place_sound place h.0)
      value_sound (SizeofType t of) h = same t _ h.0 refl
      value_sound (form.sizeof_place t place) h = same t _ h.0 refl
      value_sound (form.sizeof_value t value) h = same t _ h.0 refl
      value_sound (form.unary t op of) h = same t _ h.0.1.0 refl
      value_sound (form.negation t of) h = same t _ h.0 refl
      value_sound (form.binary t op kind left right) h = same t _ h.0 refl
      value_sound (form.logical t op left right) h = same t _ h.0 refl
      value_sound (form.movement t how pointer count) h = same t _ (sym h.1.1.0) (value_sound pointer h.1.0)
      value_sound (form.difference t left right) h = same t _ h.0 refl
      value_sound (form.assign t target value) h = same t _ (sym h.1.1.1.1) (value_sound value h.1.1.1.0)
      value_sound (form.update t place change value) h = same t _ (sym h.1.0) (place_sound place h.0)
      value_sound (form.stepped t op place) h = same t _ (sym h.1.0) (place_sound place h.0)
      value_sound (form.zerox t place) h = same t _ (sym h.1.0) (place_sound place h.0)
      value_sound (Tuple' t _ parts) h = h.0
      value_sound (Call' t number receiver _ arguments) h = h.1.1.1
      value_sound (CallPointer' t _ (more_of-TExpr pointer end_of-TExpr) _ arguments) h =
          sound_returned p.aggregates t _ (target_is (type_of pointer) _ h.1.1 (value_sound pointer h.0))
      value_sound (Print' t format _ arguments) h = same t _ h.0 refl
      value_sound (form.terminate t status) h = same t _ h.0 refl
      value_sound (form.receive t chan) h = sound_sent p.aggregates t h.1.0 (sym (ap (is_sound p.aggregates) h.1.1) ∙ value_sound chan h.0)
      value_sound (form.send t chan value) h = same t _ h.0 refl
      value_sound (form.can_receive t chan) h = same t _ h.0 refl
      value_sound (form.can_send t chan) h = same t _ h.0 refl
      value_sound (form.member_of t value path) h = leads_sound path (type_of value) t h.1.0 (value_sound value h.0)
      value_sound (form.cast t of) h = h.0
      value_sound (form.convert t of) h = h.0
      value_sound (Sequence' t _ first _ (more_of-TExpr last end_of-TExpr)) h = same t _ (sym h.1.1) (value_sound last h.1.0)
      value_sound (Iterator t number) h = same t _ h.0 refl

      pub place_sound : (place : TPlace) → IsPlace (scope_of p i) place → is_sound p.aggregates (place_type place) ≡ true
      place_sound (Local t number) h = stored t h
      place_sound (Outer t around number) h = stored t h
      place_sound (Global t number) h = stored t h
      place_sound (form.pointed t pointer) h = target_is (type_of pointer) t h.1 (value_sound pointer h.0)
      place_sound (form.element t base index) h = target_is (type_of base) t h.1.1.0 (value_sound base h.1.0)
      place_sound (form.member_in t of path) h = leads_sound path (place_type of) t h.1.1 (place_sound of h.0)
      place_sound (form.pointed_member t pointer path) h =
          leads_sound path h.0 t h.1.1.1 (target_is (type_of pointer) h.0 h.1.1.0 (value_sound pointer h.1.0))

    pub value_small : (e : TExpr) → IsValue (scope_of p i) e → IsSmall p (type_of e)
    value_small e h = sound_small p (type_of e) (value_sound e h)

    pub place_small : (place : TPlace) → IsPlace (scope_of p i) place → IsSmall p (place_type place)
    place_small place h = sound_small p (place_type place) (place_sound place h)
