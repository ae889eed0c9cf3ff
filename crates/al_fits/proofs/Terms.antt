-- The work of places, targets and expressions is that of well-typed ones, among any names of sound types.
use Rattle.std.proofs.Common.{◌≡◌, ℕ, ◌+◌, Bool, true, false, if◌then◌else◌, List, [], ◌∷◌, ◌++◌, map, length, Option, Some, None, refl, sym, ap, ◌∙◌, subst}
use Rattle.std.specs.Prelude.{slice_index}
use Rattle.std.specs.List.{AllByRecursion, flat_map}
use Rattle.al_typed.specs.declared.ty.Ty.{Ty}
use Rattle.al_typed.specs.declared.ty.Ty.TheOpen.{Ty-F}
use Rattle.al_typed.specs.declared.ty.Ty.TheViews.{out-Ty, roll-Ty, roll-out-Ty}
use Rattle.al_typed.specs.declared.ty.Ty.TheVariants as ty
use Rattle.al_typed.specs.declared.ty.Ty.TheBlock.{hidden-the_row-Ty-0, shown-the_row-Ty-0}
use denote.Hole.Carrier.{hidden, shown, out}
use Rattle.al_typed.specs.declared.program.Program.{Program}
use Rattle.al_typed.specs.declared.expression.Change.{Change}
use Rattle.al_typed.specs.declared.expression.Change.TheVariants as change
use Rattle.al_typed.specs.declared.expression.Logic.TheVariants as logic
use Rattle.al_typed.specs.declared.expression.Movement.TheVariants as movement
use Rattle.al_typed.specs.declared.expression.Passed.{Passed}
use Rattle.al_typed.specs.declared.expression.Passed.TheVariants as passed
use Rattle.al_typed.specs.declared.expression.TExpr.{TExpr, Constant, Text, Nil, Function, SizeofType, Tuple', Call', CallPointer', Print', Sequence', Iterator, Held-TExpr-Call-2, None', Some', Row_of-TExpr, end_of-TExpr, more_of-TExpr, end_of-TReceiver, more_of-TReceiver, Row_of-TTarget, end_of-TTarget, more_of-TTarget}
use Rattle.al_typed.specs.declared.expression.TPlace.{TPlace, Local as Local_, Outer, Global}
use Rattle.al_typed.specs.declared.expression.TTarget.{TTarget, Dropped, Parts'}
use Rattle.al_typed.specs.ExpressionForms as form
use Rattle.al_typed.specs.Types.{is_void}
use Rattle.al_typed.specs.Layout.{Member, member}
use Rattle.al_typed.specs.Typed.{type_of, place_type}
use Rattle.al_typed.specs.Sound.{HasSoundTypes, scope_of}
use Rattle.al_typed.specs.WellTyped.{IsPlace, IsTarget, IsValue, AreValues, AreTargets, IsGiven, Gives, LeadsTo, Scope, is_sound}
use Rattle.std.proofs.lemmas.Bool.{and_parts}
use Rattle.al_meaning.specs.Places.{text_place, function_address, path_offset}
use Rattle.al_meaning.specs.Items.{Nowhere, Work, Eval, Find, Aim, Drop, Unary, Negate, Binary, AndThen, OrElse, Advance, AdvanceCounted, Between, Convert, Part, Join, Point, Index, Within, AddressOf, Read, Look, Assign, Update, Step, Clear, Invoke, InvokePointer, Gather, Terminates, Receives, Sends, CanReceives, CanSends}
use Rattle.al_meaning.specs.Words.{integer_words}
use Rattle.al_meaning.specs.Shown.{kind_of}
use Rattle.al_meaning.specs.Parts.{exprs, targets, receiver_of}
use Rattle.al_meaning.specs.Here.{Here, drops, size_in, member_type, pointee, pointee_at, type_at}
use Rattle.al_meaning.specs.Calls.{call_work, evaluated, object_count, object_work}
use Rattle.al_meaning.specs.Evaluate.{local_found, outer_found, global_found, aim_at, and_dropped, eval, find_place, leaves_of, leaves_of_all}
use Rattle.al_control_values.specs.Fits.{IsSmall}
use Rattle.al_control.specs.Fits.{PartFits}
use Rattle.al_walk_places.specs.Fits.{ChangeFits}
use Rattle.al_fits.specs.Controls.{In, WorkIs, NextIs}
use Rattle.al_fits.proofs.Sizes.{sound_small, sound_pointer}
use Rattle.al_fits.proofs.Members.{path_lies}
use Rattle.al_fits.proofs.Sound.{value_sound, place_sound, value_small, place_small, target_is}
use Rattle.al_fits.proofs.Going.{HereIs, finds_it, gives_it, WorksAre, each_append, does_it}

-- what holds of a part where it holds of the whole
pub narrow : {p : Program} {T U : Scope → Type 0} → In p T → ((s : Scope) → T s → U s) → In p U
narrow {p} x g = record { iterators = x.iterators; term = g (scope_of p x.iterators) x.term }

-- ---- types

pub pointee_is : (t u : Ty) → t ≡ ty.Pointer u → pointee t ≡ u
unfolding pointee out-Ty out hidden-the_row-Ty-0 hidden shown-the_row-Ty-0 shown
pointee_is t u e = ap pointee e

pub pointee_sound : (p : Program) (t : Ty) → is_sound p.aggregates t ≡ true → is_sound p.aggregates (pointee t) ≡ true
unfolding pointee
pointee_sound p t h = on (out-Ty t) (sym (roll-out-Ty t))
  where
    on : (y : Ty-F Ty) → t ≡ roll-Ty y → is_sound p.aggregates (pointee_at y) ≡ true
    on (Ty-F.Pointer to) e = sym (sound_pointer p.aggregates to) ∙ (sym (ap (is_sound p.aggregates) (e ∙ ty.rolls-Pointer to)) ∙ h)
    on _ e = refl

pub void_small : (p : Program) → IsSmall p ty.Void
void_small p = sound_small p ty.Void refl

module _ (p : Program) (W : HasSoundTypes p) where
  pub leads_small : (path : List ℕ) (t u : Ty) → LeadsTo p.aggregates path t u → is_sound p.aggregates t ≡ true → IsSmall p (type_at (member p.aggregates path t))
  leads_small path t u h s = on (member p.aggregates path t) refl
    where
      on : (o : Option Member) → member p.aggregates path t ≡ o → IsSmall p (type_at o)
      on (Some m) e = sound_small p m.ty ((path_lies p W path t m e).1 s)
      on None e = void_small p

  pub part_fits : (path : List ℕ) (t u : Ty) → LeadsTo p.aggregates path t u → is_sound p.aggregates t ≡ true → PartFits p t path
  part_fits path t u h s = (sound_small p t s, leads_small path t u h s)

  change_fits : (t : Ty) (change : Change) → is_sound p.aggregates t ≡ true → ChangeFits p t change
  change_fits t (change.Apply op kind) s = tt
  change_fits t (change.Move back) s = sound_small p (pointee t) (pointee_sound p t s)

-- ---- rows

pub row_works : (p : Program) {m : _} (row : Row_of-TExpr m) → In p (λ s. AreValues s row) → WorksAre p (evaluated (exprs row))
unfolding AreValues
row_works p end_of-TExpr x = tt
row_works p (more_of-TExpr e rest) x = (narrow x (λ s v. v.0), row_works p rest (narrow x (λ s v. v.1)))

drops_work : (p : Program) (t : Ty) → WorksAre p (drops t)
drops_work p t = on (is_void t)
  where
    on : (b : Bool) → WorksAre p (if b then [] else Drop ∷ [])
    on true = tt
    on false = (tt, tt)

pub dropped_works : (p : Program) (e : TExpr) → In p (λ s. IsValue s e) → WorksAre p (and_dropped e)
dropped_works p e x = (x, drops_work p (type_of e))

dropped_row : (p : Program) {m : _} (row : Row_of-TExpr m) → In p (λ s. AreValues s row) → WorksAre p (flat_map and_dropped (exprs row))
unfolding AreValues
dropped_row p end_of-TExpr x = tt
dropped_row p (more_of-TExpr e rest) x =
    each_append (WorkIs p) (and_dropped e) (flat_map and_dropped (exprs rest)) (dropped_works p e (narrow x (λ s v. v.0))) (dropped_row p rest (narrow x (λ s v. v.1)))

aimed_row : (p : Program) {m : _} (row : Row_of-TTarget m) → In p (λ s. AreTargets s row) → WorksAre p (map Aim (targets row))
unfolding AreTargets
aimed_row p end_of-TTarget x = tt
aimed_row p (more_of-TTarget target rest) x = (narrow x (λ s v. v.0), aimed_row p rest (narrow x (λ s v. v.1)))

-- ---- places and targets

pub find_it : (place : TPlace) (h : Here) → HereIs h → In h.program (λ s. IsPlace s place) → NextIs h.program (find_place place h)
unfolding IsPlace
find_it (Local_ t number) h K x = finds_it h (local_found h.program h.frame.function h.frame.block number) K
find_it (Outer t around number) h K x = finds_it h (outer_found h.program h.frame.function h.frame.around around number) K
find_it (Global t number) h K x = finds_it h (global_found h.program number) K
find_it (form.pointed t pointer) h K x = does_it h (Eval pointer ∷ Point 0 ∷ []) K (narrow x (λ s v. v.0), (tt, tt))
find_it (form.element t base index) h K x = does_it h (Eval base ∷ Eval index ∷ Index (size_in h.program t) ∷ []) K (narrow x (λ s v. v.1.0), (narrow x (λ s v. v.1.1.1.0), (tt, tt)))
find_it (form.member_in t of path) h K x = does_it h (Find of ∷ Within (path_offset h.program (place_type of) path) ∷ []) K (narrow x (λ s v. v.0), (tt, tt))
find_it (form.pointed_member t pointer path) h K x = does_it h (Eval pointer ∷ Point (path_offset h.program (pointee (type_of pointer)) path) ∷ []) K (narrow x (λ s v. v.1.0), (tt, tt))

pub aim_it : (target : TTarget) (h : Here) → HereIs h → In h.program (λ s. IsTarget s target) → NextIs h.program (aim_at target h)
unfolding IsTarget
aim_it (form.into place) h K x = does_it h (Find place ∷ []) K (narrow x (λ s v. v), tt)
aim_it (Dropped t) h K x = finds_it h Nowhere K
aim_it (Parts' t _ parts) h K x = does_it h (map Aim (targets parts)) K (aimed_row h.program parts (narrow x (λ s v. v.1.0)))

module _ (p : Program) (W : HasSoundTypes p) where
  mutual
    unfolding IsTarget AreTargets

    pub leaves_small : (target : TTarget) → In p (λ s. IsTarget s target) → AllByRecursion (IsSmall p) (leaves_of target)
    leaves_small (form.into place) x = (place_small p W x.iterators place x.term, tt)
    leaves_small (Dropped t) x = (sound_small p t (and_parts _ _ x.term.0).0, tt)
    leaves_small (Parts' t _ parts) x = all_leaves_small parts (narrow x (λ s v. v.1.0))

    all_leaves_small : {m : _} (row : Row_of-TTarget m) → In p (λ s. AreTargets s row) → AllByRecursion (IsSmall p) (leaves_of_all row)
    all_leaves_small end_of-TTarget x = tt
    all_leaves_small (more_of-TTarget target rest) x =
        each_append (IsSmall p) (leaves_of target) (leaves_of_all rest) (leaves_small target (narrow x (λ s v. v.0))) (all_leaves_small rest (narrow x (λ s v. v.1)))

  -- ---- calls

  pub small_value : (e : TExpr) → In p (λ s. IsValue s e) → IsSmall p (type_of e)
  small_value e x = value_small p W x.iterators e x.term

  pub sound_value : (e : TExpr) → In p (λ s. IsValue s e) → is_sound p.aggregates (type_of e) ≡ true
  sound_value e x = value_sound p W x.iterators e x.term

  pub sound_place : (place : TPlace) → In p (λ s. IsPlace s place) → is_sound p.aggregates (place_type place) ≡ true
  sound_place place x = place_sound p W x.iterators place x.term

  -- an object before a function's name is well typed, and so is the member that its path leads to
  place_object : (place : TPlace) (path : List ℕ) (how : Passed) → In p (λ s. (given : List Ty) × Gives s (form.place_before place path how) given)
      → WorksAre p (object_work p (Some (form.place_before place path how)))
  unfolding Gives
  place_object place path how x =
      let v = x.term.1 in
      let y : In p (λ s. IsPlace s place) = narrow x (λ s v. v.1.1.0) in
      (y, (leads_small p W path (place_type place) v.0 v.1.1.1.0 (sound_place place y), tt))

  value_object : (value : TExpr) (path : List ℕ) (how : Passed) → In p (λ s. (given : List Ty) × Gives s (form.value_before value path how) given)
      → WorksAre p (object_work p (Some (form.value_before value path how)))
  unfolding Gives
  value_object value path passed.Address x = absurd x.term.1
  value_object value path passed.Value x =
      let v = x.term.1 in
      let y : In p (λ s. IsValue s value) = narrow x (λ s v. v.1.1.0) in
      (y, (part_fits p W path (type_of value) v.0 v.1.1.1.0 (sound_value value y), tt))
  value_object value path passed.Nothing x =
      let v = x.term.1 in
      let y : In p (λ s. IsValue s value) = narrow x (λ s v. v.1.1.0) in
      (y, (part_fits p W path (type_of value) v.0 v.1.1.1.0 (sound_value value y), tt))

  pointer_object : (pointer : TExpr) (path : List ℕ) (how : Passed) → In p (λ s. (given : List Ty) × Gives s (form.pointer_before pointer path how) given)
      → WorksAre p (object_work p (Some (form.pointer_before pointer path how)))
  unfolding Gives
  pointer_object pointer path how x =
      let v = x.term.1 in
      let y : In p (λ s. IsValue s pointer) = narrow x (λ s v. v.1.1.1.0) in
      let is : pointee (type_of pointer) ≡ v.0 = pointee_is (type_of pointer) v.0 v.1.1.1.0 in
      let sound = target_is p W (type_of pointer) v.0 v.1.1.1.0 (sound_value pointer y) in
      (y, (subst (λ t. IsSmall p (member_type p t path)) (sym is) (leads_small p W path v.0 v.1.0 v.1.1.1.1.0 sound), tt))

  pub object_works : (o : Held-TExpr-Call-2) → In p (λ s. (given : List Ty) × IsGiven s o given) → WorksAre p (object_work p (receiver_of o))
  unfolding IsGiven
  object_works None' x = tt
  object_works (Some' _ (more_of-TReceiver (form.place_before place path how) end_of-TReceiver)) x = place_object place path how x
  object_works (Some' _ (more_of-TReceiver (form.value_before value path how) end_of-TReceiver)) x = value_object value path how x
  object_works (Some' _ (more_of-TReceiver (form.pointer_before pointer path how) end_of-TReceiver)) x = pointer_object pointer path how x

  pub call_works : (e : TExpr) (then_do : ℕ → ℕ → Work) → ((f c : ℕ) → WorkIs p (then_do f c)) → In p (λ s. IsValue s e) → WorksAre p (call_work p e then_do)
  unfolding IsValue
  call_works (Call' t function receiver _ arguments) then_do last x =
      each_append (WorkIs p) (object_work p (receiver_of receiver) ++ evaluated (exprs arguments))
      (then_do function (object_count (receiver_of receiver) + length (exprs arguments)) ∷ [])
      (each_append (WorkIs p) (object_work p (receiver_of receiver)) (evaluated (exprs arguments))
      (object_works receiver (narrow x (λ s v. (v.0, v.1.0)))) (row_works p arguments (narrow x (λ s v. v.1.1.0))))
      (last function (object_count (receiver_of receiver) + length (exprs arguments)), tt)
  call_works e then_do last x = tt

-- ---- expressions

pub eval_it : (e : TExpr) (h : Here) → HasSoundTypes h.program → HereIs h → In h.program (λ s. IsValue s e) → NextIs h.program (eval e h)
unfolding IsValue
eval_it (Constant t bits) h W K x = gives_it h (integer_words (kind_of t) bits) K
eval_it (Text t number) h W K x = gives_it h (text_place h.program number ∷ []) K
eval_it (Nil t) h W K x = gives_it h (0 ∷ []) K
eval_it (Function t number) h W K x = gives_it h (function_address number ∷ []) K
eval_it (form.load t place) h W K x =
    does_it h (Find place ∷ Read t ∷ []) K (narrow x (λ s v. v.0), (small_value h.program W (form.load t place) x, tt))
eval_it (form.decay t place) h W K x = does_it h (Find place ∷ AddressOf ∷ []) K (narrow x (λ s v. v.0), (tt, tt))
eval_it (form.address t place) h W K x = does_it h (Find place ∷ AddressOf ∷ []) K (narrow x (λ s v. v.0), (tt, tt))
eval_it (SizeofType t of) h W K x = gives_it h (size_in h.program of ∷ []) K
eval_it (form.sizeof_place t place) h W K x = gives_it h (size_in h.program (place_type place) ∷ []) K
eval_it (form.sizeof_value t value) h W K x = gives_it h (size_in h.program (type_of value) ∷ []) K
eval_it (form.unary t op of) h W K x = does_it h (Eval of ∷ Unary op (kind_of t) ∷ []) K (narrow x (λ s v. v.1.0), (tt, tt))
eval_it (form.negation t of) h W K x = does_it h (Eval of ∷ Negate ∷ []) K (narrow x (λ s v. v.1.0), (tt, tt))
eval_it (form.binary t op kind left right) h W K x = does_it h (Eval left ∷ Eval right ∷ Binary op kind ∷ []) K (narrow x (λ s v. v.1.1.0), (narrow x (λ s v. v.1.1.1.1.0), (tt, tt)))
eval_it (form.logical t logic.And left right) h W K x = does_it h (Eval left ∷ AndThen right ∷ []) K (narrow x (λ s v. v.1.0), (narrow x (λ s v. v.1.1.1.0), tt))
eval_it (form.logical t logic.Or left right) h W K x = does_it h (Eval left ∷ OrElse right ∷ []) K (narrow x (λ s v. v.1.0), (narrow x (λ s v. v.1.1.1.0), tt))
eval_it (form.movement t movement.Forward pointer count) h W K x = does_it h (Eval pointer ∷ Eval count ∷ Advance false (size_in h.program (pointee t)) ∷ []) K (narrow x (λ s v. v.1.0), (narrow x (λ s v. v.1.1.1.0), (tt, tt)))
eval_it (form.movement t movement.CountFirst pointer count) h W K x = does_it h (Eval count ∷ Eval pointer ∷ AdvanceCounted (size_in h.program (pointee t)) ∷ []) K (narrow x (λ s v. v.1.1.1.0), (narrow x (λ s v. v.1.0), (tt, tt)))
eval_it (form.movement t movement.Back pointer count) h W K x = does_it h (Eval pointer ∷ Eval count ∷ Advance true (size_in h.program (pointee t)) ∷ []) K (narrow x (λ s v. v.1.0), (narrow x (λ s v. v.1.1.1.0), (tt, tt)))
eval_it (form.difference t left right) h W K x = does_it h (Eval left ∷ Eval right ∷ Between (size_in h.program (pointee (type_of left))) ∷ []) K (narrow x (λ s v. v.1.1.0), (narrow x (λ s v. v.1.1.1.0), (tt, tt)))
eval_it (form.assign t target value) h W K x =
    does_it h (Aim target ∷ Eval value ∷ Assign target ∷ []) K
    (narrow x (λ s v. v.1.0), (narrow x (λ s v. v.1.1.1.0), (leaves_small h.program W target (narrow x (λ s v. v.1.0)), tt)))
eval_it (form.update t place change value) h W K x =
    let small = small_value h.program W (form.update t place change value) x in
    let sound = sound_value h.program W (form.update t place change value) x in
    does_it h (Find place ∷ Look t ∷ Eval value ∷ Update t change ∷ []) K (narrow x (λ s v. v.0), (small, (narrow x (λ s v. v.1.1.0), ((small, change_fits h.program W t change sound), tt))))
eval_it (form.stepped t op place) h W K x =
    let small = small_value h.program W (form.stepped t op place) x in
    let sound = sound_value h.program W (form.stepped t op place) x in
    does_it h (Find place ∷ Look t ∷ Step t op ∷ []) K (narrow x (λ s v. v.0), (small, ((small, sound_small h.program (pointee t) (pointee_sound h.program t sound)), tt)))
eval_it (form.zerox t place) h W K x =
    let small = small_value h.program W (form.zerox t place) x in
    does_it h (Find place ∷ Look t ∷ Clear t ∷ []) K (narrow x (λ s v. v.0), (small, (small, tt)))
eval_it (Tuple' t _ parts) h W K x =
    does_it h (evaluated (exprs parts) ++ Join (length (exprs parts)) ∷ []) K (each_append (WorkIs h.program) (evaluated (exprs parts)) (Join (length (exprs parts)) ∷ []) (row_works h.program parts (narrow x (λ s v. v.1.0))) (tt, tt))
eval_it (Call' t function receiver shape arguments) h W K x =
    does_it h (call_work h.program (Call' t function receiver shape arguments) Invoke) K (call_works h.program W (Call' t function receiver shape arguments) Invoke (λ f c. tt) x)
eval_it (CallPointer' t _ (more_of-TExpr pointer end_of-TExpr) _ arguments) h W K x =
    does_it h (Eval pointer ∷ evaluated (exprs arguments) ++ InvokePointer (pointee (type_of pointer)) (length (exprs arguments)) ∷ []) K
    (narrow x (λ s v. v.0), each_append (WorkIs h.program) (evaluated (exprs arguments)) (InvokePointer (pointee (type_of pointer)) (length (exprs arguments)) ∷ []) (row_works h.program arguments (narrow x (λ s v. v.1.0))) (tt, tt))
eval_it (Print' t format _ arguments) h W K x =
    does_it h (evaluated (exprs arguments) ++ Gather format (map type_of (exprs arguments)) ∷ []) K (each_append (WorkIs h.program) (evaluated (exprs arguments)) (Gather format (map type_of (exprs arguments)) ∷ []) (row_works h.program arguments (narrow x (λ s v. v.1.0))) (tt, tt))
eval_it (form.terminate t status) h W K x = does_it h (Eval status ∷ Terminates ∷ []) K (narrow x (λ s v. v.1.0), (tt, tt))
eval_it (form.receive t chan) h W K x =
    does_it h (Eval chan ∷ Receives t ∷ []) K (narrow x (λ s v. v.0), (small_value h.program W (form.receive t chan) x, tt))
eval_it (form.send t chan value) h W K x =
    does_it h (Eval chan ∷ Eval value ∷ Sends (type_of value) ∷ []) K
    (narrow x (λ s v. v.1.0), (narrow x (λ s v. v.1.1.0), (small_value h.program W value (narrow x (λ s v. v.1.1.0)), tt)))
eval_it (form.can_receive t chan) h W K x = does_it h (Eval chan ∷ CanReceives ∷ []) K (narrow x (λ s v. v.1.0), (tt, tt))
eval_it (form.can_send t chan) h W K x = does_it h (Eval chan ∷ CanSends ∷ []) K (narrow x (λ s v. v.1.0), (tt, tt))
eval_it (form.member_of t value path) h W K x =
    does_it h (Eval value ∷ Part (type_of value) path ∷ []) K (
      narrow x (λ s v. v.0),
      (part_fits h.program W path (type_of value) t x.term.1.0 (sound_value h.program W value (narrow x (λ s v. v.0))), tt),
    )
eval_it (form.cast t of) h W K x = does_it h (Eval of ∷ Convert (type_of of) t ∷ []) K (narrow x (λ s v. v.1.0), (tt, tt))
eval_it (form.convert t of) h W K x = does_it h (Eval of ∷ Convert (type_of of) t ∷ []) K (narrow x (λ s v. v.1.0), (tt, tt))
eval_it (Sequence' t _ first _ (more_of-TExpr last end_of-TExpr)) h W K x =
    does_it h (flat_map and_dropped (exprs first) ++ Eval last ∷ []) K
    (each_append (WorkIs h.program) (flat_map and_dropped (exprs first)) (Eval last ∷ []) (dropped_row h.program first (narrow x (λ s v. v.0)))
    (narrow x (λ s v. v.1.0), tt))
eval_it (Iterator t number) h W K x = gives_it h (slice_index h.frame.turns number ∷ []) K
