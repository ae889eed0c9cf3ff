-- What is claimed of each expression, place and target, and of each form where its parts have it.
use Rattle.std.proofs.Common.{◌≡◌, ℕ, ◌<◌, List, [], ◌++◌, length, refl, sym, ap, ◌∙◌, subst}
use Rattle.std.specs.Prelude.{true, slice_get}
use Rattle.std.specs.List.{flat_map}
use Rattle.std.proofs.lemmas.Option.{slice_get_within}
use Rattle.al_base.specs.declared.arith.Kind.{Kind}
use Rattle.al_typed.specs.declared.expression.UnaryOp.{UnaryOp}
use Rattle.al_typed.specs.declared.expression.BinaryOp.{BinaryOp}
use Rattle.al_typed.specs.declared.expression.Change.{Change}
use Rattle.al_typed.specs.declared.expression.StepOp.{StepOp}
use Rattle.al_typed.specs.declared.expression.Logic.{Logic}
use Rattle.al_typed.specs.declared.expression.Movement.{Movement}
use Rattle.al_typed.specs.declared.expression.PrintPiece.{PrintPiece}
use Rattle.al_typed.specs.declared.ty.Ty.{Ty}
use Rattle.al_typed.specs.declared.expression.Passed.{Passed}
use Rattle.al_typed.specs.declared.expression.Passed.TheVariants as passed
use Rattle.al_typed.specs.declared.expression.TExpr.{TExpr, Constant, Text, Nil, Function, SizeofType, Tuple', Call', CallPointer', Print', Sequence', Iterator, Held-TExpr-Call-2, None', Some', Row_of-TExpr, end_of-TExpr, more_of-TExpr, Row_of-TTarget, end_of-TTarget, more_of-TTarget, end_of-TReceiver, more_of-TReceiver}
use Rattle.al_typed.specs.declared.expression.TPlace.{TPlace, Local, Outer, Global}
use Rattle.al_typed.specs.declared.expression.TTarget.{TTarget, Dropped, Parts'}
use Rattle.al_typed.specs.declared.expression.TReceiver.{TReceiver}
use Rattle.al_typed.specs.ExpressionForms as form
use Rattle.al_typed.specs.Typed.{type_of, place_type, target_type, row_types, target_types}
use Rattle.al_typed.specs.WellTyped.{HasAddress, IsValue, AreValues, IsPlace, IsTarget, AreTargets, IsGiven, Gives, is_sound}
use Rattle.al_meaning.specs.Places.{locals_of, path_offset}
use Rattle.al_meaning.specs.Here.{units_in, size_in, pointee}
use Rattle.al_meaning.specs.Evaluate.{leaves_of, leaves_of_all, round_of}
use Rattle.al_meaning.specs.Tasks.{give}
use Rattle.al_meaning.specs.Told.{value, told, told_all, told_object, told_receiver, drop_all, found}
use Rattle.al_meaning.specs.Told as meaning
use Rattle.al_lower_words.proofs.Integers.{words_are}
use Rattle.al_lower_code.specs.Actions.{no_object}
use Rattle.al_lower_code.specs.Expressions.{coded, placed, aimed, aimed_row, object, received_object, row}
use Rattle.al_lower_claims.proofs.Claims.{Setting, spot, count_of, PlacedDoes, CodedDoes}
use Rattle.al_lower_values.proofs.Rows.{RowDoes, EffectsDo, no_values_do, more_values_do, no_effects_do, more_effects_do, sequence_does}
use Rattle.al_lower_values.proofs.Spots.{outer_does, pointed_does}
use Rattle.al_lower_actions.proofs.Elements.{member_does, element_does}
use Rattle.al_lower_conversions.proofs.Words.{single}
use Rattle.al_lower_print.proofs.Printing.{EachDoes, no_each_do, more_each_do}
use Rattle.al_lower_targets.proofs.Targets.{AimedDoes, dropped_aims, nothing_aims, more_aims, single_aims}
use Rattle.al_lower_expressions.proofs.Types.{IsPart, AreParts, word_of}
use Rattle.al_lower_expressions.proofs.Premises.{Premises, scope_of, plain_globals, has_address}
use Rattle.al_lower_expressions.proofs.Signatures.{tuple_parts}
use Rattle.al_lower_expressions.proofs.Rows.{same_lengths, target_sizes, printed_parts}
use Rattle.al_lower_expressions.proofs.Forms.{GivenDoes, array, has_addresses, local_place, shared_place, global_at, shared_global, parts_front, parts_back}
use Rattle.al_lower_expressions.proofs.Each.{constant_form, text_form, nil_form, function_form, load_form, decay_form, address_form, size_form, place_size_form, value_size_form, unary_form, negation_form, binary_form, logical_form, movement_form, difference_form, assign_form, drop_form, parts_form, update_form, stepped_form, zerox_form, tuple_types, tuple_form, call_types, call_form, pointer_types, call_pointer_form, print_form, terminate_form, receive_form, send_form, can_receive_form, can_send_form, member_form, cast_form, convert_form, iterator_form, int_is, pointer_is, of_type}
use Rattle.al_lower_expressions.proofs.Receivers.{place_object, value_object, pointer_object}

-- ---- claims

pub record ExprClaim (k : Setting) (h : Premises k) (e : TExpr) : Type 1 where
  pub by : IsValue (scope_of k h) e → CodedDoes k (told e k.ways) (type_of e) (coded (spot k) e)

-- a place that has an address may be of any type
pub record PlaceClaim (k : Setting) (h : Premises k) (pl : TPlace) : Type 1 where
  pub by : IsPlace (scope_of k h) pl → PlacedDoes k (found pl k.ways) (place_type pl) (placed (spot k) pl)
  pub any : IsPlace (scope_of k h) pl → HasAddress (scope_of k h) pl → (u : Ty) → PlacedDoes k (found pl k.ways) u (placed (spot k) pl)

pub record TargetClaim (k : Setting) (h : Premises k) (target : TTarget) : Type 1 where
  pub by : IsTarget (scope_of k h) target → IsPart (target_type target) → AimedDoes k (meaning.aimed target k.ways) (leaves_of target) (aimed (spot k) target)
  pub assigns : (t : Ty) (given : TExpr) → IsValue (scope_of k h) (form.assign t target given) → CodedDoes k (told given k.ways) (type_of given) (coded (spot k) given) → CodedDoes k (told (form.assign t target given) k.ways) t (coded (spot k) (form.assign t target given))

pub record TargetsClaim (k : Setting) (h : Premises k) {m : _} (parts : Row_of-TTarget m) : Type 1 where
  pub by : AreTargets (scope_of k h) parts → AreParts (target_types parts) → AimedDoes k (meaning.aimed_all parts k.ways) (leaves_of_all parts) (aimed_row (spot k) parts)

pub record ObjectClaim (k : Setting) (h : Premises k) (o : Held-TExpr-Call-2) : Type 1 where
  pub by : (given : List Ty) → IsGiven (scope_of k h) o given → AreParts given → GivenDoes k (told_object o k.ways) given (object (spot k) o)

pub record ReceiverClaim (k : Setting) (h : Premises k) (receiver : TReceiver) : Type 1 where
  pub by : (given : List Ty) → Gives (scope_of k h) receiver given → AreParts given → GivenDoes k (told_receiver receiver k.ways) given (received_object (spot k) receiver)

-- their values one behind the other, each as a value of its type, and each found and dropped
pub record RowClaim (k : Setting) (h : Premises k) {m : _} (es : Row_of-TExpr m) : Type 1 where
  pub values : AreValues (scope_of k h) es → AreParts (row_types es) → RowDoes k (told_all es k.ways) (row_types es) (row (spot k) es).keeps (row (spot k) es).values
  pub each : AreValues (scope_of k h) es → AreParts (row_types es) → EachDoes k (told_all es k.ways) (row_types es) (row (spot k) es).keeps (row (spot k) es).values
  pub effects : AreValues (scope_of k h) es → EffectsDo k (drop_all es k.ways) (row (spot k) es).keeps (row (spot k) es).effects

-- ---- forms

module _ (k : Setting) (h : Premises k) where
  pub constant_claim : (t : Ty) (n : ℕ) → ExprClaim k h (Constant t n)
  unfolding IsValue
  constant_claim t n = record { by = λ v. constant_form k h t n v }

  pub text_claim : (t : Ty) (n : ℕ) → ExprClaim k h (Text t n)
  unfolding IsValue
  text_claim t n = record { by = λ v. text_form k h t n v }

  pub nil_claim : (t : Ty) → ExprClaim k h (Nil t)
  unfolding IsValue
  nil_claim t = record { by = λ v. nil_form k h t v }

  pub function_claim : (t : Ty) (n : ℕ) → ExprClaim k h (Function t n)
  unfolding IsValue
  function_claim t n = record { by = λ v. function_form k h t n v }

  pub load_claim : (t : Ty) (place : TPlace) → PlaceClaim k h place → ExprClaim k h (form.load t place)
  unfolding IsValue
  load_claim t place x_place = record { by = λ v. load_form k h t place v (x_place.by v.0) }

  pub decay_claim : (t : Ty) (place : TPlace) → PlaceClaim k h place → ExprClaim k h (form.decay t place)
  unfolding IsValue
  decay_claim t place x_place = record { by = λ v. decay_form k h t place v (x_place.by v.0) }

  pub address_claim : (t : Ty) (place : TPlace) → PlaceClaim k h place → ExprClaim k h (form.address t place)
  unfolding IsValue
  address_claim t place x_place = record { by = λ v. address_form k h t place v (x_place.any v.0 v.1.0 (array k h)) }

  pub size_claim : (t of : Ty) → ExprClaim k h (SizeofType t of)
  unfolding IsValue
  size_claim t of = record { by = λ v. size_form k h t of v }

  pub place_size_claim : (t : Ty) (place : TPlace) → ExprClaim k h (form.sizeof_place t place)
  unfolding IsValue
  place_size_claim t place = record { by = λ v. place_size_form k h t place v }

  pub value_size_claim : (t : Ty) (of : TExpr) → ExprClaim k h (form.sizeof_value t of)
  unfolding IsValue
  value_size_claim t of = record { by = λ v. value_size_form k h t of v }

  pub unary_claim : (t : Ty) (op : UnaryOp) (of : TExpr) → ExprClaim k h of → ExprClaim k h (form.unary t op of)
  unfolding IsValue
  unary_claim t op of x_of = record { by = λ v. unary_form k h t op of v (x_of.by v.1.0) }

  pub negation_claim : (t : Ty) (of : TExpr) → ExprClaim k h of → ExprClaim k h (form.negation t of)
  unfolding IsValue
  negation_claim t of x_of = record { by = λ v. negation_form k h t of v (x_of.by v.1.0) }

  pub binary_claim : (t : Ty) (op : BinaryOp) (j : Kind) (left right : TExpr) → ExprClaim k h left → ExprClaim k h right → ExprClaim k h (form.binary t op j left right)
  unfolding IsValue
  binary_claim t op j left right x_left x_right = record { by = λ v. binary_form k h t op j left right v (x_left.by v.1.1.0) (x_right.by v.1.1.1.1.0) }

  pub logical_claim : (t : Ty) (op : Logic) (left right : TExpr) → ExprClaim k h left → ExprClaim k h right → ExprClaim k h (form.logical t op left right)
  unfolding IsValue
  logical_claim t op left right x_left x_right = record { by = λ v. logical_form k h t op left right v (x_left.by v.1.0) (x_right.by v.1.1.1.0) }

  pub movement_claim : (t : Ty) (how : Movement) (pointer count : TExpr) → ExprClaim k h pointer → ExprClaim k h count → ExprClaim k h (form.movement t how pointer count)
  unfolding IsValue
  movement_claim t how pointer count x_pointer x_count = record { by = λ v. movement_form k h t how pointer count v (x_pointer.by v.1.0) (x_count.by v.1.1.1.0) }

  pub difference_claim : (t : Ty) (left right : TExpr) → ExprClaim k h left → ExprClaim k h right → ExprClaim k h (form.difference t left right)
  unfolding IsValue
  difference_claim t left right x_left x_right = record { by = λ v. difference_form k h t left right v (x_left.by v.1.1.0) (x_right.by v.1.1.1.0) }

  pub assign_claim : (t : Ty) (target : TTarget) (given : TExpr) → TargetClaim k h target → ExprClaim k h given → ExprClaim k h (form.assign t target given)
  unfolding IsValue
  assign_claim t target given x_target x_given = record { by = λ v. x_target.assigns t given v (x_given.by v.1.1.1.0) }

  pub update_claim : (t : Ty) (place : TPlace) (how : Change) (given : TExpr) → PlaceClaim k h place → ExprClaim k h given → ExprClaim k h (form.update t place how given)
  unfolding IsValue
  update_claim t place how given x_place x_given = record { by = λ v. update_form k h t place how given v (x_place.by v.0) (x_given.by v.1.1.0) }

  pub stepped_claim : (t : Ty) (op : StepOp) (place : TPlace) → PlaceClaim k h place → ExprClaim k h (form.stepped t op place)
  unfolding IsValue
  stepped_claim t op place x_place = record { by = λ v. stepped_form k h t op place v (x_place.by v.0) }

  pub zerox_claim : (t : Ty) (place : TPlace) → PlaceClaim k h place → ExprClaim k h (form.zerox t place)
  unfolding IsValue
  zerox_claim t place x_place = record { by = λ v. zerox_form k h t place v (x_place.by v.0) }

  pub tuple_claim : (t : Ty) (shape : _) (parts : Row_of-TExpr _) → RowClaim k h parts → ExprClaim k h (Tuple' t shape parts)
  unfolding IsValue
  tuple_claim t shape parts x_parts = record { by = λ v. tuple_form k h t shape parts v (x_parts.values v.1.0 (tuple_types k h t shape parts v)) }

  pub call_claim : (t : Ty) (n : ℕ) (receiver : Held-TExpr-Call-2) (shape : _) (arguments : Row_of-TExpr _) → ObjectClaim k h receiver → RowClaim k h arguments → ExprClaim k h (Call' t n receiver shape arguments)
  unfolding IsValue
  call_claim t n receiver shape arguments x_receiver x_arguments = record { by = λ v. call_form k h t n receiver v.0 (row_types arguments) (row (spot k) arguments) (told_all arguments k.ways) v.1.1.1 (x_receiver.by v.0 v.1.0 (parts_front v.0 (row_types arguments) (call_types k h t n (v.0 ++ row_types arguments) v.1.1.1))) (x_arguments.values v.1.1.0 (parts_back v.0 (row_types arguments) (call_types k h t n (v.0 ++ row_types arguments) v.1.1.1))) }

  pub call_pointer_claim : (t : Ty) (pointer : TExpr) (shape : _) (arguments : Row_of-TExpr _) → ExprClaim k h pointer → RowClaim k h arguments → ExprClaim k h (CallPointer' t tt (more_of-TExpr pointer end_of-TExpr) shape arguments)
  unfolding IsValue
  call_pointer_claim t pointer shape arguments x_pointer x_arguments = record { by = λ v. call_pointer_form k h t pointer (row_types arguments) (row (spot k) arguments) (told_all arguments k.ways) v.0 v.1.1 (x_pointer.by v.0) (x_arguments.values v.1.0 (pointer_types k h t pointer (row_types arguments) v.0 v.1.1).parts) }

  pub print_claim : (t : Ty) (format : List PrintPiece) (shape : _) (arguments : Row_of-TExpr _) → RowClaim k h arguments → ExprClaim k h (Print' t format shape arguments)
  unfolding IsValue
  print_claim t format shape arguments x_arguments = record { by = λ v. print_form k h t format arguments v.0 v.1.1 (x_arguments.each v.1.0 (printed_parts format (row_types arguments) v.1.1)) }

  pub terminate_claim : (t : Ty) (status : TExpr) → ExprClaim k h status → ExprClaim k h (form.terminate t status)
  unfolding IsValue
  terminate_claim t status x_status = record { by = λ v. terminate_form k h t status v (x_status.by v.1.0) }

  pub receive_claim : (t : Ty) (chan : TExpr) → ExprClaim k h chan → ExprClaim k h (form.receive t chan)
  unfolding IsValue
  receive_claim t chan x_chan = record { by = λ v. receive_form k h t chan v (x_chan.by v.0) }

  pub send_claim : (t : Ty) (chan given : TExpr) → ExprClaim k h chan → ExprClaim k h given → ExprClaim k h (form.send t chan given)
  unfolding IsValue
  send_claim t chan given x_chan x_given = record { by = λ v. send_form k h t chan given v (x_chan.by v.1.0) (x_given.by v.1.1.0) }

  pub can_receive_claim : (t : Ty) (chan : TExpr) → ExprClaim k h chan → ExprClaim k h (form.can_receive t chan)
  unfolding IsValue
  can_receive_claim t chan x_chan = record { by = λ v. can_receive_form k h t chan v (x_chan.by v.1.0) }

  pub can_send_claim : (t : Ty) (chan : TExpr) → ExprClaim k h chan → ExprClaim k h (form.can_send t chan)
  unfolding IsValue
  can_send_claim t chan x_chan = record { by = λ v. can_send_form k h t chan v (x_chan.by v.1.0) }

  pub member_claim : (t : Ty) (whole : TExpr) (path : List ℕ) → ExprClaim k h whole → ExprClaim k h (form.member_of t whole path)
  unfolding IsValue
  member_claim t whole path x_whole = record { by = λ v. member_form k h t whole path v (x_whole.by v.0) }

  pub cast_claim : (t : Ty) (of : TExpr) → ExprClaim k h of → ExprClaim k h (form.cast t of)
  unfolding IsValue
  cast_claim t of x_of = record { by = λ v. cast_form k h t of v (x_of.by v.1.0) }

  pub convert_claim : (t : Ty) (of : TExpr) → ExprClaim k h of → ExprClaim k h (form.convert t of)
  unfolding IsValue
  convert_claim t of x_of = record { by = λ v. convert_form k h t of v (x_of.by v.1.0) }

  pub sequence_claim : (t : Ty) (shape : _) (first : Row_of-TExpr _) (last : TExpr) → RowClaim k h first → ExprClaim k h last → ExprClaim k h (Sequence' t shape first tt (more_of-TExpr last end_of-TExpr))
  unfolding IsValue
  sequence_claim t shape first last x_first x_last = record { by = λ v. sequence_does k t (row (spot k) first) (coded (spot k) last) (x_first.effects v.0) (of_type k h (type_of last) t v.1.1 (x_last.by v.1.0)) }

  pub iterator_claim : (t : Ty) (n : ℕ) → ExprClaim k h (Iterator t n)
  unfolding IsValue
  iterator_claim t n = record { by = λ v. iterator_form k h t n v }

  pub local_claim : (t : Ty) (n : ℕ) → PlaceClaim k h (Local t n)
  unfolding IsPlace
  local_claim t n = record { by = λ v. local_place k h t n v.0 (ap (λ o. slice_get (locals_of o) n) h.there ∙ v.1.0) v.1.1; any = λ v a u. shared_place k h u n a.0 (ap (λ o. slice_get (locals_of o) n) h.there ∙ a.1.0) a.1.1 }

  pub outer_claim : (t : Ty) (around n : ℕ) → PlaceClaim k h (Outer t around n)
  unfolding IsPlace
  outer_claim t around n = record { by = λ v. outer_does k t around n (subst (λ o. around < length (round_of o)) (sym h.there) (slice_get_within h.function.around around v.outer v.is_round)); any = λ v a u. outer_does k u around n (subst (λ o. around < length (round_of o)) (sym h.there) (slice_get_within h.function.around around v.outer v.is_round)) }

  pub global_claim : (t : Ty) (n : ℕ) → PlaceClaim k h (Global t n)
  unfolding IsPlace
  global_claim t n = record { by = λ v. global_at k h t n v.0 v.1.0 v.1.1; any = λ v a u. shared_global k h u n a.0 a.1.0 a.1.1 }

  pub pointed_claim : (t : Ty) (pointer : TExpr) → ExprClaim k h pointer → PlaceClaim k h (form.pointed t pointer)
  unfolding IsPlace
  pointed_claim t pointer x_pointer = record { by = λ v. pointed_does k t 0 (word_of k (type_of pointer) (pointer_is k h (type_of pointer) t v.1)) (x_pointer.by v.0); any = λ v a u. pointed_does k u 0 (word_of k (type_of pointer) (pointer_is k h (type_of pointer) t v.1)) (x_pointer.by v.0) }

  pub element_claim : (t : Ty) (base index : TExpr) → ExprClaim k h base → ExprClaim k h index → PlaceClaim k h (form.element t base index)
  unfolding IsPlace
  element_claim t base index x_base x_index = record { by = λ v. element_does k (size_in k.ways.program t) (word_of k (type_of base) (pointer_is k h (type_of base) t v.1.1.0)) (word_of k (type_of index) (int_is k h (type_of index) v.1.1.1.1)) (λ bits e. (single k.ways.program (type_of index) (int_is k h (type_of index) v.1.1.1.1)).number bits) (x_base.by v.1.0) (x_index.by v.1.1.1.0) t; any = λ v a u. element_does k (size_in k.ways.program t) (word_of k (type_of base) (pointer_is k h (type_of base) t v.1.1.0)) (word_of k (type_of index) (int_is k h (type_of index) v.1.1.1.1)) (λ bits e. (single k.ways.program (type_of index) (int_is k h (type_of index) v.1.1.1.1)).number bits) (x_base.by v.1.0) (x_index.by v.1.1.1.0) u }

  pub member_in_claim : (t : Ty) (of : TPlace) (path : List ℕ) → PlaceClaim k h of → PlaceClaim k h (form.member_in t of path)
  unfolding IsPlace
  member_in_claim t of path x_of = record { by = λ v. member_does k t (array k h) (path_offset k.ways.program (place_type of) path) (placed (spot k) of) (has_addresses k h) (x_of.any v.0 (has_address k h of v.0 v.1.0) (array k h)); any = λ v a u. member_does k u (array k h) (path_offset k.ways.program (place_type of) path) (placed (spot k) of) (has_addresses k h) (x_of.any v.0 (has_address k h of v.0 v.1.0) (array k h)) }

  pub pointed_member_claim : (t : Ty) (pointer : TExpr) (path : List ℕ) → ExprClaim k h pointer → PlaceClaim k h (form.pointed_member t pointer path)
  unfolding IsPlace
  pointed_member_claim t pointer path x_pointer = record { by = λ v. pointed_does k t (path_offset k.ways.program (pointee (type_of pointer)) path) (word_of k (type_of pointer) (pointer_is k h (type_of pointer) v.0 v.1.1.0)) (x_pointer.by v.1.0); any = λ v a u. pointed_does k u (path_offset k.ways.program (pointee (type_of pointer)) path) (word_of k (type_of pointer) (pointer_is k h (type_of pointer) v.0 v.1.1.0)) (x_pointer.by v.1.0) }

  pub into_claim : (place : TPlace) → PlaceClaim k h place → TargetClaim k h (form.into place)
  unfolding IsValue IsTarget
  into_claim place x = record { by = λ v p. single_aims k (plain_globals k h) (place_type place) (placed (spot k) place) p.not_array (x.by v); assigns = λ t given v hv. assign_form k h t place given v (x.by v.1.0) hv }

  pub dropped_claim : (t : Ty) → TargetClaim k h (Dropped t)
  unfolding IsTarget
  dropped_claim t = record { by = λ v p. dropped_aims k t v.1; assigns = λ u given v hv. drop_form k h u t given v hv }

  pub parts_claim : (t : Ty) (shape : _) (parts : Row_of-TTarget _) → TargetsClaim k h parts → TargetClaim k h (Parts' t shape parts)
  unfolding IsValue IsTarget
  parts_claim t shape parts x = record {
    by = λ v p. x.by v.1.0 (tuple_parts k.ways.program (target_types parts) (subst (λ q. is_sound k.ways.program.aggregates q ≡ true) v.1.1 v.0));
    assigns = λ u given v hv. parts_form k h u t shape parts given v (x.by v.1.0.1.0 (tuple_parts k.ways.program (target_types parts) (subst (λ q. is_sound k.ways.program.aggregates q ≡ true) v.1.0.1.1 v.1.0.0))) hv;
  }

  pub no_targets_claim : TargetsClaim k h end_of-TTarget
  no_targets_claim = record { by = λ v p. nothing_aims k }

  pub more_targets_claim : {m : _} (target : TTarget) (rest : Row_of-TTarget m) → TargetClaim k h target → TargetsClaim k h rest → TargetsClaim k h (more_of-TTarget target rest)
  unfolding AreTargets
  more_targets_claim target rest x y = record {
    by = λ v p.
        let count = words_are k.ways.program (target_type target) p.0.not_array ∙ same_lengths (units_in k.ways.program (target_type target)) (flat_map (units_in k.ways.program) (leaves_of target)) (target_sizes k.ways.program (scope_of k h) target v.0) in
        more_aims k (leaves_of target) (leaves_of_all rest) (count_of k (target_type target)) (aimed (spot k) target) (aimed_row (spot k) rest) count (x.by v.0 p.0) (y.by v.1 p.1);
  }

  pub no_object_claim : ObjectClaim k h None'
  unfolding IsGiven
  no_object_claim = record { by = λ given v p. subst (λ g. GivenDoes k (give []) g no_object) (sym v) (record { rows = no_values_do k; words = refl }) }

  pub some_object_claim : (receiver : TReceiver) → ReceiverClaim k h receiver → ObjectClaim k h (Some' tt (more_of-TReceiver receiver end_of-TReceiver))
  unfolding IsGiven
  some_object_claim receiver x = record { by = λ given v p. x.by given v p }

  pub place_before_claim : (place : TPlace) (path : List ℕ) (how : Passed) → PlaceClaim k h place → ReceiverClaim k h (form.place_before place path how)
  unfolding Gives
  place_before_claim place path how x = record { by = λ given v p. place_object k h place path how given v (x.any v.1.0 (has_address k h place v.1.0 v.1.1.0) (array k h)) p }

  -- the value before a function's name is one
  before_value : (value : TExpr) (path : List ℕ) (how : Passed) (given : List Ty) → Gives (scope_of k h) (form.value_before value path how) given → IsValue (scope_of k h) value
  unfolding Gives
  before_value value path passed.Address given v = elim v [ ]
  before_value value path passed.Value given v = v.1.0
  before_value value path passed.Nothing given v = v.1.0

  pub value_before_claim : (whole : TExpr) (path : List ℕ) (how : Passed) → ExprClaim k h whole → ReceiverClaim k h (form.value_before whole path how)
  value_before_claim whole path how x = record { by = λ given v p. value_object k h whole path how given v (x.by (before_value whole path how given v)) p }

  pub pointer_before_claim : (pointer : TExpr) (path : List ℕ) (how : Passed) → ExprClaim k h pointer → ReceiverClaim k h (form.pointer_before pointer path how)
  unfolding Gives
  pointer_before_claim pointer path how x = record { by = λ given v p. pointer_object k h pointer path how given v (x.by v.1.1.0) p }

  pub no_row_claim : RowClaim k h end_of-TExpr
  no_row_claim = record { values = λ v p. no_values_do k; each = λ v p. no_each_do k; effects = λ v. no_effects_do k }

  pub more_row_claim : {m : _} (e : TExpr) (rest : Row_of-TExpr m) → ExprClaim k h e → RowClaim k h rest → RowClaim k h (more_of-TExpr e rest)
  unfolding AreValues
  more_row_claim e rest x y = record {
    values = λ v p. more_values_do k (row (spot k) rest) p.0.not_void p.0.not_array (x.by v.0) (y.values v.1 p.1);
    each = λ v p. more_each_do k (row (spot k) rest) p.0.not_void p.0.not_array (x.by v.0) (y.each v.1 p.1);
    effects = λ v. more_effects_do k (row (spot k) rest) (x.by v.0) (y.effects v.1);
  }
