-- Each form of expression in the premises' terms.
use Rattle.std.proofs.Common.{◌≡◌, ℕ, List, [], ◌∷◌, ◌++◌, map, Option, None, refl, sym, ap, ◌∙◌, subst, arith}
use Rattle.std.specs.Prelude.{Bool, true, false}
use Rattle.al_base.specs.declared.arith.Kind.{Kind}
use Rattle.al_base.specs.declared.arith.Kind.TheVariants as kind
use Rattle.al_typed.specs.declared.expression.UnaryOp.{UnaryOp}
use Rattle.al_typed.specs.declared.expression.BinaryOp.{BinaryOp}
use Rattle.al_typed.specs.declared.expression.Change.{Change}
use Rattle.al_typed.specs.declared.expression.StepOp.{StepOp}
use Rattle.al_typed.specs.declared.expression.Logic.{Logic}
use Rattle.al_typed.specs.declared.expression.Movement.{Movement}
use Rattle.al_typed.specs.declared.ty.Ty.{Ty}
use Rattle.al_typed.specs.declared.ty.Ty.TheVariants as ty
use Rattle.al_typed.specs.declared.expression.Change.TheVariants as change
use Rattle.al_typed.specs.declared.expression.Logic.TheVariants as logic
use Rattle.al_typed.specs.declared.expression.Movement.TheVariants as movement
use Rattle.al_typed.specs.declared.expression.PrintPiece.{PrintPiece}
use Rattle.al_typed.specs.declared.expression.TExpr.{TExpr, Constant, Text, Nil, Function, SizeofType, Tuple', Iterator, Held-TExpr-Call-2, Row_of-TExpr, Row_of-TTarget, end_of-TTarget, more_of-TTarget}
use Rattle.al_typed.specs.declared.expression.TPlace.{TPlace}
use Rattle.al_typed.specs.declared.expression.TTarget.{Dropped, Parts'}
use Rattle.al_typed.specs.ExpressionForms as form
use Rattle.al_typed.specs.Types.{int, is_void, is_array, points_to_complete}
use Rattle.al_typed.specs.Typed.{type_of, place_type, row_types, function_type, parameter_types}
use Rattle.al_typed.specs.WellTyped.{names_in, Takes, Prints, IsValue, is_sound, is_word}
use Rattle.al_meaning.specs.Places.{text_place, function_address}
use Rattle.al_meaning.specs.Here.{size_in, pointee}
use Rattle.al_meaning.specs.Items.{Found}
use Rattle.al_meaning.specs.Parts.{exprs}
use Rattle.al_meaning.specs.Evaluate.{goes_back, leaves_of_all}
use Rattle.al_meaning.specs.Tasks.{Task}
use Rattle.al_meaning.specs.Told.{value, told, told_all, told_object, told_receiver, drop_all, found}
use Rattle.al_meaning.specs.Told as meaning
use Rattle.al_lower_code.specs.Classes.{class_number}
use Rattle.al_lower_code.specs.Coded.{Coded, Placed, Row}
use Rattle.al_lower_code.specs.Actions.{call_coded, no_aimed, assign_coded, print_coded, call_pointer_coded}
use Rattle.al_lower_code.specs.Expressions.{coded, placed, aimed, aimed_row, object, row}
use Rattle.al_lower_claims.proofs.Claims.{Setting, spot, UnitsOf, PlacedDoes, CodedDoes}
use Rattle.al_lower_values.proofs.Binary.{binary_does}
use Rattle.al_lower_values.proofs.Loads.{load_does, address_does, iterator_does}
use Rattle.al_lower_values.proofs.Logic.{and_does, or_does}
use Rattle.al_lower_values.proofs.Pairs.{advance_coded_does, difference_does}
use Rattle.al_lower_values.proofs.Rows.{RowDoes, tuple_does}
use Rattle.al_lower_values.proofs.Calls.{call_means, call_does}
use Rattle.al_lower_actions.proofs.Assigning.{assign_means, assign_does}
use Rattle.al_lower_actions.proofs.Channels.{receive_does, can_receive_does, can_send_does}
use Rattle.al_lower_actions.proofs.Sending.{send_does, terminates}
use Rattle.al_lower_integers.proofs.Constants.{known_integer, integer_does}
use Rattle.al_lower_integers.proofs.Negations.{negation_does}
use Rattle.al_lower_integers.proofs.Movements.{count_first_does}
use Rattle.al_lower_conversions.proofs.Parts.{conversion_does}
use Rattle.al_lower_conversions.proofs.Unary.{unary_does}
use Rattle.al_lower_conversions.proofs.Words.{single}
use Rattle.al_lower_constants.proofs.Folding.{folded_does}
use Rattle.al_lower_print.proofs.Printing.{EachDoes, print_means, prints_do}
use Rattle.al_lower_changes.proofs.Changing.{ChangeDoes, integer_changes, pointer_changes}
use Rattle.al_lower_changes.proofs.Updating.{update_does}
use Rattle.al_lower_changes.proofs.Stepped.{stepped_does}
use Rattle.al_lower_changes.proofs.Cleared.{zerox_does}
use Rattle.al_lower_targets.proofs.Targets.{AimedDoes, dropped_aims, assign_parts_does}
use Rattle.al_lower_pointers.proofs.Alike.{alike_void, alike_array, alike_returns, each_parameter, same_calls}
use Rattle.al_lower_pointers.proofs.Calls.{call_pointer_means, call_pointer_does}
use Rattle.al_lower_members.proofs.Extracting.{member_of_does}
use Rattle.al_lower_expressions.proofs.Types.{both_hold, IsPart, AreParts, whole_part, given_or_void, word_of, int_word, pointer_word, channel_word, test_of, complete_pointer, pointee_is, void_words, void_is, array_is, leads_part}
use Rattle.al_lower_expressions.proofs.Like.{IsLike, IsFunctionLike, alike_part, alike_word, pointed_like, function_like, carried}
use Rattle.al_lower_expressions.proofs.Premises.{Premises, scope_of, plain_globals, array_addresses}
use Rattle.al_lower_expressions.proofs.Signatures.{tuple_parts, given_parts, parameters_given, returned_void_or_whole}
use Rattle.al_lower_expressions.proofs.Sound.{value_like}
use Rattle.al_lower_expressions.proofs.Truths.{truth_short, assigned_as}
use Rattle.al_lower_expressions.proofs.Rows.{tuple_part, tuple_of_parts, target_to_parts, types_of_exprs, size_word}
use Rattle.al_lower_expressions.proofs.Forms.{GivenDoes, array, has_addresses, word_constant, steps_of}

module _ (k : Setting) (h : Premises k) where
  abbrev pub Word : Ty → Type 0
  Word t = is_word t ≡ true

  pub int_is : (t : Ty) → t ≡ int → Word t
  int_is t e = subst Word (sym e) int_word

  pub pointer_is : (t to : Ty) → t ≡ ty.Pointer to → Word t
  pointer_is t to e = subst Word (sym e) (pointer_word to)

  pub channel_is : (t element : Ty) (n : ℕ) → t ≡ ty.Chan element n → Word t
  channel_is t element n e = subst Word (sym e) (channel_word element n)

  pub complete_is : (t : Ty) → points_to_complete k.ways.program.aggregates t ≡ true → Word t
  complete_is t e = let q = complete_pointer k.ways.program.aggregates t e in pointer_is t q.to q.is

  pub of_type : {m : Task (Option (List ℕ))} {c : Coded} (u t : Ty) → u ≡ t → CodedDoes k m u c → CodedDoes k m t c
  of_type {m} {c} u t e = subst (λ q. CodedDoes k m q c) e

  pub at_type : {m : Task Found} {pl : Placed} (u t : Ty) → u ≡ t → PlacedDoes k m u pl → PlacedDoes k m t pl
  at_type {m} {pl} u t e = subst (λ q. PlacedDoes k m q pl) e

  -- a tuple of targets is no single place
  not_single : {m : _} (parts : Row_of-TTarget m) → (aimed_row (spot k) parts).single ≡ None
  not_single end_of-TTarget = refl
  not_single (more_of-TTarget target rest) = refl

  pub constant_form : (t : Ty) (n : ℕ) → IsValue (scope_of k h) (Constant t n) → CodedDoes k (told (Constant t n) k.ways) (type_of (Constant t n)) (coded (spot k) (Constant t n))
  unfolding IsValue
  constant_form t n v = integer_does k t v.0 n v.1.0 (known_integer k t v.0 n v.1.0 v.1.1 (λ env s next. refl))

  pub text_form : (t : Ty) (n : ℕ) → IsValue (scope_of k h) (Text t n) → CodedDoes k (told (Text t n) k.ways) (type_of (Text t n)) (coded (spot k) (Text t n))
  unfolding IsValue
  text_form t n v = word_constant k h t (text_place k.ways.program n) (pointer_is t (ty.Integer kind.Byte) v.0) (h.texts n v.1)

  pub nil_form : (t : Ty) → IsValue (scope_of k h) (Nil t) → CodedDoes k (told (Nil t) k.ways) (type_of (Nil t)) (coded (spot k) (Nil t))
  unfolding IsValue
  nil_form t v = word_constant k h t 0 (pointer_is t ty.Void v) (omega arith)

  pub function_form : (t : Ty) (n : ℕ) → IsValue (scope_of k h) (Function t n) → CodedDoes k (told (Function t n) k.ways) (type_of (Function t n)) (coded (spot k) (Function t n))
  unfolding IsValue
  function_form t n v = word_constant k h t (function_address n) (alike_word t (function_type v.0) v.1.1) (h.functions n v.0 v.1.0.0)

  pub load_form : (t : Ty) (place : TPlace) → IsValue (scope_of k h) (form.load t place) → PlacedDoes k (found place k.ways) (place_type place) (placed (spot k) place) → CodedDoes k (told (form.load t place) k.ways) (type_of (form.load t place)) (coded (spot k) (form.load t place))
  unfolding IsValue
  load_form t place v hp =
      let p = whole_part k.ways.program.aggregates t v.1.1 in
      load_does k t (placed (spot k) place) (plain_globals k h) p.not_void p.not_array (at_type (place_type place) t v.1.0 hp)

  pub decay_form : (t : Ty) (place : TPlace) → IsValue (scope_of k h) (form.decay t place) → PlacedDoes k (found place k.ways) (place_type place) (placed (spot k) place) → CodedDoes k (told (form.decay t place) k.ways) (type_of (form.decay t place)) (coded (spot k) (form.decay t place))
  unfolding IsValue
  decay_form t place v hp =
      address_does k t (place_type place) (placed (spot k) place) (word_of k t (pointer_is t v.1.0 v.1.1.1)) (array_addresses k h (place_type place) (subst (λ q. is_array q ≡ true) (sym v.1.1.0.1) (array_is v.1.0 v.1.1.0.0))) hp

  pub address_form : (t : Ty) (place : TPlace) → IsValue (scope_of k h) (form.address t place) → PlacedDoes k (found place k.ways) (array k h) (placed (spot k) place) → CodedDoes k (told (form.address t place) k.ways) (type_of (form.address t place)) (coded (spot k) (form.address t place))
  unfolding IsValue
  address_form t place v hp =
      address_does k t (array k h) (placed (spot k) place) (word_of k t (pointer_is t (place_type place) v.1.1)) (has_addresses k h) hp

  pub size_form : (t of : Ty) → IsValue (scope_of k h) (SizeofType t of) → CodedDoes k (told (SizeofType t of) k.ways) (type_of (SizeofType t of)) (coded (spot k) (SizeofType t of))
  unfolding IsValue
  size_form t of v = word_constant k h t (size_in k.ways.program of) (int_is t v.0) (size_word k.ways.program.aggregates of (both_hold _ _ v.1).0)

  pub place_size_form : (t : Ty) (place : TPlace) → IsValue (scope_of k h) (form.sizeof_place t place) → CodedDoes k (told (form.sizeof_place t place) k.ways) (type_of (form.sizeof_place t place)) (coded (spot k) (form.sizeof_place t place))
  unfolding IsValue
  place_size_form t place v = word_constant k h t (size_in k.ways.program (place_type place)) (int_is t v.0) (size_word k.ways.program.aggregates (place_type place) (both_hold _ _ v.1.1).0)

  pub value_size_form : (t : Ty) (of : TExpr) → IsValue (scope_of k h) (form.sizeof_value t of) → CodedDoes k (told (form.sizeof_value t of) k.ways) (type_of (form.sizeof_value t of)) (coded (spot k) (form.sizeof_value t of))
  unfolding IsValue
  value_size_form t of v = word_constant k h t (size_in k.ways.program (type_of of)) (int_is t v.0) (size_word k.ways.program.aggregates (type_of of) (both_hold _ _ v.1.1).0)

  pub unary_form : (t : Ty) (op : UnaryOp) (of : TExpr) → IsValue (scope_of k h) (form.unary t op of) → CodedDoes k (told of k.ways) (type_of of) (coded (spot k) of) → CodedDoes k (told (form.unary t op of) k.ways) (type_of (form.unary t op of)) (coded (spot k) (form.unary t op of))
  unfolding IsValue
  unary_form t op of v ho = folded_does k (scope_of k h) (form.unary t op of) v (unary_does k t op v.0 (of_type (type_of of) t v.1.1 ho))

  pub negation_form : (t : Ty) (of : TExpr) → IsValue (scope_of k h) (form.negation t of) → CodedDoes k (told of k.ways) (type_of of) (coded (spot k) of) → CodedDoes k (told (form.negation t of) k.ways) (type_of (form.negation t of)) (coded (spot k) (form.negation t of))
  unfolding IsValue
  negation_form t of v ho = folded_does k (scope_of k h) (form.negation t of) v (negation_does k t (word_of k t (int_is t v.0)) (test_of k (type_of of) v.1.1) ho)

  pub binary_form : (t : Ty) (op : BinaryOp) (j : Kind) (left right : TExpr) → IsValue (scope_of k h) (form.binary t op j left right) → CodedDoes k (told left k.ways) (type_of left) (coded (spot k) left) → CodedDoes k (told right k.ways) (type_of right) (coded (spot k) right) → CodedDoes k (told (form.binary t op j left right) k.ways) (type_of (form.binary t op j left right)) (coded (spot k) (form.binary t op j left right))
  unfolding IsValue
  binary_form t op j left right v hl hr =
      folded_does k (scope_of k h) (form.binary t op j left right) v (binary_does k t (type_of left) (type_of right) op j v.1.0 v.1.1.1.0 v.1.1.1.1.1 v.0 hl hr)

  pub and_form : (t : Ty) (left right : TExpr) → IsValue (scope_of k h) (form.logical t logic.And left right) → CodedDoes k (told left k.ways) (type_of left) (coded (spot k) left) → CodedDoes k (told right k.ways) (type_of right) (coded (spot k) right) → CodedDoes k (told (form.logical t logic.And left right) k.ways) (type_of (form.logical t logic.And left right)) (coded (spot k) (form.logical t logic.And left right))
  unfolding IsValue
  and_form t left right v hl hr =
      folded_does k (scope_of k h) (form.logical t logic.And left right) v (and_does k (word_of k t (int_is t v.0)) (test_of k (type_of left) v.1.1.0) (test_of k (type_of right) v.1.1.1.1) (λ q. (truth_short k h right v.1.1.1.0 q).one) hl hr)

  pub or_form : (t : Ty) (left right : TExpr) → IsValue (scope_of k h) (form.logical t logic.Or left right) → CodedDoes k (told left k.ways) (type_of left) (coded (spot k) left) → CodedDoes k (told right k.ways) (type_of right) (coded (spot k) right) → CodedDoes k (told (form.logical t logic.Or left right) k.ways) (type_of (form.logical t logic.Or left right)) (coded (spot k) (form.logical t logic.Or left right))
  unfolding IsValue
  or_form t left right v hl hr =
      folded_does k (scope_of k h) (form.logical t logic.Or left right) v (or_does k (word_of k t (int_is t v.0)) (test_of k (type_of left) v.1.1.0) (test_of k (type_of right) v.1.1.1.1) (λ q. (truth_short k h right v.1.1.1.0 q).one) hl hr)

  pub logical_form : (t : Ty) (op : Logic) (left right : TExpr) → IsValue (scope_of k h) (form.logical t op left right) → CodedDoes k (told left k.ways) (type_of left) (coded (spot k) left) → CodedDoes k (told right k.ways) (type_of right) (coded (spot k) right) → CodedDoes k (told (form.logical t op left right) k.ways) t (coded (spot k) (form.logical t op left right))
  logical_form t logic.And left right v hl hr = and_form t left right v hl hr
  logical_form t logic.Or left right v hl hr = or_form t left right v hl hr

  pub forward_form : (t : Ty) (pointer count : TExpr) → IsValue (scope_of k h) (form.movement t movement.Forward pointer count) → CodedDoes k (told pointer k.ways) (type_of pointer) (coded (spot k) pointer) → CodedDoes k (told count k.ways) (type_of count) (coded (spot k) count) → CodedDoes k (told (form.movement t movement.Forward pointer count) k.ways) (type_of (form.movement t movement.Forward pointer count)) (coded (spot k) (form.movement t movement.Forward pointer count))
  unfolding IsValue
  forward_form t pointer count v hp hc =
      let tw = complete_is t v.0 in
      let cw = int_is (type_of count) v.1.1.1.1 in
      advance_coded_does k (word_of k t tw) (word_of k (type_of pointer) (subst Word (sym v.1.1.0) tw)) (word_of k (type_of count) cw) hp hc false (size_in k.ways.program (pointee t)) (λ bits e. (single k.ways.program (type_of count) cw).number bits)

  pub back_form : (t : Ty) (pointer count : TExpr) → IsValue (scope_of k h) (form.movement t movement.Back pointer count) → CodedDoes k (told pointer k.ways) (type_of pointer) (coded (spot k) pointer) → CodedDoes k (told count k.ways) (type_of count) (coded (spot k) count) → CodedDoes k (told (form.movement t movement.Back pointer count) k.ways) (type_of (form.movement t movement.Back pointer count)) (coded (spot k) (form.movement t movement.Back pointer count))
  unfolding IsValue
  back_form t pointer count v hp hc =
      let tw = complete_is t v.0 in
      let cw = int_is (type_of count) v.1.1.1.1 in
      advance_coded_does k (word_of k t tw) (word_of k (type_of pointer) (subst Word (sym v.1.1.0) tw)) (word_of k (type_of count) cw) hp hc true (size_in k.ways.program (pointee t)) (λ bits e. (single k.ways.program (type_of count) cw).number bits)

  pub count_first_form : (t : Ty) (pointer count : TExpr) → IsValue (scope_of k h) (form.movement t movement.CountFirst pointer count) → CodedDoes k (told pointer k.ways) (type_of pointer) (coded (spot k) pointer) → CodedDoes k (told count k.ways) (type_of count) (coded (spot k) count) → CodedDoes k (told (form.movement t movement.CountFirst pointer count) k.ways) (type_of (form.movement t movement.CountFirst pointer count)) (coded (spot k) (form.movement t movement.CountFirst pointer count))
  unfolding IsValue
  count_first_form t pointer count v hp hc =
      let tw = complete_is t v.0 in
      let cw = int_is (type_of count) v.1.1.1.1 in
      count_first_does k (size_in k.ways.program (pointee t)) (word_of k t tw) (word_of k (type_of count) cw) (word_of k (type_of pointer) (subst Word (sym v.1.1.0) tw)) (λ bits e. (single k.ways.program (type_of count) cw).number bits) hc hp

  pub movement_form : (t : Ty) (how : Movement) (pointer count : TExpr) → IsValue (scope_of k h) (form.movement t how pointer count) → CodedDoes k (told pointer k.ways) (type_of pointer) (coded (spot k) pointer) → CodedDoes k (told count k.ways) (type_of count) (coded (spot k) count) → CodedDoes k (told (form.movement t how pointer count) k.ways) t (coded (spot k) (form.movement t how pointer count))
  movement_form t movement.Forward pointer count v hp hc = forward_form t pointer count v hp hc
  movement_form t movement.CountFirst pointer count v hp hc = count_first_form t pointer count v hp hc
  movement_form t movement.Back pointer count v hp hc = back_form t pointer count v hp hc

  pub difference_form : (t : Ty) (left right : TExpr) → IsValue (scope_of k h) (form.difference t left right) → CodedDoes k (told left k.ways) (type_of left) (coded (spot k) left) → CodedDoes k (told right k.ways) (type_of right) (coded (spot k) right) → CodedDoes k (told (form.difference t left right) k.ways) (type_of (form.difference t left right)) (coded (spot k) (form.difference t left right))
  unfolding IsValue
  difference_form t left right v hl hr =
      let lw = complete_is (type_of left) v.1.0 in
      difference_does k (word_of k t (int_is t v.0)) (word_of k (type_of left) lw) (word_of k (type_of right) (subst Word (sym v.1.1.1.1) lw)) hl hr (size_in k.ways.program (pointee (type_of left)))

  pub assign_form : (t : Ty) (place : TPlace) (value : TExpr) → IsValue (scope_of k h) (form.assign t (form.into place) value) → PlacedDoes k (found place k.ways) (place_type place) (placed (spot k) place) → CodedDoes k (told value k.ways) (type_of value) (coded (spot k) value) → CodedDoes k (told (form.assign t (form.into place) value) k.ways) (type_of (form.assign t (form.into place) value)) (coded (spot k) (form.assign t (form.into place) value))
  unfolding IsValue
  assign_form t place value v hp hv =
      let p = whole_part k.ways.program.aggregates t v.0 in
      subst (λ q. CodedDoes k (assign_means k (plain_globals k h) (found place k.ways) (told value k.ways) q) t (assign_coded (spot k) t (aimed (spot k) (form.into place)) (coded (spot k) value))) (sym v.1.1.0)
      (assign_does k (plain_globals k h) t (placed (spot k) place) (coded (spot k) value) p.not_void p.not_array (at_type (place_type place) t v.1.1.0 hp) (of_type (type_of value) t v.1.1.1.1 hv))

  pub drop_form : (t u : Ty) (value : TExpr) → IsValue (scope_of k h) (form.assign t (Dropped u) value) → CodedDoes k (told value k.ways) (type_of value) (coded (spot k) value) → CodedDoes k (told (form.assign t (Dropped u) value) k.ways) (type_of (form.assign t (Dropped u) value)) (coded (spot k) (form.assign t (Dropped u) value))
  unfolding IsValue
  drop_form t u value v hv =
      let p = whole_part k.ways.program.aggregates t v.0 in
      assign_parts_does k (plain_globals k h) t (u ∷ []) no_aimed (coded (spot k) value) p.not_void p.not_array (λ w fits. target_to_parts k (scope_of k h) (Dropped u) v.1.0 w (subst (λ q. UnitsOf k q w) (sym v.1.1.0) fits)) (dropped_aims k u v.1.0.1) (of_type (type_of value) t v.1.1.1.1 hv)

  pub parts_form : (t u : Ty) (shape : _) (parts : Row_of-TTarget _) (value : TExpr) → IsValue (scope_of k h) (form.assign t (Parts' u shape parts) value) → AimedDoes k (meaning.aimed_all parts k.ways) (leaves_of_all parts) (aimed_row (spot k) parts) → CodedDoes k (told value k.ways) (type_of value) (coded (spot k) value) → CodedDoes k (told (form.assign t (Parts' u shape parts) value) k.ways) (type_of (form.assign t (Parts' u shape parts) value)) (coded (spot k) (form.assign t (Parts' u shape parts) value))
  unfolding IsValue
  parts_form t u shape parts value v ha hv =
      let p = whole_part k.ways.program.aggregates t v.0 in
      subst (λ o. CodedDoes k (told (form.assign t (Parts' u shape parts) value) k.ways) t (assigned_as k t (aimed_row (spot k) parts) (coded (spot k) value) o)) (sym (not_single parts))
      (assign_parts_does k (plain_globals k h) t (leaves_of_all parts) (aimed_row (spot k) parts) (coded (spot k) value) p.not_void p.not_array (λ w fits. target_to_parts k (scope_of k h) (Parts' u shape parts) v.1.0 w (subst (λ q. UnitsOf k q w) (sym v.1.1.0) fits)) ha (of_type (type_of value) t v.1.1.1.1 hv))

  pub apply_form : (t : Ty) (place : TPlace) (op : BinaryOp) (j : Kind) (value : TExpr) → IsValue (scope_of k h) (form.update t place (change.Apply op j) value) → PlacedDoes k (found place k.ways) (place_type place) (placed (spot k) place) → CodedDoes k (told value k.ways) (type_of value) (coded (spot k) value) → CodedDoes k (told (form.update t place (change.Apply op j) value) k.ways) (type_of (form.update t place (change.Apply op j) value)) (coded (spot k) (form.update t place (change.Apply op j) value))
  unfolding IsValue
  apply_form t place op j value v hp hv =
      update_does k (plain_globals k h) t (placed (spot k) place) (change.Apply op j) (coded (spot k) value) (at_type (place_type place) t v.1.0 hp)
      (subst (λ q. ChangeDoes k (told value k.ways) q (change.Apply op j) (coded (spot k) value)) (sym v.1.1.1.0.1) (integer_changes k op j v.1.1.1.1.1.0 v.1.1.1.1.1.1 (of_type (type_of value) (ty.Integer j) v.1.1.1.1.0 hv) v.1.1.1.0.0))

  pub move_form : (t : Ty) (place : TPlace) (back : Bool) (value : TExpr) → IsValue (scope_of k h) (form.update t place (change.Move back) value) → PlacedDoes k (found place k.ways) (place_type place) (placed (spot k) place) → CodedDoes k (told value k.ways) (type_of value) (coded (spot k) value) → CodedDoes k (told (form.update t place (change.Move back) value) k.ways) (type_of (form.update t place (change.Move back) value)) (coded (spot k) (form.update t place (change.Move back) value))
  unfolding IsValue
  move_form t place back value v hp hv =
      let tw = complete_is t v.1.1.1.0 in
      update_does k (plain_globals k h) t (placed (spot k) place) (change.Move back) (coded (spot k) value) (at_type (place_type place) t v.1.0 hp)
      (pointer_changes k t (word_of k t tw) (single k.ways.program t tw).not_array back (of_type (type_of value) int v.1.1.1.1 hv))

  pub update_form : (t : Ty) (place : TPlace) (how : Change) (value : TExpr) → IsValue (scope_of k h) (form.update t place how value) → PlacedDoes k (found place k.ways) (place_type place) (placed (spot k) place) → CodedDoes k (told value k.ways) (type_of value) (coded (spot k) value) → CodedDoes k (told (form.update t place how value) k.ways) t (coded (spot k) (form.update t place how value))
  update_form t place (change.Apply op j) value v hp hv = apply_form t place op j value v hp hv
  update_form t place (change.Move back) value v hp hv = move_form t place back value v hp hv

  pub stepped_form : (t : Ty) (op : StepOp) (place : TPlace) → IsValue (scope_of k h) (form.stepped t op place) → PlacedDoes k (found place k.ways) (place_type place) (placed (spot k) place) → CodedDoes k (told (form.stepped t op place) k.ways) (type_of (form.stepped t op place)) (coded (spot k) (form.stepped t op place))
  unfolding IsValue
  stepped_form t op place v hp = stepped_does k (plain_globals k h) t op (placed (spot k) place) (at_type (place_type place) t v.1.0 hp) (steps_of k h (goes_back op) t v.1.1)

  pub zerox_form : (t : Ty) (place : TPlace) → IsValue (scope_of k h) (form.zerox t place) → PlacedDoes k (found place k.ways) (place_type place) (placed (spot k) place) → CodedDoes k (told (form.zerox t place) k.ways) (type_of (form.zerox t place)) (coded (spot k) (form.zerox t place))
  unfolding IsValue
  zerox_form t place v hp =
      let p = whole_part k.ways.program.aggregates t v.1.1 in
      zerox_does k (plain_globals k h) t (placed (spot k) place) p.not_void p.not_array (at_type (place_type place) t v.1.0 hp)

  pub tuple_types : (t : Ty) (shape : _) (parts : Row_of-TExpr _) → IsValue (scope_of k h) (Tuple' t shape parts) → AreParts (row_types parts)
  unfolding IsValue
  tuple_types t shape parts v = tuple_parts k.ways.program (row_types parts) (subst (λ q. is_sound k.ways.program.aggregates q ≡ true) v.1.1 v.0)

  pub tuple_form : (t : Ty) (shape : _) (parts : Row_of-TExpr _) → IsValue (scope_of k h) (Tuple' t shape parts) → RowDoes k (told_all parts k.ways) (row_types parts) (row (spot k) parts).keeps (row (spot k) parts).values → CodedDoes k (told (Tuple' t shape parts) k.ways) t (coded (spot k) (Tuple' t shape parts))
  unfolding IsValue
  tuple_form t shape parts v hr =
      let p = subst IsPart (sym v.1.1) (tuple_part (row_types parts)) in
      tuple_does k t (row (spot k) parts) p.not_void p.not_array (tuple_of_parts k t (row_types parts) v.1.1) hr

  pub call_types : (t : Ty) (n : ℕ) (given : List Ty) → Takes (names_in k.ways.program h.function) n given t → AreParts given
  call_types t n given v = each_parameter IsPart alike_part t v.0.returns given (parameter_types v.0) v.1.1 (given_parts k.ways.program (parameter_types v.0) (parameters_given k.ways.program n v.0 (h.well_typed.functions n v.0 v.1.0.0)))

  pub call_form : (t : Ty) (n : ℕ) (receiver : Held-TExpr-Call-2) (given us : List Ty) (r : Row) (mr : Task (List (List ℕ))) → Takes (names_in k.ways.program h.function) n (given ++ us) t → GivenDoes k (told_object receiver k.ways) given (object (spot k) receiver) → RowDoes k mr us r.keeps r.values → CodedDoes k (call_means k (told_object receiver k.ways) mr n) t (call_coded (spot k) t n (object (spot k) receiver) r)
  call_form t n receiver given us r mr v o hr =
      let g = v.0 in
      let e = alike_returns t g.returns (given ++ us) (parameter_types g) v.1.1 in
      let plain = given_or_void k.ways.program.aggregates g.returns (returned_void_or_whole k h n g v.1.0.0) in
      call_does k t n g (object (spot k) receiver) r h.calls v.1.0.0 v.1.0.1 (same_calls k.ways.program t g.returns (given ++ us) (parameter_types g) v.1.1) o.words (void_words k t) (λ nv. alike_array t g.returns e ∙ plain (sym (alike_void t g.returns e) ∙ nv)) o.rows hr

  pub pointer_types : (t : Ty) (pointer : TExpr) (us : List Ty) → IsValue (scope_of k h) pointer → type_of pointer ≡ ty.Pointer (ty.Function t us) → IsFunctionLike k.ways.program.aggregates t us
  pointer_types t pointer us v e = function_like k.ways.program.aggregates t us (pointed_like k.ways.program.aggregates (ty.Function t us) (subst (IsLike k.ways.program.aggregates) e (value_like k h pointer v)))

  pub call_pointer_form : (t : Ty) (pointer : TExpr) (us : List Ty) (r : Row) (mr : Task (List (List ℕ))) → IsValue (scope_of k h) pointer → type_of pointer ≡ ty.Pointer (ty.Function t us) → CodedDoes k (told pointer k.ways) (type_of pointer) (coded (spot k) pointer) → RowDoes k mr us r.keeps r.values → CodedDoes k (call_pointer_means k h.calls h.classes (told pointer k.ways) mr (pointee (type_of pointer))) t (call_pointer_coded (spot k) t (class_number k.ways.program (pointee (type_of pointer))) (coded (spot k) pointer) r)
  call_pointer_form t pointer us r mr v e hp hr =
      let fs = pointer_types t pointer us v e in
      subst (λ q. CodedDoes k (call_pointer_means k h.calls h.classes (told pointer k.ways) mr q) t (call_pointer_coded (spot k) t (class_number k.ways.program q) (coded (spot k) pointer) r)) (sym (ap pointee e ∙ pointee_is (ty.Function t us)))
      (call_pointer_does k h.calls h.classes t (type_of pointer) us (coded (spot k) pointer) r (word_of k (type_of pointer) (pointer_is (type_of pointer) (ty.Function t us) e)) (void_words k t) fs.returns hp hr)

  pub print_form : (t : Ty) (format : List PrintPiece) {m : _} (arguments : Row_of-TExpr m) → t ≡ ty.Void → Prints format (row_types arguments) → EachDoes k (told_all arguments k.ways) (row_types arguments) (row (spot k) arguments).keeps (row (spot k) arguments).values → CodedDoes k (print_means k (told_all arguments k.ways) format (map type_of (exprs arguments))) t (print_coded (spot k) t format (row_types arguments) (row (spot k) arguments))
  print_form t format arguments e fits hr =
      subst (λ ts. CodedDoes k (print_means k (told_all arguments k.ways) format ts) t (print_coded (spot k) t format (row_types arguments) (row (spot k) arguments))) (types_of_exprs arguments)
      (prints_do k t format (row_types arguments) (row (spot k) arguments) (subst (λ q. is_void q ≡ true) (sym e) void_is) fits hr)

  pub terminate_form : (t : Ty) (status : TExpr) → IsValue (scope_of k h) (form.terminate t status) → CodedDoes k (told status k.ways) (type_of status) (coded (spot k) status) → CodedDoes k (told (form.terminate t status) k.ways) (type_of (form.terminate t status)) (coded (spot k) (form.terminate t status))
  unfolding IsValue
  terminate_form t status v hs = terminates k (word_of k (type_of status) (int_is (type_of status) v.1.1)) hs t

  pub receive_form : (t : Ty) (chan : TExpr) → IsValue (scope_of k h) (form.receive t chan) → CodedDoes k (told chan k.ways) (type_of chan) (coded (spot k) chan) → CodedDoes k (told (form.receive t chan) k.ways) (type_of (form.receive t chan)) (coded (spot k) (form.receive t chan))
  unfolding IsValue
  receive_form t chan v hc =
      let p = (carried k.ways.program.aggregates t v.1.0 (subst (IsLike k.ways.program.aggregates) v.1.1 (value_like k h chan v.0))).part in
      receive_does k (word_of k (type_of chan) (channel_is (type_of chan) t v.1.0 v.1.1)) hc t p.not_void p.not_array

  pub send_form : (t : Ty) (chan value : TExpr) → IsValue (scope_of k h) (form.send t chan value) → CodedDoes k (told chan k.ways) (type_of chan) (coded (spot k) chan) → CodedDoes k (told value k.ways) (type_of value) (coded (spot k) value) → CodedDoes k (told (form.send t chan value) k.ways) (type_of (form.send t chan value)) (coded (spot k) (form.send t chan value))
  unfolding IsValue
  send_form t chan value v hc hv =
      let u = type_of value in
      let p = (carried k.ways.program.aggregates u v.1.1.1.0 (subst (IsLike k.ways.program.aggregates) v.1.1.1.1 (value_like k h chan v.1.0))).part in
      send_does k (word_of k (type_of chan) (channel_is (type_of chan) u v.1.1.1.0 v.1.1.1.1)) hc t u (subst (λ q. is_void q ≡ true) (sym v.0) void_is) p.not_void p.not_array hv

  pub can_receive_form : (t : Ty) (chan : TExpr) → IsValue (scope_of k h) (form.can_receive t chan) → CodedDoes k (told chan k.ways) (type_of chan) (coded (spot k) chan) → CodedDoes k (told (form.can_receive t chan) k.ways) (type_of (form.can_receive t chan)) (coded (spot k) (form.can_receive t chan))
  unfolding IsValue
  can_receive_form t chan v hc = can_receive_does k (word_of k (type_of chan) (channel_is (type_of chan) v.1.1.0 v.1.1.1.0 v.1.1.1.1)) hc t (word_of k t (int_is t v.0))

  pub can_send_form : (t : Ty) (chan : TExpr) → IsValue (scope_of k h) (form.can_send t chan) → CodedDoes k (told chan k.ways) (type_of chan) (coded (spot k) chan) → CodedDoes k (told (form.can_send t chan) k.ways) (type_of (form.can_send t chan)) (coded (spot k) (form.can_send t chan))
  unfolding IsValue
  can_send_form t chan v hc = can_send_does k (word_of k (type_of chan) (channel_is (type_of chan) v.1.1.0 v.1.1.1.0 v.1.1.1.1)) hc t (word_of k t (int_is t v.0))

  pub member_form : (t : Ty) (value : TExpr) (path : List ℕ) → IsValue (scope_of k h) (form.member_of t value path) → CodedDoes k (told value k.ways) (type_of value) (coded (spot k) value) → CodedDoes k (told (form.member_of t value path) k.ways) (type_of (form.member_of t value path)) (coded (spot k) (form.member_of t value path))
  unfolding IsValue
  member_form t value path v hv =
      let p = whole_part k.ways.program.aggregates t v.1.1 in
      let w = leads_part k.ways.program.aggregates path (type_of value) t v.1.0 p in
      member_of_does k h.well_typed.laid_out (type_of value) t path v.1.0 w.not_void w.not_array p.not_void p.not_array hv

  pub cast_form : (t : Ty) (of : TExpr) → IsValue (scope_of k h) (form.cast t of) → CodedDoes k (told of k.ways) (type_of of) (coded (spot k) of) → CodedDoes k (told (form.cast t of) k.ways) (type_of (form.cast t of)) (coded (spot k) (form.cast t of))
  unfolding IsValue
  cast_form t of v ho = folded_does k (scope_of k h) (form.cast t of) v (conversion_does k (type_of of) t v.1.1 ho)

  pub convert_form : (t : Ty) (of : TExpr) → IsValue (scope_of k h) (form.convert t of) → CodedDoes k (told of k.ways) (type_of of) (coded (spot k) of) → CodedDoes k (told (form.convert t of) k.ways) (type_of (form.convert t of)) (coded (spot k) (form.convert t of))
  unfolding IsValue
  convert_form t of v ho = folded_does k (scope_of k h) (form.convert t of) v (conversion_does k (type_of of) t v.1.1 ho)

  pub iterator_form : (t : Ty) (n : ℕ) → IsValue (scope_of k h) (Iterator t n) → CodedDoes k (told (Iterator t n) k.ways) (type_of (Iterator t n)) (coded (spot k) (Iterator t n))
  unfolding IsValue
  iterator_form t n v = iterator_does k t n (word_of k t (int_is t v.0)) v.1
