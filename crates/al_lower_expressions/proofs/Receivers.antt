-- Objects before the names of functions.
use Rattle.std.proofs.Common.{◌≡◌, ℕ, List, [], ◌∷◌, refl, sym, ap, ◌∙◌, subst}
use Rattle.std.specs.Prelude.{slice_index}
use Rattle.al_typed.specs.declared.ty.Ty.{Ty}
use Rattle.al_typed.specs.declared.ty.Ty.TheVariants as ty
use Rattle.al_typed.specs.declared.expression.Passed.{Passed}
use Rattle.al_typed.specs.declared.expression.Passed.TheVariants as passed
use Rattle.al_typed.specs.declared.expression.TExpr.{TExpr}
use Rattle.al_typed.specs.declared.expression.TPlace.{TPlace}
use Rattle.al_typed.specs.ExpressionForms as form
use Rattle.al_typed.specs.Typed.{type_of, place_type}
use Rattle.al_typed.specs.Layout.{member}
use Rattle.al_typed.specs.WellTyped.{Gives, LeadsTo, passes}
use Rattle.al_meaning.specs.Places.{path_offset}
use Rattle.al_meaning.specs.Here.{pointee, member_type, type_at}
use Rattle.al_meaning.specs.Items.{Address}
use Rattle.al_meaning.specs.Words.{sum}
use Rattle.al_meaning.specs.Told.{value, told, told_receiver, found}
use Rattle.al_lower_words.proofs.Integers.{words_are}
use Rattle.al_lower_code.specs.Values.{member_placed, pointed_placed}
use Rattle.al_lower_code.specs.Actions.{object_at, object_in}
use Rattle.al_lower_code.specs.Expressions.{coded, placed, received_object}
use Rattle.al_lower_claims.proofs.Claims.{Setting, spot, PlacedDoes, CodedDoes}
use Rattle.al_lower_values.proofs.Spots.{pointed_does}
use Rattle.al_lower_actions.proofs.Elements.{member_means, member_does}
use Rattle.al_lower_actions.proofs.Objects.{object_means}
use Rattle.al_lower_members.proofs.Extracting.{object_part_does}
use Rattle.al_lower_expressions.proofs.Types.{AreParts, aggregate_part, word_of, pointee_is, leads_part}
use Rattle.al_lower_expressions.proofs.Premises.{Premises, scope_of}
use Rattle.al_lower_expressions.proofs.Forms.{GivenDoes, array, has_addresses, one_more, object_place, dropped_object}
use Rattle.al_lower_expressions.proofs.Each.{pointer_is}

module _ (k : Setting) (h : Premises k) where
  pub place_object : (place : TPlace) (path : List ℕ) (how : Passed) (given : List Ty) → Gives (scope_of k h) (form.place_before place path how) given → PlacedDoes k (found place k.ways) (array k h) (placed (spot k) place) → AreParts given → GivenDoes k (told_receiver (form.place_before place path how) k.ways) given (received_object (spot k) (form.place_before place path how))
  unfolding Gives
  place_object place path how given v hp p =
      let offset = path_offset k.ways.program (place_type place) path in
      let pl = member_placed offset (placed (spot k) place) in
      let same : member_type k.ways.program (place_type place) path ≡ v.0 = ap type_at v.1.1.1.0.1.0 ∙ v.1.1.1.0.1.1 in
      subst (λ g. GivenDoes k (told_receiver (form.place_before place path how) k.ways) g (received_object (spot k) (form.place_before place path how))) (sym v.1.1.1.1)
      (subst (λ q. GivenDoes k (object_means k (member_means k (found place k.ways) offset) how q) (passes how v.0) (object_at (spot k) how q pl)) (sym same)
      (object_place k h how v.0 pl (member_does k (array k h) (array k h) offset (placed (spot k) place) (has_addresses k h) hp) (subst AreParts v.1.1.1.1 p)))

  value_given : (value : TExpr) (path : List ℕ) (given : List Ty) → Gives (scope_of k h) (form.value_before value path passed.Value) given → CodedDoes k (told value k.ways) (type_of value) (coded (spot k) value) → AreParts given → GivenDoes k (told_receiver (form.value_before value path passed.Value) k.ways) given (received_object (spot k) (form.value_before value path passed.Value))
  unfolding Gives
  value_given value path given v hv p =
      let t = v.0 in
      let q : AreParts (t ∷ []) = subst AreParts v.1.1.1.1 p in
      let whole = leads_part k.ways.program.aggregates path (type_of value) t v.1.1.1.0 q.0 in
      let same : member_type k.ways.program (type_of value) path ≡ t = ap type_at v.1.1.1.0.1.0 ∙ v.1.1.1.0.1.1 in
      subst (λ g. GivenDoes k (told_receiver (form.value_before value path passed.Value) k.ways) g (received_object (spot k) (form.value_before value path passed.Value))) (sym v.1.1.1.1)
      (subst (λ u. GivenDoes k (told_receiver (form.value_before value path passed.Value) k.ways) (t ∷ []) (object_in (spot k) passed.Value (type_of value) u path (coded (spot k) value))) (sym same)
      (record { rows = object_part_does k h.well_typed.laid_out (type_of value) t path v.1.1.1.0 whole.not_void whole.not_array q.0.not_void q.0.not_array hv; words = words_are k.ways.program t q.0.not_array ∙ one_more k h t }))

  value_dropped : (value : TExpr) (path : List ℕ) (given : List Ty) → Gives (scope_of k h) (form.value_before value path passed.Nothing) given → CodedDoes k (told value k.ways) (type_of value) (coded (spot k) value) → GivenDoes k (told_receiver (form.value_before value path passed.Nothing) k.ways) given (received_object (spot k) (form.value_before value path passed.Nothing))
  unfolding Gives
  value_dropped value path given v hv =
      subst (λ g. GivenDoes k (told_receiver (form.value_before value path passed.Nothing) k.ways) g (received_object (spot k) (form.value_before value path passed.Nothing))) (sym v.1.1.1.1)
      (record { rows = dropped_object k (type_of value) (aggregate_part (type_of value) v.1.1.0).not_void hv; words = refl })

  no_address : (value : TExpr) (path : List ℕ) (given : List Ty) → Gives (scope_of k h) (form.value_before value path passed.Address) given → ⊥
  unfolding Gives
  no_address value path given v = v

  pub value_object : (value : TExpr) (path : List ℕ) (how : Passed) (given : List Ty) → Gives (scope_of k h) (form.value_before value path how) given → CodedDoes k (told value k.ways) (type_of value) (coded (spot k) value) → AreParts given → GivenDoes k (told_receiver (form.value_before value path how) k.ways) given (received_object (spot k) (form.value_before value path how))
  value_object value path passed.Address given v hv p = absurd (no_address value path given v)
  value_object value path passed.Value given v hv p = value_given value path given v hv p
  value_object value path passed.Nothing given v hv p = value_dropped value path given v hv

  pub pointer_object : (pointer : TExpr) (path : List ℕ) (how : Passed) (given : List Ty) → Gives (scope_of k h) (form.pointer_before pointer path how) given → CodedDoes k (told pointer k.ways) (type_of pointer) (coded (spot k) pointer) → AreParts given → GivenDoes k (told_receiver (form.pointer_before pointer path how) k.ways) given (received_object (spot k) (form.pointer_before pointer path how))
  unfolding Gives
  pointer_object pointer path how given v hp p =
      let u = v.0 in
      let t = v.1.0 in
      let eq : type_of pointer ≡ ty.Pointer u = v.1.1.1.0 in
      let leads : LeadsTo k.ways.program.aggregates path u t = v.1.1.1.1.0 in
      let offset = path_offset k.ways.program (pointee (type_of pointer)) path in
      let pl = pointed_placed offset (coded (spot k) pointer) in
      let same : member_type k.ways.program (pointee (type_of pointer)) path ≡ t = ap (λ q. type_at (member k.ways.program.aggregates path q)) (ap pointee eq ∙ pointee_is u) ∙ (ap type_at leads.1.0 ∙ leads.1.1) in
      let place = pointed_does k (array k h) offset (word_of k (type_of pointer) (pointer_is k h (type_of pointer) u eq)) hp in
      subst (λ g. GivenDoes k (told_receiver (form.pointer_before pointer path how) k.ways) g (received_object (spot k) (form.pointer_before pointer path how))) (sym v.1.1.1.1.1)
      (subst (λ q. GivenDoes k (object_means k (λ env s next. value (told pointer k.ways) env s (λ a env s. next (Address (sum (slice_index a 0) offset)) env s)) how q) (passes how t) (object_at (spot k) how q pl)) (sym same) (object_place k h how t pl place (subst AreParts v.1.1.1.1.1 p)))
