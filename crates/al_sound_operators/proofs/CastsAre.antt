-- Casts, channel operations, print, terminate and sizeof.
use Rattle.std.proofs.Common.{◌≡◌, ℕ, Bool, true, false, ◌&&◌, List, [], ◌∷◌, map, Option, Some, None, refl, sym, ap, ap₂, ◌∙◌, subst, inl, inr}
use Rattle.std.proofs.lemmas.List.Elements.{All-head, All-tail}
use Rattle.std.specs.Option.{unwrap_or}
use Rattle.std.specs.Prelude.{◌||◌, if◌then◌else◌, All}
use Rattle.al_base.specs.declared.arith.Kind.TheVariants as kind
use Rattle.al_base.specs.declared.place.Place.{Place}
use Rattle.al_rules.specs.Outcome.{Good}
use Rattle.al_typed.specs.declared.ty.Ty.{Ty}
use Rattle.al_typed.specs.declared.ty.Ty.TheVariants as ty
use Rattle.al_typed.specs.declared.ty.Ty.TheViews.{out-Ty}
use Rattle.al_typed.specs.declared.ty.Ty.TheBlock.{hidden-the_row-Ty-0}
use denote.Hole.Carrier.{hidden, out}
use Rattle.al_typed.specs.declared.expression.PrintPiece.{PrintPiece}
use Rattle.al_typed.specs.declared.expression.PrintPiece.TheVariants as print
use Rattle.al_typed.specs.declared.expression.TExpr.{TExpr}
use Rattle.al_typed.specs.declared.expression.TExpr.TheVariants as expr
use Rattle.al_typed.specs.declared.program.Aggregate.{Aggregate as AggregateRow}
use Rattle.al_typed.specs.Types.{byte_pointer, int, is_void, is_whole, void_pointer}
use Rattle.al_typed.specs.Typed.{type_of}
use Rattle.al_typed.specs.WellTyped as well
use Rattle.al_typed.specs.WellTyped.{IsChannel, IsChannelOf, IsPromoted, IsValue, Prints, Scope, is_sound, is_stored, is_word, rows}
use Rattle.al_typed.proofs.ValueRules.{EachValue, IsValue-CanReceive, IsValue-CanSend, IsValue-Cast, IsValue-Print, IsValue-Receive, IsValue-Send, IsValue-SizeofType, IsValue-SizeofValue, IsValue-Terminate}
use Rattle.al_convert.specs.Same.{pointed, is_of_kind}
use Rattle.al_convert.specs.Kinds.{element_of, is_channel, is_integer}
use Rattle.al_operands.specs.declared.operand.Operand.{Operand}
use Rattle.al_operands.specs.Rules.{are_cast, is_address_sized, is_byte_at, is_nil, is_pointer, is_taken, is_text, nil_is_cast, rule_33_converts, rule_36_prints, rule_38_casts, rule_39_has_size, rule_43_is_channel, rule_43_sends, rule_44_is_no_void}
use Rattle.al_operands.specs.Operands.{converted, in_kind, plain, promoted_kind, taken}
use Rattle.al_operators.specs.Operators.{can_receive, can_send, carried, cast, cast_node, cast_value, castable, channel, printable, printed, printed_as, receive, received, send, sent, sent_through, size_of_plain, size_of_type, size_of_value, terminated, used}
use Rattle.al_sound_operators.specs.Typed.{IfGood, IsOperand, IsTyped, IsUsable}
use Rattle.al_sound_operators.specs.Operands.{IsOf}
use Rattle.al_sound_operators.specs.Operators.{IsPrinted, OfOperand, OfOperands, OperatorsAreSound}
use Rattle.al_sound_operators.proofs.TypeForms.{a_channel, a_pointer, an_integer, channel_is, element_of-Chan, of_kind_is, pointer_is}
use Rattle.al_sound_operators.proofs.SameTypes.{and_both}
use Rattle.al_sound_operators.proofs.SoundTypes.{same_converts, sound-Chan, whole_after}
use Rattle.al_sound_operators.proofs.Conversions.{pointer_converts}
use Rattle.al_sound_operators.proofs.Literals.{pointer_to_channel}
use Rattle.al_sound_operators.proofs.Outcomes.{after, asked}
use Rattle.al_sound_operators.proofs.OperandsAre.{converted_is, in_kind_is, operand_converts, plain_is, plain_usable, taken_is}
use Rattle.al_sound_operators.proofs.OperatorKinds.{either, integer_converts, negated, nil_operand, not_true, promoted-promoted_kind}
use Rattle.al_sound_operators.proofs.OperatorsAre.{added_is, addition_is, binary_is, bitwise_is, combined_is, complement_is, condition_is, decision_is, equality_is, integer_usable, multiplication_is, multiplied_is, negation_is, order_is, shift_is, shifted_by_is, signed_is, subtracted_is, subtraction_is}

-- ---- casts

pointer_to_kind : (x : Ty) (t : Ty) → is_address_sized t ≡ true → well.converts (ty.Pointer x) t ≡ true
unfolding is_word out-Ty out hidden-the_row-Ty-0 hidden
pointer_to_kind x t h = elim (either (is_of_kind kind.Int t) (is_of_kind kind.Uint t) h) [
  | inl g ↦ ap (well.converts (ty.Pointer x)) (of_kind_is kind.Int t g)
  | inr g ↦ ap (well.converts (ty.Pointer x)) (of_kind_is kind.Uint t g)
]

kind_to_pointer : (t : Ty) (x : Ty) → is_address_sized t ≡ true → well.converts t (ty.Pointer x) ≡ true
unfolding is_word out-Ty out hidden-the_row-Ty-0 hidden
kind_to_pointer t x h = elim (either (is_of_kind kind.Int t) (is_of_kind kind.Uint t) h) [
  | inl g ↦ ap (λ u. well.converts u (ty.Pointer x)) (of_kind_is kind.Int t g)
  | inr g ↦ ap (λ u. well.converts u (ty.Pointer x)) (of_kind_is kind.Uint t g)
]

nil_casts : (to : Ty) → nil_is_cast to ≡ true → well.converts void_pointer to ≡ true
nil_casts to h = elim (either (is_pointer to) _ h) [
  | inl g ↦ let x = a_pointer to g in ap (well.converts void_pointer) x.1 ∙ pointer_converts ty.Void x.0
  | inr g ↦ elim (either (is_channel to) (is_address_sized to) g) [
    | inl k ↦ let x = a_channel to k in ap (well.converts void_pointer) x.2 ∙ pointer_to_channel ty.Void x.0 x.1
    | inr k ↦ pointer_to_kind ty.Void to k
  ]
]

types_cast : (rows : List AggregateRow) (from to : Ty) → is_sound rows from ≡ true → is_whole rows from ≡ true → are_cast from to ≡ true → well.converts from to ≡ true
types_cast rows from to o w h = elim (either (is_integer from && is_integer to) _ h) [
  | inl g ↦
      let both = and_both (is_integer from) (is_integer to) g in
      let k = an_integer to both.1 in
      ap (well.converts from) k.1 ∙ integer_converts from k.0 both.0
  | inr g ↦ elim (either (is_pointer from && (is_pointer to || is_address_sized to)) _ g) [
    | inl k ↦
        let both = and_both (is_pointer from) _ k in
        let x = a_pointer from both.0 in
        elim (either (is_pointer to) (is_address_sized to) both.1) [
          | inl p ↦ let y = a_pointer to p in ap₂ well.converts x.1 y.1 ∙ pointer_converts x.0 y.0
          | inr p ↦ ap (λ u. well.converts u to) x.1 ∙ pointer_to_kind x.0 to p
        ]
    | inr k ↦ elim (either (is_address_sized from && is_pointer to) _ k) [
      | inl p ↦
          let both = and_both (is_address_sized from) (is_pointer to) p in
          let y = a_pointer to both.1 in
          ap (well.converts from) y.1 ∙ kind_to_pointer from y.0 both.0
      | inr p ↦ same_converts rows from to o w p
    ]
  ]
]

operand_casts : (s : Scope) (x : Operand) (to : Ty) → IsOperand s x → rule_38_casts x to ≡ true → well.converts (type_of x.value) to ≡ true
unfolding rule_38_casts
operand_casts s x to o h = on (is_nil x.written) refl h
  where
    on : (b : Bool) → is_nil x.written ≡ b → (if b then nil_is_cast to else are_cast (type_of x.value) to) ≡ true → well.converts (type_of x.value) to ≡ true
    on true e h = ap (λ u. well.converts u to) (nil_operand x.written (type_of x.value) o.written e) ∙ nil_casts to h
    on false e h = types_cast (rows s) (type_of x.value) to o.usable.sound o.usable.whole h

castable_is : (x : Operand) → IfGood (castable x) (λ e. e ≡ x.value)
unfolding castable
castable_is x = on (is_nil x.written)
  where
    on : (b : Bool) → IfGood (if b then Good x.value else plain x) (λ e. e ≡ x.value)
    on true = refl
    on false = plain_is x

cast_value_is : (at : Place) (to : Ty) (x : Operand) → IfGood (cast_value at to x) (λ e. (e ≡ x.value) × (rule_38_casts x to ≡ true))
unfolding cast_value
cast_value_is at to x =
    after (λ e. e ≡ x.value) (λ e. (e ≡ x.value) × (rule_38_casts x to ≡ true)) (castable x) _ (castable_is x)
    (λ a h. asked (λ e. (e ≡ x.value) × (rule_38_casts x to ≡ true)) 38 at (rule_38_casts x to) a (λ q. (h, q)))

cast_node_is : (s : Scope) (to : Ty) (e : TExpr) → IsUsable s e → is_sound (rows s) to ≡ true → well.converts (type_of e) to ≡ true → IsOf s to (cast_node to e)
cast_node_is s to e u o h = record {
  usable = record {
    value = rw (IsValue-Cast s to e) ((o, (u.value, h)));
    sound = o;
    whole = whole_after (rows s) (type_of e) to h u.whole o;
  };
  is = refl;
}

pub cast_is : (to : Ty) → OfOperand (λ s at x. is_sound (rows s) to ≡ true → IfGood (cast at to x) (IsOf s to))
unfolding cast
cast_is to s at x o sound =
    after (λ e. (e ≡ x.value) × (rule_38_casts x to ≡ true)) (IsOf s to) (cast_value at to x) (λ a. Good (cast_node to a)) (cast_value_is at to x)
    (λ a h. subst (λ e. IsOf s to (cast_node to e)) (sym h.0) (cast_node_is s to x.value o.usable sound (operand_casts s x to o h.1)))

-- ---- channels

-- a channel's value
record IsChannelValue (s : Scope) (e : TExpr) : Type 0 where
  usable : IsUsable s e
  element : Ty
  capacity : ℕ
  is : type_of e ≡ ty.Chan element capacity

channel_value : OfOperand (λ s at x. IfGood (channel at x) (IsChannelValue s))
unfolding channel rule_43_is_channel
channel_value s at x o =
    after (IsUsable s) (IsChannelValue s) (plain x) _ (plain_usable s x o)
    (λ a h. asked (IsChannelValue s) 43 at (rule_43_is_channel (type_of a)) a
    (λ q. let c = a_channel (type_of a) q in record { usable = h; element = c.0; capacity = c.1; is = c.2 }))

carried_is : (t element : Ty) (n : ℕ) → t ≡ ty.Chan element n → carried t ≡ element
carried_is t element n h = ap (λ o. unwrap_or o t) (ap element_of h ∙ element_of-Chan element n)

element_is : (s : Scope) (e : TExpr) (h : IsChannelValue s e) → (is_sound (rows s) (carried (type_of e)) ≡ true) × (is_whole (rows s) (carried (type_of e)) ≡ true)
element_is s e h =
    let both = sound-Chan (rows s) h.element h.capacity (sym (ap (is_sound (rows s)) h.is) ∙ h.usable.sound) in
    let same = carried_is (type_of e) h.element h.capacity h.is in
    (ap (is_sound (rows s)) same ∙ both.0, ap (is_whole (rows s)) same ∙ both.1)

carries : (s : Scope) (e : TExpr) (h : IsChannelValue s e) → type_of e ≡ ty.Chan (carried (type_of e)) h.capacity
carries s e h = h.is ∙ sym (ap (λ (t : Ty). ty.Chan t h.capacity) (carried_is (type_of e) h.element h.capacity h.is))

receive_is : (s : Scope) (c : TExpr) → IsChannelValue s c → IsUsable s (receive c)
receive_is s c h = record {
  value = rw (IsValue-Receive s (carried (type_of c)) c) ((h.usable.value, (h.capacity, carries s c h)));
  sound = (element_is s c h).0;
  whole = (element_is s c h).1;
}

pub received_is : OfOperand (λ s at x. IfGood (received at x) (IsUsable s))
unfolding received
received_is s at x o =
    after (IsChannelValue s) (IsUsable s) (channel at x) (λ c. Good (receive c)) (channel_value s at x o)
    (λ a h. receive_is s a h)

pub can_receive_is : OfOperand (λ s at x. IfGood (can_receive at x) (IsUsable s))
unfolding can_receive
can_receive_is s at x o =
    after (IsChannelValue s) (IsUsable s) (channel at x) (λ c. Good (expr.CanReceive int c)) (channel_value s at x o)
    (λ a h. integer_usable s kind.Int (expr.CanReceive int a) (rw (IsValue-CanReceive s int a) ((refl, (h.usable.value, (h.element, (h.capacity, h.is)))))) refl)

pub can_send_is : OfOperand (λ s at x. IfGood (can_send at x) (IsUsable s))
unfolding can_send
can_send_is s at x o =
    after (IsChannelValue s) (IsUsable s) (channel at x) (λ c. Good (expr.CanSend int c)) (channel_value s at x o)
    (λ a h. integer_usable s kind.Int (expr.CanSend int a) (rw (IsValue-CanSend s int a) ((refl, (h.usable.value, (h.element, (h.capacity, h.is)))))) refl)

-- a value of a void type
pub void_typed : (s : Scope) (e : TExpr) → IsValue s e → type_of e ≡ ty.Void → IsTyped s e
unfolding is_void out-Ty out
void_typed s e v is = record {
  value = v;
  sound = ap (is_sound (rows s)) is;
  whole = ap (λ t. is_void t || is_whole (rows s) t) is;
}

sends : (y : Operand) (o : Option Ty) → is_taken y o ≡ true → (t : Ty) × (o ≡ Some t) × (rule_33_converts y t ≡ true)
sends y None h = not_true h
sends y (Some t) h = (t, refl, h)

sent_through_is : (s : Scope) (at : Place) (c : TExpr) (y : Operand) → IsUsable s c → IsOperand s y → IfGood (sent_through at c y) (IsTyped s)
unfolding sent_through rule_43_sends
sent_through_is s at c y u o =
    asked (IsTyped s) 43 at (rule_43_sends (type_of c) y) (send c y.value)
    (λ q.
    let t = sends y (element_of (type_of c)) q in
    let n = channel_is (type_of c) t.0 t.1 in
    let h : IsChannelValue s c = record { usable = u; element = t.0; capacity = n.0; is = n.1 } in
    let same = carried_is (type_of c) t.0 n.0 n.1 in
    let e = converted_is s (carried (type_of c)) y.value o.usable (element_is s c h).0 (ap (well.converts (type_of y.value)) same ∙ operand_converts s y t.0 o t.2) in
    void_typed s (send c y.value)
    (rw (IsValue-Send s ty.Void c (converted (carried (type_of c)) y.value))
    ((refl, (u.value, (e.usable.value, (n.0, carries s c h ∙ sym (ap (λ (t : Ty). ty.Chan t n.0) e.is)))))))
    refl)

pub sent_is : OfOperands (λ s at x y. IfGood (sent at x y) (IsTyped s))
unfolding sent
sent_is s at x y o p = after (IsUsable s) (IsTyped s) (plain x) (λ c. sent_through at c y) (plain_usable s x o) (λ c h. sent_through_is s at c y h p)

-- ---- print, terminate, sizes

text_is : (t : Ty) → is_text t ≡ true → t ≡ byte_pointer
text_is t h = on (pointed t) refl h
  where
    on : (o : Option Ty) → pointed t ≡ o → is_byte_at o ≡ true → t ≡ byte_pointer
    on None e h = not_true h
    on (Some x) e h = pointer_is t x e ∙ ap ty.Pointer (of_kind_is kind.Byte x h)

format_is : (s : Scope) (ps : List PrintPiece) (es : List TExpr) → All (IsPrinted s) es → rule_36_prints ps es ≡ true → Prints ps (map type_of es)
format_is s [] [] a h = tt
format_is s [] (e ∷ es) a h = not_true h
format_is s (print.Byte b ∷ ps) [] a h = format_is s ps [] a h
format_is s (print.Percent ∷ ps) [] a h = format_is s ps [] a h
format_is s (p ∷ ps) [] a h = not_true h
format_is s (print.Byte b ∷ ps) (e ∷ es) a h = format_is s ps (e ∷ es) a h
format_is s (print.Percent ∷ ps) (e ∷ es) a h = format_is s ps (e ∷ es) a h
format_is s (print.Text ∷ ps) (e ∷ es) a h =
    let both = and_both (is_text (type_of e)) (rule_36_prints ps es) h in
    (text_is (type_of e) both.0, format_is s ps es (All-tail (IsPrinted s) e es a) both.1)
format_is s (p ∷ ps) (e ∷ es) a h =
    let both = and_both (is_integer (type_of e)) (rule_36_prints ps es) h in
    ((All-head (IsPrinted s) e es a).promoted both.0, format_is s ps es (All-tail (IsPrinted s) e es a) both.1)

each_value : (s : Scope) (es : List TExpr) → All (IsPrinted s) es → EachValue s es
each_value s [] a = tt
each_value s (e ∷ es) a = ((All-head (IsPrinted s) e es a).usable.value, each_value s es (All-tail (IsPrinted s) e es a))

pub printed_is : (s : Scope) (at : Place) (format : Option (List PrintPiece)) (es : List TExpr) → All (IsPrinted s) es → IfGood (printed at format es) (IsTyped s)
unfolding printed printed_as
printed_is s at None es a = tt
printed_is s at (Some ps) es a =
    asked (IsTyped s) 36 at (rule_36_prints ps es) (expr.Print ty.Void ps es)
    (λ q. void_typed s (expr.Print ty.Void ps es) (rw (IsValue-Print s ty.Void ps es) ((refl, (each_value s es a, format_is s ps es a q)))) refl)

pub terminated_is : OfOperand (λ s at x. IfGood (terminated at x) (IsTyped s))
unfolding terminated
terminated_is s at x o =
    after (IsOf s int) (IsTyped s) (taken 37 at int x) (λ e. Good (expr.Terminate ty.Void e)) (taken_is s 37 at int x o refl)
    (λ e h. void_typed s (expr.Terminate ty.Void e) (rw (IsValue-Terminate s ty.Void e) ((refl, (h.usable.value, h.is)))) refl)

pub printable_is : (s : Scope) (e : TExpr) → IsUsable s e → IsPrinted s (printable e)
unfolding printable
printable_is s e u = on (is_integer (type_of e)) refl
  where
    on : (b : Bool) → is_integer (type_of e) ≡ b → IsPrinted s (if b then in_kind (promoted_kind (type_of e)) e else e)
    on true h =
        let k = promoted_kind (type_of e) in
        let x = in_kind_is s k e u (integer_converts (type_of e) k h) in
        record { usable = x.usable; promoted = λ q. (k, (x.is, promoted-promoted_kind (type_of e))) }
    on false h = record { usable = u; promoted = λ q. not_true (sym h ∙ q) }

pub size_of_type_is : (s : Scope) (at : Place) (of : Ty) → is_sound (rows s) of ≡ true → IfGood (size_of_type (rows s) at of) (IsUsable s)
unfolding size_of_type rule_39_has_size
size_of_type_is s at of o =
    asked (IsUsable s) 39 at (rule_39_has_size (rows s) of) (expr.SizeofType int of)
    (λ q. integer_usable s kind.Int (expr.SizeofType int of) (rw (IsValue-SizeofType s int of) ((refl, ap₂ (λ (a b : Bool). a && b) o q))) refl)

size_of_plain_is : (s : Scope) (at : Place) (a : TExpr) → IsTyped s a → IfGood (size_of_plain (rows s) at a) (IsUsable s)
unfolding size_of_plain rule_39_has_size
size_of_plain_is s at a u =
    asked (IsUsable s) 39 at (rule_39_has_size (rows s) (type_of a)) (expr.SizeofValue int a)
    (λ q. integer_usable s kind.Int (expr.SizeofValue int a) (rw (IsValue-SizeofValue s int a) ((refl, (u.value, ap₂ (λ (a b : Bool). a && b) u.sound q)))) refl)

pub size_of_value_is : (s : Scope) (at : Place) (x : Operand) → IsTyped s x.value → IfGood (size_of_value (rows s) at x) (IsUsable s)
unfolding size_of_value
size_of_value_is s at x t =
    after (λ e. e ≡ x.value) (IsUsable s) (plain x) (size_of_plain (rows s) at) (plain_is x) (λ a h. size_of_plain_is s at a (subst (IsTyped s) (sym h) t))

pub used_is : (s : Scope) (at : Place) (e : TExpr) → IsTyped s e → IfGood (used at e) (λ a. (a ≡ e) × IsUsable s a)
unfolding used rule_44_is_no_void
used_is s at e t =
    asked (λ a. (a ≡ e) × IsUsable s a) 44 at (rule_44_is_no_void (type_of e)) e
    (λ q. (refl, record { value = t.value; sound = t.sound; whole = sym (ap (λ b. b || is_whole (rows s) (type_of e)) (negated (is_void (type_of e)) q)) ∙ t.whole }))

pub operators_are_sound : OperatorsAreSound
operators_are_sound = record {
  multiplied = multiplied_is;
  multiplication = multiplication_is;
  combined = combined_is;
  bitwise = bitwise_is;
  shifted_by = shifted_by_is;
  shift = shift_is;
  signed = signed_is;
  complement = complement_is;
  added = added_is;
  addition = addition_is;
  subtracted = subtracted_is;
  subtraction = subtraction_is;
  order = order_is;
  equality = equality_is;
  condition = condition_is;
  negation = negation_is;
  decision = decision_is;
  binary = binary_is;
  cast = cast_is;
  received = received_is;
  can_receive = can_receive_is;
  can_send = can_send_is;
  sent = sent_is;
  printable = printable_is;
  printed = printed_is;
  terminated = terminated_is;
  size_of_type = size_of_type_is;
  size_of_value = size_of_value_is;
  used = used_is;
}
