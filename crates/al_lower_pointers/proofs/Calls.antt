-- Calls through pointers.
use Rattle.std.proofs.Common.{◌≡◌, ℕ, ◌+◌, List, [], ◌∷◌, ◌++◌, map, length, Option, Some, None, refl, sym, ap, ◌∙◌, subst, arith, length-append}
use Rattle.std.specs.Prelude.{true, false, ◌&&◌, slice_index}
use Rattle.std.specs.List.{flat_map}
use Rattle.al_typed.specs.declared.ty.Ty.{Ty}
use Rattle.al_typed.specs.declared.ty.Ty.TheVariants as ty
use Rattle.al_typed.specs.declared.program.Function.{Function as FunctionRow}
use Rattle.al_typed.specs.Types.{is_void, is_array}
use Rattle.al_typed.specs.Typed.{function_type, parameter_types}
use Rattle.al_typed.specs.Layout.{unit_at}
use Rattle.al_typed.specs.Alike.{are_alike}
use Rattle.al_meaning.specs.Here.{units_in}
use Rattle.al_meaning.specs.Places.{function_at}
use Rattle.al_meaning.specs.Calls.{joined, has_type, named_by}
use Rattle.al_meaning.specs.Tasks.{Still, Env, Rest, Task}
use Rattle.al_meaning.specs.Told.{value, call_found}
use Rattle.al_ir.specs.declared.op.Op.TheVariants.{InvokePointer}
use Rattle.al_ir.specs.Control.{Slots, slots_from}
use Rattle.al_lowered.specs.Rules.{given_units}
use Rattle.al_lower_words.specs.Units.{AreOf}
use Rattle.al_lower_words.proofs.Integers.{one_word}
use Rattle.al_lower_code.specs.Homes.{here}
use Rattle.al_lower_code.specs.Coded.{Coded, Row}
use Rattle.al_lower_code.specs.Classes.{class_number, classes}
use Rattle.al_lower_code.specs.Actions.{call_pointer_coded}
use Rattle.al_lower_steps.specs.Slots.{Holds, HoldsGiven}
use Rattle.al_lower_steps.specs.Site.{frame_at}
use Rattle.al_lower_steps.proofs.Slots.{holds_from_start}
use Rattle.al_lower_steps.proofs.Steps.{moved, comes_out, has_front, has_back}
use Rattle.al_lower_steps.proofs.Calls.{invoke_pointer_does, invoke_pointer_traps}
use Rattle.al_lower_claims.proofs.Variables.{stays_both, holds_stays, more_room}
use Rattle.al_lower_claims.proofs.Claims.{Setting, scene, site, spot, Run, Has, count_of, Gave, IsWord, CodedDoes}
use Rattle.al_lower_claims.proofs.Operands.{both_true, free_does}
use Rattle.al_lower_values.proofs.Rows.{UnitsOfAll, RowDoes}
use Rattle.al_lower_values.proofs.Calls.{CallsDo, SameCalls, gave_same, calling_does}
use Rattle.al_lower_pointers.proofs.Alike.{same_calls}
use Rattle.al_lower_pointers.proofs.Classes.{named_has_type, class_names}

typed_alike : (t : Ty) (around : List ℕ) (f : FunctionRow) → has_type t around f ≡ true → (around ≡ []) × (are_alike t (function_type f) ≡ true)
typed_alike t [] f e = (refl, e)
typed_alike t (n ∷ around) f e = absurd (cc)

module _ (k : Setting) (calls : CallsDo k) (has_classes : k.ir.classes ≡ classes k.ways.program) where
  abbrev pub call_pointer_means : Task (Option (List ℕ)) → Task (List (List ℕ)) → Ty → Task (Option (List ℕ))
  call_pointer_means m arguments callee env s next = value m env s (λ a env s. arguments env s (λ vs env s. call_found k.ways (joined vs) (named_by callee (slice_index a 0) 0 k.ways.program.functions) env s next))

  module _ {m : Task (Option (List ℕ))} {mr : Task (List (List ℕ))} (t u : Ty) (ts : List Ty) (c : Coded) (row : Row) (word : IsWord k u) (void_words : is_void t ≡ true → count_of k t ≡ 0) (no_array : is_void t ≡ false → is_array t ≡ false) (hc : CodedDoes k m u c) (hr : RowDoes k mr ts row.keeps row.values) where
    abbrev callee : Ty
    callee = ty.Function t ts

    -- where the pointer and the arguments stand
    invoked : (to pc w : ℕ) (vs : List (List ℕ)) (now last : Slots) (env : Env) (s : Still) (next : Option (List ℕ) → Rest) → Has k pc (here (spot k) (InvokePointer (class_number k.ways.program callee) to (to + 1))) → now to ≡ Some w → UnitsOfAll k ts (joined vs) → Holds now (to + 1) (joined vs) → ((o : Option (List ℕ)) (s : Still) (last : Slots) → Gave k t o → HoldsGiven last 0 o → Run k (next o env s) (pc + 1) now last s) → Run k (call_found k.ways (joined vs) (named_by callee w 0 k.ways.program.functions) env s next) pc now last s
    invoked to pc w vs now last env s next has there fits holds go = on (named_by callee w 0 k.ways.program.functions) refl
      where
        on : (r : Option ℕ) → named_by callee w 0 k.ways.program.functions ≡ r → Run k (call_found k.ways (joined vs) r env s next) pc now last s
        on None e = invoke_pointer_traps (site k) has.0 there (class_names k.ways.program k.ir callee w has_classes ∙ e)
        on (Some function) e =
            let n = named_has_type callee w 0 function k.ways.program.functions e in
            let g = n.function in
            let a = typed_alike callee g.around g n.typed in
            let same : SameCalls k.ways.program t g.returns ts (parameter_types g) = same_calls k.ways.program t g.returns ts (parameter_types g) a.1 in
            let number : function ≡ n.index = let q = n.is in let z : 0 + n.index ≡ n.index = omega arith in q ∙ z in
            let row_there : function_at k.ways.program function ≡ Some g = ap (function_at k.ways.program) number ∙ n.there in
            let units : flat_map (units_in k.ways.program) ts ≡ given_units k.ways.program g = same.taken ∙ sym (ap (λ q. map (λ _. unit_at 0 4) q ++ flat_map (units_in k.ways.program) (parameter_types g)) a.0) in
            invoke_pointer_does (site k) (λ s. k.ways.call function (joined vs) s (λ o s. next o env s)) has.0 there (class_names k.ways.program k.ir callee w has_classes ∙ e) (λ s.
            (calls (frame_at (site k) (pc + 1) now) refl).by function g row_there (joined vs) (subst (λ q. AreOf q (joined vs)) units fits) (slots_from (to + 1) now) (holds_from_start (joined vs) (to + 1) now holds) s (λ o s. next o env s) (λ o s last3 gave holds3.
            go o s last3 (gave_same k.ways.program t g.returns same.void same.given o gave) holds3))

    pub call_pointer_does : CodedDoes k (call_pointer_means m mr callee) t (call_pointer_coded (spot k) t (class_number k.ways.program callee) c row)
    call_pointer_does = calling_does k t (c.keeps && row.keeps) (λ to. c.value to to ++ (row.values (to + 1) ++ here (spot k) (InvokePointer (class_number k.ways.program callee) to (to + 1)))) void_words no_array (record {
      by = λ to pc slots last env s next room vars has go.
          let ca = c.value to to in
          let cb = row.values (to + 1) in
          let cd = here (spot k) (InvokePointer (class_number k.ways.program callee) to (to + 1)) in
          let back = has_back (site k) pc ca (cb ++ cd) has in
          free_does k hc.value word.not_void to pc slots last env s (λ a env s. mr env s (λ vs env s. call_found k.ways (joined vs) (named_by callee (slice_index a 0) 0 k.ways.program.functions) env s next)) room vars (has_front (site k) pc ca (cb ++ cd) has) (λ a env1 s now1 last1 fa vars1 st1 ha same1.
          let one = one_word 0 a (subst (λ us. AreOf us a) word.units fa) in
          hr.by (to + 1) (pc + length ca) now1 last1 env1 s (λ vs env s. call_found k.ways (joined vs) (named_by callee (slice_index a 0) 0 k.ways.program.functions) env s next) (more_room (scene k) to 1 room) vars1 (has_front (site k) (pc + length ca) cb cd back) (λ vs env2 s now2 last2 fv vars2 st2 hv same2.
          let held : Holds now2 to (one.word ∷ []) = holds_stays (scene k) (one.word ∷ []) to (to + 1) now2 now1 room (omega arith) st2 (subst (Holds now1 to) one.is ha) in
          let end : pc + length ca + length cb + 1 ≡ pc + length (ca ++ (cb ++ cd)) = omega (arith, length-append ca (cb ++ cd), length-append cb cd) in
          comes_out (site k) (ap (λ a. call_found k.ways (joined vs) (named_by callee (slice_index a 0) 0 k.ways.program.functions) env2 s next) one.is)
          (invoked to (pc + length ca + length cb) one.word vs now2 last2 env2 s next (has_back (site k) (pc + length ca) cb cd back) held.0 fv hv (λ o s last3 gave holds3.
          moved (site k) end (go o env2 s now2 last3 gave vars2 (stays_both (scene k) to (to + 1) now2 now1 slots (omega arith) st2 st1) holds3 (λ e. let b = both_true c.keeps row.keeps e in same2 b.1 ∙ same1 b.0))))));
    })
