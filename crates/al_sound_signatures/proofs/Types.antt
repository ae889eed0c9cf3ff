-- What the result of a head is where its rules hold.
use Rattle.std.proofs.Common.{◌≡◌, ℕ, Bool, true, false, ◌||◌, not, List, [], Option, Some, None, inl, inr, refl}
use Rattle.std.specs.List.{flat_map}
use Rattle.al_base.specs.declared.place.Place.{Place}
use Rattle.al_tree.specs.declared.type_tree.TypeTree.{TypeTree}
use Rattle.al_tree.specs.declared.item.Parameter.{Parameter}
use Rattle.al_rules.specs.Outcome.{ask}
use Rattle.al_typed.specs.declared.program.Aggregate.{Aggregate as AggregateRow}
use Rattle.al_typed.specs.declared.ty.Ty.{Ty}
use Rattle.al_typed.specs.Types.{is_array, is_complete, is_void}
use Rattle.al_environment.specs.declared.environment.Environment.{Environment}
use Rattle.al_environment.specs.declared.environment.Here.{Here}
use Rattle.al_type_rules.specs.Rules.{rule_7_value, rule_18_size, rule_20_result}
use Rattle.al_type_rules.specs.Types.{asked_result, known, parameter_faults, result_type, signature, signature_faults}
use Rattle.al_sound_operators.proofs.TypeForms.{void_is}
use Rattle.al_sound_calls.proofs.Lists.{asked_true, none_in}
use Rattle.al_sound_signatures.specs.Signatures.{IsResult}

not_true : (b : Bool) → not b ≡ true → b ≡ false
not_true true h = absurd (cc)
not_true false h = refl

returned : (rows : List AggregateRow) (t : Option Ty) → rule_20_result t ≡ true → rule_7_value rows t ≡ true → IsResult rows (known t)
returned rows None h k = absurd (cc)
returned rows (Some t) h k = go (is_void t) refl k
  where
    go : (b : Bool) → is_void t ≡ b → (b || is_complete rows t) ≡ true → IsResult rows t
    go true is k = inl (void_is t is)
    go false is k = inr (k, not_true (is_array t) h)

pub result_is : (env : Environment) (here : Here) (at : Place) (base : TypeTree) (stars : ℕ) (list : List Parameter) → signature_faults env here at base stars list ≡ []
    → IsResult env.aggregates (signature env here base stars list).returns
unfolding signature_faults signature
result_is env here at base stars list h =
    let rows = env.aggregates in
    let t = result_type env here base stars in
    let a = none_in (asked_result rows at t) (flat_map (parameter_faults env here) list) h in
    let b = none_in (ask 20 at (rule_20_result t)) _ a.0 in
    let c = none_in (ask 7 at (rule_7_value rows t)) (ask 18 at (rule_18_size rows t)) b.1 in
    returned rows t (asked_true 20 at (rule_20_result t) b.0) (asked_true 7 at (rule_7_value rows t) c.0)
