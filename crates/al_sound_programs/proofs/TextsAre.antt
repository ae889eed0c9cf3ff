-- String constants that globals start with are those of the program.
use Rattle.std.proofs.Common.{◌≡◌, ℕ, ◌+◌, ◌<◌, ◌≤◌, true, List, [], ◌∷◌, length, Some, refl, ◌∙◌, subst, arith}
use Rattle.std.specs.Prelude.{All, nat_le}
use Rattle.std.specs.List.{flat_map, list_all}
use Rattle.std.proofs.lemmas.List.Elements.{All-append, All-contains, All-nil, All-weaker}
use Rattle.al_tree.specs.declared.expression.Expr.{Expr}
use Rattle.al_tree.specs.declared.item.Tree.{Tree}
use Rattle.al_rules.specs.Outcome.{Good}
use Rattle.al_typed.specs.declared.program.Program.{Program}
use Rattle.al_typed.specs.declared.expression.TExpr.{TExpr, Text}
use Rattle.al_typed.specs.declared.ty.Ty.{Ty}
use Rattle.al_typed.specs.WellTyped.{IsValue, is_sound}
use Rattle.al_environment.specs.declared.environment.Environment.{Environment}
use Rattle.al_environment.specs.declared.environment.Here.{Here}
use Rattle.al_environment.specs.declared.environment.Round.{Round}
use Rattle.al_body_parts.specs.declared.parts.WrittenText.{WrittenText}
use Rattle.al_operands.specs.declared.operand.Operand.{Operand}
use Rattle.al_type_expr.specs.Nodes.{value_of}
use Rattle.al_initial.specs.Start.{text_of}
use Rattle.al_initial.specs.Whole.{gathered, numbered, numbered_text, outside}
use Rattle.al_sound_operators.specs.Typed.{IsOperand}
use Rattle.al_sound_operators.proofs.Outcomes.{if_good}
use Rattle.al_sound_nodes.specs.Nodes.{Tells}
use Rattle.al_sound_statements.specs.Gathered.{TypesAreGathered}
use Rattle.al_sound_programs.specs.Functions.{IsReady, ValuesAreTyped, among_any}
use Rattle.al_sound_programs.specs.Starts.{TextIsThere, TextsAreThere, item_values, numbered_outside}
use Rattle.al_sound_programs.proofs.BodiesAre.{written_same}
use Rattle.al_sound_programs.proofs.Frames.{IsBelow, IsStoredVariable, all_hold, first_below}
use Rattle.al_sound_programs.proofs.WrittenValues.{AreAmong, values_are_gathered}

-- a string constant that is well typed
text_below : (env : Environment) (strings functions : ℕ) (e : TExpr) (n : ℕ) → IsValue (among_any env.aggregates strings functions) e → text_of e ≡ Some n → n < strings
unfolding text_of IsValue
text_below env strings functions (Text t m) n h e = let same : m ≡ n = some_is e in subst (λ k. k < strings) same h.1
  where
    some_is : {a b : ℕ} → Some a ≡ Some b → a ≡ b
    some_is h = cc
text_below env strings functions _ n h e = absurd (cc)

first_texts : (most from : ℕ) (ts : List WrittenText) → from + length ts ≤ most → All (IsBelow most) (numbered from ts)
unfolding numbered
first_texts most from [] h = All-nil (IsBelow most)
first_texts most from (t ∷ ts) h =
    All-append (IsBelow most) (numbered_text t.at from) (numbered (from + 1) ts)
    (first_below (nat_le from 4294967295) most (record { at = t.at; number = from }) (omega arith)) (first_texts most (from + 1) ts (omega arith))

-- where the initializers of globals stand
outside_ready : (env : Environment) (tree : Tree) (strings : ℕ) → length (gathered env tree).texts ≤ strings → IsReady env.aggregates strings (numbered_outside env tree)
outside_ready env tree strings few = record {
  locals = All-nil (IsStoredVariable env.aggregates);
  around = All-nil (λ (r : Round). All (IsStoredVariable env.aggregates) r.locals);
  texts = first_texts strings 0 (gathered env tree).texts (omega arith);
  iterators = refl;
}

pub texts_there : ValuesAreTyped → TypesAreGathered → (p : Program) (env : Environment) (tree : Tree) (functions : ℕ)
    → ((here : Here) → IsReady env.aggregates (length p.strings) here → Tells (among_any env.aggregates (length p.strings) functions) env here)
    → length (gathered env tree).texts ≤ length p.strings → list_all (is_sound env.aggregates) (gathered env tree).types ≡ true
    → TextsAreThere p env (numbered_outside env tree) (flat_map item_values tree.items)
texts_there values law p env tree functions tells few types =
    let us = (gathered env tree).types in
    let strings = length p.strings in
    let here = numbered_outside env tree in
    let ready = outside_ready env tree strings few in
    let sound = all_hold (is_sound env.aggregates) us types in
    All-weaker (AreAmong env (outside []) us) (λ (e : Expr). (x : Operand) → value_of env here e ≡ Good x → TextIsThere p x.value)
    (λ e among x good n is.
    let typed = if_good (IsOperand (among_any env.aggregates strings functions)) (value_of env here e) x
    (values env strings functions here (tells here ready) ready.texts refl refl e
    (λ t c u w. All-contains (λ (v : Ty). is_sound env.aggregates v ≡ true) us u sound (among t c u (written_same env (outside []) here refl t ∙ w)))) good in
    text_below env strings functions x.value n typed.usable.value is)
    (flat_map item_values tree.items) (values_are_gathered law env tree)
