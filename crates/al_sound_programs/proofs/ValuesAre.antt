-- Values of initializers are well typed, by what is known of expressions.
use Rattle.std.proofs.Common.{◌≡◌, ℕ, ◌<◌, Bool, true, false, List, [], ◌∷◌, Option, Some, None, cond, subst}
use Rattle.std.specs.Prelude.{All, find, option_map, slice_get}
use Rattle.std.proofs.lemmas.List.Elements.{All-head, All-tail}
use Rattle.al_base.specs.declared.place.Place.{Place}
use Rattle.al_rules.specs.Outcome.{same_place}
use Rattle.al_scope.specs.Firsts.{declaration_at}
use Rattle.al_scope.specs.declared.declaration.Declaration.{Declaration}
use Rattle.al_scope.specs.declared.declaration.Declaration.TheVariants as declaration
use Rattle.al_typed.specs.declared.program.Aggregate.{Aggregate}
use Rattle.al_environment.specs.declared.environment.Here.{Here}
use Rattle.al_environment.specs.declared.environment.Round.{Round}
use Rattle.al_environment.specs.declared.numbered.Numbered.{Numbered}
use Rattle.al_environment.specs.Firsts.{number_at}
use Rattle.al_sound_nodes.specs.Nodes.{IsReached}
use Rattle.al_sound_expressions.specs.Expressions.{ExpressionsAreSound, IsSoundWritten}
use Rattle.al_sound_statements.specs.Bodies.{expr_types}
use Rattle.al_sound_statements.proofs.FitExpressions.{AreThere, anywhere, expression_fits}
use Rattle.al_sound_statements.proofs.FitStatements.{every_of}
use Rattle.al_sound_programs.specs.Functions.{ValuesAreTyped, among_any}

-- ---- numbers

some_is : {A : Type 0} {a b : A} → Some a ≡ Some b → a ≡ b
some_is h = cc

first_below : (most : ℕ) (x : Numbered) (list : List Numbered) (at : Place) (n : ℕ) → x.number < most → (number_at list at ≡ Some n → n < most) → (b : Bool)
    → option_map (λ (m : Numbered). m.number) (cond b (Some x) (find (λ (m : Numbered). same_place m.at at) list)) ≡ Some n → n < most
unfolding number_at
first_below most x list at n h k true e = subst (λ m. m < most) (some_is e) h
first_below most x list at n h k false e = k e

below : (most : ℕ) (list : List Numbered) (at : Place) (n : ℕ) → All (λ (x : Numbered). x.number < most) list → number_at list at ≡ Some n → n < most
unfolding number_at
below most [] at n h e = absurd (cc)
below most (x ∷ list) at n h e =
    first_below most x list at n (All-head (λ (y : Numbered). y.number < most) x list h) (below most list at n (All-tail (λ (y : Numbered). y.number < most) x list h)) (same_place x.at at) e

none_at : (list : List Numbered) (at : Place) (n : ℕ) (most : ℕ) → list ≡ [] → number_at list at ≡ Some n → n < most
unfolding number_at
none_at [] at n most is e = absurd (cc)
none_at (x ∷ list) at n most is e = absurd (cc)

-- ---- names

no_round : (rounds : List Round) (k : ℕ) (r : Round) → rounds ≡ [] → slice_get rounds k ≡ Some r → ⊥
no_round [] k r is e = cc
no_round (x ∷ rounds) k r is e = cc

module _ (rows : List Aggregate) (strings functions : ℕ) where
  is_reached : (here : Here) → here.around ≡ [] → (d : Option Declaration) → IsReached (among_any rows strings functions) here d
  is_reached here h None = tt
  is_reached here h (Some (declaration.Global n)) = tt
  is_reached here h (Some (declaration.Function n)) = tt
  is_reached here h (Some (declaration.Constant n)) = tt
  is_reached here h (Some (declaration.Local n)) = tt
  is_reached here h (Some (declaration.Outer k n)) = λ r v at is. absurd (no_round here.around k r h at)
  is_reached here h (Some declaration.Print) = tt
  is_reached here h (Some declaration.Terminate) = tt

pub values_typed : ExpressionsAreSound → ValuesAreTyped
values_typed law env strings functions here tells texts around iterators e sound =
    let s = among_any env.aggregates strings functions in
    let there : AreThere s env here = record {
      texts = λ at n q. below strings here.texts at n texts q;
      iterators = λ at n q. none_at here.iterators at n 0 iterators q;
    } in
    let names = anywhere s env here (λ at. is_reached env.aggregates strings functions here around (declaration_at env.scopes.names at)) (λ at n v p q. tt) e
    (every_of (IsSoundWritten s env here) (expr_types e) sound) in
    let fit = expression_fits s env here there e names in
    law.value_of s env here tells fit.trees fit.fit e fit.among
