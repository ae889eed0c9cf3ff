-- What each kind of initializer writes and gives.
use Rattle.std.proofs.Common.{◌≡◌, ℕ, Bool, List, [], ◌∷◌, map, false, refl, ap, ◌∙◌, sym}
use Rattle.al_base.specs.declared.place.Place.{Place}
use Rattle.al_tree.specs.declared.expression.Expr.{Expr}
use Rattle.al_tree.specs.declared.item.Initializer.{Initializer, fold-Initializer, fold-roll-Initializer}
use Rattle.al_tree.specs.declared.item.Initializer.TheVariants as form
use Rattle.al_tree.specs.declared.item.Initializer.TheOpen.{Initializer-F}
use Rattle.al_typed.specs.declared.ty.Ty.{Ty}
use Rattle.al_environment.specs.declared.environment.Environment.{Environment}
use Rattle.al_environment.specs.declared.environment.Here.{Here}
use Rattle.al_body_parts.specs.declared.parts.Parts.{Parts}
use Rattle.al_body_parts.specs.Expressions.{expr}
use Rattle.al_initial.specs.Initializers.{Way, value_started, braces, step, initializer}
use Rattle.al_initial.specs.Walks.{Gathering, each, written_step, written}

each_map : {A B : Type 0} (f : B → Gathering) (g : A → B) (xs : List A) (q : Parts) → each f (map g xs) q ≡ each (λ x. f (g x)) xs q
each_map f g [] q = refl
each_map f g (x ∷ xs) q = each_map f g xs (f (g x) q)

module _ (env : Environment) (here : Here) where
  pub written-Value : (e : Expr) (q : Parts) → written env here (form.Value e) q ≡ expr env here e false q
  unfolding written
  written-Value e q = ap (λ n. fold-Initializer Gathering (written_step env here) n q) (sym (form.rolls-Value e)) ∙ ap (λ (g : Gathering). g q) (fold-roll-Initializer Gathering (written_step env here) (Initializer-F.Value e))

  pub written-Braces : (at : Place) (parts : List Initializer) (q : Parts) → written env here (form.Braces at parts) q ≡ each (written env here) parts q
  unfolding written
  written-Braces at parts q =
      ap (λ n. fold-Initializer Gathering (written_step env here) n q) (sym (form.rolls-Braces at parts))
      ∙ ap (λ (g : Gathering). g q) (fold-roll-Initializer Gathering (written_step env here) (Initializer-F.Braces at parts))
      ∙ each_map (λ g. g) (written env here) parts q

  module _ (adts : List Bool) where
    pub initializer-Value : (e : Expr) (t : Ty) (offset : ℕ) → initializer env here adts (form.Value e) t offset ≡ value_started env here e t offset
    unfolding initializer
    initializer-Value e t offset =
        ap (λ n. fold-Initializer Way (step env here adts) n t offset) (sym (form.rolls-Value e))
        ∙ ap (λ (w : Way). w t offset) (fold-roll-Initializer Way (step env here adts) (Initializer-F.Value e))

    pub initializer-Braces : (at : Place) (parts : List Initializer) (t : Ty) (offset : ℕ) → initializer env here adts (form.Braces at parts) t offset ≡ braces env.aggregates adts at (map (initializer env here adts) parts) t offset
    unfolding initializer
    initializer-Braces at parts t offset =
        ap (λ n. fold-Initializer Way (step env here adts) n t offset) (sym (form.rolls-Braces at parts))
        ∙ ap (λ (w : Way). w t offset) (fold-roll-Initializer Way (step env here adts) (Initializer-F.Braces at parts))

pub ruleset written_is = (written-Value, written-Braces)

pub ruleset initializer_is = (initializer-Value, initializer-Braces)
