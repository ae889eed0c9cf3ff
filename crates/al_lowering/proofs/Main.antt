-- The main function of a program may be started with zeros.
use Rattle.std.proofs.Common.{List, [], ◌∷◌, ◌++◌, refl, sym, subst, ⊎_elim}
use Rattle.std.specs.Prelude.{ℕ, map, replicate, sum_by}
use Rattle.std.specs.List.{flat_map}
use Rattle.al_typed.specs.declared.program.Program.{Program}
use Rattle.al_typed.specs.declared.ty.Ty.{Ty}
use Rattle.al_typed.specs.declared.ty.Ty.TheVariants as ty
use Rattle.al_typed.specs.declared.ty.Ty.TheViews.{out-Ty}
use Rattle.al_typed.specs.declared.ty.Ty.TheBlock.{hidden-the_row-Ty-0}
use denote.Hole.Carrier.{hidden, out}
use Rattle.al_typed.specs.Types.{int, byte_pointer, is_array}
use Rattle.al_typed.specs.Layout.{layout, layout_of, words_of, unit_at}
use Rattle.al_typed.specs.Typed.{parameter_types}
use Rattle.al_typed.specs.WellTyped.{IsWellTyped}
use Rattle.al_meaning.specs.Here.{units_in}
use Rattle.al_meaning.specs.Places.{words_in}
use Rattle.al_meaning.specs.Meaning.{main_start, main_words}
use Rattle.al_lowered.specs.Rules.{AreOf, IsKnownStart, given_units}

module _ (p : Program) where
  -- zeros for values of these types, of a function that stands in these
  abbrev Zeros : List ℕ → List Ty → Type 0
  Zeros around ts = AreOf (map (λ _. unit_at 0 4) around ++ flat_map (units_in p) ts) (replicate (sum_by (words_in p) ts) 0)

  none : Zeros [] []
  none = refl

  two : Zeros [] (int ∷ ty.Pointer byte_pointer ∷ [])
  unfolding layout layout_of words_of is_array out-Ty out hidden-the_row-Ty-0 hidden
  two = refl

  main_zeros : (W : IsWellTyped p) → Zeros W.main_function.around (parameter_types W.main_function)
  main_zeros W =
      subst (λ around. Zeros around (parameter_types W.main_function)) (sym W.main.is_there.1)
      (⊎_elim (λ e. subst (Zeros []) (sym e) none) (λ e. subst (Zeros []) (sym e) two) W.main.parameters)

  pub main_known : IsWellTyped p → IsKnownStart p (main_start p)
  main_known W = record {
    function = W.main_function;
    at = W.main.is_there.0;
    words = subst (λ o. AreOf (given_units p W.main_function) (main_words p o)) (sym W.main.is_there.0) (main_zeros W);
  }
