-- What stands by value in a type of each kind.
use Rattle.std.proofs.Common.{◌≡◌, ℕ, List, [], ◌∷◌, ◌++◌, refl, ap, ◌∙◌, append_assoc}
use Rattle.std.specs.List.{flat_map}
use Rattle.std.specs.Option.{option_to_list}
use Rattle.std.proofs.lemmas.List.{append-nil}
use Rattle.al_tree.specs.declared.type_tree.BasicType.{BasicType}
use Rattle.al_poly.specs.declared.concrete_type.ConcreteType.{ConcreteType, Row_of-ConcreteType, end_of-ConcreteType, more_of-ConcreteType, items-the_row-ConcreteType, items_hidden-the_row-ConcreteType-0}
use Rattle.al_poly.specs.declared.concrete_type.ConcreteType.TheVariants as ct
use Rattle.al_poly.specs.declared.concrete_type.ConcreteType.TheBlock.{hidden-the_row-ConcreteType-0, hidden-the_row-ConcreteType-1}
use denote.Hole.Carrier.{hidden}
use Rattle.al_form.specs.Forms.{form_named}
use Rattle.al_form.specs.declared.form.Forms.{Forms}
use Rattle.al_layout.specs.Types.{form_of_instance, contained, contained_row, parts}
use Rattle.al_layout.proofs.Fronts.{flat_here, flat_end}

module _ (fs : Forms) where
  contained_row-items : {m : _} (row : Row_of-ConcreteType m) → contained_row fs row ≡ flat_map (contained fs) (items-the_row-ConcreteType m row)
  contained_row-items end_of-ConcreteType = refl
  contained_row-items (more_of-ConcreteType t rest) = ap (λ l. contained fs t ++ l) (contained_row-items rest)

  pub parts-Basic : (b : BasicType) → parts fs (ct.Basic b) ≡ []
  unfolding parts
  parts-Basic b = refl

  pub parts-Named : (name : ℕ) → parts fs (ct.Named name) ≡ option_to_list (form_named fs.named name)
  unfolding parts
  parts-Named name = refl

  pub parts-Instance : (adt : ℕ) (ts : List ConcreteType) → parts fs (ct.Instance adt ts) ≡ option_to_list (form_of_instance fs adt ts)
  unfolding parts
  parts-Instance adt ts = ap (λ l. option_to_list (form_of_instance fs adt l)) (items_hidden-the_row-ConcreteType-0 ts)

  pub parts-Tuple : (ts : List ConcreteType) → parts fs (ct.Tuple ts) ≡ flat_map (parts fs) ts
  unfolding parts
  parts-Tuple ts = contained_row-items (hidden-the_row-ConcreteType-0 ts) ∙ ap (flat_map (contained fs)) (items_hidden-the_row-ConcreteType-0 ts)

  pub parts-Chan : (t : ConcreteType) (capacity : ℕ) → parts fs (ct.Chan t capacity) ≡ []
  unfolding parts
  parts-Chan t capacity = refl

  pub parts-Pointer : (t : ConcreteType) → parts fs (ct.Pointer t) ≡ []
  unfolding parts
  parts-Pointer t = refl

  pub parts-Array : (t : ConcreteType) (count : ℕ) → parts fs (ct.Array t count) ≡ parts fs t
  unfolding parts hidden-the_row-ConcreteType-1 hidden
  parts-Array t count = refl

  pub parts-Function : (t : ConcreteType) (ts : List ConcreteType) → parts fs (ct.Function t ts) ≡ []
  unfolding parts
  parts-Function t ts = refl

pub ruleset parts_are = (parts-Basic, parts-Named, parts-Instance, parts-Tuple, parts-Chan, parts-Pointer, parts-Array, parts-Function, append-nil)

pub ruleset rows = (flat_here, flat_end, append_assoc, append-nil)
