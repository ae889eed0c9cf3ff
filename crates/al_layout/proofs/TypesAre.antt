-- What a type of each kind is.
use Rattle.std.proofs.Common.{◌≡◌, ℕ, List, [], ◌∷◌, ◌++◌, map, Option, Some, None, option_map, refl, ap, ◌∙◌, sym, append_assoc}
use Rattle.std.proofs.lemmas.List.{append-nil}
use Rattle.al_tree.specs.declared.type_tree.BasicType.{BasicType}
use Rattle.al_poly.specs.declared.concrete_type.ConcreteType.{ConcreteType, Row_of-ConcreteType, end_of-ConcreteType, more_of-ConcreteType, items-the_row-ConcreteType, items_hidden-the_row-ConcreteType-0}
use Rattle.al_poly.specs.declared.concrete_type.ConcreteType.TheVariants as ct
use Rattle.al_poly.specs.declared.concrete_type.ConcreteType.TheBlock.{hidden-the_row-ConcreteType-0, hidden-the_row-ConcreteType-1}
use denote.Hole.Carrier.{hidden}
use Rattle.al_typed.specs.declared.ty.Ty.{Ty}
use Rattle.al_typed.specs.declared.ty.Ty.TheVariants as ty
use Rattle.al_form.specs.Forms.{form_named}
use Rattle.al_form.specs.declared.form.Forms.{Forms}
use Rattle.al_layout.specs.Types.{basic_type, type_of_form, form_of_instance, all_of, chan_of, array_of, function_of, resolved, resolved_row, ty_of}
use Rattle.al_layout.proofs.Fronts.{from_here, none_here}

module _ (fs : Forms) (ns : List ℕ) where
  resolved_row-items : {m : _} (row : Row_of-ConcreteType m) → resolved_row fs ns row ≡ map (resolved fs ns) (items-the_row-ConcreteType m row)
  resolved_row-items end_of-ConcreteType = refl
  resolved_row-items (more_of-ConcreteType t rest) = ap (λ l. resolved fs ns t ∷ l) (resolved_row-items rest)

  row_of-list : (ts : List ConcreteType) → resolved_row fs ns (hidden-the_row-ConcreteType-0 ts) ≡ map (ty_of fs ns) ts
  unfolding ty_of
  row_of-list ts = resolved_row-items (hidden-the_row-ConcreteType-0 ts) ∙ ap (map (resolved fs ns)) (items_hidden-the_row-ConcreteType-0 ts)

  pub ty_of-Basic : (b : BasicType) → ty_of fs ns (ct.Basic b) ≡ Some (basic_type b)
  unfolding ty_of
  ty_of-Basic b = refl

  pub ty_of-Named : (name : ℕ) → ty_of fs ns (ct.Named name) ≡ type_of_form ns (form_named fs.named name)
  unfolding ty_of
  ty_of-Named name = refl

  pub ty_of-Instance : (adt : ℕ) (ts : List ConcreteType) → ty_of fs ns (ct.Instance adt ts) ≡ type_of_form ns (form_of_instance fs adt ts)
  unfolding ty_of
  ty_of-Instance adt ts = ap (λ l. type_of_form ns (form_of_instance fs adt l)) (items_hidden-the_row-ConcreteType-0 ts)

  pub ty_of-Tuple : (ts : List ConcreteType) → ty_of fs ns (ct.Tuple ts) ≡ option_map ty.Tuple (all_of (map (ty_of fs ns) ts))
  unfolding ty_of
  ty_of-Tuple ts = ap (λ l. option_map ty.Tuple (all_of l)) (row_of-list ts)

  pub ty_of-Chan : (t : ConcreteType) (capacity : ℕ) → ty_of fs ns (ct.Chan t capacity) ≡ chan_of (ty_of fs ns t) capacity
  unfolding ty_of hidden-the_row-ConcreteType-1 hidden
  ty_of-Chan t capacity = refl

  pub ty_of-Pointer : (t : ConcreteType) → ty_of fs ns (ct.Pointer t) ≡ option_map ty.Pointer (ty_of fs ns t)
  unfolding ty_of hidden-the_row-ConcreteType-1 hidden
  ty_of-Pointer t = refl

  pub ty_of-Array : (t : ConcreteType) (count : ℕ) → ty_of fs ns (ct.Array t count) ≡ array_of (ty_of fs ns t) count
  unfolding ty_of hidden-the_row-ConcreteType-1 hidden
  ty_of-Array t count = refl

  pub ty_of-Function : (t : ConcreteType) (ts : List ConcreteType) → ty_of fs ns (ct.Function t ts) ≡ function_of (ty_of fs ns t) (all_of (map (ty_of fs ns) ts))
  unfolding ty_of hidden-the_row-ConcreteType-1 hidden
  ty_of-Function t ts = ap (λ l. function_of (resolved fs ns t) (all_of l)) (row_of-list ts)

pub ruleset ty_is = (ty_of-Basic, ty_of-Named, ty_of-Instance, ty_of-Tuple, ty_of-Chan, ty_of-Pointer, ty_of-Array, ty_of-Function)

-- ---- a list of types, from a place on

-- those so far, with all of the rest
abbrev pub with_rest : List Ty → Option (List Ty) → Option (List Ty)
with_rest front rest = option_map (λ l. front ++ l) rest

pub with_rest-none : (rest : Option (List Ty)) → with_rest [] rest ≡ rest
with_rest-none None = refl
with_rest-none (Some l) = refl

pub with_rest-more : (front : List Ty) (x : Ty) (rest : List (Option Ty)) → with_rest front (all_of (Some x ∷ rest)) ≡ with_rest (front ++ x ∷ []) (all_of rest)
with_rest-more front x rest = elim (all_of rest) as (λ o. with_rest front (option_map (λ l. x ∷ l) o) ≡ with_rest (front ++ x ∷ []) o) [ None ↦ refl | Some l ↦ ap Some (sym (append_assoc front (x ∷ []) l)) ]

pub ruleset lists = (with_rest-none, with_rest-more, from_here, none_here, append-nil)
