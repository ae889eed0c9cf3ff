-- The faults in a written type, for each kind, and those of a list of types from a place on.
use Rattle.std.proofs.Common.{◌≡◌, ℕ, suc, ◌+◌, ◌<◌, ◌≤◌, List, [], ◌∷◌, ◌++◌, map, length, get_or, drop, Option, refl, ap, ◌∙◌, sym, append_assoc, drop-cons, add-one}
use Rattle.std.specs.List.{flat_map}
use Rattle.std.proofs.lemmas.List.{drop_all, append-nil}
use Rattle.al_base.specs.declared.place.Place.{Place}
use Rattle.al_tree.specs.declared.type_tree.BasicType.{BasicType}
use Rattle.al_tree.specs.declared.type_tree.Bound.{Bound}
use Rattle.al_tree.specs.declared.type_tree.TypeTree.{TypeTree, para-TypeTree, para-roll-TypeTree}
use Rattle.al_tree.specs.declared.type_tree.TypeTree.TheVariants as t
use Rattle.al_tree.specs.declared.type_tree.TypeTree.TheOpen.{TypeTree-F}
use Rattle.al_rules.specs.declared.fault.TypeFault.{TypeFault}
use Rattle.al_environment.specs.declared.environment.Environment.{Environment}
use Rattle.al_environment.specs.declared.environment.Here.{Here}
use Rattle.al_type_rules.specs.declared.written.Stands.TheVariants as stands
use Rattle.al_type_rules.specs.Written.{asked_child, faults_step, faults_in, faults_of, tuple_faults}

-- a list with what was found in each
flat_map-pairs : {A B C : Type 0} (f : A → B) (g : A × B → List C) (xs : List A) → flat_map g (map (λ x. (x, f x)) xs) ≡ flat_map (λ x. g (x, f x)) xs
flat_map-pairs f g [] = refl
flat_map-pairs f g (x ∷ xs) = ap (λ l. g (x, f x) ++ l) (flat_map-pairs f g xs)

firsts : {A B : Type 0} (f : A → B) (xs : List A) → map (λ (c : A × B). c.0) (map (λ x. (x, f x)) xs) ≡ xs
firsts f [] = refl
firsts f (x ∷ xs) = ap (λ l. x ∷ l) (firsts f xs)

module _ (env : Environment) (here : Here) where
  pub faults-Basic : (at : Place) (basic : BasicType) → faults_in env here (t.Basic at basic) ≡ []
  unfolding faults_in
  faults-Basic at basic = ap (para-TypeTree (List TypeFault) (faults_step env here)) (sym (t.rolls-Basic at basic)) ∙ para-roll-TypeTree (List TypeFault) (faults_step env here) (TypeTree-F.Basic at basic)

  pub faults-Named : (at : Place) (name : ℕ) (xs : List TypeTree) → faults_in env here (t.Named at name xs) ≡ flat_map (faults_of env here stands.Argument at) xs
  unfolding faults_in
  faults-Named at name xs =
      ap (para-TypeTree (List TypeFault) (faults_step env here)) (sym (t.rolls-Named at name xs))
      ∙ para-roll-TypeTree (List TypeFault) (faults_step env here) (TypeTree-F.Named at name xs)
      ∙ flat_map-pairs (faults_in env here) (asked_child env here stands.Argument at) xs

  pub faults-Tuple : (at : Place) (xs : List TypeTree) → faults_in env here (t.Tuple at xs) ≡ flat_map (faults_of env here stands.Part at) xs ++ tuple_faults env here at xs
  unfolding faults_in
  faults-Tuple at xs =
      ap (para-TypeTree (List TypeFault) (faults_step env here)) (sym (t.rolls-Tuple at xs))
      ∙ para-roll-TypeTree (List TypeFault) (faults_step env here) (TypeTree-F.Tuple at xs)
      ∙ ap (λ fs. fs ++ tuple_faults env here at (map (λ (c : TypeTree × List TypeFault). c.0) (map (λ x. (x, faults_in env here x)) xs))) (flat_map-pairs (faults_in env here) (asked_child env here stands.Part at) xs)
      ∙ ap (λ ts. flat_map (faults_of env here stands.Part at) xs ++ tuple_faults env here at ts) (firsts (faults_in env here) xs)

  pub faults-Chan : (at : Place) (x : TypeTree) (bound : Option Bound) → faults_in env here (t.Chan at x bound) ≡ faults_of env here stands.Part at x
  unfolding faults_in
  faults-Chan at x bound = ap (para-TypeTree (List TypeFault) (faults_step env here)) (sym (t.rolls-Chan at x bound)) ∙ para-roll-TypeTree (List TypeFault) (faults_step env here) (TypeTree-F.Chan at x bound)

  pub faults-Pointer : (at : Place) (x : TypeTree) → faults_in env here (t.Pointer at x) ≡ faults_of env here stands.Behind at x
  unfolding faults_in
  faults-Pointer at x = ap (para-TypeTree (List TypeFault) (faults_step env here)) (sym (t.rolls-Pointer at x)) ∙ para-roll-TypeTree (List TypeFault) (faults_step env here) (TypeTree-F.Pointer at x)

  pub faults-Array : (at : Place) (bound : Bound) (x : TypeTree) → faults_in env here (t.Array at bound x) ≡ faults_of env here stands.Element at x
  unfolding faults_in
  faults-Array at bound x = ap (para-TypeTree (List TypeFault) (faults_step env here)) (sym (t.rolls-Array at bound x)) ∙ para-roll-TypeTree (List TypeFault) (faults_step env here) (TypeTree-F.Array at bound x)

pub ruleset faults_are = (faults-Basic, faults-Named, faults-Tuple, faults-Chan, faults-Pointer, faults-Array, append-nil, append_assoc)

-- ---- a list, from a place on

pub flat_here : {A B : Type 0} (f : A → List B) (xs : List A) (i : ℕ) (x : A) → i < length xs → x ≡ get_or xs i x → flat_map f (drop i xs) ≡ f x ++ flat_map f (drop (i + 1) xs)
flat_here f xs i x h e = rw (add-one) (ap (flat_map f) (drop-cons xs i x h) ∙ ap (λ y. f y ++ flat_map f (drop (suc i) xs)) (sym e))

pub flat_end : {A B : Type 0} (f : A → List B) (xs : List A) (i : ℕ) → length xs ≤ i → flat_map f (drop i xs) ≡ []
flat_end f xs i h = ap (flat_map f) (drop_all i xs h)

pub ruleset lists = (flat_here, flat_end, append_assoc, append-nil)
