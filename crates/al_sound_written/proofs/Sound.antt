-- What is written without a fault is sound, by induction on what is written.
use Rattle.std.proofs.Common.{◌≡◌, ℕ, Bool, true, false, ◌&&◌, List, [], ◌∷◌, ◌++◌, map, length, Option, Some, None, option_map, option_and_then, refl, sym, ap, ◌∙◌, subst}
use Rattle.std.specs.Prelude.{◌||◌, find, if◌then◌else◌, nat_le, nat_lt, not}
use Rattle.std.specs.List.{flat_map, list_all}
use Rattle.std.proofs.lemmas.Bool.{and_parts}
use Rattle.std.proofs.lemmas.Option.{same_Some}
use Rattle.al_base.specs.declared.place.Place.{Place}
use Rattle.al_tree.specs.Constants.{bound_number}
use Rattle.al_tree.specs.declared.type_tree.BasicType.{BasicType}
use Rattle.al_tree.specs.declared.type_tree.BasicType.TheVariants as basic
use Rattle.al_tree.specs.declared.type_tree.Bound.{Bound}
use Rattle.al_tree.specs.declared.type_tree.TypeTree.{TypeTree, roll-TypeTree, map-TypeTree, fold-TypeTree, fold-roll-TypeTree}
use Rattle.al_tree.specs.declared.type_tree.TypeTree.TheFolds.{ind-TypeTree}
use Rattle.al_tree.specs.declared.type_tree.TypeTree.TheOpen.{TypeTree-F}
use Rattle.al_tree.specs.declared.type_tree.TypeTree.TheVariants as t
use Rattle.al_rules.specs.declared.fault.TypeFault.{TypeFault}
use Rattle.al_rules.specs.Outcome.{ask}
use Rattle.al_typed.specs.declared.program.Aggregate.{Aggregate}
use Rattle.al_typed.specs.declared.ty.Ty.{Ty}
use Rattle.al_typed.specs.declared.ty.Ty.TheVariants as ty
use Rattle.al_typed.specs.Types.{is_array, is_complete, is_void, is_whole}
use Rattle.al_typed.specs.WellTyped.{is_small, is_sound}
use Rattle.al_declare.specs.Rules.{rule_17_bound, rule_17_capacity}
use Rattle.al_environment.specs.declared.environment.Environment.{Environment}
use Rattle.al_environment.specs.declared.environment.Here.{Here}
use Rattle.al_environment.specs.declared.environment.InstanceType.{InstanceType}
use Rattle.al_environment.specs.Lookups.{instance_type}
use Rattle.al_environment.specs.Lookups as lookup
use Rattle.al_environment.specs.Written.{all_of, array_type, basic_type, capacity, chan_type, written}
use Rattle.al_environment.proofs.WrittenIs.{written-Basic, written-Named, written-Tuple, written-Chan, written-Pointer, written-Array}
use Rattle.al_sound_types.specs.Environment.{is_instance}
use Rattle.al_sound_types.specs.Types.{is_part}
use Rattle.al_sound_types.proofs.SoundIs.{is_sound-Aggregate, is_sound-Array, is_sound-Chan, is_sound-Pointer, is_sound-Tuple}
use Rattle.al_type_rules.specs.Rules.{rule_7_value, rule_16_value, rule_18_size, rule_20_part}
use Rattle.al_type_rules.specs.Written.{behind, element, faults_in, part, tuple_faults}
use Rattle.al_type_rules.proofs.FaultsAre.{faults-Tuple, faults-Chan, faults-Pointer, faults-Array}
use Rattle.al_sound_written.specs.Written.{IsSoundWritten, NamesHold, WrittenAreSound, all_keep, bound_keeps, capacity_keeps, keeps_17, keeps_step}

-- ---- faults

none_of_both : {A : Type 0} (xs ys : List A) → xs ++ ys ≡ [] → (xs ≡ []) × (ys ≡ [])
none_of_both [] ys e = (refl, e)
none_of_both (x ∷ xs) ys e = absurd (let f : ⊥ = cc in f)

holds : (rule : ℕ) (at : Place) (b : Bool) → ask rule at b ≡ [] → b ≡ true
holds rule at true e = refl
holds rule at false e = absurd (let f : ⊥ = cc in f)

both : (a b : Bool) → a ≡ true → b ≡ true → (a && b) ≡ true
both true b e f = f
both false b e f = e

-- no array, not void, and void or complete
whole_is : (array void complete : Bool) → (not array && not void) ≡ true → (void || complete) ≡ true → (complete && not array) ≡ true
whole_is false false true e f = refl
whole_is false false false e f = f
whole_is false true complete e f = absurd (let g : ⊥ = cc in g)
whole_is true void complete e f = absurd (let g : ⊥ = cc in g)

complete_is : (void complete : Bool) → not void ≡ true → (void || complete) ≡ true → complete ≡ true
complete_is false complete e f = f
complete_is true complete e f = absurd (let g : ⊥ = cc in g)

-- ---- options

mapped : {A B : Type 0} (f : A → B) (o : Option A) (y : B) → option_map f o ≡ Some y → (x : A) × (o ≡ Some x) × (f x ≡ y)
mapped f None y e = absurd (let g : ⊥ = cc in g)
mapped f (Some x) y e = (x, refl, same_Some (f x) y e)

then_some : {A B : Type 0} (f : A → Option B) (o : Option A) (y : B) → option_and_then f o ≡ Some y → (x : A) × (f x ≡ Some y)
then_some f None y e = absurd (let g : ⊥ = cc in g)
then_some f (Some x) y e = (x, e)

chan_some : (o : Option Ty) (n : Option ℕ) (u : Ty) → chan_type o n ≡ Some u → (x : Ty) × (k : ℕ) × (o ≡ Some x) × (n ≡ Some k) × (ty.Chan x k ≡ u)
chan_some None n u e = absurd (let g : ⊥ = cc in g)
chan_some (Some x) None u e = absurd (let g : ⊥ = cc in g)
chan_some (Some x) (Some k) u e = (x, k, refl, refl, same_Some (ty.Chan x k) u e)

array_some : (o : Option Ty) (n : Option ℕ) (u : Ty) → array_type o n ≡ Some u → (x : Ty) × (k : ℕ) × (o ≡ Some x) × (n ≡ Some k) × (ty.Array x k ≡ u)
array_some None n u e = absurd (let g : ⊥ = cc in g)
array_some (Some x) None u e = absurd (let g : ⊥ = cc in g)
array_some (Some x) (Some k) u e = (x, k, refl, refl, same_Some (ty.Array x k) u e)

found_holds : {A : Type 0} (is holds : A → Bool) (xs : List A) (x : A) → list_all holds xs ≡ true → find is xs ≡ Some x → holds x ≡ true
found_holds is holds [] x all e = absurd (let g : ⊥ = cc in g)
found_holds is holds (y ∷ xs) x all e =
    let parts = and_parts (holds y) (list_all holds xs) all in
    on (is y) parts.0 (found_holds is holds xs x parts.1) e
  where
    on : (b : Bool) → holds y ≡ true → (find is xs ≡ Some x → holds x ≡ true) → (if b then Some y else find is xs) ≡ Some x → holds x ≡ true
    on true this later e = let same : y ≡ x = same_Some y x e in subst (λ z. holds z ≡ true) same this
    on false this later e = later e

module _ (env : Environment) (here : Here) (names : NamesHold env here) where
  abbrev rows : List Aggregate
  rows = env.aggregates

  abbrev IsSoundOnce : TypeTree → Type 0
  IsSoundOnce = IsSoundWritten env here

  small : (o : Option Ty) (u : Ty) → o ≡ Some u → rule_18_size rows o ≡ true → is_small rows u ≡ true
  small o u e h = subst (λ o. rule_18_size rows o ≡ true) e h

  -- ---- rule 17

  keeps-is : (x : TypeTree) (y : TypeTree-F TypeTree) → roll-TypeTree y ≡ x → keeps_17 env x ≡ keeps_step env (map-TypeTree TypeTree Bool (keeps_17 env) y)
  unfolding keeps_17
  keeps-is x y e = ap (fold-TypeTree Bool (keeps_step env)) (sym e) ∙ fold-roll-TypeTree Bool (keeps_step env) y

  capacity_is : (at : Place) (bound : Option Bound) (n : ℕ) → capacity_keeps env at bound ≡ true → capacity env at bound ≡ Some n → nat_le n 4096 ≡ true
  capacity_is at None n k e = let same : 0 ≡ n = same_Some 0 n e in subst (λ n. nat_le n 4096 ≡ true) same refl
  capacity_is at (Some b) n k e = (and_parts (nat_le 1 n) (nat_le n 4096) (subst (λ o. rule_17_capacity o ≡ true) e k)).1

  bound_is : (at : Place) (b : Bound) (n : ℕ) → bound_keeps env at b ≡ true → bound_number env.scopes.constants.list b at ≡ Some n → nat_le 1 n ≡ true
  bound_is at b n k e = (and_parts (nat_le 1 n) (nat_le n 268435456) (subst (λ o. rule_17_bound o ≡ true) e k)).0

  -- ---- what stands in another

  -- the faults in a part of a tuple, and what it is asked
  abbrev part_faults : Place → TypeTree → List TypeFault
  part_faults at x = faults_in env here x ++ part rows at (written env here x)

  record Part (at : Place) (o : Option Ty) : Type 0 where
    solid : rule_20_part o ≡ true
    value : rule_16_value o ≡ true
    complete : rule_7_value rows o ≡ true
    size : rule_18_size rows o ≡ true

  part_is : (at : Place) (o : Option Ty) → part rows at o ≡ [] → Part at o
  part_is at o e =
      let a = none_of_both (ask 20 at (rule_20_part o)) _ e in
      let b = none_of_both (ask 16 at (rule_16_value o)) _ a.1 in
      let c = none_of_both (ask 7 at (rule_7_value rows o)) _ b.1 in
      record { solid = holds 20 at _ a.0; value = holds 16 at _ b.0; complete = holds 7 at _ c.0; size = holds 18 at _ c.1 }

  whole : (at : Place) (u : Ty) → Part at (Some u) → is_whole rows u ≡ true
  whole at u p = whole_is (is_array u) (is_void u) (is_complete rows u) p.solid p.complete

  -- ---- each kind

  abbrev Checked : Type 0
  Checked = (x : TypeTree) × IsSoundOnce x

  abbrev trees : List Checked → List TypeTree
  trees cs = map (λ c. c.0) cs

  abbrev tree_of : TypeTree-F Checked → TypeTree-F TypeTree
  tree_of y = map-TypeTree Checked TypeTree (λ c. c.0) y

  basic_sound : (b : BasicType) → is_sound rows (basic_type b) ≡ true
  basic_sound basic.Byte = refl
  basic_sound basic.Sint = refl
  basic_sound basic.Usint = refl
  basic_sound basic.Int = refl
  basic_sound basic.Uint = refl
  basic_sound basic.Lint = refl
  basic_sound basic.Ulint = refl
  basic_sound basic.Void = refl

  aggregate_sound : (i : InstanceType) (u : Ty) → is_instance rows i ≡ true → ty.Aggregate i.aggregate ≡ u → is_small rows u ≡ true → is_sound rows u ≡ true
  aggregate_sound i u there e small =
      let known = (and_parts (nat_lt i.aggregate (length rows)) _ there).0 in
      subst (λ u. is_sound rows u ≡ true) e
      (is_sound-Aggregate rows i.aggregate ∙ both (nat_lt i.aggregate (length rows)) _ known (subst (λ u. is_small rows u ≡ true) (sym e) small))

  instance_sound : (name : ℕ) (os : List (Option Ty)) (u : Ty) → option_and_then (instance_type env name) (all_of os) ≡ Some u → is_small rows u ≡ true → is_sound rows u ≡ true
  unfolding instance_type
  instance_sound name os u e small =
      let a = then_some (instance_type env name) (all_of os) u e in
      let m = mapped (λ (i : InstanceType). ty.Aggregate i.aggregate) (find (lookup.is_instance name a.0) env.instances) u a.1 in
      aggregate_sound m.0 u (found_holds (lookup.is_instance name a.0) (is_instance rows) env.instances m.0 names.instances m.1) m.2 small

  named : (at : Place) (name : ℕ) (xs : List TypeTree) → IsSoundOnce (t.Named at name xs)
  named at name [] keeps none size u e = names.plain name u (sym (written-Named env here at name []) ∙ e)
  named at name (x ∷ xs) keeps none size u e =
      instance_sound name (map (written env here) (x ∷ xs)) u (sym (written-Named env here at name (x ∷ xs)) ∙ e) (small (written env here (t.Named at name (x ∷ xs))) u e size)

  parts_sound : (at : Place) (cs : List Checked) → all_keep env (map (keeps_17 env) (trees cs)) ≡ true → flat_map (part_faults at) (trees cs) ≡ []
      → (us : List Ty) → all_of (map (written env here) (trees cs)) ≡ Some us → list_all (is_part rows) us ≡ true
  parts_sound at [] keeps none us e = let same : [] ≡ us = same_Some [] us e in subst (λ us. list_all (is_part rows) us ≡ true) same refl
  parts_sound at (c ∷ cs) keeps none us e = on (written env here c.0) (parts_sound at cs kept.1 free.1) refl e
    where
      kept : (keeps_17 env c.0 ≡ true) × (all_keep env (map (keeps_17 env) (trees cs)) ≡ true)
      kept = and_parts (keeps_17 env c.0) (all_keep env (map (keeps_17 env) (trees cs))) keeps

      free : (part_faults at c.0 ≡ []) × (flat_map (part_faults at) (trees cs) ≡ [])
      free = none_of_both (part_faults at c.0) (flat_map (part_faults at) (trees cs)) none

      first : (x : Ty) → written env here c.0 ≡ Some x → is_part rows x ≡ true
      first x is =
          let f = none_of_both (faults_in env here c.0) (part rows at (written env here c.0)) free.0 in
          let p = part_is at (written env here c.0) f.1 in
          both (is_sound rows x) (is_whole rows x) (c.1 kept.0 f.0 p.size x is) (whole at x (subst (Part at) is p))

      on : (o : Option Ty) → ((us : List Ty) → all_of (map (written env here) (trees cs)) ≡ Some us → list_all (is_part rows) us ≡ true) → written env here c.0 ≡ o → all_of (o ∷ map (written env here) (trees cs)) ≡ Some us → list_all (is_part rows) us ≡ true
      on None rest is e = absurd (let g : ⊥ = cc in g)
      on (Some x) rest is e =
          let m = mapped (λ (ys : List Ty). x ∷ ys) (all_of (map (written env here) (trees cs))) us e in
          subst (λ us. list_all (is_part rows) us ≡ true) m.2 (both (is_part rows x) (list_all (is_part rows) m.0) (first x is) (rest m.0 m.1))

  tuple : (at : Place) (cs : List Checked) → IsSoundOnce (t.Tuple at (trees cs))
  tuple at cs keeps none size u e =
      let kept = sym (keeps-is (t.Tuple at (trees cs)) (TypeTree-F.Tuple at (trees cs)) (t.rolls-Tuple at (trees cs))) ∙ keeps in
      let free = none_of_both (flat_map (part_faults at) (trees cs)) (tuple_faults env here at (trees cs)) (sym (faults-Tuple env here at (trees cs)) ∙ none) in
      let m = mapped ty.Tuple (all_of (map (written env here) (trees cs))) u (sym (written-Tuple env here at (trees cs)) ∙ e) in
      let fits = small (written env here (t.Tuple at (trees cs))) u e size in
      subst (λ u. is_sound rows u ≡ true) m.2
      (is_sound-Tuple rows m.0 ∙ both (list_all (is_part rows) m.0) (is_small rows (ty.Tuple m.0)) (parts_sound at cs kept free.0 m.0 m.1) (subst (λ u. is_small rows u ≡ true) (sym m.2) fits))

  chan : (at : Place) (c : Checked) (bound : Option Bound) → IsSoundOnce (t.Chan at c.0 bound)
  chan at c bound keeps none size u e =
      let kept = and_parts (keeps_17 env c.0) (capacity_keeps env at bound) (sym (keeps-is (t.Chan at c.0 bound) (TypeTree-F.Chan at c.0 bound) (t.rolls-Chan at c.0 bound)) ∙ keeps) in
      let f = none_of_both (faults_in env here c.0) (part rows at (written env here c.0)) (sym (faults-Chan env here at c.0 bound) ∙ none) in
      let p = part_is at (written env here c.0) f.1 in
      let m = chan_some (written env here c.0) (capacity env at bound) u (sym (written-Chan env here at c.0 bound) ∙ e) in
      subst (λ u. is_sound rows u ≡ true) m.4
      (is_sound-Chan rows m.0 m.1
      ∙ both (is_sound rows m.0 && is_whole rows m.0) (nat_le m.1 4096)
      (both (is_sound rows m.0) (is_whole rows m.0) (c.1 kept.0 f.0 p.size m.0 m.2) (whole at m.0 (subst (Part at) m.2 p))) (capacity_is at bound m.1 kept.1 m.3))

  pointer : (at : Place) (c : Checked) → IsSoundOnce (t.Pointer at c.0)
  pointer at c keeps none size u e =
      let kept = sym (keeps-is (t.Pointer at c.0) (TypeTree-F.Pointer at c.0) (t.rolls-Pointer at c.0)) ∙ keeps in
      let f = none_of_both (faults_in env here c.0) (behind rows at (written env here c.0)) (sym (faults-Pointer env here at c.0) ∙ none) in
      let m = mapped ty.Pointer (written env here c.0) u (sym (written-Pointer env here at c.0) ∙ e) in
      subst (λ u. is_sound rows u ≡ true) m.2 (is_sound-Pointer rows m.0 ∙ c.1 kept f.0 (holds 18 at (rule_18_size rows (written env here c.0)) f.1) m.0 m.1)

  array : (at : Place) (bound : Bound) (c : Checked) → IsSoundOnce (t.Array at bound c.0)
  array at bound c keeps none size u e =
      let kept = and_parts (keeps_17 env c.0) (bound_keeps env at bound) (sym (keeps-is (t.Array at bound c.0) (TypeTree-F.Array at bound c.0) (t.rolls-Array at bound c.0)) ∙ keeps) in
      let f = none_of_both (faults_in env here c.0) (element rows at (written env here c.0)) (sym (faults-Array env here at bound c.0) ∙ none) in
      let a = none_of_both (ask 16 at (rule_16_value (written env here c.0))) _ f.1 in
      let b = none_of_both (ask 7 at (rule_7_value rows (written env here c.0))) _ a.1 in
      let m = array_some (written env here c.0) (bound_number env.scopes.constants.list bound at) u (sym (written-Array env here at bound c.0) ∙ e) in
      let value : not (is_void m.0) ≡ true = subst (λ o. rule_16_value o ≡ true) m.2 (holds 16 at (rule_16_value (written env here c.0)) a.0) in
      let complete : (is_void m.0 || is_complete rows m.0) ≡ true = subst (λ o. rule_7_value rows o ≡ true) m.2 (holds 7 at (rule_7_value rows (written env here c.0)) b.0) in
      let fits = small (written env here (t.Array at bound c.0)) u e size in
      subst (λ u. is_sound rows u ≡ true) m.4
      (is_sound-Array rows m.0 m.1
      ∙ both (is_sound rows m.0 && is_complete rows m.0 && nat_le 1 m.1) (is_small rows (ty.Array m.0 m.1))
      (both (is_sound rows m.0 && is_complete rows m.0) (nat_le 1 m.1)
      (both (is_sound rows m.0) (is_complete rows m.0) (c.1 kept.0 f.0 (holds 18 at (rule_18_size rows (written env here c.0)) b.1) m.0 m.2) (complete_is (is_void m.0) (is_complete rows m.0) value complete)) (bound_is at bound m.1 kept.1 m.3))
      (subst (λ u. is_small rows u ≡ true) (sym m.4) fits))

  by_parts : (y : TypeTree-F Checked) → IsSoundOnce (roll-TypeTree (tree_of y))
  by_parts (TypeTree-F.Basic at b) =
      subst IsSoundOnce (sym (t.rolls-Basic at b))
      (λ keeps none size u e. let same : basic_type b ≡ u = same_Some (basic_type b) u (sym (written-Basic env here at b) ∙ e) in subst (λ u. is_sound rows u ≡ true) same (basic_sound b))
  by_parts (TypeTree-F.Named at name cs) = subst IsSoundOnce (sym (t.rolls-Named at name (trees cs))) (named at name (trees cs))
  by_parts (TypeTree-F.Tuple at cs) = subst IsSoundOnce (sym (t.rolls-Tuple at (trees cs))) (tuple at cs)
  by_parts (TypeTree-F.Chan at c bound) = subst IsSoundOnce (sym (t.rolls-Chan at c.0 bound)) (chan at c bound)
  by_parts (TypeTree-F.Pointer at c) = subst IsSoundOnce (sym (t.rolls-Pointer at c.0)) (pointer at c)
  by_parts (TypeTree-F.Array at bound c) = subst IsSoundOnce (sym (t.rolls-Array at bound c.0)) (array at bound c)

  all_sound : (x : TypeTree) → IsSoundOnce x
  all_sound = ind-TypeTree IsSoundOnce (λ x y is. subst (λ z. IsSoundOnce (roll-TypeTree z)) is (by_parts y))

pub written_are_sound : WrittenAreSound
written_are_sound env here names x = all_sound env here names x
