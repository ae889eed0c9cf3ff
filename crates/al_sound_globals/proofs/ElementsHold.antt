-- The elements of the channel types that a text names are stored.
use Rattle.std.proofs.Common.{◌≡◌, true, List, [], ◌∷◌, ◌++◌, Option, Some, None}
use Rattle.std.specs.Prelude.{All, unwrap_or}
use Rattle.std.specs.List.{list_all}
use Rattle.std.proofs.lemmas.Bool.{and_from, and_parts}
use Rattle.std.proofs.lemmas.List.Elements.{All-head, All-nil, All-push, All-tail}
use Rattle.std.proofs.lemmas.List.Sums.{AllPass-from_list_all}
use Rattle.al_typed.specs.declared.program.Aggregate.{Aggregate}
use Rattle.al_typed.specs.declared.program.Function.{Function}
use Rattle.al_typed.specs.declared.program.Local.{Local}
use Rattle.al_typed.specs.declared.ty.Ty.{Ty, Void, Integer, Pointer', Array', Chan', Tuple', Aggregate as Aggregate_, Function', Row_of-Ty, end_of-Ty, more_of-Ty}
use Rattle.al_typed.specs.WellTyped.{are_sound, is_sound, is_stored}
use Rattle.al_environment.specs.declared.environment.Environment.{Environment}
use Rattle.al_elements.specs.Elements.{each, in_row, in_type, in_types}
use Rattle.al_elements.specs.Named.{elements, in_body, in_environment, in_function, in_global, in_instance, in_members, in_members_of, in_names, in_optional, in_signature}
use Rattle.al_sound_types.specs.Environment.{functions_hold, has_stored, is_global, is_instance, is_known, method_holds, signature_holds}
use Rattle.al_sound_types.specs.Types.{is_part}
use Rattle.al_sound_environment.proofs.WholeIs.{Holds}
use Rattle.al_sound_globals.specs.Globals.{HasSoundVariables}

module _ (rows : List Aggregate) where
  abbrev Stored : Ty → Type 0
  Stored t = is_stored rows t ≡ true

  abbrev AreStored : List Ty → Type 0
  AreStored l = All Stored l

  mutual
    type_stored : (t : Ty) (l : List Ty) → is_sound rows t ≡ true → AreStored l → AreStored (in_type t l)
    type_stored Void l s h = h
    type_stored (Integer k) l s h = h
    type_stored (Pointer' _ (more_of-Ty to end_of-Ty)) l s h = type_stored to l s h
    type_stored (Array' _ (more_of-Ty element end_of-Ty) count) l s h = type_stored element l (and_parts _ _ (and_parts _ _ (and_parts _ _ s).0).0).0 h
    type_stored (Chan' _ (more_of-Ty element end_of-Ty) capacity) l s h =
        let both = and_parts _ _ (and_parts _ _ s).0 in
        type_stored element (l ++ element ∷ []) both.0 (All-push Stored l element h (and_from _ _ both.0 (and_parts _ _ both.1).0))
    type_stored (Tuple' _ parts) l s h = row_stored parts l (and_parts _ _ s).0 h
    type_stored (Aggregate_ number) l s h = h
    type_stored (Function' _ (more_of-Ty returns end_of-Ty) _ parameters) l s h =
        let both = and_parts _ _ s in
        row_stored parameters (in_type returns l) both.1 (type_stored returns l (and_parts _ _ both.0).0 h)

    row_stored : {m : _} (row : Row_of-Ty m) (l : List Ty) → are_sound rows row ≡ true → AreStored l → AreStored (in_row row l)
    row_stored end_of-Ty l s h = h
    row_stored (more_of-Ty t rest) l s h = let both = and_parts _ _ s in row_stored rest (in_type t l) both.1 (type_stored t l (and_parts _ _ both.0).0 h)

  -- ---- of lists

  -- what keeps elements stored, where a test holds
  abbrev Keeps : {A : Type 0} → (A → List Ty → List Ty) → (A → Type 0) → Type 0
  Keeps {A} f P = (x : A) (l : List Ty) → P x → AreStored l → AreStored (f x l)

  each_stored : {A : Type 0} (f : A → List Ty → List Ty) (P : A → Type 0) → Keeps f P → (xs : List A) (l : List Ty) → All P xs → AreStored l → AreStored (each f xs l)
  each_stored f P keeps [] l all h = h
  each_stored f P keeps (x ∷ xs) l all h = each_stored f P keeps xs (f x l) (All-tail P x xs all) (keeps x l (All-head P x xs all) h)

  abbrev Sound : Ty → Type 0
  Sound t = is_sound rows t ≡ true

  pub types_stored : (ts l : List Ty) → All Sound ts → AreStored l → AreStored (in_types ts l)
  types_stored ts l all h = each_stored in_type Sound type_stored ts l all h

  tested : {A : Type 0} (f : A → List Ty → List Ty) (p : A → _) → Keeps f (λ x. p x ≡ true) → (xs : List A) (l : List Ty) → list_all p xs ≡ true → AreStored l → AreStored (each f xs l)
  tested f p keeps xs l all h = each_stored f (λ x. p x ≡ true) keeps xs l (AllPass-from_list_all p xs all) h

  stored_types : (ts l : List Ty) → list_all (is_stored rows) ts ≡ true → AreStored l → AreStored (in_types ts l)
  stored_types ts l all h = tested in_type (is_stored rows) (λ t m s. type_stored t m (and_parts _ _ s).0) ts l all h

  part_types : (ts l : List Ty) → list_all (is_part rows) ts ≡ true → AreStored l → AreStored (in_types ts l)
  part_types ts l all h = tested in_type (is_part rows) (λ t m s. type_stored t m (and_parts _ _ s).0) ts l all h

  -- ---- of what items declare

  optional_keeps : Keeps in_optional (λ o. is_known rows o ≡ true)
  optional_keeps None l s h = h
  optional_keeps (Some t) l s h = type_stored t l s h

  global_keeps : Keeps in_global (λ v. is_global rows v ≡ true)
  global_keeps v l s h = type_stored v.ty l (and_parts _ _ s).0 h

  signature_keeps : Keeps in_signature (λ f. signature_holds rows f ≡ true)
  signature_keeps f l s h =
      let both = and_parts _ _ s in
      part_types f.parameters (in_type f.returns l) both.1 (type_stored f.returns l (and_parts _ _ both.0).0 h)

  function_keeps : Keeps in_function (λ f. method_holds rows f ≡ true)
  function_keeps f l s h = signature_keeps f.signature l s h

  names_keep : Keeps in_names (λ n. functions_hold rows n ≡ true)
  names_keep n l s h = tested in_function (method_holds rows) function_keeps n.functions l s h

  instance_keeps : Keeps in_instance (λ i. is_instance rows i ≡ true)
  instance_keeps i l s h = tested in_type (is_sound rows) type_stored i.arguments l (and_parts _ _ s).1 h

  members_keep : (o : Option (List Ty)) (l : List Ty) → list_all (is_stored rows) (unwrap_or o []) ≡ true → AreStored l → AreStored (in_members_of o l)
  members_keep None l s h = h
  members_keep (Some ts) l s h = stored_types ts l s h

  row_keeps : Keeps in_members (λ a. has_stored rows a ≡ true)
  row_keeps a l s h = members_keep a.members l s h

  body_keeps : Keeps in_body (HasSoundVariables rows)
  body_keeps f l s h =
      each_stored (λ (v : Local). in_type v.ty) (λ (v : Local). is_stored rows v.ty ≡ true) (λ v m k. type_stored v.ty m (and_parts _ _ k).0) f.locals (in_type f.returns l) s.locals
      (type_stored f.returns l s.returns h)

  pub rows_stored : (fs : List Function) (l : List Ty) → All (HasSoundVariables rows) fs → AreStored l → AreStored (each in_body fs l)
  rows_stored fs l all h = each_stored in_body (HasSoundVariables rows) body_keeps fs l all h

module _ (env : Environment) (holds : Holds env) where
  abbrev rows_of : List Aggregate
  rows_of = env.aggregates

  environment_stored : (l : List Ty) → AreStored rows_of l → AreStored rows_of (in_environment env l)
  unfolding in_environment
  environment_stored l h =
      let a = each in_optional env.types l in
      let b = each in_global env.globals a in
      let c = each in_signature env.functions b in
      let d = each in_names env.names c in
      let e = each in_instance env.instances d in
      tested rows_of in_members (has_stored rows_of) (row_keeps rows_of) env.aggregates e holds.rows
      (tested rows_of in_instance (is_instance rows_of) (instance_keeps rows_of) env.instances d holds.instances
      (tested rows_of in_names (functions_hold rows_of) (names_keep rows_of) env.names c holds.methods
      (tested rows_of in_signature (signature_holds rows_of) (signature_keeps rows_of) env.functions b holds.functions
      (tested rows_of in_global (is_global rows_of) (global_keeps rows_of) env.globals a holds.globals
      (tested rows_of in_optional (is_known rows_of) (optional_keeps rows_of) env.types l holds.types h)))))

  pub elements_stored : (fs : List Function) (initial written : List Ty) → All (HasSoundVariables rows_of) fs → All (Sound rows_of) initial → All (Sound rows_of) written
      → AreStored rows_of (elements env fs initial written)
  unfolding elements
  elements_stored fs initial written all first second =
      let a = in_environment env [] in
      let b = each in_body fs a in
      types_stored rows_of written (in_types initial b) second
      (types_stored rows_of initial b first (rows_stored rows_of fs a all (environment_stored [] (All-nil (Stored rows_of)))))
