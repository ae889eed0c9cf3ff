-- The signatures of functions outside of adts are those of their definitions.
use Rattle.std.proofs.Common.{◌≡◌, ℕ, ◌<◌, Bool, true, false, ◌&&◌, nat_eq, cond, List, [], ◌∷◌, ◌++◌, fold, Option, Some, None, option_map, ◌⊎◌, inl, inr, refl, sym, ap, ◌∙◌, subst}
use Rattle.std.specs.Prelude.{codes, is_some, slice_get}
use Rattle.std.specs.List.{Contains}
use Rattle.std.proofs.lemmas.Option.{slice_get_within}
use Rattle.al_base.specs.declared.arith.Kind.TheVariants as kind
use Rattle.al_tree.specs.Constants.{values}
use Rattle.al_tree.specs.declared.constants.EnumConstant.{EnumConstant}
use Rattle.al_tree.specs.declared.item.Head.{Head}
use Rattle.al_tree.specs.declared.item.Tree.{Tree}
use Rattle.al_tree.specs.declared.type_tree.TypeTree.{TypeTree}
use Rattle.al_rules.specs.Outcome.{Good}
use Rattle.al_scope.specs.declared.declaration.Declaration.TheVariants as declaration
use Rattle.al_scope.specs.declared.declaration.Resolved.{Resolved}
use Rattle.al_scope.specs.declared.declaration.Scopes.{Scopes}
use Rattle.al_scope.specs.Firsts.{declaration_at}
use Rattle.al_scope.specs.Names.{begun, known, known_if, latest, numbered, own_names}
use Rattle.al_scope.specs.Types.{each}
use Rattle.al_scope.specs.Items.{item_way, resolved, scopes_of}
use Rattle.al_declare.specs.Asking.{begun as undeclared, text_of}
use Rattle.al_declare.specs.Types as dt
use Rattle.al_declare.specs.Items.{names_hold}
use Rattle.al_declare.specs.Items as di
use Rattle.al_declare.specs.declared.function.Defined.{Defined}
use Rattle.al_declare.specs.Functions.{functions}
use Rattle.al_typed.specs.declared.ty.Ty.{Ty}
use Rattle.al_typed.specs.declared.ty.Ty.TheVariants as ty
use Rattle.al_typed.specs.Types.{byte_pointer, int, is_void}
use Rattle.al_convert.specs.Same.{is_of_kind, passes, pointed, same, same_list}
use Rattle.al_convert.proofs.SameIs.{same-Void, same-Integer, same-Pointer}
use Rattle.al_poly.specs.declared.instance.Instance.{Instance}
use Rattle.al_environment.specs.declared.environment.Environment.{Environment}
use Rattle.al_environment.specs.declared.environment.MemberNames.{MemberNames}
use Rattle.al_environment.specs.declared.environment.Signature.{Signature}
use Rattle.al_environment.specs.Lookups.{function}
use Rattle.al_type_rules.specs.Types.{signature}
use Rattle.al_adt_functions.specs.Owned.{here_in}
use Rattle.al_type_function.specs.Own.{own_adt}
use Rattle.al_globals.specs.Numbers.{numbers, number_of}
use Rattle.al_globals.specs.Rules.{is_byte_pointer, parameters_of_main, points_to_bytes, rest_of_main, rule_4_main, same_signature}
use Rattle.al_globals.specs.declared.found.Found.{Found}
use Rattle.al_globals.specs.Globals.{asked_main, begun as nothing, function_at, globals, main_of, outside, start, with_faults, with_item}
use Rattle.al_form.specs.Forms.{forms}
use Rattle.al_build_environment.specs.Whole.{types_of, with_names}
use Rattle.al_sound_operators.proofs.TypeForms.{of_kind_is, pointer_is, void_is}
use Rattle.al_tree_places.specs.Entries.{IsFound}
use Rattle.al_sound_calls.specs.Calls.{FunctionsLead, HasMainTypes, IsChecked, LeadsToFunction, LeadsToMain}
use Rattle.al_sound_rows.specs.Units.{signature_of}
use Rattle.al_sound_calls.proofs.Unnamed.{Asked, Known, Text, Walk}
use Rattle.al_sound_calls.proofs.Lists.{Every, and_both, asked_true, every_at, judged_good, none_in, some_is}
use Rattle.al_sound_calls.proofs.BuiltIs.{is_built}
use Rattle.al_sound_calls.proofs.Joint.{IsGood, Joint}
use Rattle.al_sound_calls.proofs.FunctionMoves.{function_is, get_there}
use Rattle.al_sound_calls.proofs.ItemMoves.{ItemDone, items_done}
use Rattle.al_sound_calls.proofs.NumbersAre.{IsNamed, numbers_are}
use Rattle.al_sound_calls.proofs.SameTypes.{signature_same}

-- nothing that the language has is a function outside of adts
none_known : (a b : Option ℕ) (q n : ℕ) → latest (known_if declaration.Print a ++ known_if declaration.Terminate b) q ≡ Some (declaration.Function n) → ⊥
unfolding latest
none_known None None q n h = let f : ⊥ = cc in f
none_known (Some x) None q n h = go (nat_eq x q) h
  where
    go : (c : Bool) → option_map (λ (k : Known). k.declaration) (cond c (Some (known x declaration.Print)) None) ≡ Some (declaration.Function n) → ⊥
    go true h = let f : ⊥ = cc in f
    go false h = let f : ⊥ = cc in f
none_known None (Some y) q n h = go (nat_eq y q) h
  where
    go : (c : Bool) → option_map (λ (k : Known). k.declaration) (cond c (Some (known y declaration.Terminate)) None) ≡ Some (declaration.Function n) → ⊥
    go true h = let f : ⊥ = cc in f
    go false h = let f : ⊥ = cc in f
none_known (Some x) (Some y) q n h = go (nat_eq y q) (nat_eq x q) h
  where
    go : (c d : Bool) → option_map (λ (k : Known). k.declaration) (cond c (Some (known y declaration.Terminate)) (cond d (Some (known x declaration.Print)) None)) ≡ Some (declaration.Function n) → ⊥
    go true d h = let f : ⊥ = cc in f
    go false true h = let f : ⊥ = cc in f
    go false false h = let f : ⊥ = cc in f

-- ---- the walks of a text, at their ends

module _ (tree : Tree) (scopes : Scopes) (env : Environment) (ns : List (Option ℕ)) (same : env.scopes ≡ scopes) where
  abbrev c : List EnumConstant
  c = values tree.items

  abbrev text : Text
  text = text_of tree

  abbrev walked : Walk
  walked = each item_way tree.items c (begun tree.names)

  abbrev asked : Asked
  asked = dt.each di.item_way tree.items text undeclared

  abbrev told : Found
  told = fold (with_item env outside ns) nothing tree.items

  begun_joint : Joint env ns (begun tree.names) undeclared nothing
  unfolding own_names
  begun_joint = record {
    stands = λ n x e. absurd (cc);
    named = λ n q e. absurd (none_known (numbered (codes "print") tree.names) (numbered (codes "terminate") tree.names) q n e);
    declared = λ n x e. absurd (cc);
    count = refl;
    numbered = λ n x s e i. absurd (cc);
  }

  pub record IsEnded : Type 0 where
    pub joint : Joint env ns walked asked told
    pub done : Every (ItemDone env ns text c walked told) tree.items
    pub main : rule_4_main (function_at told.functions (main_of tree.names env.scopes.functions)) ≡ true

  names_asked : names_hold tree ≡ Good tt → asked.faults ≡ []
  unfolding names_hold
  names_asked h = (judged_good asked.faults tt tt h).0

  found_at : resolved tree ≡ Good scopes → IsFound tree scopes → (r : Resolved) → Contains walked.names r → declaration_at env.scopes.names r.at ≡ Some r.declaration
  unfolding resolved scopes_of
  found_at h f r i =
      let e = (judged_good walked.faults (scopes_of c walked) scopes h).1 in
      ap (λ (s : Scopes). declaration_at s.names r.at) same ∙ f.found r (subst (λ (s : Scopes). Contains s.names r) e i)

  pub ended : (found : Found) → resolved tree ≡ Good scopes → IsFound tree scopes → names_hold tree ≡ Good tt → globals env tree ns ≡ Good found → (told.functions ≡ found.functions) × IsEnded
  unfolding globals
  ended found r f h g =
      let main = asked_main tree env told in
      let all = with_faults told main in
      let j = judged_good all.faults (record { globals = told.globals; values = told.values; functions = told.functions; faults = [] }) found g in
      let no = none_in told.faults main j.0 in
      let m = items_done env ns text c tree.items (begun tree.names) undeclared nothing in
      let good : IsGood env ns walked asked told = record { found = found_at r f; asked = names_asked h; told = no.0 } in (
        ap (λ (x : Found). x.functions) j.1,
        record {
          joint = (m.0.joint good begun_joint).0;
          done = m.1 good begun_joint;
          main = asked_true 4 start (rule_4_main (function_at told.functions (main_of tree.names env.scopes.functions))) no.1;
        },
      )

  -- the signature of that number, and a definition with the same types
  pub record IsFor (ds : List Defined) (number : ℕ) (f : Signature) : Type 0 where
    pub named : (name : ℕ) × IsNamed tree.items ds name number
    pub alike : same_signature f (signature env outside named.1.base named.1.head.stars named.1.head.parameters) ≡ true

  pub for_number : (ds : List Defined) → ns ≡ numbers tree.names tree.items ds → IsEnded → (n number : ℕ) (f : Signature) → slice_get told.functions n ≡ Some f → f.number ≡ Some number → IsFor ds number f
  for_number ds is e n number f at num =
      let x = get_there walked.functions n (subst (λ k. n < k) e.joint.count (slice_get_within told.functions n f at)) in
      let k : number_of ns x.0.name ≡ Some number = sym (e.joint.numbered n x.0 f x.1 at) ∙ num in
      let d = numbers_are tree.names tree.items ds x.0.name number (ap (λ l. number_of l x.0.name) (sym is) ∙ k) in
      let i = every_at (ItemDone env ns text c walked told) tree.items d.defined.item _ d.stands e.done d.outside in
      let same_name : i.name.name ≡ x.0.name = i.named ∙ d.named in
      let same_number : n ≡ i.number = function_is (sym (e.joint.stands n x.0 x.1) ∙ sym (ap (latest walked.known) same_name) ∙ e.joint.stands i.number i.name i.is) in
      let same_function : f ≡ i.signature_of = some_is (sym at ∙ ap (slice_get told.functions) same_number ∙ i.found) in
      record {
        named = (x.0.name, d);
        alike = ap (λ g. same_signature g (signature env outside d.base d.head.stars d.head.parameters)) same_function ∙ i.alike;
      }

-- ---- main

main_returns : (s t : Signature) → is_void s.returns ≡ true → same false s.returns t.returns ≡ true → t.returns ≡ ty.Void
main_returns s t v e = void_is t.returns (sym (same-Void false t.returns) ∙ ap (λ x. same false x t.returns) (sym (void_is s.returns v)) ∙ e)

some_passes : (x : Ty) (o : Option Ty) → passes (same false x) o ≡ true → (y : Ty) × (o ≡ Some y) × (same false x y ≡ true)
some_passes x None h = absurd (cc)
some_passes x (Some y) h = (y, refl, h)

same_pointer : (x t : Ty) → same false (ty.Pointer x) t ≡ true → (y : Ty) × (t ≡ ty.Pointer y) × (same false x y ≡ true)
same_pointer x t h = let y = some_passes x (pointed t) (sym (same-Pointer false x t) ∙ h) in (y.0, pointer_is t y.0 y.1, y.2)

-- what points to a pointer to bytes
bytes_is : (o : Option Ty) → points_to_bytes o ≡ true → o ≡ Some byte_pointer
bytes_is None h = absurd (cc)
bytes_is (Some t) h = ap Some (go (pointed t) refl h)
  where
    go : (p : Option Ty) → pointed t ≡ p → is_byte_pointer p ≡ true → t ≡ byte_pointer
    go None is h = absurd (cc)
    go (Some u) is h = pointer_is t u is ∙ ap ty.Pointer (of_kind_is kind.Byte u h)

same_bytes : (t : Ty) → same false (ty.Pointer byte_pointer) t ≡ true → t ≡ ty.Pointer byte_pointer
same_bytes t h =
    let y = same_pointer byte_pointer t h in
    let z = same_pointer (ty.Integer kind.Byte) y.0 y.2 in
    y.1 ∙ ap ty.Pointer (z.1 ∙ ap ty.Pointer (of_kind_is kind.Byte z.0 (sym (same-Integer false kind.Byte z.0) ∙ z.2)))

main_parameters : (xs ys : List Ty) → parameters_of_main xs ≡ true → same_list false xs ys ≡ true → (ys ≡ []) ⊎ (ys ≡ int ∷ ty.Pointer byte_pointer ∷ [])
main_parameters [] [] h e = inl refl
main_parameters [] (y ∷ ys) h e = absurd (cc)
main_parameters (x ∷ xs) [] h e = absurd (cc)
main_parameters (x ∷ []) (y ∷ ys) h e = absurd (let k : false ≡ true = (and_both (is_of_kind kind.Int x) false h).1 in cc)
main_parameters (x ∷ z ∷ []) (y ∷ []) h e = absurd (let k : false ≡ true = (and_both (same false x y) false e).1 in cc)
main_parameters (x ∷ z ∷ []) (y ∷ u ∷ []) h e =
    let p = and_both (is_of_kind kind.Int x) (rest_of_main (z ∷ [])) h in
    let q = and_both (same false x y) (same_list false (z ∷ []) (u ∷ [])) e in
    let r = and_both (same false z u) true q.1 in
    let first : y ≡ int = of_kind_is kind.Int y (sym (same-Integer false kind.Int y) ∙ ap (λ t. same false t y) (sym (of_kind_is kind.Int x p.0)) ∙ q.0) in
    let bytes : z ≡ ty.Pointer byte_pointer = pointer_is z byte_pointer (bytes_is (pointed z) p.1) in
    let second : u ≡ ty.Pointer byte_pointer = same_bytes u (ap (λ t. same false t u) (sym bytes) ∙ r.0) in
    inr (ap (λ t. t ∷ u ∷ []) first ∙ ap (λ t. int ∷ t ∷ []) second)
main_parameters (x ∷ z ∷ []) (y ∷ u ∷ v ∷ ys) h e =
    let q = and_both (same false x y) (same_list false (z ∷ []) (u ∷ v ∷ ys)) e in
    absurd (let k : false ≡ true = (and_both (same false z u) false q.1).1 in cc)
main_parameters (x ∷ z ∷ w ∷ xs) (y ∷ ys) h e =
    let p = and_both (is_of_kind kind.Int x) (rest_of_main (z ∷ w ∷ xs)) h in
    absurd (let k : false ≡ true = (and_both false (points_to_bytes (pointed z)) p.1).0 in cc)

main_types : (s t : Signature) → rule_4_main (Some s) ≡ true → same_signature s t ≡ true → HasMainTypes t
main_types s t h e =
    let p = and_both (is_some s.number) (is_void s.returns && parameters_of_main s.parameters) h in
    let q = and_both (is_void s.returns) (parameters_of_main s.parameters) p.1 in
    let r = and_both (same false s.returns t.returns) (same_list false s.parameters t.parameters) e in
    record { returns = main_returns s t q.0 r.0; parameters = main_parameters s.parameters t.parameters q.1 r.1 }

-- ---- the law

module _ (tree : Tree) (is : List Instance) (scopes : Scopes) (env : Environment) (checked : IsChecked tree is scopes env) where
  abbrev ds : List Defined
  ds = functions tree.items is

  abbrev ns : List (Option ℕ)
  ns = numbers tree.names tree.items ds

  types_at : (types : Environment) (names : List MemberNames) (found : Found) → with_names types names found ≡ env → (d : Defined) (base : TypeTree) (head : Head) → head.owner ≡ None
      → signature types outside base head.stars head.parameters ≡ signature_of env d base head
  types_at types names found made d base head o =
      sym (signature_same types names found outside base head.stars head.parameters)
      ∙ ap (λ e. signature e outside base head.stars head.parameters) made
      ∙ ap (λ p. signature env (here_in (own_adt env p d.instance)) base head.stars head.parameters) (sym o)

  lead : (n number : ℕ) (f : Signature) → function env n ≡ Some f → f.number ≡ Some number
      → LeadsToFunction env tree ds number f × (main_of tree.names env.scopes.functions ≡ Some n → rule_4_main (Some f) ≡ true)
  lead n number f at num =
      let b = is_built tree is scopes env checked.environment in
      let types = types_of tree (forms tree is) scopes b.laid in
      let e = ended tree scopes types ns refl b.found checked.resolved checked.found checked.named b.found_is in
      let there = ap (λ (l : List Signature). slice_get l n) (e.0 ∙ ap (λ (x : Environment). x.functions) b.made) ∙ at in
      let i = for_number tree scopes types ns refl ds refl e.1 n number f there num in
      let d = i.named.1 in (
        record {
          defined = d.defined;
          base = d.base;
          head = d.head;
          is = record { numbered = d.numbered; at = d.at; scope = d.scope; body = d.body; stands = d.stands };
          outside = d.outside;
          types = ap (same_signature f) (sym (types_at types b.names b.found b.made d.defined d.base d.head d.outside)) ∙ i.alike;
        },
        λ m.
            let k = ap (λ (x : Environment). main_of tree.names x.scopes.functions) b.made ∙ m in
            sym (ap rule_4_main (ap (function_at _) k ∙ there)) ∙ e.1.main,
      )

  lead_main : (n number : ℕ) (f : Signature) → main_of tree.names env.scopes.functions ≡ Some n → function env n ≡ Some f → f.number ≡ Some number → LeadsToMain env tree ds number
  lead_main n number f m at num =
      let l = lead n number f at num in
      let g = l.0 in
      record { defined = g.defined; base = g.base; head = g.head; is = g.is; types = main_types f (signature_of env g.defined g.base g.head) (l.1 m) g.types }

pub functions_lead : FunctionsLead
functions_lead = record {
  functions = λ tree is scopes env k n number f at num. (lead tree is scopes env k n number f at num).0;
  main = lead_main;
}
