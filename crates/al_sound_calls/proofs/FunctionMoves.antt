-- What becomes of functions outside of adts where a global, an enum constant or a function is declared.
use Rattle.std.proofs.Common.{◌≡◌, ℕ, zero, suc, ◌<◌, Bool, true, false, ◌&&◌, nat_eq, List, [], ◌∷◌, ◌++◌, length, Option, Some, None, arith, refl, sym, ap, ap₂, ◌∙◌, subst, ◌⊎◌, inl, inr}
use Rattle.std.specs.Prelude.{if◌then◌else◌, slice_get}
use Rattle.std.specs.List.{Contains}
use Rattle.std.proofs.lemmas.List.Elements.{Contains-append_left, Contains-append_right}
use Rattle.std.proofs.lemmas.Bool.{eqb-true}
use Rattle.std.proofs.lemmas.Option.{slice_get_within}
use Rattle.al_tree.specs.declared.expression.Name.{Name}
use Rattle.al_tree.specs.declared.type_tree.TypeTree.{TypeTree}
use Rattle.al_tree.specs.declared.item.Head.{Head}
use Rattle.al_rules.specs.Outcome.{ask}
use Rattle.al_scope.specs.declared.declaration.Declaration.{Declaration}
use Rattle.al_scope.specs.declared.declaration.Declaration.TheVariants as declaration
use Rattle.al_scope.specs.declared.declaration.Resolved.{Resolved}
use Rattle.al_scope.specs.Firsts.{declaration_at}
use Rattle.al_scope.specs.Names.{declared, found, function, global, constant, is_function, is_global, latest, meant, resolved}
use Rattle.al_declare.specs.Rules.{what_number}
use Rattle.al_declare.specs.Asking.{file_name}
use Rattle.al_declare.specs.Asking as declare
use Rattle.al_environment.specs.declared.environment.Environment.{Environment}
use Rattle.al_environment.specs.declared.environment.Signature.{Signature}
use Rattle.al_type_rules.specs.Written.{faults_in}
use Rattle.al_type_rules.specs.Types.{signature, signature_faults}
use Rattle.al_globals.specs.Numbers.{number_of}
use Rattle.al_globals.specs.Rules.{rule_2_6_function, same_signature}
use Rattle.al_globals.specs.declared.found.Found.{Found}
use Rattle.al_globals.specs.Globals.{first_signature, function_in, numbered, outside, rule_of, with_faults, with_plain_head, with_signature_if, with_type}
use Rattle.al_sound_calls.proofs.Unnamed.{Asked, Declared, Text, Walk}
use Rattle.al_sound_calls.proofs.Lists.{asked_true, get_either, get_last, get_more, get_past, length_more, none_in, put, put_last, put_same}
use Rattle.al_sound_calls.proofs.Walks.{found_stays}
use Rattle.al_sound_calls.proofs.Declares.{nil_first}
use Rattle.al_sound_calls.proofs.Joint.{IsGood, IsStill, Joint, Lasts, Moves, is_function_name, latest_from, latest_is, latest_other, meant_from, replace, stay}
use Rattle.al_sound_calls.proofs.FunctionNames.{name_is, name_kept, name_told, no_function}
use Rattle.al_sound_calls.proofs.SameSelf.{list_self, same_self}

pub function_is : {m n : ℕ} → Some (declaration.Function m) ≡ Some (declaration.Function n) → m ≡ n
function_is h = cc

pub get_there : {A : Type 0} (xs : List A) (n : ℕ) → n < length xs → (x : A) × (slice_get xs n ≡ Some x)
get_there [] n h = absurd (omega (arith, h))
get_there (x ∷ xs) zero h = (x, refl)
get_there (x ∷ xs) (suc n) h = get_there xs n (omega (arith, h))

module _ (env : Environment) (ns : List (Option ℕ)) (text : Text) where
  -- ---- a global, and an enum constant

  pub global_moves : (name : Name) (d : Declared) → nat_eq (what_number d.what) 5 ≡ false → (w : Walk) (a : Asked) {g h : Found} → IsStill g h
      → Moves env ns w a g (global name w) (file_name name d text a) h
  unfolding global
  global_moves name d other w a {g} {h} t = on (meant w name.name)
    where
      u : Asked
      u = file_name name d text a

      new : Moves env ns w a g (declared name (declaration.Global (length w.globals)) (record w { globals = w.globals ++ name ∷ [] })) u h
      new =
          replace env ns name.name (declaration.Global (length w.globals)) (λ n e. absurd (cc))
          (record { known = refl; functions = refl; names = λ r i. Contains-append_left w.names (_ ∷ []) r i })
          (λ f. no_function (declare.found a.names name.name) d other (name_told text name d a f)) (name_kept text name d a) t

      on : (m : Option Declaration) → Moves env ns w a g (if is_global m then found name.at m w else declared name (declaration.Global (length w.globals)) (record w { globals = w.globals ++ name ∷ [] })) u h
      on None = new
      on (Some (declaration.Global n)) = stay env ns (found_stays name.at (Some (declaration.Global n)) w) (name_kept text name d a) t
      on (Some (declaration.Function n)) = new
      on (Some (declaration.Constant n)) = new
      on (Some (declaration.Local n)) = new
      on (Some (declaration.Outer around n)) = new
      on (Some declaration.Print) = new
      on (Some declaration.Terminate) = new

  pub constant_moves : (name : Name) (d : Declared) → nat_eq (what_number d.what) 5 ≡ false → (w : Walk) (a : Asked) {g h : Found} → IsStill g h
      → Moves env ns w a g (constant name w) (file_name name d text a) h
  unfolding constant
  constant_moves name d other w a {g} {h} t =
      replace env ns name.name (declaration.Constant (length w.constants)) (λ n e. absurd (cc))
      (record { known = refl; functions = refl; names = λ r i. Contains-append_left w.names (_ ∷ []) r i })
      (λ f. no_function (declare.found a.names name.name) d other (name_told text name d a f)) (name_kept text name d a) t

  -- ---- a function

  -- a head has that function's signature
  pub record IsHead (w : Walk) (g : Found) (base : TypeTree) (h : Head) : Type 0 where
    pub number : ℕ
    pub name : Name
    pub is : slice_get w.functions number ≡ Some name
    pub named : name.name ≡ h.name.name
    pub signature_of : Signature
    pub found : slice_get g.functions number ≡ Some signature_of
    pub alike : same_signature signature_of (signature env outside base h.stars h.parameters) ≡ true
    pub faultless : signature_faults env outside h.name.at base h.stars h.parameters ≡ []

  pub head_lasts : {w u : Walk} {g k : Found} {base : TypeTree} {h : Head} → Lasts w g u k → IsHead w g base h → IsHead u k base h
  head_lasts l i = record {
    number = i.number;
    name = i.name;
    is = l.functions i.number i.name i.is;
    named = i.named;
    signature_of = i.signature_of;
    found = l.signatures i.number i.signature_of i.found;
    alike = i.alike;
    faultless = i.faultless;
  }

  module _ (d : Declared) (kind : nat_eq (what_number d.what) 5 ≡ true) (b : Bool) (base : TypeTree) (h : Head) (w : Walk) (a : Asked) (g : Found) where
    abbrev name : Name
    name = h.name

    abbrev s : Signature
    s = numbered ns name.name (signature env outside base h.stars h.parameters)

    abbrev written : Found
    written = with_faults (with_type env outside g base) (signature_faults env outside name.at base h.stars h.parameters)

    abbrev after : Asked
    after = file_name name d text a

    abbrev at : Option ℕ
    at = function_in (declaration_at env.scopes.names name.at)

    abbrev told : Found
    told = with_plain_head env outside ns b base g h

    abbrev given : Option ℕ → Found
    given o = with_signature_if written name.at (rule_of b) o s

    told_is : told ≡ given at
    unfolding with_plain_head
    told_is = refl

    given_back : (o : Option ℕ) → (given o).faults ≡ [] → written.faults ≡ []
    given_back None f = f
    given_back (Some n) f = nil_first written.faults (ask (rule_of b) name.at (rule_2_6_function (slice_get g.functions n) s)) f

    written_back : told.faults ≡ [] → written.faults ≡ []
    written_back f = given_back at (ap (λ (x : Found). x.faults) (sym told_is) ∙ f)

    told_back : told.faults ≡ [] → g.faults ≡ []
    told_back f =
        nil_first g.faults (faults_in env outside base)
        (nil_first (g.faults ++ faults_in env outside base) (signature_faults env outside name.at base h.stars h.parameters) (written_back f))

    no_faults : told.faults ≡ [] → signature_faults env outside name.at base h.stars h.parameters ≡ []
    no_faults f = (none_in (g.faults ++ faults_in env outside base) (signature_faults env outside name.at base h.stars h.parameters) (written_back f)).1

    -- where its number is known
    at_number : (n : ℕ) → at ≡ Some n → told.functions ≡ put g.functions n (first_signature (slice_get g.functions n) s)
    at_number n e = ap (λ (x : Found). x.functions) told_is ∙ ap (λ o. (given o).functions) e

    rule_told : (n : ℕ) → at ≡ Some n → told.faults ≡ [] → rule_2_6_function (slice_get g.functions n) s ≡ true
    rule_told n e f =
        asked_true (rule_of b) name.at (rule_2_6_function (slice_get g.functions n) s)
        (none_in written.faults (ask (rule_of b) name.at (rule_2_6_function (slice_get g.functions n) s)) (sym (ap (λ o. (given o).faults) e) ∙ sym (ap (λ (x : Found). x.faults) told_is) ∙ f)).1

    number_at : (u : Walk) (n : ℕ) → IsGood env ns u after told → Contains u.names (resolved name.at (declaration.Function n)) → at ≡ Some n
    number_at u n x i = ap function_in (x.found (resolved name.at (declaration.Function n)) i)

    back : {u : Walk} → ((r : Resolved) → Contains w.names r → Contains u.names r) → IsGood env ns u after told → IsGood env ns w a g
    back more x = record { found = λ r i. x.found r (more r i); asked = (name_kept text name d a).faults x.asked; told = told_back x.told }

    abbrev HeadMoves : Walk → Type 0
    HeadMoves u = Moves env ns w a g u after told × (IsGood env ns u after told → Joint env ns w a g → IsHead u told base h)

    in_names : (n : ℕ) → Contains (w.names ++ resolved name.at (declaration.Function n) ∷ []) (resolved name.at (declaration.Function n))
    in_names n = Contains-append_right w.names (resolved name.at (declaration.Function n) ∷ []) (resolved name.at (declaration.Function n)) (0, omega arith, refl)

    -- it was declared before
    module _ (n : ℕ) (is : meant w name.name ≡ Some (declaration.Function n)) where
      abbrev old_walk : Walk
      old_walk = found name.at (Some (declaration.Function n)) w

      record IsOld : Type 0 where
        there : Name
        at_there : slice_get w.functions n ≡ Some there
        same_name : there.name ≡ name.name
        first : Signature
        at_first : slice_get g.functions n ≡ Some first
        same_functions : told.functions ≡ g.functions
        same_types : same_signature first s ≡ true

      old_is : IsGood env ns old_walk after told → Joint env ns w a g → IsOld
      old_is x j =
          let y = j.named n name.name (latest_from w name.name n is) in
          let k = slice_get_within w.functions n y.0 y.1 in
          let f = get_there g.functions n (subst (λ m. n < m) (sym j.count) k) in
          let e = number_at old_walk n x (in_names n) in
          let r = rule_told n e x.told in
          record {
            there = y.0;
            at_there = y.1;
            same_name = y.2;
            first = f.0;
            at_first = f.1;
            same_functions = at_number n e ∙ ap (λ o. put g.functions n (first_signature o s)) f.1 ∙ put_same g.functions n f.0 f.1;
            same_types = sym (ap (λ o. rule_2_6_function o s) f.1) ∙ r;
          }

      old_moves : HeadMoves old_walk
      old_moves = (
        record {
          good = back {u = old_walk} (found_stays name.at (Some (declaration.Function n)) w).names;
          joint = λ x j.
              let o = old_is x j in
              (stay env ns (found_stays name.at (Some (declaration.Function n)) w) (name_kept text name d a)
              (record { functions = o.same_functions; faults = told_back })).joint x j;
        },
        λ x j.
            let o = old_is x j in
            record {
              number = n;
              name = o.there;
              is = o.at_there;
              named = o.same_name;
              signature_of = o.first;
              found = ap (λ (l : List Signature). slice_get l n) o.same_functions ∙ o.at_first;
              alike = o.same_types;
              faultless = no_faults x.told;
            },
      )

    -- it is new
    module _ (free : (n : ℕ) → meant w name.name ≡ Some (declaration.Function n) → ⊥) where
      abbrev count : ℕ
      count = length w.functions

      abbrev new_walk : Walk
      new_walk = declared name (declaration.Function count) (record w { functions = w.functions ++ name ∷ [] })

      new_functions : IsGood env ns new_walk after told → Joint env ns w a g → told.functions ≡ g.functions ++ s ∷ []
      new_functions x j =
          at_number count (number_at new_walk count x (in_names count))
          ∙ ap (λ n. put g.functions n (first_signature (slice_get g.functions n) s)) (sym j.count)
          ∙ ap (λ o. put g.functions (length g.functions) (first_signature o s)) (get_past g.functions) ∙ put_last g.functions s

      signature_at : IsGood env ns new_walk after told → Joint env ns w a g → slice_get told.functions count ≡ Some s
      signature_at x j = ap (λ (l : List Signature). slice_get l count) (new_functions x j) ∙ ap (slice_get (g.functions ++ s ∷ [])) (sym j.count) ∙ get_last g.functions s

      stands : Joint env ns w a g → (n : ℕ) (y : Name) → slice_get (w.functions ++ name ∷ []) n ≡ Some y → latest new_walk.known y.name ≡ Some (declaration.Function n)
      stands j n y e = go (get_either w.functions name n y e)
        where
          by : slice_get w.functions n ≡ Some y → (c : Bool) → nat_eq name.name y.name ≡ c → latest new_walk.known y.name ≡ Some (declaration.Function n)
          by old true is = absurd (free n (meant_from w name.name n (ap (latest w.known) (eqb-true name.name y.name is) ∙ j.stands n y old)))
          by old false is = latest_other w.known name.name (declaration.Function count) y.name is ∙ j.stands n y old

          go : (slice_get w.functions n ≡ Some y) ⊎ ((n ≡ count) × (name ≡ y)) → latest new_walk.known y.name ≡ Some (declaration.Function n)
          go (inl old) = by old (nat_eq name.name y.name) refl
          go (inr new) =
              ap (λ (z : Name). latest new_walk.known z.name) (sym new.1) ∙ latest_is w.known name.name (declaration.Function count) ∙ ap (λ k. Some (declaration.Function k)) (sym new.0)

      named_by : Joint env ns w a g → (n q : ℕ) → latest new_walk.known q ≡ Some (declaration.Function n) → (c : Bool) → nat_eq name.name q ≡ c
          → (y : Name) × (slice_get (w.functions ++ name ∷ []) n ≡ Some y) × (y.name ≡ q)
      named_by j n q e true is =
          let same = function_is found_there in
          (name, ap (slice_get (w.functions ++ name ∷ [])) (sym same) ∙ get_last w.functions name, eqb-true name.name q is)
        where
          found_there : Some (declaration.Function count) ≡ Some (declaration.Function n)
          found_there = sym (latest_is w.known name.name (declaration.Function count)) ∙ ap (latest new_walk.known) (eqb-true name.name q is) ∙ e
      named_by j n q e false is =
          let y = j.named n q (sym (latest_other w.known name.name (declaration.Function count) q is) ∙ e) in
          (y.0, get_more w.functions name n y.0 y.1, y.2)

      declared_by : IsGood env ns new_walk after told → Joint env ns w a g → (n : ℕ) (y : Name) → (slice_get w.functions n ≡ Some y) ⊎ ((n ≡ count) × (name ≡ y))
          → is_function_name (declare.found after.names y.name) ≡ true
      declared_by x j n y (inl old) = (name_kept text name d a).names y.name (j.declared n y old)
      declared_by x j n y (inr new) = ap (λ (z : Name). is_function_name (declare.found after.names z.name)) (sym new.1) ∙ name_is text name d a kind x.asked

      numbered_by : IsGood env ns new_walk after told → Joint env ns w a g → (n : ℕ) (y : Name) (f : Signature) → (slice_get w.functions n ≡ Some y) ⊎ ((n ≡ count) × (name ≡ y))
          → slice_get (g.functions ++ s ∷ []) n ≡ Some f → f.number ≡ number_of ns y.name
      numbered_by x j n y f (inl old) e = go (get_either g.functions s n f e)
        where
          go : (slice_get g.functions n ≡ Some f) ⊎ ((n ≡ length g.functions) × (s ≡ f)) → f.number ≡ number_of ns y.name
          go (inl i) = j.numbered n y f old i
          go (inr i) = let k = slice_get_within w.functions n y old in let p = i.0 ∙ j.count in absurd (omega (arith, k, p))
      numbered_by x j n y f (inr new) e = go (get_either g.functions s n f e)
        where
          go : (slice_get g.functions n ≡ Some f) ⊎ ((n ≡ length g.functions) × (s ≡ f)) → f.number ≡ number_of ns y.name
          go (inl i) = let k = slice_get_within g.functions n f i in let p = new.0 ∙ sym j.count in absurd (omega (arith, k, p))
          go (inr i) = ap (λ (z : Signature). z.number) (sym i.1) ∙ ap (λ (z : Name). number_of ns z.name) new.1

      new_moves : HeadMoves new_walk
      new_moves = (
        record {
          good = back {u = new_walk} (λ r i. Contains-append_left w.names (_ ∷ []) r i);
          joint = λ x j.
              let e = new_functions x j in (
                record {
                  stands = stands j;
                  named = λ n q i. named_by j n q i (nat_eq name.name q) refl;
                  declared = λ n y i. declared_by x j n y (get_either w.functions name n y i);
                  count = ap (λ (l : List Signature). length l) e ∙ length_more g.functions s ∙ ap suc j.count ∙ sym (length_more w.functions name);
                  numbered = λ n y f i k. numbered_by x j n y f (get_either w.functions name n y i) (ap (λ (l : List Signature). slice_get l n) (sym e) ∙ k);
                },
                record {
                  functions = λ n y i. get_more w.functions name n y i;
                  signatures = λ n f i. ap (λ (l : List Signature). slice_get l n) e ∙ get_more g.functions s n f i;
                },
              );
        },
        λ x j. record {
          number = count;
          name = name;
          is = get_last w.functions name;
          named = refl;
          signature_of = s;
          found = signature_at x j;
          alike = ap₂ (λ (p q : Bool). p && q) (same_self s.returns) (list_self s.parameters);
          faultless = no_faults x.told;
        },
      )

    pub function_moves : HeadMoves (function name w)
    unfolding function
    function_moves = on (meant w name.name) refl
      where
        other : (m : Option Declaration) → meant w name.name ≡ m → is_function m ≡ false → (n : ℕ) → meant w name.name ≡ Some (declaration.Function n) → ⊥
        other m e f n k = let p : true ≡ false = sym (ap is_function (sym e ∙ k)) ∙ f in let q : ⊥ = cc in q

        on : (m : Option Declaration) → meant w name.name ≡ m
            → HeadMoves (if is_function m then found name.at m w else declared name (declaration.Function (length w.functions)) (record w { functions = w.functions ++ name ∷ [] }))
        on None e = new_moves (other None e refl)
        on (Some (declaration.Global n)) e = new_moves (other _ e refl)
        on (Some (declaration.Function n)) e = old_moves n e
        on (Some (declaration.Constant n)) e = new_moves (other _ e refl)
        on (Some (declaration.Local n)) e = new_moves (other _ e refl)
        on (Some (declaration.Outer around n)) e = new_moves (other _ e refl)
        on (Some declaration.Print) e = new_moves (other _ e refl)
        on (Some declaration.Terminate) e = new_moves (other _ e refl)
