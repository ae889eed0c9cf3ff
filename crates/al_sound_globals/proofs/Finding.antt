-- What is found of globals: their numbers, and that private ones have no value.
use Rattle.std.proofs.Common.{◌≡◌, inl, inr, ℕ, ◌≤◌, Bool, true, false, List, [], ◌∷◌, ◌++◌, length, flat_map, fold, Option, Some, None, is_some, arith, refl, sym, ap, ◌∙◌, subst, append_assoc, append-nil}
use Rattle.std.specs.Prelude.{◌⊎◌, slice_get, slice_set, unwrap_or}
use Rattle.std.proofs.lemmas.Bool.{cases_eq}
use Rattle.al_base.specs.declared.place.Place.{Place}
use Rattle.al_tree.specs.declared.type_tree.TypeTree.{TypeTree}
use Rattle.al_tree.specs.declared.type_tree.Dcl.{Dcl}
use Rattle.al_tree.specs.declared.item.Owner.{Owner}
use Rattle.al_tree.specs.declared.item.Head.{Head}
use Rattle.al_tree.specs.declared.item.Initializer.{Initializer}
use Rattle.al_tree.specs.declared.item.Declarator.{Declarator}
use Rattle.al_tree.specs.declared.item.Declarator.TheVariants as declarator
use Rattle.al_tree.specs.declared.item.Item.{Item}
use Rattle.al_tree.specs.declared.item.Item.TheVariants as item
use Rattle.al_rules.specs.declared.fault.TypeFault.{TypeFault}
use Rattle.al_rules.specs.Outcome.{Outcome, Good, Bad, and_then, ask, both}
use Rattle.al_scope.specs.declared.declaration.Declaration.{Declaration}
use Rattle.al_scope.specs.declared.declaration.Declaration.TheVariants as declaration
use Rattle.al_scope.specs.Firsts.{declaration_at}
use Rattle.al_typed.specs.declared.ty.Ty.{Ty}
use Rattle.al_typed.specs.declared.program.StartValue.{StartValue}
use Rattle.al_typed.specs.Types.{may_be_private}
use Rattle.al_environment.specs.declared.environment.Environment.{Environment}
use Rattle.al_environment.specs.declared.environment.Here.{Here}
use Rattle.al_environment.specs.declared.environment.Signature.{Signature}
use Rattle.al_environment.specs.declared.environment.Variable.{Variable}
use Rattle.al_environment.specs.Written.{written}
use Rattle.al_type_rules.specs.Types.{declared, known, signature, signature_faults, variable_faults}
use Rattle.al_type_rules.specs.Written.{faults_in}
use Rattle.al_globals.specs.declared.found.Found.{Found}
use Rattle.al_globals.specs.Rules.{rule_19_private, rule_2_global, rule_2_6_function}
use Rattle.al_globals.specs.Globals.{again, asked_global, capped, function_in, global_in, has_value_with, is_private_with, is_private_word, numbered, outside, put, rule_of, with_dcl, with_declarator, with_faults, with_global, with_global_if, with_item, with_owner, with_plain_head, with_signature_if, with_type}
use Rattle.al_initial.specs.Initializers.{initializer}
use Rattle.al_initial.specs.Walks.{Starts, global_start, known_start, numbered_start, started_by, started_if, started_in, with_start}
use Rattle.al_initial.specs.Walks as start
use Rattle.al_sound_operators.specs.Typed.{IfGood}
use Rattle.al_sound_globals.proofs.Numbering.{AreNumbered, after, declarators_in}
use Rattle.al_sound_globals.proofs.Private.{private_same}
use Rattle.al_sound_globals.proofs.Puts.{put_count, put_here, put_there, set_there}

some_is : {A : Type 0} {a b : A} → Some a ≡ Some b → a ≡ b
some_is h = cc

asked_true : (rule : ℕ) (at : Place) (b : Bool) → ask rule at b ≡ [] → b ≡ true
asked_true rule at true h = refl
asked_true rule at false h = absurd (cc)

none_in : {A : Type 0} (xs ys : List A) → xs ++ ys ≡ [] → (xs ≡ []) × (ys ≡ [])
none_in [] ys h = (refl, h)
none_in (x ∷ xs) ys h = absurd (cc)

abbrev at_or : {A : Type 0} → A → List A → ℕ → A
at_or none xs k = unwrap_or (slice_get xs k) none

-- ---- what is found

-- a global of that number
abbrev IsGlobal : List Bool → ℕ → Variable → Type 0
IsGlobal values n v = (v.number ≡ capped n) × (v.is_private ≡ true → (may_be_private v.ty ≡ true) × (slice_get values n ≡ Some false))

pub record AreGlobals (values : List Bool) (globals : List Variable) : Type 0 where
  pub count : length values ≡ length globals
  pub each : (n : ℕ) (v : Variable) → slice_get globals n ≡ Some v → IsGlobal values n v

-- what is so declared without values starts with nothing
abbrev pub Unstarted : List Bool → Starts → Type 0
Unstarted values s = (n : ℕ) → at_or false values n ≡ false → at_or [] s n ≡ []

pub record Holds (f : Found) (o : Outcome Starts) : Type 0 where
  pub globals : AreGlobals f.values f.globals
  pub starts : IfGood o (Unstarted f.values)

-- ---- a global that is declared

rule_19 : (private value : Bool) (t : Ty) → rule_19_private private value t ≡ true → private ≡ true → (value ≡ false) × (may_be_private t ≡ true)
rule_19 true false t h p = (refl, h)
rule_19 true true t h p = absurd (cc)
rule_19 false value t h p = absurd (cc)

module _ (w : Found) (at : Place) (n : ℕ) (t : Ty) (is_private has_value : Bool) where
  abbrev old : Option Variable
  old = slice_get w.globals n

  abbrev private : Bool
  private = is_private_with old is_private

  abbrev value : Bool
  value = has_value_with (slice_get w.values n) has_value

  again_number : (o : Option Variable) (p : Bool) → (again o n t p).number ≡ capped n
  again_number None p = refl
  again_number (Some v) p = refl

  again_private : (o : Option Variable) (p : Bool) → (again o n t p).is_private ≡ p
  again_private None p = refl
  again_private (Some v) p = refl

  again_type : (o : Option Variable) (p : Bool) → rule_2_global o t ≡ true → may_be_private t ≡ true → may_be_private (again o n t p).ty ≡ true
  again_type None p r h = h
  again_type (Some v) p r h = private_same v.ty t r h

  global_is : n ≤ length w.globals → asked_global at (rule_2_global old t) (rule_19_private private value t) ≡ [] → AreGlobals w.values w.globals
      → AreGlobals (put w.values n value) (put w.globals n (again old n t private))
  global_is within asked are =
      let both = none_in (ask 2 at (rule_2_global old t)) (ask 19 at (rule_19_private private value t)) asked in
      let same_type = asked_true 2 at (rule_2_global old t) both.0 in
      let right = asked_true 19 at (rule_19_private private value t) both.1 in
      let count : length w.values ≡ length w.globals = are.count in
      let within_values : n ≤ length w.values = omega (arith, within, count) in
      let new : Variable = again old n t private in
      let here_value = put_here w.values n value within_values in
      let this : IsGlobal (put w.values n value) n new =
      (again_number old private, λ p. let r = rule_19 private value t right (sym (again_private old private) ∙ p) in (again_type old private same_type r.1, here_value ∙ ap Some r.0)) in
      let on : (k : ℕ) (v : Variable) → slice_get (put w.globals n new) k ≡ Some v → (k ≡ n) ⊎ (k ≡ n → ⊥) → IsGlobal (put w.values n value) k v =
      at_number new this within within_values are in
      record {
        count = put_count w.values n value ∙ ap (λ k. after k n) count ∙ sym (put_count w.globals n new);
        each = λ k v e. on k v e (cases_eq k n);
      }
    where
      at_number : (new : Variable) → IsGlobal (put w.values n value) n new → n ≤ length w.globals → n ≤ length w.values → AreGlobals w.values w.globals
          → (k : ℕ) (v : Variable) → slice_get (put w.globals n new) k ≡ Some v → (k ≡ n) ⊎ (k ≡ n → ⊥) → IsGlobal (put w.values n value) k v
      at_number new this within within_values are k v e (inl same_number) =
          let is : new ≡ v = some_is (sym (put_here w.globals n new within) ∙ ap (slice_get (put w.globals n new)) (sym same_number) ∙ e) in
          subst (λ j. IsGlobal (put w.values n value) j v) (sym same_number) (subst (IsGlobal (put w.values n value) n) is this)
      at_number new this within within_values are k v e (inr other) =
          let was = are.each k v (sym (put_there w.globals n k new within other) ∙ e) in
          (was.0, λ p. let q = was.1 p in (q.0, put_there w.values n k value within_values other ∙ q.1))

  -- ---- with what it starts with

  valued : (o : Option Bool) → has_value_with o true ≡ true
  valued None = refl
  valued (Some true) = refl
  valued (Some false) = refl

  unvalued : (o : Option Bool) → has_value_with o false ≡ unwrap_or o false
  unvalued None = refl
  unvalued (Some true) = refl
  unvalued (Some false) = refl

  still_unstarted : has_value ≡ false → n ≤ length w.values → (s : Starts) → Unstarted w.values s → Unstarted (put w.values n value) s
  still_unstarted none within s h k e = on (cases_eq k n)
    where
      on : (k ≡ n) ⊎ (k ≡ n → ⊥) → at_or [] s k ≡ []
      on (inl is) =
          let here : at_or false (put w.values n value) k ≡ value = ap (at_or false (put w.values n value)) is ∙ ap (λ (o : Option Bool). unwrap_or o false) (put_here w.values n value within) in
          let was : value ≡ at_or false w.values n = ap (has_value_with (slice_get w.values n)) none ∙ unvalued (slice_get w.values n) in
          h k (ap (at_or false w.values) is ∙ sym was ∙ sym here ∙ e)
      on (inr other) = h k (sym (ap (λ (o : Option Bool). unwrap_or o false) (put_there w.values n k value within other)) ∙ e)

  now_started : has_value ≡ true → n ≤ length w.values → (s : Starts) (vs : List StartValue) → Unstarted w.values s → Unstarted (put w.values n value) (slice_set s n vs)
  now_started some within s vs h k e = on (cases_eq k n)
    where
      on : (k ≡ n) ⊎ (k ≡ n → ⊥) → at_or [] (slice_set s n vs) k ≡ []
      on (inl is) =
          let here : at_or false (put w.values n value) k ≡ value = ap (at_or false (put w.values n value)) is ∙ ap (λ (o : Option Bool). unwrap_or o false) (put_here w.values n value within) in
          let so : value ≡ true = ap (has_value_with (slice_get w.values n)) some ∙ valued (slice_get w.values n) in
          let f : true ≡ false = sym so ∙ sym here ∙ e in
          absurd (let g : ⊥ = cc in g)
      on (inr other) =
          ap (λ (o : Option (List StartValue)). unwrap_or o []) (set_there s n k vs other)
          ∙ h k (sym (ap (λ (o : Option Bool). unwrap_or o false) (put_there w.values n k value within other)) ∙ e)

-- ---- items

-- nothing is found of globals
record Still (f g : Found) : Type 0 where
  globals : g.globals ≡ f.globals
  values : g.values ≡ f.values
  faults : g.faults ≡ [] → f.faults ≡ []

told : (f : Found) (fs : List TypeFault) → Still f (with_faults f fs)
told f fs = record { globals = refl; values = refl; faults = λ h. (none_in f.faults fs h).0 }

still : (f : Found) → Still f f
still f = record { globals = refl; values = refl; faults = λ h. h }

still_then : {f g k : Found} → Still f g → Still g k → Still f k
still_then a b = record { globals = b.globals ∙ a.globals; values = b.values ∙ a.values; faults = λ h. a.faults (b.faults h) }

-- both crates know the global of a name
global_same : (o : Option Declaration) → start.global_in o ≡ global_in o
global_same None = refl
global_same (Some (declaration.Global n)) = refl
global_same (Some (declaration.Function n)) = refl
global_same (Some (declaration.Constant n)) = refl
global_same (Some (declaration.Local n)) = refl
global_same (Some (declaration.Outer around n)) = refl
global_same (Some declaration.Print) = refl
global_same (Some declaration.Terminate) = refl

-- types are found in one environment and starts in another, which have the same names
module _ (env : Environment) (ns : List (Option ℕ)) (whole : Environment) (same_names : whole.scopes.names ≡ env.scopes.names) (here : Here) (marks : List Bool) where
  -- ---- functions

  signature_still : (w : Found) (at : Place) (rule : ℕ) (o : Option ℕ) (s : Signature) → Still w (with_signature_if w at rule o s)
  signature_still w at rule None s = still w
  signature_still w at rule (Some n) s = record { globals = refl; values = refl; faults = λ h. (none_in w.faults (ask rule at (rule_2_6_function (slice_get w.functions n) s)) h).0 }

  plain_still : (b : Bool) (base : TypeTree) (w : Found) (h : Head) → Still w (with_plain_head env outside ns b base w h)
  unfolding with_plain_head
  plain_still b base w h =
      let first = with_type env outside w base in
      let second = with_faults first (signature_faults env outside h.name.at base h.stars h.parameters) in
      still_then (told w (faults_in env outside base)) (still_then (told first (signature_faults env outside h.name.at base h.stars h.parameters))
      (signature_still second h.name.at (rule_of b) (function_in (declaration_at env.scopes.names h.name.at)) (numbered ns h.name.name (signature env outside base h.stars h.parameters))))

  owner_still : (o : Option Owner) (b : Bool) (base : TypeTree) (w : Found) (h : Head) → Still w (with_owner env outside ns o b base w h)
  owner_still None b base w h = plain_still b base w h
  owner_still (Some owner) b base w h = still w

  -- ---- globals

  abbrev IsOf : ℕ → ℕ × List StartValue → Type 0
  IsOf n s = s.0 ≡ n

  known_number : (at : Place) (i : Initializer) (n : ℕ) (o : Option Variable) → IfGood (known_start whole here marks at i n o) (IsOf n)
  known_number at i n None = tt
  known_number at i n (Some v) = go (initializer whole here marks i v.ty 0)
    where
      go : (o : Outcome (List StartValue)) → IfGood (and_then o (λ values. Good (n, values))) (IsOf n)
      go (Good vs) = refl
      go (Bad fs) = tt

  start_number : (at : Place) (i : Initializer) (n : ℕ) → global_in (declaration_at env.scopes.names at) ≡ Some n → IfGood (global_start whole here marks at i) (IsOf n)
  unfolding global_start
  start_number at i n e =
      let is : start.global_in (declaration_at whole.scopes.names at) ≡ Some n = ap (λ names. start.global_in (declaration_at names at)) same_names ∙ global_same (declaration_at env.scopes.names at) ∙ e in
      subst (λ o. IfGood (numbered_start whole here marks at i o) (IsOf n)) (sym is) (known_number at i n (slice_get whole.globals n))

  put_start : (values : List Bool) (n : ℕ) (a : Outcome Starts) (b : Outcome (ℕ × List StartValue)) (more : List Bool)
      → ((s : Starts) (vs : List StartValue) → Unstarted values s → Unstarted more (slice_set s n vs)) → IfGood a (Unstarted values) → IfGood b (IsOf n) → IfGood (both a b with_start) (Unstarted more)
  put_start values n (Good s) (Good x) more f h g = subst (λ m. Unstarted more (slice_set s m x.1)) (sym g) (f s x.1 h)
  put_start values n (Good s) (Bad fs) more f h g = tt
  put_start values n (Bad fs) (Good x) more f h g = tt
  put_start values n (Bad fs) (Bad gs) more f h g = tt

  good_more : (a : Outcome Starts) (values more : List Bool) → ((s : Starts) → Unstarted values s → Unstarted more s) → IfGood a (Unstarted values) → IfGood a (Unstarted more)
  good_more (Good s) values more f h = f s h
  good_more (Bad fs) values more f h = tt

  -- one more global
  module _ (w : Found) (at : Place) (n : ℕ) (t : Ty) (p : Bool) (found_at : global_in (declaration_at env.scopes.names at) ≡ Some n) (within : n ≤ length w.globals) where
    faults_told : (has_value : Bool) → (with_global w at n t p has_value).faults ≡ []
        → (w.faults ≡ []) × (asked_global at (rule_2_global (slice_get w.globals n) t) (rule_19_private (private w at n t p has_value) (value w at n t p has_value) t) ≡ [])
    unfolding with_global
    faults_told has_value h = none_in w.faults (asked_global at (rule_2_global (slice_get w.globals n) t) (rule_19_private (private w at n t p has_value) (value w at n t p has_value) t)) h

    one_more : (o : Option Initializer) (s : Outcome Starts) → (with_global w at n t p (is_some o)).faults ≡ [] → Holds w s → Holds (with_global w at n t p (is_some o)) (started_if whole here marks s at o)
    unfolding with_global
    one_more None s h k =
        let most : n ≤ length w.values = (let c = k.globals.count in omega (arith, c, within)) in
        record {
          globals = global_is w at n t p false within (faults_told false h).1 k.globals;
          starts = good_more s w.values (put w.values n (value w at n t p false)) (still_unstarted w at n t p false refl most) k.starts;
        }
    one_more (Some i) s h k =
        let most : n ≤ length w.values = (let c = k.globals.count in omega (arith, c, within)) in
        record {
          globals = global_is w at n t p true within (faults_told true h).1 k.globals;
          starts = put_start w.values n s (global_start whole here marks at i) (put w.values n (value w at n t p true)) (now_started w at n t p true refl most) k.starts (start_number at i n found_at);
        }

    more_count : (has_value : Bool) → length (with_global w at n t p has_value).globals ≡ after (length w.globals) n
    unfolding with_global
    more_count has_value = put_count w.globals n (again (slice_get w.globals n) n t (private w at n t p has_value))

  holds_still : {f g : Found} (o : Outcome Starts) → Still f g → Holds f o → Holds g o
  holds_still {f} {g} o s h = record {
    globals = subst (λ vs. AreGlobals g.values vs) (sym s.globals) (subst (λ vs. AreGlobals vs f.globals) (sym s.values) h.globals);
    starts = subst (λ vs. IfGood o (Unstarted vs)) (sym s.values) h.starts;
  }

  -- declarators that are walked
  record Goes (ds : List Declarator) (f g : Found) (o u : Outcome Starts) : Type 0 where
    back : (rest : List Declarator) → AreNumbered env.scopes.names (length f.globals) (ds ++ rest) → g.faults ≡ [] → f.faults ≡ []
    holds : (rest : List Declarator) → AreNumbered env.scopes.names (length f.globals) (ds ++ rest) → g.faults ≡ [] → Holds f o → Holds g u
    numbers : (rest : List Declarator) → AreNumbered env.scopes.names (length f.globals) (ds ++ rest) → AreNumbered env.scopes.names (length g.globals) rest

  goes : {ds es : List Declarator} {f g k : Found} {o u x : Outcome Starts} → Goes ds f g o u → Goes es g k u x → Goes (ds ++ es) f k o x
  goes {ds} {es} {f} a b = record {
    back = λ rest n h. let m = split rest n in a.back (es ++ rest) m (b.back rest (a.numbers (es ++ rest) m) h);
    holds = λ rest n h k. let m = split rest n in let l = a.numbers (es ++ rest) m in b.holds rest l h (a.holds (es ++ rest) m (b.back rest l h) k);
    numbers = λ rest n. b.numbers rest (a.numbers (es ++ rest) (split rest n));
  }
    where
      split : (rest : List Declarator) → AreNumbered env.scopes.names (length f.globals) ((ds ++ es) ++ rest) → AreNumbered env.scopes.names (length f.globals) (ds ++ (es ++ rest))
      split rest n = subst (AreNumbered env.scopes.names (length f.globals)) (append_assoc ds es rest) n

  others : {f g : Found} (o : Outcome Starts) → Still f g → Goes [] f g o o
  others {f} {g} o s = record {
    back = λ rest n h. s.faults h;
    holds = λ rest n h k. holds_still o s k;
    numbers = λ rest n. subst (λ vs. AreNumbered env.scopes.names (length vs) rest) (sym s.globals) n;
  }

  abbrev told_base : Found → TypeTree → Dcl → Found
  told_base w base dcl = with_faults (with_type env outside w base) (variable_faults env (written env outside base) dcl)

  base_still : (w : Found) (base : TypeTree) (dcl : Dcl) → Still w (told_base w base dcl)
  base_still w base dcl = still_then (told w (faults_in env outside base)) (told (with_type env outside w base) (variable_faults env (written env outside base) dcl))

  declarator_goes : (p : Bool) (base : TypeTree) (x : Declarator) (f : Found) (o : Outcome Starts) → Goes (x ∷ []) f (with_declarator env outside ns p base f x) o (started_by whole here marks o x)
  unfolding with_declarator with_dcl
  declarator_goes p base (declarator.Global dcl given) f o =
      let first = told_base f base dcl in
      let s = base_still f base dcl in
      let at = dcl.name.at in
      let t = known (declared env (written env outside base) dcl) in
      let has = is_some given in
      let count : length first.globals ≡ length f.globals = ap (λ (l : List Variable). length l) s.globals in
      record {
        back = λ rest n h.
            let m : n.0 ≤ length first.globals = (let l = n.1.1.0 in omega (arith, l, count)) in
            s.faults (faults_told first at n.0 t p n.1.0 m has (subst (λ i. (with_global_if first at i t p has).faults ≡ []) n.1.0 h)).0;
        holds = λ rest n h k.
            let m : n.0 ≤ length first.globals = (let l = n.1.1.0 in omega (arith, l, count)) in
            subst (λ i. Holds (with_global_if first at i t p has) (started_if whole here marks o at given)) (sym n.1.0)
            (one_more first at n.0 t p n.1.0 m given o (subst (λ i. (with_global_if first at i t p has).faults ≡ []) n.1.0 h) (holds_still o s k));
        numbers = λ rest n.
            let m : n.0 ≤ length first.globals = (let l = n.1.1.0 in omega (arith, l, count)) in
            let more : length (with_global_if first at (global_in (declaration_at env.scopes.names at)) t p has).globals ≡ after (length f.globals) n.0 =
            ap (λ i. length (with_global_if first at i t p has).globals) n.1.0 ∙ more_count first at n.0 t p n.1.0 m has ∙ ap (λ k. after k n.0) count in
            subst (λ k. AreNumbered env.scopes.names k rest) (sym more) n.1.1.1;
      }
  declarator_goes p base (declarator.Function h) f o =
      let g = others o (owner_still h.owner false base f h) in
      record { back = g.back; holds = g.holds; numbers = g.numbers }

  declarators_go : (p : Bool) (base : TypeTree) (ds : List Declarator) (f : Found) (o : Outcome Starts)
      → Goes ds f (fold (with_declarator env outside ns p base) f ds) o (fold (started_by whole here marks) o ds)
  declarators_go p base [] f o = others o (still f)
  declarators_go p base (x ∷ ds) f o =
      goes (declarator_goes p base x f o) (declarators_go p base ds (with_declarator env outside ns p base f x) (started_by whole here marks o x))

  item_goes : (x : Item) (f : Found) (o : Outcome Starts) → Goes (declarators_in x) f (with_item env outside ns f x) o (started_in whole here marks o x)
  unfolding with_item started_in
  item_goes (item.Typedef at base dcl) f o = others o (still_then (told f _) (told _ _))
  item_goes (item.FunctionType at base stars name ps) f o = others o (still_then (told f _) (told _ _))
  item_goes (item.Forward at kind name) f o = others o (still f)
  item_goes (item.Aggregate at kind name members) f o = others o (told f _)
  item_goes (item.Adt at name parameters members) f o = others o (still f)
  item_goes (item.Enum at name list) f o = others o (still f)
  item_goes (item.Declare at scope base list) f o = declarators_go (is_private_word scope) base list f o
  item_goes (item.Function at scope base head body) f o = others o (owner_still head.owner true base f head)

  items_go : (xs : List Item) (f : Found) (o : Outcome Starts) → Goes (flat_map declarators_in xs) f (fold (with_item env outside ns) f xs) o (fold (started_in whole here marks) o xs)
  items_go [] f o = others o (still f)
  items_go (x ∷ xs) f o = goes (item_goes x f o) (items_go xs (with_item env outside ns f x) (started_in whole here marks o x))

  -- all that is found, where there is no fault
  pub all_found : (xs : List Item) (f : Found) (o : Outcome Starts) → AreNumbered env.scopes.names (length f.globals) (flat_map declarators_in xs)
      → (fold (with_item env outside ns) f xs).faults ≡ [] → Holds f o → Holds (fold (with_item env outside ns) f xs) (fold (started_in whole here marks) o xs)
  all_found xs f o n h k = (items_go xs f o).holds [] (subst (AreNumbered env.scopes.names (length f.globals)) (sym (append-nil (flat_map declarators_in xs))) n) h k
