-- Globals have numbers in the order of their first declarators.
use Rattle.std.proofs.Common.{◌≡◌, ℕ, ◌+◌, ◌<◌, ◌≤◌, Bool, true, false, nat_eq, cond, List, [], ◌∷◌, ◌++◌, length, flat_map, reverse, Option, Some, None, option_map, arith, refl, sym, ap, ◌∙◌, subst, append_assoc, append-nil, length-append}
use Rattle.std.specs.Prelude.{if◌then◌else◌, nat_lt, codes, ⊤}
use Rattle.std.specs.List.{Contains, find}
use Rattle.std.proofs.lemmas.List.{reverse-append}
use Rattle.std.proofs.lemmas.List.Elements.{Contains-append_left, Contains-append_right}
use Rattle.std.proofs.lemmas.Bool.{eqb-true, eq-eqb}
use Rattle.std.proofs.lemmas.Bool.Decides.{nat_tests}
use Rattle.al_tree.specs.Constants.{values}
use Rattle.al_tree.specs.declared.constants.EnumConstant.{EnumConstant}
use Rattle.al_tree.specs.declared.expression.Name.{Name}
use Rattle.al_tree.specs.declared.item.Owner.{Owner}
use Rattle.al_tree.specs.declared.item.Head.{Head}
use Rattle.al_tree.specs.declared.item.Constant.{Constant}
use Rattle.al_tree.specs.declared.item.Declarator.{Declarator}
use Rattle.al_tree.specs.declared.item.Declarator.TheVariants as declarator
use Rattle.al_tree.specs.declared.item.Item.{Item}
use Rattle.al_tree.specs.declared.item.Item.TheVariants as item
use Rattle.al_tree.specs.declared.item.Tree.{Tree}
use Rattle.al_rules.specs.declared.fault.TypeFault.{TypeFault}
use Rattle.al_rules.specs.Outcome.{Good, judge}
use Rattle.al_scope.specs.declared.declaration.Declaration.{Declaration}
use Rattle.al_scope.specs.declared.declaration.Declaration.TheVariants as d
use Rattle.al_scope.specs.declared.declaration.Resolved.{Resolved}
use Rattle.al_scope.specs.declared.declaration.Scopes.{Scopes}
use Rattle.al_scope.specs.Firsts.{declaration_at}
use Rattle.al_scope.specs.Names.{begun, constant, declared, found, function, global, is_function, is_global, known, known_if, latest, meant, numbered, own_names, resolved, seen_from}
use Rattle.al_scope.specs.Types.{Way, dcl_bounds, each, type_tree}
use Rattle.al_scope.specs.Items.{adt_member, declarator_way, enum_constant, function_if, initializer, item_way, member, prototype, resolved as resolved_names, scopes_of, valued}
use Rattle.al_globals.specs.Globals.{global_in}
use Rattle.al_tree_places.specs.Entries.{IsFound}
use Rattle.al_sound_globals.proofs.Unnamed.{KnownNames, Walk}
use Rattle.al_sound_globals.proofs.Walks.{Stays, dcl_stays, each_stays, found_stays, same, next, optional_stays, type_stays}
use Rattle.al_sound_globals.proofs.Parts.{defined_stays, each_bounds, initializer_stays, member_stays, part_stays, valued_stays}

-- ---- what is known, with one name more

latest_is : (ks : KnownNames) (name : ℕ) (x : Declaration) → latest (ks ++ known name x ∷ []) name ≡ Some x
unfolding latest
latest_is ks name x =
    ap (λ l. option_map (λ k. k.declaration) (find (λ k. nat_eq k.name name) l)) (reverse-append ks (known name x ∷ []))
    ∙ ap (λ b. option_map (λ k. k.declaration) (cond b (Some (known name x)) (find (λ k. nat_eq k.name name) (reverse ks)))) (eq-eqb name name refl)

latest_other : (ks : KnownNames) (name : ℕ) (x : Declaration) (q : ℕ) → nat_eq name q ≡ false → latest (ks ++ known name x ∷ []) q ≡ latest ks q
unfolding latest
latest_other ks name x q h =
    ap (λ l. option_map (λ k. k.declaration) (find (λ k. nat_eq k.name q) l)) (reverse-append ks (known name x ∷ []))
    ∙ ap (λ b. option_map (λ k. k.declaration) (cond b (Some (known name x)) (find (λ k. nat_eq k.name q) (reverse ks)))) h

some_is : {A : Type 0} {a b : A} → Some a ≡ Some b → a ≡ b
some_is h = cc

latest_from : (w : Walk) (q n : ℕ) → meant w q ≡ Some (d.Global n) → latest w.known q ≡ Some (d.Global n)
unfolding meant seen_from
latest_from w q n h = go (latest w.known q) h
  where
    outer : (own k : ℕ) (b : Bool) → Some (cond b (d.Local k) (d.Outer own k)) ≡ Some (d.Global n) → Some (d.Outer own k) ≡ Some (d.Global n)
    outer own k true e = absurd (cc)
    outer own k false e = absurd (cc)

    go : (o : Option Declaration) → option_map (seen_from (length w.around)) o ≡ Some (d.Global n) → o ≡ Some (d.Global n)
    go None e = absurd (cc)
    go (Some (d.Global k)) e = e
    go (Some (d.Function k)) e = e
    go (Some (d.Constant k)) e = e
    go (Some (d.Local k)) e = e
    go (Some (d.Outer own k)) e = outer own k (nat_eq own (length w.around)) e
    go (Some d.Print) e = e
    go (Some d.Terminate) e = e

-- ---- the numbers of declarators

-- how many globals there are, once one of that number is declared
abbrev pub after : ℕ → ℕ → ℕ
after k n = if nat_lt n k then k else k + 1

-- Each declarator of a global has the number of one before it, or the next.
abbrev pub AreNumbered : List Resolved → ℕ → List Declarator → Type 0
AreNumbered names k [] = ⊤
AreNumbered names k (declarator.Global dcl value ∷ ds) = (n : ℕ) × ((global_in (declaration_at names dcl.name.at) ≡ Some n) × ((n ≤ k) × AreNumbered names (after k n) ds))
AreNumbered names k (declarator.Function h ∷ ds) = AreNumbered names k ds

abbrev pub declarators_in : Item → List Declarator
declarators_in (item.Declare at scope base list) = list
declarators_in _ = []

-- ---- while names are resolved

-- a name of a global leads to one that is there
abbrev Below : Walk → Type 0
Below w = (q n : ℕ) → latest w.known q ≡ Some (d.Global n) → n < length w.globals

below_more : (ks : KnownNames) (name : ℕ) (x : Declaration) (count : ℕ) → ((n : ℕ) → x ≡ d.Global n → n < count) → ((q n : ℕ) → latest ks q ≡ Some (d.Global n) → n < count)
    → (q n : ℕ) → latest (ks ++ known name x ∷ []) q ≡ Some (d.Global n) → n < count
below_more ks name x count new old q n e = by (nat_eq name q) refl
  where
    by : (b : Bool) → nat_eq name q ≡ b → n < count
    by true is = new n (some_is (sym (latest_is ks name x) ∙ ap (latest (ks ++ known name x ∷ [])) (eqb-true name q is) ∙ e))
    by false is = old q n (sym (latest_other ks name x q is) ∙ e)

module _ (names : List Resolved) where
  -- entries are found at their places
  abbrev AreFound : Walk → Type 0
  AreFound w = (r : Resolved) → Contains w.names r → declaration_at names r.at ≡ Some r.declaration

  -- declarators that are walked
  record Goes (ds : List Declarator) (w u : Walk) : Type 0 where
    back : AreFound u → AreFound w
    below : Below w → Below u
    numbers : (rest : List Declarator) → AreFound u → Below w → AreNumbered names (length u.globals) rest → AreNumbered names (length w.globals) (ds ++ rest)

  goes : {ds bs : List Declarator} {w v u : Walk} → Goes ds w v → Goes bs v u → Goes (ds ++ bs) w u
  goes {ds} {bs} {w} {v} {u} a b = record {
    back = λ f. a.back (b.back f);
    below = λ h. b.below (a.below h);
    numbers = λ rest f h n. subst (AreNumbered names (length w.globals)) (sym (append_assoc ds bs rest)) (a.numbers (bs ++ rest) (b.back f) h (b.numbers rest f (a.below h) n));
  }

  -- no global is declared
  others : {w u : Walk} → ((r : Resolved) → Contains w.names r → Contains u.names r) → u.globals ≡ w.globals → (Below w → Below u) → Goes [] w u
  others {w} {u} more globals below = record {
    back = λ f r c. f r (more r c);
    below = below;
    numbers = λ rest f h n. subst (λ (l : List Name). AreNumbered names (length l) rest) globals n;
  }

  below_same : (w u : Walk) → u.known ≡ w.known → u.globals ≡ w.globals → Below w → Below u
  below_same w u known_is globals h q n e = subst (λ (l : List Name). n < length l) (sym globals) (h q n (ap (λ l. latest l q) (sym known_is) ∙ e))

  stays : {w u : Walk} → Stays w u → Goes [] w u
  stays {w} {u} s = others s.names s.globals (below_same w u s.known s.globals)

  still : (w : Walk) → Goes [] w w
  still w = stays (same w)

  other_declared : (name : Name) (x : Declaration) (w v : Walk) → v.known ≡ w.known → v.globals ≡ w.globals → v.names ≡ w.names → ((n : ℕ) → x ≡ d.Global n → ⊥) → Goes [] w (declared name x v)
  other_declared name x w v known_is globals names_are none =
      others (λ r c. Contains-append_left v.names (resolved name.at x ∷ []) r (subst (λ l. Contains l r) (sym names_are) c)) globals
      (λ h. below_more v.known name.name x (length v.globals) (λ n e. absurd (none n e)) (below_same w v known_is globals h))

  function_goes : (name : Name) (w : Walk) → Goes [] w (function name w)
  unfolding function
  function_goes name w = on (meant w name.name)
    where
      new : Goes [] w (declared name (d.Function (length w.functions)) (record w { functions = w.functions ++ name ∷ [] }))
      new = other_declared name (d.Function (length w.functions)) w (record w { functions = w.functions ++ name ∷ [] }) refl refl refl (λ n e. let f : ⊥ = cc in f)

      on : (m : Option Declaration) → Goes [] w (if is_function m then found name.at m w else declared name (d.Function (length w.functions)) (record w { functions = w.functions ++ name ∷ [] }))
      on None = new
      on (Some (d.Global n)) = new
      on (Some (d.Function n)) = stays (found_stays name.at (Some (d.Function n)) w)
      on (Some (d.Constant n)) = new
      on (Some (d.Local n)) = new
      on (Some (d.Outer around n)) = new
      on (Some d.Print) = new
      on (Some d.Terminate) = new

  constant_goes : (name : Name) (w : Walk) → Goes [] w (constant name w)
  unfolding constant
  constant_goes name w =
      other_declared name (d.Constant (length w.constants)) w (record w { constants = w.constants ++ name ∷ [] }) refl refl refl (λ n e. let f : ⊥ = cc in f)

  -- ---- a global

  -- the global of a name has that number
  record IsDeclared (name : Name) (w u : Walk) : Type 0 where
    back : AreFound u → AreFound w
    below : Below w → Below u
    number : Below w → ℕ
    is : (h : Below w) → Contains u.names (resolved name.at (d.Global (number h)))
    within : (h : Below w) → number h ≤ length w.globals
    count : (h : Below w) → length u.globals ≡ after (length w.globals) (number h)

  lt_is : (m n : ℕ) → m < n → nat_lt m n ≡ true
  lt_is m n h = grind (arith, nat_tests)

  not_lt : (m : ℕ) → nat_lt m m ≡ false
  not_lt m = grind (arith, nat_tests)

  old_global : (name : Name) (w : Walk) (n : ℕ) → meant w name.name ≡ Some (d.Global n) → IsDeclared name w (found name.at (Some (d.Global n)) w)
  old_global name w n e =
      let s = found_stays name.at (Some (d.Global n)) w in
      let u : Walk = found name.at (Some (d.Global n)) w in
      let lt : Below w → n < length w.globals = λ h. h name.name n (latest_from w name.name n e) in
      record {
        back = λ f r c. f r (s.names r c);
        below = below_same w u s.known s.globals;
        number = λ h. n;
        is = λ h. Contains-append_right w.names (resolved name.at (d.Global n) ∷ []) (resolved name.at (d.Global n)) (0, omega arith, refl);
        within = λ h. let l = lt h in omega (arith, l);
        count = λ h. sym (ap (λ b. if b then length w.globals else length w.globals + 1) (lt_is n (length w.globals) (lt h)));
      }

  new_global : (name : Name) (w : Walk) → IsDeclared name w (declared name (d.Global (length w.globals)) (record w { globals = w.globals ++ name ∷ [] }))
  new_global name w =
      let k : ℕ = length w.globals in
      let more : length (w.globals ++ name ∷ []) ≡ k + 1 = length-append w.globals (name ∷ []) in
      record {
        back = λ f r c. f r (Contains-append_left w.names (resolved name.at (d.Global k) ∷ []) r c);
        below = λ h. below_more w.known name.name (d.Global k) (length (w.globals ++ name ∷ [])) (λ n e. let same : k ≡ n = global_is e in omega (arith, same, more))
            (λ q n e. let l = h q n e in omega (arith, l, more));
        number = λ h. k;
        is = λ h. Contains-append_right w.names (resolved name.at (d.Global k) ∷ []) (resolved name.at (d.Global k)) (0, omega arith, refl);
        within = λ h. omega arith;
        count = λ h. more ∙ sym (ap (λ b. if b then k else k + 1) (not_lt k));
      }
    where
      global_is : {a b : ℕ} → d.Global a ≡ d.Global b → a ≡ b
      global_is e = cc

  global_declared : (name : Name) (w : Walk) → IsDeclared name w (global name w)
  unfolding global
  global_declared name w = on (meant w name.name) refl
    where
      new : IsDeclared name w (declared name (d.Global (length w.globals)) (record w { globals = w.globals ++ name ∷ [] }))
      new = new_global name w

      on : (m : Option Declaration) → meant w name.name ≡ m → IsDeclared name w (if is_global m then found name.at m w else declared name (d.Global (length w.globals)) (record w { globals = w.globals ++ name ∷ [] }))
      on None e = new
      on (Some (d.Global n)) e = old_global name w n e
      on (Some (d.Function n)) e = new
      on (Some (d.Constant n)) e = new
      on (Some (d.Local n)) e = new
      on (Some (d.Outer around n)) e = new
      on (Some d.Print) e = new
      on (Some d.Terminate) e = new

  module _ (c : List EnumConstant) where
    each_goes : {A : Type 0} (f : A → Way) (g : A → List Declarator) → ((x : A) (w : Walk) → Goes (g x) w (f x c w)) → (xs : List A) (w : Walk) → Goes (flat_map g xs) w (each f xs c w)
    each_goes f g h [] w = still w
    each_goes f g h (x ∷ xs) w = goes (h x w) (each_goes f g h xs (f x c w))

    each_others : {A : Type 0} (f : A → Way) → ((x : A) (w : Walk) → Goes [] w (f x c w)) → (xs : List A) (w : Walk) → Goes [] w (each f xs c w)
    each_others f h [] w = still w
    each_others f h (x ∷ xs) w = goes (h x w) (each_others f h xs (f x c w))

    function_if_goes : (o : Option Owner) (name : Name) (w : Walk) → Goes [] w (function_if o name w)
    unfolding function_if
    function_if_goes None name w = function_goes name w
    function_if_goes (Some owner) name w = still w

    prototype_goes : (h : Head) (w : Walk) → Goes [] w (prototype h c w)
    unfolding prototype
    prototype_goes h w = goes (function_if_goes h.owner h.name w) (stays (each_bounds c h.parameters (function_if h.owner h.name w)))

    enum_constant_goes : (x : Constant) (w : Walk) → Goes [] w (enum_constant x c w)
    unfolding enum_constant
    enum_constant_goes x w = goes (stays (valued_stays c x.value w)) (constant_goes x.name (valued x.value c w))

    declarator_goes : (x : Declarator) (w : Walk) → Goes (x ∷ []) w (declarator_way x c w)
    unfolding declarator_way
    declarator_goes (declarator.Global dcl value) w =
        let v : Walk = dcl_bounds dcl c w in
        let first = dcl_stays c dcl w in
        let a = global_declared dcl.name v in
        let u : Walk = global dcl.name v in
        let last = optional_stays c initializer (initializer_stays c) value u in
        let before = stays first in
        let behind = stays last in
        record {
          back = λ f. before.back (a.back (behind.back f));
          below = λ h. behind.below (a.below (before.below h));
          numbers = λ rest f h n.
              let at = before.below h in
              let all = behind.numbers rest f (a.below at) n in
              let k : length v.globals ≡ length w.globals = ap (λ (l : List Name). length l) first.globals in
              subst (λ m. AreNumbered names m (declarator.Global dcl value ∷ rest)) k
              (a.number at, (ap global_in (behind.back f (resolved dcl.name.at (d.Global (a.number at))) (a.is at)), (a.within at, subst (λ m. AreNumbered names m rest) (a.count at) all)));
        }
    declarator_goes (declarator.Function h) w =
        let p = prototype_goes h w in
        record { back = p.back; below = p.below; numbers = p.numbers }

    declarators_go : (ds : List Declarator) (w : Walk) → Goes ds w (each declarator_way ds c w)
    declarators_go [] w = still w
    declarators_go (x ∷ ds) w = goes (declarator_goes x w) (declarators_go ds (declarator_way x c w))

    item_goes : (x : Item) (w : Walk) → Goes (declarators_in x) w (item_way x c w)
    unfolding item_way
    item_goes (item.Typedef at base dcl) w = stays (next (type_stays c base w) (dcl_stays c dcl (type_tree base c w)))
    item_goes (item.FunctionType at base stars name parameters) w = stays (next (type_stays c base w) (each_bounds c parameters (type_tree base c w)))
    item_goes (item.Forward at kind name) w = still w
    item_goes (item.Aggregate at kind name members) w = stays (each_stays c member (member_stays c) members w)
    item_goes (item.Adt at name parameters members) w = stays (each_stays c adt_member (λ m v. part_stays c m.part v) members w)
    item_goes (item.Enum at name list) w = each_others enum_constant enum_constant_goes list w
    item_goes (item.Declare at scope base declarators) w = goes (stays (type_stays c base w)) (declarators_go declarators (type_tree base c w))
    item_goes (item.Function at scope base head block) w =
        let v = type_tree base c w in
        goes (stays (type_stays c base w)) (goes (function_if_goes head.owner head.name v) (stays (defined_stays c head.parameters block (function_if head.owner head.name v))))

-- ---- a text

judge_good : {A : Type 0} (fs : List TypeFault) (a b : A) → judge fs a ≡ Good b → a ≡ b
judge_good [] a b e = cc
judge_good (f ∷ fs) a b e = absurd (let f : ⊥ = cc in f)

-- the language has no globals
none_below : (q n : ℕ) → latest [] q ≡ Some (d.Global n) → n < 0
unfolding latest
none_below q n e = absurd (let f : ⊥ = cc in f)

below_if : (ks : KnownNames) (x : Declaration) (o : Option ℕ) → ((n : ℕ) → x ≡ d.Global n → ⊥) → ((q n : ℕ) → latest ks q ≡ Some (d.Global n) → n < 0)
    → (q n : ℕ) → latest (ks ++ known_if x o) q ≡ Some (d.Global n) → n < 0
below_if ks x None none h q n e = h q n (sym (ap (λ l. latest l q) (append-nil ks)) ∙ e)
below_if ks x (Some name) none h q n e = below_more ks name x 0 (λ k i. absurd (none k i)) h q n e

own_below : (texts : List (List ℕ)) → Below (begun texts)
unfolding own_names
own_below texts q n e =
    let print : Option ℕ = numbered (codes "print") texts in
    below_if (known_if d.Print print) d.Terminate (numbered (codes "terminate") texts) (λ k i. let f : ⊥ = cc in f)
    (λ p m i. below_if [] d.Print print (λ k j. let f : ⊥ = cc in f) none_below p m i) q n e

pub globals_numbered : (tree : Tree) (scopes : Scopes) → resolved_names tree ≡ Good scopes → IsFound tree scopes → AreNumbered scopes.names 0 (flat_map declarators_in tree.items)
unfolding resolved_names scopes_of
globals_numbered tree scopes e found_are =
    let c = values tree.items in
    let first : Walk = begun tree.names in
    let w : Walk = each item_way tree.items c first in
    let is = judge_good w.faults (scopes_of c w) scopes e in
    let names = scopes.names in
    let g = each_goes names c item_way declarators_in (item_goes names c) tree.items first in
    let there : AreFound names w = λ r h. found_are.found r (subst (λ (s : Scopes). Contains s.names r) is h) in
    subst (AreNumbered names 0) (append-nil (flat_map declarators_in tree.items)) (g.numbers [] there (own_below tree.names) tt)
