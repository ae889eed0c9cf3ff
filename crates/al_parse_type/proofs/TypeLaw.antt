-- The parsers of types keep the law, with the languages of the grammar.
use Rattle.std.proofs.Common.{◌≡◌, ℕ, zero, suc, pred, ◌+◌, ◌<◌, ◌≤◌, max, nat_lt, Bool, true, false, if◌then◌else◌, ◌||◌, ◌&&◌, List, [], ◌∷◌, ◌++◌, length, Option, Some, None, is_some, refl, sym, ap, ap₂, ◌∙◌, subst, arith, append_assoc, append-nil, length-append}
use Rattle.al_base.specs.declared.place.Place.{Place}
use Rattle.al_lex.specs.declared.kind.TokenKind.{TokenKind}
use Rattle.al_lex.specs.declared.kind.TokenKind.TheVariants as k
use Rattle.al_lex.specs.declared.token.Token.{Token}
use Rattle.al_tree.specs.Words.{start, basic_type}
use Rattle.al_tree.specs.Types.{Leaves, known, name_at, arrays, IsTypeName, type_name, IsBound, IsBounds, IsBase, basic, named, instance, tuple, bare_tuple, channel, buffered, IsStarred, base, star, IsTypeTree, plain, array, IsTypes, one, more, IsParts, parts}
use Rattle.al_tree.specs.Types as rules
use Rattle.al_tree.specs.Reading.{Parser, ◌>>=◌, ◌>>◌, pure, refuse, kind, name_number, same_kind, peek, here, take_if, expect}
use Rattle.al_tree.specs.declared.type_tree.BasicType.{BasicType}
use Rattle.al_tree.specs.declared.type_tree.BasicType.TheVariants as bt
use Rattle.al_tree.specs.declared.type_tree.Bound.{Bound}
use Rattle.al_tree.specs.declared.type_tree.TypeTree.{TypeTree}
use Rattle.al_tree.specs.declared.type_tree.TypeTree.TheVariants as ty
use Rattle.al_tree.proofs.Law.{World, Above, Family, Lang, Any, head, Has, Law, Verdict, token, token_at, down, bind, map_law, pure_law, refuse_law, choose, anywhere, look, kind_local, start_local, start_of, located, take_law, turn_law, expect_law, a_turn, all_turns, all_turns_of, no_turn, relang, view_law, some_pred}
use Rattle.al_parse_type.specs.declared.part.Part.{Part}
use Rattle.al_parse_type.specs.declared.part.Part.TheVariants as part
use Rattle.al_parse_type.specs.declared.part.Want.{Want}
use Rattle.al_parse_type.specs.declared.part.Want.TheVariants as want
use Rattle.al_parse_type.specs.declared.part.ReadBase.{ReadBase}
use Rattle.al_parse_type.specs.Parse as parse
use Rattle.al_parse_type.specs.Parse.{SizedType, SizedPart, SizedBound, sees_type_name, sees_type, wanted, part_wanted, type_of, is_one, sized_base, pointers_from, bounds_from, bound, bound_below, below}
use Rattle.al_parse_type.specs.Within.{inside_within}
use Rattle.al_parse_type.proofs.BoundLaw.{always, kind_is, first_kind, lt_grows, lt_of, down_fits, and_parts, at_nil, bound_law, higher_bound_law, higher_after_law, bounds_law, bound_has, lower, lower_above}

-- ---- a level that may be missing

-- where there is no level left, the token that needs one goes too deep
pub room_law : {A R : Type 0} {w : World} {G : List Token → Type 0} {p : Family A} {Q : Lang A} (b : ℕ → Bool) → ((m n : ℕ) → m ≤ n → b m ≡ true → b n ≡ true) → (G [] → ⊥)
    → ((t : Token) (ts : List Token) → G (t ∷ ts) → Has (λ x a. Q (t ∷ x) a)) → Law (R × (b w.depth ≡ true)) w G p Q → Law R w G (λ w. if b w.depth then p w else (take_if false >> refuse)) Q
unfolding take_if
room_law {A} {R} {w} {G} {p} {Q} b grows some next l = record { run = λ rt ts g s. by (b w.depth) refl rt ts g s; has = l.has }
  where
    q : Family A
    q w = if b w.depth then p w else (take_if false >> refuse)

    on : (w' : World) → Above w w' → b w.depth ≡ true → (ts : List Token) → q w' ts ≡ p w' ts
    on w' ab e ts = ap (λ (c : Bool). (if c then p w' else (take_if false >> refuse)) ts) (grows w.depth w'.depth ab.depth e)

    deep : b w.depth ≡ false → (ts : List Token) → G ts → Verdict w q Q ts ((take_if false >> refuse) ts)
    deep e [] g = absurd (some g)
    deep e (t ∷ ts) g = record {
      used = [];
      last = t;
      rest = ts;
      cut = refl;
      count = refl;
      goes_on = next t ts g;
      again = λ w' ab d r'. ap (λ (c : Bool). (if c then p w' else (take_if false >> refuse)) (t ∷ r')) (ap b (sym d) ∙ e);
    }

    by : (c : Bool) → b w.depth ≡ c → R → (ts : List Token) → G ts → length ts < w.fuel → Verdict w q Q ts (q w ts)
    by true e rt ts g s = (view_law {R' = R} {q = q} (λ w. w) (λ w' ab. ab) (λ w' ab d. d) (λ r. (r, e)) (λ r. omega arith) (λ w' ab ts. on w' ab e ts) l).run rt ts g s
    by false e rt ts g s = subst (λ o. Verdict w q Q ts o) (sym (ap (λ (c : Bool). (if c then p w else (take_if false >> refuse)) ts) e)) (deep e ts g)

-- what goes on behind a token goes on
from_token : {A : Type 0} (Q : Lang A) (s : Token) → Has (λ v y. Q (s ∷ v) y) → Has Q
from_token Q s h = record { word = s ∷ h.word; value = h.value; is = h.is }

abbrev int_tree : Place → TypeTree
int_tree at = ty.Basic at bt.Int

abbrev here_at : Place
here_at = start []

pub zero_max : (n : ℕ) → max 0 n ≡ n
zero_max n = omega arith

module _ (leaves : Leaves) (types : List ℕ) where
  -- ---- what is seen

  pub type_name_local : (ts ts' : List Token) → head ts ≡ head ts' → sees_type_name types ts ≡ sees_type_name types ts'
  unfolding sees_type_name kind name_number
  type_name_local [] [] h = refl
  type_name_local [] (t ∷ ts) h = cc
  type_name_local (t ∷ ts) [] h = cc
  type_name_local (t ∷ ts) (s ∷ ss) h = let e : t ≡ s = cc in ap (λ (x : Token). same_kind x.kind k.Name && known types x.name) e

  pub type_local : (ts ts' : List Token) → head ts ≡ head ts' → sees_type types ts ≡ sees_type types ts'
  unfolding sees_type
  type_local ts ts' h = ap₂ (λ kd n. is_some (basic_type kd) || (same_kind kd k.Tuple || (same_kind kd k.Chan || n))) (kind_local ts ts' h) (type_name_local ts ts' h)

  pub type_name_is : (t : Token) (ts : List Token) → sees_type_name types (t ∷ ts) ≡ true → IsTypeName leaves types t
  unfolding sees_type_name kind name_number
  type_name_is t ts h = let p = and_parts (same_kind t.kind k.Name) (known types t.name) h in type_name (kind_is t.kind k.Name p.0) p.1

  -- ---- languages

  abbrev pub LType : Bool → Lang SizedType
  LType bare u x = IsTypeTree leaves types bare u x.0 x.1

  abbrev pub LBase : Bool → Lang ReadBase
  LBase bare u x = IsBase leaves types bare x.takes_bracket u x.tree x.height

  abbrev pub LStarred : Bool → Lang ReadBase
  LStarred bare u x = IsStarred leaves types bare x.takes_bracket u x.tree x.height

  abbrev pub LTypes : Bool → Lang (List TypeTree × ℕ)
  LTypes bare u x = IsTypes leaves types bare u x.0 x.1

  abbrev pub PartIs : Bool → List Token → Part → ℕ → Type 0
  PartIs bare u (part.Type x) h = IsTypeTree leaves types bare u x h
  PartIs bare u (part.Bound x) h = IsBound leaves types u x h

  abbrev pub OnlyType : Bool → List Token → Part → ℕ → Type 0
  OnlyType bare u (part.Type x) h = IsTypeTree leaves types bare u x h
  OnlyType bare u (part.Bound x) h = ⊥

  abbrev pub LPart : Bool → Lang SizedPart
  LPart bare u x = PartIs bare u x.0 x.1

  abbrev pub LWant : Want → Lang SizedPart
  LWant want.AnyType u x = OnlyType true u x.0 x.1
  LWant want.WordType u x = OnlyType false u x.0 x.1
  LWant want.Either u x = PartIs true u x.0 x.1

  -- ---- what there is to go on with

  int_base : (bare : Bool) (at : Place) → IsBase leaves types bare false (token_at at k.Int ∷ []) (int_tree at) 0
  int_base bare at = basic (token_at at k.Int) refl

  int_type : (bare : Bool) (at : Place) → IsTypeTree leaves types bare (token_at at k.Int ∷ []) (int_tree at) 0
  int_type bare at = plain (base (int_base bare at))

  pub type_has : (bare : Bool) → Has (LType bare)
  type_has bare = record { word = token_at here_at k.Int ∷ []; value = (int_tree here_at, 0); is = int_type bare here_at }

  pub base_place : (bare : Bool) (at : Place) → Has (λ u x. LBase bare u x × (start u ≡ at))
  base_place bare at = record { word = token_at at k.Int ∷ []; value = sized_base (int_tree at) 0; is = (int_base bare at, refl) }

  pub base_has : (bare : Bool) → Has (LBase bare)
  base_has bare = record { word = token_at here_at k.Int ∷ []; value = sized_base (int_tree here_at) 0; is = int_base bare here_at }

  pub part_has : (bare : Bool) → Has (LPart bare)
  part_has bare = record { word = token_at here_at k.Int ∷ []; value = (part.Type (int_tree here_at), 0); is = int_type bare here_at }

  -- `int , int`
  two_types : (bare : Bool) → IsParts leaves types bare (token_at here_at k.Int ∷ token k.Comma ∷ token_at here_at k.Int ∷ []) (int_tree here_at ∷ int_tree here_at ∷ []) 0
  two_types bare = parts (token k.Comma) (one (int_type bare here_at)) refl (int_type bare here_at)

  or_either : {A : Type 0} (x y : Bool) → (x || y) ≡ true → (x ≡ true → A) → (y ≡ true → A) → A
  or_either true y h f g = f refl
  or_either false y h f g = g h

  record SomeBasic (o : Option BasicType) : Type 0 where
    value : BasicType
    is : o ≡ Some value

  some_basic : (o : Option BasicType) → is_some o ≡ true → SomeBasic o
  some_basic (Some x) h = record { value = x; is = refl }
  some_basic None h = absurd (let f : ⊥ = cc in f)

  -- a base type goes on from the token that begins it
  pub base_begins : (bare : Bool) (t : Token) (ts : List Token) → sees_type types (t ∷ ts) ≡ true → Has {A = ReadBase} (λ v x. LBase bare (t ∷ v) x)
  unfolding sees_type kind
  base_begins bare t ts h =
      or_either (is_some (basic_type t.kind)) _ h
      (λ b. let o = some_basic (basic_type t.kind) b in record { word = []; value = sized_base (ty.Basic t.place o.value) 0; is = basic t o.is })
      (λ h2. or_either (same_kind t.kind k.Tuple) _ h2
      (λ b. record {
        word = token k.LeftParen ∷ token_at here_at k.Int ∷ token k.Comma ∷ token_at here_at k.Int ∷ token k.RightParen ∷ [];
        value = sized_base (ty.Tuple t.place (int_tree here_at ∷ int_tree here_at ∷ [])) 1;
        is = tuple t (token k.LeftParen) (token k.RightParen) (kind_is t.kind k.Tuple b) refl (two_types bare) refl;
      })
      (λ h3. or_either (same_kind t.kind k.Chan) _ h3
      (λ b. record {
        word = token k.LeftParen ∷ token_at here_at k.Int ∷ token k.RightParen ∷ [];
        value = record { tree = ty.Chan t.place (int_tree here_at) None; height = 1; takes_bracket = true };
        is = channel t (token k.LeftParen) (token k.RightParen) (kind_is t.kind k.Chan b) refl (int_type true here_at) refl;
      })
      (λ b. record { word = []; value = sized_base (ty.Named t.place t.name []) 0; is = named t (type_name_is t ts b) })))

  -- and so does a type
  pub type_begins : (bare : Bool) (t : Token) (ts : List Token) → sees_type types (t ∷ ts) ≡ true → Has {A = SizedType} (λ v x. IsTypeTree leaves types bare (t ∷ v) x.0 x.1)
  type_begins bare t ts h = let q = base_begins bare t ts h in record { word = q.word; value = (q.value.tree, q.value.height); is = plain (base q.is) }

  -- ---- lengths

  pub base_long : {bare takes : Bool} {u : List Token} {x : TypeTree} {h : ℕ} → IsBase leaves types bare takes u x h → 0 < length u
  base_long (basic t c) = omega arith
  base_long (named t c) = omega arith
  base_long (instance t o c tn oc a ec) = omega arith
  base_long (tuple w o c wc oc a ec) = omega arith
  base_long (bare_tuple o c oc a ec) = omega arith
  base_long (channel w o c wc oc a ec) = omega arith
  base_long (buffered w o c p q wc oc a ec pc n qc) = omega arith

  pub starred_long : {bare takes : Bool} {u : List Token} {x : TypeTree} {h : ℕ} → IsStarred leaves types bare takes u x h → 0 < length u
  starred_long (base d) = base_long d
  starred_long (star t {u = u} d c) = omega (arith, length-append u (t ∷ []))

  -- ---- stars

  pub pointers_law : (R : Type 0) (bare : Bool) (m : ℕ) (w : World) → w.fuel ≡ m → (u : List Token) (x : ReadBase) (at : Place) → LStarred bare u x → start u ≡ at
      → Law R w Any (λ w. pointers_from w.fuel at x) (λ v y. LStarred bare (u ++ v) y)
  unfolding pointers_from
  pointers_law R bare zero w e u x at d s = no_turn e (record { word = []; value = x; is = at_nil leaves types (LStarred bare) u x d })
  pointers_law R bare (suc m) w e u x at d s = a_turn (λ i w. pointers_from i at x) m e
      (look kind kind_local (λ w next. if same_kind next k.Star then (take_if true >>= (λ _. pointers_from (pred w.fuel) at (sized_base (ty.Pointer at x.tree) x.height))) else pure x) (record { word = []; value = x; is = at_nil leaves types (LStarred bare) u x d })
      (λ next. choose (same_kind next k.Star)
      (λ yes. turn_law (λ w t. pointers_from w.fuel at (sized_base (ty.Pointer at x.tree) x.height)) always (λ m n l e. e) (λ t. t.kind ≡ k.Star) (λ t ts g. first_kind t ts next g.1 ∙ kind_is next k.Star yes) (record { word = []; value = x; is = at_nil leaves types (LStarred bare) u x d })
      (λ t c. relang (λ v y i. subst (λ l. LStarred bare l y) (append_assoc u (t ∷ []) v) i)
      (pointers_law (R × (true ≡ true)) bare m (down w) (ap pred e) (u ++ t ∷ []) (sized_base (ty.Pointer at x.tree) x.height) at
      (subst (λ p. IsStarred leaves types bare false (u ++ t ∷ []) (ty.Pointer p x.tree) x.height) s (star t d c)) (start_of u (t ∷ []) (starred_long d) ∙ s))))
      (λ no. pure_law x (at_nil leaves types (LStarred bare) u x d))))

-- What is known of the parser of what stands inside types, at the worlds of one depth.
module _ (leaves : Leaves) (types : List ℕ) (n : ℕ)
    (subs : (R : Type 0) (w : World) → w.depth ≡ n → (R → w.fuel ≤ w.turns) → (R → 0 < w.depth) → (x : Want) → Law R w Any (λ w. below leaves types w.turns w.depth x) (LWant leaves types x)) where
  abbrev S : World → Want → Parser SizedPart
  S w = below leaves types w.turns w.depth

  typed : {R : Type 0} {w : World} (bare : Bool) (u : List Token) (x : SizedPart) → LWant leaves types (wanted bare) u x → Law R w Any (λ w. type_of x) (λ v y. LType leaves types bare (u ++ v) y)
  typed true u (part.Type x, h) a = pure_law (x, h) (at_nil leaves types (LType leaves types true) u (x, h) a)
  typed true u (part.Bound x, h) a = absurd a
  typed false u (part.Type x, h) a = pure_law (x, h) (at_nil leaves types (LType leaves types false) u (x, h) a)
  typed false u (part.Bound x, h) a = absurd a

  pub sub_law : (R : Type 0) (w : World) (bare : Bool) → w.depth ≡ n → (R → w.fuel ≤ w.turns) → (R → 0 < w.depth) → Law R w Any (λ w. parse.sub_type leaves types w.turns w.depth (S w) bare) (LType leaves types bare)
  unfolding parse.sub_type
  sub_law R w bare d fits deep = bind (subs R w d fits deep (wanted bare)) (λ u x a. typed bare u x a)

  types_law : (R : Type 0) (bare : Bool) (m : ℕ) (w : World) → w.fuel ≡ m → w.depth ≡ n → (R → w.fuel ≤ w.turns) → (R → 0 < w.depth) → (u : List Token) (xs : List TypeTree) (h : ℕ) → IsTypes leaves types bare u xs h
      → Law R w Any (λ w. parse.types_from leaves types w.turns w.depth (S w) bare w.fuel xs h) (λ v y. LTypes leaves types bare (u ++ v) y)
  unfolding parse.types_from
  types_law R bare zero w e d fits deep u xs h l = no_turn e (record { word = []; value = (xs, h); is = at_nil leaves types (LTypes leaves types bare) u (xs, h) l })
  types_law R bare (suc m) w e d fits deep u xs h l =
      let end : IsTypes leaves types bare (u ++ []) xs h = at_nil leaves types (LTypes leaves types bare) u (xs, h) l in
      a_turn (λ i w. parse.types_from leaves types w.turns w.depth (S w) bare i xs h) m e
      (look kind kind_local (λ w next. if same_kind next k.Comma then (take_if true >>= (λ _. parse.sub_type leaves types w.turns w.depth (S w) bare >>= (λ x. parse.types_from leaves types w.turns w.depth (S w) bare (pred w.fuel) (xs ++ x.0 ∷ []) (max h x.1)))) else pure (xs, h))
      (record { word = []; value = (xs, h); is = end })
      (λ next. choose (same_kind next k.Comma)
      (λ yes. turn_law (λ w t. parse.sub_type leaves types w.turns w.depth (S w) bare >>= (λ x. parse.types_from leaves types w.turns w.depth (S w) bare w.fuel (xs ++ x.0 ∷ []) (max h x.1))) always (λ m n l e. e) (λ t. t.kind ≡ k.Comma) (λ t ts g. first_kind t ts next g.1 ∙ kind_is next k.Comma yes)
      (record { word = []; value = (xs, h); is = end })
      (λ t c. bind (sub_law (R × (true ≡ true)) (down w) bare d (λ r. down_fits w.fuel w.turns (fits r.0)) (λ r. deep r.0)) (λ v x a.
      relang (λ v2 y i. subst (λ q. LTypes leaves types bare q y) (append_assoc u (t ∷ v) v2) i)
      (types_law (R × (true ≡ true)) bare m (down w) (ap pred e) d (λ r. down_fits w.fuel w.turns (fits r.0)) (λ r. deep r.0) (u ++ t ∷ v) (xs ++ x.0 ∷ []) (max h x.1) (more t l c a)))))
      (λ no. pure_law (xs, h) end)))

  -- the types behind a first one
  rest_law : (R : Type 0) (w : World) (bare : Bool) → w.depth ≡ n → (R → w.fuel ≤ w.turns) → (R → 0 < w.depth) → (u : List Token) (x : SizedType) → LType leaves types bare u x
      → Law R w Any (λ w. parse.types_from leaves types w.turns w.depth (S w) bare w.turns (x.0 ∷ []) x.1) (λ v y. LTypes leaves types bare (u ++ v) y)
  rest_law R w bare d fits deep u x a = all_turns_of (λ r. (fits r, deep r)) (λ i w. parse.types_from leaves types w.turns w.depth (S w) bare i (x.0 ∷ []) x.1)
      (types_law ((w.fuel ≤ w.turns) × (0 < w.depth)) bare w.turns (record w { fuel = w.turns }) refl d (λ r. omega arith) (λ r. r.1) u (x.0 ∷ []) x.1 (one a))

  pub arguments_law : (R : Type 0) (w : World) (bare : Bool) → w.depth ≡ n → (R → w.fuel ≤ w.turns) → (R → 0 < w.depth) → (t o : Token) → IsTypeName leaves types t → o.kind ≡ k.LeftBracket → (u : List Token) (x : SizedType) → LType leaves types bare u x
      → Law R w Any (λ w. parse.arguments_after leaves types w.turns w.depth (S w) bare t x) (λ v y. LBase leaves types bare (t ∷ o ∷ (u ++ v)) y)
  unfolding parse.arguments_after
  arguments_law R w bare d fits deep t o tn oc u x a = bind (rest_law R w bare d fits deep u x a) (λ v xs b.
      expect_law (λ w c. pure (sized_base (ty.Named t.place t.name xs.0) (xs.1 + 1))) k.RightBracket (λ c ec.
      pure_law (sized_base (ty.Named t.place t.name xs.0) (xs.1 + 1)) (subst (λ q. IsBase leaves types bare false (t ∷ o ∷ q) (ty.Named t.place t.name xs.0) (xs.1 + 1)) (append_assoc u v (c ∷ [])) (instance t o c tn oc b ec))))

  parts_of : (bare : Bool) {u : List Token} {xs : List TypeTree} {h : ℕ} → IsTypes leaves types bare u xs h → is_one xs ≡ false → IsParts leaves types bare u xs h
  parts_of bare (one d) f = absurd (let x : ⊥ = cc in x)
  parts_of bare (more t l c d) f = parts t l c d

  -- the rest of a tuple, where `pre` stands before its first part
  pub tuple_law : (R : Type 0) (w : World) (bare out : Bool) → w.depth ≡ n → (R → w.fuel ≤ w.turns) → (R → 0 < w.depth) → (pre : List Token) (at : Place)
      → ((c : Token) (u : List Token) (xs : List TypeTree) (h : ℕ) → IsParts leaves types bare u xs h → c.kind ≡ k.RightParen → IsBase leaves types out false (pre ++ (u ++ c ∷ [])) (ty.Tuple at xs) (h + 1))
      → (u : List Token) (x : SizedType) → LType leaves types bare u x
      → Law R w Any (λ w. parse.tuple_after leaves types w.turns w.depth (S w) bare at x) (λ v y. LBase leaves types out (pre ++ (u ++ v)) y)
  unfolding parse.tuple_after
  tuple_law R w bare out d fits deep pre at build u x a = bind (rest_law R w bare d fits deep u x a) (λ v xs b.
      choose (is_one xs.0)
      (λ yes. refuse_law (record {
        word = token k.Comma ∷ token_at here_at k.Int ∷ token k.RightParen ∷ [];
        value = sized_base (ty.Tuple at (xs.0 ++ int_tree here_at ∷ [])) (max xs.1 0 + 1);
        is = let t = token_at here_at k.Int in
            subst (λ q. IsBase leaves types out false (pre ++ q) (ty.Tuple at (xs.0 ++ int_tree here_at ∷ [])) (max xs.1 0 + 1))
            (append_assoc (u ++ v) (token k.Comma ∷ t ∷ []) (token k.RightParen ∷ []) ∙ append_assoc u v (token k.Comma ∷ t ∷ token k.RightParen ∷ []))
            (build (token k.RightParen) ((u ++ v) ++ token k.Comma ∷ t ∷ []) (xs.0 ++ int_tree here_at ∷ []) (max xs.1 0) (parts (token k.Comma) b refl (int_type leaves types bare here_at)) refl);
      }))
      (λ no. expect_law (λ w c. pure (sized_base (ty.Tuple at xs.0) (xs.1 + 1))) k.RightParen (λ c ec.
      pure_law (sized_base (ty.Tuple at xs.0) (xs.1 + 1)) (subst (λ q. IsBase leaves types out false (pre ++ q) (ty.Tuple at xs.0) (xs.1 + 1)) (append_assoc u v (c ∷ [])) (build c (u ++ v) xs.0 xs.1 (parts_of bare b no) ec)))))

  tuple_word_law : (R : Type 0) (w : World) (bare : Bool) (G : List Token → Type 0) → w.depth ≡ n → (R → w.fuel ≤ w.turns) → ((t : Token) (ts : List Token) → G (t ∷ ts) → t.kind ≡ k.Tuple)
      → Law R w G (λ w. parse.tuple leaves types w.turns w.depth (S w) bare) (LBase leaves types bare)
  unfolding parse.tuple
  tuple_word_law R w bare G d fits g = take_law (λ w t. expect k.LeftParen >> (parse.sub_type leaves types w.turns w.depth (S w) bare >>= (λ x. parse.tuple_after leaves types w.turns w.depth (S w) bare t.place x))) (nat_lt 0) (lt_grows 0) (λ t. t.kind ≡ k.Tuple) g (base_has leaves types bare)
      (λ t tc. expect_law (λ w o. parse.sub_type leaves types w.turns w.depth (S w) bare >>= (λ x. parse.tuple_after leaves types w.turns w.depth (S w) bare t.place x)) k.LeftParen (λ o oc.
      bind (sub_law (R × (nat_lt 0 w.depth ≡ true)) w bare d (λ r. fits r.0) (λ r. lt_of 0 w.depth r.1)) (λ u x a.
      tuple_law (R × (nat_lt 0 w.depth ≡ true)) w bare bare d (λ r. fits r.0) (λ r. lt_of 0 w.depth r.1) (t ∷ o ∷ []) t.place (λ c u2 xs h b ec. tuple t o c tc oc b ec) u x a)))

  bare_law : (R : Type 0) (w : World) (G : List Token → Type 0) → w.depth ≡ n → (R → w.fuel ≤ w.turns) → ((t : Token) (ts : List Token) → G (t ∷ ts) → t.kind ≡ k.LeftParen)
      → Law R w G (λ w. parse.bare_tuple leaves types w.turns w.depth (S w)) (LBase leaves types true)
  unfolding parse.bare_tuple
  bare_law R w G d fits g = take_law (λ w t. parse.sub_type leaves types w.turns w.depth (S w) true >>= (λ x. parse.tuple_after leaves types w.turns w.depth (S w) true t.place x)) (nat_lt 0) (lt_grows 0) (λ t. t.kind ≡ k.LeftParen) g (base_has leaves types true)
      (λ t tc. bind (sub_law (R × (nat_lt 0 w.depth ≡ true)) w true d (λ r. fits r.0) (λ r. lt_of 0 w.depth r.1)) (λ u x a.
      tuple_law (R × (nat_lt 0 w.depth ≡ true)) w true true d (λ r. fits r.0) (λ r. lt_of 0 w.depth r.1) (t ∷ []) t.place (λ c u2 xs h b ec. bare_tuple t c tc b ec) u x a))

  -- the capacity of a channel behind `pre`, in which its element's type stands
  capacity_law : (R : Type 0) (w : World) (bare : Bool) → w.depth ≡ n → (R → w.fuel ≤ w.turns) → (t o c : Token) → t.kind ≡ k.Chan → o.kind ≡ k.LeftParen → c.kind ≡ k.RightParen → (u : List Token) (x : SizedType) → LType leaves types true u x
      → Law R w Any (λ w. parse.capacity leaves types w.turns w.depth (S w) t.place x.0 (x.1 + 1)) (λ v y. LBase leaves types bare (t ∷ o ∷ (u ++ (c ∷ v))) y)
  unfolding parse.capacity
  capacity_law R w bare d fits t o c tc oc ec u x a =
      let no_bound : IsBase leaves types bare true (t ∷ o ∷ (u ++ c ∷ [])) (ty.Chan t.place x.0 None) (x.1 + 1) = channel t o c tc oc a ec in
      let stops : Has (λ v y. LBase leaves types bare (t ∷ o ∷ (u ++ (c ∷ v))) y) = record { word = []; value = record { tree = ty.Chan t.place x.0 None; height = x.1 + 1; takes_bracket = true }; is = no_bound } in
      look kind kind_local (λ w next. if same_kind next k.LeftBracket then (take_if true >>= (λ _. bound leaves types w.turns w.depth >>= (λ m. expect k.RightBracket >>= (λ _. pure (sized_base (ty.Chan t.place x.0 (Some m.0)) (max (x.1 + 1) m.1)))))) else pure (record { tree = ty.Chan t.place x.0 None; height = x.1 + 1; takes_bracket = true })) stops
      (λ next. choose (same_kind next k.LeftBracket)
      (λ yes. take_law (λ w p. bound leaves types w.turns w.depth >>= (λ m. expect k.RightBracket >>= (λ _. pure (sized_base (ty.Chan t.place x.0 (Some m.0)) (max (x.1 + 1) m.1))))) always (λ m n l e. e) (λ p. p.kind ≡ k.LeftBracket) (λ p ts g. first_kind p ts next g.1 ∙ kind_is next k.LeftBracket yes) stops
      (λ p pc. bind (bound_law leaves types (R × (true ≡ true)) w (λ r. fits r.0)) (λ v m b.
      expect_law (λ w q. pure (sized_base (ty.Chan t.place x.0 (Some m.0)) (max (x.1 + 1) m.1))) k.RightBracket (λ q qc.
      pure_law (sized_base (ty.Chan t.place x.0 (Some m.0)) (max (x.1 + 1) m.1)) (buffered t o c p q tc oc a ec pc b qc)))))
      (λ no. pure_law (record { tree = ty.Chan t.place x.0 None; height = x.1 + 1; takes_bracket = true }) no_bound))

  channel_law : (R : Type 0) (w : World) (bare : Bool) (G : List Token → Type 0) → w.depth ≡ n → (R → w.fuel ≤ w.turns) → ((t : Token) (ts : List Token) → G (t ∷ ts) → t.kind ≡ k.Chan)
      → Law R w G (λ w. parse.channel leaves types w.turns w.depth (S w)) (LBase leaves types bare)
  unfolding parse.channel
  channel_law R w bare G d fits g = take_law (λ w t. expect k.LeftParen >> (parse.sub_type leaves types w.turns w.depth (S w) true >>= (λ x. expect k.RightParen >> parse.capacity leaves types w.turns w.depth (S w) t.place x.0 (x.1 + 1)))) (nat_lt 0) (lt_grows 0) (λ t. t.kind ≡ k.Chan) g (base_has leaves types bare)
      (λ t tc. expect_law (λ w o. parse.sub_type leaves types w.turns w.depth (S w) true >>= (λ x. expect k.RightParen >> parse.capacity leaves types w.turns w.depth (S w) t.place x.0 (x.1 + 1))) k.LeftParen (λ o oc.
      bind (sub_law (R × (nat_lt 0 w.depth ≡ true)) w true d (λ r. fits r.0) (λ r. lt_of 0 w.depth r.1)) (λ u x a.
      expect_law (λ w c. parse.capacity leaves types w.turns w.depth (S w) t.place x.0 (x.1 + 1)) k.RightParen (λ c ec.
      capacity_law (R × (nat_lt 0 w.depth ≡ true)) w bare d (λ r. fits r.0) t o c tc oc ec u x a))))

  -- a base type that begins with no name
  unnamed_law : (R : Type 0) (w : World) (bare : Bool) (G : List Token → Type 0) → w.depth ≡ n → (R → w.fuel ≤ w.turns) → Law R w G (λ w. parse.unnamed leaves types w.turns w.depth (S w) bare) (LBase leaves types bare)
  unfolding parse.unnamed
  unnamed_law R w bare G d fits = look kind kind_local (λ w next. parse.unnamed_by leaves types w.turns w.depth (S w) bare next (basic_type next)) (base_has leaves types bare) (λ next. by next (basic_type next) refl)
    where
      opens : (kd : TokenKind) (bare : Bool) (x : Bool) → (bare && same_kind kd k.LeftParen) ≡ x → Law R w (λ ts. G ts × (kind ts ≡ kd)) (λ w. if x then parse.bare_tuple leaves types w.turns w.depth (S w) else refuse) (LBase leaves types bare)
      opens kd true true e = bare_law R w (λ ts. G ts × (kind ts ≡ kd)) d fits (λ t ts g. first_kind t ts kd g.1 ∙ kind_is kd k.LeftParen e)
      opens kd true false e = refuse_law (base_has leaves types true)
      opens kd false true e = absurd (let f : ⊥ = cc in f)
      opens kd false false e = refuse_law (base_has leaves types false)

      by : (kd : TokenKind) (o : Option BasicType) → basic_type kd ≡ o → Law R w (λ ts. G ts × (kind ts ≡ kd)) (λ w. parse.unnamed_by leaves types w.turns w.depth (S w) bare kd o) (LBase leaves types bare)
      by kd (Some x) e = take_law (λ w t. pure (sized_base (ty.Basic t.place x) 0)) always (λ m n l e. e) (λ t. basic_type t.kind ≡ Some x) (λ t ts g. ap basic_type (first_kind t ts kd g.1) ∙ e) (base_has leaves types bare)
          (λ t c. pure_law (sized_base (ty.Basic t.place x) 0) (basic t c))
      by kd None e = choose (same_kind kd k.Tuple)
          (λ yes. tuple_word_law R w bare (λ ts. G ts × (kind ts ≡ kd)) d fits (λ t ts g. first_kind t ts kd g.1 ∙ kind_is kd k.Tuple yes))
          (λ no. choose (same_kind kd k.Chan)
          (λ yes. channel_law R w bare (λ ts. G ts × (kind ts ≡ kd)) d fits (λ t ts g. first_kind t ts kd g.1 ∙ kind_is kd k.Chan yes))
          (λ no2. opens kd bare (bare && same_kind kd k.LeftParen) refl))

  -- a type's name and its arguments
  named_law : (R : Type 0) (w : World) (bare : Bool) (G : List Token → Type 0) → w.depth ≡ n → (R → w.fuel ≤ w.turns) → ((t : Token) (ts : List Token) → G (t ∷ ts) → IsTypeName leaves types t)
      → Law R w G (λ w. parse.named leaves types w.turns w.depth (S w) bare) (LBase leaves types bare)
  unfolding parse.named
  named_law R w bare G d fits g = take_law (λ w t. peek >>= (λ next. if same_kind next k.LeftBracket then (take_if (nat_lt 0 w.depth) >>= (λ _. parse.sub_type leaves types w.turns w.depth (S w) bare >>= (λ x. parse.arguments_after leaves types w.turns w.depth (S w) bare t x))) else pure (sized_base (ty.Named t.place t.name []) 0))) always (λ m n l e. e) (IsTypeName leaves types) g (base_has leaves types bare)
      (λ t tn.
      let stops : Has (λ v y. LBase leaves types bare (t ∷ v) y) = record { word = []; value = sized_base (ty.Named t.place t.name []) 0; is = named t tn } in
      look kind kind_local (λ w next. if same_kind next k.LeftBracket then (take_if (nat_lt 0 w.depth) >>= (λ _. parse.sub_type leaves types w.turns w.depth (S w) bare >>= (λ x. parse.arguments_after leaves types w.turns w.depth (S w) bare t x))) else pure (sized_base (ty.Named t.place t.name []) 0)) stops
      (λ next. choose (same_kind next k.LeftBracket)
      (λ yes. take_law (λ w o. parse.sub_type leaves types w.turns w.depth (S w) bare >>= (λ x. parse.arguments_after leaves types w.turns w.depth (S w) bare t x)) (nat_lt 0) (lt_grows 0) (λ o. o.kind ≡ k.LeftBracket) (λ o ts g. first_kind o ts next g.1 ∙ kind_is next k.LeftBracket yes) stops
      (λ o oc. bind (sub_law ((R × (true ≡ true)) × (nat_lt 0 w.depth ≡ true)) w bare d (λ r. fits r.0.0) (λ r. lt_of 0 w.depth r.1)) (λ u x a.
      arguments_law ((R × (true ≡ true)) × (nat_lt 0 w.depth ≡ true)) w bare d (λ r. fits r.0.0) (λ r. lt_of 0 w.depth r.1) t o tn oc u x a)))
      (λ no. pure_law (sized_base (ty.Named t.place t.name []) 0) (named t tn))))

  pub base_law : (R : Type 0) (w : World) (bare : Bool) (G : List Token → Type 0) → w.depth ≡ n → (R → w.fuel ≤ w.turns) → Law R w G (λ w. parse.base_at leaves types w.turns w.depth (S w) bare) (LBase leaves types bare)
  unfolding parse.base_at
  base_law R w bare G d fits = look (sees_type_name types) (type_name_local leaves types) (λ w is. if is then parse.named leaves types w.turns w.depth (S w) bare else parse.unnamed leaves types w.turns w.depth (S w) bare) (base_has leaves types bare)
      (λ is. choose is
      (λ yes. named_law R w bare (λ ts. G ts × (sees_type_name types ts ≡ is)) d fits (λ t ts g. type_name_is leaves types t ts (g.1 ∙ yes)))
      (λ no. unnamed_law R w bare (λ ts. G ts × (sees_type_name types ts ≡ is)) d fits))

  -- ---- stars and bounds behind a base type

  bounds_nil : {v : List Token} {xs : List Bound} {h : ℕ} → IsBounds leaves types v xs h → xs ≡ [] → (v ≡ []) × (h ≡ 0)
  bounds_nil rules.none e = (refl, refl)
  bounds_nil (rules.more o c {xs = xs} {x = x} l oc a ec) e = absurd (let n = ap length e in omega (arith, n, length-append xs (x ∷ [])))

  with_bounds : (bare : Bool) (u v : List Token) (at : Place) (y : ReadBase) (xs : List Bound) (h : ℕ) → LStarred leaves types bare u y → y.takes_bracket ≡ false → start u ≡ at → IsBounds leaves types v xs h
      → IsTypeTree leaves types bare (u ++ v) (arrays at xs y.tree) (max y.height h)
  with_bounds bare u v at y [] h d f s b =
      let none = bounds_nil b refl in
      subst (λ q. IsTypeTree leaves types bare (u ++ q) y.tree (max y.height h)) (sym none.0) (subst (λ q. IsTypeTree leaves types bare (u ++ []) y.tree q) (let z : y.height ≡ max y.height h = omega (arith, none.1) in z) (subst (λ q. IsTypeTree leaves types bare q y.tree y.height) (sym (append-nil u)) (plain d)))
  with_bounds bare u v at y (m ∷ ms) h d f s b = subst (λ q. IsTypeTree leaves types bare (u ++ v) (arrays q (m ∷ ms) y.tree) (max y.height h)) s (array (subst (λ q. IsStarred leaves types bare q u y.tree y.height) f d) b)

  pub after_law : (R : Type 0) (w : World) (bare : Bool) → (R → w.fuel ≤ w.turns) → (u : List Token) (x : ReadBase) (at : Place) → LBase leaves types bare u x → start u ≡ at
      → Law R w Any (λ w. parse.type_after leaves types w.turns w.depth (S w) at x) (λ v y. LType leaves types bare (u ++ v) y)
  unfolding parse.type_after
  after_law R w bare fits u x at a s = bind (all_turns fits (λ i w. pointers_from i at x) (pointers_law leaves types (w.fuel ≤ w.turns) bare w.turns (record w { fuel = w.turns }) refl u x at (base a) s)) (λ v y b.
      choose y.takes_bracket
      (λ yes. pure_law (y.tree, y.height) (subst (λ q. IsTypeTree leaves types bare (u ++ q) y.tree y.height) (sym (append-nil v)) (plain b)))
      (λ no. map_law (λ ns. (arrays at ns.0 y.tree, max y.height ns.1))
      (all_turns fits (λ i w. bounds_from leaves types w.turns w.depth i [] 0) (bounds_law leaves types (w.fuel ≤ w.turns) w.turns (record w { fuel = w.turns }) refl (λ r. omega arith) [] [] 0 rules.none))
      (λ v2 ns q. subst (λ l. IsTypeTree leaves types bare l (arrays at ns.0 y.tree) (max y.height ns.1)) (append_assoc u v v2)
      (with_bounds bare (u ++ v) v2 at y ns.0 ns.1 b no (start_of u v (base_long leaves types a) ∙ s) q))))

  -- the array of a name's type, behind its first bound
  array_law : (R : Type 0) (w : World) (bare : Bool) → (R → w.fuel ≤ w.turns) → (t o : Token) → IsTypeName leaves types t → o.kind ≡ k.LeftBracket → (u : List Token) (m : SizedBound) → IsBound leaves types u m.0 m.1
      → Law R w Any (λ w. parse.array_of leaves types w.turns w.depth (S w) t m) (λ v y. LType leaves types bare (t ∷ o ∷ (u ++ v)) y)
  unfolding parse.array_of
  array_law R w bare fits t o tn oc u m a = expect_law (λ w c. bounds_from leaves types w.turns w.depth w.turns (m.0 ∷ []) m.1 >>= (λ ns. pure (arrays t.place ns.0 (ty.Named t.place t.name []), ns.1))) k.RightBracket (λ c ec.
      let first : IsBounds leaves types (o ∷ (u ++ c ∷ [])) (m.0 ∷ []) m.1 = subst (λ h. IsBounds leaves types (o ∷ (u ++ c ∷ [])) (m.0 ∷ []) h) (zero_max m.1) (rules.more o c rules.none oc a ec) in
      map_law (λ ns. (arrays t.place ns.0 (ty.Named t.place t.name []), ns.1))
      (all_turns fits (λ i w. bounds_from leaves types w.turns w.depth i (m.0 ∷ []) m.1) (bounds_law leaves types (w.fuel ≤ w.turns) w.turns (record w { fuel = w.turns }) refl (λ r. omega arith) (o ∷ (u ++ c ∷ [])) (m.0 ∷ []) m.1 first))
      (λ v2 ns q. subst (λ h. IsTypeTree leaves types bare (t ∷ o ∷ (u ++ (c ∷ v2))) (arrays t.place ns.0 (ty.Named t.place t.name [])) h) (zero_max ns.1)
      (subst (λ l. IsTypeTree leaves types bare (t ∷ o ∷ l) (arrays t.place ns.0 (ty.Named t.place t.name [])) (max 0 ns.1)) (append_assoc u (c ∷ []) v2)
      (with_bounds bare (t ∷ []) ((o ∷ (u ++ c ∷ [])) ++ v2) t.place (sized_base (ty.Named t.place t.name []) 0) ns.0 ns.1 (base (named t tn)) refl refl q))))

  begins_local : (bare : Bool) (ts ts' : List Token) → head ts ≡ head ts' → parse.begins_part types bare ts ≡ parse.begins_part types bare ts'
  unfolding parse.begins_part
  begins_local bare ts ts' h = ap₂ (λ x kd. x || (bare && same_kind kd k.LeftParen)) (type_local leaves types ts ts' h) (kind_local ts ts' h)

  begins_some : (bare : Bool) → parse.begins_part types bare [] ≡ true → ⊥
  unfolding parse.begins_part sees_type sees_type_name kind same_kind
  begins_some true h = cc
  begins_some false h = cc

  -- a part goes on from the token that begins it
  begins_part : (bare : Bool) (t : Token) (ts : List Token) → parse.begins_part types bare (t ∷ ts) ≡ true → Has (λ v x. LPart leaves types bare (t ∷ v) x)
  unfolding parse.begins_part kind
  begins_part bare t ts h =
      or_either leaves types (sees_type types (t ∷ ts)) _ h
      (λ b. let g = type_begins leaves types bare t ts b in record { word = g.word; value = (part.Type g.value.0, g.value.1); is = g.is })
      (λ b. let p = and_parts bare (same_kind t.kind k.LeftParen) b in
      let g = bound_has leaves types in
      record { word = g.word ++ token k.RightParen ∷ []; value = (part.Bound g.value.0, g.value.1 + 1); is = rules.term (rules.prim (rules.paren t (token k.RightParen) (kind_is t.kind k.LeftParen p.1) g.is refl)) })

  -- ---- brackets behind a type's name

  bracketed_law : (R : Type 0) (w : World) (bare : Bool) → w.depth ≡ n → (R → w.fuel ≤ w.turns) → (R → 0 < w.depth) → (t o : Token) → IsTypeName leaves types t → o.kind ≡ k.LeftBracket → (u : List Token) (x : SizedPart) → LPart leaves types bare u x
      → Law R w Any (λ w. parse.bracketed leaves types w.turns w.depth (S w) bare t x) (λ v y. LType leaves types bare (t ∷ o ∷ (u ++ v)) y)
  bracketed_law R w bare d fits deep t o tn oc u (part.Type y, h) a = bind (arguments_law R w bare d fits deep t o tn oc u (y, h) a) (λ v b c.
      relang (λ r z i. subst (λ q. IsTypeTree leaves types bare (t ∷ o ∷ q) z.0 z.1) (append_assoc u v r) i) (after_law R w bare fits (t ∷ o ∷ (u ++ v)) b t.place c refl))
  bracketed_law R w bare d fits deep t o tn oc u (part.Bound m, h) a = array_law R w bare fits t o tn oc u (m, h) a

  to_part : (bare : Bool) (u : List Token) (x : SizedPart) → LWant leaves types (part_wanted bare) u x → LPart leaves types bare u x
  to_part true u x a = a
  to_part false u (part.Type y, h) a = a
  to_part false u (part.Bound y, h) a = absurd a

  one_bound : {u : List Token} {x : Bound} {h : ℕ} (o c : Token) → o.kind ≡ k.LeftBracket → IsBound leaves types u x h → c.kind ≡ k.RightBracket → IsBounds leaves types (o ∷ (u ++ c ∷ [])) (x ∷ []) h
  one_bound {u} {x} {h} o c oc a ec = subst (λ m. IsBounds leaves types (o ∷ (u ++ c ∷ [])) (x ∷ []) m) (zero_max h) (rules.more o c rules.none oc a ec)

  -- the bracket that closes makes a type of it
  closes : (bare : Bool) (t o : Token) → IsTypeName leaves types t → o.kind ≡ k.LeftBracket → (u : List Token) (x : Part) (h : ℕ) → PartIs leaves types bare u x h → Has (λ v y. LType leaves types bare (t ∷ o ∷ (u ++ v)) y)
  closes bare t o tn oc u (part.Type y) h a = record { word = token k.RightBracket ∷ []; value = (ty.Named t.place t.name (y ∷ []), h + 1); is = plain (base (instance t o (token k.RightBracket) tn oc (one a) refl)) }
  closes bare t o tn oc u (part.Bound y) h a = record { word = token k.RightBracket ∷ []; value = (ty.Array t.place y (ty.Named t.place t.name []), max 0 h); is = array (base (named t tn)) (one_bound o (token k.RightBracket) oc a refl) }

  goes_on : (bare : Bool) (t o s : Token) → IsTypeName leaves types t → o.kind ≡ k.LeftBracket → Has (λ v x. LPart leaves types bare (s ∷ v) x) → Has (λ v y. LType leaves types bare (t ∷ o ∷ (s ∷ v)) y)
  goes_on bare t o s tn oc g = let c = closes bare t o tn oc (s ∷ g.word) g.value.0 g.value.1 g.is in record { word = g.word ++ c.word; value = c.value; is = c.is }

  bracket_law : (R : Type 0) (w : World) (bare : Bool) → w.depth ≡ n → (R → w.fuel ≤ w.turns) → (t o : Token) → IsTypeName leaves types t → o.kind ≡ k.LeftBracket
      → Law R w Any (λ w. parse.bracket leaves types w.turns w.depth (S w) bare t) (λ v y. LType leaves types bare (t ∷ o ∷ v) y)
  unfolding parse.bracket parse.bracket_part
  bracket_law R w bare d fits t o tn oc = look (parse.begins_part types bare) (begins_local bare)
      (λ w begins. if begins then (if nat_lt 0 w.depth then parse.bracket_part leaves types w.turns w.depth (S w) bare t else (take_if false >> refuse)) else (bound leaves types w.turns w.depth >>= parse.array_of leaves types w.turns w.depth (S w) t))
      (from_token (λ v y. LType leaves types bare (t ∷ o ∷ v) y) (token_at here_at k.Int) (goes_on bare t o (token_at here_at k.Int) tn oc (record { word = []; value = (part.Type (int_tree here_at), 0); is = int_type leaves types bare here_at })))
      (λ begins. choose begins
      (λ yes. room_law (nat_lt 0) (lt_grows 0) (λ g. begins_some bare (g.1 ∙ yes)) (λ s ts g. goes_on bare t o s tn oc (begins_part bare s ts (g.1 ∙ yes)))
      (anywhere (bind (subs (R × (nat_lt 0 w.depth ≡ true)) w d (λ r. fits r.0) (λ r. lt_of 0 w.depth r.1) (part_wanted bare)) (λ u x a.
      bracketed_law (R × (nat_lt 0 w.depth ≡ true)) w bare d (λ r. fits r.0) (λ r. lt_of 0 w.depth r.1) t o tn oc u x (to_part bare u x a)))))
      (λ no. anywhere (bind (bound_law leaves types R w fits) (λ u m a. array_law R w bare fits t o tn oc u m a))))

  -- what stands in the brackets, and what is read behind it: where it is a type there is a level
  pub inside_law : {A : Type 0} {Q : Lang A} (R : Type 0) (w : World) → w.depth ≡ n → (R → w.fuel ≤ w.turns) → (f : World → SizedPart → Parser A)
      → ((R' : Type 0) → (R' → w.fuel ≤ w.turns) → (R' → 0 < w.depth) → (u : List Token) (x : SizedPart) → LPart leaves types true u x → Law R' w Any (λ w. f w x) (λ v y. Q (u ++ v) y))
      → ((R' : Type 0) → (R' → w.fuel ≤ w.turns) → (u : List Token) (x : SizedBound) → IsBound leaves types u x.0 x.1 → Law R' w Any (λ w. f w (part.Bound x.0, x.1)) (λ v y. Q (u ++ v) y))
      → Law R w Any (λ w. inside_within leaves types w.turns w.depth >>= f w) Q
  unfolding inside_within take_if
  inside_law {A} {Q} R w d fits f of_type of_bound = look (parse.begins_part types true) (begins_local true) (λ w begins. inside begins w >>= f w)
      (bind {p = λ w. bound leaves types w.turns w.depth >>= (λ x. pure (part.Bound x.0, x.1))} {f = f} (map_law {Q = λ u x. Bounded u x.0 x.1} (λ x. (part.Bound x.0, x.1)) (bound_law leaves types R w fits) (λ u x a. a)) (λ u x a. behind_bound u x.0 x.1 a)).has
      by
    where
      inside : Bool → Family SizedPart
      inside begins w = if begins then (if nat_lt 0 w.depth then S w want.Either else (take_if false >> refuse)) else (bound leaves types w.turns w.depth >>= (λ x. pure (part.Bound x.0, x.1)))

      Bounded : List Token → Part → ℕ → Type 0
      Bounded u (part.Bound x) h = IsBound leaves types u x h
      Bounded u (part.Type x) h = ⊥

      behind_bound : (u : List Token) (x : Part) (h : ℕ) → Bounded u x h → Law R w Any (λ w. f w (x, h)) (λ v y. Q (u ++ v) y)
      behind_bound u (part.Bound x) h a = of_bound R fits u (x, h) a
      behind_bound u (part.Type x) h a = absurd a

      room : Family A
      room w = if nat_lt 0 w.depth then (S w want.Either >>= f w) else (take_if false >> refuse)

      same : (c : Bool) (p : Parser SizedPart) (g : SizedPart → Parser A) (ts : List Token) → ((if c then p else (take_if false >> refuse)) >>= g) ts ≡ (if c then (p >>= g) else (take_if false >> refuse)) ts
      same true p g ts = refl
      same false p g [] = refl
      same false p g (t ∷ ts) = refl

      deep : (s : Token) (ts : List Token) → parse.begins_part types true (s ∷ ts) ≡ true → Has (λ v y. Q (s ∷ v) y)
      deep s ts g =
          let h = begins_part true s ts g in
          let k = (of_type (0 < w.depth × R) (λ r. fits r.1) (λ r. r.0) (s ∷ h.word) h.value h.is).has in
          record { word = h.word ++ k.word; value = k.value; is = k.is }

      by : (begins : Bool) → Law R w (λ ts. Any ts × (parse.begins_part types true ts ≡ begins)) (λ w. inside begins w >>= f w) Q
      by true = view_law (λ w. w) (λ w' ab. ab) (λ w' ab same. same) (λ r. r) (λ r. omega arith) (λ w' ab ts. same (nat_lt 0 w'.depth) (S w' want.Either) (f w') ts)
          (room_law {p = λ w. S w want.Either >>= f w} (nat_lt 0) (lt_grows 0) (λ g. begins_some true g.1) (λ s ts g. deep s ts g.1)
          (anywhere (bind (subs (R × (nat_lt 0 w.depth ≡ true)) w d (λ r. fits r.0) (λ r. lt_of 0 w.depth r.1) want.Either) (λ u x a.
          of_type (R × (nat_lt 0 w.depth ≡ true)) (λ r. fits r.0) (λ r. lt_of 0 w.depth r.1) u x a))))
      by false = anywhere (bind {p = λ w. bound leaves types w.turns w.depth >>= (λ x. pure (part.Bound x.0, x.1))} {f = f} (map_law {Q = λ u x. Bounded u x.0 x.1} (λ x. (part.Bound x.0, x.1)) (bound_law leaves types R w fits) (λ u x a. a)) (λ u x a. behind_bound u x.0 x.1 a))

  named_type_law : (R : Type 0) (w : World) (bare : Bool) (G : List Token → Type 0) → w.depth ≡ n → (R → w.fuel ≤ w.turns) → ((t : Token) (ts : List Token) → G (t ∷ ts) → IsTypeName leaves types t)
      → Law R w G (λ w. parse.named_type leaves types w.turns w.depth (S w) bare) (LType leaves types bare)
  unfolding parse.named_type
  named_type_law R w bare G d fits g = take_law (λ w t. peek >>= (λ next. if same_kind next k.LeftBracket then (take_if true >>= (λ _. parse.bracket leaves types w.turns w.depth (S w) bare t)) else parse.type_after leaves types w.turns w.depth (S w) t.place (sized_base (ty.Named t.place t.name []) 0))) always (λ m n l e. e) (IsTypeName leaves types) g (type_has leaves types bare)
      (λ t tn.
      let stops : Has (λ v y. LType leaves types bare (t ∷ v) y) = record { word = []; value = (ty.Named t.place t.name [], 0); is = plain (base (named t tn)) } in
      look kind kind_local (λ w next. if same_kind next k.LeftBracket then (take_if true >>= (λ _. parse.bracket leaves types w.turns w.depth (S w) bare t)) else parse.type_after leaves types w.turns w.depth (S w) t.place (sized_base (ty.Named t.place t.name []) 0)) stops
      (λ next. choose (same_kind next k.LeftBracket)
      (λ yes. take_law (λ w o. parse.bracket leaves types w.turns w.depth (S w) bare t) always (λ m n l e. e) (λ o. o.kind ≡ k.LeftBracket) (λ o ts g. first_kind o ts next g.1 ∙ kind_is next k.LeftBracket yes) stops
      (λ o oc. bracket_law ((R × (true ≡ true)) × (true ≡ true)) w bare d (λ r. fits r.0.0) t o tn oc))
      (λ no. anywhere (after_law (R × (true ≡ true)) w bare (λ r. fits r.0) (t ∷ []) (sized_base (ty.Named t.place t.name []) 0) t.place (named t tn) refl))))

  pub type_law : (R : Type 0) (w : World) (bare : Bool) (G : List Token → Type 0) → w.depth ≡ n → (R → w.fuel ≤ w.turns) → Law R w G (λ w. parse.type_at leaves types w.turns w.depth (S w) bare) (LType leaves types bare)
  unfolding parse.type_at
  type_law R w bare G d fits = look (sees_type_name types) (type_name_local leaves types) (λ w is. if is then parse.named_type leaves types w.turns w.depth (S w) bare else (here >>= (λ at. parse.unnamed leaves types w.turns w.depth (S w) bare >>= parse.type_after leaves types w.turns w.depth (S w) at))) (type_has leaves types bare)
      (λ is. choose is
      (λ yes. named_type_law R w bare (λ ts. G ts × (sees_type_name types ts ≡ is)) d fits (λ t ts g. type_name_is leaves types t ts (g.1 ∙ yes)))
      (λ no. look start start_local (λ w at. parse.unnamed leaves types w.turns w.depth (S w) bare >>= parse.type_after leaves types w.turns w.depth (S w) at) (type_has leaves types bare)
      (λ at. bind (located at (λ u x a. base_long leaves types a) (base_place leaves types bare at) (unnamed_law R w bare (λ ts. G ts × (sees_type_name types ts ≡ is)) d fits)) (λ u x a. after_law R w bare fits u x at a.0 a.1))))

  -- ---- a type or a bound behind a parenthesis

  closed_type_law : (R : Type 0) (w : World) → w.depth ≡ n → (R → w.fuel ≤ w.turns) → (R → 0 < w.depth) → (o : Token) → o.kind ≡ k.LeftParen → (u : List Token) (x : SizedType) → LType leaves types true u x
      → Law R w Any (λ w. parse.closed_type leaves types w.turns w.depth (S w) o.place x) (λ v y. LPart leaves types true (o ∷ (u ++ v)) y)
  unfolding parse.closed_type
  closed_type_law R w d fits deep o oc u x a = bind (tuple_law R w true true d fits deep (o ∷ []) o.place (λ c u2 xs h b ec. bare_tuple o c oc b ec) u x a) (λ v b c.
      map_law (λ z. (part.Type z.0, z.1)) (after_law R w true fits (o ∷ (u ++ v)) b o.place c refl) (λ r z q. subst (λ l. IsTypeTree leaves types true (o ∷ l) z.0 z.1) (append_assoc u v r) q))

  closed_bound_law : (R : Type 0) (w : World) → (R → w.fuel ≤ w.turns) → (o : Token) → o.kind ≡ k.LeftParen → (u : List Token) (x : SizedBound) → IsBound leaves types u x.0 x.1
      → Law R w Any (λ w. parse.closed_bound leaves types w.turns w.depth (S w) o.place x) (λ v y. LPart leaves types true (o ∷ (u ++ v)) y)
  unfolding parse.closed_bound
  closed_bound_law R w fits o oc u x a = expect_law (λ w c. parse.bound_after leaves types w.turns (w.depth + 1) (bound_below leaves types w.turns (w.depth + 1)) o.place (x.0, x.1 + 1) >>= (λ y. pure (part.Bound y.0, y.1))) k.RightParen (λ c ec.
      map_law (λ y. (part.Bound y.0, y.1)) (higher_after_law leaves types R w fits (o ∷ (u ++ c ∷ [])) (x.0, x.1 + 1) o.place (rules.prim (rules.paren o c oc a ec)) refl) (λ r y q. subst (λ l. IsBound leaves types (o ∷ l) y.0 y.1) (append_assoc u (c ∷ []) r) q))

  parenthesised_law : (R : Type 0) (w : World) → w.depth ≡ n → (R → w.fuel ≤ w.turns) → (R → 0 < w.depth) → (o : Token) → o.kind ≡ k.LeftParen → (u : List Token) (x : SizedPart) → LPart leaves types true u x
      → Law R w Any (λ w. parse.parenthesised leaves types w.turns w.depth (S w) o.place x) (λ v y. LPart leaves types true (o ∷ (u ++ v)) y)
  parenthesised_law R w d fits deep o oc u (part.Type y, h) a = closed_type_law R w d fits deep o oc u (y, h) a
  parenthesised_law R w d fits deep o oc u (part.Bound y, h) a = closed_bound_law R w fits o oc u (y, h) a

  shuts : (o : Token) → o.kind ≡ k.LeftParen → (u : List Token) (x : Part) (h : ℕ) → PartIs leaves types true u x h → Has (λ v y. LPart leaves types true (o ∷ (u ++ v)) y)
  shuts o oc u (part.Type y) h a =
      let t = token_at here_at k.Int in
      record {
        word = token k.Comma ∷ t ∷ token k.RightParen ∷ [];
        value = (part.Type (ty.Tuple o.place (y ∷ int_tree here_at ∷ [])), max h 0 + 1);
        is = subst (λ q. IsTypeTree leaves types true (o ∷ q) (ty.Tuple o.place (y ∷ int_tree here_at ∷ [])) (max h 0 + 1)) (append_assoc u (token k.Comma ∷ t ∷ []) (token k.RightParen ∷ []))
            (plain (base (bare_tuple o (token k.RightParen) oc (parts (token k.Comma) (one a) refl (int_type leaves types true here_at)) refl)));
      }
  shuts o oc u (part.Bound y) h a = record { word = token k.RightParen ∷ []; value = (part.Bound y, h + 1); is = rules.term (rules.prim (rules.paren o (token k.RightParen) oc a refl)) }

  shuts_on : (o s : Token) → o.kind ≡ k.LeftParen → Has (λ v x. LPart leaves types true (s ∷ v) x) → Has (λ v y. LPart leaves types true (o ∷ (s ∷ v)) y)
  shuts_on o s oc g = let c = shuts o oc (s ∷ g.word) g.value.0 g.value.1 g.is in record { word = g.word ++ c.word; value = c.value; is = c.is }

  parenthesis_law : (R : Type 0) (w : World) → w.depth ≡ n → (R → w.fuel ≤ w.turns) → (o : Token) → o.kind ≡ k.LeftParen
      → Law R w Any (λ w. parse.parenthesis leaves types w.turns w.depth (S w) o.place) (λ v y. LPart leaves types true (o ∷ v) y)
  unfolding parse.parenthesis
  parenthesis_law R w d fits o oc = look (parse.begins_part types true) (begins_local true)
      (λ w begins. if begins then (if nat_lt 0 w.depth then (S w want.Either >>= parse.parenthesised leaves types w.turns w.depth (S w) o.place) else (take_if false >> refuse)) else (bound leaves types w.turns w.depth >>= parse.closed_bound leaves types w.turns w.depth (S w) o.place))
      (from_token (λ v y. LPart leaves types true (o ∷ v) y) (token_at here_at k.Int) (shuts_on o (token_at here_at k.Int) oc (record { word = []; value = (part.Type (int_tree here_at), 0); is = int_type leaves types true here_at })))
      (λ begins. choose begins
      (λ yes. room_law (nat_lt 0) (lt_grows 0) (λ g. begins_some true (g.1 ∙ yes)) (λ s ts g. shuts_on o s oc (begins_part true s ts (g.1 ∙ yes)))
      (anywhere (bind (subs (R × (nat_lt 0 w.depth ≡ true)) w d (λ r. fits r.0) (λ r. lt_of 0 w.depth r.1) want.Either) (λ u x a.
      parenthesised_law (R × (nat_lt 0 w.depth ≡ true)) w d (λ r. fits r.0) (λ r. lt_of 0 w.depth r.1) o oc u x a))))
      (λ no. anywhere (bind (bound_law leaves types R w fits) (λ u m a. closed_bound_law R w fits o oc u m a))))

  either_law : (R : Type 0) (w : World) → w.depth ≡ n → (R → w.fuel ≤ w.turns) → Law R w Any (λ w. parse.either_at leaves types w.turns w.depth (S w)) (LPart leaves types true)
  unfolding parse.either_at
  either_law R w d fits = look (sees_type types) (type_local leaves types)
      (λ w is. peek >>= (λ next. if is then (parse.type_at leaves types w.turns w.depth (S w) true >>= (λ x. pure (part.Type x.0, x.1))) else (if same_kind next k.LeftParen then (take_if true >>= (λ o. parse.parenthesis leaves types w.turns w.depth (S w) o.place)) else (bound leaves types w.turns (w.depth + 1) >>= (λ x. pure (part.Bound x.0, x.1)))))) (part_has leaves types true)
      (λ is. look kind kind_local (λ w next. if is then (parse.type_at leaves types w.turns w.depth (S w) true >>= (λ x. pure (part.Type x.0, x.1))) else (if same_kind next k.LeftParen then (take_if true >>= (λ o. parse.parenthesis leaves types w.turns w.depth (S w) o.place)) else (bound leaves types w.turns (w.depth + 1) >>= (λ x. pure (part.Bound x.0, x.1))))) (part_has leaves types true)
      (λ next. choose is
      (λ yes. map_law (λ x. (part.Type x.0, x.1)) (type_law R w true (λ ts. (Any ts × (sees_type types ts ≡ is)) × (kind ts ≡ next)) d fits) (λ u x a. a))
      (λ no. choose (same_kind next k.LeftParen)
      (λ yes. take_law (λ w o. parse.parenthesis leaves types w.turns w.depth (S w) o.place) always (λ m n l e. e) (λ o. o.kind ≡ k.LeftParen) (λ o ts g. first_kind o ts next g.1 ∙ kind_is next k.LeftParen yes) (part_has leaves types true)
      (λ o oc. parenthesis_law (R × (true ≡ true)) w d (λ r. fits r.0) o oc))
      (λ no2. anywhere (map_law (λ x. (part.Bound x.0, x.1)) (higher_bound_law leaves types R w fits) (λ u x a. a))))))

  pub want_law : (R : Type 0) (w : World) → w.depth ≡ n → (R → w.fuel ≤ w.turns) → (x : Want) → Law R w Any (λ w. parse.at_want leaves types w.turns w.depth (S w) x) (LWant leaves types x)
  want_law R w d fits want.AnyType = map_law (λ x. (part.Type x.0, x.1)) (type_law R w true Any d fits) (λ u x a. a)
  want_law R w d fits want.WordType = map_law (λ x. (part.Type x.0, x.1)) (type_law R w false Any d fits) (λ u x a. a)
  want_law R w d fits want.Either = either_law R w d fits

module _ (leaves : Leaves) (types : List ℕ) where
  want_has : (x : Want) → Has (LWant leaves types x)
  want_has want.AnyType = record { word = token_at here_at k.Int ∷ []; value = (part.Type (int_tree here_at), 0); is = int_type leaves types true here_at }
  want_has want.WordType = record { word = token_at here_at k.Int ∷ []; value = (part.Type (int_tree here_at), 0); is = int_type leaves types false here_at }
  want_has want.Either = record { word = token_at here_at k.Int ∷ []; value = (part.Type (int_tree here_at), 0); is = int_type leaves types true here_at }

  pub parts_law : (n : ℕ) (R : Type 0) (w : World) → w.depth ≡ n → (R → w.fuel ≤ w.turns) → (R → 0 < w.depth) → (x : Want) → Law R w Any (λ w. below leaves types w.turns w.depth x) (LWant leaves types x)
  unfolding below
  parts_law zero R w d fits deep x = record { run = λ r. absurd (let h : 0 < w.depth = deep r in omega arith); has = want_has x }
  parts_law (suc n) R w d fits deep x =
      view_law lower (λ w' ab. lower_above w w' ab) (λ w' ab same. ap pred same) (λ r. r) (λ r. omega arith)
      (λ w' ab ts. ap (λ m. below leaves types w'.turns m x ts) (some_pred w'.depth n (omega (arith, ab.depth))))
      (want_law leaves types n (λ R' w2 d2 f2 p2 x2. parts_law n R' w2 d2 f2 p2 x2) R (lower w) (ap pred d) fits x)
