-- The types that the grammar has are parsed to their trees.
use Rattle.std.proofs.Common.{◌≡◌, ℕ, zero, suc, pred, ◌+◌, ◌<◌, ◌≤◌, ◌==◌, max, nat_lt, Bool, true, false, if◌then◌else◌, ◌||◌, ◌&&◌, not, List, [], ◌∷◌, ◌++◌, length, Option, Some, None, is_some, Ok, Err, ◌⊎◌, inl, inr, refl, sym, ap, ap₂, ◌∙◌, subst, arith, append_assoc, append-nil, length-append}
use Rattle.al_base.specs.declared.place.Place.{Place}
use Rattle.al_lex.specs.declared.kind.TokenKind.{TokenKind}
use Rattle.al_lex.specs.declared.kind.TokenKind.TheVariants as k
use Rattle.al_lex.specs.declared.token.Token.{Token}
use Rattle.al_tree.specs.Words.{start, basic_type}
use Rattle.al_tree.specs.Types.{Leaves, known, name_at, arrays, IsTypeName, type_name, IsOtherName, other_name, IsBoundPrim, number, name, paren, IsBoundTerm, IsBound, IsBounds, IsBase, basic, named, instance, tuple, bare_tuple, channel, buffered, IsStarred, base, star, IsTypeTree, plain, array, IsTypes, one, more, IsParts, parts}
use Rattle.al_tree.specs.Types as rules
use Rattle.al_tree.specs.Reading.{Parser, and_then, kind, name_number, same_kind, take_if, expect_if}
use Rattle.al_tree.specs.declared.type_tree.BasicType.{BasicType}
use Rattle.al_tree.specs.declared.type_tree.Bound.{Bound}
use Rattle.al_tree.specs.declared.type_tree.TypeTree.{TypeTree}
use Rattle.al_tree.specs.declared.type_tree.TypeTree.TheVariants as ty
use Rattle.al_tree.proofs.Law.{some_pred, start_of}
use Rattle.al_parse_type.specs.declared.part.Part.TheVariants as part
use Rattle.al_parse_type.specs.declared.part.Want.{Want}
use Rattle.al_parse_type.specs.declared.part.ReadBase.{ReadBase}
use Rattle.al_parse_type.specs.Parse as parse
use Rattle.al_parse_type.specs.Parse.{SizedType, SizedPart, SizedBound, sees_type_name, sees_type, begins_part, wanted, part_wanted, type_of, is_one, sized_base, pointers_from, bounds_from, bound, bound_below, below}
use Rattle.al_parse_type.proofs.BoundLaw.{and_parts}
use Rattle.al_parse_type.proofs.TypeLaw.{starred_long}
use Rattle.al_parse_type.proofs.BoundComplete.{less_pred, tail_short, rest_short, enclosed, kind_of, step_bracket, ends_bracket, whole_bound, whole_bounds}

-- what no type goes on with
pub record FollowType (r : List Token) : Type 0 where
  pub bracket : same_kind (kind r) k.LeftBracket ≡ false
  pub star : same_kind (kind r) k.Star ≡ false

pub follow_type : (r : List Token) (kd : TokenKind) → kind r ≡ kd → same_kind kd k.LeftBracket ≡ false → same_kind kd k.Star ≡ false → FollowType r
follow_type r kd h b s = record { bracket = rw h b; star = rw h s }

pub type_before : (t : Token) (ts : List Token) (kd : TokenKind) → t.kind ≡ kd → same_kind kd k.LeftBracket ≡ false → same_kind kd k.Star ≡ false → FollowType (t ∷ ts)
type_before t ts kd h b s = follow_type (t ∷ ts) kd (kind_of t ts kd h) b s

pub before_comma : (t : Token) (ts : List Token) → t.kind ≡ k.Comma → FollowType (t ∷ ts)
unfolding same_kind
before_comma t ts h = type_before t ts k.Comma h refl refl

pub before_paren : (t : Token) (ts : List Token) → t.kind ≡ k.RightParen → FollowType (t ∷ ts)
unfolding same_kind
before_paren t ts h = type_before t ts k.RightParen h refl refl

pub before_bracket : (t : Token) (ts : List Token) → t.kind ≡ k.RightBracket → FollowType (t ∷ ts)
unfolding same_kind
before_bracket t ts h = type_before t ts k.RightBracket h refl refl

pub not_comma_paren : (t : Token) (ts : List Token) → t.kind ≡ k.RightParen → same_kind (kind (t ∷ ts)) k.Comma ≡ false
unfolding kind same_kind
not_comma_paren t ts h = rw h refl

pub not_comma_bracket : (t : Token) (ts : List Token) → t.kind ≡ k.RightBracket → same_kind (kind (t ∷ ts)) k.Comma ≡ false
unfolding kind same_kind
not_comma_bracket t ts h = rw h refl

pub basic_not_name : (kd : TokenKind) (x : BasicType) → basic_type kd ≡ Some x → same_kind kd k.Name ≡ false
unfolding same_kind
basic_not_name k.Name x h = absurd (let f : ⊥ = cc in f)
basic_not_name k.Byte x h = refl
basic_not_name k.Sint x h = refl
basic_not_name k.Usint x h = refl
basic_not_name k.Int x h = refl
basic_not_name k.Uint x h = refl
basic_not_name k.Lint x h = refl
basic_not_name k.Ulint x h = refl
basic_not_name k.Void x h = refl
basic_not_name _ x h = absurd (let f : ⊥ = cc in f)

pub begins_bracket : (o : Token) (ts : List Token) → o.kind ≡ k.LeftBracket → same_kind (kind (o ∷ ts)) k.LeftBracket ≡ true
unfolding kind same_kind
begins_bracket o ts h = rw h refl

pub not_both : (b : Bool) → b ≡ true → b ≡ false → ⊥
not_both b t f = let e : true ≡ false = sym t ∙ f in let x : ⊥ = cc in x

-- the depth's arithmetic
pub less_than : (h n : ℕ) → h + 1 ≤ n → 0 < n
less_than h n p = omega arith

module _ (leaves : Leaves) (types : List ℕ) (F : ℕ) where
  abbrev pub T : ℕ → Want → Parser SizedPart
  T n = below leaves types F n

  -- ---- steps

  pub step_basic : (n : ℕ) (bare : Bool) (t : Token) (r : List Token) (x : BasicType) → basic_type t.kind ≡ Some x → parse.type_at leaves types F n (T n) bare (t ∷ r) ≡ parse.type_after leaves types F n (T n) t.place (sized_base (ty.Basic t.place x) 0) r
  unfolding parse.type_at sees_type_name parse.unnamed kind name_number take_if
  step_basic n bare t r x h = let e = basic_not_name t.kind x h in rw (e, h) refl

  pub step_tuple : (n : ℕ) (bare : Bool) (w o : Token) (ts r1 r : List Token) (x : SizedType) (b : ReadBase) → w.kind ≡ k.Tuple → o.kind ≡ k.LeftParen → nat_lt 0 n ≡ true
      → parse.sub_type leaves types F n (T n) bare ts ≡ Ok (x, r1) → parse.tuple_after leaves types F n (T n) bare w.place x r1 ≡ Ok (b, r)
      → parse.type_at leaves types F n (T n) bare (w ∷ o ∷ ts) ≡ parse.type_after leaves types F n (T n) w.place b r
  unfolding parse.type_at sees_type_name parse.unnamed parse.tuple kind name_number same_kind take_if expect_if
  step_tuple n bare w o ts r1 r x b wc oc room e1 e2 = rw (wc, room, oc, e1, e2) refl

  pub step_bare : (n : ℕ) (o : Token) (ts r1 r : List Token) (x : SizedType) (b : ReadBase) → o.kind ≡ k.LeftParen → nat_lt 0 n ≡ true
      → parse.sub_type leaves types F n (T n) true ts ≡ Ok (x, r1) → parse.tuple_after leaves types F n (T n) true o.place x r1 ≡ Ok (b, r)
      → parse.type_at leaves types F n (T n) true (o ∷ ts) ≡ parse.type_after leaves types F n (T n) o.place b r
  unfolding parse.type_at sees_type_name parse.unnamed parse.bare_tuple kind name_number same_kind take_if
  step_bare n o ts r1 r x b oc room e1 e2 = rw (oc, room, e1, e2) refl

  pub step_channel : (n : ℕ) (bare : Bool) (w o c : Token) (ts r1 r : List Token) (x : SizedType) (b : ReadBase) → w.kind ≡ k.Chan → o.kind ≡ k.LeftParen → c.kind ≡ k.RightParen → nat_lt 0 n ≡ true
      → parse.sub_type leaves types F n (T n) true ts ≡ Ok (x, c ∷ r1) → parse.capacity leaves types F n (T n) w.place x.0 (x.1 + 1) r1 ≡ Ok (b, r)
      → parse.type_at leaves types F n (T n) bare (w ∷ o ∷ ts) ≡ parse.type_after leaves types F n (T n) w.place b r
  unfolding parse.type_at sees_type_name parse.unnamed parse.channel kind name_number same_kind take_if expect_if
  step_channel n bare w o c ts r1 r x b wc oc ec room e1 e2 = rw (wc, room, oc, e1, ec, e2) refl

  pub no_capacity : (n : ℕ) (at : Place) (x : TypeTree) (h : ℕ) (r : List Token) → same_kind (kind r) k.LeftBracket ≡ false → parse.capacity leaves types F n (T n) at x h r ≡ Ok (record { tree = ty.Chan at x None; height = h; takes_bracket = true }, r)
  unfolding parse.capacity
  no_capacity n at x h r e = rw e refl

  pub some_capacity : (n : ℕ) (at : Place) (x : TypeTree) (h : ℕ) (p q : Token) (v r : List Token) (m : Bound) (i : ℕ) → p.kind ≡ k.LeftBracket → q.kind ≡ k.RightBracket → bound leaves types F n (v ++ q ∷ r) ≡ Ok ((m, i), q ∷ r)
      → parse.capacity leaves types F n (T n) at x h (p ∷ (v ++ q ∷ r)) ≡ Ok (sized_base (ty.Chan at x (Some m)) (max h i), r)
  unfolding parse.capacity kind same_kind take_if expect_if
  some_capacity n at x h p q v r m i pc qc e = rw (pc, e, qc) refl

  pub step_named : (n : ℕ) (bare : Bool) (t : Token) (r : List Token) → t.kind ≡ k.Name → known types t.name ≡ true → same_kind (kind r) k.LeftBracket ≡ false
      → parse.type_at leaves types F n (T n) bare (t ∷ r) ≡ parse.type_after leaves types F n (T n) t.place (sized_base (ty.Named t.place t.name []) 0) r
  unfolding parse.type_at parse.named_type sees_type_name kind name_number same_kind take_if
  step_named n bare t r c e f = rw (c, e, f) refl

  pub step_open : (n : ℕ) (bare : Bool) (t o : Token) (ts : List Token) → t.kind ≡ k.Name → known types t.name ≡ true → o.kind ≡ k.LeftBracket → begins_part types bare ts ≡ true → nat_lt 0 n ≡ true
      → parse.type_at leaves types F n (T n) bare (t ∷ o ∷ ts) ≡ parse.bracket_part leaves types F n (T n) bare t ts
  unfolding parse.type_at parse.named_type parse.bracket sees_type_name kind name_number same_kind take_if
  step_open n bare t o ts c e oc g room = rw (c, e, oc, g, room) refl

  pub part_instance : (n : ℕ) (bare : Bool) (t : Token) (ts r1 r : List Token) (x : TypeTree) (h : ℕ) (b : ReadBase) → T n (part_wanted bare) ts ≡ Ok ((part.Type x, h), r1) → parse.arguments_after leaves types F n (T n) bare t (x, h) r1 ≡ Ok (b, r)
      → parse.bracket_part leaves types F n (T n) bare t ts ≡ parse.type_after leaves types F n (T n) t.place b r
  unfolding parse.bracket_part
  part_instance n bare t ts r1 r x h b e1 e2 = ap (λ o. and_then o (parse.bracketed leaves types F n (T n) bare t)) e1 ∙ ap (λ o. and_then o (parse.type_after leaves types F n (T n) t.place)) e2

  pub step_instance : (n : ℕ) (bare : Bool) (t o : Token) (ts r1 r : List Token) (x : TypeTree) (h : ℕ) (b : ReadBase) → t.kind ≡ k.Name → known types t.name ≡ true → o.kind ≡ k.LeftBracket → begins_part types bare ts ≡ true → nat_lt 0 n ≡ true
      → T n (part_wanted bare) ts ≡ Ok ((part.Type x, h), r1) → parse.arguments_after leaves types F n (T n) bare t (x, h) r1 ≡ Ok (b, r)
      → parse.type_at leaves types F n (T n) bare (t ∷ o ∷ ts) ≡ parse.type_after leaves types F n (T n) t.place b r
  step_instance n bare t o ts r1 r x h b c e oc g room e1 e2 = step_open n bare t o ts c e oc g room ∙ part_instance n bare t ts r1 r x h b e1 e2

  pub step_array : (n : ℕ) (bare : Bool) (t o c : Token) (ts r1 r : List Token) (m : SizedBound) (xs : List Bound) (h : ℕ) → t.kind ≡ k.Name → known types t.name ≡ true → o.kind ≡ k.LeftBracket → begins_part types bare ts ≡ false
      → bound leaves types F n ts ≡ Ok (m, c ∷ r1) → c.kind ≡ k.RightBracket → bounds_from leaves types F n F (m.0 ∷ []) m.1 r1 ≡ Ok ((xs, h), r)
      → parse.type_at leaves types F n (T n) bare (t ∷ o ∷ ts) ≡ Ok ((arrays t.place xs (ty.Named t.place t.name []), h), r)
  unfolding parse.type_at parse.named_type parse.bracket parse.array_of sees_type_name kind name_number same_kind take_if expect_if
  step_array n bare t o c ts r1 r m xs h tc e oc g e1 ec e2 = rw (tc, e, oc, g, e1, ec, e2) refl

  pub part_array : (n : ℕ) (bare : Bool) (t c : Token) (ts r1 r : List Token) (m : Bound) (i : ℕ) (xs : List Bound) (h : ℕ) → T n (part_wanted bare) ts ≡ Ok ((part.Bound m, i), c ∷ r1) → c.kind ≡ k.RightBracket → bounds_from leaves types F n F (m ∷ []) i r1 ≡ Ok ((xs, h), r)
      → parse.bracket_part leaves types F n (T n) bare t ts ≡ Ok ((arrays t.place xs (ty.Named t.place t.name []), h), r)
  unfolding parse.bracket_part parse.array_of kind same_kind take_if expect_if
  part_array n bare t c ts r1 r m i xs h e1 ec e2 = rw (e1, ec, e2) refl

  pub step_array_inside : (n : ℕ) (bare : Bool) (t o c : Token) (ts r1 r : List Token) (m : Bound) (i : ℕ) (xs : List Bound) (h : ℕ) → t.kind ≡ k.Name → known types t.name ≡ true → o.kind ≡ k.LeftBracket → begins_part types bare ts ≡ true → nat_lt 0 n ≡ true
      → T n (part_wanted bare) ts ≡ Ok ((part.Bound m, i), c ∷ r1) → c.kind ≡ k.RightBracket → bounds_from leaves types F n F (m ∷ []) i r1 ≡ Ok ((xs, h), r)
      → parse.type_at leaves types F n (T n) bare (t ∷ o ∷ ts) ≡ Ok ((arrays t.place xs (ty.Named t.place t.name []), h), r)
  step_array_inside n bare t o c ts r1 r m i xs h tc e oc g room e1 ec e2 = step_open n bare t o ts tc e oc g room ∙ part_array n bare t c ts r1 r m i xs h e1 ec e2

  pub step_types : (n : ℕ) (bare : Bool) (m : ℕ) (t : Token) (v r : List Token) (xs : List TypeTree) (h : ℕ) (x : TypeTree) (i : ℕ) → t.kind ≡ k.Comma → parse.sub_type leaves types F n (T n) bare (v ++ r) ≡ Ok ((x, i), r)
      → parse.types_from leaves types F n (T n) bare (suc m) xs h (t ∷ (v ++ r)) ≡ parse.types_from leaves types F n (T n) bare m (xs ++ x ∷ []) (max h i) r
  unfolding parse.types_from kind same_kind take_if
  step_types n bare m t v r xs h x i tc e = rw (tc, e) refl

  pub end_types : (n : ℕ) (bare : Bool) (m : ℕ) (r : List Token) (xs : List TypeTree) (h : ℕ) → same_kind (kind r) k.Comma ≡ false → parse.types_from leaves types F n (T n) bare (suc m) xs h r ≡ Ok ((xs, h), r)
  unfolding parse.types_from
  end_types n bare m r xs h f = rw f refl

  pub step_arguments : (n : ℕ) (bare : Bool) (t c : Token) (ts r : List Token) (x : SizedType) (xs : List TypeTree) (h : ℕ) → parse.types_from leaves types F n (T n) bare F (x.0 ∷ []) x.1 ts ≡ Ok ((xs, h), c ∷ r) → c.kind ≡ k.RightBracket
      → parse.arguments_after leaves types F n (T n) bare t x ts ≡ Ok (sized_base (ty.Named t.place t.name xs) (h + 1), r)
  unfolding parse.arguments_after kind same_kind take_if expect_if
  step_arguments n bare t c ts r x xs h e ec = rw (e, ec) refl

  pub step_parts : (n : ℕ) (bare : Bool) (at : Place) (c : Token) (ts r : List Token) (x : SizedType) (xs : List TypeTree) (h : ℕ) → parse.types_from leaves types F n (T n) bare F (x.0 ∷ []) x.1 ts ≡ Ok ((xs, h), c ∷ r) → is_one xs ≡ false → c.kind ≡ k.RightParen
      → parse.tuple_after leaves types F n (T n) bare at x ts ≡ Ok (sized_base (ty.Tuple at xs) (h + 1), r)
  unfolding parse.tuple_after kind same_kind take_if expect_if
  step_parts n bare at c ts r x xs h e f ec = rw (e, f, ec) refl

  pub step_pointer : (m : ℕ) (at : Place) (t : Token) (x : ReadBase) (r : List Token) → t.kind ≡ k.Star → pointers_from (suc m) at x (t ∷ r) ≡ pointers_from m at (sized_base (ty.Pointer at x.tree) x.height) r
  unfolding pointers_from kind same_kind take_if
  step_pointer m at t x r h = rw h refl

  pub end_pointers : (m : ℕ) (at : Place) (x : ReadBase) (r : List Token) → same_kind (kind r) k.Star ≡ false → pointers_from (suc m) at x r ≡ Ok (x, r)
  unfolding pointers_from
  end_pointers m at x r h = rw h refl

  pub step_after : (n : ℕ) (at : Place) (x y : ReadBase) (ts r1 r : List Token) (xs : List Bound) (h : ℕ) → pointers_from F at x ts ≡ Ok (y, r1) → y.takes_bracket ≡ false → bounds_from leaves types F n F [] 0 r1 ≡ Ok ((xs, h), r)
      → parse.type_after leaves types F n (T n) at x ts ≡ Ok ((arrays at xs y.tree, max y.height h), r)
  unfolding parse.type_after
  step_after n at x y ts r1 r xs h e f g = rw (e, f, g) refl

  pub step_channel_after : (n : ℕ) (at : Place) (x y : ReadBase) (ts r : List Token) → pointers_from F at x ts ≡ Ok (y, r) → y.takes_bracket ≡ true → parse.type_after leaves types F n (T n) at x ts ≡ Ok ((y.tree, y.height), r)
  unfolding parse.type_after
  step_channel_after n at x y ts r e f = rw (e, f) refl

  -- ---- stars and bounds behind a base type

  -- a type with stars, taken apart: its base type, and then stars
  pub record Stars (bare : Bool) (u : List Token) (y : ReadBase) (r : List Token) : Type 0 where
    pub front : List Token
    pub back : List Token
    pub first : ReadBase
    pub cut : u ≡ front ++ back
    pub is : IsBase leaves types bare first.takes_bracket front first.tree first.height
    pub height : first.height ≡ y.height
    pub left : ℕ
    pub enough : length r < left
    pub loop : pointers_from F (start u) first (back ++ r) ≡ pointers_from left (start u) y r
    pub shape : (same_kind (kind (back ++ r)) k.Star ≡ true) ⊎ ((back ≡ []) × (first ≡ y))

  pub sees_star : (t : Token) (ts : List Token) → t.kind ≡ k.Star → same_kind (kind (t ∷ ts)) k.Star ≡ true
  unfolding kind same_kind
  sees_star t ts h = rw h refl

  pub stars_c : {bare takes : Bool} {u : List Token} {x : TypeTree} {h : ℕ} → IsStarred leaves types bare takes u x h → (r : List Token) → length (u ++ r) < F → Stars bare u (record { tree = x; height = h; takes_bracket = takes }) r
  stars_c {takes = takes} (base {u = u} {x = x} {h = h} d) r s = record {
    front = u;
    back = [];
    first = record { tree = x; height = h; takes_bracket = takes };
    cut = sym (append-nil u);
    is = d;
    height = refl;
    left = F;
    enough = rest_short u r F s;
    loop = refl;
    shape = inr (refl, refl);
  }
  stars_c {bare} (star {takes = takes} t {u = u} {x = x} {h = h} d c) r s =
      let e = append_assoc u (t ∷ []) r in
      let q = stars_c d (t ∷ r) (omega (arith, ap length e)) in
      let place : start (u ++ t ∷ []) ≡ start u = start_of u (t ∷ []) (starred_long leaves types d) in
      let back_e : (q.back ++ t ∷ []) ++ r ≡ q.back ++ (t ∷ r) = append_assoc q.back (t ∷ []) r in
      record {
        front = q.front;
        back = q.back ++ t ∷ [];
        first = q.first;
        cut = ap (λ l. l ++ t ∷ []) q.cut ∙ append_assoc q.front q.back (t ∷ []);
        is = q.is;
        height = q.height;
        left = pred q.left;
        enough = less_pred (length r) q.left (omega (arith, q.enough));
        loop = ap₂ (λ p l. pointers_from F p q.first l) place back_e ∙ q.loop
            ∙ ap (λ m. pointers_from m (start u) (record { tree = x; height = h; takes_bracket = takes }) (t ∷ r)) (some_pred q.left (length (t ∷ r)) q.enough)
            ∙ step_pointer (pred q.left) (start u) t (record { tree = x; height = h; takes_bracket = takes }) r c
            ∙ ap (λ p. pointers_from (pred q.left) p (sized_base (ty.Pointer (start u) x) h) r) (sym place);
        shape = inl (Rattle.std.proofs.Common.subst (λ l. same_kind (kind l) k.Star ≡ true) (sym back_e) (starred q.shape));
      }
    where
      starred : {b : List Token} {f y : ReadBase} → (same_kind (kind (b ++ (t ∷ r))) k.Star ≡ true) ⊎ ((b ≡ []) × (f ≡ y)) → same_kind (kind (b ++ (t ∷ r))) k.Star ≡ true
      starred (inl h) = h
      starred {b} (inr h) = subst (λ l. same_kind (kind (l ++ (t ∷ r))) k.Star ≡ true) (sym h.0) (sees_star t r c)

  -- bounds right behind a base type
  pub record Arrays (u : List Token) (x : TypeTree) (h : ℕ) (first : ReadBase) (back : List Token) : Type 0 where
    pub bounds : List Bound
    pub height : ℕ
    pub is : IsBounds leaves types back bounds height
    pub some : bounds ≡ [] → ⊥
    pub tree : x ≡ arrays (start u) bounds first.tree
    pub high : h ≡ max first.height height

  -- a type behind its base type
  pub record Split (bare : Bool) (n : ℕ) (u : List Token) (x : TypeTree) (h : ℕ) (r : List Token) : Type 0 where
    pub front : List Token
    pub back : List Token
    pub first : ReadBase
    pub cut : u ≡ front ++ back
    pub is : IsBase leaves types bare first.takes_bracket front first.tree first.height
    pub low : first.height ≤ h
    pub fin : parse.type_after leaves types F n (T n) (start u) first (back ++ r) ≡ Ok ((x, h), r)
    pub opens : first.takes_bracket ≡ true → same_kind (kind (back ++ r)) k.LeftBracket ≡ false
    pub shape : (same_kind (kind (back ++ r)) k.LeftBracket ≡ false) ⊎ Arrays u x h first back

  pub star_no_bracket : (kd : TokenKind) → same_kind kd k.Star ≡ true → same_kind kd k.LeftBracket ≡ false
  unfolding same_kind
  star_no_bracket kd h = let e = Rattle.al_parse_type.proofs.BoundLaw.kind_is kd k.Star h in rw e refl

  pub none_bounds : (n : ℕ) (r : List Token) → same_kind (kind r) k.LeftBracket ≡ false → length r < F → bounds_from leaves types F n F [] 0 r ≡ Ok (([], 0), r)
  none_bounds n r f s = whole_bounds leaves types F {u = []} rules.none n (omega arith) r s f

  -- stars, and then nothing more of the type
  pub after_stars : (n : ℕ) (at : Place) (y : ReadBase) (r : List Token) → length r < F → same_kind (kind r) k.LeftBracket ≡ false → (first : ReadBase) (ts : List Token) → pointers_from F at first ts ≡ Ok (y, r) → parse.type_after leaves types F n (T n) at first ts ≡ Ok ((y.tree, y.height), r)
  after_stars n at y r s f first ts e = go y.takes_bracket refl
    where
      go : (b : Bool) → y.takes_bracket ≡ b → parse.type_after leaves types F n (T n) at first ts ≡ Ok ((y.tree, y.height), r)
      go true g = step_channel_after n at first y ts r e g
      go false g = step_after n at first y ts r r [] 0 e g (none_bounds n r f s) ∙ ap (λ h. Ok ((y.tree, h), r)) (let z : max y.height 0 ≡ y.height = omega arith in z)

  pub all_stars : {bare : Bool} {u : List Token} {y : ReadBase} {r : List Token} → (q : Stars bare u y r) → same_kind (kind r) k.Star ≡ false → pointers_from F (start u) q.first (q.back ++ r) ≡ Ok (y, r)
  all_stars {u = u} {y = y} {r = r} q f = q.loop ∙ ap (λ m. pointers_from m (start u) y r) (some_pred q.left (length r) q.enough) ∙ end_pointers (pred q.left) (start u) y r f

  -- bounds, of which there is a first one, or none
  pub record FirstBound (v : List Token) (xs : List Bound) (h n : ℕ) (r : List Token) : Type 0 where
    pub open_token : Token
    pub close_token : Token
    pub inside : List Token
    pub behind : List Token
    pub bound_is : Bound
    pub low : ℕ
    pub opens : open_token.kind ≡ k.LeftBracket
    pub shuts : close_token.kind ≡ k.RightBracket
    pub is : IsBound leaves types inside bound_is low
    pub lower : low ≤ h
    pub cut : v ≡ open_token ∷ (inside ++ close_token ∷ behind)
    pub left : ℕ
    pub enough : length r < left
    pub loop : bounds_from leaves types F n F (bound_is ∷ []) low (behind ++ r) ≡ bounds_from leaves types F n left xs h r

  pub record NoBounds (v : List Token) (xs : List Bound) (h : ℕ) : Type 0 where
    pub tokens : v ≡ []
    pub bounds : xs ≡ []
    pub height : h ≡ 0

  pub next_bound : (n : ℕ) (o c : Token) (u v r : List Token) (xs : List Bound) (x : Bound) (h i : ℕ) → o.kind ≡ k.LeftBracket → IsBound leaves types v x i → c.kind ≡ k.RightBracket → max h i ≤ n → length (u ++ (o ∷ (v ++ (c ∷ r)))) < F
      → NoBounds u xs h ⊎ FirstBound u xs h n (o ∷ (v ++ (c ∷ r))) → FirstBound (u ++ o ∷ (v ++ c ∷ [])) (xs ++ x ∷ []) (max h i) n r
  next_bound n o c u v r xs x h i oc a ec hn s (inl q) = record {
    open_token = o;
    close_token = c;
    inside = v;
    behind = [];
    bound_is = x;
    low = i;
    opens = oc;
    shuts = ec;
    is = a;
    lower = omega arith;
    cut = ap (λ l. l ++ o ∷ (v ++ c ∷ [])) q.tokens;
    left = F;
    enough = omega (arith, tail_short u o (v ++ (c ∷ r)) F s, length-append v (c ∷ r));
    loop = ap₂ (λ l m. bounds_from leaves types F n F (l ++ x ∷ []) m r) (sym q.bounds) (let z : i ≡ max h i = omega (arith, q.height) in z);
  }
  next_bound n o c u v r xs x h i oc a ec hn s (inr q) =
      let ih = whole_bound leaves types F a n (omega arith) (c ∷ r) (tail_short u o (v ++ (c ∷ r)) F s) (ends_bracket leaves types F c r ec) in
      record {
        open_token = q.open_token;
        close_token = q.close_token;
        inside = q.inside;
        behind = q.behind ++ o ∷ (v ++ c ∷ []);
        bound_is = q.bound_is;
        low = q.low;
        opens = q.opens;
        shuts = q.shuts;
        is = q.is;
        lower = omega (arith, q.lower);
        cut = ap (λ l. l ++ o ∷ (v ++ c ∷ [])) q.cut ∙ ap (λ l. q.open_token ∷ l) (append_assoc q.inside (q.close_token ∷ q.behind) (o ∷ (v ++ c ∷ [])));
        left = pred q.left;
        enough = less_pred (length r) q.left (omega (arith, q.enough, length-append v (c ∷ r)));
        loop = ap (bounds_from leaves types F n F (q.bound_is ∷ []) q.low) (enclosed q.behind o v c r) ∙ q.loop
            ∙ ap (λ m. bounds_from leaves types F n m xs h (o ∷ (v ++ (c ∷ r)))) (some_pred q.left (length (o ∷ (v ++ (c ∷ r)))) q.enough)
            ∙ step_bracket leaves types F n (pred q.left) o c v r xs h x i oc ec ih;
      }

  pub first_bound : {v : List Token} {xs : List Bound} {h : ℕ} → IsBounds leaves types v xs h → (n : ℕ) → h ≤ n → (r : List Token) → length (v ++ r) < F → NoBounds v xs h ⊎ FirstBound v xs h n r
  first_bound rules.none n hn r s = inl (record { tokens = refl; bounds = refl; height = refl })
  first_bound (rules.more o c {u = u} {v = v} {xs = xs} {x = x} {h = h} {i = i} l oc a ec) n hn r s =
      let s1 : length (u ++ (o ∷ (v ++ (c ∷ r)))) < F = omega (arith, ap length (enclosed u o v c r)) in
      inr (next_bound n o c u v r xs x h i oc a ec hn s1 (first_bound l n (omega arith) (o ∷ (v ++ (c ∷ r))) s1))

  pub bounds_begin : (v : List Token) (xs : List Bound) (h n : ℕ) (r : List Token) → NoBounds v xs h ⊎ FirstBound v xs h n r → (xs ≡ [] → ⊥) → same_kind (kind (v ++ r)) k.LeftBracket ≡ true
  bounds_begin v xs h n r (inl q) some = absurd (some q.bounds)
  bounds_begin v xs h n r (inr q) some = subst (λ l. same_kind (kind (l ++ r)) k.LeftBracket ≡ true) (sym q.cut) (begins_bracket q.open_token ((q.inside ++ q.close_token ∷ q.behind) ++ r) q.opens)

  pub bracket_no_star : (kd : TokenKind) → same_kind kd k.LeftBracket ≡ true → same_kind kd k.Star ≡ false
  unfolding same_kind
  bracket_no_star kd h = let e = Rattle.al_parse_type.proofs.BoundLaw.kind_is kd k.LeftBracket h in rw e refl

  pub cons_some : {A : Type 0} (x : A) (xs : List A) → x ∷ xs ≡ [] → ⊥
  cons_some x xs e = cc

  pub no_bracket : {bare : Bool} {u : List Token} {y : ReadBase} {r : List Token} → (q : Stars bare u y r) → same_kind (kind r) k.LeftBracket ≡ false → same_kind (kind (q.back ++ r)) k.LeftBracket ≡ false
  no_bracket {y = y} {r = r} q f = go q.shape
    where
      go : (same_kind (kind (q.back ++ r)) k.Star ≡ true) ⊎ ((q.back ≡ []) × (q.first ≡ y)) → same_kind (kind (q.back ++ r)) k.LeftBracket ≡ false
      go (inl h) = star_no_bracket (kind (q.back ++ r)) h
      go (inr h) = subst (λ l. same_kind (kind (l ++ r)) k.LeftBracket ≡ false) (sym h.0) f

  pub split_c : {bare : Bool} {u : List Token} {x : TypeTree} {h : ℕ} → IsTypeTree leaves types bare u x h → (n : ℕ) → h ≤ n → (r : List Token) → length (u ++ r) < F → same_kind (kind r) k.LeftBracket ≡ false → ((takes : Bool) → IsStarred leaves types bare takes u x h → same_kind (kind r) k.Star ≡ false) → Split bare n u x h r
  split_c (plain {takes = takes} {u = u} {x = x} {h = h} d) n hn r s f g =
      let q = stars_c d r s in
      let nb = no_bracket q f in
      record {
        front = q.front;
        back = q.back;
        first = q.first;
        cut = q.cut;
        is = q.is;
        low = omega (arith, q.height);
        fin = after_stars n (start u) (record { tree = x; height = h; takes_bracket = takes }) r (rest_short u r F s) f q.first (q.back ++ r) (all_stars q (g takes d));
        opens = λ _. nb;
        shape = inl nb;
      }
  split_c {bare} (array {u = u} {v = v} {x = x} {n = m} {ns = ms} {h = h} {i = i} d b) n hn r s f g =
      let e = append_assoc u v r in
      let s1 : length (u ++ (v ++ r)) < F = omega (arith, ap length e) in
      let s2 : length (v ++ r) < F = rest_short u (v ++ r) F s1 in
      let y : ReadBase = record { tree = x; height = h; takes_bracket = false } in
      let q = stars_c d (v ++ r) s1 in
      let begins = bounds_begin v (m ∷ ms) i n r (first_bound b n (omega arith) r s2) (cons_some m ms) in
      let place : start (u ++ v) ≡ start u = start_of u v (starred_long leaves types d) in
      let back_e : (q.back ++ v) ++ r ≡ q.back ++ (v ++ r) = append_assoc q.back v r in
      record {
        front = q.front;
        back = q.back ++ v;
        first = q.first;
        cut = ap (λ l. l ++ v) q.cut ∙ append_assoc q.front q.back v;
        is = q.is;
        low = omega (arith, q.height);
        fin = ap₂ (λ p l. parse.type_after leaves types F n (T n) p q.first l) place back_e
            ∙ step_after n (start u) q.first y (q.back ++ (v ++ r)) (v ++ r) r (m ∷ ms) i (all_stars q (bracket_no_star (kind (v ++ r)) begins)) refl (whole_bounds leaves types F b n (omega arith) r s2 f);
        opens = λ t. subst (λ l. same_kind (kind l) k.LeftBracket ≡ false) (sym back_e) (opened q.shape t);
        shape = shaped place back_e q.shape;
      }
    where
      opened : {b2 : List Token} {f2 : ReadBase} → (same_kind (kind (b2 ++ (v ++ r))) k.Star ≡ true) ⊎ ((b2 ≡ []) × (f2 ≡ record { tree = x; height = h; takes_bracket = false })) → f2.takes_bracket ≡ true → same_kind (kind (b2 ++ (v ++ r))) k.LeftBracket ≡ false
      opened {b2} (inl g) t = star_no_bracket (kind (b2 ++ (v ++ r))) g
      opened (inr g) t = absurd (let z : false ≡ true = sym (ap (λ (y : ReadBase). y.takes_bracket) g.1) ∙ t in let w : ⊥ = cc in w)

      shaped : {b2 : List Token} {f2 : ReadBase} → start (u ++ v) ≡ start u → (b2 ++ v) ++ r ≡ b2 ++ (v ++ r) → (same_kind (kind (b2 ++ (v ++ r))) k.Star ≡ true) ⊎ ((b2 ≡ []) × (f2 ≡ record { tree = x; height = h; takes_bracket = false }))
          → (same_kind (kind ((b2 ++ v) ++ r)) k.LeftBracket ≡ false) ⊎ Arrays (u ++ v) (arrays (start u) (m ∷ ms) x) (max h i) f2 (b2 ++ v)
      shaped {b2} place back_e (inl g) = inl (subst (λ l. same_kind (kind l) k.LeftBracket ≡ false) (sym back_e) (star_no_bracket (kind (b2 ++ (v ++ r))) g))
      shaped {b2} {f2} place back_e (inr g) = inr (record {
        bounds = m ∷ ms;
        height = i;
        is = subst (λ l. IsBounds leaves types (l ++ v) (m ∷ ms) i) (sym g.0) b;
        some = cons_some m ms;
        tree = ap₂ (λ p (y : ReadBase). arrays p (m ∷ ms) y.tree) (sym place) (sym g.1);
        high = ap (λ (y : ReadBase). max y.height i) (sym g.1);
      })

  -- ---- what types and bounds begin with

  pub basic_sees : (t : Token) (ts : List Token) (x : BasicType) → basic_type t.kind ≡ Some x → sees_type types (t ∷ ts) ≡ true
  unfolding sees_type kind
  basic_sees t ts x h = rw h refl

  pub name_sees : (t : Token) (ts : List Token) → t.kind ≡ k.Name → known types t.name ≡ true → sees_type types (t ∷ ts) ≡ true
  unfolding sees_type sees_type_name kind name_number same_kind
  name_sees t ts c e = rw (c, e) refl

  pub tuple_sees : (t : Token) (ts : List Token) → t.kind ≡ k.Tuple → sees_type types (t ∷ ts) ≡ true
  unfolding sees_type kind same_kind
  tuple_sees t ts c = rw c refl

  pub chan_sees : (t : Token) (ts : List Token) → t.kind ≡ k.Chan → sees_type types (t ∷ ts) ≡ true
  unfolding sees_type kind same_kind
  chan_sees t ts c = rw c refl

  pub paren_sees : (t : Token) (ts : List Token) → t.kind ≡ k.LeftParen → sees_type types (t ∷ ts) ≡ false
  unfolding sees_type sees_type_name kind name_number same_kind
  paren_sees t ts c = rw c refl

  pub number_sees : (t : Token) (ts : List Token) → t.kind ≡ k.Number → sees_type types (t ∷ ts) ≡ false
  unfolding sees_type sees_type_name kind name_number same_kind
  number_sees t ts c = rw c refl

  pub other_sees : (t : Token) (ts : List Token) → t.kind ≡ k.Name → known types t.name ≡ false → sees_type types (t ∷ ts) ≡ false
  unfolding sees_type sees_type_name kind name_number same_kind
  other_sees t ts c e = rw (c, e) refl

  pub sees_begins : (bare : Bool) (ts : List Token) → sees_type types ts ≡ true → begins_part types bare ts ≡ true
  unfolding begins_part
  sees_begins bare ts h = rw h refl

  pub paren_begins : (t : Token) (ts : List Token) → t.kind ≡ k.LeftParen → begins_part types true (t ∷ ts) ≡ true
  unfolding begins_part sees_type sees_type_name kind name_number same_kind
  paren_begins t ts c = rw c refl

  -- a base type without its word
  pub record Bare (u : List Token) (first : ReadBase) : Type 0 where
    pub open_token : Token
    pub close_token : Token
    pub inside : List Token
    pub types_are : List TypeTree
    pub high : ℕ
    pub opens : open_token.kind ≡ k.LeftParen
    pub shuts : close_token.kind ≡ k.RightParen
    pub is : IsParts leaves types true inside types_are high
    pub cut : u ≡ open_token ∷ (inside ++ close_token ∷ [])
    pub tree : first ≡ sized_base (ty.Tuple open_token.place types_are) (high + 1)

  pub base_sees : {bare takes : Bool} {u : List Token} {x : TypeTree} {h : ℕ} → IsBase leaves types bare takes u x h → (r : List Token) → (sees_type types (u ++ r) ≡ true) ⊎ ((bare ≡ true) × Bare u (record { tree = x; height = h; takes_bracket = takes }))
  base_sees (basic t {x = x} c) r = inl (basic_sees t r x c)
  base_sees (named t (type_name c e)) r = inl (name_sees t r c e)
  base_sees (instance t o c {u = u} (type_name tc e) oc a ec) r = inl (name_sees t ((o ∷ (u ++ c ∷ [])) ++ r) tc e)
  base_sees (tuple w o c {u = u} wc oc a ec) r = inl (tuple_sees w ((o ∷ (u ++ c ∷ [])) ++ r) wc)
  base_sees (bare_tuple o c {u = u} {xs = xs} {h = h} oc a ec) r = inr (refl, record { open_token = o; close_token = c; inside = u; types_are = xs; high = h; opens = oc; shuts = ec; is = a; cut = refl; tree = refl })
  base_sees (channel w o c {u = u} wc oc a ec) r = inl (chan_sees w ((o ∷ (u ++ c ∷ [])) ++ r) wc)
  base_sees (buffered w o c p q {u = u} {v = v} wc oc a ec pc m qc) r = inl (chan_sees w ((o ∷ (u ++ c ∷ p ∷ (v ++ q ∷ []))) ++ r) wc)

  pub base_begins : {bare takes : Bool} {u : List Token} {x : TypeTree} {h : ℕ} → IsBase leaves types bare takes u x h → (r : List Token) → begins_part types bare (u ++ r) ≡ true
  base_begins {bare} {takes} {u} {x} {h} d r = go (base_sees d r)
    where
      go : (sees_type types (u ++ r) ≡ true) ⊎ ((bare ≡ true) × Bare u (record { tree = x; height = h; takes_bracket = takes })) → begins_part types bare (u ++ r) ≡ true
      go (inl g) = sees_begins bare (u ++ r) g
      go (inr g) = subst (λ b. begins_part types b (u ++ r) ≡ true) (sym g.0) (subst (λ l. begins_part types true (l ++ r) ≡ true) (sym g.1.cut) (paren_begins g.1.open_token ((g.1.inside ++ g.1.close_token ∷ []) ++ r) g.1.opens))

  pub starred_begins : {bare takes : Bool} {u : List Token} {x : TypeTree} {h : ℕ} → IsStarred leaves types bare takes u x h → (r : List Token) → begins_part types bare (u ++ r) ≡ true
  starred_begins (base d) r = base_begins d r
  starred_begins {bare} (star t {u = u} d c) r = subst (λ l. begins_part types bare l ≡ true) (sym (append_assoc u (t ∷ []) r)) (starred_begins d (t ∷ r))

  pub type_begins : {bare : Bool} {u : List Token} {x : TypeTree} {h : ℕ} → IsTypeTree leaves types bare u x h → (r : List Token) → begins_part types bare (u ++ r) ≡ true
  type_begins (plain d) r = starred_begins d r
  type_begins {bare} (array {u = u} {v = v} d b) r = subst (λ l. begins_part types bare l ≡ true) (sym (append_assoc u v r)) (starred_begins d (v ++ r))

  -- a bound begins with no type; where it begins with a parenthesis it has a level
  pub record BoundBegins (ts : List Token) (h : ℕ) : Type 0 where
    pub no_type : sees_type types ts ≡ false
    pub level : same_kind (kind ts) k.LeftParen ≡ true → 0 < h

  pub number_level : (t : Token) (ts : List Token) → t.kind ≡ k.Number → same_kind (kind (t ∷ ts)) k.LeftParen ≡ false
  unfolding kind same_kind
  number_level t ts c = rw c refl

  pub name_level : (t : Token) (ts : List Token) → t.kind ≡ k.Name → same_kind (kind (t ∷ ts)) k.LeftParen ≡ false
  unfolding kind same_kind
  name_level t ts c = rw c refl

  pub prim_begins : {u : List Token} {x : Bound} {h : ℕ} → IsBoundPrim leaves types u x h → (r : List Token) → BoundBegins (u ++ r) h
  prim_begins (number t c) r = record { no_type = number_sees t r c; level = λ g. absurd (not_both _ g (number_level t r c)) }
  prim_begins (name t (other_name c e)) r = record { no_type = other_sees t r c e; level = λ g. absurd (not_both _ g (name_level t r c)) }
  prim_begins (paren o c {u = u} {h = h} oc a ec) r = record { no_type = paren_sees o ((u ++ c ∷ []) ++ r) oc; level = λ g. omega arith }

  pub wider : (ts ts' : List Token) (h h' : ℕ) → ts ≡ ts' → h ≤ h' → BoundBegins ts h → BoundBegins ts' h'
  wider ts ts' h h' e l b = record {
    no_type = subst (λ (x : List Token). sees_type types x ≡ false) e b.no_type;
    level = λ g. let z : 0 < h = b.level (subst (λ (x : List Token). same_kind (kind x) k.LeftParen ≡ true) (sym e) g) in omega arith;
  }

  pub term_begins : {u : List Token} {x : Bound} {h : ℕ} → IsBoundTerm leaves types u x h → (r : List Token) → BoundBegins (u ++ r) h
  term_begins (rules.prim d) r = prim_begins d r
  term_begins (rules.product t {u = u} {v = v} {h = h} {i = i} d c a) r = wider (u ++ (t ∷ (v ++ r))) ((u ++ t ∷ v) ++ r) h (max h i) (sym (append_assoc u (t ∷ v) r)) (omega arith) (term_begins d (t ∷ (v ++ r)))

  pub bound_begins : {u : List Token} {x : Bound} {h : ℕ} → IsBound leaves types u x h → (r : List Token) → BoundBegins (u ++ r) h
  bound_begins (rules.term d) r = term_begins d r
  bound_begins (rules.sum t {u = u} {v = v} {h = h} {i = i} d c a) r = wider (u ++ (t ∷ (v ++ r))) ((u ++ t ∷ v) ++ r) h (max h i) (sym (append_assoc u (t ∷ v) r)) (omega arith) (bound_begins d (t ∷ (v ++ r)))

  -- where a type may begin a bound does so with a parenthesis
  pub bound_part : (bare : Bool) (ts : List Token) (h : ℕ) → BoundBegins ts h → begins_part types bare ts ≡ true → (bare ≡ true) × (0 < h)
  unfolding begins_part
  bound_part bare ts h b g = let e : (bare && same_kind (kind ts) k.LeftParen) ≡ true = rw b.no_type at g in let p = and_parts bare (same_kind (kind ts) k.LeftParen) e in (p.0, b.level p.1)
