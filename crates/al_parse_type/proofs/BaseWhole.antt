-- Base types, the types of casts and the rest of a tuple keep the law, and are parsed to their trees.
use Rattle.std.proofs.Common.{◌≡◌, ℕ, ◌+◌, ◌<◌, ◌≤◌, max, nat_lt, Bool, true, false, List, [], ◌∷◌, ◌++◌, length, Some, None, Ok, ◌⊎◌, inl, inr, refl, sym, ap, ◌∙◌, subst, arith, append_assoc, length-append}
use Rattle.al_base.specs.declared.place.Place.{Place}
use Rattle.al_lex.specs.declared.kind.TokenKind.TheVariants as k
use Rattle.al_lex.specs.declared.token.Token.{Token}
use Rattle.al_tree.specs.Words.{start, basic_type}
use Rattle.al_tree.specs.Types.{Leaves, known, IsTypeName, type_name, IsBound, IsBase, basic, named, instance, tuple, bare_tuple, channel, buffered, IsStarred, base, star, IsTypes, IsParts}
use Rattle.al_tree.specs.Reading.{Parser, ◌>>=◌, pure, kind, name_number, same_kind, take_if, expect_if}
use Rattle.al_tree.specs.declared.type_tree.BasicType.{BasicType}
use Rattle.al_tree.specs.declared.type_tree.TypeTree.{TypeTree}
use Rattle.al_tree.specs.declared.type_tree.TypeTree.TheVariants as ty
use Rattle.al_tree.proofs.Law.{World, Lang, Any, Has, Law, bind, map_law, look, start_local, start_of, located, all_turns}
use Rattle.al_parse_type.specs.declared.part.Part.TheVariants as part
use Rattle.al_parse_type.specs.declared.part.ReadBase.{ReadBase}
use Rattle.al_parse_type.specs.Parse as parse
use Rattle.al_parse_type.specs.Parse.{SizedBound, SizedType, SizedPart, sees_type_name, sees_type, sized_base, pointers_from, bound, below}
use Rattle.al_parse_type.specs.Within.{type_within, starred_within, base_within, tuple_within, type_behind, inside_within, arguments_within}
use Rattle.al_parse_type.proofs.TypeLaw.{LType, LBase, LPart, inside_law, arguments_law, base_long, starred_long, base_place, base_law, pointers_law, parts_law, tuple_law, after_law, type_law}
use Rattle.al_parse_type.proofs.BoundComplete.{nat_lt_is, whole_bound, ends_bracket}
use Rattle.al_parse_type.proofs.TypeComplete.{before_paren, before_bracket, not_comma_paren, not_comma_bracket, basic_not_name, T, no_capacity, some_capacity, step_arguments, step_parts, stars_c, all_stars, no_bracket, Bare, base_sees}
use Rattle.al_parse_type.proofs.TypeWhole.{FirstType, first_type, whole_types, parts_c, inner_c}

module _ (leaves : Leaves) (types : List ℕ) where
  -- the type of a cast
  pub record IsStarredType (u : List Token) (x : TypeTree) (h : ℕ) : Type 0 where
    pub takes : Bool
    pub is : IsStarred leaves types false takes u x h

  abbrev pub LStarredType : Lang SizedType
  LStarredType u x = IsStarredType u x.0 x.1

  -- ---- the law

  starred_place : (at : Place) → Has LStarredType
  starred_place at = let h = base_place leaves types false at in record { word = h.word; value = (h.value.tree, h.value.height); is = record { takes = h.value.takes_bracket; is = base h.is.0 } }

  pub type_within_law : (R : Type 0) (w : World) (G : List Token → Type 0) → (R → w.fuel ≤ w.turns) → Law R w G (λ w. type_within leaves types w.turns w.depth) (LType leaves types true)
  type_within_law R w G fits = type_law leaves types w.depth (λ R' w2 d f p x. parts_law leaves types w.depth R' w2 d f p x) R w true G refl fits

  pub base_within_law : (R : Type 0) (w : World) (G : List Token → Type 0) → (R → w.fuel ≤ w.turns) → Law R w G (λ w. base_within leaves types w.turns w.depth) (LBase leaves types true)
  base_within_law R w G fits = base_law leaves types w.depth (λ R' w2 d f p x. parts_law leaves types w.depth R' w2 d f p x) R w true G refl fits

  pub starred_within_law : (R : Type 0) (w : World) (G : List Token → Type 0) → (R → w.fuel ≤ w.turns) → Law R w G (λ w. starred_within leaves types w.turns w.depth) LStarredType
  unfolding parse.starred_at
  starred_within_law R w G fits = look start start_local (λ w at. parse.base_at leaves types w.turns w.depth (below leaves types w.turns w.depth) false >>= (λ x. pointers_from w.turns at x >>= (λ y. pure (y.tree, y.height)))) (starred_place (start []))
      (λ at. bind (located at (λ u x a. base_long leaves types a) (base_place leaves types false at) (base_law leaves types w.depth (λ R' w2 d f p x. parts_law leaves types w.depth R' w2 d f p x) R w false G refl fits))
      (λ u x a. map_law (λ y. (y.tree, y.height)) (all_turns fits (λ i w. pointers_from i at x) (pointers_law leaves types (w.fuel ≤ w.turns) false w.turns (record w { fuel = w.turns }) refl u x at (base a.0) a.1))
      (λ v y b. record { takes = y.takes_bracket; is = b })))

  -- behind "(" and a first part
  pub tuple_within_law : (R : Type 0) (w : World) → (R → w.fuel ≤ w.turns) → (R → 0 < w.depth) → (o : Token) → o.kind ≡ k.LeftParen → (u : List Token) (x : SizedType) → LType leaves types true u x
      → Law R w Any (λ w. tuple_within leaves types w.turns w.depth o.place x) (λ v y. LBase leaves types true (o ∷ (u ++ v)) y)
  tuple_within_law R w fits deep o oc u x a = tuple_law leaves types w.depth (λ R' w2 d f p y. parts_law leaves types w.depth R' w2 d f p y) R w true true refl fits deep (o ∷ []) o.place (λ c u2 xs h b ec. bare_tuple o c oc b ec) u x a

  -- what stands in brackets behind the name of a type, and what is read behind it
  pub inside_within_law : {A : Type 0} {Q : Lang A} (R : Type 0) (w : World) → (R → w.fuel ≤ w.turns) → (f : World → SizedPart → Parser A)
      → ((R' : Type 0) → (R' → w.fuel ≤ w.turns) → (R' → 0 < w.depth) → (u : List Token) (x : SizedPart) → LPart leaves types true u x → Law R' w Any (λ w. f w x) (λ v y. Q (u ++ v) y))
      → ((R' : Type 0) → (R' → w.fuel ≤ w.turns) → (u : List Token) (x : SizedBound) → IsBound leaves types u x.0 x.1 → Law R' w Any (λ w. f w (part.Bound x.0, x.1)) (λ v y. Q (u ++ v) y))
      → Law R w Any (λ w. inside_within leaves types w.turns w.depth >>= f w) Q
  inside_within_law R w fits f of_type of_bound = inside_law leaves types w.depth (λ R' w2 d f p y. parts_law leaves types w.depth R' w2 d f p y) R w refl fits f of_type of_bound

  -- behind the name of a type, "[" and a first type
  pub arguments_within_law : (R : Type 0) (w : World) → (R → w.fuel ≤ w.turns) → (R → 0 < w.depth) → (t o : Token) → IsTypeName leaves types t → o.kind ≡ k.LeftBracket → (u : List Token) (x : SizedType) → LType leaves types true u x
      → Law R w Any (λ w. arguments_within leaves types w.turns w.depth t x) (λ v y. LBase leaves types true (t ∷ o ∷ (u ++ v)) y)
  arguments_within_law R w fits deep t o tn oc u x a = arguments_law leaves types w.depth (λ R' w2 d f p y. parts_law leaves types w.depth R' w2 d f p y) R w true refl fits deep t o tn oc u x a

  -- behind a base type
  pub type_behind_law : (R : Type 0) (w : World) → (R → w.fuel ≤ w.turns) → (u : List Token) (x : ReadBase) (at : Place) → LBase leaves types true u x → start u ≡ at
      → Law R w Any (λ w. type_behind leaves types w.turns w.depth at x) (λ v y. LType leaves types true (u ++ v) y)
  type_behind_law R w fits u x at a s = after_law leaves types w.depth (λ R' w2 d f p y. parts_law leaves types w.depth R' w2 d f p y) R w true fits u x at a s

module _ (leaves : Leaves) (types : List ℕ) (F : ℕ) where
  -- ---- steps

  step_basic : (n : ℕ) (bare : Bool) (t : Token) (r : List Token) (x : BasicType) → basic_type t.kind ≡ Some x → parse.base_at leaves types F n (T leaves types F n) bare (t ∷ r) ≡ Ok (sized_base (ty.Basic t.place x) 0, r)
  unfolding parse.base_at sees_type_name parse.unnamed kind name_number take_if
  step_basic n bare t r x h = let e = basic_not_name t.kind x h in rw (e, h) refl

  step_tuple : (n : ℕ) (bare : Bool) (w o : Token) (ts r1 r : List Token) (x : SizedType) (b : ReadBase) → w.kind ≡ k.Tuple → o.kind ≡ k.LeftParen → nat_lt 0 n ≡ true
      → parse.sub_type leaves types F n (T leaves types F n) bare ts ≡ Ok (x, r1) → parse.tuple_after leaves types F n (T leaves types F n) bare w.place x r1 ≡ Ok (b, r)
      → parse.base_at leaves types F n (T leaves types F n) bare (w ∷ o ∷ ts) ≡ Ok (b, r)
  unfolding parse.base_at sees_type_name parse.unnamed parse.tuple kind name_number same_kind take_if expect_if
  step_tuple n bare w o ts r1 r x b wc oc room e1 e2 = rw (wc, room, oc, e1, e2) refl

  step_bare : (n : ℕ) (o : Token) (ts r1 r : List Token) (x : SizedType) (b : ReadBase) → o.kind ≡ k.LeftParen → nat_lt 0 n ≡ true
      → parse.sub_type leaves types F n (T leaves types F n) true ts ≡ Ok (x, r1) → parse.tuple_after leaves types F n (T leaves types F n) true o.place x r1 ≡ Ok (b, r)
      → parse.base_at leaves types F n (T leaves types F n) true (o ∷ ts) ≡ Ok (b, r)
  unfolding parse.base_at sees_type_name parse.unnamed parse.bare_tuple kind name_number same_kind take_if
  step_bare n o ts r1 r x b oc room e1 e2 = rw (oc, room, e1, e2) refl

  step_channel : (n : ℕ) (bare : Bool) (w o c : Token) (ts r1 r : List Token) (x : SizedType) (b : ReadBase) → w.kind ≡ k.Chan → o.kind ≡ k.LeftParen → c.kind ≡ k.RightParen → nat_lt 0 n ≡ true
      → parse.sub_type leaves types F n (T leaves types F n) true ts ≡ Ok (x, c ∷ r1) → parse.capacity leaves types F n (T leaves types F n) w.place x.0 (x.1 + 1) r1 ≡ Ok (b, r)
      → parse.base_at leaves types F n (T leaves types F n) bare (w ∷ o ∷ ts) ≡ Ok (b, r)
  unfolding parse.base_at sees_type_name parse.unnamed parse.channel kind name_number same_kind take_if expect_if
  step_channel n bare w o c ts r1 r x b wc oc ec room e1 e2 = rw (wc, room, oc, e1, ec, e2) refl

  step_named : (n : ℕ) (bare : Bool) (t : Token) (r : List Token) → t.kind ≡ k.Name → known types t.name ≡ true → same_kind (kind r) k.LeftBracket ≡ false
      → parse.base_at leaves types F n (T leaves types F n) bare (t ∷ r) ≡ Ok (sized_base (ty.Named t.place t.name []) 0, r)
  unfolding parse.base_at parse.named sees_type_name kind name_number same_kind take_if
  step_named n bare t r c e f = rw (c, e, f) refl

  step_instance : (n : ℕ) (bare : Bool) (t o : Token) (ts r1 r : List Token) (x : SizedType) (b : ReadBase) → t.kind ≡ k.Name → known types t.name ≡ true → o.kind ≡ k.LeftBracket → nat_lt 0 n ≡ true
      → parse.sub_type leaves types F n (T leaves types F n) bare ts ≡ Ok (x, r1) → parse.arguments_after leaves types F n (T leaves types F n) bare t x r1 ≡ Ok (b, r)
      → parse.base_at leaves types F n (T leaves types F n) bare (t ∷ o ∷ ts) ≡ Ok (b, r)
  unfolding parse.base_at parse.named sees_type_name kind name_number same_kind take_if parse.arguments_after
  step_instance n bare t o ts r1 r x b c e oc room e1 e2 = rw (c, e, oc, room, e1, e2) refl

  -- ---- base types

  -- what a base type does not go on with
  pub record EndsBase (takes : Bool) (u r : List Token) : Type 0 where
    pub channel : takes ≡ true → same_kind (kind r) k.LeftBracket ≡ false
    pub name : (t : Token) → IsTypeName leaves types t → u ≡ t ∷ [] → same_kind (kind r) k.LeftBracket ≡ false

  pub no_bracket_ends : (takes : Bool) (u r : List Token) → same_kind (kind r) k.LeftBracket ≡ false → EndsBase takes u r
  no_bracket_ends takes u r f = record { channel = λ _. f; name = λ _ _ _. f }

  abbrev Reads : ℕ → Bool → List Token → ReadBase → List Token → Type 0
  Reads n bare ts x r = parse.base_at leaves types F n (T leaves types F n) bare ts ≡ Ok (x, r)

  list_c : (n : ℕ) (bare : Bool) (t o c : Token) (u r : List Token) (xs : List TypeTree) (h : ℕ) → t.kind ≡ k.Name → known types t.name ≡ true → o.kind ≡ k.LeftBracket → IsTypes leaves types bare u xs h → c.kind ≡ k.RightBracket → h + 1 ≤ n → length (u ++ (c ∷ r)) < F
      → Reads n bare (t ∷ o ∷ (u ++ (c ∷ r))) (sized_base (ty.Named t.place t.name xs) (h + 1)) r
  list_c n bare t o c u r xs h tc e oc a ec hn s =
      let inner = inner_c leaves types F n in
      let q = first_type leaves types F n inner a hn (c ∷ r) s (before_bracket c r ec) in
      let cut : u ++ (c ∷ r) ≡ q.front ++ (q.back ++ (c ∷ r)) = ap (λ l. l ++ (c ∷ r)) q.cut ∙ append_assoc q.front q.back (c ∷ r) in
      let short : length (q.front ++ (q.back ++ (c ∷ r))) < F = omega (arith, ap length cut) in
      ap (λ l. parse.base_at leaves types F n (T leaves types F n) bare (t ∷ o ∷ l)) cut
      ∙ step_instance n bare t o (q.front ++ (q.back ++ (c ∷ r))) (q.back ++ (c ∷ r)) r (q.first, q.low) (sized_base (ty.Named t.place t.name xs) (h + 1)) tc e oc (nat_lt_is 0 n (omega arith))
      (inner.sub bare q.front q.first q.low q.is (omega (arith, q.lower)) (q.back ++ (c ∷ r)) short q.after)
      (step_arguments leaves types F n bare t c (q.back ++ (c ∷ r)) r (q.first, q.low) xs h (whole_types leaves types F n inner q (not_comma_bracket c r ec)) ec)

  -- the rest of a tuple, behind its first part
  pub record TupleRest (n : ℕ) (bare : Bool) (at : Place) (u : List Token) (xs : List TypeTree) (h : ℕ) (c : Token) (r : List Token) : Type 0 where
    pub types_are : FirstType leaves types F n (inner_c leaves types F n) bare u xs h (c ∷ r)
    pub cut : u ++ (c ∷ r) ≡ types_are.front ++ (types_are.back ++ (c ∷ r))
    pub sub : parse.sub_type leaves types F n (T leaves types F n) bare (types_are.front ++ (types_are.back ++ (c ∷ r))) ≡ Ok ((types_are.first, types_are.low), types_are.back ++ (c ∷ r))
    pub after : parse.tuple_after leaves types F n (T leaves types F n) bare at (types_are.first, types_are.low) (types_are.back ++ (c ∷ r)) ≡ Ok (sized_base (ty.Tuple at xs) (h + 1), r)

  pub tuple_rest : (n : ℕ) (bare : Bool) (at : Place) (c : Token) (u r : List Token) (xs : List TypeTree) (h : ℕ) → IsParts leaves types bare u xs h → c.kind ≡ k.RightParen → h + 1 ≤ n → length (u ++ (c ∷ r)) < F → TupleRest n bare at u xs h c r
  tuple_rest n bare at c u r xs h a ec hn s =
      let inner = inner_c leaves types F n in
      let p = parts_c leaves types F n inner a in
      let q = first_type leaves types F n inner p.is hn (c ∷ r) s (before_paren c r ec) in
      let cut : u ++ (c ∷ r) ≡ q.front ++ (q.back ++ (c ∷ r)) = ap (λ l. l ++ (c ∷ r)) q.cut ∙ append_assoc q.front q.back (c ∷ r) in
      let short : length (q.front ++ (q.back ++ (c ∷ r))) < F = omega (arith, ap length cut) in
      record {
        types_are = q;
        cut = cut;
        sub = inner.sub bare q.front q.first q.low q.is (omega (arith, q.lower)) (q.back ++ (c ∷ r)) short q.after;
        after = step_parts leaves types F n bare at c (q.back ++ (c ∷ r)) r (q.first, q.low) xs h (whole_types leaves types F n inner q (not_comma_paren c r ec)) p.two ec;
      }

  tuple_c : (n : ℕ) (bare : Bool) (w o c : Token) (u r : List Token) (xs : List TypeTree) (h : ℕ) → w.kind ≡ k.Tuple → o.kind ≡ k.LeftParen → IsParts leaves types bare u xs h → c.kind ≡ k.RightParen → h + 1 ≤ n → length (u ++ (c ∷ r)) < F
      → Reads n bare (w ∷ o ∷ (u ++ (c ∷ r))) (sized_base (ty.Tuple w.place xs) (h + 1)) r
  tuple_c n bare w o c u r xs h wc oc a ec hn s =
      let q = tuple_rest n bare w.place c u r xs h a ec hn s in
      let t = q.types_are in
      ap (λ l. parse.base_at leaves types F n (T leaves types F n) bare (w ∷ o ∷ l)) q.cut
      ∙ step_tuple n bare w o (t.front ++ (t.back ++ (c ∷ r))) (t.back ++ (c ∷ r)) r (t.first, t.low) (sized_base (ty.Tuple w.place xs) (h + 1)) wc oc (nat_lt_is 0 n (omega arith)) q.sub q.after

  bare_c : (n : ℕ) (o c : Token) (u r : List Token) (xs : List TypeTree) (h : ℕ) → o.kind ≡ k.LeftParen → IsParts leaves types true u xs h → c.kind ≡ k.RightParen → h + 1 ≤ n → length (u ++ (c ∷ r)) < F
      → Reads n true (o ∷ (u ++ (c ∷ r))) (sized_base (ty.Tuple o.place xs) (h + 1)) r
  bare_c n o c u r xs h oc a ec hn s =
      let q = tuple_rest n true o.place c u r xs h a ec hn s in
      let t = q.types_are in
      ap (λ l. parse.base_at leaves types F n (T leaves types F n) true (o ∷ l)) q.cut
      ∙ step_bare n o (t.front ++ (t.back ++ (c ∷ r))) (t.back ++ (c ∷ r)) r (t.first, t.low) (sized_base (ty.Tuple o.place xs) (h + 1)) oc (nat_lt_is 0 n (omega arith)) q.sub q.after

  pub base_c : {bare takes : Bool} {u : List Token} {x : TypeTree} {h : ℕ} → IsBase leaves types bare takes u x h → (n : ℕ) → h ≤ n → (r : List Token) → length (u ++ r) < F → EndsBase takes u r
      → Reads n bare (u ++ r) (record { tree = x; height = h; takes_bracket = takes }) r
  base_c {bare} (basic t {x = x} c) n hn r s f = step_basic n bare t r x c
  base_c {bare} (named t (type_name c e)) n hn r s f = step_named n bare t r c e (f.name t (type_name c e) refl)
  base_c {bare} (instance t o c {u = u} {xs = xs} {h = h} (type_name tc e) oc a ec) n hn r s f =
      let cut : (u ++ c ∷ []) ++ r ≡ u ++ (c ∷ r) = append_assoc u (c ∷ []) r in
      ap (λ l. parse.base_at leaves types F n (T leaves types F n) bare (t ∷ o ∷ l)) cut ∙ list_c n bare t o c u r xs h tc e oc a ec hn (omega (arith, ap length cut))
  base_c {bare} (tuple w o c {u = u} {xs = xs} {h = h} wc oc a ec) n hn r s f =
      let cut : (u ++ c ∷ []) ++ r ≡ u ++ (c ∷ r) = append_assoc u (c ∷ []) r in
      ap (λ l. parse.base_at leaves types F n (T leaves types F n) bare (w ∷ o ∷ l)) cut ∙ tuple_c n bare w o c u r xs h wc oc a ec hn (omega (arith, ap length cut))
  base_c (bare_tuple o c {u = u} {xs = xs} {h = h} oc a ec) n hn r s f =
      let cut : (u ++ c ∷ []) ++ r ≡ u ++ (c ∷ r) = append_assoc u (c ∷ []) r in
      ap (λ l. parse.base_at leaves types F n (T leaves types F n) true (o ∷ l)) cut ∙ bare_c n o c u r xs h oc a ec hn (omega (arith, ap length cut))
  base_c {bare} (channel w o c {u = u} {x = x} {h = h} wc oc a ec) n hn r s f =
      let cut : (u ++ c ∷ []) ++ r ≡ u ++ (c ∷ r) = append_assoc u (c ∷ []) r in
      let short : length (u ++ (c ∷ r)) < F = omega (arith, ap length cut) in
      ap (λ l. parse.base_at leaves types F n (T leaves types F n) bare (w ∷ o ∷ l)) cut
      ∙ step_channel n bare w o c (u ++ (c ∷ r)) r r (x, h) (record { tree = ty.Chan w.place x None; height = h + 1; takes_bracket = true }) wc oc ec (nat_lt_is 0 n (omega arith))
      ((inner_c leaves types F n).sub true u x h a hn (c ∷ r) short (before_paren c r ec)) (no_capacity leaves types F n w.place x (h + 1) r (f.channel refl))
  base_c {bare} (buffered w o c p q {u = u} {v = v} {x = x} {n = m} {h = h} {i = i} wc oc a ec pc b qc) n hn r s f =
      let cut : (u ++ c ∷ p ∷ (v ++ q ∷ [])) ++ r ≡ u ++ (c ∷ p ∷ (v ++ (q ∷ r))) = append_assoc u (c ∷ p ∷ (v ++ q ∷ [])) r ∙ ap (λ l. u ++ (c ∷ p ∷ l)) (append_assoc v (q ∷ []) r) in
      let short : length (u ++ (c ∷ p ∷ (v ++ (q ∷ r)))) < F = omega (arith, ap length cut) in
      ap (λ l. parse.base_at leaves types F n (T leaves types F n) bare (w ∷ o ∷ l)) cut
      ∙ step_channel n bare w o c (u ++ (c ∷ p ∷ (v ++ (q ∷ r)))) (p ∷ (v ++ (q ∷ r))) r (x, h) (sized_base (ty.Chan w.place x (Some m)) (max (h + 1) i)) wc oc ec (nat_lt_is 0 n (omega arith))
      ((inner_c leaves types F n).sub true u x h a (omega arith) (c ∷ p ∷ (v ++ (q ∷ r))) short (before_paren c (p ∷ (v ++ (q ∷ r))) ec))
      (some_capacity leaves types F n w.place x (h + 1) p q v r m i pc qc (whole_bound leaves types F b n (omega arith) (q ∷ r) (omega (arith, length-append u (c ∷ p ∷ (v ++ (q ∷ r))))) (ends_bracket leaves types F q r qc)))

  -- what stands for "base" is parsed to it
  pub base_within_c : {takes : Bool} {u : List Token} {x : TypeTree} {h : ℕ} → IsBase leaves types true takes u x h → (n : ℕ) → h ≤ n → (r : List Token) → length (u ++ r) < F → EndsBase takes u r
      → base_within leaves types F n (u ++ r) ≡ Ok (record { tree = x; height = h; takes_bracket = takes }, r)
  base_within_c d n hn r s f = base_c d n hn r s f

  -- ---- the types of casts

  step_starred : (n : ℕ) (bare : Bool) (ts r1 r : List Token) (x y : ReadBase) → Reads n bare ts x r1 → pointers_from F (start ts) x r1 ≡ Ok (y, r)
      → parse.starred_at leaves types F n (T leaves types F n) bare ts ≡ Ok ((y.tree, y.height), r)
  unfolding parse.starred_at
  step_starred n bare ts r1 r x y e1 e2 = rw (e1, e2) refl

  pub starred_c : {bare takes : Bool} {u : List Token} {x : TypeTree} {h : ℕ} → IsStarred leaves types bare takes u x h → (n : ℕ) → h ≤ n → (r : List Token) → length (u ++ r) < F → same_kind (kind r) k.LeftBracket ≡ false → same_kind (kind r) k.Star ≡ false
      → parse.starred_at leaves types F n (T leaves types F n) bare (u ++ r) ≡ Ok ((x, h), r)
  starred_c {bare} {takes} {u} {x} {h} d n hn r s f g =
      let q = stars_c leaves types F d r s in
      let cut : u ++ r ≡ q.front ++ (q.back ++ r) = ap (λ l. l ++ r) q.cut ∙ append_assoc q.front q.back r in
      let short : length (q.front ++ (q.back ++ r)) < F = omega (arith, ap length cut) in
      let place : start (q.front ++ (q.back ++ r)) ≡ start u = sym (ap start cut) ∙ start_of u r (starred_long leaves types d) in
      let ends = no_bracket_ends q.first.takes_bracket q.front (q.back ++ r) (no_bracket leaves types F q f) in
      ap (parse.starred_at leaves types F n (T leaves types F n) bare) cut
      ∙ step_starred n bare (q.front ++ (q.back ++ r)) (q.back ++ r) r q.first (record { tree = x; height = h; takes_bracket = takes }) (base_c q.is n (omega (arith, q.height)) (q.back ++ r) short ends)
      (ap (λ p. pointers_from F p q.first (q.back ++ r)) place ∙ all_stars leaves types F q g)

  -- what stands for "ctype" is parsed to it
  pub starred_within_c : {u : List Token} {x : TypeTree} {h : ℕ} → IsStarredType leaves types u x h → (n : ℕ) → h ≤ n → (r : List Token) → length (u ++ r) < F → same_kind (kind r) k.LeftBracket ≡ false → same_kind (kind r) k.Star ≡ false
      → starred_within leaves types F n (u ++ r) ≡ Ok ((x, h), r)
  starred_within_c c n hn r s f g = starred_c c.is n hn r s f g

  -- a type without a bare tuple is seen by its first token
  pub base_word : {takes : Bool} {u : List Token} {x : TypeTree} {h : ℕ} → IsBase leaves types false takes u x h → (r : List Token) → sees_type types (u ++ r) ≡ true
  base_word {takes} {u} {x} {h} d r = go (base_sees leaves types F d r)
    where
      go : (sees_type types (u ++ r) ≡ true) ⊎ ((false ≡ true) × Bare leaves types F u (record { tree = x; height = h; takes_bracket = takes })) → sees_type types (u ++ r) ≡ true
      go (inl g) = g
      go (inr g) = let e : false ≡ true = g.0 in absurd (let z : ⊥ = cc in z)

  pub starred_word : {takes : Bool} {u : List Token} {x : TypeTree} {h : ℕ} → IsStarred leaves types false takes u x h → (r : List Token) → sees_type types (u ++ r) ≡ true
  starred_word (base d) r = base_word d r
  starred_word (star t {u = u} d c) r = subst (λ (l : List Token). sees_type types l ≡ true) (sym (append_assoc u (t ∷ []) r)) (starred_word d (t ∷ r))

  pub starred_type_word : {u : List Token} {x : TypeTree} {h : ℕ} → IsStarredType leaves types u x h → (r : List Token) → sees_type types (u ++ r) ≡ true
  starred_type_word c r = starred_word c.is r
