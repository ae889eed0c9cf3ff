-- Whole types are parsed to their trees, by induction on the levels that they may have.
use Rattle.std.proofs.Common.{◌≡◌, ℕ, zero, suc, pred, ◌+◌, ◌<◌, ◌≤◌, ◌==◌, max, nat_lt, Bool, true, false, List, [], ◌∷◌, ◌++◌, length, Some, None, Ok, ◌⊎◌, inl, inr, refl, sym, ap, ap₂, ◌∙◌, subst, arith, append_assoc, append-nil, length-append}
use Rattle.std.proofs.lemmas.Grind.{common_steps}
use Rattle.al_base.specs.declared.place.Place.{Place}
use Rattle.al_lex.specs.declared.kind.TokenKind.TheVariants as k
use Rattle.al_lex.specs.declared.token.Token.{Token}
use Rattle.al_tree.specs.Words.{start}
use Rattle.al_tree.specs.Types.{Leaves, known, arrays, IsTypeName, type_name, IsBoundPrim, number, name, paren, IsBoundTerm, IsBound, IsBounds, IsBase, basic, named, instance, tuple, bare_tuple, channel, buffered, IsStarred, base, star, IsTypeTree, plain, array, IsTypes, one, more, IsParts, parts}
use Rattle.al_tree.specs.Types as rules
use Rattle.al_tree.specs.Reading.{Parser, kind, name_number, same_kind, take_if, expect_if}
use Rattle.al_tree.specs.declared.type_tree.Bound.{Bound}
use Rattle.al_tree.specs.declared.type_tree.TypeTree.{TypeTree}
use Rattle.al_tree.specs.declared.type_tree.TypeTree.TheVariants as ty
use Rattle.al_tree.proofs.Law.{some_pred, start_of}
use Rattle.al_parse_type.specs.declared.part.Part.TheVariants as part
use Rattle.al_parse_type.specs.declared.part.Want.{Want}
use Rattle.al_parse_type.specs.declared.part.Want.TheVariants as want
use Rattle.al_parse_type.specs.declared.part.ReadBase.{ReadBase}
use Rattle.al_parse_type.specs.Parse as parse
use Rattle.al_parse_type.specs.Parse.{SizedType, SizedPart, SizedBound, sees_type_name, sees_type, begins_part, wanted, part_wanted, type_of, is_one, sized_base, bounds_from, bound, bound_below, below}
use Rattle.al_parse_type.proofs.TypeLaw.{base_long}
use Rattle.al_parse_type.proofs.BoundComplete.{FollowBound, follow_closing, less_pred, tail_short, rest_short, nat_lt_is, kind_of, prim_c, whole_bound, end_bounds, ends_bracket}
use Rattle.al_parse_type.proofs.TypeComplete.{FollowType, before_comma, before_paren, before_bracket, not_comma_paren, not_comma_bracket, step_basic, step_tuple, step_bare, step_channel, no_capacity, some_capacity, step_named, step_instance, step_array, step_array_inside, step_types, end_types, step_arguments, step_parts, FirstBound, NoBounds, first_bound, Arrays, Split, split_c, Bare, base_sees, type_begins, bound_begins, bound_part}

-- What is known of the parser of what stands inside types of at most that many levels.
pub record Inner (leaves : Leaves) (types : List ℕ) (F n : ℕ) : Type 0 where
  pub sub : (bare : Bool) (u : List Token) (x : TypeTree) (h : ℕ) → IsTypeTree leaves types bare u x h → h + 1 ≤ n → (r : List Token) → length (u ++ r) < F → FollowType r
      → parse.sub_type leaves types F n (below leaves types F n) bare (u ++ r) ≡ Ok ((x, h), r)
  pub part_type : (bare : Bool) (u : List Token) (x : TypeTree) (h : ℕ) → IsTypeTree leaves types bare u x h → h + 1 ≤ n → (r : List Token) → length (u ++ r) < F → FollowType r
      → below leaves types F n (part_wanted bare) (u ++ r) ≡ Ok ((part.Type x, h), r)
  pub part_bound : (u : List Token) (x : Bound) (h : ℕ) → IsBound leaves types u x h → 0 < n → h ≤ n → (r : List Token) → length (u ++ r) < F → FollowBound r
      → below leaves types F n want.Either (u ++ r) ≡ Ok ((part.Bound x, h), r)

module _ (leaves : Leaves) (types : List ℕ) (F n : ℕ) (inner : Inner leaves types F n) where
  abbrev B : Want → Parser SizedPart
  B = below leaves types F n

  -- a list of types: the first one, and then the loop
  pub record FirstType (bare : Bool) (u : List Token) (xs : List TypeTree) (h : ℕ) (r : List Token) : Type 0 where
    pub front : List Token
    pub back : List Token
    pub first : TypeTree
    pub low : ℕ
    pub is : IsTypeTree leaves types bare front first low
    pub lower : low ≤ h
    pub cut : u ≡ front ++ back
    pub after : FollowType (back ++ r)
    pub left : ℕ
    pub enough : length r < left
    pub loop : parse.types_from leaves types F n B bare F (first ∷ []) low (back ++ r) ≡ parse.types_from leaves types F n B bare left xs h r

  pub first_type : {bare : Bool} {u : List Token} {xs : List TypeTree} {h : ℕ} → IsTypes leaves types bare u xs h → h + 1 ≤ n → (r : List Token) → length (u ++ r) < F → FollowType r → FirstType bare u xs h r
  first_type (one {u = u} {x = x} {h = h} d) hn r s f = record {
    front = u;
    back = [];
    first = x;
    low = h;
    is = d;
    lower = omega arith;
    cut = sym (append-nil u);
    after = f;
    left = F;
    enough = rest_short u r F s;
    loop = refl;
  }
  first_type {bare} (more t {u = u} {v = v} {xs = xs} {x = x} {h = h} {i = i} l c d) hn r s f =
      let e = append_assoc u (t ∷ v) r in
      let s1 : length (u ++ (t ∷ (v ++ r))) < F = omega (arith, ap length e) in
      let q = first_type l (omega arith) (t ∷ (v ++ r)) s1 (before_comma t (v ++ r) c) in
      let ih = inner.sub bare v x i d (omega arith) r (tail_short u t (v ++ r) F s1) f in
      let back_e : (q.back ++ t ∷ v) ++ r ≡ q.back ++ (t ∷ (v ++ r)) = append_assoc q.back (t ∷ v) r in
      record {
        front = q.front;
        back = q.back ++ t ∷ v;
        first = q.first;
        low = q.low;
        is = q.is;
        lower = omega (arith, q.lower);
        cut = ap (λ m. m ++ t ∷ v) q.cut ∙ append_assoc q.front q.back (t ∷ v);
        after = subst FollowType (sym back_e) q.after;
        left = pred q.left;
        enough = less_pred (length r) q.left (omega (arith, q.enough, length-append v r));
        loop = ap (parse.types_from leaves types F n B bare F (q.first ∷ []) q.low) back_e ∙ q.loop
            ∙ ap (λ m. parse.types_from leaves types F n B bare m xs h (t ∷ (v ++ r))) (some_pred q.left (length (t ∷ (v ++ r))) q.enough)
            ∙ step_types leaves types F n bare (pred q.left) t v r xs h x i c ih;
      }

  pub whole_types : {bare : Bool} {u : List Token} {xs : List TypeTree} {h : ℕ} {r : List Token} → (q : FirstType bare u xs h r) → same_kind (kind r) k.Comma ≡ false
      → parse.types_from leaves types F n B bare F (q.first ∷ []) q.low (q.back ++ r) ≡ Ok ((xs, h), r)
  whole_types {bare} {xs = xs} {h = h} {r = r} q f = q.loop ∙ ap (λ m. parse.types_from leaves types F n B bare m xs h r) (some_pred q.left (length r) q.enough) ∙ end_types leaves types F n bare (pred q.left) r xs h f

  types_some : {bare : Bool} {u : List Token} {xs : List TypeTree} {h : ℕ} → IsTypes leaves types bare u xs h → 0 < length xs
  types_some (one d) = omega arith
  types_some (more t {xs = xs} {x = x} l c d) = omega (arith, length-append xs (x ∷ []))

  many : (m : ℕ) → 1 < m → (m == 1) ≡ false
  many m h = grind (arith, common_steps)

  pub record AreParts (bare : Bool) (u : List Token) (xs : List TypeTree) (h : ℕ) : Type 0 where
    pub is : IsTypes leaves types bare u xs h
    pub two : is_one xs ≡ false

  pub parts_c : {bare : Bool} {u : List Token} {xs : List TypeTree} {h : ℕ} → IsParts leaves types bare u xs h → AreParts bare u xs h
  parts_c (parts t {xs = xs} {x = x} l c d) = record { is = more t l c d; two = many (length (xs ++ x ∷ [])) (omega (arith, length-append xs (x ∷ []), types_some l)) }

  pub closed : (u : List Token) (c : Token) (r : List Token) → (u ++ c ∷ []) ++ r ≡ u ++ (c ∷ r)
  closed u c r = append_assoc u (c ∷ []) r

  -- ---- base types

  -- a type's name alone
  pub record OneName (u : List Token) (first : ReadBase) : Type 0 where
    pub token : Token
    pub kind_is : token.kind ≡ k.Name
    pub known_is : known types token.name ≡ true
    pub cut : u ≡ token ∷ []
    pub tree : first ≡ sized_base (ty.Named token.place token.name []) 0

  abbrev Reads : Bool → List Token → ReadBase → List Token → Type 0
  Reads bare u first r = parse.type_at leaves types F n B bare (u ++ r) ≡ parse.type_after leaves types F n B (start u) first r

  list_c : (bare : Bool) (t o c : Token) (u r : List Token) (xs : List TypeTree) (h : ℕ) → t.kind ≡ k.Name → known types t.name ≡ true → o.kind ≡ k.LeftBracket → IsTypes leaves types bare u xs h → c.kind ≡ k.RightBracket → h + 1 ≤ n → length (u ++ (c ∷ r)) < F
      → parse.type_at leaves types F n B bare (t ∷ o ∷ (u ++ (c ∷ r))) ≡ parse.type_after leaves types F n B t.place (sized_base (ty.Named t.place t.name xs) (h + 1)) r
  list_c bare t o c u r xs h tc e oc a ec hn s =
      let q = first_type a hn (c ∷ r) s (before_bracket c r ec) in
      let cut : u ++ (c ∷ r) ≡ q.front ++ (q.back ++ (c ∷ r)) = ap (λ l. l ++ (c ∷ r)) q.cut ∙ append_assoc q.front q.back (c ∷ r) in
      let short : length (q.front ++ (q.back ++ (c ∷ r))) < F = omega (arith, ap length cut) in
      ap (λ l. parse.type_at leaves types F n B bare (t ∷ o ∷ l)) cut
      ∙ step_instance leaves types F n bare t o (q.front ++ (q.back ++ (c ∷ r))) (q.back ++ (c ∷ r)) r q.first q.low (sized_base (ty.Named t.place t.name xs) (h + 1)) tc e oc
      (type_begins leaves types F q.is (q.back ++ (c ∷ r))) (nat_lt_is 0 n (omega arith)) (inner.part_type bare q.front q.first q.low q.is (omega (arith, q.lower)) (q.back ++ (c ∷ r)) short q.after)
      (step_arguments leaves types F n bare t c (q.back ++ (c ∷ r)) r (q.first, q.low) xs h (whole_types q (not_comma_bracket c r ec)) ec)

  tuple_c : (bare : Bool) (w o c : Token) (u r : List Token) (xs : List TypeTree) (h : ℕ) → w.kind ≡ k.Tuple → o.kind ≡ k.LeftParen → IsParts leaves types bare u xs h → c.kind ≡ k.RightParen → h + 1 ≤ n → length (u ++ (c ∷ r)) < F
      → parse.type_at leaves types F n B bare (w ∷ o ∷ (u ++ (c ∷ r))) ≡ parse.type_after leaves types F n B w.place (sized_base (ty.Tuple w.place xs) (h + 1)) r
  tuple_c bare w o c u r xs h wc oc a ec hn s =
      let p = parts_c a in
      let q = first_type p.is hn (c ∷ r) s (before_paren c r ec) in
      let cut : u ++ (c ∷ r) ≡ q.front ++ (q.back ++ (c ∷ r)) = ap (λ l. l ++ (c ∷ r)) q.cut ∙ append_assoc q.front q.back (c ∷ r) in
      let short : length (q.front ++ (q.back ++ (c ∷ r))) < F = omega (arith, ap length cut) in
      ap (λ l. parse.type_at leaves types F n B bare (w ∷ o ∷ l)) cut
      ∙ step_tuple leaves types F n bare w o (q.front ++ (q.back ++ (c ∷ r))) (q.back ++ (c ∷ r)) r (q.first, q.low) (sized_base (ty.Tuple w.place xs) (h + 1)) wc oc (nat_lt_is 0 n (omega arith))
      (inner.sub bare q.front q.first q.low q.is (omega (arith, q.lower)) (q.back ++ (c ∷ r)) short q.after)
      (step_parts leaves types F n bare w.place c (q.back ++ (c ∷ r)) r (q.first, q.low) xs h (whole_types q (not_comma_paren c r ec)) p.two ec)

  bare_c : (o c : Token) (u r : List Token) (xs : List TypeTree) (h : ℕ) → o.kind ≡ k.LeftParen → IsParts leaves types true u xs h → c.kind ≡ k.RightParen → h + 1 ≤ n → length (u ++ (c ∷ r)) < F
      → parse.type_at leaves types F n B true (o ∷ (u ++ (c ∷ r))) ≡ parse.type_after leaves types F n B o.place (sized_base (ty.Tuple o.place xs) (h + 1)) r
  bare_c o c u r xs h oc a ec hn s =
      let p = parts_c a in
      let q = first_type p.is hn (c ∷ r) s (before_paren c r ec) in
      let cut : u ++ (c ∷ r) ≡ q.front ++ (q.back ++ (c ∷ r)) = ap (λ l. l ++ (c ∷ r)) q.cut ∙ append_assoc q.front q.back (c ∷ r) in
      let short : length (q.front ++ (q.back ++ (c ∷ r))) < F = omega (arith, ap length cut) in
      ap (λ l. parse.type_at leaves types F n B true (o ∷ l)) cut
      ∙ step_bare leaves types F n o (q.front ++ (q.back ++ (c ∷ r))) (q.back ++ (c ∷ r)) r (q.first, q.low) (sized_base (ty.Tuple o.place xs) (h + 1)) oc (nat_lt_is 0 n (omega arith))
      (inner.sub true q.front q.first q.low q.is (omega (arith, q.lower)) (q.back ++ (c ∷ r)) short q.after)
      (step_parts leaves types F n true o.place c (q.back ++ (c ∷ r)) r (q.first, q.low) xs h (whole_types q (not_comma_paren c r ec)) p.two ec)

  base_c : {bare takes : Bool} {u : List Token} {x : TypeTree} {h : ℕ} → IsBase leaves types bare takes u x h → h ≤ n → (r : List Token) → length (u ++ r) < F → (takes ≡ true → same_kind (kind r) k.LeftBracket ≡ false)
      → OneName u (record { tree = x; height = h; takes_bracket = takes }) ⊎ Reads bare u (record { tree = x; height = h; takes_bracket = takes }) r
  base_c {bare} (basic t {x = x} c) hn r s f = inr (step_basic leaves types F n bare t r x c)
  base_c (named t (type_name c e)) hn r s f = inl (record { token = t; kind_is = c; known_is = e; cut = refl; tree = refl })
  base_c {bare} (instance t o c {u = u} {xs = xs} {h = h} (type_name tc e) oc a ec) hn r s f =
      let cut = closed u c r in
      inr (ap (λ l. parse.type_at leaves types F n B bare (t ∷ o ∷ l)) cut ∙ list_c bare t o c u r xs h tc e oc a ec hn (omega (arith, ap length cut)))
  base_c {bare} (tuple w o c {u = u} {xs = xs} {h = h} wc oc a ec) hn r s f =
      let cut = closed u c r in
      inr (ap (λ l. parse.type_at leaves types F n B bare (w ∷ o ∷ l)) cut ∙ tuple_c bare w o c u r xs h wc oc a ec hn (omega (arith, ap length cut)))
  base_c (bare_tuple o c {u = u} {xs = xs} {h = h} oc a ec) hn r s f =
      let cut = closed u c r in
      inr (ap (λ l. parse.type_at leaves types F n B true (o ∷ l)) cut ∙ bare_c o c u r xs h oc a ec hn (omega (arith, ap length cut)))
  base_c {bare} (channel w o c {u = u} {x = x} {h = h} wc oc a ec) hn r s f =
      let cut = closed u c r in
      let short : length (u ++ (c ∷ r)) < F = omega (arith, ap length cut) in
      inr (ap (λ l. parse.type_at leaves types F n B bare (w ∷ o ∷ l)) cut
      ∙ step_channel leaves types F n bare w o c (u ++ (c ∷ r)) r r (x, h) (record { tree = ty.Chan w.place x None; height = h + 1; takes_bracket = true }) wc oc ec (nat_lt_is 0 n (omega arith))
      (inner.sub true u x h a hn (c ∷ r) short (before_paren c r ec)) (no_capacity leaves types F n w.place x (h + 1) r (f refl)))
  base_c {bare} (buffered w o c p q {u = u} {v = v} {x = x} {n = m} {h = h} {i = i} wc oc a ec pc b qc) hn r s f =
      let cut : (u ++ c ∷ p ∷ (v ++ q ∷ [])) ++ r ≡ u ++ (c ∷ p ∷ (v ++ (q ∷ r))) = append_assoc u (c ∷ p ∷ (v ++ q ∷ [])) r ∙ ap (λ l. u ++ (c ∷ p ∷ l)) (append_assoc v (q ∷ []) r) in
      let short : length (u ++ (c ∷ p ∷ (v ++ (q ∷ r)))) < F = omega (arith, ap length cut) in
      inr (ap (λ l. parse.type_at leaves types F n B bare (w ∷ o ∷ l)) cut
      ∙ step_channel leaves types F n bare w o c (u ++ (c ∷ p ∷ (v ++ (q ∷ r)))) (p ∷ (v ++ (q ∷ r))) r (x, h) (sized_base (ty.Chan w.place x (Some m)) (max (h + 1) i)) wc oc ec (nat_lt_is 0 n (omega arith))
      (inner.sub true u x h a (omega arith) (c ∷ p ∷ (v ++ (q ∷ r))) short (before_paren c (p ∷ (v ++ (q ∷ r))) ec))
      (some_capacity leaves types F n w.place x (h + 1) p q v r m i pc qc (whole_bound leaves types F b n (omega arith) (q ∷ r) (omega (arith, length-append u (c ∷ p ∷ (v ++ (q ∷ r))))) (ends_bracket leaves types F q r qc))))

  -- ---- whole types

  -- where a type may begin, and a bound stands
  bound_inside : (bare : Bool) (u : List Token) (x : Bound) (h : ℕ) → IsBound leaves types u x h → h ≤ n → (r : List Token) → length (u ++ r) < F → FollowBound r → begins_part types bare (u ++ r) ≡ true
      → (B (part_wanted bare) (u ++ r) ≡ Ok ((part.Bound x, h), r)) × (0 < n)
  bound_inside bare u x h a hn r s f g =
      let p = bound_part leaves types F bare (u ++ r) h (bound_begins leaves types F a r) g in
      let some : 0 < n = omega (arith, p.1) in
      (subst (λ b. B (part_wanted b) (u ++ r) ≡ Ok ((part.Bound x, h), r)) (sym p.0) (inner.part_bound u x h a some hn r s f), some)

  -- arrays right behind a type's name
  named_array : (bare : Bool) (t : Token) (v r : List Token) (xs : List Bound) (h : ℕ) → t.kind ≡ k.Name → known types t.name ≡ true → NoBounds leaves types F v xs h ⊎ FirstBound leaves types F v xs h n r → (xs ≡ [] → ⊥) → h ≤ n → length (v ++ r) < F → same_kind (kind r) k.LeftBracket ≡ false
      → parse.type_at leaves types F n B bare (t ∷ (v ++ r)) ≡ Ok ((arrays t.place xs (ty.Named t.place t.name []), h), r)
  named_array bare t v r xs h tc e (inl q) some hn s f = absurd (some q.bounds)
  named_array bare t v r xs h tc e (inr q) some hn s f =
      let o = q.open_token in
      let c = q.close_token in
      let cut : v ++ r ≡ o ∷ (q.inside ++ (c ∷ (q.behind ++ r))) = ap (λ l. l ++ r) q.cut ∙ ap (λ l. o ∷ l) (append_assoc q.inside (c ∷ q.behind) r) in
      let short : length (q.inside ++ (c ∷ (q.behind ++ r))) < F = omega (arith, ap length cut) in
      let rest = q.loop ∙ ap (λ m. bounds_from leaves types F n m xs h r) (some_pred q.left (length r) q.enough) ∙ end_bounds leaves types F n (pred q.left) r xs h f in
      let follow = ends_bracket leaves types F c (q.behind ++ r) q.shuts in
      ap (λ l. parse.type_at leaves types F n B bare (t ∷ l)) cut ∙ go o c short rest follow (begins_part types bare (q.inside ++ (c ∷ (q.behind ++ r)))) refl q.opens q.shuts
    where
      go : (o c : Token) → length (q.inside ++ (c ∷ (q.behind ++ r))) < F → bounds_from leaves types F n F (q.bound_is ∷ []) q.low (q.behind ++ r) ≡ Ok ((xs, h), r) → FollowBound (c ∷ (q.behind ++ r)) → (b : Bool) → begins_part types bare (q.inside ++ (c ∷ (q.behind ++ r))) ≡ b
          → o.kind ≡ k.LeftBracket → c.kind ≡ k.RightBracket → parse.type_at leaves types F n B bare (t ∷ o ∷ (q.inside ++ (c ∷ (q.behind ++ r)))) ≡ Ok ((arrays t.place xs (ty.Named t.place t.name []), h), r)
      go o c short rest follow false g oc ec =
          step_array leaves types F n bare t o c (q.inside ++ (c ∷ (q.behind ++ r))) (q.behind ++ r) r (q.bound_is, q.low) xs h tc e oc g (whole_bound leaves types F q.is n (omega (arith, q.lower)) (c ∷ (q.behind ++ r)) short follow) ec rest
      go o c short rest follow true g oc ec =
          let p = bound_inside bare q.inside q.bound_is q.low q.is (omega (arith, q.lower)) (c ∷ (q.behind ++ r)) short follow g in
          step_array_inside leaves types F n bare t o c (q.inside ++ (c ∷ (q.behind ++ r))) (q.behind ++ r) r q.bound_is q.low xs h tc e oc g (nat_lt_is 0 n p.1) p.0 ec rest

  pub type_c : {bare : Bool} {u : List Token} {x : TypeTree} {h : ℕ} → IsTypeTree leaves types bare u x h → h ≤ n → (r : List Token) → length (u ++ r) < F → same_kind (kind r) k.LeftBracket ≡ false → ((takes : Bool) → IsStarred leaves types bare takes u x h → same_kind (kind r) k.Star ≡ false) → parse.type_at leaves types F n B bare (u ++ r) ≡ Ok ((x, h), r)
  type_c {bare} {u} {x} {h} d hn r s f stars =
      let q = split_c leaves types F d n hn r s f stars in
      let cut : u ++ r ≡ q.front ++ (q.back ++ r) = ap (λ l. l ++ r) q.cut ∙ append_assoc q.front q.back r in
      let short : length (q.front ++ (q.back ++ r)) < F = omega (arith, ap length cut) in
      let place : start q.front ≡ start u = sym (ap start q.cut ∙ start_of q.front q.back (base_long leaves types q.is)) in
      ap (parse.type_at leaves types F n B bare) cut ∙ go q place short (base_c q.is (omega (arith, q.low)) (q.back ++ r) short q.opens)
    where
      go : (q : Split leaves types F bare n u x h r) → start q.front ≡ start u → length (q.front ++ (q.back ++ r)) < F → OneName q.front q.first ⊎ Reads bare q.front q.first (q.back ++ r) → parse.type_at leaves types F n B bare (q.front ++ (q.back ++ r)) ≡ Ok ((x, h), r)
      go q place short (inr e) = e ∙ ap (λ p. parse.type_after leaves types F n B p q.first (q.back ++ r)) place ∙ q.fin
      go q place short (inl o) = by q.shape
        where
          t : Token
          t = o.token

          at_name : start u ≡ t.place
          at_name = sym place ∙ ap start o.cut

          by : (same_kind (kind (q.back ++ r)) k.LeftBracket ≡ false) ⊎ Arrays leaves types F u x h q.first q.back → parse.type_at leaves types F n B bare (q.front ++ (q.back ++ r)) ≡ Ok ((x, h), r)
          by (inl nb) =
              ap (λ l. parse.type_at leaves types F n B bare (l ++ (q.back ++ r))) o.cut
              ∙ step_named leaves types F n bare t (q.back ++ r) o.kind_is o.known_is nb
              ∙ ap₂ (λ p b. parse.type_after leaves types F n B p b (q.back ++ r)) (sym at_name) (sym o.tree) ∙ q.fin
          by (inr a) =
              let rest : length (q.back ++ r) < F = rest_short q.front (q.back ++ r) F short in
              let low : a.height ≤ n = omega (arith, a.high) in
              let tall : a.height ≡ h = let z : q.first.height ≡ 0 = ap (λ (b : ReadBase). b.height) o.tree in omega (arith, a.high) in
              let tree : arrays t.place a.bounds (ty.Named t.place t.name []) ≡ x = sym (a.tree ∙ ap₂ (λ p (b : ReadBase). arrays p a.bounds b.tree) at_name o.tree) in
              ap (λ l. parse.type_at leaves types F n B bare (l ++ (q.back ++ r))) o.cut
              ∙ named_array bare t q.back r a.bounds a.height o.kind_is o.known_is (first_bound leaves types F a.is n low r rest) a.some low rest f
              ∙ ap₂ (λ y i. Ok ((y, i), r)) tree tall

  -- ---- a type or a bound

  step_either_type : (ts r : List Token) (x : TypeTree) (h : ℕ) → sees_type types ts ≡ true → parse.type_at leaves types F n B true ts ≡ Ok ((x, h), r) → parse.either_at leaves types F n B ts ≡ Ok ((part.Type x, h), r)
  unfolding parse.either_at
  step_either_type ts r x h g e = rw (g, e) refl

  step_either_bound : (ts r : List Token) (x : Bound) (h : ℕ) → sees_type types ts ≡ false → same_kind (kind ts) k.LeftParen ≡ false → bound leaves types F (n + 1) ts ≡ Ok ((x, h), r) → parse.either_at leaves types F n B ts ≡ Ok ((part.Bound x, h), r)
  unfolding parse.either_at
  step_either_bound ts r x h g p e = rw (g, p, e) refl

  step_either_paren : (o : Token) (ts : List Token) → o.kind ≡ k.LeftParen → parse.either_at leaves types F n B (o ∷ ts) ≡ parse.parenthesis leaves types F n B o.place ts
  unfolding parse.either_at sees_type sees_type_name kind name_number same_kind take_if
  step_either_paren o ts oc = rw oc refl

  step_inner_type : (at : Place) (ts r1 r2 r : List Token) (x : SizedType) (b : ReadBase) (y : TypeTree) (h : ℕ) → begins_part types true ts ≡ true → nat_lt 0 n ≡ true → B want.Either ts ≡ Ok ((part.Type x.0, x.1), r1)
      → parse.tuple_after leaves types F n B true at (x.0, x.1) r1 ≡ Ok (b, r2) → parse.type_after leaves types F n B at b r2 ≡ Ok ((y, h), r) → parse.parenthesis leaves types F n B at ts ≡ Ok ((part.Type y, h), r)
  unfolding parse.parenthesis parse.closed_type
  step_inner_type at ts r1 r2 r x b y h g room e1 e2 e3 = rw (g, room, e1, e2, e3) refl

  step_inner_bound : (at : Place) (c : Token) (ts r1 r : List Token) (x : Bound) (i : ℕ) (y : Bound) (h : ℕ) → begins_part types true ts ≡ true → nat_lt 0 n ≡ true → B want.Either ts ≡ Ok ((part.Bound x, i), c ∷ r1) → c.kind ≡ k.RightParen
      → parse.bound_after leaves types F (n + 1) (bound_below leaves types F (n + 1)) at (x, i + 1) r1 ≡ Ok ((y, h), r) → parse.parenthesis leaves types F n B at ts ≡ Ok ((part.Bound y, h), r)
  unfolding parse.parenthesis parse.closed_bound kind same_kind take_if expect_if
  step_inner_bound at c ts r1 r x i y h g room e1 ec e2 = rw (g, room, e1, ec, e2) refl

  step_bound_only : (at : Place) (c : Token) (ts r1 r : List Token) (x : Bound) (i : ℕ) (y : Bound) (h : ℕ) → begins_part types true ts ≡ false → bound leaves types F n ts ≡ Ok ((x, i), c ∷ r1) → c.kind ≡ k.RightParen
      → parse.bound_after leaves types F (n + 1) (bound_below leaves types F (n + 1)) at (x, i + 1) r1 ≡ Ok ((y, h), r) → parse.parenthesis leaves types F n B at ts ≡ Ok ((part.Bound y, h), r)
  unfolding parse.parenthesis parse.closed_bound kind same_kind take_if expect_if
  step_bound_only at c ts r1 r x i y h g e1 ec e2 = rw (g, e1, ec, e2) refl

  either_type : {u : List Token} {x : TypeTree} {h : ℕ} → IsTypeTree leaves types true u x h → h ≤ n → (r : List Token) → length (u ++ r) < F → FollowType r → parse.either_at leaves types F n B (u ++ r) ≡ Ok ((part.Type x, h), r)
  either_type {u} {x} {h} d hn r s f =
      let q = split_c leaves types F d n hn r s f.bracket (λ _ _. f.star) in
      let cut : u ++ r ≡ q.front ++ (q.back ++ r) = ap (λ l. l ++ r) q.cut ∙ append_assoc q.front q.back r in
      let place : start q.front ≡ start u = sym (ap start q.cut ∙ start_of q.front q.back (base_long leaves types q.is)) in
      go q cut place (base_sees leaves types F q.is (q.back ++ r))
    where
      go : (q : Split leaves types F true n u x h r) → u ++ r ≡ q.front ++ (q.back ++ r) → start q.front ≡ start u → (sees_type types (q.front ++ (q.back ++ r)) ≡ true) ⊎ ((true ≡ true) × Bare leaves types F q.front q.first) → parse.either_at leaves types F n B (u ++ r) ≡ Ok ((part.Type x, h), r)
      go q cut place (inl g) = step_either_type (u ++ r) r x h (subst (λ (l : List Token). sees_type types l ≡ true) (sym cut) g) (type_c d hn r s f.bracket (λ _ _. f.star))
      go q cut place (inr g) =
          let b = g.1 in
          let o = b.open_token in
          let c = b.close_token in
          let R = q.back ++ r in
          let p = parts_c b.is in
          let tall : b.high + 1 ≤ n = let z : q.first.height ≡ b.high + 1 = ap (λ (y : ReadBase). y.height) b.tree in omega (arith, q.low) in
          let whole : u ++ r ≡ o ∷ (b.inside ++ (c ∷ R)) = cut ∙ ap (λ l. l ++ R) b.cut ∙ ap (λ l. o ∷ l) (closed b.inside c R) in
          let short : length (b.inside ++ (c ∷ R)) < F = omega (arith, ap length whole) in
          let t = first_type p.is tall (c ∷ R) short (before_paren c R b.shuts) in
          let cut2 : b.inside ++ (c ∷ R) ≡ t.front ++ (t.back ++ (c ∷ R)) = ap (λ l. l ++ (c ∷ R)) t.cut ∙ append_assoc t.front t.back (c ∷ R) in
          let short2 : length (t.front ++ (t.back ++ (c ∷ R))) < F = omega (arith, ap length cut2) in
          let at_open : start u ≡ o.place = sym place ∙ ap start b.cut in
          ap (parse.either_at leaves types F n B) (whole ∙ ap (λ l. o ∷ l) cut2)
          ∙ step_either_paren o (t.front ++ (t.back ++ (c ∷ R))) b.opens
          ∙ step_inner_type o.place (t.front ++ (t.back ++ (c ∷ R))) (t.back ++ (c ∷ R)) R r (t.first, t.low) q.first x h (type_begins leaves types F t.is (t.back ++ (c ∷ R))) (nat_lt_is 0 n (omega arith))
          (inner.part_type true t.front t.first t.low t.is (omega (arith, t.lower)) (t.back ++ (c ∷ R)) short2 t.after)
          (step_parts leaves types F n true o.place c (t.back ++ (c ∷ R)) R (t.first, t.low) b.types_are b.high (whole_types t (not_comma_paren c R b.shuts)) p.two b.shuts ∙ ap (λ y. Ok (y, R)) (sym b.tree))
          (ap (λ z. parse.type_after leaves types F n B z q.first R) (sym at_open) ∙ q.fin)

  -- the first number, name or parenthesis of a bound
  record FirstPrim (u : List Token) (h : ℕ) : Type 0 where
    front : List Token
    back : List Token
    first : Bound
    low : ℕ
    is : IsBoundPrim leaves types front first low
    lower : low ≤ h
    cut : u ≡ front ++ back

  longer_prim : (u w : List Token) (h i : ℕ) → h ≤ i → FirstPrim u h → FirstPrim (u ++ w) i
  longer_prim u w h i l q = record { front = q.front; back = q.back ++ w; first = q.first; low = q.low; is = q.is; lower = omega (arith, q.lower); cut = ap (λ m. m ++ w) q.cut ∙ append_assoc q.front q.back w }

  term_prim : {u : List Token} {x : Bound} {h : ℕ} → IsBoundTerm leaves types u x h → FirstPrim u h
  term_prim (rules.prim {u = u} {x = x} {h = h} d) = record { front = u; back = []; first = x; low = h; is = d; lower = omega arith; cut = sym (append-nil u) }
  term_prim (rules.product t {u = u} {v = v} {h = h} {i = i} d c a) = longer_prim u (t ∷ v) h (max h i) (omega arith) (term_prim d)

  first_prim : {u : List Token} {x : Bound} {h : ℕ} → IsBound leaves types u x h → FirstPrim u h
  first_prim (rules.term d) = term_prim d
  first_prim (rules.sum t {u = u} {v = v} {h = h} {i = i} d c a) = longer_prim u (t ∷ v) h (max h i) (omega arith) (first_prim d)

  step_prim : (m : ℕ) (ts r : List Token) (y : SizedBound) → parse.bound_prim leaves types F m (bound_below leaves types F m) ts ≡ Ok (y, r) → bound leaves types F m ts ≡ parse.bound_after leaves types F m (bound_below leaves types F m) (start ts) y r
  unfolding bound parse.bound_at parse.bound_term parse.bound_after
  step_prim m ts r y e = rw e refl

  number_kind : (t : Token) (ts : List Token) → t.kind ≡ k.Number → same_kind (kind (t ∷ ts)) k.LeftParen ≡ false
  unfolding kind same_kind
  number_kind t ts c = rw c refl

  name_kind : (t : Token) (ts : List Token) → t.kind ≡ k.Name → same_kind (kind (t ∷ ts)) k.LeftParen ≡ false
  unfolding kind same_kind
  name_kind t ts c = rw c refl

  closes_paren : (c : Token) (r : List Token) → c.kind ≡ k.RightParen → FollowBound (c ∷ r)
  closes_paren c r e = follow_closing (c ∷ r) k.RightParen (kind_of c r k.RightParen e) refl refl

  -- a bound in parentheses, with what stands behind them
  paren_c : (u rest r : List Token) (x y : Bound) (h j : ℕ) → IsBoundPrim leaves types u y j → j ≤ n + 1 → length (u ++ rest) < F → same_kind (kind (u ++ rest)) k.LeftParen ≡ true
      → parse.bound_after leaves types F (n + 1) (bound_below leaves types F (n + 1)) (start (u ++ rest)) (y, j) rest ≡ Ok ((x, h), r) → parse.either_at leaves types F n B (u ++ rest) ≡ Ok ((part.Bound x, h), r)
  paren_c u rest r x y h j (number t c) hj s g e = absurd (let z : true ≡ false = sym g ∙ number_kind t rest c in let w : ⊥ = cc in w)
  paren_c u rest r x y h j (name t (rules.other_name c f)) hj s g e = absurd (let z : true ≡ false = sym g ∙ name_kind t rest c in let w : ⊥ = cc in w)
  paren_c u rest r x y h j (paren o c {u = v} {h = i} oc a ec) hj s g e =
      let cut : (o ∷ (v ++ c ∷ [])) ++ rest ≡ o ∷ (v ++ (c ∷ rest)) = ap (λ l. o ∷ l) (closed v c rest) in
      let short : length (v ++ (c ∷ rest)) < F = omega (arith, ap length cut) in
      ap (parse.either_at leaves types F n B) cut ∙ step_either_paren o (v ++ (c ∷ rest)) oc ∙ go short (begins_part types true (v ++ (c ∷ rest))) refl
    where
      go : length (v ++ (c ∷ rest)) < F → (b : Bool) → begins_part types true (v ++ (c ∷ rest)) ≡ b → parse.parenthesis leaves types F n B o.place (v ++ (c ∷ rest)) ≡ Ok ((part.Bound x, h), r)
      go short true b =
          let p = bound_inside true v y i a (omega arith) (c ∷ rest) short (closes_paren c rest ec) b in
          step_inner_bound o.place c (v ++ (c ∷ rest)) rest r y i x h b (nat_lt_is 0 n p.1) p.0 ec e
      go short false b = step_bound_only o.place c (v ++ (c ∷ rest)) rest r y i x h b (whole_bound leaves types F a n (omega arith) (c ∷ rest) short (closes_paren c rest ec)) ec e

  either_bound : {u : List Token} {x : Bound} {h : ℕ} → IsBound leaves types u x h → h ≤ n + 1 → (r : List Token) → length (u ++ r) < F → FollowBound r → parse.either_at leaves types F n B (u ++ r) ≡ Ok ((part.Bound x, h), r)
  either_bound {u} {x} {h} d hn r s f = go (same_kind (kind (u ++ r)) k.LeftParen) refl
    where
      whole : bound leaves types F (n + 1) (u ++ r) ≡ Ok ((x, h), r)
      whole = whole_bound leaves types F d (n + 1) hn r s f

      go : (b : Bool) → same_kind (kind (u ++ r)) k.LeftParen ≡ b → parse.either_at leaves types F n B (u ++ r) ≡ Ok ((part.Bound x, h), r)
      go false g = step_either_bound (u ++ r) r x h (bound_begins leaves types F d r).no_type g whole
      go true g =
          let q = first_prim d in
          let cut : u ++ r ≡ q.front ++ (q.back ++ r) = ap (λ l. l ++ r) q.cut ∙ append_assoc q.front q.back r in
          let short : length (q.front ++ (q.back ++ r)) < F = omega (arith, ap length cut) in
          let prim_is = prim_c leaves types F q.is (n + 1) (omega (arith, q.lower)) (q.back ++ r) short in
          let rest = sym (step_prim (n + 1) (q.front ++ (q.back ++ r)) (q.back ++ r) (q.first, q.low) prim_is) ∙ ap (bound leaves types F (n + 1)) (sym cut) ∙ whole in
          ap (parse.either_at leaves types F n B) cut
          ∙ paren_c q.front (q.back ++ r) r x q.first h q.low q.is (omega (arith, q.lower)) short (subst (λ (l : List Token). same_kind (kind l) k.LeftParen ≡ true) cut g) rest

module _ (leaves : Leaves) (types : List ℕ) (F : ℕ) where
  step_sub : (m : ℕ) (bare : Bool) (ts r : List Token) (x : TypeTree) (h : ℕ) → parse.type_at leaves types F m (below leaves types F m) bare ts ≡ Ok ((x, h), r) → parse.sub_type leaves types F (suc m) (below leaves types F (suc m)) bare ts ≡ Ok ((x, h), r)
  unfolding parse.sub_type below
  step_sub m true ts r x h e = rw e refl
  step_sub m false ts r x h e = rw e refl

  step_word : (m : ℕ) (ts r : List Token) (x : TypeTree) (h : ℕ) → parse.type_at leaves types F m (below leaves types F m) false ts ≡ Ok ((x, h), r) → below leaves types F (suc m) want.WordType ts ≡ Ok ((part.Type x, h), r)
  unfolding below
  step_word m ts r x h e = rw e refl

  step_part : (m : ℕ) (ts : List Token) → below leaves types F (suc m) want.Either ts ≡ parse.either_at leaves types F m (below leaves types F m) ts
  unfolding below
  step_part m ts = refl

  part_c : (m : ℕ) → Inner leaves types F m → (bare : Bool) (u : List Token) (x : TypeTree) (h : ℕ) → IsTypeTree leaves types bare u x h → h ≤ m → (r : List Token) → length (u ++ r) < F → FollowType r → below leaves types F (suc m) (part_wanted bare) (u ++ r) ≡ Ok ((part.Type x, h), r)
  part_c m i true u x h a hn r s f = step_part m (u ++ r) ∙ either_type leaves types F m i a hn r s f
  part_c m i false u x h a hn r s f = step_word m (u ++ r) r x h (type_c leaves types F m i a hn r s f.bracket (λ _ _. f.star))

  pub inner_c : (n : ℕ) → Inner leaves types F n
  inner_c zero = record {
    sub = λ bare u x h a hn r s f. absurd (omega arith);
    part_type = λ bare u x h a hn r s f. absurd (omega arith);
    part_bound = λ u x h a some hn r s f. absurd (omega arith);
  }
  inner_c (suc m) = let i = inner_c m in record {
    sub = λ bare u x h a hn r s f. step_sub m bare (u ++ r) r x h (type_c leaves types F m i a (omega arith) r s f.bracket (λ _ _. f.star));
    part_type = λ bare u x h a hn r s f. part_c m i bare u x h a (omega arith) r s f;
    part_bound = λ u x h a some hn r s f. step_part m (u ++ r) ∙ either_bound leaves types F m i a (omega arith) r s f;
  }

  -- a type of at most that many levels
  pub whole_type : {bare : Bool} {u : List Token} {x : TypeTree} {h : ℕ} → IsTypeTree leaves types bare u x h → (n : ℕ) → h ≤ n → (r : List Token) → length (u ++ r) < F → same_kind (kind r) k.LeftBracket ≡ false → ((takes : Bool) → IsStarred leaves types bare takes u x h → same_kind (kind r) k.Star ≡ false)
      → parse.type_at leaves types F n (below leaves types F n) bare (u ++ r) ≡ Ok ((x, h), r)
  whole_type d n hn r s f g = type_c leaves types F n (inner_c n) d hn r s f g
