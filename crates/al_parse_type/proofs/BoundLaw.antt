-- The parsers of bounds, stars and declarators keep the law, with the languages of the grammar.
use Rattle.std.proofs.Common.{◌≡◌, ℕ, zero, suc, pred, ◌+◌, ◌<◌, ◌≤◌, max, nat_lt, Bool, true, false, if◌then◌else◌, ◌&&◌, not, List, [], ◌∷◌, ◌++◌, length, Option, Some, None, refl, sym, ap, ◌∙◌, subst, arith, rules, append_assoc, append-nil, length-append}
use Rattle.std.proofs.lemmas.Grind.{common_steps}
use denote.Enum.Bare.{same_true}
use Rattle.al_base.specs.declared.place.Place.{Place}
use Rattle.al_lex.specs.contracts.kind.TokenKind.{the_type}
use Rattle.al_lex.specs.declared.kind.TokenKind.{TokenKind}
use Rattle.al_lex.specs.declared.kind.TokenKind.TheVariants as k
use Rattle.al_lex.specs.declared.token.Token.{Token}
use Rattle.al_tree.specs.Words.{start, bound_sum, bound_product}
use Rattle.al_tree.specs.Types.{Leaves, known, name_at, arrays, IsTypeName, type_name, IsOtherName, other_name as is_other, IsBoundPrim, number, name, paren, IsBoundTerm, prim, product, IsBound, term, sum, IsBounds, AreStars, IsDcl, dcl as is_dcl}
use Rattle.al_tree.specs.Types as rules
use Rattle.al_tree.specs.Reading.{Parser, ◌>>=◌, ◌>>◌, pure, refuse, kind, name_number, same_kind, looks, peek, here, take_if, expect}
use Rattle.al_tree.specs.declared.type_tree.BoundOp.{BoundOp}
use Rattle.al_tree.specs.declared.type_tree.Bound.{Bound}
use Rattle.al_tree.specs.declared.type_tree.Bound.TheVariants as b
use Rattle.al_tree.specs.declared.type_tree.Dcl.{Dcl}
use Rattle.al_tree.proofs.Law.{World, Above, Family, Lang, Any, head, Has, Law, token, down, bind, bind_turn, map_law, pure_law, refuse_law, choose, weaken, anywhere, look, kind_local, start_local, start_of, located, take_law, turn_law, expect_law, a_turn, all_turns, all_turns_of, no_turn, relang, view_law, pred_mono, some_pred}
use Rattle.al_parse_type.specs.Parse as parse
use Rattle.al_parse_type.specs.Parse.{SizedBound, sees_other_name, sees_type_name, other_name, bound_below, bound, bounds_from, stars_from, dcl}

abbrev pub always : ℕ → Bool
always n = true

pub kind_is : (a b : TokenKind) → same_kind a b ≡ true → a ≡ b
unfolding same_kind
kind_is a b h = same_true the_type (Prim.search rules) a b h

pub first_kind : (t : Token) (ts : List Token) (kd : TokenKind) → kind (t ∷ ts) ≡ kd → t.kind ≡ kd
unfolding kind
first_kind t ts kd h = h

pub lt_grows : (h m n : ℕ) → m ≤ n → nat_lt h m ≡ true → nat_lt h n ≡ true
lt_grows h m n l e = grind (arith, common_steps)

pub lt_of : (h n : ℕ) → nat_lt h n ≡ true → h < n
lt_of h n e = grind (arith, common_steps)

pub down_fits : (n t : ℕ) → n ≤ t → pred n ≤ t
down_fits zero t h = h
down_fits (suc n) t h = omega arith

-- ---- names

pub and_parts : (x y : Bool) → (x && y) ≡ true → (x ≡ true) × (y ≡ true)
and_parts true y h = (refl, h)
and_parts false y h = absurd (let f : ⊥ = cc in f)

not_true : (x : Bool) → not x ≡ true → x ≡ false
not_true true h = absurd (let f : ⊥ = cc in f)
not_true false h = refl

module _ (leaves : Leaves) (types : List ℕ) where
  pub other_local : (ts ts' : List Token) → head ts ≡ head ts' → sees_other_name types ts ≡ sees_other_name types ts'
  unfolding sees_other_name kind name_number
  other_local [] [] h = refl
  other_local [] (t ∷ ts) h = cc
  other_local (t ∷ ts) [] h = cc
  other_local (t ∷ ts) (s ∷ ss) h = let e : t ≡ s = cc in ap (λ (x : Token). same_kind x.kind k.Name && not (known types x.name)) e

  pub other_is : (t : Token) (ts : List Token) → sees_other_name types (t ∷ ts) ≡ true → IsOtherName leaves types t
  unfolding sees_other_name kind name_number
  other_is t ts h = let p = and_parts (same_kind t.kind k.Name) (not (known types t.name)) h in is_other (kind_is t.kind k.Name p.0) (not_true (known types t.name) p.1)

  -- the language of names, which is not empty where some name is no type's
  pub other_law : {A R : Type 0} {w : World} {G : List Token → Type 0} {Q : Lang A} (f : World → Token → Parser A) → Has Q
      → ((t : Token) → IsOtherName leaves types t → Law R w Any (λ w. f w t) (λ x a. Q (t ∷ x) a))
      → Law R w G (λ w. other_name types >>= f w) Q
  unfolding other_name
  other_law {A} {R} {w} {G} {Q} f h next = look (sees_other_name types) other_local (λ w is ts. Rattle.al_tree.specs.Reading.and_then ((if is then take_if true else refuse) ts) (f w)) h by
    where
      by : (is : Bool) → Law R w (λ ts. G ts × (sees_other_name types ts ≡ is)) (λ w ts. Rattle.al_tree.specs.Reading.and_then ((if is then take_if true else refuse) ts) (f w)) Q
      by true = take_law f always (λ m n l e. e) (λ t. IsOtherName leaves types t) (λ t ts g. other_is t ts g.1) h (λ t c. weaken (λ r. r.0) (next t c))
      by false = refuse_law h

  -- ---- bounds

  abbrev pub LPrim : Lang SizedBound
  LPrim u x = IsBoundPrim leaves types u x.0 x.1

  abbrev pub LTerm : Lang SizedBound
  LTerm u x = IsBoundTerm leaves types u x.0 x.1

  abbrev pub LBound : Lang SizedBound
  LBound u x = IsBound leaves types u x.0 x.1

  one_prim : IsBoundPrim leaves types (token k.Number ∷ []) (b.Number (token k.Number).place (leaves.number (token k.Number))) 0
  one_prim = number (token k.Number) refl

  pub prim_has : Has LPrim
  prim_has = record { word = token k.Number ∷ []; value = (b.Number (token k.Number).place (leaves.number (token k.Number)), 0); is = one_prim }

  pub term_has : Has LTerm
  term_has = record { word = token k.Number ∷ []; value = (b.Number (token k.Number).place (leaves.number (token k.Number)), 0); is = prim one_prim }

  pub bound_has : Has LBound
  bound_has = record { word = token k.Number ∷ []; value = (b.Number (token k.Number).place (leaves.number (token k.Number)), 0); is = term (prim one_prim) }

  pub prim_long : {u : List Token} {x : Bound} {h : ℕ} → IsBoundPrim leaves types u x h → 0 < length u
  prim_long (number t c) = omega arith
  prim_long (name t c) = omega arith
  prim_long (paren o c a d e) = omega arith

  pub term_long : {u : List Token} {x : Bound} {h : ℕ} → IsBoundTerm leaves types u x h → 0 < length u
  term_long (prim d) = prim_long d
  term_long (product t {u = u} {v = v} d a e) = omega (arith, length-append u (t ∷ v))

  pub bound_long : {u : List Token} {x : Bound} {h : ℕ} → IsBound leaves types u x h → 0 < length u
  bound_long (term d) = term_long d
  bound_long (sum t {u = u} {v = v} d a e) = omega (arith, length-append u (t ∷ v))

  pub at_nil : {A : Type 0} (Q : Lang A) (u : List Token) (a : A) → Q u a → Q (u ++ []) a
  at_nil Q u a q = subst (λ l. Q l a) (sym (append-nil u)) q

-- What is known of the parser of bounds in parentheses, at the worlds of one depth.
module _ (leaves : Leaves) (types : List ℕ) (n : ℕ)
    (subs : (R : Type 0) (w : World) → w.depth ≡ n → (R → w.fuel ≤ w.turns) → (R → 0 < w.depth) → Law R w Any (λ w. bound_below leaves types w.turns w.depth) (LBound leaves types)) where
  abbrev S : World → Parser SizedBound
  S w = bound_below leaves types w.turns w.depth

  inside_law : (R : Type 0) (w : World) → w.depth ≡ n → (R → w.fuel ≤ w.turns) → (R → 0 < w.depth) → (o : Token) → o.kind ≡ k.LeftParen
      → Law R w Any (λ w. parse.bound_inside leaves types w.turns w.depth (S w)) (λ v x. IsBoundPrim leaves types (o ∷ v) x.0 x.1)
  unfolding parse.bound_inside
  inside_law R w d fits deep o oc = bind (subs R w d fits deep) (λ u x a.
      expect_law (λ w t. pure (x.0, x.1 + 1)) k.RightParen (λ c e. pure_law (x.0, x.1 + 1) (paren o c oc a e)))

  pub prim_law : (R : Type 0) (w : World) → w.depth ≡ n → (R → w.fuel ≤ w.turns) → Law R w Any (λ w. parse.bound_prim leaves types w.turns w.depth (S w)) (LPrim leaves types)
  unfolding parse.bound_prim
  prim_law R w d fits = look kind kind_local (λ w kd. parse.prim_by leaves types w.turns w.depth (S w) kd) (prim_has leaves types) by
    where
      by : (kd : TokenKind) → Law R w (λ ts. Any ts × (kind ts ≡ kd)) (λ w. parse.prim_by leaves types w.turns w.depth (S w) kd) (LPrim leaves types)
      by k.Number = take_law (λ w t. pure (b.Number t.place (leaves.number t), 0)) always (λ m n l e. e) (λ t. t.kind ≡ k.Number) (λ t ts g. first_kind t ts k.Number g.1) (prim_has leaves types)
          (λ t c. pure_law (b.Number t.place (leaves.number t), 0) (number t c))
      by k.Name = other_law leaves types (λ w t. pure (b.Name t.place t.name, 0)) (prim_has leaves types) (λ t c. pure_law (b.Name t.place t.name, 0) (name t c))
      by k.LeftParen = take_law (λ w t. parse.bound_inside leaves types w.turns w.depth (S w)) (nat_lt 0) (lt_grows 0) (λ t. t.kind ≡ k.LeftParen) (λ t ts g. first_kind t ts k.LeftParen g.1) (prim_has leaves types)
          (λ t c. inside_law (R × (nat_lt 0 w.depth ≡ true)) w d (λ r. fits r.0) (λ r. lt_of 0 w.depth r.1) t c)
      by _ = refuse_law (prim_has leaves types)

  -- one product more, or none, where the loop's next turn keeps the law
  products_turn : (R : Type 0) (w : World) → w.depth ≡ n → (R → w.fuel ≤ w.turns) → (u : List Token) (x : SizedBound) (at : Place) → IsBoundTerm leaves types u x.0 x.1 → start u ≡ at
      → ((v : List Token) (y : SizedBound) → IsBoundTerm leaves types v y.0 y.1 → start v ≡ at → Law (R × (true ≡ true)) (down w) Any (λ w. parse.products_from leaves types w.turns w.depth (S w) w.fuel at y) (λ r z. IsBoundTerm leaves types (v ++ r) z.0 z.1))
      → (kd : TokenKind) (o : Option BoundOp) → bound_product kd ≡ o
      → Law R w (λ ts. Any ts × (kind ts ≡ kd)) (λ w. parse.product_by leaves types w.turns w.depth (S w) (parse.products_from leaves types w.turns w.depth (S w) (pred w.fuel) at) at x o) (λ v y. IsBoundTerm leaves types (u ++ v) y.0 y.1)
  products_turn R w d fits u x at l s rec kd None is = pure_law x (at_nil leaves types (LTerm leaves types) u x l)
  products_turn R w d fits u x at l s rec kd (Some op) is =
      turn_law (λ w t. parse.bound_prim leaves types w.turns w.depth (S w) >>= (λ y. parse.products_from leaves types w.turns w.depth (S w) w.fuel at (b.Binary at op x.0 y.0, max x.1 y.1))) always (λ m n l e. e)
      (λ t. bound_product t.kind ≡ Some op) (λ t ts g. ap bound_product (first_kind t ts kd g.1) ∙ is) (record { word = []; value = x; is = at_nil leaves types (LTerm leaves types) u x l })
      (λ t c. bind (prim_law (R × (true ≡ true)) (down w) d (λ r. down_fits w.fuel w.turns (fits r.0))) (λ v y a.
      relang (λ r z i. subst (λ q. IsBoundTerm leaves types q z.0 z.1) (append_assoc u (t ∷ v) r) i)
      (rec (u ++ t ∷ v) (b.Binary at op x.0 y.0, max x.1 y.1)
      (subst (λ p. IsBoundTerm leaves types (u ++ t ∷ v) (b.Binary p op x.0 y.0) (max x.1 y.1)) s (product t l c a))
      (start_of u (t ∷ v) (term_long leaves types l) ∙ s))))

  -- products after a term that begins at that place
  pub products_law : (R : Type 0) (m : ℕ) (w : World) → w.fuel ≡ m → w.depth ≡ n → (R → w.fuel ≤ w.turns) → (u : List Token) (x : SizedBound) (at : Place) → IsBoundTerm leaves types u x.0 x.1 → start u ≡ at
      → Law R w Any (λ w. parse.products_from leaves types w.turns w.depth (S w) w.fuel at x) (λ v y. IsBoundTerm leaves types (u ++ v) y.0 y.1)
  unfolding parse.products_from
  products_law R zero w e d fits u x at l s = no_turn e (record { word = []; value = x; is = at_nil leaves types (LTerm leaves types) u x l })
  products_law R (suc m) w e d fits u x at l s =
      a_turn (λ i w. parse.products_from leaves types w.turns w.depth (S w) i at x) m e
      (look kind kind_local (λ w next. parse.product_by leaves types w.turns w.depth (S w) (parse.products_from leaves types w.turns w.depth (S w) (pred w.fuel) at) at x (bound_product next))
      (record { word = []; value = x; is = at_nil leaves types (LTerm leaves types) u x l })
      (λ next. products_turn R w d fits u x at l s (λ v y a sv. products_law (R × (true ≡ true)) m (down w) (ap pred e) d (λ r. down_fits w.fuel w.turns (fits r.0)) v y at a sv) next (bound_product next) refl))

  -- the language of what begins at that place
  at_place : (at : Place) → Has (λ u a. LPrim leaves types u a × (start u ≡ at))
  at_place at = let t = Rattle.al_tree.proofs.Law.token_at at k.Number in record { word = t ∷ []; value = (b.Number at (leaves.number t), 0); is = (number t refl, refl) }

  pub term_law : (R : Type 0) (w : World) → w.depth ≡ n → (R → w.fuel ≤ w.turns) → Law R w Any (λ w. parse.bound_term leaves types w.turns w.depth (S w)) (LTerm leaves types)
  unfolding parse.bound_term
  term_law R w d fits = look start start_local (λ w at. parse.bound_prim leaves types w.turns w.depth (S w) >>= (λ x. parse.products_from leaves types w.turns w.depth (S w) w.turns at x)) (term_has leaves types)
      (λ at. bind (located at (λ u a q. prim_long leaves types q) (at_place at) (prim_law R w d fits)) (λ u x a.
      all_turns fits (λ i w. parse.products_from leaves types w.turns w.depth (S w) i at x)
      (products_law (w.fuel ≤ w.turns) w.turns (record w { fuel = w.turns }) refl d (λ r. omega arith) u x at (prim a.0) a.1)))

  sums_turn : (R : Type 0) (w : World) → w.depth ≡ n → (R → w.fuel ≤ w.turns) → (u : List Token) (x : SizedBound) (at : Place) → IsBound leaves types u x.0 x.1 → start u ≡ at
      → ((v : List Token) (y : SizedBound) → IsBound leaves types v y.0 y.1 → start v ≡ at → Law (R × (true ≡ true)) (down w) Any (λ w. parse.sums_from leaves types w.turns w.depth (S w) w.fuel at y) (λ r z. IsBound leaves types (v ++ r) z.0 z.1))
      → (kd : TokenKind) (o : Option BoundOp) → bound_sum kd ≡ o
      → Law R w (λ ts. Any ts × (kind ts ≡ kd)) (λ w. parse.sum_by leaves types w.turns w.depth (S w) (parse.sums_from leaves types w.turns w.depth (S w) (pred w.fuel) at) at x o) (λ v y. IsBound leaves types (u ++ v) y.0 y.1)
  sums_turn R w d fits u x at l s rec kd None is = pure_law x (at_nil leaves types (LBound leaves types) u x l)
  sums_turn R w d fits u x at l s rec kd (Some op) is =
      turn_law (λ w t. parse.bound_term leaves types w.turns w.depth (S w) >>= (λ y. parse.sums_from leaves types w.turns w.depth (S w) w.fuel at (b.Binary at op x.0 y.0, max x.1 y.1))) always (λ m n l e. e)
      (λ t. bound_sum t.kind ≡ Some op) (λ t ts g. ap bound_sum (first_kind t ts kd g.1) ∙ is) (record { word = []; value = x; is = at_nil leaves types (LBound leaves types) u x l })
      (λ t c. bind (term_law (R × (true ≡ true)) (down w) d (λ r. down_fits w.fuel w.turns (fits r.0))) (λ v y a.
      relang (λ r z i. subst (λ q. IsBound leaves types q z.0 z.1) (append_assoc u (t ∷ v) r) i)
      (rec (u ++ t ∷ v) (b.Binary at op x.0 y.0, max x.1 y.1)
      (subst (λ p. IsBound leaves types (u ++ t ∷ v) (b.Binary p op x.0 y.0) (max x.1 y.1)) s (sum t l c a))
      (start_of u (t ∷ v) (bound_long leaves types l) ∙ s))))

  pub sums_law : (R : Type 0) (m : ℕ) (w : World) → w.fuel ≡ m → w.depth ≡ n → (R → w.fuel ≤ w.turns) → (u : List Token) (x : SizedBound) (at : Place) → IsBound leaves types u x.0 x.1 → start u ≡ at
      → Law R w Any (λ w. parse.sums_from leaves types w.turns w.depth (S w) w.fuel at x) (λ v y. IsBound leaves types (u ++ v) y.0 y.1)
  unfolding parse.sums_from
  sums_law R zero w e d fits u x at l s = no_turn e (record { word = []; value = x; is = at_nil leaves types (LBound leaves types) u x l })
  sums_law R (suc m) w e d fits u x at l s =
      a_turn (λ i w. parse.sums_from leaves types w.turns w.depth (S w) i at x) m e
      (look kind kind_local (λ w next. parse.sum_by leaves types w.turns w.depth (S w) (parse.sums_from leaves types w.turns w.depth (S w) (pred w.fuel) at) at x (bound_sum next))
      (record { word = []; value = x; is = at_nil leaves types (LBound leaves types) u x l })
      (λ next. sums_turn R w d fits u x at l s (λ v y a sv. sums_law (R × (true ≡ true)) m (down w) (ap pred e) d (λ r. down_fits w.fuel w.turns (fits r.0)) v y at a sv) next (bound_sum next) refl))

  term_place : (at : Place) → Has (λ u a. LTerm leaves types u a × (start u ≡ at))
  term_place at = let t = Rattle.al_tree.proofs.Law.token_at at k.Number in record { word = t ∷ []; value = (b.Number at (leaves.number t), 0); is = (prim (number t refl), refl) }

  pub bound_at_law : (R : Type 0) (w : World) → w.depth ≡ n → (R → w.fuel ≤ w.turns) → Law R w Any (λ w. parse.bound_at leaves types w.turns w.depth (S w)) (LBound leaves types)
  unfolding parse.bound_at
  bound_at_law R w d fits = look start start_local (λ w at. parse.bound_term leaves types w.turns w.depth (S w) >>= (λ x. parse.sums_from leaves types w.turns w.depth (S w) w.turns at x)) (bound_has leaves types)
      (λ at. bind (located at (λ u a q. term_long leaves types q) (term_place at) (term_law R w d fits)) (λ u x a.
      all_turns fits (λ i w. parse.sums_from leaves types w.turns w.depth (S w) i at x)
      (sums_law (w.fuel ≤ w.turns) w.turns (record w { fuel = w.turns }) refl d (λ r. omega arith) u x at (term a.0) a.1)))

  -- a bound that begins with a term
  pub bound_after_law : (R : Type 0) (w : World) → w.depth ≡ n → (R → w.fuel ≤ w.turns) → (u : List Token) (x : SizedBound) (at : Place) → IsBoundTerm leaves types u x.0 x.1 → start u ≡ at
      → Law R w Any (λ w. parse.bound_after leaves types w.turns w.depth (S w) at x) (λ v y. IsBound leaves types (u ++ v) y.0 y.1)
  unfolding parse.bound_after
  bound_after_law R w d fits u x at a s = bind (all_turns fits (λ i w. parse.products_from leaves types w.turns w.depth (S w) i at x) (products_law (w.fuel ≤ w.turns) w.turns (record w { fuel = w.turns }) refl d (λ r. omega arith) u x at a s)) (λ v y b.
      relang (λ r z i. subst (λ q. IsBound leaves types q z.0 z.1) (append_assoc u v r) i)
      (all_turns fits (λ i w. parse.sums_from leaves types w.turns w.depth (S w) i at y)
      (sums_law (w.fuel ≤ w.turns) w.turns (record w { fuel = w.turns }) refl d (λ r. omega arith) (u ++ v) y at (term b) (start_of u v (term_long leaves types a) ∙ s))))

-- one level lower
abbrev pub lower : World → World
lower w = record w { depth = pred w.depth }

pub lower_above : (w w' : World) → Above w w' → Above (lower w) (lower w')
lower_above w w' ab = record { fuel = ab.fuel; turns = ab.turns; depth = pred_mono w.depth w'.depth ab.depth }

-- one level higher
abbrev pub higher : World → World
higher w = record w { depth = w.depth + 1 }

pub higher_above : (w w' : World) → Above w w' → Above (higher w) (higher w')
higher_above w w' ab = record { fuel = ab.fuel; turns = ab.turns; depth = let h : w.depth ≤ w'.depth = ab.depth in omega arith }

module _ (leaves : Leaves) (types : List ℕ) where
  pub below_law : (n : ℕ) (R : Type 0) (w : World) → w.depth ≡ n → (R → w.fuel ≤ w.turns) → (R → 0 < w.depth) → Law R w Any (λ w. bound_below leaves types w.turns w.depth) (LBound leaves types)
  unfolding bound_below
  below_law zero R w d fits deep = record { run = λ r. absurd (let h : 0 < w.depth = deep r in omega arith); has = bound_has leaves types }
  below_law (suc n) R w d fits deep =
      view_law lower (λ w' ab. lower_above w w' ab) (λ w' ab same. ap pred same) (λ r. r) (λ r. omega arith)
      (λ w' ab ts. ap (λ m. bound_below leaves types w'.turns m ts) (some_pred w'.depth n (omega (arith, ab.depth))))
      (bound_at_law leaves types n (λ R' w2 d2 f2 p2. below_law n R' w2 d2 f2 p2) R (lower w) (ap pred d) fits)

  -- a bound of at most the world's levels
  pub bound_law : (R : Type 0) (w : World) → (R → w.fuel ≤ w.turns) → Law R w Any (λ w. bound leaves types w.turns w.depth) (LBound leaves types)
  unfolding bound
  bound_law R w fits = bound_at_law leaves types w.depth (λ R' w2 d2 f2 p2. below_law w.depth R' w2 d2 f2 p2) R w refl fits

  -- the same with one level more than the world has
  pub higher_bound_law : (R : Type 0) (w : World) → (R → w.fuel ≤ w.turns) → Law R w Any (λ w. bound leaves types w.turns (w.depth + 1)) (LBound leaves types)
  higher_bound_law R w fits = view_law higher (λ w' ab. higher_above w w' ab) (λ w' ab same. ap (λ m. m + 1) same) (λ r. r) (λ r. omega arith) (λ w' ab ts. refl) (bound_law R (higher w) fits)

  pub higher_after_law : (R : Type 0) (w : World) → (R → w.fuel ≤ w.turns) → (u : List Token) (x : SizedBound) (at : Place) → IsBoundTerm leaves types u x.0 x.1 → start u ≡ at
      → Law R w Any (λ w. parse.bound_after leaves types w.turns (w.depth + 1) (bound_below leaves types w.turns (w.depth + 1)) at x) (λ v y. IsBound leaves types (u ++ v) y.0 y.1)
  higher_after_law R w fits u x at a s = view_law higher (λ w' ab. higher_above w w' ab) (λ w' ab same. ap (λ m. m + 1) same) (λ r. r) (λ r. omega arith) (λ w' ab ts. refl)
      (bound_after_law leaves types (w.depth + 1) (λ R' w2 d2 f2 p2. below_law (w.depth + 1) R' w2 d2 f2 p2) R (higher w) refl fits u x at a s)

  -- ---- bounds in brackets, stars, declarators

  abbrev pub LBounds : Lang (List Bound × ℕ)
  LBounds u x = IsBounds leaves types u x.0 x.1

  pub bounds_law : (R : Type 0) (m : ℕ) (w : World) → w.fuel ≡ m → (R → w.fuel ≤ w.turns) → (u : List Token) (xs : List Bound) (h : ℕ) → IsBounds leaves types u xs h
      → Law R w Any (λ w. bounds_from leaves types w.turns w.depth w.fuel xs h) (λ v y. IsBounds leaves types (u ++ v) y.0 y.1)
  unfolding bounds_from
  bounds_law R zero w e fits u xs h l = no_turn e (record { word = []; value = (xs, h); is = at_nil leaves types LBounds u (xs, h) l })
  bounds_law R (suc m) w e fits u xs h l =
      let end : IsBounds leaves types (u ++ []) xs h = at_nil leaves types LBounds u (xs, h) l in
      a_turn (λ i w. bounds_from leaves types w.turns w.depth i xs h) m e
      (look kind kind_local (λ w next. if same_kind next k.LeftBracket then (take_if true >>= (λ _. bound leaves types w.turns w.depth >>= (λ x. expect k.RightBracket >>= (λ _. bounds_from leaves types w.turns w.depth (pred w.fuel) (xs ++ x.0 ∷ []) (max h x.1))))) else pure (xs, h))
      (record { word = []; value = (xs, h); is = end })
      (λ next. choose (same_kind next k.LeftBracket)
      (λ yes. turn_law (λ w t. bound leaves types w.turns w.depth >>= (λ x. expect k.RightBracket >>= (λ _. bounds_from leaves types w.turns w.depth w.fuel (xs ++ x.0 ∷ []) (max h x.1)))) always (λ m n l e. e) (λ t. t.kind ≡ k.LeftBracket) (λ t ts g. first_kind t ts next g.1 ∙ kind_is next k.LeftBracket yes)
      (record { word = []; value = (xs, h); is = end })
      (λ o oc. bind (bound_law (R × (true ≡ true)) (down w) (λ r. down_fits w.fuel w.turns (fits r.0))) (λ v x a.
      expect_law (λ w c. bounds_from leaves types w.turns w.depth w.fuel (xs ++ x.0 ∷ []) (max h x.1)) k.RightBracket (λ c ec.
      relang (λ v2 y i. subst (λ q. IsBounds leaves types q y.0 y.1) (append_assoc u (o ∷ (v ++ c ∷ [])) v2 ∙ ap (λ q. u ++ o ∷ q) (append_assoc v (c ∷ []) v2)) i)
      (bounds_law (R × (true ≡ true)) m (down w) (ap pred e) (λ r. down_fits w.fuel w.turns (fits r.0)) (u ++ o ∷ (v ++ c ∷ [])) (xs ++ x.0 ∷ []) (max h x.1) (rules.more o c l oc a ec))))))
      (λ not. pure_law (xs, h) end)))

  abbrev pub LStars : Lang ℕ
  LStars u x = AreStars leaves types u x

  pub stars_law : (R : Type 0) (m : ℕ) (w : World) → w.fuel ≡ m → (u : List Token) (x : ℕ) → AreStars leaves types u x → Law R w Any (λ w. stars_from w.fuel x) (λ v y. AreStars leaves types (u ++ v) y)
  unfolding stars_from
  stars_law R zero w e u x d = no_turn e (record { word = []; value = x; is = at_nil leaves types LStars u x d })
  stars_law R (suc m) w e u x d = a_turn (λ i w. stars_from i x) m e
      (look kind kind_local (λ w next. if same_kind next k.Star then (take_if true >>= (λ _. stars_from (pred w.fuel) (x + 1))) else pure x) (record { word = []; value = x; is = at_nil leaves types LStars u x d })
      (λ next. choose (same_kind next k.Star)
      (λ yes. turn_law (λ w t. stars_from w.fuel (x + 1)) always (λ m n l e. e) (λ t. t.kind ≡ k.Star) (λ t ts g. first_kind t ts next g.1 ∙ kind_is next k.Star yes) (record { word = []; value = x; is = at_nil leaves types LStars u x d })
      (λ t c. relang (λ v y i. subst (λ l. AreStars leaves types l y) (append_assoc u (t ∷ []) v) i)
      (stars_law (R × (true ≡ true)) m (down w) (ap pred e) (u ++ t ∷ []) (x + 1) (rules.more t d c))))
      (λ not. pure_law x (at_nil leaves types LStars u x d))))

-- ---- a name that no type has

list_sum : List ℕ → ℕ
list_sum [] = 0
list_sum (n ∷ ns) = n + list_sum ns

fresh : List ℕ → ℕ
fresh types = list_sum types + 1

equal_not : (m n : ℕ) → n < m → Rattle.std.specs.Prelude.◌==◌ m n ≡ false
equal_not m n h = grind (arith, common_steps)

fresh_above : (m : ℕ) (types : List ℕ) → list_sum types < m → known types m ≡ false
unfolding list_sum
fresh_above m [] h = refl
fresh_above m (n ∷ ns) h = let e : Rattle.std.specs.Prelude.◌==◌ m n ≡ false = equal_not m n (omega arith) in let f = fresh_above m ns (omega arith) in rw (e, f) refl

-- a token of that name at a place
pub fresh_token : List ℕ → Place → Token
fresh_token types at = record { kind = k.Name; name = fresh types; from = 0; to = 0; place = at }

pub fresh_place : (types : List ℕ) (at : Place) → (fresh_token types at).place ≡ at
unfolding fresh_token
fresh_place types at = refl

pub fresh_is : (leaves : Leaves) (types : List ℕ) (at : Place) → IsOtherName leaves types (fresh_token types at)
unfolding fresh_token fresh
fresh_is leaves types at = is_other refl (fresh_above (fresh types) types (omega arith))

-- ---- declarators

module _ (leaves : Leaves) (types : List ℕ) where
  abbrev pub SizedDcl : Type 0
  SizedDcl = Dcl × ℕ

  abbrev pub LDcl : Lang SizedDcl
  LDcl u x = IsDcl leaves types u x.0 x.1

  abbrev dcl_of : Place → ℕ → Token → List Bound → Dcl
  dcl_of at n t xs = record { at = at; stars = n; name = name_at t; bounds = xs }

  -- a declarator whose place is told apart
  record DclAt (at : Place) (u : List Token) (x : SizedDcl) : Type 0 where
    place : x.0.at ≡ at
    is : IsDcl leaves types u (dcl_of (start u) x.0.stars (record { kind = k.Name; name = x.0.name.name; from = 0; to = 0; place = x.0.name.at }) x.0.bounds) x.1

  dcl_at : (at : Place) (s : List Token) (n : ℕ) (t : Token) (v : List Token) (xs : List Bound) (h : ℕ) → AreStars leaves types s n → IsOtherName leaves types t → IsBounds leaves types v xs h
      → DclAt at (s ++ (t ∷ v)) (dcl_of at n t xs, h)
  dcl_at at s n t v xs h a c d = record {
    place = refl;
    is = subst (λ p. IsDcl leaves types (s ++ t ∷ v) (dcl_of p n t xs) h) (sym (ap start (sym (append_assoc s (t ∷ []) v)) ∙ start_of (s ++ t ∷ []) v (omega (arith, length-append s (t ∷ []))))) (is_dcl t a c d);
  }

  dcl_is : (at : Place) (u : List Token) (x : SizedDcl) → DclAt at u x → start u ≡ at → IsDcl leaves types u x.0 x.1
  dcl_is at u x d s = subst (λ p. IsDcl leaves types u (dcl_of p x.0.stars (record { kind = k.Name; name = x.0.name.name; from = 0; to = 0; place = x.0.name.at }) x.0.bounds) x.1) (s ∙ sym d.place) d.is

  dcl_long : (at : Place) (u : List Token) (x : SizedDcl) → DclAt at u x → 0 < length u
  dcl_long at u x d = long d.is
    where
      long : {u : List Token} {y : Dcl} {h : ℕ} → IsDcl leaves types u y h → 0 < length u
      long (is_dcl t {u = s} {v = v} a c b) = omega (arith, length-append s (t ∷ v))

  dcl_place : (at : Place) → Has (λ u a. DclAt at u a × (start u ≡ at))
  dcl_place at = let t = fresh_token types at in record { word = t ∷ []; value = (dcl_of at 0 t [], 0); is = (dcl_at at [] 0 t [] [] 0 rules.none (fresh_is leaves types at) rules.none, fresh_place types at) }

  pub dcl_has : Has LDcl
  dcl_has = let t = fresh_token types (start []) in record { word = t ∷ []; value = (dcl_of (fresh_token types (start [])).place 0 t [], 0); is = is_dcl t rules.none (fresh_is leaves types (start [])) rules.none }

  dcl_inner : (at : Place) (R : Type 0) (w : World) → (R → w.fuel ≤ w.turns)
      → Law R w Any (λ w. stars_from w.turns 0 >>= (λ n. other_name types >>= (λ t. bounds_from leaves types w.turns w.depth w.turns [] 0 >>= (λ bs. pure (dcl_of at n t bs.0, bs.1))))) (DclAt at)
  dcl_inner at R w fits =
      bind (all_turns fits (λ i w. stars_from i 0) (stars_law leaves types (w.fuel ≤ w.turns) w.turns (record w { fuel = w.turns }) refl [] 0 rules.none)) (λ s n a.
      other_law leaves types (λ w t. bounds_from leaves types w.turns w.depth w.turns [] 0 >>= (λ bs. pure (dcl_of at n t bs.0, bs.1)))
      (record { word = fresh_token types at ∷ []; value = (dcl_of at n (fresh_token types at) [], 0); is = dcl_at at s n (fresh_token types at) [] [] 0 a (fresh_is leaves types at) rules.none })
      (λ t c. map_law (λ bs. (dcl_of at n t bs.0, bs.1))
      (all_turns fits (λ i w. bounds_from leaves types w.turns w.depth i [] 0) (bounds_law leaves types (w.fuel ≤ w.turns) w.turns (record w { fuel = w.turns }) refl (λ r. omega arith) [] [] 0 rules.none))
      (λ v bs d. dcl_at at s n t v bs.0 bs.1 a c d)))

  pub dcl_law : (R : Type 0) (w : World) → (R → w.fuel ≤ w.turns) → Law R w Any (λ w. dcl leaves types w.turns w.depth) LDcl
  unfolding dcl
  dcl_law R w fits = look start start_local (λ w at. stars_from w.turns 0 >>= (λ n. other_name types >>= (λ t. bounds_from leaves types w.turns w.depth w.turns [] 0 >>= (λ bs. pure (dcl_of at n t bs.0, bs.1))))) dcl_has
      (λ at. relang (λ u a q. dcl_is at u a q.0 q.1) (located at (λ u a q. dcl_long at u a q) (dcl_place at) (dcl_inner at R w fits)))
