-- The parsers of constants of enums and of initializers keep the law.
use Rattle.std.proofs.Common.{◌≡◌, ℕ, zero, suc, pred, ◌+◌, ◌<◌, ◌≤◌, max, nat_lt, true, if◌then◌else◌, List, [], ◌∷◌, ◌++◌, Some, None, refl, sym, ap, ◌∙◌, subst, arith, append_assoc}
use Rattle.al_base.specs.declared.place.Place.{Place}
use Rattle.al_lex.specs.declared.kind.TokenKind.TheVariants as k
use Rattle.al_lex.specs.declared.token.Token.{Token}
use Rattle.al_tree.specs.Words.{start}
use Rattle.al_tree.specs.Types.{Leaves, name_at}
use Rattle.al_tree.specs.Items.{IsInitializer, IsInitializers, IsConstant, bare, set, IsConstants, IsEnumBody}
use Rattle.al_tree.specs.Items as items
use Rattle.al_tree.specs.Reading.{Parser, ◌>>=◌, pure, refuse, kind, same_kind, peek, take_if, expect}
use Rattle.al_tree.specs.declared.item.Initializer.{Initializer}
use Rattle.al_tree.specs.declared.item.Initializer.TheVariants as ini
use Rattle.al_tree.specs.declared.item.Constant.{Constant}
use Rattle.al_tree.proofs.Law.{World, Family, Lang, Any, Has, Law, token, down, bind, map_law, pure_law, choose, anywhere, look, kind_local, take_law, turn_law, expect_law, a_turn, all_turns, all_turns_of, no_turn, relang, view_law, some_pred}
use Rattle.al_parse_type.proofs.BoundLaw.{always, kind_is, first_kind, lt_grows, lt_of, down_fits, other_law, fresh_token, fresh_is, lower, lower_above}
use Rattle.al_parse_expr.specs.Within.{assignment_within}
use Rattle.al_parse_expr.proofs.Begins.{one_at, one_tree, one_asg}
use Rattle.al_parse_expr.proofs.ExprLaw.{LAsg, within_law}
use Rattle.al_parse_member.specs.Members as parse
use Rattle.al_parse_member.specs.Members.{Constants, SizedInitializer}

abbrev nowhere : Place
nowhere = start []

-- ---- a comma and what goes on, or the brace that closes

abbrev shut : {A : Type 0} → A → Parser A → Parser A
shut xs go = peek >>= (λ comma. if same_kind comma k.Comma then (take_if true >>= (λ _. peek >>= (λ next. if same_kind next k.RightBrace then (take_if true >>= (λ _. pure xs)) else go))) else (expect k.RightBrace >>= (λ _. pure xs)))

shut_law : {A R : Type 0} {w : World} {Q : Lang A} (xs : A) (go : Family A) → ((c : Token) → c.kind ≡ k.RightBrace → Q (c ∷ []) xs) → ((t c : Token) → t.kind ≡ k.Comma → c.kind ≡ k.RightBrace → Q (t ∷ c ∷ []) xs)
    → ((t : Token) → t.kind ≡ k.Comma → Law (R × (true ≡ true)) (down w) Any go (λ v y. Q (t ∷ v) y)) → Law R w Any (λ w. shut xs (go (down w))) Q
shut_law {Q = Q} xs go closes ends again =
    let end : Has Q = record { word = token k.RightBrace ∷ []; value = xs; is = closes (token k.RightBrace) refl } in
    look kind kind_local (λ w comma. if same_kind comma k.Comma then (take_if true >>= (λ _ us. (if same_kind (kind us) k.RightBrace then (take_if true >>= (λ _. pure xs)) else go (down w)) us)) else (expect k.RightBrace >>= (λ _. pure xs))) end
    (λ comma. choose (same_kind comma k.Comma)
    (λ yes. turn_law (λ w t us. (if same_kind (kind us) k.RightBrace then (take_if true >>= (λ _. pure xs)) else go w) us) always (λ m n l e. e) (λ t. t.kind ≡ k.Comma) (λ t ts g. first_kind t ts comma g.1 ∙ kind_is comma k.Comma yes) end
    (λ t tc.
    let closed : Has (λ v y. Q (t ∷ v) y) = record { word = token k.RightBrace ∷ []; value = xs; is = ends t (token k.RightBrace) tc refl } in
    look kind kind_local (λ w next. if same_kind next k.RightBrace then (take_if true >>= (λ _. pure xs)) else go w) closed
    (λ next. choose (same_kind next k.RightBrace)
    (λ yes2. take_law (λ w c. pure xs) always (λ m n l e. e) (λ c. c.kind ≡ k.RightBrace) (λ c ts g. first_kind c ts next g.1 ∙ kind_is next k.RightBrace yes2) closed (λ c ec. pure_law xs (ends t c tc ec)))
    (λ no2. anywhere (again t tc)))))
    (λ no. expect_law (λ w c. pure xs) k.RightBrace (λ c ec. pure_law xs (closes c ec))))

module _ (leaves : Leaves) (types : List ℕ) where
  pub asgs : (R : Type 0) (w : World) → (R → w.fuel ≤ w.turns) → Law R w Any (λ w. assignment_within leaves types w.turns w.depth) (LAsg leaves types)
  asgs R w fits = within_law leaves types w.depth R w refl fits _ tt

  -- ---- constants

  abbrev pub LEnum : Lang Constants
  LEnum u x = IsEnumBody leaves types u x.0 x.1

  constant_law : (R : Type 0) (w : World) → (R → w.fuel ≤ w.turns) → Law R w Any (λ w. parse.constant leaves types w.turns w.depth) (λ u (x : Constant × ℕ). IsConstant leaves types u x.0 x.1)
  unfolding parse.constant
  constant_law R w fits =
      let m = fresh_token types nowhere in
      other_law leaves types (λ w t us. (if same_kind (kind us) k.Equal then (take_if (nat_lt 0 w.depth) >>= (λ _. assignment_within leaves types w.turns w.depth >>= (λ x. pure (record { name = name_at t; value = Some x.0 }, x.1)))) else pure (record { name = name_at t; value = None }, 0)) us)
      (record { word = m ∷ []; value = (record { name = name_at m; value = None }, 0); is = bare m (fresh_is leaves types nowhere) })
      (λ t c.
      let end : Has (λ v (x : Constant × ℕ). IsConstant leaves types (t ∷ v) x.0 x.1) = record { word = []; value = (record { name = name_at t; value = None }, 0); is = bare t c } in
      look kind kind_local (λ w next. if same_kind next k.Equal then (take_if (nat_lt 0 w.depth) >>= (λ _. assignment_within leaves types w.turns w.depth >>= (λ x. pure (record { name = name_at t; value = Some x.0 }, x.1)))) else pure (record { name = name_at t; value = None }, 0)) end
      (λ next. choose (same_kind next k.Equal)
      (λ yes. take_law (λ w e. assignment_within leaves types w.turns w.depth >>= (λ x. pure (record { name = name_at t; value = Some x.0 }, x.1))) (nat_lt 0) (lt_grows 0) (λ e. e.kind ≡ k.Equal) (λ e ts g. first_kind e ts next g.1 ∙ kind_is next k.Equal yes) end
      (λ e ec. map_law (λ x. (record { name = name_at t; value = Some x.0 }, x.1)) (asgs (R × (nat_lt 0 w.depth ≡ true)) w (λ r. fits r.0)) (λ u x a. set t e c ec a)))
      (λ no. pure_law (record { name = name_at t; value = None }, 0) (bare t c))))

  -- what stands before the next constant: nothing, or constants and a comma
  data IsFound : List Token → List Constant → ℕ → Type 0 where
    nothing : IsFound [] [] 0
    behind : (t : Token) {u : List Token} {xs : List Constant} {h : ℕ} → IsConstants leaves types u xs h → t.kind ≡ k.Comma → IsFound (u ++ t ∷ []) xs h

  one_more_constant : {u : List Token} {xs : List Constant} {h : ℕ} → IsFound u xs h → (v : List Token) (x : Constant) (i : ℕ) → IsConstant leaves types v x i → IsConstants leaves types (u ++ v) (xs ++ x ∷ []) (max h i)
  one_more_constant nothing v x i a = let high : i ≡ max 0 i = omega arith in subst (λ j. IsConstants leaves types v (x ∷ []) j) high (items.one a)
  one_more_constant (behind t {u = u} {xs = xs} {h = h} l c) v x i a = subst (λ q. IsConstants leaves types q (xs ++ x ∷ []) (max h i)) (sym (append_assoc u (t ∷ []) v)) (items.more t l c a)

  constants_on : {o : Token} (u v : List Token) → (r : List Token) (y : Constants) → LEnum (o ∷ ((u ++ v) ++ r)) y → LEnum (o ∷ (u ++ (v ++ r))) y
  constants_on {o} u v r y l = subst (λ q. LEnum (o ∷ q) y) (append_assoc u v r) l

  constants_law : (R : Type 0) (m : ℕ) (w : World) → w.fuel ≡ m → (R → w.fuel ≤ w.turns) → (o : Token) → o.kind ≡ k.LeftBrace → (u : List Token) (xs : List Constant) (h : ℕ) → IsFound u xs h
      → Law R w Any (λ w. parse.constants_from leaves types w.turns w.depth w.fuel xs h) (λ v y. LEnum (o ∷ (u ++ v)) y)
  unfolding parse.constants_from
  constants_law R zero w fe fits o oc u xs h l =
      let n = fresh_token types nowhere in
      let x : Constant = record { name = name_at n; value = None } in
      no_turn fe (record { word = n ∷ token k.RightBrace ∷ []; value = (xs ++ x ∷ [], max h 0); is = constants_on u (n ∷ []) (token k.RightBrace ∷ []) (xs ++ x ∷ [], max h 0) (items.braces o (token k.RightBrace) oc (one_more_constant l (n ∷ []) x 0 (bare n (fresh_is leaves types nowhere))) refl) })
  constants_law R (suc m) w fe fits o oc u xs h l = a_turn (λ i w. parse.constants_from leaves types w.turns w.depth i xs h) m fe
      (bind {f = λ w x. shut (xs ++ x.0 ∷ [], max h x.1) (parse.constants_from leaves types w.turns w.depth (pred w.fuel) (xs ++ x.0 ∷ []) (max h x.1))} (constant_law R w fits) (λ v x a.
      let ys : Constants = (xs ++ x.0 ∷ [], max h x.1) in
      let all : IsConstants leaves types (u ++ v) ys.0 ys.1 = one_more_constant l v x.0 x.1 a in
      relang (λ r y i. constants_on u v r y i)
      (shut_law ys (λ w. parse.constants_from leaves types w.turns w.depth w.fuel ys.0 ys.1) (λ c ec. items.braces o c oc all ec) (λ t c tc ec. items.braces_comma o t c oc all tc ec)
      (λ t tc. relang (λ r y i. constants_on (u ++ v) (t ∷ []) r y i) (constants_law (R × (true ≡ true)) m (down w) (ap pred fe) (λ r. down_fits w.fuel w.turns (fits r.0)) o oc ((u ++ v) ++ t ∷ []) ys.0 ys.1 (behind t all tc))))))

  pub enum_law : (R : Type 0) (w : World) → (R → w.fuel ≤ w.turns) → Law R w Any (λ w. parse.enum_body leaves types w.turns w.depth) LEnum
  unfolding parse.enum_body
  enum_law R w fits = expect_law (λ w o. parse.constants_from leaves types w.turns w.depth w.turns [] 0) k.LeftBrace (λ o oc.
      all_turns fits (λ i w. parse.constants_from leaves types w.turns w.depth i [] 0) (constants_law (w.fuel ≤ w.turns) w.turns (record w { fuel = w.turns }) refl (λ r. omega arith) o oc [] [] 0 nothing))

  -- ---- initializers

  abbrev pub LInitializer : Lang SizedInitializer
  LInitializer u x = IsInitializer leaves types u x.0 x.1

  -- what stands behind the brace `o` that opens
  abbrev LParts : Token → Lang (List Initializer × ℕ)
  LParts o u x = IsInitializer leaves types (o ∷ u) (ini.Braces o.place x.0) (x.1 + 1)

  one_initializer : LInitializer (one_at leaves types nowhere ∷ []) (ini.Value (one_tree leaves types nowhere), 1)
  one_initializer = items.value (one_asg leaves types nowhere)

  initializer_has : Has LInitializer
  initializer_has = record { word = one_at leaves types nowhere ∷ []; value = (ini.Value (one_tree leaves types nowhere), 1); is = one_initializer }

  -- what stands before the next initializer: nothing, or initializers and a comma
  data IsBegun : List Token → List Initializer → ℕ → Type 0 where
    nothing : IsBegun [] [] 0
    behind : (t : Token) {u : List Token} {xs : List Initializer} {h : ℕ} → IsInitializers leaves types u xs h → t.kind ≡ k.Comma → IsBegun (u ++ t ∷ []) xs h

  one_more_part : {u : List Token} {xs : List Initializer} {h : ℕ} → IsBegun u xs h → (v : List Token) (x : Initializer) (i : ℕ) → IsInitializer leaves types v x i → IsInitializers leaves types (u ++ v) (xs ++ x ∷ []) (max h i)
  one_more_part nothing v x i a = let high : i ≡ max 0 i = omega arith in subst (λ j. IsInitializers leaves types v (x ∷ []) j) high (items.one a)
  one_more_part (behind t {u = u} {xs = xs} {h = h} l c) v x i a = subst (λ q. IsInitializers leaves types q (xs ++ x ∷ []) (max h i)) (sym (append_assoc u (t ∷ []) v)) (items.more t l c a)

  parts_on : (o : Token) (u v : List Token) → (r : List Token) (y : List Initializer × ℕ) → LParts o ((u ++ v) ++ r) y → LParts o (u ++ (v ++ r)) y
  parts_on o u v r y l = subst (λ q. LParts o q y) (append_assoc u v r) l

  -- the parser of what stands in braces, which have two levels at least
  abbrev below : ℕ → ℕ → Parser SizedInitializer
  below turns zero = refuse
  below turns (suc n) = parse.initializer leaves types turns n

  by_levels : (turns n : ℕ) (ts : List Token) → parse.initializer leaves types turns n ts ≡ parse.initializer_at leaves types turns n (below turns n) ts
  unfolding parse.initializer
  by_levels turns zero ts = refl
  by_levels turns (suc n) ts = refl

  module _ (n : ℕ) (subs : (R : Type 0) (w : World) → w.depth ≡ n → (R → w.fuel ≤ w.turns) → (R → 0 < w.depth) → Law R w Any (λ w. below w.turns w.depth) LInitializer) where
    abbrev S : World → Parser SizedInitializer
    S w = below w.turns w.depth

    parts_law : (R : Type 0) (m : ℕ) (w : World) → w.fuel ≡ m → w.depth ≡ n → (R → w.fuel ≤ w.turns) → (R → 0 < w.depth) → (o : Token) → o.kind ≡ k.LeftBrace → (u : List Token) (xs : List Initializer) (h : ℕ) → IsBegun u xs h
        → Law R w Any (λ w. parse.parts_from leaves types w.turns w.depth (S w) w.fuel xs h) (λ v y. LParts o (u ++ v) y)
    unfolding parse.parts_from
    parts_law R zero w fe d fits deep o oc u xs h l =
        let t = one_at leaves types nowhere in
        let x : Initializer = ini.Value (one_tree leaves types nowhere) in
        no_turn fe (record { word = t ∷ token k.RightBrace ∷ []; value = (xs ++ x ∷ [], max h 1); is = parts_on o u (t ∷ []) (token k.RightBrace ∷ []) (xs ++ x ∷ [], max h 1) (items.braces o (token k.RightBrace) oc (one_more_part l (t ∷ []) x 1 one_initializer) refl) })
    parts_law R (suc m) w fe d fits deep o oc u xs h l = a_turn (λ i w. parse.parts_from leaves types w.turns w.depth (S w) i xs h) m fe
        (bind {f = λ w x. shut (xs ++ x.0 ∷ [], max h x.1) (parse.parts_from leaves types w.turns w.depth (S w) (pred w.fuel) (xs ++ x.0 ∷ []) (max h x.1))} (subs R w d fits deep) (λ v x a.
        let ys : List Initializer × ℕ = (xs ++ x.0 ∷ [], max h x.1) in
        let all : IsInitializers leaves types (u ++ v) ys.0 ys.1 = one_more_part l v x.0 x.1 a in
        relang (λ r y i. parts_on o u v r y i)
        (shut_law ys (λ w. parse.parts_from leaves types w.turns w.depth (S w) w.fuel ys.0 ys.1) (λ c ec. items.braces o c oc all ec) (λ t c tc ec. items.braces_comma o t c oc all tc ec)
        (λ t tc. relang (λ r y i. parts_on o (u ++ v) (t ∷ []) r y i) (parts_law (R × (true ≡ true)) m (down w) (ap pred fe) d (λ r. down_fits w.fuel w.turns (fits r.0)) (λ r. deep r.0) o oc ((u ++ v) ++ t ∷ []) ys.0 ys.1 (behind t all tc))))))

    initializer_at_law : (R : Type 0) (w : World) → w.depth ≡ n → (R → w.fuel ≤ w.turns) → Law R w Any (λ w. parse.initializer_at leaves types w.turns w.depth (S w)) LInitializer
    unfolding parse.initializer_at parse.braces
    initializer_at_law R w d fits = look kind kind_local (λ w next. if same_kind next k.LeftBrace then parse.braces leaves types w.turns w.depth (S w) else (assignment_within leaves types w.turns w.depth >>= (λ x. pure (ini.Value x.0, x.1)))) initializer_has
        (λ next. choose (same_kind next k.LeftBrace)
        (λ yes. take_law (λ w o. parse.parts_from leaves types w.turns w.depth (S w) w.turns [] 0 >>= (λ xs. pure (ini.Braces o.place xs.0, xs.1 + 1))) (nat_lt 1) (lt_grows 1) (λ t. t.kind ≡ k.LeftBrace) (λ t ts g. first_kind t ts next g.1 ∙ kind_is next k.LeftBrace yes) initializer_has
        (λ o oc. map_law (λ xs. (ini.Braces o.place xs.0, xs.1 + 1))
        (all_turns_of (λ r. (fits r.0, let h : 1 < w.depth = lt_of 1 w.depth r.1 in omega arith)) (λ i w. parse.parts_from leaves types w.turns w.depth (S w) i [] 0)
        (parts_law ((w.fuel ≤ w.turns) × (0 < w.depth)) w.turns (record w { fuel = w.turns }) refl d (λ r. omega arith) (λ r. r.1) o oc [] [] 0 nothing))
        (λ u xs q. q)))
        (λ no. anywhere (map_law (λ x. (ini.Value x.0, x.1)) (asgs R w fits) (λ u x a. items.value a))))

  below_law : (n : ℕ) (R : Type 0) (w : World) → w.depth ≡ n → (R → w.fuel ≤ w.turns) → (R → 0 < w.depth) → Law R w Any (λ w. below w.turns w.depth) LInitializer
  below_law zero R w d fits deep = record { run = λ r. absurd (let h : 0 < w.depth = deep r in omega arith); has = initializer_has }
  below_law (suc n) R w d fits deep =
      view_law lower (λ w' ab. lower_above w w' ab) (λ w' ab same. ap pred same) (λ r. r) (λ r. omega arith)
      (λ w' ab ts. ap (λ m. below w'.turns m ts) (some_pred w'.depth n (omega (arith, ab.depth))) ∙ by_levels w'.turns (pred w'.depth) ts)
      (initializer_at_law n (λ R' w2 d2 f2 p2. below_law n R' w2 d2 f2 p2) R (lower w) (ap pred d) fits)

  pub initializer_law : (R : Type 0) (w : World) → (R → w.fuel ≤ w.turns) → Law R w Any (λ w. parse.initializer leaves types w.turns w.depth) LInitializer
  initializer_law R w fits = view_law (λ w. w) (λ w' ab. ab) (λ w' ab same. same) (λ r. r) (λ r. omega arith) (λ w' ab ts. by_levels w'.turns w'.depth ts)
      (initializer_at_law w.depth (λ R' w2 d2 f2 p2. below_law w.depth R' w2 d2 f2 p2) R w refl fits)
