-- What stands behind a parenthesis that opens is read as the type or the assignment that it is.
use Rattle.std.proofs.Common.{◌≡◌, ℕ, zero, suc, pred, ◌+◌, ◌<◌, ◌≤◌, ◌==◌, max, nat_lt, Bool, true, false, if◌then◌else◌, ◌&&◌, List, [], ◌∷◌, ◌++◌, length, Option, Some, None, Ok, Err, ◌⊎◌, inl, inr, refl, sym, ap, ap₂, ◌∙◌, subst, arith, append_assoc, append-nil, length-append}
use Rattle.al_base.specs.declared.place.Place.{Place}
use Rattle.al_lex.specs.declared.kind.TokenKind.{TokenKind}
use Rattle.al_lex.specs.declared.kind.TokenKind.TheVariants as k
use Rattle.al_lex.specs.declared.token.Token.{Token}
use Rattle.al_tree.specs.Words.{start, prefix_operator}
use Rattle.al_tree.specs.Types.{Leaves, IsOtherName, other_name, IsStarred, IsTypeTree, IsParts}
use Rattle.al_tree.specs.Expressions.{IsPrim, number, char, text, nil, name, paren, tuple, IsPost, prim, index, member, call, postfix, IsCallee, called_name, called_member, called_value, IsUnary, post, prefix, cast, sizeof_type, sizeof_value, IsBinary, unary, tighter, binary, iterator, IsAsg, value, assign, IsAsgs, one, more, IsExpr, only, sequence}
use Rattle.al_tree.specs.Reading.{Outcome, Parser, and_then, ◌>>=◌, pure, refuse, kind, same_kind, take_if, expect_if}
use Rattle.al_tree.specs.declared.type_tree.TypeTree.{TypeTree}
use Rattle.al_tree.specs.declared.expression.UnaryOp.{UnaryOp}
use Rattle.al_tree.specs.declared.expression.Expr.{Expr}
use Rattle.al_tree.specs.declared.expression.Expr.TheVariants as e
use Rattle.al_tree.proofs.Law.{some_pred, start_of}
use Rattle.al_parse_type.specs.declared.part.ReadBase.{ReadBase}
use Rattle.al_parse_type.specs.Parse.{sees_type, sized_base, below as type_below}
use Rattle.al_parse_type.specs.Parse as tparse
use Rattle.al_parse_type.specs.Within.{type_within, starred_within, tuple_within, type_behind}
use Rattle.al_parse_type.proofs.BoundLaw.{kind_is}
use Rattle.al_parse_type.proofs.BoundComplete.{rest_short, tail_short, nat_lt_is, kind_of}
use Rattle.al_parse_type.proofs.TypeComplete.{FollowType, Split, split_c, Bare, base_sees}
use Rattle.al_parse_type.proofs.TypeWhole.{whole_type}
use Rattle.al_parse_type.proofs.BaseWhole.{IsStarredType, TupleRest, tuple_rest, starred_within_c, starred_type_word}
use Rattle.al_parse_expr.specs.Parse as eparse
use Rattle.al_parse_expr.specs.Parse.{Sized, within as expr_within}
use Rattle.al_parse_expr.specs.Within.{assignment_within, operand_within, after_first, after_unary}
use Rattle.al_parse_expr.proofs.Begins.{Starts, asg_starts, post_long, callee_long, unary_long, binary_long, asg_long, asg_high, unary_high}
use Rattle.al_parse_expr.proofs.Follow.{FollowAsg, before_comma, before_paren}
use Rattle.al_parse_expr.proofs.ExprComplete.{asg_c, at_kind}
use Rattle.al_parse_expr.proofs.ExprSteps as estep
use Rattle.al_parse_block.specs.Begun as parse
use Rattle.al_parse_block.specs.Begun.{SizedType, SizedBegun, leaves_off, castable, first_type, begun}
use Rattle.al_parse_block.specs.declared.part.Begun.{Begun}
use Rattle.al_parse_block.specs.declared.part.Begun.TheVariants as bg
use Rattle.al_parse_block.proofs.BegunLaw.{as_type}

equal_yes : (a : ℕ) → (a == a) ≡ true
equal_yes a = grind arith

not_true : (b : Bool) → b ≡ true → b ≡ false → ⊥
not_true b t f = let e : true ≡ false = sym t ∙ f in let x : ⊥ = cc in x

pub kind_before : (u v : List Token) → 0 < length u → kind (u ++ v) ≡ kind u
unfolding kind
kind_before [] v h = absurd (omega arith)
kind_before (t ∷ u) v h = refl

close_kind : (c : Token) (ts : List Token) → c.kind ≡ k.RightParen → same_kind (kind (c ∷ ts)) k.RightParen ≡ true
unfolding kind same_kind
close_kind c ts h = rw h refl

open_kind : (o : Token) (ts : List Token) → o.kind ≡ k.LeftParen → same_kind (kind (o ∷ ts)) k.LeftParen ≡ true
unfolding kind same_kind
open_kind o ts h = rw h refl

before_close : (t : Token) (ts : List Token) → t.kind ≡ k.RightParen → (same_kind (kind (t ∷ ts)) k.LeftBracket ≡ false) × (same_kind (kind (t ∷ ts)) k.Star ≡ false)
unfolding kind same_kind
before_close t ts h = (rw h refl, rw h refl)

pub comma_no_close : (ts : List Token) → same_kind (kind ts) k.Comma ≡ true → same_kind (kind ts) k.RightParen ≡ false
unfolding same_kind
comma_no_close ts h = let c : kind ts ≡ k.Comma = kind_is (kind ts) k.Comma h in rw c refl

no_both : (b c : Bool) → c ≡ false → (b && c) ≡ false
no_both true c h = h
no_both false c h = refl

mapped : {A B C : Type 0} (o : Outcome A) (g : A → B) (f : B → Parser C) → and_then (and_then o (λ a. pure (g a))) f ≡ and_then o (λ a. f (g a))
mapped (Ok x) g f = refl
mapped (Err x) g f = refl

module _ (leaves : Leaves) (types : List ℕ) where
  -- ---- what stands behind the parenthesis that an expression begins with

  pub data Opens (u : List Token) (h : ℕ) : Type 0 where
    -- a cast
    by_cast : (o c : Token) (w : List Token) {v : List Token} {x : TypeTree} {i : ℕ}
        → u ≡ o ∷ (v ++ c ∷ w) → o.kind ≡ k.LeftParen → IsStarredType leaves types v x i → c.kind ≡ k.RightParen → i + 1 ≤ h → 2 ≤ h → Opens u h
    -- an assignment, with a comma or the other parenthesis behind it
    by_part : (o t : Token) (w : List Token) {v : List Token} {x : Expr} {i : ℕ}
        → u ≡ o ∷ (v ++ t ∷ w) → o.kind ≡ k.LeftParen → IsAsg leaves types v x i → FollowAsg t.kind → i + 1 ≤ h → Opens u h

  more_behind : {u : List Token} {h : ℕ} → Opens u h → (m : List Token) (i : ℕ) → h ≤ i → Opens (u ++ m) i
  more_behind (by_cast o c w {v = v} q oc a ec l l2) m i p = by_cast o c (w ++ m) (ap (λ l. l ++ m) q ∙ ap (λ l. o ∷ l) (append_assoc v (c ∷ w) m)) oc a ec (omega arith) (omega arith)
  more_behind (by_part o t w {v = v} q oc a f l) m i p = by_part o t (w ++ m) (ap (λ l. l ++ m) q ∙ ap (λ l. o ∷ l) (append_assoc v (t ∷ w) m)) oc a f (omega arith)

  no_open : (t : Token) (ts : List Token) (kd : TokenKind) → t.kind ≡ kd → same_kind kd k.LeftParen ≡ false → same_kind (kind (t ∷ ts)) k.LeftParen ≡ true → ⊥
  unfolding kind
  no_open t ts kd c f h = not_true (same_kind t.kind k.LeftParen) h (ap (λ kd. same_kind kd k.LeftParen) c ∙ f)

  name_no_open : (t : Token) (ts : List Token) → t.kind ≡ k.Name → same_kind (kind (t ∷ ts)) k.LeftParen ≡ true → ⊥
  unfolding same_kind
  name_no_open t ts c b = no_open t ts k.Name c refl b

  shrink : (u v : List Token) → 0 < length u → same_kind (kind (u ++ v)) k.LeftParen ≡ true → same_kind (kind u) k.LeftParen ≡ true
  shrink u v l h = sym (ap (λ kd. same_kind kd k.LeftParen) (kind_before u v l)) ∙ h

  -- a comma comes first
  record CommaFirst (back : List Token) : Type 0 where
    comma : Token
    rest : List Token
    is : back ≡ comma ∷ rest
    kind_is : comma.kind ≡ k.Comma

  -- the first expression of a list, with what stands behind it
  record FirstOf (u : List Token) (h : ℕ) : Type 0 where
    front : List Token
    back : List Token
    tree : Expr
    low : ℕ
    is : IsAsg leaves types front tree low
    lower : low ≤ h
    cut : u ≡ front ++ back
    shape : (back ≡ []) ⊎ CommaFirst back

  first_asg : {u : List Token} {xs : List Expr} {h : ℕ} → IsAsgs leaves types u xs h → FirstOf u h
  first_asg (one {u = u} {x = x} {h = h} a) = record { front = u; back = []; tree = x; low = h; is = a; lower = omega arith; cut = sym (append-nil u); shape = inl refl }
  first_asg (more t {u = u} {v = v} l c d) =
      let q = first_asg l in
      record { front = q.front; back = q.back ++ t ∷ v; tree = q.tree; low = q.low; is = q.is; lower = omega (arith, q.lower); cut = ap (λ m. m ++ t ∷ v) q.cut ∙ append_assoc q.front q.back (t ∷ v); shape = inr (go q.shape) }
    where
      go : {b : List Token} → (b ≡ []) ⊎ CommaFirst b → CommaFirst (b ++ t ∷ v)
      go (inl e) = record { comma = t; rest = v; is = ap (λ l. l ++ t ∷ v) e; kind_is = c }
      go (inr f) = record { comma = f.comma; rest = f.rest ++ t ∷ v; is = ap (λ l. l ++ t ∷ v) f.is; kind_is = f.kind_is }

  prim_opens : {u : List Token} {x : Expr} {h : ℕ} → IsPrim leaves types u x h → same_kind (kind u) k.LeftParen ≡ true → Opens u h
  unfolding same_kind
  prim_opens (number t c) b = absurd (no_open t [] k.Number c refl b)
  prim_opens (char t c) b = absurd (no_open t [] k.Char c refl b)
  prim_opens (text t c) b = absurd (no_open t [] k.Text c refl b)
  prim_opens (nil t c) b = absurd (no_open t [] k.Nil c refl b)
  prim_opens (name t (other_name c d)) b = absurd (no_open t [] k.Name c refl b)
  prim_opens (paren o c {u = u} oc a ec) b = by_part o c [] refl oc a (subst FollowAsg (sym ec) before_paren.asg) (omega arith)
  prim_opens (tuple o t c {u = u} {v = v} oc l tc a ec) b =
      let q = first_asg l in
      let f = go q.shape in
      by_part o f.comma f.rest {v = q.front} (ap (λ m. o ∷ (m ++ t ∷ (v ++ c ∷ []))) q.cut ∙ ap (λ m. o ∷ m) (append_assoc q.front q.back (t ∷ (v ++ c ∷ []))) ∙ ap (λ m. o ∷ (q.front ++ m)) f.is) oc q.is (subst FollowAsg (sym f.kind_is) before_comma) (omega (arith, q.lower))
    where
      go : {b : List Token} → (b ≡ []) ⊎ CommaFirst b → CommaFirst (b ++ t ∷ (v ++ c ∷ []))
      go (inl e) = record { comma = t; rest = v ++ c ∷ []; is = ap (λ l. l ++ t ∷ (v ++ c ∷ [])) e; kind_is = tc }
      go (inr f) = record { comma = f.comma; rest = f.rest ++ t ∷ (v ++ c ∷ []); is = ap (λ l. l ++ t ∷ (v ++ c ∷ [])) f.is; kind_is = f.kind_is }

  mutual
    post_opens : {u : List Token} {x : Expr} {h : ℕ} → IsPost leaves types u x h → same_kind (kind u) k.LeftParen ≡ true → Opens u h
    post_opens (prim d) b = prim_opens d b
    post_opens (index o c {u = u} {v = v} {h = h} {i = i} p oc a ec) b = more_behind (post_opens p (shrink u (o ∷ (v ++ c ∷ [])) (post_long leaves types p) b)) (o ∷ (v ++ c ∷ [])) (max h i + 1) (omega arith)
    post_opens (member t n {u = u} {h = h} p a d) b = more_behind (post_opens p (shrink u (t ∷ n ∷ []) (post_long leaves types p) b)) (t ∷ n ∷ []) (h + 1) (omega arith)
    post_opens (call o c {u = u} {v = v} {h = h} {i = i} p oc a ec) b = more_behind (callee_opens p (shrink u (o ∷ (v ++ c ∷ [])) (callee_long leaves types p) b)) (o ∷ (v ++ c ∷ [])) (max h i + 1) (omega arith)
    post_opens (postfix t {u = u} {h = h} p a) b = more_behind (post_opens p (shrink u (t ∷ []) (post_long leaves types p) b)) (t ∷ []) (h + 1) (omega arith)

    callee_opens : {u : List Token} {x : Expr} {h : ℕ} → IsCallee leaves types u x h → same_kind (kind u) k.LeftParen ≡ true → Opens u h
    callee_opens (called_name t (other_name c d)) b = absurd (name_no_open t [] c b)
    callee_opens (called_member t n {u = u} {h = h} p a d) b = more_behind (post_opens p (shrink u (t ∷ n ∷ []) (post_long leaves types p) b)) (t ∷ n ∷ []) h (omega arith)
    callee_opens (called_value p m) b = post_opens p b

  prefix_no_open : (t : Token) (ts : List Token) (op : UnaryOp) → prefix_operator t.kind ≡ Some op → same_kind (kind (t ∷ ts)) k.LeftParen ≡ true → ⊥
  unfolding kind
  prefix_no_open t ts op a h = let c : t.kind ≡ k.LeftParen = kind_is t.kind k.LeftParen h in let n : prefix_operator t.kind ≡ None = ap prefix_operator c in let z : Some op ≡ None = sym a ∙ n in let f : ⊥ = cc in f

  unary_opens : {u : List Token} {x : Expr} {h : ℕ} → IsUnary leaves types u x h → same_kind (kind u) k.LeftParen ≡ true → Opens u h
  unfolding same_kind
  unary_opens (post d) b = post_opens d b
  unary_opens (prefix t {u = u} {op = op} a d) b = absurd (prefix_no_open t u op a b)
  unary_opens (cast o c {takes = takes} {u = u} {v = v} {h = h} {i = i} oc a ec d) b = let high : 0 < i = unary_high leaves types d in by_cast o c v refl oc (record { takes = takes; is = a }) ec (omega arith) (omega (arith, high))
  unary_opens (sizeof_type t o c {u = u} tc oc a ec) b = absurd (no_open t (o ∷ (u ++ c ∷ [])) k.Sizeof tc refl b)
  unary_opens (sizeof_value t {u = u} tc d m) b = absurd (no_open t u k.Sizeof tc refl b)

  binary_opens : {l : ℕ} {u : List Token} {x : Expr} {h : ℕ} → IsBinary leaves types l u x h → same_kind (kind u) k.LeftParen ≡ true → Opens u h
  binary_opens (unary d) b = unary_opens d b
  binary_opens (tighter d) b = binary_opens d b
  binary_opens (binary t {u = u} {v = v} {h = h} {i = i} d a c) b = more_behind (binary_opens d (shrink u (t ∷ v) (binary_long leaves types d) b)) (t ∷ v) (max h i + 1) (omega arith)
  binary_opens (iterator t {u = u} {v = v} {h = h} {i = i} d a c) b = more_behind (binary_opens d (shrink u (t ∷ v) (binary_long leaves types d) b)) (t ∷ v) (max h i + 1) (omega arith)

  pub asg_opens : {u : List Token} {x : Expr} {h : ℕ} → IsAsg leaves types u x h → same_kind (kind u) k.LeftParen ≡ true → Opens u h
  asg_opens (value d) b = binary_opens d b
  asg_opens (assign t {u = u} {v = v} {h = h} {i = i} d a c) b = more_behind (unary_opens d (shrink u (t ∷ v) (unary_long leaves types d) b)) (t ∷ v) (max h i + 1) (omega arith)

module _ (leaves : Leaves) (types : List ℕ) (F : ℕ) where
  -- ---- the assignment that begins with a parenthesis, read in two ways

  cast_same : (n : ℕ) (o c : Token) (ts r : List Token) (x : SizedType) → o.kind ≡ k.LeftParen → c.kind ≡ k.RightParen → nat_lt 0 n ≡ true → nat_lt 1 (suc n) ≡ true → sees_type types ts ≡ true → starred_within leaves types F n ts ≡ Ok (x, c ∷ r)
      → eparse.asg leaves types F n (expr_within leaves types F n) (o ∷ ts) ≡ parse.cast_begun leaves types F (suc n) o x (c ∷ r)
  unfolding eparse.asg eparse.unary eparse.parenthesis eparse.cast parse.cast_begun kind same_kind take_if expect_if
  cast_same n o c ts r x oc ec room room1 st e2 = rw (oc, room, st, e2, ec, room1) (mapped (operand_within leaves types F n r) (λ y. (e.Cast o.place x.0 y.0, max x.1 y.1 + 1)) (eparse.asg_after leaves types F n (expr_within leaves types F n) o.place))

  paren_same : (n : ℕ) (o : Token) (ts r : List Token) (x : Sized) → o.kind ≡ k.LeftParen → nat_lt 0 n ≡ true → sees_type types ts ≡ false → assignment_within leaves types F n ts ≡ Ok (x, r)
      → eparse.asg leaves types F n (expr_within leaves types F n) (o ∷ ts) ≡ parse.paren_begun leaves types F (suc n) o x r
  unfolding eparse.asg eparse.unary eparse.parenthesis eparse.opened eparse.listed parse.paren_begun after_first kind same_kind take_if
  paren_same n o ts r x oc room st e2 = rw (oc, room, st, e2) refl

  -- ---- types

  pub first_c : (n : ℕ) (ts r : List Token) (x : TypeTree) (i : ℕ) → sees_type types ts ≡ true → type_within leaves types F n ts ≡ Ok ((x, i), r) → begun leaves types F n ts ≡ Ok ((bg.Type x (castable leaves types F i ts r), i), r)
  unfolding begun parse.begun_at first_type
  first_c zero ts r x i b e = rw (b, e) refl
  first_c (suc n) ts r x i b e = rw (b, e) refl

  -- the type of a cast
  pub cast_type_c : {v : List Token} {x : TypeTree} {i : ℕ} → IsStarredType leaves types v x i → (n : ℕ) → i ≤ n → (c : Token) (r : List Token) → length (v ++ (c ∷ r)) < F → c.kind ≡ k.RightParen
      → begun leaves types F n (v ++ (c ∷ r)) ≡ Ok ((bg.Type x true, i), c ∷ r)
  unfolding castable
  cast_type_c {v} {x} {i} a n low c r s ec =
      let f = before_close c r ec in
      let whole = whole_type leaves types F (as_type leaves types a) n low (c ∷ r) s f.0 (λ takes d. f.1) in
      let again = starred_within_c leaves types F a i (omega arith) (c ∷ r) s f.0 f.1 in
      first_c n (v ++ (c ∷ r)) (c ∷ r) x i (starred_type_word leaves types F a (c ∷ r)) whole
      ∙ ap (λ (b : Bool). Ok ((bg.Type x b, i), c ∷ r)) (ap (λ o. leaves_off o (length (c ∷ r))) again ∙ equal_yes (length (c ∷ r)))

  no_comma_refuses : (n : ℕ) (at : Place) (x : SizedType) (ts : List Token) (m : ℕ) → F ≡ suc m → same_kind (kind ts) k.Comma ≡ false → (y : ReadBase × List Token) → tuple_within leaves types F n at x ts ≡ Ok y → ⊥
  unfolding tparse.tuple_after tparse.types_from
  no_comma_refuses n at x ts m fe f y h = let g : tuple_within leaves types F n at x ts ≡ Err (Rattle.al_tree.specs.declared.cursor.ParseError.TheVariants.Stuck (length ts)) = rw (fe, f) refl in let z : ⊥ = cc in z

  bool_cases : (P : Bool → Type 0) (b : Bool) → ((b ≡ true) → P true) → ((b ≡ false) → P false) → P b
  bool_cases P true f g = f refl
  bool_cases P false f g = g refl

  pub comma_next : (n : ℕ) (at : Place) (x : SizedType) (ts : List Token) (y : ReadBase × List Token) → 0 < F → tuple_within leaves types F n at x ts ≡ Ok y → same_kind (kind ts) k.Comma ≡ true
  comma_next n at x ts y some h = bool_cases (λ b. b ≡ true) (same_kind (kind ts) k.Comma) (λ t. refl) (λ f. absurd (no_comma_refuses n at x ts (pred F) (some_pred F 0 some) f y h))

  open_step : (n : ℕ) (o : Token) (ts : List Token) → o.kind ≡ k.LeftParen → sees_type types (o ∷ ts) ≡ false → nat_lt 0 (suc n) ≡ true → begun leaves types F (suc n) (o ∷ ts) ≡ and_then (begun leaves types F n ts) (parse.begun_after leaves types F (suc n) o)
  unfolding begun parse.begun_at kind same_kind take_if
  open_step n o ts oc st room = rw (st, oc, room) refl

  -- a tuple's type without its word, with what was read behind the parenthesis
  tuple_step : (n : ℕ) (o : Token) (ts r1 r2 r : List Token) (x : TypeTree) (c : Bool) (h : ℕ) (b : ReadBase) (y : SizedType) → o.kind ≡ k.LeftParen → sees_type types (o ∷ ts) ≡ false → nat_lt 0 (suc n) ≡ true
      → begun leaves types F n ts ≡ Ok ((bg.Type x c, h), r1) → (c && same_kind (kind r1) k.RightParen) ≡ false → tuple_within leaves types F (suc n) o.place (x, h) r1 ≡ Ok (b, r2) → type_behind leaves types F (suc n) o.place b r2 ≡ Ok (y, r)
      → begun leaves types F (suc n) (o ∷ ts) ≡ Ok ((bg.Type y.0 false, y.1), r)
  tuple_step n o ts r1 r2 r x c h b y oc st room e1 nc e2 e3 = open_step n o ts oc st room ∙ ap (λ z. and_then z (parse.begun_after leaves types F (suc n) o)) e1 ∙ rw (nc, e2, e3) refl

  pub record ReadType (n : ℕ) (ts : List Token) (x : TypeTree) (i : ℕ) (r : List Token) : Type 0 where
    pub flag : Bool
    pub is : begun leaves types F n ts ≡ Ok ((bg.Type x flag, i), r)

  abbrev TypeAt : ℕ → Type 0
  TypeAt n = (v : List Token) (x : TypeTree) (i : ℕ) → IsTypeTree leaves types true v x i → i ≤ n → (r : List Token) → length (v ++ r) < F → FollowType r → ReadType n (v ++ r) x i r

  word_type : (n : ℕ) (v : List Token) (x : TypeTree) (i : ℕ) → IsTypeTree leaves types true v x i → i ≤ n → (r : List Token) → length (v ++ r) < F → FollowType r → sees_type types (v ++ r) ≡ true → ReadType n (v ++ r) x i r
  word_type n v x i d low r s f b = record {
    flag = castable leaves types F i (v ++ r) r;
    is = first_c n (v ++ r) r x i b (whole_type leaves types F d n low r s f.bracket (λ takes d. f.star));
  }

  -- a type whose base is a tuple without its word
  bare_type : (m : ℕ) → TypeAt m → (v : List Token) (x : TypeTree) (i : ℕ) → i ≤ suc m → (r : List Token) → length (v ++ r) < F → (q : Split leaves types F true (suc m) v x i r) → v ++ r ≡ q.front ++ (q.back ++ r) → Bare leaves types F q.front q.first → ReadType (suc m) (v ++ r) x i r
  bare_type m ih v x i low r s q cut b =
      let o = b.open_token in
      let c = b.close_token in
      let h : q.first.height ≡ b.high + 1 = ap (λ (y : ReadBase). y.height) b.tree in
      let all : v ++ r ≡ o ∷ (b.inside ++ (c ∷ (q.back ++ r))) = cut ∙ ap (λ l. l ++ (q.back ++ r)) b.cut ∙ ap (λ l. o ∷ l) (append_assoc b.inside (c ∷ []) (q.back ++ r)) in
      let s1 : length (b.inside ++ (c ∷ (q.back ++ r))) < F = omega (arith, s, ap length all) in
      let t = tuple_rest leaves types F (suc m) true o.place c b.inside (q.back ++ r) b.types_are b.high b.is b.shuts (omega (arith, h, q.low, low)) s1 in
      let a = t.types_are in
      let s2 : length (a.front ++ (a.back ++ (c ∷ (q.back ++ r)))) < F = omega (arith, s1, ap length t.cut) in
      let inner = ih a.front a.first a.low a.is (omega (arith, a.lower, h, q.low, low)) (a.back ++ (c ∷ (q.back ++ r))) s2 a.after in
      let comma = comma_next (suc m) o.place (a.first, a.low) (a.back ++ (c ∷ (q.back ++ r))) _ (omega (arith, s2)) t.after in
      let place : start v ≡ o.place = ap start q.cut ∙ start_of q.front q.back (omega (arith, ap length b.cut)) ∙ ap start b.cut in
      record {
        flag = false;
        is = ap (begun leaves types F (suc m)) (all ∙ ap (λ l. o ∷ l) t.cut)
            ∙ tuple_step m o (a.front ++ (a.back ++ (c ∷ (q.back ++ r)))) (a.back ++ (c ∷ (q.back ++ r))) (q.back ++ r) r a.first inner.flag a.low q.first (x, i) b.opens
            (Rattle.al_parse_type.proofs.TypeComplete.paren_sees leaves types F o _ b.opens) (nat_lt_is 0 (suc m) (omega arith)) inner.is
            (no_both inner.flag (same_kind (kind (a.back ++ (c ∷ (q.back ++ r)))) k.RightParen) (comma_no_close (a.back ++ (c ∷ (q.back ++ r))) comma))
            (t.after ∙ ap (λ y. Ok (y, q.back ++ r)) (sym b.tree))
            (ap (λ p. type_behind leaves types F (suc m) p q.first (q.back ++ r)) (sym place) ∙ q.fin);
      }

  no_bare : (v : List Token) (x : TypeTree) (i : ℕ) → i ≤ 0 → (r : List Token) → (q : Split leaves types F true 0 v x i r) → Bare leaves types F q.front q.first → ⊥
  no_bare v x i low r q b = let h : q.first.height ≡ b.high + 1 = ap (λ (y : ReadBase). y.height) b.tree in omega (arith, h, q.low, low)

  split_cut : (n : ℕ) (v : List Token) (x : TypeTree) (i : ℕ) (r : List Token) → (q : Split leaves types F true n v x i r) → v ++ r ≡ q.front ++ (q.back ++ r)
  split_cut n v x i r q = ap (λ l. l ++ r) q.cut ∙ append_assoc q.front q.back r

  type_zero : TypeAt 0
  type_zero v x i d low r s f =
      let q = split_c leaves types F d 0 low r s f.bracket (λ takes d. f.star) in
      go q (base_sees leaves types F q.is (q.back ++ r))
    where
      go : (q : Split leaves types F true 0 v x i r) → (sees_type types (q.front ++ (q.back ++ r)) ≡ true) ⊎ ((true ≡ true) × Bare leaves types F q.front q.first) → ReadType 0 (v ++ r) x i r
      go q (inl b) = word_type 0 v x i d low r s f (ap (sees_type types) (split_cut 0 v x i r q) ∙ b)
      go q (inr b) = absurd (no_bare v x i low r q b.1)

  type_step : (m : ℕ) → TypeAt m → TypeAt (suc m)
  type_step m ih v x i d low r s f =
      let q = split_c leaves types F d (suc m) low r s f.bracket (λ takes d. f.star) in
      go q (base_sees leaves types F q.is (q.back ++ r))
    where
      go : (q : Split leaves types F true (suc m) v x i r) → (sees_type types (q.front ++ (q.back ++ r)) ≡ true) ⊎ ((true ≡ true) × Bare leaves types F q.front q.first) → ReadType (suc m) (v ++ r) x i r
      go q (inl b) = word_type (suc m) v x i d low r s f (ap (sees_type types) (split_cut (suc m) v x i r q) ∙ b)
      go q (inr b) = bare_type m ih v x i low r s q (split_cut (suc m) v x i r q) b.1

  type_at : (n : ℕ) → TypeAt n
  type_at zero = type_zero
  type_at (suc m) = type_step m (type_at m)

  pub type_c : {v : List Token} {x : TypeTree} {i : ℕ} → IsTypeTree leaves types true v x i → (n : ℕ) → i ≤ n → (r : List Token) → length (v ++ r) < F → FollowType r → ReadType n (v ++ r) x i r
  type_c {v} {x} {i} d n low r s f = type_at n v x i d low r s f

  -- ---- assignments

  value_first : (n : ℕ) (ts r : List Token) (x : Sized) → sees_type types ts ≡ false → same_kind (kind ts) k.LeftParen ≡ false → assignment_within leaves types F n ts ≡ Ok (x, r) → begun leaves types F n ts ≡ Ok ((bg.Value x.0, x.1), r)
  unfolding begun parse.begun_at parse.value_begun
  value_first zero ts r x st np e = rw (st, np, e) refl
  value_first (suc n) ts r x st np e = rw (st, np, e) refl

  opened_is : (n : ℕ) (o : Token) (ts : List Token) → o.kind ≡ k.LeftParen → sees_type types (o ∷ ts) ≡ false → begun leaves types F (suc n) (o ∷ ts) ≡ and_then (begun leaves types F n ts) (parse.begun_after leaves types F (suc n) o)
  unfolding begun parse.begun_at kind same_kind take_if
  opened_is n o ts oc st = let room : nat_lt 0 (suc n) ≡ true = nat_lt_is 0 (suc n) (omega arith) in rw (st, oc, room) refl

  after_cast : (n : ℕ) (o : Token) (x : TypeTree) (h : ℕ) (ts r : List Token) (y : Sized) → same_kind (kind ts) k.RightParen ≡ true → parse.cast_begun leaves types F n o (x, h) ts ≡ Ok (y, r) → parse.begun_after leaves types F n o (bg.Type x true, h) ts ≡ Ok ((bg.Value y.0, y.1), r)
  after_cast n o x h ts r y b e = rw (b, e) refl

  after_paren : (n : ℕ) (o : Token) (x : Expr) (h : ℕ) (ts r : List Token) (y : Sized) → parse.paren_begun leaves types F n o (x, h) ts ≡ Ok (y, r) → parse.begun_after leaves types F n o (bg.Value x, h) ts ≡ Ok ((bg.Value y.0, y.1), r)
  after_paren n o x h ts r y e = rw e refl

  -- and how it goes on
  pub data Continues (n : ℕ) (o : Token) : Begun → ℕ → List Token → Sized → List Token → Type 0 where
    as_cast : {x : TypeTree} {h : ℕ} {ts r : List Token} {y : Sized} → same_kind (kind ts) k.RightParen ≡ true → parse.cast_begun leaves types F (suc n) o (x, h) ts ≡ Ok (y, r) → Continues n o (bg.Type x true) h ts y r
    as_paren : {x : Expr} {h : ℕ} {ts r : List Token} {y : Sized} → parse.paren_begun leaves types F (suc n) o (x, h) ts ≡ Ok (y, r) → Continues n o (bg.Value x) h ts y r

  -- an assignment that begins with a parenthesis, by what stands behind it
  pub record Opened (n : ℕ) (ts : List Token) (y : Sized) (r : List Token) : Type 0 where
    pub open_token : Token
    pub inside : List Token
    pub rest : List Token
    pub part : Begun
    pub low : ℕ
    pub is : ts ≡ open_token ∷ inside
    pub opens : open_token.kind ≡ k.LeftParen
    pub begins : begun leaves types F n inside ≡ Ok ((part, low), rest)
    pub goes_on : Continues n open_token part low rest y r

  abbrev ValueAt : ℕ → Type 0
  ValueAt n = (v : List Token) (x : Expr) (i : ℕ) → IsAsg leaves types v x i → i ≤ n → (r : List Token) → length (v ++ r) < F → FollowAsg (kind r) → begun leaves types F n (v ++ r) ≡ Ok ((bg.Value x, i), r)

  -- the assignment as it is read whole
  whole_asg : (n : ℕ) (v : List Token) (x : Expr) (i : ℕ) → IsAsg leaves types v x i → i ≤ suc n → (r : List Token) → length (v ++ r) < F → FollowAsg (kind r) → eparse.asg leaves types F n (expr_within leaves types F n) (v ++ r) ≡ Ok ((x, i), r)
  whole_asg n v x i d low r s f = sym (estep.within_asg leaves types F n (v ++ r)) ∙ asg_c leaves types F d (suc n) low r s (inl f)

  opened_by : (n : ℕ) → ValueAt n → (v : List Token) (x : Expr) (i : ℕ) → IsAsg leaves types v x i → i ≤ suc n → (r : List Token) → length (v ++ r) < F → FollowAsg (kind r) → Opens leaves types v i → Opened n (v ++ r) (x, i) r
  opened_by n ih v x i d low r s f (by_cast o c w {v = u} {x = t} {i = j} q oc a ec l l2) =
      let all : v ++ r ≡ o ∷ (u ++ (c ∷ (w ++ r))) = ap (λ m. m ++ r) q ∙ ap (λ m. o ∷ m) (append_assoc u (c ∷ w) r) in
      let s1 : length (u ++ (c ∷ (w ++ r))) < F = omega (arith, s, ap length all) in
      let g = before_close c (w ++ r) ec in
      let room : nat_lt 0 n ≡ true = nat_lt_is 0 n (omega (arith, l2, low)) in
      let room1 : nat_lt 1 (suc n) ≡ true = nat_lt_is 1 (suc n) (omega (arith, l2, low)) in
      let starred = starred_within_c leaves types F a n (omega (arith, l, low)) (c ∷ (w ++ r)) s1 g.0 g.1 in
      record {
        open_token = o;
        inside = u ++ (c ∷ (w ++ r));
        rest = c ∷ (w ++ r);
        part = bg.Type t true;
        low = j;
        is = all;
        opens = oc;
        begins = cast_type_c a n (omega (arith, l, low)) c (w ++ r) s1 ec;
        goes_on = as_cast (close_kind c (w ++ r) ec) (sym (cast_same n o c (u ++ (c ∷ (w ++ r))) (w ++ r) (t, j) oc ec room room1 (starred_type_word leaves types F a (c ∷ (w ++ r))) starred) ∙ sym (ap (eparse.asg leaves types F n (expr_within leaves types F n)) all) ∙ whole_asg n v x i d low r s f);
      }
  opened_by n ih v x i d low r s f (by_part o t w {v = u} {x = y} {i = j} q oc a g l) =
      let all : v ++ r ≡ o ∷ (u ++ (t ∷ (w ++ r))) = ap (λ m. m ++ r) q ∙ ap (λ m. o ∷ m) (append_assoc u (t ∷ w) r) in
      let s1 : length (u ++ (t ∷ (w ++ r))) < F = omega (arith, s, ap length all) in
      let high : 0 < j = asg_high leaves types a in
      let room : nat_lt 0 n ≡ true = nat_lt_is 0 n (omega (arith, high, l, low)) in
      let follow : FollowAsg (kind (t ∷ (w ++ r))) = at_kind FollowAsg t (w ++ r) t.kind refl g in
      record {
        open_token = o;
        inside = u ++ (t ∷ (w ++ r));
        rest = t ∷ (w ++ r);
        part = bg.Value y;
        low = j;
        is = all;
        opens = oc;
        begins = ih u y j a (omega (arith, l, low)) (t ∷ (w ++ r)) s1 follow;
        goes_on = as_paren (sym (paren_same n o (u ++ (t ∷ (w ++ r))) (t ∷ (w ++ r)) (y, j) oc room (asg_starts leaves types a (t ∷ (w ++ r))).no_type (asg_c leaves types F a n (omega (arith, l, low)) (t ∷ (w ++ r)) s1 (inl follow))) ∙ sym (ap (eparse.asg leaves types F n (expr_within leaves types F n)) all) ∙ whole_asg n v x i d low r s f);
      }

  opens_of : (v : List Token) (x : Expr) (i : ℕ) (r : List Token) → IsAsg leaves types v x i → same_kind (kind (v ++ r)) k.LeftParen ≡ true → Opens leaves types v i
  opens_of v x i r d b = asg_opens leaves types d (sym (ap (λ kd. same_kind kd k.LeftParen) (kind_before v r (asg_long leaves types d))) ∙ b)

  last_part : (n : ℕ) (o : Token) (p : Begun) (h : ℕ) (ts r : List Token) (y : Sized) → Continues n o p h ts y r → parse.begun_after leaves types F (suc n) o (p, h) ts ≡ Ok ((bg.Value y.0, y.1), r)
  last_part n o (bg.Type t true) h ts r y (as_cast e1 e2) = after_cast (suc n) o t h ts r y e1 e2
  last_part n o (bg.Type t false) h ts r y x3 = elim x3 [ ]
  last_part n o (bg.Value z) h ts r y (as_paren e1) = after_paren (suc n) o z h ts r y e1

  opened_value : (n : ℕ) (ts r : List Token) (y : Sized) → sees_type types ts ≡ false → (q : Opened n ts y r) → begun leaves types F (suc n) ts ≡ Ok ((bg.Value y.0, y.1), r)
  opened_value n ts r y no_type q =
      ap (begun leaves types F (suc n)) q.is ∙ opened_is n q.open_token q.inside q.opens (sym (ap (sees_type types) q.is) ∙ no_type)
      ∙ ap (λ z. and_then z (parse.begun_after leaves types F (suc n) q.open_token)) q.begins ∙ last_part n q.open_token q.part q.low q.rest r y q.goes_on

  value_zero : ValueAt 0
  value_zero v x i d low r s f = absurd (let high : 0 < i = asg_high leaves types d in omega (arith, high, low))

  value_step : (n : ℕ) → ValueAt n → ValueAt (suc n)
  value_step n ih v x i d low r s f = go (same_kind (kind (v ++ r)) k.LeftParen) refl
    where
      no_type : sees_type types (v ++ r) ≡ false
      no_type = (asg_starts leaves types d r).no_type

      go : (b : Bool) → same_kind (kind (v ++ r)) k.LeftParen ≡ b → begun leaves types F (suc n) (v ++ r) ≡ Ok ((bg.Value x, i), r)
      go false b = value_first (suc n) (v ++ r) r (x, i) no_type b (asg_c leaves types F d (suc n) low r s (inl f))
      go true b = opened_value n (v ++ r) r (x, i) no_type (opened_by n ih v x i d low r s f (opens_of v x i r d b))

  value_at : (n : ℕ) → ValueAt n
  value_at zero = value_zero
  value_at (suc n) = value_step n (value_at n)

  pub opened_c : {v : List Token} {x : Expr} {i : ℕ} → IsAsg leaves types v x i → (n : ℕ) → i ≤ suc n → (r : List Token) → length (v ++ r) < F → FollowAsg (kind r) → same_kind (kind (v ++ r)) k.LeftParen ≡ true → Opened n (v ++ r) (x, i) r
  opened_c {v} {x} {i} d n low r s f b = opened_by n (value_at n) v x i d low r s f (opens_of v x i r d b)
