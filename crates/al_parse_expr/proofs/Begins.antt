-- How expressions begin, how long they are, how high, and which tokens they may begin with.
use Rattle.std.proofs.Common.{◌≡◌, ℕ, zero, suc, ◌+◌, ◌<◌, ◌≤◌, max, Bool, true, false, if◌then◌else◌, ◌||◌, ◌&&◌, not, List, [], ◌∷◌, ◌++◌, length, Option, Some, None, is_some, refl, sym, ap, ap₂, ◌∙◌, subst, arith, append_assoc, append-nil, length-append}
use Rattle.al_base.specs.declared.place.Place.{Place}
use Rattle.al_lex.specs.declared.kind.TokenKind.{TokenKind}
use Rattle.al_lex.specs.declared.kind.TokenKind.TheVariants as k
use Rattle.al_lex.specs.declared.token.Token.{Token}
use Rattle.al_tree.specs.Words.{start, is_name, is_left_paren, is_tuple_or_chan, basic_type, prefix_operator, access, postfix_operator}
use Rattle.al_tree.specs.Types.{Leaves, known, IsOtherName, other_name, IsStarred}
use Rattle.al_tree.specs.Expressions.{begins_cast, begins_cast_type, ends_in_name, loosest, IsPrim, number, char, text, nil, name, paren, tuple, IsPost, prim, index, member, call, postfix, IsCallee, called_name, called_member, called_value, IsArguments, no_arguments, arguments, IsUnary, post, prefix, cast, sizeof_type, sizeof_value, IsBinary, unary, tighter, binary, iterator, IsAsg, value, assign, IsAsgs, one, more, IsExpr, only, sequence}
use Rattle.al_tree.specs.Reading.{kind, name_number, same_kind}
use Rattle.al_tree.specs.declared.expression.UnaryOp.{UnaryOp}
use Rattle.al_tree.specs.declared.expression.Access.{Access}
use Rattle.al_tree.specs.declared.expression.Expr.{Expr}
use Rattle.al_tree.specs.declared.expression.Expr.TheVariants as e
use Rattle.al_tree.proofs.Law.{Has, head, token, token_at, kind_local}
use Rattle.al_parse_type.specs.Parse.{sees_type, sees_type_name, sees_other_name}
use Rattle.al_parse_type.proofs.BoundLaw.{kind_is, other_local, other_is}
use Rattle.al_parse_type.proofs.TypeComplete.{number_sees, other_sees, paren_sees}
use Rattle.al_parse_expr.specs.Parse.{Sized, begins_value}
use Rattle.al_parse_expr.specs.declared.operand.Want.{Want}
use Rattle.al_parse_expr.specs.declared.operand.Want.TheVariants as want

-- ---- the last token

pub ends_last : (u : List Token) (t : Token) → ends_in_name (u ++ t ∷ []) ≡ is_name t.kind
ends_last [] t = refl
ends_last (s ∷ []) t = refl
ends_last (s ∷ r ∷ u) t = ends_last (r ∷ u) t

pub ends_token : (t : Token) (kd : TokenKind) → t.kind ≡ kd → is_name kd ≡ false → ends_in_name (t ∷ []) ≡ false
ends_token t kd c h = ap is_name c ∙ h

-- what ends in a token that is no name
pub ends_closed : (u : List Token) (o : Token) (v : List Token) (c : Token) (kd : TokenKind) → c.kind ≡ kd → is_name kd ≡ false → ends_in_name (u ++ o ∷ (v ++ c ∷ [])) ≡ false
ends_closed u o v c kd h n = ap ends_in_name (sym (append_assoc u (o ∷ v) (c ∷ []))) ∙ ends_last (u ++ o ∷ v) c ∙ ap is_name h ∙ n

pub ends_with : (u : List Token) (c : Token) (kd : TokenKind) → c.kind ≡ kd → is_name kd ≡ false → ends_in_name (u ++ c ∷ []) ≡ false
ends_with u c kd h n = ends_last u c ∙ ap is_name h ∙ n

-- ---- the first token

both_ways : (kd : TokenKind) (b : Bool) → (is_some (basic_type kd) || is_tuple_or_chan kd || (is_name kd && b)) ≡ (is_some (basic_type kd) || (same_kind kd k.Tuple || (same_kind kd k.Chan || (same_kind kd k.Name && b))))
unfolding same_kind
both_ways k.Name b = refl
both_ways _ b = refl

pub paren_kind : (kd : TokenKind) → is_left_paren kd ≡ same_kind kd k.LeftParen
unfolding same_kind
paren_kind k.LeftParen = refl
paren_kind _ = refl

prefix_kinds : (kd : TokenKind) (op : UnaryOp) → prefix_operator kd ≡ Some op → (is_some (basic_type kd) ≡ false) × (same_kind kd k.Tuple ≡ false) × (same_kind kd k.Chan ≡ false) × (same_kind kd k.Name ≡ false) × (same_kind kd k.RightParen ≡ false) × (is_left_paren kd ≡ false)
unfolding same_kind
prefix_kinds k.Plus op h = (refl, refl, refl, refl, refl, refl)
prefix_kinds k.Minus op h = (refl, refl, refl, refl, refl, refl)
prefix_kinds k.Not op h = (refl, refl, refl, refl, refl, refl)
prefix_kinds k.Tilde op h = (refl, refl, refl, refl, refl, refl)
prefix_kinds k.Star op h = (refl, refl, refl, refl, refl, refl)
prefix_kinds k.And op h = (refl, refl, refl, refl, refl, refl)
prefix_kinds k.PlusPlus op h = (refl, refl, refl, refl, refl, refl)
prefix_kinds k.MinusMinus op h = (refl, refl, refl, refl, refl, refl)
prefix_kinds k.LeftArrow op h = (refl, refl, refl, refl, refl, refl)
prefix_kinds k.Question op h = (refl, refl, refl, refl, refl, refl)
prefix_kinds k.Zerox op h = (refl, refl, refl, refl, refl, refl)
prefix_kinds _ op h = absurd (let f : ⊥ = cc in f)

pub or_either : {A : Type 0} (x y : Bool) → (x || y) ≡ true → (x ≡ true → A) → (y ≡ true → A) → A
or_either true y h f g = f refl
or_either false y h f g = g h

pub neither : (x y : Bool) → (x || y) ≡ false → (x ≡ false) × (y ≡ false)
neither true y h = absurd (let f : ⊥ = cc in f)
neither false y h = (refl, h)

record SomeOp (o : Option UnaryOp) : Type 0 where
  op : UnaryOp
  is : o ≡ Some op

some_op : (o : Option UnaryOp) → is_some o ≡ true → SomeOp o
some_op (Some x) h = record { op = x; is = refl }
some_op None h = absurd (let f : ⊥ = cc in f)

pub none_op : (o : Option UnaryOp) → is_some o ≡ false → o ≡ None
none_op (Some x) h = absurd (let f : ⊥ = cc in f)
none_op None h = refl

module _ (leaves : Leaves) (types : List ℕ) where
  pub cast_sees : (o : Token) (ts : List Token) → o.kind ≡ k.LeftParen → begins_cast types (o ∷ ts) ≡ sees_type types ts
  unfolding sees_type sees_type_name kind name_number same_kind
  cast_sees o [] h = refl
  cast_sees o (t ∷ ts) h = ap (λ kd. is_left_paren kd && begins_cast_type types t) h ∙ both_ways t.kind (known types t.name)

  pub no_paren_no_cast : (t : Token) (ts : List Token) → is_left_paren t.kind ≡ false → begins_cast types (t ∷ ts) ≡ false
  no_paren_no_cast t [] h = refl
  no_paren_no_cast t (s ∷ ts) h = ap (λ b. b && begins_cast_type types s) h

  pub other_no_cast : (u : List Token) → same_kind (kind u) k.LeftParen ≡ false → begins_cast types u ≡ false
  unfolding kind
  other_no_cast [] h = refl
  other_no_cast (t ∷ ts) h = no_paren_no_cast t ts (paren_kind t.kind ∙ h)

  -- an expression begins with no type, and no parenthesis that closes
  pub record Starts (ts : List Token) : Type 0 where
    pub no_type : sees_type types ts ≡ false
    pub no_close : same_kind (kind ts) k.RightParen ≡ false

  pub starts_at : (kd : TokenKind) (t : Token) (ts : List Token) → t.kind ≡ kd → is_some (basic_type kd) ≡ false → same_kind kd k.Tuple ≡ false → same_kind kd k.Chan ≡ false → same_kind kd k.Name ≡ false → same_kind kd k.RightParen ≡ false → Starts (t ∷ ts)
  unfolding sees_type sees_type_name kind name_number
  starts_at kd t ts c b tu ch na cl = record { no_type = rw (c, b, tu, ch, na) refl; no_close = rw (c, cl) refl }

  starts_name : (t : Token) (ts : List Token) → t.kind ≡ k.Name → known types t.name ≡ false → Starts (t ∷ ts)
  unfolding kind same_kind
  starts_name t ts c h = record { no_type = other_sees leaves types 0 t ts c h; no_close = rw c refl }

  regroup : (u v r : List Token) → Starts (u ++ (v ++ r)) → Starts ((u ++ v) ++ r)
  regroup u v r s = subst (λ l. Starts l) (sym (append_assoc u v r)) s

  pub prim_starts : {u : List Token} {x : Expr} {h : ℕ} → IsPrim leaves types u x h → (r : List Token) → Starts (u ++ r)
  unfolding same_kind
  prim_starts (number t c) r = starts_at k.Number t r c refl refl refl refl refl
  prim_starts (char t c) r = starts_at k.Char t r c refl refl refl refl refl
  prim_starts (text t c) r = starts_at k.Text t r c refl refl refl refl refl
  prim_starts (nil t c) r = starts_at k.Nil t r c refl refl refl refl refl
  prim_starts (name t (other_name c d)) r = starts_name t r c d
  prim_starts (paren o c {u = u} oc a ec) r = starts_at k.LeftParen o ((u ++ c ∷ []) ++ r) oc refl refl refl refl refl
  prim_starts (tuple o t c {u = u} {v = v} oc l tc a ec) r = starts_at k.LeftParen o ((u ++ t ∷ (v ++ c ∷ [])) ++ r) oc refl refl refl refl refl

  mutual
    pub post_starts : {u : List Token} {x : Expr} {h : ℕ} → IsPost leaves types u x h → (r : List Token) → Starts (u ++ r)
    post_starts (prim d) r = prim_starts d r
    post_starts (index o c {u = u} {v = v} p a b d) r = regroup u (o ∷ (v ++ c ∷ [])) r (post_starts p ((o ∷ (v ++ c ∷ [])) ++ r))
    post_starts (member t n {u = u} p a b) r = regroup u (t ∷ n ∷ []) r (post_starts p ((t ∷ n ∷ []) ++ r))
    post_starts (call o c {u = u} {v = v} p a b d) r = regroup u (o ∷ (v ++ c ∷ [])) r (callee_starts p ((o ∷ (v ++ c ∷ [])) ++ r))
    post_starts (postfix t {u = u} p a) r = regroup u (t ∷ []) r (post_starts p ((t ∷ []) ++ r))

    pub callee_starts : {u : List Token} {x : Expr} {h : ℕ} → IsCallee leaves types u x h → (r : List Token) → Starts (u ++ r)
    callee_starts (called_name t (other_name c d)) r = starts_name t r c d
    callee_starts (called_member t n {u = u} p a b) r = regroup u (t ∷ n ∷ []) r (post_starts p ((t ∷ n ∷ []) ++ r))
    callee_starts (called_value p n) r = post_starts p r

  pub unary_starts : {u : List Token} {x : Expr} {h : ℕ} → IsUnary leaves types u x h → (r : List Token) → Starts (u ++ r)
  unfolding same_kind
  unary_starts (post d) r = post_starts d r
  unary_starts (prefix t {u = u} {op = op} a d) r = let q = prefix_kinds t.kind op a in starts_at t.kind t (u ++ r) refl q.0 q.1 q.2 q.3 q.4
  unary_starts (cast o c {u = u} {v = v} oc a ec d) r = starts_at k.LeftParen o ((u ++ c ∷ v) ++ r) oc refl refl refl refl refl
  unary_starts (sizeof_type t o c {u = u} tc oc a ec) r = starts_at k.Sizeof t ((o ∷ (u ++ c ∷ [])) ++ r) tc refl refl refl refl refl
  unary_starts (sizeof_value t {u = u} tc d n) r = starts_at k.Sizeof t (u ++ r) tc refl refl refl refl refl

  pub binary_starts : {l : ℕ} {u : List Token} {x : Expr} {h : ℕ} → IsBinary leaves types l u x h → (r : List Token) → Starts (u ++ r)
  binary_starts (unary d) r = unary_starts d r
  binary_starts (tighter d) r = binary_starts d r
  binary_starts (binary t {u = u} {v = v} d a b) r = regroup u (t ∷ v) r (binary_starts d ((t ∷ v) ++ r))
  binary_starts (iterator t {u = u} {v = v} d a b) r = regroup u (t ∷ v) r (binary_starts d ((t ∷ v) ++ r))

  pub asg_starts : {u : List Token} {x : Expr} {h : ℕ} → IsAsg leaves types u x h → (r : List Token) → Starts (u ++ r)
  asg_starts (value d) r = binary_starts d r
  asg_starts (assign t {u = u} {v = v} d a b) r = regroup u (t ∷ v) r (unary_starts d ((t ∷ v) ++ r))

  pub asgs_starts : {u : List Token} {xs : List Expr} {h : ℕ} → IsAsgs leaves types u xs h → (r : List Token) → Starts (u ++ r)
  asgs_starts (one d) r = asg_starts d r
  asgs_starts (more t {u = u} {v = v} d a b) r = regroup u (t ∷ v) r (asgs_starts d ((t ∷ v) ++ r))

  -- ---- a postfix expression begins with no cast

  longer : (u v r : List Token) → begins_cast types (u ++ (v ++ r)) ≡ false → begins_cast types ((u ++ v) ++ r) ≡ false
  longer u v r s = ap (begins_cast types) (append_assoc u v r) ∙ s

  prim_no_cast : {u : List Token} {x : Expr} {h : ℕ} → IsPrim leaves types u x h → (r : List Token) → begins_cast types (u ++ r) ≡ false
  prim_no_cast (number t c) r = no_paren_no_cast t r (ap is_left_paren c)
  prim_no_cast (char t c) r = no_paren_no_cast t r (ap is_left_paren c)
  prim_no_cast (text t c) r = no_paren_no_cast t r (ap is_left_paren c)
  prim_no_cast (nil t c) r = no_paren_no_cast t r (ap is_left_paren c)
  prim_no_cast (name t (other_name c d)) r = no_paren_no_cast t r (ap is_left_paren c)
  prim_no_cast (paren o c {u = u} oc a ec) r = cast_sees o ((u ++ c ∷ []) ++ r) oc ∙ ap (sees_type types) (append_assoc u (c ∷ []) r) ∙ (asg_starts a ((c ∷ []) ++ r)).no_type
  prim_no_cast (tuple o t c {u = u} {v = v} oc l tc a ec) r = cast_sees o ((u ++ t ∷ (v ++ c ∷ [])) ++ r) oc ∙ ap (sees_type types) (append_assoc u (t ∷ (v ++ c ∷ [])) r) ∙ (asgs_starts l ((t ∷ (v ++ c ∷ [])) ++ r)).no_type

  mutual
    pub post_no_cast : {u : List Token} {x : Expr} {h : ℕ} → IsPost leaves types u x h → (r : List Token) → begins_cast types (u ++ r) ≡ false
    post_no_cast (prim d) r = prim_no_cast d r
    post_no_cast (index o c {u = u} {v = v} p a b d) r = longer u (o ∷ (v ++ c ∷ [])) r (post_no_cast p ((o ∷ (v ++ c ∷ [])) ++ r))
    post_no_cast (member t n {u = u} p a b) r = longer u (t ∷ n ∷ []) r (post_no_cast p ((t ∷ n ∷ []) ++ r))
    post_no_cast (call o c {u = u} {v = v} p a b d) r = longer u (o ∷ (v ++ c ∷ [])) r (callee_no_cast p ((o ∷ (v ++ c ∷ [])) ++ r))
    post_no_cast (postfix t {u = u} p a) r = longer u (t ∷ []) r (post_no_cast p ((t ∷ []) ++ r))

    callee_no_cast : {u : List Token} {x : Expr} {h : ℕ} → IsCallee leaves types u x h → (r : List Token) → begins_cast types (u ++ r) ≡ false
    callee_no_cast (called_name t (other_name c d)) r = no_paren_no_cast t r (ap is_left_paren c)
    callee_no_cast (called_member t n {u = u} p a b) r = longer u (t ∷ n ∷ []) r (post_no_cast p ((t ∷ n ∷ []) ++ r))
    callee_no_cast (called_value p n) r = post_no_cast p r

  pub post_is_no_cast : {u : List Token} {x : Expr} {h : ℕ} → IsPost leaves types u x h → begins_cast types u ≡ false
  post_is_no_cast {u} d = ap (begins_cast types) (sym (append-nil u)) ∙ post_no_cast d []

  -- ---- lengths

  pub prim_long : {u : List Token} {x : Expr} {h : ℕ} → IsPrim leaves types u x h → 0 < length u
  prim_long (number t c) = omega arith
  prim_long (char t c) = omega arith
  prim_long (text t c) = omega arith
  prim_long (nil t c) = omega arith
  prim_long (name t c) = omega arith
  prim_long (paren o c oc a ec) = omega arith
  prim_long (tuple o t c oc l tc a ec) = omega arith

  mutual
    pub post_long : {u : List Token} {x : Expr} {h : ℕ} → IsPost leaves types u x h → 0 < length u
    post_long (prim d) = prim_long d
    post_long (index o c {u = u} {v = v} p a b d) = omega (arith, length-append u (o ∷ (v ++ c ∷ [])))
    post_long (member t n {u = u} p a b) = omega (arith, length-append u (t ∷ n ∷ []))
    post_long (call o c {u = u} {v = v} p a b d) = omega (arith, length-append u (o ∷ (v ++ c ∷ [])))
    post_long (postfix t {u = u} p a) = omega (arith, length-append u (t ∷ []))

    pub callee_long : {u : List Token} {x : Expr} {h : ℕ} → IsCallee leaves types u x h → 0 < length u
    callee_long (called_name t c) = omega arith
    callee_long (called_member t n {u = u} p a b) = omega (arith, length-append u (t ∷ n ∷ []))
    callee_long (called_value p n) = post_long p

  pub unary_long : {u : List Token} {x : Expr} {h : ℕ} → IsUnary leaves types u x h → 0 < length u
  unary_long (post d) = post_long d
  unary_long (prefix t a d) = omega arith
  unary_long (cast o c oc a ec d) = omega arith
  unary_long (sizeof_type t o c tc oc a ec) = omega arith
  unary_long (sizeof_value t tc d n) = omega arith

  pub binary_long : {l : ℕ} {u : List Token} {x : Expr} {h : ℕ} → IsBinary leaves types l u x h → 0 < length u
  binary_long (unary d) = unary_long d
  binary_long (tighter d) = binary_long d
  binary_long (binary t {u = u} {v = v} d a b) = omega (arith, length-append u (t ∷ v))
  binary_long (iterator t {u = u} {v = v} d a b) = omega (arith, length-append u (t ∷ v))

  pub asg_long : {u : List Token} {x : Expr} {h : ℕ} → IsAsg leaves types u x h → 0 < length u
  asg_long (value d) = binary_long d
  asg_long (assign t {u = u} {v = v} d a b) = omega (arith, length-append u (t ∷ v))

  pub asgs_some : {u : List Token} {xs : List Expr} {h : ℕ} → IsAsgs leaves types u xs h → 0 < length xs
  asgs_some (one d) = omega arith
  asgs_some (more t {xs = xs} {x = x} l c d) = omega (arith, length-append xs (x ∷ []))

  -- ---- heights

  pub prim_high : {u : List Token} {x : Expr} {h : ℕ} → IsPrim leaves types u x h → 0 < h
  prim_high (number t c) = omega arith
  prim_high (char t c) = omega arith
  prim_high (text t c) = omega arith
  prim_high (nil t c) = omega arith
  prim_high (name t c) = omega arith
  prim_high (paren o c oc a ec) = omega arith
  prim_high (tuple o t c oc l tc a ec) = omega arith

  pub post_high : {u : List Token} {x : Expr} {h : ℕ} → IsPost leaves types u x h → 0 < h
  post_high (prim d) = prim_high d
  post_high (index o c p a b d) = omega arith
  post_high (member t n p a b) = omega arith
  post_high (call o c p a b d) = omega arith
  post_high (postfix t p a) = omega arith

  pub unary_high : {u : List Token} {x : Expr} {h : ℕ} → IsUnary leaves types u x h → 0 < h
  unary_high (post d) = post_high d
  unary_high (prefix t a d) = omega arith
  unary_high (cast o c oc a ec d) = omega arith
  unary_high (sizeof_type t o c tc oc a ec) = omega arith
  unary_high (sizeof_value t tc d n) = omega arith

  pub binary_high : {l : ℕ} {u : List Token} {x : Expr} {h : ℕ} → IsBinary leaves types l u x h → 0 < h
  binary_high (unary d) = unary_high d
  binary_high (tighter d) = binary_high d
  binary_high (binary t d a b) = omega arith
  binary_high (iterator t d a b) = omega arith

  pub asg_high : {u : List Token} {x : Expr} {h : ℕ} → IsAsg leaves types u x h → 0 < h
  asg_high (value d) = binary_high d
  asg_high (assign t d a b) = omega arith

  pub expr_high : {u : List Token} {x : Expr} {h : ℕ} → IsExpr leaves types u x h → 0 < h
  expr_high (only d) = asg_high d
  expr_high (sequence t l c d) = omega arith

  -- ---- the tokens that may begin an expression

  pub unary_of : {u : List Token} {x : Expr} {h : ℕ} → IsBinary leaves types 0 u x h → IsUnary leaves types u x h
  unary_of (unary d) = d

  pub lifted : (l : ℕ) {u : List Token} {x : Expr} {h : ℕ} → IsUnary leaves types u x h → IsBinary leaves types l u x h
  lifted zero d = unary d
  lifted (suc l) d = tighter (lifted l d)

  pub asg_of : {u : List Token} {x : Expr} {h : ℕ} → IsUnary leaves types u x h → IsAsg leaves types u x h
  asg_of d = value (lifted loosest d)

  abbrev pub one_at : Place → Token
  one_at at = token_at at k.Number

  abbrev pub one_tree : Place → Expr
  one_tree at = e.Number at (leaves.number (one_at at))

  pub one_prim : (at : Place) → IsPrim leaves types (one_at at ∷ []) (one_tree at) 1
  one_prim at = number (one_at at) refl

  pub one_unary : (at : Place) → IsUnary leaves types (one_at at ∷ []) (one_tree at) 1
  one_unary at = post (prim (one_prim at))

  pub one_asg : (at : Place) → IsAsg leaves types (one_at at ∷ []) (one_tree at) 1
  one_asg at = asg_of (one_unary at)

  pub value_local : (ts ts' : List Token) → head ts ≡ head ts' → begins_value types ts ≡ begins_value types ts'
  unfolding begins_value
  value_local ts ts' h = ap₂ (λ kd b. same_kind kd k.Number || (same_kind kd k.Char || (same_kind kd k.Text || (same_kind kd k.Nil || (same_kind kd k.LeftParen || (same_kind kd k.Sizeof || (is_some (prefix_operator kd) || b)))))))
      (kind_local ts ts' h) (other_local leaves types ts ts' h)

  pub no_value : begins_value types [] ≡ false
  unfolding begins_value kind same_kind sees_other_name
  no_value = refl

  abbrev nowhere : Place
  nowhere = start []

  -- a unary expression goes on from a token that may begin it
  pub value_begins : (t : Token) (ts : List Token) → begins_value types (t ∷ ts) ≡ true → Has {A = Sized} (λ v x. IsUnary leaves types (t ∷ v) x.0 x.1)
  unfolding begins_value kind
  value_begins t ts h =
      or_either (same_kind t.kind k.Number) _ h
      (λ b. record { word = []; value = (e.Number t.place (leaves.number t), 1); is = post (prim (number t (kind_is t.kind k.Number b))) })
      (λ h1. or_either (same_kind t.kind k.Char) _ h1
      (λ b. record { word = []; value = (e.Char t.place (leaves.byte t), 1); is = post (prim (char t (kind_is t.kind k.Char b))) })
      (λ h2. or_either (same_kind t.kind k.Text) _ h2
      (λ b. record { word = []; value = (e.Text t.place (leaves.bytes t), 1); is = post (prim (text t (kind_is t.kind k.Text b))) })
      (λ h3. or_either (same_kind t.kind k.Nil) _ h3
      (λ b. record { word = []; value = (e.Nil t.place, 1); is = post (prim (nil t (kind_is t.kind k.Nil b))) })
      (λ h4. or_either (same_kind t.kind k.LeftParen) _ h4
      (λ b. record { word = one_at nowhere ∷ token k.RightParen ∷ []; value = (one_tree nowhere, 1 + 1); is = post (prim (paren t (token k.RightParen) (kind_is t.kind k.LeftParen b) (one_asg nowhere) refl)) })
      (λ h5. or_either (same_kind t.kind k.Sizeof) _ h5
      (λ b. record { word = one_at nowhere ∷ []; value = (e.SizeofValue t.place (one_tree nowhere), 1 + 1); is = sizeof_value t (kind_is t.kind k.Sizeof b) (one_unary nowhere) refl })
      (λ h6. or_either (is_some (prefix_operator t.kind)) _ h6
      (λ b. let o = some_op (prefix_operator t.kind) b in record { word = one_at nowhere ∷ []; value = (e.Unary t.place o.op (one_tree nowhere), 1 + 1); is = prefix t o.is (one_unary nowhere) })
      (λ b. record { word = []; value = (e.Name t.place t.name, 1); is = post (prim (name t (other_is leaves types t ts b))) })))))))
