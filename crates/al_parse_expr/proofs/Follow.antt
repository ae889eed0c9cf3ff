-- What may stand behind an expression that is read to its end: a token that none goes on with, or one that it does not
-- go on with.
use Rattle.std.proofs.Common.{◌≡◌, ℕ, zero, suc, pred, ◌+◌, ◌<◌, ◌≤◌, ◌==◌, max, Bool, true, false, if◌then◌else◌, List, [], ◌∷◌, ◌++◌, length, Option, Some, None, ◌⊎◌, inl, inr, refl, sym, ap, ◌∙◌, subst, arith, append_assoc, append-nil, length-append}
use Rattle.std.proofs.lemmas.Grind.{common_steps}
use Rattle.al_base.specs.declared.place.Place.{Place}
use Rattle.al_lex.specs.declared.kind.TokenKind.{TokenKind}
use Rattle.al_lex.specs.declared.kind.TokenKind.TheVariants as k
use Rattle.al_lex.specs.declared.token.Token.{Token}
use Rattle.al_tree.specs.Words.{start, is_name, access, postfix_operator, level, operation, operator, assign_operator}
use Rattle.al_tree.specs.Types.{Leaves, name_at}
use Rattle.al_tree.specs.Expressions.{loosest, ends_in_name, IsPrim, number, char, text, nil, name, paren, tuple, IsPost, prim, index, member, call, postfix, IsCallee, called_name, called_member, called_value, IsArguments, no_arguments, IsUnary, post, prefix, cast, sizeof_type, sizeof_value, IsBinary, unary, tighter, binary, iterator, IsAsg, value, assign, IsAsgs, one, more, IsExpr, only, sequence}
use Rattle.al_tree.specs.Reading.{kind, same_kind}
use Rattle.al_tree.specs.Correct.{Grammar}
use Rattle.al_tree.specs.Parts.{Ends}
use Rattle.al_tree.specs.declared.expression.PostfixOp.{PostfixOp}
use Rattle.al_tree.specs.declared.expression.BinaryOp.{BinaryOp}
use Rattle.al_tree.specs.declared.expression.AssignOp.{AssignOp}
use Rattle.al_tree.specs.declared.expression.Access.{Access}
use Rattle.al_tree.specs.declared.expression.Expr.{Expr}
use Rattle.al_tree.specs.declared.expression.Expr.TheVariants as e
use Rattle.al_tree.proofs.Law.{token}
use Rattle.al_parse_type.proofs.BoundLaw.{kind_is, fresh_token, fresh_is}
use Rattle.al_parse_expr.proofs.Begins.{ends_token, ends_closed, ends_with, lifted, one_at, one_tree, one_unary, one_asg}

-- no postfix expression goes on with such a token
pub record FollowPost (kd : TokenKind) : Type 0 where
  pub no_access : access kd ≡ None
  pub no_postfix : postfix_operator kd ≡ None
  pub no_bracket : same_kind kd k.LeftBracket ≡ false
  pub no_paren : same_kind kd k.LeftParen ≡ false

-- nor one with operators of the levels below l
pub record Follow (l : ℕ) (kd : TokenKind) : Type 0 where
  pub post : FollowPost kd
  pub operators : (i : ℕ) → i < l → operator i kd ≡ None
  pub colons : 3 < l → same_kind kd k.ColonColon ≡ false

pub record FollowAsg (kd : TokenKind) : Type 0 where
  pub follow : Follow loosest kd
  pub assign : assign_operator kd ≡ None

pub record FollowExpr (kd : TokenKind) : Type 0 where
  pub asg : FollowAsg kd
  pub comma : same_kind kd k.Comma ≡ false

if_both : {A : Type 0} (b : Bool) → ◌≡◌ {A = Option A} (if b then None else None) None
if_both true = refl
if_both false = refl

no_operator : (kd : TokenKind) (i : ℕ) → operation kd ≡ None → operator i kd ≡ None
no_operator kd i h = rw h (if_both (level kd == i))

pub before_paren : FollowExpr k.RightParen
unfolding same_kind
before_paren = record { asg = record { follow = record { post = record { no_access = refl; no_postfix = refl; no_bracket = refl; no_paren = refl }; operators = λ i s. no_operator k.RightParen i refl; colons = λ s. refl }; assign = refl }; comma = refl }

pub before_bracket : FollowExpr k.RightBracket
unfolding same_kind
before_bracket = record { asg = record { follow = record { post = record { no_access = refl; no_postfix = refl; no_bracket = refl; no_paren = refl }; operators = λ i s. no_operator k.RightBracket i refl; colons = λ s. refl }; assign = refl }; comma = refl }

pub before_comma : FollowAsg k.Comma
unfolding same_kind
before_comma = record { follow = record { post = record { no_access = refl; no_postfix = refl; no_bracket = refl; no_paren = refl }; operators = λ i s. no_operator k.Comma i refl; colons = λ s. refl }; assign = refl }

pub before_colons : Follow 3 k.ColonColon
unfolding same_kind
before_colons = record { post = record { no_access = refl; no_postfix = refl; no_bracket = refl; no_paren = refl }; operators = λ i s. no_operator k.ColonColon i refl; colons = λ s. absurd (omega (arith, s)) }

record OperatorKind (kd : TokenKind) : Type 0 where
  post : FollowPost kd
  colons : same_kind kd k.ColonColon ≡ false
  assign : assign_operator kd ≡ None

operator_kind : (kd : TokenKind) (op : BinaryOp) → operation kd ≡ Some op → OperatorKind kd
unfolding same_kind
operator_kind k.Star op h = record { post = record { no_access = refl; no_postfix = refl; no_bracket = refl; no_paren = refl }; colons = refl; assign = refl }
operator_kind k.Slash op h = record { post = record { no_access = refl; no_postfix = refl; no_bracket = refl; no_paren = refl }; colons = refl; assign = refl }
operator_kind k.Percent op h = record { post = record { no_access = refl; no_postfix = refl; no_bracket = refl; no_paren = refl }; colons = refl; assign = refl }
operator_kind k.Plus op h = record { post = record { no_access = refl; no_postfix = refl; no_bracket = refl; no_paren = refl }; colons = refl; assign = refl }
operator_kind k.Minus op h = record { post = record { no_access = refl; no_postfix = refl; no_bracket = refl; no_paren = refl }; colons = refl; assign = refl }
operator_kind k.ShiftLeft op h = record { post = record { no_access = refl; no_postfix = refl; no_bracket = refl; no_paren = refl }; colons = refl; assign = refl }
operator_kind k.ShiftRight op h = record { post = record { no_access = refl; no_postfix = refl; no_bracket = refl; no_paren = refl }; colons = refl; assign = refl }
operator_kind k.Less op h = record { post = record { no_access = refl; no_postfix = refl; no_bracket = refl; no_paren = refl }; colons = refl; assign = refl }
operator_kind k.Greater op h = record { post = record { no_access = refl; no_postfix = refl; no_bracket = refl; no_paren = refl }; colons = refl; assign = refl }
operator_kind k.LessEqual op h = record { post = record { no_access = refl; no_postfix = refl; no_bracket = refl; no_paren = refl }; colons = refl; assign = refl }
operator_kind k.GreaterEqual op h = record { post = record { no_access = refl; no_postfix = refl; no_bracket = refl; no_paren = refl }; colons = refl; assign = refl }
operator_kind k.EqualEqual op h = record { post = record { no_access = refl; no_postfix = refl; no_bracket = refl; no_paren = refl }; colons = refl; assign = refl }
operator_kind k.NotEqual op h = record { post = record { no_access = refl; no_postfix = refl; no_bracket = refl; no_paren = refl }; colons = refl; assign = refl }
operator_kind k.And op h = record { post = record { no_access = refl; no_postfix = refl; no_bracket = refl; no_paren = refl }; colons = refl; assign = refl }
operator_kind k.Caret op h = record { post = record { no_access = refl; no_postfix = refl; no_bracket = refl; no_paren = refl }; colons = refl; assign = refl }
operator_kind k.Or op h = record { post = record { no_access = refl; no_postfix = refl; no_bracket = refl; no_paren = refl }; colons = refl; assign = refl }
operator_kind k.AndAnd op h = record { post = record { no_access = refl; no_postfix = refl; no_bracket = refl; no_paren = refl }; colons = refl; assign = refl }
operator_kind k.OrOr op h = record { post = record { no_access = refl; no_postfix = refl; no_bracket = refl; no_paren = refl }; colons = refl; assign = refl }
operator_kind _ op h = absurd (let f : ⊥ = cc in f)

if_some : {A : Type 0} {y : A} (b : Bool) (o : Option A) → (if b then o else None) ≡ Some y → (b ≡ true) × (o ≡ Some y)
if_some true o h = (refl, h)
if_some false o h = absurd (let f : ⊥ = cc in f)

other_level : (a l i : ℕ) → (a == l) ≡ true → i < l → (a == i) ≡ false
other_level a l i h s = grind (arith, common_steps)

-- before an operator of a level
pub before_operator : (l : ℕ) (kd : TokenKind) (op : BinaryOp) → operator l kd ≡ Some op → Follow l kd × (assign_operator kd ≡ None)
before_operator l kd op o =
    let p = if_some (level kd == l) (operation kd) o in
    let q = operator_kind kd op p.1 in
    (record { post = q.post; operators = λ i s. let d : (level kd == i) ≡ false = other_level (level kd) l i p.0 s in rw d refl; colons = λ s. q.colons }, q.assign)

-- no operator has the level of `::`
no_third : (kd : TokenKind) → (level kd == 3) ≡ false
no_third k.Star = refl
no_third k.Slash = refl
no_third k.Percent = refl
no_third k.Plus = refl
no_third k.Minus = refl
no_third k.ShiftLeft = refl
no_third k.ShiftRight = refl
no_third k.Less = refl
no_third k.Greater = refl
no_third k.LessEqual = refl
no_third k.GreaterEqual = refl
no_third k.EqualEqual = refl
no_third k.NotEqual = refl
no_third k.And = refl
no_third k.Caret = refl
no_third k.Or = refl
no_third k.AndAnd = refl
no_third k.OrOr = refl
no_third _ = refl

equal_is : (a b : ℕ) → (a == b) ≡ true → a ≡ b
equal_is a b h = grind arith

pub operator_level : (l : ℕ) (kd : TokenKind) (op : BinaryOp) → operator l kd ≡ Some op → (l == 3) ≡ false
operator_level l kd op o = go (l == 3) refl
  where
    p : ((level kd == l) ≡ true) × (operation kd ≡ Some op)
    p = if_some (level kd == l) (operation kd) o

    go : (b : Bool) → (l == 3) ≡ b → b ≡ false
    go true h = let e : l ≡ 3 = equal_is l 3 h in let f : (level kd == 3) ≡ true = subst (λ m. (level kd == m) ≡ true) e p.0 in sym f ∙ no_third kd
    go false h = refl

pub before_assign : (kd : TokenKind) (op : AssignOp) → assign_operator kd ≡ Some op → FollowPost kd
unfolding same_kind
before_assign k.Equal op h = record { no_access = refl; no_postfix = refl; no_bracket = refl; no_paren = refl }
before_assign k.PlusEqual op h = record { no_access = refl; no_postfix = refl; no_bracket = refl; no_paren = refl }
before_assign k.MinusEqual op h = record { no_access = refl; no_postfix = refl; no_bracket = refl; no_paren = refl }
before_assign k.StarEqual op h = record { no_access = refl; no_postfix = refl; no_bracket = refl; no_paren = refl }
before_assign k.SlashEqual op h = record { no_access = refl; no_postfix = refl; no_bracket = refl; no_paren = refl }
before_assign k.PercentEqual op h = record { no_access = refl; no_postfix = refl; no_bracket = refl; no_paren = refl }
before_assign k.AndEqual op h = record { no_access = refl; no_postfix = refl; no_bracket = refl; no_paren = refl }
before_assign k.OrEqual op h = record { no_access = refl; no_postfix = refl; no_bracket = refl; no_paren = refl }
before_assign k.CaretEqual op h = record { no_access = refl; no_postfix = refl; no_bracket = refl; no_paren = refl }
before_assign k.ShiftLeftEqual op h = record { no_access = refl; no_postfix = refl; no_bracket = refl; no_paren = refl }
before_assign k.ShiftRightEqual op h = record { no_access = refl; no_postfix = refl; no_bracket = refl; no_paren = refl }
before_assign k.LeftArrowEqual op h = record { no_access = refl; no_postfix = refl; no_bracket = refl; no_paren = refl }
before_assign _ op h = absurd (let f : ⊥ = cc in f)

pub lower_follow : (l : ℕ) (kd : TokenKind) → Follow l kd → Follow (pred l) kd
lower_follow zero kd f = f
lower_follow (suc l) kd f = record { post = f.post; operators = λ i s. f.operators i (omega (arith, s)); colons = λ s. f.colons (omega (arith, s)) }

-- ---- what goes on with a token

pub record HasTree (G : Grammar Expr) (u : List Token) : Type 0 where
  pub tree : Expr
  pub height : ℕ
  pub is : G u tree height

pub record Goes (G : Grammar Expr) (u : List Token) (t : Token) : Type 0 where
  pub behind : List Token
  pub tree : Expr
  pub height : ℕ
  pub is : G (u ++ t ∷ behind) tree height

-- where what goes on with v goes on with u
pub ends_via : (G H : Grammar Expr) (u v r : List Token) → ((t : Token) (rest : List Token) (x : Expr) (h : ℕ) → G (u ++ t ∷ rest) x h → HasTree H (v ++ t ∷ rest)) → Ends H v r → Ends G u r
ends_via G H u v [] f ends = tt
ends_via G H u v (t ∷ r) f ends = λ rest x h g. let q = f t rest x h g in ends rest q.tree q.height q.is

refuted : (b : Bool) → (b ≡ true → ⊥) → b ≡ false
refuted true h = absurd (h refl)
refuted false h = refl

none_of : {A : Type 0} (o : Option A) → ((x : A) → o ≡ Some x → ⊥) → o ≡ None
none_of (Some x) h = absurd (h x refl)
none_of None h = refl

-- a test of the next token that shows how to go on fails
pub fails : (G : Grammar Expr) (u : List Token) (p : TokenKind → Bool) → p k.End ≡ false → ((t : Token) → p t.kind ≡ true → Goes G u t) → (r : List Token) → Ends G u r → p (kind r) ≡ false
unfolding kind
fails G u p e f [] ends = e
fails G u p e f (t ∷ ts) ends = refuted (p t.kind) (λ h. let g = f t h in ends g.behind g.tree g.height g.is)

pub finds_none : {A : Type 0} (G : Grammar Expr) (u : List Token) (p : TokenKind → Option A) → p k.End ≡ None → ((t : Token) (x : A) → p t.kind ≡ Some x → Goes G u t) → (r : List Token) → Ends G u r → p (kind r) ≡ None
unfolding kind
finds_none G u p e f [] ends = e
finds_none G u p e f (t ∷ ts) ends = none_of (p t.kind) (λ x h. let g = f t x h in ends g.behind g.tree g.height g.is)

end_bracket : same_kind k.End k.LeftBracket ≡ false
unfolding same_kind
end_bracket = refl

end_paren : same_kind k.End k.LeftParen ≡ false
unfolding same_kind
end_paren = refl

end_colons : same_kind k.End k.ColonColon ≡ false
unfolding same_kind
end_colons = refl

end_comma : same_kind k.End k.Comma ≡ false
unfolding same_kind
end_comma = refl

module _ (leaves : Leaves) (types : List ℕ) where
  abbrev pub GPost : Grammar Expr
  GPost u x h = IsPost leaves types u x h

  abbrev pub GUnary : Grammar Expr
  GUnary u x h = IsUnary leaves types u x h

  abbrev pub GBinary : ℕ → Grammar Expr
  GBinary l u x h = IsBinary leaves types l u x h

  abbrev pub GAsg : Grammar Expr
  GAsg u x h = IsAsg leaves types u x h

  abbrev pub GExpr : Grammar Expr
  GExpr u x h = IsExpr leaves types u x h

  abbrev nowhere : Place
  nowhere = start []

  -- each postfix expression can be called
  record Callable (u : List Token) (x : Expr) : Type 0 where
    height : ℕ
    is : IsCallee leaves types u x height

  called : {u : List Token} {x : Expr} {h : ℕ} → IsPost leaves types u x h → ends_in_name u ≡ false → Callable u x
  called {h = h} p n = record { height = h; is = called_value p n }

  postfix_kind : (kd : TokenKind) (op : PostfixOp) → postfix_operator kd ≡ Some op → is_name kd ≡ false
  postfix_kind k.PlusPlus op h = refl
  postfix_kind k.MinusMinus op h = refl
  postfix_kind k.Question op h = refl
  postfix_kind _ op h = absurd (let f : ⊥ = cc in f)

  prim_callable : {u : List Token} {x : Expr} {h : ℕ} → IsPrim leaves types u x h → Callable u x
  prim_callable (number t c) = called (prim (number t c)) (ends_token t k.Number c refl)
  prim_callable (char t c) = called (prim (char t c)) (ends_token t k.Char c refl)
  prim_callable (text t c) = called (prim (text t c)) (ends_token t k.Text c refl)
  prim_callable (nil t c) = called (prim (nil t c)) (ends_token t k.Nil c refl)
  prim_callable (name t c) = record { height = 0; is = called_name t c }
  prim_callable (paren o c {u = u} oc a ec) = called (prim (paren o c oc a ec)) (ends_closed [] o u c k.RightParen ec refl)
  prim_callable (tuple o t c {u = u} {v = v} oc l tc a ec) = called (prim (tuple o t c oc l tc a ec)) (ends_closed (o ∷ u) t v c k.RightParen ec refl)

  callable : {u : List Token} {x : Expr} {h : ℕ} → IsPost leaves types u x h → Callable u x
  callable (prim d) = prim_callable d
  callable (index o c {u = u} {v = v} p oc a ec) = called (index o c p oc a ec) (ends_closed u o v c k.RightBracket ec refl)
  callable (member t m {h = h} p a b) = record { height = h; is = called_member t m p a b }
  callable (call o c {u = u} {v = v} p oc a ec) = called (call o c p oc a ec) (ends_closed u o v c k.RightParen ec refl)
  callable (postfix t {u = u} {op = op} p a) = called (postfix t p a) (ends_with u t t.kind refl (postfix_kind t.kind op a))

  pub post_ends : {u : List Token} {x : Expr} {h : ℕ} → IsPost leaves types u x h → (r : List Token) → Ends GPost u r → FollowPost (kind r)
  post_ends {u} {x} {h} p r ends = record {
    no_access = finds_none GPost u access refl (λ t by c. let m = fresh_token types nowhere in record { behind = m ∷ []; tree = e.Member (start u) x by (name_at m); height = h + 1; is = member t m p c (fresh_is leaves types nowhere) }) r ends;
    no_postfix = finds_none GPost u postfix_operator refl (λ t op c. record { behind = []; tree = e.Postfix (start u) op x; height = h + 1; is = postfix t p c }) r ends;
    no_bracket = fails GPost u (λ kd. same_kind kd k.LeftBracket) end_bracket (λ t c. record { behind = one_at leaves types nowhere ∷ token k.RightBracket ∷ []; tree = e.Index (start u) x (one_tree leaves types nowhere); height = max h 1 + 1; is = index t (token k.RightBracket) p (kind_is t.kind k.LeftBracket c) (only (one_asg leaves types nowhere)) refl }) r ends;
    no_paren = fails GPost u (λ kd. same_kind kd k.LeftParen) end_paren (λ t c. let q = callable p in record { behind = token k.RightParen ∷ []; tree = e.Call (start u) x []; height = max q.height 0 + 1; is = call t (token k.RightParen) q.is (kind_is t.kind k.LeftParen c) no_arguments refl }) r ends;
  }

  pub level_ends : {l : ℕ} {u : List Token} {x : Expr} {h : ℕ} → IsBinary leaves types (suc l) u x h → (r : List Token) → Ends (GBinary (suc l)) u r → operator l (kind r) ≡ None
  level_ends {l} {u} {x} {h} d r ends = finds_none (GBinary (suc l)) u (operator l) (no_operator k.End l refl) (λ t op c. record { behind = one_at leaves types nowhere ∷ []; tree = e.Binary (start u) op x (one_tree leaves types nowhere); height = max h 1 + 1; is = binary t d c (lifted leaves types l (one_unary leaves types nowhere)) }) r ends

  pub colons_end : {u : List Token} {x : Expr} {h : ℕ} → IsBinary leaves types 3 u x h → (r : List Token) → Ends (GBinary 4) u r → same_kind (kind r) k.ColonColon ≡ false
  colons_end {u} {x} {h} d r ends = fails (GBinary 4) u (λ kd. same_kind kd k.ColonColon) end_colons (λ t c. record { behind = one_at leaves types nowhere ∷ []; tree = e.Iterator (start u) x (one_tree leaves types nowhere); height = max h 1 + 1; is = iterator t d (kind_is t.kind k.ColonColon c) (lifted leaves types 3 (one_unary leaves types nowhere)) }) r ends

  pub assign_ends : {u : List Token} {x : Expr} {h : ℕ} → IsUnary leaves types u x h → (r : List Token) → Ends GAsg u r → assign_operator (kind r) ≡ None
  assign_ends {u} {x} {h} d r ends = finds_none GAsg u assign_operator refl (λ t op c. record { behind = one_at leaves types nowhere ∷ []; tree = e.Assign (start u) op x (one_tree leaves types nowhere); height = max h 1 + 1; is = assign t d c (one_asg leaves types nowhere) }) r ends

  pub comma_ends : {u : List Token} {xs : List Expr} {h : ℕ} → IsAsgs leaves types u xs h → (r : List Token) → Ends GExpr u r → same_kind (kind r) k.Comma ≡ false
  comma_ends {u} {xs} {h} l r ends = fails GExpr u (λ kd. same_kind kd k.Comma) end_comma (λ t c. record { behind = one_at leaves types nowhere ∷ []; tree = e.Sequence (start u) (xs ++ one_tree leaves types nowhere ∷ []); height = max h 1 + 1; is = sequence t l (kind_is t.kind k.Comma c) (one_asg leaves types nowhere) }) r ends

  -- ---- the levels below l stop there

  abbrev pub StopUnary : List Token → List Token → Type 0
  StopUnary u r = FollowPost (kind r) ⊎ Ends GUnary u r

  abbrev pub Stop : ℕ → List Token → List Token → Type 0
  Stop l u r = Follow l (kind r) ⊎ Ends (GBinary l) u r

  -- what a level's own loop may go on with is left out
  abbrev pub Under : ℕ → List Token → List Token → Type 0
  Under l u r = Follow (pred l) (kind r) ⊎ Ends (GBinary l) u r

  abbrev pub StopAsg : List Token → List Token → Type 0
  StopAsg u r = FollowAsg (kind r) ⊎ Ends GAsg u r

  abbrev pub StopExpr : List Token → List Token → Type 0
  StopExpr u r = FollowExpr (kind r) ⊎ Ends GExpr u r

  pub under : (l : ℕ) (u r : List Token) → Stop l u r → Under l u r
  under l u r (inl f) = inl (lower_follow l (kind r) f)
  under l u r (inr ends) = inr ends

  pub unary_stop : (u r : List Token) → Under 0 u r → StopUnary u r
  unary_stop u r (inl f) = inl f.post
  unary_stop u r (inr ends) = inr (ends_via GUnary (GBinary 0) u u r (λ t rest x h d. record { tree = x; height = h; is = unary d }) ends)

  pub post_stop : {u : List Token} {x : Expr} {h : ℕ} → IsPost leaves types u x h → (r : List Token) → StopUnary u r → FollowPost (kind r)
  post_stop p r (inl f) = f
  post_stop {u} p r (inr ends) = post_ends p r (ends_via GPost GUnary u u r (λ t rest x h d. record { tree = x; height = h; is = post d }) ends)

  pub tighter_stop : (l : ℕ) (u r : List Token) → Under (suc l) u r → Stop l u r
  tighter_stop l u r (inl f) = inl f
  tighter_stop l u r (inr ends) = inr (ends_via (GBinary l) (GBinary (suc l)) u u r (λ t rest x h d. record { tree = x; height = h; is = tighter d }) ends)

  pub right_stop : {l : ℕ} {u : List Token} {x : Expr} {h : ℕ} {op : BinaryOp} (t : Token) (v r : List Token) → IsBinary leaves types (suc l) u x h → operator l t.kind ≡ Some op → Under (suc l) (u ++ t ∷ v) r → Stop l v r
  right_stop t v r d c (inl f) = inl f
  right_stop {l} {u} {x} {h} {op} t v r d c (inr ends) = inr (ends_via (GBinary l) (GBinary (suc l)) v (u ++ t ∷ v) r (λ s rest y i b. record {
    tree = e.Binary (start u) op x y;
    height = max h i + 1;
    is = subst (λ q. IsBinary leaves types (suc l) q (e.Binary (start u) op x y) (max h i + 1)) (sym (append_assoc u (t ∷ v) (s ∷ rest))) (binary t d c b);
  }) ends)

  pub iterator_stop : {u : List Token} {x : Expr} {h : ℕ} (t : Token) (v r : List Token) → IsBinary leaves types 3 u x h → t.kind ≡ k.ColonColon → Under 4 (u ++ t ∷ v) r → Stop 3 v r
  iterator_stop t v r d c (inl f) = inl f
  iterator_stop {u} {x} {h} t v r d c (inr ends) = inr (ends_via (GBinary 3) (GBinary 4) v (u ++ t ∷ v) r (λ s rest y i b. record {
    tree = e.Iterator (start u) x y;
    height = max h i + 1;
    is = subst (λ q. IsBinary leaves types 4 q (e.Iterator (start u) x y) (max h i + 1)) (sym (append_assoc u (t ∷ v) (s ∷ rest))) (iterator t d c b);
  }) ends)

  pub value_stop : (u r : List Token) → StopAsg u r → Stop loosest u r
  value_stop u r (inl f) = inl f.follow
  value_stop u r (inr ends) = inr (ends_via (GBinary loosest) GAsg u u r (λ t rest x h d. record { tree = x; height = h; is = value d }) ends)

  pub plain_stop : {u : List Token} {x : Expr} {h : ℕ} → IsUnary leaves types u x h → (r : List Token) → StopAsg u r → assign_operator (kind r) ≡ None
  plain_stop d r (inl f) = f.assign
  plain_stop d r (inr ends) = assign_ends d r ends

  pub assign_stop : {u : List Token} {x : Expr} {h : ℕ} {op : AssignOp} (t : Token) (v r : List Token) → IsUnary leaves types u x h → assign_operator t.kind ≡ Some op → StopAsg (u ++ t ∷ v) r → StopAsg v r
  assign_stop t v r d c (inl f) = inl f
  assign_stop {u} {x} {h} {op} t v r d c (inr ends) = inr (ends_via GAsg GAsg v (u ++ t ∷ v) r (λ s rest y i a. record {
    tree = e.Assign (start u) op x y;
    height = max h i + 1;
    is = subst (λ q. IsAsg leaves types q (e.Assign (start u) op x y) (max h i + 1)) (sym (append_assoc u (t ∷ v) (s ∷ rest))) (assign t d c a);
  }) ends)

  pub only_stop : (u r : List Token) → StopExpr u r → StopAsg u r
  only_stop u r (inl f) = inl f.asg
  only_stop u r (inr ends) = inr (ends_via GAsg GExpr u u r (λ t rest x h d. record { tree = x; height = h; is = only d }) ends)

  pub comma_stop : {u : List Token} {xs : List Expr} {h : ℕ} → IsAsgs leaves types u xs h → (r : List Token) → StopExpr u r → same_kind (kind r) k.Comma ≡ false
  comma_stop l r (inl f) = f.comma
  comma_stop l r (inr ends) = comma_ends l r ends

  pub last_stop : {u : List Token} {xs : List Expr} {h : ℕ} (t : Token) (v r : List Token) → IsAsgs leaves types u xs h → t.kind ≡ k.Comma → StopExpr (u ++ t ∷ v) r → StopAsg v r
  last_stop t v r l c (inl f) = inl f.asg
  last_stop {u} {xs} {h} t v r l c (inr ends) = inr (ends_via GAsg GExpr v (u ++ t ∷ v) r (λ s rest y i a. record {
    tree = e.Sequence (start u) (xs ++ y ∷ []);
    height = max h i + 1;
    is = subst (λ q. IsExpr leaves types q (e.Sequence (start u) (xs ++ y ∷ [])) (max h i + 1)) (sym (append_assoc u (t ∷ v) (s ∷ rest))) (sequence t l c a);
  }) ends)

  -- ---- the operand of a prefix

  pub prefix_stop : {op : Rattle.al_tree.specs.declared.expression.UnaryOp.UnaryOp} (t : Token) (u r : List Token) → Rattle.al_tree.specs.Words.prefix_operator t.kind ≡ Some op → StopUnary (t ∷ u) r → StopUnary u r
  prefix_stop t u r c (inl f) = inl f
  prefix_stop {op} t u r c (inr ends) = inr (ends_via GUnary GUnary u (t ∷ u) r (λ s rest y i d. record { tree = e.Unary t.place op y; height = i + 1; is = prefix t c d }) ends)
