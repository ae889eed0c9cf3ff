-- Statements and blocks are read as what they are.
use Rattle.std.proofs.Common.{◌≡◌, ℕ, zero, suc, pred, ◌+◌, ◌<◌, ◌≤◌, max, nat_lt, Bool, true, false, if◌then◌else◌, ◌||◌, ◌&&◌, List, [], ◌∷◌, ◌++◌, length, Option, Some, None, is_some, Ok, Err, ◌⊎◌, inl, inr, refl, sym, ap, ap₂, ◌∙◌, subst, arith, append_assoc, append-nil, length-append}
use Rattle.al_base.specs.declared.place.Place.{Place}
use Rattle.al_lex.specs.declared.kind.TokenKind.{TokenKind}
use Rattle.al_lex.specs.declared.kind.TokenKind.TheVariants as k
use Rattle.al_lex.specs.declared.token.Token.{Token}
use Rattle.al_tree.specs.Words.{start, basic_type}
use Rattle.al_tree.specs.Types.{Leaves, known, IsOtherName, other_name, IsBase}
use Rattle.al_tree.specs.Expressions.{IsAsg, IsAsgs, IsExpr}
use Rattle.al_tree.specs.Statements as g
use Rattle.al_tree.specs.Statements.{IsStmt, IsBlock, IsBodyStmt, IsBody, IsCases, IsBranches, IsOptionalExpr, IsOptionalName, IsOptionalNumber}
use Rattle.al_tree.specs.Reading.{Outcome, Parser, kind, same_kind}
use Rattle.al_tree.specs.declared.expression.Expr.{Expr}
use Rattle.al_tree.specs.declared.statement.Stmt.{Stmt}
use Rattle.al_tree.specs.declared.statement.Stmt.TheVariants as sm
use Rattle.al_tree.proofs.Law.{some_pred, start_of}
use Rattle.al_parse_type.specs.Parse.{sees_type}
use Rattle.al_parse_type.proofs.BoundLaw.{kind_is}
use Rattle.al_parse_type.proofs.BoundComplete.{less_pred, rest_short, tail_short, nat_lt_is, kind_of}
use Rattle.al_parse_type.proofs.TypeComplete.{base_sees, Bare, other_sees}
use Rattle.al_parse_expr.specs.Parse.{Sized, Listed, begins_value}
use Rattle.al_parse_expr.specs.Within.{expression_within, assignment_within, list_within}
use Rattle.al_parse_expr.proofs.Begins.{asg_high, expr_high, starts_at}
use Rattle.al_parse_expr.proofs.Follow.{FollowExpr, FollowAsg, before_comma, before_paren}
use Rattle.al_parse_expr.proofs.ExprComplete.{asg_c, list_c, asgs_high, at_kind, pred_le}
use Rattle.al_parse_block.specs.Parse as parse
use Rattle.al_parse_block.specs.Parse.{Statements, ended, choice_of, starts, begins_statement, begins_inner, begins_case, within}
use Rattle.al_parse_block.specs.declared.part.ReadStmt.{ReadStmt}
use Rattle.al_parse_block.specs.declared.part.Want.{Want}
use Rattle.al_parse_block.specs.declared.part.Want.TheVariants as want
use Rattle.al_parse_block.proofs.Steps as step
use Rattle.al_parse_block.proofs.Starts.{stmt_long, inner_long, block_long}
use Rattle.al_parse_block.proofs.ValueComplete.{before_semicolon, before_colon, expr_begins, expr_read, value_c, inner_value_c, declare_c, plain_step}

-- no `else` comes next
abbrev pub NoElse : List Token → Type 0
NoElse r = same_kind (kind r) k.Else ≡ false

not_true : (b : Bool) → b ≡ true → b ≡ false → ⊥
not_true b t f = let e : true ≡ false = sym t ∙ f in let x : ⊥ = cc in x

no_else_at : (t : Token) (ts : List Token) (kd : TokenKind) → t.kind ≡ kd → same_kind kd k.Else ≡ false → NoElse (t ∷ ts)
unfolding kind
no_else_at t ts kd c h = ap (λ x. same_kind x k.Else) c ∙ h

starts_no_else : (kd : TokenKind) → starts kd ≡ true → same_kind kd k.Else ≡ false
unfolding same_kind
starts_no_else k.Else h = absurd (let f : ⊥ = cc in f)
starts_no_else _ h = refl

module _ (leaves : Leaves) (types : List ℕ) where
  -- ---- how statements begin

  stmt_high : {d : Bool} {u : List Token} {x : Stmt} {h : ℕ} → IsStmt leaves types d u x h → 0 < h
  stmt_high (g.empty t c) = omega arith
  stmt_high (g.block (g.braces p q c b d)) = omega arith
  stmt_high (g.value t a c) = omega arith
  stmt_high (g.label n t nc tc d) = omega arith
  stmt_high (g.if_alone w o c wc oc a ec d) = omega arith
  stmt_high (g.if_else w o c t wc oc a ec d tc e) = omega arith
  stmt_high (g.while_loop w o c wc oc a ec d) = omega arith
  stmt_high (g.do_loop w t o c q wc d tc oc a ec qc) = omega arith
  stmt_high (g.for_loop w o p q c wc oc a pc b qc e ec d) = omega arith
  stmt_high (g.switch w o c p q wc oc a ec pc d qc) = omega arith
  stmt_high (g.alt w p q wc pc d qc) = omega arith
  stmt_high (g.par w p q wc pc d qc) = omega arith
  stmt_high (g.rescue w wc a b) = omega arith
  stmt_high (g.raise w t wc a tc) = omega arith
  stmt_high (g.return w t wc a tc) = omega arith
  stmt_high (g.become w t wc a tc) = omega arith
  stmt_high (g.break w t wc a tc) = omega arith
  stmt_high (g.continue w t wc a tc) = omega arith
  stmt_high (g.goto w n t wc nc tc) = omega arith
  stmt_high (g.alloc w t wc a tc) = omega arith
  stmt_high (g.unalloc w t wc a tc) = omega arith
  stmt_high (g.check w t wc a tc) = omega arith
  stmt_high (g.check_text w m n t wc a mc nc tc) = omega arith
  stmt_high (g.proc w t wc a tc) = omega arith
  stmt_high (g.task w t wc a tc) = omega arith

  block_high : {u : List Token} {x : Stmt} {h : ℕ} → IsBlock leaves types u x h → 0 < h
  block_high (g.braces p q c b d) = omega arith

  inner_high : {u : List Token} {x : Stmt} {h : ℕ} → IsBodyStmt leaves types u x h → 0 < h
  inner_high (g.statement d) = stmt_high d
  inner_high (g.declare t a b c) = omega arith

  word_begins : (t : Token) (ts : List Token) (kd : TokenKind) → t.kind ≡ kd → starts kd ≡ true → begins_statement types (t ∷ ts) ≡ true
  unfolding begins_statement kind
  word_begins t ts kd c h = rw (c, h) refl

  value_begins : (ts : List Token) → begins_value types ts ≡ true → begins_statement types ts ≡ true
  unfolding begins_statement
  value_begins ts h = either (starts (kind ts)) h
    where
      either : (b : Bool) → begins_value types ts ≡ true → (b || begins_value types ts) ≡ true
      either true h = refl
      either false h = h

  name_begins : (t : Token) (ts : List Token) → IsOtherName leaves types t → begins_value types (t ∷ ts) ≡ true
  unfolding begins_value Rattle.al_parse_type.specs.Parse.sees_other_name kind Rattle.al_tree.specs.Reading.name_number same_kind
  name_begins t ts (other_name c f) = rw (c, f) refl

  open_begins : (t : Token) (ts : List Token) → t.kind ≡ k.LeftParen → begins_value types (t ∷ ts) ≡ true
  unfolding begins_value kind same_kind
  open_begins t ts c = rw c refl

  pub stmt_begins : {d : Bool} {u : List Token} {x : Stmt} {h : ℕ} → IsStmt leaves types d u x h → (r : List Token) → begins_statement types (u ++ r) ≡ true
  stmt_begins (g.empty t c) r = word_begins t r k.Semicolon c refl
  stmt_begins (g.block (g.braces p q {u = u} c b d)) r = word_begins p ((u ++ q ∷ []) ++ r) k.LeftBrace c refl
  stmt_begins (g.value t {u = u} a c) r = subst (λ l. begins_statement types l ≡ true) (sym (append_assoc u (t ∷ []) r)) (value_begins (u ++ (t ∷ r)) (expr_begins leaves types 0 a (t ∷ r)))
  stmt_begins (g.label n t {u = u} nc tc d) r = value_begins (n ∷ t ∷ (u ++ r)) (name_begins n (t ∷ (u ++ r)) nc)
  stmt_begins (g.if_alone w o c {u = u} {v = v} wc oc a ec d) r = word_begins w _ k.If wc refl
  stmt_begins (g.if_else w o c t wc oc a ec d tc e) r = word_begins w _ k.If wc refl
  stmt_begins (g.while_loop w o c wc oc a ec d) r = word_begins w _ k.While wc refl
  stmt_begins (g.do_loop w t o c q wc d tc oc a ec qc) r = word_begins w _ k.Do wc refl
  stmt_begins (g.for_loop w o p q c wc oc a pc b qc e ec d) r = word_begins w _ k.For wc refl
  stmt_begins (g.switch w o c p q wc oc a ec pc d qc) r = word_begins w _ k.Switch wc refl
  stmt_begins (g.alt w p q wc pc d qc) r = word_begins w _ k.Alt wc refl
  stmt_begins (g.par w p q wc pc d qc) r = word_begins w _ k.Par wc refl
  stmt_begins (g.rescue w wc a b) r = word_begins w _ k.Rescue wc refl
  stmt_begins (g.raise w t wc a tc) r = word_begins w _ k.Raise wc refl
  stmt_begins (g.return w t wc a tc) r = word_begins w _ k.Return wc refl
  stmt_begins (g.become w t wc a tc) r = word_begins w _ k.Become wc refl
  stmt_begins (g.break w t wc a tc) r = word_begins w _ k.Break wc refl
  stmt_begins (g.continue w t wc a tc) r = word_begins w _ k.Continue wc refl
  stmt_begins (g.goto w n t wc nc tc) r = word_begins w _ k.Goto wc refl
  stmt_begins (g.alloc w t wc a tc) r = word_begins w _ k.Alloc wc refl
  stmt_begins (g.unalloc w t wc a tc) r = word_begins w _ k.Unalloc wc refl
  stmt_begins (g.check w t wc a tc) r = word_begins w _ k.Check wc refl
  stmt_begins (g.check_text w m n t wc a mc nc tc) r = word_begins w _ k.Check wc refl
  stmt_begins (g.proc w t wc a tc) r = word_begins w _ k.Proc wc refl
  stmt_begins (g.task w t wc a tc) r = word_begins w _ k.Task wc refl

  type_inner : (ts : List Token) → sees_type types ts ≡ true → begins_inner types ts ≡ true
  unfolding begins_inner
  type_inner ts h = rw h refl

  statement_inner : (ts : List Token) → begins_statement types ts ≡ true → begins_inner types ts ≡ true
  unfolding begins_inner
  statement_inner ts h = either (sees_type types ts) h
    where
      either : (b : Bool) → begins_statement types ts ≡ true → (b || begins_statement types ts) ≡ true
      either true h = refl
      either false h = h

  pub inner_begins : {u : List Token} {x : Stmt} {h : ℕ} → IsBodyStmt leaves types u x h → (r : List Token) → begins_inner types (u ++ r) ≡ true
  inner_begins (g.statement {u = u} d) r = statement_inner (u ++ r) (stmt_begins d r)
  inner_begins (g.declare {takes = takes} t {u = u} {v = v} {x = x} {h = h} a b c) r = subst (λ l. begins_inner types l ≡ true) (sym (ap (λ l. l ++ r) (append_assoc u v (t ∷ [])) ∙ append_assoc u (v ++ t ∷ []) r)) (go (base_sees leaves types 0 a ((v ++ t ∷ []) ++ r)))
    where
      go : (sees_type types (u ++ ((v ++ t ∷ []) ++ r)) ≡ true) ⊎ ((true ≡ true) × Bare leaves types 0 u (record { tree = x; height = h; takes_bracket = takes })) → begins_inner types (u ++ ((v ++ t ∷ []) ++ r)) ≡ true
      go (inl b) = type_inner (u ++ ((v ++ t ∷ []) ++ r)) b
      go (inr b) = subst (λ l. begins_inner types (l ++ ((v ++ t ∷ []) ++ r)) ≡ true) (sym b.1.cut) (statement_inner _ (value_begins _ (open_begins b.1.open_token _ b.1.opens)))

  -- what begins a statement is no `else`
  value_no_else : (ts : List Token) → begins_value types ts ≡ true → NoElse ts
  unfolding begins_value Rattle.al_parse_type.specs.Parse.sees_other_name same_kind
  value_no_else ts h = go (same_kind (kind ts) k.Else) refl
    where
      go : (b : Bool) → same_kind (kind ts) k.Else ≡ b → b ≡ false
      go false e = refl
      go true e = let c : kind ts ≡ k.Else = kind_is (kind ts) k.Else e in absurd (let n : true ≡ false = sym h ∙ rw c refl in let f : ⊥ = cc in f)

  type_no_else : (ts : List Token) → sees_type types ts ≡ true → NoElse ts
  unfolding sees_type Rattle.al_parse_type.specs.Parse.sees_type_name same_kind
  type_no_else ts h = go (same_kind (kind ts) k.Else) refl
    where
      go : (b : Bool) → same_kind (kind ts) k.Else ≡ b → b ≡ false
      go false e = refl
      go true e = let c : kind ts ≡ k.Else = kind_is (kind ts) k.Else e in absurd (let n : true ≡ false = sym h ∙ rw c refl in let f : ⊥ = cc in f)

  or_else : {A : Type 0} (x y : Bool) → (x || y) ≡ true → (x ≡ true → A) → (y ≡ true → A) → A
  or_else true y h f g = f refl
  or_else false y h f g = g h

  statement_no_else : (ts : List Token) → begins_statement types ts ≡ true → NoElse ts
  unfolding begins_statement
  statement_no_else ts h = or_else (starts (kind ts)) (begins_value types ts) h (λ b. starts_no_else (kind ts) b) (λ b. value_no_else ts b)

  inner_no_else : (ts : List Token) → begins_inner types ts ≡ true → NoElse ts
  unfolding begins_inner
  inner_no_else ts h = or_else (sees_type types ts) (begins_statement types ts) h (λ b. type_no_else ts b) (λ b. statement_no_else ts b)

  -- ---- what ends a list

  closes : (t : Token) (ts : List Token) → t.kind ≡ k.RightBrace → (begins_inner types (t ∷ ts) ≡ false) × (begins_statement types (t ∷ ts) ≡ false) × NoElse (t ∷ ts)
  unfolding begins_inner begins_statement begins_value sees_type Rattle.al_parse_type.specs.Parse.sees_type_name Rattle.al_parse_type.specs.Parse.sees_other_name kind same_kind
  closes t ts c = (rw c refl, rw c refl, rw c refl)

  case_ends : (t : Token) (ts : List Token) → t.kind ≡ k.Case → (begins_inner types (t ∷ ts) ≡ false) × NoElse (t ∷ ts)
  unfolding begins_inner begins_statement begins_value sees_type Rattle.al_parse_type.specs.Parse.sees_type_name Rattle.al_parse_type.specs.Parse.sees_other_name kind same_kind
  case_ends t ts c = (rw c refl, rw c refl)

  default_ends : (t : Token) (ts : List Token) → t.kind ≡ k.Default → (begins_inner types (t ∷ ts) ≡ false) × NoElse (t ∷ ts)
  unfolding begins_inner begins_statement begins_value sees_type Rattle.al_parse_type.specs.Parse.sees_type_name Rattle.al_parse_type.specs.Parse.sees_other_name kind same_kind
  default_ends t ts c = (rw c refl, rw c refl)

  no_case_closes : (d : Bool) (t : Token) (ts : List Token) → t.kind ≡ k.RightBrace → begins_case d (kind (t ∷ ts)) ≡ false
  unfolding begins_case kind same_kind
  no_case_closes d t ts c = rw c (never d)
    where
      never : (d : Bool) → (d && false) ≡ false
      never true = refl
      never false = refl

  -- an expression with its semicolon
  record IsValue (u : List Token) (x : Stmt) (h : ℕ) : Type 0 where
    front : List Token
    last : Token
    value : Expr
    low : ℕ
    cut : u ≡ front ++ last ∷ []
    ends : last.kind ≡ k.Semicolon
    is : IsExpr leaves types front value low
    tree : x ≡ sm.Value (start front) value
    high : h ≡ low + 1

  -- neither a type nor a parenthesis comes next
  record Plain (ts : List Token) : Type 0 where
    no_type : sees_type types ts ≡ false
    no_paren : same_kind (kind ts) k.LeftParen ≡ false

  plain_at : (t : Token) (ts : List Token) (kd : TokenKind) → t.kind ≡ kd → is_some (basic_type kd) ≡ false → same_kind kd k.Tuple ≡ false → same_kind kd k.Chan ≡ false → same_kind kd k.Name ≡ false → same_kind kd k.RightParen ≡ false → same_kind kd k.LeftParen ≡ false → Plain (t ∷ ts)
  unfolding kind
  plain_at t ts kd c b tu ch na cl op = record { no_type = (starts_at leaves types kd t ts c b tu ch na cl).no_type; no_paren = ap (λ x. same_kind x k.LeftParen) c ∙ op }

  plain_name : (t : Token) (ts : List Token) → IsOtherName leaves types t → Plain (t ∷ ts)
  unfolding kind same_kind
  plain_name t ts (other_name c f) = record { no_type = other_sees leaves types 0 t ts c f; no_paren = rw c refl }

  plain_start : {d : Bool} {u : List Token} {x : Stmt} {h : ℕ} → IsStmt leaves types d u x h → (r : List Token) → IsValue u x h ⊎ Plain (u ++ r)
  unfolding same_kind
  plain_start (g.value t {u = u} {x = x} {h = h} a c) r = inl (record { front = u; last = t; value = x; low = h; cut = refl; ends = c; is = a; tree = refl; high = refl })
  plain_start (g.label n t {u = u} nc tc d) r = inr (plain_name n _ nc)
  plain_start (g.empty t c) r = inr (plain_at t r k.Semicolon c refl refl refl refl refl refl)
  plain_start (g.block (g.braces p q {u = u} c b d)) r = inr (plain_at p _ k.LeftBrace c refl refl refl refl refl refl)
  plain_start (g.if_alone w o c wc oc a ec d) r = inr (plain_at w _ k.If wc refl refl refl refl refl refl)
  plain_start (g.if_else w o c t wc oc a ec d tc e) r = inr (plain_at w _ k.If wc refl refl refl refl refl refl)
  plain_start (g.while_loop w o c wc oc a ec d) r = inr (plain_at w _ k.While wc refl refl refl refl refl refl)
  plain_start (g.do_loop w t o c q wc d tc oc a ec qc) r = inr (plain_at w _ k.Do wc refl refl refl refl refl refl)
  plain_start (g.for_loop w o p q c wc oc a pc b qc e ec d) r = inr (plain_at w _ k.For wc refl refl refl refl refl refl)
  plain_start (g.switch w o c p q wc oc a ec pc d qc) r = inr (plain_at w _ k.Switch wc refl refl refl refl refl refl)
  plain_start (g.alt w p q wc pc d qc) r = inr (plain_at w _ k.Alt wc refl refl refl refl refl refl)
  plain_start (g.par w p q wc pc d qc) r = inr (plain_at w _ k.Par wc refl refl refl refl refl refl)
  plain_start (g.rescue w wc a b) r = inr (plain_at w _ k.Rescue wc refl refl refl refl refl refl)
  plain_start (g.raise w t wc a tc) r = inr (plain_at w _ k.Raise wc refl refl refl refl refl refl)
  plain_start (g.return w t wc a tc) r = inr (plain_at w _ k.Return wc refl refl refl refl refl refl)
  plain_start (g.become w t wc a tc) r = inr (plain_at w _ k.Become wc refl refl refl refl refl refl)
  plain_start (g.break w t wc a tc) r = inr (plain_at w _ k.Break wc refl refl refl refl refl refl)
  plain_start (g.continue w t wc a tc) r = inr (plain_at w _ k.Continue wc refl refl refl refl refl refl)
  plain_start (g.goto w n t wc nc tc) r = inr (plain_at w _ k.Goto wc refl refl refl refl refl refl)
  plain_start (g.alloc w t wc a tc) r = inr (plain_at w _ k.Alloc wc refl refl refl refl refl refl)
  plain_start (g.unalloc w t wc a tc) r = inr (plain_at w _ k.Unalloc wc refl refl refl refl refl refl)
  plain_start (g.check w t wc a tc) r = inr (plain_at w _ k.Check wc refl refl refl refl refl refl)
  plain_start (g.check_text w m n t wc a mc nc tc) r = inr (plain_at w _ k.Check wc refl refl refl refl refl refl)
  plain_start (g.proc w t wc a tc) r = inr (plain_at w _ k.Proc wc refl refl refl refl refl refl)
  plain_start (g.task w t wc a tc) r = inr (plain_at w _ k.Task wc refl refl refl refl refl refl)

  -- what may stand behind the statements of a case or of a block
  pub record Ends (r : List Token) : Type 0 where
    pub stops : begins_inner types r ≡ false
    pub no_else : NoElse r

module _ (leaves : Leaves) (types : List ℕ) (F : ℕ) where
  abbrev S : ℕ → Want → Parser ReadStmt
  S n = within leaves types F n

  abbrev read : Stmt → ℕ → Bool → ReadStmt
  read x h d = record { tree = x; height = h; dangles = d }

  same_close : (kd : TokenKind) → kd ≡ k.Semicolon → same_kind kd kd ≡ true
  unfolding same_kind
  same_close kd c = rw c refl

  semicolon_same : same_kind k.Semicolon k.Semicolon ≡ true
  unfolding same_kind
  semicolon_same = refl

  paren_same : same_kind k.RightParen k.RightParen ≡ true
  unfolding same_kind
  paren_same = refl

  value_not : (ts : List Token) (close : TokenKind) → begins_value types ts ≡ true → close ≡ k.Semicolon ⊎ (close ≡ k.RightParen) → same_kind (kind ts) close ≡ false
  unfolding begins_value Rattle.al_parse_type.specs.Parse.sees_other_name same_kind
  value_not ts close h c = go (same_kind (kind ts) close) refl c
    where
      go : (b : Bool) → same_kind (kind ts) close ≡ b → close ≡ k.Semicolon ⊎ (close ≡ k.RightParen) → b ≡ false
      go false e c = refl
      go true e (inl c) = let q : kind ts ≡ k.Semicolon = kind_is (kind ts) close e ∙ c in absurd (let n : true ≡ false = sym h ∙ rw q refl in let f : ⊥ = cc in f)
      go true e (inr c) = let q : kind ts ≡ k.RightParen = kind_is (kind ts) close e ∙ c in absurd (let n : true ≡ false = sym h ∙ rw q refl in let f : ⊥ = cc in f)

  sub : (n : ℕ) (w : Want) (ts : List Token) (o : Outcome ReadStmt) → 0 < n → parse.at_want leaves types F (pred n) (S (pred n)) w ts ≡ o → S n w ts ≡ o
  unfolding within
  sub n w ts o some h = ap (λ m. S m w ts) (some_pred n 0 some) ∙ h

  -- ---- conditions

  condition_c : {u : List Token} {x : Expr} {h : ℕ} → IsExpr leaves types u x h → (n : ℕ) → h ≤ n → (o c : Token) (r : List Token) → length (u ++ (c ∷ r)) < F → o.kind ≡ k.LeftParen → c.kind ≡ k.RightParen → parse.condition leaves types F n (o ∷ (u ++ (c ∷ r))) ≡ Ok ((x, h), r)
  condition_c {u} {x} {h} d n low o c r s oc ec = step.step_condition leaves types F n o c u r (x, h) oc ec (expr_read leaves types F d n low c r s (subst FollowExpr (sym ec) before_paren))

  optional_c : {u : List Token} {x : Option Expr} {h : ℕ} → IsOptionalExpr leaves types u x h → (n : ℕ) → h ≤ n → (close : TokenKind) (c : Token) (r : List Token) → length (u ++ (c ∷ r)) < F → c.kind ≡ close → FollowExpr close → same_kind close close ≡ true → close ≡ k.Semicolon ⊎ (close ≡ k.RightParen)
      → parse.optional leaves types F n close (u ++ (c ∷ r)) ≡ Ok ((x, h), r)
  optional_c g.none n low close c r s cc1 f same which = step.step_none leaves types F n close c r cc1 same
  optional_c (g.some {u = u} {x = x} {h = h} d) n low close c r s cc1 f same which =
      step.step_some leaves types F n close c (u ++ (c ∷ r)) r (x, h) (value_not (u ++ (c ∷ r)) close (expr_begins leaves types F d (c ∷ r)) which) (expr_read leaves types F d n low c r s (subst FollowExpr (sym cc1) f)) cc1 same

  semicolon_c : {u : List Token} {x : Option Expr} {h : ℕ} → IsOptionalExpr leaves types u x h → (n : ℕ) → h ≤ n → (c : Token) (r : List Token) → length (u ++ (c ∷ r)) < F → c.kind ≡ k.Semicolon → parse.optional leaves types F n k.Semicolon (u ++ (c ∷ r)) ≡ Ok ((x, h), r)
  semicolon_c d n low c r s cc1 = optional_c d n low k.Semicolon c r s cc1 before_semicolon semicolon_same (inl refl)

  paren_c : {u : List Token} {x : Option Expr} {h : ℕ} → IsOptionalExpr leaves types u x h → (n : ℕ) → h ≤ n → (c : Token) (r : List Token) → length (u ++ (c ∷ r)) < F → c.kind ≡ k.RightParen → parse.optional leaves types F n k.RightParen (u ++ (c ∷ r)) ≡ Ok ((x, h), r)
  paren_c d n low c r s cc1 = optional_c d n low k.RightParen c r s cc1 before_paren paren_same (inr refl)

  -- ---- statements by a word

  not_name : (kd : TokenKind) → starts kd ≡ true → same_kind kd k.Name ≡ false
  unfolding same_kind
  not_name k.Name h = absurd (let f : ⊥ = cc in f)
  not_name _ h = refl

  while_no_else : (t : Token) (ts : List Token) → t.kind ≡ k.While → NoElse (t ∷ ts)
  unfolding kind same_kind
  while_no_else t ts c = rw c refl

  by_word : (n : ℕ) (t : Token) (ts : List Token) (kd : TokenKind) (o : Outcome ReadStmt) → t.kind ≡ kd → starts kd ≡ true → parse.statement_by leaves types F n (S n) kd (t ∷ ts) ≡ o → parse.statement leaves types F n (S n) (t ∷ ts) ≡ o
  by_word n t ts kd o c f h = step.by_kind leaves types F n t ts kd c (not_name kd f) ∙ h

  listed_c : {u : List Token} {xs : List Expr} {h : ℕ} → IsAsgs leaves types u xs h → (n : ℕ) → h ≤ n → (w t : Token) (r : List Token) → length (u ++ (t ∷ r)) < F → t.kind ≡ k.Semicolon → parse.listed leaves types F n (w ∷ (u ++ (t ∷ r))) ≡ Ok (((xs, h), w), r)
  listed_c {u} {xs} {h} l n low w t r s tc =
      let high : 0 < h = asgs_high leaves types F l in
      step.step_listed leaves types F n w t (u ++ (t ∷ r)) r (xs, h) (nat_lt_is 0 n (omega (arith, high, low))) (list_c leaves types F l n low (t ∷ r) s (at_kind FollowExpr t r k.Semicolon tc before_semicolon)) tc

  counted_c : {m : List Token} {x : Option ℕ} → IsOptionalNumber leaves types m x → (n : ℕ) (w t : Token) (r : List Token) → t.kind ≡ k.Semicolon → parse.counted leaves types F n (w ∷ (m ++ (t ∷ r))) ≡ Ok ((w, x), r)
  counted_c g.none n w t r tc = step.step_uncounted leaves types F n w t r tc
  counted_c (g.some p pc) n w t r tc = step.step_counted leaves types F n w p t r pc tc

  raise_c : {m : List Token} {x : Option Rattle.al_tree.specs.declared.expression.Name.Name} → IsOptionalName leaves types m x → (n : ℕ) (w t : Token) (r : List Token) → t.kind ≡ k.Semicolon → parse.raise leaves types F n (w ∷ (m ++ (t ∷ r))) ≡ Ok (ended (sm.Raise w.place x) 1, r)
  raise_c g.none n w t r tc = step.step_reraise leaves types F n w t r tc
  raise_c (g.some p (other_name pc f)) n w t r tc = step.step_raise leaves types F n w p t r pc f tc

  brace_no_name : (p : Token) (ts : List Token) → p.kind ≡ k.LeftBrace → same_kind (kind (p ∷ ts)) k.Name ≡ false
  unfolding kind same_kind
  brace_no_name p ts c = rw c refl

  -- what stands in a block, as it is read
  record ReadInner (n : ℕ) (ts : List Token) (x : Stmt) (h : ℕ) (r : List Token) : Type 0 where
    flag : Bool
    is : parse.in_block leaves types F n (S n) ts ≡ Ok (read x h flag, r)

  record AfterBody (n : ℕ) (u : List Token) (xs : List Stmt) (h : ℕ) (r : List Token) : Type 0 where
    left : ℕ
    enough : length r < left
    is : parse.body_from leaves types F n (S n) F [] 0 (u ++ r) ≡ parse.body_from leaves types F n (S n) left xs h r

  record AfterBranches (n : ℕ) (u : List Token) (xs : List Stmt) (h : ℕ) (r : List Token) : Type 0 where
    left : ℕ
    enough : length r < left
    is : parse.branches_from leaves types F n (S n) F [] 0 (u ++ r) ≡ parse.branches_from leaves types F n (S n) left xs h r

  record AfterCases (d : Bool) (n : ℕ) (u : List Token) (xs : List Stmt) (h : ℕ) (r : List Token) : Type 0 where
    left : ℕ
    enough : length r < left
    is : parse.cases_from leaves types F n (S n) d F [] 0 (u ++ r) ≡ parse.cases_from leaves types F n (S n) d left xs h r

  inner_of : (d : Bool) (u : List Token) (x : Stmt) (h n : ℕ) → h ≤ n + 1 → (r : List Token) → length (u ++ r) < F → parse.statement leaves types F n (S n) (u ++ r) ≡ Ok (read x h d, r) → IsValue leaves types u x h ⊎ Plain leaves types (u ++ r) → ReadInner n (u ++ r) x h r
  inner_of d u x h n low r s e (inl v) =
      let cut : u ++ r ≡ v.front ++ (v.last ∷ r) = ap (λ l. l ++ r) v.cut ∙ append_assoc v.front (v.last ∷ []) r in
      record {
        flag = false;
        is = ap (parse.in_block leaves types F n (S n)) cut
            ∙ inner_value_c leaves types F v.is v.last v.ends n (omega (arith, low, v.high)) r (omega (arith, s, ap length cut))
            ∙ ap₂ (λ y i. Ok (read y i false, r)) (sym v.tree) (sym v.high);
      }
  inner_of d u x h n low r s e (inr p) = record { flag = d; is = plain_step leaves types F n (u ++ r) p.no_type p.no_paren ∙ e }

  low_stmt : {d : Bool} {u : List Token} {x : Stmt} {h : ℕ} → IsStmt leaves types d u x h → (n : ℕ) → h ≤ n → h ≤ pred n + 1
  low_stmt {h = h} d n low = pred_le h n (stmt_high leaves types d) low

  -- ---- lists, behind their last element

  whole_of : (n : ℕ) (u : List Token) (xs : List Stmt) (h : ℕ) (r : List Token) → AfterBody n u xs h r → begins_inner types r ≡ false → parse.body_from leaves types F n (S n) F [] 0 (u ++ r) ≡ Ok ((xs, h), r)
  whole_of n u xs h r q e = q.is ∙ ap (λ m. parse.body_from leaves types F n (S n) m xs h r) (some_pred q.left (length r) q.enough) ∙ step.end_body leaves types F n (pred q.left) r xs h e

  braces_of : (n : ℕ) (u : List Token) (xs : List Stmt) (h : ℕ) (p q : Token) (r : List Token) → AfterBody n u xs h (q ∷ r) → p.kind ≡ k.LeftBrace → q.kind ≡ k.RightBrace → parse.block leaves types F n (S n) ((p ∷ (u ++ q ∷ [])) ++ r) ≡ Ok (ended (sm.Block p.place xs) (h + 1), r)
  braces_of n u xs h p q r a pc qc =
      let cut : (u ++ q ∷ []) ++ r ≡ u ++ (q ∷ r) = append_assoc u (q ∷ []) r in
      ap (λ l. parse.block leaves types F n (S n) (p ∷ l)) cut
      ∙ step.step_block leaves types F n p q (u ++ (q ∷ r)) r (xs, h) pc (whole_of n u xs h (q ∷ r) a (closes leaves types q r qc).0) qc

  braced_of : (d : Bool) (n : ℕ) (u : List Token) (xs : List Stmt) (h : ℕ) (p q : Token) (r : List Token) → AfterCases d n u xs h (q ∷ r) → p.kind ≡ k.LeftBrace → q.kind ≡ k.RightBrace → parse.braced_cases leaves types F n (S n) d (p ∷ (u ++ (q ∷ r))) ≡ Ok ((xs, h), r)
  braced_of d n u xs h p q r a pc qc = step.step_braced leaves types F n d p q (u ++ (q ∷ r)) r (xs, h) pc
      (a.is ∙ ap (λ m. parse.cases_from leaves types F n (S n) d m xs h (q ∷ r)) (some_pred a.left (length (q ∷ r)) a.enough) ∙ step.end_cases leaves types F n d (pred a.left) (q ∷ r) xs h (no_case_closes leaves types d q r qc)) qc

  end_of : (q : Token) (r : List Token) → q.kind ≡ k.RightBrace → Ends leaves types (q ∷ r)
  end_of q r qc = let e = closes leaves types q r qc in record { stops = e.0; no_else = e.2 }

  rescue_of : {m u : List Token} {name : Option Rattle.al_tree.specs.declared.expression.Name.Name} {x : Stmt} {h : ℕ} → IsOptionalName leaves types m name → IsBlock leaves types u x h → (n : ℕ) → h + 1 ≤ n + 1 → (w : Token) (r : List Token) → S n want.Block (u ++ r) ≡ Ok (ended x h, r)
      → parse.rescue leaves types F n (S n) (w ∷ (m ++ (u ++ r))) ≡ Ok (ended (sm.Rescue w.place name x) (h + 1), r)
  rescue_of {u = u} {x = x} {h = h} g.none (g.braces p q {u = v} pc b qc) n low w r e =
      step.step_rescue leaves types F n w (u ++ r) r (ended x h) (nat_lt_is 0 n (omega arith)) (brace_no_name p ((v ++ q ∷ []) ++ r) pc) e
  rescue_of {u = u} {x = x} {h = h} (g.some m (other_name mc mf)) b n low w r e =
      let high : 0 < h = block_high leaves types b in
      step.step_rescue_named leaves types F n w m (u ++ r) r (ended x h) (nat_lt_is 0 n (omega (arith, high, low))) mc mf e

  under : (h n : ℕ) → h + 1 ≤ n → h ≤ pred n
  under h zero l = absurd (omega arith)
  under h (suc n) l = omega arith

  mutual
    -- a statement, where no `else` comes next that would belong to it
    pub stmt_c : {d : Bool} {u : List Token} {x : Stmt} {h : ℕ} → IsStmt leaves types d u x h → (n : ℕ) → h ≤ n + 1 → (r : List Token) → length (u ++ r) < F → (d ≡ true → NoElse r) → parse.statement leaves types F n (S n) (u ++ r) ≡ Ok (read x h d, r)
    stmt_c (g.empty t c) n low r s f = by_word n t r k.Semicolon _ c refl (step.step_empty leaves types F n t r)
    stmt_c (g.block (g.braces p q {u = u} {xs = xs} {h = h} pc b qc)) n low r s f = by_word n p ((u ++ q ∷ []) ++ r) k.LeftBrace _ pc refl (braces_of n u xs h p q r (body_c b n (omega arith) (q ∷ r) (omega (arith, s, ap length (append_assoc u (q ∷ []) r))) (closes leaves types q r qc).2) pc qc)
    stmt_c (g.value t {u = u} a c) n low r s f =
        let cut = append_assoc u (t ∷ []) r in
        ap (parse.statement leaves types F n (S n)) cut ∙ value_c leaves types F a t c n (omega arith) r (omega (arith, s, ap length cut))
    stmt_c (g.label m t {u = u} {x = x} {h = h} (other_name mc mf) tc d) n low r s f =
        let high : 0 < h = stmt_high leaves types d in
        step.step_label leaves types F n m t (u ++ r) r (read x h _) mc mf (nat_lt_is 0 n (omega (arith, high, low))) tc (sub n want.Statement _ _ (omega (arith, high, low)) (stmt_c d (pred n) (low_stmt d n (omega arith)) r (omega (arith, s)) f))
    stmt_c (g.if_alone w o c {u = u} {v = v} {x = x} {y = y} {h = h} {i = i} wc oc a ec d) n low r s f =
        let cut = append_assoc u (c ∷ v) r in
        let s1 : length (u ++ (c ∷ (v ++ r))) < F = omega (arith, s, ap length cut) in
        let high : 0 < h = expr_high leaves types a in
        ap (λ l. parse.statement leaves types F n (S n) (w ∷ o ∷ l)) cut
        ∙ by_word n w (o ∷ (u ++ (c ∷ (v ++ r)))) k.If _ wc refl (step.step_if leaves types F n w (o ∷ (u ++ (c ∷ (v ++ r)))) (v ++ r) r (x, h) (read y i _) (nat_lt_is 0 n (omega (arith, high, low)))
        (condition_c a n (omega (arith, low)) o c (v ++ r) s1 oc ec) (sub n want.Statement _ _ (omega (arith, high, low)) (stmt_c d (pred n) (low_stmt d n (omega (arith, low))) r (tail_short u c (v ++ r) F s1) (λ _. f refl))) (f refl))
    stmt_c (g.if_else {dangles = e} w o c t {u = u} {v = v} {r = q} {x = x} {y = y} {z = z} {h = h} {i = i} {j = j} wc oc a ec d tc b) n low r s f =
        let cut : (u ++ c ∷ (v ++ t ∷ q)) ++ r ≡ u ++ (c ∷ (v ++ (t ∷ (q ++ r)))) = append_assoc u (c ∷ (v ++ t ∷ q)) r ∙ ap (λ l. u ++ c ∷ l) (append_assoc v (t ∷ q) r) in
        let s1 : length (u ++ (c ∷ (v ++ (t ∷ (q ++ r))))) < F = omega (arith, s, ap length cut) in
        let s2 : length (v ++ (t ∷ (q ++ r))) < F = tail_short u c (v ++ (t ∷ (q ++ r))) F s1 in
        let high : 0 < h = expr_high leaves types a in
        ap (λ l. parse.statement leaves types F n (S n) (w ∷ o ∷ l)) cut
        ∙ by_word n w (o ∷ (u ++ (c ∷ (v ++ (t ∷ (q ++ r)))))) k.If _ wc refl (step.step_if_else leaves types F n w t (o ∷ (u ++ (c ∷ (v ++ (t ∷ (q ++ r)))))) (v ++ (t ∷ (q ++ r))) (q ++ r) r (x, h) (read y i false) (read z j e) (nat_lt_is 0 n (omega (arith, high, low)))
        (condition_c a n (omega (arith, low)) o c (v ++ (t ∷ (q ++ r))) s1 oc ec) (sub n want.Statement _ _ (omega (arith, high, low)) (stmt_c d (pred n) (low_stmt d n (omega (arith, low))) (t ∷ (q ++ r)) s2 (λ z. absurd (let y : ⊥ = cc in y)))) tc refl
        (sub n want.Statement _ _ (omega (arith, high, low)) (stmt_c b (pred n) (low_stmt b n (omega (arith, low))) r (tail_short v t (q ++ r) F s2) f)))
    stmt_c (g.while_loop w o c {u = u} {v = v} {x = x} {y = y} {h = h} {i = i} wc oc a ec d) n low r s f =
        let cut = append_assoc u (c ∷ v) r in
        let s1 : length (u ++ (c ∷ (v ++ r))) < F = omega (arith, s, ap length cut) in
        let high : 0 < h = expr_high leaves types a in
        ap (λ l. parse.statement leaves types F n (S n) (w ∷ o ∷ l)) cut
        ∙ by_word n w (o ∷ (u ++ (c ∷ (v ++ r)))) k.While _ wc refl (step.step_while leaves types F n w (o ∷ (u ++ (c ∷ (v ++ r)))) (v ++ r) r (x, h) (read y i _) (nat_lt_is 0 n (omega (arith, high, low)))
        (condition_c a n (omega (arith, low)) o c (v ++ r) s1 oc ec) (sub n want.Statement _ _ (omega (arith, high, low)) (stmt_c d (pred n) (low_stmt d n (omega (arith, low))) r (tail_short u c (v ++ r) F s1) f)))
    stmt_c (g.do_loop {dangles = e} w t o c q {u = u} {v = v} {x = x} {y = y} {h = h} {i = i} wc d tc oc a ec qc) n low r s f =
        let cut : (u ++ t ∷ o ∷ (v ++ c ∷ q ∷ [])) ++ r ≡ u ++ (t ∷ o ∷ (v ++ (c ∷ q ∷ r))) = append_assoc u (t ∷ o ∷ (v ++ c ∷ q ∷ [])) r ∙ ap (λ l. u ++ t ∷ o ∷ l) (append_assoc v (c ∷ q ∷ []) r) in
        let s1 : length (u ++ (t ∷ o ∷ (v ++ (c ∷ q ∷ r)))) < F = omega (arith, s, ap length cut) in
        let s2 : length (o ∷ (v ++ (c ∷ q ∷ r))) < F = tail_short u t (o ∷ (v ++ (c ∷ q ∷ r))) F s1 in
        let high : 0 < h = stmt_high leaves types d in
        ap (λ l. parse.statement leaves types F n (S n) (w ∷ l)) cut
        ∙ by_word n w (u ++ (t ∷ o ∷ (v ++ (c ∷ q ∷ r)))) k.Do _ wc refl (step.step_do leaves types F n w t q (u ++ (t ∷ o ∷ (v ++ (c ∷ q ∷ r)))) (o ∷ (v ++ (c ∷ q ∷ r))) r (read x h e) (y, i) (nat_lt_is 0 n (omega (arith, high, low)))
        (sub n want.Statement _ _ (omega (arith, high, low)) (stmt_c d (pred n) (low_stmt d n (omega (arith, low))) (t ∷ o ∷ (v ++ (c ∷ q ∷ r))) s1 (λ _. while_no_else t (o ∷ (v ++ (c ∷ q ∷ r))) tc))) tc
        (condition_c a n (omega (arith, low)) o c (q ∷ r) (omega (arith, s2)) oc ec) qc)
    stmt_c (g.for_loop w o p q c {u = u} {v = v} {r = e} {b = b} {x = x} {y = y} {z = z} {body = body} {h = h} {i = i} {j = j} {m = m} wc oc a1 pc a2 qc a3 ec d) n low r s f =
        let cut : (u ++ p ∷ (v ++ q ∷ (e ++ c ∷ b))) ++ r ≡ u ++ (p ∷ (v ++ (q ∷ (e ++ (c ∷ (b ++ r)))))) = append_assoc u (p ∷ (v ++ q ∷ (e ++ c ∷ b))) r ∙ ap (λ l. u ++ p ∷ l) (append_assoc v (q ∷ (e ++ c ∷ b)) r ∙ ap (λ l. v ++ q ∷ l) (append_assoc e (c ∷ b) r)) in
        let s1 : length (u ++ (p ∷ (v ++ (q ∷ (e ++ (c ∷ (b ++ r))))))) < F = omega (arith, s, ap length cut) in
        let s2 = tail_short u p (v ++ (q ∷ (e ++ (c ∷ (b ++ r))))) F s1 in
        let s3 = tail_short v q (e ++ (c ∷ (b ++ r))) F s2 in
        let high : 0 < m = stmt_high leaves types d in
        ap (λ l. parse.statement leaves types F n (S n) (w ∷ o ∷ l)) cut
        ∙ by_word n w (o ∷ (u ++ (p ∷ (v ++ (q ∷ (e ++ (c ∷ (b ++ r)))))))) k.For _ wc refl (step.step_for leaves types F n w o (u ++ (p ∷ (v ++ (q ∷ (e ++ (c ∷ (b ++ r))))))) (v ++ (q ∷ (e ++ (c ∷ (b ++ r))))) (e ++ (c ∷ (b ++ r))) (b ++ r) r (x, h) (y, i) (z, j) (read body m _) (nat_lt_is 0 n (omega (arith, high, low))) oc
        (semicolon_c a1 n (omega (arith, low)) p (v ++ (q ∷ (e ++ (c ∷ (b ++ r))))) s1 pc) (semicolon_c a2 n (omega (arith, low)) q (e ++ (c ∷ (b ++ r))) s2 qc) (paren_c a3 n (omega (arith, low)) c (b ++ r) s3 ec)
        (sub n want.Statement _ _ (omega (arith, high, low)) (stmt_c d (pred n) (low_stmt d n (omega (arith, low))) r (tail_short e c (b ++ r) F s3) f)))
    stmt_c (g.switch w o c p q {u = u} {v = v} {x = x} {ys = ys} {h = h} {i = i} wc oc a ec pc l qc) n low r s f =
        let cut : (u ++ c ∷ p ∷ (v ++ q ∷ [])) ++ r ≡ u ++ (c ∷ p ∷ (v ++ (q ∷ r))) = append_assoc u (c ∷ p ∷ (v ++ q ∷ [])) r ∙ ap (λ l. u ++ c ∷ p ∷ l) (append_assoc v (q ∷ []) r) in
        let s1 : length (u ++ (c ∷ p ∷ (v ++ (q ∷ r)))) < F = omega (arith, s, ap length cut) in
        let s2 = tail_short u c (p ∷ (v ++ (q ∷ r))) F s1 in
        let high : 0 < h = expr_high leaves types a in
        ap (λ l. parse.statement leaves types F n (S n) (w ∷ o ∷ l)) cut
        ∙ by_word n w (o ∷ (u ++ (c ∷ p ∷ (v ++ (q ∷ r))))) k.Switch _ wc refl (step.step_switch leaves types F n w (o ∷ (u ++ (c ∷ p ∷ (v ++ (q ∷ r))))) (p ∷ (v ++ (q ∷ r))) r (x, h) (ys, i) (nat_lt_is 0 n (omega (arith, high, low)))
        (condition_c a n (omega (arith, low)) o c (p ∷ (v ++ (q ∷ r))) s1 oc ec) (braced_of true n v ys i p q r (cases_c l n (omega (arith, low)) (q ∷ r) (omega (arith, s2)) (end_of q r qc)) pc qc))
    stmt_c (g.alt w p q {u = u} {xs = xs} {h = h} wc pc l qc) n low r s f =
        let cut : (u ++ q ∷ []) ++ r ≡ u ++ (q ∷ r) = append_assoc u (q ∷ []) r in
        ap (λ l. parse.statement leaves types F n (S n) (w ∷ p ∷ l)) cut
        ∙ by_word n w (p ∷ (u ++ (q ∷ r))) k.Alt _ wc refl (step.step_alt leaves types F n w (p ∷ (u ++ (q ∷ r))) r (xs, h) (braced_of false n u xs h p q r (cases_c l n (omega (arith, low)) (q ∷ r) (omega (arith, s, ap length cut)) (end_of q r qc)) pc qc))
    stmt_c (g.par w p q {u = u} {xs = xs} {h = h} wc pc l qc) n low r s f =
        let cut : (u ++ q ∷ []) ++ r ≡ u ++ (q ∷ r) = append_assoc u (q ∷ []) r in
        let e = closes leaves types q r qc in
        let b = branches_c l n (omega (arith, low)) (q ∷ r) (omega (arith, s, ap length cut)) e.2 in
        ap (λ l. parse.statement leaves types F n (S n) (w ∷ p ∷ l)) cut
        ∙ by_word n w (p ∷ (u ++ (q ∷ r))) k.Par _ wc refl (step.step_par leaves types F n w p q (u ++ (q ∷ r)) r (xs, h) pc
        (b.is ∙ ap (λ m. parse.branches_from leaves types F n (S n) m xs h (q ∷ r)) (some_pred b.left (length (q ∷ r)) b.enough) ∙ step.end_branches leaves types F n (pred b.left) (q ∷ r) xs h e.1) qc)
    stmt_c (g.rescue w {n = m} {u = u} {name = name} {x = x} {h = h} wc a b) n low r s f =
        let cut = append_assoc m u r in
        ap (λ l. parse.statement leaves types F n (S n) (w ∷ l)) cut
        ∙ by_word n w (m ++ (u ++ r)) k.Rescue _ wc refl (rescue_of a b n low w r (block_sub b n (omega arith) r (rest_short m (u ++ r) F (omega (arith, s, ap length cut)))))
    stmt_c (g.raise w t {n = m} wc a tc) n low r s f =
        let cut = append_assoc m (t ∷ []) r in
        ap (λ l. parse.statement leaves types F n (S n) (w ∷ l)) cut ∙ by_word n w (m ++ (t ∷ r)) k.Raise _ wc refl (raise_c a n w t r tc)
    stmt_c (g.return w t {u = u} {x = x} {h = h} wc a tc) n low r s f =
        let cut = append_assoc u (t ∷ []) r in
        ap (λ l. parse.statement leaves types F n (S n) (w ∷ l)) cut
        ∙ by_word n w (u ++ (t ∷ r)) k.Return _ wc refl (step.step_return leaves types F n w (u ++ (t ∷ r)) r x h (semicolon_c a n (omega (arith, low)) t r (omega (arith, s, ap length cut)) tc))
    stmt_c (g.become w t {u = u} {x = x} {h = h} wc a tc) n low r s f =
        let cut = append_assoc u (t ∷ []) r in
        let high : 0 < h = expr_high leaves types a in
        ap (λ l. parse.statement leaves types F n (S n) (w ∷ l)) cut
        ∙ by_word n w (u ++ (t ∷ r)) k.Become _ wc refl (step.step_become leaves types F n w t (u ++ (t ∷ r)) r (x, h) (nat_lt_is 0 n (omega (arith, high, low))) (expr_read leaves types F a n (omega (arith, low)) t r (omega (arith, s, ap length cut)) (subst FollowExpr (sym tc) before_semicolon)) tc)
    stmt_c (g.break w t {n = m} {count = x} wc a tc) n low r s f =
        let cut = append_assoc m (t ∷ []) r in
        ap (λ l. parse.statement leaves types F n (S n) (w ∷ l)) cut ∙ by_word n w (m ++ (t ∷ r)) k.Break _ wc refl (let e = counted_c a n w t r tc in rw e refl)
    stmt_c (g.continue w t {n = m} {count = x} wc a tc) n low r s f =
        let cut = append_assoc m (t ∷ []) r in
        ap (λ l. parse.statement leaves types F n (S n) (w ∷ l)) cut ∙ by_word n w (m ++ (t ∷ r)) k.Continue _ wc refl (let e = counted_c a n w t r tc in rw e refl)
    stmt_c (g.goto w m t wc (other_name mc mf) tc) n low r s f = by_word n w (m ∷ t ∷ r) k.Goto _ wc refl (step.step_goto leaves types F n w m t r mc mf tc)
    stmt_c (g.alloc w t {u = u} {xs = xs} {h = h} wc l tc) n low r s f =
        let cut = append_assoc u (t ∷ []) r in
        let e = listed_c l n (omega (arith, low)) w t r (omega (arith, s, ap length cut)) tc in
        ap (λ l. parse.statement leaves types F n (S n) (w ∷ l)) cut ∙ by_word n w (u ++ (t ∷ r)) k.Alloc _ wc refl (rw e refl)
    stmt_c (g.unalloc w t {u = u} {xs = xs} {h = h} wc l tc) n low r s f =
        let cut = append_assoc u (t ∷ []) r in
        let e = listed_c l n (omega (arith, low)) w t r (omega (arith, s, ap length cut)) tc in
        ap (λ l. parse.statement leaves types F n (S n) (w ∷ l)) cut ∙ by_word n w (u ++ (t ∷ r)) k.Unalloc _ wc refl (rw e refl)
    stmt_c (g.check w t {u = u} {x = x} {h = h} wc a tc) n low r s f =
        let cut = append_assoc u (t ∷ []) r in
        let high : 0 < h = asg_high leaves types a in
        ap (λ l. parse.statement leaves types F n (S n) (w ∷ l)) cut
        ∙ by_word n w (u ++ (t ∷ r)) k.Check _ wc refl (step.step_check leaves types F n w t (u ++ (t ∷ r)) r (x, h) (nat_lt_is 0 n (omega (arith, high, low)))
        (asg_c leaves types F a n (omega (arith, low)) (t ∷ r) (omega (arith, s, ap length cut)) (inl (at_kind FollowAsg t r k.Semicolon tc before_semicolon.asg))) tc)
    stmt_c (g.check_text w m b t {u = u} {x = x} {h = h} wc a mc bc tc) n low r s f =
        let cut = append_assoc u (m ∷ b ∷ t ∷ []) r in
        let high : 0 < h = asg_high leaves types a in
        ap (λ l. parse.statement leaves types F n (S n) (w ∷ l)) cut
        ∙ by_word n w (u ++ (m ∷ b ∷ t ∷ r)) k.Check _ wc refl (step.step_check_text leaves types F n w m b t (u ++ (m ∷ b ∷ t ∷ r)) r (x, h) (nat_lt_is 0 n (omega (arith, high, low)))
        (asg_c leaves types F a n (omega (arith, low)) (m ∷ b ∷ t ∷ r) (omega (arith, s, ap length cut)) (inl (at_kind FollowAsg m (b ∷ t ∷ r) k.Comma mc before_comma))) mc bc tc)
    stmt_c (g.proc w t {u = u} {xs = xs} {h = h} wc l tc) n low r s f =
        let cut = append_assoc u (t ∷ []) r in
        let e = listed_c l n (omega (arith, low)) w t r (omega (arith, s, ap length cut)) tc in
        ap (λ l. parse.statement leaves types F n (S n) (w ∷ l)) cut ∙ by_word n w (u ++ (t ∷ r)) k.Proc _ wc refl (rw e refl)
    stmt_c (g.task w t {u = u} {xs = xs} {h = h} wc l tc) n low r s f =
        let cut = append_assoc u (t ∷ []) r in
        let e = listed_c l n (omega (arith, low)) w t r (omega (arith, s, ap length cut)) tc in
        ap (λ l. parse.statement leaves types F n (S n) (w ∷ l)) cut ∙ by_word n w (u ++ (t ∷ r)) k.Task _ wc refl (rw e refl)

    pub block_sub : {u : List Token} {x : Stmt} {h : ℕ} → IsBlock leaves types u x h → (n : ℕ) → h ≤ n → (r : List Token) → length (u ++ r) < F → S n want.Block (u ++ r) ≡ Ok (ended x h, r)
    block_sub (g.braces p q {u = u} {xs = xs} {h = h} pc b qc) n low r s = sub n want.Block ((p ∷ (u ++ q ∷ [])) ++ r) _ (omega arith)
        (braces_of (pred n) u xs h p q r (body_c b (pred n) (under h n low) (q ∷ r) (omega (arith, s, ap length (append_assoc u (q ∷ []) r))) (closes leaves types q r qc).2) pc qc)

    inner_c : {u : List Token} {x : Stmt} {h : ℕ} → IsBodyStmt leaves types u x h → (n : ℕ) → h ≤ n + 1 → (r : List Token) → length (u ++ r) < F → NoElse r → ReadInner n (u ++ r) x h r
    inner_c (g.declare t {u = u} {v = v} a l c) n low r s f =
        let cut : ((u ++ v) ++ t ∷ []) ++ r ≡ u ++ (v ++ (t ∷ r)) = append_assoc (u ++ v) (t ∷ []) r ∙ append_assoc u v (t ∷ r) in
        record { flag = false; is = ap (parse.in_block leaves types F n (S n)) cut ∙ declare_c leaves types F t a l c n (omega (arith, low)) (omega (arith, low)) r (omega (arith, s, ap length cut)) }
    inner_c (g.statement {dangles = b} {u = u} {x = x} {h = h} d) n low r s f = inner_of b u x h n low r s (stmt_c d n low r s (λ _. f)) (plain_start leaves types d r)

    body_c : {u : List Token} {xs : List Stmt} {h : ℕ} → IsBody leaves types u xs h → (n : ℕ) → h ≤ n → (r : List Token) → length (u ++ r) < F → NoElse r → AfterBody n u xs h r
    body_c g.no_statement n low r s f = record { left = F; enough = s; is = refl }
    body_c (g.one_more {u = u} {v = v} {xs = xs} {x = x} {h = h} {i = i} l d) n low r s f =
        let cut = append_assoc u v r in
        let s1 : length (u ++ (v ++ r)) < F = omega (arith, s, ap length cut) in
        let begins = inner_begins leaves types d r in
        let q = body_c l n (omega (arith, low)) (v ++ r) s1 (inner_no_else leaves types (v ++ r) begins) in
        let high : 0 < i = inner_high leaves types d in
        let long : 0 < length v = inner_long leaves types d in
        let e = inner_c d (pred n) (pred_le i n high (omega (arith, low))) r (rest_short u (v ++ r) F s1) f in
        record {
          left = pred q.left;
          enough = less_pred (length r) q.left (omega (arith, q.enough, long, length-append v r));
          is = ap (parse.body_from leaves types F n (S n) F [] 0) cut ∙ q.is
              ∙ ap (λ m. parse.body_from leaves types F n (S n) m xs h (v ++ r)) (some_pred q.left (length (v ++ r)) q.enough)
              ∙ step.step_body leaves types F n (pred q.left) (v ++ r) r xs h (read x i e.flag) begins (nat_lt_is 0 n (omega (arith, high, low))) (sub n want.Inner (v ++ r) _ (omega (arith, high, low)) e.is);
        }

    branches_c : {u : List Token} {xs : List Stmt} {h : ℕ} → IsBranches leaves types u xs h → (n : ℕ) → h ≤ n → (r : List Token) → length (u ++ r) < F → NoElse r → AfterBranches n u xs h r
    branches_c g.no_branch n low r s f = record { left = F; enough = s; is = refl }
    branches_c (g.one_branch {dangles = b} {u = u} {v = v} {xs = xs} {x = x} {h = h} {i = i} l d) n low r s f =
        let cut = append_assoc u v r in
        let s1 : length (u ++ (v ++ r)) < F = omega (arith, s, ap length cut) in
        let begins = stmt_begins leaves types d r in
        let q = branches_c l n (omega (arith, low)) (v ++ r) s1 (statement_no_else leaves types (v ++ r) begins) in
        let high : 0 < i = stmt_high leaves types d in
        let long : 0 < length v = stmt_long leaves types d in
        record {
          left = pred q.left;
          enough = less_pred (length r) q.left (omega (arith, q.enough, long, length-append v r));
          is = ap (parse.branches_from leaves types F n (S n) F [] 0) cut ∙ q.is
              ∙ ap (λ m. parse.branches_from leaves types F n (S n) m xs h (v ++ r)) (some_pred q.left (length (v ++ r)) q.enough)
              ∙ step.step_branch leaves types F n (pred q.left) (v ++ r) r xs h (read x i b) begins (nat_lt_is 0 n (omega (arith, high, low))) (sub n want.Statement _ _ (omega (arith, high, low)) (stmt_c d (pred n) (low_stmt d n (omega (arith, low))) r (rest_short u (v ++ r) F s1) (λ _. f)));
        }

    cases_c : {d : Bool} {u : List Token} {xs : List Stmt} {h : ℕ} → IsCases leaves types d u xs h → (n : ℕ) → h ≤ n → (r : List Token) → length (u ++ r) < F → Ends leaves types r → AfterCases d n u xs h r
    cases_c g.no_case n low r s e = record { left = F; enough = s; is = refl }
    cases_c {d} (g.one_case w t {u = u} {v = v} {r = q} {xs = xs} {ys = ys} {x = x} {h = h} {i = i} {j = j} l wc a tc b) n low r s e =
        let cut : (u ++ w ∷ (v ++ t ∷ q)) ++ r ≡ u ++ (w ∷ (v ++ (t ∷ (q ++ r)))) = append_assoc u (w ∷ (v ++ t ∷ q)) r ∙ ap (λ m. u ++ w ∷ m) (append_assoc v (t ∷ q) r) in
        let s1 : length (u ++ (w ∷ (v ++ (t ∷ (q ++ r))))) < F = omega (arith, s, ap length cut) in
        let s2 = tail_short u w (v ++ (t ∷ (q ++ r))) F s1 in
        let stop = case_ends leaves types w (v ++ (t ∷ (q ++ r))) wc in
        let p = cases_c l n (omega (arith, low)) (w ∷ (v ++ (t ∷ (q ++ r)))) s1 (record { stops = stop.0; no_else = stop.1 }) in
        let high : 0 < i = asg_high leaves types a in
        record {
          left = pred p.left;
          enough = less_pred (length r) p.left (omega (arith, p.enough, length-append v (t ∷ (q ++ r)), length-append q r));
          is = ap (parse.cases_from leaves types F n (S n) d F [] 0) cut ∙ p.is
              ∙ ap (λ m. parse.cases_from leaves types F n (S n) d m xs h (w ∷ (v ++ (t ∷ (q ++ r))))) (some_pred p.left (length (w ∷ (v ++ (t ∷ (q ++ r))))) p.enough)
              ∙ step.step_case leaves types F n d (pred p.left) w t (v ++ (t ∷ (q ++ r))) (q ++ r) r xs h (x, i) (ys, j) wc (nat_lt_is 0 n (omega (arith, high, low)))
              (asg_c leaves types F a n (omega (arith, low)) (t ∷ (q ++ r)) s2 (inl (at_kind FollowAsg t (q ++ r) k.Colon tc before_colon.asg))) tc (whole_of n q ys j r (body_c b n (omega (arith, low)) r (tail_short v t (q ++ r) F s2) e.no_else) e.stops);
        }
    cases_c (g.default_case w t {u = u} {r = q} {xs = xs} {ys = ys} {h = h} {j = j} l wc tc b) n low r s e =
        let cut : (u ++ w ∷ t ∷ q) ++ r ≡ u ++ (w ∷ t ∷ (q ++ r)) = append_assoc u (w ∷ t ∷ q) r in
        let s1 : length (u ++ (w ∷ t ∷ (q ++ r))) < F = omega (arith, s, ap length cut) in
        let s2 = tail_short u w (t ∷ (q ++ r)) F s1 in
        let stop = default_ends leaves types w (t ∷ (q ++ r)) wc in
        let p = cases_c l n (omega (arith, low)) (w ∷ t ∷ (q ++ r)) s1 (record { stops = stop.0; no_else = stop.1 }) in
        record {
          left = pred p.left;
          enough = less_pred (length r) p.left (omega (arith, p.enough, length-append q r));
          is = ap (parse.cases_from leaves types F n (S n) true F [] 0) cut ∙ p.is
              ∙ ap (λ m. parse.cases_from leaves types F n (S n) true m xs h (w ∷ t ∷ (q ++ r))) (some_pred p.left (length (w ∷ t ∷ (q ++ r))) p.enough)
              ∙ step.step_default leaves types F n (pred p.left) w t (q ++ r) r xs h (ys, j) wc tc (whole_of n q ys j r (body_c b n (omega (arith, low)) r (omega (arith, s2)) e.no_else) e.stops);
        }

  pub block_within_c : {u : List Token} {x : Stmt} {h : ℕ} → IsBlock leaves types u x h → (n : ℕ) → h ≤ n → (r : List Token) → length (u ++ r) < F → parse.block_within leaves types F n (u ++ r) ≡ Ok ((x, h), r)
  unfolding parse.block_within
  block_within_c d n low r s = let e = block_sub d n low r s in rw e refl
