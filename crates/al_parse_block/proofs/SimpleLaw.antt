-- Declarations, and statements in which no statements stand, keep the law.
use Rattle.std.proofs.Common.{◌≡◌, ℕ, zero, suc, pred, ◌+◌, ◌<◌, ◌≤◌, max, nat_lt, Bool, true, false, if◌then◌else◌, List, [], ◌∷◌, ◌++◌, length, Option, Some, None, refl, sym, ap, ◌∙◌, subst, arith, append_assoc, append-nil, length-append}
use Rattle.al_base.specs.declared.place.Place.{Place}
use Rattle.al_lex.specs.declared.kind.TokenKind.{TokenKind}
use Rattle.al_lex.specs.declared.kind.TokenKind.TheVariants as k
use Rattle.al_lex.specs.declared.token.Token.{Token}
use Rattle.al_tree.specs.Words.{start}
use Rattle.al_tree.specs.Types.{Leaves, name_at, IsOtherName, IsBase}
use Rattle.al_tree.specs.Types as rules
use Rattle.al_tree.specs.Expressions.{IsPost, IsUnary, IsAsg, IsAsgs, IsExpr, prim, name, called_name, post, one, only}
use Rattle.al_tree.specs.Statements as g
use Rattle.al_tree.specs.Statements.{IsStmt, IsBodyStmt, IsVariable, IsVariables, IsOptionalExpr, IsOptionalName, IsOptionalNumber}
use Rattle.al_tree.specs.Reading.{Parser, ◌>>=◌, ◌>>◌, pure, refuse, kind, same_kind, looks, peek, here, take_if, expect}
use Rattle.al_tree.specs.declared.expression.Name.{Name}
use Rattle.al_tree.specs.declared.expression.Expr.{Expr}
use Rattle.al_tree.specs.declared.expression.Expr.TheVariants as e
use Rattle.al_tree.specs.declared.statement.Variable.{Variable}
use Rattle.al_tree.specs.declared.statement.Stmt.{Stmt}
use Rattle.al_tree.specs.declared.statement.Stmt.TheVariants as sm
use Rattle.al_tree.proofs.Law.{World, Family, Lang, Any, Has, Law, token, down, bind, map_law, pure_law, refuse_law, choose, weaken, anywhere, look, kind_local, start_local, start_of, located, take_law, turn_law, expect_law, a_turn, all_turns, no_turn, relang, view_law}
use Rattle.al_parse_type.specs.declared.part.ReadBase.{ReadBase}
use Rattle.al_parse_type.specs.Parse.{sees_other_name, other_name, dcl}
use Rattle.al_parse_type.specs.Within.{base_within}
use Rattle.al_parse_type.proofs.BoundLaw.{always, kind_is, first_kind, lt_grows, lt_of, down_fits, at_nil, other_local, other_is, other_law, fresh_token, fresh_is, dcl_law, lower, lower_above}
use Rattle.al_parse_type.proofs.TypeLaw.{LBase, base_long, base_place, base_has}
use Rattle.al_parse_type.proofs.BaseWhole.{base_within_law}
use Rattle.al_parse_expr.specs.Parse.{Sized, Listed, within as expr_within}
use Rattle.al_parse_expr.specs.Within.{expression_within, assignment_within, list_within, after_name, after_unary, after_assignment}
use Rattle.al_parse_expr.proofs.Begins.{unary_long, asg_long, one_at, one_tree, one_asg}
use Rattle.al_parse_expr.proofs.ExprLaw.{LPost, LAsg, LAsgs, LExpr, within_law, listed_law, posts_law, asg_after_law, expr_after_law}
use Rattle.al_parse_block.specs.Parse as parse
use Rattle.al_parse_block.specs.Parse.{SizedVariable, ended}
use Rattle.al_parse_block.specs.declared.part.ReadStmt.{ReadStmt}
use Rattle.al_parse_block.proofs.Starts.{declare_at, LStmt, LInner, stmt_has, inner_has}

-- a parser with one level less
pub lowered : {A R : Type 0} {w : World} {G : List Token → Type 0} {p : Family A} {Q : Lang A} → Law R (lower w) G p Q → Law R w G (λ w. p (lower w)) Q
lowered {w = w} l = view_law lower (λ w' ab. lower_above w w' ab) (λ w' ab same. ap pred same) (λ r. r) (λ r. omega arith) (λ w' ab ts. refl) l

module _ (leaves : Leaves) (types : List ℕ) where
  -- ---- what statements have in them

  pub exprs : (R : Type 0) (w : World) → (R → w.fuel ≤ w.turns) → Law R w Any (λ w. expression_within leaves types w.turns w.depth) (LExpr leaves types)
  exprs R w fits = within_law leaves types w.depth R w refl fits _ tt

  pub asgs : (R : Type 0) (w : World) → (R → w.fuel ≤ w.turns) → Law R w Any (λ w. assignment_within leaves types w.turns w.depth) (LAsg leaves types)
  asgs R w fits = within_law leaves types w.depth R w refl fits _ tt

  pub lists : (R : Type 0) (w : World) → (R → w.fuel ≤ w.turns) → Law R w Any (λ w. list_within leaves types w.turns w.depth) (LAsgs leaves types)
  lists R w fits = listed_law leaves types w.depth (λ R' w2 d2 f2 x2 r2. within_law leaves types w.depth R' w2 d2 f2 x2 r2) R w refl fits

  abbrev nowhere : Place
  nowhere = start []

  -- "(" expr ")"
  pub data IsCondition : List Token → Expr → ℕ → Type 0 where
    condition : (o c : Token) {u : List Token} {x : Expr} {h : ℕ}
        → o.kind ≡ k.LeftParen → IsExpr leaves types u x h → c.kind ≡ k.RightParen → IsCondition (o ∷ (u ++ c ∷ [])) x h

  abbrev pub LCondition : Lang Sized
  LCondition u x = IsCondition u x.0 x.1

  pub condition_law : (R : Type 0) (w : World) → (R → w.fuel ≤ w.turns) → Law R w Any (λ w. parse.condition leaves types w.turns w.depth) LCondition
  unfolding parse.condition
  condition_law R w fits = expect_law (λ w o. expression_within leaves types w.turns w.depth >>= (λ x. expect k.RightParen >>= (λ _. pure x))) k.LeftParen (λ o oc.
      bind (exprs R w fits) (λ u x a. expect_law (λ w c. pure x) k.RightParen (λ c ec. pure_law x (condition o c oc a ec))))

  -- expr? and the token behind it
  pub data IsOptional (close : TokenKind) : List Token → Option Expr → ℕ → Type 0 where
    optional : (c : Token) {u : List Token} {x : Option Expr} {h : ℕ} → IsOptionalExpr leaves types u x h → c.kind ≡ close → IsOptional close (u ++ c ∷ []) x h

  abbrev pub LOptional : TokenKind → Lang (Option Expr × ℕ)
  LOptional close u x = IsOptional close u x.0 x.1

  pub optional_law : (R : Type 0) (w : World) → (R → w.fuel ≤ w.turns) → (close : TokenKind) → Law R w Any (λ w. parse.optional leaves types w.turns w.depth close) (LOptional close)
  unfolding parse.optional
  optional_law R w fits close =
      let end : Has (LOptional close) = record { word = token close ∷ []; value = (None, 0); is = optional (token close) g.none refl } in
      look kind kind_local (λ w next. if same_kind next close then (take_if true >>= (λ _. pure (None, 0))) else (expression_within leaves types w.turns w.depth >>= (λ x. expect close >>= (λ _. pure (Some x.0, x.1))))) end
      (λ next. choose (same_kind next close)
      (λ yes. take_law (λ w t. pure (None, 0)) always (λ m n l e. e) (λ t. t.kind ≡ close) (λ t ts q. first_kind t ts next q.1 ∙ kind_is next close yes) end (λ t c. pure_law (None, 0) (optional t g.none c)))
      (λ no. anywhere (bind (exprs R w fits) (λ u x a. expect_law (λ w c. pure (Some x.0, x.1)) close (λ c ec. pure_law (Some x.0, x.1) (optional c (g.some a) ec))))))

  pub optional_name_law : (R : Type 0) (w : World) → Law R w Any (λ w. parse.optional_name leaves types w.turns w.depth) (IsOptionalName leaves types)
  unfolding parse.optional_name
  optional_name_law R w =
      let end : Has (IsOptionalName leaves types) = record { word = []; value = None; is = g.none } in
      look (sees_other_name types) (other_local leaves types) (λ w is. if is then (take_if true >>= (λ t. pure (Some (name_at t)))) else pure None) end
      (λ is. choose is
      (λ yes. take_law (λ w t. pure (Some (name_at t))) always (λ m n l e. e) (IsOtherName leaves types) (λ t ts q. other_is leaves types t ts (q.1 ∙ yes)) end (λ t c. pure_law (Some (name_at t)) (g.some t c)))
      (λ no. pure_law None g.none))

  pub optional_number_law : (R : Type 0) (w : World) → Law R w Any (λ w. parse.optional_number leaves types w.turns w.depth) (IsOptionalNumber leaves types)
  unfolding parse.optional_number
  optional_number_law R w =
      let end : Has (IsOptionalNumber leaves types) = record { word = []; value = None; is = g.none } in
      look kind kind_local (λ w next. if same_kind next k.Number then (take_if true >>= (λ t. pure (Some (leaves.number t)))) else pure None) end
      (λ next. choose (same_kind next k.Number)
      (λ yes. take_law (λ w t. pure (Some (leaves.number t))) always (λ m n l e. e) (λ t. t.kind ≡ k.Number) (λ t ts q. first_kind t ts next q.1 ∙ kind_is next k.Number yes) end (λ t c. pure_law (Some (leaves.number t)) (g.some t c)))
      (λ no. pure_law None g.none))

  -- ---- declarations

  abbrev pub LVariable : Lang SizedVariable
  LVariable u x = IsVariable leaves types u x.0 x.1

  abbrev pub LVariables : Lang (List Variable × ℕ)
  LVariables u x = IsVariables leaves types u x.0 x.1

  variable_law : (R : Type 0) (w : World) → (R → w.fuel ≤ w.turns) → Law R w Any (λ w. parse.variable leaves types w.turns w.depth) LVariable
  unfolding parse.variable
  variable_law R w fits = bind (dcl_law leaves types R w fits) (λ u x a.
      let end : LVariable (u ++ []) (record { dcl = x.0; value = None }, x.1) = at_nil leaves types LVariable u (record { dcl = x.0; value = None }, x.1) (g.bare a) in
      look kind kind_local (λ w next. if same_kind next k.Equal then (take_if (nat_lt 0 w.depth) >>= (λ _. assignment_within leaves types w.turns w.depth >>= (λ y. pure (record { dcl = x.0; value = Some y.0 }, max x.1 y.1)))) else pure (record { dcl = x.0; value = None }, x.1))
      (record { word = []; value = (record { dcl = x.0; value = None }, x.1); is = end })
      (λ next. choose (same_kind next k.Equal)
      (λ yes. take_law (λ w t. assignment_within leaves types w.turns w.depth >>= (λ y. pure (record { dcl = x.0; value = Some y.0 }, max x.1 y.1))) (nat_lt 0) (lt_grows 0) (λ t. t.kind ≡ k.Equal) (λ t ts q. first_kind t ts next q.1 ∙ kind_is next k.Equal yes)
      (record { word = []; value = (record { dcl = x.0; value = None }, x.1); is = end })
      (λ t c. map_law (λ y. (record { dcl = x.0; value = Some y.0 }, max x.1 y.1)) (asgs (R × (nat_lt 0 w.depth ≡ true)) w (λ r. fits r.0)) (λ v y b. g.set t a c b)))
      (λ no. pure_law (record { dcl = x.0; value = None }, x.1) end)))

  variables_law : (R : Type 0) (m : ℕ) (w : World) → w.fuel ≡ m → (R → w.fuel ≤ w.turns) → (u : List Token) (xs : List Variable) (h : ℕ) → IsVariables leaves types u xs h
      → Law R w Any (λ w. parse.variables_from leaves types w.turns w.depth w.fuel xs h) (λ v y. LVariables (u ++ v) y)
  unfolding parse.variables_from
  variables_law R zero w fe fits u xs h l = no_turn fe (record { word = []; value = (xs, h); is = at_nil leaves types LVariables u (xs, h) l })
  variables_law R (suc m) w fe fits u xs h l =
      let end : LVariables (u ++ []) (xs, h) = at_nil leaves types LVariables u (xs, h) l in
      a_turn (λ i w. parse.variables_from leaves types w.turns w.depth i xs h) m fe
      (look kind kind_local (λ w next. if same_kind next k.Comma then (take_if true >>= (λ _. parse.variable leaves types w.turns w.depth >>= (λ x. parse.variables_from leaves types w.turns w.depth (pred w.fuel) (xs ++ x.0 ∷ []) (max h x.1)))) else pure (xs, h))
      (record { word = []; value = (xs, h); is = end })
      (λ next. choose (same_kind next k.Comma)
      (λ yes. turn_law (λ w t. parse.variable leaves types w.turns w.depth >>= (λ x. parse.variables_from leaves types w.turns w.depth w.fuel (xs ++ x.0 ∷ []) (max h x.1))) always (λ m n l e. e) (λ t. t.kind ≡ k.Comma) (λ t ts q. first_kind t ts next q.1 ∙ kind_is next k.Comma yes)
      (record { word = []; value = (xs, h); is = end })
      (λ t c. bind (variable_law (R × (true ≡ true)) (down w) (λ r. down_fits w.fuel w.turns (fits r.0))) (λ v x a.
      relang (λ v2 y i. subst (λ q. LVariables q y) (append_assoc u (t ∷ v) v2) i)
      (variables_law (R × (true ≡ true)) m (down w) (ap pred fe) (λ r. down_fits w.fuel w.turns (fits r.0)) (u ++ t ∷ v) (xs ++ x.0 ∷ []) (max h x.1) (g.more t l c a)))))
      (λ no. pure_law (xs, h) end)))

  declare_is : (at : Place) (t : Token) (u v r : List Token) (x : ReadBase) (ys : List Variable) (i : ℕ) → LBase leaves types true u x → start u ≡ at → IsVariables leaves types (v ++ r) ys i → t.kind ≡ k.Semicolon
      → IsBodyStmt leaves types (u ++ (v ++ (r ++ t ∷ []))) (sm.Declare at x.tree ys) (max x.height i + 1)
  declare_is at t u v r x ys i a p l c =
      subst (λ q. IsBodyStmt leaves types (u ++ q) (sm.Declare at x.tree ys) (max x.height i + 1)) (append_assoc v r (t ∷ []))
      (subst (λ q. IsBodyStmt leaves types (u ++ ((v ++ r) ++ t ∷ [])) (sm.Declare q x.tree ys) (max x.height i + 1)) p (declare_at leaves types t a l c))

  pub declared_law : (R : Type 0) (w : World) → (R → w.fuel ≤ w.turns) → (u : List Token) (x : ReadBase) (at : Place) → LBase leaves types true u x → start u ≡ at
      → Law R w Any (λ w. parse.declared leaves types w.turns w.depth at x) (λ v y. LInner leaves types (u ++ v) y)
  unfolding parse.declared
  declared_law R w fits u x at a p = bind (variable_law R w fits) (λ v y b.
      bind (all_turns fits (λ i w. parse.variables_from leaves types w.turns w.depth i (y.0 ∷ []) y.1) (variables_law (w.fuel ≤ w.turns) w.turns (record w { fuel = w.turns }) refl (λ r. omega arith) v (y.0 ∷ []) y.1 (g.one b))) (λ r ys l.
      expect_law (λ w t. pure (ended (sm.Declare at x.tree ys.0) (max x.height ys.1 + 1))) k.Semicolon (λ t c.
      pure_law (ended (sm.Declare at x.tree ys.0) (max x.height ys.1 + 1)) (declare_is at t u v r x ys.0 ys.1 a p l c))))

  pub declaration_law : (R : Type 0) (w : World) → (R → w.fuel ≤ w.turns) → Law R w Any (λ w. parse.declaration leaves types w.turns w.depth) (LInner leaves types)
  unfolding parse.declaration
  declaration_law R w fits = look start start_local (λ w at. base_within leaves types w.turns w.depth >>= (λ x. parse.declared leaves types w.turns w.depth at x)) (inner_has leaves types)
      (λ at. bind (located at (λ u x a. base_long leaves types a) (base_place leaves types true at) (base_within_law leaves types R w Any fits)) (λ u x a. declared_law R w fits u x at a.0 a.1))

  -- ---- expressions

  value_is : (at : Place) (t : Token) (u v : List Token) (x : Sized) → IsExpr leaves types (u ++ v) x.0 x.1 → start (u ++ v) ≡ at → t.kind ≡ k.Semicolon
      → IsStmt leaves types false (u ++ (v ++ t ∷ [])) (sm.Value at x.0) (x.1 + 1)
  value_is at t u v x a p c =
      subst (λ q. IsStmt leaves types false q (sm.Value at x.0) (x.1 + 1)) (append_assoc u v (t ∷ []))
      (subst (λ q. IsStmt leaves types false ((u ++ v) ++ t ∷ []) (sm.Value q x.0) (x.1 + 1)) p (g.value t a c))

  pub value_behind_law : (R : Type 0) (w : World) → (R → w.fuel ≤ w.turns) → (u : List Token) (x : Sized) (at : Place) → IsAsg leaves types u x.0 x.1 → start u ≡ at
      → Law R w Any (λ w. parse.value_behind leaves types w.turns w.depth at x) (λ v y. LStmt leaves types (u ++ v) y)
  unfolding parse.value_behind
  value_behind_law R w fits u x at a p =
      bind (lowered (expr_after_law leaves types (pred w.depth) (λ R' w2 d2 f2 x2 r2. within_law leaves types (pred w.depth) R' w2 d2 f2 x2 r2) R (lower w) refl fits u x at a p)) (λ v y b.
      expect_law (λ w t. pure (ended (sm.Value at y.0) (y.1 + 1))) k.Semicolon (λ t c.
      pure_law (ended (sm.Value at y.0) (y.1 + 1)) (value_is at t u v y b (start_of u v (asg_long leaves types a) ∙ p) c)))

  pub unary_behind_law : (R : Type 0) (w : World) → (R → w.fuel ≤ w.turns) → (u : List Token) (x : Sized) (at : Place) → IsUnary leaves types u x.0 x.1 → start u ≡ at
      → Law R w Any (λ w. after_unary leaves types w.turns (pred w.depth) at x) (λ v y. LAsg leaves types (u ++ v) y)
  unary_behind_law R w fits u x at a p = lowered (asg_after_law leaves types (pred w.depth) (λ R' w2 d2 f2 x2 r2. within_law leaves types (pred w.depth) R' w2 d2 f2 x2 r2) R (lower w) refl fits u x at a p)

  pub value_named_law : (R : Type 0) (w : World) → (R → w.fuel ≤ w.turns) → (t : Token) → IsOtherName leaves types t → Law R w Any (λ w. parse.value_named leaves types w.turns w.depth t) (λ v y. LStmt leaves types (t ∷ v) y)
  unfolding parse.value_named
  value_named_law R w fits t c =
      bind (lowered (posts_law leaves types (pred w.depth) (λ R' w2 d2 f2 x2 r2. within_law leaves types (pred w.depth) R' w2 d2 f2 x2 r2) R (lower w) refl fits (t ∷ []) (record { tree = e.Name t.place t.name; height = 1; called = 0 }) t.place (prim (name t c), called_name t c) refl)) (λ v x p.
      bind (unary_behind_law R w fits (t ∷ v) x t.place (post p) refl) (λ v2 y q.
      relang (λ r z j. subst (λ l. LStmt leaves types (t ∷ l) z) (append_assoc v v2 r) j) (value_behind_law R w fits ((t ∷ v) ++ v2) y t.place q refl)))

  -- ---- statements by their first token

  value_law : (R : Type 0) (w : World) → (R → w.fuel ≤ w.turns) → Law R w Any (λ w. parse.value leaves types w.turns w.depth) (LStmt leaves types)
  unfolding parse.value
  value_law R w fits = look start start_local (λ w at. expression_within leaves types w.turns w.depth >>= (λ x. expect k.Semicolon >>= (λ _. pure (ended (sm.Value at x.0) (x.1 + 1))))) (stmt_has leaves types)
      (λ at. bind (located at (λ u x a. expr_long a) (expr_place at) (exprs R w fits)) (λ u x a.
      expect_law (λ w t. pure (ended (sm.Value at x.0) (x.1 + 1))) k.Semicolon (λ t c.
      pure_law (ended (sm.Value at x.0) (x.1 + 1)) (subst (λ q. IsStmt leaves types false (u ++ t ∷ []) (sm.Value q x.0) (x.1 + 1)) a.1 (g.value t a.0 c)))))
    where
      asgs_long : {u : List Token} {xs : List Expr} {h : ℕ} → IsAsgs leaves types u xs h → 0 < length u
      asgs_long (one d) = asg_long leaves types d
      asgs_long (Rattle.al_tree.specs.Expressions.more t {u = u} {v = v} l c d) = omega (arith, length-append u (t ∷ v))

      expr_long : {u : List Token} {x : Expr} {h : ℕ} → IsExpr leaves types u x h → 0 < length u
      expr_long (only d) = asg_long leaves types d
      expr_long (Rattle.al_tree.specs.Expressions.sequence t {u = u} {v = v} l c d) = omega (arith, length-append u (t ∷ v))

      expr_place : (at : Place) → Has (λ u a. LExpr leaves types u a × (start u ≡ at))
      expr_place at = record { word = one_at leaves types at ∷ []; value = (one_tree leaves types at, 1); is = (only (one_asg leaves types at), refl) }

  -- a word, assignments and the semicolon
  data IsListed (K : TokenKind) : List Token → List Expr → ℕ → Token → Type 0 where
    listed : (w t : Token) {u : List Token} {xs : List Expr} {h : ℕ} → w.kind ≡ K → IsAsgs leaves types u xs h → t.kind ≡ k.Semicolon → IsListed K (w ∷ (u ++ t ∷ [])) xs h w

  list_law : (R : Type 0) (w : World) (K : TokenKind) → (R → w.fuel ≤ w.turns) → Law R w (λ ts. Any ts × (kind ts ≡ K)) (λ w. parse.listed leaves types w.turns w.depth) (λ u (x : Listed × Token). IsListed K u x.0.0 x.0.1 x.1)
  unfolding parse.listed
  list_law R w K fits = take_law (λ w t. list_within leaves types w.turns w.depth >>= (λ xs. expect k.Semicolon >>= (λ _. pure (xs, t)))) (nat_lt 0) (lt_grows 0) (λ t. t.kind ≡ K) (λ t ts q. first_kind t ts K q.1)
      (record { word = token K ∷ one_at leaves types nowhere ∷ token k.Semicolon ∷ []; value = ((one_tree leaves types nowhere ∷ [], 1), token K); is = listed (token K) (token k.Semicolon) refl (one (one_asg leaves types nowhere)) refl })
      (λ t c. bind (lists (R × (nat_lt 0 w.depth ≡ true)) w (λ r. fits r.0)) (λ u xs l. expect_law (λ w p. pure (xs, t)) k.Semicolon (λ p pc. pure_law (xs, t) (listed t p c l pc))))

  -- a word, a number or none, and the semicolon
  data IsCounted (K : TokenKind) : List Token → Token × Option ℕ → Type 0 where
    counted : (w t : Token) {n : List Token} {count : Option ℕ} → w.kind ≡ K → IsOptionalNumber leaves types n count → t.kind ≡ k.Semicolon → IsCounted K (w ∷ (n ++ t ∷ [])) (w, count)

  count_law : (R : Type 0) (w : World) (K : TokenKind) → Law R w (λ ts. Any ts × (kind ts ≡ K)) (λ w. parse.counted leaves types w.turns w.depth) (IsCounted K)
  unfolding parse.counted
  count_law R w K = take_law (λ w t. parse.optional_number leaves types w.turns w.depth >>= (λ n. expect k.Semicolon >>= (λ _. pure (t, n)))) always (λ m n l e. e) (λ t. t.kind ≡ K) (λ t ts q. first_kind t ts K q.1)
      (record { word = token K ∷ token k.Semicolon ∷ []; value = (token K, None); is = counted (token K) (token k.Semicolon) refl g.none refl })
      (λ t c. bind (optional_number_law (R × (true ≡ true)) w) (λ u n l. expect_law (λ w p. pure (t, n)) k.Semicolon (λ p pc. pure_law (t, n) (counted t p c l pc))))

  alloc_is : {u : List Token} {xs : List Expr} {h : ℕ} {w : Token} → IsListed k.Alloc u xs h w → IsStmt leaves types false u (sm.Alloc w.place xs) (h + 1)
  alloc_is (listed w t wc l tc) = g.alloc w t wc l tc

  unalloc_is : {u : List Token} {xs : List Expr} {h : ℕ} {w : Token} → IsListed k.Unalloc u xs h w → IsStmt leaves types false u (sm.Unalloc w.place xs) (h + 1)
  unalloc_is (listed w t wc l tc) = g.unalloc w t wc l tc

  proc_is : {u : List Token} {xs : List Expr} {h : ℕ} {w : Token} → IsListed k.Proc u xs h w → IsStmt leaves types false u (sm.Proc w.place xs) (h + 1)
  proc_is (listed w t wc l tc) = g.proc w t wc l tc

  task_is : {u : List Token} {xs : List Expr} {h : ℕ} {w : Token} → IsListed k.Task u xs h w → IsStmt leaves types false u (sm.Task w.place xs) (h + 1)
  task_is (listed w t wc l tc) = g.task w t wc l tc

  break_is : (u : List Token) (x : Token × Option ℕ) → IsCounted k.Break u x → LStmt leaves types u (ended (sm.Break x.0.place x.1) 1)
  break_is u x (counted w t wc l tc) = g.break w t wc l tc

  continue_is : (u : List Token) (x : Token × Option ℕ) → IsCounted k.Continue u x → LStmt leaves types u (ended (sm.Continue x.0.place x.1) 1)
  continue_is u x (counted w t wc l tc) = g.continue w t wc l tc

  optional_return : (w : Token) → w.kind ≡ k.Return → (u : List Token) (x : Option Expr × ℕ) → LOptional k.Semicolon u x → LStmt leaves types (w ∷ u) (ended (sm.Return w.place x.0) (x.1 + 1))
  optional_return w wc u x (optional t a tc) = g.return w t wc a tc

  empty_law : (R : Type 0) (w : World) → Law R w (λ ts. Any ts × (kind ts ≡ k.Semicolon)) (λ w. parse.empty leaves types w.turns w.depth) (LStmt leaves types)
  unfolding parse.empty
  empty_law R w = take_law (λ w t. pure (ended (sm.Empty t.place) 1)) always (λ m n l e. e) (λ t. t.kind ≡ k.Semicolon) (λ t ts q. first_kind t ts k.Semicolon q.1) (stmt_has leaves types) (λ t c. pure_law (ended (sm.Empty t.place) 1) (g.empty t c))

  raise_law : (R : Type 0) (w : World) → Law R w (λ ts. Any ts × (kind ts ≡ k.Raise)) (λ w. parse.raise leaves types w.turns w.depth) (LStmt leaves types)
  unfolding parse.raise
  raise_law R w = take_law (λ w t. parse.optional_name leaves types w.turns w.depth >>= (λ n. expect k.Semicolon >>= (λ _. pure (ended (sm.Raise t.place n) 1)))) always (λ m n l e. e) (λ t. t.kind ≡ k.Raise) (λ t ts q. first_kind t ts k.Raise q.1) (stmt_has leaves types)
      (λ t c. bind (optional_name_law (R × (true ≡ true)) w) (λ u n l. expect_law (λ w p. pure (ended (sm.Raise t.place n) 1)) k.Semicolon (λ p pc. pure_law (ended (sm.Raise t.place n) 1) (g.raise t p c l pc))))

  returned_law : (R : Type 0) (w : World) → (R → w.fuel ≤ w.turns) → Law R w (λ ts. Any ts × (kind ts ≡ k.Return)) (λ w. parse.returned leaves types w.turns w.depth) (LStmt leaves types)
  unfolding parse.returned
  returned_law R w fits = take_law (λ w t. parse.optional leaves types w.turns w.depth k.Semicolon >>= (λ x. pure (ended (sm.Return t.place x.0) (x.1 + 1)))) always (λ m n l e. e) (λ t. t.kind ≡ k.Return) (λ t ts q. first_kind t ts k.Return q.1) (stmt_has leaves types)
      (λ t c. map_law (λ x. ended (sm.Return t.place x.0) (x.1 + 1)) (optional_law (R × (true ≡ true)) w (λ r. fits r.0) k.Semicolon) (λ u x a. optional_return t c u x a))

  becoming_law : (R : Type 0) (w : World) → (R → w.fuel ≤ w.turns) → Law R w (λ ts. Any ts × (kind ts ≡ k.Become)) (λ w. parse.becoming leaves types w.turns w.depth) (LStmt leaves types)
  unfolding parse.becoming
  becoming_law R w fits = take_law (λ w t. expression_within leaves types w.turns w.depth >>= (λ x. expect k.Semicolon >>= (λ _. pure (ended (sm.Become t.place x.0) (x.1 + 1))))) (nat_lt 0) (lt_grows 0) (λ t. t.kind ≡ k.Become) (λ t ts q. first_kind t ts k.Become q.1) (stmt_has leaves types)
      (λ t c. bind (exprs (R × (nat_lt 0 w.depth ≡ true)) w (λ r. fits r.0)) (λ u x a. expect_law (λ w p. pure (ended (sm.Become t.place x.0) (x.1 + 1))) k.Semicolon (λ p pc. pure_law (ended (sm.Become t.place x.0) (x.1 + 1)) (g.become t p c a pc))))

  goto_law : (R : Type 0) (w : World) → Law R w (λ ts. Any ts × (kind ts ≡ k.Goto)) (λ w. parse.goto leaves types w.turns w.depth) (LStmt leaves types)
  unfolding parse.goto
  goto_law R w = take_law (λ w t. other_name types >>= (λ n. expect k.Semicolon >>= (λ _. pure (ended (sm.Goto t.place (name_at n)) 1)))) always (λ m n l e. e) (λ t. t.kind ≡ k.Goto) (λ t ts q. first_kind t ts k.Goto q.1) (stmt_has leaves types)
      (λ t c. let m = fresh_token types nowhere in
      other_law leaves types (λ w n. expect k.Semicolon >>= (λ _. pure (ended (sm.Goto t.place (name_at n)) 1))) (record { word = m ∷ token k.Semicolon ∷ []; value = ended (sm.Goto t.place (name_at m)) 1; is = g.goto t m (token k.Semicolon) c (fresh_is leaves types nowhere) refl })
      (λ n nc. expect_law (λ w p. pure (ended (sm.Goto t.place (name_at n)) 1)) k.Semicolon (λ p pc. pure_law (ended (sm.Goto t.place (name_at n)) 1) (g.goto t n p c nc pc))))

  -- ("," STRING)? ";"
  data IsCheckText : List Token → Option (List ℕ) → Type 0 where
    no_text : (t : Token) → t.kind ≡ k.Semicolon → IsCheckText (t ∷ []) None
    some_text : (m n t : Token) → m.kind ≡ k.Comma → n.kind ≡ k.Text → t.kind ≡ k.Semicolon → IsCheckText (m ∷ n ∷ t ∷ []) (Some (leaves.bytes n))

  check_text_law : (R : Type 0) (w : World) → Law R w Any (λ w. parse.check_text leaves types w.turns w.depth) IsCheckText
  unfolding parse.check_text
  check_text_law R w =
      let end : Has IsCheckText = record { word = token k.Semicolon ∷ []; value = None; is = no_text (token k.Semicolon) refl } in
      look kind kind_local (λ w next. if same_kind next k.Comma then (take_if true >>= (λ _. expect k.Text >>= (λ n. expect k.Semicolon >>= (λ _. pure (Some (leaves.bytes n)))))) else (expect k.Semicolon >>= (λ _. pure None))) end
      (λ next. choose (same_kind next k.Comma)
      (λ yes. take_law (λ w m. expect k.Text >>= (λ n. expect k.Semicolon >>= (λ _. pure (Some (leaves.bytes n))))) always (λ m n l e. e) (λ m. m.kind ≡ k.Comma) (λ m ts q. first_kind m ts next q.1 ∙ kind_is next k.Comma yes) end
      (λ m mc. expect_law (λ w n. expect k.Semicolon >>= (λ _. pure (Some (leaves.bytes n)))) k.Text (λ n nc.
      expect_law (λ w p. pure (Some (leaves.bytes n))) k.Semicolon (λ p pc. pure_law (Some (leaves.bytes n)) (some_text m n p mc nc pc)))))
      (λ no. expect_law (λ w p. pure None) k.Semicolon (λ p pc. pure_law None (no_text p pc))))

  check_is : (w : Token) → w.kind ≡ k.Check → (u : List Token) (x : Sized) → IsAsg leaves types u x.0 x.1 → (v : List Token) (n : Option (List ℕ)) → IsCheckText v n → LStmt leaves types (w ∷ (u ++ v)) (ended (sm.Check w.place x.0 n) (x.1 + 1))
  check_is w wc u x a v n (no_text t tc) = g.check w t wc a tc
  check_is w wc u x a v n (some_text m b t mc bc tc) = g.check_text w m b t wc a mc bc tc

  check_law : (R : Type 0) (w : World) → (R → w.fuel ≤ w.turns) → Law R w (λ ts. Any ts × (kind ts ≡ k.Check)) (λ w. parse.check leaves types w.turns w.depth) (LStmt leaves types)
  unfolding parse.check
  check_law R w fits = take_law (λ w t. assignment_within leaves types w.turns w.depth >>= (λ x. parse.check_text leaves types w.turns w.depth >>= (λ n. pure (ended (sm.Check t.place x.0 n) (x.1 + 1))))) (nat_lt 0) (lt_grows 0) (λ t. t.kind ≡ k.Check) (λ t ts q. first_kind t ts k.Check q.1) (stmt_has leaves types)
      (λ t c. bind (asgs (R × (nat_lt 0 w.depth ≡ true)) w (λ r. fits r.0)) (λ u x a. map_law (λ n. ended (sm.Check t.place x.0 n) (x.1 + 1)) (check_text_law (R × (nat_lt 0 w.depth ≡ true)) w) (λ v n l. check_is t c u x a v n l)))

  pub simple_law : (R : Type 0) (w : World) → (R → w.fuel ≤ w.turns) → (kd : TokenKind) → Law R w (λ ts. Any ts × (kind ts ≡ kd)) (λ w. parse.simple_by leaves types w.turns w.depth kd) (LStmt leaves types)
  simple_law R w fits k.Semicolon = empty_law R w
  simple_law R w fits k.Raise = raise_law R w
  simple_law R w fits k.Return = returned_law R w fits
  simple_law R w fits k.Become = becoming_law R w fits
  simple_law R w fits k.Break = map_law (λ y. ended (sm.Break y.0.place y.1) 1) (count_law R w k.Break) break_is
  simple_law R w fits k.Continue = map_law (λ y. ended (sm.Continue y.0.place y.1) 1) (count_law R w k.Continue) continue_is
  simple_law R w fits k.Goto = goto_law R w
  simple_law R w fits k.Alloc = map_law (λ y. ended (sm.Alloc y.1.place y.0.0) (y.0.1 + 1)) (list_law R w k.Alloc fits) (λ u y q. alloc_is q)
  simple_law R w fits k.Unalloc = map_law (λ y. ended (sm.Unalloc y.1.place y.0.0) (y.0.1 + 1)) (list_law R w k.Unalloc fits) (λ u y q. unalloc_is q)
  simple_law R w fits k.Check = check_law R w fits
  simple_law R w fits k.Proc = map_law (λ y. ended (sm.Proc y.1.place y.0.0) (y.0.1 + 1)) (list_law R w k.Proc fits) (λ u y q. proc_is q)
  simple_law R w fits k.Task = map_law (λ y. ended (sm.Task y.1.place y.0.0) (y.0.1 + 1)) (list_law R w k.Task fits) (λ u y q. task_is q)
  simple_law R w fits _ = anywhere (value_law R w fits)
