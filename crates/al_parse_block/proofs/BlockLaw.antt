-- Statements and blocks keep the law.
use Rattle.std.proofs.Common.{◌≡◌, ℕ, zero, suc, pred, ◌+◌, ◌<◌, ◌≤◌, max, nat_lt, Bool, true, false, if◌then◌else◌, ◌||◌, ◌&&◌, not, List, [], ◌∷◌, ◌++◌, length, Option, Some, None, refl, sym, ap, ◌∙◌, subst, arith, append_assoc, append-nil, length-append}
use Rattle.al_base.specs.declared.place.Place.{Place}
use Rattle.al_lex.specs.declared.kind.TokenKind.{TokenKind}
use Rattle.al_lex.specs.declared.kind.TokenKind.TheVariants as k
use Rattle.al_lex.specs.declared.token.Token.{Token}
use Rattle.al_tree.specs.Words.{start}
use Rattle.al_tree.specs.Types.{Leaves, IsOtherName}
use Rattle.al_tree.specs.Expressions.{IsAsg}
use Rattle.al_tree.specs.Statements as g
use Rattle.al_tree.specs.Statements.{IsStmt, IsBlock, IsBodyStmt, IsBody, IsCases, IsBranches, IsOptionalExpr, IsOptionalName}
use Rattle.al_tree.specs.Reading.{Parser, ◌>>=◌, ◌>>◌, pure, refuse, kind, same_kind, looks, peek, take_if, expect}
use Rattle.al_tree.specs.declared.expression.Expr.{Expr}
use Rattle.al_tree.specs.declared.statement.Stmt.{Stmt}
use Rattle.al_tree.specs.declared.statement.Stmt.TheVariants as sm
use Rattle.al_tree.proofs.Law.{World, Family, Lang, Any, Has, Law, token, down, bind, bind_turn, map_law, pure_law, refuse_law, choose, weaken, anywhere, look, kind_local, take_law, expect_law, a_turn, all_turns, no_turn, relang, view_law, some_pred}
use Rattle.al_parse_type.specs.Parse.{sees_type, sees_other_name}
use Rattle.al_parse_type.specs.Within.{tuple_within}
use Rattle.al_parse_type.proofs.BoundLaw.{always, kind_is, first_kind, lt_grows, lt_of, down_fits, and_parts, at_nil, other_local, other_is, lower, lower_above}
use Rattle.al_parse_type.proofs.TypeLaw.{room_law, type_local, LType}
use Rattle.al_parse_type.proofs.BaseWhole.{tuple_within_law}
use Rattle.al_parse_expr.specs.Parse.{Sized}
use Rattle.al_parse_expr.specs.Within.{assignment_within}
use Rattle.al_parse_expr.proofs.Begins.{one_at, one_tree, one_asg}
use Rattle.al_parse_block.specs.Begun.{SizedBegun, cast_begun, paren_begun, begun}
use Rattle.al_parse_block.specs.declared.part.Begun.{Begun}
use Rattle.al_parse_block.specs.declared.part.Begun.TheVariants as bg
use Rattle.al_parse_block.specs.Parse as parse
use Rattle.al_parse_block.specs.Parse.{Statements, ended, choice_of, begins_statement, begins_inner, begins_case, within}
use Rattle.al_parse_block.specs.declared.part.ReadStmt.{ReadStmt}
use Rattle.al_parse_block.specs.declared.part.Want.{Want}
use Rattle.al_parse_block.specs.declared.part.Want.TheVariants as want
use Rattle.al_parse_block.proofs.Starts.{LStmt, LInner, LBlock, LWant, LBody, LBranches, LCases, statement_local, inner_local, no_statement, no_inner, stmt_has, inner_has, block_has, want_has, statement_begins, inner_begins, stmt_long, inner_long}
use Rattle.al_parse_block.proofs.SimpleLaw.{IsCondition, condition, LCondition, condition_law, IsOptional, optional, LOptional, optional_law, optional_name_law, asgs, declared_law, declaration_law, value_behind_law, value_named_law, simple_law}
use Rattle.al_parse_block.proofs.BegunLaw.{BegunIs, cast_begun_law, paren_begun_law, begun_law}

closed : (a b : Bool) → (a && not b) ≡ true → (a ≡ true) × (b ≡ false)
closed true false h = (refl, refl)
closed true true h = absurd (let f : ⊥ = cc in f)
closed false b h = absurd (let f : ⊥ = cc in f)

same_test : (b : Bool) → b ≡ true → b ≡ false → ⊥
same_test b t f = let e : true ≡ false = sym t ∙ f in let x : ⊥ = cc in x

-- the same where more is known of what comes next
guarded : {A R : Type 0} {w : World} {G G' : List Token → Type 0} {p : Family A} {Q : Lang A} → ((ts : List Token) → G' ts → G ts) → Law R w G p Q → Law R w G' p Q
guarded f l = record { run = λ rt ts g s. l.run rt ts (f ts g) s; has = l.has }

module _ (leaves : Leaves) (types : List ℕ) where
  -- ---- statements by their parts

  if_is : (w : Token) → w.kind ≡ k.If → {a : List Token} (x : Expr) (h : ℕ) → IsCondition leaves types a x h → (v : List Token) (y : ReadStmt) → LStmt leaves types v y → LStmt leaves types (w ∷ (a ++ v)) (choice_of w.place (x, h) y None)
  if_is w wc x h (condition o c {u = u} oc b ec) v y d = subst (λ l. IsStmt leaves types true (w ∷ o ∷ l) (sm.If w.place x y.tree None) (max h y.height + 1)) (sym (append_assoc u (c ∷ []) v)) (g.if_alone w o c wc oc b ec d)

  if_else_is : (w t : Token) → w.kind ≡ k.If → t.kind ≡ k.Else → {a : List Token} (x : Expr) (h : ℕ) → IsCondition leaves types a x h → (v r : List Token) (y z : ReadStmt) → y.dangles ≡ false → LStmt leaves types v y → LStmt leaves types r z
      → LStmt leaves types (w ∷ (a ++ (v ++ t ∷ r))) (choice_of w.place (x, h) y (Some z))
  if_else_is w t wc tc x h (condition o c {u = u} oc b ec) v r y z f d q =
      subst (λ l. IsStmt leaves types z.dangles (w ∷ o ∷ l) (sm.If w.place x y.tree (Some z.tree)) (max h (max y.height z.height) + 1)) (sym (append_assoc u (c ∷ []) (v ++ t ∷ r)))
      (g.if_else w o c t wc oc b ec (subst (λ i. IsStmt leaves types i v y.tree y.height) f d) tc q)

  while_is : (w : Token) → w.kind ≡ k.While → {a : List Token} (x : Expr) (h : ℕ) → IsCondition leaves types a x h → (v : List Token) (y : ReadStmt) → LStmt leaves types v y
      → LStmt leaves types (w ∷ (a ++ v)) (record { tree = sm.While w.place x y.tree; height = max h y.height + 1; dangles = y.dangles })
  while_is w wc x h (condition o c {u = u} oc b ec) v y d = subst (λ l. IsStmt leaves types y.dangles (w ∷ o ∷ l) (sm.While w.place x y.tree) (max h y.height + 1)) (sym (append_assoc u (c ∷ []) v)) (g.while_loop w o c wc oc b ec d)

  do_is : (w t q : Token) → w.kind ≡ k.Do → t.kind ≡ k.While → q.kind ≡ k.Semicolon → {a : List Token} (x : Expr) (h : ℕ) → IsCondition leaves types a x h → (v : List Token) (y : ReadStmt) → LStmt leaves types v y
      → LStmt leaves types (w ∷ (v ++ t ∷ (a ++ q ∷ []))) (ended (sm.Do w.place y.tree x) (max y.height h + 1))
  do_is w t q wc tc qc x h (condition o c {u = u} oc b ec) v y d = subst (λ l. IsStmt leaves types false (w ∷ (v ++ t ∷ o ∷ l)) (sm.Do w.place y.tree x) (max y.height h + 1)) (sym (append_assoc u (c ∷ []) (q ∷ []))) (g.do_loop w t o c q wc d tc oc b ec qc)

  switch_is : (w p q : Token) → w.kind ≡ k.Switch → p.kind ≡ k.LeftBrace → q.kind ≡ k.RightBrace → {a : List Token} (x : Expr) (h : ℕ) → IsCondition leaves types a x h → (v : List Token) (ys : Statements) → LCases leaves types true v ys
      → LStmt leaves types (w ∷ (a ++ p ∷ (v ++ q ∷ []))) (ended (sm.Switch w.place x ys.0) (max h ys.1 + 1))
  switch_is w p q wc pc qc x h (condition o c {u = u} oc b ec) v ys d = subst (λ l. IsStmt leaves types false (w ∷ o ∷ l) (sm.Switch w.place x ys.0) (max h ys.1 + 1)) (sym (append_assoc u (c ∷ []) (p ∷ (v ++ q ∷ [])))) (g.switch w o c p q wc oc b ec pc d qc)

  for_is : (w o : Token) → w.kind ≡ k.For → o.kind ≡ k.LeftParen → {a b c : List Token} (x y z : Option Expr × ℕ) → LOptional leaves types k.Semicolon a x → LOptional leaves types k.Semicolon b y → LOptional leaves types k.RightParen c z → (v : List Token) (body : ReadStmt) → LStmt leaves types v body
      → LStmt leaves types (w ∷ o ∷ (a ++ (b ++ (c ++ v)))) (record { tree = sm.For w.place x.0 y.0 z.0 body.tree; height = max (max x.1 y.1) (max z.1 body.height) + 1; dangles = body.dangles })
  for_is w o wc oc x y z (optional p {u = u} e1 pc) (optional q {u = u2} e2 qc) (optional c {u = u3} e3 cc1) v body d =
      subst (λ l. IsStmt leaves types body.dangles (w ∷ o ∷ l) (sm.For w.place x.0 y.0 z.0 body.tree) (max (max x.1 y.1) (max z.1 body.height) + 1))
      (sym (append_assoc u (p ∷ []) ((u2 ++ q ∷ []) ++ ((u3 ++ c ∷ []) ++ v)) ∙ ap (λ l. u ++ p ∷ l) (append_assoc u2 (q ∷ []) ((u3 ++ c ∷ []) ++ v) ∙ ap (λ l. u2 ++ q ∷ l) (append_assoc u3 (c ∷ []) v))))
      (g.for_loop w o p q c wc oc e1 pc e2 qc e3 cc1 d)

-- What is known of the parser of what stands inside statements, at the worlds of one depth.
module _ (leaves : Leaves) (types : List ℕ) (n : ℕ)
    (subs : (R : Type 0) (w : World) → w.depth ≡ n → (R → w.fuel ≤ w.turns) → (R → 0 < w.depth) → (x : Want) → Law R w Any (λ w. within leaves types w.turns w.depth x) (LWant leaves types x)) where
  abbrev S : World → Want → Parser ReadStmt
  S w = within leaves types w.turns w.depth

  abbrev Deep0 : Type 0 → World → Type 0
  Deep0 R w = R × (nat_lt 0 w.depth ≡ true)

  -- ---- statements with statements in them

  otherwise_law : (R : Type 0) (w : World) → w.depth ≡ n → (R → w.fuel ≤ w.turns) → (R → 0 < w.depth) → (f : Token) → f.kind ≡ k.If → (a : List Token) (x : Sized) → LCondition leaves types a x → (v : List Token) (y : ReadStmt) → LStmt leaves types v y
      → Law R w Any (λ w. parse.otherwise leaves types w.turns w.depth (S w) f.place x y) (λ r z. LStmt leaves types (f ∷ (a ++ (v ++ r))) z)
  unfolding parse.otherwise
  otherwise_law R w d fits deep f fc a x c v y b =
      let end : LStmt leaves types (f ∷ (a ++ (v ++ []))) (choice_of f.place x y None) = subst (λ l. LStmt leaves types (f ∷ (a ++ l)) (choice_of f.place x y None)) (sym (append-nil v)) (if_is leaves types f fc x.0 x.1 c v y b) in
      let stop : Has (λ r z. LStmt leaves types (f ∷ (a ++ (v ++ r))) z) = record { word = []; value = choice_of f.place x y None; is = end } in
      look kind kind_local (λ w next. if same_kind next k.Else && not y.dangles then (take_if true >>= (λ _. S w want.Statement >>= (λ z. pure (choice_of f.place x y (Some z))))) else pure (choice_of f.place x y None)) stop
      (λ next. choose (same_kind next k.Else && not y.dangles)
      (λ yes. let p = closed (same_kind next k.Else) y.dangles yes in
      take_law (λ w t. S w want.Statement >>= (λ z. pure (choice_of f.place x y (Some z)))) always (λ m n l e. e) (λ t. t.kind ≡ k.Else) (λ t ts q. first_kind t ts next q.1 ∙ kind_is next k.Else p.0) stop
      (λ t tc. map_law (λ z. choice_of f.place x y (Some z)) (subs (R × (true ≡ true)) w d (λ r. fits r.0) (λ r. deep r.0) want.Statement) (λ r z q. if_else_is leaves types f t fc tc x.0 x.1 c v r y z p.1 b q)))
      (λ no. pure_law (choice_of f.place x y None) end))

  choice_law : (R : Type 0) (w : World) → w.depth ≡ n → (R → w.fuel ≤ w.turns) → Law R w (λ ts. Any ts × (kind ts ≡ k.If)) (λ w. parse.choice leaves types w.turns w.depth (S w)) (LStmt leaves types)
  unfolding parse.choice
  choice_law R w d fits = take_law (λ w t. parse.condition leaves types w.turns w.depth >>= (λ x. S w want.Statement >>= (λ y. parse.otherwise leaves types w.turns w.depth (S w) t.place x y))) (nat_lt 0) (lt_grows 0) (λ t. t.kind ≡ k.If) (λ t ts q. first_kind t ts k.If q.1) (stmt_has leaves types)
      (λ t tc. bind (condition_law leaves types (Deep0 R w) w (λ r. fits r.0)) (λ a x c.
      bind (subs (Deep0 R w) w d (λ r. fits r.0) (λ r. lt_of 0 w.depth r.1) want.Statement) (λ v y b.
      otherwise_law (Deep0 R w) w d (λ r. fits r.0) (λ r. lt_of 0 w.depth r.1) t tc a x c v y b)))

  while_law : (R : Type 0) (w : World) → w.depth ≡ n → (R → w.fuel ≤ w.turns) → Law R w (λ ts. Any ts × (kind ts ≡ k.While)) (λ w. parse.while_loop leaves types w.turns w.depth (S w)) (LStmt leaves types)
  unfolding parse.while_loop
  while_law R w d fits = take_law (λ w t. parse.condition leaves types w.turns w.depth >>= (λ x. S w want.Statement >>= (λ y. pure (record { tree = sm.While t.place x.0 y.tree; height = max x.1 y.height + 1; dangles = y.dangles })))) (nat_lt 0) (lt_grows 0) (λ t. t.kind ≡ k.While) (λ t ts q. first_kind t ts k.While q.1) (stmt_has leaves types)
      (λ t tc. bind (condition_law leaves types (Deep0 R w) w (λ r. fits r.0)) (λ a x c.
      map_law (λ y. record { tree = sm.While t.place x.0 y.tree; height = max x.1 y.height + 1; dangles = y.dangles }) (subs (Deep0 R w) w d (λ r. fits r.0) (λ r. lt_of 0 w.depth r.1) want.Statement) (λ v y b. while_is leaves types t tc x.0 x.1 c v y b)))

  do_law : (R : Type 0) (w : World) → w.depth ≡ n → (R → w.fuel ≤ w.turns) → Law R w (λ ts. Any ts × (kind ts ≡ k.Do)) (λ w. parse.do_loop leaves types w.turns w.depth (S w)) (LStmt leaves types)
  unfolding parse.do_loop
  do_law R w d fits = take_law (λ w t. S w want.Statement >>= (λ y. expect k.While >>= (λ _. parse.condition leaves types w.turns w.depth >>= (λ x. expect k.Semicolon >>= (λ _. pure (ended (sm.Do t.place y.tree x.0) (max y.height x.1 + 1))))))) (nat_lt 0) (lt_grows 0) (λ t. t.kind ≡ k.Do) (λ t ts q. first_kind t ts k.Do q.1) (stmt_has leaves types)
      (λ t tc. bind (subs (Deep0 R w) w d (λ r. fits r.0) (λ r. lt_of 0 w.depth r.1) want.Statement) (λ v y b.
      expect_law (λ w o. parse.condition leaves types w.turns w.depth >>= (λ x. expect k.Semicolon >>= (λ _. pure (ended (sm.Do t.place y.tree x.0) (max y.height x.1 + 1))))) k.While (λ o oc.
      bind (condition_law leaves types (Deep0 R w) w (λ r. fits r.0)) (λ a x c.
      expect_law (λ w q. pure (ended (sm.Do t.place y.tree x.0) (max y.height x.1 + 1))) k.Semicolon (λ q qc. pure_law (ended (sm.Do t.place y.tree x.0) (max y.height x.1 + 1)) (do_is leaves types t o q tc oc qc x.0 x.1 c v y b))))))

  for_law : (R : Type 0) (w : World) → w.depth ≡ n → (R → w.fuel ≤ w.turns) → Law R w (λ ts. Any ts × (kind ts ≡ k.For)) (λ w. parse.for_loop leaves types w.turns w.depth (S w)) (LStmt leaves types)
  unfolding parse.for_loop parse.for_body
  for_law R w d fits = take_law (λ w t. expect k.LeftParen >>= (λ _. parse.optional leaves types w.turns w.depth k.Semicolon >>= (λ x. parse.optional leaves types w.turns w.depth k.Semicolon >>= (λ y. parse.optional leaves types w.turns w.depth k.RightParen >>= (λ z. S w want.Statement >>= (λ b. pure (record { tree = sm.For t.place x.0 y.0 z.0 b.tree; height = max (max x.1 y.1) (max z.1 b.height) + 1; dangles = b.dangles }))))))) (nat_lt 0) (lt_grows 0) (λ t. t.kind ≡ k.For) (λ t ts q. first_kind t ts k.For q.1) (stmt_has leaves types)
      (λ t tc. expect_law (λ w o. parse.optional leaves types w.turns w.depth k.Semicolon >>= (λ x. parse.optional leaves types w.turns w.depth k.Semicolon >>= (λ y. parse.optional leaves types w.turns w.depth k.RightParen >>= (λ z. S w want.Statement >>= (λ b. pure (record { tree = sm.For t.place x.0 y.0 z.0 b.tree; height = max (max x.1 y.1) (max z.1 b.height) + 1; dangles = b.dangles })))))) k.LeftParen (λ o oc.
      bind (optional_law leaves types (Deep0 R w) w (λ r. fits r.0) k.Semicolon) (λ a x e1.
      bind (optional_law leaves types (Deep0 R w) w (λ r. fits r.0) k.Semicolon) (λ b y e2.
      bind (optional_law leaves types (Deep0 R w) w (λ r. fits r.0) k.RightParen) (λ c z e3.
      map_law (λ b. record { tree = sm.For t.place x.0 y.0 z.0 b.tree; height = max (max x.1 y.1) (max z.1 b.height) + 1; dangles = b.dangles }) (subs (Deep0 R w) w d (λ r. fits r.0) (λ r. lt_of 0 w.depth r.1) want.Statement)
      (λ v body q. for_is leaves types t o tc oc x y z e1 e2 e3 v body q))))))

  -- a name, and what stands behind it
  named_law : (R : Type 0) (w : World) (G : List Token → Type 0) → w.depth ≡ n → (R → w.fuel ≤ w.turns) → ((t : Token) (ts : List Token) → G (t ∷ ts) → IsOtherName leaves types t) → Law R w G (λ w. parse.named leaves types w.turns w.depth (S w)) (LStmt leaves types)
  unfolding parse.named parse.labelled
  named_law R w G d fits first = take_law (λ w t. peek >>= (λ next. if same_kind next k.Colon then (take_if true >>= (λ _. S w want.Statement >>= (λ x. pure (record { tree = sm.Label t.place t.name x.tree; height = x.height + 1; dangles = x.dangles })))) else parse.value_named leaves types w.turns w.depth t)) (nat_lt 0) (lt_grows 0) (IsOtherName leaves types) first (stmt_has leaves types)
      (λ t tc.
      let plain = value_named_law leaves types (Deep0 R w) w (λ r. fits r.0) t tc in
      look kind kind_local (λ w next. if same_kind next k.Colon then (take_if true >>= (λ _. S w want.Statement >>= (λ x. pure (record { tree = sm.Label t.place t.name x.tree; height = x.height + 1; dangles = x.dangles })))) else parse.value_named leaves types w.turns w.depth t) plain.has
      (λ next. choose (same_kind next k.Colon)
      (λ yes. take_law (λ w c. S w want.Statement >>= (λ x. pure (record { tree = sm.Label t.place t.name x.tree; height = x.height + 1; dangles = x.dangles }))) always (λ m n l e. e) (λ c. c.kind ≡ k.Colon) (λ c ts q. first_kind c ts next q.1 ∙ kind_is next k.Colon yes) plain.has
      (λ c cc1. map_law (λ x. record { tree = sm.Label t.place t.name x.tree; height = x.height + 1; dangles = x.dangles }) (subs (Deep0 R w × (true ≡ true)) w d (λ r. fits r.0.0) (λ r. lt_of 0 w.depth r.0.1) want.Statement) (λ v x b. g.label t c tc cc1 b)))
      (λ no. anywhere plain)))

  -- ---- lists of statements

  -- what a list goes on with, where a token shows that it does
  inner_law : (R : Type 0) (w : World) (G : List Token → Type 0) → w.depth ≡ n → (R → w.fuel ≤ w.turns) → (x : Want) → (G [] → ⊥) → ((t : Token) (ts : List Token) → G (t ∷ ts) → Has (λ v y. LWant leaves types x (t ∷ v) y))
      → Law R w G (λ w. parse.inner leaves types w.turns w.depth (S w) x) (LWant leaves types x)
  unfolding parse.inner
  inner_law R w G d fits x some begins = room_law (nat_lt 0) (lt_grows 0) some begins (anywhere (subs (Deep0 R w) w d (λ r. fits r.0) (λ r. lt_of 0 w.depth r.1) x))

  body_law : (R : Type 0) (m : ℕ) (w : World) → w.fuel ≡ m → w.depth ≡ n → (R → w.fuel ≤ w.turns) → (u : List Token) (xs : List Stmt) (h : ℕ) → IsBody leaves types u xs h
      → Law R w Any (λ w. parse.body_from leaves types w.turns w.depth (S w) w.fuel xs h) (λ v y. LBody leaves types (u ++ v) y)
  unfolding parse.body_from
  body_law R zero w fe d fits u xs h l = no_turn fe (record { word = []; value = (xs, h); is = at_nil leaves types (LBody leaves types) u (xs, h) l })
  body_law R (suc m) w fe d fits u xs h l =
      let end : LBody leaves types (u ++ []) (xs, h) = at_nil leaves types (LBody leaves types) u (xs, h) l in
      a_turn (λ i w. parse.body_from leaves types w.turns w.depth (S w) i xs h) m fe
      (look (begins_inner types) (inner_local leaves types) (λ w begins. if begins then (parse.inner leaves types w.turns w.depth (S w) want.Inner >>= (λ x. parse.body_from leaves types w.turns w.depth (S w) (pred w.fuel) (xs ++ x.tree ∷ []) (max h x.height))) else pure (xs, h))
      (record { word = []; value = (xs, h); is = end })
      (λ begins. choose begins
      (λ yes. bind_turn {f = λ w x. parse.body_from leaves types w.turns w.depth (S w) w.fuel (xs ++ x.tree ∷ []) (max h x.height)} (λ v x b. inner_long leaves types b)
      (inner_law R w (λ ts. Any ts × (begins_inner types ts ≡ begins)) d fits want.Inner (λ q. same_test (begins_inner types []) (q.1 ∙ yes) (no_inner leaves types)) (λ t ts q. inner_begins leaves types t ts (q.1 ∙ yes))) (λ v x b.
      relang (λ v2 y j. subst (λ l. LBody leaves types l y) (append_assoc u v v2) j)
      (body_law R m (down w) (ap pred fe) d (λ r. down_fits w.fuel w.turns (fits r)) (u ++ v) (xs ++ x.tree ∷ []) (max h x.height) (g.one_more l b))))
      (λ no. pure_law (xs, h) end)))

  branches_law : (R : Type 0) (m : ℕ) (w : World) → w.fuel ≡ m → w.depth ≡ n → (R → w.fuel ≤ w.turns) → (u : List Token) (xs : List Stmt) (h : ℕ) → IsBranches leaves types u xs h
      → Law R w Any (λ w. parse.branches_from leaves types w.turns w.depth (S w) w.fuel xs h) (λ v y. LBranches leaves types (u ++ v) y)
  unfolding parse.branches_from
  branches_law R zero w fe d fits u xs h l = no_turn fe (record { word = []; value = (xs, h); is = at_nil leaves types (LBranches leaves types) u (xs, h) l })
  branches_law R (suc m) w fe d fits u xs h l =
      let end : LBranches leaves types (u ++ []) (xs, h) = at_nil leaves types (LBranches leaves types) u (xs, h) l in
      a_turn (λ i w. parse.branches_from leaves types w.turns w.depth (S w) i xs h) m fe
      (look (begins_statement types) (statement_local leaves types) (λ w begins. if begins then (parse.inner leaves types w.turns w.depth (S w) want.Statement >>= (λ x. parse.branches_from leaves types w.turns w.depth (S w) (pred w.fuel) (xs ++ x.tree ∷ []) (max h x.height))) else pure (xs, h))
      (record { word = []; value = (xs, h); is = end })
      (λ begins. choose begins
      (λ yes. bind_turn {f = λ w x. parse.branches_from leaves types w.turns w.depth (S w) w.fuel (xs ++ x.tree ∷ []) (max h x.height)} (λ v x b. stmt_long leaves types b)
      (inner_law R w (λ ts. Any ts × (begins_statement types ts ≡ begins)) d fits want.Statement (λ q. same_test (begins_statement types []) (q.1 ∙ yes) (no_statement leaves types)) (λ t ts q. statement_begins leaves types t ts (q.1 ∙ yes))) (λ v x b.
      relang (λ v2 y j. subst (λ l. LBranches leaves types l y) (append_assoc u v v2) j)
      (branches_law R m (down w) (ap pred fe) d (λ r. down_fits w.fuel w.turns (fits r)) (u ++ v) (xs ++ x.tree ∷ []) (max h x.height) (g.one_branch l b))))
      (λ no. pure_law (xs, h) end)))

  whole_body_law : (R : Type 0) (w : World) → w.depth ≡ n → (R → w.fuel ≤ w.turns) → Law R w Any (λ w. parse.body_from leaves types w.turns w.depth (S w) w.turns [] 0) (LBody leaves types)
  whole_body_law R w d fits = all_turns fits (λ i w. parse.body_from leaves types w.turns w.depth (S w) i [] 0) (body_law (w.fuel ≤ w.turns) w.turns (record w { fuel = w.turns }) refl d (λ r. omega arith) [] [] 0 g.no_statement)

  -- ---- cases

  -- what a case is, behind the cases before it
  abbrev Grown : Bool → List Token → List Stmt → ℕ → Lang Statements
  Grown wd u xs h v y = IsCases leaves types wd (u ++ v) (xs ++ y.0) (max h y.1) × (0 < length v)

  one_case_law : (R : Type 0) (w : World) (G : List Token → Type 0) (wd : Bool) → w.depth ≡ n → (R → w.fuel ≤ w.turns) → ((t : Token) (ts : List Token) → G (t ∷ ts) → t.kind ≡ k.Case) → (u : List Token) (xs : List Stmt) (h : ℕ) → IsCases leaves types wd u xs h
      → Law R w G (λ w. parse.one_case leaves types w.turns w.depth (S w)) (Grown wd u xs h)
  unfolding parse.one_case
  one_case_law R w G wd d fits first u xs h l = take_law (λ w t. assignment_within leaves types w.turns w.depth >>= (λ x. expect k.Colon >>= (λ _. parse.body_from leaves types w.turns w.depth (S w) w.turns [] 0 >>= (λ ys. pure (sm.Case t.place x.0 ∷ ys.0, max x.1 ys.1))))) (nat_lt 0) (lt_grows 0) (λ t. t.kind ≡ k.Case) first
      (record { word = token k.Case ∷ one_at leaves types (start []) ∷ token k.Colon ∷ []; value = (sm.Case (start []) (one_tree leaves types (start [])) ∷ [], max 1 0); is = (g.one_case (token k.Case) (token k.Colon) l refl (one_asg leaves types (start [])) refl g.no_statement, omega arith) })
      (λ t tc. bind (asgs leaves types (Deep0 R w) w (λ r. fits r.0)) (λ v x a.
      expect_law (λ w c. parse.body_from leaves types w.turns w.depth (S w) w.turns [] 0 >>= (λ ys. pure (sm.Case t.place x.0 ∷ ys.0, max x.1 ys.1))) k.Colon (λ c cc1.
      map_law (λ ys. (sm.Case t.place x.0 ∷ ys.0, max x.1 ys.1)) (whole_body_law (Deep0 R w) w d (λ r. fits r.0)) (λ r ys b. (g.one_case t c l tc a cc1 b, omega arith)))))

  default_case_law : (R : Type 0) (w : World) (G : List Token → Type 0) → w.depth ≡ n → (R → w.fuel ≤ w.turns) → ((t : Token) (ts : List Token) → G (t ∷ ts) → t.kind ≡ k.Default) → (u : List Token) (xs : List Stmt) (h : ℕ) → IsCases leaves types true u xs h
      → Law R w G (λ w. parse.default_case leaves types w.turns w.depth (S w)) (Grown true u xs h)
  unfolding parse.default_case
  default_case_law R w G d fits first u xs h l = take_law (λ w t. expect k.Colon >>= (λ _. parse.body_from leaves types w.turns w.depth (S w) w.turns [] 0 >>= (λ ys. pure (sm.Default t.place ∷ ys.0, ys.1)))) always (λ m n l e. e) (λ t. t.kind ≡ k.Default) first
      (record { word = token k.Default ∷ token k.Colon ∷ []; value = (sm.Default (start []) ∷ [], 0); is = (g.default_case (token k.Default) (token k.Colon) l refl refl g.no_statement, omega arith) })
      (λ t tc. expect_law (λ w c. parse.body_from leaves types w.turns w.depth (S w) w.turns [] 0 >>= (λ ys. pure (sm.Default t.place ∷ ys.0, ys.1))) k.Colon (λ c cc1.
      map_law (λ ys. (sm.Default t.place ∷ ys.0, ys.1)) (whole_body_law (R × (true ≡ true)) w d (λ r. fits r.0)) (λ r ys b. (g.default_case t c l tc cc1 b, omega arith))))

  is_default : (wd : Bool) (next : TokenKind) → begins_case wd next ≡ true → same_kind next k.Case ≡ false → (wd ≡ true) × (same_kind next k.Default ≡ true)
  unfolding begins_case
  is_default wd next b other = let e : (wd && same_kind next k.Default) ≡ true = sym (ap (λ c. c || (wd && same_kind next k.Default)) other) ∙ b in and_parts wd (same_kind next k.Default) e

  case_law : (R : Type 0) (w : World) (wd : Bool) (next : TokenKind) → w.depth ≡ n → (R → w.fuel ≤ w.turns) → begins_case wd next ≡ true → (u : List Token) (xs : List Stmt) (h : ℕ) → IsCases leaves types wd u xs h
      → Law R w (λ ts. Any ts × (kind ts ≡ next)) (λ w. parse.case_by leaves types w.turns w.depth (S w) next) (Grown wd u xs h)
  case_law R w wd next d fits b u xs h l = choose (same_kind next k.Case)
      (λ yes. one_case_law R w _ wd d fits (λ t ts q. first_kind t ts next q.1 ∙ kind_is next k.Case yes) u xs h l)
      (λ no. let p = is_default wd next b no in
      relang (λ v y j. subst (λ c. Grown c u xs h v y) (sym p.0) j) (default_case_law R w _ d fits (λ t ts q. first_kind t ts next q.1 ∙ kind_is next k.Default p.1) u xs h (subst (λ c. IsCases leaves types c u xs h) p.0 l)))

  cases_law : (R : Type 0) (m : ℕ) (w : World) (wd : Bool) → w.fuel ≡ m → w.depth ≡ n → (R → w.fuel ≤ w.turns) → (u : List Token) (xs : List Stmt) (h : ℕ) → IsCases leaves types wd u xs h
      → Law R w Any (λ w. parse.cases_from leaves types w.turns w.depth (S w) wd w.fuel xs h) (λ v y. LCases leaves types wd (u ++ v) y)
  unfolding parse.cases_from
  cases_law R zero w wd fe d fits u xs h l = no_turn fe (record { word = []; value = (xs, h); is = at_nil leaves types (LCases leaves types wd) u (xs, h) l })
  cases_law R (suc m) w wd fe d fits u xs h l =
      let end : LCases leaves types wd (u ++ []) (xs, h) = at_nil leaves types (LCases leaves types wd) u (xs, h) l in
      a_turn (λ i w. parse.cases_from leaves types w.turns w.depth (S w) wd i xs h) m fe
      (look kind kind_local (λ w next. if begins_case wd next then (parse.case_by leaves types w.turns w.depth (S w) next >>= (λ ys. parse.cases_from leaves types w.turns w.depth (S w) wd (pred w.fuel) (xs ++ ys.0) (max h ys.1))) else pure (xs, h))
      (record { word = []; value = (xs, h); is = end })
      (λ next. choose (begins_case wd next)
      (λ yes. bind_turn {f = λ w ys. parse.cases_from leaves types w.turns w.depth (S w) wd w.fuel (xs ++ ys.0) (max h ys.1)} (λ v y b. b.1) (case_law R w wd next d fits yes u xs h l) (λ v ys b.
      relang (λ v2 y j. subst (λ q. LCases leaves types wd q y) (append_assoc u v v2) j)
      (cases_law R m (down w) wd (ap pred fe) d (λ r. down_fits w.fuel w.turns (fits r)) (u ++ v) (xs ++ ys.0) (max h ys.1) b.0)))
      (λ no. pure_law (xs, h) end)))

  -- cases in braces
  data Braced (wd : Bool) : List Token → List Stmt → ℕ → Type 0 where
    braced : (p q : Token) {u : List Token} {xs : List Stmt} {h : ℕ} → p.kind ≡ k.LeftBrace → IsCases leaves types wd u xs h → q.kind ≡ k.RightBrace → Braced wd (p ∷ (u ++ q ∷ [])) xs h

  braced_law : (R : Type 0) (w : World) (wd : Bool) → w.depth ≡ n → (R → w.fuel ≤ w.turns) → Law R w Any (λ w. parse.braced_cases leaves types w.turns w.depth (S w) wd) (λ u x. Braced wd u x.0 x.1)
  unfolding parse.braced_cases
  braced_law R w wd d fits = expect_law (λ w p. parse.cases_from leaves types w.turns w.depth (S w) wd w.turns [] 0 >>= (λ xs. expect k.RightBrace >>= (λ _. pure xs))) k.LeftBrace (λ p pc.
      bind (all_turns fits (λ i w. parse.cases_from leaves types w.turns w.depth (S w) wd i [] 0) (cases_law (w.fuel ≤ w.turns) w.turns (record w { fuel = w.turns }) wd refl d (λ r. omega arith) [] [] 0 g.no_case)) (λ u xs l.
      expect_law (λ w q. pure xs) k.RightBrace (λ q qc. pure_law xs (braced p q pc l qc))))

  switched : (t : Token) → t.kind ≡ k.Switch → {a : List Token} (x : Expr) (h : ℕ) → IsCondition leaves types a x h → (v : List Token) (ys : List Stmt) (i : ℕ) → Braced true v ys i → LStmt leaves types (t ∷ (a ++ v)) (ended (sm.Switch t.place x ys) (max h i + 1))
  switched t tc x h c v ys i (braced p q {u = u} pc l qc) = switch_is leaves types t p q tc pc qc x h c u (ys, i) l

  alternated : (t : Token) → t.kind ≡ k.Alt → (v : List Token) (ys : List Stmt) (i : ℕ) → Braced false v ys i → LStmt leaves types (t ∷ v) (ended (sm.Alt t.place ys) (i + 1))
  alternated t tc v ys i (braced p q pc l qc) = g.alt t p q tc pc l qc

  switch_law : (R : Type 0) (w : World) → w.depth ≡ n → (R → w.fuel ≤ w.turns) → Law R w (λ ts. Any ts × (kind ts ≡ k.Switch)) (λ w. parse.switch leaves types w.turns w.depth (S w)) (LStmt leaves types)
  unfolding parse.switch
  switch_law R w d fits = take_law (λ w t. parse.condition leaves types w.turns w.depth >>= (λ x. parse.braced_cases leaves types w.turns w.depth (S w) true >>= (λ ys. pure (ended (sm.Switch t.place x.0 ys.0) (max x.1 ys.1 + 1))))) (nat_lt 0) (lt_grows 0) (λ t. t.kind ≡ k.Switch) (λ t ts q. first_kind t ts k.Switch q.1) (stmt_has leaves types)
      (λ t tc. bind (condition_law leaves types (Deep0 R w) w (λ r. fits r.0)) (λ a x c.
      map_law (λ ys. ended (sm.Switch t.place x.0 ys.0) (max x.1 ys.1 + 1)) (braced_law (Deep0 R w) w true d (λ r. fits r.0)) (λ v ys b. switched t tc x.0 x.1 c v ys.0 ys.1 b)))

  alt_law : (R : Type 0) (w : World) → w.depth ≡ n → (R → w.fuel ≤ w.turns) → Law R w (λ ts. Any ts × (kind ts ≡ k.Alt)) (λ w. parse.alt leaves types w.turns w.depth (S w)) (LStmt leaves types)
  unfolding parse.alt
  alt_law R w d fits = take_law (λ w t. parse.braced_cases leaves types w.turns w.depth (S w) false >>= (λ ys. pure (ended (sm.Alt t.place ys.0) (ys.1 + 1)))) always (λ m n l e. e) (λ t. t.kind ≡ k.Alt) (λ t ts q. first_kind t ts k.Alt q.1) (stmt_has leaves types)
      (λ t tc. map_law (λ ys. ended (sm.Alt t.place ys.0) (ys.1 + 1)) (braced_law (R × (true ≡ true)) w false d (λ r. fits r.0)) (λ v ys b. alternated t tc v ys.0 ys.1 b))

  par_law : (R : Type 0) (w : World) → w.depth ≡ n → (R → w.fuel ≤ w.turns) → Law R w (λ ts. Any ts × (kind ts ≡ k.Par)) (λ w. parse.par leaves types w.turns w.depth (S w)) (LStmt leaves types)
  unfolding parse.par
  par_law R w d fits = take_law (λ w t. expect k.LeftBrace >>= (λ _. parse.branches_from leaves types w.turns w.depth (S w) w.turns [] 0 >>= (λ xs. expect k.RightBrace >>= (λ _. pure (ended (sm.Par t.place xs.0) (xs.1 + 1)))))) always (λ m n l e. e) (λ t. t.kind ≡ k.Par) (λ t ts q. first_kind t ts k.Par q.1) (stmt_has leaves types)
      (λ t tc. expect_law (λ w p. parse.branches_from leaves types w.turns w.depth (S w) w.turns [] 0 >>= (λ xs. expect k.RightBrace >>= (λ _. pure (ended (sm.Par t.place xs.0) (xs.1 + 1))))) k.LeftBrace (λ p pc.
      bind (all_turns (λ r. fits r.0) (λ i w. parse.branches_from leaves types w.turns w.depth (S w) i [] 0) (branches_law (w.fuel ≤ w.turns) w.turns (record w { fuel = w.turns }) refl d (λ r. omega arith) [] [] 0 g.no_branch)) (λ u xs l.
      expect_law (λ w q. pure (ended (sm.Par t.place xs.0) (xs.1 + 1))) k.RightBrace (λ q qc. pure_law (ended (sm.Par t.place xs.0) (xs.1 + 1)) (g.par t p q tc pc l qc)))))

  rescue_law : (R : Type 0) (w : World) → w.depth ≡ n → (R → w.fuel ≤ w.turns) → Law R w (λ ts. Any ts × (kind ts ≡ k.Rescue)) (λ w. parse.rescue leaves types w.turns w.depth (S w)) (LStmt leaves types)
  unfolding parse.rescue
  rescue_law R w d fits = take_law (λ w t. parse.optional_name leaves types w.turns w.depth >>= (λ m. S w want.Block >>= (λ x. pure (ended (sm.Rescue t.place m x.tree) (x.height + 1))))) (nat_lt 0) (lt_grows 0) (λ t. t.kind ≡ k.Rescue) (λ t ts q. first_kind t ts k.Rescue q.1) (stmt_has leaves types)
      (λ t tc. bind (optional_name_law leaves types (Deep0 R w) w) (λ u m a.
      map_law (λ x. ended (sm.Rescue t.place m x.tree) (x.height + 1)) (subs (Deep0 R w) w d (λ r. fits r.0) (λ r. lt_of 0 w.depth r.1) want.Block) (λ v x b. g.rescue t tc a b.0)))

  block_law : (R : Type 0) (w : World) (G : List Token → Type 0) → w.depth ≡ n → (R → w.fuel ≤ w.turns) → Law R w G (λ w. parse.block leaves types w.turns w.depth (S w)) (LBlock leaves types)
  unfolding parse.block
  block_law R w G d fits = expect_law (λ w p. parse.body_from leaves types w.turns w.depth (S w) w.turns [] 0 >>= (λ xs. expect k.RightBrace >>= (λ _. pure (ended (sm.Block p.place xs.0) (xs.1 + 1))))) k.LeftBrace (λ p pc.
      bind (whole_body_law R w d fits) (λ u xs l.
      expect_law (λ w q. pure (ended (sm.Block p.place xs.0) (xs.1 + 1))) k.RightBrace (λ q qc. pure_law (ended (sm.Block p.place xs.0) (xs.1 + 1)) (g.braces p q pc l qc, refl))))

  -- ---- statements

  block_is : (u : List Token) (x : ReadStmt) → LBlock leaves types u x → LStmt leaves types u x
  block_is u x b = subst (λ c. IsStmt leaves types c u x.tree x.height) (sym b.1) (g.block b.0)

  statement_by_law : (R : Type 0) (w : World) → w.depth ≡ n → (R → w.fuel ≤ w.turns) → (kd : TokenKind) → Law R w (λ ts. Any ts × (kind ts ≡ kd)) (λ w. parse.statement_by leaves types w.turns w.depth (S w) kd) (LStmt leaves types)
  statement_by_law R w d fits k.LeftBrace = relang block_is (block_law R w _ d fits)
  statement_by_law R w d fits k.If = choice_law R w d fits
  statement_by_law R w d fits k.While = while_law R w d fits
  statement_by_law R w d fits k.Do = do_law R w d fits
  statement_by_law R w d fits k.For = for_law R w d fits
  statement_by_law R w d fits k.Switch = switch_law R w d fits
  statement_by_law R w d fits k.Alt = alt_law R w d fits
  statement_by_law R w d fits k.Par = par_law R w d fits
  statement_by_law R w d fits k.Rescue = rescue_law R w d fits
  statement_by_law R w d fits kd = simple_law leaves types R w fits kd

  statement_law : (R : Type 0) (w : World) → w.depth ≡ n → (R → w.fuel ≤ w.turns) → Law R w Any (λ w. parse.statement leaves types w.turns w.depth (S w)) (LStmt leaves types)
  unfolding parse.statement
  statement_law R w d fits = look (sees_other_name types) (other_local leaves types) (λ w is. peek >>= (λ next. if is then parse.named leaves types w.turns w.depth (S w) else parse.statement_by leaves types w.turns w.depth (S w) next)) (stmt_has leaves types)
      (λ is. look kind kind_local (λ w next. if is then parse.named leaves types w.turns w.depth (S w) else parse.statement_by leaves types w.turns w.depth (S w) next) (stmt_has leaves types)
      (λ next. choose is
      (λ yes. named_law R w (λ ts. (Any ts × (sees_other_name types ts ≡ is)) × (kind ts ≡ next)) d fits (λ t ts q. other_is leaves types t ts (q.0.1 ∙ yes)))
      (λ no. guarded (λ ts q. (tt, q.1)) (statement_by_law R w d fits next))))

  -- ---- what stands in a block

  opened_by_law : (R : Type 0) (w : World) → (R → w.fuel ≤ w.turns) → (R → 0 < w.depth) → (o : Token) → o.kind ≡ k.LeftParen → (u : List Token) (x : Begun) (h : ℕ) → BegunIs leaves types u x h
      → Law R w Any (λ w. parse.opened_by leaves types w.turns w.depth (S w) o (x, h)) (λ v y. LInner leaves types (o ∷ (u ++ v)) y)
  opened_by_law R w fits deep o oc u (bg.Value x) h a = bind (paren_begun_law leaves types R w fits o oc u (x, h) a) (λ v y b.
      relang (λ r z j. subst (λ l. LInner leaves types (o ∷ l) z) (append_assoc u v r) (g.statement j)) (value_behind_law leaves types R w fits (o ∷ (u ++ v)) y o.place b refl))
  opened_by_law R w fits deep o oc u (bg.Type x c) h a =
      let tuples : Law R w Any (λ w. tuple_within leaves types w.turns w.depth o.place (x, h) >>= parse.declared leaves types w.turns w.depth o.place) (λ v y. LInner leaves types (o ∷ (u ++ v)) y)
      = bind (tuple_within_law leaves types R w fits deep o oc u (x, h) a.0) (λ v b d.
      relang (λ r z j. subst (λ l. LInner leaves types (o ∷ l) z) (append_assoc u v r) j) (declared_law leaves types R w fits (o ∷ (u ++ v)) b o.place d refl)) in
      look kind kind_local (λ w next. if c && same_kind next k.RightParen then (cast_begun leaves types w.turns w.depth o (x, h) >>= parse.value_behind leaves types w.turns w.depth o.place) else (tuple_within leaves types w.turns w.depth o.place (x, h) >>= parse.declared leaves types w.turns w.depth o.place)) tuples.has
      (λ next. choose (c && same_kind next k.RightParen)
      (λ yes. let p = and_parts c (same_kind next k.RightParen) yes in
      bind (cast_begun_law leaves types R w (λ ts. Any ts × (kind ts ≡ next)) fits (λ t ts q. first_kind t ts next q.1 ∙ kind_is next k.RightParen p.1) o oc u (x, h) (a.1 p.0)) (λ v y b.
      relang (λ r z j. subst (λ l. LInner leaves types (o ∷ l) z) (append_assoc u v r) (g.statement j)) (value_behind_law leaves types R w fits (o ∷ (u ++ v)) y o.place b refl)))
      (λ no. anywhere tuples))

  opened_law : (R : Type 0) (w : World) (G : List Token → Type 0) → (R → w.fuel ≤ w.turns) → ((t : Token) (ts : List Token) → G (t ∷ ts) → t.kind ≡ k.LeftParen) → Law R w G (λ w. parse.opened leaves types w.turns w.depth (S w)) (LInner leaves types)
  unfolding parse.opened
  opened_law R w G fits first = take_law (λ w o. begun leaves types w.turns (pred w.depth) >>= (λ x. parse.opened_by leaves types w.turns w.depth (S w) o x)) (nat_lt 0) (lt_grows 0) (λ t. t.kind ≡ k.LeftParen) first (inner_has leaves types)
      (λ o oc. bind (Rattle.al_parse_block.proofs.SimpleLaw.lowered (begun_law leaves types (pred w.depth) (Deep0 R w) (lower w) refl (λ r. fits r.0))) (λ u x a.
      opened_by_law (Deep0 R w) w (λ r. fits r.0) (λ r. lt_of 0 w.depth r.1) o oc u x.0 x.1 a))

  in_block_law : (R : Type 0) (w : World) → w.depth ≡ n → (R → w.fuel ≤ w.turns) → Law R w Any (λ w. parse.in_block leaves types w.turns w.depth (S w)) (LInner leaves types)
  unfolding parse.in_block
  in_block_law R w d fits = look (sees_type types) (type_local leaves types) (λ w is. peek >>= (λ next. if is then parse.declaration leaves types w.turns w.depth else (if same_kind next k.LeftParen then parse.opened leaves types w.turns w.depth (S w) else parse.statement leaves types w.turns w.depth (S w)))) (inner_has leaves types)
      (λ is. look kind kind_local (λ w next. if is then parse.declaration leaves types w.turns w.depth else (if same_kind next k.LeftParen then parse.opened leaves types w.turns w.depth (S w) else parse.statement leaves types w.turns w.depth (S w))) (inner_has leaves types)
      (λ next. choose is
      (λ yes. anywhere (declaration_law leaves types R w fits))
      (λ no. choose (same_kind next k.LeftParen)
      (λ yes. opened_law R w (λ ts. (Any ts × (sees_type types ts ≡ is)) × (kind ts ≡ next)) fits (λ t ts q. first_kind t ts next q.1 ∙ kind_is next k.LeftParen yes))
      (λ no2. anywhere (relang (λ u x j. g.statement j) (statement_law R w d fits))))))

  want_law : (R : Type 0) (w : World) → w.depth ≡ n → (R → w.fuel ≤ w.turns) → (x : Want) → Law R w Any (λ w. parse.at_want leaves types w.turns w.depth (S w) x) (LWant leaves types x)
  want_law R w d fits want.Statement = statement_law R w d fits
  want_law R w d fits want.Inner = in_block_law R w d fits
  want_law R w d fits want.Block = block_law R w Any d fits

module _ (leaves : Leaves) (types : List ℕ) where
  pub within_law : (n : ℕ) (R : Type 0) (w : World) → w.depth ≡ n → (R → w.fuel ≤ w.turns) → (R → 0 < w.depth) → (x : Want) → Law R w Any (λ w. within leaves types w.turns w.depth x) (LWant leaves types x)
  unfolding within
  within_law zero R w d fits deep x = record { run = λ r. absurd (let h : 0 < w.depth = deep r in omega (arith, d)); has = want_has leaves types x }
  within_law (suc n) R w d fits deep x =
      view_law lower (λ w' ab. lower_above w w' ab) (λ w' ab same. ap pred same) (λ r. r) (λ r. omega arith)
      (λ w' ab ts. ap (λ m. within leaves types w'.turns m x ts) (some_pred w'.depth n (omega (arith, d, ab.depth))))
      (want_law leaves types n (λ R' w2 d2 f2 p2 x2. within_law n R' w2 d2 f2 p2 x2) R (lower w) (ap pred d) fits x)

  -- blocks, with their heights
  pub block_within_law : (R : Type 0) (w : World) → (R → w.fuel ≤ w.turns) → (R → 0 < w.depth) → Law R w Any (λ w. parse.block_within leaves types w.turns w.depth) (λ u x. IsBlock leaves types u x.0 x.1)
  unfolding parse.block_within
  block_within_law R w fits deep = map_law (λ x. (x.tree, x.height)) (within_law w.depth R w refl fits deep want.Block) (λ u x a. a.0)
