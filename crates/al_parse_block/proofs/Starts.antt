-- How statements begin, and which tokens they may begin with.
use Rattle.std.proofs.Common.{◌≡◌, ℕ, zero, suc, ◌+◌, ◌<◌, ◌≤◌, max, Bool, true, false, ◌||◌, List, [], ◌∷◌, ◌++◌, length, Option, Some, None, refl, sym, ap, ap₂, ◌∙◌, subst, arith, append_assoc, append-nil, length-append}
use Rattle.al_base.specs.declared.place.Place.{Place}
use Rattle.al_lex.specs.declared.kind.TokenKind.{TokenKind}
use Rattle.al_lex.specs.declared.kind.TokenKind.TheVariants as k
use Rattle.al_lex.specs.declared.token.Token.{Token}
use Rattle.al_tree.specs.Words.{start}
use Rattle.al_tree.specs.Types.{Leaves, name_at, IsBase, IsDcl}
use Rattle.al_tree.specs.Types as rules
use Rattle.al_tree.specs.Expressions.{IsExpr, only}
use Rattle.al_tree.specs.Statements as g
use Rattle.al_tree.specs.Statements.{IsStmt, IsBlock, IsBodyStmt, IsBody, IsCases, IsBranches, IsVariable, IsVariables}
use Rattle.al_tree.specs.Reading.{kind, same_kind}
use Rattle.al_tree.specs.declared.type_tree.TypeTree.{TypeTree}
use Rattle.al_tree.specs.declared.statement.Variable.{Variable}
use Rattle.al_tree.specs.declared.statement.Stmt.{Stmt}
use Rattle.al_tree.specs.declared.statement.Stmt.TheVariants as sm
use Rattle.al_tree.proofs.Law.{Lang, Has, head, token, token_at, kind_local}
use Rattle.al_parse_type.specs.Parse.{sees_type}
use Rattle.al_parse_type.proofs.BoundLaw.{kind_is, fresh_token, fresh_is}
use Rattle.al_parse_type.proofs.TypeLaw.{type_local}
use Rattle.al_parse_expr.specs.Parse.{begins_value}
use Rattle.al_parse_expr.proofs.Begins.{or_either, one_at, one_tree, one_asg, asg_of, value_begins, value_local, no_value, unary_long}
use Rattle.al_parse_block.specs.Parse.{Statements, ended, starts, begins_statement, begins_inner}
use Rattle.al_parse_block.specs.declared.part.ReadStmt.{ReadStmt}
use Rattle.al_parse_block.specs.declared.part.Want.{Want}
use Rattle.al_parse_block.specs.declared.part.Want.TheVariants as want

module _ (leaves : Leaves) (types : List ℕ) where
  -- ---- languages

  abbrev pub LStmt : Lang ReadStmt
  LStmt u x = IsStmt leaves types x.dangles u x.tree x.height

  abbrev pub LInner : Lang ReadStmt
  LInner u x = IsBodyStmt leaves types u x.tree x.height

  abbrev pub LBlock : Lang ReadStmt
  LBlock u x = IsBlock leaves types u x.tree x.height × (x.dangles ≡ false)

  abbrev pub LWant : Want → Lang ReadStmt
  LWant want.Statement = LStmt
  LWant want.Inner = LInner
  LWant want.Block = LBlock

  abbrev pub LBody : Lang Statements
  LBody u x = IsBody leaves types u x.0 x.1

  abbrev pub LBranches : Lang Statements
  LBranches u x = IsBranches leaves types u x.0 x.1

  abbrev pub LCases : Bool → Lang Statements
  LCases d u x = IsCases leaves types d u x.0 x.1

  -- ---- what is seen

  pub statement_local : (ts ts' : List Token) → head ts ≡ head ts' → begins_statement types ts ≡ begins_statement types ts'
  unfolding begins_statement
  statement_local ts ts' h = ap₂ (λ kd b. starts kd || b) (kind_local ts ts' h) (value_local leaves types ts ts' h)

  pub inner_local : (ts ts' : List Token) → head ts ≡ head ts' → begins_inner types ts ≡ begins_inner types ts'
  unfolding begins_inner
  inner_local ts ts' h = ap₂ (λ a b. a || b) (type_local leaves types ts ts' h) (statement_local ts ts' h)

  pub no_statement : begins_statement types [] ≡ false
  unfolding begins_statement kind
  no_statement = no_value leaves types

  no_type : sees_type types [] ≡ false
  unfolding sees_type Rattle.al_parse_type.specs.Parse.sees_type_name kind same_kind
  no_type = refl

  pub no_inner : begins_inner types [] ≡ false
  unfolding begins_inner
  no_inner = rw (no_type, no_statement) refl

  -- ---- what there is to go on with

  abbrev here : Place
  here = start []

  abbrev one_value : Token
  one_value = one_at leaves types here

  one_expr : IsExpr leaves types (one_value ∷ []) (one_tree leaves types here) 1
  one_expr = only (one_asg leaves types here)

  empty_stmt : IsStmt leaves types false (token k.Semicolon ∷ []) (sm.Empty here) 1
  empty_stmt = g.empty (token k.Semicolon) refl

  empty_block : (p : Token) → p.kind ≡ k.LeftBrace → IsBlock leaves types (p ∷ token k.RightBrace ∷ []) (sm.Block p.place []) 1
  empty_block p c = g.braces p (token k.RightBrace) c g.no_statement refl

  pub stmt_has : Has LStmt
  stmt_has = record { word = token k.Semicolon ∷ []; value = ended (sm.Empty here) 1; is = empty_stmt }

  pub inner_has : Has LInner
  inner_has = record { word = token k.Semicolon ∷ []; value = ended (sm.Empty here) 1; is = g.statement empty_stmt }

  pub block_has : Has LBlock
  block_has = record { word = token k.LeftBrace ∷ token k.RightBrace ∷ []; value = ended (sm.Block here []) 1; is = (empty_block (token k.LeftBrace) refl, refl) }

  pub want_has : (x : Want) → Has (LWant x)
  want_has want.Statement = stmt_has
  want_has want.Inner = inner_has
  want_has want.Block = block_has

  -- the keyword of a condition, the condition, and a statement
  cond : List Token → List Token
  cond v = token k.LeftParen ∷ one_value ∷ token k.RightParen ∷ v

  starts_has : (t : Token) (kd : TokenKind) → t.kind ≡ kd → starts kd ≡ true → Has (λ v x. LStmt (t ∷ v) x)
  unfolding cond
  starts_has t k.Semicolon c h = record { word = []; value = ended (sm.Empty t.place) 1; is = g.empty t c }
  starts_has t k.LeftBrace c h = record { word = token k.RightBrace ∷ []; value = ended (sm.Block t.place []) 1; is = g.block (empty_block t c) }
  starts_has t k.If c h = record { word = cond (token k.Semicolon ∷ []); value = record { tree = sm.If t.place (one_tree leaves types here) (sm.Empty here) None; height = max 1 1 + 1; dangles = true }; is = g.if_alone t (token k.LeftParen) (token k.RightParen) c refl one_expr refl empty_stmt }
  starts_has t k.While c h = record { word = cond (token k.Semicolon ∷ []); value = ended (sm.While t.place (one_tree leaves types here) (sm.Empty here)) (max 1 1 + 1); is = g.while_loop t (token k.LeftParen) (token k.RightParen) c refl one_expr refl empty_stmt }
  starts_has t k.Do c h = record { word = token k.Semicolon ∷ token k.While ∷ cond (token k.Semicolon ∷ []); value = ended (sm.Do t.place (sm.Empty here) (one_tree leaves types here)) (max 1 1 + 1); is = g.do_loop t (token k.While) (token k.LeftParen) (token k.RightParen) (token k.Semicolon) c empty_stmt refl refl one_expr refl refl }
  starts_has t k.For c h = record { word = token k.LeftParen ∷ token k.Semicolon ∷ token k.Semicolon ∷ token k.RightParen ∷ token k.Semicolon ∷ []; value = ended (sm.For t.place None None None (sm.Empty here)) (max (max 0 0) (max 0 1) + 1); is = g.for_loop t (token k.LeftParen) (token k.Semicolon) (token k.Semicolon) (token k.RightParen) c refl g.none refl g.none refl g.none refl empty_stmt }
  starts_has t k.Switch c h = record { word = cond (token k.LeftBrace ∷ token k.RightBrace ∷ []); value = ended (sm.Switch t.place (one_tree leaves types here) []) (max 1 0 + 1); is = g.switch t (token k.LeftParen) (token k.RightParen) (token k.LeftBrace) (token k.RightBrace) c refl one_expr refl refl g.no_case refl }
  starts_has t k.Alt c h = record { word = token k.LeftBrace ∷ token k.RightBrace ∷ []; value = ended (sm.Alt t.place []) (0 + 1); is = g.alt t (token k.LeftBrace) (token k.RightBrace) c refl g.no_case refl }
  starts_has t k.Par c h = record { word = token k.LeftBrace ∷ token k.RightBrace ∷ []; value = ended (sm.Par t.place []) (0 + 1); is = g.par t (token k.LeftBrace) (token k.RightBrace) c refl g.no_branch refl }
  starts_has t k.Rescue c h = record { word = token k.LeftBrace ∷ token k.RightBrace ∷ []; value = ended (sm.Rescue t.place None (sm.Block here [])) (1 + 1); is = g.rescue t c g.none (empty_block (token k.LeftBrace) refl) }
  starts_has t k.Raise c h = record { word = token k.Semicolon ∷ []; value = ended (sm.Raise t.place None) 1; is = g.raise t (token k.Semicolon) c g.none refl }
  starts_has t k.Return c h = record { word = token k.Semicolon ∷ []; value = ended (sm.Return t.place None) (0 + 1); is = g.return t (token k.Semicolon) c g.none refl }
  starts_has t k.Become c h = record { word = one_value ∷ token k.Semicolon ∷ []; value = ended (sm.Become t.place (one_tree leaves types here)) (1 + 1); is = g.become t (token k.Semicolon) c one_expr refl }
  starts_has t k.Break c h = record { word = token k.Semicolon ∷ []; value = ended (sm.Break t.place None) 1; is = g.break t (token k.Semicolon) c g.none refl }
  starts_has t k.Continue c h = record { word = token k.Semicolon ∷ []; value = ended (sm.Continue t.place None) 1; is = g.continue t (token k.Semicolon) c g.none refl }
  starts_has t k.Goto c h = let n = fresh_token types here in record { word = n ∷ token k.Semicolon ∷ []; value = ended (sm.Goto t.place (name_at n)) 1; is = g.goto t n (token k.Semicolon) c (fresh_is leaves types here) refl }
  starts_has t k.Alloc c h = record { word = one_value ∷ token k.Semicolon ∷ []; value = ended (sm.Alloc t.place (one_tree leaves types here ∷ [])) (1 + 1); is = g.alloc t (token k.Semicolon) c (Rattle.al_tree.specs.Expressions.one (one_asg leaves types here)) refl }
  starts_has t k.Unalloc c h = record { word = one_value ∷ token k.Semicolon ∷ []; value = ended (sm.Unalloc t.place (one_tree leaves types here ∷ [])) (1 + 1); is = g.unalloc t (token k.Semicolon) c (Rattle.al_tree.specs.Expressions.one (one_asg leaves types here)) refl }
  starts_has t k.Check c h = record { word = one_value ∷ token k.Semicolon ∷ []; value = ended (sm.Check t.place (one_tree leaves types here) None) (1 + 1); is = g.check t (token k.Semicolon) c (one_asg leaves types here) refl }
  starts_has t k.Proc c h = record { word = one_value ∷ token k.Semicolon ∷ []; value = ended (sm.Proc t.place (one_tree leaves types here ∷ [])) (1 + 1); is = g.proc t (token k.Semicolon) c (Rattle.al_tree.specs.Expressions.one (one_asg leaves types here)) refl }
  starts_has t k.Task c h = record { word = one_value ∷ token k.Semicolon ∷ []; value = ended (sm.Task t.place (one_tree leaves types here ∷ [])) (1 + 1); is = g.task t (token k.Semicolon) c (Rattle.al_tree.specs.Expressions.one (one_asg leaves types here)) refl }
  starts_has t _ c h = absurd (let f : ⊥ = cc in f)

  -- a statement goes on from a token that may begin it
  pub statement_begins : (t : Token) (ts : List Token) → begins_statement types (t ∷ ts) ≡ true → Has (λ v x. LStmt (t ∷ v) x)
  unfolding begins_statement kind
  statement_begins t ts h = or_either (starts t.kind) _ h
      (λ b. starts_has t t.kind refl b)
      (λ b. let q = value_begins leaves types t ts b in record {
        word = q.word ++ token k.Semicolon ∷ [];
        value = ended (sm.Value t.place q.value.0) (q.value.1 + 1);
        is = g.value (token k.Semicolon) (only (asg_of leaves types q.is)) refl;
      })

  -- a declaration, by its base type and what stands behind it
  pub declare_at : {takes : Bool} (t : Token) {u v : List Token} {x : TypeTree} {ys : List Variable} {h i : ℕ} → IsBase leaves types true takes u x h → IsVariables leaves types v ys i → t.kind ≡ k.Semicolon
      → IsBodyStmt leaves types (u ++ (v ++ t ∷ [])) (sm.Declare (start u) x ys) (max h i + 1)
  declare_at t {u = u} {v = v} {x = x} {ys = ys} {h = h} {i = i} a l c = subst (λ q. IsBodyStmt leaves types q (sm.Declare (start u) x ys) (max h i + 1)) (append_assoc u v (t ∷ [])) (g.declare t a l c)

  -- a base type goes on from a token that begins a type
  base_begins : (t : Token) (ts : List Token) → sees_type types (t ∷ ts) ≡ true → Has (λ v x. LInner (t ∷ v) x)
  base_begins t ts h = let q = Rattle.al_parse_type.proofs.TypeLaw.base_begins leaves types true t ts h in let n = fresh_token types here in record {
    word = q.word ++ n ∷ token k.Semicolon ∷ [];
    value = ended (sm.Declare t.place q.value.tree (record { dcl = record { at = n.place; stars = 0; name = name_at n; bounds = [] }; value = None } ∷ [])) (max q.value.height 0 + 1);
    is = declare_at (token k.Semicolon) q.is (g.one (g.bare (rules.dcl n rules.none (fresh_is leaves types here) rules.none))) refl;
  }

  -- and so does what may stand in a block
  pub inner_begins : (t : Token) (ts : List Token) → begins_inner types (t ∷ ts) ≡ true → Has (λ v x. LInner (t ∷ v) x)
  unfolding begins_inner
  inner_begins t ts h = or_either (sees_type types (t ∷ ts)) _ h (λ b. base_begins t ts b)
      (λ b. let q = statement_begins t ts b in record { word = q.word; value = q.value; is = g.statement q.is })

  -- ---- lengths

  pub block_long : {u : List Token} {x : Stmt} {h : ℕ} → IsBlock leaves types u x h → 0 < length u
  block_long (g.braces p q c b d) = omega arith

  pub stmt_long : {d : Bool} {u : List Token} {x : Stmt} {h : ℕ} → IsStmt leaves types d u x h → 0 < length u
  stmt_long (g.empty t c) = omega arith
  stmt_long (g.block b) = block_long b
  stmt_long (g.value t {u = u} a c) = omega (arith, length-append u (t ∷ []))
  stmt_long (g.label n t nc tc d) = omega arith
  stmt_long (g.if_alone w o c wc oc a ec d) = omega arith
  stmt_long (g.if_else w o c t wc oc a ec d tc e) = omega arith
  stmt_long (g.while_loop w o c wc oc a ec d) = omega arith
  stmt_long (g.do_loop w t o c q wc d tc oc a ec qc) = omega arith
  stmt_long (g.for_loop w o p q c wc oc a pc b qc e ec d) = omega arith
  stmt_long (g.switch w o c p q wc oc a ec pc d qc) = omega arith
  stmt_long (g.alt w p q wc pc d qc) = omega arith
  stmt_long (g.par w p q wc pc d qc) = omega arith
  stmt_long (g.rescue w wc a b) = omega arith
  stmt_long (g.raise w t wc a tc) = omega arith
  stmt_long (g.return w t wc a tc) = omega arith
  stmt_long (g.become w t wc a tc) = omega arith
  stmt_long (g.break w t wc a tc) = omega arith
  stmt_long (g.continue w t wc a tc) = omega arith
  stmt_long (g.goto w n t wc nc tc) = omega arith
  stmt_long (g.alloc w t wc a tc) = omega arith
  stmt_long (g.unalloc w t wc a tc) = omega arith
  stmt_long (g.check w t wc a tc) = omega arith
  stmt_long (g.check_text w m n t wc a mc nc tc) = omega arith
  stmt_long (g.proc w t wc a tc) = omega arith
  stmt_long (g.task w t wc a tc) = omega arith

  pub inner_long : {u : List Token} {x : Stmt} {h : ℕ} → IsBodyStmt leaves types u x h → 0 < length u
  inner_long (g.statement d) = stmt_long d
  inner_long (g.declare t {u = u} {v = v} a b c) = omega (arith, length-append (u ++ v) (t ∷ []))
