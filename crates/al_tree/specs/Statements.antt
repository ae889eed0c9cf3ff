-- The grammar of statements: one case for each rule, on whole lists of tokens, with the height.
--
-- A statement and a local declaration are one level higher than their parts. The elements of a list are one level below
-- its owner. The label of a case is no level.
use Rattle.std.specs.Prelude.{◌≡◌, ℕ, ◌+◌, max, Bool, true, false, List, [], ◌∷◌, ◌++◌, Option, Some, None}
use Rattle.al_lex.specs.declared.kind.TokenKind.TheVariants as k
use Rattle.al_lex.specs.declared.token.Token.{Token}
use Rattle.al_tree.specs.Words.{start}
use Rattle.al_tree.specs.Types.{Leaves, name_at, IsOtherName, IsBase, IsDcl}
use Rattle.al_tree.specs.Expressions.{IsAsg, IsAsgs, IsExpr}
use Rattle.al_tree.specs.declared.type_tree.TypeTree.{TypeTree}
use Rattle.al_tree.specs.declared.type_tree.Dcl.{Dcl}
use Rattle.al_tree.specs.declared.expression.Name.{Name}
use Rattle.al_tree.specs.declared.expression.Expr.{Expr}
use Rattle.al_tree.specs.declared.statement.Variable.{Variable}
use Rattle.al_tree.specs.declared.statement.Stmt.{Stmt}
use Rattle.al_tree.specs.declared.statement.Stmt.TheVariants as s

module _ (leaves : Leaves) (types : List ℕ) where
  -- vdcl : dcl ("=" asg)?
  pub data IsVariable : List Token → Variable → ℕ → Type 0 where
    bare : {u : List Token} {x : Dcl} {h : ℕ} → IsDcl leaves types u x h → IsVariable u (record { dcl = x; value = None }) h
    set : (t : Token) {u v : List Token} {x : Dcl} {y : Expr} {h i : ℕ}
        → IsDcl leaves types u x h → t.kind ≡ k.Equal → IsAsg leaves types v y i
        → IsVariable (u ++ t ∷ v) (record { dcl = x; value = Some y }) (max h i)

  -- vdcl ("," vdcl)*
  pub data IsVariables : List Token → List Variable → ℕ → Type 0 where
    one : {u : List Token} {x : Variable} {h : ℕ} → IsVariable u x h → IsVariables u (x ∷ []) h
    more : (t : Token) {u v : List Token} {xs : List Variable} {x : Variable} {h i : ℕ}
        → IsVariables u xs h → t.kind ≡ k.Comma → IsVariable v x i → IsVariables (u ++ t ∷ v) (xs ++ x ∷ []) (max h i)

  -- expr?
  pub data IsOptionalExpr : List Token → Option Expr → ℕ → Type 0 where
    none : IsOptionalExpr [] None 0
    some : {u : List Token} {x : Expr} {h : ℕ} → IsExpr leaves types u x h → IsOptionalExpr u (Some x) h

  -- NAME?
  pub data IsOptionalName : List Token → Option Name → Type 0 where
    none : IsOptionalName [] None
    some : (t : Token) → IsOtherName leaves types t → IsOptionalName (t ∷ []) (Some (name_at t))

  -- NUMBER?
  pub data IsOptionalNumber : List Token → Option ℕ → Type 0 where
    none : IsOptionalNumber [] None
    some : (t : Token) → t.kind ≡ k.Number → IsOptionalNumber (t ∷ []) (Some (leaves.number t))

  -- The Bool says whether the statement ends in an `if` without `else`, to which an `else` behind it would belong.
  mutual
    pub data IsStmt : (dangles : Bool) → List Token → Stmt → ℕ → Type 0 where
      empty : (t : Token) → t.kind ≡ k.Semicolon → IsStmt false (t ∷ []) (s.Empty t.place) 1
      block : {u : List Token} {x : Stmt} {h : ℕ} → IsBlock u x h → IsStmt false u x h
      value : (t : Token) {u : List Token} {x : Expr} {h : ℕ}
          → IsExpr leaves types u x h → t.kind ≡ k.Semicolon → IsStmt false (u ++ t ∷ []) (s.Value (start u) x) (h + 1)
      label : {dangles : Bool} (n t : Token) {u : List Token} {x : Stmt} {h : ℕ}
          → IsOtherName leaves types n → t.kind ≡ k.Colon → IsStmt dangles u x h
          → IsStmt dangles (n ∷ t ∷ u) (s.Label n.place n.name x) (h + 1)
      if_alone : {dangles : Bool} (w o c : Token) {u v : List Token} {x : Expr} {y : Stmt} {h i : ℕ}
          → w.kind ≡ k.If → o.kind ≡ k.LeftParen → IsExpr leaves types u x h → c.kind ≡ k.RightParen → IsStmt dangles v y i
          → IsStmt true (w ∷ o ∷ (u ++ c ∷ v)) (s.If w.place x y None) (max h i + 1)
      if_else : {dangles : Bool} (w o c t : Token) {u v r : List Token} {x : Expr} {y z : Stmt} {h i j : ℕ}
          → w.kind ≡ k.If → o.kind ≡ k.LeftParen → IsExpr leaves types u x h → c.kind ≡ k.RightParen → IsStmt false v y i
          → t.kind ≡ k.Else → IsStmt dangles r z j
          → IsStmt dangles (w ∷ o ∷ (u ++ c ∷ (v ++ t ∷ r))) (s.If w.place x y (Some z)) (max h (max i j) + 1)
      while_loop : {dangles : Bool} (w o c : Token) {u v : List Token} {x : Expr} {y : Stmt} {h i : ℕ}
          → w.kind ≡ k.While → o.kind ≡ k.LeftParen → IsExpr leaves types u x h → c.kind ≡ k.RightParen → IsStmt dangles v y i
          → IsStmt dangles (w ∷ o ∷ (u ++ c ∷ v)) (s.While w.place x y) (max h i + 1)
      do_loop : {dangles : Bool} (w t o c q : Token) {u v : List Token} {x : Stmt} {y : Expr} {h i : ℕ}
          → w.kind ≡ k.Do → IsStmt dangles u x h → t.kind ≡ k.While → o.kind ≡ k.LeftParen → IsExpr leaves types v y i
          → c.kind ≡ k.RightParen → q.kind ≡ k.Semicolon
          → IsStmt false (w ∷ (u ++ t ∷ o ∷ (v ++ c ∷ q ∷ []))) (s.Do w.place x y) (max h i + 1)
      for_loop : {dangles : Bool} (w o p q c : Token) {u v r b : List Token} {x y z : Option Expr} {body : Stmt} {h i j m : ℕ}
          → w.kind ≡ k.For → o.kind ≡ k.LeftParen → IsOptionalExpr u x h → p.kind ≡ k.Semicolon → IsOptionalExpr v y i
          → q.kind ≡ k.Semicolon → IsOptionalExpr r z j → c.kind ≡ k.RightParen → IsStmt dangles b body m
          → IsStmt dangles (w ∷ o ∷ (u ++ p ∷ (v ++ q ∷ (r ++ c ∷ b)))) (s.For w.place x y z body) (max (max h i) (max j m) + 1)
      switch : (w o c p q : Token) {u v : List Token} {x : Expr} {ys : List Stmt} {h i : ℕ}
          → w.kind ≡ k.Switch → o.kind ≡ k.LeftParen → IsExpr leaves types u x h → c.kind ≡ k.RightParen
          → p.kind ≡ k.LeftBrace → IsCases true v ys i → q.kind ≡ k.RightBrace
          → IsStmt false (w ∷ o ∷ (u ++ c ∷ p ∷ (v ++ q ∷ []))) (s.Switch w.place x ys) (max h i + 1)
      alt : (w p q : Token) {u : List Token} {xs : List Stmt} {h : ℕ}
          → w.kind ≡ k.Alt → p.kind ≡ k.LeftBrace → IsCases false u xs h → q.kind ≡ k.RightBrace
          → IsStmt false (w ∷ p ∷ (u ++ q ∷ [])) (s.Alt w.place xs) (h + 1)
      par : (w p q : Token) {u : List Token} {xs : List Stmt} {h : ℕ}
          → w.kind ≡ k.Par → p.kind ≡ k.LeftBrace → IsBranches u xs h → q.kind ≡ k.RightBrace
          → IsStmt false (w ∷ p ∷ (u ++ q ∷ [])) (s.Par w.place xs) (h + 1)
      rescue : (w : Token) {n u : List Token} {name : Option Name} {x : Stmt} {h : ℕ}
          → w.kind ≡ k.Rescue → IsOptionalName n name → IsBlock u x h
          → IsStmt false (w ∷ (n ++ u)) (s.Rescue w.place name x) (h + 1)
      raise : (w t : Token) {n : List Token} {name : Option Name}
          → w.kind ≡ k.Raise → IsOptionalName n name → t.kind ≡ k.Semicolon
          → IsStmt false (w ∷ (n ++ t ∷ [])) (s.Raise w.place name) 1
      return : (w t : Token) {u : List Token} {x : Option Expr} {h : ℕ}
          → w.kind ≡ k.Return → IsOptionalExpr u x h → t.kind ≡ k.Semicolon
          → IsStmt false (w ∷ (u ++ t ∷ [])) (s.Return w.place x) (h + 1)
      become : (w t : Token) {u : List Token} {x : Expr} {h : ℕ}
          → w.kind ≡ k.Become → IsExpr leaves types u x h → t.kind ≡ k.Semicolon
          → IsStmt false (w ∷ (u ++ t ∷ [])) (s.Become w.place x) (h + 1)
      break : (w t : Token) {n : List Token} {count : Option ℕ}
          → w.kind ≡ k.Break → IsOptionalNumber n count → t.kind ≡ k.Semicolon
          → IsStmt false (w ∷ (n ++ t ∷ [])) (s.Break w.place count) 1
      continue : (w t : Token) {n : List Token} {count : Option ℕ}
          → w.kind ≡ k.Continue → IsOptionalNumber n count → t.kind ≡ k.Semicolon
          → IsStmt false (w ∷ (n ++ t ∷ [])) (s.Continue w.place count) 1
      goto : (w n t : Token)
          → w.kind ≡ k.Goto → IsOtherName leaves types n → t.kind ≡ k.Semicolon
          → IsStmt false (w ∷ n ∷ t ∷ []) (s.Goto w.place (name_at n)) 1
      alloc : (w t : Token) {u : List Token} {xs : List Expr} {h : ℕ}
          → w.kind ≡ k.Alloc → IsAsgs leaves types u xs h → t.kind ≡ k.Semicolon
          → IsStmt false (w ∷ (u ++ t ∷ [])) (s.Alloc w.place xs) (h + 1)
      unalloc : (w t : Token) {u : List Token} {xs : List Expr} {h : ℕ}
          → w.kind ≡ k.Unalloc → IsAsgs leaves types u xs h → t.kind ≡ k.Semicolon
          → IsStmt false (w ∷ (u ++ t ∷ [])) (s.Unalloc w.place xs) (h + 1)
      check : (w t : Token) {u : List Token} {x : Expr} {h : ℕ}
          → w.kind ≡ k.Check → IsAsg leaves types u x h → t.kind ≡ k.Semicolon
          → IsStmt false (w ∷ (u ++ t ∷ [])) (s.Check w.place x None) (h + 1)
      check_text : (w m n t : Token) {u : List Token} {x : Expr} {h : ℕ}
          → w.kind ≡ k.Check → IsAsg leaves types u x h → m.kind ≡ k.Comma → n.kind ≡ k.Text → t.kind ≡ k.Semicolon
          → IsStmt false (w ∷ (u ++ m ∷ n ∷ t ∷ [])) (s.Check w.place x (Some (leaves.bytes n))) (h + 1)
      proc : (w t : Token) {u : List Token} {xs : List Expr} {h : ℕ}
          → w.kind ≡ k.Proc → IsAsgs leaves types u xs h → t.kind ≡ k.Semicolon
          → IsStmt false (w ∷ (u ++ t ∷ [])) (s.Proc w.place xs) (h + 1)
      task : (w t : Token) {u : List Token} {xs : List Expr} {h : ℕ}
          → w.kind ≡ k.Task → IsAsgs leaves types u xs h → t.kind ≡ k.Semicolon
          → IsStmt false (w ∷ (u ++ t ∷ [])) (s.Task w.place xs) (h + 1)

    -- block : "{" bstmt* "}"
    pub data IsBlock : List Token → Stmt → ℕ → Type 0 where
      braces : (p q : Token) {u : List Token} {xs : List Stmt} {h : ℕ}
          → p.kind ≡ k.LeftBrace → IsBody u xs h → q.kind ≡ k.RightBrace
          → IsBlock (p ∷ (u ++ q ∷ [])) (s.Block p.place xs) (h + 1)

    -- bstmt : stmt | base vdcl ("," vdcl)* ";"
    pub data IsBodyStmt : List Token → Stmt → ℕ → Type 0 where
      statement : {dangles : Bool} {u : List Token} {x : Stmt} {h : ℕ} → IsStmt dangles u x h → IsBodyStmt u x h
      declare : {takes : Bool} (t : Token) {u v : List Token} {x : TypeTree} {ys : List Variable} {h i : ℕ}
          → IsBase leaves types true takes u x h → IsVariables v ys i → t.kind ≡ k.Semicolon
          → IsBodyStmt (u ++ v ++ t ∷ []) (s.Declare (start u) x ys) (max h i + 1)

    -- bstmt*
    pub data IsBody : List Token → List Stmt → ℕ → Type 0 where
      no_statement : IsBody [] [] 0
      one_more : {u v : List Token} {xs : List Stmt} {x : Stmt} {h i : ℕ}
          → IsBody u xs h → IsBodyStmt v x i → IsBody (u ++ v) (xs ++ x ∷ []) (max h i)

    -- (("case" asg | "default") ":" bstmt*)*, where the Bool says whether `default` may stand
    pub data IsCases : (with_default : Bool) → List Token → List Stmt → ℕ → Type 0 where
      no_case : {with_default : Bool} → IsCases with_default [] [] 0
      one_case : {with_default : Bool} (w t : Token) {u v r : List Token} {xs ys : List Stmt} {x : Expr} {h i j : ℕ}
          → IsCases with_default u xs h → w.kind ≡ k.Case → IsAsg leaves types v x i → t.kind ≡ k.Colon → IsBody r ys j
          → IsCases with_default (u ++ w ∷ (v ++ t ∷ r)) (xs ++ s.Case w.place x ∷ ys) (max h (max i j))
      default_case : (w t : Token) {u r : List Token} {xs ys : List Stmt} {h j : ℕ}
          → IsCases true u xs h → w.kind ≡ k.Default → t.kind ≡ k.Colon → IsBody r ys j
          → IsCases true (u ++ w ∷ t ∷ r) (xs ++ s.Default w.place ∷ ys) (max h j)

    -- stmt*
    pub data IsBranches : List Token → List Stmt → ℕ → Type 0 where
      no_branch : IsBranches [] [] 0
      one_branch : {dangles : Bool} {u v : List Token} {xs : List Stmt} {x : Stmt} {h i : ℕ}
          → IsBranches u xs h → IsStmt dangles v x i → IsBranches (u ++ v) (xs ++ x ∷ []) (max h i)
