-- The grammar of expressions: one case for each rule, on whole lists of tokens, with the height.
--
-- An expression is one level higher than its parts, and so is a pair of parentheses round one expression. The name of
-- a function that is called is no node.
use Rattle.std.specs.Prelude.{◌≡◌, ℕ, suc, ◌+◌, max, Bool, false, ◌&&◌, ◌||◌, List, [], ◌∷◌, ◌++◌, Some, is_some}
use Rattle.al_lex.specs.declared.kind.TokenKind.TheVariants as k
use Rattle.al_lex.specs.declared.token.Token.{Token}
use Rattle.al_tree.specs.Words.{start, is_name, is_left_paren, is_tuple_or_chan, basic_type, prefix_operator, postfix_operator, access, operator, assign_operator}
use Rattle.al_tree.specs.Types.{Leaves, known, name_at, IsOtherName, IsStarred}
use Rattle.al_tree.specs.declared.type_tree.TypeTree.{TypeTree}
use Rattle.al_tree.specs.declared.expression.UnaryOp.{UnaryOp}
use Rattle.al_tree.specs.declared.expression.PostfixOp.{PostfixOp}
use Rattle.al_tree.specs.declared.expression.BinaryOp.{BinaryOp}
use Rattle.al_tree.specs.declared.expression.AssignOp.{AssignOp}
use Rattle.al_tree.specs.declared.expression.Access.{Access}
use Rattle.al_tree.specs.declared.expression.Expr.{Expr}
use Rattle.al_tree.specs.declared.expression.Expr.TheVariants as e

-- the first token of the types that may stand in a cast
abbrev pub begins_cast_type : List ℕ → Token → Bool
begins_cast_type types t =
    is_some (basic_type t.kind) || is_tuple_or_chan t.kind || (is_name t.kind && known types t.name)

-- `(` and a type: behind `sizeof` these are the type's form, and no operand that is a cast
abbrev pub begins_cast : List ℕ → List Token → Bool
begins_cast types (o ∷ t ∷ ts) = is_left_paren o.kind && begins_cast_type types t
begins_cast types _ = false

-- the last token is a name
abbrev pub ends_in_name : List Token → Bool
ends_in_name [] = false
ends_in_name (t ∷ []) = is_name t.kind
ends_in_name (_ ∷ t ∷ ts) = ends_in_name (t ∷ ts)

-- the loosest level of binary operators
abbrev pub loosest : ℕ
loosest = 11

module _ (leaves : Leaves) (types : List ℕ) where
  mutual
    -- prim : NUMBER | CHAR | STRING | "nil" | NAME | "(" asg ")" | "(" asg ("," asg)+ ")"
    pub data IsPrim : List Token → Expr → ℕ → Type 0 where
      number : (t : Token) → t.kind ≡ k.Number → IsPrim (t ∷ []) (e.Number t.place (leaves.number t)) 1
      char : (t : Token) → t.kind ≡ k.Char → IsPrim (t ∷ []) (e.Char t.place (leaves.byte t)) 1
      text : (t : Token) → t.kind ≡ k.Text → IsPrim (t ∷ []) (e.Text t.place (leaves.bytes t)) 1
      nil : (t : Token) → t.kind ≡ k.Nil → IsPrim (t ∷ []) (e.Nil t.place) 1
      name : (t : Token) → IsOtherName leaves types t → IsPrim (t ∷ []) (e.Name t.place t.name) 1
      paren : (o c : Token) {u : List Token} {x : Expr} {h : ℕ}
          → o.kind ≡ k.LeftParen → IsAsg u x h → c.kind ≡ k.RightParen → IsPrim (o ∷ (u ++ c ∷ [])) x (h + 1)
      tuple : (o t c : Token) {u v : List Token} {xs : List Expr} {x : Expr} {h i : ℕ}
          → o.kind ≡ k.LeftParen → IsAsgs u xs h → t.kind ≡ k.Comma → IsAsg v x i → c.kind ≡ k.RightParen
          → IsPrim (o ∷ (u ++ t ∷ (v ++ c ∷ []))) (e.Tuple o.place (xs ++ x ∷ [])) (max h i + 1)

    -- post : prim ("[" expr "]" | ("."|"->") NAME | "(" (asg ("," asg)*)? ")" | "++" | "--" | "?")*
    pub data IsPost : List Token → Expr → ℕ → Type 0 where
      prim : {u : List Token} {x : Expr} {h : ℕ} → IsPrim u x h → IsPost u x h
      index : (o c : Token) {u v : List Token} {x y : Expr} {h i : ℕ}
          → IsPost u x h → o.kind ≡ k.LeftBracket → IsExpr v y i → c.kind ≡ k.RightBracket
          → IsPost (u ++ o ∷ (v ++ c ∷ [])) (e.Index (start u) x y) (max h i + 1)
      member : (t n : Token) {u : List Token} {by : Access} {x : Expr} {h : ℕ}
          → IsPost u x h → access t.kind ≡ Some by → IsOtherName leaves types n
          → IsPost (u ++ t ∷ n ∷ []) (e.Member (start u) x by (name_at n)) (h + 1)
      call : (o c : Token) {u v : List Token} {x : Expr} {ys : List Expr} {h i : ℕ}
          → IsCallee u x h → o.kind ≡ k.LeftParen → IsArguments v ys i → c.kind ≡ k.RightParen
          → IsPost (u ++ o ∷ (v ++ c ∷ [])) (e.Call (start u) x ys) (max h i + 1)
      postfix : (t : Token) {u : List Token} {op : PostfixOp} {x : Expr} {h : ℕ}
          → IsPost u x h → postfix_operator t.kind ≡ Some op → IsPost (u ++ t ∷ []) (e.Postfix (start u) op x) (h + 1)

    -- what is called: the name before the `(`, a member's name too, adds no level
    pub data IsCallee : List Token → Expr → ℕ → Type 0 where
      called_name : (t : Token) → IsOtherName leaves types t → IsCallee (t ∷ []) (e.Name t.place t.name) 0
      called_member : (t n : Token) {u : List Token} {by : Access} {x : Expr} {h : ℕ}
          → IsPost u x h → access t.kind ≡ Some by → IsOtherName leaves types n
          → IsCallee (u ++ t ∷ n ∷ []) (e.Member (start u) x by (name_at n)) h
      called_value : {u : List Token} {x : Expr} {h : ℕ} → IsPost u x h → ends_in_name u ≡ false → IsCallee u x h

    -- (asg ("," asg)*)?
    pub data IsArguments : List Token → List Expr → ℕ → Type 0 where
      no_arguments : IsArguments [] [] 0
      arguments : {u : List Token} {xs : List Expr} {h : ℕ} → IsAsgs u xs h → IsArguments u xs h

    -- unary : post | prefix unary | "(" ctype ")" unary | "sizeof" "(" ctype ")" | "sizeof" unary
    pub data IsUnary : List Token → Expr → ℕ → Type 0 where
      post : {u : List Token} {x : Expr} {h : ℕ} → IsPost u x h → IsUnary u x h
      prefix : (t : Token) {u : List Token} {op : UnaryOp} {x : Expr} {h : ℕ}
          → prefix_operator t.kind ≡ Some op → IsUnary u x h → IsUnary (t ∷ u) (e.Unary t.place op x) (h + 1)
      cast : (o c : Token) {takes : Bool} {u v : List Token} {x : TypeTree} {y : Expr} {h i : ℕ}
          → o.kind ≡ k.LeftParen → IsStarred leaves types false takes u x h → c.kind ≡ k.RightParen → IsUnary v y i
          → IsUnary (o ∷ (u ++ c ∷ v)) (e.Cast o.place x y) (max h i + 1)
      sizeof_type : (t o c : Token) {takes : Bool} {u : List Token} {x : TypeTree} {h : ℕ}
          → t.kind ≡ k.Sizeof → o.kind ≡ k.LeftParen → IsStarred leaves types false takes u x h → c.kind ≡ k.RightParen
          → IsUnary (t ∷ o ∷ (u ++ c ∷ [])) (e.SizeofType t.place x) (h + 1)
      sizeof_value : (t : Token) {u : List Token} {x : Expr} {h : ℕ}
          → t.kind ≡ k.Sizeof → IsUnary u x h → begins_cast types u ≡ false → IsUnary (t ∷ u) (e.SizeofValue t.place x) (h + 1)

    -- operators of a level and of all tighter ones, from the left; `from::to` once, between shifts
    pub data IsBinary : ℕ → List Token → Expr → ℕ → Type 0 where
      unary : {u : List Token} {x : Expr} {h : ℕ} → IsUnary u x h → IsBinary 0 u x h
      tighter : {l : ℕ} {u : List Token} {x : Expr} {h : ℕ} → IsBinary l u x h → IsBinary (suc l) u x h
      binary : {l : ℕ} (t : Token) {u v : List Token} {op : BinaryOp} {x y : Expr} {h i : ℕ}
          → IsBinary (suc l) u x h → operator l t.kind ≡ Some op → IsBinary l v y i
          → IsBinary (suc l) (u ++ t ∷ v) (e.Binary (start u) op x y) (max h i + 1)
      iterator : (t : Token) {u v : List Token} {x y : Expr} {h i : ℕ}
          → IsBinary 3 u x h → t.kind ≡ k.ColonColon → IsBinary 3 v y i
          → IsBinary 4 (u ++ t ∷ v) (e.Iterator (start u) x y) (max h i + 1)

    -- asg : lor | unary asgop asg
    pub data IsAsg : List Token → Expr → ℕ → Type 0 where
      value : {u : List Token} {x : Expr} {h : ℕ} → IsBinary loosest u x h → IsAsg u x h
      assign : (t : Token) {u v : List Token} {op : AssignOp} {x y : Expr} {h i : ℕ}
          → IsUnary u x h → assign_operator t.kind ≡ Some op → IsAsg v y i
          → IsAsg (u ++ t ∷ v) (e.Assign (start u) op x y) (max h i + 1)

    -- asg ("," asg)*
    pub data IsAsgs : List Token → List Expr → ℕ → Type 0 where
      one : {u : List Token} {x : Expr} {h : ℕ} → IsAsg u x h → IsAsgs u (x ∷ []) h
      more : (t : Token) {u v : List Token} {xs : List Expr} {x : Expr} {h i : ℕ}
          → IsAsgs u xs h → t.kind ≡ k.Comma → IsAsg v x i → IsAsgs (u ++ t ∷ v) (xs ++ x ∷ []) (max h i)

    -- expr : asg ("," asg)*
    pub data IsExpr : List Token → Expr → ℕ → Type 0 where
      only : {u : List Token} {x : Expr} {h : ℕ} → IsAsg u x h → IsExpr u x h
      sequence : (t : Token) {u v : List Token} {xs : List Expr} {x : Expr} {h i : ℕ}
          → IsAsgs u xs h → t.kind ≡ k.Comma → IsAsg v x i
          → IsExpr (u ++ t ∷ v) (e.Sequence (start u) (xs ++ x ∷ [])) (max h i + 1)
