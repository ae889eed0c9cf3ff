-- One step of each parser of expressions, where what it reads is as it has to be.
use Rattle.std.proofs.Common.{◌≡◌, ℕ, zero, suc, pred, ◌+◌, ◌<◌, ◌≤◌, ◌==◌, max, nat_lt, nat_le, Bool, true, false, if◌then◌else◌, ◌||◌, ◌&&◌, not, List, [], ◌∷◌, ◌++◌, length, Option, Some, None, Ok, Err, refl, sym, ap, ap₂, ◌∙◌, subst, arith}
use Rattle.al_base.specs.declared.place.Place.{Place}
use Rattle.al_lex.specs.declared.kind.TokenKind.{TokenKind}
use Rattle.al_lex.specs.declared.kind.TokenKind.TheVariants as k
use Rattle.al_lex.specs.declared.token.Token.{Token}
use Rattle.al_tree.specs.Words.{start, access, postfix_operator, prefix_operator, operator, assign_operator}
use Rattle.al_tree.specs.Types.{Leaves, known, name_at}
use Rattle.al_tree.specs.Expressions.{loosest}
use Rattle.al_tree.specs.Reading.{Outcome, Parser, and_then, ◌>>=◌, ◌>>◌, pure, refuse, kind, name_number, same_kind, looks, peek, here, take_if, expect, expect_if}
use Rattle.al_tree.specs.declared.cursor.ParseError.TheVariants.{Stuck, Deep}
use Rattle.al_tree.specs.declared.type_tree.TypeTree.{TypeTree}
use Rattle.al_tree.specs.declared.expression.UnaryOp.{UnaryOp}
use Rattle.al_tree.specs.declared.expression.PostfixOp.{PostfixOp}
use Rattle.al_tree.specs.declared.expression.BinaryOp.{BinaryOp}
use Rattle.al_tree.specs.declared.expression.AssignOp.{AssignOp}
use Rattle.al_tree.specs.declared.expression.Access.{Access}
use Rattle.al_tree.specs.declared.expression.Expr.{Expr}
use Rattle.al_tree.specs.declared.expression.Expr.TheVariants as e
use Rattle.al_parse_type.specs.Parse.{sees_type, sees_other_name, other_name}
use Rattle.al_parse_type.specs.Within.{starred_within}
use Rattle.al_parse_expr.specs.Parse as parse
use Rattle.al_parse_expr.specs.Parse.{Sized, Listed, operand, closed, within}
use Rattle.al_parse_expr.specs.declared.operand.Operand.{Operand}
use Rattle.al_parse_expr.specs.declared.operand.Want.{Want}
use Rattle.al_parse_expr.specs.declared.operand.Want.TheVariants as want
use Rattle.al_parse_expr.proofs.Follow.{FollowPost}

postfix_no_access : (kd : TokenKind) (op : PostfixOp) → postfix_operator kd ≡ Some op → access kd ≡ None
postfix_no_access k.PlusPlus op h = refl
postfix_no_access k.MinusMinus op h = refl
postfix_no_access k.Question op h = refl
postfix_no_access _ op h = absurd (let f : ⊥ = cc in f)

module _ (leaves : Leaves) (types : List ℕ) (F n : ℕ) where
  abbrev pub S : Want → Parser Sized
  S = within leaves types F n

  -- ---- what is read whole by its first token

  pub step_number : (t : Token) (r : List Token) → t.kind ≡ k.Number → parse.unary leaves types F n S (t ∷ r) ≡ parse.post_from leaves types F n S F t.place (operand (e.Number t.place (leaves.number t)) 1) r
  unfolding parse.unary parse.post parse.prim kind same_kind take_if
  step_number t r h = rw h refl

  pub step_char : (t : Token) (r : List Token) → t.kind ≡ k.Char → parse.unary leaves types F n S (t ∷ r) ≡ parse.post_from leaves types F n S F t.place (operand (e.Char t.place (leaves.byte t)) 1) r
  unfolding parse.unary parse.post parse.prim kind same_kind take_if
  step_char t r h = rw h refl

  pub step_text : (t : Token) (r : List Token) → t.kind ≡ k.Text → parse.unary leaves types F n S (t ∷ r) ≡ parse.post_from leaves types F n S F t.place (operand (e.Text t.place (leaves.bytes t)) 1) r
  unfolding parse.unary parse.post parse.prim kind same_kind take_if
  step_text t r h = rw h refl

  pub step_nil : (t : Token) (r : List Token) → t.kind ≡ k.Nil → parse.unary leaves types F n S (t ∷ r) ≡ parse.post_from leaves types F n S F t.place (operand (e.Nil t.place) 1) r
  unfolding parse.unary parse.post parse.prim kind same_kind take_if
  step_nil t r h = rw h refl

  pub step_name : (t : Token) (r : List Token) → t.kind ≡ k.Name → known types t.name ≡ false → parse.unary leaves types F n S (t ∷ r) ≡ parse.post_from leaves types F n S F t.place (record { tree = e.Name t.place t.name; height = 1; called = 0 }) r
  unfolding parse.unary parse.post parse.prim kind same_kind take_if other_name sees_other_name name_number
  step_name t r h g = rw (h, g) refl

  -- ---- parentheses

  pub step_open : (o : Token) (ts : List Token) → o.kind ≡ k.LeftParen → nat_lt 0 n ≡ true → sees_type types ts ≡ false → parse.unary leaves types F n S (o ∷ ts) ≡ parse.opened leaves types F n S o ts
  unfolding parse.unary parse.parenthesis kind same_kind take_if
  step_open o ts oc room t = rw (oc, room, t) refl

  pub deep_open : (o : Token) (ts : List Token) → o.kind ≡ k.LeftParen → nat_lt 0 n ≡ false → parse.unary leaves types F n S (o ∷ ts) ≡ Err (Deep (length ts))
  unfolding parse.unary parse.parenthesis kind same_kind take_if
  deep_open o ts oc room = rw (oc, room) refl

  pub step_opened : (o c : Token) (ts r : List Token) (xs : Listed) → parse.listed leaves types F n S ts ≡ Ok (xs, c ∷ r) → c.kind ≡ k.RightParen
      → parse.opened leaves types F n S o ts ≡ parse.post_from leaves types F n S F o.place (operand (closed o.place xs).0 (closed o.place xs).1) r
  unfolding parse.opened kind same_kind take_if expect_if
  step_opened o c ts r xs h ec = rw (h, ec) refl

  -- ---- lists

  pub step_listed : (ts r : List Token) (x : Sized) → S want.Assignment ts ≡ Ok (x, r) → parse.listed leaves types F n S ts ≡ parse.more_from leaves types F n S F (x.0 ∷ []) x.1 r
  unfolding parse.listed
  step_listed ts r x h = rw h refl

  pub step_more : (m : ℕ) (t : Token) (v r : List Token) (xs : List Expr) (h : ℕ) (x : Expr) (i : ℕ) → t.kind ≡ k.Comma → S want.Assignment (v ++ r) ≡ Ok ((x, i), r)
      → parse.more_from leaves types F n S (suc m) xs h (t ∷ (v ++ r)) ≡ parse.more_from leaves types F n S m (xs ++ x ∷ []) (max h i) r
  unfolding parse.more_from kind same_kind take_if
  step_more m t v r xs h x i tc ih = rw (tc, ih) refl

  pub end_more : (m : ℕ) (r : List Token) (xs : List Expr) (h : ℕ) → same_kind (kind r) k.Comma ≡ false → parse.more_from leaves types F n S (suc m) xs h r ≡ Ok ((xs, h), r)
  unfolding parse.more_from
  end_more m r xs h f = rw f refl

  pub no_arguments : (c : Token) (r : List Token) → c.kind ≡ k.RightParen → parse.arguments leaves types F n S (c ∷ r) ≡ Ok (([], 0), c ∷ r)
  unfolding parse.arguments kind same_kind
  no_arguments c r h = rw h refl

  pub some_arguments : (ts r : List Token) (xs : Listed) → same_kind (kind ts) k.RightParen ≡ false → parse.listed leaves types F n S ts ≡ Ok (xs, r) → parse.arguments leaves types F n S ts ≡ Ok (xs, r)
  unfolding parse.arguments
  some_arguments ts r xs f h = rw (f, h) refl

  -- ---- what stands behind an operand

  pub step_index : (m : ℕ) (at : Place) (o c : Token) (v r : List Token) (x : Operand) (y : Expr) (i : ℕ) → o.kind ≡ k.LeftBracket → c.kind ≡ k.RightBracket → nat_le x.height n ≡ true → S want.Expression (v ++ c ∷ r) ≡ Ok ((y, i), c ∷ r)
      → parse.post_from leaves types F n S (suc m) at x (o ∷ (v ++ c ∷ r)) ≡ parse.post_from leaves types F n S m at (operand (e.Index at x.tree y) (max x.height i + 1)) r
  unfolding parse.post_from parse.index kind same_kind take_if expect_if
  step_index m at o c v r x y i oc ec room ih = rw (oc, room, ih, ec) refl

  pub step_member : (m : ℕ) (at : Place) (t s : Token) (r : List Token) (x : Operand) (by : Access) → access t.kind ≡ Some by → nat_le x.height n ≡ true → s.kind ≡ k.Name → known types s.name ≡ false
      → parse.post_from leaves types F n S (suc m) at x (t ∷ s ∷ r) ≡ parse.post_from leaves types F n S m at (record { tree = e.Member at x.tree by (name_at s); height = x.height + 1; called = x.height }) r
  unfolding parse.post_from parse.member kind same_kind take_if other_name sees_other_name name_number
  step_member m at t s r x by tc room c d = rw (tc, room, c, d) refl

  pub step_call : (m : ℕ) (at : Place) (o c : Token) (v r : List Token) (x : Operand) (ys : List Expr) (i : ℕ) → o.kind ≡ k.LeftParen → c.kind ≡ k.RightParen → nat_le x.called n ≡ true → parse.arguments leaves types F n S (v ++ c ∷ r) ≡ Ok ((ys, i), c ∷ r)
      → parse.post_from leaves types F n S (suc m) at x (o ∷ (v ++ c ∷ r)) ≡ parse.post_from leaves types F n S m at (operand (e.Call at x.tree ys) (max x.called i + 1)) r
  unfolding parse.post_from parse.call kind same_kind take_if expect_if
  step_call m at o c v r x ys i oc ec room ih = rw (oc, room, ih, ec) refl

  pub step_postfix : (m : ℕ) (at : Place) (t : Token) (r : List Token) (x : Operand) (op : PostfixOp) → postfix_operator t.kind ≡ Some op → nat_le x.height n ≡ true
      → parse.post_from leaves types F n S (suc m) at x (t ∷ r) ≡ parse.post_from leaves types F n S m at (operand (e.Postfix at op x.tree) (x.height + 1)) r
  unfolding parse.post_from parse.postfix kind take_if
  step_postfix m at t r x op tc room = let a = postfix_no_access t.kind op tc in rw (a, tc, room) refl

  pub end_post : (m : ℕ) (at : Place) (r : List Token) (x : Operand) → FollowPost (kind r) → parse.post_from leaves types F n S (suc m) at x r ≡ Ok ((x.tree, x.height), r)
  unfolding parse.post_from
  end_post m at r x f = rw (f.no_access, f.no_postfix, f.no_bracket, f.no_paren) refl

  -- ---- unary expressions

  pub step_prefix : (t : Token) (op : UnaryOp) (ts r : List Token) (x : Sized) → prefix_operator t.kind ≡ Some op → nat_lt 0 n ≡ true → S (want.Binary 0) ts ≡ Ok (x, r) → parse.unary leaves types F n S (t ∷ ts) ≡ Ok ((e.Unary t.place op x.0, x.1 + 1), r)
  unfolding parse.unary parse.prefixed kind take_if
  step_prefix t op ts r x tc room ih = rw (tc, room, ih) refl

  pub step_cast : (o c : Token) (ts r1 r : List Token) (x : TypeTree) (h : ℕ) (y : Sized) → o.kind ≡ k.LeftParen → c.kind ≡ k.RightParen → nat_lt 0 n ≡ true → sees_type types ts ≡ true
      → starred_within leaves types F n ts ≡ Ok ((x, h), c ∷ r1) → S (want.Binary 0) r1 ≡ Ok (y, r) → parse.unary leaves types F n S (o ∷ ts) ≡ Ok ((e.Cast o.place x y.0, max h y.1 + 1), r)
  unfolding parse.unary parse.parenthesis parse.cast kind same_kind take_if expect_if
  step_cast o c ts r1 r x h y oc ec room is tc ih = rw (oc, room, is, tc, ec, ih) refl

  pub step_size_type : (t o c : Token) (ts r : List Token) (x : TypeTree) (h : ℕ) → t.kind ≡ k.Sizeof → o.kind ≡ k.LeftParen → c.kind ≡ k.RightParen → sees_type types ts ≡ true
      → starred_within leaves types F n ts ≡ Ok ((x, h), c ∷ r) → parse.unary leaves types F n S (t ∷ o ∷ ts) ≡ Ok ((e.SizeofType t.place x, h + 1), r)
  unfolding parse.unary parse.size parse.size_inside parse.size_of_type kind same_kind take_if expect_if
  step_size_type t o c ts r x h tc oc ec is e1 = rw (tc, oc, is, e1, ec) refl

  size_after : (t : Token) (ts : List Token) → t.kind ≡ k.Sizeof → same_kind (kind ts) k.LeftParen ≡ false → parse.size leaves types F n S (t ∷ ts) ≡ parse.size_of_value leaves types F n S t.place (want.Binary 0) ts
  unfolding parse.size take_if
  size_after t ts tc np = rw np refl

  size_unary : (t : Token) (ts : List Token) → t.kind ≡ k.Sizeof → parse.unary leaves types F n S (t ∷ ts) ≡ parse.size leaves types F n S (t ∷ ts)
  unfolding parse.unary kind same_kind
  size_unary t ts tc = rw tc refl

  size_value : (at : Place) (ts r : List Token) (x : Sized) → S (want.Binary 0) ts ≡ Ok (x, r) → parse.size_of_value leaves types F n S at (want.Binary 0) ts ≡ Ok ((e.SizeofValue at x.0, x.1 + 1), r)
  unfolding parse.size_of_value
  size_value at ts r x h = rw h refl

  pub step_size_value : (t : Token) (ts r : List Token) (x : Sized) → t.kind ≡ k.Sizeof → same_kind (kind ts) k.LeftParen ≡ false → S (want.Binary 0) ts ≡ Ok (x, r) → parse.unary leaves types F n S (t ∷ ts) ≡ Ok ((e.SizeofValue t.place x.0, x.1 + 1), r)
  step_size_value t ts r x tc np h = size_unary t ts tc ∙ size_after t ts tc np ∙ size_value t.place ts r x h

  paren_next : (o : Token) (ts : List Token) → o.kind ≡ k.LeftParen → same_kind (kind (o ∷ ts)) k.LeftParen ≡ true
  unfolding kind same_kind
  paren_next o ts oc = rw oc refl

  size_paren : (t : Token) (ts : List Token) → same_kind (kind ts) k.LeftParen ≡ true → parse.size leaves types F n S (t ∷ ts) ≡ parse.size_inside leaves types F n S t.place ts
  unfolding parse.size take_if
  size_paren t ts g = rw g refl

  inside_value : (at : Place) (o : Token) (ts r : List Token) (x : Sized) → sees_type types ts ≡ false → S (want.Opened o) ts ≡ Ok (x, r) → parse.size_inside leaves types F n S at (o ∷ ts) ≡ Ok ((e.SizeofValue at x.0, x.1 + 1), r)
  unfolding parse.size_inside parse.size_of_value take_if
  inside_value at o ts r x ns h = rw (ns, h) refl

  pub step_size_inside : (t o : Token) (ts r : List Token) (x : Sized) → t.kind ≡ k.Sizeof → o.kind ≡ k.LeftParen → sees_type types ts ≡ false
      → S (want.Opened o) ts ≡ Ok (x, r) → parse.unary leaves types F n S (t ∷ o ∷ ts) ≡ Ok ((e.SizeofValue t.place x.0, x.1 + 1), r)
  step_size_inside t o ts r x tc oc ns h = size_unary t (o ∷ ts) tc ∙ size_paren t (o ∷ ts) (paren_next o ts oc) ∙ inside_value t.place o ts r x ns h

  -- ---- binary operators

  pub step_chain : (m l : ℕ) (at : Place) (t : Token) (op : BinaryOp) (v r : List Token) (x : Sized) (y : Expr) (i : ℕ) → operator l t.kind ≡ Some op → nat_le x.1 n ≡ true → S (want.Binary l) (v ++ r) ≡ Ok ((y, i), r)
      → parse.chain_from leaves types F n S (suc m) l at x (t ∷ (v ++ r)) ≡ parse.chain_from leaves types F n S m l at (e.Binary at op x.0 y, max x.1 i + 1) r
  unfolding parse.chain_from kind take_if
  step_chain m l at t op v r x y i tc room ih = rw (tc, room, ih) refl

  pub end_chain : (m l : ℕ) (at : Place) (r : List Token) (x : Sized) → operator l (kind r) ≡ None → parse.chain_from leaves types F n S (suc m) l at x r ≡ Ok (x, r)
  unfolding parse.chain_from
  end_chain m l at r x h = rw h refl

  pub step_iterated : (at : Place) (t : Token) (v r : List Token) (x : Sized) (y : Expr) (i : ℕ) → t.kind ≡ k.ColonColon → nat_le x.1 n ≡ true → S (want.Binary 3) (v ++ r) ≡ Ok ((y, i), r)
      → parse.iterated leaves types F n S at x (t ∷ (v ++ r)) ≡ Ok ((e.Iterator at x.0 y, max x.1 i + 1), r)
  unfolding parse.iterated kind same_kind take_if
  step_iterated at t v r x y i tc room ih = rw (tc, room, ih) refl

  pub end_iterated : (at : Place) (r : List Token) (x : Sized) → same_kind (kind r) k.ColonColon ≡ false → parse.iterated leaves types F n S at x r ≡ Ok (x, r)
  unfolding parse.iterated
  end_iterated at r x h = rw h refl

  -- a level's operators, with so many turns left
  unfoldable pub rest_of : ℕ → ℕ → Place → Sized → Parser Sized
  rest_of left l at x = if l == 3 then parse.iterated leaves types F n S at x else parse.chain_from leaves types F n S left l at x

  pub rest_chain : (left l : ℕ) (at : Place) (x : Sized) (r : List Token) → (l == 3) ≡ false → rest_of left l at x r ≡ parse.chain_from leaves types F n S left l at x r
  unfolding rest_of
  rest_chain left l at x r h = rw h refl

  pub rest_iterated : (left l : ℕ) (at : Place) (x : Sized) (r : List Token) → (l == 3) ≡ true → rest_of left l at x r ≡ parse.iterated leaves types F n S at x r
  unfolding rest_of
  rest_iterated left l at x r h = rw h refl

  pub step_levels : (l : ℕ) (at : Place) (y x : Sized) (r1 r : List Token) → parse.levels leaves types F n S l at y r1 ≡ Ok (x, r) → parse.levels leaves types F n S (suc l) at y r1 ≡ rest_of F l at x r
  unfolding parse.levels parse.level_of rest_of
  step_levels l at y x r1 r h = rw h refl

  pub zero_levels : (at : Place) (x : Sized) (r : List Token) → parse.levels leaves types F n S 0 at x r ≡ Ok (x, r)
  unfolding parse.levels
  zero_levels at x r = refl

  -- ---- assignments and sequences

  pub step_plain : (ts r1 r : List Token) (y x : Sized) → parse.unary leaves types F n S ts ≡ Ok (y, r1) → assign_operator (kind r1) ≡ None → parse.levels leaves types F n S loosest (start ts) y r1 ≡ Ok (x, r) → parse.asg leaves types F n S ts ≡ Ok (x, r)
  unfolding parse.asg parse.asg_after
  step_plain ts r1 r y x a c b = rw (a, c, b) refl

  pub step_assign : (t : Token) (ts r1 r : List Token) (op : AssignOp) (x : Sized) (y : Sized) → parse.unary leaves types F n S ts ≡ Ok (x, t ∷ r1) → assign_operator t.kind ≡ Some op → nat_le x.1 n ≡ true → S want.Assignment r1 ≡ Ok (y, r)
      → parse.asg leaves types F n S ts ≡ Ok ((e.Assign (start ts) op x.0 y.0, max x.1 y.1 + 1), r)
  unfolding parse.asg parse.asg_after kind take_if
  step_assign t ts r1 r op x y a tc room b = rw (a, tc, room, b) refl

  pub within_binary : (l : ℕ) (ts r1 r : List Token) (y x : Sized) → parse.unary leaves types F n S ts ≡ Ok (y, r1) → parse.levels leaves types F n S l (start ts) y r1 ≡ Ok (x, r) → within leaves types F (suc n) (want.Binary l) ts ≡ Ok (x, r)
  unfolding within parse.binary
  within_binary l ts r1 r y x a b = rw (a, b) refl

  pub within_opened : (o : Token) (ts : List Token) → within leaves types F (suc n) (want.Opened o) ts ≡ parse.opened leaves types F n S o ts
  unfolding within
  within_opened o ts = refl

  pub within_asg : (ts : List Token) → within leaves types F (suc n) want.Assignment ts ≡ parse.asg leaves types F n S ts
  unfolding within
  within_asg ts = refl

  pub within_only : (ts r : List Token) (x : Sized) → parse.asg leaves types F n S ts ≡ Ok (x, r) → same_kind (kind r) k.Comma ≡ false → within leaves types F (suc n) want.Expression ts ≡ Ok (x, r)
  unfolding within parse.expr_at parse.expr_after
  within_only ts r x a c = rw (a, c) refl

  pub within_sequence : (ts r1 r : List Token) (x : Sized) (xs : Listed) → parse.asg leaves types F n S ts ≡ Ok (x, r1) → same_kind (kind r1) k.Comma ≡ true → nat_le x.1 n ≡ true → parse.more_from leaves types F n S F (x.0 ∷ []) x.1 r1 ≡ Ok (xs, r)
      → within leaves types F (suc n) want.Expression ts ≡ Ok ((e.Sequence (start ts) xs.0, xs.1 + 1), r)
  unfolding within parse.expr_at parse.expr_after parse.sequence
  within_sequence ts r1 r x xs a c room b = rw (a, c, room, b) refl
