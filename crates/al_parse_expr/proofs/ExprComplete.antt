-- What has a tree is parsed to it, where there is room for it.
use Rattle.std.proofs.Common.{◌≡◌, ℕ, zero, suc, pred, ◌+◌, ◌<◌, ◌≤◌, ◌==◌, max, nat_lt, nat_le, Bool, true, false, List, [], ◌∷◌, ◌++◌, length, Option, Some, None, Ok, Err, ◌⊎◌, inl, inr, refl, sym, ap, ap₂, ◌∙◌, subst, arith, append_assoc, append-nil, length-append}
use Rattle.std.proofs.lemmas.Grind.{common_steps}
use Rattle.al_base.specs.declared.place.Place.{Place}
use Rattle.al_lex.specs.declared.kind.TokenKind.{TokenKind}
use Rattle.al_lex.specs.declared.kind.TokenKind.TheVariants as k
use Rattle.al_lex.specs.declared.token.Token.{Token}
use Rattle.al_tree.specs.Words.{start, is_name, is_left_paren, operator, assign_operator}
use Rattle.al_tree.specs.Types.{Leaves, known, name_at, other_name, IsStarred}
use Rattle.al_tree.specs.Expressions.{loosest, begins_cast, ends_in_name, IsPrim, number, char, text, nil, name, paren, tuple, IsPost, prim, index, member, call, postfix, IsCallee, called_name, called_member, called_value, IsArguments, no_arguments, arguments, IsUnary, post, prefix, cast, sizeof_type, sizeof_value, IsBinary, unary, tighter, binary, iterator, IsAsg, value, assign, IsAsgs, one, more, IsExpr, only, sequence}
use Rattle.al_tree.specs.Reading.{Outcome, kind, same_kind}
use Rattle.al_tree.specs.Parts.{Ends}
use Rattle.al_tree.specs.declared.cursor.ParseError.TheVariants.{Deep}
use Rattle.al_tree.specs.declared.type_tree.TypeTree.{TypeTree}
use Rattle.al_tree.specs.declared.expression.Expr.{Expr}
use Rattle.al_tree.specs.declared.expression.Expr.TheVariants as e
use Rattle.al_tree.proofs.Law.{some_pred, start_of}
use Rattle.al_parse_type.specs.Parse.{sees_type}
use Rattle.al_parse_type.proofs.BoundLaw.{kind_is}
use Rattle.al_parse_type.proofs.BoundComplete.{less_pred, tail_short, rest_short, enclosed, nat_lt_is, kind_of}
use Rattle.al_parse_type.specs.Within.{starred_within}
use Rattle.al_parse_type.proofs.BaseWhole.{starred_c, starred_word}
use Rattle.al_parse_expr.specs.Parse as parse
use Rattle.al_parse_expr.specs.Parse.{Sized, Listed, operand, closed, within}
use Rattle.al_parse_expr.specs.declared.operand.Operand.{Operand}
use Rattle.al_parse_expr.specs.declared.operand.Want.{Want}
use Rattle.al_parse_expr.specs.declared.operand.Want.TheVariants as want
use Rattle.al_parse_expr.proofs.Begins.{ends_last, cast_sees, no_paren_no_cast, asg_starts, asgs_starts, post_no_cast, post_long, callee_long, unary_long, binary_long, asg_long, asgs_some, post_high, unary_high, binary_high, asg_high, lifted}
use Rattle.al_parse_expr.proofs.ExprLaw.{closed_many}
use Rattle.al_parse_expr.proofs.Follow.{FollowPost, Follow, FollowAsg, FollowExpr, before_paren, before_bracket, before_comma, before_colons, before_operator, operator_level, before_assign, lower_follow, ends_via, GUnary, StopUnary, Stop, Under, StopAsg, StopExpr, under, unary_stop, post_stop, tighter_stop, right_stop, iterator_stop, value_stop, plain_stop, assign_stop, only_stop, comma_stop, last_stop, prefix_stop, level_ends, colons_end}
use Rattle.al_parse_expr.proofs.ExprSteps as step

pub nat_le_is : (h n : ℕ) → h ≤ n → nat_le h n ≡ true
nat_le_is h n p = grind (arith, common_steps)

pub pred_le : (h n : ℕ) → 0 < h → h ≤ n → h ≤ pred n + 1
pred_le h zero p q = absurd (omega arith)
pred_le h (suc n) p q = omega arith

equal_is : (a b : ℕ) → (a == b) ≡ true → a ≡ b
equal_is a b h = grind arith

pub at_kind : (P : TokenKind → Type 0) (t : Token) (ts : List Token) (kd : TokenKind) → t.kind ≡ kd → P kd → P (kind (t ∷ ts))
unfolding kind
at_kind P t ts kd h p = subst P (sym h) p

closed_name : (u : List Token) (t s : Token) → s.kind ≡ k.Name → ends_in_name (u ++ t ∷ s ∷ []) ≡ true
closed_name u t s h = ap ends_in_name (sym (append_assoc u (t ∷ []) (s ∷ []))) ∙ ends_last (u ++ t ∷ []) s ∙ ap is_name h

pub not_both : (b : Bool) → b ≡ true → b ≡ false → ⊥
not_both b t f = let e : true ≡ false = sym t ∙ f in let x : ⊥ = cc in x

two_tokens : (types : List ℕ) (o : Token) (u : List Token) (c : Token) (v r : List Token) → begins_cast types ((o ∷ (u ++ c ∷ v)) ++ r) ≡ begins_cast types (o ∷ (u ++ c ∷ v))
two_tokens types o [] c v r = refl
two_tokens types o (t ∷ u) c v r = refl

before_close : (t : Token) (ts : List Token) → t.kind ≡ k.RightParen → (same_kind (kind (t ∷ ts)) k.Comma ≡ false) × (same_kind (kind (t ∷ ts)) k.LeftBracket ≡ false) × (same_kind (kind (t ∷ ts)) k.Star ≡ false)
unfolding kind same_kind
before_close t ts h = (rw h refl, rw h refl, rw h refl)

no_paren_left : same_kind (kind []) k.LeftParen ≡ true → ⊥
unfolding kind same_kind
no_paren_left h = cc

first_paren : (o : Token) (ts : List Token) → same_kind (kind (o ∷ ts)) k.LeftParen ≡ true → o.kind ≡ k.LeftParen
unfolding kind
first_paren o ts h = kind_is o.kind k.LeftParen h

sees_comma : (t : Token) (ts : List Token) → t.kind ≡ k.Comma → same_kind (kind (t ∷ ts)) k.Comma ≡ true
unfolding kind same_kind
sees_comma t ts h = rw h refl

operator_plain : (t : Token) (ts : List Token) → assign_operator t.kind ≡ None → assign_operator (kind (t ∷ ts)) ≡ None
unfolding kind
operator_plain t ts h = h

colons_plain : (t : Token) → t.kind ≡ k.ColonColon → assign_operator t.kind ≡ None
colons_plain t h = ap assign_operator h

module _ (leaves : Leaves) (types : List ℕ) (F : ℕ) where
  abbrev pub S : ℕ → Want → Rattle.al_tree.specs.Reading.Parser Sized
  S n = within leaves types F n

  -- loops that go on after x, with turns for what is left
  record AfterPost (n : ℕ) (u : List Token) (x : Expr) (h : ℕ) (r : List Token) : Type 0 where
    called : ℕ
    left : ℕ
    enough : length r < left
    is : parse.unary leaves types F n (S n) (u ++ r) ≡ parse.post_from leaves types F n (S n) left (start u) (record { tree = x; height = h; called = called }) r
    value : ends_in_name u ≡ false → called ≡ h

  record AfterCallee (n : ℕ) (u : List Token) (x : Expr) (called : ℕ) (r : List Token) : Type 0 where
    height : ℕ
    left : ℕ
    enough : length r < left
    is : parse.unary leaves types F n (S n) (u ++ r) ≡ parse.post_from leaves types F n (S n) left (start u) (record { tree = x; height = height; called = called }) r

  -- a list of expressions: the first one, and then the loop
  record FirstAsg (n : ℕ) (u : List Token) (xs : List Expr) (h : ℕ) (r : List Token) : Type 0 where
    front : List Token
    back : List Token
    first : Expr
    low : ℕ
    lower : low ≤ h
    cut : u ≡ front ++ back
    inside : S n want.Assignment (front ++ (back ++ r)) ≡ Ok ((first, low), back ++ r)
    outside : parse.asg leaves types F n (S n) (front ++ (back ++ r)) ≡ Ok ((first, low), back ++ r)
    shape : (same_kind (kind (back ++ r)) k.Comma ≡ true) ⊎ (back ≡ [])
    left : ℕ
    enough : length r < left
    loop : parse.more_from leaves types F n (S n) F (first ∷ []) low (back ++ r) ≡ parse.more_from leaves types F n (S n) left xs h r

  -- the same of two expressions or more
  record ManyAsgs (n : ℕ) (u : List Token) (xs : List Expr) (h : ℕ) (r : List Token) : Type 0 where
    list : FirstAsg n u xs h r
    comma : same_kind (kind (list.back ++ r)) k.Comma ≡ true

  -- a unary expression that begins the list, or an operator that is no assignment behind it
  abbrev Shape : List Token → Sized → List Token → List Token → Type 0
  Shape u first from r = (IsUnary leaves types u first.0 first.1 × (from ≡ r)) ⊎ (assign_operator (kind from) ≡ None)

  record Whole (n l : ℕ) (u : List Token) (x : Sized) (r : List Token) : Type 0 where
    first : Sized
    from : List Token
    unary_is : parse.unary leaves types F n (S n) (u ++ r) ≡ Ok (first, from)
    shape : Shape u first from r
    is : parse.levels leaves types F n (S n) l (start u) first from ≡ Ok (x, r)

  record Loop (n l : ℕ) (u : List Token) (x : Sized) (r : List Token) : Type 0 where
    first : Sized
    from : List Token
    left : ℕ
    enough : length r < left
    unary_is : parse.unary leaves types F n (S n) (u ++ r) ≡ Ok (first, from)
    shape : Shape u first from r
    is : parse.levels leaves types F n (S n) (suc l) (start u) first from ≡ step.rest_of leaves types F n left l (start u) x r
    tight : (l == 3) ≡ true → IsBinary leaves types l u x.0 x.1

  -- behind `::` and its right side the level is done
  record Done (n l : ℕ) (u : List Token) (x : Sized) (r : List Token) : Type 0 where
    third : (l == 3) ≡ true
    whole : Whole n (suc l) u x r

  abbrev AtLevel : ℕ → ℕ → List Token → Sized → List Token → Type 0
  AtLevel n zero u x r = Whole n 0 u x r
  AtLevel n (suc l) u x r = Loop n l u x r ⊎ Done n l u x r

  no_colons : (l : ℕ) (u : List Token) (x : Sized) (r : List Token) → (l == 3) ≡ true → IsBinary leaves types l u x.0 x.1 → Stop leaves types (suc l) u r → same_kind (kind r) k.ColonColon ≡ false
  no_colons l u x r t d (inl f) = f.colons (let z : l ≡ 3 = equal_is l 3 t in omega (arith, z))
  no_colons l u x r t d (inr ends) =
      let z : l ≡ 3 = equal_is l 3 t in
      colons_end leaves types (subst (λ m. IsBinary leaves types m u x.0 x.1) z d) r (subst (λ m. Ends (Rattle.al_parse_expr.proofs.Follow.GBinary leaves types (suc m)) u r) z ends)

  no_operator : (l : ℕ) (u : List Token) (x : Sized) (r : List Token) → IsBinary leaves types (suc l) u x.0 x.1 → Stop leaves types (suc l) u r → operator l (kind r) ≡ None
  no_operator l u x r d (inl f) = f.operators l (omega arith)
  no_operator l u x r d (inr ends) = level_ends leaves types d r ends

  whole : (n l : ℕ) (u : List Token) (x : Sized) (r : List Token) → IsBinary leaves types l u x.0 x.1 → AtLevel n l u x r → Stop leaves types l u r → Whole n l u x r
  whole n zero u x r d a f = a
  whole n (suc l) u x r d (inr a) f = a.whole
  whole n (suc l) u x r d (inl a) f = go (l == 3) refl
    where
      go : (b : Bool) → (l == 3) ≡ b → Whole n (suc l) u x r
      go true t = record {
        first = a.first;
        from = a.from;
        unary_is = a.unary_is;
        shape = a.shape;
        is = a.is ∙ step.rest_iterated leaves types F n a.left l (start u) x r t ∙ step.end_iterated leaves types F n (start u) r x (no_colons l u x r t (a.tight t) f);
      }
      go false t = record {
        first = a.first;
        from = a.from;
        unary_is = a.unary_is;
        shape = a.shape;
        is = a.is ∙ step.rest_chain leaves types F n a.left l (start u) x r t
            ∙ ap (λ m. parse.chain_from leaves types F n (S n) m l (start u) x r) (some_pred a.left (length r) a.enough)
            ∙ step.end_chain leaves types F n (pred a.left) l (start u) r x (no_operator l u x r d f);
      }

  -- an expression that is parsed as a unary one is one behind a prefix operator too
  pub as_sub : (n : ℕ) (x : Sized) (ts r : List Token) → 0 < n → parse.unary leaves types F (pred n) (S (pred n)) ts ≡ Ok (x, r) → S n (want.Binary 0) ts ≡ Ok (x, r)
  as_sub n x ts r p h = ap (λ m. S m (want.Binary 0) ts) (some_pred n 0 p) ∙ step.within_binary leaves types F (pred n) 0 ts r r x x h (step.zero_levels leaves types F (pred n) (start ts) x r)

  -- and what begins with a parenthesis, behind it
  pub opened_sub : (m : ℕ) (o : Token) (ts r : List Token) (x : Sized) → o.kind ≡ k.LeftParen → sees_type types ts ≡ false → parse.unary leaves types F m (S m) (o ∷ ts) ≡ Ok (x, r) → S (suc m) (want.Opened o) ts ≡ Ok (x, r)
  opened_sub m o ts r x oc ns h = go (nat_lt 0 m) refl
    where
      go : (b : Bool) → nat_lt 0 m ≡ b → S (suc m) (want.Opened o) ts ≡ Ok (x, r)
      go true room = step.within_opened leaves types F m o ts ∙ sym (step.step_open leaves types F m o ts oc room ns) ∙ h
      go false room =
          let both : ◌≡◌ {A = Outcome Sized} (Err (Deep (length ts))) (Ok (x, r)) = sym (step.deep_open leaves types F m o ts oc room) ∙ h in
          absurd (let f : ⊥ = cc in f)

  -- ---- types in casts

  pub cast_c : {takes : Bool} {u : List Token} {x : TypeTree} {h : ℕ} → IsStarred leaves types false takes u x h → (n : ℕ) → h ≤ n → (c : Token) (r : List Token) → length (u ++ (c ∷ r)) < F → c.kind ≡ k.RightParen → starred_within leaves types F n (u ++ (c ∷ r)) ≡ Ok ((x, h), c ∷ r)
  cast_c d n hn c r s ec = let f = before_close c r ec in starred_c leaves types F d n hn (c ∷ r) s f.1 f.2

  -- ---- the operand of `sizeof`

  unary_no_cast : {u : List Token} {x : Expr} {h : ℕ} → IsUnary leaves types u x h → begins_cast types u ≡ false → (r : List Token) → begins_cast types (u ++ r) ≡ false
  unary_no_cast (post d) n r = post_no_cast leaves types d r
  unary_no_cast (prefix t {u = u} {op = op} a d) n r = no_paren_no_cast leaves types t (u ++ r) (no_paren t.kind op a)
    where
      no_paren : (kd : TokenKind) (op : Rattle.al_tree.specs.declared.expression.UnaryOp.UnaryOp) → Rattle.al_tree.specs.Words.prefix_operator kd ≡ Some op → is_left_paren kd ≡ false
      no_paren k.LeftParen op h = absurd (let f : ⊥ = cc in f)
      no_paren _ op h = refl
  unary_no_cast (cast o c {u = u} {v = v} oc a ec d) n r = two_tokens types o u c v r ∙ n
  unary_no_cast (sizeof_type t o c {u = u} tc oc a ec) n r = no_paren_no_cast leaves types t ((o ∷ (u ++ c ∷ [])) ++ r) (ap is_left_paren tc)
  unary_no_cast (sizeof_value t {u = u} tc d m) n r = no_paren_no_cast leaves types t (u ++ r) (ap is_left_paren tc)

  size_stop : {u : List Token} {x : Expr} {h : ℕ} (t : Token) (r : List Token) → t.kind ≡ k.Sizeof → IsUnary leaves types u x h → begins_cast types u ≡ false → StopUnary leaves types (t ∷ u) r → StopUnary leaves types u r
  size_stop t r tc d n (inl f) = inl f
  size_stop {u} t r tc d n (inr ends) = inr (ends_via (GUnary leaves types) (GUnary leaves types) u (t ∷ u) r (λ s rest y i b. record { tree = e.SizeofValue t.place y; height = i + 1; is = sizeof_value t tc b (unary_no_cast d n (s ∷ rest)) }) ends)

  cast_stop : {takes : Bool} {u : List Token} {x : TypeTree} {h : ℕ} (o c : Token) (v r : List Token) → o.kind ≡ k.LeftParen → IsStarred leaves types false takes u x h → c.kind ≡ k.RightParen → StopUnary leaves types (o ∷ (u ++ c ∷ v)) r → StopUnary leaves types v r
  cast_stop o c v r oc a ec (inl f) = inl f
  cast_stop {u = u} {x = x} {h = h} o c v r oc a ec (inr ends) = inr (ends_via (GUnary leaves types) (GUnary leaves types) v (o ∷ (u ++ c ∷ v)) r (λ s rest y i b. record {
    tree = e.Cast o.place x y;
    height = max h i + 1;
    is = subst (λ q. IsUnary leaves types (o ∷ q) (e.Cast o.place x y) (max h i + 1)) (sym (append_assoc u (c ∷ v) (s ∷ rest))) (cast o c oc a ec b);
  }) ends)

  -- ---- lists whose first expression is known

  whole_list : (n : ℕ) {u : List Token} {xs : List Expr} {h : ℕ} {r : List Token} → (q : FirstAsg n u xs h r) → same_kind (kind r) k.Comma ≡ false → parse.more_from leaves types F n (S n) F (q.first ∷ []) q.low (q.back ++ r) ≡ Ok ((xs, h), r)
  whole_list n {xs = xs} {h = h} {r = r} q f = q.loop ∙ ap (λ m. parse.more_from leaves types F n (S n) m xs h r) (some_pred q.left (length r) q.enough) ∙ step.end_more leaves types F n (pred q.left) r xs h f

  -- the end of a postfix expression's loop
  finish_post : (n : ℕ) {u : List Token} {x : Expr} {h : ℕ} {r : List Token} → AfterPost n u x h r → FollowPost (kind r) → parse.unary leaves types F n (S n) (u ++ r) ≡ Ok ((x, h), r)
  finish_post n {u} {x} {h} {r} q f = q.is ∙ ap (λ m. parse.post_from leaves types F n (S n) m (start u) (record { tree = x; height = h; called = q.called }) r) (some_pred q.left (length r) q.enough)
      ∙ step.end_post leaves types F n (pred q.left) (start u) r (record { tree = x; height = h; called = q.called }) f

  -- a loop's part more, with its place
  next_post : (n : ℕ) (u w : List Token) (m left : ℕ) (x y : Operand) (ts r : List Token) → 0 < length u → (u ++ w) ++ r ≡ u ++ ts → parse.unary leaves types F n (S n) (u ++ ts) ≡ parse.post_from leaves types F n (S n) m (start u) x ts → length ts < m
      → parse.post_from leaves types F n (S n) (suc (pred m)) (start u) x ts ≡ parse.post_from leaves types F n (S n) left (start u) y r
      → parse.unary leaves types F n (S n) ((u ++ w) ++ r) ≡ parse.post_from leaves types F n (S n) left (start (u ++ w)) y r
  next_post n u w m left x y ts r some cut is enough s =
      ap (parse.unary leaves types F n (S n)) cut ∙ is ∙ ap (λ i. parse.post_from leaves types F n (S n) i (start u) x ts) (some_pred m (length ts) enough) ∙ s
      ∙ ap (λ p. parse.post_from leaves types F n (S n) left p y r) (sym (start_of u w some))

  first_one : (n : ℕ) (u r : List Token) (x : Expr) (h : ℕ) → length (u ++ r) < F → S n want.Assignment (u ++ r) ≡ Ok ((x, h), r) → parse.asg leaves types F n (S n) (u ++ r) ≡ Ok ((x, h), r) → FirstAsg n u (x ∷ []) h r
  first_one n u r x h s inner outer = record { front = u; back = []; first = x; low = h; lower = omega arith; cut = sym (append-nil u); inside = inner; outside = outer; shape = inr refl; left = F; enough = rest_short u r F s; loop = refl }

  first_more : (n : ℕ) (t : Token) (u v r : List Token) (xs : List Expr) (x : Expr) (h i : ℕ) → t.kind ≡ k.Comma → S n want.Assignment (v ++ r) ≡ Ok ((x, i), r) → FirstAsg n u xs h (t ∷ (v ++ r)) → ManyAsgs n (u ++ t ∷ v) (xs ++ x ∷ []) (max h i) r
  first_more n t u v r xs x h i tc ih q =
      let back_e : (q.back ++ t ∷ v) ++ r ≡ q.back ++ (t ∷ (v ++ r)) = append_assoc q.back (t ∷ v) r in
      let next = ap (λ l. same_kind (kind l) k.Comma) back_e ∙ comma q.shape in
      record {
        comma = next;
        list = record {
          front = q.front;
          back = q.back ++ t ∷ v;
          first = q.first;
          low = q.low;
          lower = omega (arith, q.lower);
          cut = ap (λ m. m ++ t ∷ v) q.cut ∙ append_assoc q.front q.back (t ∷ v);
          inside = subst (λ l. S n want.Assignment (q.front ++ l) ≡ Ok ((q.first, q.low), l)) (sym back_e) q.inside;
          outside = subst (λ l. parse.asg leaves types F n (S n) (q.front ++ l) ≡ Ok ((q.first, q.low), l)) (sym back_e) q.outside;
          shape = inl next;
          left = pred q.left;
          enough = less_pred (length r) q.left (omega (arith, q.enough, length-append v r));
          loop = ap (parse.more_from leaves types F n (S n) F (q.first ∷ []) q.low) back_e ∙ q.loop
              ∙ ap (λ m. parse.more_from leaves types F n (S n) m xs h (t ∷ (v ++ r))) (some_pred q.left (length (t ∷ (v ++ r))) q.enough)
              ∙ step.step_more leaves types F n (pred q.left) t v r xs h x i tc ih;
        };
      }
    where
      comma : {b : List Token} → (same_kind (kind (b ++ (t ∷ (v ++ r)))) k.Comma ≡ true) ⊎ (b ≡ []) → same_kind (kind (b ++ (t ∷ (v ++ r)))) k.Comma ≡ true
      comma (inl c) = c
      comma (inr c) = subst (λ l. same_kind (kind (l ++ (t ∷ (v ++ r)))) k.Comma ≡ true) (sym c) (sees_comma t (v ++ r) tc)

  -- a list that a parenthesis closes
  listed_of : (n : ℕ) (c : Token) (u r : List Token) (xs : List Expr) (h : ℕ) → c.kind ≡ k.RightParen → FirstAsg n u xs h (c ∷ r) → parse.listed leaves types F n (S n) (u ++ (c ∷ r)) ≡ Ok ((xs, h), c ∷ r)
  listed_of n c u r xs h ec q =
      let cut : u ++ (c ∷ r) ≡ q.front ++ (q.back ++ (c ∷ r)) = ap (λ m. m ++ (c ∷ r)) q.cut ∙ append_assoc q.front q.back (c ∷ r) in
      ap (parse.listed leaves types F n (S n)) cut
      ∙ step.step_listed leaves types F n (q.front ++ (q.back ++ (c ∷ r))) (q.back ++ (c ∷ r)) (q.first, q.low) q.inside
      ∙ whole_list n q (before_close c r ec).0

  closed_of : (n : ℕ) (o c : Token) (u r : List Token) (xs : List Expr) (h : ℕ) → o.kind ≡ k.LeftParen → c.kind ≡ k.RightParen → 0 < n → sees_type types (u ++ (c ∷ r)) ≡ false → FirstAsg n u xs h (c ∷ r)
      → parse.unary leaves types F n (S n) (o ∷ (u ++ (c ∷ r))) ≡ parse.post_from leaves types F n (S n) F o.place (operand (closed o.place (xs, h)).0 (closed o.place (xs, h)).1) r
  closed_of n o c u r xs h oc ec room ns q =
      step.step_open leaves types F n o (u ++ (c ∷ r)) oc (nat_lt_is 0 n room) ns
      ∙ step.step_opened leaves types F n o c (u ++ (c ∷ r)) r (xs, h) (listed_of n c u r xs h ec q) ec

  sequence_of : (n : ℕ) (w r : List Token) (xs : List Expr) (h : ℕ) → h ≤ n → 0 < length w → ManyAsgs n w xs h r → same_kind (kind r) k.Comma ≡ false → S (suc n) want.Expression (w ++ r) ≡ Ok ((e.Sequence (start w) xs, h + 1), r)
  sequence_of n w r xs h hn some m f =
      let q = m.list in
      let cut : w ++ r ≡ q.front ++ (q.back ++ r) = ap (λ l. l ++ r) q.cut ∙ append_assoc q.front q.back r in
      ap (S (suc n) want.Expression) cut
      ∙ step.within_sequence leaves types F n (q.front ++ (q.back ++ r)) (q.back ++ r) r (q.first, q.low) (xs, h) q.outside m.comma (nat_le_is q.low n (omega (arith, q.lower))) (whole_list n q f)
      ∙ ap (λ p. Ok ((e.Sequence p xs, h + 1), r)) (ap start (sym cut) ∙ start_of w r some)

  pub sub_asg : (n : ℕ) (ts r : List Token) (x : Sized) → 0 < n → parse.asg leaves types F (pred n) (S (pred n)) ts ≡ Ok (x, r) → S n want.Assignment ts ≡ Ok (x, r)
  sub_asg n ts r x some h = ap (λ m. S m want.Assignment ts) (some_pred n 0 some) ∙ step.within_asg leaves types F (pred n) ts ∙ h

  pub asgs_high : {u : List Token} {xs : List Expr} {h : ℕ} → IsAsgs leaves types u xs h → 0 < h
  asgs_high (one d) = asg_high leaves types d
  asgs_high (more t {h = h} {i = i} l c d) = let z = asg_high leaves types d in omega (arith, z)

  pub asgs_long : {u : List Token} {xs : List Expr} {h : ℕ} → IsAsgs leaves types u xs h → 0 < length u
  asgs_long (one d) = asg_long leaves types d
  asgs_long (more t {u = u} {v = v} l c d) = omega (arith, length-append u (t ∷ v))

  size_of : (t : Token) (ts r : List Token) (x : Sized) (n : ℕ) → t.kind ≡ k.Sizeof → 0 < n → begins_cast types ts ≡ false → parse.unary leaves types F (pred n) (S (pred n)) ts ≡ Ok (x, r) → parse.unary leaves types F n (S n) (t ∷ ts) ≡ Ok ((e.SizeofValue t.place x.0, x.1 + 1), r)
  size_of t ts r x n tc some nc ih = go ts nc ih (same_kind (kind ts) k.LeftParen) refl
    where
      go : (ts : List Token) → begins_cast types ts ≡ false → parse.unary leaves types F (pred n) (S (pred n)) ts ≡ Ok (x, r) → (b : Bool) → same_kind (kind ts) k.LeftParen ≡ b → parse.unary leaves types F n (S n) (t ∷ ts) ≡ Ok ((e.SizeofValue t.place x.0, x.1 + 1), r)
      go ts nc ih false g = step.step_size_value leaves types F n t ts r x tc g (as_sub n x ts r some ih)
      go [] nc ih true g = absurd (no_paren_left g)
      go (o ∷ ts) nc ih true g =
          let oc = first_paren o ts g in
          let ns : sees_type types ts ≡ false = sym (cast_sees leaves types o ts oc) ∙ nc in
          step.step_size_inside leaves types F n t o ts r x tc oc ns (ap (λ m. S m (want.Opened o) ts) (some_pred n 0 some) ∙ opened_sub (pred n) o ts r x oc ns ih)

  no_assign : {u : List Token} {first : Sized} (from r : List Token) → Shape u first from r → assign_operator (kind r) ≡ None → assign_operator (kind from) ≡ None
  no_assign from r (inl p) f = ap (λ l. assign_operator (kind l)) p.1 ∙ f
  no_assign from r (inr p) f = p

  -- an operator of the level, and its right side
  operated_c : (n l : ℕ) (t : Token) (u v r : List Token) (x : Sized) (y : Expr) (i : ℕ) (op : Rattle.al_tree.specs.declared.expression.BinaryOp.BinaryOp) → operator l t.kind ≡ Some op → (l == 3) ≡ false → assign_operator t.kind ≡ None → 0 < length u
      → (u ++ t ∷ v) ++ r ≡ u ++ (t ∷ (v ++ r)) → nat_le x.1 n ≡ true → S n (want.Binary l) (v ++ r) ≡ Ok ((y, i), r)
      → Loop n l u x (t ∷ (v ++ r)) ⊎ Done n l u x (t ∷ (v ++ r)) → Loop n l (u ++ t ∷ v) (e.Binary (start u) op x.0 y, max x.1 i + 1) r
  operated_c n l t u v r x y i op tc level plain some cut room ih (inr q) = absurd (not_both (l == 3) q.third level)
  operated_c n l t u v r x y i op tc level plain some cut room ih (inl q) = record {
    first = q.first;
    from = q.from;
    left = pred q.left;
    enough = less_pred (length r) q.left (omega (arith, q.enough, length-append v r));
    unary_is = ap (parse.unary leaves types F n (S n)) cut ∙ q.unary_is;
    shape = inr (no_assign q.from (t ∷ (v ++ r)) q.shape (operator_plain t (v ++ r) plain));
    is = ap (λ p. parse.levels leaves types F n (S n) (suc l) p q.first q.from) (start_of u (t ∷ v) some) ∙ q.is
        ∙ step.rest_chain leaves types F n q.left l (start u) x (t ∷ (v ++ r)) level
        ∙ ap (λ m. parse.chain_from leaves types F n (S n) m l (start u) x (t ∷ (v ++ r))) (some_pred q.left (length (t ∷ (v ++ r))) q.enough)
        ∙ step.step_chain leaves types F n (pred q.left) l (start u) t op v r x y i tc room ih
        ∙ sym (step.rest_chain leaves types F n (pred q.left) l (start u) (e.Binary (start u) op x.0 y, max x.1 i + 1) r level)
        ∙ ap (λ p. step.rest_of leaves types F n (pred q.left) l p (e.Binary (start u) op x.0 y, max x.1 i + 1) r) (sym (start_of u (t ∷ v) some));
    tight = λ b. absurd (not_both (l == 3) b level);
  }

  mutual
    prim_c : {u : List Token} {x : Expr} {h : ℕ} → IsPrim leaves types u x h → (n : ℕ) → h ≤ n + 1 → (r : List Token) → length (u ++ r) < F → AfterPost n u x h r
    prim_c (number t c) n hn r s = record { called = 1; left = F; enough = omega arith; is = step.step_number leaves types F n t r c; value = λ _. refl }
    prim_c (char t c) n hn r s = record { called = 1; left = F; enough = omega arith; is = step.step_char leaves types F n t r c; value = λ _. refl }
    prim_c (text t c) n hn r s = record { called = 1; left = F; enough = omega arith; is = step.step_text leaves types F n t r c; value = λ _. refl }
    prim_c (nil t c) n hn r s = record { called = 1; left = F; enough = omega arith; is = step.step_nil leaves types F n t r c; value = λ _. refl }
    prim_c (name t (other_name c d)) n hn r s = record { called = 0; left = F; enough = omega arith; is = step.step_name leaves types F n t r c d; value = λ f. absurd (not_both (is_name t.kind) (ap is_name c) f) }
    prim_c (paren o c {u = u} {x = x} {h = h} oc a ec) n hn r s =
        let cut : (o ∷ (u ++ c ∷ [])) ++ r ≡ o ∷ (u ++ (c ∷ r)) = ap (λ l. o ∷ l) (append_assoc u (c ∷ []) r) in
        let high = asg_high leaves types a in
        let some : 0 < n = omega (arith, high) in
        let short : length (u ++ (c ∷ r)) < F = omega (arith, ap length cut) in
        let follow = at_kind FollowAsg c r k.RightParen ec before_paren.asg in
        record {
          called = h + 1;
          left = F;
          enough = rest_short (o ∷ (u ++ c ∷ [])) r F s;
          is = ap (parse.unary leaves types F n (S n)) cut ∙ closed_of n o c u r (x ∷ []) h oc ec some (asg_starts leaves types a (c ∷ r)).no_type (first_one n u (c ∷ r) x h short (sub_asg n (u ++ (c ∷ r)) (c ∷ r) (x, h) some (asg_at_c a (pred n) (pred_le h n high (omega arith)) (c ∷ r) short (inl follow))) (asg_at_c a n (omega arith) (c ∷ r) short (inl follow)));
          value = λ _. refl;
        }
    prim_c (tuple o t c {u = u} {v = v} {xs = xs} {x = x} {h = h} {i = i} oc l tc a ec) n hn r s =
        let high = asg_high leaves types a in
        let some : 0 < n = omega (arith, high) in
        let shape : o ∷ (u ++ t ∷ (v ++ c ∷ [])) ≡ o ∷ ((u ++ t ∷ v) ++ c ∷ []) = ap (λ m. o ∷ m) (sym (append_assoc u (t ∷ v) (c ∷ []))) in
        let cut : (o ∷ (u ++ t ∷ (v ++ c ∷ []))) ++ r ≡ o ∷ ((u ++ t ∷ v) ++ (c ∷ r)) = ap (λ m. m ++ r) shape ∙ ap (λ m. o ∷ m) (append_assoc (u ++ t ∷ v) (c ∷ []) r) in
        let cut2 : (u ++ t ∷ v) ++ (c ∷ r) ≡ u ++ (t ∷ (v ++ (c ∷ r))) = append_assoc u (t ∷ v) (c ∷ r) in
        let s1 : length (u ++ (t ∷ (v ++ (c ∷ r)))) < F = omega (arith, ap length cut, ap length cut2) in
        let follow = at_kind FollowAsg c r k.RightParen ec before_paren.asg in
        let last = sub_asg n (v ++ (c ∷ r)) (c ∷ r) (x, i) some (asg_at_c a (pred n) (pred_le i n high (omega arith)) (c ∷ r) (tail_short u t (v ++ (c ∷ r)) F s1) (inl follow)) in
        record {
          called = max h i + 1;
          left = F;
          enough = rest_short (o ∷ (u ++ t ∷ (v ++ c ∷ []))) r F s;
          is = ap (parse.unary leaves types F n (S n)) cut ∙ closed_of n o c (u ++ t ∷ v) r (xs ++ x ∷ []) (max h i) oc ec some (ap (sees_type types) (append_assoc u (t ∷ v) (c ∷ r)) ∙ (asgs_starts leaves types l (t ∷ (v ++ (c ∷ r)))).no_type)
              (first_more n t u v (c ∷ r) xs x h i tc last (first_c l n (omega arith) (t ∷ (v ++ (c ∷ r))) s1 (at_kind FollowAsg t (v ++ (c ∷ r)) k.Comma tc before_comma))).list
              ∙ ap (λ (y : Sized). parse.post_from leaves types F n (S n) F o.place (operand y.0 y.1) r) (closed_many leaves types o.place xs x (max h i) (asgs_some leaves types l));
          value = λ _. refl;
        }

    post_c : {u : List Token} {x : Expr} {h : ℕ} → IsPost leaves types u x h → (n : ℕ) → h ≤ n + 1 → (r : List Token) → length (u ++ r) < F → AfterPost n u x h r
    post_c (prim d) n hn r s = prim_c d n hn r s
    post_c (index o c {u = u} {v = v} {x = x} {y = y} {h = h} {i = i} p oc a ec) n hn r s =
        let cut = enclosed u o v c r in
        let s1 : length (u ++ (o ∷ (v ++ (c ∷ r)))) < F = omega (arith, ap length cut) in
        let q = post_c p n (omega arith) (o ∷ (v ++ (c ∷ r))) s1 in
        let ih = expr_c a n (omega arith) (c ∷ r) (tail_short u o (v ++ (c ∷ r)) F s1) (inl (at_kind FollowExpr c r k.RightBracket ec before_bracket)) in
        record {
          called = max h i + 1;
          left = pred q.left;
          enough = less_pred (length r) q.left (omega (arith, q.enough, length-append v (c ∷ r)));
          is = next_post n u (o ∷ (v ++ c ∷ [])) q.left (pred q.left) (record { tree = x; height = h; called = q.called }) (operand (e.Index (start u) x y) (max h i + 1)) (o ∷ (v ++ (c ∷ r))) r (post_long leaves types p) cut q.is q.enough
              (step.step_index leaves types F n (pred q.left) (start u) o c v r (record { tree = x; height = h; called = q.called }) y i oc ec (nat_le_is h n (omega arith)) ih);
          value = λ _. refl;
        }
    post_c (member t m {u = u} {by = by} {x = x} {h = h} p tc (other_name c d)) n hn r s =
        let cut = append_assoc u (t ∷ m ∷ []) r in
        let q = post_c p n (omega arith) (t ∷ m ∷ r) (omega (arith, ap length cut)) in
        record {
          called = h;
          left = pred q.left;
          enough = less_pred (length r) q.left (omega (arith, q.enough));
          is = next_post n u (t ∷ m ∷ []) q.left (pred q.left) (record { tree = x; height = h; called = q.called }) (record { tree = e.Member (start u) x by (name_at m); height = h + 1; called = h }) (t ∷ m ∷ r) r (post_long leaves types p) cut q.is q.enough
              (step.step_member leaves types F n (pred q.left) (start u) t m r (record { tree = x; height = h; called = q.called }) by tc (nat_le_is h n (omega arith)) c d);
          value = λ f. absurd (not_both (ends_in_name (u ++ t ∷ m ∷ [])) (closed_name u t m c) f);
        }
    post_c (call o c {u = u} {v = v} {x = x} {ys = ys} {h = h} {i = i} p oc a ec) n hn r s =
        let cut = enclosed u o v c r in
        let s1 : length (u ++ (o ∷ (v ++ (c ∷ r)))) < F = omega (arith, ap length cut) in
        let q = callee_c p n (omega arith) (o ∷ (v ++ (c ∷ r))) s1 in
        let ih = arguments_c a n (omega arith) c r (tail_short u o (v ++ (c ∷ r)) F s1) ec in
        record {
          called = max h i + 1;
          left = pred q.left;
          enough = less_pred (length r) q.left (omega (arith, q.enough, length-append v (c ∷ r)));
          is = next_post n u (o ∷ (v ++ c ∷ [])) q.left (pred q.left) (record { tree = x; height = q.height; called = h }) (operand (e.Call (start u) x ys) (max h i + 1)) (o ∷ (v ++ (c ∷ r))) r (callee_long leaves types p) cut q.is q.enough
              (step.step_call leaves types F n (pred q.left) (start u) o c v r (record { tree = x; height = q.height; called = h }) ys i oc ec (nat_le_is h n (omega arith)) ih);
          value = λ _. refl;
        }
    post_c (postfix t {u = u} {op = op} {x = x} {h = h} p tc) n hn r s =
        let cut = append_assoc u (t ∷ []) r in
        let q = post_c p n (omega arith) (t ∷ r) (omega (arith, ap length cut)) in
        record {
          called = h + 1;
          left = pred q.left;
          enough = less_pred (length r) q.left (omega (arith, q.enough));
          is = next_post n u (t ∷ []) q.left (pred q.left) (record { tree = x; height = h; called = q.called }) (operand (e.Postfix (start u) op x) (h + 1)) (t ∷ r) r (post_long leaves types p) cut q.is q.enough
              (step.step_postfix leaves types F n (pred q.left) (start u) t r (record { tree = x; height = h; called = q.called }) op tc (nat_le_is h n (omega arith)));
          value = λ _. refl;
        }

    callee_c : {u : List Token} {x : Expr} {h : ℕ} → IsCallee leaves types u x h → (n : ℕ) → h ≤ n → (r : List Token) → length (u ++ r) < F → AfterCallee n u x h r
    callee_c (called_name t (other_name c d)) n hn r s = record { height = 1; left = F; enough = omega arith; is = step.step_name leaves types F n t r c d }
    callee_c (called_member t m {u = u} {by = by} {x = x} {h = h} p tc (other_name c d)) n hn r s =
        let cut = append_assoc u (t ∷ m ∷ []) r in
        let q = post_c p n (omega arith) (t ∷ m ∷ r) (omega (arith, ap length cut)) in
        record {
          height = h + 1;
          left = pred q.left;
          enough = less_pred (length r) q.left (omega (arith, q.enough));
          is = next_post n u (t ∷ m ∷ []) q.left (pred q.left) (record { tree = x; height = h; called = q.called }) (record { tree = e.Member (start u) x by (name_at m); height = h + 1; called = h }) (t ∷ m ∷ r) r (post_long leaves types p) cut q.is q.enough
              (step.step_member leaves types F n (pred q.left) (start u) t m r (record { tree = x; height = h; called = q.called }) by tc (nat_le_is h n (omega arith)) c d);
        }
    callee_c (called_value {u = u} {x = x} {h = h} p f) n hn r s =
        let q = post_c p n (omega arith) r s in
        record { height = h; left = q.left; enough = q.enough; is = q.is ∙ ap (λ c. parse.post_from leaves types F n (S n) q.left (start u) (record { tree = x; height = h; called = c }) r) (q.value f) }

    arguments_c : {u : List Token} {xs : List Expr} {h : ℕ} → IsArguments leaves types u xs h → (n : ℕ) → h ≤ n → (c : Token) (r : List Token) → length (u ++ (c ∷ r)) < F → c.kind ≡ k.RightParen → parse.arguments leaves types F n (S n) (u ++ (c ∷ r)) ≡ Ok ((xs, h), c ∷ r)
    arguments_c no_arguments n hn c r s ec = step.no_arguments leaves types F n c r ec
    arguments_c (arguments {u = u} {xs = xs} {h = h} l) n hn c r s ec = step.some_arguments leaves types F n (u ++ (c ∷ r)) (c ∷ r) (xs, h) (asgs_starts leaves types l (c ∷ r)).no_close (listed_of n c u r xs h ec (first_c l n hn (c ∷ r) s (at_kind FollowAsg c r k.RightParen ec before_paren.asg)))

    first_c : {u : List Token} {xs : List Expr} {h : ℕ} → IsAsgs leaves types u xs h → (n : ℕ) → h ≤ n → (r : List Token) → length (u ++ r) < F → FollowAsg (kind r) → FirstAsg n u xs h r
    first_c (one {u = u} {x = x} {h = h} d) n hn r s f =
        let high : 0 < h = asg_high leaves types d in
        first_one n u r x h s (sub_asg n (u ++ r) r (x, h) (omega arith) (asg_at_c d (pred n) (pred_le h n high hn) r s (inl f))) (asg_at_c d n (omega arith) r s (inl f))
    first_c (more t {u = u} {v = v} {xs = xs} {x = x} {h = h} {i = i} l c d) n hn r s f =
        let high : 0 < i = asg_high leaves types d in
        let cut = append_assoc u (t ∷ v) r in
        let s1 : length (u ++ (t ∷ (v ++ r))) < F = omega (arith, ap length cut) in
        let last = sub_asg n (v ++ r) r (x, i) (omega arith) (asg_at_c d (pred n) (pred_le i n high (omega arith)) r (tail_short u t (v ++ r) F s1) (inl f)) in
        (first_more n t u v r xs x h i c last (first_c l n (omega arith) (t ∷ (v ++ r)) s1 (at_kind FollowAsg t (v ++ r) k.Comma c before_comma))).list

    pub unary_c : {u : List Token} {x : Expr} {h : ℕ} → IsUnary leaves types u x h → (n : ℕ) → h ≤ n + 1 → (r : List Token) → length (u ++ r) < F → StopUnary leaves types u r → parse.unary leaves types F n (S n) (u ++ r) ≡ Ok ((x, h), r)
    unary_c (post p) n hn r s f = finish_post n (post_c p n hn r s) (post_stop leaves types p r f)
    unary_c (prefix t {u = u} {op = op} {x = x} {h = h} tc d) n hn r s f =
        let high : 0 < h = unary_high leaves types d in
        let ih = unary_c d (pred n) (pred_le h n high (omega arith)) r (omega arith) (prefix_stop leaves types t u r tc f) in
        step.step_prefix leaves types F n t op (u ++ r) r (x, h) tc (nat_lt_is 0 n (omega arith)) (as_sub n (x, h) (u ++ r) r (omega arith) ih)
    unary_c (cast o c {u = u} {v = v} {x = x} {y = y} {h = h} {i = i} oc a ec d) n hn r s f =
        let high : 0 < i = unary_high leaves types d in
        let cut : (o ∷ (u ++ c ∷ v)) ++ r ≡ o ∷ (u ++ (c ∷ (v ++ r))) = ap (λ l. o ∷ l) (append_assoc u (c ∷ v) r) in
        let s1 : length (u ++ (c ∷ (v ++ r))) < F = omega (arith, ap length cut) in
        let ih = unary_c d (pred n) (pred_le i n high (omega arith)) r (tail_short u c (v ++ r) F s1) (cast_stop o c v r oc a ec f) in
        ap (parse.unary leaves types F n (S n)) cut
        ∙ step.step_cast leaves types F n o c (u ++ (c ∷ (v ++ r))) (v ++ r) r x h (y, i) oc ec (nat_lt_is 0 n (omega arith)) (starred_word leaves types F a (c ∷ (v ++ r))) (cast_c a n (omega arith) c (v ++ r) s1 ec) (as_sub n (y, i) (v ++ r) r (omega arith) ih)
    unary_c (sizeof_type t o c {u = u} {x = x} {h = h} tc oc a ec) n hn r s f =
        let cut : (t ∷ o ∷ (u ++ c ∷ [])) ++ r ≡ t ∷ o ∷ (u ++ (c ∷ r)) = ap (λ l. t ∷ o ∷ l) (append_assoc u (c ∷ []) r) in
        ap (parse.unary leaves types F n (S n)) cut
        ∙ step.step_size_type leaves types F n t o c (u ++ (c ∷ r)) r x h tc oc ec (starred_word leaves types F a (c ∷ r)) (cast_c a n (omega arith) c r (omega (arith, ap length cut)) ec)
    unary_c (sizeof_value t {u = u} {x = x} {h = h} tc d nc) n hn r s f =
        let high : 0 < h = unary_high leaves types d in
        size_of t (u ++ r) r (x, h) n tc (omega arith) (unary_no_cast d nc r) (unary_c d (pred n) (pred_le h n high (omega arith)) r (omega arith) (size_stop t r tc d nc f))

    binary_c : {l : ℕ} {u : List Token} {x : Expr} {h : ℕ} → IsBinary leaves types l u x h → (n : ℕ) → h ≤ n + 1 → (r : List Token) → length (u ++ r) < F → Under leaves types l u r → AtLevel n l u (x, h) r
    binary_c (unary {u = u} {x = x} {h = h} d) n hn r s f =
        record { first = (x, h); from = r; unary_is = unary_c d n hn r s (unary_stop leaves types u r f); shape = inl (d, refl); is = step.zero_levels leaves types F n (start u) (x, h) r }
    binary_c (tighter {l = l} {u = u} {x = x} {h = h} d) n hn r s f =
        let stops = tighter_stop leaves types l u r f in
        let q = whole n l u (x, h) r d (binary_c d n hn r s (under leaves types l u r stops)) stops in
        inl (record { first = q.first; from = q.from; left = F; enough = rest_short u r F s; unary_is = q.unary_is; shape = q.shape; is = step.step_levels leaves types F n l (start u) q.first (x, h) q.from r q.is; tight = λ _. d })
    binary_c (binary {l = l} t {u = u} {v = v} {op = op} {x = x} {y = y} {h = h} {i = i} d tc b) n hn r s f =
        let cut = append_assoc u (t ∷ v) r in
        let s1 : length (u ++ (t ∷ (v ++ r))) < F = omega (arith, ap length cut) in
        let before = before_operator l t.kind op tc in
        let level = operator_level l t.kind op tc in
        let left_is = binary_c d n (omega arith) (t ∷ (v ++ r)) s1 (inl (at_kind (Follow l) t (v ++ r) t.kind refl before.0)) in
        let high : 0 < i = binary_high leaves types b in
        let stops = right_stop leaves types t v r d tc f in
        let right = whole (pred n) l v (y, i) r b (binary_c b (pred n) (pred_le i n high (omega arith)) r (tail_short u t (v ++ r) F s1) (under leaves types l v r stops)) stops in
        let ih = ap (λ m. S m (want.Binary l) (v ++ r)) (some_pred n 0 (omega arith)) ∙ step.within_binary leaves types F (pred n) l (v ++ r) right.from r right.first (y, i) right.unary_is
        (ap (λ p. parse.levels leaves types F (pred n) (S (pred n)) l p right.first right.from) (start_of v r (binary_long leaves types b)) ∙ right.is) in
        inl (operated_c n l t u v r (x, h) y i op tc level before.1 (binary_long leaves types d) cut (nat_le_is h n (omega arith)) ih left_is)
    binary_c (iterator t {u = u} {v = v} {x = x} {y = y} {h = h} {i = i} d tc b) n hn r s f =
        let cut = append_assoc u (t ∷ v) r in
        let s1 : length (u ++ (t ∷ (v ++ r))) < F = omega (arith, ap length cut) in
        let before : Stop leaves types 3 u (t ∷ (v ++ r)) = inl (at_kind (Follow 3) t (v ++ r) k.ColonColon tc before_colons) in
        let q = whole n 3 u (x, h) (t ∷ (v ++ r)) d (binary_c d n (omega arith) (t ∷ (v ++ r)) s1 (under leaves types 3 u (t ∷ (v ++ r)) before)) before in
        let high : 0 < i = binary_high leaves types b in
        let stops = iterator_stop leaves types t v r d tc f in
        let right = whole (pred n) 3 v (y, i) r b (binary_c b (pred n) (pred_le i n high (omega arith)) r (tail_short u t (v ++ r) F s1) (under leaves types 3 v r stops)) stops in
        let ih = ap (λ m. S m (want.Binary 3) (v ++ r)) (some_pred n 0 (omega arith)) ∙ step.within_binary leaves types F (pred n) 3 (v ++ r) right.from r right.first (y, i) right.unary_is
        (ap (λ p. parse.levels leaves types F (pred n) (S (pred n)) 3 p right.first right.from) (start_of v r (binary_long leaves types b)) ∙ right.is) in
        let place = start_of u (t ∷ v) (binary_long leaves types d) in
        inr (record {
          third = refl;
          whole = record {
            first = q.first;
            from = q.from;
            unary_is = ap (parse.unary leaves types F n (S n)) cut ∙ q.unary_is;
            shape = inr (no_assign q.from (t ∷ (v ++ r)) q.shape (operator_plain t (v ++ r) (colons_plain t tc)));
            is = ap (λ p. parse.levels leaves types F n (S n) 4 p q.first q.from) place
                ∙ step.step_levels leaves types F n 3 (start u) q.first (x, h) q.from (t ∷ (v ++ r)) q.is
                ∙ step.rest_iterated leaves types F n F 3 (start u) (x, h) (t ∷ (v ++ r)) refl
                ∙ step.step_iterated leaves types F n (start u) t v r (x, h) y i tc (nat_le_is h n (omega arith)) ih;
          };
        })

    asg_at_c : {u : List Token} {x : Expr} {h : ℕ} → IsAsg leaves types u x h → (n : ℕ) → h ≤ n + 1 → (r : List Token) → length (u ++ r) < F → StopAsg leaves types u r → parse.asg leaves types F n (S n) (u ++ r) ≡ Ok ((x, h), r)
    asg_at_c (value {u = u} {x = x} {h = h} d) n hn r s f =
        let stops = value_stop leaves types u r f in
        let q = whole n loosest u (x, h) r d (binary_c d n hn r s (under leaves types loosest u r stops)) stops in
        step.step_plain leaves types F n (u ++ r) q.from r q.first (x, h) q.unary_is (plain q.shape)
        (ap (λ p. parse.levels leaves types F n (S n) loosest p q.first q.from) (start_of u r (binary_long leaves types d)) ∙ q.is)
      where
        plain : {first : Sized} {from : List Token} → Shape u first from r → assign_operator (kind from) ≡ None
        plain (inl p) = ap (λ l. assign_operator (kind l)) p.1 ∙ plain_stop leaves types p.0 r f
        plain (inr p) = p
    asg_at_c (assign t {u = u} {v = v} {op = op} {x = x} {y = y} {h = h} {i = i} d tc a) n hn r s f =
        let cut = append_assoc u (t ∷ v) r in
        let s1 : length (u ++ (t ∷ (v ++ r))) < F = omega (arith, ap length cut) in
        let ih = unary_c d n (omega arith) (t ∷ (v ++ r)) s1 (inl (at_kind FollowPost t (v ++ r) t.kind refl (before_assign t.kind op tc))) in
        let high : 0 < i = asg_high leaves types a in
        let right = sub_asg n (v ++ r) r (y, i) (omega arith) (asg_at_c a (pred n) (pred_le i n high (omega arith)) r (tail_short u t (v ++ r) F s1) (assign_stop leaves types t v r d tc f)) in
        ap (parse.asg leaves types F n (S n)) cut
        ∙ step.step_assign leaves types F n t (u ++ (t ∷ (v ++ r))) (v ++ r) r op (x, h) (y, i) ih tc (nat_le_is h n (omega arith)) right
        ∙ ap (λ p. Ok ((e.Assign p op x y, max h i + 1), r)) (start_of u (t ∷ (v ++ r)) (unary_long leaves types d))

    pub expr_c : {u : List Token} {x : Expr} {h : ℕ} → IsExpr leaves types u x h → (m : ℕ) → h ≤ m → (r : List Token) → length (u ++ r) < F → StopExpr leaves types u r → S m want.Expression (u ++ r) ≡ Ok ((x, h), r)
    expr_c (only {u = u} {x = x} {h = h} d) m hm r s f =
        let high : 0 < h = asg_high leaves types d in
        ap (λ n. S n want.Expression (u ++ r)) (some_pred m 0 (omega arith))
        ∙ step.within_only leaves types F (pred m) (u ++ r) r (x, h) (asg_at_c d (pred m) (pred_le h m high hm) r s (only_stop leaves types u r f)) (comma_stop leaves types (one d) r f)
    expr_c (sequence t {u = u} {v = v} {xs = xs} {x = x} {h = h} {i = i} l c d) m hm r s f =
        let cut = append_assoc u (t ∷ v) r in
        let s1 : length (u ++ (t ∷ (v ++ r))) < F = omega (arith, ap length cut) in
        let n = pred m in
        let some : m ≡ suc n = some_pred m 0 (omega arith) in
        let q = first_c l n (omega (arith, some)) (t ∷ (v ++ r)) s1 (at_kind FollowAsg t (v ++ r) k.Comma c before_comma) in
        let high : 0 < i = asg_high leaves types d in
        let last = sub_asg n (v ++ r) r (x, i) (omega (arith, some)) (asg_at_c d (pred n) (pred_le i n high (omega (arith, some))) r (tail_short u t (v ++ r) F s1) (last_stop leaves types t v r l c f)) in
        ap (λ n. S n want.Expression ((u ++ t ∷ v) ++ r)) some
        ∙ sequence_of n (u ++ t ∷ v) r (xs ++ x ∷ []) (max h i) (omega (arith, some)) (omega (arith, length-append u (t ∷ v))) (first_more n t u v r xs x h i c last q) (comma_stop leaves types (more t l c d) r f)
        ∙ ap (λ p. Ok ((e.Sequence p (xs ++ x ∷ []), max h i + 1), r)) (start_of u (t ∷ v) (asgs_long l))

  pub asg_c : {u : List Token} {x : Expr} {h : ℕ} → IsAsg leaves types u x h → (m : ℕ) → h ≤ m → (r : List Token) → length (u ++ r) < F → StopAsg leaves types u r → S m want.Assignment (u ++ r) ≡ Ok ((x, h), r)
  asg_c {u} {x} {h} d m hm r s f =
      let high : 0 < h = asg_high leaves types d in
      ap (λ n. S n want.Assignment (u ++ r)) (some_pred m 0 (omega arith)) ∙ step.within_asg leaves types F (pred m) (u ++ r) ∙ asg_at_c d (pred m) (pred_le h m high hm) r s f

  pub list_c : {u : List Token} {xs : List Expr} {h : ℕ} → IsAsgs leaves types u xs h → (n : ℕ) → h ≤ n → (r : List Token) → length (u ++ r) < F → FollowExpr (kind r) → parse.listed leaves types F n (S n) (u ++ r) ≡ Ok ((xs, h), r)
  list_c l n hn r s f =
      let q = first_c l n hn r s f.asg in
      ap (parse.listed leaves types F n (S n)) (ap (λ m. m ++ r) q.cut ∙ append_assoc q.front q.back r)
      ∙ step.step_listed leaves types F n (q.front ++ (q.back ++ r)) (q.back ++ r) (q.first, q.low) q.inside
      ∙ whole_list n q f.comma
