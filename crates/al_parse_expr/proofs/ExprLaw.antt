-- The parsers of expressions keep the law, with the languages of the grammar.
use Rattle.std.proofs.Common.{◌≡◌, ℕ, zero, suc, pred, ◌+◌, ◌<◌, ◌≤◌, ◌==◌, max, nat_lt, nat_le, Bool, true, false, if◌then◌else◌, ◌||◌, ◌&&◌, List, [], ◌∷◌, ◌++◌, length, Option, Some, None, is_some, Ok, Err, refl, sym, ap, ap₂, ◌∙◌, subst, arith, rules, append_assoc, append-nil, length-append}
use Rattle.std.proofs.lemmas.Grind.{common_steps}
use Rattle.al_base.specs.declared.place.Place.{Place}
use Rattle.al_lex.specs.declared.kind.TokenKind.{TokenKind}
use Rattle.al_lex.specs.declared.kind.TokenKind.TheVariants as k
use Rattle.al_lex.specs.declared.token.Token.{Token}
use Rattle.al_tree.specs.Words.{start, is_left_paren, prefix_operator, postfix_operator, access, operator, assign_operator}
use Rattle.al_tree.specs.Types.{Leaves, name_at, IsOtherName}
use Rattle.al_tree.specs.Expressions.{begins_cast, ends_in_name, loosest, IsPrim, number, char, text, nil, name, paren, tuple, IsPost, prim, index, member, call, postfix, IsCallee, called_name, called_member, called_value, IsArguments, no_arguments, arguments, IsUnary, post, prefix, cast, sizeof_type, sizeof_value, IsBinary, unary, tighter, binary, iterator, IsAsg, value, assign, IsAsgs, one, more, IsExpr, only, sequence}
use Rattle.al_tree.specs.Reading.{Outcome, Parser, ◌>>=◌, ◌>>◌, pure, refuse, refusal, kind, same_kind, looks, peek, here, take_if, expect}
use Rattle.al_tree.specs.declared.cursor.ParseError.TheVariants.{NoMemory, Stuck, Deep}
use Rattle.al_tree.specs.declared.expression.UnaryOp.{UnaryOp}
use Rattle.al_tree.specs.declared.expression.PostfixOp.{PostfixOp}
use Rattle.al_tree.specs.declared.expression.PostfixOp.TheVariants as pf
use Rattle.al_tree.specs.declared.expression.BinaryOp.{BinaryOp}
use Rattle.al_tree.specs.declared.expression.AssignOp.{AssignOp}
use Rattle.al_tree.specs.declared.expression.Access.{Access}
use Rattle.al_tree.specs.declared.expression.Expr.{Expr}
use Rattle.al_tree.specs.declared.expression.Expr.TheVariants as e
use Rattle.al_tree.proofs.Law.{World, Above, Family, Lang, Any, head, Has, Law, Verdict, token, token_at, down, bind, bind_turn, map_law, pure_law, refuse_law, choose, weaken, anywhere, look, kind_local, start_local, start_of, located, take_law, turn_law, expect_law, a_turn, all_turns, no_turn, relang, view_law, pred_mono, some_pred}
use Rattle.al_parse_type.specs.Parse.{sees_type, other_name}
use Rattle.al_parse_type.proofs.BoundLaw.{always, kind_is, first_kind, lt_grows, down_fits, at_nil, other_law, fresh_token, fresh_is, lower, lower_above}
use Rattle.al_parse_type.proofs.TypeLaw.{room_law, type_local}
use Rattle.al_parse_type.proofs.BaseWhole.{starred_within_law}
use Rattle.al_parse_expr.specs.Parse as parse
use Rattle.al_parse_expr.specs.Parse.{Sized, Listed, operand, closed, begins_value, no_room, within}
use Rattle.al_parse_expr.specs.declared.operand.Operand.{Operand}
use Rattle.al_parse_expr.specs.declared.operand.Want.{Want}
use Rattle.al_parse_expr.specs.declared.operand.Want.TheVariants as want
use Rattle.al_parse_expr.proofs.Begins.{ends_token, ends_closed, ends_with, other_no_cast, post_is_no_cast, prim_long, post_long, unary_long, binary_long, asg_long, asgs_some, unary_of, lifted, asg_of, one_at, one_tree, one_prim, one_unary, one_asg, value_local, no_value, value_begins}
use Rattle.al_parse_expr.proofs.Stops.{stops}

pub le_grows : (h m n : ℕ) → m ≤ n → nat_le h m ≡ true → nat_le h n ≡ true
le_grows h m n l e = grind (arith, common_steps)

-- no list is as it would have to be
pub never_law : {A R : Type 0} {w : World} {G : List Token → Type 0} {p : Family A} {Q : Lang A} → ((ts : List Token) → G ts → ⊥) → Has Q → Law R w G p Q
never_law f h = record { run = λ rt ts g s. absurd (f ts g); has = h }

same_test : (b : Bool) → b ≡ true → b ≡ false → ⊥
same_test b t f = let e : true ≡ false = sym t ∙ f in let x : ⊥ = cc in x

-- ---- what the next token shows, all that is read shows

head_of : (u v : List Token) → 0 < length u → head (u ++ v) ≡ head u
head_of [] v h = absurd (omega arith)
head_of (t ∷ u) v h = refl

pub seen : {A X R : Type 0} {w : World} {G : List Token → Type 0} {p : Family A} {Q : Lang A} (g : List Token → X) → ((ts ts' : List Token) → head ts ≡ head ts' → g ts ≡ g ts') → (x : X)
    → ((u : List Token) (a : A) → Q u a → 0 < length u) → Has (λ u a. Q u a × (g u ≡ x))
    → Law R w G p Q → Law R w (λ ts. G ts × (g ts ≡ x)) p (λ u a. Q u a × (g u ≡ x))
seen {A} {X} {w = w} {p = p} {Q = Q} g local x some h l = record { run = λ rt ts gs s. by ts gs.1 (p w ts) (l.run rt ts gs.0 s); has = h }
  where
    by : (ts : List Token) → g ts ≡ x → (o : Outcome A) → Verdict w p Q ts o → Verdict w p (λ u a. Q u a × (g u ≡ x)) ts o
    by ts e (Ok y) v = record { used = v.used; cut = v.cut; again = v.again; is = (v.is, local v.used ts (sym (head_of v.used y.1 (some v.used y.0 v.is)) ∙ ap head (sym v.cut)) ∙ e) }
    by ts e (Err NoMemory) v = absurd v
    by ts e (Err (Stuck n)) v = record { used = v.used; rest = v.rest; cut = v.cut; count = v.count; again = v.again; goes_on = λ none. on v.used (v.cut ∙ ap (λ l. v.used ++ l) none ∙ append-nil v.used) (v.goes_on none) }
      where
        on : (u : List Token) → ts ≡ u → Has (λ y b. Q (u ++ y) b) → Has (λ y b. Q (u ++ y) b × (g (u ++ y) ≡ x))
        on [] c f = h
        on (t ∷ u) c f = record { word = f.word; value = f.value; is = (f.is, local (t ∷ (u ++ f.word)) ts (ap head (sym c)) ∙ e) }
    by ts e (Err (Deep n)) v = record {
      used = v.used;
      last = v.last;
      rest = v.rest;
      cut = v.cut;
      count = v.count;
      again = v.again;
      goes_on = let f = v.goes_on in record { word = f.word; value = f.value; is = (f.is, local (v.used ++ v.last ∷ f.word) ts (with_last v.used v.last f.word v.rest ∙ ap head (sym v.cut)) ∙ e) };
    }
      where
        with_last : (u : List Token) (t : Token) (y z : List Token) → head (u ++ t ∷ y) ≡ head (u ++ t ∷ z)
        with_last [] t y z = refl
        with_last (s ∷ u) t y z = refl

module _ (leaves : Leaves) (types : List ℕ) where
  -- ---- languages

  abbrev pub LPost : Lang Sized
  LPost u x = IsPost leaves types u x.0 x.1

  abbrev pub LOperand : Lang Operand
  LOperand u x = IsPost leaves types u x.tree x.height × IsCallee leaves types u x.tree x.called

  abbrev pub LUnary : Lang Sized
  LUnary u x = IsUnary leaves types u x.0 x.1

  abbrev pub LBinary : ℕ → Lang Sized
  LBinary l u x = IsBinary leaves types l u x.0 x.1

  abbrev pub LAsg : Lang Sized
  LAsg u x = IsAsg leaves types u x.0 x.1

  abbrev pub LAsgs : Lang Listed
  LAsgs u x = IsAsgs leaves types u x.0 x.1

  abbrev pub LArguments : Lang Listed
  LArguments u x = IsArguments leaves types u x.0 x.1

  abbrev pub LExpr : Lang Sized
  LExpr u x = IsExpr leaves types u x.0 x.1

  -- two expressions or more, with commas
  pub data IsMany : List Token → List Expr → ℕ → Type 0 where
    many : (t : Token) {u v : List Token} {xs : List Expr} {x : Expr} {h i : ℕ}
        → IsAsgs leaves types u xs h → t.kind ≡ k.Comma → IsAsg leaves types v x i → IsMany (u ++ t ∷ v) (xs ++ x ∷ []) (max h i)

  pub asgs_of : {u : List Token} {xs : List Expr} {h : ℕ} → IsMany u xs h → IsAsgs leaves types u xs h
  asgs_of (many t l c a) = more t l c a

  -- languages of lists that one expression more belongs to
  pub record Keeps (K : List Token → List Expr → ℕ → Type 0) : Type 0 where
    pub asgs : (u : List Token) (xs : List Expr) (h : ℕ) → K u xs h → IsAsgs leaves types u xs h
    pub more : (t : Token) (u v : List Token) (xs : List Expr) (x : Expr) (h i : ℕ) → IsAsgs leaves types u xs h → t.kind ≡ k.Comma → IsAsg leaves types v x i → K (u ++ t ∷ v) (xs ++ x ∷ []) (max h i)

  pub keeps_asgs : Keeps (IsAsgs leaves types)
  keeps_asgs = record { asgs = λ u xs h l. l; more = λ t u v xs x h i l c a. more t l c a }

  keeps_many : Keeps IsMany
  keeps_many = record { asgs = λ u xs h l. asgs_of l; more = λ t u v xs x h i l c a. many t l c a }

  abbrev pub LWant : Want → Lang Sized
  LWant want.Expression = LExpr
  LWant want.Assignment = LAsg
  LWant (want.Binary l) = LBinary l
  LWant (want.Opened o) = λ u x. IsPost leaves types (o ∷ u) x.0 x.1

  -- what is wanted behind a token stands behind a parenthesis
  abbrev pub Right : Want → Type 0
  Right want.Expression = Unit {0}
  Right want.Assignment = Unit {0}
  Right (want.Binary l) = Unit {0}
  Right (want.Opened o) = o.kind ≡ k.LeftParen

  abbrev nowhere : Place
  nowhere = start []

  -- what a unary expression goes on to, where that is wanted
  want_of : (x : Want) → Right x → (u : List Token) (y : Expr) (h : ℕ) → IsUnary leaves types u y h → Has (λ v z. LWant x (u ++ v) z)
  want_of want.Expression r u y h d = record { word = []; value = (y, h); is = at_nil leaves types LExpr u (y, h) (only (asg_of leaves types d)) }
  want_of want.Assignment r u y h d = record { word = []; value = (y, h); is = at_nil leaves types LAsg u (y, h) (asg_of leaves types d) }
  want_of (want.Binary l) r u y h d = record { word = []; value = (y, h); is = at_nil leaves types (LBinary l) u (y, h) (lifted leaves types l d) }
  want_of (want.Opened o) r u y h d = record { word = token k.RightParen ∷ []; value = (y, h + 1); is = prim (paren o (token k.RightParen) r (asg_of leaves types d) refl) }

  want_has : (x : Want) → Right x → Has (LWant x)
  want_has x r = let q = want_of x r (one_at leaves types nowhere ∷ []) (one_tree leaves types nowhere) 1 (one_unary leaves types nowhere) in record { word = one_at leaves types nowhere ∷ q.word; value = q.value; is = q.is }

  want_begins : (x : Want) → Right x → (t : Token) (ts : List Token) → begins_value types (t ∷ ts) ≡ true → Has (λ v z. LWant x (t ∷ v) z)
  want_begins x r t ts b = let g = value_begins leaves types t ts b in let q = want_of x r (t ∷ g.word) g.value.0 g.value.1 g.is in record { word = g.word ++ q.word; value = q.value; is = q.is }

  -- ---- where no level is left

  deep_step : (turns : ℕ) (x : Want) (t : Token) (ts : List Token) → begins_value types (t ∷ ts) ≡ true → within leaves types turns zero x (t ∷ ts) ≡ Err (Deep (length ts))
  unfolding within no_room take_if
  deep_step turns x t ts b = rw b refl

  zero_law : (R : Type 0) (w : World) → w.depth ≡ 0 → (x : Want) → Right x → Law R w Any (λ w. within leaves types w.turns w.depth x) (LWant x)
  zero_law R w d x r = record { run = λ rt ts g s. by ts (begins_value types ts) refl; has = want_has x r }
    where
      p : Family Sized
      p w = within leaves types w.turns w.depth x

      by : (ts : List Token) (b : Bool) → begins_value types ts ≡ b → Verdict w p (LWant x) ts (p w ts)
      by ts false b = subst (λ o. Verdict w p (LWant x) ts o) (sym (stops leaves types w.turns w.depth x ts b)) (record {
        used = [];
        rest = ts;
        cut = refl;
        count = refl;
        goes_on = λ none. want_has x r;
        again = λ w' ab r' h. stops leaves types w'.turns w'.depth x r' (value_local leaves types r' ts h ∙ b);
      })
      by [] true b = absurd (same_test (begins_value types []) b (no_value leaves types))
      by (t ∷ ts) true b = subst (λ o. Verdict w p (LWant x) (t ∷ ts) o) (sym (ap (λ m. within leaves types w.turns m x (t ∷ ts)) d ∙ deep_step w.turns x t ts b)) (record {
        used = [];
        last = t;
        rest = ts;
        cut = refl;
        count = refl;
        goes_on = want_begins x r t ts b;
        again = λ w' ab same r'. ap (λ m. within leaves types w'.turns m x (t ∷ r')) (sym same ∙ d) ∙ deep_step w'.turns x t r' (value_local leaves types (t ∷ r') (t ∷ ts) refl ∙ b);
      })

  -- ---- what is read whole by its first token

  pub operand_of : {u : List Token} {x : Expr} {h : ℕ} → IsPost leaves types u x h → ends_in_name u ≡ false → LOperand u (operand x h)
  operand_of p n = (p, called_value p n)

  operand_has : (at : Place) → Has (λ u a. LOperand u a × (start u ≡ at))
  operand_has at = record { word = one_at leaves types at ∷ []; value = operand (one_tree leaves types at) 1; is = (operand_of (prim (one_prim leaves types at)) refl, refl) }

  prim_has : Has LOperand
  prim_has = record { word = one_at leaves types nowhere ∷ []; value = operand (one_tree leaves types nowhere) 1; is = operand_of (prim (one_prim leaves types nowhere)) refl }

  leaf_law : (R : Type 0) (w : World) (kd : TokenKind) (f : Token → Expr) → ((t : Token) → t.kind ≡ kd → LOperand (t ∷ []) (operand (f t) 1))
      → Law R w (λ ts. Any ts × (kind ts ≡ kd)) (λ w. take_if true >>= (λ t. pure (operand (f t) 1))) LOperand
  leaf_law R w kd f q = take_law (λ w t. pure (operand (f t) 1)) always (λ m n l e. e) (λ t. t.kind ≡ kd) (λ t ts g. first_kind t ts kd g.1) prim_has (λ t c. pure_law (operand (f t) 1) (q t c))

  prim_law : (R : Type 0) (w : World) (sub : World → Want → Parser Sized) → Law R w Any (λ w. parse.prim leaves types w.turns w.depth (sub w)) LOperand
  unfolding parse.prim
  prim_law R w sub = look kind kind_local (λ w kd. parse.prim_by leaves types w.turns w.depth (sub w) kd) prim_has by
    where
      by : (kd : TokenKind) → Law R w (λ ts. Any ts × (kind ts ≡ kd)) (λ w. parse.prim_by leaves types w.turns w.depth (sub w) kd) LOperand
      by k.Number = leaf_law R w k.Number (λ t. e.Number t.place (leaves.number t)) (λ t c. operand_of (prim (number t c)) (ends_token t k.Number c refl))
      by k.Char = leaf_law R w k.Char (λ t. e.Char t.place (leaves.byte t)) (λ t c. operand_of (prim (char t c)) (ends_token t k.Char c refl))
      by k.Text = leaf_law R w k.Text (λ t. e.Text t.place (leaves.bytes t)) (λ t c. operand_of (prim (text t c)) (ends_token t k.Text c refl))
      by k.Nil = leaf_law R w k.Nil (λ t. e.Nil t.place) (λ t c. operand_of (prim (nil t c)) (ends_token t k.Nil c refl))
      by k.Name = other_law leaves types (λ w t. pure (record { tree = e.Name t.place t.name; height = 1; called = 0 })) prim_has (λ t c. pure_law (record { tree = e.Name t.place t.name; height = 1; called = 0 }) (prim (name t c), called_name t c))
      by _ = refuse_law prim_has

  -- one expression in parentheses, or a tuple
  pub closed_many : (at : Place) (xs : List Expr) (x : Expr) (h : ℕ) → 0 < length xs → closed at (xs ++ x ∷ [], h) ≡ (e.Tuple at (xs ++ x ∷ []), h + 1)
  closed_many at [] x h s = absurd (omega arith)
  closed_many at (y ∷ []) x h s = refl
  closed_many at (y ∷ z ∷ xs) x h s = refl

  pub closed_is : (o c : Token) {u : List Token} {xs : List Expr} {h : ℕ} → o.kind ≡ k.LeftParen → IsAsgs leaves types u xs h → c.kind ≡ k.RightParen → IsPrim leaves types (o ∷ (u ++ c ∷ [])) (closed o.place (xs, h)).0 (closed o.place (xs, h)).1
  closed_is o c oc (one a) ec = paren o c oc a ec
  closed_is o c oc (more t {u = u} {v = v} {xs = xs} {x = x} {h = h} {i = i} l tc a) ec =
      subst (λ (y : Sized). IsPrim leaves types (o ∷ ((u ++ t ∷ v) ++ c ∷ [])) y.0 y.1) (sym (closed_many o.place xs x (max h i) (asgs_some leaves types l)))
      (subst (λ q. IsPrim leaves types (o ∷ q) (e.Tuple o.place (xs ++ x ∷ [])) (max h i + 1)) (sym (append_assoc u (t ∷ v) (c ∷ []))) (tuple o t c oc l tc a ec))

-- What is known of the parser of what stands inside expressions, at the worlds of one depth.
module _ (leaves : Leaves) (types : List ℕ) (n : ℕ)
    (subs : (R : Type 0) (w : World) → w.depth ≡ n → (R → w.fuel ≤ w.turns) → (x : Want) → Right leaves types x → Law R w Any (λ w. within leaves types w.turns w.depth x) (LWant leaves types x)) where
  abbrev S : World → Want → Parser Sized
  S w = within leaves types w.turns w.depth

  abbrev nowhere2 : Place
  nowhere2 = start []

  -- ---- lists with commas

  -- a comma, an expression, and the loop's next turn
  comma_law : (R : Type 0) (w : World) → w.depth ≡ n → (R → w.fuel ≤ w.turns) → (K : List Token → List Expr → ℕ → Type 0) → Keeps leaves types K → (G : List Token → Type 0) → ((t : Token) (ts : List Token) → G (t ∷ ts) → t.kind ≡ k.Comma)
      → (u : List Token) (xs : List Expr) (h : ℕ) → IsAsgs leaves types u xs h
      → ((v : List Token) (ys : List Expr) (i : ℕ) → K (u ++ v) ys i → Law (R × (true ≡ true)) (down w) Any (λ w. parse.more_from leaves types w.turns w.depth (S w) w.fuel ys i) (λ r z. K ((u ++ v) ++ r) z.0 z.1))
      → Law R w G (λ w. take_if true >>= (λ _. S w want.Assignment >>= (λ x. parse.more_from leaves types w.turns w.depth (S w) (pred w.fuel) (xs ++ x.0 ∷ []) (max h x.1)))) (λ v y. K (u ++ v) y.0 y.1)
  comma_law R w d fits K keeps G g u xs h l rec = turn_law (λ w t. S w want.Assignment >>= (λ x. parse.more_from leaves types w.turns w.depth (S w) w.fuel (xs ++ x.0 ∷ []) (max h x.1))) always (λ m n l e. e) (λ t. t.kind ≡ k.Comma) g
      (record { word = token k.Comma ∷ one_at leaves types nowhere2 ∷ []; value = (xs ++ one_tree leaves types nowhere2 ∷ [], max h 1); is = keeps.more (token k.Comma) u (one_at leaves types nowhere2 ∷ []) xs (one_tree leaves types nowhere2) h 1 l refl (one_asg leaves types nowhere2) })
      (λ t c. bind (subs (R × (true ≡ true)) (down w) d (λ r. down_fits w.fuel w.turns (fits r.0)) want.Assignment tt) (λ v x a.
      relang (λ v2 y i. subst (λ q. K q y.0 y.1) (append_assoc u (t ∷ v) v2) i) (rec (t ∷ v) (xs ++ x.0 ∷ []) (max h x.1) (keeps.more t u v xs x.0 h x.1 l c a))))

  pub more_law : (R : Type 0) (m : ℕ) (w : World) → w.fuel ≡ m → w.depth ≡ n → (R → w.fuel ≤ w.turns) → (K : List Token → List Expr → ℕ → Type 0) → Keeps leaves types K → (u : List Token) (xs : List Expr) (h : ℕ) → K u xs h
      → Law R w Any (λ w. parse.more_from leaves types w.turns w.depth (S w) w.fuel xs h) (λ v y. K (u ++ v) y.0 y.1)
  unfolding parse.more_from
  more_law R zero w fe d fits K keeps u xs h l = no_turn fe (record { word = []; value = (xs, h); is = at_nil leaves types (λ v (y : Listed). K v y.0 y.1) u (xs, h) l })
  more_law R (suc m) w fe d fits K keeps u xs h l =
      let end : K (u ++ []) xs h = at_nil leaves types (λ v (y : Listed). K v y.0 y.1) u (xs, h) l in
      a_turn (λ i w. parse.more_from leaves types w.turns w.depth (S w) i xs h) m fe
      (look kind kind_local (λ w next. if same_kind next k.Comma then (take_if true >>= (λ _. S w want.Assignment >>= (λ x. parse.more_from leaves types w.turns w.depth (S w) (pred w.fuel) (xs ++ x.0 ∷ []) (max h x.1)))) else pure (xs, h))
      (record { word = []; value = (xs, h); is = end })
      (λ next. choose (same_kind next k.Comma)
      (λ yes. comma_law R w d fits K keeps (λ ts. Any ts × (kind ts ≡ next)) (λ t ts g. first_kind t ts next g.1 ∙ kind_is next k.Comma yes) u xs h (keeps.asgs u xs h l)
      (λ v ys i q. more_law (R × (true ≡ true)) m (down w) (ap pred fe) d (λ r. down_fits w.fuel w.turns (fits r.0)) K keeps (u ++ v) ys i q))
      (λ no. pure_law (xs, h) end)))

  -- the same where a comma comes next
  many_law : (R : Type 0) (m : ℕ) (w : World) → w.fuel ≡ m → w.depth ≡ n → (R → w.fuel ≤ w.turns) → (G : List Token → Type 0) → ((ts : List Token) → G ts → same_kind (kind ts) k.Comma ≡ true) → (u : List Token) (xs : List Expr) (h : ℕ) → IsAsgs leaves types u xs h
      → Law R w G (λ w. parse.more_from leaves types w.turns w.depth (S w) w.fuel xs h) (λ v y. IsMany leaves types (u ++ v) y.0 y.1)
  unfolding parse.more_from
  many_law R m w fe d fits G g u xs h l = by m fe
    where
      goes_on : Has {A = Listed} (λ v y. IsMany leaves types (u ++ v) y.0 y.1)
      goes_on = record { word = token k.Comma ∷ one_at leaves types nowhere2 ∷ []; value = (xs ++ one_tree leaves types nowhere2 ∷ [], max h 1); is = many (token k.Comma) l refl (one_asg leaves types nowhere2) }

      by : (m : ℕ) → w.fuel ≡ m → Law R w G (λ w. parse.more_from leaves types w.turns w.depth (S w) w.fuel xs h) (λ v y. IsMany leaves types (u ++ v) y.0 y.1)
      by zero fe = no_turn fe goes_on
      by (suc m) fe = a_turn (λ i w. parse.more_from leaves types w.turns w.depth (S w) i xs h) m fe
          (look kind kind_local (λ w next. if same_kind next k.Comma then (take_if true >>= (λ _. S w want.Assignment >>= (λ x. parse.more_from leaves types w.turns w.depth (S w) (pred w.fuel) (xs ++ x.0 ∷ []) (max h x.1)))) else pure (xs, h)) goes_on
          (λ next. choose (same_kind next k.Comma)
          (λ yes. comma_law R w d fits (IsMany leaves types) (keeps_many leaves types) (λ ts. G ts × (kind ts ≡ next)) (λ t ts q. first_kind t ts next q.1 ∙ kind_is next k.Comma yes) u xs h l
          (λ v ys i q. more_law (R × (true ≡ true)) m (down w) (ap pred fe) d (λ r. down_fits w.fuel w.turns (fits r.0)) (IsMany leaves types) (keeps_many leaves types) (u ++ v) ys i q))
          (λ no. never_law (λ ts q. same_test (same_kind (kind ts) k.Comma) (g ts q.0) (ap (λ kd. same_kind kd k.Comma) q.1 ∙ no)) goes_on)))

  pub listed_law : (R : Type 0) (w : World) → w.depth ≡ n → (R → w.fuel ≤ w.turns) → Law R w Any (λ w. parse.listed leaves types w.turns w.depth (S w)) (LAsgs leaves types)
  unfolding parse.listed
  listed_law R w d fits = bind (subs R w d fits want.Assignment tt) (λ u x a.
      all_turns fits (λ i w. parse.more_from leaves types w.turns w.depth (S w) i (x.0 ∷ []) x.1)
      (more_law (w.fuel ≤ w.turns) w.turns (record w { fuel = w.turns }) refl d (λ r. omega arith) (IsAsgs leaves types) (keeps_asgs leaves types) u (x.0 ∷ []) x.1 (one a)))

  -- ---- what stands behind an operand

  abbrev Behind : List Token → Lang Operand
  Behind u v y = LOperand leaves types (u ++ v) y × (0 < length v)

  index_law : (R : Type 0) (w : World) (G : List Token → Type 0) → w.depth ≡ n → (R → w.fuel ≤ w.turns) → ((t : Token) (ts : List Token) → G (t ∷ ts) → t.kind ≡ k.LeftBracket) → (u : List Token) (x : Operand) (at : Place) → LOperand leaves types u x → start u ≡ at
      → Law R w G (λ w. parse.index leaves types w.turns w.depth (S w) at x) (Behind u)
  unfolding parse.index
  index_law R w G d fits g u x at p s =
      let made : (o c : Token) (v : List Token) (y : Sized) → o.kind ≡ k.LeftBracket → IsExpr leaves types v y.0 y.1 → c.kind ≡ k.RightBracket → Behind u (o ∷ (v ++ c ∷ [])) (operand (e.Index at x.tree y.0) (max x.height y.1 + 1))
      = λ o c v y oc a ec. (operand_of leaves types (subst (λ q. IsPost leaves types (u ++ o ∷ (v ++ c ∷ [])) (e.Index q x.tree y.0) (max x.height y.1 + 1)) s (index o c p.0 oc a ec)) (ends_closed u o v c k.RightBracket ec refl), omega arith) in
      take_law (λ w t. S w want.Expression >>= (λ y. expect k.RightBracket >>= (λ _. pure (operand (e.Index at x.tree y.0) (max x.height y.1 + 1))))) (nat_le x.height) (le_grows x.height) (λ t. t.kind ≡ k.LeftBracket) g
      (record { word = token k.LeftBracket ∷ one_at leaves types nowhere2 ∷ token k.RightBracket ∷ []; value = operand (e.Index at x.tree (one_tree leaves types nowhere2)) (max x.height 1 + 1); is = made (token k.LeftBracket) (token k.RightBracket) (one_at leaves types nowhere2 ∷ []) (one_tree leaves types nowhere2, 1) refl (only (one_asg leaves types nowhere2)) refl })
      (λ o oc. bind (subs (R × (nat_le x.height w.depth ≡ true)) w d (λ r. fits r.0) want.Expression tt) (λ v y a.
      expect_law (λ w c. pure (operand (e.Index at x.tree y.0) (max x.height y.1 + 1))) k.RightBracket (λ c ec. pure_law (operand (e.Index at x.tree y.0) (max x.height y.1 + 1)) (made o c v y oc a ec))))

  member_law : (R : Type 0) (w : World) (G : List Token → Type 0) (by : Access) → ((t : Token) (ts : List Token) → G (t ∷ ts) → access t.kind ≡ Some by) → (u : List Token) (x : Operand) (at : Place) → LOperand leaves types u x → start u ≡ at
      → Has (Behind u) → Law R w G (λ w. parse.member leaves types w.turns w.depth (S w) at by x) (Behind u)
  unfolding parse.member
  member_law R w G by g u x at p s has =
      let made : (t m : Token) → access t.kind ≡ Some by → IsOtherName leaves types m → Behind u (t ∷ m ∷ []) (record { tree = e.Member at x.tree by (name_at m); height = x.height + 1; called = x.height })
      = λ t m tc mc. ((subst (λ q. IsPost leaves types (u ++ t ∷ m ∷ []) (e.Member q x.tree by (name_at m)) (x.height + 1)) s (member t m p.0 tc mc), subst (λ q. IsCallee leaves types (u ++ t ∷ m ∷ []) (e.Member q x.tree by (name_at m)) x.height) s (called_member t m p.0 tc mc)), omega arith) in
      take_law (λ w t. other_name types >>= (λ m. pure (record { tree = e.Member at x.tree by (name_at m); height = x.height + 1; called = x.height }))) (nat_le x.height) (le_grows x.height) (λ t. access t.kind ≡ Some by) g has
      (λ t tc. let m = fresh_token types nowhere2 in
      other_law leaves types (λ w m. pure (record { tree = e.Member at x.tree by (name_at m); height = x.height + 1; called = x.height }))
      (record { word = m ∷ []; value = record { tree = e.Member at x.tree by (name_at m); height = x.height + 1; called = x.height }; is = made t m tc (fresh_is leaves types nowhere2) })
      (λ m mc. pure_law (record { tree = e.Member at x.tree by (name_at m); height = x.height + 1; called = x.height }) (made t m tc mc)))

  arguments_law : (R : Type 0) (w : World) → w.depth ≡ n → (R → w.fuel ≤ w.turns) → Law R w Any (λ w. parse.arguments leaves types w.turns w.depth (S w)) (LArguments leaves types)
  unfolding parse.arguments
  arguments_law R w d fits = look kind kind_local (λ w next. if same_kind next k.RightParen then pure ([], 0) else parse.listed leaves types w.turns w.depth (S w)) (record { word = []; value = ([], 0); is = no_arguments })
      (λ next. choose (same_kind next k.RightParen) (λ yes. pure_law ([], 0) no_arguments) (λ no. anywhere (relang (λ u y a. arguments a) (listed_law R w d fits))))

  call_law : (R : Type 0) (w : World) (G : List Token → Type 0) → w.depth ≡ n → (R → w.fuel ≤ w.turns) → ((t : Token) (ts : List Token) → G (t ∷ ts) → t.kind ≡ k.LeftParen) → (u : List Token) (x : Operand) (at : Place) → LOperand leaves types u x → start u ≡ at
      → Law R w G (λ w. parse.call leaves types w.turns w.depth (S w) at x) (Behind u)
  unfolding parse.call
  call_law R w G d fits g u x at p s =
      let made : (o c : Token) (v : List Token) (y : Listed) → o.kind ≡ k.LeftParen → IsArguments leaves types v y.0 y.1 → c.kind ≡ k.RightParen → Behind u (o ∷ (v ++ c ∷ [])) (operand (e.Call at x.tree y.0) (max x.called y.1 + 1))
      = λ o c v y oc a ec. (operand_of leaves types (subst (λ q. IsPost leaves types (u ++ o ∷ (v ++ c ∷ [])) (e.Call q x.tree y.0) (max x.called y.1 + 1)) s (call o c p.1 oc a ec)) (ends_closed u o v c k.RightParen ec refl), omega arith) in
      take_law (λ w t. parse.arguments leaves types w.turns w.depth (S w) >>= (λ y. expect k.RightParen >>= (λ _. pure (operand (e.Call at x.tree y.0) (max x.called y.1 + 1))))) (nat_le x.called) (le_grows x.called) (λ t. t.kind ≡ k.LeftParen) g
      (record { word = token k.LeftParen ∷ token k.RightParen ∷ []; value = operand (e.Call at x.tree []) (max x.called 0 + 1); is = made (token k.LeftParen) (token k.RightParen) [] ([], 0) refl no_arguments refl })
      (λ o oc. bind (arguments_law (R × (nat_le x.called w.depth ≡ true)) w d (λ r. fits r.0)) (λ v y a.
      expect_law (λ w c. pure (operand (e.Call at x.tree y.0) (max x.called y.1 + 1))) k.RightParen (λ c ec. pure_law (operand (e.Call at x.tree y.0) (max x.called y.1 + 1)) (made o c v y oc a ec))))

  -- an operator behind an operand is no name
  postfix_kind : (kd : TokenKind) (op : PostfixOp) → postfix_operator kd ≡ Some op → Rattle.al_tree.specs.Words.is_name kd ≡ false
  postfix_kind k.PlusPlus op h = refl
  postfix_kind k.MinusMinus op h = refl
  postfix_kind k.Question op h = refl
  postfix_kind _ op h = absurd (let f : ⊥ = cc in f)

  postfix_law : (R : Type 0) (w : World) (G : List Token → Type 0) (op : PostfixOp) → ((t : Token) (ts : List Token) → G (t ∷ ts) → postfix_operator t.kind ≡ Some op) → (u : List Token) (x : Operand) (at : Place) → LOperand leaves types u x → start u ≡ at
      → Has (Behind u) → Law R w G (λ w. parse.postfix leaves types w.turns w.depth (S w) at op x) (Behind u)
  unfolding parse.postfix
  postfix_law R w G op g u x at p s has =
      take_law (λ w t. pure (operand (e.Postfix at op x.tree) (x.height + 1))) (nat_le x.height) (le_grows x.height) (λ t. postfix_operator t.kind ≡ Some op) g has
      (λ t tc. pure_law (operand (e.Postfix at op x.tree) (x.height + 1))
      (operand_of leaves types (subst (λ q. IsPost leaves types (u ++ t ∷ []) (e.Postfix q op x.tree) (x.height + 1)) s (postfix t p.0 tc)) (ends_with u t t.kind refl (postfix_kind t.kind op tc)), omega arith))

  behind_has : (u : List Token) (x : Operand) → LOperand leaves types u x → Has (Behind u)
  behind_has u x p = record {
    word = token k.PlusPlus ∷ [];
    value = operand (e.Postfix (start u) pf.Increment x.tree) (x.height + 1);
    is = (operand_of leaves types (postfix (token k.PlusPlus) p.0 refl) (ends_with u (token k.PlusPlus) k.PlusPlus refl refl), omega arith);
  }

  -- one part more, or none, where the loop's next turn keeps the law
  post_turn : (R : Type 0) (w : World) → w.depth ≡ n → (R → w.fuel ≤ w.turns) → (u : List Token) (x : Operand) (at : Place) → LOperand leaves types u x → start u ≡ at
      → ((v : List Token) (y : Operand) → Behind u v y → Law R (down w) Any (λ w. parse.post_from leaves types w.turns w.depth (S w) w.fuel at y) (λ r z. LPost leaves types ((u ++ v) ++ r) z))
      → (next : TokenKind) (a : Option Access) (o : Option PostfixOp) → access next ≡ a → postfix_operator next ≡ o
      → Law R w (λ ts. Any ts × (kind ts ≡ next)) (λ w. parse.post_by leaves types w.turns w.depth (S w) (parse.post_from leaves types w.turns w.depth (S w) (pred w.fuel) at) at x next a o) (λ v y. LPost leaves types (u ++ v) y)
  post_turn R w d fits u x at p s rec next (Some by) o ae oe =
      bind_turn {f = λ w y. parse.post_from leaves types w.turns w.depth (S w) w.fuel at y} (λ v y i. i.1) (member_law R w (λ ts. Any ts × (kind ts ≡ next)) by (λ t ts g. ap access (first_kind t ts next g.1) ∙ ae) u x at p s (behind_has u x p))
      (λ v y i. relang (λ r z j. subst (λ q. LPost leaves types q z) (append_assoc u v r) j) (rec v y i))
  post_turn R w d fits u x at p s rec next None (Some op) ae oe =
      bind_turn {f = λ w y. parse.post_from leaves types w.turns w.depth (S w) w.fuel at y} (λ v y i. i.1) (postfix_law R w (λ ts. Any ts × (kind ts ≡ next)) op (λ t ts g. ap postfix_operator (first_kind t ts next g.1) ∙ oe) u x at p s (behind_has u x p))
      (λ v y i. relang (λ r z j. subst (λ q. LPost leaves types q z) (append_assoc u v r) j) (rec v y i))
  post_turn R w d fits u x at p s rec next None None ae oe =
      choose (same_kind next k.LeftBracket)
      (λ yes. bind_turn {f = λ w y. parse.post_from leaves types w.turns w.depth (S w) w.fuel at y} (λ v y i. i.1) (index_law R w (λ ts. Any ts × (kind ts ≡ next)) d fits (λ t ts g. first_kind t ts next g.1 ∙ kind_is next k.LeftBracket yes) u x at p s)
      (λ v y i. relang (λ r z j. subst (λ q. LPost leaves types q z) (append_assoc u v r) j) (rec v y i)))
      (λ no. choose (same_kind next k.LeftParen)
      (λ yes. bind_turn {f = λ w y. parse.post_from leaves types w.turns w.depth (S w) w.fuel at y} (λ v y i. i.1) (call_law R w (λ ts. Any ts × (kind ts ≡ next)) d fits (λ t ts g. first_kind t ts next g.1 ∙ kind_is next k.LeftParen yes) u x at p s)
      (λ v y i. relang (λ r z j. subst (λ q. LPost leaves types q z) (append_assoc u v r) j) (rec v y i)))
      (λ no2. pure_law (x.tree, x.height) (at_nil leaves types (LPost leaves types) u (x.tree, x.height) p.0)))

  pub post_from_law : (R : Type 0) (m : ℕ) (w : World) → w.fuel ≡ m → w.depth ≡ n → (R → w.fuel ≤ w.turns) → (u : List Token) (x : Operand) (at : Place) → LOperand leaves types u x → start u ≡ at
      → Law R w Any (λ w. parse.post_from leaves types w.turns w.depth (S w) w.fuel at x) (λ v y. LPost leaves types (u ++ v) y)
  unfolding parse.post_from
  post_from_law R zero w fe d fits u x at p s = no_turn fe (record { word = []; value = (x.tree, x.height); is = at_nil leaves types (LPost leaves types) u (x.tree, x.height) p.0 })
  post_from_law R (suc m) w fe d fits u x at p s =
      a_turn (λ i w. parse.post_from leaves types w.turns w.depth (S w) i at x) m fe
      (look kind kind_local (λ w next. parse.post_by leaves types w.turns w.depth (S w) (parse.post_from leaves types w.turns w.depth (S w) (pred w.fuel) at) at x next (access next) (postfix_operator next))
      (record { word = []; value = (x.tree, x.height); is = at_nil leaves types (LPost leaves types) u (x.tree, x.height) p.0 })
      (λ next. post_turn R w d fits u x at p s
      (λ v y i. post_from_law R m (down w) (ap pred fe) d (λ r. down_fits w.fuel w.turns (fits r)) (u ++ v) y at i.0 (start_of u v (post_long leaves types p.0) ∙ s)) next (access next) (postfix_operator next) refl refl))

  -- the loop from its first turn on
  pub posts_law : (R : Type 0) (w : World) → w.depth ≡ n → (R → w.fuel ≤ w.turns) → (u : List Token) (x : Operand) (at : Place) → LOperand leaves types u x → start u ≡ at
      → Law R w Any (λ w. parse.post_from leaves types w.turns w.depth (S w) w.turns at x) (λ v y. LPost leaves types (u ++ v) y)
  posts_law R w d fits u x at p s = all_turns fits (λ i w. parse.post_from leaves types w.turns w.depth (S w) i at x) (post_from_law (w.fuel ≤ w.turns) w.turns (record w { fuel = w.turns }) refl d (λ r. omega arith) u x at p s)

  pub post_law : (R : Type 0) (w : World) → w.depth ≡ n → (R → w.fuel ≤ w.turns) → Law R w Any (λ w. parse.post leaves types w.turns w.depth (S w)) (LPost leaves types)
  unfolding parse.post
  post_law R w d fits = look start start_local (λ w at. parse.prim leaves types w.turns w.depth (S w) >>= (λ x. parse.post_from leaves types w.turns w.depth (S w) w.turns at x)) (record { word = one_at leaves types nowhere2 ∷ []; value = (one_tree leaves types nowhere2, 1); is = prim (one_prim leaves types nowhere2) })
      (λ at. bind (located at (λ u x p. post_long leaves types p.0) (operand_has leaves types at) (prim_law leaves types R w S)) (λ u x p. posts_law R w d fits u x at p.0 p.1))

  -- ---- unary expressions

  pub opened_law : (R : Type 0) (w : World) → w.depth ≡ n → (R → w.fuel ≤ w.turns) → (o : Token) → o.kind ≡ k.LeftParen → Law R w Any (λ w. parse.opened leaves types w.turns w.depth (S w) o) (λ v y. LPost leaves types (o ∷ v) y)
  unfolding parse.opened
  opened_law R w d fits o oc = bind (listed_law R w d fits) (λ u xs l.
      expect_law (λ w c. parse.post_from leaves types w.turns w.depth (S w) w.turns o.place (operand (closed o.place xs).0 (closed o.place xs).1)) k.RightParen (λ c ec.
      relang (λ r z j. subst (λ q. LPost leaves types (o ∷ q) z) (append_assoc u (c ∷ []) r) j)
      (posts_law R w d fits (o ∷ (u ++ c ∷ [])) (operand (closed o.place xs).0 (closed o.place xs).1) o.place
      (operand_of leaves types (prim (closed_is leaves types o c oc l ec)) (ends_closed [] o u c k.RightParen ec refl)) refl)))

  pub cast_law : (R : Type 0) (w : World) → w.depth ≡ n → (R → w.fuel ≤ w.turns) → (o : Token) → o.kind ≡ k.LeftParen → Law R w Any (λ w. parse.cast leaves types w.turns w.depth (S w) o.place) (λ v y. LUnary leaves types (o ∷ v) y)
  unfolding parse.cast
  cast_law R w d fits o oc = bind (starred_within_law leaves types R w Any fits) (λ u x a.
      expect_law (λ w c. S w (want.Binary 0) >>= (λ y. pure (e.Cast o.place x.0 y.0, max x.1 y.1 + 1))) k.RightParen (λ c ec.
      map_law (λ y. (e.Cast o.place x.0 y.0, max x.1 y.1 + 1)) (subs R w d fits (want.Binary 0) tt) (λ v y b. cast o c oc a.is ec (unary_of leaves types b))))

  unary_has : Has (LUnary leaves types)
  unary_has = record { word = one_at leaves types nowhere2 ∷ []; value = (one_tree leaves types nowhere2, 1); is = one_unary leaves types nowhere2 }

  parenthesis_law : (R : Type 0) (w : World) (G : List Token → Type 0) → w.depth ≡ n → (R → w.fuel ≤ w.turns) → ((t : Token) (ts : List Token) → G (t ∷ ts) → t.kind ≡ k.LeftParen)
      → Law R w G (λ w. parse.parenthesis leaves types w.turns w.depth (S w)) (LUnary leaves types)
  unfolding parse.parenthesis
  parenthesis_law R w G d fits g = take_law (λ w o. looks (sees_type types) >>= (λ is. if is then parse.cast leaves types w.turns w.depth (S w) o.place else parse.opened leaves types w.turns w.depth (S w) o)) (nat_lt 0) (lt_grows 0) (λ t. t.kind ≡ k.LeftParen) g unary_has
      (λ o oc. let r0 = R × (nat_lt 0 w.depth ≡ true) in
      let parens : Law r0 w Any (λ w. parse.opened leaves types w.turns w.depth (S w) o) (λ v y. LUnary leaves types (o ∷ v) y) = relang (λ v y p. post p) (opened_law r0 w d (λ r. fits r.0) o oc) in
      look (sees_type types) (type_local leaves types) (λ w is. if is then parse.cast leaves types w.turns w.depth (S w) o.place else parse.opened leaves types w.turns w.depth (S w) o) parens.has
      (λ is. choose is (λ yes. anywhere (cast_law r0 w d (λ r. fits r.0) o oc)) (λ no. anywhere parens)))

  size_type_law : (R : Type 0) (w : World) → (R → w.fuel ≤ w.turns) → (t o : Token) → t.kind ≡ k.Sizeof → o.kind ≡ k.LeftParen → Law R w Any (λ w. parse.size_of_type leaves types w.turns w.depth (S w) t.place) (λ v y. LUnary leaves types (t ∷ o ∷ v) y)
  unfolding parse.size_of_type
  size_type_law R w fits t o tc oc = bind (starred_within_law leaves types R w Any fits) (λ u x a.
      expect_law (λ w c. pure (e.SizeofType t.place x.0, x.1 + 1)) k.RightParen (λ c ec. pure_law (e.SizeofType t.place x.0, x.1 + 1) (sizeof_type t o c tc oc a.is ec)))

  size_inside_law : (R : Type 0) (w : World) (G : List Token → Type 0) → w.depth ≡ n → (R → w.fuel ≤ w.turns) → (t : Token) → t.kind ≡ k.Sizeof → ((o : Token) (ts : List Token) → G (o ∷ ts) → o.kind ≡ k.LeftParen) → Has (λ v y. LUnary leaves types (t ∷ v) y)
      → Law R w G (λ w. parse.size_inside leaves types w.turns w.depth (S w) t.place) (λ v y. LUnary leaves types (t ∷ v) y)
  unfolding parse.size_inside parse.size_of_value
  size_inside_law R w G d fits t tc g has = take_law (λ w o. looks (sees_type types) >>= (λ is. if is then parse.size_of_type leaves types w.turns w.depth (S w) t.place else (S w (want.Opened o) >>= (λ x. pure (e.SizeofValue t.place x.0, x.1 + 1))))) always (λ m n l e. e) (λ o. o.kind ≡ k.LeftParen) g has
      (λ o oc. let r0 = R × (true ≡ true) in
      let types_law : Law r0 w Any (λ w. parse.size_of_type leaves types w.turns w.depth (S w) t.place) (λ v y. LUnary leaves types (t ∷ o ∷ v) y) = size_type_law r0 w (λ r. fits r.0) t o tc oc in
      look (sees_type types) (type_local leaves types) (λ w is. if is then parse.size_of_type leaves types w.turns w.depth (S w) t.place else (S w (want.Opened o) >>= (λ x. pure (e.SizeofValue t.place x.0, x.1 + 1)))) types_law.has
      (λ is. choose is (λ yes. anywhere types_law)
      (λ no. anywhere (map_law (λ x. (e.SizeofValue t.place x.0, x.1 + 1)) (subs r0 w d (λ r. fits r.0) (want.Opened o) oc) (λ v x p. sizeof_value t tc (post p) (post_is_no_cast leaves types p))))))

  paren_local : (ts ts' : List Token) → head ts ≡ head ts' → same_kind (kind ts) k.LeftParen ≡ same_kind (kind ts') k.LeftParen
  paren_local ts ts' h = ap (λ kd. same_kind kd k.LeftParen) (kind_local ts ts' h)

  number_paren : same_kind (kind (one_at leaves types nowhere2 ∷ [])) k.LeftParen ≡ false
  unfolding kind same_kind
  number_paren = refl

  -- the operand of `sizeof` that begins with no parenthesis
  size_value_law : (R : Type 0) (w : World) → w.depth ≡ n → (R → w.fuel ≤ w.turns) → (t : Token) → t.kind ≡ k.Sizeof
      → Law R w (λ ts. Any ts × (same_kind (kind ts) k.LeftParen ≡ false)) (λ w. parse.size_of_value leaves types w.turns w.depth (S w) t.place (want.Binary 0)) (λ v y. LUnary leaves types (t ∷ v) y)
  unfolding parse.size_of_value
  size_value_law R w d fits t tc = map_law (λ x. (e.SizeofValue t.place x.0, x.1 + 1))
      (seen (λ ts. same_kind (kind ts) k.LeftParen) paren_local false (λ u x b. binary_long leaves types b)
      (record { word = one_at leaves types nowhere2 ∷ []; value = (one_tree leaves types nowhere2, 1); is = (unary (one_unary leaves types nowhere2), number_paren) })
      (subs R w d fits (want.Binary 0) tt))
      (λ v x b. sizeof_value t tc (unary_of leaves types b.0) (other_no_cast leaves types v b.1))

  pub with_guard : {A R : Type 0} {w : World} {G G' : List Token → Type 0} {p : Family A} {Q : Lang A} → ((ts : List Token) → G' ts → G ts) → Law R w G p Q → Law R w G' p Q
  with_guard f l = record { run = λ rt ts g s. l.run rt ts (f ts g) s; has = l.has }

  size_law : (R : Type 0) (w : World) (G : List Token → Type 0) → w.depth ≡ n → (R → w.fuel ≤ w.turns) → ((t : Token) (ts : List Token) → G (t ∷ ts) → t.kind ≡ k.Sizeof)
      → Law R w G (λ w. parse.size leaves types w.turns w.depth (S w)) (LUnary leaves types)
  unfolding parse.size
  size_law R w G d fits g = take_law (λ w t. peek >>= (λ next. if same_kind next k.LeftParen then parse.size_inside leaves types w.turns w.depth (S w) t.place else parse.size_of_value leaves types w.turns w.depth (S w) t.place (want.Binary 0))) always (λ m n l e. e) (λ t. t.kind ≡ k.Sizeof) g unary_has
      (λ t tc. let r0 = R × (true ≡ true) in
      let values = size_value_law r0 w d (λ r. fits r.0) t tc in
      look kind kind_local (λ w next. if same_kind next k.LeftParen then parse.size_inside leaves types w.turns w.depth (S w) t.place else parse.size_of_value leaves types w.turns w.depth (S w) t.place (want.Binary 0)) values.has
      (λ next. choose (same_kind next k.LeftParen)
      (λ yes. size_inside_law r0 w (λ ts. Any ts × (kind ts ≡ next)) d (λ r. fits r.0) t tc (λ o ts q. first_kind o ts next q.1 ∙ kind_is next k.LeftParen yes) values.has)
      (λ no. with_guard (λ ts q. (tt, ap (λ kd. same_kind kd k.LeftParen) q.1 ∙ no)) values)))

  prefixed_law : (R : Type 0) (w : World) (G : List Token → Type 0) (op : UnaryOp) → w.depth ≡ n → (R → w.fuel ≤ w.turns) → ((t : Token) (ts : List Token) → G (t ∷ ts) → prefix_operator t.kind ≡ Some op)
      → Law R w G (λ w. parse.prefixed leaves types w.turns w.depth (S w) op) (LUnary leaves types)
  unfolding parse.prefixed
  prefixed_law R w G op d fits g = take_law (λ w t. S w (want.Binary 0) >>= (λ x. pure (e.Unary t.place op x.0, x.1 + 1))) (nat_lt 0) (lt_grows 0) (λ t. prefix_operator t.kind ≡ Some op) g unary_has
      (λ t tc. map_law (λ x. (e.Unary t.place op x.0, x.1 + 1)) (subs (R × (nat_lt 0 w.depth ≡ true)) w d (λ r. fits r.0) (want.Binary 0) tt) (λ v x b. prefix t tc (unary_of leaves types b)))

  pub unary_law : (R : Type 0) (w : World) → w.depth ≡ n → (R → w.fuel ≤ w.turns) → Law R w Any (λ w. parse.unary leaves types w.turns w.depth (S w)) (LUnary leaves types)
  unfolding parse.unary
  unary_law R w d fits = look kind kind_local (λ w next. parse.unary_by leaves types w.turns w.depth (S w) next (prefix_operator next)) unary_has (λ next. by next (prefix_operator next) refl)
    where
      by : (next : TokenKind) (o : Option UnaryOp) → prefix_operator next ≡ o → Law R w (λ ts. Any ts × (kind ts ≡ next)) (λ w. parse.unary_by leaves types w.turns w.depth (S w) next o) (LUnary leaves types)
      by next (Some op) oe = prefixed_law R w (λ ts. Any ts × (kind ts ≡ next)) op d fits (λ t ts g. ap prefix_operator (first_kind t ts next g.1) ∙ oe)
      by next None oe = choose (same_kind next k.LeftParen)
          (λ yes. parenthesis_law R w (λ ts. Any ts × (kind ts ≡ next)) d fits (λ t ts g. first_kind t ts next g.1 ∙ kind_is next k.LeftParen yes))
          (λ no. choose (same_kind next k.Sizeof)
          (λ yes. size_law R w (λ ts. Any ts × (kind ts ≡ next)) d fits (λ t ts g. first_kind t ts next g.1 ∙ kind_is next k.Sizeof yes))
          (λ no2. anywhere (relang (λ u x p. post p) (post_law R w d fits))))

  -- ---- operators of one level

  chain_turn : (R : Type 0) (w : World) → w.depth ≡ n → (R → w.fuel ≤ w.turns) → (l : ℕ) (u : List Token) (x : Sized) (at : Place) → IsBinary leaves types (suc l) u x.0 x.1 → start u ≡ at
      → ((v : List Token) (y : Sized) → IsBinary leaves types (suc l) v y.0 y.1 → start v ≡ at → Law (R × (nat_le x.1 w.depth ≡ true)) (down w) Any (λ w. parse.chain_from leaves types w.turns w.depth (S w) w.fuel l at y) (λ r z. LBinary leaves types (suc l) (v ++ r) z))
      → (next : TokenKind) (o : Option BinaryOp) → operator l next ≡ o
      → Law R w (λ ts. Any ts × (kind ts ≡ next)) (λ w. parse.chain_by leaves types w.turns w.depth (S w) (parse.chain_from leaves types w.turns w.depth (S w) (pred w.fuel) l at) l at x o) (λ v y. LBinary leaves types (suc l) (u ++ v) y)
  chain_turn R w d fits l u x at p s rec _ None oe = pure_law x (at_nil leaves types (LBinary leaves types (suc l)) u x p)
  chain_turn R w d fits l u x at p s rec next (Some op) oe =
      turn_law (λ w t. S w (want.Binary l) >>= (λ y. parse.chain_from leaves types w.turns w.depth (S w) w.fuel l at (e.Binary at op x.0 y.0, max x.1 y.1 + 1))) (nat_le x.1) (le_grows x.1) (λ t. operator l t.kind ≡ Some op)
      (λ t ts g. ap (operator l) (first_kind t ts next g.1) ∙ oe) (record { word = []; value = x; is = at_nil leaves types (LBinary leaves types (suc l)) u x p })
      (λ t c. bind (subs (R × (nat_le x.1 w.depth ≡ true)) (down w) d (λ r. down_fits w.fuel w.turns (fits r.0)) (want.Binary l) tt) (λ v y b.
      relang (λ r z j. subst (λ q. LBinary leaves types (suc l) q z) (append_assoc u (t ∷ v) r) j)
      (rec (u ++ t ∷ v) (e.Binary at op x.0 y.0, max x.1 y.1 + 1)
      (subst (λ q. IsBinary leaves types (suc l) (u ++ t ∷ v) (e.Binary q op x.0 y.0) (max x.1 y.1 + 1)) s (binary t p c b)) (start_of u (t ∷ v) (binary_long leaves types p) ∙ s))))

  chain_law : (R : Type 0) (m : ℕ) (w : World) → w.fuel ≡ m → w.depth ≡ n → (R → w.fuel ≤ w.turns) → (l : ℕ) (u : List Token) (x : Sized) (at : Place) → IsBinary leaves types (suc l) u x.0 x.1 → start u ≡ at
      → Law R w Any (λ w. parse.chain_from leaves types w.turns w.depth (S w) w.fuel l at x) (λ v y. LBinary leaves types (suc l) (u ++ v) y)
  unfolding parse.chain_from
  chain_law R zero w fe d fits l u x at p s = no_turn fe (record { word = []; value = x; is = at_nil leaves types (LBinary leaves types (suc l)) u x p })
  chain_law R (suc m) w fe d fits l u x at p s =
      a_turn (λ i w. parse.chain_from leaves types w.turns w.depth (S w) i l at x) m fe
      (look kind kind_local (λ w next. parse.chain_by leaves types w.turns w.depth (S w) (parse.chain_from leaves types w.turns w.depth (S w) (pred w.fuel) l at) l at x (operator l next))
      (record { word = []; value = x; is = at_nil leaves types (LBinary leaves types (suc l)) u x p })
      (λ next. chain_turn R w d fits l u x at p s (λ v y q sv. chain_law (R × (nat_le x.1 w.depth ≡ true)) m (down w) (ap pred fe) d (λ r. down_fits w.fuel w.turns (fits r.0)) l v y at q sv) next (operator l next) refl))

  iterated_law : (R : Type 0) (w : World) → w.depth ≡ n → (R → w.fuel ≤ w.turns) → (u : List Token) (x : Sized) (at : Place) → IsBinary leaves types 3 u x.0 x.1 → start u ≡ at
      → Law R w Any (λ w. parse.iterated leaves types w.turns w.depth (S w) at x) (λ v y. LBinary leaves types 4 (u ++ v) y)
  unfolding parse.iterated
  iterated_law R w d fits u x at p s =
      let end : IsBinary leaves types 4 (u ++ []) x.0 x.1 = at_nil leaves types (LBinary leaves types 4) u x (tighter p) in
      look kind kind_local (λ w next. if same_kind next k.ColonColon then (take_if (nat_le x.1 w.depth) >>= (λ _. S w (want.Binary 3) >>= (λ y. pure (e.Iterator at x.0 y.0, max x.1 y.1 + 1)))) else pure x) (record { word = []; value = x; is = end })
      (λ next. choose (same_kind next k.ColonColon)
      (λ yes. take_law (λ w t. S w (want.Binary 3) >>= (λ y. pure (e.Iterator at x.0 y.0, max x.1 y.1 + 1))) (nat_le x.1) (le_grows x.1) (λ t. t.kind ≡ k.ColonColon) (λ t ts g. first_kind t ts next g.1 ∙ kind_is next k.ColonColon yes) (record { word = []; value = x; is = end })
      (λ t c. map_law (λ y. (e.Iterator at x.0 y.0, max x.1 y.1 + 1)) (subs (R × (nat_le x.1 w.depth ≡ true)) w d (λ r. fits r.0) (want.Binary 3) tt)
      (λ v y b. subst (λ q. IsBinary leaves types 4 (u ++ t ∷ v) (e.Iterator q x.0 y.0) (max x.1 y.1 + 1)) s (iterator t p c b))))
      (λ no. pure_law x end))

  equal_is : (a b : ℕ) → (a == b) ≡ true → a ≡ b
  equal_is a b h = grind arith

  level_law : (R : Type 0) (w : World) → w.depth ≡ n → (R → w.fuel ≤ w.turns) → (l : ℕ) (u : List Token) (x : Sized) (at : Place) → IsBinary leaves types l u x.0 x.1 → start u ≡ at
      → Law R w Any (λ w. parse.level_of leaves types w.turns w.depth (S w) l at x) (λ v y. LBinary leaves types (suc l) (u ++ v) y)
  unfolding parse.level_of
  level_law R w d fits l u x at p s = choose (l == 3)
      (λ yes. let is3 : l ≡ 3 = equal_is l 3 yes in
      relang (λ v y q. subst (λ m. IsBinary leaves types (suc m) (u ++ v) y.0 y.1) (sym is3) q) (iterated_law R w d fits u x at (subst (λ m. IsBinary leaves types m u x.0 x.1) is3 p) s))
      (λ no. all_turns fits (λ i w. parse.chain_from leaves types w.turns w.depth (S w) i l at x) (chain_law (w.fuel ≤ w.turns) w.turns (record w { fuel = w.turns }) refl d (λ r. omega arith) l u x at (tighter p) s))

  levels_law : (R : Type 0) (w : World) → w.depth ≡ n → (R → w.fuel ≤ w.turns) → (l : ℕ) (u : List Token) (x : Sized) (at : Place) → IsUnary leaves types u x.0 x.1 → start u ≡ at
      → Law R w Any (λ w. parse.levels leaves types w.turns w.depth (S w) l at x) (λ v y. LBinary leaves types l (u ++ v) y)
  unfolding parse.levels
  levels_law R w d fits zero u x at p s = pure_law x (unary (at_nil leaves types (LUnary leaves types) u x p))
  levels_law R w d fits (suc l) u x at p s = bind (levels_law R w d fits l u x at p s) (λ v y q.
      relang (λ r z j. subst (λ m. LBinary leaves types (suc l) m z) (append_assoc u v r) j) (level_law R w d fits l (u ++ v) y at q (start_of u v (unary_long leaves types p) ∙ s)))

  unary_place : (at : Place) → Has (λ u a. LUnary leaves types u a × (start u ≡ at))
  unary_place at = record { word = one_at leaves types at ∷ []; value = (one_tree leaves types at, 1); is = (one_unary leaves types at, refl) }

  unary_at_law : (R : Type 0) (w : World) → w.depth ≡ n → (R → w.fuel ≤ w.turns) → (at : Place) → Law R w (λ ts. Any ts × (start ts ≡ at)) (λ w. parse.unary leaves types w.turns w.depth (S w)) (λ u x. LUnary leaves types u x × (start u ≡ at))
  unary_at_law R w d fits at = located at (λ u x p. unary_long leaves types p) (unary_place at) (unary_law R w d fits)

  binary_law : (R : Type 0) (w : World) → w.depth ≡ n → (R → w.fuel ≤ w.turns) → (l : ℕ) → Law R w Any (λ w. parse.binary leaves types w.turns w.depth (S w) l) (LBinary leaves types l)
  unfolding parse.binary
  binary_law R w d fits l = look start start_local (λ w at. parse.unary leaves types w.turns w.depth (S w) >>= (λ x. parse.levels leaves types w.turns w.depth (S w) l at x)) (want_has leaves types (want.Binary l) tt)
      (λ at. bind (unary_at_law R w d fits at) (λ u x p. levels_law R w d fits l u x at p.0 p.1))

  -- ---- assignments and sequences

  pub asg_after_law : (R : Type 0) (w : World) → w.depth ≡ n → (R → w.fuel ≤ w.turns) → (u : List Token) (x : Sized) (at : Place) → IsUnary leaves types u x.0 x.1 → start u ≡ at
      → Law R w Any (λ w. parse.asg_after leaves types w.turns w.depth (S w) at x) (λ v y. LAsg leaves types (u ++ v) y)
  unfolding parse.asg_after
  asg_after_law R w d fits u x at p s = look kind kind_local (λ w next. parse.assigned_by leaves types w.turns w.depth (S w) at x (assign_operator next)) plain.has (λ next. by next (assign_operator next) refl)
    where
      plain : Law R w Any (λ w. parse.levels leaves types w.turns w.depth (S w) loosest at x) (λ v y. LAsg leaves types (u ++ v) y)
      plain = relang (λ v y q. value q) (levels_law R w d fits loosest u x at p s)

      by : (next : TokenKind) (o : Option AssignOp) → assign_operator next ≡ o → Law R w (λ ts. Any ts × (kind ts ≡ next)) (λ w. parse.assigned_by leaves types w.turns w.depth (S w) at x o) (λ v y. LAsg leaves types (u ++ v) y)
      by _ None oe = anywhere plain
      by next (Some op) oe = take_law (λ w t. S w want.Assignment >>= (λ y. pure (e.Assign at op x.0 y.0, max x.1 y.1 + 1))) (nat_le x.1) (le_grows x.1) (λ t. assign_operator t.kind ≡ Some op) (λ t ts g. ap assign_operator (first_kind t ts next g.1) ∙ oe) plain.has
          (λ t c. map_law (λ y. (e.Assign at op x.0 y.0, max x.1 y.1 + 1)) (subs (R × (nat_le x.1 w.depth ≡ true)) w d (λ r. fits r.0) want.Assignment tt)
          (λ v y a. subst (λ q. IsAsg leaves types (u ++ t ∷ v) (e.Assign q op x.0 y.0) (max x.1 y.1 + 1)) s (assign t p c a)))

  pub asg_law : (R : Type 0) (w : World) → w.depth ≡ n → (R → w.fuel ≤ w.turns) → Law R w Any (λ w. parse.asg leaves types w.turns w.depth (S w)) (LAsg leaves types)
  unfolding parse.asg
  asg_law R w d fits = look start start_local (λ w at. parse.unary leaves types w.turns w.depth (S w) >>= (λ x. parse.asg_after leaves types w.turns w.depth (S w) at x)) (want_has leaves types want.Assignment tt)
      (λ at. bind (unary_at_law R w d fits at) (λ u x p. asg_after_law R w d fits u x at p.0 p.1))

  sequence_is : (at : Place) {u : List Token} {xs : List Expr} {h : ℕ} → IsMany leaves types u xs h → start u ≡ at → IsExpr leaves types u (e.Sequence at xs) (h + 1)
  sequence_is at (many t {u = u} {v = v} {xs = xs} {x = x} {h = h} {i = i} l c a) s = subst (λ q. IsExpr leaves types (u ++ t ∷ v) (e.Sequence q (xs ++ x ∷ [])) (max h i + 1)) (sym (start_of u (t ∷ v) (asgs_long l)) ∙ s) (sequence t l c a)
    where
      asgs_long : {u : List Token} {xs : List Expr} {h : ℕ} → IsAsgs leaves types u xs h → 0 < length u
      asgs_long (one d) = asg_long leaves types d
      asgs_long (more t {u = u} {v = v} l c d) = omega (arith, length-append u (t ∷ v))

  sequence_law : (R : Type 0) (w : World) (G : List Token → Type 0) → w.depth ≡ n → (R → w.fuel ≤ w.turns) → ((ts : List Token) → G ts → same_kind (kind ts) k.Comma ≡ true) → (u : List Token) (x : Sized) (at : Place) → IsAsg leaves types u x.0 x.1 → start u ≡ at
      → Law R w G (λ w. parse.sequence leaves types w.turns w.depth (S w) at x) (λ v y. LExpr leaves types (u ++ v) y)
  unfolding parse.sequence
  sequence_law R w G d fits g u x at p s = map_law (λ xs. (e.Sequence at xs.0, xs.1 + 1))
      (all_turns fits (λ i w. parse.more_from leaves types w.turns w.depth (S w) i (x.0 ∷ []) x.1) (many_law (w.fuel ≤ w.turns) w.turns (record w { fuel = w.turns }) refl d (λ r. omega arith) G g u (x.0 ∷ []) x.1 (one p)))
      (λ v xs q. sequence_is at q (start_of u v (asg_long leaves types p) ∙ s))

  comma_kind : (ts : List Token) (kd : TokenKind) → kind ts ≡ kd → same_kind kd k.Comma ≡ true → same_kind (kind ts) k.Comma ≡ true
  comma_kind ts kd h c = ap (λ kd. same_kind kd k.Comma) h ∙ c

  nothing_comma : same_kind (kind []) k.Comma ≡ true → ⊥
  unfolding kind same_kind
  nothing_comma h = cc

  pub expr_after_law : (R : Type 0) (w : World) → w.depth ≡ n → (R → w.fuel ≤ w.turns) → (u : List Token) (x : Sized) (at : Place) → IsAsg leaves types u x.0 x.1 → start u ≡ at
      → Law R w Any (λ w. parse.expr_after leaves types w.turns w.depth (S w) at x) (λ v y. LExpr leaves types (u ++ v) y)
  unfolding parse.expr_after
  expr_after_law R w d fits u x at p s =
      let end : IsExpr leaves types (u ++ []) x.0 x.1 = at_nil leaves types (LExpr leaves types) u x (only p) in
      look kind kind_local (λ w next. if same_kind next k.Comma then (if nat_le x.1 w.depth then parse.sequence leaves types w.turns w.depth (S w) at x else (take_if false >> refuse)) else pure x) (record { word = []; value = x; is = end })
      (λ next. choose (same_kind next k.Comma)
      (λ yes. room_law (nat_le x.1) (le_grows x.1) (λ g. nothing_comma (comma_kind [] next g.1 yes))
      (λ t ts g. let c = first_kind t ts next g.1 ∙ kind_is next k.Comma yes in record { word = one_at leaves types nowhere2 ∷ []; value = (e.Sequence at (x.0 ∷ one_tree leaves types nowhere2 ∷ []), max x.1 1 + 1); is = subst (λ q. IsExpr leaves types (u ++ t ∷ one_at leaves types nowhere2 ∷ []) (e.Sequence q (x.0 ∷ one_tree leaves types nowhere2 ∷ [])) (max x.1 1 + 1)) s (sequence t (one p) c (one_asg leaves types nowhere2)) })
      (sequence_law (R × (nat_le x.1 w.depth ≡ true)) w (λ ts. Any ts × (kind ts ≡ next)) d (λ r. fits r.0) (λ ts g. comma_kind ts next g.1 yes) u x at p s))
      (λ no. pure_law x end))

  asg_place : (at : Place) → Has (λ u a. LAsg leaves types u a × (start u ≡ at))
  asg_place at = record { word = one_at leaves types at ∷ []; value = (one_tree leaves types at, 1); is = (one_asg leaves types at, refl) }

  pub expr_law : (R : Type 0) (w : World) → w.depth ≡ n → (R → w.fuel ≤ w.turns) → Law R w Any (λ w. parse.expr_at leaves types w.turns w.depth (S w)) (LExpr leaves types)
  unfolding parse.expr_at
  expr_law R w d fits = look start start_local (λ w at. parse.asg leaves types w.turns w.depth (S w) >>= (λ x. parse.expr_after leaves types w.turns w.depth (S w) at x)) (want_has leaves types want.Expression tt)
      (λ at. bind (located at (λ u x p. asg_long leaves types p) (asg_place at) (asg_law R w d fits)) (λ u x p. expr_after_law R w d fits u x at p.0 p.1))

  want_law : (R : Type 0) (w : World) → w.depth ≡ n → (R → w.fuel ≤ w.turns) → (x : Want) → Right leaves types x → Law R w Any (λ w. parse.at_want leaves types w.turns w.depth (S w) x) (LWant leaves types x)
  want_law R w d fits want.Expression r = expr_law R w d fits
  want_law R w d fits want.Assignment r = asg_law R w d fits
  want_law R w d fits (want.Binary l) r = binary_law R w d fits l
  want_law R w d fits (want.Opened o) r = opened_law R w d fits o r

module _ (leaves : Leaves) (types : List ℕ) where
  pub within_law : (n : ℕ) (R : Type 0) (w : World) → w.depth ≡ n → (R → w.fuel ≤ w.turns) → (x : Want) → Right leaves types x → Law R w Any (λ w. within leaves types w.turns w.depth x) (LWant leaves types x)
  unfolding within
  within_law zero R w d fits x r = zero_law leaves types R w d x r
  within_law (suc n) R w d fits x r =
      view_law lower (λ w' ab. lower_above w w' ab) (λ w' ab same. ap pred same) (λ r. r) (λ r. omega arith)
      (λ w' ab ts. ap (λ m. within leaves types w'.turns m x ts) (some_pred w'.depth n (omega (arith, ab.depth))))
      (want_law leaves types n (λ R' w2 d2 f2 x2 r2. within_law n R' w2 d2 f2 x2 r2) R (lower w) (ap pred d) fits x r)
