-- Declarations, and statements that are expressions, are read as what they are.
use Rattle.std.proofs.Common.{◌≡◌, ℕ, zero, suc, pred, ◌+◌, ◌<◌, ◌≤◌, ◌==◌, max, nat_lt, Bool, true, false, if◌then◌else◌, ◌||◌, ◌&&◌, not, List, [], ◌∷◌, ◌++◌, length, Option, Some, None, is_some, Ok, Err, ◌⊎◌, inl, inr, refl, sym, ap, ap₂, ◌∙◌, subst, arith, append_assoc, append-nil, length-append}
use Rattle.std.proofs.lemmas.Grind.{common_steps}
use Rattle.al_base.specs.declared.place.Place.{Place}
use Rattle.al_lex.specs.declared.kind.TokenKind.{TokenKind}
use Rattle.al_lex.specs.declared.kind.TokenKind.TheVariants as k
use Rattle.al_lex.specs.declared.token.Token.{Token}
use Rattle.al_tree.specs.Words.{start, level, operation, operator, prefix_operator}
use Rattle.al_tree.specs.Types.{Leaves, known, IsOtherName, other_name, IsBase, IsDcl, AreStars, IsBounds}
use Rattle.al_tree.specs.Types as rules
use Rattle.al_tree.specs.Expressions.{IsAsg, IsAsgs, IsExpr, IsPost, prim, name, post, one, more, only, sequence}
use Rattle.al_tree.specs.Statements as g
use Rattle.al_tree.specs.Statements.{IsVariable, IsVariables, IsBodyStmt}
use Rattle.al_tree.specs.Reading.{Outcome, Parser, and_then, ◌>>=◌, pure, kind, name_number, same_kind, take_if, expect_if}
use Rattle.al_tree.specs.declared.cursor.ParseError.TheVariants.{Stuck}
use Rattle.al_tree.specs.declared.type_tree.Dcl.{Dcl}
use Rattle.al_tree.specs.declared.type_tree.TypeTree.{TypeTree}
use Rattle.al_tree.specs.declared.expression.Expr.{Expr}
use Rattle.al_tree.specs.declared.expression.Expr.TheVariants as e
use Rattle.al_tree.specs.declared.statement.Variable.{Variable}
use Rattle.al_tree.specs.declared.statement.Stmt.{Stmt}
use Rattle.al_tree.specs.declared.statement.Stmt.TheVariants as sm
use Rattle.al_tree.proofs.Law.{head, some_pred, start_of}
use Rattle.al_parse_type.specs.declared.part.ReadBase.{ReadBase}
use Rattle.al_parse_type.specs.Parse.{sees_type, sees_other_name, sized_base, dcl}
use Rattle.al_parse_type.specs.Within.{base_within, tuple_within}
use Rattle.al_parse_type.proofs.BoundLaw.{kind_is, and_parts}
use Rattle.al_parse_type.proofs.BoundComplete.{less_pred, rest_short, tail_short, nat_lt_is, kind_of, dcl_c}
use Rattle.al_parse_type.proofs.TypeLaw.{base_long}
use Rattle.al_parse_type.proofs.TypeComplete.{FollowType, Bare, base_sees, paren_sees}
use Rattle.al_parse_type.proofs.BaseWhole.{TupleRest, tuple_rest, no_bracket_ends, base_within_c}
use Rattle.al_parse_expr.specs.Parse as eparse
use Rattle.al_parse_expr.specs.Parse.{Sized, begins_value, within as expr_within}
use Rattle.al_parse_expr.specs.Within.{expression_within, assignment_within, after_name, after_unary, after_assignment}
use Rattle.al_parse_expr.proofs.Begins.{asg_starts, asgs_starts, asg_long, asg_high, expr_high, value_local, neither}
use Rattle.al_parse_expr.proofs.Stops.{stops}
use Rattle.al_parse_expr.proofs.Follow.{FollowAsg, FollowExpr, before_comma}
use Rattle.al_parse_expr.proofs.ExprComplete.{expr_c, asg_c, at_kind}
use Rattle.al_parse_expr.proofs.ExprSteps as estep
use Rattle.al_parse_block.specs.Begun.{cast_begun, paren_begun, begun}
use Rattle.al_parse_block.specs.declared.part.Begun.TheVariants as bg
use Rattle.al_parse_block.specs.Parse as parse
use Rattle.al_parse_block.specs.Parse.{SizedVariable, ended, starts, begins_inner, begins_statement, within}
use Rattle.al_parse_block.specs.declared.part.ReadStmt.{ReadStmt}
use Rattle.al_parse_block.specs.declared.part.Want.{Want}
use Rattle.al_parse_block.proofs.Steps as step
use Rattle.al_parse_block.proofs.BegunComplete.{Opened, Continues, as_cast, as_paren, opened_c, type_c, comma_next, comma_no_close, kind_before}

if_both : {A : Type 0} (b : Bool) → ◌≡◌ {A = Option A} (if b then None else None) None
if_both true = refl
if_both false = refl

no_operator : (kd : TokenKind) (i : ℕ) → operation kd ≡ None → operator i kd ≡ None
no_operator kd i h = rw h (if_both (level kd == i))

pub before_semicolon : FollowExpr k.Semicolon
unfolding same_kind
before_semicolon = record { asg = record { follow = record { post = record { no_access = refl; no_postfix = refl; no_bracket = refl; no_paren = refl }; operators = λ i s. no_operator k.Semicolon i refl; colons = λ s. refl }; assign = refl }; comma = refl }

pub before_colon : FollowExpr k.Colon
unfolding same_kind
before_colon = record { asg = record { follow = record { post = record { no_access = refl; no_postfix = refl; no_bracket = refl; no_paren = refl }; operators = λ i s. no_operator k.Colon i refl; colons = λ s. refl }; assign = refl }; comma = refl }

not_true : (b : Bool) → b ≡ true → b ≡ false → ⊥
not_true b t f = let e : true ≡ false = sym t ∙ f in let x : ⊥ = cc in x

no_both : (b c : Bool) → c ≡ false → (b && c) ≡ false
no_both true c h = h
no_both false c h = refl

twice : {A B C : Type 0} (o : Outcome A) (f : A → Parser B) (h : B → Parser C) → and_then (and_then o f) h ≡ and_then o (λ a r. and_then (f a r) h)
twice (Ok x) f h = refl
twice (Err x) f h = refl

head_before : (u v : List Token) → 0 < length u → head (u ++ v) ≡ head u
head_before [] v h = absurd (omega arith)
head_before (t ∷ u) v h = refl

-- what is left begins with one token
same_first : {A : Type 0} (x y : A) (t c : Token) (r l : List Token) → ◌≡◌ {A = Outcome A} (Ok (x, t ∷ r)) (Ok (y, c ∷ l)) → t ≡ c
same_first {A} x y t c r l h =
    let p : ◌≡◌ {A = A × List Token} (x, t ∷ r) (y, c ∷ l) = cc in
    let q : t ∷ r ≡ c ∷ l = ap (λ (o : A × List Token). o.1) p in
    first_is q
  where
    first_is : {t c : Token} {r l : List Token} → t ∷ r ≡ c ∷ l → t ≡ c
    first_is h = cc

semicolon_no_colon : k.Semicolon ≡ k.Colon → ⊥
semicolon_no_colon h = cc

-- ---- what follows a variable

pub record FollowVariable (r : List Token) : Type 0 where
  pub bracket : same_kind (kind r) k.LeftBracket ≡ false
  pub equal : same_kind (kind r) k.Equal ≡ false
  pub asg : FollowAsg (kind r)

pub variable_before : (t : Token) (ts : List Token) (kd : TokenKind) → t.kind ≡ kd → same_kind kd k.LeftBracket ≡ false → same_kind kd k.Equal ≡ false → FollowAsg kd → FollowVariable (t ∷ ts)
unfolding kind
variable_before t ts kd c b q f = record { bracket = ap (λ x. same_kind x k.LeftBracket) c ∙ b; equal = ap (λ x. same_kind x k.Equal) c ∙ q; asg = subst FollowAsg (sym c) f }

pub comma_variable : (t : Token) (ts : List Token) → t.kind ≡ k.Comma → FollowVariable (t ∷ ts)
unfolding same_kind
comma_variable t ts c = variable_before t ts k.Comma c refl refl before_comma

pub semicolon_variable : (t : Token) (ts : List Token) → t.kind ≡ k.Semicolon → FollowVariable (t ∷ ts)
unfolding same_kind
semicolon_variable t ts c = variable_before t ts k.Semicolon c refl refl before_semicolon.asg

semicolon_no_comma : (t : Token) (ts : List Token) → t.kind ≡ k.Semicolon → same_kind (kind (t ∷ ts)) k.Comma ≡ false
unfolding kind same_kind
semicolon_no_comma t ts c = rw c refl

equal_no_bracket : (t : Token) (ts : List Token) → t.kind ≡ k.Equal → same_kind (kind (t ∷ ts)) k.LeftBracket ≡ false
unfolding kind same_kind
equal_no_bracket t ts c = rw c refl

star_no_bracket : (t : Token) (ts : List Token) → t.kind ≡ k.Star → same_kind (kind (t ∷ ts)) k.LeftBracket ≡ false
unfolding kind same_kind
star_no_bracket t ts c = rw c refl

name_no_bracket : (t : Token) (ts : List Token) → t.kind ≡ k.Name → same_kind (kind (t ∷ ts)) k.LeftBracket ≡ false
unfolding kind same_kind
name_no_bracket t ts c = rw c refl

module _ (leaves : Leaves) (types : List ℕ) (F : ℕ) where
  -- ---- variables

  variable_c : {u : List Token} {x : Variable} {h : ℕ} → IsVariable leaves types u x h → (n : ℕ) → h ≤ n → (r : List Token) → length (u ++ r) < F → FollowVariable r → parse.variable leaves types F n (u ++ r) ≡ Ok ((x, h), r)
  variable_c (g.bare {u = u} {x = x} {h = h} d) n low r s f = step.step_bare leaves types F n (u ++ r) r x h (dcl_c leaves types F d n low r s f.bracket) f.equal
  variable_c (g.set t {u = u} {v = v} {x = x} {y = y} {h = h} {i = i} d tc a) n low r s f =
      let cut = append_assoc u (t ∷ v) r in
      let s1 : length (u ++ (t ∷ (v ++ r))) < F = omega (arith, s, ap length cut) in
      let high : 0 < i = asg_high leaves types a in
      ap (parse.variable leaves types F n) cut
      ∙ step.step_set leaves types F n t (u ++ (t ∷ (v ++ r))) v r x h (y, i) (dcl_c leaves types F d n (omega (arith, low)) (t ∷ (v ++ r)) s1 (equal_no_bracket t (v ++ r) tc)) tc (nat_lt_is 0 n (omega (arith, high, low)))
      (asg_c leaves types F a n (omega (arith, low)) r (tail_short u t (v ++ r) F s1) (inl f.asg))

  -- the first variable of a list, and the loop behind it
  record FirstVariable (n : ℕ) (u : List Token) (xs : List Variable) (h : ℕ) (r : List Token) : Type 0 where
    front : List Token
    back : List Token
    first : Variable
    low : ℕ
    is : IsVariable leaves types front first low
    lower : low ≤ h
    cut : u ≡ front ++ back
    after : FollowVariable (back ++ r)
    left : ℕ
    enough : length r < left
    loop : parse.variables_from leaves types F n F (first ∷ []) low (back ++ r) ≡ parse.variables_from leaves types F n left xs h r

  first_variable : {u : List Token} {xs : List Variable} {h : ℕ} → IsVariables leaves types u xs h → (n : ℕ) → h ≤ n → (r : List Token) → length (u ++ r) < F → FollowVariable r → FirstVariable n u xs h r
  first_variable (g.one {u = u} {x = x} {h = h} d) n low r s f = record { front = u; back = []; first = x; low = h; is = d; lower = omega arith; cut = sym (append-nil u); after = f; left = F; enough = rest_short u r F s; loop = refl }
  first_variable (g.more t {u = u} {v = v} {xs = xs} {x = x} {h = h} {i = i} l c d) n low r s f =
      let cut = append_assoc u (t ∷ v) r in
      let s1 : length (u ++ (t ∷ (v ++ r))) < F = omega (arith, s, ap length cut) in
      let q = first_variable l n (omega (arith, low)) (t ∷ (v ++ r)) s1 (comma_variable t (v ++ r) c) in
      let back_e : (q.back ++ t ∷ v) ++ r ≡ q.back ++ (t ∷ (v ++ r)) = append_assoc q.back (t ∷ v) r in
      record {
        front = q.front;
        back = q.back ++ t ∷ v;
        first = q.first;
        low = q.low;
        is = q.is;
        lower = omega (arith, q.lower);
        cut = ap (λ m. m ++ t ∷ v) q.cut ∙ append_assoc q.front q.back (t ∷ v);
        after = subst FollowVariable (sym back_e) q.after;
        left = pred q.left;
        enough = less_pred (length r) q.left (omega (arith, q.enough, length-append v r));
        loop = ap (parse.variables_from leaves types F n F (q.first ∷ []) q.low) back_e ∙ q.loop
            ∙ ap (λ m. parse.variables_from leaves types F n m xs h (t ∷ (v ++ r))) (some_pred q.left (length (t ∷ (v ++ r))) q.enough)
            ∙ step.step_variables leaves types F n (pred q.left) t v r xs h (x, i) c (variable_c d n (omega (arith, low)) r (tail_short u t (v ++ r) F s1) f);
      }

  pub declared_c : {u : List Token} {ys : List Variable} {i : ℕ} → IsVariables leaves types u ys i → (n : ℕ) → i ≤ n → (at : Place) (b : ReadBase) (t : Token) (r : List Token) → length (u ++ (t ∷ r)) < F → t.kind ≡ k.Semicolon
      → parse.declared leaves types F n at b (u ++ (t ∷ r)) ≡ Ok (ended (sm.Declare at b.tree ys) (max b.height i + 1), r)
  declared_c {u} {ys} {i} l n low at b t r s tc =
      let q = first_variable l n low (t ∷ r) s (semicolon_variable t r tc) in
      let cut : u ++ (t ∷ r) ≡ q.front ++ (q.back ++ (t ∷ r)) = ap (λ m. m ++ (t ∷ r)) q.cut ∙ append_assoc q.front q.back (t ∷ r) in
      ap (parse.declared leaves types F n at b) cut
      ∙ step.step_declared leaves types F n at t b (q.front ++ (q.back ++ (t ∷ r))) (q.back ++ (t ∷ r)) r (q.first, q.low) ys i
      (variable_c q.is n (omega (arith, q.lower, low)) (q.back ++ (t ∷ r)) (omega (arith, s, ap length cut)) q.after)
      (q.loop ∙ ap (λ m. parse.variables_from leaves types F n m ys i (t ∷ r)) (some_pred q.left (length (t ∷ r)) q.enough) ∙ step.end_variables leaves types F n (pred q.left) (t ∷ r) ys i (semicolon_no_comma t r tc)) tc

  -- a declarator begins with no bracket
  stars_begin : {u : List Token} {m : ℕ} → AreStars leaves types u m → (t : Token) (ts : List Token) → t.kind ≡ k.Name → same_kind (kind (u ++ (t ∷ ts))) k.LeftBracket ≡ false
  stars_begin rules.none t ts c = name_no_bracket t ts c
  stars_begin (rules.more o {u = u} a oc) t ts c = subst (λ l. same_kind (kind l) k.LeftBracket ≡ false) (sym (append_assoc u (o ∷ []) (t ∷ ts))) (before_star a o (t ∷ ts) oc)
    where
      before_star : {u : List Token} {m : ℕ} → AreStars leaves types u m → (o : Token) (ts : List Token) → o.kind ≡ k.Star → same_kind (kind (u ++ (o ∷ ts))) k.LeftBracket ≡ false
      before_star rules.none o ts oc = star_no_bracket o ts oc
      before_star (rules.more p {u = u} a pc) o ts oc = subst (λ l. same_kind (kind l) k.LeftBracket ≡ false) (sym (append_assoc u (p ∷ []) (o ∷ ts))) (before_star a p (o ∷ ts) pc)

  dcl_begins : {u : List Token} {x : Dcl} {h : ℕ} → IsDcl leaves types u x h → (r : List Token) → same_kind (kind (u ++ r)) k.LeftBracket ≡ false
  dcl_begins (rules.dcl t {u = u} {v = v} a (other_name c d) b) r = subst (λ l. same_kind (kind l) k.LeftBracket ≡ false) (sym (append_assoc u (t ∷ v) r)) (stars_begin a t (v ++ r) c)

  variable_begins : {u : List Token} {x : Variable} {h : ℕ} → IsVariable leaves types u x h → (r : List Token) → same_kind (kind (u ++ r)) k.LeftBracket ≡ false
  variable_begins (g.bare d) r = dcl_begins d r
  variable_begins (g.set t {u = u} {v = v} d c a) r = subst (λ l. same_kind (kind l) k.LeftBracket ≡ false) (sym (append_assoc u (t ∷ v) r)) (dcl_begins d ((t ∷ v) ++ r))

  variables_begin : {u : List Token} {xs : List Variable} {h : ℕ} → IsVariables leaves types u xs h → (r : List Token) → same_kind (kind (u ++ r)) k.LeftBracket ≡ false
  variables_begin (g.one d) r = variable_begins d r
  variables_begin (g.more t {u = u} {v = v} l c d) r = subst (λ l. same_kind (kind l) k.LeftBracket ≡ false) (sym (append_assoc u (t ∷ v) r)) (variables_begin l ((t ∷ v) ++ r))

  abbrev S : ℕ → Want → Parser ReadStmt
  S n = within leaves types F n

  -- ---- declarations

  word_declares : (n : ℕ) (ts : List Token) → sees_type types ts ≡ true → parse.in_block leaves types F n (S n) ts ≡ parse.declaration leaves types F n ts
  unfolding parse.in_block
  word_declares n ts b = rw b refl

  opened_is : (m : ℕ) (o : Token) (ts : List Token) → o.kind ≡ k.LeftParen → sees_type types (o ∷ ts) ≡ false → parse.in_block leaves types F (suc m) (S (suc m)) (o ∷ ts) ≡ and_then (begun leaves types F m ts) (parse.opened_by leaves types F (suc m) (S (suc m)) o)
  unfolding parse.in_block parse.opened kind same_kind take_if
  opened_is m o ts oc st = let room : nat_lt 0 (suc m) ≡ true = nat_lt_is 0 (suc m) (omega arith) in rw (st, oc, room) refl

  tuple_declares : (m : ℕ) (o : Token) (x : TypeTree) (c : Bool) (h : ℕ) (r1 r2 : List Token) (b : ReadBase) → (c && same_kind (kind r1) k.RightParen) ≡ false → tuple_within leaves types F m o.place (x, h) r1 ≡ Ok (b, r2)
      → parse.opened_by leaves types F m (S m) o (bg.Type x c, h) r1 ≡ parse.declared leaves types F m o.place b r2
  tuple_declares m o x c h r1 r2 b nc e2 = rw (nc, e2) refl

  pub declare_c : {takes : Bool} {u v : List Token} {x : TypeTree} {ys : List Variable} {h i : ℕ} (t : Token) → IsBase leaves types true takes u x h → IsVariables leaves types v ys i → t.kind ≡ k.Semicolon → (n : ℕ) → h ≤ n → i ≤ n → (r : List Token) → length (u ++ (v ++ (t ∷ r))) < F
      → parse.in_block leaves types F n (S n) (u ++ (v ++ (t ∷ r))) ≡ Ok (ended (sm.Declare (start u) x ys) (max h i + 1), r)
  declare_c {takes} {u} {v} {x} {ys} {h} {i} t d l tc n hn lower r s = go (base_sees leaves types F d (v ++ (t ∷ r)))
    where
      behind : List Token
      behind = v ++ (t ∷ r)

      s1 : length behind < F
      s1 = rest_short u (v ++ (t ∷ r)) F s

      go : (sees_type types (u ++ behind) ≡ true) ⊎ ((true ≡ true) × Bare leaves types F u (record { tree = x; height = h; takes_bracket = takes })) → parse.in_block leaves types F n (S n) (u ++ (v ++ (t ∷ r))) ≡ Ok (ended (sm.Declare (start u) x ys) (max h i + 1), r)
      go (inl b) = word_declares n (u ++ behind) b
          ∙ step.step_declaration leaves types F n (u ++ behind) behind (record { tree = x; height = h; takes_bracket = takes }) (base_within_c leaves types F d n hn behind s (no_bracket_ends leaves types F takes u behind (variables_begin l (t ∷ r))))
          ∙ ap (λ p. parse.declared leaves types F n p (record { tree = x; height = h; takes_bracket = takes }) behind) (start_of u behind (base_long leaves types d))
          ∙ declared_c l n lower (start u) (record { tree = x; height = h; takes_bracket = takes }) t r s1 tc
      go (inr b) = bare n hn lower
        where
          o : Token
          o = b.1.open_token

          c : Token
          c = b.1.close_token

          all : u ++ behind ≡ o ∷ (b.1.inside ++ (c ∷ behind))
          all = ap (λ m. m ++ behind) b.1.cut ∙ ap (λ m. o ∷ m) (append_assoc b.1.inside (c ∷ []) behind)

          height_is : h ≡ b.1.high + 1
          height_is = ap (λ (y : ReadBase). y.height) b.1.tree

          bare : (n : ℕ) → h ≤ n → i ≤ n → parse.in_block leaves types F n (S n) (u ++ behind) ≡ Ok (ended (sm.Declare (start u) x ys) (max h i + 1), r)
          bare zero hn lower = absurd (omega (arith, height_is, hn))
          bare (suc m) hn lower =
              let s2 : length (b.1.inside ++ (c ∷ behind)) < F = omega (arith, s, ap length all) in
              let q = tuple_rest leaves types F (suc m) true o.place c b.1.inside behind b.1.types_are b.1.high b.1.is b.1.shuts (omega (arith, height_is, hn)) s2 in
              let a = q.types_are in
              let s3 : length (a.front ++ (a.back ++ (c ∷ behind))) < F = omega (arith, s2, ap length q.cut) in
              let inner = type_c leaves types F a.is m (omega (arith, a.lower, height_is, hn)) (a.back ++ (c ∷ behind)) s3 a.after in
              let comma = comma_next leaves types F (suc m) o.place (a.first, a.low) (a.back ++ (c ∷ behind)) _ (omega (arith, s3)) q.after in
              ap (parse.in_block leaves types F (suc m) (S (suc m))) (all ∙ ap (λ m. o ∷ m) q.cut)
              ∙ opened_is m o (a.front ++ (a.back ++ (c ∷ behind))) b.1.opens (paren_sees leaves types F o _ b.1.opens)
              ∙ ap (λ z. and_then z (parse.opened_by leaves types F (suc m) (S (suc m)) o)) inner.is
              ∙ tuple_declares (suc m) o a.first inner.flag a.low (a.back ++ (c ∷ behind)) behind (record { tree = x; height = h; takes_bracket = takes }) (no_both inner.flag (same_kind (kind (a.back ++ (c ∷ behind))) k.RightParen) (comma_no_close (a.back ++ (c ∷ behind)) comma)) (q.after ∙ ap (λ y. Ok (y, behind)) (sym b.1.tree))
              ∙ declared_c l (suc m) lower o.place (record { tree = x; height = h; takes_bracket = takes }) t r s1 tc
              ∙ ap (λ p. Ok (ended (sm.Declare p x ys) (max h i + 1), r)) (sym (ap start b.1.cut))

  -- ---- expressions

  expr_long : {u : List Token} {x : Expr} {h : ℕ} → IsExpr leaves types u x h → 0 < length u
  expr_long (only d) = asg_long leaves types d
  expr_long (sequence t {u = u} {v = v} l c d) = omega (arith, length-append u (t ∷ v))

  -- an expression begins with a token that may begin one
  pub expr_begins : {u : List Token} {x : Expr} {h : ℕ} → IsExpr leaves types u x h → (r : List Token) → begins_value types (u ++ r) ≡ true
  expr_begins {u} {x} {h} d r = go (begins_value types (u ++ r)) refl
    where
      go : (b : Bool) → begins_value types (u ++ r) ≡ b → b ≡ true
      go true e = refl
      go false e =
          let G = length u + 1 in
          let no : begins_value types (u ++ []) ≡ false = value_local leaves types (u ++ []) (u ++ r) (head_before u [] (expr_long d) ∙ sym (head_before u r (expr_long d))) ∙ e in
          let bad : expression_within leaves types G h (u ++ []) ≡ Err (Stuck (length (u ++ []))) = stops leaves types G h _ (u ++ []) no in
          let good = expr_c leaves types G d h (omega arith) [] (omega (arith, ap length (append-nil u))) (inr tt) in
          let both : ◌≡◌ {A = Outcome Sized} (Err (Stuck (length (u ++ [])))) (Ok ((x, h), [])) = sym bad ∙ good in
          absurd (let f : ⊥ = cc in f)

  pub expr_read : {u : List Token} {x : Expr} {h : ℕ} → IsExpr leaves types u x h → (n : ℕ) → h ≤ n → (t : Token) (r : List Token) → length (u ++ (t ∷ r)) < F → FollowExpr t.kind → expression_within leaves types F n (u ++ (t ∷ r)) ≡ Ok ((x, h), t ∷ r)
  expr_read d n low t r s f = expr_c leaves types F d n low (t ∷ r) s (inl (at_kind FollowExpr t r t.kind refl f))

  -- an expression as its parser reads it
  expr_is : (m : ℕ) (ts : List Token) → expression_within leaves types F (suc m) ts
      ≡ and_then (and_then (eparse.unary leaves types F m (expr_within leaves types F m) ts) (eparse.asg_after leaves types F m (expr_within leaves types F m) (start ts))) (eparse.expr_after leaves types F m (expr_within leaves types F m) (start ts))
  unfolding expr_within eparse.expr_at eparse.asg
  expr_is m ts = refl

  named_value_is : (m : ℕ) (a : Token) (ts : List Token) → a.kind ≡ k.Name → known types a.name ≡ false
      → parse.value_named leaves types F (suc m) a ts ≡ and_then (expression_within leaves types F (suc m) (a ∷ ts)) (λ z. Rattle.al_tree.specs.Reading.expect k.Semicolon >>= (λ _. pure (ended (sm.Value a.place z.0) (z.1 + 1))))
  unfolding parse.value_named parse.value_behind
  named_value_is m a ts c f =
      let K : Sized → Parser ReadStmt = λ z. Rattle.al_tree.specs.Reading.expect k.Semicolon >>= (λ _. pure (ended (sm.Value a.place z.0) (z.1 + 1))) in
      sym (ap (λ o. and_then o K) (expr_is m (a ∷ ts) ∙ ap (λ o. and_then (and_then o (eparse.asg_after leaves types F m (expr_within leaves types F m) a.place)) (eparse.expr_after leaves types F m (expr_within leaves types F m) a.place)) (estep.step_name leaves types F m a ts c f))
      ∙ twice (and_then (eparse.post_from leaves types F m (expr_within leaves types F m) F a.place (record { tree = e.Name a.place a.name; height = 1; called = 0 }) ts) (eparse.asg_after leaves types F m (expr_within leaves types F m) a.place)) (eparse.expr_after leaves types F m (expr_within leaves types F m) a.place) K
      ∙ twice (eparse.post_from leaves types F m (expr_within leaves types F m) F a.place (record { tree = e.Name a.place a.name; height = 1; called = 0 }) ts) (eparse.asg_after leaves types F m (expr_within leaves types F m) a.place) (λ y r. and_then (eparse.expr_after leaves types F m (expr_within leaves types F m) a.place y r) K))

  finish : (at : Place) (t : Token) (r : List Token) (o : Outcome Sized) (x : Sized) → o ≡ Ok (x, t ∷ r) → t.kind ≡ k.Semicolon → and_then o (λ z. Rattle.al_tree.specs.Reading.expect k.Semicolon >>= (λ _. pure (ended (sm.Value at z.0) (z.1 + 1)))) ≡ Ok (ended (sm.Value at x.0) (x.1 + 1), r)
  unfolding kind same_kind take_if expect_if
  finish at t r o x h tc = rw (h, tc) refl

  -- the name that begins an expression is no label
  colon_stops : (n : ℕ) (a c : Token) (ts : List Token) → a.kind ≡ k.Name → known types a.name ≡ false → c.kind ≡ k.Colon → 0 < n → length (a ∷ c ∷ ts) < F → expression_within leaves types F n (a ∷ c ∷ ts) ≡ Ok ((e.Name a.place a.name, 1), c ∷ ts)
  colon_stops n a c ts ac f cc1 some s = expr_read {u = a ∷ []} (only (Rattle.al_parse_expr.proofs.Begins.asg_of leaves types (post (prim (name a (other_name ac f)))))) n (omega arith) c ts s (subst FollowExpr (sym cc1) before_colon)

  no_label : (n : ℕ) (a t : Token) (ts r : List Token) (x : Sized) → a.kind ≡ k.Name → known types a.name ≡ false → 0 < n → length (a ∷ ts) < F → expression_within leaves types F n (a ∷ ts) ≡ Ok (x, t ∷ r) → t.kind ≡ k.Semicolon → same_kind (kind ts) k.Colon ≡ false
  unfolding kind same_kind
  no_label n a t ts r x ac f some s h tc = go (same_kind (kind ts) k.Colon) refl
    where
      at_colon : (l : List Token) → ts ≡ l → same_kind (kind l) k.Colon ≡ true → ⊥
      at_colon [] el b = cc
      at_colon (c ∷ l) el b =
          let ck : c.kind ≡ k.Colon = kind_is c.kind k.Colon b in
          let stop = colon_stops n a c l ac f ck some (omega (arith, s, ap length el)) in
          let both : ◌≡◌ {A = Outcome Sized} (Ok (x, t ∷ r)) (Ok ((e.Name a.place a.name, 1), c ∷ l)) = sym h ∙ ap (λ m. expression_within leaves types F n (a ∷ m)) el ∙ stop in
          let same : t ≡ c = same_first x (e.Name a.place a.name, 1) t c r l both in
          semicolon_no_colon (sym tc ∙ ap (λ (y : Token). y.kind) same ∙ ck)

      go : (b : Bool) → same_kind (kind ts) k.Colon ≡ b → b ≡ false
      go true b = absurd (at_colon ts refl b)
      go false b = refl

  name_step : (n : ℕ) (a : Token) (ts : List Token) → a.kind ≡ k.Name → known types a.name ≡ false → nat_lt 0 n ≡ true → same_kind (kind ts) k.Colon ≡ false → parse.statement leaves types F n (S n) (a ∷ ts) ≡ parse.value_named leaves types F n a ts
  unfolding parse.statement parse.named sees_other_name kind name_number same_kind take_if
  name_step n a ts ac f room nc = rw (ac, f, room, nc) refl

  -- what begins an expression begins no other statement
  none_starts : (ts : List Token) (kd : TokenKind) → kind ts ≡ kd → begins_value types ts ≡ true → starts kd ≡ false
  unfolding begins_value sees_other_name same_kind
  none_starts ts k.Semicolon c b = absurd (let n : true ≡ false = sym b ∙ rw c refl in let f : ⊥ = cc in f)
  none_starts ts k.LeftBrace c b = absurd (let n : true ≡ false = sym b ∙ rw c refl in let f : ⊥ = cc in f)
  none_starts ts k.If c b = absurd (let n : true ≡ false = sym b ∙ rw c refl in let f : ⊥ = cc in f)
  none_starts ts k.While c b = absurd (let n : true ≡ false = sym b ∙ rw c refl in let f : ⊥ = cc in f)
  none_starts ts k.Do c b = absurd (let n : true ≡ false = sym b ∙ rw c refl in let f : ⊥ = cc in f)
  none_starts ts k.For c b = absurd (let n : true ≡ false = sym b ∙ rw c refl in let f : ⊥ = cc in f)
  none_starts ts k.Switch c b = absurd (let n : true ≡ false = sym b ∙ rw c refl in let f : ⊥ = cc in f)
  none_starts ts k.Alt c b = absurd (let n : true ≡ false = sym b ∙ rw c refl in let f : ⊥ = cc in f)
  none_starts ts k.Par c b = absurd (let n : true ≡ false = sym b ∙ rw c refl in let f : ⊥ = cc in f)
  none_starts ts k.Rescue c b = absurd (let n : true ≡ false = sym b ∙ rw c refl in let f : ⊥ = cc in f)
  none_starts ts k.Raise c b = absurd (let n : true ≡ false = sym b ∙ rw c refl in let f : ⊥ = cc in f)
  none_starts ts k.Return c b = absurd (let n : true ≡ false = sym b ∙ rw c refl in let f : ⊥ = cc in f)
  none_starts ts k.Become c b = absurd (let n : true ≡ false = sym b ∙ rw c refl in let f : ⊥ = cc in f)
  none_starts ts k.Break c b = absurd (let n : true ≡ false = sym b ∙ rw c refl in let f : ⊥ = cc in f)
  none_starts ts k.Continue c b = absurd (let n : true ≡ false = sym b ∙ rw c refl in let f : ⊥ = cc in f)
  none_starts ts k.Goto c b = absurd (let n : true ≡ false = sym b ∙ rw c refl in let f : ⊥ = cc in f)
  none_starts ts k.Alloc c b = absurd (let n : true ≡ false = sym b ∙ rw c refl in let f : ⊥ = cc in f)
  none_starts ts k.Unalloc c b = absurd (let n : true ≡ false = sym b ∙ rw c refl in let f : ⊥ = cc in f)
  none_starts ts k.Check c b = absurd (let n : true ≡ false = sym b ∙ rw c refl in let f : ⊥ = cc in f)
  none_starts ts k.Proc c b = absurd (let n : true ≡ false = sym b ∙ rw c refl in let f : ⊥ = cc in f)
  none_starts ts k.Task c b = absurd (let n : true ≡ false = sym b ∙ rw c refl in let f : ⊥ = cc in f)
  none_starts ts _ c b = refl

  value_by : (n : ℕ) (kd : TokenKind) → starts kd ≡ false → parse.statement_by leaves types F n (S n) kd ≡ parse.value leaves types F n
  value_by n k.Semicolon h = absurd (let f : ⊥ = cc in f)
  value_by n k.LeftBrace h = absurd (let f : ⊥ = cc in f)
  value_by n k.If h = absurd (let f : ⊥ = cc in f)
  value_by n k.While h = absurd (let f : ⊥ = cc in f)
  value_by n k.Do h = absurd (let f : ⊥ = cc in f)
  value_by n k.For h = absurd (let f : ⊥ = cc in f)
  value_by n k.Switch h = absurd (let f : ⊥ = cc in f)
  value_by n k.Alt h = absurd (let f : ⊥ = cc in f)
  value_by n k.Par h = absurd (let f : ⊥ = cc in f)
  value_by n k.Rescue h = absurd (let f : ⊥ = cc in f)
  value_by n k.Raise h = absurd (let f : ⊥ = cc in f)
  value_by n k.Return h = absurd (let f : ⊥ = cc in f)
  value_by n k.Become h = absurd (let f : ⊥ = cc in f)
  value_by n k.Break h = absurd (let f : ⊥ = cc in f)
  value_by n k.Continue h = absurd (let f : ⊥ = cc in f)
  value_by n k.Goto h = absurd (let f : ⊥ = cc in f)
  value_by n k.Alloc h = absurd (let f : ⊥ = cc in f)
  value_by n k.Unalloc h = absurd (let f : ⊥ = cc in f)
  value_by n k.Check h = absurd (let f : ⊥ = cc in f)
  value_by n k.Proc h = absurd (let f : ⊥ = cc in f)
  value_by n k.Task h = absurd (let f : ⊥ = cc in f)
  value_by n _ h = refl

  other_step : (n : ℕ) (ts : List Token) → sees_other_name types ts ≡ false → parse.statement leaves types F n (S n) ts ≡ parse.statement_by leaves types F n (S n) (kind ts) ts
  unfolding parse.statement
  other_step n ts b = rw b refl

  name_of : (ts : List Token) → sees_other_name types ts ≡ true → (a : Token) × (l : List Token) × (ts ≡ a ∷ l) × (a.kind ≡ k.Name) × (known types a.name ≡ false)
  unfolding sees_other_name kind name_number same_kind
  name_of [] b = absurd (let f : ⊥ = cc in f)
  name_of (a ∷ l) b = let p = and_parts (same_kind a.kind k.Name) (not (known types a.name)) b in (a, l, refl, kind_is a.kind k.Name p.0, negated (known types a.name) p.1)
    where
      negated : (c : Bool) → not c ≡ true → c ≡ false
      negated true h = absurd (let f : ⊥ = cc in f)
      negated false h = refl

  -- an expression and its semicolon
  pub value_c : {u : List Token} {x : Expr} {h : ℕ} → IsExpr leaves types u x h → (t : Token) → t.kind ≡ k.Semicolon → (n : ℕ) → h ≤ n → (r : List Token) → length (u ++ (t ∷ r)) < F
      → parse.statement leaves types F n (S n) (u ++ (t ∷ r)) ≡ Ok (ended (sm.Value (start u) x) (h + 1), r)
  value_c {u} {x} {h} d t tc n low r s = go (sees_other_name types (u ++ (t ∷ r))) refl
    where
      read : expression_within leaves types F n (u ++ (t ∷ r)) ≡ Ok ((x, h), t ∷ r)
      read = expr_read d n low t r s (subst FollowExpr (sym tc) before_semicolon)

      high : 0 < h
      high = expr_high leaves types d

      place : start (u ++ (t ∷ r)) ≡ start u
      place = start_of u (t ∷ r) (expr_long d)

      named : (m : ℕ) → n ≡ suc m → (a : Token) (l : List Token) → u ++ (t ∷ r) ≡ a ∷ l → a.kind ≡ k.Name → known types a.name ≡ false → parse.statement leaves types F n (S n) (u ++ (t ∷ r)) ≡ Ok (ended (sm.Value (start u) x) (h + 1), r)
      named m e a l q ac f =
          let read2 : expression_within leaves types F n (a ∷ l) ≡ Ok ((x, h), t ∷ r) = sym (ap (expression_within leaves types F n) q) ∙ read in
          let here : a.place ≡ start u = sym (ap start q) ∙ place in
          ap (parse.statement leaves types F n (S n)) q
          ∙ name_step n a l ac f (nat_lt_is 0 n (omega (arith, high, low))) (no_label n a t l r (x, h) ac f (omega (arith, high, low)) (omega (arith, s, ap length q)) read2 tc)
          ∙ ap (λ i. parse.value_named leaves types F i a l) e ∙ named_value_is m a l ac f
          ∙ finish a.place t r (expression_within leaves types F (suc m) (a ∷ l)) (x, h) (sym (ap (λ i. expression_within leaves types F i (a ∷ l)) e) ∙ read2) tc
          ∙ ap (λ p. Ok (ended (sm.Value p x) (h + 1), r)) here

      go : (b : Bool) → sees_other_name types (u ++ (t ∷ r)) ≡ b → parse.statement leaves types F n (S n) (u ++ (t ∷ r)) ≡ Ok (ended (sm.Value (start u) x) (h + 1), r)
      go true b = let q = name_of (u ++ (t ∷ r)) b in named (pred n) (some_pred n 0 (omega (arith, high, low))) q.0 q.1 q.2 q.3 q.4
      go false b =
          other_step n (u ++ (t ∷ r)) b
          ∙ ap (λ (p : Parser ReadStmt). p (u ++ (t ∷ r))) (value_by n (kind (u ++ (t ∷ r))) (none_starts (u ++ (t ∷ r)) (kind (u ++ (t ∷ r))) refl (expr_begins d (t ∷ r))))
          ∙ step.step_value leaves types F n t (u ++ (t ∷ r)) r (x, h) read tc
          ∙ ap (λ p. Ok (ended (sm.Value p x) (h + 1), r)) place

  -- ---- expressions in a block, which may begin with a parenthesis

  -- the first assignment of an expression
  record FirstAsg (u : List Token) (h : ℕ) (r : List Token) : Type 0 where
    front : List Token
    back : List Token
    tree : Expr
    low : ℕ
    is : IsAsg leaves types front tree low
    lower : low ≤ h
    cut : u ++ r ≡ front ++ (back ++ r)
    follow : FollowAsg (kind (back ++ r))

  asgs_first : {u : List Token} {xs : List Expr} {h : ℕ} → IsAsgs leaves types u xs h → (r : List Token) → FollowAsg (kind r) → FirstAsg u h r
  asgs_first (one {u = u} {x = x} {h = h} a) r f = record { front = u; back = []; tree = x; low = h; is = a; lower = omega arith; cut = refl; follow = f }
  asgs_first (more t {u = u} {v = v} l c a) r f =
      let q = asgs_first l (t ∷ (v ++ r)) (at_kind FollowAsg t (v ++ r) k.Comma c before_comma) in
      let back_e : (q.back ++ t ∷ v) ++ r ≡ q.back ++ (t ∷ (v ++ r)) = append_assoc q.back (t ∷ v) r in
      record { front = q.front; back = q.back ++ t ∷ v; tree = q.tree; low = q.low; is = q.is; lower = omega (arith, q.lower); cut = append_assoc u (t ∷ v) r ∙ q.cut ∙ ap (λ m. q.front ++ m) (sym back_e); follow = subst (λ m. FollowAsg (kind m)) (sym back_e) q.follow }

  expr_first : {u : List Token} {x : Expr} {h : ℕ} → IsExpr leaves types u x h → (r : List Token) → FollowAsg (kind r) → FirstAsg u h r
  expr_first (only a) r f = asgs_first (one a) r f
  expr_first (sequence t {u = u} {v = v} l c a) r f = let q = asgs_first (more t l c a) r f in record { front = q.front; back = q.back; tree = q.tree; low = q.low; is = q.is; lower = omega (arith, q.lower); cut = q.cut; follow = q.follow }

  pub plain_step : (n : ℕ) (ts : List Token) → sees_type types ts ≡ false → same_kind (kind ts) k.LeftParen ≡ false → parse.in_block leaves types F n (S n) ts ≡ parse.statement leaves types F n (S n) ts
  unfolding parse.in_block
  plain_step n ts b np = rw (b, np) refl

  cast_goes : (m : ℕ) (o t : Token) (x : TypeTree) (h : ℕ) (ts r1 r : List Token) (y z : Sized) → same_kind (kind ts) k.RightParen ≡ true → cast_begun leaves types F (suc m) o (x, h) ts ≡ Ok (y, r1) → after_assignment leaves types F m o.place y r1 ≡ Ok (z, t ∷ r) → t.kind ≡ k.Semicolon
      → parse.opened_by leaves types F (suc m) (S (suc m)) o (bg.Type x true, h) ts ≡ Ok (ended (sm.Value o.place z.0) (z.1 + 1), r)
  unfolding parse.value_behind kind same_kind take_if expect_if
  cast_goes m o t x h ts r1 r y z b e1 e2 tc = rw (b, e1, e2, tc) refl

  paren_goes : (m : ℕ) (o t : Token) (x : Expr) (h : ℕ) (ts r1 r : List Token) (y z : Sized) → paren_begun leaves types F (suc m) o (x, h) ts ≡ Ok (y, r1) → after_assignment leaves types F m o.place y r1 ≡ Ok (z, t ∷ r) → t.kind ≡ k.Semicolon
      → parse.opened_by leaves types F (suc m) (S (suc m)) o (bg.Value x, h) ts ≡ Ok (ended (sm.Value o.place z.0) (z.1 + 1), r)
  unfolding parse.value_behind kind same_kind take_if expect_if
  paren_goes m o t x h ts r1 r y z e1 e2 tc = rw (e1, e2, tc) refl

  after_is : (m : ℕ) (ts r1 : List Token) (y : Sized) → assignment_within leaves types F (suc m) ts ≡ Ok (y, r1) → expression_within leaves types F (suc m) ts ≡ after_assignment leaves types F m (start ts) y r1
  unfolding expr_within eparse.expr_at
  after_is m ts r1 y h = rw h refl

  pub inner_value_c : {u : List Token} {x : Expr} {h : ℕ} → IsExpr leaves types u x h → (t : Token) → t.kind ≡ k.Semicolon → (n : ℕ) → h ≤ n → (r : List Token) → length (u ++ (t ∷ r)) < F
      → parse.in_block leaves types F n (S n) (u ++ (t ∷ r)) ≡ Ok (ended (sm.Value (start u) x) (h + 1), r)
  inner_value_c {u} {x} {h} d t tc n low r s = go (same_kind (kind (u ++ (t ∷ r))) k.LeftParen) refl
    where
      ts : List Token
      ts = u ++ (t ∷ r)

      f : FollowExpr t.kind
      f = subst FollowExpr (sym tc) before_semicolon

      q : FirstAsg u h (t ∷ r)
      q = expr_first d (t ∷ r) (at_kind FollowAsg t r t.kind refl f.asg)

      no_type : sees_type types ts ≡ false
      no_type = ap (sees_type types) q.cut ∙ (asg_starts leaves types q.is (q.back ++ (t ∷ r))).no_type

      read : expression_within leaves types F n ts ≡ Ok ((x, h), t ∷ r)
      read = expr_read d n low t r s f

      place : start ts ≡ start u
      place = start_of u (t ∷ r) (expr_long d)

      opened : (m : ℕ) → n ≡ suc m → same_kind (kind ts) k.LeftParen ≡ true → parse.in_block leaves types F n (S n) ts ≡ Ok (ended (sm.Value (start u) x) (h + 1), r)
      opened m en b =
          let s1 : length (q.front ++ (q.back ++ (t ∷ r))) < F = omega (arith, s, ap length q.cut) in
          let o = opened_c leaves types F q.is m (omega (arith, q.lower, low, en)) (q.back ++ (t ∷ r)) s1 q.follow (sym (ap (λ l. same_kind (kind l) k.LeftParen) q.cut) ∙ b) in
          let whole : assignment_within leaves types F (suc m) ts ≡ Ok ((q.tree, q.low), q.back ++ (t ∷ r)) = ap (assignment_within leaves types F (suc m)) q.cut ∙ asg_c leaves types F q.is (suc m) (omega (arith, q.lower, low, en)) (q.back ++ (t ∷ r)) s1 (inl q.follow) in
          let all : ts ≡ o.open_token ∷ o.inside = q.cut ∙ o.is in
          let here : start ts ≡ o.open_token.place = ap start all in
          let behind : after_assignment leaves types F m o.open_token.place (q.tree, q.low) (q.back ++ (t ∷ r)) ≡ Ok ((x, h), t ∷ r) =
          sym (ap (λ p. after_assignment leaves types F m p (q.tree, q.low) (q.back ++ (t ∷ r))) here) ∙ sym (after_is m ts (q.back ++ (t ∷ r)) (q.tree, q.low) whole) ∙ sym (ap (λ i. expression_within leaves types F i ts) en) ∙ read in
          ap (λ i. parse.in_block leaves types F i (S i) ts) en ∙ ap (parse.in_block leaves types F (suc m) (S (suc m))) all
          ∙ opened_is m o.open_token o.inside o.opens (sym (ap (sees_type types) all) ∙ no_type)
          ∙ ap (λ z. and_then z (parse.opened_by leaves types F (suc m) (S (suc m)) o.open_token)) o.begins
          ∙ last o.open_token o.part o.low o.rest o.goes_on behind
          ∙ ap (λ p. Ok (ended (sm.Value p x) (h + 1), r)) (sym here ∙ place)
        where
          last : (o : Token) (p : Rattle.al_parse_block.specs.declared.part.Begun.Begun) (i : ℕ) (l : List Token) → Continues leaves types F m o p i l (q.tree, q.low) (q.back ++ (t ∷ r)) → after_assignment leaves types F m o.place (q.tree, q.low) (q.back ++ (t ∷ r)) ≡ Ok ((x, h), t ∷ r)
              → parse.opened_by leaves types F (suc m) (S (suc m)) o (p, i) l ≡ Ok (ended (sm.Value o.place x) (h + 1), r)
          last o (bg.Type y true) i l (as_cast e1 e2) e3 = cast_goes m o t y i l (q.back ++ (t ∷ r)) r (q.tree, q.low) (x, h) e1 e2 e3 tc
          last o (bg.Type y false) i l x6 e3 = elim x6 [ ]
          last o (bg.Value y) i l (as_paren e1) e3 = paren_goes m o t y i l (q.back ++ (t ∷ r)) r (q.tree, q.low) (x, h) e1 e3 tc

      go : (b : Bool) → same_kind (kind ts) k.LeftParen ≡ b → parse.in_block leaves types F n (S n) ts ≡ Ok (ended (sm.Value (start u) x) (h + 1), r)
      go false b = plain_step n ts no_type b ∙ value_c d t tc n low r s
      go true b = let high : 0 < h = expr_high leaves types d in opened (pred n) (some_pred n 0 (omega (arith, high, low))) b
