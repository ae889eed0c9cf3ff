-- One step of the parser of statements each, where the parts are read.
use Rattle.std.proofs.Common.{◌≡◌, ℕ, zero, suc, pred, ◌+◌, ◌<◌, ◌≤◌, max, nat_lt, Bool, true, false, if◌then◌else◌, ◌||◌, ◌&&◌, not, List, [], ◌∷◌, ◌++◌, length, Option, Some, None, Ok, Err, refl, sym, ap, ◌∙◌, subst, arith, append_assoc}
use Rattle.al_base.specs.declared.place.Place.{Place}
use Rattle.al_lex.specs.declared.kind.TokenKind.{TokenKind}
use Rattle.al_lex.specs.declared.kind.TokenKind.TheVariants as k
use Rattle.al_lex.specs.declared.token.Token.{Token}
use Rattle.al_tree.specs.Words.{start}
use Rattle.al_tree.specs.Types.{Leaves, known, name_at}
use Rattle.al_tree.specs.Reading.{Outcome, Parser, and_then, kind, name_number, same_kind, take_if, expect_if}
use Rattle.al_tree.specs.declared.expression.Expr.{Expr}
use Rattle.al_tree.specs.declared.statement.Variable.{Variable}
use Rattle.al_tree.specs.declared.statement.Stmt.{Stmt}
use Rattle.al_tree.specs.declared.statement.Stmt.TheVariants as sm
use Rattle.al_tree.specs.declared.type_tree.Dcl.{Dcl}
use Rattle.al_parse_type.specs.declared.part.ReadBase.{ReadBase}
use Rattle.al_parse_type.specs.Parse.{sees_other_name, sees_type, other_name, dcl}
use Rattle.al_parse_type.specs.Within.{base_within}
use Rattle.al_parse_expr.specs.Parse.{Sized, Listed, begins_value}
use Rattle.al_parse_expr.specs.Within.{expression_within, assignment_within, list_within}
use Rattle.al_parse_block.specs.Parse as parse
use Rattle.al_parse_block.specs.Parse.{Statements, SizedVariable, ended, choice_of, starts, begins_inner, begins_statement, begins_case, within}
use Rattle.al_parse_block.specs.declared.part.ReadStmt.{ReadStmt}
use Rattle.al_parse_block.specs.declared.part.Want.{Want}
use Rattle.al_parse_block.specs.declared.part.Want.TheVariants as want

module _ (leaves : Leaves) (types : List ℕ) (F n : ℕ) where
  -- ---- what stands in statements

  pub step_condition : (o c : Token) (u r : List Token) (x : Sized) → o.kind ≡ k.LeftParen → c.kind ≡ k.RightParen → expression_within leaves types F n (u ++ c ∷ r) ≡ Ok (x, c ∷ r)
      → parse.condition leaves types F n (o ∷ (u ++ c ∷ r)) ≡ Ok (x, r)
  unfolding parse.condition kind same_kind take_if expect_if
  step_condition o c u r x oc ec e = rw (oc, e, ec) refl

  pub step_none : (close : TokenKind) (c : Token) (r : List Token) → c.kind ≡ close → same_kind close close ≡ true → parse.optional leaves types F n close (c ∷ r) ≡ Ok ((None, 0), r)
  unfolding parse.optional kind take_if
  step_none close c r cc1 t = rw (cc1, t) refl

  pub step_some : (close : TokenKind) (c : Token) (ts r : List Token) (x : Sized) → same_kind (kind ts) close ≡ false → expression_within leaves types F n ts ≡ Ok (x, c ∷ r) → c.kind ≡ close → same_kind close close ≡ true
      → parse.optional leaves types F n close ts ≡ Ok ((Some x.0, x.1), r)
  unfolding parse.optional kind take_if expect_if
  step_some close c ts r x f e cc1 t = rw (f, e, cc1, t) refl

  -- ---- declarations

  pub step_bare : (ts r : List Token) (x : Dcl) (h : ℕ) → dcl leaves types F n ts ≡ Ok ((x, h), r) → same_kind (kind r) k.Equal ≡ false → parse.variable leaves types F n ts ≡ Ok ((record { dcl = x; value = None }, h), r)
  unfolding parse.variable
  step_bare ts r x h e f = rw (e, f) refl

  pub step_set : (t : Token) (ts v r : List Token) (x : Dcl) (h : ℕ) (y : Sized) → dcl leaves types F n ts ≡ Ok ((x, h), t ∷ (v ++ r)) → t.kind ≡ k.Equal → nat_lt 0 n ≡ true → assignment_within leaves types F n (v ++ r) ≡ Ok (y, r)
      → parse.variable leaves types F n ts ≡ Ok ((record { dcl = x; value = Some y.0 }, max h y.1), r)
  unfolding parse.variable kind same_kind take_if
  step_set t ts v r x h y e tc room e2 = rw (e, tc, room, e2) refl

  pub step_variables : (m : ℕ) (t : Token) (v r : List Token) (xs : List Variable) (h : ℕ) (x : SizedVariable) → t.kind ≡ k.Comma → parse.variable leaves types F n (v ++ r) ≡ Ok (x, r)
      → parse.variables_from leaves types F n (suc m) xs h (t ∷ (v ++ r)) ≡ parse.variables_from leaves types F n m (xs ++ x.0 ∷ []) (max h x.1) r
  unfolding parse.variables_from kind same_kind take_if
  step_variables m t v r xs h x tc e = rw (tc, e) refl

  pub end_variables : (m : ℕ) (r : List Token) (xs : List Variable) (h : ℕ) → same_kind (kind r) k.Comma ≡ false → parse.variables_from leaves types F n (suc m) xs h r ≡ Ok ((xs, h), r)
  unfolding parse.variables_from
  end_variables m r xs h f = rw f refl

  pub step_declared : (at : Place) (t : Token) (b : ReadBase) (ts r1 r : List Token) (y : SizedVariable) (ys : List Variable) (i : ℕ) → parse.variable leaves types F n ts ≡ Ok (y, r1) → parse.variables_from leaves types F n F (y.0 ∷ []) y.1 r1 ≡ Ok ((ys, i), t ∷ r) → t.kind ≡ k.Semicolon
      → parse.declared leaves types F n at b ts ≡ Ok (ended (sm.Declare at b.tree ys) (max b.height i + 1), r)
  unfolding parse.declared kind same_kind take_if expect_if
  step_declared at t b ts r1 r y ys i e e2 tc = rw (e, e2, tc) refl

  pub step_declaration : (ts r1 : List Token) (b : ReadBase) → base_within leaves types F n ts ≡ Ok (b, r1) → parse.declaration leaves types F n ts ≡ parse.declared leaves types F n (start ts) b r1
  unfolding parse.declaration
  step_declaration ts r1 b e = rw e refl

  -- ---- simple statements

  pub step_value : (t : Token) (ts r : List Token) (x : Sized) → expression_within leaves types F n ts ≡ Ok (x, t ∷ r) → t.kind ≡ k.Semicolon → parse.value leaves types F n ts ≡ Ok (ended (sm.Value (start ts) x.0) (x.1 + 1), r)
  unfolding parse.value kind same_kind take_if expect_if
  step_value t ts r x e tc = rw (e, tc) refl

  pub step_listed : (w t : Token) (ts r : List Token) (xs : Listed) → nat_lt 0 n ≡ true → list_within leaves types F n ts ≡ Ok (xs, t ∷ r) → t.kind ≡ k.Semicolon → parse.listed leaves types F n (w ∷ ts) ≡ Ok ((xs, w), r)
  unfolding parse.listed kind same_kind take_if expect_if
  step_listed w t ts r xs room e tc = rw (room, e, tc) refl

  pub step_counted : (w m t : Token) (r : List Token) → m.kind ≡ k.Number → t.kind ≡ k.Semicolon → parse.counted leaves types F n (w ∷ m ∷ t ∷ r) ≡ Ok ((w, Some (leaves.number m)), r)
  unfolding parse.counted parse.optional_number kind same_kind take_if expect_if
  step_counted w m t r mc tc = rw (mc, tc) refl

  pub step_uncounted : (w t : Token) (r : List Token) → t.kind ≡ k.Semicolon → parse.counted leaves types F n (w ∷ t ∷ r) ≡ Ok ((w, None), r)
  unfolding parse.counted parse.optional_number kind same_kind take_if expect_if
  step_uncounted w t r tc = rw tc refl

  pub step_empty : (t : Token) (r : List Token) → parse.empty leaves types F n (t ∷ r) ≡ Ok (ended (sm.Empty t.place) 1, r)
  unfolding parse.empty take_if
  step_empty t r = refl

  pub step_raise : (w m t : Token) (r : List Token) → m.kind ≡ k.Name → known types m.name ≡ false → t.kind ≡ k.Semicolon → parse.raise leaves types F n (w ∷ m ∷ t ∷ r) ≡ Ok (ended (sm.Raise w.place (Some (name_at m))) 1, r)
  unfolding parse.raise parse.optional_name sees_other_name kind name_number same_kind take_if expect_if
  step_raise w m t r mc f tc = rw (mc, f, tc) refl

  pub step_reraise : (w t : Token) (r : List Token) → t.kind ≡ k.Semicolon → parse.raise leaves types F n (w ∷ t ∷ r) ≡ Ok (ended (sm.Raise w.place None) 1, r)
  unfolding parse.raise parse.optional_name sees_other_name kind name_number same_kind take_if expect_if
  step_reraise w t r tc = rw tc refl

  pub step_return : (w : Token) (ts r : List Token) (x : Option Expr) (h : ℕ) → parse.optional leaves types F n k.Semicolon ts ≡ Ok ((x, h), r) → parse.returned leaves types F n (w ∷ ts) ≡ Ok (ended (sm.Return w.place x) (h + 1), r)
  unfolding parse.returned take_if
  step_return w ts r x h e = rw e refl

  pub step_become : (w t : Token) (ts r : List Token) (x : Sized) → nat_lt 0 n ≡ true → expression_within leaves types F n ts ≡ Ok (x, t ∷ r) → t.kind ≡ k.Semicolon → parse.becoming leaves types F n (w ∷ ts) ≡ Ok (ended (sm.Become w.place x.0) (x.1 + 1), r)
  unfolding parse.becoming kind same_kind take_if expect_if
  step_become w t ts r x room e tc = rw (room, e, tc) refl

  pub step_goto : (w m t : Token) (r : List Token) → m.kind ≡ k.Name → known types m.name ≡ false → t.kind ≡ k.Semicolon → parse.goto leaves types F n (w ∷ m ∷ t ∷ r) ≡ Ok (ended (sm.Goto w.place (name_at m)) 1, r)
  unfolding parse.goto other_name sees_other_name kind name_number same_kind take_if expect_if
  step_goto w m t r mc f tc = rw (mc, f, tc) refl

  pub step_check : (w t : Token) (ts r : List Token) (x : Sized) → nat_lt 0 n ≡ true → assignment_within leaves types F n ts ≡ Ok (x, t ∷ r) → t.kind ≡ k.Semicolon → parse.check leaves types F n (w ∷ ts) ≡ Ok (ended (sm.Check w.place x.0 None) (x.1 + 1), r)
  unfolding parse.check parse.check_text kind same_kind take_if expect_if
  step_check w t ts r x room e tc = rw (room, e, tc) refl

  pub step_check_text : (w m b t : Token) (ts r : List Token) (x : Sized) → nat_lt 0 n ≡ true → assignment_within leaves types F n ts ≡ Ok (x, m ∷ b ∷ t ∷ r) → m.kind ≡ k.Comma → b.kind ≡ k.Text → t.kind ≡ k.Semicolon
      → parse.check leaves types F n (w ∷ ts) ≡ Ok (ended (sm.Check w.place x.0 (Some (leaves.bytes b))) (x.1 + 1), r)
  unfolding parse.check parse.check_text kind same_kind take_if expect_if
  step_check_text w m b t ts r x room e mc bc tc = rw (room, e, mc, bc, tc) refl

  -- ---- statements with statements in them

  abbrev pub S : Want → Parser ReadStmt
  S = within leaves types F n

  pub step_if : (w : Token) (ts r1 r : List Token) (x : Sized) (y : ReadStmt) → nat_lt 0 n ≡ true → parse.condition leaves types F n ts ≡ Ok (x, r1) → S want.Statement r1 ≡ Ok (y, r) → same_kind (kind r) k.Else ≡ false
      → parse.choice leaves types F n S (w ∷ ts) ≡ Ok (choice_of w.place x y None, r)
  unfolding parse.choice parse.otherwise take_if
  step_if w ts r1 r x y room e e2 f = rw (room, e, e2, f) refl

  pub step_if_else : (w t : Token) (ts r1 r2 r : List Token) (x : Sized) (y z : ReadStmt) → nat_lt 0 n ≡ true → parse.condition leaves types F n ts ≡ Ok (x, r1) → S want.Statement r1 ≡ Ok (y, t ∷ r2) → t.kind ≡ k.Else → y.dangles ≡ false → S want.Statement r2 ≡ Ok (z, r)
      → parse.choice leaves types F n S (w ∷ ts) ≡ Ok (choice_of w.place x y (Some z), r)
  unfolding parse.choice parse.otherwise kind same_kind take_if
  step_if_else w t ts r1 r2 r x y z room e e2 tc f e3 = rw (room, e, e2, tc, f, e3) refl

  pub step_while : (w : Token) (ts r1 r : List Token) (x : Sized) (y : ReadStmt) → nat_lt 0 n ≡ true → parse.condition leaves types F n ts ≡ Ok (x, r1) → S want.Statement r1 ≡ Ok (y, r)
      → parse.while_loop leaves types F n S (w ∷ ts) ≡ Ok (record { tree = sm.While w.place x.0 y.tree; height = max x.1 y.height + 1; dangles = y.dangles }, r)
  unfolding parse.while_loop take_if
  step_while w ts r1 r x y room e e2 = rw (room, e, e2) refl

  pub step_do : (w t q : Token) (ts r1 r : List Token) (x : ReadStmt) (y : Sized) → nat_lt 0 n ≡ true → S want.Statement ts ≡ Ok (x, t ∷ r1) → t.kind ≡ k.While → parse.condition leaves types F n r1 ≡ Ok (y, q ∷ r) → q.kind ≡ k.Semicolon
      → parse.do_loop leaves types F n S (w ∷ ts) ≡ Ok (ended (sm.Do w.place x.tree y.0) (max x.height y.1 + 1), r)
  unfolding parse.do_loop kind same_kind take_if expect_if
  step_do w t q ts r1 r x y room e tc e2 qc = rw (room, e, tc, e2, qc) refl

  pub step_for : (w o : Token) (ts r1 r2 r3 r : List Token) (x y z : Option Expr × ℕ) (b : ReadStmt) → nat_lt 0 n ≡ true → o.kind ≡ k.LeftParen → parse.optional leaves types F n k.Semicolon ts ≡ Ok (x, r1) → parse.optional leaves types F n k.Semicolon r1 ≡ Ok (y, r2)
      → parse.optional leaves types F n k.RightParen r2 ≡ Ok (z, r3) → S want.Statement r3 ≡ Ok (b, r)
      → parse.for_loop leaves types F n S (w ∷ o ∷ ts) ≡ Ok (record { tree = sm.For w.place x.0 y.0 z.0 b.tree; height = max (max x.1 y.1) (max z.1 b.height) + 1; dangles = b.dangles }, r)
  unfolding parse.for_loop parse.for_body kind same_kind take_if expect_if
  step_for w o ts r1 r2 r3 r x y z b room oc e1 e2 e3 e4 = rw (room, oc, e1, e2, e3, e4) refl

  pub step_label : (t c : Token) (ts r : List Token) (x : ReadStmt) → t.kind ≡ k.Name → known types t.name ≡ false → nat_lt 0 n ≡ true → c.kind ≡ k.Colon → S want.Statement ts ≡ Ok (x, r)
      → parse.statement leaves types F n S (t ∷ c ∷ ts) ≡ Ok (record { tree = sm.Label t.place t.name x.tree; height = x.height + 1; dangles = x.dangles }, r)
  unfolding parse.statement parse.named parse.labelled sees_other_name kind name_number same_kind take_if
  step_label t c ts r x tc f room cc1 e = rw (tc, f, room, cc1, e) refl

  -- a statement that begins with no name
  pub by_kind : (t : Token) (ts : List Token) (kd : TokenKind) → t.kind ≡ kd → same_kind kd k.Name ≡ false → parse.statement leaves types F n S (t ∷ ts) ≡ parse.statement_by leaves types F n S kd (t ∷ ts)
  unfolding parse.statement sees_other_name kind
  by_kind t ts kd tc f = rw (tc, f) refl

  -- ---- lists

  pub step_body : (m : ℕ) (ts r : List Token) (xs : List Stmt) (h : ℕ) (x : ReadStmt) → begins_inner types ts ≡ true → nat_lt 0 n ≡ true → S want.Inner ts ≡ Ok (x, r)
      → parse.body_from leaves types F n S (suc m) xs h ts ≡ parse.body_from leaves types F n S m (xs ++ x.tree ∷ []) (max h x.height) r
  unfolding parse.body_from parse.inner
  step_body m ts r xs h x b room e = rw (b, room, e) refl

  pub end_body : (m : ℕ) (r : List Token) (xs : List Stmt) (h : ℕ) → begins_inner types r ≡ false → parse.body_from leaves types F n S (suc m) xs h r ≡ Ok ((xs, h), r)
  unfolding parse.body_from
  end_body m r xs h b = rw b refl

  pub step_branch : (m : ℕ) (ts r : List Token) (xs : List Stmt) (h : ℕ) (x : ReadStmt) → begins_statement types ts ≡ true → nat_lt 0 n ≡ true → S want.Statement ts ≡ Ok (x, r)
      → parse.branches_from leaves types F n S (suc m) xs h ts ≡ parse.branches_from leaves types F n S m (xs ++ x.tree ∷ []) (max h x.height) r
  unfolding parse.branches_from parse.inner
  step_branch m ts r xs h x b room e = rw (b, room, e) refl

  pub end_branches : (m : ℕ) (r : List Token) (xs : List Stmt) (h : ℕ) → begins_statement types r ≡ false → parse.branches_from leaves types F n S (suc m) xs h r ≡ Ok ((xs, h), r)
  unfolding parse.branches_from
  end_branches m r xs h b = rw b refl

  pub step_case : (d : Bool) (m : ℕ) (w t : Token) (ts r1 r : List Token) (xs : List Stmt) (h : ℕ) (x : Sized) (ys : Statements) → w.kind ≡ k.Case → nat_lt 0 n ≡ true → assignment_within leaves types F n ts ≡ Ok (x, t ∷ r1) → t.kind ≡ k.Colon → parse.body_from leaves types F n S F [] 0 r1 ≡ Ok (ys, r)
      → parse.cases_from leaves types F n S d (suc m) xs h (w ∷ ts) ≡ parse.cases_from leaves types F n S d m (xs ++ sm.Case w.place x.0 ∷ ys.0) (max h (max x.1 ys.1)) r
  unfolding parse.cases_from parse.one_case begins_case kind same_kind take_if expect_if
  step_case d m w t ts r1 r xs h x ys wc room e tc e2 = rw (wc, room, e, tc, e2) refl

  pub step_default : (m : ℕ) (w t : Token) (r1 r : List Token) (xs : List Stmt) (h : ℕ) (ys : Statements) → w.kind ≡ k.Default → t.kind ≡ k.Colon → parse.body_from leaves types F n S F [] 0 r1 ≡ Ok (ys, r)
      → parse.cases_from leaves types F n S true (suc m) xs h (w ∷ t ∷ r1) ≡ parse.cases_from leaves types F n S true m (xs ++ sm.Default w.place ∷ ys.0) (max h ys.1) r
  unfolding parse.cases_from parse.default_case begins_case kind same_kind take_if expect_if
  step_default m w t r1 r xs h ys wc tc e2 = rw (wc, tc, e2) refl

  pub end_cases : (d : Bool) (m : ℕ) (r : List Token) (xs : List Stmt) (h : ℕ) → begins_case d (kind r) ≡ false → parse.cases_from leaves types F n S d (suc m) xs h r ≡ Ok ((xs, h), r)
  unfolding parse.cases_from
  end_cases d m r xs h b = rw b refl

  pub step_block : (p q : Token) (ts r : List Token) (xs : Statements) → p.kind ≡ k.LeftBrace → parse.body_from leaves types F n S F [] 0 ts ≡ Ok (xs, q ∷ r) → q.kind ≡ k.RightBrace → parse.block leaves types F n S (p ∷ ts) ≡ Ok (ended (sm.Block p.place xs.0) (xs.1 + 1), r)
  unfolding parse.block kind same_kind take_if expect_if
  step_block p q ts r xs pc e qc = rw (pc, e, qc) refl

  pub step_braced : (d : Bool) (p q : Token) (ts r : List Token) (xs : Statements) → p.kind ≡ k.LeftBrace → parse.cases_from leaves types F n S d F [] 0 ts ≡ Ok (xs, q ∷ r) → q.kind ≡ k.RightBrace → parse.braced_cases leaves types F n S d (p ∷ ts) ≡ Ok (xs, r)
  unfolding parse.braced_cases kind same_kind take_if expect_if
  step_braced d p q ts r xs pc e qc = rw (pc, e, qc) refl

  pub step_switch : (w : Token) (ts r1 r : List Token) (x : Sized) (ys : Statements) → nat_lt 0 n ≡ true → parse.condition leaves types F n ts ≡ Ok (x, r1) → parse.braced_cases leaves types F n S true r1 ≡ Ok (ys, r) → parse.switch leaves types F n S (w ∷ ts) ≡ Ok (ended (sm.Switch w.place x.0 ys.0) (max x.1 ys.1 + 1), r)
  unfolding parse.switch take_if
  step_switch w ts r1 r x ys room e e2 = rw (room, e, e2) refl

  pub step_alt : (w : Token) (ts r : List Token) (ys : Statements) → parse.braced_cases leaves types F n S false ts ≡ Ok (ys, r) → parse.alt leaves types F n S (w ∷ ts) ≡ Ok (ended (sm.Alt w.place ys.0) (ys.1 + 1), r)
  unfolding parse.alt take_if
  step_alt w ts r ys e = rw e refl

  pub step_par : (w p q : Token) (ts r : List Token) (xs : Statements) → p.kind ≡ k.LeftBrace → parse.branches_from leaves types F n S F [] 0 ts ≡ Ok (xs, q ∷ r) → q.kind ≡ k.RightBrace → parse.par leaves types F n S (w ∷ p ∷ ts) ≡ Ok (ended (sm.Par w.place xs.0) (xs.1 + 1), r)
  unfolding parse.par kind same_kind take_if expect_if
  step_par w p q ts r xs pc e qc = rw (pc, e, qc) refl

  pub step_rescue : (w : Token) (ts r : List Token) (x : ReadStmt) → nat_lt 0 n ≡ true → same_kind (kind ts) k.Name ≡ false → S want.Block ts ≡ Ok (x, r) → parse.rescue leaves types F n S (w ∷ ts) ≡ Ok (ended (sm.Rescue w.place None x.tree) (x.height + 1), r)
  unfolding parse.rescue parse.optional_name sees_other_name take_if
  step_rescue w ts r x room f e = rw (room, f, e) refl

  pub step_rescue_named : (w m : Token) (ts r : List Token) (x : ReadStmt) → nat_lt 0 n ≡ true → m.kind ≡ k.Name → known types m.name ≡ false → S want.Block ts ≡ Ok (x, r) → parse.rescue leaves types F n S (w ∷ m ∷ ts) ≡ Ok (ended (sm.Rescue w.place (Some (name_at m)) x.tree) (x.height + 1), r)
  unfolding parse.rescue parse.optional_name sees_other_name kind name_number same_kind take_if
  step_rescue_named w m ts r x room mc f e = rw (room, mc, f, e) refl
