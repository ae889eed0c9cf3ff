-- The names in a statement stand at tokens of it, each at one of its own.
use Rattle.std.proofs.Common.{◌≡◌, ℕ, Bool, List, [], ◌∷◌, ◌++◌, flat_map, Option, Some, None, sym, ap, ◌∙◌, append-nil}
use Rattle.std.proofs.lemmas.List.Concat.{flat_map-append}
use Rattle.al_base.specs.declared.place.Place.{Place}
use Rattle.al_lex.specs.declared.token.Token.{Token}
use Rattle.al_tree.specs.Words.{start}
use Rattle.al_tree.specs.Types.{Leaves, name_at, IsDcl, dcl}
use Rattle.al_tree.specs.declared.type_tree.Dcl.{Dcl}
use Rattle.al_tree.specs.Expressions.{IsAsg, IsAsgs, IsExpr}
use Rattle.al_tree.specs.Statements as g
use Rattle.al_tree.specs.Statements.{IsVariable, IsVariables, IsOptionalExpr, IsStmt, IsBlock, IsBodyStmt, IsBody, IsCases, IsBranches}
use Rattle.al_tree.specs.declared.expression.Expr.{Expr}
use Rattle.al_tree.specs.declared.statement.Variable.{Variable}
use Rattle.al_tree.specs.declared.statement.Stmt.{Stmt, roll-Stmt, map-Stmt, fold-roll-Stmt}
use Rattle.al_tree.specs.declared.statement.Stmt.TheVariants as s
use Rattle.al_tree.specs.declared.statement.Stmt.TheOpen.{Stmt-F}
use Rattle.al_tree_walks.specs.Expressions.{name_places}
use Rattle.al_tree_places.specs.Names.{optional, variable_places, statement_step, statement_places}
use Rattle.al_tree_places.proofs.Times.{Within, within_is, nothing, behind, first, both, before, after, joined_map, flat_one_more}
use Rattle.al_tree_places.proofs.ExpressionsAre.{asg_within, asgs_within, expr_within}

abbrev step_of : Stmt-F Stmt → List Place
step_of z = statement_step (map-Stmt Stmt (List Place) statement_places z)

pub statement_is : (z : Stmt-F Stmt) {x : Stmt} → roll-Stmt z ≡ x → statement_places x ≡ step_of z
unfolding statement_places
statement_is z q = ap statement_places (sym q) ∙ fold-roll-Stmt (List Place) statement_step z

abbrev T : Stmt → List Place
T = statement_places

case_is : (xs ys : List Stmt) (w : Token) (x : Expr) → flat_map T (xs ++ s.Case w.place x ∷ ys) ≡ flat_map T xs ++ (name_places x ++ flat_map T ys)
case_is xs ys w x = flat_map-append T xs (s.Case w.place x ∷ ys) ∙ ap (λ ts. flat_map T xs ++ (ts ++ flat_map T ys)) (statement_is _ (s.rolls-Case w.place x))

default_is : (xs ys : List Stmt) (w : Token) → flat_map T (xs ++ s.Default w.place ∷ ys) ≡ flat_map T xs ++ flat_map T ys
default_is xs ys w = flat_map-append T xs (s.Default w.place ∷ ys) ∙ ap (λ ts. flat_map T xs ++ (ts ++ flat_map T ys)) (statement_is _ (s.rolls-Default w.place))

module _ (leaves : Leaves) (types : List ℕ) where
  within_by : {u : List Token} (z : Stmt-F Stmt) {x : Stmt} → roll-Stmt z ≡ x → Within u (step_of z) → Within u (statement_places x)
  within_by z q f = within_is (statement_is z q) f

  pub dcl_within : {u : List Token} {x : Dcl} {h : ℕ} → IsDcl leaves types u x h → Within u (x.name.at ∷ [])
  dcl_within (dcl t {u = u} {v = v} a b c) = after u (t ∷ v) (first t (nothing v))

  pub variable_within : {u : List Token} {x : Variable} {h : ℕ} → IsVariable leaves types u x h → Within u (variable_places x)
  variable_within (g.bare d) = dcl_within d
  variable_within (g.set t {u = u} {v = v} {x = x} {y = y} d c a) = both u (t ∷ v) (x.name.at ∷ []) (name_places y) (dcl_within d) (behind t (asg_within leaves types a))

  pub variables_within : {u : List Token} {xs : List Variable} {h : ℕ} → IsVariables leaves types u xs h → Within u (flat_map variable_places xs)
  variables_within (g.one {x = x} d) = within_is (append-nil (variable_places x)) (variable_within d)
  variables_within (g.more t {u = u} {v = v} {xs = xs} {x = x} l c d) =
      within_is (flat_one_more variable_places xs x) (both u (t ∷ v) (flat_map variable_places xs) (variable_places x) (variables_within l) (behind t (variable_within d)))

  pub optional_within : {u : List Token} {x : Option Expr} {h : ℕ} → IsOptionalExpr leaves types u x h → Within u (optional name_places x)
  optional_within g.none = nothing []
  optional_within (g.some d) = expr_within leaves types d

  ex : {u : List Token} {x : Expr} {h : ℕ} → IsExpr leaves types u x h → Within u (name_places x)
  ex d = expr_within leaves types d

  asg : {u : List Token} {x : Expr} {h : ℕ} → IsAsg leaves types u x h → Within u (name_places x)
  asg d = asg_within leaves types d

  ls : {u : List Token} {xs : List Expr} {h : ℕ} → IsAsgs leaves types u xs h → Within u (flat_map name_places xs)
  ls d = asgs_within leaves types d

  mutual
    pub stmt_within : {dangles : Bool} {u : List Token} {x : Stmt} {h : ℕ} → IsStmt leaves types dangles u x h → Within u (statement_places x)
    stmt_within (g.empty t c) = within_by _ (s.rolls-Empty t.place) (nothing (t ∷ []))
    stmt_within (g.block d) = block_within d
    stmt_within (g.value t {u = u} {x = x} d c) = within_by _ (s.rolls-Value (start u) x) (before u (t ∷ []) (ex d))
    stmt_within (g.label m t {x = x} b c d) = within_by _ (s.rolls-Label m.place m.name x) (behind m (behind t (stmt_within d)))
    stmt_within (g.if_alone w o c {u = u} {v = v} {x = x} {y = y} wc oc a ec d) =
        within_by _ (s.rolls-If w.place x y None) (within_is (ap (λ ts. name_places x ++ ts) (append-nil (T y)))
        (behind w (behind o (both u (c ∷ v) (name_places x) (T y) (ex a) (behind c (stmt_within d))))))
    stmt_within (g.if_else w o c t {u = u} {v = v} {r = r} {x = x} {y = y} {z = z} wc oc a ec d tc b) =
        within_by _ (s.rolls-If w.place x y (Some z))
        (behind w (behind o (both u (c ∷ (v ++ t ∷ r)) (name_places x) (T y ++ T z) (ex a) (behind c (both v (t ∷ r) (T y) (T z) (stmt_within d) (behind t (stmt_within b)))))))
    stmt_within (g.while_loop w o c {u = u} {v = v} {x = x} {y = y} wc oc a ec d) =
        within_by _ (s.rolls-While w.place x y) (behind w (behind o (both u (c ∷ v) (name_places x) (T y) (ex a) (behind c (stmt_within d)))))
    stmt_within (g.do_loop w t o c q {u = u} {v = v} {x = x} {y = y} wc d tc oc a ec qc) =
        within_by _ (s.rolls-Do w.place x y)
        (behind w (both u (t ∷ o ∷ (v ++ c ∷ q ∷ [])) (T x) (name_places y) (stmt_within d) (behind t (behind o (before v (c ∷ q ∷ []) (ex a))))))
    stmt_within (g.for_loop w o p q c {u = u} {v = v} {r = r} {b = b} {x = x} {y = y} {z = z} {body = body} wc oc a pc d qc e ec f) =
        within_by _ (s.rolls-For w.place x y z body)
        (behind w (behind o (both u (p ∷ (v ++ q ∷ (r ++ c ∷ b))) (optional name_places x) (optional name_places y ++ (optional name_places z ++ T body)) (optional_within a)
        (behind p (both v (q ∷ (r ++ c ∷ b)) (optional name_places y) (optional name_places z ++ T body) (optional_within d)
        (behind q (both r (c ∷ b) (optional name_places z) (T body) (optional_within e) (behind c (stmt_within f)))))))))
    stmt_within (g.switch w o c p q {u = u} {v = v} {x = x} {ys = ys} wc oc a ec pc l qc) =
        within_by _ (s.rolls-Switch w.place x ys) (within_is (ap (λ ts. name_places x ++ ts) (joined_map T ys))
        (behind w (behind o (both u (c ∷ p ∷ (v ++ q ∷ [])) (name_places x) (flat_map T ys) (ex a) (behind c (behind p (before v (q ∷ []) (cases_within l))))))))
    stmt_within (g.alt w p q {u = u} {xs = xs} wc pc l qc) = within_by _ (s.rolls-Alt w.place xs) (within_is (joined_map T xs) (behind w (behind p (before u (q ∷ []) (cases_within l)))))
    stmt_within (g.par w p q {u = u} {xs = xs} wc pc l qc) = within_by _ (s.rolls-Par w.place xs) (within_is (joined_map T xs) (behind w (behind p (before u (q ∷ []) (branches_within l)))))
    stmt_within (g.rescue w {n = m} {u = u} {name = name} {x = x} wc a d) = within_by _ (s.rolls-Rescue w.place name x) (behind w (after m u (block_within d)))
    stmt_within (g.raise w t {n = m} {name = name} wc a tc) = within_by _ (s.rolls-Raise w.place name) (nothing (w ∷ (m ++ t ∷ [])))
    stmt_within (g.return w t {u = u} {x = x} wc a tc) = within_by _ (s.rolls-Return w.place x) (behind w (before u (t ∷ []) (optional_within a)))
    stmt_within (g.become w t {u = u} {x = x} wc a tc) = within_by _ (s.rolls-Become w.place x) (behind w (before u (t ∷ []) (ex a)))
    stmt_within (g.break w t {n = m} {count = count} wc a tc) = within_by _ (s.rolls-Break w.place count) (nothing (w ∷ (m ++ t ∷ [])))
    stmt_within (g.continue w t {n = m} {count = count} wc a tc) = within_by _ (s.rolls-Continue w.place count) (nothing (w ∷ (m ++ t ∷ [])))
    stmt_within (g.goto w m t wc a tc) = within_by _ (s.rolls-Goto w.place (name_at m)) (nothing (w ∷ m ∷ t ∷ []))
    stmt_within (g.alloc w t {u = u} {xs = xs} wc l tc) = within_by _ (s.rolls-Alloc w.place xs) (behind w (before u (t ∷ []) (ls l)))
    stmt_within (g.unalloc w t {u = u} {xs = xs} wc l tc) = within_by _ (s.rolls-Unalloc w.place xs) (behind w (before u (t ∷ []) (ls l)))
    stmt_within (g.check w t {u = u} {x = x} wc a tc) = within_by _ (s.rolls-Check w.place x None) (behind w (before u (t ∷ []) (asg a)))
    stmt_within (g.check_text w m b t {u = u} {x = x} wc a mc bc tc) =
        within_by _ (s.rolls-Check w.place x (Some (leaves.bytes b))) (behind w (before u (m ∷ b ∷ t ∷ []) (asg a)))
    stmt_within (g.proc w t {u = u} {xs = xs} wc l tc) = within_by _ (s.rolls-Proc w.place xs) (behind w (before u (t ∷ []) (ls l)))
    stmt_within (g.task w t {u = u} {xs = xs} wc l tc) = within_by _ (s.rolls-Task w.place xs) (behind w (before u (t ∷ []) (ls l)))

    pub block_within : {u : List Token} {x : Stmt} {h : ℕ} → IsBlock leaves types u x h → Within u (statement_places x)
    block_within (g.braces p q {u = u} {xs = xs} pc l qc) = within_by _ (s.rolls-Block p.place xs) (within_is (joined_map T xs) (behind p (before u (q ∷ []) (body_within l))))

    pub body_stmt_within : {u : List Token} {x : Stmt} {h : ℕ} → IsBodyStmt leaves types u x h → Within u (statement_places x)
    body_stmt_within (g.statement d) = stmt_within d
    body_stmt_within (g.declare t {u = u} {v = v} {x = x} {ys = ys} b l tc) = within_by _ (s.rolls-Declare (start u) x ys) (before (u ++ v) (t ∷ []) (after u v (variables_within l)))

    pub body_within : {u : List Token} {xs : List Stmt} {h : ℕ} → IsBody leaves types u xs h → Within u (flat_map statement_places xs)
    body_within g.no_statement = nothing []
    body_within (g.one_more {u = u} {v = v} {xs = xs} {x = x} l d) = within_is (flat_one_more T xs x) (both u v (flat_map T xs) (T x) (body_within l) (body_stmt_within d))

    pub cases_within : {with_default : Bool} {u : List Token} {xs : List Stmt} {h : ℕ} → IsCases leaves types with_default u xs h → Within u (flat_map statement_places xs)
    cases_within g.no_case = nothing []
    cases_within (g.one_case w t {u = u} {v = v} {r = r} {xs = xs} {ys = ys} {x = x} l wc a tc b) =
        within_is (case_is xs ys w x) (both u (w ∷ (v ++ t ∷ r)) (flat_map T xs) (name_places x ++ flat_map T ys) (cases_within l)
        (behind w (both v (t ∷ r) (name_places x) (flat_map T ys) (asg a) (behind t (body_within b)))))
    cases_within (g.default_case w t {u = u} {r = r} {xs = xs} {ys = ys} l wc tc b) =
        within_is (default_is xs ys w) (both u (w ∷ t ∷ r) (flat_map T xs) (flat_map T ys) (cases_within l) (behind w (behind t (body_within b))))

    pub branches_within : {u : List Token} {xs : List Stmt} {h : ℕ} → IsBranches leaves types u xs h → Within u (flat_map statement_places xs)
    branches_within g.no_branch = nothing []
    branches_within (g.one_branch {u = u} {v = v} {xs = xs} {x = x} l d) = within_is (flat_one_more T xs x) (both u v (flat_map T xs) (T x) (branches_within l) (stmt_within d))
