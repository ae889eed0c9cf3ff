-- The string constants in statements are no more than their tokens.
use Rattle.std.proofs.Common.{◌≡◌, ℕ, Bool, true, List, [], ◌∷◌, ◌++◌, flat_map, Option, Some, None, sym, ap, ◌∙◌, append-nil}
use Rattle.std.proofs.lemmas.List.Concat.{flat_map-append}
use Rattle.al_lex.specs.declared.token.Token.{Token}
use Rattle.al_tree.specs.Words.{start}
use Rattle.al_tree.specs.Types.{Leaves, name_at}
use Rattle.al_tree.specs.Expressions.{IsAsg, IsAsgs, IsExpr}
use Rattle.al_tree.specs.Statements as g
use Rattle.al_tree.specs.Statements.{IsVariable, IsVariables, IsOptionalExpr, IsStmt, IsBlock, IsBodyStmt, IsBody, IsCases, IsBranches}
use Rattle.al_tree.specs.declared.expression.Expr.{Expr}
use Rattle.al_tree.specs.declared.statement.Variable.{Variable}
use Rattle.al_tree.specs.declared.statement.Stmt.{Stmt, roll-Stmt, map-Stmt, fold-roll-Stmt}
use Rattle.al_tree.specs.declared.statement.Stmt.TheVariants as s
use Rattle.al_tree.specs.declared.statement.Stmt.TheOpen.{Stmt-F}
use Rattle.al_tree_laws.specs.Texts.{Texts, optional, texts_of, variable_texts, statement_step, statement_texts}
use Rattle.al_tree_laws.proofs.Few.{Few, few_is, nothing, behind, both, before, after, joined_map, flat_one_more}
use Rattle.al_tree_laws.proofs.ExpressionsAre.{asg_few, asgs_few, expr_few}

abbrev step_of : Stmt-F Stmt → Texts
step_of z = statement_step (map-Stmt Stmt Texts statement_texts z)

pub statement_is : (z : Stmt-F Stmt) {x : Stmt} → roll-Stmt z ≡ x → statement_texts x ≡ step_of z
unfolding statement_texts
statement_is z q = ap statement_texts (sym q) ∙ fold-roll-Stmt Texts statement_step z

abbrev T : Stmt → Texts
T = statement_texts

case_is : (xs ys : List Stmt) (w : Token) (x : Expr) → flat_map T (xs ++ s.Case w.place x ∷ ys) ≡ flat_map T xs ++ (texts_of x ++ flat_map T ys)
case_is xs ys w x = flat_map-append T xs (s.Case w.place x ∷ ys) ∙ ap (λ ts. flat_map T xs ++ (ts ++ flat_map T ys)) (statement_is _ (s.rolls-Case w.place x))

default_is : (xs ys : List Stmt) (w : Token) → flat_map T (xs ++ s.Default w.place ∷ ys) ≡ flat_map T xs ++ flat_map T ys
default_is xs ys w = flat_map-append T xs (s.Default w.place ∷ ys) ∙ ap (λ ts. flat_map T xs ++ (ts ++ flat_map T ys)) (statement_is _ (s.rolls-Default w.place))

module _ (leaves : Leaves) (types : List ℕ) (Q : List ℕ → Bool) (holds : (t : Token) → Q (leaves.bytes t) ≡ true) where
  few_by : {u : List Token} (z : Stmt-F Stmt) {x : Stmt} → roll-Stmt z ≡ x → Few Q u (step_of z) → Few Q u (statement_texts x)
  few_by z q f = few_is (statement_is z q) f

  pub variable_few : {u : List Token} {x : Variable} {h : ℕ} → IsVariable leaves types u x h → Few Q u (variable_texts x)
  variable_few (g.bare {u = u} d) = nothing u
  variable_few (g.set t {u = u} {v = v} d c a) = after u (t ∷ v) (behind t (asg_few leaves types Q holds a))

  pub variables_few : {u : List Token} {xs : List Variable} {h : ℕ} → IsVariables leaves types u xs h → Few Q u (flat_map variable_texts xs)
  variables_few (g.one {x = x} d) = few_is (append-nil (variable_texts x)) (variable_few d)
  variables_few (g.more t {u = u} {v = v} {xs = xs} {x = x} l c d) =
      few_is (flat_one_more variable_texts xs x) (both u (t ∷ v) (flat_map variable_texts xs) (variable_texts x) (variables_few l) (behind t (variable_few d)))

  pub optional_few : {u : List Token} {x : Option Expr} {h : ℕ} → IsOptionalExpr leaves types u x h → Few Q u (optional texts_of x)
  optional_few g.none = nothing []
  optional_few (g.some d) = expr_few leaves types Q holds d

  ex : {u : List Token} {x : Expr} {h : ℕ} → IsExpr leaves types u x h → Few Q u (texts_of x)
  ex d = expr_few leaves types Q holds d

  asg : {u : List Token} {x : Expr} {h : ℕ} → IsAsg leaves types u x h → Few Q u (texts_of x)
  asg d = asg_few leaves types Q holds d

  ls : {u : List Token} {xs : List Expr} {h : ℕ} → IsAsgs leaves types u xs h → Few Q u (flat_map texts_of xs)
  ls d = asgs_few leaves types Q holds d

  mutual
    pub stmt_few : {dangles : Bool} {u : List Token} {x : Stmt} {h : ℕ} → IsStmt leaves types dangles u x h → Few Q u (statement_texts x)
    stmt_few (g.empty t c) = few_by _ (s.rolls-Empty t.place) (nothing (t ∷ []))
    stmt_few (g.block d) = block_few d
    stmt_few (g.value t {u = u} {x = x} d c) = few_by _ (s.rolls-Value (start u) x) (before u (t ∷ []) (ex d))
    stmt_few (g.label m t {x = x} b c d) = few_by _ (s.rolls-Label m.place m.name x) (behind m (behind t (stmt_few d)))
    stmt_few (g.if_alone w o c {u = u} {v = v} {x = x} {y = y} wc oc a ec d) =
        few_by _ (s.rolls-If w.place x y None) (few_is (ap (λ ts. texts_of x ++ ts) (append-nil (T y)))
        (behind w (behind o (both u (c ∷ v) (texts_of x) (T y) (ex a) (behind c (stmt_few d))))))
    stmt_few (g.if_else w o c t {u = u} {v = v} {r = r} {x = x} {y = y} {z = z} wc oc a ec d tc b) =
        few_by _ (s.rolls-If w.place x y (Some z))
        (behind w (behind o (both u (c ∷ (v ++ t ∷ r)) (texts_of x) (T y ++ T z) (ex a) (behind c (both v (t ∷ r) (T y) (T z) (stmt_few d) (behind t (stmt_few b)))))))
    stmt_few (g.while_loop w o c {u = u} {v = v} {x = x} {y = y} wc oc a ec d) =
        few_by _ (s.rolls-While w.place x y) (behind w (behind o (both u (c ∷ v) (texts_of x) (T y) (ex a) (behind c (stmt_few d)))))
    stmt_few (g.do_loop w t o c q {u = u} {v = v} {x = x} {y = y} wc d tc oc a ec qc) =
        few_by _ (s.rolls-Do w.place x y)
        (behind w (both u (t ∷ o ∷ (v ++ c ∷ q ∷ [])) (T x) (texts_of y) (stmt_few d) (behind t (behind o (before v (c ∷ q ∷ []) (ex a))))))
    stmt_few (g.for_loop w o p q c {u = u} {v = v} {r = r} {b = b} {x = x} {y = y} {z = z} {body = body} wc oc a pc d qc e ec f) =
        few_by _ (s.rolls-For w.place x y z body)
        (behind w (behind o (both u (p ∷ (v ++ q ∷ (r ++ c ∷ b))) (optional texts_of x) (optional texts_of y ++ (optional texts_of z ++ T body)) (optional_few a)
        (behind p (both v (q ∷ (r ++ c ∷ b)) (optional texts_of y) (optional texts_of z ++ T body) (optional_few d)
        (behind q (both r (c ∷ b) (optional texts_of z) (T body) (optional_few e) (behind c (stmt_few f)))))))))
    stmt_few (g.switch w o c p q {u = u} {v = v} {x = x} {ys = ys} wc oc a ec pc l qc) =
        few_by _ (s.rolls-Switch w.place x ys) (few_is (ap (λ ts. texts_of x ++ ts) (joined_map T ys))
        (behind w (behind o (both u (c ∷ p ∷ (v ++ q ∷ [])) (texts_of x) (flat_map T ys) (ex a) (behind c (behind p (before v (q ∷ []) (cases_few l))))))))
    stmt_few (g.alt w p q {u = u} {xs = xs} wc pc l qc) = few_by _ (s.rolls-Alt w.place xs) (few_is (joined_map T xs) (behind w (behind p (before u (q ∷ []) (cases_few l)))))
    stmt_few (g.par w p q {u = u} {xs = xs} wc pc l qc) = few_by _ (s.rolls-Par w.place xs) (few_is (joined_map T xs) (behind w (behind p (before u (q ∷ []) (branches_few l)))))
    stmt_few (g.rescue w {n = m} {u = u} {name = name} {x = x} wc a d) = few_by _ (s.rolls-Rescue w.place name x) (behind w (after m u (block_few d)))
    stmt_few (g.raise w t {n = m} {name = name} wc a tc) = few_by _ (s.rolls-Raise w.place name) (nothing (w ∷ (m ++ t ∷ [])))
    stmt_few (g.return w t {u = u} {x = x} wc a tc) = few_by _ (s.rolls-Return w.place x) (behind w (before u (t ∷ []) (optional_few a)))
    stmt_few (g.become w t {u = u} {x = x} wc a tc) = few_by _ (s.rolls-Become w.place x) (behind w (before u (t ∷ []) (ex a)))
    stmt_few (g.break w t {n = m} {count = count} wc a tc) = few_by _ (s.rolls-Break w.place count) (nothing (w ∷ (m ++ t ∷ [])))
    stmt_few (g.continue w t {n = m} {count = count} wc a tc) = few_by _ (s.rolls-Continue w.place count) (nothing (w ∷ (m ++ t ∷ [])))
    stmt_few (g.goto w m t wc a tc) = few_by _ (s.rolls-Goto w.place (name_at m)) (nothing (w ∷ m ∷ t ∷ []))
    stmt_few (g.alloc w t {u = u} {xs = xs} wc l tc) = few_by _ (s.rolls-Alloc w.place xs) (behind w (before u (t ∷ []) (ls l)))
    stmt_few (g.unalloc w t {u = u} {xs = xs} wc l tc) = few_by _ (s.rolls-Unalloc w.place xs) (behind w (before u (t ∷ []) (ls l)))
    stmt_few (g.check w t {u = u} {x = x} wc a tc) = few_by _ (s.rolls-Check w.place x None) (behind w (before u (t ∷ []) (asg a)))
    stmt_few (g.check_text w m b t {u = u} {x = x} wc a mc bc tc) =
        few_by _ (s.rolls-Check w.place x (Some (leaves.bytes b))) (behind w (before u (m ∷ b ∷ t ∷ []) (asg a)))
    stmt_few (g.proc w t {u = u} {xs = xs} wc l tc) = few_by _ (s.rolls-Proc w.place xs) (behind w (before u (t ∷ []) (ls l)))
    stmt_few (g.task w t {u = u} {xs = xs} wc l tc) = few_by _ (s.rolls-Task w.place xs) (behind w (before u (t ∷ []) (ls l)))

    pub block_few : {u : List Token} {x : Stmt} {h : ℕ} → IsBlock leaves types u x h → Few Q u (statement_texts x)
    block_few (g.braces p q {u = u} {xs = xs} pc l qc) = few_by _ (s.rolls-Block p.place xs) (few_is (joined_map T xs) (behind p (before u (q ∷ []) (body_few l))))

    pub body_stmt_few : {u : List Token} {x : Stmt} {h : ℕ} → IsBodyStmt leaves types u x h → Few Q u (statement_texts x)
    body_stmt_few (g.statement d) = stmt_few d
    body_stmt_few (g.declare t {u = u} {v = v} {x = x} {ys = ys} b l tc) = few_by _ (s.rolls-Declare (start u) x ys) (before (u ++ v) (t ∷ []) (after u v (variables_few l)))

    pub body_few : {u : List Token} {xs : List Stmt} {h : ℕ} → IsBody leaves types u xs h → Few Q u (flat_map statement_texts xs)
    body_few g.no_statement = nothing []
    body_few (g.one_more {u = u} {v = v} {xs = xs} {x = x} l d) = few_is (flat_one_more T xs x) (both u v (flat_map T xs) (T x) (body_few l) (body_stmt_few d))

    pub cases_few : {with_default : Bool} {u : List Token} {xs : List Stmt} {h : ℕ} → IsCases leaves types with_default u xs h → Few Q u (flat_map statement_texts xs)
    cases_few g.no_case = nothing []
    cases_few (g.one_case w t {u = u} {v = v} {r = r} {xs = xs} {ys = ys} {x = x} l wc a tc b) =
        few_is (case_is xs ys w x) (both u (w ∷ (v ++ t ∷ r)) (flat_map T xs) (texts_of x ++ flat_map T ys) (cases_few l)
        (behind w (both v (t ∷ r) (texts_of x) (flat_map T ys) (asg a) (behind t (body_few b)))))
    cases_few (g.default_case w t {u = u} {r = r} {xs = xs} {ys = ys} l wc tc b) =
        few_is (default_is xs ys w) (both u (w ∷ t ∷ r) (flat_map T xs) (flat_map T ys) (cases_few l) (behind w (behind t (body_few b))))

    pub branches_few : {u : List Token} {xs : List Stmt} {h : ℕ} → IsBranches leaves types u xs h → Few Q u (flat_map statement_texts xs)
    branches_few g.no_branch = nothing []
    branches_few (g.one_branch {u = u} {v = v} {xs = xs} {x = x} l d) = few_is (flat_one_more T xs x) (both u v (flat_map T xs) (T x) (branches_few l) (stmt_few d))
