-- Lists of places of statements, in which each statement adds no more than its own place, stand at tokens, each at one of its own.
use Rattle.std.proofs.Common.{◌≡◌, ℕ, ◌≤◌, Bool, List, [], ◌∷◌, ◌++◌, flat_map, Option, Some, None, ap, subst, arith, append-nil}
use Rattle.std.proofs.lemmas.List.Concat.{flat_map-append}
use Rattle.al_base.specs.declared.place.Place.{Place}
use Rattle.al_lex.specs.declared.token.Token.{Token}
use Rattle.al_tree.specs.Words.{start}
use Rattle.al_tree.specs.Types.{Leaves, name_at}
use Rattle.al_tree.specs.Statements as g
use Rattle.al_tree.specs.Statements.{IsStmt, IsBlock, IsBodyStmt, IsBody, IsCases, IsBranches}
use Rattle.al_tree.specs.declared.expression.Expr.{Expr}
use Rattle.al_tree.specs.declared.statement.Stmt.{Stmt, roll-Stmt}
use Rattle.al_tree.specs.declared.statement.Stmt.TheVariants as s
use Rattle.al_tree.specs.declared.statement.Stmt.TheOpen.{Stmt-F}
use Rattle.al_tree_places.proofs.Times.{times, places, Within, within_is, nothing, behind, first, both, before, after, flat_one_more}
use Rattle.al_tree_places.proofs.Begins.{start_within, expr_begins, base_begins}

-- the place of a statement
abbrev pub own_place : Stmt-F Stmt → Place
own_place (Stmt-F.Empty at) = at
own_place (Stmt-F.Block at body) = at
own_place (Stmt-F.Declare at base variables) = at
own_place (Stmt-F.Value at e) = at
own_place (Stmt-F.Label at name body) = at
own_place (Stmt-F.If at e met other) = at
own_place (Stmt-F.While at e body) = at
own_place (Stmt-F.Do at body e) = at
own_place (Stmt-F.For at start e next body) = at
own_place (Stmt-F.Switch at e body) = at
own_place (Stmt-F.Alt at body) = at
own_place (Stmt-F.Case at e) = at
own_place (Stmt-F.Default at) = at
own_place (Stmt-F.Par at branches) = at
own_place (Stmt-F.Rescue at name body) = at
own_place (Stmt-F.Raise at name) = at
own_place (Stmt-F.Return at e) = at
own_place (Stmt-F.Become at e) = at
own_place (Stmt-F.Break at count) = at
own_place (Stmt-F.Continue at count) = at
own_place (Stmt-F.Goto at name) = at
own_place (Stmt-F.Alloc at es) = at
own_place (Stmt-F.Unalloc at es) = at
own_place (Stmt-F.Check at e text) = at
own_place (Stmt-F.Proc at es) = at
own_place (Stmt-F.Task at es) = at

abbrev pub places_if : (Stmt → List Place) → Option Stmt → List Place
places_if G None = []
places_if G (Some x) = G x

-- those of the statements in a statement
abbrev pub inner : (Stmt → List Place) → Stmt-F Stmt → List Place
inner G (Stmt-F.Block at body) = flat_map G body
inner G (Stmt-F.Label at name body) = G body
inner G (Stmt-F.If at e met other) = G met ++ places_if G other
inner G (Stmt-F.While at e body) = G body
inner G (Stmt-F.Do at body e) = G body
inner G (Stmt-F.For at start e next body) = G body
inner G (Stmt-F.Switch at e body) = flat_map G body
inner G (Stmt-F.Alt at body) = flat_map G body
inner G (Stmt-F.Par at branches) = flat_map G branches
inner G (Stmt-F.Rescue at name body) = G body
inner G _ = []

-- a statement adds no more than its own place
abbrev pub IsModest : (Stmt → List Place) → Type 0
IsModest G = (z : Stmt-F Stmt) (at : Place) → times at (G (roll-Stmt z)) ≤ times at (own_place z ∷ inner G z)

module _ (G : Stmt → List Place) (modest : IsModest G) where
  within_of : {u : List Token} (z : Stmt-F Stmt) → Within u (own_place z ∷ inner G z) → Within u (G (roll-Stmt z))
  within_of {u} z f = record {
    few = λ at.
        let p : times at (G (roll-Stmt z)) ≤ times at (own_place z ∷ inner G z) = modest z at in
        let q : times at (own_place z ∷ inner G z) ≤ times at (places u) = f.few at in
        omega (arith, p, q);
  }

  within_by : {u : List Token} (z : Stmt-F Stmt) {x : Stmt} → roll-Stmt z ≡ x → Within u (own_place z ∷ inner G z) → Within u (G x)
  within_by {u} z q f = subst (λ (x : Stmt). Within u (G x)) q (within_of z f)

  case_is : (xs ys : List Stmt) (w : Token) (x : Expr) → flat_map G (xs ++ s.Case w.place x ∷ ys) ≡ flat_map G xs ++ (G (s.Case w.place x) ++ flat_map G ys)
  case_is xs ys w x = flat_map-append G xs (s.Case w.place x ∷ ys)

  default_is : (xs ys : List Stmt) (w : Token) → flat_map G (xs ++ s.Default w.place ∷ ys) ≡ flat_map G xs ++ (G (s.Default w.place) ++ flat_map G ys)
  default_is xs ys w = flat_map-append G xs (s.Default w.place ∷ ys)

  module _ (leaves : Leaves) (types : List ℕ) where
    mutual
      pub stmt_marks : {dangles : Bool} {u : List Token} {x : Stmt} {h : ℕ} → IsStmt leaves types dangles u x h → Within u (G x)
      stmt_marks (g.empty t c) = within_by _ (s.rolls-Empty t.place) (first t (nothing []))
      stmt_marks (g.block d) = block_marks d
      stmt_marks (g.value t {u = u} {x = x} d c) = within_by _ (s.rolls-Value (start u) x) (before u (t ∷ []) (start_within u (expr_begins leaves types d)))
      stmt_marks (g.label m t {x = x} b c d) = within_by _ (s.rolls-Label m.place m.name x) (first m (behind t (stmt_marks d)))
      stmt_marks (g.if_alone w o c {u = u} {v = v} {x = x} {y = y} wc oc a ec d) =
          within_by _ (s.rolls-If w.place x y None) (within_is (ap (λ ats. w.place ∷ ats) (append-nil (G y)))
          (first w (behind o (after u (c ∷ v) (behind c (stmt_marks d))))))
      stmt_marks (g.if_else w o c t {u = u} {v = v} {r = r} {x = x} {y = y} {z = z} wc oc a ec d tc b) =
          within_by _ (s.rolls-If w.place x y (Some z))
          (first w (behind o (after u (c ∷ (v ++ t ∷ r)) (behind c (both v (t ∷ r) (G y) (G z) (stmt_marks d) (behind t (stmt_marks b)))))))
      stmt_marks (g.while_loop w o c {u = u} {v = v} {x = x} {y = y} wc oc a ec d) =
          within_by _ (s.rolls-While w.place x y) (first w (behind o (after u (c ∷ v) (behind c (stmt_marks d)))))
      stmt_marks (g.do_loop w t o c q {u = u} {v = v} {x = x} {y = y} wc d tc oc a ec qc) =
          within_by _ (s.rolls-Do w.place x y) (first w (before u (t ∷ o ∷ (v ++ c ∷ q ∷ [])) (stmt_marks d)))
      stmt_marks (g.for_loop w o p q c {u = u} {v = v} {r = r} {b = b} {x = x} {y = y} {z = z} {body = body} wc oc a pc d qc e ec f) =
          within_by _ (s.rolls-For w.place x y z body)
          (first w (behind o (after u (p ∷ (v ++ q ∷ (r ++ c ∷ b))) (behind p (after v (q ∷ (r ++ c ∷ b)) (behind q (after r (c ∷ b) (behind c (stmt_marks f)))))))))
      stmt_marks (g.switch w o c p q {u = u} {v = v} {x = x} {ys = ys} wc oc a ec pc l qc) =
          within_by _ (s.rolls-Switch w.place x ys) (first w (behind o (after u (c ∷ p ∷ (v ++ q ∷ [])) (behind c (behind p (before v (q ∷ []) (cases_marks l)))))))
      stmt_marks (g.alt w p q {u = u} {xs = xs} wc pc l qc) = within_by _ (s.rolls-Alt w.place xs) (first w (behind p (before u (q ∷ []) (cases_marks l))))
      stmt_marks (g.par w p q {u = u} {xs = xs} wc pc l qc) = within_by _ (s.rolls-Par w.place xs) (first w (behind p (before u (q ∷ []) (branches_marks l))))
      stmt_marks (g.rescue w {n = m} {u = u} {name = name} {x = x} wc a d) = within_by _ (s.rolls-Rescue w.place name x) (first w (after m u (block_marks d)))
      stmt_marks (g.raise w t {n = m} {name = name} wc a tc) = within_by _ (s.rolls-Raise w.place name) (first w (nothing (m ++ t ∷ [])))
      stmt_marks (g.return w t {u = u} {x = x} wc a tc) = within_by _ (s.rolls-Return w.place x) (first w (nothing (u ++ t ∷ [])))
      stmt_marks (g.become w t {u = u} {x = x} wc a tc) = within_by _ (s.rolls-Become w.place x) (first w (nothing (u ++ t ∷ [])))
      stmt_marks (g.break w t {n = m} {count = count} wc a tc) = within_by _ (s.rolls-Break w.place count) (first w (nothing (m ++ t ∷ [])))
      stmt_marks (g.continue w t {n = m} {count = count} wc a tc) = within_by _ (s.rolls-Continue w.place count) (first w (nothing (m ++ t ∷ [])))
      stmt_marks (g.goto w m t wc a tc) = within_by _ (s.rolls-Goto w.place (name_at m)) (first w (nothing (m ∷ t ∷ [])))
      stmt_marks (g.alloc w t {u = u} {xs = xs} wc l tc) = within_by _ (s.rolls-Alloc w.place xs) (first w (nothing (u ++ t ∷ [])))
      stmt_marks (g.unalloc w t {u = u} {xs = xs} wc l tc) = within_by _ (s.rolls-Unalloc w.place xs) (first w (nothing (u ++ t ∷ [])))
      stmt_marks (g.check w t {u = u} {x = x} wc a tc) = within_by _ (s.rolls-Check w.place x None) (first w (nothing (u ++ t ∷ [])))
      stmt_marks (g.check_text w m b t {u = u} {x = x} wc a mc bc tc) =
          within_by _ (s.rolls-Check w.place x (Some (leaves.bytes b))) (first w (nothing (u ++ m ∷ b ∷ t ∷ [])))
      stmt_marks (g.proc w t {u = u} {xs = xs} wc l tc) = within_by _ (s.rolls-Proc w.place xs) (first w (nothing (u ++ t ∷ [])))
      stmt_marks (g.task w t {u = u} {xs = xs} wc l tc) = within_by _ (s.rolls-Task w.place xs) (first w (nothing (u ++ t ∷ [])))

      pub block_marks : {u : List Token} {x : Stmt} {h : ℕ} → IsBlock leaves types u x h → Within u (G x)
      block_marks (g.braces p q {u = u} {xs = xs} pc l qc) = within_by _ (s.rolls-Block p.place xs) (first p (before u (q ∷ []) (body_marks l)))

      body_stmt_marks : {u : List Token} {x : Stmt} {h : ℕ} → IsBodyStmt leaves types u x h → Within u (G x)
      body_stmt_marks (g.statement d) = stmt_marks d
      body_stmt_marks (g.declare t {u = u} {v = v} {x = x} {ys = ys} b l tc) =
          within_by _ (s.rolls-Declare (start u) x ys) (before (u ++ v) (t ∷ []) (before u v (start_within u (base_begins leaves types b))))

      body_marks : {u : List Token} {xs : List Stmt} {h : ℕ} → IsBody leaves types u xs h → Within u (flat_map G xs)
      body_marks g.no_statement = nothing []
      body_marks (g.one_more {u = u} {v = v} {xs = xs} {x = x} l d) = within_is (flat_one_more G xs x) (both u v (flat_map G xs) (G x) (body_marks l) (body_stmt_marks d))

      cases_marks : {with_default : Bool} {u : List Token} {xs : List Stmt} {h : ℕ} → IsCases leaves types with_default u xs h → Within u (flat_map G xs)
      cases_marks g.no_case = nothing []
      cases_marks (g.one_case w t {u = u} {v = v} {r = r} {xs = xs} {ys = ys} {x = x} l wc a tc b) =
          within_is (case_is xs ys w x) (both u (w ∷ (v ++ t ∷ r)) (flat_map G xs) (G (s.Case w.place x) ++ flat_map G ys) (cases_marks l)
          (both (w ∷ v) (t ∷ r) (G (s.Case w.place x)) (flat_map G ys) (within_by _ (s.rolls-Case w.place x) (first w (nothing v))) (behind t (body_marks b))))
      cases_marks (g.default_case w t {u = u} {r = r} {xs = xs} {ys = ys} l wc tc b) =
          within_is (default_is xs ys w) (both u (w ∷ t ∷ r) (flat_map G xs) (G (s.Default w.place) ++ flat_map G ys) (cases_marks l)
          (both (w ∷ []) (t ∷ r) (G (s.Default w.place)) (flat_map G ys) (within_by _ (s.rolls-Default w.place) (first w (nothing []))) (behind t (body_marks b))))

      branches_marks : {u : List Token} {xs : List Stmt} {h : ℕ} → IsBranches leaves types u xs h → Within u (flat_map G xs)
      branches_marks g.no_branch = nothing []
      branches_marks (g.one_branch {u = u} {v = v} {xs = xs} {x = x} l d) = within_is (flat_one_more G xs x) (both u v (flat_map G xs) (G x) (branches_marks l) (stmt_marks d))
