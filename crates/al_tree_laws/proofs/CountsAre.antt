-- What a function declares is no more than its tokens.
use Rattle.std.proofs.Common.{◌≡◌, ℕ, zero, suc, ◌+◌, ◌≤◌, Bool, List, [], ◌∷◌, ◌++◌, map, length, Some, None, sym, ap, ◌∙◌, subst, ◌⊎◌, inl, inr, arith, length-append}
use Rattle.std.specs.Prelude.{slice_get}
use Rattle.al_lex.specs.declared.token.Token.{Token}
use Rattle.al_tree.specs.Leaves.{leaves_of}
use Rattle.al_tree.specs.Words.{start}
use Rattle.al_tree.specs.Types.{Leaves, name_at}
use Rattle.al_tree.specs.Statements as g
use Rattle.al_tree.specs.Statements.{IsVariables, IsStmt, IsBlock, IsBodyStmt, IsBody, IsCases, IsBranches}
use Rattle.al_tree.specs.Items as i
use Rattle.al_tree.specs.Items.{Declared, IsHead, IsItem, IsItems, IsParameterList, IsParameters, body_types}
use Rattle.al_tree.specs.declared.item.Head.{Head}
use Rattle.al_tree.specs.declared.item.Item.{Item}
use Rattle.al_tree.specs.declared.item.Parameter.{Parameter}
use Rattle.al_tree.specs.declared.statement.Variable.{Variable}
use Rattle.al_tree.specs.declared.statement.Stmt.{Stmt, roll-Stmt, map-Stmt, fold-roll-Stmt}
use Rattle.al_tree.specs.declared.statement.Stmt.TheVariants as s
use Rattle.al_tree.specs.declared.statement.Stmt.TheOpen.{Stmt-F}
use Rattle.al_tree_laws.specs.Counts.{DeclaredAreFew, declared_count, declared_step, function_count, total}

abbrev step_of : Stmt-F Stmt → ℕ
step_of z = declared_step (map-Stmt Stmt ℕ declared_count z)

count_is : (z : Stmt-F Stmt) {x : Stmt} → roll-Stmt z ≡ x → declared_count x ≡ step_of z
unfolding declared_count
count_is z q = ap declared_count (sym q) ∙ fold-roll-Stmt ℕ declared_step z

few_by : (n : ℕ) (z : Stmt-F Stmt) {x : Stmt} → roll-Stmt z ≡ x → step_of z ≤ n → declared_count x ≤ n
few_by n z q h = subst (λ k. k ≤ n) (sym (count_is z q)) h

abbrev C : List Stmt → ℕ
C xs = total (map declared_count xs)

joined : (xs ys : List Stmt) → C (xs ++ ys) ≡ C xs + C ys
joined [] ys = omega arith
joined (x ∷ xs) ys = let rest = joined xs ys in omega (arith, rest)

one : (x : Stmt) → C (x ∷ []) ≡ declared_count x
one x = omega arith

-- a label of a case declares nothing
case_none : (w : Token) (x : _) (ys : List Stmt) → C (s.Case w.place x ∷ ys) ≡ C ys
case_none w x ys = let none = count_is _ (s.rolls-Case w.place x) in omega (arith, none)

default_none : (w : Token) (ys : List Stmt) → C (s.Default w.place ∷ ys) ≡ C ys
default_none w ys = let none = count_is _ (s.rolls-Default w.place) in omega (arith, none)

module _ (leaves : Leaves) where
  module _ (types : List ℕ) where
    -- the commas between them are counted, and the token behind them
    variables_few : {u : List Token} {xs : List Variable} {h : ℕ} → IsVariables leaves types u xs h → length xs ≤ length u + 1
    variables_few (g.one d) = omega arith
    variables_few (g.more t {u = u} {v = v} {xs = xs} {x = x} l c d) =
        let few : length xs ≤ length u + 1 = variables_few l in omega (arith, few, length-append u (t ∷ v), length-append xs (x ∷ []))

    mutual
      stmt_few : {dangles : Bool} {u : List Token} {x : Stmt} {h : ℕ} → IsStmt leaves types dangles u x h → declared_count x ≤ length u
      stmt_few (g.empty t c) = few_by _ _ (s.rolls-Empty t.place) (omega arith)
      stmt_few (g.block d) = block_few d
      stmt_few (g.value t {u = u} {x = x} d c) = few_by _ _ (s.rolls-Value (start u) x) (omega arith)
      stmt_few (g.label m t {u = u} {x = x} b c d) = few_by _ _ (s.rolls-Label m.place m.name x) (let few : declared_count x ≤ length u = stmt_few d in omega (arith, few))
      stmt_few (g.if_alone w o c {u = u} {v = v} {x = x} {y = y} wc oc a ec d) =
          few_by _ _ (s.rolls-If w.place x y None) (let few : declared_count y ≤ length v = stmt_few d in omega (arith, few, length-append u (c ∷ v)))
      stmt_few (g.if_else w o c t {u = u} {v = v} {r = r} {x = x} {y = y} {z = z} wc oc a ec d tc b) =
          few_by _ _ (s.rolls-If w.place x y (Some z))
          (let few : declared_count y ≤ length v = stmt_few d in let more : declared_count z ≤ length r = stmt_few b in
          omega (arith, few, more, length-append u (c ∷ (v ++ t ∷ r)), length-append v (t ∷ r)))
      stmt_few (g.while_loop w o c {u = u} {v = v} {x = x} {y = y} wc oc a ec d) =
          few_by _ _ (s.rolls-While w.place x y) (let few : declared_count y ≤ length v = stmt_few d in omega (arith, few, length-append u (c ∷ v)))
      stmt_few (g.do_loop w t o c q {u = u} {v = v} {x = x} {y = y} wc d tc oc a ec qc) =
          few_by _ _ (s.rolls-Do w.place x y) (let few : declared_count x ≤ length u = stmt_few d in omega (arith, few, length-append u (t ∷ o ∷ (v ++ c ∷ q ∷ []))))
      stmt_few (g.for_loop w o p q c {u = u} {v = v} {r = r} {b = b} {x = x} {y = y} {z = z} {body = body} wc oc a pc d qc e ec f) =
          few_by _ _ (s.rolls-For w.place x y z body)
          (let few : declared_count body ≤ length b = stmt_few f in
          omega (arith, few, length-append u (p ∷ (v ++ q ∷ (r ++ c ∷ b))), length-append v (q ∷ (r ++ c ∷ b)), length-append r (c ∷ b)))
      stmt_few (g.switch w o c p q {u = u} {v = v} {x = x} {ys = ys} wc oc a ec pc l qc) =
          few_by _ _ (s.rolls-Switch w.place x ys) (let few : C ys ≤ length v = cases_few l in omega (arith, few, length-append u (c ∷ p ∷ (v ++ q ∷ [])), length-append v (q ∷ [])))
      stmt_few (g.alt w p q {u = u} {xs = xs} wc pc l qc) = few_by _ _ (s.rolls-Alt w.place xs) (let few : C xs ≤ length u = cases_few l in omega (arith, few, length-append u (q ∷ [])))
      stmt_few (g.par w p q {u = u} {xs = xs} wc pc l qc) = few_by _ _ (s.rolls-Par w.place xs) (let few : C xs ≤ length u = branches_few l in omega (arith, few, length-append u (q ∷ [])))
      stmt_few (g.rescue w {n = m} {u = u} {name = name} {x = x} wc a d) =
          few_by _ _ (s.rolls-Rescue w.place name x) (let few : declared_count x ≤ length u = block_few d in omega (arith, few, length-append m u))
      stmt_few (g.raise w t {n = m} {name = name} wc a tc) = few_by _ _ (s.rolls-Raise w.place name) (omega arith)
      stmt_few (g.return w t {u = u} {x = x} wc a tc) = few_by _ _ (s.rolls-Return w.place x) (omega arith)
      stmt_few (g.become w t {u = u} {x = x} wc a tc) = few_by _ _ (s.rolls-Become w.place x) (omega arith)
      stmt_few (g.break w t {n = m} {count = count} wc a tc) = few_by _ _ (s.rolls-Break w.place count) (omega arith)
      stmt_few (g.continue w t {n = m} {count = count} wc a tc) = few_by _ _ (s.rolls-Continue w.place count) (omega arith)
      stmt_few (g.goto w m t wc a tc) = few_by _ _ (s.rolls-Goto w.place (name_at m)) (omega arith)
      stmt_few (g.alloc w t {u = u} {xs = xs} wc l tc) = few_by _ _ (s.rolls-Alloc w.place xs) (omega arith)
      stmt_few (g.unalloc w t {u = u} {xs = xs} wc l tc) = few_by _ _ (s.rolls-Unalloc w.place xs) (omega arith)
      stmt_few (g.check w t {u = u} {x = x} wc a tc) = few_by _ _ (s.rolls-Check w.place x None) (omega arith)
      stmt_few (g.check_text w m b t {u = u} {x = x} wc a mc bc tc) = few_by _ _ (s.rolls-Check w.place x (Some (leaves.bytes b))) (omega arith)
      stmt_few (g.proc w t {u = u} {xs = xs} wc l tc) = few_by _ _ (s.rolls-Proc w.place xs) (omega arith)
      stmt_few (g.task w t {u = u} {xs = xs} wc l tc) = few_by _ _ (s.rolls-Task w.place xs) (omega arith)

      block_few : {u : List Token} {x : Stmt} {h : ℕ} → IsBlock leaves types u x h → declared_count x ≤ length u
      block_few (g.braces p q {u = u} {xs = xs} pc l qc) = few_by _ _ (s.rolls-Block p.place xs) (let few : C xs ≤ length u = body_few l in omega (arith, few, length-append u (q ∷ [])))

      body_stmt_few : {u : List Token} {x : Stmt} {h : ℕ} → IsBodyStmt leaves types u x h → declared_count x ≤ length u
      body_stmt_few (g.statement d) = stmt_few d
      body_stmt_few (g.declare t {u = u} {v = v} {x = x} {ys = ys} b l tc) =
          few_by _ _ (s.rolls-Declare (start u) x ys) (let few : length ys ≤ length v + 1 = variables_few l in omega (arith, few, length-append (u ++ v) (t ∷ []), length-append u v))

      body_few : {u : List Token} {xs : List Stmt} {h : ℕ} → IsBody leaves types u xs h → C xs ≤ length u
      body_few g.no_statement = omega arith
      body_few (g.one_more {u = u} {v = v} {xs = xs} {x = x} l d) =
          let few : C xs ≤ length u = body_few l in let more : declared_count x ≤ length v = body_stmt_few d in omega (arith, few, more, joined xs (x ∷ []), one x, length-append u v)

      cases_few : {with_default : Bool} {u : List Token} {xs : List Stmt} {h : ℕ} → IsCases leaves types with_default u xs h → C xs ≤ length u
      cases_few g.no_case = omega arith
      cases_few (g.one_case w t {u = u} {v = v} {r = r} {xs = xs} {ys = ys} {x = x} l wc a tc b) =
          let few : C xs ≤ length u = cases_few l in let more : C ys ≤ length r = body_few b in
          omega (arith, few, more, joined xs (s.Case w.place x ∷ ys), case_none w x ys, length-append u (w ∷ (v ++ t ∷ r)), length-append v (t ∷ r))
      cases_few (g.default_case w t {u = u} {r = r} {xs = xs} {ys = ys} l wc tc b) =
          let few : C xs ≤ length u = cases_few l in let more : C ys ≤ length r = body_few b in
          omega (arith, few, more, joined xs (s.Default w.place ∷ ys), default_none w ys, length-append u (w ∷ t ∷ r))

      branches_few : {u : List Token} {xs : List Stmt} {h : ℕ} → IsBranches leaves types u xs h → C xs ≤ length u
      branches_few g.no_branch = omega arith
      branches_few (g.one_branch {u = u} {v = v} {xs = xs} {x = x} l d) =
          let few : C xs ≤ length u = branches_few l in let more : declared_count x ≤ length v = stmt_few d in omega (arith, few, more, joined xs (x ∷ []), one x, length-append u v)

    parameters_few : {u : List Token} {xs : List Parameter} {h : ℕ} → IsParameters leaves types u xs h → length xs ≤ length u + 1
    parameters_few (i.one d) = omega arith
    parameters_few (i.more t {u = u} {v = v} {xs = xs} {x = x} l c d) =
        let few : length xs ≤ length u + 1 = parameters_few l in omega (arith, few, length-append u (t ∷ v), length-append xs (x ∷ []))

    list_few : {u : List Token} {xs : List Parameter} {h : ℕ} → IsParameterList leaves types u xs h → length xs ≤ length u + 1
    list_few i.none = omega arith
    list_few (i.void t c) = omega arith
    list_few (i.some l b) = parameters_few l

  -- ---- items

  head_few : {d : Declared} {inside : List ℕ} {u : List Token} {x : Head} {h : ℕ} → IsHead leaves d inside u x h → length x.parameters ≤ length u
  head_few (i.plain {d = d} t o c {u = u} {v = v} {ps = ps} a b oc l ec) =
      let few : length ps ≤ length v + 1 = list_few d.types l in omega (arith, few, length-append u (t ∷ o ∷ (v ++ c ∷ [])), length-append v (c ∷ []))
  head_few (i.of_adt {d = d} a p t o c {u = u} {v = v} {ps = ps} x y pc tc oc l ec) =
      let few : length ps ≤ length v + 1 = list_few d.types l in omega (arith, few, length-append u (a ∷ p ∷ t ∷ o ∷ (v ++ c ∷ [])), length-append v (c ∷ []))
  head_few (i.of_parametrised {d = d} a m r p t o c {u = u} {w = w} {v = v} {ps = ps} x y mc ns rc pc tc oc l ec) =
      let few : length ps ≤ length v + 1 = list_few _ l in
      omega (arith, few, length-append u (a ∷ m ∷ (w ++ r ∷ p ∷ t ∷ o ∷ (v ++ c ∷ []))), length-append w (r ∷ p ∷ t ∷ o ∷ (v ++ c ∷ [])), length-append v (c ∷ []))

  item_few : {d after_item : Declared} {u : List Token} {x : Item} {h : ℕ} → IsItem leaves d u x after_item h → function_count x ≤ length u
  item_few (i.typedef w t wc b a tc) = omega arith
  item_few (i.function_type w m o c t wc b a mc oc p ec tc) = omega arith
  item_few (i.forward w m t a mc tc) = omega arith
  item_few (i.plain_members w m o c a mc oc l ec s) = omega arith
  item_few (i.adt w m o c wc mc oc l ec s) = omega arith
  item_few (i.parametrised w m l r o c wc mc lc a rc oc b ec s) = omega arith
  item_few (i.enum w wc a s) = omega arith
  item_few (i.named_enum w m wc mc a s) = omega arith
  item_few (i.declare t a b l tc) = omega arith
  item_few (i.function {d = d} {s = s} {u = u} {v = v} {b = b} {head = head} {body = body} a e f k) =
      let few : length head.parameters ≤ length v = head_few f in
      let more : declared_count body ≤ length b = block_few (body_types leaves d head.owner) k in
      omega (arith, few, more, length-append s (u ++ (v ++ b)), length-append u (v ++ b), length-append v b, length-append (s ++ u ++ v) b, length-append (s ++ u) v, length-append s u)

  items_few : {d : Declared} {u : List Token} {xs : List Item} {h : ℕ} → IsItems leaves u xs d h → (k : ℕ) (x : Item) → slice_get xs k ≡ Some x → function_count x ≤ length u
  items_few i.none k x e = absurd (cc)
  items_few (i.more {u = u} {v = v} {xs = xs} {x = y} l d) k x e = on (get_push xs y k x e) (items_few l k x)
    where
      get_push : (xs : List Item) (y : Item) (k : ℕ) (x : Item) → slice_get (xs ++ y ∷ []) k ≡ Some x → (slice_get xs k ≡ Some x) ⊎ (y ≡ x)
      get_push [] y zero x e = inr (same e)
        where
          same : {a b : Item} → Some a ≡ Some b → a ≡ b
          same q = cc
      get_push [] y (suc k) x e = absurd (cc)
      get_push (z ∷ xs) y zero x e = inl e
      get_push (z ∷ xs) y (suc k) x e = get_push xs y k x e

      on : (slice_get xs k ≡ Some x) ⊎ (y ≡ x) → (slice_get xs k ≡ Some x → function_count x ≤ length u) → function_count x ≤ length (u ++ v)
      on (inl q) rest = let few = rest q in omega (arith, few, length-append u v)
      on (inr q) rest = let few : function_count y ≤ length v = item_few d in subst (λ (a : Item). function_count a ≤ length (u ++ v)) q (omega (arith, few, length-append u v))

pub declared_are_few : DeclaredAreFew
declared_are_few tokens tree height is k x e =
    let few : function_count x ≤ length is.front = items_few (leaves_of tokens.text) is.tree_of.items k x e in
    omega (arith, few, ap length is.is, length-append is.front (is.last ∷ []))
