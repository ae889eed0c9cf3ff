-- Expressions and base types have a first token.
use Rattle.std.proofs.Common.{◌≡◌, ℕ, Bool, true, false, List, [], ◌∷◌, ◌++◌, refl}
use Rattle.al_lex.specs.declared.token.Token.{Token}
use Rattle.al_tree.specs.Words.{start}
use Rattle.al_tree.specs.Types as t
use Rattle.al_tree.specs.Types.{Leaves, IsBase}
use Rattle.al_tree.specs.Expressions as g
use Rattle.al_tree.specs.Expressions.{IsPrim, IsPost, IsCallee, IsUnary, IsBinary, IsAsg, IsAsgs, IsExpr}
use Rattle.al_tree.specs.declared.type_tree.TypeTree.{TypeTree}
use Rattle.al_tree.specs.declared.expression.Expr.{Expr}
use Rattle.al_tree_places.proofs.Times.{Within, nothing, first}

abbrev pub begins : List Token → Bool
begins [] = false
begins (t ∷ ts) = true

pub begins_more : (u v : List Token) → begins u ≡ true → begins (u ++ v) ≡ true
begins_more [] v b = absurd (let f : ⊥ = cc in f)
begins_more (t ∷ u) v b = refl

-- the place where tokens begin is that of the first
pub start_within : (u : List Token) → begins u ≡ true → Within u (start u ∷ [])
start_within [] b = absurd (let f : ⊥ = cc in f)
start_within (t ∷ u) b = first t (nothing u)

module _ (leaves : Leaves) (types : List ℕ) where
  prim_begins : {u : List Token} {x : Expr} {h : ℕ} → IsPrim leaves types u x h → begins u ≡ true
  prim_begins (g.number t c) = refl
  prim_begins (g.char t c) = refl
  prim_begins (g.text t c) = refl
  prim_begins (g.nil t c) = refl
  prim_begins (g.name t c) = refl
  prim_begins (g.paren o c oc a ec) = refl
  prim_begins (g.tuple o t c oc l tc a ec) = refl

  mutual
    post_begins : {u : List Token} {x : Expr} {h : ℕ} → IsPost leaves types u x h → begins u ≡ true
    post_begins (g.prim d) = prim_begins d
    post_begins (g.index o c {u = u} {v = v} p a d b) = begins_more u (o ∷ (v ++ c ∷ [])) (post_begins p)
    post_begins (g.member t m {u = u} p a b) = begins_more u (t ∷ m ∷ []) (post_begins p)
    post_begins (g.call o c {u = u} {v = v} p a d b) = begins_more u (o ∷ (v ++ c ∷ [])) (callee_begins p)
    post_begins (g.postfix t {u = u} p a) = begins_more u (t ∷ []) (post_begins p)

    callee_begins : {u : List Token} {x : Expr} {h : ℕ} → IsCallee leaves types u x h → begins u ≡ true
    callee_begins (g.called_name t c) = refl
    callee_begins (g.called_member t m {u = u} p a b) = begins_more u (t ∷ m ∷ []) (post_begins p)
    callee_begins (g.called_value p c) = post_begins p

  unary_begins : {u : List Token} {x : Expr} {h : ℕ} → IsUnary leaves types u x h → begins u ≡ true
  unary_begins (g.post d) = post_begins d
  unary_begins (g.prefix t a d) = refl
  unary_begins (g.cast o c oc a ec d) = refl
  unary_begins (g.sizeof_type t o c tc oc a ec) = refl
  unary_begins (g.sizeof_value t tc d b) = refl

  binary_begins : {l : ℕ} {u : List Token} {x : Expr} {h : ℕ} → IsBinary leaves types l u x h → begins u ≡ true
  binary_begins (g.unary d) = unary_begins d
  binary_begins (g.tighter d) = binary_begins d
  binary_begins (g.binary t {u = u} {v = v} d a b) = begins_more u (t ∷ v) (binary_begins d)
  binary_begins (g.iterator t {u = u} {v = v} d a b) = begins_more u (t ∷ v) (binary_begins d)

  asg_begins : {u : List Token} {x : Expr} {h : ℕ} → IsAsg leaves types u x h → begins u ≡ true
  asg_begins (g.value d) = binary_begins d
  asg_begins (g.assign t {u = u} {v = v} d a b) = begins_more u (t ∷ v) (unary_begins d)

  asgs_begin : {u : List Token} {xs : List Expr} {h : ℕ} → IsAsgs leaves types u xs h → begins u ≡ true
  asgs_begin (g.one d) = asg_begins d
  asgs_begin (g.more t {u = u} {v = v} l c d) = begins_more u (t ∷ v) (asgs_begin l)

  pub expr_begins : {u : List Token} {x : Expr} {h : ℕ} → IsExpr leaves types u x h → begins u ≡ true
  expr_begins (g.only d) = asg_begins d
  expr_begins (g.sequence t {u = u} {v = v} l c d) = begins_more u (t ∷ v) (asgs_begin l)

  pub base_begins : {bare takes : Bool} {u : List Token} {x : TypeTree} {h : ℕ} → IsBase leaves types bare takes u x h → begins u ≡ true
  base_begins (t.basic t a) = refl
  base_begins (t.named t a) = refl
  base_begins (t.instance t o c a b d e) = refl
  base_begins (t.tuple w o c a b d e) = refl
  base_begins (t.bare_tuple o c a b d) = refl
  base_begins (t.channel w o c a b d e) = refl
  base_begins (t.buffered w o c p q a b d e f i j) = refl
