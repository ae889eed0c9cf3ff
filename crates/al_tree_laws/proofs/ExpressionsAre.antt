-- The string constants in expressions are no more than their tokens.
use Rattle.std.proofs.Common.{◌≡◌, ℕ, Bool, true, ◌&&◌, List, [], ◌∷◌, ◌++◌, flat_map, sym, ap, ◌∙◌, append-nil, arith}
use Rattle.al_lex.specs.declared.token.Token.{Token}
use Rattle.al_tree.specs.Words.{start}
use Rattle.al_tree.specs.Types.{Leaves, name_at}
use Rattle.al_tree.specs.Expressions.{IsPrim, number, char, text, nil, name, paren, tuple, IsPost, prim, index, member, call, postfix, IsCallee, called_name, called_member, called_value, IsArguments, no_arguments, arguments, IsUnary, post, prefix, cast, sizeof_type, sizeof_value, IsBinary, unary, tighter, binary, iterator, IsAsg, value, assign, IsAsgs, one, more, IsExpr, only, sequence}
use Rattle.al_tree.specs.declared.expression.Expr.{Expr, roll-Expr, map-Expr, fold-roll-Expr}
use Rattle.al_tree.specs.declared.expression.Expr.TheVariants as e
use Rattle.al_tree.specs.declared.expression.Expr.TheOpen.{Expr-F}
use Rattle.al_tree_laws.specs.Texts.{Texts, expression_step, texts_of}
use Rattle.al_tree_laws.proofs.Few.{Few, few_is, nothing, behind, both, before, after, joined_one_more, joined_map, flat_one_more}

abbrev step_of : Expr-F Expr → Texts
step_of z = expression_step (map-Expr Expr Texts texts_of z)

pub texts_is : (z : Expr-F Expr) {x : Expr} → roll-Expr z ≡ x → texts_of x ≡ step_of z
unfolding texts_of
texts_is z q = ap texts_of (sym q) ∙ fold-roll-Expr Texts expression_step z

module _ (leaves : Leaves) (types : List ℕ) (Q : List ℕ → Bool) (s : (t : Token) → Q (leaves.bytes t) ≡ true) where
  few_by : {u : List Token} (z : Expr-F Expr) {x : Expr} → roll-Expr z ≡ x → Few Q u (step_of z) → Few Q u (texts_of x)
  few_by z q f = few_is (texts_is z q) f

  one_text : (t : Token) → Few Q (t ∷ []) (leaves.bytes t ∷ [])
  one_text t = record { count = omega arith; each = ap (λ b. b && true) (s t) }

  mutual
    pub prim_few : {u : List Token} {x : Expr} {h : ℕ} → IsPrim leaves types u x h → Few Q u (texts_of x)
    prim_few (number t c) = few_by _ (e.rolls-Number t.place (leaves.number t)) (nothing (t ∷ []))
    prim_few (char t c) = few_by _ (e.rolls-Char t.place (leaves.byte t)) (nothing (t ∷ []))
    prim_few (text t c) = few_by _ (e.rolls-Text t.place (leaves.bytes t)) (one_text t)
    prim_few (nil t c) = few_by _ (e.rolls-Nil t.place) (nothing (t ∷ []))
    prim_few (name t c) = few_by _ (e.rolls-Name t.place t.name) (nothing (t ∷ []))
    prim_few (paren o c {u = u} oc a ec) = behind o (before u (c ∷ []) (asg_few a))
    prim_few (tuple o t c {u = u} {v = v} {xs = xs} {x = x} oc l tc a ec) =
        few_by _ (e.rolls-Tuple o.place (xs ++ x ∷ [])) (few_is (joined_one_more texts_of xs x)
        (behind o (both u (t ∷ (v ++ c ∷ [])) (flat_map texts_of xs) (texts_of x) (asgs_few l) (behind t (before v (c ∷ []) (asg_few a))))))

    pub post_few : {u : List Token} {x : Expr} {h : ℕ} → IsPost leaves types u x h → Few Q u (texts_of x)
    post_few (prim d) = prim_few d
    post_few (index o c {u = u} {v = v} {x = x} {y = y} p a d b) =
        few_by _ (e.rolls-Index (start u) x y) (both u (o ∷ (v ++ c ∷ [])) (texts_of x) (texts_of y) (post_few p) (behind o (before v (c ∷ []) (expr_few d))))
    post_few (member t m {u = u} {by = by} {x = x} p a b) = few_by _ (e.rolls-Member (start u) x by (name_at m)) (before u (t ∷ m ∷ []) (post_few p))
    post_few (call o c {u = u} {v = v} {x = x} {ys = ys} p a d b) =
        few_by _ (e.rolls-Call (start u) x ys) (few_is (ap (λ ts. texts_of x ++ ts) (joined_map texts_of ys))
        (both u (o ∷ (v ++ c ∷ [])) (texts_of x) (flat_map texts_of ys) (callee_few p) (behind o (before v (c ∷ []) (arguments_few d)))))
    post_few (postfix t {u = u} {op = op} {x = x} p a) = few_by _ (e.rolls-Postfix (start u) op x) (before u (t ∷ []) (post_few p))

    pub callee_few : {u : List Token} {x : Expr} {h : ℕ} → IsCallee leaves types u x h → Few Q u (texts_of x)
    callee_few (called_name t c) = few_by _ (e.rolls-Name t.place t.name) (nothing (t ∷ []))
    callee_few (called_member t m {u = u} {by = by} {x = x} p a b) = few_by _ (e.rolls-Member (start u) x by (name_at m)) (before u (t ∷ m ∷ []) (post_few p))
    callee_few (called_value p c) = post_few p

    pub arguments_few : {u : List Token} {xs : List Expr} {h : ℕ} → IsArguments leaves types u xs h → Few Q u (flat_map texts_of xs)
    arguments_few no_arguments = nothing []
    arguments_few (arguments l) = asgs_few l

    pub unary_few : {u : List Token} {x : Expr} {h : ℕ} → IsUnary leaves types u x h → Few Q u (texts_of x)
    unary_few (post d) = post_few d
    unary_few (prefix t {op = op} {x = x} a d) = few_by _ (e.rolls-Unary t.place op x) (behind t (unary_few d))
    unary_few (cast o c {u = u} {v = v} {x = x} {y = y} oc a ec d) = few_by _ (e.rolls-Cast o.place x y) (behind o (after u (c ∷ v) (behind c (unary_few d))))
    unary_few (sizeof_type t o c {u = u} {x = x} tc oc a ec) = few_by _ (e.rolls-SizeofType t.place x) (nothing (t ∷ o ∷ (u ++ c ∷ [])))
    unary_few (sizeof_value t {x = x} tc d b) = few_by _ (e.rolls-SizeofValue t.place x) (behind t (unary_few d))

    pub binary_few : {l : ℕ} {u : List Token} {x : Expr} {h : ℕ} → IsBinary leaves types l u x h → Few Q u (texts_of x)
    binary_few (unary d) = unary_few d
    binary_few (tighter d) = binary_few d
    binary_few (binary t {u = u} {v = v} {op = op} {x = x} {y = y} d a b) =
        few_by _ (e.rolls-Binary (start u) op x y) (both u (t ∷ v) (texts_of x) (texts_of y) (binary_few d) (behind t (binary_few b)))
    binary_few (iterator t {u = u} {v = v} {x = x} {y = y} d a b) =
        few_by _ (e.rolls-Iterator (start u) x y) (both u (t ∷ v) (texts_of x) (texts_of y) (binary_few d) (behind t (binary_few b)))

    pub asg_few : {u : List Token} {x : Expr} {h : ℕ} → IsAsg leaves types u x h → Few Q u (texts_of x)
    asg_few (value d) = binary_few d
    asg_few (assign t {u = u} {v = v} {op = op} {x = x} {y = y} d a b) =
        few_by _ (e.rolls-Assign (start u) op x y) (both u (t ∷ v) (texts_of x) (texts_of y) (unary_few d) (behind t (asg_few b)))

    pub asgs_few : {u : List Token} {xs : List Expr} {h : ℕ} → IsAsgs leaves types u xs h → Few Q u (flat_map texts_of xs)
    asgs_few (one {x = x} d) = few_is (append-nil (texts_of x)) (asg_few d)
    asgs_few (more t {u = u} {v = v} {xs = xs} {x = x} l c d) =
        few_is (flat_one_more texts_of xs x) (both u (t ∷ v) (flat_map texts_of xs) (texts_of x) (asgs_few l) (behind t (asg_few d)))

    pub expr_few : {u : List Token} {x : Expr} {h : ℕ} → IsExpr leaves types u x h → Few Q u (texts_of x)
    expr_few (only d) = asg_few d
    expr_few (sequence t {u = u} {v = v} {xs = xs} {x = x} l c d) =
        few_by _ (e.rolls-Sequence (start u) (xs ++ x ∷ [])) (few_is (joined_one_more texts_of xs x)
        (both u (t ∷ v) (flat_map texts_of xs) (texts_of x) (asgs_few l) (behind t (asg_few d))))
