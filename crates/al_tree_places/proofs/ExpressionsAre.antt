-- The names in an expression stand at tokens of it, each at one of its own.
use Rattle.std.proofs.Common.{◌≡◌, ℕ, List, [], ◌∷◌, ◌++◌, flat_map, sym, ap, ◌∙◌, append-nil}
use Rattle.al_base.specs.declared.place.Place.{Place}
use Rattle.al_lex.specs.declared.token.Token.{Token}
use Rattle.al_tree.specs.Words.{start}
use Rattle.al_tree.specs.Types.{Leaves, name_at}
use Rattle.al_tree.specs.Expressions.{IsPrim, number, char, text, nil, name, paren, tuple, IsPost, prim, index, member, call, postfix, IsCallee, called_name, called_member, called_value, IsArguments, no_arguments, arguments, IsUnary, post, prefix, cast, sizeof_type, sizeof_value, IsBinary, unary, tighter, binary, iterator, IsAsg, value, assign, IsAsgs, one, more, IsExpr, only, sequence}
use Rattle.al_tree.specs.declared.expression.Expr.{Expr, roll-Expr, map-Expr, fold-roll-Expr}
use Rattle.al_tree.specs.declared.expression.Expr.TheVariants as e
use Rattle.al_tree.specs.declared.expression.Expr.TheOpen.{Expr-F}
use Rattle.al_tree_walks.specs.Expressions.{names_step, name_places}
use Rattle.al_tree_places.proofs.Times.{Within, within_is, nothing, behind, first, both, before, after, joined_one_more, joined_map, flat_one_more}

abbrev step_of : Expr-F Expr → List Place
step_of z = names_step (map-Expr Expr (List Place) name_places z)

pub places_is : (z : Expr-F Expr) {x : Expr} → roll-Expr z ≡ x → name_places x ≡ step_of z
unfolding name_places
places_is z q = ap name_places (sym q) ∙ fold-roll-Expr (List Place) names_step z

module _ (leaves : Leaves) (types : List ℕ) where
  within_by : {u : List Token} (z : Expr-F Expr) {x : Expr} → roll-Expr z ≡ x → Within u (step_of z) → Within u (name_places x)
  within_by z q f = within_is (places_is z q) f

  mutual
    pub prim_within : {u : List Token} {x : Expr} {h : ℕ} → IsPrim leaves types u x h → Within u (name_places x)
    prim_within (number t c) = within_by _ (e.rolls-Number t.place (leaves.number t)) (nothing (t ∷ []))
    prim_within (char t c) = within_by _ (e.rolls-Char t.place (leaves.byte t)) (nothing (t ∷ []))
    prim_within (text t c) = within_by _ (e.rolls-Text t.place (leaves.bytes t)) (nothing (t ∷ []))
    prim_within (nil t c) = within_by _ (e.rolls-Nil t.place) (nothing (t ∷ []))
    prim_within (name t c) = within_by _ (e.rolls-Name t.place t.name) (first t (nothing []))
    prim_within (paren o c {u = u} oc a ec) = behind o (before u (c ∷ []) (asg_within a))
    prim_within (tuple o t c {u = u} {v = v} {xs = xs} {x = x} oc l tc a ec) =
        within_by _ (e.rolls-Tuple o.place (xs ++ x ∷ [])) (within_is (joined_one_more name_places xs x)
        (behind o (both u (t ∷ (v ++ c ∷ [])) (flat_map name_places xs) (name_places x) (asgs_within l) (behind t (before v (c ∷ []) (asg_within a))))))

    pub post_within : {u : List Token} {x : Expr} {h : ℕ} → IsPost leaves types u x h → Within u (name_places x)
    post_within (prim d) = prim_within d
    post_within (index o c {u = u} {v = v} {x = x} {y = y} p a d b) =
        within_by _ (e.rolls-Index (start u) x y) (both u (o ∷ (v ++ c ∷ [])) (name_places x) (name_places y) (post_within p) (behind o (before v (c ∷ []) (expr_within d))))
    post_within (member t m {u = u} {by = by} {x = x} p a b) = within_by _ (e.rolls-Member (start u) x by (name_at m)) (before u (t ∷ m ∷ []) (post_within p))
    post_within (call o c {u = u} {v = v} {x = x} {ys = ys} p a d b) =
        within_by _ (e.rolls-Call (start u) x ys) (within_is (ap (λ ts. name_places x ++ ts) (joined_map name_places ys))
        (both u (o ∷ (v ++ c ∷ [])) (name_places x) (flat_map name_places ys) (callee_within p) (behind o (before v (c ∷ []) (arguments_within d)))))
    post_within (postfix t {u = u} {op = op} {x = x} p a) = within_by _ (e.rolls-Postfix (start u) op x) (before u (t ∷ []) (post_within p))

    pub callee_within : {u : List Token} {x : Expr} {h : ℕ} → IsCallee leaves types u x h → Within u (name_places x)
    callee_within (called_name t c) = within_by _ (e.rolls-Name t.place t.name) (first t (nothing []))
    callee_within (called_member t m {u = u} {by = by} {x = x} p a b) = within_by _ (e.rolls-Member (start u) x by (name_at m)) (before u (t ∷ m ∷ []) (post_within p))
    callee_within (called_value p c) = post_within p

    pub arguments_within : {u : List Token} {xs : List Expr} {h : ℕ} → IsArguments leaves types u xs h → Within u (flat_map name_places xs)
    arguments_within no_arguments = nothing []
    arguments_within (arguments l) = asgs_within l

    pub unary_within : {u : List Token} {x : Expr} {h : ℕ} → IsUnary leaves types u x h → Within u (name_places x)
    unary_within (post d) = post_within d
    unary_within (prefix t {op = op} {x = x} a d) = within_by _ (e.rolls-Unary t.place op x) (behind t (unary_within d))
    unary_within (cast o c {u = u} {v = v} {x = x} {y = y} oc a ec d) = within_by _ (e.rolls-Cast o.place x y) (behind o (after u (c ∷ v) (behind c (unary_within d))))
    unary_within (sizeof_type t o c {u = u} {x = x} tc oc a ec) = within_by _ (e.rolls-SizeofType t.place x) (nothing (t ∷ o ∷ (u ++ c ∷ [])))
    unary_within (sizeof_value t {x = x} tc d b) = within_by _ (e.rolls-SizeofValue t.place x) (behind t (unary_within d))

    pub binary_within : {l : ℕ} {u : List Token} {x : Expr} {h : ℕ} → IsBinary leaves types l u x h → Within u (name_places x)
    binary_within (unary d) = unary_within d
    binary_within (tighter d) = binary_within d
    binary_within (binary t {u = u} {v = v} {op = op} {x = x} {y = y} d a b) =
        within_by _ (e.rolls-Binary (start u) op x y) (both u (t ∷ v) (name_places x) (name_places y) (binary_within d) (behind t (binary_within b)))
    binary_within (iterator t {u = u} {v = v} {x = x} {y = y} d a b) =
        within_by _ (e.rolls-Iterator (start u) x y) (both u (t ∷ v) (name_places x) (name_places y) (binary_within d) (behind t (binary_within b)))

    pub asg_within : {u : List Token} {x : Expr} {h : ℕ} → IsAsg leaves types u x h → Within u (name_places x)
    asg_within (value d) = binary_within d
    asg_within (assign t {u = u} {v = v} {op = op} {x = x} {y = y} d a b) =
        within_by _ (e.rolls-Assign (start u) op x y) (both u (t ∷ v) (name_places x) (name_places y) (unary_within d) (behind t (asg_within b)))

    pub asgs_within : {u : List Token} {xs : List Expr} {h : ℕ} → IsAsgs leaves types u xs h → Within u (flat_map name_places xs)
    asgs_within (one {x = x} d) = within_is (append-nil (name_places x)) (asg_within d)
    asgs_within (more t {u = u} {v = v} {xs = xs} {x = x} l c d) =
        within_is (flat_one_more name_places xs x) (both u (t ∷ v) (flat_map name_places xs) (name_places x) (asgs_within l) (behind t (asg_within d)))

    pub expr_within : {u : List Token} {x : Expr} {h : ℕ} → IsExpr leaves types u x h → Within u (name_places x)
    expr_within (only d) = asg_within d
    expr_within (sequence t {u = u} {v = v} {xs = xs} {x = x} l c d) =
        within_by _ (e.rolls-Sequence (start u) (xs ++ x ∷ [])) (within_is (joined_one_more name_places xs x)
        (both u (t ∷ v) (flat_map name_places xs) (name_places x) (asgs_within l) (behind t (asg_within d))))
