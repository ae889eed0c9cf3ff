-- An item does not end with a name.
use Rattle.std.proofs.Common.{◌≡◌, ℕ, Bool, true, false, List, [], ◌∷◌, ◌++◌, refl, sym, ap, ◌∙◌, subst, append_assoc}
use Rattle.al_lex.specs.declared.kind.TokenKind.{TokenKind}
use Rattle.al_lex.specs.declared.kind.TokenKind.TheVariants as k
use Rattle.al_lex.specs.declared.token.Token.{Token}
use Rattle.al_tree.specs.Types.{Leaves}
use Rattle.al_tree.specs.Statements.{IsBlock}
use Rattle.al_tree.specs.Statements as s
use Rattle.al_tree.specs.Items.{Declared, IsItem, IsSemicolon, IsEnumBody}
use Rattle.al_tree.specs.Items as i
use Rattle.al_tree.specs.Reading.{same_kind}
use Rattle.al_tree.specs.declared.statement.Stmt.{Stmt}
use Rattle.al_tree.specs.declared.item.Constant.{Constant}
use Rattle.al_tree.specs.declared.item.Item.{Item}

-- whether the last token is a name
name_last : List Token → Bool
name_last [] = false
name_last (t ∷ []) = same_kind t.kind k.Name
name_last (t ∷ r ∷ u) = name_last (r ∷ u)

last_is : (u : List Token) (t : Token) → name_last (u ++ t ∷ []) ≡ same_kind t.kind k.Name
unfolding name_last
last_is [] t = refl
last_is (r ∷ []) t = refl
last_is (r ∷ q ∷ u) t = last_is (q ∷ u) t

-- a list whose last token is no name
record Closed (u : List Token) : Type 0 where
  before : List Token
  last : Token
  cut : u ≡ before ++ last ∷ []
  other : same_kind last.kind k.Name ≡ false

closed : (t : Token) (kd : TokenKind) → t.kind ≡ kd → same_kind kd k.Name ≡ false → Closed (t ∷ [])
closed t kd c e = record { before = []; last = t; cut = refl; other = ap (λ x. same_kind x k.Name) c ∙ e }

semicolon : (t : Token) → t.kind ≡ k.Semicolon → Closed (t ∷ [])
unfolding same_kind
semicolon t c = closed t k.Semicolon c refl

brace : (t : Token) → t.kind ≡ k.RightBrace → Closed (t ∷ [])
unfolding same_kind
brace t c = closed t k.RightBrace c refl

behind : (v : List Token) {u : List Token} → Closed u → Closed (v ++ u)
behind v c = record { before = v ++ c.before; last = c.last; cut = ap (λ l. v ++ l) c.cut ∙ sym (append_assoc v c.before (c.last ∷ [])); other = c.other }

module _ (leaves : Leaves) where
  may_close : {q : List Token} (u : List Token) (t : Token) → t.kind ≡ k.RightBrace → IsSemicolon leaves q → Closed (u ++ t ∷ q)
  may_close u t c i.none = behind u (brace t c)
  may_close u t c (i.some p e) = behind u (behind (t ∷ []) (semicolon p e))

  block_closed : {types : List ℕ} {u : List Token} {x : Stmt} {h : ℕ} → IsBlock leaves types u x h → Closed u
  block_closed (s.braces p q {u = u} c b e) = behind (p ∷ u) (brace q e)

  enum_closed : {types : List ℕ} {u q : List Token} {xs : List Constant} {h : ℕ} → IsEnumBody leaves types u xs h → IsSemicolon leaves q → Closed (u ++ q)
  enum_closed {q = q} (i.braces o c {u = u} oc a ec) m = subst Closed (sym (append_assoc (o ∷ u) (c ∷ []) q)) (may_close (o ∷ u) c ec m)
  enum_closed {q = q} (i.braces_comma o t c {u = u} oc a tc ec) m = subst Closed (sym (append_assoc (o ∷ u) (t ∷ c ∷ []) q)) (behind (o ∷ u) (may_close (t ∷ []) c ec m))

  item_closed : {d after : Declared} {u : List Token} {x : Item} {h : ℕ} → IsItem leaves d u x after h → Closed u
  item_closed (i.typedef w t {u = u} {v = v} wc a b e) = behind (w ∷ (u ++ v)) (semicolon t e)
  item_closed (i.function_type w n o c t {u = u} {v = v} {r = r} wc a b nc oc l ec e) = behind (w ∷ (u ++ v)) (behind (n ∷ o ∷ r) (behind (c ∷ []) (semicolon t e)))
  item_closed (i.forward w n t wc nc e) = behind (w ∷ n ∷ []) (semicolon t e)
  item_closed (i.plain_members w n o c {u = u} wc nc oc a e m) = may_close (w ∷ n ∷ o ∷ u) c e m
  item_closed (i.adt w n o c {u = u} wc nc oc a e m) = may_close (w ∷ n ∷ o ∷ u) c e m
  item_closed (i.parametrised w n l r o c {p = p} {u = u} wc nc lc a rc oc b e m) = behind (w ∷ n ∷ l ∷ p) (may_close (r ∷ o ∷ u) c e m)
  item_closed (i.enum w wc b m) = behind (w ∷ []) (enum_closed b m)
  item_closed (i.named_enum w n wc nc b m) = behind (w ∷ n ∷ []) (enum_closed b m)
  item_closed (i.declare t {s = s} {u = u} {v = v} sc a l e) = behind (s ++ u ++ v) (semicolon t e)
  item_closed (i.function {s = s} {u = u} {v = v} sc a h b) = behind (s ++ u ++ v) (block_closed b)

  pub no_name_last : {d after : Declared} {x : Item} {h : ℕ} (u : List Token) (t : Token) → t.kind ≡ k.Name → IsItem leaves d (u ++ t ∷ []) x after h → ⊥
  unfolding same_kind
  no_name_last u t c a =
      let q = item_closed a in
      let both : same_kind t.kind k.Name ≡ false = sym (last_is u t) ∙ ap name_last q.cut ∙ last_is q.before q.last ∙ q.other in
      let name : same_kind t.kind k.Name ≡ true = ap (λ x. same_kind x k.Name) c in
      absurd (let z : ⊥ = cc in z)
