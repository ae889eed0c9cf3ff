-- Declarators at file level are read as what they are.
use Rattle.std.proofs.Common.{◌≡◌, ℕ, suc, pred, ◌<◌, ◌≤◌, max, nat_lt, true, false, List, [], ◌∷◌, ◌++◌, length, Some, None, Ok, Err, ◌⊎◌, inl, inr, refl, sym, ap, ◌∙◌, subst, arith, append_assoc, append-nil, length-append}
use Rattle.al_base.specs.declared.place.Place.{Place}
use Rattle.al_lex.specs.declared.kind.TokenKind.{TokenKind}
use Rattle.al_lex.specs.declared.kind.TokenKind.TheVariants as k
use Rattle.al_lex.specs.declared.token.Token.{Token}
use Rattle.al_tree.specs.Words.{start}
use Rattle.al_tree.specs.Types.{Leaves, known, with_names, name_at, IsTypeName, type_name as is_type, IsOtherName, other_name as is_other, AreStars, IsBounds, IsDcl, dcl as is_dcl}
use Rattle.al_tree.specs.Types as rules
use Rattle.al_tree.specs.Items.{Declared, parameters_of, AreTypeNames, AreNewNames, IsParameterList, IsInitializer, IsHead, IsDeclarator, IsDeclarators}
use Rattle.al_tree.specs.Items as items
use Rattle.al_tree.specs.Reading.{Outcome, Parser, and_then, ◌>>=◌, kind, name_number, same_kind, take_if, expect_if}
use Rattle.al_tree.specs.declared.expression.Name.{Name}
use Rattle.al_tree.specs.declared.type_tree.Bound.{Bound}
use Rattle.al_tree.specs.declared.type_tree.Dcl.{Dcl}
use Rattle.al_tree.specs.declared.item.Owner.{Owner}
use Rattle.al_tree.specs.declared.item.Parameter.{Parameter}
use Rattle.al_tree.specs.declared.item.Head.{Head}
use Rattle.al_tree.specs.declared.item.Initializer.{Initializer}
use Rattle.al_tree.specs.declared.item.Declarator.{Declarator}
use Rattle.al_tree.specs.declared.item.Declarator.TheVariants as dec
use Rattle.al_tree.proofs.Law.{some_pred}
use Rattle.al_parse_type.specs.Parse.{sees_type_name, sees_other_name, other_name, bounds_from, stars_from}
use Rattle.al_parse_type.proofs.BoundComplete.{less_pred, rest_short, tail_short, nat_lt_is, whole_bounds, whole_stars}
use Rattle.al_parse_member.specs.Parameters.{Parameters, type_name, parameter_list}
use Rattle.al_parse_member.specs.Members.{SizedInitializer, initializer}
use Rattle.al_parse_member.proofs.ParameterComplete.{parameter_list_c as list_c}
use Rattle.al_parse_expr.proofs.Follow.{FollowAsg, before_comma}
use Rattle.al_parse_block.proofs.ValueComplete.{before_semicolon}
use Rattle.al_parse_member.proofs.MemberComplete.{initializer_c, initializer_high}
use Rattle.al_parse_stmt.specs.Heads as parse
use Rattle.al_parse_stmt.specs.Heads.{SizedDeclarator, Declarators, headed, declarator}
use Rattle.al_parse_stmt.proofs.Owners.{same_start, inside_behind, inside_bracket, inside_dot, inside_other, reads_type_name}

-- what stands behind a declarator
abbrev pub Follow : List Token → Type 0
Follow r = (kind r ≡ k.Comma) ⊎ (kind r ≡ k.Semicolon)

pub follow_not : (r : List Token) (kd : TokenKind) → Follow r → same_kind k.Comma kd ≡ false → same_kind k.Semicolon kd ≡ false → same_kind (kind r) kd ≡ false
follow_not r kd (inl c) f g = ap (λ x. same_kind x kd) c ∙ f
follow_not r kd (inr c) f g = ap (λ x. same_kind x kd) c ∙ g

follow_asg : (r : List Token) → Follow r → FollowAsg (kind r)
follow_asg r (inl c) = subst FollowAsg (sym c) before_comma
follow_asg r (inr c) = subst FollowAsg (sym c) before_semicolon.asg

pub comma_follows : (t : Token) (ts : List Token) → t.kind ≡ k.Comma → Follow (t ∷ ts)
unfolding kind
comma_follows t ts c = inl c

pub semicolon_follows : (t : Token) (ts : List Token) → t.kind ≡ k.Semicolon → Follow (t ∷ ts)
unfolding kind
semicolon_follows t ts c = inr c

pub no_bracket : (r : List Token) → Follow r → same_kind (kind r) k.LeftBracket ≡ false
unfolding same_kind
no_bracket r f = follow_not r k.LeftBracket f refl refl

pub no_paren : (r : List Token) → Follow r → same_kind (kind r) k.LeftParen ≡ false
unfolding same_kind
no_paren r f = follow_not r k.LeftParen f refl refl

pub no_equal : (r : List Token) → Follow r → same_kind (kind r) k.Equal ≡ false
unfolding same_kind
no_equal r f = follow_not r k.Equal f refl refl

pub no_brace : (r : List Token) → Follow r → same_kind (kind r) k.LeftBrace ≡ false
unfolding same_kind
no_brace r f = follow_not r k.LeftBrace f refl refl

-- a token of a kind is of no other
pub not_kind : (t : Token) (ts : List Token) (kd other : TokenKind) → t.kind ≡ kd → same_kind kd other ≡ false → same_kind (kind (t ∷ ts)) other ≡ false
unfolding kind
not_kind t ts kd other c f = ap (λ x. same_kind x other) c ∙ f

pub is_kind : (t : Token) (ts : List Token) (kd : TokenKind) → t.kind ≡ kd → same_kind kd kd ≡ true → same_kind (kind (t ∷ ts)) kd ≡ true
unfolding kind
is_kind t ts kd c f = ap (λ x. same_kind x kd) c ∙ f

name_no_star : (t : Token) (ts : List Token) → t.kind ≡ k.Name → same_kind (kind (t ∷ ts)) k.Star ≡ false
unfolding same_kind
name_no_star t ts c = not_kind t ts k.Name k.Star c refl

bracket_no_paren : (t : Token) (ts : List Token) → t.kind ≡ k.LeftBracket → same_kind (kind (t ∷ ts)) k.LeftParen ≡ false
unfolding same_kind
bracket_no_paren t ts c = not_kind t ts k.LeftBracket k.LeftParen c refl

equal_no_paren : (t : Token) (ts : List Token) → t.kind ≡ k.Equal → same_kind (kind (t ∷ ts)) k.LeftParen ≡ false
unfolding same_kind
equal_no_paren t ts c = not_kind t ts k.Equal k.LeftParen c refl

equal_no_bracket : (t : Token) (ts : List Token) → t.kind ≡ k.Equal → same_kind (kind (t ∷ ts)) k.LeftBracket ≡ false
unfolding same_kind
equal_no_bracket t ts c = not_kind t ts k.Equal k.LeftBracket c refl

dot_no_bracket : (t : Token) (ts : List Token) → t.kind ≡ k.Dot → same_kind (kind (t ∷ ts)) k.LeftBracket ≡ false
unfolding same_kind
dot_no_bracket t ts c = not_kind t ts k.Dot k.LeftBracket c refl

is_bracket : (t : Token) (ts : List Token) → t.kind ≡ k.LeftBracket → same_kind (kind (t ∷ ts)) k.LeftBracket ≡ true
unfolding same_kind
is_bracket t ts c = is_kind t ts k.LeftBracket c refl

bracket_no_comma : (t : Token) (ts : List Token) → t.kind ≡ k.RightBracket → same_kind (kind (t ∷ ts)) k.Comma ≡ false
unfolding same_kind
bracket_no_comma t ts c = not_kind t ts k.RightBracket k.Comma c refl

pub reads_other_name : (types : List ℕ) (t : Token) (r : List Token) → t.kind ≡ k.Name → known types t.name ≡ false → other_name types (t ∷ r) ≡ Ok (t, r)
unfolding other_name sees_other_name kind name_number same_kind take_if
reads_other_name types t r c f = rw (c, f) refl

sees_type : (types : List ℕ) (t : Token) (r : List Token) → t.kind ≡ k.Name → known types t.name ≡ true → sees_type_name types (t ∷ r) ≡ true
unfolding sees_type_name kind name_number same_kind
sees_type types t r c f = rw (c, f) refl

sees_no_type : (types : List ℕ) (t : Token) (r : List Token) → t.kind ≡ k.Name → known types t.name ≡ false → sees_type_name types (t ∷ r) ≡ false
unfolding sees_type_name kind name_number same_kind
sees_no_type types t r c f = rw (c, f) refl

-- ---- lists of names

module _ (leaves : Leaves) (types : List ℕ) (F : ℕ) where
  step_type_names : (m : ℕ) (t a : Token) (r : List Token) (xs : List Name) → t.kind ≡ k.Comma → type_name types (a ∷ r) ≡ Ok (a, r) → parse.type_names_from types (suc m) xs (t ∷ a ∷ r) ≡ parse.type_names_from types m (xs ++ name_at a ∷ []) r
  unfolding parse.type_names_from kind same_kind take_if
  step_type_names m t a r xs c e = rw (c, e) refl

  end_type_names : (m : ℕ) (r : List Token) (xs : List Name) → same_kind (kind r) k.Comma ≡ false → parse.type_names_from types (suc m) xs r ≡ Ok (xs, r)
  unfolding parse.type_names_from
  end_type_names m r xs f = rw f refl

  step_new_names : (m : ℕ) (t a : Token) (r : List Token) (xs : List Name) → t.kind ≡ k.Comma → other_name types (a ∷ r) ≡ Ok (a, r) → parse.new_names_from types (suc m) xs (t ∷ a ∷ r) ≡ parse.new_names_from types m (xs ++ name_at a ∷ []) r
  unfolding parse.new_names_from kind same_kind take_if
  step_new_names m t a r xs c e = rw (c, e) refl

  end_new_names : (m : ℕ) (r : List Token) (xs : List Name) → same_kind (kind r) k.Comma ≡ false → parse.new_names_from types (suc m) xs r ≡ Ok (xs, r)
  unfolding parse.new_names_from
  end_new_names m r xs f = rw f refl

  -- the first name, and how the others are read
  pub record TypeNamesAre (u : List Token) (xs : List Name) (r : List Token) : Type 0 where
    pub first : Token
    pub is : IsTypeName leaves types first
    pub back : List Token
    pub cut : u ≡ first ∷ back
    pub left : ℕ
    pub enough : length r < left
    pub loop : parse.type_names_from types F (name_at first ∷ []) (back ++ r) ≡ parse.type_names_from types left xs r

  type_names_c : {u : List Token} {xs : List Name} → AreTypeNames leaves types u xs → (r : List Token) → length (u ++ r) < F → TypeNamesAre u xs r
  type_names_c (items.one a c) r s = record { first = a; is = c; back = []; cut = refl; left = F; enough = omega (arith, s); loop = refl }
  type_names_c (items.more t a {u = u} {xs = xs} l tc (is_type ac af)) r s =
      let e : (u ++ t ∷ a ∷ []) ++ r ≡ u ++ (t ∷ a ∷ r) = append_assoc u (t ∷ a ∷ []) r in
      let q = type_names_c l (t ∷ a ∷ r) (omega (arith, s, ap length e)) in
      record {
        first = q.first;
        is = q.is;
        back = q.back ++ t ∷ a ∷ [];
        cut = ap (λ m. m ++ t ∷ a ∷ []) q.cut;
        left = pred q.left;
        enough = less_pred (length r) q.left (omega (arith, q.enough));
        loop = ap (parse.type_names_from types F (name_at q.first ∷ [])) (append_assoc q.back (t ∷ a ∷ []) r) ∙ q.loop
            ∙ ap (λ m. parse.type_names_from types m xs (t ∷ a ∷ r)) (some_pred q.left (length (t ∷ a ∷ r)) q.enough)
            ∙ step_type_names (pred q.left) t a r xs tc (reads_type_name types a r ac af);
      }

  pub whole_type_names : {u : List Token} {xs : List Name} → AreTypeNames leaves types u xs → (r : List Token) → length (u ++ r) < F → same_kind (kind r) k.Comma ≡ false → and_then (type_name types (u ++ r)) (λ a. parse.type_names_from types F (name_at a ∷ [])) ≡ Ok (xs, r)
  whole_type_names {u} {xs} l r s f = by (type_names_c l r s)
    where
      by : TypeNamesAre u xs r → and_then (type_name types (u ++ r)) (λ a. parse.type_names_from types F (name_at a ∷ [])) ≡ Ok (xs, r)
      by q = ap (λ m. and_then (type_name types (m ++ r)) (λ a. parse.type_names_from types F (name_at a ∷ []))) q.cut
          ∙ first q.first q.is q.back
          ∙ q.loop ∙ ap (λ m. parse.type_names_from types m xs r) (some_pred q.left (length r) q.enough) ∙ end_type_names (pred q.left) r xs f
        where
          first : (a : Token) → IsTypeName leaves types a → (v : List Token) → and_then (type_name types (a ∷ (v ++ r))) (λ a. parse.type_names_from types F (name_at a ∷ [])) ≡ parse.type_names_from types F (name_at a ∷ []) (v ++ r)
          first a (is_type c g) v = ap (λ o. and_then o (λ a. parse.type_names_from types F (name_at a ∷ []))) (reads_type_name types a (v ++ r) c g)

  pub record NewNamesAre (u : List Token) (xs : List Name) (r : List Token) : Type 0 where
    pub first : Token
    pub is : IsOtherName leaves types first
    pub back : List Token
    pub cut : u ≡ first ∷ back
    pub left : ℕ
    pub enough : length r < left
    pub loop : parse.new_names_from types F (name_at first ∷ []) (back ++ r) ≡ parse.new_names_from types left xs r

  new_names_c : {u : List Token} {xs : List Name} → AreNewNames leaves types u xs → (r : List Token) → length (u ++ r) < F → NewNamesAre u xs r
  new_names_c (items.one a c) r s = record { first = a; is = c; back = []; cut = refl; left = F; enough = omega (arith, s); loop = refl }
  new_names_c (items.more t a {u = u} {xs = xs} l tc (is_other ac af)) r s =
      let e : (u ++ t ∷ a ∷ []) ++ r ≡ u ++ (t ∷ a ∷ r) = append_assoc u (t ∷ a ∷ []) r in
      let q = new_names_c l (t ∷ a ∷ r) (omega (arith, s, ap length e)) in
      record {
        first = q.first;
        is = q.is;
        back = q.back ++ t ∷ a ∷ [];
        cut = ap (λ m. m ++ t ∷ a ∷ []) q.cut;
        left = pred q.left;
        enough = less_pred (length r) q.left (omega (arith, q.enough));
        loop = ap (parse.new_names_from types F (name_at q.first ∷ [])) (append_assoc q.back (t ∷ a ∷ []) r) ∙ q.loop
            ∙ ap (λ m. parse.new_names_from types m xs (t ∷ a ∷ r)) (some_pred q.left (length (t ∷ a ∷ r)) q.enough)
            ∙ step_new_names (pred q.left) t a r xs tc (reads_other_name types a r ac af);
      }

  pub whole_new_names : {u : List Token} {xs : List Name} → AreNewNames leaves types u xs → (r : List Token) → length (u ++ r) < F → same_kind (kind r) k.Comma ≡ false → and_then (other_name types (u ++ r)) (λ a. parse.new_names_from types F (name_at a ∷ [])) ≡ Ok (xs, r)
  whole_new_names {u} {xs} l r s f = by (new_names_c l r s)
    where
      by : NewNamesAre u xs r → and_then (other_name types (u ++ r)) (λ a. parse.new_names_from types F (name_at a ∷ [])) ≡ Ok (xs, r)
      by q = ap (λ m. and_then (other_name types (m ++ r)) (λ a. parse.new_names_from types F (name_at a ∷ []))) q.cut
          ∙ first q.first q.is q.back
          ∙ q.loop ∙ ap (λ m. parse.new_names_from types m xs r) (some_pred q.left (length r) q.enough) ∙ end_new_names (pred q.left) r xs f
        where
          first : (a : Token) → IsOtherName leaves types a → (v : List Token) → and_then (other_name types (a ∷ (v ++ r))) (λ a. parse.new_names_from types F (name_at a ∷ [])) ≡ parse.new_names_from types F (name_at a ∷ []) (v ++ r)
          first a (is_other c g) v = ap (λ o. and_then o (λ a. parse.new_names_from types F (name_at a ∷ []))) (reads_other_name types a (v ++ r) c g)

-- ---- heads

module _ (leaves : Leaves) (types : List ℕ) (F n : ℕ) where
  step_owned_head : (at : Place) (s : ℕ) (owner : Owner) (t o : Token) (ts r : List Token) (ps : Parameters) → other_name types (t ∷ o ∷ ts) ≡ Ok (t, o ∷ ts) → o.kind ≡ k.LeftParen → parameter_list leaves types F n ts ≡ Ok (ps, r)
      → parse.owned_head leaves types F n at s owner (t ∷ o ∷ ts) ≡ Ok (headed at s (Some owner) t ps, r)
  unfolding parse.owned_head kind same_kind take_if expect_if
  step_owned_head at s owner t o ts r ps e oc e2 = rw (e, oc, e2) refl

  pub owned_head_c : (at : Place) (s : ℕ) (owner : Owner) (t o c : Token) (v r : List Token) (ps : List Parameter) (h : ℕ) → IsOtherName leaves types t → o.kind ≡ k.LeftParen → IsParameterList leaves types v ps h → c.kind ≡ k.RightParen → h ≤ n → length (v ++ (c ∷ r)) < F
      → parse.owned_head leaves types F n at s owner (t ∷ o ∷ (v ++ (c ∷ r))) ≡ Ok (headed at s (Some owner) t (ps, h), r)
  owned_head_c at s owner t o c v r ps h (is_other tc tf) oc l ec low short =
      step_owned_head at s owner t o (v ++ (c ∷ r)) r (ps, h) (reads_other_name types t (o ∷ (v ++ (c ∷ r))) tc tf) oc (list_c leaves types F l n low c r short ec)

  -- what stands behind the names in brackets
  abbrev behind_names : Place → ℕ → Token → List Name → Parser SizedDeclarator
  behind_names at s a xs = expect_if true k.RightBracket >>= (λ _. expect_if true k.Dot >>= (λ _. parse.owned_head leaves types F n at s (record { adt = name_at a; parameters = xs })))

  closed_names : (at : Place) (s : ℕ) (a q p : Token) (r : List Token) (names : List Name) → q.kind ≡ k.RightBracket → p.kind ≡ k.Dot → behind_names at s a names (q ∷ p ∷ r) ≡ parse.owned_head leaves types F n at s (record { adt = name_at a; parameters = names }) r
  unfolding kind same_kind take_if expect_if
  closed_names at s a q p r names qc pc = rw (qc, pc) refl

  tie : (go : List Name → Parser SizedDeclarator) (o : Outcome Token) → and_then o (λ f. parse.type_names_from types F (name_at f ∷ []) >>= go) ≡ and_then (and_then o (λ f. parse.type_names_from types F (name_at f ∷ []))) go
  tie go (Ok x) = refl
  tie go (Err x) = refl

  step_parametrised : (at : Place) (s : ℕ) (a q p : Token) (ts r : List Token) (names : List Name) → and_then (type_name types ts) (λ f. parse.type_names_from types F (name_at f ∷ [])) ≡ Ok (names, q ∷ p ∷ r) → q.kind ≡ k.RightBracket → p.kind ≡ k.Dot
      → parse.parametrised_head leaves types F n at s a ts ≡ parse.owned_head leaves types F n at s (record { adt = name_at a; parameters = names }) r
  unfolding parse.parametrised_head
  step_parametrised at s a q p ts r names e qc pc = tie (behind_names at s a) (type_name types ts) ∙ ap (λ o. and_then o (behind_names at s a)) e ∙ closed_names at s a q p r names qc pc

module _ (leaves : Leaves) (F n : ℕ) (d : Declared) where
  to_named : (ts r : List Token) (s : ℕ) → stars_from F 0 ts ≡ Ok (s, r) → sees_type_name d.types r ≡ false → declarator leaves F n d ts ≡ parse.named_declarator leaves d.types F n (start ts) s r
  unfolding declarator
  to_named ts r s e f = rw (e, f) refl

  to_owned : (ts r : List Token) (s : ℕ) → stars_from F 0 ts ≡ Ok (s, r) → sees_type_name d.types r ≡ true → declarator leaves F n d ts ≡ parse.owned_declarator leaves F n d (start ts) s r
  unfolding declarator
  to_owned ts r s e f = rw (e, f) refl

  named_plain : (at : Place) (s : ℕ) (t o : Token) (ts r : List Token) (ps : Parameters) → other_name d.types (t ∷ o ∷ ts) ≡ Ok (t, o ∷ ts) → o.kind ≡ k.LeftParen → parameter_list leaves d.types F n ts ≡ Ok (ps, r) → parse.named_declarator leaves d.types F n at s (t ∷ o ∷ ts) ≡ Ok (headed at s None t ps, r)
  unfolding parse.named_declarator parse.plain_head kind same_kind take_if
  named_plain at s t o ts r ps e oc e2 = rw (e, oc, e2) refl

  named_global : (at : Place) (s : ℕ) (t : Token) (r : List Token) → other_name d.types (t ∷ r) ≡ Ok (t, r) → same_kind (kind r) k.LeftParen ≡ false → parse.named_declarator leaves d.types F n at s (t ∷ r) ≡ parse.global_after leaves d.types F n at s t r
  unfolding parse.named_declarator
  named_global at s t r e f = rw (e, f) refl

  abbrev dcl_at : Place → ℕ → Token → List Bound → Dcl
  dcl_at at s t bs = record { at = at; stars = s; name = name_at t; bounds = bs }

  global_bare : (at : Place) (s : ℕ) (t : Token) (ts r : List Token) (bs : List Bound) (h : ℕ) → bounds_from leaves d.types F n F [] 0 ts ≡ Ok ((bs, h), r) → same_kind (kind r) k.Equal ≡ false → parse.global_after leaves d.types F n at s t ts ≡ Ok ((dec.Global (dcl_at at s t bs) None, h), r)
  unfolding parse.global_after
  global_bare at s t ts r bs h e f = rw (e, f) refl

  global_set : (at : Place) (s : ℕ) (t q : Token) (ts r1 r : List Token) (bs : List Bound) (h : ℕ) (x : SizedInitializer) → bounds_from leaves d.types F n F [] 0 ts ≡ Ok ((bs, h), q ∷ r1) → q.kind ≡ k.Equal → nat_lt 0 n ≡ true → initializer leaves d.types F n r1 ≡ Ok (x, r)
      → parse.global_after leaves d.types F n at s t ts ≡ Ok ((dec.Global (dcl_at at s t bs) (Some x.0), max h x.1), r)
  unfolding parse.global_after kind same_kind take_if
  global_set at s t q ts r1 r bs h x e qc room e2 = rw (e, qc, room, e2) refl

  owned_dot : (at : Place) (s : ℕ) (a p : Token) (r : List Token) → type_name d.types (a ∷ p ∷ r) ≡ Ok (a, p ∷ r) → p.kind ≡ k.Dot → parse.owned_declarator leaves F n d at s (a ∷ p ∷ r) ≡ parse.owned_head leaves d.types F n at s (record { adt = name_at a; parameters = [] }) r
  unfolding parse.owned_declarator parse.owned_after parse.bracketed parse.dotted kind same_kind take_if expect_if
  owned_dot at s a p r e pc = rw (e, pc) refl

  owned_bracket : (at : Place) (s : ℕ) (a l : Token) (r : List Token) → type_name d.types (a ∷ l ∷ r) ≡ Ok (a, l ∷ r) → l.kind ≡ k.LeftBracket
      → parse.owned_declarator leaves F n d at s (a ∷ l ∷ r) ≡ parse.parametrised_head leaves (with_names d.types (parameters_of d.adts a.name)) F n at s a r
  unfolding parse.owned_declarator parse.owned_after parse.bracketed parse.dotted kind same_kind take_if
  owned_bracket at s a l r e lc = rw (e, lc) refl

  pub head_c : {inside : List ℕ} {u : List Token} {x : Head} {h : ℕ} → IsHead leaves d inside u x h → h ≤ n → (r : List Token) → length (u ++ r) < F → declarator leaves F n d (u ++ r) ≡ Ok ((dec.Function x, h), r)
  head_c (items.plain t o c {u = u} {v = v} {n = s} {h = h} {ps = ps} st (is_other tc tf) oc l ec) low r short =
      let behind : List Token = o ∷ (v ++ (c ∷ r)) in
      let cut : (u ++ t ∷ o ∷ (v ++ c ∷ [])) ++ r ≡ u ++ (t ∷ behind) = append_assoc u (t ∷ o ∷ (v ++ c ∷ [])) r ∙ ap (λ m. u ++ t ∷ o ∷ m) (append_assoc v (c ∷ []) r) in
      let s1 : length (u ++ (t ∷ behind)) < F = omega (arith, short, ap length cut) in
      let s2 : length behind < F = tail_short u t behind F s1 in
      ap (declarator leaves F n d) cut
      ∙ to_named (u ++ (t ∷ behind)) (t ∷ behind) s (whole_stars leaves d.types F st (t ∷ behind) s1 (name_no_star t behind tc)) (sees_no_type d.types t behind tc tf)
      ∙ named_plain (start (u ++ (t ∷ behind))) s t o (v ++ (c ∷ r)) r (ps, h) (reads_other_name d.types t behind tc tf) oc (list_c leaves d.types F l n low c r (omega (arith, s2)) ec)
      ∙ ap (λ z. Ok (headed z s None t (ps, h), r)) (same_start u t behind)
  head_c (items.of_adt a p t o c {u = u} {v = v} {n = s} {h = h} {ps = ps} st (is_type ac af) pc tc oc l ec) low r short =
      let behind : List Token = p ∷ t ∷ o ∷ (v ++ (c ∷ r)) in
      let cut : (u ++ a ∷ p ∷ t ∷ o ∷ (v ++ c ∷ [])) ++ r ≡ u ++ (a ∷ behind) = append_assoc u (a ∷ p ∷ t ∷ o ∷ (v ++ c ∷ [])) r ∙ ap (λ m. u ++ a ∷ p ∷ t ∷ o ∷ m) (append_assoc v (c ∷ []) r) in
      let s1 : length (u ++ (a ∷ behind)) < F = omega (arith, short, ap length cut) in
      let s2 : length behind < F = tail_short u a behind F s1 in
      ap (declarator leaves F n d) cut
      ∙ to_owned (u ++ (a ∷ behind)) (a ∷ behind) s (whole_stars leaves d.types F st (a ∷ behind) s1 (name_no_star a behind ac)) (sees_type d.types a behind ac af)
      ∙ owned_dot (start (u ++ (a ∷ behind))) s a p (t ∷ o ∷ (v ++ (c ∷ r))) (reads_type_name d.types a behind ac af) pc
      ∙ owned_head_c leaves d.types F n (start (u ++ (a ∷ behind))) s (record { adt = name_at a; parameters = [] }) t o c v r ps h tc oc l ec low (omega (arith, s2))
      ∙ ap (λ z. Ok (headed z s (Some (record { adt = name_at a; parameters = [] })) t (ps, h), r)) (same_start u a behind)
  head_c (items.of_parametrised a l q p t o c {u = u} {w = w} {v = v} {n = s} {h = h} {names = names} {ps = ps} st (is_type ac af) lc ns qc pc tc oc ls ec) low r short =
      let types : List ℕ = with_names d.types (parameters_of d.adts a.name) in
      let owner : Owner = record { adt = name_at a; parameters = names } in
      let last : List Token = t ∷ o ∷ (v ++ (c ∷ r)) in
      let behind : List Token = l ∷ (w ++ (q ∷ p ∷ last)) in
      let cut : (u ++ a ∷ l ∷ (w ++ q ∷ p ∷ t ∷ o ∷ (v ++ c ∷ []))) ++ r ≡ u ++ (a ∷ behind) = append_assoc u (a ∷ l ∷ (w ++ q ∷ p ∷ t ∷ o ∷ (v ++ c ∷ []))) r
      ∙ ap (λ m. u ++ a ∷ l ∷ m) (append_assoc w (q ∷ p ∷ t ∷ o ∷ (v ++ c ∷ [])) r ∙ ap (λ m. w ++ q ∷ p ∷ t ∷ o ∷ m) (append_assoc v (c ∷ []) r)) in
      let s1 : length (u ++ (a ∷ behind)) < F = omega (arith, short, ap length cut) in
      let s2 : length behind < F = tail_short u a behind F s1 in
      let s3 : length (w ++ (q ∷ p ∷ last)) < F = omega (arith, s2) in
      let s4 : length (p ∷ last) < F = tail_short w q (p ∷ last) F s3 in
      ap (declarator leaves F n d) cut
      ∙ to_owned (u ++ (a ∷ behind)) (a ∷ behind) s (whole_stars leaves d.types F st (a ∷ behind) s1 (name_no_star a behind ac)) (sees_type d.types a behind ac af)
      ∙ owned_bracket (start (u ++ (a ∷ behind))) s a l (w ++ (q ∷ p ∷ last)) (reads_type_name d.types a behind ac af) lc
      ∙ step_parametrised leaves types F n (start (u ++ (a ∷ behind))) s a q p (w ++ (q ∷ p ∷ last)) last names (whole_type_names leaves types F ns (q ∷ p ∷ last) s3 (bracket_no_comma q (p ∷ last) qc)) qc pc
      ∙ owned_head_c leaves types F n (start (u ++ (a ∷ behind))) s owner t o c v r ps h tc oc ls ec low (omega (arith, s4))
      ∙ ap (λ z. Ok (headed z s (Some owner) t (ps, h), r)) (same_start u a behind)

  -- ---- declarators

  bounds_behind : {v : List Token} {xs : List Bound} {h : ℕ} → IsBounds leaves d.types v xs h → (r : List Token) → same_kind (kind r) k.LeftParen ≡ false → same_kind (kind (v ++ r)) k.LeftParen ≡ false
  bounds_behind rules.none r f = f
  bounds_behind (rules.more o c {u = u} {v = v} l oc b ec) r f = subst (λ m. same_kind (kind m) k.LeftParen ≡ false) (sym (append_assoc u (o ∷ (v ++ c ∷ [])) r)) (bounds_behind l ((o ∷ (v ++ c ∷ [])) ++ r) (bracket_no_paren o ((v ++ c ∷ []) ++ r) oc))

  bare_c : {u : List Token} {x : Dcl} {h : ℕ} → IsDcl leaves d.types u x h → h ≤ n → (r : List Token) → length (u ++ r) < F → Follow r → declarator leaves F n d (u ++ r) ≡ Ok ((dec.Global x None, h), r)
  bare_c (is_dcl t {u = u} {v = v} {n = s} {h = h} {bounds = bs} st (is_other tc tf) l) low r short f =
      let cut : (u ++ t ∷ v) ++ r ≡ u ++ (t ∷ (v ++ r)) = append_assoc u (t ∷ v) r in
      let s1 : length (u ++ (t ∷ (v ++ r))) < F = omega (arith, short, ap length cut) in
      ap (declarator leaves F n d) cut
      ∙ to_named (u ++ (t ∷ (v ++ r))) (t ∷ (v ++ r)) s (whole_stars leaves d.types F st (t ∷ (v ++ r)) s1 (name_no_star t (v ++ r) tc)) (sees_no_type d.types t (v ++ r) tc tf)
      ∙ named_global (start (u ++ (t ∷ (v ++ r)))) s t (v ++ r) (reads_other_name d.types t (v ++ r) tc tf) (bounds_behind l r (no_paren r f))
      ∙ global_bare (start (u ++ (t ∷ (v ++ r)))) s t (v ++ r) r bs h (whole_bounds leaves d.types F l n low r (tail_short u t (v ++ r) F s1) (no_bracket r f)) (no_equal r f)
      ∙ ap (λ z. Ok ((dec.Global (dcl_at z s t bs) None, h), r)) (same_start u t (v ++ r))

  set_c : {u w : List Token} {x : Dcl} {y : Initializer} {h i : ℕ} → IsDcl leaves d.types u x h → (q : Token) → q.kind ≡ k.Equal → IsInitializer leaves d.types w y i → h ≤ n → i ≤ n → (r : List Token) → length (u ++ (q ∷ (w ++ r))) < F → Follow r
      → declarator leaves F n d (u ++ (q ∷ (w ++ r))) ≡ Ok ((dec.Global x (Some y), max h i), r)
  set_c {w = w} {y = y} {i = i} (is_dcl t {u = u} {v = v} {n = s} {h = h} {bounds = bs} st (is_other tc tf) l) q qc a low lower r short f =
      let behind : List Token = q ∷ (w ++ r) in
      let cut : (u ++ t ∷ v) ++ behind ≡ u ++ (t ∷ (v ++ behind)) = append_assoc u (t ∷ v) behind in
      let s1 : length (u ++ (t ∷ (v ++ behind))) < F = omega (arith, short, ap length cut) in
      let s2 : length (v ++ behind) < F = tail_short u t (v ++ behind) F s1 in
      let high : 0 < i = initializer_high leaves d.types F a in
      ap (declarator leaves F n d) cut
      ∙ to_named (u ++ (t ∷ (v ++ behind))) (t ∷ (v ++ behind)) s (whole_stars leaves d.types F st (t ∷ (v ++ behind)) s1 (name_no_star t (v ++ behind) tc)) (sees_no_type d.types t (v ++ behind) tc tf)
      ∙ named_global (start (u ++ (t ∷ (v ++ behind)))) s t (v ++ behind) (reads_other_name d.types t (v ++ behind) tc tf) (bounds_behind l behind (equal_no_paren q (w ++ r) qc))
      ∙ global_set (start (u ++ (t ∷ (v ++ behind)))) s t q (v ++ behind) (w ++ r) r bs h (y, i) (whole_bounds leaves d.types F l n low behind s2 (equal_no_bracket q (w ++ r) qc)) qc (nat_lt_is 0 n (omega (arith, high, lower)))
      (initializer_c leaves d.types F a n lower r (tail_short v q (w ++ r) F s2) (follow_asg r f))
      ∙ ap (λ z. Ok ((dec.Global (dcl_at z s t bs) (Some y), max h i), r)) (same_start u t (v ++ behind))

  pub declarator_c : {inside : List ℕ} {u : List Token} {x : Declarator} {h : ℕ} → IsDeclarator leaves d inside u x h → h ≤ n → (r : List Token) → length (u ++ r) < F → Follow r → declarator leaves F n d (u ++ r) ≡ Ok ((x, h), r)
  declarator_c (items.global a) low r short f = bare_c a low r short f
  declarator_c (items.set q {u = u} {v = w} a qc b) low r short f =
      let cut : (u ++ q ∷ w) ++ r ≡ u ++ (q ∷ (w ++ r)) = append_assoc u (q ∷ w) r in
      ap (declarator leaves F n d) cut ∙ set_c a q qc b (omega (arith, low)) (omega (arith, low)) r (omega (arith, short, ap length cut)) f
  declarator_c (items.function a) low r short f = head_c a low r short

  -- ---- lists of declarators

  step_declarators : (m : ℕ) (t : Token) (v r : List Token) (xs : List Declarator) (h : ℕ) (x : SizedDeclarator) → t.kind ≡ k.Comma → declarator leaves F n d (v ++ r) ≡ Ok (x, r)
      → parse.declarators_from leaves F n d (suc m) xs h (t ∷ (v ++ r)) ≡ parse.declarators_from leaves F n d m (xs ++ x.0 ∷ []) (max h x.1) r
  unfolding parse.declarators_from kind same_kind take_if
  step_declarators m t v r xs h x c e = rw (c, e) refl

  pub end_declarators : (m : ℕ) (r : List Token) (xs : List Declarator) (h : ℕ) → same_kind (kind r) k.Comma ≡ false → parse.declarators_from leaves F n d (suc m) xs h r ≡ Ok ((xs, h), r)
  unfolding parse.declarators_from
  end_declarators m r xs h f = rw f refl

  -- the first declarator, and how the others are read
  pub record DeclaratorsAre (inside : List ℕ) (u : List Token) (xs : List Declarator) (h : ℕ) (r : List Token) : Type 0 where
    pub front : List Token
    pub back : List Token
    pub first : Declarator
    pub low : ℕ
    pub is : IsDeclarator leaves d inside front first low
    pub lower : low ≤ h
    pub cut : u ≡ front ++ back
    pub after : Follow (back ++ r)
    pub left : ℕ
    pub enough : length r < left
    pub loop : parse.declarators_from leaves F n d F (first ∷ []) low (back ++ r) ≡ parse.declarators_from leaves F n d left xs h r

  pub declarators_c : {inside : List ℕ} {u : List Token} {xs : List Declarator} {h : ℕ} → IsDeclarators leaves d inside u xs h → h ≤ n → (r : List Token) → length (u ++ r) < F → Follow r → DeclaratorsAre inside u xs h r
  declarators_c (items.one {u = u} {x = x} {h = h} a) low r short f = record { front = u; back = []; first = x; low = h; is = a; lower = omega arith; cut = sym (append-nil u); after = f; left = F; enough = rest_short u r F short; loop = refl }
  declarators_c (items.more t {u = u} {v = v} {xs = xs} {x = x} {h = h} {i = i} l c a) low r short f =
      let e : (u ++ t ∷ v) ++ r ≡ u ++ (t ∷ (v ++ r)) = append_assoc u (t ∷ v) r in
      let s1 : length (u ++ (t ∷ (v ++ r))) < F = omega (arith, short, ap length e) in
      let q = declarators_c l (omega (arith, low)) (t ∷ (v ++ r)) s1 (comma_follows t (v ++ r) c) in
      let back_e : (q.back ++ t ∷ v) ++ r ≡ q.back ++ (t ∷ (v ++ r)) = append_assoc q.back (t ∷ v) r in
      record {
        front = q.front;
        back = q.back ++ t ∷ v;
        first = q.first;
        low = q.low;
        is = q.is;
        lower = omega (arith, q.lower);
        cut = ap (λ m. m ++ t ∷ v) q.cut ∙ append_assoc q.front q.back (t ∷ v);
        after = subst Follow (sym back_e) q.after;
        left = pred q.left;
        enough = less_pred (length r) q.left (omega (arith, q.enough, length-append v r));
        loop = ap (parse.declarators_from leaves F n d F (q.first ∷ []) q.low) back_e ∙ q.loop
            ∙ ap (λ m. parse.declarators_from leaves F n d m xs h (t ∷ (v ++ r))) (some_pred q.left (length (t ∷ (v ++ r))) q.enough)
            ∙ step_declarators (pred q.left) t v r xs h (x, i) c (declarator_c a (omega (arith, low)) r (tail_short u t (v ++ r) F s1) f);
      }

  -- ---- what stands behind the type of a result

  stars_behind : {u : List Token} {s : ℕ} → AreStars leaves d.types u s → (t : Token) (ts : List Token) → t.kind ≡ k.Name → length (u ++ (t ∷ ts)) < F → stars_from F 0 (u ++ (t ∷ ts)) ≡ Ok (s, t ∷ ts)
  stars_behind st t ts c short = whole_stars leaves d.types F st (t ∷ ts) short (name_no_star t ts c)

  inside_head : {inside : List ℕ} {u : List Token} {x : Head} {h : ℕ} → IsHead leaves d inside u x h → (r : List Token) → length (u ++ r) < F → inside_behind d F (u ++ r) ≡ inside
  inside_head (items.plain t o c {u = u} {v = v} {n = s} st (is_other tc tf) oc l ec) r short =
      let behind : List Token = (o ∷ (v ++ c ∷ [])) ++ r in
      let cut : (u ++ t ∷ o ∷ (v ++ c ∷ [])) ++ r ≡ u ++ (t ∷ behind) = append_assoc u (t ∷ o ∷ (v ++ c ∷ [])) r in
      ap (inside_behind d F) cut ∙ inside_other d F (u ++ (t ∷ behind)) (t ∷ behind) s (stars_behind st t behind tc (omega (arith, short, ap length cut))) (sees_no_type d.types t behind tc tf)
  inside_head (items.of_adt a p t o c {u = u} {v = v} {n = s} st (is_type ac af) pc tc oc l ec) r short =
      let behind : List Token = p ∷ ((t ∷ o ∷ (v ++ c ∷ [])) ++ r) in
      let cut : (u ++ a ∷ p ∷ t ∷ o ∷ (v ++ c ∷ [])) ++ r ≡ u ++ (a ∷ behind) = append_assoc u (a ∷ p ∷ t ∷ o ∷ (v ++ c ∷ [])) r in
      ap (inside_behind d F) cut ∙ inside_dot leaves d F (u ++ (a ∷ behind)) behind s a (stars_behind st a behind ac (omega (arith, short, ap length cut))) (is_type ac af) (dot_no_bracket p ((t ∷ o ∷ (v ++ c ∷ [])) ++ r) pc)
  inside_head (items.of_parametrised a l q p t o c {u = u} {w = w} {v = v} {n = s} st (is_type ac af) lc ns qc pc tc oc ls ec) r short =
      let behind : List Token = l ∷ ((w ++ q ∷ p ∷ t ∷ o ∷ (v ++ c ∷ [])) ++ r) in
      let cut : (u ++ a ∷ l ∷ (w ++ q ∷ p ∷ t ∷ o ∷ (v ++ c ∷ []))) ++ r ≡ u ++ (a ∷ behind) = append_assoc u (a ∷ l ∷ (w ++ q ∷ p ∷ t ∷ o ∷ (v ++ c ∷ []))) r in
      ap (inside_behind d F) cut ∙ inside_bracket leaves d F (u ++ (a ∷ behind)) behind s a (stars_behind st a behind ac (omega (arith, short, ap length cut))) (is_type ac af) (is_bracket l ((w ++ q ∷ p ∷ t ∷ o ∷ (v ++ c ∷ [])) ++ r) lc)

  inside_dcl : {u : List Token} {x : Dcl} {h : ℕ} → IsDcl leaves d.types u x h → (r : List Token) → length (u ++ r) < F → inside_behind d F (u ++ r) ≡ []
  inside_dcl (is_dcl t {u = u} {v = v} {n = s} st (is_other tc tf) l) r short =
      let cut : (u ++ t ∷ v) ++ r ≡ u ++ (t ∷ (v ++ r)) = append_assoc u (t ∷ v) r in
      ap (inside_behind d F) cut ∙ inside_other d F (u ++ (t ∷ (v ++ r))) (t ∷ (v ++ r)) s (stars_behind st t (v ++ r) tc (omega (arith, short, ap length cut))) (sees_no_type d.types t (v ++ r) tc tf)

  inside_declarator : {inside : List ℕ} {u : List Token} {x : Declarator} {h : ℕ} → IsDeclarator leaves d inside u x h → (r : List Token) → length (u ++ r) < F → inside_behind d F (u ++ r) ≡ inside
  inside_declarator (items.global a) r short = inside_dcl a r short
  inside_declarator (items.set q {u = u} {v = v} a qc b) r short =
      let cut : (u ++ q ∷ v) ++ r ≡ u ++ ((q ∷ v) ++ r) = append_assoc u (q ∷ v) r in
      ap (inside_behind d F) cut ∙ inside_dcl a ((q ∷ v) ++ r) (omega (arith, short, ap length cut))
  inside_declarator (items.function a) r short = inside_head a r short

  pub inside_declarators : {inside : List ℕ} {u : List Token} {xs : List Declarator} {h : ℕ} → IsDeclarators leaves d inside u xs h → (r : List Token) → length (u ++ r) < F → inside_behind d F (u ++ r) ≡ inside
  inside_declarators (items.one a) r short = inside_declarator a r short
  inside_declarators (items.more t {u = u} {v = v} l c a) r short =
      let cut : (u ++ t ∷ v) ++ r ≡ u ++ ((t ∷ v) ++ r) = append_assoc u (t ∷ v) r in
      ap (inside_behind d F) cut ∙ inside_declarators l ((t ∷ v) ++ r) (omega (arith, short, ap length cut))

  pub inside_function : {inside : List ℕ} {u : List Token} {x : Head} {h : ℕ} → IsHead leaves d inside u x h → (r : List Token) → length (u ++ r) < F → inside_behind d F (u ++ r) ≡ inside
  inside_function a r short = inside_head a r short

  -- ---- no declarator begins with a bracket

  stars_begin : {u : List Token} {s : ℕ} → AreStars leaves d.types u s → (t : Token) (ts : List Token) → t.kind ≡ k.Name → same_kind (kind (u ++ (t ∷ ts))) k.LeftBracket ≡ false
  unfolding same_kind
  stars_begin rules.none t ts c = not_kind t ts k.Name k.LeftBracket c refl
  stars_begin (rules.more o {u = u} a oc) t ts c = subst (λ m. same_kind (kind m) k.LeftBracket ≡ false) (sym (append_assoc u (o ∷ []) (t ∷ ts))) (before_star a o (t ∷ ts) oc)
    where
      before_star : {u : List Token} {s : ℕ} → AreStars leaves d.types u s → (o : Token) (ts : List Token) → o.kind ≡ k.Star → same_kind (kind (u ++ (o ∷ ts))) k.LeftBracket ≡ false
      before_star rules.none o ts oc = not_kind o ts k.Star k.LeftBracket oc refl
      before_star (rules.more p {u = u} a pc) o ts oc = subst (λ m. same_kind (kind m) k.LeftBracket ≡ false) (sym (append_assoc u (p ∷ []) (o ∷ ts))) (before_star a p (o ∷ ts) pc)

  pub head_begins : {inside : List ℕ} {u : List Token} {x : Head} {h : ℕ} → IsHead leaves d inside u x h → (r : List Token) → same_kind (kind (u ++ r)) k.LeftBracket ≡ false
  head_begins (items.plain t o c {u = u} {v = v} st (is_other tc tf) oc l ec) r = subst (λ m. same_kind (kind m) k.LeftBracket ≡ false) (sym (append_assoc u (t ∷ o ∷ (v ++ c ∷ [])) r)) (stars_begin st t ((o ∷ (v ++ c ∷ [])) ++ r) tc)
  head_begins (items.of_adt a p t o c {u = u} {v = v} st (is_type ac af) pc tc oc l ec) r = subst (λ m. same_kind (kind m) k.LeftBracket ≡ false) (sym (append_assoc u (a ∷ p ∷ t ∷ o ∷ (v ++ c ∷ [])) r)) (stars_begin st a ((p ∷ t ∷ o ∷ (v ++ c ∷ [])) ++ r) ac)
  head_begins (items.of_parametrised a l q p t o c {u = u} {w = w} {v = v} st (is_type ac af) lc ns qc pc tc oc ls ec) r =
      subst (λ m. same_kind (kind m) k.LeftBracket ≡ false) (sym (append_assoc u (a ∷ l ∷ (w ++ q ∷ p ∷ t ∷ o ∷ (v ++ c ∷ []))) r)) (stars_begin st a ((l ∷ (w ++ q ∷ p ∷ t ∷ o ∷ (v ++ c ∷ []))) ++ r) ac)

  dcl_begins : {u : List Token} {x : Dcl} {h : ℕ} → IsDcl leaves d.types u x h → (r : List Token) → same_kind (kind (u ++ r)) k.LeftBracket ≡ false
  dcl_begins (is_dcl t {u = u} {v = v} a (is_other c g) b) r = subst (λ m. same_kind (kind m) k.LeftBracket ≡ false) (sym (append_assoc u (t ∷ v) r)) (stars_begin a t (v ++ r) c)

  declarator_begins : {inside : List ℕ} {u : List Token} {x : Declarator} {h : ℕ} → IsDeclarator leaves d inside u x h → (r : List Token) → same_kind (kind (u ++ r)) k.LeftBracket ≡ false
  declarator_begins (items.global a) r = dcl_begins a r
  declarator_begins (items.set q {u = u} {v = v} a qc b) r = subst (λ m. same_kind (kind m) k.LeftBracket ≡ false) (sym (append_assoc u (q ∷ v) r)) (dcl_begins a ((q ∷ v) ++ r))
  declarator_begins (items.function a) r = head_begins a r

  pub declarators_begin : {inside : List ℕ} {u : List Token} {xs : List Declarator} {h : ℕ} → IsDeclarators leaves d inside u xs h → (r : List Token) → same_kind (kind (u ++ r)) k.LeftBracket ≡ false
  declarators_begin (items.one a) r = declarator_begins a r
  declarators_begin (items.more t {u = u} {v = v} l c a) r = subst (λ m. same_kind (kind m) k.LeftBracket ≡ false) (sym (append_assoc u (t ∷ v) r)) (declarators_begin l ((t ∷ v) ++ r))
