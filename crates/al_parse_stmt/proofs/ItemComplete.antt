-- Items and whole texts are read as what they are.
use Rattle.std.proofs.Common.{◌≡◌, ℕ, suc, pred, ◌+◌, ◌<◌, ◌≤◌, max, nat_lt, Bool, true, false, List, [], ◌∷◌, ◌++◌, length, map, Option, Some, None, Ok, Err, refl, sym, ap, ◌∙◌, subst, arith, append_assoc, append-nil, length-append}
use Rattle.al_base.specs.declared.place.Place.{Place}
use Rattle.al_lex.specs.declared.kind.TokenKind.{TokenKind}
use Rattle.al_lex.specs.declared.kind.TokenKind.TheVariants as k
use Rattle.al_lex.specs.declared.token.Token.{Token}
use Rattle.al_tree.specs.Words.{start, basic_type, scope_word, plain_aggregate, aggregate}
use Rattle.al_tree.specs.Types.{Leaves, known, with_name, with_names, name_at, type_name as is_type, IsOtherName, other_name as is_other, IsBase, AreStars, IsBounds, IsDcl, dcl as is_dcl}
use Rattle.al_tree.specs.Types as rules
use Rattle.al_tree.specs.Statements.{IsBlock}
use Rattle.al_tree.specs.Statements as g
use Rattle.al_tree.specs.Items.{Declared, nothing_declared, with_type, with_adt, number_of, body_types, IsParameterList, IsEnumBody, IsScope, IsSemicolon, IsHead, IsDeclarators, IsItem, IsItems}
use Rattle.al_tree.specs.Items as items
use Rattle.al_tree.specs.Reading.{Outcome, Parser, and_then, ◌>>=◌, pure, kind, name_number, same_kind, take_if, expect_if}
use Rattle.al_tree.specs.declared.expression.Name.{Name}
use Rattle.al_tree.specs.declared.type_tree.BasicType.{BasicType}
use Rattle.al_tree.specs.declared.type_tree.TypeTree.{TypeTree}
use Rattle.al_tree.specs.declared.type_tree.Bound.{Bound}
use Rattle.al_tree.specs.declared.type_tree.Dcl.{Dcl}
use Rattle.al_tree.specs.declared.statement.Stmt.{Stmt}
use Rattle.al_tree.specs.declared.item.Parameter.{Parameter}
use Rattle.al_tree.specs.declared.item.Constant.{Constant}
use Rattle.al_tree.specs.declared.item.Scope.{Scope}
use Rattle.al_tree.specs.declared.item.AggregateKind.{AggregateKind}
use Rattle.al_tree.specs.declared.item.AggregateKind.TheVariants as ag
use Rattle.al_tree.specs.declared.item.Head.{Head}
use Rattle.al_tree.specs.declared.item.Declarator.{Declarator}
use Rattle.al_tree.specs.declared.item.Declarator.TheVariants as dec
use Rattle.al_tree.specs.declared.item.Item.{Item}
use Rattle.al_tree.specs.declared.item.Item.TheVariants as item
use Rattle.al_tree.proofs.Law.{some_pred}
use Rattle.al_parse_type.specs.declared.part.ReadBase.{ReadBase}
use Rattle.al_parse_type.specs.Parse.{sees_other_name, other_name, bounds_from, stars_from}
use Rattle.al_parse_type.specs.Within.{base_within}
use Rattle.al_parse_type.proofs.BoundComplete.{less_pred, rest_short, tail_short, nat_lt_is, whole_bounds, whole_stars}
use Rattle.al_parse_type.proofs.TypeLaw.{base_long}
use Rattle.al_parse_type.proofs.BaseWhole.{no_bracket_ends, base_within_c}
use Rattle.al_parse_block.specs.Parse.{block_within}
use Rattle.al_parse_block.proofs.BlockComplete.{block_within_c}
use Rattle.al_parse_member.specs.Parameters.{Parameters, parameter_list}
use Rattle.al_parse_member.specs.Members.{Members, AdtMembers, Constants, enum_body, members_within, adt_body}
use Rattle.al_parse_member.proofs.ParameterComplete.{parameter_list_c as list_c}
use Rattle.al_parse_member.proofs.MemberComplete.{members_within_c, adt_body_c, enum_body_c, adt_members_high}
use Rattle.al_parse_stmt.specs.declared.heads.FirstName.{FirstName}
use Rattle.al_parse_stmt.specs.Ahead.{owner_of, inside_of}
use Rattle.al_parse_stmt.specs.Begun.{Begun, begins, begun_as}
use Rattle.al_parse_stmt.specs.Heads.{SizedDeclarator, new_names_from, declarator, declarator_after, declarators_from}
use Rattle.al_parse_stmt.specs.Parse as parse
use Rattle.al_parse_stmt.specs.Parse.{ReadItem, built}
use Rattle.al_parse_stmt.proofs.Facts.{never_ok, start_behind}
use Rattle.al_parse_stmt.proofs.Owners.{same_start, owner_at, inside_behind, inside_at}
use Rattle.al_parse_stmt.proofs.Begins.{tie as name_tie, owner_is, from_parts}
use Rattle.al_parse_stmt.proofs.HeadComplete.{Follow, no_brace, semicolon_follows, not_kind, is_kind, reads_other_name, whole_new_names, head_c, declarator_c, declarators_c, end_declarators, inside_declarators, inside_function, head_begins, declarators_begin}

-- no item begins so
abbrev pub NoSemicolon : List Token → Type 0
NoSemicolon r = same_kind (kind r) k.Semicolon ≡ false

kind_to : (t : Token) (ts : List Token) (kd : TokenKind) → t.kind ≡ kd → kind (t ∷ ts) ≡ kd
unfolding kind
kind_to t ts kd c = c

word_no_semicolon : (t : Token) (ts : List Token) (kd : TokenKind) → t.kind ≡ kd → same_kind kd k.Semicolon ≡ false → NoSemicolon (t ∷ ts)
word_no_semicolon t ts kd c f = not_kind t ts kd k.Semicolon c f

name_no_star : (t : Token) (ts : List Token) → t.kind ≡ k.Name → same_kind (kind (t ∷ ts)) k.Star ≡ false
unfolding same_kind
name_no_star t ts c = not_kind t ts k.Name k.Star c refl

bracket_no_comma : (t : Token) (ts : List Token) → t.kind ≡ k.RightBracket → same_kind (kind (t ∷ ts)) k.Comma ≡ false
unfolding same_kind
bracket_no_comma t ts c = not_kind t ts k.RightBracket k.Comma c refl

-- ---- kinds of first tokens

basic_no_semicolon : (kd : TokenKind) (x : BasicType) → basic_type kd ≡ Some x → same_kind kd k.Semicolon ≡ false
unfolding same_kind
basic_no_semicolon k.Semicolon x e = absurd (let f : ⊥ = cc in f)
basic_no_semicolon _ x e = refl

scope_no_semicolon : (kd : TokenKind) (x : Scope) → scope_word kd ≡ Some x → same_kind kd k.Semicolon ≡ false
unfolding same_kind
scope_no_semicolon k.Semicolon x e = absurd (let f : ⊥ = cc in f)
scope_no_semicolon _ x e = refl

aggregate_no_semicolon : (kd : TokenKind) (x : AggregateKind) → aggregate kd ≡ Some x → same_kind kd k.Semicolon ≡ false
unfolding same_kind
aggregate_no_semicolon k.Semicolon x e = absurd (let f : ⊥ = cc in f)
aggregate_no_semicolon _ x e = refl

plain_no_semicolon : (kd : TokenKind) (x : AggregateKind) → plain_aggregate kd ≡ Some x → same_kind kd k.Semicolon ≡ false
unfolding same_kind
plain_no_semicolon k.Semicolon x e = absurd (let f : ⊥ = cc in f)
plain_no_semicolon _ x e = refl

-- ---- what goes on behind the first token

module _ (leaves : Leaves) (F n : ℕ) (d : Declared) where
  abbrev pub One : List Token → Outcome ReadItem
  One ts = parse.one_item leaves F n d ts

  by_kind : (t : Token) (ts : List Token) (kd : TokenKind) → t.kind ≡ kd → One (t ∷ ts) ≡ parse.item_by leaves F n d kd (t ∷ ts)
  unfolding parse.one_item kind
  by_kind t ts kd c = ap (λ x. parse.item_by leaves F n d x (t ∷ ts)) c

  abbrev Aggregated : AggregateKind → Parser ReadItem
  Aggregated x = parse.aggregated leaves F n d x

  aggregate_is : (kd : TokenKind) (x : AggregateKind) → aggregate kd ≡ Some x → (ts : List Token) → parse.item_by leaves F n d kd ts ≡ Aggregated x ts
  aggregate_is k.Aggr ag.Aggr e ts = refl
  aggregate_is k.Union ag.Union e ts = refl
  aggregate_is k.Adt ag.Adt e ts = refl
  aggregate_is _ _ e ts = absurd (let f : ⊥ = cc in f)

  plain_is : (kd : TokenKind) (x : AggregateKind) → plain_aggregate kd ≡ Some x → (ts : List Token) → parse.item_by leaves F n d kd ts ≡ Aggregated x ts
  plain_is k.Aggr ag.Aggr e ts = refl
  plain_is k.Union ag.Union e ts = refl
  plain_is _ _ e ts = absurd (let f : ⊥ = cc in f)

  plain_body : (kd : TokenKind) (x : AggregateKind) → plain_aggregate kd ≡ Some x → (at : Place) (t : Token) (ts : List Token) → parse.bodied leaves F n d x at t ts ≡ parse.plain_of leaves F n d x at t ts
  unfolding parse.bodied
  plain_body k.Aggr ag.Aggr e at t ts = refl
  plain_body k.Union ag.Union e at t ts = refl
  plain_body _ _ e at t ts = absurd (let f : ⊥ = cc in f)

  scope_is : (kd : TokenKind) (x : Scope) → scope_word kd ≡ Some x → (ts : List Token) → parse.item_by leaves F n d kd ts ≡ parse.scoped leaves F n d x ts
  scope_is k.Typedef x e ts = absurd (let f : ⊥ = cc in f)
  scope_is k.Enum x e ts = absurd (let f : ⊥ = cc in f)
  scope_is k.Aggr x e ts = absurd (let f : ⊥ = cc in f)
  scope_is k.Union x e ts = absurd (let f : ⊥ = cc in f)
  scope_is k.Adt x e ts = absurd (let f : ⊥ = cc in f)
  scope_is _ x e ts = ap (λ o. parse.scoped_by leaves F n d o ts) e

  basic_is : (kd : TokenKind) (x : BasicType) → basic_type kd ≡ Some x → (ts : List Token) → parse.item_by leaves F n d kd ts ≡ parse.unscoped leaves F n d ts
  basic_is k.Typedef x e ts = absurd (let f : ⊥ = cc in f)
  basic_is k.Enum x e ts = absurd (let f : ⊥ = cc in f)
  basic_is k.Aggr x e ts = absurd (let f : ⊥ = cc in f)
  basic_is k.Union x e ts = absurd (let f : ⊥ = cc in f)
  basic_is k.Adt x e ts = absurd (let f : ⊥ = cc in f)
  basic_is k.Intern x e ts = absurd (let f : ⊥ = cc in f)
  basic_is k.Extern x e ts = absurd (let f : ⊥ = cc in f)
  basic_is k.Private x e ts = absurd (let f : ⊥ = cc in f)
  basic_is _ x e ts = refl

  base_item : {types : List ℕ} {takes : Bool} {u : List Token} {x : TypeTree} {h : ℕ} → IsBase leaves types true takes u x h → (r : List Token) → One (u ++ r) ≡ parse.unscoped leaves F n d (u ++ r)
  base_item (rules.basic t {x = x} c) r = by_kind t r t.kind refl ∙ basic_is t.kind x c (t ∷ r)
  base_item (rules.named t (is_type c f)) r = by_kind t r k.Name c
  base_item (rules.instance t o c {u = u} (is_type tc f) oc l ec) r = by_kind t (o ∷ ((u ++ c ∷ []) ++ r)) k.Name tc
  base_item (rules.tuple w o c {u = u} wc oc l ec) r = by_kind w (o ∷ ((u ++ c ∷ []) ++ r)) k.Tuple wc
  base_item (rules.bare_tuple o c {u = u} oc l ec) r = by_kind o ((u ++ c ∷ []) ++ r) k.LeftParen oc
  base_item (rules.channel w o c {u = u} wc oc a ec) r = by_kind w (o ∷ ((u ++ c ∷ []) ++ r)) k.Chan wc
  base_item (rules.buffered w o c p q {u = u} {v = v} wc oc a ec pc b qc) r = by_kind w (o ∷ ((u ++ c ∷ p ∷ (v ++ q ∷ [])) ++ r)) k.Chan wc

  base_begins : {types : List ℕ} {takes : Bool} {u : List Token} {x : TypeTree} {h : ℕ} → IsBase leaves types true takes u x h → (r : List Token) → NoSemicolon (u ++ r)
  unfolding same_kind
  base_begins (rules.basic t {x = x} c) r = word_no_semicolon t r t.kind refl (basic_no_semicolon t.kind x c)
  base_begins (rules.named t (is_type c f)) r = word_no_semicolon t r k.Name c refl
  base_begins (rules.instance t o c {u = u} (is_type tc f) oc l ec) r = word_no_semicolon t (o ∷ ((u ++ c ∷ []) ++ r)) k.Name tc refl
  base_begins (rules.tuple w o c {u = u} wc oc l ec) r = word_no_semicolon w (o ∷ ((u ++ c ∷ []) ++ r)) k.Tuple wc refl
  base_begins (rules.bare_tuple o c {u = u} oc l ec) r = word_no_semicolon o ((u ++ c ∷ []) ++ r) k.LeftParen oc refl
  base_begins (rules.channel w o c {u = u} wc oc a ec) r = word_no_semicolon w (o ∷ ((u ++ c ∷ []) ++ r)) k.Chan wc refl
  base_begins (rules.buffered w o c p q {u = u} {v = v} wc oc a ec pc b qc) r = word_no_semicolon w (o ∷ ((u ++ c ∷ p ∷ (v ++ q ∷ [])) ++ r)) k.Chan wc refl

  -- ---- a semicolon or none

  without_semicolon : (r : List Token) → NoSemicolon r → parse.semicolon r ≡ Ok (0, r)
  unfolding parse.semicolon
  without_semicolon r f = rw f refl

  with_semicolon : (t : Token) (r : List Token) → t.kind ≡ k.Semicolon → parse.semicolon (t ∷ r) ≡ Ok (0, r)
  unfolding parse.semicolon kind same_kind take_if
  with_semicolon t r c = rw c refl

  semicolon_c : {q : List Token} → IsSemicolon leaves q → (r : List Token) → NoSemicolon r → parse.semicolon (q ++ r) ≡ Ok (0, r)
  semicolon_c items.none r f = without_semicolon r f
  semicolon_c (items.some t c) r f = with_semicolon t r c

  -- ---- typedef

  step_typedef : (w : Token) (ts r : List Token) (b : ReadBase) → base_within leaves d.types F n ts ≡ Ok (b, r) → parse.typedef leaves F n d (w ∷ ts) ≡ parse.defined_after leaves F n d w.place b r
  unfolding parse.typedef take_if
  step_typedef w ts r b e = rw e refl

  step_function_type : (at : Place) (b : ReadBase) (ts r1 r : List Token) (s : ℕ) (t o q : Token) (ps : Parameters) → stars_from F 0 ts ≡ Ok (s, t ∷ o ∷ r1) → other_name d.types (t ∷ o ∷ r1) ≡ Ok (t, o ∷ r1) → o.kind ≡ k.LeftParen → parameter_list leaves d.types F n r1 ≡ Ok (ps, q ∷ r) → q.kind ≡ k.Semicolon
      → parse.defined_after leaves F n d at b ts ≡ Ok (built (with_type t.name d) (max b.height ps.1) (item.FunctionType at b.tree s (name_at t) ps.0), r)
  unfolding parse.defined_after parse.function_type parse.typed_parameters kind same_kind take_if expect_if
  step_function_type at b ts r1 r s t o q ps e e2 oc e3 qc = rw (e, e2, oc, e3, qc) refl

  to_defined : (at : Place) (b : ReadBase) (ts r : List Token) (s : ℕ) (t : Token) → stars_from F 0 ts ≡ Ok (s, t ∷ r) → other_name d.types (t ∷ r) ≡ Ok (t, r) → same_kind (kind r) k.LeftParen ≡ false → parse.defined_after leaves F n d at b ts ≡ parse.defined leaves F n d at b (start ts) s t r
  unfolding parse.defined_after
  to_defined at b ts r s t e e2 f = rw (e, e2, f) refl

  step_defined : (at : Place) (b : ReadBase) (begin : Place) (s : ℕ) (t q : Token) (ts r : List Token) (bs : List Bound) (h : ℕ) → bounds_from leaves d.types F n F [] 0 ts ≡ Ok ((bs, h), q ∷ r) → q.kind ≡ k.Semicolon
      → parse.defined leaves F n d at b begin s t ts ≡ Ok (built (with_type t.name d) (max b.height h) (item.Typedef at b.tree (record { at = begin; stars = s; name = name_at t; bounds = bs })), r)
  unfolding parse.defined kind same_kind take_if expect_if
  step_defined at b begin s t q ts r bs h e qc = rw (e, qc) refl

  bounds_behind : {v : List Token} {xs : List Bound} {h : ℕ} → IsBounds leaves d.types v xs h → (q : Token) (r : List Token) → q.kind ≡ k.Semicolon → same_kind (kind (v ++ (q ∷ r))) k.LeftParen ≡ false
  unfolding same_kind
  bounds_behind rules.none q r c = not_kind q r k.Semicolon k.LeftParen c refl
  bounds_behind (rules.more o c {u = u} {v = v} l oc b ec) q r qc = subst (λ m. same_kind (kind m) k.LeftParen ≡ false) (sym (append_assoc u (o ∷ (v ++ c ∷ [])) (q ∷ r))) (before l o ((v ++ c ∷ []) ++ (q ∷ r)) oc)
    where
      before : {v : List Token} {xs : List Bound} {h : ℕ} → IsBounds leaves d.types v xs h → (o : Token) (r : List Token) → o.kind ≡ k.LeftBracket → same_kind (kind (v ++ (o ∷ r))) k.LeftParen ≡ false
      before rules.none o r oc = not_kind o r k.LeftBracket k.LeftParen oc refl
      before (rules.more p c {u = u} {v = v} l pc b ec) o r oc = subst (λ m. same_kind (kind m) k.LeftParen ≡ false) (sym (append_assoc u (p ∷ (v ++ c ∷ [])) (o ∷ r))) (before l p ((v ++ c ∷ []) ++ (o ∷ r)) pc)

  stars_begin : {u : List Token} {s : ℕ} → AreStars leaves d.types u s → (t : Token) (ts : List Token) → t.kind ≡ k.Name → same_kind (kind (u ++ (t ∷ ts))) k.LeftBracket ≡ false
  unfolding same_kind
  stars_begin rules.none t ts c = not_kind t ts k.Name k.LeftBracket c refl
  stars_begin (rules.more o {u = u} a oc) t ts c = subst (λ m. same_kind (kind m) k.LeftBracket ≡ false) (sym (append_assoc u (o ∷ []) (t ∷ ts))) (before_star a o (t ∷ ts) oc)
    where
      before_star : {u : List Token} {s : ℕ} → AreStars leaves d.types u s → (o : Token) (ts : List Token) → o.kind ≡ k.Star → same_kind (kind (u ++ (o ∷ ts))) k.LeftBracket ≡ false
      before_star rules.none o ts oc = not_kind o ts k.Star k.LeftBracket oc refl
      before_star (rules.more p {u = u} a pc) o ts oc = subst (λ m. same_kind (kind m) k.LeftBracket ≡ false) (sym (append_assoc u (p ∷ []) (o ∷ ts))) (before_star a p (o ∷ ts) pc)

  abbrev read_base : TypeTree → ℕ → Bool → ReadBase
  read_base x h takes = record { tree = x; height = h; takes_bracket = takes }

  bracket_ok : same_kind k.Semicolon k.LeftBracket ≡ false
  unfolding same_kind
  bracket_ok = refl

  typedef_c : {takes : Bool} {u v : List Token} {x : TypeTree} {y : Dcl} {h i : ℕ} (w q : Token) → IsBase leaves d.types true takes u x h → IsDcl leaves d.types v y i → q.kind ≡ k.Semicolon → h ≤ n → i ≤ n → (r : List Token) → length (u ++ (v ++ (q ∷ r))) < F
      → parse.typedef leaves F n d (w ∷ (u ++ (v ++ (q ∷ r)))) ≡ Ok (built (with_type y.name.name d) (max h i) (item.Typedef w.place x y), r)
  typedef_c {takes} {u} {x = x} {h = h} w q a (is_dcl t {u = v1} {v = v2} {n = s} {h = i} {bounds = bs} st (is_other tc tf) l) qc low lower r short =
      let behind : List Token = v2 ++ (q ∷ r) in
      let cut : (v1 ++ t ∷ v2) ++ (q ∷ r) ≡ v1 ++ (t ∷ behind) = append_assoc v1 (t ∷ v2) (q ∷ r) in
      let s1 : length (u ++ (v1 ++ (t ∷ behind))) < F = omega (arith, short, ap (λ m. length (u ++ m)) cut) in
      let s2 : length (v1 ++ (t ∷ behind)) < F = rest_short u (v1 ++ (t ∷ behind)) F s1 in
      let b : ReadBase = read_base x h takes in
      ap (λ m. parse.typedef leaves F n d (w ∷ (u ++ m))) cut
      ∙ step_typedef w (u ++ (v1 ++ (t ∷ behind))) (v1 ++ (t ∷ behind)) b (base_within_c leaves d.types F a n low (v1 ++ (t ∷ behind)) s1 (no_bracket_ends leaves d.types F takes u (v1 ++ (t ∷ behind)) (stars_begin st t behind tc)))
      ∙ to_defined w.place b (v1 ++ (t ∷ behind)) behind s t (whole_stars leaves d.types F st (t ∷ behind) s2 (name_no_star t behind tc)) (reads_other_name d.types t behind tc tf) (bounds_behind l q r qc)
      ∙ step_defined w.place b (start (v1 ++ (t ∷ behind))) s t q behind r bs i (whole_bounds leaves d.types F l n lower (q ∷ r) (tail_short v1 t behind F s2) (not_kind q r k.Semicolon k.LeftBracket qc bracket_ok)) qc
      ∙ ap (λ z. Ok (built (with_type t.name d) (max h i) (item.Typedef w.place x (record { at = z; stars = s; name = name_at t; bounds = bs })), r)) (same_start v1 t behind)

  function_type_c : {takes : Bool} {u v z : List Token} {x : TypeTree} {s h i : ℕ} {ps : List Parameter} (w t o c q : Token) → IsBase leaves d.types true takes u x h → AreStars leaves d.types v s → IsOtherName leaves d.types t → o.kind ≡ k.LeftParen → IsParameterList leaves d.types z ps i → c.kind ≡ k.RightParen → q.kind ≡ k.Semicolon
      → h ≤ n → i ≤ n → (r : List Token) → length (u ++ (v ++ (t ∷ o ∷ (z ++ (c ∷ q ∷ r))))) < F
      → parse.typedef leaves F n d (w ∷ (u ++ (v ++ (t ∷ o ∷ (z ++ (c ∷ q ∷ r)))))) ≡ Ok (built (with_type t.name d) (max h i) (item.FunctionType w.place x s (name_at t) ps), r)
  function_type_c {takes} {u} {v} {z} {x} {s} {h} {i} {ps} w t o c q a st (is_other tc tf) oc l ec qc low lower r short =
      let behind : List Token = o ∷ (z ++ (c ∷ q ∷ r)) in
      let b : ReadBase = read_base x h takes in
      let s2 : length (v ++ (t ∷ behind)) < F = rest_short u (v ++ (t ∷ behind)) F short in
      let s3 : length behind < F = tail_short v t behind F s2 in
      step_typedef w (u ++ (v ++ (t ∷ behind))) (v ++ (t ∷ behind)) b (base_within_c leaves d.types F a n low (v ++ (t ∷ behind)) short (no_bracket_ends leaves d.types F takes u (v ++ (t ∷ behind)) (stars_begin st t behind tc)))
      ∙ step_function_type w.place b (v ++ (t ∷ behind)) (z ++ (c ∷ q ∷ r)) r s t o q (ps, i) (whole_stars leaves d.types F st (t ∷ behind) s2 (name_no_star t behind tc)) (reads_other_name d.types t behind tc tf) oc
      (list_c leaves d.types F l n lower c (q ∷ r) (omega (arith, s3)) ec) qc

  -- ---- aggr, union and adt

  step_forward : (x : AggregateKind) (w t q : Token) (r : List Token) → t.kind ≡ k.Name → q.kind ≡ k.Semicolon → Aggregated x (w ∷ t ∷ q ∷ r) ≡ Ok (built (with_type t.name d) 0 (item.Forward w.place x (name_at t)), r)
  unfolding parse.aggregated parse.forward kind same_kind take_if expect_if
  step_forward x w t q r tc qc = rw (tc, qc) refl

  brace_no_semicolon : (o : Token) → o.kind ≡ k.LeftBrace → same_kind o.kind k.Semicolon ≡ false
  unfolding same_kind
  brace_no_semicolon o c = rw c refl

  bracket_no_semicolon : (o : Token) → o.kind ≡ k.LeftBracket → same_kind o.kind k.Semicolon ≡ false
  unfolding same_kind
  bracket_no_semicolon o c = rw c refl

  name_self : same_kind k.Name k.Name ≡ true
  unfolding same_kind
  name_self = refl

  to_body : (x : AggregateKind) (w t o : Token) (r : List Token) → t.kind ≡ k.Name → same_kind o.kind k.Semicolon ≡ false → Aggregated x (w ∷ t ∷ o ∷ r) ≡ parse.bodied leaves F n d x w.place t (o ∷ r)
  unfolding parse.aggregated kind take_if expect_if
  to_body x w t o r tc f = let e = name_self in rw (tc, e, f) refl

  step_plain : (x : AggregateKind) (at : Place) (t : Token) (ts r1 r : List Token) (xs : Members) → members_within leaves (with_name d.types t.name) F n ts ≡ Ok (xs, r1) → parse.semicolon r1 ≡ Ok (0, r) → parse.plain_of leaves F n d x at t ts ≡ Ok (built (with_type t.name d) xs.1 (item.Aggregate at x (name_at t) xs.0), r)
  unfolding parse.plain_of
  step_plain x at t ts r1 r xs e e2 = rw (e, e2) refl

  step_adt : (at : Place) (t o : Token) (ts r1 r : List Token) (xs : AdtMembers) → same_kind (kind (o ∷ ts)) k.LeftBracket ≡ false → adt_body leaves (with_name d.types t.name) F n (o ∷ ts) ≡ Ok (xs, r1) → parse.semicolon r1 ≡ Ok (0, r) → parse.bodied leaves F n d ag.Adt at t (o ∷ ts) ≡ Ok (built (with_type t.name d) xs.1 (item.Adt at (name_at t) [] xs.0), r)
  unfolding parse.bodied parse.adt_of
  step_adt at t o ts r1 r xs f e e2 = rw (f, e, e2) refl

  brace_no_bracket : (o : Token) (ts : List Token) → o.kind ≡ k.LeftBrace → same_kind (kind (o ∷ ts)) k.LeftBracket ≡ false
  unfolding same_kind
  brace_no_bracket o ts c = not_kind o ts k.LeftBrace k.LeftBracket c refl

  to_parametrised : (at : Place) (t l : Token) (ts : List Token) → l.kind ≡ k.LeftBracket → parse.bodied leaves F n d ag.Adt at t (l ∷ ts) ≡ parse.parametrised_of leaves F n d at t (l ∷ ts)
  unfolding parse.bodied kind same_kind
  to_parametrised at t l ts lc = rw lc refl

  -- the bracket behind new names
  abbrev closes : List Name → Parser (List Name)
  closes xs = expect_if true k.RightBracket >>= (λ _. pure xs)

  closed : (xs : List Name) (q : Token) (r : List Token) → q.kind ≡ k.RightBracket → closes xs (q ∷ r) ≡ Ok (xs, r)
  unfolding kind same_kind take_if expect_if
  closed xs q r qc = rw qc refl

  tie : (types : List ℕ) (o : Outcome Token) → and_then o (λ f. new_names_from types F (name_at f ∷ []) >>= closes) ≡ and_then (and_then o (λ f. new_names_from types F (name_at f ∷ []))) closes
  tie types (Ok x) = refl
  tie types (Err x) = refl

  step_new_names : (types : List ℕ) (q : Token) (ts r : List Token) (ns : List Name) → and_then (other_name types ts) (λ f. new_names_from types F (name_at f ∷ [])) ≡ Ok (ns, q ∷ r) → q.kind ≡ k.RightBracket → parse.new_names F types ts ≡ Ok (ns, r)
  unfolding parse.new_names
  step_new_names types q ts r ns e qc = tie types (other_name types ts) ∙ ap (λ o. and_then o closes) e ∙ closed ns q r qc

  step_parametrised : (at : Place) (t l : Token) (ts r1 r2 r : List Token) (ns : List Name) (xs : AdtMembers) → nat_lt 0 n ≡ true → parse.new_names F (with_name d.types t.name) ts ≡ Ok (ns, r1) → adt_body leaves (with_names (with_name d.types t.name) (map number_of ns)) F n r1 ≡ Ok (xs, r2) → parse.semicolon r2 ≡ Ok (0, r)
      → parse.parametrised_of leaves F n d at t (l ∷ ts) ≡ Ok (built (with_adt t.name (map number_of ns) d) xs.1 (item.Adt at (name_at t) ns xs.0), r)
  unfolding parse.parametrised_of parse.parametrised_body take_if
  step_parametrised at t l ts r1 r2 r ns xs room e e2 e3 = rw (room, e, e2, e3) refl

  -- ---- enum

  step_enum : (w : Token) (ts r1 r : List Token) (xs : Constants) → sees_other_name d.types ts ≡ false → enum_body leaves d.types F n ts ≡ Ok (xs, r1) → parse.semicolon r1 ≡ Ok (0, r) → parse.enumerated leaves F n d (w ∷ ts) ≡ Ok (built d xs.1 (item.Enum w.place None xs.0), r)
  unfolding parse.enumerated parse.unnamed_enum take_if
  step_enum w ts r1 r xs f e e2 = rw (f, e, e2) refl

  sees_name : (t : Token) (ts : List Token) → t.kind ≡ k.Name → known d.types t.name ≡ false → sees_other_name d.types (t ∷ ts) ≡ true
  unfolding sees_other_name kind name_number same_kind
  sees_name t ts c f = rw (c, f) refl

  step_named_enum : (w t : Token) (ts r1 r : List Token) (xs : Constants) → sees_other_name d.types (t ∷ ts) ≡ true → enum_body leaves (with_name d.types t.name) F n ts ≡ Ok (xs, r1) → parse.semicolon r1 ≡ Ok (0, r) → parse.enumerated leaves F n d (w ∷ t ∷ ts) ≡ Ok (built (with_type t.name d) xs.1 (item.Enum w.place (Some (name_at t)) xs.0), r)
  unfolding parse.enumerated parse.named_enum take_if
  step_named_enum w t ts r1 r xs f e e2 = rw (f, e, e2) refl

  brace_no_name : (o : Token) (ts : List Token) → o.kind ≡ k.LeftBrace → sees_other_name d.types (o ∷ ts) ≡ false
  unfolding sees_other_name kind same_kind
  brace_no_name o ts c = rw c refl

  enum_begins : {types : List ℕ} {u : List Token} {xs : List Constant} {h : ℕ} → IsEnumBody leaves types u xs h → (r : List Token) → sees_other_name d.types (u ++ r) ≡ false
  enum_begins (items.braces o c {u = u} oc l ec) r = brace_no_name o ((u ++ c ∷ []) ++ r) oc
  enum_begins (items.braces_comma o t c {u = u} oc l tc ec) r = brace_no_name o ((u ++ t ∷ c ∷ []) ++ r) oc

  -- ---- declarations and functions

  -- what is read in the way that is found ahead is read
  declared_is : (at : Place) (scope : Option Scope) (owner : Option ℕ) (ts r1 r2 : List Token) (y : Begun) (x : SizedDeclarator) → owner_of d F ts ≡ owner → begun_as leaves F n d owner ts ≡ Ok (y, r1) → declarator_after leaves F n d y.1 r1 ≡ Ok (x, r2)
      → parse.declared leaves F n d at scope ts ≡ parse.behind_first leaves F n d at scope y.0 x.0 x.1 r2
  unfolding parse.declared parse.behind_begun
  declared_is at scope owner ts r1 r2 y x e h f =
      ap (λ o. parse.declared_by leaves F n d at scope ts o (begun_as leaves F n d o ts)) e
      ∙ ap (parse.declared_by leaves F n d at scope ts owner) h
      ∙ ap (λ o. and_then o (λ x. parse.behind_first leaves F n d at scope y.0 x.0 x.1)) f

  step_declared : (at : Place) (scope : Option Scope) (inside : List ℕ) (ts r1 r2 : List Token) (b : ReadBase) (x : SizedDeclarator) → owner_of d F ts ≡ owner_at d F r1 → inside_behind d F r1 ≡ inside → base_within leaves (with_names d.types inside) F n ts ≡ Ok (b, r1) → declarator leaves F n d r1 ≡ Ok (x, r2)
      → parse.declared leaves F n d at scope ts ≡ parse.behind_first leaves F n d at scope b x.0 x.1 r2
  step_declared at scope inside ts r1 r2 b x e i e2 e3 = by (begins d F (owner_at d F r1) r1) refl (name_tie leaves F n d (owner_at d F r1) r1 refl)
    where
      base : base_within leaves (with_names d.types (inside_of d (owner_at d F r1))) F n ts ≡ Ok (b, r1)
      base = ap (λ l. base_within leaves (with_names d.types l) F n ts) (inside_at d F r1 ∙ i) ∙ e2

      by : (o : Outcome FirstName) → begins d F (owner_at d F r1) r1 ≡ o → and_then o (λ z. declarator_after leaves F n d z) ≡ declarator leaves F n d r1 → parse.declared leaves F n d at scope ts ≡ parse.behind_first leaves F n d at scope b x.0 x.1 r2
      by (Ok z) h g = declared_is at scope (owner_at d F r1) ts z.1 r2 (b, z.0) x e (from_parts leaves F n d (owner_at d F r1) ts r1 z.1 b z.0 base h) (g ∙ e3)
      by (Err f) h g = absurd (never_ok f (x, r2) (g ∙ e3))

  behind_more : (at : Place) (scope : Option Scope) (b : ReadBase) (x : Declarator) (h : ℕ) (r : List Token) → Follow r → parse.behind_first leaves F n d at scope b x h r ≡ parse.declared_more leaves F n d at scope b (x, h) r
  behind_more at scope b (dec.Function head) h r f = let e = no_brace r f in rw e refl
  behind_more at scope b (dec.Global x y) h r f = refl

  step_more : (at : Place) (scope : Option Scope) (b : ReadBase) (x : SizedDeclarator) (ts r : List Token) (ys : List Declarator) (i : ℕ) (q : Token) → declarators_from leaves F n d F (x.0 ∷ []) x.1 ts ≡ Ok ((ys, i), q ∷ r) → q.kind ≡ k.Semicolon
      → parse.declared_more leaves F n d at scope b x ts ≡ Ok (built d (max b.height i) (item.Declare at scope b.tree ys), r)
  unfolding parse.declared_more kind same_kind take_if expect_if
  step_more at scope b x ts r ys i q e qc = rw (e, qc) refl

  step_body : (at : Place) (scope : Option Scope) (b : ReadBase) (head : Head) (h : ℕ) (ts r : List Token) (body : Stmt) (i : ℕ) → same_kind (kind ts) k.LeftBrace ≡ true → nat_lt 0 n ≡ true → block_within leaves (body_types leaves d head.owner) F n ts ≡ Ok ((body, i), r)
      → parse.behind_first leaves F n d at scope b (dec.Function head) h ts ≡ Ok (built d (max b.height (max h i)) (item.Function at scope b.tree head body), r)
  unfolding parse.with_body
  step_body at scope b head h ts r body i f room e = rw (f, room, e) refl

  semicolon_no_comma : (q : Token) (r : List Token) → q.kind ≡ k.Semicolon → same_kind (kind (q ∷ r)) k.Comma ≡ false
  unfolding same_kind
  semicolon_no_comma q r c = not_kind q r k.Semicolon k.Comma c refl

  declare_c : {takes : Bool} {u v : List Token} {inside : List ℕ} {x : TypeTree} {ys : List Declarator} {h i : ℕ} (at : Place) (scope : Option Scope) (q : Token) → IsBase leaves (with_names d.types inside) true takes u x h → IsDeclarators leaves d inside v ys i → q.kind ≡ k.Semicolon → h ≤ n → i ≤ n → (r : List Token) → length (u ++ (v ++ (q ∷ r))) < F
      → parse.declared leaves F n d at scope (u ++ (v ++ (q ∷ r))) ≡ Ok (built d (max h i) (item.Declare at scope x ys), r)
  declare_c {takes} {u} {v} {inside} {x} {ys} {h} {i} at scope q a l qc low lower r short =
      let types : List ℕ = with_names d.types inside in
      let behind : List Token = v ++ (q ∷ r) in
      let s1 : length behind < F = rest_short u behind F short in
      let no : same_kind (kind behind) k.LeftBracket ≡ false = declarators_begin leaves F n d l (q ∷ r) in
      let b : ReadBase = read_base x h takes in
      let p = declarators_c leaves F n d l lower (q ∷ r) s1 (semicolon_follows q r qc) in
      let cut : behind ≡ p.front ++ (p.back ++ (q ∷ r)) = ap (λ m. m ++ (q ∷ r)) p.cut ∙ append_assoc p.front p.back (q ∷ r) in
      step_declared at scope inside (u ++ behind) behind (p.back ++ (q ∷ r)) b (p.first, p.low)
      (owner_is leaves F n d types u b behind a (omega (arith, short, length-append u behind)) no)
      (inside_declarators leaves F n d l (q ∷ r) s1)
      (base_within_c leaves types F a n low behind short (no_bracket_ends leaves types F takes u behind no))
      (ap (declarator leaves F n d) cut ∙ declarator_c leaves F n d p.is (omega (arith, p.lower, lower)) (p.back ++ (q ∷ r)) (omega (arith, s1, ap length cut)) p.after)
      ∙ behind_more at scope b p.first p.low (p.back ++ (q ∷ r)) p.after
      ∙ step_more at scope b (p.first, p.low) (p.back ++ (q ∷ r)) r ys i q
      (p.loop ∙ ap (λ m. declarators_from leaves F n d m ys i (q ∷ r)) (some_pred p.left (length (q ∷ r)) p.enough) ∙ end_declarators leaves F n d (pred p.left) (q ∷ r) ys i (semicolon_no_comma q r qc)) qc

  -- a block begins with a brace, and has a level
  record Opens (u : List Token) (h : ℕ) : Type 0 where
    brace : (r : List Token) → same_kind (kind (u ++ r)) k.LeftBrace ≡ true
    high : 0 < h

  brace_self : same_kind k.LeftBrace k.LeftBrace ≡ true
  unfolding same_kind
  brace_self = refl

  block_opens : {types : List ℕ} {u : List Token} {x : Stmt} {h : ℕ} → IsBlock leaves types u x h → Opens u h
  block_opens (g.braces p q {u = u} pc l qc) = record { brace = λ r. is_kind p ((u ++ q ∷ []) ++ r) k.LeftBrace pc brace_self; high = omega arith }

  function_c : {takes : Bool} {u v c : List Token} {inside : List ℕ} {x : TypeTree} {head : Head} {body : Stmt} {h i j : ℕ} (at : Place) (scope : Option Scope) → IsBase leaves (with_names d.types inside) true takes u x h → IsHead leaves d inside v head i → IsBlock leaves (body_types leaves d head.owner) c body j
      → h ≤ n → i ≤ n → j ≤ n → (r : List Token) → length (u ++ (v ++ (c ++ r))) < F → parse.declared leaves F n d at scope (u ++ (v ++ (c ++ r))) ≡ Ok (built d (max h (max i j)) (item.Function at scope x head body), r)
  function_c {takes} {u} {v} {c} {inside} {x} {head} {body} {h} {i} {j} at scope a l m low lower lowest r short =
      let types : List ℕ = with_names d.types inside in
      let behind : List Token = v ++ (c ++ r) in
      let s1 : length behind < F = rest_short u behind F short in
      let no : same_kind (kind behind) k.LeftBracket ≡ false = head_begins leaves F n d l (c ++ r) in
      let b : ReadBase = read_base x h takes in
      let o = block_opens m in
      step_declared at scope inside (u ++ behind) behind (c ++ r) b (dec.Function head, i)
      (owner_is leaves F n d types u b behind a (omega (arith, short, length-append u behind)) no)
      (inside_function leaves F n d l (c ++ r) s1)
      (base_within_c leaves types F a n low behind short (no_bracket_ends leaves types F takes u behind no))
      (head_c leaves F n d l lower (c ++ r) s1)
      ∙ step_body at scope b head i (c ++ r) r body j (o.brace r) (nat_lt_is 0 n (omega (arith, o.high, lowest))) (block_within_c leaves (body_types leaves d head.owner) F m n lowest r (rest_short v (c ++ r) F s1))

  -- ---- the word before an item, or none

  step_scoped : (word : Scope) (w : Token) (ts : List Token) → parse.scoped leaves F n d word (w ∷ ts) ≡ parse.declared leaves F n d w.place (Some word) ts
  unfolding parse.scoped take_if
  step_scoped word w ts = refl

  step_unscoped : (ts : List Token) → parse.unscoped leaves F n d ts ≡ parse.declared leaves F n d (start ts) None ts
  unfolding parse.unscoped
  step_unscoped ts = refl

  -- what begins with a scope and a base type goes on as a declaration
  scope_c : {types : List ℕ} {takes : Bool} {s u : List Token} {scope : Option Scope} {x : TypeTree} {h : ℕ} → IsScope leaves d.types s scope → IsBase leaves types true takes u x h → (r : List Token) → One (s ++ (u ++ r)) ≡ parse.declared leaves F n d (start (s ++ u)) scope (u ++ r)
  scope_c {u = u} items.none a r = base_item a r ∙ step_unscoped (u ++ r) ∙ ap (λ p. parse.declared leaves F n d p None (u ++ r)) (start_behind [] u r (base_long leaves _ a))
  scope_c {u = u} (items.some w {word = word} wc) a r = by_kind w (u ++ r) w.kind refl ∙ scope_is w.kind word wc (w ∷ (u ++ r)) ∙ step_scoped word w (u ++ r)

  -- ---- items

  abbrev ReadAs : Item → Declared → ℕ → List Token → Outcome ReadItem
  ReadAs x after h r = Ok (record { item = x; after = after; height = h }, r)

  pub item_c : {u : List Token} {x : Item} {after : Declared} {h : ℕ} → IsItem leaves d u x after h → h ≤ n + 1 → (r : List Token) → length (u ++ r) < F → NoSemicolon r → One (u ++ r) ≡ ReadAs x after h r
  item_c (items.typedef w q {u = u} {v = v} wc a l qc) low r short f =
      let cut : ((u ++ v) ++ q ∷ []) ++ r ≡ u ++ (v ++ (q ∷ r)) = append_assoc (u ++ v) (q ∷ []) r ∙ append_assoc u v (q ∷ r) in
      ap (λ m. One (w ∷ m)) cut ∙ by_kind w (u ++ (v ++ (q ∷ r))) k.Typedef wc ∙ typedef_c w q a l qc (omega (arith, low)) (omega (arith, low)) r (omega (arith, short, ap length cut))
  item_c (items.function_type w t o c q {u = u} {v = v} {r = z} wc a st tc oc l ec qc) low r short f =
      let cut : ((u ++ v) ++ t ∷ o ∷ (z ++ c ∷ q ∷ [])) ++ r ≡ u ++ (v ++ (t ∷ o ∷ (z ++ (c ∷ q ∷ r)))) = append_assoc (u ++ v) (t ∷ o ∷ (z ++ c ∷ q ∷ [])) r ∙ append_assoc u v (t ∷ o ∷ ((z ++ c ∷ q ∷ []) ++ r)) ∙ ap (λ m. u ++ (v ++ (t ∷ o ∷ m))) (append_assoc z (c ∷ q ∷ []) r) in
      ap (λ m. One (w ∷ m)) cut ∙ by_kind w (u ++ (v ++ (t ∷ o ∷ (z ++ (c ∷ q ∷ r))))) k.Typedef wc ∙ function_type_c w t o c q a st tc oc l ec qc (omega (arith, low)) (omega (arith, low)) r (omega (arith, short, ap length cut))
  item_c (items.forward w t q {kind = x} wc tc qc) low r short f = by_kind w (t ∷ q ∷ r) w.kind refl ∙ aggregate_is w.kind x wc (w ∷ t ∷ q ∷ r) ∙ step_forward x w t q r tc qc
  item_c (items.plain_members w t o c {u = u} {q = q} {kind = x} {xs = xs} {h = h} wc tc oc l ec s) low r short f =
      let cut : (u ++ c ∷ q) ++ r ≡ u ++ (c ∷ (q ++ r)) = append_assoc u (c ∷ q) r in
      let body : List Token = u ++ (c ∷ (q ++ r)) in
      ap (λ m. One (w ∷ t ∷ o ∷ m)) cut ∙ by_kind w (t ∷ o ∷ body) w.kind refl ∙ plain_is w.kind x wc (w ∷ t ∷ o ∷ body) ∙ to_body x w t o body tc (brace_no_semicolon o oc) ∙ plain_body w.kind x wc w.place t (o ∷ body)
      ∙ step_plain x w.place t (o ∷ body) (q ++ r) r (xs, h) (members_within_c leaves (with_name d.types t.name) F l n (omega (arith, low)) o c (q ++ r) (omega (arith, short, ap length cut)) oc ec) (semicolon_c s r f)
  item_c (items.adt w t o c {u = u} {q = q} {xs = xs} {h = h} wc tc oc l ec s) low r short f =
      let cut : (u ++ c ∷ q) ++ r ≡ u ++ (c ∷ (q ++ r)) = append_assoc u (c ∷ q) r in
      let body : List Token = u ++ (c ∷ (q ++ r)) in
      ap (λ m. One (w ∷ t ∷ o ∷ m)) cut ∙ by_kind w (t ∷ o ∷ body) k.Adt wc ∙ to_body ag.Adt w t o body tc (brace_no_semicolon o oc)
      ∙ step_adt w.place t o body (q ++ r) r (xs, h) (brace_no_bracket o body oc) (adt_body_c leaves (with_name d.types t.name) F l n (omega (arith, low)) o c (q ++ r) (omega (arith, short, ap length cut)) oc ec) (semicolon_c s r f)
  item_c (items.parametrised w t p q o c {p = v} {u = u} {q = z} {ns = ns} {xs = xs} {h = h} wc tc pc ns_are qc oc l ec s) low r short f =
      let types : List ℕ = with_name d.types t.name in
      let body : List Token = o ∷ (u ++ (c ∷ (z ++ r))) in
      let cut : (v ++ q ∷ o ∷ (u ++ c ∷ z)) ++ r ≡ v ++ (q ∷ body) = append_assoc v (q ∷ o ∷ (u ++ c ∷ z)) r ∙ ap (λ m. v ++ q ∷ o ∷ m) (append_assoc u (c ∷ z) r) in
      let s1 : length (v ++ (q ∷ body)) < F = omega (arith, short, ap length cut) in
      let high : 0 < h = adt_members_high leaves (with_names types (map number_of ns)) l in
      ap (λ m. One (w ∷ t ∷ p ∷ m)) cut ∙ by_kind w (t ∷ p ∷ (v ++ (q ∷ body))) k.Adt wc ∙ to_body ag.Adt w t p (v ++ (q ∷ body)) tc (bracket_no_semicolon p pc) ∙ to_parametrised w.place t p (v ++ (q ∷ body)) pc
      ∙ step_parametrised w.place t p (v ++ (q ∷ body)) body (z ++ r) r ns (xs, h) (nat_lt_is 0 n (omega (arith, high, low)))
      (step_new_names types q (v ++ (q ∷ body)) body ns (whole_new_names leaves types F ns_are (q ∷ body) s1 (bracket_no_comma q body qc)) qc)
      (adt_body_c leaves (with_names types (map number_of ns)) F l n (omega (arith, low)) o c (z ++ r) (let s2 = tail_short v q body F s1 in omega (arith, s2)) oc ec) (semicolon_c s r f)
  item_c (items.enum w {u = u} {q = q} {xs = xs} {h = h} wc l s) low r short f =
      let cut : (u ++ q) ++ r ≡ u ++ (q ++ r) = append_assoc u q r in
      ap (λ m. One (w ∷ m)) cut ∙ by_kind w (u ++ (q ++ r)) k.Enum wc
      ∙ step_enum w (u ++ (q ++ r)) (q ++ r) r (xs, h) (enum_begins l (q ++ r)) (enum_body_c leaves d.types F l n (omega (arith, low)) (q ++ r) (omega (arith, short, ap length cut))) (semicolon_c s r f)
  item_c (items.named_enum w t {u = u} {q = q} {xs = xs} {h = h} wc (is_other tc tf) l s) low r short f =
      let cut : (u ++ q) ++ r ≡ u ++ (q ++ r) = append_assoc u q r in
      ap (λ m. One (w ∷ t ∷ m)) cut ∙ by_kind w (t ∷ (u ++ (q ++ r))) k.Enum wc
      ∙ step_named_enum w t (u ++ (q ++ r)) (q ++ r) r (xs, h) (sees_name t (u ++ (q ++ r)) tc tf) (enum_body_c leaves (with_name d.types t.name) F l n (omega (arith, low)) (q ++ r) (omega (arith, short, ap length cut))) (semicolon_c s r f)
  item_c (items.declare q {s = s} {u = u} {v = v} {scope = scope} {x = x} {ys = ys} {h = h} {i = i} w a l qc) low r short f =
      let cut : (((s ++ u) ++ v) ++ q ∷ []) ++ r ≡ s ++ (u ++ (v ++ (q ∷ r))) = append_assoc ((s ++ u) ++ v) (q ∷ []) r ∙ append_assoc (s ++ u) v (q ∷ r) ∙ append_assoc s u (v ++ (q ∷ r)) in
      let s1 : length (s ++ (u ++ (v ++ (q ∷ r)))) < F = omega (arith, short, ap length cut) in
      ap One cut ∙ scope_c w a (v ++ (q ∷ r)) ∙ declare_c (start (s ++ u)) scope q a l qc (omega (arith, low)) (omega (arith, low)) r (rest_short s (u ++ (v ++ (q ∷ r))) F s1)
  item_c (items.function {s = s} {u = u} {v = v} {b = c} {scope = scope} w a l m) low r short f =
      let cut : (((s ++ u) ++ v) ++ c) ++ r ≡ s ++ (u ++ (v ++ (c ++ r))) = append_assoc ((s ++ u) ++ v) c r ∙ append_assoc (s ++ u) v (c ++ r) ∙ append_assoc s u (v ++ (c ++ r)) in
      let s1 : length (s ++ (u ++ (v ++ (c ++ r)))) < F = omega (arith, short, ap length cut) in
      ap One cut ∙ scope_c w a (v ++ (c ++ r)) ∙ function_c (start (s ++ u)) scope a l m (omega (arith, low)) (omega (arith, low)) (omega (arith, low)) r (rest_short s (u ++ (v ++ (c ++ r))) F s1)

  -- ---- how items begin

  scope_begins : {types : List ℕ} {takes : Bool} {s u : List Token} {scope : Option Scope} {x : TypeTree} {h : ℕ} → IsScope leaves d.types s scope → IsBase leaves types true takes u x h → (r : List Token) → NoSemicolon (s ++ (u ++ r))
  scope_begins items.none a r = base_begins a r
  scope_begins {u = u} (items.some w {word = word} wc) a r = word_no_semicolon w (u ++ r) w.kind refl (scope_no_semicolon w.kind word wc)

  pub item_begins : {u : List Token} {x : Item} {after : Declared} {h : ℕ} → IsItem leaves d u x after h → (r : List Token) → NoSemicolon (u ++ r)
  unfolding same_kind
  item_begins (items.typedef w q wc a l qc) r = word_no_semicolon w _ k.Typedef wc refl
  item_begins (items.function_type w t o c q wc a st tc oc l ec qc) r = word_no_semicolon w _ k.Typedef wc refl
  item_begins (items.forward w t q {kind = x} wc tc qc) r = word_no_semicolon w _ w.kind refl (aggregate_no_semicolon w.kind x wc)
  item_begins (items.plain_members w t o c {kind = x} wc tc oc l ec s) r = word_no_semicolon w _ w.kind refl (plain_no_semicolon w.kind x wc)
  item_begins (items.adt w t o c wc tc oc l ec s) r = word_no_semicolon w _ k.Adt wc refl
  item_begins (items.parametrised w t p q o c wc tc pc ns qc oc l ec s) r = word_no_semicolon w _ k.Adt wc refl
  item_begins (items.enum w wc l s) r = word_no_semicolon w _ k.Enum wc refl
  item_begins (items.named_enum w t wc tc l s) r = word_no_semicolon w _ k.Enum wc refl
  item_begins (items.declare q {s = s} {u = u} {v = v} w a l qc) r = subst NoSemicolon (sym (append_assoc ((s ++ u) ++ v) (q ∷ []) r ∙ append_assoc (s ++ u) v (q ∷ r) ∙ append_assoc s u (v ++ (q ∷ r)))) (scope_begins w a (v ++ (q ∷ r)))
  item_begins (items.function {s = s} {u = u} {v = v} {b = c} w a l m) r = subst NoSemicolon (sym (append_assoc ((s ++ u) ++ v) c r ∙ append_assoc (s ++ u) v (c ++ r) ∙ append_assoc s u (v ++ (c ++ r)))) (scope_begins w a (v ++ (c ++ r)))

  scope_long : {types : List ℕ} {takes : Bool} {u : List Token} {x : TypeTree} {h : ℕ} (s v : List Token) → IsBase leaves types true takes u x h → 0 < length ((s ++ u) ++ v)
  scope_long {types} {u = u} s v a = let long : 0 < length u = base_long leaves types a in omega (arith, long, length-append (s ++ u) v, length-append s u)

  pub item_long : {u : List Token} {x : Item} {after : Declared} {h : ℕ} → IsItem leaves d u x after h → 0 < length u
  item_long (items.typedef w q wc a l qc) = omega arith
  item_long (items.function_type w t o c q wc a st tc oc l ec qc) = omega arith
  item_long (items.forward w t q wc tc qc) = omega arith
  item_long (items.plain_members w t o c wc tc oc l ec s) = omega arith
  item_long (items.adt w t o c wc tc oc l ec s) = omega arith
  item_long (items.parametrised w t p q o c wc tc pc ns qc oc l ec s) = omega arith
  item_long (items.enum w wc l s) = omega arith
  item_long (items.named_enum w t wc tc l s) = omega arith
  item_long (items.declare q {s = s} {u = u} {v = v} w a l qc) = let long = scope_long s v a in omega (arith, long, length-append ((s ++ u) ++ v) (q ∷ []))
  item_long (items.function {s = s} {u = u} {v = v} {b = c} w a l m) = let long = scope_long s v a in omega (arith, long, length-append ((s ++ u) ++ v) c)

-- ---- texts

not_end : (l : List Token) → 0 < length l → parse.at_end l ≡ false
not_end [] long = absurd (omega arith)
not_end (t ∷ ts) long = refl

module _ (leaves : Leaves) (F n : ℕ) where
  step_items : (m : ℕ) (d : Declared) (ts r : List Token) (xs : List Item) (h : ℕ) (x : ReadItem) → parse.at_end ts ≡ false → parse.one_item leaves F n d ts ≡ Ok (x, r) → parse.items_from leaves F n (suc m) d xs h ts ≡ parse.items_from leaves F n m x.after (xs ++ x.item ∷ []) (max h x.height) r
  unfolding parse.items_from
  step_items m d ts r xs h x f e = rw (f, e) refl

  end_items : (m : ℕ) (d : Declared) (xs : List Item) (h : ℕ) → parse.items_from leaves F n (suc m) d xs h [] ≡ Ok ((xs, h), [])
  unfolding parse.items_from
  end_items m d xs h = refl

  record ItemsAre (u : List Token) (xs : List Item) (d : Declared) (h : ℕ) (r : List Token) : Type 0 where
    left : ℕ
    enough : length r < left
    loop : parse.items_from leaves F n F nothing_declared [] 0 (u ++ r) ≡ parse.items_from leaves F n left d xs h r

  items_c : {u : List Token} {xs : List Item} {d : Declared} {h : ℕ} → IsItems leaves u xs d h → h ≤ n + 1 → (r : List Token) → length (u ++ r) < F → NoSemicolon r → ItemsAre u xs d h r
  items_c items.none low r short f = record { left = F; enough = short; loop = refl }
  items_c (items.more {d = d} {after = after} {u = u} {v = v} {xs = xs} {x = x} {h = h} {i = i} l a) low r short f =
      let cut = append_assoc u v r in
      let s1 : length (u ++ (v ++ r)) < F = omega (arith, short, ap length cut) in
      let q = items_c l (omega (arith, low)) (v ++ r) s1 (item_begins leaves F n d a r) in
      let long : 0 < length v = item_long leaves F n d a in
      record {
        left = pred q.left;
        enough = less_pred (length r) q.left (omega (arith, q.enough, long, length-append v r));
        loop = ap (parse.items_from leaves F n F nothing_declared [] 0) cut ∙ q.loop
            ∙ ap (λ m. parse.items_from leaves F n m d xs h (v ++ r)) (some_pred q.left (length (v ++ r)) q.enough)
            ∙ step_items (pred q.left) d (v ++ r) r xs h (record { item = x; after = after; height = i }) (not_end (v ++ r) (omega (arith, long, length-append v r))) (item_c leaves F n d a (omega (arith, low)) r (rest_short u (v ++ r) F s1) f);
      }

  nil_no_semicolon : NoSemicolon []
  unfolding kind same_kind
  nil_no_semicolon = refl

  pub text_c : {u : List Token} {xs : List Item} {d : Declared} {h : ℕ} → IsItems leaves u xs d h → h ≤ n + 1 → length u < F → parse.text_items leaves F n u ≡ Ok ((xs, h), [])
  unfolding parse.text_items
  text_c {u} {xs} {d} {h} l low short =
      let q = items_c l low [] (omega (arith, short, ap length (append-nil u))) nil_no_semicolon in
      let some : 0 < q.left = omega (arith, q.enough) in
      ap (parse.items_from leaves F n F nothing_declared [] 0) (sym (append-nil u)) ∙ q.loop
      ∙ ap (λ m. parse.items_from leaves F n m d xs h []) (some_pred q.left 0 some) ∙ end_items (pred q.left) d xs h
