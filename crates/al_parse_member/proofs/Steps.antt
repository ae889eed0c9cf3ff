-- One step of the parsers of parameters, constants, initializers and members each, where the parts are read.
use Rattle.std.proofs.Common.{◌≡◌, ℕ, suc, pred, ◌+◌, max, nat_lt, Bool, true, false, ◌&&◌, List, [], ◌∷◌, ◌++◌, Option, Some, None, Ok, refl, ap, ◌∙◌}
use Rattle.al_base.specs.declared.place.Place.{Place}
use Rattle.al_lex.specs.declared.kind.TokenKind.TheVariants as k
use Rattle.al_lex.specs.declared.token.Token.{Token}
use Rattle.al_tree.specs.Words.{start, member_scope, plain_aggregate}
use Rattle.al_tree.specs.Types.{Leaves, known, name_at}
use Rattle.al_tree.specs.Items.{still_takes_bracket}
use Rattle.al_tree.specs.Reading.{Parser, and_then, kind, name_number, same_kind, take_if, expect_if}
use Rattle.al_tree.specs.declared.type_tree.BasicType.TheVariants as basic
use Rattle.al_tree.specs.declared.type_tree.Bound.{Bound}
use Rattle.al_tree.specs.declared.type_tree.TypeTree.{TypeTree}
use Rattle.al_tree.specs.declared.type_tree.TypeTree.TheVariants as ty
use Rattle.al_tree.specs.declared.type_tree.Dcl.{Dcl}
use Rattle.al_tree.specs.declared.item.Scope.{Scope}
use Rattle.al_tree.specs.declared.item.AggregateKind.{AggregateKind}
use Rattle.al_tree.specs.declared.item.Parameter.{Parameter}
use Rattle.al_tree.specs.declared.item.Parameter.TheVariants as par
use Rattle.al_tree.specs.declared.item.Constant.{Constant}
use Rattle.al_tree.specs.declared.item.Initializer.{Initializer}
use Rattle.al_tree.specs.declared.item.Initializer.TheVariants as ini
use Rattle.al_tree.specs.declared.item.Member.{Member}
use Rattle.al_tree.specs.declared.item.Member.TheVariants as mem
use Rattle.al_tree.specs.declared.item.AdtPart.TheVariants as apart
use Rattle.al_tree.specs.declared.item.AdtMember.{AdtMember}
use Rattle.al_parse_type.specs.declared.part.Part.TheVariants as part
use Rattle.al_parse_type.specs.declared.part.ReadBase.{ReadBase}
use Rattle.al_parse_type.specs.Parse.{sees_type_name, sees_other_name, begins_part, part_wanted, below, other_name, bound, bounds_from, stars_from, sized_base, dcl}
use Rattle.al_parse_type.specs.Within.{base_within, inside_within, arguments_within}
use Rattle.al_parse_expr.specs.Parse.{Sized}
use Rattle.al_parse_expr.specs.Within.{assignment_within}
use Rattle.al_parse_member.specs.Parameters as params
use Rattle.al_parse_member.specs.Parameters.{OpenBounds, SizedParameter, Parameters, some_name, parameter_list}
use Rattle.al_parse_member.specs.Members as parse
use Rattle.al_parse_member.specs.Members.{SizedDcl, SizedMember, Members, SizedPart, SizedAdtMember, AdtMembers, Constants, SizedInitializer}

module _ (leaves : Leaves) (types : List ℕ) (F n : ℕ) where
  -- ---- what stands in brackets behind a type's name

  pub inside_part : (ts : List Token) → begins_part types true ts ≡ true → nat_lt 0 n ≡ true → inside_within leaves types F n ts ≡ below leaves types F n (part_wanted true) ts
  unfolding inside_within
  inside_part ts g room = rw (g, room) refl

  pub inside_bound : (ts r : List Token) (x : Bound) (h : ℕ) → begins_part types true ts ≡ false → bound leaves types F n ts ≡ Ok ((x, h), r) → inside_within leaves types F n ts ≡ Ok ((part.Bound x, h), r)
  unfolding inside_within
  inside_bound ts r x h g e = rw (g, e) refl

  -- ---- bounds of which some may be missing

  pub step_missing : (m : ℕ) (o c : Token) (r : List Token) (xs : List (Option Bound)) (h : ℕ) → o.kind ≡ k.LeftBracket → c.kind ≡ k.RightBracket
      → params.open_bounds_from leaves types F n (suc m) xs h (o ∷ c ∷ r) ≡ params.open_bounds_from leaves types F n m (xs ++ None ∷ []) h r
  unfolding params.open_bounds_from kind same_kind take_if
  step_missing m o c r xs h oc ec = rw (oc, ec) refl

  pub step_open : (m : ℕ) (o c : Token) (ts r : List Token) (xs : List (Option Bound)) (h : ℕ) (x : Bound) (i : ℕ) → o.kind ≡ k.LeftBracket → same_kind (kind ts) k.RightBracket ≡ false → bound leaves types F n ts ≡ Ok ((x, i), c ∷ r) → c.kind ≡ k.RightBracket
      → params.open_bounds_from leaves types F n (suc m) xs h (o ∷ ts) ≡ params.open_bounds_from leaves types F n m (xs ++ Some x ∷ []) (max h i) r
  unfolding params.open_bounds_from params.closed_bound kind same_kind take_if expect_if
  step_open m o c ts r xs h x i oc f e ec = rw (oc, f, e, ec) refl

  pub end_open : (m : ℕ) (r : List Token) (xs : List (Option Bound)) (h : ℕ) → same_kind (kind r) k.LeftBracket ≡ false → params.open_bounds_from leaves types F n (suc m) xs h r ≡ Ok ((xs, h), r)
  unfolding params.open_bounds_from
  end_open m r xs h f = rw f refl

  -- ---- parameters

  pub step_named : (at : Place) (b : ReadBase) (t : Token) (ts r1 r : List Token) (s : ℕ) (bs : OpenBounds) → stars_from F 0 ts ≡ Ok (s, t ∷ r1) → t.kind ≡ k.Name → known types t.name ≡ false → params.open_bounds_from leaves types F n F [] 0 r1 ≡ Ok (bs, r)
      → params.parameter_after leaves types F n at b ts ≡ Ok ((par.Plain at b.tree s (Some (name_at t)) bs.0, max b.height bs.1), r)
  unfolding params.parameter_after params.named_parameter sees_other_name kind name_number same_kind take_if
  step_named at b t ts r1 r s bs e c f q = rw (e, c, f, q) refl

  pub step_bare : (at : Place) (b : ReadBase) (ts r : List Token) (s : ℕ) → stars_from F 0 ts ≡ Ok (s, r) → sees_other_name types r ≡ false → still_takes_bracket b.takes_bracket s ≡ true
      → params.parameter_after leaves types F n at b ts ≡ Ok ((par.Plain at b.tree s None [], b.height), r)
  unfolding params.parameter_after
  step_bare at b ts r s e f g = rw (e, f, g) refl

  pub step_unnamed : (at : Place) (b : ReadBase) (ts r1 r : List Token) (s : ℕ) (bs : OpenBounds) → stars_from F 0 ts ≡ Ok (s, r1) → sees_other_name types r1 ≡ false → still_takes_bracket b.takes_bracket s ≡ false → params.open_bounds_from leaves types F n F [] 0 r1 ≡ Ok (bs, r)
      → params.parameter_after leaves types F n at b ts ≡ Ok ((par.Plain at b.tree s None bs.0, max b.height bs.1), r)
  unfolding params.parameter_after params.unnamed_parameter
  step_unnamed at b ts r1 r s bs e f g q = rw (e, f, g, q) refl

  pub step_name : (t : Token) (ts : List Token) → sees_type_name types (t ∷ ts) ≡ true → same_kind (kind ts) k.LeftBracket ≡ false
      → params.parameter leaves types F n (t ∷ ts) ≡ params.parameter_after leaves types F n t.place (sized_base (ty.Named t.place t.name []) 0) ts
  unfolding params.parameter params.name_parameter take_if
  step_name t ts e f = rw (e, f) refl

  pub step_bracket : (t o : Token) (ts : List Token) → sees_type_name types (t ∷ o ∷ ts) ≡ true → o.kind ≡ k.LeftBracket → params.parameter leaves types F n (t ∷ o ∷ ts) ≡ params.bracket leaves types F n t ts
  unfolding params.parameter params.name_parameter kind same_kind take_if
  step_bracket t o ts e oc = rw (e, oc) refl

  pub step_no_bound : (t c : Token) (ts : List Token) → c.kind ≡ k.RightBracket → params.bracket leaves types F n t (c ∷ ts) ≡ params.array_of leaves types F n t None 0 ts
  unfolding params.bracket kind same_kind take_if
  step_no_bound t c ts ec = rw ec refl

  pub step_arguments : (t : Token) (ts r1 r : List Token) (x : TypeTree) (h : ℕ) (b : ReadBase) → same_kind (kind ts) k.RightBracket ≡ false → inside_within leaves types F n ts ≡ Ok ((part.Type x, h), r1) → arguments_within leaves types F n t (x, h) r1 ≡ Ok (b, r)
      → params.bracket leaves types F n t ts ≡ params.parameter_after leaves types F n t.place b r
  unfolding params.bracket
  step_arguments t ts r1 r x h b f e q = rw f (ap (λ o. and_then o (params.bracketed leaves types F n t)) e ∙ ap (λ o. and_then o (params.parameter_after leaves types F n t.place)) q)

  pub step_bound : (t c : Token) (ts r : List Token) (x : Bound) (h : ℕ) → same_kind (kind ts) k.RightBracket ≡ false → inside_within leaves types F n ts ≡ Ok ((part.Bound x, h), c ∷ r) → c.kind ≡ k.RightBracket
      → params.bracket leaves types F n t ts ≡ params.array_of leaves types F n t (Some x) h r
  unfolding params.bracket kind same_kind take_if expect_if
  step_bound t c ts r x h f e ec = rw (f, e, ec) refl

  pub step_array : (t : Token) (ts r : List Token) (first : Option Bound) (h : ℕ) (bs : OpenBounds) → params.open_bounds_from leaves types F n F (first ∷ []) h ts ≡ Ok (bs, r)
      → params.array_of leaves types F n t first h ts ≡ Ok ((par.Plain t.place (ty.Named t.place t.name []) 0 None bs.0, bs.1), r)
  unfolding params.array_of
  step_array t ts r first h bs e = rw e refl

  pub step_own_pointer : (w t : Token) (r : List Token) → sees_type_name types (w ∷ t ∷ r) ≡ false → w.kind ≡ k.Star → some_name types ≡ true → sees_type_name types (t ∷ r) ≡ true
      → params.parameter leaves types F n (w ∷ t ∷ r) ≡ Ok ((par.OwnPointer w.place t.name, 0), r)
  unfolding params.parameter params.own_pointer params.type_name kind same_kind take_if
  step_own_pointer w t r a c names e = rw (a, c, names, e) refl

  pub step_own_value : (w t : Token) (r : List Token) → sees_type_name types (w ∷ t ∷ r) ≡ false → w.kind ≡ k.Dot → some_name types ≡ true → sees_type_name types (t ∷ r) ≡ true
      → params.parameter leaves types F n (w ∷ t ∷ r) ≡ Ok ((par.OwnValue w.place t.name, 0), r)
  unfolding params.parameter params.own_value params.type_name kind same_kind take_if
  step_own_value w t r a c names e = rw (a, c, names, e) refl

  pub step_based : (ts r1 : List Token) (b : ReadBase) → sees_type_name types ts ≡ false → same_kind (kind ts) k.Star ≡ false → same_kind (kind ts) k.Dot ≡ false → base_within leaves types F n ts ≡ Ok (b, r1)
      → params.parameter leaves types F n ts ≡ params.parameter_after leaves types F n (start ts) b r1
  unfolding params.parameter params.based_parameter
  step_based ts r1 b a s d e = rw (a, s, d, e) refl

  pub step_parameters : (m : ℕ) (t : Token) (ts r : List Token) (xs : List Parameter) (h : ℕ) (x : SizedParameter) → t.kind ≡ k.Comma → params.parameter leaves types F n ts ≡ Ok (x, r)
      → params.parameters_from leaves types F n (suc m) xs h (t ∷ ts) ≡ params.parameters_from leaves types F n m (xs ++ x.0 ∷ []) (max h x.1) r
  unfolding params.parameters_from kind same_kind take_if
  step_parameters m t ts r xs h x tc e = rw (tc, e) refl

  pub end_parameters : (m : ℕ) (r : List Token) (xs : List Parameter) (h : ℕ) → same_kind (kind r) k.Comma ≡ false → params.parameters_from leaves types F n (suc m) xs h r ≡ Ok ((xs, h), r)
  unfolding params.parameters_from
  end_parameters m r xs h f = rw f refl

  pub step_behind : (c : Token) (ts r : List Token) (x : SizedParameter) (xs : Parameters) → params.parameters_from leaves types F n F (x.0 ∷ []) x.1 ts ≡ Ok (xs, c ∷ r) → c.kind ≡ k.RightParen
      → params.parameters_behind leaves types F n x ts ≡ Ok (xs, r)
  unfolding params.parameters_behind kind same_kind take_if expect_if
  step_behind c ts r x xs e ec = rw (e, ec) refl

  pub step_no_parameter : (c : Token) (r : List Token) → c.kind ≡ k.RightParen → parameter_list leaves types F n (c ∷ r) ≡ Ok (([], 0), r)
  unfolding parameter_list kind same_kind take_if
  step_no_parameter c r ec = rw ec refl

  pub step_void_alone : (w c : Token) (r : List Token) → w.kind ≡ k.Void → c.kind ≡ k.RightParen → parameter_list leaves types F n (w ∷ c ∷ r) ≡ Ok (([], 0), r)
  unfolding parameter_list params.void_first kind same_kind take_if
  step_void_alone w c r wc ec = rw (wc, ec) refl

  pub step_void_first : (w : Token) (ts r1 r : List Token) (x : SizedParameter) (xs : Parameters) → w.kind ≡ k.Void → same_kind (kind ts) k.RightParen ≡ false
      → params.parameter_after leaves types F n w.place (sized_base (ty.Basic w.place basic.Void) 0) ts ≡ Ok (x, r1) → params.parameters_behind leaves types F n x r1 ≡ Ok (xs, r)
      → parameter_list leaves types F n (w ∷ ts) ≡ Ok (xs, r)
  unfolding parameter_list params.void_first kind same_kind take_if
  step_void_first w ts r1 r x xs wc f e q = rw (wc, f, e, q) refl

  pub step_list : (ts r1 r : List Token) (x : SizedParameter) (xs : Parameters) → same_kind (kind ts) k.RightParen ≡ false → same_kind (kind ts) k.Void ≡ false → params.parameter leaves types F n ts ≡ Ok (x, r1) → params.parameters_behind leaves types F n x r1 ≡ Ok (xs, r)
      → parameter_list leaves types F n ts ≡ Ok (xs, r)
  unfolding parameter_list
  step_list ts r1 r x xs f g e q = rw (f, g, e, q) refl

  -- ---- declarators of members

  pub step_dcls : (m : ℕ) (t : Token) (ts r : List Token) (xs : List Dcl) (h : ℕ) (x : SizedDcl) → t.kind ≡ k.Comma → dcl leaves types F n ts ≡ Ok (x, r)
      → parse.dcls_from leaves types F n (suc m) xs h (t ∷ ts) ≡ parse.dcls_from leaves types F n m (xs ++ x.0 ∷ []) (max h x.1) r
  unfolding parse.dcls_from kind same_kind take_if
  step_dcls m t ts r xs h x tc e = rw (tc, e) refl

  pub end_dcls : (m : ℕ) (r : List Token) (xs : List Dcl) (h : ℕ) → same_kind (kind r) k.Comma ≡ false → parse.dcls_from leaves types F n (suc m) xs h r ≡ Ok ((xs, h), r)
  unfolding parse.dcls_from
  end_dcls m r xs h f = rw f refl

  pub step_fields : (at : Place) (b : ReadBase) (x : SizedDcl) (t : Token) (ts r : List Token) (ys : List Dcl) (i : ℕ) → parse.dcls_from leaves types F n F (x.0 ∷ []) x.1 ts ≡ Ok ((ys, i), t ∷ r) → t.kind ≡ k.Semicolon
      → parse.fields_after leaves types F n at b x ts ≡ Ok ((mem.Fields at b.tree ys, max b.height i + 1), r)
  unfolding parse.fields_after kind same_kind take_if expect_if
  step_fields at b x t ts r ys i e tc = rw (e, tc) refl

  -- ---- constants

  pub step_constant : (t : Token) (r : List Token) → t.kind ≡ k.Name → known types t.name ≡ false → same_kind (kind r) k.Equal ≡ false → parse.constant leaves types F n (t ∷ r) ≡ Ok ((record { name = name_at t; value = None }, 0), r)
  unfolding parse.constant other_name sees_other_name kind name_number same_kind take_if
  step_constant t r c f g = rw (c, f, g) refl

  pub step_set : (t e : Token) (ts r : List Token) (x : Sized) → t.kind ≡ k.Name → known types t.name ≡ false → e.kind ≡ k.Equal → nat_lt 0 n ≡ true → assignment_within leaves types F n ts ≡ Ok (x, r)
      → parse.constant leaves types F n (t ∷ e ∷ ts) ≡ Ok ((record { name = name_at t; value = Some x.0 }, x.1), r)
  unfolding parse.constant other_name sees_other_name kind name_number same_kind take_if
  step_set t e ts r x c f ec room q = rw (c, f, ec, room, q) refl

  pub step_constants : (m : ℕ) (ts r : List Token) (xs : List Constant) (h : ℕ) (x : Constant × ℕ) → parse.constant leaves types F n ts ≡ Ok (x, r)
      → parse.constants_from leaves types F n (suc m) xs h ts ≡ parse.constant_behind leaves types F n (parse.constants_from leaves types F n m) (xs ++ x.0 ∷ []) (max h x.1) r
  unfolding parse.constants_from
  step_constants m ts r xs h x e = rw e refl

  pub constant_goes_on : (go : List Constant → ℕ → Parser Constants) (t : Token) (ts : List Token) (xs : List Constant) (h : ℕ) → t.kind ≡ k.Comma → same_kind (kind ts) k.RightBrace ≡ false → parse.constant_behind leaves types F n go xs h (t ∷ ts) ≡ go xs h ts
  unfolding kind same_kind take_if
  constant_goes_on go t ts xs h tc f = rw (tc, f) refl

  pub constants_end : (go : List Constant → ℕ → Parser Constants) (c : Token) (r : List Token) (xs : List Constant) (h : ℕ) → c.kind ≡ k.RightBrace → parse.constant_behind leaves types F n go xs h (c ∷ r) ≡ Ok ((xs, h), r)
  unfolding kind same_kind take_if expect_if
  constants_end go c r xs h ec = rw ec refl

  pub constants_end_comma : (go : List Constant → ℕ → Parser Constants) (t c : Token) (r : List Token) (xs : List Constant) (h : ℕ) → t.kind ≡ k.Comma → c.kind ≡ k.RightBrace → parse.constant_behind leaves types F n go xs h (t ∷ c ∷ r) ≡ Ok ((xs, h), r)
  unfolding kind same_kind take_if expect_if
  constants_end_comma go t c r xs h tc ec = rw (tc, ec) refl

  pub step_enum : (o : Token) (ts : List Token) → o.kind ≡ k.LeftBrace → parse.enum_body leaves types F n (o ∷ ts) ≡ parse.constants_from leaves types F n F [] 0 ts
  unfolding parse.enum_body kind same_kind take_if expect_if
  step_enum o ts oc = rw oc refl

-- ---- initializers

module _ (leaves : Leaves) (types : List ℕ) (F n : ℕ) (sub : Parser SizedInitializer) where
  pub step_parts : (m : ℕ) (ts r : List Token) (xs : List Initializer) (h : ℕ) (x : SizedInitializer) → sub ts ≡ Ok (x, r)
      → parse.parts_from leaves types F n sub (suc m) xs h ts ≡ parse.part_behind leaves types F n sub (parse.parts_from leaves types F n sub m) (xs ++ x.0 ∷ []) (max h x.1) r
  unfolding parse.parts_from
  step_parts m ts r xs h x e = rw e refl

  pub part_goes_on : (go : List Initializer → ℕ → Parser (List Initializer × ℕ)) (t : Token) (ts : List Token) (xs : List Initializer) (h : ℕ) → t.kind ≡ k.Comma → same_kind (kind ts) k.RightBrace ≡ false → parse.part_behind leaves types F n sub go xs h (t ∷ ts) ≡ go xs h ts
  unfolding kind same_kind take_if
  part_goes_on go t ts xs h tc f = rw (tc, f) refl

  pub parts_end : (go : List Initializer → ℕ → Parser (List Initializer × ℕ)) (c : Token) (r : List Token) (xs : List Initializer) (h : ℕ) → c.kind ≡ k.RightBrace → parse.part_behind leaves types F n sub go xs h (c ∷ r) ≡ Ok ((xs, h), r)
  unfolding kind same_kind take_if expect_if
  parts_end go c r xs h ec = rw ec refl

  pub parts_end_comma : (go : List Initializer → ℕ → Parser (List Initializer × ℕ)) (t c : Token) (r : List Token) (xs : List Initializer) (h : ℕ) → t.kind ≡ k.Comma → c.kind ≡ k.RightBrace → parse.part_behind leaves types F n sub go xs h (t ∷ c ∷ r) ≡ Ok ((xs, h), r)
  unfolding kind same_kind take_if expect_if
  parts_end_comma go t c r xs h tc ec = rw (tc, ec) refl

  pub step_braces : (o : Token) (ts r : List Token) (xs : List Initializer × ℕ) → o.kind ≡ k.LeftBrace → nat_lt 1 n ≡ true → parse.parts_from leaves types F n sub F [] 0 ts ≡ Ok (xs, r) → parse.initializer_at leaves types F n sub (o ∷ ts) ≡ Ok ((ini.Braces o.place xs.0, xs.1 + 1), r)
  unfolding parse.initializer_at parse.braces kind same_kind take_if
  step_braces o ts r xs oc room e = rw (oc, room, e) refl

  pub step_value : (ts r : List Token) (x : Sized) → same_kind (kind ts) k.LeftBrace ≡ false → assignment_within leaves types F n ts ≡ Ok (x, r) → parse.initializer_at leaves types F n sub ts ≡ Ok ((ini.Value x.0, x.1), r)
  unfolding parse.initializer_at
  step_value ts r x f e = rw (f, e) refl

-- ---- members

module _ (leaves : Leaves) (types : List ℕ) (F n : ℕ) (sub : Parser SizedMember) where
  pub step_members_from : (m : ℕ) (ts r : List Token) (xs : List Member) (h : ℕ) (x : SizedMember) → parse.begins_member types ts ≡ true → sub ts ≡ Ok (x, r)
      → parse.members_from leaves types F n sub (suc m) xs h ts ≡ parse.members_from leaves types F n sub m (xs ++ x.0 ∷ []) (max h x.1) r
  unfolding parse.members_from
  step_members_from m ts r xs h x b e = rw (b, e) refl

  pub end_members : (m : ℕ) (r : List Token) (xs : List Member) (h : ℕ) → parse.begins_member types r ≡ false → parse.members_from leaves types F n sub (suc m) xs h r ≡ Ok ((xs, h), r)
  unfolding parse.members_from
  end_members m r xs h b = rw b refl

  pub step_members : (o c : Token) (ts r1 r : List Token) (x : SizedMember) (xs : Members) → o.kind ≡ k.LeftBrace → nat_lt 0 n ≡ true → sub ts ≡ Ok (x, r1) → parse.members_from leaves types F n sub F (x.0 ∷ []) x.1 r1 ≡ Ok (xs, c ∷ r) → c.kind ≡ k.RightBrace
      → parse.members leaves types F n sub (o ∷ ts) ≡ Ok (xs, r)
  unfolding parse.members kind same_kind take_if expect_if
  step_members o c ts r1 r x xs oc room e q ec = rw (oc, room, e, q, ec) refl

  pub step_inner : (w t : Token) (kd : AggregateKind) (ts r : List Token) (xs : Members) → nat_lt 0 n ≡ true → parse.members leaves types F n sub ts ≡ Ok (xs, t ∷ r) → t.kind ≡ k.Semicolon
      → parse.inner leaves types F n sub kd (w ∷ ts) ≡ Ok ((mem.Inner w.place kd xs.0, xs.1 + 1), r)
  unfolding parse.inner kind same_kind take_if expect_if
  step_inner w t kd ts r xs room e tc = rw (room, e, tc) refl

  pub member_inner : (w : Token) (kd : AggregateKind) (ts : List Token) → plain_aggregate w.kind ≡ Some kd → parse.member_at leaves types F n sub (w ∷ ts) ≡ parse.inner leaves types F n sub kd (w ∷ ts)
  unfolding parse.member_at kind
  member_inner w kd ts c = rw c refl

  pub member_based : (ts r1 : List Token) (b : ReadBase) → plain_aggregate (kind ts) ≡ None → base_within leaves types F n ts ≡ Ok (b, r1)
      → parse.member_at leaves types F n sub ts ≡ parse.member_after leaves types F n sub (sees_type_name types ts) (start ts) b r1
  unfolding parse.member_at parse.based_member
  member_based ts r1 b c e = rw (c, e) refl

  pub step_unnamed_member : (at : Place) (b : ReadBase) (t : Token) (r : List Token) → t.kind ≡ k.Semicolon → parse.member_after leaves types F n sub true at b (t ∷ r) ≡ Ok ((mem.Unnamed at b.tree, b.height + 1), r)
  unfolding parse.member_after kind same_kind take_if
  step_unnamed_member at b t r tc = rw tc refl

  pub step_member_fields : (is_name : Bool) (at : Place) (b : ReadBase) (ts r1 : List Token) (x : SizedDcl) → (is_name && same_kind (kind ts) k.Semicolon) ≡ false → dcl leaves types F n ts ≡ Ok (x, r1)
      → parse.member_after leaves types F n sub is_name at b ts ≡ parse.fields_after leaves types F n at b x r1
  unfolding parse.member_after
  step_member_fields is_name at b ts r1 x f e = rw (f, e) refl

  -- ---- members of adts

  pub part_inner : (w : Token) (kd : AggregateKind) (ts r : List Token) (x : SizedMember) → plain_aggregate w.kind ≡ Some kd → parse.inner leaves types F n sub kd (w ∷ ts) ≡ Ok (x, r) → parse.adt_part leaves types F n sub (w ∷ ts) ≡ Ok ((apart.Data x.0, x.1), r)
  unfolding parse.adt_part kind
  part_inner w kd ts r x c e = rw (c, e) refl

  pub part_based : (ts r1 : List Token) (b : ReadBase) → plain_aggregate (kind ts) ≡ None → base_within leaves types F n ts ≡ Ok (b, r1)
      → parse.adt_part leaves types F n sub ts ≡ parse.part_after leaves types F n sub (sees_type_name types ts) (start ts) b r1
  unfolding parse.adt_part parse.based_part
  part_based ts r1 b c e = rw (c, e) refl

  pub step_unnamed_part : (at : Place) (b : ReadBase) (t : Token) (r : List Token) → t.kind ≡ k.Semicolon → parse.part_after leaves types F n sub true at b (t ∷ r) ≡ Ok ((apart.Data (mem.Unnamed at b.tree), b.height + 1), r)
  unfolding parse.part_after kind same_kind take_if
  step_unnamed_part at b t r tc = rw tc refl

  pub step_declared_part : (is_name : Bool) (at : Place) (b : ReadBase) (ts : List Token) → (is_name && same_kind (kind ts) k.Semicolon) ≡ false
      → parse.part_after leaves types F n sub is_name at b ts ≡ parse.declared_part leaves types F n sub at b ts
  unfolding parse.part_after
  step_declared_part is_name at b ts f = rw f refl

  pub step_function : (at : Place) (b : ReadBase) (s : ℕ) (t o q : Token) (ts r1 r : List Token) (ps : Parameters) → stars_from F 0 ts ≡ Ok (s, t ∷ o ∷ r1) → t.kind ≡ k.Name → known types t.name ≡ false → o.kind ≡ k.LeftParen → parameter_list leaves types F n r1 ≡ Ok (ps, q ∷ r) → q.kind ≡ k.Semicolon
      → parse.declared_part leaves types F n sub at b ts ≡ Ok ((apart.Function b.tree s (name_at t) ps.0, max b.height ps.1 + 1), r)
  unfolding parse.declared_part parse.function_part other_name sees_other_name kind name_number same_kind take_if expect_if
  step_function at b s t o q ts r1 r ps e c f oc e2 qc = rw (e, c, f, oc, e2, qc) refl

  pub step_data : (at : Place) (b : ReadBase) (s : ℕ) (t : Token) (ts r1 r2 r : List Token) (bs : List Bound) (i : ℕ) (x : SizedMember) → stars_from F 0 ts ≡ Ok (s, t ∷ r1) → t.kind ≡ k.Name → known types t.name ≡ false → same_kind (kind r1) k.LeftParen ≡ false
      → bounds_from leaves types F n F [] 0 r1 ≡ Ok ((bs, i), r2) → parse.fields_after leaves types F n at b (record { at = start ts; stars = s; name = name_at t; bounds = bs }, i) r2 ≡ Ok (x, r)
      → parse.declared_part leaves types F n sub at b ts ≡ Ok ((apart.Data x.0, x.1), r)
  unfolding parse.declared_part parse.data_part other_name sees_other_name kind name_number same_kind take_if
  step_data at b s t ts r1 r2 r bs i x e c f g e2 e3 = rw (e, c, f, g, e2, e3) refl

  pub step_marked : (w : Token) (word : Scope) (ts r : List Token) (x : SizedPart) → member_scope w.kind ≡ Some word → parse.adt_part leaves types F n sub ts ≡ Ok (x, r)
      → parse.adt_member leaves types F n sub (w ∷ ts) ≡ Ok ((record { at = w.place; scope = Some word; part = x.0 }, x.1), r)
  unfolding parse.adt_member parse.marked kind take_if
  step_marked w word ts r x c e = rw (c, e) refl

  pub step_unmarked : (ts r : List Token) (x : SizedPart) → member_scope (kind ts) ≡ None → parse.adt_part leaves types F n sub ts ≡ Ok (x, r)
      → parse.adt_member leaves types F n sub ts ≡ Ok ((record { at = start ts; scope = None; part = x.0 }, x.1), r)
  unfolding parse.adt_member parse.unmarked
  step_unmarked ts r x c e = rw (c, e) refl

  pub step_adt_members_from : (m : ℕ) (ts r : List Token) (xs : List AdtMember) (h : ℕ) (x : SizedAdtMember) → parse.begins_adt_member types ts ≡ true → parse.adt_member leaves types F n sub ts ≡ Ok (x, r)
      → parse.adt_members_from leaves types F n sub (suc m) xs h ts ≡ parse.adt_members_from leaves types F n sub m (xs ++ x.0 ∷ []) (max h x.1) r
  unfolding parse.adt_members_from
  step_adt_members_from m ts r xs h x b e = rw (b, e) refl

  pub end_adt_members : (m : ℕ) (r : List Token) (xs : List AdtMember) (h : ℕ) → parse.begins_adt_member types r ≡ false → parse.adt_members_from leaves types F n sub (suc m) xs h r ≡ Ok ((xs, h), r)
  unfolding parse.adt_members_from
  end_adt_members m r xs h b = rw b refl

  pub step_adt_members : (c : Token) (ts r1 r : List Token) (x : SizedAdtMember) (xs : AdtMembers) → parse.adt_member leaves types F n sub ts ≡ Ok (x, r1) → parse.adt_members_from leaves types F n sub F (x.0 ∷ []) x.1 r1 ≡ Ok (xs, c ∷ r) → c.kind ≡ k.RightBrace
      → parse.adt_members leaves types F n sub ts ≡ Ok (xs, r)
  unfolding parse.adt_members kind same_kind take_if expect_if
  step_adt_members c ts r1 r x xs e q ec = rw (e, q, ec) refl

module _ (leaves : Leaves) (types : List ℕ) (F n : ℕ) where
  pub step_adt_body : (o : Token) (ts : List Token) → o.kind ≡ k.LeftBrace → nat_lt 0 n ≡ true → parse.adt_body leaves types F n (o ∷ ts) ≡ parse.adt_members leaves types F (pred n) (parse.member leaves types F (pred n)) ts
  unfolding parse.adt_body kind same_kind take_if expect_if
  step_adt_body o ts oc room = rw (oc, room) refl
