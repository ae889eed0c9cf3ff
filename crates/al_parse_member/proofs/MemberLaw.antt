-- The parsers of members of types and of adts keep the law.
use Rattle.std.proofs.Common.{◌≡◌, ℕ, zero, suc, pred, ◌+◌, ◌<◌, ◌≤◌, ◌==◌, max, nat_lt, Bool, true, false, ◌&&◌, ◌||◌, if◌then◌else◌, List, [], ◌∷◌, ◌++◌, length, Option, Some, None, is_some, ◌⊎◌, inl, inr, Ok, Err, refl, sym, ap, ap₂, ◌∙◌, subst, arith, append_assoc, append-nil, length-append}
use Rattle.std.proofs.lemmas.Grind.{common_steps}
use Rattle.al_base.specs.declared.place.Place.{Place}
use Rattle.al_lex.specs.declared.kind.TokenKind.{TokenKind}
use Rattle.al_lex.specs.declared.kind.TokenKind.TheVariants as k
use Rattle.al_lex.specs.declared.token.Token.{Token}
use Rattle.al_tree.specs.Words.{start, member_scope, plain_aggregate}
use Rattle.al_tree.specs.Types.{Leaves, known, name_at, IsOtherName, IsBase, AreStars, IsDcl, dcl as is_dcl}
use Rattle.al_tree.specs.Types as rules
use Rattle.al_tree.specs.Items.{begins_with_name, IsDcls, IsMember, fields, unnamed, inner, IsMembers, IsAdtPart, data_member, function, IsAdtMember, plain, marked, IsAdtMembers, IsParameterList}
use Rattle.al_tree.specs.Items as items
use Rattle.al_tree.specs.Reading.{Outcome, Parser, ◌>>=◌, pure, kind, name_number, same_kind, take_if, expect}
use Rattle.al_tree.specs.declared.cursor.ParseError.TheVariants.{NoMemory, Stuck, Deep}
use Rattle.al_tree.specs.declared.type_tree.TypeTree.{TypeTree}
use Rattle.al_tree.specs.declared.type_tree.TypeTree.TheVariants as ty
use Rattle.al_tree.specs.declared.type_tree.Dcl.{Dcl}
use Rattle.al_tree.specs.declared.item.Scope.{Scope}
use Rattle.al_tree.specs.declared.item.AggregateKind.{AggregateKind}
use Rattle.al_tree.specs.declared.item.Member.{Member}
use Rattle.al_tree.specs.declared.item.Member.TheVariants as mem
use Rattle.al_tree.specs.declared.item.AdtPart.{AdtPart}
use Rattle.al_tree.specs.declared.item.AdtPart.TheVariants as apart
use Rattle.al_tree.specs.declared.item.AdtMember.{AdtMember}
use Rattle.al_tree.proofs.Law.{World, Family, Lang, Any, head, Has, Law, Verdict, token, down, bind, bind_turn, map_law, pure_law, choose, anywhere, look, kind_local, start_local, start_of, located, take_law, turn_law, expect_if_law, expect_law, a_turn, all_turns, all_turns_of, no_turn, relang, view_law, some_pred}
use Rattle.al_parse_type.specs.declared.part.ReadBase.{ReadBase}
use Rattle.al_parse_type.specs.Parse.{sees_type_name, other_name, bounds_from, stars_from, dcl}
use Rattle.al_parse_type.specs.Within.{base_within}
use Rattle.al_parse_type.proofs.BoundLaw.{always, kind_is, first_kind, and_parts, lt_grows, lt_of, down_fits, at_nil, other_law, fresh_token, fresh_place, fresh_is, bounds_law, stars_law, dcl_law, dcl_has, lower, lower_above}
use Rattle.al_parse_type.proofs.TypeLaw.{LBase, base_long, base_place, type_name_local, type_local}
use Rattle.al_parse_type.proofs.BaseWhole.{base_within_law}
use Rattle.al_parse_member.specs.Parameters.{Parameters, parameter_list}
use Rattle.al_parse_member.specs.Members as parse
use Rattle.al_parse_member.specs.Members.{SizedDcl, SizedMember, Members, SizedPart, SizedAdtMember, AdtMembers}
use Rattle.al_parse_member.proofs.ParameterLaw.{list_law}

abbrev nowhere : Place
nowhere = start []

guard : {A R : Type 0} {w : World} {G G' : List Token → Type 0} {p : Family A} {Q : Lang A} → ((ts : List Token) → G' ts → G ts) → Law R w G p Q → Law R w G' p Q
guard f l = record { run = λ rt ts g s. l.run rt ts (f ts g) s; has = l.has }

-- where no list keeps the guard
never : {A R : Type 0} {w : World} {G : List Token → Type 0} {p : Family A} {Q : Lang A} → ((ts : List Token) → G ts → ⊥) → Has Q → Law R w G p Q
never n h = record { run = λ rt ts g s. absurd (n ts g); has = h }

-- what is seen of the next token is seen of what is read
seen : {A X R : Type 0} {w : World} {G : List Token → Type 0} {p : Family A} {Q : Lang A} (g : List Token → X) → ((ts ts' : List Token) → head ts ≡ head ts' → g ts ≡ g ts') → (x : X)
    → ((u : List Token) (a : A) → Q u a → 0 < length u) → Has (λ u a. Q u a × (g u ≡ x)) → Law R w G p Q → Law R w (λ ts. G ts × (g ts ≡ x)) p (λ u a. Q u a × (g u ≡ x))
seen {A} {w = w} {p = p} {Q = Q} g local x some h l = record { run = λ rt ts q s. by ts q.1 (p w ts) (l.run rt ts q.0 s); has = h }
  where
    begun : (u v r : List Token) → 0 < length u → g (u ++ v) ≡ g (u ++ r)
    begun [] v r i = absurd (omega arith)
    begun (t ∷ u) v r i = local (t ∷ (u ++ v)) (t ∷ (u ++ r)) refl

    by : (ts : List Token) → g ts ≡ x → (o : Outcome A) → Verdict w p Q ts o → Verdict w p (λ u a. Q u a × (g u ≡ x)) ts o
    by ts e (Ok y) v = record { used = v.used; cut = v.cut; again = v.again; is = (v.is, ap g (sym (append-nil v.used)) ∙ begun v.used [] y.1 (some v.used y.0 v.is) ∙ ap g (sym v.cut) ∙ e) }
    by ts e (Err NoMemory) v = absurd v
    by ts e (Err (Stuck n)) v = record { used = v.used; rest = v.rest; cut = v.cut; count = v.count; again = v.again; goes_on = λ none. on v.used (v.cut ∙ ap (λ l. v.used ++ l) none ∙ append-nil v.used) (v.goes_on none) }
      where
        on : (u : List Token) → ts ≡ u → Has (λ y b. Q (u ++ y) b) → Has (λ y b. Q (u ++ y) b × (g (u ++ y) ≡ x))
        on [] c q = h
        on (t ∷ u) c q = record { word = q.word; value = q.value; is = (q.is, local (t ∷ (u ++ q.word)) (t ∷ u) refl ∙ ap g (sym c) ∙ e) }
    by ts e (Err (Deep n)) v = record {
      used = v.used;
      last = v.last;
      rest = v.rest;
      cut = v.cut;
      count = v.count;
      again = v.again;
      goes_on = let q = v.goes_on in record { word = q.word; value = q.value; is = (q.is, with_last v.used v.last q.word v.rest ∙ ap g (sym v.cut) ∙ e) };
    }
      where
        with_last : (u : List Token) (t : Token) (y r : List Token) → g (u ++ t ∷ y) ≡ g (u ++ t ∷ r)
        with_last [] t y r = local (t ∷ y) (t ∷ r) refl
        with_last (o ∷ u) t y r = local (o ∷ (u ++ t ∷ y)) (o ∷ (u ++ t ∷ r)) refl

-- a base type that is the name of a type, or no name is one
record SomeName (leaves : Leaves) (types : List ℕ) : Type 0 where
  named : (at : Place) → Has (λ u (b : ReadBase). (LBase leaves types true u b × (start u ≡ at)) × (sees_type_name types u ≡ true))

known_first : (n : ℕ) (ns : List ℕ) → known (n ∷ ns) n ≡ true
known_first n ns = let e : (n == n) ≡ true = grind (arith, common_steps) in rw e refl

some_name : (leaves : Leaves) (types : List ℕ) → SomeName leaves types ⊎ ((ts : List Token) → sees_type_name types ts ≡ true → ⊥)
unfolding sees_type_name kind same_kind name_number
some_name leaves [] = inr (λ ts h. let p = and_parts (same_kind (kind ts) k.Name) false h in let f : ⊥ = cc in f)
some_name leaves (n ∷ ns) = inl (record {
  named = λ at. let t : Token = record { kind = k.Name; name = n; from = 0; to = 0; place = at } in record {
    word = t ∷ [];
    value = record { tree = ty.Named at n []; height = 0; takes_bracket = false };
    is = ((rules.named t (rules.type_name refl (known_first n ns)), refl), known_first n ns);
  };
})

-- where a list begins does not depend on what stands behind its first token
same_start : (v : List Token) (t : Token) (r : List Token) → start (v ++ t ∷ r) ≡ start (v ++ t ∷ [])
same_start [] t r = refl
same_start (q ∷ v) t r = refl

module _ (leaves : Leaves) (types : List ℕ) where
  -- ---- languages

  abbrev pub LMember : Lang SizedMember
  LMember u x = IsMember leaves types u x.0 x.1

  abbrev pub LMembers : Lang Members
  LMembers u x = IsMembers leaves types u x.0 x.1

  abbrev pub LAdtPart : Lang SizedPart
  LAdtPart u x = IsAdtPart leaves types u x.0 x.1

  abbrev pub LAdtMember : Lang SizedAdtMember
  LAdtMember u x = IsAdtMember leaves types u x.0 x.1

  abbrev pub LAdtMembers : Lang AdtMembers
  LAdtMembers u x = IsAdtMembers leaves types u x.0 x.1

  -- members in braces
  pub record IsBraced (u : List Token) (x : Members) : Type 0 where
    pub opening : Token
    pub closing : Token
    pub within : List Token
    pub cut : u ≡ opening ∷ (within ++ closing ∷ [])
    pub opens : opening.kind ≡ k.LeftBrace
    pub closes : closing.kind ≡ k.RightBrace
    pub is : IsMembers leaves types within x.0 x.1

  -- members of an adt in braces
  pub record IsAdtBraces (u : List Token) (x : AdtMembers) : Type 0 where
    pub opening : Token
    pub closing : Token
    pub within : List Token
    pub cut : u ≡ opening ∷ (within ++ closing ∷ [])
    pub opens : opening.kind ≡ k.LeftBrace
    pub closes : closing.kind ≡ k.RightBrace
    pub is : IsAdtMembers leaves types within x.0 x.1

  -- ---- lengths

  pub member_long : {u : List Token} {x : Member} {h : ℕ} → IsMember leaves types u x h → 0 < length u
  member_long (fields t {u = u} {v = v} d l c) = omega (arith, length-append (u ++ v) (t ∷ []))
  member_long (unnamed t {u = u} d q c) = omega (arith, length-append u (t ∷ []))
  member_long (inner w o c t wc oc l ec tc) = omega arith

  pub adt_part_long : {u : List Token} {x : AdtPart} {h : ℕ} → IsAdtPart leaves types u x h → 0 < length u
  adt_part_long (data_member d) = member_long d
  adt_part_long (function t o c q {u = u} {v = v} {r = r} d a nc oc l ec qc) = let long : 0 < length u = base_long leaves types d in omega (arith, long, length-append (u ++ v) (t ∷ o ∷ (r ++ c ∷ q ∷ [])), length-append u v)

  pub adt_member_long : {u : List Token} {x : AdtMember} {h : ℕ} → IsAdtMember leaves types u x h → 0 < length u
  adt_member_long (plain d) = adt_part_long d
  adt_member_long (marked w wc d) = omega arith

  -- ---- what is seen

  pub begins_local : (ts ts' : List Token) → head ts ≡ head ts' → parse.begins_member types ts ≡ parse.begins_member types ts'
  unfolding parse.begins_member
  begins_local ts ts' h = ap₂ (λ x y. x || (same_kind y k.LeftParen || is_some (plain_aggregate y))) (type_local leaves types ts ts' h) (kind_local ts ts' h)

  pub adt_begins_local : (ts ts' : List Token) → head ts ≡ head ts' → parse.begins_adt_member types ts ≡ parse.begins_adt_member types ts'
  unfolding parse.begins_adt_member
  adt_begins_local ts ts' h = ap₂ (λ x y. x || is_some (member_scope y)) (begins_local ts ts' h) (kind_local ts ts' h)

  -- ---- what there is to go on with

  one_dcl : IsDcls leaves types (dcl_has leaves types).word ((dcl_has leaves types).value.0 ∷ []) (dcl_has leaves types).value.1
  one_dcl = items.one (dcl_has leaves types).is

  fields_at : {takes : Bool} (t : Token) (u v : List Token) (at : Place) (x : TypeTree) (ys : List Dcl) (h i : ℕ) → IsBase leaves types true takes u x h → start u ≡ at → IsDcls leaves types v ys i → t.kind ≡ k.Semicolon → IsMember leaves types (u ++ (v ++ t ∷ [])) (mem.Fields at x ys) (max h i + 1)
  fields_at t u v at x ys h i d p l c = subst (λ q. IsMember leaves types q (mem.Fields at x ys) (max h i + 1)) (append_assoc u v (t ∷ [])) (subst (λ z. IsMember leaves types ((u ++ v) ++ t ∷ []) (mem.Fields z x ys) (max h i + 1)) p (fields t d l c))

  -- a base type goes on to a member
  fields_has : (u : List Token) (b : ReadBase) (at : Place) → LBase leaves types true u b → start u ≡ at → Has (λ v y. LMember (u ++ v) y)
  fields_has u b at d p = let f = dcl_has leaves types in record {
    word = f.word ++ token k.Semicolon ∷ [];
    value = (mem.Fields at b.tree (f.value.0 ∷ []), max b.height f.value.1 + 1);
    is = fields_at (token k.Semicolon) u f.word at b.tree (f.value.0 ∷ []) b.height f.value.1 d p one_dcl refl;
  }

  member_place : (at : Place) → Has (λ u y. LMember u y × (start u ≡ at))
  member_place at = let b = base_place leaves types true at in let f = fields_has b.word b.value at b.is.0 b.is.1 in record { word = b.word ++ f.word; value = f.value; is = (f.is, start_of b.word f.word (base_long leaves types b.is.0) ∙ b.is.1) }

  member_has : Has LMember
  member_has = let m = member_place nowhere in record { word = m.word; value = m.value; is = m.is.0 }

  part_place : (at : Place) → Has (λ u y. LAdtPart u y × (start u ≡ at))
  part_place at = let m = member_place at in record { word = m.word; value = (apart.Data m.value.0, m.value.1); is = (data_member m.is.0, m.is.1) }

  part_has : Has LAdtPart
  part_has = let m = part_place nowhere in record { word = m.word; value = m.value; is = m.is.0 }

  adt_member_has : Has LAdtMember
  adt_member_has = let m = part_has in record { word = m.word; value = (record { at = start m.word; scope = None; part = m.value.0 }, m.value.1); is = plain m.is }

  -- ---- declarators of members

  abbrev pub LDcls : Lang (List Dcl × ℕ)
  LDcls u x = IsDcls leaves types u x.0 x.1

  -- where what is known of the first declarator is known of what is read
  dcls_law : (C R : Type 0) (m : ℕ) (w : World) → w.fuel ≡ m → (R → w.fuel ≤ w.turns) → (u : List Token) (xs : List Dcl) (h : ℕ) → (C → IsDcls leaves types u xs h)
      → Law R w Any (λ w. parse.dcls_from leaves types w.turns w.depth w.fuel xs h) (λ v y. C → LDcls (u ++ v) y)
  unfolding parse.dcls_from
  dcls_law C R zero w fe fits u xs h l = no_turn fe (record { word = []; value = (xs, h); is = at_nil leaves types (λ v y. C → LDcls v y) u (xs, h) l })
  dcls_law C R (suc m) w fe fits u xs h l =
      let end : C → LDcls (u ++ []) (xs, h) = at_nil leaves types (λ v y. C → LDcls v y) u (xs, h) l in
      a_turn (λ i w. parse.dcls_from leaves types w.turns w.depth i xs h) m fe
      (look kind kind_local (λ w next. if same_kind next k.Comma then (take_if true >>= (λ _. dcl leaves types w.turns w.depth >>= (λ x. parse.dcls_from leaves types w.turns w.depth (pred w.fuel) (xs ++ x.0 ∷ []) (max h x.1)))) else pure (xs, h))
      (record { word = []; value = (xs, h); is = end })
      (λ next. choose (same_kind next k.Comma)
      (λ yes. turn_law (λ w t. dcl leaves types w.turns w.depth >>= (λ x. parse.dcls_from leaves types w.turns w.depth w.fuel (xs ++ x.0 ∷ []) (max h x.1))) always (λ m n l e. e) (λ t. t.kind ≡ k.Comma) (λ t ts q. first_kind t ts next q.1 ∙ kind_is next k.Comma yes)
      (record { word = []; value = (xs, h); is = end })
      (λ t c. bind (dcl_law leaves types (R × (true ≡ true)) (down w) (λ r. down_fits w.fuel w.turns (fits r.0))) (λ v x a.
      relang (λ v2 y i q. subst (λ z. LDcls z y) (append_assoc u (t ∷ v) v2) (i q))
      (dcls_law C (R × (true ≡ true)) m (down w) (ap pred fe) (λ r. down_fits w.fuel w.turns (fits r.0)) (u ++ t ∷ v) (xs ++ x.0 ∷ []) (max h x.1) (λ q. items.more t (l q) c a)))))
      (λ no. pure_law (xs, h) end)))

  -- the declarators behind a base type, of which the first was read
  fields_law : (C R : Type 0) (w : World) → (R → w.fuel ≤ w.turns) → (u : List Token) (b : ReadBase) (at : Place) → LBase leaves types true u b → start u ≡ at → (v : List Token) (x : SizedDcl) → (C → IsDcl leaves types v x.0 x.1)
      → Law R w Any (λ w. parse.fields_after leaves types w.turns w.depth at b x) (λ r y. C → LMember (u ++ (v ++ r)) y)
  unfolding parse.fields_after
  fields_law C R w fits u b at d p v x a = bind (all_turns fits (λ i w. parse.dcls_from leaves types w.turns w.depth i (x.0 ∷ []) x.1) (dcls_law C (w.fuel ≤ w.turns) w.turns (record w { fuel = w.turns }) refl (λ r. omega arith) v (x.0 ∷ []) x.1 (λ q. items.one (a q)))) (λ r xs l.
      expect_law (λ w t. pure (mem.Fields at b.tree xs.0, max b.height xs.1 + 1)) k.Semicolon (λ t c.
      pure_law (mem.Fields at b.tree xs.0, max b.height xs.1 + 1) (λ q.
      subst (λ z. LMember (u ++ z) (mem.Fields at b.tree xs.0, max b.height xs.1 + 1)) (append_assoc v r (t ∷ []))
      (fields_at t u (v ++ r) at b.tree xs.0 b.height xs.1 d p (l q) c))))

  -- ---- the base type of a member

  -- a base type that begins with a type's name begins with a name, and takes no bracket
  named_base : {takes : Bool} {u : List Token} {x : TypeTree} {h : ℕ} → IsBase leaves types true takes u x h → begins_with_name u ≡ true → IsBase leaves types true false u x h
  named_base (rules.basic t c) q = rules.basic t c
  named_base (rules.named t c) q = rules.named t c
  named_base (rules.instance t o c tc oc a ec) q = rules.instance t o c tc oc a ec
  named_base (rules.tuple w o c wc oc a ec) q = rules.tuple w o c wc oc a ec
  named_base (rules.bare_tuple o c oc a ec) q = rules.bare_tuple o c oc a ec
  named_base (rules.channel w o c wc oc a ec) q = absurd (let e : true ≡ false = sym q ∙ ap Rattle.al_tree.specs.Words.is_name wc in let f : ⊥ = cc in f)
  named_base (rules.buffered w o c p q wc oc a ec pc m qc) e = rules.buffered w o c p q wc oc a ec pc m qc

  -- what is known of a base type that was read: where it begins, and whether with the name of a type
  record IsFirst (is_name : Bool) (at : Place) (u : List Token) (b : ReadBase) : Type 0 where
    is : LBase leaves types true u b
    place : start u ≡ at
    name : is_name ≡ true → begins_with_name u ≡ true

  begins : (u : List Token) → sees_type_name types u ≡ true → begins_with_name u ≡ true
  unfolding sees_type_name kind same_kind
  begins [] h = absurd (let f : ⊥ = cc in f)
  begins (t ∷ u) h = let p = and_parts (same_kind t.kind k.Name) _ h in ap Rattle.al_tree.specs.Words.is_name (kind_is t.kind k.Name p.0)

  abbrev LPlaced : Place → Lang ReadBase
  LPlaced at u b = LBase leaves types true u b × (start u ≡ at)

  bases : (R : Type 0) (w : World) → (R → w.fuel ≤ w.turns) → (at : Place) → Law R w (λ ts. Any ts × (start ts ≡ at)) (λ w. base_within leaves types w.turns w.depth) (LPlaced at)
  bases R w fits at = located at (λ u x a. base_long leaves types a) (base_place leaves types true at) (base_within_law leaves types R w Any fits)

  -- a base type, and what is read behind it
  based : {B : Type 0} {Q : Lang B} (R : Type 0) (w : World) → (R → w.fuel ≤ w.turns) → (at : Place) (is_name : Bool) (f : World → ReadBase → Parser B) → Has Q
      → ((u : List Token) (b : ReadBase) → IsFirst is_name at u b → Law R w Any (λ w. f w b) (λ v y. Q (u ++ v) y))
      → Law R w (λ ts. (Any ts × (start ts ≡ at)) × (sees_type_name types ts ≡ is_name)) (λ w. base_within leaves types w.turns w.depth >>= f w) Q
  based R w fits at false f h next = bind (relang (λ u b q. record { is = q.0; place = q.1; name = λ e. absurd (let z : ⊥ = cc in z) }) (guard (λ ts g. g.0) (bases R w fits at))) next
  based {B} {Q} R w fits at true f h next = by (some_name leaves types)
    where
      by : SomeName leaves types ⊎ ((ts : List Token) → sees_type_name types ts ≡ true → ⊥) → Law R w (λ ts. (Any ts × (start ts ≡ at)) × (sees_type_name types ts ≡ true)) (λ w. base_within leaves types w.turns w.depth >>= f w) Q
      by (inl n) = bind (relang (λ u b q. record { is = q.0.0; place = q.0.1; name = λ e. begins u q.1 }) (seen (sees_type_name types) (type_name_local leaves types) true (λ u b q. base_long leaves types q.0) (n.named at) (bases R w fits at))) next
      by (inr n) = never (λ ts g. n ts g.1) h

  unnamed_member : (is_name : Bool) (at : Place) (u : List Token) (b : ReadBase) → IsFirst is_name at u b → is_name ≡ true → (t : Token) → t.kind ≡ k.Semicolon → LMember (u ++ t ∷ []) (mem.Unnamed at b.tree, b.height + 1)
  unnamed_member is_name at u b d named_it t c = subst (λ z. IsMember leaves types (u ++ t ∷ []) (mem.Unnamed z b.tree) (b.height + 1)) d.place (unnamed t (named_base d.is (d.name named_it)) (d.name named_it) c)

  -- ---- parts of adts

  -- a declarator of a name alone, and the semicolon
  part_on : (u v : List Token) (b : ReadBase) (s : ℕ) (t : Token) → LBase leaves types true u b → AreStars leaves types v s → IsOtherName leaves types t → Has (λ r y. LAdtPart (u ++ (v ++ t ∷ r)) y)
  part_on u v b s t d a c =
      let x : Dcl = record { at = start (v ++ t ∷ []); stars = s; name = name_at t; bounds = [] } in
      let y : SizedPart = (apart.Data (mem.Fields (start u) b.tree (x ∷ [])), max b.height 0 + 1) in
      record {
        word = token k.Semicolon ∷ [];
        value = y;
        is = subst (λ z. LAdtPart (u ++ z) y) (append_assoc v (t ∷ []) (token k.Semicolon ∷ [])) (data_member (fields_at (token k.Semicolon) u (v ++ t ∷ []) (start u) b.tree (x ∷ []) b.height 0 d refl (items.one (is_dcl t a c rules.none)) refl));
      }

  -- what is read where its place is known: a list that is not empty, and a part of an adt if it begins at that place
  record IsPlaced (at : Place) (u v : List Token) (y : SizedPart) : Type 0 where
    long : 0 < length v
    is : start v ≡ at → LAdtPart (u ++ v) y

  placed : (at : Place) (u v : List Token) (t : Token) (r : List Token) (y : SizedPart) → (start (v ++ t ∷ []) ≡ at → LAdtPart (u ++ (v ++ t ∷ r)) y) → IsPlaced at u (v ++ t ∷ r) y
  placed at u v t r y l = record { long = omega (arith, length-append v (t ∷ r)); is = λ q. l (sym (same_start v t r) ∙ q) }

  placed_on : (at : Place) (u v : List Token) (b : ReadBase) (s : ℕ) (t : Token) → LBase leaves types true u b → AreStars leaves types v s → IsOtherName leaves types t → Has (λ r y. IsPlaced at u (v ++ t ∷ r) y)
  placed_on at u v b s t d a c = let h = part_on u v b s t d a c in record { word = h.word; value = h.value; is = placed at u v t h.word h.value (λ _. h.is) }

  placed_has : (at : Place) (u v : List Token) (b : ReadBase) (s : ℕ) → LBase leaves types true u b → AreStars leaves types v s → Has (λ r y. IsPlaced at u (v ++ r) y)
  placed_has at u v b s d a = let t = fresh_token types at in let h = placed_on at u v b s t d a (fresh_is leaves types at) in record { word = t ∷ h.word; value = h.value; is = h.is }

  begins_placed : (at : Place) (u : List Token) (b : ReadBase) → LBase leaves types true u b → Has (λ v y. IsPlaced at u v y × (start v ≡ at))
  begins_placed at u b d = let t = fresh_token types at in let h = placed_on at u [] b 0 t d rules.none (fresh_is leaves types at) in record { word = t ∷ h.word; value = h.value; is = (h.is, fresh_place types at) }

  function_is : (u v f : List Token) (b : ReadBase) (s : ℕ) (t o l q : Token) (ps : Parameters) → LBase leaves types true u b → AreStars leaves types v s → IsOtherName leaves types t → o.kind ≡ k.LeftParen → IsParameterList leaves types f ps.0 ps.1 → l.kind ≡ k.RightParen → q.kind ≡ k.Semicolon
      → LAdtPart (u ++ (v ++ t ∷ o ∷ (f ++ l ∷ q ∷ []))) (apart.Function b.tree s (name_at t) ps.0, max b.height ps.1 + 1)
  function_is u v f b s t o l q ps d a c oc i lc qc = subst (λ z. LAdtPart z (apart.Function b.tree s (name_at t) ps.0, max b.height ps.1 + 1)) (append_assoc u v (t ∷ o ∷ (f ++ l ∷ q ∷ []))) (function t o l q d a c oc i lc qc)

  -- ---- what is known of the parser of members inside members, at the worlds of one depth

  module _ (n : ℕ) (subs : (R : Type 0) (w : World) → w.depth ≡ n → (R → w.fuel ≤ w.turns) → (R → 0 < w.depth) → Law R w Any (λ w. parse.member leaves types w.turns w.depth) LMember) where
    abbrev S : World → Parser SizedMember
    S w = parse.member leaves types w.turns w.depth

    members_from_law : (R : Type 0) (m : ℕ) (w : World) → w.fuel ≡ m → w.depth ≡ n → (R → w.fuel ≤ w.turns) → (R → 0 < w.depth) → (u : List Token) (xs : List Member) (h : ℕ) → IsMembers leaves types u xs h
        → Law R w Any (λ w. parse.members_from leaves types w.turns w.depth (S w) w.fuel xs h) (λ v y. LMembers (u ++ v) y)
    unfolding parse.members_from
    members_from_law R zero w fe d fits deep u xs h l = no_turn fe (record { word = []; value = (xs, h); is = at_nil leaves types LMembers u (xs, h) l })
    members_from_law R (suc m) w fe d fits deep u xs h l =
        let end : LMembers (u ++ []) (xs, h) = at_nil leaves types LMembers u (xs, h) l in
        a_turn (λ i w. parse.members_from leaves types w.turns w.depth (S w) i xs h) m fe
        (look (parse.begins_member types) begins_local (λ w begins. if begins then (S w >>= (λ x. parse.members_from leaves types w.turns w.depth (S w) (pred w.fuel) (xs ++ x.0 ∷ []) (max h x.1))) else pure (xs, h))
        (record { word = []; value = (xs, h); is = end })
        (λ begins. choose begins
        (λ yes. anywhere (bind_turn {f = λ w x. parse.members_from leaves types w.turns w.depth (S w) w.fuel (xs ++ x.0 ∷ []) (max h x.1)} (λ v x a. member_long a) (subs R w d fits deep) (λ v x a.
        relang (λ v2 y i. subst (λ z. LMembers z y) (append_assoc u v v2) i)
        (members_from_law R m (down w) (ap pred fe) d (λ r. down_fits w.fuel w.turns (fits r)) deep (u ++ v) (xs ++ x.0 ∷ []) (max h x.1) (items.more l a)))))
        (λ no. pure_law (xs, h) end)))

    members_law : (R : Type 0) (w : World) → w.depth ≡ n → (R → w.fuel ≤ w.turns) → Law R w Any (λ w. parse.members leaves types w.turns w.depth (S w)) (IsBraced)
    unfolding parse.members
    members_law R w d fits = expect_if_law (λ w o. S w >>= (λ x. parse.members_from leaves types w.turns w.depth (S w) w.turns (x.0 ∷ []) x.1 >>= (λ xs. expect k.RightBrace >>= (λ _. pure xs)))) (nat_lt 0) (lt_grows 0) k.LeftBrace (λ o oc.
        bind (subs (R × (nat_lt 0 w.depth ≡ true)) w d (λ r. fits r.0) (λ r. lt_of 0 w.depth r.1)) (λ u x a.
        bind (all_turns_of (λ r. (fits r.0, lt_of 0 w.depth r.1)) (λ i w. parse.members_from leaves types w.turns w.depth (S w) i (x.0 ∷ []) x.1)
        (members_from_law ((w.fuel ≤ w.turns) × (0 < w.depth)) w.turns (record w { fuel = w.turns }) refl d (λ r. omega arith) (λ r. r.1) u (x.0 ∷ []) x.1 (items.one a))) (λ v xs l.
        expect_law (λ w c. pure xs) k.RightBrace (λ c ec. pure_law xs (record { opening = o; closing = c; within = u ++ v; cut = ap (λ z. o ∷ z) (sym (append_assoc u v (c ∷ []))); opens = oc; closes = ec; is = l })))))

    inner_law : (R : Type 0) (w : World) (G : List Token → Type 0) → w.depth ≡ n → (R → w.fuel ≤ w.turns) → (kd : AggregateKind) → ((t : Token) (ts : List Token) → G (t ∷ ts) → plain_aggregate t.kind ≡ Some kd)
        → Law R w G (λ w. parse.inner leaves types w.turns w.depth (S w) kd) LMember
    unfolding parse.inner
    inner_law R w G d fits kd first = take_law (λ w t. parse.members leaves types w.turns w.depth (S w) >>= (λ xs. expect k.Semicolon >>= (λ _. pure (mem.Inner t.place kd xs.0, xs.1 + 1)))) (nat_lt 0) (lt_grows 0) (λ t. plain_aggregate t.kind ≡ Some kd) first member_has
        (λ t tc. bind (members_law (R × (nat_lt 0 w.depth ≡ true)) w d (λ r. fits r.0)) (λ u xs b. expect_law (λ w q. pure (mem.Inner t.place kd xs.0, xs.1 + 1)) k.Semicolon (λ q qc.
        pure_law (mem.Inner t.place kd xs.0, xs.1 + 1)
        (subst (λ z. LMember (t ∷ z) (mem.Inner t.place kd xs.0, xs.1 + 1)) (sym (ap (λ z. z ++ q ∷ []) b.cut ∙ ap (λ z. b.opening ∷ z) (append_assoc b.within (b.closing ∷ []) (q ∷ []))))
        (inner t b.opening b.closing q tc b.opens b.is b.closes qc)))))

    member_after_law : (R : Type 0) (w : World) → (R → w.fuel ≤ w.turns) → (is_name : Bool) (at : Place) (u : List Token) (b : ReadBase) → IsFirst is_name at u b → Law R w Any (λ w. parse.member_after leaves types w.turns w.depth (S w) is_name at b) (λ v y. LMember (u ++ v) y)
    unfolding parse.member_after
    member_after_law R w fits is_name at u b d = look kind kind_local (λ w next. if is_name && same_kind next k.Semicolon then (take_if true >>= (λ _. pure (mem.Unnamed at b.tree, b.height + 1))) else (dcl leaves types w.turns w.depth >>= parse.fields_after leaves types w.turns w.depth at b)) (fields_has u b at d.is d.place)
        (λ next. choose (is_name && same_kind next k.Semicolon)
        (λ yes. let p = and_parts is_name (same_kind next k.Semicolon) yes in
        take_law (λ w t. pure (mem.Unnamed at b.tree, b.height + 1)) always (λ m n l e. e) (λ t. t.kind ≡ k.Semicolon) (λ t ts g. first_kind t ts next g.1 ∙ kind_is next k.Semicolon p.1) (fields_has u b at d.is d.place)
        (λ t c. pure_law (mem.Unnamed at b.tree, b.height + 1) (unnamed_member is_name at u b d p.0 t c)))
        (λ no. anywhere (bind (dcl_law leaves types R w fits) (λ v x a. relang (λ r y i. i tt) (fields_law (Unit {0}) R w fits u b at d.is d.place v x (λ _. a))))))

    based_member_law : (R : Type 0) (w : World) → (R → w.fuel ≤ w.turns) → Law R w Any (λ w. parse.based_member leaves types w.turns w.depth (S w)) LMember
    unfolding parse.based_member
    based_member_law R w fits = look start start_local (λ w at ts. (base_within leaves types w.turns w.depth >>= parse.member_after leaves types w.turns w.depth (S w) (sees_type_name types ts) at) ts) member_has
        (λ at. look (sees_type_name types) (type_name_local leaves types) (λ w is_name. base_within leaves types w.turns w.depth >>= parse.member_after leaves types w.turns w.depth (S w) is_name at) member_has
        (λ is_name. based R w fits at is_name (λ w. parse.member_after leaves types w.turns w.depth (S w) is_name at) member_has (λ u b d. member_after_law R w fits is_name at u b d)))

    member_at_law : (R : Type 0) (w : World) → w.depth ≡ n → (R → w.fuel ≤ w.turns) → Law R w Any (λ w. parse.member_at leaves types w.turns w.depth (S w)) LMember
    unfolding parse.member_at
    member_at_law R w d fits = look kind kind_local (λ w next. parse.member_by leaves types w.turns w.depth (S w) (plain_aggregate next)) member_has (λ next. by next (plain_aggregate next) refl)
      where
        by : (kd : TokenKind) (o : Option AggregateKind) → plain_aggregate kd ≡ o → Law R w (λ ts. Any ts × (kind ts ≡ kd)) (λ w. parse.member_by leaves types w.turns w.depth (S w) o) LMember
        by kd (Some x) e = inner_law R w (λ ts. Any ts × (kind ts ≡ kd)) d fits x (λ t ts g. ap plain_aggregate (first_kind t ts kd g.1) ∙ e)
        by kd None e = anywhere (based_member_law R w fits)

    -- ---- members of adts

    function_law : (R : Type 0) (w : World) → (R → w.fuel ≤ w.turns) → (u v : List Token) (b : ReadBase) (s : ℕ) (t : Token) → LBase leaves types true u b → AreStars leaves types v s → IsOtherName leaves types t
        → Law R w (λ ts. kind ts ≡ k.LeftParen) (λ w. parse.function_part leaves types w.turns w.depth (S w) b s t) (λ r y. LAdtPart (u ++ (v ++ t ∷ r)) y)
    unfolding parse.function_part
    function_law R w fits u v b s t d a c = take_law (λ w o. parameter_list leaves types w.turns w.depth >>= (λ ps. expect k.Semicolon >>= (λ _. pure (apart.Function b.tree s (name_at t) ps.0, max b.height ps.1 + 1)))) always (λ m n l e. e) (λ o. o.kind ≡ k.LeftParen) (λ o ts g. first_kind o ts k.LeftParen g) (part_on u v b s t d a c)
        (λ o oc. bind (list_law leaves types (R × (true ≡ true)) w (λ r. fits r.0)) (λ r ps l. expect_law (λ w q. pure (apart.Function b.tree s (name_at t) ps.0, max b.height ps.1 + 1)) k.Semicolon (λ q qc.
        pure_law (apart.Function b.tree s (name_at t) ps.0, max b.height ps.1 + 1)
        (subst (λ z. LAdtPart (u ++ (v ++ t ∷ o ∷ z)) (apart.Function b.tree s (name_at t) ps.0, max b.height ps.1 + 1)) (sym (ap (λ z. z ++ q ∷ []) l.cut ∙ append_assoc l.front (l.last ∷ []) (q ∷ [])))
        (function_is u v l.front b s t o l.last q ps d a c oc l.is l.closes qc)))))

    data_law : (R : Type 0) (w : World) → (R → w.fuel ≤ w.turns) → (u v : List Token) (b : ReadBase) (at begin : Place) (s : ℕ) (t : Token) → LBase leaves types true u b → start u ≡ at → AreStars leaves types v s → IsOtherName leaves types t
        → Law R w Any (λ w. parse.data_part leaves types w.turns w.depth (S w) at b begin s t) (λ r y. IsPlaced begin u (v ++ t ∷ r) y)
    unfolding parse.data_part
    data_law R w fits u v b at begin s t d p a c = bind (all_turns fits (λ i w. bounds_from leaves types w.turns w.depth i [] 0) (bounds_law leaves types (w.fuel ≤ w.turns) w.turns (record w { fuel = w.turns }) refl (λ r. omega arith) [] [] 0 rules.none)) (λ z bs l.
        let x : SizedDcl = (record { at = begin; stars = s; name = name_at t; bounds = bs.0 }, bs.1) in
        map_law (λ y. (apart.Data y.0, y.1))
        (fields_law (start (v ++ t ∷ []) ≡ begin) R w fits u b at d p (v ++ t ∷ z) x (λ q. subst (λ g. IsDcl leaves types (v ++ t ∷ z) (record { at = g; stars = s; name = name_at t; bounds = bs.0 }) bs.1) q (is_dcl t a c l)))
        (λ r y j. placed begin u v t (z ++ r) (apart.Data y.0, y.1) (λ q. subst (λ g. LAdtPart (u ++ g) (apart.Data y.0, y.1)) (append_assoc v (t ∷ z) r) (data_member (j q)))))

    declared_law : (R : Type 0) (w : World) → (R → w.fuel ≤ w.turns) → (u : List Token) (b : ReadBase) (at : Place) → LBase leaves types true u b → start u ≡ at → Law R w Any (λ w. parse.declared_part leaves types w.turns w.depth (S w) at b) (λ r y. LAdtPart (u ++ r) y)
    unfolding parse.declared_part
    declared_law R w fits u b at d p = look start start_local (λ w begin. stars_from w.turns 0 >>= (λ s. other_name types >>= (λ t us. (if same_kind (kind us) k.LeftParen then parse.function_part leaves types w.turns w.depth (S w) b s t else parse.data_part leaves types w.turns w.depth (S w) at b begin s t) us))) (let h = part_on u [] b 0 (fresh_token types nowhere) d rules.none (fresh_is leaves types nowhere) in record { word = fresh_token types nowhere ∷ h.word; value = h.value; is = h.is })
        (λ begin. relang (λ r y q. q.0.is q.1) (located begin (λ r y q. q.long) (begins_placed begin u b d)
        (bind (all_turns fits (λ i w. stars_from i 0) (stars_law leaves types (w.fuel ≤ w.turns) w.turns (record w { fuel = w.turns }) refl [] 0 rules.none)) (λ v s a.
        other_law leaves types (λ w t us. (if same_kind (kind us) k.LeftParen then parse.function_part leaves types w.turns w.depth (S w) b s t else parse.data_part leaves types w.turns w.depth (S w) at b begin s t) us) (placed_has begin u v b s d a)
        (λ t c. look kind kind_local (λ w next. if same_kind next k.LeftParen then parse.function_part leaves types w.turns w.depth (S w) b s t else parse.data_part leaves types w.turns w.depth (S w) at b begin s t) (placed_on begin u v b s t d a c)
        (λ next. choose (same_kind next k.LeftParen)
        (λ yes. guard (λ ts g. g.1 ∙ kind_is next k.LeftParen yes) (relang (λ r y l. placed begin u v t r y (λ _. l)) (function_law R w fits u v b s t d a c)))
        (λ no. anywhere (data_law R w fits u v b at begin s t d p a c))))))))

    part_after_law : (R : Type 0) (w : World) → (R → w.fuel ≤ w.turns) → (is_name : Bool) (at : Place) (u : List Token) (b : ReadBase) → IsFirst is_name at u b → Law R w Any (λ w. parse.part_after leaves types w.turns w.depth (S w) is_name at b) (λ v y. LAdtPart (u ++ v) y)
    unfolding parse.part_after
    part_after_law R w fits is_name at u b d =
        let end : Has (λ v y. LAdtPart (u ++ v) y) = (let f = fields_has u b at d.is d.place in record { word = f.word; value = (apart.Data f.value.0, f.value.1); is = data_member f.is }) in
        look kind kind_local (λ w next. if is_name && same_kind next k.Semicolon then (take_if true >>= (λ _. pure (apart.Data (mem.Unnamed at b.tree), b.height + 1))) else parse.declared_part leaves types w.turns w.depth (S w) at b) end
        (λ next. choose (is_name && same_kind next k.Semicolon)
        (λ yes. let p = and_parts is_name (same_kind next k.Semicolon) yes in
        take_law (λ w t. pure (apart.Data (mem.Unnamed at b.tree), b.height + 1)) always (λ m n l e. e) (λ t. t.kind ≡ k.Semicolon) (λ t ts g. first_kind t ts next g.1 ∙ kind_is next k.Semicolon p.1) end
        (λ t c. pure_law (apart.Data (mem.Unnamed at b.tree), b.height + 1) (data_member (unnamed_member is_name at u b d p.0 t c))))
        (λ no. anywhere (declared_law R w fits u b at d.is d.place)))

    based_part_law : (R : Type 0) (w : World) → (R → w.fuel ≤ w.turns) → Law R w Any (λ w. parse.based_part leaves types w.turns w.depth (S w)) LAdtPart
    unfolding parse.based_part
    based_part_law R w fits = look start start_local (λ w at ts. (base_within leaves types w.turns w.depth >>= parse.part_after leaves types w.turns w.depth (S w) (sees_type_name types ts) at) ts) part_has
        (λ at. look (sees_type_name types) (type_name_local leaves types) (λ w is_name. base_within leaves types w.turns w.depth >>= parse.part_after leaves types w.turns w.depth (S w) is_name at) part_has
        (λ is_name. based R w fits at is_name (λ w. parse.part_after leaves types w.turns w.depth (S w) is_name at) part_has (λ u b d. part_after_law R w fits is_name at u b d)))

    adt_part_law : (R : Type 0) (w : World) → w.depth ≡ n → (R → w.fuel ≤ w.turns) → Law R w Any (λ w. parse.adt_part leaves types w.turns w.depth (S w)) LAdtPart
    unfolding parse.adt_part
    adt_part_law R w d fits = look kind kind_local (λ w next. parse.adt_part_by leaves types w.turns w.depth (S w) (plain_aggregate next)) part_has (λ next. by next (plain_aggregate next) refl)
      where
        by : (kd : TokenKind) (o : Option AggregateKind) → plain_aggregate kd ≡ o → Law R w (λ ts. Any ts × (kind ts ≡ kd)) (λ w. parse.adt_part_by leaves types w.turns w.depth (S w) o) LAdtPart
        by kd (Some x) e = map_law (λ y. (apart.Data y.0, y.1)) (inner_law R w (λ ts. Any ts × (kind ts ≡ kd)) d fits x (λ t ts g. ap plain_aggregate (first_kind t ts kd g.1) ∙ e)) (λ u y a. data_member a)
        by kd None e = anywhere (based_part_law R w fits)

    adt_member_law : (R : Type 0) (w : World) → w.depth ≡ n → (R → w.fuel ≤ w.turns) → Law R w Any (λ w. parse.adt_member leaves types w.turns w.depth (S w)) LAdtMember
    unfolding parse.adt_member parse.marked parse.unmarked
    adt_member_law R w d fits = look kind kind_local (λ w next. parse.adt_member_by leaves types w.turns w.depth (S w) (member_scope next)) adt_member_has (λ next. by next (member_scope next) refl)
      where
        by : (kd : TokenKind) (o : Option Scope) → member_scope kd ≡ o → Law R w (λ ts. Any ts × (kind ts ≡ kd)) (λ w. parse.adt_member_by leaves types w.turns w.depth (S w) o) LAdtMember
        by kd (Some word) e = take_law (λ w t. parse.adt_part leaves types w.turns w.depth (S w) >>= (λ x. pure (record { at = t.place; scope = Some word; part = x.0 }, x.1))) always (λ m n l e. e) (λ t. member_scope t.kind ≡ Some word) (λ t ts g. ap member_scope (first_kind t ts kd g.1) ∙ e) adt_member_has
            (λ t tc. map_law (λ x. (record { at = t.place; scope = Some word; part = x.0 }, x.1)) (adt_part_law (R × (true ≡ true)) w d (λ r. fits r.0)) (λ u x a. marked t tc a))
        by kd None e = look start start_local (λ w at. parse.adt_part leaves types w.turns w.depth (S w) >>= (λ x. pure (record { at = at; scope = None; part = x.0 }, x.1))) adt_member_has
            (λ at. guard (λ ts g. (tt, g.1)) (map_law (λ x. (record { at = at; scope = None; part = x.0 }, x.1)) (located at (λ u a q. adt_part_long q) (part_place at) (adt_part_law R w d fits)) (λ u x a. subst (λ z. LAdtMember u (record { at = z; scope = None; part = x.0 }, x.1)) a.1 (plain a.0))))

    adt_members_from_law : (R : Type 0) (m : ℕ) (w : World) → w.fuel ≡ m → w.depth ≡ n → (R → w.fuel ≤ w.turns) → (u : List Token) (xs : List AdtMember) (h : ℕ) → IsAdtMembers leaves types u xs h
        → Law R w Any (λ w. parse.adt_members_from leaves types w.turns w.depth (S w) w.fuel xs h) (λ v y. LAdtMembers (u ++ v) y)
    unfolding parse.adt_members_from
    adt_members_from_law R zero w fe d fits u xs h l = no_turn fe (record { word = []; value = (xs, h); is = at_nil leaves types LAdtMembers u (xs, h) l })
    adt_members_from_law R (suc m) w fe d fits u xs h l =
        let end : LAdtMembers (u ++ []) (xs, h) = at_nil leaves types LAdtMembers u (xs, h) l in
        a_turn (λ i w. parse.adt_members_from leaves types w.turns w.depth (S w) i xs h) m fe
        (look (parse.begins_adt_member types) adt_begins_local (λ w begins. if begins then (parse.adt_member leaves types w.turns w.depth (S w) >>= (λ x. parse.adt_members_from leaves types w.turns w.depth (S w) (pred w.fuel) (xs ++ x.0 ∷ []) (max h x.1))) else pure (xs, h))
        (record { word = []; value = (xs, h); is = end })
        (λ begins. choose begins
        (λ yes. anywhere (bind_turn {f = λ w x. parse.adt_members_from leaves types w.turns w.depth (S w) w.fuel (xs ++ x.0 ∷ []) (max h x.1)} (λ v x a. adt_member_long a) (adt_member_law R w d fits) (λ v x a.
        relang (λ v2 y i. subst (λ z. LAdtMembers z y) (append_assoc u v v2) i)
        (adt_members_from_law R m (down w) (ap pred fe) d (λ r. down_fits w.fuel w.turns (fits r)) (u ++ v) (xs ++ x.0 ∷ []) (max h x.1) (items.more l a)))))
        (λ no. pure_law (xs, h) end)))

    -- behind the brace that opens
    adt_members_law : (R : Type 0) (w : World) → w.depth ≡ n → (R → w.fuel ≤ w.turns) → (o : Token) → o.kind ≡ k.LeftBrace → Law R w Any (λ w. parse.adt_members leaves types w.turns w.depth (S w)) (λ u x. IsAdtBraces (o ∷ u) x)
    unfolding parse.adt_members
    adt_members_law R w d fits o oc = bind (adt_member_law R w d fits) (λ u x a.
        bind (all_turns fits (λ i w. parse.adt_members_from leaves types w.turns w.depth (S w) i (x.0 ∷ []) x.1) (adt_members_from_law (w.fuel ≤ w.turns) w.turns (record w { fuel = w.turns }) refl d (λ r. omega arith) u (x.0 ∷ []) x.1 (items.one a))) (λ v xs l.
        expect_law (λ w c. pure xs) k.RightBrace (λ c ec. pure_law xs (record { opening = o; closing = c; within = u ++ v; cut = ap (λ z. o ∷ z) (sym (append_assoc u v (c ∷ []))); opens = oc; closes = ec; is = l }))))

  -- ---- members by levels

  member_law : (n : ℕ) (R : Type 0) (w : World) → w.depth ≡ n → (R → w.fuel ≤ w.turns) → (R → 0 < w.depth) → Law R w Any (λ w. parse.member leaves types w.turns w.depth) LMember
  unfolding parse.member
  member_law zero R w d fits deep = record { run = λ r. absurd (let h : 0 < w.depth = deep r in omega arith); has = member_has }
  member_law (suc n) R w d fits deep =
      view_law lower (λ w' ab. lower_above w w' ab) (λ w' ab same. ap pred same) (λ r. r) (λ r. omega arith)
      (λ w' ab ts. ap (λ m. parse.member leaves types w'.turns m ts) (some_pred w'.depth n (omega (arith, ab.depth))))
      (member_at_law n (λ R' w2 d2 f2 p2. member_law n R' w2 d2 f2 p2) R (lower w) (ap pred d) fits)

  pub braces_law : (R : Type 0) (w : World) → (R → w.fuel ≤ w.turns) → Law R w Any (λ w. parse.members_within leaves types w.turns w.depth) IsBraced
  braces_law R w fits = members_law w.depth (λ R' w2 d2 f2 p2. member_law w.depth R' w2 d2 f2 p2) R w refl fits

  pub adt_law : (R : Type 0) (w : World) → (R → w.fuel ≤ w.turns) → Law R w Any (λ w. parse.adt_body leaves types w.turns w.depth) IsAdtBraces
  unfolding parse.adt_body
  adt_law R w fits = expect_if_law (λ w o. parse.adt_members leaves types w.turns (pred w.depth) (parse.member leaves types w.turns (pred w.depth))) (nat_lt 0) (lt_grows 0) k.LeftBrace (λ o oc.
      view_law lower (λ w' ab. lower_above w w' ab) (λ w' ab same. ap pred same) (λ r. r) (λ r. omega arith) (λ w' ab ts. refl)
      (adt_members_law (pred w.depth) (λ R' w2 d2 f2 p2. member_law (pred w.depth) R' w2 d2 f2 p2) (R × (nat_lt 0 w.depth ≡ true)) (lower w) refl (λ r. fits r.0) o oc))
