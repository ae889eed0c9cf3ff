-- Constants, initializers and members are read as what they are.
use Rattle.std.proofs.Common.{◌≡◌, ℕ, zero, suc, pred, ◌+◌, ◌<◌, ◌≤◌, ◌==◌, max, Bool, true, false, if◌then◌else◌, ◌||◌, ◌&&◌, List, [], ◌∷◌, ◌++◌, length, Option, Some, None, is_some, Ok, Err, ◌⊎◌, inl, inr, refl, sym, ap, ap₂, ◌∙◌, subst, arith, append_assoc, append-nil, length-append}
use Rattle.al_base.specs.declared.place.Place.{Place}
use Rattle.al_lex.specs.declared.kind.TokenKind.{TokenKind}
use Rattle.al_lex.specs.declared.kind.TokenKind.TheVariants as k
use Rattle.al_lex.specs.declared.token.Token.{Token}
use Rattle.al_tree.specs.Words.{start, is_name, basic_type, level, operation, operator, member_scope, plain_aggregate}
use Rattle.al_tree.specs.Types.{Leaves, known, name_at, IsBase, IsBounds, IsDcl, AreStars}
use Rattle.al_tree.specs.Types as rules
use Rattle.al_tree.specs.Expressions.{IsAsg}
use Rattle.al_tree.specs.Items.{begins_with_name, IsConstant, IsConstants, IsEnumBody, IsInitializer, IsInitializers, IsDcls, IsMember, IsMembers, IsAdtPart, IsAdtMember, IsAdtMembers, IsParameterList}
use Rattle.al_tree.specs.Items as items
use Rattle.al_tree.specs.Reading.{Outcome, Parser, kind, same_kind}
use Rattle.al_tree.specs.declared.cursor.ParseError.TheVariants.{Stuck}
use Rattle.al_tree.specs.declared.type_tree.Bound.{Bound}
use Rattle.al_tree.specs.declared.type_tree.TypeTree.{TypeTree}
use Rattle.al_tree.specs.declared.type_tree.Dcl.{Dcl}
use Rattle.al_tree.specs.declared.expression.Expr.{Expr}
use Rattle.al_tree.specs.declared.item.AggregateKind.{AggregateKind}
use Rattle.al_tree.specs.declared.item.Constant.{Constant}
use Rattle.al_tree.specs.declared.item.Initializer.{Initializer}
use Rattle.al_tree.specs.declared.item.Initializer.TheVariants as ini
use Rattle.al_tree.specs.declared.item.Member.{Member}
use Rattle.al_tree.specs.declared.item.Member.TheVariants as mem
use Rattle.al_tree.specs.declared.item.Parameter.{Parameter}
use Rattle.al_tree.specs.declared.item.AdtPart.{AdtPart}
use Rattle.al_tree.specs.declared.item.AdtPart.TheVariants as apart
use Rattle.al_tree.specs.declared.item.AdtMember.{AdtMember}
use Rattle.al_tree.proofs.Law.{head, some_pred, start_of}
use Rattle.al_parse_type.specs.declared.part.ReadBase.{ReadBase}
use Rattle.al_parse_type.specs.Parse.{sees_type_name, sees_type, dcl, sized_base}
use Rattle.al_parse_type.specs.Within.{base_within}
use Rattle.al_parse_type.proofs.BoundLaw.{kind_is}
use Rattle.al_parse_type.proofs.BoundComplete.{less_pred, rest_short, tail_short, nat_lt_is, kind_of, whole_bounds, whole_stars, dcl_c}
use Rattle.al_parse_type.proofs.TypeLaw.{base_long, zero_max}
use Rattle.al_parse_type.proofs.TypeComplete.{Bare, base_sees}
use Rattle.al_parse_type.proofs.BaseWhole.{no_bracket_ends, base_within_c}
use Rattle.al_parse_expr.specs.Parse.{Sized, begins_value}
use Rattle.al_parse_expr.specs.Within.{assignment_within}
use Rattle.al_parse_expr.proofs.Begins.{asg_long, asg_high, value_local}
use Rattle.al_parse_expr.proofs.Stops.{stops}
use Rattle.al_parse_expr.proofs.Follow.{FollowAsg, before_comma}
use Rattle.al_parse_expr.proofs.ExprComplete.{asg_c, at_kind, pred_le}
use Rattle.al_parse_member.specs.Members as parse
use Rattle.al_parse_member.specs.Members.{SizedDcl, SizedMember, Members, SizedPart, SizedAdtMember, AdtMembers, Constants, SizedInitializer}
use Rattle.al_parse_member.proofs.Steps as step
use Rattle.al_parse_member.proofs.ParameterComplete.{kind_not, star_is_no_bracket, name_is_no_bracket, name_is_no_star, name_seen, base_not, stars_not, parameter_list_c}

-- ---- what stands behind

if_both : {A : Type 0} (b : Bool) → ◌≡◌ {A = Option A} (if b then None else None) None
if_both true = refl
if_both false = refl

no_operator : (kd : TokenKind) (i : ℕ) → operation kd ≡ None → operator i kd ≡ None
no_operator kd i h = rw h (if_both (level kd == i))

-- an expression may end before a brace that closes, and before a semicolon
pub before_brace : FollowAsg k.RightBrace
unfolding same_kind
before_brace = record { follow = record { post = record { no_access = refl; no_postfix = refl; no_bracket = refl; no_paren = refl }; operators = λ i s. no_operator k.RightBrace i refl; colons = λ s. refl }; assign = refl }

pub before_semicolon : FollowAsg k.Semicolon
unfolding same_kind
before_semicolon = record { follow = record { post = record { no_access = refl; no_postfix = refl; no_bracket = refl; no_paren = refl }; operators = λ i s. no_operator k.Semicolon i refl; colons = λ s. refl }; assign = refl }

no_both : (b c : Bool) → c ≡ false → (b && c) ≡ false
no_both true c h = h
no_both false c h = refl

head_before : (u v : List Token) → 0 < length u → head (u ++ v) ≡ head u
head_before [] v h = absurd (omega arith)
head_before (t ∷ u) v h = refl

under : (h n : ℕ) → h + 1 ≤ n → h ≤ pred n
under h zero l = absurd (omega arith)
under h (suc n) l = omega arith

comma_is_no_equal : same_kind k.Comma k.Equal ≡ false
unfolding same_kind
comma_is_no_equal = refl

brace_is_no_equal : same_kind k.RightBrace k.Equal ≡ false
unfolding same_kind
brace_is_no_equal = refl

name_is_no_brace : same_kind k.Name k.RightBrace ≡ false
unfolding same_kind
name_is_no_brace = refl

open_is_no_brace : same_kind k.LeftBrace k.RightBrace ≡ false
unfolding same_kind
open_is_no_brace = refl

-- what may stand behind a constant
pub record FollowConstant (r : List Token) : Type 0 where
  pub equal : same_kind (kind r) k.Equal ≡ false
  pub asg : FollowAsg (kind r)

comma_constant : (t : Token) (ts : List Token) → t.kind ≡ k.Comma → FollowConstant (t ∷ ts)
comma_constant t ts c = record { equal = kind_not (t ∷ ts) k.Comma k.Equal (kind_of t ts k.Comma c) comma_is_no_equal; asg = at_kind FollowAsg t ts k.Comma c before_comma }

brace_constant : (t : Token) (ts : List Token) → t.kind ≡ k.RightBrace → FollowConstant (t ∷ ts)
brace_constant t ts c = record { equal = kind_not (t ∷ ts) k.RightBrace k.Equal (kind_of t ts k.RightBrace c) brace_is_no_equal; asg = at_kind FollowAsg t ts k.RightBrace c before_brace }

module _ (leaves : Leaves) (types : List ℕ) where
  -- ---- how expressions begin

  asg_begins : {u : List Token} {x : Expr} {h : ℕ} → IsAsg leaves types u x h → (r : List Token) → begins_value types (u ++ r) ≡ true
  asg_begins {u} {x} {h} d r = go (begins_value types (u ++ r)) refl
    where
      go : (b : Bool) → begins_value types (u ++ r) ≡ b → b ≡ true
      go true e = refl
      go false e =
          let G = length u + 1 in
          let no : begins_value types (u ++ []) ≡ false = value_local leaves types (u ++ []) (u ++ r) (head_before u [] (asg_long leaves types d) ∙ sym (head_before u r (asg_long leaves types d))) ∙ e in
          let bad : assignment_within leaves types G h (u ++ []) ≡ Err (Stuck (length (u ++ []))) = stops leaves types G h _ (u ++ []) no in
          let good = asg_c leaves types G d h (omega arith) [] (omega (arith, ap length (append-nil u))) (inr tt) in
          let both : ◌≡◌ {A = Outcome Sized} (Err (Stuck (length (u ++ [])))) (Ok ((x, h), [])) = sym bad ∙ good in
          absurd (let f : ⊥ = cc in f)

  value_no_open : (ts : List Token) → begins_value types ts ≡ true → same_kind (kind ts) k.LeftBrace ≡ false
  unfolding begins_value Rattle.al_parse_type.specs.Parse.sees_other_name same_kind
  value_no_open ts h = go (same_kind (kind ts) k.LeftBrace) refl
    where
      go : (b : Bool) → same_kind (kind ts) k.LeftBrace ≡ b → b ≡ false
      go false e = refl
      go true e = let c : kind ts ≡ k.LeftBrace = kind_is (kind ts) k.LeftBrace e in absurd (let n : true ≡ false = sym h ∙ rw c refl in let f : ⊥ = cc in f)

  value_no_close : (ts : List Token) → begins_value types ts ≡ true → same_kind (kind ts) k.RightBrace ≡ false
  unfolding begins_value Rattle.al_parse_type.specs.Parse.sees_other_name same_kind
  value_no_close ts h = go (same_kind (kind ts) k.RightBrace) refl
    where
      go : (b : Bool) → same_kind (kind ts) k.RightBrace ≡ b → b ≡ false
      go false e = refl
      go true e = let c : kind ts ≡ k.RightBrace = kind_is (kind ts) k.RightBrace e in absurd (let n : true ≡ false = sym h ∙ rw c refl in let f : ⊥ = cc in f)

module _ (leaves : Leaves) (types : List ℕ) (F : ℕ) where
  -- ---- constants

  constant_c : {u : List Token} {x : Constant} {h : ℕ} → IsConstant leaves types u x h → (n : ℕ) → h ≤ n → (r : List Token) → length (u ++ r) < F → FollowConstant r → parse.constant leaves types F n (u ++ r) ≡ Ok ((x, h), r)
  constant_c (items.bare t (rules.other_name c f)) n low r s g = step.step_constant leaves types F n t r c f g.equal
  constant_c (items.set t e {u = u} {x = x} {h = h} (rules.other_name c f) ec a) n low r s g =
      let high : 0 < h = asg_high leaves types a in
      step.step_set leaves types F n t e (u ++ r) r (x, h) c f ec (nat_lt_is 0 n (omega (arith, high, low))) (asg_c leaves types F a n low r (omega (arith, s)) (inl g.asg))

  constant_no_brace : {u : List Token} {x : Constant} {h : ℕ} → IsConstant leaves types u x h → (r : List Token) → same_kind (kind (u ++ r)) k.RightBrace ≡ false
  constant_no_brace (items.bare t (rules.other_name c f)) r = kind_not (t ∷ r) k.Name k.RightBrace (kind_of t r k.Name c) name_is_no_brace
  constant_no_brace (items.set t e {u = u} (rules.other_name c f) ec a) r = kind_not (t ∷ e ∷ (u ++ r)) k.Name k.RightBrace (kind_of t (e ∷ (u ++ r)) k.Name c) name_is_no_brace

  constant_long : {u : List Token} {x : Constant} {h : ℕ} → IsConstant leaves types u x h → 0 < length u
  constant_long (items.bare t c) = omega arith
  constant_long (items.set t e c ec a) = omega arith

  record AfterConstants (n : ℕ) (u : List Token) (xs : List Constant) (h : ℕ) (r : List Token) : Type 0 where
    left : ℕ
    enough : length r < left
    is : parse.constants_from leaves types F n F [] 0 (u ++ r) ≡ parse.constant_behind leaves types F n (parse.constants_from leaves types F n left) xs h r

  constants_c : {u : List Token} {xs : List Constant} {h : ℕ} → IsConstants leaves types u xs h → (n : ℕ) → h ≤ n → (r : List Token) → length (u ++ r) < F → FollowConstant r → AfterConstants n u xs h r
  constants_c (items.one {u = u} {x = x} {h = h} d) n low r s g =
      let long : 0 < length u = constant_long d in
      record {
        left = pred F;
        enough = less_pred (length r) F (omega (arith, s, long, length-append u r));
        is = ap (λ m. parse.constants_from leaves types F n m [] 0 (u ++ r)) (some_pred F (length (u ++ r)) s)
            ∙ step.step_constants leaves types F n (pred F) (u ++ r) r [] 0 (x, h) (constant_c d n low r s g)
            ∙ ap (λ i. parse.constant_behind leaves types F n (parse.constants_from leaves types F n (pred F)) (x ∷ []) i r) (zero_max h);
      }
  constants_c (items.more t {u = u} {v = v} {xs = xs} {x = x} {h = h} {i = i} l c d) n low r s g =
      let cut : (u ++ t ∷ v) ++ r ≡ u ++ (t ∷ (v ++ r)) = append_assoc u (t ∷ v) r in
      let s1 : length (u ++ (t ∷ (v ++ r))) < F = omega (arith, s, ap length cut) in
      let q = constants_c l n (omega (arith, low)) (t ∷ (v ++ r)) s1 (comma_constant t (v ++ r) c) in
      record {
        left = pred q.left;
        enough = less_pred (length r) q.left (omega (arith, q.enough, length-append v r));
        is = ap (parse.constants_from leaves types F n F [] 0) cut ∙ q.is
            ∙ step.constant_goes_on leaves types F n (parse.constants_from leaves types F n q.left) t (v ++ r) xs h c (constant_no_brace d r)
            ∙ ap (λ m. parse.constants_from leaves types F n m xs h (v ++ r)) (some_pred q.left (length (t ∷ (v ++ r))) q.enough)
            ∙ step.step_constants leaves types F n (pred q.left) (v ++ r) r xs h (x, i) (constant_c d n (omega (arith, low)) r (tail_short u t (v ++ r) F s1) g);
      }

  -- the constants of an enum in braces
  pub enum_body_c : {u : List Token} {xs : List Constant} {h : ℕ} → IsEnumBody leaves types u xs h → (n : ℕ) → h ≤ n → (r : List Token) → length (u ++ r) < F → parse.enum_body leaves types F n (u ++ r) ≡ Ok ((xs, h), r)
  enum_body_c (items.braces o c {u = u} {xs = xs} {h = h} oc l ec) n low r s =
      let cut : (u ++ c ∷ []) ++ r ≡ u ++ (c ∷ r) = append_assoc u (c ∷ []) r in
      let q = constants_c l n low (c ∷ r) (omega (arith, s, ap length cut)) (brace_constant c r ec) in
      step.step_enum leaves types F n o ((u ++ c ∷ []) ++ r) oc ∙ ap (parse.constants_from leaves types F n F [] 0) cut ∙ q.is
      ∙ step.constants_end leaves types F n (parse.constants_from leaves types F n q.left) c r xs h ec
  enum_body_c (items.braces_comma o t c {u = u} {xs = xs} {h = h} oc l tc ec) n low r s =
      let cut : (u ++ t ∷ c ∷ []) ++ r ≡ u ++ (t ∷ c ∷ r) = append_assoc u (t ∷ c ∷ []) r in
      let q = constants_c l n low (t ∷ c ∷ r) (omega (arith, s, ap length cut)) (comma_constant t (c ∷ r) tc) in
      step.step_enum leaves types F n o ((u ++ t ∷ c ∷ []) ++ r) oc ∙ ap (parse.constants_from leaves types F n F [] 0) cut ∙ q.is
      ∙ step.constants_end_comma leaves types F n (parse.constants_from leaves types F n q.left) t c r xs h tc ec

  -- ---- initializers

  abbrev I : ℕ → Parser SizedInitializer
  I n = parse.initializer leaves types F n

  initializer_sub : (n : ℕ) (ts : List Token) (o : Outcome SizedInitializer) → 0 < n → parse.initializer_at leaves types F n (I (pred n)) ts ≡ o → I n ts ≡ o
  unfolding parse.initializer
  initializer_sub n ts o some h = let e : n ≡ suc (pred n) = some_pred n 0 some in ap (λ m. I m ts) e ∙ ap (λ m. parse.initializer_at leaves types F m (I (pred n)) ts) (sym e) ∙ h

  pub initializer_high : {u : List Token} {x : Initializer} {h : ℕ} → IsInitializer leaves types u x h → 0 < h
  initializer_high (items.value a) = asg_high leaves types a
  initializer_high (items.braces o c oc l ec) = omega arith
  initializer_high (items.braces_comma o t c oc l tc ec) = omega arith

  initializers_high : {u : List Token} {xs : List Initializer} {h : ℕ} → IsInitializers leaves types u xs h → 0 < h
  initializers_high (items.one d) = initializer_high d
  initializers_high (items.more t {i = i} l c d) = let high : 0 < i = initializer_high d in omega (arith, high)

  initializer_long : {u : List Token} {x : Initializer} {h : ℕ} → IsInitializer leaves types u x h → 0 < length u
  initializer_long (items.value a) = asg_long leaves types a
  initializer_long (items.braces o c oc l ec) = omega arith
  initializer_long (items.braces_comma o t c oc l tc ec) = omega arith

  initializer_no_brace : {u : List Token} {x : Initializer} {h : ℕ} → IsInitializer leaves types u x h → (r : List Token) → same_kind (kind (u ++ r)) k.RightBrace ≡ false
  initializer_no_brace (items.value {u = u} a) r = value_no_close leaves types (u ++ r) (asg_begins leaves types a r)
  initializer_no_brace (items.braces o c {u = u} oc l ec) r = kind_not (o ∷ ((u ++ c ∷ []) ++ r)) k.LeftBrace k.RightBrace (kind_of o ((u ++ c ∷ []) ++ r) k.LeftBrace oc) open_is_no_brace
  initializer_no_brace (items.braces_comma o t c {u = u} oc l tc ec) r = kind_not (o ∷ ((u ++ t ∷ c ∷ []) ++ r)) k.LeftBrace k.RightBrace (kind_of o ((u ++ t ∷ c ∷ []) ++ r) k.LeftBrace oc) open_is_no_brace

  record AfterParts (n : ℕ) (u : List Token) (xs : List Initializer) (h : ℕ) (r : List Token) : Type 0 where
    left : ℕ
    enough : length r < left
    is : parse.parts_from leaves types F n (I (pred n)) F [] 0 (u ++ r) ≡ parse.part_behind leaves types F n (I (pred n)) (parse.parts_from leaves types F n (I (pred n)) left) xs h r

  braces_of : (n : ℕ) (o c : Token) (u : List Token) (xs : List Initializer) (h : ℕ) (r : List Token) → o.kind ≡ k.LeftBrace → 0 < h → h + 1 ≤ n → c.kind ≡ k.RightBrace → AfterParts n u xs h (c ∷ r) → I n ((o ∷ (u ++ c ∷ [])) ++ r) ≡ Ok ((ini.Braces o.place xs, h + 1), r)
  braces_of n o c u xs h r oc high low ec q =
      let cut : (u ++ c ∷ []) ++ r ≡ u ++ (c ∷ r) = append_assoc u (c ∷ []) r in
      initializer_sub n (o ∷ ((u ++ c ∷ []) ++ r)) (Ok ((ini.Braces o.place xs, h + 1), r)) (omega (arith, low))
      (step.step_braces leaves types F n (I (pred n)) o ((u ++ c ∷ []) ++ r) r (xs, h) oc (nat_lt_is 1 n (omega (arith, high, low)))
      (ap (parse.parts_from leaves types F n (I (pred n)) F [] 0) cut ∙ q.is ∙ step.parts_end leaves types F n (I (pred n)) (parse.parts_from leaves types F n (I (pred n)) q.left) c r xs h ec))

  braces_comma_of : (n : ℕ) (o t c : Token) (u : List Token) (xs : List Initializer) (h : ℕ) (r : List Token) → o.kind ≡ k.LeftBrace → 0 < h → h + 1 ≤ n → t.kind ≡ k.Comma → c.kind ≡ k.RightBrace → AfterParts n u xs h (t ∷ c ∷ r)
      → I n ((o ∷ (u ++ t ∷ c ∷ [])) ++ r) ≡ Ok ((ini.Braces o.place xs, h + 1), r)
  braces_comma_of n o t c u xs h r oc high low tc ec q =
      let cut : (u ++ t ∷ c ∷ []) ++ r ≡ u ++ (t ∷ c ∷ r) = append_assoc u (t ∷ c ∷ []) r in
      initializer_sub n (o ∷ ((u ++ t ∷ c ∷ []) ++ r)) (Ok ((ini.Braces o.place xs, h + 1), r)) (omega (arith, low))
      (step.step_braces leaves types F n (I (pred n)) o ((u ++ t ∷ c ∷ []) ++ r) r (xs, h) oc (nat_lt_is 1 n (omega (arith, high, low)))
      (ap (parse.parts_from leaves types F n (I (pred n)) F [] 0) cut ∙ q.is ∙ step.parts_end_comma leaves types F n (I (pred n)) (parse.parts_from leaves types F n (I (pred n)) q.left) t c r xs h tc ec))

  mutual
    pub initializer_c : {u : List Token} {x : Initializer} {h : ℕ} → IsInitializer leaves types u x h → (n : ℕ) → h ≤ n → (r : List Token) → length (u ++ r) < F → FollowAsg (kind r) → I n (u ++ r) ≡ Ok ((x, h), r)
    initializer_c (items.value {u = u} {x = x} {h = h} a) n low r s f =
        let high : 0 < h = asg_high leaves types a in
        initializer_sub n (u ++ r) (Ok ((ini.Value x, h), r)) (omega (arith, high, low))
        (step.step_value leaves types F n (I (pred n)) (u ++ r) r (x, h) (value_no_open leaves types (u ++ r) (asg_begins leaves types a r)) (asg_c leaves types F a n low r s (inl f)))
    initializer_c (items.braces o c {u = u} {xs = xs} {h = h} oc l ec) n low r s f =
        braces_of n o c u xs h r oc (initializers_high l) low ec (parts_c l n low (c ∷ r) (omega (arith, s, ap length (append_assoc u (c ∷ []) r))) (at_kind FollowAsg c r k.RightBrace ec before_brace))
    initializer_c (items.braces_comma o t c {u = u} {xs = xs} {h = h} oc l tc ec) n low r s f =
        braces_comma_of n o t c u xs h r oc (initializers_high l) low tc ec (parts_c l n low (t ∷ c ∷ r) (omega (arith, s, ap length (append_assoc u (t ∷ c ∷ []) r))) (at_kind FollowAsg t (c ∷ r) k.Comma tc before_comma))

    parts_c : {u : List Token} {xs : List Initializer} {h : ℕ} → IsInitializers leaves types u xs h → (n : ℕ) → h + 1 ≤ n → (r : List Token) → length (u ++ r) < F → FollowAsg (kind r) → AfterParts n u xs h r
    parts_c (items.one {u = u} {x = x} {h = h} d) n low r s f =
        let long : 0 < length u = initializer_long d in
        record {
          left = pred F;
          enough = less_pred (length r) F (omega (arith, s, long, length-append u r));
          is = ap (λ m. parse.parts_from leaves types F n (I (pred n)) m [] 0 (u ++ r)) (some_pred F (length (u ++ r)) s)
              ∙ step.step_parts leaves types F n (I (pred n)) (pred F) (u ++ r) r [] 0 (x, h) (initializer_c d (pred n) (under h n low) r s f)
              ∙ ap (λ i. parse.part_behind leaves types F n (I (pred n)) (parse.parts_from leaves types F n (I (pred n)) (pred F)) (x ∷ []) i r) (zero_max h);
        }
    parts_c (items.more t {u = u} {v = v} {xs = xs} {x = x} {h = h} {i = i} l c d) n low r s f =
        let cut : (u ++ t ∷ v) ++ r ≡ u ++ (t ∷ (v ++ r)) = append_assoc u (t ∷ v) r in
        let s1 : length (u ++ (t ∷ (v ++ r))) < F = omega (arith, s, ap length cut) in
        let q = parts_c l n (omega (arith, low)) (t ∷ (v ++ r)) s1 (at_kind FollowAsg t (v ++ r) k.Comma c before_comma) in
        record {
          left = pred q.left;
          enough = less_pred (length r) q.left (omega (arith, q.enough, length-append v r));
          is = ap (parse.parts_from leaves types F n (I (pred n)) F [] 0) cut ∙ q.is
              ∙ step.part_goes_on leaves types F n (I (pred n)) (parse.parts_from leaves types F n (I (pred n)) q.left) t (v ++ r) xs h c (initializer_no_brace d r)
              ∙ ap (λ m. parse.parts_from leaves types F n (I (pred n)) m xs h (v ++ r)) (some_pred q.left (length (t ∷ (v ++ r))) q.enough)
              ∙ step.step_parts leaves types F n (I (pred n)) (pred q.left) (v ++ r) r xs h (x, i) (initializer_c d (pred n) (under i n (omega (arith, low))) r (tail_short u t (v ++ r) F s1) f);
        }

-- ---- members

aggregate_no_scope : (kd : TokenKind) (x : AggregateKind) → plain_aggregate kd ≡ Some x → member_scope kd ≡ None
aggregate_no_scope k.Intern x h = absurd (let f : ⊥ = cc in f)
aggregate_no_scope k.Extern x h = absurd (let f : ⊥ = cc in f)
aggregate_no_scope _ x h = refl

no_aggregate : (kd : TokenKind) → same_kind kd k.Aggr ≡ false → same_kind kd k.Union ≡ false → plain_aggregate kd ≡ None
unfolding same_kind
no_aggregate k.Aggr f g = absurd (let z : ⊥ = cc in z)
no_aggregate k.Union f g = absurd (let z : ⊥ = cc in z)
no_aggregate _ f g = refl

no_scope : (kd : TokenKind) → same_kind kd k.Intern ≡ false → same_kind kd k.Extern ≡ false → member_scope kd ≡ None
unfolding same_kind
no_scope k.Intern f g = absurd (let z : ⊥ = cc in z)
no_scope k.Extern f g = absurd (let z : ⊥ = cc in z)
no_scope _ f g = refl

name_kind : (kd : TokenKind) → is_name kd ≡ true → kd ≡ k.Name
name_kind k.Name h = refl
name_kind _ h = absurd (let z : ⊥ = cc in z)

star_is_no_semicolon : same_kind k.Star k.Semicolon ≡ false
unfolding same_kind
star_is_no_semicolon = refl

name_is_no_semicolon : same_kind k.Name k.Semicolon ≡ false
unfolding same_kind
name_is_no_semicolon = refl

bracket_is_no_open : same_kind k.LeftBracket k.LeftParen ≡ false
unfolding same_kind
bracket_is_no_open = refl

-- where a list begins does not depend on what stands behind its first token
same_start : (v : List Token) (t : Token) (r : List Token) → start (v ++ (t ∷ r)) ≡ start (v ++ t ∷ [])
same_start [] t r = refl
same_start (q ∷ v) t r = refl

or_right : (x y : Bool) → y ≡ true → (x || y) ≡ true
or_right true y h = refl
or_right false y h = h

or_left : (x y : Bool) → x ≡ true → (x || y) ≡ true
or_left true y h = refl
or_left false y h = absurd (let z : ⊥ = cc in z)

-- what may stand behind a declarator of a member
record FollowDcl (r : List Token) : Type 0 where
  bracket : same_kind (kind r) k.LeftBracket ≡ false
  paren : same_kind (kind r) k.LeftParen ≡ false

comma_dcl : (t : Token) (ts : List Token) → t.kind ≡ k.Comma → FollowDcl (t ∷ ts)
unfolding kind same_kind
comma_dcl t ts c = record { bracket = rw c refl; paren = rw c refl }

semicolon_dcl : (t : Token) (ts : List Token) → t.kind ≡ k.Semicolon → FollowDcl (t ∷ ts)
unfolding kind same_kind
semicolon_dcl t ts c = record { bracket = rw c refl; paren = rw c refl }

semicolon_no_comma : (t : Token) (ts : List Token) → t.kind ≡ k.Semicolon → same_kind (kind (t ∷ ts)) k.Comma ≡ false
unfolding kind same_kind
semicolon_no_comma t ts c = rw c refl

semicolon_no_bracket : (t : Token) (ts : List Token) → t.kind ≡ k.Semicolon → same_kind (kind (t ∷ ts)) k.LeftBracket ≡ false
unfolding kind same_kind
semicolon_no_bracket t ts c = rw c refl

module _ (leaves : Leaves) (types : List ℕ) where
  -- ---- how members begin

  base_no_aggregate : {takes : Bool} {u : List Token} {x : TypeTree} {h : ℕ} → IsBase leaves types true takes u x h → (r : List Token) → plain_aggregate (kind (u ++ r)) ≡ None
  unfolding same_kind
  base_no_aggregate {u = u} d r = no_aggregate (kind (u ++ r)) (base_not leaves types d r k.Aggr refl refl refl refl refl) (base_not leaves types d r k.Union refl refl refl refl refl)

  base_no_scope : {takes : Bool} {u : List Token} {x : TypeTree} {h : ℕ} → IsBase leaves types true takes u x h → (r : List Token) → member_scope (kind (u ++ r)) ≡ None
  unfolding same_kind
  base_no_scope {u = u} d r = no_scope (kind (u ++ r)) (base_not leaves types d r k.Intern refl refl refl refl refl) (base_not leaves types d r k.Extern refl refl refl refl refl)

  -- a base type that begins with a name begins with the name of a type
  base_name : {takes : Bool} {u : List Token} {x : TypeTree} {h : ℕ} → IsBase leaves types true takes u x h → begins_with_name u ≡ true → (r : List Token) → sees_type_name types (u ++ r) ≡ true
  base_name (rules.basic t {x = x} c) q r =
      let e : None ≡ Some x = sym (ap basic_type (name_kind t.kind q)) ∙ c in
      absurd (let f : ⊥ = cc in f)
  base_name (rules.named t (rules.type_name c e)) q r = name_seen leaves types t r c e
  base_name (rules.instance t o c {u = u} (rules.type_name tc e) oc a ec) q r = name_seen leaves types t (o ∷ ((u ++ c ∷ []) ++ r)) tc e
  base_name (rules.tuple w o c wc oc a ec) q r = absurd (let e : true ≡ false = sym q ∙ ap is_name wc in let f : ⊥ = cc in f)
  base_name (rules.bare_tuple o c oc a ec) q r = absurd (let e : true ≡ false = sym q ∙ ap is_name oc in let f : ⊥ = cc in f)
  base_name (rules.channel w o c wc oc a ec) q r = absurd (let e : true ≡ false = sym q ∙ ap is_name wc in let f : ⊥ = cc in f)
  base_name (rules.buffered w o c p s wc oc a ec pc m sc) q r = absurd (let e : true ≡ false = sym q ∙ ap is_name wc in let f : ⊥ = cc in f)

  type_member : (ts : List Token) → sees_type types ts ≡ true → parse.begins_member types ts ≡ true
  unfolding parse.begins_member
  type_member ts h = or_left (sees_type types ts) _ h

  open_member : (ts : List Token) → kind ts ≡ k.LeftParen → parse.begins_member types ts ≡ true
  unfolding parse.begins_member same_kind
  open_member ts c = or_right (sees_type types ts) _ (rw c refl)

  word_member : (w : Token) (ts : List Token) (kd : AggregateKind) → plain_aggregate w.kind ≡ Some kd → parse.begins_member types (w ∷ ts) ≡ true
  unfolding parse.begins_member kind
  word_member w ts kd c = or_right (sees_type types (w ∷ ts)) _ (or_right (same_kind w.kind k.LeftParen) _ (ap is_some c))

  base_member : {takes : Bool} {u : List Token} {x : TypeTree} {h : ℕ} → IsBase leaves types true takes u x h → (r : List Token) → parse.begins_member types (u ++ r) ≡ true
  base_member {takes} {u} {x} {h} d r = go (base_sees leaves types 0 d r)
    where
      go : (sees_type types (u ++ r) ≡ true) ⊎ ((true ≡ true) × Bare leaves types 0 u (record { tree = x; height = h; takes_bracket = takes })) → parse.begins_member types (u ++ r) ≡ true
      go (inl q) = type_member (u ++ r) q
      go (inr q) = let p = q.1 in open_member (u ++ r) (ap (λ l. kind (l ++ r)) p.cut ∙ kind_of p.open_token ((p.inside ++ p.close_token ∷ []) ++ r) k.LeftParen p.opens)

  member_begins : {u : List Token} {x : Member} {h : ℕ} → IsMember leaves types u x h → (r : List Token) → parse.begins_member types (u ++ r) ≡ true
  member_begins (items.fields t {u = u} {v = v} d l c) r = subst (λ q. parse.begins_member types q ≡ true) (sym (append_assoc (u ++ v) (t ∷ []) r ∙ append_assoc u v (t ∷ r))) (base_member d (v ++ (t ∷ r)))
  member_begins (items.unnamed t {u = u} d q c) r = subst (λ q. parse.begins_member types q ≡ true) (sym (append_assoc u (t ∷ []) r)) (base_member d (t ∷ r))
  member_begins (items.inner w o c t {u = u} {kind = kd} wc oc l ec tc) r = word_member w (o ∷ ((u ++ c ∷ t ∷ []) ++ r)) kd wc

  part_begins : {u : List Token} {x : AdtPart} {h : ℕ} → IsAdtPart leaves types u x h → (r : List Token) → parse.begins_member types (u ++ r) ≡ true
  part_begins (items.data_member d) r = member_begins d r
  part_begins (items.function t o c q {u = u} {v = v} {r = p} d a nc oc l ec qc) r =
      let w = t ∷ o ∷ (p ++ c ∷ q ∷ []) in
      subst (λ z. parse.begins_member types z ≡ true) (sym (append_assoc (u ++ v) w r ∙ append_assoc u v (w ++ r))) (base_member d (v ++ (w ++ r)))

  member_adt : (ts : List Token) → parse.begins_member types ts ≡ true → parse.begins_adt_member types ts ≡ true
  unfolding parse.begins_adt_member
  member_adt ts h = or_left (parse.begins_member types ts) _ h

  adt_member_begins : {u : List Token} {x : AdtMember} {h : ℕ} → IsAdtMember leaves types u x h → (r : List Token) → parse.begins_adt_member types (u ++ r) ≡ true
  unfolding parse.begins_adt_member kind
  adt_member_begins (items.plain {u = u} d) r = member_adt (u ++ r) (part_begins d r)
  adt_member_begins (items.marked w {u = u} c d) r = or_right (parse.begins_member types (w ∷ (u ++ r))) _ (ap is_some c)

  closes_members : (c : Token) (r : List Token) → c.kind ≡ k.RightBrace → parse.begins_member types (c ∷ r) ≡ false
  unfolding parse.begins_member sees_type sees_type_name kind same_kind
  closes_members c r ec = rw ec refl

  closes_adt_members : (c : Token) (r : List Token) → c.kind ≡ k.RightBrace → parse.begins_adt_member types (c ∷ r) ≡ false
  unfolding parse.begins_adt_member parse.begins_member sees_type sees_type_name kind same_kind
  closes_adt_members c r ec = rw ec refl

  part_no_scope : {u : List Token} {x : AdtPart} {h : ℕ} → IsAdtPart leaves types u x h → (r : List Token) → member_scope (kind (u ++ r)) ≡ None
  part_no_scope (items.data_member (items.fields t {u = u} {v = v} d l c)) r = ap (λ q. member_scope (kind q)) (append_assoc (u ++ v) (t ∷ []) r ∙ append_assoc u v (t ∷ r)) ∙ base_no_scope d (v ++ (t ∷ r))
  part_no_scope (items.data_member (items.unnamed t {u = u} d q c)) r = ap (λ q. member_scope (kind q)) (append_assoc u (t ∷ []) r) ∙ base_no_scope d (t ∷ r)
  part_no_scope (items.data_member (items.inner w o c t {u = u} {kind = kd} wc oc l ec tc)) r = ap member_scope (kind_of w (o ∷ ((u ++ c ∷ t ∷ []) ++ r)) w.kind refl) ∙ aggregate_no_scope w.kind kd wc
  part_no_scope (items.function t o c q {u = u} {v = v} {r = p} d a nc oc l ec qc) r =
      let w = t ∷ o ∷ (p ++ c ∷ q ∷ []) in
      ap (λ z. member_scope (kind z)) (append_assoc (u ++ v) w r ∙ append_assoc u v (w ++ r)) ∙ base_no_scope d (v ++ (w ++ r))

  member_high : {u : List Token} {x : Member} {h : ℕ} → IsMember leaves types u x h → 0 < h
  member_high (items.fields t d l c) = omega arith
  member_high (items.unnamed t d q c) = omega arith
  member_high (items.inner w o c t wc oc l ec tc) = omega arith

  members_high : {u : List Token} {xs : List Member} {h : ℕ} → IsMembers leaves types u xs h → 0 < h
  members_high (items.one d) = member_high d
  members_high (items.more {i = i} l d) = let high : 0 < i = member_high d in omega (arith, high)

  part_high : {u : List Token} {x : AdtPart} {h : ℕ} → IsAdtPart leaves types u x h → 0 < h
  part_high (items.data_member d) = member_high d
  part_high (items.function t o c q d a nc oc l ec qc) = omega arith

  adt_member_high : {u : List Token} {x : AdtMember} {h : ℕ} → IsAdtMember leaves types u x h → 0 < h
  adt_member_high (items.plain d) = part_high d
  adt_member_high (items.marked w c d) = part_high d

  pub adt_members_high : {u : List Token} {xs : List AdtMember} {h : ℕ} → IsAdtMembers leaves types u xs h → 0 < h
  adt_members_high (items.one d) = adt_member_high d
  adt_members_high (items.more {i = i} l d) = let high : 0 < i = adt_member_high d in omega (arith, high)

  member_long : {u : List Token} {x : Member} {h : ℕ} → IsMember leaves types u x h → 0 < length u
  member_long (items.fields t {u = u} {v = v} d l c) = omega (arith, length-append (u ++ v) (t ∷ []))
  member_long (items.unnamed t {u = u} d q c) = omega (arith, length-append u (t ∷ []))
  member_long (items.inner w o c t wc oc l ec tc) = omega arith

  part_long : {u : List Token} {x : AdtPart} {h : ℕ} → IsAdtPart leaves types u x h → 0 < length u
  part_long (items.data_member d) = member_long d
  part_long (items.function t o c q {u = u} {v = v} {r = p} d a nc oc l ec qc) = omega (arith, length-append (u ++ v) (t ∷ o ∷ (p ++ c ∷ q ∷ [])))

  adt_member_long : {u : List Token} {x : AdtMember} {h : ℕ} → IsAdtMember leaves types u x h → 0 < length u
  adt_member_long (items.plain d) = part_long d
  adt_member_long (items.marked w c d) = omega arith

  -- ---- how declarators begin

  dcl_not : {u : List Token} {x : Dcl} {h : ℕ} → IsDcl leaves types u x h → (r : List Token) (kd : TokenKind) → same_kind k.Star kd ≡ false → same_kind k.Name kd ≡ false → same_kind (kind (u ++ r)) kd ≡ false
  dcl_not (rules.dcl t {u = u} {v = v} a (rules.other_name c f) b) r kd st na =
      ap (λ q. same_kind (kind q) kd) (append_assoc u (t ∷ v) r) ∙ stars_not leaves types a (t ∷ (v ++ r)) kd st (kind_not (t ∷ (v ++ r)) k.Name kd (kind_of t (v ++ r) k.Name c) na)

  dcls_not : {u : List Token} {xs : List Dcl} {h : ℕ} → IsDcls leaves types u xs h → (r : List Token) (kd : TokenKind) → same_kind k.Star kd ≡ false → same_kind k.Name kd ≡ false → same_kind (kind (u ++ r)) kd ≡ false
  dcls_not (items.one d) r kd st na = dcl_not d r kd st na
  dcls_not (items.more t {u = u} {v = v} l c d) r kd st na = ap (λ q. same_kind (kind q) kd) (append_assoc u (t ∷ v) r) ∙ dcls_not l (t ∷ (v ++ r)) kd st na

  bounds_no_open : {v : List Token} {xs : List Bound} {h : ℕ} → IsBounds leaves types v xs h → (r : List Token) → same_kind (kind r) k.LeftParen ≡ false → same_kind (kind (v ++ r)) k.LeftParen ≡ false
  bounds_no_open rules.none r f = f
  bounds_no_open (rules.more o c {u = u} {v = v} l oc b ec) r f =
      ap (λ q. same_kind (kind q) k.LeftParen) (append_assoc u (o ∷ (v ++ c ∷ [])) r)
      ∙ bounds_no_open l (o ∷ ((v ++ c ∷ []) ++ r)) (kind_not (o ∷ ((v ++ c ∷ []) ++ r)) k.LeftBracket k.LeftParen (kind_of o ((v ++ c ∷ []) ++ r) k.LeftBracket oc) bracket_is_no_open)

module _ (leaves : Leaves) (types : List ℕ) (F : ℕ) where
  abbrev M : ℕ → Parser SizedMember
  M n = parse.member leaves types F n

  abbrev base_of : TypeTree → ℕ → Bool → ReadBase
  base_of x h takes = record { tree = x; height = h; takes_bracket = takes }

  base_read : {takes : Bool} {u : List Token} {x : TypeTree} {h : ℕ} → IsBase leaves types true takes u x h → (n : ℕ) → h ≤ n → (r : List Token) → length (u ++ r) < F → same_kind (kind r) k.LeftBracket ≡ false → base_within leaves types F n (u ++ r) ≡ Ok (base_of x h takes, r)
  base_read {takes} {u} d n low r s f = base_within_c leaves types F d n low r s (no_bracket_ends leaves types F takes u r f)

  -- ---- declarators

  -- the first declarator of a list, and the loop behind it
  record FirstDcl (n : ℕ) (u : List Token) (xs : List Dcl) (h : ℕ) (r : List Token) : Type 0 where
    front : List Token
    back : List Token
    first : Dcl
    low : ℕ
    is : IsDcl leaves types front first low
    lower : low ≤ h
    cut : u ≡ front ++ back
    after : FollowDcl (back ++ r)
    left : ℕ
    enough : length r < left
    loop : parse.dcls_from leaves types F n F (first ∷ []) low (back ++ r) ≡ parse.dcls_from leaves types F n left xs h r

  first_dcl : {u : List Token} {xs : List Dcl} {h : ℕ} → IsDcls leaves types u xs h → (n : ℕ) → h ≤ n → (r : List Token) → length (u ++ r) < F → FollowDcl r → FirstDcl n u xs h r
  first_dcl (items.one {u = u} {x = x} {h = h} d) n low r s f = record { front = u; back = []; first = x; low = h; is = d; lower = omega arith; cut = sym (append-nil u); after = f; left = F; enough = rest_short u r F s; loop = refl }
  first_dcl (items.more t {u = u} {v = v} {xs = xs} {x = x} {h = h} {i = i} l c d) n low r s f =
      let cut = append_assoc u (t ∷ v) r in
      let s1 : length (u ++ (t ∷ (v ++ r))) < F = omega (arith, s, ap length cut) in
      let q = first_dcl l n (omega (arith, low)) (t ∷ (v ++ r)) s1 (comma_dcl t (v ++ r) c) in
      let back_e : (q.back ++ t ∷ v) ++ r ≡ q.back ++ (t ∷ (v ++ r)) = append_assoc q.back (t ∷ v) r in
      record {
        front = q.front;
        back = q.back ++ t ∷ v;
        first = q.first;
        low = q.low;
        is = q.is;
        lower = omega (arith, q.lower);
        cut = ap (λ m. m ++ t ∷ v) q.cut ∙ append_assoc q.front q.back (t ∷ v);
        after = subst FollowDcl (sym back_e) q.after;
        left = pred q.left;
        enough = less_pred (length r) q.left (omega (arith, q.enough, length-append v r));
        loop = ap (parse.dcls_from leaves types F n F (q.first ∷ []) q.low) back_e ∙ q.loop
            ∙ ap (λ m. parse.dcls_from leaves types F n m xs h (t ∷ (v ++ r))) (some_pred q.left (length (t ∷ (v ++ r))) q.enough)
            ∙ step.step_dcls leaves types F n (pred q.left) t (v ++ r) r xs h (x, i) c (dcl_c leaves types F d n (omega (arith, low)) r (tail_short u t (v ++ r) F s1) f.bracket);
      }

  -- a list of declarators behind a base type, by its first one
  record Fields (n : ℕ) (at : Place) (b : ReadBase) (v : List Token) (ys : List Dcl) (i : ℕ) (t : Token) (r : List Token) : Type 0 where
    front : List Token
    behind : List Token
    first : Dcl
    low : ℕ
    is : IsDcl leaves types front first low
    lower : low ≤ i
    cut : v ++ (t ∷ r) ≡ front ++ behind
    after : FollowDcl behind
    reads : parse.fields_after leaves types F n at b (first, low) behind ≡ Ok ((mem.Fields at b.tree ys, max b.height i + 1), r)

  fields_of : {v : List Token} {ys : List Dcl} {i : ℕ} → IsDcls leaves types v ys i → (n : ℕ) → i ≤ n → (at : Place) (b : ReadBase) (t : Token) (r : List Token) → length (v ++ (t ∷ r)) < F → t.kind ≡ k.Semicolon → Fields n at b v ys i t r
  fields_of {v} {ys} {i} l n low at b t r s tc =
      let q = first_dcl l n low (t ∷ r) s (semicolon_dcl t r tc) in
      record {
        front = q.front;
        behind = q.back ++ (t ∷ r);
        first = q.first;
        low = q.low;
        is = q.is;
        lower = q.lower;
        cut = ap (λ m. m ++ (t ∷ r)) q.cut ∙ append_assoc q.front q.back (t ∷ r);
        after = q.after;
        reads = step.step_fields leaves types F n at b (q.first, q.low) t (q.back ++ (t ∷ r)) r ys i
            (q.loop ∙ ap (λ m. parse.dcls_from leaves types F n m ys i (t ∷ r)) (some_pred q.left (length (t ∷ r)) q.enough) ∙ step.end_dcls leaves types F n (pred q.left) (t ∷ r) ys i (semicolon_no_comma t r tc)) tc;
      }

  -- ---- members without members in them

  module _ (n : ℕ) (sub : Parser SizedMember) where
    member_fields_c : {v : List Token} {ys : List Dcl} {i : ℕ} → IsDcls leaves types v ys i → i ≤ n → (is_name : Bool) (at : Place) (b : ReadBase) (t : Token) (r : List Token) → length (v ++ (t ∷ r)) < F → t.kind ≡ k.Semicolon
        → parse.member_after leaves types F n sub is_name at b (v ++ (t ∷ r)) ≡ Ok ((mem.Fields at b.tree ys, max b.height i + 1), r)
    member_fields_c {v} {ys} {i} l low is_name at b t r s tc =
        let q = fields_of l n low at b t r s tc in
        let s1 : length (q.front ++ q.behind) < F = omega (arith, s, ap length q.cut) in
        let no_semicolon : same_kind (kind (q.front ++ q.behind)) k.Semicolon ≡ false = dcl_not leaves types q.is q.behind k.Semicolon star_is_no_semicolon name_is_no_semicolon in
        ap (parse.member_after leaves types F n sub is_name at b) q.cut
        ∙ step.step_member_fields leaves types F n sub is_name at b (q.front ++ q.behind) q.behind (q.first, q.low) (no_both is_name _ no_semicolon) (dcl_c leaves types F q.is n (omega (arith, q.lower, low)) q.behind s1 q.after.bracket)
        ∙ q.reads

    fields_c : {takes : Bool} {u v : List Token} {x : TypeTree} {ys : List Dcl} {h i : ℕ} (t : Token) → IsBase leaves types true takes u x h → IsDcls leaves types v ys i → t.kind ≡ k.Semicolon → max h i ≤ n → (r : List Token) → length (u ++ (v ++ (t ∷ r))) < F
        → parse.member_at leaves types F n sub (u ++ (v ++ (t ∷ r))) ≡ Ok ((mem.Fields (start u) x ys, max h i + 1), r)
    fields_c {takes} {u} {v} {x} {ys} {h} {i} t d l tc low r s =
        let ts = v ++ (t ∷ r) in
        let no_bracket : same_kind (kind ts) k.LeftBracket ≡ false = dcls_not leaves types l (t ∷ r) k.LeftBracket star_is_no_bracket name_is_no_bracket in
        let place : start (u ++ ts) ≡ start u = start_of u ts (base_long leaves types d) in
        step.member_based leaves types F n sub (u ++ ts) ts (base_of x h takes) (base_no_aggregate leaves types d ts) (base_read d n (omega (arith, low)) ts s no_bracket)
        ∙ ap (λ p. parse.member_after leaves types F n sub (sees_type_name types (u ++ ts)) p (base_of x h takes) ts) place
        ∙ member_fields_c l (omega (arith, low)) (sees_type_name types (u ++ ts)) (start u) (base_of x h takes) t r (rest_short u ts F s) tc

    unnamed_c : {takes : Bool} {u : List Token} {x : TypeTree} {h : ℕ} (t : Token) → IsBase leaves types true takes u x h → begins_with_name u ≡ true → t.kind ≡ k.Semicolon → h ≤ n → (r : List Token) → length (u ++ (t ∷ r)) < F
        → parse.member_at leaves types F n sub (u ++ (t ∷ r)) ≡ Ok ((mem.Unnamed (start u) x, h + 1), r)
    unnamed_c {takes} {u} {x} {h} t d name tc low r s =
        let ts = t ∷ r in
        let place : start (u ++ ts) ≡ start u = start_of u ts (base_long leaves types d) in
        step.member_based leaves types F n sub (u ++ ts) ts (base_of x h takes) (base_no_aggregate leaves types d ts) (base_read d n low ts s (semicolon_no_bracket t r tc))
        ∙ ap₂ (λ z p. parse.member_after leaves types F n sub z p (base_of x h takes) ts) (base_name leaves types d name ts) place
        ∙ step.step_unnamed_member leaves types F n sub (start u) (base_of x h takes) t r tc

    -- ---- parts of adts without members in them

    data_c : {u : List Token} {x : Dcl} {h : ℕ} → IsDcl leaves types u x h → h ≤ n → (at : Place) (b : ReadBase) (r1 r : List Token) (m : Member) (j : ℕ) → length (u ++ r1) < F → FollowDcl r1 → parse.fields_after leaves types F n at b (x, h) r1 ≡ Ok ((m, j), r)
        → parse.declared_part leaves types F n sub at b (u ++ r1) ≡ Ok ((apart.Data m, j), r)
    data_c (rules.dcl t {u = u} {v = v} {n = c} {h = h} {bounds = bs} a (rules.other_name tc f) w) low at b r1 r m j s g e =
        let cut : (u ++ t ∷ v) ++ r1 ≡ u ++ (t ∷ (v ++ r1)) = append_assoc u (t ∷ v) r1 in
        let s1 : length (u ++ (t ∷ (v ++ r1))) < F = omega (arith, s, ap length cut) in
        let name_next : kind (t ∷ (v ++ r1)) ≡ k.Name = kind_of t (v ++ r1) k.Name tc in
        ap (parse.declared_part leaves types F n sub at b) cut
        ∙ step.step_data leaves types F n sub at b c t (u ++ (t ∷ (v ++ r1))) (v ++ r1) r1 r bs h (m, j) (whole_stars leaves types F a (t ∷ (v ++ r1)) s1 (kind_not (t ∷ (v ++ r1)) k.Name k.Star name_next name_is_no_star)) tc f
        (bounds_no_open leaves types w r1 g.paren) (whole_bounds leaves types F w n low r1 (tail_short u t (v ++ r1) F s1) g.bracket)
        (ap (λ p. parse.fields_after leaves types F n at b (record { at = p; stars = c; name = name_at t; bounds = bs }, h) r1) (same_start u t (v ++ r1)) ∙ e)

    part_fields_c : {takes : Bool} {u v : List Token} {x : TypeTree} {ys : List Dcl} {h i : ℕ} (t : Token) → IsBase leaves types true takes u x h → IsDcls leaves types v ys i → t.kind ≡ k.Semicolon → max h i ≤ n → (r : List Token) → length (u ++ (v ++ (t ∷ r))) < F
        → parse.adt_part leaves types F n sub (u ++ (v ++ (t ∷ r))) ≡ Ok ((apart.Data (mem.Fields (start u) x ys), max h i + 1), r)
    part_fields_c {takes} {u} {v} {x} {ys} {h} {i} t d l tc low r s =
        let ts = v ++ (t ∷ r) in
        let b = base_of x h takes in
        let no_bracket : same_kind (kind ts) k.LeftBracket ≡ false = dcls_not leaves types l (t ∷ r) k.LeftBracket star_is_no_bracket name_is_no_bracket in
        let no_semicolon : same_kind (kind ts) k.Semicolon ≡ false = dcls_not leaves types l (t ∷ r) k.Semicolon star_is_no_semicolon name_is_no_semicolon in
        let place : start (u ++ ts) ≡ start u = start_of u ts (base_long leaves types d) in
        let q = fields_of l n (omega (arith, low)) (start u) b t r (rest_short u ts F s) tc in
        step.part_based leaves types F n sub (u ++ ts) ts b (base_no_aggregate leaves types d ts) (base_read d n (omega (arith, low)) ts s no_bracket)
        ∙ ap (λ p. parse.part_after leaves types F n sub (sees_type_name types (u ++ ts)) p b ts) place
        ∙ step.step_declared_part leaves types F n sub (sees_type_name types (u ++ ts)) (start u) b ts (no_both (sees_type_name types (u ++ ts)) _ no_semicolon)
        ∙ ap (parse.declared_part leaves types F n sub (start u) b) q.cut
        ∙ data_c q.is (omega (arith, q.lower, low)) (start u) b q.behind r (mem.Fields (start u) x ys) (max h i + 1) (omega (arith, rest_short u ts F s, ap length q.cut)) q.after q.reads

    part_unnamed_c : {takes : Bool} {u : List Token} {x : TypeTree} {h : ℕ} (t : Token) → IsBase leaves types true takes u x h → begins_with_name u ≡ true → t.kind ≡ k.Semicolon → h ≤ n → (r : List Token) → length (u ++ (t ∷ r)) < F
        → parse.adt_part leaves types F n sub (u ++ (t ∷ r)) ≡ Ok ((apart.Data (mem.Unnamed (start u) x), h + 1), r)
    part_unnamed_c {takes} {u} {x} {h} t d name tc low r s =
        let ts = t ∷ r in
        let place : start (u ++ ts) ≡ start u = start_of u ts (base_long leaves types d) in
        step.part_based leaves types F n sub (u ++ ts) ts (base_of x h takes) (base_no_aggregate leaves types d ts) (base_read d n low ts s (semicolon_no_bracket t r tc))
        ∙ ap₂ (λ z p. parse.part_after leaves types F n sub z p (base_of x h takes) ts) (base_name leaves types d name ts) place
        ∙ step.step_unnamed_part leaves types F n sub (start u) (base_of x h takes) t r tc

    function_c : {takes : Bool} {u v p : List Token} {x : TypeTree} {m h i : ℕ} {ps : List Parameter} (t o c q : Token) → IsBase leaves types true takes u x h → AreStars leaves types v m → t.kind ≡ k.Name → known types t.name ≡ false → o.kind ≡ k.LeftParen → IsParameterList leaves types p ps i → c.kind ≡ k.RightParen → q.kind ≡ k.Semicolon
        → max h i ≤ n → (r : List Token) → length (u ++ (v ++ (t ∷ o ∷ (p ++ (c ∷ q ∷ r))))) < F
        → parse.adt_part leaves types F n sub (u ++ (v ++ (t ∷ o ∷ (p ++ (c ∷ q ∷ r))))) ≡ Ok ((apart.Function x m (name_at t) ps, max h i + 1), r)
    function_c {takes} {u} {v} {p} {x} {m} {h} {i} {ps} t o c q d a tc f oc l ec qc low r s =
        let behind = o ∷ (p ++ (c ∷ q ∷ r)) in
        let ts = v ++ (t ∷ behind) in
        let b = base_of x h takes in
        let s1 : length ts < F = rest_short u ts F s in
        let s2 : length behind < F = tail_short v t behind F s1 in
        let name_next : kind (t ∷ behind) ≡ k.Name = kind_of t behind k.Name tc in
        let no_bracket : same_kind (kind ts) k.LeftBracket ≡ false = stars_not leaves types a (t ∷ behind) k.LeftBracket star_is_no_bracket (kind_not (t ∷ behind) k.Name k.LeftBracket name_next name_is_no_bracket) in
        let no_semicolon : same_kind (kind ts) k.Semicolon ≡ false = stars_not leaves types a (t ∷ behind) k.Semicolon star_is_no_semicolon (kind_not (t ∷ behind) k.Name k.Semicolon name_next name_is_no_semicolon) in
        step.part_based leaves types F n sub (u ++ ts) ts b (base_no_aggregate leaves types d ts) (base_read d n (omega (arith, low)) ts s no_bracket)
        ∙ step.step_declared_part leaves types F n sub (sees_type_name types (u ++ ts)) (start (u ++ ts)) b ts (no_both (sees_type_name types (u ++ ts)) _ no_semicolon)
        ∙ step.step_function leaves types F n sub (start (u ++ ts)) b m t o q ts (p ++ (c ∷ q ∷ r)) r (ps, i) (whole_stars leaves types F a (t ∷ behind) s1 (kind_not (t ∷ behind) k.Name k.Star name_next name_is_no_star)) tc f oc
        (parameter_list_c leaves types F l n (omega (arith, low)) c (q ∷ r) (omega (arith, s2)) ec) qc

  -- ---- members, by levels

  member_sub : (n : ℕ) (ts : List Token) (o : Outcome SizedMember) → 0 < n → parse.member_at leaves types F (pred n) (M (pred n)) ts ≡ o → M n ts ≡ o
  unfolding parse.member
  member_sub n ts o some h = ap (λ m. M m ts) (some_pred n 0 some) ∙ h

  -- the first member of a list as it is read, and the loop behind it
  record FirstMember (n : ℕ) (u : List Token) (xs : List Member) (h : ℕ) (r : List Token) : Type 0 where
    front : List Token
    back : List Token
    first : Member
    low : ℕ
    cut : u ≡ front ++ back
    read : M n (front ++ (back ++ r)) ≡ Ok ((first, low), back ++ r)
    left : ℕ
    enough : length r < left
    loop : parse.members_from leaves types F n (M n) F (first ∷ []) low (back ++ r) ≡ parse.members_from leaves types F n (M n) left xs h r

  members_of : (n : ℕ) (o c : Token) (u : List Token) (xs : List Member) (h : ℕ) (r : List Token) → o.kind ≡ k.LeftBrace → c.kind ≡ k.RightBrace → 0 < n → FirstMember n u xs h (c ∷ r) → parse.members leaves types F n (M n) (o ∷ (u ++ (c ∷ r))) ≡ Ok ((xs, h), r)
  members_of n o c u xs h r oc ec some q =
      let cut : u ++ (c ∷ r) ≡ q.front ++ (q.back ++ (c ∷ r)) = ap (λ l. l ++ (c ∷ r)) q.cut ∙ append_assoc q.front q.back (c ∷ r) in
      ap (λ l. parse.members leaves types F n (M n) (o ∷ l)) cut
      ∙ step.step_members leaves types F n (M n) o c (q.front ++ (q.back ++ (c ∷ r))) (q.back ++ (c ∷ r)) r (q.first, q.low) (xs, h) oc (nat_lt_is 0 n some) q.read
      (q.loop ∙ ap (λ m. parse.members_from leaves types F n (M n) m xs h (c ∷ r)) (some_pred q.left (length (c ∷ r)) q.enough) ∙ step.end_members leaves types F n (M n) (pred q.left) (c ∷ r) xs h (closes_members leaves types c r ec)) ec

  inner_of : (n : ℕ) (w o c t : Token) (kd : AggregateKind) (u : List Token) (xs : List Member) (h : ℕ) (r : List Token) → o.kind ≡ k.LeftBrace → c.kind ≡ k.RightBrace → t.kind ≡ k.Semicolon → 0 < n → FirstMember n u xs h (c ∷ t ∷ r)
      → parse.inner leaves types F n (M n) kd ((w ∷ o ∷ (u ++ c ∷ t ∷ [])) ++ r) ≡ Ok ((mem.Inner w.place kd xs, h + 1), r)
  inner_of n w o c t kd u xs h r oc ec tc some q =
      let cut : (u ++ c ∷ t ∷ []) ++ r ≡ u ++ (c ∷ t ∷ r) = append_assoc u (c ∷ t ∷ []) r in
      ap (λ l. parse.inner leaves types F n (M n) kd (w ∷ o ∷ l)) cut
      ∙ step.step_inner leaves types F n (M n) w t kd (o ∷ (u ++ (c ∷ t ∷ r))) r (xs, h) (nat_lt_is 0 n some) (members_of n o c u xs h (t ∷ r) oc ec some q) tc

  mutual
    pub member_at_c : {u : List Token} {x : Member} {h : ℕ} → IsMember leaves types u x h → (n : ℕ) → h ≤ n + 1 → (r : List Token) → length (u ++ r) < F → parse.member_at leaves types F n (M n) (u ++ r) ≡ Ok ((x, h), r)
    member_at_c (items.fields t {u = u} {v = v} d l c) n low r s =
        let cut : ((u ++ v) ++ t ∷ []) ++ r ≡ u ++ (v ++ (t ∷ r)) = append_assoc (u ++ v) (t ∷ []) r ∙ append_assoc u v (t ∷ r) in
        ap (parse.member_at leaves types F n (M n)) cut ∙ fields_c n (M n) t d l c (omega (arith, low)) r (omega (arith, s, ap length cut))
    member_at_c (items.unnamed t {u = u} d q c) n low r s =
        let cut : (u ++ t ∷ []) ++ r ≡ u ++ (t ∷ r) = append_assoc u (t ∷ []) r in
        ap (parse.member_at leaves types F n (M n)) cut ∙ unnamed_c n (M n) t d q c (omega (arith, low)) r (omega (arith, s, ap length cut))
    member_at_c (items.inner w o c t {u = u} {kind = kd} {xs = xs} {h = h} wc oc l ec tc) n low r s =
        let high : 0 < h = members_high leaves types l in
        step.member_inner leaves types F n (M n) w kd (o ∷ ((u ++ c ∷ t ∷ []) ++ r)) wc
        ∙ inner_of n w o c t kd u xs h r oc ec tc (omega (arith, high, low)) (first_member l n (omega (arith, low)) (c ∷ t ∷ r) (omega (arith, s, ap length (append_assoc u (c ∷ t ∷ []) r))))

    first_member : {u : List Token} {xs : List Member} {h : ℕ} → IsMembers leaves types u xs h → (n : ℕ) → h ≤ n → (r : List Token) → length (u ++ r) < F → FirstMember n u xs h r
    first_member (items.one {u = u} {x = x} {h = h} d) n low r s =
        let high : 0 < h = member_high leaves types d in
        record {
          front = u;
          back = [];
          first = x;
          low = h;
          cut = sym (append-nil u);
          read = member_sub n (u ++ r) (Ok ((x, h), r)) (omega (arith, high, low)) (member_at_c d (pred n) (pred_le h n high low) r s);
          left = F;
          enough = rest_short u r F s;
          loop = refl;
        }
    first_member (items.more {u = u} {v = v} {xs = xs} {x = x} {h = h} {i = i} l d) n low r s =
        let cut : (u ++ v) ++ r ≡ u ++ (v ++ r) = append_assoc u v r in
        let s1 : length (u ++ (v ++ r)) < F = omega (arith, s, ap length cut) in
        let q = first_member l n (omega (arith, low)) (v ++ r) s1 in
        let back_e : (q.back ++ v) ++ r ≡ q.back ++ (v ++ r) = append_assoc q.back v r in
        let high : 0 < i = member_high leaves types d in
        let long : 0 < length v = member_long leaves types d in
        let inside : i ≤ n = omega (arith, low) in
        record {
          front = q.front;
          back = q.back ++ v;
          first = q.first;
          low = q.low;
          cut = ap (λ m. m ++ v) q.cut ∙ append_assoc q.front q.back v;
          read = ap (λ m. M n (q.front ++ m)) back_e ∙ q.read ∙ ap (λ m. Ok ((q.first, q.low), m)) (sym back_e);
          left = pred q.left;
          enough = less_pred (length r) q.left (omega (arith, q.enough, long, length-append v r));
          loop = ap (parse.members_from leaves types F n (M n) F (q.first ∷ []) q.low) back_e ∙ q.loop
              ∙ ap (λ m. parse.members_from leaves types F n (M n) m xs h (v ++ r)) (some_pred q.left (length (v ++ r)) q.enough)
              ∙ step.step_members_from leaves types F n (M n) (pred q.left) (v ++ r) r xs h (x, i) (member_begins leaves types d r)
              (member_sub n (v ++ r) (Ok ((x, i), r)) (omega (arith, high, inside)) (member_at_c d (pred n) (pred_le i n high inside) r (rest_short u (v ++ r) F s1)));
        }

  -- members in braces
  pub members_within_c : {u : List Token} {xs : List Member} {h : ℕ} → IsMembers leaves types u xs h → (n : ℕ) → h ≤ n → (o c : Token) (r : List Token) → length (u ++ (c ∷ r)) < F → o.kind ≡ k.LeftBrace → c.kind ≡ k.RightBrace
      → parse.members_within leaves types F n (o ∷ (u ++ (c ∷ r))) ≡ Ok ((xs, h), r)
  members_within_c {u} {xs} {h} l n low o c r s oc ec =
      let high : 0 < h = members_high leaves types l in
      members_of n o c u xs h r oc ec (omega (arith, high, low)) (first_member l n low (c ∷ r) s)

  -- ---- members of adts

  part_c : {u : List Token} {x : AdtPart} {h : ℕ} → IsAdtPart leaves types u x h → (n : ℕ) → h ≤ n + 1 → (r : List Token) → length (u ++ r) < F → parse.adt_part leaves types F n (M n) (u ++ r) ≡ Ok ((x, h), r)
  part_c (items.data_member (items.fields t {u = u} {v = v} d l c)) n low r s =
      let cut : ((u ++ v) ++ t ∷ []) ++ r ≡ u ++ (v ++ (t ∷ r)) = append_assoc (u ++ v) (t ∷ []) r ∙ append_assoc u v (t ∷ r) in
      ap (parse.adt_part leaves types F n (M n)) cut ∙ part_fields_c n (M n) t d l c (omega (arith, low)) r (omega (arith, s, ap length cut))
  part_c (items.data_member (items.unnamed t {u = u} d q c)) n low r s =
      let cut : (u ++ t ∷ []) ++ r ≡ u ++ (t ∷ r) = append_assoc u (t ∷ []) r in
      ap (parse.adt_part leaves types F n (M n)) cut ∙ part_unnamed_c n (M n) t d q c (omega (arith, low)) r (omega (arith, s, ap length cut))
  part_c (items.data_member (items.inner w o c t {u = u} {kind = kd} {xs = xs} {h = h} wc oc l ec tc)) n low r s =
      let high : 0 < h = members_high leaves types l in
      step.part_inner leaves types F n (M n) w kd (o ∷ ((u ++ c ∷ t ∷ []) ++ r)) r (mem.Inner w.place kd xs, h + 1) wc
      (inner_of n w o c t kd u xs h r oc ec tc (omega (arith, high, low)) (first_member l n (omega (arith, low)) (c ∷ t ∷ r) (omega (arith, s, ap length (append_assoc u (c ∷ t ∷ []) r)))))
  part_c (items.function t o c q {u = u} {v = v} {r = p} d a (rules.other_name tc f) oc l ec qc) n low r s =
      let w = t ∷ o ∷ (p ++ c ∷ q ∷ []) in
      let cut : ((u ++ v) ++ w) ++ r ≡ u ++ (v ++ (t ∷ o ∷ (p ++ (c ∷ q ∷ r)))) = append_assoc (u ++ v) w r ∙ append_assoc u v (w ++ r) ∙ ap (λ z. u ++ (v ++ (t ∷ o ∷ z))) (append_assoc p (c ∷ q ∷ []) r) in
      ap (parse.adt_part leaves types F n (M n)) cut ∙ function_c n (M n) t o c q d a tc f oc l ec qc (omega (arith, low)) r (omega (arith, s, ap length cut))

  adt_member_c : {u : List Token} {x : AdtMember} {h : ℕ} → IsAdtMember leaves types u x h → (n : ℕ) → h ≤ n + 1 → (r : List Token) → length (u ++ r) < F → parse.adt_member leaves types F n (M n) (u ++ r) ≡ Ok ((x, h), r)
  adt_member_c (items.plain {u = u} {x = x} {h = h} d) n low r s =
      let place : start (u ++ r) ≡ start u = start_of u r (part_long leaves types d) in
      step.step_unmarked leaves types F n (M n) (u ++ r) r (x, h) (part_no_scope leaves types d r) (part_c d n low r s)
      ∙ ap (λ p. Ok ((record { at = p; scope = None; part = x }, h), r)) place
  adt_member_c (items.marked w {u = u} {word = word} {x = x} {h = h} c d) n low r s = step.step_marked leaves types F n (M n) w word (u ++ r) r (x, h) c (part_c d n low r (omega (arith, s)))

  -- the first member of a list, and the loop behind it
  record FirstAdtMember (n : ℕ) (u : List Token) (xs : List AdtMember) (h : ℕ) (r : List Token) : Type 0 where
    front : List Token
    back : List Token
    first : AdtMember
    low : ℕ
    cut : u ≡ front ++ back
    read : parse.adt_member leaves types F n (M n) (front ++ (back ++ r)) ≡ Ok ((first, low), back ++ r)
    left : ℕ
    enough : length r < left
    loop : parse.adt_members_from leaves types F n (M n) F (first ∷ []) low (back ++ r) ≡ parse.adt_members_from leaves types F n (M n) left xs h r

  first_adt_member : {u : List Token} {xs : List AdtMember} {h : ℕ} → IsAdtMembers leaves types u xs h → (n : ℕ) → h ≤ n + 1 → (r : List Token) → length (u ++ r) < F → FirstAdtMember n u xs h r
  first_adt_member (items.one {u = u} {x = x} {h = h} d) n low r s = record { front = u; back = []; first = x; low = h; cut = sym (append-nil u); read = adt_member_c d n low r s; left = F; enough = rest_short u r F s; loop = refl }
  first_adt_member (items.more {u = u} {v = v} {xs = xs} {x = x} {h = h} {i = i} l d) n low r s =
      let cut : (u ++ v) ++ r ≡ u ++ (v ++ r) = append_assoc u v r in
      let s1 : length (u ++ (v ++ r)) < F = omega (arith, s, ap length cut) in
      let q = first_adt_member l n (omega (arith, low)) (v ++ r) s1 in
      let back_e : (q.back ++ v) ++ r ≡ q.back ++ (v ++ r) = append_assoc q.back v r in
      let long : 0 < length v = adt_member_long leaves types d in
      record {
        front = q.front;
        back = q.back ++ v;
        first = q.first;
        low = q.low;
        cut = ap (λ m. m ++ v) q.cut ∙ append_assoc q.front q.back v;
        read = ap (λ m. parse.adt_member leaves types F n (M n) (q.front ++ m)) back_e ∙ q.read ∙ ap (λ m. Ok ((q.first, q.low), m)) (sym back_e);
        left = pred q.left;
        enough = less_pred (length r) q.left (omega (arith, q.enough, long, length-append v r));
        loop = ap (parse.adt_members_from leaves types F n (M n) F (q.first ∷ []) q.low) back_e ∙ q.loop
            ∙ ap (λ m. parse.adt_members_from leaves types F n (M n) m xs h (v ++ r)) (some_pred q.left (length (v ++ r)) q.enough)
            ∙ step.step_adt_members_from leaves types F n (M n) (pred q.left) (v ++ r) r xs h (x, i) (adt_member_begins leaves types d r) (adt_member_c d n (omega (arith, low)) r (rest_short u (v ++ r) F s1));
      }

  -- members of an adt in braces
  pub adt_body_c : {u : List Token} {xs : List AdtMember} {h : ℕ} → IsAdtMembers leaves types u xs h → (n : ℕ) → h ≤ n → (o c : Token) (r : List Token) → length (u ++ (c ∷ r)) < F → o.kind ≡ k.LeftBrace → c.kind ≡ k.RightBrace
      → parse.adt_body leaves types F n (o ∷ (u ++ (c ∷ r))) ≡ Ok ((xs, h), r)
  adt_body_c {u} {xs} {h} l n low o c r s oc ec =
      let high : 0 < h = adt_members_high leaves types l in
      let m = pred n in
      let q = first_adt_member l m (pred_le h n high low) (c ∷ r) s in
      let cut : u ++ (c ∷ r) ≡ q.front ++ (q.back ++ (c ∷ r)) = ap (λ z. z ++ (c ∷ r)) q.cut ∙ append_assoc q.front q.back (c ∷ r) in
      step.step_adt_body leaves types F n o (u ++ (c ∷ r)) oc (nat_lt_is 0 n (omega (arith, high, low)))
      ∙ ap (parse.adt_members leaves types F m (M m)) cut
      ∙ step.step_adt_members leaves types F m (M m) c (q.front ++ (q.back ++ (c ∷ r))) (q.back ++ (c ∷ r)) r (q.first, q.low) (xs, h) q.read
      (q.loop ∙ ap (λ z. parse.adt_members_from leaves types F m (M m) z xs h (c ∷ r)) (some_pred q.left (length (c ∷ r)) q.enough) ∙ step.end_adt_members leaves types F m (M m) (pred q.left) (c ∷ r) xs h (closes_adt_members leaves types c r ec)) ec
