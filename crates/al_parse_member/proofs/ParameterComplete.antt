-- Parameters are read as what they are.
use Rattle.std.proofs.lemmas.Grind.{common_steps}
use Rattle.std.proofs.Common.{◌≡◌, ℕ, zero, suc, pred, ◌+◌, ◌<◌, ◌≤◌, max, Bool, true, false, List, [], ◌∷◌, ◌++◌, length, Option, Some, None, is_some, Ok, ◌⊎◌, inl, inr, refl, sym, ap, ap₂, ◌∙◌, subst, arith, append_assoc, append-nil, length-append}
use Rattle.al_base.specs.declared.place.Place.{Place}
use Rattle.al_lex.specs.declared.kind.TokenKind.{TokenKind}
use Rattle.al_lex.specs.declared.kind.TokenKind.TheVariants as k
use Rattle.al_lex.specs.declared.token.Token.{Token}
use Rattle.al_tree.specs.Words.{start, is_void, basic_type}
use Rattle.al_tree.specs.Types.{Leaves, known, name_at, IsTypeName, IsBoundPrim, IsBoundTerm, IsBound, IsBase, IsTypeTree, IsTypes, AreStars}
use Rattle.al_tree.specs.Types as rules
use Rattle.al_tree.specs.Items.{still_takes_bracket, is_void_alone, IsOpenBounds, IsParameter, IsParameters, IsParameterList}
use Rattle.al_tree.specs.Items as items
use Rattle.al_tree.specs.Reading.{Outcome, kind, name_number, same_kind}
use Rattle.al_tree.specs.declared.type_tree.BasicType.{BasicType}
use Rattle.al_tree.specs.declared.type_tree.BasicType.TheVariants as basic
use Rattle.al_tree.specs.declared.type_tree.Bound.{Bound}
use Rattle.al_tree.specs.declared.type_tree.TypeTree.{TypeTree}
use Rattle.al_tree.specs.declared.type_tree.TypeTree.TheVariants as ty
use Rattle.al_tree.specs.declared.item.Parameter.{Parameter}
use Rattle.al_tree.specs.declared.item.Parameter.TheVariants as par
use Rattle.al_tree.proofs.Law.{some_pred, start_of}
use Rattle.al_parse_type.specs.declared.part.Part.TheVariants as part
use Rattle.al_parse_type.specs.declared.part.ReadBase.{ReadBase}
use Rattle.al_parse_type.specs.Parse.{sees_type_name, sees_other_name, sees_type, begins_part, sized_base}
use Rattle.al_parse_type.specs.Within.{inside_within}
use Rattle.al_parse_type.proofs.BoundLaw.{kind_is}
use Rattle.al_parse_type.proofs.BoundComplete.{FollowBound, nat_lt_is, less_pred, rest_short, tail_short, enclosed, kind_of, whole_bound, ends_bracket, whole_stars}
use Rattle.al_parse_type.proofs.TypeLaw.{base_long}
use Rattle.al_parse_type.proofs.TypeComplete.{FollowType, before_bracket, not_comma_bracket, basic_not_name, step_arguments, type_begins, bound_begins, bound_part, Bare, base_sees}
use Rattle.al_parse_type.proofs.TypeWhole.{first_type, whole_types, inner_c}
use Rattle.al_parse_type.proofs.BaseWhole.{EndsBase, no_bracket_ends, base_within_c}
use Rattle.al_parse_member.specs.Parameters as params
use Rattle.al_parse_member.specs.Parameters.{SizedParameter, Parameters, type_name, some_name, parameter_list}
use Rattle.al_parse_member.proofs.Steps as step

-- ---- single tokens

pub kind_not : (ts : List Token) (a b : TokenKind) → kind ts ≡ a → same_kind a b ≡ false → same_kind (kind ts) b ≡ false
kind_not ts a b c f = ap (λ x. same_kind x b) c ∙ f

pub star_is_no_bracket : same_kind k.Star k.LeftBracket ≡ false
unfolding same_kind
star_is_no_bracket = refl

star_is_no_close : same_kind k.Star k.RightParen ≡ false
unfolding same_kind
star_is_no_close = refl

pub name_is_no_bracket : same_kind k.Name k.LeftBracket ≡ false
unfolding same_kind
name_is_no_bracket = refl

pub name_is_no_star : same_kind k.Name k.Star ≡ false
unfolding same_kind
name_is_no_star = refl

name_is_no_close : same_kind k.Name k.RightParen ≡ false
unfolding same_kind
name_is_no_close = refl

bracket_is_no_star : same_kind k.LeftBracket k.Star ≡ false
unfolding same_kind
bracket_is_no_star = refl

bracket_is_no_name : same_kind k.LeftBracket k.Name ≡ false
unfolding same_kind
bracket_is_no_name = refl

bracket_is_no_close : same_kind k.LeftBracket k.RightParen ≡ false
unfolding same_kind
bracket_is_no_close = refl

comma_is_no_close : same_kind k.Comma k.RightParen ≡ false
unfolding same_kind
comma_is_no_close = refl

paren_is_no_comma : same_kind k.RightParen k.Comma ≡ false
unfolding same_kind
paren_is_no_comma = refl

number_is_no_shut : same_kind k.Number k.RightBracket ≡ false
unfolding same_kind
number_is_no_shut = refl

name_is_no_shut : same_kind k.Name k.RightBracket ≡ false
unfolding same_kind
name_is_no_shut = refl

open_is_no_shut : same_kind k.LeftParen k.RightBracket ≡ false
unfolding same_kind
open_is_no_shut = refl

-- what may stand behind a parameter
pub record FollowParameter (r : List Token) : Type 0 where
  pub bracket : same_kind (kind r) k.LeftBracket ≡ false
  pub star : same_kind (kind r) k.Star ≡ false
  pub name : same_kind (kind r) k.Name ≡ false

follow_at : (t : Token) (ts : List Token) (kd : TokenKind) → t.kind ≡ kd → same_kind kd k.LeftBracket ≡ false → same_kind kd k.Star ≡ false → same_kind kd k.Name ≡ false → FollowParameter (t ∷ ts)
follow_at t ts kd c b s n = let e : kind (t ∷ ts) ≡ kd = kind_of t ts kd c in record { bracket = kind_not (t ∷ ts) kd k.LeftBracket e b; star = kind_not (t ∷ ts) kd k.Star e s; name = kind_not (t ∷ ts) kd k.Name e n }

pub comma_parameter : (t : Token) (ts : List Token) → t.kind ≡ k.Comma → FollowParameter (t ∷ ts)
unfolding same_kind
comma_parameter t ts c = follow_at t ts k.Comma c refl refl refl

pub paren_parameter : (t : Token) (ts : List Token) → t.kind ≡ k.RightParen → FollowParameter (t ∷ ts)
unfolding same_kind
paren_parameter t ts c = follow_at t ts k.RightParen c refl refl refl

-- where a list of tokens is empty or begins with that kind, so does the list with one more such token
either_first : {A : Type 0} (u : List Token) (o : Token) (ts : List Token) (kd : TokenKind) → o.kind ≡ kd → ((u ≡ []) × A) ⊎ ((r : List Token) → kind (u ++ r) ≡ kd) → kind (u ++ (o ∷ ts)) ≡ kd
either_first u o ts kd c (inl e) = ap (λ l. kind (l ++ (o ∷ ts))) e.0 ∙ kind_of o ts kd c
either_first u o ts kd c (inr f) = f (o ∷ ts)

first_is : {t c : Token} {r l : List Token} → t ∷ r ≡ c ∷ l → t ≡ c
first_is h = cc

two_not_one : (t o : Token) (ts : List Token) (q : Token) → t ∷ o ∷ ts ≡ q ∷ [] → ⊥
two_not_one t o ts q e = let l : suc (suc (length ts)) ≡ 1 = ap length e in omega (arith, l)

no_cons : {A : Type 0} (x : A) (xs : List A) → x ∷ xs ≡ [] → ⊥
no_cons x xs e = cc

some_names : (types : List ℕ) (n : ℕ) → known types n ≡ true → some_name types ≡ true
some_names [] n e = absurd (let f : ⊥ = cc in f)
some_names (m ∷ types) n e = grind (arith, common_steps)

module _ (leaves : Leaves) (types : List ℕ) where
  -- ---- names of types

  pub name_seen : (t : Token) (ts : List Token) → t.kind ≡ k.Name → known types t.name ≡ true → sees_type_name types (t ∷ ts) ≡ true
  unfolding sees_type_name kind name_number same_kind
  name_seen t ts c e = rw (c, e) refl

  pub name_unseen : (t : Token) (ts : List Token) (kd : TokenKind) → t.kind ≡ kd → same_kind kd k.Name ≡ false → sees_type_name types (t ∷ ts) ≡ false
  unfolding sees_type_name kind
  name_unseen t ts kd c f = rw (c, f) refl

  basic_unseen : (t : Token) (ts : List Token) (x : BasicType) → basic_type t.kind ≡ Some x → sees_type_name types (t ∷ ts) ≡ false
  unfolding sees_type_name kind
  basic_unseen t ts x h = let f = basic_not_name t.kind x h in rw f refl

  pub no_other_name : (r : List Token) → same_kind (kind r) k.Name ≡ false → sees_other_name types r ≡ false
  unfolding sees_other_name
  no_other_name r f = rw f refl

  basic_is_no_name : (t q : Token) (x : BasicType) → basic_type t.kind ≡ Some x → IsTypeName leaves types q → t ∷ [] ≡ q ∷ [] → ⊥
  unfolding same_kind
  basic_is_no_name t q x b (rules.type_name c e) h =
      let same : t ≡ q = first_is h in
      let g : t.kind ≡ k.Name = ap (λ (z : Token). z.kind) same ∙ c in
      let f : same_kind t.kind k.Name ≡ false = basic_not_name t.kind x b in
      let bad : true ≡ false = ap (λ z. same_kind z k.Name) (sym g) ∙ f in
      let z : ⊥ = cc in z

  -- ---- how types begin

  type_not : (ts : List Token) (kd : TokenKind) → is_some (basic_type kd) ≡ false → same_kind kd k.Tuple ≡ false → same_kind kd k.Chan ≡ false → same_kind kd k.Name ≡ false → sees_type types ts ≡ true → same_kind (kind ts) kd ≡ false
  unfolding sees_type sees_type_name
  type_not ts kd b tu ch na h = go (same_kind (kind ts) kd) refl
    where
      go : (x : Bool) → same_kind (kind ts) kd ≡ x → x ≡ false
      go false e = refl
      go true e = let c : kind ts ≡ kd = kind_is (kind ts) kd e in absurd (let n : true ≡ false = sym h ∙ rw (c, b, tu, ch, na) refl in let f : ⊥ = cc in f)

  -- a base type begins with no such token
  pub base_not : {takes : Bool} {u : List Token} {x : TypeTree} {h : ℕ} → IsBase leaves types true takes u x h → (r : List Token) (kd : TokenKind)
      → is_some (basic_type kd) ≡ false → same_kind kd k.Tuple ≡ false → same_kind kd k.Chan ≡ false → same_kind kd k.Name ≡ false → same_kind k.LeftParen kd ≡ false → same_kind (kind (u ++ r)) kd ≡ false
  base_not {takes} {u} {x} {h} d r kd b tu ch na op = go (base_sees leaves types 0 d r)
    where
      go : (sees_type types (u ++ r) ≡ true) ⊎ ((true ≡ true) × Bare leaves types 0 u (record { tree = x; height = h; takes_bracket = takes })) → same_kind (kind (u ++ r)) kd ≡ false
      go (inl q) = type_not (u ++ r) kd b tu ch na q
      go (inr q) =
          let p = q.1 in
          ap (λ l. same_kind (kind (l ++ r)) kd) p.cut ∙ kind_not (p.open_token ∷ ((p.inside ++ p.close_token ∷ []) ++ r)) k.LeftParen kd (kind_of p.open_token ((p.inside ++ p.close_token ∷ []) ++ r) k.LeftParen p.opens) op

  base_no_star : {takes : Bool} {u : List Token} {x : TypeTree} {h : ℕ} → IsBase leaves types true takes u x h → (r : List Token) → same_kind (kind (u ++ r)) k.Star ≡ false
  unfolding same_kind
  base_no_star d r = base_not d r k.Star refl refl refl refl refl

  base_no_dot : {takes : Bool} {u : List Token} {x : TypeTree} {h : ℕ} → IsBase leaves types true takes u x h → (r : List Token) → same_kind (kind (u ++ r)) k.Dot ≡ false
  unfolding same_kind
  base_no_dot d r = base_not d r k.Dot refl refl refl refl refl

  base_no_close : {takes : Bool} {u : List Token} {x : TypeTree} {h : ℕ} → IsBase leaves types true takes u x h → (r : List Token) → same_kind (kind (u ++ r)) k.RightParen ≡ false
  unfolding same_kind
  base_no_close d r = base_not d r k.RightParen refl refl refl refl refl

  -- ---- stars

  pub first_star : {v : List Token} {s : ℕ} → AreStars leaves types v s → ((v ≡ []) × (s ≡ 0)) ⊎ ((r : List Token) → kind (v ++ r) ≡ k.Star)
  first_star rules.none = inl (refl, refl)
  first_star (rules.more t {u = u} a c) = inr (λ r. ap kind (append_assoc u (t ∷ []) r) ∙ either_first u t r k.Star c (first_star a))

  -- stars, and then what begins with no such token
  pub stars_not : {v : List Token} {s : ℕ} → AreStars leaves types v s → (r : List Token) (kd : TokenKind) → same_kind k.Star kd ≡ false → same_kind (kind r) kd ≡ false → same_kind (kind (v ++ r)) kd ≡ false
  stars_not {v} {s} a r kd f g = go (first_star a)
    where
      go : ((v ≡ []) × (s ≡ 0)) ⊎ ((r : List Token) → kind (v ++ r) ≡ k.Star) → same_kind (kind (v ++ r)) kd ≡ false
      go (inl e) = ap (λ l. same_kind (kind (l ++ r)) kd) e.0 ∙ g
      go (inr q) = kind_not (v ++ r) k.Star kd (q r) f

  -- a bound begins with no bracket that closes
  prim_no_shut : {u : List Token} {x : Bound} {h : ℕ} → IsBoundPrim leaves types u x h → (r : List Token) → same_kind (kind (u ++ r)) k.RightBracket ≡ false
  prim_no_shut (rules.number t c) r = kind_not (t ∷ r) k.Number k.RightBracket (kind_of t r k.Number c) number_is_no_shut
  prim_no_shut (rules.name t (rules.other_name c f)) r = kind_not (t ∷ r) k.Name k.RightBracket (kind_of t r k.Name c) name_is_no_shut
  prim_no_shut (rules.paren o c {u = u} oc a ec) r = kind_not (o ∷ ((u ++ c ∷ []) ++ r)) k.LeftParen k.RightBracket (kind_of o ((u ++ c ∷ []) ++ r) k.LeftParen oc) open_is_no_shut

  term_no_shut : {u : List Token} {x : Bound} {h : ℕ} → IsBoundTerm leaves types u x h → (r : List Token) → same_kind (kind (u ++ r)) k.RightBracket ≡ false
  term_no_shut (rules.prim d) r = prim_no_shut d r
  term_no_shut (rules.product t {u = u} {v = v} l c d) r = ap (λ q. same_kind (kind q) k.RightBracket) (append_assoc u (t ∷ v) r) ∙ term_no_shut l (t ∷ (v ++ r))

  bound_no_shut : {u : List Token} {x : Bound} {h : ℕ} → IsBound leaves types u x h → (r : List Token) → same_kind (kind (u ++ r)) k.RightBracket ≡ false
  bound_no_shut (rules.term d) r = term_no_shut d r
  bound_no_shut (rules.sum t {u = u} {v = v} l c d) r = ap (λ q. same_kind (kind q) k.RightBracket) (append_assoc u (t ∷ v) r) ∙ bound_no_shut l (t ∷ (v ++ r))

  -- nor does a type
  part_no_shut : (ts : List Token) → begins_part types true ts ≡ true → same_kind (kind ts) k.RightBracket ≡ false
  unfolding begins_part sees_type sees_type_name same_kind
  part_no_shut ts g = go (same_kind (kind ts) k.RightBracket) refl
    where
      go : (b : Bool) → same_kind (kind ts) k.RightBracket ≡ b → b ≡ false
      go false e = refl
      go true e = let c : kind ts ≡ k.RightBracket = kind_is (kind ts) k.RightBracket e in absurd (let n : true ≡ false = sym g ∙ rw c refl in let f : ⊥ = cc in f)

module _ (leaves : Leaves) (types : List ℕ) (F : ℕ) where
  -- ---- bounds of which some may be missing

  record AfterOpen (n : ℕ) (ts : List Token) (xs : List (Option Bound)) (h : ℕ) (r : List Token) : Type 0 where
    left : ℕ
    enough : length r < left
    is : params.open_bounds_from leaves types F n F [] 0 ts ≡ params.open_bounds_from leaves types F n left xs h r

  open_c : {u : List Token} {xs : List (Option Bound)} {h : ℕ} → IsOpenBounds leaves types u xs h → (n : ℕ) → h ≤ n → (r : List Token) → length (u ++ r) < F → AfterOpen n (u ++ r) xs h r
  open_c items.none n low r s = record { left = F; enough = s; is = refl }
  open_c (items.missing o c {u = u} {xs = xs} {h = h} l oc ec) n low r s =
      let cut : (u ++ o ∷ c ∷ []) ++ r ≡ u ++ (o ∷ c ∷ r) = append_assoc u (o ∷ c ∷ []) r in
      let q = open_c l n low (o ∷ c ∷ r) (omega (arith, s, ap length cut)) in
      record {
        left = pred q.left;
        enough = less_pred (length r) q.left (omega (arith, q.enough));
        is = ap (params.open_bounds_from leaves types F n F [] 0) cut ∙ q.is
            ∙ ap (λ m. params.open_bounds_from leaves types F n m xs h (o ∷ c ∷ r)) (some_pred q.left (length (o ∷ c ∷ r)) q.enough)
            ∙ step.step_missing leaves types F n (pred q.left) o c r xs h oc ec;
      }
  open_c (items.more o c {u = u} {v = v} {xs = xs} {x = x} {h = h} {i = i} l oc b ec) n low r s =
      let cut : (u ++ o ∷ (v ++ c ∷ [])) ++ r ≡ u ++ (o ∷ (v ++ (c ∷ r))) = enclosed u o v c r in
      let s1 : length (u ++ (o ∷ (v ++ (c ∷ r)))) < F = omega (arith, s, ap length cut) in
      let q = open_c l n (omega (arith, low)) (o ∷ (v ++ (c ∷ r))) s1 in
      record {
        left = pred q.left;
        enough = less_pred (length r) q.left (omega (arith, q.enough, length-append v (c ∷ r)));
        is = ap (params.open_bounds_from leaves types F n F [] 0) cut ∙ q.is
            ∙ ap (λ m. params.open_bounds_from leaves types F n m xs h (o ∷ (v ++ (c ∷ r)))) (some_pred q.left (length (o ∷ (v ++ (c ∷ r)))) q.enough)
            ∙ step.step_open leaves types F n (pred q.left) o c (v ++ (c ∷ r)) r xs h x i oc (bound_no_shut leaves types b (c ∷ r)) (whole_bound leaves types F b n (omega (arith, low)) (c ∷ r) (tail_short u o (v ++ (c ∷ r)) F s1) (ends_bracket leaves types F c r ec)) ec;
      }

  pub whole_open : {u : List Token} {xs : List (Option Bound)} {h : ℕ} → IsOpenBounds leaves types u xs h → (n : ℕ) → h ≤ n → (r : List Token) → length (u ++ r) < F → same_kind (kind r) k.LeftBracket ≡ false → params.open_bounds_from leaves types F n F [] 0 (u ++ r) ≡ Ok ((xs, h), r)
  whole_open {u} {xs} {h} d n low r s f =
      let q = open_c d n low r s in
      q.is ∙ ap (λ m. params.open_bounds_from leaves types F n m xs h r) (some_pred q.left (length r) q.enough) ∙ step.end_open leaves types F n (pred q.left) r xs h f

  -- ---- what stands in brackets behind the name of a type

  inside_type_c : {u : List Token} {x : TypeTree} {h : ℕ} → IsTypeTree leaves types true u x h → (n : ℕ) → h + 1 ≤ n → (r : List Token) → length (u ++ r) < F → FollowType r → inside_within leaves types F n (u ++ r) ≡ Ok ((part.Type x, h), r)
  inside_type_c {u} {x} {h} a n low r s f = step.inside_part leaves types F n (u ++ r) (type_begins leaves types F a r) (nat_lt_is 0 n (omega (arith, low))) ∙ (inner_c leaves types F n).part_type true u x h a low r s f

  inside_bound_c : {u : List Token} {x : Bound} {h : ℕ} → IsBound leaves types u x h → (n : ℕ) → h ≤ n → (r : List Token) → length (u ++ r) < F → FollowBound r → inside_within leaves types F n (u ++ r) ≡ Ok ((part.Bound x, h), r)
  inside_bound_c {u} {x} {h} a n low r s f = go (begins_part types true (u ++ r)) refl
    where
      go : (b : Bool) → begins_part types true (u ++ r) ≡ b → inside_within leaves types F n (u ++ r) ≡ Ok ((part.Bound x, h), r)
      go true e =
          let p = bound_part leaves types F true (u ++ r) h (bound_begins leaves types F a r) e in
          let room : 0 < n = omega (arith, p.1, low) in
          step.inside_part leaves types F n (u ++ r) e (nat_lt_is 0 n room) ∙ (inner_c leaves types F n).part_bound u x h a room low r s f
      go false e = step.inside_bound leaves types F n (u ++ r) r x h e (whole_bound leaves types F a n low r s f)

  -- the first pair of brackets of a list of bounds
  record FirstOpen (n : ℕ) (u : List Token) (xs : List (Option Bound)) (h : ℕ) (r : List Token) : Type 0 where
    opening : Token
    behind : List Token
    back : List Token
    first : Option Bound
    low : ℕ
    cut : u ≡ opening ∷ behind
    opens : opening.kind ≡ k.LeftBracket
    reads : (t : Token) → params.bracket leaves types F n t (behind ++ r) ≡ params.array_of leaves types F n t first low (back ++ r)
    left : ℕ
    enough : length r < left
    loop : params.open_bounds_from leaves types F n F (first ∷ []) low (back ++ r) ≡ params.open_bounds_from leaves types F n left xs h r

  record NoOpen (u : List Token) (xs : List (Option Bound)) (h : ℕ) : Type 0 where
    tokens : u ≡ []
    bounds : xs ≡ []
    height : h ≡ 0

  -- with one pair more
  next_open : (n : ℕ) (u : List Token) (o : Token) (w r : List Token) (xs ys : List (Option Bound)) (x : Option Bound) (h i j : ℕ) → o.kind ≡ k.LeftBracket → ys ≡ xs ++ x ∷ [] → j ≡ max h i → length (w ++ r) < F
      → ((t : Token) → params.bracket leaves types F n t (w ++ r) ≡ params.array_of leaves types F n t x i r)
      → ((m : ℕ) → params.open_bounds_from leaves types F n (suc m) xs h (o ∷ (w ++ r)) ≡ params.open_bounds_from leaves types F n m ys j r)
      → NoOpen u xs h ⊎ FirstOpen n u xs h (o ∷ (w ++ r)) → FirstOpen n (u ++ o ∷ w) ys j r
  next_open n u o w r xs ys x h i j oc same high s one more (inl e) = record {
    opening = o;
    behind = w;
    back = [];
    first = x;
    low = i;
    cut = ap (λ l. l ++ o ∷ w) e.tokens;
    opens = oc;
    reads = one;
    left = F;
    enough = omega (arith, s, length-append w r);
    loop = ap₂ (λ l m. params.open_bounds_from leaves types F n F l m r) (sym (same ∙ ap (λ l. l ++ x ∷ []) e.bounds)) (let z : i ≡ j = omega (arith, high, e.height) in z);
  }
  next_open n u o w r xs ys x h i j oc same high s one more (inr q) =
      let behind_e : (q.behind ++ o ∷ w) ++ r ≡ q.behind ++ (o ∷ (w ++ r)) = append_assoc q.behind (o ∷ w) r in
      let back_e : (q.back ++ o ∷ w) ++ r ≡ q.back ++ (o ∷ (w ++ r)) = append_assoc q.back (o ∷ w) r in
      record {
        opening = q.opening;
        behind = q.behind ++ o ∷ w;
        back = q.back ++ o ∷ w;
        first = q.first;
        low = q.low;
        cut = ap (λ l. l ++ o ∷ w) q.cut;
        opens = q.opens;
        reads = λ t. ap (params.bracket leaves types F n t) behind_e ∙ q.reads t ∙ ap (params.array_of leaves types F n t q.first q.low) (sym back_e);
        left = pred q.left;
        enough = less_pred (length r) q.left (omega (arith, q.enough, length-append w r));
        loop = ap (params.open_bounds_from leaves types F n F (q.first ∷ []) q.low) back_e ∙ q.loop
            ∙ ap (λ m. params.open_bounds_from leaves types F n m xs h (o ∷ (w ++ r))) (some_pred q.left (length (o ∷ (w ++ r))) q.enough) ∙ more (pred q.left);
      }

  first_open : {u : List Token} {xs : List (Option Bound)} {h : ℕ} → IsOpenBounds leaves types u xs h → (n : ℕ) → h ≤ n → (r : List Token) → length (u ++ r) < F → NoOpen u xs h ⊎ FirstOpen n u xs h r
  first_open items.none n low r s = inl (record { tokens = refl; bounds = refl; height = refl })
  first_open (items.missing o c {u = u} {xs = xs} {h = h} l oc ec) n low r s =
      let cut : (u ++ o ∷ c ∷ []) ++ r ≡ u ++ (o ∷ c ∷ r) = append_assoc u (o ∷ c ∷ []) r in
      let s1 : length (u ++ (o ∷ c ∷ r)) < F = omega (arith, s, ap length cut) in
      inr (next_open n u o (c ∷ []) r xs (xs ++ None ∷ []) None h 0 h oc refl (let z : h ≡ max h 0 = omega arith in z) (tail_short u o (c ∷ r) F s1)
      (λ t. step.step_no_bound leaves types F n t c r ec) (λ m. step.step_missing leaves types F n m o c r xs h oc ec) (first_open l n low (o ∷ c ∷ r) s1))
  first_open (items.more o c {u = u} {v = v} {xs = xs} {x = x} {h = h} {i = i} l oc b ec) n low r s =
      let cut : (u ++ o ∷ (v ++ c ∷ [])) ++ r ≡ u ++ (o ∷ ((v ++ c ∷ []) ++ r)) = append_assoc u (o ∷ (v ++ c ∷ [])) r in
      let closed : (v ++ c ∷ []) ++ r ≡ v ++ (c ∷ r) = append_assoc v (c ∷ []) r in
      let s1 : length (u ++ (o ∷ ((v ++ c ∷ []) ++ r))) < F = omega (arith, s, ap length cut) in
      let s2 : length ((v ++ c ∷ []) ++ r) < F = tail_short u o ((v ++ c ∷ []) ++ r) F s1 in
      let s3 : length (v ++ (c ∷ r)) < F = omega (arith, s2, ap length closed) in
      let ends = ends_bracket leaves types F c r ec in
      let no_shut = bound_no_shut leaves types b (c ∷ r) in
      inr (next_open n u o (v ++ c ∷ []) r xs (xs ++ Some x ∷ []) (Some x) h i (max h i) oc refl refl s2
      (λ t. ap (params.bracket leaves types F n t) closed ∙ step.step_bound leaves types F n t c (v ++ (c ∷ r)) r x i no_shut (inside_bound_c b n (omega (arith, low)) (c ∷ r) s3 ends) ec)
      (λ m. ap (λ q. params.open_bounds_from leaves types F n (suc m) xs h (o ∷ q)) closed ∙ step.step_open leaves types F n m o c (v ++ (c ∷ r)) r xs h x i oc no_shut (whole_bound leaves types F b n (omega (arith, low)) (c ∷ r) s3 ends) ec)
      (first_open l n (omega (arith, low)) (o ∷ ((v ++ c ∷ []) ++ r)) s1))

  some_open : {u : List Token} {x : Option Bound} {xs : List (Option Bound)} {h : ℕ} → IsOpenBounds leaves types u (x ∷ xs) h → (n : ℕ) → h ≤ n → (r : List Token) → length (u ++ r) < F → FirstOpen n u (x ∷ xs) h r
  some_open {u} {x} {xs} {h} d n low r s = go (first_open d n low r s)
    where
      go : NoOpen u (x ∷ xs) h ⊎ FirstOpen n u (x ∷ xs) h r → FirstOpen n u (x ∷ xs) h r
      go (inl e) = absurd (no_cons x xs e.bounds)
      go (inr q) = q

  open_kind : {n : ℕ} {u : List Token} {xs : List (Option Bound)} {h : ℕ} {r : List Token} → FirstOpen n u xs h r → kind (u ++ r) ≡ k.LeftBracket
  open_kind {r = r} q = ap (λ l. kind (l ++ r)) q.cut ∙ kind_of q.opening (q.behind ++ r) k.LeftBracket q.opens

  -- ---- base types by what they are where an array might begin

  record OneName (u : List Token) (x : TypeTree) (h : ℕ) : Type 0 where
    token : Token
    names : token.kind ≡ k.Name
    known_is : known types token.name ≡ true
    cut : u ≡ token ∷ []
    tree : x ≡ ty.Named token.place token.name []
    flat : h ≡ 0

  -- the name of a type alone, or more or other tokens than that
  base_shape : {takes : Bool} {u : List Token} {x : TypeTree} {h : ℕ} → IsBase leaves types true takes u x h → OneName u x h ⊎ ((t : Token) → IsTypeName leaves types t → u ≡ t ∷ [] → ⊥)
  base_shape (rules.basic t {x = x} c) = inr (λ q d e. basic_is_no_name leaves types t q x c d e)
  base_shape (rules.named t (rules.type_name c e)) = inl (record { token = t; names = c; known_is = e; cut = refl; tree = refl; flat = refl })
  base_shape (rules.instance t o c {u = u} tn oc a ec) = inr (λ q d e. two_not_one t o (u ++ c ∷ []) q e)
  base_shape (rules.tuple w o c {u = u} wc oc a ec) = inr (λ q d e. two_not_one w o (u ++ c ∷ []) q e)
  base_shape (rules.bare_tuple o c {u = u} oc a ec) = inr (λ q d e. let l = ap length e in omega (arith, l, length-append u (c ∷ [])))
  base_shape (rules.channel w o c {u = u} wc oc a ec) = inr (λ q d e. two_not_one w o (u ++ c ∷ []) q e)
  base_shape (rules.buffered w o c p q {u = u} {v = v} wc oc a ec pc b qc) = inr (λ t d e. two_not_one w o (u ++ c ∷ p ∷ (v ++ q ∷ [])) t e)

  tuple_is_no_name : same_kind k.Tuple k.Name ≡ false
  unfolding same_kind
  tuple_is_no_name = refl

  chan_is_no_name : same_kind k.Chan k.Name ≡ false
  unfolding same_kind
  chan_is_no_name = refl

  open_is_no_name : same_kind k.LeftParen k.Name ≡ false
  unfolding same_kind
  open_is_no_name = refl

  -- ---- parameters, by how they begin

  abbrev base_of : TypeTree → ℕ → Bool → ReadBase
  base_of x h takes = record { tree = x; height = h; takes_bracket = takes }

  -- a base type that begins with no type's name
  other_c : {takes : Bool} {u : List Token} {x : TypeTree} {h : ℕ} → IsBase leaves types true takes u x h → (n : ℕ) → h ≤ n → (r : List Token) → length (u ++ r) < F → EndsBase leaves types F takes u r → sees_type_name types (u ++ r) ≡ false
      → params.parameter leaves types F n (u ++ r) ≡ params.parameter_after leaves types F n (start u) (base_of x h takes) r
  other_c {takes} {u} {x} {h} d n low r s f g =
      step.step_based leaves types F n (u ++ r) r (base_of x h takes) g (base_no_star leaves types d r) (base_no_dot leaves types d r) (base_within_c leaves types F d n low r s f)
      ∙ ap (λ p. params.parameter_after leaves types F n p (base_of x h takes) r) (start_of u r (base_long leaves types d))

  instance_c : (n : ℕ) (t o c : Token) (u r : List Token) (xs : List TypeTree) (h : ℕ) → sees_type_name types (t ∷ o ∷ (u ++ (c ∷ r))) ≡ true → o.kind ≡ k.LeftBracket → IsTypes leaves types true u xs h → c.kind ≡ k.RightBracket → h + 1 ≤ n → length (u ++ (c ∷ r)) < F
      → params.parameter leaves types F n (t ∷ o ∷ (u ++ (c ∷ r))) ≡ params.parameter_after leaves types F n t.place (sized_base (ty.Named t.place t.name xs) (h + 1)) r
  instance_c n t o c u r xs h seen oc a ec low s =
      let inner = inner_c leaves types F n in
      let q = first_type leaves types F n inner a low (c ∷ r) s (before_bracket c r ec) in
      let cut : u ++ (c ∷ r) ≡ q.front ++ (q.back ++ (c ∷ r)) = ap (λ l. l ++ (c ∷ r)) q.cut ∙ append_assoc q.front q.back (c ∷ r) in
      let short : length (q.front ++ (q.back ++ (c ∷ r))) < F = omega (arith, s, ap length cut) in
      step.step_bracket leaves types F n t o (u ++ (c ∷ r)) seen oc
      ∙ ap (params.bracket leaves types F n t) cut
      ∙ step.step_arguments leaves types F n t (q.front ++ (q.back ++ (c ∷ r))) (q.back ++ (c ∷ r)) r q.first q.low (sized_base (ty.Named t.place t.name xs) (h + 1)) (part_no_shut leaves types (q.front ++ (q.back ++ (c ∷ r))) (type_begins leaves types F q.is (q.back ++ (c ∷ r))))
      (inside_type_c q.is n (omega (arith, q.lower, low)) (q.back ++ (c ∷ r)) short q.after)
      (step_arguments leaves types F n true t c (q.back ++ (c ∷ r)) r (q.first, q.low) xs h (whole_types leaves types F n inner q (not_comma_bracket c r ec)) ec)

  base_c : {takes : Bool} {u : List Token} {x : TypeTree} {h : ℕ} → IsBase leaves types true takes u x h → (n : ℕ) → h ≤ n → (r : List Token) → length (u ++ r) < F → EndsBase leaves types F takes u r
      → params.parameter leaves types F n (u ++ r) ≡ params.parameter_after leaves types F n (start u) (base_of x h takes) r
  base_c (rules.basic t {x = x} c) n low r s f = other_c (rules.basic t c) n low r s f (basic_unseen leaves types t r x c)
  base_c (rules.named t (rules.type_name c e)) n low r s f = step.step_name leaves types F n t r (name_seen leaves types t r c e) (f.name t (rules.type_name c e) refl)
  base_c (rules.instance t o c {u = u} {xs = xs} {h = h} (rules.type_name tc e) oc a ec) n low r s f =
      let cut : (u ++ c ∷ []) ++ r ≡ u ++ (c ∷ r) = append_assoc u (c ∷ []) r in
      ap (λ l. params.parameter leaves types F n (t ∷ o ∷ l)) cut ∙ instance_c n t o c u r xs h (name_seen leaves types t (o ∷ (u ++ (c ∷ r))) tc e) oc a ec low (omega (arith, s, ap length cut))
  base_c (rules.tuple w o c {u = u} wc oc a ec) n low r s f = other_c (rules.tuple w o c wc oc a ec) n low r s f (name_unseen leaves types w (o ∷ ((u ++ c ∷ []) ++ r)) k.Tuple wc tuple_is_no_name)
  base_c (rules.bare_tuple o c {u = u} oc a ec) n low r s f = other_c (rules.bare_tuple o c oc a ec) n low r s f (name_unseen leaves types o ((u ++ c ∷ []) ++ r) k.LeftParen oc open_is_no_name)
  base_c (rules.channel w o c {u = u} wc oc a ec) n low r s f = other_c (rules.channel w o c wc oc a ec) n low r s f (name_unseen leaves types w (o ∷ ((u ++ c ∷ []) ++ r)) k.Chan wc chan_is_no_name)
  base_c (rules.buffered w o c p q {u = u} {v = v} wc oc a ec pc b qc) n low r s f =
      other_c (rules.buffered w o c p q wc oc a ec pc b qc) n low r s f (name_unseen leaves types w (o ∷ ((u ++ c ∷ p ∷ (v ++ q ∷ [])) ++ r)) k.Chan wc chan_is_no_name)

  -- one that begins with a base type
  record Based (n : ℕ) (u : List Token) (x : Parameter) (h : ℕ) (r : List Token) : Type 0 where
    front : List Token
    back : List Token
    takes : Bool
    tree : TypeTree
    low : ℕ
    is : IsBase leaves types true takes front tree low
    lower : low ≤ h
    cut : u ≡ front ++ back
    ends : EndsBase leaves types F takes front (back ++ r)
    after : params.parameter_after leaves types F n (start front) (base_of tree low takes) (back ++ r) ≡ Ok ((x, h), r)
    next : (back ≡ []) ⊎ (same_kind (kind (back ++ r)) k.RightParen ≡ false)

  -- any other
  record Direct (n : ℕ) (u : List Token) (x : Parameter) (h : ℕ) (r : List Token) : Type 0 where
    is : params.parameter leaves types F n (u ++ r) ≡ Ok ((x, h), r)
    no_close : same_kind (kind (u ++ r)) k.RightParen ≡ false
    no_void : same_kind (kind (u ++ r)) k.Void ≡ false

  direct_at : (n : ℕ) (t : Token) (u : List Token) (x : Parameter) (h : ℕ) (r : List Token) (kd : TokenKind) → t.kind ≡ kd → same_kind kd k.RightParen ≡ false → same_kind kd k.Void ≡ false → params.parameter leaves types F n (t ∷ (u ++ r)) ≡ Ok ((x, h), r) → Direct n (t ∷ u) x h r
  direct_at n t u x h r kd c f g e =
      let q : kind (t ∷ (u ++ r)) ≡ kd = kind_of t (u ++ r) kd c in
      record { is = e; no_close = kind_not (t ∷ (u ++ r)) kd k.RightParen q f; no_void = kind_not (t ∷ (u ++ r)) kd k.Void q g }

  -- with a name
  named_c : {takes : Bool} {u v q : List Token} {x : TypeTree} {m h i : ℕ} {bounds : List (Option Bound)} (t : Token) → IsBase leaves types true takes u x h → AreStars leaves types v m → t.kind ≡ k.Name → known types t.name ≡ false → IsOpenBounds leaves types q bounds i
      → (n : ℕ) → max h i ≤ n → (r : List Token) → length (u ++ (v ++ (t ∷ (q ++ r)))) < F → FollowParameter r → Based n ((u ++ v) ++ t ∷ q) (par.Plain (start u) x m (Some (name_at t)) bounds) (max h i) r
  named_c {takes} {u} {v} {q} {x} {m} {h} {i} {bounds} t d a nc f b n low r s g =
      let back_e : (v ++ t ∷ q) ++ r ≡ v ++ (t ∷ (q ++ r)) = append_assoc v (t ∷ q) r in
      let name_next : kind (t ∷ (q ++ r)) ≡ k.Name = kind_of t (q ++ r) k.Name nc in
      let no_bracket : same_kind (kind (v ++ (t ∷ (q ++ r)))) k.LeftBracket ≡ false = stars_not leaves types a (t ∷ (q ++ r)) k.LeftBracket star_is_no_bracket (kind_not (t ∷ (q ++ r)) k.Name k.LeftBracket name_next name_is_no_bracket) in
      let no_close : same_kind (kind (v ++ (t ∷ (q ++ r)))) k.RightParen ≡ false = stars_not leaves types a (t ∷ (q ++ r)) k.RightParen star_is_no_close (kind_not (t ∷ (q ++ r)) k.Name k.RightParen name_next name_is_no_close) in
      let s1 : length (v ++ (t ∷ (q ++ r))) < F = rest_short u (v ++ (t ∷ (q ++ r))) F s in
      let s2 : length (q ++ r) < F = tail_short v t (q ++ r) F s1 in
      record {
        front = u;
        back = v ++ t ∷ q;
        takes = takes;
        tree = x;
        low = h;
        is = d;
        lower = omega arith;
        cut = append_assoc u v (t ∷ q);
        ends = subst (λ l. EndsBase leaves types F takes u l) (sym back_e) (no_bracket_ends leaves types F takes u (v ++ (t ∷ (q ++ r))) no_bracket);
        after = ap (params.parameter_after leaves types F n (start u) (base_of x h takes)) back_e
            ∙ step.step_named leaves types F n (start u) (base_of x h takes) t (v ++ (t ∷ (q ++ r))) (q ++ r) r m (bounds, i)
            (whole_stars leaves types F a (t ∷ (q ++ r)) s1 (kind_not (t ∷ (q ++ r)) k.Name k.Star name_next name_is_no_star)) nc f (whole_open b n (omega (arith, low)) r s2 g.bracket);
        next = inr (ap (λ l. same_kind (kind l) k.RightParen) back_e ∙ no_close);
      }

  -- with neither name nor bounds
  bare_after : (takes : Bool) (u : List Token) (x : TypeTree) (h : ℕ) {v : List Token} {m : ℕ} → AreStars leaves types v m → (n : ℕ) → (r : List Token) → length (v ++ r) < F → FollowParameter r → (b : Bool) → still_takes_bracket takes m ≡ b
      → params.parameter_after leaves types F n (start u) (base_of x h takes) (v ++ r) ≡ Ok ((par.Plain (start u) x m None [], h), r)
  bare_after takes u x h {v} {m} a n r s g true e = step.step_bare leaves types F n (start u) (base_of x h takes) (v ++ r) r m (whole_stars leaves types F a r s g.star) (no_other_name leaves types r g.name) e
  bare_after takes u x h {v} {m} a n r s g false e =
      let flat : max h 0 ≡ h = omega arith in
      step.step_unnamed leaves types F n (start u) (base_of x h takes) (v ++ r) r r m ([], 0) (whole_stars leaves types F a r s g.star) (no_other_name leaves types r g.name) e (whole_open items.none n (omega arith) r (rest_short v r F s) g.bracket)
      ∙ ap (λ i. Ok ((par.Plain (start u) x m None [], i), r)) flat

  stars_next : {v : List Token} {m : ℕ} → AreStars leaves types v m → (r : List Token) → (v ≡ []) ⊎ (same_kind (kind (v ++ r)) k.RightParen ≡ false)
  stars_next {v} {m} a r = go (first_star leaves types a)
    where
      go : ((v ≡ []) × (m ≡ 0)) ⊎ ((r : List Token) → kind (v ++ r) ≡ k.Star) → (v ≡ []) ⊎ (same_kind (kind (v ++ r)) k.RightParen ≡ false)
      go (inl e) = inl e.0
      go (inr f) = inr (kind_not (v ++ r) k.Star k.RightParen (f r) star_is_no_close)

  bare_c : {takes : Bool} {u v : List Token} {x : TypeTree} {m h : ℕ} → IsBase leaves types true takes u x h → AreStars leaves types v m → (n : ℕ) → (r : List Token) → length (u ++ (v ++ r)) < F → FollowParameter r → Based n (u ++ v) (par.Plain (start u) x m None []) h r
  bare_c {takes} {u} {v} {x} {m} {h} d a n r s g =
      let no_bracket : same_kind (kind (v ++ r)) k.LeftBracket ≡ false = stars_not leaves types a r k.LeftBracket star_is_no_bracket g.bracket in
      record {
        front = u;
        back = v;
        takes = takes;
        tree = x;
        low = h;
        is = d;
        lower = omega arith;
        cut = refl;
        ends = no_bracket_ends leaves types F takes u (v ++ r) no_bracket;
        after = bare_after takes u x h a n r (rest_short u (v ++ r) F s) g (still_takes_bracket takes m) refl;
        next = stars_next a r;
      }

  -- with bounds and without a name, behind a base type that is read as such
  array_based : {takes : Bool} {u v q : List Token} {x : TypeTree} {m h i : ℕ} {bound : Option Bound} {bounds : List (Option Bound)} → IsBase leaves types true takes u x h → AreStars leaves types v m → still_takes_bracket takes m ≡ false → IsOpenBounds leaves types q (bound ∷ bounds) i
      → (n : ℕ) → max h i ≤ n → (r : List Token) → length (u ++ (v ++ (q ++ r))) < F → FollowParameter r → EndsBase leaves types F takes u (v ++ (q ++ r))
      → Based n ((u ++ v) ++ q) (par.Plain (start u) x m None (bound ∷ bounds)) (max h i) r
  array_based {takes} {u} {v} {q} {x} {m} {h} {i} {bound} {bounds} d a f b n low r s g ends =
      let back_e : (v ++ q) ++ r ≡ v ++ (q ++ r) = append_assoc v q r in
      let s1 : length (v ++ (q ++ r)) < F = rest_short u (v ++ (q ++ r)) F s in
      let bracket : kind (q ++ r) ≡ k.LeftBracket = open_kind (some_open b n (omega (arith, low)) r (rest_short v (q ++ r) F s1)) in
      record {
        front = u;
        back = v ++ q;
        takes = takes;
        tree = x;
        low = h;
        is = d;
        lower = omega arith;
        cut = append_assoc u v q;
        ends = subst (λ l. EndsBase leaves types F takes u l) (sym back_e) ends;
        after = ap (params.parameter_after leaves types F n (start u) (base_of x h takes)) back_e
            ∙ step.step_unnamed leaves types F n (start u) (base_of x h takes) (v ++ (q ++ r)) (q ++ r) r m (bound ∷ bounds, i)
            (whole_stars leaves types F a (q ++ r) s1 (kind_not (q ++ r) k.LeftBracket k.Star bracket bracket_is_no_star)) (no_other_name leaves types (q ++ r) (kind_not (q ++ r) k.LeftBracket k.Name bracket bracket_is_no_name)) f
            (whole_open b n (omega (arith, low)) r (rest_short v (q ++ r) F s1) g.bracket);
        next = inr (ap (λ l. same_kind (kind l) k.RightParen) back_e ∙ stars_not leaves types a (q ++ r) k.RightParen star_is_no_close (kind_not (q ++ r) k.LeftBracket k.RightParen bracket bracket_is_no_close));
      }

  same_array : (p p2 : Place) (x x2 : TypeTree) (m m2 i i2 : ℕ) (bs : List (Option Bound)) (r : List Token) → p ≡ p2 → x ≡ x2 → m ≡ m2 → i ≡ i2 → ◌≡◌ {A = Outcome SizedParameter} (Ok ((par.Plain p x m None bs, i), r)) (Ok ((par.Plain p2 x2 m2 None bs, i2), r))
  same_array p p2 x x2 m m2 i i2 bs r a b c d = rw (a, b, c, d) refl

  name_is_no_void : same_kind k.Name k.Void ≡ false
  unfolding same_kind
  name_is_no_void = refl

  -- an array of a named type, whose first brackets are read behind that name
  array_direct : {u q : List Token} {x : TypeTree} {h i : ℕ} {bound : Option Bound} {bounds : List (Option Bound)} → OneName u x h → IsOpenBounds leaves types q (bound ∷ bounds) i
      → (n : ℕ) → i ≤ n → (r : List Token) → length (u ++ (q ++ r)) < F → FollowParameter r → Direct n (u ++ q) (par.Plain (start u) x 0 None (bound ∷ bounds)) (max h i) r
  array_direct {u} {q} {x} {h} {i} {bound} {bounds} o b n low r s g =
      let t = o.token in
      let all : u ++ q ≡ t ∷ q = ap (λ l. l ++ q) o.cut in
      let size : length (u ++ (q ++ r)) ≡ suc (length (q ++ r)) = ap (λ l. length (l ++ (q ++ r))) o.cut in
      let p = some_open b n low r (omega (arith, s, size)) in
      let cut : q ++ r ≡ p.opening ∷ (p.behind ++ r) = ap (λ l. l ++ r) p.cut in
      let read =
      ap (λ l. params.parameter leaves types F n (t ∷ l)) cut
      ∙ step.step_bracket leaves types F n t p.opening (p.behind ++ r) (name_seen leaves types t (p.opening ∷ (p.behind ++ r)) o.names o.known_is) p.opens
      ∙ p.reads t
      ∙ step.step_array leaves types F n t (p.back ++ r) r p.first p.low (bound ∷ bounds, i)
      (p.loop ∙ ap (λ m. params.open_bounds_from leaves types F n m (bound ∷ bounds) i r) (some_pred p.left (length r) p.enough) ∙ step.end_open leaves types F n (pred p.left) r (bound ∷ bounds) i g.bracket) in
      let place : t.place ≡ start u = sym (ap start o.cut) in
      let high : i ≡ max h i = omega (arith, o.flat) in
      subst (λ l. Direct n l (par.Plain (start u) x 0 None (bound ∷ bounds)) (max h i) r) (sym all)
      (direct_at n t q (par.Plain (start u) x 0 None (bound ∷ bounds)) (max h i) r k.Name o.names name_is_no_close name_is_no_void
      (read ∙ same_array t.place (start u) (ty.Named t.place t.name []) x 0 0 i (max h i) (bound ∷ bounds) r place (sym o.tree) refl high))

  taken_first : (takes : Bool) (m : ℕ) → m ≡ 0 → still_takes_bracket takes m ≡ false → takes ≡ true → ⊥
  taken_first takes zero e f t = let bad : true ≡ false = sym t ∙ f in let z : ⊥ = cc in z
  taken_first takes (suc m) e f t = omega (arith, e)

  array_c : {takes : Bool} {u v q : List Token} {x : TypeTree} {m h i : ℕ} {bound : Option Bound} {bounds : List (Option Bound)} → IsBase leaves types true takes u x h → AreStars leaves types v m → still_takes_bracket takes m ≡ false → IsOpenBounds leaves types q (bound ∷ bounds) i
      → (n : ℕ) → max h i ≤ n → (r : List Token) → length (u ++ (v ++ (q ++ r))) < F → FollowParameter r
      → Based n ((u ++ v) ++ q) (par.Plain (start u) x m None (bound ∷ bounds)) (max h i) r ⊎ Direct n ((u ++ v) ++ q) (par.Plain (start u) x m None (bound ∷ bounds)) (max h i) r
  array_c {takes} {u} {v} {q} {x} {m} {h} {i} {bound} {bounds} d a f b n low r s g = go (first_star leaves types a)
    where
      alone : v ≡ [] → m ≡ 0 → OneName u x h ⊎ ((t : Token) → IsTypeName leaves types t → u ≡ t ∷ [] → ⊥) → Based n ((u ++ v) ++ q) (par.Plain (start u) x m None (bound ∷ bounds)) (max h i) r ⊎ Direct n ((u ++ v) ++ q) (par.Plain (start u) x m None (bound ∷ bounds)) (max h i) r
      alone e z (inl o) =
          let size : length (u ++ (v ++ (q ++ r))) ≡ length (u ++ (q ++ r)) = ap (λ l. length (u ++ (l ++ (q ++ r)))) e in
          let all : (u ++ v) ++ q ≡ u ++ q = ap (λ l. (u ++ l) ++ q) e ∙ ap (λ l. l ++ q) (append-nil u) in
          inr (subst (λ j. Direct n ((u ++ v) ++ q) (par.Plain (start u) x j None (bound ∷ bounds)) (max h i) r) (sym z)
          (subst (λ l. Direct n l (par.Plain (start u) x 0 None (bound ∷ bounds)) (max h i) r) (sym all) (array_direct o b n (omega (arith, low)) r (omega (arith, s, size)) g)))
      alone e z (inr p) = inl (array_based d a f b n low r s g (record { channel = λ t. absurd (taken_first takes m z f t); name = λ t c w. absurd (p t c w) }))

      go : ((v ≡ []) × (m ≡ 0)) ⊎ ((r : List Token) → kind (v ++ r) ≡ k.Star) → Based n ((u ++ v) ++ q) (par.Plain (start u) x m None (bound ∷ bounds)) (max h i) r ⊎ Direct n ((u ++ v) ++ q) (par.Plain (start u) x m None (bound ∷ bounds)) (max h i) r
      go (inl e) = alone e.0 e.1 (base_shape d)
      go (inr p) =
          let no_bracket : same_kind (kind (v ++ (q ++ r))) k.LeftBracket ≡ false = kind_not (v ++ (q ++ r)) k.Star k.LeftBracket (p (q ++ r)) star_is_no_bracket in
          inl (array_based d a f b n low r s g (no_bracket_ends leaves types F takes u (v ++ (q ++ r)) no_bracket))

  split : {u : List Token} {x : Parameter} {h : ℕ} → IsParameter leaves types u x h → (n : ℕ) → h ≤ n → (r : List Token) → length (u ++ r) < F → FollowParameter r → Based n u x h r ⊎ Direct n u x h r
  unfolding same_kind
  split (items.named t {u = u} {v = v} {r = q} d a (rules.other_name nc f) b) n low r s g =
      let cut : ((u ++ v) ++ t ∷ q) ++ r ≡ u ++ (v ++ (t ∷ (q ++ r))) = append_assoc (u ++ v) (t ∷ q) r ∙ append_assoc u v (t ∷ (q ++ r)) in
      inl (named_c t d a nc f b n low r (omega (arith, s, ap length cut)) g)
  split (items.unnamed {u = u} {v = v} d a) n low r s g = inl (bare_c d a n r (omega (arith, s, ap length (append_assoc u v r))) g)
  split (items.unnamed_array {u = u} {v = v} {r = q} d a f b) n low r s g =
      let cut : ((u ++ v) ++ q) ++ r ≡ u ++ (v ++ (q ++ r)) = append_assoc (u ++ v) q r ∙ append_assoc u v (q ++ r) in
      array_c d a f b n low r (omega (arith, s, ap length cut)) g
  split (items.own_pointer w t wc (rules.type_name tc e)) n low r s g = inr (direct_at n w (t ∷ []) (par.OwnPointer w.place t.name) 0 r k.Star wc refl refl
      (step.step_own_pointer leaves types F n w t r (name_unseen leaves types w (t ∷ r) k.Star wc refl) wc (some_names types t.name e) (name_seen leaves types t r tc e)))
  split (items.own_value w t wc (rules.type_name tc e)) n low r s g = inr (direct_at n w (t ∷ []) (par.OwnValue w.place t.name) 0 r k.Dot wc refl refl
      (step.step_own_value leaves types F n w t r (name_unseen leaves types w (t ∷ r) k.Dot wc refl) wc (some_names types t.name e) (name_seen leaves types t r tc e)))

  based_c : (n : ℕ) (u : List Token) (x : Parameter) (h : ℕ) (r : List Token) → h ≤ n → length (u ++ r) < F → Based n u x h r → params.parameter leaves types F n (u ++ r) ≡ Ok ((x, h), r)
  based_c n u x h r low s q =
      let cut : u ++ r ≡ q.front ++ (q.back ++ r) = ap (λ l. l ++ r) q.cut ∙ append_assoc q.front q.back r in
      let s1 : length (q.front ++ (q.back ++ r)) < F = omega (arith, s, ap length cut) in
      ap (params.parameter leaves types F n) cut ∙ base_c q.is n (omega (arith, q.lower, low)) (q.back ++ r) s1 q.ends ∙ q.after

  pub parameter_c : {u : List Token} {x : Parameter} {h : ℕ} → IsParameter leaves types u x h → (n : ℕ) → h ≤ n → (r : List Token) → length (u ++ r) < F → FollowParameter r → params.parameter leaves types F n (u ++ r) ≡ Ok ((x, h), r)
  parameter_c {u} {x} {h} d n low r s f = go (split d n low r s f)
    where
      go : Based n u x h r ⊎ Direct n u x h r → params.parameter leaves types F n (u ++ r) ≡ Ok ((x, h), r)
      go (inl q) = based_c n u x h r low s q
      go (inr q) = q.is

  -- ---- lists of parameters

  -- the first parameter of a list, and the loop behind it
  record FirstParameter (n : ℕ) (u : List Token) (xs : List Parameter) (h : ℕ) (r : List Token) : Type 0 where
    front : List Token
    back : List Token
    first : Parameter
    low : ℕ
    is : IsParameter leaves types front first low
    lower : low ≤ h
    cut : u ≡ front ++ back
    after : FollowParameter (back ++ r)
    shape : (back ≡ []) ⊎ (same_kind (kind (back ++ r)) k.RightParen ≡ false)
    left : ℕ
    enough : length r < left
    loop : params.parameters_from leaves types F n F (first ∷ []) low (back ++ r) ≡ params.parameters_from leaves types F n left xs h r

  more_shape : (u : List Token) (t : Token) (v r : List Token) → t.kind ≡ k.Comma → (u ≡ []) ⊎ (same_kind (kind (u ++ (t ∷ (v ++ r)))) k.RightParen ≡ false) → same_kind (kind ((u ++ t ∷ v) ++ r)) k.RightParen ≡ false
  more_shape u t v r c (inl e) = ap (λ l. same_kind (kind ((l ++ t ∷ v) ++ r)) k.RightParen) e ∙ kind_not (t ∷ (v ++ r)) k.Comma k.RightParen (kind_of t (v ++ r) k.Comma c) comma_is_no_close
  more_shape u t v r c (inr f) = ap (λ l. same_kind (kind l) k.RightParen) (append_assoc u (t ∷ v) r) ∙ f

  first_parameter : {u : List Token} {xs : List Parameter} {h : ℕ} → IsParameters leaves types u xs h → (n : ℕ) → h ≤ n → (r : List Token) → length (u ++ r) < F → FollowParameter r → FirstParameter n u xs h r
  first_parameter (items.one {u = u} {x = x} {h = h} d) n low r s f = record { front = u; back = []; first = x; low = h; is = d; lower = omega arith; cut = sym (append-nil u); after = f; shape = inl refl; left = F; enough = rest_short u r F s; loop = refl }
  first_parameter (items.more t {u = u} {v = v} {xs = xs} {x = x} {h = h} {i = i} l c d) n low r s f =
      let cut = append_assoc u (t ∷ v) r in
      let s1 : length (u ++ (t ∷ (v ++ r))) < F = omega (arith, s, ap length cut) in
      let q = first_parameter l n (omega (arith, low)) (t ∷ (v ++ r)) s1 (comma_parameter t (v ++ r) c) in
      let back_e : (q.back ++ t ∷ v) ++ r ≡ q.back ++ (t ∷ (v ++ r)) = append_assoc q.back (t ∷ v) r in
      record {
        front = q.front;
        back = q.back ++ t ∷ v;
        first = q.first;
        low = q.low;
        is = q.is;
        lower = omega (arith, q.lower);
        cut = ap (λ m. m ++ t ∷ v) q.cut ∙ append_assoc q.front q.back (t ∷ v);
        after = subst FollowParameter (sym back_e) q.after;
        shape = inr (more_shape q.back t v r c q.shape);
        left = pred q.left;
        enough = less_pred (length r) q.left (omega (arith, q.enough, length-append v r));
        loop = ap (params.parameters_from leaves types F n F (q.first ∷ []) q.low) back_e ∙ q.loop
            ∙ ap (λ m. params.parameters_from leaves types F n m xs h (t ∷ (v ++ r))) (some_pred q.left (length (t ∷ (v ++ r))) q.enough)
            ∙ step.step_parameters leaves types F n (pred q.left) t (v ++ r) r xs h (x, i) c (parameter_c d n (omega (arith, low)) r (tail_short u t (v ++ r) F s1) f);
      }

  -- a base type that begins with `void`
  record VoidBase (u : List Token) (x : TypeTree) (h : ℕ) (takes : Bool) : Type 0 where
    token : Token
    void : token.kind ≡ k.Void
    cut : u ≡ token ∷ []
    tree : x ≡ ty.Basic token.place basic.Void
    flat : h ≡ 0
    free : takes ≡ false

  void_base : {takes : Bool} {u : List Token} {x : TypeTree} {h : ℕ} → IsBase leaves types true takes u x h → (r : List Token) → kind (u ++ r) ≡ k.Void → VoidBase u x h takes
  unfolding kind
  void_base (rules.basic t {x = x} c) r e =
      let q : Some basic.Void ≡ Some x = sym (ap basic_type e) ∙ c in
      let is : x ≡ basic.Void = cc in
      record { token = t; void = e; cut = refl; tree = ap (λ z. ty.Basic t.place z) is; flat = refl; free = refl }
  void_base (rules.named t (rules.type_name c f)) r e = absurd (let b : k.Name ≡ k.Void = sym c ∙ e in let z : ⊥ = cc in z)
  void_base (rules.instance t o c (rules.type_name tc f) oc a ec) r e = absurd (let b : k.Name ≡ k.Void = sym tc ∙ e in let z : ⊥ = cc in z)
  void_base (rules.tuple w o c wc oc a ec) r e = absurd (let b : k.Tuple ≡ k.Void = sym wc ∙ e in let z : ⊥ = cc in z)
  void_base (rules.bare_tuple o c oc a ec) r e = absurd (let b : k.LeftParen ≡ k.Void = sym oc ∙ e in let z : ⊥ = cc in z)
  void_base (rules.channel w o c wc oc a ec) r e = absurd (let b : k.Chan ≡ k.Void = sym wc ∙ e in let z : ⊥ = cc in z)
  void_base (rules.buffered w o c p q wc oc a ec pc m qc) r e = absurd (let b : k.Chan ≡ k.Void = sym wc ∙ e in let z : ⊥ = cc in z)

  same_base : (x x2 : TypeTree) (h h2 : ℕ) (t t2 : Bool) → x ≡ x2 → h ≡ h2 → t ≡ t2 → base_of x h t ≡ base_of x2 h2 t2
  same_base x x2 h h2 t t2 a b c = rw (a, b, c) refl

  -- a first parameter that begins with `void`
  void_c : (n : ℕ) (front rest r : List Token) (x : Parameter) (i : ℕ) (xs : Parameters) → params.parameters_behind leaves types F n (x, i) rest ≡ Ok (xs, r) → ((t : Token) → front ≡ t ∷ [] → t.kind ≡ k.Void → same_kind (kind rest) k.RightParen ≡ false)
      → (q : Based n front x i rest) → VoidBase q.front q.tree q.low q.takes → parameter_list leaves types F n (front ++ rest) ≡ Ok (xs, r)
  void_c n front rest r x i xs e one q v =
      let cut : front ++ rest ≡ v.token ∷ (q.back ++ rest) = ap (λ l. l ++ rest) (q.cut ∙ ap (λ l. l ++ q.back) v.cut) in
      let place : v.token.place ≡ start q.front = sym (ap start v.cut) in
      let base : sized_base (ty.Basic v.token.place basic.Void) 0 ≡ base_of q.tree q.low q.takes = same_base (ty.Basic v.token.place basic.Void) q.tree 0 q.low false q.takes (sym v.tree) (sym v.flat) (sym v.free) in
      ap (parameter_list leaves types F n) cut
      ∙ step.step_void_first leaves types F n v.token (q.back ++ rest) rest r (x, i) xs v.void (goes q.next) (ap₂ (λ p b. params.parameter_after leaves types F n p b (q.back ++ rest)) place base ∙ q.after) e
    where
      goes : (q.back ≡ []) ⊎ (same_kind (kind (q.back ++ rest)) k.RightParen ≡ false) → same_kind (kind (q.back ++ rest)) k.RightParen ≡ false
      goes (inl f) = ap (λ l. same_kind (kind (l ++ rest)) k.RightParen) f ∙ one v.token (q.cut ∙ ap₂ (λ l m. l ++ m) v.cut f) v.void
      goes (inr f) = f

  list_of : (n : ℕ) (front rest r : List Token) (x : Parameter) (i : ℕ) (xs : Parameters) → i ≤ n → length (front ++ rest) < F → params.parameters_behind leaves types F n (x, i) rest ≡ Ok (xs, r)
      → ((t : Token) → front ≡ t ∷ [] → t.kind ≡ k.Void → same_kind (kind rest) k.RightParen ≡ false) → Based n front x i rest ⊎ Direct n front x i rest → parameter_list leaves types F n (front ++ rest) ≡ Ok (xs, r)
  list_of n front rest r x i xs low s e one (inr q) = step.step_list leaves types F n (front ++ rest) rest r (x, i) xs q.no_close q.no_void q.is e
  list_of n front rest r x i xs low s e one (inl q) = go (same_kind (kind (front ++ rest)) k.Void) refl
    where
      cut : front ++ rest ≡ q.front ++ (q.back ++ rest)
      cut = ap (λ l. l ++ rest) q.cut ∙ append_assoc q.front q.back rest

      go : (b : Bool) → same_kind (kind (front ++ rest)) k.Void ≡ b → parameter_list leaves types F n (front ++ rest) ≡ Ok (xs, r)
      go false f = step.step_list leaves types F n (front ++ rest) rest r (x, i) xs (ap (λ l. same_kind (kind l) k.RightParen) cut ∙ base_no_close leaves types q.is (q.back ++ rest)) f (based_c n front x i rest low s q) e
      go true f = void_c n front rest r x i xs e one q (void_base q.is (q.back ++ rest) (ap kind (sym cut) ∙ kind_is (kind (front ++ rest)) k.Void f))

  only_void : (u front back : List Token) (t : Token) → is_void_alone u ≡ false → u ≡ front ++ back → back ≡ [] → front ≡ t ∷ [] → t.kind ≡ k.Void → ⊥
  only_void u front back t alone cut e f v =
      let whole : u ≡ t ∷ [] = cut ∙ ap₂ (λ l m. l ++ m) f e in
      let bad : true ≡ false = sym (ap is_void v) ∙ sym (ap is_void_alone whole) ∙ alone in
      let z : ⊥ = cc in z

  list_some : {u : List Token} {xs : List Parameter} {h : ℕ} → IsParameters leaves types u xs h → is_void_alone u ≡ false → (n : ℕ) → h ≤ n → (c : Token) (r : List Token) → c.kind ≡ k.RightParen → length (u ++ (c ∷ r)) < F → parameter_list leaves types F n (u ++ (c ∷ r)) ≡ Ok ((xs, h), r)
  list_some {u} {xs} {h} l alone n low c r ec s =
      let q = first_parameter l n low (c ∷ r) s (paren_parameter c r ec) in
      let cut : u ++ (c ∷ r) ≡ q.front ++ (q.back ++ (c ∷ r)) = ap (λ m. m ++ (c ∷ r)) q.cut ∙ append_assoc q.front q.back (c ∷ r) in
      let s1 : length (q.front ++ (q.back ++ (c ∷ r))) < F = omega (arith, s, ap length cut) in
      let i : q.low ≤ n = omega (arith, q.lower, low) in
      let no_comma : same_kind (kind (c ∷ r)) k.Comma ≡ false = kind_not (c ∷ r) k.RightParen k.Comma (kind_of c r k.RightParen ec) paren_is_no_comma in
      let behind = step.step_behind leaves types F n c (q.back ++ (c ∷ r)) r (q.first, q.low) (xs, h)
      (q.loop ∙ ap (λ m. params.parameters_from leaves types F n m xs h (c ∷ r)) (some_pred q.left (length (c ∷ r)) q.enough) ∙ step.end_parameters leaves types F n (pred q.left) (c ∷ r) xs h no_comma) ec in
      ap (parameter_list leaves types F n) cut
      ∙ list_of n q.front (q.back ++ (c ∷ r)) r q.first q.low (xs, h) i s1 behind (λ t f v. goes q.front q.back t q.cut f v q.shape) (split q.is n i (q.back ++ (c ∷ r)) s1 q.after)
    where
      goes : (front back : List Token) (t : Token) → u ≡ front ++ back → front ≡ t ∷ [] → t.kind ≡ k.Void → (back ≡ []) ⊎ (same_kind (kind (back ++ (c ∷ r))) k.RightParen ≡ false) → same_kind (kind (back ++ (c ∷ r))) k.RightParen ≡ false
      goes front back t e f v (inl g) = absurd (only_void u front back t alone e g f v)
      goes front back t e f v (inr g) = g

  -- the parameters of a function, and the parenthesis that closes
  pub parameter_list_c : {u : List Token} {xs : List Parameter} {h : ℕ} → IsParameterList leaves types u xs h → (n : ℕ) → h ≤ n → (c : Token) (r : List Token) → length (u ++ (c ∷ r)) < F → c.kind ≡ k.RightParen → parameter_list leaves types F n (u ++ (c ∷ r)) ≡ Ok ((xs, h), r)
  parameter_list_c items.none n low c r s ec = step.step_no_parameter leaves types F n c r ec
  parameter_list_c (items.void w wc) n low c r s ec = step.step_void_alone leaves types F n w c r wc ec
  parameter_list_c (items.some l alone) n low c r s ec = list_some l alone n low c r ec s
