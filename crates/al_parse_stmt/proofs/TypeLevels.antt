-- Each level takes a token, so no type goes too deep where there are as many levels as tokens.
use Rattle.std.proofs.lemmas.Grind.{common_steps}
use Rattle.std.proofs.Common.{◌≡◌, ℕ, zero, suc, pred, ◌+◌, ◌<◌, ◌≤◌, max, nat_lt, Bool, true, false, if◌then◌else◌, ◌&&◌, List, [], ◌∷◌, ◌++◌, length, Option, Some, None, Ok, Err, refl, arith}
use Rattle.al_base.specs.declared.place.Place.{Place}
use Rattle.al_lex.specs.declared.kind.TokenKind.{TokenKind}
use Rattle.al_lex.specs.declared.kind.TokenKind.TheVariants as k
use Rattle.al_lex.specs.declared.token.Token.{Token}
use Rattle.al_tree.specs.Words.{start, basic_type, bound_sum, bound_product}
use Rattle.al_tree.specs.Types.{Leaves, arrays}
use Rattle.al_tree.specs.declared.cursor.ParseError.TheVariants.{NoMemory, Stuck, Deep}
use Rattle.al_tree.specs.declared.type_tree.BasicType.{BasicType}
use Rattle.al_tree.specs.declared.type_tree.Bound.{Bound}
use Rattle.al_tree.specs.declared.type_tree.Bound.TheVariants as b
use Rattle.al_tree.specs.declared.type_tree.BoundOp.{BoundOp}
use Rattle.al_tree.specs.declared.type_tree.TypeTree.{TypeTree}
use Rattle.al_tree.specs.declared.type_tree.TypeTree.TheVariants as ty
use Rattle.al_tree.specs.Reading.{Outcome, Parser, and_then, ◌>>=◌, ◌>>◌, pure, refuse, kind, same_kind, take_if, expect_if, expect}
use Rattle.al_parse_type.specs.declared.part.Part.TheVariants as part
use Rattle.al_parse_type.specs.declared.part.ReadBase.{ReadBase}
use Rattle.al_parse_type.specs.Parse as types_parse
use Rattle.al_parse_type.specs.Parse.{SizedBound, SizedType, SizedPart, sees_type, sees_type_name, sees_other_name, begins_part, other_name, stars_from, bound_below, bound, bounds_from, below, is_one, type_of, sized_base, wanted, part_wanted}
use Rattle.al_parse_type.specs.Within.{base_within}

-- so many levels are opened before the token that goes too deep
abbrev pub Fits : {A : Type 0} → ℕ → ℕ → Outcome A → Type 0
Fits n l (Ok x) = length x.1 ≤ l
Fits n l (Err NoMemory) = Unit {0}
Fits n l (Err (Stuck m)) = Unit {0}
Fits n l (Err (Deep m)) = m + n < l

-- a parser of at most so many levels
pub record Levels {A : Type 0} (n : ℕ) (p : Parser A) : Type 0 where
  pub run : (ts : List Token) → Fits n (length ts) (p ts)

less_fits : {A : Type 0} (m n l l2 : ℕ) → m ≤ n → l ≤ l2 → (o : Outcome A) → Fits n l o → Fits m l2 o
less_fits m n l l2 h g (Ok x) f = omega (arith, f, g)
less_fits m n l l2 h g (Err NoMemory) f = tt
less_fits m n l l2 h g (Err (Stuck i)) f = tt
less_fits m n l l2 h g (Err (Deep i)) f = omega (arith, f, g, h)

-- a token was taken, with which a level may open
opened_fits : {A : Type 0} (n l : ℕ) (o : Outcome A) → Fits (pred n) l o → Fits n (suc l) o
opened_fits n l (Ok x) f = omega (arith, f)
opened_fits n l (Err NoMemory) f = tt
opened_fits n l (Err (Stuck i)) f = tt
opened_fits zero l (Err (Deep i)) f = omega (arith, f)
opened_fits (suc n) l (Err (Deep i)) f = omega (arith, f)

fits_then : {A B : Type 0} (n l : ℕ) (o : Outcome A) (f : A → Parser B) → Fits n l o → ((a : A) (r : List Token) → length r ≤ l → Fits n l (f a r)) → Fits n l (and_then o f)
fits_then n l (Ok x) f p k = k x.0 x.1 p
fits_then n l (Err NoMemory) f p k = tt
fits_then n l (Err (Stuck m)) f p k = tt
fits_then n l (Err (Deep m)) f p k = p

pub fewer_levels : {A : Type 0} {p : Parser A} (m n : ℕ) → m ≤ n → Levels n p → Levels m p
fewer_levels {p = p} m n h l = record { run = λ ts. less_fits m n (length ts) (length ts) h (omega arith) (p ts) (l.run ts) }

pub pure_levels : {A : Type 0} {n : ℕ} (a : A) → Levels n (pure a)
pure_levels a = record { run = λ ts. omega arith }

pub refuse_levels : {A : Type 0} {n : ℕ} → Levels n (λ (ts : List Token). refuse {A = A} ts)
refuse_levels {A} = record { run = λ ts. tt }

pub bind_levels : {A B : Type 0} {n : ℕ} {p : Parser A} {f : A → Parser B} → Levels n p → ((a : A) → Levels n (f a)) → Levels n (p >>= f)
bind_levels {n = n} {p = p} {f = f} l k = record { run = λ ts. fits_then n (length ts) (p ts) f (l.run ts) (λ a r h. less_fits n n (length r) (length ts) (omega arith) h (f a r) ((k a).run r)) }

pub choose_levels : {A : Type 0} {n : ℕ} {p q : Parser A} (b : Bool) → Levels n p → Levels n q → Levels n (if b then p else q)
choose_levels true a b = a
choose_levels false a b = b

pub look_levels : {A X : Type 0} {n : ℕ} (look : List Token → X) (f : X → Parser A) → ((x : X) → Levels n (f x)) → Levels n (λ ts. f (look ts) ts)
look_levels look f k = record { run = λ ts. (k (look ts)).run ts }

-- a token with which a level opens, where there is one
pub open_levels : {A : Type 0} {n : ℕ} (fits : Bool) {f : Token → Parser A} → (fits ≡ false → n ≡ 0) → (fits ≡ true → (t : Token) → Levels (pred n) (f t)) → Levels n (take_if fits >>= f)
unfolding take_if
open_levels {n = n} true {f = f} none k = record { run = on }
  where
    on : (ts : List Token) → Fits n (length ts) (and_then (take_if true ts) f)
    on [] = tt
    on (t ∷ ts) = opened_fits n (length ts) (f t ts) ((k refl t).run ts)
open_levels {n = n} false {f = f} none k = record { run = on }
  where
    on : (ts : List Token) → Fits n (length ts) (and_then (take_if false ts) f)
    on [] = tt
    on (t ∷ ts) = omega (arith, none refl)

pub take_levels : {A : Type 0} {n : ℕ} {f : Token → Parser A} → ((t : Token) → Levels (pred n) (f t)) → Levels n (take_if true >>= f)
take_levels {n = n} k = open_levels true (λ e. absurd (let z : ⊥ = cc in z)) (λ e. k)

pred_less : (n : ℕ) → pred n ≤ n
pred_less zero = omega arith
pred_less (suc n) = omega arith

pub pass_levels : {A : Type 0} {n : ℕ} {f : Token → Parser A} → ((t : Token) → Levels n (f t)) → Levels n (take_if true >>= f)
pass_levels {n = n} k = take_levels (λ t. fewer_levels (pred n) n (pred_less n) (k t))

pub expect_levels : {A : Type 0} {n : ℕ} (K : TokenKind) {f : Token → Parser A} → ((t : Token) → Levels n (f t)) → Levels n (expect K >>= f)
unfolding expect_if
expect_levels {n = n} K {f = f} k = record { run = λ ts. by (same_kind (kind ts) K) ts }
  where
    by : (b : Bool) (ts : List Token) → Fits n (length ts) (and_then (if b then take_if true ts else refuse ts) f)
    by true ts = (pass_levels {f = f} k).run ts
    by false ts = tt

no_level : (n : ℕ) → nat_lt 0 n ≡ false → n ≡ 0
no_level zero e = refl
no_level (suc n) e = absurd (let z : ⊥ = grind (arith, common_steps) in z)

-- where a token that was taken opens a level, which may be missing
room_levels : {A : Type 0} (n : ℕ) {p : Parser A} → (nat_lt 0 n ≡ true → Levels (pred n) p) → Levels (pred n) (if nat_lt 0 n then p else (take_if false >> refuse))
unfolding take_if
room_levels {A} n {p = p} k = by (nat_lt 0 n) refl
  where
    deep : n ≡ 0 → (ts : List Token) → Fits {A = A} (pred n) (length ts) ((take_if false >> refuse) ts)
    deep e [] = tt
    deep e (t ∷ ts) = omega (arith, pred_less n, e)

    by : (b : Bool) → nat_lt 0 n ≡ b → Levels (pred n) (if b then p else (take_if false >> refuse))
    by true e = k e
    by false e = record { run = λ ts. deep (no_level n e) ts }

-- ---- bounds

module _ (leaves : Leaves) (types : List ℕ) (turns : ℕ) where
  pub other_levels : {A : Type 0} {n : ℕ} {f : Token → Parser A} → ((t : Token) → Levels n (f t)) → Levels n (other_name types >>= f)
  unfolding other_name
  other_levels {n = n} {f = f} k = record { run = λ ts. by (sees_other_name types ts) ts }
    where
      by : (is : Bool) (ts : List Token) → Fits n (length ts) (and_then ((if is then take_if true else refuse) ts) f)
      by true ts = (pass_levels {f = f} k).run ts
      by false ts = tt

  module _ (n : ℕ) (sub : Parser SizedBound) (inside : nat_lt 0 n ≡ true → Levels (pred n) sub) where
    inside_levels : nat_lt 0 n ≡ true → Levels (pred n) (types_parse.bound_inside leaves types turns n sub)
    unfolding types_parse.bound_inside
    inside_levels e = bind_levels (inside e) (λ x. expect_levels k.RightParen (λ c. pure_levels (x.0, x.1 + 1)))

    prim_by_levels : (kd : TokenKind) → Levels n (types_parse.prim_by leaves types turns n sub kd)
    prim_by_levels k.Number = pass_levels (λ t. pure_levels (b.Number t.place (leaves.number t), 0))
    prim_by_levels k.Name = other_levels (λ t. pure_levels (b.Name t.place t.name, 0))
    prim_by_levels k.LeftParen = open_levels (nat_lt 0 n) (no_level n) (λ e t. inside_levels e)
    prim_by_levels _ = refuse_levels

    prim_levels : Levels n (types_parse.bound_prim leaves types turns n sub)
    unfolding types_parse.bound_prim
    prim_levels = look_levels kind (types_parse.prim_by leaves types turns n sub) prim_by_levels

    products_levels : (m : ℕ) (at : Place) (x : SizedBound) → Levels n (types_parse.products_from leaves types turns n sub m at x)
    unfolding types_parse.products_from
    products_levels zero at x = refuse_levels
    products_levels (suc m) at x = look_levels (λ ts. bound_product (kind ts)) (types_parse.product_by leaves types turns n sub (types_parse.products_from leaves types turns n sub m at) at x) (by (products_levels m at))
      where
        by : ((y : SizedBound) → Levels n (types_parse.products_from leaves types turns n sub m at y)) → (o : Option BoundOp) → Levels n (types_parse.product_by leaves types turns n sub (types_parse.products_from leaves types turns n sub m at) at x o)
        by again (Some op) = pass_levels (λ t. bind_levels prim_levels (λ y. again (b.Binary at op x.0 y.0, max x.1 y.1)))
        by again None = pure_levels x

    term_levels : Levels n (types_parse.bound_term leaves types turns n sub)
    unfolding types_parse.bound_term
    term_levels = look_levels start (λ at. types_parse.bound_prim leaves types turns n sub >>= types_parse.products_from leaves types turns n sub turns at) (λ at. bind_levels prim_levels (λ x. products_levels turns at x))

    sums_levels : (m : ℕ) (at : Place) (x : SizedBound) → Levels n (types_parse.sums_from leaves types turns n sub m at x)
    unfolding types_parse.sums_from
    sums_levels zero at x = refuse_levels
    sums_levels (suc m) at x = look_levels (λ ts. bound_sum (kind ts)) (types_parse.sum_by leaves types turns n sub (types_parse.sums_from leaves types turns n sub m at) at x) (by (sums_levels m at))
      where
        by : ((y : SizedBound) → Levels n (types_parse.sums_from leaves types turns n sub m at y)) → (o : Option BoundOp) → Levels n (types_parse.sum_by leaves types turns n sub (types_parse.sums_from leaves types turns n sub m at) at x o)
        by again (Some op) = pass_levels (λ t. bind_levels term_levels (λ y. again (b.Binary at op x.0 y.0, max x.1 y.1)))
        by again None = pure_levels x

    bound_at_levels : Levels n (types_parse.bound_at leaves types turns n sub)
    unfolding types_parse.bound_at
    bound_at_levels = look_levels start (λ at. types_parse.bound_term leaves types turns n sub >>= types_parse.sums_from leaves types turns n sub turns at) (λ at. bind_levels term_levels (λ x. sums_levels turns at x))

    bound_after_levels : (at : Place) (x : SizedBound) → Levels n (types_parse.bound_after leaves types turns n sub at x)
    unfolding types_parse.bound_after
    bound_after_levels at x = bind_levels (products_levels turns at x) (λ y. sums_levels turns at y)

  bound_below_levels : (n : ℕ) → nat_lt 0 n ≡ true → Levels (pred n) (bound_below leaves types turns n)
  unfolding bound_below
  bound_below_levels zero e = absurd (let z : ⊥ = cc in z)
  bound_below_levels (suc n) e = bound_at_levels n (bound_below leaves types turns n) (bound_below_levels n)

  bound_levels : (n : ℕ) → Levels n (bound leaves types turns n)
  unfolding bound
  bound_levels n = bound_at_levels n (bound_below leaves types turns n) (bound_below_levels n)

  bounds_levels : (n m : ℕ) (xs : List Bound) (h : ℕ) → Levels n (bounds_from leaves types turns n m xs h)
  unfolding bounds_from
  bounds_levels n zero xs h = refuse_levels
  bounds_levels n (suc m) xs h = look_levels kind (λ next. if same_kind next k.LeftBracket then (take_if true >>= (λ _. bound leaves types turns n >>= (λ x. expect k.RightBracket >>= (λ _. bounds_from leaves types turns n m (xs ++ x.0 ∷ []) (max h x.1))))) else pure (xs, h))
      (λ next. choose_levels (same_kind next k.LeftBracket) (pass_levels (λ t. bind_levels (bound_levels n) (λ x. expect_levels k.RightBracket (λ c. bounds_levels n m (xs ++ x.0 ∷ []) (max h x.1))))) (pure_levels (xs, h)))

  pub stars_levels : {n : ℕ} (m i : ℕ) → Levels n (stars_from m i)
  unfolding stars_from
  stars_levels zero i = refuse_levels
  stars_levels (suc m) i = look_levels kind (λ next. if same_kind next k.Star then (take_if true >> stars_from m (i + 1)) else pure i) (λ next. choose_levels (same_kind next k.Star) (pass_levels (λ t. stars_levels m (i + 1))) (pure_levels i))

  pointers_levels : {n : ℕ} (m : ℕ) (at : Place) (x : ReadBase) → Levels n (types_parse.pointers_from m at x)
  unfolding types_parse.pointers_from
  pointers_levels zero at x = refuse_levels
  pointers_levels (suc m) at x = look_levels kind (λ next. if same_kind next k.Star then (take_if true >> types_parse.pointers_from m at (sized_base (ty.Pointer at x.tree) x.height)) else pure x)
      (λ next. choose_levels (same_kind next k.Star) (pass_levels (λ t. pointers_levels m at (sized_base (ty.Pointer at x.tree) x.height))) (pure_levels x))

  -- ---- types

  module _ (n : ℕ) (inside : nat_lt 0 n ≡ true → (bare : Bool) → Levels (pred n) ((below leaves types turns n) (wanted bare))) (inside_part : nat_lt 0 n ≡ true → (bare : Bool) → Levels (pred n) ((below leaves types turns n) (part_wanted bare))) where
    low : {A : Type 0} {p : Parser A} → Levels n p → Levels (pred n) p
    low l = fewer_levels (pred n) n (pred_less n) l

    type_of_levels : {m : ℕ} (x : SizedPart) → Levels m (type_of x)
    type_of_levels (part.Type x, h) = pure_levels (x, h)
    type_of_levels (part.Bound x, h) = refuse_levels

    sub_levels : (bare : Bool) → nat_lt 0 n ≡ true → Levels (pred n) (types_parse.sub_type leaves types turns n (below leaves types turns n) bare)
    unfolding types_parse.sub_type
    sub_levels bare e = bind_levels (inside e bare) type_of_levels

    types_levels : (bare : Bool) → nat_lt 0 n ≡ true → (m : ℕ) (xs : List TypeTree) (h : ℕ) → Levels (pred n) (types_parse.types_from leaves types turns n (below leaves types turns n) bare m xs h)
    unfolding types_parse.types_from
    types_levels bare e zero xs h = refuse_levels
    types_levels bare e (suc m) xs h = look_levels kind (λ next. if same_kind next k.Comma then (take_if true >>= (λ _. types_parse.sub_type leaves types turns n (below leaves types turns n) bare >>= (λ x. types_parse.types_from leaves types turns n (below leaves types turns n) bare m (xs ++ x.0 ∷ []) (max h x.1)))) else pure (xs, h))
        (λ next. choose_levels (same_kind next k.Comma) (pass_levels (λ t. bind_levels (sub_levels bare e) (λ x. types_levels bare e m (xs ++ x.0 ∷ []) (max h x.1)))) (pure_levels (xs, h)))

    arguments_levels : (bare : Bool) → nat_lt 0 n ≡ true → (t : Token) (x : SizedType) → Levels (pred n) (types_parse.arguments_after leaves types turns n (below leaves types turns n) bare t x)
    unfolding types_parse.arguments_after
    arguments_levels bare e t x = bind_levels (types_levels bare e turns (x.0 ∷ []) x.1) (λ xs. expect_levels k.RightBracket (λ c. pure_levels (sized_base (ty.Named t.place t.name xs.0) (xs.1 + 1))))

    tuple_after_levels : (bare : Bool) → nat_lt 0 n ≡ true → (at : Place) (x : SizedType) → Levels (pred n) (types_parse.tuple_after leaves types turns n (below leaves types turns n) bare at x)
    unfolding types_parse.tuple_after
    tuple_after_levels bare e at x = bind_levels (types_levels bare e turns (x.0 ∷ []) x.1) (λ xs. choose_levels (is_one xs.0) refuse_levels (expect_levels k.RightParen (λ c. pure_levels (sized_base (ty.Tuple at xs.0) (xs.1 + 1)))))

    tuple_levels : (bare : Bool) → Levels n (types_parse.tuple leaves types turns n (below leaves types turns n) bare)
    unfolding types_parse.tuple
    tuple_levels bare = open_levels (nat_lt 0 n) (no_level n) (λ e w. expect_levels k.LeftParen (λ o. bind_levels (sub_levels bare e) (λ x. tuple_after_levels bare e w.place x)))

    bare_levels : Levels n (types_parse.bare_tuple leaves types turns n (below leaves types turns n))
    unfolding types_parse.bare_tuple
    bare_levels = open_levels (nat_lt 0 n) (no_level n) (λ e o. bind_levels (sub_levels true e) (λ x. tuple_after_levels true e o.place x))

    capacity_levels : (at : Place) (x : TypeTree) (h : ℕ) → Levels n (types_parse.capacity leaves types turns n (below leaves types turns n) at x h)
    unfolding types_parse.capacity
    capacity_levels at x h = look_levels kind (λ next. if same_kind next k.LeftBracket then (take_if true >>= (λ _. bound leaves types turns n >>= (λ i. expect k.RightBracket >>= (λ _. pure (sized_base (ty.Chan at x (Some i.0)) (max h i.1)))))) else pure (record { tree = ty.Chan at x None; height = h; takes_bracket = true }))
        (λ next. choose_levels (same_kind next k.LeftBracket) (pass_levels (λ t. bind_levels (bound_levels n) (λ i. expect_levels k.RightBracket (λ c. pure_levels (sized_base (ty.Chan at x (Some i.0)) (max h i.1)))))) (pure_levels (record { tree = ty.Chan at x None; height = h; takes_bracket = true })))

    channel_levels : Levels n (types_parse.channel leaves types turns n (below leaves types turns n))
    unfolding types_parse.channel
    channel_levels = open_levels (nat_lt 0 n) (no_level n) (λ e w. expect_levels k.LeftParen (λ o. bind_levels (sub_levels true e) (λ x. expect_levels k.RightParen (λ c. low (capacity_levels w.place x.0 (x.1 + 1))))))

    unnamed_by_levels : (bare : Bool) (kd : TokenKind) (o : Option BasicType) → Levels n (types_parse.unnamed_by leaves types turns n (below leaves types turns n) bare kd o)
    unnamed_by_levels bare kd (Some basic) = pass_levels (λ t. pure_levels (sized_base (ty.Basic t.place basic) 0))
    unnamed_by_levels bare kd None = choose_levels (same_kind kd k.Tuple) (tuple_levels bare) (choose_levels (same_kind kd k.Chan) channel_levels (choose_levels (bare && same_kind kd k.LeftParen) bare_levels refuse_levels))

    unnamed_levels : (bare : Bool) → Levels n (types_parse.unnamed leaves types turns n (below leaves types turns n) bare)
    unfolding types_parse.unnamed
    unnamed_levels bare = look_levels kind (λ next. types_parse.unnamed_by leaves types turns n (below leaves types turns n) bare next (basic_type next)) (λ next. unnamed_by_levels bare next (basic_type next))

    named_levels : (bare : Bool) → Levels n (types_parse.named leaves types turns n (below leaves types turns n) bare)
    unfolding types_parse.named
    named_levels bare = pass_levels (λ t. look_levels kind (λ next. if same_kind next k.LeftBracket then (take_if (nat_lt 0 n) >>= (λ _. types_parse.sub_type leaves types turns n (below leaves types turns n) bare >>= types_parse.arguments_after leaves types turns n (below leaves types turns n) bare t)) else pure (sized_base (ty.Named t.place t.name []) 0))
        (λ next. choose_levels (same_kind next k.LeftBracket) (open_levels (nat_lt 0 n) (no_level n) (λ e o. bind_levels (sub_levels bare e) (λ x. arguments_levels bare e t x))) (pure_levels (sized_base (ty.Named t.place t.name []) 0))))

    base_levels : (bare : Bool) → Levels n (types_parse.base_at leaves types turns n (below leaves types turns n) bare)
    unfolding types_parse.base_at
    base_levels bare = look_levels (sees_type_name types) (λ is. if is then types_parse.named leaves types turns n (below leaves types turns n) bare else types_parse.unnamed leaves types turns n (below leaves types turns n) bare) (λ is. choose_levels is (named_levels bare) (unnamed_levels bare))

    type_after_levels : (at : Place) (x : ReadBase) → Levels n (types_parse.type_after leaves types turns n (below leaves types turns n) at x)
    unfolding types_parse.type_after
    type_after_levels at x = bind_levels (pointers_levels turns at x) (λ y. choose_levels y.takes_bracket (pure_levels (y.tree, y.height)) (bind_levels (bounds_levels n turns [] 0) (λ ns. pure_levels (arrays at ns.0 y.tree, max y.height ns.1))))

    array_levels : (t : Token) (x : SizedBound) → Levels n (types_parse.array_of leaves types turns n (below leaves types turns n) t x)
    unfolding types_parse.array_of
    array_levels t x = expect_levels k.RightBracket (λ c. bind_levels (bounds_levels n turns (x.0 ∷ []) x.1) (λ ns. pure_levels (arrays t.place ns.0 (ty.Named t.place t.name []), ns.1)))

    bracketed_levels : (bare : Bool) → nat_lt 0 n ≡ true → (t : Token) (x : SizedPart) → Levels (pred n) (types_parse.bracketed leaves types turns n (below leaves types turns n) bare t x)
    bracketed_levels bare e t (part.Type x, h) = bind_levels (arguments_levels bare e t (x, h)) (λ y. low (type_after_levels t.place y))
    bracketed_levels bare e t (part.Bound x, h) = low (array_levels t (x, h))

    bracket_part_levels : (bare : Bool) → nat_lt 0 n ≡ true → (t : Token) → Levels (pred n) (types_parse.bracket_part leaves types turns n (below leaves types turns n) bare t)
    unfolding types_parse.bracket_part
    bracket_part_levels bare e t = bind_levels (inside_part e bare) (λ x. bracketed_levels bare e t x)

    bracket_levels : (bare : Bool) (t : Token) → Levels (pred n) (types_parse.bracket leaves types turns n (below leaves types turns n) bare t)
    unfolding types_parse.bracket
    bracket_levels bare t = look_levels (begins_part types bare) (λ begins. if begins then (if nat_lt 0 n then types_parse.bracket_part leaves types turns n (below leaves types turns n) bare t else (take_if false >> refuse)) else (bound leaves types turns n >>= types_parse.array_of leaves types turns n (below leaves types turns n) t))
        (λ begins. choose_levels begins (room_levels n (λ e. bracket_part_levels bare e t)) (low (bind_levels (bound_levels n) (λ x. array_levels t x))))

    named_type_levels : (bare : Bool) → Levels n (types_parse.named_type leaves types turns n (below leaves types turns n) bare)
    unfolding types_parse.named_type
    named_type_levels bare = pass_levels (λ t. look_levels kind (λ next. if same_kind next k.LeftBracket then (take_if true >> types_parse.bracket leaves types turns n (below leaves types turns n) bare t) else types_parse.type_after leaves types turns n (below leaves types turns n) t.place (sized_base (ty.Named t.place t.name []) 0))
        (λ next. choose_levels (same_kind next k.LeftBracket) (take_levels (λ o. bracket_levels bare t)) (type_after_levels t.place (sized_base (ty.Named t.place t.name []) 0))))

    type_levels : (bare : Bool) → Levels n (types_parse.type_at leaves types turns n (below leaves types turns n) bare)
    unfolding types_parse.type_at
    type_levels bare = look_levels (sees_type_name types) (λ is. if is then types_parse.named_type leaves types turns n (below leaves types turns n) bare else (λ ts. and_then (types_parse.unnamed leaves types turns n (below leaves types turns n) bare ts) (types_parse.type_after leaves types turns n (below leaves types turns n) (start ts))))
        (λ is. choose_levels is (named_type_levels bare) (look_levels start (λ at. types_parse.unnamed leaves types turns n (below leaves types turns n) bare >>= types_parse.type_after leaves types turns n (below leaves types turns n) at) (λ at. bind_levels (unnamed_levels bare) (λ x. type_after_levels at x))))

    closed_bound_levels : (at : Place) (x : SizedBound) → Levels n (types_parse.closed_bound leaves types turns n (below leaves types turns n) at x)
    unfolding types_parse.closed_bound
    closed_bound_levels at x = expect_levels k.RightParen (λ c. bind_levels
        (fewer_levels n (n + 1) (omega arith) (bound_after_levels (n + 1) (bound_below leaves types turns (n + 1)) (bound_below_levels (n + 1)) at (x.0, x.1 + 1))) (λ y. pure_levels (part.Bound y.0, y.1)))

    closed_type_levels : nat_lt 0 n ≡ true → (at : Place) (x : SizedType) → Levels (pred n) (types_parse.closed_type leaves types turns n (below leaves types turns n) at x)
    unfolding types_parse.closed_type
    closed_type_levels e at x = bind_levels (tuple_after_levels true e at x) (λ y. bind_levels (low (type_after_levels at y)) (λ z. pure_levels (part.Type z.0, z.1)))

    parenthesised_levels : nat_lt 0 n ≡ true → (at : Place) (x : SizedPart) → Levels (pred n) (types_parse.parenthesised leaves types turns n (below leaves types turns n) at x)
    parenthesised_levels e at (part.Type x, h) = closed_type_levels e at (x, h)
    parenthesised_levels e at (part.Bound x, h) = low (closed_bound_levels at (x, h))

    parenthesis_levels : (at : Place) → Levels (pred n) (types_parse.parenthesis leaves types turns n (below leaves types turns n) at)
    unfolding types_parse.parenthesis
    parenthesis_levels at = look_levels (begins_part types true) (λ begins. if begins then (if nat_lt 0 n then ((below leaves types turns n) (part_wanted true) >>= types_parse.parenthesised leaves types turns n (below leaves types turns n) at) else (take_if false >> refuse)) else (bound leaves types turns n >>= types_parse.closed_bound leaves types turns n (below leaves types turns n) at))
        (λ begins. choose_levels begins (room_levels n (λ e. bind_levels (inside_part e true) (λ x. parenthesised_levels e at x))) (low (bind_levels (bound_levels n) (λ x. closed_bound_levels at x))))

    either_levels : Levels n (types_parse.either_at leaves types turns n (below leaves types turns n))
    unfolding types_parse.either_at
    either_levels = look_levels (sees_type types) (λ is ts. (if is then (types_parse.type_at leaves types turns n (below leaves types turns n) true >>= (λ x. pure (part.Type x.0, x.1))) else (if same_kind (kind ts) k.LeftParen then (take_if true >>= (λ o. types_parse.parenthesis leaves types turns n (below leaves types turns n) o.place)) else (bound leaves types turns (n + 1) >>= (λ x. pure (part.Bound x.0, x.1))))) ts)
        (λ is. look_levels kind (λ next. if is then (types_parse.type_at leaves types turns n (below leaves types turns n) true >>= (λ x. pure (part.Type x.0, x.1))) else (if same_kind next k.LeftParen then (take_if true >>= (λ o. types_parse.parenthesis leaves types turns n (below leaves types turns n) o.place)) else (bound leaves types turns (n + 1) >>= (λ x. pure (part.Bound x.0, x.1)))))
        (λ next. choose_levels is (bind_levels (type_levels true) (λ x. pure_levels (part.Type x.0, x.1)))
        (choose_levels (same_kind next k.LeftParen) (take_levels (λ o. parenthesis_levels o.place)) (bind_levels (fewer_levels n (n + 1) (omega arith) (bound_levels (n + 1))) (λ x. pure_levels (part.Bound x.0, x.1))))))

    type_wanted : (bare : Bool) → Levels n (types_parse.at_want leaves types turns n (below leaves types turns n) (wanted bare))
    type_wanted true = bind_levels (type_levels true) (λ x. pure_levels (part.Type x.0, x.1))
    type_wanted false = bind_levels (type_levels false) (λ x. pure_levels (part.Type x.0, x.1))

    any_wanted : (bare : Bool) → Levels n (types_parse.at_want leaves types turns n (below leaves types turns n) (part_wanted bare))
    any_wanted true = either_levels
    any_wanted false = bind_levels (type_levels false) (λ x. pure_levels (part.Type x.0, x.1))

  below_levels : (n : ℕ) → nat_lt 0 n ≡ true → (bare : Bool) → Levels (pred n) (below leaves types turns n (wanted bare)) × Levels (pred n) (below leaves types turns n (part_wanted bare))
  unfolding below
  below_levels zero e bare = absurd (let z : ⊥ = cc in z)
  below_levels (suc n) e bare =
      (type_wanted n (λ f b. (below_levels n f b).0) (λ f b. (below_levels n f b).1) bare, any_wanted n (λ f b. (below_levels n f b).0) (λ f b. (below_levels n f b).1) bare)

  pub base_within_levels : (n : ℕ) → Levels n (base_within leaves types turns n)
  base_within_levels n = base_levels n (λ f b. (below_levels n f b).0) (λ f b. (below_levels n f b).1) true
