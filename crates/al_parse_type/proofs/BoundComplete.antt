-- The bounds, stars and declarators that the grammar has are parsed to their trees.
use Rattle.std.proofs.Common.{◌≡◌, ℕ, zero, suc, pred, ◌+◌, ◌<◌, ◌≤◌, max, nat_lt, true, false, List, [], ◌∷◌, ◌++◌, length, Some, None, Ok, refl, sym, ap, ap₂, ◌∙◌, arith, append_assoc, length-append}
use Rattle.std.proofs.lemmas.Grind.{common_steps}
use Rattle.al_base.specs.declared.place.Place.{Place}
use Rattle.al_lex.specs.declared.kind.TokenKind.{TokenKind}
use Rattle.al_lex.specs.declared.kind.TokenKind.TheVariants as k
use Rattle.al_lex.specs.declared.token.Token.{Token}
use Rattle.al_tree.specs.Words.{start, bound_sum, bound_product}
use Rattle.al_tree.specs.Types.{Leaves, known, name_at, IsOtherName, other_name as is_other, IsBoundPrim, number, name, paren, IsBoundTerm, prim, product, IsBound, term, sum, IsBounds, AreStars, IsDcl, dcl as is_dcl}
use Rattle.al_tree.specs.Types as rules
use Rattle.al_tree.specs.Reading.{Parser, kind, name_number, same_kind, take_if, expect_if}
use Rattle.al_tree.specs.declared.type_tree.BoundOp.{BoundOp}
use Rattle.al_tree.specs.declared.type_tree.Bound.{Bound}
use Rattle.al_tree.specs.declared.type_tree.Bound.TheVariants as b
use Rattle.al_tree.specs.declared.type_tree.Dcl.{Dcl}
use Rattle.al_tree.proofs.Law.{some_pred, start_of}
use Rattle.al_parse_type.specs.Parse as parse
use Rattle.al_parse_type.specs.Parse.{SizedBound, sees_other_name, other_name, bound_below, bound, bounds_from, stars_from, dcl}
use Rattle.al_parse_type.proofs.BoundLaw.{term_long, bound_long}

lower_height : (h n : ℕ) → h + 1 ≤ n → h ≤ pred n
lower_height h zero p = absurd (omega arith)
lower_height h (suc n) p = omega arith

-- what no bound goes on with
pub record FollowBound (r : List Token) : Type 0 where
  pub product : bound_product (kind r) ≡ None
  pub sum : bound_sum (kind r) ≡ None

pub less_pred : (a b : ℕ) → suc a < b → a < pred b
less_pred a zero h = absurd (omega arith)
less_pred a (suc b) h = omega arith

pub tail_short : (u : List Token) (o : Token) (w : List Token) (n : ℕ) → length (u ++ o ∷ w) < n → length w < n
tail_short u o w n h = omega (arith, length-append u (o ∷ w))

pub rest_short : (u r : List Token) (n : ℕ) → length (u ++ r) < n → length r < n
rest_short u r n h = omega (arith, length-append u r)

pub enclosed : (u : List Token) (o : Token) (v : List Token) (c : Token) (r : List Token) → (u ++ o ∷ (v ++ c ∷ [])) ++ r ≡ u ++ (o ∷ (v ++ (c ∷ r)))
enclosed u o v c r = append_assoc u (o ∷ (v ++ c ∷ [])) r ∙ ap (λ l. u ++ o ∷ l) (append_assoc v (c ∷ []) r)

pub nat_lt_is : (h n : ℕ) → h < n → nat_lt h n ≡ true
nat_lt_is h n p = grind (arith, common_steps)

pub kind_of : (t : Token) (ts : List Token) (kd : TokenKind) → t.kind ≡ kd → kind (t ∷ ts) ≡ kd
unfolding kind
kind_of t ts kd h = h

pub follow_closing : (r : List Token) (kd : TokenKind) → kind r ≡ kd → bound_product kd ≡ None → bound_sum kd ≡ None → FollowBound r
follow_closing r kd h p s = record { product = ap bound_product h ∙ p; sum = ap bound_sum h ∙ s }

sum_no_product : (kd : TokenKind) (op : BoundOp) → bound_sum kd ≡ Some op → bound_product kd ≡ None
sum_no_product k.Star op h = absurd (let f : ⊥ = cc in f)
sum_no_product _ op h = refl

module _ (leaves : Leaves) (types : List ℕ) (F : ℕ) where
  abbrev S : ℕ → Parser SizedBound
  S n = bound_below leaves types F n

  step_number : (n : ℕ) (t : Token) (r : List Token) → t.kind ≡ k.Number → parse.bound_prim leaves types F n (S n) (t ∷ r) ≡ Ok ((b.Number t.place (leaves.number t), 0), r)
  unfolding parse.bound_prim kind take_if
  step_number n t r h = rw h refl

  step_name : (n : ℕ) (t : Token) (r : List Token) → t.kind ≡ k.Name → known types t.name ≡ false → parse.bound_prim leaves types F n (S n) (t ∷ r) ≡ Ok ((b.Name t.place t.name, 0), r)
  unfolding parse.bound_prim kind take_if other_name sees_other_name same_kind name_number
  step_name n t r h g = rw (h, g) refl

  step_paren : (n : ℕ) (o c : Token) (u r : List Token) (x : Bound) (h : ℕ) → o.kind ≡ k.LeftParen → c.kind ≡ k.RightParen → nat_lt 0 n ≡ true → S n (u ++ c ∷ r) ≡ Ok ((x, h), c ∷ r)
      → parse.bound_prim leaves types F n (S n) (o ∷ (u ++ c ∷ r)) ≡ Ok ((x, h + 1), r)
  unfolding parse.bound_prim parse.bound_inside kind same_kind take_if expect_if
  step_paren n o c u r x h oc ec room ih = rw (oc, room, ih, ec) refl

  step_term : (n : ℕ) (ts r : List Token) (x : SizedBound) → parse.bound_prim leaves types F n (S n) ts ≡ Ok (x, r) → parse.bound_term leaves types F n (S n) ts ≡ parse.products_from leaves types F n (S n) F (start ts) x r
  unfolding parse.bound_term
  step_term n ts r x h = rw h refl

  step_product : (n m : ℕ) (at : Place) (t : Token) (op : BoundOp) (v r : List Token) (x : SizedBound) (y : Bound) (i : ℕ) → bound_product t.kind ≡ Some op → parse.bound_prim leaves types F n (S n) (v ++ r) ≡ Ok ((y, i), r)
      → parse.products_from leaves types F n (S n) (suc m) at x (t ∷ (v ++ r)) ≡ parse.products_from leaves types F n (S n) m at (b.Binary at op x.0 y, max x.1 i) r
  unfolding parse.products_from kind take_if
  step_product n m at t op v r x y i tc ih = rw (tc, ih) refl

  end_products : (n m : ℕ) (at : Place) (r : List Token) (x : SizedBound) → bound_product (kind r) ≡ None → parse.products_from leaves types F n (S n) (suc m) at x r ≡ Ok (x, r)
  unfolding parse.products_from
  end_products n m at r x h = rw h refl

  step_bound : (n : ℕ) (ts r : List Token) (x : SizedBound) → parse.bound_term leaves types F n (S n) ts ≡ Ok (x, r) → parse.bound_at leaves types F n (S n) ts ≡ parse.sums_from leaves types F n (S n) F (start ts) x r
  unfolding parse.bound_at
  step_bound n ts r x h = rw h refl

  step_sum : (n m : ℕ) (at : Place) (t : Token) (op : BoundOp) (v r : List Token) (x : SizedBound) (y : Bound) (i : ℕ) → bound_sum t.kind ≡ Some op → parse.bound_term leaves types F n (S n) (v ++ r) ≡ Ok ((y, i), r)
      → parse.sums_from leaves types F n (S n) (suc m) at x (t ∷ (v ++ r)) ≡ parse.sums_from leaves types F n (S n) m at (b.Binary at op x.0 y, max x.1 i) r
  unfolding parse.sums_from kind take_if
  step_sum n m at t op v r x y i tc ih = rw (tc, ih) refl

  end_sums : (n m : ℕ) (at : Place) (r : List Token) (x : SizedBound) → bound_sum (kind r) ≡ None → parse.sums_from leaves types F n (S n) (suc m) at x r ≡ Ok (x, r)
  unfolding parse.sums_from
  end_sums n m at r x h = rw h refl

  step_below : (n : ℕ) (ts : List Token) → 0 < n → S n ts ≡ parse.bound_at leaves types F (pred n) (S (pred n)) ts
  unfolding bound_below
  step_below zero ts h = absurd (omega arith)
  step_below (suc n) ts h = refl

  -- loops that go on after x, with turns for what is left
  pub record AfterTerm (n : ℕ) (ts : List Token) (at : Place) (x : SizedBound) (r : List Token) : Type 0 where
    pub left : ℕ
    pub enough : length r < left
    pub is : parse.bound_term leaves types F n (S n) ts ≡ parse.products_from leaves types F n (S n) left at x r

  pub record AfterBound (n : ℕ) (ts : List Token) (at : Place) (x : SizedBound) (r : List Token) : Type 0 where
    pub left : ℕ
    pub enough : length r < left
    pub is : parse.bound_at leaves types F n (S n) ts ≡ parse.sums_from leaves types F n (S n) left at x r

  closes : (c : Token) (r : List Token) → c.kind ≡ k.RightParen → FollowBound (c ∷ r)
  closes c r e = follow_closing (c ∷ r) k.RightParen (kind_of c r k.RightParen e) refl refl

  finish_term : (n : ℕ) (ts : List Token) (at : Place) (x : SizedBound) (r : List Token) → AfterTerm n ts at x r → bound_product (kind r) ≡ None → parse.bound_term leaves types F n (S n) ts ≡ Ok (x, r)
  finish_term n ts at x r q f = q.is ∙ ap (λ m. parse.products_from leaves types F n (S n) m at x r) (some_pred q.left (length r) q.enough) ∙ end_products n (pred q.left) at r x f

  finish_bound : (n : ℕ) (ts : List Token) (at : Place) (x : SizedBound) (r : List Token) → AfterBound n ts at x r → bound_sum (kind r) ≡ None → parse.bound_at leaves types F n (S n) ts ≡ Ok (x, r)
  finish_bound n ts at x r q f = q.is ∙ ap (λ m. parse.sums_from leaves types F n (S n) m at x r) (some_pred q.left (length r) q.enough) ∙ end_sums n (pred q.left) at r x f

  mutual
    pub prim_c : {u : List Token} {x : Bound} {h : ℕ} → IsBoundPrim leaves types u x h → (n : ℕ) → h ≤ n → (r : List Token) → length (u ++ r) < F → parse.bound_prim leaves types F n (S n) (u ++ r) ≡ Ok ((x, h), r)
    prim_c (number t c) n hn r s = step_number n t r c
    prim_c (name t (is_other c e)) n hn r s = step_name n t r c e
    prim_c (paren o c {u = u} {x = x} {h = h} oc a ec) n hn r s =
        let e : (o ∷ (u ++ c ∷ [])) ++ r ≡ o ∷ (u ++ c ∷ r) = ap (λ l. o ∷ l) (append_assoc u (c ∷ []) r) in
        let s1 : length (u ++ c ∷ r) < F = omega (arith, ap length e) in
        let f = closes c r ec in
        let ih = finish_bound (pred n) (u ++ c ∷ r) (start (u ++ c ∷ r)) (x, h) (c ∷ r) (bound_c a (pred n) (lower_height h n hn) (c ∷ r) s1 f.product) f.sum in
        ap (parse.bound_prim leaves types F n (S n)) e ∙ step_paren n o c u r x h oc ec (nat_lt_is 0 n (omega arith)) (step_below n (u ++ c ∷ r) (omega arith) ∙ ih)

    pub term_c : {u : List Token} {x : Bound} {h : ℕ} → IsBoundTerm leaves types u x h → (n : ℕ) → h ≤ n → (r : List Token) → length (u ++ r) < F → AfterTerm n (u ++ r) (start (u ++ r)) (x, h) r
    term_c (prim {u = u} {x = x} {h = h} d) n hn r s = record { left = F; enough = rest_short u r F s; is = step_term n (u ++ r) r (x, h) (prim_c d n hn r s) }
    term_c (product t {u = u} {v = v} {op = op} {x = x} {y = y} {h = h} {i = i} d tc a) n hn r s =
        let e = append_assoc u (t ∷ v) r in
        let s1 : length (u ++ (t ∷ (v ++ r))) < F = omega (arith, ap length e) in
        let q = term_c d n (omega arith) (t ∷ (v ++ r)) s1 in
        let at = start (u ++ (t ∷ (v ++ r))) in
        let place : at ≡ start u = start_of u (t ∷ (v ++ r)) (term_long leaves types d) in
        record {
          left = pred q.left;
          enough = less_pred (length r) q.left (omega (arith, q.enough, length-append v r));
          is = ap (parse.bound_term leaves types F n (S n)) e ∙ q.is
              ∙ ap (λ m. parse.products_from leaves types F n (S n) m at (x, h) (t ∷ (v ++ r))) (some_pred q.left (length (t ∷ (v ++ r))) q.enough)
              ∙ step_product n (pred q.left) at t op v r (x, h) y i tc (prim_c a n (omega arith) r (tail_short u t (v ++ r) F s1))
              ∙ ap₂ (λ p p2. parse.products_from leaves types F n (S n) (pred q.left) p (b.Binary p2 op x y, max h i) r) (ap start (sym e)) place;
        }

    pub bound_c : {u : List Token} {x : Bound} {h : ℕ} → IsBound leaves types u x h → (n : ℕ) → h ≤ n → (r : List Token) → length (u ++ r) < F → bound_product (kind r) ≡ None → AfterBound n (u ++ r) (start (u ++ r)) (x, h) r
    bound_c (term {u = u} {x = x} {h = h} d) n hn r s f = record { left = F; enough = rest_short u r F s; is = step_bound n (u ++ r) r (x, h) (finish_term n (u ++ r) (start (u ++ r)) (x, h) r (term_c d n hn r s) f) }
    bound_c (sum t {u = u} {v = v} {op = op} {x = x} {y = y} {h = h} {i = i} d tc a) n hn r s f =
        let e = append_assoc u (t ∷ v) r in
        let s1 : length (u ++ (t ∷ (v ++ r))) < F = omega (arith, ap length e) in
        let q = bound_c d n (omega arith) (t ∷ (v ++ r)) s1 (ap bound_product (kind_of t (v ++ r) t.kind refl) ∙ sum_no_product t.kind op tc) in
        let at = start (u ++ (t ∷ (v ++ r))) in
        let place : at ≡ start u = start_of u (t ∷ (v ++ r)) (bound_long leaves types d) in
        record {
          left = pred q.left;
          enough = less_pred (length r) q.left (omega (arith, q.enough, length-append v r));
          is = ap (parse.bound_at leaves types F n (S n)) e ∙ q.is
              ∙ ap (λ m. parse.sums_from leaves types F n (S n) m at (x, h) (t ∷ (v ++ r))) (some_pred q.left (length (t ∷ (v ++ r))) q.enough)
              ∙ step_sum n (pred q.left) at t op v r (x, h) y i tc (finish_term n (v ++ r) (start (v ++ r)) (y, i) r (term_c a n (omega arith) r (tail_short u t (v ++ r) F s1)) f)
              ∙ ap₂ (λ p p2. parse.sums_from leaves types F n (S n) (pred q.left) p (b.Binary p2 op x y, max h i) r) (ap start (sym e)) place;
        }

  pub whole_c : {u : List Token} {x : Bound} {h : ℕ} → IsBound leaves types u x h → (n : ℕ) → h ≤ n → (r : List Token) → length (u ++ r) < F → FollowBound r → parse.bound_at leaves types F n (S n) (u ++ r) ≡ Ok ((x, h), r)
  whole_c {u} {x} {h} d n hn r s f = finish_bound n (u ++ r) (start (u ++ r)) (x, h) r (bound_c d n hn r s f.product) f.sum

  pub whole_bound : {u : List Token} {x : Bound} {h : ℕ} → IsBound leaves types u x h → (n : ℕ) → h ≤ n → (r : List Token) → length (u ++ r) < F → FollowBound r → bound leaves types F n (u ++ r) ≡ Ok ((x, h), r)
  unfolding bound
  whole_bound d n hn r s f = whole_c d n hn r s f

  -- ---- bounds in brackets

  pub step_bracket : (n m : ℕ) (o c : Token) (v r : List Token) (xs : List Bound) (h : ℕ) (x : Bound) (i : ℕ) → o.kind ≡ k.LeftBracket → c.kind ≡ k.RightBracket → bound leaves types F n (v ++ c ∷ r) ≡ Ok ((x, i), c ∷ r)
      → bounds_from leaves types F n (suc m) xs h (o ∷ (v ++ c ∷ r)) ≡ bounds_from leaves types F n m (xs ++ x ∷ []) (max h i) r
  unfolding bounds_from kind same_kind take_if expect_if
  step_bracket n m o c v r xs h x i oc ec ih = rw (oc, ih, ec) refl

  pub end_bounds : (n m : ℕ) (r : List Token) (xs : List Bound) (h : ℕ) → same_kind (kind r) k.LeftBracket ≡ false → bounds_from leaves types F n (suc m) xs h r ≡ Ok ((xs, h), r)
  unfolding bounds_from
  end_bounds n m r xs h f = rw f refl

  pub record AfterBounds (n : ℕ) (ts : List Token) (x : List Bound × ℕ) (r : List Token) : Type 0 where
    pub left : ℕ
    pub enough : length r < left
    pub is : bounds_from leaves types F n F [] 0 ts ≡ bounds_from leaves types F n left x.0 x.1 r

  pub ends_bracket : (c : Token) (r : List Token) → c.kind ≡ k.RightBracket → FollowBound (c ∷ r)
  ends_bracket c r e = follow_closing (c ∷ r) k.RightBracket (kind_of c r k.RightBracket e) refl refl

  pub bounds_c : {u : List Token} {xs : List Bound} {h : ℕ} → IsBounds leaves types u xs h → (n : ℕ) → h ≤ n → (r : List Token) → length (u ++ r) < F → AfterBounds n (u ++ r) (xs, h) r
  bounds_c rules.none n hn r s = record { left = F; enough = s; is = refl }
  bounds_c (rules.more o c {u = u} {v = v} {xs = xs} {x = x} {h = h} {i = i} l oc a ec) n hn r s =
      let e = enclosed u o v c r in
      let s1 : length (u ++ (o ∷ (v ++ (c ∷ r)))) < F = omega (arith, ap length e) in
      let q = bounds_c l n (omega arith) (o ∷ (v ++ (c ∷ r))) s1 in
      let ih = whole_bound a n (omega arith) (c ∷ r) (tail_short u o (v ++ (c ∷ r)) F s1) (ends_bracket c r ec) in
      record {
        left = pred q.left;
        enough = less_pred (length r) q.left (omega (arith, q.enough, length-append v (c ∷ r)));
        is = ap (bounds_from leaves types F n F [] 0) e ∙ q.is
            ∙ ap (λ m. bounds_from leaves types F n m xs h (o ∷ (v ++ (c ∷ r)))) (some_pred q.left (length (o ∷ (v ++ (c ∷ r)))) q.enough)
            ∙ step_bracket n (pred q.left) o c v r xs h x i oc ec ih;
      }

  pub whole_bounds : {u : List Token} {xs : List Bound} {h : ℕ} → IsBounds leaves types u xs h → (n : ℕ) → h ≤ n → (r : List Token) → length (u ++ r) < F → same_kind (kind r) k.LeftBracket ≡ false → bounds_from leaves types F n F [] 0 (u ++ r) ≡ Ok ((xs, h), r)
  whole_bounds {u} {xs} {h} d n hn r s f =
      let q = bounds_c d n hn r s in
      q.is ∙ ap (λ m. bounds_from leaves types F n m xs h r) (some_pred q.left (length r) q.enough) ∙ end_bounds n (pred q.left) r xs h f

  -- ---- stars and declarators

  step_star : (m : ℕ) (t : Token) (x : ℕ) (r : List Token) → t.kind ≡ k.Star → stars_from (suc m) x (t ∷ r) ≡ stars_from m (x + 1) r
  unfolding stars_from kind same_kind take_if
  step_star m t x r h = rw h refl

  end_stars : (m : ℕ) (x : ℕ) (r : List Token) → same_kind (kind r) k.Star ≡ false → stars_from (suc m) x r ≡ Ok (x, r)
  unfolding stars_from
  end_stars m x r h = rw h refl

  pub record AfterStars (ts : List Token) (x : ℕ) (r : List Token) : Type 0 where
    pub left : ℕ
    pub enough : length r < left
    pub is : stars_from F 0 ts ≡ stars_from left x r

  pub stars_c : {u : List Token} {x : ℕ} → AreStars leaves types u x → (r : List Token) → length (u ++ r) < F → AfterStars (u ++ r) x r
  stars_c rules.none r s = record { left = F; enough = s; is = refl }
  stars_c (rules.more t {u = u} {n = x} d c) r s =
      let e = append_assoc u (t ∷ []) r in
      let q = stars_c d (t ∷ r) (omega (arith, ap length e)) in
      record {
        left = pred q.left;
        enough = less_pred (length r) q.left (omega (arith, q.enough));
        is = ap (stars_from F 0) e ∙ q.is ∙ ap (λ m. stars_from m x (t ∷ r)) (some_pred q.left (length (t ∷ r)) q.enough) ∙ step_star (pred q.left) t x r c;
      }

  pub whole_stars : {u : List Token} {x : ℕ} → AreStars leaves types u x → (r : List Token) → length (u ++ r) < F → same_kind (kind r) k.Star ≡ false → stars_from F 0 (u ++ r) ≡ Ok (x, r)
  whole_stars {u} {x} d r s f =
      let q = stars_c d r s in
      q.is ∙ ap (λ m. stars_from m x r) (some_pred q.left (length r) q.enough) ∙ end_stars (pred q.left) x r f

  not_star : (t : Token) (ts : List Token) → t.kind ≡ k.Name → same_kind (kind (t ∷ ts)) k.Star ≡ false
  unfolding kind same_kind
  not_star t ts h = rw h refl

  step_dcl : (n : ℕ) (ts : List Token) (t : Token) (v r : List Token) (x : ℕ) (xs : List Bound) (h : ℕ) → stars_from F 0 ts ≡ Ok (x, t ∷ (v ++ r)) → t.kind ≡ k.Name → known types t.name ≡ false
      → bounds_from leaves types F n F [] 0 (v ++ r) ≡ Ok ((xs, h), r) → dcl leaves types F n ts ≡ Ok ((record { at = start ts; stars = x; name = name_at t; bounds = xs }, h), r)
  unfolding dcl other_name sees_other_name kind same_kind name_number take_if
  step_dcl n ts t v r x xs h a c e d = rw (a, c, e, d) refl

  pub dcl_c : {u : List Token} {x : Dcl} {h : ℕ} → IsDcl leaves types u x h → (n : ℕ) → h ≤ n → (r : List Token) → length (u ++ r) < F → same_kind (kind r) k.LeftBracket ≡ false → dcl leaves types F n (u ++ r) ≡ Ok ((x, h), r)
  dcl_c (is_dcl t {u = u} {v = v} {n = m} {h = h} {bounds = xs} a (is_other c g) d) n hn r s f =
      let e = append_assoc u (t ∷ v) r in
      let s1 : length (u ++ (t ∷ (v ++ r))) < F = omega (arith, ap length e) in
      let place : start (u ++ (t ∷ (v ++ r))) ≡ start (u ++ t ∷ []) = ap start (sym (append_assoc u (t ∷ []) (v ++ r))) ∙ start_of (u ++ t ∷ []) (v ++ r) (omega (arith, length-append u (t ∷ []))) in
      ap (dcl leaves types F n) e
      ∙ step_dcl n (u ++ (t ∷ (v ++ r))) t v r m xs h (whole_stars a (t ∷ (v ++ r)) s1 (not_star t (v ++ r) c)) c g (whole_bounds d n hn r (tail_short u t (v ++ r) F s1) f)
      ∙ ap (λ p. Ok ((record { at = p; stars = m; name = name_at t; bounds = xs }, h), r)) place
