-- What putting a number in, and taking one out, does to the steps of a path.
use Rattle.std.proofs.Common.{◌≡◌, ◌≢◌, ℕ, zero, suc, ◌+◌, ◌<◌, ◌≤◌, Bool, true, false, cond, ◌==◌, ◌&&◌, ◌||◌, not, List, [], ◌∷◌, ◌++◌, length, get_or, set, replicate, refl, sym, ap, ◌∙◌, subst, ◌⊎◌, inl, inr, arith, get_or-set_same, get_or-set_other, length-set, eq-eqb, ne_eqb, length-append, append_assoc, subst₂}
use Rattle.std.proofs.lemmas.List.{get_or_append_left, get_or-replicate, length-replicate}
use Rattle.std.specs.List.{AllByRecursion}
use Rattle.std.proofs.lemmas.Grind.{get_or_default_zero}
use Rattle.std.proofs.lemmas.Bool.Decides.{eqb_tells, nat_tests}
use Rattle.chan_book.specs.Links.{Ring, has, are_different, inserted, without, first_or, after, next_in, IsPath, walk, ring_of, IsRing, IsLinked}

-- ---- members

pub has_not_head : (x y : ℕ) (ys : List ℕ) → has x (y ∷ ys) ≡ false → y ≢ x
has_not_head x y ys h e = grind (arith, nat_tests)

pub has_not_tail : (x y : ℕ) (ys : List ℕ) → has x (y ∷ ys) ≡ false → has x ys ≡ false
has_not_tail x y ys h = grind (arith, nat_tests)

pub has_either : (x y : ℕ) (ys : List ℕ) → has x (y ∷ ys) ≡ true → (y ≡ x) ⊎ (has x ys ≡ true)
has_either x y ys h = grind (arith, nat_tests)

pub apart : (x y : ℕ) (ys : List ℕ) → has x ys ≡ false → has y ys ≡ true → y ≢ x
apart x y (z ∷ zs) h k e = elim (has_either y z zs k) [ inl at ↦ has_not_head x z zs h (at ∙ e) | inr in_rest ↦ apart x y zs (has_not_tail x z zs h) in_rest e ]
apart x y [] h k e = absurd (cc)

pub below_within : (x n : ℕ) (ys : List ℕ) → AllByRecursion (λ y. y < n) ys → has x ys ≡ true → x < n
below_within x n [] all h = absurd (cc)
below_within x n (y ∷ ys) all h = elim (has_either x y ys h) [ inl at ↦ subst (λ z. z < n) at all.0 | inr later ↦ below_within x n ys all.1 later ]

-- ---- steps that stay

pub path_next : (n p : List ℕ) (a b i v : ℕ) (xs : List ℕ) → a ≢ i → has i xs ≡ false → IsPath n p a xs b → IsPath (set n i v) p a xs b
path_next n p a b i v [] ne h path = (get_or-set_other n i a v 0 ne ∙ path.0, path.1)
path_next n p a b i v (x ∷ xs) ne h path = (get_or-set_other n i a v 0 ne ∙ path.0, path.1, path_next n p x b i v xs (has_not_head i x xs h) (has_not_tail i x xs h) path.2)

pub path_prev : (n p : List ℕ) (a b i v : ℕ) (xs : List ℕ) → b ≢ i → has i xs ≡ false → IsPath n p a xs b → IsPath n (set p i v) a xs b
path_prev n p a b i v [] ne h path = (path.0, get_or-set_other p i b v 0 ne ∙ path.1)
path_prev n p a b i v (x ∷ xs) ne h path = (path.0, get_or-set_other p i x v 0 (has_not_head i x xs h) ∙ path.1, path_prev n p x b i v xs ne (has_not_tail i x xs h) path.2)

-- ---- the two directions undo each other

pub forth : (n p : List ℕ) (a b x : ℕ) (xs : List ℕ) → IsPath n p a xs b → (x ≡ b) ⊎ (has x xs ≡ true) → get_or n (get_or p x 0) 0 ≡ x
forth n p a b x [] path (inl e) = ap (λ y. get_or n (get_or p y 0) 0) e ∙ ap (λ y. get_or n y 0) path.1 ∙ path.0 ∙ sym e
forth n p a b x [] path (inr h) = absurd (cc)
forth n p a b x (y ∷ ys) path (inl e) = forth n p y b x ys path.2 (inl e)
forth n p a b x (y ∷ ys) path (inr h) = on (has_either x y ys h) (λ k. forth n p y b x ys path.2 (inr k))
  where
    on : (y ≡ x) ⊎ (has x ys ≡ true) → (has x ys ≡ true → get_or n (get_or p x 0) 0 ≡ x) → get_or n (get_or p x 0) 0 ≡ x
    on (inl e) k = subst (λ x. get_or n (get_or p x 0) 0 ≡ x) e (ap (λ z. get_or n z 0) path.1 ∙ path.0)
    on (inr later) k = k later

pub back : (n p : List ℕ) (a b x : ℕ) (xs : List ℕ) → IsPath n p a xs b → (x ≡ a) ⊎ (has x xs ≡ true) → get_or p (get_or n x 0) 0 ≡ x
back n p a b x [] path (inl e) = ap (λ y. get_or p (get_or n y 0) 0) e ∙ ap (λ y. get_or p y 0) path.0 ∙ path.1 ∙ sym e
back n p a b x [] path (inr h) = absurd (cc)
back n p a b x (y ∷ ys) path (inl e) = ap (λ y. get_or p (get_or n y 0) 0) e ∙ ap (λ y. get_or p y 0) path.0 ∙ path.1 ∙ sym e
back n p a b x (y ∷ ys) path (inr h) = on (has_either x y ys h) (λ k. back n p y b x ys path.2 k)
  where
    on : (y ≡ x) ⊎ (has x ys ≡ true) → ((x ≡ y) ⊎ (has x ys ≡ true) → get_or p (get_or n x 0) 0 ≡ x) → get_or p (get_or n x 0) 0 ≡ x
    on (inl e) k = k (inl (sym e))
    on (inr later) k = k (inr later)

-- ---- taken out

pub without_none : (x : ℕ) (xs : List ℕ) → has x xs ≡ false → without x xs ≡ xs
without_none x [] h = refl
without_none x (y ∷ ys) h = grind (arith, nat_tests, without_none x ys)

-- a leads to where y led
skipped : (n p : List ℕ) (a y b v : ℕ) (ys : List ℕ) → a < length n → v < length p → get_or n y 0 ≡ v → are_different ys ≡ true → has a ys ≡ false → has b ys ≡ false → IsPath n p y ys b → IsPath (set n a v) (set p v a) a ys b
skipped n p a y b v [] la lv e d ha hb path =
    let there : b ≡ v = sym path.0 ∙ e in
    (get_or-set_same n a v 0 la ∙ sym there, subst (λ w. get_or (set p v a) w 0 ≡ a) (sym there) (get_or-set_same p v a 0 lv))
skipped n p a y b v (z ∷ zs) la lv e d ha hb path =
    let there : z ≡ v = sym path.0 ∙ e in
    let fresh : has v zs ≡ false = subst (λ w. has w zs ≡ false) there (grind (arith, nat_tests)) in
    let not_end : b ≢ v = λ g. has_not_head b z zs hb (there ∙ sym g) in
    (get_or-set_same n a v 0 la ∙ sym there, subst (λ w. get_or (set p v a) w 0 ≡ a) (sym there) (get_or-set_same p v a 0 lv), path_next n (set p v a) z b a v zs (has_not_head a z zs ha) (has_not_tail a z zs ha) (path_prev n p z b v a zs not_end fresh path.2))

module _ (n p : List ℕ) (x : ℕ) where
  -- what comes before it and after it
  abbrev pub left_of : ℕ
  left_of = get_or p x 0

  abbrev pub right_of : ℕ
  right_of = get_or n x 0

  abbrev pub next_without : List ℕ
  next_without = set n left_of right_of

  abbrev pub prev_without : List ℕ
  prev_without = set p right_of left_of

  pub path_without : (a b : ℕ) (xs : List ℕ) → a < length n → AllByRecursion (λ y. y < length n) xs → right_of < length p → are_different xs ≡ true → has a xs ≡ false → has b xs ≡ false → has x xs ≡ true → IsPath n p a xs b → IsPath next_without prev_without a (without x xs) b
  path_without a b [] la ln lr d ha hb hx path = absurd (cc)
  path_without a b (y ∷ ys) la ln lr d ha hb hx path = on (eqb_tells y x) (path_without y b ys ln.0 ln.1 lr)
    where
      fresh : has y ys ≡ false
      fresh = grind (arith, nat_tests)

      different_rest : are_different ys ≡ true
      different_rest = grind (arith, nat_tests)

      -- y is x: a leads to what comes after it
      head : y ≡ x → IsPath next_without prev_without a (without x ys) b
      head e =
          let left : a ≡ left_of = sym path.1 ∙ ap (λ z. get_or p z 0) e in
          let none : has x ys ≡ false = subst (λ z. has z ys ≡ false) e fresh in
          let here : IsPath (set n a right_of) (set p right_of a) a ys b = skipped n p a y b right_of ys la lr (ap (λ z. get_or n z 0) e) different_rest (has_not_tail a y ys ha) (has_not_tail b y ys hb) path.2 in
          subst (λ zs. IsPath next_without prev_without a zs b) (sym (without_none x ys none)) (subst (λ l. IsPath (set n l right_of) (set p right_of l) a ys b) left here)

      on : ((y == x ≡ true) × (y ≡ x)) ⊎ ((y == x ≡ false) × (y ≢ x)) → (are_different ys ≡ true → has y ys ≡ false → has b ys ≡ false → has x ys ≡ true → IsPath n p y ys b → IsPath next_without prev_without y (without x ys) b) → IsPath next_without prev_without a (cond (y == x) (without x ys) (y ∷ without x ys)) b
      on (inl e) rest = rw e.0 (head e.1)
      on (inr e) rest =
          let later : has x ys ≡ true = grind (arith, nat_tests) in
          let off_left : a ≢ left_of = λ g. e.1 (sym path.0 ∙ ap (λ z. get_or n z 0) g ∙ forth n p y b x ys path.2 (inr later)) in
          let off_right : y ≢ right_of = λ g. apart a x (y ∷ ys) ha hx (sym (back n p y b x ys path.2 (inr later)) ∙ ap (λ z. get_or p z 0) (sym g) ∙ path.1) in
          rw e.0 (get_or-set_other n left_of a right_of 0 off_left ∙ path.0, get_or-set_other p right_of y left_of 0 off_right ∙ path.1, rest different_rest fresh (has_not_tail b y ys hb) later path.2)

-- ---- put in

module _ (n p : List ℕ) (x at : ℕ) where
  -- what came before the place
  abbrev pub before : ℕ
  before = get_or p at 0

  abbrev pub next_with : List ℕ
  next_with = set (set n before x) x at

  abbrev pub prev_with : List ℕ
  prev_with = set (set p x before) at x

  -- a leads to x, which leads to the place
  joined : (a : ℕ) → a < length n → x < length n → x < length p → at < length p → a ≢ x → x ≢ at → a ≡ before → (get_or next_with a 0 ≡ x) × (get_or prev_with x 0 ≡ a) × (get_or next_with x 0 ≡ at) × (get_or prev_with at 0 ≡ x)
  joined a la lx lxp lat ne off e = (
    get_or-set_other (set n before x) x a at 0 ne ∙ subst (λ w. get_or (set n w x) a 0 ≡ x) e (get_or-set_same n a x 0 la),
    get_or-set_other (set p x before) at x x 0 off ∙ get_or-set_same p x before 0 lxp ∙ sym e,
    get_or-set_same (set n before x) x at 0 (subst (λ m. x < m) (sym (length-set n before x)) lx),
    get_or-set_same (set p x before) at x 0 (subst (λ m. at < m) (sym (length-set p x before)) lat),
  )

  pub path_with : (a b : ℕ) (xs : List ℕ) → a < length n → x < length n → x < length p → at < length p → AllByRecursion (λ y. y < length n) xs → are_different xs ≡ true → has a xs ≡ false → has b xs ≡ false → has x xs ≡ false → a ≢ x → b ≢ x → (at ≡ b) ⊎ (has at xs ≡ true) → IsPath n p a xs b → IsPath next_with prev_with a (inserted x at xs) b
  path_with a b [] la lx lxp lat ln d ha hb hx ax bx (inr h) path = absurd (cc)
  path_with a b [] la lx lxp lat ln d ha hb hx ax bx (inl is) path =
      let left : a ≡ before = sym path.1 ∙ ap (λ z. get_or p z 0) (sym is) in
      let j = joined a la lx lxp lat ax (λ e. bx (sym is ∙ sym e)) left in
      (j.0, j.1, (j.2 ∙ is, subst (λ z. get_or prev_with z 0 ≡ x) is j.3))
  path_with a b (y ∷ ys) la lx lxp lat ln d ha hb hx ax bx place path = on (eqb_tells y at) (path_with y b ys ln.0 lx lxp lat ln.1)
    where
      fresh : has y ys ≡ false
      fresh = grind (arith, nat_tests)

      different_rest : are_different ys ≡ true
      different_rest = grind (arith, nat_tests)

      yx : y ≢ x
      yx = has_not_head x y ys hx

      xs_less : has x ys ≡ false
      xs_less = has_not_tail x y ys hx

      later : y ≢ at → (at ≡ b) ⊎ (has at (y ∷ ys) ≡ true) → (at ≡ b) ⊎ (has at ys ≡ true)
      later ne (inl e) = inl e
      later ne (inr h) = elim (has_either at y ys h) [ inl e ↦ absurd (ne e) | inr k ↦ inr k ]

      on : ((y == at ≡ true) × (y ≡ at)) ⊎ ((y == at ≡ false) × (y ≢ at)) → (are_different ys ≡ true → has y ys ≡ false → has b ys ≡ false → has x ys ≡ false → y ≢ x → b ≢ x → (at ≡ b) ⊎ (has at ys ≡ true) → IsPath n p y ys b → IsPath next_with prev_with y (inserted x at ys) b) → IsPath next_with prev_with a (cond (y == at) (x ∷ y ∷ ys) (y ∷ inserted x at ys)) b
      on (inl e) rest =
          let left : a ≡ before = sym path.1 ∙ ap (λ z. get_or p z 0) e.1 in
          let j = joined a la lx lxp lat ax (λ g. yx (e.1 ∙ sym g)) left in
          let off : y ≢ before = λ g. has_not_head a y ys ha (g ∙ sym left) in
          let none : has before ys ≡ false = subst (λ z. has z ys ≡ false) left (has_not_tail a y ys ha) in
          let end : b ≢ at = λ g. has_not_head b y ys hb (e.1 ∙ sym g) in
          let none_at : has at ys ≡ false = subst (λ z. has z ys ≡ false) e.1 fresh in
          rw e.0 (j.0, j.1, (j.2 ∙ sym e.1, subst (λ z. get_or prev_with z 0 ≡ x) (sym e.1) j.3, path_next (set n before x) prev_with y b x at ys yx xs_less (path_next n prev_with y b before x ys off none (path_prev n (set p x before) y b at x ys end none_at (path_prev n p y b x before ys bx xs_less path.2)))))
      on (inr e) rest =
          let place_later = later e.1 place in
          let off : a ≢ before = λ g. e.1 (sym path.0 ∙ ap (λ z. get_or n z 0) g ∙ forth n p y b at ys path.2 place_later) in
          rw e.0 (get_or-set_other (set n before x) x a at 0 ax ∙ get_or-set_other n before a x 0 off ∙ path.0, get_or-set_other (set p x before) at y x 0 e.1 ∙ get_or-set_other p x y before 0 yx ∙ path.1, rest different_rest fresh (has_not_tail b y ys hb) xs_less yx bx place_later path.2)

-- ---- members of what is made so

pub has-inserted : (z x at : ℕ) (xs : List ℕ) → has z (inserted x at xs) ≡ ((x == z) || has z xs)
has-inserted z x at [] = refl
has-inserted z x at (y ∷ ys) = elim (y == at) as (λ b. has z (cond b (x ∷ y ∷ ys) (y ∷ inserted x at ys)) ≡ ((x == z) || ((y == z) || has z ys))) [ true ↦ refl | false ↦ ap (λ b. (y == z) || b) (has-inserted z x at ys) ∙ swapped (y == z) (x == z) (has z ys) ]
  where
    swapped : (a b c : Bool) → (a || (b || c)) ≡ (b || (a || c))
    swapped true true c = refl
    swapped true false c = refl
    swapped false b c = refl

pub has-without : (z x : ℕ) (xs : List ℕ) → has z (without x xs) ≡ (not (x == z) && has z xs)
has-without z x [] = grind (arith, nat_tests)
has-without z x (y ∷ ys) = grind (arith, nat_tests, has-without z x ys)

pub different-inserted : (x at : ℕ) (xs : List ℕ) → are_different xs ≡ true → has x xs ≡ false → are_different (inserted x at xs) ≡ true
different-inserted x at [] d h = refl
different-inserted x at (y ∷ ys) d h = grind (arith, nat_tests, has-inserted y x at ys, different-inserted x at ys)

pub different-without : (x : ℕ) (xs : List ℕ) → are_different xs ≡ true → are_different (without x xs) ≡ true
different-without x [] d = refl
different-without x (y ∷ ys) d = grind (arith, nat_tests, has-without y x ys, different-without x ys)

pub within-inserted : (x at n : ℕ) (xs : List ℕ) → x < n → AllByRecursion (λ y. y < n) xs → AllByRecursion (λ y. y < n) (inserted x at xs)
within-inserted x at n [] lt all = (lt, tt)
within-inserted x at n (y ∷ ys) lt all = elim (y == at) as (λ b. AllByRecursion (λ y. y < n) (cond b (x ∷ y ∷ ys) (y ∷ inserted x at ys))) [ true ↦ (lt, all) | false ↦ (all.0, within-inserted x at n ys lt all.1) ]

pub within-without : (x n : ℕ) (xs : List ℕ) → AllByRecursion (λ y. y < n) xs → AllByRecursion (λ y. y < n) (without x xs)
within-without x n [] all = tt
within-without x n (y ∷ ys) all = elim (y == x) as (λ b. AllByRecursion (λ y. y < n) (cond b (without x ys) (y ∷ without x ys))) [ true ↦ within-without x n ys all.1 | false ↦ (all.0, within-without x n ys all.1) ]

-- ---- different numbers below a bound are no more than the bound

length-without : (x : ℕ) (xs : List ℕ) → are_different xs ≡ true → length xs ≤ suc (length (without x xs))
length-without x [] d = omega arith
length-without x (y ∷ ys) d = grind (arith, nat_tests, length-without x ys, without_none x ys)

below-without : (n : ℕ) (xs : List ℕ) → AllByRecursion (λ y. y < suc n) xs → AllByRecursion (λ y. y < n) (without n xs)
below-without n [] all = tt
below-without n (y ∷ ys) all = on (eqb_tells y n) (below-without n ys all.1)
  where
    on : ((y == n ≡ true) × (y ≡ n)) ⊎ ((y == n ≡ false) × (y ≢ n)) → AllByRecursion (λ y. y < n) (without n ys) → AllByRecursion (λ y. y < n) (cond (y == n) (without n ys) (y ∷ without n ys))
    on (inl e) rest = rw e.0 rest
    on (inr e) rest = let lt : y < n = omega (arith, all.0, e.1) in rw e.0 (lt, rest)

pub few : (n : ℕ) (xs : List ℕ) → are_different xs ≡ true → AllByRecursion (λ y. y < n) xs → length xs ≤ n
few zero [] d all = omega arith
few zero (x ∷ xs) d all = absurd (omega (arith, all.0))
few (suc n) xs d all = omega (arith, length-without n xs d, few n (without n xs) (different-without n xs d) (below-without n xs all))

-- ---- a path is what is walked

walk_path : (fuel : ℕ) (n p : List ℕ) (root a : ℕ) (xs : List ℕ) → IsPath n p a xs root → has root xs ≡ false → length xs ≤ fuel → walk fuel n root (get_or n a 0) ≡ xs
walk_path zero n p root a [] path h le = refl
walk_path zero n p root a (x ∷ xs) path h le = absurd (omega arith)
walk_path (suc f) n p root a [] path h le = rw path.0 (rw (eq-eqb root root refl) refl)
walk_path (suc f) n p root a (x ∷ xs) path h le =
    let off : x == root ≡ false = ne_eqb x root (has_not_head root x xs h) in
    rw path.0 (rw off (ap (λ ys. x ∷ ys) (walk_path f n p root x xs path.2 (has_not_tail root x xs h) (omega arith))))

pub linked_ring : (n p : List ℕ) (r : Ring) → IsLinked n p r → ring_of r.root n ≡ r
linked_ring n p r h =
    let is : walk (length n) n r.root (get_or n r.root 0) ≡ r.items = walk_path (length n) n p r.root r.root r.items h.path h.ring.unrooted (rw h.next_size (few r.size r.items h.ring.different h.ring.within)) in
    λ i. record { root = r.root; size = h.next_size i; items = is i }

-- ---- rings

pub ring_with : (r : Ring) (x at : ℕ) → IsRing r → x < r.size → has x r.items ≡ false → x ≢ r.root → IsRing (record r { items = inserted x at r.items })
ring_with r x at h lt new off = record {
  root_within = h.root_within;
  within = within-inserted x at r.size r.items lt h.within;
  different = different-inserted x at r.items h.different new;
  unrooted = has-inserted r.root x at r.items ∙ rw (ne_eqb x r.root off, h.unrooted) refl;
}

pub ring_without : (r : Ring) (x : ℕ) → IsRing r → IsRing (record r { items = without x r.items })
ring_without r x h = record {
  root_within = h.root_within;
  within = within-without x r.size r.items h.within;
  different = different-without x r.items h.different;
  unrooted = has-without r.root x r.items ∙ rw h.unrooted (and_false (not (x == r.root)));
}
  where
    and_false : (b : Bool) → (b && false) ≡ false
    and_false true = refl
    and_false false = refl

-- a step leads to a number of the ring
leads : (n p : List ℕ) (a b x m : ℕ) (xs : List ℕ) → IsPath n p a xs b → (x ≡ a) ⊎ (has x xs ≡ true) → b < m → AllByRecursion (λ y. y < m) xs → get_or n x 0 < m
leads n p a b x m [] path (inl e) lb all = subst (λ w. w < m) (sym (ap (λ z. get_or n z 0) e ∙ path.0)) lb
leads n p a b x m [] path (inr h) lb all = absurd (cc)
leads n p a b x m (y ∷ ys) path (inl e) lb all = subst (λ w. w < m) (sym (ap (λ z. get_or n z 0) e ∙ path.0)) all.0
leads n p a b x m (y ∷ ys) path (inr h) lb all = on (has_either x y ys h) (λ k. leads n p y b x m ys path.2 k lb all.1)
  where
    on : (y ≡ x) ⊎ (has x ys ≡ true) → ((x ≡ y) ⊎ (has x ys ≡ true) → get_or n x 0 < m) → get_or n x 0 < m
    on (inl e) k = k (inl (sym e))
    on (inr later) k = k (inr later)

leads_back : (n p : List ℕ) (a b x m : ℕ) (xs : List ℕ) → IsPath n p a xs b → (x ≡ b) ⊎ (has x xs ≡ true) → a < m → AllByRecursion (λ y. y < m) xs → get_or p x 0 < m
leads_back n p a b x m [] path (inl e) la all = subst (λ w. w < m) (sym (ap (λ z. get_or p z 0) e ∙ path.1)) la
leads_back n p a b x m [] path (inr h) la all = absurd (cc)
leads_back n p a b x m (y ∷ ys) path (inl e) la all = leads_back n p y b x m ys path.2 (inl e) all.0 all.1
leads_back n p a b x m (y ∷ ys) path (inr h) la all = on (has_either x y ys h) (λ k. leads_back n p y b x m ys path.2 (inr k) all.0 all.1)
  where
    on : (y ≡ x) ⊎ (has x ys ≡ true) → (has x ys ≡ true → get_or p x 0 < m) → get_or p x 0 < m
    on (inl e) k = subst (λ z. get_or p z 0 < m) e (subst (λ w. w < m) (sym path.1) la)
    on (inr later) k = k later

module _ (n p : List ℕ) (r : Ring) (h : IsLinked n p r) where
  -- what a ring has, and its root, are places of both lists
  pub place_within : (x : ℕ) → (x ≡ r.root) ⊎ (has x r.items ≡ true) → x < r.size
  place_within x (inl e) = subst (λ w. w < r.size) (sym e) h.ring.root_within
  place_within x (inr k) = below_within x r.size r.items h.ring.within k

  pub next_within : (x : ℕ) → (x ≡ r.root) ⊎ (has x r.items ≡ true) → get_or n x 0 < r.size
  next_within x k = leads n p r.root r.root x r.size r.items h.path k h.ring.root_within h.ring.within

  pub prev_within : (x : ℕ) → (x ≡ r.root) ⊎ (has x r.items ≡ true) → get_or p x 0 < r.size
  prev_within x k = leads_back n p r.root r.root x r.size r.items h.path k h.ring.root_within h.ring.within

  next_all : AllByRecursion (λ y. y < length n) r.items
  next_all = subst (λ m. AllByRecursion (λ y. y < m) r.items) (sym h.next_size) h.ring.within

  pub linked_with : (x at : ℕ) → x < r.size → has x r.items ≡ false → x ≢ r.root → (at ≡ r.root) ⊎ (has at r.items ≡ true) → IsLinked (next_with n p x at) (prev_with n p x at) (record r { items = inserted x at r.items })
  linked_with x at lt new off place = record {
    ring = ring_with r x at h.ring lt new off;
    next_size = length-set (set n (before n p x at) x) x at ∙ length-set n (before n p x at) x ∙ h.next_size;
    prev_size = length-set (set p x (before n p x at)) at x ∙ length-set p x (before n p x at) ∙ h.prev_size;
    path = path_with n p x at r.root r.root r.items (rw h.next_size h.ring.root_within) (rw h.next_size lt) (rw h.prev_size lt) (rw h.prev_size (place_within at place)) next_all h.ring.different h.ring.unrooted h.ring.unrooted new (λ e. off (sym e)) (λ e. off (sym e)) place h.path;
  }

  pub linked_without : (x : ℕ) → has x r.items ≡ true → IsLinked (next_without n p x) (prev_without n p x) (record r { items = without x r.items })
  linked_without x there = record {
    ring = ring_without r x h.ring;
    next_size = length-set n (left_of n p x) (right_of n p x) ∙ h.next_size;
    prev_size = length-set p (right_of n p x) (left_of n p x) ∙ h.prev_size;
    path = path_without n p x r.root r.root r.items (rw h.next_size h.ring.root_within) next_all (rw h.prev_size (next_within x (inr there))) h.ring.different h.ring.unrooted h.ring.unrooted there h.path;
  }

-- ---- what comes after

first_step : (n p : List ℕ) (a b : ℕ) (xs : List ℕ) → IsPath n p a xs b → get_or n a 0 ≡ first_or b xs
first_step n p a b [] path = path.0
first_step n p a b (x ∷ xs) path = path.0

later_step : (n p : List ℕ) (a b x : ℕ) (xs : List ℕ) → IsPath n p a xs b → has x xs ≡ true → get_or n x 0 ≡ after b x xs
later_step n p a b x [] path h = absurd (cc)
later_step n p a b x (y ∷ ys) path h = on (eqb_tells y x) (later_step n p y b x ys path.2)
  where
    on : ((y == x ≡ true) × (y ≡ x)) ⊎ ((y == x ≡ false) × (y ≢ x)) → (has x ys ≡ true → get_or n x 0 ≡ after b x ys) → get_or n x 0 ≡ cond (y == x) (first_or b ys) (after b x ys)
    on (inl e) rest = rw e.0 (ap (λ z. get_or n z 0) (sym e.1) ∙ first_step n p y b ys path.2)
    on (inr e) rest = rw e.0 (rest (grind (arith, nat_tests)))

pub next_is : (n p : List ℕ) (r : Ring) (x : ℕ) → IsLinked n p r → (x ≡ r.root) ⊎ (has x r.items ≡ true) → get_or n x 0 ≡ next_in r x
next_is n p r x h (inl e) = rw (eq-eqb r.root x (sym e)) (ap (λ z. get_or n z 0) e ∙ first_step n p r.root r.root r.items h.path)
next_is n p r x h (inr k) = rw (ne_eqb r.root x (λ e. apart r.root x r.items h.ring.unrooted k (sym e))) (later_step n p r.root r.root x r.items h.path k)

-- ---- more places

path_append : (n p vs ws : List ℕ) (a b : ℕ) (xs : List ℕ) → a < length n → b < length p → AllByRecursion (λ y. y < length n) xs → length n ≡ length p → IsPath n p a xs b → IsPath (n ++ vs) (p ++ ws) a xs b
path_append n p vs ws a b [] la lb all e path = (get_or_append_left n vs 0 a la ∙ path.0, get_or_append_left p ws 0 b lb ∙ path.1)
path_append n p vs ws a b (x ∷ xs) la lb all e path = (get_or_append_left n vs 0 a la ∙ path.0, get_or_append_left p ws 0 x (rw (← e) all.0) ∙ path.1, path_append n p vs ws x b xs all.0 lb all.1 e path.2)

within_more : (n m : ℕ) (xs : List ℕ) → n ≤ m → AllByRecursion (λ y. y < n) xs → AllByRecursion (λ y. y < m) xs
within_more n m [] le all = tt
within_more n m (x ∷ xs) le all = (omega (arith, all.0), within_more n m xs le all.1)

pub linked_more : (n p vs ws : List ℕ) (r : Ring) → IsLinked n p r → length vs ≡ length ws → IsLinked (n ++ vs) (p ++ ws) (record r { size = r.size + length vs })
linked_more n p vs ws r h e = record {
  ring = record {
    root_within = omega (arith, h.ring.root_within);
    within = within_more r.size (r.size + length vs) r.items (omega arith) h.ring.within;
    different = h.ring.different;
    unrooted = h.ring.unrooted;
  };
  next_size = length-append n vs ∙ ap (λ k. k + length vs) h.next_size;
  prev_size = length-append p ws ∙ ap (λ k. k + length ws) h.prev_size ∙ ap (λ k. r.size + k) (sym e);
  path = path_append n p vs ws r.root r.root r.items (rw h.next_size h.ring.root_within) (rw h.prev_size h.ring.root_within) (subst (λ m. AllByRecursion (λ y. y < m) r.items) (sym h.next_size) h.ring.within) (h.next_size ∙ sym h.prev_size) h.path;
}

-- ---- the empty ring

pub linked_none : (root : ℕ) (n : List ℕ) → n ≡ replicate (root + 1) root → IsLinked n n (record { root = root; size = root + 1; items = [] })
linked_none root n e = record {
  ring = record { root_within = omega arith; within = tt; different = refl; unrooted = refl };
  next_size = ap length e ∙ length-replicate (root + 1) root;
  prev_size = ap length e ∙ length-replicate (root + 1) root;
  path = (ap (λ l. get_or l root 0) e ∙ get_or-replicate (root + 1) root root 0 (omega arith), ap (λ l. get_or l root 0) e ∙ get_or-replicate (root + 1) root root 0 (omega arith));
}

-- ---- what the code reads

-- a read gives the number that is there
pub read_is : (xs : List ℕ) (i r : ℕ) → i < length xs → r ≡ get_or xs i r → r ≡ get_or xs i 0
read_is xs i r lt e = e ∙ get_or_default_zero xs i r lt

module _ (n p : List ℕ) (r : Ring) (h : IsLinked n p r) (at : ℕ) (place : (at ≡ r.root) ⊎ (has at r.items ≡ true)) where
  pub in_next : at < length n
  in_next = rw h.next_size (place_within n p r h at place)

  pub in_prev : at < length p
  in_prev = rw h.prev_size (place_within n p r h at place)

  pub read_next : (x : ℕ) → x ≡ get_or n at x → x ≡ get_or n at 0
  read_next x e = read_is n at x in_next e

  pub read_prev : (x : ℕ) → x ≡ get_or p at x → x ≡ get_or p at 0
  read_prev x e = read_is p at x in_prev e

  -- the number read is a place too
  pub read_next_in_prev : (x : ℕ) → x ≡ get_or n at x → x < length p
  read_next_in_prev x e = rw (h.prev_size, read_next x e) (next_within n p r h at place)

  pub read_prev_in_next : (x : ℕ) → x ≡ get_or p at x → x < length n
  read_prev_in_next x e = rw (h.next_size, read_prev x e) (prev_within n p r h at place)

-- what the code leaves is the new ring
pub left_ring : (n p : List ℕ) (r : Ring) (root : ℕ) → root ≡ r.root → IsLinked n p r → ring_of root n ≡ r
left_ring n p r root e h = ap (λ x. ring_of x n) e ∙ linked_ring n p r h

pub left_linked : (n p : List ℕ) (r : Ring) (root : ℕ) → root ≡ r.root → IsLinked n p r → IsLinked n p (ring_of root n)
left_linked n p r root e h = subst (IsLinked n p) (sym (left_ring n p r root e h)) h

-- ---- two more numbers

-- a number from the bound on is not among them
pub has_not_past : (x n : ℕ) (xs : List ℕ) → AllByRecursion (λ y. y < n) xs → n ≤ x → has x xs ≡ false
has_not_past x n [] all le = refl
has_not_past x n (y ∷ ys) all le = let off : y ≢ x = omega (arith, all.0) in rw (ne_eqb y x off) (has_not_past x n ys all.1 le)

-- before what is not there means at the end
pub inserted_last : (x at : ℕ) (xs : List ℕ) → has at xs ≡ false → inserted x at xs ≡ xs ++ x ∷ []
inserted_last x at [] h = refl
inserted_last x at (y ∷ ys) h = rw (ne_eqb y at (has_not_head at y ys h)) (ap (λ zs. y ∷ zs) (inserted_last x at ys (has_not_tail at y ys h)))

pub linked_two : (n p m q : List ℕ) (r : Ring) → IsLinked n p r → m ≡ n ++ 0 ∷ 0 ∷ [] → q ≡ p ++ 0 ∷ 0 ∷ [] → IsLinked m q (record r { size = r.size + 2 })
linked_two n p m q r h e f = subst₂ (λ a b. IsLinked a b (record r { size = r.size + 2 })) (sym e) (sym f) (linked_more n p (0 ∷ 0 ∷ []) (0 ∷ 0 ∷ []) r h refl)

-- the ring with the first of them, and with both
pub with_one : (r : Ring) → IsRing r → inserted r.size r.root r.items ≡ r.items ++ r.size ∷ []
with_one r h = inserted_last r.size r.root r.items h.unrooted

pub one_new : (r : Ring) → IsRing r → has r.size r.items ≡ false
one_new r h = has_not_past r.size r.size r.items h.within (omega arith)

pub two_new : (r : Ring) → IsRing r → has (r.size + 1) (inserted r.size r.root r.items) ≡ false
two_new r h = has-inserted (r.size + 1) r.size r.root r.items ∙ (let off : r.size ≢ r.size + 1 = omega arith in rw (ne_eqb r.size (r.size + 1) off) (has_not_past (r.size + 1) r.size r.items h.within (omega arith)))

pub with_two : (r : Ring) → IsRing r → inserted (r.size + 1) r.root (inserted r.size r.root r.items) ≡ r.items ++ r.size ∷ (r.size + 1) ∷ []
with_two r h =
    let off : r.size ≢ r.root = omega (arith, h.root_within) in
    let none : has r.root (inserted r.size r.root r.items) ≡ false = has-inserted r.root r.size r.root r.items ∙ rw (ne_eqb r.size r.root off) h.unrooted in
    inserted_last (r.size + 1) r.root (inserted r.size r.root r.items) none ∙ ap (λ l. l ++ (r.size + 1) ∷ []) (with_one r h) ∙ append_assoc r.items (r.size ∷ []) ((r.size + 1) ∷ [])
