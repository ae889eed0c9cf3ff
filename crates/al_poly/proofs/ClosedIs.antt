-- What is true of the list of instances: it grows, each entry is named by the text or an earlier one and stands once, and
-- where it is not cut it has all that it names.
use Rattle.std.proofs.Common.{◌≡◌, ℕ, zero, suc, ◌+◌, ◌-◌, ◌<◌, ◌≤◌, nat_le, Bool, true, false, cond, ◌||◌, List, [], ◌∷◌, ◌++◌, All, length, slice_get, Option, Some, None, refl, ap, ◌∙◌, sym, subst, append_assoc, arith, inl, inr}
use Rattle.std.specs.Prelude.{⊤}
use Rattle.std.specs.List.{Contains, list_any}
use Rattle.std.proofs.lemmas.List.{append-nil, length-append}
use Rattle.std.proofs.lemmas.List.Folds.{list_any-append}
use Rattle.std.proofs.lemmas.List.Elements.{All-cons, Contains-append_right}
use Rattle.std.proofs.lemmas.Option.{slice_get_past, slice_get_within}
use Rattle.std.proofs.lemmas.Bool.{cases_lt}
use Rattle.al_tree.specs.declared.item.Item.{Item}
use Rattle.al_poly.specs.declared.instance.Instance.{Instance}
use Rattle.al_poly.specs.declared.names.Names.{Names}
use Rattle.al_poly.specs.declared.piece.Piece.{Piece}
use Rattle.al_poly.specs.Concrete.{same_instance}
use Rattle.al_poly.specs.Types.{names_of}
use Rattle.al_poly.specs.Instances.{pieces_of, named, is_there, most, with_instance, with_all, with_those_of, follow, followed, instances_of, instances}
use Rattle.al_poly.specs.Closed.{named_in, StandsIn, IsNamed}
use Rattle.al_poly.proofs.SameItself.{same_instance-self}

abbrev L : Type 0
L = List Instance

-- ---- lists grow

abbrev pub Grows : L → L → Type 0
Grows old new = (more : L) × (new ≡ old ++ more)

grows-self : (list : L) → Grows list list
grows-self list = ([], sym (append-nil list))

grows-trans : (a b c : L) → Grows a b → Grows b c → Grows a c
grows-trans a b c g h = (g.0 ++ h.0, h.1 ∙ ap (λ l. l ++ h.0) g.1 ∙ append_assoc a g.0 h.0)

abbrev chosen : Bool → L → Instance → L
chosen test list i = cond test list (list ++ i ∷ [])

abbrev is_kept : L → Instance → Bool
is_kept list i = nat_le most (length list) || is_there list i

with_instance-is : (list : L) (i : Instance) → with_instance list i ≡ chosen (is_kept list i) list i
unfolding with_instance
with_instance-is list i = refl

grows-chosen : (test : Bool) (list : L) (i : Instance) → Grows list (chosen test list i)
grows-chosen true list i = grows-self list
grows-chosen false list i = (i ∷ [], refl)

grows-one : (list : L) (i : Instance) → Grows list (with_instance list i)
grows-one list i = subst (Grows list) (sym (with_instance-is list i)) (grows-chosen (is_kept list i) list i)

grows-all : (list xs : L) → Grows list (with_all list xs)
grows-all list [] = grows-self list
grows-all list (x ∷ xs) = grows-trans list (with_instance list x) (with_all (with_instance list x) xs) (grows-one list x) (grows-all (with_instance list x) xs)

length-grows : (old new : L) → Grows old new → length old ≤ length new
length-grows old new g = subst (λ l. length old ≤ length l) (sym g.1) (omega (arith, length-append old g.0))

there-grows : (old new : L) (i : Instance) → Grows old new → is_there old i ≡ true → is_there new i ≡ true
there-grows old new i g h =
    ap (λ l. is_there l i) g.1 ∙ list_any-append (λ j. same_instance j i) old g.0 ∙ ap (λ b. b || list_any (λ j. same_instance j i) g.0) h

slice_get-append : (old more : L) (n : ℕ) (j : Instance) → slice_get old n ≡ Some j → slice_get (old ++ more) n ≡ Some j
slice_get-append [] more n j h = cc
slice_get-append (x ∷ xs) more zero j h = h
slice_get-append (x ∷ xs) more (suc n) j h = slice_get-append xs more n j h

slice_get-before : (old more : L) (n : ℕ) (j : Instance) → n < length old → slice_get (old ++ more) n ≡ Some j → slice_get old n ≡ Some j
slice_get-before [] more n j lt h = absurd (omega arith)
slice_get-before (x ∷ xs) more zero j lt h = h
slice_get-before (x ∷ xs) more (suc n) j lt h = slice_get-before xs more n j (omega arith) h

stands-grows : (old new : L) (inside : Option Instance) → Grows old new → StandsIn old inside → StandsIn new inside
stands-grows old new None g s = tt
stands-grows old new (Some j) g s = (s.0, ap (λ l. slice_get l s.0) g.1 ∙ slice_get-append old g.0 s.0 j s.1)

-- ---- a fact of each entry and those before it

abbrev pub EachAfter : (L → Instance → Type 0) → L → L → Type 0
EachAfter P before [] = ⊤
EachAfter P before (i ∷ rest) = P before i × EachAfter P (before ++ i ∷ []) rest

each-push : (P : L → Instance → Type 0) (before list : L) (i : Instance) → P (before ++ list) i → EachAfter P before list → EachAfter P before (list ++ i ∷ [])
each-push P before [] i p h = (subst (λ l. P l i) (append-nil before) p, tt)
each-push P before (x ∷ xs) i p h = (h.0, each-push P (before ++ x ∷ []) xs i (subst (λ l. P l i) (sym (append_assoc before (x ∷ []) xs)) p) h.1)

each-at : (P : L → Instance → Type 0) (before front : L) (i : Instance) (rest : L) → EachAfter P before (front ++ i ∷ rest) → P (before ++ front) i
each-at P before [] i rest h = subst (λ l. P l i) (sym (append-nil before)) h.0
each-at P before (x ∷ xs) i rest h = subst (λ l. P l i) (append_assoc before (x ∷ []) xs) (each-at P (before ++ x ∷ []) xs i rest h.1)

or-right : (a b : Bool) → (a || b) ≡ false → b ≡ false
or-right true b h = cc
or-right false b h = h

each-one : (P : L → Instance → Type 0) (list : L) (i : Instance) → (is_there list i ≡ false → P list i) → EachAfter P [] list → EachAfter P [] (with_instance list i)
each-one P list i p h =
    let choose : (test : Bool) → is_kept list i ≡ test → EachAfter P [] (chosen test list i) =
    λ test. elim test as (λ b. is_kept list i ≡ b → EachAfter P [] (chosen b list i))
    [ true ↦ λ is. h | false ↦ λ is. each-push P [] list i (p (or-right (nat_le most (length list)) (is_there list i) is)) h ] in
    subst (EachAfter P []) (sym (with_instance-is list i)) (choose (is_kept list i) refl)

-- ---- each stands once

abbrev IsNew : L → Instance → Type 0
IsNew list i = is_there list i ≡ false

once-all : (list xs : L) → EachAfter IsNew [] list → EachAfter IsNew [] (with_all list xs)
once-all list [] h = h
once-all list (x ∷ xs) h = once-all (with_instance list x) xs (each-one IsNew list x (λ new. new) h)

-- ---- all that is named is there, unless the list is cut

or-true : (b : Bool) → (b || (true || false)) ≡ true
or-true true = refl
or-true false = refl

kept-there : (list : L) (i : Instance) → length list < 257 → is_kept list i ≡ true → is_there list i ≡ true
kept-there list i lt is = elim (is_there list i) as (λ b. (nat_le most (length list) || b) ≡ true → b ≡ true) [ true ↦ λ h. refl | false ↦ λ h. grind arith ] is

has-chosen : (list : L) (i : Instance) (test : Bool) → is_kept list i ≡ test → length (chosen test list i) < 257 → is_there (chosen test list i) i ≡ true
has-chosen list i true is lt = kept-there list i lt is
has-chosen list i false is lt =
    list_any-append (λ j. same_instance j i) list (i ∷ [])
    ∙ ap (λ b. list_any (λ j. same_instance j i) list || (b || false)) (same_instance-self i)
    ∙ or-true (list_any (λ j. same_instance j i) list)

has-one : (list : L) (i : Instance) → length (with_instance list i) < 257 → is_there (with_instance list i) i ≡ true
has-one list i = subst (λ l. length l < 257 → is_there l i ≡ true) (sym (with_instance-is list i)) (has-chosen list i (is_kept list i) refl)

all-there : (list xs : L) → length (with_all list xs) < 257 → All (λ i. is_there (with_all list xs) i ≡ true) xs
all-there list [] lt = λ k d past. absurd (omega (arith, past))
all-there list (x ∷ xs) lt =
    let next = with_instance list x in
    let g = grows-all next xs in
    let short = length-grows next (with_all next xs) g in
    All-cons (λ i. is_there (with_all next xs) i ≡ true) x xs (there-grows next (with_all next xs) x g (has-one list x (omega (arith, short, lt)))) (all-there next xs lt)

all-grow : (old new xs : L) → Grows old new → All (λ i. is_there old i ≡ true) xs → All (λ i. is_there new i ≡ true) xs
all-grow old new xs g h = λ k d lt. there-grows old new _ g (h k d lt)

-- ---- each is named by the text or by one before it

module _ (items : List Item) where
  abbrev Named : L → Instance → Type 0
  Named = IsNamed items

  named-all : (inside : Option Instance) (front list xs : L) → StandsIn list inside → named_in items inside ≡ front ++ xs → EachAfter Named [] list → EachAfter Named [] (with_all list xs)
  named-all inside front list [] s is h = h
  named-all inside front list (x ∷ xs) s is h =
      named-all inside (front ++ x ∷ []) (with_instance list x) xs (stands-grows list (with_instance list x) inside (grows-one list x) s) (is ∙ sym (append_assoc front (x ∷ []) xs))
      (each-one Named list x (λ new. (inside, s, subst (λ l. Contains l x) (sym is) (Contains-append_right front (x ∷ xs) x (0, omega arith, refl)))) h)

-- ---- the list is cut

left-false : (a b : Bool) → (a || b) ≡ false → a ≡ false
left-false true b h = cc
left-false false b h = refl

room : (list : L) (i : Instance) → is_kept list i ≡ false → length list < 257
room list i is = let h : nat_le most (length list) ≡ false = left-false (nat_le most (length list)) (is_there list i) is in grind (arith, h)

short-chosen : (list : L) (i : Instance) (test : Bool) → is_kept list i ≡ test → length list ≤ 257 → length (chosen test list i) ≤ 257
short-chosen list i true is h = h
short-chosen list i false is h = grind (arith, length-append list (i ∷ []), room list i is)

short-one : (list : L) (i : Instance) → length list ≤ 257 → length (with_instance list i) ≤ 257
short-one list i = subst (λ l. length list ≤ 257 → length l ≤ 257) (sym (with_instance-is list i)) (short-chosen list i (is_kept list i) refl)

short-all : (list xs : L) → length list ≤ 257 → length (with_all list xs) ≤ 257
short-all list [] h = h
short-all list (x ∷ xs) h = short-all (with_instance list x) xs (short-one list x h)

-- so many steps later
abbrev later : ℕ → ℕ → ℕ
later n zero = n
later n (suc d) = suc (later n d)

later-is : (n d : ℕ) → later n d ≡ n + d
later-is n zero = omega arith
later-is n (suc d) = omega (arith, later-is n d)

apart : (n m : ℕ) → n ≤ m → later n (m - n) ≡ m
apart n m le = omega (arith, le, later-is n (m - n))

-- ---- the list, followed instance by instance

module _ (names : Names) (pieces : List Piece) where
  abbrev at : ℕ → L
  at n = followed names pieces n

  at-none : at 0 ≡ with_all [] (named names pieces None)
  unfolding followed
  at-none = refl

  at-more : (n : ℕ) → at (suc n) ≡ follow names pieces (at n) n
  unfolding followed
  at-more n = refl

  grows-of : (list : L) (inside : Option Instance) → Grows list (with_those_of names pieces list inside)
  grows-of list None = grows-self list
  grows-of list (Some i) = grows-all list (named names pieces (Some i))

  grows-step : (n : ℕ) → Grows (at n) (at (suc n))
  grows-step n = subst (Grows (at n)) (sym (at-more n)) (grows-of (at n) (slice_get (at n) n))

  grows-far : (n d : ℕ) → Grows (at n) (at (later n d))
  grows-far n zero = grows-self (at n)
  grows-far n (suc d) = grows-trans (at n) (at (later n d)) (at (suc (later n d))) (grows-far n d) (grows-step (later n d))

  -- where the list has no such instance yet, it stays as it is
  stays : (n d : ℕ) → length (at n) ≤ n → at (later n d) ≡ at n
  stays n zero h = refl
  stays n (suc d) h =
      at-more (later n d) ∙ ap (λ l. follow names pieces l (later n d)) (stays n d h)
      ∙ ap (with_those_of names pieces (at n)) (slice_get_past (at n) (later n d) (omega (arith, h, later-is n d)))

  grows-to : (n m : ℕ) → n ≤ m → Grows (at n) (at m)
  grows-to n m le = subst (λ k. Grows (at n) (at k)) (apart n m le) (grows-far n (m - n))

  there-before : (n m : ℕ) (j : Instance) → n ≤ m → slice_get (at m) n ≡ Some j → slice_get (at n) n ≡ Some j
  there-before n m j le h =
      let g = grows-to n m le in
      elim (cases_lt n (length (at n))) as (λ _. slice_get (at n) n ≡ Some j) [
        | inl lt ↦ slice_get-before (at n) g.0 n j lt (ap (λ l. slice_get l n) (sym g.1) ∙ h)
        | inr past ↦ ap (λ l. slice_get l n) (sym (stays n (m - n) past) ∙ ap at (apart n m le)) ∙ h
      ]

  text-there : (m : ℕ) → length (at m) < 257 → All (λ i. is_there (at m) i ≡ true) (named names pieces None)
  text-there m lt =
      let xs = named names pieces None in
      let g = grows-to 0 m (omega arith) in
      let short = length-grows (at 0) (at m) g in
      all-grow (at 0) (at m) xs g (subst (λ l. All (λ i. is_there l i ≡ true) xs) (sym at-none) (all-there [] xs (subst (λ l. length l < 257) at-none (omega (arith, short, lt)))))

  those-there : (n m : ℕ) (j : Instance) → n < m → length (at m) < 257 → slice_get (at m) n ≡ Some j → All (λ i. is_there (at m) i ≡ true) (named names pieces (Some j))
  those-there n m j nm lt h =
      let xs = named names pieces (Some j) in
      let step = at-more n ∙ ap (with_those_of names pieces (at n)) (there-before n m j (omega (arith, nm)) h) in
      let g = grows-to (suc n) m (omega (arith, nm)) in
      let short = length-grows (at (suc n)) (at m) g in
      all-grow (at (suc n)) (at m) xs g (subst (λ l. All (λ i. is_there l i ≡ true) xs) (sym step) (all-there (at n) xs (subst (λ l. length l < 257) step (omega (arith, short, lt)))))

  once-of : (list : L) (inside : Option Instance) → EachAfter IsNew [] list → EachAfter IsNew [] (with_those_of names pieces list inside)
  once-of list None h = h
  once-of list (Some j) h = once-all list (named names pieces (Some j)) h

  once-at : (n : ℕ) → EachAfter IsNew [] (at n)
  once-at zero = subst (EachAfter IsNew []) (sym at-none) (once-all [] (named names pieces None) tt)
  once-at (suc n) = subst (EachAfter IsNew []) (sym (at-more n)) (once-of (at n) (slice_get (at n) n) (once-at n))

  short-of : (list : L) (inside : Option Instance) → length list ≤ 257 → length (with_those_of names pieces list inside) ≤ 257
  short-of list None h = h
  short-of list (Some j) h = short-all list (named names pieces (Some j)) h

  short-at : (n : ℕ) → length (at n) ≤ 257
  short-at zero = subst (λ l. length l ≤ 257) (sym at-none) (short-all [] (named names pieces None) (omega arith))
  short-at (suc n) = subst (λ l. length l ≤ 257) (sym (at-more n)) (short-of (at n) (slice_get (at n) n) (short-at n))

-- ---- a text

module _ (items : List Item) where
  abbrev names : Names
  names = names_of items

  abbrev pieces : List Piece
  pieces = pieces_of (names_of items) items

  instances-are : instances items ≡ followed names pieces most
  unfolding instances instances_of
  instances-are = refl

  named-of : (list : L) (n : ℕ) (j : Option Instance) → slice_get list n ≡ j → EachAfter (IsNamed items) [] list → EachAfter (IsNamed items) [] (with_those_of names pieces list j)
  named-of list n None is h = h
  named-of list n (Some j) is h = named-all items (Some j) [] list (named_in items (Some j)) (n, is) refl h

  named-at : (n : ℕ) → EachAfter (IsNamed items) [] (followed names pieces n)
  named-at zero = subst (EachAfter (IsNamed items) []) (sym (at-none names pieces)) (named-all items None [] [] (named_in items None) tt refl tt)
  named-at (suc n) =
      subst (EachAfter (IsNamed items) []) (sym (at-more names pieces n))
      (named-of (followed names pieces n) n (slice_get (followed names pieces n) n) refl (named-at n))

  pub stands_once : (front : L) (i : Instance) (rest : L) → instances items ≡ front ++ i ∷ rest → is_there front i ≡ false
  stands_once front i rest is = each-at IsNew [] front i rest (subst (EachAfter IsNew []) (sym instances-are ∙ is) (once-at names pieces most))

  pub is_named : (front : L) (i : Instance) (rest : L) → instances items ≡ front ++ i ∷ rest → IsNamed items front i
  is_named front i rest is = each-at (IsNamed items) [] front i rest (subst (EachAfter (IsNamed items) []) (sym instances-are ∙ is) (named-at most))

  pub all_there : (inside : Option Instance) → length (instances items) < 257 → StandsIn (instances items) inside → All (λ i. is_there (instances items) i ≡ true) (named_in items inside)
  all_there None lt s =
      subst (λ l. length l < 257 → All (λ i. is_there l i ≡ true) (named_in items None)) (sym instances-are) (text-there names pieces most) lt
  all_there (Some j) lt s =
      subst (λ l. length l < 257 → slice_get l s.0 ≡ Some j → All (λ i. is_there l i ≡ true) (named_in items (Some j))) (sym instances-are)
      (λ lt h. those-there names pieces s.0 most j (omega (arith, slice_get_within (followed names pieces most) s.0 j h, lt)) lt h) lt s.1

  pub is_short : length (instances items) ≤ 257
  is_short = subst (λ l. length l ≤ 257) (sym instances-are) (short-at names pieces most)
