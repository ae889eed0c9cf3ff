-- What is known of each way to read a declaration where the fault furthest on is found.
use Rattle.std.proofs.Common.{◌≡◌, ◌≢◌, ℕ, ◌+◌, ◌<◌, ◌≤◌, ◌==◌, ◌⊎◌, inl, inr, min, Bool, true, false, if◌then◌else◌, List, [], ◌∷◌, ◌++◌, length, drop, get_or, Option, Some, None, Ok, Err, refl, sym, ap, ◌∙◌, subst, arith}
use Rattle.std.specs.List.{All}
use Rattle.std.proofs.lemmas.List.Elements.{All-tail}
use Rattle.std.proofs.lemmas.Bool.{cases_lt}
use Rattle.std.proofs.lemmas.Bool.Decides.{eqb_tells}
use Rattle.std.proofs.lemmas.List.{drop_more, drop_all}
use Rattle.al_tree.specs.Items.{Parametrised, Declared, parameters_of}
use Rattle.al_tree.specs.Reading.{Outcome}
use Rattle.al_tree.specs.declared.cursor.ParseError.{ParseError}
use Rattle.al_parse_stmt.specs.Ahead.{some_parameters, owner_by}
use Rattle.al_parse_stmt.specs.Begun.{Begun, owners, left_with, less_left, least_left, some_alive}

-- what each of these ways has
abbrev pub Each : (Option ℕ → Type 0) → List ℕ → Type 0
Each P [] = Unit {0}
Each P (n ∷ ns) = P (Some n) × Each P ns

pub all_each : (P : Option ℕ → Type 0) (ns : List ℕ) → All (λ n. P (Some n)) ns → Each P ns
all_each P [] h = tt
all_each P (n ∷ ns) h = (h 0 n (omega arith), all_each P ns (All-tail (λ n. P (Some n)) n ns h))

pub each_of : (P Q : Option ℕ → Type 0) (ns : List ℕ) → ((o : Option ℕ) → P o → Q o) → Each P ns → Each Q ns
each_of P Q [] k h = tt
each_of P Q (n ∷ ns) k h = (k (Some n) h.0, each_of P Q ns k h.1)

pub both_each : (P Q : Option ℕ → Type 0) (ns : List ℕ) → Each P ns → Each Q ns → Each (λ o. P o × Q o) ns
both_each P Q [] g h = tt
both_each P Q (n ∷ ns) g h = ((g.0, h.0), both_each P Q ns g.1 h.1)

front : (P : Option ℕ → Type 0) (ns : List ℕ) (n : ℕ) → Each P (ns ++ n ∷ []) → Each P ns × P (Some n)
front P [] n h = (tt, h.0)
front P (m ∷ ns) n h = let q = front P ns n h.1 in ((h.0, q.0), q.1)

one_adt : (P : Option ℕ → Type 0) (a : Parametrised) (n : ℕ) (others own : List ℕ) → P (Some a.adt) → (others ≡ own → P (Some n)) → (if a.adt == n then a.parameters ++ others else others) ≡ own
    → ((a.adt == n ≡ true) × (a.adt ≡ n)) ⊎ ((a.adt == n ≡ false) × (a.adt ≢ n)) → P (Some n)
one_adt P a n others own r go e (inl y) = subst (λ x. P (Some x)) y.1 r
one_adt P a n others own r go e (inr y) = go (sym (ap (λ b. if b then a.parameters ++ others else others) y.0) ∙ e)

-- an adt that has parameters is one of them
among : (P : Option ℕ → Type 0) (adts : List Parametrised) (n m : ℕ) (ms : List ℕ) → Each P (owners adts) → parameters_of adts n ≡ m ∷ ms → P (Some n)
among P [] n m ms h e = absurd (let z : ⊥ = cc in z)
among P (a ∷ rest) n m ms h e =
    let q = front P (owners rest) a.adt h in
    one_adt P a n (parameters_of rest n) (m ∷ ms) q.1 (λ e2. among P rest n m ms q.0 e2) e (eqb_tells a.adt n)

-- so has every way that may be found ahead
pub way_ahead : (P : Option ℕ → Type 0) (d : Declared) → Each P (owners d.adts) → P None → (o : Outcome ℕ) → P (owner_by d o)
way_ahead P d h none (Err e) = none
way_ahead P d h none (Ok x) = by (parameters_of d.adts x.0) refl
  where
    by : (ns : List ℕ) → parameters_of d.adts x.0 ≡ ns → P (if some_parameters ns then Some x.0 else None)
    by [] e = none
    by (n ∷ ns) e = among P d.adts x.0 n ns h e

-- ---- how far the ways are read

-- so many tokens are left at least with the fault of a way
abbrev pub Leaves : ℕ → Outcome Begun → Type 0
Leaves p (Ok x) = Unit {0}
Leaves p (Err e) = p ≤ left_with e

both : (p : ℕ) (o : Outcome Begun) (n : ℕ) → p ≤ less_left o n → Leaves p o × (p ≤ n)
both p (Ok x) n h = (tt, h)
both p (Err e) n h = (omega (arith, h), omega (arith, h))

all_leave : (p : ℕ) (f : Option ℕ → Outcome Begun) (ns : List ℕ) (n : ℕ) → p ≤ least_left f ns n → Each (λ o. Leaves p (f o)) ns × (p ≤ n)
unfolding least_left
all_leave p f [] n h = (tt, h)
all_leave p f (x ∷ xs) n h =
    let rest = all_leave p f xs (less_left (f (Some x)) n) h in
    let one = both p (f (Some x)) n rest.1 in
    ((one.0, rest.0), one.1)

-- no way leaves less
pub record Least (p : ℕ) (f : Option ℕ → Outcome Begun) (ns : List ℕ) : Type 0 where
  pub none : Leaves p (f None)
  pub each : Each (λ o. Leaves p (f o)) ns

pub least_leaves : (f : Option ℕ → Outcome Begun) (ns : List ℕ) (n : ℕ) → Least (least_left f ns (less_left (f None) n)) f ns
least_leaves f ns n =
    let p = least_left f ns (less_left (f None) n) in
    let rest = all_leave p f ns (less_left (f None) n) (omega arith) in
    record { none = (both p (f None) n rest.1).0; each = rest.0 }

-- a way that leaves so many
pub record Leaving (P : Option ℕ → Type 0) (f : Option ℕ → Outcome Begun) (n : ℕ) : Type 0 where
  pub way : Option ℕ
  pub fit : P way
  pub error : ParseError
  pub is : f way ≡ Err error
  pub left : left_with error ≡ n

nearer : (P : Option ℕ → Type 0) (f : Option ℕ → Outcome Begun) (o : Option ℕ) → P o → (n : ℕ) → Leaving P f n → Leaving P f (less_left (f o) n)
nearer P f o fit n l = by (f o) refl
  where
    by : (x : Outcome Begun) → f o ≡ x → Leaving P f (less_left x n)
    by (Ok x) h = l
    by (Err e) h = of (cases_lt n (left_with e))
      where
        of : (n < left_with e) ⊎ (left_with e ≤ n) → Leaving P f (min (left_with e) n)
        of (inl q) = subst (Leaving P f) (omega (arith, q)) l
        of (inr q) = record { way = o; fit = fit; error = e; is = h; left = omega (arith, q) }

all_nearer : (P : Option ℕ → Type 0) (f : Option ℕ → Outcome Begun) (ns : List ℕ) → Each P ns → (n : ℕ) → Leaving P f n → Leaving P f (least_left f ns n)
unfolding least_left
all_nearer P f [] h n l = l
all_nearer P f (x ∷ xs) h n l = all_nearer P f xs h.1 (less_left (f (Some x)) n) (nearer P f (Some x) h.0 n l)

pub least_is : (P : Option ℕ → Type 0) (f : Option ℕ → Outcome Begun) (ns : List ℕ) → P None → Each P ns → (n : ℕ) → Leaving P f n → Leaving P f (least_left f ns (less_left (f None) n))
least_is P f ns none h n l = all_nearer P f ns h (less_left (f None) n) (nearer P f None none n l)

-- ---- which ways are alive

pub none_alive : (f : Option ℕ → Bool) (ns : List ℕ) → some_alive f ns ≡ false → Each (λ o. f o ≡ false) ns
unfolding some_alive
none_alive f [] e = tt
none_alive f (x ∷ xs) e = by (f (Some x)) refl (none_alive f xs) e
  where
    by : (b : Bool) → f (Some x) ≡ b → (some_alive f xs ≡ false → Each (λ o. f o ≡ false) xs) → (if b then true else some_alive f xs) ≡ false → (f (Some x) ≡ false) × Each (λ o. f o ≡ false) xs
    by true c go e = absurd (let z : ⊥ = cc in z)
    by false c go e = (c, go e)

pub record Alive (P : Option ℕ → Type 0) (f : Option ℕ → Bool) : Type 0 where
  pub way : Option ℕ
  pub fit : P way
  pub is : f way ≡ true

pub one_alive : (P : Option ℕ → Type 0) (f : Option ℕ → Bool) (ns : List ℕ) → Each P ns → some_alive f ns ≡ true → Alive P f
unfolding some_alive
one_alive P f [] h e = absurd (let z : ⊥ = cc in z)
one_alive P f (x ∷ xs) h e = by (f (Some x)) refl (one_alive P f xs h.1) e
  where
    by : (b : Bool) → f (Some x) ≡ b → (some_alive f xs ≡ true → Alive P f) → (if b then true else some_alive f xs) ≡ true → Alive P f
    by true c go e = record { way = Some x; fit = h.0; is = c }
    by false c go e = go e

-- ---- the loops over the adts

-- one adt more of a loop
pub loop_step : {A : Type 0} (go : List ℕ → A → A) (f : ℕ → A → A) → ((n : ℕ) (ns : List ℕ) (a : A) → go (n ∷ ns) a ≡ go ns (f n a)) → (names : List ℕ) (i n : ℕ) (a a2 : A) → i < length names → n ≡ get_or names i 0 → a2 ≡ f n a → go (drop i names) a ≡ go (drop (i + 1) names) a2
loop_step go f opens names i n a a2 h s q =
    let cut : drop i names ≡ n ∷ drop (i + 1) names = drop_more names i 0 h ∙ ap (λ x. x ∷ drop (i + 1) names) (sym s) in
    ap (λ l. go l a) cut ∙ opens n (drop (i + 1) names) a ∙ ap (go (drop (i + 1) names)) (sym q)

pub least_opens : (f : Option ℕ → Outcome Begun) (n : ℕ) (ns : List ℕ) (a : ℕ) → least_left f (n ∷ ns) a ≡ least_left f ns (less_left (f (Some n)) a)
unfolding least_left
least_opens f n ns a = refl

pub least_end : (f : Option ℕ → Outcome Begun) (names : List ℕ) (i a : ℕ) → length names ≤ i → least_left f (drop i names) a ≡ a
unfolding least_left
least_end f names i a h = ap (λ l. least_left f l a) (drop_all i names h)

-- one adt more, where what is declared is kept
pub least_kept : (g : Declared → Option ℕ → Outcome Begun) (names : List ℕ) (i n : ℕ) (d d2 d3 : Declared) (a0 a a2 : ℕ) → least_left (g d) names a0 ≡ least_left (g d) (drop i names) a → d2 ≡ d
    → i < length names → n ≡ get_or names i 0 → a2 ≡ less_left (g d2 (Some n)) a → d3 ≡ d2 → (least_left (g d) names a0 ≡ least_left (g d) (drop (i + 1) names) a2) × (d3 ≡ d)
least_kept g names i n d d2 d3 a0 a a2 h same less at step kept =
    (h ∙ loop_step (least_left (g d)) (λ x y. less_left (g d (Some x)) y) (least_opens (g d)) names i n a a2 less at (step ∙ ap (λ x. less_left (g x (Some n)) a) same), kept ∙ same)

-- one adt more that is not alive
pub alive_kept : (g : Declared → Option ℕ → Bool) (names : List ℕ) (i n : ℕ) (d d2 d3 : Declared) (b : Bool) → some_alive (g d) names ≡ some_alive (g d) (drop i names) → d2 ≡ d
    → i < length names → n ≡ get_or names i 0 → b ≡ g d2 (Some n) → d3 ≡ d2 → (some_alive (g d) names ≡ (if b then true else some_alive (g d) (drop (i + 1) names))) × (d3 ≡ d)
unfolding some_alive
alive_kept g names i n d d2 d3 b h same less at step kept =
    let cut : drop i names ≡ n ∷ drop (i + 1) names = drop_more names i 0 less ∙ ap (λ x. x ∷ drop (i + 1) names) (sym at) in
    (h ∙ ap (some_alive (g d)) cut ∙ ap (λ (c : Bool). if c then true else some_alive (g d) (drop (i + 1) names)) (sym (step ∙ ap (λ x. g x (Some n)) same)), kept ∙ same)

pub alive_end : (f : Option ℕ → Bool) (names : List ℕ) (i : ℕ) → length names ≤ i → some_alive f (drop i names) ≡ false
unfolding some_alive
alive_end f names i h = ap (some_alive f) (drop_all i names h)
