-- Runs of bytes that pass a test.
use Rattle.std.proofs.Common.{◌≡◌, ◌≢◌, ℕ, zero, suc, ◌+◌, ◌≤◌, ◌==◌, nat_lt, Bool, true, false, ◌&&◌, if◌then◌else◌, List, [], ◌∷◌, ◌++◌, length, take, drop, refl, sym, ap, ◌∙◌, arith, one-add, take-append-drop}
use Rattle.std.proofs.lemmas.List.{take_at}
use Rattle.std.specs.List.{list_all, prefix_len, take_while}

pub both : (a b : Bool) → (a && b) ≡ true → (a ≡ true) × (b ≡ true)
both true b h = (refl, h)
both false b h = absurd (let f : ⊥ = cc in f)

pub and_true : (a b : Bool) → a ≡ true → b ≡ true → (a && b) ≡ true
and_true a b p q = rw (p, q) refl

-- a wider test passes too
pub widen : (p q : ℕ → Bool) → ((b : ℕ) → p b ≡ true → q b ≡ true) → (u : List ℕ) → list_all p u ≡ true → list_all q u ≡ true
widen p q w [] h = refl
widen p q w (b ∷ bs) h = let s = both (p b) (list_all p bs) h in and_true (q b) (list_all q bs) (w b s.0) (widen p q w bs s.1)

run_step : (p : ℕ → Bool) (b : ℕ) (bs : List ℕ) (x : Bool) → p b ≡ x → list_all p (take_while p bs) ≡ true → list_all p (take (if x then 1 + prefix_len p bs else 0) (b ∷ bs)) ≡ true
run_step p b bs true e h = rw one-add (and_true (p b) (list_all p (take_while p bs)) e h)
run_step p b bs false e h = refl

pub run_all : (p : ℕ → Bool) (u : List ℕ) → list_all p (take_while p u) ≡ true
run_all p [] = refl
run_all p (b ∷ bs) = run_step p b bs (p b) refl (run_all p bs)

-- all of the front passes, so the run is no shorter
pub run_longer : (p : ℕ → Bool) (u r : List ℕ) → list_all p u ≡ true → length u ≤ prefix_len p (u ++ r)
run_longer p [] r h = omega arith
run_longer p (b ∷ bs) r h = let s = both (p b) (list_all p bs) h in let i = run_longer p bs r s.1 in rw s.0 (omega (arith, i))

-- what holds of both is true of the choice
pub chosen : {A : Type 0} (P : A → Type 0) (b : Bool) (x y : A) → P x → P y → P (if b then x else y)
chosen P true x y p q = p
chosen P false x y p q = q

length_step : (p : ℕ → Bool) (b : ℕ) (bs : List ℕ) (x : Bool) → p b ≡ x → prefix_len p bs ≡ length (take_while p bs) → (if x then 1 + prefix_len p bs else 0) ≡ length (take (if x then 1 + prefix_len p bs else 0) (b ∷ bs))
length_step p b bs true e h = rw one-add (ap suc h)
length_step p b bs false e h = refl

-- the length of a run is that of its bytes
pub run_within : (p : ℕ → Bool) (u : List ℕ) → prefix_len p u ≡ length (take_while p u)
run_within p [] = refl
run_within p (b ∷ bs) = length_step p b bs (p b) refl (run_within p bs)

pub cut_run : (p : ℕ → Bool) (u : List ℕ) → u ≡ take_while p u ++ drop (prefix_len p u) u
cut_run p u = sym (take-append-drop (prefix_len p u) u)

-- what holds of the choice, told the test
pub choose_by : {A : Type 0} (P : A → Type 0) (b : Bool) (x y : A) → (b ≡ true → P x) → (b ≡ false → P y) → P (if b then x else y)
choose_by P true x y p q = p refl
choose_by P false x y p q = q refl

pub if_true : {A : Type 0} (b : Bool) (x y : A) → b ≡ true → (if b then x else y) ≡ x
if_true b x y h = rw h refl

pub if_false : {A : Type 0} (b : Bool) (x y : A) → b ≡ false → (if b then x else y) ≡ y
if_false b x y h = rw h refl

pub equal : (a b : ℕ) → (a == b) ≡ true → a ≡ b
equal a b h = grind arith

pub equal_true : (a b : ℕ) → a ≡ b → (a == b) ≡ true
equal_true a b h = grind arith

pub equal_false : (a b : ℕ) → a ≢ b → (a == b) ≡ false
equal_false a b h = grind arith

pub some_true : (n : ℕ) → 1 ≤ n → nat_lt 0 n ≡ true
some_true n h = grind arith

pub some_is : (n : ℕ) → nat_lt 0 n ≡ true → 1 ≤ n
some_is n h = grind arith

pub none_is : (n : ℕ) → nat_lt 0 n ≡ false → n ≡ 0
none_is n h = grind arith

-- a run whose first byte passes
pub run_cons : (p : ℕ → Bool) (b : ℕ) (bs : List ℕ) → p b ≡ true → take_while p (b ∷ bs) ≡ b ∷ take_while p bs
run_cons p b bs h =
    let e : prefix_len p (b ∷ bs) ≡ suc (prefix_len p bs) = rw h (omega arith) in
    ap (λ n. take n (b ∷ bs)) e

-- a run that ends where its front does
pub run_front : (p : ℕ → Bool) (u r : List ℕ) → length u ≡ prefix_len p (u ++ r) → take_while p (u ++ r) ≡ u
run_front p u r e = take_at u r (prefix_len p (u ++ r)) e

-- a part of a run
pub run_part : (p : ℕ → Bool) (n : ℕ) (u : List ℕ) → n ≤ prefix_len p u → (list_all p (take n u) ≡ true) × (length (take n u) ≡ n)
run_part p zero u h = (refl, refl)
run_part p (suc n) [] h = absurd (omega arith)
run_part p (suc n) (b ∷ bs) h = go (p b) refl h (run_part p n bs)
  where
    go : (x : Bool) → p b ≡ x → suc n ≤ (if x then 1 + prefix_len p bs else 0) → (n ≤ prefix_len p bs → (list_all p (take n bs) ≡ true) × (length (take n bs) ≡ n)) → ((p b && list_all p (take n bs)) ≡ true) × (suc (length (take n bs)) ≡ suc n)
    go true e l more = let m = more (omega (arith, l)) in (and_true (p b) (list_all p (take n bs)) e m.0, ap suc m.1)
    go false e l more = absurd (omega (arith, l))

-- what holds of both cases of a test
pub by_bool : {A : Type 0} (b : Bool) → (b ≡ true → A) → (b ≡ false → A) → A
by_bool true p q = p refl
by_bool false p q = q refl

-- a run that ends at the byte behind its front
pub run_exact : (p : ℕ → Bool) (u : List ℕ) (b : ℕ) (r : List ℕ) → list_all p u ≡ true → p b ≡ false → prefix_len p (u ++ b ∷ r) ≡ length u
run_exact p [] b r h f = if_false (p b) _ _ f
run_exact p (a ∷ u) b r h f =
    let s = both (p a) (list_all p u) h in
    if_true (p a) _ _ s.0 ∙ ap (λ n. 1 + n) (run_exact p u b r s.1 f) ∙ omega arith
