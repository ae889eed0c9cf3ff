-- Variables in slots.
use Rattle.std.proofs.Common.{◌≡◌, ℕ, zero, suc, ◌+◌, ◌^◌, ◌<◌, ◌≤◌, List, [], ◌∷◌, length, map, Option, Some, refl, sym, ap, ◌∙◌, subst, ◌⊎◌, inl, inr, ⊎_elim, arith}
use Rattle.std.specs.Prelude.{true, false, ◌≢◌, slice_get, slice_set, slice_index}
use Rattle.std.proofs.lemmas.Bool.{cases_eq}
use Rattle.al_typed.specs.declared.program.Local.{Local as LocalRow}
use Rattle.al_typed.specs.declared.program.Program.{Program}
use Rattle.al_typed.specs.Layout.{unit_at}
use Rattle.al_meaning.specs.Places.{function_at, locals_of, has_block}
use Rattle.al_meaning.specs.Evaluate.{round_of}
use Rattle.al_meaning.specs.Here.{units_in}
use Rattle.al_meaning.specs.Tasks.{Env}
use Rattle.al_ir.specs.Control.{Slots}
use Rattle.al_lower_words.specs.Units.{AreOf}
use Rattle.al_lower_words.proofs.Integers.{length_of}
use Rattle.al_lower_code.specs.Homes.{local_home, block_home, first_free}
use Rattle.al_lower_steps.specs.Slots.{Holds, Below, Outside}
use Rattle.al_lower_steps.proofs.Slots.{holds_below, holds_outside}
use Rattle.al_lower_claims.proofs.Homes.{IsPrivateLocal, Homes}

-- where a statement stands in a function, with so many iterators, whose turns stand from a slot on
pub record Scene : Type 0 where
  pub program : Program
  pub function : ℕ
  pub turns : ℕ
  pub iterators : ℕ
  pub homes : Homes program function
  pub above : first_free program function ≤ turns

abbrev pub home : Scene → ℕ → ℕ
home c n = local_home c.program c.function n

abbrev pub IsLocal : Scene → ℕ → LocalRow → Type 0
IsLocal c n l = IsPrivateLocal c.program c.function n l

-- how many blocks there are round the function
abbrev pub blocks_round : Scene → ℕ
blocks_round c = length (round_of (function_at c.program c.function))

-- a private local has a value of its type in its home
pub record HoldsLocal (c : Scene) (n : ℕ) (l : LocalRow) (env : Env) (slots : Slots) : Type 0 where
  pub value : List ℕ
  pub is : slice_get env.locals n ≡ Some value
  pub fits : AreOf (units_in c.program l.ty) value
  pub holds : Holds slots (home c n) value

-- the slots have the variables
pub record Vars (c : Scene) (env : Env) (slots : Slots) : Type 0 where
  pub locals : (n : ℕ) (l : LocalRow) → IsLocal c n l → HoldsLocal c n l env slots
  pub block : has_block (locals_of (function_at c.program c.function)) ≡ true → slots (block_home c.program c.function) ≡ Some env.block
  pub no_block : has_block (locals_of (function_at c.program c.function)) ≡ false → env.block ≡ 0
  pub block_fits : env.block < 2 ^ 32
  pub around : Holds slots 0 env.around
  pub around_fits : AreOf (map (λ _. unit_at 0 4) (round_of (function_at c.program c.function))) env.around
  pub rounds : (i : ℕ) → i < c.iterators → slots (c.turns + i) ≡ Some (slice_index env.turns i)
  pub rounds_fit : (i : ℕ) → i < c.iterators → slice_index env.turns i < 2 ^ 32
  pub rounds_there : c.iterators ≤ length env.turns

-- slots from this one on are free
abbrev pub Room : Scene → ℕ → Type 0
Room c to = c.turns + c.iterators ≤ to

pub more_room : (c : Scene) (to n : ℕ) → Room c to → Room c (to + n)
more_room c to n r = omega (arith, r)

map_length : {A B : Type 0} (f : A → B) (xs : List A) → length (map f xs) ≡ length xs
map_length f [] = refl
map_length f (x ∷ xs) = ap suc (map_length f xs)

pub around_count : (c : Scene) (env : Env) (slots : Slots) → Vars c env slots → length env.around ≡ blocks_round c
around_count c env slots v = length_of _ _ v.around_fits ∙ map_length (λ _. unit_at 0 4) (round_of (function_at c.program c.function))

pub vars_kept : (c : Scene) (env : Env) (b : ℕ) (now old : Slots) → Room c b → Below b now old → Vars c env old → Vars c env now
vars_kept c env b now old room h v =
    let above = c.above in record {
      locals = λ n l x.
          let held = v.locals n l x in let le = c.homes.fits n l x in let len = length_of _ _ held.fits in
          record { value = held.value; is = held.is; fits = held.fits; holds = holds_below held.value (home c n) b now old (omega (arith, le, len, above, room)) h held.holds };
      block = λ e. h (block_home c.program c.function) (omega (arith, above, room)) ∙ v.block e;
      no_block = v.no_block;
      block_fits = v.block_fits;
      around = let y = around_count c env old v in let z = c.homes.behind_around (length (locals_of (function_at c.program c.function))) in holds_below env.around 0 b now old (omega (arith, above, room, y, z)) h v.around;
      around_fits = v.around_fits;
      rounds = λ i lt. h (c.turns + i) (omega (arith, room, lt)) ∙ v.rounds i lt;
      rounds_fit = v.rounds_fit;
      rounds_there = v.rounds_there;
    }

-- ---- slots that no private local has

abbrev pub IsFree : Scene → ℕ → Type 0
IsFree c i = (n : ℕ) (l : LocalRow) → IsLocal c n l → (i < home c n) ⊎ (home c n + length (units_in c.program l.ty) ≤ i)

-- those below one stay
abbrev pub Stays : Scene → (to : ℕ) → Slots → Slots → Type 0
Stays c to now old = (i : ℕ) → IsFree c i → i < to → now i ≡ old i

pub stays_refl : (c : Scene) (to : ℕ) (slots : Slots) → Stays c to slots slots
stays_refl c to slots i f lt = refl

pub stays_both : (c : Scene) (to more : ℕ) (z y x : Slots) → to ≤ more → Stays c more z y → Stays c to y x → Stays c to z x
stays_both c to more z y x le h k i f lt = h i f (omega (arith, le, lt)) ∙ k i f lt

pub stays_below : (c : Scene) (to : ℕ) (now old : Slots) → Below to now old → Stays c to now old
stays_below c to now old h i f lt = h i lt

pub behind_free : (c : Scene) (i : ℕ) → block_home c.program c.function ≤ i → IsFree c i
behind_free c i le n l x = let q = c.homes.fits n l x in inr (omega (arith, q, le))

pub room_free : (c : Scene) (to i : ℕ) → Room c to → to ≤ i → IsFree c i
room_free c to i room le = let a = c.above in behind_free c i (omega (arith, a, room, le))

pub around_free : (c : Scene) (i : ℕ) → i < blocks_round c → IsFree c i
around_free c i lt n l x = let q = c.homes.behind_around n in inl (omega (arith, q, lt))

-- words that stand in free slots stay
pub holds_stays : (c : Scene) (ws : List ℕ) (t to : ℕ) (now old : Slots) → Room c t → t + length ws ≤ to → Stays c to now old → Holds old t ws → Holds now t ws
holds_stays c [] t to now old room le h k = tt
holds_stays c (w ∷ ws) t to now old room le h k =
    (h t (room_free c t t room (omega arith)) (omega (arith, le)) ∙ k.0, holds_stays c ws (t + 1) to now old (omega (arith, room)) (omega (arith, le)) h k.1)

-- ---- a local gets another value

set_get : {A : Type 0} (xs : List A) (i : ℕ) (x y : A) → slice_get xs i ≡ Some x → slice_get (slice_set xs i y) i ≡ Some y
set_get [] i x y h = absurd (cc)
set_get (a ∷ xs) zero x y h = refl
set_get (a ∷ xs) (suc i) x y h = set_get xs i x y h

set_other : {A : Type 0} (xs : List A) (i j : ℕ) (y : A) → j ≢ i → slice_get (slice_set xs i y) j ≡ slice_get xs j
set_other [] i j y h = refl
set_other (a ∷ xs) zero zero y h = absurd (h refl)
set_other (a ∷ xs) zero (suc j) y h = refl
set_other (a ∷ xs) (suc i) zero y h = refl
set_other (a ∷ xs) (suc i) (suc j) y h = set_other xs i j y (λ e. h (ap suc e))

one_row : {A : Type 0} (o : Option A) (a b : A) → o ≡ Some a → o ≡ Some b → a ≡ b
one_row o a b h k = cc

abbrev pub with_local : ℕ → List ℕ → Env → Env
with_local n v env = record env { locals = slice_set env.locals n v }

pub vars_set : (c : Scene) (n : ℕ) (l : LocalRow) (env : Env) (v : List ℕ) (now old : Slots) → IsLocal c n l → AreOf (units_in c.program l.ty) v → Outside (home c n) (length v) now old → Holds now (home c n) v → Vars c env old → Vars c (with_local n v env) now
vars_set c n l env v now old x fits o holds vars =
    let le = c.homes.fits n l x in let len = length_of _ _ fits in let round = c.homes.behind_around n in let above = c.above in record {
      locals = λ m k y. ⊎_elim (λ same. here m k y same) (λ other. there m k y other) (cases_eq m n);
      block = λ e. o (block_home c.program c.function) (inr (omega (arith, le, len))) ∙ vars.block e;
      no_block = vars.no_block;
      block_fits = vars.block_fits;
      around = let q = around_count c env old vars in holds_outside env.around 0 (home c n) (length v) now old (inl (omega (arith, q, round))) o vars.around;
      around_fits = vars.around_fits;
      rounds = λ i lt. o (c.turns + i) (inr (omega (arith, le, len, above))) ∙ vars.rounds i lt;
      rounds_fit = vars.rounds_fit;
      rounds_there = vars.rounds_there;
    }
  where
    here : (m : ℕ) (k : LocalRow) → IsLocal c m k → m ≡ n → HoldsLocal c m k (with_local n v env) now
    here m k y same =
        let held = vars.locals n l x in
        let row : l ≡ k = one_row _ l k x.row (ap (λ i. slice_get (locals_of (function_at c.program c.function)) i) (sym same) ∙ y.row) in
        record {
          value = v;
          is = ap (λ i. slice_get (slice_set env.locals n v) i) same ∙ set_get env.locals n held.value v held.is;
          fits = subst (λ (k : LocalRow). AreOf (units_in c.program k.ty) v) row fits;
          holds = subst (λ i. Holds now (home c i) v) (sym same) holds;
        }

    there : (m : ℕ) (k : LocalRow) → IsLocal c m k → (m ≡ n → ⊥) → HoldsLocal c m k (with_local n v env) now
    there m k y other =
        let held = vars.locals m k y in
        let lx = length_of _ _ held.fits in let lv = length_of _ _ fits in
        record {
          value = held.value;
          is = set_other env.locals n m v other ∙ held.is;
          fits = held.fits;
          holds = holds_outside held.value (home c m) (home c n) (length v) now old
              (⊎_elim (λ a. inl (omega (arith, a, lx))) (λ a. inr (omega (arith, a, lv))) (c.homes.apart m n k l y x other)) o held.holds;
        }

-- ---- where a value is wanted

-- in the first free slots, or in the home of a local; one word in any slot before these
pub data Dest (c : Scene) (n dest to : ℕ) : Type 0 where
  free : dest ≡ to → Dest c n dest to
  local : (m : ℕ) (l : LocalRow) → IsLocal c m l → dest ≡ home c m → length (units_in c.program l.ty) ≡ n → Dest c n dest to
  lone : n ≡ 1 → dest < to → Dest c n dest to

-- below `to` only the slots where it comes to stand are others
abbrev pub Put : (n dest to : ℕ) → Slots → Slots → Type 0
Put n dest to now was = (i : ℕ) → i < to → (i < dest) ⊎ (dest + n ≤ i) → now i ≡ was i

pub put_outside_is : (n dest to : ℕ) (now was : Slots) → Outside dest n now was → Put n dest to now was
put_outside_is n dest to now was o i lt a = o i a

-- in the first free slots: nothing below is another
pub put_free : (n dest to : ℕ) (now was : Slots) → dest ≡ to → Put n dest to now was → Below to now was
put_free n dest to now was e h i lt = h i lt (inl (omega (arith, e, lt)))
