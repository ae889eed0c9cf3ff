-- Tables after a change of one task.
use Rattle.std.proofs.Common.{◌≡◌, ◌≢◌, ℕ, zero, suc, ◌<◌, List, [], ◌∷◌, length, Option, Some, None, option_map, option_and_then, refl, sym, ap, ◌∙◌, subst, true, false, arith}
use Rattle.std.proofs.lemmas.Bool.Decides.{eqb_tells}
use Rattle.std.proofs.Common.{◌==◌, ◌⊎◌, inl, inr}
use Rattle.std.specs.Prelude.{slice_get, slice_set, is_some}
use Rattle.std.specs.Option.{option_map_or}
use Rattle.al_world.specs.Channels.{changed_at}
use Rattle.al_world.proofs.Maps.{get-changed-same, get-changed-other}
use Rattle.rv_exec.specs.declared.run.Hart.{Hart}
use Rattle.task_book.specs.Table.{Table, TaskState, at, lives, home_of, hart_of}
use Rattle.task_book.specs.Lending.{re_harted}

-- ---- lists

pub get-set-same : {X : Type 0} (xs : List X) (k : ℕ) (x : X) → k < length xs → slice_get (slice_set xs k x) k ≡ Some x
get-set-same [] k x lt = absurd (omega (arith, lt))
get-set-same (y ∷ ys) zero x lt = refl
get-set-same (y ∷ ys) (suc k) x lt = get-set-same ys k x (omega (arith, lt))

pub get-set-other : {X : Type 0} (xs : List X) (k j : ℕ) (x : X) → j ≢ k → slice_get (slice_set xs k x) j ≡ slice_get xs j
get-set-other [] k j x ne = refl
get-set-other (y ∷ ys) zero zero x ne = absurd (ne refl)
get-set-other (y ∷ ys) zero (suc j) x ne = refl
get-set-other (y ∷ ys) (suc k) zero x ne = refl
get-set-other (y ∷ ys) (suc k) (suc j) x ne = get-set-other ys k j x (λ e. ne (ap suc e))

abbrev flat : {X : Type 0} → Option (Option X) → Option X
flat o = option_and_then (λ o. o) o

pub at-set-same : {X : Type 0} (xs : List (Option X)) (k : ℕ) (x : Option X) → k < length xs → at (slice_set xs k x) k ≡ x
at-set-same xs k x lt = ap flat (get-set-same xs k x lt)

pub at-set-other : {X : Type 0} (xs : List (Option X)) (k j : ℕ) (x : Option X) → j ≢ k → at (slice_set xs k x) j ≡ at xs j
at-set-other xs k j x ne = ap flat (get-set-other xs k j x ne)

-- ---- another hart

pub at-harted-same : (tasks : List (Option TaskState)) (t : ℕ) (h : Option Hart) → at (changed_at t (re_harted h) tasks) t ≡ re_harted h (at tasks t)
at-harted-same tasks t h = ap flat (get-changed-same t (re_harted h) tasks) ∙ on (slice_get tasks t)
  where
    on : (o : Option (Option TaskState)) → flat (option_map (re_harted h) o) ≡ re_harted h (flat o)
    on None = refl
    on (Some o) = refl

pub at-harted-other : (tasks : List (Option TaskState)) (t u : ℕ) (h : Option Hart) → u ≢ t → at (changed_at t (re_harted h) tasks) u ≡ at tasks u
at-harted-other tasks t u h ne = ap flat (get-changed-other t u (re_harted h) tasks ne)

abbrev pub hart_in : Option TaskState → Option Hart
hart_in o = option_and_then (λ (x : TaskState). x.hart) o

abbrev pub home_in : Option TaskState → ℕ
home_in o = option_map_or (λ (x : TaskState). x.home) o 0

some-harted : (o : Option TaskState) (h : Option Hart) → is_some (re_harted h o) ≡ is_some o
some-harted None h = refl
some-harted (Some x) h = refl

home-harted : (o : Option TaskState) (h : Option Hart) → home_in (re_harted h o) ≡ home_in o
home-harted None h = refl
home-harted (Some x) h = refl

hart-harted : (o : Option TaskState) (h : Option Hart) → is_some o ≡ true → hart_in (re_harted h o) ≡ h
hart-harted None h e = absurd (cc)
hart-harted (Some x) h e = refl

-- with another hart a task lives in the same proc
module _ (s : Table) (t : ℕ) (h : Option Hart) where
  abbrev pub harted : Table
  harted = record s { tasks = changed_at t (re_harted h) s.tasks }

  pub lives-harted : (u : ℕ) → lives harted u ≡ lives s u
  lives-harted u = on (eqb_tells u t)
    where
      on : ((u == t ≡ true) × (u ≡ t)) ⊎ ((u == t ≡ false) × (u ≢ t)) → lives harted u ≡ lives s u
      on (inl e) = subst (λ u. lives harted u ≡ lives s u) (sym e.1) (ap is_some (at-harted-same s.tasks t h) ∙ some-harted (at s.tasks t) h)
      on (inr e) = ap is_some (at-harted-other s.tasks t u h e.1)

  pub home-harted_of : (u : ℕ) → home_of harted u ≡ home_of s u
  home-harted_of u = on (eqb_tells u t)
    where
      on : ((u == t ≡ true) × (u ≡ t)) ⊎ ((u == t ≡ false) × (u ≢ t)) → home_of harted u ≡ home_of s u
      on (inl e) = subst (λ u. home_of harted u ≡ home_of s u) (sym e.1) (ap home_in (at-harted-same s.tasks t h) ∙ home-harted (at s.tasks t) h)
      on (inr e) = ap home_in (at-harted-other s.tasks t u h e.1)

  pub hart-harted-same : lives s t ≡ true → hart_of harted t ≡ h
  hart-harted-same l = ap hart_in (at-harted-same s.tasks t h) ∙ hart-harted (at s.tasks t) h l

  pub hart-harted-other : (u : ℕ) → u ≢ t → hart_of harted u ≡ hart_of s u
  hart-harted-other u ne = ap hart_in (at-harted-other s.tasks t u h ne)

-- a slot has another task, or none
module _ (s : Table) (t : ℕ) (x : Option TaskState) where
  abbrev pub filled : Table
  filled = record s { tasks = slice_set s.tasks t x }

  pub lives-filled-same : t < length s.tasks → lives filled t ≡ is_some x
  lives-filled-same lt = ap is_some (at-set-same s.tasks t x lt)

  pub lives-filled-other : (u : ℕ) → u ≢ t → lives filled u ≡ lives s u
  lives-filled-other u ne = ap is_some (at-set-other s.tasks t u x ne)

  pub home-filled-same : t < length s.tasks → home_of filled t ≡ home_in x
  home-filled-same lt = ap home_in (at-set-same s.tasks t x lt)

  pub home-filled-other : (u : ℕ) → u ≢ t → home_of filled u ≡ home_of s u
  home-filled-other u ne = ap home_in (at-set-other s.tasks t u x ne)

  pub hart-filled-same : t < length s.tasks → hart_of filled t ≡ hart_in x
  hart-filled-same lt = ap hart_in (at-set-same s.tasks t x lt)

  pub hart-filled-other : (u : ℕ) → u ≢ t → hart_of filled u ≡ hart_of s u
  hart-filled-other u ne = ap hart_in (at-set-other s.tasks t u x ne)

-- a task whose hart is here lives
pub hart_lives : (s : Table) (t : ℕ) (h : Hart) → hart_of s t ≡ Some h → lives s t ≡ true
hart_lives s t h e = on (at s.tasks t) e
  where
    on : (o : Option TaskState) → hart_in o ≡ Some h → is_some o ≡ true
    on None e = absurd (cc)
    on (Some x) e = refl
