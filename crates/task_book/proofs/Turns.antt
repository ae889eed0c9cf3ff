-- Which proc goes next.
use Rattle.std.proofs.Common.{◌≡◌, ◌≢◌, ℕ, zero, suc, ◌+◌, ◌<◌, Bool, true, false, ◌&&◌, not, ◌==◌, List, [], ◌∷◌, length, get_or, refl, sym, ap, ◌∙◌, arith, ◌⊎◌, inl, inr, cond, Option, Some, None}
use Rattle.std.specs.Prelude.{is_some, is_none, IsSomeAnd, IfNone, All, nat_lt}
use Rattle.std.proofs.lemmas.Option.{same_Some}
use Rattle.std.proofs.lemmas.Bool.Decides.{eqb_tells, nat_tests}
use Rattle.task_book.specs.declared.proc.Proc.{Proc}
use Rattle.task_book.specs.declared.proc.Task.{Task}
use Rattle.task_book.specs.Procs.{proc_at, runs}
use Rattle.task_book.specs.Table.{at, can_run, is_away}
use Rattle.task_book.specs.Kept.{IsKept}
use Rattle.task_book.proofs.Views.{first_view, first_none}
use Rattle.task_book.proofs.Seen.{seen, privates_seen, get_privates, live_seen}
use Rattle.task_book.proofs.Harts.{away_known}

-- one more that can't run
pub one_more_not : (rs : List Proc) (i : ℕ) (r : Proc) → ((k : ℕ) (d : Proc) → k < i → runs (get_or rs k d) ≡ false) → i < length rs → r ≡ get_or rs i r → runs r ≡ false → (k : ℕ) (d : Proc) → k < i + 1 → runs (get_or rs k d) ≡ false
one_more_not rs i r before lt e not k d within = on (eqb_tells k i)
  where
    same : (xs : List Proc) (j : ℕ) (a b : Proc) → j < length xs → get_or xs j a ≡ get_or xs j b
    same [] j a b l = absurd (omega arith)
    same (x ∷ xs) zero a b l = refl
    same (x ∷ xs) (suc j) a b l = same xs j a b (omega arith)

    on : (((k == i) ≡ true) × (k ≡ i)) ⊎ (((k == i) ≡ false) × (k ≢ i)) → runs (get_or rs k d) ≡ false
    on (inl f) = ap (λ j. runs (get_or rs j d)) f.1 ∙ ap runs (same rs i d r lt ∙ sym e) ∙ not
    on (inr f) = before k d (below k i within f.1)
      where
        below : (a b : ℕ) → a < b + 1 → a ≢ b → a < b
        below zero zero l ne = absurd (ne refl)
        below zero (suc b) l ne = omega arith
        below (suc a) zero l ne = absurd (omega arith)
        below (suc a) (suc b) l ne = let m = below a b (omega arith) (λ g. ne (ap suc g)) in omega arith

all_at : (rs : List Proc) (p : ℕ) (r : Proc) → All (λ s. runs s ≡ false) rs → proc_at p rs ≡ Some r → runs r ≡ false
all_at [] p r all e = absurd (cc)
all_at (x ∷ xs) p r all e = on (x.number == p) e (all_at xs p r (λ k d lt. all (suc k) d (omega arith)))
  where
    on : (b : Bool) → cond b (Some x) (proc_at p xs) ≡ Some r → (proc_at p xs ≡ Some r → runs r ≡ false) → runs r ≡ false
    on true f later = ap runs (sym (same_Some x r f)) ∙ all 0 x (omega arith)
    on false f later = later f

pub if_none_then : {X : Type 0} (o : Option X) (P Q : Type 0) → IfNone o P → (P → Q) → IfNone o Q
if_none_then None P Q h f = f h
if_none_then (Some x) P Q h f = tt

pub none_not : {X : Type 0} (o : Option X) (b : Bool) → is_some o ≡ not b → b ≡ is_none o
none_not None true h = refl
none_not None false h = absurd (cc)
none_not (Some x) true h = absurd (cc)
none_not (Some x) false h = refl

is_first : (n head : ℕ) → is_some (cond (n == 0) None (Some head)) ≡ nat_lt 0 n
is_first zero head = refl
is_first (suc n) head = grind (arith, nat_tests)

module _ (links : List ℕ) (rs : List Proc) (tasks : List (Option Task)) (free : List ℕ) (made ready : ℕ) (kept : IsKept links rs tasks free made ready) where
  same_test : (p : ℕ) (r : Proc) → proc_at p rs ≡ Some r → can_run (seen links rs tasks made) p ≡ runs r
  same_test p r e =
      rw (← first_view links rs made p r kept.under e, get_privates links rs tasks free made ready kept p r e, is_first r.ready.len r.ready.head) refl

  pub runs_can : (p : ℕ) → IsSomeAnd (proc_at p rs) (λ r. runs r ≡ true) → can_run (seen links rs tasks made) p ≡ true
  runs_can p h = on (proc_at p rs) refl h
    where
      on : (o : Option Proc) → proc_at p rs ≡ o → IsSomeAnd o (λ r. runs r ≡ true) → can_run (seen links rs tasks made) p ≡ true
      on None e g = absurd g
      on (Some r) e g = same_test p r e ∙ g

  pub none_can : All (λ r. runs r ≡ false) rs → (p : ℕ) → can_run (seen links rs tasks made) p ≡ false
  none_can all p = on (proc_at p rs) refl
    where
      on : (o : Option Proc) → proc_at p rs ≡ o → can_run (seen links rs tasks made) p ≡ false
      on None e = ap (λ o. is_some o && is_some (at (privates_seen rs made) p)) (first_none links rs made p e)
      on (Some r) e = same_test p r e ∙ all_at rs p r all e

  -- ---- is a proc away

  pub away_seen : (p : ℕ) (r : Proc) → proc_at p rs ≡ Some r → is_away (seen links rs tasks made) p ≡ is_none r.privates
  away_seen p r e =
      rw (live_seen links rs tasks free made ready kept p r e, get_privates links rs tasks free made ready kept p r e) (some_live r.live (kept.good p r e).some (is_none r.privates))
    where
      some_live : (n : ℕ) → 0 < n → (b : Bool) → (nat_lt 0 n && b) ≡ b
      some_live n lt true = grind (arith, nat_tests)
      some_live n lt false = grind (arith, nat_tests)

  pub none_away : (p : ℕ) → proc_at p rs ≡ None → is_away (seen links rs tasks made) p ≡ false
  none_away p e = on (is_away (seen links rs tasks made) p) refl
    where
      on : (b : Bool) → is_away (seen links rs tasks made) p ≡ b → b ≡ false
      on false f = refl
      on true f = absurd (let g = sym (ap is_some e) ∙ away_known links rs tasks free made ready kept p f in cc)
