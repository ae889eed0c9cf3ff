-- A table without tasks.
use Rattle.std.proofs.Common.{◌≡◌, ◌≢◌, ℕ, zero, suc, ◌+◌, ◌<◌, ◌≤◌, true, false, List, [], ◌∷◌, ◌++◌, length, replicate, map, refl, sym, ap, ◌∙◌, arith, Option, Some, None, slice_get}
use Rattle.std.specs.List.{AllByRecursion, range_with_len}
use Rattle.std.proofs.lemmas.List.{length-replicate}
use Rattle.std.proofs.lemmas.List.FromFn.{length-range_with_len}
use Rattle.std.proofs.lemmas.Option.{same_Some}
use Rattle.task_book.specs.declared.proc.Task.{Task}
use Rattle.task_book.specs.Queues.{has, are_different}
use Rattle.task_book.specs.Homes.{homes_of, home_at}
use Rattle.task_book.specs.Kept.{IsKept, task_of}
use Rattle.task_book.proofs.Queueing.{eqb_not}

abbrev pub nothing : Option Task
nothing = None

pub range_more : (a n m : ℕ) → a + n ≡ m → range_with_len a (suc n) ≡ range_with_len a n ++ m ∷ []
range_more a zero m e = (let f : a ≡ m = omega (arith, e) in ap (λ x. x ∷ []) f)
range_more a (suc n) m e = ap (λ xs. a ∷ xs) (range_more (a + 1) n m (omega (arith, e)))

pub range_next : (n : ℕ) → range_with_len 0 (n + 1) ≡ range_with_len 0 n ++ n ∷ []
range_next n = (let e : n + 1 ≡ suc n = omega arith in ap (range_with_len 0) e) ∙ range_more 0 n n (omega arith)

get_none : (n t : ℕ) → t < n → slice_get (replicate n nothing) t ≡ Some None
get_none zero t lt = absurd (omega arith)
get_none (suc n) zero lt = refl
get_none (suc n) (suc t) lt = get_none n t (omega arith)

no_task : (n t : ℕ) (x : Task) → slice_get (replicate n None) t ≢ Some (Some x)
no_task zero t x e = absurd (cc)
no_task (suc n) zero x e = absurd (let f = same_Some None (Some x) e in cc)
no_task (suc n) (suc t) x e = no_task n t x e

no_home : (n t p : ℕ) → home_at (homes_of (replicate n None)) t ≢ Some p
no_home zero t p e = absurd (cc)
no_home (suc n) zero p e = absurd (cc)
no_home (suc n) (suc t) p e = no_home n t p e

all_free : (most a n : ℕ) → a + n ≤ most → AllByRecursion (λ t. slice_get (replicate most nothing) t ≡ Some None) (range_with_len a n)
all_free most a zero le = tt
all_free most a (suc n) le = (get_none most a (omega arith), all_free most (a + 1) n (omega arith))

has_not : (x a n : ℕ) → x < a → has x (range_with_len a n) ≡ false
has_not x a zero lt = refl
has_not x a (suc n) lt = rw (eqb_not a x (λ e. absurd (omega arith)), has_not x (a + 1) n (omega arith)) refl

differ : (a n : ℕ) → are_different (range_with_len a n) ≡ true
differ a zero = refl
differ a (suc n) = rw (has_not a (a + 1) n (omega arith), differ (a + 1) n) refl

pub seen_empty : (n : ℕ) → map task_of (replicate n None) ≡ replicate n None
seen_empty zero = refl
seen_empty (suc n) = ap (λ xs. None ∷ xs) (seen_empty n)

pub empty_kept : (links : List ℕ) (most : ℕ) → most < 4294967296 → length links ≡ most → IsKept links [] (replicate most None) (range_with_len 0 most) 0 0
empty_kept links most small size = record {
  rising = tt;
  under = tt;
  size = size ∙ sym (length-replicate most nothing);
  small = rw (length-replicate most nothing) small;
  good = λ p r e. absurd (cc);
  known = λ t p e. absurd (no_home most t p e);
  harts = λ t x e. absurd (no_task most t x e);
  branches = λ t x e. absurd (no_task most t x e);
  used = let e : 0 + length (range_with_len 0 most) ≡ length (replicate most nothing) = omega (arith, length-range_with_len 0 most, length-replicate most nothing) in e;
  total = let e : 0 + length (range_with_len 0 most) ≡ length (replicate most nothing) = omega (arith, length-range_with_len 0 most, length-replicate most nothing) in e;
  sum = refl;
  unused = all_free most 0 most (omega arith);
  different = differ 0 most;
}
