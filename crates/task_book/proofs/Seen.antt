-- What callers see of a table, in terms of how it is kept.
use Rattle.std.proofs.Common.{◌≡◌, ◌≢◌, ℕ, zero, suc, ◌<◌, ◌≤◌, Bool, true, false, ◌==◌, ◌&&◌, List, map, set, refl, sym, ap, ◌∙◌, arith, ◌⊎◌, inl, inr, cond, Option, Some, None, slice_get}
use Rattle.std.specs.Prelude.{is_some, IsSome, nat_lt, option_and_then}
use Rattle.std.proofs.lemmas.Option.{same_Some, slice_get_past}
use Rattle.std.proofs.lemmas.Bool.Decides.{eqb_tells, nat_tests}
use Rattle.std.proofs.lemmas.Bool.{cases_lt}
use Rattle.al_world.specs.Procs.{ProcState, first_ready}
use Rattle.rv_exec.specs.declared.run.Privates.{Privates}
use Rattle.task_book.specs.declared.proc.Proc.{Proc}
use Rattle.task_book.specs.declared.proc.Task.{Task}
use Rattle.task_book.specs.declared.queue.Queue.{Queue}
use Rattle.task_book.specs.Queues.{slots_of, first_in}
use Rattle.task_book.specs.Procs.{proc_at, IsRising}
use Rattle.task_book.specs.Homes.{homes_of, home_at}
use Rattle.task_book.specs.Table.{Table, TaskState, at, lives, home_of, is_away, live_of, ready_of}
use Rattle.task_book.specs.Kept.{IsKept, listed, procs_of, state_of, privates_of, task_of}
use Rattle.task_book.proofs.Places.{at_index, at_set_same, at_set_other}
use Rattle.task_book.proofs.Tables.{listed_same, listed_set, get-listed, length-listed}
use Rattle.task_book.proofs.Views.{at_number, number_under, get_proc, first_view, home_seen}

abbrev pub privates_seen : List Proc → ℕ → List (Option Privates)
privates_seen rs made = listed (λ n. privates_of (proc_at n rs)) made

abbrev pub seen : List ℕ → List Proc → List (Option Task) → ℕ → Table
seen links rs tasks made = record { procs = procs_of links rs made; tasks = map task_of tasks; privates = privates_seen rs made }

pub same_table : (a b : List (ProcState ℕ)) (c d : List (Option TaskState)) (e f : List (Option Privates)) → a ≡ b → c ≡ d → e ≡ f → ◌≡◌ {A = Table} (record { procs = a; tasks = c; privates = e }) (record { procs = b; tasks = d; privates = f })
same_table a b c d e f p q r = λ i. record { procs = p i; tasks = q i; privates = r i }

pub first_some : (q : Queue) (t : ℕ) → first_in q ≡ Some t → (0 < q.len) × (q.head ≡ t)
first_some q t e = on (q.len == 0) (eqb_tells q.len 0) e
  where
    on : (b : Bool) → ((b ≡ true) × (q.len ≡ 0)) ⊎ ((b ≡ false) × (q.len ≢ 0)) → cond b None (Some q.head) ≡ Some t → (0 < q.len) × (q.head ≡ t)
    on true k e = absurd (cc)
    on false (inr k) e = (positive q.len k.1, same_Some q.head t e)
      where
        positive : (n : ℕ) → n ≢ 0 → 0 < n
        positive zero ne = absurd (ne refl)
        positive (suc n) ne = omega arith
    on false (inl k) e = absurd (let a = k.0 in cc)

-- private globals of one proc
pub privates_set : (rs : List Proc) (made i : ℕ) (r s : Proc) → IsRising 0 rs → slice_get rs i ≡ Some r → s.number ≡ r.number → privates_seen (set rs i s) made ≡ set (privates_seen rs made) r.number s.privates
privates_set rs made i r s rising e n =
    listed_set (λ m. privates_of (proc_at m rs)) (λ m. privates_of (proc_at m (set rs i s))) s.privates made r.number
    (ap privates_of (at_set_same rs 0 i r s rising e n))
    (λ m ne. ap privates_of (at_set_other rs i m r s e n ne))

pub privates_stay : (rs : List Proc) (made i : ℕ) (r s : Proc) → IsRising 0 rs → slice_get rs i ≡ Some r → s.number ≡ r.number → s.privates ≡ r.privates → privates_seen (set rs i s) made ≡ privates_seen rs made
privates_stay rs made i r s rising e n same = listed_same (λ m. privates_of (proc_at m (set rs i s))) (λ m. privates_of (proc_at m rs)) made (λ m. on m (eqb_tells m r.number))
  where
    on : (m : ℕ) → (((m == r.number) ≡ true) × (m ≡ r.number)) ⊎ (((m == r.number) ≡ false) × (m ≢ r.number)) → privates_of (proc_at m (set rs i s)) ≡ privates_of (proc_at m rs)
    on m (inl k) = ap (λ p. privates_of (proc_at p (set rs i s))) k.1 ∙ ap privates_of (at_set_same rs 0 i r s rising e n) ∙ same ∙ ap privates_of (sym (at_index rs 0 i r rising e)) ∙ ap (λ p. privates_of (proc_at p rs)) (sym k.1)
    on m (inr k) = ap privates_of (at_set_other rs i m r s e n k.1)

module _ (links : List ℕ) (rs : List Proc) (tasks : List (Option Task)) (free : List ℕ) (made ready : ℕ) (kept : IsKept links rs tasks free made ready) where
  T : Table
  T = seen links rs tasks made

  pub get_privates : (p : ℕ) (r : Proc) → proc_at p rs ≡ Some r → at (privates_seen rs made) p ≡ r.privates
  get_privates p r e =
      ap (option_and_then (λ o. o)) (get-listed (λ n. privates_of (proc_at n rs)) made p (number_under rs made p r kept.under e)) ∙ ap privates_of e

  pub ready_seen : (p : ℕ) (r : Proc) → proc_at p rs ≡ Some r → ready_of (seen links rs tasks made) p ≡ slots_of links r.ready
  ready_seen p r e = rw (get_proc links rs made p r kept.under e) refl

  pub live_seen : (p : ℕ) (r : Proc) → proc_at p rs ≡ Some r → live_of (seen links rs tasks made) p ≡ r.live
  live_seen p r e = rw (get_proc links rs made p r kept.under e) refl

  -- a proc with live tasks is there
  pub live_known : (p : ℕ) → 0 < live_of (seen links rs tasks made) p → IsSome (proc_at p rs)
  live_known p h = on (proc_at p rs) refl
    where
      dead : proc_at p rs ≡ None → (p < made) ⊎ (made ≤ p) → live_of (seen links rs tasks made) p ≡ 0
      dead e (inl lt) = rw (get-listed (λ n. state_of links (proc_at n rs)) made p lt, e) refl
      dead e (inr le) = rw (slice_get_past (procs_of links rs made) p (rw (length-listed (λ n. state_of links (proc_at n rs)) made) le)) refl

      on : (o : Option Proc) → proc_at p rs ≡ o → IsSome o
      on None e = absurd (let z = dead e (cases_lt p made) in omega arith)
      on (Some r) e = refl

  -- where a task is
  pub record IsHome (t n i : ℕ) (r : Proc) : Type 0 where
    pub at_home : home_at (homes_of tasks) t ≡ Some n
    pub here : slice_get rs i ≡ Some r
    pub at_number : proc_at n rs ≡ Some r
    pub number : r.number ≡ n
    pub home : r.number ≡ home_of (seen links rs tasks made) t

  pub lives_home : (t : ℕ) → lives (seen links rs tasks made) t ≡ true → IsSome (home_at (homes_of tasks) t)
  lives_home t h = ap is_some (home_seen tasks t h)

  pub is_home : (t n i : ℕ) (r : Proc) → lives (seen links rs tasks made) t ≡ true → home_at (homes_of tasks) t ≡ Some n → slice_get rs i ≡ proc_at n rs → slice_get rs i ≡ Some r → IsHome t n i r
  is_home t n i r h e there is =
      let found : proc_at n rs ≡ Some r = sym there ∙ is in
      let number : r.number ≡ n = at_number rs n r found in
      record {
        at_home = e;
        here = is;
        at_number = found;
        number = number;
        home = number ∙ same_Some n _ (sym e ∙ home_seen tasks t h);
      }

  pub first_has : (t n i : ℕ) (r : Proc) → IsHome t n i r → first_ready (procs_of links rs made) (home_of (seen links rs tasks made) t) ≡ Some t → (0 < r.ready.len) × (r.ready.head ≡ t)
  first_has t n i r h first =
      first_some r.ready t (first_view links rs made n r kept.under h.at_number ∙ ap (first_ready (procs_of links rs made)) (sym h.number ∙ h.home) ∙ first)

  pub not_away : (p : ℕ) (r : Proc) → proc_at p rs ≡ Some r → is_away (seen links rs tasks made) p ≡ false → r.privates ≢ None
  not_away p r e here none =
      let good = kept.good p r e in
      let live : live_of (seen links rs tasks made) p ≡ r.live = rw (get_proc links rs made p r kept.under e) refl in
      let away : is_away (seen links rs tasks made) p ≡ true = rw (live, get_privates p r e, none) (some_live r.live good.some) in
      absurd (cc)
    where
      some_live : (n : ℕ) → 0 < n → nat_lt 0 n && true ≡ true
      some_live n lt = grind (arith, nat_tests)
