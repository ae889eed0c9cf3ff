-- Procs that start one after another.
use Rattle.std.proofs.Common.{◌≡◌, ◌≢◌, ℕ, suc, ◌+◌, List, [], ◌∷◌, ◌++◌, length, Option, Some, option_and_then, refl, sym, ap, ◌∙◌, subst, true, false, arith, length-append, zero-add}
use Rattle.std.specs.Prelude.{slice_set, is_some}
use Rattle.std.proofs.lemmas.List.Sums.{sum_by-append}
use Rattle.al_event.specs.declared.act.Start.{Start}
use Rattle.rv_isa.specs.declared.image.Contents.{Contents}
use Rattle.al_world.specs.Procs.{ProcState, first_ready, first_of, live_tasks, new_proc}
use Rattle.rv_exec.specs.declared.run.Hart.{Hart as HartFields}
use Rattle.rv_exec.specs.declared.run.Privates.{Privates as PrivatesFields}
use Rattle.task_book.specs.Table.{Table, TaskState, lives, home_of, is_away}
use Rattle.task_book.specs.Starting.{StartsProc}
use Rattle.al_core.specs.declared.order.Begun.{Begun}
use Rattle.al_core.specs.Acting.{BeginBranches}
use Rattle.al_core.specs.Preparing.{IsBegun, AreBegun, StartsAll}
use Rattle.al_core.proofs.Tables.{lives-filled-other, home-filled-other}
use Rattle.al_core.proofs.Beginning.{get_append_left, first_within}
use Rattle.al_core.proofs.Branching.{length-set, away-more}

-- what begins of what was made
pub begin_all : (image : Contents) (slot : ℕ) (starts : List Start) (all : List Begun) (s after : Table) → AreBegun image starts all → StartsAll slot all s after → BeginBranches image slot starts s after
begin_all image slot [] [] s after a b = b
begin_all image slot [] (x ∷ xs) s after a b = absurd a
begin_all image slot (t ∷ ts) [] s after a b = absurd a
begin_all image slot (t ∷ ts) (x ∷ xs) s after a b =
    (b.0, record { hart = x.hart; privates = x.privates; hart_is = a.0.hart; bytes_are = a.0.bytes; zeros = a.0.zeros; begins = b.1 }, begin_all image slot ts xs b.0 after a.1 b.2)

pub same_count : (image : Contents) (starts : List Start) (all : List Begun) → AreBegun image starts all → length starts ≡ length all
same_count image [] [] a = refl
same_count image [] (x ∷ xs) a = absurd a
same_count image (t ∷ ts) [] a = absurd a
same_count image (t ∷ ts) (x ∷ xs) a = ap suc (same_count image ts xs a.1)

-- one more at the end
pub starts_more : (slot : ℕ) (all : List Begun) (x : Begun) (s between after : Table) → StartsAll slot all s between → StartsProc (Some slot) x.hart x.privates (length between.procs) between after → StartsAll slot (all ++ x ∷ []) s after
starts_more slot [] x s between after a b = subst (λ s. StartsAll slot (x ∷ []) s after) a (after, b, refl)
starts_more slot (y ∷ ys) x s between after a b = (a.0, a.1, starts_more slot ys x a.0 between after a.2 b)

pub begun_more : (image : Contents) (starts : List Start) (all : List Begun) (t : Start) (x : Begun) → AreBegun image starts all → IsBegun image t x → AreBegun image (starts ++ t ∷ []) (all ++ x ∷ [])
begun_more image [] [] t x a b = (b, tt)
begun_more image [] (y ∷ ys) t x a b = absurd a
begun_more image (u ∷ us) [] t x a b = absurd a
begun_more image (u ∷ us) (y ∷ ys) t x a b = (a.0, begun_more image us ys t x a.1 b)

-- ---- what stays

live-append : (xs : List (ProcState ℕ)) (x : ProcState ℕ) → live_tasks (xs ++ x ∷ []) ≡ live_tasks xs + x.live
live-append xs x = sum_by-append (λ (q : ProcState ℕ). q.live) xs (x ∷ []) ∙ ap (λ n. live_tasks xs + n) (zero-add x.live)

-- the table after so many starts, beside the one before
pub record IsGrown (slot count : ℕ) (s t : Table) : Type 0 where
  pub procs : length t.procs ≡ length s.procs + count
  pub live : live_tasks t.procs ≡ live_tasks s.procs + count
  pub tasks : length t.tasks ≡ length s.tasks
  pub places : length t.privates ≡ length t.procs
  pub lives : lives t slot ≡ true
  pub home : home_of t slot ≡ home_of s slot
  pub first : first_ready t.procs (home_of t slot) ≡ Some slot
  pub away : is_away t (home_of t slot) ≡ false

pub grown_none : (slot : ℕ) (s : Table) → length s.privates ≡ length s.procs → lives s slot ≡ true → first_ready s.procs (home_of s slot) ≡ Some slot → is_away s (home_of s slot) ≡ false → IsGrown slot 0 s s
grown_none slot s r l f a = record { procs = omega arith; live = omega arith; tasks = refl; places = r; lives = l; home = refl; first = f; away = a }

pub grown_one : (slot count : ℕ) (hart : HartFields) (privates : PrivatesFields) (s t after : Table) → IsGrown slot count s t → StartsProc (Some slot) hart privates (length t.procs) t after → IsGrown slot (count + 1) s after
grown_one slot count hart privates s t after g b =
    subst (IsGrown slot (count + 1) s) (sym b.table) (record {
      procs = let l = length-append t.procs (mine ∷ []) in let c = g.procs in omega (arith, l, c);
      live = let l = live-append t.procs mine in let c = g.live in omega (arith, l, c);
      tasks = length-set t.tasks b.slot _ ∙ g.tasks;
      places = let l = length-append t.procs (mine ∷ []) in let k = length-append t.privates (Some privates ∷ []) in let c = g.places in omega (arith, l, k, c);
      lives = lives-filled-other t b.slot (Some task) slot other ∙ g.lives;
      home = home_is ∙ g.home;
      first = ap (first_ready (t.procs ++ mine ∷ [])) home_is ∙ ap (option_and_then (λ (q : ProcState ℕ). first_of q.ready)) (get_append_left t.procs mine (home_of t slot) (first_within t.procs (home_of t slot) slot g.first)) ∙ g.first;
      away = ap (is_away grown) home_is ∙ away-more t mine privates (slice_set t.tasks b.slot (Some task)) g.places (home_of t slot) ∙ g.away;
    })
  where
    mine : ProcState ℕ
    mine = new_proc (Some slot) b.slot

    task : TaskState
    task = record { home = length t.procs; hart = Some hart }

    grown : Table
    grown = record { procs = t.procs ++ mine ∷ []; tasks = slice_set t.tasks b.slot (Some task); privates = t.privates ++ Some privates ∷ [] }

    other : slot ≢ b.slot
    other e = let no = sym g.lives ∙ ap (lives t) e ∙ ap (λ (o : Option (Option TaskState)). is_some (option_and_then (λ o. o) o)) b.unused in cc

    home_is : home_of grown slot ≡ home_of t slot
    home_is = home-filled-other t b.slot (Some task) slot other

-- after all of them
pub grown_all : (slot : ℕ) (all : List Begun) (count : ℕ) (s t after : Table) → IsGrown slot count s t → StartsAll slot all t after → (k : ℕ) × IsGrown slot k s after
grown_all slot [] count s t after g a = (count, subst (IsGrown slot count s) (sym a) g)
grown_all slot (x ∷ xs) count s t after g a =
    grown_all slot xs (count + 1) s a.0 after (grown_one slot count x.hart x.privates s t a.0 g a.1) a.2
