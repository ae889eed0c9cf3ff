-- The first world stands for the run without entries.
use Rattle.std.proofs.Common.{◌≡◌, ◌≢◌, ℕ, zero, suc, ◌*◌, ◌^◌, ◌≤◌, List, [], ◌∷◌, length, replicate, Option, Some, None, option_and_then, refl, sym, ap, ap₂, ◌∙◌, subst, true, false, ◌==◌, ◌||◌, ◌⊎◌, inl, inr, take, arith}
use Rattle.std.specs.Prelude.{slice_get, slice_set, slice_index_or, is_some}
use Rattle.std.specs.List.{list_any}
use Rattle.std.specs.Option.{option_map_or}
use Rattle.std.proofs.lemmas.List.{length-replicate}
use Rattle.std.proofs.lemmas.Bool.{and_parts}
use Rattle.std.proofs.lemmas.Bool.Decides.{eqb_tells}
use Rattle.al_base.specs.declared.over.Over.{Over}
use Rattle.al_event.specs.declared.entry.Loan.{Loan}
use Rattle.al_event.specs.Store.{Live}
use Rattle.al_world.specs.Channels.{Book}
use Rattle.al_world.specs.Procs.{most_tasks, new_proc}
use Rattle.al_world.specs.World.{TaskName, TalkName, Shared, Held, Absent, Goes, World, at_task, at_proc}
use Rattle.al_world.specs.Actions.{first_task}
use Rattle.al_world.specs.Step.{with_globals, opening_shared, opening_with, opening as world_opening}
use Rattle.rv_isa.specs.declared.image.Contents.{Contents}
use Rattle.rv_isa.specs.declared.image.Row.{Row}
use Rattle.rv_isa.specs.Image.{IsWithin, is_within, is_main}
use Rattle.rv_exec.specs.declared.run.Hart.{Hart as HartFields}
use Rattle.rv_exec.specs.Hart.{Hart}
use Rattle.rv_exec.specs.Machine.{machine}
use Rattle.task_book.specs.Table.{Table, TaskState, at, lives, hart_of, is_away as is_away_in}
use Rattle.task_book.specs.Starting.{empty}
use Rattle.al_core.specs.Opening.{globals_of, main_of, zeros_for}
use Rattle.al_core.specs.FirstTask.{BeginsMain}
use Rattle.al_core.specs.History.{opening, no_loans}
use Rattle.al_core.specs.Stands.{Parts, Stands, IsNamed, AreHere, AreTasks}
use Rattle.al_core.proofs.Beginning.{Began, proc_begins}
use Rattle.al_core.proofs.Main.{main_row}

-- ---- a table without tasks

at_none : {X : Type 0} (n t : ℕ) → at (replicate n (let o : Option X = None in o)) t ≡ None
at_none zero t = refl
at_none (suc n) zero = refl
at_none (suc n) (suc t) = at_none n t

no_task : (t : ℕ) → at (empty most_tasks).tasks t ≡ None
no_task t = at_none most_tasks t

no_life : (t : ℕ) → lives (empty most_tasks) t ≡ true → ⊥
no_life t l = let e = ap (λ (o : Option TaskState). is_some o) (no_task t) in let no = sym e ∙ l in cc

no_hart : (t : ℕ) (h : HartFields) → hart_of (empty most_tasks) t ≡ Some h → ⊥
no_hart t h l = let e = ap (option_and_then (λ (x : TaskState). x.hart)) (no_task t) in let no = sym e ∙ l in cc

abbrev no_book : {N : Type 0} → Book N
no_book = record { channels = []; waiting = [] }

abbrev main_name : ℕ → TalkName
main_name slot = record { task = first_task 0; entry = 0 }

empty_named : IsNamed no_book [] (λ _. 0) main_name no_book (empty most_tasks)
empty_named = record {
  book_is = refl;
  procs_is = refl;
  apart = λ t u l m. absurd (no_life t l);
  homes = λ t l. absurd (no_life t l);
  were_started = λ t l. absurd (no_life t l);
  ready = λ p q g. absurd (cc);
  parents = λ p q u g e. absurd (cc);
  waiting = tt;
  here = λ t l e. absurd (no_life t l);
}

empty_here : (image : Contents) → AreHere image (λ _. Absent) (λ _. (machine image).fresh) main_name (empty most_tasks)
empty_here image = record {
  harts = λ t h e. absurd (no_hart t h e);
  privates_are = λ p v e. absurd (cc);
  bytes = λ p v e. absurd (cc);
}

-- ---- the task that runs main

module _ (image : Contents) (table : Table) (main : BeginsMain image table) where
  abbrev tasks : TaskName → Held Hart
  tasks = at_task (first_task 0) (Goes ((machine image).start (main_of image))) (λ _. Absent)

  began : Began image no_book (new_proc None (first_task 0) ∷ []) (at_proc 0 1 (λ _. 0)) tasks (λ _. (machine image).fresh) main_name no_book (empty most_tasks) table
  began =
      proc_begins empty_named (empty_here image) (main_of image) None main.hart main.privates table main.hart_is main.bytes_are main.zeros (λ u e. absurd (cc)) refl (λ q le. refl) refl main.begins refl

  pub main_tasks : (region : ℕ) (store : List Live) (over : Option Over) → AreTasks image (record { shared = opening_shared region store over; tasks = tasks; privates = λ _. (machine image).fresh; work = 0 }) no_book table
  main_tasks region store over = record {
    name = began.name_after;
    named = began.named;
    tasks = tasks;
    privates = λ _. (machine image).fresh;
    here = began.here;
    on_way = λ p. record { others = λ n h f. refl; rest = λ f. refl; first = λ n f. refl };
  }

  abbrev after : Table
  after = record {
    procs = new_proc None main.begins.slot ∷ [];
    tasks = slice_set (replicate most_tasks None) main.begins.slot (Some (record { home = 0; hart = Some main.hart }));
    privates = Some main.privates ∷ [];
  }

  is_after : table ≡ after
  is_after = main.begins.table

  none_away : (p : ℕ) → is_away_in table p ≡ false
  none_away p = ap (λ (s : Table). is_away_in s p) is_after ∙ on p
    where
      on : (p : ℕ) → is_away_in after p ≡ false
      on zero = refl
      on (suc p) = refl

  pub main_places : length table.privates ≡ length table.procs
  main_places = ap (λ (s : Table). length s.privates) is_after ∙ sym (ap (λ (s : Table). length s.procs) is_after)

  length_set : {X : Type 0} (xs : List X) (k : ℕ) (x : X) → length (slice_set xs k x) ≡ length xs
  length_set [] k x = refl
  length_set (y ∷ ys) zero x = refl
  length_set (y ∷ ys) (suc k) x = ap suc (length_set ys k x)

  pub main_room : length table.tasks ≡ most_tasks
  main_room =
      ap (λ (s : Table). length s.tasks) is_after ∙ length_set (replicate most_tasks None) main.begins.slot (Some (record { home = 0; hart = Some main.hart })) ∙ length-replicate most_tasks (let o : Option TaskState = None in o)

-- ---- loans

unlent : (xs : List (Option Loan)) (k : ℕ) → list_any (λ (l : Option Loan). is_some l) xs ≡ false → slice_index_or xs k None ≡ None
unlent [] k h = refl
unlent (None ∷ xs) zero h = refl
unlent (None ∷ xs) (suc k) h = unlent xs k h
unlent (Some l ∷ xs) k h = absurd (cc)

no_loan : (k : ℕ) (loan : Loan) → slice_index_or no_loans k None ≡ Some loan → ⊥
no_loan k loan e = let no = sym (unlent no_loans k refl) ∙ e in cc

-- ---- the whole

module _ (image : Contents) (region limit : ℕ) (x : Parts) where
  abbrev size : ℕ
  size = region * 2 ^ 20

  abbrev blocks : Option (List Live)
  blocks = with_globals size (globals_of image) []

  as_shared : (o : Option (List Live)) → opening_with size o ≡ opening_shared size (opening_with size o).store (opening_with size o).over
  as_shared None = refl
  as_shared (Some store) = refl

  abbrev world : World (machine image)
  world = world_opening (machine image) size (globals_of image) (main_of image)

  pub first_stands : IsWithin image → 1 ≤ region → region ≤ 256 → limit ≤ 2 ^ 26
      → x.store ≡ record { region = size; blocks = (opening_with size blocks).store } → x.over ≡ (opening_with size blocks).over
      → x.book ≡ record { room = most_tasks; book = no_book } → BeginsMain image x.table → x.output ≡ [] → x.line ≡ 0 → x.work ≡ 0 → Stands (opening image region limit) x
  first_stands within some most few store over book main output line work = record {
    limited = record {
      image = within;
      some_region = some;
      region = most;
      limit = few;
      quota = omega arith;
      entries = omega arith;
      workers = refl;
    };
    world = world;
    runs = refl;
    parts = record {
      store = store ∙ ap (λ n. record { region = n; blocks = (opening_with size blocks).store }) (sym (ap (λ (s : Shared). s.region) (as_shared blocks)));
      output = output ∙ sym (ap (λ (s : Shared). s.output) (as_shared blocks));
      dropped = omega arith;
      over = over;
      line = line ∙ sym (ap (λ (s : Shared). s.line) (as_shared blocks));
      work = work;
      little_work = omega (arith, work);
      book_room = ap (λ b. b.room) book;
      tasks_room = main_room image x.table main;
      procs_room = main_places image x.table main;
    };
    loans = record {
      lent = none_away image x.table main;
      one = λ j k a b e f g. absurd (no_loan j a e);
      since = λ k loan e. absurd (no_loan k loan e);
      still = λ k loan e. absurd (no_loan k loan e);
    };
    tasks = λ o. subst (λ b. AreTasks image world b x.table) (sym (ap (λ b. b.book) book)) (subst (λ (s : Shared). AreTasks image (record { shared = s; tasks = tasks image x.table main; privates = λ _. (machine image).fresh; work = 0 }) no_book x.table) (sym (as_shared blocks)) (main_tasks image x.table main size (opening_with size blocks).store (opening_with size blocks).over));
  }

-- ---- the words of main

abbrev two_zeros : List ℕ
two_zeros = 0 ∷ 0 ∷ []

main_zeros : (n : ℕ) → ((n == 0) || (n == 2)) ≡ true → take n two_zeros ≡ replicate n 0
main_zeros n h = on (eqb_tells n 0) (eqb_tells n 2)
  where
    on : ((n == 0 ≡ true) × (n ≡ 0)) ⊎ ((n == 0 ≡ false) × (n ≢ 0)) → ((n == 2 ≡ true) × (n ≡ 2)) ⊎ ((n == 2 ≡ false) × (n ≢ 2)) → take n two_zeros ≡ replicate n 0
    on (inl a) b = subst (λ n. take n two_zeros ≡ replicate n 0) (sym a.1) refl
    on (inr a) (inl b) = subst (λ n. take n two_zeros ≡ replicate n 0) (sym b.1) refl
    on (inr a) (inr b) = let none = ap₂ (λ x y. x || y) a.0 b.0 in let no = sym h ∙ none in absurd (cc)

pub main_words : (image : Contents) (o : Option Row) (words : ℕ) → is_within image ≡ true → o ≡ slice_get image.functions image.main → words ≡ option_map_or (λ (r : Row). r.words) o 0 → take words two_zeros ≡ (main_of image).words
main_words image o words within there is =
    on o there is (subst (λ o. is_main o ≡ true) (sym there) (main_row image (and_parts _ _ within).1))
  where
    on : (o : Option Row) → o ≡ slice_get image.functions image.main → words ≡ option_map_or (λ (r : Row). r.words) o 0 → is_main o ≡ true → take words two_zeros ≡ zeros_for (slice_get image.functions image.main)
    on None e w m = absurd (cc)
    on (Some row) e w m = ap (λ n. take n two_zeros) w ∙ main_zeros row.words m ∙ ap zeros_for e
