-- What goes out of a table, and what comes home.
use Rattle.std.proofs.Common.{◌≡◌, ◌≢◌, ℕ, zero, suc, List, [], ◌∷◌, Option, Some, None, sym, ap, ◌∙◌, subst, true, false, ◌==◌, ◌&&◌, ◌⊎◌, inl, inr}
use Rattle.std.specs.Prelude.{slice_set, nat_lt, is_none}
use Rattle.std.proofs.lemmas.Option.{same_Some}
use Rattle.std.proofs.lemmas.Bool.Decides.{eqb_tells}
use Rattle.rv_isa.specs.declared.image.Contents.{Contents}
use Rattle.al_world.specs.Channels.{Book}
use Rattle.al_world.specs.Procs.{ProcState, first_ready}
use Rattle.al_world.specs.World.{TaskName, TalkName, Held, at_task, at_proc}
use Rattle.al_world.proofs.Maps.{at_proc_cases}
use Rattle.rv_exec.specs.declared.run.Privates.{Privates as PrivatesFields}
use Rattle.rv_exec.specs.declared.run.Held.{Held as HeldFields}
use Rattle.rv_exec.specs.Hart.{Hart}
use Rattle.rv_exec.specs.Calls.{Privates}
use Rattle.rv_exec.specs.Shown.{privates_of, bytes_of}
use Rattle.task_book.specs.Table.{Table, at, lives, home_of, hart_of, live_of, is_away}
use Rattle.task_book.specs.Lending.{one_with, with_held}
use Rattle.al_core.specs.Stands.{task_at, IsNamed, HasHart, AreHere}
use Rattle.al_core.proofs.Tables.{at-set-other, harted, hart-harted-same}
use Rattle.al_core.proofs.Naming.{first_lives}
use Rattle.al_core.proofs.Holding.{harted_named, harted_here}

-- what is set in a list stands there, if there is room for it
at_set : {X : Type 0} (xs : List (Option X)) (k : ℕ) (x y : X) → at (slice_set xs k (Some x)) k ≡ Some y → x ≡ y
at_set [] k x y e = absurd (cc)
at_set (z ∷ zs) zero x y e = same_Some x y e
at_set (z ∷ zs) (suc k) x y e = at_set zs k x y e

-- the proc comes home with this hart and these private globals
module _ {tb : Book TalkName} {tp : List (ProcState TaskName)} {st : ℕ → ℕ} {name : ℕ → TalkName} {book : Book ℕ} {table : Table} (N : IsNamed tb tp st name book table) (held : HeldFields) (t : ℕ) (first : first_ready table.procs held.proc ≡ Some t) where
  abbrev p : ℕ
  p = held.proc

  -- with its hart, and then with its private globals
  abbrev pub half : Table
  half = harted table t (Some held.hart)

  pub home_is : with_held held table ≡ record half { privates = slice_set table.privates p (Some held.privates) }
  home_is =
      ap (λ l. record table { tasks = l; privates = slice_set table.privates p (Some held.privates) }) (ap (λ o. one_with o (Some held.hart) table.tasks) first)

  slot_lives : lives table t ≡ true
  slot_lives = first_lives N p t first

  half_named : IsNamed tb tp st name book half
  half_named = harted_named N t held.hart

  abbrev came : Table
  came = record half { privates = slice_set table.privates p (Some held.privates) }

  -- no other proc is less or more away
  pub away_other : (q : ℕ) → q ≢ p → is_away came q ≡ is_away table q
  away_other q ne = ap (λ (o : Option PrivatesFields). nat_lt 0 (live_of table q) && is_none o) (at-set-other table.privates p q (Some held.privates) ne)

  pub home_named : IsNamed tb tp st name book (with_held held table)
  home_named =
      subst (IsNamed tb tp st name book) (sym home_is)
      (record {
        book_is = half_named.book_is;
        procs_is = half_named.procs_is;
        apart = half_named.apart;
        homes = half_named.homes;
        were_started = half_named.were_started;
        ready = half_named.ready;
        parents = half_named.parents;
        waiting = half_named.waiting;
        here = λ u l e. here u l e (half_named.here u l e);
      })
    where
      here : (u : ℕ) → lives half u ≡ true → hart_of half u ≡ None → (is_away half (home_of half u) ≡ true) × (first_ready table.procs (home_of half u) ≡ Some u) → (is_away came (home_of half u) ≡ true) × (first_ready table.procs (home_of half u) ≡ Some u)
      here u l e x = on (eqb_tells (home_of half u) p)
        where
          mine : home_of half u ≡ p → u ≡ t
          mine h = same_Some u t (sym x.1 ∙ ap (first_ready table.procs) h ∙ first)

          on : ((home_of half u == p ≡ true) × (home_of half u ≡ p)) ⊎ ((home_of half u == p ≡ false) × (home_of half u ≢ p)) → (is_away came (home_of half u) ≡ true) × (first_ready table.procs (home_of half u) ≡ Some u)
          on (inl h) = absurd (let some = sym (hart-harted-same table t (Some held.hart) slot_lives) ∙ ap (hart_of half) (sym (mine h.1)) ∙ e in cc)
          on (inr h) = (away_other (home_of half u) h.1 ∙ x.0, x.1)

  pub home_here : (image : Contents) (T : TaskName → Held Hart) (U : ℕ → Privates) (x : Held Hart) → AreHere image T U name table → HasHart x held.hart → bytes_of held.privates ≡ image.privates → AreHere image (at_task (task_at name t) x T) (at_proc p (privates_of held.privates) U) name (with_held held table)
  home_here image T U x H is bytes_are =
      subst (AreHere image (at_task (task_at name t) x T) (at_proc p (privates_of held.privates) U) name) (sym home_is)
      (record {
        harts = (harted_here N {T = T} H t held.hart x slot_lives is).harts;
        privates_are = λ q v e. are q v e (eqb_tells q p);
        bytes = λ q v e. sizes q v e (eqb_tells q p);
      })
    where
      are : (q : ℕ) (v : PrivatesFields) → at (slice_set table.privates p (Some held.privates)) q ≡ Some v → ((q == p ≡ true) × (q ≡ p)) ⊎ ((q == p ≡ false) × (q ≢ p)) → privates_of v ≡ at_proc p (privates_of held.privates) U q
      are q v e (inl y) =
          at_proc_cases (λ z. privates_of v ≡ z) p q (privates_of held.privates) U (λ _. ap privates_of (sym (at_set table.privates p held.privates v (subst (λ q. at (slice_set table.privates p (Some held.privates)) q ≡ Some v) y.1 e)))) (λ ne. absurd (ne y.1))
      are q v e (inr y) =
          at_proc_cases (λ z. privates_of v ≡ z) p q (privates_of held.privates) U (λ s. absurd (y.1 s)) (λ _. H.privates_are q v (sym (at-set-other table.privates p q (Some held.privates) y.1) ∙ e))

      sizes : (q : ℕ) (v : PrivatesFields) → at (slice_set table.privates p (Some held.privates)) q ≡ Some v → ((q == p ≡ true) × (q ≡ p)) ⊎ ((q == p ≡ false) × (q ≢ p)) → bytes_of v ≡ image.privates
      sizes q v e (inl y) = ap bytes_of (sym (at_set table.privates p held.privates v (subst (λ q. at (slice_set table.privates p (Some held.privates)) q ≡ Some v) y.1 e))) ∙ bytes_are
      sizes q v e (inr y) = H.bytes q v (sym (at-set-other table.privates p q (Some held.privates) y.1) ∙ e)
