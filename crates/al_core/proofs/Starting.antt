-- Tasks that start in a slot or end there, and harts that go out and come home.
use Rattle.std.proofs.Common.{◌≡◌, ◌≢◌, ℕ, ◌<◌, ◌≤◌, List, [], ◌∷◌, length, Option, Some, None, sym, ap, ◌∙◌, subst, true, false, ◌==◌, ◌⊎◌, inl, inr, arith}
use Rattle.std.specs.Prelude.{slice_set}
use Rattle.std.specs.List.{AllByRecursion}
use Rattle.std.proofs.lemmas.Option.{same_Some}
use Rattle.std.proofs.lemmas.Bool.Decides.{eqb_tells}
use Rattle.al_world.specs.Channels.{Book, Offer}
use Rattle.al_world.specs.Procs.{ProcState, first_ready}
use Rattle.al_world.specs.World.{TaskName, TalkName, same_task, Held, at_task}
use Rattle.al_world.specs.Renamed.{renamed_procs}
use Rattle.al_world.proofs.Lists.{all_to}
use Rattle.al_world.proofs.Maps.{same_task_tells, at_task_cases}
use Rattle.rv_isa.specs.declared.image.Contents.{Contents}
use Rattle.rv_exec.specs.declared.run.Hart.{Hart as HartFields}
use Rattle.rv_exec.specs.declared.run.Privates.{Privates as PrivatesFields}
use Rattle.rv_exec.specs.Hart.{Hart}
use Rattle.rv_exec.specs.Calls.{Privates}
use Rattle.task_book.specs.Table.{Table, TaskState, lives, home_of, hart_of, is_away}
use Rattle.al_core.specs.Stands.{task_at, IsNamed, HasHart, AreHere}
use Rattle.al_core.proofs.Tables.{hart_lives, lives-filled-same, lives-filled-other, home-filled-same, home-filled-other, hart-filled-same, hart-filled-other}
use Rattle.al_core.proofs.Naming.{AllIn}

-- a proc is away, and this is its first ready task
abbrev IsOut : Table → ℕ → ℕ → Type 0
IsOut s q u = (is_away s q ≡ true) × (first_ready s.procs q ≡ Some u)

module _ {tb : Book TalkName} {tp : List (ProcState TaskName)} {st : ℕ → ℕ} {name : ℕ → TalkName} {book : Book ℕ} {table : Table} (N : IsNamed tb tp st name book table) where
  -- ---- a slot that had no task gets one

  -- `procs` and `privates` are those of the table after it, `more` and `count` those of the world
  module _ (slot : ℕ) (x : TaskState) (procs : List (ProcState ℕ)) (privates : List (Option PrivatesFields)) (more : List (ProcState TaskName)) (count : ℕ → ℕ)
      (within : slot < length table.tasks) (dead : lives table slot ≡ false)
      (is : renamed_procs (task_at name) procs ≡ more)
      (proc : (task_at name slot).proc ≡ x.home)
      (number : (task_at name slot).number < count x.home)
      (counts : (q : ℕ) → st q ≤ count q)
      (new : (u : ℕ) → lives table u ≡ true → task_at name u ≢ task_at name slot)
      (all : AllIn (λ u. (u ≡ slot) ⊎ (lives table u ≡ true)) procs)
      (hart : HartFields) (has : x.hart ≡ Some hart)
      (out : (q u : ℕ) → IsOut table q u → IsOut (record { procs = procs; tasks = table.tasks; privates = privates }) q u) where
    abbrev pub begun : Table
    begun = record { procs = procs; tasks = slice_set table.tasks slot (Some x); privates = privates }

    -- by whether it is the new one
    by_slot : (P : Type 0) (u : ℕ) → (u ≡ slot → P) → (u ≢ slot → P) → P
    by_slot P u a b = on (eqb_tells u slot)
      where
        on : ((u == slot ≡ true) × (u ≡ slot)) ⊎ ((u == slot ≡ false) × (u ≢ slot)) → P
        on (inl e) = a e.1
        on (inr e) = b e.1

    here_lives : lives begun slot ≡ true
    here_lives = lives-filled-same table slot (Some x) within

    old : (u : ℕ) → u ≢ slot → lives begun u ≡ true → lives table u ≡ true
    old u ne l = sym (lives-filled-other table slot (Some x) u ne) ∙ l

    lives_of : (u : ℕ) → (u ≡ slot) ⊎ (lives table u ≡ true) → lives begun u ≡ true
    lives_of u (inl e) = subst (λ u. lives begun u ≡ true) (sym e) here_lives
    lives_of u (inr l) = by_slot (lives begun u ≡ true) u (λ e. subst (λ u. lives begun u ≡ true) (sym e) here_lives) (λ ne. lives-filled-other table slot (Some x) u ne ∙ l)

    apart : (u v : ℕ) → lives begun u ≡ true → lives begun v ≡ true → same_task (task_at name u) (task_at name v) ≡ (u == v)
    apart u v l m =
        by_slot (same_task (task_at name u) (task_at name v) ≡ (u == v)) u (λ e. by_slot (same_task (task_at name u) (task_at name v) ≡ (u == v)) v (λ f. equal u v (e ∙ sym f)) (λ g. differ u v (λ y. g (sym y ∙ e)) (λ y. new v (old v g m) (sym y ∙ ap (task_at name) e))))
        (λ ne. by_slot (same_task (task_at name u) (task_at name v) ≡ (u == v)) v (λ f. differ u v (λ y. ne (y ∙ f)) (λ y. new u (old u ne l) (y ∙ ap (task_at name) f))) (λ g. N.apart u v (old u ne l) (old v g m)))
      where
        equal : (u v : ℕ) → u ≡ v → same_task (task_at name u) (task_at name v) ≡ (u == v)
        equal u v e = on (same_task_tells (task_at name u) (task_at name v)) (eqb_tells u v)
          where
            on : ((same_task (task_at name u) (task_at name v) ≡ true) × (task_at name u ≡ task_at name v)) ⊎ ((same_task (task_at name u) (task_at name v) ≡ false) × (task_at name u ≢ task_at name v)) → ((u == v ≡ true) × (u ≡ v)) ⊎ ((u == v ≡ false) × (u ≢ v)) → same_task (task_at name u) (task_at name v) ≡ (u == v)
            on (inl a) (inl b) = a.0 ∙ sym b.0
            on (inr a) b = absurd (a.1 (ap (task_at name) e))
            on a (inr b) = absurd (b.1 e)

        differ : (u v : ℕ) → u ≢ v → task_at name u ≢ task_at name v → same_task (task_at name u) (task_at name v) ≡ (u == v)
        differ u v ne nn = on (same_task_tells (task_at name u) (task_at name v)) (eqb_tells u v)
          where
            on : ((same_task (task_at name u) (task_at name v) ≡ true) × (task_at name u ≡ task_at name v)) ⊎ ((same_task (task_at name u) (task_at name v) ≡ false) × (task_at name u ≢ task_at name v)) → ((u == v ≡ true) × (u ≡ v)) ⊎ ((u == v ≡ false) × (u ≢ v)) → same_task (task_at name u) (task_at name v) ≡ (u == v)
            on (inr a) (inr b) = a.0 ∙ sym b.0
            on (inl a) b = absurd (nn a.1)
            on a (inl b) = absurd (ne b.1)

    home_slot : home_of begun slot ≡ x.home
    home_slot = home-filled-same table slot (Some x) within

    hart_slot : hart_of begun slot ≡ x.hart
    hart_slot = hart-filled-same table slot (Some x) within

    pub begun_named : IsNamed tb more count name book begun
    begun_named = record {
      book_is = N.book_is;
      procs_is = is;
      apart = apart;
      homes = λ u l. by_slot ((task_at name u).proc ≡ home_of begun u) u (λ e. subst (λ u. (task_at name u).proc ≡ home_of begun u) (sym e) (proc ∙ sym home_slot)) (λ ne. N.homes u (old u ne l) ∙ sym (home-filled-other table slot (Some x) u ne));
      were_started = λ u l. by_slot ((task_at name u).number < count (home_of begun u)) u (λ e. subst (λ u. (task_at name u).number < count (home_of begun u)) (sym e) (subst (λ q. (task_at name slot).number < count q) (sym home_slot) number)) (λ ne. subst (λ q. (task_at name u).number < count q) (sym (home-filled-other table slot (Some x) u ne)) (let c = counts (home_of table u) in let n = N.were_started u (old u ne l) in omega (arith, c, n)));
      ready = λ p q g. all_to (λ u. (u ≡ slot) ⊎ (lives table u ≡ true)) (λ u. lives begun u ≡ true) lives_of q.ready (all.ready p q g);
      parents = λ p q u g e. lives_of u (all.parents p q u g e);
      waiting = all_to (λ (o : Offer ℕ). lives table o.by ≡ true) (λ (o : Offer ℕ). lives begun o.by ≡ true) (λ o l. lives_of o.by (inr l)) book.waiting N.waiting;
      here = λ u l e. by_slot (IsOut begun (home_of begun u) u) u (λ y. absurd (let no = sym has ∙ sym hart_slot ∙ subst (λ u. hart_of begun u ≡ None) y e in cc)) (λ ne. subst (λ q. IsOut begun q u) (sym (home-filled-other table slot (Some x) u ne)) (out (home_of table u) u (N.here u (old u ne l) (sym (hart-filled-other table slot (Some x) u ne) ∙ e))));
    }

    pub begun_here : (image : Contents) (T : TaskName → Held Hart) (U : ℕ → Privates) (y : Held Hart) → HasHart y hart → AreHere image T U name (record table { privates = privates }) → AreHere image (at_task (task_at name slot) y T) U name begun
    begun_here image T U y h H = record {
      harts = λ u g e. by_slot (HasHart (at_task (task_at name slot) y T (task_at name u)) g) u (λ s. at_task_cases (λ z. HasHart z g) (task_at name slot) (task_at name u) y T (λ _. subst (HasHart y) (same_Some _ _ (sym has ∙ sym hart_slot ∙ subst (λ u. hart_of begun u ≡ Some g) s e)) h) (λ ne. absurd (ne (ap (task_at name) s)))) (λ ne. let l : lives table u ≡ true = old u ne (hart_lives begun u g e) in at_task_cases (λ z. HasHart z g) (task_at name slot) (task_at name u) y T (λ s. absurd (new u l s)) (λ _. H.harts u g (sym (hart-filled-other table slot (Some x) u ne) ∙ e)));
      privates_are = H.privates_are;
      bytes = H.bytes;
    }

  -- ---- a slot loses its task

  module _ (slot : ℕ) (procs : List (ProcState ℕ)) (privates : List (Option PrivatesFields)) (rest : List (ProcState TaskName))
      (within : slot < length table.tasks)
      (is : renamed_procs (task_at name) procs ≡ rest)
      (all : AllIn (λ u. (u ≢ slot) × (lives table u ≡ true)) procs)
      (out_waiting : AllByRecursion (λ (o : Offer ℕ). o.by ≢ slot) book.waiting)
      (out : (q u : ℕ) → u ≢ slot → IsOut table q u → IsOut (record { procs = procs; tasks = table.tasks; privates = privates }) q u) where
    abbrev pub ended : Table
    ended = record { procs = procs; tasks = slice_set table.tasks slot None; privates = privates }

    other : (u : ℕ) → lives ended u ≡ true → u ≢ slot
    other u l e = let no = sym l ∙ ap (lives ended) e ∙ lives-filled-same table slot None within in cc

    was : (u : ℕ) → lives ended u ≡ true → lives table u ≡ true
    was u l = sym (lives-filled-other table slot None u (other u l)) ∙ l

    still : (u : ℕ) → (u ≢ slot) × (lives table u ≡ true) → lives ended u ≡ true
    still u x = lives-filled-other table slot None u x.0 ∙ x.1

    all_both : (ws : List (Offer ℕ)) → AllByRecursion (λ (o : Offer ℕ). o.by ≢ slot) ws → AllByRecursion (λ (o : Offer ℕ). lives table o.by ≡ true) ws → AllByRecursion (λ (o : Offer ℕ). lives ended o.by ≡ true) ws
    all_both [] a b = tt
    all_both (o ∷ os) a b = (still o.by (a.0, b.0), all_both os a.1 b.1)

    pub ended_named : IsNamed tb rest st name book ended
    ended_named = record {
      book_is = N.book_is;
      procs_is = is;
      apart = λ u v l m. N.apart u v (was u l) (was v m);
      homes = λ u l. N.homes u (was u l) ∙ sym (home-filled-other table slot None u (other u l));
      were_started = λ u l. subst (λ q. (task_at name u).number < st q) (sym (home-filled-other table slot None u (other u l))) (N.were_started u (was u l));
      ready = λ p q g. all_to (λ u. (u ≢ slot) × (lives table u ≡ true)) (λ u. lives ended u ≡ true) still q.ready (all.ready p q g);
      parents = λ p q u g e. still u (all.parents p q u g e);
      waiting = all_both book.waiting out_waiting N.waiting;
      here = λ u l e. subst (λ q. IsOut ended q u) (sym (home-filled-other table slot None u (other u l))) (out (home_of table u) u (other u l) (N.here u (was u l) (sym (hart-filled-other table slot None u (other u l)) ∙ e)));
    }

    pub ended_here : (image : Contents) (T : TaskName → Held Hart) (U : ℕ → Privates) → AreHere image T U name (record table { privates = privates }) → AreHere image T U name ended
    ended_here image T U H = record {
      harts = λ u g e. H.harts u g (sym (hart-filled-other table slot None u (other u (hart_lives ended u g e))) ∙ e);
      privates_are = H.privates_are;
      bytes = H.bytes;
    }
