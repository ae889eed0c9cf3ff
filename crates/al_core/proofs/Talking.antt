-- A talk that goes, and one that blocks.
use Rattle.std.proofs.Common.{◌≡◌, ◌≢◌, ℕ, ◌+◌, List, [], ◌∷◌, ◌++◌, map, filter, length, drop, Option, Some, None, option_map, refl, sym, ap, ap₂, ◌∙◌, subst, true, false, cond, not, append-nil}
use Rattle.std.specs.Prelude.{nat_eq}
use Rattle.std.specs.List.{AllByRecursion}
use Rattle.std.proofs.lemmas.Option.{same_Some}
use Rattle.al_base.specs.declared.trap.Trap.TheVariants.{Chan}
use Rattle.al_base.specs.declared.over.Over.TheVariants.{Trapped}
use Rattle.al_event.specs.declared.act.Branch.{Branch}
use Rattle.al_event.specs.declared.act.Act.TheVariants.{Talk}
use Rattle.rv_isa.specs.declared.image.Contents.{Contents}
use Rattle.al_world.specs.Channels.{Book, Offer, Pair, has_bad, ready, is_some_ready}
use Rattle.al_world.specs.Talks.{Fired, Woken, offers_from, blocks, fires, meets}
use Rattle.al_world.specs.Procs.{ProcState, leaves_ready, joins_ready}
use Rattle.al_world.specs.Control.{fitted}
use Rattle.al_world.specs.World.{TaskName, TalkName, same_talker, Held, Waits, Answered, at_task, told, told_one}
use Rattle.al_world.specs.Actions.{performs, trapped, goes_or_waits, goes, waits_for, talk_of, at_zero, wakes, wake_told}
use Rattle.al_world.specs.Answers.{IsFit}
use Rattle.al_world.specs.Transfers.{IsIn}
use Rattle.al_world.specs.Renamed.{renamed_offer, renamed_book, renamed_pair, renamed_woken, renamed_fired}
use Rattle.al_world.proofs.Lists.{all_at, all_to, all_in, all_append, in_filter}
use Rattle.al_world.proofs.Maps.{at_task_cases}
use Rattle.al_world.proofs.Fires.{IsPartner, fires_ways}
use Rattle.al_world.specs.Sound.{IsTalking}
use Rattle.al_world.proofs.Sound.{length-changed}
use Rattle.rv_exec.specs.Hart.{Hart}
use Rattle.rv_exec.specs.Machine.{machine}
use Rattle.task_book.specs.Table.{Table, lives, home_of, is_away}
use Rattle.task_book.specs.Lending.{re_harted, TakesAnswer}
use Rattle.al_core.specs.Stands.{task_at, IsNamed, HasHart, AreHere}
use Rattle.al_core.specs.Acting.{Machinery, Posed, IsDone}
use Rattle.al_core.proofs.Tables.{lives-harted}
use Rattle.al_core.proofs.Naming.{with_name, name-same, talks_named, first_lives, talk_renamed, task_same, two_names}
use Rattle.al_core.proofs.Holding.{answered}
use Rattle.al_core.proofs.Moving.{leaves_named, joins_named, book_named, away-changed}
use Rattle.al_core.proofs.Acts.{stops, asking_is}

pub all_unmap : {X Y : Type 0} (P : Y → Type 0) (f : X → Y) (xs : List X) → AllByRecursion P (map f xs) → AllByRecursion (λ x. P (f x)) xs
all_unmap P f [] h = tt
all_unmap P f (x ∷ xs) h = (h.0, all_unmap P f xs h.1)

-- what a talk leaves in the waiting list waited before, as did the talk that it woke
pub record LeavesWaiting (book : Book ℕ) (f : Fired ℕ) : Type 0 where
  pub waiting : AllByRecursion (IsIn book.waiting) f.book.waiting
  pub woken : (w : Woken ℕ) → f.woke ≡ Some w → (o : Offer ℕ) × IsIn book.waiting o × (w.by ≡ o.by)

module _ (book : Book ℕ) (t : ℕ) (branches : List Branch) where
  all_waiting : AllByRecursion (IsIn book.waiting) book.waiting
  all_waiting = all_in book.waiting (IsIn book.waiting) (λ o i. i)

  withdrawn : (u : ℕ) → AllByRecursion (IsIn book.waiting) (filter (λ (o : Offer ℕ). not (nat_eq o.by u)) book.waiting)
  withdrawn u =
      all_to (λ (o : Offer ℕ). IsIn book.waiting o × (not (nat_eq o.by u) ≡ true)) (IsIn book.waiting) (λ o h. h.0) _ (in_filter (λ (o : Offer ℕ). not (nat_eq o.by u)) book.waiting)

  woke_by : (o : Offer ℕ) (b : Branch) (k : ℕ) (words : List ℕ) → IsPartner book.waiting b o → (w : Woken ℕ) → Some (record { by = o.by; branch = k; words = words }) ≡ Some w → (x : Offer ℕ) × IsIn book.waiting x × (w.by ≡ x.by)
  woke_by o b k words p w e = (o, p.waits, ap (λ (w : Woken ℕ). w.by) (sym (same_Some _ _ e)))

  pub leaves_waiting : (pick : ℕ) (f : Fired ℕ) → fires nat_eq book t branches pick ≡ Some f → LeavesWaiting book f
  leaves_waiting pick f e =
      fires_ways book branches nat_eq t (LeavesWaiting book) (record {
        q_meets = λ i b ch o at z p. met i b o p b.send;
        q_hands_over = λ i b ch words o at z s h p. record { waiting = withdrawn o.by; woken = woke_by o b o.number words p };
        q_puts_in = λ i b ch words at z s. record { waiting = all_waiting; woken = λ w e. absurd (cc) };
        q_takes_out = λ i b ch words rest at z s h. record { waiting = all_waiting; woken = λ w e. absurd (cc) };
        q_lets_in = λ i b ch words rest o at z s h p. record { waiting = withdrawn o.by; woken = woke_by o b o.number [] p };
      }) f pick e
    where
      met : (i : ℕ) (b : Branch) (o : Offer ℕ) → IsPartner book.waiting b o → (send : Option (List ℕ)) → LeavesWaiting book (meets nat_eq book t i b.chan send o)
      met i b o p (Some words) = record { waiting = withdrawn o.by; woken = woke_by o b o.number words p }
      met i b o p None = record { waiting = withdrawn o.by; woken = woke_by o b o.number [] p }

offers_by : (P : ℕ → Type 0) (t i : ℕ) (bs : List Branch) → P t → AllByRecursion (λ (o : Offer ℕ). P o.by) (offers_from t i bs)
offers_by P t i [] p = tt
offers_by P t i (b ∷ bs) p = (p, offers_by P t (i + 1) bs p)

-- ---- the task that talks

module _ {image : Contents} {slot : ℕ} {branches : List Branch} {m : Machinery} (P : Posed image slot (Talk branches) m) where
  abbrev n : TaskName
  n = task_at P.name slot

  abbrev asking : TaskName → Held Hart
  asking = at_task n (Waits (Talk branches) P.control) P.tasks

  slot_lives : lives m.table slot ≡ true
  slot_lives = first_lives P.named (home_of m.table slot) slot P.first

  -- a branch that waits is of a task that waits
  talking : AllByRecursion (λ (o : Offer ℕ). IsTalking (renamed_offer P.name o) (P.tasks (task_at P.name o.by))) m.book.book.waiting
  talking =
      all_unmap (λ (o : Offer TalkName). IsTalking o (P.tasks o.by.task)) (renamed_offer P.name) m.book.book.waiting (subst (λ (b : Book TalkName). AllByRecursion (λ (o : Offer TalkName). IsTalking o (P.tasks o.by.task)) b.waiting) (sym P.named.book_is) P.sound.waiting)

  -- so it is of another slot
  not_mine : (o : Offer ℕ) → IsTalking (renamed_offer P.name o) (P.tasks (task_at P.name o.by)) → o.by ≢ slot
  not_mine o w e = let no = sym P.going.is ∙ ap (λ s. P.tasks (task_at P.name s)) (sym e) ∙ w.is in cc

  pub out : AllByRecursion (λ (o : Offer ℕ). o.by ≢ slot) m.book.book.waiting
  out = all_to (λ (o : Offer ℕ). IsTalking (renamed_offer P.name o) (P.tasks (task_at P.name o.by))) (λ (o : Offer ℕ). o.by ≢ slot) not_mine m.book.book.waiting talking

  -- the talk has a name
  abbrev name : ℕ → TalkName
  name = with_name slot (talk_of P.shared n) P.name

  named : IsNamed P.shared.book P.shared.procs P.shared.started name m.book.book m.table
  named = talk_renamed P.named slot (talk_of P.shared n) refl out

  pub same : (u : ℕ) → task_at name u ≡ task_at P.name u
  same u = task_same P.named slot (talk_of P.shared n) refl out u

  here : AreHere image asking P.privates name m.table
  here = record {
    harts = λ t h e. subst (λ k. HasHart (asking k) h) (sym (same t)) (P.here.harts t h e);
    privates_are = P.here.privates_are;
    bytes = P.here.bytes;
  }

  pub bad_same : has_bad P.shared.book branches ≡ has_bad m.book.book branches
  bad_same = ap (λ (b : Book TalkName). has_bad b branches) (sym P.named.book_is)

  some_map : (ps : List (Pair ℕ)) → is_some_ready (map (renamed_pair P.name) ps) ≡ is_some_ready ps
  some_map [] = refl
  some_map (p ∷ ps) = refl

  some_same : is_some_ready (ready P.shared.book branches) ≡ is_some_ready (ready m.book.book branches)
  some_same =
      ap (λ (b : Book TalkName). is_some_ready (ready b branches)) (sym P.named.book_is) ∙ ap is_some_ready ((talks_named P.named).ready_same branches) ∙ some_map (ready m.book.book branches)

  -- a bad branch traps
  pub done_bad : has_bad m.book.book branches ≡ true → IsDone image slot (Talk branches) m P 0 (Some (Trapped Chan n.proc P.shared.entries)) m
  done_bad bad = stops P 0 (Trapped Chan n.proc P.shared.entries) (ap (λ b. cond b (at_zero 0 (trapped P.shared n Chan)) (goes_or_waits P.shared n branches 0 (is_some_ready (ready P.shared.book branches)))) (bad_same ∙ bad))

  -- no branch can go: the talk waits
  pub done_block : has_bad m.book.book branches ≡ false → is_some_ready (ready m.book.book branches) ≡ false → IsDone image slot (Talk branches) m P 0 None (record { store = m.store; book = record { room = m.book.room; book = blocks m.book.book slot branches }; table = record m.table { procs = leaves_ready (home_of m.table slot) m.table.procs }; output = m.output ++ [] })
  done_block fine none = record {
    effect = waits_for P.shared n branches;
    performs_so = ap₂ (λ b r. cond b (at_zero 0 (trapped P.shared n Chan)) (goes_or_waits P.shared n branches 0 r)) (bad_same ∙ fine) (some_same ∙ none);
    over_is = sym P.not_over;
    name = name;
    named = subst (λ p. IsNamed (blocks P.shared.book (talk_of P.shared n) branches) (leaves_ready p P.shared.procs) P.shared.started name (blocks m.book.book slot branches) (record m.table { procs = leaves_ready (home_of m.table slot) m.table.procs })) (sym (P.named.homes slot slot_lives)) (book_named (leaves_named named (home_of m.table slot) P.home) (blocks P.shared.book (talk_of P.shared n) branches) (blocks m.book.book slot branches) book_is (all_append (λ (o : Offer ℕ). lives m.table o.by ≡ true) m.book.book.waiting (offers_from slot 0 branches) P.named.waiting (offers_by (λ u. lives m.table u ≡ true) slot 0 branches slot_lives)));
    here = record { harts = here.harts; privates_are = here.privates_are; bytes = here.bytes };
    away = away-changed m.table (home_of m.table slot) (λ (q : ProcState ℕ). record q { ready = drop 1 q.ready }) (λ r. refl);
    store_is = P.store_is;
    shown = [];
    output = refl;
    output_is = sym (append-nil P.shared.output);
    book_room = P.book_room;
    tasks_room = P.tasks_room;
    procs_room = P.procs_room ∙ sym (length-changed (home_of m.table slot) (λ (q : ProcState ℕ). record q { ready = drop 1 q.ready }) m.table.procs);
  }
    where
      book_is : renamed_book name (blocks m.book.book slot branches) ≡ blocks P.shared.book (talk_of P.shared n) branches
      book_is =
          sym ((talks_named named).blocks_same slot branches) ∙ ap₂ (λ (b : Book TalkName) (k : TalkName). blocks b k branches) named.book_is (name-same slot (talk_of P.shared n) P.name)

  -- pair number pick goes
  module _ (pick : ℕ) (f : Fired ℕ) (fine : has_bad m.book.book branches ≡ false) (some : is_some_ready (ready m.book.book branches) ≡ true) (is : fires nat_eq m.book.book slot branches pick ≡ Some f) where
    fires_so : fires same_talker P.shared.book (talk_of P.shared n) branches pick ≡ Some (renamed_fired name f)
    fires_so =
        ap₂ (λ (b : Book TalkName) (k : TalkName). fires same_talker b k branches pick) (sym named.book_is) (sym (name-same slot (talk_of P.shared n) P.name)) ∙ (talks_named named).fires_same slot branches pick ∙ ap (option_map (renamed_fired name)) is

    pub does : performs P.shared n (Talk branches) pick ≡ Some (goes P.shared n (renamed_fired name f))
    does =
        ap₂ (λ b r. cond b (at_zero pick (trapped P.shared n Chan)) (goes_or_waits P.shared n branches pick r)) (bad_same ∙ fine) (some_same ∙ some) ∙ ap (option_map (goes P.shared n)) fires_so

    pub fits : AllByRecursion (IsFit asking) (goes P.shared n (renamed_fired name f)).told
    fits = P.fits pick (goes P.shared n (renamed_fired name f)) does

    pub leaves : LeavesWaiting m.book.book f
    leaves = leaves_waiting m.book.book slot branches pick f is

    -- with the book after it
    with_book : IsNamed (renamed_book name f.book) P.shared.procs P.shared.started name f.book m.table
    with_book =
        book_named named (renamed_book name f.book) f.book refl (all_to (IsIn m.book.book.waiting) (λ (o : Offer ℕ). lives m.table o.by ≡ true) (λ (o : Offer ℕ) i. all_at (λ (o : Offer ℕ). lives m.table o.by ≡ true) m.book.book.waiting o P.named.waiting i) f.book.waiting leaves.waiting)

    -- the task that talked goes on
    module _ (table : Table) (takes : TakesAnswer m.table slot (f.branch ∷ f.words) table) where
      own : IsNamed (renamed_book name f.book) P.shared.procs P.shared.started name f.book table × AreHere image (at_task (task_at name slot) (told_one (machine image) (Answered (f.branch ∷ f.words)) (asking (task_at name slot))) asking) P.privates name table
      own =
          answered with_book {T = asking} here slot (Talk branches) P.control (f.branch ∷ f.words) table (ap asking (same slot) ∙ asking_is P) (fits.0 (Talk branches) P.control (asking_is P)) takes

      -- no other task goes with it
      pub done_alone : f.woke ≡ None → IsDone image slot (Talk branches) m P pick None (record { store = m.store; book = record { room = m.book.room; book = f.book }; table = table; output = m.output ++ [] })
      done_alone alone = record {
        effect = goes P.shared n (renamed_fired name f);
        performs_so = does;
        over_is = sym P.not_over;
        name = name;
        named = subst (λ (o : Option (Woken TalkName)). IsNamed (renamed_book name f.book) (wakes o P.shared.procs) P.shared.started name f.book table) (sym (ap (option_map (renamed_woken name)) alone)) own.0;
        here = subst (λ (o : Option (Woken TalkName)). AreHere image (told (machine image) ((n, Answered (f.branch ∷ f.words)) ∷ wake_told o) asking) P.privates name table) (sym (ap (option_map (renamed_woken name)) alone)) (subst (λ k. AreHere image (at_task k (told_one (machine image) (Answered (f.branch ∷ f.words)) (asking k)) asking) P.privates name table) (same slot) own.1);
        away = λ q. ap (λ (t : Table). is_away t q) takes.table;
        store_is = P.store_is;
        shown = [];
        output = refl;
        output_is = sym (append-nil P.shared.output);
        book_room = P.book_room;
        tasks_room = ap (λ (t : Table). length t.tasks) takes.table ∙ length-changed slot (re_harted (Some takes.hart)) m.table.tasks ∙ P.tasks_room;
        procs_room = subst (λ (t : Table). length t.privates ≡ length t.procs) (sym takes.table) P.procs_room;
      }

      -- another task goes with it
      module _ (w : Woken ℕ) (with : f.woke ≡ Some w) where
        pub partner : (o : Offer ℕ) × IsIn m.book.book.waiting o × (w.by ≡ o.by)
        partner = leaves.woken w with

        pub was_talking : IsTalking (renamed_offer P.name partner.0) (P.tasks (task_at P.name w.by))
        was_talking =
            subst (λ u. IsTalking (renamed_offer P.name partner.0) (P.tasks (task_at P.name u))) (sym partner.2) (all_at (λ (o : Offer ℕ). IsTalking (renamed_offer P.name o) (P.tasks (task_at P.name o.by))) m.book.book.waiting partner.0 talking partner.1)

        pub other : w.by ≢ slot
        other e = all_at (λ (o : Offer ℕ). o.by ≢ slot) m.book.book.waiting partner.0 out partner.1 (sym partner.2 ∙ e)

        pub lives_there : lives m.table w.by ≡ true
        lives_there = ap (lives m.table) partner.2 ∙ all_at (λ (o : Offer ℕ). lives m.table o.by ≡ true) m.book.book.waiting partner.0 P.named.waiting partner.1

        abbrev first_told : TaskName → Held Hart
        first_told = at_task (task_at name slot) (told_one (machine image) (Answered (f.branch ∷ f.words)) (asking (task_at name slot))) asking

        pub apart : task_at name w.by ≢ task_at name slot
        apart = two_names named w.by slot lives_there slot_lives other

        pub waits_there : asking (task_at name w.by) ≡ Waits (Talk was_talking.branches) was_talking.control
        waits_there =
            at_task_cases (λ y. y ≡ Waits (Talk was_talking.branches) was_talking.control) n (task_at name w.by) _ P.tasks (λ e. absurd (apart (e ∙ sym (same slot)))) (λ _. ap P.tasks (same w.by) ∙ was_talking.is)

        still_waits : first_told (task_at name w.by) ≡ Waits (Talk was_talking.branches) was_talking.control
        still_waits =
            at_task_cases (λ y. y ≡ Waits (Talk was_talking.branches) was_talking.control) (task_at name slot) (task_at name w.by) _ asking (λ e. absurd (apart e)) (λ _. waits_there)

        pub fits_too : fitted (Talk was_talking.branches) (w.branch ∷ w.words) ≡ w.branch ∷ w.words
        fits_too =
            (subst (λ (o : Option (Woken ℕ)). AllByRecursion (IsFit asking) (wake_told (option_map (renamed_woken name) o))) with fits.1).0 (Talk was_talking.branches) was_talking.control waits_there

        -- and was answered
        module _ (after : Table) (takes_too : TakesAnswer table w.by (w.branch ∷ w.words) after) where
          both : IsNamed (renamed_book name f.book) P.shared.procs P.shared.started name f.book after × AreHere image (at_task (task_at name w.by) (told_one (machine image) (Answered (w.branch ∷ w.words)) (first_told (task_at name w.by))) first_told) P.privates name after
          both =
              answered own.0 {T = first_told} own.1 w.by (Talk was_talking.branches) was_talking.control (w.branch ∷ w.words) after still_waits fits_too takes_too

          pub lives_first : lives table w.by ≡ true
          lives_first = ap (λ (t : Table). lives t w.by) takes.table ∙ lives-harted m.table slot (Some takes.hart) w.by ∙ lives_there

          pub lives_after : lives after w.by ≡ true
          lives_after = ap (λ (t : Table). lives t w.by) takes_too.table ∙ lives-harted table w.by (Some takes_too.hart) w.by ∙ lives_first

          abbrev woken_table : Table
          woken_table = record after { procs = joins_ready (home_of after w.by) w.by after.procs }

          joined : IsNamed (renamed_book name f.book) (joins_ready (task_at name w.by).proc (task_at name w.by) P.shared.procs) P.shared.started name f.book woken_table
          joined =
              subst (λ p. IsNamed (renamed_book name f.book) (joins_ready p (task_at name w.by) P.shared.procs) P.shared.started name f.book woken_table) (sym (both.0.homes w.by lives_after)) (joins_named both.0 (home_of after w.by) w.by lives_after)

          tasks_after : told (machine image) ((n, Answered (f.branch ∷ f.words)) ∷ (task_at name w.by, Answered (w.branch ∷ w.words)) ∷ []) asking ≡ at_task (task_at name w.by) (told_one (machine image) (Answered (w.branch ∷ w.words)) (first_told (task_at name w.by))) first_told
          tasks_after =
              ap (λ k. told (machine image) ((k, Answered (f.branch ∷ f.words)) ∷ (task_at name w.by, Answered (w.branch ∷ w.words)) ∷ []) asking) (sym (same slot))

          woken_away : (q : ℕ) → is_away woken_table q ≡ is_away m.table q
          woken_away q =
              away-changed after (home_of after w.by) (λ (r : ProcState ℕ). record r { ready = r.ready ++ w.by ∷ [] }) (λ r. refl) q ∙ ap (λ (t : Table). is_away t q) takes_too.table ∙ ap (λ (t : Table). is_away t q) takes.table

          pub done_both : IsDone image slot (Talk branches) m P pick None (record { store = m.store; book = record { room = m.book.room; book = f.book }; table = woken_table; output = m.output ++ [] })
          done_both = record {
            effect = goes P.shared n (renamed_fired name f);
            performs_so = does;
            over_is = sym P.not_over;
            name = name;
            named = subst (λ (o : Option (Woken TalkName)). IsNamed (renamed_book name f.book) (wakes o P.shared.procs) P.shared.started name f.book woken_table) (sym (ap (option_map (renamed_woken name)) with)) joined;
            here = subst (λ (o : Option (Woken TalkName)). AreHere image (told (machine image) ((n, Answered (f.branch ∷ f.words)) ∷ wake_told o) asking) P.privates name woken_table) (sym (ap (option_map (renamed_woken name)) with)) (subst (λ T. AreHere image T P.privates name woken_table) (sym tasks_after) (record { harts = both.1.harts; privates_are = both.1.privates_are; bytes = both.1.bytes }));
            away = woken_away;
            store_is = P.store_is;
            shown = [];
            output = refl;
            output_is = sym (append-nil P.shared.output);
            book_room = P.book_room;
            tasks_room = ap (λ (t : Table). length t.tasks) takes_too.table ∙ length-changed w.by (re_harted (Some takes_too.hart)) table.tasks ∙ ap (λ (t : Table). length t.tasks) takes.table ∙ length-changed slot (re_harted (Some takes.hart)) m.table.tasks ∙ P.tasks_room;
            procs_room = procs_room ∙ sym (length-changed (home_of after w.by) (λ (r : ProcState ℕ). record r { ready = r.ready ++ w.by ∷ [] }) after.procs);
          }
            where
              procs_room : length after.privates ≡ length after.procs
              procs_room = subst (λ (t : Table). length t.privates ≡ length t.procs) (sym takes_too.table) (subst (λ (t : Table). length t.privates ≡ length t.procs) (sym takes.table) P.procs_room)
