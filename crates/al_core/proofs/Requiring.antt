-- What the calls on the table and on the book require, in a machinery where a task waits for the answer to its action.
use Rattle.std.proofs.Common.{◌≡◌, ◌≢◌, ℕ, zero, suc, ◌+◌, ◌^◌, ◌<◌, ◌≤◌, List, [], ◌∷◌, length, Option, Some, None, option_map, option_and_then, refl, sym, ap, ap₂, ◌∙◌, subst, true, false, ◌==◌, ◌||◌, ◌⊎◌, inl, inr, arith}
use Rattle.std.specs.Prelude.{slice_get, nat_eq, nat_lt, is_some, IsSomeAnd, IfSome}
use Rattle.std.specs.Option.{option_map_or}
use Rattle.std.specs.List.{AllByRecursion, list_any}
use Rattle.std.proofs.lemmas.Option.{same_Some, slice_get_within, slice_get-map}
use Rattle.std.proofs.lemmas.Bool.Decides.{eqb_tells, leb_tells}
use Rattle.al_event.specs.declared.act.Branch.{Branch}
use Rattle.al_event.specs.declared.act.Start.{Start}
use Rattle.al_event.specs.declared.act.Act.{Act}
use Rattle.al_event.specs.declared.act.Act.TheVariants.{Talk, Par, End}
use Rattle.rv_isa.specs.declared.image.Contents.{Contents}
use Rattle.al_world.specs.Channels.{Book, Offer, has_bad, ready, is_some_ready}
use Rattle.al_world.specs.Talks.{Fired, Woken, fires, meets}
use Rattle.al_world.specs.Procs.{ProcState, first_ready, first_of, has_branches, is_parent, live_tasks, is_full, most_tasks}
use Rattle.al_world.specs.Control.{fitted, received_by}
use Rattle.al_world.specs.Answers.{SendsWords}
use Rattle.al_world.specs.World.{TaskName, TalkName, Waits}
use Rattle.al_world.specs.Renamed.{renamed_offer, renamed_proc}
use Rattle.al_world.proofs.Fires.{fires_ways}
use Rattle.al_world.proofs.Maps.{at_task_cases}
use Rattle.al_world.specs.Sound.{IsTalking, IsReady, ProcOk}
use Rattle.rv_exec.specs.declared.run.Hart.{Hart as HartFields}
use Rattle.rv_exec.specs.Hart.{Hart}
use Rattle.rv_exec.specs.Answers.{HasAnswer, CanAnswer}
use Rattle.rv_exec.specs.Shown.{CanTake}
use Rattle.rv_exec.proofs.Fitting.{can_answer}
use Rattle.al_core.specs.Asks.{IsBranch}
use Rattle.task_book.specs.Table.{Table, TaskState, at, lives, home_of, hart_of, ready_of, parent_of, IsBlocked}
use Rattle.task_book.specs.Queues.{has}
use Rattle.task_book.specs.Lending.{TakesAnswer, re_harted}
use Rattle.task_book.specs.declared.tasks.StartFault.{StartFault}
use Rattle.task_book.specs.declared.tasks.StartFault.TheVariants.{Tasks as FullTasks}
use Rattle.al_world.proofs.Sound.{length-changed}
use Rattle.chan_book.specs.Book.{is_blocked}
use Rattle.al_core.specs.Stands.{task_at, HasHart}
use Rattle.al_core.specs.Acting.{Machinery, Posed}
use Rattle.al_core.proofs.Beginning.{length-map}
use Rattle.al_core.proofs.Branching.{slot_lives, asking}
use Rattle.al_core.proofs.Acts.{asking_is}
use Rattle.al_core.proofs.Talking.{all_unmap, out, same, fits, partner, was_talking, other, lives_there, lives_after, apart, fits_too}
use Rattle.al_core.proofs.Tables.{hart-harted-other, home-harted_of}

-- ---- lists

same_self : (x : ℕ) → (x == x) ≡ true
same_self x = on (eqb_tells x x)
  where
    on : ((x == x ≡ true) × (x ≡ x)) ⊎ ((x == x ≡ false) × (x ≢ x)) → (x == x) ≡ true
    on (inl y) = y.0
    on (inr y) = absurd (y.1 refl)

-- the first of a list is in it
pub has_first : (t : ℕ) (l : List ℕ) → first_of l ≡ Some t → has t l ≡ true
has_first t [] e = absurd (cc)
has_first t (x ∷ xs) e =
    ap (λ b. b || has t xs) (ap (λ y. y == t) (same_Some x t e) ∙ same_self t)

-- what holds of all does not exclude one that is in the list
has_all : (P : ℕ → Type 0) (t : ℕ) (l : List ℕ) → AllByRecursion P l → (P t → ⊥) → has t l ≡ false
has_all P t [] a not = refl
has_all P t (x ∷ xs) a not = on (has_all P t xs a.1 not) (eqb_tells x t)
  where
    on : has t xs ≡ false → ((x == t ≡ true) × (x ≡ t)) ⊎ ((x == t ≡ false) × (x ≢ t)) → ((x == t) || has t xs) ≡ false
    on r (inl y) = absurd (not (subst P y.1 a.0))
    on r (inr y) = ap (λ b. b || has t xs) y.0 ∙ r

-- no proc waits for a task
no_branches : (u : ℕ) (procs : List (ProcState ℕ)) → ((p : ℕ) (q : ProcState ℕ) → slice_get procs p ≡ Some q → q.parent ≡ Some u → ⊥) → has_branches nat_eq (λ t. 0) u procs ≡ false
no_branches u [] none = refl
no_branches u (q ∷ qs) none =
    ap₂ (λ a b. a || b) (on q.parent refl) (no_branches u qs (λ p r g e. none (suc p) r g e))
  where
    on : (o : Option ℕ) → q.parent ≡ o → is_parent nat_eq (λ t. 0) u o ≡ false
    on None e = refl
    on (Some v) e = of (eqb_tells v u)
      where
        of : ((v == u ≡ true) × (v ≡ u)) ⊎ ((v == u ≡ false) × (v ≢ u)) → nat_eq v u ≡ false
        of (inl y) = absurd (none 0 q refl (e ∙ ap Some y.1))
        of (inr y) = y.0

-- a task that lives has a slot
lives_within : (s : Table) (t : ℕ) → lives s t ≡ true → t < length s.tasks
lives_within s t l = on (slice_get s.tasks t) refl l
  where
    on : (o : Option (Option TaskState)) → slice_get s.tasks t ≡ o → is_some (option_and_then (λ o. o) o) ≡ true → t < length s.tasks
    on None g e = absurd (cc)
    on (Some x) g e = slice_get_within s.tasks t x g

-- ---- the task that asked, and others that wait

module _ {image : Contents} {slot : ℕ} {act : Act} {m : Machinery} (P : Posed image slot act m) where
  pub slot_within : slot < most_tasks
  slot_within = let l = lives_within m.table slot (slot_lives P) in let r = P.tasks_room in omega (arith, l, r)

  -- its hart is here, and takes each answer that the action can have
  pub own_takes : (words : List ℕ) → HasAnswer act → CanAnswer act words → IsSomeAnd (hart_of m.table slot) (λ hart. CanTake hart words)
  own_takes words has_answer can = on (hart_of m.table slot) refl
    where
      on : (o : Option HartFields) → hart_of m.table slot ≡ o → IsSomeAnd o (λ hart. CanTake hart words)
      on None e = absurd (let x = P.named.here slot (slot_lives P) e in let no = sym x.0 ∙ P.home in cc)
      on (Some hart) e = (subst (λ k. HasHart k hart) (asking_is P) (P.here.harts slot hart e)).1 has_answer words can

  pub proc_named : (q : ℕ) (r : ProcState ℕ) → slice_get m.table.procs q ≡ Some r → ProcOk P.tasks q (renamed_proc (task_at P.name) r)
  proc_named q r g =
      P.sound.procs q (renamed_proc (task_at P.name) r) (ap (λ (l : List (ProcState TaskName)). slice_get l q) (sym P.named.procs_is) ∙ slice_get-map (renamed_proc (task_at P.name)) m.table.procs q ∙ ap (option_map (renamed_proc (task_at P.name))) g)

  -- no proc has it as its parent
  pub own_alone : has_branches nat_eq (λ t. 0) slot m.table.procs ≡ false
  own_alone =
      no_branches slot m.table.procs (λ q r g e. let j = (proc_named q r g).parent (task_at P.name slot) (ap (option_map (task_at P.name)) e) in let i = j.is in let w = P.going.is in let no = sym w ∙ i in cc)

  -- another task that waits
  module _ (u : ℕ) (theirs : Act) (control : Hart) (waits : P.tasks (task_at P.name u) ≡ Waits theirs control) where
    not_ready : (p : ℕ) → has u (ready_of m.table p) ≡ false
    not_ready p = on (slice_get m.table.procs p) refl
      where
        on : (o : Option (ProcState ℕ)) → slice_get m.table.procs p ≡ o → has u (option_map_or (λ (q : ProcState ℕ). q.ready) o []) ≡ false
        on None g = refl
        on (Some q) g =
            has_all (λ t. IsReady P.tasks p (task_at P.name t)) u q.ready (all_unmap (IsReady P.tasks p) (task_at P.name) q.ready (proc_named p q g).ready) (λ r. let i = r.going.is in let no = sym i ∙ waits in cc)

    pub blocked : has u (ready_of m.table (home_of m.table u)) ≡ false
    blocked = not_ready (home_of m.table u)

    pub other_is : u ≢ slot
    other_is e = let g = P.going.is in let no = sym g ∙ ap (λ t. P.tasks (task_at P.name t)) (sym e) ∙ waits in cc

    -- its hart is here
    pub other_here : lives m.table u ≡ true → is_some (hart_of m.table u) ≡ true
    other_here l = on (hart_of m.table u) refl
      where
        on : (o : Option HartFields) → hart_of m.table u ≡ o → is_some o ≡ true
        on None e =
            let x = P.named.here u l e in
            absurd (let no = sym (first_has (home_of m.table u) x.1) ∙ blocked in cc)
          where
            first_has : (p : ℕ) → first_ready m.table.procs p ≡ Some u → has u (ready_of m.table p) ≡ true
            first_has p f = of (slice_get m.table.procs p) f
              where
                of : (o : Option (ProcState ℕ)) → option_and_then (λ (q : ProcState ℕ). first_of q.ready) o ≡ Some u → has u (option_map_or (λ (q : ProcState ℕ). q.ready) o []) ≡ true
                of None f = absurd (cc)
                of (Some q) f = has_first u q.ready f
        on (Some hart) e = refl

    -- and takes each answer that fits
    pub other_takes : (words : List ℕ) → lives m.table u ≡ true → HasAnswer theirs → task_at P.name u ≢ task_at P.name slot → fitted theirs words ≡ words → IsSomeAnd (hart_of m.table u) (λ hart. CanTake hart words)
    other_takes words l has_answer ne fits = on (hart_of m.table u) refl (other_here l)
      where
        on : (o : Option HartFields) → hart_of m.table u ≡ o → is_some o ≡ true → IsSomeAnd o (λ hart. CanTake hart words)
        on None e s = absurd (cc)
        on (Some hart) e s = (subst (λ k. HasHart k hart) (still ∙ waits) (P.here.harts u hart e)).1 has_answer words (can_answer theirs words has_answer fits)
          where
            still : asking P (task_at P.name u) ≡ P.tasks (task_at P.name u)
            still = at_task_cases (λ y. y ≡ P.tasks (task_at P.name u)) (task_at P.name slot) (task_at P.name u) _ P.tasks (λ e. absurd (ne e)) (λ _. refl)

  -- no proc has as its parent a task that waits for a talk
  pub talk_alone : (u : ℕ) (branches : List Branch) (control : Hart) → P.tasks (task_at P.name u) ≡ Waits (Talk branches) control → has_branches nat_eq (λ t. 0) u m.table.procs ≡ false
  talk_alone u branches control waits =
      no_branches u m.table.procs (λ q r g e. let j = (proc_named q r g).parent (task_at P.name u) (ap (option_map (task_at P.name)) e) in let i = j.is in let no = sym waits ∙ i in cc)

-- ---- a talk

received_few : (branches : List Branch) (i : ℕ) → AllByRecursion IsBranch branches → received_by (slice_get branches i) ≤ 1024
received_few [] i a = omega arith
received_few (b ∷ bs) (suc i) a = received_few bs i a.1
received_few (b ∷ bs) zero a = on b.send
  where
    on : (o : Option (List ℕ)) → received_by (Some (record b { send = o })) ≤ 1024
    on None = let w = a.0.words in omega (arith, w)
    on (Some words) = omega arith

-- a send of a talk has few words
sent_few : (branches : List Branch) (i : ℕ) (b : Branch) (words : List ℕ) → AllByRecursion IsBranch branches → slice_get branches i ≡ Some b → b.send ≡ Some words → length words ≤ 1024
sent_few [] i b words a g e = absurd (cc)
sent_few (c ∷ cs) (suc i) b words a g e = sent_few cs i b words a.1 g e
sent_few (c ∷ cs) zero b words a g e =
    let same : c ≡ b = same_Some _ _ g in
    of (subst IsBranch same a.0)
  where
    of : IsBranch b → length words ≤ 1024
    of x = let n = (subst (SendsWords b.words) e x.sends).count in let w = x.words in omega (arith, n, w)

-- the words that the talk received which was woken
abbrev WokenFew : Fired ℕ → Type 0
WokenFew f = (w : Woken ℕ) → f.woke ≡ Some w → length w.words ≤ 1024

module _ (book : Book ℕ) (t : ℕ) (branches : List Branch) (all : AllByRecursion IsBranch branches) where
  pub woken_few : (pick : ℕ) (f : Fired ℕ) → fires nat_eq book t branches pick ≡ Some f → WokenFew f
  woken_few pick f e =
      fires_ways book branches nat_eq t WokenFew (record {
        q_meets = λ i b ch o at z p. met i b o at.at b.send refl;
        q_hands_over = λ i b ch words o at z s h p w g. subst (λ ws. length ws ≤ 1024) (ap (λ (w : Woken ℕ). w.words) (same_Some _ _ g)) (sent_few branches i b words all at.at s);
        q_puts_in = λ i b ch words at z s w g. absurd (cc);
        q_takes_out = λ i b ch words rest at z s h w g. absurd (cc);
        q_lets_in = λ i b ch words rest o at z s h p w g. none w (same_Some _ _ g);
      }) f pick e
    where
      none : {o : ℕ} {k : ℕ} (w : Woken ℕ) → record { by = o; branch = k; words = [] } ≡ w → length w.words ≤ 1024
      none w g = subst (λ (w : Woken ℕ). length w.words ≤ 1024) g (omega arith)

      met : (i : ℕ) (b : Branch) (o : Offer ℕ) → slice_get branches i ≡ Some b → (send : Option (List ℕ)) → b.send ≡ send → WokenFew (meets nat_eq book t i b.chan send o)
      met i b o at (Some words) s w g = subst (λ ws. length ws ≤ 1024) (ap (λ (w : Woken ℕ). w.words) (same_Some _ _ g)) (sent_few branches i b words all at s)
      met i b o at None s w g = none w (same_Some _ _ g)

-- ---- the end of a proc

module _ {image : Contents} {slot : ℕ} {m : Machinery} (P : Posed image slot End m) where
  -- the task that waits for its proc has blocked
  pub parent_blocked : (p : ℕ) → IfSome (parent_of m.table p) (IsBlocked m.table)
  parent_blocked p = on (slice_get m.table.procs p) refl
    where
      of : (q : ProcState ℕ) → slice_get m.table.procs p ≡ Some q → (o : Option ℕ) → q.parent ≡ o → IfSome o (IsBlocked m.table)
      of q g None e = tt
      of q g (Some u) e =
          let j = (proc_named P p q g).parent (task_at P.name u) (ap (option_map (task_at P.name)) e) in record {
            lives = P.named.parents p q u g e;
            out = blocked P u (Par j.starts) j.control j.is;
          }

      on : (o : Option (ProcState ℕ)) → slice_get m.table.procs p ≡ o → IfSome (option_and_then (λ (q : ProcState ℕ). q.parent) o) (IsBlocked m.table)
      on None g = tt
      on (Some q) g = of q g q.parent refl

-- ---- a talk that goes

none_blocked : (t : ℕ) (waiting : List (Offer ℕ)) → AllByRecursion (λ (o : Offer ℕ). o.by ≢ t) waiting → list_any (λ (o : Offer ℕ). o.by == t) waiting ≡ false
none_blocked t [] a = refl
none_blocked t (o ∷ os) a = on (none_blocked t os a.1) (eqb_tells o.by t)
  where
    on : list_any (λ (o : Offer ℕ). o.by == t) os ≡ false → ((o.by == t ≡ true) × (o.by ≡ t)) ⊎ ((o.by == t ≡ false) × (o.by ≢ t)) → ((o.by == t) || list_any (λ (o : Offer ℕ). o.by == t) os) ≡ false
    on r (inl y) = absurd (a.0 y.1)
    on r (inr y) = ap (λ b. b || list_any (λ (o : Offer ℕ). o.by == t) os) y.0 ∙ r

module _ {image : Contents} {slot : ℕ} {branches : List Branch} {m : Machinery} (P : Posed image slot (Talk branches) m) where
  pub not_blocked : is_blocked m.book.book slot ≡ false
  not_blocked = none_blocked slot m.book.book.waiting (out P)

  module _ (pick : ℕ) (f : Fired ℕ) (fine : has_bad m.book.book branches ≡ false) (some : is_some_ready (ready m.book.book branches) ≡ true) (is : fires nat_eq m.book.book slot branches pick ≡ Some f) where
    own_fits : fitted (Talk branches) (f.branch ∷ f.words) ≡ f.branch ∷ f.words
    own_fits = (fits P pick f fine some is).0 (Talk branches) P.control (asking_is P)

    own_can : CanAnswer (Talk branches) (f.branch ∷ f.words)
    own_can = can_answer (Talk branches) (f.branch ∷ f.words) tt own_fits

    pub own_answer : IsSomeAnd (hart_of m.table slot) (λ hart. CanTake hart (f.branch ∷ f.words))
    own_answer = own_takes P (f.branch ∷ f.words) tt own_can

    pub own_few : length f.words < 1025
    own_few = let r = received_few branches f.branch P.askable.each in let c = own_can in omega (arith, r, c)

    module _ (table : Table) (takes : TakesAnswer m.table slot (f.branch ∷ f.words) table) (w : Woken ℕ) (with : f.woke ≡ Some w) where
      pub their_few : length w.words < 1025
      their_few = let r = woken_few m.book.book slot branches P.askable.each pick f is w with in omega (arith, r)

      -- the hart of the one that was woken is as it was
      pub their_answer : IsSomeAnd (hart_of table w.by) (λ hart. CanTake hart (w.branch ∷ w.words))
      their_answer =
          subst (λ (t : Table). IsSomeAnd (hart_of t w.by) (λ hart. CanTake hart (w.branch ∷ w.words))) (sym takes.table)
          (subst (λ (o : Option HartFields). IsSomeAnd o (λ hart. CanTake hart (w.branch ∷ w.words))) (sym (hart-harted-other m.table slot (Some takes.hart) w.by (other P pick f fine some is table takes w with)))
          (other_takes P w.by (Talk talking.branches) talking.control (waits_too) (w.branch ∷ w.words) (lives_there P pick f fine some is table takes w with) tt apart_too (fits_too P pick f fine some is table takes w with)))
        where
          talking : IsTalking (renamed_offer P.name (partner P pick f fine some is table takes w with).0) (P.tasks (task_at P.name w.by))
          talking = was_talking P pick f fine some is table takes w with

          waits_too : P.tasks (task_at P.name w.by) ≡ Waits (Talk talking.branches) talking.control
          waits_too = talking.is

          apart_too : task_at P.name w.by ≢ task_at P.name slot
          apart_too e = apart P pick f fine some is table takes w with (same P w.by ∙ e ∙ sym (same P slot))

      -- what waking it requires
      module _ (after : Table) (takes_too : TakesAnswer table w.by (w.branch ∷ w.words) after) where
        pub wake_lives : lives after w.by ≡ true
        wake_lives = lives_after P pick f fine some is table takes w with after takes_too

        abbrev talking_2 : IsTalking (renamed_offer P.name (partner P pick f fine some is table takes w with).0) (P.tasks (task_at P.name w.by))
        talking_2 = was_talking P pick f fine some is table takes w with

        pub wake_blocked : has w.by (ready_of after (home_of after w.by)) ≡ false
        wake_blocked =
            ap (λ (t : Table). has w.by (ready_of t (home_of t w.by))) takes_too.table ∙ ap (λ q. has w.by (ready_of table q)) (home-harted_of table w.by (Some takes_too.hart) w.by)
            ∙ ap (λ (t : Table). has w.by (ready_of t (home_of t w.by))) takes.table ∙ ap (λ q. has w.by (ready_of m.table q)) (home-harted_of m.table slot (Some takes.hart) w.by)
            ∙ blocked P w.by (Talk talking_2.branches) talking_2.control talking_2.is

        pub wake_alone : has_branches nat_eq (λ t. 0) w.by after.procs ≡ false
        wake_alone =
            ap (λ (t : Table). has_branches nat_eq (λ t. 0) w.by t.procs) takes_too.table ∙ ap (λ (t : Table). has_branches nat_eq (λ t. 0) w.by t.procs) takes.table ∙ talk_alone P w.by talking_2.branches talking_2.control talking_2.is

-- ---- room for what starts

module _ {image : Contents} {slot : ℕ} {act : Act} {m : Machinery} (P : Posed image slot act m) where
  pub has_room : (more : ℕ) → is_full m.table.procs more ≡ false → live_tasks m.table.procs + more ≤ length m.table.tasks
  has_room more fine = on (leb_tells 1025 (live_tasks m.table.procs + more))
    where
      on : ((nat_lt 1024 (live_tasks m.table.procs + more) ≡ true) × (1025 ≤ live_tasks m.table.procs + more)) ⊎ ((nat_lt 1024 (live_tasks m.table.procs + more) ≡ false) × (live_tasks m.table.procs + more < 1025)) → live_tasks m.table.procs + more ≤ length m.table.tasks
      on (inl y) = absurd (let no = sym fine ∙ y.0 in cc)
      on (inr y) = let z = y.1 in let r = P.tasks_room in omega (arith, z, r)

  pub procs_count : length m.table.procs ≡ length P.shared.procs
  procs_count = sym (ap length (sym P.named.procs_is) ∙ length-map (renamed_proc (task_at P.name)) m.table.procs)

  pub channels_count : length m.book.book.channels ≡ length P.shared.book.channels
  channels_count = ap (λ (b : Book TalkName). length b.channels) P.named.book_is

-- there is one cause only
pub only_tasks : (f : StartFault) → f ≡ FullTasks
only_tasks FullTasks = refl

-- there is room after an answer too
pub room_left : {image : Contents} {slot : ℕ} {act : Act} {m : Machinery} (P : Posed image slot act m) (words : List ℕ) (table : Table) → TakesAnswer m.table slot words table → is_full m.table.procs 1 ≡ false → live_tasks table.procs ≡ length table.tasks → ⊥
room_left {image} {slot} {act} {m} P words table takes fine full =
    let r = has_room P 1 fine in
    let a : live_tasks table.procs ≡ live_tasks m.table.procs = ap (λ (t : Table). live_tasks t.procs) takes.table in
    let b : length table.tasks ≡ length m.table.tasks = ap (λ (t : Table). length t.tasks) takes.table ∙ length-changed slot (re_harted (Some takes.hart)) m.table.tasks in
    omega (arith, r, a, b, full)

-- what starting procs one after another requires
pub few_starts : {image : Contents} {slot : ℕ} {starts : List Start} {m : Machinery} (P : Posed image slot (Par starts) m) (n : ℕ) → length starts ≡ n → length m.table.procs + n < 2 ^ 32
few_starts {image} {slot} {starts} {m} P n is =
    let c = procs_count P in let f = P.few_procs in let k = P.askable.most in omega (arith, c, f, k, is)
