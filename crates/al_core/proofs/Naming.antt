-- Slots and the tasks that they stand for.
use Rattle.std.proofs.Common.{◌≡◌, ◌≢◌, ℕ, suc, ◌<◌, List, [], ◌∷◌, map, Option, Some, None, option_map, option_and_then, refl, sym, ap, ap₂, ◌∙◌, subst, true, false, ◌==◌, ◌⊎◌, inl, inr, if◌then◌else◌}
use Rattle.std.specs.Prelude.{slice_get, nat_eq}
use Rattle.std.specs.List.{AllByRecursion}
use Rattle.std.proofs.lemmas.Option.{same_Some}
use Rattle.std.proofs.lemmas.Bool.Decides.{eqb_tells}
use Rattle.al_world.specs.Channels.{Book, Offer}
use Rattle.al_world.specs.Procs.{ProcState, first_ready, first_of}
use Rattle.al_world.specs.Transfers.{IsIn}
use Rattle.al_world.specs.World.{TaskName, TalkName, same_task, same_talker}
use Rattle.al_world.specs.Renamed.{renamed_offer, renamed_book, renamed_proc, renamed_procs, AgreeInWaiting, AgreeInParents, TalksAreRenamed, ProcsAreRenamed}
use Rattle.al_world.proofs.Lists.{all_at, all_to}
use Rattle.al_world.proofs.Maps.{same_task_tells}
use Rattle.al_world.proofs.Renaming.{talks_are_renamed, procs_are_renamed}
use Rattle.task_book.specs.Table.{Table, lives, home_of}
use Rattle.al_core.specs.Stands.{task_at, IsNamed}

-- ---- lists under new names

map-agree : {X Y : Type 0} (f g : X → Y) (xs : List X) → AllByRecursion (λ x. f x ≡ g x) xs → map f xs ≡ map g xs
map-agree f g [] h = refl
map-agree f g (x ∷ xs) h = ap₂ (λ y ys. y ∷ ys) h.0 (map-agree f g xs h.1)

-- all that a waiting list and procs name
pub record AllIn (P : ℕ → Type 0) (procs : List (ProcState ℕ)) : Type 0 where
  pub ready : (p : ℕ) (q : ProcState ℕ) → slice_get procs p ≡ Some q → AllByRecursion P q.ready
  pub parents : (p : ℕ) (q : ProcState ℕ) (u : ℕ) → slice_get procs p ≡ Some q → q.parent ≡ Some u → P u

pub book-agree : (f g : ℕ → TalkName) (book : Book ℕ) → AllByRecursion (λ (o : Offer ℕ). f o.by ≡ g o.by) book.waiting → renamed_book f book ≡ renamed_book g book
book-agree f g book h =
    ap (λ l. record { channels = book.channels; waiting = l }) (map-agree (renamed_offer f) (renamed_offer g) book.waiting (all_to (λ (o : Offer ℕ). f o.by ≡ g o.by) (λ (o : Offer ℕ). renamed_offer f o ≡ renamed_offer g o) (λ (o : Offer ℕ) e. ap (λ (n : TalkName). record { by = n; number = o.number; branch = o.branch }) e) book.waiting h))

module _ (f g : ℕ → TaskName) (P : ℕ → Type 0) (agree : (u : ℕ) → P u → f u ≡ g u) where
  proc-agree : (q : ProcState ℕ) → AllByRecursion P q.ready → ((u : ℕ) → q.parent ≡ Some u → P u) → renamed_proc f q ≡ renamed_proc g q
  proc-agree q r h =
      ap₂ (λ (l : List TaskName) (o : Option TaskName). record { ready = l; live = q.live; parent = o }) (map-agree f g q.ready (all_to P (λ u. f u ≡ g u) agree q.ready r)) (on q.parent h)
    where
      on : (o : Option ℕ) → ((u : ℕ) → o ≡ Some u → P u) → option_map f o ≡ option_map g o
      on None h = refl
      on (Some u) h = ap Some (agree u (h u refl))

  pub procs-agree : (procs : List (ProcState ℕ)) → AllIn P procs → renamed_procs f procs ≡ renamed_procs g procs
  procs-agree [] a = refl
  procs-agree (q ∷ qs) a =
      ap₂ (λ y ys. y ∷ ys) (proc-agree q (a.ready 0 q refl) (λ u e. a.parents 0 q u refl e)) (procs-agree qs (record { ready = λ p q g. a.ready (suc p) q g; parents = λ p q u g e. a.parents (suc p) q u g e }))

-- ---- a naming with another name at one slot

abbrev pub with_name : ℕ → TalkName → (ℕ → TalkName) → ℕ → TalkName
with_name t n name u = if u == t then n else name u

pub name-same : (t : ℕ) (n : TalkName) (name : ℕ → TalkName) → with_name t n name t ≡ n
name-same t n name = on (eqb_tells t t)
  where
    on : ((t == t ≡ true) × (t ≡ t)) ⊎ ((t == t ≡ false) × (t ≢ t)) → with_name t n name t ≡ n
    on (inl e) = rw e.0 refl
    on (inr e) = absurd (e.1 refl)

pub name-other : (t u : ℕ) (n : TalkName) (name : ℕ → TalkName) → u ≢ t → with_name t n name u ≡ name u
name-other t u n name ne = on (eqb_tells u t)
  where
    on : ((u == t ≡ true) × (u ≡ t)) ⊎ ((u == t ≡ false) × (u ≢ t)) → with_name t n name u ≡ name u
    on (inl e) = absurd (ne e.1)
    on (inr e) = rw e.0 refl

-- ---- what a naming gives

module _ {tb : Book TalkName} {tp : List (ProcState TaskName)} {st : ℕ → ℕ} {name : ℕ → TalkName} {book : Book ℕ} {table : Table} (N : IsNamed tb tp st name book table) where
  pub agree_in_waiting : AgreeInWaiting name nat_eq same_talker book.waiting
  agree_in_waiting = record { agree = λ o x i j. N.apart o.by x.by (waits o i) (waits x j) }
    where
      waits : (o : Offer ℕ) → IsIn book.waiting o → lives table o.by ≡ true
      waits o i = all_at (λ (o : Offer ℕ). lives table o.by ≡ true) book.waiting o N.waiting i

  pub agree_in_parents : AgreeInParents (task_at name) nat_eq same_task (home_of table) (λ (u : TaskName). u.proc) table.procs
  agree_in_parents = record {
    agree = λ q r t u i j e f. N.apart t u (N.parents i.at q t i.is e) (N.parents j.at r u j.is f);
    homes = λ q t i e. N.homes t (N.parents i.at q t i.is e);
  }

  pub talks_named : TalksAreRenamed name nat_eq same_talker book
  talks_named = talks_are_renamed name nat_eq same_talker book agree_in_waiting

  pub procs_named : ProcsAreRenamed (task_at name) nat_eq same_task (home_of table) (λ (u : TaskName). u.proc) table.procs
  procs_named = procs_are_renamed (task_at name) nat_eq same_task (home_of table) (λ (u : TaskName). u.proc) table.procs agree_in_parents

  pub first_named : (p : ℕ) → first_ready tp p ≡ option_map (task_at name) (first_ready table.procs p)
  first_named p = ap (λ l. first_ready l p) (sym N.procs_is) ∙ procs_named.first_same p

  -- the first ready task of a proc is in a slot that has a task
  pub first_lives : (p t : ℕ) → first_ready table.procs p ≡ Some t → lives table t ≡ true
  first_lives p t f = on (slice_get table.procs p) refl f
    where
      of : (l : List ℕ) → AllByRecursion (λ t. lives table t ≡ true) l → first_of l ≡ Some t → lives table t ≡ true
      of [] a f = absurd (cc)
      of (u ∷ us) a f = subst (λ t. lives table t ≡ true) (same_Some u t f) a.0

      on : (o : Option (ProcState ℕ)) → slice_get table.procs p ≡ o → option_and_then (λ (q : ProcState ℕ). first_of q.ready) o ≡ Some t → lives table t ≡ true
      on None g f = absurd (cc)
      on (Some q) g f = of q.ready (N.ready p q g) f

  -- slots with tasks that stand for one task are one
  pub one_slot : (t u : ℕ) → lives table t ≡ true → lives table u ≡ true → task_at name t ≡ task_at name u → t ≡ u
  one_slot t u l m e = on (eqb_tells t u) (same_task_tells (task_at name t) (task_at name u))
    where
      on : ((t == u ≡ true) × (t ≡ u)) ⊎ ((t == u ≡ false) × (t ≢ u)) → ((same_task (task_at name t) (task_at name u) ≡ true) × (task_at name t ≡ task_at name u)) ⊎ ((same_task (task_at name t) (task_at name u) ≡ false) × (task_at name t ≢ task_at name u)) → t ≡ u
      on (inl x) y = x.1
      on (inr x) (inl y) = absurd (let a = sym y.0 ∙ N.apart t u l m ∙ x.0 in cc)
      on (inr x) (inr y) = absurd (y.1 e)

  -- and two slots stand for two tasks
  pub two_names : (t u : ℕ) → lives table t ≡ true → lives table u ≡ true → t ≢ u → task_at name t ≢ task_at name u
  two_names t u l m ne e = ne (one_slot t u l m e)

  -- a task is called by another of its talks, while none of its branches waits
  module _ (t : ℕ) (n : TalkName) (same : n.task ≡ task_at name t) (out : AllByRecursion (λ (o : Offer ℕ). o.by ≢ t) book.waiting) where
    pub task_same : (u : ℕ) → task_at (with_name t n name) u ≡ task_at name u
    task_same u = on (eqb_tells u t)
      where
        on : ((u == t ≡ true) × (u ≡ t)) ⊎ ((u == t ≡ false) × (u ≢ t)) → task_at (with_name t n name) u ≡ task_at name u
        on (inl e) = subst (λ u. task_at (with_name t n name) u ≡ task_at name u) (sym e.1) (ap (λ (k : TalkName). k.task) (name-same t n name) ∙ same)
        on (inr e) = ap (λ (k : TalkName). k.task) (name-other t u n name e.1)

    pub talk_renamed : IsNamed tb tp st (with_name t n name) book table
    talk_renamed = record {
      book_is = book-agree (with_name t n name) name book (all_to (λ (o : Offer ℕ). o.by ≢ t) (λ (o : Offer ℕ). with_name t n name o.by ≡ name o.by) (λ (o : Offer ℕ) ne. name-other t o.by n name ne) book.waiting out) ∙ N.book_is;
      procs_is = procs-agree (task_at (with_name t n name)) (task_at name) (λ u. lives table u ≡ true) (λ u l. task_same u) table.procs (record { ready = N.ready; parents = N.parents }) ∙ N.procs_is;
      apart = λ u v l m. ap₂ same_task (task_same u) (task_same v) ∙ N.apart u v l m;
      homes = λ u l. ap (λ (k : TaskName). k.proc) (task_same u) ∙ N.homes u l;
      were_started = λ u l. subst (λ (k : TaskName). k.number < st (home_of table u)) (sym (task_same u)) (N.were_started u l);
      ready = N.ready;
      parents = N.parents;
      waiting = N.waiting;
      here = N.here;
    }
