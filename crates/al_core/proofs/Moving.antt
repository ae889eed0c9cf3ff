-- What starts and ends in a table, and what becomes ready or leaves its ready list.
use Rattle.std.proofs.Common.{◌≡◌, ◌≢◌, ℕ, ◌<◌, List, [], ◌∷◌, ◌++◌, drop, Option, Some, None, option_map, option_and_then, refl, sym, ap, ap₂, ◌∙◌, subst, true, false, ◌==◌, ◌&&◌, ◌⊎◌, inl, inr}
use Rattle.std.specs.Prelude.{slice_get, nat_lt, is_none}
use Rattle.std.specs.Option.{option_map_or}
use Rattle.std.specs.List.{AllByRecursion}
use Rattle.std.proofs.lemmas.Bool.Decides.{eqb_tells}
use Rattle.al_world.specs.Channels.{Book, Offer, changed_at}
use Rattle.al_world.specs.Procs.{ProcState, first_ready, first_of, leaves_ready, joins_ready}
use Rattle.al_world.specs.World.{TaskName, TalkName, same_task, Held}
use Rattle.al_world.specs.Renamed.{renamed_book}
use Rattle.al_world.proofs.Lists.{all_to, all_append}
use Rattle.al_world.proofs.Maps.{get-changed-same, get-changed-other}
use Rattle.rv_isa.specs.declared.image.Contents.{Contents}
use Rattle.rv_exec.specs.Hart.{Hart}
use Rattle.rv_exec.specs.Calls.{Privates}
use Rattle.task_book.specs.Table.{Table, at, lives, home_of, live_of, is_away}
use Rattle.al_core.specs.Stands.{task_at, IsNamed, HasHart, AreHere}
use Rattle.al_core.proofs.Tables.{hart_lives}
use Rattle.al_core.proofs.Naming.{AllIn, procs_named, with_name, name-other, procs-agree, book-agree}
use Rattle.al_core.proofs.Holding.{first-changed-other, all_in_changed}

-- ---- ready lists

-- the first stays first where a change keeps it
pub first-changed : {X : Type 0} (p : ℕ) (f : ProcState X → ProcState X) (procs : List (ProcState X)) → ((r : ProcState X) (u : X) → first_of r.ready ≡ Some u → first_of (f r).ready ≡ Some u) → (q : ℕ) (u : X) → first_ready procs q ≡ Some u → first_ready (changed_at p f procs) q ≡ Some u
first-changed {X} p f procs keeps q u e = on (eqb_tells q p)
  where
    of : (o : Option (ProcState X)) → option_and_then (λ (r : ProcState X). first_of r.ready) o ≡ Some u → option_and_then (λ (r : ProcState X). first_of r.ready) (option_map f o) ≡ Some u
    of None e = absurd (cc)
    of (Some r) e = keeps r u e

    on : ((q == p ≡ true) × (q ≡ p)) ⊎ ((q == p ≡ false) × (q ≢ p)) → first_ready (changed_at p f procs) q ≡ Some u
    on (inl y) =
        subst (λ q. first_ready (changed_at p f procs) q ≡ Some u) (sym y.1)
        (ap (option_and_then (λ (r : ProcState X). first_of r.ready)) (get-changed-same p f procs) ∙ of (slice_get procs p) (subst (λ q. first_ready procs q ≡ Some u) y.1 e))
    on (inr y) = first-changed-other p q f procs y.1 ∙ e

first-append : {X : Type 0} (xs : List X) (t u : X) → first_of xs ≡ Some u → first_of (xs ++ t ∷ []) ≡ Some u
first-append [] t u e = absurd (cc)
first-append (x ∷ xs) t u e = e

all_drop_one : (P : ℕ → Type 0) (xs : List ℕ) → AllByRecursion P xs → AllByRecursion P (drop 1 xs)
all_drop_one P [] h = tt
all_drop_one P (x ∷ xs) h = h.1

-- how many live, after a change that keeps that
live-changed : (s : Table) (p : ℕ) (f : ProcState ℕ → ProcState ℕ) → ((r : ProcState ℕ) → (f r).live ≡ r.live) → (q : ℕ) → live_of (record s { procs = changed_at p f s.procs }) q ≡ live_of s q
live-changed s p f keeps q = on (eqb_tells q p)
  where
    count : Option (ProcState ℕ) → ℕ
    count o = option_map_or (λ (r : ProcState ℕ). r.live) o 0

    of : (o : Option (ProcState ℕ)) → option_map_or (λ (r : ProcState ℕ). r.live) (option_map f o) 0 ≡ option_map_or (λ (r : ProcState ℕ). r.live) o 0
    of None = refl
    of (Some r) = keeps r

    on : ((q == p ≡ true) × (q ≡ p)) ⊎ ((q == p ≡ false) × (q ≢ p)) → live_of (record s { procs = changed_at p f s.procs }) q ≡ live_of s q
    on (inl y) =
        subst (λ q. live_of (record s { procs = changed_at p f s.procs }) q ≡ live_of s q) (sym y.1)
        (ap (λ (o : Option (ProcState ℕ)). option_map_or (λ (r : ProcState ℕ). r.live) o 0) (get-changed-same p f s.procs) ∙ of (slice_get s.procs p))
    on (inr y) = ap (λ (o : Option (ProcState ℕ)). option_map_or (λ (r : ProcState ℕ). r.live) o 0) (get-changed-other p q f s.procs y.1)

pub away-changed : (s : Table) (p : ℕ) (f : ProcState ℕ → ProcState ℕ) → ((r : ProcState ℕ) → (f r).live ≡ r.live) → (q : ℕ) → is_away (record s { procs = changed_at p f s.procs }) q ≡ is_away s q
away-changed s p f keeps q = ap (λ n. nat_lt 0 n && is_none (at s.privates q)) (live-changed s p f keeps q)

module _ {tb : Book TalkName} {tp : List (ProcState TaskName)} {st : ℕ → ℕ} {name : ℕ → TalkName} {book : Book ℕ} {table : Table} (N : IsNamed tb tp st name book table) where
  -- the first task of a proc that is not away leaves its ready list
  pub leaves_named : (p : ℕ) → is_away table p ≡ false → IsNamed tb (leaves_ready p tp) st name book (record table { procs = leaves_ready p table.procs })
  leaves_named p home = record {
    book_is = N.book_is;
    procs_is = sym ((procs_named N).leaves_same p) ∙ ap (leaves_ready p) N.procs_is;
    apart = N.apart;
    homes = N.homes;
    were_started = N.were_started;
    ready = all.ready;
    parents = all.parents;
    waiting = N.waiting;
    here = λ u l e. here u (N.here u l e);
  }
    where
      f : ProcState ℕ → ProcState ℕ
      f q = record q { ready = drop 1 q.ready }

      all : AllIn (λ u. lives table u ≡ true) (leaves_ready p table.procs)
      all = all_in_changed (λ u. lives table u ≡ true) p (λ (q : ProcState ℕ). record q { ready = drop 1 q.ready }) table.procs (λ q g a. all_drop_one (λ u. lives table u ≡ true) q.ready a) (λ q u e. e) (record { ready = N.ready; parents = N.parents })

      here : (u : ℕ) → (is_away table (home_of table u) ≡ true) × (first_ready table.procs (home_of table u) ≡ Some u) → (is_away (record table { procs = leaves_ready p table.procs }) (home_of table u) ≡ true) × (first_ready (leaves_ready p table.procs) (home_of table u) ≡ Some u)
      here u x = (away-changed table p (λ (q : ProcState ℕ). record q { ready = drop 1 q.ready }) (λ r. refl) (home_of table u) ∙ x.0, first-changed-other p (home_of table u) (λ (q : ProcState ℕ). record q { ready = drop 1 q.ready }) table.procs (λ y. let no = sym home ∙ ap (is_away table) (sym y) ∙ x.0 in cc) ∙ x.1)

  -- a task becomes ready
  pub joins_named : (p t : ℕ) → lives table t ≡ true → IsNamed tb (joins_ready p (task_at name t) tp) st name book (record table { procs = joins_ready p t table.procs })
  joins_named p t l = record {
    book_is = N.book_is;
    procs_is = sym ((procs_named N).joins_same p t) ∙ ap (joins_ready p (task_at name t)) N.procs_is;
    apart = N.apart;
    homes = N.homes;
    were_started = N.were_started;
    ready = all.ready;
    parents = all.parents;
    waiting = N.waiting;
    here = λ u k e. here u (N.here u k e);
  }
    where
      all : AllIn (λ u. lives table u ≡ true) (joins_ready p t table.procs)
      all = all_in_changed (λ u. lives table u ≡ true) p (λ (q : ProcState ℕ). record q { ready = q.ready ++ t ∷ [] }) table.procs (λ q g a. all_append (λ u. lives table u ≡ true) q.ready (t ∷ []) a (l, tt)) (λ q u e. e) (record { ready = N.ready; parents = N.parents })

      here : (u : ℕ) → (is_away table (home_of table u) ≡ true) × (first_ready table.procs (home_of table u) ≡ Some u) → (is_away (record table { procs = joins_ready p t table.procs }) (home_of table u) ≡ true) × (first_ready (joins_ready p t table.procs) (home_of table u) ≡ Some u)
      here u x = (away-changed table p (λ (q : ProcState ℕ). record q { ready = q.ready ++ t ∷ [] }) (λ r. refl) (home_of table u) ∙ x.0, first-changed p (λ (q : ProcState ℕ). record q { ready = q.ready ++ t ∷ [] }) table.procs (λ r v e. first-append r.ready t v e) (home_of table u) u x.1)

  -- another book
  pub book_named : (talks : Book TalkName) (after : Book ℕ) → renamed_book name after ≡ talks → AllByRecursion (λ (o : Offer ℕ). lives table o.by ≡ true) after.waiting → IsNamed talks tp st name after table
  book_named talks after is l = record {
    book_is = is;
    procs_is = N.procs_is;
    apart = N.apart;
    homes = N.homes;
    were_started = N.were_started;
    ready = N.ready;
    parents = N.parents;
    waiting = l;
    here = N.here;
  }

  -- a slot without a task has any name
  module _ (slot : ℕ) (n : TalkName) (dead : lives table slot ≡ false) where
    not_dead : (u : ℕ) → lives table u ≡ true → u ≢ slot
    not_dead u l e = let no = sym l ∙ ap (lives table) e ∙ dead in cc

    pub dead_task : (u : ℕ) → lives table u ≡ true → task_at (with_name slot n name) u ≡ task_at name u
    dead_task u l = ap (λ (k : TalkName). k.task) (name-other slot u n name (not_dead u l))

    pub dead_named : IsNamed tb tp st (with_name slot n name) book table
    dead_named = record {
      book_is = book-agree (with_name slot n name) name book (all_to (λ (o : Offer ℕ). lives table o.by ≡ true) (λ (o : Offer ℕ). with_name slot n name o.by ≡ name o.by) (λ (o : Offer ℕ) l. name-other slot o.by n name (not_dead o.by l)) book.waiting N.waiting) ∙ N.book_is;
      procs_is = procs-agree (task_at (with_name slot n name)) (task_at name) (λ u. lives table u ≡ true) dead_task table.procs (record { ready = N.ready; parents = N.parents }) ∙ N.procs_is;
      apart = λ u v l m. ap₂ same_task (dead_task u l) (dead_task v m) ∙ N.apart u v l m;
      homes = λ u l. ap (λ (k : TaskName). k.proc) (dead_task u l) ∙ N.homes u l;
      were_started = λ u l. subst (λ (k : TaskName). k.number < st (home_of table u)) (sym (dead_task u l)) (N.were_started u l);
      ready = N.ready;
      parents = N.parents;
      waiting = N.waiting;
      here = N.here;
    }

    pub dead_here : (image : Contents) (T : TaskName → Held Hart) (U : ℕ → Privates) → AreHere image T U name table → AreHere image T U (with_name slot n name) table
    dead_here image T U H = record {
      harts = λ u h e. subst (λ k. HasHart (T k) h) (sym (dead_task u (hart_lives table u h e))) (H.harts u h e);
      privates_are = H.privates_are;
      bytes = H.bytes;
    }
