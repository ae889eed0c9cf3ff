-- A task that begins in a proc, and a proc that begins.
use Rattle.std.proofs.Common.{◌≡◌, ◌≢◌, ℕ, zero, suc, ◌+◌, ◌<◌, ◌≤◌, List, [], ◌∷◌, ◌++◌, map, length, Option, Some, None, option_map, option_and_then, refl, sym, ap, ap₂, ◌∙◌, subst, true, false, ◌&&◌, ◌⊎◌, inl, inr, arith, le_refl}
use Rattle.std.specs.Prelude.{slice_get, slice_set, nat_lt, is_some, is_none}
use Rattle.std.specs.Option.{option_map_or}
use Rattle.std.specs.List.{AllByRecursion}
use Rattle.std.proofs.lemmas.Option.{same_Some, slice_get_within}
use Rattle.al_event.specs.declared.act.Start.{Start}
use Rattle.rv_isa.specs.declared.image.Contents.{Contents}
use Rattle.al_world.specs.Channels.{Book, changed_at}
use Rattle.al_world.specs.Procs.{ProcState, first_ready, first_of, starts_in_proc, new_proc}
use Rattle.al_world.specs.World.{TaskName, TalkName, Held, Absent, Goes, Begins, told_one, at_task, at_proc}
use Rattle.al_world.specs.Actions.{first_task}
use Rattle.al_world.specs.Renamed.{renamed_proc, renamed_procs}
use Rattle.al_world.proofs.Lists.{all_to, all_append}
use Rattle.al_world.proofs.Maps.{at_proc_cases, get-changed-other}
use Rattle.rv_exec.specs.declared.run.Hart.{Hart as HartFields}
use Rattle.rv_exec.specs.declared.run.Privates.{Privates as PrivatesFields}
use Rattle.rv_exec.specs.Hart.{Hart}
use Rattle.rv_exec.specs.Calls.{Privates}
use Rattle.rv_exec.specs.Machine.{machine, started}
use Rattle.rv_exec.specs.Shown.{hart_of as machine_of, privates_of, bytes_of}
use Rattle.task_book.specs.Table.{Table, TaskState, at, lives, home_of, is_away}
use Rattle.task_book.specs.Starting.{StartsTask, StartsProc}
use Rattle.al_core.specs.Stands.{task_at, IsNamed, HasHart, AreHere}
use Rattle.al_core.proofs.Naming.{AllIn, procs_named, with_name, name-same}
use Rattle.al_core.proofs.Holding.{first-changed-other, all_in_changed}
use Rattle.al_core.proofs.Moving.{dead_named, dead_task, dead_here}
use Rattle.al_core.proofs.Tables.{lives-filled-other, home-filled-other}
use Rattle.al_core.proofs.Starting.{begun_named, begun_here}

-- what began is there, and all else as before: under a naming that is the old one where a task lived
pub record Began (image : Contents) (tb : Book TalkName) (tp : List (ProcState TaskName)) (st : ℕ → ℕ) (T : TaskName → Held Hart) (U : ℕ → Privates) (name : ℕ → TalkName) (book : Book ℕ) (table after : Table) : Type 0 where
  pub name_after : ℕ → TalkName
  pub named : IsNamed tb tp st name_after book after
  pub here : AreHere image T U name_after after
  pub same : (u : ℕ) → lives table u ≡ true → task_at name_after u ≡ task_at name u
  pub still : (u : ℕ) → lives table u ≡ true → lives after u ≡ true
  pub homes : (u : ℕ) → lives table u ≡ true → home_of after u ≡ home_of table u

dead_slot : (table : Table) (t : ℕ) → slice_get table.tasks t ≡ Some None → lives table t ≡ false
dead_slot table t e = ap (λ (o : Option (Option TaskState)). is_some (option_and_then (λ o. o) o)) e

-- ---- lists with one element more

pub length-map : {X Y : Type 0} (f : X → Y) (xs : List X) → length (map f xs) ≡ length xs
length-map f [] = refl
length-map f (x ∷ xs) = ap suc (length-map f xs)

map-append-one : {X Y : Type 0} (f : X → Y) (xs : List X) (x : X) → map f (xs ++ x ∷ []) ≡ map f xs ++ f x ∷ []
map-append-one f [] x = refl
map-append-one f (y ∷ ys) x = ap (λ l. f y ∷ l) (map-append-one f ys x)

pub get_append_left : {X : Type 0} (xs : List X) (x : X) (k : ℕ) → k < length xs → slice_get (xs ++ x ∷ []) k ≡ slice_get xs k
get_append_left [] x k lt = absurd (omega (arith, lt))
get_append_left (y ∷ ys) x zero lt = refl
get_append_left (y ∷ ys) x (suc k) lt = get_append_left ys x k (omega (arith, lt))

pub get_append_cases : {X : Type 0} (xs : List X) (x y : X) (k : ℕ) → slice_get (xs ++ x ∷ []) k ≡ Some y → (slice_get xs k ≡ Some y) ⊎ ((k ≡ length xs) × (x ≡ y))
get_append_cases [] x y zero g = inr (refl, same_Some x y g)
get_append_cases [] x y (suc k) g = absurd (cc)
get_append_cases (z ∷ zs) x y zero g = inl g
get_append_cases (z ∷ zs) x y (suc k) g = on (get_append_cases zs x y k g)
  where
    on : (slice_get zs k ≡ Some y) ⊎ ((k ≡ length zs) × (x ≡ y)) → (slice_get zs k ≡ Some y) ⊎ ((suc k ≡ suc (length zs)) × (x ≡ y))
    on (inl e) = inl e
    on (inr e) = inr (ap suc e.0, e.1)

at_append_one : {X : Type 0} (xs : List (Option X)) (x : X) (k : ℕ) (y : X) → at (xs ++ Some x ∷ []) k ≡ Some y → (at xs k ≡ Some y) ⊎ ((k ≡ length xs) × (x ≡ y))
at_append_one {X} xs x k y e = of (slice_get (xs ++ Some x ∷ []) k) refl e
  where
    of : (o : Option (Option X)) → slice_get (xs ++ Some x ∷ []) k ≡ o → option_and_then (λ o. o) o ≡ Some y → (at xs k ≡ Some y) ⊎ ((k ≡ length xs) × (x ≡ y))
    of None g e = absurd (cc)
    of (Some o) g e = on (get_append_cases xs (Some x) (Some y) k (g ∙ ap Some e))
      where
        on : (slice_get xs k ≡ Some (Some y)) ⊎ ((k ≡ length xs) × (Some x ≡ Some y)) → (at xs k ≡ Some y) ⊎ ((k ≡ length xs) × (x ≡ y))
        on (inl h) = inl (ap (λ (o : Option (Option X)). option_and_then (λ o. o) o) h)
        on (inr h) = inr (h.0, same_Some x y h.1)

-- a proc that has a ready task is there
pub first_within : {X : Type 0} (procs : List (ProcState X)) (q : ℕ) (u : X) → first_ready procs q ≡ Some u → q < length procs
first_within {X} procs q u e = on (slice_get procs q) refl e
  where
    on : (o : Option (ProcState X)) → slice_get procs q ≡ o → option_and_then (λ (r : ProcState X). first_of r.ready) o ≡ Some u → q < length procs
    on None g e = absurd (cc)
    on (Some r) g e = slice_get_within procs q r g

all_in_append : (P : ℕ → Type 0) (procs : List (ProcState ℕ)) (x : ProcState ℕ) → AllByRecursion P x.ready → ((u : ℕ) → x.parent ≡ Some u → P u) → AllIn P procs → AllIn P (procs ++ x ∷ [])
all_in_append P procs x r h a = record {
  ready = λ q y g. on_ready q y (get_append_cases procs x y q g);
  parents = λ q y u g e. on_parent q y u e (get_append_cases procs x y q g);
}
  where
    on_ready : (q : ℕ) (y : ProcState ℕ) → (slice_get procs q ≡ Some y) ⊎ ((q ≡ length procs) × (x ≡ y)) → AllByRecursion P y.ready
    on_ready q y (inl g) = a.ready q y g
    on_ready q y (inr g) = subst (λ (y : ProcState ℕ). AllByRecursion P y.ready) g.1 r

    on_parent : (q : ℕ) (y : ProcState ℕ) (u : ℕ) → y.parent ≡ Some u → (slice_get procs q ≡ Some y) ⊎ ((q ≡ length procs) × (x ≡ y)) → P u
    on_parent q y u e (inl g) = a.parents q y u g e
    on_parent q y u e (inr g) = h u (ap (λ (y : ProcState ℕ). y.parent) g.1 ∙ e)

-- a change of another proc
pub away-other : (s : Table) (p q : ℕ) (f : ProcState ℕ → ProcState ℕ) → q ≢ p → is_away (record s { procs = changed_at p f s.procs }) q ≡ is_away s q
away-other s p q f ne =
    ap (λ (o : Option (ProcState ℕ)). nat_lt 0 (option_map_or (λ (r : ProcState ℕ). r.live) o 0) && is_none (at s.privates q)) (get-changed-other p q f s.procs ne)

begins_goes : (image : Contents) (start : Start) (h : Held Hart) → h ≡ Absent → told_one (machine image) (Begins start) h ≡ Goes (started image start.code start.words)
begins_goes image start h e = ap (told_one (machine image) (Begins start)) e

module _ {image : Contents} {tb : Book TalkName} {tp : List (ProcState TaskName)} {st : ℕ → ℕ} {T : TaskName → Held Hart} {U : ℕ → Privates} {name : ℕ → TalkName} {book : Book ℕ} {table : Table} (N : IsNamed tb tp st name book table) (H : AreHere image T U name table) where
  -- ---- a task in a proc that is not away

  module _ (start : Start) (p t : ℕ) (hart : HartFields) (after : Table) (is : machine_of hart ≡ started image start.code start.words) (home : is_away table p ≡ false) (begins : StartsTask p hart t table after) where
    abbrev next : TaskName
    next = record { proc = p; number = st p }

    abbrev name_1 : ℕ → TalkName
    name_1 = with_name t (record { task = next; entry = 0 }) name

    abbrev more : List (ProcState ℕ)
    more = starts_in_proc p t table.procs

    dead : lives table t ≡ false
    dead = dead_slot table t begins.unused

    N1 : IsNamed tb tp st name_1 book table
    N1 = dead_named N t (record { task = next; entry = 0 }) dead

    mine : task_at name_1 t ≡ next
    mine = ap (λ (k : TalkName). k.task) (name-same t (record { task = next; entry = 0 }) name)

    procs_are : renamed_procs (task_at name_1) more ≡ starts_in_proc p next tp
    procs_are =
        sym ((procs_named N1).starts_same p t) ∙ ap₂ (λ k l. starts_in_proc p k l) mine N1.procs_is

    fewer : (q : ℕ) → st q ≤ at_proc p (st p + 1) st q
    fewer q = at_proc_cases (λ y. st q ≤ y) p q (st p + 1) st (λ e. subst (λ q. st q ≤ st p + 1) (sym e) (omega arith)) (λ _. omega arith)

    counted : (task_at name_1 t).number < at_proc p (st p + 1) st p
    counted =
        subst (λ (k : TaskName). k.number < at_proc p (st p + 1) st p) (sym mine) (at_proc_cases (λ y. st p < y) p p (st p + 1) st (λ _. omega arith) (λ ne. absurd (ne refl)))

    new : (u : ℕ) → lives table u ≡ true → task_at name_1 u ≢ task_at name_1 t
    new u l e =
        let k : task_at name_1 u ≡ next = e ∙ mine in
        let h : home_of table u ≡ p = sym (N1.homes u l) ∙ ap (λ (n : TaskName). n.proc) k in
        let less : st p < st (home_of table u) = subst (λ (n : TaskName). n.number < st (home_of table u)) k (N1.were_started u l) in
        let less_too : st p < st p = subst (λ q. st p < st q) h less in
        omega (arith, less_too)

    all : AllIn (λ u. (u ≡ t) ⊎ (lives table u ≡ true)) more
    all =
        all_in_changed (λ u. (u ≡ t) ⊎ (lives table u ≡ true)) p (λ (q : ProcState ℕ). record q { ready = q.ready ++ t ∷ []; live = q.live + 1 }) table.procs (λ q g a. all_append (λ u. (u ≡ t) ⊎ (lives table u ≡ true)) q.ready (t ∷ []) a (inl refl, tt)) (λ q u e. e) (record { ready = λ q r g. all_to (λ u. lives table u ≡ true) (λ u. (u ≡ t) ⊎ (lives table u ≡ true)) (λ u l. inr l) r.ready (N.ready q r g); parents = λ q r u g e. inr (N.parents q r u g e) })

    out : (q u : ℕ) → (is_away table q ≡ true) × (first_ready table.procs q ≡ Some u) → (is_away (record { procs = more; tasks = table.tasks; privates = table.privates }) q ≡ true) × (first_ready more q ≡ Some u)
    out q u x =
        let ne : q ≢ p = λ e. let no = sym home ∙ ap (is_away table) (sym e) ∙ x.0 in cc in
        (away-other table p q (λ (q : ProcState ℕ). record q { ready = q.ready ++ t ∷ []; live = q.live + 1 }) ne ∙ x.0, first-changed-other p q (λ (q : ProcState ℕ). record q { ready = q.ready ++ t ∷ []; live = q.live + 1 }) table.procs ne ∙ x.1)

    pub task_begins : T next ≡ Absent → Began image tb (starts_in_proc p next tp) (at_proc p (st p + 1) st) (at_task next (told_one (machine image) (Begins start) (T next)) T) U name book table after
    task_begins absent =
        subst (Began image tb (starts_in_proc p next tp) (at_proc p (st p + 1) st) (at_task next (told_one (machine image) (Begins start) (T next)) T) U name book table) (sym begins.table)
        (record {
          name_after = name_1;
          named = begun_named N1 t (record { home = p; hart = Some hart }) more table.privates (starts_in_proc p next tp) (at_proc p (st p + 1) st) within dead procs_are (ap (λ (k : TaskName). k.proc) mine) counted fewer new all hart refl out;
          here = subst (λ k. AreHere image (at_task k (told_one (machine image) (Begins start) (T next)) T) U name_1 (record table { procs = more; tasks = slice_set table.tasks t (Some (record { home = p; hart = Some hart })) })) mine (begun_here N1 t (record { home = p; hart = Some hart }) more table.privates (starts_in_proc p next tp) (at_proc p (st p + 1) st) within dead procs_are (ap (λ (k : TaskName). k.proc) mine) counted fewer new all hart refl out image T U (told_one (machine image) (Begins start) (T next)) (subst (λ h. HasHart h hart) (sym (begins_goes image start (T next) absent)) is) (dead_here N t (record { task = next; entry = 0 }) dead image T U H));
          same = λ u l. dead_task N t (record { task = next; entry = 0 }) dead u l;
          still = λ u l. lives-filled-other table t (Some (record { home = p; hart = Some hart })) u (other u l) ∙ l;
          homes = λ u l. home-filled-other table t (Some (record { home = p; hart = Some hart })) u (other u l);
        })
      where
        within : t < length table.tasks
        within = slice_get_within table.tasks t None begins.unused

        other : (u : ℕ) → lives table u ≡ true → u ≢ t
        other u l e = let no = sym l ∙ ap (lives table) e ∙ dead in cc

  -- ---- a proc

  length_named : length tp ≡ length table.procs
  length_named = ap length (sym N.procs_is) ∙ length-map (renamed_proc (task_at name)) table.procs

  module _ (start : Start) (parent : Option ℕ) (hart : HartFields) (privates : PrivatesFields) (after : Table) (is : machine_of hart ≡ started image start.code start.words) (bytes_are : bytes_of privates ≡ image.privates) (zeros : (k : ℕ) → privates_of privates k ≡ 0) (lives_parent : (u : ℕ) → parent ≡ Some u → lives table u ≡ true) (room : length table.privates ≡ length table.procs) (unstarted : (q : ℕ) → length tp ≤ q → st q ≡ 0) (fresh : U (length tp) ≡ (machine image).fresh) (begins : StartsProc parent hart privates (length table.procs) table after) where
    abbrev first_1 : TaskName
    first_1 = first_task (length tp)

    abbrev t_1 : ℕ
    t_1 = begins.slot

    abbrev n_1 : TalkName
    n_1 = record { task = first_1; entry = 0 }

    abbrev name_2 : ℕ → TalkName
    name_2 = with_name t_1 n_1 name

    abbrev state_1 : TaskState
    state_1 = record { home = length table.procs; hart = Some hart }

    abbrev procs_1 : List (ProcState ℕ)
    procs_1 = table.procs ++ new_proc parent t_1 ∷ []

    abbrev privates_1 : List (Option PrivatesFields)
    privates_1 = table.privates ++ Some privates ∷ []

    abbrev count_1 : ℕ → ℕ
    count_1 = at_proc (length tp) 1 st

    abbrev tp_1 : List (ProcState TaskName)
    tp_1 = tp ++ new_proc (option_map (task_at name) parent) first_1 ∷ []

    dead_1 : lives table t_1 ≡ false
    dead_1 = dead_slot table t_1 begins.unused

    N2 : IsNamed tb tp st name_2 book table
    N2 = dead_named N t_1 n_1 dead_1

    mine_1 : task_at name_2 t_1 ≡ first_1
    mine_1 = ap (λ (k : TalkName). k.task) (name-same t_1 n_1 name)

    parent_same : (o : Option ℕ) → ((u : ℕ) → o ≡ Some u → lives table u ≡ true) → option_map (task_at name_2) o ≡ option_map (task_at name) o
    parent_same None l = refl
    parent_same (Some u) l = ap Some (dead_task N t_1 n_1 dead_1 u (l u refl))

    procs_are_1 : renamed_procs (task_at name_2) procs_1 ≡ tp_1
    procs_are_1 =
        map-append-one (renamed_proc (task_at name_2)) table.procs (new_proc parent t_1) ∙ ap₂ (λ (l : List (ProcState TaskName)) (x : ProcState TaskName). l ++ x ∷ []) N2.procs_is (ap₂ (λ (o : Option TaskName) (k : TaskName). new_proc o k) (parent_same parent lives_parent) mine_1)

    home_1 : (task_at name_2 t_1).proc ≡ length table.procs
    home_1 = ap (λ (k : TaskName). k.proc) mine_1 ∙ length_named

    counted_1 : (task_at name_2 t_1).number < count_1 (length table.procs)
    counted_1 =
        subst (λ (k : TaskName). k.number < count_1 (length table.procs)) (sym mine_1) (subst (λ q. 0 < count_1 q) length_named (at_proc_cases (λ y. 0 < y) (length tp) (length tp) 1 st (λ _. omega arith) (λ ne. absurd (ne refl))))

    fewer_1 : (q : ℕ) → st q ≤ count_1 q
    fewer_1 q =
        at_proc_cases (λ y. st q ≤ y) (length tp) q 1 st (λ e. subst (λ k. k ≤ 1) (sym (unstarted q (subst (λ x. length tp ≤ x) (sym e) (le_refl _)))) (omega arith)) (λ _. omega arith)

    new_1 : (u : ℕ) → lives table u ≡ true → task_at name_2 u ≢ task_at name_2 t_1
    new_1 u l e =
        let k : task_at name_2 u ≡ first_1 = e ∙ mine_1 in
        let h : home_of table u ≡ length tp = sym (N2.homes u l) ∙ ap (λ (n : TaskName). n.proc) k in
        let less : (task_at name_2 u).number < st (length tp) = subst (λ q. (task_at name_2 u).number < st q) h (N2.were_started u l) in
        let none : st (length tp) ≡ 0 = unstarted (length tp) (le_refl _) in
        omega (arith, less, none)

    all_1 : AllIn (λ u. (u ≡ t_1) ⊎ (lives table u ≡ true)) procs_1
    all_1 =
        all_in_append (λ u. (u ≡ t_1) ⊎ (lives table u ≡ true)) table.procs (new_proc parent t_1) (inl refl, tt) (λ u e. inr (lives_parent u e)) (record { ready = λ q r g. all_to (λ u. lives table u ≡ true) (λ u. (u ≡ t_1) ⊎ (lives table u ≡ true)) (λ u l. inr l) r.ready (N.ready q r g); parents = λ q r u g e. inr (N.parents q r u g e) })

    out_1 : (q u : ℕ) → (is_away table q ≡ true) × (first_ready table.procs q ≡ Some u) → (is_away (record { procs = procs_1; tasks = table.tasks; privates = privates_1 }) q ≡ true) × (first_ready procs_1 q ≡ Some u)
    out_1 q u x =
        let lt : q < length table.procs = first_within table.procs q u x.1 in
        let lt_too : q < length table.privates = omega (arith, lt, room) in
        (ap₂ (λ (o : Option (ProcState ℕ)) (v : Option (Option PrivatesFields)). nat_lt 0 (option_map_or (λ (r : ProcState ℕ). r.live) o 0) && is_none (option_and_then (λ v. v) v)) (get_append_left table.procs (new_proc parent t_1) q lt) (get_append_left table.privates (Some privates) q lt_too) ∙ x.0, ap (option_and_then (λ (r : ProcState ℕ). first_of r.ready)) (get_append_left table.procs (new_proc parent t_1) q lt) ∙ x.1)

    zero_is : privates_of privates ≡ (machine image).fresh
    zero_is = λ i k. zeros k i

    here_1 : AreHere image T U name_2 (record table { privates = privates_1 })
    here_1 =
        let old = dead_here N t_1 n_1 dead_1 image T U H in record {
          harts = old.harts;
          privates_are = λ q v e. are q v (at_append_one table.privates privates q v e);
          bytes = λ q v e. sizes q v (at_append_one table.privates privates q v e);
        }
      where
        are : (q : ℕ) (v : PrivatesFields) → (at table.privates q ≡ Some v) ⊎ ((q ≡ length table.privates) × (privates ≡ v)) → privates_of v ≡ U q
        are q v (inl e) = H.privates_are q v e
        are q v (inr e) = ap privates_of (sym e.1) ∙ zero_is ∙ sym fresh ∙ ap U (length_named ∙ sym room ∙ sym e.0)

        sizes : (q : ℕ) (v : PrivatesFields) → (at table.privates q ≡ Some v) ⊎ ((q ≡ length table.privates) × (privates ≡ v)) → bytes_of v ≡ image.privates
        sizes q v (inl e) = H.bytes q v e
        sizes q v (inr e) = ap bytes_of (sym e.1) ∙ bytes_are

    pub proc_begins : T first_1 ≡ Absent → Began image tb tp_1 count_1 (at_task first_1 (told_one (machine image) (Begins start) (T first_1)) T) U name book table after
    proc_begins absent =
        subst (Began image tb tp_1 count_1 (at_task first_1 (told_one (machine image) (Begins start) (T first_1)) T) U name book table) (sym begins.table)
        (record {
          name_after = name_2;
          named = begun_named N2 t_1 state_1 procs_1 privates_1 tp_1 count_1 within dead_1 procs_are_1 home_1 counted_1 fewer_1 new_1 all_1 hart refl out_1;
          here = subst (λ k. AreHere image (at_task k (told_one (machine image) (Begins start) (T first_1)) T) U name_2 (record { procs = procs_1; tasks = slice_set table.tasks t_1 (Some state_1); privates = privates_1 })) mine_1 (begun_here N2 t_1 state_1 procs_1 privates_1 tp_1 count_1 within dead_1 procs_are_1 home_1 counted_1 fewer_1 new_1 all_1 hart refl out_1 image T U (told_one (machine image) (Begins start) (T first_1)) (subst (λ h. HasHart h hart) (sym (begins_goes image start (T first_1) absent)) is) here_1);
          same = λ u l. dead_task N t_1 n_1 dead_1 u l;
          still = λ u l. lives-filled-other table t_1 (Some state_1) u (other u l) ∙ l;
          homes = λ u l. home-filled-other table t_1 (Some state_1) u (other u l);
        })
      where
        within : t_1 < length table.tasks
        within = slice_get_within table.tasks t_1 None begins.unused

        other : (u : ℕ) → lives table u ≡ true → u ≢ t_1
        other u l e = let no = sym l ∙ ap (lives table) e ∙ dead_1 in cc
