-- What each change of a table does to the world that it stands for.
use Rattle.std.proofs.Common.{◌≡◌, ◌≢◌, ℕ, ◌<◌, List, Option, Some, None, option_map, option_and_then, refl, sym, ap, ◌∙◌, subst, true, false, ◌==◌, ◌⊎◌, inl, inr}
use Rattle.std.specs.Prelude.{slice_get}
use Rattle.std.specs.List.{AllByRecursion}
use Rattle.std.proofs.lemmas.Option.{same_Some}
use Rattle.std.proofs.lemmas.Bool.Decides.{eqb_tells}
use Rattle.al_event.specs.declared.act.Act.{Act}
use Rattle.al_world.specs.Channels.{Book, Offer, changed_at}
use Rattle.al_world.specs.Procs.{ProcState, first_ready, first_of}
use Rattle.al_world.specs.Control.{fitted}
use Rattle.al_world.specs.World.{TaskName, TalkName, Held, Goes, Waits, Answered, told_one, at_task}
use Rattle.al_world.proofs.Lists.{all_to}
use Rattle.al_world.proofs.Maps.{at_task_cases, get-changed-same, get-changed-other}
use Rattle.rv_isa.specs.declared.image.Contents.{Contents}
use Rattle.rv_exec.specs.declared.run.Hart.{Hart as HartFields}
use Rattle.rv_exec.specs.Hart.{Hart}
use Rattle.rv_exec.specs.Calls.{Privates}
use Rattle.rv_exec.specs.Machine.{machine, resumed}
use Rattle.rv_exec.specs.Shown.{hart_of as machine_of}
use Rattle.task_book.specs.Table.{Table, lives, home_of, hart_of, is_away}
use Rattle.task_book.specs.Lending.{TakesAnswer}
use Rattle.al_core.specs.Stands.{task_at, IsNamed, HasHart, AreHere}
use Rattle.al_core.proofs.Tables.{lives-harted, home-harted_of, hart-harted-same, hart-harted-other, hart_lives, harted}
use Rattle.al_core.proofs.Naming.{AllIn, two_names}

-- ---- procs after a change of one

pub first-changed-other : {X : Type 0} (p q : ℕ) (f : ProcState X → ProcState X) (procs : List (ProcState X)) → q ≢ p → first_ready (changed_at p f procs) q ≡ first_ready procs q
first-changed-other p q f procs ne = ap (option_and_then (λ (r : ProcState _). first_of r.ready)) (get-changed-other p q f procs ne)

pub record ProcAll (P : ℕ → Type 0) (q : ProcState ℕ) : Type 0 where
  pub ready_all : AllByRecursion P q.ready
  pub parent_all : (u : ℕ) → q.parent ≡ Some u → P u

-- what all procs name, after a change of one
pub all_in_changed : (P : ℕ → Type 0) (k : ℕ) (f : ProcState ℕ → ProcState ℕ) (procs : List (ProcState ℕ)) → ((q : ProcState ℕ) → slice_get procs k ≡ Some q → AllByRecursion P q.ready → AllByRecursion P (f q).ready) → ((q : ProcState ℕ) (u : ℕ) → (f q).parent ≡ Some u → q.parent ≡ Some u) → AllIn P procs → AllIn P (changed_at k f procs)
all_in_changed P k f procs keeps parents a = record {
  ready = λ p q g. (both p q g).ready_all;
  parents = λ p q u g e. (both p q g).parent_all u e;
}
  where
    of : (o : Option (ProcState ℕ)) (q : ProcState ℕ) → slice_get procs k ≡ o → option_map f o ≡ Some q → ProcAll P q
    of None q g h = absurd (cc)
    of (Some r) q g h =
        subst (ProcAll P) (same_Some _ _ h)
        (record { ready_all = keeps r g (a.ready k r g); parent_all = λ u e. a.parents k r u g (parents r u e) })

    both : (p : ℕ) (q : ProcState ℕ) → slice_get (changed_at k f procs) p ≡ Some q → ProcAll P q
    both p q g = on (eqb_tells p k)
      where
        on : ((p == k ≡ true) × (p ≡ k)) ⊎ ((p == k ≡ false) × (p ≢ k)) → ProcAll P q
        on (inl e) = of (slice_get procs k) q refl (sym (get-changed-same k f procs) ∙ subst (λ p. slice_get (changed_at k f procs) p ≡ Some q) e.1 g)
        on (inr e) =
            let h : slice_get procs p ≡ Some q = sym (get-changed-other k p f procs e.1) ∙ g in
            record { ready_all = a.ready p q h; parent_all = λ u f. a.parents p q u h f }

-- ---- a table with the same slots

module _ {tb : Book TalkName} {tp : List (ProcState TaskName)} {st : ℕ → ℕ} {name : ℕ → TalkName} {book : Book ℕ} {table : Table} (N : IsNamed tb tp st name book table) where
  -- a task has another hart
  pub harted_named : (t : ℕ) (h : HartFields) → IsNamed tb tp st name book (harted table t (Some h))
  harted_named t h = record {
    book_is = N.book_is;
    procs_is = N.procs_is;
    apart = λ u v l m. N.apart u v (old u l) (old v m);
    homes = λ u l. N.homes u (old u l) ∙ sym (home-harted_of table t (Some h) u);
    were_started = λ u l. subst (λ q. (task_at name u).number < st q) (sym (home-harted_of table t (Some h) u)) (N.were_started u (old u l));
    ready = λ p q g. all_to (λ u. lives table u ≡ true) (λ u. lives (harted table t (Some h)) u ≡ true) new q.ready (N.ready p q g);
    parents = λ p q u g e. new u (N.parents p q u g e);
    waiting = all_to (λ (o : Offer ℕ). lives table o.by ≡ true) (λ (o : Offer ℕ). lives (harted table t (Some h)) o.by ≡ true) (λ o l. new o.by l) book.waiting N.waiting;
    here = λ u l e. here u l e;
  }
    where
      old : (u : ℕ) → lives (harted table t (Some h)) u ≡ true → lives table u ≡ true
      old u l = sym (lives-harted table t (Some h) u) ∙ l

      new : (u : ℕ) → lives table u ≡ true → lives (harted table t (Some h)) u ≡ true
      new u l = lives-harted table t (Some h) u ∙ l

      here : (u : ℕ) → lives (harted table t (Some h)) u ≡ true → hart_of (harted table t (Some h)) u ≡ None → (is_away table (home_of (harted table t (Some h)) u) ≡ true) × (first_ready table.procs (home_of (harted table t (Some h)) u) ≡ Some u)
      here u l e = on (eqb_tells u t)
        where
          on : ((u == t ≡ true) × (u ≡ t)) ⊎ ((u == t ≡ false) × (u ≢ t)) → (is_away table (home_of (harted table t (Some h)) u) ≡ true) × (first_ready table.procs (home_of (harted table t (Some h)) u) ≡ Some u)
          on (inl x) = absurd (let some = sym (hart-harted-same table t (Some h) (subst (λ u. lives table u ≡ true) x.1 (old u l))) ∙ subst (λ u. hart_of (harted table t (Some h)) u ≡ None) x.1 e in cc)
          on (inr x) =
              subst (λ q. (is_away table q ≡ true) × (first_ready table.procs q ≡ Some u)) (sym (home-harted_of table t (Some h) u)) (N.here u (old u l) (sym (hart-harted-other table t (Some h) u x.1) ∙ e))

  module _ {image : Contents} {T : TaskName → Held Hart} {U : ℕ → Privates} (H : AreHere image T U name table) where
    -- a task that holds something else has the hart for it
    pub harted_here : (t : ℕ) (h : HartFields) (x : Held Hart) → lives table t ≡ true → HasHart x h → AreHere image (at_task (task_at name t) x T) U name (harted table t (Some h))
    harted_here t h x l is = record {
      harts = λ u g e. on u g e (eqb_tells u t);
      privates_are = H.privates_are;
      bytes = H.bytes;
    }
      where
        on : (u : ℕ) (g : HartFields) → hart_of (harted table t (Some h)) u ≡ Some g → ((u == t ≡ true) × (u ≡ t)) ⊎ ((u == t ≡ false) × (u ≢ t)) → HasHart (at_task (task_at name t) x T (task_at name u)) g
        on u g e (inl y) =
            let same : h ≡ g = same_Some h g (sym (hart-harted-same table t (Some h) l) ∙ subst (λ u. hart_of (harted table t (Some h)) u ≡ Some g) y.1 e) in
            at_task_cases (λ z. HasHart z g) (task_at name t) (task_at name u) x T (λ _. subst (HasHart x) same is) (λ ne. absurd (ne (ap (task_at name) y.1)))
        on u g e (inr y) =
            let lu : lives table u ≡ true = sym (lives-harted table t (Some h) u) ∙ hart_lives (harted table t (Some h)) u g e in
            at_task_cases (λ z. HasHart z g) (task_at name t) (task_at name u) x T (λ s. absurd (two_names N u t lu l y.1 s)) (λ _. H.harts u g (sym (hart-harted-other table t (Some h) u y.1) ∙ e))

    -- a task that waits goes on with an answer that fits
    pub answered : (t : ℕ) (act : Act) (c : Hart) (words : List ℕ) (after : Table) → T (task_at name t) ≡ Waits act c → fitted act words ≡ words → TakesAnswer table t words after → IsNamed tb tp st name book after × AreHere image (at_task (task_at name t) (told_one (machine image) (Answered words) (T (task_at name t))) T) U name after
    answered t act c words after waits fits a = on (hart_of table t) refl a.resumed
      where
        on : (o : Option HartFields) → hart_of table t ≡ o → option_map (λ (h : HartFields). resumed (machine_of h) words) o ≡ Some (machine_of a.hart) → IsNamed tb tp st name book after × AreHere image (at_task (task_at name t) (told_one (machine image) (Answered words) (T (task_at name t))) T) U name after
        on None e r = absurd (cc)
        on (Some h) e r =
            let l : lives table t ≡ true = hart_lives table t h e in
            let had : HasHart (Waits act c) h = subst (λ x. HasHart x h) waits (H.harts t h e) in
            let goes : told_one (machine image) (Answered words) (T (task_at name t)) ≡ Goes (resumed c words) = ap (told_one (machine image) (Answered words)) waits ∙ ap (λ ws. Goes (resumed c ws)) fits in
            let has : HasHart (Goes (resumed c words)) a.hart = sym (same_Some _ _ r) ∙ ap (λ c. resumed c words) had.0 in
            subst (λ after. IsNamed tb tp st name book after × AreHere image (at_task (task_at name t) (told_one (machine image) (Answered words) (T (task_at name t))) T) U name after) (sym a.table)
            (harted_named t a.hart, harted_here t a.hart (told_one (machine image) (Answered words) (T (task_at name t))) l (subst (λ x. HasHart x a.hart) (sym goes) has))
