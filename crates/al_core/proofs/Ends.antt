-- What the end of a task leaves of the others.
use Rattle.std.proofs.Common.{◌≡◌, ◌≢◌, ℕ, ◌-◌, List, [], ◌∷◌, ◌++◌, drop, Option, Some, None, option_map, option_and_then, refl, sym, ap, ◌∙◌, subst, true, false, Bool, cond, ◌==◌, ◌⊎◌, inl, inr}
use Rattle.std.specs.Prelude.{slice_get, nat_eq}
use Rattle.std.specs.Option.{option_map_or}
use Rattle.std.specs.List.{AllByRecursion}
use Rattle.std.proofs.lemmas.Option.{same_Some}
use Rattle.std.proofs.lemmas.Bool.Decides.{eqb_tells}
use Rattle.al_event.specs.declared.act.Act.TheVariants.{End}
use Rattle.rv_isa.specs.declared.image.Contents.{Contents}
use Rattle.al_world.specs.Channels.{Book, Offer, changed_at}
use Rattle.al_world.specs.Procs.{ProcState, Ended, first_ready, first_of, has_branches, joins, ends_proc, ends, loses_first, without_parent, joins_ready}
use Rattle.al_world.specs.World.{TalkName}
use Rattle.al_world.specs.Renamed.{renamed_offer}
use Rattle.al_world.proofs.Lists.{all_to}
use Rattle.al_world.proofs.Maps.{get-changed-same, get-changed-other}
use Rattle.al_world.specs.Sound.{IsTalking}
use Rattle.al_core.specs.Stands.{task_at}
use Rattle.al_core.specs.Acting.{Machinery, Posed}
use Rattle.al_core.proofs.Moving.{first-changed}
use Rattle.al_core.proofs.Talking.{all_unmap}

abbrev Procs : Type 0
Procs = List (ProcState ℕ)

-- how many tasks of a proc live
abbrev live_in : Procs → ℕ → ℕ
live_in procs q = option_map_or (λ (r : ProcState ℕ). r.live) (slice_get procs q) 0

-- procs other than p keep their first ready tasks, and as many as live
pub record KeepsOthers (p : ℕ) (before now : Procs) : Type 0 where
  pub live : (q : ℕ) → q ≢ p → live_in now q ≡ live_in before q
  pub first : (q u : ℕ) → q ≢ p → first_ready before q ≡ Some u → first_ready now q ≡ Some u

-- a change of proc p
changed_here : (p : ℕ) (before now : Procs) (f : ProcState ℕ → ProcState ℕ) → KeepsOthers p before now → KeepsOthers p before (changed_at p f now)
changed_here p before now f k = record {
  live = λ q ne. ap (λ (o : Option (ProcState ℕ)). option_map_or (λ (r : ProcState ℕ). r.live) o 0) (get-changed-other p q f now ne) ∙ k.live q ne;
  first = λ q u ne e. ap (option_and_then (λ (r : ProcState ℕ). first_of r.ready)) (get-changed-other p q f now ne) ∙ k.first q u ne e;
}

live_same : (j : ℕ) (f : ProcState ℕ → ProcState ℕ) (procs : Procs) → ((r : ProcState ℕ) → (f r).live ≡ r.live) → (q : ℕ) → live_in (changed_at j f procs) q ≡ live_in procs q
live_same j f procs keeps q = on (eqb_tells q j)
  where
    of : (o : Option (ProcState ℕ)) → option_map_or (λ (r : ProcState ℕ). r.live) (option_map f o) 0 ≡ option_map_or (λ (r : ProcState ℕ). r.live) o 0
    of None = refl
    of (Some r) = keeps r

    on : ((q == j ≡ true) × (q ≡ j)) ⊎ ((q == j ≡ false) × (q ≢ j)) → live_in (changed_at j f procs) q ≡ live_in procs q
    on (inl y) =
        subst (λ q. live_in (changed_at j f procs) q ≡ live_in procs q) (sym y.1)
        (ap (λ (o : Option (ProcState ℕ)). option_map_or (λ (r : ProcState ℕ). r.live) o 0) (get-changed-same j f procs) ∙ of (slice_get procs j))
    on (inr y) = ap (λ (o : Option (ProcState ℕ)). option_map_or (λ (r : ProcState ℕ). r.live) o 0) (get-changed-other j q f procs y.1)

first_append : (xs : List ℕ) (t u : ℕ) → first_of xs ≡ Some u → first_of (xs ++ t ∷ []) ≡ Some u
first_append [] t u e = absurd (cc)
first_append (x ∷ xs) t u e = e

-- a task joins a ready list
joined_there : (p j u : ℕ) (before now : Procs) → KeepsOthers p before now → KeepsOthers p before (joins_ready j u now)
joined_there p j u before now k = record {
  live = λ q ne. live_same j (λ (q : ProcState ℕ). record q { ready = q.ready ++ u ∷ [] }) now (λ r. refl) q ∙ k.live q ne;
  first = λ q v ne e. first-changed j (λ (q : ProcState ℕ). record q { ready = q.ready ++ u ∷ [] }) now (λ r v e. first_append r.ready u v e) q v (k.first q v ne e);
}

-- what comes of an end of proc p's first task
pub record EndKeeps (home : ℕ → ℕ) (p : ℕ) (procs : Procs) (e : Ended ℕ) : Type 0 where
  pub others : KeepsOthers p procs e.procs
  pub over : e.proc_ended ≡ true → live_in e.procs p ≡ 0
  pub woke : (u : ℕ) → e.woke ≡ Some u → (r : ProcState ℕ) × (slice_get procs p ≡ Some r) × (r.parent ≡ Some u)

module _ (home : ℕ → ℕ) (p : ℕ) (procs : Procs) where
  abbrev lost : Procs
  lost = loses_first p procs

  abbrev bare : Procs
  bare = without_parent p lost

  stays : KeepsOthers p procs procs
  stays = record { live = λ q ne. refl; first = λ q u ne e. e }

  lost_keeps : KeepsOthers p procs lost
  lost_keeps = changed_here p procs procs (λ (q : ProcState ℕ). record q { ready = drop 1 q.ready; live = q.live - 1 }) stays

  bare_keeps : KeepsOthers p procs bare
  bare_keeps = changed_here p procs lost (λ (q : ProcState ℕ). record q { parent = None }) lost_keeps

  bare_live : live_in bare p ≡ live_in lost p
  bare_live = live_same p (λ (q : ProcState ℕ). record q { parent = None }) lost (λ r. refl) p

  -- the parent that a proc has, after its first task left, is the one that it had
  had_parent : (q : ProcState ℕ) → slice_get lost p ≡ Some q → (u : ℕ) → q.parent ≡ Some u → (r : ProcState ℕ) × (slice_get procs p ≡ Some r) × (r.parent ≡ Some u)
  had_parent q g u e = on (slice_get procs p) refl (sym (get-changed-same p (λ (q : ProcState ℕ). record q { ready = drop 1 q.ready; live = q.live - 1 }) procs) ∙ g)
    where
      on : (o : Option (ProcState ℕ)) → slice_get procs p ≡ o → option_map (λ (q : ProcState ℕ). record q { ready = drop 1 q.ready; live = q.live - 1 }) o ≡ Some q → (r : ProcState ℕ) × (slice_get procs p ≡ Some r) × (r.parent ≡ Some u)
      on None f h = absurd (cc)
      on (Some r) f h = (r, f, ap (λ (q : ProcState ℕ). q.parent) (same_Some _ _ h) ∙ e)

  end_if : (b : Bool) (x y : Ended ℕ) → (b ≡ true → EndKeeps home p procs x) → (b ≡ false → EndKeeps home p procs y) → EndKeeps home p procs (cond b x y)
  end_if true x y h k = h refl
  end_if false x y h k = k refl

  joins_keep : (q : ProcState ℕ) → slice_get lost p ≡ Some q → live_in lost p ≡ 0 → (o : Option ℕ) → q.parent ≡ o → EndKeeps home p procs (joins nat_eq home bare o)
  joins_keep q g none None e = record { others = bare_keeps; over = λ _. bare_live ∙ none; woke = λ u f. absurd (cc) }
  joins_keep q g none (Some u) e =
      end_if (has_branches nat_eq home u bare) (record { procs = bare; proc_ended = true; woke = None }) (record { procs = joins_ready (home u) u bare; proc_ended = true; woke = Some u })
      (λ _. record { others = bare_keeps; over = λ _. bare_live ∙ none; woke = λ v f. absurd (cc) })
      (λ _. record {
        others = joined_there p (home u) u procs bare bare_keeps;
        over = λ _. live_same (home u) (λ (q : ProcState ℕ). record q { ready = q.ready ++ u ∷ [] }) bare (λ r. refl) p ∙ bare_live ∙ none;
        woke = λ v f. had_parent q g v (e ∙ ap Some (same_Some u v f));
      })

  pub end_keeps : EndKeeps home p procs (ends nat_eq home procs p)
  end_keeps = on (slice_get lost p) refl
    where
      on : (o : Option (ProcState ℕ)) → slice_get lost p ≡ o → EndKeeps home p procs (ends_proc nat_eq home lost p o)
      on None g = record { others = lost_keeps; over = λ f. absurd (cc); woke = λ u f. absurd (cc) }
      on (Some q) g =
          end_if (q.live == 0) (joins nat_eq home bare q.parent) (record { procs = lost; proc_ended = false; woke = None })
          (λ z. joins_keep q g (ap (λ (o : Option (ProcState ℕ)). option_map_or (λ (r : ProcState ℕ). r.live) o 0) g ∙ is_zero q.live z) q.parent refl)
          (λ _. record { others = lost_keeps; over = λ f. absurd (cc); woke = λ u f. absurd (cc) })
        where
          is_zero : (k : ℕ) → (k == 0) ≡ true → k ≡ 0
          is_zero k z = pick (eqb_tells k 0)
            where
              pick : ((k == 0 ≡ true) × (k ≡ 0)) ⊎ ((k == 0 ≡ false) × (k ≢ 0)) → k ≡ 0
              pick (inl y) = y.1
              pick (inr y) = absurd (let c = sym z ∙ y.0 in cc)

-- no branch of the task that ends waits
module _ {image : Contents} {slot : ℕ} {m : Machinery} (P : Posed image slot End m) where
  pub none_waits : AllByRecursion (λ (o : Offer ℕ). o.by ≢ slot) m.book.book.waiting
  none_waits =
      all_to (λ (o : Offer ℕ). IsTalking (renamed_offer P.name o) (P.tasks (task_at P.name o.by))) (λ (o : Offer ℕ). o.by ≢ slot) (λ o w e. let i = w.is in let c = sym P.going.is ∙ ap (λ s. P.tasks (task_at P.name s)) (sym e) ∙ i in cc) m.book.book.waiting
      (all_unmap (λ (o : Offer TalkName). IsTalking o (P.tasks o.by.task)) (renamed_offer P.name) m.book.book.waiting (subst (λ (b : Book TalkName). AllByRecursion (λ (o : Offer TalkName). IsTalking o (P.tasks o.by.task)) b.waiting) (sym P.named.book_is) P.sound.waiting))
