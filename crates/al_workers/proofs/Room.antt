-- From passes to workers and back, and the world that comes out of the lock.
use Rattle.std.proofs.Common.{◌≡◌, ℕ, ◌<◌, ◌≤◌, List, [], ◌∷◌, map, length, slice_index_or, Option, Some, None, All, refl, sym, ap, ◌∙◌, subst, arith, inl, inr}
use Rattle.std.specs.Prelude.{◌⊎◌, IsNone}
use Rattle.std.proofs.lemmas.Bool.{cases_lt}
use Rattle.std.proofs.lemmas.List.{get_or-map, length-map}
use Rattle.store_lock.specs.declared.pass.Pass.{Pass}
use Rattle.store_lock.specs.Locks.{lock_origin, lock_seats}
use Rattle.store_lock.specs.Passes.{pass_number, loan, IsMember, IsNew, AreNew, AreAllAtRest, Closes}
use Rattle.store_lock.proofs.Closing.{all_at_rest}
use Rattle.al_core.specs.declared.sharing.Terms.{Terms}
use Rattle.al_core.specs.History.{History, loan_of, away}
use Rattle.al_core.specs.Sharing.{world_entries, terms_of, world_lent}
use Rattle.al_core.specs.WorldMemo.{world_memo}
use Rattle.al_rounds.specs.Later.{IsLater, IsMerged}
use Rattle.al_rounds.proofs.Later.{none_lent, none_away, stays_by, later_by, merged_alone}
use Rattle.al_workers.specs.declared.crew.Worker.{Worker}
use Rattle.al_workers.specs.Working.{WorldLock, IsWorkersPass}
use Rattle.al_workers.specs.Crew.{hired, pass_of, IsReady, AreReady, HaveWorked}

-- ---- rounds, one after the other

pub untouched : (workers : ℕ) (old new : History) → new ≡ old → IsMerged workers old new
untouched workers old new e = subst (IsMerged workers old) (sym e) (stays_by (λ w. w < workers) old old refl refl refl refl refl refl)

pub merged_by_one : (workers : ℕ) (old allowed new : History) → 1 ≤ workers → allowed ≡ old → IsLater 0 allowed new → IsMerged workers old new
merged_by_one workers old allowed new some e later = subst (λ (h : History). IsMerged workers h new) e (merged_alone workers allowed new some later)

pub merged_so_far : (workers : ℕ) (old allowed new : History) → allowed ≡ old → IsMerged workers allowed new → IsMerged workers old new
merged_so_far workers old allowed new e later = subst (λ (h : History). IsMerged workers h new) e later

pub merged_by_all : (workers : ℕ) (old allowed closed new : History) → 1 ≤ workers → allowed ≡ old → IsMerged workers allowed closed → IsLater 0 closed new → IsMerged workers old new
merged_by_all workers old allowed closed new some e together later =
    merged_so_far workers old allowed new e (later_by (λ w. w < workers) allowed closed new together (merged_alone workers closed new some later))

pub is_none : {A : Type 0} (o : Option A) → IsNone o → o ≡ None
is_none None none = refl
is_none (Some x) none = absurd (cc)

pub nothing_lent : (h : History) → away h ≡ 0 → (m : ℕ) → world_lent h m ≡ None
nothing_lent h none m = none_lent h.loans none m

-- ---- from passes to workers and back

module _ (lock : WorldLock) (ps : List Pass) (new : AreNew world_memo world_entries lock ps) (few : lock_seats lock ≤ 64) where
  -- the worker at each place has the pass of that number
  hired_at : (k : ℕ) (d : Worker) → k < length (map hired ps) → (p : Pass) × IsNew world_memo world_entries lock k p × (slice_index_or (map hired ps) k d ≡ hired p) × (k < 64)
  hired_at k d inside =
      let long : length (map hired ps) ≡ length ps = length-map ps hired in
      let place : k < length ps = omega arith in
      let count = new.count in
      let p : Pass = d.pass in
      (slice_index_or ps k p, new.each k p place, get_or-map hired ps k p d place, omega arith)

  pub are_ready : AreReady lock (map hired ps)
  are_ready k d inside =
      let h = hired_at k d inside in
      let p : Pass = h.0 in
      let number = h.1.member.number_is in
      let member : IsMember world_memo lock (pass_number p) p = subst (λ (n : ℕ). IsMember world_memo lock n p) (sym number) h.1.member in
      let small : pass_number p < 64 = subst (λ (n : ℕ). n < 64) (sym number) h.3 in
      let r : IsReady lock (hired p) = record { pass = record { member = member; small = small }; idle = h.1.loan_is; lack = refl } in
      subst (IsReady lock) (sym h.2) r

  module _ (ws : List Worker) (same : length ws ≡ length (map hired ps)) (done : HaveWorked lock (map hired ps) ws) where
    seats_is : length ws ≡ lock_seats lock
    seats_is = same ∙ length-map ps hired ∙ new.count

    pass_at : (k : ℕ) (d : Worker) → k < length ws → IsMember world_memo lock k (slice_index_or ws k d).pass
    pass_at k d inside =
        let before : k < length (map hired ps) = subst (λ (n : ℕ). k < n) same inside in
        let h = hired_at k d before in
        let w : IsWorkersPass lock (pass_number (slice_index_or (map hired ps) k d).pass) (slice_index_or ws k d).pass = (done k d before).pass in
        let number : pass_number (slice_index_or (map hired ps) k d).pass ≡ k = ap (λ (w : Worker). pass_number w.pass) h.2 ∙ h.1.member.number_is in
        subst (λ (n : ℕ). IsMember world_memo lock n (slice_index_or ws k d).pass) number w.member

    pub all_back : AreAllAtRest world_memo lock (map pass_of ws)
    all_back =
        let back = length-map ws pass_of in
        let count : length (map pass_of ws) ≡ lock_seats lock = back ∙ seats_is in
        all_at_rest world_memo lock (map pass_of ws) count
        (λ k d inside.
        let here : k < length ws = subst (λ (n : ℕ). k < n) back inside in
        let w : Worker = hired d in
        subst (IsMember world_memo lock k) (sym (get_or-map pass_of ws k w d here)) (pass_at k w here))

    module _ (value : History) (c : Closes world_entries terms_of world_lent lock (map pass_of ws) value) where
      pub merged : IsMerged (lock_seats lock) (lock_origin lock) value
      merged = record {
        more = c.since;
        entries = c.grown;
        by = c.workers;
        image = ap (λ (t : Terms). t.image) c.fixed_is;
        region = ap (λ (t : Terms). t.region) c.fixed_is;
        limit = ap (λ (t : Terms). t.limit) c.fixed_is;
        quota = ap (λ (t : Terms). t.quota) c.fixed_is;
        dropped = ap (λ (t : Terms). t.dropped) c.fixed_is;
      }

      -- where no worker lacked memory, nothing is lent
      module _ (lacks : All (λ (w : Worker). w.lack ≡ None) ws) where
        idle_at : (k : ℕ) (w : Worker) → k < length ws → loan_of value k ≡ None
        idle_at k w here =
            let d : Pass = w.pass in
            let inside : k < length (map pass_of ws) = subst (λ (n : ℕ). k < n) (sym (length-map ws pass_of)) here in
            let before : k < length (map hired ps) = subst (λ (n : ℕ). k < n) same here in
            let at : slice_index_or (map pass_of ws) k d ≡ pass_of (slice_index_or ws k w) = get_or-map pass_of ws k w d here in
            let knows : world_lent value (pass_number (slice_index_or ws k w).pass) ≡ loan (slice_index_or ws k w).pass =
            subst (λ (p : Pass). world_lent value (pass_number p) ≡ loan p) at (c.loans_are k d inside) in
            let none : loan (slice_index_or ws k w).pass ≡ None = (done k w before).idle (lacks k w here) in
            ap (world_lent value) (sym (pass_at k w here).number_is) ∙ knows ∙ none

        pub nothing_away : away value ≡ 0
        nothing_away = none_away value.loans (λ k. on k ws refl (cases_lt k (lock_seats lock)))
          where
            on : (k : ℕ) (us : List Worker) → us ≡ ws → (k < lock_seats lock) ⊎ (lock_seats lock ≤ k) → loan_of value k ≡ None
            on k us is (inr past) = c.unlent k past
            on k [] is (inl below) = let z = ap length is ∙ seats_is in absurd (omega (arith, z, below))
            on k (u ∷ us) is (inl below) = idle_at k u (let z = seats_is in omega (arith, z, below))
