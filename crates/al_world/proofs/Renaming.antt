-- What a task is called by does not matter.
use Rattle.std.proofs.Common.{◌≡◌, ℕ, zero, suc, ◌+◌, ◌-◌, List, [], ◌∷◌, ◌++◌, Bool, true, false, cond, ◌==◌, ◌||◌, not, length, map, filter, drop, take, Option, Some, None, Ok, Err, option_map, option_and_then, refl, sym, ap, ap₂, ◌∙◌, subst}
use Rattle.std.specs.Prelude.{slice_get, fold}
use Rattle.std.specs.List.{list_any, AllByRecursion}
use Rattle.std.proofs.lemmas.Option.{slice_get-map}
use Rattle.std.proofs.lemmas.List.{take-map}
use Rattle.al_base.specs.declared.trap.Trap.TheVariants.{Chan, Busy}
use Rattle.al_event.specs.declared.act.Branch.{Branch}
use Rattle.al_world.specs.Channels.{Channel, Offer, Book, Pair, pair, changed_at, channel, with_channel, without_values, is_open, is_opposite, opposites, pairs_at, pairs_from, ready, is_usable, is_some_ready, is_waited_for, could_go, gives_up_one}
use Rattle.al_world.specs.Talks.{Fired, offers_from, meets, sends, receives, by_buffer, goes_with, fires}
use Rattle.al_world.specs.Procs.{ProcState, Ended, first_of, first_ready, joins_ready, loses_first, without_parent, is_parent, has_branches, joins, ends_proc, live_tasks}
use Rattle.al_world.specs.Transfers.{IsIn}
use Rattle.al_world.specs.Renamed.{renamed_offer, renamed_book, renamed_pair, renamed_fired, renamed_result, renamed_proc, renamed_procs, renamed_ended, AgreeInWaiting, AgreeInParents, TalksAreRenamed, ProcsAreRenamed}
use Rattle.al_world.proofs.Lists.{all_to, all_in, all_at}
use Rattle.al_world.proofs.Fires.{Goes, IsPair, pairs_are, IsPartner, partners}

-- ---- lists

module _ {X Y : Type 0} (g : X → Y) where
  map-append : (xs ys : List X) → map g (xs ++ ys) ≡ map g xs ++ map g ys
  map-append [] ys = refl
  map-append (x ∷ xs) ys = ap (λ l. g x ∷ l) (map-append xs ys)

  -- a filter that tests new names as the other tests the old ones
  filter-agree : (P : X → Bool) (Q : Y → Bool) (xs : List X) → AllByRecursion (λ x. Q (g x) ≡ P x) xs → filter Q (map g xs) ≡ map g (filter P xs)
  filter-agree P Q [] h = refl
  filter-agree P Q (x ∷ xs) h =
      subst (λ b. cond b (g x ∷ filter Q (map g xs)) (filter Q (map g xs)) ≡ map g (cond (P x) (x ∷ filter P xs) (filter P xs))) (sym h.0) (elim (P x) as (λ b. cond b (g x ∷ filter Q (map g xs)) (filter Q (map g xs)) ≡ map g (cond b (x ∷ filter P xs) (filter P xs))) [
        | true ↦ ap (λ l. g x ∷ l) (filter-agree P Q xs h.1)
        | false ↦ filter-agree P Q xs h.1
      ])

  any-agree : (P : X → Bool) (Q : Y → Bool) (xs : List X) → AllByRecursion (λ x. Q (g x) ≡ P x) xs → list_any Q (map g xs) ≡ list_any P xs
  any-agree P Q [] h = refl
  any-agree P Q (x ∷ xs) h = ap₂ ◌||◌ h.0 (any-agree P Q xs h.1)

  map-cond : (b : Bool) (xs ys : List X) → map g (cond b xs ys) ≡ cond b (map g xs) (map g ys)
  map-cond true xs ys = refl
  map-cond false xs ys = refl

  -- a change of one element under new names
  map-changed : (h : X → X) (k : Y → Y) (n : ℕ) (xs : List X) → ((x : X) → k (g x) ≡ g (h x)) → changed_at n k (map g xs) ≡ map g (changed_at n h xs)
  map-changed h k n [] e = refl
  map-changed h k zero (x ∷ xs) e = ap (λ y. y ∷ map g xs) (e x)
  map-changed h k (suc n) (x ∷ xs) e = ap (λ l. g x ∷ l) (map-changed h k n xs e)

drop_one-map : {X Y : Type 0} (g : X → Y) (xs : List X) → drop 1 (map g xs) ≡ map g (drop 1 xs)
drop_one-map g [] = refl
drop_one-map g (x ∷ xs) = refl

all_true : {X : Type 0} (P : X → Type 0) (xs : List X) → ((x : X) → P x) → AllByRecursion P xs
all_true P [] h = tt
all_true P (x ∷ xs) h = (h x, all_true P xs h)

all_changed : {X : Type 0} (P : X → Type 0) (k : ℕ) (h : X → X) (xs : List X) → ((x : X) → P x → P (h x)) → AllByRecursion P xs → AllByRecursion P (changed_at k h xs)
all_changed P k h [] f a = tt
all_changed P zero h (x ∷ xs) f a = (f x a.0, a.1)
all_changed P (suc k) h (x ∷ xs) f a = (a.0, all_changed P k h xs f a.1)

-- ---- talks

module _ {A B : Type 0} (f : A → B) (same_a : A → A → Bool) (same_b : B → B → Bool) (book : Book A) (agrees : AgreeInWaiting f same_a same_b book.waiting) where
  abbrev Other : Book B
  Other = renamed_book f book

  opposites_same : (b : Branch) → opposites Other.waiting b ≡ map (renamed_offer f) (opposites book.waiting b)
  opposites_same b =
      filter-agree (renamed_offer f) (λ (o : Offer A). is_opposite b o.branch) (λ (o : Offer B). is_opposite b o.branch) book.waiting (all_true _ book.waiting (λ o. refl))

  pairs_map : (i : ℕ) (b : Branch) (os : List (Offer A)) → map (λ (o : Offer B). pair i b (Some o)) (map (renamed_offer f) os) ≡ map (renamed_pair f) (map (λ (o : Offer A). pair i b (Some o)) os)
  pairs_map i b [] = refl
  pairs_map i b (o ∷ os) = ap (λ l. pair i b (Some (renamed_offer f o)) ∷ l) (pairs_map i b os)

  pairs_at_same : (i : ℕ) (b : Branch) (o : Option Channel) → pairs_at Other.waiting i b o ≡ map (renamed_pair f) (pairs_at book.waiting i b o)
  pairs_at_same i b None = refl
  pairs_at_same i b (Some ch) = on (ch.capacity == 0) (is_open ch b.send)
    where
      on : (u v : Bool) → cond u (map (λ (o : Offer B). pair i b (Some o)) (opposites Other.waiting b)) (cond v (pair i b None ∷ []) []) ≡ map (renamed_pair f) (cond u (map (λ (o : Offer A). pair i b (Some o)) (opposites book.waiting b)) (cond v (pair i b None ∷ []) []))
      on true v = ap (map (λ (o : Offer B). pair i b (Some o))) (opposites_same b) ∙ pairs_map i b (opposites book.waiting b)
      on false true = refl
      on false false = refl

  pairs_from_same : (i : ℕ) (bs : List Branch) → pairs_from Other i bs ≡ map (renamed_pair f) (pairs_from book i bs)
  pairs_from_same i [] = refl
  pairs_from_same i (b ∷ bs) =
      ap₂ (λ x y. x ++ y) (pairs_at_same i b (channel book.channels b.chan)) (pairs_from_same (i + 1) bs) ∙ sym (map-append (renamed_pair f) (pairs_at book.waiting i b (channel book.channels b.chan)) (pairs_from book (i + 1) bs))

  ready_same : (bs : List Branch) → ready Other bs ≡ map (renamed_pair f) (ready book bs)
  ready_same bs = ap (take 65536) (pairs_from_same 0 bs) ∙ take-map (renamed_pair f) 65536 (pairs_from book 0 bs)

  -- the branches of a task that goes leave under other names too
  withdrawn_same : (o : Offer A) → IsIn book.waiting o → filter (λ (x : Offer B). not (same_b x.by (f o.by))) (map (renamed_offer f) book.waiting) ≡ map (renamed_offer f) (filter (λ (x : Offer A). not (same_a x.by o.by)) book.waiting)
  withdrawn_same o i =
      filter-agree (renamed_offer f) (λ (x : Offer A). not (same_a x.by o.by)) (λ (x : Offer B). not (same_b x.by (f o.by))) book.waiting (all_in book.waiting _ (λ x j. ap not (agrees.agree x o j i)))

  module _ (t : A) where
    abbrev IsSame : Fired B → Fired A → Type 0
    IsSame x y = x ≡ renamed_fired f y

    meets_same : (i c : ℕ) (send : Option (List ℕ)) (o : Offer A) → IsIn book.waiting o → IsSame (meets same_b Other (f t) i c send (renamed_offer f o)) (meets same_a book t i c send o)
    meets_same i c None o j = rw (withdrawn_same o j) refl
    meets_same i c (Some words) o j = rw (withdrawn_same o j) refl

    sends_same : (i c : ℕ) (words : List ℕ) (held : List (List ℕ)) (os : List (Offer A)) → AllByRecursion (λ o. IsIn book.waiting o) os → IsSame (sends same_b Other (f t) i c words held (map (renamed_offer f) os)) (sends same_a book t i c words held os)
    sends_same i c words [] (o ∷ os) j = rw (withdrawn_same o j.0) refl
    sends_same i c words [] [] j = refl
    sends_same i c words (h ∷ held) os j = refl

    receives_same : (i c : ℕ) (full : Bool) (held : List (List ℕ)) (os : List (Offer A)) → AllByRecursion (λ o. IsIn book.waiting o) os → receives same_b Other (f t) i c full held (map (renamed_offer f) os) ≡ option_map (renamed_fired f) (receives same_a book t i c full held os)
    receives_same i c full [] os j = refl
    receives_same i c true (words ∷ rest) (o ∷ os) j = rw (withdrawn_same o j.0) refl
    receives_same i c true (words ∷ rest) [] j = refl
    receives_same i c false (words ∷ rest) os j = refl

    waiting_in : (b : Branch) → AllByRecursion (λ o. IsIn book.waiting o) (opposites book.waiting b)
    waiting_in b = all_to (IsPartner book.waiting b) (λ o. IsIn book.waiting o) (λ o p. p.waits) (opposites book.waiting b) (partners book.waiting b)

    buffer_same : (i : ℕ) (b : Branch) (send : Option (List ℕ)) (o : Option Channel) → by_buffer same_b Other (f t) i b send o ≡ option_map (renamed_fired f) (by_buffer same_a book t i b send o)
    buffer_same i b send None = refl
    buffer_same i b (Some words) (Some ch) =
        ap (λ os. Some (sends same_b Other (f t) i b.chan words ch.held os)) (opposites_same b) ∙ ap Some (sends_same i b.chan words ch.held (opposites book.waiting b) (waiting_in b))
    buffer_same i b None (Some ch) =
        ap (receives same_b Other (f t) i b.chan (length ch.held == ch.capacity) ch.held) (opposites_same b) ∙ receives_same i b.chan (length ch.held == ch.capacity) ch.held (opposites book.waiting b) (waiting_in b)

    goes_same : (i : ℕ) (b : Branch) (o : Option (Offer A)) → ((p : Offer A) → o ≡ Some p → IsIn book.waiting p) → goes_with same_b Other (f t) i b (option_map (renamed_offer f) o) ≡ option_map (renamed_fired f) (goes_with same_a book t i b o)
    goes_same i b None h = buffer_same i b b.send (channel book.channels b.chan)
    goes_same i b (Some o) h = ap Some (meets_same i b.chan b.send o (h o refl))

    fires_same : (bs : List Branch) (pick : ℕ) → fires same_b Other (f t) bs pick ≡ option_map (renamed_fired f) (fires same_a book t bs pick)
    fires_same bs pick =
        ap (λ l. option_and_then (λ (p : Pair B). goes_with same_b Other (f t) p.number p.branch p.partner) (slice_get l pick)) (ready_same bs) ∙ ap (option_and_then (λ (p : Pair B). goes_with same_b Other (f t) p.number p.branch p.partner)) (slice_get-map (renamed_pair f) (ready book bs) pick) ∙ on (slice_get (ready book bs) pick) refl
      where
        on : (o : Option (Pair A)) → slice_get (ready book bs) pick ≡ o → option_and_then (λ (p : Pair B). goes_with same_b Other (f t) p.number p.branch p.partner) (option_map (renamed_pair f) o) ≡ option_map (renamed_fired f) (option_and_then (λ (p : Pair A). goes_with same_a book t p.number p.branch p.partner) o)
        on None e = refl
        on (Some p) e = goes_same p.number p.branch p.partner (partner_in p (all_at (IsPair book bs) (ready book bs) p (pairs_are book bs) (record { at = pick; is = e })))
          where
            partner_in : (p : Pair A) → IsPair book bs p → (o : Offer A) → p.partner ≡ Some o → IsIn book.waiting o
            partner_in p is o e = let g = subst (λ x. Goes book bs is.channel p.branch x) e is.goes in g.1.waits

    offers_same : (i : ℕ) (bs : List Branch) → offers_from (f t) i bs ≡ map (renamed_offer f) (offers_from t i bs)
    offers_same i [] = refl
    offers_same i (b ∷ bs) = ap (λ l. record { by = f t; number = i; branch = b } ∷ l) (offers_same (i + 1) bs)

    blocks_same : (bs : List Branch) → ◌≡◌ {A = Book B} (record { channels = book.channels; waiting = map (renamed_offer f) book.waiting ++ offers_from (f t) 0 bs }) (record { channels = book.channels; waiting = map (renamed_offer f) (book.waiting ++ offers_from t 0 bs) })
    blocks_same bs =
        ap (λ l. record { channels = book.channels; waiting = l }) (ap (λ l. map (renamed_offer f) book.waiting ++ l) (offers_same 0 bs) ∙ sym (map-append (renamed_offer f) book.waiting (offers_from t 0 bs)))

  waited_same : (c : ℕ) → is_waited_for Other c ≡ is_waited_for book c
  waited_same c = any-agree (renamed_offer f) (λ (o : Offer A). o.branch.chan == c) (λ (o : Offer B). o.branch.chan == c) book.waiting (all_true _ book.waiting (λ o. refl))

  gives_up_same : (c : ℕ) (o : Option Channel) → gives_up_one Other c o ≡ renamed_result f (gives_up_one book c o)
  gives_up_same c None = refl
  gives_up_same c (Some ch) = subst (λ v. cond ch.given_up (Err Chan) (cond v (Err Busy) (Ok (record Other { channels = with_channel c without_values book.channels }))) ≡ renamed_result f (gives_up_one book c (Some ch))) (sym (waited_same c)) (on ch.given_up (is_waited_for book c))
    where
      on : (u v : Bool) → cond u (Err Chan) (cond v (Err Busy) (Ok (record Other { channels = with_channel c without_values book.channels }))) ≡ renamed_result f (cond u (Err Chan) (cond v (Err Busy) (Ok (record book { channels = with_channel c without_values book.channels }))))
      on true v = refl
      on false true = refl
      on false false = refl

  some_ready_same : (ps : List (Pair A)) → is_some_ready (map (renamed_pair f) ps) ≡ is_some_ready ps
  some_ready_same [] = refl
  some_ready_same (p ∷ ps) = refl

  could_go_same : (b : Branch) → could_go Other b ≡ could_go book b
  could_go_same b =
      ap (λ v. cond (is_usable (channel book.channels b.chan)) (Ok v) (Err Chan)) (ap is_some_ready (ready_same (b ∷ [])) ∙ some_ready_same (ready book (b ∷ [])))

  pub talks_are_renamed : TalksAreRenamed f same_a same_b book
  talks_are_renamed = record {
    ready_same = ready_same;
    fires_same = fires_same;
    blocks_same = blocks_same;
    gives_up_same = λ c. gives_up_same c (channel book.channels c);
    can_recv_same = λ c. could_go_same (record { chan = c; words = 0; send = None });
    can_send_same = λ c. could_go_same (record { chan = c; words = 0; send = Some [] });
  }

-- ---- ready lists

module _ {A B : Type 0} (f : A → B) (same_a : A → A → Bool) (same_b : B → B → Bool) (home_a : A → ℕ) (home_b : B → ℕ) where
  abbrev Procs : Type 0
  Procs = List (ProcState A)

  first_same : (procs : Procs) (p : ℕ) → first_ready (renamed_procs f procs) p ≡ option_map f (first_ready procs p)
  first_same procs p = ap (option_and_then (λ (q : ProcState B). first_of q.ready)) (slice_get-map (renamed_proc f) procs p) ∙ on (slice_get procs p)
    where
      of : (l : List A) → first_of (map f l) ≡ option_map f (first_of l)
      of [] = refl
      of (t ∷ ts) = refl

      on : (o : Option (ProcState A)) → option_and_then (λ (q : ProcState B). first_of q.ready) (option_map (renamed_proc f) o) ≡ option_map f (option_and_then (λ (q : ProcState A). first_of q.ready) o)
      on None = refl
      on (Some q) = of q.ready

  joins_same : (procs : Procs) (p : ℕ) (t : A) → joins_ready p (f t) (renamed_procs f procs) ≡ renamed_procs f (joins_ready p t procs)
  joins_same procs p t =
      map-changed (renamed_proc f) _ _ p procs (λ q. ap (λ l. record { ready = l; live = q.live; parent = option_map f q.parent }) (sym (map-append f q.ready (t ∷ []))))

  live_same : (procs : Procs) → live_tasks (renamed_procs f procs) ≡ live_tasks procs
  live_same procs = from 0 procs
    where
      from : (n : ℕ) (qs : Procs) → fold (λ (a : ℕ) (q : ProcState B). a + q.live) n (renamed_procs f qs) ≡ fold (λ (a : ℕ) (q : ProcState A). a + q.live) n qs
      from n [] = refl
      from n (q ∷ qs) = from (n + q.live) qs

  loses_same : (procs : Procs) (p : ℕ) → loses_first p (renamed_procs f procs) ≡ renamed_procs f (loses_first p procs)
  loses_same procs p =
      map-changed (renamed_proc f) _ _ p procs (λ q. ap (λ l. record { ready = l; live = q.live - 1; parent = option_map f q.parent }) (drop_one-map f q.ready))

  -- the parents of a list of procs agree with u
  abbrev AgreesWith : A → ProcState A → Type 0
  AgreesWith u q = (v : A) → q.parent ≡ Some v → same_b (f v) (f u) ≡ same_a v u

  branches_same : (u : A) (procs : Procs) → AllByRecursion (AgreesWith u) procs → has_branches same_b home_b (f u) (renamed_procs f procs) ≡ has_branches same_a home_a u procs
  branches_same u procs h = any-agree (renamed_proc f) (λ (q : ProcState A). is_parent same_a home_a u q.parent) (λ (q : ProcState B). is_parent same_b home_b (f u) q.parent) procs (all_to (AgreesWith u) _ (λ q g. on q.parent g) procs h)
    where
      on : (o : Option A) → ((v : A) → o ≡ Some v → same_b (f v) (f u) ≡ same_a v u) → is_parent same_b home_b (f u) (option_map f o) ≡ is_parent same_a home_a u o
      on None g = refl
      on (Some v) g = g v refl

  ended_if : (b : Bool) (x y : Ended A) → cond b (renamed_ended f x) (renamed_ended f y) ≡ renamed_ended f (cond b x y)
  ended_if true x y = refl
  ended_if false x y = refl

  joined_same : (procs : Procs) (o : Option A) → ((u : A) → o ≡ Some u → AllByRecursion (AgreesWith u) procs × (home_b (f u) ≡ home_a u)) → joins same_b home_b (renamed_procs f procs) (option_map f o) ≡ renamed_ended f (joins same_a home_a procs o)
  joined_same procs None h = refl
  joined_same procs (Some u) h =
      ap₂ (λ b n. cond b (record { procs = renamed_procs f procs; proc_ended = true; woke = None }) (record { procs = joins_ready n (f u) (renamed_procs f procs); proc_ended = true; woke = Some (f u) })) (branches_same u procs (h u refl).0) (h u refl).1 ∙ ap (λ l. cond (has_branches same_a home_a u procs) (record { procs = renamed_procs f procs; proc_ended = true; woke = None }) (record { procs = l; proc_ended = true; woke = Some (f u) })) (joins_same procs (home_a u) u) ∙ ended_if (has_branches same_a home_a u procs) (record { procs = procs; proc_ended = true; woke = None }) (record { procs = joins_ready (home_a u) u procs; proc_ended = true; woke = Some u })

  ends_proc_same : (procs : Procs) (p : ℕ) (o : Option (ProcState A)) → ((q : ProcState A) (u : A) → o ≡ Some q → q.parent ≡ Some u → AllByRecursion (AgreesWith u) procs × (home_b (f u) ≡ home_a u)) → ends_proc same_b home_b (renamed_procs f procs) p (option_map (renamed_proc f) o) ≡ renamed_ended f (ends_proc same_a home_a procs p o)
  ends_proc_same procs p None h = refl
  ends_proc_same procs p (Some q) h =
      ap (λ x. cond (q.live == 0) x (record { procs = renamed_procs f procs; proc_ended = false; woke = None })) (ap (λ l. joins same_b home_b l (option_map f q.parent)) (map-changed (renamed_proc f) (λ q. record q { parent = None }) _ p procs (λ q. refl)) ∙ joined_same (without_parent p procs) q.parent (λ u e. let x = h q u refl e in (all_changed (AgreesWith u) p (λ q. record q { parent = None }) procs (λ q g v e. absurd (cc)) x.0, x.1))) ∙ ended_if (q.live == 0) (joins same_a home_a (without_parent p procs) q.parent) (record { procs = procs; proc_ended = false; woke = None })

  module _ (procs : Procs) (agrees : AgreeInParents f same_a same_b home_a home_b procs) where
    -- what is known of the parent of each proc
    abbrev IsAgreed : ProcState A → Type 0
    IsAgreed q = (u : A) → q.parent ≡ Some u → AllByRecursion (AgreesWith u) procs × (home_b (f u) ≡ home_a u)

    agreed : AllByRecursion IsAgreed procs
    agreed = all_in procs IsAgreed (λ q i u e. (all_in procs (AgreesWith u) (λ r j v g. agrees.agree r q v u j i g e), agrees.homes q u i e))

    ends_same : (p : ℕ) → ends_proc same_b home_b (loses_first p (renamed_procs f procs)) p (slice_get (loses_first p (renamed_procs f procs)) p) ≡ renamed_ended f (ends_proc same_a home_a (loses_first p procs) p (slice_get (loses_first p procs) p))
    ends_same p =
        ap (λ l. ends_proc same_b home_b l p (slice_get l p)) (loses_same procs p) ∙ ap (ends_proc same_b home_b (renamed_procs f (loses_first p procs)) p) (slice_get-map (renamed_proc f) (loses_first p procs) p) ∙ ends_proc_same (loses_first p procs) p (slice_get (loses_first p procs) p) (λ q u e g. let x = all_at IsAgreed (loses_first p procs) q (all_changed IsAgreed p _ procs (λ q h. h) agreed) (record { at = p; is = e }) u g in (all_changed (AgreesWith u) p _ procs (λ q h. h) x.0, x.1))

    pub procs_are_renamed : ProcsAreRenamed f same_a same_b home_a home_b procs
    procs_are_renamed = record {
      first_same = first_same procs;
      joins_same = joins_same procs;
      leaves_same = λ p. map-changed (renamed_proc f) _ _ p procs (λ q. ap (λ l. record { ready = l; live = q.live; parent = option_map f q.parent }) (drop_one-map f q.ready));
      starts_same = λ p t. map-changed (renamed_proc f) _ _ p procs (λ q. ap (λ l. record { ready = l; live = q.live + 1; parent = option_map f q.parent }) (sym (map-append f q.ready (t ∷ []))));
      live_same = live_same procs;
      ends_same = ends_same;
    }
