-- Rounds of a world, one after another.
use Rattle.std.proofs.Common.{◌≡◌, ◌≢◌, ℕ, ◌+◌, ◌-◌, ◌*◌, ◌<◌, ◌≤◌, List, [], ◌∷◌, ◌++◌, length, take, drop, min, Option, Some, None, refl, sym, ap, ap₂, ◌∙◌, subst, arith, append_assoc, append-nil, length-append, inl, inr, All}
use Rattle.std.specs.Prelude.{◌⊎◌, IsSome}
use Rattle.std.proofs.lemmas.Bool.{cases_lt}
use Rattle.std.proofs.lemmas.List.{take-append-le, drop_at}
use Rattle.std.proofs.lemmas.List.Elements.{All-nil, All-append}
use Rattle.al_base.specs.declared.over.Over.{Over}
use Rattle.al_base.specs.declared.over.Over.TheVariants.{Spent}
use Rattle.al_event.specs.Store.{Live}
use Rattle.al_event.specs.declared.entry.Entry.{Entry}
use Rattle.al_host.specs.Outside.{Faulted, WhereTold}
use Rattle.al_world.specs.Step.{opening_with, with_globals}
use Rattle.rv_isa.specs.declared.image.Contents.{Contents}
use Rattle.al_core.specs.Opening.{globals_of}
use Rattle.al_core.specs.History.{History, opening, run_of, over_of, line_of, output_of, work_of, away}
use Rattle.al_rounds.specs.Later.{IsMerged, PutsOutMore}
use Rattle.al_rounds.proofs.Output.{puts_out_more}
use Rattle.alef_texts.specs.Outside.{GetsAll, GetsPart}
use Rattle.alef_run.specs.Rounds.{history_along, IsLegal, IsOver, round_length, first_rounds, GetsRounds, IsWholeRound}
use Rattle.alef_texts.proofs.Told.{told_as, told_then, told_at_once, take-add}

-- ---- what a history has is told by its image, region and entries

module _ (image : Contents) (region limit : ℕ) (h : History) (i : h.image ≡ image) (r : h.region ≡ region) where
  pub output_along : output_of h ≡ output_of (history_along image region limit h.entries)
  output_along = ap₂ (λ (image : Contents) (region : ℕ). output_of (history_along image region limit h.entries)) i r

  pub over_along : over_of h ≡ over_of (history_along image region limit h.entries)
  over_along = ap₂ (λ (image : Contents) (region : ℕ). over_of (history_along image region limit h.entries)) i r

  pub line_along : line_of h ≡ line_of (history_along image region limit h.entries)
  line_along = ap₂ (λ (image : Contents) (region : ℕ). line_of (history_along image region limit h.entries)) i r

  pub work_along : work_of h ≡ work_of (history_along image region limit h.entries)
  work_along = ap₂ (λ (image : Contents) (region : ℕ). work_of (history_along image region limit h.entries)) i r

  pub runs_along : IsSome (run_of h) → IsSome (run_of (history_along image region limit h.entries))
  runs_along s =
      let P : Contents → Type 0 = λ image. IsSome (run_of (history_along image h.region limit h.entries)) in
      let Q : ℕ → Type 0 = λ region. IsSome (run_of (history_along image region limit h.entries)) in
      subst Q r (subst P i s)

-- ---- between two rounds

-- some rounds were run to their end, and all that they put out was written and dropped
pub record Between (image : Contents) (workers region limit : ℕ) (h : History) (made : ℕ) (before got : Option (List ℕ)) (faults faults_after : ℕ) : Type 0 where
  pub image_is : h.image ≡ image
  pub region_is : h.region ≡ region
  pub limit_is : h.limit ≡ limit
  pub here : away h ≡ 0
  pub made_by : All (λ (e : Entry). e.worker < workers) h.entries
  pub made_is : made ≡ length h.entries
  pub rounds : ℕ
  pub count : length h.entries ≡ round_length * rounds
  pub less : made < limit
  pub dropped : h.dropped ≡ length (output_of h)
  pub written : WhereTold (GetsAll (output_of h)) before got
  pub calm : faults_after ≡ faults

no_output : (region : ℕ) (store : Option (List Live)) → (opening_with region store).output ≡ []
no_output region None = refl
no_output region (Some store) = refl

pub between_first : (workers limit : ℕ) (h : History) (before : Option (List ℕ)) (faults : ℕ) → h ≡ opening h.image h.region limit → 1 ≤ limit → Between h.image workers h.region limit h 0 before before faults faults
between_first workers limit h before faults e some =
    let entries : h.entries ≡ [] = ap (λ (h : History). h.entries) e in
    let none : output_of h ≡ [] = ap output_of e ∙ no_output _ (with_globals _ (globals_of h.image) []) in
    record {
      image_is = refl;
      region_is = refl;
      limit_is = ap (λ (h : History). h.limit) e;
      here = ap away e;
      made_by = let P : List Entry → Type 0 = All (λ (e : Entry). e.worker < workers) in subst P (sym entries) (All-nil (λ (e : Entry). e.worker < workers));
      made_is = sym (ap length entries);
      rounds = 0;
      count = ap length entries;
      less = some;
      dropped = ap (λ (h : History). h.dropped) e ∙ sym (ap length none);
      written = told_at_once (GetsAll (output_of h)) before (λ a. sym (ap (λ (o : List ℕ). a ++ o) none ∙ append-nil a));
      calm = refl;
    }

-- ---- after a round

module _ (image : Contents) (workers region limit made quota : ℕ) (h h' : History) (before got : Option (List ℕ)) (faults faults_after : ℕ)
    (B : Between image workers region limit h made before got faults faults_after) (quota_is : quota ≡ min limit (made + round_length))
    (later : IsMerged workers (record h { quota = quota }) h') (runs : IsSome (run_of h')) (within : length h'.entries + away h' ≤ h'.quota) where
  abbrev pub along : History
  along = history_along image region limit h'.entries

  pub image_still : h'.image ≡ image
  image_still = later.image ∙ B.image_is

  pub region_still : h'.region ≡ region
  region_still = later.region ∙ B.region_is

  at_most : length h'.entries ≤ quota
  at_most = let q = later.quota in omega (arith, within, q)

  abbrev pub more : PutsOutMore later.more (history_along image region limit h.entries)
  more =
      puts_out_more (history_along image region limit h.entries) later.more
      (let P : List Entry → Type 0 = λ entries. IsSome (run_of (history_along image region limit entries)) in
      subst P later.entries (runs_along image region limit h' image_still region_still runs))

  -- what was put out is what was put out before and what is shown now
  grown : output_of along ≡ output_of h ++ more.shown
  grown =
      ap (λ (entries : List Entry). output_of (history_along image region limit entries)) later.entries ∙ more.output
      ∙ ap (λ (o : List ℕ). o ++ more.shown) (sym (output_along image region limit h B.image_is B.region_is))

  is_along : output_of h' ≡ output_of along
  is_along = output_along image region limit h' image_still region_still

  pub shown_is : drop h'.dropped (output_of h') ≡ more.shown
  shown_is =
      ap₂ (λ (n : ℕ) (o : List ℕ). drop n o) (later.dropped ∙ B.dropped) (is_along ∙ grown) ∙ drop_at (output_of h) more.shown (length (output_of h)) refl

  pub legal : IsLegal workers along
  legal = record {
    runs = runs_along image region limit h' image_still region_still runs;
    most = let m = at_most in omega (arith, m, quota_is);
    made_by = let P : List Entry → Type 0 = All (λ (e : Entry). e.worker < workers) in subst P (sym later.entries) (All-append (λ (e : Entry). e.worker < workers) h.entries later.more B.made_by later.by);
  }

  front_is : take (round_length * B.rounds) h'.entries ≡ h.entries
  front_is =
      ap (take (round_length * B.rounds)) later.entries
      ∙ (let c = B.count in take-append-le (round_length * B.rounds) h.entries later.more (omega (arith, c)))
      ∙ ap (λ (n : ℕ). take n h.entries) (sym B.count) ∙ take_whole h.entries
    where
      take_whole : (es : List Entry) → take (length es) es ≡ es
      take_whole [] = refl
      take_whole (e ∷ es) = ap (λ (l : List Entry). e ∷ l) (take_whole es)

  rounds_before : length (output_of (first_rounds B.rounds along)) ≡ length (output_of h)
  rounds_before =
      ap (λ (entries : List Entry). length (output_of (history_along image region limit entries))) front_is
      ∙ ap length (sym (output_along image region limit h B.image_is B.region_is))

  -- a sink got all that was put out before, and a part of what is shown now
  got_part : (n : ℕ) (a b : List ℕ) → n ≤ length more.shown → b ≡ a ++ (output_of h ++ take n more.shown) → GetsRounds along a b
  got_part n a b part e = record {
    size = length (output_of h) + n;
    within = let g = ap length grown ∙ length-append (output_of h) more.shown in omega (arith, g, part);
    got = e ∙ ap (λ (o : List ℕ). a ++ o) (sym (ap (take (length (output_of h) + n)) grown ∙ take_past (output_of h)));
    rounds = B.rounds;
    last = let m = at_most in let c = B.count in let d = B.made_is in omega (arith, m, quota_is, c, d);
    written = let r = rounds_before in omega (arith, r);
  }
    where
      take_past : (o : List ℕ) → take (length o + n) (o ++ more.shown) ≡ o ++ take n more.shown
      take_past o =
          take-add (length o) n (o ++ more.shown)
          ∙ ap₂ (λ (u v : List ℕ). u ++ take n v) (take_front o) (drop_at o more.shown (length o) refl)
        where
          take_front : (o : List ℕ) → take (length o) (o ++ more.shown) ≡ o
          take_front [] = refl
          take_front (x ∷ xs) = ap (λ (l : List ℕ). x ∷ l) (take_front xs)

  pub lacked : WhereTold (GetsRounds along) before got
  lacked = told_as (GetsAll (output_of h)) (GetsRounds along) before got (λ a b w. got_part 0 a b (omega arith) (w ∙ ap (λ (o : List ℕ). a ++ o) (sym (append-nil (output_of h))))) B.written

  pub part_written : (got' : Option (List ℕ)) → WhereTold (GetsPart (drop h'.dropped (output_of h'))) got got' → WhereTold (GetsRounds along) before got'
  part_written got' w =
      told_then (GetsAll (output_of h)) (GetsPart (drop h'.dropped (output_of h'))) (GetsRounds along) before got got'
      (λ a b c p q.
      let part : q.0 ≤ length more.shown = subst (λ (o : List ℕ). q.0 ≤ length o) shown_is q.1 in
      got_part q.0 a c part (q.2 ∙ ap₂ (λ (u v : List ℕ). u ++ take q.0 v) p shown_is ∙ append_assoc a (output_of h) (take q.0 more.shown)))
      B.written w

  pub all_written : (got' : Option (List ℕ)) → WhereTold (GetsAll (drop h'.dropped (output_of h'))) got got' → WhereTold (GetsAll (output_of along)) before got'
  all_written got' w =
      told_then (GetsAll (output_of h)) (GetsAll (drop h'.dropped (output_of h'))) (GetsAll (output_of along)) before got got'
      (λ a b c p q. q ∙ ap₂ (λ (u v : List ℕ). u ++ v) p shown_is ∙ append_assoc a (output_of h) more.shown ∙ ap (λ (o : List ℕ). a ++ o) (sym grown))
      B.written w

  by_quota : length h'.entries ≡ quota → IsWholeRound along
  by_quota full = on (cases limit (made + round_length))
    where
      cases : (a b : ℕ) → (min a b ≡ a) ⊎ (min a b ≡ b)
      cases a b = elim (cases_lt a b) [ inl lt ↦ inl (omega (arith, lt)) | inr ge ↦ inr (omega (arith, ge)) ]

      on : (min limit (made + round_length) ≡ limit) ⊎ (min limit (made + round_length) ≡ made + round_length) → IsWholeRound along
      on (inl e) = inr (inl (full ∙ quota_is ∙ e))
      on (inr e) = let c = B.count in let d = B.made_is in inl (B.rounds + 1, omega (arith, full, quota_is, e, c, d))

  pub whole : IsSome (over_of h') ⊎ (length h'.entries ≡ quota) → IsWholeRound along
  whole (inl over) = inr (inr (subst IsSome (over_along image region limit h' image_still region_still) over))
  whole (inr full) = by_quota full

  pub over_is : (over : Over) → over_of h' ≡ Some over → IsOver along over
  over_is over e = inl (sym (over_along image region limit h' image_still region_still) ∙ e)

  pub spent : over_of h' ≡ None → length h'.entries ≡ limit → IsOver along Spent
  spent none full = inr (refl, sym (over_along image region limit h' image_still region_still) ∙ none, full)

  pub still_calm : (faults_later : ℕ) → faults_later ≡ faults_after → faults_later ≡ faults
  still_calm faults_later e = e ∙ B.calm

  pub fault_later : (faults_later : ℕ) → Faulted faults_after faults_later → Faulted faults faults_later
  fault_later faults_later f = subst (λ (n : ℕ). Faulted n faults_later) B.calm f

  unless_over : over_of h' ≡ None → IsSome (over_of h') ⊎ (length h'.entries ≡ quota) → length h'.entries ≡ quota
  unless_over live (inl over) = absurd (cc)
  unless_over live (inr full) = full

  -- what was shown was dropped
  module _ (next : History) (e : next ≡ record h' { dropped = length (output_of h') }) where
    entries_same : next.entries ≡ h'.entries
    entries_same = ap (λ (h : History). h.entries) e

    over_same : over_of next ≡ over_of h'
    over_same = ap over_of e

    pub legal_next : IsLegal workers (history_along image region limit next.entries)
    legal_next = let P : List Entry → Type 0 = λ entries. IsLegal workers (history_along image region limit entries) in subst P (sym entries_same) legal

    abbrev pub EndsSo : Over → Option (List ℕ) → ℕ → List Entry → Type 0
    EndsSo over got' faults_later entries =
        IsOver (history_along image region limit entries) over
        × WhereTold (GetsAll (output_of (history_along image region limit entries))) before got' × (faults_later ≡ faults)

    pub over_next : (over : Over) (got' : Option (List ℕ)) (faults_later : ℕ) → Some over ≡ over_of next → WhereTold (GetsAll (drop h'.dropped (output_of h'))) got got' → faults_later ≡ faults_after
        → EndsSo over got' faults_later next.entries
    over_next over got' faults_later is w calm =
        subst (EndsSo over got' faults_later) (sym entries_same) (over_is over (sym over_same ∙ sym is), all_written got' w, calm ∙ B.calm)

    pub spent_next : (got' : Option (List ℕ)) (faults_later : ℕ) → over_of next ≡ None → length h'.entries ≡ limit → WhereTold (GetsAll (drop h'.dropped (output_of h'))) got got' → faults_later ≡ faults_after
        → EndsSo Spent got' faults_later next.entries
    spent_next got' faults_later live full w calm =
        subst (EndsSo Spent got' faults_later) (sym entries_same) (spent (sym over_same ∙ live) full, all_written got' w, calm ∙ B.calm)

    pub full_round : IsSome (over_of h') ⊎ (length h'.entries ≡ quota) → over_of next ≡ None → length h'.entries ≡ quota
    full_round done live = unless_over (sym over_same ∙ live) done

    module _ (full : length h'.entries ≡ quota) where
      pub smaller : limit - length next.entries < limit - length h.entries
      smaller =
          let same = ap length entries_same in
          let less = B.less in
          let made_is = B.made_is in
          omega (arith, full, same, less, made_is, quota_is)

      -- all that is shown was written and dropped, and there are to be more rounds
      pub between_next : (made' : ℕ) (got' : Option (List ℕ)) (faults_later : ℕ) → made' ≡ length h'.entries → away h' ≡ 0 → made' ≢ limit
          → WhereTold (GetsAll (drop h'.dropped (output_of h'))) got got' → faults_later ≡ faults_after → Between image workers region limit next made' before got' faults faults_later
      between_next made' got' faults_later made_is here unspent w calm =
          let count = B.count in
          let before_is = B.made_is in
          let most = legal.most in
          record {
            image_is = ap (λ (h : History). h.image) e ∙ image_still;
            region_is = ap (λ (h : History). h.region) e ∙ region_still;
            limit_is = ap (λ (h : History). h.limit) e ∙ later.limit ∙ B.limit_is;
            here = ap away e ∙ here;
            made_by = legal_next.made_by;
            made_is = made_is ∙ sym (ap length entries_same);
            rounds = B.rounds + 1;
            count = ap length entries_same ∙ omega (arith, full, quota_is, made_is, unspent, count, before_is);
            less = omega (arith, most, made_is, unspent);
            dropped = ap (λ (h : History). h.dropped) e ∙ sym (ap (λ (h : History). length (output_of h)) e);
            written = let P : List ℕ → Type 0 = λ o. WhereTold (GetsAll o) before got' in subst P (sym (ap output_of e ∙ is_along)) (all_written got' w);
            calm = calm ∙ B.calm;
          }
