-- A world that goes along a schedule.
use Rattle.std.proofs.Common.{◌≡◌, ℕ, ◌+◌, ◌-◌, ◌<◌, ◌≤◌, List, [], ◌∷◌, ◌++◌, length, take, drop, min, Option, Some, None, refl, sym, ap, ap₂, ◌∙◌, subst, arith, append_assoc, append-nil, length-append, inl, inr, All}
use Rattle.std.specs.Prelude.{slice_get, slice_index_or, option_map, option_and_then, IsSome}
use Rattle.std.proofs.lemmas.List.{length-take, length-drop, take-take, take_all, take_more, get_or-take, get_or-drop, nil_from_length}
use Rattle.std.proofs.lemmas.List.Elements.{All-take, All-drop, All-weaker}
use Rattle.std.proofs.lemmas.Option.{slice_get_within, slice_get-get_or, get_or_from_slice_get}
use Rattle.al_base.specs.declared.over.Over.{Over}
use Rattle.al_event.specs.declared.entry.Entry.{Entry}
use Rattle.al_host.specs.Outside.{Faulted, WhereTold}
use Rattle.al_trace.specs.Schedule.{IsEntry}
use Rattle.al_world.specs.Control.{Kind}
use Rattle.al_world.specs.World.{Shared, World}
use Rattle.al_world.specs.Step.{step, run as run_on}
use Rattle.al_show.proofs.Runs.{over_stays}
use Rattle.rv_isa.specs.declared.image.Contents.{Contents}
use Rattle.rv_exec.specs.Machine.{machine}
use Rattle.al_core.specs.History.{History, opening, run_of, over_of, output_of, away, with_entry}
use Rattle.al_rounds.specs.Later.{followed_by, IsMerged}
use Rattle.alef_run.specs.Along.{MakesFirst, StopsAlong, WentTo, end_by}
use Rattle.alef_run.specs.Rounds.{history_along, IsLegal, round_length}
use Rattle.alef_texts.specs.Outside.{GetsAll, GetsPart}
use Rattle.alef_texts.specs.declared.report.End.{End}
use Rattle.alef_texts.specs.declared.report.End.TheVariants.{BadEntry, WriteFault, NoMemory}
use Rattle.alef_texts.proofs.Told.{take-add}
use Rattle.alef_run.proofs.Between.{Between, between_first, over_along, legal, lacked, part_written, fault_later, legal_next, all_written, smaller, between_next}

-- ---- entries one after the other

pub followed_none : (h : History) → followed_by [] h ≡ h
followed_none h = ap (λ (l : List Entry). record h { entries = l }) (append-nil h.entries)

pub followed_next : (h g w : History) (es : List Entry) (i : ℕ) (e : Entry) → slice_get es i ≡ Some e → g ≡ followed_by (take i es) h → w ≡ with_entry e g → w ≡ followed_by (take (i + 1) es) h
followed_next h g w es i e here is next =
    next ∙ ap (with_entry e) is
    ∙ ap (λ (l : List Entry). record h { entries = l })
    (append_assoc h.entries (take i es) (e ∷ [])
    ∙ ap (λ (l : List Entry). h.entries ++ l)
    (sym (take_more es i e (slice_get_within es i e here) ∙ ap (λ (x : Entry). take i es ++ x ∷ []) (get_or_from_slice_get es i e e here))))

pub followed_all : (h w : History) (es : List Entry) (i : ℕ) → i ≡ length es → w ≡ followed_by (take i es) h → w ≡ followed_by es h
followed_all h w es i full is = is ∙ ap (λ (l : List Entry). followed_by l h) (ap (λ (n : ℕ). take n es) full ∙ take_all (length es) es (omega arith))

pub first_made : (h w : History) (es : List Entry) (i : ℕ) → i ≤ length es → w ≡ followed_by (take i es) h → MakesFirst es h w
first_made h w es i few is = record { count = i; within = few; made = is }

pub all_made : (h w : History) (es : List Entry) → w ≡ followed_by es h → MakesFirst es h w
all_made h w es is =
    record { count = length es; within = omega arith; made = is ∙ ap (λ (l : List Entry). followed_by l h) (sym (take_all (length es) es (omega arith))) }

-- what making entries comes to where the next one is not permitted
pub record Stopping (es : List Entry) (h w : History) : Type 0 where
  pub first : MakesFirst es h w
  pub stop : StopsAlong es h w

pub stopped_at : (h g w : History) (es : List Entry) (i : ℕ) (d : Entry) → i < length es → g ≡ followed_by (take i es) h → w ≡ g → run_of (with_entry (slice_index_or es i d) g) ≡ None → Stopping es h w
stopped_at h g w es i d lt is same none =
    record {
      first = record { count = i; within = omega (arith, lt); made = same ∙ is };
      stop = record {
        count = i;
        entry = slice_index_or es i d;
        here = slice_get-get_or es i d lt;
        made = same ∙ is;
        none = let P : History → Type 0 = λ g. run_of (with_entry (slice_index_or es i d) g) ≡ None in subst P (sym same) none;
      };
    }

-- ---- an entry that is not permitted

pub run_parts : (K : Kind) (h k : List Entry) (o : Option (World K)) → run_on K (h ++ k) o ≡ run_on K k (run_on K h o)
run_parts K [] k o = refl
run_parts K (e ∷ h) k o = run_parts K h k (option_and_then (λ w. step K w e) o)

over_no_step : (K : Kind) (e : Entry) (o : Option (World K)) → IsSome (option_and_then (λ (s : Shared). s.over) (option_map (λ (w : World K). w.shared) o)) → option_and_then (λ w. step K w e) o ≡ None
over_no_step K e (Some w) is = over_stays K w e is
over_no_step K e None is = refl

-- a history that is over permits no entry
pub over_none : (h : History) (e : Entry) → IsSome (over_of h) → run_of (with_entry e h) ≡ None
over_none h e is = run_parts (machine h.image) h.entries (e ∷ []) _ ∙ over_no_step (machine h.image) e (run_of h) is

pub none_along : (image : Contents) (region limit : ℕ) (h : History) → h.image ≡ image → h.region ≡ region → (e : Entry) → run_of (with_entry e h) ≡ None
    → run_of (with_entry e (history_along image region limit h.entries)) ≡ None
none_along image region limit h i r e none =
    let P : Contents → Type 0 = λ image. run_of (with_entry e (history_along image h.region limit h.entries)) ≡ None in
    let Q : ℕ → Type 0 = λ region. run_of (with_entry e (history_along image region limit h.entries)) ≡ None in
    subst Q r (subst P i none)

-- ---- what was made in a round

module _ (h h' : History) (quota : ℕ) (s piece : List Entry) (made : ℕ) (entries : All IsEntry s) (made_is : made ≡ length h.entries) (front : h.entries ≡ take made s)
    (piece_is : piece ≡ take (quota - made) (drop made s)) (least : made ≤ quota) (most : quota ≤ length s) (M : MakesFirst piece (record h { quota = quota }) h') where
  size : length piece ≡ quota - made
  size =
      let a = ap length piece_is in
      let b = length-take (quota - made) (drop made s) in
      let c = length-drop made s in
      omega (arith, a, b, c, most)

  pub merged : IsMerged 64 (record h { quota = quota }) h'
  merged =
      let e = M.made in
      let P : List Entry → Type 0 = All IsEntry in
      let fit : P piece = subst P (sym piece_is) (All-take IsEntry (quota - made) (drop made s) (All-drop IsEntry made s entries)) in
      record {
        more = take M.count piece;
        entries = ap (λ (h : History). h.entries) e;
        by = All-weaker IsEntry (λ (e : Entry). e.worker < 64) (λ (e : Entry) (f : IsEntry e). f.worker) (take M.count piece) (All-take IsEntry M.count piece fit);
        image = ap (λ (h : History). h.image) e;
        region = ap (λ (h : History). h.region) e;
        limit = ap (λ (h : History). h.limit) e;
        quota = ap (λ (h : History). h.quota) e;
        dropped = ap (λ (h : History). h.dropped) e;
      }

  short : M.count ≤ quota - made
  short = let w = M.within in let z = size in omega (arith, w, z)

  front_at : h'.entries ≡ take (made + M.count) s
  front_at =
      let few = short in
      ap (λ (h : History). h.entries) M.made
      ∙ ap₂ (λ (a b : List Entry). a ++ take M.count b) front piece_is
      ∙ ap (λ (l : List Entry). take made s ++ l) (take-take M.count (quota - made) (drop made s) few)
      ∙ sym (take-add made M.count s)

  pub now_made : length h'.entries ≡ made + M.count
  now_made =
      let few = short in
      ap length front_at ∙ length-take (made + M.count) s ∙ omega (arith, few, least, most)

  pub still_front : h'.entries ≡ take (length h'.entries) s
  still_front = front_at ∙ ap (λ (n : ℕ). take n s) (sym now_made)

  pub in_quota : length h'.entries ≤ quota
  in_quota = let few = short in let n = now_made in omega (arith, few, n, least)

  pub full_quota : h' ≡ followed_by piece (record h { quota = quota }) → length h'.entries ≡ quota
  full_quota is =
      let z = size in
      let n = ap (λ (h : History). length h.entries) is ∙ length-append h.entries piece in
      omega (arith, n, z, made_is, least)

  -- the entry that was not made is that of the schedule behind those that were
  pub next_here : (t : StopsAlong piece (record h { quota = quota }) h') → slice_get s (length h'.entries) ≡ Some t.entry
  next_here t =
      let within = slice_get_within piece t.count t.entry t.here in
      let z = size in
      let at : length h'.entries ≡ made + t.count =
      ap (λ (h : History). length h.entries) t.made ∙ length-append h.entries (take t.count piece)
      ∙ (let l = length-take t.count piece in omega (arith, l, within, made_is)) in
      let lt : t.count < quota - made = omega (arith, within, z) in
      ap (slice_get s) at
      ∙ slice_get-get_or s (made + t.count) t.entry (omega (arith, lt, most))
      ∙ ap Some
      (sym (get_or-drop made s t.count t.entry) ∙ sym (get_or-take (quota - made) (drop made s) t.count t.entry lt)
      ∙ ap (λ (l : List Entry). slice_index_or l t.count t.entry) (sym piece_is)
      ∙ get_or_from_slice_get piece t.count t.entry t.entry t.here)

-- some rounds were made, and the entries are the first ones of the schedule
pub record Going (image : Contents) (region : ℕ) (s : List Entry) (h : History) (made : ℕ) (before got : Option (List ℕ)) (faults faults_after : ℕ) : Type 0 where
  pub between : Between image 64 region (length s) h made before got faults faults_after
  pub front : h.entries ≡ take made s

-- ---- the end

pub ended : (g : History) (h : List Entry) (o : Option Over) (before after : Option (List ℕ)) (faults faults' : ℕ) → o ≡ over_of g → g.entries ≡ h → length g.entries ≡ g.limit
    → WhereTold (GetsAll (output_of g)) before after → faults' ≡ faults → WentTo g h (end_by o) before after faults faults'
ended g h (Some over) before after faults faults' is all full w calm = (all, inl (sym is), w, calm)
ended g h None before after faults faults' is all full w calm = (all, inr (refl, sym is, full), w, calm)

-- before the first entry
pub first_going : (s : List Entry) (w : History) (before : Option (List ℕ)) (faults : ℕ) → w ≡ opening w.image w.region (length s) → (now : List Entry) → now ≡ w.entries → (length now ≡ length s → ⊥)
    → Going w.image w.region s w (length now) before before faults faults
first_going s w before faults first now now_is some =
    let none : w.entries ≡ [] = ap (λ (h : History). h.entries) first in
    let zero_is : 0 ≡ length now = sym (ap length (now_is ∙ none)) in
    let P : ℕ → Type 0 = λ made. Going w.image w.region s w made before before faults faults in
    subst P zero_is (record { between = between_first 64 (length s) w before faults first (let z = zero_is in omega (arith, z, some)); front = none })

-- a schedule without entries
pub ended_at_once : (s : List Entry) (w : History) (before : Option (List ℕ)) (faults : ℕ) → w ≡ opening w.image w.region (length s) → (now : List Entry) → now ≡ w.entries → length now ≡ length s → (end : End)
    → end ≡ end_by (over_of w) → WentTo (history_along w.image w.region (length s) w.entries) s end before before faults faults
ended_at_once s w before faults first now now_is full end is =
    let none : w.entries ≡ [] = ap (λ (h : History). h.entries) first in
    let all : w.entries ≡ s = none ∙ sym (nil_from_length s (sym full ∙ ap length (now_is ∙ none))) in
    let E : End → Type 0 = λ end. WentTo (history_along w.image w.region (length s) w.entries) s end before before faults faults in
    let P : List Entry → Type 0 = λ entries. WhereTold (GetsAll (output_of (history_along w.image w.region (length s) entries))) before before in
    let B = between_first 64 1 (opening w.image w.region 1) before faults refl (omega arith) in
    subst E (sym is) (ended (history_along w.image w.region (length s) w.entries) s (over_of w) before before faults faults (over_along w.image w.region (length s) w refl refl) all (ap length all) (subst P (sym none) B.written) refl)

-- ---- a whole round

module _ (image : Contents) (region : ℕ) (s piece : List Entry) (h h1 h' : History) (made quota : ℕ) (before got : Option (List ℕ)) (faults faults_after : ℕ)
    (G : Going image region s h made before got faults faults_after) (entries : All IsEntry s) (quota_is : quota ≡ min (length s) (made + round_length)) (allowed : h1 ≡ record h { quota = quota })
    (piece_is : piece ≡ take (quota - made) (drop made s)) (first : MakesFirst piece h1 h') (runs : IsSome (run_of h')) (within : length h'.entries + away h' ≤ h'.quota) where
  M : MakesFirst piece (record h { quota = quota }) h'
  M = subst (λ (h : History). MakesFirst piece h h') allowed first

  least : made ≤ quota
  least = let less = G.between.less in omega (arith, quota_is, less)

  most : quota ≤ length s
  most = omega (arith, quota_is)

  later : IsMerged 64 (record h { quota = quota }) h'
  later = merged h h' quota s piece made entries G.between.made_is G.front piece_is least most M

  pub round_legal : IsLegal 64 (history_along image region (length s) h'.entries)
  round_legal = legal image 64 region (length s) made quota h h' before got faults faults_after G.between quota_is later runs within

  front_now : h'.entries ≡ take (length h'.entries) s
  front_now = still_front h h' quota s piece made entries G.between.made_is G.front piece_is least most M

  front_is : (n : ℕ) × (n ≤ length s) × (h'.entries ≡ take n s)
  front_is = (length h'.entries, (let q = in_quota h h' quota s piece made entries G.between.made_is G.front piece_is least most M in let m = most in omega (arith, q, m)), front_now)

  pub round_lacked : WentTo (history_along image region (length s) h'.entries) s NoMemory before got faults faults_after
  round_lacked = (front_is, lacked image 64 region (length s) made quota h h' before got faults faults_after G.between quota_is later runs within, G.between.calm)

  pub round_broken : (got' : Option (List ℕ)) (faults' : ℕ) → WhereTold (GetsPart (drop h'.dropped (output_of h'))) got got' → Faulted faults_after faults'
      → WentTo (history_along image region (length s) h'.entries) s WriteFault before got' faults faults'
  round_broken got' faults' w f = (
    front_is,
    part_written image 64 region (length s) made quota h h' before got faults faults_after G.between quota_is later runs within got' w,
    fault_later image 64 region (length s) made quota h h' before got faults faults_after G.between quota_is later runs within faults' f,
  )

  module _ (next : History) (dropped : next ≡ record h' { dropped = length (output_of h') }) (got' : Option (List ℕ)) (faults' : ℕ)
      (w : WhereTold (GetsAll (drop h'.dropped (output_of h'))) got got') (calm : faults' ≡ faults_after) (now : List Entry) (now_is : now ≡ h'.entries) where
    same_entries : next.entries ≡ h'.entries
    same_entries = ap (λ (h : History). h.entries) dropped

    pub next_legal : IsLegal 64 (history_along image region (length s) next.entries)
    next_legal = legal_next image 64 region (length s) made quota h h' before got faults faults_after G.between quota_is later runs within next dropped

    abbrev pub g : List Entry → History
    g entries = history_along image region (length s) entries

    written : WhereTold (GetsAll (output_of (g h'.entries))) before got'
    written = all_written image 64 region (length s) made quota h h' before got faults faults_after G.between quota_is later runs within got' w

    still : faults' ≡ faults
    still = calm ∙ G.between.calm

    pub round_stopped : StopsAlong piece h1 h' → WentTo (g next.entries) s (BadEntry (length now)) before got' faults faults'
    round_stopped stop =
        let t : StopsAlong piece (record h { quota = quota }) h' = subst (λ (h : History). StopsAlong piece h h') allowed stop in
        let P : List Entry → Type 0 = λ entries. WentTo (g entries) s (BadEntry (length h'.entries)) before got' faults faults' in
        let Q : List Entry → Type 0 = λ now. WentTo (g next.entries) s (BadEntry (length now)) before got' faults faults' in
        subst Q (sym now_is)
        (subst P (sym same_entries) (
          record {
            entry = t.entry;
            here = next_here h h' quota s piece made entries G.between.made_is G.front piece_is least most M t;
            made = front_now;
            none = none_along image region (length s) h' (later.image ∙ G.between.image_is) (later.region ∙ G.between.region_is) t.entry t.none;
          },
          written,
          still,
        ))

    pub round_ended : (end : End) → end ≡ end_by (over_of next) → length now ≡ length s → WentTo (g next.entries) s end before got' faults faults'
    round_ended end is full =
        let E : End → Type 0 = λ end. WentTo (g next.entries) s end before got' faults faults' in
        let all : next.entries ≡ s = same_entries ∙ front_now ∙ ap (λ (n : ℕ). take n s) (sym (ap length now_is) ∙ full) ∙ take_all (length s) s (omega arith) in
        let over : over_of next ≡ over_of (g next.entries) =
        over_along image region (length s) next (ap (λ (h : History). h.image) dropped ∙ later.image ∙ G.between.image_is) (ap (λ (h : History). h.region) dropped ∙ later.region ∙ G.between.region_is) in
        subst E (sym is)
        (ended (g next.entries) s (over_of next) before got' faults faults' over all (ap length all)
        (let P : List Entry → Type 0 = λ entries. WhereTold (GetsAll (output_of (g entries))) before got' in subst P (sym same_entries) written) still)

    module _ (all : h' ≡ followed_by piece h1) where
      full : length h'.entries ≡ quota
      full = full_quota h h' quota s piece made entries G.between.made_is G.front piece_is least most M (all ∙ ap (followed_by piece) allowed)

      pub round_smaller : length s - length next.entries < length s - length h.entries
      round_smaller = smaller image 64 region (length s) made quota h h' before got faults faults_after G.between quota_is later runs within next dropped full

      pub round_goes_on : (length now ≡ length s → ⊥) → Going image region s next (length now) before got' faults faults'
      round_goes_on unspent = record {
        between =
            between_next image 64 region (length s) made quota h h' before got faults faults_after G.between quota_is later runs within next dropped full (length now) got' faults' (ap length now_is) (ap away all ∙ ap away allowed ∙ G.between.here) unspent w calm;
        front = same_entries ∙ front_now ∙ ap (λ (n : ℕ). take n s) (sym (ap length now_is));
      }
