-- Members of values.
use Rattle.std.proofs.Common.{◌≡◌, ℕ, zero, suc, ◌+◌, ◌-◌, ◌/◌, ◌%◌, ◌^◌, ◌<◌, ◌≤◌, List, [], ◌∷◌, ◌++◌, map, length, take, drop, Option, Some, None, refl, sym, ap, ap₂, ◌∙◌, subst, inr, arith, length-append, append-nil}
use Rattle.std.specs.Prelude.{⊤, Bool, true, false, ◌&&◌, nat_le, nat_lt, if◌then◌else◌, replicate, slice_get, slice_index}
use Rattle.std.proofs.Math.Nat.{mod-mod}
use Rattle.std.proofs.lemmas.Grind.{common_steps}
use Rattle.al_event.specs.Store.{number_of}
use Rattle.al_typed.specs.declared.layout.Unit.{Unit as StorageUnit}
use Rattle.al_typed.specs.declared.ty.Ty.{Ty}
use Rattle.al_typed.specs.declared.expression.Passed.TheVariants as passed
use Rattle.al_typed.specs.Types.{is_void, is_array}
use Rattle.al_typed.specs.Layout.{IsLaidOut, layout, member, moved, units_of, size_of}
use Rattle.al_typed.specs.WellTyped.{LeadsTo}
use Rattle.al_meaning.specs.Words.{spelled, unit_in, value_bytes, member_units, part_of}
use Rattle.al_meaning.specs.Here.{units_in}
use Rattle.al_meaning.specs.Calls.{joined}
use Rattle.al_meaning.specs.Tasks.{Still, Outcome, Env, Rest, Task}
use Rattle.al_meaning.specs.Told.{value, needed, passed_part}
use Rattle.al_ir.specs.Control.{Slots, put}
use Rattle.al_lower_words.specs.Units.{AreOf}
use Rattle.al_lower_words.proofs.Integers.{length_of, words_are}
use Rattle.al_lower_code.specs.Moving.{Holder, holder, extracts}
use Rattle.al_lower_code.specs.Coded.{Coded}
use Rattle.al_lower_code.specs.Values.{member_value, member_coded}
use Rattle.al_lower_code.specs.Actions.{object_in}
use Rattle.al_lower_steps.specs.Slots.{Holds, Below, Outside}
use Rattle.al_lower_steps.specs.Site.{Site, HasAt}
use Rattle.al_lower_steps.proofs.Slots.{put_outside, holds_outside, outside_none, below_outside}
use Rattle.al_lower_steps.proofs.Steps.{Runs, moved as moved_on, has_front, has_back}
use Rattle.al_lower_steps.proofs.Plain.{extract_does}
use Rattle.al_lower_claims.proofs.Moving.{more_outside, first_holds}
use Rattle.al_lower_claims.proofs.Variables.{Stays, Dest, free, local, lone, put_outside_is, stays_both, stays_below, vars_kept, more_room}
use Rattle.al_lower_claims.proofs.Claims.{Setting, scene, site, spot, Run, Has, HasVars, HasRoom, UnitsOf, count_of, Gave, CodedDoes}
use Rattle.al_lower_claims.proofs.Operands.{free_does}
use Rattle.al_lower_claims.proofs.Plain.{valued_does}
use Rattle.al_lower_values.proofs.Rows.{UnitsOfAll, RowDoes}
use Rattle.al_lower_members.proofs.Even.{AreEven, power_some, layout_even}
use Rattle.al_lower_members.proofs.Within.{AllWithin}
use Rattle.al_lower_members.proofs.Paths.{path_within}
use Rattle.al_lower_members.proofs.Spelled.{spelled_part}

-- ---- the unit that has a byte

holder_at : (us : List StorageUnit) (lo hi a n i at size : ℕ) (u : StorageUnit) → AreEven lo hi a us → slice_get us i ≡ Some u → u.at ≤ at → at + size ≤ u.at + u.size → 0 < size → holder n at us ≡ record { index = n + i; skip = at - u.at }
holder_at [] lo hi a n i at size u h e from to some = absurd (cc)
holder_at (x ∷ us) lo hi a n zero at size u h e from to some =
    let same : x ≡ u = cc in
    subst (λ (u : StorageUnit). u.at ≤ at → at + size ≤ u.at + u.size → holder n at (x ∷ us) ≡ record { index = n + 0; skip = at - u.at }) same (λ from to.
    let here : (nat_le x.at at && nat_lt at (x.at + x.size)) ≡ true = both_hold (nat_le x.at at) (nat_lt at (x.at + x.size)) (grind (arith, common_steps, from)) (let lt : at < x.at + x.size = omega (arith, to, some) in grind (arith, common_steps, lt)) in
    let z : n ≡ n + 0 = omega arith in
    ap (λ b. if b then record { index = n; skip = at - x.at } else holder (n + 1) at us) here ∙ ap (λ n. record { index = n; skip = at - x.at }) z) from to
  where
    both_hold : (b c : Bool) → b ≡ true → c ≡ true → (b && c) ≡ true
    both_hold true true p q = refl
    both_hold true false p q = q
    both_hold false c p q = p
holder_at (x ∷ us) lo hi a n (suc i) at size u h e from to some =
    let later = before us (x.at + x.size) hi a i u h.1.1 e in
    let z : n + 1 + i ≡ n + suc i = omega arith in
    let other : (nat_le x.at at && nat_lt at (x.at + x.size)) ≡ false = second_fails (nat_le x.at at) (nat_lt at (x.at + x.size)) (let le : x.at + x.size ≤ at = omega (arith, later, from) in grind (arith, common_steps, le)) in
    ap (λ b. if b then record { index = n; skip = at - x.at } else holder (n + 1) at us) other ∙ (holder_at us (x.at + x.size) hi a (n + 1) i at size u h.1.1 e from to some ∙ ap (λ n. record { index = n; skip = at - u.at }) z)
  where
    second_fails : (b c : Bool) → c ≡ false → (b && c) ≡ false
    second_fails true c q = q
    second_fails false c q = refl

    before : (us : List StorageUnit) (lo hi a i : ℕ) (u : StorageUnit) → AreEven lo hi a us → slice_get us i ≡ Some u → lo ≤ u.at
    before [] lo hi a i u h e = absurd (cc)
    before (y ∷ us) lo hi a zero u h e = let same : y ≡ u = cc in subst (λ (u : StorageUnit). lo ≤ u.at) same h.0
    before (y ∷ us) lo hi a (suc i) u h e = let f = h.0 in let r = before us (y.at + y.size) hi a i u h.1.1 e in omega (arith, f, r)

-- ---- what is read of each unit of a part

-- it is bytes of one word of the whole
record IsPiece (us : List StorageUnit) (ws bytes : List ℕ) (v : StorageUnit) : Type 0 where
  index : ℕ
  skip : ℕ
  held : holder 0 v.at us ≡ record { index = index; skip = skip }
  within : index < length us
  is : unit_in bytes v ≡ slice_index ws index / 256 ^ skip % 256 ^ v.size

abbrev ArePieces : List StorageUnit → (ws bytes : List ℕ) → List StorageUnit → Type 0
ArePieces us ws bytes [] = ⊤
ArePieces us ws bytes (v ∷ vs) = IsPiece us ws bytes v × ArePieces us ws bytes vs

abbrev HaveBytes : List StorageUnit → Type 0
HaveBytes [] = ⊤
HaveBytes (v ∷ vs) = (0 < v.size) × HaveBytes vs

have_bytes : (by lo hi a : ℕ) (us : List StorageUnit) → AreEven lo hi a us → HaveBytes (moved by us)
have_bytes by lo hi a [] h = tt
have_bytes by lo hi a (u ∷ us) h = (power_some u.size h.1.0.power, have_bytes by (u.at + u.size) hi a us h.1.1)

pieces : (us : List StorageUnit) (ws bytes : List ℕ) (hi a : ℕ) (vs : List StorageUnit) → AreEven 0 hi a us → hi ≤ length bytes → HaveBytes vs → AllWithin us vs → ArePieces us ws (spelled us ws bytes) vs
pieces us ws bytes hi a [] h fit some within = tt
pieces us ws bytes hi a (v ∷ vs) h fit some within =
    let x = within.0 in
    let from = x.from in
    let to = x.to in
    let s = v.at - x.unit.at in
    let at : x.unit.at + s ≡ v.at = omega (arith, from) in
    let z : 0 + x.index ≡ x.index = omega arith in (
      record {
        index = x.index;
        skip = v.at - x.unit.at;
        held = holder_at us 0 hi a 0 x.index v.at v.size x.unit h x.there from to some.0 ∙ ap (λ n. record { index = n; skip = v.at - x.unit.at }) z;
        within = within_length us x.index x.unit x.there;
        is = ap (λ n. number_of (take v.size (drop n (spelled us ws bytes)))) (sym at) ∙ spelled_part us ws bytes 0 hi a x.index s v.size x.unit h fit x.there (omega (arith, from, to));
      },
      pieces us ws bytes hi a vs h fit some.1 within.1,
    )
  where
    within_length : (us : List StorageUnit) (i : ℕ) (u : StorageUnit) → slice_get us i ≡ Some u → i < length us
    within_length [] i u e = absurd (cc)
    within_length (y ∷ us) zero u e = omega arith
    within_length (y ∷ us) (suc i) u e = let r = within_length us i u e in omega (arith, r)

length_empty : (n : ℕ) → length (replicate {A = ℕ} n 0) ≡ n
length_empty n = grind (arith, common_steps)

-- words of pieces keep the bytes of their units
pieces_fit : (us : List StorageUnit) (ws bytes : List ℕ) (by : ℕ) (vs : List StorageUnit) → ArePieces us ws bytes (moved by vs) → AreOf vs (map (unit_in bytes) (moved by vs))
pieces_fit us ws bytes by [] h = refl
pieces_fit us ws bytes by (v ∷ vs) h =
    let x = h.0 in
    let w = slice_index ws x.index / 256 ^ x.skip in
    let is : unit_in bytes (record { at = by + v.at; size = v.size }) ≡ w % 256 ^ v.size = x.is in
    let kept : unit_in bytes (record { at = by + v.at; size = v.size }) % 256 ^ v.size ≡ unit_in bytes (record { at = by + v.at; size = v.size }) = ap (λ n. n % 256 ^ v.size) is ∙ (mod-mod w (256 ^ v.size) ∙ sym is) in
    ap₂ (λ (n : ℕ) (rest : List ℕ). n ∷ rest) kept (pieces_fit us ws bytes by vs h.1)

holds_index : (ws : List ℕ) (t i : ℕ) (slots : Slots) → i < length ws → Holds slots t ws → slots (t + i) ≡ Some (slice_index ws i)
holds_index [] t i slots lt h = absurd (omega (arith, lt))
holds_index (w ∷ ws) t zero slots lt h = let z : t ≡ t + 0 = omega arith in subst (λ n. slots n ≡ Some w) z h.0
holds_index (w ∷ ws) t (suc i) slots lt h = let z : t + 1 + i ≡ t + suc i = omega arith in subst (λ n. slots n ≡ Some (slice_index ws i)) z (holds_index ws (t + 1) i slots (omega (arith, lt)) h.1)

module _ (x : Site) (us : List StorageUnit) (ws bytes : List ℕ) (count : length ws ≡ length us) where
  extracts_do : (vs : List StorageUnit) (line to from pc : ℕ) (slots last : Slots) (s : Still) (o : Outcome) → ArePieces us ws bytes vs → to + length vs ≤ from → HasAt x pc (extracts line to from us vs) → Holds slots from ws → ((now : Slots) → Outside to (length vs) now slots → Holds now to (map (unit_in bytes) vs) → Runs x o (pc + length (extracts line to from us vs)) now last s) → Runs x o pc slots last s
  extracts_do [] line to from pc slots last s o p le has holds go = let z : pc ≡ pc + 0 = omega arith in moved_on x z (go slots (outside_none to 0 slots) tt)
  extracts_do (v ∷ vs) line to from pc slots last s o p le has holds go =
      let y = p.0 in
      let h : Holder = holder 0 v.at us in
      let lt = y.within in
      let there : slots (from + h.index) ≡ Some (slice_index ws y.index) = subst (λ (h : Holder). slots (from + h.index) ≡ Some (slice_index ws y.index)) (sym y.held) (holds_index ws from y.index slots (omega (arith, lt, count)) holds) in
      let w = slice_index ws y.index / 256 ^ h.skip % 256 ^ v.size in
      let is : w ≡ unit_in bytes v = ap (λ (h : Holder). slice_index ws y.index / 256 ^ h.skip % 256 ^ v.size) y.held ∙ sym y.is in
      let len : pc + 1 + length (extracts line (to + 1) from us vs) ≡ pc + length (extracts line to from us (v ∷ vs)) = omega arith in
      extract_does x has.0 there
      (extracts_do vs line (to + 1) from (pc + 1) (put to w slots) last s o p.1 (omega (arith, le)) has.1 (holds_outside ws from to 1 (put to w slots) slots (inr (omega (arith, le))) (put_outside to w slots) holds) (λ now out held.
      moved_on x len (go now (more_outside to (length vs) w now slots out) (first_holds to (length vs) w now slots out ∙ ap Some is, held))))

module _ (k : Setting) (laid : IsLaidOut k.ways.program.aggregates) {m : Task (Option (List ℕ))} {c : Coded} (whole part : Ty) (path : List ℕ) (leads : LeadsTo k.ways.program.aggregates path whole part) (nv : is_void whole ≡ false) (na : is_array whole ≡ false) (nv_part : is_void part ≡ false) (na_part : is_array part ≡ false) (h : CodedDoes k m whole c) where
  abbrev part_in : List ℕ → List ℕ
  part_in v = part_of k.ways.program.aggregates whole path v

  abbrev part_units : List StorageUnit
  part_units = member_units k.ways.program.aggregates (member k.ways.program.aggregates path whole)

  units_moved : part_units ≡ moved leads.0.at (units_in k.ways.program part)
  units_moved = ap (member_units k.ways.program.aggregates) leads.1.0 ∙ ap (λ t. moved leads.0.at (units_in k.ways.program t)) leads.1.1

  are_pieces : (v : List ℕ) → ArePieces (units_in k.ways.program whole) v (value_bytes k.ways.program.aggregates whole v) (moved leads.0.at (units_in k.ways.program part))
  are_pieces v =
      let rows = k.ways.program.aggregates in
      let e = layout_even rows whole in
      let d = layout_even rows part in
      let within0 = path_within rows laid path whole leads.0 leads.1.0 in
      let within : AllWithin (units_of rows whole) (moved leads.0.at (units_of rows part)) = subst (λ t. AllWithin (units_of rows whole) (moved leads.0.at (units_of rows t))) leads.1.1 within0 in
      let empty : List ℕ = replicate (size_of rows whole) 0 in
      let n = length_empty (size_of rows whole) in
      pieces (units_of rows whole) v empty (size_of rows whole) (layout rows whole).align (moved leads.0.at (units_of rows part)) e.units (omega (arith, n)) (have_bytes leads.0.at 0 (layout rows part).size (layout rows part).align (units_of rows part) d.units) within

  part_is : (v : List ℕ) → part_in v ≡ map (unit_in (value_bytes k.ways.program.aggregates whole v)) (moved leads.0.at (units_in k.ways.program part))
  part_is v = ap (map (unit_in (value_bytes k.ways.program.aggregates whole v))) units_moved

  part_fits : (v : List ℕ) → UnitsOf k part (part_in v)
  part_fits v = subst (UnitsOf k part) (sym (part_is v)) (pieces_fit (units_in k.ways.program whole) v (value_bytes k.ways.program.aggregates whole v) leads.0.at (units_in k.ways.program part) (are_pieces v))

  -- the whole comes to stand behind the part
  part_does : (dest to pc : ℕ) (slots last : Slots) (env : Env) (s : Still) (next : List ℕ → Rest) → dest + count_of k part ≤ to + count_of k part → HasRoom k to → HasVars k env slots → Has k pc (member_value (spot k) whole part path c dest to) → ((v : List ℕ) (env2 : Env) (s : Still) (was now last : Slots) → HasVars k env2 was → Stays (scene k) to was slots → Outside dest (count_of k part) now was → Holds now dest (part_in v) → (c.keeps ≡ true → env2 ≡ env) → Run k (next v env2 s) (pc + length (member_value (spot k) whole part path c dest to)) now last s) → Run k (value m env s next) pc slots last s
  part_does dest to pc slots last env s next le room vars has go =
      let n = count_of k part in
      let ca = c.value (to + n) (to + n) in
      let cb = extracts k.ways.line dest (to + n) (units_in k.ways.program whole) part_units in
      free_does k h.value nv (to + n) pc slots last env s next (more_room (scene k) to n room) vars (has_front (site k) pc ca cb has) (λ v env2 s now last2 fits vars2 st2 holds same.
      let vs = moved leads.0.at (units_in k.ways.program part) in
      let bytes = value_bytes k.ways.program.aggregates whole v in
      let count : length (part_in v) ≡ n = length_of _ _ (part_fits v) ∙ sym (words_are k.ways.program part na_part) in
      let units : length vs ≡ n = sym (map_length (unit_in bytes) vs) ∙ (sym (ap length (part_is v)) ∙ count) in
      let code = subst (λ us. Has k (pc + length ca) (extracts k.ways.line dest (to + n) (units_in k.ways.program whole) us)) units_moved (has_back (site k) pc ca cb has) in
      let len : pc + length ca + length cb ≡ pc + length (ca ++ cb) = omega (arith, length-append ca cb) in
      extracts_do (site k) (units_in k.ways.program whole) v bytes (length_of _ _ fits) vs k.ways.line dest (to + n) (pc + length ca) now last2 s _ (are_pieces v) (omega (arith, le, units)) code holds (λ now3 out held.
      moved_on (site k) (ap (λ us. pc + length ca + length (extracts k.ways.line dest (to + n) (units_in k.ways.program whole) us)) (sym units_moved) ∙ len) (go v env2 s now now3 last2 vars2 (λ i f lt. st2 i f (omega (arith, lt))) (subst (λ n. Outside dest n now3 now) units out) (subst (Holds now3 dest) (sym (part_is v)) held) same)))
    where
      map_length : {A B : Type 0} (f : A → B) (xs : List A) → length (map f xs) ≡ length xs
      map_length f [] = refl
      map_length f (x ∷ xs) = ap suc (map_length f xs)

  abbrev pub member_means : Task (Option (List ℕ))
  member_means env s next = value m env s (λ v env s. next (Some (part_in v)) env s)

  pub member_of_does : CodedDoes k member_means part (member_coded (spot k) whole part path c)
  member_of_does = valued_does k c.keeps (member_value (spot k) whole part path c) (record {
    by = λ dest to pc slots last env s next d room vars has go.
        part_does dest to pc slots last env s (λ v env s. next (Some (part_in v)) env s) (dest_low dest to d room) room vars has (λ v env2 s was now last2 vars2 st2 out holds same.
        go (Some (part_in v)) env2 s was now last2 (nv_part, part_fits v) vars2 st2 (put_outside_is (count_of k part) dest to now was out) holds same (λ e. absurd (cc)));
  })
    where
      dest_low : (dest to : ℕ) → Dest (scene k) (count_of k part) dest to → HasRoom k to → dest + count_of k part ≤ to + count_of k part
      dest_low dest to (free d) room = omega (arith, d)
      dest_low dest to (lone one lt) room = omega (arith, lt)
      dest_low dest to (local i l x d len) room = let q = k.homes.fits i l x in let a = k.above in omega (arith, d, q, a, room)

  -- ---- an object that is a member of a value

  abbrev pub object_means : Task (List (List ℕ))
  object_means env s next = value m env s (λ v env s. passed_part k.ways passed.Value whole path v env s next)

  pub object_part_does : RowDoes k object_means (part ∷ []) c.keeps (object_in (spot k) passed.Value whole part path c).code
  object_part_does = record {
    by = λ to pc slots last env s next room vars has go.
        part_does to to pc slots last env s (λ v env s. passed_part k.ways passed.Value whole path v env s next) (omega arith) room vars has (λ v env2 s was now last2 vars2 st2 out holds same.
        let below : Below to now was = below_outside to (count_of k part) now was out in
        go (part_in v ∷ []) env2 s now last2 (one_value (part_in v) (part_fits v)) (vars_kept (scene k) env2 to now was room below vars2) (stays_both (scene k) to to now was slots (omega arith) (stays_below (scene k) to now was below) st2) (subst (Holds now to) (sym (append-nil (part_in v))) holds) same);
  }
    where
      one_value : (v : List ℕ) → UnitsOf k part v → UnitsOfAll k (part ∷ []) (joined (v ∷ []))
      one_value v fits = subst (λ us. AreOf us (v ++ [])) (sym (append-nil (units_in k.ways.program part))) (subst (UnitsOf k part) (sym (append-nil v)) fits)

  abbrev pub dropped_means : Task (List (List ℕ))
  dropped_means env s next = value m env s (λ v env s. passed_part k.ways passed.Nothing whole path v env s next)

  -- nothing of it is passed
  pub object_dropped_does : RowDoes k dropped_means [] c.keeps (object_in (spot k) passed.Nothing whole part path c).code
  object_dropped_does = record {
    by = λ to pc slots last env s next room vars has go.
        h.effect.by to pc slots last env s (λ o env s. needed o env s (λ v env s. next [] env s)) room vars has (λ o env2 s now last2 g vars2 st2 same. on to pc o env2 s now last2 next g (go [] env2 s now last2 refl vars2 st2 tt same));
  }
    where
      true_is_not : (b : Bool) → b ≡ true → b ≡ false → ⊥
      true_is_not true e f = cc
      true_is_not false e f = cc

      on : (to pc : ℕ) (o : Option (List ℕ)) (env2 : Env) (s : Still) (now last : Slots) (next : List (List ℕ) → Rest) → Gave k whole o → Run k (next [] env2 s) (pc + length (c.effect to)) now last s → Run k (needed o env2 s (λ v env s. next [] env s)) (pc + length (c.effect to)) now last s
      on to pc None env2 s now last next g r = absurd (true_is_not (is_void whole) g nv)
      on to pc (Some v) env2 s now last next g r = r
