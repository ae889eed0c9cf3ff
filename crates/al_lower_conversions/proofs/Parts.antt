-- Conversions: tuples part by part, and all that the rules leave.
use Rattle.std.proofs.Common.{◌≡◌, ℕ, zero, suc, ◌+◌, ◌%◌, ◌^◌, ◌≤◌, List, [], ◌∷◌, ◌++◌, length, map, take, drop, Option, Some, None, refl, sym, ap, ap₂, ◌∙◌, subst, inl, inr, arith, length-append}
use Rattle.std.specs.Prelude.{Bool, true, false, ◌&&◌, nat_eq, if◌then◌else◌}
use Rattle.std.proofs.Math.Nat.{zero-mod}
use Rattle.std.proofs.lemmas.List.{take-append-drop}
use Rattle.std.proofs.lemmas.Grind.{common_steps}
use Rattle.al_base.specs.declared.arith.Kind.{Kind}
use Rattle.al_typed.specs.declared.layout.Unit.{Unit as StorageUnit}
use Rattle.al_typed.specs.declared.ty.Ty.{Ty, Void, Integer, Pointer', Array', Chan', Tuple', Aggregate, Function', Row_of-Ty, end_of-Ty, more_of-Ty}
use Rattle.al_typed.specs.declared.ty.Ty.TheViews.{out-Ty}
use denote.Hole.Carrier.{out}
use Rattle.al_typed.specs.Types.{is_array, is_scalar}
use Rattle.al_typed.specs.WellTyped.{is_word, converts, convert_all}
use Rattle.al_meaning.specs.Words.{integer_words, converted, converted_parts, zero_words}
use Rattle.al_meaning.specs.Shown.{kind_of}
use Rattle.al_meaning.specs.Here.{units_in}
use Rattle.al_meaning.specs.Places.{words_in}
use Rattle.al_meaning.specs.Tasks.{Still, Outcome, Env, Rest, Task}
use Rattle.al_ir.specs.Control.{Slots, put_all}
use Rattle.al_ir.specs.Step.{converted_words}
use Rattle.al_lower_words.specs.Units.{AreOf}
use Rattle.al_lower_words.proofs.Integers.{length_of, words_are}
use Rattle.al_lower_code.specs.Moving.{copies}
use Rattle.al_lower_code.specs.Operators.{stays, all_stay, convert_code, convert_parts}
use Rattle.al_lower_code.specs.Coded.{Coded, plain}
use Rattle.al_lower_code.specs.Values.{converted_coded}
use Rattle.al_lower_steps.specs.Slots.{Holds, Outside}
use Rattle.al_lower_steps.proofs.Slots.{outside_none, outside_both, outside_wider, holds_outside, holds_front, holds_back, holds_join, holds_at, put_all_outside, put_all_holds}
use Rattle.al_lower_steps.proofs.Steps.{moved, has_front, has_back}
use Rattle.al_lower_steps.proofs.Plain.{convert_does}
use Rattle.al_lower_claims.proofs.Moving.{copies_do}
use Rattle.al_lower_claims.proofs.Privates.{take_fits, drop_fits, join_fits}
use Rattle.al_lower_claims.proofs.Variables.{stays_both, more_room, Dest, free, local, lone, put_outside_is}
use Rattle.al_lower_claims.proofs.Claims.{Setting, scene, site, spot, Run, Has, HasRoom, UnitsOf, count_of, CodedDoes}
use Rattle.al_lower_claims.proofs.Operands.{both_true, free_does}
use Rattle.al_lower_claims.proofs.Plain.{valued_does}
use Rattle.al_lower_conversions.proofs.Sizes.{sizes, fits_by_sizes, row_units, tuple_sizes, tuple_not_array, tuple_not_void, tuple_not_scalar}
use Rattle.al_lower_conversions.proofs.Same.{mapped, Same, same_does}
use Rattle.al_lower_conversions.proofs.Integers.{integer_kept, converted_fits, integers_convert, words_of_kind}
use Rattle.al_lower_conversions.proofs.Words.{single, words_convert, aggregates_convert}
use Rattle.al_lower_conversions.proofs.Plain.{converts_no_array, converts_to_no_array}

zero_fits : (us : List StorageUnit) → AreOf us (zero_words (length us))
zero_fits [] = refl
zero_fits (u ∷ us) = ap₂ (λ (n : ℕ) (v : List ℕ). n ∷ v) (zero-mod (256 ^ u.size)) (zero_fits us)

length_sizes : (us : List StorageUnit) → length (sizes us) ≡ length us
length_sizes [] = refl
length_sizes (u ∷ us) = ap suc (length_sizes us)

same_lengths : (us vs : List StorageUnit) → sizes us ≡ sizes vs → length us ≡ length vs
same_lengths us vs e = sym (length_sizes us) ∙ (ap length e ∙ length_sizes vs)

true_is_not : (b : Bool) → b ≡ true → b ≡ false → ⊥
true_is_not true h k = cc
true_is_not false h k = cc

tuple_kind : (m : _) (n : _) (f : Row_of-Ty _) (i : Row_of-Ty _) (bits : ℕ) → integer_words (kind_of (Tuple' m f)) bits ≡ integer_words (kind_of (Tuple' n i)) bits
unfolding kind_of out-Ty out
tuple_kind m n f i bits = refl

aggregate_not_array : (a : ℕ) → is_array (Aggregate a) ≡ false
unfolding is_array out-Ty out
aggregate_not_array a = refl

module _ (k : Setting) where
  both_units : (t u : Ty) → (is_word t && is_word u) ≡ true → units_in k.ways.program t ≡ units_in k.ways.program u
  both_units t u e = let b = both_true (is_word t) (is_word u) e in (single k.ways.program t b.0).units ∙ sym (single k.ways.program u b.1).units

  aggregate_units : (a b : ℕ) → nat_eq a b ≡ true → units_in k.ways.program (Aggregate a) ≡ units_in k.ways.program (Aggregate b)
  aggregate_units a b e = let is : a ≡ b = grind (arith, common_steps, e) in ap (λ n. units_in k.ways.program (Aggregate n)) is

  -- ---- what is made is a value of the other type

  mutual
    pub made_fits : (t u : Ty) → converts t u ≡ true → (v : List ℕ) → UnitsOf k t v → UnitsOf k u (converted k.ways.program.aggregates t u v)
    made_fits (Integer j) (Integer i) e v h = converted_fits k j i v
    made_fits (Tuple' m f) (Tuple' n i) e v h =
        let p = k.ways.program in
        fits_by_sizes (row_units p i) (units_in p (Tuple' n i)) _ (sym (tuple_sizes p n i)) (parts_fit f i e v (fits_by_sizes (units_in p (Tuple' m f)) (row_units p f) v (tuple_sizes p m f) h))
    made_fits (Aggregate a) (Aggregate b) e v h = subst (λ us. AreOf us v) (aggregate_units a b e) h
    made_fits t u e v h = subst (λ us. AreOf us v) (both_units t u e) h

    parts_fit : {m n : _} (f : Row_of-Ty m) (i : Row_of-Ty n) → convert_all f i ≡ true → (v : List ℕ) → AreOf (row_units k.ways.program f) v → AreOf (row_units k.ways.program i) (converted_parts k.ways.program.aggregates f i v)
    parts_fit end_of-Ty end_of-Ty e v h = refl
    parts_fit end_of-Ty (more_of-Ty i is) e v h = absurd (cc)
    parts_fit (more_of-Ty f fs) end_of-Ty e v h = absurd (cc)
    parts_fit (more_of-Ty f fs) (more_of-Ty i is) e v h =
        let p = k.ways.program in
        let rows = p.aggregates in
        let b = both_true (converts f i) (convert_all fs is) e in
        let n : length (units_in p f) ≡ words_in p f = sym (words_are k.ways.program f (converts_no_array f i b.0)) in
        join_fits (units_in p i) (row_units p is) (converted rows f i (take (words_in p f) v)) (converted_parts rows fs is (drop (words_in p f) v))
        (made_fits f i b.0 (take (words_in p f) v) (subst (λ q. AreOf (units_in p f) (take q v)) n (take_fits (units_in p f) (row_units p fs) v h)))
        (parts_fit fs is b.1 (drop (words_in p f) v) (subst (λ q. AreOf (row_units p fs) (drop q v)) n (drop_fits (units_in p f) (row_units p fs) v h)))

  -- ---- what stays

  mutual
    pub made_stays : (t u : Ty) → converts t u ≡ true → stays t u ≡ true → (v : List ℕ) → UnitsOf k t v → converted k.ways.program.aggregates t u v ≡ v
    made_stays (Integer j) (Integer i) e s v h = (integer_kept k j i v s h).0
    made_stays (Tuple' m f) (Tuple' n i) e s v h =
        let p = k.ways.program in
        parts_stay f i e s v (fits_by_sizes (units_in p (Tuple' m f)) (row_units p f) v (tuple_sizes p m f) h)
    made_stays t u e s v h = refl

    parts_stay : {m n : _} (f : Row_of-Ty m) (i : Row_of-Ty n) → convert_all f i ≡ true → all_stay f i ≡ true → (v : List ℕ) → AreOf (row_units k.ways.program f) v → converted_parts k.ways.program.aggregates f i v ≡ v
    parts_stay end_of-Ty end_of-Ty e s v h = h
    parts_stay end_of-Ty (more_of-Ty i is) e s v h = absurd (cc)
    parts_stay (more_of-Ty f fs) end_of-Ty e s v h = absurd (cc)
    parts_stay (more_of-Ty f fs) (more_of-Ty i is) e s v h =
        let p = k.ways.program in
        let b = both_true (converts f i) (convert_all fs is) e in
        let s2 = both_true (stays f i) (all_stay fs is) s in
        let n : length (units_in p f) ≡ words_in p f = sym (words_are k.ways.program f (converts_no_array f i b.0)) in
        ap₂ (λ (x y : List ℕ). x ++ y)
        (made_stays f i b.0 s2.0 (take (words_in p f) v) (subst (λ q. AreOf (units_in p f) (take q v)) n (take_fits (units_in p f) (row_units p fs) v h)))
        (parts_stay fs is b.1 s2.1 (drop (words_in p f) v) (subst (λ q. AreOf (row_units p fs) (drop q v)) n (drop_fits (units_in p f) (row_units p fs) v h)))
        ∙ take-append-drop (words_in p f) v

  tuples_same : (m : _) (n : _) (f : Row_of-Ty _) (i : Row_of-Ty _) → convert_all f i ≡ true → all_stay f i ≡ true → Same k (Tuple' m f) (Tuple' n i) (converted k.ways.program.aggregates (Tuple' m f) (Tuple' n i))
  tuples_same m n f i e s =
      let p = k.ways.program in
      let t = Tuple' m f in
      let u = Tuple' n i in
      let same : (v : List ℕ) → UnitsOf k t v → converted p.aggregates t u v ≡ v = λ v h. made_stays t u e s v h in
      let fits : (v : List ℕ) → UnitsOf k t v → UnitsOf k u v = λ v h. subst (UnitsOf k u) (same v h) (made_fits t u e v h) in
      let z = zero_fits (units_in p t) in
      let lengths : length (units_in p t) ≡ length (units_in p u) = sym (length_of _ _ z) ∙ length_of _ _ (fits (zero_words (length (units_in p t))) z) in
      record {
        not_void = tuple_not_void m f;
        not_void_either = tuple_not_void n i;
        count = words_are p t (tuple_not_array m f) ∙ (lengths ∙ sym (words_are p u (tuple_not_array n i)));
        units = lengths;
        same = same;
        fits = fits;
        test = λ q. absurd (true_is_not (is_scalar u) q.scalar (tuple_not_scalar n i));
        address = λ q. absurd (true_is_not (is_scalar u) q.scalar (tuple_not_scalar n i));
        number = λ bits h. tuple_kind m n f i bits;
      }

  -- ---- what is made in slots before those of the value

  copied : (t : Ty) (v : List ℕ) (dest at pc : ℕ) (slots last : Slots) (s : Still) (o : Outcome) → words_in k.ways.program t ≡ length (units_in k.ways.program t) → UnitsOf k t v → Holds slots at v → dest ≤ at → Has k pc (copies k.ways.line dest at (words_in k.ways.program t)) → ((now : Slots) → Outside dest (length (units_in k.ways.program t)) now slots → Holds now dest v → Run k o (pc + length (copies k.ways.line dest at (words_in k.ways.program t))) now last s) → Run k o pc slots last s
  copied t v dest at pc slots last s o count fits holds le has go =
      let len : length v ≡ length (units_in k.ways.program t) = length_of _ _ fits in
      let n : words_in k.ways.program t ≡ length v = count ∙ sym len in
      copies_do (site k) v k.ways.line dest at pc slots last s o (subst (λ q. Has k pc (copies k.ways.line dest at q)) n has) holds (inr le) (λ now out held.
      moved (site k) (ap (λ q. pc + length (copies k.ways.line dest at q)) (sym n)) (go now (subst (λ q. Outside dest q now slots) len out) held))

  mutual
    part_does : (t u : Ty) → converts t u ≡ true → (v : List ℕ) → UnitsOf k t v → (dest at pc : ℕ) (slots last : Slots) (s : Still) (o : Outcome) → Holds slots at v → dest + length (units_in k.ways.program u) ≤ at → Has k pc (convert_code (spot k) t u dest at) → ((now : Slots) → Outside dest (length (units_in k.ways.program u)) now slots → Holds now dest (converted k.ways.program.aggregates t u v) → Run k o (pc + length (convert_code (spot k) t u dest at)) now last s) → Run k o pc slots last s
    part_does (Integer j) (Integer i) e v fits dest at pc slots last s o holds le has go =
        let ws = converted_words j i v in
        convert_does (site k) v has.0 (length_of _ _ fits ∙ words_of_kind k j) holds (go (put_all dest ws slots) (subst (λ n. Outside dest n (put_all dest ws slots) slots) (length_of _ _ (converted_fits k j i v)) (put_all_outside ws dest slots)) (put_all_holds ws dest slots))
    part_does (Tuple' m f) (Tuple' n i) e v fits dest at pc slots last s o holds le has go =
        let p = k.ways.program in
        let len : length (units_in p (Tuple' n i)) ≡ length (row_units p i) = same_lengths (units_in p (Tuple' n i)) (row_units p i) (tuple_sizes p n i) in
        parts_do f i e v (fits_by_sizes (units_in p (Tuple' m f)) (row_units p f) v (tuple_sizes p m f) fits) dest at pc slots last s o holds (omega (arith, le, len)) has (λ now out held. go now (subst (λ n. Outside dest n now slots) (sym len) out) held)
    part_does (Aggregate a) (Aggregate b) e v fits dest at pc slots last s o holds le has go =
        let same = aggregate_units a b e in
        copied (Aggregate a) v dest at pc slots last s o (words_are k.ways.program (Aggregate a) (aggregate_not_array a)) fits holds (omega (arith, le)) has (λ now out held. go now (subst (λ n. Outside dest n now slots) (ap length same) out) held)
    part_does t u e v fits dest at pc slots last s o holds le has go =
        let same = both_units t u e in
        let word = single k.ways.program t (both_true (is_word t) (is_word u) e).0 in
        copied t v dest at pc slots last s o (words_are k.ways.program t word.not_array) fits holds (omega (arith, le)) has (λ now out held. go now (subst (λ n. Outside dest n now slots) (ap length same) out) held)

    parts_do : {m n : _} (f : Row_of-Ty m) (i : Row_of-Ty n) → convert_all f i ≡ true → (v : List ℕ) → AreOf (row_units k.ways.program f) v → (dest at pc : ℕ) (slots last : Slots) (s : Still) (o : Outcome) → Holds slots at v → dest + length (row_units k.ways.program i) ≤ at → Has k pc (convert_parts (spot k) f i dest at) → ((now : Slots) → Outside dest (length (row_units k.ways.program i)) now slots → Holds now dest (converted_parts k.ways.program.aggregates f i v) → Run k o (pc + length (convert_parts (spot k) f i dest at)) now last s) → Run k o pc slots last s
    parts_do end_of-Ty end_of-Ty e v fits dest at pc slots last s o holds le has go = let q : pc ≡ pc + 0 = omega arith in moved (site k) q (go slots (outside_none dest 0 slots) tt)
    parts_do end_of-Ty (more_of-Ty i is) e v fits dest at pc slots last s o holds le has go = absurd (cc)
    parts_do (more_of-Ty f fs) end_of-Ty e v fits dest at pc slots last s o holds le has go = absurd (cc)
    parts_do (more_of-Ty f fs) (more_of-Ty i is) e v fits dest at pc slots last s o holds le has go =
        let p = k.ways.program in
        let rows = p.aggregates in
        let b = both_true (converts f i) (convert_all fs is) e in
        let nf = words_are k.ways.program f (converts_no_array f i b.0) in
        let ni = words_are k.ways.program i (converts_to_no_array f i b.0) in
        let front = take (words_in p f) v in
        let back = drop (words_in p f) v in
        let fits1 : UnitsOf k f front = subst (λ q. AreOf (units_in p f) (take q v)) (sym nf) (take_fits (units_in p f) (row_units p fs) v fits) in
        let fits2 : AreOf (row_units p fs) back = subst (λ q. AreOf (row_units p fs) (drop q v)) (sym nf) (drop_fits (units_in p f) (row_units p fs) v fits) in
        let parted : Holds slots at (front ++ back) = subst (Holds slots at) (sym (take-append-drop (words_in p f) v)) holds in
        let lf = length_of _ _ fits1 in
        let ca = convert_code (spot k) f i dest at in
        let cb = convert_parts (spot k) fs is (dest + words_in p i) (at + words_in p f) in
        let room = length-append (units_in p i) (row_units p is) in
        let made = made_fits f i b.0 front fits1 in
        let lm = length_of _ _ made in
        let where_back : at + length front ≡ at + words_in p f = omega (arith, lf, nf) in
        part_does f i b.0 front fits1 dest at pc slots last s o (holds_front front back at slots parted) (omega (arith, le, room)) (has_front (site k) pc ca cb has) (λ now1 out1 held1.
        let behind : Holds now1 (at + words_in p f) back = holds_outside back (at + words_in p f) dest (length (units_in p i)) now1 slots (inr (omega (arith, le, room))) out1 (holds_at back (at + length front) (at + words_in p f) slots where_back (holds_back front back at slots parted)) in
        parts_do fs is b.1 back fits2 (dest + words_in p i) (at + words_in p f) (pc + length ca) now1 last s o behind (omega (arith, le, room, ni)) (has_back (site k) pc ca cb has) (λ now2 out2 held2.
        let first : Holds now2 dest (converted rows f i front) = holds_outside (converted rows f i front) dest (dest + words_in p i) (length (row_units p is)) now2 now1 (inl (omega (arith, lm, ni))) out2 held1 in
        let second : Holds now2 (dest + length (converted rows f i front)) (converted_parts rows fs is back) = holds_at (converted_parts rows fs is back) (dest + words_in p i) (dest + length (converted rows f i front)) now2 (omega (arith, lm, ni)) held2 in
        let len : pc + length ca + length cb ≡ pc + length (ca ++ cb) = omega (arith, length-append ca cb) in
        let all = length (row_units p (more_of-Ty i is)) in
        moved (site k) len (go now2 (outside_both dest all now2 now1 slots (outside_wider dest all (dest + words_in p i) (length (row_units p is)) now2 now1 (omega arith) (omega (arith, room, ni)) out2) (outside_wider dest all dest (length (units_in p i)) now1 slots (omega arith) (omega (arith, room)) out1)) (holds_join (converted rows f i front) (converted_parts rows fs is back) dest now2 first second))))

  -- where a value is wanted lies before what is found behind as many free slots
  dest_before : (n dest to : ℕ) → Dest (scene k) n dest to → HasRoom k to → dest + n ≤ to + n
  dest_before n dest to (lone d lt) room = omega (arith, lt)
  dest_before n dest to (free d) room = omega (arith, d)
  dest_before n dest to (local m l x d len) room = let q = k.homes.fits m l x in let a = k.above in omega (arith, q, d, len, a, room)

  pub tuples_convert : {m : Task (Option (List ℕ))} {c : Coded} (a : _) (b : _) (f : Row_of-Ty _) (i : Row_of-Ty _) → convert_all f i ≡ true → CodedDoes k m (Tuple' a f) c → CodedDoes k (mapped (converted k.ways.program.aggregates (Tuple' a f) (Tuple' b i)) m) (Tuple' b i) (converted_coded (spot k) (Tuple' a f) (Tuple' b i) c)
  tuples_convert {m} {c} a b f i e h = on (all_stay f i) refl
    where
      w : ℕ
      w = words_in k.ways.program (Tuple' b i)

      count : w ≡ length (units_in k.ways.program (Tuple' b i))
      count = words_are k.ways.program (Tuple' b i) (tuple_not_array b i)

      changed : CodedDoes k (mapped (converted k.ways.program.aggregates (Tuple' a f) (Tuple' b i)) m) (Tuple' b i) (plain (spot k) (Tuple' b i) None c.keeps false (λ dest to. c.value (to + w) (to + w) ++ convert_parts (spot k) f i dest (to + w)))
      changed = valued_does k c.keeps _ (record {
        by = λ dest to pc slots last env s next d room vars has go.
            let ca = c.value (to + w) (to + w) in
            let cb = convert_parts (spot k) f i dest (to + w) in
            free_does k h.value (tuple_not_void a f) (to + w) pc slots last env s (λ v env s. next (Some (converted k.ways.program.aggregates (Tuple' a f) (Tuple' b i) v)) env s) (more_room (scene k) to w room) vars (has_front (site k) pc ca cb has) (λ v env2 s now last2 fits vars2 st2 holds same.
            let n = dest_before w dest to d room in
            part_does (Tuple' a f) (Tuple' b i) e v fits dest (to + w) (pc + length ca) now last2 s _ holds (omega (arith, n, count)) (has_back (site k) pc ca cb has) (λ now3 out held.
            let len : pc + length ca + length cb ≡ pc + length (ca ++ cb) = omega (arith, length-append ca cb) in
            moved (site k) len (go (Some (converted k.ways.program.aggregates (Tuple' a f) (Tuple' b i) v)) env2 s now now3 last2 (tuple_not_void b i, made_fits (Tuple' a f) (Tuple' b i) e v fits) vars2 (λ j fr lt. st2 j fr (omega (arith, lt))) (put_outside_is w dest to now3 now (subst (λ n. Outside dest n now3 now) (sym count) out)) held same (λ q. absurd (cc)))));
      })

      on : (q : Bool) → all_stay f i ≡ q → CodedDoes k (mapped (converted k.ways.program.aggregates (Tuple' a f) (Tuple' b i)) m) (Tuple' b i) (if q then c else plain (spot k) (Tuple' b i) None c.keeps false (λ dest to. c.value (to + w) (to + w) ++ convert_parts (spot k) f i dest (to + w)))
      on true s = same_does k (tuples_same a b f i e s) h
      on false s = changed

  -- ---- every conversion that the rules leave

  pub conversion_does : {m : Task (Option (List ℕ))} {c : Coded} (t u : Ty) → converts t u ≡ true → CodedDoes k m t c → CodedDoes k (mapped (converted k.ways.program.aggregates t u) m) u (converted_coded (spot k) t u c)
  conversion_does (Integer j) (Integer i) e h = integers_convert k j i h
  conversion_does (Tuple' a f) (Tuple' b i) e h = tuples_convert a b f i e h
  conversion_does (Aggregate a) (Aggregate b) e h = aggregates_convert k a b _ e (λ v. refl) h
  conversion_does t u e h = words_convert k t u _ e (λ v. refl) h
