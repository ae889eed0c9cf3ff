-- Values that are made into those of another type in slots behind them.
use Rattle.std.proofs.Common.{◌≡◌, ℕ, suc, ◌+◌, ◌≤◌, List, [], ◌∷◌, ◌++◌, length, take, drop, refl, sym, ap, ◌∙◌, subst, inl, arith, length-append}
use Rattle.std.specs.Prelude.{true, false, ◌&&◌, nat_eq}
use Rattle.std.proofs.lemmas.List.{take-append-drop}
use Rattle.std.proofs.lemmas.Grind.{common_steps}
use Rattle.al_typed.specs.declared.layout.Unit.{Unit as StorageUnit}
use Rattle.al_typed.specs.declared.ty.Ty.{Ty, Integer, Tuple', Aggregate, Row_of-Ty, end_of-Ty, more_of-Ty}
use Rattle.al_typed.specs.declared.ty.Ty.TheViews.{out-Ty}
use denote.Hole.Carrier.{out}
use Rattle.al_typed.specs.Types.{is_array}
use Rattle.al_typed.specs.WellTyped.{is_word, converts, convert_all}
use Rattle.al_meaning.specs.Words.{converted, converted_parts}
use Rattle.al_meaning.specs.Here.{units_in}
use Rattle.al_meaning.specs.Places.{words_in}
use Rattle.al_meaning.specs.Tasks.{Still, Outcome}
use Rattle.al_ir.specs.Control.{Slots, put_all}
use Rattle.al_ir.specs.Step.{converted_words}
use Rattle.al_lower_words.specs.Units.{AreOf}
use Rattle.al_lower_words.proofs.Integers.{length_of, words_are}
use Rattle.al_lower_code.specs.Moving.{copies}
use Rattle.al_lower_code.specs.Operators.{convert_code, convert_parts}
use Rattle.al_lower_steps.specs.Slots.{Holds, Outside}
use Rattle.al_lower_steps.proofs.Slots.{outside_none, outside_both, outside_wider, holds_outside, holds_front, holds_back, holds_join, holds_at, put_all_outside, put_all_holds}
use Rattle.al_lower_steps.proofs.Steps.{moved, has_front, has_back}
use Rattle.al_lower_steps.proofs.Plain.{convert_does}
use Rattle.al_lower_claims.proofs.Moving.{copies_do}
use Rattle.al_lower_claims.proofs.Privates.{take_fits, drop_fits}
use Rattle.al_lower_claims.proofs.Claims.{Setting, site, spot, Run, Has, UnitsOf}
use Rattle.al_lower_claims.proofs.Operands.{both_true}
use Rattle.al_lower_conversions.proofs.Sizes.{sizes, fits_by_sizes, row_units, tuple_sizes}
use Rattle.al_lower_conversions.proofs.Integers.{converted_fits, words_of_kind}
use Rattle.al_lower_conversions.proofs.Words.{single}
use Rattle.al_lower_conversions.proofs.Plain.{converts_no_array, converts_to_no_array}
use Rattle.al_lower_conversions.proofs.Parts.{made_fits}

length_sizes : (us : List StorageUnit) → length (sizes us) ≡ length us
length_sizes [] = refl
length_sizes (u ∷ us) = ap suc (length_sizes us)

same_lengths : (us vs : List StorageUnit) → sizes us ≡ sizes vs → length us ≡ length vs
same_lengths us vs e = sym (length_sizes us) ∙ (ap length e ∙ length_sizes vs)

aggregate_not_array : (a : ℕ) → is_array (Aggregate a) ≡ false
unfolding is_array out-Ty out
aggregate_not_array a = refl

module _ (k : Setting) where
  both_units : (t u : Ty) → (is_word t && is_word u) ≡ true → units_in k.ways.program t ≡ units_in k.ways.program u
  both_units t u e = let b = both_true (is_word t) (is_word u) e in (single k.ways.program t b.0).units ∙ sym (single k.ways.program u b.1).units

  aggregate_units : (a b : ℕ) → nat_eq a b ≡ true → units_in k.ways.program (Aggregate a) ≡ units_in k.ways.program (Aggregate b)
  aggregate_units a b e = let is : a ≡ b = grind (arith, common_steps, e) in ap (λ n. units_in k.ways.program (Aggregate n)) is

  copied : (t : Ty) (v : List ℕ) (dest at pc : ℕ) (slots last : Slots) (s : Still) (o : Outcome) → words_in k.ways.program t ≡ length (units_in k.ways.program t) → UnitsOf k t v → Holds slots at v → at + length v ≤ dest → Has k pc (copies k.ways.line dest at (words_in k.ways.program t)) → ((now : Slots) → Outside dest (length (units_in k.ways.program t)) now slots → Holds now dest v → Run k o (pc + length (copies k.ways.line dest at (words_in k.ways.program t))) now last s) → Run k o pc slots last s
  copied t v dest at pc slots last s o count fits holds le has go =
      let len : length v ≡ length (units_in k.ways.program t) = length_of _ _ fits in
      let n : words_in k.ways.program t ≡ length v = count ∙ sym len in
      copies_do (site k) v k.ways.line dest at pc slots last s o (subst (λ q. Has k pc (copies k.ways.line dest at q)) n has) holds (inl le) (λ now out held.
      moved (site k) (ap (λ q. pc + length (copies k.ways.line dest at q)) (sym n)) (go now (subst (λ q. Outside dest q now slots) len out) held))

  mutual
    pub part_made : (t u : Ty) → converts t u ≡ true → (v : List ℕ) → UnitsOf k t v → (dest at pc : ℕ) (slots last : Slots) (s : Still) (o : Outcome) → Holds slots at v → at + length (units_in k.ways.program t) ≤ dest → Has k pc (convert_code (spot k) t u dest at) → ((now : Slots) → Outside dest (length (units_in k.ways.program u)) now slots → Holds now dest (converted k.ways.program.aggregates t u v) → Run k o (pc + length (convert_code (spot k) t u dest at)) now last s) → Run k o pc slots last s
    part_made (Integer j) (Integer i) e v fits dest at pc slots last s o holds le has go =
        let ws = converted_words j i v in
        convert_does (site k) v has.0 (length_of _ _ fits ∙ words_of_kind k j) holds (go (put_all dest ws slots) (subst (λ n. Outside dest n (put_all dest ws slots) slots) (length_of _ _ (converted_fits k j i v)) (put_all_outside ws dest slots)) (put_all_holds ws dest slots))
    part_made (Tuple' m f) (Tuple' n i) e v fits dest at pc slots last s o holds le has go =
        let p = k.ways.program in
        let len : length (units_in p (Tuple' n i)) ≡ length (row_units p i) = same_lengths (units_in p (Tuple' n i)) (row_units p i) (tuple_sizes p n i) in
        let len_from : length (units_in p (Tuple' m f)) ≡ length (row_units p f) = same_lengths (units_in p (Tuple' m f)) (row_units p f) (tuple_sizes p m f) in
        parts_made f i e v (fits_by_sizes (units_in p (Tuple' m f)) (row_units p f) v (tuple_sizes p m f) fits) dest at pc slots last s o holds (omega (arith, le, len_from)) has (λ now out held. go now (subst (λ n. Outside dest n now slots) (sym len) out) held)
    part_made (Aggregate a) (Aggregate b) e v fits dest at pc slots last s o holds le has go =
        let same = aggregate_units a b e in
        copied (Aggregate a) v dest at pc slots last s o (words_are k.ways.program (Aggregate a) (aggregate_not_array a)) fits holds (let n = length_of _ _ fits in omega (arith, le, n)) has (λ now out held. go now (subst (λ n. Outside dest n now slots) (ap length same) out) held)
    part_made t u e v fits dest at pc slots last s o holds le has go =
        let same = both_units t u e in
        let word = single k.ways.program t (both_true (is_word t) (is_word u) e).0 in
        copied t v dest at pc slots last s o (words_are k.ways.program t word.not_array) fits holds (let n = length_of _ _ fits in omega (arith, le, n)) has (λ now out held. go now (subst (λ n. Outside dest n now slots) (ap length same) out) held)

    parts_made : {m n : _} (f : Row_of-Ty m) (i : Row_of-Ty n) → convert_all f i ≡ true → (v : List ℕ) → AreOf (row_units k.ways.program f) v → (dest at pc : ℕ) (slots last : Slots) (s : Still) (o : Outcome) → Holds slots at v → at + length (row_units k.ways.program f) ≤ dest → Has k pc (convert_parts (spot k) f i dest at) → ((now : Slots) → Outside dest (length (row_units k.ways.program i)) now slots → Holds now dest (converted_parts k.ways.program.aggregates f i v) → Run k o (pc + length (convert_parts (spot k) f i dest at)) now last s) → Run k o pc slots last s
    parts_made end_of-Ty end_of-Ty e v fits dest at pc slots last s o holds le has go = let q : pc ≡ pc + 0 = omega arith in moved (site k) q (go slots (outside_none dest 0 slots) tt)
    parts_made end_of-Ty (more_of-Ty i is) e v fits dest at pc slots last s o holds le has go = absurd (cc)
    parts_made (more_of-Ty f fs) end_of-Ty e v fits dest at pc slots last s o holds le has go = absurd (cc)
    parts_made (more_of-Ty f fs) (more_of-Ty i is) e v fits dest at pc slots last s o holds le has go =
        let p = k.ways.program in
        let rows = p.aggregates in
        let b = both_true (converts f i) (convert_all fs is) e in
        let nf = words_are p f (converts_no_array f i b.0) in
        let ni = words_are p i (converts_to_no_array f i b.0) in
        let front = take (words_in p f) v in
        let back = drop (words_in p f) v in
        let fits1 : UnitsOf k f front = subst (λ q. AreOf (units_in p f) (take q v)) (sym nf) (take_fits (units_in p f) (row_units p fs) v fits) in
        let fits2 : AreOf (row_units p fs) back = subst (λ q. AreOf (row_units p fs) (drop q v)) (sym nf) (drop_fits (units_in p f) (row_units p fs) v fits) in
        let parted : Holds slots at (front ++ back) = subst (Holds slots at) (sym (take-append-drop (words_in p f) v)) holds in
        let lf = length_of _ _ fits1 in
        let ca = convert_code (spot k) f i dest at in
        let cb = convert_parts (spot k) fs is (dest + words_in p i) (at + words_in p f) in
        let room = length-append (units_in p i) (row_units p is) in
        let room_from = length-append (units_in p f) (row_units p fs) in
        let lb = length_of _ _ fits2 in
        let made = made_fits k f i b.0 front fits1 in
        let lm = length_of _ _ made in
        let where_back : at + length front ≡ at + words_in p f = omega (arith, lf, nf) in
        part_made f i b.0 front fits1 dest at pc slots last s o (holds_front front back at slots parted) (omega (arith, le, room_from)) (has_front (site k) pc ca cb has) (λ now1 out1 held1.
        let behind : Holds now1 (at + words_in p f) back = holds_outside back (at + words_in p f) dest (length (units_in p i)) now1 slots (inl (omega (arith, le, room_from, lb, nf))) out1 (holds_at back (at + length front) (at + words_in p f) slots where_back (holds_back front back at slots parted)) in
        parts_made fs is b.1 back fits2 (dest + words_in p i) (at + words_in p f) (pc + length ca) now1 last s o behind (omega (arith, le, room_from, nf, ni)) (has_back (site k) pc ca cb has) (λ now2 out2 held2.
        let first : Holds now2 dest (converted rows f i front) = holds_outside (converted rows f i front) dest (dest + words_in p i) (length (row_units p is)) now2 now1 (inl (omega (arith, lm, ni))) out2 held1 in
        let second : Holds now2 (dest + length (converted rows f i front)) (converted_parts rows fs is back) = holds_at (converted_parts rows fs is back) (dest + words_in p i) (dest + length (converted rows f i front)) now2 (omega (arith, lm, ni)) held2 in
        let len : pc + length ca + length cb ≡ pc + length (ca ++ cb) = omega (arith, length-append ca cb) in
        let all = length (row_units p (more_of-Ty i is)) in
        moved (site k) len (go now2 (outside_both dest all now2 now1 slots (outside_wider dest all (dest + words_in p i) (length (row_units p is)) now2 now1 (omega arith) (omega (arith, room, ni)) out2) (outside_wider dest all dest (length (units_in p i)) now1 slots (omega arith) (omega (arith, room)) out1)) (holds_join (converted rows f i front) (converted_parts rows fs is back) dest now2 first second))))
