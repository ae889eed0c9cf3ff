-- Prints: the arguments first, then the pieces of the format, then the text goes out.
use Rattle.std.proofs.Common.{◌≡◌, ℕ, zero, suc, ◌+◌, ◌*◌, ◌%◌, ◌^◌, ◌<◌, ◌≤◌, List, [], ◌∷◌, ◌++◌, length, Option, Some, None, refl, sym, ap, ◌∙◌, subst, le_refl, ◌⊎◌, inl, inr, ⊎_elim, arith, length-append}
use Rattle.std.specs.Prelude.{⊤, Bool, true, false, ◌&&◌, if◌then◌else◌, slice_index}
use Rattle.std.specs.Prelude.{decimal}
use Rattle.std.specs.Fmt.{digits, signed_decimal}
use Rattle.al_base.specs.Arith.{width_of, value_of}
use Rattle.al_base.specs.declared.arith.Kind.{Kind}
use Rattle.al_base.specs.declared.arith.Kind.TheVariants as kind
use Rattle.al_event.specs.declared.act.Act.TheVariants as act
use Rattle.al_typed.specs.declared.ty.Ty.{Ty}
use Rattle.al_typed.specs.declared.ty.Ty.TheVariants as ty
use Rattle.al_typed.specs.declared.expression.PrintPiece.{PrintPiece}
use Rattle.al_typed.specs.declared.expression.PrintPiece.TheVariants as print
use Rattle.al_typed.specs.Types.{is_void, is_array, promoted, byte_pointer}
use Rattle.al_typed.specs.WellTyped.{IsPromoted, Prints}
use Rattle.al_meaning.specs.Words.{bits_of}
use Rattle.al_meaning.specs.Shown.{most_text, kind_of, written}
use Rattle.al_meaning.specs.Here.{units_in}
use Rattle.al_meaning.specs.Calls.{joined}
use Rattle.al_meaning.specs.Evaluate.{arguments_of}
use Rattle.al_meaning.specs.Tasks.{Still, Outcome, Env, Rest, Task, give}
use Rattle.al_meaning.specs.Told.{value, scan, compose, composed}
use Rattle.al_ir.specs.declared.ir.Operation.{Operation}
use Rattle.al_ir.specs.declared.op.Op.TheVariants.{PutCharacter, PutDecimal, PutLongDecimal, PutHex, PutLongHex}
use Rattle.al_ir.specs.Control.{Slots}
use Rattle.al_ir.specs.Step.{decimal_of, pair}
use Rattle.al_lower_words.specs.Units.{AreOf}
use Rattle.al_lower_words.proofs.Integers.{length_of, words_are, units_of_kind, units_of_pointer, pointer_not_array, one_word, two_words}
use Rattle.al_lower_code.specs.Homes.{here}
use Rattle.al_lower_code.specs.Operators.{is_long}
use Rattle.al_lower_code.specs.Coded.{Coded, Row}
use Rattle.al_lower_code.specs.Actions.{pieces_code, print_coded, put_decimal, put_hex}
use Rattle.al_lower_steps.specs.Slots.{Holds}
use Rattle.al_lower_steps.specs.Site.{Site, HasAt, with_text}
use Rattle.al_lower_steps.proofs.Slots.{holds_join, holds_at, holds_front, holds_back}
use Rattle.al_lower_steps.proofs.Steps.{Runs, moved, comes_out, has_front, has_back}
use Rattle.al_lower_steps.proofs.Texts.{put_byte_does, put_character_does, put_decimal_does, put_long_decimal_does, put_hex_does, put_long_hex_does, put_text_does, print_does}
use Rattle.al_lower_claims.proofs.Variables.{Stays, stays_refl, stays_both, stays_below, holds_stays, more_room, vars_kept}
use Rattle.al_lower_claims.proofs.Claims.{Setting, scene, site, spot, Run, Has, HasVars, HasRoom, UnitsOf, count_of, ValueDoes, CodedDoes}
use Rattle.al_lower_claims.proofs.Operands.{both_true, free_does}
use Rattle.al_lower_claims.proofs.Plain.{valued_does}
use Rattle.al_lower_values.proofs.Binary.{kind_of_integer, not_array_integer}

-- values of these types, one of each
abbrev pub Each : Setting → List Ty → List (List ℕ) → Type 0
Each k [] [] = ⊤
Each k [] (v ∷ vs) = ⊥
Each k (t ∷ ts) [] = ⊥
Each k (t ∷ ts) (v ∷ vs) = UnitsOf k t v × Each k ts vs

pub record EachDoes (k : Setting) (m : Task (List (List ℕ))) (ts : List Ty) (keeps : Bool) (code : (to : ℕ) → List Operation) : Type 0 where
  pub by : (to pc : ℕ) (slots last : Slots) (env : Env) (s : Still) (next : List (List ℕ) → Rest) → HasRoom k to → HasVars k env slots → Has k pc (code to) → ((vs : List (List ℕ)) (env2 : Env) (s : Still) (now last : Slots) → Each k ts vs → HasVars k env2 now → Stays (scene k) to now slots → Holds now to (joined vs) → (keeps ≡ true → env2 ≡ env) → Run k (next vs env2 s) (pc + length (code to)) now last s) → Run k (m env s next) pc slots last s

one_operation : (b : Bool) (x y : Operation) → length (if b then x ∷ [] else y ∷ []) ≡ 1
one_operation true x y = refl
one_operation false x y = refl

module _ (k : Setting) where
  pub no_each_do : EachDoes k (give []) [] true (λ to. [])
  no_each_do = record {
    by = λ to pc slots last env s next room vars has go.
        let q : pc ≡ pc + 0 = omega arith in
        moved (site k) q (go [] env s slots last tt vars (stays_refl (scene k) to slots) tt (λ e. refl));
  }

  pub more_each_do : {m : Task (Option (List ℕ))} {rest : Task (List (List ℕ))} {t : Ty} {ts : List Ty} {c : Coded} (row : Row) → is_void t ≡ false → is_array t ≡ false → CodedDoes k m t c → EachDoes k rest ts row.keeps row.values → EachDoes k (λ env s next. value m env s (λ v env s. rest env s (λ vs env s. next (v ∷ vs) env s))) (t ∷ ts) (c.keeps && row.keeps) (λ to. c.value to to ++ row.values (to + count_of k t))
  more_each_do {m} {rest} {t} {ts} {c} row nv na hc hr = record {
    by = λ to pc slots last env s next room vars has go.
        let n = count_of k t in
        let ca = c.value to to in
        let cb = row.values (to + n) in
        free_does k hc.value nv to pc slots last env s (λ v env s. rest env s (λ vs env s. next (v ∷ vs) env s)) room vars (has_front (site k) pc ca cb has) (λ v env1 s now1 last1 fv vars1 st1 hv same1.
        hr.by (to + n) (pc + length ca) now1 last1 env1 s (λ vs env s. next (v ∷ vs) env s) (more_room (scene k) to n room) vars1 (has_back (site k) pc ca cb has) (λ vs env2 s now2 last2 fvs vars2 st2 hvs same2.
        let count : length v ≡ n = length_of _ _ fv ∙ sym (words_are k.ways.program t na) in
        let len : pc + length ca + length cb ≡ pc + length (ca ++ cb) = omega (arith, length-append ca cb) in
        let hv2 : Holds now2 to v = holds_stays (scene k) v to (to + n) now2 now1 room (omega (arith, count)) st2 hv in
        moved (site k) len (go (v ∷ vs) env2 s now2 last2 (fv, fvs) vars2 (stays_both (scene k) to (to + n) now2 now1 slots (omega arith) st2 st1) (holds_join v (joined vs) to now2 hv2 (holds_at (joined vs) (to + n) (to + length v) now2 (ap (λ i. to + i) (sym count)) hvs)) (λ e. let b = both_true c.keeps row.keeps e in same2 b.1 ∙ same1 b.0))));
  }

  -- ---- pieces

  low_character : (low high : ℕ) → (low + 2 ^ 32 * high) % 256 ≡ low % 256
  low_character low high = omega arith

  -- an argument of a number's verb
  module _ (t : Ty) (j : Kind) (is : t ≡ ty.Integer j) (v : List ℕ) (fits : UnitsOf k t v) (text : List ℕ) (rest : List ℕ → Task (Option (List ℕ))) (env : Env) (s : Still) (next : Option (List ℕ) → Rest) (at pc : ℕ) (slots last : Slots) (holds : Holds slots at v) where
    kind_is : kind_of t ≡ j
    kind_is = ap kind_of is ∙ kind_of_integer j

    abbrev Writes : PrintPiece → Type 0
    Writes verb = (length (text ++ written verb t v) ≤ most_text → Runs (with_text (text ++ written verb t v) (site k)) (rest (text ++ written verb t v) env s next) (pc + 1) slots last s) → Runs (with_text text (site k)) (composed k.ways rest text (written verb t v) env s next) pc slots last s

    -- a pair, or a word
    one_is : promoted j ≡ j → is_long j ≡ false → (w : ℕ) × (v ≡ w ∷ [])
    one_is p l = on j p l (subst (λ q. UnitsOf k q v) is fits)
      where
        on : (j : Kind) → promoted j ≡ j → is_long j ≡ false → UnitsOf k (ty.Integer j) v → (w : ℕ) × (v ≡ w ∷ [])
        on kind.Int p l f = let o = one_word 0 v (subst (λ us. AreOf us v) (units_of_kind k.ways.program kind.Int) f) in (o.word, o.is)
        on kind.Uint p l f = let o = one_word 0 v (subst (λ us. AreOf us v) (units_of_kind k.ways.program kind.Uint) f) in (o.word, o.is)
        on kind.Lint p l f = absurd (cc)
        on kind.Ulint p l f = absurd (cc)
        on kind.Byte p l f = absurd (cc)
        on kind.Sint p l f = absurd (cc)
        on kind.Usint p l f = absurd (cc)

    two_is : is_long j ≡ true → (low : ℕ) × ((high : ℕ) × (v ≡ low ∷ high ∷ []))
    two_is l = on j l (subst (λ q. UnitsOf k q v) is fits)
      where
        on : (j : Kind) → is_long j ≡ true → UnitsOf k (ty.Integer j) v → (low : ℕ) × ((high : ℕ) × (v ≡ low ∷ high ∷ []))
        on kind.Lint l f = let o = two_words 0 4 v (subst (λ us. AreOf us v) (units_of_kind k.ways.program kind.Lint) f) in (o.low, (o.high, o.is))
        on kind.Ulint l f = let o = two_words 0 4 v (subst (λ us. AreOf us v) (units_of_kind k.ways.program kind.Ulint) f) in (o.low, (o.high, o.is))
        on kind.Int l f = absurd (cc)
        on kind.Uint l f = absurd (cc)
        on kind.Byte l f = absurd (cc)
        on kind.Sint l f = absurd (cc)
        on kind.Usint l f = absurd (cc)

    width_one : promoted j ≡ j → is_long j ≡ false → width_of j ≡ 32
    width_one p l = on j p l
      where
        on : (j : Kind) → promoted j ≡ j → is_long j ≡ false → width_of j ≡ 32
        on kind.Int p l = refl
        on kind.Uint p l = refl
        on kind.Lint p l = absurd (cc)
        on kind.Ulint p l = absurd (cc)
        on kind.Byte p l = absurd (cc)
        on kind.Sint p l = absurd (cc)
        on kind.Usint p l = absurd (cc)

    width_two : is_long j ≡ true → width_of j ≡ 64
    width_two l = on j l
      where
        on : (j : Kind) → is_long j ≡ true → width_of j ≡ 64
        on kind.Lint l = refl
        on kind.Ulint l = refl
        on kind.Int l = absurd (cc)
        on kind.Uint l = absurd (cc)
        on kind.Byte l = absurd (cc)
        on kind.Sint l = absurd (cc)
        on kind.Usint l = absurd (cc)

    -- these bytes and no others
    abbrev WritesBytes : List ℕ → Type 0
    WritesBytes bytes = (length (text ++ bytes) ≤ most_text → Runs (with_text (text ++ bytes) (site k)) (rest (text ++ bytes) env s next) (pc + 1) slots last s) → Runs (with_text text (site k)) (composed k.ways rest text bytes env s next) pc slots last s

    as_bytes : (a b : List ℕ) → a ≡ b → WritesBytes b → WritesBytes a
    as_bytes a b e h = subst WritesBytes (sym e) h

    signed_writes : promoted j ≡ j → Has k pc (put_decimal (spot k) true (kind_of t) at) → Writes print.Signed
    signed_writes p has = on (is_long j) refl (subst (λ q. Has k pc (put_decimal (spot k) true q at)) kind_is has)
      where
        on : (b : Bool) → is_long j ≡ b → Has k pc (if b then here (spot k) (PutLongDecimal true at) else here (spot k) (PutDecimal true at)) → Writes print.Signed
        on true l has =
            let w = two_is l in
            as_bytes _ (decimal_of true 64 (pair w.0 w.1.0)) (ap (λ q. signed_decimal (value_of true (width_of q) (bits_of v))) kind_is ∙ (ap (λ n. signed_decimal (value_of true n (bits_of v))) (width_two l) ∙ ap (λ v. signed_decimal (value_of true 64 (bits_of v))) w.1.1))
            (put_long_decimal_does (site k) k.ways text rest env s next has.0 (subst (Holds slots at) w.1.1 holds))
        on false l has =
            let w = one_is p l in
            as_bytes _ (decimal_of true 32 w.0) (ap (λ q. signed_decimal (value_of true (width_of q) (bits_of v))) kind_is ∙ (ap (λ n. signed_decimal (value_of true n (bits_of v))) (width_one p l) ∙ ap (λ v. signed_decimal (value_of true 32 (bits_of v))) w.1))
            (put_decimal_does (site k) k.ways text rest env s next has.0 (subst (Holds slots at) w.1 holds).0)

    unsigned_writes : promoted j ≡ j → Has k pc (put_decimal (spot k) false (kind_of t) at) → Writes print.Unsigned
    unsigned_writes p has = on (is_long j) refl (subst (λ q. Has k pc (put_decimal (spot k) false q at)) kind_is has)
      where
        on : (b : Bool) → is_long j ≡ b → Has k pc (if b then here (spot k) (PutLongDecimal false at) else here (spot k) (PutDecimal false at)) → Writes print.Unsigned
        on true l has =
            let w = two_is l in
            as_bytes _ (decimal_of false 64 (pair w.0 w.1.0)) (ap (λ v. decimal (bits_of v)) w.1.1)
            (put_long_decimal_does (site k) k.ways text rest env s next has.0 (subst (Holds slots at) w.1.1 holds))
        on false l has =
            let w = one_is p l in
            as_bytes _ (decimal_of false 32 w.0) (ap (λ v. decimal (bits_of v)) w.1)
            (put_decimal_does (site k) k.ways text rest env s next has.0 (subst (Holds slots at) w.1 holds).0)

    hexadecimal_writes : promoted j ≡ j → Has k pc (put_hex (spot k) (kind_of t) at) → Writes print.Hexadecimal
    hexadecimal_writes p has = on (is_long j) refl (subst (λ q. Has k pc (put_hex (spot k) q at)) kind_is has)
      where
        on : (b : Bool) → is_long j ≡ b → Has k pc (if b then here (spot k) (PutLongHex at) else here (spot k) (PutHex at)) → Writes print.Hexadecimal
        on true l has = let w = two_is l in as_bytes _ (digits 16 false (pair w.0 w.1.0)) (ap (λ v. digits 16 false (bits_of v)) w.1.1) (put_long_hex_does (site k) k.ways text rest env s next has.0 (subst (Holds slots at) w.1.1 holds))
        on false l has = let w = one_is p l in as_bytes _ (digits 16 false w.0) (ap (λ v. digits 16 false (bits_of v)) w.1) (put_hex_does (site k) k.ways text rest env s next has.0 (subst (Holds slots at) w.1 holds).0)

    character_writes : promoted j ≡ j → Has k pc (here (spot k) (PutCharacter at)) → Writes print.Character
    character_writes p has = on (is_long j) refl
      where
        on : (b : Bool) → is_long j ≡ b → Writes print.Character
        on true l = let w = two_is l in as_bytes _ (w.0 % 256 ∷ []) (ap (λ v. bits_of v % 256 ∷ []) w.1.1 ∙ ap (λ n. n ∷ []) (low_character w.0 w.1.0)) (put_character_does (site k) k.ways text rest env s next has.0 (subst (Holds slots at) w.1.1 holds).0)
        on false l = let w = one_is p l in as_bytes _ (w.0 % 256 ∷ []) (ap (λ v. bits_of v % 256 ∷ []) w.1) (put_character_does (site k) k.ways text rest env s next has.0 (subst (Holds slots at) w.1 holds).0)

  -- words behind a slot that changed
  holds_behind : (ws : List ℕ) (at u : ℕ) (now slots : Slots) → at < u → ((i : ℕ) → (i ≡ at → ⊥) → now i ≡ slots i) → Holds slots u ws → Holds now u ws
  holds_behind [] at u now slots lt same h = tt
  holds_behind (w ∷ ws) at u now slots lt same h = (same u (λ e. absurd (omega (arith, e, lt))) ∙ h.0, holds_behind ws at (u + 1) now slots (omega (arith, lt)) same h.1)

  -- how it goes on once the text is out: slots below the arguments are as they were
  abbrev Out : List PrintPiece → List Ty → (from at pc : ℕ) → Slots → Slots → Env → (Option (List ℕ) → Rest) → Type 0
  Out format ts from at pc slots last env next = (s : Still) (now : Slots) → ((i : ℕ) → i < from → now i ≡ slots i) → Run k (next None env s) (pc + length (pieces_code (spot k) format ts at)) now last s

  pub pieces_do : (format : List PrintPiece) (ts : List Ty) (vs : List (List ℕ)) (from at pc : ℕ) (text : List ℕ) (slots last : Slots) (env : Env) (s : Still) (next : Option (List ℕ) → Rest) → Prints format ts → Each k ts vs → from ≤ at → Holds slots at (joined vs) → length text ≤ most_text → Has k pc (pieces_code (spot k) format ts at) → Out format ts from at pc slots last env next → Runs (with_text text (site k)) (compose k.ways format (arguments_of ts vs) text env s next) pc slots last s
  pieces_do [] [] [] from at pc text slots last env s next fits each le holds short has go = print_does (site k) text (λ words s. next None env s) has.0 (λ s. go s slots (λ i lt. refl))
  pieces_do [] [] (v ∷ vs) from at pc text slots last env s next fits each le holds short has go = absurd each
  pieces_do [] (t ∷ ts) vs from at pc text slots last env s next fits each le holds short has go = absurd fits
  pieces_do (print.Byte b ∷ rest) ts vs from at pc text slots last env s next fits each le holds short has go =
      let q : pc + 1 + length (pieces_code (spot k) rest ts at) ≡ pc + length (pieces_code (spot k) (print.Byte b ∷ rest) ts at) = omega arith in
      put_byte_does (site k) k.ways text (compose k.ways rest (arguments_of ts vs)) env s next has.0 (λ small. pieces_do rest ts vs from at (pc + 1) (text ++ b ∷ []) slots last env s next fits each le holds small has.1 (λ s now same. moved (site k) q (go s now same)))
  pieces_do (print.Percent ∷ rest) ts vs from at pc text slots last env s next fits each le holds short has go =
      let q : pc + 1 + length (pieces_code (spot k) rest ts at) ≡ pc + length (pieces_code (spot k) (print.Percent ∷ rest) ts at) = omega arith in
      put_byte_does (site k) k.ways text (compose k.ways rest (arguments_of ts vs)) env s next has.0 (λ small. pieces_do rest ts vs from at (pc + 1) (text ++ 37 ∷ []) slots last env s next fits each le holds small has.1 (λ s now same. moved (site k) q (go s now same)))
  pieces_do (print.Text ∷ rest) [] vs from at pc text slots last env s next fits each le holds short has go = absurd fits
  pieces_do (print.Text ∷ rest) (t ∷ ts) [] from at pc text slots last env s next fits each le holds short has go = absurd each
  pieces_do (print.Text ∷ rest) (t ∷ ts) (v ∷ vs) from at pc text slots last env s next fits each le holds short has go =
      let n = count_of k t in
      let one = one_word 0 v (subst (λ us. AreOf us v) (ap (units_in k.ways.program) fits.0 ∙ units_of_pointer k.ways.program (ty.Integer kind.Byte)) each.0) in
      let count : length v ≡ n = length_of _ _ each.0 ∙ sym (words_are k.ways.program t (subst (λ q. is_array q ≡ false) (sym fits.0) (pointer_not_array (ty.Integer kind.Byte)))) in
      let some : length v ≡ 1 = ap length one.is in
      let there : slots at ≡ Some one.word = (subst (Holds slots at) one.is (holds_front v (joined vs) at slots holds)).0 in
      let more : Holds slots (at + n) (joined vs) = holds_at (joined vs) (at + length v) (at + n) slots (ap (λ i. at + i) count) (holds_back v (joined vs) at slots holds) in
      let q : pc + 1 + length (pieces_code (spot k) rest ts (at + n)) ≡ pc + length (pieces_code (spot k) (print.Text ∷ rest) (t ∷ ts) at) = omega arith in
      comes_out (with_text text (site k)) (ap (λ a. scan (most_text + 2) k.ways (compose k.ways rest (arguments_of ts vs)) a text env s next) (ap (λ v. slice_index v 0) one.is))
      (put_text_does (site k) (most_text + 2) k.ways text (compose k.ways rest (arguments_of ts vs)) slots env s next short (omega arith) has.0 there (λ text2 s2 now short2 same.
      pieces_do rest ts vs from (at + n) (pc + 1) text2 now last env s2 next fits.1 each.1 (omega (arith, le)) (holds_behind (joined vs) at (at + n) now slots (omega (arith, count, some)) same more) short2 has.1 (λ s now2 same2. moved (site k) q (go s now2 (λ i lt. same2 i lt ∙ same i (λ e. absurd (omega (arith, e, lt, le))))))))
  pieces_do (print.Signed ∷ rest) [] vs from at pc text slots last env s next fits each le holds short has go = absurd fits
  pieces_do (print.Signed ∷ rest) (t ∷ ts) [] from at pc text slots last env s next fits each le holds short has go = absurd each
  pieces_do (print.Signed ∷ rest) (t ∷ ts) (v ∷ vs) from at pc text slots last env s next fits each le holds short has go =
      let n = count_of k t in
      let j = fits.0.0 in
      let is = fits.0.1.0 in
      let count : length v ≡ n = length_of _ _ each.0 ∙ sym (words_are k.ways.program t (not_array_integer t j is)) in
      let first = holds_front v (joined vs) at slots holds in
      let more : Holds slots (at + n) (joined vs) = holds_at (joined vs) (at + length v) (at + n) slots (ap (λ i. at + i) count) (holds_back v (joined vs) at slots holds) in
      let ca = put_decimal (spot k) true (kind_of t) at in
      let cb = pieces_code (spot k) rest ts (at + n) in
      let one : length ca ≡ 1 = one_operation (is_long (kind_of t)) _ _ in
      let p : pc + length ca ≡ pc + 1 = ap (λ i. pc + i) one in
      let q : pc + 1 + length cb ≡ pc + length (ca ++ cb) = omega (arith, one, length-append ca cb) in
      signed_writes t j is v each.0 text (compose k.ways rest (arguments_of ts vs)) env s next at pc slots last first fits.0.1.1 (has_front (site k) pc ca cb has) (λ small.
      pieces_do rest ts vs from (at + n) (pc + 1) (text ++ written print.Signed t v) slots last env s next fits.1 each.1 (omega (arith, le)) more small (subst (λ i. Has k i cb) p (has_back (site k) pc ca cb has)) (λ s now same. moved (site k) q (go s now same)))
  pieces_do (print.Unsigned ∷ rest) [] vs from at pc text slots last env s next fits each le holds short has go = absurd fits
  pieces_do (print.Unsigned ∷ rest) (t ∷ ts) [] from at pc text slots last env s next fits each le holds short has go = absurd each
  pieces_do (print.Unsigned ∷ rest) (t ∷ ts) (v ∷ vs) from at pc text slots last env s next fits each le holds short has go =
      let n = count_of k t in
      let j = fits.0.0 in
      let is = fits.0.1.0 in
      let count : length v ≡ n = length_of _ _ each.0 ∙ sym (words_are k.ways.program t (not_array_integer t j is)) in
      let first = holds_front v (joined vs) at slots holds in
      let more : Holds slots (at + n) (joined vs) = holds_at (joined vs) (at + length v) (at + n) slots (ap (λ i. at + i) count) (holds_back v (joined vs) at slots holds) in
      let ca = put_decimal (spot k) false (kind_of t) at in
      let cb = pieces_code (spot k) rest ts (at + n) in
      let one : length ca ≡ 1 = one_operation (is_long (kind_of t)) _ _ in
      let p : pc + length ca ≡ pc + 1 = ap (λ i. pc + i) one in
      let q : pc + 1 + length cb ≡ pc + length (ca ++ cb) = omega (arith, one, length-append ca cb) in
      unsigned_writes t j is v each.0 text (compose k.ways rest (arguments_of ts vs)) env s next at pc slots last first fits.0.1.1 (has_front (site k) pc ca cb has) (λ small.
      pieces_do rest ts vs from (at + n) (pc + 1) (text ++ written print.Unsigned t v) slots last env s next fits.1 each.1 (omega (arith, le)) more small (subst (λ i. Has k i cb) p (has_back (site k) pc ca cb has)) (λ s now same. moved (site k) q (go s now same)))
  pieces_do (print.Hexadecimal ∷ rest) [] vs from at pc text slots last env s next fits each le holds short has go = absurd fits
  pieces_do (print.Hexadecimal ∷ rest) (t ∷ ts) [] from at pc text slots last env s next fits each le holds short has go = absurd each
  pieces_do (print.Hexadecimal ∷ rest) (t ∷ ts) (v ∷ vs) from at pc text slots last env s next fits each le holds short has go =
      let n = count_of k t in
      let j = fits.0.0 in
      let is = fits.0.1.0 in
      let count : length v ≡ n = length_of _ _ each.0 ∙ sym (words_are k.ways.program t (not_array_integer t j is)) in
      let first = holds_front v (joined vs) at slots holds in
      let more : Holds slots (at + n) (joined vs) = holds_at (joined vs) (at + length v) (at + n) slots (ap (λ i. at + i) count) (holds_back v (joined vs) at slots holds) in
      let ca = put_hex (spot k) (kind_of t) at in
      let cb = pieces_code (spot k) rest ts (at + n) in
      let one : length ca ≡ 1 = one_operation (is_long (kind_of t)) _ _ in
      let p : pc + length ca ≡ pc + 1 = ap (λ i. pc + i) one in
      let q : pc + 1 + length cb ≡ pc + length (ca ++ cb) = omega (arith, one, length-append ca cb) in
      hexadecimal_writes t j is v each.0 text (compose k.ways rest (arguments_of ts vs)) env s next at pc slots last first fits.0.1.1 (has_front (site k) pc ca cb has) (λ small.
      pieces_do rest ts vs from (at + n) (pc + 1) (text ++ written print.Hexadecimal t v) slots last env s next fits.1 each.1 (omega (arith, le)) more small (subst (λ i. Has k i cb) p (has_back (site k) pc ca cb has)) (λ s now same. moved (site k) q (go s now same)))
  pieces_do (print.Character ∷ rest) [] vs from at pc text slots last env s next fits each le holds short has go = absurd fits
  pieces_do (print.Character ∷ rest) (t ∷ ts) [] from at pc text slots last env s next fits each le holds short has go = absurd each
  pieces_do (print.Character ∷ rest) (t ∷ ts) (v ∷ vs) from at pc text slots last env s next fits each le holds short has go =
      let n = count_of k t in
      let j = fits.0.0 in
      let is = fits.0.1.0 in
      let count : length v ≡ n = length_of _ _ each.0 ∙ sym (words_are k.ways.program t (not_array_integer t j is)) in
      let first = holds_front v (joined vs) at slots holds in
      let more : Holds slots (at + n) (joined vs) = holds_at (joined vs) (at + length v) (at + n) slots (ap (λ i. at + i) count) (holds_back v (joined vs) at slots holds) in
      let ca = here (spot k) (PutCharacter at) in
      let cb = pieces_code (spot k) rest ts (at + n) in
      let one : length ca ≡ 1 = refl in
      let p : pc + length ca ≡ pc + 1 = ap (λ i. pc + i) one in
      let q : pc + 1 + length cb ≡ pc + length (ca ++ cb) = omega (arith, one, length-append ca cb) in
      character_writes t j is v each.0 text (compose k.ways rest (arguments_of ts vs)) env s next at pc slots last first fits.0.1.1 (has_front (site k) pc ca cb has) (λ small.
      pieces_do rest ts vs from (at + n) (pc + 1) (text ++ written print.Character t v) slots last env s next fits.1 each.1 (omega (arith, le)) more small (subst (λ i. Has k i cb) p (has_back (site k) pc ca cb has)) (λ s now same. moved (site k) q (go s now same)))

  abbrev pub print_means : Task (List (List ℕ)) → List PrintPiece → List Ty → Task (Option (List ℕ))
  print_means m format ts env s next = m env s (λ vs env s. compose k.ways format (arguments_of ts vs) [] env s next)

  pub prints_do : {m : Task (List (List ℕ))} (t : Ty) (format : List PrintPiece) (ts : List Ty) (row : Row) → is_void t ≡ true → Prints format ts → EachDoes k m ts row.keeps row.values → CodedDoes k (print_means m format ts) t (print_coded (spot k) t format ts row)
  prints_do {m} t format ts row void fits h = valued_does k row.keeps (λ dest to. row.values to ++ pieces_code (spot k) format ts to) (record {
    by = λ dest to pc slots last env s next d room vars has go.
        let ca = row.values to in
        let cb = pieces_code (spot k) format ts to in
        let end : pc + length ca + length cb ≡ pc + length (ca ++ cb) = omega (arith, length-append ca cb) in
        h.by to pc slots last env s (λ vs env s. compose k.ways format (arguments_of ts vs) [] env s next) room vars (has_front (site k) pc ca cb has) (λ vs env2 s now last2 each vars2 st2 holds same.
        pieces_do format ts vs to to (pc + length ca) [] now last2 env2 s next fits each (le_refl to) holds (omega arith) (has_back (site k) pc ca cb has) (λ s now3 same3.
        moved (site k) end (go None env2 s now3 now3 last2 void (vars_kept (scene k) env2 to now3 now room same3 vars2) (stays_both (scene k) to to now3 now slots (le_refl to) (stays_below (scene k) to now3 now same3) st2) (λ i lt a. refl) tt same (λ e. absurd (cc)))));
  })
