-- Harts follow conversions of integers.
use Rattle.std.proofs.Common.{◌≡◌, ◌≢◌, ℕ, zero, suc, ◌+◌, ◌-◌, ◌*◌, ◌/◌, ◌%◌, ◌^◌, ◌<◌, ◌≤◌, ◌==◌, Bool, true, false, ◌&&◌, nat_le, nat_lt, if◌then◌else◌, ℤ, pos, ◌-ℤ◌, List, [], ◌∷◌, ◌++◌, length, Option, Some, None, refl, sym, ap, ap₂, ◌∙◌, arith, subst, length-append, inl, inr}
use Rattle.std.specs.Prelude.{option_map, option_and_then}
use Rattle.al_base.specs.Arith.{width_of, is_signed, wrapped, integer_of, value_of}
use Rattle.al_base.specs.declared.arith.Kind.{Kind}
use Rattle.al_base.specs.declared.arith.Kind.TheVariants as kind
use Rattle.al_meaning.specs.Words.{bits_of, integer_words}
use Rattle.rv_isa.specs.declared.image.Contents.{Contents}
use Rattle.rv_isa.specs.declared.instr.Instr.{Instr}
use Rattle.rv_exec.specs.Hart.{Hart}
use Rattle.rv_exec.specs.Calls.{Privates}
use Rattle.al_ir.specs.declared.ir.Ir.{Ir}
use Rattle.al_ir.specs.declared.op.Op.TheVariants as op
use Rattle.al_ir.specs.Control.{Slots, words_at, Frame as IrFrame, Control}
use Rattle.al_ir.specs.Step.{step_op, sets_all, kind_words, converted_words}
use Rattle.rv_code.specs.declared.home.Home.{Home}
use Rattle.rv_code.specs.Runs.{Stands, Fine}
use Rattle.rv_form.specs.Words.{low_word, unary_code, convert_code}
use Rattle.rv_match.specs.Match.{Private, InFrame}
use Rattle.rv_match.specs.Places.{Places, Homes, Writes}
use Rattle.rv_match.proofs.Steps.{Does, here, words_do, held}
use Rattle.rv_words.proofs.Singles.{single_does}
use Rattle.rv_pairs.proofs.Widths.{IsNarrow, source, Narrows, narrow}

-- ---- the words of a number

module _ (slots : Slots) where
  pub one_word : (t : ℕ) (ws : List ℕ) → words_at slots t 1 ≡ Some ws → (w : ℕ) × (slots t ≡ Some w) × (ws ≡ w ∷ [])
  one_word t ws e = on (slots t) refl e where
    on : (o : Option ℕ) → slots t ≡ o → option_and_then (λ w. option_map (λ (rest : List ℕ). w ∷ rest) (Some [])) o ≡ Some ws → (w : ℕ) × (slots t ≡ Some w) × (ws ≡ w ∷ [])
    on (Some w) f g = (w, f, cc)
    on None f g = absurd (cc)

  pub two_slots : (t : ℕ) (ws : List ℕ) → words_at slots t 2 ≡ Some ws → (w : ℕ) × (w1 : ℕ) × (slots t ≡ Some w) × (slots (t + 1) ≡ Some w1) × (ws ≡ w ∷ w1 ∷ [])
  two_slots t ws e = on (slots t) refl (words_at slots (t + 1) 1) refl e where
    on : (o : Option ℕ) → slots t ≡ o → (q : Option (List ℕ)) → words_at slots (t + 1) 1 ≡ q → option_and_then (λ w. option_map (λ (rest : List ℕ). w ∷ rest) q) o ≡ Some ws
        → (w : ℕ) × (w1 : ℕ) × (slots t ≡ Some w) × (slots (t + 1) ≡ Some w1) × (ws ≡ w ∷ w1 ∷ [])
    on (Some w) f (Some rest) g k =
        let more = one_word (t + 1) rest g in
        let all : ws ≡ w ∷ rest = cc in
        (w, more.0, f, more.1, all ∙ ap (λ (tail : List ℕ). w ∷ tail) more.2)
    on (Some w) f None g k = absurd (cc)
    on None f q g k = absurd (cc)

-- ---- kinds of at most 32 bits

narrow_words : (into : Kind) → IsNarrow into → (v : ℕ) → integer_words into v ≡ v ∷ []
narrow_words kind.Byte n v = refl
narrow_words kind.Sint n v = refl
narrow_words kind.Usint n v = refl
narrow_words kind.Int n v = refl
narrow_words kind.Uint n v = refl
narrow_words kind.Lint n v = absurd n
narrow_words kind.Ulint n v = absurd n

narrow_code : (from into : Kind) → IsNarrow into → (to to1 of of1 : Home) → convert_code from into to to1 of of1 ≡ unary_code to of (low_word from into)
narrow_code from kind.Byte n to to1 of of1 = refl
narrow_code from kind.Sint n to to1 of of1 = refl
narrow_code from kind.Usint n to to1 of of1 = refl
narrow_code from kind.Int n to to1 of of1 = refl
narrow_code from kind.Uint n to to1 of of1 = refl
narrow_code from kind.Lint n to to1 of of1 = absurd n
narrow_code from kind.Ulint n to to1 of of1 = absurd n

module _ (ir : Ir) (image : Contents) (l : Places) (live : (f pc unit t : ℕ) → Type 0) (Midway : (f pc unit : ℕ) → Slots → (sp : ℕ) → Hart → Type 0)
    (left : ℕ) (fr : IrFrame) (below : List IrFrame) (c : Control) (line : ℕ) (u : List ℕ) (h : Hart) (p : Privates)
    (homes : Homes l) (small : length image.code ≤ 2 ^ 23) (m : InFrame ir image l live Midway left fr below 0 c.text c.last h) (same : Private ir u p) (fine : Fine h p) where
  abbrev at0 : ℕ
  at0 = l.at fr.function fr.pc

  abbrev home : ℕ → Home
  home t = l.home fr.function t

  -- to a kind of at most 32 bits; all words of the number are live
  module _ (from into : Kind) (n : IsNarrow into) (to of : ℕ) (lives : (i : ℕ) → i < kind_words from → live fr.function fr.pc 0 (of + i)) (lt : to < l.slots fr.function) (apart : Writes l live fr.function fr.pc to)
      (has : Stands image.code at0 (convert_code from into (home to) (home (to + 1)) (home of) (home (of + 1))))
      (next : at0 + length (convert_code from into (home to) (home (to + 1)) (home of) (home (of + 1))) ≡ l.at fr.function (fr.pc + 1)) where
    code : Stands image.code at0 (unary_code (home to) (home of) (low_word from into))
    code = subst (λ (is : List Instr). Stands image.code at0 is) (narrow_code from into n (home to) (home (to + 1)) (home of) (home (of + 1))) has

    behind : at0 + length (unary_code (home to) (home of) (low_word from into)) ≡ l.at fr.function (fr.pc + 1)
    behind = sym (ap (λ (is : List Instr). at0 + length is) (narrow_code from into n (home to) (home (to + 1)) (home of) (home (of + 1)))) ∙ next

    -- from the low word, whatever the words of the number are
    from_low : (ws : List ℕ) (low high : ℕ) → live fr.function fr.pc 0 of → fr.slots of ≡ Some low → high < 2 ^ 32 → ws ≡ source from low high
        → Does ir image l live Midway left h p (sets_all to (converted_words from into ws) (here ir image l live Midway left fr below c line u h p))
    from_low ws low high la e small_high is =
        let px = held ir image l live Midway left fr below c line u h p homes small m same fine of low la e in
        let v : ℕ = wrapped (width_of into) (integer_of from (bits_of ws)) in
        let value : (narrow from into n).value low ≡ v = (narrow from into n).is low high px.word small_high ∙ ap (λ (qs : List ℕ). wrapped (width_of into) (integer_of from (bits_of qs))) (sym is) in
        subst (λ (qs : List ℕ). Does ir image l live Midway left h p (sets_all to qs (here ir image l live Midway left fr below c line u h p))) (sym (narrow_words into n v))
        (single_does ir image l live Midway left fr below c line u h p homes small m same fine to of la lt apart (narrow from into n).computes code behind low v e value)

    first_live : 0 < kind_words from → live fr.function fr.pc 0 of
    first_live some = let e : of + 0 ≡ of = omega arith in subst (λ t. live fr.function fr.pc 0 t) e (lives 0 some)

    one_does : ((low : ℕ) → low ∷ [] ≡ source from low 0) → 0 < kind_words from → (ws : List ℕ) → words_at fr.slots of 1 ≡ Some ws
        → Does ir image l live Midway left h p (sets_all to (converted_words from into ws) (here ir image l live Midway left fr below c line u h p))
    one_does are some ws e = let q = one_word fr.slots of ws e in from_low ws q.0 0 (first_live some) q.1 (omega arith) (q.2 ∙ are q.0)

    two_do : ((low high : ℕ) → low ∷ high ∷ [] ≡ source from low high) → 1 < kind_words from → (ws : List ℕ) → words_at fr.slots of 2 ≡ Some ws
        → Does ir image l live Midway left h p (sets_all to (converted_words from into ws) (here ir image l live Midway left fr below c line u h p))
    two_do are some ws e =
        let q = two_slots fr.slots of ws e in
        let high = held ir image l live Midway left fr below c line u h p homes small m same fine (of + 1) q.1 (lives 1 some) q.3 in
        from_low ws q.0 q.1 (first_live (omega (arith, some))) q.2 high.word (q.4 ∙ are q.0 q.1)

  abbrev Converts : (from into : Kind) → Type 0
  Converts from into =
      IsNarrow into → (to of : ℕ) → ((i : ℕ) → i < kind_words from → live fr.function fr.pc 0 (of + i)) → to < l.slots fr.function → Writes l live fr.function fr.pc to
      → Stands image.code at0 (convert_code from into (home to) (home (to + 1)) (home of) (home (of + 1)))
      → at0 + length (convert_code from into (home to) (home (to + 1)) (home of) (home (of + 1))) ≡ l.at fr.function (fr.pc + 1)
      → Does ir image l live Midway left h p (step_op (op.Convert from into to of) (here ir image l live Midway left fr below c line u h p))

  pub narrowing_does : (from into : Kind) → Converts from into
  narrowing_does kind.Byte into n to of lives lt apart has next = words_do ir image l live Midway left fr below c line u h p of 1 _ (one_does kind.Byte into n to of lives lt apart has next (λ low. refl) (omega arith))
  narrowing_does kind.Sint into n to of lives lt apart has next = words_do ir image l live Midway left fr below c line u h p of 1 _ (one_does kind.Sint into n to of lives lt apart has next (λ low. refl) (omega arith))
  narrowing_does kind.Usint into n to of lives lt apart has next = words_do ir image l live Midway left fr below c line u h p of 1 _ (one_does kind.Usint into n to of lives lt apart has next (λ low. refl) (omega arith))
  narrowing_does kind.Int into n to of lives lt apart has next = words_do ir image l live Midway left fr below c line u h p of 1 _ (one_does kind.Int into n to of lives lt apart has next (λ low. refl) (omega arith))
  narrowing_does kind.Uint into n to of lives lt apart has next = words_do ir image l live Midway left fr below c line u h p of 1 _ (one_does kind.Uint into n to of lives lt apart has next (λ low. refl) (omega arith))
  narrowing_does kind.Lint into n to of lives lt apart has next = words_do ir image l live Midway left fr below c line u h p of 2 _ (two_do kind.Lint into n to of lives lt apart has next (λ low high. refl) (omega arith))
  narrowing_does kind.Ulint into n to of lives lt apart has next = words_do ir image l live Midway left fr below c line u h p of 2 _ (two_do kind.Ulint into n to of lives lt apart has next (λ low high. refl) (omega arith))
