-- Harts follow conversions to integers of 64 bits.
use Rattle.std.proofs.Common.{◌≡◌, ◌≢◌, ℕ, ◌+◌, ◌/◌, ◌%◌, ◌^◌, ◌<◌, ◌≤◌, Bool, true, false, List, [], ◌∷◌, ◌++◌, length, Some, refl, sym, ap, ◌∙◌, arith, subst, length-append, inl}
use Rattle.al_base.specs.Arith.{is_signed}
use Rattle.al_base.specs.declared.arith.Kind.{Kind}
use Rattle.al_base.specs.declared.arith.Kind.TheVariants as kind
use Rattle.al_meaning.specs.Words.{bits_of}
use Rattle.rv_isa.specs.declared.image.Contents.{Contents}
use Rattle.rv_isa.specs.declared.instr.Instr.{Instr}
use Rattle.rv_exec.specs.Hart.{Hart}
use Rattle.rv_exec.specs.Calls.{Privates}
use Rattle.al_ir.specs.declared.ir.Ir.{Ir}
use Rattle.al_ir.specs.declared.op.Op.TheVariants as op
use Rattle.al_ir.specs.Control.{Slots, words_at, Frame as IrFrame, Control}
use Rattle.al_ir.specs.Step.{step_op, sets_all, kind_words, converted_words}
use Rattle.rv_code.specs.declared.home.Home.{Home}
use Rattle.rv_code.specs.Homes.{bring, leave}
use Rattle.rv_code.specs.Runs.{Stands, Fine}
use Rattle.rv_code.proofs.Leading.{stands_front, stands_back}
use Rattle.rv_code.proofs.Operands.{not_kept}
use Rattle.rv_form.specs.Words.{low_word, sign_word, high_word, convert_code}
use Rattle.rv_match.specs.Match.{Private, InFrame}
use Rattle.rv_match.specs.Places.{Places, Homes}
use Rattle.rv_match.proofs.Counting.{jumps_grow}
use Rattle.rv_match.proofs.Keeping.{at_home}
use Rattle.rv_match.proofs.Steps.{Does, here, words_do, Held, held}
use Rattle.rv_words.proofs.Computing.{Computes}
use Rattle.rv_words.proofs.Straight.{AreStraight, after, Spares, spared}
use Rattle.rv_pairs.specs.Several.{WritesEach}
use Rattle.rv_pairs.proofs.Widths.{IsNarrow}
use Rattle.rv_pairs.proofs.Settling.{Worked, settled_does, pair_settles}
use Rattle.rv_pairs.proofs.Bringing.{at_first, brings_more, straight_more}
use Rattle.rv_pairs.proofs.Converting.{one_word, two_slots}
use Rattle.rv_longs.proofs.Widening.{IsWide, widened, high_of, widen, keeps_low, pair_stays}

-- ---- the parts of the code, and the words

wide_code : (from into : Kind) → IsWide into → (to to1 of of1 : Home)
    → convert_code from into to to1 of of1 ≡ bring of 10 ++ (low_word from into 10 10 ++ (high_word from of1 ++ (leave to 10 ++ leave to1 11)))
wide_code from kind.Lint w to to1 of of1 = refl
wide_code from kind.Ulint w to to1 of of1 = refl
wide_code from kind.Byte w to to1 of of1 = absurd w
wide_code from kind.Sint w to to1 of of1 = absurd w
wide_code from kind.Usint w to to1 of of1 = absurd w
wide_code from kind.Int w to to1 of of1 = absurd w
wide_code from kind.Uint w to to1 of of1 = absurd w

wide_words : (from into : Kind) → IsWide into → (ws : List ℕ) → converted_words from into ws ≡ widened from (bits_of ws) % 2 ^ 32 ∷ widened from (bits_of ws) / 2 ^ 32 ∷ []
wide_words from kind.Lint w ws = refl
wide_words from kind.Ulint w ws = refl
wide_words from kind.Byte w ws = absurd w
wide_words from kind.Sint w ws = absurd w
wide_words from kind.Usint w ws = absurd w
wide_words from kind.Int w ws = absurd w
wide_words from kind.Uint w ws = absurd w

by_sign : (from : Kind) → IsNarrow from → (of1 : Home) → high_word from of1 ≡ sign_word (is_signed from)
by_sign kind.Byte n of1 = refl
by_sign kind.Sint n of1 = refl
by_sign kind.Usint n of1 = refl
by_sign kind.Int n of1 = refl
by_sign kind.Uint n of1 = refl
by_sign kind.Lint n of1 = absurd n
by_sign kind.Ulint n of1 = absurd n

by_word : (from : Kind) → IsWide from → (of1 : Home) → high_word from of1 ≡ bring of1 11
by_word kind.Lint w of1 = refl
by_word kind.Ulint w of1 = refl
by_word kind.Byte w of1 = absurd w
by_word kind.Sint w of1 = absurd w
by_word kind.Usint w of1 = absurd w
by_word kind.Int w of1 = absurd w
by_word kind.Uint w of1 = absurd w

-- the high word by the sign of the low one
sign_straight : (s : Bool) → AreStraight (sign_word s)
sign_straight true = (tt, tt)
sign_straight false = (tt, tt)

sign_spares : (s : Bool) (n : ℕ) → n ≢ 11 → Spares n (sign_word s)
sign_spares true n other = (other, tt)
sign_spares false n other = (other, tt)

sign_gives : (s : Bool) (r : ℕ → ℕ) → after (sign_word s) r 11 ≡ high_of s (r 10)
sign_gives true r = refl
sign_gives false r = refl

module _ (ir : Ir) (image : Contents) (l : Places) (live : (f pc unit t : ℕ) → Type 0) (Midway : (f pc unit : ℕ) → Slots → (sp : ℕ) → Hart → Type 0)
    (left : ℕ) (fr : IrFrame) (below : List IrFrame) (c : Control) (line : ℕ) (u : List ℕ) (h : Hart) (p : Privates)
    (homes : Homes l) (small : length image.code ≤ 2 ^ 23) (m : InFrame ir image l live Midway left fr below 0 c.text c.last h) (same : Private ir u p) (fine : Fine h p) where
  abbrev at0 : ℕ
  at0 = l.at fr.function fr.pc

  abbrev home : ℕ → Home
  home t = l.home fr.function t

  abbrev Works : (end made : ℕ) → Type 0
  Works end made = Worked ir image l live Midway left fr below c line u h p homes small m same fine end made

  abbrev HeldAt : (t w : ℕ) → Type 0
  HeldAt t w = Held ir image l live Midway left fr below c line u h p homes small m same fine t w

  abbrev Gets : (to : ℕ) → List ℕ → Type 0
  Gets to ws = Does ir image l live Midway left h p (sets_all to ws (here ir image l live Midway left fr below c line u h p))

  -- with the instructions of the high word
  module _ (from into : Kind) (to of : ℕ) (lt : to + 1 < l.slots fr.function) (writes : WritesEach l live fr.function fr.pc to 2) (highs : List Instr)
      (has : Stands image.code at0 (bring (home of) 10 ++ (low_word from into 10 10 ++ (highs ++ (leave (home to) 10 ++ leave (home (to + 1)) 11)))))
      (next : at0 + length (bring (home of) 10 ++ (low_word from into 10 10 ++ (highs ++ (leave (home to) 10 ++ leave (home (to + 1)) 11)))) ≡ l.at fr.function (fr.pc + 1)) where
    abbrev lows : List Instr
    lows = low_word from into 10 10

    abbrev tail : List Instr
    tail = leave (home to) 10 ++ leave (home (to + 1)) 11

    abbrev at1 : ℕ
    at1 = at0 + length (bring (home of) 10)

    abbrev at2 : ℕ
    at2 = at1 + length lows

    abbrev at3 : ℕ
    at3 = at2 + length highs

    code1 : Stands image.code at1 (lows ++ (highs ++ tail))
    code1 = stands_back image.code at0 (bring (home of) 10) (lows ++ (highs ++ tail)) has

    code2 : Stands image.code at2 (highs ++ tail)
    code2 = stands_back image.code at1 lows (highs ++ tail) code1

    lengths : at3 + length tail ≡ l.at fr.function (fr.pc + 1)
    lengths = omega (arith, next, length-append (bring (home of) 10) (lows ++ (highs ++ tail)), length-append lows (highs ++ tail), length-append highs tail)

    -- the low word is in register 10
    first : {f : ℕ → ℕ} → Computes f (low_word from into) → (x : ℕ) → HeldAt of x → (k : Works at2 0) × (k.registers 10 ≡ f x)
    first {f} comp x px =
        let g = brings_more ir image l live Midway left fr below c line u h p homes small m same fine at0 0 (at_first ir image l live Midway left fr below c line u h p homes small m same fine) (home of) 10 (at_home ir image l live Midway m homes of px.is_slot) (omega arith, omega arith)
        (stands_front image.code at0 (bring (home of) 10) (lows ++ (highs ++ tail)) has) in
        let s = straight_more ir image l live Midway left fr below c line u h p homes small m same fine at1 0 g.to lows (comp.straight 10 10) (λ n q. comp.spares 10 10 n (not_kept 10 n (omega arith, omega arith) q) q) (stands_front image.code at1 lows (highs ++ tail) code1) in (
          s.0,
          ap (λ (r : ℕ → ℕ). r 10) s.1 ∙ comp.gives 10 10 g.to.registers (inl refl) (inl refl) ((g.to.leads.fine fine).hart.registers 10) ∙ ap f (g.holds ∙ px.stands),
        )

    -- both go to their slots
    ends : (low high : ℕ) (k : Works at3 0) → k.registers 10 ≡ low → k.registers 11 ≡ high → Gets to (low ∷ high ∷ [])
    ends low high k ten eleven =
        settled_does ir image l live Midway left fr below c line u h p homes small m same fine to (low ∷ high ∷ [])
        (pair_settles ir image l live Midway left fr below c line u h p homes small m same fine to at3 0 k (omega (arith, jumps_grow ir fr.function fr.pc (fr.pc + 1) (omega arith))) low high ten eleven lt writes
        (stands_back image.code at2 highs tail code2) lengths)

  module _ (from into : Kind) (wide : IsWide into) (to of : ℕ) (lives : (i : ℕ) → i < kind_words from → live fr.function fr.pc 0 (of + i)) (lt : to + 1 < l.slots fr.function) (writes : WritesEach l live fr.function fr.pc to 2)
      (has : Stands image.code at0 (convert_code from into (home to) (home (to + 1)) (home of) (home (of + 1))))
      (next : at0 + length (convert_code from into (home to) (home (to + 1)) (home of) (home (of + 1))) ≡ l.at fr.function (fr.pc + 1)) where
    abbrev parts : List Instr → List Instr
    parts highs = bring (home of) 10 ++ (low_word from into 10 10 ++ (highs ++ (leave (home to) 10 ++ leave (home (to + 1)) 11)))

    whole : (highs : List Instr) → high_word from (home (of + 1)) ≡ highs → convert_code from into (home to) (home (to + 1)) (home of) (home (of + 1)) ≡ parts highs
    whole highs e = wide_code from into wide (home to) (home (to + 1)) (home of) (home (of + 1)) ∙ ap parts e

    code : (highs : List Instr) → high_word from (home (of + 1)) ≡ highs → Stands image.code at0 (parts highs)
    code highs e = subst (λ (is : List Instr). Stands image.code at0 is) (whole highs e) has

    behind : (highs : List Instr) → high_word from (home (of + 1)) ≡ highs → at0 + length (parts highs) ≡ l.at fr.function (fr.pc + 1)
    behind highs e = sym (ap (λ (is : List Instr). at0 + length is) (whole highs e)) ∙ next

    first_live : 0 < kind_words from → live fr.function fr.pc 0 of
    first_live some = let e : of + 0 ≡ of = omega arith in subst (λ t. live fr.function fr.pc 0 t) e (lives 0 some)

    given : (ws : List ℕ) (low high : ℕ) → low ≡ widened from (bits_of ws) % 2 ^ 32 → high ≡ widened from (bits_of ws) / 2 ^ 32 → Gets to (low ∷ high ∷ []) → Gets to (converted_words from into ws)
    given ws low high e f g =
        let pairs : low ∷ high ∷ [] ≡ converted_words from into ws = ap (λ (a : ℕ). a ∷ high ∷ []) e ∙ ap (λ (b : ℕ). widened from (bits_of ws) % 2 ^ 32 ∷ b ∷ []) f ∙ sym (wide_words from into wide ws) in
        subst (λ (qs : List ℕ). Gets to qs) pairs g

    -- from one word
    one_does : IsNarrow from → 0 < kind_words from → (ws : List ℕ) → words_at fr.slots of 1 ≡ Some ws → Gets to (converted_words from into ws)
    one_does n some ws e =
        let q = one_word fr.slots of ws e in
        let x : ℕ = q.0 in
        let px = held ir image l live Midway left fr below c line u h p homes small m same fine of x (first_live some) q.1 in
        let w = widen from into n wide in
        let sign : List Instr = sign_word (is_signed from) in
        let highs_are = by_sign from n (home (of + 1)) in
        let k = first from into to of lt writes sign (code sign highs_are) (behind sign highs_are) w.computes x px in
        let at_high : ℕ = at0 + length (bring (home of) 10) + length (low_word from into 10 10) in
        let s = straight_more ir image l live Midway left fr below c line u h p homes small m same fine at_high 0 k.0 sign (sign_straight (is_signed from)) (λ n k1. sign_spares (is_signed from) n (not_kept 11 n (omega arith, omega arith) k1))
        (stands_front image.code at_high sign (leave (home to) 10 ++ leave (home (to + 1)) 11) (code2 from into to of lt writes sign (code sign highs_are) (behind sign highs_are))) in
        subst (λ (qs : List ℕ). Gets to (converted_words from into qs)) (sym q.2)
        (given (x ∷ []) (w.value x) (high_of (is_signed from) (w.value x)) (w.low x px.word) (w.high x px.word)
        (ends from into to of lt writes sign (code sign highs_are) (behind sign highs_are) (w.value x) (high_of (is_signed from) (w.value x)) s.0
        (ap (λ (r : ℕ → ℕ). r 10) s.1 ∙ spared 10 sign k.0.registers (sign_spares (is_signed from) 10 (omega arith)) ∙ k.1)
        (ap (λ (r : ℕ → ℕ). r 11) s.1 ∙ sign_gives (is_signed from) k.0.registers ∙ ap (high_of (is_signed from)) k.1)))

    -- from two
    two_do : IsWide from → 1 < kind_words from → (ws : List ℕ) → words_at fr.slots of 2 ≡ Some ws → Gets to (converted_words from into ws)
    two_do v some ws e =
        let q = two_slots fr.slots of ws e in
        let x : ℕ = q.0 in
        let y : ℕ = q.1 in
        let px = held ir image l live Midway left fr below c line u h p homes small m same fine of x (first_live (omega (arith, some))) q.2 in
        let py = held ir image l live Midway left fr below c line u h p homes small m same fine (of + 1) y (lives 1 some) q.3 in
        let high : List Instr = bring (home (of + 1)) 11 in
        let highs_are = by_word from v (home (of + 1)) in
        let k = first from into to of lt writes high (code high highs_are) (behind high highs_are) (keeps_low from into v wide) x px in
        let at_high : ℕ = at0 + length (bring (home of) 10) + length (low_word from into 10 10) in
        let g = brings_more ir image l live Midway left fr below c line u h p homes small m same fine at_high 0 k.0 (home (of + 1)) 11 (at_home ir image l live Midway m homes (of + 1) py.is_slot) (omega arith, omega arith)
        (stands_front image.code at_high high (leave (home to) 10 ++ leave (home (to + 1)) 11) (code2 from into to of lt writes high (code high highs_are) (behind high highs_are))) in
        let stays = pair_stays from v x y px.word py.word in
        subst (λ (qs : List ℕ). Gets to (converted_words from into qs)) (sym q.4)
        (given (x ∷ y ∷ []) (x % 2 ^ 32) y stays.0 stays.1
        (ends from into to of lt writes high (code high highs_are) (behind high highs_are) (x % 2 ^ 32) y g.to (g.others 10 (omega arith) (omega arith) ∙ k.1) (g.holds ∙ py.stands)))

  abbrev Converts : (from into : Kind) → Type 0
  Converts from into =
      IsWide into → (to of : ℕ) → ((i : ℕ) → i < kind_words from → live fr.function fr.pc 0 (of + i)) → to + 1 < l.slots fr.function → WritesEach l live fr.function fr.pc to 2
      → Stands image.code at0 (convert_code from into (home to) (home (to + 1)) (home of) (home (of + 1)))
      → at0 + length (convert_code from into (home to) (home (to + 1)) (home of) (home (of + 1))) ≡ l.at fr.function (fr.pc + 1)
      → Does ir image l live Midway left h p (step_op (op.Convert from into to of) (here ir image l live Midway left fr below c line u h p))

  -- to a kind of 64 bits; all words of the number are live
  pub widening_does : (from into : Kind) → Converts from into
  widening_does kind.Byte into w to of lives lt writes has next = words_do ir image l live Midway left fr below c line u h p of 1 _ (one_does kind.Byte into w to of lives lt writes has next tt (omega arith))
  widening_does kind.Sint into w to of lives lt writes has next = words_do ir image l live Midway left fr below c line u h p of 1 _ (one_does kind.Sint into w to of lives lt writes has next tt (omega arith))
  widening_does kind.Usint into w to of lives lt writes has next = words_do ir image l live Midway left fr below c line u h p of 1 _ (one_does kind.Usint into w to of lives lt writes has next tt (omega arith))
  widening_does kind.Int into w to of lives lt writes has next = words_do ir image l live Midway left fr below c line u h p of 1 _ (one_does kind.Int into w to of lives lt writes has next tt (omega arith))
  widening_does kind.Uint into w to of lives lt writes has next = words_do ir image l live Midway left fr below c line u h p of 1 _ (one_does kind.Uint into w to of lives lt writes has next tt (omega arith))
  widening_does kind.Lint into w to of lives lt writes has next = words_do ir image l live Midway left fr below c line u h p of 2 _ (two_do kind.Lint into w to of lives lt writes has next tt (omega arith))
  widening_does kind.Ulint into w to of lives lt writes has next = words_do ir image l live Midway left fr below c line u h p of 2 _ (two_do kind.Ulint into w to of lives lt writes has next tt (omega arith))
