-- Lines of blocks from an address on.
use Rattle.std.proofs.Common.{◌≡◌, ℕ, ◌+◌, ◌%◌, ◌<◌, ◌≤◌, Bool, true, false, cond, List, [], ◌∷◌, ◌++◌, filter, Option, Some, None, option_map, refl, ap, sym, subst, ◌∙◌, append_assoc, arith}
use Rattle.std.specs.Prelude.{nat_le}
use Rattle.std.specs.List.{flat_map}
use Rattle.std.proofs.lemmas.Bool.Decides.{nat_tests}
use Rattle.std.proofs.lemmas.List.{append-nil}
use Rattle.std.proofs.lemmas.Option.{same_Some}
use Rattle.al_event.specs.declared.act.Block.{Block}
use Rattle.al_event.specs.Store.{Span, Live, spans_of, next_span}
use Rattle.al_region.specs.Region.{IsLaid}
use Rattle.al_step_text.specs.StepText.{span_line, block_line}

-- whether a block stands there or behind
abbrev from_on : ℕ → Span → Bool
from_on from b = nat_le from b.at

le_is : (m n : ℕ) → m ≤ n → nat_le m n ≡ true
le_is m n h = grind (arith, nat_tests)

gt_is : (m n : ℕ) → n < m → nat_le m n ≡ false
gt_is m n h = grind (arith, nat_tests)

is_le : (m n : ℕ) → nat_le m n ≡ true → m ≤ n
is_le m n h = grind (arith, nat_tests)

is_gt : (m n : ℕ) → nat_le m n ≡ false → n < m
is_gt m n h = grind (arith, nat_tests)

-- all blocks behind an address
kept_all : (from low : ℕ) (spans : List Span) (end : ℕ) → from ≤ low → IsLaid low spans end → filter (from_on from) spans ≡ spans
kept_all from low [] end h laid = refl
kept_all from low (b ∷ bs) end h laid =
    let at : from ≤ b.at = omega (arith, h, laid.0) in
    let behind : from ≤ b.at + b.size = omega (arith, at) in
    ap (λ t. cond t (b ∷ filter (from_on from) bs) (filter (from_on from) bs)) (le_is from b.at at) ∙ ap (λ l. b ∷ l) (kept_all from (b.at + b.size) bs end behind laid.3)

-- how a search goes on
goes_true : (from : ℕ) (s : Span) (ss : List Span) (o : Option Span) → nat_le from s.at ≡ true → next_span (s ∷ ss) from ≡ o → Some s ≡ o
goes_true from s ss o t e = ap (λ x. cond x (Some s) (next_span ss from)) (sym t) ∙ e

goes_false : (from : ℕ) (s : Span) (ss : List Span) (o : Option Span) → nat_le from s.at ≡ false → next_span (s ∷ ss) from ≡ o → next_span ss from ≡ o
goes_false from s ss o t e = ap (λ x. cond x (Some s) (next_span ss from)) (sym t) ∙ e

keeps : (from : ℕ) (s : Span) (ss : List Span) → nat_le from s.at ≡ true → filter (from_on from) (s ∷ ss) ≡ s ∷ filter (from_on from) ss
keeps from s ss t = ap (λ x. cond x (s ∷ filter (from_on from) ss) (filter (from_on from) ss)) t

leaves : (from : ℕ) (s : Span) (ss : List Span) → nat_le from s.at ≡ false → filter (from_on from) (s ∷ ss) ≡ filter (from_on from) ss
leaves from s ss t = ap (λ x. cond x (s ∷ filter (from_on from) ss) (filter (from_on from) ss)) t

-- where the next block stands
at_next : (from low : ℕ) (spans : List Span) (end : ℕ) (b : Span) → IsLaid low spans end → next_span spans from ≡ Some b → (from ≤ b.at) × (b.at % 8 ≡ 0)
at_next from low [] end b laid e = absurd (let x : None ≡ Some b = e in cc)
at_next from low (s ∷ ss) end b laid e =
    elim (nat_le from s.at) as (λ t. nat_le from s.at ≡ t → (from ≤ b.at) × (b.at % 8 ≡ 0)) [
      | true ↦ λ t. subst (λ (x : Span). (from ≤ x.at) × (x.at % 8 ≡ 0)) (same_Some s b (goes_true from s ss (Some b) t e)) (is_le from s.at t, laid.1)
      | false ↦ λ t. at_next from (s.at + s.size) ss end b laid.3 (goes_false from s ss (Some b) t e)
    ] refl

first_kept : (from low : ℕ) (s : Span) (ss : List Span) (end : ℕ) → IsLaid low (s ∷ ss) end → nat_le from s.at ≡ true → filter (from_on from) (s ∷ ss) ≡ s ∷ filter (from_on (s.at + 1)) (s ∷ ss)
first_kept from low s ss end laid t =
    let at : from ≤ s.at = is_le from s.at t in
    let some : 0 < s.size = laid.2 in
    let behind : s.at + 1 ≤ s.at + s.size = omega (arith, some) in
    let rest : filter (from_on from) ss ≡ filter (from_on (s.at + 1)) ss = kept_all from (s.at + s.size) ss end (omega (arith, at)) laid.3 ∙ sym (kept_all (s.at + 1) (s.at + s.size) ss end behind laid.3) in
    keeps from s ss t ∙ ap (λ l. s ∷ l) (rest ∙ sym (leaves (s.at + 1) s ss (gt_is (s.at + 1) s.at (omega arith))))

-- the first block from there on, and those behind it
kept_next : (from low : ℕ) (spans : List Span) (end : ℕ) (b : Span) → IsLaid low spans end → next_span spans from ≡ Some b → filter (from_on from) spans ≡ b ∷ filter (from_on (b.at + 1)) spans
kept_next from low [] end b laid e = absurd (let x : None ≡ Some b = e in cc)
kept_next from low (s ∷ ss) end b laid e =
    elim (nat_le from s.at) as (λ t. nat_le from s.at ≡ t → filter (from_on from) (s ∷ ss) ≡ b ∷ filter (from_on (b.at + 1)) (s ∷ ss)) [
      | true ↦ λ t. subst (λ (x : Span). filter (from_on from) (s ∷ ss) ≡ x ∷ filter (from_on (x.at + 1)) (s ∷ ss)) (same_Some s b (goes_true from s ss (Some b) t e)) (first_kept from low s ss end laid t)
      | false ↦ λ t.
          let f : next_span ss from ≡ Some b = goes_false from s ss (Some b) t e in
          let above : from ≤ b.at = (at_next from (s.at + s.size) ss end b laid.3 f).0 in
          let before : s.at < b.at + 1 = omega (arith, is_gt from s.at t, above) in
          leaves from s ss t ∙ (kept_next from (s.at + s.size) ss end b laid.3 f ∙ ap (λ l. b ∷ l) (sym (leaves (b.at + 1) s ss (gt_is (b.at + 1) s.at before))))
    ] refl

kept_none : (from : ℕ) (spans : List Span) → next_span spans from ≡ None → filter (from_on from) spans ≡ []
kept_none from [] e = refl
kept_none from (s ∷ ss) e =
    elim (nat_le from s.at) as (λ t. nat_le from s.at ≡ t → filter (from_on from) (s ∷ ss) ≡ []) [
      | true ↦ λ t. absurd (let x : Some s ≡ None = goes_true from s ss None t e in cc)
      | false ↦ λ t. leaves from s ss t ∙ kept_none from ss (goes_false from s ss None t e)
    ] refl

-- ---- their lines

unfoldable pub lines_from : ℕ → List Live → List ℕ
lines_from from blocks = flat_map span_line (filter (from_on from) (spans_of blocks))

lines_of : (blocks : List Live) → flat_map span_line (spans_of blocks) ≡ flat_map block_line blocks
lines_of [] = refl
lines_of (b ∷ bs) = ap (λ l. block_line b ++ l) (lines_of bs)

pub lines_all : (low : ℕ) (blocks : List Live) (end : ℕ) → IsLaid low (spans_of blocks) end → lines_from 0 blocks ≡ flat_map block_line blocks
unfolding lines_from
lines_all low blocks end laid = ap (flat_map span_line) (kept_all 0 low (spans_of blocks) end (omega arith) laid) ∙ lines_of blocks

abbrev parts : Span → ℕ × ℕ × Block
parts b = (b.at, b.size, b.kind)

mapped : (o : Option Span) (at size : ℕ) (kind : Block) → Some (at, size, kind) ≡ option_map parts o → o ≡ Some (record { at = at; size = size; kind = kind })
mapped None at size kind e = cc
mapped (Some b) at size kind e =
    let same : parts b ≡ (at, size, kind) = same_Some (parts b) (at, size, kind) (sym e) in
    ap (λ (x : ℕ × ℕ × Block). Some (record { at = x.0; size = x.1; kind = x.2 })) same

pub lines_next : (from low : ℕ) (blocks : List Live) (end at size : ℕ) (kind : Block) → IsLaid low (spans_of blocks) end → Some (at, size, kind) ≡ option_map parts (next_span (spans_of blocks) from) → lines_from from blocks ≡ span_line (record { at = at; size = size; kind = kind }) ++ lines_from (at + 1) blocks
unfolding lines_from
lines_next from low blocks end at size kind laid e =
    ap (flat_map span_line) (kept_next from low (spans_of blocks) end (record { at = at; size = size; kind = kind }) laid (mapped (next_span (spans_of blocks) from) at size kind e))

unmapped : (o : Option Span) → None ≡ option_map parts o → o ≡ None
unmapped None e = refl
unmapped (Some b) e = cc

pub lines_none : (from : ℕ) (blocks : List Live) → None ≡ option_map parts (next_span (spans_of blocks) from) → lines_from from blocks ≡ []
unfolding lines_from
lines_none from blocks e = ap (flat_map span_line) (kept_none from (spans_of blocks) (unmapped (next_span (spans_of blocks) from) e))

pub next_at : (from low : ℕ) (blocks : List Live) (end at size : ℕ) (kind : Block) → IsLaid low (spans_of blocks) end → Some (at, size, kind) ≡ option_map parts (next_span (spans_of blocks) from) → (from ≤ at) × (at % 8 ≡ 0)
next_at from low blocks end at size kind laid e = at_next from low (spans_of blocks) end (record { at = at; size = size; kind = kind }) laid (mapped (next_span (spans_of blocks) from) at size kind e)

-- ---- one block more

pub next_is : (from low : ℕ) (blocks : List Live) (end : ℕ) (b : ℕ × ℕ × Block) → IsLaid low (spans_of blocks) end → Some b ≡ option_map parts (next_span (spans_of blocks) from) → (from ≤ b.0) × (b.0 % 8 ≡ 0)
next_is from low blocks end b laid e = next_at from low blocks end b.0 b.1 b.2 laid e

pub one_more : (from low : ℕ) (blocks : List Live) (end : ℕ) (b : ℕ × ℕ × Block) (new old all : List ℕ) → IsLaid low (spans_of blocks) end → Some b ≡ option_map parts (next_span (spans_of blocks) from) → new ≡ old ++ span_line (record { at = b.0; size = b.1; kind = b.2 }) → old ++ lines_from from blocks ≡ all → new ++ lines_from (b.0 + 1) blocks ≡ all
one_more from low blocks end b new old all laid e put so_far =
    ap (λ (l : List ℕ). l ++ lines_from (b.0 + 1) blocks) put
    ∙ (append_assoc old (span_line (record { at = b.0; size = b.1; kind = b.2 })) (lines_from (b.0 + 1) blocks)
    ∙ (ap (λ (l : List ℕ). old ++ l) (sym (lines_next from low blocks end b.0 b.1 b.2 laid e)) ∙ so_far))

pub all_put : (from : ℕ) (blocks : List Live) (out all : List ℕ) → None ≡ option_map parts (next_span (spans_of blocks) from) → out ++ lines_from from blocks ≡ all → out ≡ all
all_put from blocks out all e so_far = sym (append-nil out) ∙ (ap (λ (l : List ℕ). out ++ l) (sym (lines_none from blocks e)) ∙ so_far)
