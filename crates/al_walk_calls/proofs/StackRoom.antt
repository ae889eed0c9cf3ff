-- The words on a task's stack, by the table of functions.
use Rattle.std.proofs.Common.{◌≡◌, ℕ, zero, suc, ◌+◌, ◌^◌, ◌<◌, ◌≤◌, not, nat_lt, nat_le, List, [], ◌∷◌, map, reverse, take, length, get_or, refl, sym, ap, ◌∙◌, arith}
use Rattle.std.specs.Prelude.{sum_by, slice_get}
use Rattle.std.proofs.lemmas.List.{take_all}
use Rattle.std.proofs.lemmas.List.Sorted.{IsPermutation-reverse, sum_by-IsPermutation}
use Rattle.std.proofs.lemmas.List.Sums.{sum_by-cons, sum_by_more}
use Rattle.al_typed.specs.Capped.{capped}
use Rattle.al_typed.specs.Measures.{function_slots}
use Rattle.al_typed.specs.declared.program.Function.{Function}
use Rattle.al_typed.specs.declared.program.Program.{Program}
use Rattle.al_meaning.specs.Calls.{slots_of, frame_slots, has_room}
use Rattle.al_meaning.specs.Places.{function_at}
use Rattle.al_control.specs.declared.control.Frame.{Frame}
use Rattle.al_control.specs.Models.{frame_of}
use Rattle.al_walk_calls.specs.Slots.{slot_at, slot_of, slots_in}

slot_among : (p : Program) (fs : List Function) (n : ℕ) → slot_at (map (λ f. capped (function_slots p f)) fs) n ≡ capped (slots_of p (slice_get fs n))
slot_among p [] n = refl
slot_among p (f ∷ fs) zero = refl
slot_among p (f ∷ fs) (suc n) = slot_among p fs n

slot_is : (p : Program) (n : ℕ) → slot_at (slots_in p) n ≡ capped (slots_of p (function_at p n))
slot_is p n = slot_among p p.functions n

capped_sum : (a b s t : ℕ) → a ≡ capped b → capped s ≡ capped t → capped (a + s) ≡ capped (b + t)
capped_sum a b s t e k = omega arith

slots_are : (p : Program) (fs : List Frame) → capped (sum_by (slot_of (slots_in p)) fs) ≡ capped (sum_by (frame_slots p) (map frame_of fs))
slots_are p [] = refl
slots_are p (f ∷ fs) =
    ap capped (sum_by-cons (slot_of (slots_in p)) f fs)
    ∙ capped_sum (slot_of (slots_in p) f) (frame_slots p (frame_of f)) (sum_by (slot_of (slots_in p)) fs) (sum_by (frame_slots p) (map frame_of fs)) (slot_is p f.function) (slots_are p fs)
    ∙ ap capped (sym (sum_by-cons (frame_slots p) (frame_of f) (map frame_of fs)))

-- the frames from the other end
pub slots_backwards : (slots : List ℕ) (fs : List Frame) → capped (sum_by (slot_of slots) (reverse fs)) ≡ capped (sum_by (slot_of slots) fs)
slots_backwards slots fs = ap capped (sum_by-IsPermutation (slot_of slots) fs (reverse fs) (IsPermutation-reverse fs))

-- one frame more
pub slots_more : (slots : List ℕ) (fs : List Frame) (i sum own new : ℕ) (f : Frame) → i < length fs → f ≡ get_or fs i f
    → sum ≡ capped (sum_by (slot_of slots) (take i fs)) → own ≡ slot_at slots f.function → new ≡ capped (sum + own)
    → new ≡ capped (sum_by (slot_of slots) (take (i + 1) fs))
slots_more slots fs i sum own new f h is so_far e n =
    let more : sum_by (slot_of slots) (take (i + 1) fs) ≡ sum_by (slot_of slots) (take i fs) + own =
    sum_by_more (slot_of slots) fs i f h ∙ ap (λ g. sum_by (slot_of slots) (take i fs) + slot_of slots g) (sym is) ∙ ap (λ k. sum_by (slot_of slots) (take i fs) + k) (sym e)
    in
    omega arith

pub slots_over : (slots : List ℕ) (fs gs : List Frame) (i sum : ℕ) → gs ≡ reverse fs → length gs ≤ i
    → sum ≡ capped (sum_by (slot_of slots) (take i gs)) → sum ≡ capped (sum_by (slot_of slots) fs)
slots_over slots fs gs i sum back h so_far =
    so_far ∙ ap (λ l. capped (sum_by (slot_of slots) l)) (take_all i gs h ∙ back) ∙ slots_backwards slots fs

fits : (taken own sum all more : ℕ) → taken ≡ capped all → own ≡ capped more → sum ≡ capped (taken + own) → nat_le sum (2 ^ 20) ≡ not (nat_lt (2 ^ 20) (all + more))
fits taken own sum all more e k is = grind arith

pub room : (p : Program) (slots : List ℕ) (number : ℕ) (fs : List Frame) (taken own all : ℕ) → slots ≡ slots_in p
    → taken ≡ capped (sum_by (slot_of slots) fs) → own ≡ slot_at slots number → all ≡ capped (taken + own)
    → nat_le all (2 ^ 20) ≡ has_room p number (map frame_of fs)
room p slots number fs taken own all e below mine is =
    fits taken own all (sum_by (frame_slots p) (map frame_of fs)) (slots_of p (function_at p number))
    (below ∙ ap (λ s. capped (sum_by (slot_of s) fs)) e ∙ slots_are p fs) (mine ∙ ap (λ s. slot_at s number) e ∙ slot_is p number) is

swapped : (below own s t taken : ℕ) → below ≡ capped s → taken ≡ capped (below + own) → t ≡ own + s → taken ≡ capped t
swapped below own s t taken e is k = omega arith

pub room_here : (p : Program) (slots : List ℕ) (number : ℕ) (f : Frame) (fs : List Frame) (below first taken own all : ℕ) → slots ≡ slots_in p
    → below ≡ capped (sum_by (slot_of slots) fs) → first ≡ slot_at slots f.function → taken ≡ capped (below + first)
    → own ≡ slot_at slots number → all ≡ capped (taken + own)
    → nat_le all (2 ^ 20) ≡ has_room p number (frame_of f ∷ map frame_of fs)
room_here p slots number f fs below first taken own all e b t s mine is =
    room p slots number (f ∷ fs) taken own all e
    (swapped below first (sum_by (slot_of slots) fs) (sum_by (slot_of slots) (f ∷ fs)) taken b s
    (sum_by-cons (slot_of slots) f fs ∙ ap (λ k. k + sum_by (slot_of slots) fs) (sym t)))
    mine is
