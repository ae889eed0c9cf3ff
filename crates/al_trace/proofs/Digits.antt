-- The decimal digits of an entry's line, and the parts that spaces and a line feed cut it into.
use Rattle.std.proofs.Common.{◌≡◌, ◌≢◌, ℕ, suc, ◌+◌, ◌-◌, ◌^◌, ◌<◌, List, [], ◌∷◌, ◌++◌, length, take, drop, Option, Some, refl, sym, ap, ◌∙◌, append_assoc, arith}
use Rattle.std.specs.Prelude.{◌==◌, codes, decimal}
use Rattle.std.specs.List.{position_from}
use Rattle.std.specs.Str.Parse.{IsNumeral}
use Rattle.std.proofs.lemmas.Bool.{cond-true, cond-false, eq-eqb, ne_eqb}
use Rattle.std.proofs.lemmas.List.{get_or_default, length-append, take_at, take_all, drop_at}
use Rattle.std.proofs.lemmas.Fmt.{decimal_is_IsNumeral}
use Rattle.std.proofs.lemmas.Str.Parse.{digit_at}
use Rattle.al_event.specs.declared.entry.Entry.{Entry}
use Rattle.al_trace.specs.Schedule.{entry_line, IsEntry}
use Rattle.al_trace.specs.Lines.{HasNo}

-- digits are no space and no line feed
pub digits_have_no : (n c : ℕ) → n < 2 ^ 64 → c < 48 → HasNo c (decimal n)
digits_have_no n c small low k d lt e =
    let numeral : IsNumeral 10 (decimal n) = (decimal_is_IsNumeral n small).0 in
    let range = digit_at (decimal n) k numeral.1 lt in
    let same = get_or_default (decimal n) k d 0 lt in
    omega (arith, range, same, e)

pub head_is_not : (x c : ℕ) (a : List ℕ) → HasNo c (x ∷ a) → x ≢ c
head_is_not x c a h = h 0 x (omega arith)

pub tail_has_no : (x c : ℕ) (a : List ℕ) → HasNo c (x ∷ a) → HasNo c a
tail_has_no x c a h k d lt = h (suc k) d (omega arith)

-- the first such byte cuts a list in one way
pub cut_once : (c : ℕ) (l b x y : List ℕ) → HasNo c l → HasNo c b → l ++ c ∷ x ≡ b ++ c ∷ y → (l ≡ b) × (x ≡ y)
cut_once c [] [] x y p q e = (refl, cc)
cut_once c [] (w ∷ b) x y p q e = absurd (head_is_not w c b q (let same : w ≡ c = cc in same))
cut_once c (z ∷ l) [] x y p q e = absurd (head_is_not z c l p (let same : z ≡ c = cc in same))
cut_once c (z ∷ l) (w ∷ b) x y p q e =
    let rest : l ++ c ∷ x ≡ b ++ c ∷ y = cc in
    let more = cut_once c l b x y (tail_has_no z c l p) (tail_has_no w c b q) rest in
    let head : z ≡ w = cc in
    let tail : l ≡ b = more.0 in
    (cc, more.1)

-- the first place of a byte
pub position_behind : (a b : List ℕ) (c n : ℕ) → HasNo c a → position_from (λ byte. byte == c) n (a ++ c ∷ b) ≡ Some (n + length a)
position_behind [] b c n h =
    let e : n ≡ n + 0 = omega arith in
    cond-true (c == c) (Some n) (position_from (λ byte. byte == c) (n + 1) b) (eq-eqb c c refl) ∙ ap (λ (k : ℕ). let o : Option ℕ = Some k in o) e
position_behind (x ∷ a) b c n h =
    let e : n + 1 + length a ≡ n + length (x ∷ a) = omega arith in
    cond-false (x == c) (Some n) (position_from (λ byte. byte == c) (n + 1) (a ++ c ∷ b)) (ne_eqb x c (head_is_not x c a h))
    ∙ position_behind a b c (n + 1) (tail_has_no x c a h) ∙ ap (λ (k : ℕ). let o : Option ℕ = Some k in o) e

-- an entry's line in its parts
pub line_parts : (e : Entry) → entry_line e ≡ decimal e.proc ++ 32 ∷ (decimal e.pick ++ 32 ∷ (decimal e.worker ++ 10 ∷ []))
line_parts e = regroup (decimal e.proc) (decimal e.pick) (decimal e.worker)
  where
    regroup : (a b c : List ℕ) → a ++ codes " " ++ b ++ codes " " ++ c ++ codes "\n" ≡ a ++ 32 ∷ (b ++ 32 ∷ (c ++ 10 ∷ []))
    regroup a b c = simp append_assoc

pub parts_at : (bytes a b : List ℕ) (c place : ℕ) → bytes ≡ a ++ c ∷ b → place ≡ length a
    → (take place bytes ≡ a) × (take (length bytes - (place + 1)) (drop (place + 1) bytes) ≡ b)
parts_at bytes a b c place e p =
    let size : length bytes ≡ length a + length (c ∷ b) = ap length e ∙ length-append a (c ∷ b) in
    let regrouped : bytes ≡ (a ++ c ∷ []) ++ b = e ∙ sym (append_assoc a (c ∷ []) b) in
    let front : length (a ++ c ∷ []) ≡ place + 1 = omega (arith, length-append a (c ∷ []), p) in
    let rest : drop (place + 1) bytes ≡ b = ap (drop (place + 1)) regrouped ∙ drop_at (a ++ c ∷ []) b (place + 1) front in (
      ap (take place) e ∙ take_at a (c ∷ b) place (sym p),
      ap (λ (v : List ℕ). take (length bytes - (place + 1)) v) rest ∙ take_all (length bytes - (place + 1)) b (omega (arith, size, p)),
    )

-- the digits of an entry's numbers are no space and no line feed
pub proc_has_no : (e : Entry) → IsEntry e → HasNo 32 (decimal e.proc)
proc_has_no e is = let small = is.proc in digits_have_no e.proc 32 (omega arith) (omega arith)

pub pick_has_no : (e : Entry) → IsEntry e → HasNo 32 (decimal e.pick)
pick_has_no e is = let small = is.pick in digits_have_no e.pick 32 (omega arith) (omega arith)

pub worker_has_no : (e : Entry) → IsEntry e → HasNo 10 (decimal e.worker)
worker_has_no e is = let small = is.worker in digits_have_no e.worker 10 (omega arith) (omega arith)

abbrev pub behind_pick : Entry → List ℕ
behind_pick e = decimal e.worker ++ 10 ∷ []

abbrev pub behind_proc : Entry → List ℕ
behind_proc e = decimal e.pick ++ 32 ∷ behind_pick e

pub same_entry : (e : Entry) (proc pick worker : ℕ) → (let o : Option ℕ = Some proc in o) ≡ Some e.proc → (let o : Option ℕ = Some pick in o) ≡ Some e.pick → (let o : Option ℕ = Some worker in o) ≡ Some e.worker
    → (let made : Entry = record { proc = proc; pick = pick; worker = worker } in made) ≡ e
same_entry e proc pick worker a b c =
    let p : proc ≡ e.proc = cc in
    let q : pick ≡ e.pick = cc in
    let w : worker ≡ e.worker = cc in
    rw (p, q, w) refl
