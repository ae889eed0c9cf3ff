-- What a sink got, call after call.
use Rattle.std.proofs.Common.{◌≡◌, ℕ, zero, suc, ◌+◌, ◌-◌, ◌≤◌, List, [], ◌∷◌, ◌++◌, length, take, drop, Option, Some, None, refl, sym, ap, ap₂, ◌∙◌, arith, append_assoc, length-append}
use Rattle.std.proofs.lemmas.List.{length-drop, take-append-le, take-append-drop, take_all, take_at, drop_at}
use Rattle.std.proofs.lemmas.List.Concat.{flat_map-append}
use Rattle.std.specs.List.{flat_map}
use Rattle.al_host.specs.Outside.{Gets, WhereTold}
use Rattle.al_event.specs.declared.entry.Entry.{Entry}
use Rattle.al_trace.specs.Schedule.{first_line, entry_line, schedule_text}
use Rattle.al_trace.specs.Sending.{GetsAll, GetsPart}

pub told_then : {A : Type 0} (P Q R : A → A → Type 0) (o o' o'' : Option A) → ((a b c : A) → P a b → Q b c → R a c)
    → WhereTold P o o' → WhereTold Q o' o'' → WhereTold R o o''
told_then P Q R (Some a) (Some b) (Some c) h p q = h a b c p q
told_then P Q R None None None h p q = tt
told_then P Q R (Some a) (Some b) None h p q = absurd q
told_then P Q R (Some a) None o h p q = absurd p
told_then P Q R None (Some b) o h p q = absurd p
told_then P Q R None None (Some c) h p q = absurd q

pub told_as : {A : Type 0} (P R : A → A → Type 0) (o o' : Option A) → ((a b : A) → P a b → R a b) → WhereTold P o o' → WhereTold R o o'
told_as P R (Some a) (Some b) h p = h a b p
told_as P R None None h p = tt
told_as P R (Some a) None h p = absurd p
told_as P R None (Some b) h p = absurd p

abbrev pub Getting : ℕ → List ℕ → List ℕ → List ℕ → Type 0
Getting n piece before after = after ≡ before ++ take n piece

take_none : {X : Type 0} (n : ℕ) → take {A = X} n [] ≡ []
take_none zero = refl
take_none (suc n) = refl

-- a longer front is a front, and a front of the rest
take-add : {X : Type 0} (m n : ℕ) (xs : List X) → take (m + n) xs ≡ take m xs ++ take n (drop m xs)
take-add zero n xs = let e : 0 + n ≡ n = omega arith in ap (λ (k : ℕ). take k xs) e
take-add (suc m) n [] = take_none (suc m + n) ∙ sym (take_none n)
take-add {X = X} (suc m) n (x ∷ xs) =
    let e : suc m + n ≡ suc (m + n) = omega arith in
    ap (λ (k : ℕ). take k (x ∷ xs)) e ∙ ap (λ (l : List X). x ∷ l) (take-add m n xs)

-- one write more
got_on : (n len : ℕ) (piece a b c : List ℕ) → Getting n piece a b → Gets len (drop n piece) b c → Getting (n + len) piece a c
got_on n len piece a b c e f =
    f ∙ ap (λ (v : List ℕ). v ++ take len (drop n piece)) e ∙ append_assoc a (take n piece) (take len (drop n piece)) ∙ ap (λ (v : List ℕ). a ++ v) (sym (take-add n len piece))

-- the part from a place on, as the code passes it
tail_is : (n : ℕ) (piece : List ℕ) → take (length piece - n) (drop n piece) ≡ drop n piece
tail_is n piece = let e = length-drop n piece in take_all (length piece - n) (drop n piece) (omega (arith, e))

pub told_got : (n len : ℕ) (piece : List ℕ) (o o' o'' : Option (List ℕ))
    → WhereTold (Getting n piece) o o' → WhereTold (Gets len (take (length piece - n) (drop n piece))) o' o'' → WhereTold (Getting (n + len) piece) o o''
told_got n len piece o o' o'' =
    told_then (Getting n piece) (Gets len (take (length piece - n) (drop n piece))) (Getting (n + len) piece) o o' o''
    (λ a b c p q. got_on n len piece a b c p (q ∙ ap (λ (v : List ℕ). b ++ take len v) (tail_is n piece)))

-- ---- pieces one after the other

take_past : (a b c : List ℕ) (n : ℕ) → n ≤ length b → take (length a + n) (a ++ (b ++ c)) ≡ a ++ take n b
take_past a b c n h =
    take-add (length a) n (a ++ (b ++ c))
    ∙ ap₂ (λ (u v : List ℕ). u ++ take n v) (take_at a (b ++ c) (length a) refl) (drop_at a (b ++ c) (length a) refl)
    ∙ ap (λ (v : List ℕ). a ++ v) (take-append-le n b c h)

-- all of one piece and all of the next
pub told_both : (a b : List ℕ) (o o' o'' : Option (List ℕ)) → WhereTold (GetsAll a) o o' → WhereTold (GetsAll b) o' o'' → WhereTold (GetsAll (a ++ b)) o o''
told_both a b o o' o'' =
    told_then (GetsAll a) (GetsAll b) (GetsAll (a ++ b)) o o' o''
    (λ x y z p q. q ∙ ap (λ (v : List ℕ). v ++ b) p ∙ append_assoc x a b)

part_on : (a b c x y z : List ℕ) → GetsAll a x y → GetsPart b y z → GetsPart (a ++ (b ++ c)) x z
part_on a b c x y z p q =
    let len = length-append a (b ++ c) in let len2 = length-append b c in let few = q.1 in (
      length a + q.0,
      omega (arith, len, len2, few),
      q.2 ∙ ap (λ (v : List ℕ). v ++ take q.0 b) p ∙ append_assoc x a (take q.0 b) ∙ ap (λ (v : List ℕ). x ++ v) (sym (take_past a b c q.0 few)),
    )

-- all of one piece and a part of the next, which more would follow
pub told_part : (a b c : List ℕ) (o o' o'' : Option (List ℕ)) → WhereTold (GetsAll a) o o' → WhereTold (GetsPart b) o' o'' → WhereTold (GetsPart (a ++ (b ++ c))) o o''
told_part a b c o o' o'' =
    told_then (GetsAll a) (GetsPart b) (GetsPart (a ++ (b ++ c))) o o' o''
    (λ x y z p q. part_on a b c x y z p q)

part_more : (b c y z : List ℕ) → GetsPart b y z → GetsPart (b ++ c) y z
part_more b c y z q =
    let len = length-append b c in let few = q.1 in
    (q.0, omega (arith, len, few), q.2 ∙ ap (λ (v : List ℕ). y ++ v) (sym (take-append-le q.0 b c few)))

pub told_part_more : (b c : List ℕ) (o o' : Option (List ℕ)) → WhereTold (GetsPart b) o o' → WhereTold (GetsPart (b ++ c)) o o'
told_part_more b c o o' = told_as (GetsPart b) (GetsPart (b ++ c)) o o' (λ y z q. part_more b c y z q)

-- ---- the lines of a schedule

abbrev lines : List Entry → List ℕ
lines h = flat_map entry_line h

-- the text up to a place further on
pub text_more : (h : List Entry) (i n : ℕ) → schedule_text (take (i + n) h) ≡ schedule_text (take i h) ++ flat_map entry_line (take n (drop i h))
text_more h i n =
    ap schedule_text (take-add i n h)
    ∙ ap (λ (v : List ℕ). first_line ++ v) (flat_map-append entry_line (take i h) (take n (drop i h)))
    ∙ sym (append_assoc first_line (lines (take i h)) (lines (take n (drop i h))))

-- the text up to a place, the lines from there on, and those after them
pub text_parts : (h : List Entry) (i n : ℕ)
    → schedule_text h ≡ schedule_text (take i h) ++ (flat_map entry_line (take n (drop i h)) ++ flat_map entry_line (drop n (drop i h)))
text_parts h i n =
    ap schedule_text (sym (take-append-drop i h) ∙ ap (λ (v : List Entry). take i h ++ v) (sym (take-append-drop n (drop i h))))
    ∙ ap (λ (v : List ℕ). first_line ++ v) (flat_map-append entry_line (take i h) (take n (drop i h) ++ drop n (drop i h))
    ∙ ap (λ (v : List ℕ). lines (take i h) ++ v) (flat_map-append entry_line (take n (drop i h)) (drop n (drop i h))))
    ∙ sym (append_assoc first_line (lines (take i h)) (lines (take n (drop i h)) ++ lines (drop n (drop i h))))

pub text_to : (h : List Entry) (i j : ℕ) → i ≤ j → schedule_text (take j h) ≡ schedule_text (take i h) ++ flat_map entry_line (take (j - i) (drop i h))
text_to h i j le =
    let e : j ≡ i + (j - i) = omega arith in
    ap (λ (k : ℕ). schedule_text (take k h)) e ∙ text_more h i (j - i)
