-- Lines that are skipped.
use Rattle.std.proofs.Common.{◌≡◌, ◌≢◌, ℕ, suc, ◌+◌, ◌-◌, ◌≤◌, nat_eq, nat_lt, Bool, true, false, ◌&&◌, if◌then◌else◌, List, [], ◌∷◌, ◌++◌, length, drop, Some, None, option_and_then, codes, refl, sym, ap, ◌∙◌, subst, arith, append_assoc, length-append}
use Rattle.std.proofs.lemmas.Grind.{common_steps}
use Rattle.std.proofs.lemmas.List.{drop_at}
use Rattle.std.specs.List.{list_all, prefix_len, take_while, starts_with}
use Rattle.al_lex.specs.declared.kind.PieceKind.TheVariants as p
use Rattle.al_lex.specs.Bytes.{line_feed, quote, is_space, is_digit, is_file_byte}
use Rattle.al_lex.specs.Pieces.{IsGap, IsOrigin, origin, IsDirective, include, line_of, origin_of, EndsLine, text_ends, line_ends, skipped}
use Rattle.al_lex.specs.Scan.{first_is, behind, behind_some, behind_name, behind_line, behind_include, behind_origin, or_else, behind_directive, directive_found, scan_directive, ends_line, Left}
use Rattle.al_lex.proofs.Answers.{IsSound, piece, nothing, Covers, longer}
use Rattle.al_lex.proofs.Runs.{both, run_all, run_within, run_exact, cut_run, choose_by, by_bool, if_true, if_false, equal, some_true, some_is}
use Rattle.al_lex.proofs.Tables.{not_both, first_cons, front_is, front_true}

-- ---- a skipped line is found

behind_front : (u r : List ℕ) → behind u (u ++ r) ≡ Some r
behind_front u r = if_true (starts_with nat_eq (u ++ r) u) _ _ (front_true u r) ∙ ap Some (drop_at u r (length u) refl)

-- behind a run, before a byte that ends it
run_behind : (p : ℕ → Bool) (u : List ℕ) (b : ℕ) (r : List ℕ) → 1 ≤ length u → list_all p u ≡ true → p b ≡ false → behind_some p (u ++ b ∷ r) ≡ Some (b ∷ r)
run_behind p u b r some h f =
    let n = run_exact p u b r h f in
    if_true (nat_lt 0 (prefix_len p (u ++ b ∷ r))) _ _ (some_true _ (omega (arith, n))) ∙ ap (λ m. Some (drop m (u ++ b ∷ r))) n ∙ ap Some (drop_at u (b ∷ r) (length u) refl)

name_behind : (name r : List ℕ) → list_all is_file_byte name ≡ true → behind_name (quote ∷ (name ++ quote ∷ r)) ≡ Some r
name_behind name r h =
    let n : 1 + prefix_len is_file_byte (name ++ quote ∷ r) ≡ suc (length name) = omega (arith, run_exact is_file_byte name quote r h refl) in
    let left : drop (1 + prefix_len is_file_byte (name ++ quote ∷ r)) (quote ∷ (name ++ quote ∷ r)) ≡ quote ∷ r = ap (λ m. drop m (quote ∷ (name ++ quote ∷ r))) n ∙ drop_at name (quote ∷ r) (length name) refl in
    ap (λ l. if true && first_is quote l then Some (drop 1 l) else None) left

ends_true : {rest : List ℕ} → EndsLine rest → ends_line rest ≡ true
ends_true text_ends = refl
ends_true line_ends = refl

line_behind : (end : List ℕ) {rest : List ℕ} → list_all is_space end ≡ true → EndsLine rest → behind_line (end ++ rest) ≡ Some rest
line_behind end h e = go e
  where
    left : (rest : List ℕ) → prefix_len is_space (end ++ rest) ≡ length end → ends_line rest ≡ true → behind_line (end ++ rest) ≡ Some rest
    left rest n t =
        let d : drop (prefix_len is_space (end ++ rest)) (end ++ rest) ≡ rest = ap (λ m. drop m (end ++ rest)) n ∙ drop_at end rest (length end) refl in
        ap (λ l. if ends_line l then Some l else None) d ∙ if_true (ends_line rest) _ _ t

    all : (u : List ℕ) → list_all is_space u ≡ true → prefix_len is_space (u ++ []) ≡ length u
    all [] h = refl
    all (b ∷ bs) h = let s = both (is_space b) (list_all is_space bs) h in if_true (is_space b) _ _ s.0 ∙ ap (λ n. 1 + n) (all bs s.1) ∙ omega arith

    go : {rest : List ℕ} → EndsLine rest → behind_line (end ++ rest) ≡ Some rest
    go text_ends = left [] (all end h) refl
    go (line_ends {rest = rest}) = left (line_feed ∷ rest) (run_exact is_space end line_feed rest h refl) refl

include_behind : (s end : List ℕ) {rest : List ℕ} → IsGap s → list_all is_space end ≡ true → EndsLine rest → behind_include (codes "#include" ++ (s ++ (codes "<alef.h>" ++ (end ++ rest)))) ≡ Some rest
unfolding behind_include
include_behind s end {rest} g h e =
    let after = codes "<alef.h>" ++ (end ++ rest) in
    ap (λ o. option_and_then behind_line (option_and_then (behind (codes "<alef.h>")) (option_and_then (behind_some is_space) o))) (behind_front (codes "#include") (s ++ after))
    ∙ ap (λ o. option_and_then behind_line (option_and_then (behind (codes "<alef.h>")) o)) (run_behind is_space s 60 (drop 1 after) g.some g.spaces refl)
    ∙ ap (option_and_then behind_line) (behind_front (codes "<alef.h>") (end ++ rest))
    ∙ line_behind end h e

digit_no_space : (b : ℕ) → is_digit b ≡ true → is_space b ≡ false
digit_no_space b h = grind (arith, common_steps)

space_no_digit : (b : ℕ) → is_space b ≡ true → is_digit b ≡ false
space_no_digit b h = grind (arith, common_steps)

-- a gap before digits
gap_behind : (s ds : List ℕ) (r : List ℕ) → IsGap s → 1 ≤ length ds → list_all is_digit ds ≡ true → behind_some is_space (s ++ (ds ++ r)) ≡ Some (ds ++ r)
gap_behind s [] r g some h = absurd (omega arith)
gap_behind s (d ∷ ds) r g some h = run_behind is_space s d (ds ++ r) g.some g.spaces (digit_no_space d (both (is_digit d) (list_all is_digit ds) h).0)

-- digits before a gap
digits_behind : (ds s : List ℕ) (r : List ℕ) → 1 ≤ length ds → list_all is_digit ds ≡ true → IsGap s → behind_some is_digit (ds ++ (s ++ r)) ≡ Some (s ++ r)
digits_behind ds s r some h g = go s g.some g.spaces
  where
    go : (s : List ℕ) → 1 ≤ length s → list_all is_space s ≡ true → behind_some is_digit (ds ++ (s ++ r)) ≡ Some (s ++ r)
    go [] l a = absurd (omega arith)
    go (b ∷ bs) l a = run_behind is_digit ds b (bs ++ r) some h (space_no_digit b (both (is_space b) (list_all is_space bs) a).0)

origin_behind : (head s : List ℕ) {o : List ℕ} (end : List ℕ) {rest : List ℕ} → IsGap s → IsOrigin o → list_all is_space end ≡ true → EndsLine rest → behind_origin head (head ++ (s ++ (o ++ (end ++ rest)))) ≡ Some rest
unfolding behind_origin
origin_behind head s end {rest} g (origin ds t name some digits gap bytes) h e =
    let last = end ++ rest in
    let named = quote ∷ (name ++ quote ∷ last) in
    let cut : (ds ++ (t ++ (quote ∷ (name ++ quote ∷ [])))) ++ last ≡ ds ++ (t ++ named) =
    append_assoc ds (t ++ (quote ∷ (name ++ quote ∷ []))) last ∙ ap (λ l. ds ++ l) (append_assoc t (quote ∷ (name ++ quote ∷ [])) last ∙ ap (λ l. t ++ (quote ∷ l)) (append_assoc name (quote ∷ []) last)) in
    let space = option_and_then (behind_some is_space) in
    ap (λ l. option_and_then behind_line (option_and_then behind_name (space (option_and_then (behind_some is_digit) (space (behind head (head ++ (s ++ l)))))))) cut
    ∙ ap (λ o. option_and_then behind_line (option_and_then behind_name (space (option_and_then (behind_some is_digit) (space o))))) (behind_front head (s ++ (ds ++ (t ++ named))))
    ∙ ap (λ o. option_and_then behind_line (option_and_then behind_name (space (option_and_then (behind_some is_digit) o)))) (gap_behind s ds (t ++ named) g some digits)
    ∙ ap (λ o. option_and_then behind_line (option_and_then behind_name (space o))) (digits_behind ds t named some digits gap)
    ∙ ap (λ o. option_and_then behind_line (option_and_then behind_name o)) (run_behind is_space t quote (name ++ quote ∷ last) gap.some gap.spaces refl)
    ∙ ap (option_and_then behind_line) (name_behind name last bytes)
    ∙ line_behind end h e

second_apart : (b : ℕ) (bs : List ℕ) (c : ℕ) (u : List ℕ) → b ≢ c → behind (35 ∷ (c ∷ u)) (35 ∷ (b ∷ bs)) ≡ None
second_apart b bs c u h =
    by_bool (starts_with nat_eq (35 ∷ (b ∷ bs)) (35 ∷ (c ∷ u)))
    (λ t. let e = front_is (35 ∷ (b ∷ bs)) (35 ∷ (c ∷ u)) t in let x : b ≡ c = cc in absurd (h x))
    (λ f. if_false (starts_with nat_eq (35 ∷ (b ∷ bs)) (35 ∷ (c ∷ u))) _ _ f)

no_include : (b : ℕ) (bs : List ℕ) → b ≢ 105 → behind_include (35 ∷ (b ∷ bs)) ≡ None
unfolding behind_include
no_include b bs h = ap (λ o. option_and_then behind_line (option_and_then (behind (codes "<alef.h>")) (option_and_then (behind_some is_space) o))) (second_apart b bs 105 (codes "nclude") h)

no_line : (b : ℕ) (bs : List ℕ) → b ≢ 108 → behind_origin (codes "#line") (35 ∷ (b ∷ bs)) ≡ None
unfolding behind_origin
no_line b bs h = ap (λ o. option_and_then behind_line (option_and_then behind_name (option_and_then (behind_some is_space) (option_and_then (behind_some is_digit) (option_and_then (behind_some is_space) o))))) (second_apart b bs 108 (codes "ine") h)

space_apart : (b x : ℕ) → is_space b ≡ true → is_space x ≡ false → b ≢ x
space_apart b x h f e = not_both (is_space x) (subst (λ (y : ℕ). is_space y ≡ true) e h) f

directive_behind : {u : List ℕ} → IsDirective u → {rest : List ℕ} → EndsLine rest → behind_directive (u ++ rest) ≡ Some rest
directive_behind (include s end g h) {rest} e =
    let cut : (codes "#include" ++ (s ++ (codes "<alef.h>" ++ end))) ++ rest ≡ codes "#include" ++ (s ++ (codes "<alef.h>" ++ (end ++ rest))) = ap (λ l. codes "#include" ++ l) (append_assoc s (codes "<alef.h>" ++ end) rest) in
    ap behind_directive cut ∙ ap (λ o. or_else o (or_else (behind_origin (codes "#line") (codes "#include" ++ (s ++ (codes "<alef.h>" ++ (end ++ rest))))) (behind_origin (codes "#") (codes "#include" ++ (s ++ (codes "<alef.h>" ++ (end ++ rest))))))) (include_behind s end g h e)
directive_behind (line_of s {o = o} end g d h) {rest} e =
    let ts = codes "#line" ++ (s ++ (o ++ (end ++ rest))) in
    let cut : (codes "#line" ++ (s ++ (o ++ end))) ++ rest ≡ ts = ap (λ l. codes "#line" ++ l) (append_assoc s (o ++ end) rest ∙ ap (λ l. s ++ l) (append_assoc o end rest)) in
    ap behind_directive cut ∙ ap (λ x. or_else x (or_else (behind_origin (codes "#line") ts) (behind_origin (codes "#") ts))) (no_include 108 (drop 2 ts) (λ x. absurd (omega (arith, x))))
    ∙ ap (λ x. or_else x (behind_origin (codes "#") ts)) (origin_behind (codes "#line") s end g d h e)
directive_behind (origin_of s {o = o} end g d h) {rest} e = ap behind_directive cut ∙ alone s g (origin_behind (codes "#") s end g d h e)
  where
    cut : (codes "#" ++ (s ++ (o ++ end))) ++ rest ≡ codes "#" ++ (s ++ (o ++ (end ++ rest)))
    cut = ap (λ l. codes "#" ++ l) (append_assoc s (o ++ end) rest ∙ ap (λ l. s ++ l) (append_assoc o end rest))

    alone : (s : List ℕ) → IsGap s → behind_origin (codes "#") (codes "#" ++ (s ++ (o ++ (end ++ rest)))) ≡ Some rest → behind_directive (codes "#" ++ (s ++ (o ++ (end ++ rest)))) ≡ Some rest
    alone [] g x = absurd (omega (arith, g.some))
    alone (b ∷ bs) g x =
        let ts = codes "#" ++ ((b ∷ bs) ++ (o ++ (end ++ rest))) in
        let sp = (both (is_space b) (list_all is_space bs) g.spaces).0 in
        ap (λ y. or_else y (or_else (behind_origin (codes "#line") ts) (behind_origin (codes "#") ts))) (no_include b (bs ++ (o ++ (end ++ rest))) (space_apart b 105 sp refl))
        ∙ ap (λ y. or_else y (behind_origin (codes "#") ts)) (no_line b (bs ++ (o ++ (end ++ rest))) (space_apart b 108 sp refl))
        ∙ x

pub directive_covers : {u : List ℕ} → IsDirective u → (rest : List ℕ) → EndsLine rest → Covers p.Skipped u (scan_directive true (u ++ rest))
directive_covers {u} d rest e =
    subst (λ (o : Left). Covers p.Skipped u (directive_found (u ++ rest) o)) (sym (directive_behind d e))
    (longer p.Skipped (length (u ++ rest) - length rest) (omega (arith, length-append u rest)) (λ _. refl))

-- ---- what is found is a skipped line

behind_is : (u ts r : List ℕ) → behind u ts ≡ Some r → ts ≡ u ++ r
behind_is u ts r h = by_bool (starts_with nat_eq ts u)
    (λ t. let e = sym (if_true (starts_with nat_eq ts u) (Some (drop (length u) ts)) None t) ∙ h in let s : drop (length u) ts ≡ r = cc in front_is ts u t ∙ ap (λ l. u ++ l) s)
    (λ f. let e = sym (if_false (starts_with nat_eq ts u) (Some (drop (length u) ts)) None f) ∙ h in absurd (let x : ⊥ = cc in x))

record RunIs (test : ℕ → Bool) (ts r : List ℕ) : Type 0 where
  front : List ℕ
  cut : ts ≡ front ++ r
  some : 1 ≤ length front
  all : list_all test front ≡ true

run_is : (test : ℕ → Bool) (ts r : List ℕ) → behind_some test ts ≡ Some r → RunIs test ts r
run_is test ts r h = by_bool (nat_lt 0 n)
    (λ t. let e = sym (if_true (nat_lt 0 n) (Some (drop n ts)) None t) ∙ h in let s : drop n ts ≡ r = cc in
    record { front = take_while test ts; cut = cut_run test ts ∙ ap (λ l. take_while test ts ++ l) s; some = omega (arith, some_is n t, run_within test ts); all = run_all test ts })
    (λ f. let e = sym (if_false (nat_lt 0 n) (Some (drop n ts)) None f) ∙ h in absurd (let x : ⊥ = cc in x))
  where
    n : ℕ
    n = prefix_len test ts

record NameIs (ts r : List ℕ) : Type 0 where
  name : List ℕ
  cut : ts ≡ quote ∷ (name ++ quote ∷ r)
  all : list_all is_file_byte name ≡ true

name_is : (ts r : List ℕ) → behind_name ts ≡ Some r → NameIs ts r
name_is ts r h = by_bool (first_is quote ts && first_is quote left)
    (λ t.
    let e = sym (if_true (first_is quote ts && first_is quote left) (Some (drop 1 left)) None t) ∙ h in
    let s : drop 1 left ≡ r = cc in
    let q = both (first_is quote ts) (first_is quote left) t in
    let head = first_cons quote ts q.0 in
    let last = first_cons quote left q.1 ∙ ap (λ l. quote ∷ l) s in
    let bs = drop 1 ts in
    let n = prefix_len is_file_byte bs in
    let dropped : left ≡ drop n bs = ap (drop (1 + n)) head ∙ ap (λ m. drop m (quote ∷ bs)) (let k : 1 + n ≡ suc n = omega arith in k) in
    record { name = take_while is_file_byte bs; cut = head ∙ ap (λ l. quote ∷ l) (cut_run is_file_byte bs ∙ ap (λ l. take_while is_file_byte bs ++ l) (sym dropped ∙ last)); all = run_all is_file_byte bs })
    (λ f. let e = sym (if_false (first_is quote ts && first_is quote left) (Some (drop 1 left)) None f) ∙ h in absurd (let x : ⊥ = cc in x))
  where
    left : List ℕ
    left = drop (1 + prefix_len is_file_byte (drop 1 ts)) ts

record LineIs (ts r : List ℕ) : Type 0 where
  end : List ℕ
  cut : ts ≡ end ++ r
  all : list_all is_space end ≡ true
  ends : EndsLine r

ends_is : (r : List ℕ) → ends_line r ≡ true → EndsLine r
ends_is [] h = text_ends
ends_is (b ∷ bs) h = subst (λ (x : ℕ). EndsLine (x ∷ bs)) (sym (equal b line_feed h)) line_ends

line_is : (ts r : List ℕ) → behind_line ts ≡ Some r → LineIs ts r
line_is ts r h = by_bool (ends_line left)
    (λ t. let e = sym (if_true (ends_line left) (Some left) None t) ∙ h in let s : left ≡ r = cc in
    record { end = take_while is_space ts; cut = cut_run is_space ts ∙ ap (λ l. take_while is_space ts ++ l) s; all = run_all is_space ts; ends = subst EndsLine s (ends_is left t) })
    (λ f. let e = sym (if_false (ends_line left) (Some left) None f) ∙ h in absurd (let x : ⊥ = cc in x))
  where
    left : List ℕ
    left = drop (prefix_len is_space ts) ts

record Then (f : List ℕ → Left) (o : Left) (y : List ℕ) : Type 0 where
  between : List ℕ
  first : o ≡ Some between
  second : f between ≡ Some y

then_some : (f : List ℕ → Left) (o : Left) (y : List ℕ) → option_and_then f o ≡ Some y → Then f o y
then_some f None y h = absurd (let x : ⊥ = cc in x)
then_some f (Some x) y h = record { between = x; first = refl; second = h }

record DirectiveIs (ts r : List ℕ) : Type 0 where
  front : List ℕ
  cut : ts ≡ front ++ r
  is : IsDirective front
  ends : EndsLine r

include_is : (ts r : List ℕ) → behind_include ts ≡ Some r → DirectiveIs ts r
unfolding behind_include
include_is ts r h =
    let a = then_some behind_line _ r h in
    let b = then_some (behind (codes "<alef.h>")) _ a.between a.first in
    let c = then_some (behind_some is_space) _ b.between b.first in
    let line = line_is a.between r a.second in
    let mark = behind_is (codes "<alef.h>") b.between a.between b.second in
    let gap = run_is is_space c.between b.between c.second in
    let head = behind_is (codes "#include") ts c.between c.first in
    record {
      front = codes "#include" ++ (gap.front ++ (codes "<alef.h>" ++ line.end));
      cut = head ∙ ap (λ l. codes "#include" ++ l) (gap.cut ∙ ap (λ l. gap.front ++ l) (mark ∙ ap (λ l. codes "<alef.h>" ++ l) line.cut) ∙ sym (append_assoc gap.front (codes "<alef.h>" ++ line.end) r));
      is = include gap.front line.end (record { some = gap.some; spaces = gap.all }) line.all;
      ends = line.ends;
    }

-- what stands behind the head of a line that says where its text comes from
record OriginIs (head ts r : List ℕ) : Type 0 where
  gap : List ℕ
  part : List ℕ
  end : List ℕ
  cut : ts ≡ head ++ (gap ++ (part ++ (end ++ r)))
  is_gap : IsGap gap
  is : IsOrigin part
  all : list_all is_space end ≡ true
  ends : EndsLine r

origin_is : (head ts r : List ℕ) → behind_origin head ts ≡ Some r → OriginIs head ts r
unfolding behind_origin
origin_is head ts r h =
    let a = then_some behind_line _ r h in
    let b = then_some behind_name _ a.between a.first in
    let c = then_some (behind_some is_space) _ b.between b.first in
    let d = then_some (behind_some is_digit) _ c.between c.first in
    let e = then_some (behind_some is_space) _ d.between d.first in
    let line = line_is a.between r a.second in
    let named = name_is b.between a.between b.second in
    let space = run_is is_space c.between b.between c.second in
    let number = run_is is_digit d.between c.between d.second in
    let gap = run_is is_space e.between d.between e.second in
    let first = behind_is head ts e.between e.first in
    let quoted = quote ∷ (named.name ++ quote ∷ []) in
    let last : b.between ≡ quoted ++ (line.end ++ r) = named.cut ∙ ap (λ l. quote ∷ l) (ap (λ l. named.name ++ quote ∷ l) line.cut ∙ sym (append_assoc named.name (quote ∷ []) (line.end ++ r))) in
    let part = number.front ++ (space.front ++ quoted) in
    let joined : d.between ≡ part ++ (line.end ++ r) =
    number.cut ∙ ap (λ l. number.front ++ l) (space.cut ∙ ap (λ l. space.front ++ l) last ∙ sym (append_assoc space.front quoted (line.end ++ r))) ∙ sym (append_assoc number.front (space.front ++ quoted) (line.end ++ r)) in
    record {
      gap = gap.front;
      part = part;
      end = line.end;
      cut = first ∙ ap (λ l. head ++ l) (gap.cut ∙ ap (λ l. gap.front ++ l) joined);
      is_gap = record { some = gap.some; spaces = gap.all };
      is = origin number.front space.front named.name number.some number.all (record { some = space.some; spaces = space.all }) named.all;
      all = line.all;
      ends = line.ends;
    }

whole : (head : List ℕ) (ts r : List ℕ) → ((s o end : List ℕ) → IsGap s → IsOrigin o → list_all is_space end ≡ true → IsDirective (head ++ (s ++ (o ++ end)))) → OriginIs head ts r → DirectiveIs ts r
whole head ts r made d = record {
  front = head ++ (d.gap ++ (d.part ++ d.end));
  cut = d.cut ∙ ap (λ l. head ++ l) (ap (λ l. d.gap ++ l) (sym (append_assoc d.part d.end r)) ∙ sym (append_assoc d.gap (d.part ++ d.end) r)) ∙ sym (append_assoc head (d.gap ++ (d.part ++ d.end)) r);
  is = made d.gap d.part d.end d.is_gap d.is d.all;
  ends = d.ends;
}

directive_is : (ts r : List ℕ) → behind_directive ts ≡ Some r → DirectiveIs ts r
directive_is ts r h = go (behind_include ts) refl h
  where
    last : (o : Left) → behind_origin (codes "#line") ts ≡ o → or_else o (behind_origin (codes "#") ts) ≡ Some r → DirectiveIs ts r
    last None e h = whole (codes "#") ts r (λ s o end g d a. origin_of s end g d a) (origin_is (codes "#") ts r h)
    last (Some x) e h = whole (codes "#line") ts r (λ s o end g d a. line_of s end g d a) (origin_is (codes "#line") ts r (e ∙ h))

    go : (o : Left) → behind_include ts ≡ o → or_else o (or_else (behind_origin (codes "#line") ts) (behind_origin (codes "#") ts)) ≡ Some r → DirectiveIs ts r
    go None e h = last (behind_origin (codes "#line") ts) refl h
    go (Some x) e h = include_is ts r (e ∙ h)

pub directive_sound : (fresh : Bool) (ts : List ℕ) → IsSound fresh ts (scan_directive fresh ts)
directive_sound fresh ts = choose_by (IsSound fresh ts) fresh _ _ (λ t. go t (behind_directive ts) refl) (λ _. nothing)
  where
    go : fresh ≡ true → (o : Left) → behind_directive ts ≡ o → IsSound fresh ts (directive_found ts o)
    go t None e = nothing
    go t (Some r) e =
        let d = directive_is ts r e in
        piece p.Skipped (length ts - length r) d.front r d.cut (omega (arith, ap length d.cut, length-append d.front r)) (skipped t d.is d.ends)
