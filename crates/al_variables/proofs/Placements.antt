-- Where locals, globals and strings stand.
use Rattle.std.proofs.Common.{◌≡◌, ℕ, suc, ◌+◌, ◌<◌, ◌≤◌, min, List, [], ◌∷◌, ◌++◌, map, take, drop, length, get_or, refl, sym, ap, ap₂, ◌∙◌, append_assoc, arith}
use Rattle.std.specs.Prelude.{Bool, true, cond, filter, fold, slice_index}
use Rattle.std.proofs.lemmas.List.{drop_min, drop_more, length-map, map-append, take-append-drop, take-map, take_all, take_min}
use Rattle.std.proofs.lemmas.List.Elements.{filter-append}
use Rattle.std.proofs.lemmas.List.Sums.{fold-append}
use Rattle.al_event.specs.Store.{region_base}
use Rattle.al_typed.proofs.CappedLemmas.{capped-add, capped-rounded}
use Rattle.al_typed.specs.declared.program.Aggregate.{Aggregate}
use Rattle.al_typed.specs.declared.program.Global.{Global}
use Rattle.al_typed.specs.declared.program.Local.{Local}
use Rattle.al_typed.specs.declared.program.Program.{Program}
use Rattle.al_typed.specs.Capped.{capped}
use Rattle.al_typed.specs.Layout.{Layout, layout, offsets_from, rounded, size_of}
use Rattle.al_typed.specs.WellTyped.{shared_types}
use Rattle.al_meaning.specs.Places.{behind, block_sizes, global_place, is_shared_global, local_offset, text_place}
use Rattle.al_variables.specs.Placing.{placed, end_of, first_of, behind_all}

-- ---- shared locals

shared-append : (a b : List Local) → shared_types (a ++ b) ≡ shared_types a ++ shared_types b
shared-append a b =
    ap (map (λ (l : Local). l.ty)) (filter-append (λ (l : Local). l.is_shared) a b)
    ∙ map-append (λ (l : Local). l.ty) (filter (λ (l : Local). l.is_shared) a) (filter (λ (l : Local). l.is_shared) b)

layouts-append : (rows : List Aggregate) (a b : List Local)
    → map (layout rows) (shared_types (a ++ b)) ≡ map (layout rows) (shared_types a) ++ map (layout rows) (shared_types b)
layouts-append rows a b = ap (map (layout rows)) (shared-append a b) ∙ map-append (layout rows) (shared_types a) (shared_types b)

-- the offsets of what stands behind others
offsets_behind : (at : ℕ) (ls ms : List Layout) → slice_index (offsets_from at (ls ++ ms)) (length ls) ≡ slice_index (offsets_from (fold placed at ls) ms) 0
offsets_behind at [] ms = refl
offsets_behind at (l ∷ ls) ms = offsets_behind (placed at l) ls ms

offset_is : (p : Program) (locals : List Local) (number : ℕ)
    → local_offset p locals number ≡ first_of p.aggregates (end_of p.aggregates 0 (take number locals)) (drop number locals)
offset_is p locals number =
    let rows = p.aggregates in
    let before = take number locals in
    let rest = drop number locals in
    let ls = map (layout rows) (shared_types before) in
    let ms = map (layout rows) (shared_types rest) in
    ap (λ xs. slice_index (offsets_from 0 (map (layout rows) (shared_types xs))) (length (shared_types before))) (sym (take-append-drop number locals))
    ∙ ap₂ (λ xs k. slice_index (offsets_from 0 xs) k) (layouts-append rows before rest) (sym (length-map (shared_types before) (layout rows)))
    ∙ offsets_behind 0 ls ms

pub offset_cut : (p : Program) (locals front back : List Local) (number k offset : ℕ) → k ≡ min number (length locals)
    → front ≡ take k locals → back ≡ drop k locals
    → offset ≡ capped (first_of p.aggregates (end_of p.aggregates 0 front) back) → offset ≡ capped (local_offset p locals number)
offset_cut p locals front back number k offset cut f b is =
    is
    ∙ ap₂ (λ xs ys. capped (first_of p.aggregates (end_of p.aggregates 0 xs) ys))
    (f ∙ ap (λ n. take n locals) cut ∙ take_min number locals)
    (b ∙ ap (λ n. drop n locals) cut ∙ drop_min number locals)
    ∙ ap capped (sym (offset_is p locals number))

-- one more, with numbers that are capped
pub shared_more : (rows : List Aggregate) (at end size align new : ℕ) (l : Local) → l.is_shared ≡ true → end ≡ capped at
    → align ≡ (layout rows l.ty).align → 1 ≤ align → size ≡ capped (layout rows l.ty).size
    → new ≡ capped (capped (rounded end align) + size) → new ≡ capped (end_of rows at (l ∷ []))
shared_more rows at end size align new l e is a pos s n =
    n
    ∙ ap (λ k. capped (capped (rounded k align) + size)) is
    ∙ ap (λ k. capped (k + size)) (capped-rounded at align pos)
    ∙ ap (λ k. capped (capped (rounded at align) + k)) s
    ∙ capped-add (rounded at align) (layout rows l.ty).size
    ∙ ap (λ k. capped (rounded at k + (layout rows l.ty).size)) a
    ∙ ap (λ (b : Bool). capped (fold placed at (map (layout rows) (map (λ (l : Local). l.ty) (cond b (l ∷ []) []))))) (sym e)

first_one : (rows : List Aggregate) (at : ℕ) (l : Local) (rest : List Local) → l.is_shared ≡ true → first_of rows at (l ∷ rest) ≡ rounded at (layout rows l.ty).align
first_one rows at l rest e =
    ap (λ (b : Bool).
    slice_index
    (offsets_from at
    (map (layout rows) (map (λ (l : Local). l.ty) (cond b (l ∷ filter (λ (l : Local). l.is_shared) rest) (filter (λ (l : Local). l.is_shared) rest)))))
    0)
    e

pub first_here : (rows : List Aggregate) (at end align new : ℕ) (ls : List Local) (i : ℕ) (l : Local) → i < length ls → l ≡ get_or ls i l
    → l.is_shared ≡ true → end ≡ capped at → align ≡ (layout rows l.ty).align → 1 ≤ align → new ≡ capped (rounded end align)
    → first_of rows at ls ≡ first_of rows at (drop i ls) → new ≡ capped (first_of rows at ls)
first_here rows at end align new ls i l h is e end_is a pos n so_far =
    n
    ∙ ap (λ k. capped (rounded k align)) end_is
    ∙ capped-rounded at align pos
    ∙ ap (λ k. capped (rounded at k)) a
    ∙ ap capped
    (sym
    (so_far ∙ ap (first_of rows at) (drop_more ls i l h ∙ ap (λ x. x ∷ drop (i + 1) ls) (sym is)) ∙ first_one rows at l (drop (i + 1) ls) e))

-- ---- blocks of globals and strings

-- the first of what stands before others
taken : {A : Type 0} (f : A → ℕ) (front : List A) (rest : List ℕ) → take (length front) (map f front ++ rest) ≡ map f front
taken f [] rest = refl
taken f (x ∷ xs) rest = ap (λ ys. f x ∷ ys) (taken f xs rest)

taken_past : {A : Type 0} (f : A → ℕ) (front : List A) (n : ℕ) (rest : List ℕ) → take (length front + n) (map f front ++ rest) ≡ map f front ++ take n rest
taken_past f [] n rest = ap (λ k. take k rest) (omega arith)
taken_past f (x ∷ xs) n rest =
    ap (λ k. take k (f x ∷ (map f xs ++ rest))) (next (length xs)) ∙ ap (λ ys. f x ∷ ys) (taken_past f xs n rest)
  where
    next : (k : ℕ) → suc k + n ≡ suc (k + n)
    next k = omega arith

abbrev pub text_size : List ℕ → ℕ
text_size s = length s + 1

global_is : (p : Program) (number : ℕ) → global_place p number ≡ behind_all p.aggregates region_base (take number p.globals)
global_is p number =
    let size = λ (g : Global). size_of p.aggregates g.ty in
    let front = filter is_shared_global (take number p.globals) in
    let back = filter is_shared_global (drop number p.globals) in
    let texts = map text_size p.strings in
    let all : filter is_shared_global p.globals ≡ front ++ back =
    ap (filter is_shared_global) (sym (take-append-drop number p.globals)) ∙ filter-append is_shared_global (take number p.globals) (drop number p.globals)
    in
    ap (fold behind region_base)
    (ap (λ gs. take (length front) (map size gs ++ texts)) all
    ∙ ap (λ ss. take (length front) (ss ++ texts)) (map-append size front back)
    ∙ ap (take (length front)) (append_assoc (map size front) (map size back) texts)
    ∙ taken size front (map size back ++ texts))

pub globals_cut : (p : Program) (rows : List Aggregate) (all before : List Global) (number k i at : ℕ) → rows ≡ p.aggregates → all ≡ p.globals
    → k ≡ min number (length all) → before ≡ take k all → length before ≤ i → at ≡ capped (behind_all rows region_base (take i before))
    → at ≡ capped (global_place p number)
globals_cut p rows all before number k i at r a cut f past is =
    is
    ∙ ap₂ (λ rs gs. capped (behind_all rs region_base gs)) r
    (take_all i before past ∙ f ∙ ap (λ n. take n all) cut ∙ take_min number all ∙ ap (take number) a)
    ∙ ap capped (sym (global_is p number))

text_is : (p : Program) (number : ℕ) → text_place p number ≡ fold behind (global_place p (length p.globals)) (map text_size (take number p.strings))
text_is p number =
    let size = λ (g : Global). size_of p.aggregates g.ty in
    let shared = filter is_shared_global p.globals in
    let whole : take (length p.globals) p.globals ≡ p.globals = take_all (length p.globals) p.globals (omega arith) in
    ap (λ gs. fold behind region_base (take (length (filter is_shared_global gs) + number) (block_sizes p))) whole
    ∙ ap (fold behind region_base) (taken_past size shared number (map text_size p.strings))
    ∙ ap (λ ss. fold behind region_base (map size shared ++ ss)) (take-map text_size number p.strings)
    ∙ fold-append behind region_base (map size shared) (map text_size (take number p.strings))
    ∙ ap (λ at. fold behind at (map text_size (take number p.strings)))
    (ap (behind_all p.aggregates region_base) (sym whole) ∙ sym (global_is p (length p.globals)))

pub texts_cut : (p : Program) (all before : List (List ℕ)) (number k i at : ℕ) → all ≡ p.strings
    → k ≡ min number (length all) → before ≡ take k all → length before ≤ i
    → at ≡ capped (fold behind (global_place p (length p.globals)) (map text_size (take i before))) → at ≡ capped (text_place p number)
texts_cut p all before number k i at a cut f past is =
    is
    ∙ ap (λ ss. capped (fold behind (global_place p (length p.globals)) (map text_size ss)))
    (take_all i before past ∙ f ∙ ap (λ n. take n all) cut ∙ take_min number all ∙ ap (take number) a)
    ∙ ap capped (sym (text_is p number))
