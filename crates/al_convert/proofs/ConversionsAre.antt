-- Which values are converted, for each form of types and each way to write a value.
use Rattle.std.proofs.Common.{◌≡◌, ℕ, suc, ◌+◌, ◌<◌, true, false, ◌&&◌, cond, List, [], ◌∷◌, map, length, get_or, drop, Option, Some, None, refl, ap, ◌∙◌, sym, drop-cons, add-one}
use Rattle.std.specs.Prelude.{is_some}
use Rattle.std.proofs.lemmas.List.{drop_all}
use Rattle.al_base.specs.declared.place.Place.{Place}
use Rattle.al_base.specs.declared.arith.Kind.{Kind}
use Rattle.al_typed.specs.declared.ty.Ty.{Ty, Row_of-Ty, end_of-Ty, more_of-Ty, items_hidden-the_row-Ty-1}
use Rattle.al_typed.specs.declared.ty.Ty.TheVariants as ty
use Rattle.al_typed.specs.declared.ty.Ty.TheBlock.{hidden-the_row-Ty-0, hidden-the_row-Ty-1, items-the_row-Ty}
use denote.Hole.Carrier.{hidden}
use Rattle.al_typed.specs.Types.{is_scalar}
use Rattle.al_convert.specs.declared.literal.Literal.{Literal, fold-Literal, fold-roll-Literal}
use Rattle.al_convert.specs.declared.literal.Literal.TheVariants as literal
use Rattle.al_convert.specs.declared.literal.Literal.TheOpen.{Literal-F}
use Rattle.al_convert.specs.Same.{pointed, parts_of, is_aggregate}
use Rattle.al_convert.specs.Kinds.{is_integer, element_of}
use Rattle.al_convert.specs.Conversions.{pointers_convert, channels_convert, type_converts, row_converts, types_convert, parts_convert, takes_nil, Conversion, all_convert, tuple_converts, converts_step, converts, literals_convert, parts_of_literal_convert, first_place, nil_step, nil_in, nil_among}

-- ---- types

pub type_converts-Void : (to : Ty) → type_converts ty.Void to ≡ false
type_converts-Void to = refl

pub type_converts-Integer : (kind : Kind) (to : Ty) → type_converts (ty.Integer kind) to ≡ is_integer to
type_converts-Integer kind to = refl

pub type_converts-Pointer : (a to : Ty) → type_converts (ty.Pointer a) to ≡ pointers_convert a (pointed to)
unfolding hidden-the_row-Ty-0 hidden
type_converts-Pointer a to = refl

pub type_converts-Array : (a : Ty) (count : ℕ) (to : Ty) → type_converts (ty.Array a count) to ≡ false
unfolding hidden-the_row-Ty-0 hidden
type_converts-Array a count to = refl

pub type_converts-Chan : (a : Ty) (capacity : ℕ) (to : Ty) → type_converts (ty.Chan a capacity) to ≡ channels_convert a (element_of to)
unfolding hidden-the_row-Ty-0 hidden
type_converts-Chan a capacity to = refl

row_converts-items : {m : _} (row : Row_of-Ty m) (ts : Option (List Ty)) → row_converts row ts ≡ parts_convert (items-the_row-Ty m row) ts
row_converts-items end_of-Ty None = refl
row_converts-items end_of-Ty (Some []) = refl
row_converts-items end_of-Ty (Some (t ∷ ts)) = refl
row_converts-items (more_of-Ty a row) None = refl
row_converts-items (more_of-Ty a row) (Some []) = refl
row_converts-items (more_of-Ty a row) (Some (t ∷ ts)) = ap (λ b. type_converts a t && b) (row_converts-items row (Some ts))

pub type_converts-Tuple : (xs : List Ty) (to : Ty) → type_converts (ty.Tuple xs) to ≡ parts_convert xs (parts_of to)
type_converts-Tuple xs to =
    row_converts-items (hidden-the_row-Ty-1 xs) (parts_of to) ∙ ap (λ l. parts_convert l (parts_of to)) (items_hidden-the_row-Ty-1 xs)

pub type_converts-Aggregate : (number : ℕ) (to : Ty) → type_converts (ty.Aggregate number) to ≡ is_aggregate number to
type_converts-Aggregate number to = refl

pub type_converts-Function : (a : Ty) (xs : List Ty) (to : Ty) → type_converts (ty.Function a xs) to ≡ false
unfolding hidden-the_row-Ty-0 hidden
type_converts-Function a xs to = refl

pub ruleset type_converts_is = (type_converts-Void, type_converts-Integer, type_converts-Pointer, type_converts-Array, type_converts-Chan, type_converts-Tuple, type_converts-Aggregate, type_converts-Function)

pub types_convert-from : (xs ys : List Ty) (i : ℕ) (x y : Ty) → i < length xs → i < length ys → x ≡ get_or xs i x → y ≡ get_or ys i y
    → types_convert (drop i xs) (drop i ys) ≡ (type_converts x y && types_convert (drop (i + 1) xs) (drop (i + 1) ys))
types_convert-from xs ys i x y h k e d =
    rw (add-one) (ap (λ l. types_convert l (drop i ys)) (drop-cons xs i x h) ∙ ap (types_convert (get_or xs i x ∷ drop (suc i) xs)) (drop-cons ys i y k)
    ∙ ap (λ u. type_converts u (get_or ys i y) && types_convert (drop (suc i) xs) (drop (suc i) ys)) (sym e) ∙ ap (λ u. type_converts x u && types_convert (drop (suc i) xs) (drop (suc i) ys)) (sym d))

pub types_convert-length : (xs ys : List Ty) → types_convert xs ys ≡ true → length xs ≡ length ys
types_convert-length [] [] h = refl
types_convert-length [] (y ∷ ys) h = cc
types_convert-length (x ∷ xs) [] h = cc
types_convert-length (x ∷ xs) (y ∷ ys) h = elim (type_converts x y) as (λ b. (b && types_convert xs ys) ≡ true → suc (length xs) ≡ suc (length ys)) [ true ↦ λ h. ap suc (types_convert-length xs ys h) | false ↦ λ h. cc ] h

pub ruleset type_lists = (types_convert-from, types_convert-length, drop_all)

-- ---- what values are written as

converts_at-Tuple : (ls : List Literal) → converts (literal.Tuple ls) ≡ converts_step (Literal-F.Tuple (map converts ls))
unfolding converts
converts_at-Tuple ls = ap (fold-Literal Conversion converts_step) (sym (literal.rolls-Tuple ls)) ∙ fold-roll-Literal Conversion converts_step (Literal-F.Tuple ls)

all_convert-literals : (ls : List Literal) (as_ ts : List Ty) → all_convert (map converts ls) as_ ts ≡ literals_convert ls as_ ts
all_convert-literals [] [] [] = refl
all_convert-literals [] [] (t ∷ ts) = refl
all_convert-literals [] (a ∷ as_) [] = refl
all_convert-literals [] (a ∷ as_) (t ∷ ts) = refl
all_convert-literals (l ∷ ls) [] [] = refl
all_convert-literals (l ∷ ls) [] (t ∷ ts) = refl
all_convert-literals (l ∷ ls) (a ∷ as_) [] = refl
all_convert-literals (l ∷ ls) (a ∷ as_) (t ∷ ts) = ap (λ b. converts l a t && b) (all_convert-literals ls as_ ts)

tuple_converts-literals : (ls : List Literal) (as_ ts : Option (List Ty)) → tuple_converts (map converts ls) as_ ts ≡ parts_of_literal_convert ls as_ ts
tuple_converts-literals ls None None = refl
tuple_converts-literals ls None (Some ts) = refl
tuple_converts-literals ls (Some as_) None = refl
tuple_converts-literals ls (Some as_) (Some ts) = all_convert-literals ls as_ ts

pub converts-Other : (from to : Ty) → converts literal.Other from to ≡ type_converts from to
unfolding converts
converts-Other from to = ap (λ l. fold-Literal Conversion converts_step l from to) (sym literal.rolls-Other) ∙ ap (λ (c : Conversion). c from to) (fold-roll-Literal Conversion converts_step Literal-F.Other)

pub converts-Zero : (from to : Ty) → converts literal.Zero from to ≡ is_scalar to
unfolding converts
converts-Zero from to = ap (λ l. fold-Literal Conversion converts_step l from to) (sym literal.rolls-Zero) ∙ ap (λ (c : Conversion). c from to) (fold-roll-Literal Conversion converts_step Literal-F.Zero)

pub converts-Nil : (at : Place) (from to : Ty) → converts (literal.Nil at) from to ≡ takes_nil to
unfolding converts
converts-Nil at from to = ap (λ l. fold-Literal Conversion converts_step l from to) (sym (literal.rolls-Nil at)) ∙ ap (λ (c : Conversion). c from to) (fold-roll-Literal Conversion converts_step (Literal-F.Nil at))

pub converts-Tuple : (ls : List Literal) (from to : Ty) → converts (literal.Tuple ls) from to ≡ parts_of_literal_convert ls (parts_of from) (parts_of to)
converts-Tuple ls from to = ap (λ (c : Conversion). c from to) (converts_at-Tuple ls) ∙ tuple_converts-literals ls (parts_of from) (parts_of to)

pub ruleset converts_is = (converts-Other, converts-Zero, converts-Nil, converts-Tuple)

pub literals_convert-from : (ls : List Literal) (xs ys : List Ty) (i : ℕ) (l : Literal) (x y : Ty) → i < length ls → i < length xs → i < length ys
    → l ≡ get_or ls i l → x ≡ get_or xs i x → y ≡ get_or ys i y
    → literals_convert (drop i ls) (drop i xs) (drop i ys) ≡ (converts l x y && literals_convert (drop (i + 1) ls) (drop (i + 1) xs) (drop (i + 1) ys))
literals_convert-from ls xs ys i l x y g h k f e d =
    rw (add-one) (ap (λ m. literals_convert m (drop i xs) (drop i ys)) (drop-cons ls i l g)
    ∙ ap (λ m. literals_convert (get_or ls i l ∷ drop (suc i) ls) m (drop i ys)) (drop-cons xs i x h)
    ∙ ap (literals_convert (get_or ls i l ∷ drop (suc i) ls) (get_or xs i x ∷ drop (suc i) xs)) (drop-cons ys i y k)
    ∙ ap (λ u. converts u (get_or xs i x) (get_or ys i y) && literals_convert (drop (suc i) ls) (drop (suc i) xs) (drop (suc i) ys)) (sym f)
    ∙ ap (λ u. converts l u (get_or ys i y) && literals_convert (drop (suc i) ls) (drop (suc i) xs) (drop (suc i) ys)) (sym e)
    ∙ ap (λ u. converts l x u && literals_convert (drop (suc i) ls) (drop (suc i) xs) (drop (suc i) ys)) (sym d))

-- lists of unequal lengths do not convert

pub literals_convert-length : (ls : List Literal) (xs ys : List Ty) → literals_convert ls xs ys ≡ true → length ls ≡ length xs
literals_convert-length [] [] [] h = refl
literals_convert-length [] [] (y ∷ ys) h = cc
literals_convert-length [] (x ∷ xs) [] h = cc
literals_convert-length [] (x ∷ xs) (y ∷ ys) h = cc
literals_convert-length (l ∷ ls) [] [] h = cc
literals_convert-length (l ∷ ls) [] (y ∷ ys) h = cc
literals_convert-length (l ∷ ls) (x ∷ xs) [] h = cc
literals_convert-length (l ∷ ls) (x ∷ xs) (y ∷ ys) h = elim (converts l x y) as (λ b. (b && literals_convert ls xs ys) ≡ true → suc (length ls) ≡ suc (length xs)) [ true ↦ λ h. ap suc (literals_convert-length ls xs ys h) | false ↦ λ h. cc ] h

pub literals_convert-lengths : (ls : List Literal) (xs ys : List Ty) → literals_convert ls xs ys ≡ true → length xs ≡ length ys
literals_convert-lengths [] [] [] h = refl
literals_convert-lengths [] [] (y ∷ ys) h = cc
literals_convert-lengths [] (x ∷ xs) [] h = cc
literals_convert-lengths [] (x ∷ xs) (y ∷ ys) h = cc
literals_convert-lengths (l ∷ ls) [] [] h = cc
literals_convert-lengths (l ∷ ls) [] (y ∷ ys) h = cc
literals_convert-lengths (l ∷ ls) (x ∷ xs) [] h = cc
literals_convert-lengths (l ∷ ls) (x ∷ xs) (y ∷ ys) h = elim (converts l x y) as (λ b. (b && literals_convert ls xs ys) ≡ true → suc (length xs) ≡ suc (length ys)) [ true ↦ λ h. ap suc (literals_convert-lengths ls xs ys h) | false ↦ λ h. cc ] h

pub ruleset literal_lists = (literals_convert-from, literals_convert-length, literals_convert-lengths, drop_all)

-- ---- nil

first_place-nils : (ls : List Literal) → first_place (map nil_in ls) ≡ nil_among ls
first_place-nils [] = refl
first_place-nils (l ∷ ls) =
    elim (nil_in l) as (λ o. first_place (o ∷ map nil_in ls) ≡ cond (is_some o) o (nil_among ls)) [ None ↦ first_place-nils ls | Some at ↦ refl ]

pub nil_in-Other : nil_in literal.Other ≡ None
unfolding nil_in
nil_in-Other = ap (fold-Literal (Option Place) nil_step) (sym literal.rolls-Other) ∙ fold-roll-Literal (Option Place) nil_step Literal-F.Other

pub nil_in-Zero : nil_in literal.Zero ≡ None
unfolding nil_in
nil_in-Zero = ap (fold-Literal (Option Place) nil_step) (sym literal.rolls-Zero) ∙ fold-roll-Literal (Option Place) nil_step Literal-F.Zero

pub nil_in-Nil : (at : Place) → nil_in (literal.Nil at) ≡ Some at
unfolding nil_in
nil_in-Nil at = ap (fold-Literal (Option Place) nil_step) (sym (literal.rolls-Nil at)) ∙ fold-roll-Literal (Option Place) nil_step (Literal-F.Nil at)

nil_in_at-Tuple : (ls : List Literal) → nil_in (literal.Tuple ls) ≡ first_place (map nil_in ls)
unfolding nil_in
nil_in_at-Tuple ls = ap (fold-Literal (Option Place) nil_step) (sym (literal.rolls-Tuple ls)) ∙ fold-roll-Literal (Option Place) nil_step (Literal-F.Tuple ls)

pub nil_in-Tuple : (ls : List Literal) → nil_in (literal.Tuple ls) ≡ nil_among ls
nil_in-Tuple ls = nil_in_at-Tuple ls ∙ first_place-nils ls

pub ruleset nil_in_is = (nil_in-Other, nil_in-Zero, nil_in-Nil, nil_in-Tuple)

pub nil_among-from : (ls : List Literal) (i : ℕ) (l : Literal) → i < length ls → l ≡ get_or ls i l
    → nil_among (drop i ls) ≡ cond (is_some (nil_in l)) (nil_in l) (nil_among (drop (i + 1) ls))
nil_among-from ls i l h e =
    rw (add-one) (ap nil_among (drop-cons ls i l h) ∙ ap (λ u. cond (is_some (nil_in u)) (nil_in u) (nil_among (drop (suc i) ls))) (sym e))

pub ruleset nil_lists = (nil_among-from, drop_all)
