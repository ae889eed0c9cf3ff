-- Which kinds of types are sound.
use Rattle.std.proofs.Common.{◌≡◌, ℕ, ◌+◌, ◌<◌, ◌≤◌, Bool, true, false, ◌&&◌, List, [], ◌∷◌, length, take, get_or, refl, ap, ap₂, ◌∙◌, sym, arith}
use Rattle.std.specs.Prelude.{nat_le, nat_lt, ◌||◌}
use Rattle.std.specs.List.{list_all}
use Rattle.std.proofs.lemmas.Bool.Decides.{nat_tests}
use Rattle.std.proofs.lemmas.List.{take_all}
use Rattle.std.proofs.lemmas.List.Folds.{list_all_more}
use Rattle.al_base.specs.declared.arith.Kind.{Kind}
use Rattle.al_typed.specs.declared.program.Aggregate.{Aggregate}
use Rattle.al_typed.specs.declared.ty.Ty.{Ty, Row_of-Ty, end_of-Ty, more_of-Ty, items-the_row-Ty, items_hidden-the_row-Ty-1}
use Rattle.al_typed.specs.declared.ty.Ty.TheVariants as ty
use Rattle.al_typed.specs.declared.ty.Ty.TheBlock.{hidden-the_row-Ty-0, hidden-the_row-Ty-1}
use denote.Hole.Carrier.{hidden}
use Rattle.al_typed.specs.Capped.{capped}
use Rattle.al_typed.specs.Types.{is_complete, is_void, is_whole}
use Rattle.al_typed.specs.WellTyped.{are_sound, is_small, is_sound}
use Rattle.al_sound_types.specs.Types.{is_part, is_returned}

-- a size that counts as 2^64 - 1 where it is larger, against a limit far below
pub small_size : (size n : ℕ) → size ≡ capped n → nat_le size 268435456 ≡ nat_le n 268435456
small_size size n e = grind (arith, nat_tests)

are_items : (rows : List Aggregate) {m : _} (row : Row_of-Ty m) → are_sound rows row ≡ list_all (is_part rows) (items-the_row-Ty m row)
are_items rows end_of-Ty = refl
are_items rows (more_of-Ty t rest) = ap (λ b. is_part rows t && b) (are_items rows rest)

parts_are : (rows : List Aggregate) (ts : List Ty) → are_sound rows (hidden-the_row-Ty-1 ts) ≡ list_all (is_part rows) ts
parts_are rows ts = are_items rows (hidden-the_row-Ty-1 ts) ∙ ap (list_all (is_part rows)) (items_hidden-the_row-Ty-1 ts)

pub is_sound-Void : (rows : List Aggregate) → is_sound rows ty.Void ≡ true
is_sound-Void rows = refl

pub is_sound-Integer : (rows : List Aggregate) (kind : Kind) → is_sound rows (ty.Integer kind) ≡ true
is_sound-Integer rows kind = refl

pub is_sound-Pointer : (rows : List Aggregate) (to : Ty) → is_sound rows (ty.Pointer to) ≡ is_sound rows to
unfolding hidden-the_row-Ty-0 hidden
is_sound-Pointer rows to = refl

pub is_sound-Array : (rows : List Aggregate) (element : Ty) (count : ℕ)
    → is_sound rows (ty.Array element count) ≡ is_sound rows element && is_complete rows element && nat_le 1 count && is_small rows (ty.Array element count)
unfolding hidden-the_row-Ty-0 hidden
is_sound-Array rows element count = refl

pub is_sound-Chan : (rows : List Aggregate) (element : Ty) (capacity : ℕ)
    → is_sound rows (ty.Chan element capacity) ≡ is_sound rows element && is_whole rows element && nat_le capacity 4096
unfolding hidden-the_row-Ty-0 hidden
is_sound-Chan rows element capacity = refl

pub is_sound-Tuple : (rows : List Aggregate) (parts : List Ty) → is_sound rows (ty.Tuple parts) ≡ list_all (is_part rows) parts && is_small rows (ty.Tuple parts)
is_sound-Tuple rows parts = ap (λ b. b && is_small rows (ty.Tuple parts)) (parts_are rows parts)

pub is_sound-Aggregate : (rows : List Aggregate) (k : ℕ) → is_sound rows (ty.Aggregate k) ≡ nat_lt k (length rows) && is_small rows (ty.Aggregate k)
is_sound-Aggregate rows k = refl

pub is_sound-Function : (rows : List Aggregate) (returns : Ty) (parameters : List Ty)
    → is_sound rows (ty.Function returns parameters) ≡ is_sound rows returns && is_returned rows returns && list_all (is_part rows) parameters
unfolding hidden-the_row-Ty-0 hidden is_returned
is_sound-Function rows returns parameters = ap (λ b. is_sound rows returns && is_returned rows returns && b) (parts_are rows parameters)

pub ruleset is_sound_is = (is_sound-Void, is_sound-Integer, is_sound-Pointer, is_sound-Array, is_sound-Chan, is_sound-Tuple, is_sound-Aggregate, is_sound-Function)

-- a type of a function, by what is found of its parts
pub function_is :
    (rows : List Aggregate) (t returns x y : Ty) (parameters list : List Ty) (sound returned parts : Bool) → t ≡ ty.Function returns parameters → x ≡ returns → y ≡ returns
    → list ≡ parameters → sound ≡ is_sound rows x → sound ≡ true → returned ≡ is_returned rows y → returned ≡ true → parts ≡ list_all (is_part rows) list
    → parts ≡ is_sound rows t
function_is rows t returns x y parameters list sound returned parts is first second listed a so b also c =
    c ∙ ap (list_all (is_part rows)) listed
    ∙ sym (
    ap (is_sound rows) is ∙ is_sound-Function rows returns parameters
    ∙ ap₂ (λ d e. d && e && list_all (is_part rows) parameters) (ap (is_sound rows) (sym first) ∙ sym a ∙ so) (ap (is_returned rows) (sym second) ∙ sym b ∙ also)
    )

-- ---- types in a row

pub one_more_is :
    (rows : List Aggregate) (ts : List Ty) (i : ℕ) (t : Ty) (b d : Bool) → i < length ts → t ≡ get_or ts i t → list_all (is_part rows) (take i ts) ≡ true
    → b ≡ is_sound rows t → b ≡ true → d ≡ is_whole rows t → d ≡ true → list_all (is_part rows) (take (i + 1) ts) ≡ true
one_more_is rows ts i t b d h is before sound so whole also =
    list_all_more (is_part rows) ts i t h
    ∙ ap (λ x. x && is_part rows (get_or ts i t)) before
    ∙ sym (ap (is_part rows) is) ∙ ap₂ (λ x y. x && y) (sym sound ∙ so) (sym whole ∙ also)

pub all_so_far :
    (rows : List Aggregate) (ts : List Ty) (i : ℕ) → length ts ≤ i → list_all (is_part rows) (take i ts) ≡ true → true ≡ list_all (is_part rows) ts
all_so_far rows ts i past is = sym (sym (ap (list_all (is_part rows)) (take_all i ts past)) ∙ is)
