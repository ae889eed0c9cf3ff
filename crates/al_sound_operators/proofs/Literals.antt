-- What is written as 0, nil or a tuple, and converts by the rules, converts in a well typed program.
use Rattle.std.proofs.Common.{◌≡◌, ℕ, Bool, true, ◌&&◌, List, [], ◌∷◌, map, Option, Some, None, refl, sym, ap, ap₂, ◌∙◌, subst}
use Rattle.std.specs.Prelude.{◌||◌, is_some}
use Rattle.al_base.specs.declared.place.Place.{Place}
use Rattle.al_base.specs.declared.arith.Kind.TheVariants as kind
use Rattle.al_typed.specs.declared.ty.Ty.{Ty, Void, Integer, Pointer', Array', Chan', Tuple', Aggregate, Function'}
use Rattle.al_typed.specs.declared.ty.Ty.TheVariants as ty
use Rattle.al_typed.specs.declared.ty.Ty.TheViews.{out-Ty}
use Rattle.al_typed.specs.declared.ty.Ty.TheBlock.{hidden-the_row-Ty-0}
use denote.Hole.Carrier.{hidden, out}
use Rattle.al_typed.specs.Types.{is_void, is_scalar, int, void_pointer}
use Rattle.al_typed.specs.WellTyped as well
use Rattle.al_typed.specs.WellTyped.{is_word}
use Rattle.al_convert.specs.declared.literal.Literal.{Literal, fold-Literal, fold-roll-Literal, roll-Literal}
use Rattle.al_convert.specs.declared.literal.Literal.TheFolds.{ind-Literal, map-Literal}
use Rattle.al_convert.specs.declared.literal.Literal.TheVariants as literal
use Rattle.al_convert.specs.declared.literal.Literal.TheOpen.{Literal-F}
use Rattle.al_convert.specs.Same.{Test, pass, all_pass, passes, is_of_kind, pointed, parts_of}
use Rattle.al_convert.specs.Kinds.{is_channel}
use Rattle.al_convert.specs.Conversions.{converts, takes_nil, literals_convert, parts_of_literal_convert}
use Rattle.al_convert.proofs.ConversionsAre.{converts-Other, converts-Zero, converts-Nil, converts-Tuple}
use Rattle.al_sound_operators.specs.Typed.{has_type, written_step}
use Rattle.al_sound_operators.proofs.TypeForms.{of_kind_is, pointer_is, tuple_is, void_is, a_channel}
use Rattle.al_sound_operators.proofs.SameTypes.{and_both}
use Rattle.al_sound_operators.proofs.Conversions.{types_convert_well, each_converts, tuples_convert, pointer_converts}

-- ---- what is written so has that type

pub has_type-Other : (t : Ty) → has_type literal.Other t ≡ true
unfolding has_type
has_type-Other t = ap (λ l. fold-Literal Test written_step l t) (sym literal.rolls-Other) ∙ ap (λ (c : Test). c t) (fold-roll-Literal Test written_step Literal-F.Other)

pub has_type-Zero : (t : Ty) → has_type literal.Zero t ≡ is_of_kind kind.Int t
unfolding has_type
has_type-Zero t = ap (λ l. fold-Literal Test written_step l t) (sym literal.rolls-Zero) ∙ ap (λ (c : Test). c t) (fold-roll-Literal Test written_step Literal-F.Zero)

pub has_type-Nil : (at : Place) (t : Ty) → has_type (literal.Nil at) t ≡ passes is_void (pointed t)
unfolding has_type
has_type-Nil at t = ap (λ l. fold-Literal Test written_step l t) (sym (literal.rolls-Nil at)) ∙ ap (λ (c : Test). c t) (fold-roll-Literal Test written_step (Literal-F.Nil at))

pub has_type-Tuple : (ls : List Literal) (t : Ty) → has_type (literal.Tuple ls) t ≡ pass (map has_type ls) (parts_of t)
unfolding has_type
has_type-Tuple ls t = ap (λ l. fold-Literal Test written_step l t) (sym (literal.rolls-Tuple ls)) ∙ ap (λ (c : Test). c t) (fold-roll-Literal Test written_step (Literal-F.Tuple ls))

-- ----

-- an int is converted to a scalar
int_converts : (t : Ty) → is_scalar t ≡ true → well.converts int t ≡ true
unfolding is_scalar is_word out-Ty out
int_converts Void h = absurd (cc)
int_converts (Integer k) h = refl
int_converts (Pointer' _ _) h = refl
int_converts (Array' _ _ n) h = absurd (cc)
int_converts (Chan' _ _ n) h = refl
int_converts (Tuple' _ r) h = absurd (cc)
int_converts (Aggregate n) h = absurd (cc)
int_converts (Function' _ _ _ r) h = absurd (cc)

pub pointer_to_channel : (x y : Ty) (n : ℕ) → well.converts (ty.Pointer x) (ty.Chan y n) ≡ true
unfolding is_word out-Ty out hidden-the_row-Ty-0 hidden
pointer_to_channel x y n = refl

pub behind : (p : Test) (o : Option Ty) → passes p o ≡ true → (x : Ty) × (o ≡ Some x) × (p x ≡ true)
behind p None h = absurd (cc)
behind p (Some x) h = (x, refl, h)

pub nil_type : (t : Ty) → passes is_void (pointed t) ≡ true → t ≡ void_pointer
nil_type t h = let x = behind is_void (pointed t) h in pointer_is t x.0 x.1 ∙ ap ty.Pointer (void_is x.0 x.2)

-- nil is converted to a pointer and to a channel
nil_converts : (t : Ty) → takes_nil t ≡ true → well.converts void_pointer t ≡ true
nil_converts t h = on (pointed t) refl h
  where
    on : (o : Option Ty) → pointed t ≡ o → (is_some o || is_channel t) ≡ true → well.converts void_pointer t ≡ true
    on None e h = let c = a_channel t h in ap (well.converts void_pointer) c.2 ∙ pointer_to_channel ty.Void c.0 c.1
    on (Some x) e h = ap (well.converts void_pointer) (pointer_is t x e) ∙ pointer_converts ty.Void x

abbrev Converts : Literal → Type 0
Converts l = (a b : Ty) → has_type l a ≡ true → converts l a b ≡ true → well.converts a b ≡ true

abbrev Checked : Type 0
Checked = (l : Literal) × Converts l

abbrev literals_of : List Checked → List Literal
literals_of = map (λ e. e.0)

each : (es : List Checked) (xs ys : List Ty) → all_pass (map has_type (literals_of es)) xs ≡ true → literals_convert (literals_of es) xs ys ≡ true → each_converts xs ys ≡ true
each [] [] [] h k = refl
each [] [] (y ∷ ys) h k = absurd (cc)
each [] (x ∷ xs) ys h k = absurd (cc)
each (e ∷ es) [] ys h k = absurd (cc)
each (e ∷ es) (x ∷ xs) [] h k = absurd (cc)
each (e ∷ es) (x ∷ xs) (y ∷ ys) h k =
    let typed = and_both (has_type e.0 x) (all_pass (map has_type (literals_of es)) xs) h in
    let taken = and_both (converts e.0 x y) (literals_convert (literals_of es) xs ys) k in
    ap₂ (λ (a b : Bool). a && b) (e.1 x y typed.0 taken.0) (each es xs ys typed.1 taken.1)

lists : (es : List Checked) (o q : Option (List Ty)) → pass (map has_type (literals_of es)) o ≡ true → parts_of_literal_convert (literals_of es) o q ≡ true
    → (xs : List Ty) × (ys : List Ty) × (o ≡ Some xs) × (q ≡ Some ys) × (each_converts xs ys ≡ true)
lists es None q h k = absurd (cc)
lists es (Some xs) None h k = absurd (cc)
lists es (Some xs) (Some ys) h k = (xs, ys, refl, refl, each es xs ys h k)

converts_by : (y : Literal-F Checked) → Converts (roll-Literal (map-Literal Checked Literal (λ e. e.0) y))
converts_by Literal-F.Other = subst Converts (sym literal.rolls-Other) (λ a b h k. types_convert_well a b (sym (converts-Other a b) ∙ k))
converts_by Literal-F.Zero =
    subst Converts (sym literal.rolls-Zero)
    (λ a b h k. ap (λ t. well.converts t b) (of_kind_is kind.Int a (sym (has_type-Zero a) ∙ h)) ∙ int_converts b (sym (converts-Zero a b) ∙ k))
converts_by (Literal-F.Nil at) =
    subst Converts (sym (literal.rolls-Nil at))
    (λ a b h k. ap (λ t. well.converts t b) (nil_type a (sym (has_type-Nil at a) ∙ h)) ∙ nil_converts b (sym (converts-Nil at a b) ∙ k))
converts_by (Literal-F.Tuple es) = subst Converts (sym (literal.rolls-Tuple (literals_of es))) on
  where
    on : Converts (literal.Tuple (literals_of es))
    on a b h k =
        let both = lists es (parts_of a) (parts_of b) (sym (has_type-Tuple (literals_of es) a) ∙ h) (sym (converts-Tuple (literals_of es) a b) ∙ k) in
        ap₂ well.converts (tuple_is a both.0 both.2) (tuple_is b both.1 both.3) ∙ tuples_convert both.0 both.1 ∙ both.4

pub literal_converts : (l : Literal) (a b : Ty) → has_type l a ≡ true → converts l a b ≡ true → well.converts a b ≡ true
literal_converts = ind-Literal Converts (λ x y is. subst (λ z. Converts (roll-Literal z)) is (converts_by y))
