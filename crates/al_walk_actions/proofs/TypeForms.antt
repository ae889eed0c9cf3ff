-- What alloc makes of each form of types, and what unalloc gives back.
use Rattle.std.proofs.Common.{◌≡◌, ℕ, true, false, List, [], ◌∷◌, refl, sym, ap, subst, ◌∙◌}
use Rattle.std.specs.Prelude.{is_some}
use Rattle.al_base.specs.declared.arith.Kind.{Kind}
use Rattle.al_typed.specs.declared.ty.Ty.{Ty}
use Rattle.al_typed.specs.declared.ty.Ty.TheOpen.{Ty-F}
use Rattle.al_typed.specs.declared.ty.Ty.TheVariants as ty
use Rattle.al_typed.specs.declared.ty.Ty.TheViews.{out-Ty}
use denote.Hole.Carrier.{hidden, out, shown}
use Rattle.al_typed.specs.declared.ty.Ty.TheBlock.{hidden-the_row-Ty-0, shown-the_row-Ty-0}
use Rattle.al_event.specs.declared.act.Act.TheVariants as act
use Rattle.al_event.specs.declared.act.Block.TheVariants.{Heap}
use Rattle.al_typed.specs.declared.program.Program.{Program}
use Rattle.al_convert.specs.Kinds.{element_at, element_of, is_channel}
use Rattle.al_meaning.specs.Evaluate.{allocates, gives_back}
use Rattle.al_meaning.specs.Here.{Here, asks, lost, size_in}
use Rattle.al_meaning.specs.Items.{Answered}
use Rattle.al_meaning.specs.Places.{words_in}
use Rattle.al_control_values.specs.Fits.{IsSmall}
use Rattle.al_walk_actions.specs.Fits.{AllocationFits, HasFewWords}

form-Pointer : (t : Ty) → out-Ty (ty.Pointer t) ≡ Ty-F.Pointer t
unfolding out-Ty out hidden-the_row-Ty-0 shown-the_row-Ty-0 hidden shown
form-Pointer t = refl

form-Chan : (t : Ty) (n : ℕ) → out-Ty (ty.Chan t n) ≡ Ty-F.Chan t n
unfolding out-Ty out hidden-the_row-Ty-0 shown-the_row-Ty-0 hidden shown
form-Chan t n = refl

-- ---- alloc

pub allocates-pointer : (t to inner : Ty) (h : Here) → t ≡ ty.Pointer to → inner ≡ to
    → asks h (act.Alloc (size_in h.program inner) Heap) (Answered ∷ []) ≡ allocates (out-Ty t) h
allocates-pointer t to inner h is same =
    ap (λ u. asks h (act.Alloc (size_in h.program u) Heap) (Answered ∷ [])) same ∙ sym (ap (λ f. allocates f h) (ap out-Ty is ∙ form-Pointer to))

pub pointer_fits : (p : Program) (t to inner : Ty) → t ≡ ty.Pointer to → inner ≡ to → AllocationFits p (out-Ty t) → IsSmall p inner
pointer_fits p t to inner is same fits =
    subst (λ (u : Ty). IsSmall p u) (sym same) (subst (λ (f : Ty-F Ty). AllocationFits p f) (ap out-Ty is ∙ form-Pointer to) fits)

pub allocates-chan : (t element inner : Ty) (capacity : ℕ) (h : Here) → t ≡ ty.Chan element capacity → inner ≡ element
    → asks h (act.NewChan capacity (words_in h.program inner)) (Answered ∷ []) ≡ allocates (out-Ty t) h
allocates-chan t element inner capacity h is same =
    ap (λ u. asks h (act.NewChan capacity (words_in h.program u)) (Answered ∷ [])) same
    ∙ sym (ap (λ f. allocates f h) (ap out-Ty is ∙ form-Chan element capacity))

pub chan_fits : (p : Program) (t element inner : Ty) (capacity : ℕ) → t ≡ ty.Chan element capacity → inner ≡ element
    → AllocationFits p (out-Ty t) → HasFewWords p inner
chan_fits p t element inner capacity is same fits =
    subst (λ (u : Ty). HasFewWords p u) (sym same) (subst (λ (f : Ty-F Ty). AllocationFits p f) (ap out-Ty is ∙ form-Chan element capacity) fits)

pub allocates-Void : (t : Ty) (h : Here) → t ≡ ty.Void → lost h ≡ allocates (out-Ty t) h
unfolding out-Ty out
allocates-Void t h is = sym (ap (λ u. allocates (out-Ty u) h) is)

pub allocates-Integer : (t : Ty) (k : Kind) (h : Here) → t ≡ ty.Integer k → lost h ≡ allocates (out-Ty t) h
unfolding out-Ty out
allocates-Integer t k h is = sym (ap (λ u. allocates (out-Ty u) h) is)

pub allocates-Array : (t element : Ty) (n : ℕ) (h : Here) → t ≡ ty.Array element n → lost h ≡ allocates (out-Ty t) h
unfolding out-Ty out
allocates-Array t element n h is = sym (ap (λ u. allocates (out-Ty u) h) is)

pub allocates-Tuple : (t : Ty) (ts : List Ty) (h : Here) → t ≡ ty.Tuple ts → lost h ≡ allocates (out-Ty t) h
unfolding out-Ty out
allocates-Tuple t ts h is = sym (ap (λ u. allocates (out-Ty u) h) is)

pub allocates-Aggregate : (t : Ty) (n : ℕ) (h : Here) → t ≡ ty.Aggregate n → lost h ≡ allocates (out-Ty t) h
unfolding out-Ty out
allocates-Aggregate t n h is = sym (ap (λ u. allocates (out-Ty u) h) is)

pub allocates-Function : (t returns : Ty) (ts : List Ty) (h : Here) → t ≡ ty.Function returns ts → lost h ≡ allocates (out-Ty t) h
unfolding out-Ty out
allocates-Function t returns ts h is = sym (ap (λ u. allocates (out-Ty u) h) is)

-- ---- unalloc

chan_given : (f : Ty-F Ty) (n : ℕ) (h : Here) → true ≡ is_some (element_at f) → asks h (act.FreeChan n) (Answered ∷ []) ≡ gives_back f n h
chan_given Ty-F.Void n h e = cc
chan_given (Ty-F.Integer k) n h e = cc
chan_given (Ty-F.Pointer x) n h e = cc
chan_given (Ty-F.Array x m) n h e = cc
chan_given (Ty-F.Chan x m) n h e = refl
chan_given (Ty-F.Tuple xs) n h e = cc
chan_given (Ty-F.Aggregate m) n h e = cc
chan_given (Ty-F.Function x xs) n h e = cc

block_given : (f : Ty-F Ty) (n : ℕ) (h : Here) → false ≡ is_some (element_at f) → asks h (act.Free n Heap) (Answered ∷ []) ≡ gives_back f n h
block_given Ty-F.Void n h e = refl
block_given (Ty-F.Integer k) n h e = refl
block_given (Ty-F.Pointer x) n h e = refl
block_given (Ty-F.Array x m) n h e = refl
block_given (Ty-F.Chan x m) n h e = cc
block_given (Ty-F.Tuple xs) n h e = refl
block_given (Ty-F.Aggregate m) n h e = refl
block_given (Ty-F.Function x xs) n h e = refl

pub chan_freed : (t : Ty) (n : ℕ) (h : Here) → true ≡ is_channel t → asks h (act.FreeChan n) (Answered ∷ []) ≡ gives_back (out-Ty t) n h
unfolding element_of
chan_freed t n h e = chan_given (out-Ty t) n h e

pub block_freed : (t : Ty) (n : ℕ) (h : Here) → false ≡ is_channel t → asks h (act.Free n Heap) (Answered ∷ []) ≡ gives_back (out-Ty t) n h
unfolding element_of
block_freed t n h e = block_given (out-Ty t) n h e
