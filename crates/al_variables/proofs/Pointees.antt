-- What pointers lead to: its size, and its members.
use Rattle.std.proofs.Common.{◌≡◌, ℕ, List, [], ◌∷◌, refl}
use Rattle.al_base.specs.declared.arith.Kind.{Kind}
use Rattle.al_typed.specs.declared.program.Program.{Program}
use Rattle.al_typed.specs.declared.ty.Ty.{Ty}
use Rattle.al_typed.specs.declared.ty.Ty.TheVariants as ty
use Rattle.al_typed.specs.declared.ty.Ty.TheViews.{out-Ty}
use Rattle.al_typed.specs.declared.ty.Ty.TheBlock.{hidden-the_row-Ty-0, shown-the_row-Ty-0}
use denote.Hole.Carrier.{hidden, out, shown}
use Rattle.al_typed.specs.Layout.{layout, layout_of, member, row_of}
use Rattle.al_meaning.specs.Here.{pointee, size_in}
use Rattle.al_meaning.specs.Places.{path_offset}

-- it is void
pub size-Void : (p : Program) → size_in p (pointee ty.Void) ≡ 0
unfolding pointee out-Ty out layout layout_of
size-Void p = refl

-- it is void
pub size-Integer : (p : Program) (k : Kind) → size_in p (pointee (ty.Integer k)) ≡ 0
unfolding pointee out-Ty out layout layout_of
size-Integer p k = refl

pub pointee-Pointer : (t : Ty) → pointee (ty.Pointer t) ≡ t
unfolding pointee out-Ty out hidden-the_row-Ty-0 shown-the_row-Ty-0 hidden shown
pointee-Pointer t = refl

-- it is void
pub size-Array : (p : Program) (t : Ty) (n : ℕ) → size_in p (pointee (ty.Array t n)) ≡ 0
unfolding pointee out-Ty out layout layout_of
size-Array p t n = refl

-- it is void
pub size-Chan : (p : Program) (t : Ty) (n : ℕ) → size_in p (pointee (ty.Chan t n)) ≡ 0
unfolding pointee out-Ty out layout layout_of
size-Chan p t n = refl

-- it is void
pub size-Tuple : (p : Program) (ts : List Ty) → size_in p (pointee (ty.Tuple ts)) ≡ 0
unfolding pointee out-Ty out layout layout_of
size-Tuple p ts = refl

-- it is void
pub size-Aggregate : (p : Program) (n : ℕ) → size_in p (pointee (ty.Aggregate n)) ≡ 0
unfolding pointee out-Ty out layout layout_of
size-Aggregate p n = refl

-- it is void
pub size-Function : (p : Program) (t : Ty) (ts : List Ty) → size_in p (pointee (ty.Function t ts)) ≡ 0
unfolding pointee out-Ty out layout layout_of
size-Function p t ts = refl

pub ruleset pointee_sizes = (pointee-Pointer, size-Void, size-Integer, size-Array, size-Chan, size-Tuple, size-Aggregate, size-Function)

-- ---- members

void_offset : (p : Program) (path : List ℕ) → path_offset p ty.Void path ≡ 0
unfolding member row_of out-Ty out
void_offset p [] = refl
void_offset p (i ∷ path) = refl

pub offset-Pointer : (p : Program) (t : Ty) (path : List ℕ) → path_offset p (pointee (ty.Pointer t)) path ≡ path_offset p t path
unfolding pointee out-Ty out hidden-the_row-Ty-0 shown-the_row-Ty-0 hidden shown
offset-Pointer p t path = refl

pub offset-Void : (p : Program) (path : List ℕ) → path_offset p (pointee ty.Void) path ≡ 0
unfolding pointee out-Ty out
offset-Void p path = void_offset p path

pub offset-Integer : (p : Program) (k : Kind) (path : List ℕ) → path_offset p (pointee (ty.Integer k)) path ≡ 0
unfolding pointee out-Ty out
offset-Integer p k path = void_offset p path

pub offset-Array : (p : Program) (t : Ty) (n : ℕ) (path : List ℕ) → path_offset p (pointee (ty.Array t n)) path ≡ 0
unfolding pointee out-Ty out
offset-Array p t n path = void_offset p path

pub offset-Chan : (p : Program) (t : Ty) (n : ℕ) (path : List ℕ) → path_offset p (pointee (ty.Chan t n)) path ≡ 0
unfolding pointee out-Ty out
offset-Chan p t n path = void_offset p path

pub offset-Tuple : (p : Program) (ts : List Ty) (path : List ℕ) → path_offset p (pointee (ty.Tuple ts)) path ≡ 0
unfolding pointee out-Ty out
offset-Tuple p ts path = void_offset p path

pub offset-Aggregate : (p : Program) (n : ℕ) (path : List ℕ) → path_offset p (pointee (ty.Aggregate n)) path ≡ 0
unfolding pointee out-Ty out
offset-Aggregate p n path = void_offset p path

pub offset-Function : (p : Program) (t : Ty) (ts : List Ty) (path : List ℕ) → path_offset p (pointee (ty.Function t ts)) path ≡ 0
unfolding pointee out-Ty out
offset-Function p t ts path = void_offset p path

pub ruleset pointee_offsets =
    (offset-Pointer, offset-Void, offset-Integer, offset-Array, offset-Chan, offset-Tuple, offset-Aggregate, offset-Function)
