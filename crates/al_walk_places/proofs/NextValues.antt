-- The kinds of types, and what pointers lead to.
use Rattle.std.proofs.Common.{◌≡◌, ℕ, List, [], ◌∷◌, refl}
use Rattle.std.specs.Prelude.{Bool, if◌then◌else◌, unwrap_or}
use Rattle.al_typed.specs.declared.expression.BinaryOp.TheVariants as binary
use Rattle.al_meaning.specs.Words.{bits_of, integer_words, operated, stepped_by}
use Rattle.al_meaning.specs.Evaluate.{next_value}
use Rattle.al_base.specs.declared.arith.Kind.{Kind}
use Rattle.al_base.specs.declared.arith.Kind.TheVariants as kind
use Rattle.al_typed.specs.declared.program.Program.{Program}
use Rattle.al_typed.specs.declared.ty.Ty.{Ty}
use Rattle.al_typed.specs.declared.ty.Ty.TheVariants as ty
use Rattle.al_typed.specs.declared.ty.Ty.TheViews.{out-Ty}
use Rattle.al_typed.specs.declared.ty.Ty.TheBlock.{hidden-the_row-Ty-0, hidden-the_row-Ty-1}
use denote.Hole.Carrier.{hidden, out}
use Rattle.al_typed.specs.Layout.{layout, layout_of}
use Rattle.al_meaning.specs.Here.{pointee, size_in}
use Rattle.al_meaning.specs.Shown.{kind_of}

-- ---- one more or less

pub next-Integer : (p : Program) (back : Bool) (k : Kind) (ws : List ℕ)
    → next_value p back (ty.Integer k) (out-Ty (ty.Integer k)) ws
    ≡ unwrap_or (operated (if back then binary.Subtract else binary.Add) k ws (integer_words k 1)) ws
unfolding out-Ty out
next-Integer p back k ws = refl

pub next-Pointer : (p : Program) (back : Bool) (t : Ty) (ws : List ℕ)
    → next_value p back (ty.Pointer t) (out-Ty (ty.Pointer t)) ws ≡ stepped_by back (size_in p (pointee (ty.Pointer t))) (bits_of ws) 1 ∷ []
unfolding pointee out-Ty out
next-Pointer p back t ws = refl

pub next-Void : (p : Program) (back : Bool) (ws : List ℕ) → next_value p back ty.Void (out-Ty ty.Void) ws ≡ ws
unfolding out-Ty out
next-Void p back ws = refl

pub next-Array : (p : Program) (back : Bool) (t : Ty) (n : ℕ) (ws : List ℕ) → next_value p back (ty.Array t n) (out-Ty (ty.Array t n)) ws ≡ ws
unfolding out-Ty out
next-Array p back t n ws = refl

pub next-Chan : (p : Program) (back : Bool) (t : Ty) (n : ℕ) (ws : List ℕ) → next_value p back (ty.Chan t n) (out-Ty (ty.Chan t n)) ws ≡ ws
unfolding out-Ty out
next-Chan p back t n ws = refl

pub next-Tuple : (p : Program) (back : Bool) (ts : List Ty) (ws : List ℕ) → next_value p back (ty.Tuple ts) (out-Ty (ty.Tuple ts)) ws ≡ ws
unfolding out-Ty out
next-Tuple p back ts ws = refl

pub next-Aggregate : (p : Program) (back : Bool) (n : ℕ) (ws : List ℕ) → next_value p back (ty.Aggregate n) (out-Ty (ty.Aggregate n)) ws ≡ ws
unfolding out-Ty out
next-Aggregate p back n ws = refl

pub next-Function : (p : Program) (back : Bool) (t : Ty) (ts : List Ty) (ws : List ℕ)
    → next_value p back (ty.Function t ts) (out-Ty (ty.Function t ts)) ws ≡ ws
unfolding out-Ty out
next-Function p back t ts ws = refl

pub ruleset next_values = (next-Integer, next-Pointer, next-Void, next-Array, next-Chan, next-Tuple, next-Aggregate, next-Function)
