-- Functions that parse bounds and parts of types with less than some number of levels.
use Rattle.std.specs.Prelude.{ℕ, ◌<◌, ◌≤◌, List, Result, IfOk}
use Rattle.std.specs.declared.alloc.Global.{Global}
use denote.Ref.{Bor, MutBor}
use Rattle.al_lex.specs.declared.token.Token.{Token}
use Rattle.al_tree.specs.Leaves.{leaves_of}
use Rattle.al_tree.specs.Reading.{Reads}
use Rattle.al_tree.specs.declared.cursor.ParseError.{ParseError}
use Rattle.al_parse_type.specs.declared.part.Part.{Part}
use Rattle.al_parse_type.specs.declared.part.Part.TheVariants as part
use Rattle.al_parse_type.specs.declared.part.Want.{Want}
use Rattle.al_parse_type.specs.Parse.{SizedBound, SizedPart, bound_below, below}

-- a type has less levels than this, and a bound no more
abbrev pub Fits : ℕ → Part → ℕ → Type 0
Fits depth (part.Type x) h = h < depth
Fits depth (part.Bound x) h = h ≤ depth

pub record BoundNests (turns depth : ℕ) (pre : Global → Bor (List ℕ) → Bor (List ℕ) → ℕ → ℕ → MutBor (List Token) → Type 0)
    (post : Global → Bor (List ℕ) → Bor (List ℕ) → ℕ → ℕ → MutBor (List Token) → Result SizedBound ParseError → MutBor (List Token) → Type 0) : Type 0 where
  pub callable : (alloc : Global) (text types : Bor (List ℕ)) (old : MutBor (List Token)) → pre alloc text types turns depth old
  pub reads : (alloc : Global) (text types : Bor (List ℕ)) (old new : MutBor (List Token)) (r : Result SizedBound ParseError) → post alloc text types turns depth old r new
      → Reads (bound_below (leaves_of text.now) types.now turns depth old.now) r new.now × IfOk r (λ x. x.1 < depth)

pub record Nests (turns depth : ℕ) (pre : Global → Bor (List ℕ) → Bor (List ℕ) → ℕ → ℕ → MutBor (List Token) → Want → Type 0)
    (post : Global → Bor (List ℕ) → Bor (List ℕ) → ℕ → ℕ → MutBor (List Token) → Want → Result SizedPart ParseError → MutBor (List Token) → Type 0) : Type 0 where
  pub callable : (alloc : Global) (text types : Bor (List ℕ)) (old : MutBor (List Token)) (w : Want) → pre alloc text types turns depth old w
  pub reads : (alloc : Global) (text types : Bor (List ℕ)) (old new : MutBor (List Token)) (w : Want) (r : Result SizedPart ParseError) → post alloc text types turns depth old w r new
      → Reads (below (leaves_of text.now) types.now turns depth w old.now) r new.now × IfOk r (λ x. Fits depth x.0 x.1)
