-- A function that parses what stands inside statements, with at most some number of levels.
use Rattle.std.specs.Prelude.{ℕ, ◌<◌, ◌≤◌, ◌^◌, List, Result, IfOk}
use Rattle.std.specs.declared.alloc.Global.{Global}
use denote.Ref.{Bor, MutBor}
use Rattle.al_lex.specs.declared.token.Token.{Token}
use Rattle.al_tree.specs.Leaves.{leaves_of}
use Rattle.al_tree.specs.Reading.{Reads}
use Rattle.al_tree.specs.declared.cursor.ParseError.{ParseError}
use Rattle.al_parse_block.specs.declared.part.ReadStmt.{ReadStmt}
use Rattle.al_parse_block.specs.declared.part.Want.{Want}
use Rattle.al_parse_block.specs.Parse.{within}

pub record Nests (turns depth : ℕ) (pre : Global → Bor (List ℕ) → Bor (List ℕ) → ℕ → ℕ → MutBor (List Token) → Want → Type 0)
    (post : Global → Bor (List ℕ) → Bor (List ℕ) → ℕ → ℕ → MutBor (List Token) → Want → Result ReadStmt ParseError → MutBor (List Token) → Type 0) : Type 0 where
  pub callable : (alloc : Global) (text types : Bor (List ℕ)) (old : MutBor (List Token)) (w : Want) → turns < 2 ^ 32 → depth < 999 → pre alloc text types turns depth old w
  pub reads : (alloc : Global) (text types : Bor (List ℕ)) (old new : MutBor (List Token)) (w : Want) (r : Result ReadStmt ParseError) → post alloc text types turns depth old w r new
      → Reads (within (leaves_of text.now) types.now turns depth w old.now) r new.now × IfOk r (λ x. x.height ≤ depth)
