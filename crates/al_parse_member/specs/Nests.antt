-- Functions that parse members and initializers inside others, with at most some number of levels.
use Rattle.std.specs.Prelude.{ℕ, ◌<◌, ◌≤◌, ◌^◌, List, Result, IfOk}
use Rattle.std.specs.declared.alloc.Global.{Global}
use denote.Ref.{Bor, MutBor}
use Rattle.al_lex.specs.declared.token.Token.{Token}
use Rattle.al_tree.specs.Leaves.{leaves_of}
use Rattle.al_tree.specs.Reading.{Reads}
use Rattle.al_tree.specs.declared.cursor.ParseError.{ParseError}
use Rattle.al_parse_member.specs.Members.{SizedMember, SizedInitializer, member, initializer}

pub record MemberNests (turns depth : ℕ) (pre : Global → Bor (List ℕ) → Bor (List ℕ) → ℕ → ℕ → MutBor (List Token) → Type 0)
    (post : Global → Bor (List ℕ) → Bor (List ℕ) → ℕ → ℕ → MutBor (List Token) → Result SizedMember ParseError → MutBor (List Token) → Type 0) : Type 0 where
  pub callable : (alloc : Global) (text types : Bor (List ℕ)) (old : MutBor (List Token)) → turns < 2 ^ 32 → depth < 999 → pre alloc text types turns depth old
  pub reads : (alloc : Global) (text types : Bor (List ℕ)) (old new : MutBor (List Token)) (r : Result SizedMember ParseError) → post alloc text types turns depth old r new
      → Reads (member (leaves_of text.now) types.now turns depth old.now) r new.now × IfOk r (λ x. x.1 ≤ depth)

pub record InitializerNests (turns depth : ℕ) (pre : Global → Bor (List ℕ) → Bor (List ℕ) → ℕ → ℕ → MutBor (List Token) → Type 0)
    (post : Global → Bor (List ℕ) → Bor (List ℕ) → ℕ → ℕ → MutBor (List Token) → Result SizedInitializer ParseError → MutBor (List Token) → Type 0) : Type 0 where
  pub callable : (alloc : Global) (text types : Bor (List ℕ)) (old : MutBor (List Token)) → depth < 999 → pre alloc text types turns depth old
  pub reads : (alloc : Global) (text types : Bor (List ℕ)) (old new : MutBor (List Token)) (r : Result SizedInitializer ParseError) → post alloc text types turns depth old r new
      → Reads (initializer (leaves_of text.now) types.now turns depth old.now) r new.now × IfOk r (λ x. x.1 ≤ depth)
