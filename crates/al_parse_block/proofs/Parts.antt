-- What the parser of blocks answers, from a token of a text on.
use Rattle.std.proofs.Common.{◌≡◌, ◌≢◌, ℕ, ◌+◌, ◌-◌, ◌<◌, ◌≤◌, List, length, Ok, Err, refl, arith}
use Rattle.al_lex.specs.declared.token.Token.{Token}
use Rattle.al_lex.specs.TokenList.{TokenList}
use Rattle.al_tree.specs.Leaves.{leaves_of}
use Rattle.al_tree.specs.Types.{Leaves}
use Rattle.al_tree.specs.Statements.{IsBlock}
use Rattle.al_tree.specs.Correct.{Grammar}
use Rattle.al_tree.specs.Tree.{limit}
use Rattle.al_tree.specs.Parts.{IsPartAt, IsPartFault, count, stop_of}
use Rattle.al_tree.specs.declared.cursor.ParseError.{ParseError}
use Rattle.al_tree.specs.declared.cursor.ParseError.TheVariants.{NoMemory}
use Rattle.al_tree.specs.declared.fault.ParseFault.{ParseFault}
use Rattle.al_tree.specs.declared.fault.ParseStop.TheVariants as stop
use Rattle.al_tree.specs.declared.statement.Stmt.{Stmt}
use Rattle.al_tree.proofs.Law.{Family, Any, Verdict}
use Rattle.al_tree.proofs.Verdicts.{world, Sized}
use Rattle.al_tree.proofs.PartVerdicts.{CompleteParts, Sized200, read_part, only_part, none_at, fault_at_error}
use Rattle.al_parse_block.specs.Parse.{block_within}
use Rattle.al_parse_block.specs.Calls.{blocks_of}
use Rattle.al_parse_block.proofs.BlockLaw.{block_within_law}
use Rattle.al_parse_block.proofs.BlockComplete.{block_within_c}

module _ (leaves : Leaves) (types : List ℕ) where
  abbrev G : Grammar Stmt
  G u x h = IsBlock leaves types u x h

  abbrev P : Family (Stmt × ℕ)
  P w = block_within leaves types w.turns w.depth

  pub complete : CompleteParts G P
  complete u r x h d ends F n low short = block_within_c leaves types F d n low r short

  pub verdict : (F : ℕ) (list : List Token) → length list < F → Verdict (world F limit) P (Sized G) list (P (world F limit) list)
  verdict F list short = (block_within_law leaves types (Unit {0}) (world F limit) (λ _. omega arith) (λ _. omega arith)).run tt list tt short

shorter : (toks : TokenList) (at : ℕ) (list : List Token) → Sized200 toks at list → length list < length toks.list
shorter toks at list s = omega (arith, s.within, s.some)

module _ (toks : TokenList) (types : List ℕ) (at : ℕ) (list : List Token) (s : Sized200 toks at list) where
  abbrev L : Leaves
  L = leaves_of toks.text

  abbrev N : ℕ
  N = length toks.list

  pub block_read : (x : Stmt) (h : ℕ) (r : List Token) → block_within L types N limit list ≡ Ok ((x, h), r) → h ≤ limit → IsPartAt (blocks_of toks types) toks at x (count toks - length r)
  block_read x h r e low = read_part (G L types) (P L types) (complete L types) toks at list s N (shorter toks at list s) (verdict L types N list (shorter toks at list s)) x h r e low

  pub block_only : (x y : Stmt) (h next : ℕ) (r : List Token) → block_within L types N limit list ≡ Ok ((y, h), r) → IsPartAt (blocks_of toks types) toks at x next → (y ≡ x) × (count toks - length r ≡ next)
  block_only x y h next r e q = only_part (G L types) (P L types) (complete L types) toks at list s N (shorter toks at list s) (verdict L types N list (shorter toks at list s)) x y h next r e q

  pub block_none : (e : ParseError) → (e ≢ NoMemory → block_within L types N limit list ≡ Err e) → stop_of toks e ≢ stop.NoMemory → (x : Stmt) (next : ℕ) → IsPartAt (blocks_of toks types) toks at x next → ⊥
  block_none e reads some x next q = none_at (G L types) (P L types) (complete L types) toks at list s N (shorter toks at list s) (verdict L types N list (shorter toks at list s)) e reads some x next q

  pub block_fault : (e : ParseError) → (e ≢ NoMemory → block_within L types N limit list ≡ Err e) → (f : ParseFault) → stop_of toks e ≡ stop.Fault f → IsPartFault (blocks_of toks types) toks at f
  block_fault e reads f g = fault_at_error (G L types) (P L types) (complete L types) toks at list s N (shorter toks at list s) (verdict L types N list (shorter toks at list s)) e reads f g
