-- What the parser of expressions answers, from a token of a text on.
use Rattle.std.proofs.Common.{◌≡◌, ◌≢◌, ℕ, ◌+◌, ◌-◌, ◌<◌, ◌≤◌, List, length, Ok, Err, ◌⊎◌, inr, refl, arith}
use Rattle.al_lex.specs.declared.token.Token.{Token}
use Rattle.al_lex.specs.TokenList.{TokenList}
use Rattle.al_tree.specs.Leaves.{leaves_of}
use Rattle.al_tree.specs.Types.{Leaves}
use Rattle.al_tree.specs.Expressions.{IsExpr}
use Rattle.al_tree.specs.Correct.{Grammar}
use Rattle.al_tree.specs.Tree.{limit}
use Rattle.al_tree.specs.Parts.{IsPartAt, IsPartFault, count, stop_of}
use Rattle.al_tree.specs.declared.cursor.ParseError.{ParseError}
use Rattle.al_tree.specs.declared.cursor.ParseError.TheVariants.{NoMemory}
use Rattle.al_tree.specs.declared.fault.ParseFault.{ParseFault}
use Rattle.al_tree.specs.declared.fault.ParseStop.TheVariants as stop
use Rattle.al_tree.specs.declared.expression.Expr.{Expr}
use Rattle.al_tree.proofs.Law.{Family, Any, Verdict}
use Rattle.al_tree.proofs.Verdicts.{world, Sized}
use Rattle.al_tree.proofs.PartVerdicts.{CompleteParts, Sized200, read_part, only_part, none_at, fault_at_error}
use Rattle.al_parse_expr.specs.Parse.{within}
use Rattle.al_parse_expr.specs.Calls.{expressions_of}
use Rattle.al_parse_expr.specs.declared.operand.Want.TheVariants as want
use Rattle.al_parse_expr.proofs.ExprLaw.{within_law}
use Rattle.al_parse_expr.proofs.ExprComplete.{expr_c}

module _ (leaves : Leaves) (types : List ℕ) where
  abbrev G : Grammar Expr
  G u x h = IsExpr leaves types u x h

  abbrev P : Family (Expr × ℕ)
  P w = within leaves types w.turns w.depth want.Expression

  pub complete : CompleteParts G P
  complete u r x h d ends F n low short = expr_c leaves types F d n low r short (inr ends)

  pub verdict : (F n : ℕ) (list : List Token) → length list < F → Verdict (world F n) P (Sized G) list (P (world F n) list)
  verdict F n list short = (within_law leaves types n (Unit {0}) (world F n) refl (λ _. omega arith) want.Expression tt).run tt list tt short

shorter : (toks : TokenList) (at : ℕ) (list : List Token) → Sized200 toks at list → length list < length toks.list
shorter toks at list s = omega (arith, s.within, s.some)

module _ (toks : TokenList) (types : List ℕ) (at : ℕ) (list : List Token) (s : Sized200 toks at list) where
  abbrev L : Leaves
  L = leaves_of toks.text

  abbrev N : ℕ
  N = length toks.list

  pub expr_read : (x : Expr) (h : ℕ) (r : List Token) → within L types N limit want.Expression list ≡ Ok ((x, h), r) → h ≤ limit → IsPartAt (expressions_of toks types) toks at x (count toks - length r)
  expr_read x h r e low = read_part (G L types) (P L types) (complete L types) toks at list s N (shorter toks at list s) (verdict L types N limit list (shorter toks at list s)) x h r e low

  pub expr_only : (x y : Expr) (h next : ℕ) (r : List Token) → within L types N limit want.Expression list ≡ Ok ((y, h), r) → IsPartAt (expressions_of toks types) toks at x next → (y ≡ x) × (count toks - length r ≡ next)
  expr_only x y h next r e q = only_part (G L types) (P L types) (complete L types) toks at list s N (shorter toks at list s) (verdict L types N limit list (shorter toks at list s)) x y h next r e q

  pub expr_none : (e : ParseError) → (e ≢ NoMemory → within L types N limit want.Expression list ≡ Err e) → stop_of toks e ≢ stop.NoMemory → (x : Expr) (next : ℕ) → IsPartAt (expressions_of toks types) toks at x next → ⊥
  expr_none e reads some x next q = none_at (G L types) (P L types) (complete L types) toks at list s N (shorter toks at list s) (verdict L types N limit list (shorter toks at list s)) e reads some x next q

  pub expr_fault : (e : ParseError) → (e ≢ NoMemory → within L types N limit want.Expression list ≡ Err e) → (f : ParseFault) → stop_of toks e ≡ stop.Fault f → IsPartFault (expressions_of toks types) toks at f
  expr_fault e reads f g = fault_at_error (G L types) (P L types) (complete L types) toks at list s N (shorter toks at list s) (verdict L types N limit list (shorter toks at list s)) e reads f g
