-- What is known of each form of expression before it is made.
use Rattle.std.proofs.Common.{◌≡◌, ℕ, ◌+◌, Bool, true, false, if◌then◌else◌, Some, None, ap, sym, ◌∙◌}
use Rattle.al_base.specs.declared.arith.Kind.{Kind}
use Rattle.al_typed.specs.declared.ty.Ty.{Ty}
use Rattle.al_typed.specs.declared.expression.UnaryOp.{UnaryOp}
use Rattle.al_typed.specs.declared.expression.BinaryOp.{BinaryOp}
use Rattle.al_typed.specs.declared.expression.Logic.{Logic}
use Rattle.al_typed.specs.declared.expression.TExpr.{TExpr}
use Rattle.al_typed.specs.declared.expression.TExpr.TheVariants as expr
use Rattle.al_typed.specs.declared.expression.TPlace.{TPlace}
use Rattle.al_typed.specs.Typed.{type_of}
use Rattle.al_lower_code.specs.Homes.{Spot, words}
use Rattle.al_lower_code.specs.Coded.{Coded, operand_slot}
use Rattle.al_lower_code.specs.Moving.{Stored, home_of}
use Rattle.al_lower_code.specs.Operators.{compares}
use Rattle.al_lower_code.specs.Values.{unary_coded, converted_coded}
use Rattle.al_lower_code.specs.Expressions.{coded, placed}
use Rattle.al_lower_operands.specs.Folded.{folded_bits}
use Rattle.al_lower_operands.proofs.Forms.{coded-Load, coded-Decay, coded-Address, coded-CanReceive, coded-CanSend, coded-Iterator}
use Rattle.al_lower_operands.proofs.Folding.{constant_is, open-Unary, open-Not, open-Binary, open-Logical, open-Cast, open-Convert}
use Rattle.al_lower_operands.proofs.Plain.{at_to, binary_is_truth, logical_is_truth}

pub known-constant : (s : Spot) (e : TExpr) (bits : ℕ) → folded_bits s e ≡ Some bits → (coded s e).known ≡ Some bits
known-constant s e bits h = ap (λ (c : Coded). c.known) (constant_is s e bits h)

pub known-Unary : (s : Spot) (t : Ty) (op : UnaryOp) (a : TExpr) → folded_bits s (expr.Unary t op a) ≡ None → (coded s (expr.Unary t op a)).known ≡ (unary_coded s t op (coded s a)).known
known-Unary s t op a h = ap (λ (c : Coded). c.known) (open-Unary s t op a h)

pub known-Cast : (s : Spot) (t : Ty) (a : TExpr) → folded_bits s (expr.Cast t a) ≡ None → (coded s (expr.Cast t a)).known ≡ (converted_coded s (type_of a) t (coded s a)).known
known-Cast s t a h = ap (λ (c : Coded). c.known) (open-Cast s t a h)

pub known-Convert : (s : Spot) (t : Ty) (a : TExpr) → folded_bits s (expr.Convert t a) ≡ None → (coded s (expr.Convert t a)).known ≡ (converted_coded s (type_of a) t (coded s a)).known
known-Convert s t a h = ap (λ (c : Coded). c.known) (open-Convert s t a h)

pub is_truth-constant : (s : Spot) (e : TExpr) (bits : ℕ) → folded_bits s e ≡ Some bits → (coded s e).is_truth ≡ false
is_truth-constant s e bits h = ap (λ (c : Coded). c.is_truth) (constant_is s e bits h)

pub is_truth-Unary : (s : Spot) (t : Ty) (op : UnaryOp) (a : TExpr) → folded_bits s (expr.Unary t op a) ≡ None → (coded s (expr.Unary t op a)).is_truth ≡ (unary_coded s t op (coded s a)).is_truth
is_truth-Unary s t op a h = ap (λ (c : Coded). c.is_truth) (open-Unary s t op a h)

pub is_truth-Cast : (s : Spot) (t : Ty) (a : TExpr) → folded_bits s (expr.Cast t a) ≡ None → (coded s (expr.Cast t a)).is_truth ≡ (converted_coded s (type_of a) t (coded s a)).is_truth
is_truth-Cast s t a h = ap (λ (c : Coded). c.is_truth) (open-Cast s t a h)

pub is_truth-Convert : (s : Spot) (t : Ty) (a : TExpr) → folded_bits s (expr.Convert t a) ≡ None → (coded s (expr.Convert t a)).is_truth ≡ (converted_coded s (type_of a) t (coded s a)).is_truth
is_truth-Convert s t a h = ap (λ (c : Coded). c.is_truth) (open-Convert s t a h)

pub is_truth-Not : (s : Spot) (t : Ty) (a : TExpr) → folded_bits s (expr.Not t a) ≡ None → (coded s (expr.Not t a)).is_truth ≡ true
is_truth-Not s t a h = ap (λ (c : Coded). c.is_truth) (open-Not s t a h)

pub is_truth-Logical : (s : Spot) (t : Ty) (op : Logic) (a : TExpr) (b : TExpr) → folded_bits s (expr.Logical t op a b) ≡ None → (coded s (expr.Logical t op a b)).is_truth ≡ true
is_truth-Logical s t op a b h = ap (λ (c : Coded). c.is_truth) (open-Logical s t op a b h) ∙ logical_is_truth s t op (words s (type_of b)) (coded s a) (coded s b)

pub is_truth-Binary : (s : Spot) (t : Ty) (op : BinaryOp) (k : Kind) (a : TExpr) (b : TExpr) → folded_bits s (expr.Binary t op k a b) ≡ None → (coded s (expr.Binary t op k a b)).is_truth ≡ compares op
is_truth-Binary s t op k a b h = ap (λ (c : Coded). c.is_truth) (open-Binary s t op k a b h) ∙ binary_is_truth s t op k (words s (type_of a)) (coded s a) (coded s b)

pub is_truth-CanReceive : (s : Spot) (t : Ty) (a : TExpr) → (coded s (expr.CanReceive t a)).is_truth ≡ true
is_truth-CanReceive s t a = ap (λ (c : Coded). c.is_truth) (coded-CanReceive s t a)

pub is_truth-CanSend : (s : Spot) (t : Ty) (a : TExpr) → (coded s (expr.CanSend t a)).is_truth ≡ true
is_truth-CanSend s t a = ap (λ (c : Coded). c.is_truth) (coded-CanSend s t a)

pub stands-constant : (s : Spot) (e : TExpr) (bits : ℕ) → folded_bits s e ≡ Some bits → (coded s e).stands ≡ None
stands-constant s e bits h = ap (λ (c : Coded). c.stands) (constant_is s e bits h)

pub stands-Unary : (s : Spot) (t : Ty) (op : UnaryOp) (a : TExpr) → folded_bits s (expr.Unary t op a) ≡ None → (coded s (expr.Unary t op a)).stands ≡ (unary_coded s t op (coded s a)).stands
stands-Unary s t op a h = ap (λ (c : Coded). c.stands) (open-Unary s t op a h)

pub stands-Cast : (s : Spot) (t : Ty) (a : TExpr) → folded_bits s (expr.Cast t a) ≡ None → (coded s (expr.Cast t a)).stands ≡ (converted_coded s (type_of a) t (coded s a)).stands
stands-Cast s t a h = ap (λ (c : Coded). c.stands) (open-Cast s t a h)

pub stands-Convert : (s : Spot) (t : Ty) (a : TExpr) → folded_bits s (expr.Convert t a) ≡ None → (coded s (expr.Convert t a)).stands ≡ (converted_coded s (type_of a) t (coded s a)).stands
stands-Convert s t a h = ap (λ (c : Coded). c.stands) (open-Convert s t a h)

pub stands-Load : (s : Spot) (t : Ty) (x : TPlace) → (coded s (expr.Load t x)).stands ≡ home_of ((placed s x).at false 0)
stands-Load s t x = ap (λ (c : Coded). c.stands) (coded-Load s t x)

pub stands-Iterator : (s : Spot) (t : Ty) (number : ℕ) → (coded s (expr.Iterator t number)).stands ≡ Some (s.turns + number)
stands-Iterator s t number = ap (λ (c : Coded). c.stands) (coded-Iterator s t number)

pub leads-constant : (s : Spot) (e : TExpr) (bits : ℕ) (lasting : Bool) (to : ℕ) → folded_bits s e ≡ Some bits → (coded s e).leads lasting to ≡ Stored to 0
leads-constant s e bits lasting to h = ap (λ (c : Coded). c.leads lasting to) (constant_is s e bits h) ∙ at_to lasting to

pub leads-Unary : (s : Spot) (t : Ty) (op : UnaryOp) (a : TExpr) (lasting : Bool) (to : ℕ) → folded_bits s (expr.Unary t op a) ≡ None → (coded s (expr.Unary t op a)).leads lasting to ≡ (unary_coded s t op (coded s a)).leads lasting to
leads-Unary s t op a lasting to h = ap (λ (c : Coded). c.leads lasting to) (open-Unary s t op a h)

pub leads-Cast : (s : Spot) (t : Ty) (a : TExpr) (lasting : Bool) (to : ℕ) → folded_bits s (expr.Cast t a) ≡ None → (coded s (expr.Cast t a)).leads lasting to ≡ (converted_coded s (type_of a) t (coded s a)).leads lasting to
leads-Cast s t a lasting to h = ap (λ (c : Coded). c.leads lasting to) (open-Cast s t a h)

pub leads-Convert : (s : Spot) (t : Ty) (a : TExpr) (lasting : Bool) (to : ℕ) → folded_bits s (expr.Convert t a) ≡ None → (coded s (expr.Convert t a)).leads lasting to ≡ (converted_coded s (type_of a) t (coded s a)).leads lasting to
leads-Convert s t a lasting to h = ap (λ (c : Coded). c.leads lasting to) (open-Convert s t a h)

pub leads-Decay : (s : Spot) (t : Ty) (x : TPlace) (lasting : Bool) (to : ℕ) → (coded s (expr.Decay t x)).leads lasting to ≡ (placed s x).at lasting to
leads-Decay s t x lasting to = ap (λ (c : Coded). c.leads lasting to) (coded-Decay s t x)

pub leads-Address : (s : Spot) (t : Ty) (x : TPlace) (lasting : Bool) (to : ℕ) → (coded s (expr.Address t x)).leads lasting to ≡ (placed s x).at lasting to
leads-Address s t x lasting to = ap (λ (c : Coded). c.leads lasting to) (coded-Address s t x)

pub leads-Load : (s : Spot) (t : Ty) (x : TPlace) (lasting : Bool) (to : ℕ) → (coded s (expr.Load t x)).leads lasting to ≡ Stored (if lasting then to else operand_slot (coded s (expr.Load t x)) to) 0
leads-Load s t x lasting to = ap (λ (c : Coded). c.leads lasting to) (coded-Load s t x) ∙ ap (λ (c : Coded). Stored (if lasting then to else operand_slot c to) 0) (sym (coded-Load s t x))

pub leads-Iterator : (s : Spot) (t : Ty) (number : ℕ) (lasting : Bool) (to : ℕ) → (coded s (expr.Iterator t number)).leads lasting to ≡ Stored (if lasting then to else operand_slot (coded s (expr.Iterator t number)) to) 0
leads-Iterator s t number lasting to = ap (λ (c : Coded). c.leads lasting to) (coded-Iterator s t number) ∙ ap (λ (c : Coded). Stored (if lasting then to else operand_slot c to) 0) (sym (coded-Iterator s t number))

pub ruleset known_are = (known-constant, known-Unary, known-Cast, known-Convert)

pub ruleset truths_are = (is_truth-constant, is_truth-Unary, is_truth-Cast, is_truth-Convert, is_truth-Not, is_truth-Logical, is_truth-Binary, is_truth-CanReceive, is_truth-CanSend)

pub ruleset stands_are = (stands-constant, stands-Unary, stands-Cast, stands-Convert, stands-Load, stands-Iterator)

pub ruleset leads_are = (leads-constant, leads-Unary, leads-Cast, leads-Convert, leads-Decay, leads-Address, leads-Load, leads-Iterator)
