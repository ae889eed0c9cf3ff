-- What an operation that agrees says of a slot in a register.
use Rattle.std.proofs.Common.{◌≡◌, ℕ, Bool, true, false, not, ◌&&◌, ◌||◌, List, refl, sym, ◌∙◌, inl, inr, ◌⊎◌}
use Rattle.std.proofs.lemmas.Bool.{false≢true}
use Rattle.al_ir.specs.declared.ir.Ir.{Ir}
use Rattle.al_ir.specs.declared.op.Op.{Op}
use Rattle.rv_regs.specs.Uses.{comes_next}
use Rattle.rv_regs.specs.Marks.{marked, any_marked, agrees, is_in, named_reads, named_writes, may_find, is_call, is_sure}
use Rattle.rv_regs.proofs.Marking.{left_of_and, right_of_and, is_not}

either_is : (a b : Bool) → (a || not b) ≡ true → b ≡ true → a ≡ true
either_is true b e is = refl
either_is false b e is = absurd (false≢true (sym (is_not b e) ∙ is))

not_both : (a b : Bool) → not (a && b) ≡ true → a ≡ true → b ≡ true → ⊥
not_both a b e x y = false≢true (sym (is_not (a && b) e) ∙ rw x y)

-- what an operation says of a slot in a register
pub record Says (ir : Ir) (slot : ℕ) (live : List Bool) (pc : ℕ) (o : Op) : Type 0 where
  pub by_name : may_find ir o slot ≡ true → ⊥
  pub read : is_in slot (named_reads ir o) ≡ true → marked live pc ≡ true
  pub kept : any_marked live (comes_next pc o) ≡ true → ((is_sure o && is_in slot (named_writes ir o)) ≡ true) ⊎ (marked live pc ≡ true)
  pub quiet : any_marked live (comes_next pc o) ≡ true → is_call o ≡ true → ⊥

kept_is : (now next wrote : Bool) → (now || (not next || wrote)) ≡ true → next ≡ true → (wrote ≡ true) ⊎ (now ≡ true)
kept_is true next wrote e n = inr refl
kept_is false true wrote e n = inl e
kept_is false false wrote e n = absurd (false≢true n)

pub says : (ir : Ir) (slot : ℕ) (live : List Bool) (pc : ℕ) (o : Op) → agrees ir slot live pc o ≡ true → Says ir slot live pc o
says ir slot live pc o e =
    let now = marked live pc in
    let next = any_marked live (comes_next pc o) in
    let reading = now || not (is_in slot (named_reads ir o)) in
    let keeping = now || (not next || (is_sure o && is_in slot (named_writes ir o))) in
    let quieting = not (next && is_call o) in
    let rest = right_of_and (not (may_find ir o slot)) (reading && (keeping && quieting)) e in
    let more = right_of_and reading (keeping && quieting) rest in
    record {
      by_name = λ found. false≢true (sym (is_not (may_find ir o slot) (left_of_and (not (may_find ir o slot)) (reading && (keeping && quieting)) e)) ∙ found);
      read = λ is. either_is now (is_in slot (named_reads ir o)) (left_of_and reading (keeping && quieting) rest) is;
      kept = λ is. kept_is now next (is_sure o && is_in slot (named_writes ir o)) (left_of_and keeping quieting more) is;
      quiet = λ is call. not_both next (is_call o) (right_of_and keeping quieting more) is call;
    }
