-- Lists of marks.
use Rattle.std.proofs.Common.{◌≡◌, ℕ, zero, suc, ◌+◌, ◌<◌, Bool, true, false, not, ◌&&◌, ◌||◌, List, [], ◌∷◌, length, get_or, Some, None, refl, sym, ap, ◌∙◌, subst, arith}
use Rattle.std.specs.Prelude.{slice_get}
use Rattle.std.proofs.lemmas.Bool.{false≢true}
use Rattle.al_ir.specs.declared.ir.Operation.{Operation}
use Rattle.al_ir.specs.declared.ir.Ir.{Ir}
use Rattle.rv_regs.specs.Marks.{marked, any_marked, agrees, all_agree, busy_from, are_clear, is_in, named_writes}

pub left_of_and : (a b : Bool) → (a && b) ≡ true → a ≡ true
left_of_and true b e = refl
left_of_and false b e = e

pub right_of_and : (a b : Bool) → (a && b) ≡ true → b ≡ true
right_of_and true b e = e
right_of_and false b e = absurd (false≢true e)

pub is_not : (a : Bool) → not a ≡ true → a ≡ false
is_not true e = sym e
is_not false e = refl

-- an operation among these agrees
pub agrees_at : (ir : Ir) (slot : ℕ) (live : List Bool) (at : ℕ) (os : List Operation) (k : ℕ) (o : Operation) → all_agree ir slot live at os ≡ true → slice_get os k ≡ Some o
    → agrees ir slot live (at + k) o.op ≡ true
agrees_at ir slot live at [] k o e is = absurd (let none : None ≡ Some o = is in cc)
agrees_at ir slot live at (p ∷ os) zero o e is =
    let same : p ≡ o = cc in
    let n : at + 0 ≡ at = omega arith in
    rw n (subst (λ (q : Operation). agrees ir slot live at q.op ≡ true) same (left_of_and (agrees ir slot live at p.op) (all_agree ir slot live (at + 1) os) e))
agrees_at ir slot live at (p ∷ os) (suc k) o e is =
    let n : at + suc k ≡ (at + 1) + k = omega arith in
    rw n (agrees_at ir slot live (at + 1) os k o (right_of_and (agrees ir slot live at p.op) (all_agree ir slot live (at + 1) os) e) is)

-- a register is busy before an operation before which its slot is live
pub busy_where_live : (ir : Ir) (slot : ℕ) (live : List Bool) (at : ℕ) (wrote : Bool) (os : List Operation) (k : ℕ) → k < length os → marked live (at + k) ≡ true
    → marked (busy_from ir slot live at wrote os) k ≡ true
busy_where_live ir slot live at wrote [] k less e = absurd (omega (arith, less))
busy_where_live ir slot live at wrote (o ∷ os) zero less e =
    let n : at ≡ at + 0 = omega arith in
    rw n (rw e refl)
busy_where_live ir slot live at wrote (o ∷ os) (suc k) less e =
    let n : at + suc k ≡ (at + 1) + k = omega arith in
    busy_where_live ir slot live (at + 1) (is_in slot (named_writes ir o.op)) os k (omega (arith, less)) (ap (λ i. marked live i) (sym n) ∙ e)

pub or_true : (a : Bool) → (a || true) ≡ true
or_true true = refl
or_true false = refl

-- and at the first where it was written before
pub busy_at_first : (ir : Ir) (slot : ℕ) (live : List Bool) (at : ℕ) (os : List Operation) → 0 < length os → marked (busy_from ir slot live at true os) 0 ≡ true
busy_at_first ir slot live at [] some = absurd (omega (arith, some))
busy_at_first ir slot live at (o ∷ os) some = or_true (marked live at)

-- and behind one that writes it
pub busy_behind : (ir : Ir) (slot : ℕ) (live : List Bool) (at : ℕ) (wrote : Bool) (os : List Operation) (k : ℕ) (o : Operation) → slice_get os k ≡ Some o
    → is_in slot (named_writes ir o.op) ≡ true → k + 1 < length os → marked (busy_from ir slot live at wrote os) (k + 1) ≡ true
busy_behind ir slot live at wrote [] k o is writes less = absurd (omega (arith, less))
busy_behind ir slot live at wrote (p ∷ os) zero o is writes less =
    let same : p ≡ o = cc in
    let w : is_in slot (named_writes ir p.op) ≡ true = ap (λ (q : Operation). is_in slot (named_writes ir q.op)) same ∙ writes in
    rw w (busy_at_first ir slot live (at + 1) os (omega (arith, less)))
busy_behind ir slot live at wrote (p ∷ os) (suc k) o is writes less =
    let n : suc k + 1 ≡ suc (k + 1) = omega arith in
    rw n (busy_behind ir slot live (at + 1) (is_in slot (named_writes ir p.op)) os k o is writes (omega (arith, less)))

-- no operation is marked in both
pub clear_at : (taken : List Bool) (at : ℕ) (busy : List Bool) (k : ℕ) → are_clear taken at busy ≡ true → marked busy k ≡ true → marked taken (at + k) ≡ false
clear_at taken at [] k e m = absurd (false≢true m)
clear_at taken at (b ∷ bs) zero e m =
    let n : at + 0 ≡ at = omega arith in
    let never = is_not (b && marked taken at) (left_of_and (not (b && marked taken at)) (are_clear taken (at + 1) bs) e) in
    rw n (subst (λ (x : Bool). (x && marked taken at) ≡ false) m never)
clear_at taken at (b ∷ bs) (suc k) e m =
    let n : at + suc k ≡ (at + 1) + k = omega arith in
    rw n (clear_at taken (at + 1) bs k (right_of_and (not (b && marked taken at)) (are_clear taken (at + 1) bs) e) m)

pub any_at : (live : List Bool) (pcs : List ℕ) (k next : ℕ) → k < length pcs → get_or pcs k next ≡ next → marked live next ≡ true → any_marked live pcs ≡ true
any_at live [] k next less is m = absurd (omega (arith, less))
any_at live (pc ∷ pcs) zero next less is m = rw is (rw m refl)
any_at live (pc ∷ pcs) (suc k) next less is m = rw (any_at live pcs k next (omega (arith, less)) is m) (or_true (marked live pc))
