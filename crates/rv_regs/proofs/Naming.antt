-- What operations do with slots, by name or by an address.
use Rattle.std.proofs.Common.{◌≡◌, ℕ, zero, suc, ◌+◌, ◌*◌, ◌<◌, ◌≤◌, Bool, true, false, ◌&&◌, ◌||◌, nat_le, nat_lt, List, [], ◌∷◌, length, get_or, refl, sym, ◌∙◌, subst, arith, inl, inr, ◌⊎◌}
use Rattle.std.proofs.lemmas.Bool.{false≢true, le-leb, lt-ltb, leb-true, ltb-true}
use Rattle.al_ir.specs.declared.ir.Ir.{Ir}
use Rattle.al_ir.specs.declared.op.Op.{Op}
use Rattle.al_ir.specs.declared.op.Op.TheVariants.{Skip, SkipIfZero, SkipIfSet, SkipUnless, GoTo, Back, Turn, Invoke, InvokePointer, Become, Leave, LoadUnits, StoreUnits, Talk, Proc, Task, Par, PutText, Terminate, Trap}
use Rattle.rv_regs.specs.Uses.{Range, IsIn, IsInRange, one, several, channels, sent_by, received, units_count, reads, writes, surely_writes, in_frame, comes_next, calls}
use Rattle.rv_regs.specs.Marks.{is_in, named_reads, named_writes, may_find, is_call, is_sure}
use Rattle.rv_regs.proofs.Branches.{is_in_append, in_three}
use Rattle.rv_regs.proofs.Marking.{left_of_and, right_of_and}

le_is : (a b : ℕ) → a ≤ b → nat_le a b ≡ true
le_is a b le = le-leb a b le

pub lt_is : (a b : ℕ) → a < b → nat_lt a b ≡ true
lt_is a b lt = lt-ltb a b lt

is_le : (a b : ℕ) → nat_le a b ≡ true → a ≤ b
is_le a b e = leb-true a b e

pub is_lt : (a b : ℕ) → nat_lt a b ≡ true → a < b
is_lt a b e = ltb-true a b e

or_left : (a b : Bool) → a ≡ true → (a || b) ≡ true
or_left a b e = rw e refl

or_right : (a b : Bool) → b ≡ true → (a || b) ≡ true
or_right true b e = refl
or_right false b e = e

and_both : (a b : Bool) → a ≡ true → b ≡ true → (a && b) ≡ true
and_both a b e f = rw e f

one_of : (a b : Bool) → (a || b) ≡ true → (a ≡ true) ⊎ (b ≡ true)
one_of true b e = inl refl
one_of false b e = inr e

only_one : (a : Bool) → (a || false) ≡ true → a ≡ true
only_one true e = refl
only_one false e = e

first_in : (t from count : ℕ) → is_in t (several from count) ≡ true → nat_le from t ≡ true
first_in t from count e = left_of_and (nat_le from t) (nat_lt t (from + count)) (only_one (nat_le from t && nat_lt t (from + count)) e)

in_at : (t : ℕ) (rs : List Range) (k : ℕ) (x : Range) → k < length rs → get_or rs k x ≡ x → IsInRange t x → is_in t rs ≡ true
in_at t [] k x less e p = absurd (omega (arith, less))
in_at t (r ∷ rs) zero x less e p =
    let q : IsInRange t r = subst (IsInRange t) (sym e) p in
    or_left (nat_le r.from t && nat_lt t (r.from + r.count)) (is_in t rs)
    (and_both (nat_le r.from t) (nat_lt t (r.from + r.count)) (le_is r.from t q.0) (lt_is t (r.from + r.count) q.1))
in_at t (r ∷ rs) (suc k) x less e p = or_right (nat_le r.from t && nat_lt t (r.from + r.count)) (is_in t rs) (in_at t rs k x (omega (arith, less)) e p)

pub is_in_is : (t : ℕ) (rs : List Range) → IsIn t rs → is_in t rs ≡ true
is_in_is t rs i = in_at t rs i.0 i.1 i.2 i.3 i.4

pub is_in_back : (t : ℕ) (rs : List Range) → is_in t rs ≡ true → IsIn t rs
is_in_back t [] e = absurd (false≢true e)
is_in_back t (r ∷ rs) e = elim (one_of (nat_le r.from t && nat_lt t (r.from + r.count)) (is_in t rs) e) [
  | inl a ↦ (
    0,
    r,
    omega arith,
    refl,
    (is_le r.from t (left_of_and (nat_le r.from t) (nat_lt t (r.from + r.count)) a), is_lt t (r.from + r.count) (right_of_and (nat_le r.from t) (nat_lt t (r.from + r.count)) a)),
  )
  | inr b ↦ let i = is_in_back t rs b in (suc i.0, i.1, omega (arith, i.2), i.3, i.4)
]

pub is_found : (ir : Ir) (o : Op) (t : ℕ) → is_in t (in_frame ir o) ≡ true → may_find ir o t ≡ true
is_found ir (LoadUnits to at offset layout) t e = first_in t to (units_count ir layout) e
is_found ir (StoreUnits at offset layout from) t e = first_in t from (units_count ir layout) e
is_found ir o t e = e

pub is_read : (ir : Ir) (o : Op) (t : ℕ) → is_in t (reads ir o) ≡ true → (is_in t (named_reads ir o) ≡ true) ⊎ (may_find ir o t ≡ true)
is_read ir (StoreUnits at offset layout from) t e =
    elim (one_of (is_in t (one at)) (is_in t (several from (units_count ir layout))) (sym (is_in_append t (one at) (several from (units_count ir layout))) ∙ e)) [
      | inl a ↦ inl a
      | inr b ↦ inr (first_in t from (units_count ir layout) b)
    ]
is_read ir (Talk branches records to got) t e = elim (one_of (is_in t (channels branches)) (is_in t (sent_by branches)) (sym (is_in_append t (channels branches) (sent_by branches)) ∙ e)) [
  | inl a ↦ inl a
  | inr b ↦
      inr
      (in_three t (several records (4 * length branches)) (sent_by branches) (received got branches)
      ∙ or_right (is_in t (several records (4 * length branches))) (is_in t (sent_by branches) || is_in t (received got branches))
      (or_left (is_in t (sent_by branches)) (is_in t (received got branches)) b))
]
is_read ir (Proc function arguments words) t e = inr e
is_read ir (Task function arguments words) t e = inr e
is_read ir (Par functions arguments words records) t e =
    inr
    (is_in_append t (several records (3 * length functions)) (several arguments words)
    ∙ or_right (is_in t (several records (3 * length functions))) (is_in t (several arguments words)) e)
is_read ir o t e = inl e

pub is_written : (ir : Ir) (o : Op) (t : ℕ) → is_in t (writes ir o) ≡ true → (is_in t (named_writes ir o) ≡ true) ⊎ (may_find ir o t ≡ true)
is_written ir (LoadUnits to at offset layout) t e = inr (first_in t to (units_count ir layout) e)
is_written ir (Talk branches records to got) t e =
    let found = in_three t (several records (4 * length branches)) (sent_by branches) (received got branches) in
    let a = is_in t (several records (4 * length branches)) in
    let b = is_in t (sent_by branches) in
    let c = is_in t (received got branches) in
    elim (one_of (is_in t (one to)) (a || c) (sym (in_three t (one to) (several records (4 * length branches)) (received got branches)) ∙ e)) [
      | inl x ↦ inl x
      | inr y ↦ inr (found ∙ elim (one_of a c y) [ inl z ↦ or_left a (b || c) z | inr z ↦ or_right a (b || c) (or_right b c z) ])
    ]
is_written ir (Par functions arguments words records) t e =
    inr
    (is_in_append t (several records (3 * length functions)) (several arguments words)
    ∙ or_left (is_in t (several records (3 * length functions))) (is_in t (several arguments words)) e)
is_written ir o t e = inl e

-- those that are surely written
pub is_surely : (ir : Ir) (o : Op) (t : ℕ) → (is_sure o && is_in t (named_writes ir o)) ≡ true → is_in t (surely_writes ir o) ≡ true
is_surely ir (LoadUnits to at offset layout) t e = absurd (false≢true e)
is_surely ir (Par functions arguments words records) t e = absurd (false≢true e)
is_surely ir (Talk branches records to got) t e =
    is_in_append t (one to) (several records (4 * length branches)) ∙ or_left (is_in t (one to)) (is_in t (several records (4 * length branches))) e
is_surely ir (PutText at) t e = absurd (false≢true e)
is_surely ir o t e = e

pub is_calling : (o : Op) → calls o → is_call o ≡ true
is_calling (Invoke function arguments) c = refl
is_calling (InvokePointer class pointer arguments) c = refl
is_calling o c = absurd c

-- behind an operation that writes comes the one behind it
pub only_next : (ir : Ir) (o : Op) (t pc : ℕ) → is_in t (named_writes ir o) ≡ true → comes_next pc o ≡ (pc + 1) ∷ []
only_next ir (Skip count) t pc e = absurd (false≢true e)
only_next ir (SkipIfZero slot count) t pc e = absurd (false≢true e)
only_next ir (SkipIfSet slot count) t pc e = absurd (false≢true e)
only_next ir (SkipUnless op signed left right count) t pc e = absurd (false≢true e)
only_next ir (GoTo to) t pc e = absurd (false≢true e)
only_next ir (Back count) t pc e = absurd (false≢true e)
only_next ir (Turn to) t pc e = absurd (false≢true e)
only_next ir (Become function arguments) t pc e = absurd (false≢true e)
only_next ir (Leave words) t pc e = absurd (false≢true e)
only_next ir (Terminate status) t pc e = absurd (false≢true e)
only_next ir (Trap trap) t pc e = absurd (false≢true e)
only_next ir o t pc e = refl
