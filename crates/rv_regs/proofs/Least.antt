-- The least marks of a slot.
use Rattle.std.proofs.Common.{◌≡◌, ℕ, zero, suc, ◌+◌, ◌/◌, ◌<◌, ◌≤◌, nat_lt, Bool, true, false, not, if◌then◌else◌, ◌&&◌, ◌||◌, List, [], ◌∷◌, ◌++◌, length, set, get_or-set_other, length-set, Some, refl, sym, ap, ◌∙◌, subst, arith, inl, inr, ◌⊎◌}
use Rattle.std.specs.Prelude.{slice_get}
use Rattle.std.proofs.lemmas.Bool.{false≢true, cases_eq}
use Rattle.std.proofs.lemmas.Option.{slice_get_within}
use Rattle.al_ir.specs.declared.ir.Operation.{Operation}
use Rattle.al_ir.specs.declared.ir.Function.{Function}
use Rattle.al_ir.specs.declared.ir.Ir.{Ir}
use Rattle.rv_regs.specs.Uses.{comes_next}
use Rattle.rv_regs.specs.Marks.{marked, any_marked, agrees, all_agree, busy_from, busy_of, are_clear, demands, IsSettled, IsWithin, unmarked, is_in, named_reads, named_writes, may_find, is_sure, is_call}
use Rattle.rv_regs.specs.Rows.{row, AreTaken, MayStay}
use Rattle.rv_regs.specs.Widening.{Marks}
use Rattle.rv_regs.proofs.Marking.{agrees_at, left_of_and, right_of_and, is_not, or_true}
use Rattle.rv_regs.proofs.Saying.{says}

one_of : (a b : Bool) → (a || b) ≡ true → (a ≡ true) ⊎ (b ≡ true)
one_of true b e = inl refl
one_of false b e = inr e

some_is : {X : Type 0} (x y : X) → Some x ≡ Some y → x ≡ y
some_is x y e = cc

and_both : (a b : Bool) → a ≡ true → b ≡ true → (a && b) ≡ true
and_both a b e f = rw e f

-- more marks have more operations behind which one is marked
any_more : (a b : List Bool) (pcs : List ℕ) → IsWithin a b → any_marked a pcs ≡ true → any_marked b pcs ≡ true
any_more a b [] within e = e
any_more a b (pc ∷ pcs) within e = elim (one_of (marked a pc) (any_marked a pcs) e) [
  | inl here ↦ rw (within pc here) refl
  | inr there ↦ rw (any_more a b pcs within there) (or_true (marked b pc))
]

-- what fewer marks demand, all marks with which operations agree have
pub demanded : (ir : Ir) (slot : ℕ) (live given : List Bool) (code : List Operation) (pc : ℕ) (o : Operation) → all_agree ir slot given 0 code ≡ true → IsWithin live given
    → slice_get code pc ≡ Some o → demands ir slot live pc o.op ≡ true → marked given pc ≡ true
demanded ir slot live given code pc o all within at e =
    let n : 0 + pc ≡ pc = omega arith in
    let s = says ir slot given pc o.op (subst (λ k. agrees ir slot given k o.op ≡ true) n (agrees_at ir slot given 0 code pc o all at)) in
    let wrote = is_sure o.op && is_in slot (named_writes ir o.op) in
    let next = any_marked live (comes_next pc o.op) in
    elim (one_of (is_in slot (named_reads ir o.op)) (next && not wrote) e) [
      | inl reading ↦ s.read reading
      | inr going ↦ elim (s.kept (any_more live given (comes_next pc o.op) within (left_of_and next (not wrote) going))) [
        | inl written ↦ absurd (false≢true (sym (is_not wrote (right_of_and next (not wrote) going)) ∙ written))
        | inr m ↦ m
      ]
    ]

set_within : (live given : List Bool) (pc : ℕ) → pc < length live → IsWithin live given → marked given pc ≡ true → IsWithin (set live pc true) given
set_within live given pc less within m q e = elim (cases_eq q pc) [
  | inl is ↦ subst (λ k. marked given k ≡ true) (sym is) m
  | inr far ↦ within q (sym (get_or-set_other live pc q true false far) ∙ e)
]

set_fewer : (live : List Bool) (pc : ℕ) → pc < length live → marked live pc ≡ false → unmarked (set live pc true) + 1 ≡ unmarked live
set_fewer [] pc less e = absurd (omega (arith, less))
set_fewer (b ∷ bs) zero less e = rw e (omega arith)
set_fewer (b ∷ bs) (suc k) less e = omega (arith, set_fewer bs k (omega (arith, less)) e)

pub none_more : (marks : List Bool) → ((pc : ℕ) → marked marks pc ≡ false) → (pc : ℕ) → marked (marks ++ false ∷ []) pc ≡ false
none_more [] none zero = refl
none_more [] none (suc k) = refl
none_more (b ∷ bs) none zero = none 0
none_more (b ∷ bs) none (suc k) = none_more bs (λ i. none (suc i)) k

-- ---- a round

-- what is so before the operations are gone over that are fewer than `left`
pub record Round (ir : Ir) (slot : ℕ) (code : List Operation) (old : List Bool) (more : Bool) (new : List Bool) (left : ℕ) : Type 0 where
  pub count : length new ≡ length old
  pub least : (given : List Bool) → all_agree ir slot given 0 code ≡ true → IsWithin old given → IsWithin new given
  pub same : more ≡ false → new ≡ old
  pub settled : more ≡ false → (pc : ℕ) (o : Operation) → left ≤ pc → slice_get code pc ≡ Some o → demands ir slot old pc o.op ≡ true → marked old pc ≡ true
  pub fewer : unmarked new + (if more then 1 else 0) ≤ unmarked old

pub round_begins : (ir : Ir) (slot : ℕ) (code : List Operation) (old : List Bool) → Round ir slot code old false old (length code)
round_begins ir slot code old = record {
  count = refl;
  least = λ given all within. within;
  same = λ e. refl;
  settled = λ e pc o le at d. absurd (omega (arith, le, slice_get_within code pc o at));
  fewer = omega arith;
}

pub round_marks : (ir : Ir) (slot : ℕ) (code : List Operation) (old : List Bool) (more : Bool) (mid new : List Bool) (pc left : ℕ) (o : Operation) → left ≡ pc + 1 → pc < length mid
    → slice_get code pc ≡ Some o → Round ir slot code old more mid left → Marks ir slot mid pc o.op true new → Round ir slot code old true new pc
round_marks ir slot code old more mid new pc left o is less at r m = record {
  count = ap length m.0 ∙ (length-set mid pc true ∙ r.count);
  least = λ given all within. subst (λ marks. IsWithin marks given) (sym m.0) (set_within mid given pc less (r.least given all within) (demanded ir slot mid given code pc o all (r.least given all within) at m.2));
  same = λ e. absurd (false≢true (sym e));
  settled = λ e. absurd (false≢true (sym e));
  fewer = omega (arith, ap unmarked m.0, set_fewer mid pc less m.1, r.fewer);
}

pub round_leaves : (ir : Ir) (slot : ℕ) (code : List Operation) (old : List Bool) (more : Bool) (mid new : List Bool) (pc left : ℕ) (o : Operation) → left ≡ pc + 1
    → slice_get code pc ≡ Some o → Round ir slot code old more mid left → Marks ir slot mid pc o.op false new → Round ir slot code old more new pc
round_leaves ir slot code old more mid new pc left o is at r m =
    subst (λ marks. Round ir slot code old more marks pc) (sym m.0) (record {
      count = r.count;
      least = r.least;
      same = r.same;
      settled = λ e q p le there d. elim (cases_eq q pc) [
        | inl here ↦
            let one : p ≡ o = some_is p o (sym there ∙ (ap (λ k. slice_get code k) here ∙ at)) in
            let mine : demands ir slot mid pc o.op ≡ true = subst (λ marks. demands ir slot marks pc o.op ≡ true) (sym (r.same e)) (subst (λ x. demands ir slot old pc x.op ≡ true) one (subst (λ k. demands ir slot old k p.op ≡ true) here d)) in
            subst (λ k. marked old k ≡ true) (sym here) (subst (λ marks. marked marks pc ≡ true) (r.same e) (m.1 mine))
        | inr far ↦ r.settled e q p (omega (arith, le, is, far)) there d
      ];
      fewer = r.fewer;
    })

-- ---- settled marks that are the least agree where any do

pub all_from : (ir : Ir) (slot : ℕ) (live : List Bool) (at : ℕ) (os : List Operation) → ((k : ℕ) (o : Operation) → slice_get os k ≡ Some o → agrees ir slot live (at + k) o.op ≡ true)
    → all_agree ir slot live at os ≡ true
all_from ir slot live at [] each = refl
all_from ir slot live at (o ∷ os) each =
    let n : at + 0 ≡ at = omega arith in
    let first = subst (λ k. agrees ir slot live k o.op ≡ true) n (each 0 o refl) in
    let rest = all_from ir slot live (at + 1) os (λ k p is. subst (λ i. agrees ir slot live i p.op ≡ true) (let j : at + suc k ≡ (at + 1) + k = omega arith in j) (each (suc k) p is)) in
    and_both (agrees ir slot live at o.op) (all_agree ir slot live (at + 1) os) first rest

or_either : (a b : Bool) → (b ≡ true → a ≡ true) → (a || not b) ≡ true
or_either a true f = rw (f refl) refl
or_either a false f = or_true a

not_is : (a : Bool) → (a ≡ true → ⊥) → not a ≡ true
not_is true never = absurd (never refl)
not_is false never = refl

kept_from : (now next wrote : Bool) → ((next && not wrote) ≡ true → now ≡ true) → (now || (not next || wrote)) ≡ true
kept_from true next wrote f = refl
kept_from false true true f = refl
kept_from false true false f = f refl
kept_from false false wrote f = refl

or_left : (a b : Bool) → a ≡ true → (a || b) ≡ true
or_left a b e = rw e refl

or_right : (a b : Bool) → b ≡ true → (a || b) ≡ true
or_right a b e = rw e (or_true a)

pub least_agree : (ir : Ir) (slot : ℕ) (live given : List Bool) (code : List Operation) → IsSettled ir slot live code → IsWithin live given → all_agree ir slot given 0 code ≡ true
    → all_agree ir slot live 0 code ≡ true
least_agree ir slot live given code settled within all = all_from ir slot live 0 code (λ k o at.
    let n : 0 + k ≡ k = omega arith in
    let s = says ir slot given k o.op (subst (λ i. agrees ir slot given i o.op ≡ true) n (agrees_at ir slot given 0 code k o all at)) in
    let now = marked live k in
    let reading = is_in slot (named_reads ir o.op) in
    let next = any_marked live (comes_next k o.op) in
    let wrote = is_sure o.op && is_in slot (named_writes ir o.op) in
    let by_name = not_is (may_find ir o.op slot) s.by_name in
    let read = or_either now reading (λ e. settled k o at (or_left reading (next && not wrote) e)) in
    let kept = kept_from now next wrote (λ e. settled k o at (or_right reading (next && not wrote) e)) in
    let quiet = not_is (next && is_call o.op) (λ e. s.quiet (any_more live given (comes_next k o.op) within (left_of_and next (is_call o.op) e)) (right_of_and next (is_call o.op) e)) in
    subst (λ i. agrees ir slot live i o.op ≡ true) (sym n)
    (and_both (not (may_find ir o.op slot)) ((now || not reading) && ((now || (not next || wrote)) && not (next && is_call o.op))) by_name
    (and_both (now || not reading) ((now || (not next || wrote)) && not (next && is_call o.op)) read
    (and_both (now || (not next || wrote)) (not (next && is_call o.op)) kept quiet))))

-- ---- more marks are clear nowhere where fewer are not

or_less : (a b w : Bool) → (a ≡ true → b ≡ true) → (a || w) ≡ true → (b || w) ≡ true
or_less a b true f e = or_true b
or_less true b false f e = rw (f refl) refl
or_less false b false f e = absurd (false≢true e)

not_less : (a b t : Bool) → (a ≡ true → b ≡ true) → not (b && t) ≡ true → not (a && t) ≡ true
not_less true b t f e = subst (λ (x : Bool). not (x && t) ≡ true) (f refl) e
not_less false b t f e = refl

clear_less : (ir : Ir) (slot : ℕ) (live given taken : List Bool) (at pc : ℕ) (wrote : Bool) (os : List Operation) → IsWithin live given → are_clear taken at (busy_from ir slot given pc wrote os) ≡ true
    → are_clear taken at (busy_from ir slot live pc wrote os) ≡ true
clear_less ir slot live given taken at pc wrote [] within e = refl
clear_less ir slot live given taken at pc wrote (o ∷ os) within e =
    let rest = busy_from ir slot given (pc + 1) (is_in slot (named_writes ir o.op)) os in
    let less = busy_from ir slot live (pc + 1) (is_in slot (named_writes ir o.op)) os in
    and_both (not ((marked live pc || wrote) && marked taken at)) (are_clear taken (at + 1) less)
    (not_less (marked live pc || wrote) (marked given pc || wrote) (marked taken at) (or_less (marked live pc) (marked given pc) wrote (within pc))
    (left_of_and (not ((marked given pc || wrote) && marked taken at)) (are_clear taken (at + 1) rest) e))
    (clear_less ir slot live given taken (at + 1) (pc + 1) (is_in slot (named_writes ir o.op)) os within
    (right_of_and (not ((marked given pc || wrote) && marked taken at)) (are_clear taken (at + 1) rest) e))

not_clear : (b : Bool) → (b ≡ true → ⊥) → b ≡ false
not_clear true never = absurd (never refl)
not_clear false never = refl

-- all registers are taken for any marks with which operations agree, if they are for the least
pub stays_taken : (ir : Ir) (f : Function) (slot : ℕ) (live : List Bool) (old : List (List Bool)) → ((given : List Bool) → all_agree ir slot given 0 f.code ≡ true → IsWithin live given)
    → AreTaken old (busy_of ir f slot live) → MayStay ir f slot old
stays_taken ir f slot live old least taken given all late near k less =
    not_clear (are_clear (row old k) 0 (busy_of ir f slot given))
    (λ e. false≢true (sym (taken k less) ∙ clear_less ir slot live given (row old k) 0 0 (nat_lt slot f.arguments) f.code (least given all) e))

pub stays_apart : (ir : Ir) (f : Function) (slot : ℕ) (live : List Bool) (old : List (List Bool)) → IsSettled ir slot live f.code
    → ((given : List Bool) → all_agree ir slot given 0 f.code ≡ true → IsWithin live given) → all_agree ir slot live 0 f.code ≡ false → MayStay ir f slot old
stays_apart ir f slot live old settled least none given all late near k less =
    absurd (false≢true (sym none ∙ least_agree ir slot live given f.code settled (least given all) all))

pub stays_given : (ir : Ir) (f : Function) (slot : ℕ) (old : List (List Bool)) → slot < f.arguments → MayStay ir f slot old
stays_given ir f slot old less given all late near k below = absurd (omega (arith, less, late))

pub stays_far : (ir : Ir) (f : Function) (slot : ℕ) (old : List (List Bool)) → 4194304 / (length f.code + 1) < slot → MayStay ir f slot old
stays_far ir f slot old far given all late near k below = absurd (omega (arith, far, near))
