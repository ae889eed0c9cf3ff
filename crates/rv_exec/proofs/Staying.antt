-- The machine as a kind of control whose numbers have 32 bits.
use Rattle.std.proofs.Common.{◌≡◌, ℕ, zero, suc, ◌+◌, ◌-◌, ◌%◌, ◌^◌, ◌<◌, ◌≤◌, nat_le, nat_lt, Bool, true, false, ◌&&◌, if◌then◌else◌, List, [], ◌∷◌, length, drop, slice_get, slice_index, refl, sym, subst, arith, lit<, lit≤}
use Rattle.std.specs.List.{AllByRecursion}
use Rattle.std.proofs.Math.Nat.{mod-lt, pow-le-pow_right}
use Rattle.std.proofs.lemmas.Bool.Decides.{nat_tests}
use Rattle.al_base.specs.declared.trap.Trap.TheVariants.{Illegal}
use Rattle.al_event.specs.declared.act.Branch.{Branch}
use Rattle.al_event.specs.declared.act.Act.{Act}
use Rattle.al_event.specs.declared.act.Act.TheVariants.{Load, Store, Alloc, Free, NewChan, FreeChan, CanRecv, CanSend, Talk, Proc, Task, Par, Print, Terminate, Pause, Trap as Traps, End}
use Rattle.al_world.specs.Control.{Asked, cut, received_by, branch_in, fitted}
use Rattle.al_world.specs.Answers.{AsksProperly, StaysProper}
use Rattle.rv_isa.specs.declared.image.Contents.{Contents}
use Rattle.rv_exec.specs.declared.state.Waits.{Waits}
use Rattle.rv_exec.specs.declared.state.Waits.TheVariants.{Done, Unit as UnitWaits, Word, Talk as TalkWaits}
use Rattle.rv_exec.specs.Hart.{Hart, first_registers}
use Rattle.rv_exec.specs.Windows.{put_words}
use Rattle.rv_exec.specs.Calls.{Privates, Move, Goes, Asks}
use Rattle.rv_exec.specs.Step.{step}
use Rattle.rv_exec.specs.Machine.{machine, asked, asked_within, longest_stretch, told, place_of, resumed}
use Rattle.rv_exec.specs.Proper.{AreBelow, IsHart, AnswersWords, propriety}
use Rattle.rv_exec.proofs.Values.{extended_below}
use Rattle.rv_exec.proofs.Ending.{after, with_more}
use Rattle.rv_exec.proofs.Propriety.{IsAskedProperly, StaysWords, below_put, plain}
use Rattle.rv_exec.proofs.Calling.{step_stays}

-- ---- asks

asks_so : (image : Contents) (act : Act) (h : Hart) (p : Privates) → IsAskedProperly act → IsHart h → AreBelow p → AsksProperly propriety (asked image act h p)
asks_so image act h p a is all = record {
  act = a.proper;
  control = (a.answers, record { registers = is.registers; stack = is.stack });
  privates = all;
  starts = a.starts;
}

within : (image : Contents) → length image.code ≤ 2 ^ 23 → (most : ℕ) (h : Hart) (p : Privates) → IsHart h → AreBelow p → AsksProperly propriety (asked_within image most h p)
within image small zero h p is all = asks_so image (Traps Illegal) h p (plain (Traps Illegal) tt tt tt) is all
within image small (suc most) h p is all =
    subst (λ (a : Asked Hart Privates). AsksProperly propriety a) (sym (with_more image most h p))
    (on (λ next q good below. within image small most next q good below) (step image h p) (step_stays image h p small is all)) where
      on : ((next : Hart) (q : Privates) → IsHart next → AreBelow q → AsksProperly propriety (asked_within image most next q))
          → (m : Move) → StaysWords m → AsksProperly propriety (after image most m)
      on again (Goes next q) stays = again next q stays.0 stays.1
      on again (Asks act waiting q) stays = asks_so image act waiting q stays.0 stays.1 stays.2

-- ---- answers

abbrev Each : List ℕ → Type 0
Each words = AllByRecursion (λ w. w < 2 ^ 32) words

cut_each : (n m : ℕ) (words : List ℕ) → 0 < m → m ≤ 2 ^ 32 → Each (cut n m words)
cut_each zero m words some few = tt
cut_each (suc n) m [] some few = (lit< tt, cut_each n m [] some few)
cut_each (suc n) m (w ∷ words) some few = let less : w % m < m = mod-lt w some in (omega arith, cut_each n m words some few)

powers : (size : ℕ) → size ≤ 4 → (0 < 256 ^ size) × (256 ^ size ≤ 2 ^ 32)
powers size few =
    let none : 0 ≤ size = omega arith in
    let low : 256 ^ 0 ≤ 256 ^ size = pow-le-pow_right {n = 256} (lit< tt) {i = 0} {j = size} none in
    let high : 256 ^ size ≤ 256 ^ 4 = pow-le-pow_right {n = 256} (lit< tt) {i = size} {j = 4} few in
    (omega (arith, low), omega (arith, high))

branch_below : (branches : List Branch) (i : ℕ) → length branches ≤ 64 → branch_in branches i < 2 ^ 32
branch_below branches i few = on (nat_lt i (length branches)) refl where
  on : (b : Bool) → nat_lt i (length branches) ≡ b → (if b then i else 0) < 2 ^ 32
  on true e = let less : i < length branches = grind (arith, nat_tests, e) in omega arith
  on false e = lit< tt

fitted_each : (act : Act) (words : List ℕ) → AnswersWords act → Each (fitted act words)
fitted_each (Load at size) words few = let p = powers size few in cut_each 1 (256 ^ size) words p.0 p.1
fitted_each (Store at size word) words few = tt
fitted_each (Alloc bytes kind) words few = cut_each 1 (2 ^ 32) words (lit< tt) (lit≤ tt)
fitted_each (Free at kind) words few = tt
fitted_each (NewChan capacity words_each) words few = cut_each 1 (2 ^ 32) words (lit< tt) (lit≤ tt)
fitted_each (FreeChan chan) words few = tt
fitted_each (CanRecv chan) words few = cut_each 1 2 words (lit< tt) (lit≤ tt)
fitted_each (CanSend chan) words few = cut_each 1 2 words (lit< tt) (lit≤ tt)
fitted_each (Talk branches) words few = (
  branch_below branches (slice_index words 0) few,
  cut_each (received_by (slice_get branches (branch_in branches (slice_index words 0)))) (2 ^ 32) (drop 1 words) (lit< tt) (lit≤ tt),
)
fitted_each (Proc start) words few = tt
fitted_each (Task start) words few = tt
fitted_each (Par starts) words few = tt
fitted_each (Print text) words few = tt
fitted_each (Terminate status) words few = tt
fitted_each Pause words few = tt
fitted_each (Traps trap) words few = tt
fitted_each End words few = tt

index_below : (words : List ℕ) → Each words → AreBelow (λ n. slice_index words n)
index_below [] each n = lit< tt
index_below (w ∷ words) each zero = each.0
index_below (w ∷ words) each (suc n) = index_below words each.1 n

drop_each : (words : List ℕ) → Each words → Each (drop 1 words)
drop_each [] each = tt
drop_each (w ∷ words) each = each.1

put_words_below : (f : ℕ → ℕ) (first : ℕ) (words : List ℕ) → AreBelow f → Each words → AreBelow (put_words f first words)
put_words_below f first words good each n = on (nat_le first n && nat_lt n (first + length words)) where
  on : (b : Bool) → (if b then slice_index words (n - first) else f n) < 2 ^ 32
  on true = index_below words each (n - first)
  on false = good n

told_good : (waits : Waits) (words : List ℕ) (h : Hart) → IsHart h → Each words → IsHart (told waits words h)
told_good Done words h is each = is
told_good (UnitWaits op rd) words h is each =
    record { registers = below_put h.registers rd _ is.registers (extended_below op _ (index_below words each 0)); stack = is.stack }
told_good Word words h is each = record { registers = below_put h.registers 10 _ is.registers (index_below words each 0); stack = is.stack }
told_good TalkWaits words h is each = record {
  registers = below_put h.registers 10 _ is.registers (index_below words each 0);
  stack = put_words_below h.stack (place_of h (slice_index words 0)) (drop 1 words) is.stack (drop_each words each);
}

resumed_good : (act : Act) (h : Hart) (words : List ℕ) → AnswersWords act × IsHart h → IsHart (resumed h (fitted act words))
resumed_good act h words (few, is) =
    let good = told_good h.waits (fitted act words) h is (fitted_each act words few) in
    record { registers = below_put _ 3 4096 good.registers (lit< tt); stack = good.stack }

-- ---- starts

zeros : AreBelow (λ n. 0)
zeros n = lit< tt

first_good : AreBelow first_registers
first_good = below_put _ 4 _ (below_put _ 3 _ (below_put _ 2 _ (below_put (λ n. 0) 1 _ zeros (lit< tt)) (lit< tt)) (lit< tt)) (lit< tt)

pub stays_proper : (image : Contents) → length image.code ≤ 2 ^ 23 → StaysProper (machine image) propriety
stays_proper image small = record {
  asks = λ h p is all. within image small (longest_stretch - h.work) h p is all;
  resumes = λ act h words good. resumed_good act h words good;
  starts = λ start each. record { registers = first_good; stack = put_words_below (λ n. 0) 0 start.words zeros each };
  fresh = zeros;
}
