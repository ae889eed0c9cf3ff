-- Runs of the machine that lead from one hart to another, or to an ask, however many instructions are left.
use Rattle.std.proofs.Common.{◌≡◌, ℕ, suc, ◌+◌, ◌-◌, ◌/◌, ◌%◌, ◌^◌, ◌<◌, ◌≤◌, ◌==◌, Bool, true, ◌&&◌, nat_le, if◌then◌else◌, List, [], ◌∷◌, ◌++◌, length, map, slice_get, Option, Some, None, refl, sym, ap, ◌∙◌, arith, subst, append_assoc, length-append}
use Rattle.std.proofs.lemmas.Bool.Decides.{nat_tests}
use Rattle.al_event.specs.declared.act.Act.{Act}
use Rattle.al_world.specs.Control.{Asked}
use Rattle.rv_isa.specs.declared.addresses.TheConstants.{CODE_START}
use Rattle.rv_isa.specs.declared.image.Contents.{Contents}
use Rattle.rv_isa.specs.declared.instr.Instr.{Instr}
use Rattle.rv_isa.specs.Table.{instruction_of}
use Rattle.rv_exec.specs.Hart.{Hart}
use Rattle.rv_exec.specs.Calls.{Privates, Move, Goes, Asks}
use Rattle.rv_exec.specs.Step.{step, performed, performed_if_any, executed, executed_if_any, word_at}
use Rattle.rv_exec.specs.Machine.{ask, asked, asked_within, longest_stretch}
use Rattle.rv_code.specs.Jumps.{place}
use Rattle.rv_code.specs.Runs.{At, Stands, Fine, Leads, Comes}
use Rattle.rv_exec.proofs.Ending.{never_comes_to_bound, after, with_more}
use Rattle.rv_exec.proofs.Propriety.{StaysWords}
use Rattle.rv_exec.proofs.Calling.{step_stays}

pub stands_front : (code : List ℕ) (at : ℕ) (a b : List Instr) → Stands code at (a ++ b) → Stands code at a
stands_front code at [] b h = tt
stands_front code at (i ∷ a) b h = (h.0, stands_front code (at + 1) a b h.1)

pub stands_back : (code : List ℕ) (at : ℕ) (a b : List Instr) → Stands code at (a ++ b) → Stands code (at + length a) b
stands_back code at [] b h = let e : at ≡ at + 0 = omega arith in subst (λ n. Stands code n b) e h
stands_back code at (i ∷ a) b h =
    let e : at + 1 + length a ≡ at + length (i ∷ a) = omega arith in
    subst (λ n. Stands code n b) e (stands_back code (at + 1) a b h.1)

-- code that decodes to these instructions has each part of them at its place
get_front : (before : List ℕ) (w : ℕ) (rest : List ℕ) → slice_get (before ++ w ∷ rest) (length before) ≡ Some w
get_front [] w rest = refl
get_front (b ∷ before) w rest = get_front before w rest

pub stands_in : (code before words rest : List ℕ) (is : List Instr) → code ≡ before ++ (words ++ rest) → map instruction_of words ≡ map Some is
    → Stands code (length before) is
stands_in code before [] rest [] e r = tt
stands_in code before [] rest (i ∷ is) e r = absurd (cc)
stands_in code before (w ∷ words) rest [] e r = absurd (cc)
stands_in code before (w ∷ words) rest (i ∷ is) e r =
    let at : length (before ++ w ∷ []) ≡ length before + 1 = omega (arith, length-append before (w ∷ [])) in (
      (w, ap (λ (c : List ℕ). slice_get c (length before)) e ∙ get_front before w (words ++ rest), cc),
      subst (λ n. Stands code n is) at (stands_in code (before ++ w ∷ []) words rest is (e ∙ sym (append_assoc before (w ∷ []) (words ++ rest))) (cc)),
    )

word_there : (code : List ℕ) (at w pc : ℕ) → slice_get code at ≡ Some w → pc ≡ place at → word_at code pc ≡ Some w
word_there code at w pc is e =
    let start : nat_le CODE_START pc ≡ true = grind (arith, nat_tests, e) in
    let even : (pc % 4 == 0) ≡ true = grind (arith, nat_tests, e) in
    let number : (pc - CODE_START) / 4 ≡ at = omega (arith, e) in
    on (nat_le CODE_START pc) (pc % 4 == 0) ((pc - CODE_START) / 4) start even number where
      on : (b c : Bool) (n : ℕ) → b ≡ true → c ≡ true → n ≡ at → (if b && c then slice_get code n else None) ≡ Some w
      on b c n p q e = rw (p, q, e) is

-- a hart that has fetched a word more
abbrev pub fetched : Hart → Hart
fetched h = record h { work = h.work + 1 }

performs : (image : Contents) (w : ℕ) (i : Instr) (h : Hart) (p : Privates) → instruction_of w ≡ Some i → performed w image h p ≡ executed i image (fetched h) p
unfolding performed
performs image w i h p e = ap (λ (o : Option Instr). executed_if_any o image (fetched h) p) e

pub steps_by : (image : Contents) (at : ℕ) (i : Instr) (h : Hart) (p : Privates)
    → At image.code at i → h.pc ≡ place at → step image h p ≡ executed i image (fetched h) p
steps_by image at i h p has e =
    ap (λ (o : Option ℕ). performed_if_any o image h p) (word_there image.code at has.0 h.pc has.1 e) ∙ performs image has.0 i h p has.2

module _ (image : Contents) where
  pub stays : {h : Hart} {p : Privates} → Leads image h p h p
  stays {h} {p} = record { count = 0; by = λ m. let e : 0 + m ≡ m = omega arith in ap (λ n. asked_within image n h p) e; fine = λ f. f }

  pub then_leads : {h i j : Hart} {p q r : Privates} → Leads image h p i q → Leads image i q j r → Leads image h p j r
  then_leads {h} {i} {j} {p} {q} {r} a b = record {
    count = a.count + b.count;
    by = λ m. let e : a.count + b.count + m ≡ a.count + (b.count + m) = omega arith in
        ap (λ n. asked_within image n h p) e ∙ a.by (b.count + m) ∙ b.by m;
    fine = λ f. b.fine (a.fine f);
  }

  pub then_comes : {h i : Hart} {p q : Privates} {a : Asked Hart Privates} → Leads image h p i q → Comes image i q a → Comes image h p a
  then_comes {h} {i} {p} {q} {a} l c = record {
    count = l.count + c.count;
    by = λ m. let e : l.count + c.count + m ≡ l.count + (c.count + m) = omega arith in
        ap (λ n. asked_within image n h p) e ∙ l.by (c.count + m) ∙ c.by m;
  }

  goes_fine : (m : Move) (next : Hart) (q : Privates) → StaysWords m → m ≡ Goes next q → Fine next q
  goes_fine m next q s e = let t : StaysWords (Goes next q) = subst StaysWords e s in record { hart = t.0; privates = t.1 }

  -- one instruction
  pub one : {h next : Hart} {p q : Privates} (small : length image.code ≤ 2 ^ 23) (i : Instr) (at : ℕ) → At image.code at i → h.pc ≡ place at
      → executed i image (fetched h) p ≡ Goes next q → Leads image h p next q
  one {h} {next} {p} {q} small i at has e does = record {
    count = 1;
    fine = λ f. goes_fine _ next q (step_stays image h p small f.hart f.privates) (steps_by image at i h p has e ∙ does);
    by = λ m. let n : 1 + m ≡ suc m = omega arith in ap (λ k. asked_within image k h p) n ∙ with_more image m h p ∙ ap (after image m) (steps_by image at i h p has e ∙ does);
  }

  -- whatever one step does
  pub goes_leads : {h next : Hart} {p q : Privates} (small : length image.code ≤ 2 ^ 23) → step image h p ≡ Goes next q → Leads image h p next q
  goes_leads {h} {next} {p} {q} small e = record {
    count = 1;
    fine = λ f. goes_fine _ next q (step_stays image h p small f.hart f.privates) e;
    by = λ m. let n : 1 + m ≡ suc m = omega arith in ap (λ k. asked_within image k h p) n ∙ with_more image m h p ∙ ap (after image m) e;
  }

  pub last : {h waiting : Hart} {p q : Privates} {act : Act} (i : Instr) (at : ℕ) → At image.code at i → h.pc ≡ place at
      → executed i image (fetched h) p ≡ Asks act waiting q → Comes image h p (asked image act waiting q)
  last {h} {waiting} {p} {q} {act} i at has e does = record {
    count = 1;
    by = λ m. let n : 1 + m ≡ suc m = omega arith in ap (λ k. asked_within image k h p) n ∙ with_more image m h p ∙ ap (after image m) (steps_by image at i h p has e ∙ does);
  }

  -- what a hart at the start of a stretch comes to is what it asks
  pub it_asks : {h : Hart} {p : Privates} {a : Asked Hart Privates} → length image.code ≤ 2 ^ 23 → h.pc < 2 ^ 32 → h.jumps ≡ 0 → h.work ≡ 0
      → Comes image h p a → ask image h p ≡ a
  it_asks {h} {p} {a} small near jumps work c =
      let e : longest_stretch + c.count ≡ c.count + longest_stretch = omega arith in
      sym (never_comes_to_bound image small h p c.count near jumps work) ∙ ap (λ n. asked_within image n h p) e ∙ c.by longest_stretch
