-- What is left to do of an action leads to what the action does.
use Rattle.std.proofs.Common.{◌≡◌, ℕ, ◌<◌, List, [], length, Option, Some, None, refl, sym, ap, ◌∙◌, subst, false}
use Rattle.std.specs.Prelude.{IsSomeAnd}
use Rattle.al_event.specs.declared.act.Act.{Act}
use Rattle.al_event.specs.declared.act.Act.TheVariants.{Load, Store, Alloc, Free, NewChan, FreeChan, CanRecv, CanSend, Talk, Proc, Task, Par, Print, Terminate, Pause, Trap, End}
use Rattle.al_event.specs.declared.act.Branch.{Branch}
use Rattle.al_world.specs.Channels.{has_bad, ready}
use Rattle.rv_isa.specs.declared.image.Contents.{Contents}
use Rattle.rv_exec.specs.Answers.{CanAnswer, HasAnswer}
use Rattle.rv_exec.specs.Shown.{CanTake}
use Rattle.task_book.specs.Table.{Table, hart_of}
use Rattle.task_book.specs.Lending.{TakesAnswer, with_held}
use Rattle.al_world.specs.Procs.{first_ready}
use Rattle.std.proofs.lemmas.Option.{same_Some}
use Rattle.rv_exec.specs.declared.run.Asked.{Asked}
use Rattle.al_core.specs.declared.order.Stop.{Stop}
use Rattle.al_core.specs.declared.order.Prepared.{Prepared as What}
use Rattle.al_core.specs.declared.order.Prepared.TheVariants as what
use Rattle.al_core.specs.Acting.{Machinery, Posed, IsDone}
use Rattle.al_core.specs.Preparing.{Prepares, Finishes, GoesBy, WaitsBy, IsLeft, IsHomed, with_table, with_home, over_of, word_in}
use Rattle.al_core.proofs.Requiring.{own_takes}

has_answer : (act : Act) (words : List ℕ) → CanAnswer act words → HasAnswer act
has_answer (Load at size) words c = tt
has_answer (Store at size word) words c = tt
has_answer (Alloc bytes kind) words c = tt
has_answer (Free at kind) words c = tt
has_answer (NewChan capacity n) words c = tt
has_answer (FreeChan chan) words c = tt
has_answer (CanRecv chan) words c = tt
has_answer (CanSend chan) words c = tt
has_answer (Talk branches) words c = tt
has_answer (Proc start) words c = tt
has_answer (Task start) words c = tt
has_answer (Par starts) words c = tt
has_answer (Print text) words c = tt
has_answer (Terminate status) words c = absurd c
has_answer Pause words c = tt
has_answer (Trap trap) words c = absurd c
has_answer End words c = absurd c

-- the same machinery, by its table
pub same_parts : (m parts : Machinery) → with_table m.table parts ≡ m → parts.table ≡ m.table → parts ≡ m
same_parts m parts is table = ap (λ t. with_table t parts) table ∙ is

module _ {image : Contents} {slot : ℕ} {act : Act} {m : Machinery} (P : Posed image slot act m) (pick : ℕ) (parts : Machinery) (table : parts.table ≡ m.table) where
  pub answer_ready : (word : Option ℕ) → Finishes image slot act m P pick (what.Answer word) parts → IsSomeAnd (hart_of parts.table slot) (λ hart. CanTake hart (word_in word))
  answer_ready word f =
      subst (λ (t : Table). IsSomeAnd (hart_of t slot) (λ hart. CanTake hart (word_in word))) (sym table) (own_takes P (word_in word) (has_answer act (word_in word) f.0) f.0)

  pub finish_answer : (word : Option ℕ) (after : Table) → Finishes image slot act m P pick (what.Answer word) parts → TakesAnswer parts.table slot (word_in word) after → IsDone image slot act m P pick None (with_table after parts)
  finish_answer word after f takes = f.1 after (subst (λ (t : Table). TakesAnswer t slot (word_in word) after) table takes)

  pub finish_stop : (stop : Stop) → Finishes image slot act m P pick (what.Stop stop) parts → IsDone image slot act m P pick (over_of P (Some stop)) parts
  finish_stop stop f = subst (λ t. IsDone image slot act m P pick (over_of P (Some stop)) (with_table t parts)) (sym table) f

-- what is known of a machinery, an action and a pick is known of equal ones
pub move : (image : Contents) (slot : ℕ) (m parts : Machinery) (act act' : Act) (pick pick' : ℕ) (after : Machinery) → parts ≡ m → act ≡ act' → pick ≡ pick' → ((P : Posed image slot act' parts) → IsDone image slot act' parts P pick' None after) → (P : Posed image slot act m) → IsDone image slot act m P pick None after
move image slot m parts act act' pick pick' after e a z done =
    subst (λ k. (P : Posed image slot act m) → IsDone image slot act m P k None after) (sym z)
    (subst (λ a. (P : Posed image slot a m) → IsDone image slot a m P pick' None after) (sym a)
    (subst (λ m. (P : Posed image slot act' m) → IsDone image slot act' m P pick' None after) e done))

pub move_posed : (image : Contents) (slot : ℕ) (m parts : Machinery) (act act' : Act) → parts ≡ m → act ≡ act' → Posed image slot act m → Posed image slot act' parts
move_posed image slot m parts act act' e a P = subst (λ m. Posed image slot act' m) (sym e) (subst (λ a. Posed image slot a m) a P)

-- after the task came home the same is left
pub finishes_home : {image : Contents} {slot : ℕ} {act : Act} {m : Machinery} (P : Posed image slot act m) (pick : ℕ) (w : What) (parts : Machinery) (table : Table) → Finishes image slot act m P pick w parts → Finishes image slot act m P pick w (with_table table parts)
finishes_home P pick (what.Answer word) parts table f = f
finishes_home P pick (what.Stop stop) parts table f = f
finishes_home P pick what.Goes parts table f = f
finishes_home P pick what.Waits parts table f = f
finishes_home P pick (what.Task hart) parts table f = f
finishes_home P pick (what.Proc begun) parts table f = f
finishes_home P pick (what.Par all) parts table f = f
finishes_home P pick what.End parts table f = f

-- ---- talks

pub goes_usable : (m parts : Machinery) (pick : ℕ) (act : Act) (branches : List Branch) → parts ≡ m → act ≡ Talk branches → GoesBy m pick act → (has_bad parts.book.book branches ≡ false) × (pick < length (ready parts.book.book branches))
goes_usable m parts pick act branches e a g =
    let same : g.branches ≡ branches = (let i = g.is in cc) in
    subst (λ (m : Machinery). (has_bad m.book.book branches ≡ false) × (pick < length (ready m.book.book branches))) (sym e) (subst (λ bs. (has_bad m.book.book bs ≡ false) × (pick < length (ready m.book.book bs))) same (g.usable, g.within))

pub waits_usable : (m parts : Machinery) (act : Act) (branches : List Branch) → parts ≡ m → act ≡ Talk branches → WaitsBy m act → (has_bad parts.book.book branches ≡ false) × (ready parts.book.book branches ≡ [])
waits_usable m parts act branches e a g =
    let same : g.branches ≡ branches = (let i = g.is in cc) in
    subst (λ (m : Machinery). (has_bad m.book.book branches ≡ false) × (ready m.book.book branches ≡ [])) (sym e) (subst (λ bs. (has_bad m.book.book bs ≡ false) × (ready m.book.book bs ≡ [])) same (g.usable, g.none))

-- ---- an action in two steps

module _ (image : Contents) (asked : Asked) (old mid now : Machinery) (pick : ℕ) (w : What) (prep : Prepares image asked.act pick old w mid) (is : now ≡ with_home asked.held mid) where
  pub table_home : now.table ≡ (with_home asked.held old).table
  table_home = ap (λ (m : Machinery). m.table) is ∙ ap (with_held asked.held) prep.table

  pub acts_left : (slot : ℕ) (P : Posed image slot asked.act (with_home asked.held old)) → Finishes image slot asked.act (with_home asked.held old) P pick w now
  acts_left slot P =
      subst (λ m. Finishes image slot asked.act (with_home asked.held old) P pick w m) (sym is)
      (finishes_home P pick w mid (with_held asked.held mid.table) (prep.finishes slot (with_held asked.held old.table) refl P))

  -- the slot of the first ready task
  pub one_slot : (slot found : ℕ) → first_ready old.table.procs asked.held.proc ≡ Some slot → first_ready mid.table.procs asked.held.proc ≡ Some found → slot ≡ found
  one_slot slot found f g = same_Some slot found (sym f ∙ ap (λ (t : Table). first_ready t.procs asked.held.proc) (sym prep.table) ∙ g)

  pub is_left : (homed : IsHomed image asked old) (found : ℕ) → first_ready mid.table.procs asked.held.proc ≡ Some found → IsLeft found asked.held.proc asked.act pick w now
  is_left homed found g =
      subst (λ k. IsLeft k asked.held.proc asked.act pick w now) (one_slot homed.slot found homed.first g)
      (record { image = image; before = with_home asked.held old; posed = homed.posed; table = table_home; home = homed.home; left = acts_left homed.slot homed.posed })

  pub acts_done : (found : ℕ) (stop : Option Stop) (after : Machinery) → first_ready mid.table.procs asked.held.proc ≡ Some found → ((P : Posed image found asked.act (with_home asked.held old)) → now.table ≡ (with_home asked.held old).table → Finishes image found asked.act (with_home asked.held old) P pick w now → IsDone image found asked.act (with_home asked.held old) P pick (over_of P stop) after) → (slot : ℕ) → first_ready old.table.procs asked.held.proc ≡ Some slot → (P : Posed image slot asked.act (with_home asked.held old)) → IsDone image slot asked.act (with_home asked.held old) P pick (over_of P stop) after
  acts_done found stop after g done slot f =
      subst (λ k. (P : Posed image k asked.act (with_home asked.held old)) → IsDone image k asked.act (with_home asked.held old) P pick (over_of P stop) after) (sym (one_slot slot found f g)) (λ P. done P table_home (acts_left found P))
