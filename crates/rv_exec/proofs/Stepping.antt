-- One instruction of a stretch.
use Rattle.std.proofs.Common.{◌≡◌, ℕ, suc, ◌+◌, ◌-◌, ◌<◌, ◌≤◌, Option, Some, None, sym, ap, ◌∙◌, refl, arith}
use Rattle.al_base.specs.declared.trap.Trap.TheVariants.{Illegal}
use Rattle.al_event.specs.declared.act.Act.{Act}
use Rattle.al_event.specs.declared.act.Act.TheVariants.{Trap as Traps}
use Rattle.rv_isa.specs.Table.{instruction_of}
use Rattle.rv_isa.specs.declared.instr.Instr.{Instr}
use Rattle.rv_isa.specs.declared.image.Contents.{Contents}
use Rattle.rv_exec.specs.Hart.{Hart}
use Rattle.rv_exec.specs.Calls.{Privates, Move, Goes, Asks, illegal}
use Rattle.rv_exec.specs.Step.{executed, executed_if_any, performed, step}
use Rattle.al_world.specs.Control.{Asked}
use Rattle.rv_exec.specs.Machine.{ask, asked, asked_within, longest_stretch}

pub performed_some : (word : ℕ) (image : Contents) (instr : Instr) (h : Hart) (p : Privates) → instruction_of word ≡ Some instr
    → executed instr image (record h { work = h.work + 1 }) p ≡ performed word image h p
unfolding performed
performed_some word image instr h p is = ap (λ (i : Option Instr). executed_if_any i image (record h { work = h.work + 1 }) p) (sym is)

pub performed_none : (word : ℕ) (image : Contents) (h : Hart) (p : Privates) → instruction_of word ≡ None
    → illegal (record h { work = h.work + 1 }) p ≡ performed word image h p
unfolding performed
performed_none word image h p is = ap (λ (i : Option Instr). executed_if_any i image (record h { work = h.work + 1 }) p) (sym is)

-- what is asked after a move, with so many instructions left
abbrev after : Contents → ℕ → Move → Asked Hart Privates
after image most (Goes next q) = asked_within image most next q
after image most (Asks act waiting q) = asked image act waiting q

module _ (image : Contents) (h : Hart) (p : Privates) where
  one_step : (most : ℕ) (m : Move) → m ≡ step image h p → after image most m ≡ asked_within image (suc most) h p
  one_step most m e = rw e (on (step image h p)) where
    on : (m : Move) → after image most m ≡ elim m [ Goes next q ↦ asked_within image most next q | Asks act waiting q ↦ asked image act waiting q ]
    on (Goes next q) = refl
    on (Asks act waiting q) = refl

  left : h.work < longest_stretch → longest_stretch - h.work ≡ suc (longest_stretch - (h.work + 1))
  left less = omega arith

  pub goes_on : (next : Hart) (q : Privates) → h.work < longest_stretch → next.work ≡ h.work + 1 → Goes next q ≡ step image h p
      → ask image next q ≡ ask image h p
  goes_on next q less work e =
      ap (λ n. asked_within image (longest_stretch - n) next q) work
      ∙ one_step (longest_stretch - (h.work + 1)) (Goes next q) e
      ∙ ap (λ n. asked_within image n h p) (sym (left less))

  pub asks_act : (act : Act) (waiting : Hart) (q : Privates) → h.work < longest_stretch → Asks act waiting q ≡ step image h p
      → asked image act waiting q ≡ ask image h p
  asks_act act waiting q less e =
      one_step (longest_stretch - (h.work + 1)) (Asks act waiting q) e ∙ ap (λ n. asked_within image n h p) (sym (left less))

  none_left : longest_stretch ≤ h.work → longest_stretch - h.work ≡ 0
  none_left more = omega arith

  pub ends : longest_stretch ≤ h.work → asked image (Traps Illegal) h p ≡ ask image h p
  ends more = ap (λ n. asked_within image n h p) (sym (none_left more))
