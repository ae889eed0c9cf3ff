-- Harts whose numbers have 32 bits, as the laws on what a world answers ask for.
use Rattle.std.specs.Prelude.{ℕ, ◌^◌, ◌<◌, ◌≤◌, length}
use Rattle.std.specs.List.{AllByRecursion}
use Rattle.al_event.specs.declared.act.Act.{Act}
use Rattle.al_event.specs.declared.act.Act.TheVariants.{Load, Talk}
use Rattle.al_world.specs.Answers.{Propriety}
use Rattle.rv_exec.specs.Hart.{Hart}
use Rattle.rv_exec.specs.Calls.{Privates}

abbrev pub AreBelow : (ℕ → ℕ) → Type 0
AreBelow f = (n : ℕ) → f n < 2 ^ 32

-- registers and stack words have 32 bits
pub record IsHart (h : Hart) : Type 0 where
  pub registers : AreBelow h.registers
  pub stack : AreBelow h.stack

-- each answer of the action is of words
abbrev pub AnswersWords : Act → Type 0
AnswersWords (Load at size) = size ≤ 4
AnswersWords (Talk branches) = length branches ≤ 64
AnswersWords _ = Unit {0}

abbrev pub propriety : Propriety Hart Privates
propriety = record {
  Going = IsHart;
  Waiting = λ act h. AnswersWords act × IsHart h;
  Private = AreBelow;
  IsStart = λ start. AllByRecursion (λ w. w < 2 ^ 32) start.words;
}
