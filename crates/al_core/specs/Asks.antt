-- What the machine asks: within the bounds of its runtime calls.
use Rattle.std.specs.Prelude.{◌≤◌, ◌<◌, ◌^◌, IsTrue, List, length}
use Rattle.std.specs.List.{AllByRecursion}
use Rattle.al_event.specs.declared.act.Branch.{Branch}
use Rattle.al_event.specs.declared.act.Start.{Start}
use Rattle.al_event.specs.declared.act.Act.{Act}
use Rattle.al_event.specs.declared.act.Act.TheVariants.{Load, Store, Alloc, NewChan, Talk, Proc, Task, Par, Print}
use Rattle.al_store.specs.Memory.{IsWidth}
use Rattle.al_world.specs.Answers.{SendsWords}
use Rattle.rv_isa.specs.declared.image.Contents.{Contents}
use Rattle.rv_exec.specs.Calls.{has_function, longest_text}

-- a branch of at most 1,024 words, with as many where it sends
pub record IsBranch (b : Branch) : Type 0 where
  pub words : b.words ≤ 1024
  pub sends : SendsWords b.words b.send

pub record IsTalk (branches : List Branch) : Type 0 where
  pub some : 1 ≤ length branches
  pub most : length branches ≤ 64
  pub each : AllByRecursion IsBranch branches

-- a function that the image has, with as many words as it has parameters
pub record IsStart (image : Contents) (start : Start) : Type 0 where
  pub known : IsTrue (has_function image start.code (length start.words))
  pub words : AllByRecursion (λ w. w < 2 ^ 32) start.words

pub record IsPar (image : Contents) (starts : List Start) : Type 0 where
  pub most : length starts ≤ 64
  pub each : AllByRecursion (IsStart image) starts

abbrev pub IsAskable : Contents → Act → Type 0
IsAskable image (Load at size) = IsWidth size
IsAskable image (Store at size word) = IsWidth size
IsAskable image (Alloc bytes kind) = 0 < bytes
IsAskable image (NewChan capacity words) = (capacity ≤ 4096) × (words ≤ 1024)
IsAskable image (Talk branches) = IsTalk branches
IsAskable image (Proc start) = IsStart image start
IsAskable image (Task start) = IsStart image start
IsAskable image (Par starts) = IsPar image starts
IsAskable image (Print text) = length text ≤ longest_text
IsAskable image act = Unit {0}
