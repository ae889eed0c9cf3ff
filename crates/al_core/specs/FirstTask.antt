-- The task that runs main.
use Rattle.std.specs.Prelude.{◌≡◌, ℕ, None}
use Rattle.al_world.specs.Procs.{most_tasks}
use Rattle.rv_isa.specs.declared.image.Contents.{Contents}
use Rattle.rv_exec.specs.declared.run.Hart.{Hart}
use Rattle.rv_exec.specs.declared.run.Privates.{Privates}
use Rattle.rv_exec.specs.Shown.{hart_of as machine_of, privates_of, bytes_of}
use Rattle.rv_exec.specs.Machine.{started}
use Rattle.task_book.specs.Table.{Table}
use Rattle.task_book.specs.Starting.{StartsProc, empty}
use Rattle.al_core.specs.Opening.{main_of}

-- it began in proc 0 of an empty table
pub record BeginsMain (image : Contents) (after : Table) : Type 0 where
  pub hart : Hart
  pub privates : Privates
  pub hart_is : machine_of hart ≡ started image (main_of image).code (main_of image).words
  pub bytes_are : bytes_of privates ≡ image.privates
  pub zeros : (n : ℕ) → privates_of privates n ≡ 0
  pub begins : StartsProc None hart privates 0 (empty most_tasks) after
