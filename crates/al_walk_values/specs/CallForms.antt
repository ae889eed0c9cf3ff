-- What is done with the values of a call by name.
use Rattle.std.specs.Prelude.{ℕ}
use Rattle.al_meaning.specs.Items.{Work, Invoke, InvokeInstead, StartProc, StartTask}
use Rattle.al_walk_values.specs.declared.calls.Then.{Then}
use Rattle.al_walk_values.specs.declared.calls.Then.TheVariants as then

-- the function and how many values there are give the work
abbrev pub then_of : Then → ℕ → ℕ → Work
then_of then.Invoke = Invoke
then_of then.InvokeInstead = InvokeInstead
then_of then.StartProc = StartProc
then_of then.StartTask = StartTask
