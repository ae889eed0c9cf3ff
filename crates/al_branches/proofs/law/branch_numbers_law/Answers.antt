use Rattle.al_branches.proofs.Once.{behind, within, once, all, function-get, numbers-get}
use Rattle.al_branches.proofs.law.branch_numbers_law.Goals as goal

pub returns : goal.returns
returns c = record {
  behind = behind;
  within = within;
  once = once;
  all = all;
  functions = function-get;
  given = numbers-get;
}
