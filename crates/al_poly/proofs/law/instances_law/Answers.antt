use Rattle.al_poly.proofs.ClosedIs.{stands_once, is_named, all_there, is_short}
use Rattle.al_poly.proofs.law.instances_law.Goals as goal

pub returns : goal.returns
returns c = record {
  cut = is_short;
  once = stands_once;
  named = is_named;
  all_there = all_there;
}
