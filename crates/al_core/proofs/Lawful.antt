-- Each history, and each entry of it, is lawful.
use Rattle.std.proofs.Common.{◌≡◌, ◌*◌, ◌^◌, List, ◌∷◌, ◌++◌, [], Option, Some, sym, ap, ◌∙◌}
use Rattle.std.specs.Prelude.{option_and_then}
use Rattle.al_event.specs.declared.entry.Entry.{Entry}
use Rattle.al_world.specs.World.{World}
use Rattle.al_world.specs.Step.{step, run}
use Rattle.al_world.proofs.Queues.{is_in_order}
use Rattle.al_world.proofs.Names.{is_once}
use Rattle.al_world.proofs.Accounts.{is_once_gone}
use Rattle.al_world.proofs.Handing.{is_taken, is_left_or_stays, is_equal_at_both_ends}
use Rattle.al_world.proofs.Permits.{runs_go_on}
use Rattle.al_world.proofs.Roles.{is_local_everywhere}
use Rattle.rv_exec.specs.Machine.{machine}
use Rattle.al_core.specs.Opening.{globals_of, main_of}
use Rattle.al_core.specs.History.{History, run_of, run_along, with_entry}
use Rattle.al_core.specs.Lawful.{IsLawful, IsLawfulEntry}

-- the run with one entry more
pub run_with : (h : History) (e : Entry) (w : World (machine h.image)) → run_of h ≡ Some w → run_of (with_entry e h) ≡ step (machine h.image) w e
run_with h e w r =
    runs_go_on (machine h.image) h.entries (e ∷ []) _ ∙ ap (λ (o : Option (World (machine h.image))). option_and_then (λ w. step (machine h.image) w e) o) r

-- a run along more goes on from where the first came to
run_more : (h : History) (before more : List Entry) (w : World (machine h.image)) → run_along h before ≡ Some w → run_along h (before ++ more) ≡ run (machine h.image) more (Some w)
run_more h before more w r = runs_go_on (machine h.image) before more _ ∙ ap (run (machine h.image) more) r

pub lawful : (h : History) → IsLawful h
lawful h = record {
  in_order = λ w r. is_in_order (machine h.image) (h.region * 2 ^ 20) (globals_of h.image) (main_of h.image) h.entries w r;
  once = λ w r. is_once (machine h.image) (h.region * 2 ^ 20) (globals_of h.image) (main_of h.image) h.entries w r;
  gone = λ before more e w v t r x s. is_once_gone (machine h.image) (h.region * 2 ^ 20) (globals_of h.image) (main_of h.image) before more w v e t r x (sym (run_more h before (e ∷ more) w r) ∙ s);
}

pub lawful_entry : (h : History) (e : Entry) → IsLawfulEntry h e
lawful_entry h e = record {
  local = λ w v p t r s ne f. is_local_everywhere (machine h.image) (h.region * 2 ^ 20) (globals_of h.image) (main_of h.image) h.entries w v e p t r (sym (run_with h e w r) ∙ s) ne f;
  taken = λ w t branches effect d fine some. is_taken w.shared t branches e.pick effect fine some d.does;
  equal = λ w t branches effect d. is_equal_at_both_ends w.shared t branches e.pick effect d.does;
  left = λ w t act effect o d i. is_left_or_stays w.shared t act e.pick effect o d.does i;
}
