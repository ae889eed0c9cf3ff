use Rattle.std.proofs.Common.{◌≡◌, None, refl, sym, ap, subst, ◌∙◌, arith}
use Rattle.std.specs.Prelude.{is_some, IsSome}
use Rattle.al_core.specs.History.{History, over_of, run_of, with_entry, settled}
use Rattle.al_core.specs.Lends.{IsLent}
use Rattle.al_core.proofs.Lawful.{lawful, lawful_entry}
use Rattle.al_core.proofs.Performing.{not_some, some_none, same_err, unready, no_loan, all_free, not_full, back_as_it_was, stepped, runs_too, no_run_too}
use Rattle.al_core.proofs.world.World.step.Goals as goal

pub returns-then-is_some-clause-over : goal.returns-then-is_some-clause-over
returns-then-is_some-clause-over c = (λ e. (ap (λ o. is_some o) (sym c.over.ensures.over) ∙ sym c.is_some.ensures ∙ c.if-is_some.true), λ s. refl)

pub returns-then-is_some-clause-not_permitted : goal.returns-then-is_some-clause-not_permitted
returns-then-is_some-clause-not_permitted c = λ e. absurd (cc)

pub returns-then-is_some-clause-same : goal.returns-then-is_some-clause-same
returns-then-is_some-clause-same c = refl

pub returns-then-not-has_ready-clause-over : goal.returns-then-not-has_ready-clause-over
returns-then-not-has_ready-clause-over c = (λ e. absurd (cc), λ s. absurd (some_none (over_of c.args.self.now) s (not_some (over_of c.args.self.now) (ap (λ o. is_some o) (sym c.over.ensures.over) ∙ sym c.is_some.ensures ∙ c.if-is_some.false))))

pub returns-then-not-has_ready-clause-not_permitted : goal.returns-then-not-has_ready-clause-not_permitted
returns-then-not-has_ready-clause-not_permitted c = λ e. unready c.args.self.now c.args.entry (sym (c.has_ready.ensures (not_some (over_of c.args.self.now) (ap (λ o. is_some o) (sym c.over.ensures.over) ∙ sym c.is_some.ensures ∙ c.if-is_some.false))) ∙ c.if-not-has_ready.true)

pub returns-then-not-has_ready-clause-same : goal.returns-then-not-has_ready-clause-same
returns-then-not-has_ready-clause-same c = refl

pub lend-held-requires-clause-small : goal.lend-held-requires-clause-small
lend-held-requires-clause-small c = omega arith

pub lend-held-requires-clause-idle : goal.lend-held-requires-clause-idle
lend-held-requires-clause-idle c = no_loan c.args.self.now c.requires.here 0

pub lend-held-requires-clause-live : goal.lend-held-requires-clause-live
lend-held-requires-clause-live c = not_some (over_of c.args.self.now) (ap (λ o. is_some o) (sym c.over.ensures.over) ∙ sym c.is_some.ensures ∙ c.if-is_some.false)

pub lend-held-requires-clause-free : goal.lend-held-requires-clause-free
lend-held-requires-clause-free c = all_free c.args.self.now c.requires.here c.args.entry.proc (sym (c.has_ready.ensures (not_some (over_of c.args.self.now) (ap (λ o. is_some o) (sym c.over.ensures.over) ∙ sym c.is_some.ensures ∙ c.if-is_some.false))) ∙ c.if-not-has_ready.false)

pub lend-held-requires-clause-room : goal.lend-held-requires-clause-room
lend-held-requires-clause-room c = not_full c.args.self.now c.requires.here c.requires.room

pub run-requires : goal.run-requires
run-requires c = c.lend-held.ensures.held

pub make-requires-clause-small : goal.make-requires-clause-small
make-requires-clause-small c = omega arith

pub make-requires-clause-asked : goal.make-requires-clause-asked
make-requires-clause-asked c = c.in-Ok.ensures.asked

pub make-requires-clause-live : goal.make-requires-clause-live
make-requires-clause-live c = subst (λ (h : History). over_of h ≡ None) (sym c.lend-held.ensures.lent) (not_some (over_of c.args.self.now) (ap (λ o. is_some o) (sym c.over.ensures.over) ∙ sym c.is_some.ensures ∙ c.if-is_some.false))

pub put_back-requires-clause-small : goal.put_back-requires-clause-small
put_back-requires-clause-small c = omega arith

pub put_back-requires-clause-lent : goal.put_back-requires-clause-lent
put_back-requires-clause-lent c = subst (λ (h : History). IsLent h 0 c.in-Ok.kept) (sym c.in-Err-make.ensures.same) c.in-Ok.ensures.kept

pub put_back-requires-in-Err-clause-small : goal.put_back-requires-in-Err-clause-small
put_back-requires-in-Err-clause-small c = omega arith

pub put_back-requires-in-Err-clause-lent : goal.put_back-requires-in-Err-clause-lent
put_back-requires-in-Err-clause-lent c = c.in-Err.ensures.refused

pub returns-in-Ok-make-clause-done : goal.returns-in-Ok-make-clause-done
returns-in-Ok-make-clause-done c = stepped c.args.self.now c.requires.here 0 c.args.entry.proc c.args.entry c.lend-held.new.self c.make.new.self c.lend-held.ensures.lent (subst (λ q. c.make.new.self ≡ settled 0 (with_entry (record { proc = q; pick = c.args.entry.pick; worker = c.args.entry.worker }) c.lend-held.new.self)) (c.in-Ok.ensures.proc ∙ c.lend-held.ensures.proc) c.in-Ok-make.ensures.done)

pub returns-in-Ok-make-clause-runs : goal.returns-in-Ok-make-clause-runs
returns-in-Ok-make-clause-runs c = runs_too c.args.self.now c.requires.here 0 c.args.entry.proc c.args.entry c.lend-held.new.self c.lend-held.ensures.lent (subst (λ q. IsSome (run_of (with_entry (record { proc = q; pick = c.args.entry.pick; worker = c.args.entry.worker }) c.lend-held.new.self))) (c.in-Ok.ensures.proc ∙ c.lend-held.ensures.proc) c.in-Ok-make.ensures.runs)

pub returns-in-Ok-make-clause-lawful : goal.returns-in-Ok-make-clause-lawful
returns-in-Ok-make-clause-lawful c = lawful (with_entry c.args.entry c.args.self.now)

pub returns-in-Ok-make-clause-entry : goal.returns-in-Ok-make-clause-entry
returns-in-Ok-make-clause-entry c = lawful_entry c.args.self.now c.args.entry

pub returns-in-Ok-make-clause-over : goal.returns-in-Ok-make-clause-over
returns-in-Ok-make-clause-over c = (λ e. absurd (cc), λ s. absurd (some_none (over_of c.args.self.now) s (not_some (over_of c.args.self.now) (ap (λ o. is_some o) (sym c.over.ensures.over) ∙ sym c.is_some.ensures ∙ c.if-is_some.false))))

pub returns-in-Ok-make-clause-not_permitted : goal.returns-in-Ok-make-clause-not_permitted
returns-in-Ok-make-clause-not_permitted c = λ e. absurd (cc)

pub returns-in-Err-make-clause-over : goal.returns-in-Err-make-clause-over
returns-in-Err-make-clause-over c = (λ e. absurd (c.fault_of.ensures.over (same_err _ _ e)), λ s. absurd (some_none (over_of c.args.self.now) s (not_some (over_of c.args.self.now) (ap (λ o. is_some o) (sym c.over.ensures.over) ∙ sym c.is_some.ensures ∙ c.if-is_some.false))))

pub returns-in-Err-make-clause-not_permitted : goal.returns-in-Err-make-clause-not_permitted
returns-in-Err-make-clause-not_permitted c = λ e. no_run_too c.args.self.now c.requires.here 0 c.args.entry.proc c.args.entry c.lend-held.new.self c.lend-held.ensures.lent (subst (λ q. run_of (with_entry (record { proc = q; pick = c.args.entry.pick; worker = c.args.entry.worker }) c.lend-held.new.self) ≡ None) (c.in-Ok.ensures.proc ∙ c.lend-held.ensures.proc) (c.in-Err-make.ensures.range (c.fault_of.ensures.not_permitted.0 (same_err _ _ e))))

pub returns-in-Err-make-clause-same : goal.returns-in-Err-make-clause-same
returns-in-Err-make-clause-same c = back_as_it_was c.args.self.now c.requires.here 0 c.args.entry.proc c.lend-held.new.self c.put_back.new.self c.lend-held.ensures.lent (c.put_back.ensures ∙ ap (settled 0) c.in-Err-make.ensures.same)

pub returns-in-Err-clause-over : goal.returns-in-Err-clause-over
returns-in-Err-clause-over c = (λ e. absurd (cc), λ s. absurd (some_none (over_of c.args.self.now) s (not_some (over_of c.args.self.now) (ap (λ o. is_some o) (sym c.over.ensures.over) ∙ sym c.is_some.ensures ∙ c.if-is_some.false))))

pub returns-in-Err-clause-not_permitted : goal.returns-in-Err-clause-not_permitted
returns-in-Err-clause-not_permitted c = λ e. absurd (cc)

pub returns-in-Err-clause-same : goal.returns-in-Err-clause-same
returns-in-Err-clause-same c = back_as_it_was c.args.self.now c.requires.here 0 c.args.entry.proc c.lend-held.new.self c.put_back-in-Err.new.self c.lend-held.ensures.lent c.put_back-in-Err.ensures
