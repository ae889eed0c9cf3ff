use Rattle.std.proofs.Common.{refl, sym, ap, ◌∙◌}
use Rattle.std.specs.Prelude.{is_some}
use Rattle.al_core.specs.History.{History, over_of, loan_of}
use Rattle.al_core.proofs.Loans.{loan_ended}
use Rattle.al_core.proofs.Performing.{not_some, some_none, late_performed, went_performed}
use Rattle.al_core.proofs.world.World.perform.Goals as goal

pub end_loan-requires-clause-small : goal.end_loan-requires-clause-small
end_loan-requires-clause-small c = c.requires.small

pub end_loan-requires-clause-loan : goal.end_loan-requires-clause-loan
end_loan-requires-clause-loan c = rw c.requires.asked.loan refl

pub end_loan-requires-clause-lent : goal.end_loan-requires-clause-lent
end_loan-requires-clause-lent c = rw c.requires.asked.loan refl

pub end_loan-requires-clause-back : goal.end_loan-requires-clause-back
end_loan-requires-clause-back c = λ e. absurd (some_none (over_of c.args.self.now) (ap (λ o. is_some o) (sym c.over.ensures.over) ∙ sym c.is_some.ensures ∙ c.if-is_some.true) e)

pub returns-then-is_some-clause-entry : goal.returns-then-is_some-clause-entry
returns-then-is_some-clause-entry c = (late_performed c.args.self.now c.end_loan.new.self c.args.worker c.args.asked.held.proc (ap (λ o. is_some o) (sym c.over.ensures.over) ∙ sym c.is_some.ensures ∙ c.if-is_some.true) c.end_loan.ensures).entry

pub returns-then-is_some-clause-late : goal.returns-then-is_some-clause-late
returns-then-is_some-clause-late c = (late_performed c.args.self.now c.end_loan.new.self c.args.worker c.args.asked.held.proc (ap (λ o. is_some o) (sym c.over.ensures.over) ∙ sym c.is_some.ensures ∙ c.if-is_some.true) c.end_loan.ensures).late

pub returns-then-is_some-clause-rest : goal.returns-then-is_some-clause-rest
returns-then-is_some-clause-rest c = (late_performed c.args.self.now c.end_loan.new.self c.args.worker c.args.asked.held.proc (ap (λ o. is_some o) (sym c.over.ensures.over) ∙ sym c.is_some.ensures ∙ c.if-is_some.true) c.end_loan.ensures).rest

pub returns-then-is_some-clause-over : goal.returns-then-is_some-clause-over
returns-then-is_some-clause-over c = (late_performed c.args.self.now c.end_loan.new.self c.args.worker c.args.asked.held.proc (ap (λ o. is_some o) (sym c.over.ensures.over) ∙ sym c.is_some.ensures ∙ c.if-is_some.true) c.end_loan.ensures).over

pub returns-then-is_some-clause-after : goal.returns-then-is_some-clause-after
returns-then-is_some-clause-after c = (late_performed c.args.self.now c.end_loan.new.self c.args.worker c.args.asked.held.proc (ap (λ o. is_some o) (sym c.over.ensures.over) ∙ sym c.is_some.ensures ∙ c.if-is_some.true) c.end_loan.ensures).lent

pub make_any-requires-clause-small : goal.make_any-requires-clause-small
make_any-requires-clause-small c = c.requires.small

pub make_any-requires-clause-asked : goal.make_any-requires-clause-asked
make_any-requires-clause-asked c = c.requires.asked

pub make_any-requires-clause-live : goal.make_any-requires-clause-live
make_any-requires-clause-live c = not_some (over_of c.args.self.now) (ap (λ o. is_some o) (sym c.over.ensures.over) ∙ sym c.is_some.ensures ∙ c.if-is_some.false)

pub go_on-requires-clause-small : goal.go_on-requires-clause-small
go_on-requires-clause-small c = c.requires.small

pub go_on-requires-clause-idle : goal.go_on-requires-clause-idle
go_on-requires-clause-idle c = ap (λ (h : History). loan_of h c.args.worker) c.in-Ok.ensures.done ∙ loan_ended c.args.worker c.args.self.now.loans

pub go_on-requires-clause-here : goal.go_on-requires-clause-here
go_on-requires-clause-here c = c.in-Ok.ensures.here

pub returns-in-Ok-clause-entry : goal.returns-in-Ok-clause-entry
returns-in-Ok-clause-entry c = (went_performed c.args.self.now c.args.worker c.args.asked.held.proc c.in-Ok._pick (not_some (over_of c.args.self.now) (ap (λ o. is_some o) (sym c.over.ensures.over) ∙ sym c.is_some.ensures ∙ c.if-is_some.false)) c.make_any.new.self c.go_on.new.self c.go_on.result c.in-Ok.ensures.done c.in-Ok.ensures.runs c.go_on.ensures.over c.go_on.ensures.new c.go_on.ensures.lent c.go_on.ensures.free).entry

pub returns-in-Ok-clause-late : goal.returns-in-Ok-clause-late
returns-in-Ok-clause-late c = (went_performed c.args.self.now c.args.worker c.args.asked.held.proc c.in-Ok._pick (not_some (over_of c.args.self.now) (ap (λ o. is_some o) (sym c.over.ensures.over) ∙ sym c.is_some.ensures ∙ c.if-is_some.false)) c.make_any.new.self c.go_on.new.self c.go_on.result c.in-Ok.ensures.done c.in-Ok.ensures.runs c.go_on.ensures.over c.go_on.ensures.new c.go_on.ensures.lent c.go_on.ensures.free).late

pub returns-in-Ok-clause-rest : goal.returns-in-Ok-clause-rest
returns-in-Ok-clause-rest c = (went_performed c.args.self.now c.args.worker c.args.asked.held.proc c.in-Ok._pick (not_some (over_of c.args.self.now) (ap (λ o. is_some o) (sym c.over.ensures.over) ∙ sym c.is_some.ensures ∙ c.if-is_some.false)) c.make_any.new.self c.go_on.new.self c.go_on.result c.in-Ok.ensures.done c.in-Ok.ensures.runs c.go_on.ensures.over c.go_on.ensures.new c.go_on.ensures.lent c.go_on.ensures.free).rest

pub returns-in-Ok-clause-over : goal.returns-in-Ok-clause-over
returns-in-Ok-clause-over c = (went_performed c.args.self.now c.args.worker c.args.asked.held.proc c.in-Ok._pick (not_some (over_of c.args.self.now) (ap (λ o. is_some o) (sym c.over.ensures.over) ∙ sym c.is_some.ensures ∙ c.if-is_some.false)) c.make_any.new.self c.go_on.new.self c.go_on.result c.in-Ok.ensures.done c.in-Ok.ensures.runs c.go_on.ensures.over c.go_on.ensures.new c.go_on.ensures.lent c.go_on.ensures.free).over

pub returns-in-Ok-clause-after : goal.returns-in-Ok-clause-after
returns-in-Ok-clause-after c = (went_performed c.args.self.now c.args.worker c.args.asked.held.proc c.in-Ok._pick (not_some (over_of c.args.self.now) (ap (λ o. is_some o) (sym c.over.ensures.over) ∙ sym c.is_some.ensures ∙ c.if-is_some.false)) c.make_any.new.self c.go_on.new.self c.go_on.result c.in-Ok.ensures.done c.in-Ok.ensures.runs c.go_on.ensures.over c.go_on.ensures.new c.go_on.ensures.lent c.go_on.ensures.free).lent

pub returns-in-Ok-clause-idle : goal.returns-in-Ok-clause-idle
returns-in-Ok-clause-idle c = (went_performed c.args.self.now c.args.worker c.args.asked.held.proc c.in-Ok._pick (not_some (over_of c.args.self.now) (ap (λ o. is_some o) (sym c.over.ensures.over) ∙ sym c.is_some.ensures ∙ c.if-is_some.false)) c.make_any.new.self c.go_on.new.self c.go_on.result c.in-Ok.ensures.done c.in-Ok.ensures.runs c.go_on.ensures.over c.go_on.ensures.new c.go_on.ensures.lent c.go_on.ensures.free).idle

pub returns-in-Err-clause-refused : goal.returns-in-Err-clause-refused
returns-in-Err-clause-refused c = c.in-Err.ensures.refused

pub returns-in-Err-clause-memory : goal.returns-in-Err-clause-memory
returns-in-Err-clause-memory c = c.in-Err.ensures.memory

pub returns-in-Err-clause-same : goal.returns-in-Err-clause-same
returns-in-Err-clause-same c = c.in-Err.ensures.same
