use Rattle.al_lowered.proofs.Chain.{simulates, never_stuck}
use Rattle.al_lower_code.specs.Functions.{lowered}
use Rattle.al_lower_whole.proofs.Whole.{whole_lowered}
use Rattle.al_lowering.proofs.Addresses.{is_addressed, are_words}
use Rattle.al_lowering.proofs.Main.{main_known}
use Rattle.al_lowering.proofs.Example.{well_typed, addresses_are_words, value_refused, member_refused}
use Rattle.al_lowering.proofs.Opening.{runs_same}
use Rattle.al_lowering.proofs.laws.lowering_keeps_the_meaning.Goals as goal

pub returns-clause-lowered : goal.returns-clause-lowered
returns-clause-lowered c = λ p typed words. whole_lowered p typed (is_addressed p words)

pub returns-clause-alike : goal.returns-clause-alike
returns-clause-alike c = λ p start typed words known. simulates p (lowered p) (whole_lowered p typed (is_addressed p words)) start known

pub returns-clause-sense : goal.returns-clause-sense
returns-clause-sense c = λ p n start u answers typed words known private good. never_stuck p (lowered p) (whole_lowered p typed (is_addressed p words)) n start u answers known private good

pub returns-clause-main : goal.returns-clause-main
returns-clause-main c = main_known

pub returns-clause-runs : goal.returns-clause-runs
returns-clause-runs c = λ p region h typed words bytes. runs_same p typed bytes (whole_lowered p typed (is_addressed p words)) region h

pub returns-clause-met : goal.returns-clause-met
returns-clause-met c = (well_typed, addresses_are_words, tt)

pub returns-clause-refused : goal.returns-clause-refused
returns-clause-refused c = (value_refused, member_refused)

pub returns-clause-addressed : goal.returns-clause-addressed
returns-clause-addressed c = are_words
