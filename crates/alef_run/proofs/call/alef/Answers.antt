use Rattle.alef_run.proofs.Jobs.{job_bounded}
use Rattle.alef_run.proofs.Causes.{job_was, words_cause, words_end, missing_end, host_end, out_end, refused_end, unbuilt_end, no_image_end, meant_end, complete_end, built_end, image_end, text_end, no_text_end, step_refused_end, missing_schedule_end, bad_schedule_end, bad_number_end, bad_entry_end, stepped_end}
use Rattle.alef_run.proofs.Modes.{sample_end_is, record_refused, record_complete, record_meant, replay_refused, replay_missing, replay_bad_schedule, replay_meant, replay_bad_entry, replay_complete}
use Rattle.alef_run.proofs.call.alef.Goals as goal

pub returns-clause-words : goal.returns-clause-words
returns-clause-words g c = words_cause _ _ _ c.serve-report.ensures.end

pub returns-clause-no_job : goal.returns-clause-no_job
returns-clause-no_job g c = words_end _ _ _ c.serve-report.ensures.end

pub returns-clause-missing : goal.returns-clause-missing
returns-clause-missing g c = λ job. missing_end _ _ _ job c.serve-report.ensures.end

pub returns-clause-host_fault : goal.returns-clause-host_fault
returns-clause-host_fault g c = host_end _ _ _ c.serve-report.ensures.end

pub returns-clause-out_fault : goal.returns-clause-out_fault
returns-clause-out_fault g c = out_end _ _ _ c.serve-report.ensures.end

pub returns-clause-run_refused : goal.returns-clause-run_refused
returns-clause-run_refused g c = λ job text. refused_end _ _ _ job text c.serve-report.ensures.end

pub returns-clause-build_refused : goal.returns-clause-build_refused
returns-clause-build_refused g c = λ job text. unbuilt_end _ _ _ job text c.serve-report.ensures.end

pub returns-clause-no_image : goal.returns-clause-no_image
returns-clause-no_image g c = λ job text fault. no_image_end _ _ _ job text fault c.serve-report.ensures.end

pub returns-clause-run : goal.returns-clause-run
returns-clause-run g c = λ job text. complete_end _ _ _ job text c.serve-report.ensures.end

pub returns-clause-build : goal.returns-clause-build
returns-clause-build g c = λ job text. built_end _ _ _ job text c.serve-report.ensures.end

pub returns-clause-meant : goal.returns-clause-meant
returns-clause-meant g c = λ job text p is. meant_end _ _ _ job text p (job_bounded _ job (job_was _ job is)).region c.serve-report.ensures.end is

pub returns-clause-exec : goal.returns-clause-exec
returns-clause-exec g c = λ job text image. image_end _ _ _ job text image c.serve-report.ensures.end

pub returns-clause-check_refused : goal.returns-clause-check_refused
returns-clause-check_refused g c = λ job text. no_text_end _ _ _ job text c.serve-report.ensures.end

pub returns-clause-check : goal.returns-clause-check
returns-clause-check g c = λ job text. text_end _ _ _ job text c.serve-report.ensures.end

pub returns-clause-step_refused : goal.returns-clause-step_refused
returns-clause-step_refused g c = λ job text. step_refused_end _ _ _ job text c.serve-report.ensures.end

pub returns-clause-missing_schedule : goal.returns-clause-missing_schedule
returns-clause-missing_schedule g c = λ job text. missing_schedule_end _ _ _ job text c.serve-report.ensures.end

pub returns-clause-bad_schedule : goal.returns-clause-bad_schedule
returns-clause-bad_schedule g c = λ job text schedule fault. bad_schedule_end _ _ _ job text schedule fault c.serve-report.ensures.end

pub returns-clause-bad_number : goal.returns-clause-bad_number
returns-clause-bad_number g c = λ job text schedule h. bad_number_end _ _ _ job text schedule h c.serve-report.ensures.end

pub returns-clause-bad_entry : goal.returns-clause-bad_entry
returns-clause-bad_entry g c = λ job text schedule p h k. bad_entry_end _ _ _ job text schedule p h k c.serve-report.ensures.end

pub returns-clause-step : goal.returns-clause-step
returns-clause-step g c = λ job text schedule p h. stepped_end _ _ _ job text schedule p h c.serve-report.ensures.end

pub returns-clause-replay_refused : goal.returns-clause-replay_refused
returns-clause-replay_refused g c = λ job text is. replay_refused _ _ _ job c.serve-report.ensures.end is text

pub returns-clause-replay_missing : goal.returns-clause-replay_missing
returns-clause-replay_missing g c = λ job text is. replay_missing _ _ _ job c.serve-report.ensures.end is text

pub returns-clause-replay_bad_schedule : goal.returns-clause-replay_bad_schedule
returns-clause-replay_bad_schedule g c = λ job text schedule fault is. replay_bad_schedule _ _ _ job c.serve-report.ensures.end is text schedule fault

pub returns-clause-replay_meant : goal.returns-clause-replay_meant
returns-clause-replay_meant g c = λ job text schedule p h is. replay_meant _ _ _ job c.serve-report.ensures.end is text schedule (job_bounded _ job (job_was _ job is)).region p h

pub returns-clause-replay_bad_entry : goal.returns-clause-replay_bad_entry
returns-clause-replay_bad_entry g c = λ job text schedule p h k is. replay_bad_entry _ _ _ job c.serve-report.ensures.end is text schedule (job_bounded _ job (job_was _ job is)).region p h k

pub returns-clause-replay : goal.returns-clause-replay
returns-clause-replay g c = λ job text schedule p h is. replay_complete _ _ _ job c.serve-report.ensures.end is text schedule (job_bounded _ job (job_was _ job is)).region p h

pub returns-clause-record_refused : goal.returns-clause-record_refused
returns-clause-record_refused g c = λ job text is. record_refused _ _ _ job c.serve-report.ensures.end is text

pub returns-clause-record_meant : goal.returns-clause-record_meant
returns-clause-record_meant g c = λ job text p is. record_meant _ _ _ job c.serve-report.ensures.end is text (job_bounded _ job (job_was _ job is)).region p

pub returns-clause-record : goal.returns-clause-record
returns-clause-record g c = λ job text is. record_complete _ _ _ job c.serve-report.ensures.end is text

pub returns-clause-sample : goal.returns-clause-sample
returns-clause-sample g c = λ job is. sample_end_is _ _ _ job c.serve-report.ensures.end is
