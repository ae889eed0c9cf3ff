-- From what the run of an image and the stages of `exec` say to why these end as they do.
use Rattle.std.proofs.Common.{◌≡◌, ℕ, List, Option, Some, None, refl, sym, ap, ◌∙◌, subst, inl, inr}
use Rattle.al_event.specs.declared.entry.Entry.{Entry}
use Rattle.al_words.specs.declared.job.Job.{Job}
use Rattle.rv_isa.specs.declared.image.Contents.{Contents}
use Rattle.rv_image.specs.Spelling.{IsImage}
use Rattle.rv_image.specs.Front.{enough_of}
use Rattle.al_core.specs.History.{History, opening, line_of, work_of}
use Rattle.alef_texts.specs.Call.{Call, WasRead, DidNothing, text_in}
use Rattle.alef_texts.specs.Load.{LacksImage}
use Rattle.alef_run.specs.Rounds.{history_along, IsLegal, RanTo}
use Rattle.alef_run.specs.ExecMode.{DidRunImage, EndsImage, EndsExec}
use Rattle.alef_run.specs.Modes.{line_by}
use Rattle.alef_texts.specs.declared.report.End.{End}
use Rattle.alef_texts.specs.declared.report.End.TheVariants.{Ran, Made, Words, ReadFault, Refused, BadImage, BadSchedule, BadEntry, BadNumber, WriteFault, NoMemory}
use Rattle.alef_run.proofs.Between.{line_along, work_along}

pub lacks_image : (job : Job) (call : Call) (end : End) → LacksImage job.file end call.told call.told_after call.host_before call.host_after → DidNothing call → EndsExec job call end
lacks_image job call ReadFault l nothing = (l, nothing)
lacks_image job call (BadImage fault) l nothing = (l.0, l.1, nothing)
lacks_image job call NoMemory l nothing = (l, inl nothing)
lacks_image job call Made l nothing = absurd l
lacks_image job call Words l nothing = absurd l
lacks_image job call (BadSchedule bad) l nothing = absurd l
lacks_image job call (BadEntry number) l nothing = absurd l
lacks_image job call (BadNumber count) l nothing = absurd l
lacks_image job call (Refused reason) l nothing = absurd l
lacks_image job call WriteFault l nothing = absurd l
lacks_image job call (Ran over) l nothing = absurd l

module _ (job : Job) (image : Contents) (call : Call) (end : End) (h : History) (schedule : call.schedule ≡ h.entries) (image_is : h.image ≡ image) (region_is : h.region ≡ job.region) where
  did_run_image : call.image ≡ Some image → IsLegal job.workers (history_along image job.region job.entries h.entries) → call.work ≡ work_of h
      → RanTo (history_along image job.region job.entries h.entries) end call.got_before call.got_after call.out_before call.out_after → DidRunImage job image call end
  did_run_image is legal work ran = record {
    image_is = is;
    legal = let P : List Entry → Type 0 = λ entries. IsLegal job.workers (history_along image job.region job.entries entries) in subst P (sym schedule) legal;
    work =
        work ∙ work_along image job.region job.entries h image_is region_is
        ∙ ap (λ (entries : List Entry). work_of (history_along image job.region job.entries entries)) (sym schedule);
    ran = let P : List Entry → Type 0 = λ entries. RanTo (history_along image job.region job.entries entries) end call.got_before call.got_after call.out_before call.out_after in subst P (sym schedule) ran;
  }

  pub line_told : (line : ℕ) (o : Option Contents) → line ≡ line_of h → o ≡ Some image → line ≡ line_by (Some job) o call
  line_told line o e is =
      e ∙ line_along image job.region job.entries h image_is region_is
      ∙ ap (λ (entries : List Entry). line_of (history_along image job.region job.entries entries)) (sym schedule)
      ∙ ap (λ (o : Option Contents). line_by (Some job) o call) (sym is)

pub no_line : (o : Option Job) (image : Option Contents) (call : Call) → image ≡ None → line_by o image call ≡ 0
no_line None image call e = refl
no_line (Some job) None call e = refl
no_line (Some job) (Some image) call e = absurd (cc)

-- what the stages of the run of an image say together
pub image_ran : (job : Job) (image : Contents) (call : Call) (end : End) (w h : History) → w ≡ opening image job.region job.entries → h.image ≡ w.image → h.region ≡ w.region
    → IsLegal job.workers (history_along w.image w.region job.entries h.entries)
    → RanTo (history_along w.image w.region job.entries h.entries) end call.got_before call.got_after call.out_before call.out_after
    → call.schedule ≡ h.entries → call.work ≡ work_of h → call.image ≡ Some h.image → EndsImage job image call end
image_ran job image call end w h e i r legal ran schedule work is =
    let ei : w.image ≡ image = ap (λ (h : History). h.image) e in
    let er : w.region ≡ job.region = ap (λ (h : History). h.region) e in
    let L : Contents → ℕ → Type 0 = λ image region. IsLegal job.workers (history_along image region job.entries h.entries) in
    let R : Contents → ℕ → Type 0 = λ image region. RanTo (history_along image region job.entries h.entries) end call.got_before call.got_after call.out_before call.out_after in
    let legal' : L image job.region = subst (λ (region : ℕ). L image region) er (subst (λ (image : Contents). L image w.region) ei legal) in
    let ran' : R image job.region = subst (λ (region : ℕ). R image region) er (subst (λ (image : Contents). R image w.region) ei ran) in
    inr (did_run_image job image call end h schedule (i ∙ ei) (r ∙ er) (is ∙ ap Some (i ∙ ei)) legal' work ran')

module _ (job : Job) (image : Contents) (call : Call) where
  exec_ran : WasRead job.file enough_of call → ((text : List ℕ) → text_in call.told job.file ≡ Some text → IsImage text image) → (end : End) → DidRunImage job image call end → EndsExec job call end
  exec_ran read text (Ran over) d = (image, record { read = read; text = text; run = d })
  exec_ran read text WriteFault d = (image, record { read = read; text = text; run = d })
  exec_ran read text NoMemory d = (read.calm, inr (image, record { read = read; text = text; run = d }))
  exec_ran read text Made d = absurd d.ran
  exec_ran read text Words d = absurd d.ran
  exec_ran read text (BadSchedule bad) d = absurd d.ran
  exec_ran read text (BadEntry number) d = absurd d.ran
  exec_ran read text (BadNumber count) d = absurd d.ran
  exec_ran read text ReadFault d = absurd d.ran
  exec_ran read text (Refused reason) d = absurd d.ran
  exec_ran read text (BadImage fault) d = absurd d.ran

  -- what the stages of `exec` say together
  pub exec_end : (file : List ℕ) (end : End) → file ≡ job.file → WasRead file enough_of call → ((text : List ℕ) → text_in call.told file ≡ Some text → IsImage text image) → EndsImage job image call end → EndsExec job call end
  exec_end file end named read text (inl none) =
      let R : List ℕ → Type 0 = λ file. WasRead file enough_of call in
      let read' : R job.file = subst R named read in
      subst (EndsExec job call) (sym none.0) (read'.calm, inl none.1)
  exec_end file end named read text (inr run) =
      let R : List ℕ → Type 0 = λ file. WasRead file enough_of call in
      let T : List ℕ → Type 0 = λ file. (text : List ℕ) → text_in call.told file ≡ Some text → IsImage text image in
      exec_ran (subst R named read) (subst T named text) end run
