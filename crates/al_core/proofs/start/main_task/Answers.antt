use Rattle.std.proofs.Common.{◌≡◌, None, sym, ap, ap₂, subst, subst₂, ◌∙◌, length, true}
use Rattle.std.specs.Prelude.{slice_get}
use Rattle.std.specs.Option.{option_copied, option_map_or}
use Rattle.rv_isa.specs.declared.image.Contents.{Contents}
use Rattle.rv_isa.specs.declared.image.Row.{Row}
use Rattle.rv_isa.specs.Image.{is_within}
use Rattle.rv_exec.specs.Machine.{started}
use Rattle.task_book.specs.Table.{Table}
use Rattle.task_book.specs.Starting.{StartsProc}
use Rattle.al_core.proofs.FirstWorld.{main_words}
use Rattle.al_core.proofs.start.main_task.Goals.{in-Some, in-None}
use Rattle.al_core.proofs.start.main_task.Goals as goal

pub returns : goal.returns
returns c =
    let image = c.args.image.now in
    let same = c.contents-contents.ensures.value in
    let words : c.match-get.words ≡ option_map_or (λ (r : Row). r.words) (option_copied c.get.result) 0 = elim c.match-get.branch [ in-Some w ↦ w.words-is ∙ sym (ap (λ o. option_map_or (λ (r : Row). r.words) (option_copied o) 0) w.in-Some.is) | in-None w ↦ w.words-is ∙ sym (ap (λ o. option_map_or (λ (r : Row). r.words) (option_copied o) 0) w.in-None.is) ] in
    let there = c.get.ensures.value ∙ ap (λ (i : Contents). slice_get i.functions i.main) same in
    let zeros = main_words image (option_copied c.get.result) c.match-get.words (subst (λ i. is_within i ≡ true) same c.contents-contents.ensures.within) there words in
    let number : c.in-Ok.field-0 ≡ 0 = c.in-Ok.ensures.number ∙ ap (λ (s : Table). length s.procs) c.in_ok-tasks.ensures in
    record {
      hart = c.in_ok-hart.hart;
      privates = c.in_ok-privates.privates;
      hart_is = c.in_ok-hart.ensures ∙ ap₂ (λ f ws. started image f ws) (ap (λ (i : Contents). i.main) same) zeros;
      bytes_are = c.in_ok-privates.ensures.bytes;
      zeros = c.in_ok-privates.ensures.zero;
      begins = subst₂ (λ n s. StartsProc None c.in_ok-hart.hart c.in_ok-privates.privates n s c.start_proc.new.self) number c.in_ok-tasks.ensures c.in-Ok.ensures.started;
    }
