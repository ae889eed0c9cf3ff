use Rattle.std.proofs.Common.{◌∙◌, ℕ, List, [], ◌∷◌, ap, map}
use Rattle.al_event.specs.declared.act.Act.TheVariants as act
use Rattle.al_event.specs.declared.act.Start.{Start}
use Rattle.al_meaning.specs.Here.{asks}
use Rattle.al_meaning.specs.Items.{Answered}
use Rattle.al_control.specs.Models.{here_of}
use Rattle.al_walk_loops.proofs.Goings.{goes_same}
use Rattle.al_walk_statements.specs.Forms.{start_at}
use Rattle.al_walk_statements.proofs.statements.do_par.Goals as goal

pub returns : goal.returns
returns c =
    goes_same c.asks.result _ _
    (ap (λ (starts : List Start). asks (here_of c.args.h) (act.Par starts) (Answered ∷ []))
    (c.in_ok-starts.ensures ∙ ap (λ (around : List ℕ). map (start_at around c.args.h.frame.block) c.args.branches.now) c.as_slice.ensures.value))
    c.asks.ensures
