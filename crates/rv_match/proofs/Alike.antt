-- Tasks whose steps harts follow are alike with them, up to actions without an answer.
use Rattle.std.proofs.Common.{◌≡◌, ℕ, suc, ◌^◌, ◌≤◌, false, List, length, refl, sym, subst}
use Rattle.al_event.specs.declared.act.Act.TheVariants.{Pause}
use Rattle.al_event.specs.declared.act.Start.{Start}
use Rattle.al_until_last.specs.UntilLast.{is_last, AlikeUntilLast}
use Rattle.al_world.specs.Alike.{Relation, AsksAlike}
use Rattle.al_world.specs.Answers.{AsksProperly}
use Rattle.al_world.specs.Control.{Asked, Kind, kind_of, fitted}
use Rattle.al_world.specs.Turns.{Move, Moves, to_turn, ask_within}
use Rattle.rv_isa.specs.declared.image.Contents.{Contents}
use Rattle.rv_exec.specs.Hart.{Hart}
use Rattle.rv_exec.specs.Calls.{Privates}
use Rattle.rv_exec.specs.Machine.{machine, ask, asked, resumed, started}
use Rattle.rv_exec.specs.Proper.{AreBelow, IsHart, propriety}
use Rattle.rv_exec.proofs.Staying.{stays_proper}
use Rattle.rv_code.specs.Runs.{Fine}
use Rattle.rv_code.proofs.Leading.{it_asks}
use Rattle.rv_match.specs.Following.{Going, Follows}
use Rattle.rv_match.specs.Sense.{Sensible}
use Rattle.rv_match.proofs.Following.{asks_what_is_asked}

module _ (image : Contents) (small : length image.code ≤ 2 ^ 23) {C U : Type 0} (step : C → U → Move C U) (weight : C → ℕ) (resume : C → List ℕ → C)
    (start : Start → C) (fresh : U) (Private : U → Privates → Type 0) (Match : (left : ℕ) → C → Hart → Type 0) (turns : ℕ)
    (Good : C → Type 0) (IsPrivate : U → Type 0) (IsStart : Start → Type 0) where
  abbrev pub tasks : Kind
  tasks = kind_of (ask_within step weight (suc turns) Pause) resume start fresh

  abbrev IsGoing : C → Hart → Type 0
  IsGoing c h = Good c × IsHart h × Going image resume Private Match (suc turns) c h

  -- which tasks and harts, and which private globals, correspond
  abbrev pub relation : Relation C Hart U Privates
  relation = record {
    Going = IsGoing;
    Waiting = λ act c h. is_last act ≡ false → (words : List ℕ) → IsGoing (resume c (fitted act words)) (resumed h (fitted act words));
    Private = λ u p. IsPrivate u × Private u p × AreBelow p;
    IsStart = IsStart;
  }

  module _ (sensible : Sensible tasks Good IsPrivate IsStart)
      (follows : (left : ℕ) (c : C) (u : U) (h : Hart) (p : Privates) → Match left c h → Private u p → Fine h p → Follows image resume Private Match (suc turns) left h p (step c u))
      (comes : (c d : C) (u v : U) → to_turn step weight (weight c) c u ≡ Moves d v → ⊥)
      (begins : (s : Start) → IsStart s → IsHart (started image s.code s.words) × Going image resume Private Match (suc turns) (start s) (started image s.code s.words))
      (first : Private fresh (λ n. 0)) where
    asks_alike : (c : C) (h : Hart) (u : U) (p : Privates) → IsGoing c h → relation.Private u p → AsksAlike relation (tasks.ask c u) (ask image h p)
    asks_alike c h u p g s =
        let good = g.0 in
        let going = g.2 in
        let a = asks_what_is_asked image step weight resume Private Match (suc turns) follows comes turns c u h p refl going s.1
        (record { hart = g.1; privates = s.2 }) (sensible.acts c u good s.0) in
        let e : ask image h p ≡ asked image (tasks.ask c u).act a.waiting a.privates = it_asks image small going.near going.jumps going.work a.comes in
        let proper : AsksProperly propriety (asked image (tasks.ask c u).act a.waiting a.privates) =
        subst (λ (b : Asked Hart Privates). AsksProperly propriety b) e ((stays_proper image small).asks h p g.1 s.2) in
        subst (λ (b : Asked Hart Privates). AsksAlike relation (tasks.ask c u) b) (sym e) (record {
          act = refl;
          line = sym a.line_is;
          control = λ answered words. (
            sensible.resumes c u words good s.0 answered,
            (stays_proper image small).resumes (tasks.ask c u).act _ words proper.control,
            a.waits answered words,
          );
          privates = (sensible.privates c u good s.0, a.same, proper.privates);
          starts = sensible.known c u good s.0;
        })

    pub alike : AlikeUntilLast tasks (machine image) relation
    alike = record {
      asks = λ c h u p g s. asks_alike c h u p g s;
      resumes = λ act c h words answered waits. waits answered words;
      starts = λ s known. let b = begins s known in (sensible.starts s known, b.0, b.1);
      fresh = (sensible.fresh, first, (stays_proper image small).fresh);
    }
