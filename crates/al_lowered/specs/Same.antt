-- Tasks of two kinds that ask the same after the same answers.
use Rattle.std.specs.Prelude.{ℕ, ◌≡◌, false, List}
use Rattle.al_event.specs.declared.act.Start.{Start}
use Rattle.al_world.specs.Control.{Asked, Kind, kind_of, fitted}
use Rattle.al_world.specs.Alike.{Relation}
use Rattle.al_until_last.specs.UntilLast.{is_last}
use Rattle.al_meaning.specs.Tasks.{Answer}
use Rattle.al_lowered.specs.After.{after}
use Rattle.al_lowered.specs.Rules.{Rules, IsGood, AreGood}

-- a kind whose private globals are words
pub record Tasks (C : Type 0) : Type 0 where
  pub ask : C → List ℕ → Asked C (List ℕ)
  pub resume : C → List ℕ → C
  pub start : Start → C
  pub fresh : List ℕ

abbrev pub kind : {C : Type 0} → Tasks C → Kind
kind K = kind_of K.ask K.resume K.start K.fresh

abbrev pub AskSame : {C D : Type 0} → Tasks C → Tasks D → Rules → C → D → Type 0
AskSame K L R c d =
    (u : List ℕ) (answers : List Answer) → R.Private u → AreGood R answers → (after K.ask K.resume (K.ask c u) answers ≡ after L.ask L.resume (L.ask d u) answers) × IsGood R (after K.ask K.resume (K.ask c u) answers)

-- Controls correspond that ask the same after all answers from here on. Nothing is said of what they do behind their last
-- action.
abbrev pub same : {C D : Type 0} → Tasks C → Tasks D → Rules → Relation C D (List ℕ) (List ℕ)
same K L R = record {
  Going = AskSame K L R;
  Waiting = λ act c d. is_last act ≡ false → (words : List ℕ) → AskSame K L R (K.resume c (fitted act words)) (L.resume d (fitted act words));
  Private = λ u v. (u ≡ v) × R.Private u;
  IsStart = R.IsStart;
}
