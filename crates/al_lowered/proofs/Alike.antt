-- Tasks that ask the same after all answers are alike.
use Rattle.std.proofs.Common.{◌≡◌, ℕ, List, [], ◌∷◌, sym, ap, ◌∙◌, subst}
use Rattle.std.specs.Prelude.{false, if◌then◌else◌}
use Rattle.al_event.specs.declared.act.Act.{Act}
use Rattle.al_event.specs.declared.act.Start.{Start}
use Rattle.al_world.specs.Control.{Asked, fitted}
use Rattle.al_world.specs.Alike.{AsksAlike}
use Rattle.al_meaning.specs.Tasks.{Answer, Over}
use Rattle.al_meaning.specs.Tasks as outcome
use Rattle.al_until_last.specs.UntilLast.{is_last, AlikeUntilLast}
use Rattle.al_lowered.specs.After.{after}
use Rattle.al_lowered.specs.Rules.{Rules, IsGood, AreGood}
use Rattle.al_lowered.specs.Same.{Tasks, kind, AskSame, same}

same_act : (a b : Act) (m n : ℕ) (u v : List ℕ) → outcome.Asks a m u ≡ outcome.Asks b n v → a ≡ b
same_act a b m n u v e = cc

same_line : (a b : Act) (m n : ℕ) (u v : List ℕ) → outcome.Asks a m u ≡ outcome.Asks b n v → m ≡ n
same_line a b m n u v e = cc

same_privates : (a b : Act) (m n : ℕ) (u v : List ℕ) → outcome.Asks a m u ≡ outcome.Asks b n v → u ≡ v
same_privates a b m n u v e = cc

module _ {C D : Type 0} (K : Tasks C) (L : Tasks D) (R : Rules) where
  -- one answer further on
  further : (a : Asked C (List ℕ)) (b : Asked D (List ℕ)) → a.act ≡ b.act → is_last a.act ≡ false → ((answers : List Answer) → AreGood R answers → (after K.ask K.resume a answers ≡ after L.ask L.resume b answers) × IsGood R (after K.ask K.resume a answers)) → (words : List ℕ) → AskSame K L R (K.resume a.control (fitted a.act words)) (L.resume b.control (fitted a.act words))
  further a b e f h words u answers k g =
      let r : Answer = record { words = words; privates = u } in
      let x = h (r ∷ answers) (k, g) in
      let left : after K.ask K.resume a (r ∷ answers) ≡ after K.ask K.resume (K.ask (K.resume a.control (fitted a.act words)) u) answers =
      ap (λ b. if b then Over else after K.ask K.resume (K.ask (K.resume a.control (fitted a.act words)) u) answers) f in
      let right : after L.ask L.resume b (r ∷ answers) ≡ after L.ask L.resume (L.ask (L.resume b.control (fitted a.act words)) u) answers =
      ap (λ q. if q then Over else after L.ask L.resume (L.ask (L.resume b.control (fitted b.act words)) u) answers) (ap is_last (sym e) ∙ f) ∙ ap (λ q. after L.ask L.resume (L.ask (L.resume b.control (fitted q words)) u) answers) (sym e) in
      (sym left ∙ (x.0 ∙ right), subst (IsGood R) left x.1)

  asks_alike : (c : C) (d : D) (u v : List ℕ) → AskSame K L R c d → (u ≡ v) × R.Private u → AsksAlike (same K L R) (K.ask c u) (L.ask d v)
  asks_alike c d u v h p =
      let x = h u [] p.1 tt in
      let e : outcome.Asks (K.ask c u).act (K.ask c u).line (K.ask c u).privates ≡ outcome.Asks (L.ask d v).act (L.ask d v).line (L.ask d v).privates =
      x.0 ∙ ap (λ v. outcome.Asks (L.ask d v).act (L.ask d v).line (L.ask d v).privates) p.0 in
      let e1 = same_act _ _ _ _ _ _ e in
      record {
        act = e1;
        line = same_line _ _ _ _ _ _ e;
        control = λ f. further (K.ask c u) (L.ask d v) e1 f (λ answers g.
            let y = h u answers p.1 g in (y.0 ∙ ap (λ v. after L.ask L.resume (L.ask d v) answers) p.0, y.1));
        privates = (same_privates _ _ _ _ _ _ e, x.1.0);
        starts = x.1.1;
      }

  -- where all starts ask the same after all answers, the kinds are alike
  pub alike : K.fresh ≡ L.fresh → R.Private K.fresh → ((start : Start) → R.IsStart start → AskSame K L R (K.start start) (L.start start)) → AlikeUntilLast (kind K) (kind L) (same K L R)
  alike e k h = record {
    asks = asks_alike;
    resumes = λ act c d words f w. w f words;
    starts = h;
    fresh = (e, k);
  }
