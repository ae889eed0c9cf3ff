-- Runs, entry by entry.
use Rattle.std.proofs.Common.{◌≡◌, ℕ, List, [], ◌∷◌, map, Option, Some, None, refl, sym, ◌∙◌, subst}
use Rattle.std.proofs.lemmas.Option.{same_Some}
use Rattle.al_event.specs.declared.entry.Entry.{Entry}
use Rattle.al_world.specs.Control.{Kind}
use Rattle.al_world.specs.World.{World}
use Rattle.al_world.specs.Step.{step, run}
use Rattle.al_world.specs.Laws.{by_worker, IsBlindToWorkers, IsDetermined}

module _ (K : Kind) where
  pub run_none : (h : List Entry) → run K h None ≡ None
  run_none [] = refl
  run_none (e ∷ es) = run_none es

  blind : (h : List Entry) (worker : ℕ) (o : Option (World K)) → run K (map (by_worker worker) h) o ≡ run K h o
  blind [] worker o = refl
  blind (e ∷ es) worker None = blind es worker None
  blind (e ∷ es) worker (Some w) = blind es worker (step K w e)

  pub is_blind : IsBlindToWorkers K
  is_blind w h worker = blind h worker (Some w)

  pub is_determined : IsDetermined K
  is_determined w u v h a b = same_Some u v (sym a ∙ b)

  -- a fact that holds of some worlds and that each entry keeps holds along each run
  module _ (P : World K → Type 0) (keeps : (w v : World K) (e : Entry) → P w → step K w e ≡ Some v → P v) where
    abbrev OnSome' : Option (World K) → Type 0
    OnSome' None = Unit {0}
    OnSome' (Some w) = P w

    along_option : (h : List Entry) (o : Option (World K)) → OnSome' o → OnSome' (run K h o)
    along_option [] o s = s
    along_option (e ∷ es) None s = along_option es None tt
    along_option (e ∷ es) (Some w) s = along_option es (step K w e) (on (step K w e) refl)
      where
        on : (o : Option (World K)) → step K w e ≡ o → OnSome' o
        on None h = tt
        on (Some v) h = keeps w v e s h

    pub along : (h : List Entry) (w v : World K) → P w → run K h (Some w) ≡ Some v → P v
    along h w v s r = got (run K h (Some w)) r (along_option h (Some w) s)
      where
        got : (o : Option (World K)) → o ≡ Some v → OnSome' o → P v
        got None e p = absurd (cc)
        got (Some u) e p = let same : u ≡ v = same_Some u v e in subst P same p
