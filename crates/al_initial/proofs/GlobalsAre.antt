-- Globals, from each of them on.
use Rattle.std.proofs.Common.{◌≡◌, ℕ, ◌+◌, ◌<◌, ◌≤◌, suc, List, [], ◌∷◌, ◌++◌, length, get_or, drop, ap, ◌∙◌, sym, drop-cons, add-one, append_assoc}
use Rattle.std.proofs.lemmas.List.{drop_all, append-nil}
use Rattle.al_tree.specs.declared.item.Tree.{Tree}
use Rattle.al_typed.specs.declared.program.Global.{Global}
use Rattle.al_environment.specs.declared.environment.Variable.{Variable}
use Rattle.al_environment.specs.declared.environment.Environment.{Environment}
use Rattle.al_initial.specs.Walks.{Starts}
use Rattle.al_initial.specs.Whole.{global, globals_from}

module _ (env : Environment) (tree : Tree) (starts : Starts) where
  pub globals-here :
      (vs : List Variable) (done : List Global) (k : ℕ) (v : Variable) → k < length vs → v ≡ get_or vs k v
      → done ++ globals_from env tree starts k (drop k vs) ≡ (done ++ global env tree starts k v ∷ []) ++ globals_from env tree starts (k + 1) (drop (k + 1) vs)
  unfolding globals_from
  globals-here vs done k v h e =
      ap (λ l. done ++ globals_from env tree starts k l) (drop-cons vs k v h)
      ∙ ap (λ x. done ++ (global env tree starts k x ∷ globals_from env tree starts (k + 1) (drop (suc k) vs))) (sym e)
      ∙ ap (λ n. done ++ (global env tree starts k v ∷ globals_from env tree starts (k + 1) (drop n vs))) (sym (add-one k))
      ∙ sym (append_assoc done (global env tree starts k v ∷ []) (globals_from env tree starts (k + 1) (drop (k + 1) vs)))

  pub globals-end : (vs : List Variable) (done : List Global) (k : ℕ) → length vs ≤ k → done ++ globals_from env tree starts k (drop k vs) ≡ done
  unfolding globals_from
  globals-end vs done k h = ap (λ l. done ++ globals_from env tree starts k l) (drop_all k vs h) ∙ append-nil done

pub ruleset globals_are = (globals-here, globals-end)
