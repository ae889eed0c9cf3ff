-- What a text comes to that is accepted.
use Rattle.std.proofs.Common.{◌≡◌, ◌≢◌, List, ℕ, Ok, Err, Result, refl, sym, ap, ◌∙◌, subst}
use Rattle.al_tree.specs.declared.item.Tree.{Tree}
use Rattle.al_rules.specs.Outcome.{Outcome, Good}
use Rattle.al_typed.specs.declared.program.Program.{Program}
use Rattle.al_typed.specs.Measures.{IsWithin}
use Rattle.al_front.specs.Accepted.{IsRead, IsTyped, IsAccepted, AnswersTree}
use Rattle.al_front.specs.declared.refused.FrontStop.{FrontStop}
use Rattle.al_front.specs.declared.refused.FrontStop.TheVariants as stop
use Rattle.al_front.proofs.Typed.{one_typed, never_both_tree}

module _ (text : List ℕ) (found : Result Program FrontStop) where
  -- it has a tree
  pub made_stops : (s : FrontStop) → found ≡ Err s
      → ((tree : Tree) → IsRead text tree → ◌≢◌ {A = Result Tree FrontStop} (Err s) (Err stop.NoMemory) → ◌≡◌ {A = Result Tree FrontStop} (Err s) (Ok tree))
      → (p : Program) → IsAccepted text p → IsWithin p → found ≢ Err stop.NoMemory → found ≡ Ok p
  made_stops s is whole p a within some =
      absurd (let e = whole a.tree a.read (λ e. let same : s ≡ stop.NoMemory = cc in some (is ∙ ap Err same)) in cc)

  -- its tree has that program
  pub made_is : (tree : Tree) → AnswersTree tree found
      → ((other : Tree) → IsRead text other → ◌≢◌ {A = Result Tree FrontStop} (Ok tree) (Err stop.NoMemory) → ◌≡◌ {A = Result Tree FrontStop} (Ok tree) (Ok other))
      → (p : Program) → IsAccepted text p → IsWithin p → found ≢ Err stop.NoMemory → found ≡ Ok p
  made_is tree is whole p a within = on found is
    where
      one : tree ≡ a.tree
      one = let e = whole a.tree a.read (λ e. cc) in cc

      typed : IsTyped tree p
      typed = let P : Tree → Type 0 = λ t. IsTyped t p in subst P (sym one) a.typed

      on : (found : Result Program FrontStop) → AnswersTree tree found → found ≢ Err stop.NoMemory → found ≡ Ok p
      on (Ok q) is some = ap Ok (one_typed tree q p is.0 typed)
      on (Err stop.NoMemory) is some = absurd (some refl)
      on (Err (stop.Refused r)) is some = absurd (never_both_tree tree p r typed within is)
