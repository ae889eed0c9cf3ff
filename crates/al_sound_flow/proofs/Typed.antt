-- The labels and rescues in typed statements.
use Rattle.std.proofs.Common.{◌≡◌, ℕ, ◌+◌, List, [], ◌∷◌, ◌++◌, length, Option, Some, None, refl, sym, ap, ap₂, ◌∙◌}
use Rattle.std.specs.List.{flat_map}
use Rattle.al_rules.specs.Outcome.{Outcome, Good, Bad, both}
use Rattle.al_typed.specs.declared.expression.TExpr.{TExpr}
use Rattle.al_typed.specs.declared.statement.TStmt.{TStmt, Row_of-TStmt, end_of-TStmt, more_of-TStmt, items-the_row-TStmt, items_hidden-the_row-TStmt-0}
use Rattle.al_typed.specs.declared.statement.TStmt.TheBlock.{hidden-the_row-TStmt-0, hidden-the_row-TStmt-1}
use Rattle.al_typed.specs.declared.statement.TStmt.TheVariants as stmt
use denote.Hole.Carrier.{hidden}
use Rattle.al_typed.specs.WellTyped.{labels_in, labels_in_row, rescues_in, rescues_in_row}
use Rattle.al_flow.specs.declared.mark.Mark.{Mark}
use Rattle.al_flow.specs.declared.mark.Mark.TheVariants as mark
use Rattle.al_sound_operators.specs.Typed.{IfGood}
use Rattle.al_sound_flow.specs.Flow.{label_numbers, rescue_numbers}
use Rattle.al_sound_flow.proofs.Numbers.{labels_split, rescues_split}

-- ---- statements with statements in them

labels_row : {m : _} (row : Row_of-TStmt m) → labels_in_row row ≡ flat_map labels_in (items-the_row-TStmt m row)
labels_row end_of-TStmt = refl
labels_row (more_of-TStmt a rest) = ap (λ ns. labels_in a ++ ns) (labels_row rest)

rescues_row : {m : _} (row : Row_of-TStmt m) → rescues_in_row row ≡ flat_map rescues_in (items-the_row-TStmt m row)
rescues_row end_of-TStmt = refl
rescues_row (more_of-TStmt a rest) = ap (λ ns. rescues_in a ++ ns) (rescues_row rest)

labels_are : (ss : List TStmt) → labels_in_row (hidden-the_row-TStmt-0 ss) ≡ flat_map labels_in ss
labels_are ss = labels_row (hidden-the_row-TStmt-0 ss) ∙ ap (flat_map labels_in) (items_hidden-the_row-TStmt-0 ss)

rescues_are : (ss : List TStmt) → rescues_in_row (hidden-the_row-TStmt-0 ss) ≡ flat_map rescues_in ss
rescues_are ss = rescues_row (hidden-the_row-TStmt-0 ss) ∙ ap (flat_map rescues_in) (items_hidden-the_row-TStmt-0 ss)

-- ---- numbered

-- its labels and rescues have the numbers of these, the first of which has the number `from`
pub record IsNumbered (from : ℕ) (own : List Mark) (t : TStmt) : Type 0 where
  pub labels : labels_in t ≡ label_numbers from own
  pub rescues : rescues_in t ≡ rescue_numbers from own

pub record AreNumbered (from : ℕ) (own : List Mark) (ts : List TStmt) : Type 0 where
  pub labels : flat_map labels_in ts ≡ label_numbers from own
  pub rescues : flat_map rescues_in ts ≡ rescue_numbers from own

pub none_numbered : (from : ℕ) → AreNumbered from [] []
none_numbered from = record { labels = refl; rescues = refl }

pub both_numbered : (from : ℕ) (own more : List Mark) (x : Outcome TStmt) (o : Outcome (List TStmt)) → IfGood x (IsNumbered from own) → IfGood o (AreNumbered (from + length own) more)
    → IfGood (both x o (λ y ys. Good (y ∷ ys))) (AreNumbered from (own ++ more))
both_numbered from own more (Good t) (Good ts) h k = record {
  labels = ap₂ (λ (ns ms : List ℕ). ns ++ ms) h.labels k.labels ∙ sym (labels_split from own more);
  rescues = ap₂ (λ (ns ms : List ℕ). ns ++ ms) h.rescues k.rescues ∙ sym (rescues_split from own more);
}
both_numbered from own more (Good t) (Bad gs) h k = tt
both_numbered from own more (Bad fs) (Good ts) h k = tt
both_numbered from own more (Bad fs) (Bad gs) h k = tt

-- ---- by the kind of a typed statement

pub numbered_Block : (from : ℕ) (own : List Mark) (line : ℕ) (ss : List TStmt) → AreNumbered from own ss → IsNumbered from own (stmt.Block line ss)
numbered_Block from own line ss h = record { labels = labels_are ss ∙ h.labels; rescues = rescues_are ss ∙ h.rescues }

pub numbered_Switch : (from : ℕ) (own : List Mark) (line : ℕ) (v : TExpr) (ss : List TStmt) → AreNumbered from own ss → IsNumbered from own (stmt.Switch line v ss)
numbered_Switch from own line v ss h = record { labels = labels_are ss ∙ h.labels; rescues = rescues_are ss ∙ h.rescues }

pub numbered_Alt : (from : ℕ) (own : List Mark) (line : ℕ) (ss : List TStmt) → AreNumbered from own ss → IsNumbered from own (stmt.Alt line ss)
numbered_Alt from own line ss h = record { labels = labels_are ss ∙ h.labels; rescues = rescues_are ss ∙ h.rescues }

pub numbered_Label : (from name : ℕ) (own : List Mark) (line n : ℕ) (t : TStmt) → n ≡ from → IsNumbered (from + 1) own t → IsNumbered from (mark.Label name ∷ own) (stmt.Label line n t)
unfolding hidden-the_row-TStmt-1 hidden
numbered_Label from name own line n t e h = record { labels = ap₂ (λ k ks. k ∷ ks) e h.labels; rescues = h.rescues }

pub numbered_Rescue : (from : ℕ) (name : Option ℕ) (own : List Mark) (line n : ℕ) (t : TStmt) → n ≡ from → IsNumbered (from + 1) own t
    → IsNumbered from (mark.Rescue name ∷ own) (stmt.Rescue line n t)
unfolding hidden-the_row-TStmt-1 hidden
numbered_Rescue from name own line n t e h = record { labels = h.labels; rescues = ap₂ (λ k ks. k ∷ ks) e h.rescues }

pub numbered_While : (from : ℕ) (own : List Mark) (line : ℕ) (e : TExpr) (t : TStmt) → IsNumbered from own t → IsNumbered from own (stmt.While line e t)
unfolding hidden-the_row-TStmt-1 hidden
numbered_While from own line e t h = record { labels = h.labels; rescues = h.rescues }

pub numbered_Do : (from : ℕ) (own : List Mark) (line : ℕ) (t : TStmt) (e : TExpr) → IsNumbered from own t → IsNumbered from own (stmt.Do line t e)
unfolding hidden-the_row-TStmt-1 hidden
numbered_Do from own line t e h = record { labels = h.labels; rescues = h.rescues }

pub numbered_For : (from : ℕ) (own : List Mark) (line : ℕ) (a b c : Option TExpr) (t : TStmt) → IsNumbered from own t → IsNumbered from own (stmt.For line a b c t)
unfolding hidden-the_row-TStmt-1 hidden
numbered_For from own line a b c t h = record { labels = h.labels; rescues = h.rescues }

-- what stands behind `else`
pub record IsNumberedIf (from : ℕ) (own : List Mark) (o : Option TStmt) : Type 0 where
  pub labels : (elim o [ None ↦ [] | Some t ↦ labels_in t ]) ≡ label_numbers from own
  pub rescues : (elim o [ None ↦ [] | Some t ↦ rescues_in t ]) ≡ rescue_numbers from own

pub numbered_If : (from : ℕ) (own more : List Mark) (line : ℕ) (e : TExpr) (t : TStmt) (o : Option TStmt) → IsNumbered from own t → IsNumberedIf (from + length own) more o
    → IsNumbered from (own ++ more) (stmt.If line e t o)
unfolding hidden-the_row-TStmt-1 hidden
numbered_If from own more line e t None h k = record {
  labels = ap₂ (λ (ns ms : List ℕ). ns ++ ms) h.labels k.labels ∙ sym (labels_split from own more);
  rescues = ap₂ (λ (ns ms : List ℕ). ns ++ ms) h.rescues k.rescues ∙ sym (rescues_split from own more);
}
numbered_If from own more line e t (Some other) h k = record {
  labels = ap₂ (λ (ns ms : List ℕ). ns ++ ms) h.labels k.labels ∙ sym (labels_split from own more);
  rescues = ap₂ (λ (ns ms : List ℕ). ns ++ ms) h.rescues k.rescues ∙ sym (rescues_split from own more);
}
