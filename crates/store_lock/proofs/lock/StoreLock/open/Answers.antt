use Rattle.std.proofs.Common.{◌≡◌, ℕ, ◌+◌, length, List, [], ◌∷◌, ◌++◌, Some, sym, ap, ◌∙◌, subst, Option}
use Rattle.atomic_table.specs.Table.{opening}
use Rattle.store_lock.specs.Rule.{Rule, opening_view}
use Rattle.store_lock.proofs.Dealing.{opens}
use Rattle.store_lock.proofs.lock.StoreLock.open.Goals as goal

pub new-requires : goal.new-requires
new-requires g c =
    let V = g.V.Kept in
    let T = g.row.V.Denot in
    let origin = c.of.result.value in
    let n : ℕ = c.count-count.result in
    let is : origin ≡ c.args.value = c.of.ensures in
    let long : n ≡ length (V.entries origin) = c.count-count.ensures.all ∙ ap (λ v. length (V.entries v)) (sym is) in
    let items : c.push.new.self.items ≡ Some origin ∷ [] = c.in_default.ensures.items ∙ (ap (λ (l : List (Option T)). l ++ Some c.args.value ∷ []) c.new-slots.ensures.items ∙ ap (λ v. Some v ∷ []) (sym is)) in
    subst (λ (l : List (Option T)). Rule V.memo V.entries V.fixed V.lent origin c.args.seats (opening ((n + n) ∷ []) l (opening_view (V.memo origin) (V.entries origin) c.args.seats))) (sym items)
    (opens V.memo V.entries V.fixed V.lent origin c.args.seats (n + n) (ap (λ (k : ℕ). k + k) long) (λ m. ap (λ v. V.lent v m) is ∙ c.requires.unlent m))
