use Rattle.std.proofs.Common.{◌≡◌, ◌-◌, ◌^◌, ◌<◌, ◌++◌, ◌∷◌, [], length, List, subst, sym, ap, ◌∙◌}
use Rattle.al_world.specs.Channels.{Channel}
use Rattle.chan_book.specs.Book.{Bounded, IsKept}
use Rattle.chan_book.proofs.Kept.{kept_make}
use Rattle.chan_book.proofs.book.Book.make.Goals as goal

pub invariant_of-self-2 : goal.invariant_of-self-2
invariant_of-self-2 c =
    let i = c.self.inside in
    let all : c.push.new.self.items ≡ i.channels.items ++ c.in_ok-channel.channel ∷ [] = c.in_default.ensures.items ∙ ap (λ l. l ++ c.in_ok-channel.channel ∷ []) c.reserve.ensures.items in
    let made = kept_make _ _ _ _ _ c.add_two.new.self c.in_ok-channel.channel (subst (λ (v : Bounded). length v.book.channels < 2 ^ 32 - 1) (sym c.self.view_is) c.requires.few) c.self.invariant c.in_ok-add_two.ensures.ok c.in_ok-add_two.ensures.ring in
    subst (λ (l : List Channel). IsKept (length i.talks.items) l i.talks.items i.order c.add_two.new.self) (sym all) made
