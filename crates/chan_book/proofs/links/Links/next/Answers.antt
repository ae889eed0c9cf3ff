use Rattle.std.proofs.Common.{subst, ◌∙◌, arith}
use Rattle.chan_book.specs.Links.{IsLinked}
use Rattle.chan_book.proofs.Paths.{in_next, read_next, next_is}
use Rattle.chan_book.proofs.links.Links.next.Goals as goal

pub index-requires : goal.index-requires
index-requires c =
    let h : IsLinked c.self.inside.next.items c.self.inside.prev.items c.args.self.now = subst (IsLinked _ _) c.self.view_is c.self.invariant in
    omega (arith, in_next _ _ _ h _ c.requires)

pub returns : goal.returns
returns c =
    let h : IsLinked c.self.inside.next.items c.self.inside.prev.items c.args.self.now = subst (IsLinked _ _) c.self.view_is c.self.invariant in
    read_next _ _ _ h _ c.requires _ c.index.ensures ∙ next_is _ _ _ _ h c.requires
