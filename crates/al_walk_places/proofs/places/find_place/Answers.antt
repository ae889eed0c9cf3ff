use Rattle.std.proofs.Common.{◌∙◌}
use Rattle.al_control.specs.Models.{here_of}
use Rattle.al_walk_places.proofs.Placements.{find-Pointed, find-Element, find-Member, find-PointedMember, place_becomes, place_goes, why-Element, why-Member, why-PointedMember}
use Rattle.al_walk_places.proofs.places.find_place.Goals as goal

pub returns-in_ok-find_pointed-in-Pointed-clause-next : goal.returns-in_ok-find_pointed-in-Pointed-clause-next
returns-in_ok-find_pointed-in-Pointed-clause-next c =
    c.in_ok-find_pointed-in-Pointed.ensures
    ∙ place_becomes c.args.place.now _ (here_of c.args.h) _ c.in-Pointed.is (find-Pointed c.in-Pointed.ty c.in-Pointed.pointer (here_of c.args.h))

pub returns-in-Element-clause-next : goal.returns-in-Element-clause-next
returns-in-Element-clause-next c =
    place_goes c.find_element.result c.args.place.now _ (here_of c.args.h) _ c.in-Element.is
    (find-Element c.in-Element.ty c.in-Element.base c.in-Element.index (here_of c.args.h)) c.find_element.ensures.next

pub returns-in-Element-clause-why : goal.returns-in-Element-clause-why
returns-in-Element-clause-why c =
    why-Element c.find_element.result c.args.h.program.now c.args.h.frame.function c.args.place.now c.in-Element.ty c.in-Element.base c.in-Element.index c.in-Element.is
    c.find_element.ensures.why

pub returns-in-Member-clause-next : goal.returns-in-Member-clause-next
returns-in-Member-clause-next c =
    place_goes c.find_member.result c.args.place.now _ (here_of c.args.h) _ c.in-Member.is
    (find-Member c.in-Member.ty c.in-Member.of c.in-Member.path (here_of c.args.h)) c.find_member.ensures.next

pub returns-in-Member-clause-why : goal.returns-in-Member-clause-why
returns-in-Member-clause-why c =
    why-Member c.find_member.result c.args.h.program.now c.args.h.frame.function c.args.place.now c.in-Member.ty c.in-Member.of c.in-Member.path c.in-Member.is
    c.find_member.ensures.why

pub returns-in-PointedMember-clause-next : goal.returns-in-PointedMember-clause-next
returns-in-PointedMember-clause-next c =
    place_goes c.find_pointed_member.result c.args.place.now _ (here_of c.args.h) _ c.in-PointedMember.is
    (find-PointedMember c.in-PointedMember.ty c.in-PointedMember.pointer c.in-PointedMember.path (here_of c.args.h)) c.find_pointed_member.ensures.next

pub returns-in-PointedMember-clause-why : goal.returns-in-PointedMember-clause-why
returns-in-PointedMember-clause-why c =
    why-PointedMember c.find_pointed_member.result c.args.h.program.now c.args.h.frame.function c.args.place.now c.in-PointedMember.ty c.in-PointedMember.pointer
    c.in-PointedMember.path c.in-PointedMember.is c.find_pointed_member.ensures.why
