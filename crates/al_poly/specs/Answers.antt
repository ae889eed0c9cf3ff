-- What `concrete` answers: the list of a text with at most 256 instances and no break of rules 13 and 14, or what is wrong.
use Rattle.std.specs.Prelude.{◌≡◌, ◌≤◌, ⊤, List, [], ◌∷◌, length, Contains, Result, Ok, Err}
use Rattle.al_tree.specs.declared.item.Item.{Item}
use Rattle.al_poly.specs.declared.fault.Misuse.{Misuse}
use Rattle.al_poly.specs.declared.fault.Misuse.TheVariants as misuse
use Rattle.al_poly.specs.declared.fault.PolyFault.{PolyFault}
use Rattle.al_poly.specs.declared.fault.PolyFault.TheVariants as poly
use Rattle.al_poly.specs.declared.fault.PolyStop.{PolyStop}
use Rattle.al_poly.specs.declared.fault.PolyStop.TheVariants as stop
use Rattle.al_poly.specs.declared.instance.Instance.{Instance}
use Rattle.al_poly.specs.declared.instances.Instances.{Instances}
use Rattle.al_poly.specs.Instances.{instances, misuses, most}

abbrev pub fault_of : Misuse → PolyFault
fault_of (misuse.UnknownParameter at) = poly.UnknownParameter at
fault_of (misuse.WrongCount at) = poly.WrongCount at

-- The limit comes first: the list is cut at its number. Else a fault is a use that breaks its rule, at its place.
abbrev pub IsFault : List Item → PolyFault → Type 0
IsFault items (poly.UnknownParameter at) = (length (instances items) ≤ 256) × Contains (misuses items) (misuse.UnknownParameter at)
IsFault items (poly.WrongCount at) = (length (instances items) ≤ 256) × Contains (misuses items) (misuse.WrongCount at)
IsFault items poly.Limit = most ≤ length (instances items)

-- want of memory may come at any place
abbrev pub IsAnswer : List Item → Result Instances PolyStop → Type 0
IsAnswer items (Ok found) = (found.list ≡ instances items) × (length (instances items) ≤ 256) × (misuses items ≡ [])
IsAnswer items (Err (stop.Fault f)) = IsFault items f
IsAnswer items (Err stop.NoMemory) = ⊤

-- the answer where there are so many instances, and these misuses
abbrev pub answer_of : List Instance → List Misuse → Result Instances PolyStop
answer_of list [] = Ok (record { list = list })
answer_of list (m ∷ ms) = Err (stop.Fault (fault_of m))
