-- What a step needs is what its work needs.
use Rattle.al_typed.specs.declared.statement.TStmt.{TStmt, If'}
use Rattle.al_meaning.specs.Here.{Here}
use Rattle.al_control.specs.declared.work.Action.{Action}
use Rattle.al_control.specs.declared.work.Action.TheVariants as action
use Rattle.al_control.specs.declared.work.Storage.{Storage}
use Rattle.al_control.specs.declared.work.Storage.TheVariants as storage
use Rattle.al_control.specs.Models.{action_of, choose_of, storage_of}
use Rattle.al_walk_places.specs.Fits.{StorageFits}
use Rattle.al_walk_actions.specs.Fits.{ActionFits}
use Rattle.al_walk.specs.Works.{StatementFits, WorkFits}

pub storage_fits : (h : Here) (s : Storage) → WorkFits h (storage_of s) → StorageFits h.program s
storage_fits h (storage.Point offset) fits = tt
storage_fits h (storage.Index size) fits = tt
storage_fits h (storage.Within offset) fits = tt
storage_fits h storage.AddressOf fits = tt
storage_fits h (storage.Read ty) fits = fits
storage_fits h (storage.Look ty) fits = tt
storage_fits h (storage.Fetch at units got) fits = tt
storage_fits h (storage.Fetched at units got) fits = tt
storage_fits h (storage.Save ty words place) fits = fits
storage_fits h (storage.Put ty) fits = tt
storage_fits h (storage.Write at units words) fits = tt
storage_fits h (storage.Update ty change) fits = fits
storage_fits h (storage.Step ty op) fits = fits
storage_fits h (storage.Clear ty) fits = fits

pub action_fits : (h : Here) (a : Action) → WorkFits h (action_of a) → ActionFits h a
action_fits h (action.Compose pieces arguments text) fits = tt
action_fits h (action.Scan at pieces arguments text) fits = tt
action_fits h (action.Scanned at pieces arguments text) fits = fits
action_fits h action.Terminates fits = tt
action_fits h (action.Receives ty) fits = fits
action_fits h (action.Received ty) fits = fits
action_fits h (action.Sends ty) fits = fits
action_fits h action.CanReceives fits = tt
action_fits h action.CanSends fits = tt
action_fits h (action.Allocate ty) fits = fits
action_fits h (action.Unallocate ty) fits = tt
action_fits h (action.StartProc function count) fits = tt
action_fits h (action.StartTask function count) fits = tt

pub choice_fits : (h : Here) (s : TStmt) → WorkFits h (choose_of s) → StatementFits h.program s
choice_fits h (If' line condition shape chosen other) fits = tt
choice_fits h s fits = fits
