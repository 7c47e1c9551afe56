-- Each connection of a worker goes on, and was served by one table.
use Rattle.std.proofs.Common.{ℕ, List, [], ◌∷◌, Option, Some, None, sym, subst}
use Rattle.tc_users.specs.declared.users.UserSpec.{UserSpec}
use Rattle.tc_links.specs.Lives.{TalkState, AreAll, IsOpen, IsOpened}
use Rattle.tc_links.specs.Turns.{WorkerState, Visit, Moved, Dropped, AllVisits, Serves}
use Rattle.tc_workers.specs.Between.{TakesIn, Opens, MayDrop, Changes}
use Rattle.tc_workers.specs.Staying.{AllOpen}
use Rattle.tc_links.proofs.Latest.{rose-first}
use Rattle.tc_workers.proofs.Holding.{AllHeld, held-set, held-at, held-enters, held-changes, held-dropped}

open-visits : (rows : List UserSpec) (a b : List (Option TalkState)) (vs : List Visit) → AllHeld (IsOpen rows) a
    → AllVisits rows a vs b → AllHeld (IsOpen rows) b
open-visits rows a b [] all same = subst (AllHeld (IsOpen rows)) (sym same) all
open-visits rows a b (Moved key moves ∷ vs) all (next, visit, later) =
    let still : IsOpen rows visit.talk = held-at (IsOpen rows) a key visit.talk all visit.held in
    open-visits rows next b vs (held-set (IsOpen rows) a next key (Some visit.reached) all (visit.stays still) visit.left) later
open-visits rows a b (Dropped key moves ∷ vs) all (next, visit, later) =
    open-visits rows next b vs (held-set (IsOpen rows) a next key None all tt visit.left) later

pub turn-open : (rows : List UserSpec) (most : ℕ) (a b : WorkerState) → AllOpen rows a → Serves most rows a b → AllOpen rows b
turn-open rows most a b all x = open-visits rows a.links b.links x.visits all x.made

pub taking-open : (rows : List UserSpec) (talk : TalkState) (a b : WorkerState) → AllOpen rows a → IsOpen rows talk
    → TakesIn talk a b → AllOpen rows b
taking-open rows talk a b all still x = held-enters (IsOpen rows) talk a.links b.links all still x.enters

-- a connection as it was opened
pub open-new : {rows : List UserSpec} {conn : ℕ} {gave took : Option (List ℕ)} {t : TalkState} → IsOpened conn gave took t
    → IsOpen rows t
open-new {rows} x =
    record { by = subst (AreAll rows) (sym x.unserved) tt; on = x.on; rose = rose-first x.last_is }

pub opening-open : (rows : List UserSpec) (conn : ℕ) (gave took : Option (List ℕ)) (a b : WorkerState) → AllOpen rows a
    → Opens conn gave took a b → AllOpen rows b
opening-open rows conn gave took a b all x =
    let still : IsOpen rows x.talk = open-new x.opened in
    taking-open rows x.talk a b all still x.takes

pub passing-open : (rows : List UserSpec) (a b : WorkerState) → AllOpen rows a → Changes a b → AllOpen rows b
passing-open rows a b all x = held-changes (IsOpen rows) a.links b.links x.changes all x.made

pub dropping-open : (rows : List UserSpec) (key : ℕ) (a b : WorkerState) → AllOpen rows a → MayDrop key a b → AllOpen rows b
dropping-open rows key a b all x = held-dropped (IsOpen rows) key a b all x
