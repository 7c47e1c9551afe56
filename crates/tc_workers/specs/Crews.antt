-- Why a crew doesn't go, by number, and the seats of its workers, by theirs. Source: this project's own.
use Rattle.std.specs.Prelude.{ℕ, List, map}
use Rattle.std.specs.declared.thread.PromisedHandle.{PromisedHandle}
use Rattle.tc_locked.specs.HallBooks.{SeatState}
use Rattle.tc_workers.specs.declared.crew.Why.{Why}
use Rattle.tc_workers.specs.declared.crew.Why.TheVariants.{NoMemory, NoThread}
use Rattle.tc_workers.specs.declared.seat_of.SeatOf.{SeatOf}
use Rattle.tc_links.specs.Turns.{WorkerState}

-- the number of a cause
abbrev pub number_of : Why → ℕ
number_of NoMemory = 1
number_of NoThread = 2

-- the numbers of seats, in their order
abbrev pub numbers_of : List SeatState → List ℕ
numbers_of seats = map (λ seat. seat.number) seats

-- the numbers of the seats of workers that stand beside something, in their order
abbrev pub numbers_in : {I : Type 0} → List (WorkerState × I) → List ℕ
numbers_in crew = map (λ member. member.0.desk.seat.number) crew

-- the numbers of the seats that threads promise, in their order
abbrev pub promised_by : {W N : Type 0} → List (PromisedHandle SeatState (SeatOf W N)) → List ℕ
promised_by handles = map (λ handle. handle.promise.worker.value.desk.seat.number) handles
