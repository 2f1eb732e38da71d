-- The numbers of the refusals. Assumes nothing.
use Rattle.std.specs.Prelude.{ℕ}
use Rattle.line.specs.declared.refusal.Refusal.{Refusal}
use Rattle.line.specs.declared.refusal.Refusal.TheVariants.{OutOfRange, TooShort, CostAboveDeadline, DeadlineAbovePeriod, NoForm, Trailer, RunOpen, DraftOpen, NoTicket, HasTasks, NoRoom, NumberTaken, NotThere, Linked, GapBelowDeadline, NoLinkOut, NotReduced, CostAboveMode, NotYet, EndedLate, PastClock, NoMemory}

abbrev pub number_of : Refusal → ℕ
number_of OutOfRange = 1
number_of TooShort = 2
number_of CostAboveDeadline = 3
number_of DeadlineAbovePeriod = 4
number_of NoForm = 5
number_of Trailer = 6
number_of RunOpen = 11
number_of DraftOpen = 12
number_of NoTicket = 13
number_of HasTasks = 14
number_of NoRoom = 15
number_of NumberTaken = 16
number_of NotThere = 17
number_of Linked = 18
number_of GapBelowDeadline = 19
number_of NoLinkOut = 20
number_of NotReduced = 21
number_of CostAboveMode = 22
number_of NotYet = 23
number_of EndedLate = 24
number_of PastClock = 25
number_of NoMemory = 40
