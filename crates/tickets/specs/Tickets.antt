-- What a ticket shows.
use Rattle.std.specs.Prelude.{◌≡◌, ℕ, ◌<◌, Ok, Err, Result}
use Rattle.calls.specs.declared.answer.Reply.TheVariants.{Serial}
use Rattle.calls.specs.declared.fault.Fault.{Fault}
use Rattle.calls.specs.Answers.{Answer}
use Rattle.tickets.specs.declared.ticket.Ticket.{Ticket}

abbrev pub seat_of : Ticket → ℕ
seat_of ticket = ticket.seat

-- serial 0, which no edit has, says that the ticket is spent
abbrev pub IsSpent : Ticket → Type 0
IsSpent ticket = ticket.serial ≡ 0

abbrev pub IsUnspent : Ticket → Type 0
IsUnspent ticket = 0 < ticket.serial

abbrev pub spent_ticket : Ticket → Ticket
spent_ticket ticket = record ticket { serial = 0 }

-- what begin answers where this was taken: the serial of the ticket, or the fault
abbrev pub begin_answer : Result Ticket Fault → Result ℕ Fault
begin_answer (Ok ticket) = Ok ticket.serial
begin_answer (Err fault) = Err fault

-- and as the answer of a call by its name
abbrev pub begin_reply : Result Ticket Fault → Answer
begin_reply (Ok ticket) = Ok (Serial ticket.serial)
begin_reply (Err fault) = Err fault

-- a ticket of an edit of the seat
pub record IsTicketOf (seat : ℕ) (ticket : Ticket) : Type 0 where
  pub of_seat : ticket.seat ≡ seat
  pub unspent : IsUnspent ticket
