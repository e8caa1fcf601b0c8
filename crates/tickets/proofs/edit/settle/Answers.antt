use Rattle.std.proofs.Common.{List, refl, ap₂, ◌∙◌, subst}
use Rattle.calls.specs.declared.call.Call.{Call}
use Rattle.pool.specs.Pools.{state_of, rule_of}
use Rattle.tickets.specs.Lists.{MakesCalls}
use Rattle.tickets.specs.Endings.{settling_calls, settling_outcome}
use Rattle.tickets.proofs.Accepted.{settling_leads}
use Rattle.tickets.proofs.Ends.{ends, ends_gone}
use Rattle.tickets.proofs.edit.settle.Goals as goal

pub returns-in-Some-clause-ends : goal.returns-in-Some-clause-ends
returns-in-Some-clause-ends g c =
    let old = c.args.pool.now in
    let ticket = c.args.ticket.now in
    let found = c.in-Some.ensures in
    ends old ticket (settling_calls (state_of old) ticket.seat) (settling_outcome old ticket.seat) refl refl
    (λ initial seats few q live a. settling_leads (rule_of old) initial seats few ticket.seat q (state_of old) live a)
    c.settle.result
    (subst (λ (calls : List Call). MakesCalls old calls c.settle.new.pool) (ap₂ (settling_calls (state_of old)) found.seat found.edit) c.settle.ensures.calls)
    (c.settle.ensures.outcome ∙ ap₂ (settling_outcome old) found.seat found.edit)
    c.settle.ensures.gone

pub returns-in-None-clause-ends : goal.returns-in-None-clause-ends
returns-in-None-clause-ends g c =
    let old = c.args.pool.now in
    let ticket = c.args.ticket.now in
    ends_gone old ticket (settling_calls (state_of old) ticket.seat) (settling_outcome old ticket.seat) refl refl
    (λ initial seats few q live a. settling_leads (rule_of old) initial seats few ticket.seat q (state_of old) live a)
    c.in-None.ensures.none
