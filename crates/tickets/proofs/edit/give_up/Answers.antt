use Rattle.std.proofs.Common.{List, refl, ap, ap₂, ◌∙◌, subst}
use Rattle.calls.specs.declared.call.Call.{Call}
use Rattle.pool.specs.Pools.{state_of, rule_of}
use Rattle.tickets.specs.Lists.{MakesCalls}
use Rattle.tickets.specs.Endings.{giving_up_calls, giving_up_outcome}
use Rattle.tickets.proofs.Accepted.{giving_up_leads}
use Rattle.tickets.proofs.Ends.{ends, ends_gone}
use Rattle.tickets.proofs.edit.give_up.Goals as goal

pub returns-in-Some-clause-ends : goal.returns-in-Some-clause-ends
returns-in-Some-clause-ends g c =
    let old = c.args.pool.now in
    let ticket = c.args.ticket.now in
    let found = c.in-Some.ensures in
    ends old ticket (giving_up_calls (state_of old) ticket.seat) giving_up_outcome refl refl
    (λ initial seats few q live a. giving_up_leads (rule_of old) initial seats few ticket.seat q (state_of old) live a)
    c.give_up.result
    (subst (λ (calls : List Call). MakesCalls old calls c.give_up.new.pool) (ap₂ (giving_up_calls (state_of old)) found.seat found.edit) c.give_up.ensures.calls)
    (c.give_up.ensures.outcome ∙ ap giving_up_outcome found.edit)
    c.give_up.ensures.gone

pub returns-in-None-clause-ends : goal.returns-in-None-clause-ends
returns-in-None-clause-ends g c =
    let old = c.args.pool.now in
    let ticket = c.args.ticket.now in
    ends_gone old ticket (giving_up_calls (state_of old) ticket.seat) giving_up_outcome refl refl
    (λ initial seats few q live a. giving_up_leads (rule_of old) initial seats few ticket.seat q (state_of old) live a)
    c.in-None.ensures.none
