use Rattle.std.proofs.Common.{[], ◌∷◌}
use Rattle.calls.specs.declared.call.Call.TheVariants.{Close}
use Rattle.pool.specs.Pools.{state_of}
use Rattle.tickets.specs.Endings.{finishes_left}
use Rattle.tickets.proofs.Made.{makes_one, makes-++}
use Rattle.tickets.proofs.open_edit.finish_and_close.Goals as goal

pub returns : goal.returns
returns g c =
    let seat = c.args.seat in
    makes-++ (finishes_left (state_of c.args.pool.now) seat) (Close seat ∷ []) c.finish_all.ensures
    (makes_one (Close seat) c.perform.ensures.performs c.perform.ensures.memory)
