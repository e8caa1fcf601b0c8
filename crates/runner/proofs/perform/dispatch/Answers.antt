use Rattle.std.proofs.Common.{◌≡◌, rules, to_z, of_z, w64}
use Rattle.calls.specs.declared.answer.Reply.TheVariants.{Value, Voted, Done}
use Rattle.pool.specs.Calls.{read, write, vote, finish}
use Rattle.pool.specs.Pools.{rule_of}
use Rattle.runner.proofs.Replies.{replied_ok, replied_err}
use Rattle.runner.proofs.perform.dispatch.Goals as goal

pub returns-in-Err-read-clause-performs : goal.returns-in-Err-read-clause-performs
returns-in-Err-read-clause-performs g c = rw c.in-Read.is (replied_err (λ s. read s c.in-Read.seat c.in-Read.entry) Value c.in-Err-read.fault c.in-Err-read.ensures.reads)

pub returns-in-Ok-write-clause-performs : goal.returns-in-Ok-write-clause-performs
returns-in-Ok-write-clause-performs g c =
    let same : to_z w64 (of_z w64 c.in-Write.value) ≡ c.in-Write.value = search rules in
    let writes = rw same at c.in-Ok-write.ensures.writes in
    rw c.in-Write.is (replied_ok (λ s. write s c.in-Write.seat c.in-Write.entry c.in-Write.value) (λ _. Done) c.in-Ok-write.field-0 writes)

pub returns-in-Err-write-clause-performs : goal.returns-in-Err-write-clause-performs
returns-in-Err-write-clause-performs g c =
    let same : to_z w64 (of_z w64 c.in-Write.value) ≡ c.in-Write.value = search rules in
    let writes = rw same at c.in-Err-write.ensures.writes in
    rw c.in-Write.is (replied_err (λ s. write s c.in-Write.seat c.in-Write.entry c.in-Write.value) (λ _. Done) c.in-Err-write.fault writes)

pub returns-in-Err-vote-clause-performs : goal.returns-in-Err-vote-clause-performs
returns-in-Err-vote-clause-performs g c =
    rw c.in-Vote.is (replied_err (λ s. vote (rule_of c.args.pool.now) s c.in-Vote.seat c.in-Vote.entry) Voted c.in-Err-vote.fault c.in-Err-vote.ensures.votes)

pub returns-in-Err-finish-clause-performs : goal.returns-in-Err-finish-clause-performs
returns-in-Err-finish-clause-performs g c =
    rw c.in-Finish.is (replied_err (λ s. finish s c.in-Finish.seat c.in-Finish.entry) (λ _. Done) c.in-Err-finish.fault c.in-Err-finish.ensures.finishes)
