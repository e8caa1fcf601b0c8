use Rattle.std.proofs.Common.{◌≡◌, length, ap, sym, ◌∙◌, rules, to_z, of_z, w64}
use Rattle.std.specs.Int.{w32, from_le_bytes}
use Rattle.record.specs.Numbers.{record_size}
use Rattle.record.specs.Bytes.{record_from, value_from, previous_from}
use Rattle.record.proofs.Parts.{at_2, at_6, at_12}
use Rattle.record.proofs.record.Record.decode.Goals as goal

pub returns : goal.returns
unfolding record_from
returns c =
    let xs = c.args.bytes in
    let long : length xs ≡ record_size = search rules in
    let same : to_z w64 (of_z w64 c.value_from.result) ≡ c.value_from.result = search rules in
    let value = same ∙ c.value_from.ensures ∙ sym (ap value_from (at_6 xs long)) in
    let serial = c.from_le_bytes.ensures ∙ sym (ap (from_le_bytes w32) (at_2 xs long)) in
    let previous = c.previous_from.ensures ∙ ap previous_from (c.from_le_bytes-2.ensures ∙ sym (ap (from_le_bytes w32) (at_12 xs long))) in
    λ i. record { entry = (record_from xs).entry; version = record { value = value i; seat = (record_from xs).version.seat; serial = serial i }; previous = previous i }
