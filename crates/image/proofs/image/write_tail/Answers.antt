use Rattle.std.proofs.Common.{◌≡◌, ◌*◌, ◌++◌, ap, length-append, ◌∙◌, arith}
use Rattle.record.specs.Numbers.{place_size}
use Rattle.record.specs.Journals.{bytes_with}
use Rattle.record.proofs.Written.{written_more}
use Rattle.image.specs.Images.{trailer_bytes}
use Rattle.image.specs.Heads.{numbers_bytes}
use Rattle.image.proofs.Tails.{place_more, length_numbers, length_trailer, written_whole}
use Rattle.image.proofs.image.write_tail.Goals as goal

pub loop-e-preserved : goal.loop-e-preserved
loop-e-preserved c =
    c.put.ensures
    ∙ (λ i. bytes_with (c.loop-e.invariant i) (place_size * c.loop-e.e) (c.to_le_bytes.ensures i))
    ∙ place_more c.args.out.now c.args.lasts.now c.loop-e.e

pub returns : goal.returns
returns c =
    let m = c.args.trailer.entries in
    let last : c.loop-e.e ≡ m = omega (arith, c.from-entries.ensures) in
    let ns = c.args.lasts.now in
    let out = c.args.out.now in
    c.put-2.ensures
    ∙ (λ i. bytes_with (c.loop-e.invariant i) (place_size * c.from-entries.ensures i) (c.encode.ensures i))
    ∙ ap (λ e. bytes_with (bytes_with out 0 (numbers_bytes ns e)) (place_size * m) (trailer_bytes c.args.trailer)) last
    ∙ written_more out (numbers_bytes ns m) (trailer_bytes c.args.trailer) (place_size * m) (length_numbers ns m)
    ∙ written_whole out (numbers_bytes ns m ++ trailer_bytes c.args.trailer) (omega (arith, c.requires.room, length-append (numbers_bytes ns m) (trailer_bytes c.args.trailer), length_numbers ns m, length_trailer c.args.trailer))
