use Rattle.std.proofs.Common.{ℕ, ◌+◌, ◌*◌, ◌<◌, subst, sym, ap, ◌∙◌, arith, Option, refl}
use Rattle.std.proofs.lemmas.Bool.{both_ways}
use Rattle.std.specs.Option.{IfNone}
use Rattle.std.proofs.lemmas.List.{take_rest}
use Rattle.store.specs.Laying.{sizes_fit, widest_sizes}
use Rattle.record.specs.Numbers.{record_size, place_size}
use Rattle.image.specs.Numbers.{trailer_size}
use Rattle.record.specs.Journals.{records, Journaled}
use Rattle.image.specs.declared.image.Contents.{Contents}
use Rattle.image.specs.Images.{IsImage, IsImageOf}
use Rattle.image.specs.Heads.{HeadsAre}
use Rattle.image.proofs.Tails.{no_trailer, no_mark, trailer_found, no_sizes, no_count, no_length, no_heads, no_tail, is_one}
use Rattle.image.proofs.image.contents_of.Goals as goal
use Rattle.image.proofs.image.contents_of.Goals.{then-not-fit-via-then-not-fit, then-not-fit-via-else-not-fit+then-count-entries}

pub returns-in_err-trailer-clause-none : goal.returns-in_err-trailer-clause-none
returns-in_err-trailer-clause-none c =
    subst (λ (o : Option Contents). IfNone o (IsImage c.args.bytes.now → ⊥)) (sym c.from_residual.ensures) (no_trailer c.args.bytes.now (sym c.last.ensures ∙ c.in_err-trailer.was))

pub returns-then-not-is_marked-clause-none : goal.returns-then-not-is_marked-clause-none
returns-then-not-is_marked-clause-none c =
    no_mark c.args.bytes.now (λ ends. absurd (both_ways _ refl (c.if-not-is_marked.ensures.1 ends)))

pub returns-then-not-fit-clause-none : goal.returns-then-not-fit-clause-none
returns-then-not-fit-clause-none c =
    let bytes = c.args.bytes.now in
    let t = c.in_ok-trailer.trailer in
    let is = trailer_found bytes t (sym c.in_ok-trailer.was ∙ c.last.ensures) in
    elim c.then-not-fit.branch [
      | then-not-fit-via-then-not-fit w ↦ no_sizes bytes t is ((λ i. sizes_fit widest_sizes (sym c.from-entries.ensures i) (sym c.from-depth.ensures i)) ∙ sym c.fit.ensures ∙ w.if-not-fit.true)
      | then-not-fit-via-else-not-fit+then-count-entries w ↦ no_count bytes t is (subst (λ (m : ℕ). m * t.depth < t.count) c.from-entries.ensures (subst (λ (d : ℕ). c.from-entries.result * d < t.count) c.from-depth.ensures w.if-count-entries.true))
    ]

pub returns-then-bytes-behind-clause-none : goal.returns-then-bytes-behind-clause-none
returns-then-bytes-behind-clause-none c =
    let bytes = c.args.bytes.now in
    let t = c.in_ok-trailer.trailer in
    let is = trailer_found bytes t (sym c.in_ok-trailer.was ∙ c.last.ensures) in
    no_length bytes t is (λ long. c.if-bytes-behind.true (long ∙ ap (λ m. record_size * t.count + place_size * m + trailer_size) (sym c.from-entries.ensures)))

pub returns-in_err-heads-clause-none : goal.returns-in_err-heads-clause-none
returns-in_err-heads-clause-none c =
    let bytes = c.args.bytes.now in
    let t = c.in_ok-trailer.trailer in
    let is = trailer_found bytes t (sym c.in_ok-trailer.was ∙ c.last.ensures) in
    let refused = no_heads bytes t is (λ j. c.in_err-heads.ensures.none (subst (λ (m : ℕ). Journaled m c.from-depth.result (records bytes t.count)) (sym c.from-entries.ensures) (subst (λ (d : ℕ). Journaled t.entries d (records bytes t.count)) (sym c.from-depth.ensures) j))) in
    subst (λ (o : Option Contents). IfNone o (IsImage bytes → ⊥)) (sym c.from_residual-in_err-heads.ensures) refused

pub returns-then-not-is_tail-clause-none : goal.returns-then-not-is_tail-clause-none
returns-then-not-is_tail-clause-none c =
    let bytes = c.args.bytes.now in
    let t = c.in_ok-trailer.trailer in
    let is = trailer_found bytes t (sym c.in_ok-trailer.was ∙ c.last.ensures) in
    let h = c.in_ok-heads.heads in
    no_tail bytes t is h.lens h.lasts (subst (HeadsAre (records bytes t.count) h.lens h.lasts) c.from-entries.ensures c.in_ok-heads.ensures.some.1) (λ same. absurd (both_ways _ refl (c.if-not-is_tail.ensures.1 (take_rest bytes (record_size * t.count) ∙ same))))

pub returns : goal.returns
returns c =
    let bytes = c.args.bytes.now in
    let t = c.in_ok-trailer.trailer in
    let is = trailer_found bytes t (sym c.in_ok-trailer.was ∙ c.last.ensures) in
    let h = c.in_ok-heads.heads in
    let heads = subst (HeadsAre (records bytes t.count) h.lens h.lasts) c.from-entries.ensures c.in_ok-heads.ensures.some.1 in
    let journal = subst (λ (d : ℕ). Journaled t.entries d (records bytes t.count)) c.from-depth.ensures (subst (λ (m : ℕ). Journaled m c.from-depth.result (records bytes t.count)) c.from-entries.ensures c.in_ok-heads.ensures.some.0) in
    let one = is_one bytes t is (λ i. omega (arith, c.type_inv.bytes i)) h.lens h.lasts heads journal (c.if-bytes-behind.false ∙ ap (λ m. record_size * t.count + place_size * m + trailer_size) c.from-entries.ensures) (sym (take_rest bytes (record_size * t.count)) ∙ c.if-not-is_tail.ensures.0 refl) in
    record {
      some = subst (λ (m : ℕ). IsImageOf bytes m c.from-depth.result (records bytes t.count)) (sym c.from-entries.ensures) (subst (λ (d : ℕ). IsImageOf bytes t.entries d (records bytes t.count)) (sym c.from-depth.ensures) one);
      none = tt;
    }
