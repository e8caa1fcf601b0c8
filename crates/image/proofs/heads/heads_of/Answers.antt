use Rattle.std.proofs.Common.{ℕ, List, ◌+◌, ◌*◌, ◌≤◌, length, subst, sym, set, get_or, Option, ◌∙◌, arith, rules, length-set}
use Rattle.std.specs.Option.{IfNone}
use Rattle.record.specs.Numbers.{record_size}
use Rattle.record.specs.declared.record.Record.{Record}
use Rattle.record.specs.Journals.{records, Journaled, laid_out}
use Rattle.record.proofs.Kept as kept
use Rattle.image.specs.declared.heads.Heads.{Heads}
use Rattle.image.specs.Heads.{HeadsAre}
use Rattle.image.proofs.Passes.{MayCome, no_fewer, opens, may, kept_more, heads_more, none_more}
use Rattle.image.proofs.heads.heads_of.Goals as goal

pub returns-then-count-entries-clause-none : goal.returns-then-count-entries-clause-none
returns-then-count-entries-clause-none c j = omega (arith, no_fewer c.args.entries c.args.depth c.args.bytes.now c.args.count j)

pub returns-in_err-heads-clause-none : goal.returns-in_err-heads-clause-none
returns-in_err-heads-clause-none c =
    let m = c.args.entries in
    let d = c.args.depth in
    let bytes = c.args.bytes.now in
    let n = c.args.count in
    subst (λ (o : Option Heads). IfNone o (Journaled m d (records bytes n) → ⊥)) (sym c.from_residual.ensures) (λ j. c.in_err-heads.ensures.none (opens m d bytes n j))

pub loop-k-init : goal.loop-k-init
loop-k-init c =
    let m = c.args.entries in
    let d = c.args.depth in
    let bytes = c.args.bytes.now in
    let some = c.in_ok-heads.ensures.some in
    record {
      kept = subst (Journaled m d) (sym some.0) (laid_out c.requires.sizes);
      lens_long = search rules;
      lasts_long = search rules;
      heads = subst (λ (rs : List Record). HeadsAre rs c.in_ok-heads.heads.lens c.in_ok-heads.heads.lasts m) (sym some.0) some.1;
    }

pub returns-then-not-allow-clause-none : goal.returns-then-not-allow-clause-none
returns-then-not-allow-clause-none c =
    let m = c.args.entries in
    let h = c.loop-k.heads in
    let few = kept.few m c.args.depth c.requires.sizes in
    none_more m c.args.depth c.args.bytes.now c.loop-k.k h.lens h.lasts (omega (arith, c.loop-k.invariant.lens_long)) (omega (arith, c.loop-k.invariant.lasts_long)) c.in_ok-added.added
    (omega (arith, c.requires.room)) (sym c.in_ok-added.was ∙ c.read.ensures) c.loop-k.invariant.heads c.args.count (sym c.if-not-allow.ensures) (omega arith) (omega arith)

pub loop-k-preserved : goal.loop-k-preserved
loop-k-preserved c =
    let m = c.args.entries in
    let d = c.args.depth in
    let h = c.loop-k.heads in
    let bytes = c.args.bytes.now in
    let k = c.loop-k.k in
    let r = c.in_ok-added.added in
    let few = kept.few m d c.requires.sizes in
    let lens_long : m ≤ length h.lens = omega (arith, c.loop-k.invariant.lens_long) in
    let lasts_long : m ≤ length h.lasts = omega (arith, c.loop-k.invariant.lasts_long) in
    let within : record_size * k + record_size ≤ length bytes = omega (arith, c.requires.room) in
    let is = sym c.in_ok-added.was ∙ c.read.ensures in
    let fine = sym c.if-not-allow.ensures in
    let come : MayCome m d (records bytes k) r = may m d (records bytes k) h.lens h.lasts c.loop-k.invariant.heads r fine in
    let next = heads_more m d bytes k h.lens h.lasts lens_long lasts_long r within is c.loop-k.invariant.heads come.inside in
    record {
      kept = kept_more m d bytes k h.lens h.lasts lens_long lasts_long r within is c.loop-k.invariant.heads fine c.loop-k.invariant.kept;
      lens_long = length-set h.lens c.from-entry.result (get_or h.lens c.from-entry.result 0 + 1) ∙ c.loop-k.invariant.lens_long;
      lasts_long = length-set h.lasts c.from-entry.result (record_size * k) ∙ c.loop-k.invariant.lasts_long;
      heads = subst (λ (e : ℕ). HeadsAre (records bytes (k + 1)) (set h.lens e (get_or h.lens e 0 + 1)) (set h.lasts e (record_size * k)) m) (sym c.from-entry.ensures) next;
    }
