use Rattle.std.proofs.Common.{◌≡◌, ◌≤◌, ◌*◌, ◌/◌, length, ap, sym, subst, ◌∙◌, arith, rules}
use Rattle.store.specs.Laying.{lay_out_answer, laid_out_meaning, widest_sizes}
use Rattle.store.specs.Slots.{AreLaidOut}
use Rattle.record.specs.Numbers.{record_size}
use Rattle.journal.specs.Stores.{bytes_of}
use Rattle.journal.proofs.Laid.{each_room, laid_room, laid_blank, laid_kept, laid_counts, laid_found, laid_means, laid_records, laid_bytes}
use Rattle.journal.proofs.layout.JournalStoreLayOut.lay_out.Goals as goal

pub put_openings-self-requires-clause-room : goal.put_openings-self-requires-clause-room
put_openings-self-requires-clause-room c =
    let fits : c.args.entries * c.args.depth ≤ c.len.result / record_size = grind arith in
    each_room c.args.entries c.args.depth (length c.deref_mut.result.now) (search rules) (omega (arith, fits, c.len.ensures, c.args.self.now.bytes.ok.0))

pub invariant_of-self-2-clause-room : goal.invariant_of-self-2-clause-room
invariant_of-self-2-clause-room c = laid_room c.args.self.now.bytes c.put_openings-self.new.bytes c.put_openings-self.result c.lay_out.new.self c.args.entries c.args.depth (cc) (cc) (subst (λ reach. AreLaidOut reach c.args.entries c.args.depth c.lay_out.new.self) c.args.self.now.reach c.in_ok-lay_out.ensures.leaves) (search rules) (grind arith)

pub invariant_of-self-2-clause-blank : goal.invariant_of-self-2-clause-blank
invariant_of-self-2-clause-blank c = laid_blank c.args.self.now.bytes c.put_openings-self.new.bytes c.put_openings-self.result c.lay_out.new.self c.args.entries c.args.depth (cc) (cc) (subst (λ reach. AreLaidOut reach c.args.entries c.args.depth c.lay_out.new.self) c.args.self.now.reach c.in_ok-lay_out.ensures.leaves) (search rules) (grind arith)

pub invariant_of-self-2-clause-kept : goal.invariant_of-self-2-clause-kept
invariant_of-self-2-clause-kept c = λ some. laid_kept c.args.self.now.bytes c.put_openings-self.new.bytes c.put_openings-self.result c.lay_out.new.self c.args.entries c.args.depth (cc) (cc) (subst (λ reach. AreLaidOut reach c.args.entries c.args.depth c.lay_out.new.self) c.args.self.now.reach c.in_ok-lay_out.ensures.leaves) (search rules) (grind arith)

pub invariant_of-self-2-clause-counts : goal.invariant_of-self-2-clause-counts
invariant_of-self-2-clause-counts c = laid_counts c.args.self.now.bytes c.put_openings-self.new.bytes c.put_openings-self.result c.lay_out.new.self c.args.entries c.args.depth (cc) (cc) (subst (λ reach. AreLaidOut reach c.args.entries c.args.depth c.lay_out.new.self) c.args.self.now.reach c.in_ok-lay_out.ensures.leaves) (search rules) (grind arith)

pub invariant_of-self-2-clause-found : goal.invariant_of-self-2-clause-found
invariant_of-self-2-clause-found c = laid_found c.args.self.now.bytes c.put_openings-self.new.bytes c.put_openings-self.result c.lay_out.new.self c.args.entries c.args.depth (cc) (cc) (subst (λ reach. AreLaidOut reach c.args.entries c.args.depth c.lay_out.new.self) c.args.self.now.reach c.in_ok-lay_out.ensures.leaves) (search rules) (grind arith)

pub returns-clause-answer : goal.returns-clause-answer
returns-clause-answer c =
    let s = c.args.self.now in
    let long : c.len.result ≡ length (bytes_of s) = omega (arith, c.len.ensures, s.bytes.ok.0) in
    c.in_ok-check.ensures ∙ ap (λ n. lay_out_answer widest_sizes (n / record_size) c.args.entries c.args.depth) long

pub returns-clause-means : goal.returns-clause-means
returns-clause-means c =
    let s = c.args.self.now in
    let m = c.args.entries in
    let d = c.args.depth in
    laid_means c.args.self.now.bytes c.put_openings-self.new.bytes c.put_openings-self.result c.lay_out.new.self c.args.entries c.args.depth (cc) (cc) (subst (λ reach. AreLaidOut reach c.args.entries c.args.depth c.lay_out.new.self) c.args.self.now.reach c.in_ok-lay_out.ensures.leaves) (search rules) (grind arith) ∙ ap (λ reach. laid_out_meaning reach m d) (sym s.reach)

pub returns-clause-leaves : goal.returns-clause-leaves
returns-clause-leaves c = record {
  bytes = laid_bytes c.args.self.now.bytes c.put_openings-self.new.bytes c.put_openings-self.result c.lay_out.new.self c.args.entries c.args.depth (cc) (cc) (subst (λ reach. AreLaidOut reach c.args.entries c.args.depth c.lay_out.new.self) c.args.self.now.reach c.in_ok-lay_out.ensures.leaves) (search rules) (grind arith);
  records = laid_records c.args.self.now.bytes c.put_openings-self.new.bytes c.put_openings-self.result c.lay_out.new.self c.args.entries c.args.depth (cc) (cc) (subst (λ reach. AreLaidOut reach c.args.entries c.args.depth c.lay_out.new.self) c.args.self.now.reach c.in_ok-lay_out.ensures.leaves) (search rules) (grind arith);
}
