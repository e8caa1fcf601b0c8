use Rattle.std.proofs.Common.{◌≡◌, length, ap, sym, subst, ◌∙◌, arith}
use Rattle.store.specs.Laying.{lay_out_answer, laid_out_meaning, widest_sizes}
use Rattle.store.specs.Slots.{AreLaidOut}
use Rattle.table.specs.Stores.{cells_of}
use Rattle.table.proofs.Laid.{laid_room, laid_first, laid_means}
use Rattle.table.proofs.layout.TableStoreLayOut.lay_out.Goals as goal

pub invariant_of-self-2-clause-room : goal.invariant_of-self-2-clause-room
invariant_of-self-2-clause-room c =
    let laid = subst (λ reach. AreLaidOut reach c.args.entries c.args.depth c.lay_out.new.self) c.args.self.now.reach c.in_ok-lay_out.ensures.leaves in
    laid_room c.args.self.now.cells c.put_openings.new.cells c.lay_out.new.self c.args.entries c.args.depth (cc) laid (grind arith)

pub invariant_of-self-2-clause-first : goal.invariant_of-self-2-clause-first
invariant_of-self-2-clause-first c =
    let laid = subst (λ reach. AreLaidOut reach c.args.entries c.args.depth c.lay_out.new.self) c.args.self.now.reach c.in_ok-lay_out.ensures.leaves in
    laid_first c.args.self.now.cells c.put_openings.new.cells c.lay_out.new.self c.args.entries c.args.depth (cc) laid (grind arith) (grind arith)

pub returns-clause-answer : goal.returns-clause-answer
returns-clause-answer c =
    let s = c.args.self.now in
    let long : c.len.result ≡ length (cells_of s) = omega (arith, c.len.ensures, s.cells.ok.0) in
    c.in_ok-check.ensures ∙ ap (λ room. lay_out_answer widest_sizes room c.args.entries c.args.depth) long

pub returns-clause-means : goal.returns-clause-means
returns-clause-means c =
    let s = c.args.self.now in
    let m = c.args.entries in
    let d = c.args.depth in
    let laid = subst (λ reach. AreLaidOut reach m d c.lay_out.new.self) s.reach c.in_ok-lay_out.ensures.leaves in
    laid_means s.cells c.put_openings.new.cells c.lay_out.new.self m d (cc) laid (grind arith) (grind arith)
    ∙ ap (λ reach. laid_out_meaning reach m d) (sym s.reach)
