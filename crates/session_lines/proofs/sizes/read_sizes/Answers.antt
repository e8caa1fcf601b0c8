use Rattle.std.proofs.Common.{◌≡◌, ℕ, List, drop}
use Rattle.session_lines.specs.Grammar.{HasFault, Derivable, FaultOf, AnyWord, InReach, Arguments}
use Rattle.session_lines.specs.declared.fault.Cause.{Cause}
use Rattle.words.specs.Words.{Leads}
use Rattle.session_lines.proofs.Derivings.{stops_at_none}
use Rattle.std.proofs.Common.{rules, codes, Result, Ok, Err, MatchResult}
use Rattle.session_lines.specs.Sizes.{SizesLine, size_arguments}
use Rattle.session_lines.specs.declared.sizes.Sizes.{Sizes}
use Rattle.session_lines.proofs.Derivings.{spelled, fault_carries}
use Rattle.session_lines.proofs.sizes.read_sizes.Goals as goal

go : (r : Result Sizes Cause) (rest line : List ℕ) → Leads (codes "pool") rest line
    → MatchResult r (λ x. Arguments InReach (size_arguments x) rest) (HasFault (λ how. (x : Sizes) × Arguments how (size_arguments x) rest))
    → MatchResult r (SizesLine line InReach) (FaultOf (SizesLine line))
go (Ok x) rest line leads h = (rest, leads, h)
go (Err e) rest line leads h =
    fault_carries (λ how. (x : Sizes) × Arguments how (size_arguments x) rest) (Derivable (SizesLine line)) e
    (λ how d. (d.0, (rest, leads, d.1)))
    (λ how d. (d.0, (spelled how (codes "pool") (codes "pool") (size_arguments d.0) rest line leads d.1).1))
    h

pub returns-in_err-name : goal.returns-in_err-name
returns-in_err-name c =
    stops_at_none _ _ (Derivable (SizesLine c.args.line.now)) c.from_residual.result c.next_word.result c.in_err-name.field-0.0 _ c.from_residual.ensures.1 c.in_err-name.ensures.value c.next_word.ensures
    (λ none d. none (codes "pool") d.1.0 d.1.1)

pub returns-then-ne : goal.returns-then-ne
returns-then-ne c =
    let leads : Leads c.in_ok-name.name.now (drop c.in_ok-name.at c.args.line.now) c.args.line.now = rw c.in_ok-name.ensures.ok_part at c.next_word.ensures in
    let other : c.in_ok-name.name.now ≡ codes "pool" → ⊥ = search rules in
    rw c.into.ensures (λ d. other (spelled AnyWord (codes "pool") c.in_ok-name.name.now (size_arguments d.0) (drop c.in_ok-name.at c.args.line.now) c.args.line.now leads d.1).0)

pub returns : goal.returns
returns c =
    let leads : Leads c.in_ok-name.name.now (drop c.in_ok-name.at c.args.line.now) c.args.line.now = rw c.in_ok-name.ensures.ok_part at c.next_word.ensures in
    let is : c.in_ok-name.name.now ≡ codes "pool" = search rules in
    let rest = drop c.in_ok-name.at c.args.line.now in
    go c.sizes_at.result rest c.args.line.now (rw is at leads) c.sizes_at.ensures
