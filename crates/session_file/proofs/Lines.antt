-- A line derives one thing, and one that derives something has no fault.
use Rattle.std.proofs.Common.{codes, map, ◌≡◌, ℕ, ℤ, pos, eqb, if◌then◌else◌, List, [], ◌∷◌, length, get_or, refl, sym, ap, ◌∙◌}
use Rattle.calls.specs.Names.{name_text, name_of}
use Rattle.calls.specs.declared.call.Call.{Call}
use Rattle.calls.specs.declared.call.Call.TheVariants as C
use Rattle.calls.specs.declared.call.CallName.{CallName}
use Rattle.calls.specs.declared.call.CallName.TheVariants.{Begin, Read, Write, Prepare, Vote, Decide, Abort, Finish, Close}
use Rattle.words.specs.declared.fault.WordFault.TheVariants.{NumberForm, LineForm}
use Rattle.words.proofs.Splits.{same_word, same_rest}
use Rattle.words.proofs.Numerals.{number_one, value_one}
use Rattle.session_lines.specs.Grammar.{Argument, Plain, Scaled, Keyword, Strictness, AnyWord, InForm, InReach, DerivesArgument, DeriveArguments, Spells, HasFault, FaultOf, Derivable}
use Rattle.session_lines.specs.Calls.{arguments_of, CallLine}
use Rattle.session_lines.specs.Sizes.{SizesLine, size_arguments}
use Rattle.session_lines.specs.Scales.{amount_text, unit_text}
use Rattle.session_lines.specs.Timescales.{TimescaleLine, scale_arguments}
use Rattle.session_lines.specs.declared.timescale.Amount.{Amount}
use Rattle.session_lines.specs.declared.timescale.Amount.TheVariants.{One, Ten, Hundred}
use Rattle.session_lines.specs.declared.timescale.Unit.{Unit as TimeUnit}
use Rattle.session_lines.specs.declared.timescale.Unit.TheVariants.{Seconds, Milliseconds, Microseconds, Nanoseconds, Picoseconds, Femtoseconds}
use Rattle.session_lines.specs.declared.timescale.Timescale.{Timescale}
use Rattle.session_lines.specs.declared.sizes.Sizes.{Sizes}
use Rattle.session_lines.specs.declared.fault.Cause.{Cause}
use Rattle.session_lines.specs.declared.fault.Cause.TheVariants.{Word, Line, Pool}
use Rattle.session_lines.specs.declared.fault.LineFault.TheVariants.{WrongWords, TooFar}
use Rattle.session_lines.proofs.Derivings.{words_only}
use Rattle.session_lines.proofs.CallNames.{same_name}
use Rattle.session_lines.proofs.Scales.{same_scale, timescale_words}

abbrev amount_by : ℕ → Amount
amount_by n = if eqb n 1 then One else if eqb n 2 then Ten else Hundred

amount_known : (a : Amount) → amount_by (length (amount_text a)) ≡ a
amount_known One = refl
amount_known Ten = refl
amount_known Hundred = refl

abbrev unit_by : ℕ → TimeUnit
unit_by c =
    if eqb c 115 then Seconds else if eqb c 109 then Milliseconds else if eqb c 117 then Microseconds
    else if eqb c 110 then Nanoseconds else if eqb c 112 then Picoseconds else Femtoseconds

unit_known : (u : TimeUnit) → unit_by (get_or (unit_text u) 0 0) ≡ u
unit_known Seconds = refl
unit_known Milliseconds = refl
unit_known Microseconds = refl
unit_known Nanoseconds = refl
unit_known Picoseconds = refl
unit_known Femtoseconds = refl

abbrev scale : Amount → TimeUnit → Timescale
scale a u = record { amount = a; unit = u }

pub timescale_one : (line : List ℕ) (t s : Timescale) → TimescaleLine line InReach t → TimescaleLine line InReach s → t ≡ s
timescale_one line t s h k =
    let same = same_scale (codes "timescale") (amount_text t.amount) (unit_text t.unit) line InReach s (timescale_words line InReach t h) k in
    let amounts : t.amount ≡ s.amount = sym (amount_known t.amount) ∙ ap (λ w. amount_by (length w)) same.1 ∙ amount_known s.amount in
    let units : t.unit ≡ s.unit = sym (unit_known t.unit) ∙ ap (λ w. unit_by (get_or w 0 0)) same.2 ∙ unit_known s.unit in
    ap (λ a. scale a t.unit) amounts ∙ ap (λ u. scale s.amount u) units

-- what a line derives behind its name
spelled_one : (m n line : List ℕ) (xs ys : List Argument) → Spells InReach m xs line → Spells InReach n ys line
    → (m ≡ n) × ((ws : List (List ℕ)) × DeriveArguments InReach ws xs × DeriveArguments InReach ws ys)
spelled_one m n line xs ys h k =
    let rests : h.0 ≡ k.0 = same_rest m n h.0 k.0 line h.1 k.1 in
    let words : h.2.0 ≡ k.2.0 = words_only h.2.0 k.2.0 k.0 (rw (← rests) h.2.1) k.2.1 in
    (same_word m n h.0 k.0 line h.1 k.1, (k.2.0, rw (← words) h.2.2, k.2.2))

-- what kind of argument it is, whatever it derives
abbrev kind_of : Argument → Argument
kind_of (Plain _) = Plain 0
kind_of (Scaled t _) = Scaled t (pos 0)
kind_of (Keyword _) = Keyword []

argument_one : (word : List ℕ) (a b : Argument) → kind_of a ≡ kind_of b → DerivesArgument InReach word a → DerivesArgument InReach word b → a ≡ b
argument_one word (Plain n) (Plain m) e h k = ap Plain (number_one 9 word n m h k)
argument_one word (Plain n) (Scaled s z) e h k = cc
argument_one word (Plain n) (Keyword w) e h k = cc
argument_one word (Scaled s y) (Plain m) e h k = cc
argument_one word (Scaled s y) (Scaled r z) e h k =
    let scales : s ≡ r = cc (e) in
    let values : h.0.0 ≡ k.0.0 = value_one word h.0.0 k.0.0 h.0.1 k.0.1 in
    let same : y ≡ z = h.0.2 ∙ rw (values, scales) (sym k.0.2) in cc (scales, same)
argument_one word (Scaled s y) (Keyword w) e h k = cc
argument_one word (Keyword v) (Plain m) e h k = cc
argument_one word (Keyword v) (Scaled s z) e h k = cc
argument_one word (Keyword v) (Keyword w) e h k = ap Keyword (sym h ∙ k)

arguments_one : (ws : List (List ℕ)) (xs ys : List Argument) → map kind_of xs ≡ map kind_of ys → DeriveArguments InReach ws xs → DeriveArguments InReach ws ys → xs ≡ ys
arguments_one ws [] [] e h k = refl
arguments_one ws [] (b ∷ ys) e h k = cc
arguments_one ws (a ∷ xs) [] e h k = cc
arguments_one [] (a ∷ xs) (b ∷ ys) e h k = absurd h
arguments_one (w ∷ ws) (a ∷ xs) (b ∷ ys) e h k =
    let head : kind_of a ≡ kind_of b = cc in
    let tail : map kind_of xs ≡ map kind_of ys = cc in
    let first : a ≡ b = argument_one w a b head h.0 k.0 in
    let others : xs ≡ ys = arguments_one ws xs ys tail h.1 k.1 in cc

abbrev plain_of : Argument → ℕ
plain_of (Plain n) = n
plain_of _ = 0

abbrev value_of : Argument → ℤ
value_of (Scaled _ z) = z
value_of _ = pos 0

abbrev number_at : List Argument → ℕ → ℕ
number_at xs i = plain_of (get_or xs i (Plain 0))

abbrev sizes_of : List Argument → Sizes
sizes_of xs = record { seats = number_at xs 0; entries = number_at xs 1; depth = number_at xs 2 }

pub sizes_one : (line : List ℕ) (a b : Sizes) → SizesLine line InReach a → SizesLine line InReach b → a ≡ b
sizes_one line a b h k =
    let found = spelled_one (codes "pool") (codes "pool") line (size_arguments a) (size_arguments b) h k in
    let same : size_arguments a ≡ size_arguments b = arguments_one found.1.0 (size_arguments a) (size_arguments b) refl found.1.1 found.1.2 in
    ap sizes_of same

abbrev call_of : CallName → List Argument → Call
call_of Begin xs = C.Begin (number_at xs 0)
call_of Read xs = C.Read (number_at xs 0) (number_at xs 1)
call_of Write xs = C.Write (number_at xs 0) (number_at xs 1) (value_of (get_or xs 2 (Plain 0)))
call_of Prepare xs = C.Prepare (number_at xs 0)
call_of Vote xs = C.Vote (number_at xs 0) (number_at xs 1)
call_of Decide xs = C.Decide (number_at xs 0)
call_of Abort xs = C.Abort (number_at xs 0)
call_of Finish xs = C.Finish (number_at xs 0) (number_at xs 1)
call_of Close xs = C.Close (number_at xs 0)

call_known : (t : Timescale) (call : Call) → call_of (name_of call) (arguments_of t call) ≡ call
call_known t (C.Begin seat) = refl
call_known t (C.Read seat entry) = refl
call_known t (C.Write seat entry value) = refl
call_known t (C.Prepare seat) = refl
call_known t (C.Vote seat entry) = refl
call_known t (C.Decide seat) = refl
call_known t (C.Abort seat) = refl
call_known t (C.Finish seat entry) = refl
call_known t (C.Close seat) = refl

-- the kinds of arguments that calls of a name have
abbrev kinds_of : Timescale → CallName → List Argument
kinds_of _ Begin = Plain 0 ∷ []
kinds_of _ Read = Plain 0 ∷ Plain 0 ∷ []
kinds_of t Write = Plain 0 ∷ Plain 0 ∷ Scaled t (pos 0) ∷ []
kinds_of _ Prepare = Plain 0 ∷ []
kinds_of _ Vote = Plain 0 ∷ Plain 0 ∷ []
kinds_of _ Decide = Plain 0 ∷ []
kinds_of _ Abort = Plain 0 ∷ []
kinds_of _ Finish = Plain 0 ∷ Plain 0 ∷ []
kinds_of _ Close = Plain 0 ∷ []

kinds_known : (t : Timescale) (call : Call) → map kind_of (arguments_of t call) ≡ kinds_of t (name_of call)
kinds_known t (C.Begin seat) = refl
kinds_known t (C.Read seat entry) = refl
kinds_known t (C.Write seat entry value) = refl
kinds_known t (C.Prepare seat) = refl
kinds_known t (C.Vote seat entry) = refl
kinds_known t (C.Decide seat) = refl
kinds_known t (C.Abort seat) = refl
kinds_known t (C.Finish seat entry) = refl
kinds_known t (C.Close seat) = refl

pub call_one : (t : Timescale) (line : List ℕ) (c d : Call) → CallLine t line InReach c → CallLine t line InReach d → c ≡ d
call_one t line c d h k =
    let found = spelled_one (name_text (name_of c)) (name_text (name_of d)) line (arguments_of t c) (arguments_of t d) h k in
    let names : name_of c ≡ name_of d = same_name (name_of c) (name_of d) found.0 in
    let kinds : map kind_of (arguments_of t c) ≡ map kind_of (arguments_of t d) = kinds_known t c ∙ ap (kinds_of t) names ∙ sym (kinds_known t d) in
    let same : arguments_of t c ≡ arguments_of t d = arguments_one found.1.0 (arguments_of t c) (arguments_of t d) kinds found.1.1 found.1.2 in
    sym (call_known t c) ∙ ap (λ n. call_of n (arguments_of t c)) names ∙ ap (call_of (name_of d)) same ∙ call_known t d

-- what is read strictly is read less strictly too
looser : (how : Strictness) (word : List ℕ) (a : Argument) → DerivesArgument InReach word a → DerivesArgument how word a
looser AnyWord word (Plain n) h = tt
looser AnyWord word (Scaled t z) h = tt
looser AnyWord word (Keyword text) h = h
looser InForm word (Plain n) h = h
looser InForm word (Scaled t z) h = h.0
looser InForm word (Keyword text) h = h
looser InReach word a h = h

each_looser : (how : Strictness) (ws : List (List ℕ)) (xs : List Argument) → DeriveArguments InReach ws xs → DeriveArguments how ws xs
each_looser how [] [] h = tt
each_looser how [] (a ∷ xs) h = absurd h
each_looser how (w ∷ ws) [] h = absurd h
each_looser how (w ∷ ws) (a ∷ xs) h = (looser how w a h.0, each_looser how ws xs h.1)

spells_looser : (how : Strictness) (n : List ℕ) (xs : List Argument) (line : List ℕ) → Spells InReach n xs line → Spells how n xs line
spells_looser how n xs line h = (h.0, h.1, (h.2.0, h.2.1, each_looser how h.2.0 xs h.2.2))

sound : (D : Strictness → Type 0) (cause : Cause) → ((how : Strictness) → D how) → HasFault D cause → ⊥
sound D (Line WrongWords) d h = h (d AnyWord)
sound D (Line TooFar) d h = h.1 (d InReach)
sound D (Word NumberForm) d h = h.1 (d InForm)
sound D (Word LineForm) d h = h
sound D (Pool fault) d h = h

pub timescale_sound : (line : List ℕ) (t : Timescale) (cause : Cause) → TimescaleLine line InReach t → FaultOf (TimescaleLine line) cause → ⊥
timescale_sound line t cause d h = sound (Derivable (TimescaleLine line)) cause (λ how. (t, spells_looser how (codes "timescale") (scale_arguments t) line d)) h

pub sizes_sound : (line : List ℕ) (sizes : Sizes) (cause : Cause) → SizesLine line InReach sizes → FaultOf (SizesLine line) cause → ⊥
sizes_sound line sizes cause d h = sound (Derivable (SizesLine line)) cause (λ how. (sizes, spells_looser how (codes "pool") (size_arguments sizes) line d)) h

pub call_sound : (t : Timescale) (line : List ℕ) (call : Call) (cause : Cause) → CallLine t line InReach call → FaultOf (CallLine t line) cause → ⊥
call_sound t line call cause d h = sound (Derivable (CallLine t line)) cause (λ how. (call, spells_looser how (name_text (name_of call)) (arguments_of t call) line d)) h
