-- The name of each call, its seat, and how a name is spelled.
use Rattle.std.specs.Prelude.{◌≡◌, ℕ, List, Option, MatchOption, codes}
use Rattle.calls.specs.declared.call.Call.{Call}
use Rattle.calls.specs.declared.call.Call.TheVariants as C
use Rattle.calls.specs.declared.call.CallName.{CallName}
use Rattle.calls.specs.declared.call.CallName.TheVariants.{Begin, Read, Write, Prepare, Vote, Decide, Abort, Finish, Close}

abbrev pub name_text : CallName → List ℕ
name_text Begin = codes "begin"
name_text Read = codes "read"
name_text Write = codes "write"
name_text Prepare = codes "prepare"
name_text Vote = codes "vote"
name_text Decide = codes "decide"
name_text Abort = codes "abort"
name_text Finish = codes "finish"
name_text Close = codes "close"

-- what is found has this text, or where none is found nothing has it
abbrev pub MatchName : {A : Type 0} → (A → List ℕ) → List ℕ → Option A → Type 0
MatchName {A} text_of word found =
    MatchOption found ((name : A) → text_of name ≡ word → ⊥) (λ name. text_of name ≡ word)

abbrev pub name_of : Call → CallName
name_of (C.Begin _) = Begin
name_of (C.Read _ _) = Read
name_of (C.Write _ _ _) = Write
name_of (C.Prepare _) = Prepare
name_of (C.Vote _ _) = Vote
name_of (C.Decide _) = Decide
name_of (C.Abort _) = Abort
name_of (C.Finish _ _) = Finish
name_of (C.Close _) = Close

abbrev pub seat_of : Call → ℕ
seat_of (C.Begin seat) = seat
seat_of (C.Read seat _) = seat
seat_of (C.Write seat _ _) = seat
seat_of (C.Prepare seat) = seat
seat_of (C.Vote seat _) = seat
seat_of (C.Decide seat) = seat
seat_of (C.Abort seat) = seat
seat_of (C.Finish seat _) = seat
seat_of (C.Close seat) = seat
