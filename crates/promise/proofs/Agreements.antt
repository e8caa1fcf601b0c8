-- What each call does to one seat at one entry, to its own and to another seat's: the pool and the history go on agreeing.
use Rattle.std.proofs.Common.{◌≡◌, ℕ, ◌+◌, Bool, true, false, cond, not, ◌&&◌, ◌||◌, ◌⊎◌, List, [], ◌++◌, ℤ, is_some, Some, None, Option, refl, inl, inr, append_assoc, append-nil, arith}
use Rattle.calls.specs.declared.state.State.TheVariants.{Idle, Editing, Voting, Commit, Abort}
use Rattle.store.specs.declared.version.Version.{Version}
use Rattle.store.specs.Meaning.{last_version}
use Rattle.promise.specs.Histories.{Edit, same}
use Rattle.promise.specs.OneByOne.{added, value_or_last}
use Rattle.promise.specs.Promise.{Rule}
use Rattle.promise.proofs.Sames.{same_refl, same_tells}
use Rattle.promise.proofs.Edits.{without}
use Rattle.promise.proofs.Views.{PoolAt, HistoryAt, Agree, is_seat, writes, holds_at, as_list, value_staged_or_last, addition, is_decided, is_commit}

-- the edit at hand
abbrev pub edit_at : ℕ → HistoryAt → Edit
edit_at seat said = record { seat = seat; serial = said.serial }

module _ {allows : Rule} {seat entry : ℕ} {pool : PoolAt} {said : HistoryAt} (c : Agree allows seat entry pool said) where
  pub begin_own : (n : ℕ) → pool.state ≡ Idle
      → Agree allows seat entry (record pool { state = Editing; serial = pool.serial + 1 })
      (record said { serial = said.serial + 1; under_way = true; decided = false; committed = false; rank = n; used = false; written = None; finished = false })
  begin_own n a = grind arith

  pub read_own : pool.state ≡ Editing → (is_some pool.writer && not (writes seat pool)) ≡ false
      → Agree allows seat entry (record pool { reads = cond (writes seat pool) pool.reads true }) (record said { used = true })
  read_own a f = grind arith

  pub answer_own : pool.state ≡ Editing → (is_some pool.writer && not (writes seat pool)) ≡ false
      → cond (writes seat pool) (value_staged_or_last pool.staged pool.chain) (last_version pool.chain).value ≡ value_or_last said.written said.chain
  answer_own a f = grind (arith, append-nil)

  pub write_own : (z : ℤ) → pool.state ≡ Editing → (pool.writer ≡ None) ⊎ (pool.writer ≡ Some seat)
      → Agree allows seat entry (record pool { writer = Some seat; reads = false; staged = Some (record { value = z; seat = seat; serial = pool.serial }) })
      (record said { used = true; written = Some z })
  write_own z a f = grind (arith, same_tells)

  -- another seat writes what this one does not hold
  pub write_other : (x : ℕ) (y : Option Version) → same x seat ≡ false → holds_at seat pool ≡ false → said.unfinished ≡ []
      → Agree allows seat entry (record pool { writer = Some x; reads = false; staged = y }) said
  write_other x y f g t = grind arith

  pub prepare_own : pool.state ≡ Editing → Agree allows seat entry (record pool { state = Voting }) said
  prepare_own a = grind arith

  pub vote_own : (b : Bool) → pool.state ≡ Voting → holds_at seat pool ≡ true
      → b ≡ cond (writes seat pool) (allows entry (last_version pool.chain).value (value_staged_or_last pool.staged pool.chain)) true
      → Agree allows seat entry (record pool { voted = true; against = not b }) said
  vote_own b a f y = grind arith

  pub commit_own : (pool.state ≡ Editing) ⊎ (pool.state ≡ Voting)
      → Agree allows seat entry (record pool { state = Commit })
      (record said { decided = true; committed = true; unfinished = said.unfinished ++ addition seat said; chain = said.chain ++ addition seat said })
  commit_own a = grind (arith, append_assoc)

  pub abort_own : (pool.state ≡ Editing) ⊎ (pool.state ≡ Voting)
      → Agree allows seat entry (record pool { state = Abort }) (record said { decided = true })
  abort_own a = grind arith

  -- another seat commits: it adds nothing here, or it is the writer
  pub commit_other : (x : ℕ) (l : List Version) → (l ≡ []) ⊎ ((pool.writer ≡ Some x) × (same x seat ≡ false))
      → Agree allows seat entry pool (record said { unfinished = said.unfinished ++ l; chain = said.chain ++ l })
  commit_other x l (inl f) = rw (f, append-nil said.unfinished, append-nil said.chain) c
  commit_other x l (inr f) = grind (arith, append_assoc)

  -- what a finish leaves in the chain is the run's chain
  pub finish_joined : is_decided pool.state ≡ true → holds_at seat pool ≡ true
      → said.chain ≡ cond (writes seat pool && is_commit pool.state) (pool.chain ++ as_list pool.staged) pool.chain ++ []
  finish_joined a f = grind (arith, append-nil)

  -- the writer of a committed edit publishes, any other holder only lets go; nothing is unfinished there afterwards
  pub finish_own : is_decided pool.state ≡ true → holds_at seat pool ≡ true
      → Agree allows seat entry
      (record pool {
        writer = cond (writes seat pool) None pool.writer;
        reads = false;
        voted = false;
        against = false;
        staged = cond (writes seat pool) None pool.staged;
        chain = cond (writes seat pool && is_commit pool.state) (pool.chain ++ as_list pool.staged) pool.chain;
      })
      (record said { finished = true; unfinished = [] })
  finish_own a f = grind (arith, append-nil)

  -- of what is unfinished there, all is the finishing edit's own
  pub finish_none : is_decided pool.state ≡ true → holds_at seat pool ≡ true → without (edit_at seat said) said.unfinished ≡ []
  unfolding without
  finish_none a f = grind (arith, same_refl)

  -- the writer is the finishing seat, or there is none
  pub finish_writer : (x : ℕ) → holds_at seat pool ≡ true → same seat x ≡ false → is_seat pool.writer x ≡ false
  finish_writer x f g = grind (arith, same_tells)

  -- the finishing seat lets go, and every other seat holds as before
  pub finish_free : holds_at seat pool ≡ true → (is_seat (cond (writes seat pool) None pool.writer) seat || false) ≡ false
  finish_free f = grind arith

  pub finish_others : (x : ℕ) (b : Bool) → holds_at seat pool ≡ true → same seat x ≡ false
      → (is_seat (cond (writes seat pool) None pool.writer) x || b) ≡ (is_seat pool.writer x || b)
  finish_others x b f g = grind (arith, same_tells)

  pub finish_unwritten : holds_at seat pool ≡ true → cond (writes seat pool) None pool.writer ≡ None
  finish_unwritten f = grind arith

  pub finish_other : (y : Option Version) (chain : List Version) → writes seat pool ≡ false → said.chain ≡ chain ++ []
      → Agree allows seat entry (record pool { writer = None; staged = y; chain = chain }) (record said { unfinished = [] })
  finish_other y chain f g = grind arith

  pub close_own : is_decided pool.state ≡ true → holds_at seat pool ≡ false
      → Agree allows seat entry (record pool { state = Idle }) (record said { under_way = false })
  close_own a f = grind arith

  -- an edit has the same additions wherever it stands among the commits
  pub placed : (n : ℕ) → Agree allows seat entry pool (record said { rank = n })
  placed n = grind arith

  -- what a seat that edits may write is unfinished for nobody
  pub write_empty : pool.state ≡ Editing → (pool.writer ≡ None) ⊎ (pool.writer ≡ Some seat) → said.unfinished ≡ []
  write_empty a f = grind (arith, same_tells)

  -- an edit that wrote the entry and is undecided is its writer
  pub adds_own : (n : ℕ) → said.under_way ≡ true → said.decided ≡ false → (added (edit_at seat said) n said.written ≡ []) ⊎ (pool.writer ≡ Some seat)
  adds_own n a b = go pool.writer refl said.written refl
    where
      go : (x : Option ℕ) → pool.writer ≡ x → (y : Option ℤ) → said.written ≡ y → (added (edit_at seat said) n y ≡ []) ⊎ (x ≡ Some seat)
      go None p None q = inl refl
      go None p (Some z) q = inl (grind arith)
      go (Some x) p None q = inl refl
      go (Some x) p (Some z) q = inr (grind (arith, same_tells))

  -- an undecided edit that used the entry holds it, so no other seat writes it
  pub used_apart : (y : ℕ) → said.under_way ≡ true → said.decided ≡ false → said.used ≡ true → pool.writer ≡ Some y → same y seat ≡ false → ⊥
  used_apart y a b t f g = grind arith

  pub allowed_own : (z : ℤ) → said.under_way ≡ true → said.decided ≡ false → (writes seat pool ≡ true → pool.voted ≡ true) → pool.against ≡ false
      → said.written ≡ Some z → allows entry (last_version said.chain).value z ≡ true
  allowed_own z a b f g q = grind (arith, append-nil)

  -- the counts of locks
  pub grant_sum : (g q m m' : ℕ) → pool.state ≡ Editing → g ≡ q + m → m' + cond (holds_at seat pool) 1 0 ≡ m + 1 → cond (not said.used) (g + 1) g ≡ q + m'
  grant_sum g q m m' a b d = grind arith
