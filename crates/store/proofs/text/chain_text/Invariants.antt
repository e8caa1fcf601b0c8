use Rattle.std.proofs.Common.{◌≡◌, take}
use Rattle.std.specs.String.{string_bytes}
use Rattle.store.specs.Texts.{chain_text}
use Rattle.store.proofs.text.chain_text.Given as goal

-- the lines of the versions before i are written
abbrev pub invariant-loop-i : goal.invariant-loop-i
invariant-loop-i g l = string_bytes l.text ≡ chain_text (take l.i ((g.S.ReadingStore.reading l.store).chains l.entry))
