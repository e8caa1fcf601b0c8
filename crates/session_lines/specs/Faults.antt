-- The number of each fault, the layer that finds it, and how it is printed.
use Rattle.std.specs.Prelude.{ℕ, List, ◌++◌, codes}
use Rattle.std.specs.Fmt.{decimal}
use Rattle.words.specs.Faults.{word_fault_number}
use Rattle.calls.specs.Faults.{fault_number}
use Rattle.calls.specs.declared.fault.Fault.{Fault}
use Rattle.calls.specs.declared.fault.Fault.TheVariants as F
use Rattle.session_lines.specs.declared.fault.LineFault.{LineFault}
use Rattle.session_lines.specs.declared.fault.LineFault.TheVariants.{WrongWords, TooFar}
use Rattle.session_lines.specs.declared.fault.Layer.{Layer}
use Rattle.session_lines.specs.declared.fault.Layer.TheVariants as L
use Rattle.session_lines.specs.declared.fault.Cause.{Cause}
use Rattle.session_lines.specs.declared.fault.Cause.TheVariants.{Word, Line, Pool}
use Rattle.session_lines.specs.declared.fault.SessionFault.{SessionFault}

abbrev pub line_fault_number : LineFault → ℕ
line_fault_number WrongWords = 17
line_fault_number TooFar = 19

abbrev pub cause_number : Cause → ℕ
cause_number (Word fault) = word_fault_number fault
cause_number (Line fault) = line_fault_number fault
cause_number (Pool fault) = fault_number fault

-- what a pool passes up from its store is the store's
abbrev pub pool_layer : Fault → Layer
pool_layer (F.Store _) = L.Store
pool_layer _ = L.Pool

abbrev pub layer_of : Cause → Layer
layer_of (Word _) = L.Word
layer_of (Line _) = L.Session
layer_of (Pool fault) = pool_layer fault

abbrev pub layer_text : Layer → List ℕ
layer_text L.Word = codes "word"
layer_text L.Session = codes "session"
layer_text L.Pool = codes "pool"
layer_text L.Store = codes "store"

-- a file is at fault; a pool or a store refuses
abbrev pub verb : Cause → List ℕ
verb (Word _) = codes " fault "
verb (Line _) = codes " fault "
verb (Pool _) = codes " refused "

abbrev pub session_fault_text : SessionFault → List ℕ
session_fault_text fault =
    decimal fault.line ++ verb fault.cause ++ decimal (cause_number fault.cause) ++ codes " "
    ++ layer_text (layer_of fault.cause)
