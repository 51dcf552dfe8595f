-- The report of a record: what each context printed, slot after slot.
use Rattle.record_book.specs.Common.{ℕ, List, [], Option, Line, Program}
use Rattle.std.specs.Prelude.{◌∷◌, ◌++◌, ◌+◌, Bool, ◌==◌, if◌then◌else◌, codes, Some, None, slice_get}
use Rattle.std.specs.List.{flat_map}
use Rattle.std.specs.Fmt.{decimal}
use Rattle.action_host.specs.declared.host.Fault.{Fault}
use Rattle.action_host.specs.declared.host.Fault.TheVariants as fault
use Rattle.record_book.specs.declared.cargo.Line.TheVariants as line
use Rattle.typed_program.specs.declared.program.Monitor.{Monitor}
use Rattle.record_book.specs.declared.record.ContextRecord.{ContextRecord}
use Rattle.record_book.specs.declared.record.Record.{Record}

-- a newline is written as a backslash and an n, and a backslash twice
abbrev pub escaped : ℕ → List ℕ
escaped b = if b == 10 then 92 ∷ 110 ∷ [] else if b == 92 then 92 ∷ 92 ∷ [] else b ∷ []

-- the main context has the name main; the others have none yet
abbrev pub name_of : ℕ → List ℕ
name_of slot = if slot == 0 then codes "main" else []

-- SLOT NAME
abbrev pub head_of : ℕ → List ℕ
head_of slot = decimal slot ++ 32 ∷ flat_map escaped (name_of slot)

abbrev pub level_name : ℕ → List ℕ
level_name level = if level == 0 then codes "CRIT" else if level == 1 then codes "FATAL" else if level == 2 then codes "ERROR" else if level == 3 then codes "WARN" else if level == 4 then codes "INFO" else if level == 5 then codes "DEBUG" else codes "TRACE"

abbrev pub fault_text : Fault → List ℕ
fault_text fault.Overflow = codes "integer overflow"
fault_text fault.DivisionByZero = codes "division by zero"
fault_text fault.IndexOutOfRange = codes "index out of range"
fault_text fault.MissingKey = codes "missing key"
fault_text fault.CallDepth = codes "call depth exceeded"
fault_text fault.NoContext = codes "no context"
fault_text fault.NotMain = codes "context outside main"
fault_text fault.TooManyContexts = codes "too many contexts"
fault_text fault.TextTooLong = codes "text too long"

-- a colon and a blank, a text, and the end of the line
abbrev pub told_text : List ℕ → List ℕ
told_text text = 58 ∷ 32 ∷ flat_map escaped text ++ 10 ∷ []

-- the name of a monitor, empty where there is none
abbrev pub monitor_name : Option Monitor → List ℕ
monitor_name None = []
monitor_name (Some m) = m.name

-- SLOT NAME SPENT, where the context is spent
abbrev pub spent_text : ℕ → Bool → List ℕ
spent_text slot spent = if spent then head_of slot ++ codes " SPENT" ++ 10 ∷ [] else []

module _ (program : Program) where
  -- SLOT NAME: TEXT; SLOT NAME LEVEL: TEXT; SLOT NAME FAULT: MONITOR: FAULT TEXT
  abbrev pub line_text : ℕ → Line → List ℕ
  line_text slot (line.Print text) = head_of slot ++ told_text text
  line_text slot (line.Log level text) = head_of slot ++ 32 ∷ level_name level ++ told_text text
  line_text slot (line.Fault monitor f) = head_of slot ++ codes " FAULT: " ++ flat_map escaped (monitor_name (slice_get program.monitors monitor)) ++ told_text (fault_text f)

  abbrev pub context_text : ℕ → ContextRecord → List ℕ
  context_text slot c = flat_map (line_text slot) c.lines ++ spent_text slot c.spent

  abbrev pub reports_from : ℕ → List ContextRecord → List ℕ
  reports_from slot [] = []
  reports_from slot (c ∷ cs) = context_text slot c ++ reports_from (slot + 1) cs

  abbrev pub report_of : Record → List ℕ
  report_of r = reports_from 0 r.contexts
