-- Queues of entries, as records take them.
use Rattle.world_serial.specs.Common.{ℕ, suc, List, [], Entry, Cargo, CellPart}
use Rattle.std.specs.Prelude.{◌∷◌, not, ◌==◌, filter}
use Rattle.actor_theory.specs.Order.{ordered}
use Rattle.record_book.specs.declared.record.ContextRecord.{ContextRecord}
use Rattle.context_core.specs.Cells.{record_of}

-- the entries of the other senders
abbrev pub but : ℕ → List (Entry Cargo) → List (Entry Cargo)
but s entries = filter (λ e. not (e.sender == s)) entries

-- the first queue, which is empty where there is none
abbrev pub first_queue : List (List (Entry Cargo)) → List (Entry Cargo)
first_queue [] = []
first_queue (q ∷ qs) = q

-- the record of each cell, with what is left in its queue by sender
abbrev pub records_of : ℕ → List CellPart → List (List (Entry Cargo)) → List ContextRecord
records_of contexts [] queued = []
records_of contexts (c ∷ cs) [] = []
records_of contexts (c ∷ cs) (q ∷ qs) = record_of c (ordered (suc contexts) q) ∷ records_of contexts cs qs
