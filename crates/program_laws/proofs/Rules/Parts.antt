-- What is asked of a part of a body: where no fault is found, it keeps the rules wherever it is read.
use Rattle.program_laws.proofs.Common.{ℕ, List, Bool, Spot, Shape, Visible, special_in, State, Around, NodePart, OnPart}
use Rattle.typed_program.specs.Courses.{listens_at}
use Rattle.typed_program.specs.Mentions.{listening}
use Rattle.stmt_check.specs.Captures.{Names as Named}
use Rattle.stmt_check.specs.Statements.{Part}
use Rattle.program_laws.proofs.Rules.Claims.{Claims}
use Rattle.program_laws.proofs.Rules.Readings.{Read, Keeps}
use Rattle.program_laws.proofs.Rules.Sights.{Law, Sees}
use Rattle.program_laws.proofs.Shapes.Frames.{Frame, names_of}
use Rattle.program_laws.proofs.Shapes.Reading.{Fitting, Within}

-- a statement
abbrev pub PartKeeps : Part → Type 0
PartKeeps p = (f : Frame) (around : Around) → Fitting f around → Within p.names f.named → (law : Law f around.table) (k : ℕ) (v : List Shape → List Visible) (s : State) → Claims f k k (λ all. Sees f law.low (v all) s) (Keeps f around law p.names v s) s (p.reads around s)

-- a statement at its place
abbrev pub NodeKeeps : NodePart → Type 0
NodeKeeps p = (f : Frame) (around : Around) → Fitting f around → Within p.names f.named → (law : Law f around.table) (spot : Spot) (k : ℕ) (v : List Shape → List Visible) (s : State) → Claims f k k (λ all. Sees f law.low (v all) s) (Keeps f around law p.names v s) s (p.reads around spot s)

-- a listener, by the number of its site
abbrev pub Hears : (f : Frame) (around : Around) → Law f around.table → Named → (List Shape → List Visible) → State → List Shape → ℕ → State → Type 0
Hears f around law named v s all n t = Read s t named (listens_at (names_of f all) f.program.sites (special_in f.program f.monitor) law.low (v all) n) (listening f.program.sites n)

-- a listener, where one may stand or may not
abbrev pub OnKeeps : OnPart → Type 0
OnKeeps p = (f : Frame) (around : Around) → Fitting f around → Within p.names f.named → (law : Law f around.table) (takes : Bool) (k : ℕ) (v : List Shape → List Visible) (s : State) → Claims f k k (λ all. Sees f law.low (v all) s) (Hears f around law p.names v s) s (p.reads around takes s)
