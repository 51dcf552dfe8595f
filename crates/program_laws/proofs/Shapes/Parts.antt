-- What is asked of a part of a body: it holds in each finished body that fits, wherever it is read.
use Rattle.std.proofs.Common.{◌≡◌}
use Rattle.program_laws.proofs.Common.{ℕ, List, Bool, true, Spot, Shape, State, Around, NodePart, OnPart}
use Rattle.typed_program.specs.Statements.{site_so}
use Rattle.stmt_check.specs.Statements.{Part}
use Rattle.program_laws.proofs.Shapes.Forms.{Good, Free}
use Rattle.program_laws.proofs.Shapes.Frames.{Frame, Claim, body_of}
use Rattle.program_laws.proofs.Shapes.Reading.{Fitting, Within}

-- a statement
abbrev pub PartSo : Part → Type 0
PartSo p = (f : Frame) (around : Around) → Fitting f around → Within p.names f.named → (k : ℕ) (s : State) → Claim f k k Free (Good f) s (p.reads around s)

abbrev pub NodeSo : NodePart → Type 0
NodeSo p = (f : Frame) (around : Around) → Fitting f around → Within p.names f.named → (spot : Spot) (k : ℕ) (s : State) → Claim f k k Free (Good f) s (p.reads around spot s)

-- a listener's number, where a listener may stand
abbrev pub Listens : Frame → Bool → List Shape → ℕ → Type 0
Listens f takes all n = (site_so (body_of f all) n ≡ true) × (takes ≡ true)

abbrev pub OnSo : OnPart → Type 0
OnSo p = (f : Frame) (around : Around) → Fitting f around → Within p.names f.named → (takes : Bool) (k : ℕ) (s : State) → Claim f k k Free (Listens f takes) s (p.reads around takes s)
