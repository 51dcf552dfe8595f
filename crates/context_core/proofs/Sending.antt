-- A cell that has handled an entry, and sent nothing.
use Rattle.std.proofs.Common.{◌≡◌, ◌∷◌, ◌++◌, ℕ, List, [], refl, sym, ◌∙◌, ap}
use Rattle.actor_theory.specs.declared.entry.Entry.{Entry}
use Rattle.actor_theory.specs.declared.entry.Handled.{Handled}
use Rattle.actor_theory.specs.Language.{number_after}
use Rattle.actor_theory.specs.Machine.{delivered}
use Rattle.actor_theory.proofs.Reading.{delivered-none}
use Rattle.typed_program.specs.declared.program.Program.{Program}
use Rattle.record_book.specs.declared.cargo.Cargo.{Cargo}
use Rattle.record_book.specs.declared.record.Settings.{Settings}
use Rattle.context_meaning.specs.Contexts.{Context}
use Rattle.context_meaning.specs.Handling.{handle}
use Rattle.naive_meaning.specs.Actors.{slots_of}
use Rattle.context_core.specs.Cells.{CellPart, part_after}

-- a part of these
abbrev pub part : Context → ℕ → List (Handled Cargo) → List (List (Entry Cargo)) → CellPart
part state number log outboxes = record { cell = record { state = state; number = number; log = log }; outboxes = outboxes }

-- one that was handled
abbrev pub handled : Entry Cargo → ℕ → Handled Cargo
handled e number = record { entry = e; number = number }

-- the entry has its cargo back
pub came-back : (log log' : List (Handled Cargo)) (e : Entry Cargo) (cargo : Cargo) (number : ℕ) → cargo ≡ e.cargo → log' ≡ log ++ handled (record e { cargo = cargo }) number ∷ [] → log' ≡ log ++ handled e number ∷ []
came-back log log' e cargo number same pushed = pushed ∙ ap (λ (x : Cargo). log ++ handled (record e { cargo = x }) number ∷ []) same

pub after : (p : Program) (settings : Settings) (old : CellPart) (state state' : Context) (number number' : ℕ) (log log' : List (Handled Cargo)) (outboxes : List (List (Entry Cargo))) (e : Entry Cargo) → part state number log outboxes ≡ old → number' ≡ number_after number e
    → state' ≡ handle p state number' e.cargo → log' ≡ log ++ handled e number' ∷ [] → part state' number' log' outboxes ≡ part_after (slots_of p settings) old e
after p settings old state state' number number' log log' outboxes e is numbered means pushed =
    ap (λ (s : Context). part s number' log' outboxes) means ∙ ap (λ (l : List (Handled Cargo)). part (handle p state number' e.cargo) number' l outboxes) pushed
    ∙ ap (λ (n : ℕ). part (handle p state n e.cargo) n (log ++ handled e n ∷ []) outboxes) numbered
    ∙ ap (λ (os : List (List (Entry Cargo))). part (handle p state (number_after number e) e.cargo) (number_after number e) (log ++ handled e (number_after number e) ∷ []) os) (sym (delivered-none state.slot (number_after number e) outboxes))
    ∙ ap (λ (c : CellPart). part_after (slots_of p settings) c e) is
