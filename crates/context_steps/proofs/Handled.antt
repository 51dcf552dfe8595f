-- What a handling leaves.
use Rattle.std.proofs.Common.{◌≡◌, ◌≤◌}
use Rattle.context_steps.proofs.Common.{ℕ, [], sym, ap, subst, ◌∙◌, Program, Context, ContextFits}
use Rattle.typed_program.specs.Typed.{Typed}
use Rattle.record_book.specs.declared.cargo.Cargo.{Cargo}
use Rattle.record_book.specs.Fits.{CargoFits}
use Rattle.context_meaning.specs.Handling.{handle}
use Rattle.context_meaning.proofs.Running.{ShapesKept}
use Rattle.context_meaning.proofs.Handling.{handle_fits}
use Rattle.context_meaning.proofs.Resting.{handle_fuel, handle_row, handle_slot}

pub handled_fits : (program : Program) → Typed program → ShapesKept → (c d : Context) (number : ℕ) (load : Cargo) → CargoFits program load → ContextFits program c → d ≡ handle program c number load → ContextFits program d
handled_fits program typed law c d number load is fit so = subst (ContextFits program) (sym so) (handle_fits program typed law c number load is fit)

pub handled_row : (program : Program) (c d : Context) (number : ℕ) (load : Cargo) → d ≡ handle program c number load → c.row ≡ [] → d.row ≡ []
handled_row program c d number load so row = ap (λ (x : Context). x.row) so ∙ handle_row program c number load row

pub handled_fuel : (program : Program) (c d : Context) (number : ℕ) (load : Cargo) → d ≡ handle program c number load → d.fuel ≤ c.fuel
handled_fuel program c d number load so = subst (λ (x : Context). x.fuel ≤ c.fuel) (sym so) (handle_fuel program c number load)

pub handled_slot : (program : Program) (c d : Context) (number : ℕ) (load : Cargo) → d ≡ handle program c number load → (d.slot ≡ c.slot) × (d.slots ≡ c.slots)
handled_slot program c d number load so = subst (λ (x : Context). (x.slot ≡ c.slot) × (x.slots ≡ c.slots)) (sym so) (handle_slot program c number load)
