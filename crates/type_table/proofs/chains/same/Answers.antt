use Rattle.std.proofs.Common.{◌≡◌, Bool, true, false, refl}
use Rattle.std.specs.Bool.{Decides}
use mathlib.Core.Bool.{beq}
use Rattle.std.proofs.lemmas.Slice.Eq.{slice_eq-Decides}
use Rattle.type_table.proofs.chains.same.Goals as goal

bools : (a b : Bool) → Decides (beq a b) (a ≡ b)
bools true true = (λ e. refl, λ e. refl)
bools true false = (λ e. cc, λ e. cc)
bools false true = (λ e. cc, λ e. cc)
bools false false = (λ e. refl, λ e. refl)

pub returns : goal.returns
returns c = (slice_eq-Decides bools _ _ _ c.eq.ensures).0
