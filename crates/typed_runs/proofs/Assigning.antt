-- Places that are assigned lead to the shapes that stand at them.
use Rattle.std.proofs.Common.{◌≡◌, ◌∷◌}
use Rattle.typed_runs.proofs.Common.{ℕ, List, [], Option, Some, None, Err, refl, subst, Shape, Program, Move, M, Reach}
use Rattle.action_host.specs.declared.host.Fault.TheVariants as fault
use Rattle.body_meaning.specs.Statements.{move_of, moves_in}
use Rattle.typed_runs.proofs.Keeping.{keeps_given}
use Rattle.typed_runs.proofs.Stepping.{Steps, MoveLeads, Walked}

module _ (program : Program) (monitor : ℕ) (room : List Shape) where
  -- a walk begins somewhere
  pub begins_at : (rs : List Reach) (o : Option Shape) (t : Shape) → Walked program monitor room rs o (Some t) → (s : Shape) × (o ≡ Some s)
  begins_at [] o t w = (t, w)
  begins_at (r ∷ rs) None t w = absurd w
  begins_at (r ∷ rs) (Some s) t w = (s, refl)

  -- a first step and those behind it; one that leads nowhere ends the run
  first_leads : (o : Option (M Move)) (ms : List (M Move)) (s : Shape) (a : Option Shape) (t : Shape) → ((b : Shape) × (a ≡ Some b)) → MoveLeads program monitor room o s a → ((b : Shape) → a ≡ Some b → Steps program monitor room b ms t) → Steps program monitor room s (move_of o ∷ ms) t
  first_leads None ms s a t there k later = (there.0, keeps_given (Err fault.IndexOutOfRange) (λ x h. cc), later there.0 there.1)
  first_leads (Some m) ms s a t there k later = (k.0, k.2, later k.0 k.1)

  -- one shape at the end
  same_end : (s t : Shape) → Some s ≡ Some t → s ≡ t
  same_end s t h = cc

  -- the moves of a walk lead where the walk does
  pub moves_lead : (rs : List Reach) (s t : Shape) → Walked program monitor room rs (Some s) (Some t) → Steps program monitor room s (moves_in rs) t
  moves_lead [] s t w = same_end s t w
  moves_lead (r ∷ rs) s t w = first_leads r.move (moves_in rs) s w.0 t (begins_at rs w.0 t w.2) w.1.leads (λ b is. moves_lead rs b t (subst (λ (o : Option Shape). Walked program monitor room rs o (Some t)) is w.2))
