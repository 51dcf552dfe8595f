-- The last of the links of a chain.
use Rattle.std.proofs.Common.{◌≡◌, List, [], ◌∷◌, ◌++◌, Option, Some, None, refl, ap, sym, ◌∙◌}
use Rattle.std.specs.Prelude.{MatchOption}
use Rattle.typed_program.specs.declared.expression.TypedLink.{TypedLink}
use Rattle.listener_check.specs.Operands.{last_of}

last-snoc : (xs : List TypedLink) (x : TypedLink) → last_of (xs ++ x ∷ []) ≡ Some x
last-snoc [] x = refl
last-snoc (y ∷ []) x = refl
last-snoc (y ∷ z ∷ xs) x = last-snoc (z ∷ xs) x

-- what is popped is the last
pub last-popped : (r : Option TypedLink) (old new : List TypedLink) → MatchOption r ((old ≡ []) × (new ≡ [])) (λ last. old ≡ new ++ last ∷ []) → r ≡ last_of old
last-popped None old new h = sym (ap last_of h.0)
last-popped (Some x) old new h = sym (ap last_of h ∙ last-snoc new x)
