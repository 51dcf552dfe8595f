-- What holds of a part of an event expression, and of what stands behind it, where no fault is found in it.
use Rattle.std.proofs.Common.{◌≡◌, List, [], ◌∷◌}
use Rattle.type_table.specs.declared.fault.Fault.{Fault}
use Rattle.type_table.specs.Found.{Found}
use Rattle.listener_check.specs.declared.sofar.Sofar.{Sofar}
use Rattle.listener_check.specs.Went.{Went, went, behind, given, through, ◌>>=◌}
use Rattle.name_resolution.proofs.Sure.{Sure, no_both}

pub record Thus {A : Type 0} (P : A → Sofar → Type 0) (w : Went A) : Type 0 where
  pub where_clear : w.faults ≡ [] → P w.part w.after

pub thus_went : {A : Type 0} (P : A → Sofar → Type 0) (x : A) (s : Sofar) → P x s → Thus P (went x s)
thus_went P x s p = record { where_clear = λ h. p }

pub thus_then : {A B : Type 0} (Q : A → Sofar → Type 0) (P : B → Sofar → Type 0) (w : Went A) (made : A → Sofar → Went B) → Thus Q w → ((x : A) (s : Sofar) → Q x s → Thus P (made x s)) → Thus P (w >>= made)
unfolding ◌>>=◌
thus_then Q P w made first next = record { where_clear = λ h. let none = no_both w.faults (made w.part w.after).faults h in (next w.part w.after (first.where_clear none.0)).where_clear none.1 }

pub thus_behind : {A : Type 0} (P : A → Sofar → Type 0) (faults : List Fault) (w : Went A) → (faults ≡ [] → Thus P w) → Thus P (behind faults w)
unfolding behind
thus_behind P faults w next = record { where_clear = λ h. let none = no_both faults w.faults h in (next none.0).where_clear none.1 }

pub thus_given : {A : Type 0} (Q : A → Type 0) (P : A → Sofar → Type 0) (found : Found A) (s : Sofar) → Sure Q found → ((x : A) → Q x → P x s) → Thus P (given found s)
unfolding given
thus_given Q P found s first next = record { where_clear = λ h. next found.part (first.where_clear h) }

pub thus_weaker : {A : Type 0} (Q P : A → Sofar → Type 0) (w : Went A) → Thus Q w → ((x : A) (s : Sofar) → Q x s → P x s) → Thus P w
thus_weaker Q P w first next = record { where_clear = λ h. next w.part w.after (first.where_clear h) }

-- items in order, with what holds of what is made so far
pub thus_through : {B C : Type 0} (I : C → Sofar → Type 0) (step : C → B → Sofar → Went C) → ((c : C) (b : B) (s : Sofar) → I c s → Thus I (step c b s)) → (c : C) (bs : List B) (s : Sofar) → I c s → Thus I (through step c bs s)
unfolding through
thus_through I step next c [] s i = thus_went I c s i
thus_through I step next c (b ∷ bs) s i = thus_then I I (step c b s) (λ d t. through step d bs t) (next c b s i) (λ d t j. thus_through I step next d bs t j)
