-- What holds of a part in which no fault is found.
use Rattle.std.proofs.Common.{◌≡◌, ◌∷◌}
use Rattle.program_laws.proofs.Common.{ℕ, List, [], Option, Some, None, refl, AllByRecursion, Spot, Found, sound, codes_of}
use Rattle.expr_rules.specs.Then.{and_then, through, node}
use Rattle.program_laws.proofs.Shapes.Lists.{no_both, no_told}

pub record Sure {A : Type 0} (P : A → Type 0) (found : Found A) : Type 0 where
  pub where_clear : found.faults ≡ [] → P found.part

pub own_none : (own : Option ℕ) → codes_of own ≡ [] → own ≡ None
own_none None h = refl
own_none (Some code) h = absurd (cc)

pub sure_sound : {A : Type 0} (P : A → Type 0) (x : A) → P x → Sure P (sound x)
sure_sound P x p = record { where_clear = λ h. p }

pub sure_node : {A : Type 0} (P : A → Type 0) (spot : Spot) (codes : List ℕ) (x : A) → (codes ≡ [] → P x) → Sure P (node spot codes x)
sure_node P spot codes x p = record { where_clear = λ h. p (no_told spot codes h) }

pub sure_then : {A B : Type 0} (Q : A → Type 0) (P : B → Type 0) (found : Found A) (made : A → Found B) → Sure Q found → ((x : A) → Q x → Sure P (made x)) → Sure P (and_then found made)
unfolding and_then
sure_then Q P found made first next = record { where_clear = λ h. let none = no_both found.faults (made found.part).faults h in (next found.part (first.where_clear none.0)).where_clear none.1 }

-- a list in order, with what holds of what is made so far
pub sure_through : {B C : Type 0} (Good : B → Type 0) (I : C → Type 0) (step : C → B → Found C) → ((c : C) (b : B) → I c → Good b → Sure I (step c b)) → (c : C) (bs : List B) → AllByRecursion Good bs → I c → Sure I (through step c bs)
unfolding through
sure_through Good I step next c [] all i = sure_sound I c i
sure_through Good I step next c (b ∷ bs) all i = sure_then I I (step c b) (λ d. through step d bs) (next c b i all.0) (λ d j. sure_through Good I step next d bs all.1 j)

-- nothing is asked
pub sure_any : {A : Type 0} (found : Found A) → Sure (λ x. Unit {0}) found
sure_any found = record { where_clear = λ h. tt }
