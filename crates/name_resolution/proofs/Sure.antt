-- What holds of a part in which no fault is found.
use Rattle.std.proofs.Common.{◌≡◌, ℕ, Bool, true, false, if◌then◌else◌, List, [], ◌∷◌, ◌++◌, Option, Some, None, refl}
use Rattle.span_text.specs.declared.spot.Spot.{Spot}
use Rattle.type_table.specs.Found.{Found, told}
use Rattle.expr_rules.specs.Then.{and_then, sound, node, codes_of}

-- ---- no fault

pub no_both : {A : Type 0} (a b : List A) → a ++ b ≡ [] → (a ≡ []) × (b ≡ [])
no_both [] b h = (refl, h)
no_both (x ∷ a) b h = cc

pub no_told : (spot : Spot) (codes : List ℕ) → told spot codes ≡ [] → codes ≡ []
no_told spot [] h = refl
no_told spot (code ∷ codes) h = cc

pub no_if : (b : Bool) (code : ℕ) → (if b then code ∷ [] else []) ≡ [] → b ≡ false
no_if true code h = cc
no_if false code h = refl

pub own_none : (own : Option ℕ) → codes_of own ≡ [] → own ≡ None
own_none None h = refl
own_none (Some code) h = absurd (cc)

-- ---- parts

pub record Sure {A : Type 0} (P : A → Type 0) (found : Found A) : Type 0 where
  pub where_clear : found.faults ≡ [] → P found.part

pub sure_sound : {A : Type 0} (P : A → Type 0) (x : A) → P x → Sure P (sound x)
sure_sound P x p = record { where_clear = λ h. p }

pub sure_node : {A : Type 0} (P : A → Type 0) (spot : Spot) (codes : List ℕ) (x : A) → (codes ≡ [] → P x) → Sure P (node spot codes x)
sure_node P spot codes x p = record { where_clear = λ h. p (no_told spot codes h) }

pub sure_then : {A B : Type 0} (Q : A → Type 0) (P : B → Type 0) (found : Found A) (made : A → Found B) → Sure Q found → ((x : A) → Q x → Sure P (made x)) → Sure P (and_then found made)
unfolding and_then
sure_then Q P found made first next = record { where_clear = λ h. let none = no_both found.faults (made found.part).faults h in (next found.part (first.where_clear none.0)).where_clear none.1 }

-- nothing is asked
pub sure_any : {A : Type 0} (found : Found A) → Sure (λ x. Unit {0}) found
sure_any found = record { where_clear = λ h. tt }

-- seen in another way
pub sure_as : {A : Type 0} (P Q : A → Type 0) (found : Found A) → ((x : A) → P x → Q x) → Sure P found → Sure Q found
sure_as P Q found f s = record { where_clear = λ h. f found.part (s.where_clear h) }
