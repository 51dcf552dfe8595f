-- Runs: what they change, and how they are put together.
use Rattle.std.specs.Prelude.{◌∷◌, ◌++◌}
use Rattle.body_meaning.specs.Common.{ℕ, Bool, true, false, nat_le, List, [], Result, Ok, Err, Value, Fault, Effect, Scene}
use Rattle.epl_values.specs.declared.value.Value.TheVariants as value
use Rattle.action_host.specs.declared.host.Answer.{Answer}
use Rattle.action_host.specs.declared.host.Answer.TheVariants as answer
use Rattle.action_host.specs.Scenes.{spent_by}
use Rattle.action_host.specs.Replies.{Reply, reply}
use Rattle.body_meaning.specs.declared.run.Frame.{Frame}
use Rattle.body_meaning.specs.declared.run.Halt.{Halt}
use Rattle.body_meaning.specs.declared.run.Halt.TheVariants.{Failed, Spent}

-- the scene, the draws that are still to come, and the variables
pub record State : Type 0 where
  pub scene : Scene
  pub draws : List ℕ
  pub frame : Frame

-- what a run did: its effects, and the variables as they were behind each of their changes, both in order
pub record Did : Type 0 where
  pub effects : List Effect
  pub frames : List Frame

abbrev pub nothing : Did
nothing = record { effects = []; frames = [] }

abbrev pub and_then : Did → Did → Did
and_then before did = record { effects = before.effects ++ did.effects; frames = before.frames ++ did.frames }

-- a run goes on with a value, or ends at once
pub data Outcome (A : Type 0) : Type 0 where
  Went : (did : Did) (x : A) (s : State) → Outcome A
  Ended : (did : Did) (halt : Halt) (s : State) → Outcome A

abbrev pub M : Type 0 → Type 0
M A = State → Outcome A

-- the same, behind what was done before
abbrev pub behind : {A : Type 0} → Did → Outcome A → Outcome A
behind before (Went did x s) = Went (and_then before did) x s
behind before (Ended did why s) = Ended (and_then before did) why s

abbrev pub then_do : {A B : Type 0} → Outcome A → (A → M B) → Outcome B
then_do (Went did x s) go = behind did (go x s)
then_do (Ended did why s) go = Ended did why s

-- one run, and then the one that its value chooses
infixl 10 ◌>>=◌
unfoldable pub ◌>>=◌ : {A B : Type 0} → M A → (A → M B) → M B
m >>= go = λ s. then_do (m s) go

-- one run, and then another
infixl 10 ◌>>◌
unfoldable pub ◌>>◌ : {A B : Type 0} → M A → M B → M B
m >> n = λ s. then_do (m s) (λ _. n)

unfoldable pub pure : {A : Type 0} → A → M A
pure x = λ s. Went nothing x s

unfoldable pub halt : {A : Type 0} → Halt → M A
halt why = λ s. Ended nothing why s

abbrev pub charge_if : Bool → ℕ → M (Unit {0})
charge_if true amount = λ s. Went nothing tt (record s { scene = spent_by s.scene amount })
charge_if false amount = λ s. Ended nothing Spent s

-- takes fuel, and ends where there is less
unfoldable pub charge : ℕ → M (Unit {0})
charge amount = λ s. charge_if (nat_le amount s.scene.fuel) amount s

abbrev pub one : Effect → Did
one effect = record { effects = effect ∷ []; frames = [] }

-- an effect that fails isn't listed
abbrev pub settle : Answer → Effect → M Value
settle answer.Nothing effect = λ s. Went (one effect) value.NoContext s
settle (answer.Gives v) effect = λ s. Went (one effect) v s
settle (answer.Fails fault) effect = λ s. Ended nothing (Failed fault) s

abbrev pub replied : Reply → Effect → Frame → Outcome Value
replied r effect frame = settle r.answer effect (record { scene = r.scene; draws = r.draws; frame = frame })

-- takes an effect, and gives what it is answered; ends where it fails
unfoldable pub perform : Effect → M Value
perform effect = λ s. replied (reply effect s.scene s.draws) effect s.frame

abbrev pub looked : {A : Type 0} → Result A Fault → M A
looked (Ok x) = λ s. Went nothing x s
looked (Err fault) = λ s. Ended nothing (Failed fault) s

-- what is computed from values alone, which may be a fault
unfoldable pub given : {A : Type 0} → Result A Fault → M A
given r = looked r

-- what is read from the variables
unfoldable pub look : {A : Type 0} → (Frame → A) → M A
look f = λ s. Went nothing (f s.frame) s

-- what the scene chooses
unfoldable pub by_scene : {A : Type 0} → (Scene → M A) → M A
by_scene f = λ s. f s.scene s

abbrev pub changed : Result Frame Fault → M (Unit {0})
changed (Ok frame) = λ s. Went (record { effects = []; frames = frame ∷ [] }) tt (record s { frame = frame })
changed (Err fault) = λ s. Ended nothing (Failed fault) s

-- other variables, or a fault
unfoldable pub change : (Frame → Result Frame Fault) → M (Unit {0})
change f = λ s. changed (f s.frame) s

abbrev pub choose : {A : Type 0} → Bool → M A → M A → M A
choose true m n = m
choose false m n = n

-- all, from left to right, behind the values so far
abbrev pub all_behind : {A : Type 0} → List A → List (M A) → M (List A)
all_behind xs [] = pure xs
all_behind xs (m ∷ ms) = m >>= (λ x. all_behind (xs ++ x ∷ []) ms)

abbrev pub all : {A : Type 0} → List (M A) → M (List A)
all ms = all_behind [] ms

-- both, the left first
unfoldable pub two : {A B : Type 0} → M A → M B → M (A × B)
two m n = m >>= (λ x. n >>= (λ y. pure (x, y)))
