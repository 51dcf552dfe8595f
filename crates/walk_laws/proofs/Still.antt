-- Runs that change no variable.
use Rattle.std.proofs.Common.{◌≡◌, ℕ, Bool, true, false, List, [], ◌∷◌, ◌++◌, Result, Ok, Err, refl, ap, ◌∙◌}
use Rattle.std.specs.Prelude.{nat_le}
use Rattle.std.specs.List.{AllByRecursion}
use Rattle.epl_values.specs.declared.shape.EventShape.{EventShape}
use Rattle.epl_values.specs.declared.value.Value.{Value}
use Rattle.epl_values.specs.declared.value.Value.TheVariants as value
use Rattle.epl_values.specs.declared.value.Pair.{Pair}
use Rattle.epl_tree.specs.declared.expression.Operator.{Operator}
use Rattle.typed_program.specs.declared.expression.Method.{Method}
use Rattle.typed_program.specs.declared.expression.Method.TheVariants as method
use Rattle.value_rules.specs.Costs.{cost_of}
use Rattle.action_host.specs.declared.host.Fault.{Fault}
use Rattle.action_host.specs.declared.host.Effect.{Effect}
use Rattle.action_host.specs.declared.host.Answer.{Answer}
use Rattle.action_host.specs.declared.host.Answer.TheVariants as answer
use Rattle.action_host.specs.Replies.{reply}
use Rattle.action_host.specs.Scenes.{Scene}
use Rattle.body_meaning.specs.declared.run.Frame.{Frame}
use Rattle.body_meaning.specs.Runs.{State, Did, Outcome, Went, Ended, M, behind, then_do, ◌>>=◌, ◌>>◌, pure, charge, charge_if, perform, settle, given, looked, look, by_scene, choose, all_behind, all, two}
use Rattle.body_meaning.specs.Values.{letters_of, truth_of, is_text, calculated, differ, bounded}
use Rattle.body_meaning.specs.Paths.{with_entry}
use Rattle.body_meaning.specs.Methods.{called, text_charged, value_charged, substring_charged, place_charged, quit, change_lost}
use Rattle.body_meaning.specs.Effects.{make, make_context, current}
use Rattle.body_meaning.specs.Expressions.{Linking, Pairing, Reach, or_from, and_from, xor_from, operate, links_from, entries_behind, reach_from}
use Rattle.walk_rules.specs.Ran.{did_of}

-- from no state does it change a variable
pub record Still {A : Type 0} (m : M A) : Type 0 where
  pub at : (s : State) → (did_of (m s)).frames ≡ []

-- ---- single steps

-- a value that is only told
pub still_pure : {A : Type 0} (x : A) → Still (pure x)
unfolding pure
still_pure x = record { at = λ s. refl }

looked_still : {A : Type 0} (r : Result A Fault) (s : State) → (did_of (looked r s)).frames ≡ []
looked_still (Ok x) s = refl
looked_still (Err fault) s = refl

-- what is computed from values
pub still_given : {A : Type 0} (r : Result A Fault) → Still (given r)
unfolding given
still_given r = record { at = looked_still r }

-- what is read from the variables
pub still_look : {A : Type 0} (f : Frame → A) → Still (look f)
unfolding look
still_look f = record { at = λ s. refl }

charge_still : (b : Bool) (amount : ℕ) (s : State) → (did_of (charge_if b amount s)).frames ≡ []
charge_still true amount s = refl
charge_still false amount s = refl

-- fuel
pub still_charge : (amount : ℕ) → Still (charge amount)
unfolding charge
still_charge amount = record { at = λ s. charge_still (nat_le amount s.scene.fuel) amount s }

settle_still : (a : Answer) (e : Effect) (s : State) → (did_of (settle a e s)).frames ≡ []
settle_still answer.Nothing e s = refl
settle_still (answer.Gives v) e s = refl
settle_still (answer.Fails fault) e s = refl

-- an effect
pub still_perform : (e : Effect) → Still (perform e)
unfolding perform
still_perform e = record { at = λ s. settle_still (reply e s.scene s.draws).answer e _ }

-- what the scene chooses
pub still_by_scene : {A : Type 0} (g : Scene → M A) → ((scene : Scene) → Still (g scene)) → Still (by_scene g)
unfolding by_scene
still_by_scene g h = record { at = λ s. (h s.scene).at s }

-- ---- one after another

behind_still : {A : Type 0} (before : Did) (o : Outcome A) → before.frames ≡ [] → (did_of o).frames ≡ [] → (did_of (behind before o)).frames ≡ []
behind_still before (Went did x s) a b = ap (λ l. l ++ did.frames) a ∙ b
behind_still before (Ended did why s) a b = ap (λ l. l ++ did.frames) a ∙ b

then_still : {A B : Type 0} (o : Outcome A) (go : A → M B) → (did_of o).frames ≡ [] → ((x : A) → Still (go x)) → (did_of (then_do o go)).frames ≡ []
then_still (Went did x s) go a h = behind_still did (go x s) a ((h x).at s)
then_still (Ended did why s) go a h = a

-- one run, and then the one that its value chooses
pub still_bind : {A B : Type 0} {m : M A} (go : A → M B) → Still m → ((x : A) → Still (go x)) → Still (m >>= go)
unfolding ◌>>=◌
still_bind {m = m} go a h = record { at = λ s. then_still (m s) go (a.at s) h }

-- one run, and then another
pub still_seq : {A B : Type 0} {m : M A} {n : M B} → Still m → Still n → Still (m >> n)
unfolding ◌>>◌
still_seq {m = m} {n} a b = record { at = λ s. then_still (m s) (λ _. n) (a.at s) (λ _. b) }

-- either of two
pub still_choose : {A : Type 0} (b : Bool) {m n : M A} → Still m → Still n → Still (choose b m n)
still_choose true p q = p
still_choose false p q = q

-- both
pub still_two : {A B : Type 0} {m : M A} {n : M B} → Still m → Still n → Still (two m n)
unfolding two
still_two a b = still_bind _ a (λ x. still_bind _ b (λ y. still_pure (x, y)))

-- ---- in a row

all_behind_still : {A : Type 0} (xs : List A) (ms : List (M A)) → AllByRecursion Still ms → Still (all_behind xs ms)
all_behind_still xs [] h = still_pure xs
all_behind_still xs (m ∷ ms) h = still_bind _ h.0 (λ x. all_behind_still (xs ++ x ∷ []) ms h.1)

-- all, from left to right
pub still_all : {A : Type 0} (ms : List (M A)) → AllByRecursion Still ms → Still (all ms)
still_all ms h = all_behind_still [] ms h

-- the operands of `or`
pub still_or : (ms : List (M Value)) (v : Value) → AllByRecursion Still ms → Still (or_from ms v)
still_or [] v h = still_pure v
still_or (m ∷ ms) v h = still_choose (truth_of v) (still_pure v) (still_bind _ h.0 (λ w. still_or ms w h.1))

-- the operands of `and`
pub still_and : (ms : List (M Value)) (v : Value) → AllByRecursion Still ms → Still (and_from ms v)
still_and [] v h = still_pure v
still_and (m ∷ ms) v h = still_choose (truth_of v) (still_bind _ h.0 (λ w. still_and ms w h.1)) (still_pure v)

-- the operands of `xor`
pub still_xor : (ms : List (M Value)) (v : Value) → AllByRecursion Still ms → Still (xor_from ms v)
still_xor [] v h = still_pure v
still_xor (m ∷ ms) v h = still_bind _ h.0 (λ w. still_xor ms (value.Boolean (differ (truth_of v) (truth_of w))) h.1)

-- ---- what is charged

-- a text that is charged
pub still_text : (text : List ℕ) → Still (text_charged text)
unfolding text_charged
still_text text = still_seq (still_charge _) (still_given (bounded text))

-- a value that is charged
pub still_value : (v : Value) → Still (value_charged v)
unfolding value_charged
still_value v = still_seq (still_charge (cost_of v)) (still_pure v)

-- an operator of two values
pub still_operate : (o : Operator) (v w : Value) → Still (operate o v w)
unfolding operate
still_operate o v w = still_choose (is_text v) (still_text (letters_of v ++ letters_of w)) (still_given (calculated o v w))

-- ---- operators with their operands, entries, steps

-- an operator whose operand changes no variable
pub record StillLink (l : Linking) : Type 0 where
  pub operand : Still l.operand

-- an entry whose key and value change no variable
pub record StillEntry (p : Pairing) : Type 0 where
  pub key : Still p.key
  pub value : Still p.value

-- a step that changes no variable, from any value
pub record StillStep (r : Reach) : Type 0 where
  pub from : (v : Value) → Still (r.from v)

-- operators with their operands
pub still_links : (ls : List Linking) (v : Value) → AllByRecursion StillLink ls → Still (links_from ls v)
still_links [] v h = still_pure v
still_links (l ∷ ls) v h = still_bind _ h.0.operand (λ w. still_bind _ (still_operate l.operator v w) (λ u. still_links ls u h.1))

-- the entries of a dictionary
pub still_entries : (pairs : List Pair) (ps : List Pairing) → AllByRecursion StillEntry ps → Still (entries_behind pairs ps)
still_entries pairs [] h = still_pure pairs
still_entries pairs (p ∷ ps) h = still_bind _ h.0.key (λ key. still_bind _ h.0.value (λ v. still_entries (with_entry key v pairs) ps h.1))

-- the steps behind a value
pub still_reach : (rs : List Reach) (v : Value) → AllByRecursion StillStep rs → Still (reach_from rs v)
still_reach [] v h = still_pure v
still_reach (r ∷ rs) v h = still_bind _ (h.0.from v) (λ w. still_reach rs w h.1)

-- ---- methods and contexts

still_lost : (m : Method) (arguments : List Value) (v : Value) → Still (change_lost m arguments v)
unfolding change_lost
still_lost m arguments v = still_seq (still_given _) (still_pure value.NoContext)

still_quit : (v : Value) → Still (quit v)
unfolding quit
still_quit v = still_perform _

still_substring : (v : Value) (arguments : List Value) → Still (substring_charged v arguments)
unfolding substring_charged
still_substring v arguments = still_bind _ (still_given _) (λ text. still_value (value.Text text))

still_place : (v : Value) (arguments : List Value) → Still (place_charged v arguments)
unfolding place_charged
still_place v arguments = still_seq (still_charge (cost_of v)) (still_pure _)

-- a method of a value, whatever it is, changes no variable
pub still_called : (types : List EventShape) (m : Method) (v : Value) (arguments : List Value) → Still (called types m v arguments)
still_called types method.ToString v arguments = still_text _
still_called types method.Length v arguments = still_pure _
still_called types method.Substring v arguments = still_substring v arguments
still_called types method.Size v arguments = still_pure _
still_called types method.IndexOf v arguments = still_place v arguments
still_called types method.HasKey v arguments = still_pure _
still_called types method.Keys v arguments = still_value _
still_called types method.Clone v arguments = still_value v
still_called types method.Quit v arguments = still_quit v
still_called types method.Append v arguments = still_lost method.Append arguments v
still_called types method.Remove v arguments = still_lost method.Remove arguments v
still_called types method.Clear v arguments = still_lost method.Clear arguments v
still_called types method.Add v arguments = still_lost method.Add arguments v

still_make : (name : Value) (public : Bool) → Still (make name public)
still_make name public = still_seq (still_by_scene _ (λ scene. still_charge _)) (still_perform _)

-- a context that is made
pub still_context : (arguments : List Value) → Still (make_context arguments)
unfolding make_context
still_context [] = still_pure value.NoContext
still_context (name ∷ []) = still_make name false
still_context (name ∷ public ∷ rest) = still_make name (truth_of public)

-- the context of a run
pub still_current : Still current
unfolding current
still_current = still_by_scene _ (λ scene. still_pure (value.Context scene.slot))
