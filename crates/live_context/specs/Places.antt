-- Where an instance or a listener is found.
use Rattle.std.specs.Prelude.{ℕ, List, Some, length, map, not, filter, slice_get, slice_set, ◌≡◌, ◌<◌}
use Rattle.std.specs.List.{find, remove}
use Rattle.epl_values.specs.declared.value.Value.{Value}
use Rattle.term_meaning.specs.UnderWay.{UnderWay}
use Rattle.context_meaning.specs.Contexts.{is_born, is_instance, put_expression, put_globals}
use Rattle.context_meaning.specs.Listeners.{Listener}
use Rattle.live_context.specs.Counts.{instances_in, with_count}
use Rattle.live_context.specs.declared.instances.LiveInstance.{LiveInstance}

-- the instance with a number stands at this place
pub record FoundAt (number : ℕ) (lives : List LiveInstance) (at : ℕ) : Type 0 where
  pub found : LiveInstance
  pub is : find (is_instance number) (instances_in lives) ≡ Some found.instance
  pub here : slice_get lives at ≡ Some found
  pub same : found.instance.number ≡ number
  pub below : at < length lives
  pub puts : (globals : List Value) → put_globals number globals (instances_in lives) ≡ slice_set (instances_in lives) at (record found.instance { globals = globals })
  pub counts : (n : ℕ) (count : ℕ → ℕ) → slice_set (map (λ i. count i.number) (instances_in lives)) at n ≡ map (λ i. with_count number n count i.number) (instances_in lives)
  pub removes : remove (instances_in lives) at ≡ filter (λ i. not (is_instance number i)) (instances_in lives)

-- the listener of a birth stands at this place
pub record BornAt (birth : ℕ) (listeners : List Listener) (at : ℕ) : Type 0 where
  pub found : Listener
  pub is : find (is_born birth) listeners ≡ Some found
  pub here : slice_get listeners at ≡ Some found
  pub below : at < length listeners
  pub puts : (expression : UnderWay) → put_expression birth expression listeners ≡ slice_set listeners at (record found { expression = expression })
  pub removes : remove listeners at ≡ filter (λ l. not (is_born birth l)) listeners
